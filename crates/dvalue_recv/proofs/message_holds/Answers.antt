use Rattle.std.specs.Prelude.{◌≡◌, ◌-◌}
use Rattle.lists.specs.Kit.{sym, ap, ◌∙◌, arith, rules}
use Rattle.lists.specs.All.{all_of, all-zero, all_more}
use Rattle.dvalue_recv.specs.Checks.{bucket_holds, message_holds}
use Rattle.dvalue_recv.proofs.message_holds.Goals as goal

pub loop-j-init : goal.loop-j-init
loop-j-init c = (sym (all-zero _))

pub bucket_holds-ok-requires : goal.bucket_holds-ok-requires
bucket_holds-ok-requires c =
    record {
      ranged = c.requires.ranged;
      permuted = c.requires.permuted;
      j_lt_l =
          (c.loop-j-test.true, c.requires.k_lt_n.0, c.requires.k_lt_n.1);
    }

pub loop-j-preserved : goal.loop-j-preserved
loop-j-preserved c = (all_more (bucket_holds c.args.f c.args.delta.0 c.args.recs.now c.args.perm.now c.args.m.now c.args.k) c.loop-j.j
    c.loop-j.ok _ c.loop-j.invariant
    c.bucket_holds-ok.ensures)

pub returns : goal.returns
unfolding message_holds
returns c =
    c.loop-j.invariant ∙ ap (λ j. all_of j (bucket_holds c.args.f c.args.delta.0 c.args.recs.now c.args.perm.now c.args.m.now c.args.k))
    (let e : c.loop-j.j ≡ c.args.f.l = omega arith in e)
