use Rattle.std.specs.Prelude.{◌≡◌, ◌-◌}
use Rattle.lists.specs.Kit.{sym, ap, ◌∙◌, arith}
use Rattle.lists.specs.All.{all_of, all-zero, all_more}
use Rattle.faand_recv.specs.CheckLaws.{holds}
use Rattle.faand_recv.proofs.message_holds.Goals as goal

-- whether bucket j holds

pub loop-j-init : goal.loop-j-init
loop-j-init c = (sym (all-zero _))

pub item_holds-ok-requires : goal.item_holds-ok-requires
item_holds-ok-requires c =
    record { work = (c.requires.work.0, c.loop-j-test.true, c.requires.work.1); k_lt_n = c.requires.k_lt_n }

pub loop-j-preserved : goal.loop-j-preserved
loop-j-preserved c =
    (all_more (holds c.args.f c.args.delta.0 c.args.work.now c.args.m.now c.args.k) c.loop-j.j c.loop-j.ok _ c.loop-j.invariant c.item_holds-ok.ensures)

pub returns : goal.returns
returns c =
    c.loop-j.invariant ∙ ap (λ j. all_of j (holds c.args.f c.args.delta.0 c.args.work.now c.args.m.now c.args.k)) (let e : c.loop-j.j ≡ c.args.f.l = omega arith in e)
