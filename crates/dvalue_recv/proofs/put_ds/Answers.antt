use Rattle.std.specs.Prelude.{◌≡◌, ◌++◌, ◌+◌, ◌-◌}
use Rattle.lists.specs.Kit.{refl, sym, ap, ◌∙◌, List, ℕ, arith, drop, set}
use lib.ListN.{length-set}
use Rattle.lists.specs.Over.{tab, tab-zero, tab-step, tab-end}
use Rattle.algebra.specs.Group.{num}
use Rattle.rounds.specs.Buckets.{later, d_opened}
use Rattle.dvalue_recv.specs.Opened.{d_row}
use Rattle.dvalue_recv.proofs.put_ds.Goals as goal
use Rattle.dvalue_recv.proofs.put_ds.Invariants.{bit}

pub loop-e-init : goal.loop-e-init
loop-e-init c = (refl, tab-zero _ _)

pub d_opened-requires : goal.d_opened-requires
d_opened-requires c =
    record {
      ranged = (
        c.requires.ranged.0,
        c.requires.ranged.1,
        omega (
          arith,
          c.loop-e-test.true,
          c.loop-e.invariant.0,
          c.requires.ranged.2,
        ),
      );
      permuted = c.requires.permuted;
      received = c.requires.received;
    }

pub loop-e-preserved : goal.loop-e-preserved
loop-e-preserved c =
    let g : ℕ → ℕ = bit c.args.recs.now c.args.perm.now c.args.incoming.now c.args.mail c.args.f c.args.j in
    let e : c.bit_byte.result ≡ g c.loop-e.e = c.bit_byte.ensures ∙ ap num c.d_opened.ensures in (
      length-set c.loop-e.row c.loop-e.e c.bit_byte.result ∙ c.loop-e.invariant.0,
      ap (λ (x : List ℕ). set x c.loop-e.e c.bit_byte.result) c.loop-e.invariant.1
          ∙ ap (set (tab c.loop-e.e g ++ drop c.loop-e.e c.args.row.now) c.loop-e.e) e
          ∙ tab-step c.loop-e.e g c.args.row.now (omega (arith, c.loop-e-test.true, c.loop-e.invariant.0)),
    )

pub shape_of-row : goal.shape_of-row
shape_of-row c = c.loop-e.invariant.0

pub returns : goal.returns
unfolding d_row
returns c =
    tab-end c.loop-e.e (later c.args.f) (bit c.args.recs.now c.args.perm.now c.args.incoming.now c.args.mail c.args.f c.args.j)
    c.args.row.now c.loop-e.row
    c.loop-e.invariant.1
    (omega (arith, c.loop-e-test.false, c.loop-e.invariant.0, c.requires.ranged.2)) (sym c.requires.ranged.2)
