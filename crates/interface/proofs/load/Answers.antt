use Rattle.lists.specs.Kit.{refl, ap, ◌∙◌, List, ℕ, arith, length, get_or, drop}
use Rattle.batches.specs.BatchLaws.{length-tally}
use Rattle.engine.specs.declared.Session.{Session}
use Rattle.interface.specs.Interface.{COUNTS, session_at}
use Rattle.interface.specs.InterfaceLaws.{loaded}
use Rattle.interface.proofs.load.Goals as goal

pub overflow_cast-party : goal.overflow_cast-party
overflow_cast-party c = omega (arith, c.shared_slice_known-2-1.given 0)

pub overflow_cast-party-2 : goal.overflow_cast-party-2
overflow_cast-party-2 c = omega (arith, c.shared_slice_known-3-1.given 1)

pub overflow_cast-party-3 : goal.overflow_cast-party-3
overflow_cast-party-3 c = omega (arith, c.shared_slice_known-4-1.given 2)

pub overflow_cast-result : goal.overflow_cast-result
overflow_cast-result c = omega (arith, c.shared_slice_known-5-1.given 3)

pub returns : goal.returns
unfolding session_at
returns c =
    let s = c.args.s.now in
    let e = loaded s c.kept-counts.result _ c.requires refl c.kept-counts.ensures in (
      ap (λ (n : List ℕ). let r : Session = record {
        party = record { n = get_or s 0 0; i = get_or s 1 0; l = get_or s 2 0 };
        due = get_or s 3 0;
        counts = n;
      } in r) e,
      record {
        n-fits = (c.shared_slice_known-2-1.given 0).fits;
        i-fits = (c.shared_slice_known-3-1.given 1).fits;
        l-fits = (c.shared_slice_known-4-1.given 2).fits;
        due-fits = (c.shared_slice_known-5-1.given 3).fits;
        counts-fit = ap length e ∙ length-tally (drop COUNTS s);
      },
    )
