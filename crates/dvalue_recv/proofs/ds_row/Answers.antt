use Rattle.std.specs.Prelude.{◌≡◌, ◌++◌, ◌-◌, ◌≤◌}
use Rattle.lists.specs.Kit.{sym, ap, ap₂, ◌∙◌, List, ℕ, arith, replicate}
use lib.Seq.{length-take-le}
use Rattle.lists.specs.Over.{drop-replicate}
use Rattle.rounds.specs.Area.{BITS, PERM, at}
use Rattle.rounds.specs.Mail.{letter}
use Rattle.area.specs.GivenLaws.{place_at, place-fits}
use Rattle.buckets.specs.Given.{lent_is}
use Rattle.buckets.specs.Entries.{later-most}
use Rattle.dvalue_recv.specs.Opened.{d_row}
use Rattle.dvalue_recv.proofs.ds_row.Goals as goal
use Rattle.dvalue_recv.proofs.ds_row.Goals.{After-later-due, After-lent-numbers}

few : (c : After-later-due) → c.later-due.result ≤ 4
few c = omega (arith, c.later-due.ensures, later-most c.args.f)

pub lent-records-requires : goal.lent-records-requires
lent-records-requires c = place-fits c.requires.work.0 BITS _ _ (omega arith) c.requires.place.0

pub lent-numbers-requires : goal.lent-numbers-requires
lent-numbers-requires c = place-fits c.requires.work.0 PERM _ _ (omega arith) c.requires.place.1

-- what is lent are the sections

recs-are : (c : After-lent-numbers) → c.lent-records.result.now ≡ at c.args.f BITS c.args.work.now
recs-are c = c.lent-records.ensures ∙ place_at c.args.f BITS _ _ c.requires.place.0 c.args.work.now

perm_is : (c : After-lent-numbers) → c.lent-numbers.result.now ≡ at c.args.f PERM c.args.work.now
perm_is c = c.lent-numbers.ensures ∙ place_at c.args.f PERM _ _ c.requires.place.1 c.args.work.now

pub slice_bounds-put_ds-end : goal.slice_bounds-put_ds-end
slice_bounds-put_ds-end c = sym (length-take-le c.later-due.result (replicate 4 0)
    (few (goal.at.slice_bounds-put_ds-end c).After-later-due))

pub put_ds-requires : goal.put_ds-requires
put_ds-requires c =
    record {
      ranged = (
        c.requires.work.0.ranges,
        c.requires.work.1,
        length-take-le c.later-due.result (replicate 4 0)
            (few (goal.at.put_ds-requires c).After-later-due) ∙ c.later-due.ensures,
      );
      permuted = lent_is c.requires.work.0
          (recs-are (goal.at.put_ds-requires c).After-lent-numbers) (perm_is (goal.at.put_ds-requires c).After-lent-numbers);
      received =
          c.requires.received;
    }

pub returns : goal.returns
returns c =
    let m : ℕ → List ℕ = letter c.args.incoming.now c.args.mail in
    ap₂ ◌++◌ (c.put_ds.ensures ∙ ap₂ (λ (x y : List ℕ). d_row c.args.f x y m c.args.j) (recs-are (goal.at.returns c).After-lent-numbers)
    (perm_is (goal.at.returns c).After-lent-numbers))
    (drop-replicate c.later-due.result 4 0 ∙ ap (λ k. replicate (4 - k) 0) c.later-due.ensures)

pub slice_bounds-row-end : goal.slice_bounds-row-end
slice_bounds-row-end c = few (goal.at.slice_bounds-row-end c).After-later-due
