use Rattle.std.specs.Prelude.{◌≡◌, ◌+◌, ◌-◌, ◌*◌, ◌≤◌}
use Rattle.lists.specs.Kit.{refl, sym, ap, ◌∙◌, List, ℕ, arith, length, rules}
use Rattle.rounds.specs.Area.{PAIRS, PAIRWISE, sizes, size_of, at, keep}
use Rattle.rounds.specs.Mail.{letter}
use Rattle.rounds.specs.Loops.{row_of, rows_of}
use Rattle.rounds.specs.Toss.{pairwise_seeds}
use Rattle.area.specs.GivenLaws.{lent_length}
use Rattle.area.specs.Sizes.{size-pairs}
use Rattle.area.specs.Filled.{filled_none, filled-work, filled-other, filled-end, row_in, filled_put}
use Rattle.toss_recv.proofs.keep_pairwise.Goals as goal
use Rattle.toss_recv.proofs.keep_pairwise.Invariants.{seed_of, row}
use Rattle.toss_recv.proofs.keep_pairwise.Goals.{After-pair_seed-row, After-section, In-loop-k, Start}

-- ---- of a call

full : (c : Start) → (c.args.f).n * 32 ≡ size_of (c.args.f) PAIRWISE
unfolding size_of sizes
full c = refl

pub loop-k-init : goal.loop-k-init
loop-k-init c =
    (filled_none c.requires.work PAIRWISE 32 (omega arith) (row (c.args.f) c.args.work.now (letter c.args.incoming.now c.args.mail))
    (c.args.f).n (full (goal.at.loop-k-init c).Start))

-- ---- in a turn

inside : (c : In-loop-k) → (c.section_at-rows_at.result) + (c.loop-k.k) * 32 + 32 ≤ length (c.loop-k.work)
unfolding size_of sizes
inside c =
    let full-here : (c.args.f).n * 32 ≡ size_of (c.args.f) PAIRWISE = refl in
    row_in c.requires.work PAIRWISE 32 (omega arith) (row (c.args.f) c.args.work.now (letter c.args.incoming.now c.args.mail))
    (c.args.f).n (full-here) (c.loop-k.k) (c.loop-k.work) c.loop-k.invariant (c.section_at-rows_at.result) 32
    c.section_at-rows_at.ensures refl c.loop-k-test.true

same-seeds : (c : In-loop-k) → at (c.args.f) PAIRS (c.loop-k.work) ≡ at (c.args.f) PAIRS c.args.work.now
unfolding size_of sizes
same-seeds c =
    let full-here : (c.args.f).n * 32 ≡ size_of (c.args.f) PAIRWISE = refl in
    filled-other c.requires.work PAIRWISE 32 (omega arith) (row (c.args.f) c.args.work.now (letter c.args.incoming.now c.args.mail))
    (c.args.f).n (full-here) (c.loop-k.k) (c.loop-k.work) c.loop-k.invariant PAIRS
    (λ e. omega arith)

pub section-requires : goal.section-requires
section-requires c = (
  filled-work c.requires.work PAIRWISE 32 (omega arith) (row (c.args.f) c.args.work.now (letter c.args.incoming.now c.args.mail))
      (c.args.f).n (full (goal.at.section-requires c).Start) (c.loop-k.k) (c.loop-k.work) c.loop-k.invariant,
  omega arith,
)

-- what is lent are the own seeds of the work area at entry
seeds : (c : After-section) → c.section.result.now ≡ at (c.args.f) PAIRS c.args.work.now
unfolding size_of sizes
seeds c =
    let same-seeds-here : at (c.args.f) PAIRS (c.loop-k.work) ≡ at (c.args.f) PAIRS c.args.work.now = let full-here : (c.args.f).n * 32 ≡
    size_of (c.args.f) PAIRWISE = refl in
    filled-other c.requires.work PAIRWISE 32 (omega arith) (row (c.args.f) c.args.work.now (letter c.args.incoming.now c.args.mail))
    (c.args.f).n (full-here) (c.loop-k.k) (c.loop-k.work) c.loop-k.invariant PAIRS
    (λ e. omega arith) in
    c.section.ensures ∙ same-seeds-here

pub pair_seed-row-requires : goal.pair_seed-row-requires
pair_seed-row-requires c =
    let fits = lent_length c.requires.work PAIRS _ _ (omega arith) (size-pairs (c.args.f))
    (seeds (goal.at.pair_seed-row-requires c).After-section) in
    record {
      n_bound = (c.requires.work.ranges.range.eight, (c.requires.work.ranges.own, (c.loop-k-test.true, fits)));
      arrived =
          c.requires.arrived;
    }

-- the row that is copied
row_is : (c : After-pair_seed-row) → c.pair_seed-row.result ≡ (row (c.args.f) c.args.work.now (letter c.args.incoming.now c.args.mail))
    (c.loop-k.k)
unfolding size_of sizes
row_is c =
    let seeds-here : c.section.result.now ≡ at (c.args.f) PAIRS c.args.work.now = let same-seeds-here : at (c.args.f) PAIRS
    (c.loop-k.work) ≡ at (c.args.f) PAIRS c.args.work.now = let full-here : (c.args.f).n * 32 ≡ size_of (c.args.f) PAIRWISE = refl in
    filled-other c.requires.work PAIRWISE 32 (omega arith) (row (c.args.f) c.args.work.now (letter c.args.incoming.now c.args.mail))
    (c.args.f).n (full-here) (c.loop-k.k) (c.loop-k.work) c.loop-k.invariant PAIRS
    (λ e. omega arith) in
    c.section.ensures ∙ same-seeds-here in
    c.pair_seed-row.ensures ∙ ap (λ (x : List ℕ). row_of (c.args.f).i 32 (seed_of x (letter c.args.incoming.now c.args.mail))
    (c.loop-k.k)) (seeds-here)

row-long : (c : After-pair_seed-row) → length c.pair_seed-row.result ≡ 32
row-long c = search rules

pub overflow_add-a : goal.overflow_add-a
overflow_add-a c = omega (arith, inside (goal.at.overflow_add-a c).In-loop-k, c.loop-k.invariant.same, c.well_formed)

pub overflow_add-e : goal.overflow_add-e
overflow_add-e c = omega (arith, inside (goal.at.overflow_add-e c).In-loop-k, c.loop-k.invariant.same, c.well_formed)

pub slice_bounds-copy_from_slice-end : goal.slice_bounds-copy_from_slice-end
slice_bounds-copy_from_slice-end c = inside (goal.at.slice_bounds-copy_from_slice-end c).In-loop-k

pub loop-k-preserved : goal.loop-k-preserved
loop-k-preserved c =
    let o = (c.section_at-rows_at.result) + (c.loop-k.k) * 32 in (
    filled_put c.requires.work PAIRWISE 32 (omega arith) (row (c.args.f) c.args.work.now (letter c.args.incoming.now c.args.mail))
    (c.args.f).n (full (goal.at.loop-k-preserved c).Start) (c.loop-k.k) (c.loop-k.work) c.loop-k.invariant
    (c.section_at-rows_at.result) 32
    c.section_at-rows_at.ensures refl c.loop-k-test.true c.copy_from_slice.new.self
    (c.copy_from_slice.ensures.after ∙ row_is (goal.at.loop-k-preserved c).After-pair_seed-row)
    (sym (ap length (row_is (goal.at.loop-k-preserved c).After-pair_seed-row)) ∙ row-long (goal.at.loop-k-preserved c).After-pair_seed-row)
    )

pub shape_of-work : goal.shape_of-work
shape_of-work c = c.loop-k.invariant.same

pub returns : goal.returns
unfolding pairwise_seeds
returns c =
    filled-end c.requires.work PAIRWISE 32 (omega arith) (row (c.args.f) c.args.work.now (letter c.args.incoming.now c.args.mail))
    (c.args.f).n (full (goal.at.returns c).Start) c.loop-k.k c.loop-k.work c.loop-k.invariant (omega arith)
    ∙ ap (λ (x : List ℕ). keep (c.args.f) PAIRWISE x c.args.work.now) (rows_of (c.args.f) 32
    (seed_of (at (c.args.f) PAIRS c.args.work.now) (letter c.args.incoming.now c.args.mail)))
