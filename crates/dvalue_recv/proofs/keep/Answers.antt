use Rattle.std.specs.Prelude.{◌≡◌, ◌≢◌, ◌++◌, ◌+◌, ◌-◌, ◌*◌, ◌≤◌}
use Rattle.lists.specs.Kit.{sym, ap, ap₂, ◌∙◌, List, ℕ, arith, length, replicate}
use Rattle.rounds.specs.Area.{BITS, PERM, DS, at, keep, size_of}
use Rattle.rounds.specs.Mail.{letter}
use Rattle.rounds.specs.Buckets.{later}
use Rattle.buckets.specs.Given.{size-opened}
use Rattle.area.specs.Filled.{filled_none, filled-work, filled-other, filled-end, row_in, row-long, filled-turn}
use Rattle.dvalue_recv.specs.Opened.{d_row, length-d_row, ds-rows}
use Rattle.dvalue_recv.proofs.keep.Goals as goal
use Rattle.dvalue_recv.proofs.keep.Goals.{After-ds_row-row, In-loop-j, Start}

-- ---- of a call

full : (c : Start) → (c.args.f).l * later (c.args.f) ≡ size_of (c.args.f) DS
full c = sym (size-opened (c.args.f))

pub loop-j-init : goal.loop-j-init
loop-j-init c =
    (filled_none c.requires.work DS (later (c.args.f)) (omega arith) (d_row (c.args.f) (at (c.args.f) BITS c.args.work.now)
    (at (c.args.f) PERM c.args.work.now) (letter c.args.incoming.now c.args.mail)) (c.args.f).l (full (goal.at.loop-j-init c).Start))

-- ---- in a turn

inside : (c : In-loop-j) → (c.section_at-ds.result) + (c.loop-j.j) * (c.later-due.result) + (c.later-due.result) ≤ length (c.loop-j.work)
inside c =
    let full-here : (c.args.f).l * later (c.args.f) ≡ size_of (c.args.f) DS = sym (size-opened (c.args.f)) in
    row_in c.requires.work DS (later (c.args.f)) (omega arith) (d_row (c.args.f) (at (c.args.f) BITS c.args.work.now)
    (at (c.args.f) PERM c.args.work.now) (letter c.args.incoming.now c.args.mail)) (c.args.f).l (full-here) (c.loop-j.j)
    (c.loop-j.work) c.loop-j.invariant (c.section_at-ds.result) (c.later-due.result)
    c.section_at-ds.ensures c.later-due.ensures c.loop-j-test.true

same_at : (c : In-loop-j) → (s : ℕ) → s ≢ DS → at (c.args.f) s (c.loop-j.work) ≡ at (c.args.f) s c.args.work.now
same_at c =
    let full-here : (c.args.f).l * later (c.args.f) ≡ size_of (c.args.f) DS = sym (size-opened (c.args.f)) in
    filled-other c.requires.work DS (later (c.args.f)) (omega arith) (d_row (c.args.f) (at (c.args.f) BITS c.args.work.now)
    (at (c.args.f) PERM c.args.work.now) (letter c.args.incoming.now c.args.mail)) (c.args.f).l (full-here) (c.loop-j.j)
    (c.loop-j.work) c.loop-j.invariant

-- the row that is copied
row_is : (c : After-ds_row-row) → c.ds_row-row.result ≡ (d_row (c.args.f) (at (c.args.f) BITS c.args.work.now)
    (at (c.args.f) PERM c.args.work.now) (letter c.args.incoming.now c.args.mail)) (c.loop-j.j) ++ replicate (4 - later (c.args.f)) 0
row_is c =
    let same_at-here : (s : ℕ) → s ≢ DS → at (c.args.f) s (c.loop-j.work) ≡ at (c.args.f) s c.args.work.now = let full-here : (c.args.f).l
    * later (c.args.f) ≡ size_of (c.args.f) DS = sym (size-opened (c.args.f)) in
    filled-other c.requires.work DS (later (c.args.f)) (omega arith) (d_row (c.args.f) (at (c.args.f) BITS c.args.work.now)
    (at (c.args.f) PERM c.args.work.now) (letter c.args.incoming.now c.args.mail)) (c.args.f).l (full-here) (c.loop-j.j)
    (c.loop-j.work) c.loop-j.invariant in
    c.ds_row-row.ensures
    ∙ ap₂ (λ (x y : List ℕ). d_row (c.args.f) x y (letter c.args.incoming.now c.args.mail) (c.loop-j.j) ++ replicate
    (4 - later (c.args.f)) 0) (same_at-here BITS (λ e. omega arith))
    (same_at-here PERM (λ e. omega arith))

pub ds_row-row-requires : goal.ds_row-row-requires
ds_row-row-requires c =
    record {
      work = (
        filled-work c.requires.work DS (later (c.args.f)) (omega arith)
            (d_row (c.args.f) (at (c.args.f) BITS c.args.work.now) (at (c.args.f) PERM c.args.work.now)
            (letter c.args.incoming.now c.args.mail)) (c.args.f).l (full (goal.at.ds_row-row-requires c).Start) (c.loop-j.j) (c.loop-j.work)
            c.loop-j.invariant,
        c.loop-j-test.true,
      );
      place = (c.place-recs.ensures, c.place-perm.ensures);
      received = c.requires.received;
    }

pub overflow_mul-a : goal.overflow_mul-a
overflow_mul-a c = omega (arith, inside (goal.at.overflow_mul-a c).In-loop-j, c.loop-j.invariant.same, c.well_formed)

pub overflow_add-a : goal.overflow_add-a
overflow_add-a c = omega (arith, inside (goal.at.overflow_add-a c).In-loop-j, c.loop-j.invariant.same, c.well_formed)

pub overflow_add-e : goal.overflow_add-e
overflow_add-e c = omega (arith, inside (goal.at.overflow_add-e c).In-loop-j, c.loop-j.invariant.same, c.well_formed)

pub slice_bounds-copy-end : goal.slice_bounds-copy-end
slice_bounds-copy-end c = inside (goal.at.slice_bounds-copy-end c).In-loop-j

pub copy-requires : goal.copy-requires
copy-requires c =
    row-long c.requires.work DS (later (c.args.f)) (omega arith) (d_row (c.args.f) (at (c.args.f) BITS c.args.work.now)
    (at (c.args.f) PERM c.args.work.now) (letter c.args.incoming.now c.args.mail)) (c.args.f).l (full (goal.at.copy-requires c).Start)
    (c.loop-j.j) (c.loop-j.work) c.loop-j.invariant (c.section_at-ds.result) (c.later-due.result)
    c.section_at-ds.ensures c.later-due.ensures c.loop-j-test.true
    c.ds_row-row.result (replicate (4 - later (c.args.f)) 0) (c.loop-j.work) (row_is (goal.at.copy-requires c).After-ds_row-row)
    (length-d_row (c.args.f) (at (c.args.f) BITS c.args.work.now) (at (c.args.f) PERM c.args.work.now)
    (letter c.args.incoming.now c.args.mail) (c.loop-j.j))

pub loop-j-preserved : goal.loop-j-preserved
loop-j-preserved c = (filled-turn c.requires.work DS (later (c.args.f)) (omega arith)
    (d_row (c.args.f) (at (c.args.f) BITS c.args.work.now) (at (c.args.f) PERM c.args.work.now) (letter c.args.incoming.now c.args.mail))
    (c.args.f).l (full (goal.at.loop-j-preserved c).Start) (c.loop-j.j) (c.loop-j.work) c.loop-j.invariant (c.section_at-ds.result)
    (c.later-due.result)
    c.section_at-ds.ensures c.later-due.ensures c.loop-j-test.true
    c.ds_row-row.result (replicate (4 - later (c.args.f)) 0) c.copy.new.out (row_is (goal.at.loop-j-preserved c).After-ds_row-row)
    (length-d_row (c.args.f) (at (c.args.f) BITS c.args.work.now) (at (c.args.f) PERM c.args.work.now)
    (letter c.args.incoming.now c.args.mail) (c.loop-j.j)) c.copy.ensures)

pub shape_of-work : goal.shape_of-work
shape_of-work c = c.loop-j.invariant.same

pub returns : goal.returns
returns c =
    filled-end c.requires.work DS (later (c.args.f)) (omega arith) (d_row (c.args.f) (at (c.args.f) BITS c.args.work.now)
    (at (c.args.f) PERM c.args.work.now) (letter c.args.incoming.now c.args.mail)) (c.args.f).l (full (goal.at.returns c).Start)
    c.loop-j.j c.loop-j.work c.loop-j.invariant (omega arith)
    ∙ ap (λ (x : List ℕ). keep (c.args.f) DS x c.args.work.now) (ds-rows (c.args.f) (at (c.args.f) BITS c.args.work.now)
    (at (c.args.f) PERM c.args.work.now) (letter c.args.incoming.now c.args.mail))

pub place-recs-requires : goal.place-recs-requires
place-recs-requires c = (c.requires.work.ranges.range, omega arith)

pub place-perm-requires : goal.place-perm-requires
place-perm-requires c = (c.requires.work.ranges.range, omega arith)

pub section_at-ds-requires : goal.section_at-ds-requires
section_at-ds-requires c = record { in_range = c.requires.work.ranges.range; s_bound = omega arith }
