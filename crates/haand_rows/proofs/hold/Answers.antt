use Rattle.std.specs.Prelude.{◌≡◌, ◌++◌, ◌+◌, ◌-◌, ◌*◌, ◌≤◌}
use Rattle.lists.specs.Kit.{refl, sym, ap, ap₂, ◌∙◌, List, ℕ, arith, length, take, drop}
use native.Mathlib.Nat.{add-mul, mul-le-mul_right, zero-mul}
use lib.Seq.{length-take-le}
use borrow.Rule.Slice.PartMut.{post_of}
use Rattle.lists.specs.Over.{cat, length-cat}
use Rattle.lists.specs.Sect.{get, length-put}
use Rattle.block.specs.declared.Block.{Block}
use Rattle.plan.specs.Plan.{leaky}
use Rattle.rounds.specs.Area.{BITS, LEAKY, SECTIONS, leaky_len, size_of, at, keep}
use Rattle.rounds.specs.Loops.{lent-part, keeping_none, keeping-more, keeping-end, keeping-other}
use Rattle.rounds.specs.Table as Table
use Rattle.rounds.specs.Haand as R
use Rattle.rounds.specs.HaandLaws.{length-leaky_row}
use Rattle.area.specs.GivenLaws.{area, place_at, place_in, lent_length, rows_inside}
use Rattle.area.specs.Sizes.{size-bits, size-leaky}
use Rattle.haand_hash.specs.WindowLaws.{window-copied}
use Rattle.haand_rows.specs.Parts.{rows_fit}
use Rattle.haand_rows.proofs.hold.Goals as goal
use Rattle.haand_rows.proofs.hold.Goals.{After-put_window, After-window-m, Start}

-- ---- of a call

long : (c : Start) → (t m : ℕ) → length (cat m (λ q. (R.leaky_row (c.args.f) (Table.delta (c.args.f) c.args.work.now) (at
    (c.args.f) BITS c.args.work.now)) (t + q))) ≡ m * (leaky_len (c.args.f).n)
long c t m = length-cat m (leaky_len (c.args.f).n) (λ q. (R.leaky_row (c.args.f) (Table.delta (c.args.f) c.args.work.now) (at
    (c.args.f) BITS c.args.work.now)) (t + q)) (λ q h. length-leaky_row (c.args.f) (Table.delta (c.args.f) c.args.work.now) (at
    (c.args.f) BITS c.args.work.now) (t + q))

pub loop-t-init : goal.loop-t-init
loop-t-init c = (
  omega arith,
  refl,
  rw zero-mul (keeping_none (size_of (c.args.f)) SECTIONS LEAKY (omega arith) c.args.work.now (area c.requires)
      (R.leaky_row (c.args.f) (Table.delta (c.args.f) c.args.work.now) (at (c.args.f) BITS c.args.work.now))),
)

pub overflow_sub-count : goal.overflow_sub-count
overflow_sub-count c = omega (arith, c.loop-t.invariant.0, c.leaky-count.ensures)

pub window-m-requires : goal.window-m-requires
window-m-requires c =
    record {
      le_n = (c.requires.ranges.range.two, (c.requires.ranges.range.eight, omega arith));
      left_nonzero = omega (
        arith,
        c.loop-t-test.true,
      );
    }

-- ---- in a turn

some : (c : After-window-m) → (c.loop-t.t) + (c.window-m.result) ≤ leaky (c.args.f).l
some c = omega (arith, c.window-m.ensures.1, c.loop-t-test.true, c.leaky-count.ensures)

len_is : (c : After-window-m) → (c.leaky_len-len.result) ≡ (leaky_len (c.args.f).n)
len_is c = c.leaky_len-len.ensures

size_is : (c : After-window-m) → (c.window-m.result) * (c.leaky_len-len.result) ≡ (c.window-m.result) * (leaky_len (c.args.f).n)
size_is c = ap (λ k. (c.window-m.result) * k) (len_is c)

room : (c : After-window-m) → (c.window-m.result) * (c.leaky_len-len.result) ≤ 2176
room c = omega (arith, size_is c, rows_fit (c.args.f).n (c.window-m.result) c.requires.ranges.range.two c.window-m.ensures.2)

records-in : (c : After-window-m) → (c.place-recs.result.1) ≤ length (c.loop-t.work)
records-in c =
    omega (
      arith,
      place_in c.requires BITS (c.place-recs.result.0) (c.place-recs.result.1) (omega arith) c.place-recs.ensures,
      c.loop-t.invariant.2.same,
    )

records : (c : After-window-m) → get (c.place-recs.result.0) ((c.place-recs.result.1) - (c.place-recs.result.0)) (c.loop-t.work)
    ≡ at (c.args.f) BITS c.args.work.now
unfolding at
records c =
    place_at (c.args.f) BITS (c.place-recs.result.0) (c.place-recs.result.1) c.place-recs.ensures (c.loop-t.work)
    ∙ keeping-other (size_of (c.args.f)) SECTIONS LEAKY (omega arith) c.args.work.now (area c.requires) (R.leaky_row (c.args.f)
    (Table.delta (c.args.f) c.args.work.now) (at (c.args.f) BITS c.args.work.now)) (c.loop-t.t) ((c.loop-t.t) * (leaky_len
    (c.args.f).n)) BITS
    (c.loop-t.work) c.loop-t.invariant.2 (λ p. omega arith)

rows_in : (c : After-window-m) → (c.section_at-rows.result) + (c.loop-t.t) * (c.leaky_len-len.result) + (c.window-m.result) *
    (c.leaky_len-len.result) ≤ length (c.loop-t.work)
rows_in c =
    omega (
      arith,
      rows_inside c.requires LEAKY (c.section_at-rows.result) (leaky (c.args.f).l) (leaky_len (c.args.f).n) (c.loop-t.t)
          (c.window-m.result) (omega arith)
          c.section_at-rows.ensures (sym (size-leaky (c.args.f))) (some c),
      c.loop-t.invariant.2.same,
      ap (λ k. (c.loop-t.t) * k) (len_is c),
      size_is c,
    )

lent : (c : After-window-m) → let p = (c.section_at-rows.result) + (c.loop-t.t) * (c.leaky_len-len.result) in
    length (take (p + (c.window-m.result) * (c.leaky_len-len.result) - p) (drop p (c.loop-t.work)))
    ≡ (c.window-m.result) * (leaky_len (c.args.f).n)
lent c = lent-part ((c.section_at-rows.result) + (c.loop-t.t) * (c.leaky_len-len.result)) ((c.window-m.result) * (c.leaky_len-len.result))
    ((c.window-m.result) * (leaky_len (c.args.f).n)) (c.loop-t.work) (size_is c) (rows_in c)

pub put_window-requires : goal.put_window-requires
put_window-requires c = (
  record {
    ranges = c.requires.ranges;
    records = lent_length c.requires BITS _ _ (omega arith) (size-bits (c.args.f)) (records (goal.at.put_window-requires c).After-window-m);
    below = some (goal.at.put_window-requires c).After-window-m;
  },
  c.window-m.ensures.2,
  length-take-le ((c.window-m.result) * (c.leaky_len-len.result) - 0) c.loop-t.made (omega (
    arith,
    room (goal.at.put_window-requires c).After-window-m,
    c.loop-t.invariant.1,
  )) ∙
      (let q : (c.window-m.result) * (c.leaky_len-len.result) - 0 ≡ (c.window-m.result) * (leaky_len (c.args.f).n) = omega (
        arith,
        size_is (goal.at.put_window-requires c).After-window-m,
      ) in q),
)

-- the rows of the window, in front of the buffer

made-is : (c : After-put_window) → c.put_window.new.out
    ≡ cat (c.window-m.result) (λ q. (R.leaky_row (c.args.f) (Table.delta (c.args.f) c.args.work.now) (at (c.args.f) BITS c.args.work.now))
    ((c.loop-t.t) + q))
unfolding at
made-is c =
    let records-here : get (c.place-recs.result.0) ((c.place-recs.result.1) - (c.place-recs.result.0)) (c.loop-t.work)
    ≡ at (c.args.f) BITS c.args.work.now =
    place_at (c.args.f) BITS (c.place-recs.result.0) (c.place-recs.result.1) c.place-recs.ensures (c.loop-t.work)
    ∙ keeping-other (size_of (c.args.f)) SECTIONS LEAKY (omega arith) c.args.work.now (area c.requires) (R.leaky_row (c.args.f)
    (Table.delta (c.args.f) c.args.work.now) (at (c.args.f) BITS c.args.work.now)) (c.loop-t.t) ((c.loop-t.t) * (leaky_len
    (c.args.f).n)) BITS
    (c.loop-t.work) c.loop-t.invariant.2 (λ p. omega arith) in
    c.put_window.ensures
    ∙ ap₂ (λ (d : Block) (r : List ℕ). cat (c.window-m.result) (λ q. R.leaky_row (c.args.f) d r ((c.loop-t.t) + q)))
    c.delta-delta.ensures (records-here)

still : (c : After-put_window) → length (c.put_window.new.out ++ post_of 0 ((c.window-m.result) * (c.leaky_len-len.result) - 0)
    (c.loop-t.made)) ≡ 2176
still c =
    let long-here : (t m : ℕ) → length (cat m (λ q. (R.leaky_row (c.args.f) (Table.delta (c.args.f) c.args.work.now) (at
    (c.args.f) BITS c.args.work.now)) (t + q))) ≡ m * (leaky_len (c.args.f).n) =
    λ t m. length-cat m (leaky_len (c.args.f).n) (λ q. (R.leaky_row (c.args.f) (Table.delta (c.args.f) c.args.work.now) (at
    (c.args.f) BITS c.args.work.now)) (t + q)) (λ q h. length-leaky_row (c.args.f) (Table.delta (c.args.f) c.args.work.now) (at
    (c.args.f) BITS c.args.work.now) (t + q)) in
    let len_is-here : (c.leaky_len-len.result) ≡ (leaky_len (c.args.f).n) = c.leaky_len-len.ensures in
    let size_is-here : (c.window-m.result) * (c.leaky_len-len.result) ≡ (c.window-m.result) * (leaky_len (c.args.f).n) =
    ap (λ k. (c.window-m.result) * k) (len_is-here) in
    let len_is-here : (c.leaky_len-len.result) ≡ (leaky_len (c.args.f).n) = c.leaky_len-len.ensures in
    let size_is-here : (c.window-m.result) * (c.leaky_len-len.result) ≡ (c.window-m.result) * (leaky_len (c.args.f).n) =
    ap (λ k. (c.window-m.result) * k) (len_is-here) in
    let room-here : (c.window-m.result) * (c.leaky_len-len.result) ≤ 2176 = omega (
      arith,
      size_is-here,
      rows_fit (c.args.f).n (c.window-m.result) c.requires.ranges.range.two c.window-m.ensures.2,
    ) in
    length-put 0 ((c.window-m.result) * (c.leaky_len-len.result) - 0) c.put_window.new.out (c.loop-t.made)
    (ap length (made-is c) ∙ long-here (c.loop-t.t) (c.window-m.result)
    ∙ (let q : (c.window-m.result) * (leaky_len (c.args.f).n) ≡ (c.window-m.result) * (c.leaky_len-len.result) - 0 = omega
    (arith, size_is-here) in q))
    (omega (arith, room-here, c.loop-t.invariant.1))
    ∙ c.loop-t.invariant.1

pub copy_from_slice-requires : goal.copy_from_slice-requires
copy_from_slice-requires c =
    let q : c.window-m.result * c.leaky_len-len.result - 0 ≡ c.window-m.result * leaky_len (c.args.f).n = omega (
      arith,
      size_is (goal.at.copy_from_slice-requires c).After-window-m,
    ) in
    lent (goal.at.copy_from_slice-requires c).After-window-m
    ∙ sym (length-take-le (c.window-m.result * c.leaky_len-len.result - 0) (c.put_window.new.out ++ post_of 0 (c.window-m.result *
    c.leaky_len-len.result - 0) c.loop-t.made) (omega (
      arith,
      room (goal.at.copy_from_slice-requires c).After-window-m,
      still (goal.at.copy_from_slice-requires c).After-put_window,
    )) ∙ q)

pub loop-t-preserved : goal.loop-t-preserved
loop-t-preserved c =
    let p = (c.section_at-rows.result) + (c.loop-t.t) * (c.leaky_len-len.result) in (
      some (goal.at.loop-t-preserved c).After-window-m,
      still (goal.at.loop-t-preserved c).After-put_window,
      keeping-more (size_of (c.args.f)) SECTIONS LEAKY (omega arith) c.args.work.now (area c.requires) (R.leaky_row (c.args.f) (Table.delta
          (c.args.f) c.args.work.now) (at (c.args.f) BITS c.args.work.now)) (c.loop-t.t) (c.window-m.result) ((c.loop-t.t) * (leaky_len
          (c.args.f).n)) ((c.window-m.result) * (leaky_len (c.args.f).n)) p
          (p + (c.window-m.result) * (c.leaky_len-len.result)) (((c.loop-t.t) + (c.window-m.result)) * (leaky_len (c.args.f).n))
          (c.loop-t.work) c.copy_from_slice.new.self c.loop-t.invariant.2
          (window-copied _ ((c.window-m.result) * (leaky_len (c.args.f).n)) c.copy_from_slice.new.self c.put_window.new.out _ (cat
          (c.window-m.result) (λ q. (R.leaky_row (c.args.f) (Table.delta (c.args.f) c.args.work.now) (at
          (c.args.f) BITS c.args.work.now)) ((c.loop-t.t) + q)))
          c.copy_from_slice.ensures.after (made-is (goal.at.loop-t-preserved c).After-put_window) (long (goal.at.loop-t-preserved
          c).Start (c.loop-t.t)
          (c.window-m.result))
          (let q : (c.window-m.result) * (c.leaky_len-len.result) - 0
          ≡ (c.window-m.result) * (leaky_len (c.args.f).n) = omega (arith, size_is (goal.at.loop-t-preserved c).After-window-m) in q))
          (long (goal.at.loop-t-preserved c).Start (c.loop-t.t) (c.window-m.result)) (ap₂ (λ a k. a +
          (c.loop-t.t) * k) c.section_at-rows.ensures (len_is (goal.at.loop-t-preserved c).After-window-m))
          (ap (λ k. p + k) (size_is (goal.at.loop-t-preserved c).After-window-m))
          (sym (add-mul (c.loop-t.t) (c.window-m.result) (leaky_len (c.args.f).n)))
          (omega (
            arith,
            mul-le-mul_right (leaky_len (c.args.f).n) (some (goal.at.loop-t-preserved c).After-window-m),
            size-leaky (c.args.f),
          )),
    )

pub shape_of-work : goal.shape_of-work
shape_of-work c = c.loop-t.invariant.2.same

pub returns : goal.returns
unfolding keep R.leaky_rows
returns c =
    let e : c.loop-t.t ≡ leaky (c.args.f).l = omega (arith, c.leaky-count.ensures) in
    keeping-end (size_of (c.args.f)) SECTIONS LEAKY (omega arith) c.args.work.now (area c.requires) (R.leaky_row (c.args.f) (Table.delta
    (c.args.f) c.args.work.now) (at (c.args.f) BITS c.args.work.now)) c.loop-t.t (leaky (c.args.f).l) (c.loop-t.t * (leaky_len
    (c.args.f).n))
    c.loop-t.work c.loop-t.invariant.2 e
    (omega (arith, size-leaky (c.args.f), ap (λ k. k * (leaky_len (c.args.f).n)) e))

pub overflow_mul-size : goal.overflow_mul-size
overflow_mul-size c =
    let len_is-here : (c.leaky_len-len.result) ≡ (leaky_len (c.args.f).n) = c.leaky_len-len.ensures in
    let size_is-here : (c.window-m.result) * (c.leaky_len-len.result) ≡ (c.window-m.result) * (leaky_len (c.args.f).n) =
    ap (λ k. (c.window-m.result) * k) (len_is-here) in
    let room-here : (c.window-m.result) * (c.leaky_len-len.result) ≤ 2176 = omega (
      arith,
      size_is-here,
      rows_fit (c.args.f).n (c.window-m.result) c.requires.ranges.range.two c.window-m.ensures.2,
    ) in
    omega (arith, room-here)

pub slice_bounds-made-end : goal.slice_bounds-made-end
slice_bounds-made-end c = omega (arith, room (goal.at.slice_bounds-made-end c).After-window-m, c.loop-t.invariant.1)

pub slice_bounds-put_window-end : goal.slice_bounds-put_window-end
slice_bounds-put_window-end c = records-in (goal.at.slice_bounds-put_window-end c).After-window-m

pub overflow_mul-a : goal.overflow_mul-a
overflow_mul-a c = omega (arith, rows_in (goal.at.overflow_mul-a c).After-window-m)

pub overflow_add-a : goal.overflow_add-a
overflow_add-a c = omega (arith, rows_in (goal.at.overflow_add-a c).After-window-m)

pub overflow_add-e : goal.overflow_add-e
overflow_add-e c = omega (arith, rows_in (goal.at.overflow_add-e c).After-window-m)

pub slice_bounds-copy_from_slice-end : goal.slice_bounds-copy_from_slice-end
slice_bounds-copy_from_slice-end c = rows_in (goal.at.slice_bounds-copy_from_slice-end c).After-window-m

pub slice_bounds-copy_from_slice-end-in-loop-t : goal.slice_bounds-copy_from_slice-end-in-loop-t
slice_bounds-copy_from_slice-end-in-loop-t c = omega (
  arith,
  still (goal.at.slice_bounds-copy_from_slice-end-in-loop-t c).After-put_window,
  room (goal.at.slice_bounds-copy_from_slice-end-in-loop-t c).After-window-m,
)

pub overflow_add-t : goal.overflow_add-t
overflow_add-t c = omega (arith, some (goal.at.overflow_add-t c).After-window-m)

pub loop-t-smaller : goal.loop-t-smaller
loop-t-smaller c = omega (arith, some (goal.at.loop-t-smaller c).After-window-m)
