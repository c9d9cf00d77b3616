use Rattle.std.specs.Prelude.{◌≡◌, ◌++◌, ◌+◌, ◌-◌, ◌*◌, ◌<◌, ◌≤◌}
use Rattle.lists.specs.Kit.{refl, sym, ap, ap₂, ◌∙◌, List, ℕ, arith, length, take, drop}
use lib.Seq.{length-take-le}
use borrow.Rule.Slice.PartMut.{post_of}
use Rattle.lists.specs.Over.{cat, length-cat}
use Rattle.lists.specs.Sect.{get, length-put}
use Rattle.plan.specs.Plan.{leaky}
use Rattle.rounds.specs.Area.{MASKS, BITS, ZS, SECTIONS, size_of, at, keep}
use Rattle.rounds.specs.Mail.{letter}
use Rattle.rounds.specs.Loops.{lent-part, keeping_none, keeping-more, keeping-end, keeping-other}
use Rattle.rounds.specs.Haand as R
use Rattle.rounds.specs.HaandLaws.{length-z_row}
use Rattle.area.specs.Given.{Place}
use Rattle.area.specs.GivenLaws.{area, place_at, place_in, lent_length, rows_inside}
use Rattle.area.specs.Sizes.{size-masks, size-bits, size-zs}
use Rattle.haand_hash.specs.WindowLaws.{window-copied}
use Rattle.haand_recv.specs.Received.{positions-most}
use Rattle.haand_recv.proofs.keep.Goals as goal
use Rattle.haand_recv.proofs.keep.Goals.{After-put_window, After-window-m, Start}

-- ---- of a call

long : (c : Start) → (t m : ℕ) → length (cat m (λ q. (R.z_row (c.args.f) (at (c.args.f) MASKS c.args.work.now) (at (c.args.f) BITS
    c.args.work.now) (letter c.args.incoming.now c.args.mail)) (t + q))) ≡ m * 17
long c t m = length-cat m 17 (λ q. (R.z_row (c.args.f) (at (c.args.f) MASKS c.args.work.now) (at (c.args.f) BITS c.args.work.now) (letter
    c.args.incoming.now c.args.mail)) (t + q)) (λ q h. length-z_row (c.args.f) (at (c.args.f) MASKS c.args.work.now) (at (c.args.f) BITS
    c.args.work.now) (letter c.args.incoming.now c.args.mail) (t + q))

pub loop-t-init : goal.loop-t-init
loop-t-init c = (
  omega arith,
  refl,
  keeping_none (size_of (c.args.f)) SECTIONS ZS (omega arith) c.args.work.now (area c.requires.work) (R.z_row
      (c.args.f) (at (c.args.f) MASKS c.args.work.now) (at (c.args.f) BITS c.args.work.now) (letter c.args.incoming.now c.args.mail)),
)

pub overflow_sub-count : goal.overflow_sub-count
overflow_sub-count c = omega (arith, c.loop-t.invariant.0, c.leaky-count.ensures)

pub window-m-requires : goal.window-m-requires
window-m-requires c =
    record {
      le_n = (c.requires.work.ranges.range.two, (c.requires.work.ranges.range.eight, omega arith));
      left_nonzero = omega (
        arith,
        c.loop-t-test.true,
      );
    }

-- ---- in a turn

some : (c : After-window-m) → (c.loop-t.t) + (c.window-m.result) ≤ leaky (c.args.f).l
some c = omega (arith, c.window-m.ensures.1, c.loop-t-test.true, c.leaky-count.ensures)

few : (c : After-window-m) → (c.window-m.result) ≤ 64
few c = positions-most (c.args.f).n (c.window-m.result) c.requires.work.ranges.range.two c.window-m.ensures.2

-- MASKS and BITS are read
inside : (c : After-window-m) → (o a e : ℕ) → o < SECTIONS → Place (c.args.f) o a e → e ≤ length (c.loop-t.work)
inside c o a e b p = omega (arith, place_in c.requires.work o a e b p, c.loop-t.invariant.2.same)

lent_is : (c : After-window-m) → (o a e : ℕ) → (o ≡ ZS → ⊥) → Place (c.args.f) o a e → get a (e - a) (c.loop-t.work) ≡ at (c.args.f) o
    c.args.work.now
unfolding at
lent_is c o a e ne p =
    place_at (c.args.f) o a e p (c.loop-t.work)
    ∙ keeping-other (size_of (c.args.f)) SECTIONS ZS (omega arith) c.args.work.now (area c.requires.work) (R.z_row (c.args.f) (at
    (c.args.f) MASKS c.args.work.now) (at (c.args.f) BITS c.args.work.now) (letter c.args.incoming.now c.args.mail)) (c.loop-t.t)
    ((c.loop-t.t) * 17) o (c.loop-t.work)
    c.loop-t.invariant.2 ne

bits : (c : After-window-m) → Place (c.args.f) BITS c.place-recs.result.0 c.place-recs.result.1
bits c = c.place-recs.ensures

masks : (c : After-window-m) → Place (c.args.f) MASKS c.place-masks.result.0 c.place-masks.result.1
masks c = c.place-masks.ensures

rows_in : (c : After-window-m) → (c.section_at-rows.result) + (c.loop-t.t) * 17 + (c.window-m.result) * 17 ≤ length (c.loop-t.work)
rows_in c =
    omega (
      arith,
      rows_inside c.requires.work ZS (c.section_at-rows.result) (leaky (c.args.f).l) 17 (c.loop-t.t) (c.window-m.result) (omega arith)
          c.section_at-rows.ensures
          (sym (size-zs (c.args.f))) (some c),
      c.loop-t.invariant.2.same,
    )

lent : (c : After-window-m) → let p = (c.section_at-rows.result) + (c.loop-t.t) * 17 in length (take (p + (c.window-m.result) * 17 - p)
    (drop p (c.loop-t.work))) ≡ (c.window-m.result) * 17
lent c = lent-part ((c.section_at-rows.result) + (c.loop-t.t) * 17) ((c.window-m.result) * 17) ((c.window-m.result) * 17) (c.loop-t.work)
    refl (rows_in c)

pub put_window-requires : goal.put_window-requires
put_window-requires c =
    record {
      positions = (
        record {
          ranges = c.requires.work.ranges;
          records = lent_length c.requires.work BITS _ _ (omega arith) (size-bits (c.args.f)) (lent_is (goal.at.put_window-requires
              c).After-window-m BITS _ _ (λ p. omega arith) (bits (goal.at.put_window-requires c).After-window-m));
          below = some (goal.at.put_window-requires c).After-window-m;
        },
        c.window-m.ensures.2,
        length-take-le ((c.window-m.result) * 17 - 0) c.loop-t.made (omega (
          arith,
          few (goal.at.put_window-requires c).After-window-m,
          c.loop-t.invariant.1,
        ))
            ∙ (omega arith),
      );
      masks_len = lent_length c.requires.work MASKS _ _ (omega arith) (size-masks (c.args.f)) (lent_is (goal.at.put_window-requires
          c).After-window-m MASKS _ _ (λ p. omega arith) (masks (goal.at.put_window-requires c).After-window-m));
      arrived = c.requires.arrived;
    }

-- the rows of the window, in front of the buffer

made-is : (c : After-put_window) → c.put_window.new.out ≡ cat (c.window-m.result) (λ q. (R.z_row (c.args.f) (at (c.args.f) MASKS
    c.args.work.now) (at (c.args.f) BITS c.args.work.now) (letter c.args.incoming.now c.args.mail)) ((c.loop-t.t) + q))
unfolding at
made-is c =
    let lent_is-here : (o a e : ℕ) → (o ≡ ZS → ⊥) → Place (c.args.f) o a e → get a (e - a) (c.loop-t.work) ≡ at (c.args.f) o
    c.args.work.now = λ o a e ne p. place_at (c.args.f) o a e p (c.loop-t.work)
    ∙ keeping-other (size_of (c.args.f)) SECTIONS ZS (omega arith) c.args.work.now (area c.requires.work) (R.z_row (c.args.f) (at
    (c.args.f) MASKS c.args.work.now) (at (c.args.f) BITS c.args.work.now) (letter c.args.incoming.now c.args.mail)) (c.loop-t.t)
    ((c.loop-t.t) * 17) o (c.loop-t.work)
    c.loop-t.invariant.2 ne in
    let bits-here : Place (c.args.f) BITS c.place-recs.result.0 c.place-recs.result.1 = c.place-recs.ensures in
    let masks-here : Place (c.args.f) MASKS c.place-masks.result.0 c.place-masks.result.1 = c.place-masks.ensures in
    c.put_window.ensures
    ∙ ap₂ (λ (x y : List ℕ). cat (c.window-m.result) (λ q. R.z_row (c.args.f) x y (letter c.args.incoming.now c.args.mail) ((c.loop-t.t)
    + q)))
    (lent_is-here MASKS _ _ (λ p. omega arith) (masks-here)) (lent_is-here BITS _ _ (λ p. omega arith) (bits-here))

still : (c : After-put_window) → length (c.put_window.new.out ++ post_of 0 ((c.window-m.result) * 17 - 0) (c.loop-t.made)) ≡ 1088
still c =
    let long-here : (t m : ℕ) → length (cat m (λ q. (R.z_row (c.args.f) (at (c.args.f) MASKS c.args.work.now) (at (c.args.f) BITS
    c.args.work.now) (letter c.args.incoming.now c.args.mail)) (t + q))) ≡ m * 17 = λ t m. length-cat m 17 (λ q. (R.z_row (c.args.f) (at
    (c.args.f) MASKS c.args.work.now) (at (c.args.f) BITS c.args.work.now) (letter c.args.incoming.now c.args.mail)) (t + q)) (λ q h.
    length-z_row (c.args.f) (at (c.args.f) MASKS c.args.work.now) (at (c.args.f) BITS c.args.work.now) (letter c.args.incoming.now
    c.args.mail) (t + q)) in
    let few-here : (c.window-m.result) ≤ 64 = positions-most (c.args.f).n (c.window-m.result) c.requires.work.ranges.range.two
    c.window-m.ensures.2 in
    length-put 0 ((c.window-m.result) * 17 - 0) c.put_window.new.out (c.loop-t.made)
    (ap length (made-is c) ∙ long-here (c.loop-t.t) (c.window-m.result) ∙ (let q : (c.window-m.result) * 17 ≡ (c.window-m.result) * 17 -
    0 = omega arith in q))
    (omega (arith, few-here, c.loop-t.invariant.1))
    ∙ c.loop-t.invariant.1

pub copy_from_slice-requires : goal.copy_from_slice-requires
copy_from_slice-requires c =
    let q : c.window-m.result * 17 - 0 ≡ c.window-m.result * 17 = omega arith in
    lent (goal.at.copy_from_slice-requires c).After-window-m
    ∙ sym (length-take-le (c.window-m.result * 17 - 0) (c.put_window.new.out ++ post_of 0 (c.window-m.result * 17 - 0) c.loop-t.made)
    (omega (arith, few (goal.at.copy_from_slice-requires c).After-window-m, still (goal.at.copy_from_slice-requires c).After-put_window))
    ∙ q)

pub loop-t-preserved : goal.loop-t-preserved
loop-t-preserved c =
    let p = (c.section_at-rows.result) + (c.loop-t.t) * 17 in (
      some (goal.at.loop-t-preserved c).After-window-m,
      still (goal.at.loop-t-preserved c).After-put_window,
      keeping-more (size_of (c.args.f)) SECTIONS ZS (omega arith) c.args.work.now (area c.requires.work) (R.z_row (c.args.f) (at
          (c.args.f) MASKS c.args.work.now) (at (c.args.f) BITS c.args.work.now) (letter c.args.incoming.now c.args.mail)) (c.loop-t.t)
          (c.window-m.result) ((c.loop-t.t) * 17) ((c.window-m.result) * 17) p
          (p + (c.window-m.result) * 17) (((c.loop-t.t) + (c.window-m.result)) * 17)
          (c.loop-t.work) c.copy_from_slice.new.self c.loop-t.invariant.2
          (window-copied _ ((c.window-m.result) * 17) c.copy_from_slice.new.self c.put_window.new.out _ (cat (c.window-m.result) (λ q.
          (R.z_row (c.args.f) (at (c.args.f) MASKS c.args.work.now) (at (c.args.f) BITS c.args.work.now) (letter c.args.incoming.now
          c.args.mail)) ((c.loop-t.t) + q))) c.copy_from_slice.ensures.after
          (made-is (goal.at.loop-t-preserved c).After-put_window) (long (goal.at.loop-t-preserved c).Start (c.loop-t.t) (c.window-m.result))
          (let q : (c.window-m.result) * 17 - 0 ≡ (c.window-m.result) * 17 = omega arith in q))
          (long (goal.at.loop-t-preserved c).Start (c.loop-t.t) (c.window-m.result)) (ap (λ a. a + (c.loop-t.t) * 17)
          c.section_at-rows.ensures) refl (omega arith)
          (omega (arith, some (goal.at.loop-t-preserved c).After-window-m, size-zs (c.args.f))),
    )

pub shape_of-work : goal.shape_of-work
shape_of-work c = c.loop-t.invariant.2.same

pub returns : goal.returns
unfolding keep R.z_rows
returns c =
    let e : c.loop-t.t ≡ leaky (c.args.f).l = omega (arith, c.leaky-count.ensures) in
    keeping-end (size_of (c.args.f)) SECTIONS ZS (omega arith) c.args.work.now (area c.requires.work) (R.z_row (c.args.f) (at (c.args.f)
    MASKS c.args.work.now) (at (c.args.f) BITS c.args.work.now) (letter c.args.incoming.now c.args.mail)) c.loop-t.t (leaky (c.args.f).l)
    (c.loop-t.t * 17) c.loop-t.work
    c.loop-t.invariant.2 e
    (omega (arith, size-zs (c.args.f), e))

pub overflow_mul-size : goal.overflow_mul-size
overflow_mul-size c =
    let few-here : (c.window-m.result) ≤ 64 = positions-most (c.args.f).n (c.window-m.result) c.requires.work.ranges.range.two
    c.window-m.ensures.2 in
    omega (arith, few-here)

pub slice_bounds-made-end : goal.slice_bounds-made-end
slice_bounds-made-end c = omega (arith, few (goal.at.slice_bounds-made-end c).After-window-m, c.loop-t.invariant.1)

pub slice_bounds-put_window-end : goal.slice_bounds-put_window-end
slice_bounds-put_window-end c = inside (goal.at.slice_bounds-put_window-end c).After-window-m BITS _ _ (omega arith) (bits
    (goal.at.slice_bounds-put_window-end c).After-window-m)

pub slice_bounds-put_window-end-in-loop-t : goal.slice_bounds-put_window-end-in-loop-t
slice_bounds-put_window-end-in-loop-t c = inside (goal.at.slice_bounds-put_window-end-in-loop-t c).After-window-m MASKS _ _ (omega arith)
    (masks (goal.at.slice_bounds-put_window-end-in-loop-t c).After-window-m)

pub overflow_mul-a : goal.overflow_mul-a
overflow_mul-a c = omega (arith, rows_in (goal.at.overflow_mul-a c).After-window-m)

pub overflow_add-a : goal.overflow_add-a
overflow_add-a c = omega (arith, rows_in (goal.at.overflow_add-a c).After-window-m)

pub overflow_add-e : goal.overflow_add-e
overflow_add-e c = omega (arith, rows_in (goal.at.overflow_add-e c).After-window-m)

pub slice_bounds-copy_from_slice-end : goal.slice_bounds-copy_from_slice-end
slice_bounds-copy_from_slice-end c = rows_in (goal.at.slice_bounds-copy_from_slice-end c).After-window-m

pub slice_bounds-copy_from_slice-end-in-loop-t : goal.slice_bounds-copy_from_slice-end-in-loop-t
slice_bounds-copy_from_slice-end-in-loop-t c = omega (
  arith,
  still (goal.at.slice_bounds-copy_from_slice-end-in-loop-t
      c).After-put_window,
  few (goal.at.slice_bounds-copy_from_slice-end-in-loop-t c).After-window-m,
)

pub overflow_add-t : goal.overflow_add-t
overflow_add-t c = omega (arith, some (goal.at.overflow_add-t c).After-window-m)

pub loop-t-smaller : goal.loop-t-smaller
loop-t-smaller c = omega (arith, some (goal.at.loop-t-smaller c).After-window-m)
