use Rattle.std.specs.Prelude.{◌≡◌, ◌+◌, ◌-◌, ◌*◌, ◌<◌, ◌≤◌, min}
use Rattle.lists.specs.Kit.{refl, sym, ap, ap₂, ◌∙◌, List, ℕ, arith, length, take, drop}
use Rattle.lists.specs.All.{all_of, all-zero}
use Rattle.lists.specs.Over.{cat, in-chunks}
use Rattle.lists.specs.Same.{same?}
use Rattle.blake3_lanes.specs.Lanes.{hash_at}
use Rattle.plan.specs.Plan.{leaky}
use Rattle.plan.specs.PlanLaws.{leaky-most}
use Rattle.rounds.specs.Loops.{lent-part}
use Rattle.flaand_hash.specs.Laws.{opens, opens_at, window-turn}
use Rattle.flaand_hash.proofs.opens.Goals as goal
use Rattle.flaand_hash.proofs.opens.Goals.{After-min-c, After-leaky-count, In-loop-q}

-- ---- of a call

few : (c : After-leaky-count) → (c.leaky-count.result) ≤ 1500000
few c = omega (arith, leaky-most c.args.f.l c.requires.in_range.0.most, c.leaky-count.ensures)

read_all : (c : After-leaky-count) → 8 + (c.leaky-count.result) * 16 ≤ length c.args.m.now
read_all c = omega (arith, c.requires.l_in_bounds.0, c.leaky-count.ensures)

whole : (c : After-leaky-count) → length c.args.comms.now ≡ c.args.f.n * ((c.leaky-count.result) * 32)
whole c = c.requires.l_in_bounds.1 ∙ ap (λ j. c.args.f.n * (j * 32)) (sym c.leaky-count.ensures)

row_in : (c : After-leaky-count) → c.args.k * ((c.leaky-count.result) * 32) + (c.leaky-count.result) * 32 ≤ length c.args.comms.now
row_in c = omega (arith, in-chunks c.args.k c.args.f.n ((c.leaky-count.result) * 32) c.requires.in_range.1, whole c)

pub overflow_mul-row : goal.overflow_mul-row
overflow_mul-row c = omega (arith, few (goal.at.overflow_mul-row c).After-leaky-count)

pub overflow_mul-row-2 : goal.overflow_mul-row-2
overflow_mul-row-2 c = omega (arith, row_in (goal.at.overflow_mul-row-2 c).After-leaky-count)

pub loop-q-init : goal.loop-q-init
loop-q-init c =
    let n = c.leaky-count.result in
    let f = opens_at n c.args.comms.now c.args.k c.args.m.now in
    sym (all-zero f) ∙ ap (λ j. all_of j f) (let e : 0 ≡ min (0 * 64) n = omega arith in e)

-- a part of k bytes from a on
cut : (a k : ℕ) → a + k - a ≡ k
cut a k = omega arith

-- ---- in a turn

-- it has a position at least, and no more than are left
below : (c : In-loop-q) → c.loop-q.q * 64 < c.leaky-count.result
below c = omega (arith, c.loop-q-test.true, c.div_ceil-q-end.ensures)

some : (c : After-min-c) → (c.loop-q.q * 64) + (c.min-c.result) ≤ (c.leaky-count.result)
some c = omega (arith, c.min-c.ensures, c.loop-q-test.true, c.div_ceil-q-end.ensures)

read-in : (c : After-min-c) → 8 + (c.loop-q.q * 64) * 16 + (c.min-c.result) * 16 ≤ length c.args.m.now
read-in c =
    let read_all-here : 8 + (c.leaky-count.result) * 16 ≤ length c.args.m.now = omega (
      arith,
      c.requires.l_in_bounds.0,
      c.leaky-count.ensures,
    ) in
    omega (arith, some c, read_all-here)

comms-within : (c : After-min-c) → (c.args.k * ((c.leaky-count.result) * 32) + (c.loop-q.q * 64) * 32) + (c.min-c.result) * 32 ≤ length
    c.args.comms.now
comms-within c =
    let whole-here : length c.args.comms.now ≡ c.args.f.n * ((c.leaky-count.result) * 32) = c.requires.l_in_bounds.1 ∙ ap (λ j.
    c.args.f.n * (j * 32)) (sym c.leaky-count.ensures) in
    let row_in-here : c.args.k * ((c.leaky-count.result) * 32) + (c.leaky-count.result) * 32 ≤ length c.args.comms.now = omega (
      arith,
      in-chunks c.args.k c.args.f.n ((c.leaky-count.result) * 32) c.requires.in_range.1,
      whole-here,
    ) in
    omega (arith, some c, row_in-here)

pub overflow_mul-t : goal.overflow_mul-t
overflow_mul-t c = omega (arith, below (goal.at.overflow_mul-t c).In-loop-q, few (goal.at.overflow_mul-t c).After-leaky-count)

pub overflow_sub-count : goal.overflow_sub-count
overflow_sub-count c = omega (arith, below (goal.at.overflow_sub-count c).In-loop-q)

pub overflow_mul-from : goal.overflow_mul-from
overflow_mul-from c = omega (arith, read-in (goal.at.overflow_mul-from c).After-min-c)

pub overflow_add-from : goal.overflow_add-from
overflow_add-from c = omega (arith, read-in (goal.at.overflow_add-from c).After-min-c)

pub overflow_mul-to : goal.overflow_mul-to
overflow_mul-to c = omega (arith, read-in (goal.at.overflow_mul-to c).After-min-c)

pub overflow_add-to : goal.overflow_add-to
overflow_add-to c = omega (arith, read-in (goal.at.overflow_add-to c).After-min-c)

pub overflow_mul-a : goal.overflow_mul-a
overflow_mul-a c = omega (arith, comms-within (goal.at.overflow_mul-a c).After-min-c)

pub overflow_add-a : goal.overflow_add-a
overflow_add-a c = omega (arith, comms-within (goal.at.overflow_add-a c).After-min-c)

pub overflow_mul-e : goal.overflow_mul-e
overflow_mul-e c = omega (arith, comms-within (goal.at.overflow_mul-e c).After-min-c)

pub overflow_add-e : goal.overflow_add-e
overflow_add-e c = omega (arith, comms-within (goal.at.overflow_add-e c).After-min-c)

pub slice_bounds-window_opens-end : goal.slice_bounds-window_opens-end
slice_bounds-window_opens-end c = read-in (goal.at.slice_bounds-window_opens-end c).After-min-c

pub slice_bounds-window_opens-end-in-loop-q : goal.slice_bounds-window_opens-end-in-loop-q
slice_bounds-window_opens-end-in-loop-q c = comms-within (goal.at.slice_bounds-window_opens-end-in-loop-q c).After-min-c

pub window_opens-ok-requires : goal.window_opens-ok-requires
window_opens-ok-requires c = (
  omega (arith, c.min-c.ensures),
  lent-part (8 + (c.loop-q.q * 64) * 16) ((c.min-c.result) * 16) _ c.args.m.now refl (read-in (goal.at.window_opens-ok-requires
      c).After-min-c),
  lent-part (c.args.k * ((c.leaky-count.result) * 32) + (c.loop-q.q * 64) * 32) ((c.min-c.result) * 32) _ c.args.comms.now refl
      (comms-within (goal.at.window_opens-ok-requires c).After-min-c),
)

pub loop-q-preserved : goal.loop-q-preserved
loop-q-preserved c =
    let t = c.loop-q.q * 64 in
    let n = c.leaky-count.result in
    let at = 8 + t * 16 in
    let from = c.args.k * (n * 32) + t * 32 in
    let hs : List ℕ = take (at + c.min-c.result * 16 - at) (drop at c.args.m.now) in
    let f = opens_at n c.args.comms.now c.args.k c.args.m.now in
    let before : min t n ≡ t = omega (arith, below (goal.at.loop-q-preserved c).In-loop-q) in
    let after : t + c.min-c.result ≡ min ((c.loop-q.q + 1) * 64) n = omega (
      arith,
      c.min-c.ensures,
      below (goal.at.loop-q-preserved
          c).In-loop-q,
    ) in
    window-turn c.args.k c.min-c.result t c.args.comms.now c.args.m.now hs n from
    (ap (λ j. take j (drop at c.args.m.now)) (cut at (c.min-c.result * 16))) refl (comms-within (goal.at.loop-q-preserved c).After-min-c)
    c.loop-q.ok
    c.window_opens-ok.result (c.loop-q.invariant ∙ ap (λ j. all_of j f) before)
    (c.window_opens-ok.ensures
    ∙ ap (λ j. same? (cat c.min-c.result (hash_at hs)) (take j (drop from c.args.comms.now))) (cut from (c.min-c.result * 32)))
    ∙ ap (λ j. all_of j f) after

pub returns : goal.returns
unfolding opens
returns c =
    c.loop-q.invariant
    ∙ ap₂ (λ j i. all_of j (opens_at i c.args.comms.now c.args.k c.args.m.now))
    (let e : min (c.loop-q.q * 64) c.leaky-count.result ≡ leaky c.args.f.l = omega (
      arith,
      c.leaky-count.ensures,
      c.div_ceil-q-end.ensures,
    ) in e)
    c.leaky-count.ensures
