use Rattle.std.specs.Prelude.{◌≡◌, ◌&&◌, ◌+◌, ◌-◌, ◌*◌, ◌≤◌}
use Rattle.lists.specs.Kit.{refl, sym, ap, ap₂, subst, ◌∙◌, List, ℕ, false, arith, length, get_or, drop}
use Rattle.lists.specs.Kit.{replicate, rules}
use Rattle.std.proofs.lemmas.List.{take_all}
use lib.Dec.{leb, eqb}
use lib.ListN.{length-drop}
use lib.Seq.{get_or-drop}
use Rattle.lists.specs.All.{all_of, all-ext}
use Rattle.lists.specs.Over.{in-record, over-full}
use Rattle.share.specs.Layout.{ENTRY, mac_off, entry-within, record-most}
use Rattle.share.specs.Lent.{LABEL, lent_len, lent_head}
use Rattle.share.specs.LentLaws.{lent_longer, head-within, length-lent-head}
use Rattle.records.specs.Seen.{ored, Shown, shown-none, shown-turn, zero_from, passes, seen_all}
use Rattle.records.proofs.none_faulty.Goals as goal
use Rattle.records.proofs.none_faulty.Goals.{At-loop-t, In-loop-t}

pub overflow_add-own : goal.overflow_add-own
overflow_add-own c =
    omega (arith, c.mac_off-own.ensures, entry-within c.args.n c.args.i c.requires.n_bound.1, record-most c.args.n c.requires.n_bound.0)

pub put_lent_head-requires : goal.put_lent_head-requires
put_lent_head-requires c = (omega arith, c.requires.n_bound.0, c.requires.n_bound.1)

pub loop-t-init : goal.loop-t-init
loop-t-init c = (refl, refl, shown-none _ _ _ _ _, shown-none _ _ _ _ _)

-- ---- in a turn, and behind the last

-- the head that is due
due-is : (c : At-loop-t) → (c.put_lent_head.new.out) ≡ lent_head c.args.n c.args.i false
due-is c = c.put_lent_head.ensures ∙ over-full _ (replicate 32 0) (1 + LABEL) (omega arith)

due-long : (c : At-loop-t) → length (c.put_lent_head.new.out) ≡ 1 + LABEL
due-long c = ap length (due-is c) ∙ length-lent-head c.args.n c.args.i false

-- the start of record t
at : (c : At-loop-t) → c.loop-t.t * (c.lent_len-len.result) ≡ c.loop-t.t * lent_len c.args.n
at c = ap (λ m. c.loop-t.t * m) c.lent_len-len.ensures

-- record t lies within
inside : (c : In-loop-t) → c.loop-t.t * (c.lent_len-len.result) + lent_len c.args.n ≤ length c.args.s.now
inside c =
    let at-here : c.loop-t.t * (c.lent_len-len.result) ≡ c.loop-t.t * lent_len c.args.n = ap (λ m. c.loop-t.t * m) c.lent_len-len.ensures in
    omega (
      arith,
      at-here,
      in-record c.loop-t.t c.args.count (lent_len c.args.n) 0 (lent_len c.args.n)
          (length c.args.s.now) c.loop-t-test.true (omega arith) c.requires.n_in_bounds,
    )

pub overflow_mul-at : goal.overflow_mul-at
overflow_mul-at c =
    let at-here : c.loop-t.t * (c.lent_len-len.result) ≡ c.loop-t.t * lent_len c.args.n = ap (λ m. c.loop-t.t * m) c.lent_len-len.ensures in
    omega (
      arith,
      at-here,
      in-record c.loop-t.t c.args.count (lent_len c.args.n) 0 (lent_len c.args.n)
          (length c.args.s.now) c.loop-t-test.true (omega arith) c.requires.n_in_bounds,
    )

pub or_apart-requires : goal.or_apart-requires
or_apart-requires c = omega (arith, inside (goal.at.or_apart-requires c).In-loop-t, head-within c.args.n)

-- the own entry of record t
own_in : (c : In-loop-t) → c.loop-t.t * (c.lent_len-len.result) + (LABEL + c.mac_off-own.result) + ENTRY ≤ length c.args.s.now
own_in c =
    omega (
      arith,
      inside c,
      c.mac_off-own.ensures,
      entry-within c.args.n c.args.i c.requires.n_bound.1,
      lent_longer c.args.n,
    )

pub overflow_add-at : goal.overflow_add-at
overflow_add-at c = omega (arith, own_in (goal.at.overflow_add-at c).In-loop-t)

pub or_apart-requires-in-loop-t : goal.or_apart-requires-in-loop-t
or_apart-requires-in-loop-t c = omega (arith, own_in (goal.at.or_apart-requires-in-loop-t c).In-loop-t)

pub loop-t-preserved : goal.loop-t-preserved
loop-t-preserved c = (
  search rules,
  search rules,
  shown-turn c.args.n c.args.s.now 0 (lent_head c.args.n c.args.i false) c.loop-t.t (c.loop-t.t * (c.lent_len-len.result)) c.loop-t.heads
      c.or_apart.new.e
      c.loop-t.invariant.2
      (at (goal.at.loop-t-preserved c).At-loop-t
      ∙ (let q : c.loop-t.t * lent_len c.args.n ≡ c.loop-t.t * lent_len c.args.n + 0 = omega arith in q))
      (c.loop-t.invariant.0
      ∙ sym (ap length (sym (due-is (goal.at.loop-t-preserved c).At-loop-t)) ∙ due-long (goal.at.loop-t-preserved c).At-loop-t))
      (c.or_apart.ensures
      ∙ ap (ored c.loop-t.heads c.args.s.now (c.loop-t.t * (c.lent_len-len.result))) (due-is (goal.at.loop-t-preserved c).At-loop-t)),
  shown-turn c.args.n c.args.s.now (LABEL + mac_off c.args.i) (replicate ENTRY 0) c.loop-t.t
      (c.loop-t.t * (c.lent_len-len.result) + (LABEL + c.mac_off-own.result)) c.loop-t.e
      c.or_apart-in-loop-t.new.e
      c.loop-t.invariant.3
      (ap₂ ◌+◌ (at (goal.at.loop-t-preserved c).At-loop-t) (ap (λ m. LABEL + m) c.mac_off-own.ensures))
      c.loop-t.invariant.1
      c.or_apart-in-loop-t.ensures,
)

-- the bytes of e from `from` on
zeros-from : (e x : List ℕ) (from : ℕ) → x ≡ drop from e → all_of (length x) (λ k. eqb (get_or x k 0) 0) ≡ zero_from e from
zeros-from e x from p =
    ap (λ (x : List ℕ). all_of (length x) (λ k. eqb (get_or x k 0) 0)) p
    ∙ ap (λ m. all_of m (λ k. eqb (get_or (drop from e) k 0) 0)) (length-drop from e)
    ∙ all-ext (length e - from) _ _ (λ k l. ap (λ x. eqb x 0) (get_or-drop from e k 0))

pub returns : goal.returns
unfolding passes
returns c =
    let e : passes c.loop-t.heads c.loop-t.e
    ≡ ((leb (get_or c.loop-t.heads 0 0) 1 && c.zeros.result) && c.zeros-2.result) =
    ap₂ (λ a b. (leb (get_or c.loop-t.heads 0 0) 1 && a) && b)
    (sym (c.zeros.ensures
    ∙ zeros-from c.loop-t.heads _ 1 (take_all 31 (drop 1 c.loop-t.heads) (omega (arith, length-drop 1 c.loop-t.heads)))))
    (sym (c.zeros-2.ensures ∙ zeros-from c.loop-t.e _ 0 refl)) in
    let n : c.loop-t.t ≡ c.args.count = omega arith in
    λ h. seen_all c.args.n c.args.i c.args.s.now c.args.count c.loop-t.heads c.loop-t.e c.loop-t.invariant.0 c.loop-t.invariant.1
    (subst (λ t. Shown c.args.n c.args.s.now 0 (lent_head c.args.n c.args.i false) t c.loop-t.heads) n c.loop-t.invariant.2)
    (subst (λ t. Shown c.args.n c.args.s.now (LABEL + mac_off c.args.i) (replicate ENTRY 0) t c.loop-t.e) n c.loop-t.invariant.3) (e ∙ h)
