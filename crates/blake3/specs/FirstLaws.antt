-- `firsts stride s` by its places.
use Rattle.std.specs.Prelude.{◌≡◌, refl, Bool, true, false, List, ◌++◌, take, drop, leb}
use Rattle.std.proofs.Common.{sym, ◌∙◌, append-nil, div-one, div-mul-le_self, mul-one, suc-mul, mul-le-mul_right, mul-le-mul_left, arith, length-drop, take-append-drop, take_all, leb-true, leb-false}
use Rattle.std.proofs.Math.Path.{ap, ap₂}
use Prim.Native.Nat.{ℕ, suc, ◌+◌, ◌-◌, ◌*◌, ◌/◌, ◌≤◌, ◌<◌, min}
use Rattle.std.proofs.Math.ListN.{length, get_or, length-append, length-take, get_or-append}
use Rattle.std.proofs.Math.Seq.{take-length, get_or-take, get_or-append-add}
use Rattle.lists.specs.Over.{tab, length-tab, get_or-tab}
use Rattle.lists.specs.Tab.{take-tab}
use Rattle.lists.specs.Sect.{get}
use Rattle.blake3.specs.Firsts.{firsts}

-- with stride 1 it is s
pub firsts-one : (s : List ℕ) → firsts 1 s ≡ s
unfolding firsts tab
firsts-one s = ap (λ (t : List ℕ). take 8 s ++ t) same ∙ by (leb 8 (length s)) refl
  where
    same : tab ((length s - 8) / 1) (λ i. get_or s (8 + i * 1) 0) ≡ tab (length s - 8) (λ i. get_or s (8 + i) 0)
    same = ap₂ (λ (n : ℕ) (f : ℕ → ℕ). tab n f) (div-one (length s - 8)) (λ j i. get_or s (8 + mul-one i j) 0)

    by : (b : Bool) → leb 8 (length s) ≡ b → take 8 s ++ tab (length s - 8) (λ i. get_or s (8 + i) 0) ≡ s
    by true e =
        let h : 8 ≤ length s = leb-true 8 (length s) e in
        ap (λ (t : List ℕ). take 8 s ++ t)
        (sym (take-tab (length s - 8) 8 s 0 (omega arith)) ∙ take_all (length s - 8) (drop 8 s) (omega (arith, length-drop 8 s)))
        ∙ take-append-drop 8 s
    by false e =
        let h : length s < 8 = leb-false 8 (length s) e in
        let z : length s - 8 ≡ 0 = omega arith in
        ap₂ ◌++◌ (take_all 8 s (omega arith)) (ap (λ (n : ℕ). tab n (λ i. get_or s (8 + i) 0)) z) ∙ append-nil s

module _ (stride : ℕ) (s : List ℕ) (pos : 0 < stride) where
  pub length-firsts : length (firsts stride s) ≡ min 8 (length s) + (length s - 8) / stride
  unfolding firsts
  length-firsts =
      length-append (take 8 s) (tab ((length s - 8) / stride) (λ i. get_or s (8 + i * stride) 0))
      ∙ ap₂ ◌+◌ (length-take 8 s) (length-tab ((length s - 8) / stride) (λ i. get_or s (8 + i * stride) 0))

  -- no more items than bytes
  few : (length s - 8) / stride ≤ length s - 8
  few =
      let q : ℕ = (length s - 8) / stride in
      let a : q * 1 ≤ q * stride = mul-le-mul_left q pos in
      omega (arith, div-mul-le_self (length s - 8) stride, mul-one q)

  pub firsts-fit : length (firsts stride s) ≤ length s
  firsts-fit = omega (arith, length-firsts, few)

  module _ (i : ℕ) (h : i < length (firsts stride s)) where
    -- a byte of the count
    pub head_in : i < length s
    head_in = omega (arith, firsts-fit)

    pub head-is : i < 8 → get_or (firsts stride s) i 0 ≡ get_or s i 0
    unfolding firsts
    head-is w =
        get_or-append (take 8 s) (tab ((length s - 8) / stride) (λ i. get_or s (8 + i * stride) 0)) 0 i
        (omega (arith, length-take 8 s, head_in))
        ∙ get_or-take 8 s i 0 w

    -- the first byte of item i - 8
    item : 8 ≤ i → i - 8 < (length s - 8) / stride
    item w = omega (arith, length-firsts, few)

    pub item_in : 8 ≤ i → 8 + (i - 8) * stride < length s
    item_in w =
        let a : suc (i - 8) * stride ≤ (length s - 8) / stride * stride = mul-le-mul_right stride (item w) in
        omega (arith, a, suc-mul (i - 8) stride, div-mul-le_self (length s - 8) stride)

    pub item-is : 8 ≤ i → get_or (firsts stride s) i 0 ≡ get_or s (8 + (i - 8) * stride) 0
    unfolding firsts
    item-is w =
        let g : ℕ → ℕ = λ i. get_or s (8 + i * stride) 0 in
        let n : ℕ = (length s - 8) / stride in
        let e : length (take 8 s) + (i - 8) ≡ i = omega (arith, length-take 8 s, item w, few) in
        ap (λ k. get_or (take 8 s ++ tab n g) k 0) (sym e) ∙ get_or-append-add (take 8 s) (tab n g) (i - 8) 0 ∙ get_or-tab n (i - 8) g 0 (item w)

-- a part of a list that lies side by side
pub plain-get : (stride from len n : ℕ) (s : List ℕ) → stride ≡ 1 → n ≡ len → get from n s ≡ get from len (firsts stride s)
plain-get stride from len n s e h =
    ap₂ (λ (k : ℕ) (t : List ℕ). get from k t) h (sym (firsts-one s) ∙ ap (λ (k : ℕ). firsts k s) (sym e))

-- the same of a part that is lent
pub plain-part : (stride from len : ℕ) (s : List ℕ) → stride ≡ 1 → take ((from + len) - from) (drop from s) ≡ get from len (firsts stride s)
plain-part stride from len s e = plain-get stride from len (from + len - from) s e (omega arith)

-- the whole list
pub all_plain : (s : List ℕ) → get 0 (length s) (firsts 1 s) ≡ s
all_plain s = ap (take (length s)) (firsts-one s) ∙ take-length s

pub all_firsts : (stride : ℕ) (s : List ℕ) → 0 < stride → 8 ≤ length s
    → get 0 (8 + (length s - 8) / stride) (firsts stride s) ≡ firsts stride s
all_firsts stride s p h =
    take_all (8 + (length s - 8) / stride) (firsts stride s) (omega (arith, length-firsts stride s p))
