-- The check of a list of records without a branch: what of the heads differs from the one that is due, and the own entries, ORed together.
-- A byte is no more than an OR that it is in, so where that is as a record's has to be, each record is.
use Rattle.std.specs.Prelude.{◌≡◌, Bool, true, false, ◌&&◌, ℕ, ◌+◌, ◌-◌, ◌*◌, ◌<◌, ◌≤◌, replicate, leb, eqb, ltb}
use Rattle.std.proofs.Math.Path.{refl, ap}
use Rattle.std.proofs.Common.{sym, ap₂, ◌∙◌, subst}
use mathlib.Core.List.{List, [], append-nil}
use native.Mathlib.Omega.{arith}
use Rattle.std.proofs.Math.ListN.{length, get_or}
use Rattle.std.proofs.lemmas.List.{length-replicate, get_or-replicate}
use Rattle.std.specs.Int.Bits.{bit_or, bit_xor, or_add_and, xor_self, xor_zero_l, xor_zero_r}
use Rattle.std.proofs.lemmas.Nat.{and_le_l, and_le_r}
use borrow.Author.Tests.{leb-true, eqb-true, ltb-true, ltb-false}
use Rattle.lists.specs.All.{all_of, of-all, and_first, and_second}
use Rattle.lists.specs.Over.{tab, get_or-tab}
use Rattle.algebra.specs.Xor.{xor_assoc}
use Rattle.block.specs.Block.{word_at, block_at, zero_of}
use Rattle.block.specs.Group.{blocks}
use Rattle.block.specs.Trip.{block-below}
use Rattle.share.specs.Layout.{ENTRY, key-behind}
use Rattle.share.specs.Record.{mac_off, key_off, mac_at, key_at}
use Rattle.share.specs.Lent.{LABEL, label_of, lent_len, lent_head, records_fault}
use Rattle.share.specs.LentLaws.{valid-faults, length-lent-head, lent-bit-first, label-behind}

or_l : (a b : ℕ) → a ≤ bit_or a b
or_l a b = omega (arith, or_add_and a b, and_le_r a b)

or_r : (a b : ℕ) → b ≤ bit_or a b
or_r a b = omega (arith, or_add_and a b, and_le_l a b)

-- numbers that do not differ
same : (a b : ℕ) → bit_xor a b ≡ 0 → a ≡ b
same a b e =
    sym (ap (bit_xor a) (xor_self b) ∙ xor_zero_r a) ∙ sym (xor_assoc a b b) ∙ ap (λ x. bit_xor x b) e ∙ xor_zero_l b

-- e, and what of s from `at` on differs from `due`
unfoldable pub ored : List ℕ → List ℕ → ℕ → List ℕ → List ℕ
ored e s at due = tab (length e) (λ k. bit_or (get_or e k 0) (bit_xor (get_or s (at + k) 0) (get_or due k 0)))

-- what record j differs in from `due`, `off` bytes behind its start
abbrev apart : ℕ → List ℕ → ℕ → List ℕ → ℕ → ℕ → ℕ
apart n s off due j k = bit_xor (get_or s (j * lent_len n + off + k) 0) (get_or due k 0)

-- e has seen that of t records
pub record Shown (n : ℕ) (s : List ℕ) (off : ℕ) (due : List ℕ) (t : ℕ) (e : List ℕ) : Type 0 where
  pub seen : (j : ℕ) → j < t → (k : ℕ) → k < length due → apart n s off due j k ≤ get_or e k 0

module _ (n : ℕ) (s : List ℕ) (off : ℕ) (due : List ℕ) where
  pub shown-none : (e : List ℕ) → Shown n s off due 0 e
  shown-none e = record { seen = λ j l. absurd (omega arith) }

  pub shown-turn : (t at : ℕ) (e e' : List ℕ) → Shown n s off due t e → at ≡ t * lent_len n + off → length e ≡ length due
      → e' ≡ ored e s at due → Shown n s off due (t + 1) e'
  unfolding ored
  shown-turn t at e e' h q long w = record { seen = λ j l k m. step j l k m }
    where
      byte : (k : ℕ) → k < length due → get_or e' k 0 ≡ bit_or (get_or e k 0) (bit_xor (get_or s (at + k) 0) (get_or due k 0))
      byte k m =
          ap (λ (x : List ℕ). get_or x k 0) w
          ∙ get_or-tab (length e) k (λ k. bit_or (get_or e k 0) (bit_xor (get_or s (at + k) 0) (get_or due k 0))) 0 (omega arith)

      step : (j : ℕ) → j < t + 1 → (k : ℕ) → k < length due → apart n s off due j k ≤ get_or e' k 0
      step j l k m = go (ltb j t) refl
        where
          go : (b : Bool) → ltb j t ≡ b → apart n s off due j k ≤ get_or e' k 0
          go true g = omega (arith, h.seen j (ltb-true j t g) k m, byte k m, or_l (get_or e k 0) (bit_xor (get_or s (at + k) 0) (get_or due k 0)))
          go false g =
              subst (λ a. bit_xor (get_or s (a + k) 0) (get_or due k 0) ≤ get_or e' k 0)
              (q ∙ ap (λ x. x * lent_len n + off) (let p : t ≡ j = omega (arith, ltb-false j t g) in p))
              (omega (arith, byte k m, or_r (get_or e k 0) (bit_xor (get_or s (at + k) 0) (get_or due k 0))))

-- all bytes from `from` on are zero
abbrev pub zero_from : List ℕ → ℕ → Bool
zero_from e from = all_of (length e - from) (λ k. eqb (get_or e (from + k) 0) 0)

-- what was seen is as a record's has to be
unfoldable pub passes : List ℕ → List ℕ → Bool
passes heads e = (leb (get_or heads 0 0) 1 && zero_from heads 1) && zero_from e 0

-- the head that is due, byte by byte
module _ (n i : ℕ) where
  bit-due : get_or (lent_head n i false) 0 0 ≡ 0
  bit-due = sym (ap (λ (h : List ℕ). get_or h 0 0) (append-nil (lent_head n i false))) ∙ lent-bit-first n i false []

  pub label-due : (k : ℕ) → k < LABEL → get_or (lent_head n i false) (1 + k) 0 ≡ get_or (label_of n i) k 0
  label-due k h = sym (ap (λ (d : List ℕ). get_or d (1 + k) 0) (append-nil (lent_head n i false))) ∙ label-behind n i false [] k h

none : List ℕ
none = replicate ENTRY 0

none-mac : block_at none 0 ≡ blocks.nil
unfolding block_at word_at blocks zero_of none
none-mac = refl

none-key : block_at none 16 ≡ blocks.nil
unfolding block_at word_at blocks zero_of none
none-key = refl

module _ (n i : ℕ) (s : List ℕ) (count : ℕ) (heads e : List ℕ) (long : length heads ≡ 1 + LABEL) (whole : length e ≡ ENTRY)
    (hs : Shown n s 0 (lent_head n i false) count heads) (es : Shown n s (LABEL + mac_off i) (replicate ENTRY 0) count e) where
  -- what record t shows at byte k of the head
  head-is : (t k a : ℕ) → t < count → k < 1 + LABEL → a ≡ t * lent_len n + k → get_or heads k 0 ≡ 0
      → get_or s a 0 ≡ get_or (lent_head n i false) k 0
  head-is t k a l h e z =
      same (get_or s a 0) (get_or (lent_head n i false) k 0)
      (omega (
        arith,
        hs.seen t l k (omega (arith, length-lent-head n i false)),
        ap (λ x. bit_xor (get_or s x 0) (get_or (lent_head n i false) k 0)) (let q : a ≡ t * lent_len n + 0 + k = omega arith in q),
      ))

  bit_is : (t : ℕ) → t < count → get_or s (t * lent_len n) 0 ≤ get_or heads 0 0
  bit_is t l =
      omega (
        arith,
        hs.seen t l 0 (omega (arith, length-lent-head n i false)),
        ap₂ (λ x y. bit_xor (get_or s x 0) y) (let q : t * lent_len n + 0 + 0 ≡ t * lent_len n = omega arith in q) (bit-due n i)
            ∙ xor_zero_r (get_or s (t * lent_len n) 0),
      )

  own_is : (t k : ℕ) → t < count → k < ENTRY → get_or e k 0 ≡ 0 → get_or s (t * lent_len n + (LABEL + mac_off i) + k) 0 ≡ 0
  own_is t k l h z =
      omega (
        arith,
        es.seen t l k (omega (arith, length-replicate {A = ℕ} ENTRY 0)),
        ap (bit_xor (get_or s (t * lent_len n + (LABEL + mac_off i) + k) 0)) (get_or-replicate ENTRY k 0 0 h)
            ∙ xor_zero_r (get_or s (t * lent_len n + (LABEL + mac_off i) + k) 0),
      )

  pub seen_all : passes heads e ≡ true → records_fault n i s count ≡ 0
  unfolding passes mac_at key_at
  seen_all p =
      let heads-pass = and_first (leb (get_or heads 0 0) 1 && zero_from heads 1) (zero_from e 0) p in
      let zero-head : (k : ℕ) → k < LABEL → get_or heads (1 + k) 0 ≡ 0 =
      λ k h. eqb-true _ _ (of-all _ _ (and_second (leb (get_or heads 0 0) 1) (zero_from heads 1) heads-pass) k (omega arith)) in
      let zero-own : (k : ℕ) → k < ENTRY → get_or e (0 + k) 0 ≡ 0 =
      λ k h. eqb-true _ _ (of-all _ _ (and_second (leb (get_or heads 0 0) 1 && zero_from heads 1) (zero_from e 0) p) k (omega arith)) in
      let zero-at : (t k : ℕ) → t < count → k < ENTRY → get_or s (t * lent_len n + LABEL + mac_off i + k) 0 ≡ 0 =
      λ t k l h. ap (λ x. get_or s x 0)
      (let q : t * lent_len n + LABEL + mac_off i + k ≡ t * lent_len n + (LABEL + mac_off i) + k = omega arith in q)
      ∙ own_is t k l h (sym (ap (λ x. get_or e x 0) (let q : 0 + k ≡ k = omega arith in q)) ∙ zero-own k h) in
      valid-faults n i s count
      (λ t l. record {
        bit = omega (arith, bit_is t l, leb-true (get_or heads 0 0) 1 (and_first (leb (get_or heads 0 0) 1) (zero_from heads 1) heads-pass));
        label = λ k h. head-is t (1 + k) (t * lent_len n + (1 + k)) l (omega arith) refl (zero-head k h) ∙ label-due n i k h;
        mac = block-below s none (t * lent_len n + LABEL + mac_off i) 0 (λ k w. omega (arith, zero-at t k l (omega arith))) none-mac;
        key = block-below s none (t * lent_len n + LABEL + key_off i) 16
            (λ k w. omega (
              arith,
              zero-at t (16 + k) l (omega arith),
              ap (λ x. get_or s x 0)
                  (let q : t * lent_len n + LABEL + mac_off i + (16 + k) ≡ t * lent_len n + LABEL + key_off i + k =
                  omega (arith, key-behind i) in q),
            ))
            none-key;
      })
