-- Sums of bits: the bits of 64 records as the digits of a word, masked by words of the strings, added digit by digit, and the digits summed
-- at the end.
use Rattle.std.specs.Prelude.{◌≡◌, true, false, length, replicate, ltb}
use Rattle.std.proofs.Math.Path.{refl, sym, ap, ap₂}
use Rattle.std.proofs.Common.{◌∙◌, pow-suc, lt_of_lt_of_le, add-one, arith, pow_mono, shl_exact, lt-ltb, le-ltb, ltb-true, ltb-false}
use Rattle.std.proofs.Math.Bool.{Bool}
use mathlib.Core.List.{List}
use Prim.Native.Nat.{ℕ, zero, suc, ◌+◌, ◌*◌, ◌/◌, ◌%◌, ◌^◌, ◌<◌, ◌≤◌}
use Rattle.std.proofs.Math.Nat.{lt_of_le_of_lt}
use Rattle.std.proofs.Math.ListN.{get_or}
use Rattle.std.specs.Int.Bits.{bit_xor, bit_and}
use Rattle.std.proofs.lemmas.Nat.{and_le_r}
use Rattle.std.specs.Int.Count.{ones}
use Rattle.std.proofs.Math.Pow.{high, low}
use Rattle.lists.specs.Over.{tab, get_or-tab, in-record}
use Rattle.lists.specs.Rows.{tab-ext}
use Rattle.lists.specs.Bytes.{Bytes}
use Rattle.algebra.specs.Group.{numbers, bits, sel, odd, num, odd-num, sel-nil}
use Rattle.algebra.specs.Sum.{sum, sum-ext, sum-turn, sum-swap, sum_lt}
use Rattle.rbits.specs.Chosen.{chosen, bit_sum}
use Rattle.rbits.specs.Tables.{r_word, window_of, half_at, record_bit, packed, masked_at}
use Rattle.rbits.specs.SumLaws.{sum-groups, sum_past}
use Rattle.rbits.specs.DigitLaws.{mod-digit, and-digit, sum-digit, parity}
use Rattle.rbits.proofs.ChosenLaws.{half-group, chosen-digit}

-- ---- packed bits
pub packed_lt : (n : ℕ) (f : ℕ → Bool) → packed n f < 2 ^ n
unfolding packed
packed_lt zero f = omega arith
packed_lt (suc n) f = go (f n) (packed_lt n f)
  where
    go : (b : Bool) → packed n f < 2 ^ n → num b * 2 ^ n + packed n f < 2 ^ suc n
    go false h = omega (arith, pow-suc 2 n)
    go true h = omega (arith, pow-suc 2 n)

pub packed-fits : (n : ℕ) (f : ℕ → Bool) (x : ℕ) → x ≡ packed n f → n ≤ 64 → x < 2 ^ 64
packed-fits n f x e h = rw e (lt_of_lt_of_le (packed_lt n f) (pow_mono h))

pub packed-digit : (n : ℕ) (f : ℕ → Bool) (e : ℕ) → e < n → odd (packed n f / 2 ^ e) ≡ f e
unfolding packed
packed-digit zero f e h = absurd (omega arith)
packed-digit (suc n) f e h = go (ltb e n) refl (packed-digit n f e)
  where
    go : (b : Bool) → ltb e n ≡ b → (e < n → odd (packed n f / 2 ^ e) ≡ f e) → odd ((num (f n) * 2 ^ n + packed n f) / 2 ^ e) ≡ f e
    go true q ih =
        let l : e < n = ltb-true e n q in
        sym (mod-digit (num (f n) * 2 ^ n + packed n f) n e l) ∙ ap (λ x. odd (x / 2 ^ e)) (low (num (f n)) n (packed_lt n f)) ∙ ih l
    go false q ih =
        let p : n ≡ e = omega (arith, ltb-false e n q) in
        ap (λ k. odd ((num (f n) * 2 ^ n + packed n f) / 2 ^ k)) (sym p) ∙ ap odd (high (num (f n)) n (packed_lt n f)) ∙ odd-num (f n)
        ∙ ap f p

-- a turn of `pack`: the next bit, shifted to its place
pub packed-turn : (n : ℕ) (f : ℕ → Bool) (d w : ℕ) → n < 64 → d ≡ num (f n) → w ≡ packed n f → d * 2 ^ n % 2 ^ 64 + w ≡ packed (n + 1) f
unfolding packed
packed-turn n f d w h hd hw =
    ap₂ (λ x y. x * 2 ^ n % 2 ^ 64 + y) hd hw
    ∙ ap (λ x. x + packed n f) (shl_exact 1 n 64 (small (f n)) (omega arith))
    ∙ sym (ap (λ k. packed k f) (add-one n))
  where
    small : (b : Bool) → num b < 2
    small false = omega arith
    small true = omega arith

-- ---- groups of 64 records
module _ (s : List ℕ) (stride : ℕ) (r : List ℕ) (row count : ℕ) where
  abbrev pub bit_term : ℕ → ℕ → Bool
  bit_term j t = sel bits (chosen r row j t) (record_bit s stride count t)

  -- the bits of group g
  abbrev pub packed_at : ℕ → ℕ
  packed_at g = packed 64 (λ e. record_bit s stride count (g * 64 + e))

  -- string j's word after g groups
  unfoldable pub masked : ℕ → ℕ → ℕ
  masked g j = sum numbers g (λ h. bit_and (r_word r row h j) (packed_at h))

  masked-lt : (g j : ℕ) → masked g j < 2 ^ 64
  unfolding masked
  masked-lt g j =
      sum_lt 64 g (λ h. bit_and (r_word r row h j) (packed_at h))
      (λ h l. lt_of_le_of_lt (and_le_r (r_word r row h j) (packed_at h)) (packed_lt 64 (λ e. record_bit s stride count (h * 64 + e))))

  bit_in : (t : ℕ) → t < count → record_bit s stride count t ≡ odd (get_or s (t * stride) 0)
  unfolding record_bit
  bit_in t h = rw (lt-ltb t count h)

  bit-out : (t : ℕ) → count ≤ t → record_bit s stride count t ≡ false
  unfolding record_bit
  bit-out t h = rw (le-ltb t count h)

  -- the digits of the word that string j keeps for group h
  masked-digit : (h j e : ℕ) → Bytes r → j * row + h * 8 + 8 ≤ length r → e < 64
      → odd (bit_and (r_word r row h j) (packed_at h) / 2 ^ e) ≡ bit_term j (h * 64 + e)
  masked-digit h j e hr hl l =
      and-digit (r_word r row h j) (packed_at h) e
      ∙ ap₂ (λ (a b : Bool). sel bits a b) (chosen-digit r row j h e hr hl l)
      (packed-digit 64 (λ e. record_bit s stride count (h * 64 + e)) e l)

  pub masked-all : (g j : ℕ) → Bytes r → 120 * row ≤ length r → g * 8 ≤ row → j < 120 → count ≤ g * 64
      → odd (ones (masked g j)) ≡ bit_sum s stride r row count j
  unfolding masked bit_sum
  masked-all g j hr hl hg l h =
      parity 64 (masked g j) (masked-lt g j)
      ∙ sum-ext bits 64 (λ e. odd (masked g j / 2 ^ e)) (λ e. sum bits g (λ k. F e k))
      (λ e v. sum-digit g (λ k. bit_and (r_word r row k j) (packed_at k)) e)
      ∙ sum-swap bits 64 g F
      ∙ sum-ext bits g (λ k. sum bits 64 (λ e. F e k)) (λ k. sum bits 64 (λ e. bit_term j (k * 64 + e)))
      (λ k v. sum-ext bits 64 (λ e. F e k) (λ e. bit_term j (k * 64 + e)) (λ e u. masked-digit k j e hr (in-record j 120 row (k * 8) 8 (length r) l (omega arith) hl) u))
      ∙ sum-groups bits g 64 (bit_term j)
      ∙ sum_past bits count (g * 64) (bit_term j) h (λ t v. ap (sel bits (chosen r row j t)) (bit-out t v) ∙ sel-nil bits (chosen r row j t))
      ∙ sum-ext bits count (bit_term j) _ (λ t v. ap (sel bits (chosen r row j t)) (bit_in t v))
    where
      F : ℕ → ℕ → Bool
      F e k = odd (bit_and (r_word r row k j) (packed_at k) / 2 ^ e)

  -- a turn of the loop over the groups
  pub masked-turn : (g b : ℕ) (acc win acc' : List ℕ) → acc ≡ tab 120 (masked g) → win ≡ window_of r row (g / 2) → b ≡ packed_at g
      → acc' ≡ tab 120 (masked_at acc win (g % 2) b) → acc' ≡ tab 120 (masked (g + 1))
  unfolding masked
  masked-turn g b acc win acc' ha hw hb e =
      e ∙ tab-ext 120 (masked_at acc win (g % 2) b) (masked (g + 1))
      (λ j l. ap₂ bit_xor (ap (λ (x : List ℕ). get_or x j 0) ha ∙ get_or-tab 120 j (masked g) 0 l)
      (ap₂ bit_and (ap (λ (x : List ℕ). half_at x (g % 2) j) hw ∙ half-group r row g j l) hb)
      ∙ sym (sum-turn numbers g (λ h. bit_and (r_word r row h j) (packed_at h))))

  pub masked-none : replicate 120 0 ≡ tab 120 (masked 0)
  unfolding masked sum tab
  masked-none = refl

  pub masked-end : (g : ℕ) (acc o : List ℕ) → Bytes r → 120 * row ≤ length r → g * 8 ≤ row → count ≤ g * 64 → acc ≡ tab 120 (masked g)
      → o ≡ tab 120 (λ j. num (odd (ones (get_or acc j 0)))) → o ≡ tab 120 (λ j. num (bit_sum s stride r row count j))
  masked-end g acc o hr hl hg h ha e =
      e ∙ tab-ext 120 (λ j. num (odd (ones (get_or acc j 0)))) (λ j. num (bit_sum s stride r row count j))
      (λ j l. ap num (ap (λ x. odd (ones x)) (ap (λ (x : List ℕ). get_or x j 0) ha ∙ get_or-tab 120 j (masked g) 0 l) ∙ masked-all g j hr hl hg l h))
