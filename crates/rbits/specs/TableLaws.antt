-- The tables of sums: entry c of `sums n f` has word e where digit e of c is 1, for every n;
-- and what is looked up in the tables of 64 Blocks.
use Rattle.std.specs.Prelude.{◌≡◌, refl, Bool, true, false, List, ◌++◌, map, ℕ, zero, suc, ◌+◌, ◌-◌, ◌*◌, ◌/◌, ◌%◌, ◌^◌, ◌<◌, ◌≤◌, length, get_or, ltb}
use Rattle.std.proofs.Common.{sym, ap, ap₂, ◌∙◌, add-zero, add_assoc, pow-suc, mod-lt, arith, length-append, get_or-append-add, ltb-true, ltb-false}
use Rattle.std.proofs.Math.Nat.{div-eq_of_lt}
use Rattle.std.proofs.lemmas.List.{length-map}
use Rattle.std.proofs.Math.ListN.{get_or-append, get_or-map}
use Rattle.std.specs.Int.Bits.{bit_xor, bit_and, xor_self, xor_zero_r}
use Rattle.std.proofs.lemmas.Nat.{and_mask}
use Rattle.std.proofs.Math.Arith.{digits_div, digits_mod}
use Rattle.lists.specs.Over.{cat}
use Rattle.lists.specs.Rows.{chunk-cat}
use Rattle.algebra.specs.Xor.{xor_assoc}
use Rattle.algebra.specs.Group.{numbers, sel, odd, unit-r}
use Rattle.algebra.specs.Sum.{sum, sum-ext, sum-turn}
use Rattle.block.specs.declared.Block.{Block}
use Rattle.block.specs.Block.{xor_of}
use Rattle.block.specs.Group.{blocks}
use Rattle.rbits.specs.Chosen.{words_of, pair_at}
use Rattle.rbits.specs.Tables.{sums, sum_at, three, four, sums8, table4, tables, entry, lookup}
use Rattle.rbits.specs.WordLaws.{sel-words, sum-words, words-ext, words_at_lem, pair-chunk}
use Rattle.rbits.specs.SumLaws.{sum-groups}
use Rattle.rbits.specs.DigitLaws.{mod-digit, part-digit}

pub length-sums : (n : ℕ) (f : ℕ → ℕ) → length (sums n f) ≡ 2 ^ n
unfolding sums
length-sums zero f = refl
length-sums (suc n) f =
    length-append (sums n f) (map (λ x. bit_xor x (f n)) (sums n f))
    ∙ ap (λ k. length (sums n f) + k) (length-map (sums n f) (λ x. bit_xor x (f n)))
    ∙ (let q : length (sums n f) ≡ 2 ^ n = length-sums n f in omega (arith, pow-suc 2 n))

-- the words that c chooses
abbrev pub picked : ℕ → (ℕ → ℕ) → ℕ → ℕ
picked n f c = sum numbers n (λ e. sel numbers (odd (c / 2 ^ e)) (f e))

pub sums_at : (n : ℕ) (f : ℕ → ℕ) (c z : ℕ) → c < 2 ^ n → get_or (sums n f) c z ≡ picked n f c
unfolding sums sum odd
sums_at zero f zero z h = refl
sums_at zero f (suc c) z h = absurd (omega arith)
sums_at (suc n) f c z h = go (ltb c (2 ^ n)) refl (sums_at n f)
  where
    g : ℕ → ℕ
    g x = bit_xor x (f n)

    top : ℕ → ℕ
    top k = sel numbers (odd k) (f n)

    go : (b : Bool) → ltb c (2 ^ n) ≡ b → ((c z : ℕ) → c < 2 ^ n → get_or (sums n f) c z ≡ picked n f c)
        → get_or (sums n f ++ map g (sums n f)) c z ≡ bit_xor (picked n f c) (top (c / 2 ^ n))
    go true q ih =
        let l : c < 2 ^ n = ltb-true c (2 ^ n) q in
        get_or-append (sums n f) (map g (sums n f)) z c (rw (length-sums n f) l) ∙ ih c z l
        ∙ sym (ap (λ k. bit_xor (picked n f c) (top k)) (div-eq_of_lt l) ∙ xor_zero_r (picked n f c))
    go false q ih =
        let d : ℕ = c - 2 ^ n in
        let l : 2 ^ n ≤ c = ltb-false c (2 ^ n) q in
        let s : length (sums n f) + d ≡ c = omega (arith, length-sums n f) in
        let k : d < 2 ^ n = omega (arith, pow-suc 2 n) in
        let w : 1 * 2 ^ n + d ≡ c = omega arith in
        let u : z ≡ g (bit_xor z (f n)) = sym (xor_assoc z (f n) (f n) ∙ ap (bit_xor z) (xor_self (f n)) ∙ xor_zero_r z) in
        ap (λ i. get_or (sums n f ++ map g (sums n f)) i z) (sym s) ∙ get_or-append-add (sums n f) (map g (sums n f)) d z
        ∙ ap (get_or (map g (sums n f)) d) u ∙ get_or-map g (sums n f) d (bit_xor z (f n))
        ∙ ap₂ bit_xor
        (ih d (bit_xor z (f n)) k
        ∙ sum-ext numbers n _ (λ e. sel numbers (odd (c / 2 ^ e)) (f e))
        (λ e v. ap (λ b. sel numbers b (f e)) (sym (sym (mod-digit c n e v) ∙ ap (λ x. odd (x / 2 ^ e)) (ap (λ x. x % 2 ^ n) (sym w) ∙ digits_mod 1 k)))))
        (ap top (sym (ap (λ x. x / 2 ^ n) (sym w) ∙ digits_div 1 k)))

-- the Blocks that c chooses
abbrev pub picked_blocks : ℕ → (ℕ → Block) → ℕ → Block
picked_blocks n f c = sum blocks n (λ e. sel blocks (odd (c / 2 ^ e)) (f e))

sum_at_lem : (n : ℕ) (f : ℕ → Block) (c : ℕ) → c < 2 ^ n → sum_at n f c ≡ picked_blocks n f c
sum_at_lem n f c h =
    (λ i. record { 0 = sums_at n (λ e. (f e).0) c 0 h i; 1 = sums_at n (λ e. (f e).1) c 0 h i })
    ∙ sym (sum-words n (λ e. sel numbers (odd (c / 2 ^ e)) (f e).0) (λ e. sel numbers (odd (c / 2 ^ e)) (f e).1))
    ∙ sum-ext blocks n _ (λ e. sel blocks (odd (c / 2 ^ e)) (f e)) (λ e l. sym (sel-words (odd (c / 2 ^ e)) (f e).0 (f e).1))

-- ---- a table of four Blocks
pub length-table4 : (f : ℕ → Block) → length (table4 f) ≡ 32
unfolding table4 words_of cat
length-table4 f = refl

pub length-sums8 : (a b c y : Block) → length (sums8 a b c y) ≡ 16
unfolding sums8 words_of cat
length-sums8 a b c y = refl

-- its halves: without d, and with it
pub table4-halves : (a b c d : Block) → sums8 a b c blocks.nil ++ sums8 a b c d ≡ table4 (four a b c d)
unfolding sums8 table4 words_of cat sums xor_of blocks
table4-halves a b c d =
    ap (λ (x : List ℕ). x ++ sums8 a b c d)
    (words-ext 8 (λ i. xor_of (sum_at 3 (three a b c) i) blocks.nil) (sum_at 3 (three a b c))
    (λ i l. unit-r blocks (sum_at 3 (three a b c) i)))

-- of the records from `first + 4k` on
pub table4-at : (f : ℕ → Block) (first k : ℕ) (a b c d : Block)
    → a ≡ f (first + k * 4) → b ≡ f (first + k * 4 + 1) → c ≡ f (first + k * 4 + 2) → d ≡ f (first + k * 4 + 3)
    → table4 (four a b c d) ≡ table4 (λ e. f (first + (k * 4 + e)))
unfolding table4 words_of cat sums
table4-at f first k a b c d ea eb ec ed =
    let at : (e : ℕ) → f (first + k * 4 + e) ≡ f (first + (k * 4 + e)) = λ e. ap f (add_assoc first (k * 4) e) in
    λ i. table4 (four ((ea ∙ ap (λ n. f (first + n)) (sym (add-zero (k * 4)))) i) ((eb ∙ at 1) i) ((ec ∙ at 2) i) ((ed ∙ at 3) i))

-- the first entry is the sum of nothing
pub tables-first : (f : ℕ → Block) (t : List ℕ) → t ≡ tables f → (get_or t 0 0 ≡ 0) × (get_or t 1 0 ≡ 0)
unfolding tables table4 words_of cat sums
tables-first f t e = (ap (λ (x : List ℕ). get_or x 0 0) e, ap (λ (x : List ℕ). get_or x 1 0) e)

-- what w chooses of 64 Blocks, four digits at a time
pub lookup-tables : (f : ℕ → Block) (w : ℕ) → lookup (tables f) w ≡ picked_blocks 64 f w
unfolding lookup tables table4
lookup-tables f w = sum-ext blocks 16 (entry (tables f) w) (λ k. sum blocks 4 (λ e. F (k * 4 + e))) each ∙ sum-groups blocks 16 4 F
  where
    F : ℕ → Block
    F e = sel blocks (odd (w / 2 ^ e)) (f e)

    g : ℕ → List ℕ
    g k = table4 (λ e. f (k * 4 + e))

    each : (k : ℕ) → k < 16 → pair_at (cat 16 g) (k * 16 + w / 2 ^ (k * 4) % 16) ≡ sum blocks 4 (λ e. F (k * 4 + e))
    each k h =
        let c : ℕ = w / 2 ^ (k * 4) % 16 in
        let l : c < 16 = mod-lt (w / 2 ^ (k * 4)) (omega arith) in
        pair-chunk k c (cat 16 g) l
        ∙ ap (λ (x : List ℕ). pair_at x c) (chunk-cat 32 16 g (λ j v. length-table4 (λ e. f (j * 4 + e))) k h)
        ∙ words_at_lem 16 (sum_at 4 (λ e. f (k * 4 + e))) c l
        ∙ sum_at_lem 4 (λ e. f (k * 4 + e)) c l
        ∙ sum-ext blocks 4 _ (λ e. F (k * 4 + e)) (λ e v. ap (λ b. sel blocks b (f (k * 4 + e))) (part-digit w (k * 4) 4 e v))

-- a turn of the loop over the digits, four at a time
pub lookup-turn : (t : List ℕ) (w k a b : ℕ) → record { 0 = a; 1 = b } ≡ sum blocks k (entry t w)
    → record {
      0 = bit_xor a (get_or t ((k * 16 + bit_and (w / 2 ^ (k * 4)) 15) * 2) 0);
      1 = bit_xor b (get_or t ((k * 16 + bit_and (w / 2 ^ (k * 4)) 15) * 2 + 1) 0);
    } ≡ sum blocks (k + 1) (entry t w)
unfolding blocks xor_of
lookup-turn t w k a b h =
    ap₂ (λ (x : Block) y. xor_of x (pair_at t (k * 16 + y))) h (and_mask (w / 2 ^ (k * 4)) 4) ∙ sym (sum-turn blocks k (entry t w))
