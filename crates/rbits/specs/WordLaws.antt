-- Blocks as two words each: sums word by word, and arrays of words.
use Rattle.std.specs.Prelude.{◌≡◌, refl, ◌≢◌, Bool, true, false, List, [], ◌∷◌, ◌++◌, ℕ, zero, suc, ◌+◌, ◌*◌, ◌<◌, ◌≤◌, length, get_or, set, replicate}
use Rattle.std.proofs.Common.{sym, ap, ap₂, ◌∙◌, add-zero, suc-mul, arith, length-set, take_all, get_or-set_same, get_or-set_other}
use Rattle.std.proofs.lemmas.List.{replicate-append-replicate}
use Rattle.lists.specs.Over.{cat}
use Rattle.lists.specs.Rows.{chunk, cat-ext, chunk-cat, cat-chunk, length-chunk, get_d_chunk}
use Rattle.algebra.specs.Group.{numbers, sel}
use Rattle.algebra.specs.Sum.{sum}
use Rattle.block.specs.declared.Block.{Block}
use Rattle.block.specs.Block.{xor_of, zero_of}
use Rattle.block.specs.Group.{blocks}
use Rattle.rbits.specs.Chosen.{words_of, pair_at}
use Rattle.rbits.specs.Tables.{pair}

-- ---- Blocks, word by word
pub sel-words : (b : Bool) (x y : ℕ) → sel blocks b (record { 0 = x; 1 = y }) ≡ record { 0 = sel numbers b x; 1 = sel numbers b y }
unfolding blocks zero_of
sel-words false x y = refl
sel-words true x y = refl

pub sum-words : (n : ℕ) (f g : ℕ → ℕ)
    → sum blocks n (λ t. record { 0 = f t; 1 = g t }) ≡ record { 0 = sum numbers n f; 1 = sum numbers n g }
unfolding sum blocks xor_of zero_of
sum-words zero f g = refl
sum-words (suc n) f g = ap (λ (x : Block). xor_of x (record { 0 = f n; 1 = g n })) (sum-words n f g)

-- ---- arrays of words
pub words-ext : (n : ℕ) (f g : ℕ → Block) → ((j : ℕ) → j < n → f j ≡ g j) → words_of n f ≡ words_of n g
unfolding words_of
words-ext n f g h = cat-ext n _ _ (λ j l. ap (λ (x : Block). x.0 ∷ x.1 ∷ []) (h j l))

-- what is kept for string j
pub words_at_lem : (n : ℕ) (f : ℕ → Block) (j : ℕ) → j < n → pair_at (words_of n f) j ≡ f j
unfolding words_of
words_at_lem n f j h =
    let w : ℕ → List ℕ = λ j. (f j).0 ∷ (f j).1 ∷ [] in
    let at : (e : ℕ) → e < 2 → get_or (cat n w) (j * 2 + e) 0 ≡ get_or (w j) e 0 =
    λ e l. sym (get_d_chunk 2 j (cat n w) e 0 l) ∙ ap (λ (x : List ℕ). get_or x e 0) (chunk-cat 2 n w (λ k v. refl) j h) in
    let a : get_or (cat n w) (j * 2) 0 ≡ (f j).0 = rw add-zero at (at 0 (omega arith)) in
    let b : get_or (cat n w) (j * 2 + 1) 0 ≡ (f j).1 = at 1 (omega arith) in
    λ i. record { 0 = a i; 1 = b i }

-- such an array has the Blocks that are read from it
pub words-self : (n : ℕ) (l : List ℕ) → length l ≡ n * 2 → l ≡ words_of n (pair_at l)
unfolding words_of
words-self n l h =
    sym (take_all (n * 2) l (omega arith)) ∙ sym (cat-chunk 2 n l)
    ∙ cat-ext n (λ j. chunk 2 j l) _
    (λ j v. two (chunk 2 j l) (length-chunk 2 n j l v (omega arith))
    ∙ ap₂ (λ x y. x ∷ y ∷ []) (rw (get_d_chunk 2 j l 0 0 (omega arith), add-zero (j * 2)) refl) (get_d_chunk 2 j l 1 0 (omega arith)))
  where
    two : (x : List ℕ) → length x ≡ 2 → x ≡ get_or x 0 0 ∷ get_or x 1 0 ∷ []
    two [] e = absurd (omega (arith, e))
    two (a ∷ []) e = absurd (omega (arith, e))
    two (a ∷ b ∷ []) e = refl
    two (a ∷ b ∷ c ∷ x) e = absurd (omega (arith, e))

-- both words of Block p are written
pub pair_set : (l : List ℕ) (p x y : ℕ) → p * 2 + 2 ≤ length l → pair_at (set (set l (p * 2) x) (p * 2 + 1) y) p ≡ pair x y
pair_set l p x y h =
    let a : get_or (set (set l (p * 2) x) (p * 2 + 1) y) (p * 2) 0 ≡ x =
    get_or-set_other (set l (p * 2) x) (p * 2 + 1) (p * 2) y 0 (λ e. omega arith) ∙ get_or-set_same l (p * 2) x 0 (omega arith) in
    let b : get_or (set (set l (p * 2) x) (p * 2 + 1) y) (p * 2 + 1) 0 ≡ y =
    get_or-set_same (set l (p * 2) x) (p * 2 + 1) y 0 (rw (length-set l (p * 2) x) (omega arith)) in
    λ i. record { 0 = a i; 1 = b i }

pub pair-other : (l : List ℕ) (p q x y : ℕ) → q ≢ p → pair_at (set (set l (p * 2) x) (p * 2 + 1) y) q ≡ pair_at l q
pair-other l p q x y h =
    let a : get_or (set (set l (p * 2) x) (p * 2 + 1) y) (q * 2) 0 ≡ get_or l (q * 2) 0 =
    get_or-set_other (set l (p * 2) x) (p * 2 + 1) (q * 2) y 0 (λ e. omega arith)
    ∙ get_or-set_other l (p * 2) (q * 2) x 0 (λ e. h (omega arith)) in
    let b : get_or (set (set l (p * 2) x) (p * 2 + 1) y) (q * 2 + 1) 0 ≡ get_or l (q * 2 + 1) 0 =
    get_or-set_other (set l (p * 2) x) (p * 2 + 1) (q * 2 + 1) y 0 (λ e. h (omega arith))
    ∙ get_or-set_other l (p * 2) (q * 2 + 1) x 0 (λ e. omega arith) in
    λ i. record { 0 = a i; 1 = b i }

pub words-zero : (n : ℕ) → replicate (n * 2) 0 ≡ words_of n (λ j. blocks.nil)
unfolding words_of cat blocks zero_of
words-zero zero = refl
words-zero (suc n) =
    ap (λ k. replicate k 0) (suc-mul n 2) ∙ sym (replicate-append-replicate (n * 2) 2 0)
    ∙ ap (λ (x : List ℕ). x ++ (0 ∷ 0 ∷ [])) (words-zero n)

-- Block i of table k, of 16 Blocks each
pub pair-chunk : (k i : ℕ) (l : List ℕ) → i < 16 → pair_at l (k * 16 + i) ≡ pair_at (chunk 32 k l) i
pair-chunk k i l h =
    let at : (e : ℕ) → e < 2 → get_or l ((k * 16 + i) * 2 + e) 0 ≡ get_or (chunk 32 k l) (i * 2 + e) 0 =
    λ e v. ap (λ n. get_or l n 0) (let q : (k * 16 + i) * 2 + e ≡ k * 32 + (i * 2 + e) = omega arith in q)
    ∙ sym (get_d_chunk 32 k l (i * 2 + e) 0 (omega arith)) in
    let a : get_or l ((k * 16 + i) * 2) 0 ≡ get_or (chunk 32 k l) (i * 2) 0 = rw (add-zero, add-zero) at (at 0 (omega arith)) in
    let b : get_or l ((k * 16 + i) * 2 + 1) 0 ≡ get_or (chunk 32 k l) (i * 2 + 1) 0 = at 1 (omega arith) in
    λ j. record { 0 = a j; 1 = b j }
