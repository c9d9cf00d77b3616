-- A chunk's blocks, one after the other.
use Rattle.std.specs.Prelude.{◌≡◌, ◌∷◌, ◌++◌, ◌+◌, ◌-◌, ◌*◌}
use Rattle.lists.specs.Kit.{refl, ap, ◌∙◌, List, [], ℕ, zero, suc, length, get_or, take, drop, replicate}
use mathlib.Core.List.{map}
use Prim.Native.Nat.{◌/◌}
use native.Mathlib.Numerals.{add-one}
use native.Mathlib.Nat.{le_of_eq}
use lib.ListN.{length-drop}
use lib.Seq.{take_all, get_or-drop}
use Rattle.word.specs.Word.{word}
use Rattle.blake3_core.specs.Compress.{compress}
use Rattle.blake3_node.specs.Node.{after, block_words, start_flag, chunk}

-- a part from a place to the end, as the borrow checker has it
pub tail : (s : List ℕ) (k : ℕ) → take (length s - k) (drop k s) ≡ drop k s
tail s k = take_all (length s - k) (drop k s) (le_of_eq (length-drop k s))

-- one more block
pub next : (s : List ℕ) (t k d : ℕ) {h m r : List ℕ}
    → h ≡ after k s t → d ≡ start_flag k → m ≡ block_words (take (length s - 64 * k) (drop (64 * k) s))
    → r ≡ compress h m t 64 d → r ≡ after (k + 1) s t
unfolding after
next s t k d eh ed em er = er ∙ rw (add-one, eh, ed, em, tail)

-- the last block
pub last : (s : List ℕ) (t f k d : ℕ) {h m r : List ℕ}
    → h ≡ after k s t → d ≡ start_flag k → m ≡ block_words (take (length s - 64 * k) (drop (64 * k) s))
    → (length s - 1) / 64 ≡ k → r ≡ compress h m t (length s - 64 * k) (d + 2 + f) → r ≡ chunk s t f
unfolding chunk
last s t f k d eh ed em ek er = er ∙ rw (ek, eh, ed, em, tail)

-- zeros behind a list change no word of it
zeros : (n k : ℕ) → ◌≡◌ {A = ℕ} (get_or (replicate n 0) k 0) 0
zeros zero k = refl
zeros (suc n) zero = refl
zeros (suc n) (suc k) = zeros n k

behind : (s : List ℕ) (i n k : ℕ) → get_or (s ++ drop i (replicate n 0)) k 0 ≡ get_or s k 0
behind [] i n k = get_or-drop i (replicate n 0) k 0 ∙ zeros n (i + k)
behind (a ∷ s) i n zero = refl
behind (a ∷ s) i n (suc k) = behind s i n k

same-words : (b s : List ℕ) → ((k : ℕ) → get_or b k 0 ≡ get_or s k 0) → block_words b ≡ block_words s
same-words b s h j =
    map (λ (i : ℕ). word (h i j) (h (i + 1) j) (h (i + 2) j) (h (i + 3) j))
    (0 ∷ 4 ∷ 8 ∷ 12 ∷ 16 ∷ 20 ∷ 24 ∷ 28 ∷ 32 ∷ 36 ∷ 40 ∷ 44 ∷ 48 ∷ 52 ∷ 56 ∷ 60 ∷ [])

pub padded-words : (s x : List ℕ) (n : ℕ) → x ≡ s → block_words (x ++ drop (length s) (replicate n 0)) ≡ block_words s
padded-words s x n e =
    same-words (x ++ drop (length s) (replicate n 0)) s
    (λ k. ap (λ (l : List ℕ). get_or (l ++ drop (length s) (replicate n 0)) k 0) e ∙ behind s (length s) n k)
