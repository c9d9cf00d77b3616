-- Four lanes take their chunks on by one block, and end with the chaining values of the chunks.
use Rattle.std.specs.Prelude.{◌≡◌, ℕ, ◌+◌, ◌*◌, ◌/◌, ◌%◌, ◌^◌, ◌<◌, length, drop}
use Rattle.std.proofs.Math.Path.{ap, ap₂}
use Rattle.std.proofs.Common.{◌∙◌, arith}
use mathlib.Core.List.{List}
use Rattle.std.proofs.Math.Numerals.{add-one}
use Rattle.std.proofs.Math.ListN.{get_or}
use Rattle.lists.specs.Over.{tab, get_or-tab}
use Rattle.lists.specs.Rows.{tab-ext}
use Rattle.lists.specs.Sect.{length-get}
use Rattle.blake3_core.specs.Compress.{compress}
use Rattle.blake3_node.specs.Node.{BLOCK_LEN, CHUNK_LEN, CHUNK_END, block_words, start_flag, after, chunk, parent}
use Rattle.blake3_chunks.specs.declared.Node.{Node}
use Rattle.blake3_chunks.specs.Chunks.{LANES, WINDOW, LAST, chunk_of, node, no_node, chained, pressed, four}

-- lane j before block k
unfoldable pub before : List ℕ → ℕ → ℕ → ℕ → Node
before s t k j = node (after k (chunk_of s j) (t + j))

-- `compress` of block k of chunk c
abbrev block : List ℕ → ℕ → ℕ → ℕ → List ℕ
block c t k f = compress (after k c t) (block_words (drop (BLOCK_LEN * k) c)) t BLOCK_LEN f

block_last : (c : List ℕ) (t : ℕ) → length c ≡ CHUNK_LEN → block c t LAST CHUNK_END ≡ chunk c t 0
unfolding chunk
block_last c t h = rw h

module _ (s : List ℕ) (t k f : ℕ) (hs ds : List Node) (ls us : List ℕ)
    (eh : hs ≡ tab LANES (before s t k)) (el : ls ≡ tab LANES (λ j. (t + j) % 2 ^ 32)) (eu : us ≡ tab LANES (λ j. (t + j) / 2 ^ 32))
    (ed : ds ≡ tab LANES (λ j. pressed (get_or hs j no_node) (chunk_of s j) k (get_or ls j 0) (get_or us j 0) f)) where
  lane : (j : ℕ) → j < LANES
      → pressed (get_or hs j no_node) (chunk_of s j) k (get_or ls j 0) (get_or us j 0) f ≡ node (block (chunk_of s j) (t + j) k f)
  unfolding pressed compress before
  lane j h =
      let n : get_or hs j no_node ≡ before s t k j = ap (λ (l : List Node). get_or l j no_node) eh ∙ get_or-tab LANES j (before s t k) no_node h in
      let x : get_or ls j 0 ≡ (t + j) % 2 ^ 32 = ap (λ (l : List ℕ). get_or l j 0) el ∙ get_or-tab LANES j (λ j. (t + j) % 2 ^ 32) 0 h in
      let y : get_or us j 0 ≡ (t + j) / 2 ^ 32 = ap (λ (l : List ℕ). get_or l j 0) eu ∙ get_or-tab LANES j (λ j. (t + j) / 2 ^ 32) 0 h in
      ap (λ (n : Node). pressed n (chunk_of s j) k (get_or ls j 0) (get_or us j 0) f) n
      ∙ ap₂ (λ (x y : ℕ). pressed (before s t k j) (chunk_of s j) k x y f) x y

  -- a block that is not the last
  pub lanes_next : f ≡ start_flag k → ds ≡ tab LANES (before s t (k + 1))
  unfolding before after
  lanes_next e =
      ed ∙ tab-ext LANES (λ j. pressed (get_or hs j no_node) (chunk_of s j) k (get_or ls j 0) (get_or us j 0) f) (before s t (k + 1))
      (λ j h. lane j h ∙ rw (e, add-one k))

  -- the last
  pub lanes-last : length s ≡ WINDOW → k ≡ LAST → f ≡ CHUNK_END → ds ≡ tab LANES (chained s t)
  unfolding chained
  lanes-last w ek ef =
      ed ∙ tab-ext LANES (λ j. pressed (get_or hs j no_node) (chunk_of s j) k (get_or ls j 0) (get_or us j 0) f) (chained s t)
      (λ j h. lane j h ∙ ap₂ (λ (k f : ℕ). node (block (chunk_of s j) (t + j) k f)) ek ef
      ∙ ap node (block_last (chunk_of s j) (t + j) (length-get (CHUNK_LEN * j) CHUNK_LEN s (omega arith))))

-- the parents
pub over-four : (s : List ℕ) (t f : ℕ) (hs : List Node) (z : Node) {l r h : List ℕ} → hs ≡ tab LANES (chained s t)
    → l ≡ parent (get_or hs 0 z).0 (get_or hs 1 z).0 0 → r ≡ parent (get_or hs 2 z).0 (get_or hs 3 z).0 0 → h ≡ parent l r f → h ≡ four s t f
unfolding tab chained four
over-four s t f hs z e el er eh =
    eh ∙ ap₂ (λ (l r : List ℕ). parent l r f)
    (el ∙ ap (λ (hs : List Node). parent (get_or hs 0 z).0 (get_or hs 1 z).0 0) e)
    (er ∙ ap (λ (hs : List Node). parent (get_or hs 2 z).0 (get_or hs 3 z).0 0) e)
