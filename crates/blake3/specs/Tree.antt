-- BLAKE3 of a list of bytes: the tree over its chunks (the specification, 2.1), its root in words and in bytes.
use Rattle.std.specs.Prelude.{ℕ, zero, suc, ◌+◌, ◌-◌, ◌*◌, ◌/◌, ◌%◌, ◌^◌, List, length, get_or, take, drop, leb, ltb}
use Rattle.lists.specs.Over.{tab}
use Rattle.lists.specs.Pick.{pick}
use Rattle.word.specs.Word.{byte_of}
use Rattle.blake3_node.specs.Node.{chunk, parent, CHUNK_LEN, ROOT}

-- how many chunks n bytes take: at least one
abbrev pub chunks : ℕ → ℕ
chunks n = (n - 1) / CHUNK_LEN + 1

-- the largest power of two below n, of those up to 2 ^ k
unfoldable pub power_below : ℕ → ℕ → ℕ
power_below zero n = 1
power_below (suc k) n = pick (ltb (2 ^ suc k) n) (2 ^ suc k) (power_below k n)

-- of n chunks the left subtree takes the largest power of two below n
unfoldable pub left_chunks : ℕ → ℕ
left_chunks n = power_below n n

-- the chaining value of the tree over s, whose first chunk has number t, with the flags f at its top; d bounds the depth
unfoldable pub tree_in : ℕ → List ℕ → ℕ → ℕ → List ℕ
tree_in zero s t f = chunk s t f
tree_in (suc d) s t f =
    pick (leb (length s) CHUNK_LEN) (chunk s t f)
    (let k = left_chunks (chunks (length s)) in
    parent (tree_in d (take (CHUNK_LEN * k) s) t 0) (tree_in d (drop (CHUNK_LEN * k) s) (t + k) 0) f)

-- there are at least as many chunks as levels below the top
unfoldable pub tree : List ℕ → ℕ → ℕ → List ℕ
tree s t f = tree_in (chunks (length s)) s t f

-- ---- BLAKE3 of s

-- in eight words
unfoldable pub digest : List ℕ → List ℕ
digest s = tree s 0 ROOT

-- the bytes of eight words, of each the lowest first
unfoldable pub bytes : List ℕ → List ℕ
bytes h = tab 32 (λ k. byte_of (k % 4) (get_or h (k / 4) 0))

-- in 32 bytes
unfoldable pub hash : List ℕ → List ℕ
hash s = bytes (digest s)
