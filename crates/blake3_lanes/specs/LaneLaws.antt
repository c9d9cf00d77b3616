-- A lane's digest is the hash of its Block; the Blocks of a window are Blocks of the whole; the hashes of some lanes of a window.
use Rattle.std.specs.Prelude.{◌≡◌, List, ◌++◌, ℕ, ◌+◌, ◌-◌, ◌*◌, ◌<◌, ◌≤◌, length, take, drop, get_or}
use Rattle.std.proofs.Common.{sym, ap, ◌∙◌, append_assoc, arith, take_at, drop_at}
use Rattle.lists.specs.Over.{tab, cat, cat-add, length-cat, get_or-tab}
use Rattle.lists.specs.Rows.{cat-ext}
use Rattle.lists.specs.Bytes.{Bytes}
use Rattle.block.specs.declared.Block.{Block}
use Rattle.block.specs.Block.{block_at, bytes_of}
use Rattle.block.specs.Trip.{small_at, block-get}
use Rattle.blake3.specs.declared.Digest.{Digest}
use Rattle.blake3.specs.Tree.{hash, digest, bytes}
use Rattle.blake3.specs.ByteLaws.{length-bytes, block-digest}
use Rattle.blake3_lanes.specs.declared.Words.{Words}
use Rattle.blake3_lanes.specs.Lanes.{hash_at, words_at, no_words, digest_of}

pub length-hash_at : (s : List ℕ) (t : ℕ) → length (hash_at s t) ≡ 32
unfolding hash
length-hash_at s t = length-bytes (digest (bytes_of (block_at s (t * 16))))

pub length-hashes : (s : List ℕ) (j m : ℕ) → length (cat m (λ k. hash_at s (j + k))) ≡ m * 32
length-hashes s j m = length-cat m 32 (λ k. hash_at s (j + k)) (λ k h. length-hash_at s (j + k))

-- lane t of a window
pub lane-hash : (s : List ℕ) (n : ℕ) (ms : List Words) (ds : List Digest) (z : Digest) (t : ℕ) → Bytes s → ms ≡ tab n (words_at s)
    → ds ≡ tab n (λ k. digest_of (get_or ms k no_words)) → t < n → bytes (get_or ds t z).0 ≡ hash_at s t
unfolding words_at digest_of hash
lane-hash s n ms ds z t b em ed h =
    let b16 = block_at s (t * 16) in
    ap (λ (l : List Digest). bytes (get_or l t z).0) ed
    ∙ ap (λ (d : Digest). bytes d.0) (get_or-tab n t (λ k. digest_of (get_or ms k no_words)) z h)
    ∙ ap (λ (l : List Words). bytes (digest_of (get_or l t no_words)).0) em
    ∙ ap (λ (w : Words). bytes (digest_of w).0) (get_or-tab n t (words_at s) no_words h)
    ∙ ap bytes (block-digest b16 (small_at s b (t * 16)))

-- the Blocks of a window, in the whole
pub hash-part : (s : List ℕ) (a e j m : ℕ) → a ≡ j * 16 → e ≡ a + m * 16
    → cat m (hash_at (take (e - a) (drop a s))) ≡ cat m (λ k. hash_at s (j + k))
hash-part s a e j m ea ee = cat-ext m (hash_at (take (e - a) (drop a s))) (λ k. hash_at s (j + k)) (λ k h.
    ap (λ (b : Block). hash (bytes_of b)) (
    block-get s a (e - a) (k * 16) (omega arith) ∙ ap (block_at s) (let q : a + k * 16 ≡ (j + k) * 16 = omega arith in q)))

-- c chunks from chunk a on, of n chunks of k elements each
get-cat : (n k a c : ℕ) (g : ℕ → List ℕ) → ((j : ℕ) → j < n → length (g j) ≡ k) → a + c ≤ n → take (c * k) (drop (a * k) (cat n g)) ≡ cat c
    (λ q. g (a + q))
get-cat n k a c g h l =
    let x : List ℕ = cat a g in
    let y : List ℕ = cat c (λ q. g (a + q)) in
    let z : List ℕ = cat (n - (a + c)) (λ q. g (a + c + q)) in
    let whole : cat n g ≡ x ++ (y ++ z) =
    ap (λ m. cat m g) (let e : n ≡ a + c + (n - (a + c)) = omega arith in e) ∙ sym (cat-add g (a + c) (n - (a + c)))
    ∙ ap (λ (w : List ℕ). w ++ z) (sym (cat-add g a c)) ∙ append_assoc x y z in
    ap (λ (w : List ℕ). take (c * k) (drop (a * k) w)) whole
    ∙ ap (take (c * k)) (drop_at x (y ++ z) (a * k) (length-cat a k g (λ j m. h j (omega arith))))
    ∙ take_at y z (c * k) (length-cat c k (λ q. g (a + q)) (λ j m. h (a + j) (omega arith)))

-- the hashes of c lanes from lane a on, in which the Blocks b stand
pub hash-lanes : (s : List ℕ) (n a c : ℕ) (b : ℕ → Block) → a + c ≤ n → ((q : ℕ) → q < c → block_at s ((a + q) * 16) ≡ b q)
    → take (c * 32) (drop (a * 32) (cat n (hash_at s))) ≡ cat c (λ q. hash (bytes_of (b q)))
hash-lanes s n a c b l e =
    get-cat n 32 a c (hash_at s) (λ j h. length-hash_at s j) l
    ∙ cat-ext c (λ q. hash_at s (a + q)) (λ q. hash (bytes_of (b q))) (λ q h. ap (λ (x : Block). hash (bytes_of x)) (e q h))
