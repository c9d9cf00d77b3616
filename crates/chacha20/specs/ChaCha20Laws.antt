-- ChaCha20 as the code has it, step by step; and the words of a block read back from its bytes.
use Rattle.std.specs.Prelude.{◌≡◌, refl, List, ℕ, ◌+◌, ◌*◌, ◌^◌, ◌<◌, get_or}
use Rattle.std.proofs.Common.{ap, ◌∙◌, add-one, arith}
use Rattle.std.specs.Int.Bits.{bit_xor}
use Rattle.lists.specs.Over.{get_or-tab}
use Rattle.word.specs.Word.{rotl, plus, word_at, word_list}
use Rattle.word.specs.WordLaws.{word_read}
use Rattle.chacha20.specs.ChaCha20.{half, qround, columns, diagonals, inner_block, rounds, state, sums, words, serialize, block}

-- ---- a quarter round
-- one half of it
pub in-half : (j k a b c d : ℕ) {a' d' c' b' : ℕ} → a' ≡ plus a b → d' ≡ rotl j (bit_xor d a') → c' ≡ plus c d'
    → b' ≡ rotl k (bit_xor b c') → (record { a = a'; b = b'; c = c'; d = d' }) ≡ half j k (record { a = a; b = b; c = c; d = d })
unfolding half
in-half j k a b c d p q r s = cc

-- ---- four of them
pub in-columns : (v : List ℕ) {v1 v2 v3 v4 : List ℕ} → v1 ≡ qround 0 4 8 12 v → v2 ≡ qround 1 5 9 13 v1 → v3 ≡ qround 2 6 10 14 v2
    → v4 ≡ qround 3 7 11 15 v3 → v4 ≡ columns v
unfolding columns
in-columns v p1 p2 p3 p4 = p4 ∙ ap (qround 3 7 11 15) (p3 ∙ ap (qround 2 6 10 14) (p2 ∙ ap (qround 1 5 9 13) p1))

pub in-diagonals : (v : List ℕ) {v1 v2 v3 v4 : List ℕ} → v1 ≡ qround 0 5 10 15 v → v2 ≡ qround 1 6 11 12 v1 → v3 ≡ qround 2 7 8 13 v2
    → v4 ≡ qround 3 4 9 14 v3 → v4 ≡ diagonals v
unfolding diagonals
in-diagonals v p1 p2 p3 p4 = p4 ∙ ap (qround 3 4 9 14) (p3 ∙ ap (qround 2 7 8 13) (p2 ∙ ap (qround 1 6 11 12) p1))

-- ---- the double rounds
pub rounds-zero : (s : List ℕ) → s ≡ rounds 0 s
unfolding rounds
rounds-zero s = refl

-- one more, by its halves a and b
pub rounds-turn : (i : ℕ) (s v : List ℕ) {a b : List ℕ} → v ≡ rounds i s → a ≡ columns v → b ≡ diagonals a → b ≡ rounds (i + 1) s
unfolding rounds inner_block
rounds-turn i s v e p q = rw (add-one i) (q ∙ ap diagonals (p ∙ ap columns e))

-- the whole
pub in_words : (key : List ℕ) (counter : ℕ) (nonce : List ℕ) {s v r : List ℕ} → s ≡ state key counter nonce → v ≡ rounds 10 s → r ≡ sums v s
    → r ≡ words key counter nonce
unfolding words
in_words key counter nonce p q e = rw (e, q, p)

pub in_block : (key : List ℕ) (counter : ℕ) (nonce : List ℕ) {k n v r : List ℕ} → k ≡ word_list 8 key → n ≡ word_list 3 nonce
    → v ≡ words k counter n → r ≡ serialize v → r ≡ block key counter nonce
unfolding block
in_block key counter nonce p q e f = rw (f, e, p, q)

-- ---- the words of a block
-- a sum is a word
pub sums-small : (v s : List ℕ) (i : ℕ) → i < 16 → get_or (sums v s) i 0 < 2 ^ 32
unfolding sums
sums-small v s i h =
    let e = get_or-tab 16 i (λ k. plus (get_or v k 0) (get_or s k 0)) 0 h in
    omega (arith, e)

-- word i of a block, from its bytes
pub block-word : (key : List ℕ) (counter : ℕ) (nonce : List ℕ) (i : ℕ) → i < 16
    → word_at (i * 4) (block key counter nonce) ≡ get_or (words (word_list 8 key) counter (word_list 3 nonce)) i 0
unfolding block words serialize
block-word key counter nonce i h = word_read 16 (words (word_list 8 key) counter (word_list 3 nonce)) i h (sums-small _ _ i h)
