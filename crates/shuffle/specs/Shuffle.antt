-- The permutation from the joint seed (02, order 6). `w c` is word c of the key stream, from 0.
use Rattle.std.specs.Prelude.{List, ℕ, zero, suc, ◌-◌, ◌*◌, ◌/◌, ◌%◌, ◌^◌, get_or, set, replicate, ltb}
use Rattle.lists.specs.Pick.{pick}
use Rattle.lists.specs.Over.{tab}
use Rattle.word.specs.Word.{word_at}
use Rattle.chacha20.specs.ChaCha20.{block}

-- ---- the words
-- "ChaCha20 (RFC 8439), key the joint seed, nonce zero, counter from 0, words of 32 bits low byte first": a block has 16 of them
unfoldable pub key_word : List ℕ → ℕ → ℕ
key_word key c = word_at (c % 16 * 4) (block key (c / 16) (replicate 12 0))

-- ---- the swaps
-- "the largest multiple of t + 1 not above 2^32"; m is t + 1
unfoldable pub multiple : ℕ → ℕ
multiple m = 2 ^ 32 / m * m

-- "After 64 words passed over at one t, the 65th is used as it is."
abbrev pub PASSED : ℕ
PASSED = 64

-- The number of the word that is used at t, from word c on, where as many as `left` may be passed over: "if w is below" that multiple, it
-- is used; "Otherwise take the next word."
unfoldable pub used : (ℕ → ℕ) → ℕ → ℕ → ℕ → ℕ
used w m zero c = c
used w m (suc left) c = pick (ltb (w c) (multiple m)) c (used w m left (suc c))

-- "swap entries t and" j
unfoldable pub swap : ℕ → ℕ → List ℕ → List ℕ
swap t j p = set (set p t (get_or p j 0)) j (get_or p t 0)

-- "From index t .. down to 1, take a word w" and "swap entries t and w mod (t + 1)": the words run on from one t to the next
unfoldable pub down : (ℕ → ℕ) → ℕ → ℕ → List ℕ → List ℕ
down w zero c p = p
down w (suc t) c p =
    let u = used w (suc (suc t)) PASSED c in
    down w t (suc u) (swap (suc t) (w u % suc (suc t)) p)

-- "Start with 0 to l·b − 1 in order. From index t = l·b − 1": n is l·b
unfoldable pub shuffled : (ℕ → ℕ) → ℕ → List ℕ
shuffled w n = down w (n - 1) 0 (tab n (λ k. k))

-- ---- in all
unfoldable pub permutation : List ℕ → ℕ → List ℕ
permutation key n = shuffled (key_word key) n
