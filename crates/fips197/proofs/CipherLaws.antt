-- The cipher gives 16 bytes, where the words of its key are bytes; and those of a key of bytes are.
use Rattle.std.specs.Prelude.{◌≡◌, refl, Bool, true, false, List, ℕ, zero, suc, ◌+◌, ◌-◌, ◌*◌, ◌/◌, ◌%◌, ◌<◌, ◌≤◌, length, get_or, ltb, eqb}
use Rattle.std.proofs.Common.{arith, ltb-true}
use Rattle.std.specs.Int.Bits.{bit_xor}
use Rattle.std.proofs.lemmas.Nat.{xor_lt}
use Rattle.lists.specs.Pick.{pick}
use Rattle.lists.specs.Over.{length-tab}
use Rattle.lists.specs.All.{all_of, of-all}
use Rattle.lists.specs.Bytes.{Bytes, bytes-append, bytes-tab}
use Rattle.algebra.specs.Group.{odd}
use Rattle.algebra.specs.Sum.{sum}
use Rattle.fips197.specs.Field.{times, mod_m, product}
use Rattle.fips197.specs.Key.{word_byte, power, rcon, sub_rot, temp, next, words, key_expansion}
use Rattle.fips197.specs.Cipher.{sub_bytes, shift_rows, add_round_key, rounds, cipher}
use Rattle.fips197.proofs.SboxLaws.{sbox-byte}

byte-xor : (a b : ℕ) → a < 256 → b < 256 → bit_xor a b < 256
byte-xor a b h k = xor_lt 8 a b h k

byte-pick : (t : Bool) (a b : ℕ) → a < 256 → b < 256 → pick t a b < 256
byte-pick true a b h k = h
byte-pick false a b h k = k

-- ---- the words of a key
powers : all_of 10 (λ k. ltb (power k) 256) ≡ true
unfolding all_of odd sum times mod_m product power
powers = refl

-- the key has ten round constants
byte-rcon : (j r : ℕ) → 1 ≤ j → j ≤ 10 → rcon j r < 256
unfolding rcon
byte-rcon j r l h =
    byte-pick (eqb r 0) (power (j - 1)) 0
    (ltb-true (power (j - 1)) 256 (of-all 10 (λ k. ltb (power k) 256) powers (j - 1) (omega arith))) (omega arith)

byte-temp : (w : List ℕ) (i r : ℕ) → Bytes w → 4 ≤ i → i < 44 → temp w i r < 256
unfolding temp
byte-temp w i r hw l h =
    byte-pick (eqb (i % 4) 0) (bit_xor (sub_rot w (i - 1) r) (rcon (i / 4) r)) (word_byte w (i - 1) r)
    (byte-xor (sub_rot w (i - 1) r) (rcon (i / 4) r) (sbox-byte (word_byte w (i - 1) ((r + 1) % 4)))
    (byte-rcon (i / 4) r (omega arith) (omega arith)))
    (hw (4 * (i - 1) + r))

bytes_next : (w : List ℕ) (i : ℕ) → Bytes w → 4 ≤ i → i < 44 → Bytes (next w i)
unfolding next
bytes_next w i hw l h =
    bytes-tab 4 (λ r. bit_xor (word_byte w (i - 4) r) (temp w i r))
    (λ r v. byte-xor (word_byte w (i - 4) r) (temp w i r) (hw (4 * (i - 4) + r)) (byte-temp w i r hw l h))

bytes-words : (key : List ℕ) (m : ℕ) → Bytes key → m ≤ 40 → Bytes (words key m)
unfolding words
bytes-words key zero hk h = hk
bytes-words key (suc m) hk h =
    let w : Bytes (words key m) = bytes-words key m hk (omega arith) in
    bytes-append (words key m) (next (words key m) (4 + m)) w (bytes_next (words key m) (4 + m) w (omega arith) (omega arith))

pub bytes-key_expansion : (key : List ℕ) → Bytes key → Bytes (key_expansion key)
unfolding key_expansion
bytes-key_expansion key hk = bytes-words key 40 hk (omega arith)

-- ---- the State
bytes-sub_bytes : (s : List ℕ) → Bytes (sub_bytes s)
unfolding sub_bytes
bytes-sub_bytes s = bytes-tab 16 _ (λ p l. sbox-byte (get_or s (p % 4 + 4 * (p / 4)) 0))

bytes-shift_rows : (s : List ℕ) → Bytes s → Bytes (shift_rows s)
unfolding shift_rows
bytes-shift_rows s h = bytes-tab 16 _ (λ p l. h (p % 4 + 4 * ((p / 4 + p % 4) % 4)))

bytes-add_round_key : (w : List ℕ) (k : ℕ) (s : List ℕ) → Bytes w → Bytes s → Bytes (add_round_key w k s)
unfolding add_round_key
bytes-add_round_key w k s hw hs =
    bytes-tab 16 _ (λ p l. byte-xor _ _ (hs (p % 4 + 4 * (p / 4))) (hw (4 * (4 * k + p / 4) + p % 4)))

pub bytes-cipher : (w s : List ℕ) → Bytes w → Bytes (cipher w s)
unfolding cipher
bytes-cipher w s hw =
    bytes-add_round_key w 10 (shift_rows (sub_bytes (rounds w 9 s))) hw
    (bytes-shift_rows (sub_bytes (rounds w 9 s)) (bytes-sub_bytes (rounds w 9 s)))

pub length-cipher : (w s : List ℕ) → length (cipher w s) ≡ 16
unfolding cipher add_round_key
length-cipher w s = length-tab 16 _
