-- The State of a counter below 2^24 after two rounds, as the XOR of three parts, each a function of one byte of the counter.
use Rattle.std.specs.Prelude.{List, [], ◌∷◌, ℕ, zero, suc, ◌+◌, ◌*◌, ◌/◌, ◌%◌, get_or}
use Rattle.std.specs.Int.Bits.{bit_xor}
use Rattle.lists.specs.Over.{tab}
use Rattle.block.specs.declared.Block.{Block}
use Rattle.block.specs.Block.{bytes_of}
use Rattle.fips197.specs.Cipher.{rounds}
use Rattle.aes_tables.specs.Tables.{tables}
use Rattle.aes_key.specs.Words.{words_bytes}
use Rattle.aes.specs.declared.Columns.{Columns}
use Rattle.aes.specs.Columns.{block_of, column_of}

-- what the bytes of the column e add to columns of the next round, by the tables t
unfoldable pub pieces_of : List ℕ → ℕ → Columns
pieces_of t e = record {
  0 = get_or t (e % 256) 0;
  1 = get_or t (256 + e / 0x100 % 256) 0;
  2 = get_or t (512 + e / 0x1_0000 % 256) 0;
  3 = get_or t (768 + e / 0x100_0000 % 256) 0;
}

-- w: the key's words
module _ (t w : List ℕ) where
  abbrev k : ℕ → ℕ
  k i = get_or w i 0

  -- the columns after the first round of the counter v: each of v's bytes is in one of them
  unfoldable pub first_of : ℕ → Columns
  first_of v = record {
    0 = column_of t (bit_xor v (k 0)) (k 1) (k 2) (k 3) (k 4);
    1 = column_of t (k 1) (k 2) (k 3) (bit_xor v (k 0)) (k 5);
    2 = column_of t (k 2) (k 3) (bit_xor v (k 0)) (k 1) (k 6);
    3 = column_of t (k 3) (bit_xor v (k 0)) (k 1) (k 2) (k 7);
  }

  -- what column 1, whose byte of v is 0, adds in the second round, and the key
  unfoldable pub rest_of : Columns
  rest_of =
      let q : Columns = pieces_of t (first_of 0).1 in
      record { 0 = bit_xor q.1 (k 8); 1 = bit_xor q.0 (k 9); 2 = bit_xor q.3 (k 10); 3 = bit_xor q.2 (k 11) }

  -- the part of byte p, where it is x: byte 0 is in column 0, byte 1 in column 3, byte 2 in column 2
  unfoldable pub part_of : ℕ → ℕ → Columns
  part_of zero x =
      let q : Columns = pieces_of t (first_of x).0 in
      let z : Columns = rest_of in
      record { 0 = bit_xor q.0 z.0; 1 = bit_xor q.3 z.1; 2 = bit_xor q.2 z.2; 3 = bit_xor q.1 z.3 }
  part_of (suc zero) x = let q : Columns = pieces_of t (first_of (x * 0x100)).3 in record { 0 = q.3; 1 = q.2; 2 = q.1; 3 = q.0 }
  part_of (suc (suc p)) x = let q : Columns = pieces_of t (first_of (x * 0x1_0000)).2 in record { 0 = q.2; 1 = q.1; 2 = q.0; 3 = q.3 }

  -- word j of the parts, two words each: 256 parts of byte 0, then of byte 1, then of byte 2
  unfoldable pub start_at : ℕ → ℕ
  start_at j = let b : Block = block_of (part_of (j / 512) (j / 2 % 256)) in get_or (b.0 ∷ b.1 ∷ []) (j % 2) 0

unfoldable pub starts_of : List ℕ → List ℕ
starts_of w = tab 1536 (start_at tables w)

-- the State of the counter c after two rounds (FIPS 197)
abbrev pub begun : List ℕ → ℕ → List ℕ
begun w c = rounds (words_bytes 44 w) 2 (bytes_of (record { 0 = c; 1 = 0 }))
