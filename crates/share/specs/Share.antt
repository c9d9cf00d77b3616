-- What a record holds: one party's share of a bit, with its MAC for each party and its key of each. Shares are an XOR group, so sums of
-- records are sums in it.
use Rattle.std.specs.Prelude.{ℕ, Bool, false, List, ◌++◌, replicate}
use Rattle.lists.specs.Pick.{pick}
use Rattle.lists.specs.Over.{cat}
use Rattle.algebra.specs.Group.{XorGroup, bits, addb}
use Rattle.algebra.specs.Sum.{neq}
use Rattle.block.specs.declared.Block.{Block}
use Rattle.block.specs.Block.{bytes_of}
use Rattle.block.specs.Group.{blocks}
use Rattle.share.specs.Layout.{ENTRY, head_of}
use Rattle.share.specs.Record.{bit_at, mac_at, key_at}

pub record Share : Type 0 where
  pub bit : Bool
  pub mac : ℕ → Block
  pub key : ℕ → Block

unfoldable pub share_at : List ℕ → ℕ → Share
share_at s at = record { bit = bit_at s at; mac = mac_at s at; key = key_at s at }

unfoldable pub shares : XorGroup Share
shares = record {
  op = λ a b. record { bit = addb a.bit b.bit; mac = λ k. blocks.op (a.mac k) (b.mac k); key = λ k. blocks.op (a.key k) (b.key k) };
  nil = record { bit = false; mac = λ k. blocks.nil; key = λ k. blocks.nil };
  assoc = λ a b c j. record { bit = bits.assoc a.bit b.bit c.bit j; mac = λ k. blocks.assoc (a.mac k) (b.mac k) (c.mac k) j; key = λ k. blocks.assoc (a.key k) (b.key k) (c.key k) j };
  comm = λ a b j. record { bit = bits.comm a.bit b.bit j; mac = λ k. blocks.comm (a.mac k) (b.mac k) j; key = λ k. blocks.comm (a.key k) (b.key k) j };
  unit = λ a j. record { bit = bits.unit a.bit j; mac = λ k. blocks.unit (a.mac k) j; key = λ k. blocks.unit (a.key k) j };
  self = λ a j. record { bit = bits.self a.bit j; mac = λ k. blocks.self (a.mac k) j; key = λ k. blocks.self (a.key k) j };
}

-- the entry of party k in party i's record, with the MAC m and the key y; the own entry is zero
unfoldable pub entry_bytes : ℕ → ℕ → Block → Block → List ℕ
entry_bytes i k m y = pick (neq i k) (bytes_of m ++ bytes_of y) (replicate ENTRY 0)

unfoldable pub entry_of : ℕ → Share → ℕ → List ℕ
entry_of i x k = entry_bytes i k (x.mac k) (x.key k)

-- party i's record of x among n parties
unfoldable pub record_of : ℕ → ℕ → Share → List ℕ
record_of n i x = head_of x.bit ++ cat n (entry_of i x)
