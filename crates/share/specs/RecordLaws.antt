-- Laws about reading records.
use Rattle.std.specs.Prelude.{◌≡◌, List, ℕ, ◌+◌, ◌<◌, ◌≤◌, get_or, take, drop}
use Rattle.std.proofs.Math.Path.{ap}
use Rattle.std.proofs.Common.{◌∙◌, add-zero, arith, get_or-take, get_or-drop}
use Rattle.lists.specs.Bytes.{Bytes}
use Rattle.algebra.specs.Group.{odd}
use Rattle.block.specs.Block.{block_at}
use Rattle.block.specs.Trip.{Small, small_at, block-drop, block-take}
use Rattle.share.specs.Layout.{record-some, entry-within, key-behind}
use Rattle.share.specs.Record.{record_len, mac_off, key_off, bit_at, mac_at, key_at}

-- ---- what is read of bytes fits a Block
module _ (s : List ℕ) (h : Bytes s) (at k : ℕ) where
  pub small-mac : Small (mac_at s at k)
  unfolding mac_at
  small-mac = small_at s h (at + mac_off k)

  pub small-key : Small (key_at s at k)
  unfolding key_at
  small-key = small_at s h (at + key_off k)

-- ---- a record that was cut out is read as the record where it stood
module _ (n at : ℕ) (s : List ℕ) where
  abbrev cut : List ℕ
  cut = take (record_len n) (drop at s)

  pub byte-part : get_or cut 0 0 ≡ get_or s at 0
  byte-part = get_or-take (record_len n) (drop at s) 0 0 (record-some n) ∙ get_or-drop at s 0 0 ∙ ap (λ a. get_or s a 0) (add-zero at)

  pub bit-part : bit_at cut 0 ≡ bit_at s at
  unfolding bit_at
  bit-part = ap odd byte-part

  block-part : (o : ℕ) → o + 16 ≤ record_len n → block_at cut (0 + o) ≡ block_at s (at + o)
  block-part o h =
      block-take (drop at s) (record_len n) (0 + o) (omega arith) ∙ block-drop s at (0 + o)
      ∙ ap (λ a. block_at s (at + a)) (let e : 0 + o ≡ o = omega arith in e)

  pub mac-part : (k : ℕ) → k < n → mac_at cut 0 k ≡ mac_at s at k
  unfolding mac_at
  mac-part k h = block-part (mac_off k) (omega (arith, entry-within n k h))

  pub key-part : (k : ℕ) → k < n → key_at cut 0 k ≡ key_at s at k
  unfolding key_at
  key-part k h = block-part (key_off k) (omega (arith, key-behind k, entry-within n k h))
