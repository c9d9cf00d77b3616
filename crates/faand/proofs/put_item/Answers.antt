use Rattle.std.specs.Prelude.{◌+◌, ◌<◌, ◌≤◌}
use Rattle.lists.specs.Kit.{List, ◌∙◌, ℕ, arith, length}
use Rattle.share.specs.Layout.{record_len, record-within, record-some}
use Rattle.faand.specs.ItemLaws.{four}
use Rattle.faand.proofs.put_item.Goals as goal

-- k is a party, so its entries lie within
pub sum_mac-d_mac-requires : goal.sum_mac-d_mac-requires
sum_mac-d_mac-requires c =
    let k = record-within c.args.f.n c.args.k c.requires.k_lt_n.0 in
    (omega (arith, c.requires.k_lt_n.0), omega (arith, c.bucket-r.ensures.a_in, k), omega (arith, c.bucket-r.ensures.alpha-in, k))

pub sum_mac-e_mac-requires : goal.sum_mac-e_mac-requires
sum_mac-e_mac-requires c =
    let k = record-within c.args.f.n c.args.k c.requires.k_lt_n.0 in
    (omega (arith, c.requires.k_lt_n.0), omega (arith, c.bucket-r.ensures.b-in, k), omega (arith, c.bucket-r.ensures.beta-in, k))

pub returns : goal.returns
returns c =
    c.put_bits_blocks.ensures
    ∙ four (c.sum_bit-d.ensures ∙ c.bucket-r.ensures.d-read.bit) (c.sum_bit-e.ensures ∙ c.bucket-r.ensures.e-read.bit)
    (c.sum_mac-d_mac.ensures ∙ c.bucket-r.ensures.d-read.mac c.args.k c.requires.k_lt_n.0) (c.sum_mac-e_mac.ensures ∙ c.bucket-r.ensures.e-read.mac c.args.k c.requires.k_lt_n.0)

-- a record that lies within has its bit there
bit_in : (n p : ℕ) (w : List ℕ) → p + record_len n ≤ length w → p < length w
bit_in n p w h = omega (arith, record-some n)

pub sum_bit-d-requires : goal.sum_bit-d-requires
sum_bit-d-requires c = (bit_in c.args.f.n _ _ c.bucket-r.ensures.a_in, bit_in c.args.f.n _ _ c.bucket-r.ensures.alpha-in)

pub sum_bit-e-requires : goal.sum_bit-e-requires
sum_bit-e-requires c = (bit_in c.args.f.n _ _ c.bucket-r.ensures.b-in, bit_in c.args.f.n _ _ c.bucket-r.ensures.beta-in)
