use Rattle.std.specs.Prelude.{◌+◌, ◌<◌, ◌≤◌}
use Rattle.lists.specs.Kit.{List, ℕ, arith, length}
use Rattle.share.specs.Layout.{record_len, record-some}
use Rattle.results.specs.FinishLaws.{result-read}
use Rattle.results.proofs.put_result.Goals as goal

pub finish-requires : goal.finish-requires
finish-requires c =
    record { n_bound = (c.requires.work.0.ranges.range.eight, c.requires.out_len, c.bucket-r.ensures.a_in, c.requires.work.0.ranges.own); n_in_bounds = (c.bucket-r.ensures.c-in, c.bucket-r.ensures.beta-in) }

pub returns : goal.returns
returns c =
    result-read c.bucket-r.ensures c.sum_bit.result c.sum_bit-2.result c.args.d_told c.args.e_told c.finish.new.out
    c.sum_bit.ensures c.sum_bit-2.ensures c.finish.ensures

-- a record that lies within has its bit there
bit_in : (n p : ℕ) (w : List ℕ) → p + record_len n ≤ length w → p < length w
bit_in n p w h = omega (arith, record-some n)

pub sum_bit-requires : goal.sum_bit-requires
sum_bit-requires c = (bit_in c.args.f.n _ _ c.bucket-r.ensures.a_in, bit_in c.args.f.n _ _ c.bucket-r.ensures.alpha-in)

pub sum_bit-requires-2 : goal.sum_bit-requires-2
sum_bit-requires-2 c = (bit_in c.args.f.n _ _ c.bucket-r.ensures.b-in, bit_in c.args.f.n _ _ c.bucket-r.ensures.beta-in)
