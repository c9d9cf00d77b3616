use Rattle.std.specs.Prelude.{◌≡◌, ◌+◌, ◌*◌, ◌<◌}
use Rattle.lists.specs.Kit.{refl, ap, ◌∙◌, arith}
use Prim.Native.Nat.{◌/◌, ◌^◌}
use lib.Bits.{bit_and, mask_lt}
use Rattle.algebra.specs.Sum.{sum}
use Rattle.block.specs.Block.{zero_of}
use Rattle.block.specs.Group.{blocks}
use Rattle.rbits.specs.Tables.{entry, lookup}
use Rattle.rbits.specs.TableLaws.{lookup-turn}
use Rattle.rpairs.proofs.choose_two.Goals as goal
use Rattle.rpairs.proofs.choose_two.Goals.{In-loop-k}

pub loop-k-init : goal.loop-k-init
unfolding sum blocks zero_of
loop-k-init c = (refl, refl)

-- the entry is in the tables
place : (c : In-loop-k) → c.loop-k.k * 16 + bit_and (c.args.w / 2 ^ (c.loop-k.k * 4)) 15 < 256
place c = omega (arith, mask_lt (c.args.w / 2 ^ (c.loop-k.k * 4)) 4)

pub loop-k-preserved : goal.loop-k-preserved
loop-k-preserved c = (
  lookup-turn c.args.t.now c.args.w c.loop-k.k c.loop-k.a c.loop-k.b c.loop-k.invariant.0,
  lookup-turn c.args.u.now c.args.w c.loop-k.k c.loop-k.c c.loop-k.d c.loop-k.invariant.1,
)

pub returns : goal.returns
unfolding lookup
returns c =
    let e : c.loop-k.k ≡ 16 = omega arith in (
      c.loop-k.invariant.0 ∙ ap (λ n. sum blocks n (entry c.args.t.now c.args.w)) e,
      c.loop-k.invariant.1 ∙ ap (λ n. sum blocks n (entry c.args.u.now c.args.w)) e,
    )

pub overflow_add-low : goal.overflow_add-low
overflow_add-low c = omega (arith, place (goal.at.overflow_add-low c).In-loop-k)

pub overflow_mul-low-in-loop-k-2 : goal.overflow_mul-low-in-loop-k-2
overflow_mul-low-in-loop-k-2 c = omega (arith, place (goal.at.overflow_mul-low-in-loop-k-2 c).In-loop-k)

pub overflow_add-high : goal.overflow_add-high
overflow_add-high c = omega (arith, place (goal.at.overflow_add-high c).In-loop-k)

pub offset_bounds-t-low : goal.offset_bounds-t-low
offset_bounds-t-low c = omega (arith, place (goal.at.offset_bounds-t-low c).In-loop-k)

pub bounds-t-low : goal.bounds-t-low
bounds-t-low c = omega (arith, place (goal.at.bounds-t-low c).In-loop-k)

pub offset_bounds-t-high : goal.offset_bounds-t-high
offset_bounds-t-high c = omega (arith, place (goal.at.offset_bounds-t-high c).In-loop-k)

pub bounds-t-high : goal.bounds-t-high
bounds-t-high c = omega (arith, place (goal.at.bounds-t-high c).In-loop-k)

pub offset_bounds-u-low : goal.offset_bounds-u-low
offset_bounds-u-low c = omega (arith, place (goal.at.offset_bounds-u-low c).In-loop-k)

pub bounds-u-low : goal.bounds-u-low
bounds-u-low c = omega (arith, place (goal.at.bounds-u-low c).In-loop-k)

pub offset_bounds-u-high : goal.offset_bounds-u-high
offset_bounds-u-high c = omega (arith, place (goal.at.offset_bounds-u-high c).In-loop-k)

pub bounds-u-high : goal.bounds-u-high
bounds-u-high c = omega (arith, place (goal.at.bounds-u-high c).In-loop-k)
