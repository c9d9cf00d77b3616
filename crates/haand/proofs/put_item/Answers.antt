use Rattle.std.specs.Prelude.{◌+◌, ◌≤◌}
use Rattle.lists.specs.Kit.{ap, ap₂, ◌∙◌, Bool, not, ℕ, arith, length, get_or}
use mathlib.Core.Bool.{beq}
use Rattle.algebra.specs.Group.{addb, odd, xor-addb}
use Rattle.share.specs.Layout.{record-some}
use Rattle.share.specs.Record.{bit_at}
use Rattle.share.specs.Share.{share_at}
use Rattle.encode.specs.Encode.{two_bits}
use Rattle.rounds.specs.Haand as R
use Rattle.area.specs.Positions.{y-in, entry_in}
use Rattle.haand.specs.Sent.{item, first_at, second_at}
use Rattle.haand.proofs.put_item.Goals as goal
use Rattle.haand.proofs.put_item.Goals.{After-entry_at-at}

-- the entry lies within the row
row_in : (c : After-entry_at-at) → c.entry_at-at.result + 18 ≤ length c.args.rows.now
row_in c =
    omega (
      arith,
      entry_in c.args.f c.args.rows.now c.requires.rows_and_masks.rows c.args.t c.args.k c.requires.asked.2 c.requires.out_len.1,
      c.entry_at-at.ensures,
    )

pub bit_at-y-requires : goal.bit_at-y-requires
bit_at-y-requires c =
    let e = y-in c.args.f c.args.recs.now c.requires.asked.1 c.args.t c.requires.asked.2 in
    omega (arith, e, c.y_at.ensures, record-some c.args.f.n)

pub returns : goal.returns
unfolding item first_at second_at R.mask R.y share_at
returns c =
    let bit : ℕ → ℕ → Bool = λ p o. odd (get_or c.args.rows.now (p + o) 0) in
    c.put_two_bits.ensures
    ∙ ap₂ two_bits
    (xor-addb c.bit.result c.mask_bit-mask.result
    ∙ ap₂ addb (c.bit.ensures ∙ ap (λ p. bit p 16) c.entry_at-at.ensures) c.mask_bit-mask.ensures)
    (xor-addb (not (beq c.bit-2.result c.mask_bit-mask.result)) c.bit_at-y.result
    ∙ ap₂ addb (xor-addb c.bit-2.result c.mask_bit-mask.result
    ∙ ap₂ addb (c.bit-2.ensures ∙ ap (λ p. bit p 17) c.entry_at-at.ensures) c.mask_bit-mask.ensures)
    (c.bit_at-y.ensures ∙ ap (bit_at c.args.recs.now) c.y_at.ensures))

pub overflow_add-at : goal.overflow_add-at
overflow_add-at c = omega (arith, row_in (goal.at.overflow_add-at c).After-entry_at-at)

pub bit-requires : goal.bit-requires
bit-requires c = omega (arith, row_in (goal.at.bit-requires c).After-entry_at-at)

pub overflow_add-at-2 : goal.overflow_add-at-2
overflow_add-at-2 c = omega (arith, row_in (goal.at.overflow_add-at-2 c).After-entry_at-at)

pub bit-requires-2 : goal.bit-requires-2
bit-requires-2 c = omega (arith, row_in (goal.at.bit-requires-2 c).After-entry_at-at)
