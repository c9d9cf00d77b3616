use Rattle.lists.specs.Kit.{ap, ◌∙◌}
use lib.Bits.{bit_xor}
use Rattle.aes_tables.specs.Word.{column4}
use Rattle.aes_tables.specs.WordLaws.{le-column4}
use Rattle.aes.specs.Columns.{last_of}
use Rattle.aes.proofs.last_column.Goals as goal

pub returns : goal.returns
unfolding last_of
returns c =
    ap (λ x. bit_xor x c.args.k)
    (c.from_le_bytes.ensures ∙ le-column4 _ _ _ _
    ∙ (λ i. column4 (c.sub.ensures i) (c.sub-2.ensures i) (c.sub-3.ensures i) (c.sub-4.ensures i)))
