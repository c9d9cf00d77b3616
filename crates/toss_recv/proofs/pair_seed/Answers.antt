use Rattle.lists.specs.Kit.{sym, ap₂, ◌∙◌}
use Rattle.lists.specs.Rows.{chunk}
use Rattle.block.specs.Block.{xor_inplace}
use Rattle.rounds.specs.Mail.{letter}
use Rattle.rounds.specs.Loops.{row-own, row_other}
use Rattle.rounds.specs.Toss.{told}
use Rattle.toss_recv.proofs.pair_seed.Goals as goal

pub returns-then-k-f : goal.returns-then-k-f
returns-then-k-f c =
    c.xor_inplace.ensures ∙ ap₂ xor_inplace (c.copy_from_slice.ensures.after ∙ c.seed_for.ensures.0) c.told.ensures.0
    ∙ sym (row_other c.args.f.i 32 (λ p. xor_inplace (chunk 32 p c.args.pairs.now) (told (letter c.args.incoming.now c.args.mail p)))
    c.args.k
    (λ e. c.if-k-f.true (sym e)))

pub returns-else-k-f : goal.returns-else-k-f
returns-else-k-f c =
    sym (row-own c.args.f.i 32 (λ p. xor_inplace (chunk 32 p c.args.pairs.now) (told (letter c.args.incoming.now c.args.mail p))) c.args.k
    (sym c.if-k-f.false))
