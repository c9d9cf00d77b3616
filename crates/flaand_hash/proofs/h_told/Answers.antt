use Rattle.std.specs.Prelude.{◌+◌, ◌*◌, ◌≤◌}
use Rattle.lists.specs.Kit.{sym, ap, ◌∙◌, List, ℕ, arith, length}
use Rattle.lists.specs.Over.{in-chunks}
use Rattle.block.specs.Block.{block_at}
use Rattle.plan.specs.Plan.{leaky}
use Rattle.rounds.specs.MailLaws.{letter-long}
use Rattle.rounds.specs.Flaand.{h_told}
use Rattle.flaand_hash.proofs.h_told.Goals as goal
use Rattle.flaand_hash.proofs.h_told.Goals.{After-letter}

-- h lies within the message
read-in : (c : After-letter) → 8 + c.args.t * 16 + 16 ≤ length c.letter.result.now
read-in c =
    omega (
      arith,
      ap length c.letter.ensures,
      in-chunks c.args.t (leaky c.args.f.l) 16 c.requires.k_lt_n.2,
      letter-long c.requires.arrived c.args.k c.requires.k_lt_n.0 (λ e. c.requires.k_lt_n.1 (sym e)),
    )

pub overflow_mul-t : goal.overflow_mul-t
overflow_mul-t c = omega (arith, read-in (goal.at.overflow_mul-t c).After-letter)

pub overflow_add-t : goal.overflow_add-t
overflow_add-t c = omega (arith, read-in (goal.at.overflow_add-t c).After-letter)

pub load-requires : goal.load-requires
load-requires c = read-in (goal.at.load-requires c).After-letter

pub returns : goal.returns
unfolding h_told
returns c = c.load.ensures ∙ ap (λ (s : List ℕ). block_at s (8 + c.args.t * 16)) c.letter.ensures
