use Rattle.lists.specs.Kit.{sym, ap, ◌∙◌, List, ℕ, arith, length, get_or}
use Rattle.algebra.specs.Group.{odd}
use Rattle.rounds.specs.MailLaws.{letter-fits, letter-long}
use Rattle.results.proofs.bit_told.Goals as goal

pub letter-requires : goal.letter-requires
letter-requires c = letter-fits c.requires.arrived c.args.k c.requires.k_lt_n.0 (λ e. c.requires.k_lt_n.2 (sym e))

pub bit-requires : goal.bit-requires
bit-requires c =
    omega (
      arith,
      ap length c.letter.ensures,
      letter-long c.requires.arrived c.args.k c.requires.k_lt_n.0 (λ e. c.requires.k_lt_n.2 (sym e)),
      c.requires.k_lt_n.1,
    )

pub returns : goal.returns
returns c = c.bit.ensures ∙ ap (λ (s : List ℕ). odd (get_or s c.args.at 0)) c.letter.ensures
