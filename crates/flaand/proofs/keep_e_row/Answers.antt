use Rattle.std.specs.Prelude.{◌+◌, ◌*◌}
use Rattle.lists.specs.Kit.{sym, ap, ◌∙◌, List, ℕ, arith, length, get_or}
use Rattle.lists.specs.Over.{tab}
use Rattle.algebra.specs.Group.{odd, num}
use Rattle.rounds.specs.MailLaws.{letter-long}
use Rattle.rounds.specs.Flaand.{e_told}
use Rattle.flaand.proofs.keep_e_row.Goals as goal

pub put_es-requires : goal.put_es-requires
put_es-requires c =
    omega (
      arith,
      ap length c.letter.ensures,
      letter-long c.requires.arrived c.args.k c.requires.k_lt_n.0 (λ e. c.requires.k_lt_n.1 (sym
          e)),
    )

pub returns : goal.returns
unfolding e_told
returns c =
    let n = length c.args.row.now in
    c.put_es.ensures ∙ ap (λ (m : List ℕ). tab n (λ t'. num (odd (get_or m (8 + t' * 17) 0)))) c.letter.ensures
