use Rattle.std.specs.Prelude.{◌+◌, ◌*◌, ◌≤◌}
use Rattle.lists.specs.Kit.{sym, ap, ◌∙◌, List, Bool, ℕ, arith, length, get_or}
use Rattle.lists.specs.Over.{in-chunks}
use Rattle.algebra.specs.Group.{sel, odd}
use Rattle.block.specs.Group.{blocks}
use Rattle.share.specs.Layout.{record-within}
use Rattle.share.specs.Record.{mac_at, key_at}
use Rattle.plan.specs.Plan.{leaky}
use Rattle.rounds.specs.MailLaws.{letter-long}
use Rattle.rounds.specs.Flaand.{e_told}
use Rattle.flaand.specs.HLaws.{z_term}
use Rattle.flaand.proofs.z_term.Goals as goal
use Rattle.flaand.proofs.z_term.Goals.{After-letter}

-- e and u lie within the message
read-in : (c : After-letter) → 8 + c.args.t * 17 + 17 ≤ length c.letter.result.now
read-in c =
    omega (
      arith,
      ap length c.letter.ensures,
      in-chunks c.args.t (leaky c.args.f.l) 17 c.requires.n_bound.3,
      letter-long c.requires.arrived c.args.k c.requires.n_bound.1 (λ e. c.requires.n_bound.2 (sym e)),
    )

pub overflow_mul-t : goal.overflow_mul-t
overflow_mul-t c = omega (arith, read-in (goal.at.overflow_mul-t c).After-letter)

pub overflow_add-t : goal.overflow_add-t
overflow_add-t c = omega (arith, read-in (goal.at.overflow_add-t c).After-letter)

pub bit-e-requires : goal.bit-e-requires
bit-e-requires c = omega (arith, read-in (goal.at.bit-e-requires c).After-letter)

pub term-requires : goal.term-requires
term-requires c = (
  omega (arith, c.requires.n_bound.0, c.requires.n_bound.1),
  omega (
    arith,
    c.requires.n_in_bounds,
    record-within c.args.f.n c.args.k
        c.requires.n_bound.1,
  ),
)

pub returns : goal.returns
unfolding z_term e_told
returns c =
    let r = c.args.recs.now in
    c.term.ensures
    ∙ ap (λ (e : Bool). blocks.op (mac_at r c.args.at c.args.k) (blocks.op (key_at r c.args.at c.args.k) (sel blocks e c.args.delta.0)))
    (c.bit-e.ensures ∙ ap (λ (s : List ℕ). odd (get_or s (8 + c.args.t * 17) 0)) c.letter.ensures)
