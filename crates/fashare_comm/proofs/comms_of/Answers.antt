use Rattle.std.specs.Prelude.{◌≤◌}
use Rattle.lists.specs.Kit.{sym, ap, List, ℕ, length, take, drop}
use Rattle.lists.specs.Sect.{length-get}
use Rattle.rounds.specs.Fashare.{COMM_ROW, COMM_MSG}
use Rattle.rounds.specs.MailLaws.{letter-long}
use Rattle.fashare_comm.proofs.comms_of.Goals as goal
use Rattle.fashare_comm.proofs.comms_of.Goals.{After-letter}

-- the message has the count and the commitments
long : (c : After-letter) → COMM_MSG ≤ length c.letter.result.now
long c = rw c.letter.ensures (letter-long c.requires.arrived c.args.k c.requires.k_lt_n.0 (λ e. c.requires.k_lt_n.1 (sym e)))

pub slice_bounds-result-end : goal.slice_bounds-result-end
slice_bounds-result-end c = long (goal.at.slice_bounds-result-end c).After-letter

pub returns : goal.returns
returns c = (
  ap (λ (x : List ℕ). take COMM_ROW (drop 8 x)) c.letter.ensures,
  length-get 8 COMM_ROW c.letter.result.now (long (goal.at.returns c).After-letter),
)
