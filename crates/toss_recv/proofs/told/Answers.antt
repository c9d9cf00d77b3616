use Rattle.std.specs.Prelude.{◌≤◌}
use Rattle.lists.specs.Kit.{sym, ap, ◌∙◌, length}
use Rattle.rounds.specs.Toss.{told}
use Rattle.rounds.specs.TossLaws.{length-told}
use Rattle.rounds.specs.MailLaws.{letter-long}
use Rattle.toss_recv.proofs.told.Goals as goal
use Rattle.toss_recv.proofs.told.Goals.{After-letter}

long : (c : After-letter) → 40 ≤ length c.letter.result.now
long c = rw c.letter.ensures (letter-long c.requires.arrived c.args.k c.requires.k_lt_n.0 (λ e. c.requires.k_lt_n.1 (sym e)))

pub slice_bounds-result-end : goal.slice_bounds-result-end
slice_bounds-result-end c = long (goal.at.slice_bounds-result-end c).After-letter

pub returns : goal.returns
unfolding told
returns c = (ap told c.letter.ensures, length-told c.letter.result.now (long (goal.at.returns c).After-letter))
