use Rattle.fabitn.specs.Laws.{place-low, place-high}
use Rattle.fabitn.proofs.place.Goals as goal

pub returns-then-k-i : goal.returns-then-k-i
returns-then-k-i c = place-low c.args.i c.args.k c.if-k-i.true

pub returns-else-k-i : goal.returns-else-k-i
returns-else-k-i c = place-high c.args.i c.args.k c.if-k-i.false
