use Rattle.haand_recv.specs.Received.{received, chosen}
use Rattle.haand_recv.proofs.received.Goals as goal

pub returns : goal.returns
unfolding received
returns c = rw (c.bit-a.ensures, c.bit-b.ensures) (chosen c.args.x _ _)
