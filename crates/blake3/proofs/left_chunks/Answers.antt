use Rattle.blake3.specs.TreeLaws.{half-largest}
use Rattle.blake3.proofs.left_chunks.Goals as goal

pub returns : goal.returns
returns c =
    let p = c.next_power_of_two.ensures in half-largest c.args.n c.next_power_of_two.result c.requires.0 p.power p.lower_bound p.upper_bound
