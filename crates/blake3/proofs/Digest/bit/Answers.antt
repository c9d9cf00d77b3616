use Rattle.blake3.specs.ByteLaws.{last_bit}
use Rattle.blake3.proofs.Digest.bit.Goals as goal

pub returns : goal.returns
returns c = last_bit c.args.self.0
