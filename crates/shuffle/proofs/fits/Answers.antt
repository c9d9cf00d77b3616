use Rattle.shuffle.proofs.TurnLaws.{fits-is}
use Rattle.shuffle.proofs.fits.Goals as goal

pub returns : goal.returns
returns c = fits-is c.args.w c.args.m c.args.r c.requires.1 c.requires.0
