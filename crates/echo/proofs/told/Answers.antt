use mathlib.Core.Path.{refl}
use Rattle.algebra.specs.Sum.{neq}
use Rattle.echo.proofs.told.Goals as goal

pub returns : goal.returns
unfolding neq
returns c = refl
