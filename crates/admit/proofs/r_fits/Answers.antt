-- `admit::r_fits` meets its contract.
use Rattle.std.specs.Prelude.{◌||◌}
use Rattle.lists.specs.Kit.{ap₂}
use lib.Dec.{eqb}
use Rattle.rounds.specs.Fabitn.{r_fits}
use Rattle.admit.proofs.r_fits.Goals as goal

pub returns : goal.returns
unfolding r_fits
returns c = ap₂ (λ m b. eqb c.args.r m || b) c.r_len.ensures c.is_seed.ensures
