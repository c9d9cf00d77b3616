-- What round 12 is made from: what `fashare` asks for, and the dms that were kept.
use Rattle.std.specs.Prelude.{◌≡◌, List, ℕ, ◌*◌, length}
use Rattle.plan.specs.Plan.{dm_len}
use Rattle.engine.specs.declared.Frame.{Frame}
use Rattle.rounds.specs.Fashare.{STRINGS}
use Rattle.fashare_comm.specs.Given as Fashare

pub record DmsKept (f : Frame) (recs dms : List ℕ) : Type 0 where
  pub own : Fashare.AllRecords f recs
  pub kept : length dms ≡ f.n * (STRINGS * dm_len f.n)
