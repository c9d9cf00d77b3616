-- What `hold` kept for the messages of round k: the rows of LEAKY for round 14, the own row of H_COMMS for round 17.
use Rattle.std.specs.Prelude.{◌≡◌, List, ℕ}
use Rattle.engine.specs.declared.Frame.{Frame}
use Rattle.haand.specs.Given.{LeakyKept}
use Rattle.flaand_comm.specs.Given.{CommsKept}

pub record Held (k : ℕ) (f : Frame) (w : List ℕ) : Type 0 where
  pub rows : k ≡ 14 → LeakyKept f w
  pub own : k ≡ 17 → CommsKept f w
