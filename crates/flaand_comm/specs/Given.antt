-- What `hold` keeps for the messages: the own commitments, in the own row of H_COMMS.
use Rattle.std.specs.Prelude.{◌≡◌, List, ℕ, ◌*◌}
use Rattle.lists.specs.Rows.{chunk}
use Rattle.plan.specs.Plan.{leaky}
use Rattle.engine.specs.declared.Frame.{Frame}
use Rattle.rounds.specs.Area.{HS, H_COMMS, at}
use Rattle.rounds.specs.Flaand.{comms}

abbrev pub CommsKept : Frame → List ℕ → Type 0
CommsKept f w = chunk (leaky f.l * 32) f.i (at f H_COMMS w) ≡ comms f (at f HS w)
