-- Which fault round 10 answers: a commitment that is not opened, then a dm's.
use Rattle.std.specs.Prelude.{⊤, Result, Ok, Err, List, ℕ}
use Rattle.engine.specs.declared.Frame.{Frame}
use Rattle.engine.specs.declared.Refusal.{Refusal}
use Rattle.rounds.specs.FaultLaws.{Finds, finds-one, finds-two}
use Rattle.rounds.specs.Fashare.{ver_faults, third_faults, dm_faults}

module _ (f : Frame) (comms : List ℕ) (m : ℕ → List ℕ) where
  pub shut_first : (r : Refusal) → Finds (Err r) (third_faults f comms m) → Finds (Err r) (ver_faults f comms m)
  unfolding ver_faults
  shut_first r h = finds-one r _ _ h

  pub odd_next : (v : Result ⊤ Refusal) → Finds (Ok tt) (third_faults f comms m) → Finds v (dm_faults f m) → Finds v (ver_faults f comms m)
  unfolding ver_faults
  odd_next v h g = finds-two v _ _ h g
