use Rattle.blake3_lanes.proofs.split.Goals as goal

pub returns : goal.returns
returns c i =
    record { 0 = c.low.ensures i; 1 = c.high.ensures i; 2 = c.low-2.ensures i; 3 = c.high-2.ensures i }
