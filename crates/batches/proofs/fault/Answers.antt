-- `batches::fault` meets its contract.
use Rattle.batches.specs.Batches.{few}
use Rattle.batches.specs.Turns.{told-faults}
use Rattle.batches.proofs.fault.Goals as goal

pub returns-then-not-m : goal.returns-then-not-m
unfolding few
returns-then-not-m c = search told-faults

pub returns-then-not-sum : goal.returns-then-not-sum
unfolding few
returns-then-not-sum c = search told-faults

pub returns-then-not-all_filled : goal.returns-then-not-all_filled
unfolding few
returns-then-not-all_filled c = search told-faults

pub returns : goal.returns
unfolding few
returns c = search told-faults
