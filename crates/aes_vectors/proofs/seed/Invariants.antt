-- The loop's invariant: each summand is a remainder.
use Rattle.std.proofs.Common.{◌<◌}
use Rattle.aes_vectors.proofs.seed.Given as goal

abbrev pub invariant-loop-x : goal.invariant-loop-x
invariant-loop-x l = (l.a < 256) × (l.b < 256) × (l.c < 256) × (l.d < 256)
