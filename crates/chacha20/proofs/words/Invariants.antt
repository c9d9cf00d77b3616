-- The loop's invariant: v is the state after `_round` double rounds.
use Rattle.std.specs.Prelude.{◌≡◌}
use Rattle.chacha20.specs.ChaCha20 as C
use Rattle.chacha20.proofs.words.Given as goal

abbrev pub invariant-loop-round : goal.invariant-loop-round
invariant-loop-round l = l.v ≡ C.rounds l._round l.s
