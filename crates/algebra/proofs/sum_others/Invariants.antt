-- The loop's invariant: the terms of the first k parties are added, whatever names them.
use Rattle.std.specs.Prelude.{◌≡◌, ◌≢◌, ℕ, ◌<◌}
use Rattle.algebra.specs.Sum.{others}
use Rattle.algebra.proofs.sum_others.Given as goal

abbrev pub invariant-loop-k : goal.invariant-loop-k
invariant-loop-k g l =
    (t : ℕ → _) → ((k : ℕ) (r : _) → k < l.n → l.i ≢ k → goal.F-post g l.term k r → r ≡ t k) → l.all ≡ others g.T.Xor.group l.i l.k t
