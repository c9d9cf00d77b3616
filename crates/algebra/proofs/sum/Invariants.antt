-- The loop's invariant: the first j terms are added, whatever names them.
use Rattle.std.specs.Prelude.{◌≡◌, ℕ, ◌<◌}
use Rattle.algebra.specs.Sum.{sum}
use Rattle.algebra.proofs.sum.Given as goal

abbrev pub invariant-loop-j : goal.invariant-loop-j
invariant-loop-j g l =
    (t : ℕ → _) → ((k : ℕ) (r : _) → k < l.n → goal.F-post g l.term k r → r ≡ t k) → l.all ≡ sum g.T.Xor.group l.j t
