-- The loop's invariant: the test holds of the first k numbers, whatever names what it answers.
use Rattle.std.specs.Prelude.{◌≡◌, Bool, ℕ, ◌<◌}
use Rattle.lists.specs.All.{all_of}
use Rattle.lists.proofs.all_of.Given as goal

abbrev pub invariant-loop-k : goal.invariant-loop-k
invariant-loop-k g l =
    (t : ℕ → Bool) → ((k : ℕ) (r : Bool) → k < l.n → goal.F-post g l.test k r → r ≡ t k) → l.good ≡ all_of l.k t
