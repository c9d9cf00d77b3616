-- The order of the rounds, where the last one and the echoes are given. two: n = 2
use Rattle.std.specs.Prelude.{Bool, not, ◌&&◌, List, ℕ, suc, leb}
use Rattle.lists.specs.Pick.{pick}
use Rattle.engine.specs.Area.{mem}

pub record Order : Type 0 where
  pub last : ℕ
  pub echoes : List ℕ

module _ (O : Order) where
  -- round k is an echo
  unfoldable pub echo_in : ℕ → Bool
  echo_in k = mem k O.echoes

  -- k is the number of a round: "For n = 2 the echoes are skipped."
  unfoldable pub round_in : Bool → ℕ → Bool
  round_in two k = leb 1 k && leb k O.last && not (two && echo_in k)

  -- "each accepted call makes the next in order due, echoes passed over for n = 2": the round after k; the first after 0, 0 after the last
  unfoldable pub next_in : Bool → ℕ → ℕ
  next_in two k = pick (leb O.last k) 0 (pick (two && echo_in (suc k)) (suc (suc k)) (suc k))
