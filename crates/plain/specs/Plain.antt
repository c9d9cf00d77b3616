-- The rounds whose messages `make` makes: all but the echoes.
use Rattle.std.specs.Prelude.{Bool, ◌||◌, ℕ, eqb}

unfoldable pub plain : ℕ → Bool
plain k =
    eqb k 1 || eqb k 3 || eqb k 4 || eqb k 5 || eqb k 6 || eqb k 8 || eqb k 10 || eqb k 12 || eqb k 14 || eqb k 15 || eqb k 17 || eqb k 19
    || eqb k 21 || eqb k 22
