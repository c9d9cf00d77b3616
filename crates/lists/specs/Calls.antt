-- What a clause says of a closure that writes rows: a call of it at a lent row and the row's number.
use Rattle.std.specs.Prelude.{◌≡◌, List, ℕ, length}
use Rattle.std.specs.Borrow.{MutBor}
use Rattle.std.specs.Fn.{Shared}

module _ {F : Type 0} (g : Shared F (MutBor (List ℕ) × (ℕ × Unit {0})) (Unit {0} × (MutBor (List ℕ) × Unit {0}))) (put : F) (len k : ℕ) where
  -- it may be called at every row of `len` bytes
  abbrev pub TakesRow : Type 0
  TakesRow = (row : MutBor (List ℕ)) → length row.now ≡ len → g.pre put (row, (k, tt))

  -- and leaves x there
  abbrev pub LeavesRow : List ℕ → Type 0
  LeavesRow x = (row left : MutBor (List ℕ)) → length row.now ≡ len → g.post put (row, (k, tt)) (tt, (left, tt)) → left.now ≡ x
