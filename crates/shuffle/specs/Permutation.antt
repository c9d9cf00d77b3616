-- A "permutation of 0 to l·b − 1" (document 01, refusal 18): every entry is below the length, and none stands twice.
use Rattle.std.specs.Prelude.{ℕ, Bool, not, ◌&&◌, List, length, get_or, ltb, eqb}
use Rattle.lists.specs.All.{all_of}

-- x is none of the first t entries
unfoldable pub fresh : List ℕ → ℕ → ℕ → Bool
fresh p t x = all_of t (λ u. not (eqb (get_or p u 0) x))

unfoldable pub entry_ok : List ℕ → ℕ → Bool
entry_ok p t = ltb (get_or p t 0) (length p) && fresh p t (get_or p t 0)

unfoldable pub is_perm : List ℕ → Bool
is_perm p = all_of (length p) (entry_ok p)
