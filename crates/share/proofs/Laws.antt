-- What the code of this crate computes, over plain variables.
use Rattle.std.specs.Prelude.{◌≡◌, ◌∷◌, ◌++◌, ◌+◌, ◌≤◌}
use Rattle.lists.specs.Kit.{refl, List, [], Bool, ℕ, arith, length, drop, replicate, set}
use Rattle.algebra.specs.Group.{num}
use Rattle.share.specs.Layout.{head_of, mac_off}
use Rattle.share.specs.Lent.{LABEL, label_of, lent_head}

-- the bit is all of a head
pub set-head : (b : Bool) (d : List ℕ) → mac_off 0 ≤ length d → set d 0 (num b) ≡ head_of b ++ drop (mac_off 0) d
unfolding mac_off head_of
set-head b [] h = absurd (omega arith)
set-head b (x ∷ d) h = refl

-- a head with a label over what stood there: zeros, then the bit, n and the own number
pub set-lent-head : (n i : ℕ) (b : Bool) (d : List ℕ)
    → set (set (set (replicate 32 0 ++ drop (1 + LABEL) d) 0 (num b)) 1 n) 2 i ≡ lent_head n i b ++ drop (1 + LABEL) d
unfolding lent_head label_of
set-lent-head n i b d = refl
