-- The check of round 22, message by message.
use Rattle.std.specs.Prelude.{◌≡◌, refl, Bool, ◌&&◌, List, ℕ, ◌+◌, ◌*◌, get_or}
use Rattle.std.proofs.Common.{ap, ap₂, ◌∙◌}
use Rattle.lists.specs.Pick.{pick}
use Rattle.lists.specs.All.{all_of}
use Rattle.algebra.specs.Group.{sel, odd}
use Rattle.block.specs.declared.Block.{Block}
use Rattle.block.specs.Block.{block_at, eq_block}
use Rattle.block.specs.Group.{blocks}
use Rattle.engine.specs.declared.Frame.{Frame}
use Rattle.engine.specs.Step.{by_party}
use Rattle.rounds.specs.Area.{BITS, PERM, TRIPLES, ALPHA, BETA, at}
use Rattle.rounds.specs.Beaver as R
use Rattle.faand.specs.Given.{D, E}

-- both MACs of bucket j in k's message m hold
unfoldable pub holds : Frame → Block → List ℕ → List ℕ → ℕ → ℕ → Bool
holds f delta w m k j =
    eq_block (block_at m (8 + j * 34 + 2)) (blocks.op ((D f w j).key k) (sel blocks (odd (get_or m (8 + j * 34) 0)) delta))
    && eq_block (block_at m (8 + j * 34 + 18)) (blocks.op ((E f w j).key k) (sel blocks (odd (get_or m (8 + j * 34 + 1) 0)) delta))

-- x and y are their keys, v and z whether they hold
pub both_hold : (f : Frame) (delta : Block) (w m : List ℕ) (k j : ℕ) (x y : Block) (v z : Bool) → x ≡ (D f w j).key k → y ≡ (E f w j).key k
    → v ≡ eq_block (block_at m (8 + j * 34 + 2)) (blocks.op x (sel blocks (odd (get_or m (8 + j * 34) 0)) delta))
    → z ≡ eq_block (block_at m (8 + j * 34 + 18)) (blocks.op y (sel blocks (odd (get_or m (8 + j * 34 + 1) 0)) delta))
    → (v && z) ≡ holds f delta w m k j
unfolding holds
both_hold f delta w m k j x y v z hx hy hv hz =
    ap₂ ◌&&◌
    (hv ∙ ap (λ (g : Block). eq_block (block_at m (8 + j * 34 + 2)) (blocks.op g (sel blocks (odd (get_or m (8 + j * 34) 0)) delta))) hx)
    (hz ∙ ap (λ (g : Block). eq_block (block_at m (8 + j * 34 + 18)) (blocks.op g (sel blocks (odd (get_or m (8 + j * 34 + 1) 0)) delta))) hy)

-- 12 if one of k's doesn't
unfoldable pub de_fault : Frame → Block → List ℕ → (ℕ → List ℕ) → ℕ → ℕ
de_fault f delta w m k = pick (all_of f.l (holds f delta w (m k) k)) 0 12

pub faults-by : (f : Frame) (delta : Block) (w : List ℕ) (m : ℕ → List ℕ)
    → R.de_faults f delta (at f BITS w) (at f PERM w) (at f TRIPLES w) (at f ALPHA w) (at f BETA w) m ≡ by_party f (de_fault f delta w m)
unfolding R.de_faults R.d_told R.e_told de_fault holds
faults-by f delta w m = refl
