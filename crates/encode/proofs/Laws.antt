-- Items written into an exact part: bytes at the front, then Blocks through parts of it.
use Rattle.std.specs.Prelude.{◌≡◌, ◌∷◌, ◌++◌}
use Rattle.lists.specs.Kit.{refl, ap, ap₂, ◌∙◌, List, [], ℕ, suc, arith, length, set}
use lib.ListN.{length-set}
use borrow.Rule.Slice.PartMut.{put_mid}
use Rattle.lists.specs.Sect.{length-put}
use Rattle.lists.specs.Over.{over-set, over-put, over-next, over-full, sets-all}

-- one byte, then 16
pub byte-block : (v v' : ℕ) (e e' out : List ℕ) → length out ≡ 17 → v' ≡ v → e' ≡ e → put_mid 1 16 (set out 0 v') e' ≡ v ∷ e
byte-block v v' e e' out h p q =
    ap₂ (λ k (x : List ℕ). put_mid 1 16 (set out 0 k) x) p q
    ∙ ap (λ (d : List ℕ). put_mid 1 16 d e) (over-set [] out 0 v refl (omega arith))
    ∙ over-put (v ∷ []) e out 1 16 refl ∙ over-full (v ∷ e) out 17 (omega arith)

-- two bytes
pub bytes-two : (a a' b b' : ℕ) (out : List ℕ) → length out ≡ 2 → a' ≡ a → b' ≡ b → set (set out 0 a') 1 b' ≡ a ∷ b ∷ []
bytes-two a a' b b' out h p q = ap₂ (λ i j. set (set out 0 i) 1 j) p q ∙ sets-all (a ∷ b ∷ []) out h

-- two bytes, then 16, then 16
pub bytes-blocks : (a a' b b' : ℕ) (e e' f f' out : List ℕ) → length out ≡ 34 → length e ≡ 16 → a' ≡ a → b' ≡ b → e' ≡ e → f' ≡ f
    → put_mid 18 16 (put_mid 2 16 (set (set out 0 a') 1 b') e') f' ≡ a ∷ b ∷ (e ++ f)
bytes-blocks a a' b b' e e' f f' out h he p q r s =
    over-next (a ∷ b ∷ e) f f' out (put_mid 2 16 (set (set out 0 a') 1 b') e') 18 16 34
    (over-next (a ∷ b ∷ []) e e' out (set (set out 0 a') 1 b') 2 16 18
    (ap₂ (λ i j. set (set out 0 i) 1 j) p q ∙ ap (λ (d : List ℕ). set d 1 b) (over-set [] out 0 a refl (omega arith)) ∙ over-set (a ∷ []) out 1 b refl (omega arith))
    refl r refl)
    (ap (λ (n : ℕ). suc (suc n)) he) s refl
    ∙ over-full (a ∷ b ∷ (e ++ f)) out 34 (omega arith)

pub block-between : (a b : ℕ) (e e' out : List ℕ) → length out ≡ 34 → length e ≡ 16 → e' ≡ e
    → length (put_mid 2 16 (set (set out 0 a) 1 b) e') ≡ 34
block-between a b e e' out h he q =
    let n : length (set (set out 0 a) 1 b) ≡ 34 = length-set (set out 0 a) 1 b ∙ length-set out 0 a ∙ h in
    length-put 2 16 e' (set (set out 0 a) 1 b) (ap length q ∙ he) (omega arith) ∙ n
