-- Each need is given by its path, and the steps as a law on numbers, as in `g` of blake3_core.
use Rattle.std.specs.Prelude.{◌≡◌, ◌^◌, ◌<◌, ◌≤◌}
use Rattle.lists.specs.Kit.{refl, ap, ◌∙◌, arith, ℕ, get_or}
use Rattle.std.specs.Int.{w32, rotate_left}
use Rattle.std.specs.Int.Bits.{bit_xor}
use Rattle.std.proofs.lemmas.Nat.{xor_lt}
use Rattle.word.specs.Word.{rotl, quad_at, put}
use Rattle.chacha20.specs.ChaCha20 as C
use Rattle.chacha20.specs.ChaCha20Laws.{in-half}
use Rattle.word.specs.WordLaws.{rotated_left}
use Rattle.chacha20.proofs.qround.Goals as goal

-- a sum by XOR, rotated
turned : (k x y : ℕ) {r : ℕ} → 1 ≤ k → k < 32 → x < 2 ^ 32 → y < 2 ^ 32 → r ≡ rotate_left w32 (bit_xor x y) k → r ≡ rotl k (bit_xor x y)
turned k x y l m h w e = e ∙ rotated_left k (bit_xor x y) l m (xor_lt 32 x y h w)

pub returns : goal.returns
unfolding C.qround C.quarter put quad_at
returns c =
    let s = c.args in
    let v = s.v.now in
    ap (λ q. put v s.x s.y s.z s.w q)
    (in-half 8 7 _ _ _ _ refl
    (turned 8 _ _ (omega arith) (omega arith) c.rotate_left-d.type_inv (omega arith) c.rotate_left-d-2.ensures) refl
    (turned 7 _ _ (omega arith) (omega arith) c.rotate_left-b.type_inv (omega arith) c.rotate_left-b-2.ensures)
    ∙ ap (λ q. C.half 8 7 q)
    (in-half 16 12 (get_or v s.x 0) (get_or v s.y 0) (get_or v s.z 0) (get_or v s.w 0) refl
    (turned 16 _ _ (omega arith) (omega arith) (c.fits-v s.w) (omega arith) c.rotate_left-d.ensures) refl
    (turned 12 _ _ (omega arith) (omega arith) (c.fits-v s.y) (omega arith) c.rotate_left-b.ensures)))
