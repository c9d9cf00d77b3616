-- The steps as a law on numbers: `cc` over ten calls took four times as long.
use Rattle.std.specs.Prelude.{◌≡◌, ◌^◌, ◌<◌, bit_xor}
use Rattle.lists.specs.Kit.{ap, ◌∙◌, ℕ, arith, get_or}
use Rattle.std.specs.Int.{w32, rotate_right}
use Rattle.word.specs.Word.{plus, quad_at, put}
use Rattle.blake3_core.specs.Compress as S
use Rattle.blake3_core.proofs.Words.{turn_xor}
use Rattle.blake3_core.proofs.g.Goals as goal

-- one half, step by step
half : (j k m a b c d : ℕ) {s a' d' c' b' : ℕ} → 0 < j → j < 32 → 0 < k → k < 32
    → b < 2 ^ 32 → d < 2 ^ 32 → a' < 2 ^ 32 → c' < 2 ^ 32
    → s ≡ plus a b → a' ≡ plus s m → d' ≡ rotate_right w32 (bit_xor d a') j → c' ≡ plus c d'
    → b' ≡ rotate_right w32 (bit_xor b c') k
    → (record { a = a'; b = b'; c = c'; d = d' }) ≡ S.half j k m (record { a = a; b = b; c = c; d = d })
unfolding S.half
half j k m a b c d {a' = a'} {c' = c'} j0 j1 k0 k1 fb fd fa fc p q r s t =
    let d-is = r ∙ turn_xor j d a' j0 j1 fd fa in
    let b-is = t ∙ turn_xor k b c' k0 k1 fb fc in
    cc

pub returns : goal.returns
unfolding S.g S.quarter quad_at put
returns c =
    let a = c.args in
    let v = a.v.now in
    let x = get_or a.m.now a.p 0 in
    let y = get_or a.m.now a.q 0 in
    ap (λ q. put v a.i a.j a.k a.l q)
    (half 8 7 y _ _ _ _ (omega arith) (omega arith) (omega arith) (omega arith)
    c.rotate_right-b.type_inv c.rotate_right-d.type_inv c.add-a-2.type_inv c.add-c-2.type_inv
    c.add-2.ensures c.add-a-2.ensures c.rotate_right-d-2.ensures c.add-c-2.ensures c.rotate_right-b-2.ensures
    ∙ ap (S.half 8 7 y)
    (half 16 12 x (get_or v a.i 0) (get_or v a.j 0) (get_or v a.k 0) (get_or v a.l 0)
    (omega arith) (omega arith) (omega arith) (omega arith)
    (c.fits-v a.j) (c.fits-v a.l) c.add-a.type_inv c.add-c.type_inv
    c.add.ensures c.add-a.ensures c.rotate_right-d.ensures c.add-c.ensures c.rotate_right-b.ensures))
