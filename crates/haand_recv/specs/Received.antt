-- Parts of what is made of the messages of round 14.
use Rattle.std.specs.Prelude.{◌≡◌, refl, Bool, true, false, not, ◌&&◌, cond, List, ℕ, ◌+◌, ◌-◌, ◌*◌, ◌<◌, ◌≤◌, get_or}
use Rattle.std.proofs.Common.{sym, ap, ap₂, ◌∙◌, mul-one, mul-le-mul_left, arith}
use Rattle.std.specs.Bool.{beq}
use Rattle.algebra.specs.Group.{bits, addb, addb-assoc, sel, odd, left_comm}
use Rattle.algebra.specs.Sum.{others, others-ext, others-op}
use Rattle.block.specs.declared.Block.{Block}
use Rattle.block.specs.Group.{blocks}
use Rattle.share.specs.Record.{record_len, mac_at}
use Rattle.share.specs.Share.{share_at}
use Rattle.encode.specs.Encode.{bit_block}
use Rattle.engine.specs.declared.Frame.{Frame}
use Rattle.rounds.specs.Haand.{x, y, H, G, mask, v, z, z_row}
use Rattle.haand_hash.specs.Window.{hashes, g_at, h_at}
use Rattle.haand_hash.specs.WindowLaws.{g-is, h-is}

-- the bit that m has for position t: the first, or the second where b is 1
unfoldable pub received : List ℕ → ℕ → Bool → Bool
received m t b = cond b (odd (get_or m (8 + t * 2 + 1) 0)) (odd (get_or m (8 + t * 2) 0))

-- what party j adds to v, its hash left out
unfoldable pub told_by : Frame → List ℕ → List ℕ → (ℕ → List ℕ) → ℕ → ℕ → Bool
told_by f masks recs m t j = addb (mask f masks j t) (received (m j) t (x f recs t).bit)

-- z, the hashes left out
unfoldable pub told : Frame → List ℕ → List ℕ → (ℕ → List ℕ) → ℕ → Bool
told f masks recs m t = addb (others bits f.i f.n (told_by f masks recs m t)) (sel bits (x f recs t).bit (y f recs t).bit)

-- v, the hashes apart
v-is : (f : Frame) (masks recs : List ℕ) (m : ℕ → List ℕ) (t : ℕ)
    → addb (others bits f.i f.n (λ j. H ((x f recs t).mac j))) (others bits f.i f.n (told_by f masks recs m t))
    ≡ v f masks recs m t
unfolding v told_by received
v-is f masks recs m t =
    let h : ℕ → Bool = λ j. H ((x f recs t).mac j) in
    let r : ℕ → Bool = λ j. cond (x f recs t).bit (odd (get_or (m j) (8 + t * 2 + 1) 0)) (odd (get_or (m j) (8 + t * 2) 0)) in
    sym (others-op bits f.i f.n h (λ j. addb (mask f masks j t) (r j)))
    ∙ others-ext bits f.i f.n (λ j. addb (h j) (addb (mask f masks j t) (r j))) (λ j. addb (mask f masks j t) (addb (h j) (r j)))
    (λ j l ne. left_comm bits (h j) (mask f masks j t) (r j))

-- the row of position t, from the hashes of its x MACs
pub z-row-is : (f : Frame) (masks recs : List ℕ) (m : ℕ → List ℕ) (t : ℕ) (s : List ℕ) → f.i < f.n → s ≡ hashes f
    (mac_at recs (t * record_len f.n))
    → bit_block (addb (others bits f.i f.n (h_at f.i s)) (told f masks recs m t)) (others blocks f.i f.n (g_at f.i s))
    ≡ z_row f masks recs m t
unfolding bit_block z_row z told x share_at
z-row-is f masks recs m t s own e =
    let mac : ℕ → Block = mac_at recs (t * record_len f.n) in
    ap₂ bit_block
    (ap (λ (h : Bool). addb h (told f masks recs m t))
    (others-ext bits f.i f.n (h_at f.i s) (λ j. H (mac j)) (λ j l ne. h-is f j mac s e own l ne))
    ∙ sym (addb-assoc (others bits f.i f.n (λ j. H (mac j))) (others bits f.i f.n (told_by f masks recs m t))
    (sel bits (x f recs t).bit (y f recs t).bit))
    ∙ ap (λ (h : Bool). addb h (sel bits (x f recs t).bit (y f recs t).bit)) (v-is f masks recs m t))
    (others-ext blocks f.i f.n (g_at f.i s) (λ j. G (mac j)) (λ j l ne. g-is f j mac s e own l ne))

-- a choice by arithmetic
pub chosen : (x a b : Bool) → not (beq a (x && not (beq a b))) ≡ cond x b a
chosen true true true = refl
chosen true true false = refl
chosen true false true = refl
chosen true false false = refl
chosen false true true = refl
chosen false true false = refl
chosen false false true = refl
chosen false false false = refl

-- x·y
pub both : (x y : Bool) → (x && y) ≡ sel bits x y
both true y = refl
both false y = refl

-- a window has no more positions than lanes
pub positions-most : (n m : ℕ) → 2 ≤ n → m * (n - 1) ≤ 64 → m ≤ 64
positions-most n m two fits = let e : 1 ≤ n - 1 = omega arith in omega (arith, mul-le-mul_left m e, mul-one m)
