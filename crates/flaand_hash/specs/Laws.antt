-- Round 19: the checks of h, item by item and window by window.
use Rattle.std.specs.Prelude.{◌≡◌, Err, Bool, true, false, ◌&&◌, ℕ, ◌+◌, ◌*◌, ◌/◌, ◌%◌, ◌≤◌, length, drop}
use Rattle.std.proofs.Math.Path.{refl, ap, ap₂}
use Rattle.std.proofs.Common.{sym, ◌∙◌, drop-drop, take_all}
use mathlib.Core.List.{List}
use Rattle.std.proofs.Math.Nat.{mul_assoc}
use native.Mathlib.Omega.{arith}
use Rattle.std.proofs.Math.ListN.{take, length-drop}
use Rattle.lists.specs.Pick.{pick}
use Rattle.lists.specs.All.{all-add, all_of, all-ext}
use Rattle.lists.specs.Over.{cat, in-chunks}
use Rattle.lists.specs.Rows.{chunk, cat-chunk, length-chunk}
use Rattle.lists.specs.Same.{same?, same-cat}
use Rattle.lists.specs.Bytes.{Bytes}
use Rattle.algebra.specs.Sum.{others}
use Rattle.block.specs.declared.Block.{Block}
use Rattle.block.specs.Block.{block_at, bytes_of, eq_block}
use Rattle.block.specs.Trip.{block-get}
use Rattle.block.specs.Group.{blocks}
use Rattle.blake3.specs.Tree.{hash}
use Rattle.blake3_lanes.specs.Lanes.{hash_at}
use Rattle.plan.specs.Plan.{leaky}
use Rattle.engine.specs.declared.Frame.{Frame}
use Rattle.engine.specs.declared.Refusal.{Refusal}
use Rattle.engine.specs.Step.{Fault, by_party}
use Rattle.engine.specs.StepLaws.{or-none}
use Rattle.rounds.specs.EchoLaws.{same_block}
use Rattle.blake3.specs.ByteLaws.{length-hash}
use Rattle.rounds.specs.FaultLaws.{Finds, finds-one}
use Rattle.rounds.specs.Flaand.{h_told, opening, zero_sum, h_faults}

-- ---- the checks of round 19
-- h of position t in the message s of party k opens its commitment; c positions
unfoldable pub opens_at : ℕ → List ℕ → ℕ → List ℕ → ℕ → Bool
opens_at c comms k s t = same? (hash (bytes_of (block_at s (8 + t * 16)))) (take 32 (drop ((k * c + t) * 32) comms))

-- each of them does
unfoldable pub opens : ℕ → List ℕ → ℕ → List ℕ → Bool
opens l comms k s = all_of (leaky l) (opens_at (leaky l) comms k s)

unfoldable pub open_fault : ℕ → List ℕ → (ℕ → List ℕ) → ℕ → ℕ
open_fault l comms m k = pick (opens l comms k (m k)) 0 2

pub opening-by : (f : Frame) (comms : List ℕ) (m : ℕ → List ℕ) → opening f comms m ≡ by_party f (open_fault f.l comms m)
unfolding opening open_fault opens opens_at h_told
opening-by f comms m = refl

-- all h sum to zero: at position t, and at each
unfoldable pub zero_at : Frame → List ℕ → (ℕ → List ℕ) → ℕ → Bool
zero_at f own m t = eq_block (blocks.op (block_at own (t * 16)) (others blocks f.i f.n (λ k. h_told m k t))) blocks.nil

unfoldable pub summed : Frame → List ℕ → (ℕ → List ℕ) → Bool
summed f own m = all_of (leaky f.l) (zero_at f own m)

-- the answer is the first of the two
module _ (f : Frame) (own comms : List ℕ) (m : ℕ → List ℕ) where
  pub faults-open : (r : Refusal) → Finds (Err r) (opening f comms m) → Finds (Err r) (h_faults f own comms m)
  unfolding h_faults
  faults-open r e = finds-one r (opening f comms m) (zero_sum f own m) e

  -- no opening fails: by whether all h sum to zero
  pub faults-none : (opening f comms m).code ≡ 0 → summed f own m ≡ true → (h_faults f own comms m).code ≡ 0
  unfolding h_faults zero_sum summed zero_at
  faults-none z e =
      ap (λ (x : Fault). x.code) (or-none (opening f comms m) (zero_sum f own m) z) ∙ ap (λ (b : Bool). pick {A = ℕ} b 0 10) e

  pub faults-sum : (opening f comms m).code ≡ 0 → summed f own m ≡ false
      → (10 ≡ (h_faults f own comms m).code) × (f.i ≡ (h_faults f own comms m).party)
  unfolding h_faults zero_sum summed zero_at
  faults-sum z e =
      let q = sym (or-none (opening f comms m) (zero_sum f own m) z) in
      (ap (λ (b : Bool). pick {A = ℕ} b 0 10) (sym e) ∙ ap (λ (x : Fault). x.code) q, ap (λ (x : Fault). x.party) q)

-- ---- windows
-- Block by Block
pub same_blocks : (a b : List ℕ) → Bytes a → Bytes b → length a ≡ length b → length a % 16 ≡ 0
    → all_of (length a / 16) (λ t. eq_block (block_at a (t * 16)) (block_at b (t * 16))) ≡ same? a b
unfolding chunk
same_blocks a b ba bb h r =
    let n = length a / 16 in
    let e : n * 16 ≡ length a = omega arith in
    all-ext n _ (λ q. same? (take 16 (drop (q * 16) a)) (take 16 (drop (q * 16) b)))
    (λ q l. let w = in-chunks q n 16 l in same_block a b (q * 16) q ba bb (omega arith) (omega arith))
    ∙ sym (same-cat n 16 (λ q. take 16 (drop (q * 16) a)) b (λ q l. length-chunk 16 n q a l (omega arith)) (omega arith))
    ∙ ap₂ same? (cat-chunk 16 n a ∙ take_all (n * 16) a (omega arith)) (take_all (n * 16) b (omega arith))

-- ---- a turn of `opens`: the c h from t on, in hs, against their commitments, which start at `from`
module _ (k c t : ℕ) (comms m hs : List ℕ) (count from : ℕ)
    (eh : hs ≡ take (c * 16) (drop (8 + t * 16) m)) (ef : from ≡ k * (count * 32) + t * 32) (fits : from + c * 32 ≤ length comms) where
  window-is : same? (cat c (hash_at hs)) (take (c * 32) (drop from comms)) ≡ all_of c (λ q. opens_at count comms k m (t + q))
  unfolding opens_at
  window-is =
      same-cat c 32 (hash_at hs) (drop from comms) (λ q l. length-hash (bytes_of (block_at hs (q * 16))))
      (omega (arith, length-drop from comms))
      ∙ all-ext c _ (λ q. opens_at count comms k m (t + q)) (λ q l.
      ap₂ same?
      (ap (λ (b : Block). hash (bytes_of b))
      (ap (λ (s : List ℕ). block_at s (q * 16)) eh ∙ block-get m (8 + t * 16) (c * 16) (q * 16) (omega arith)
      ∙ ap (block_at m) (let z : 8 + t * 16 + q * 16 ≡ 8 + (t + q) * 16 = omega arith in z)))
      (ap (take 32) (drop-drop (q * 32) from comms)
      ∙ ap (λ j. take 32 (drop j comms)) (let z : from + q * 32 ≡ (k * count + (t + q)) * 32 = omega (arith, mul_assoc k count 32) in z)))

  pub window-turn : (ok b : Bool) → ok ≡ all_of t (opens_at count comms k m)
      → b ≡ same? (cat c (hash_at hs)) (take (c * 32) (drop from comms)) → (ok && b) ≡ all_of (t + c) (opens_at count comms k m)
  window-turn ok b eo eb = ap₂ ◌&&◌ eo (eb ∙ window-is) ∙ sym (all-add (opens_at count comms k m) t c)
