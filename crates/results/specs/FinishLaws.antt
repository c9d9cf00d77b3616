-- c + d·beta + e·a, part by part, and the results.
use Rattle.std.specs.Prelude.{◌≡◌, Bool, not, ◌&&◌, List, ℕ, ◌+◌, ◌*◌, get_or}
use Rattle.std.proofs.Common.{sym, ◌∙◌}
use Rattle.std.proofs.Math.Path.{ap, ap₂}
use Rattle.std.specs.Bool.{beq}
use Rattle.algebra.specs.Group.{bits, addb, sel, odd, xor-addb, xor-and}
use Rattle.algebra.specs.Sum.{others}
use Rattle.block.specs.Group.{blocks}
use Rattle.share.specs.Share.{Share, share_at, shares}
use Rattle.share.specs.Lent.{lent_of}
use Rattle.share.specs.LentLaws.{agree-lent}
use Rattle.share.specs.ShareLaws.{bit-sel, mac-sel, key-sel}
use Rattle.engine.specs.declared.Frame.{Frame}
use Rattle.rounds.specs.Area.{BITS, PERM, TRIPLES, ALPHA, BETA, at}
use Rattle.rounds.specs.Beaver as R
use Rattle.rounds.specs.Beaver.{finish}
use Rattle.faand.specs.declared.Records.{Records}
use Rattle.faand.specs.Given.{Reads, D, E}

-- c + d·beta + e·a, part by part
module _ (c x a : Share) (d e : Bool) where
  pub finish-bit : not (beq (not (beq c.bit (x.bit && d))) (a.bit && e)) ≡ (finish c x a d e).bit
  unfolding finish shares
  finish-bit =
      xor-and (not (beq c.bit (x.bit && d))) a.bit e
      ∙ ap₂ addb (xor-and c.bit x.bit d ∙ ap (addb c.bit) (sym (bit-sel d x))) (sym (bit-sel e a))

  pub finish-mac : (k : ℕ) → blocks.op (blocks.op (c.mac k) (sel blocks d (x.mac k))) (sel blocks e (a.mac k)) ≡ (finish c x a d e).mac k
  unfolding finish shares
  finish-mac k = ap₂ blocks.op (ap (blocks.op (c.mac k)) (sym (mac-sel d x k))) (sym (mac-sel e a k))

  pub finish-key : (k : ℕ) → blocks.op (blocks.op (c.key k) (sel blocks d (x.key k))) (sel blocks e (a.key k)) ≡ (finish c x a d e).key k
  unfolding finish shares
  finish-key k = ap₂ blocks.op (ap (blocks.op (c.key k)) (sym (key-sel d x k))) (sym (key-sel e a k))

-- the result of bucket j
abbrev pub result : Frame → List ℕ → (ℕ → List ℕ) → ℕ → List ℕ
result f w m j = lent_of f.n f.i (R.result_share f (at f BITS w) (at f PERM w) (at f TRIPLES w) (at f ALPHA w) (at f BETA w) m j)

-- and where the sums of the others' bits are u and v
abbrev pub result_of : Frame → List ℕ → ℕ → Bool → Bool → List ℕ
result_of f w j u v = lent_of f.n f.i
    (finish (R.c f (at f TRIPLES w) j) (R.share f (at f BETA w) j) (R.a f (at f TRIPLES w) j) (addb (D f w j).bit u)
    (addb (E f w j).bit v))

pub result-told : (f : Frame) (w : List ℕ) (m : ℕ → List ℕ) (j : ℕ) (u v : Bool) (x : List ℕ)
    → u ≡ others bits f.i f.n (λ k. odd (get_or (m k) (8 + j * 34) 0)) → v ≡ others bits f.i f.n
    (λ k. odd (get_or (m k) (8 + j * 34 + 1) 0))
    → x ≡ result_of f w j u v → x ≡ result f w m j
unfolding R.result_share R.d_opened R.e_opened R.d_told R.e_told
result-told f w m j u v x hu hv h = h ∙ ap₂ (result_of f w j) hu hv

-- from the records at r: d and e are the bits of the sums there
pub result-read : {f : Frame} {w : List ℕ} {j : ℕ} {r : Records} → Reads f w j r → (d e u v : Bool) (x : List ℕ)
    → d ≡ (shares.op (share_at w r.a) (share_at w r.alpha)).bit → e ≡ (shares.op (share_at w r.b) (share_at w r.beta)).bit
    → x ≡ lent_of f.n f.i (finish (share_at w r.c) (share_at w r.beta) (share_at w r.a) (not (beq d u))
    (not (beq e v)))
    → x ≡ result_of f w j u v
result-read {f} {w} {j} q d e u v x hd he h =
    h ∙ agree-lent f.n f.i _ _ (q.finish-read _ _)
    ∙ ap₂ (λ (a b : Bool). lent_of f.n f.i (finish (R.c f (at f TRIPLES w) j) (R.share f (at f BETA w) j)
    (R.a f (at f TRIPLES w) j) a b))
    (xor-addb d u ∙ ap (λ (b : Bool). addb b u) (hd ∙ q.d-read.bit)) (xor-addb e v ∙ ap (λ (b : Bool). addb b v) (he ∙ q.e-read.bit))
