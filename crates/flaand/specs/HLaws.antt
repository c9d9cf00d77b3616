-- h in the parts that the functions compute.
use Rattle.std.specs.Prelude.{◌≡◌, Bool, List, ℕ, ◌+◌, ◌*◌}
use Rattle.std.proofs.Common.{sym, ap, ◌∙◌}
use Rattle.algebra.specs.Group.{XorGroup, sel, sel-op}
use Rattle.algebra.specs.Sum.{others, others-op, others-sel}
use Rattle.block.specs.declared.Block.{Block}
use Rattle.block.specs.Group.{blocks}
use Rattle.share.specs.Record.{record_len, bit_at, mac_at, key_at}
use Rattle.share.specs.Share.{share_at}
use Rattle.plan.specs.Plan.{leaky}
use Rattle.engine.specs.declared.Frame.{Frame}
use Rattle.rounds.specs.Haand as R
use Rattle.rounds.specs.Flaand.{e_told, u_told, z_key, h}

-- what party k adds, with the r record at `at`; u comes apart from it
unfoldable pub z_term : List ℕ → ℕ → Block → (ℕ → List ℕ) → ℕ → ℕ → Block
z_term recs at delta m t k = blocks.op (mac_at recs at k) (blocks.op (key_at recs at k) (sel blocks (e_told m k t) delta))

unfoldable pub hashes_at : Frame → List ℕ → List ℕ → ℕ → Block
hashes_at f rows zs t = blocks.op (R.key_hash f rows t) (R.mac_hash zs t)

-- u and phi where x is 1, and delta where z is 1
unfoldable pub masked_at : Frame → Block → Bool → List ℕ → List ℕ → (ℕ → List ℕ) → ℕ → Block
masked_at f delta x rows zs m t =
    blocks.op (sel blocks x (blocks.op (others blocks f.i f.n (λ k. u_told m k t)) (R.phi_at f rows t)))
    (sel blocks (R.z_at zs t) delta)

-- (z + h) + ((b + c) + e) is ((z + b) + h) + (c + e)
sorted : {A : Type 0} (G : XorGroup A) (z h b c e : A) → G.op (G.op z h) (G.op (G.op b c) e) ≡ G.op (G.op (G.op z b) h) (G.op c e)
sorted G z h b c e =
    ap (G.op (G.op z h)) (G.assoc b c e) ∙ sym (G.assoc (G.op z h) b (G.op c e))
    ∙ ap (λ x. G.op x (G.op c e)) (G.assoc z h b ∙ ap (G.op z) (G.comm h b) ∙ sym (G.assoc z b h))

pub h-parts : (f : Frame) (delta : Block) (recs rows zs : List ℕ) (m : ℕ → List ℕ) (t : ℕ)
    → blocks.op
    (blocks.op
    (others blocks f.i f.n (z_term recs ((2 * leaky f.l + t) * record_len f.n) delta m t))
    (hashes_at f rows zs t))
    (masked_at f delta (bit_at recs (t * record_len f.n)) rows zs m t) ≡ h f delta recs rows zs m t
unfolding h z_key z_term hashes_at masked_at R.x R.r share_at
h-parts f delta recs rows zs m t =
    let x = bit_at recs (t * record_len f.n) in
    let a : ℕ → Block = z_term recs ((2 * leaky f.l + t) * record_len f.n) delta m t in
    let u : ℕ → Block = λ k. u_told m k t in
    let z : Block = others blocks f.i f.n a in
    let us : Block = others blocks f.i f.n u in
    let d : Block = sel blocks (R.z_at zs t) delta in
    let both : blocks.op z (sel blocks x us) ≡ others blocks f.i f.n (λ k. blocks.op (a k) (sel blocks x (u k))) =
    ap (blocks.op z) (sym (others-sel blocks f.i f.n x u)) ∙ sym (others-op blocks f.i f.n a (λ k. sel blocks x (u k))) in
    ap (λ (y : Block). blocks.op (blocks.op z (hashes_at f rows zs t)) (blocks.op y d)) (sel-op blocks x us (R.phi_at f rows t))
    ∙ sorted blocks z (hashes_at f rows zs t) (sel blocks x us) (sel blocks x (R.phi_at f rows t)) d
    ∙ ap (λ (y : Block). blocks.op (blocks.op y (hashes_at f rows zs t)) (blocks.op (sel blocks x (R.phi_at f rows t)) d)) both
