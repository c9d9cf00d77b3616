-- Rounds 15, 17 and 19, `flaand`: what is computed of the rows of LEAKY, ZS, ES and HS is the formula's e, u, z's share and h.
use Rattle.std.specs.Prelude.{◌≡◌, refl, ◌≢◌, length}
use Rattle.std.proofs.Common.{sym, ◌∙◌, add-zero, arith}
use Rattle.std.proofs.Math.Path.{ap}
use Rattle.std.proofs.Math.Bool.{Bool}
use mathlib.Core.List.{List, [], append-nil}
use Prim.Native.Nat.{ℕ, ◌+◌, ◌*◌, ◌<◌}
use Rattle.std.proofs.Math.ListN.{get_or}
use Rattle.lists.specs.Over.{tab, cat, length-cat, length-tab, get_or-tab}
use Rattle.lists.specs.Rows.{get_d_chunk, cat-ext}
use Rattle.algebra.specs.Group.{XorGroup, bits, sel, odd, num, odd-num, ac}
use Rattle.algebra.specs.Sum.{others, others-op}
use Rattle.block.specs.declared.Block.{Block}
use Rattle.block.specs.Block.{block_at, bytes_of, Small}
use Rattle.block.specs.Group.{blocks}
use Rattle.block.specs.Trip.{small_at, small-xor, small-sel, small-others, length-bytes_of, block-bytes_of}
use Rattle.blake3.specs.Tree.{hash}
use Rattle.share.specs.ShareLaws.{SmallShare, Agree}
use Rattle.encode.specs.Encode.{bit_block}
use Rattle.plan.specs.Plan.{leaky}
use Rattle.engine.specs.declared.Frame.{Frame}
use Rattle.rounds.specs.Area.{rows}
use Rattle.rounds.specs.Opening.{party}
use Rattle.rounds.specs.Haand.{x, r, G, phi, u, leaky_rows, z_rows}
use Rattle.rounds.specs.Flaand.{e, flaand_msg, e_told, u_told, e_rows, z_key, h, hs, comm_msg, hash_msg}
use Rattle.rounds.specs.Buckets.{z_share}
use Rattle.alone.specs.Formula as F
use Rattle.alone.specs.Formula.{Seen}
use Rattle.alone.specs.Holds.{h_rows}
use Rattle.alone.specs.Given.{Admissible, small-delta, small_r}
use Rattle.alone.specs.Base.{chunk-rows, length-rows}
use Rattle.alone.specs.Cells.{row_block, encode-ext}
use Rattle.alone.proofs.HaandLaws.{small-G, small-phi, phi-read, key-hash-read, u-read, z-read, mac-hash-read}

-- ---- h, as it is computed and as document 01 has it
h-sort : {A : Type 0} (G : XorGroup A) (a b c d p q : A)
    → G.op (G.op (G.op a d) (G.op b c)) (G.op p q) ≡ G.op (G.op (G.op (G.op (G.op a b) c) d) p) q
h-sort G a b c d p q = simp ac

pub h-alg : {A : Type 0} (G : XorGroup A) (i n : ℕ) (a b c d : ℕ → A) (p q : A)
    → G.op (G.op (others G i n (λ j. G.op (a j) (d j))) (G.op (others G i n b) (others G i n c))) (G.op p q)
    ≡ G.op (G.op (others G i n (λ j. G.op (G.op (G.op (a j) (b j)) (c j)) (d j))) p) q
h-alg {A} G i n a b c d p q =
    ap (λ (s : A). G.op (G.op s (G.op (others G i n b) (others G i n c))) (G.op p q)) (others-op G i n a d)
    ∙ h-sort G (others G i n a) (others G i n b) (others G i n c) (others G i n d) p q
    ∙ sym (ap (λ (s : A). G.op (G.op s p) q)
    (others-op G i n (λ j. G.op (G.op (a j) (b j)) (c j)) d
    ∙ ap (λ (s : A). G.op s (others G i n d))
    (others-op G i n (λ j. G.op (a j) (b j)) c ∙ ap (λ (s : A). G.op s (others G i n c)) (others-op G i n a b))))

-- Blocks one after another, read back
pub block_row : (c : ℕ) (b : ℕ → Block) (t : ℕ) → t < c → Small (b t) → block_at (cat c (λ t. bytes_of (b t))) (t * 16) ≡ b t
block_row c b t lt s =
    ap (block_at (cat c (λ t. bytes_of (b t)))) (sym (add-zero (t * 16)))
    ∙ row_block 16 c (λ t. bytes_of (b t)) (λ t l. length-bytes_of (b t)) t 0 lt (omega arith)
    ∙ ap (λ (s : List ℕ). block_at s 0) (sym (append-nil (bytes_of (b t)))) ∙ block-bytes_of (b t) [] s

-- ---- the rows of ES
module _ (f : Frame) (m : ℕ → List ℕ) where
  e-row : (j : ℕ) → length (tab (leaky f.l) (λ t. num (e_told m j t))) ≡ leaky f.l
  e-row j = length-tab (leaky f.l) _

  pub length-es : length (e_rows f m) ≡ f.n * leaky f.l
  unfolding e_rows
  length-es = length-rows f (leaky f.l) _ (λ k lk ne. e-row k)

  pub e-read : (j t : ℕ) → j < f.n → f.i ≢ j → t < leaky f.l → odd (get_or (e_rows f m) (j * leaky f.l + t) 0) ≡ e_told m j t
  unfolding e_rows
  e-read j t lj ne lt =
      ap odd
      (sym (get_d_chunk (leaky f.l) j (rows f (leaky f.l) (λ j. tab (leaky f.l) (λ t. num (e_told m j t)))) t 0 lt)
      ∙ ap (λ (s : List ℕ). get_or s t 0)
      (chunk-rows f (leaky f.l) (λ j. tab (leaky f.l) (λ t. num (e_told m j t))) (λ k lk ne'. e-row k) j lj ne)
      ∙ get_or-tab (leaky f.l) t (λ t. num (e_told m j t)) 0 lt)
      ∙ odd-num (e_told m j t)

module _ (S : Seen) (I : Admissible S) where
  open S use {inputs as a, mail as m}

  abbrev f : Frame
  f = party S.inputs

  abbrev δ : Block
  δ = F.delta S

  -- what LEAKY and ZS hold
  abbrev leakys : List ℕ
  leakys = leaky_rows f δ a.bits

  abbrev zs : List ℕ
  zs = z_rows f a.masks a.bits (m 14)

  -- ---- round 15
  pub msg-15 : (j : ℕ) → j < f.n → f.i ≢ j → flaand_msg f a.bits leakys zs j ≡ F.sent15 S j
  unfolding flaand_msg e F.sent15 F.e F.z F.r F.u F.x F.phi u
  msg-15 j lj ne =
      encode-ext (leaky f.l) _ _ (λ t lt.
      (λ q. bit_block (bits.op (z-read f a.masks a.bits (m 14) t lt q) (r f a.bits t).bit)
      (u-read f δ a.bits (small-delta S I) I.bits-bytes t lt j lj ne q)))

  -- ---- z's share
  pub small-z : (t : ℕ) → SmallShare f.n (F.z_share S t)
  unfolding F.z_share
  small-z t =
      let s = small_r S I t in
      record {
        mac = s.mac;
        key = λ k lk. small-xor _ _ (s.key k lk) (small-sel (e_told (m 15) k t) δ (small-delta S I));
      }

  pub z-share-read : (t : ℕ) → t < leaky f.l → Agree f.n f.i (z_share f δ a.bits zs (e_rows f (m 15)) t) (F.z_share S t)
  unfolding z_share F.z_share F.z F.r z_key
  z-share-read t lt = record {
    bit = z-read f a.masks a.bits (m 14) t lt;
    mac = λ k lk ne. refl;
    key = λ k lk ne. ap (λ (b : Bool). blocks.op ((r f a.bits t).key k) (sel blocks b δ)) (e-read f (m 15) k t lk ne lt);
  }

  -- ---- rounds 17 and 19
  pub h-read : (t : ℕ) → t < leaky f.l → h f δ a.bits leakys zs (m 15) t ≡ F.h S t
  unfolding h F.h F.h_term F.z_share F.x F.r F.z F.phi z_key
  h-read t lt =
      let s : Bool = (x f a.bits t).bit in
      let small-d = small-delta S I in
      let keys = key-hash-read f δ a.bits small-d I.bits-bytes t lt in
      let macs = mac-hash-read f a.masks a.bits (m 14) t lt in
      let own = phi-read f δ a.bits small-d I.bits-bytes t lt in
      let bit = z-read f a.masks a.bits (m 14) t lt in
      let key : ℕ → Block = λ j. blocks.op ((r f a.bits t).key j) (sel blocks (e_told (m 15) j t) δ) in
      let term : ℕ → Block = λ j. blocks.op ((r f a.bits t).mac j) (key j) in
      let told : ℕ → Block = λ j. sel blocks s (u_told (m 15) j t) in
      (λ q. blocks.op
      (blocks.op (others blocks f.i f.n (λ j. blocks.op (term j) (told j))) (blocks.op (keys q) (macs q)))
      (blocks.op (sel blocks s (own q)) (sel blocks (bit q) δ)))
      ∙ h-alg blocks f.i f.n term (λ j. G ((x f a.bits t).key j)) (λ j. G ((x f a.bits t).mac j)) told
      (sel blocks s (phi f δ a.bits t)) (sel blocks (F.z S t) δ)

  pub small-h : (t : ℕ) → Small (F.h S t)
  unfolding F.h F.h_term F.phi u_told
  small-h t =
      let sz = small-z t in
      let sd = small-delta S I in
      small-xor _ _
      (small-xor _ _
      (small-others f.i f.n _ (λ j lj.
      small-xor _ _ (small-xor _ _ (small-xor _ _ (small-xor _ _ (sz.mac j lj) (sz.key j lj)) (small-G _)) (small-G _))
      (small-sel (F.x S t).bit _ (small-told j t)))) (small-sel (F.x S t).bit _ (small-phi f δ a.bits sd I.bits-bytes t)))
      (small-sel (F.z S t) δ sd)
    where
      small-told : (j t : ℕ) → Small (u_told (m 15) j t)
      small-told j t = small_at (m 15 j) (I.mail-bytes 15 j) _

  pub length-hs : length (h_rows S) ≡ leaky f.l * 16
  unfolding h_rows
  length-hs = length-cat (leaky f.l) 16 _ (λ t lt. length-bytes_of _)

  -- what HS holds
  pub hs-read : hs f δ a.bits leakys zs (m 15) ≡ h_rows S
  unfolding hs h_rows
  hs-read = cat-ext (leaky f.l) _ _ (λ t lt. ap bytes_of (h-read t lt))

  own-h : (t : ℕ) → t < leaky f.l → block_at (h_rows S) (t * 16) ≡ F.h S t
  unfolding h_rows
  own-h t lt = block_row (leaky f.l) (F.h S) t lt (small-h t)

  pub msg-17 : comm_msg f (h_rows S) ≡ F.sent17 S
  unfolding comm_msg F.sent17
  msg-17 = encode-ext (leaky f.l) _ _ (λ t lt. ap (λ (b : Block). hash (bytes_of b)) (own-h t lt))

  pub msg-19 : hash_msg f (h_rows S) ≡ F.sent19 S
  unfolding hash_msg F.sent19
  msg-19 = encode-ext (leaky f.l) _ _ (λ t lt. ap bytes_of (own-h t lt))
