-- What a round does with its messages goes by those of other parties alone, so it is the same whether the own one is masked or not.
use Rattle.std.specs.Prelude.{◌≡◌, refl, Bool, cond, ◌&&◌, ◌||◌, ◌≢◌, ℕ, ◌+◌, ◌*◌, ◌<◌, leb, eqb, drop, replicate}
use Rattle.std.proofs.Math.Path.{ap, ap₂}
use mathlib.Core.List.{List, ◌∷◌}
use Rattle.std.proofs.Math.ListN.{get_or, take}
use Rattle.std.specs.Int.Bits.{bit_xor}
use Rattle.lists.specs.Pick.{pick}
use Rattle.lists.specs.All.{all_of, all-ext}
use Rattle.lists.specs.Over.{tab, cat}
use Rattle.lists.specs.Rows.{chunk, cat-ext, tab-ext}
use Rattle.lists.specs.Same.{same?}
use Rattle.algebra.specs.Group.{bits, numbers, addb, sel, odd, num}
use Rattle.algebra.specs.Sum.{others, others-ext}
use Rattle.block.specs.declared.Block.{Block}
use Rattle.block.specs.Block.{word_at, block_at, bytes_of, eq_block, xor_inplace}
use Rattle.block.specs.Group.{blocks}
use Rattle.blake3.specs.Tree.{hash}
use Rattle.message.specs.declared.Kind.TheVariants.{Dms}
use Rattle.message.specs.Format.{item_at}
use Rattle.share.specs.Lent.{lent_of}
use Rattle.plan.specs.Plan.{leaky, dm_len}
use Rattle.engine.specs.declared.Frame.{Frame}
use Rattle.engine.specs.Step.{mask, or_else}
use Rattle.engine.specs.StepLaws.{other-cases, mask_at, by-ext}
use Rattle.rounds.specs.Area.{SEED, PAIRS, MASKS, BITS, ALPHA, BETA, COMMS, JOINT, PAIR_COMMS, PAIRWISE, KEY_SUMS, SHARE_COMMS, DMS, LEAKY}
use Rattle.rounds.specs.Area.{ZS, ES, HS, H_COMMS, PERM, DS, TRIPLES, at, keep, rows}
use Rattle.rounds.specs.Toss as Toss
use Rattle.rounds.specs.Fabitn as Fabitn
use Rattle.rounds.specs.Fashare as Fashare
use Rattle.rounds.specs.Haand as Haand
use Rattle.rounds.specs.Flaand as Flaand
use Rattle.rounds.specs.Buckets as Buckets
use Rattle.rounds.specs.Beaver as Beaver
use Rattle.rounds.specs.FaultLaws.{first-ext}
use Rattle.rounds.specs.Table.{delta, judge, kept}

-- ---- rows, checks and sums over other parties
rows_ext : (f : Frame) (c : ℕ) (g h : ℕ → List ℕ) → ((k : ℕ) → k < f.n → f.i ≢ k → g k ≡ h k) → rows f c g ≡ rows f c h
unfolding rows
rows_ext f c g h e =
    cat-ext f.n _ _ (λ k l. other-cases f k (λ b. pick b (g k) (replicate c 0) ≡ pick b (h k) (replicate c 0)) (λ l' ne. e k l' ne) refl)

-- ---- round by round
module _ (f : Frame) (m : ℕ → List ℕ) where
  abbrev M : ℕ → List ℕ
  M = mask f m

  -- what is read of another party's message
  of : {A : Type 0} (g : List ℕ → A) (k : ℕ) → k < f.n → f.i ≢ k → g (M k) ≡ g (m k)
  of g k l ne = ap g (mask_at f m k l ne)

  told : Toss.told_rows f M ≡ Toss.told_rows f m
  unfolding Toss.told_rows
  told = rows_ext f 32 _ _ (λ k l ne. of Toss.told k l ne)

  opening : (comms : List ℕ) → Toss.opening f comms M ≡ Toss.opening f comms m
  unfolding Toss.opening
  opening comms =
      by-ext f _ _ (λ k l ne. of (λ x. pick (same? (Toss.commitment (Toss.told x) k) (chunk 32 k comms)) 0 2) k l ne)

  joint : (seed : List ℕ) → Toss.joint_seed f seed M ≡ Toss.joint_seed f seed m
  unfolding Toss.joint_seed
  joint seed =
      tab-ext 32 _ _ (λ t lt. ap (bit_xor (get_or seed t 0))
      (others-ext numbers f.i f.n (λ k. get_or (Toss.told (M k)) t 0) (λ k. get_or (Toss.told (m k)) t 0)
      (λ k l ne. of (λ x. get_or (Toss.told x) t 0) k l ne)))

  pairwise : (pairs : List ℕ) → Toss.pairwise_seeds f pairs M ≡ Toss.pairwise_seeds f pairs m
  unfolding Toss.pairwise_seeds
  pairwise pairs = rows_ext f 32 _ _ (λ k l ne. of (λ x. xor_inplace (chunk 32 k pairs) (Toss.told x)) k l ne)

  abits : (d : Block) (sums : List ℕ) → Fabitn.abits f d sums M ≡ Fabitn.abits f d sums m
  unfolding Fabitn.abits Fabitn.abit_fault
  abits d sums =
      first-ext 120 _ _ (λ j lj. by-ext f _ _ (λ k l ne.
      of (λ x. pick (eq_block (block_at x (8 + j * 17 + 1))
      (blocks.op (block_at sums ((k * 120 + j) * 16)) (sel blocks (odd (get_or x (8 + j * 17) 0)) d))) 0 8) k l ne))

  share_comms : Fashare.comm_rows f M ≡ Fashare.comm_rows f m
  unfolding Fashare.comm_rows
  share_comms = rows_ext f (40 * 96) _ _ (λ k l ne. of (λ x. take (40 * 96) (drop 8 x)) k l ne)

  third_faults : (comms : List ℕ) → Fashare.third_faults f comms M ≡ Fashare.third_faults f comms m
  unfolding Fashare.third_faults Fashare.third_fault
  third_faults comms =
      first-ext 40 _ _ (λ q lq. by-ext f _ _ (λ k l ne.
      of (λ x. pick (same? (hash (Fashare.whole_dm x q)) (take 32 (drop 64 (Fashare.comms_to comms k q)))) 0 2) k l ne))

  dm_faults : Fashare.dm_faults f M ≡ Fashare.dm_faults f m
  unfolding Fashare.dm_faults Fashare.dm_fault
  dm_faults =
      first-ext 40 _ _ (λ q lq. by-ext f _ _ (λ k l ne.
      of (λ x. pick (eqb (word_at x (item_at Dms x q)) (dm_len f.n)) (pick (leb (get_or x (Fashare.dm_at x q) 0) 1) 0 1) 4) k l ne))

  ver_faults : (comms : List ℕ) → Fashare.ver_faults f comms M ≡ Fashare.ver_faults f comms m
  unfolding Fashare.ver_faults
  ver_faults comms = ap₂ or_else (third_faults comms) dm_faults

  dm_rows : Fashare.dm_rows f M ≡ Fashare.dm_rows f m
  unfolding Fashare.dm_rows
  dm_rows =
      rows_ext f (40 * dm_len f.n) _ _ (λ k l ne.
      of (λ x. cat 40 (λ q. take (dm_len f.n) (drop (Fashare.dm_at x q) x))) k l ne)

  dibi : (recs comms dms : List ℕ) → Fashare.dibi_faults f recs comms dms M ≡ Fashare.dibi_faults f recs comms dms m
  unfolding Fashare.dibi_faults Fashare.dibi_fault
  dibi recs comms dms =
      first-ext 40 _ _ (λ q lq. by-ext f _ _ (λ k l ne.
      of (λ x. let d = block_at x (8 + q * 16) in
      let c = Fashare.comms_to comms k q in
      pick (same? (hash (bytes_of d)) (take 32 c) || same? (hash (bytes_of d)) (take 32 (drop 32 c)))
      (pick (eq_block (Fashare.macs_for f recs dms q k) d) 0 9) 2) k l ne))

  z_rows : (masks recs : List ℕ) → Haand.z_rows f masks recs M ≡ Haand.z_rows f masks recs m
  unfolding Haand.z_rows Haand.z_row Haand.z Haand.v
  z_rows masks recs =
      cat-ext (leaky f.l) _ _ (λ t lt.
      ap (λ (b : Bool). num (addb b (sel bits (Haand.x f recs t).bit (Haand.y f recs t).bit))
      ∷ bytes_of (others blocks f.i f.n (λ j. Haand.G ((Haand.x f recs t).mac j))))
      (others-ext bits f.i f.n _ _ (λ j l ne.
      of (λ x. addb (Haand.mask f masks j t) (addb (Haand.H ((Haand.x f recs t).mac j))
      (cond (Haand.x f recs t).bit (odd (get_or x (8 + t * 2 + 1) 0)) (odd (get_or x (8 + t * 2) 0))))) j l ne)))

  es : Flaand.e_rows f M ≡ Flaand.e_rows f m
  unfolding Flaand.e_rows Flaand.e_told
  es = rows_ext f (leaky f.l) _ _ (λ k l ne. of (λ x. tab (leaky f.l) (λ t. num (odd (get_or x (8 + t * 17) 0)))) k l ne)

  hs : (d : Block) (recs leaky_rows zs : List ℕ) → Flaand.hs f d recs leaky_rows zs M ≡ Flaand.hs f d recs leaky_rows zs m
  unfolding Flaand.hs Flaand.h Flaand.e_told Flaand.u_told
  hs d recs leaky_rows zs =
      cat-ext (leaky f.l) _ _ (λ t lt.
      ap (λ (s : Block). bytes_of (blocks.op (blocks.op s (blocks.op (Haand.key_hash f leaky_rows t) (Haand.mac_hash zs t)))
      (blocks.op (sel blocks (Haand.x f recs t).bit (Haand.phi_at f leaky_rows t)) (sel blocks (Haand.z_at zs t) d))))
      (others-ext blocks f.i f.n _ _ (λ j l ne.
      of (λ x. blocks.op (blocks.op ((Haand.r f recs t).mac j) (Flaand.z_key f d recs (odd (get_or x (8 + t * 17) 0)) t j))
      (sel blocks (Haand.x f recs t).bit (block_at x (8 + t * 17 + 1)))) j l ne)))

  h_comms : Flaand.comm_rows f M ≡ Flaand.comm_rows f m
  unfolding Flaand.comm_rows
  h_comms = rows_ext f (leaky f.l * 32) _ _ (λ k l ne. of (λ x. take (leaky f.l * 32) (drop 8 x)) k l ne)

  h_faults : (own comms : List ℕ) → Flaand.h_faults f own comms M ≡ Flaand.h_faults f own comms m
  unfolding Flaand.h_faults Flaand.opening Flaand.zero_sum Flaand.h_told
  h_faults own comms =
      ap₂ or_else
      (by-ext f _ _ (λ k l ne. of (λ x. pick (all_of (leaky f.l) (λ t.
      same? (hash (bytes_of (block_at x (8 + t * 16)))) (take 32 (drop ((k * leaky f.l + t) * 32) comms)))) 0 2) k l ne))
      (ap (λ (b : Bool). record { code = pick b 0 10; party = f.i })
      (all-ext (leaky f.l) _ _ (λ t lt.
      ap (λ (s : Block). eq_block (blocks.op (block_at own (t * 16)) s) blocks.nil)
      (others-ext blocks f.i f.n _ _ (λ k l ne. of (λ x. block_at x (8 + t * 16)) k l ne)))))

  d_faults : (d : Block) (recs perm : List ℕ) → Buckets.d_faults f d recs perm M ≡ Buckets.d_faults f d recs perm m
  unfolding Buckets.d_faults Buckets.d_mac_told Buckets.d_told
  d_faults d recs perm =
      by-ext f _ _ (λ k l ne. of (λ x. pick (all_of f.l (λ j. all_of (Buckets.later f) (λ e.
      eq_block (block_at x (Buckets.bucket_at f j + 8 + Buckets.later f + 8 + e * 16))
      (blocks.op ((Buckets.d f recs perm j e).key k) (sel blocks (odd (get_or x (Buckets.bucket_at f j + 8 + e) 0)) d))))) 0 11) k l ne)

  ds : (recs perm : List ℕ) → Buckets.ds f recs perm M ≡ Buckets.ds f recs perm m
  unfolding Buckets.ds Buckets.d_opened Buckets.d_told
  ds recs perm =
      cat-ext f.l _ _ (λ j lj. tab-ext (Buckets.later f) _ _ (λ e le.
      ap (λ (b : Bool). num (addb (Buckets.d f recs perm j e).bit b))
      (others-ext bits f.i f.n _ _ (λ k l ne. of (λ x. odd (get_or x (Buckets.bucket_at f j + 8 + e) 0)) k l ne))))

  de_faults : (d : Block) (recs perm triples alpha beta : List ℕ)
      → Beaver.de_faults f d recs perm triples alpha beta M ≡ Beaver.de_faults f d recs perm triples alpha beta m
  unfolding Beaver.de_faults Beaver.d_told Beaver.e_told
  de_faults d recs perm triples alpha beta =
      by-ext f _ _ (λ k l ne. of (λ x. pick (all_of f.l (λ j.
      eq_block (block_at x (8 + j * 34 + 2)) (blocks.op ((Beaver.d f triples alpha j).key k) (sel blocks (odd (get_or x (8 + j * 34) 0)) d))
      && eq_block (block_at x (8 + j * 34 + 18)) (blocks.op ((Beaver.e f recs perm beta j).key k) (sel blocks (odd (get_or x
      (8 + j * 34 + 1) 0)) d)))) 0 12) k l ne)

  -- the results of the last round
  pub results : (recs perm triples alpha beta : List ℕ)
      → Beaver.results f recs perm triples alpha beta M ≡ Beaver.results f recs perm triples alpha beta m
  unfolding Beaver.results Beaver.result_share Beaver.d_opened Beaver.e_opened Beaver.d_told Beaver.e_told
  results recs perm triples alpha beta =
      cat-ext f.l _ _ (λ j lj.
      ap₂ (λ (p q : Bool). lent_of f.n f.i (Beaver.finish (Beaver.c f triples j) (Beaver.share f beta j) (Beaver.a f triples j)
      (addb (Beaver.d f triples alpha j).bit p) (addb (Beaver.e f recs perm beta j).bit q)))
      (others-ext bits f.i f.n _ _ (λ k l ne. of (λ x. odd (get_or x (8 + j * 34) 0)) k l ne))
      (others-ext bits f.i f.n _ _ (λ k l ne. of (λ x. odd (get_or x (8 + j * 34 + 1) 0)) k l ne)))

  -- ---- all rounds
  either : {A : Type 0} (t : Bool) {a a' b b' : A} → a ≡ a' → b ≡ b' → pick t a b ≡ pick t a' b'
  either {A} t p q = ap₂ (λ (x y : A). pick t x y) p q

  pub judge-mask : (k : ℕ) (w : List ℕ) → judge k f w M ≡ judge k f w m
  unfolding judge
  judge-mask k w =
      either (eqb k 3) (opening (at f COMMS w))
      (either (eqb k 5) (opening (at f PAIR_COMMS w))
      (either (eqb k 6) (abits (delta f w) (at f KEY_SUMS w))
      (either (eqb k 10) (ver_faults (at f SHARE_COMMS w))
      (either (eqb k 12) (dibi (at f BITS w) (at f SHARE_COMMS w) (at f DMS w))
      (either (eqb k 19) (h_faults (at f HS w) (at f H_COMMS w))
      (either (eqb k 21) (d_faults (delta f w) (at f BITS w) (at f PERM w))
      (either (eqb k 22) (de_faults (delta f w) (at f BITS w) (at f PERM w) (at f TRIPLES w) (at f ALPHA w) (at f BETA w))
      refl)))))))

  put : (s : ℕ) (w : List ℕ) {x y : List ℕ} → x ≡ y → keep f s x w ≡ keep f s y w
  put s w e = ap (λ (x : List ℕ). keep f s x w) e

  pub kept-mask : (k : ℕ) (w : List ℕ) → kept k f w M ≡ kept k f w m
  unfolding kept
  kept-mask k w =
      either (eqb k 1) (put COMMS w told)
      (either (eqb k 3) (put JOINT w (joint (at f SEED w)))
      (either (eqb k 4) (put PAIR_COMMS w told)
      (either (eqb k 5) (put PAIRWISE w (pairwise (at f PAIRS w)))
      (either (eqb k 8) (put SHARE_COMMS w share_comms)
      (either (eqb k 10) (put DMS w dm_rows)
      (either (eqb k 14) (put ZS w (z_rows (at f MASKS w) (at f BITS w)))
      (either (eqb k 15)
      (ap₂ (λ (x y : List ℕ). keep f HS x (keep f ES y w)) (hs (delta f w) (at f BITS w) (at f LEAKY w) (at f ZS w)) es)
      (either (eqb k 17) (put H_COMMS w h_comms)
      (either (eqb k 21) (put DS w (ds (at f BITS w) (at f PERM w)))
      refl)))))))))
