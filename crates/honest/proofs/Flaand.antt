-- Rounds 15, 17 and 19, `flaand`, in an honest run: z keeps the MAC rule (`leaky-triple`), every h opens its commitment, and all h sum to
-- zero.
use Rattle.std.specs.Prelude.{◌≡◌, Bool, true, ◌≢◌, get_or, drop}
use Rattle.std.proofs.Math.Path.{refl, sym, ap, ap₂}
use Rattle.std.proofs.Common.{◌∙◌}
use mathlib.Core.List.{List}
use Prim.Native.Nat.{ℕ, ◌+◌, ◌*◌, ◌^◌, ◌<◌}
use native.Mathlib.Omega.{arith}
use Rattle.std.proofs.Math.ListN.{length, take}
use Rattle.lists.specs.Pick.{pick}
use Rattle.lists.specs.All.{all_of, all_of_lem}
use Rattle.lists.specs.Over.{tab, cat, length-cat}
use Rattle.lists.specs.Rows.{cat-ext}
use Rattle.lists.specs.Same.{same-eq}
use Rattle.algebra.specs.Group.{bits, sel, odd, num}
use Rattle.algebra.specs.Sum.{sum, others, others-ext, others-all}
use Rattle.algebra.specs.Share.{Shared, Good}
use Rattle.algebra.specs.Leaky as Leaky
use Rattle.block.specs.declared.Block.{Block}
use Rattle.block.specs.Block.{block_at, bytes_of, Small}
use Rattle.block.specs.Group.{blocks, eq_block_lem}
use Rattle.block.specs.Trip.{small-xor, small-sel, small-others, length-bytes_of, block_here}
use Rattle.blake3.specs.Tree.{hash}
use Rattle.share.specs.Share.{share_at}
use Rattle.share.specs.Parties.{shared_at, share_of}
use Rattle.message.specs.declared.Kind.TheVariants.{Items}
use Rattle.message.specs.Format.{form_of}
use Rattle.encode.specs.Coded.{length-bit_block, coded-hash, coded-block}
use Rattle.encode.specs.RoundTrip.{trip, even-item}
use Rattle.plan.specs.Plan.{kind_of, count_due, msg_len, leaky, bits_count}
use Rattle.engine.specs.declared.Frame.{Frame}
use Rattle.engine.specs.Step.{Fault}
use Rattle.engine.specs.StepLaws.{or-none, by-none}
use Rattle.engine.specs.Area.{mem, length-sec}
use Rattle.engine.specs.Sheet.{Known, stays_test}
use Rattle.engine.specs.Order.{echo_in}
use Rattle.engine.specs.Honest.{before, due, plain_after}
use Rattle.rounds.specs.Area.{ES, HS, H_COMMS, SECTIONS, sizes, size_of, at, rows}
use Rattle.rounds.specs.Table.{judge, kept, held, written}
use Rattle.rounds.specs.Haand.{x, y, r, G, phi, u, phi_at, key_hash, u_at, z_at, mac_hash}
use Rattle.rounds.specs.Flaand.{e, flaand_msg, e_told, u_told, e_rows, z_key, h, hs, comm_msg, own_comms, comm_rows, hash_msg, h_told, opening}
use Rattle.rounds.specs.Flaand.{zero_sum, h_faults}
use Rattle.rounds.specs.FlaandLaws.{length-own_comms}
use Rattle.alone.specs.Base.{rows_ext}
use Rattle.alone.proofs.HaandLaws.{small-G, small-phi, small-u, phi-read, key-hash-read, u-read, mac-hash-read}
use Rattle.alone.proofs.FlaandLaws.{h-alg, block_row, length-es, e-read}
use Rattle.blake3.specs.ByteLaws.{length-hash}
use Rattle.rounds.specs.EchoLaws.{length-hash_vec}
use Rattle.honest.specs.Script as S
use Rattle.honest.specs.Inputs.{Run, box, Boxes, deltas, small-delta}
use Rattle.honest.specs.Base.{stored, Receives, Sends, Hashes, list-form, list_len_lem, Fit, delta-is, bits_at, leaky-at, zs-at, hs-at}
use Rattle.honest.specs.Base.{h-comms-at, keep-none, keep-free, keep_one, keep_two}
use Rattle.alone.specs.Cells.{items-row, length-cells, cell}
use Rattle.honest.proofs.Firsts.{pairs-trip, bit-read, block_read, hash-bits}
use Rattle.honest.proofs.Haand.{leaky-small, and-z}
use Rattle.honest.specs.Values.{x_of, y_of, r_of, z_of, small-z, LeakyTriples}

-- ---- what is kept depends on the others' messages alone
module _ (f : Frame) where
  hs-ext : (delta : Block) (recs leaky_rows zs : List ℕ) (m m' : ℕ → List ℕ) → ((k : ℕ) → k < f.n → f.i ≢ k → m k ≡ m' k)
      → hs f delta recs leaky_rows zs m ≡ hs f delta recs leaky_rows zs m'
  unfolding hs h e_told u_told
  hs-ext delta recs leaky_rows zs m m' same =
      cat-ext (leaky f.l) _ _ (λ t lt.
      ap (λ (s : Block). bytes_of (blocks.op (blocks.op s (blocks.op (key_hash f leaky_rows t) (mac_hash zs t)))
      (blocks.op (sel blocks (x f recs t).bit (phi_at f leaky_rows t)) (sel blocks (z_at zs t) delta))))
      (others-ext blocks f.i f.n _ _ (λ j lj ne.
      ap (λ (s : List ℕ). blocks.op (blocks.op ((r f recs t).mac j) (z_key f delta recs (odd (get_or s (8 + t * 17) 0)) t j))
      (sel blocks (x f recs t).bit (block_at s (8 + t * 17 + 1)))) (same j lj ne))))

  es-ext : (m m' : ℕ → List ℕ) → ((k : ℕ) → k < f.n → f.i ≢ k → m k ≡ m' k) → e_rows f m ≡ e_rows f m'
  unfolding e_rows e_told
  es-ext m m' same =
      rows_ext f (leaky f.l) _ _ (λ k lk ne.
      ap (λ (s : List ℕ). tab (leaky f.l) (λ t. num (odd (get_or s (8 + t * 17) 0)))) (same k lk ne))

module _ (R : Run) (X : Boxes R) where
  open R use {n, l, inputs}

  small : leaky l < 2 ^ 64
  small = leaky-small R X

  -- what box j sends at position t
  abbrev e_of : ℕ → ℕ → Bool
  e_of j t = e (box R j) (inputs j).bits (S.z_rows R j) t

  -- ---- what is read of the messages of round 15
  e-told : (i j t : ℕ) → t < leaky l → e_told (λ j. S.sent15 R j i) j t ≡ e_of j t
  unfolding e_told S.sent15 flaand_msg
  e-told i j t lt = bit-read (leaky l) (e_of j) _ small t lt

  u-at : (i j t : ℕ) → i < n → j < n → j ≢ i → t < leaky l
      → u_at (box R j) (S.leaky_rows R j) i t ≡ u (box R j) (deltas R j) (inputs j).bits i t
  unfolding S.leaky_rows
  u-at i j t li lj ne lt = u-read (box R j) (deltas R j) (inputs j).bits (small-delta R X j lj) (X.own j lj).bits-bytes t lt i li ne

  small-u-at : (i j t : ℕ) → i < n → j < n → j ≢ i → t < leaky l → Small (u_at (box R j) (S.leaky_rows R j) i t)
  small-u-at i j t li lj ne lt =
      rw (u-at i j t li lj ne lt) (small-u (box R j) (deltas R j) (inputs j).bits (small-delta R X j lj) (X.own j lj).bits-bytes t i)

  u-told : (i j t : ℕ) → i < n → j < n → i ≢ j → t < leaky l
      → u_told (λ j. S.sent15 R j i) j t ≡ u (box R j) (deltas R j) (inputs j).bits i t
  unfolding u_told S.sent15 flaand_msg
  u-told i j t li lj ne lt =
      block_read (leaky l) (e_of j) (λ t. u_at (box R j) (S.leaky_rows R j) i t) small t lt (small-u-at i j t li lj (λ p. ne (sym p)) lt)
      ∙ u-at i j t li lj (λ p. ne (sym p)) lt

  -- the e that box i keeps
  e-at : (i j t : ℕ) → j < n → i ≢ j → t < leaky l → odd (get_or (S.es R i) (j * leaky l + t) 0) ≡ e_of j t
  unfolding S.es
  e-at i j t lj ne lt = e-read (box R i) (λ j. S.sent15 R j i) j t lj ne lt ∙ e-told i j t lt

  -- ---- z keeps the MAC rule
  z-key : (i j t : ℕ) → j < n → i ≢ j → t < leaky l
      → (z_of R t).key i j
      ≡ Leaky.z_key blocks n (deltas R) (z_of R t).bit (r_of R t).bit (r_of R t).mac (r_of R t).key i j
  unfolding z_of z_key Leaky.z_key r share_at shared_at e
  z-key i j t lj ne lt = ap (λ (b : Bool). blocks.op ((r_of R t).key i j) (sel blocks b (deltas R i))) (e-at i j t lj ne lt)

  pub z-good : (t : ℕ) → t < leaky l → Good blocks n (deltas R) (z_of R t)
  unfolding z_of r share_at shared_at bits_count
  z-good t lt i j li lj ne =
      Leaky.z-mac blocks n (deltas R) (z_of R t).bit (r_of R t).bit (r_of R t).mac (r_of R t).key
      (X.bits-mac (2 * leaky l + t) (omega arith)) i j li lj ne
      ∙ ap (λ (b : Block). blocks.op b (sel blocks ((z_of R t).bit i) (deltas R j))) (sym (z-key j i t li (λ p. ne (sym p)) lt))

  pub leaky-triple : LeakyTriples R
  unfolding bits_count
  leaky-triple t lt = record {
    good-a = X.bits-mac t (omega arith);
    good-b = X.bits-mac (leaky l + t) (omega arith);
    good-c = z-good t lt;
    product = and-z R X t lt;
  }

  -- ---- the value of h: box i's at position t, in the words of the algebra
  unfoldable h_of : ℕ → ℕ → Block
  h_of t i =
      let x = x_of R t in
      let y = y_of R t in
      let z = z_of R t in
      Leaky.leaky_h blocks G n (deltas R) x.bit y.bit z.bit x.mac x.key y.mac y.key z.mac z.key i

  -- all h sum to zero
  h-sum : (t : ℕ) → t < leaky l → sum blocks n (h_of t) ≡ blocks.nil
  unfolding h_of bits_count
  h-sum t lt =
      Leaky.leaky-check blocks G n (deltas R) _ _ _ _ _ _ _ _ _ (X.bits-mac t (omega arith)) (X.bits-mac (leaky l + t) (omega arith))
      (z-good t lt) (and-z R X t lt)

  -- what a box computes is that h
  h-is : (i t : ℕ) → i < n → t < leaky l
      → h (box R i) (deltas R i) (inputs i).bits (S.leaky_rows R i) (S.z_rows R i)
      (λ j. S.sent15 R j i) t
      ≡ h_of t i
  unfolding h h_of Leaky.leaky_h Leaky.phi phi u z_of x y r share_at shared_at S.leaky_rows S.z_rows
  h-is i t li lt =
      let x : Shared Block = x_of R t in
      let z : Shared Block = z_of R t in
      let v : ℕ → Block = λ j. u (box R j) (deltas R j) (inputs j).bits i t in
      let terms = others-ext blocks i n _ (λ j. blocks.op (blocks.op (z.mac i j) (z.key i j)) (sel blocks (x.bit i) (v j)))
      (λ j lj ne.
      ap₂ (λ (b : Bool) (w : Block).
      blocks.op (blocks.op (z.mac i j) (z_key (box R i) (deltas R i) (inputs i).bits b t j)) (sel blocks (x.bit i) w))
      (e-told i j t lt ∙ sym (e-at i j t lj ne lt)) (u-told i j t li lj ne lt)) in
      let small-d = small-delta R X i li in
      let bytes = (X.own i li).bits-bytes in
      let keys = key-hash-read (box R i) (deltas R i) (inputs i).bits small-d bytes t lt in
      let macs = mac-hash-read (box R i) (inputs i).masks (inputs i).bits (λ j. S.sent14 R j i) t lt in
      let own = phi-read (box R i) (deltas R i) (inputs i).bits small-d bytes t lt in
      (λ q. blocks.op (blocks.op (terms q) (blocks.op (keys q) (macs q)))
      (blocks.op (sel blocks (x.bit i) (own q)) (sel blocks (z.bit i) (deltas R i))))
      ∙ h-alg blocks i n (λ j. blocks.op (z.mac i j) (z.key i j)) (λ j. G (x.key i j)) (λ j. G (x.mac i j))
      (λ j. sel blocks (x.bit i) (v j)) (sel blocks (x.bit i) (phi (box R i) (deltas R i) (inputs i).bits t))
      (sel blocks (z.bit i) (deltas R i))

  small-h : (i t : ℕ) → i < n → Small (h_of t i)
  unfolding h_of Leaky.leaky_h Leaky.phi phi u x y share_at shared_at share_of
  small-h i t li =
      let x : Shared Block = x_of R t in
      let z : Shared Block = z_of R t in
      let sz = small-z R X i li t in
      let sd = small-delta R X in
      small-xor _ _
      (small-xor _ _
      (small-others i n _ (λ j lj.
      small-xor _ _
      (small-xor _ _ (small-xor _ _ (small-xor _ _ (sz.mac j lj) (sz.key j lj)) (small-G (x.key i j))) (small-G (x.mac i j)))
      (small-sel (x.bit i) _ (small-u (box R j) (deltas R j) (inputs j).bits (sd j lj) (X.own j lj).bits-bytes t i))))
      (small-sel (x.bit i) _ (small-phi (box R i) (deltas R i) (inputs i).bits (sd i li) (X.own i li).bits-bytes t)))
      (small-sel (z.bit i) (deltas R i) (sd i li))

  -- ---- what HS holds
  h-at : (i t : ℕ) → i < n → t < leaky l → block_at (S.hs R i) (t * 16) ≡ h_of t i
  unfolding S.hs hs
  h-at i t li lt = block_row (leaky l) _ t lt (rw (h-is i t li lt) (small-h i t li)) ∙ h-is i t li lt

  fit-hs : Fit R HS
  unfolding S.holds S.hs hs size_of sizes
  fit-hs = (omega arith, λ i li. length-cat (leaky l) 16 _ (λ t lt. length-bytes_of _))

  fit-es : Fit R ES
  unfolding S.holds S.es size_of sizes
  fit-es = (omega arith, λ i li. length-es (box R i) (λ j. S.sent15 R j i))

  -- ---- round 15
  flaand-len : (j r : ℕ) → length (S.sent15 R j r) ≡ msg_len n l 15
  unfolding S.sent15 flaand_msg msg_len kind_of count_due
  flaand-len j r = list_len_lem n 17 1 (leaky l) _ (λ t i. length-bit_block _ _)

  flaand-form : (j r : ℕ) → form_of (kind_of l 15) (count_due n l 15) (S.sent15 R j r) ≡ 0
  unfolding S.sent15 flaand_msg kind_of count_due
  flaand-form j r = (pairs-trip (leaky l) (e_of j) _ small).form-is

  pub send-15 : Sends R 15
  unfolding stays_test all_of mem S.since S.sent S.sent15 held written
  send-15 = record {
    keeps = λ i li w K. keep-none R (before 15) (due 15) i li K refl;
    writes = λ i r li lr ne w K.
        (λ q. flaand_msg (box R i) (bits_at R K q) (leaky-at R K refl q) (zs-at R K refl q) r);
  }

  pub recv-15 : Receives R 15
  unfolding plain_after echo_in mem stays_test all_of S.since S.holds S.sent S.es S.hs judge kept
  recv-15 = record {
    heard = record {
      lens = λ j r lj lr ne. flaand-len j r;
      formed = λ i j li lj ne. flaand-form j i;
      judged = λ i li w K m M. refl;
    };
    keeps = λ i li w K m M. keep_two R (due 15) (before 17) i li K HS ES _ _ refl fit-hs fit-es
        ((λ q. hs (box R i) (delta-is R K q) (bits_at R K q) (leaky-at R K refl q) (zs-at R K refl q) m)
        ∙ hs-ext (box R i) _ _ _ _ m _ M) (es-ext (box R i) m _ M);
  }

  -- every receiver hashes the list of the e
  pub list-15 : Hashes R 15
  unfolding S.hashed S.sent S.sent15 flaand_msg kind_of
  list-15 = record {
    size = λ j lj. length-hash_vec 15 _;
    hashes = λ i j li lj ne.
        hash-bits (leaky l) (e_of j) _ small 15 refl ∙ sym (hash-bits (leaky l) (e_of j) _ small 15 refl);
  }

  -- ---- round 17
  -- the Block that box k keeps as its h, and the commitment to it
  abbrev own : ℕ → ℕ → Block
  own k t = block_at (S.hs R k) (t * 16)

  abbrev comm : ℕ → ℕ → List ℕ
  comm k t = hash (bytes_of (own k t))

  comm-len : (j r : ℕ) → length (S.sent17 R j r) ≡ msg_len n l 17
  unfolding S.sent17 comm_msg msg_len kind_of count_due
  comm-len j r = list_len_lem n 32 0 (leaky l) (comm j) (λ t i. length-hash _)

  comm-form : (j r : ℕ) → form_of (kind_of l 17) (count_due n l 17) (S.sent17 R j r) ≡ 0
  unfolding S.sent17 comm_msg kind_of count_due
  comm-form j r = list-form (Items 32 0) (leaky l) (comm j) small (λ t i. coded-hash (comm j t) (length-hash _))

  -- H_COMMS holds the commitments
  comms-are : (i : ℕ) → S.h_comms R i ≡ rows (box R i) (leaky l * 32) (λ k. cat (leaky l) (comm k))
  unfolding S.h_comms comm_rows S.sent17 comm_msg
  comms-are i = rows_ext (box R i) (leaky l * 32) _ _ (λ k lk ne. items-row (leaky l) 32 (comm k) (λ t lt. length-hash _))

  comm-cell : (i k t : ℕ) → k < n → i ≢ k → t < leaky l → take 32 (drop ((k * leaky l + t) * 32) (S.h_comms R i)) ≡ comm k t
  comm-cell i k t lk ne lt =
      ap (λ (s : List ℕ). take 32 (drop ((k * leaky l + t) * 32) s)) (comms-are i)
      ∙ cell (box R i) (leaky l) 32 comm (λ k j lk ne lj. length-hash _) k t lk ne lt

  fit-comms : Fit R H_COMMS
  unfolding S.holds size_of sizes
  fit-comms = (omega arith, λ i li. ap length (comms-are i) ∙ length-cells (box R i) (leaky l) 32 comm (λ k j lk ne lj. length-hash _))

  -- the own ones wait in the own row
  own-long : (i : ℕ) → i < n → (w : List ℕ) → Known n l (stored R) (before 17) i w
      → length (own_comms (box R i) (at (box R i) HS w) (at (box R i) H_COMMS w)) ≡ size_of (box R i) H_COMMS
  unfolding at size_of sizes
  own-long i li w K =
      length-own_comms (box R i) (at (box R i) HS w) (at (box R i) H_COMMS w) li
      (length-sec (size_of (box R i)) SECTIONS w K.long H_COMMS (omega arith))

  pub send-17 : Sends R 17
  unfolding stays_test all_of mem S.since S.sent S.sent17 held written
  send-17 = record {
    keeps = λ i li w K. keep-free R (before 17) (due 17) i li K H_COMMS _ refl (omega arith) refl (own-long i li w K);
    writes = λ i r li lr ne w K. ap (comm_msg (box R i)) (hs-at R K refl);
  }

  pub recv-17 : Receives R 17
  unfolding plain_after echo_in mem stays_test all_of S.since S.holds S.sent S.h_comms judge kept comm_rows
  recv-17 = record {
    heard = record {
      lens = λ j r lj lr ne. comm-len j r;
      formed = λ i j li lj ne. comm-form j i;
      judged = λ i li w K m M. refl;
    };
    keeps = λ i li w K m M. keep_one R (due 17) (before 19) i li K H_COMMS _ refl fit-comms
        (rows_ext (box R i) (leaky l * 32) _ _ (λ k lk ne. ap (λ (s : List ℕ). take (leaky l * 32) (drop 8 s)) (M k lk ne)));
  }

  pub list-17 : Hashes R 17
  unfolding S.hashed S.sent S.sent17
  list-17 = record {
    size = λ j lj. length-hash_vec 17 _;
    hashes = λ i j li lj ne. refl;
  }

  -- ---- round 19
  hash-len : (j r : ℕ) → length (S.sent19 R j r) ≡ msg_len n l 19
  unfolding S.sent19 hash_msg msg_len kind_of count_due
  hash-len j r = list_len_lem n 16 0 (leaky l) (λ t. bytes_of (own j t)) (λ t i. length-bytes_of _)

  hash-form : (j r : ℕ) → form_of (kind_of l 19) (count_due n l 19) (S.sent19 R j r) ≡ 0
  unfolding S.sent19 hash_msg kind_of count_due
  hash-form j r = list-form (Items 16 0) (leaky l) (λ t. bytes_of (own j t)) small (λ t i. coded-block (own j t))

  h-told : (i k t : ℕ) (m : ℕ → List ℕ) → m k ≡ S.sent19 R k i → k < n → t < leaky l → h_told m k t ≡ own k t
  unfolding h_told S.sent19 hash_msg
  h-told i k t m e lk lt =
      ap (λ (s : List ℕ). block_at s (8 + t * 16)) e
      ∙ block_here _ (8 + t * 16) (own k t)
      (even-item (Items 16 0) 16 (leaky l) (λ t. bytes_of (own k t)) (λ t l. length-bytes_of _) _
      (trip (Items 16 0) (leaky l) (λ t. bytes_of (own k t)) small (λ t i. coded-block (own k t))) t lt)
      (rw (h-at k t lk lt) (small-h k t lk))

  -- each is opened first
  opens : (b : Bool) (c : ℕ) → b ≡ true → pick b 0 c ≡ 0
  opens b c e = rw e refl

  h-opens : (i : ℕ) (m : ℕ → List ℕ) → ((k : ℕ) → k < n → i ≢ k → m k ≡ S.sent19 R k i) → (opening (box R i) (S.h_comms R i) m).code ≡ 0
  unfolding opening
  h-opens i m M =
      by-none (box R i) _ (λ k lk ne. opens _ 2 (all_of_lem (leaky l) _ (λ t lt. same-eq _ _
      (ap (λ (b : Block). hash (bytes_of b)) (h-told i k t m (M k lk ne) lk lt) ∙ sym (comm-cell i k t lk ne lt)))))

  -- "All h sum to zero"
  h-zero : (i : ℕ) → i < n → (m : ℕ → List ℕ) → ((k : ℕ) → k < n → i ≢ k → m k ≡ S.sent19 R k i) → (zero_sum (box R i) (S.hs R i) m).code ≡ 0
  unfolding zero_sum
  h-zero i li m M =
      opens _ 10
      (all_of_lem (leaky l) _ (λ t lt. eq_block_lem _ _
      (ap₂ blocks.op (h-at i t li lt)
      (others-ext blocks i n _ (h_of t) (λ k lk ne. h-told i k t m (M k lk ne) lk lt ∙ h-at k t lk lt))
      ∙ blocks.comm (h_of t i) (others blocks i n (h_of t)) ∙ others-all blocks i n (h_of t) li ∙ h-sum t lt)))

  pub send-19 : Sends R 19
  unfolding stays_test all_of mem S.since S.sent S.sent19 held written
  send-19 = record {
    keeps = λ i li w K. keep-none R (before 19) (due 19) i li K refl;
    writes = λ i r li lr ne w K. ap (hash_msg (box R i)) (hs-at R K refl);
  }

  pub recv-19 : Receives R 19
  unfolding plain_after echo_in mem stays_test all_of S.since S.sent judge kept h_faults
  recv-19 = record {
    heard = record {
      lens = λ j r lj lr ne. hash-len j r;
      formed = λ i j li lj ne. hash-form j i;
      judged = λ i li w K m M.
          ap₂ (λ (o c : List ℕ). (h_faults (box R i) o c m).code) (hs-at R K refl) (h-comms-at R K refl)
          ∙ ap (λ (x : Fault). x.code) (or-none (opening (box R i) (S.h_comms R i) m) (zero_sum (box R i) (S.hs R i) m) (h-opens i m M))
          ∙ h-zero i li m M;
    };
    keeps = λ i li w K m M. keep-none R (due 19) (before 21) i li K refl;
  }

  pub list-19 : Hashes R 19
  unfolding S.hashed S.sent S.sent19
  list-19 = record {
    size = λ j lj. length-hash_vec 19 _;
    hashes = λ i j li lj ne. refl;
  }
