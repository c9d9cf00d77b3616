-- Rounds 8, 10 and 12, `fashare`, in an honest run: every dm opens its commitment, is as long as it should be and begins with a bit; and
-- what a box opens is the XOR of all MACs for it, and one of the two Blocks that it committed to.
use Rattle.std.specs.Prelude.{◌≡◌, Bool, ◌||◌, ◌≢◌, ℕ, suc, ◌+◌, ◌-◌, ◌*◌, ◌^◌, ◌<◌, ◌≤◌, get_or, drop, leb, eqb}
use Rattle.std.proofs.Math.Path.{refl, sym, ap, ap₂}
use Rattle.std.proofs.Common.{◌∙◌, subst, le_refl, take_at, drop_at, drop-drop, take-take}
use Rattle.std.proofs.Math.Bool.{true, false}
use mathlib.Core.List.{List, ◌∷◌, ◌++◌}
use native.Mathlib.Omega.{arith}
use Rattle.std.proofs.Math.ListN.{length, take}
use Rattle.std.proofs.Math.Seq.{take-length}
use Rattle.std.proofs.Math.Dec.{ltb}
use borrow.Author.Tests.{eq-eqb, le-leb, ltb-true, ltb-false, lt-ltb, le-ltb}
use Rattle.lists.specs.Pick.{pick}
use Rattle.lists.specs.All.{all_of}
use Rattle.lists.specs.Over.{cat, length-cat}
use Rattle.lists.specs.Rows.{chunk, chunk-cat, cat-ext}
use Rattle.lists.specs.Same.{same?, same-eq}
use Rattle.algebra.specs.Group.{XorGroup, bits, sel, num, odd, odd-num, unit-r}
use Rattle.algebra.specs.Sum.{neq, neq-true, Same, apart, apart?, others, others-ext, others-all}
use Rattle.algebra.specs.Share.{Shared, Good, opened}
use Rattle.block.specs.declared.Block.{Block}
use Rattle.block.specs.Block.{le8, word_at, block_at, bytes_of}
use Rattle.block.specs.Group.{blocks, eq_block_lem}
use Rattle.block.specs.Trip.{Small, length-le8, length-bytes_of, word-here, block_here, block-get, small-others}
use Rattle.blake3.specs.Tree.{hash}
use Rattle.share.specs.Record.{record_len}
use Rattle.share.specs.RecordLaws.{small-mac}
use Rattle.share.specs.Share.{share_at}
use Rattle.share.specs.Parties.{shared_at}
use Rattle.message.specs.declared.Kind.TheVariants.{Items, Dms}
use Rattle.message.specs.Format.{item_at, form_of}
use Rattle.encode.specs.Encode.{three_hashes, dm_item}
use Rattle.encode.specs.Coded.{length-three_hashes, coded-three_hashes, length-encode, length-dm, coded-dm, coded-block, num-le}
use Rattle.encode.specs.RoundTrip.{Trip, trip, even-item}
use Rattle.plan.specs.Plan.{kind_of, count_due, list_len, msg_len, leaky, bits_count, dm_len}
use Rattle.engine.specs.declared.Frame.{Frame}
use Rattle.engine.specs.Step.{Fault}
use Rattle.engine.specs.StepLaws.{or-none, by-none}
use Rattle.engine.specs.Area.{mem, get-get, nth}
use Rattle.engine.specs.Sheet.{stays_test}
use Rattle.engine.specs.Order.{echo_in}
use Rattle.engine.specs.Honest.{before, due, plain_after}
use Rattle.rounds.specs.Area.{SHARE_COMMS, DMS, sizes, size_of, rows}
use Rattle.rounds.specs.Table.{judge, kept, held, written}
use Rattle.rounds.specs.Fashare.{own, d0, d1, dm, dm_mac, comm_msg, comm_rows, comms_to, ver_msg, dm_at, dm_rows, dm_row, others1}
use Rattle.rounds.specs.Fashare.{whole_dm, third_fault, third_faults, dm_fault, dm_faults, ver_faults, dibi_msg, macs_for, dibi_fault, dibi_faults}
use Rattle.rounds.specs.FaultLaws.{first-none}
use Rattle.alone.specs.Base.{rows_ext}
use Rattle.alone.proofs.FashareLaws.{dm-some}
use Rattle.blake3.specs.ByteLaws.{length-hash}
use Rattle.rounds.specs.EchoLaws.{length-hash_vec}
use Rattle.honest.specs.Script as S
use Rattle.honest.specs.Inputs.{Run, box, Boxes, deltas, bits_of}
use Rattle.honest.specs.Base.{Receives, Sends, Hashes, list-form, list_len_lem, Fit, delta-is, bits_at, share-comms-at}
use Rattle.honest.specs.Base.{dms-at, keep-none, keep_one}
use Rattle.alone.specs.Cells.{head-part, items-row, length-cells, cell}

-- ---- the commitments
module _ (f : Frame) (delta : Block) (recs : List ℕ) where
  abbrev hashes : ℕ → List ℕ
  hashes q = hash (bytes_of (d0 f recs q)) ++ (hash (bytes_of (d1 f delta recs q)) ++ hash (dm f recs q))

  length-hashes : (q : ℕ) → length (hashes q) ≡ 96
  unfolding three_hashes
  length-hashes q = length-three_hashes (hash _) (hash _) (hash _) (length-hash _) (length-hash _) (length-hash _)

  comm-len : (n l : ℕ) → length (comm_msg f delta recs) ≡ msg_len n l 8
  unfolding comm_msg msg_len kind_of count_due
  comm-len n l = list_len_lem n 96 0 40 hashes (λ q i. length-hashes q)

  comm-form : (n l : ℕ) → form_of (kind_of l 8) (count_due n l 8) (comm_msg f delta recs) ≡ 0
  unfolding comm_msg kind_of count_due three_hashes
  comm-form n l =
      list-form (Items 96 0) 40 hashes (omega arith)
      (λ q i. coded-three_hashes (hash _) (hash _) (hash _) (length-hash _) (length-hash _) (length-hash _))

  comm-row : take (40 * 96) (drop 8 (comm_msg f delta recs)) ≡ cat 40 hashes
  unfolding comm_msg
  comm-row = items-row 40 96 hashes (λ q i. length-hashes q)

-- ---- the dms
length-own-dm : (f : Frame) (recs : List ℕ) (q : ℕ) → length (dm f recs q) ≡ dm_len f.n
unfolding dm dm_len
length-own-dm f recs q =
    let e : length (cat (f.n - 1) (λ p. bytes_of ((own f recs q).mac (nth f.i p)))) ≡ (f.n - 1) * 16 =
    length-cat (f.n - 1) 16 (λ p. bytes_of ((own f recs q).mac (nth f.i p))) (λ p l. length-bytes_of _) in
    omega arith

-- what is read of a list of dms: the length and the bytes of dm t
module _ (c : ℕ) (x : ℕ → List ℕ) (m : List ℕ) (w : Trip Dms c (λ t. dm_item (x t)) m) (t : ℕ) (l : t < c) where
  abbrev here : ℕ
  here = item_at Dms m t

  item : take (8 + length (x t)) (drop here m) ≡ le8 (length (x t)) ++ x t
  unfolding dm_item
  item = ap (λ k. take k (drop here m)) (sym (length-dm (x t))) ∙ w.item t l

  dm-word : length (x t) < 2 ^ 64 → word_at m here ≡ length (x t)
  dm-word small =
      word-here m here (length (x t))
      (sym (take-take 8 (8 + length (x t)) (drop here m) (omega arith)) ∙ ap (take 8) item ∙ take_at (le8 (length (x t))) (x t) 8 (length-le8 (length (x t))))
      small

  dm-bytes : take (length (x t)) (drop (here + 8) m) ≡ x t
  dm-bytes =
      sym (get-get here (8 + length (x t)) 8 (length (x t)) m (le_refl (8 + length (x t))))
      ∙ ap (λ (s : List ℕ). take (length (x t)) (drop 8 s)) item
      ∙ ap (take (length (x t))) (drop_at (le8 (length (x t))) (x t) 8 (length-le8 (length (x t)))) ∙ take-length (x t)

module _ (f : Frame) (recs : List ℕ) (most : f.n ≤ 8) where
  abbrev items : ℕ → List ℕ
  items q = dm_item (dm f recs q)

  small-dm : (q : ℕ) → length (dm f recs q) < 2 ^ 64
  unfolding dm_len
  small-dm q = omega (arith, length-own-dm f recs q)

  ver-trip : Trip Dms 40 items (ver_msg f recs)
  unfolding ver_msg
  ver-trip = trip Dms 40 items (omega arith) (λ q l. coded-dm (dm f recs q) (small-dm q))

  ver_len_lem : (l : ℕ) → length (ver_msg f recs) ≡ msg_len f.n l 10
  unfolding ver_msg msg_len kind_of count_due list_len
  ver_len_lem l = length-encode (8 + dm_len f.n) 40 items (λ q i. length-dm (dm f recs q) ∙ ap (λ k. 8 + k) (length-own-dm f recs q))

  ver-form : (l : ℕ) → form_of (kind_of l 10) (count_due f.n l 10) (ver_msg f recs) ≡ 0
  unfolding kind_of count_due ver_msg
  ver-form l = ver-trip.form-is

  ver-word : (q : ℕ) → q < 40 → word_at (ver_msg f recs) (item_at Dms (ver_msg f recs) q) ≡ dm_len f.n
  ver-word q l = dm-word 40 (dm f recs) (ver_msg f recs) ver-trip q l (small-dm q) ∙ length-own-dm f recs q

  ver-bytes : (q : ℕ) → q < 40 → take (dm_len f.n) (drop (dm_at (ver_msg f recs) q) (ver_msg f recs)) ≡ dm f recs q
  unfolding dm_at
  ver-bytes q l =
      ap (λ k. take k (drop (item_at Dms (ver_msg f recs) q + 8) (ver_msg f recs))) (sym (length-own-dm f recs q))
      ∙ dm-bytes 40 (dm f recs) (ver_msg f recs) ver-trip q l

  ver-whole : (q : ℕ) → q < 40 → whole_dm (ver_msg f recs) q ≡ dm f recs q
  unfolding whole_dm
  ver-whole q l = ap (λ k. take k (drop (dm_at (ver_msg f recs) q) (ver_msg f recs))) (ver-word q l) ∙ ver-bytes q l

  -- it begins with a bit
  ver-bit : (q : ℕ) → q < 40 → get_or (ver_msg f recs) (dm_at (ver_msg f recs) q) 0 ≡ num (own f recs q).bit
  unfolding dm
  ver-bit q l = head-part (dm_len f.n) (dm_at (ver_msg f recs) q) (ver_msg f recs) (dm f recs q) (dm-some f.n) (ver-bytes q l)

-- party j's MAC for k stands at slot p of its dm, and the p-th party but j is k
module _ (n j k : ℕ) (lj : j < n) (lk : k < n) (ne : j ≢ k) where
  abbrev slot : ℕ
  slot = pick (ltb j k) (k - 1) k

  slot-in : slot < n - 1
  slot-in = go (ltb j k) refl
    where
      go : (b : Bool) → ltb j k ≡ b → pick b (k - 1) k < n - 1
      go true e = omega (arith, ltb-true j k e)
      go false e = omega (arith, ltb-false j k e)

  slot_is : nth j slot ≡ k
  unfolding nth
  slot_is = go (ltb j k) refl
    where
      go : (b : Bool) → ltb j k ≡ b → pick (ltb (pick b (k - 1) k) j) (pick b (k - 1) k) (pick b (k - 1) k + 1) ≡ k
      go true e = rw (le-ltb (k - 1) j (omega (arith, ltb-true j k e))) (omega (arith, ltb-true j k e))
      go false e = rw (lt-ltb k j (omega (arith, ltb-false j k e))) refl

-- so it is read of the dm
own-mac : (f : Frame) (recs : List ℕ) (q k : ℕ) → f.i < f.n → k < f.n → f.i ≢ k → Small ((own f recs q).mac k)
    → block_at (dm f recs q) (dm_mac f.i k) ≡ (own f recs q).mac k
unfolding dm dm_mac chunk
own-mac f recs q k li lk ne small =
    let g : ℕ → List ℕ = λ p. bytes_of ((own f recs q).mac (nth f.i p)) in
    let p : ℕ = slot f.n f.i k li lk ne in
    block_here _ (1 + 16 * p) ((own f recs q).mac k)
    (ap (λ a. take 16 (drop a (num (own f recs q).bit ∷ cat (f.n - 1) g))) (let e : 1 + 16 * p ≡ suc (p * 16) = omega arith in e)
    ∙ chunk-cat 16 (f.n - 1) g (λ p l. length-bytes_of _) p (slot-in f.n f.i k li lk ne)
    ∙ ap (λ a. bytes_of ((own f recs q).mac a)) (slot_is f.n f.i k li lk ne))
    small

mac-fits : (n j k : ℕ) → j < n → k < n → j ≢ k → dm_mac j k + 16 ≤ dm_len n
unfolding dm_mac dm_len
mac-fits n j k lj lk ne = omega (arith, slot-in n j k lj lk ne)

-- ---- what is opened
-- of all but k, the one of i, and those of the others but k
all_but : {A : Type 0} (G : XorGroup A) (i k n : ℕ) (x : ℕ → A) → i < n → k ≢ i
    → G.op (x i) (others G i n (λ j. sel G (neq k j) (x j))) ≡ others G k n x
unfolding others
all_but {A} G i k n x li ne =
    let y : ℕ → A = λ j. sel G (neq k j) (x j) in
    G.comm (x i) (others G i n y) ∙ ap (λ b. G.op (others G i n y) (sel G b (x i))) (sym (neq-true k i ne)) ∙ others-all G i n y li

either : (t u : Bool) → u ≡ true → (t || u) ≡ true
either true u e = refl
either false u e = e

-- a Block, or the Block plus delta: one of the two commitments opens
one-opens : (a δ d : Block) (b : Bool) (c c' : List ℕ) → d ≡ blocks.op a (sel blocks b δ) → c ≡ hash (bytes_of a)
    → c' ≡ hash (bytes_of (blocks.op a δ)) → (same? (hash (bytes_of d)) c || same? (hash (bytes_of d)) c') ≡ true
one-opens a δ d false c c' e h h' =
    ap (λ t. t || same? (hash (bytes_of d)) c') (same-eq _ c (ap (λ (x : Block). hash (bytes_of x)) (e ∙ unit-r blocks a) ∙ sym h))
one-opens a δ d true c c' e h h' =
    either (same? (hash (bytes_of d)) c) _ (same-eq _ c' (ap (λ (x : Block). hash (bytes_of x)) e ∙ sym h'))

module _ (R : Run) (X : Boxes R) where
  open R use {n, l, inputs}

  -- ---- round 8
  -- what box b commits to for string q
  abbrev commits : ℕ → ℕ → List ℕ
  commits b q = hashes (box R b) (deltas R b) (inputs b).bits q

  comms-are : (i : ℕ) (m : ℕ → List ℕ)
      → ((k : ℕ) → k < n → i ≢ k → m k ≡ comm_msg (box R k) (deltas R k) (inputs k).bits)
      → comm_rows (box R i) m ≡ rows (box R i) (40 * 96) (λ k. cat 40 (commits k))
  unfolding comm_rows
  comms-are i m M =
      rows_ext (box R i) (40 * 96) _ _
      (λ k lk ne. ap (λ (x : List ℕ). take (40 * 96) (drop 8 x)) (M k lk ne) ∙ comm-row (box R k) (deltas R k) (inputs k).bits)

  share-comms-are : (i : ℕ) → S.share_comms R i ≡ rows (box R i) (40 * 96) (λ k. cat 40 (commits k))
  unfolding S.share_comms S.sent8
  share-comms-are i = comms-are i _ (λ k lk ne. refl)

  fit-share-comms : Fit R SHARE_COMMS
  unfolding S.holds size_of sizes
  fit-share-comms = (
    omega arith,
    λ i li. ap length (share-comms-are i)
        ∙ length-cells (box R i) 40 96 commits (λ k q lk ne lq. length-hashes (box R k) (deltas R k) (inputs k).bits q),
  )

  pub send-8 : Sends R 8
  unfolding stays_test all_of mem S.since S.sent S.sent8 held written
  send-8 = record {
    keeps = λ i li w K. keep-none R (before 8) (due 8) i li K refl;
    writes = λ i r li lr ne w K.
        ap₂ (comm_msg (box R i)) (delta-is R K) (bits_at R K);
  }

  pub recv-8 : Receives R 8
  unfolding plain_after echo_in mem stays_test all_of S.since S.holds S.sent S.sent8 judge kept
  recv-8 = record {
    heard = record {
      lens = λ j r lj lr ne. comm-len (box R j) (deltas R j) (inputs j).bits n l;
      formed = λ i j li lj ne. comm-form (box R j) (deltas R j) (inputs j).bits n l;
      judged = λ i li w K m M. refl;
    };
    keeps = λ i li w K m M. keep_one R (due 8) (before 10) i li K SHARE_COMMS _ refl fit-share-comms
        (comms-are i m M ∙ sym (share-comms-are i));
  }

  pub list-8 : Hashes R 8
  unfolding S.hashed S.sent S.sent8
  list-8 = record {
    size = λ j lj. length-hash_vec 8 _;
    hashes = λ i j li lj ne. refl;
  }

  -- ---- round 10
  abbrev dm_of : ℕ → ℕ → List ℕ
  dm_of b q = dm (box R b) (inputs b).bits q

  -- what i keeps of k's commitments to string q
  module _ (i k q : ℕ) (lk : k < n) (ne : i ≢ k) (lq : q < 40) where
    abbrev told : List ℕ
    told = comms_to (S.share_comms R i) k q

    abbrev h0 : List ℕ
    h0 = hash (bytes_of (d0 (box R k) (inputs k).bits q))

    abbrev h1 : List ℕ
    h1 = hash (bytes_of (d1 (box R k) (deltas R k) (inputs k).bits q))

    comm-cell : take 96 told ≡ h0 ++ (h1 ++ hash (dm_of k q))
    comm-cell =
        ap (λ (x : List ℕ). take 96 (drop ((k * 40 + q) * 96) x)) (share-comms-are i)
        ∙ cell (box R i) 40 96 commits (λ k q lk ne lq. length-hashes (box R k) (deltas R k) (inputs k).bits q) k q lk ne lq

    first-comm : take 32 told ≡ h0
    first-comm = sym (take-take 32 96 told (omega arith)) ∙ ap (take 32) comm-cell ∙ take_at h0 (h1 ++ hash (dm_of k q)) 32 (length-hash _)

    second-comm : take 32 (drop 32 told) ≡ h1
    second-comm =
        sym (get-get 0 96 32 32 told (omega arith)) ∙ ap (λ (x : List ℕ). take 32 (drop 32 x)) comm-cell
        ∙ ap (take 32) (drop_at h0 (h1 ++ hash (dm_of k q)) 32 (length-hash _)) ∙ take_at h1 (hash (dm_of k q)) 32 (length-hash _)

    third-comm : take 32 (drop 64 told) ≡ hash (dm_of k q)
    third-comm =
        sym (get-get 0 96 64 32 told (omega arith)) ∙ ap (λ (x : List ℕ). take 32 (drop 64 x)) comm-cell
        ∙ ap (take 32) (sym (drop-drop 32 32 (h0 ++ (h1 ++ hash (dm_of k q)))) ∙ ap (drop 32) (drop_at h0 (h1 ++ hash (dm_of k q)) 32 (length-hash _))
        ∙ drop_at h1 (hash (dm_of k q)) 32 (length-hash _))
        ∙ ap (λ c. take c (hash (dm_of k q))) (sym (length-hash (dm_of k q))) ∙ take-length (hash (dm_of k q))

  dms-are : (i : ℕ) (m : ℕ → List ℕ) → ((k : ℕ) → k < n → i ≢ k → m k ≡ ver_msg (box R k) (inputs k).bits)
      → dm_rows (box R i) m ≡ rows (box R i) (40 * dm_len n) (λ k. cat 40 (dm_of k))
  unfolding dm_rows
  dms-are i m M =
      rows_ext (box R i) (40 * dm_len n) _ _
      (λ k lk ne. cat-ext 40 _ _ (λ q lq. ap (λ (x : List ℕ). take (dm_len n) (drop (dm_at x q) x)) (M k lk ne)
      ∙ ver-bytes (box R k) (inputs k).bits X.range.eight q lq))

  kept-dms : (i : ℕ) → S.dms R i ≡ rows (box R i) (40 * dm_len n) (λ k. cat 40 (dm_of k))
  unfolding S.dms S.sent10
  kept-dms i = dms-are i _ (λ k lk ne. refl)

  fit-dms : Fit R DMS
  unfolding S.holds size_of sizes
  fit-dms = (
    omega arith,
    λ i li. ap length (kept-dms i)
        ∙ length-cells (box R i) 40 (dm_len n) dm_of (λ k q lk ne lq. length-own-dm (box R k) (inputs k).bits q),
  )

  dm-passes : (i q : ℕ) (m : ℕ → List ℕ) → q < 40 → (k : ℕ) → m k ≡ ver_msg (box R k) (inputs k).bits → dm_fault (box R i) m q k ≡ 0
  unfolding dm_fault
  dm-passes i q m lq k e =
      ap (λ (x : List ℕ). pick (eqb (word_at x (item_at Dms x q)) (dm_len n)) (pick (leb (get_or x (dm_at x q) 0) 1) 0 1) 4) e
      ∙ rw (
        eq-eqb _ _ (ver-word (box R k) (inputs k).bits X.range.eight q lq),
        ver-bit (box R k) (inputs k).bits X.range.eight q lq,
        le-leb _ _ (num-le (own (box R k) (inputs k).bits q).bit),
      ) refl

  -- an honest dm opens its commitment
  dm-opens : (i q : ℕ) (m : ℕ → List ℕ) → q < 40 → (k : ℕ) → k < n → i ≢ k → m k ≡ ver_msg (box R k) (inputs k).bits
      → third_fault (S.share_comms R i) m q k ≡ 0
  unfolding third_fault
  dm-opens i q m lq k lk ne e =
      let whole : whole_dm (m k) q ≡ dm_of k q =
      ap (λ (x : List ℕ). whole_dm x q) e ∙ ver-whole (box R k) (inputs k).bits X.range.eight q lq in
      ap (λ (t : Bool). pick t 0 2) (same-eq _ _ (ap hash whole ∙ sym (third-comm i k q lk ne lq)))

  -- no fault is found in honest dms
  dms-pass : (i : ℕ) (m : ℕ → List ℕ) → ((k : ℕ) → k < n → i ≢ k → m k ≡ ver_msg (box R k) (inputs k).bits)
      → (ver_faults (box R i) (S.share_comms R i) m).code ≡ 0
  unfolding ver_faults third_faults dm_faults
  dms-pass i m M =
      ap (λ (x : Fault). x.code) (or-none (third_faults (box R i) (S.share_comms R i) m) (dm_faults (box R i) m)
      (first-none 40 _ (λ q lq. by-none (box R i) _ (λ k lk ne. dm-opens i q m lq k lk ne (M k lk ne)))))
      ∙ first-none 40 _ (λ q lq. by-none (box R i) _ (λ k lk ne. dm-passes i q m lq k (M k lk ne)))

  pub send-10 : Sends R 10
  unfolding stays_test all_of mem S.since S.sent S.sent10 held written
  send-10 = record {
    keeps = λ i li w K. keep-none R (before 10) (due 10) i li K refl;
    writes = λ i r li lr ne w K. ap (ver_msg (box R i)) (bits_at R K);
  }

  pub recv-10 : Receives R 10
  unfolding plain_after echo_in mem stays_test all_of S.since S.holds S.sent S.sent10 judge kept
  recv-10 = record {
    heard = record {
      lens = λ j r lj lr ne. ver_len_lem (box R j) (inputs j).bits X.range.eight l;
      formed = λ i j li lj ne. ver-form (box R j) (inputs j).bits X.range.eight l;
      judged = λ i li w K m M. (λ t. (ver_faults (box R i) (share-comms-at R K refl t) m).code) ∙ dms-pass i m M;
    };
    keeps = λ i li w K m M. keep_one R (due 10) (before 12) i li K DMS _ refl fit-dms (dms-are i m M ∙ sym (kept-dms i));
  }

  pub list-10 : Hashes R 10
  unfolding S.hashed S.sent S.sent10
  list-10 = record {
    size = λ j lj. length-hash_vec 10 _;
    hashes = λ i j li lj ne. refl;
  }

  -- ---- round 12
  -- the bit of string q, shared among all boxes
  abbrev string_of : ℕ → Shared Block
  string_of q = bits_of R (3 * leaky l + q)

  good : (q : ℕ) → q < 40 → Good blocks n (deltas R) (string_of q)
  unfolding bits_count
  good q lq = X.bits-mac (3 * leaky l + q) (omega arith)

  small-string : (q b k : ℕ) → b < n → Small ((string_of q).mac b k)
  unfolding shared_at
  small-string q b k lb = small-mac (inputs b).bits (X.own b lb).bits-bytes ((3 * leaky l + q) * record_len n) k

  abbrev dms_of : ℕ → List ℕ
  dms_of i = S.dms R i

  dm-cell : (i k q : ℕ) → k < n → i ≢ k → q < 40 → take (dm_len n) (drop (dm_row (box R i) k q) (dms_of i)) ≡ dm_of k q
  unfolding dm_row
  dm-cell i k q lk ne lq =
      ap (λ (x : List ℕ). take (dm_len n) (drop ((k * 40 + q) * dm_len n) x)) (kept-dms i)
      ∙ cell (box R i) 40 (dm_len n) dm_of (λ k q lk ne lq. length-own-dm (box R k) (inputs k).bits q) k q lk ne lq

  dm-bit : (i k q : ℕ) → k < n → i ≢ k → q < 40 → odd (get_or (dms_of i) (dm_row (box R i) k q) 0) ≡ (string_of q).bit k
  unfolding dm own share_at shared_at
  dm-bit i k q lk ne lq =
      ap odd (head-part (dm_len n) (dm_row (box R i) k q) (dms_of i) (dm_of k q) (dm-some n) (dm-cell i k q lk ne lq))
      ∙ odd-num ((string_of q).bit k)

  dm-mac : (i j k q : ℕ) → j < n → k < n → i ≢ j → j ≢ k → q < 40
      → block_at (dms_of i) (dm_row (box R i) j q + dm_mac j k) ≡ (string_of q).mac j k
  unfolding own share_at shared_at
  dm-mac i j k q lj lk ne nk lq =
      sym (block-get (dms_of i) (dm_row (box R i) j q) (dm_len n) (dm_mac j k) (mac-fits n j k lj lk nk))
      ∙ ap (λ (s : List ℕ). block_at s (dm_mac j k)) (dm-cell i j q lj ne lq)
      ∙ own-mac (box R j) (inputs j).bits q k lj lk nk (small-string q j k lj)

  -- what k opens
  abbrev opens : ℕ → ℕ → Block
  opens k q = blocks.op (d0 (box R k) (inputs k).bits q) (sel blocks (others1 (box R k) (dms_of k) q) (deltas R k))

  -- it is the XOR of all MACs for k
  opens-is : (k q : ℕ) → k < n → q < 40 → opens k q ≡ others blocks k n (λ j. (string_of q).mac j k)
  unfolding others1 d0 own share_at shared_at
  opens-is k q lk lq =
      ap (λ b. blocks.op (d0 (box R k) (inputs k).bits q) (sel blocks b (deltas R k)))
      (others-ext bits k n _ (string_of q).bit (λ j lj ne. dm-bit k j q lj ne lq))
      ∙ sym (opened blocks n (deltas R) (string_of q) (good q lq) k lk)

  small-opens : (k q : ℕ) → k < n → q < 40 → Small (opens k q)
  small-opens k q lk lq =
      subst Small (sym (opens-is k q lk lq)) (small-others k n (λ j. (string_of q).mac j k) (λ j lj. small-string q j k lj))

  -- and so does i compute it
  macs-are : (i k q : ℕ) → i < n → k < n → i ≢ k → q < 40
      → macs_for (box R i) (inputs i).bits (dms_of i) q k ≡ others blocks k n (λ j. (string_of q).mac j k)
  unfolding macs_for own share_at shared_at
  macs-are i k q li lk ne lq =
      ap (blocks.op ((string_of q).mac i k))
      (others-ext blocks i n _ (λ j. sel blocks (neq k j) ((string_of q).mac j k)) (λ j lj nj. go j lj nj (neq k j) (apart? k j)))
      ∙ all_but blocks i k n (λ j. (string_of q).mac j k) li (λ e. ne (sym e))
    where
      go : (j : ℕ) → j < n → i ≢ j → (b : Bool) → Same k j b
          → sel blocks b (block_at (dms_of i) (dm_row (box R i) j q + dm_mac j k)) ≡ sel blocks b ((string_of q).mac j k)
      go j lj nj false s = refl
      go j lj nj true (apart nk) = dm-mac i j k q lj lk nj (λ e. nk (sym e)) lq

  -- ---- the messages
  abbrev dibi : ℕ → List ℕ
  dibi k = dibi_msg (box R k) (deltas R k) (inputs k).bits (dms_of k)

  dibi-len : (k : ℕ) → length (dibi k) ≡ msg_len n l 12
  unfolding dibi_msg msg_len kind_of count_due
  dibi-len k = list_len_lem n 16 0 40 _ (λ q i. length-bytes_of (opens k q))

  dibi-form : (k : ℕ) → form_of (kind_of l 12) (count_due n l 12) (dibi k) ≡ 0
  unfolding dibi_msg kind_of count_due
  dibi-form k = list-form (Items 16 0) 40 _ (omega arith) (λ q i. coded-block (opens k q))

  dibi-read : (k q : ℕ) → k < n → q < 40 → block_at (dibi k) (8 + q * 16) ≡ opens k q
  unfolding dibi_msg
  dibi-read k q lk lq =
      block_here _ (8 + q * 16) (opens k q)
      (even-item (Items 16 0) 16 40 (λ q. bytes_of (opens k q)) (λ q i. length-bytes_of (opens k q)) _
      (trip (Items 16 0) 40 (λ q. bytes_of (opens k q)) (omega arith) (λ q i. coded-block (opens k q))) q lq)
      (small-opens k q lk lq)

  -- ---- the check
  passes : (t u : Bool) → t ≡ true → u ≡ true → ◌≡◌ {A = ℕ} (pick t (pick u 0 9) 2) 0
  passes t u p q = rw (p, q) refl

  dibi-passes : (i q : ℕ) (m : ℕ → List ℕ) → i < n → q < 40 → (k : ℕ) → k < n → i ≢ k → m k ≡ dibi k
      → dibi_fault (box R i) (inputs i).bits (S.share_comms R i) (dms_of i) m q k ≡ 0
  unfolding dibi_fault d1
  dibi-passes i q m li lq k lk ne e =
      let d : block_at (m k) (8 + q * 16) ≡ opens k q = ap (λ (x : List ℕ). block_at x (8 + q * 16)) e ∙ dibi-read k q lk lq in
      passes _ _ (one-opens (d0 (box R k) (inputs k).bits q) (deltas R k) _ (others1 (box R k) (dms_of k) q) _ _ d
      (first-comm i k q lk ne lq) (second-comm i k q lk ne lq))
      (eq_block_lem _ _ (macs-are i k q li lk ne lq ∙ sym (opens-is k q lk lq) ∙ sym d))

  pub send-12 : Sends R 12
  unfolding stays_test all_of mem S.since S.sent S.sent12 held written
  send-12 = record {
    keeps = λ i li w K. keep-none R (before 12) (due 12) i li K refl;
    writes = λ i r li lr ne w K.
        λ t. dibi_msg (box R i) (delta-is R K t) (bits_at R K t) (dms-at R K refl t);
  }

  pub recv-12 : Receives R 12
  unfolding plain_after echo_in mem stays_test all_of S.since S.sent S.sent12 judge kept dibi_faults
  recv-12 = record {
    heard = record {
      lens = λ j r lj lr ne. dibi-len j;
      formed = λ i j li lj ne. dibi-form j;
      judged = λ i li w K m M.
          (λ t. (dibi_faults (box R i) (bits_at R K t) (share-comms-at R K refl t) (dms-at R K refl t) m).code)
          ∙ first-none 40 _ (λ q lq. by-none (box R i) _ (λ k lk ne. dibi-passes i q m li lq k lk ne (M k lk ne)));
    };
    keeps = λ i li w K m M. keep-none R (due 12) (before 14) i li K refl;
  }

  pub list-12 : Hashes R 12
  unfolding S.hashed S.sent S.sent12
  list-12 = record {
    size = λ j lj. length-hash_vec 12 _;
    hashes = λ i j li lj ne. refl;
  }
