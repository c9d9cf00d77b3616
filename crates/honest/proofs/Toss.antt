-- Rounds 1, 3, 4 and 5 in an honest run: every commitment opens, the seeds are those of the script, and all boxes hold one joint seed.
use Rattle.std.specs.Prelude.{◌≡◌, ◌≢◌, take}
use Rattle.std.proofs.Math.Path.{refl, sym, ap}
use Rattle.std.proofs.Common.{◌∙◌, le_refl, drop_at}
use mathlib.Core.List.{List, [], ◌∷◌, ◌++◌}
use Prim.Native.Nat.{ℕ, zero, suc, ◌*◌, ◌<◌}
use native.Mathlib.Omega.{arith}
use Rattle.std.proofs.Math.ListN.{length, get_or}
use Rattle.std.proofs.Math.Seq.{take_all}
use Rattle.std.specs.Int.Bits.{bit_xor, xor_comm}
use Rattle.lists.specs.Pick.{pick}
use Rattle.lists.specs.All.{all_of}
use Rattle.lists.specs.Over.{tab, length-tab, cat}
use Rattle.lists.specs.Tab.{tab-get_or}
use Rattle.lists.specs.Rows.{chunk, length-chunk, tab-ext}
use Rattle.lists.specs.Same.{same?, same-eq}
use Rattle.algebra.specs.Group.{numbers}
use Rattle.algebra.specs.Sum.{others, others-ext, others-all}
use Rattle.block.specs.Block.{le8, xor_inplace}
use Rattle.block.specs.Trip.{length-le8}
use Rattle.message.specs.declared.Kind.TheVariants.{Items}
use Rattle.message.specs.Format.{form_of}
use Rattle.encode.specs.Encode.{encode}
use Rattle.encode.specs.Coded.{coded-hash, coded-byte}
use Rattle.encode.specs.RoundTrip.{trip, even-item}
use Rattle.plan.specs.Plan.{kind_of, count_due, msg_len}
use Rattle.engine.specs.declared.Frame.{Frame}
use Rattle.engine.specs.StepLaws.{by-none}
use Rattle.engine.specs.Area.{mem}
use Rattle.engine.specs.Sheet.{stays_test}
use Rattle.engine.specs.Order.{echo_in}
use Rattle.engine.specs.Honest.{before, due, plain_after}
use Rattle.rounds.specs.Area.{COMMS, JOINT, PAIR_COMMS, PAIRWISE, sizes, size_of}
use Rattle.rounds.specs.Table.{judge, kept, held, written}
use Rattle.rounds.specs.Toss.{commitment, comm_msg, ver_msg, told, told_rows, opening, joint_seed, pairwise_seeds}
use Rattle.alone.specs.Base.{rows_ext, length-rows, chunk-rows}
use Rattle.blake3.specs.ByteLaws.{length-hash}
use Rattle.rounds.specs.EchoLaws.{length-hash_vec}
use Rattle.honest.specs.Script as S
use Rattle.honest.specs.Inputs.{Run, box, Boxes, joint_of}
use Rattle.honest.specs.Base.{Receives, Sends, Hashes, list-form, list_len_lem, Fit, seed-at, pairs-at, comms-at, pair-comms-at}
use Rattle.honest.specs.Base.{keep-none, keep_one}

-- ---- a message with a commitment, and one with a seed
pub length-commitment : (seed : List ℕ) (j : ℕ) → length (commitment seed j) ≡ 32
unfolding commitment
length-commitment seed j = length-hash _

module _ (seed : List ℕ) (j : ℕ) where
  abbrev comm : ℕ → List ℕ
  comm t = commitment seed j

  comm-len : (n l : ℕ) → length (comm_msg seed j) ≡ msg_len n l 1
  unfolding comm_msg msg_len kind_of count_due
  comm-len n l = list_len_lem n 32 0 1 comm (λ t i. length-commitment seed j)

  comm-form : (n l : ℕ) → form_of (kind_of l 1) (count_due n l 1) (comm_msg seed j) ≡ 0
  unfolding comm_msg kind_of count_due
  comm-form n l = list-form (Items 32 0) 1 comm (omega arith) (λ t i. coded-hash (commitment seed j) (length-commitment seed j))

  told-comm : told (comm_msg seed j) ≡ commitment seed j
  unfolding told comm_msg
  told-comm =
      even-item (Items 32 0) 32 1 comm (λ t l. length-commitment seed j) (encode 1 comm)
      (trip (Items 32 0) 1 comm (omega arith) (λ t l. coded-hash (commitment seed j) (length-commitment seed j))) 0 (omega arith)

pub cat-tab : (n : ℕ) (f : ℕ → ℕ) → cat n (λ t. f t ∷ []) ≡ tab n f
unfolding cat tab
cat-tab zero f = refl
cat-tab (suc n) f = ap (λ (x : List ℕ). x ++ (f n ∷ [])) (cat-tab n f)

module _ (seed : List ℕ) where
  abbrev byte : ℕ → List ℕ
  byte t = get_or seed t 0 ∷ []

  ver_len_lem : (n l : ℕ) → length (ver_msg seed) ≡ msg_len n l 3
  unfolding ver_msg msg_len kind_of count_due
  ver_len_lem n l = list_len_lem n 1 0 32 byte (λ t i. refl)

  ver-form : (n l : ℕ) → form_of (kind_of l 3) (count_due n l 3) (ver_msg seed) ≡ 0
  unfolding ver_msg kind_of count_due
  ver-form n l = list-form (Items 1 0) 32 byte (omega arith) (λ t i. coded-byte (get_or seed t 0))

  told-ver : length seed ≡ 32 → told (ver_msg seed) ≡ seed
  unfolding told ver_msg encode
  told-ver h =
      ap (take 32) (drop_at (le8 32) (cat 32 byte) 8 (length-le8 32) ∙ cat-tab 32 (λ t. get_or seed t 0))
      ∙ take_all 32 (tab 32 (λ t. get_or seed t 0)) (rw (length-tab 32 (λ t. get_or seed t 0)) (le_refl 32))
      ∙ ap (λ c. tab c (λ t. get_or seed t 0)) (sym h) ∙ tab-get_or seed 0

-- ---- the rounds
opens : (x c : List ℕ) (k : ℕ) → commitment x k ≡ c → ◌≡◌ {A = ℕ} (pick (same? (commitment x k) c) 0 2) 0
opens x c k e = rw (same-eq (commitment x k) c e) refl

length-joint : (f : Frame) (seed : List ℕ) (m : ℕ → List ℕ) → length (joint_seed f seed m) ≡ 32
unfolding joint_seed
length-joint f seed m = length-tab 32 _

joint-ext : (f : Frame) (seed : List ℕ) (m m' : ℕ → List ℕ) → ((k : ℕ) → k < f.n → f.i ≢ k → m k ≡ m' k)
    → joint_seed f seed m ≡ joint_seed f seed m'
unfolding joint_seed
joint-ext f seed m m' h =
    tab-ext 32 _ _ (λ t l. ap (bit_xor (get_or seed t 0))
    (others-ext numbers f.i f.n (λ k. get_or (told (m k)) t 0) (λ k. get_or (told (m' k)) t 0)
    (λ k lk ne. ap (λ (x : List ℕ). get_or (told x) t 0) (h k lk ne))))

module _ (f : Frame) where
  told-ext : (m m' : ℕ → List ℕ) → ((k : ℕ) → k < f.n → f.i ≢ k → m k ≡ m' k) → told_rows f m ≡ told_rows f m'
  unfolding told_rows
  told-ext m m' h = rows_ext f 32 _ _ (λ k l ne. ap told (h k l ne))

  pairwise-ext : (pairs : List ℕ) (m m' : ℕ → List ℕ) → ((k : ℕ) → k < f.n → f.i ≢ k → m k ≡ m' k)
      → pairwise_seeds f pairs m ≡ pairwise_seeds f pairs m'
  unfolding pairwise_seeds
  pairwise-ext pairs m m' h = rows_ext f 32 _ _ (λ k l ne. ap (λ (x : List ℕ). xor_inplace (chunk 32 k pairs) (told x)) (h k l ne))

  length-pairwise : (pairs : List ℕ) (m : ℕ → List ℕ) → length pairs ≡ 32 * f.n → length (pairwise_seeds f pairs m) ≡ f.n * 32
  unfolding pairwise_seeds xor_inplace
  length-pairwise pairs m h =
      length-rows f 32 _ (λ k l ne. length-tab (length (chunk 32 k pairs)) _ ∙ length-chunk 32 f.n k pairs l (omega arith))

  -- rows of commitments of x k, by party
  module _ (m x : ℕ → List ℕ) (h : (k : ℕ) → k < f.n → f.i ≢ k → m k ≡ comm_msg (x k) k) where
    told_is : (k : ℕ) → k < f.n → f.i ≢ k → told (m k) ≡ commitment (x k) k
    told_is k l ne = ap told (h k l ne) ∙ told-comm (x k) k

    length-told : length (told_rows f m) ≡ f.n * 32
    unfolding told_rows
    length-told = length-rows f 32 _ (λ k l ne. ap length (told_is k l ne) ∙ length-commitment (x k) k)

    -- the seeds, told later, open them
    told-opens : (m' : ℕ → List ℕ) → ((k : ℕ) → k < f.n → f.i ≢ k → told (m' k) ≡ x k) → (opening f (told_rows f m) m').code ≡ 0
    unfolding opening told_rows
    told-opens m' e =
        by-none f _ (λ k l ne. opens (told (m' k)) _ k
        (ap (λ (y : List ℕ). commitment y k) (e k l ne) ∙ sym (told_is k l ne)
        ∙ sym (chunk-rows f 32 _ (λ k l ne. ap length (told_is k l ne) ∙ length-commitment (x k) k) k l ne)))

module _ (R : Run) (X : Boxes R) where
  open R use {n, l, inputs}

  -- ---- round 1
  fit-comms : Fit R COMMS
  unfolding S.holds S.comms S.sent1 size_of sizes
  fit-comms = (omega arith, λ i li. length-told (box R i) (λ j. S.sent1 R j i) (λ k. (inputs k).seed) (λ k lk ne. refl))

  pub recv-1 : Receives R 1
  unfolding plain_after echo_in mem stays_test all_of S.since S.holds S.sent S.sent1 S.comms judge kept
  recv-1 = record {
    heard = record {
      lens = λ j r lj lr ne. comm-len (inputs j).seed j n l;
      formed = λ i j li lj ne. comm-form (inputs j).seed j n l;
      judged = λ i li w K m M. refl;
    };
    keeps = λ i li w K m M. keep_one R (due 1) (before 3) i li K COMMS _ refl fit-comms (told-ext (box R i) _ _ M);
  }

  pub list-1 : Hashes R 1
  unfolding S.hashed S.sent S.sent1
  list-1 = record {
    size = λ j lj. length-hash_vec 1 _;
    hashes = λ i j li lj ne. refl;
  }

  -- ---- round 3
  pub send-3 : Sends R 3
  unfolding stays_test all_of mem S.since S.sent S.sent3 held written
  send-3 = record {
    keeps = λ i li w K. keep-none R (before 3) (due 3) i li K refl;
    writes = λ i r li lr ne w K. ap ver_msg (seed-at R K);
  }

  fit-joint : Fit R JOINT
  unfolding S.holds S.joint size_of sizes
  fit-joint = (omega arith, λ i li. length-joint (box R i) (inputs i).seed _)

  told-seed : (j : ℕ) → j < n → (m : List ℕ) → m ≡ ver_msg (inputs j).seed → told m ≡ (inputs j).seed
  told-seed j lj m e = ap told e ∙ told-ver (inputs j).seed (X.own j lj).seed-len

  pub recv-3 : Receives R 3
  unfolding plain_after echo_in mem stays_test all_of S.since S.holds S.sent S.sent1 S.sent3 S.comms S.joint judge kept
  recv-3 = record {
    heard = record {
      lens = λ j r lj lr ne. ver_len_lem (inputs j).seed n l;
      formed = λ i j li lj ne. ver-form (inputs j).seed n l;
      judged = λ i li w K m M.
          ap (λ (c : List ℕ). (opening (box R i) c m).code) (comms-at R K refl)
          ∙ told-opens (box R i) _ (λ k. (inputs k).seed) (λ k lk ne. refl) m (λ k lk ne. told-seed k lk (m k) (M k lk ne));
    };
    keeps = λ i li w K m M. keep_one R (due 3) (before 4) i li K JOINT _ refl fit-joint
        (ap (λ (x : List ℕ). joint_seed (box R i) x m) (seed-at R K) ∙ joint-ext (box R i) (inputs i).seed m _ M);
  }

  -- after the toss all boxes hold one joint seed: each has heard the seeds of all others
  pub one-joint : (i : ℕ) → i < n → S.joint R i ≡ joint_of R
  unfolding S.joint S.sent3 joint_seed joint_of
  one-joint i li =
      tab-ext 32 _ _ (λ t lt.
      let seed : ℕ → ℕ = λ k. get_or (inputs k).seed t 0 in
      ap (bit_xor (seed i))
      (others-ext numbers i n (λ k. get_or (told (ver_msg (inputs k).seed)) t 0) seed
      (λ k lk ne. ap (λ (x : List ℕ). get_or x t 0) (told-seed k lk (ver_msg (inputs k).seed) refl)))
      ∙ xor_comm (seed i) (others numbers i n seed) ∙ others-all numbers i n seed li)

  -- ---- round 4
  pub send-4 : Sends R 4
  unfolding stays_test all_of mem S.since S.sent S.sent4 held written
  send-4 = record {
    keeps = λ i li w K. keep-none R (before 4) (due 4) i li K refl;
    writes = λ i r li lr ne w K. ap (λ (x : List ℕ). comm_msg (chunk 32 r x) i) (pairs-at R K);
  }

  -- the seed that j tosses with r
  abbrev pair : ℕ → ℕ → List ℕ
  pair j r = chunk 32 r (inputs j).pairs

  fit-pair-comms : Fit R PAIR_COMMS
  unfolding S.holds S.pair_comms S.sent4 size_of sizes
  fit-pair-comms = (
    omega arith,
    λ i li. length-told (box R i) (λ j. S.sent4 R j i) (λ k. pair k i) (λ k lk ne. refl),
  )

  pub recv-4 : Receives R 4
  unfolding plain_after echo_in mem stays_test all_of S.since S.holds S.sent S.sent4 S.pair_comms judge kept msg_len count_due kind_of
  recv-4 = record {
    heard = record {
      lens = λ j r lj lr ne. comm-len (pair j r) j n l;
      formed = λ i j li lj ne. comm-form (pair j i) j n l;
      judged = λ i li w K m M. refl;
    };
    keeps = λ i li w K m M.
        keep_one R (due 4) (before 5) i li K PAIR_COMMS _ refl fit-pair-comms (told-ext (box R i) _ _ M);
  }

  -- ---- round 5
  pub send-5 : Sends R 5
  unfolding stays_test all_of mem S.since S.sent S.sent5 held written
  send-5 = record {
    keeps = λ i li w K. keep-none R (before 5) (due 5) i li K refl;
    writes = λ i r li lr ne w K. ap (λ (x : List ℕ). ver_msg (chunk 32 r x)) (pairs-at R K);
  }

  fit-pairwise : Fit R PAIRWISE
  unfolding S.holds S.pairwise size_of sizes
  fit-pairwise = (omega arith, λ i li. length-pairwise (box R i) (inputs i).pairs _ (X.own i li).pairs_len)

  told-pair : (i j : ℕ) → i < n → j < n → (m : List ℕ) → m ≡ ver_msg (pair j i) → told m ≡ pair j i
  told-pair i j li lj m e =
      ap told e ∙ told-ver (pair j i) (length-chunk 32 n i (inputs j).pairs li (omega (arith, (X.own j lj).pairs_len)))

  pub recv-5 : Receives R 5
  unfolding plain_after echo_in mem stays_test all_of S.since S.holds S.sent S.sent4 S.sent5 S.pair_comms S.pairwise judge kept msg_len count_due kind_of
  recv-5 = record {
    heard = record {
      lens = λ j r lj lr ne. ver_len_lem (pair j r) n l;
      formed = λ i j li lj ne. ver-form (pair j i) n l;
      judged = λ i li w K m M.
          ap (λ (c : List ℕ). (opening (box R i) c m).code) (pair-comms-at R K refl)
          ∙ told-opens (box R i) _ (λ k. pair k i) (λ k lk ne. refl) m (λ k lk ne. told-pair i k li lk (m k) (M k lk ne));
    };
    keeps = λ i li w K m M. keep_one R (due 5) (before 6) i li K PAIRWISE _ refl fit-pairwise
        (ap (λ (x : List ℕ). pairwise_seeds (box R i) x m) (pairs-at R K)
        ∙ pairwise-ext (box R i) (inputs i).pairs m _ M);
  }
