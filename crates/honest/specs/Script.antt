-- An honest run, round by round: what each box holds and sends, in terms of what the boxes were opened with. `mail k i` is what box i
-- receives.
use Rattle.std.specs.Prelude.{List, [], ℕ, replicate, leb, eqb}
use Rattle.lists.specs.Pick.{pick}
use Rattle.lists.specs.Rows.{chunk}
use Rattle.engine.specs.Honest.{Script}
use Rattle.rounds.specs.Area.{DELTA, SEED, PAIRS, MASKS, BITS, ALPHA, BETA, COMMS, JOINT, PAIR_COMMS, PAIRWISE, KEY_SUMS, SHARE_COMMS, DMS}
use Rattle.rounds.specs.Area.{LEAKY, ZS, ES, HS, H_COMMS, PERM, DS, TRIPLES, size_of}
use Rattle.rounds.specs.Echo.{hash_vec}
use Rattle.rounds.specs.Toss as Toss
use Rattle.rounds.specs.Fabitn as Fabitn
use Rattle.rounds.specs.Fashare as Fashare
use Rattle.rounds.specs.Haand as Haand
use Rattle.rounds.specs.Flaand as Flaand
use Rattle.rounds.specs.Buckets as Buckets
use Rattle.rounds.specs.Beaver as Beaver
unfoldable pub use Rattle.alone.specs.Holds.{since}
use Rattle.honest.specs.Inputs.{Run, box, deltas}

module _ (R : Run) where
  open R use {inputs, strings}

  -- ---- what the boxes were opened with
  abbrev recs : ℕ → List ℕ
  recs i = (inputs i).bits

  -- ---- tosses
  unfoldable pub sent1 : ℕ → ℕ → List ℕ
  sent1 j r = Toss.comm_msg (inputs j).seed j

  unfoldable pub comms : ℕ → List ℕ
  comms i = Toss.told_rows (box R i) (λ j. sent1 j i)

  unfoldable pub sent3 : ℕ → ℕ → List ℕ
  sent3 j r = Toss.ver_msg (inputs j).seed

  unfoldable pub joint : ℕ → List ℕ
  joint i = Toss.joint_seed (box R i) (inputs i).seed (λ j. sent3 j i)

  unfoldable pub sent4 : ℕ → ℕ → List ℕ
  sent4 j r = Toss.comm_msg (chunk 32 r (inputs j).pairs) j

  unfoldable pub pair_comms : ℕ → List ℕ
  pair_comms i = Toss.told_rows (box R i) (λ j. sent4 j i)

  unfoldable pub sent5 : ℕ → ℕ → List ℕ
  sent5 j r = Toss.ver_msg (chunk 32 r (inputs j).pairs)

  unfoldable pub pairwise : ℕ → List ℕ
  pairwise i = Toss.pairwise_seeds (box R i) (inputs i).pairs (λ j. sent5 j i)

  -- ---- `fabitn`
  unfoldable pub key_sums : ℕ → List ℕ
  key_sums i = Fabitn.key_sums (box R i) strings (recs i)

  unfoldable pub sent6 : ℕ → ℕ → List ℕ
  sent6 j r = Fabitn.abit_msg (box R j) strings (recs j) r

  -- ---- `fashare`
  unfoldable pub sent8 : ℕ → ℕ → List ℕ
  sent8 j r = Fashare.comm_msg (box R j) (deltas R j) (recs j)

  unfoldable pub share_comms : ℕ → List ℕ
  share_comms i = Fashare.comm_rows (box R i) (λ j. sent8 j i)

  unfoldable pub sent10 : ℕ → ℕ → List ℕ
  sent10 j r = Fashare.ver_msg (box R j) (recs j)

  unfoldable pub dms : ℕ → List ℕ
  dms i = Fashare.dm_rows (box R i) (λ j. sent10 j i)

  unfoldable pub sent12 : ℕ → ℕ → List ℕ
  sent12 j r = Fashare.dibi_msg (box R j) (deltas R j) (recs j) (dms j)

  -- ---- `fhaand`
  unfoldable pub leaky_rows : ℕ → List ℕ
  leaky_rows i = Haand.leaky_rows (box R i) (deltas R i) (recs i)

  unfoldable pub sent14 : ℕ → ℕ → List ℕ
  sent14 j r = Haand.haand_msg (box R j) (deltas R j) (inputs j).masks (recs j) r

  unfoldable pub z_rows : ℕ → List ℕ
  z_rows i = Haand.z_rows (box R i) (inputs i).masks (recs i) (λ j. sent14 j i)

  -- ---- `flaand`
  unfoldable pub sent15 : ℕ → ℕ → List ℕ
  sent15 j r = Flaand.flaand_msg (box R j) (recs j) (leaky_rows j) (z_rows j) r

  unfoldable pub es : ℕ → List ℕ
  es i = Flaand.e_rows (box R i) (λ j. sent15 j i)

  unfoldable pub hs : ℕ → List ℕ
  hs i = Flaand.hs (box R i) (deltas R i) (recs i) (leaky_rows i) (z_rows i) (λ j. sent15 j i)

  unfoldable pub sent17 : ℕ → ℕ → List ℕ
  sent17 j r = Flaand.comm_msg (box R j) (hs j)

  unfoldable pub h_comms : ℕ → List ℕ
  h_comms i = Flaand.comm_rows (box R i) (λ j. sent17 j i)

  unfoldable pub sent19 : ℕ → ℕ → List ℕ
  sent19 j r = Flaand.hash_msg (box R j) (hs j)

  -- ---- `faand`
  unfoldable pub perms : ℕ → List ℕ
  perms i = Buckets.perm_bytes (box R i) (joint i)

  unfoldable pub sent21 : ℕ → ℕ → List ℕ
  sent21 j r = Buckets.dvalue_msg (box R j) (recs j) (perms j) r

  unfoldable pub ds : ℕ → List ℕ
  ds i = Buckets.ds (box R i) (recs i) (perms i) (λ j. sent21 j i)

  unfoldable pub triple_rows : ℕ → List ℕ
  triple_rows i = Buckets.triple_rows (box R i) (deltas R i) (recs i) (z_rows i) (es i) (perms i) (ds i)

  -- ---- `beaver_aand`
  unfoldable pub sent22 : ℕ → ℕ → List ℕ
  sent22 j r = Beaver.faand_msg (box R j) (recs j) (perms j) (triple_rows j) (inputs j).alpha (inputs j).beta r

  unfoldable pub result_of : ℕ → List ℕ
  result_of i = Beaver.results (box R i) (recs i) (perms i) (triple_rows i) (inputs i).alpha (inputs i).beta (λ j. sent22 j i)

  -- ---- the script
  -- what section s of box i holds since `since s`
  unfoldable pub holds : ℕ → ℕ → List ℕ
  holds i s =
      pick (eqb s DELTA) (inputs i).delta (pick (eqb s SEED) (inputs i).seed
      (pick (eqb s PAIRS) (inputs i).pairs (pick (eqb s MASKS) (inputs i).masks
      (pick (eqb s BITS) (inputs i).bits (pick (eqb s ALPHA) (inputs i).alpha (pick (eqb s BETA) (inputs i).beta
      (pick (eqb s COMMS) (comms i) (pick (eqb s JOINT) (joint i) (pick (eqb s PAIR_COMMS) (pair_comms i) (pick (eqb s PAIRWISE) (pairwise i)
      (pick (eqb s KEY_SUMS) (key_sums i) (pick (eqb s SHARE_COMMS) (share_comms i) (pick (eqb s DMS) (dms i)
      (pick (eqb s LEAKY) (leaky_rows i) (pick (eqb s ZS) (z_rows i)
      (pick (eqb s ES) (es i) (pick (eqb s HS) (hs i) (pick (eqb s H_COMMS) (h_comms i)
      (pick (eqb s PERM) (perms i) (pick (eqb s DS) (ds i) (pick (eqb s TRIPLES) (triple_rows i)
      (replicate (size_of (box R i) s) 0))))))))))))))))))))))

  -- what j sends to r for round k
  unfoldable pub sent : ℕ → ℕ → ℕ → List ℕ
  sent k j r =
      pick (eqb k 1) (sent1 j r) (pick (eqb k 3) (sent3 j r) (pick (eqb k 4) (sent4 j r) (pick (eqb k 5) (sent5 j r)
      (pick (eqb k 6) (sent6 j r) (pick (eqb k 8) (sent8 j r) (pick (eqb k 10) (sent10 j r) (pick (eqb k 12) (sent12 j r)
      (pick (eqb k 14) (sent14 j r) (pick (eqb k 15) (sent15 j r)
      (pick (eqb k 17) (sent17 j r) (pick (eqb k 19) (sent19 j r) (pick (eqb k 21) (sent21 j r) (pick (eqb k 22) (sent22 j r)
      [])))))))))))))

  -- the hash of j's list, as its next party gets it
  unfoldable pub hashed : ℕ → ℕ → List ℕ
  hashed k j = hash_vec k (sent k j (pick (eqb j 0) 1 0))

  abbrev pub script : Script
  script = record {
    loan = λ k. record { r = pick (eqb k 6) strings [] };
    ready = λ t s. leb (since s) t;
    val = λ t i s. holds i s;
    sent = sent;
    hashed = hashed;
    result = result_of;
  }
