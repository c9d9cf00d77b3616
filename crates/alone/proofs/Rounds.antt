-- What each plain round does to the work area of one box, whoever it talks to: receiving it and making its messages fill the sections that
-- Holds.antt names, and what is written is the formula's.
use Rattle.std.specs.Prelude.{◌≡◌, true, ◌≢◌, ℕ, ◌+◌, ◌*◌, ◌<◌, ◌≤◌, length, take, drop, leb, ltb}
use Rattle.std.proofs.Math.Path.{refl, ap, ap₂}
use Rattle.std.proofs.Common.{◌∙◌, le-leb}
use mathlib.Core.List.{List, [], ◌∷◌}
use native.Mathlib.Omega.{arith}
use Rattle.lists.specs.All.{all_of}
use Rattle.lists.specs.Over.{length-tab}
use Rattle.lists.specs.Rows.{chunk, length-chunk}
use Rattle.lists.specs.Sect.{length-get}
use Rattle.block.specs.Block.{block_at, xor_inplace}
use Rattle.block.specs.Trip.{length-bytes_of}
use Rattle.message.specs.declared.Kind.TheVariants.{Items, Dms}
use Rattle.message.specs.Format.{form_of}
use Rattle.message.proofs.FormLaws.{fixed}
use Rattle.plan.specs.Plan.{kind_of, count_due, leaky}
use Rattle.engine.specs.declared.Frame.{Frame}
use Rattle.engine.specs.Step.{Loan}
use Rattle.engine.specs.Area.{mem, length-sec}
use Rattle.engine.specs.Sheet.{stays_test}
use Rattle.engine.specs.Order.{echo_in}
use Rattle.engine.specs.Honest.{before, due, plain_after}
use Rattle.engine.specs.Alone.{Tale}
use Rattle.engine.proofs.AloneLaws as Alone
use Rattle.rounds.specs.Area.{DELTA, SEED, PAIRS, MASKS, BITS, ALPHA, BETA, COMMS, JOINT, PAIR_COMMS, PAIRWISE, KEY_SUMS, SHARE_COMMS, DMS}
use Rattle.rounds.specs.Area.{LEAKY, ZS, ES, HS, H_COMMS, PERM, DS, TRIPLES, ROUNDS_OWN, SECTIONS, sizes, size_of, at, keep}
use Rattle.rounds.specs.Opening.{Args, party}
use Rattle.rounds.specs.Table.{table, delta, judge, kept, held, written}
use Rattle.rounds.specs.Toss as Toss
use Rattle.rounds.specs.Fabitn as Fabitn
use Rattle.rounds.specs.Fashare as Fashare
use Rattle.rounds.specs.Haand as Haand
use Rattle.rounds.specs.Flaand as Flaand
use Rattle.rounds.specs.FlaandLaws.{length-own_comms}
use Rattle.rounds.specs.Buckets as Buckets
use Rattle.rounds.specs.Beaver as Beaver
use Rattle.alone.specs.Formula as F
use Rattle.alone.specs.Formula.{Seen}
use Rattle.alone.specs.Holds.{since, store_of, h_rows, d_rows, triple_rows, holds, tale}
use Rattle.alone.specs.Given.{Admissible}
use Rattle.alone.specs.Base.{length-rows, has-at, Fit, keep-none, keep-free, keep_one, keep_two}
use Rattle.alone.specs.Cells.{length-cells}
use Rattle.alone.proofs.HaandLaws.{length-leaky_rows, length-z_rows}
use Rattle.alone.proofs.FashareLaws.{length-dms, msg-12}
use Rattle.alone.proofs.FlaandLaws.{length-es, length-hs, hs-read, msg-15, msg-17, msg-19}
use Rattle.alone.proofs.BucketsLaws.{length-perm, length-ds, length-triples, ds-is, triples-are, msg-21}
use Rattle.alone.proofs.BeaverLaws.{msg-22, results-are}

-- ---- what is kept of a message of due form is as long as its row
row-long : (c s : ℕ) (m : List ℕ) → 8 + c * s ≤ length m → length (take (c * s) (drop 8 m)) ≡ c * s
row-long c s m h = length-get 8 (c * s) m h

-- what a box that was opened with a, lent q and sent m has to go by
abbrev pub seen_by : Args → (ℕ → Loan) → (ℕ → ℕ → List ℕ) → Seen
seen_by a q m = record { inputs = a; strings = (q 6).r; mail = m }

module _ (a : Args) (q : ℕ → Loan) (m : ℕ → ℕ → List ℕ) (I : Admissible (seen_by a q m)) where
  abbrev f : Frame
  f = party a

  abbrev S : Seen
  S = seen_by a q m

  -- what the rounds owe (engine, Alone.antt)
  abbrev U : Tale
  U = tale S

  abbrev At : ℕ → List ℕ → Type 0
  At t w = Alone.At table f.n f.l f.i U m q t w

  abbrev Formed : ℕ → Type 0
  Formed k = Alone.Formed table f.n f.l f.i U m q k

  abbrev Judged : ℕ → List ℕ → Type 0
  Judged k w = Alone.Judged table f.n f.l f.i U m q k w

  abbrev Passed : ℕ → Type 0
  Passed k = Alone.Passed table f.n f.l f.i U m q k

  abbrev Past : ℕ → Type 0
  Past k = Alone.Past table f.n f.l f.i U m q k

  abbrev RecvAt : ℕ → Type 0
  RecvAt k = Alone.RecvAt table f.n f.l f.i U m q k

  abbrev SendAt : ℕ → Type 0
  SendAt k = Alone.SendAt table f.n f.l f.i U m q k

  abbrev LastAt : ℕ → Type 0
  LastAt k = Alone.LastAt table f.n f.l f.i U m q k

  abbrev vals : ℕ → ℕ → List ℕ
  vals i s = holds S s

  abbrev fits : ℕ → Type 0
  fits s = Fit f.n f.l vals s

  -- ---- the sections, each from its moment on
  has : (s : ℕ) {t : ℕ} {w : List ℕ} → At t w → ltb s ROUNDS_OWN ≡ true → leb (since s) t ≡ true → at f s w ≡ holds S s
  has s K ls r = has-at f.n f.l vals s K ls r

  module _ {t : ℕ} {w : List ℕ} (K : At t w) where
    -- what opening keeps
    delta-is : delta f w ≡ F.delta S
    unfolding delta F.delta holds since
    delta-is = ap (λ (x : List ℕ). block_at x 0) (has DELTA K refl (le-leb 0 t (omega arith)))

    seed-at : at f SEED w ≡ a.seed
    unfolding holds since
    seed-at = has SEED K refl (le-leb 0 t (omega arith))

    pairs-at : at f PAIRS w ≡ a.pairs
    unfolding holds since
    pairs-at = has PAIRS K refl (le-leb 0 t (omega arith))

    masks-at : at f MASKS w ≡ a.masks
    unfolding holds since
    masks-at = has MASKS K refl (le-leb 0 t (omega arith))

    bits_at : at f BITS w ≡ a.bits
    unfolding holds since
    bits_at = has BITS K refl (le-leb 0 t (omega arith))

    alpha-at : at f ALPHA w ≡ a.alpha
    unfolding holds since
    alpha-at = has ALPHA K refl (le-leb 0 t (omega arith))

    beta-at : at f BETA w ≡ a.beta
    unfolding holds since
    beta-at = has BETA K refl (le-leb 0 t (omega arith))

    -- what a round fills
    joint-at : leb (before 4) t ≡ true → at f JOINT w ≡ F.joint_seed S
    unfolding holds since
    joint-at r = has JOINT K refl r

    dms-at : leb (before 12) t ≡ true → at f DMS w ≡ Fashare.dm_rows f (m 10)
    unfolding holds since
    dms-at r = has DMS K refl r

    leaky-at : leb (due 14) t ≡ true → at f LEAKY w ≡ Haand.leaky_rows f (F.delta S) a.bits
    unfolding holds since
    leaky-at r = has LEAKY K refl r

    zs-at : leb (before 15) t ≡ true → at f ZS w ≡ Haand.z_rows f a.masks a.bits (m 14)
    unfolding holds since
    zs-at r = has ZS K refl r

    es-at : leb (before 17) t ≡ true → at f ES w ≡ Flaand.e_rows f (m 15)
    unfolding holds since
    es-at r = has ES K refl r

    hs-at : leb (before 17) t ≡ true → at f HS w ≡ h_rows S
    unfolding holds since
    hs-at r = has HS K refl r

    perm_at : leb (due 21) t ≡ true → at f PERM w ≡ Buckets.perm_bytes f (F.joint_seed S)
    unfolding holds since
    perm_at r = has PERM K refl r

    ds-at : leb (before 22) t ≡ true → at f DS w ≡ d_rows S
    unfolding holds since
    ds-at r = has DS K refl r

    triples-at : leb (due 22) t ≡ true → at f TRIPLES w ≡ triple_rows S
    unfolding holds since
    triples-at r = has TRIPLES K refl r

  -- from moment t to moment u nothing is filled, or section s
  stays : (t u : ℕ) {w : List ℕ} → At t w → stays_test (store_of vals) t u [] ≡ true → At u w
  stays t u K test = keep-none f.n f.l vals t u f.i I.own K test

  fill : (t u s : ℕ) {x w : List ℕ} → At t w → stays_test (store_of vals) t u (s ∷ []) ≡ true → fits s → x ≡ holds S s → At u (keep f s x w)
  fill t u s {x} K test fit e = keep_one f.n f.l vals t u f.i I.own K s x test fit e

  -- ---- tosses: rounds 1, 3, 4, 5
  toss-rows : (k : ℕ) → ((j : ℕ) → j < f.n → f.i ≢ j → form_of (Items 32 0) 1 (m k j) ≡ 0) → length (Toss.told_rows f (m k)) ≡ f.n * 32
  unfolding Toss.told_rows Toss.told
  toss-rows k formed = length-rows f 32 _ (λ j lj ne. row-long 1 32 (m k j) (fixed 32 0 1 (m k j) (formed j lj ne)).fits)

  fit-comms : Formed 1 → fits COMMS
  unfolding holds size_of sizes kind_of count_due
  fit-comms formed = (omega arith, λ i li. toss-rows 1 formed)

  fit-joint : fits JOINT
  unfolding holds size_of sizes F.joint_seed Toss.joint_seed
  fit-joint = (omega arith, λ i li. length-tab 32 _)

  fit-pair-comms : Formed 4 → fits PAIR_COMMS
  unfolding holds size_of sizes kind_of count_due
  fit-pair-comms formed = (omega arith, λ i li. toss-rows 4 formed)

  fit-pairwise : fits PAIRWISE
  unfolding holds size_of sizes F.pairwise_seed F.pair_seed xor_inplace
  fit-pairwise = (
    omega arith,
    λ i li. length-rows f 32 _ (λ k lk ne.
        length-tab (length (chunk 32 k a.pairs)) _ ∙ length-chunk 32 f.n k a.pairs lk (omega (arith, I.pairs_len))),
  )

  pub recv-1 : RecvAt 1
  unfolding plain_after echo_in stays_test all_of mem since holds kept
  recv-1 past p = fill (due 1) (before 3) COMMS p.known refl (fit-comms p.formed) refl

  pub send-3 : SendAt 3
  unfolding stays_test all_of mem since held written F.sent F.sent3
  send-3 = record {
    keeps = λ past z w K. stays (before 3) (due 3) K refl;
    writes = λ past z w K j lj ne. ap Toss.ver_msg (seed-at K);
  }

  pub recv-3 : RecvAt 3
  unfolding plain_after echo_in stays_test all_of mem since holds kept F.joint_seed
  recv-3 past p =
      fill (due 3) (before 4) JOINT p.known refl fit-joint (ap (λ (s : List ℕ). Toss.joint_seed f s (m 3)) (seed-at p.known))

  pub send-4 : SendAt 4
  unfolding stays_test all_of mem since held written F.sent F.sent4 F.pair_seed
  send-4 = record {
    keeps = λ past z w K. stays (before 4) (due 4) K refl;
    writes = λ past z w K j lj ne. ap (λ (s : List ℕ). Toss.comm_msg (chunk 32 j s) f.i) (pairs-at K);
  }

  pub recv-4 : RecvAt 4
  unfolding plain_after echo_in stays_test all_of mem since holds kept
  recv-4 past p = fill (due 4) (before 5) PAIR_COMMS p.known refl (fit-pair-comms p.formed) refl

  pub send-5 : SendAt 5
  unfolding stays_test all_of mem since held written F.sent F.sent5 F.pair_seed
  send-5 = record {
    keeps = λ past z w K. stays (before 5) (due 5) K refl;
    writes = λ past z w K j lj ne. ap (λ (s : List ℕ). Toss.ver_msg (chunk 32 j s)) (pairs-at K);
  }

  pub recv-5 : RecvAt 5
  unfolding plain_after echo_in stays_test all_of mem since holds kept F.pairwise_seed F.pair_seed Toss.pairwise_seeds
  recv-5 past p =
      fill (due 5) (before 6) PAIRWISE p.known refl fit-pairwise
      (ap (λ (s : List ℕ). Toss.pairwise_seeds f s (m 5)) (pairs-at p.known))

  -- ---- `fabitn`: round 6
  fit-key-sums : fits KEY_SUMS
  unfolding holds size_of sizes Fabitn.key_sums
  fit-key-sums = (omega arith, λ i li. length-cells f 120 16 _ (λ k j lk ne lj. length-bytes_of _))

  pub send-6 : SendAt 6
  unfolding stays_test all_of mem since holds held written F.sent F.sent6
  send-6 = record {
    keeps = λ past z w K. fill (before 6) (due 6) KEY_SUMS K refl fit-key-sums (ap (Fabitn.key_sums f S.strings) (bits_at K));
    writes = λ past z w K j lj ne. ap (λ (s : List ℕ). Fabitn.abit_msg f S.strings s j) (bits_at K);
  }

  pub recv-6 : RecvAt 6
  unfolding plain_after echo_in stays_test all_of mem since kept
  recv-6 past p = stays (due 6) (before 8) p.known refl

  -- ---- `fashare`: rounds 8, 10, 12
  fit-share-comms : Formed 8 → fits SHARE_COMMS
  unfolding holds size_of sizes kind_of count_due Fashare.comm_rows
  fit-share-comms formed = (
    omega arith,
    λ i li. length-rows f (40 * 96) _ (λ k lk ne. row-long 40 96 (m 8 k) (fixed 96 0 40 (m 8 k) (formed k lk ne)).fits),
  )

  -- the dms were accepted
  formed-10 : Formed 10 → (k : ℕ) → k < f.n → f.i ≢ k → form_of Dms 40 (m 10 k) ≡ 0
  unfolding kind_of count_due
  formed-10 formed = formed

  clean-10 : (w : List ℕ) → Judged 10 w → (Fashare.ver_faults f (at f SHARE_COMMS w) (m 10)).code ≡ 0
  unfolding judge
  clean-10 w judged = judged

  -- round 10, once round 12's messages are made
  tenth : Past 12 → Passed 10
  unfolding echo_in mem
  tenth past = past 10 (omega arith) (omega arith) refl

  fit-dms : Formed 10 → (w : List ℕ) → Judged 10 w → fits DMS
  unfolding holds size_of sizes
  fit-dms formed w judged = (omega arith, λ i li. length-dms f (m 10) (formed-10 formed) (at f SHARE_COMMS w) (clean-10 w judged))

  pub send-8 : SendAt 8
  unfolding stays_test all_of mem since held written F.sent F.sent8
  send-8 = record {
    keeps = λ past z w K. stays (before 8) (due 8) K refl;
    writes = λ past z w K j lj ne. ap₂ (Fashare.comm_msg f) (delta-is K) (bits_at K);
  }

  pub recv-8 : RecvAt 8
  unfolding plain_after echo_in stays_test all_of mem since holds kept
  recv-8 past p = fill (due 8) (before 10) SHARE_COMMS p.known refl (fit-share-comms p.formed) refl

  pub send-10 : SendAt 10
  unfolding stays_test all_of mem since held written F.sent F.sent10
  send-10 = record {
    keeps = λ past z w K. stays (before 10) (due 10) K refl;
    writes = λ past z w K j lj ne. ap (Fashare.ver_msg f) (bits_at K);
  }

  pub recv-10 : RecvAt 10
  unfolding plain_after echo_in stays_test all_of mem since holds kept
  recv-10 past p = fill (due 10) (before 12) DMS p.known refl (fit-dms p.formed p.work p.judged) refl

  pub send-12 : SendAt 12
  unfolding stays_test all_of mem since held written F.sent
  send-12 = record {
    keeps = λ past z w K. stays (before 12) (due 12) K refl;
    writes = λ past z w K j lj ne.
        let p : Passed 10 = tenth past in
        (λ e. Fashare.dibi_msg f (delta-is K e) (bits_at K e) (dms-at K refl e))
        ∙ msg-12 S (formed-10 p.formed) (at f SHARE_COMMS p.work) (clean-10 p.work p.judged);
  }

  pub recv-12 : RecvAt 12
  unfolding plain_after echo_in stays_test all_of mem since kept
  recv-12 past p = stays (due 12) (before 14) p.known refl

  -- ---- `fhaand`: round 14
  fit-leaky : fits LEAKY
  unfolding holds size_of sizes
  fit-leaky = (omega arith, λ i li. length-leaky_rows f (F.delta S) a.bits)

  fit-zs : fits ZS
  unfolding holds size_of sizes
  fit-zs = (omega arith, λ i li. length-z_rows f a.masks a.bits (m 14))

  pub send-14 : SendAt 14
  unfolding stays_test all_of mem since holds held written F.sent F.sent14
  send-14 = record {
    keeps = λ past z w K. fill (before 14) (due 14) LEAKY K refl fit-leaky (ap₂ (Haand.leaky_rows f) (delta-is K) (bits_at K));
    writes = λ past z w K j lj ne. (λ e. Haand.haand_msg f (delta-is K e) (masks-at K e) (bits_at K e) j);
  }

  pub recv-14 : RecvAt 14
  unfolding plain_after echo_in stays_test all_of mem since holds kept
  recv-14 past p =
      fill (due 14) (before 15) ZS p.known refl fit-zs
      (ap₂ (λ (s t : List ℕ). Haand.z_rows f s t (m 14)) (masks-at p.known) (bits_at p.known))

  -- ---- `flaand`: rounds 15, 17, 19
  fit-es : fits ES
  unfolding holds size_of sizes
  fit-es = (omega arith, λ i li. length-es f (m 15))

  fit-hs : fits HS
  unfolding holds size_of sizes
  fit-hs = (omega arith, λ i li. length-hs S I)

  fit-h-comms : Formed 17 → fits H_COMMS
  unfolding holds size_of sizes kind_of count_due Flaand.comm_rows
  fit-h-comms formed = (
    omega arith,
    λ i li. length-rows f (leaky f.l * 32) _
        (λ k lk ne. row-long (leaky f.l) 32 (m 17 k) (fixed 32 0 (leaky f.l) (m 17 k) (formed k lk ne)).fits),
  )

  pub send-15 : SendAt 15
  unfolding stays_test all_of mem since held written F.sent
  send-15 = record {
    keeps = λ past z w K. stays (before 15) (due 15) K refl;
    writes = λ past z w K j lj ne.
        (λ e. Flaand.flaand_msg f (bits_at K e) (leaky-at K refl e) (zs-at K refl e) j) ∙ msg-15 S I j lj ne;
  }

  pub recv-15 : RecvAt 15
  unfolding plain_after echo_in stays_test all_of mem since holds kept
  recv-15 past p =
      let K = p.known in
      keep_two f.n f.l vals (due 15) (before 17) f.i I.own K HS ES _ _ refl fit-hs fit-es
      ((λ e. Flaand.hs f (delta-is K e) (bits_at K e) (leaky-at K refl e) (zs-at K refl e) (m 15)) ∙ hs-read S I) refl

  -- the own commitments wait in the own row
  own-long : (w : List ℕ) → At (before 17) w → length (Flaand.own_comms f (at f HS w) (at f H_COMMS w)) ≡ size_of f H_COMMS
  unfolding at size_of sizes
  own-long w K = length-own_comms f (at f HS w) (at f H_COMMS w) I.own (length-sec (size_of f) SECTIONS w K.long H_COMMS (omega arith))

  pub send-17 : SendAt 17
  unfolding stays_test all_of mem since held written F.sent
  send-17 = record {
    keeps = λ past z w K.
        keep-free f.n f.l vals (before 17) (due 17) f.i I.own K H_COMMS _ refl (omega arith) refl (own-long w K);
    writes = λ past z w K j lj ne. ap (Flaand.comm_msg f) (hs-at K refl) ∙ msg-17 S I;
  }

  pub recv-17 : RecvAt 17
  unfolding plain_after echo_in stays_test all_of mem since holds kept
  recv-17 past p = fill (due 17) (before 19) H_COMMS p.known refl (fit-h-comms p.formed) refl

  pub send-19 : SendAt 19
  unfolding stays_test all_of mem since held written F.sent
  send-19 = record {
    keeps = λ past z w K. stays (before 19) (due 19) K refl;
    writes = λ past z w K j lj ne. ap (Flaand.hash_msg f) (hs-at K refl) ∙ msg-19 S I;
  }

  pub recv-19 : RecvAt 19
  unfolding plain_after echo_in stays_test all_of mem since kept
  recv-19 past p = stays (due 19) (before 21) p.known refl

  -- ---- buckets: round 21
  fit-perm : fits PERM
  unfolding holds size_of sizes
  fit-perm = (omega arith, λ i li. length-perm f (F.joint_seed S))

  fit-ds : fits DS
  unfolding holds size_of sizes
  fit-ds = (omega arith, λ i li. length-ds S I)

  fit-triples : fits TRIPLES
  unfolding holds size_of sizes triple_rows
  fit-triples = (omega arith, λ i li. length-triples f (F.abc S))

  pub send-21 : SendAt 21
  unfolding stays_test all_of mem since holds held written F.sent
  send-21 = record {
    keeps = λ past z w K. fill (before 21) (due 21) PERM K refl fit-perm (ap (Buckets.perm_bytes f) (joint-at K refl));
    writes = λ past z w K j lj ne.
        ap₂ (λ (s t : List ℕ). Buckets.dvalue_msg f s t j) (bits_at K) (perm_at K refl) ∙ msg-21 S I j;
  }

  pub recv-21 : RecvAt 21
  unfolding plain_after echo_in stays_test all_of mem since holds kept
  recv-21 past p =
      let K = p.known in
      fill (due 21) (before 22) DS K refl fit-ds
      (ap₂ (λ (s t : List ℕ). Buckets.ds f s t (m 21)) (bits_at K) (perm_at K refl) ∙ ds-is S I)

  -- ---- `beaver_aand`: round 22
  pub send-22 : SendAt 22
  unfolding stays_test all_of mem since holds held written F.sent
  send-22 = record {
    keeps = λ past z w K. fill (before 22) (due 22) TRIPLES K refl fit-triples
        ((λ e. Buckets.triple_rows f (delta-is K e) (bits_at K e) (zs-at K refl e) (es-at K refl e) (perm_at K refl e) (ds-at K refl e))
        ∙ triples-are S I);
    writes = λ past z w K j lj ne.
        (λ e. Beaver.faand_msg f (bits_at K e) (perm_at K refl e) (triples-at K refl e) (alpha-at K e) (beta-at K e) j)
        ∙ msg-22 S I j lj ne;
  }

  pub last-22 : LastAt 22
  last-22 past p =
      let K = p.known in
      (λ e. Beaver.results f (bits_at K e) (perm_at K refl e) (triples-at K refl e) (alpha-at K e) (beta-at K e) (m 22))
      ∙ results-are S I
