-- What every round's proof of an honest run needs. How to use it, for round k in a section `module _ (R : Run) (X : Boxes R) where`
-- (Toss.antt is an example):
--  * `Table.judge k`, `kept k`, `held k`, `written k` and Script's `sent`, `since`, `holds` are chains of tests on a number: at a numeral
--    they compute under `unfolding judge kept held written sent since holds` (and `kind_of count_due` of Plan for form and length).
--  * a section of a Known work area: `bits_at R K : at (box R i) BITS w ≡ (R.inputs i).bits`. For a section that a round fills
--    there is one argument more, that it is ready: `comms-at R K refl`, computed at the moments `due 3`, `before 4`, ..
--  * what is kept: `keep_one`, `keep_two`, `keep-none`. Their tests are closed by `refl` under `unfolding stays_test all_of mem since`.
--  * messages: `rows_ext` of alone/Base, `by-ext` of engine/StepLaws, `first-ext` of rounds/FaultLaws and `others-ext` of algebra/Sum turn a definition on `m` into the one
--    on the script's mail; `by-none` of engine/StepLaws, `first-none` of rounds/FaultLaws show that a check passes.
--  * a message that is a list: `list-form`, `list-len` from Coded items (encode/Coded), `trip` of encode/RoundTrip for what is read
--    of it: it is used to its last byte.
use Rattle.std.specs.Prelude.{◌≡◌, true, false, ℕ, ◌^◌, ◌<◌, length, leb, ltb}
use Rattle.std.proofs.Math.Path.{refl, ap}
use mathlib.Core.List.{List, [], ◌∷◌}
use Rattle.std.proofs.Common.{arith, le-leb}
use Rattle.block.specs.Block.{block_at}
use Rattle.message.specs.declared.Kind.{Kind}
use Rattle.message.specs.declared.Kind.TheVariants.{Items}
use Rattle.message.specs.Format.{form_of}
use Rattle.encode.specs.Encode.{encode}
use Rattle.encode.specs.Coded.{Coded, length-encode}
use Rattle.encode.specs.RoundTrip.{trip}
use Rattle.plan.specs.Plan.{list_len}
use Rattle.engine.specs.Sheet.{Store, Known, stays_test}
use Rattle.engine.specs.Honest.{before, due, store_of, SendAt, RecvAt, ListAt, LastAt}
use Rattle.rounds.specs.Area.{DELTA, SEED, PAIRS, MASKS, BITS, ALPHA, BETA, COMMS, JOINT, PAIR_COMMS, KEY_SUMS, SHARE_COMMS, DMS, LEAKY, ZS, ES}
use Rattle.rounds.specs.Area.{HS, H_COMMS, PERM, DS, TRIPLES, ROUNDS_OWN, size_of, at, keep}
use Rattle.rounds.specs.Table.{delta}
use Rattle.alone.specs.Base.{has-at}
use Rattle.alone.specs.Base as A
use Rattle.honest.specs.Subject.{subject}
use Rattle.honest.specs.Script as S
use Rattle.honest.specs.Inputs.{Run, box}

-- ---- a message that is a list
pub list-form : (K : Kind) (c : ℕ) (g : ℕ → List ℕ) → c < 2 ^ 64 → ((t : ℕ) → t < c → Coded K (g t)) → form_of K c (encode c g) ≡ 0
list-form K c g small coded = (trip K c g small coded).form-is

pub list_len_lem : (n size bools c : ℕ) (g : ℕ → List ℕ) → ((t : ℕ) → t < c → length (g t) ≡ size)
    → length (encode c g) ≡ list_len n c (Items size bools)
unfolding list_len
list_len_lem n size bools c g h = length-encode size c g h

-- ---- the work area of a box in an honest run
module _ (R : Run) where
  open R use {n, l, inputs}

  abbrev pub stored : Store
  stored = store_of subject (S.script R) n l

  -- what a round owes (engine, Honest.antt): its messages made, received, hashed for their echo; the last one received
  abbrev pub Sends : ℕ → Type 0
  Sends k = SendAt subject (S.script R) n l k

  abbrev pub Receives : ℕ → Type 0
  Receives k = RecvAt subject (S.script R) n l k

  abbrev pub Hashes : ℕ → Type 0
  Hashes k = ListAt subject (S.script R) n l k

  abbrev pub Ends : ℕ → Type 0
  Ends k = LastAt subject (S.script R) n l k

  module _ {t i : ℕ} {w : List ℕ} (K : Known n l stored t i w) where
    has : (s : ℕ) → ltb s ROUNDS_OWN ≡ true → leb (S.since s) t ≡ true → at (box R i) s w ≡ S.holds R i s
    has s = has-at n l (S.holds R) s K

    -- what opening keeps
    pub delta-is : delta (box R i) w ≡ block_at (inputs i).delta 0
    unfolding delta S.holds S.since
    delta-is = ap (λ (x : List ℕ). block_at x 0) (has DELTA refl (le-leb 0 t (omega arith)))

    pub seed-at : at (box R i) SEED w ≡ (inputs i).seed
    unfolding S.holds S.since
    seed-at = has SEED refl (le-leb 0 t (omega arith))

    pub pairs-at : at (box R i) PAIRS w ≡ (inputs i).pairs
    unfolding S.holds S.since
    pairs-at = has PAIRS refl (le-leb 0 t (omega arith))

    pub masks-at : at (box R i) MASKS w ≡ (inputs i).masks
    unfolding S.holds S.since
    masks-at = has MASKS refl (le-leb 0 t (omega arith))

    pub bits_at : at (box R i) BITS w ≡ (inputs i).bits
    unfolding S.holds S.since
    bits_at = has BITS refl (le-leb 0 t (omega arith))

    pub alpha-at : at (box R i) ALPHA w ≡ (inputs i).alpha
    unfolding S.holds S.since
    alpha-at = has ALPHA refl (le-leb 0 t (omega arith))

    pub beta-at : at (box R i) BETA w ≡ (inputs i).beta
    unfolding S.holds S.since
    beta-at = has BETA refl (le-leb 0 t (omega arith))

    -- what a round fills, from then on
    pub comms-at : leb (before 3) t ≡ true → at (box R i) COMMS w ≡ S.comms R i
    unfolding S.holds S.since
    comms-at r = has COMMS refl r

    pub joint-at : leb (before 4) t ≡ true → at (box R i) JOINT w ≡ S.joint R i
    unfolding S.holds S.since
    joint-at r = has JOINT refl r

    pub pair-comms-at : leb (before 5) t ≡ true → at (box R i) PAIR_COMMS w ≡ S.pair_comms R i
    unfolding S.holds S.since
    pair-comms-at r = has PAIR_COMMS refl r

    pub key-sums-at : leb (due 6) t ≡ true → at (box R i) KEY_SUMS w ≡ S.key_sums R i
    unfolding S.holds S.since
    key-sums-at r = has KEY_SUMS refl r

    pub share-comms-at : leb (before 10) t ≡ true → at (box R i) SHARE_COMMS w ≡ S.share_comms R i
    unfolding S.holds S.since
    share-comms-at r = has SHARE_COMMS refl r

    pub dms-at : leb (before 12) t ≡ true → at (box R i) DMS w ≡ S.dms R i
    unfolding S.holds S.since
    dms-at r = has DMS refl r

    pub leaky-at : leb (due 14) t ≡ true → at (box R i) LEAKY w ≡ S.leaky_rows R i
    unfolding S.holds S.since
    leaky-at r = has LEAKY refl r

    pub zs-at : leb (before 15) t ≡ true → at (box R i) ZS w ≡ S.z_rows R i
    unfolding S.holds S.since
    zs-at r = has ZS refl r

    pub es-at : leb (before 17) t ≡ true → at (box R i) ES w ≡ S.es R i
    unfolding S.holds S.since
    es-at r = has ES refl r

    pub hs-at : leb (before 17) t ≡ true → at (box R i) HS w ≡ S.hs R i
    unfolding S.holds S.since
    hs-at r = has HS refl r

    pub h-comms-at : leb (before 19) t ≡ true → at (box R i) H_COMMS w ≡ S.h_comms R i
    unfolding S.holds S.since
    h-comms-at r = has H_COMMS refl r

    pub perm_at : leb (due 21) t ≡ true → at (box R i) PERM w ≡ S.perms R i
    unfolding S.holds S.since
    perm_at r = has PERM refl r

    pub ds-at : leb (before 22) t ≡ true → at (box R i) DS w ≡ S.ds R i
    unfolding S.holds S.since
    ds-at r = has DS refl r

    pub triples-at : leb (due 22) t ≡ true → at (box R i) TRIPLES w ≡ S.triple_rows R i
    unfolding S.holds S.since
    triples-at r = has TRIPLES refl r

  -- ---- what is kept: from moment t to moment u the named sections come to hold what the script says, and no other is due by u
  abbrev pub Fit : ℕ → Type 0
  Fit s = A.Fit n l (S.holds R) s

  module _ (t u i : ℕ) (li : i < n) {w : List ℕ} (K : Known n l stored t i w) where
    pub keep-none : stays_test stored t u [] ≡ true → Known n l stored u i w
    keep-none test = A.keep-none n l (S.holds R) t u i li K test

    -- what is put into a section that is not due by u is no value anybody relies on
    pub keep-free : (s : ℕ) (x : List ℕ) → stays_test stored t u [] ≡ true → s < ROUNDS_OWN → leb (S.since s) u ≡ false
        → length x ≡ size_of (box R i) s → Known n l stored u i (keep (box R i) s x w)
    keep-free s x test ls free long = A.keep-free n l (S.holds R) t u i li K s x test ls free long

    pub keep_one : (s : ℕ) (x : List ℕ) → stays_test stored t u (s ∷ []) ≡ true → Fit s → x ≡ S.holds R i s
        → Known n l stored u i (keep (box R i) s x w)
    keep_one s x test fit e = A.keep_one n l (S.holds R) t u i li K s x test fit e

    pub keep_two : (s s' : ℕ) (x x' : List ℕ) → stays_test stored t u (s ∷ s' ∷ []) ≡ true → Fit s → Fit s'
        → x ≡ S.holds R i s → x' ≡ S.holds R i s'
        → Known n l stored u i (keep (box R i) s x (keep (box R i) s' x' w))
    keep_two s s' x x' test fit fit' e e' = A.keep_two n l (S.holds R) t u i li K s s' x x' test fit fit' e e'
