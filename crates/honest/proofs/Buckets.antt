-- Round 21, `dvalue`, in an honest run: the permutation is read back, every MAC of d fits, all boxes open the same d, and what TRIPLES
-- holds is read back as shares of an AND.
use Rattle.std.specs.Prelude.{◌≡◌, Bool, true, ◌≢◌, take, drop}
use Rattle.std.proofs.Math.Path.{refl, sym, ap, ap₂, subst}
use Rattle.std.proofs.Common.{◌∙◌, add-zero, take_at, drop_at, get_or-take, get_or-drop}
use mathlib.Core.List.{List, [], ◌∷◌, ◌++◌, append_assoc, append-nil}
use Prim.Native.Nat.{ℕ, suc, ◌+◌, ◌-◌, ◌*◌, ◌^◌, ◌<◌, ◌≤◌}
use native.Mathlib.Omega.{arith}
use Rattle.std.proofs.Math.ListN.{length, get_or}
use Rattle.std.proofs.Math.Seq.{get_or-append-add}
use Rattle.lists.specs.Pick.{pick}
use Rattle.lists.specs.All.{all_of, all_of_lem}
use Rattle.lists.specs.Over.{tab, cat, length-tab, get_or-tab, length-cat}
use Rattle.lists.specs.Rows.{cat-ext, tab-ext}
use Rattle.lists.specs.Bytes.{Bytes, bytes-append, bytes-cat}
use Rattle.algebra.specs.Group.{bits, addb, addb-comm, sel, odd, num, odd-num}
use Rattle.algebra.specs.Sum.{sum, others, others-ext, others-all}
use Rattle.algebra.specs.Bucket.{bucket_x, bucket_z}
use Rattle.algebra.specs.Share.{Shared, shared, total, Good, good-op, Triple, bucket}
use Rattle.block.specs.declared.Block.{Block}
use Rattle.block.specs.Block.{block_at, le8, bytes_of, Small}
use Rattle.block.specs.Group.{blocks, eq_block_lem}
use Rattle.block.specs.Trip.{length-le8, length-bytes_of, block-bytes_of, block-drop, block-take}
use Rattle.share.specs.Record.{record_len}
use Rattle.share.specs.Share.{Share, shares, record_of}
use Rattle.share.specs.ShareLaws.{SmallShare, small-share-op, Agree, bytes-record_of}
use Rattle.share.specs.Parties.{share_of, share-of-op}
use Rattle.message.specs.declared.Kind.TheVariants.{Dvalues}
use Rattle.message.specs.Format.{form_of}
use Rattle.encode.specs.Encode.{encode, dvalue_item}
use Rattle.encode.specs.Coded.{ds, macs, length-ds, length-dvalue, coded-dvalue, length-encode}
use Rattle.encode.specs.RoundTrip.{trip, even-item}
use Rattle.plan.specs.Plan.{kind_of, count_due, list_len, msg_len, leaky, bucket_size, bits_count}
use Rattle.plan.specs.PlanLaws.{bucket-high}
use Rattle.engine.specs.StepLaws.{by-none}
use Rattle.engine.specs.Area.{mem}
use Rattle.engine.specs.Sheet.{stays_test, Mail}
use Rattle.engine.specs.Order.{echo_in}
use Rattle.engine.specs.Honest.{before, due, plain_after}
use Rattle.rounds.specs.Area.{PERM, DS, sizes, size_of}
use Rattle.rounds.specs.Table.{judge, kept, held, written}
use Rattle.rounds.specs.Haand.{x, y}
use Rattle.rounds.specs.Buckets.{order, perm_bytes, entry, later, d, dvalue_msg, bucket_at, d_told, d_mac_told, d_faults, d_opened, leaky_and, abc, triple_row}
use Rattle.rounds.specs.Buckets.{triple_rows}
use Rattle.rounds.specs.Buckets as B
use Rattle.rounds.specs.Beaver as Beaver
use Rattle.alone.specs.Cells.{row-byte, row_block}
use Rattle.alone.proofs.BucketsLaws.{length-perm, first-in, later-in, all_in, place-below, entry_read, combine-ext, SmallTriple}
use Rattle.alone.proofs.BucketsLaws as A
use Rattle.honest.specs.Script as S
use Rattle.honest.specs.Inputs.{Run, box, Boxes, joint_of, order_of, deltas, small-bits}
use Rattle.honest.specs.Base.{Receives, Sends, list-form, Fit, delta-is, joint-at, bits_at, perm_at, keep_one}
use Rattle.honest.proofs.Toss.{one-joint}
use Rattle.honest.specs.Values.{x_of, y_of, z_of, share-x, share-y, share-z, small-z, LeakyTriples}
use Rattle.honest.specs.Combining.{triple_of, combined, small-bucket-x, small-bucket-z}

-- ---- what is read of an item that stands at a place in a message
module _ (m g : List ℕ) (at size : ℕ) (here : take size (drop at m) ≡ g) where
  pub item-byte : (o : ℕ) → o < size → get_or m (at + o) 0 ≡ get_or g o 0
  item-byte o h = sym (get_or-drop at m o 0) ∙ sym (get_or-take size (drop at m) o 0 h) ∙ ap (λ (s : List ℕ). get_or s o 0) here

  pub item-block : (o : ℕ) → o + 16 ≤ size → block_at m (at + o) ≡ block_at g o
  item-block o h = sym (block-drop m at o) ∙ sym (block-take (drop at m) size o h) ∙ ap (λ (s : List ℕ). block_at s o) here

-- ---- a bucket's d values and MACs, read where they lie in an item
behind-count : (c : ℕ) (g : ℕ → List ℕ) (o : ℕ) → block_at (encode c g) (8 + o) ≡ block_at (cat c g) o
unfolding encode
behind-count c g o =
    sym (block-drop (le8 c ++ cat c g) 8 o) ∙ ap (λ (s : List ℕ). block_at s o) (drop_at (le8 c) (cat c g) 8 (length-le8 c))

module _ (c : ℕ) (b : ℕ → Bool) (x : ℕ → Block) (e : ℕ) (le : e < c) where
  dvalue-bit : get_or (dvalue_item c b x) (8 + e) 0 ≡ num (b e)
  unfolding dvalue_item encode
  dvalue-bit =
      let v : List ℕ = cat c (λ k. num (b k) ∷ []) in
      ap (λ (s : List ℕ). get_or s (8 + e) 0) (append_assoc (le8 c) v (macs c b x))
      ∙ ap (λ a. get_or (le8 c ++ (v ++ macs c b x)) (a + e) 0) (sym (length-le8 c))
      ∙ get_or-append-add (le8 c) (v ++ macs c b x) e 0
      ∙ sym (get_or-take c (v ++ macs c b x) e 0 le)
      ∙ ap (λ (s : List ℕ). get_or s e 0) (take_at v (macs c b x) c (let q : c * 1 ≡ c = omega arith in length-cat c 1 _ (λ t l. refl) ∙ q))
      ∙ ap (λ a. get_or v a 0) (let q : e ≡ e * 1 + 0 = omega arith in q)
      ∙ row-byte 1 c (λ k. num (b k) ∷ []) (λ t l. refl) e 0 le (omega arith)

  dvalue-mac : Small (x e) → block_at (dvalue_item c b x) (8 + c + (8 + e * 16)) ≡ x e
  unfolding dvalue_item
  dvalue-mac s =
      let v : List ℕ = cat c (λ k. bytes_of (x k)) in
      sym (block-drop (ds c b x ++ macs c b x) (8 + c) (8 + e * 16))
      ∙ ap (λ (s : List ℕ). block_at s (8 + e * 16)) (drop_at (ds c b x) (macs c b x) (8 + c) (length-ds c b x))
      ∙ behind-count c (λ k. bytes_of (x k)) (e * 16)
      ∙ ap (block_at v) (sym (add-zero (e * 16)))
      ∙ row_block 16 c (λ k. bytes_of (x k)) (λ t l. length-bytes_of (x t)) e 0 le (omega arith)
      ∙ ap (λ (s : List ℕ). block_at s 0) (sym (append-nil (bytes_of (x e)))) ∙ block-bytes_of (x e) [] s

-- a message of l buckets
module _ (l c : ℕ) (b : ℕ → ℕ → Bool) (x : ℕ → ℕ → Block) (small : l < 2 ^ 64) (few : c < 2 ^ 64) (j e : ℕ) (lj : j < l) (le : e < c) where
  abbrev size : ℕ
  size = 8 + c + (8 + 16 * c)

  abbrev msg : List ℕ
  msg = encode l (λ j. dvalue_item c (b j) (x j))

  item : take size (drop (8 + j * size) msg) ≡ dvalue_item c (b j) (x j)
  item =
      even-item (Dvalues c) size l (λ j. dvalue_item c (b j) (x j))
      (λ t lt. length-dvalue c (b t) (x t) ∙ (let q : 16 + c * 17 ≡ 8 + c + (8 + 16 * c) = omega arith in q)) msg
      (trip (Dvalues c) l (λ j. dvalue_item c (b j) (x j)) small (λ t lt. coded-dvalue c (b t) (x t) few)) j lj

  split : (a : ℕ) → a + 8 + e ≡ a + (8 + e)
  split a = omega arith

  split-mac : (a : ℕ) → a + 8 + c + 8 + e * 16 ≡ a + (8 + c + (8 + e * 16))
  split-mac a = omega arith

  bit-read : odd (get_or (encode l (λ j. dvalue_item c (b j) (x j))) (8 + j * (8 + c + (8 + 16 * c)) + 8 + e) 0) ≡ b j e
  bit-read =
      ap odd
      (ap (λ a. get_or msg a 0) (split (8 + j * size)) ∙ item-byte msg _ (8 + j * size) size item (8 + e) (omega arith)
      ∙ dvalue-bit c (b j) (x j) e le)
      ∙ odd-num (b j e)

  mac-read : Small (x j e)
      → block_at (encode l (λ j. dvalue_item c (b j) (x j))) (8 + j * (8 + c + (8 + 16 * c)) + 8 + c + 8 + e * 16) ≡ x j e
  mac-read s =
      ap (block_at msg) (split-mac (8 + j * size)) ∙ item-block msg _ (8 + j * size) size item (8 + c + (8 + e * 16)) (omega arith)
      ∙ dvalue-mac c (b j) (x j) e le s

-- ---- the values
-- how many later entries a bucket has
abbrev pub more : ℕ → ℕ
more l = bucket_size l - 1

module _ (R : Run) where
  open R use {n, l}

  -- entry e of bucket j
  abbrev pub place : ℕ → ℕ → ℕ
  place j e = get_or (order_of R) (j * bucket_size l + e) 0

  abbrev pub x_in : ℕ → ℕ → Shared Block
  x_in j e = x_of R (place j e)

  abbrev pub y_in : ℕ → ℕ → Shared Block
  y_in j e = y_of R (place j e)

  abbrev pub z_in : ℕ → ℕ → Shared Block
  z_in j e = z_of R (place j e)

  -- "d = first y + later y"
  abbrev pub d_of : ℕ → ℕ → Shared Block
  d_of j e = (shared blocks).op (y_in j 0) (y_in j (suc e))

  -- the combined x and z: a and c of bucket j; b is its first y
  abbrev pub a_of : ℕ → Shared Block
  a_of j = bucket_x (shared blocks) (x_in j) (more l)

  abbrev pub b_of : ℕ → Shared Block
  b_of j = y_in j 0

  abbrev pub c_of : ℕ → Shared Block
  c_of j = bucket_z (shared blocks) (x_in j) (z_in j) (λ e. total n (d_of j e)) (more l)

-- the own bit and those told by all others are the XOR of all
pub open_all_lem : (i n : ℕ) (v : ℕ → Bool) (own : Bool) (told : ℕ → Bool) → i < n → own ≡ v i → ((k : ℕ) → k < n → i ≢ k → told k ≡ v k)
    → addb own (others bits i n told) ≡ sum bits n v
open_all_lem i n v own told li e h =
    ap₂ addb e (others-ext bits i n told v h) ∙ addb-comm (v i) (others bits i n v) ∙ others-all bits i n v li

pub passes : (code : ℕ) (b : Bool) → b ≡ true → pick b 0 code ≡ 0
passes code b e = rw e refl

module _ (R : Run) (X : Boxes R) where
  open R use {n, l, inputs}

  abbrev perm : ℕ → List ℕ
  perm i = S.perms R i

  -- ---- the entries
  place-low : (j e : ℕ) → j < l → e < bucket_size l → place R j e < leaky l
  place-low j e lj le = place-below (box R 0) (joint_of R) X.range.most j e lj le

  -- all boxes have the same, since they hold one joint seed
  pub entry-is : (i j e : ℕ) → i < n → j < l → e < bucket_size l → entry (box R i) (perm i) j e ≡ place R j e
  unfolding S.perms order
  entry-is i j e li lj le =
      ap (λ (s : List ℕ). entry (box R i) (perm_bytes (box R i) s) j e) (one-joint R X i li)
      ∙ entry_read (box R i) (joint_of R) X.range.most j e lj le

  -- ---- d
  d-share : (i j e : ℕ) → i < n → j < l → e < more l → d (box R i) (inputs i).bits (perm i) j e ≡ share_of i (d_of R j e)
  unfolding d
  d-share i j e li lj le =
      ap₂ (λ a b. shares.op (y (box R i) (inputs i).bits a) (y (box R i) (inputs i).bits b))
      (entry-is i j 0 li lj (first-in l)) (entry-is i j (suc e) li lj (later-in l e le))
      ∙ sym (ap₂ shares.op (share-y R i (place R j 0)) (share-y R i (place R j (suc e))))
      ∙ sym (share-of-op i (y_in R j 0) (y_in R j (suc e)))

  pub good-y : (j e : ℕ) → j < l → e < bucket_size l → Good blocks n (deltas R) (y_in R j e)
  unfolding bits_count
  good-y j e lj le = X.bits-mac (leaky l + place R j e) (omega (arith, place-low j e lj le))

  good-d : (j e : ℕ) → j < l → e < more l → Good blocks n (deltas R) (d_of R j e)
  good-d j e lj le =
      good-op blocks n (deltas R) (y_in R j 0) (y_in R j (suc e)) (good-y j 0 lj (first-in l)) (good-y j (suc e) lj (later-in l e le))

  small-d : (i j e : ℕ) → i < n → SmallShare n (d (box R i) (inputs i).bits (perm i) j e)
  unfolding d y
  small-d i j e li = small-share-op n _ _ (small-bits R X i li _) (small-bits R X i li _)

  -- ---- the messages
  pub l-small : l < 2 ^ 64
  l-small = omega (arith, X.range.most)

  more-small : more l < 2 ^ 64
  more-small = omega (arith, bucket-high l)

  dvalue-len : (j r : ℕ) → length (S.sent21 R j r) ≡ msg_len n l 21
  unfolding S.sent21 dvalue_msg later msg_len list_len kind_of count_due
  dvalue-len j r =
      length-encode (8 + more l + (8 + 16 * more l)) l _
      (λ t i. length-dvalue (more l) _ _ ∙ (let q : 16 + more l * 17 ≡ 8 + more l + (8 + 16 * more l) = omega arith in q))

  dvalue-form : (j r : ℕ) → form_of (kind_of l 21) (count_due n l 21) (S.sent21 R j r) ≡ 0
  unfolding S.sent21 dvalue_msg later kind_of count_due
  dvalue-form j r = list-form (Dvalues (more l)) l _ l-small (λ t i. coded-dvalue (more l) _ _ more-small)

  module _ (i k j e : ℕ) (li : i < n) (lk : k < n) (lj : j < l) (le : e < more l) (m : ℕ → List ℕ)
      (h : m k ≡ S.sent21 R k i) where
    told : d_told (box R i) m k j e ≡ (d_of R j e).bit k
    unfolding d_told bucket_at later S.sent21 dvalue_msg share_of
    told =
        ap (λ (s : List ℕ). odd (get_or s (8 + j * (8 + more l + (8 + 16 * more l)) + 8 + e) 0)) h
        ∙ bit-read l (more l) (λ j e. (d (box R k) (inputs k).bits (perm k) j e).bit)
        (λ j e. (d (box R k) (inputs k).bits (perm k) j e).mac i) l-small more-small j e lj le
        ∙ ap (λ (s : Share). s.bit) (d-share k j e lk lj le)

    mac-told : d_mac_told (box R i) m k j e ≡ (d_of R j e).mac k i
    unfolding d_mac_told bucket_at later S.sent21 dvalue_msg share_of
    mac-told =
        ap (λ (s : List ℕ). block_at s (8 + j * (8 + more l + (8 + 16 * more l)) + 8 + more l + 8 + e * 16)) h
        ∙ mac-read l (more l) (λ j e. (d (box R k) (inputs k).bits (perm k) j e).bit)
        (λ j e. (d (box R k) (inputs k).bits (perm k) j e).mac i) l-small more-small j e lj le ((small-d k j e lk).mac i li)
        ∙ ap (λ (s : Share). s.mac i) (d-share k j e lk lj le)

    fits : i ≢ k
        → d_mac_told (box R i) m k j e
        ≡ blocks.op ((d (box R i) (inputs i).bits (perm i) j e).key k) (sel blocks (d_told (box R i) m k j e) (deltas R i))
    unfolding share_of
    fits ne =
        mac-told ∙ good-d j e lj le k i lk li (λ z. ne (sym z))
        ∙ ap₂ (λ (a : Block) (b : Bool). blocks.op a (sel blocks b (deltas R i)))
        (ap (λ (s : Share). s.key k) (sym (d-share i j e li lj le))) (sym told)

  d-passes : (i : ℕ) → i < n → (m : ℕ → List ℕ) → Mail n (S.sent21 R) i m
      → (d_faults (box R i) (deltas R i) (inputs i).bits (perm i) m).code ≡ 0
  unfolding d_faults later
  d-passes i li m M =
      by-none (box R i) _ (λ k lk ne. passes 11 _
      (all_of_lem l _ (λ j lj. all_of_lem (more l) _ (λ e le. eq_block_lem _ _ (fits i k j e li lk lj le m (M k lk ne) ne)))))

  -- ---- what is opened: all boxes have the XOR of all bits
  opened-is : (i j e : ℕ) → i < n → j < l → e < more l → (m : ℕ → List ℕ) → Mail n (S.sent21 R) i m
      → d_opened (box R i) (inputs i).bits (perm i) m j e ≡ total n (d_of R j e)
  unfolding d_opened share_of
  opened-is i j e li lj le m M =
      open_all_lem i n (d_of R j e).bit _ (λ k. d_told (box R i) m k j e) li (ap (λ (s : Share). s.bit) (d-share i j e li lj le))
      (λ k lk ne. told i k j e li lk lj le m (M k lk ne))

  ds-is : (i : ℕ) → i < n → (m : ℕ → List ℕ) → Mail n (S.sent21 R) i m
      → B.ds (box R i) (inputs i).bits (perm i) m ≡ cat l (λ j. tab (more l) (λ e. num (total n (d_of R j e))))
  unfolding B.ds later
  ds-is i li m M =
      cat-ext l _ _ (λ j lj. tab-ext (more l) _ _ (λ e le. ap num (opened-is i j e li lj le m M)))

  -- what DS holds
  pub ds-value : (i : ℕ) → i < n → S.ds R i ≡ cat l (λ j. tab (more l) (λ e. num (total n (d_of R j e))))
  unfolding S.ds
  ds-value i li = ds-is i li _ (λ k lk ne. refl)

  pub ds-read : (i j e : ℕ) → i < n → j < l → e < more l → odd (get_or (S.ds R i) (j * more l + e) 0) ≡ total n (d_of R j e)
  ds-read i j e li lj le =
      let row : ℕ → List ℕ = λ j. tab (more l) (λ e. num (total n (d_of R j e))) in
      ap (λ (s : List ℕ). odd (get_or s (j * more l + e) 0)) (ds-value i li)
      ∙ ap odd (row-byte (more l) l row (λ t lt. length-tab (more l) _) j e lj le ∙ get_or-tab (more l) e _ 0 le)
      ∙ odd-num (total n (d_of R j e))

  -- ---- the round
  fit-perm : Fit R PERM
  unfolding S.holds S.perms size_of sizes
  fit-perm = (omega arith, λ i li. length-perm (box R i) (S.joint R i))

  fit-ds : Fit R DS
  unfolding S.holds size_of sizes
  fit-ds = (
    omega arith,
    λ i li. ap length (ds-value i li) ∙ length-cat l (more l) _ (λ j lj. length-tab (more l) _),
  )

  pub send-21 : Sends R 21
  unfolding stays_test all_of mem S.since S.holds S.perms S.sent S.sent21 held written
  send-21 = record {
    keeps = λ i li w K. keep_one R (before 21) (due 21) i li K PERM _ refl fit-perm (ap (perm_bytes (box R i)) (joint-at R K refl));
    writes = λ i r li lr ne w K.
        ap₂ (λ (a b : List ℕ). dvalue_msg (box R i) a b r) (bits_at R K) (perm_at R K refl);
  }

  pub recv-21 : Receives R 21
  unfolding plain_after echo_in mem stays_test all_of S.since S.holds S.sent judge kept
  recv-21 = record {
    heard = record {
      lens = λ j r lj lr ne. dvalue-len j r;
      formed = λ i j li lj ne. dvalue-form j i;
      judged = λ i li w K m M.
          (λ q. (d_faults (box R i) (delta-is R K q) (bits_at R K q) (perm_at R K refl q) m).code)
          ∙ d-passes i li m M;
    };
    keeps = λ i li w K m M. keep_one R (due 21) (before 22) i li K DS _ refl fit-ds
        (ap₂ (λ (a b : List ℕ). B.ds (box R i) a b m) (bits_at R K) (perm_at R K refl)
        ∙ ds-is i li m M ∙ sym (ds-value i li));
  }

  -- ---- what TRIPLES holds
  abbrev xs : ℕ → ℕ → Shared Block
  xs = x_in R

  abbrev ys : ℕ → ℕ → Shared Block
  ys = y_in R

  abbrev zs : ℕ → ℕ → Shared Block
  zs = z_in R

  abbrev opened : ℕ → ℕ → Bool
  opened j e = total n (d_of R j e)

  abbrev own : ℕ → ℕ → B.Triple
  own i = abc (box R i) (deltas R i) (inputs i).bits (S.z_rows R i) (S.es R i) (perm i)
      (S.ds R i)

  -- each box combines its shares of a and c
  abc-is : (i j : ℕ) → i < n → j < l
      → own i j
      ≡ record {
        tx = share_of i (a_of R j);
        ty = share_of i (b_of R j);
        tz = share_of i (c_of R j);
      }
  unfolding abc later leaky_and
  abc-is i j li lj =
      combine-ext _ (triple_of (xs j) (ys j) (zs j) i) _ _ (more l) entry-triple (λ e le. ds-read i j e li lj le)
      ∙ combined (xs j) (ys j) (zs j) (opened j) i (more l)
    where
      at_place : ℕ → B.Triple
      at_place t = record {
        tx = x (box R i) (inputs i).bits t;
        ty = y (box R i) (inputs i).bits t;
        tz = B.z_share (box R i) (deltas R i) (inputs i).bits (S.z_rows R i) (S.es R i) t;
      }

      entry-triple : (e : ℕ) → e < suc (more l)
          → leaky_and (box R i) (deltas R i) (inputs i).bits (S.z_rows R i) (S.es R i) (perm i) j e
          ≡ triple_of (xs j) (ys j) (zs j) i e
      entry-triple e le =
          ap at_place (entry-is i j e li lj (all_in l e le))
          ∙ (λ q. record {
            tx = sym (share-x R i (place R j e)) q;
            ty = sym (share-y R i (place R j e)) q;
            tz = sym (share-z R i (place R j e)) q;
          })

  pub length-triples : (i : ℕ) → length (S.triple_rows R i) ≡ l * (2 * record_len n)
  unfolding S.triple_rows B.triple_rows
  length-triples i = A.length-triples (box R i) (own i)

  pub bytes-triples : (i : ℕ) → Bytes (S.triple_rows R i)
  unfolding S.triple_rows triple_rows triple_row
  bytes-triples i = bytes-cat l _ (λ j lj.
      bytes-append (record_of n i (own i j).tx) (record_of n i (own i j).tz)
      (bytes-record_of n i (own i j).tx) (bytes-record_of n i (own i j).tz))

  small-x : (i j e : ℕ) → i < n → SmallShare n (share_of i (xs j e))
  unfolding x
  small-x i j e li = rw (share-x R i (place R j e)) (small-bits R X i li _)

  pub small-a : (i j : ℕ) → i < n → SmallShare n (share_of i (a_of R j))
  small-a i j li = small-bucket-x (xs j) (ys j) (zs j) (opened j) i (more l) n (λ e le. small-x i j e li)

  pub small-c : (i j : ℕ) → i < n → SmallShare n (share_of i (c_of R j))
  small-c i j li =
      small-bucket-z (xs j) (ys j) (zs j) (opened j) i (more l) n (λ e le. small-x i j e li) (λ e le. small-z R X i li (place R j e))

  -- read back
  small-own : (i j : ℕ) → i < n → j < l → SmallTriple n (own i j)
  small-own i j li lj =
      subst (SmallTriple n) (sym (abc-is i j li lj)) (record { tx = small-a i j li; tz = small-c i j li })

  pub a_read : (i j : ℕ) → i < n → j < l → Agree n i (Beaver.a (box R i) (S.triple_rows R i) j) (share_of i (a_of R j))
  unfolding S.triple_rows triple_rows
  a_read i j li lj =
      subst (λ (g : B.Triple). Agree n i (Beaver.a (box R i) (S.triple_rows R i) j) g.tx) (abc-is i j li lj)
      (A.a_read (box R i) (own i) j lj (small-own i j li lj))

  pub c_read : (i j : ℕ) → i < n → j < l → Agree n i (Beaver.c (box R i) (S.triple_rows R i) j) (share_of i (c_of R j))
  unfolding S.triple_rows triple_rows
  c_read i j li lj =
      subst (λ (g : B.Triple). Agree n i (Beaver.c (box R i) (S.triple_rows R i) j) g.tz) (abc-is i j li lj)
      (A.c_read (box R i) (own i) j lj (small-own i j li lj))

  -- c is the AND of a and b
  pub abc-triple : LeakyTriples R → (j : ℕ) → j < l → Triple blocks n (deltas R) (a_of R j) (b_of R j) (c_of R j)
  abc-triple L j lj =
      bucket blocks n (deltas R) (xs j) (ys j) (zs j) (more l)
      (λ e le. L (place R j e) (place-low j e lj (all_in l e le)))
