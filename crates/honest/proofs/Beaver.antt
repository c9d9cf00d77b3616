-- Round 22, `faand`, in an honest run: every MAC of d and e fits, all boxes open the same d and e, and the result records hold the shares
-- of Beaver's sum.
use Rattle.std.specs.Prelude.{◌≡◌, Bool, ◌≢◌, length, get_or, take, drop}
use Rattle.std.proofs.Math.Path.{refl, sym, ap, ap₂}
use Rattle.std.proofs.Common.{◌∙◌, subst, add-zero}
use Rattle.std.proofs.Math.Bool.{◌&&◌}
use mathlib.Core.List.{List, [], ◌∷◌, ◌++◌, append-nil}
use Prim.Native.Nat.{ℕ, suc, ◌+◌, ◌*◌, ◌^◌, ◌<◌}
use native.Mathlib.Omega.{arith}
use Rattle.lists.specs.All.{all_of, all_of_lem}
use Rattle.lists.specs.Over.{cat}
use Rattle.lists.specs.Rows.{cat-ext}
use Rattle.algebra.specs.Group.{sel, odd, num, odd-num}
use Rattle.algebra.specs.Share.{Shared, shared, total, Good, good-op, beaver_out}
use Rattle.block.specs.declared.Block.{Block}
use Rattle.block.specs.Block.{block_at, bytes_of, Small}
use Rattle.block.specs.Group.{blocks, eq_block_lem}
use Rattle.block.specs.Trip.{length-bytes_of, block_at_lem}
use Rattle.share.specs.Record.{record_len}
use Rattle.share.specs.Share.{Share, shares}
use Rattle.share.specs.ShareLaws.{SmallShare, small-share-at, small-share-op, small-share-sel, Agree, agree-op, agree_refl}
use Rattle.share.specs.Lent.{lent_of}
use Rattle.share.specs.LentLaws.{agree-lent}
use Rattle.share.specs.Parties.{share_of, share-of-op, share-of-sel, share-of-at}
use Rattle.message.specs.declared.Kind.TheVariants.{Items}
use Rattle.message.specs.Format.{form_of}
use Rattle.encode.specs.Encode.{encode, two_bits_two_blocks}
use Rattle.encode.specs.Coded.{length-two_bits_two_blocks, coded-two_bits_two_blocks}
use Rattle.encode.specs.RoundTrip.{trip, even-item}
use Rattle.plan.specs.Plan.{kind_of, count_due, msg_len}
use Rattle.engine.specs.StepLaws.{by-none}
use Rattle.engine.specs.Area.{mem}
use Rattle.engine.specs.Sheet.{stays_test, Mail}
use Rattle.engine.specs.Honest.{before, due}
use Rattle.rounds.specs.Area.{TRIPLES, sizes, size_of}
use Rattle.rounds.specs.Table.{judge, held, written}
use Rattle.rounds.specs.Haand.{y}
use Rattle.rounds.specs.Buckets.{triple_rows}
use Rattle.rounds.specs.Beaver as B
use Rattle.alone.proofs.BucketsLaws.{first-in}
use Rattle.alone.proofs.BeaverLaws.{agree-finish}
use Rattle.honest.specs.Script as S
use Rattle.honest.specs.Inputs.{Run, box, Boxes, deltas, alphas_of, betas_of, small-bits, small-alpha, small-beta}
use Rattle.honest.specs.Base.{Sends, Ends, list-form, list_len_lem, Fit, delta-is, bits_at, alpha-at, beta-at, zs-at, es-at, perm_at}
use Rattle.honest.specs.Base.{ds-at, triples-at, keep_one}
use Rattle.honest.specs.Values.{share-y, LeakyTriples}
use Rattle.honest.proofs.Buckets.{item-byte, item-block, open_all_lem, passes, a_of, b_of, c_of, place, entry-is, good-y, l-small}
use Rattle.honest.proofs.Buckets.{length-triples, bytes-triples, a_read, c_read, small-a, small-c, abc-triple}

-- ---- a message of two bits and two Blocks each
module _ (c : ℕ) (p q : ℕ → Bool) (x y : ℕ → Block) (small : c < 2 ^ 64) (t : ℕ) (lt : t < c) where
  abbrev items : ℕ → List ℕ
  items t = two_bits_two_blocks (p t) (q t) (x t) (y t)

  abbrev msg : List ℕ
  msg = encode c items

  item : take 34 (drop (8 + t * 34) msg) ≡ items t
  item =
      even-item (Items 34 2) 34 c items (λ t l. length-two_bits_two_blocks (p t) (q t) (x t) (y t)) msg
      (trip (Items 34 2) c items small (λ t l. coded-two_bits_two_blocks (p t) (q t) (x t) (y t))) t lt

  first_read : odd (get_or (encode c (λ t. two_bits_two_blocks (p t) (q t) (x t) (y t))) (8 + t * 34) 0) ≡ p t
  unfolding two_bits_two_blocks
  first_read =
      ap (λ k. odd (get_or msg k 0)) (sym (add-zero (8 + t * 34)))
      ∙ ap odd (item-byte msg (items t) (8 + t * 34) 34 item 0 (omega arith)) ∙ odd-num (p t)

  second-read : odd (get_or (encode c (λ t. two_bits_two_blocks (p t) (q t) (x t) (y t))) (8 + t * 34 + 1) 0) ≡ q t
  unfolding two_bits_two_blocks
  second-read = ap odd (item-byte msg (items t) (8 + t * 34) 34 item 1 (omega arith)) ∙ odd-num (q t)

  third-read : Small (x t) → block_at (encode c (λ t. two_bits_two_blocks (p t) (q t) (x t) (y t))) (8 + t * 34 + 2) ≡ x t
  unfolding two_bits_two_blocks
  third-read s =
      item-block msg (items t) (8 + t * 34) 34 item 2 (omega arith)
      ∙ block_at_lem (num (p t) ∷ num (q t) ∷ []) (x t) (bytes_of (y t)) 2 refl s

  fourth-read : Small (y t) → block_at (encode c (λ t. two_bits_two_blocks (p t) (q t) (x t) (y t))) (8 + t * 34 + 18) ≡ y t
  unfolding two_bits_two_blocks
  fourth-read s =
      let front : List ℕ = num (p t) ∷ num (q t) ∷ bytes_of (x t) in
      item-block msg (items t) (8 + t * 34) 34 item 18 (omega arith)
      ∙ ap (λ (r : List ℕ). block_at (front ++ r) 18) (sym (append-nil (bytes_of (y t))))
      ∙ block_at_lem front (y t) [] 18 (ap (λ k. suc (suc k)) (length-bytes_of (x t))) s

-- ---- Beaver's sum, box by box
module _ (i : ℕ) (c β a : Shared Block) (p q : Bool) where
  share-finish : share_of i ((shared blocks).op ((shared blocks).op c (sel (shared blocks) p β)) (sel (shared blocks) q a))
      ≡ B.finish (share_of i c) (share_of i β) (share_of i a) p q
  unfolding B.finish
  share-finish =
      share-of-op i ((shared blocks).op c (sel (shared blocks) p β)) (sel (shared blocks) q a)
      ∙ ap₂ shares.op (share-of-op i c (sel (shared blocks) p β) ∙ ap (shares.op (share_of i c)) (share-of-sel i p β))
      (share-of-sel i q a)

module _ (n : ℕ) (c β a : Share) (p q : Bool) where
  small-finish : SmallShare n c → SmallShare n β → SmallShare n a → SmallShare n (B.finish c β a p q)
  unfolding B.finish
  small-finish hc hb ha =
      small-share-op n (shares.op c (sel shares p β)) (sel shares q a)
      (small-share-op n c (sel shares p β) hc (small-share-sel n p β hb)) (small-share-sel n q a ha)

-- ---- the values
module _ (R : Run) where
  open R use {n}

  -- "d = a + alpha, e = b + beta"
  abbrev pub d_of : ℕ → Shared Block
  d_of j = (shared blocks).op (a_of R j) (alphas_of R j)

  abbrev pub e_of : ℕ → Shared Block
  e_of j = (shared blocks).op (b_of R j) (betas_of R j)

  -- "result c + d·beta + e·a"
  abbrev pub out_of : ℕ → Shared Block
  out_of j = beaver_out blocks n (deltas R) (a_of R j) (b_of R j) (c_of R j)
      (alphas_of R j) (betas_of R j)

module _ (R : Run) (X : Boxes R) where
  open R use {n, l, inputs}

  abbrev perm : ℕ → List ℕ
  perm i = S.perms R i

  abbrev triples : ℕ → List ℕ
  triples i = S.triple_rows R i

  -- ---- d and e, as each box has them
  abbrev d : ℕ → ℕ → Share
  d i j = B.d (box R i) (triples i) (inputs i).alpha j

  abbrev e : ℕ → ℕ → Share
  e i j = B.e (box R i) (inputs i).bits (perm i) (inputs i).beta j

  d-read : (i j : ℕ) → i < n → j < l → Agree n i (d i j) (share_of i (d_of R j))
  unfolding B.d B.share
  d-read i j li lj =
      rw (share-of-op i (a_of R j) (alphas_of R j), share-of-at (λ b. (inputs b).alpha) (j * record_len n) i)
      (agree-op n i _ _ _ _ (a_read R X i j li lj) (agree_refl n i _))

  e-share : (i j : ℕ) → i < n → j < l → e i j ≡ share_of i (e_of R j)
  unfolding B.e B.b B.share
  e-share i j li lj =
      ap₂ shares.op (ap (y (box R i) (inputs i).bits) (entry-is R X i j 0 li lj (first-in l)) ∙ sym (share-y R i (place R j 0)))
      (sym (share-of-at (λ b. (inputs b).beta) (j * record_len n) i))
      ∙ sym (share-of-op i (b_of R j) (betas_of R j))

  e-read : (i j : ℕ) → i < n → j < l → Agree n i (e i j) (share_of i (e_of R j))
  e-read i j li lj = subst (Agree n i (e i j)) (e-share i j li lj) (agree_refl n i (e i j))

  small-d : (i j : ℕ) → i < n → SmallShare n (d i j)
  unfolding B.d B.share B.a
  small-d i j li = small-share-op n _ _ (small-share-at n _ _ (bytes-triples R X i)) (small-alpha R X i li _)

  small-e : (i j : ℕ) → i < n → SmallShare n (e i j)
  unfolding B.e B.b B.share y
  small-e i j li = small-share-op n _ _ (small-bits R X i li _) (small-beta R X i li _)

  module _ (L : LeakyTriples R) (j : ℕ) (lj : j < l) where
    good-d : Good blocks n (deltas R) (d_of R j)
    good-d = good-op blocks n (deltas R) _ _ (abc-triple R X L j lj).good-a (X.alpha-mac j lj)

    good-e : Good blocks n (deltas R) (e_of R j)
    good-e = good-op blocks n (deltas R) _ _ (good-y R X j 0 lj (first-in l)) (X.beta-mac j lj)

  -- ---- the messages
  faand-len : (j r : ℕ) → length (S.sent22 R j r) ≡ msg_len n l 22
  unfolding S.sent22 B.faand_msg msg_len kind_of count_due
  faand-len j r = list_len_lem n 34 2 l _ (λ t i. length-two_bits_two_blocks _ _ _ _)

  faand-form : (j r : ℕ) → form_of (kind_of l 22) (count_due n l 22) (S.sent22 R j r) ≡ 0
  unfolding S.sent22 B.faand_msg kind_of count_due
  faand-form j r = list-form (Items 34 2) l _ (l-small R X) (λ t i. coded-two_bits_two_blocks _ _ _ _)

  module _ (i k j : ℕ) (li : i < n) (lk : k < n) (lj : j < l) (m : ℕ → List ℕ) (h : m k ≡ S.sent22 R k i) where
    d-told : B.d_told m k j ≡ (d_of R j).bit k
    unfolding B.d_told S.sent22 B.faand_msg share_of
    d-told =
        ap (λ (s : List ℕ). odd (get_or s (8 + j * 34) 0)) h
        ∙ first_read l (λ j. (d k j).bit) (λ j. (e k j).bit) (λ j. (d k j).mac i) (λ j. (e k j).mac i) (l-small R X) j lj
        ∙ (d-read k j lk lj).bit

    e-told : B.e_told m k j ≡ (e_of R j).bit k
    unfolding B.e_told S.sent22 B.faand_msg share_of
    e-told =
        ap (λ (s : List ℕ). odd (get_or s (8 + j * 34 + 1) 0)) h
        ∙ second-read l (λ j. (d k j).bit) (λ j. (e k j).bit) (λ j. (d k j).mac i) (λ j. (e k j).mac i) (l-small R X) j lj
        ∙ (e-read k j lk lj).bit

    module _ (ne : i ≢ k) where
      d-mac-told : block_at (m k) (8 + j * 34 + 2) ≡ (d_of R j).mac k i
      unfolding S.sent22 B.faand_msg share_of
      d-mac-told =
          ap (λ (s : List ℕ). block_at s (8 + j * 34 + 2)) h
          ∙ third-read l (λ j. (d k j).bit) (λ j. (e k j).bit) (λ j. (d k j).mac i) (λ j. (e k j).mac i) (l-small R X) j lj
          ((small-d k j lk).mac i li)
          ∙ (d-read k j lk lj).mac i li (λ z. ne (sym z))

      e-mac-told : block_at (m k) (8 + j * 34 + 18) ≡ (e_of R j).mac k i
      unfolding S.sent22 B.faand_msg share_of
      e-mac-told =
          ap (λ (s : List ℕ). block_at s (8 + j * 34 + 18)) h
          ∙ fourth-read l (λ j. (d k j).bit) (λ j. (e k j).bit) (λ j. (d k j).mac i) (λ j. (e k j).mac i) (l-small R X) j lj
          ((small-e k j lk).mac i li)
          ∙ (e-read k j lk lj).mac i li (λ z. ne (sym z))

      module _ (L : LeakyTriples R) where
        d-fits : block_at (m k) (8 + j * 34 + 2) ≡ blocks.op ((d i j).key k) (sel blocks (B.d_told m k j) (deltas R i))
        unfolding share_of
        d-fits =
            d-mac-told ∙ good-d L j lj k i lk li (λ z. ne (sym z))
            ∙ ap₂ (λ (a : Block) (b : Bool). blocks.op a (sel blocks b (deltas R i))) (sym ((d-read i j li lj).key k lk ne)) (sym d-told)

        e-fits : block_at (m k) (8 + j * 34 + 18) ≡ blocks.op ((e i j).key k) (sel blocks (B.e_told m k j) (deltas R i))
        unfolding share_of
        e-fits =
            e-mac-told ∙ good-e L j lj k i lk li (λ z. ne (sym z))
            ∙ ap₂ (λ (a : Block) (b : Bool). blocks.op a (sel blocks b (deltas R i))) (sym ((e-read i j li lj).key k lk ne)) (sym e-told)

  de-passes : LeakyTriples R → (i : ℕ) → i < n → (m : ℕ → List ℕ) → Mail n (S.sent22 R) i m
      → (B.de_faults (box R i) (deltas R i) (inputs i).bits (perm i) (triples i) (inputs i).alpha (inputs i).beta m).code ≡ 0
  unfolding B.de_faults
  de-passes L i li m M =
      by-none (box R i) _ (λ k lk ne. passes 12 _ (all_of_lem l _ (λ j lj.
      ap₂ ◌&&◌ (eq_block_lem _ _ (d-fits i k j li lk lj m (M k lk ne) ne L)) (eq_block_lem _ _ (e-fits i k j li lk lj m (M k lk ne) ne L)))))

  -- ---- the results
  module _ (i : ℕ) (li : i < n) (m : ℕ → List ℕ) (M : Mail n (S.sent22 R) i m) (j : ℕ) (lj : j < l) where
    d-opened : B.d_opened (box R i) (triples i) (inputs i).alpha m j ≡ total n (d_of R j)
    unfolding B.d_opened share_of
    d-opened =
        open_all_lem i n (d_of R j).bit _ (λ k. B.d_told m k j) li (d-read i j li lj).bit (λ k lk ne. d-told i k j li lk lj m (M k lk ne))

    e-opened : B.e_opened (box R i) (inputs i).bits (perm i) (inputs i).beta m j ≡ total n (e_of R j)
    unfolding B.e_opened share_of
    e-opened =
        open_all_lem i n (e_of R j).bit _ (λ k. B.e_told m k j) li (e-read i j li lj).bit (λ k lk ne. e-told i k j li lk lj m (M k lk ne))

  share-out : (i j : ℕ)
      → share_of i (out_of R j)
      ≡ B.finish (share_of i (c_of R j)) (share_of i (betas_of R j)) (share_of i (a_of R j)) (total n (d_of R j)) (total n (e_of R j))
  share-out i j = share-finish i (c_of R j) (betas_of R j) (a_of R j) (total n (d_of R j)) (total n (e_of R j))

  pub small-out : (i j : ℕ) → i < n → SmallShare n (share_of i (out_of R j))
  small-out i j li =
      rw (share-out i j)
      (small-finish n _ _ _ _ _ (small-c R X i j li)
      (rw (share-of-at (λ b. (inputs b).beta) (j * record_len n) i) (small-beta R X i li (j * record_len n))) (small-a R X i j li))

  beta-read : (i j : ℕ) → Agree n i (B.share (box R i) (inputs i).beta j) (share_of i (betas_of R j))
  unfolding B.share
  beta-read i j = rw (share-of-at (λ b. (inputs b).beta) (j * record_len n) i) (agree_refl n i _)

  results-are : (i : ℕ) → i < n → (m : ℕ → List ℕ) → Mail n (S.sent22 R) i m
      → B.results (box R i) (inputs i).bits (perm i) (triples i) (inputs i).alpha (inputs i).beta m
      ≡ cat l (λ j. lent_of n i (share_of i (out_of R j)))
  unfolding B.results B.result_share
  results-are i li m M =
      cat-ext l _ _ (λ j lj.
      ap₂ (λ (p q : Bool). lent_of n i
      (B.finish (B.c (box R i) (triples i) j) (B.share (box R i) (inputs i).beta j) (B.a (box R i) (triples i) j) p q))
      (d-opened i li m M j lj) (e-opened i li m M j lj)
      ∙ agree-lent n i _ _ (agree-finish n i _ _ _ _ _ _ _ _ (c_read R X i j li lj) (beta-read i j) (a_read R X i j li lj))
      ∙ ap (lent_of n i) (sym (share-out i j)))

  -- what box i writes at the end
  pub result-is : (i : ℕ) → i < n → S.result_of R i ≡ cat l (λ j. lent_of n i (share_of i (out_of R j)))
  unfolding S.result_of
  result-is i li = results-are i li _ (λ k lk ne. refl)

  -- ---- the round
  fit-triples : Fit R TRIPLES
  unfolding S.holds size_of sizes
  fit-triples = (omega arith, λ i li. length-triples R X i)

  pub send-22 : Sends R 22
  unfolding stays_test all_of mem S.since S.holds S.triple_rows S.sent S.sent22 held written
  send-22 = record {
    keeps = λ i li w K. keep_one R (before 22) (due 22) i li K TRIPLES _ refl fit-triples
        (λ q. triple_rows (box R i) (delta-is R K q) (bits_at R K q) (zs-at R K refl q)
        (es-at R K refl q) (perm_at R K refl q) (ds-at R K refl q));
    writes = λ i r li lr ne w K.
        (λ q. B.faand_msg (box R i) (bits_at R K q) (perm_at R K refl q) (triples-at R K refl q) (alpha-at R K q) (beta-at R K q) r);
  }

  pub last-22 : LeakyTriples R → Ends R 22
  unfolding S.since S.sent judge
  last-22 L = record {
    heard = record {
      lens = λ j r lj lr ne. faand-len j r;
      formed = λ i j li lj ne. faand-form j i;
      judged = λ i li w K m M.
          (λ q. (B.de_faults (box R i) (delta-is R K q) (bits_at R K q) (perm_at R K refl q) (triples-at R K refl q) (alpha-at R K q)
          (beta-at R K q) m).code)
          ∙ de-passes L i li m M;
    };
    results = λ i li w K m M.
        (λ q. B.results (box R i) (bits_at R K q) (perm_at R K refl q) (triples-at R K refl q) (alpha-at R K q) (beta-at R K q) m)
        ∙ results-are i li m M ∙ sym (result-is i li);
  }
