-- A message that is accepted determines its value and is determined by it: written again from what was read, it is the same bytes. One law
-- over the kinds. So no two accepted messages of a kind have one value.
use Rattle.std.specs.Prelude.{◌≡◌, true, false, ◌⊎◌, eqb}
use Rattle.std.proofs.Math.Path.{refl, sym, ap, ap₂, subst}
use Rattle.std.proofs.Common.{◌∙◌, inl, inr, le_refl, arith, length-drop, take-add, drop-drop, eq-eqb, ne_eqb}
use mathlib.Core.List.{List, [], ◌∷◌, ◌++◌, append_assoc, append-nil}
use Prim.Native.Nat.{ℕ, zero, suc, ◌+◌, ◌*◌, ◌<◌, ◌≤◌}
use Rattle.std.proofs.Math.ListN.{length, get_or, take, drop, length-take, take-append-drop}
use Rattle.std.proofs.Math.Seq.{get_or-take, take-length}
use Rattle.lists.specs.Pick.{pick}
use Rattle.lists.specs.Over.{tab, cat, length-tab, get_or-tab}
use Rattle.lists.specs.Tab.{take-tab, tab-get_or}
use Rattle.lists.specs.Rows.{chunk, cat-chunk, cat-ext, tab-ext}
use Rattle.lists.specs.Sect.{get, length-get}
use Rattle.lists.specs.Bytes.{Bytes, bytes_drop}
use Rattle.algebra.specs.Group.{num}
use Rattle.block.specs.Block.{word_at, le8}
use Rattle.block.specs.Trip.{le8-word}
use Rattle.message.specs.declared.Kind.{Kind}
use Rattle.message.specs.declared.Kind.TheVariants.{Items, Dms, Dvalues, Options}
use Rattle.message.specs.Format.{vec_len, item_len, item_at, count_of, decodes, Absent, Present, bits, item_of, value_of, form_of}
use Rattle.message.specs.FormatLaws.{of-bools, vec-held, items-held, Bucket, bucket-held, bucket-bytes, Decoded, decoded, value-count}
use Rattle.message.proofs.FormLaws.{word_at_lem}
use Rattle.message.specs.FormatLaws.{value-item}
use Rattle.message.proofs.FormLaws.{entry-held, formed}
use Rattle.encode.specs.Encode.{encode, dm_item, none_item, some_item, item_bytes, message_of}
use Rattle.encode.specs.Fields.{cat-tab}

-- ---- bools
num-byte : (b : ℕ) → b ≤ 1 → num (eqb b 1) ≡ b
num-byte zero h = refl
num-byte (suc zero) h = refl
num-byte (suc (suc b)) h = absurd (omega arith)

length-bits : (x : List ℕ) → length (bits x) ≡ length x
unfolding bits
length-bits x = length-tab (length x) (λ k. eqb (get_or x k 0) 1)

bits_at : (x : List ℕ) (k : ℕ) → k < length x → get_or (bits x) k false ≡ eqb (get_or x k 0) 1
unfolding bits
bits_at x k l = get_or-tab (length x) k (λ k. eqb (get_or x k 0) 1) false l

bits_back : (x : List ℕ) → ((k : ℕ) → k < length x → get_or x k 0 ≤ 1) → cat (length (bits x)) (λ k. num (get_or (bits x) k false) ∷ []) ≡ x
bits_back x h =
    cat-tab (length (bits x)) (λ k. num (get_or (bits x) k false))
    ∙ ap (λ n. tab n (λ k. num (get_or (bits x) k false))) (length-bits x)
    ∙ tab-ext (length x) _ (λ k. get_or x k 0) (λ k l. ap num (bits_at x k l) ∙ num-byte (get_or x k 0) (h k l))
    ∙ tab-get_or x 0

-- ---- one item, kind by kind
module _ (s : List ℕ) (B : Bytes s) where
  -- a count and as many bytes
  inner_back : (w : ℕ) → w ≡ word_at s 0 → 8 + w ≤ length s → le8 w ++ get 8 w s ≡ take (8 + w) s
  inner_back w e h = ap (λ (x : List ℕ). x ++ get 8 w s) (ap le8 e ∙ le8-word s B 0 (omega arith)) ∙ sym (take-add 8 w s)

  items_back : (size c : ℕ) → 0 < item_len (Items size c) s → item_bytes (item_of (Items size c) s) ≡ take (item_len (Items size c) s) s
  unfolding item_bytes item_of
  items_back size c h =
      ap (λ (x : List ℕ). x ++ drop c (take size s)) (bits_back (take c (take size s)) bit)
      ∙ take-append-drop c (take size s) ∙ ap (λ n. take n s) (sym (items-held size c s h).is)
    where
      bit : (k : ℕ) → k < length (take c (take size s)) → get_or (take c (take size s)) k 0 ≤ 1
      bit k l =
          let a : k < c = omega (arith, length-take c (take size s)) in
          let b : k < size = omega (arith, length-take c (take size s), length-take size s) in
          subst (λ v. v ≤ 1) (sym (get_or-take c (take size s) k 0 a ∙ get_or-take size s k 0 b))
          (of-bools s c (items-held size c s h).bits k a)

  dm-back : 0 < item_len Dms s → item_bytes (item_of Dms s) ≡ take (item_len Dms s) s
  unfolding item_bytes item_of item_len dm_item
  dm-back h =
      let w = vec-held 1 s h in
      ap (λ n. le8 n ++ get 8 (word_at s 0) s) (length-get 8 (word_at s 0) s (omega (arith, w.fits)))
      ∙ inner_back (word_at s 0) refl (omega (arith, w.fits))
      ∙ ap (λ n. take n s) (let p : 8 + word_at s 0 ≡ vec_len 1 s = omega (arith, w.is) in p)

  bucket-back : (due : ℕ) → 0 < item_len (Dvalues due) s → item_bytes (item_of (Dvalues due) s) ≡ take (item_len (Dvalues due) s) s
  unfolding item_bytes item_of encode
  bucket-back due h = ap₂ ◌++◌ first second ∙ sym (take-add (8 + a) (8 + v * 16) s) ∙ ap (λ n. take n s) total
    where
      w : Bucket due s
      w = bucket-held due s h

      a : ℕ
      a = word_at s 0

      v : ℕ
      v = word_at s (8 + a)

      x : List ℕ
      x = get 8 a s

      r : List ℕ
      r = drop (16 + a) s

      macs : List (List ℕ)
      macs = tab v (λ k. chunk 16 k r)

      long : length x ≡ a
      long = length-get 8 a s (omega (arith, w.ds.fits))

      bit : (k : ℕ) → k < length x → get_or x k 0 ≤ 1
      bit k l =
          let b : k < a = omega (arith, long) in
          subst (λ v. v ≤ 1) (sym (get_or-take a (drop 8 s) k 0 b)) (of-bools (drop 8 s) a w.bits k b)

      first : le8 (length (bits x)) ++ cat (length (bits x)) (λ k. num (get_or (bits x) k false) ∷ []) ≡ take (8 + a) s
      first =
          ap₂ (λ n (y : List ℕ). le8 n ++ y) (length-bits x ∙ long) (bits_back x bit)
          ∙ inner_back a refl (omega (arith, w.ds.fits))

      behind : r ≡ drop 8 (drop (8 + a) s)
      behind = ap (λ n. drop n s) (let p : 16 + a ≡ 8 + a + 8 = omega arith in p) ∙ sym (drop-drop 8 (8 + a) s)

      second : le8 (length macs) ++ cat (length macs) (λ k. get_or macs k []) ≡ take (8 + v * 16) (drop (8 + a) s)
      second =
          ap₂ (λ n (y : List ℕ). le8 n ++ y) (length-tab v (λ k. chunk 16 k r))
          (ap (λ n. cat n (λ k. get_or macs k [])) (length-tab v (λ k. chunk 16 k r))
          ∙ cat-ext v _ (λ k. chunk 16 k r) (λ k l. get_or-tab v k (λ k. chunk 16 k r) [] l) ∙ cat-chunk 16 v r ∙ ap (take (v * 16)) behind)
          ∙ ap (λ (y : List ℕ). y ++ take (v * 16) (drop 8 (drop (8 + a) s)))
          (le8-word s B (8 + a) (omega (arith, w.ds.fits, w.macs.fits, length-drop (8 + a) s)))
          ∙ sym (take-add 8 (v * 16) (drop (8 + a) s))

      total : (8 + a) + (8 + v * 16) ≡ item_len (Dvalues due) s
      total = omega (arith, bucket-bytes due s w, word_at_lem s (8 + a))

  option_back : 0 < item_len Options s → item_bytes (item_of Options s) ≡ take (item_len Options s) s
  unfolding item_bytes item_of none_item some_item tab
  option_back h = go (entry-held s 0 h).either
    where
      one : take 1 s ≡ get_or s 0 0 ∷ []
      one = take-tab 1 0 s 0 (omega (arith, (entry-held s 0 h).tag))

      go : ((get_or s 0 0 ≡ 0) × (item_len Options (drop 0 s) ≡ 1)) ⊎ ((get_or s 0 0 ≡ 1) × ((item_len Options (drop 0 s) ≡ 17) × (0 + 17 ≤ length s)))
          → item_bytes (item_of Options s) ≡ take (item_len Options s) s
      go (inl (z, e)) =
          ap (λ b. item_bytes (pick b Absent (Present (get 1 16 s)))) (eq-eqb (get_or s 0 0) 0 z)
          ∙ ap (λ b. b ∷ []) (sym z) ∙ sym one ∙ ap (λ n. take n s) (sym e)
      go (inr (z, (e, f))) =
          ap (λ b. item_bytes (pick b Absent (Present (get 1 16 s)))) (ne_eqb (get_or s 0 0) 0 (λ q. omega (arith, q, z)))
          ∙ ap (λ b. b ∷ get 1 16 s) (sym z) ∙ ap (λ (x : List ℕ). x ++ get 1 16 s) (sym one) ∙ sym (take-add 1 16 s)
          ∙ ap (λ n. take n s) (sym e)

  item_back : (K : Kind) → 0 < item_len K s → item_bytes (item_of K s) ≡ take (item_len K s) s
  item_back (Items size c) h = items_back size c h
  item_back Dms h = dm-back h
  item_back (Dvalues due) h = bucket-back due h
  item_back Options h = option_back h

-- ---- a message
module _ (K : Kind) (m : List ℕ) (B : Bytes m) where
  abbrev again : ℕ → List ℕ
  again t = item_bytes (item_of K (drop (item_at K m t) m))

  items-are : Decoded K m → (t : ℕ) → t ≤ count_of m → le8 (count_of m) ++ cat t again ≡ take (item_at K m t) m
  unfolding cat item_at
  items-are d zero h = append-nil (le8 (count_of m)) ∙ le8-word m B 0 d.head
  items-are d (suc t) h =
      sym (append_assoc (le8 (count_of m)) (cat t again) (again t))
      ∙ ap₂ ◌++◌ (items-are d t (omega arith))
      (item_back (drop (item_at K m t) m) (bytes_drop (item_at K m t) m B) K (d.item t (omega arith)))
      ∙ sym (take-add (item_at K m t) (item_len K (drop (item_at K m t) m)) m)

  -- the length used is that of the value, written
  pub used-written : decodes K m ≡ true → message_of (value_of K m) ≡ take (item_at K m (count_of m)) m
  unfolding message_of encode
  used-written e =
      ap₂ (λ n (x : List ℕ). le8 n ++ x) (value-count K m)
      (ap (λ n. cat n (λ t. item_bytes (get_or (value_of K m) t Absent))) (value-count K m)
      ∙ cat-ext (count_of m) _ again (λ t l. ap item_bytes (value-item K m t l)))
      ∙ items-are (decoded K m e) (count_of m) (le_refl (count_of m))

  -- an accepted message is its value, written
  pub accepted-written : (count : ℕ) → form_of K count m ≡ 0 → message_of (value_of K m) ≡ m
  accepted-written count h =
      let w = formed K count m h in
      used-written w.decodes-is ∙ ap (λ n. take n m) w.used-is ∙ take-length m

-- accepted messages with one value are one message
pub one-to-one : (K : Kind) (c c' : ℕ) (m m' : List ℕ) → Bytes m → Bytes m' → form_of K c m ≡ 0 → form_of K c' m' ≡ 0
    → value_of K m ≡ value_of K m' → m ≡ m'
one-to-one K c c' m m' B B' h h' e = sym (accepted-written K m B c h) ∙ ap message_of e ∙ accepted-written K m' B' c' h'
