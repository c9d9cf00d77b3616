-- Round 21, `dvalue`: the permutation, the opened d values and the combined triples, read back of PERM, DS and TRIPLES.
use Rattle.std.specs.Prelude.{◌≡◌, Bool, length, get_or, drop}
use Rattle.std.proofs.Math.Path.{refl, sym, ap, ap₂, subst}
use Rattle.std.proofs.Common.{◌∙◌, add-zero, le_refl}
use mathlib.Core.List.{List, [], ◌∷◌, ◌++◌, append-nil}
use Prim.Native.Nat.{ℕ, zero, suc, ◌+◌, ◌-◌, ◌*◌, ◌%◌, ◌<◌, ◌≤◌}
use Rattle.std.proofs.Math.Nat.{mod-eq_of_lt}
use native.Mathlib.Omega.{arith}
use Rattle.std.proofs.Math.ListN.{take, length-append}
use Rattle.lists.specs.Over.{tab, cat, length-tab, get_or-tab, length-cat, in-chunks}
use Rattle.lists.specs.Rows.{chunk, chunk-cat, cat-ext, tab-ext}
use Rattle.algebra.specs.Group.{bits, addb, odd, num, odd-num}
use Rattle.algebra.specs.Sum.{others}
use Rattle.block.specs.declared.Block.{Block}
use Rattle.block.specs.Block.{bytes_of}
use Rattle.share.specs.Record.{record_len}
use Rattle.share.specs.Share.{Share, shares, record_of}
use Rattle.share.specs.ShareLaws.{SmallShare, small-share-op, small-share-sel, Agree, agree-op, agree-sel, agree_refl, agree-record}
use Rattle.share.specs.ShareLaws.{length-record_of, read_here}
use Rattle.word.specs.WordLaws.{length-words, word_read}
use Rattle.shuffle.specs.Always.{permutation-below}
use Rattle.encode.specs.Encode.{dvalue_item}
use Rattle.plan.specs.Plan.{leaky, bucket_size}
use Rattle.plan.specs.PlanLaws.{leaky-most, bucket-low}
use Rattle.engine.specs.declared.Frame.{Frame}
use Rattle.rounds.specs.Opening.{party}
use Rattle.rounds.specs.Haand.{x, y, z_rows}
use Rattle.rounds.specs.Flaand.{e_rows}
use Rattle.rounds.specs.Buckets.{Triple, two, combine, order, perm_bytes, entry, later, d, dvalue_msg, d_told, d_opened, ds, z_share}
use Rattle.rounds.specs.Buckets.{leaky_and, abc, triple_row}
use Rattle.rounds.specs.Buckets as B
use Rattle.rounds.specs.BucketLaws.{combine-y}
use Rattle.rounds.specs.Beaver as Beaver
use Rattle.alone.specs.Formula as F
use Rattle.alone.specs.Formula.{Seen}
use Rattle.alone.specs.Holds.{d_rows, triple_rows}
use Rattle.alone.specs.Given.{Admissible, small-x}
use Rattle.alone.specs.Cells.{row-byte, part_in, encode-ext}
use Rattle.alone.proofs.FlaandLaws.{z-share-read, small-z}

-- ---- the permutation in bytes
pub length-perm : (f : Frame) (joint : List ℕ) → length (perm_bytes f joint) ≡ leaky f.l * 4
unfolding perm_bytes
length-perm f joint = length-words (leaky f.l) (order f joint)

-- the places of a bucket
module _ (l : ℕ) where
  pub first-in : 0 < bucket_size l
  first-in = omega (arith, bucket-low l)

  pub later-in : (e : ℕ) → e < bucket_size l - 1 → suc e < bucket_size l
  later-in e le = omega arith

  pub all_in : (e : ℕ) → e < suc (bucket_size l - 1) → e < bucket_size l
  all_in e le = omega (arith, bucket-low l)

module _ (f : Frame) (joint : List ℕ) (most : f.l ≤ 300000) (j e : ℕ) (lj : j < f.l) (le : e < bucket_size f.l) where
  inside : j * bucket_size f.l + e < leaky f.l
  unfolding leaky
  inside = omega (arith, in-chunks j f.l (bucket_size f.l) lj)

  -- what is drawn is always a permutation
  pub place-below : get_or (order f joint) (j * bucket_size f.l + e) 0 < leaky f.l
  unfolding order
  place-below = permutation-below joint (leaky f.l) (j * bucket_size f.l + e) inside

  -- so the remainder is nothing
  pub entry_read : entry f (perm_bytes f joint) j e ≡ get_or (order f joint) (j * bucket_size f.l + e) 0
  unfolding entry perm_bytes
  entry_read =
      ap (λ v. v % leaky f.l)
      (word_read (leaky f.l) (order f joint) (j * bucket_size f.l + e) inside (omega (arith, place-below, leaky-most f.l most)))
      ∙ mod-eq_of_lt place-below

-- ---- combining
-- what is combined, and what was opened, may be given by rules that agree
pub combine-ext : (g h : ℕ → Triple) (d b : ℕ → Bool) (c : ℕ) → ((e : ℕ) → e < suc c → g e ≡ h e) → ((e : ℕ) → e < c → d e ≡ b e)
    → combine g d c ≡ combine h b c
unfolding combine
combine-ext g h d b zero p q = p 0 (omega arith)
combine-ext g h d b (suc c) p q =
    (λ k. two (combine-ext g h d b c (λ e l. p e (omega arith)) (λ e l. q e (omega arith)) k) (p (suc c) (le_refl (suc (suc c))) k)
    (q c (le_refl (suc c)) k))

-- two triples whose x and z agree but for the own entry
pub record Alike (n i : ℕ) (g h : Triple) : Type 0 where
  pub tx : Agree n i g.tx h.tx
  pub tz : Agree n i g.tz h.tz

pub combine-alike : (n i : ℕ) (g h : ℕ → Triple) (d : ℕ → Bool) (c : ℕ) → ((e : ℕ) → e < suc c → Alike n i (g e) (h e))
    → Alike n i (combine g d c) (combine h d c)
unfolding combine two
combine-alike n i g h d zero p = p 0 (omega arith)
combine-alike n i g h d (suc c) p =
    let s = combine-alike n i g h d c (λ e l. p e (omega arith)) in
    let t = p (suc c) (le_refl (suc (suc c))) in
    record {
      tx = agree-op n i _ _ _ _ s.tx t.tx;
      tz = agree-op n i _ _ _ _ (agree-op n i _ _ _ _ s.tz t.tz) (agree-sel n i (d c) (g (suc c)).tx (h (suc c)).tx t.tx);
    }

-- a triple whose x and z fit Blocks
pub record SmallTriple (n : ℕ) (g : Triple) : Type 0 where
  pub tx : SmallShare n g.tx
  pub tz : SmallShare n g.tz

pub small-combine : (n : ℕ) (g : ℕ → Triple) (d : ℕ → Bool) (c : ℕ) → ((e : ℕ) → e < suc c → SmallTriple n (g e))
    → SmallTriple n (combine g d c)
unfolding combine two
small-combine n g d zero p = p 0 (omega arith)
small-combine n g d (suc c) p =
    let s = small-combine n g d c (λ e l. p e (omega arith)) in
    let t = p (suc c) (le_refl (suc (suc c))) in
    record {
      tx = small-share-op n _ _ s.tx t.tx;
      tz = small-share-op n _ _ (small-share-op n _ _ s.tz t.tz) (small-share-sel n (d c) (g (suc c)).tx t.tx);
    }

-- ---- a row of TRIPLES, read back
module _ (f : Frame) (g : ℕ → Triple) where
  abbrev rows : List ℕ
  rows = cat f.l (λ j. triple_row f (g j))

  row_len : (j : ℕ) → length (triple_row f (g j)) ≡ 2 * record_len f.n
  unfolding triple_row
  row_len j =
      length-append (record_of f.n f.i (g j).tx) (record_of f.n f.i (g j).tz)
      ∙ ap₂ ◌+◌ (length-record_of f.n f.i (g j).tx) (length-record_of f.n f.i (g j).tz)
      ∙ (let q : record_len f.n + record_len f.n ≡ 2 * record_len f.n = omega arith in q)

  pub length-triples : length (cat f.l (λ j. triple_row f (g j))) ≡ f.l * (2 * record_len f.n)
  length-triples = length-cat f.l (2 * record_len f.n) _ (λ j lj. row_len j)

  module _ (j : ℕ) (lj : j < f.l) (small : SmallTriple f.n (g j)) where
    row_is : take (2 * record_len f.n) (drop (j * (2 * record_len f.n)) rows)
        ≡ record_of f.n f.i (g j).tx ++ record_of f.n f.i (g j).tz
    unfolding triple_row chunk
    row_is = chunk-cat (2 * record_len f.n) f.l (λ j. triple_row f (g j)) (λ j lj. row_len j) j lj

    pub a_read : Agree f.n f.i (Beaver.a f (cat f.l (λ j. triple_row f (g j))) j) (g j).tx
    unfolding Beaver.a
    a_read =
        read_here f.n f.i (g j).tx rows (j * (2 * record_len f.n))
        (ap (λ k. take (record_len f.n) (drop k rows)) (sym (add-zero (j * (2 * record_len f.n))))
        ∙ part_in rows [] (record_of f.n f.i (g j).tx) (record_of f.n f.i (g j).tz) (j * (2 * record_len f.n))
        (2 * record_len f.n) 0 (record_len f.n) row_is refl (length-record_of f.n f.i (g j).tx))
        small.tx

    pub c_read : Agree f.n f.i (Beaver.c f (cat f.l (λ j. triple_row f (g j))) j) (g j).tz
    unfolding Beaver.c
    c_read =
        let tx : List ℕ = record_of f.n f.i (g j).tx in
        let tz : List ℕ = record_of f.n f.i (g j).tz in
        read_here f.n f.i (g j).tz rows (j * (2 * record_len f.n) + record_len f.n)
        (part_in rows tx tz [] (j * (2 * record_len f.n)) (2 * record_len f.n) (record_len f.n) (record_len f.n)
        (row_is ∙ ap (λ (s : List ℕ). tx ++ s) (sym (append-nil tz)))
        (length-record_of f.n f.i (g j).tx) (length-record_of f.n f.i (g j).tz))
        small.tz

dvalue-ext : (c : ℕ) (b b' : ℕ → Bool) (x x' : ℕ → Block) → ((e : ℕ) → e < c → b e ≡ b' e) → ((e : ℕ) → e < c → x e ≡ x' e)
    → dvalue_item c b x ≡ dvalue_item c b' x'
unfolding dvalue_item
dvalue-ext c b b' x x' p q =
    ap₂ (λ (s t : List ℕ). s ++ t) (encode-ext c _ _ (λ e le. ap (λ (v : Bool). num v ∷ []) (p e le)))
    (encode-ext c _ _ (λ e le. ap bytes_of (q e le)))

module _ (S : Seen) (I : Admissible S) where
  open S use {inputs as a, mail as m}

  abbrev f : Frame
  f = party S.inputs

  abbrev δ : Block
  δ = F.delta S

  -- what PERM, ZS and ES hold
  abbrev perm : List ℕ
  perm = perm_bytes f (F.joint_seed S)

  abbrev zs : List ℕ
  zs = z_rows f a.masks a.bits (m 14)

  abbrev es : List ℕ
  es = e_rows f (m 15)

  pub entry-is : (j e : ℕ) → j < f.l → e < bucket_size f.l → entry f perm j e ≡ F.entry S j e
  unfolding F.entry F.order
  entry-is j e lj le = entry_read f (F.joint_seed S) I.range.most j e lj le

  entry-below : (j e : ℕ) → j < f.l → e < bucket_size f.l → F.entry S j e < leaky f.l
  unfolding F.entry F.order
  entry-below j e lj le = place-below f (F.joint_seed S) I.range.most j e lj le

  -- ---- round 21
  d-is : (j e : ℕ) → j < f.l → e < later f → d f a.bits perm j e ≡ F.d S j e
  unfolding d F.d F.y later
  d-is j e lj le =
      ap₂ (λ s t. shares.op (y f a.bits s) (y f a.bits t)) (entry-is j 0 lj (first-in f.l))
      (entry-is j (suc e) lj (later-in f.l e le))

  pub msg-21 : (k : ℕ) → dvalue_msg f a.bits perm k ≡ F.sent21 S k
  unfolding dvalue_msg F.sent21
  msg-21 k =
      encode-ext f.l _ _ (λ j lj. dvalue-ext (later f) _ _ _ _
      (λ e le. ap (λ (s : Share). s.bit) (d-is j e lj le)) (λ e le. ap (λ (s : Share). s.mac k) (d-is j e lj le)))

  pub length-ds : length (d_rows S) ≡ f.l * (bucket_size f.l - 1)
  unfolding d_rows later
  length-ds = length-cat f.l (bucket_size f.l - 1) _ (λ j lj. length-tab (bucket_size f.l - 1) _)

  -- what DS holds
  pub ds-is : ds f a.bits perm (m 21) ≡ d_rows S
  unfolding ds d_rows d_opened F.d_opened
  ds-is =
      cat-ext f.l _ _ (λ j lj. tab-ext (later f) _ _ (λ e le.
      ap (λ (s : Share). num (addb s.bit (others bits f.i f.n (λ k. d_told f (m 21) k j e)))) (d-is j e lj le)))

  d-read : (j e : ℕ) → j < f.l → e < later f → odd (get_or (d_rows S) (j * later f + e) 0) ≡ F.d_opened S j e
  unfolding d_rows
  d-read j e lj le =
      let row : ℕ → List ℕ = λ j. tab (later f) (λ e. num (F.d_opened S j e)) in
      ap odd (row-byte (later f) f.l row (λ t lt. length-tab (later f) _) j e lj le ∙ get_or-tab (later f) e _ 0 le)
      ∙ odd-num (F.d_opened S j e)

  -- ---- the combined triples
  -- entry e of bucket j
  alike : (j e : ℕ) → j < f.l → e < bucket_size f.l
      → Alike f.n f.i (leaky_and f δ a.bits zs es perm j e) (F.leaky_and S (F.entry S j e))
  unfolding leaky_and F.leaky_and F.x
  alike j e lj le =
      subst (λ t. Alike f.n f.i (record { tx = x f a.bits t; ty = y f a.bits t; tz = z_share f δ a.bits zs es t })
      (F.leaky_and S (F.entry S j e))) (sym (entry-is j e lj le))
      (record { tx = agree_refl f.n f.i _; tz = z-share-read S I _ (entry-below j e lj le) })

  abc-alike : (j : ℕ) → j < f.l → Alike f.n f.i (abc f δ a.bits zs es perm (d_rows S) j) (F.abc S j)
  unfolding abc F.abc later
  abc-alike j lj =
      let g : ℕ → Triple = leaky_and f δ a.bits zs es perm j in
      let c : ℕ = bucket_size f.l - 1 in
      subst (λ (t : Triple). Alike f.n f.i t (F.abc S j))
      (sym (combine-ext g g _ (F.d_opened S j) c (λ e le. refl) (λ e le. d-read j e lj le)))
      (combine-alike f.n f.i g _ (F.d_opened S j) c (λ e le. alike j e lj (all_in f.l e le)))

  -- what TRIPLES holds
  pub triples-are : B.triple_rows f δ a.bits zs es perm (d_rows S) ≡ triple_rows S
  unfolding B.triple_rows triple_rows triple_row
  triples-are =
      cat-ext f.l _ _ (λ j lj.
      let s = abc-alike j lj in
      ap₂ (λ (s t : List ℕ). s ++ t) (agree-record f.n f.i _ _ s.tx) (agree-record f.n f.i _ _ s.tz))

  pub small-abc : (j : ℕ) → SmallTriple f.n (F.abc S j)
  unfolding F.abc F.leaky_and
  small-abc j =
      small-combine f.n _ (F.d_opened S j) (later f) (λ e le. record { tx = small-x S I _; tz = small-z S I _ })

  -- b is the first y of the bucket
  pub b-is : (j : ℕ) → j < f.l → Beaver.b f a.bits perm j ≡ (F.abc S j).ty
  unfolding Beaver.b F.abc F.leaky_and F.y
  b-is j lj = ap (y f a.bits) (entry-is j 0 lj (first-in f.l)) ∙ sym (combine-y _ (F.d_opened S j) (later f))
