-- Laws about records with a label: what the others may know of one, what is read of it, and the check of a list of them.
use Rattle.std.proofs.Math.Path.{◌≡◌, refl, sym, ap, ap₂}
use Rattle.std.proofs.Common.{◌∙◌, le_refl, add-zero, add-one, length-drop, get_or-take, get_or-drop, drop-drop}
use Rattle.std.specs.Prelude.{Bool, ◌≢◌, length, eqb}
use Rattle.std.proofs.Math.Bool.{true, false, ◌&&◌}
use mathlib.Core.List.{List, ◌∷◌, ◌++◌}
use Prim.Native.Nat.{ℕ, zero, suc, ◌+◌, ◌-◌, ◌*◌, ◌<◌, ◌≤◌}
use native.Mathlib.Omega.{arith}
use Rattle.std.proofs.Math.ListN.{get_or, take, drop, replicate, length-append, get_or-append}
use Rattle.std.proofs.Math.Dec.{leb, ltb}
use borrow.Author.Tests.{le-leb, lt-leb, leb-true, eq-eqb, ne_eqb, eqb-true, eqb-false, ltb-true, ltb-false}
use Rattle.lists.specs.Pick.{pick}
use Rattle.lists.specs.All.{all_of_lem, of-all}
use Rattle.lists.specs.Over.{cat, length-cat}
use Rattle.lists.specs.Sect.{drop-take}
use Rattle.lists.specs.Rows.{chunk, chunk-cat}
use Rattle.lists.specs.Bytes.{Bytes, bytes-cons, bytes-append, bytes-cat, bytes-replicate}
use Rattle.algebra.specs.Group.{odd, num, odd-num}
use Rattle.block.specs.Block.{eq_block}
use Rattle.block.specs.Group.{blocks, block-eq, eq_block_lem}
use Rattle.share.specs.Layout.{ENTRY, head_of, record-ends, mac-behind, bit-alone}
use Rattle.share.specs.Record.{record_len, bit_at, mac_at, key_at, own_zero}
use Rattle.share.specs.RecordLaws.{small-mac, small-key}
use Rattle.share.specs.Share.{Share, entry_of, record_of}
use Rattle.share.specs.ShareLaws.{SmallShare, Agree, length-entry_of, bytes-entry, length-record_of, bytes-record_of, record-row}
use Rattle.share.specs.ShareLaws.{agree-record, mac-here, key_here, own-here}
use Rattle.share.specs.Lent.{LABEL, LENT_MOST, label_of, lent_len, lent_head, lent_of, lent_at, kept_of, labelled, record_fault, records_fault}

-- ---- lengths
-- it is a label longer than without one
pub lent_longer : (n : ℕ) → lent_len n ≡ record_len n + LABEL
unfolding lent_len
lent_longer n = omega (arith, record-ends n, mac-behind n, bit-alone)

-- among at most eight parties
pub lent-most : (n : ℕ) → n ≤ 8 → lent_len n ≤ LENT_MOST
unfolding lent_len
lent-most n h = omega arith

pub head-within : (n : ℕ) → 1 + LABEL ≤ lent_len n
unfolding lent_len
head-within n = omega arith

module _ (n i : ℕ) where
  length_label : length (label_of n i) ≡ LABEL
  unfolding label_of
  length_label = refl

  module _ (b : Bool) where
    pub length-lent-head : length (lent_head n i b) ≡ 1 + LABEL
    unfolding lent_head label_of
    length-lent-head = refl

    -- the bit is the first byte, and the label all else of the head
    pub lent-bit-first : (r : List ℕ) → get_or (lent_head n i b ++ r) 0 0 ≡ num b
    unfolding lent_head
    lent-bit-first r = refl

    pub label-behind : (r : List ℕ) (k : ℕ) → k < LABEL → get_or (lent_head n i b ++ r) (1 + k) 0 ≡ get_or (label_of n i) k 0
    unfolding lent_head
    label-behind r k h =
        ap (λ j. get_or (num b ∷ (label_of n i ++ r)) j 0) (let e : 1 + k ≡ suc k = omega arith in e)
        ∙ get_or-append (label_of n i) r 0 k (omega (arith, length_label))

    -- behind the bit and all of the label but its last byte, which is zero, lies a head without a label
    last-of-label : (r : List ℕ) → drop LABEL (lent_head n i b ++ r) ≡ head_of false ++ r
    unfolding lent_head label_of head_of
    last-of-label r = refl

  -- a new head is as long as the old one
  pub lent-headed : (b : Bool) (d : List ℕ) → 1 + LABEL ≤ length d → length (lent_head n i b ++ drop (1 + LABEL) d) ≡ length d
  lent-headed b d h =
      length-append (lent_head n i b) (drop (1 + LABEL) d) ∙ omega (arith, length-lent-head b, length-drop (1 + LABEL) d)

  pub length-lent_of : (x : Share) → length (lent_of n i x) ≡ lent_len n
  unfolding lent_of
  length-lent_of x =
      length-append (lent_head n i x.bit) (cat n (entry_of i x))
      ∙ ap₂ ◌+◌ (length-lent-head x.bit) (length-cat n ENTRY (entry_of i x) (λ k h. length-entry_of i x k))
      ∙ whole
    where
      whole : 1 + LABEL + n * ENTRY ≡ lent_len n
      whole = omega (arith, lent_longer n, record-ends n, mac-behind n, bit-alone)

  pub bytes-lent_of : n < 256 → i < 256 → (x : Share) → Bytes (lent_of n i x)
  unfolding lent_of lent_head label_of entry_of
  bytes-lent_of hn hi x =
      let filler : List ℕ = replicate 29 0 in
      bytes-append (num x.bit ∷ (n ∷ (i ∷ filler))) (cat n (entry_of i x))
      (bytes-cons (num x.bit) (n ∷ i ∷ filler) (num-byte x.bit) (bytes-cons n (i ∷ filler) hn (bytes-cons i filler hi (bytes-replicate 29 0 (omega arith)))))
      (bytes-cat n (entry_of i x) (λ k h. bytes-entry i k (x.mac k) (x.key k)))
    where
      num-byte : (b : Bool) → num b < 256
      num-byte false = omega arith
      num-byte true = omega arith

  -- record t of a list of them
  pub lent_row : (count : ℕ) (f : ℕ → Share) (t : ℕ) → t < count
      → take (lent_len n) (drop (t * lent_len n) (cat count (λ j. lent_of n i (f j)))) ≡ lent_of n i (f t)
  unfolding chunk
  lent_row count f t h = chunk-cat (lent_len n) count (λ j. lent_of n i (f j)) (λ j l. length-lent_of (f j)) t h

-- shares that agree have one record
pub agree-lent : (n i : ℕ) (x y : Share) → Agree n i x y → lent_of n i x ≡ lent_of n i y
unfolding lent_of record_of head_of
agree-lent n i x y h = ap₂ (λ b (l : List ℕ). lent_head n i b ++ l) h.bit (ap (drop 1) (agree-record n i x y h))

-- a share's MACs and keys alone
abbrev pub bitless : Share → Share
bitless x = record { bit = false; mac = x.mac; key = x.key }

-- ---- wherever a record of x stands
module _ (n i : ℕ) (x : Share) (s : List ℕ) (at : ℕ) (here : take (lent_len n) (drop at s) ≡ lent_of n i x) where
  abbrev cut : List ℕ
  cut = take (lent_len n) (drop at s)

  byte-is : (k : ℕ) → k < lent_len n → get_or s (at + k) 0 ≡ get_or (lent_of n i x) k 0
  byte-is k h = sym (get_or-take (lent_len n) (drop at s) k 0 h ∙ get_or-drop at s k 0) ∙ ap (λ (l : List ℕ). get_or l k 0) here

  first-is : get_or s at 0 ≡ num x.bit
  unfolding lent_of
  first-is =
      ap (λ a. get_or s a 0) (sym (add-zero at)) ∙ byte-is 0 (omega (arith, head-within n))
      ∙ lent-bit-first n i x.bit (cat n (entry_of i x))

  -- its entries are those of a record without a label
  behind : take (record_len n) (drop (at + LABEL) s) ≡ record_of n i (bitless x)
  unfolding lent_of record_of entry_of
  behind =
      ap (take (record_len n)) (sym (drop-drop LABEL at s))
      ∙ take_behind (drop at s)
      ∙ ap (drop LABEL) here ∙ last-of-label n i x.bit (cat n (entry_of i x))
    where
      take_behind : (d : List ℕ) → take (record_len n) (drop LABEL d) ≡ drop LABEL (take (lent_len n) d)
      take_behind d =
          sym (drop-take LABEL (lent_len n) d (omega (arith, head-within n))
          ∙ ap (λ m. take m (drop LABEL d)) (let e : lent_len n - LABEL ≡ record_len n = omega (arith, lent_longer n) in e))

  pub lent-bit : bit_at s at ≡ x.bit
  unfolding bit_at
  lent-bit = ap odd first-is ∙ odd-num x.bit

  -- it is read as it was written
  pub read-lent : SmallShare n x → Agree n i (lent_at s at) x
  unfolding lent_at
  read-lent sm = record {
    bit = lent-bit;
    mac = λ k l ne. mac-here n i (bitless x) s (at + LABEL) behind k l ne (sm.mac k l);
    key = λ k l ne. key_here n i (bitless x) s (at + LABEL) behind k l ne (sm.key k l);
  }

-- ---- what is kept
module _ (n i : ℕ) (s : List ℕ) where
  pub small-lent : (at : ℕ) → Bytes s → SmallShare n (lent_at s at)
  unfolding lent_at
  small-lent at h = record { mac = λ k l. small-mac s h (at + LABEL) k; key = λ k l. small-key s h (at + LABEL) k }

  pub length-kept : (count : ℕ) → length (kept_of n i count s) ≡ count * record_len n
  unfolding kept_of
  length-kept count = length-cat count (record_len n) _ (λ t l. length-record_of n i (lent_at s (t * lent_len n)))

  pub bytes-kept : (count : ℕ) → Bytes (kept_of n i count s)
  unfolding kept_of
  bytes-kept count = bytes-cat count _ (λ t l. bytes-record_of n i (lent_at s (t * lent_len n)))

  pub kept_row : (count t : ℕ) → t < count
      → take (record_len n) (drop (t * record_len n) (kept_of n i count s)) ≡ record_of n i (lent_at s (t * lent_len n))
  unfolding kept_of
  kept_row count t h = record-row n i count (λ j. lent_at s (j * lent_len n)) t h

-- ---- the fault of one record
module _ (n i : ℕ) (s : List ℕ) (at : ℕ) where
  pub fault-bit : 1 < get_or s at 0 → record_fault n i s at ≡ 1
  unfolding record_fault
  fault-bit h = rw (lt-leb (get_or s at 0) 1 h)

  pub fault-label : get_or s at 0 ≤ 1 → labelled n i s at ≡ false → record_fault n i s at ≡ 22
  unfolding record_fault
  fault-label h e = rw (le-leb (get_or s at 0) 1 h, e)

  pub fault-own : get_or s at 0 ≤ 1 → labelled n i s at ≡ true → own_zero i s (at + LABEL) ≡ false → record_fault n i s at ≡ 4
  unfolding record_fault
  fault-own h w e = rw (le-leb (get_or s at 0) 1 h, w, e)

  pub fault-none : get_or s at 0 ≤ 1 → labelled n i s at ≡ true → own_zero i s (at + LABEL) ≡ true → record_fault n i s at ≡ 0
  unfolding record_fault
  fault-none h w e = rw (le-leb (get_or s at 0) 1 h, w, e)

-- what the check asks of party i's record at `at`, among n parties
pub record Valid (n i : ℕ) (s : List ℕ) (at : ℕ) : Type 0 where
  pub bit : get_or s at 0 ≤ 1
  pub label : (k : ℕ) → k < LABEL → get_or s (at + (1 + k)) 0 ≡ get_or (label_of n i) k 0
  pub mac : mac_at s (at + LABEL) i ≡ blocks.nil
  pub key : key_at s (at + LABEL) i ≡ blocks.nil

module _ (n i : ℕ) (s : List ℕ) (at : ℕ) where
  pub valid-fault : Valid n i s at → record_fault n i s at ≡ 0
  unfolding labelled own_zero
  valid-fault v =
      fault-none n i s at v.bit (all_of_lem LABEL _ (λ k l. eq-eqb _ _ (v.label k l)))
      (ap₂ ◌&&◌ (eq_block_lem (mac_at s (at + LABEL) i) blocks.nil v.mac) (eq_block_lem (key_at s (at + LABEL) i) blocks.nil v.key))

  pub fault-valid : record_fault n i s at ≡ 0 → Valid n i s at
  unfolding record_fault labelled own_zero
  fault-valid =
      go (leb (get_or s at 0) 1) refl (labelled n i s at) refl (eq_block (mac_at s (at + LABEL) i) blocks.nil) refl
      (eq_block (key_at s (at + LABEL) i) blocks.nil) refl
    where
      go : (a : Bool) → leb (get_or s at 0) 1 ≡ a → (w : Bool) → labelled n i s at ≡ w
          → (b : Bool) → eq_block (mac_at s (at + LABEL) i) blocks.nil ≡ b → (c : Bool) → eq_block (key_at s (at + LABEL) i) blocks.nil ≡ c
          → ◌≡◌ {A = ℕ} (pick a (pick w (pick (b && c) 0 4) 22) 1) 0 → Valid n i s at
      go true ea true ew true eb true ec h = record {
        bit = leb-true (get_or s at 0) 1 ea;
        label = λ k l. eqb-true _ _ (of-all LABEL _ ew k l);
        mac = block-eq (mac_at s (at + LABEL) i) blocks.nil eb;
        key = block-eq (key_at s (at + LABEL) i) blocks.nil ec;
      }
      go true ea true ew true eb false ec h = absurd (omega arith)
      go true ea true ew false eb c ec h = absurd (omega arith)
      go true ea false ew b eb c ec h = absurd (omega arith)
      go false ea w ew b eb c ec h = absurd (omega arith)

-- a record that was written passes
module _ (n i : ℕ) (x : Share) (s : List ℕ) (at : ℕ) (here : take (lent_len n) (drop at s) ≡ lent_of n i x) where
  pub lent-valid : i < n → Valid n i s at
  unfolding lent_of
  lent-valid l = record {
    bit = rw (first-is n i x s at here) (num-bit x.bit);
    label = λ k h. byte-is n i x s at here (1 + k) (omega (arith, head-within n)) ∙ label-behind n i x.bit (cat n (entry_of i x)) k h;
    mac = (own-here n i (bitless x) s (at + LABEL) (behind n i x s at here) l).0;
    key = (own-here n i (bitless x) s (at + LABEL) (behind n i x s at here) l).1;
  }
    where
      num-bit : (b : Bool) → num b ≤ 1
      num-bit false = omega arith
      num-bit true = omega arith

-- ---- the first fault of a list
module _ (n i : ℕ) (s : List ℕ) where
  pub faults-zero : records_fault n i s 0 ≡ 0
  unfolding records_fault
  faults-zero = refl

  -- a turn of the loop: nothing was found yet
  pub faults-turn : (t : ℕ) → records_fault n i s t ≡ 0 → records_fault n i s (t + 1) ≡ record_fault n i s (t * lent_len n)
  unfolding records_fault
  faults-turn t e = rw (add-one t, records_fault, eq-eqb (records_fault n i s t) 0 e)

  -- the first fault is not overtaken by a later one
  pub faults-stay : (t count f : ℕ) → t ≤ count → records_fault n i s t ≡ f → f ≢ 0 → records_fault n i s count ≡ f
  unfolding records_fault
  faults-stay t zero f h e ne = ap (records_fault n i s) (let z : 0 ≡ t = omega arith in z) ∙ e
  faults-stay t (suc count) f h e ne = go (ltb count t) refl (faults-stay t count f)
    where
      go : (b : Bool) → ltb count t ≡ b → (t ≤ count → records_fault n i s t ≡ f → f ≢ 0 → records_fault n i s count ≡ f)
          → records_fault n i s (suc count) ≡ f
      go true q ih = ap (records_fault n i s) (let z : suc count ≡ t = omega (arith, ltb-true count t q) in z) ∙ e
      go false q ih =
          let p : records_fault n i s count ≡ f = ih (ltb-false count t q) e ne in
          rw (ne_eqb (records_fault n i s count) 0 (λ z. ne (sym p ∙ z))) p

  clear : (t count : ℕ) → t ≤ count → records_fault n i s count ≡ 0 → records_fault n i s t ≡ 0
  clear t count h e = go (eqb (records_fault n i s t) 0) refl
    where
      go : (b : Bool) → eqb (records_fault n i s t) 0 ≡ b → records_fault n i s t ≡ 0
      go true q = eqb-true (records_fault n i s t) 0 q
      go false q =
          let ne : records_fault n i s t ≢ 0 = eqb-false (records_fault n i s t) 0 q in
          absurd (ne (sym (faults-stay t count (records_fault n i s t) h refl ne) ∙ e))

  -- no fault: every record is as the check asks
  pub faults-valid : (count : ℕ) → records_fault n i s count ≡ 0 → (t : ℕ) → t < count → Valid n i s (t * lent_len n)
  faults-valid count e t h =
      fault-valid n i s (t * lent_len n) (sym (faults-turn t (clear t count (omega arith) e)) ∙ clear (t + 1) count (omega arith) e)

  pub valid-faults : (count : ℕ) → ((t : ℕ) → t < count → Valid n i s (t * lent_len n)) → records_fault n i s count ≡ 0
  unfolding records_fault
  valid-faults zero h = refl
  valid-faults (suc count) h =
      rw (eq-eqb (records_fault n i s count) 0 (valid-faults count (λ t l. h t (omega arith))))
      (valid-fault n i s (count * lent_len n) (h count (le_refl (suc count))))
