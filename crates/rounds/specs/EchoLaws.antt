-- Laws of the echoes: what a call has made sure of, the hash of a list as a Block, an echo's entries and its length, the fault of an entry.
use Rattle.std.specs.Prelude.{◌≡◌, ◌≢◌, ◌⊎◌, Bool, ◌&&◌, ◌||◌, List, [], ◌∷◌, ◌++◌, get_or, take, drop, ltb, eqb}
use Rattle.std.proofs.Math.Path.{refl, sym, ap}
use Rattle.std.proofs.Common.{◌∙◌, inl, inr, le_refl, add-one, length-take}
use Rattle.std.proofs.Math.Bool.{true, false}
use Prim.Native.Nat.{ℕ, zero, suc, ◌+◌, ◌-◌, ◌*◌, ◌<◌, ◌≤◌}
use native.Mathlib.Omega.{arith}
use Rattle.std.proofs.Math.ListN.{length, length-append}
use borrow.Author.Tests.{ltb-true, ltb-false, lt-ltb, le-ltb, eq-eqb, ne_eqb}
use Rattle.lists.specs.Pick.{pick}
use Rattle.lists.specs.Bytes.{Bytes}
use Rattle.lists.specs.Over.{cat}
use Rattle.lists.specs.Rows.{chunk, length-chunk, cat-inside}
use Rattle.lists.specs.Same.{same?, same_true, same_false}
use Rattle.algebra.specs.Sum.{neq, Same, same, apart, apart?}
use Rattle.block.specs.declared.Block.{Block}
use Rattle.block.specs.Block.{block_at, bytes_of, eq_block}
use Rattle.block.specs.Group.{block-eq, block-ne}
use Rattle.block.specs.Trip.{bytes_of-at, block-part}
use Rattle.blake3.specs.Tree.{hash, bytes, digest}
use Rattle.blake3.specs.Firsts.{firsts}
use Rattle.blake3.specs.ByteLaws.{length-bytes, bytes-bytes}
use Rattle.message.specs.declared.Kind.{Kind}
use Rattle.message.specs.declared.Kind.TheVariants.{Options}
use Rattle.message.specs.Format.{item_len, item_at, form_of}
use Rattle.message.proofs.FormLaws.{formed-item, Entry, entry-held}
use Rattle.encode.specs.Encode.{none_item, some_item}
use Rattle.plan.specs.Plan as Plan
use Rattle.plan.specs.Plan.{kind_of, count_due, msg_len}
use Rattle.engine.specs.declared.Frame.{Frame}
use Rattle.engine.specs.Step.{scan}
use Rattle.engine.specs.StepLaws.{scan-first}
use Rattle.rounds.specs.Mail.{Mail, letter, Arrived}
use Rattle.rounds.specs.Echo.{hash_vec, entry_fault, echo_fault}

-- what a call has made sure of before it looks at the content: every other party's message lies inside, and is a list of the right form
pub record Received (K : Kind) (count : ℕ) (f : Frame) (incoming : List ℕ) (mail : Mail) : Type 0 where
  pub arrived : Arrived f 0 incoming mail
  pub formed-is : (k : ℕ) → k < f.n → f.i ≢ k → form_of K count (letter incoming mail k) ≡ 0

-- ---- the hash of a list
first-half : (x : List ℕ) → bytes_of (block_at (hash x) 0) ≡ take 16 (hash x)
unfolding hash
first-half x = bytes_of-at (bytes (digest x)) (bytes-bytes (digest x)) 0 (omega (arith, length-bytes (digest x)))

-- t says whether the first elements alone are hashed
pub hash-of : (k : ℕ) (m : List ℕ) (t : Bool) (b : Block) → (eqb k 6 || eqb k 15) ≡ t → b ≡ block_at (hash (pick t (firsts 17 m) m)) 0
    → bytes_of b ≡ hash_vec k m
unfolding hash_vec
hash-of k m t b h e = ap bytes_of e ∙ first-half _ ∙ ap (λ u. take 16 (hash (pick u (firsts 17 m) m))) (sym h)

pub length-hash_vec : (k : ℕ) (m : List ℕ) → length (hash_vec k m) ≡ 16
unfolding hash_vec hash
length-hash_vec k m = length-take 16 (hash _) ∙ rw (length-bytes (digest _)) refl

-- ---- entries
-- 16 for a party below m: an entry that is there is 16 bytes longer than one that is absent
abbrev past : ℕ → ℕ → ℕ
past m k = pick (ltb k m) 16 0

same-past : (k m : ℕ) → k ≢ m → past (suc m) k ≡ past m k
same-past k m z = ap (λ b. pick b 16 0) (by (ltb k m) refl)
  where
    by : (b : Bool) → ltb k m ≡ b → ltb k (suc m) ≡ b
    by true e = lt-ltb k (suc m) (omega (arith, ltb-true k m e))
    by false e = le-ltb k (suc m) (omega (arith, z, ltb-false k m e))

-- the bytes of entry k of an echo from i to r
abbrev pub entry_len : ℕ → ℕ → ℕ → ℕ
entry_len i r k = pick (neq i k && neq r k) 17 1

-- entry k: absent, or row k
abbrev pub entry : ℕ → ℕ → List ℕ → ℕ → List ℕ
entry i r rows k = pick (neq i k && neq r k) (1 ∷ chunk 16 k rows) (0 ∷ [])

-- where entry k begins
abbrev pub entry_at : ℕ → ℕ → List ℕ → ℕ → ℕ
entry_at i r rows k = 8 + length (cat k (entry i r rows))

module _ (n i r : ℕ) (rows : List ℕ) (h : length rows ≡ n * 16) where
  opt-length : (b : Bool) (k : ℕ) → k < n → length (pick b (1 ∷ chunk 16 k rows) (0 ∷ [])) ≡ pick b 17 1
  opt-length true k l = ap suc (length-chunk 16 n k rows l (omega arith))
  opt-length false k l = refl

  pub entry_length : (k : ℕ) → k < n → length (entry i r rows k) ≡ entry_len i r k
  entry_length k l = opt-length (neq i k && neq r k) k l

  count : (m : ℕ) → m ≤ n → i ≢ r → length (cat m (entry i r rows)) + past m i + past m r ≡ 17 * m
  unfolding cat
  count zero lm ne = rw (le-ltb i 0 (omega arith), le-ltb r 0 (omega arith)) refl
  count (suc m) lm ne = go (neq i m) (apart? i m) (neq r m) (apart? r m) (count m (omega arith) ne)
    where
      go : (p : Bool) → Same i m p → (q : Bool) → Same r m q → length (cat m (entry i r rows)) + past m i + past m r ≡ 17 * m
          → length (cat m (entry i r rows) ++ pick (p && q) (1 ∷ chunk 16 m rows) (0 ∷ [])) + past (suc m) i + past (suc m) r ≡ 17 * suc m
      go false (same e) false (same e') ih = absurd (ne (e ∙ sym e'))
      go false (same e) true (apart z) ih =
          let a : past m i ≡ 0 = ap (λ b. pick b 16 0) (le-ltb i m (omega arith)) in
          let b : past (suc m) i ≡ 16 = ap (λ b. pick b 16 0) (lt-ltb i (suc m) (omega arith)) in
          let c : past (suc m) r ≡ past m r = same-past r m z in
          omega (arith, ih, a, b, c, length-append (cat m (entry i r rows)) (0 ∷ []))
      go true (apart z) false (same e) ih =
          let a : past m r ≡ 0 = ap (λ b. pick b 16 0) (le-ltb r m (omega arith)) in
          let b : past (suc m) r ≡ 16 = ap (λ b. pick b 16 0) (lt-ltb r (suc m) (omega arith)) in
          omega (arith, ih, a, b, same-past i m z, length-append (cat m (entry i r rows)) (0 ∷ []))
      go true (apart z) true (apart z') ih =
          omega (arith, ih, same-past i m z, same-past r m z', length-append (cat m (entry i r rows)) (1 ∷ chunk 16 m rows), opt-length true m lm)

  -- "absent for the box itself and for the receiver": two of n
  pub entries-length : i < n → r < n → i ≢ r → 8 + length (cat n (entry i r rows)) ≡ msg_len n 1 2
  unfolding msg_len Plan.list_len kind_of count_due
  entries-length li lr ne =
      let a : past n i ≡ 16 = ap (λ b. pick b 16 0) (lt-ltb i n li) in
      let b : past n r ≡ 16 = ap (λ b. pick b 16 0) (lt-ltb r n lr) in
      omega (arith, a, b, count n (le_refl n) ne)

  -- while an echo is written: where entry k begins, that it lies within, and that the last one fills the message
  pub entry_next : (k a : ℕ) → k < n → a ≡ entry_at i r rows k → a + entry_len i r k ≡ entry_at i r rows (k + 1)
  unfolding cat
  entry_next k a l e =
      omega (
        arith,
        e,
        entry_length k l,
        ap length (let g : cat (k + 1) (entry i r rows) ≡ cat k (entry i r rows) ++ entry i r rows k = rw (add-one k) refl in g),
        length-append (cat k (entry i r rows)) (entry i r rows k),
      )

  pub entry-fits : i < n → r < n → i ≢ r → (k a : ℕ) → k < n → a ≡ entry_at i r rows k → a + entry_len i r k ≤ msg_len n 1 2
  entry-fits li lr ne k a l e = omega (arith, e, entries-length li lr ne, cat-inside n (entry i r rows) k l, entry_length k l)

  pub entries-fill : i < n → r < n → i ≢ r → (k a : ℕ) → k ≡ n → a ≡ entry_at i r rows k → msg_len n 1 2 ≤ a
  entries-fill li lr ne k a q e = omega (arith, e, entries-length li lr ne, ap (λ j. length (cat j (entry i r rows))) q)

pub entry_zero : (i r : ℕ) (rows : List ℕ) → 8 ≡ entry_at i r rows 0
unfolding cat
entry_zero i r rows = refl

pub echo-len : (n : ℕ) → msg_len n 1 2 ≡ 8 + n + 16 * (n - 2)
unfolding msg_len Plan.list_len kind_of count_due
echo-len n = refl

-- what is written
pub put-present : (i r k : ℕ) (rows x : List ℕ) → Bytes rows → k * 16 + 16 ≤ length rows → (neq i k && neq r k) ≡ true
    → x ≡ some_item (bytes_of (block_at rows (k * 16))) → x ≡ entry i r rows k
unfolding some_item chunk
put-present i r k rows x b h t e =
    e ∙ ap (λ (y : List ℕ). 1 ∷ y) (bytes_of-at rows b (k * 16) h) ∙ ap (λ u. pick u (1 ∷ chunk 16 k rows) (0 ∷ [])) (sym t)

pub put-absent : (i r k : ℕ) (rows x : List ℕ) → (neq i k && neq r k) ≡ false → x ≡ none_item → x ≡ entry i r rows k
unfolding none_item
put-absent i r k rows x t e = e ∙ ap (λ u. pick u (1 ∷ chunk 16 k rows) (0 ∷ [])) (sym t)

-- ---- the check
-- entry k of what j told i, none for the two
abbrev pub told_fault : ℕ → ℕ → List ℕ → List ℕ → ℕ → ℕ
told_fault i j rows m k = pick (neq i k && neq j k) (entry_fault rows m k) 0

-- the fault of each sender
abbrev pub echo_faults : ℕ → ℕ → List ℕ → (ℕ → List ℕ) → ℕ → ℕ
echo_faults n i rows m j = echo_fault n i j rows (m j)

-- an entry that isn't absent has room for a hash
pub record Option (m : List ℕ) (a : ℕ) : Type 0 where
  pub tag : a < length m
  pub room : get_or m a 0 ≢ 0 → a + 17 ≤ length m

pub option-at : (n : ℕ) (m : List ℕ) → form_of Options n m ≡ 0 → (k : ℕ) → k < n → Option m (item_at Options m k)
option-at n m h k l = go (entry-held m (item_at Options m k) (formed-item Options n m h k l))
  where
    room : (a : ℕ) → ((get_or m a 0 ≡ 0) × (item_len Options (drop a m) ≡ 1)) ⊎ ((get_or m a 0 ≡ 1) × ((item_len Options (drop a m) ≡ 17) × (a + 17 ≤ length m)))
        → get_or m a 0 ≢ 0 → a + 17 ≤ length m
    room a (inl w) ne = absurd (ne w.0)
    room a (inr w) ne = w.1.1

    go : Entry m (item_at Options m k) → Option m (item_at Options m k)
    go e = record { tag = e.tag; room = room (item_at Options m k) e.either }

-- the two hashes, compared as Blocks
pub same_block : (s t : List ℕ) (a k : ℕ) → Bytes s → Bytes t → a + 16 ≤ length s → k * 16 + 16 ≤ length t
    → eq_block (block_at s a) (block_at t (k * 16)) ≡ same? (take 16 (drop a s)) (chunk 16 k t)
unfolding chunk
same_block s t a k bs bt ls lt = by (eq_block x y) refl (same? u v) refl
  where
    x : Block
    x = block_at s a

    y : Block
    y = block_at t (k * 16)

    u : List ℕ
    u = take 16 (drop a s)

    v : List ℕ
    v = take 16 (drop (k * 16) t)

    by : (p : Bool) → eq_block x y ≡ p → (q : Bool) → same? u v ≡ q → p ≡ q
    by true p true q = refl
    by true p false q = absurd (same_false u v q (sym (bytes_of-at s bs a ls) ∙ ap bytes_of (block-eq x y p) ∙ bytes_of-at t bt (k * 16) lt))
    by false p true q =
        absurd (block-ne x y p (sym (block-part s a) ∙ ap (λ (z : List ℕ). block_at z 0) (same_true u v q) ∙ block-part t (k * 16)))
    by false p false q = refl

pub entry_absent : (rows m : List ℕ) (k : ℕ) → get_or m (item_at Options m k) 0 ≡ 0 → 3 ≡ entry_fault rows m k
unfolding entry_fault
entry_absent rows m k e =
    ap (λ u. pick u 3 (pick (same? (take 16 (drop (item_at Options m k + 1) m)) (chunk 16 k rows)) 0 7))
    (sym (eq-eqb (get_or m (item_at Options m k) 0) 0 e))

pub entry-there : (rows m : List ℕ) (k x : ℕ) (b : Bool) → get_or m (item_at Options m k) 0 ≢ 0
    → b ≡ same? (take 16 (drop (item_at Options m k + 1) m)) (chunk 16 k rows) → x ≡ pick b 0 7 → x ≡ entry_fault rows m k
unfolding entry_fault
entry-there rows m k x b ne e hx =
    hx ∙ ap (λ u. pick u 0 7) e
    ∙ ap (λ u. pick u 3 (pick (same? (take 16 (drop (item_at Options m k + 1) m)) (chunk 16 k rows)) 0 7)) (sym (ne_eqb _ 0 ne))

pub told_fault_lem : (i j k x : ℕ) (rows m : List ℕ) (b : Bool) → (neq i k && neq j k) ≡ b → x ≡ pick b (entry_fault rows m k) 0
    → x ≡ told_fault i j rows m k
told_fault_lem i j k x rows m b h e = e ∙ ap (λ u. pick u (entry_fault rows m k) 0) (sym h)

pub echo-clean : (i j : ℕ) (rows m : List ℕ) → (scan 0 (told_fault i j rows m)).code ≡ 0
unfolding scan
echo-clean i j rows m = refl

-- entry k has the first fault
pub echo-first : (n i j k x : ℕ) (rows m : List ℕ) → k < n → (scan k (told_fault i j rows m)).code ≡ 0 → x ≡ told_fault i j rows m k → x ≢ 0
    → x ≡ echo_fault n i j rows m
unfolding echo_fault
echo-first n i j k x rows m l z e ne = e ∙ sym (ap (λ (f : _). f.code) (scan-first n k (told_fault i j rows m) l z (λ q. ne (e ∙ q))))

-- none has one
pub echo-none : (n i j k : ℕ) (rows m : List ℕ) → (scan k (told_fault i j rows m)).code ≡ 0 → k ≡ n → 0 ≡ echo_fault n i j rows m
unfolding echo_fault
echo-none n i j k rows m z e = sym (ap (λ q. (scan q (told_fault i j rows m)).code) (sym e) ∙ z)
