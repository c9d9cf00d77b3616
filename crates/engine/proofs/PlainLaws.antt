-- From what each round of a table owes follows what the engine asks of each call: for n = 2, and for n > 2 with the echoes between.
use Rattle.std.specs.Prelude.{◌≡◌, Bool, ◌&&◌, ◌≢◌, length, replicate, ltb}
use Rattle.std.proofs.Math.Path.{refl, sym, ap, ap₂, subst}
use Rattle.std.proofs.Common.{◌∙◌, le_refl, arith}
use Rattle.std.proofs.Math.Bool.{true, false, not}
use mathlib.Core.List.{List, [], ◌∷◌}
use Prim.Native.Nat.{ℕ, zero, suc, ◌*◌, ◌<◌, ◌≤◌}
use Rattle.std.proofs.lemmas.List.{length-replicate}
use Rattle.std.proofs.Math.Dec.{leb, eqb}
use borrow.Author.Tests.{ltb-true, ltb-false, lt-ltb, le-ltb, eqb-true, eqb-false, eq-eqb, ne_eqb, leb-true, le-leb, lt-leb}
use Rattle.lists.specs.Pick.{pick}
use Rattle.lists.specs.Over.{length-cat}
use Rattle.lists.specs.Rows.{chunk, chunk-cat, cat-ext}
use Rattle.lists.specs.All.{all_of, of-all, true-false, and_first, and_second, and_both, and-false, not-true}
use Rattle.batches.specs.Batches.{whole}
use Rattle.engine.specs.Step.{Frame, frame, Loan, Fault, none?, Protocol, other, by_party}
use Rattle.engine.specs.StepLaws.{other-is, other-cases, or-none, or-first, by-none}
use Rattle.engine.specs.World.{Course, session_of}
use Rattle.engine.specs.Engine.{Joint, HonestRound}
use Rattle.engine.specs.Area.{off, sec, put_sec, length-put_sec, sec-same, sec-other, to_others, to_others-ext, mem, every-mem}
use Rattle.engine.specs.Sheet.{Known, Sheet, Mail, Passes, Middle, Last, Holds, middle, last}
use Rattle.engine.specs.Honest.{order_test, course_test, Lawful, before, due, Script, store_of, plain_after, Heard, RecvAt}
use Rattle.engine.specs.Honest.{ListAt, SendAt, LastAt, Honest, moment_of, ready_of, val_of, sent_of, sheet_of, loans_of}
use Rattle.engine.specs.Order.{echo_in, round_in, next_in}
use Rattle.engine.specs.Plain.{Table, rows_of, prior, is_echo, next_of, number_of, steps_of, to_echo, len_of, form_at}
use Rattle.engine.specs.Plain.{pending, hashes, digests, echo_check, check_of, waits, waiting, if_clean, for_echo, made, keep_of}
use Rattle.engine.specs.Plain.{write_of, protocol_of}

-- ---- rows of 16 bytes
module _ (f : Frame) (h : ℕ → List ℕ) where
  pub rows_ext : (h' : ℕ → List ℕ) → ((k : ℕ) → k < f.n → f.i ≢ k → h k ≡ h' k) → rows_of f h ≡ rows_of f h'
  unfolding rows_of
  rows_ext h' e =
      cat-ext f.n _ _ (λ k l. other-cases f k (λ b. pick b (h k) (replicate 16 0) ≡ pick b (h' k) (replicate 16 0))
      (λ l' ne. e k l' ne) refl)

  module _ (len : (k : ℕ) → k < f.n → f.i ≢ k → length (h k) ≡ 16) where
    each : (k : ℕ) → k < f.n → length (pick (other f k) (h k) (replicate 16 0)) ≡ 16
    each k l = other-cases f k (λ b. length (pick b (h k) (replicate 16 0)) ≡ 16) (λ l' ne. len k l' ne) (length-replicate {A = ℕ} 16 0)

    pub length-rows : length (rows_of f h) ≡ f.n * 16
    unfolding rows_of
    length-rows = length-cat f.n 16 _ each

    pub chunk-rows : (k : ℕ) → k < f.n → f.i ≢ k → chunk 16 k (rows_of f h) ≡ h k
    unfolding rows_of
    chunk-rows k l ne = chunk-cat 16 f.n _ each k l ∙ ap (λ b. pick b (h k) (replicate 16 0)) (other-is f k l ne)

-- ---- what waits for an echo
length-waits : (e : Fault) → length (waits e) ≡ 2
unfolding waits
length-waits e = go (eqb e.code 0)
  where
    go : (b : Bool) → length (pick b (0 ∷ 0 ∷ []) (e.code ∷ e.party ∷ [])) ≡ 2
    go true = refl
    go false = refl

-- a fault in two bytes is found again
pub waiting-fault : (numbers : List ℕ) (n : ℕ) (e : Fault) → e.code ≢ 0 → mem e.code numbers ≡ true → e.party < n
    → waiting numbers n (waits e) ≡ e
unfolding waiting waits
waiting-fault numbers n e ne h l = rw (ne_eqb e.code 0 ne, h, lt-ltb e.party n l) refl

pub waiting_none : (numbers : List ℕ) (n : ℕ) → (waiting numbers n (0 ∷ 0 ∷ [])).code ≡ 0
unfolding waiting
waiting_none numbers n = go (mem 0 numbers && ltb 0 n)
  where
    go : (b : Bool) → (pick b (record { code = 0; party = 0 }) none?).code ≡ 0
    go true = refl
    go false = refl

-- the fault that the call for a round found is what the call for its echo reports, unless the echo itself is at fault
module _ (T : Table) (k : ℕ) (f : Frame) (w : List ℕ) (m : ℕ → List ℕ) where
  pub held-waits : length w ≡ off (T.size f) (suc (suc T.count)) → T.size f T.count ≡ 2 → T.size f (suc T.count) ≡ f.n * 16
      → ((x : List ℕ) → length ((T.recv k).digest f x) ≡ 16) → ((T.recv k).judge f w m).code ≢ 0
      → mem ((T.recv k).judge f w m).code (T.recv k).faults ≡ true → ((T.recv k).judge f w m).party < f.n
      → pending T (suc k) f (for_echo T k f w m) ≡ (T.recv k).judge f w m
  unfolding pending for_echo if_clean digests
  held-waits h two rows len ne mine among =
      rw (ne_eqb ((T.recv k).judge f w m).code 0 ne)
      (ap (waiting (T.recv k).faults f.n)
      (sec-same (T.size f) (suc (suc T.count)) v lv T.count (waits e) (omega arith) (length-waits e ∙ sym two))
      ∙ waiting-fault (T.recv k).faults f.n e ne mine among)
    where
      e : Fault
      e = (T.recv k).judge f w m

      v : List ℕ
      v = put_sec (T.size f) (suc T.count) (rows_of f (λ j. (T.recv k).digest f (m j))) w

      lv : length v ≡ off (T.size f) (suc (suc T.count))
      lv = length-put_sec (T.size f) (suc (suc T.count)) w h (suc T.count) _ (omega arith)
          (length-rows f (λ j. (T.recv k).digest f (m j)) (λ j lj nj. len (m j)) ∙ sym rows)

  pub echo-first : (by_party f (λ j. T.echo.fault f.n f.i j (hashes T f w) (m j))).code ≢ 0
      → echo_check T k f w m ≡ by_party f (λ j. T.echo.fault f.n f.i j (hashes T f w) (m j))
  unfolding echo_check
  echo-first h = or-first _ _ h

-- ---- tests
three : (a b c : Bool) → (a && b && c) ≡ true → (a ≡ true) × (b ≡ true) × (c ≡ true)
three true true c e = (refl, refl, e)
three true false c e = absurd (true-false (sym e))
three false b c e = absurd (true-false (sym e))

-- ---- the order of the rounds
module _ (T : Table) (n l : ℕ) (W : Lawful T n l) where
  -- no echo follows echo k
  abbrev Single : ℕ → Bool
  Single k = not (is_echo T k && is_echo T (suc k))

  order_is : (not (is_echo T 1) ≡ true) × (not (is_echo T T.order.last) ≡ true) × (all_of (suc T.order.last) Single ≡ true)
  unfolding order_test
  order_is = three (not (is_echo T 1)) (not (is_echo T T.order.last)) (all_of (suc T.order.last) Single) W.order

  pub first_plain : is_echo T 1 ≡ false
  first_plain = not-true _ order_is.0

  pub last-plain : is_echo T T.order.last ≡ false
  last-plain = not-true _ order_is.1

  pub no-two : (k : ℕ) → k ≤ T.order.last → is_echo T k ≡ true → is_echo T (suc k) ≡ false
  no-two k h e =
      let t : not (is_echo T k && is_echo T (suc k)) ≡ true = of-all (suc T.order.last) Single order_is.2 k (omega arith) in
      not-true _ (rw e at t)

  -- an echo is not the last round
  pub echo-not-last : (k : ℕ) → is_echo T k ≡ true → k ≢ T.order.last
  echo-not-last k e q = true-false (sym e ∙ ap (is_echo T) q ∙ last-plain)

  pub next-skips : (two : Bool) (k : ℕ) → k < T.order.last → two ≡ true → is_echo T (suc k) ≡ true → next_of T two k ≡ suc (suc k)
  unfolding next_in
  next-skips two k lk b e = rw (lt-leb T.order.last k lk, b, e) refl

  pub next-on : (two : Bool) (k : ℕ) → k < T.order.last → (two && is_echo T (suc k)) ≡ false → next_of T two k ≡ suc k
  unfolding next_in
  next-on two k lk e = rw (lt-leb T.order.last k lk, e) refl

  pub next-echo : (two : Bool) (k : ℕ) → k < T.order.last → to_echo T two k ≡ true → (next_of T two k ≡ suc k) × (is_echo T (suc k) ≡ true)
  unfolding to_echo
  next-echo two k lk q = go two refl (is_echo T (suc k)) refl q
    where
      go : (c : Bool) → two ≡ c → (b : Bool) → is_echo T (suc k) ≡ b → (not c && b) ≡ true → (next_of T two k ≡ suc k) × (b ≡ true)
      go true z b e q = absurd (true-false (sym q))
      go false z b e q = (next-on two k lk (ap (λ c. c && is_echo T (suc k)) z), q)

  -- what comes after a plain round whose call writes no echo
  pub next-plain : (k : ℕ) → k < T.order.last → to_echo T (eqb n 2) k ≡ false
      → (next_of T (eqb n 2) k ≡ plain_after T k) × (is_echo T (plain_after T k) ≡ false)
  unfolding plain_after to_echo
  next-plain k lk q = go (is_echo T (suc k)) refl (eqb n 2) refl q
    where
      go : (b : Bool) → is_echo T (suc k) ≡ b → (c : Bool) → eqb n 2 ≡ c → (not c && b) ≡ false
          → (next_of T (eqb n 2) k ≡ suc (pick b (suc k) k)) × (is_echo T (suc (pick b (suc k) k)) ≡ false)
      go true e true c q = (next-skips (eqb n 2) k lk c e, no-two (suc k) lk e)
      go true e false c q = absurd (true-false q)
      go false e c z q = (next-on (eqb n 2) k lk (ap (λ b. eqb n 2 && b) e ∙ and-false (eqb n 2)), e)

  -- ---- which round is due
  abbrev counts : Bool
  counts = all_of (steps_of T (eqb n 2)) (λ d. round_in T.order (eqb n 2) (number_of T (eqb n 2) d))

  course-is : (counts ≡ true) × (eqb (number_of T (eqb n 2) (steps_of T (eqb n 2))) 0 ≡ true)
  unfolding course_test
  course-is = and_both counts (eqb (number_of T (eqb n 2) (steps_of T (eqb n 2))) 0) (W.course (eqb n 2))

  round-at : (d : ℕ) → d < steps_of T (eqb n 2) → round_in T.order (eqb n 2) (number_of T (eqb n 2) d) ≡ true
  round-at d h = of-all (steps_of T (eqb n 2)) (λ d. round_in T.order (eqb n 2) (number_of T (eqb n 2) d)) course-is.0 d h

  never-zero : round_in T.order (eqb n 2) 0 ≡ false
  unfolding round_in
  never-zero = refl

  pub number-next : (d : ℕ) → d < steps_of T (eqb n 2) → next_of T (eqb n 2) (number_of T (eqb n 2) d) ≡ number_of T (eqb n 2) (suc d)
  unfolding number_of
  number-next d h = refl

  -- a session of them is alive until the last round, where its counts make l
  pub number-live : (counts : List ℕ) → whole l counts ≡ true → (d b : ℕ) → d < steps_of T (eqb n 2) → b < n
      → (protocol_of T).alive (session_of n l counts b (number_of T (eqb n 2) d)) ≡ true
  number-live cs w d b h lb = ap₂ ◌&&◌ (ap₂ ◌&&◌ (W.fine b lb) w) (round-at d h)

  pub number-end : number_of T (eqb n 2) (steps_of T (eqb n 2)) ≡ 0
  number-end = eqb-true _ _ course-is.1

  pub number-over : (counts : List ℕ) (b : ℕ) → (protocol_of T).alive (session_of n l counts b (number_of T (eqb n 2) (steps_of T (eqb n 2)))) ≡ false
  number-over counts b =
      ap (λ c. T.fine (frame n l b) && whole l counts && c) (ap (round_in T.order (eqb n 2)) number-end ∙ never-zero)
      ∙ and-false (T.fine (frame n l b) && whole l counts)

  -- the order of the rounds of n boxes, each with counts that make l
  abbrev pub course_of : (counts : ℕ → List ℕ) → ((b : ℕ) → b < n → whole l (counts b) ≡ true) → Course (protocol_of T) n l counts
  course_of counts w = record {
    steps = steps_of T (eqb n 2);
    number = number_of T (eqb n 2);
    next-is = number-next;
    live = λ d b h lb. number-live (counts b) (w b lb) d b h lb;
    over = λ b. number-over (counts b) b;
  }

module _ (T : Table) (U : Script) (n l : ℕ) (W : Lawful T n l) where
  abbrev P : Protocol
  P = protocol_of T

  abbrev two : Bool
  two = eqb n 2

  abbrev L : ℕ → Loan
  L = loans_of T U n l

  abbrev S : Sheet
  S = sheet_of T U n l

  -- a work area as the script says at moment t, and as the sheet says when round k is due
  abbrev Own : ℕ → ℕ → List ℕ → Type 0
  Own t i w = Known n l (store_of T U n l) t i w

  abbrev Is : ℕ → ℕ → List ℕ → Type 0
  Is k i w = Known n l S.store k i w

  abbrev rows : ℕ → ℕ → List ℕ
  rows k i = rows_of (frame n l i) (U.hashed k)

  -- ---- the script's work areas and the sheet's
  moment-plain : (k : ℕ) → is_echo T k ≡ false → moment_of T U n l k ≡ due k
  unfolding moment_of
  moment-plain k e = rw e refl

  moment-echo : (k : ℕ) → is_echo T k ≡ true → moment_of T U n l k ≡ before (suc k)
  unfolding moment_of
  moment-echo k e = rw e refl

  to-own : (k i : ℕ) (w : List ℕ) → Is k i w → Own (moment_of T U n l k) i w
  unfolding ready_of val_of
  to-own k i w h = record {
    long = h.long;
    has = λ s ls r. h.has s (omega arith) (rw (lt-ltb s T.count ls) r) ∙ rw (lt-ltb s T.count ls) refl;
  }

  to-sheet : (k i : ℕ) (w : List ℕ) → is_echo T k ≡ false → Own (due k) i w → Is k i w
  unfolding ready_of val_of
  to-sheet k i w e h = record { long = h.long; has = λ s ls r. go s (ltb s T.count) refl r }
    where
      h' : Own (moment_of T U n l k) i w
      h' = subst (λ t. Own t i w) (sym (moment-plain k e)) h

      t : ℕ
      t = moment_of T U n l k

      go : (s : ℕ) (b : Bool) → ltb s T.count ≡ b → pick b (U.ready t s) (is_echo T k) ≡ true
          → sec (T.size (frame n l i)) s w ≡ pick b (U.val t i s) (pick (eqb s T.count) (0 ∷ 0 ∷ []) (rows (prior k) i))
      go s true q r = h'.has s (ltb-true s T.count q) r
      go s false q r = absurd (true-false (sym r ∙ e))

  -- the two sections that are written for an echo
  module _ (k i : ℕ) (e : is_echo T (suc k) ≡ true) (len : (j : ℕ) → j < n → length (U.hashed k j) ≡ 16) where
    abbrev size : ℕ → ℕ
    size = T.size (frame n l i)

    rows-len : length (rows k i) ≡ size (suc T.count)
    rows-len = length-rows (frame n l i) (U.hashed k) (λ j lj ne. len j lj) ∙ sym (W.size-hashes i)

    to_held : (w : List ℕ) → Own (before (suc (suc k))) i w
        → Is (suc k) i (put_sec size T.count (0 ∷ 0 ∷ []) (put_sec size (suc T.count) (rows k i) w))
    unfolding ready_of val_of
    to_held w h = record {
      long = length-put_sec size all v lv T.count (0 ∷ 0 ∷ []) (omega arith) two;
      has = λ s ls r. go s ls (ltb s T.count) refl r;
    }
      where
        all : ℕ
        all = suc (suc T.count)

        two : length {A = ℕ} (0 ∷ 0 ∷ []) ≡ size T.count
        two = sym (W.size-pending i)

        v : List ℕ
        v = put_sec size (suc T.count) (rows k i) w

        lv : length v ≡ off size all
        lv = length-put_sec size all w h.long (suc T.count) (rows k i) (omega arith) rows-len

        h' : Own (moment_of T U n l (suc k)) i w
        h' = subst (λ t. Own t i w) (sym (moment-echo (suc k) e)) h

        u : List ℕ
        u = put_sec size T.count (0 ∷ 0 ∷ []) v

        -- which of the two
        which : (s : ℕ) → s < all → (b : Bool) → eqb s T.count ≡ b → ltb s T.count ≡ false
            → sec size s u ≡ pick b (0 ∷ 0 ∷ []) (rows k i)
        which s ls true q f =
            subst (λ t. sec size t u ≡ 0 ∷ 0 ∷ []) (sym (eqb-true s T.count q))
            (sec-same size all v lv T.count (0 ∷ 0 ∷ []) (omega arith) two)
        which s ls false q f =
            let p : suc T.count ≡ s = omega (arith, eqb-false s T.count q, ltb-false s T.count f) in
            sec-other size all v lv s T.count (0 ∷ 0 ∷ []) (omega arith) (eqb-false s T.count q) two
            ∙ subst (λ t. sec size t v ≡ rows k i) p (sec-same size all w h.long (suc T.count) (rows k i) (omega arith) rows-len)

        t : ℕ
        t = moment_of T U n l (suc k)

        go : (s : ℕ) → s < all → (b : Bool) → ltb s T.count ≡ b → pick b (U.ready t s) (is_echo T (suc k)) ≡ true
            → sec size s u ≡ pick b (U.val t i s) (pick (eqb s T.count) (0 ∷ 0 ∷ []) (rows k i))
        go s ls true q r =
            let ls' : s < T.count = ltb-true s T.count q in
            sec-other size all v lv s T.count (0 ∷ 0 ∷ []) (omega arith) (λ p. omega arith) two
            ∙ sec-other size all w h.long s (suc T.count) (rows k i) (omega arith) (λ p. omega arith) rows-len
            ∙ h'.has s ls' r
        go s ls false q r = which s ls (eqb s T.count) refl q

    -- and what is read there
    holds-hashes : (w : List ℕ) → Is (suc k) i w → hashes T (frame n l i) w ≡ rows k i
    unfolding hashes ready_of val_of
    holds-hashes w h =
        h.has (suc T.count) (omega arith) (rw (le-ltb (suc T.count) T.count (omega arith)) e)
        ∙ rw (le-ltb (suc T.count) T.count (omega arith), ne_eqb (suc T.count) T.count (λ p. omega arith)) refl

    holds-none : (w : List ℕ) → Is (suc k) i w → (pending T (suc k) (frame n l i) w).code ≡ 0
    unfolding pending ready_of val_of
    holds-none w h =
        ap (λ (x : List ℕ). (waiting (T.recv k).faults n x).code)
        (h.has T.count (omega arith) (rw (le-ltb T.count T.count (le_refl T.count)) e)
        ∙ rw (le-ltb T.count T.count (le_refl T.count), eq-eqb T.count T.count refl) refl)
        ∙ waiting_none (T.recv k).faults n

  -- ---- what is received
  abbrev Mails : ℕ → ℕ → (ℕ → List ℕ) → Type 0
  Mails k i m = Mail n (S.sent k) i m

  sent-plain : (k j r : ℕ) → is_echo T k ≡ false → U.sent k j r ≡ sent_of T U n l k j r
  unfolding sent_of
  sent-plain k j r e = rw e refl

  mail-plain : (k i : ℕ) (m : ℕ → List ℕ) → is_echo T k ≡ false → Mails k i m → Mail n (U.sent k) i m
  mail-plain k i m e M j lj ne = M j lj ne ∙ sym (sent-plain k j i e)

  mail-echo : (k i : ℕ) (m : ℕ → List ℕ) → is_echo T (suc k) ≡ true → Mails (suc k) i m
      → (j : ℕ) → j < n → i ≢ j → m j ≡ T.echo.write n j (rows k j) i
  unfolding sent_of
  mail-echo k i m e M j lj ne = M j lj ne ∙ rw e refl

  pass-plain : (k : ℕ) → is_echo T k ≡ false → Heard n l (store_of T U n l) (T.recv k) ((T.send k).len n l) (U.sent k) (due k)
      → Passes P n l L S k
  unfolding len_of form_at sent_of check_of
  pass-plain k e H = record {
    lens = λ j r lj lr ne. rw e (H.lens j r lj lr ne);
    formed = λ i j li lj ne. rw e (H.formed i j li lj ne);
    passes = λ i li w K m M. rw e (go (to_echo T two k) i li w K m M);
  }
    where
      go : (b : Bool) (i : ℕ) → i < n → (w : List ℕ) → Is k i w → (m : ℕ → List ℕ) → Mails k i m
          → (pick b none? ((T.recv k).judge (frame n l i) w m)).code ≡ 0
      go true i li w K m M = refl
      go false i li w K m M =
          H.judged i li w (subst (λ t. Own t i w) (moment-plain k e) (to-own k i w K)) m (mail-plain k i m e M)

  module _ (k : ℕ) (e : is_echo T (suc k) ≡ true) (len : (j : ℕ) → j < n → length (U.hashed k j) ≡ 16) where
    full : (i : ℕ) → length (rows k i) ≡ n * 16
    full i = length-rows (frame n l i) (U.hashed k) (λ j lj ne. len j lj)

    row_at : (i j : ℕ) → j < n → i ≢ j → chunk 16 j (rows k i) ≡ U.hashed k j
    row_at i j lj ne = chunk-rows (frame n l i) (U.hashed k) (λ j lj ne. len j lj) j lj ne

    echo-clean : (i : ℕ) → i < n → (w : List ℕ) → Is (suc k) i w → (m : ℕ → List ℕ) → Mails (suc k) i m
        → (echo_check T (suc k) (frame n l i) w m).code ≡ 0
    unfolding echo_check
    echo-clean i li w K m M =
        ap (λ (x : Fault). x.code) (or-none _ (pending T (suc k) (frame n l i) w) (by-none (frame n l i) _ each))
        ∙ holds-none k i e len w K
      where
        each : (j : ℕ) → j < n → i ≢ j → T.echo.fault n i j (hashes T (frame n l i) w) (m j) ≡ 0
        each j lj ne =
            ap₂ (λ (x y : List ℕ). T.echo.fault n i j x y) (holds-hashes k i e len w K) (mail-echo k i m e M j lj ne)
            ∙ W.echo.passes i j li lj ne (rows k i) (rows k j) (full i) (full j)
            (λ r lr ni nj. row_at i r lr ni ∙ sym (row_at j r lr nj))

    pass-echo : Passes P n l L S (suc k)
    unfolding len_of form_at sent_of check_of
    pass-echo = record {
      lens = λ j r lj lr ne. rw e (W.echo.lens j r lj lr ne (rows k j) (full j));
      formed = λ i j li lj ne. rw e (W.echo.formed j i lj li (λ q. ne (sym q)) (rows k j) (full j));
      passes = λ i li w K m M. rw e (echo-clean i li w K m M);
    }

  -- ---- a call that makes the messages of a plain round
  module _ (k to : ℕ) (ne : k ≢ T.order.last) (q : to_echo T two k ≡ false) (x : next_of T two k ≡ suc to) where
    loan-made : L k ≡ U.loan (suc to)
    unfolding loans_of
    loan-made = ap U.loan x

    abbrev got : ℕ → List ℕ → (ℕ → List ℕ) → List ℕ
    got i w m = pick (is_echo T k) w ((T.recv k).keep (frame n l i) w m)

    -- the work area afterwards
    abbrev area : ℕ → List ℕ → (ℕ → List ℕ) → List ℕ
    area i w m = (T.send (suc to)).keep (frame n l i) (U.loan (suc to)) (got i w m)

    made-is : (i : ℕ) (w : List ℕ) (m : ℕ → List ℕ)
        → made T k (frame n l i) (L k) w m ≡ area i w m
    unfolding made
    made-is i w m = ap₂ (λ j q. (T.send j).keep (frame n l i) q (got i w m)) x loan-made

    keep-made : (i : ℕ) (w : List ℕ) (m : ℕ → List ℕ)
        → keep_of T k (frame n l i) (L k) w m ≡ area i w m
    unfolding keep_of
    keep-made i w m = rw (ne_eqb k T.order.last ne, q) (made-is i w m)

    write-made : (i : ℕ) (w : List ℕ) (m : ℕ → List ℕ)
        → write_of T k (frame n l i) (L k) w m
        ≡ to_others n i ((T.send (suc to)).write (frame n l i) (U.loan (suc to)) (area i w m))
    unfolding write_of
    write-made i w m =
        rw (ne_eqb k T.order.last ne, q, made-is i w m)
        (ap₂ (λ j q. to_others n i ((T.send j).write (frame n l i) q (area i w m))) x loan-made)

    middle-made : is_echo T (suc to) ≡ false → Passes P n l L S k → SendAt T U n l (suc to)
        → ((i : ℕ) → i < n → (w : List ℕ) → Is k i w → (m : ℕ → List ℕ) → Mails k i m → Own (before (suc to)) i (got i w m))
        → Middle P n l L S k
    middle-made e A H G = record {
      pass = A;
      to = to;
      to_is = x;
      keeps = λ i li w K m M. rw (keep-made i w m) (to-sheet (suc to) i _ e (next i li w K m M));
      writes = λ i li w K m M. write-made i w m ∙ to_others-ext n i _ _
          (λ r lr nr. H.writes i r li lr nr _ (next i li w K m M) ∙ sent-plain (suc to) i r e);
    }
      where
        next : (i : ℕ) → i < n → (w : List ℕ) → Is k i w → (m : ℕ → List ℕ) → Mails k i m
            → Own (due (suc to)) i (area i w m)
        next i li w K m M = H.keeps i li (got i w m) (G i li w K m M)

  -- ---- THE FOUR KINDS OF CALLS
  -- for a plain round, when no echo follows
  pub middle-plain : (k : ℕ) → k < T.order.last → is_echo T k ≡ false → to_echo T (eqb n 2) k ≡ false → RecvAt T U n l k
      → SendAt T U n l (plain_after T k) → Middle (protocol_of T) n l (loans_of T U n l) (sheet_of T U n l) k
  unfolding plain_after
  middle-plain k lk e q R H =
      let x = next-plain T n l W k lk q in
      middle-made k _ (λ p. omega arith) q x.0 x.1 (pass-plain k e R.heard) H
      (λ i li w K m M. rw e (R.keeps i li w (subst (λ t. Own t i w) (moment-plain k e) (to-own k i w K)) m (mail-plain k i m e M)))

  -- for a plain round, when its echo follows
  pub middle-held : (k : ℕ) → k < T.order.last → is_echo T k ≡ false → to_echo T (eqb n 2) k ≡ true → RecvAt T U n l k → ListAt T U n l k
      → Middle (protocol_of T) n l (loans_of T U n l) (sheet_of T U n l) k
  middle-held k lk e q R E = record {
    pass = pass-plain k e R.heard;
    to = k;
    to_is = c.0;
    keeps = λ i li w K m M. rw (keep-is i li w K m M) (to_held k i c.1 E.size _ (area i li w K m M));
    writes = λ i li w K m M. write-is i w m ∙ ap (λ (x : List ℕ). to_others n i (T.echo.write n i x)) (digests-are i li m M) ∙ sent_is i;
  }
    where
      ne : k ≢ T.order.last
      ne p = omega arith

      c : (next_of T two k ≡ suc k) × (is_echo T (suc k) ≡ true)
      c = next-echo T n l W two k lk q

      digests-are : (i : ℕ) → i < n → (m : ℕ → List ℕ) → Mails k i m → digests T k (frame n l i) m ≡ rows k i
      digests-are i li m M = unfold digests in rows_ext (frame n l i) _ (U.hashed k)
          (λ j lj nj. ap ((T.recv k).digest (frame n l i)) (mail-plain k i m e M j lj nj) ∙ E.hashes i j li lj nj)

      own : (i : ℕ) (w : List ℕ) → Is k i w → Own (due k) i w
      own i w K = subst (λ t. Own t i w) (moment-plain k e) (to-own k i w K)

      after : plain_after T k ≡ suc (suc k)
      after = unfold plain_after in rw c.1 refl

      area : (i : ℕ) → i < n → (w : List ℕ) → Is k i w → (m : ℕ → List ℕ) → Mails k i m
          → Own (before (suc (suc k))) i ((T.recv k).keep (frame n l i) w m)
      area i li w K m M =
          subst (λ t. Own (before t) i ((T.recv k).keep (frame n l i) w m)) after (R.keeps i li w (own i w K) m (mail-plain k i m e M))

      clean : (i : ℕ) → i < n → (w : List ℕ) → Is k i w → (m : ℕ → List ℕ) → Mails k i m
          → eqb ((T.recv k).judge (frame n l i) w m).code 0 ≡ true
      clean i li w K m M = eq-eqb _ 0 (R.heard.judged i li w (own i w K) m (mail-plain k i m e M))

      keep-is : (i : ℕ) → i < n → (w : List ℕ) → Is k i w → (m : ℕ → List ℕ) → Mails k i m
          → (let f : Frame = frame n l i in
          keep_of T k f (L k) w m
          ≡ put_sec (T.size f) T.count (0 ∷ 0 ∷ []) (put_sec (T.size f) (suc T.count) (rows k i) ((T.recv k).keep f w m)))
      keep-is i li w K m M =
          unfold keep_of for_echo waits if_clean in rw (ne_eqb k T.order.last ne, q, clean i li w K m M, digests-are i li m M) refl

      write-is : (i : ℕ) (w : List ℕ) (m : ℕ → List ℕ)
          → write_of T k (frame n l i) (L k) w m ≡ to_others n i (T.echo.write n i (digests T k (frame n l i) m))
      write-is i w m = unfold write_of in rw (ne_eqb k T.order.last ne, q) refl

      sent_is : (i : ℕ) → to_others n i (T.echo.write n i (rows k i)) ≡ to_others n i (sent_of T U n l (suc k) i)
      sent_is i = to_others-ext n i _ _ (λ r lr nr. unfold sent_of in rw c.1 refl)

  -- for an echo
  pub middle-echo : (k : ℕ) → suc k ≤ T.order.last → is_echo T (suc k) ≡ true → ((j : ℕ) → j < n → length (U.hashed k j) ≡ 16)
      → SendAt T U n l (suc (suc k)) → Middle (protocol_of T) n l (loans_of T U n l) (sheet_of T U n l) (suc k)
  middle-echo k lk e len H =
      middle-made (suc k) (suc k) ne (unfold to_echo in ap (λ b. not two && b) single ∙ and-false (not two))
      (next-on T n l W two (suc k) (omega (arith, ne)) (ap (λ b. two && b) single ∙ and-false two)) single (pass-echo k e len) H
      (λ i li w K m M. rw e (subst (λ t. Own t i w) (moment-echo (suc k) e) (to-own (suc k) i w K)))
    where
      ne : suc k ≢ T.order.last
      ne = echo-not-last T n l W (suc k) e

      single : is_echo T (suc (suc k)) ≡ false
      single = no-two T n l W (suc k) lk e

  -- for the last round
  pub last-call : LastAt T U n l T.order.last → Last (protocol_of T) n l (loans_of T U n l) (sheet_of T U n l) T.order.last
  unfolding next_in write_of
  last-call H = record {
    pass = pass-plain T.order.last e H.heard;
    to_is = rw (le-leb T.order.last T.order.last (omega arith)) refl;
    writes = λ i li w K m M. rw (eq-eqb T.order.last T.order.last refl)
        (H.results i li w (subst (λ t. Own t i w) (moment-plain T.order.last e) (to-own T.order.last i w K)) m
        (mail-plain T.order.last i m e M));
  }
    where
      e : is_echo T T.order.last ≡ false
      e = last-plain T n l W

  -- ---- THE WHOLE SESSION
  -- after opening
  pub known-first : (G : Joint) → ((i : ℕ) → i < n → Known n l (store_of T U n l) (due 1) i (G.work i))
      → ((j : ℕ) → j < n → G.out j ≡ to_others n j (U.sent 1 j))
      → Holds (protocol_of T) n l (loans_of T U n l) (sheet_of T U n l) (number_of T (eqb n 2) 0) G
  unfolding number_of
  known-first G K M = (
    λ i li. to-sheet 1 i (G.work i) (first_plain T n l W) (K i li),
    λ j lj. M j lj ∙ to_others-ext n j _ _ (λ r lr ne. sent-plain 1 j r (first_plain T n l W)),
  )

  module _ (H : Honest T U n l) where
    abbrev Plain : ℕ → Type 0
    Plain k = (0 < k) × (k < T.order.last) × (is_echo T k ≡ false)

    listed : (k : ℕ) → Plain k → mem k H.plain ≡ true
    listed k h = go (eqb k 0) refl (of-all T.order.last _ H.whole k h.1)
      where
        go : (b : Bool) → eqb k 0 ≡ b → pick b true (pick (is_echo T k) true (mem k H.plain)) ≡ true → mem k H.plain ≡ true
        go true e t = absurd (let z : k ≡ 0 = eqb-true k 0 e in omega (arith, h.0))
        go false e t = rw h.2 at t

    recv-of : (k : ℕ) → Plain k → RecvAt T U n l k
    recv-of k h = every-mem (RecvAt T U n l) H.plain H.recv k (listed k h)

    send-of : (k : ℕ) → Plain k → SendAt T U n l (plain_after T k)
    send-of k h = every-mem (λ k. SendAt T U n l (plain_after T k)) H.plain H.send k (listed k h)

    list_of : (k : ℕ) → is_echo T k ≡ true → ListAt T U n l (prior k)
    unfolding echo_in
    list_of k e = every-mem (λ k. ListAt T U n l (prior k)) T.order.echoes H.lists k e

    abbrev Good : ℕ → Type 0
    Good k = HonestRound P n l L (Holds P n l L S) k

    -- the round before an echo is plain
    before-echo : (k : ℕ) → suc k ≤ T.order.last → is_echo T (suc k) ≡ true → Plain k
    before-echo zero lk e = absurd (true-false (sym e ∙ first_plain T n l W))
    before-echo (suc k) lk e = (omega arith, lk, go (is_echo T (suc k)) refl)
      where
        go : (b : Bool) → is_echo T (suc k) ≡ b → b ≡ false
        go true z = absurd (true-false (sym e ∙ no-two T n l W (suc k) (omega arith) z))
        go false z = refl

    good-echo : (k : ℕ) → suc k ≤ T.order.last → is_echo T (suc k) ≡ true → Good (suc k)
    good-echo k lk e =
        let h : Plain k = before-echo k lk e in
        middle P n l L S (λ i. refl) k (middle-echo k lk e (list_of (suc k) e).size (subst (SendAt T U n l) after (send-of k h)))
      where
        after : plain_after T k ≡ suc (suc k)
        after = unfold plain_after in rw e refl

    good-plain : (k : ℕ) → Plain (suc k) → Good (suc k)
    good-plain k h = go (to_echo T two (suc k)) refl
      where
        go : (b : Bool) → to_echo T two (suc k) ≡ b → Good (suc k)
        go true q =
            let c = next-echo T n l W two (suc k) h.1 q in
            middle P n l L S (λ i. refl) k (middle-held (suc k) h.1 h.2 q (recv-of (suc k) h) (list_of (suc (suc k)) c.1))
        go false q = middle P n l L S (λ i. refl) k (middle-plain (suc k) h.1 h.2 q (recv-of (suc k) h) (send-of (suc k) h))

    good-last : (k : ℕ) → suc k ≡ T.order.last → Good (suc k)
    good-last k e =
        last P n l L S (λ i. refl) k (subst (Last P n l L S) (sym e) (last-call H.last))

    good : (k : ℕ) → round_in T.order two k ≡ true → Good k
    unfolding round_in
    good zero r = absurd (true-false (sym r ∙ never-zero T n l W))
    good (suc k) r = by-echo (is_echo T (suc k)) refl
      where
        lk : suc k ≤ T.order.last
        lk = leb-true _ _ (and_second (leb 1 (suc k)) _ (and_first (leb 1 (suc k) && leb (suc k) T.order.last) _ r))

        by_last : (b : Bool) → eqb (suc k) T.order.last ≡ b → is_echo T (suc k) ≡ false → Good (suc k)
        by_last true q e = good-last k (eqb-true _ _ q)
        by_last false q e = good-plain k (omega arith, omega (arith, lk, eqb-false (suc k) T.order.last q), e)

        by-echo : (b : Bool) → is_echo T (suc k) ≡ b → Good (suc k)
        by-echo true e = good-echo k lk e
        by-echo false e = by_last (eqb (suc k) T.order.last) refl e

    -- what the engine asks of the rounds
    pub honest-rounds : (d : ℕ) → d < steps_of T (eqb n 2)
        → (let P : Protocol = protocol_of T in
        let L : ℕ → Loan = loans_of T U n l in
        HonestRound P n l L (Holds P n l L (sheet_of T U n l)) (number_of T (eqb n 2) d))
    honest-rounds d h = good (number_of T two d) (round-at T n l W d h)
