-- One box and any list of round calls, whatever the others sent: what its work area holds and what it wrote, of what it was opened with,
-- what it was lent and the messages that it received. What a table of rounds owes for that, and that it then holds after every list.
use Rattle.std.specs.Prelude.{◌≡◌, Bool, ◌&&◌, ◌≢◌, length}
use Rattle.std.proofs.Math.Path.{refl, sym, ap, ap₂, subst, fun_ext}
use Rattle.std.proofs.Common.{◌∙◌}
use Rattle.std.proofs.Math.Bool.{true, false, not}
use mathlib.Core.List.{List, [], ◌∷◌}
use Prim.Native.Nat.{ℕ, zero, suc, ◌*◌, ◌<◌, ◌≤◌}
use native.Mathlib.Omega.{arith}
use Rattle.std.proofs.Math.ListN.{replicate}
use Rattle.std.proofs.lemmas.List.{length-replicate}
use Rattle.std.proofs.Math.Dec.{leb, eqb}
use borrow.Author.Tests.{le-leb, eqb-true, eqb-false, eq-eqb, ne_eqb}
use Rattle.lists.specs.Pick.{pick}
use Rattle.lists.specs.All.{all_of, of-all, true-false, and-false}
use Rattle.engine.specs.Step.{Frame, frame, Session, Loan, Lent, Accepted, Outcome, Fault, Protocol, mask, part, reason_of}
use Rattle.engine.specs.Step.{fault_of, accepted, round_spec}
use Rattle.engine.specs.StepLaws.{last_or, or-zero, fault-clean, mask_at}
use Rattle.engine.proofs.RoundLaws.{round-faults, round-cases, Due, due_of_lem}
use Rattle.engine.specs.World.{Box, turned_box, session_of}
use Rattle.engine.specs.OneBox.{Turn, turn_box, turns, Reads, AllRead}
use Rattle.engine.proofs.OneBoxLaws.{alive-some}
use Rattle.engine.specs.Area.{off, put_sec, length-put_sec, sec-other, to_others, to_others-ext, mem, Every, every-mem}
use Rattle.engine.specs.Sheet.{Store, Known}
use Rattle.engine.specs.Order.{next_in}
use Rattle.engine.specs.Plain.{Table, prior, is_echo, next_of, number_of, to_echo, lent_of, form_at, pending, digests, echo_check}
use Rattle.engine.specs.Plain.{check_of, waits, if_clean, for_echo, made, keep_of, write_of, protocol_of}
use Rattle.engine.specs.Honest.{Lawful, before, due, plain_after}
use Rattle.engine.proofs.PlainLaws.{length-rows, held-waits, first_plain, no-two, echo-not-last, next-on, next-echo, next-plain}
use Rattle.engine.specs.Alone.{Tale}

module _ (T : Table) (n l i : ℕ) (U : Tale) (m : ℕ → ℕ → List ℕ) (q : ℕ → Loan) where
  abbrev f : Frame
  f = frame n l i

  abbrev two : Bool
  two = eqb n 2

  abbrev P : Protocol
  P = protocol_of T

  -- ---- what is claimed
  abbrev pub store : Store
  store = record { total = suc (suc T.count); count = T.count; size = T.size; ready = U.ready; val = λ t i s. U.val s }

  -- the work area is as told at moment t
  abbrev pub At : ℕ → List ℕ → Type 0
  At t w = Known n l store t i w

  -- what the last accepted call wrote, when round k is due after it: the results, an echo, or the messages of round k
  unfoldable pub wrote_for : ℕ → List ℕ
  wrote_for k =
      pick (eqb k 0) U.result
      (to_others n i (pick (is_echo T k) (T.echo.write n i (digests T (prior k) f (m (prior k)))) (U.sent k)))

  -- the round that is due after the accepted calls, if the session did not end before
  abbrev pub due_at : Box → ℕ
  due_at x = number_of T two x.rounds

  -- the moment whose sections are all there when round k is due: of the round before an echo, what was received may still be dropped
  unfoldable pub sure_at : ℕ → ℕ
  sure_at k = pick (is_echo T k) (due (prior k)) (due k)

  -- of a box with these counts
  module _ (counts : List ℕ) where
    -- the session lives: that round is due, and the work area is as told
    pub record Lives (x : Box) : Type 0 where
      pub some : due_at x ≢ 0
      pub session-is : x.session ≡ session_of n l counts i (due_at x)
      pub known : At (sure_at (due_at x)) x.work

    -- it is done, or a received fault ended it
    pub record Over (x : Box) : Type 0 where
      pub session-is : x.session ≡ session_of n l counts i 0
      pub blank : x.work ≡ replicate (length x.work) 0

    pub data State (x : Box) : Type 0 where
      lives : Lives x → State x
      over : Over x → State x

    pub record Told (x : Box) : Type 0 where
      pub wrote-is : x.wrote ≡ wrote_for (due_at x)
      pub state : State x

  -- ---- WHAT THE ROUNDS OWE
  -- what is lent for round k, and what was received, has no fault
  abbrev pub LentFor : ℕ → Type 0
  LentFor k = (T.send k).lent n l (q k) ≡ 0

  abbrev pub Formed : ℕ → Type 0
  Formed k = (j : ℕ) → j < n → i ≢ j → (T.recv k).form f (m k j) ≡ 0

  abbrev pub Judged : ℕ → List ℕ → Type 0
  Judged k w = ((T.recv k).judge f w (m k)).code ≡ 0

  -- the messages of round k, which opening makes for k = 1, were made and received without a fault
  pub record Passed (k : ℕ) : Type 0 where
    pub lent : 1 < k → LentFor k
    pub formed : Formed k
    pub work : List ℕ
    pub known : At (due k) work
    pub judged : Judged k work

  -- all rounds before k that are no echoes were
  abbrev pub Past : ℕ → Type 0
  Past k = (j : ℕ) → 0 < j → j < k → is_echo T j ≡ false → Passed j

  -- what receiving round k keeps
  abbrev pub RecvAt : ℕ → Type 0
  RecvAt k = Past k → (p : Passed k) → At (before (plain_after T k)) ((T.recv k).keep f p.work (m k))

  -- what making the messages of round k keeps, and what is written
  pub record SendAt (k : ℕ) : Type 0 where
    pub keeps : Past k → LentFor k → (w : List ℕ) → At (before k) w → At (due k) ((T.send k).keep f (q k) w)
    pub writes : Past k → LentFor k → (w : List ℕ) → At (due k) w → (r : ℕ) → r < n → i ≢ r → (T.send k).write f (q k) w r ≡ U.sent k r

  -- what the last round writes
  abbrev pub LastAt : ℕ → Type 0
  LastAt k = Past k → (p : Passed k) → T.result f p.work (m k) ≡ U.result

  -- all rounds. plain: those that are no echoes, but for the last
  pub record Duties : Type 0 where
    pub lawful : Lawful T n l
    pub own : i < n
    pub tail : is_echo T (suc T.order.last) ≡ false
    pub grows : (s t u : ℕ) → t ≤ u → U.ready t s ≡ true → U.ready u s ≡ true
    pub digest-len : (k : ℕ) (x : List ℕ) → length ((T.recv k).digest f x) ≡ 16
    -- a content check finds one of its round's numbers, and names a party of the session
    pub finds : (k : ℕ) (w : List ℕ) (x : ℕ → List ℕ) → ((T.recv k).judge f w x).code ≢ 0
        → (mem ((T.recv k).judge f w x).code (T.recv k).faults ≡ true) × (((T.recv k).judge f w x).party < n)
    pub plain : List ℕ
    pub whole : all_of T.order.last (λ k. pick (eqb k 0) true (pick (is_echo T k) true (mem k plain))) ≡ true
    pub recv : Every RecvAt plain
    pub send : Every (λ k. SendAt (plain_after T k)) plain
    pub last : LastAt T.order.last

  -- ---- THE PROOF
  -- what is known besides, when round k is due
  pub record Plainly (k : ℕ) (w : List ℕ) : Type 0 where
    pub some : 0 < k
    pub low : k ≤ T.order.last
    pub plain : is_echo T k ≡ false
    pub past : Past k
    pub lent : 1 < k → LentFor k
    pub known : At (due k) w

  -- when the echo of round k is due: the work area w that round k was received with
  pub record Echoing (k : ℕ) (v : List ℕ) : Type 0 where
    pub work : List ℕ
    pub before : Plainly k work
    pub more : k < T.order.last
    pub echo : is_echo T (suc k) ≡ true
    pub formed : Formed k
    pub held-is : v ≡ for_echo T k f work (m k)

  pub data Stands (d : ℕ) : ℕ → List ℕ → Type 0 where
    plainly : {k : ℕ} {w : List ℕ} → number_of T two d ≡ k → Plainly k w → Stands d k w
    echoing : {k : ℕ} {w : List ℕ} → number_of T two d ≡ suc k → Echoing k w → Stands d (suc k) w
    ends : {w : List ℕ} → w ≡ replicate (length w) 0 → Stands d 0 w

  module _ (D : Duties) where
    abbrev W : Lawful T n l
    W = D.lawful

    abbrev PlainAt : ℕ → Type 0
    PlainAt k = (0 < k) × (k < T.order.last) × (is_echo T k ≡ false)

    listed : (k : ℕ) → PlainAt k → mem k D.plain ≡ true
    listed k h = go (eqb k 0) refl (of-all T.order.last _ D.whole k h.1)
      where
        go : (b : Bool) → eqb k 0 ≡ b → pick b true (pick (is_echo T k) true (mem k D.plain)) ≡ true → mem k D.plain ≡ true
        go true e t = absurd (let z : k ≡ 0 = eqb-true k 0 e in omega (arith, h.0))
        go false e t = rw h.2 at t

    recv-of : (k : ℕ) → PlainAt k → RecvAt k
    recv-of k h = every-mem RecvAt D.plain D.recv k (listed k h)

    send-of : (k : ℕ) → PlainAt k → SendAt (plain_after T k)
    send-of k h = every-mem (λ k. SendAt (plain_after T k)) D.plain D.send k (listed k h)

    -- ---- the rounds that are past
    past_next : (k : ℕ) → Past k → Passed k → Past (suc k)
    past_next k past p j h lt e = last_or j k Passed lt (λ lt. past j h lt e) p

    -- an echo is none of them
    past-echo : (k : ℕ) → is_echo T k ≡ true → Past k → Past (suc k)
    past-echo k echo past j h lt e =
        last_or j k (λ j. is_echo T j ≡ false → Passed j) lt (λ lt e. past j h lt e) (λ e. absurd (true-false (sym echo ∙ e))) e

    past_after : (k : ℕ) → Past k → Passed k → Past (plain_after T k)
    unfolding plain_after
    past_after k past p = go (is_echo T (suc k)) refl
      where
        go : (b : Bool) → is_echo T (suc k) ≡ b → Past (suc (pick b (suc k) k))
        go true e = past-echo (suc k) e (past_next k past p)
        go false e = past_next k past p

    -- ---- the two sections of the echoes lie behind those of the rounds
    at_held : (t : ℕ) (w x y : List ℕ) → At t w → length x ≡ 2 → length y ≡ n * 16
        → At t (put_sec (T.size f) T.count x (put_sec (T.size f) (suc T.count) y w))
    at_held t w x y K lx ly = record {
      long = length-put_sec size all v lv T.count x (omega arith) ex;
      has = λ s ls r.
          sec-other size all v lv s T.count x (omega arith) (λ p. omega arith) ex
          ∙ sec-other size all w K.long s (suc T.count) y (omega arith) (λ p. omega arith) ey
          ∙ K.has s ls r;
    }
      where
        size : ℕ → ℕ
        size = T.size f

        all : ℕ
        all = suc (suc T.count)

        ex : length x ≡ size T.count
        ex = lx ∙ sym (W.size-pending i)

        ey : length y ≡ size (suc T.count)
        ey = ly ∙ sym (W.size-hashes i)

        v : List ℕ
        v = put_sec size (suc T.count) y w

        lv : length v ≡ off size all
        lv = length-put_sec size all w K.long (suc T.count) y (omega arith) ey

    -- ---- the echo of round k passed: round k had no fault, and what was received is kept
    module _ (k : ℕ) (v : List ℕ) (E : Echoing k v) where
      judged-before : (pending T (suc k) f v).code ≡ 0 → Judged k E.work
      judged-before z = go (eqb code 0) refl
        where
          code : ℕ
          code = ((T.recv k).judge f E.work (m k)).code

          go : (b : Bool) → eqb code 0 ≡ b → code ≡ 0
          go true e = eqb-true code 0 e
          go false e =
              let found = D.finds k E.work (m k) (eqb-false code 0 e) in
              absurd (eqb-false code 0 e
              (ap (λ (x : Fault). x.code)
              (sym (held-waits T k f E.work (m k) E.before.known.long (W.size-pending i) (W.size-hashes i) (D.digest-len k)
              (eqb-false code 0 e) found.0 found.1))
              ∙ ap (λ (x : List ℕ). (pending T (suc k) f x).code) (sym E.held-is) ∙ z))

      passed-before : Judged k E.work → Passed k
      passed-before z = record { lent = E.before.lent; formed = E.formed; work = E.work; known = E.before.known; judged = z }

      known-after : Judged k E.work → At (before (plain_after T k)) v
      unfolding for_echo waits if_clean digests passed-before
      known-after z =
          let h : PlainAt k = (E.before.some, E.more, E.before.plain) in
          let K = recv-of k h E.before.past (passed-before z) in
          subst (At (before (plain_after T k))) (sym E.held-is)
          (rw (eq-eqb ((T.recv k).judge f E.work (m k)).code 0 z)
          (at_held (before (plain_after T k)) _ (0 ∷ 0 ∷ []) _ K refl (length-rows f _ (λ j lj ne. D.digest-len k (m k j)))))

      -- what was there stays, also where round k had a fault
      later : (t u : ℕ) (w : List ℕ) → t ≤ u → At u w → At t w
      later t u w le K = record { long = K.long; has = λ s ls r. K.has s ls (D.grows s t u le r) }

      after-le : due k ≤ before (plain_after T k)
      unfolding plain_after
      after-le = go (is_echo T (suc k))
        where
          go : (b : Bool) → due k ≤ before (suc (pick b (suc k) k))
          go true = omega arith
          go false = omega arith

      known-held : At (due k) v
      known-held = go (eqb ((T.recv k).judge f E.work (m k)).code 0) refl
        where
          go : (b : Bool) → eqb ((T.recv k).judge f E.work (m k)).code 0 ≡ b → At (due k) v
          go true e = later (due k) (before (plain_after T k)) v after-le (known-after (eqb-true _ 0 e))
          go false e = unfold for_echo waits if_clean digests in subst (At (due k)) (sym E.held-is)
              (rw e (at_held (due k) E.work _ _ E.before.known refl (length-rows f _ (λ j lj ne. D.digest-len k (m k j)))))

    -- ---- what an accepted call for round k leaves, after d others
    pub record Steps (d k : ℕ) (w : List ℕ) : Type 0 where
      pub stands : Stands (suc d) (next_of T two k) (keep_of T k f (q (next_of T two k)) w (m k))
      pub wrote : write_of T k f (q (next_of T two k)) w (m k) ≡ wrote_for (next_of T two k)

    -- it makes the messages of a plain round
    module _ (d k : ℕ) (w : List ℕ) (nk : number_of T two d ≡ k) (ne : k ≢ T.order.last) (on : to_echo T two k ≡ false) where
      abbrev j : ℕ
      j = next_of T two k

      abbrev got : List ℕ
      got = pick (is_echo T k) w ((T.recv k).keep f w (m k))

      abbrev work : List ℕ
      work = (T.send j).keep f (q j) got

      keep-is : keep_of T k f (q j) w (m k) ≡ work
      unfolding keep_of made
      keep-is = rw (ne_eqb k T.order.last ne, on) refl

      write-is : write_of T k f (q j) w (m k) ≡ to_others n i ((T.send j).write f (q j) work)
      unfolding write_of made
      write-is = rw (ne_eqb k T.order.last ne, on) refl

      makes : 0 < j → j ≤ T.order.last → is_echo T j ≡ false → Past j → lent_of T k n l (q j) ≡ 0 → SendAt j → At (before j) got
          → Steps d k w
      unfolding number_of wrote_for lent_of
      makes some low plain past z S K =
          let K' : At (due j) work = S.keeps past z got K in
          record {
            stands = subst (Stands (suc d) j) (sym keep-is) (plainly (ap (next_of T two) nk)
                (record { some = some; low = low; plain = plain; past = past; lent = λ h. z; known = K' }));
            wrote = write-is ∙ to_others-ext n i _ _ (λ r lr nr. S.writes past z work K' r lr nr)
                ∙ rw (ne_eqb j 0 (λ e. omega arith), plain) refl;
          }

    -- ---- for a plain round
    module _ (d k : ℕ) (w : List ℕ) (nk : number_of T two d ≡ k) (A : Plainly k w) (lent : lent_of T k n l (q (next_of T two k)) ≡ 0)
        (formed : Formed k) (clean : (check_of T k f w (m k)).code ≡ 0) where
      passed : to_echo T two k ≡ false → Passed k
      unfolding check_of
      passed on = record {
        lent = A.lent;
        formed = formed;
        work = w;
        known = A.known;
        judged = rw (A.plain, on) at clean;
      }

      not-last-echo : k ≡ T.order.last → to_echo T two k ≡ false
      unfolding to_echo
      not-last-echo p = rw (p, D.tail) (and-false (not two))

      at_last : k ≡ T.order.last → Steps d k w
      unfolding next_in keep_of write_of wrote_for passed
      at_last p =
          let z : eqb k T.order.last ≡ true = eq-eqb k T.order.last p in
          let y : leb T.order.last k ≡ true = le-leb T.order.last k (omega arith) in
          record {
            stands = rw (z, y) (ends (ap (λ c. replicate c 0) (sym (length-replicate {A = ℕ} (length w) 0))));
            wrote = rw (z, y) (subst LastAt (sym p) D.last A.past (passed (not-last-echo p)));
          }

      at-echo : k < T.order.last → to_echo T two k ≡ true → Steps d k w
      unfolding number_of keep_of write_of wrote_for
      at-echo lk te =
          let ne : k ≢ T.order.last = λ p. omega arith in
          let c = next-echo T n l W two k lk te in
          let r : eqb k T.order.last ≡ false = ne_eqb k T.order.last ne in
          let E : Echoing k (for_echo T k f w (m k)) =
          record { work = w; before = A; more = lk; echo = c.1; formed = formed; held-is = refl } in
          record {
            stands = rw (r, te, c.0) (echoing (ap (next_of T two) nk ∙ c.0) E);
            wrote = rw (r, te, c.0, ne_eqb (suc k) 0 (λ e. omega arith), c.1) refl;
          }

      at_plain : k < T.order.last → to_echo T two k ≡ false → Steps d k w
      unfolding passed
      at_plain lk te =
          let ne : k ≢ T.order.last = λ p. omega arith in
          let x = next-plain T n l W k lk te in
          let h : PlainAt k = (A.some, lk, A.plain) in
          let p : Passed k = passed te in
          makes d k w nk ne te (subst (λ j. 0 < j) (sym x.0) after-some) (subst (λ j. j ≤ T.order.last) (sym x.0) after-low)
          (ap (is_echo T) x.0 ∙ x.1) (subst Past (sym x.0) (past_after k A.past p)) lent (subst SendAt (sym x.0) (send-of k h))
          (subst (λ j. At (before j) (pick (is_echo T k) w ((T.recv k).keep f w (m k)))) (sym x.0)
          (rw A.plain (recv-of k h A.past p)))
        where
          after-some : 0 < plain_after T k
          after-some = unfold plain_after in omega arith

          after-low : plain_after T k ≤ T.order.last
          after-low = unfold plain_after in go (is_echo T (suc k)) refl
            where
              go : (b : Bool) → is_echo T (suc k) ≡ b → suc (pick b (suc k) k) ≤ T.order.last
              go true e = omega (arith, echo-not-last T n l W (suc k) e)
              go false e = omega arith

      pub step-plain : Steps d k w
      step-plain = by_last (eqb k T.order.last) refl
        where
          by-echo : k < T.order.last → (b : Bool) → to_echo T two k ≡ b → Steps d k w
          by-echo lk true e = at-echo lk e
          by-echo lk false e = at_plain lk e

          by_last : (b : Bool) → eqb k T.order.last ≡ b → Steps d k w
          by_last true e = at_last (eqb-true k T.order.last e)
          by_last false e = by-echo (omega (arith, A.low, eqb-false k T.order.last e)) (to_echo T two k) refl

    -- ---- for an echo
    module _ (d k : ℕ) (v : List ℕ) (nk : number_of T two d ≡ suc k) (E : Echoing k v)
        (lent : lent_of T (suc k) n l (q (next_of T two (suc k))) ≡ 0) (clean : (check_of T (suc k) f v (m (suc k))).code ≡ 0) where
      pub step-echo : Steps d (suc k) v
      unfolding check_of echo_check to_echo plain_after
      step-echo =
          let z : (echo_check T (suc k) f v (m (suc k))).code ≡ 0 = rw E.echo at clean in
          let g : Judged k E.work = judged-before k v E (or-zero _ (pending T (suc k) f v) z).1 in
          let ne : suc k ≢ T.order.last = echo-not-last T n l W (suc k) E.echo in
          let single : is_echo T (suc (suc k)) ≡ false = no-two T n l W (suc k) E.more E.echo in
          let x : next_of T two (suc k) ≡ suc (suc k) =
          next-on T n l W two (suc k) (omega (arith, ne, E.more)) (ap (λ b. two && b) single ∙ and-false two) in
          let after : plain_after T k ≡ suc (suc k) = rw E.echo refl in
          let h : PlainAt k = (E.before.some, E.more, E.before.plain) in
          let p : Passed k = passed-before k v E g in
          let to : ℕ = next_of T two (suc k) in
          let e : plain_after T k ≡ to = after ∙ sym x in
          makes d (suc k) v nk ne (ap (λ b. not two && b) single ∙ and-false (not two)) (subst (λ j. 0 < j) (sym x) (omega arith))
          (subst (λ j. j ≤ T.order.last) (sym x) (omega (arith, E.more))) (ap (is_echo T) x ∙ single)
          (subst Past e (past_after k E.before.past p)) lent (subst SendAt e (send-of k h))
          (rw E.echo (subst (λ j. At (before j) v) e (known-after k v E g)))

    -- ---- ANY CALL
    module _ (counts : List ℕ) where
      -- how a box stands
      pub record AsTold (x : Box) : Type 0 where
        pub number : ℕ
        pub session-is : x.session ≡ session_of n l counts i number
        pub stands : Stands x.rounds number x.work
        pub wrote-is : x.wrote ≡ wrote_for (due_at x)

      -- what an accepted call for round k is known to be, with the messages and the loan that it had
      pub record Allowed (k : ℕ) (w : List ℕ) (M : ℕ → List ℕ) (loan : Loan) : Type 0 where
        pub alive : P.alive (session_of n l counts i k) ≡ true
        pub lent : lent_of T k n l loan ≡ 0
        pub formed : is_echo T k ≡ false → (j : ℕ) → j < n → i ≢ j → (T.recv k).form f (M j) ≡ 0
        pub clean : (check_of T k f w M).code ≡ 0

      steps : (d k : ℕ) (w : List ℕ) → Stands d k w → Allowed k w (m k) (q (next_of T two k)) → Steps d k w
      steps d k w (plainly e A) t = step-plain d k w e A t.lent (t.formed A.plain) t.clean
      steps d (suc k) w (echoing e E) t = step-echo d k w e E t.lent t.clean
      steps d zero w (ends b) t = absurd (alive-some T n l i counts 0 t.alive refl)

      number-over : (d k : ℕ) (w : List ℕ) → Stands d k w → k ≢ 0 → number_of T two d ≡ k
      number-over d k w (plainly e A) ne = e
      number-over d (suc k) w (echoing e E) ne = e
      number-over d zero w (ends b) ne = absurd (ne refl)

      -- a message of a plain round is of that round's form
      formed-at : (k : ℕ) (lt : Lent) → is_echo T k ≡ false → (j : ℕ) → j < n → i ≢ j → form_at T k f (part lt j) ≡ 0
          → (T.recv k).form f (mask f (part lt) j) ≡ 0
      unfolding form_at
      formed-at k lt e j lj ne h =
          ap ((T.recv k).form f) (mask_at f (part lt) j lj ne)
          ∙ sym (ap (λ b. pick b (T.echo.form n (part lt j)) ((T.recv k).form f (part lt j))) e) ∙ h

      -- after it
      module _ (x : Box) (k : ℕ) (S : Stands x.rounds k x.work) (lt : Lent) where
        abbrev M : ℕ → List ℕ
        M = mask f (part lt)

        abbrev next : Box
        next = record {
          session = session_of n l counts i (next_of T two k);
          work = keep_of T k f lt.loan x.work M;
          rounds = suc x.rounds;
          wrote = write_of T k f lt.loan x.work M;
        }

        goes : Allowed k x.work M lt.loan → ((j : ℕ) → M j ≡ m k j) → lt.loan ≡ q (next_of T two k) → AsTold next
        unfolding number_of
        goes t em el =
            let e : M ≡ m k = fun_ext em in
            let t' : Allowed k x.work (m k) (q (next_of T two k)) =
            subst (Allowed k x.work (m k)) el (subst (λ (y : ℕ → List ℕ). Allowed k x.work y lt.loan) e t) in
            let s = steps x.rounds k x.work S t' in
            record {
              number = next_of T two k;
              session-is = refl;
              stands = subst (Stands (suc x.rounds) (next_of T two k))
                  (ap₂ (λ (y : ℕ → List ℕ) (p : Loan). keep_of T k f p x.work y) (sym e) (sym el)) s.stands;
              wrote-is = ap₂ (λ (y : ℕ → List ℕ) (p : Loan). write_of T k f p x.work y) e el ∙ s.wrote
                  ∙ ap (λ j. wrote_for (next_of T two j)) (sym (number-over x.rounds k x.work S (alive-some T n l i counts k t.alive)));
            }

      -- the call for round a in a session at round k
      module _ (x : Box) (k : ℕ) (S : Stands x.rounds k x.work) (wrote : x.wrote ≡ wrote_for (due_at x)) (a : ℕ) (lt : Lent) where
        abbrev s : Session
        s = session_of n l counts i k

        abbrev Read : Outcome → Type 0
        Read r = r.reply ≡ Accepted → ((j : ℕ) → mask f (part lt) j ≡ m a j) × (lt.loan ≡ q (next_of T two a))

        abbrev Q : Outcome → Type 0
        Q r = Read r → AsTold (turned_box x r r.reply)

        takes : (a : ℕ) → a ≡ k → Allowed k x.work (mask f (part lt)) lt.loan
            → ((j : ℕ) → mask f (part lt) j ≡ m a j) × (lt.loan ≡ q (next_of T two a))
            → AsTold (record {
              session = session_of n l counts i (next_of T two a);
              work = keep_of T a f lt.loan x.work (mask f (part lt));
              rounds = suc x.rounds;
              wrote = write_of T a f lt.loan x.work (mask f (part lt));
            })
        takes a e t =
            subst (λ a. ((j : ℕ) → mask f (part lt) j ≡ m a j) × (lt.loan ≡ q (next_of T two a))
            → AsTold (record {
              session = session_of n l counts i (next_of T two a);
              work = keep_of T a f lt.loan x.work (mask f (part lt));
              rounds = suc x.rounds;
              wrote = write_of T a f lt.loan x.work (mask f (part lt));
            })) (sym e) (λ r. goes x k S lt t r.0 r.1)

        accepts : reason_of P s a lt x.work ≡ 0 → (fault_of (P.rule a) f lt x.work).code ≡ 0 → Q (accepted P s a lt x.work)
        unfolding accepted
        accepts z g read =
            let v : Due P s a lt = due_of_lem P s a lt x.work z in
            let c = fault-clean (P.rule a) f lt x.work g in
            takes a v.number
            (subst (λ a. lent_of T a n l lt.loan ≡ 0 → ((j : ℕ) → j < n → i ≢ j → form_at T a f (part lt j) ≡ 0)
            → (check_of T a f x.work (mask f (part lt))).code ≡ 0
            → Allowed k x.work (mask f (part lt)) lt.loan) (sym v.number)
            (λ h1 h2 h3. record {
              alive = v.alive;
              lent = h1;
              formed = λ e j lj ne. formed-at k lt e j lj ne (h2 j lj ne);
              clean = h3;
            }) v.lent c.0 c.1)
            (read refl)

        faults : reason_of P s a lt x.work ≡ 0 → (fault_of (P.rule a) f lt x.work).code ≢ 0 → Q (round_spec P s a lt x.work)
        faults z ne =
            rw (round-faults P s a lt x.work z ne) (λ read. record {
              number = 0;
              session-is = refl;
              stands = ends (ap (λ c. replicate c 0) (sym (length-replicate {A = ℕ} (length x.work) 0)));
              wrote-is = wrote;
            })

        pub any-call : Q (round_spec P s a lt x.work)
        any-call =
            round-cases P s a lt x.work Q
            (λ ne read. record { number = k; session-is = refl; stands = S; wrote-is = wrote }) faults accepts

      pub still-told : (x : Box) (c : Turn) → AsTold x → Reads T n l i m q x c → AsTold (turn_box P x c)
      still-told x c F =
          subst (λ s. ((round_spec P s c.number c.lent x.work).reply ≡ Accepted
          → ((j : ℕ) → mask f (part c.lent) j ≡ m c.number j) × (c.lent.loan ≡ q (next_of T two c.number)))
          → AsTold (turned_box x (round_spec P s c.number c.lent x.work) (round_spec P s c.number c.lent x.work).reply))
          (sym F.session-is) (any-call x F.number F.stands F.wrote-is c.number c.lent)

      -- ---- AFTER ANY LIST OF CALLS
      told : (x : Box) → AsTold x → Told counts x
      unfolding sure_at
      told x F = record { wrote-is = F.wrote-is; state = go F.number F.session-is F.stands }
        where
          go : (k : ℕ) → x.session ≡ session_of n l counts i k → Stands x.rounds k x.work → State counts x
          go k p (plainly e A) = lives (record {
            some = λ z. omega (arith, e, z, A.some);
            session-is = p ∙ ap (session_of n l counts i) (sym e);
            known = subst (λ t. At (sure_at t) x.work) (sym e) (rw A.plain A.known);
          })
          go (suc k) p (echoing e E) = lives (record {
            some = λ z. omega (arith, e, z);
            session-is = p ∙ ap (session_of n l counts i) (sym e);
            known = subst (λ t. At (sure_at t) x.work) (sym e) (rw E.echo (known-held k x.work E));
          })
          go zero p (ends b) = over (record { session-is = p; blank = b })

      pub all_told : (cs : List Turn) (x : Box) → AsTold x → AllRead T n l i m q x cs → Told counts (turns P x cs)
      all_told [] x F r = told x F
      all_told (c ∷ cs) x F r = all_told cs (turn_box P x c) (still-told x c F r.0) r.1

      -- ---- after opening
      pub first : (x : Box) → 1 ≤ T.order.last → x.session ≡ session_of n l counts i 1 → x.rounds ≡ 0 → At (due 1) x.work
          → x.wrote ≡ to_others n i (U.sent 1) → AsTold x
      unfolding number_of wrote_for
      first x low s d K o = record {
        number = 1;
        session-is = s;
        stands = plainly (ap (number_of T two) d) (record {
          some = omega arith;
          low = low;
          plain = first_plain T n l W;
          past = λ j h lt. absurd (omega arith);
          lent = λ h. absurd (omega arith);
          known = K;
        });
        wrote-is = o ∙ rw (d, first_plain T n l W) refl;
      }
