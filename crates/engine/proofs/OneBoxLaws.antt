-- Calls of one box: each round is accepted once, so a list of calls reads what is received in it.
use Rattle.std.specs.Prelude.{◌≡◌, Bool, ◌&&◌, ◌≢◌, List, [], ◌∷◌, ℕ, suc, ◌<◌, ◌≤◌, leb, eqb}
use Rattle.std.proofs.Math.Path.{refl}
use Rattle.std.proofs.Common.{sym, ap, ◌∙◌, subst, eq-eqb, ne_eqb, eqb-true}
use Rattle.std.proofs.Math.Bool.{true, false}
use native.Mathlib.Omega.{arith}
use Rattle.std.proofs.lemmas.Bool.{eqb-false}
use Rattle.lists.specs.Pick.{pick}
use Rattle.lists.specs.All.{true-false, and-false}
use Rattle.batches.specs.Batches.{whole}
use Rattle.engine.specs.Step.{Frame, frame, Session, Loan, Reply, Outcome, Protocol}
use Rattle.engine.specs.Step.{accepted, round_spec}
use Rattle.engine.proofs.RoundLaws.{round-faults, round-cases, Due, due_of_lem}
use Rattle.engine.specs.World.{Box, turned_box, session_of}
use Rattle.engine.specs.Order.{round_in, next_in}
use Rattle.engine.specs.Plain.{Table, is_echo, next_of, protocol_of}
use Rattle.engine.specs.OneBox as One
use Rattle.engine.specs.OneBox.{Turn, turn_box, Reads, AllRead, taken}

module _ (T : Table) (n l i : ℕ) where
  abbrev f : Frame
  f = frame n l i

  abbrev two : Bool
  two = eqb n 2

  abbrev P : Protocol
  P = protocol_of T

  abbrev answer : Box → Turn → Reply
  answer = One.answer T n l i

  abbrev received : Box → List Turn → ℕ → ℕ → List ℕ
  received = One.received T n l i

  abbrev lent_with : Box → List Turn → ℕ → Loan
  lent_with = One.lent_with T n l i

  -- the box's counts
  module _ (counts : List ℕ) where
    -- ---- the round that is due only grows
    pub data Turned (k a : ℕ) (v : Reply) : Session → Type 0 where
      stays : taken v ≡ false → Turned k a v (session_of n l counts i k)
      stops : taken v ≡ false → Turned k a v (session_of n l counts i 0)
      goes : taken v ≡ true → a ≡ k → k ≢ 0 → Turned k a v (session_of n l counts i (next_of T two a))

    -- no session with round 0 due is alive
    pub alive-some : (k : ℕ) → P.alive (session_of n l counts i k) ≡ true → k ≢ 0
    unfolding round_in
    alive-some k h e = true-false (sym (subst (λ k. P.alive (session_of n l counts i k) ≡ true) e h) ∙ and-false (T.fine f && whole l counts))

    module _ (x : Box) (k : ℕ) (c : Turn) where
      abbrev s : Session
      s = session_of n l counts i k

      abbrev Q : Outcome → Type 0
      Q r = Turned k c.number r.reply (turned_box x r r.reply).session

      turned-at : Q (round_spec P (session_of n l counts i k) c.number c.lent x.work)
      unfolding accepted
      turned-at =
          round-cases P s c.number c.lent x.work Q (λ ne. stays refl)
          (λ z ne. rw (round-faults P s c.number c.lent x.work z ne) (stops refl))
          (λ z g.
          let v : Due P s c.number c.lent = due_of_lem P s c.number c.lent x.work z in
          goes refl v.number (alive-some k v.alive))

    turned : (x : Box) (k : ℕ) (c : Turn) → x.session ≡ session_of n l counts i k → Turned k c.number (answer x c) (turn_box P x c).session
    turned x k c e =
        subst (λ s. Turned k c.number (round_spec P s c.number c.lent x.work).reply
        (turned_box x (round_spec P s c.number c.lent x.work) (round_spec P s c.number c.lent x.work).reply).session)
        (sym e) (turned-at x k c)

    own-session : (k a : ℕ) (v : Reply) (s : Session) → Turned k a v s → s ≡ session_of n l counts i s.due
    own-session k a v s (stays t) = refl
    own-session k a v s (stops t) = refl
    own-session k a v s (goes t e ne) = refl

    grows : (k : ℕ) → next_of T two k ≢ 0 → k < next_of T two k
    unfolding next_in
    grows k = go (leb T.order.last k) (two && is_echo T (suc k))
      where
        go : (b c : Bool) → pick b 0 (pick c (suc (suc k)) (suc k)) ≢ 0 → k < pick b 0 (pick c (suc (suc k)) (suc k))
        go true c h = absurd (h refl)
        go false true h = omega arith
        go false false h = omega arith

    -- ---- what is read depends on the rounds to come alone
    -- two families of messages and of loans agree from round k on
    pub record AgreeFrom (k : ℕ) (m m' : ℕ → ℕ → List ℕ) (q q' : ℕ → Loan) : Type 0 where
      pub mail : k ≢ 0 → (r j : ℕ) → k ≤ r → m r j ≡ m' r j
      pub loans : k ≢ 0 → (r : ℕ) → k < r → q r ≡ q' r
      pub last : k ≢ 0 → q 0 ≡ q' 0

    same_next : (k a : ℕ) (m m' : ℕ → ℕ → List ℕ) (q q' : ℕ → Loan) → a ≡ k → k ≢ 0 → AgreeFrom k m m' q q'
        → AgreeFrom (next_of T two a) m m' q q'
    same_next k a m m' q q' e ne S = record {
      mail = λ h r j le. S.mail ne r j (omega (arith, grows a h));
      loans = λ h r le. S.loans ne r (omega (arith, grows a h));
      last = λ h. S.last ne;
    }

    same-zero : (m m' : ℕ → ℕ → List ℕ) (q q' : ℕ → Loan) → AgreeFrom 0 m m' q q'
    same-zero m m' q q' = record { mail = λ h. absurd (h refl); loans = λ h. absurd (h refl); last = λ h. absurd (h refl) }

    -- a call that was accepted is one for the round that is due
    module _ (m m' : ℕ → ℕ → List ℕ) (q q' : ℕ → Loan) where
      loan-next : (k a : ℕ) → a ≡ k → k ≢ 0 → AgreeFrom k m m' q q' → q (next_of T two a) ≡ q' (next_of T two a)
      loan-next k a e ne S = go (eqb (next_of T two a) 0) refl
        where
          go : (b : Bool) → eqb (next_of T two a) 0 ≡ b → q (next_of T two a) ≡ q' (next_of T two a)
          go true z = let p : next_of T two a ≡ 0 = eqb-true _ 0 z in ap q p ∙ S.last ne ∙ ap q' (sym p)
          go false z = S.loans ne _ (omega (arith, grows a (eqb-false _ 0 z)))

      reads-ext : (x : Box) (c : Turn) (k : ℕ) (s : Session) → Turned k c.number (answer x c) s → AgreeFrom k m m' q q'
          → Reads T n l i m q x c → Reads T n l i m' q' x c
      reads-ext x c k s (stays t) S r acc = absurd (true-false (sym (ap taken acc) ∙ t))
      reads-ext x c k s (stops t) S r acc = absurd (true-false (sym (ap taken acc) ∙ t))
      reads-ext x c k s (goes t e ne) S r acc =
          (λ j. (r acc).0 j ∙ S.mail ne c.number j (omega (arith, e)), (r acc).1 ∙ loan-next k c.number e ne S)

      same-turned : (k a : ℕ) (v : Reply) (s : Session) → Turned k a v s → AgreeFrom k m m' q q' → AgreeFrom s.due m m' q q'
      same-turned k a v s (stays t) S = S
      same-turned k a v s (stops t) S = same-zero m m' q q'
      same-turned k a v s (goes t e ne) S = same_next k a m m' q q' e ne S

      all-ext : (cs : List Turn) (x : Box) (k : ℕ) → x.session ≡ session_of n l counts i k → AgreeFrom k m m' q q'
          → AllRead T n l i m q x cs → AllRead T n l i m' q' x cs
      all-ext [] x k e S r = tt
      all-ext (c ∷ cs) x k e S r =
          let t = turned x k c e in
          let y : Box = turn_box P x c in
          (reads-ext x c k _ t S r.0, all-ext cs y y.session.due (own-session k _ _ _ t) (same-turned k _ _ _ t S) r.1)

    -- ---- a list of calls reads what is received in it
    same-tail : (x : Box) (c : Turn) (cs : List Turn) (k : ℕ) (s : Session) → Turned k c.number (answer x c) s
        → AgreeFrom s.due (received (turn_box P x c) cs) (received x (c ∷ cs)) (lent_with (turn_box P x c) cs) (lent_with x (c ∷ cs))
    same-tail x c cs k s (stays t) = record { mail = λ h r j le. rw t refl; loans = λ h r le. rw t refl; last = λ h. rw t refl }
    same-tail x c cs k s (stops t) = record { mail = λ h r j le. rw t refl; loans = λ h r le. rw t refl; last = λ h. rw t refl }
    same-tail x c cs k s (goes t e ne) =
        let v : Bool = taken (answer x c) in
        let to : ℕ = next_of T two c.number in
        record {
          mail = λ h r j le. rw (ne_eqb r c.number (λ p. omega (arith, grows c.number h)), and-false v) refl;
          loans = λ h r le. rw (ne_eqb r to (λ p. omega arith), and-false v) refl;
          last = λ h. rw (ne_eqb 0 to (λ p. h (sym p)), and-false v) refl;
        }

    pub all-received : (cs : List Turn) (x : Box) (k : ℕ) → x.session ≡ session_of n l counts i k
        → AllRead T n l i (received x cs) (lent_with x cs) x cs
    all-received [] x k e = tt
    all-received (c ∷ cs) x k e =
        let t = turned x k c e in
        let y : Box = turn_box P x c in
        let own = own-session k _ _ _ t in
        let a : ℕ = c.number in
        let to : ℕ = next_of T two c.number in (
          λ acc. (λ j. rw (acc, eq-eqb a a refl) refl, rw (acc, eq-eqb to to refl) refl),
          all-ext (received y cs) (received x (c ∷ cs)) (lent_with y cs) (lent_with x (c ∷ cs)) cs y y.session.due own
              (same-tail x c cs k _ t)
              (all-received cs y y.session.due own),
        )
