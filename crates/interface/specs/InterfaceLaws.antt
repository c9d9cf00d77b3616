-- The calls for C against their definitions.
use Rattle.std.specs.Prelude.{◌≡◌, Bool, ◌&&◌, ◌||◌, ◌≢◌, ℕ, suc, ◌-◌, ◌<◌, ◌≤◌, length, get_or, take, drop, leb, eqb}
use Rattle.std.proofs.Math.Path.{refl, sym, ap}
use Rattle.std.proofs.Common.{ap₂, ◌∙◌, subst, length-drop}
use Rattle.std.proofs.Math.Bool.{true, false}
use mathlib.Core.List.{List}
use native.Mathlib.Omega.{arith}
use Rattle.std.proofs.Math.Seq.{take-length}
use borrow.Author.Tests.{eq-eqb, ne_eqb, eqb-true, eqb-false, leb-false, lt-ltb, le-ltb}
use Rattle.lists.specs.Pick.{pick}
use Rattle.lists.specs.All.{true-false}
use Rattle.batches.specs.Batches.{sum_of, counts_fault, tally}
use Rattle.batches.specs.BatchLaws.{length-tally}
use Rattle.batches.specs.BatchLaws as Batches
use Rattle.plan.specs.Plan.{echo?, in_range, is_round, writes, bucket_size, msg_len}
use Rattle.plan.specs.Names.{round_name}
use Rattle.engine.specs.declared.Frame.{Frame}
use Rattle.engine.specs.declared.Session.{Session}
use Rattle.engine.specs.Step.{Lent, Reply, Accepted, Refused, Outcome, leaves, outcome, accepted, round_spec}
use Rattle.engine.proofs.RoundLaws.{round-faults, round-cases}
use Rattle.engine.specs.Order.{next_in}
use Rattle.engine.specs.Plain.{next_of, protocol_of}
use Rattle.rounds.specs.Opening as Opening
use Rattle.rounds.specs.Opening.{Args, party, or_fault, lengths_fault, reason}
use Rattle.rounds.specs.OpeningLaws.{within, passed}
use Rattle.rounds.specs.Combine as Combine
use Rattle.rounds.specs.CombineLaws as CombineLaws
use Rattle.rounds.specs.JudgeLaws.{Named, fault-named}
use Rattle.rounds.specs.Table.{table}
use Rattle.admit.proofs.AdmitLaws.{reason-zero, alive-round, round-low}
use Rattle.interface.specs.Interface.{COUNTS, SESSION, TOLD, session_at, numbers_of, packed_of, NO_PARTY, exported, of_outcome, open_reason, open_c}
use Rattle.interface.specs.Interface.{turned, told_c, of_turn, told_reason, round_c, sum_c}
use Rattle.interface.specs.Interface.{combined, combine_c, due_of, message_len, name_byte}
use Rattle.interface.specs.Narrow.{Narrow, named}

exports : (a : ℕ) (s w o d : List ℕ) (t : Session) (v : Reply) (x : Outcome) → a ≡ packed_of v → s ≡ numbers_of t → leaves t v d w o ≡ x
    → exported a s w o ≡ of_outcome x
unfolding of_outcome
exports a s w o d t v x ea es e = ap (λ n. exported n s w o) ea ∙ ap (λ (l : List ℕ). exported (packed_of v) l w o) es ∙ ap of_outcome e

-- ---- what opening leaves, by its answer
zero? : (n : ℕ) (A : Type 0) → (n ≢ 0 → A) → (n ≡ 0 → A) → A
zero? n A f g = go (eqb n 0) refl
  where
    go : (b : Bool) → eqb n 0 ≡ b → A
    go true e = g (eqb-true n 0 e)
    go false e = f (eqb-false n 0 e)

-- a length that is not due is always a reason
some? : (f : Frame) (counts bits alpha beta : ℕ) → lengths_fault f counts bits alpha beta false ≢ 0
some? f counts bits alpha beta e = true-false (sym (within f counts bits alpha beta false e).buffers)

module _ (a : Args) where
  spec-takes : reason a ≡ 0 → ((Opening.spec a).reply ≡ Accepted) × ((Opening.spec a).session ≡ record { party = party a; due = 1; counts = tally a.counts })
  unfolding Opening.spec
  spec-takes z = (rw (eq-eqb (reason a) 0 z) refl, rw (eq-eqb (reason a) 0 z) refl)

  spec-refuses : reason a ≢ 0 → Opening.spec a ≡ outcome (Opening.spec a).session (Refused (reason a) a.i) a.work a.out
  unfolding Opening.spec
  spec-refuses ne = rw (ne_eqb (reason a) 0 ne) refl

  module _ (t : Session) (v : Reply) (d w o : List ℕ) (e : leaves t v d w o ≡ Opening.spec a) where
    accepted-none : v ≡ Accepted → reason a ≡ 0
    accepted-none ev =
        zero? (reason a) (reason a ≡ 0) (λ ne. absurd (never (ap (λ (x : Outcome). x.reply) (e ∙ spec-refuses ne)))) (λ z. z)
      where
        never : v ≡ Refused (reason a) a.i → ⊥
        never f = let z : ◌≡◌ {A = ℕ} 0 1 = cc in omega arith

    -- what is refused, and that nothing is changed
    record Unchanged (code party : ℕ) : Type 0 where
      there : reason a ≢ 0
      code_is : code ≡ reason a
      work-is : w ≡ a.work
      out-is : o ≡ a.out

    refused-some : (code party : ℕ) → v ≡ Refused code party → Unchanged code party
    refused-some code party ev =
        zero? (reason a) (Unchanged code party) some (λ z. absurd (never (ap (λ (x : Outcome). x.reply) e ∙ (spec-takes z).0)))
      where
        never : v ≡ Accepted → ⊥
        never f = let z : ◌≡◌ {A = ℕ} 0 1 = cc in omega arith

        some : reason a ≢ 0 → Unchanged code party
        some ne =
            let q = e ∙ spec-refuses ne in
            let r : v ≡ Refused (reason a) a.i = ap (λ (x : Outcome). x.reply) q in
            record {
              there = ne;
              code_is = (cc);
              work-is = ap (λ (x : Outcome). x.work) q;
              out-is = ap (λ (x : Outcome). x.out) q;
            }

    pub opened-narrow : v ≡ Accepted → a.n < 0x1_0000_0000 → a.i < 0x1_0000_0000 → Narrow t
    opened-narrow ev hn hi =
        let z = accepted-none ev in
        let q : record { party = party a; due = 1; counts = tally a.counts } ≡ t =
        sym (ap (λ (x : Outcome). x.session) e ∙ (spec-takes z).1) in
        let c = Batches.taken a.counts (passed a z).numbers.none in
        subst (λ (x : Session). Narrow x) q
        (record { n-fits = hn; i-fits = hi; l-fits = omega (arith, c.sum); due-fits = omega arith; counts-fit = length-tally a.counts })

-- ---- opening
module _ (s : List ℕ) (a : Args) where
  -- with a session of due length the reasons are opening's own
  reason-due : length s ≡ SESSION → open_reason s a ≡ reason a
  unfolding open_reason reason
  reason-due h = rw (eq-eqb (length s) SESSION h) refl

  abbrev short : ℕ
  short = lengths_fault (party a) (counts_fault a.counts) (length a.bits) (length a.alpha) (length a.beta) false

  short-some : short ≢ 0
  short-some = some? (party a) (counts_fault a.counts) (length a.bits) (length a.alpha) (length a.beta)

  -- else it is one of those before 17, or 17
  reason-short : length s ≢ SESSION → open_reason s a ≡ short
  unfolding open_reason or_fault
  reason-short ne = rw (ne_eqb (length s) SESSION ne, ne_eqb _ 0 short-some) refl

  pub opens_not : length s ≢ SESSION → (n code : ℕ)
      → code ≡ lengths_fault (party a) (counts_fault a.counts) (length a.bits) (length a.alpha) (length a.beta) false
      → n ≡ packed_of (Refused code a.i) → exported n s a.work a.out ≡ open_c s a
  unfolding open_c
  opens_not ne n code ec e =
      let r = ec ∙ sym (reason-short ne) in
      rw (ne_eqb (open_reason s a) 0 (λ z. short-some (sym (reason-short ne) ∙ z)))
      (ap (λ m. exported m s a.work a.out) (e ∙ ap (λ c. packed_of (Refused c a.i)) r))

  module _ (h : length s ≡ SESSION) (t : Session) (v : Reply) (d w o : List ℕ) (e : leaves t v d w o ≡ Opening.spec a) where
    pub opens : v ≡ Accepted → (s' : List ℕ) → s' ≡ numbers_of t → exported 0 s' w o ≡ open_c s a
    unfolding open_c packed_of
    opens ev s' es =
        let z = accepted-none a t v d w o e ev in
        rw (eq-eqb (open_reason s a) 0 (reason-due h ∙ z)) (exports 0 s' w o d t v (Opening.spec a) (ap packed_of (sym ev)) es e)

    pub opens-refused : (code party : ℕ) → v ≡ Refused code party → (n : ℕ) → n ≡ packed_of (Refused code a.i)
        → exported n s w o ≡ open_c s a
    unfolding open_c
    opens-refused code party ev n en =
        let x = refused-some a t v d w o e code party ev in
        rw (ne_eqb (open_reason s a) 0 (λ z. x.there (sym (reason-due h) ∙ z)))
        (ap₂ (λ (b c : List ℕ). exported n s b c) x.work-is x.out-is
        ∙ ap (λ m. exported m s a.work a.out) (en ∙ ap (λ c. packed_of (Refused c a.i)) (x.code_is ∙ sym (reason-due h))))

-- ---- the call for a round
module _ (s : List ℕ) (k : ℕ) (q : Lent) (w b : List ℕ) where
  -- what a call leaves in the buffers, of what it answers
  pub record Left (n : ℕ) (s' w' o b' : List ℕ) (t : Session) (v : Reply) (d : List ℕ) : Type 0 where
    pub answer-is : n ≡ packed_of v
    pub session-is : s' ≡ numbers_of t
    pub told_is : b' ≡ told_c v t.due d b
    pub call-is : leaves t v d w' o ≡ round_spec (protocol_of table) (session_at s) k q w

  pub rounds : length s ≡ SESSION → length b ≡ TOLD → (n : ℕ) (s' w' o b' : List ℕ) (t : Session) (v : Reply) (d : List ℕ)
      → Left n s' w' o b' t v d → turned (exported n s' w' o) b' ≡ round_c s k q w b
  unfolding round_c of_turn
  rounds h g n s' w' o b' t v d x =
      rw (eq-eqb (length s) SESSION h, eq-eqb (length b) TOLD g)
      (ap₂ turned (exports n s' w' o d t v _ x.answer-is x.session-is x.call-is)
      (x.told_is ∙ ap (λ (o : Outcome). told_c o.reply o.session.due o.told b) x.call-is))

  pub rounds-not : length s ≢ SESSION → (n : ℕ) → n ≡ packed_of (Refused 20 NO_PARTY)
      → turned (exported n s w q.out) b ≡ round_c s k q w b
  unfolding round_c
  rounds-not ne n e = rw (ne_eqb (length s) SESSION ne) (ap (λ m. turned (exported m s w q.out) b) e)

  pub rounds-short : length s ≡ SESSION → length b ≢ TOLD → (t : Session) → t ≡ session_at s → (n code : ℕ) → code ≡ told_reason t k
      → n ≡ packed_of (Refused code t.party.i) → turned (exported n s w q.out) b ≡ round_c s k q w b
  unfolding round_c
  rounds-short h ne t et n code ec e =
      rw (eq-eqb (length s) SESSION h, ne_eqb (length b) TOLD ne)
      (ap (λ m. turned (exported m s w q.out) b)
      (e ∙ ap (λ c. packed_of (Refused c t.party.i)) ec
      ∙ ap (λ (t : Session). packed_of (Refused (told_reason t k) t.party.i)) et))

pub combines : (a : Combine.Args) (n : ℕ) (o : List ℕ) (v : Reply) → n ≡ packed_of v → Combine.outcome v o ≡ Combine.spec a
    → combined n o ≡ combine_c a
unfolding combine_c
combines a n o v en e = ap (λ m. combined m o) en ∙ ap (λ (x : Combine.Outcome). combined (packed_of x.reply) x.out) e

-- ---- what fits
module _ (s : Session) (k : ℕ) (q : Lent) (w : List ℕ) where
  next_small : k ≤ 22 → (b : Bool) → next_of table b k < 0x1_0000_0000
  unfolding next_in
  next_small h b = go (leb 22 k) (b && echo? (suc k))
    where
      go : (x y : Bool) → pick x 0 (pick y (suc (suc k)) (suc k)) < 0x1_0000_0000
      go true y = omega arith
      go false true = omega arith
      go false false = omega arith

  -- the same session with another round due
  narrow-due : {due : ℕ} → Narrow s → due < 0x1_0000_0000 → Narrow (record { party = s.party; due = due; counts = s.counts })
  narrow-due h d = record { n-fits = h.n-fits; i-fits = h.i-fits; l-fits = h.l-fits; due-fits = d; counts-fit = h.counts-fit }

  -- a round call leaves a session that fits
  pub round-narrow : Narrow s → Narrow (round_spec (protocol_of table) s k q w).session
  unfolding accepted
  round-narrow h =
      round-cases (protocol_of table) s k q w (λ (o : Outcome). Narrow o.session) (λ ne. h)
      (λ z ne. rw (round-faults (protocol_of table) s k q w z ne) (narrow-due h (omega arith)))
      (λ z f.
      let A = reason-zero s k q w z in
      let low = round-low s.party.n s.due (alive-round s A.alive-is) in
      narrow-due h (next_small (omega (arith, A.due-is, low)) (eqb s.party.n 2)))

  -- and names a party that fits
  pub round-named : Narrow s → named (round_spec (protocol_of table) s k q w).reply ≤ NO_PARTY
  unfolding accepted Named
  round-named h =
      round-cases (protocol_of table) s k q w (λ (o : Outcome). named o.reply ≤ NO_PARTY) (λ ne. omega (arith, h.i-fits))
      (λ z ne. rw (round-faults (protocol_of table) s k q w z ne)
      (let A = reason-zero s k q w z in
      omega (arith, fault-named s.party A.ranges.own k q w ne, A.ranges.range.eight)))
      (λ z f. omega arith)

pub combine-named : (a : Combine.Args) (v : Reply) (o : List ℕ) → Combine.outcome v o ≡ Combine.spec a → a.i < 0x1_0000_0000
    → named v ≤ NO_PARTY
combine-named a v o e h = zero? (Combine.reason a) (named v ≤ NO_PARTY) some none
  where
    some : Combine.reason a ≢ 0 → named v ≤ NO_PARTY
    some ne =
        let q : v ≡ Refused (Combine.reason a) a.i = ap (λ (x : Combine.Outcome). x.reply) (e ∙ CombineLaws.spec-refuses a ne) in
        rw q (omega (arith, h))

    none : Combine.reason a ≡ 0 → named v ≤ NO_PARTY
    none z =
        let q : v ≡ Accepted = ap (λ (x : Combine.Outcome). x.reply) (e ∙ CombineLaws.spec-accepts a z) in
        rw q (omega arith)

-- ---- what a host asks
-- ---- a session in its numbers
-- all from COUNTS on
pub loaded : (s x : List ℕ) (k : ℕ) → length s ≡ SESSION → k ≡ length s - COUNTS → x ≡ tally (take k (drop COUNTS s))
    → x ≡ tally (drop COUNTS s)
loaded s x k h e ex =
    ex ∙ ap (λ m. tally (take m (drop COUNTS s))) (e ∙ sym (length-drop COUNTS s)) ∙ ap tally (take-length (drop COUNTS s))

-- ---- the counts' sum
module _ (c : List ℕ) (code : ℕ) where
  pub sum-refused : (n : ℕ) → code ≡ counts_fault c → code ≢ 0 → n ≡ packed_of (Refused code NO_PARTY) → n ≡ sum_c c
  unfolding sum_c
  sum-refused n h ne e =
      rw (ne_eqb (counts_fault c) 0 (λ z. ne (h ∙ z))) (e ∙ ap (λ k. packed_of (Refused k NO_PARTY)) h)

  pub sum_is : (n : ℕ) → code ≡ counts_fault c → code ≡ 0 → n ≡ sum_of c → n ≡ sum_c c
  unfolding sum_c
  sum_is n h z e = let y : counts_fault c ≡ 0 = sym h ∙ z in rw (eq-eqb (counts_fault c) 0 y) (Batches.sum-taken c n e y)

-- ---- the buffer for the batches
module _ (s : Session) (k : ℕ) where
  pub told_over : (protocol_of table).alive s ≡ false → 20 ≡ told_reason s k
  unfolding told_reason
  told_over h = rw h refl

  pub told-turn : (protocol_of table).alive s ≡ true → k ≢ s.due → 19 ≡ told_reason s k
  unfolding told_reason
  told-turn h ne = rw (h, ne_eqb k s.due ne) refl

  pub told-short : (protocol_of table).alive s ≡ true → k ≡ s.due → 17 ≡ told_reason s k
  unfolding told_reason
  told-short h e = rw (h, eq-eqb k s.due e) refl

module _ (due : ℕ) (t b : List ℕ) where
  pub tells-last : due ≡ 0 → t ≡ told_c Accepted due t b
  unfolding told_c
  tells-last e = rw (eq-eqb due 0 e) refl

  pub tells-other : due ≢ 0 → b ≡ told_c Accepted due t b
  unfolding told_c
  tells-other ne = rw (ne_eqb due 0 ne) refl

  pub tells-refused : (code party : ℕ) → b ≡ told_c (Refused code party) due t b
  unfolding told_c
  tells-refused code party = refl

-- ---- the round due
pub due-short : (s : List ℕ) → length s ≢ SESSION → 0 ≡ due_of s
unfolding due_of
due-short s ne = rw (ne_eqb (length s) SESSION ne) refl

pub due-is : (s : List ℕ) (t : Session) (b : Bool) → length s ≡ SESSION → t ≡ session_at s → b ≡ (protocol_of table).alive t
    → pick b (get_or s 3 0) 0 ≡ due_of s
unfolding due_of
due-is s t b h e q = rw (eq-eqb (length s) SESSION h) (ap (λ x. pick x (get_or s 3 0) 0) (q ∙ ap (λ (y : Session). (protocol_of table).alive y) e))

pub message-is : (n l k m : ℕ) (a b : Bool) → a ≡ in_range n l → b ≡ is_round n k → m ≡ msg_len n l k
    → pick a (pick b m 0) 0 ≡ message_len n l k
unfolding message_len
message-is n l k m a b ea eb em = rw (sym ea, sym eb, sym em) (go a b)
  where
    go : (a b : Bool) → pick a (pick b m 0) 0 ≡ pick (a && b) m 0
    go true b = refl
    go false b = refl

pub name-is : (k j : ℕ) → j < 16 → get_or (round_name k) j 0 ≡ name_byte k j
unfolding name_byte
name-is k j h = rw (lt-ltb j 16 h) refl

pub name-none : (k j : ℕ) → 16 ≤ j → 0 ≡ name_byte k j
unfolding name_byte
name-none k j h = rw (le-ltb j 16 h) refl

pub bucket-small : (l : ℕ) → bucket_size l < 0x1_0000_0000
unfolding bucket_size
bucket-small l = go (leb 280000 l) (leb 3100 l)
  where
    go : (a b : Bool) → pick a 3 (pick b 4 5) < 0x1_0000_0000
    go true b = omega arith
    go false true = omega arith
    go false false = omega arith

pub writes-small : (n k : ℕ) → writes n k < 0x1_0000_0000
unfolding writes next_in
writes-small n k = go (eqb k 0 || is_round n k) (leb 22 k) refl (eqb n 2 && echo? (suc k))
  where
    go : (a b : Bool) → leb 22 k ≡ b → (e : Bool) → pick a (pick b 0 (pick e (suc (suc k)) (suc k))) 0 < 0x1_0000_0000
    go false b h e = omega arith
    go true true h e = omega arith
    go true false h true = omega (arith, leb-false 22 k h)
    go true false h false = omega (arith, leb-false 22 k h)
