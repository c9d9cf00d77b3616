-- WHAT A BOX SENDS, WHOEVER IT TALKS TO: after an accepted opening and any list of round calls, what the last accepted call wrote is the
-- formula's, and so is what each section that was filled holds, whatever the others sent.
use Rattle.std.specs.Prelude.{◌≡◌, Bool, false, ◌&&◌, ◌≢◌, length, get_or, replicate, eqb}
use Rattle.std.proofs.Math.Path.{refl, ap}
use Rattle.std.proofs.Common.{sym, ◌∙◌, arith}
use Rattle.std.proofs.Math.Bool.{true}
use mathlib.Core.List.{List, [], ◌∷◌}
use Prim.Native.Nat.{ℕ, ◌<◌, ◌≤◌}
use borrow.Author.Tests.{leb-true, le-leb, eq-eqb, ne_eqb}
use Rattle.lists.specs.Pick.{pick}
use Rattle.lists.specs.All.{all_of, true-false}
use Rattle.lists.specs.Rows.{chunk}
use Rattle.lists.specs.Bytes.{Bytes, bytes-nil, bytes_take, bytes_drop}
use Rattle.algebra.specs.Sum.{neq, Same, apart, apart?}
use Rattle.encode.specs.Encode.{none_item, some_item}
use Rattle.batches.specs.Batches.{tally}
use Rattle.engine.specs.declared.Session.{Session}
use Rattle.engine.specs.declared.Frame.{Frame}
use Rattle.engine.specs.Step.{frame, Loan, Outcome, other, mask, part}
use Rattle.engine.specs.World.{Box, session_of}
use Rattle.engine.specs.Area.{to_others, to_others-ext, mem, also}
use Rattle.engine.specs.Order.{echo_in}
use Rattle.engine.specs.Plain.{rows_of, prior, is_echo, number_of, digests, protocol_of}
use Rattle.engine.proofs.PlainLaws.{chunk-rows}
use Rattle.engine.specs.Honest.{due, plain_after}
use Rattle.engine.specs.Alone.{Tale}
use Rattle.engine.proofs.AloneLaws.{wrote_for, sure_at, Lives, State, lives, over, Told, Duties, AsTold, first, all_told}
use Rattle.engine.specs.OneBox.{Turn, turn_box, turns, AllRead, taken, answer, received, lent_with}
use Rattle.engine.proofs.OneBoxLaws.{all-received}
use Rattle.rounds.specs.Area.{ROUNDS_OWN, at}
use Rattle.rounds.specs.Echo.{hash_vec, echo_msg, echo}
use Rattle.rounds.specs.Opening.{Args, party, reason, kept, spec}
use Rattle.rounds.specs.Table.{table}
use Rattle.alone.specs.Formula as F
use Rattle.alone.specs.Formula.{Seen}
use Rattle.alone.specs.Holds.{since, holds, tale}
use Rattle.alone.specs.Cells.{encode-ext}
use Rattle.alone.specs.Given.{Admissible}
use Rattle.rounds.specs.EchoLaws.{length-hash_vec}
use Rattle.rounds.specs.JudgeLaws.{Found, judge-found}
use Rattle.alone.specs.Echo.{lawful}
use Rattle.alone.proofs.Opening.{given, opened, spec-takes}
use Rattle.alone.proofs.Rounds as R

-- the box that opening leaves
abbrev pub opened_box : Args → Box
opened_box a =
    let r : Outcome = spec a in
    record { session = r.session; work = r.work; rounds = 0; wrote = r.out }

-- a: what the box was opened with; q k: what was lent with the call that makes round k's messages; m k j: what was read of party j for
-- round k
module _ (a : Args) (q : ℕ → Loan) (m : ℕ → ℕ → List ℕ) where
  abbrev f : Frame
  f = party a

  abbrev S : Seen
  S = R.seen_by (kept a) q m

  -- what is told of the box
  abbrev pub U : Tale
  U = tale S

  module _ (I : Admissible S) where
    duties : Duties table f.n f.l f.i U m q
    unfolding echo_in mem all_of plain_after Found
    duties = record {
      lawful = lawful f.n f.l I.range;
      own = I.own;
      tail = refl;
      grows = λ s t u le r. le-leb (since s) u (omega (arith, leb-true (since s) t r));
      digest-len = length-hash_vec;
      finds = judge-found f I.own;
      plain = 1 ∷ 3 ∷ 4 ∷ 5 ∷ 6 ∷ 8 ∷ 10 ∷ 12 ∷ 14 ∷ 15 ∷ 17 ∷ 19 ∷ 21 ∷ [];
      whole = refl;
      recv =
          (also (R.recv-1 (kept a) q m I)
          (also (R.recv-3 (kept a) q m I)
          (also (R.recv-4 (kept a) q m I)
          (also (R.recv-5 (kept a) q m I)
          (also (R.recv-6 (kept a) q m I)
          (also (R.recv-8 (kept a) q m I)
          (also (R.recv-10 (kept a) q m I)
          (also (R.recv-12 (kept a) q m I)
          (also (R.recv-14 (kept a) q m I)
          (also (R.recv-15 (kept a) q m I)
          (also (R.recv-17 (kept a) q m I)
          (also (R.recv-19 (kept a) q m I)
          (also (R.recv-21 (kept a) q m I) tt)))))))))))));
      send =
          (also (R.send-3 (kept a) q m I)
          (also (R.send-4 (kept a) q m I)
          (also (R.send-5 (kept a) q m I)
          (also (R.send-6 (kept a) q m I)
          (also (R.send-8 (kept a) q m I)
          (also (R.send-10 (kept a) q m I)
          (also (R.send-12 (kept a) q m I)
          (also (R.send-14 (kept a) q m I)
          (also (R.send-15 (kept a) q m I)
          (also (R.send-17 (kept a) q m I)
          (also (R.send-19 (kept a) q m I)
          (also (R.send-21 (kept a) q m I)
          (also (R.send-22 (kept a) q m I) tt)))))))))))));
      last = R.last-22 (kept a) q m I;
    }

  module _ (z : reason a ≡ 0) (b : Bytes a.delta) (h : (k j : ℕ) → Bytes (m k j)) where
    I : Admissible S
    I = given a q m z b h

    start : AsTold table f.n f.l f.i U m q (duties I) (tally a.counts) (opened_box a)
    unfolding F.sent F.sent1
    start =
        rw (spec-takes a f refl z) (first table f.n f.l f.i U m q (duties I) (tally a.counts) _ (omega arith) refl refl (opened a q m z) refl)

    -- for every list of calls of which the accepted ones read m and are lent q
    pub told-alone : (cs : List Turn) → AllRead table f.n f.l f.i m q (opened_box a) cs
        → Told table f.n f.l f.i U m q (tally a.counts) (turns (protocol_of table) (opened_box a) cs)
    told-alone cs r = all_told table f.n f.l f.i U m q (duties I) (tally a.counts) cs (opened_box a) start r

-- ---- an echo without the rows of hashes
module _ (S : Seen) (k r : ℕ) where
  open S use {mail as m}

  abbrev g : Frame
  g = party S.inputs

  echo-read : echo_msg g.n g.i (digests table k g (m k)) r ≡ F.echo_of S k r
  unfolding echo_msg digests F.echo_of some_item none_item
  echo-read = encode-ext g.n _ _ (λ j lj. go j lj (neq g.i j) (apart? g.i j))
    where
      h : ℕ → List ℕ
      h j = hash_vec k (m k j)

      go : (j : ℕ) → j < g.n → (b : Bool) → Same g.i j b
          → pick (b && neq r j) (1 ∷ chunk 16 j (rows_of g h)) (0 ∷ []) ≡ pick (b && neq r j) (1 ∷ h j) (0 ∷ [])
      go j lj false s = refl
      go j lj true (apart ne) =
          ap (λ (x : List ℕ). pick (neq r j) (1 ∷ x) (0 ∷ []))
          (chunk-rows g h (λ j lj ne. length-hash_vec k (m k j)) j lj ne)

-- ---- THE CLAIM
-- all that the calls were lent to read is bytes
abbrev pub ByteCalls : List Turn → Type 0
ByteCalls [] = Unit {0}
ByteCalls (c ∷ cs) = Bytes c.lent.incoming × ByteCalls cs

-- so is what is received
received-bytes : (n l i : ℕ) (x : Box) (cs : List Turn) → ByteCalls cs → (k j : ℕ) → Bytes (received table n l i x cs k j)
unfolding mask part
received-bytes n l i x [] h k j = bytes-nil
received-bytes n l i x (c ∷ cs) h k j =
    go (taken (answer table n l i x c) && eqb k c.number) (received-bytes n l i (turn_box (protocol_of table) x c) cs h.1 k j)
  where
    masked : (b : Bool) → Bytes (pick b (part c.lent j) [])
    masked true = bytes_take (get_or c.lent.lens j 0) _ (bytes_drop (get_or c.lent.starts j 0) c.lent.incoming h.0)
    masked false = bytes-nil

    go : (b : Bool) → Bytes (received table n l i (turn_box (protocol_of table) x c) cs k j)
        → Bytes (pick b (mask (frame n l i) (part c.lent) j) (received table n l i (turn_box (protocol_of table) x c) cs k j))
    go true r = masked (other (frame n l i) j)
    go false r = r

module _ (a : Args) (cs : List Turn) where
  abbrev n : ℕ
  n = a.n

  abbrev l : ℕ
  l = (party a).l

  abbrev i : ℕ
  i = a.i

  -- the box after the calls, and the round that is due then, 0 after the last
  abbrev pub box : Box
  box = turns (protocol_of table) (opened_box a) cs

  abbrev pub number : ℕ
  number = number_of table (eqb n 2) box.rounds

  -- what its accepted calls read, and what they were lent: r, all strings or a seed
  abbrev pub mail : ℕ → ℕ → List ℕ
  mail = received table n l i (opened_box a) cs

  abbrev pub loans : ℕ → Loan
  loans = lent_with table n l i (opened_box a) cs

  -- the box goes by its inputs as it keeps them
  abbrev pub seen : Seen
  seen = R.seen_by (kept a) loans mail

  -- The moment up to which the sections are filled for sure: while an echo is due, a fault in the messages that it is about may still drop
  -- what was kept of them
  abbrev pub sure : ℕ
  sure = pick (is_echo table number) (due (prior number)) (due number)

  -- What the last accepted call wrote: the messages of the round that is due, if it is no echo; the echo of what was read for the round
  -- before; the results. A session that lives has that round due, and what each section that was filled by then holds is the formula's; one
  -- that is over has a work area of zeros.
  pub record Claim : Type 0 where
    pub messages : number ≢ 0 → is_echo table number ≡ false → box.wrote ≡ to_others n i (F.sent seen number)
    pub echoes : is_echo table number ≡ true → box.wrote ≡ to_others n i (F.echo_of seen (prior number))
    pub results : number ≡ 0 → box.wrote ≡ F.result seen
    pub session-is : box.session.due ≢ 0 → box.session ≡ session_of n l (tally a.counts) i number
    pub sections : box.session.due ≢ 0 → (s : ℕ) → s < ROUNDS_OWN → since s ≤ sure
        → at (party a) s box.work ≡ holds seen s
    pub zeros : box.session.due ≡ 0 → box.work ≡ replicate (length box.work) 0

  never-echo-zero : is_echo table 0 ≡ false
  unfolding echo_in mem
  never-echo-zero = refl

  claim : Told table n l i (tale seen) mail loans (tally a.counts) box → Claim
  unfolding wrote_for sure_at at echo
  claim t = record {
    messages = λ h e. t.wrote-is ∙ rw (ne_eqb number 0 h, e) refl;
    echoes = λ e. t.wrote-is ∙ rw (ne_eqb number 0 (some e), e)
        (to_others-ext n i _ _ (λ r lr nr. echo-read seen (prior number) r));
    results = λ z. t.wrote-is ∙ rw (eq-eqb number 0 z) refl;
    session-is = λ h. (live h t.state).session-is;
    sections = λ h s ls le. (live h t.state).known.has s ls (le-leb _ _ le);
    zeros = λ z. dead z t.state;
  }
    where
      some : is_echo table number ≡ true → number ≢ 0
      some e z = true-false (sym e ∙ ap (is_echo table) z ∙ never-echo-zero)

      live : box.session.due ≢ 0 → State table n l i (tale seen) mail loans (tally a.counts) box
          → Lives table n l i (tale seen) mail loans (tally a.counts) box
      live h (lives x) = x
      live h (over x) = absurd (h (ap (λ (s : Session). s.due) x.session-is))

      dead : box.session.due ≡ 0 → State table n l i (tale seen) mail loans (tally a.counts) box
          → box.work ≡ replicate (length box.work) 0
      dead z (lives x) = absurd (x.some (sym (ap (λ (s : Session). s.due) x.session-is) ∙ z))
      dead z (over x) = x.blank

-- ---- THE THEOREM: for every opening that is accepted and every list of round calls after it
pub alone : (a : Args) → reason a ≡ 0 → Bytes a.delta → (cs : List Turn) → ByteCalls cs → Claim a cs
alone a z b cs h =
    claim a cs
    (told-alone a (loans a cs) (mail a cs) z b (received-bytes (n a cs) (l a cs) (i a cs) (opened_box a) cs h) cs
    (all-received table (n a cs) (l a cs) (i a cs) (tally a.counts) cs (opened_box a) 1 (ap (λ (r : Outcome). r.session) (spec-takes a (party a) refl z))))
