-- Two sessions that differ in their counts alone, which make one l, answer every list of calls alike.
use Rattle.std.specs.Prelude.{◌≡◌, Bool, List, [], ◌∷◌, eqb}
use Rattle.std.proofs.Math.Path.{refl}
use Rattle.std.proofs.Common.{sym, ap, ap₂, ◌∙◌, subst}
use Rattle.std.proofs.Math.Bool.{true, false}
use Prim.Native.Nat.{ℕ}
use Rattle.lists.specs.Pick.{pick}
use Rattle.batches.specs.Batches.{whole, untold}
use Rattle.engine.specs.Step.{Frame, Session, Lent, Reply, Accepted, Refused, Outcome, leaves, Fault, Protocol, reason_of, fault_of, told_after}
use Rattle.engine.specs.Step.{refused, faulted, accepted, round_spec}
use Rattle.engine.specs.World.{Box, turned_box}
use Rattle.engine.specs.OneBox.{Turn, turn_box, taken}
use Rattle.engine.specs.Plain.{Table, protocol_of}
use Rattle.engine.specs.Batched.{Beside, Equal, outcomes, AllEqual}

module _ (T : Table) (c d : List ℕ) where
  abbrev P : Protocol
  P = protocol_of T

  module _ (f : Frame) (k : ℕ) (hc : whole f.l c ≡ true) (hd : whole f.l d ≡ true) (a : ℕ) (q : Lent) (w : List ℕ) where
    abbrev s : Session
    s = record { party = f; due = k; counts = c }

    abbrev t : Session
    t = record { party = f; due = k; counts = d }

    reason-same : reason_of P s a q w ≡ reason_of P t a q w
    unfolding reason_of
    reason-same = rw (hc, hd) refl

    beside : (due : ℕ) → Beside c d (record { party = f; due = due; counts = c }) (record { party = f; due = due; counts = d })
    beside due = record { party = refl; due = refl; first = refl; second = refl; first-makes = hc; second-makes = hd }

    left : (due : ℕ) (v : Reply) (w o t u : List ℕ) → t ≡ pick (taken v) (told_after due c) untold → u ≡ pick (taken v) (told_after due d) untold
        → Equal c d (leaves (record { party = f; due = due; counts = c }) v t w o) (leaves (record { party = f; due = due; counts = d }) v u w o)
    left due v w o t u et eu = record { reply = refl; work = refl; out = refl; sessions = beside due; told-first = et; told-second = eu }

    call_same : Equal c d (round_spec P s a q w) (round_spec P t a q w)
    unfolding round_spec refused faulted accepted
    call_same = rw reason-same (go (eqb (reason_of P t a q w) 0) (eqb (fault_of (P.rule a) f q w).code 0))
      where
        code : ℕ
        code = reason_of P t a q w

        e : Fault
        e = fault_of (P.rule a) f q w

        go : (b z : Bool)
            → Equal c d (pick b (pick z (accepted P s a q w) (faulted s e q w)) (refused s code q w))
            (pick b (pick z (accepted P t a q w) (faulted t e q w)) (refused t code q w))
        go true true = unfold accepted in left _ Accepted _ _ _ _ refl refl
        go true false = unfold faulted in left 0 (Refused e.code e.party) _ _ _ _ refl refl
        go false z = unfold refused in left k (Refused code f.i) _ _ _ _ refl refl

  -- one call of two boxes
  pub one_same : (s t : Session) (w v : List ℕ) → Beside c d s t → w ≡ v → (a : ℕ) (q : Lent)
      → Equal c d (round_spec (protocol_of T) s a q w) (round_spec (protocol_of T) t a q v)
  one_same s t w v B e a q =
      let es : s ≡ record { party = s.party; due = s.due; counts = c } =
      ap (λ (n : List ℕ). let r : Session = record { party = s.party; due = s.due; counts = n } in r) B.first in
      let et : t ≡ record { party = s.party; due = s.due; counts = d } =
      ap (λ (n : List ℕ). let r : Session = record { party = t.party; due = t.due; counts = n } in r) B.second
      ∙ ap₂ (λ (g : Frame) k. let r : Session = record { party = g; due = k; counts = d } in r) (sym B.party) (sym B.due) in
      rw (es, et, sym e) (call_same s.party s.due B.first-makes B.second-makes a q w)

  turned-session : (x : Box) (r : Outcome) (v : Reply) → (turned_box x r v).session ≡ r.session
  turned-session x r Accepted = refl
  turned-session x r (Refused m p) = refl

  turned-work : (x : Box) (r : Outcome) (v : Reply) → (turned_box x r v).work ≡ r.work
  turned-work x r Accepted = refl
  turned-work x r (Refused m p) = refl

  -- ---- THE THEOREM, for every list of calls
  pub all_same : (cs : List Turn) (x y : Box) → Beside c d x.session y.session → x.work ≡ y.work
      → AllEqual c d (outcomes (protocol_of T) x cs) (outcomes (protocol_of T) y cs)
  all_same [] x y B e = tt
  all_same (a ∷ cs) x y B e =
      let o = one_same x.session y.session x.work y.work B e a.number a.lent in
      let r : Outcome = round_spec P x.session a.number a.lent x.work in
      let u : Outcome = round_spec P y.session a.number a.lent y.work in (
        o,
        all_same cs (turn_box P x a) (turn_box P y a)
            (subst (λ (s : Session). Beside c d s (turn_box P y a).session) (sym (turned-session x r r.reply))
            (subst (Beside c d r.session) (sym (turned-session y u u.reply)) o.sessions))
            (turned-work x r r.reply ∙ o.work ∙ sym (turned-work y u u.reply)),
      )
