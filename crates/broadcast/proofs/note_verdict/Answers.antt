use Rattle.std.specs.Prelude.{Result, ⊤, Ok}
use Rattle.lists.specs.Kit.{sym, ap, refl, subst, ◌∙◌, List, ℕ}
use Rattle.engine.specs.declared.Refusal.{Refusal}
use Rattle.engine.specs.Step.{mask}
use Rattle.engine.specs.Plain.{waits, digests}
use Rattle.rounds.specs.Area.{PENDING, HASHES, keep}
use Rattle.rounds.specs.Mail.{letter}
use Rattle.rounds.specs.Table.{table}
use Rattle.broadcast.specs.Told.{told, Names, waits-told}
use Rattle.broadcast.proofs.note_verdict.Goals as goal
use Rattle.broadcast.proofs.note_verdict.Goals.{Start}

-- the work area with the fault x kept
noted : (c : Start) → List ℕ → List ℕ
noted c x =
    keep c.args.f PENDING x
    (keep c.args.f HASHES (digests table c.args.k c.args.f (mask c.args.f (letter c.args.incoming.now c.args.mail))) c.args.work.now)

pub note-requires-in-Err-clause-party_lt_n : goal.note-requires-in-Err-clause-party_lt_n
note-requires-in-Err-clause-party_lt_n c =
    λ _. subst (λ (v : Result ⊤ Refusal). Names v c.args.f.n) c.in-Err.is c.requires.party_lt_n

pub returns-in-Ok : goal.returns-in-Ok
unfolding noted
returns-in-Ok c =
    let s = (goal.at.returns-in-Ok c).Start in
    c.note.ensures ∙ ap (noted s) (sym (waits-told (Ok tt) (record { code = 0; party = 0 }) refl))
    ∙ ap (λ (v : Result ⊤ Refusal). noted s (waits (told v))) (sym c.in-Ok.is)

pub returns-in-Err : goal.returns-in-Err
unfolding noted
returns-in-Err c =
    let s = (goal.at.returns-in-Err c).Start in
    c.note-in-Err.ensures ∙ ap (λ (n : ℕ). noted s (waits (record { code = n; party = c.in-Err.r.party }))) c.number.ensures
    ∙ ap (λ (v : Result ⊤ Refusal). noted s (waits (told v))) (sym c.in-Err.is)
