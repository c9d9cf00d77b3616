use Rattle.lists.specs.Kit.{ap, ◌∙◌, List, ℕ}
use lib.Dec.{eqb}
use Rattle.lists.specs.Pick.{pick}
use Rattle.engine.specs.Step.{mask}
use Rattle.rounds.specs.Mail.{letter}
use Rattle.engine.specs.Plain.{digests, hashes}
use Rattle.rounds.specs.Area.{PENDING, HASHES, keep}
use Rattle.broadcast.specs.Told.{waits-told}
use Rattle.rounds.specs.Table as Table
use Rattle.rounds.specs.Table.{table}
use Rattle.session.specs.HeldLaws.{judge-names, told-code, held-is, hashes-kept}
use Rattle.session.proofs.hold_echo.Goals as goal

pub note_verdict-requires : goal.note_verdict-requires
note_verdict-requires c =
    let m = mask c.args.f (letter c.args.incoming.now c.args.mail) in record {
      work = record { ranges = c.requires.work.ranges; whole = c.keep_clean.auto.work ∙ c.requires.work.whole };
      party_lt_n = judge-names c.args.f c.requires.work.ranges.own c.args.k c.args.work.now m c.judge-found.result c.judge-found.ensures;
      received = c.requires.received;
    }

pub returns : goal.returns
returns c =
    let w = c.args.work.now in
    let m = mask c.args.f (letter c.args.incoming.now c.args.mail) in
    let e = Table.judge c.args.k c.args.f w m in
    let noted =
    c.note_verdict.ensures
    ∙ ap (λ (x : List ℕ). keep c.args.f PENDING x (keep c.args.f HASHES (digests table c.args.k c.args.f m) c.keep_clean.new.work))
    (waits-told c.judge-found.result e c.judge-found.ensures) in (
      noted
          ∙ held-is c.args.f c.args.k m w c.keep_clean.new.work
          (c.keep_clean.ensures
          ∙ ap (λ x. pick (eqb x 0) (Table.kept c.args.k c.args.f w m) w) (told-code c.judge-found.result e c.judge-found.ensures)),
      ap (hashes table c.args.f) noted
          ∙ hashes-kept c.args.f c.args.k m e c.keep_clean.new.work (c.keep_clean.auto.work ∙ c.requires.work.whole),
    )
