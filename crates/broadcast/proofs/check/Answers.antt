use Rattle.lists.specs.Kit.{◌≡◌, sym, ap, ◌∙◌, arith, length}
use Rattle.std.specs.Prelude.{⊤, Result, Ok, Err}
use Rattle.std.specs.Result.{IsErrAnd}
use Rattle.engine.specs.declared.Refusal.{Refusal}
use Rattle.engine.specs.Step.{Fault, by_party}
use Rattle.engine.specs.Plain.{pending}
use Rattle.rounds.specs.Area.{HASHES, at}
use Rattle.rounds.specs.Mail.{letter}
use Rattle.rounds.specs.EchoLaws.{echo_faults}
use Rattle.rounds.specs.FaultLaws.{Finds, finds-one, finds-two}
use Rattle.rounds.specs.Table.{table}
use Rattle.area.specs.GivenLaws.{length_at}
use Rattle.area.specs.Sizes.{size-hashes}
use Rattle.broadcast.specs.BroadcastLaws.{echo-checks}
use Rattle.broadcast.proofs.check.Goals as goal
use Rattle.broadcast.proofs.check.Goals.{After-check_echoes}

pub check_echoes-requires : goal.check_echoes-requires
check_echoes-requires c = record {
  n_bound = (
    c.requires.work.ranges.range.eight,
    ap length c.section.ensures ∙ length_at c.requires.work HASHES (omega arith) ∙ size-hashes c.args.f,
  );
  received = c.requires.received;
}

-- the refusal is passed on as it is
passed-on : (v : Result ⊤ Refusal) (r : Refusal) (e : Fault) → IsErrAnd v (λ x. x ≡ r) → Finds (Err r) e → Finds v e
passed-on (Ok _) r e h q = absurd h
passed-on (Err x) r e h q = rw h q

-- what the echoes of the kept hashes say
echoes : (c : After-check_echoes) → Finds c.check_echoes.result
    (by_party c.args.f (echo_faults c.args.f.n c.args.f.i (at c.args.f HASHES c.args.work.now) (letter c.args.incoming.now c.args.mail)))
echoes c = rw (sym c.section.ensures) c.check_echoes.ensures

pub returns-in_err-check_echoes : goal.returns-in_err-check_echoes
returns-in_err-check_echoes c =
    let r = c.in_err-check_echoes.field-0.0 in
    let h = echoes (goal.at.returns-in_err-check_echoes c).After-check_echoes in
    rw (echo-checks c.args.f (letter c.args.incoming.now c.args.mail) c.args.k c.args.work.now)
    (passed-on c.from_residual.result r _ c.from_residual.ensures.1
    (finds-one r _ (pending table c.args.k c.args.f c.args.work.now) (rw c.in_err-check_echoes.was at h)))

pub returns : goal.returns
returns c =
    let h = echoes (goal.at.returns c).After-check_echoes in
    rw (echo-checks c.args.f (letter c.args.incoming.now c.args.mail) c.args.k c.args.work.now)
    (finds-two c.pending.result _ (pending table c.args.k c.args.f c.args.work.now) (rw c.in_ok-check_echoes.was at h) c.pending.ensures)
