use Rattle.std.specs.Prelude.{◌≡◌, ⊤, Result, Ok, Err}
use Rattle.std.specs.Result.{IsErrAnd}
use Rattle.lists.specs.Kit.{sym, ap, ◌∙◌, arith}
use Rattle.refusals.specs.declared.Reason.{Reason}
use Rattle.refusals.specs.Reason.{number, code_of, number-some}
use Rattle.engine.specs.StepLaws.{scan-turn}
use Rattle.rounds.specs.EchoLaws.{told_fault, echo-clean, echo-first, echo-none}
use Rattle.echo.proofs.check_echo.Goals as goal

-- the reason is passed on as it is
err-code : (r : Result ⊤ Reason) (e : Reason) → IsErrAnd r (λ x. x ≡ e) → code_of r ≡ number e
err-code (Ok _) e h = absurd h
err-code (Err x) e h = ap number h

pub loop-k-init : goal.loop-k-init
loop-k-init c = echo-clean c.args.f.i c.args.j c.args.hashes.now c.args.m.now

pub returns-in_err-check_entry : goal.returns-in_err-check_entry
returns-in_err-check_entry c =
    let e = c.in_err-check_entry.field-0.0 in
    err-code c.from_residual.result e c.from_residual.ensures.1
    ∙ echo-first c.args.f.n c.args.f.i c.args.j c.loop-k.k (number e) c.args.hashes.now c.args.m.now c.loop-k-test.true c.loop-k.invariant
    (sym (ap code_of c.in_err-check_entry.was) ∙ c.check_entry.ensures) (number-some e)

pub loop-k-preserved : goal.loop-k-preserved
loop-k-preserved c =
    scan-turn c.loop-k.k (told_fault c.args.f.i c.args.j c.args.hashes.now c.args.m.now) c.loop-k.invariant
    (sym c.check_entry.ensures ∙ ap code_of c.in_ok-check_entry.was)

pub returns : goal.returns
returns c =
    echo-none c.args.f.n c.args.f.i c.args.j c.loop-k.k c.args.hashes.now c.args.m.now c.loop-k.invariant (omega arith)
