use Rattle.std.specs.Prelude.{◌≡◌, ⊤, ◌+◌, ◌*◌, ◌≤◌, Result, Ok, Err}
use Rattle.std.specs.Result.{IsErrAnd}
use Rattle.lists.specs.Kit.{sym, ap, ◌∙◌, arith, length}
use Rattle.lists.specs.Over.{in-record}
use Rattle.share.specs.Lent.{lent_len, record_fault, records_fault}
use Rattle.share.specs.LentLaws.{faults-zero, faults-turn, faults-stay}
use Rattle.refusals.specs.declared.Reason.{Reason}
use Rattle.refusals.specs.Reason.{number, code_of, number-some}
use Rattle.records.proofs.first_fault.Goals as goal
use Rattle.records.proofs.first_fault.Goals.{After-record_fault, In-loop-t}

pub loop-t-init : goal.loop-t-init
loop-t-init c = faults-zero _ _ _

-- the start of record t
at : (c : In-loop-t) → c.loop-t.t * c.lent_len-len.result ≡ c.loop-t.t * lent_len
    c.args.n
at c = ap (λ l. c.loop-t.t * l) c.lent_len-len.ensures

-- record t lies within
inside : (c : In-loop-t) → c.loop-t.t * c.lent_len-len.result + lent_len c.args.n ≤ length c.args.s.now
inside c =
    omega (
      arith,
      at c,
      in-record c.loop-t.t c.args.count (lent_len c.args.n) 0 (lent_len c.args.n)
          (length c.args.s.now) c.loop-t-test.true (omega arith) c.requires.n_in_bounds,
    )

pub overflow_mul-t : goal.overflow_mul-t
overflow_mul-t c = omega (arith, inside (goal.at.overflow_mul-t c).In-loop-t)

pub record_fault-requires : goal.record_fault-requires
record_fault-requires c = (c.requires.n_bound.0, c.requires.n_bound.1, inside (goal.at.record_fault-requires c).In-loop-t)

-- the reason is passed on as it is
err-code : (r : Result ⊤ Reason) (e : Reason) → IsErrAnd r (λ x. x ≡ e) → code_of r ≡ number e
err-code (Ok _) e h = absurd h
err-code (Err x) e h = ap number h

-- what the call found is the list's fault up to record t
found : (c : After-record_fault) → records_fault c.args.n c.args.i c.args.s.now (c.loop-t.t + 1) ≡ code_of c.record_fault.result
found c =
    let at-here : c.loop-t.t * c.lent_len-len.result ≡ c.loop-t.t * lent_len c.args.n = ap (λ l. c.loop-t.t * l) c.lent_len-len.ensures in
    faults-turn c.args.n c.args.i c.args.s.now c.loop-t.t c.loop-t.invariant
    ∙ ap (record_fault c.args.n c.args.i c.args.s.now) (sym at-here) ∙ sym c.record_fault.ensures

pub returns-in_err-record_fault : goal.returns-in_err-record_fault
returns-in_err-record_fault c =
    let e = c.in_err-record_fault.field-0.0 in
    let p : code_of c.record_fault.result ≡ number e = ap code_of c.in_err-record_fault.was in
    err-code c.from_residual.result e c.from_residual.ensures.1
    ∙ sym (faults-stay c.args.n c.args.i c.args.s.now (c.loop-t.t + 1) c.args.count (number e) (omega arith)
    (found (goal.at.returns-in_err-record_fault c).After-record_fault ∙ p) (number-some e))

pub loop-t-preserved : goal.loop-t-preserved
loop-t-preserved c = found (goal.at.loop-t-preserved c).After-record_fault ∙ ap code_of c.in_ok-record_fault.was

pub returns : goal.returns
returns c =
    sym (ap (records_fault c.args.n c.args.i c.args.s.now) (let e : c.args.count ≡ c.loop-t.t = omega arith in e) ∙ c.loop-t.invariant)
