use Rattle.std.specs.Prelude.{◌≡◌, ◌≢◌}
use Rattle.lists.specs.Kit.{sym, ap, ◌∙◌, rules}
use Rattle.refusals.specs.Reason.{code_of, number-some}
use Rattle.rounds.specs.Opening.{lengths_fault}
use Rattle.inputs.specs.Given.{buffers?, found_at}
use Rattle.inputs.specs.OpeningLaws.{or_left, or_right, due_of_lem}
use Rattle.inputs.proofs.check.Goals as goal
use Rattle.inputs.proofs.check.Goals.{After-check_lengths}

-- what the lengths give
told : (c : After-check_lengths) → code_of c.check_lengths.result
    ≡ lengths_fault c.args.f (code_of c.args.counts) (c.args.v).bits (c.args.v).alpha (c.args.v).beta (buffers? c.args.f (c.args.v))
told c =
    c.check_lengths.ensures
    ∙ ap (lengths_fault c.args.f (code_of c.args.counts) (c.args.v).bits (c.args.v).alpha (c.args.v).beta) c.buffers_due.ensures

pub returns-in_err-check_lengths : goal.returns-in_err-check_lengths
unfolding found_at
returns-in_err-check_lengths c =
    let e = told (goal.at.returns-in_err-check_lengths c).After-check_lengths in
    let r : code_of c.from_residual.result ≡ code_of c.check_lengths.result = search rules in
    let some : code_of c.check_lengths.result ≢ 0 = rw c.in_err-check_lengths.was (number-some c.in_err-check_lengths.field-0.0) in
    r ∙ e ∙ sym (or_left _ _ (λ z. some (e ∙ z)))

pub check_bytes-requires : goal.check_bytes-requires
check_bytes-requires c =
    let none : code_of c.check_lengths.result ≡ 0 = ap code_of c.in_ok-check_lengths.was in
    let d = due_of_lem c.args.f c.args.v (code_of c.args.counts) c.requires.counted (sym (told
    (goal.at.check_bytes-requires c).After-check_lengths) ∙ none) in (
      d.ranges,
      record {
        bits = sym c.requires.bits_value.0 ∙ d.lists.bits;
        alpha = sym c.requires.bits_value.1 ∙ d.lists.alpha;
        beta = sym c.requires.bits_value.2 ∙ d.lists.beta;
      },
      sym c.requires.bits_value.3 ∙ d.seeds.masks,
    )

pub returns : goal.returns
unfolding found_at
returns c =
    let none : code_of c.check_lengths.result ≡ 0 = ap code_of c.in_ok-check_lengths.was in
    c.check_bytes.ensures ∙ sym (or_right _ _ (sym (told (goal.at.returns c).After-check_lengths) ∙ none))
