use Rattle.std.specs.Prelude.{◌+◌, ◌≤◌}
use Rattle.lists.specs.Kit.{sym, ◌∙◌, arith, length}
use Rattle.message.proofs.Laws.{bucket-end, first-list, bucket-no, bucket-cut, bucket-yes, bucket-fits}
use Rattle.message.proofs.dvalue_len.Goals as goal
use Rattle.message.proofs.dvalue_len.Goals.{In_ok-ds}

pub returns-in_err-ds : goal.returns-in_err-ds
returns-in_err-ds c = rw c.from_residual.ensures (bucket-end c.args.s.now c.args.at c.args.due c.in_err-ds.ensures)

-- the first list lies within
within : (c : In_ok-ds) → (8 ≤ c.in_ok-ds.ds) × (c.args.at + c.in_ok-ds.ds ≤ length c.args.s.now)
within c = first-list c.args.s.now c.args.at c.args.due c.in_ok-ds.ds c.in_ok-ds.ensures.0 c.in_ok-ds.ensures.1

pub overflow_sub-ds : goal.overflow_sub-ds
overflow_sub-ds c = omega (arith, within (goal.at.overflow_sub-ds c).In_ok-ds)

pub bools-requires : goal.bools-requires
bools-requires c = omega (arith, within (goal.at.bools-requires c).In_ok-ds)

pub returns-then-not-bools : goal.returns-then-not-bools
returns-then-not-bools c =
    bucket-no c.args.s.now c.args.at c.args.due c.in_ok-ds.ds c.in_ok-ds.ensures.0 c.in_ok-ds.ensures.1
    (sym c.bools.ensures ∙ c.if-not-bools.true)

pub overflow_add-at-2 : goal.overflow_add-at-2
overflow_add-at-2 c = omega (arith, within (goal.at.overflow_add-at-2 c).In_ok-ds)

pub vec_len-requires-2 : goal.vec_len-requires-2
vec_len-requires-2 c = (omega (arith, within (goal.at.vec_len-requires-2 c).In_ok-ds), omega arith)

pub returns-in_err-macs : goal.returns-in_err-macs
returns-in_err-macs c =
    rw c.from_residual-in_err-macs.ensures
    (bucket-cut c.args.s.now c.args.at c.args.due c.in_ok-ds.ds c.in_ok-ds.ensures.0 c.in_ok-ds.ensures.1 c.in_err-macs.ensures)

pub overflow_add-result : goal.overflow_add-result
overflow_add-result c =
    omega (
      arith,
      bucket-fits c.args.s.now c.args.at c.args.due c.in_ok-ds.ds c.in_ok-ds.ensures.0 c.in_ok-ds.ensures.1 c.in_ok-macs.macs
          c.in_ok-macs.ensures.0,
    )

pub returns : goal.returns
returns c = (
  bucket-yes c.args.s.now c.args.at c.args.due c.in_ok-ds.ds c.in_ok-ds.ensures.0 c.in_ok-ds.ensures.1 c.in_ok-macs.macs
      c.in_ok-macs.ensures.0 (sym c.bools.ensures ∙ c.if-not-bools.false) c.in_ok-macs.ensures.1,
  omega (arith, c.in_ok-ds.ensures.1),
)
