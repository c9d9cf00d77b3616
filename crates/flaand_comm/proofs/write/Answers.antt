use Rattle.std.specs.Prelude.{◌≡◌, ◌++◌, ◌+◌, ◌-◌, ◌*◌, ◌≤◌}
use Rattle.lists.specs.Kit.{sym, ap, ap₂, ◌∙◌, List, ℕ, arith, length}
use Rattle.lists.specs.Over.{in-chunks}
use Rattle.lists.specs.Rows.{chunk, length-row, row-part}
use Rattle.block.specs.Block.{le8}
use Rattle.plan.specs.Plan.{leaky, msg_len, list_len, kind_of, count_due}
use Rattle.plan.specs.PlanLaws.{leaky-most}
use Rattle.engine.specs.Area.{to_others}
use Rattle.rounds.specs.Area.{HS, H_COMMS, at}
use Rattle.rounds.specs.FlaandLaws.{comms-sent}
use Rattle.area.specs.GivenLaws.{lent_length}
use Rattle.area.specs.Sizes.{size-h-comms}
use Rattle.flaand_comm.proofs.write.Goals as goal
use Rattle.flaand_comm.proofs.write.Goals.{After-leaky-count}

-- the own row

is : (c : After-leaky-count) → (c.leaky-count.result * 32) ≡ leaky c.args.f.l * 32
is c = ap (λ m. m * 32) c.leaky-count.ensures

inside : (c : After-leaky-count) → c.args.f.i * (c.leaky-count.result * 32) + (c.leaky-count.result * 32) ≤ length c.section-rows.result.now
inside c =
    omega (
      arith,
      in-chunks c.args.f.i c.args.f.n (c.leaky-count.result * 32) c.requires.work.ranges.own,
      lent_length c.requires.work H_COMMS _ c.section-rows.result.now (omega arith) (size-h-comms c.args.f) c.section-rows.ensures,
      ap (λ m. c.args.f.n * m) (is c),
    )

pub overflow_mul-len : goal.overflow_mul-len
overflow_mul-len c = omega (arith, leaky-most c.args.f.l c.requires.work.ranges.range.most, c.leaky-count.ensures)

pub overflow_mul-a : goal.overflow_mul-a
overflow_mul-a c = omega (arith, inside (goal.at.overflow_mul-a c).After-leaky-count)

pub overflow_add-e : goal.overflow_add-e
overflow_add-e c = omega (arith, inside (goal.at.overflow_add-e c).After-leaky-count)

pub slice_bounds-write_same-end : goal.slice_bounds-write_same-end
slice_bounds-write_same-end c = omega (arith, inside (goal.at.slice_bounds-write_same-end c).After-leaky-count)

pub write_same-requires : goal.write_same-requires
unfolding msg_len list_len kind_of count_due
write_same-requires c = (
  c.requires.work.ranges.range.two,
  c.requires.out_len ∙ ap (λ m. (c.args.f.n - 1) * (8 + m)) (sym (length-row
      (c.leaky-count.result * 32) c.args.f.i c.section-rows.result.now (inside (goal.at.write_same-requires c).After-leaky-count)
      ∙ is (goal.at.write_same-requires c).After-leaky-count)),
)

pub returns : goal.returns
returns c =
    c.write_same.ensures c.args.f.i
    ∙ ap (λ (x : List ℕ). to_others c.args.f.n c.args.f.i (λ _. x))
    (ap₂ (λ m (x : List ℕ). le8 m ++ x) c.leaky-count.ensures
    (row-part (c.leaky-count.result * 32) c.args.f.i c.section-rows.result.now
    ∙ ap₂ (λ m (x : List ℕ). chunk m c.args.f.i x) (is (goal.at.returns c).After-leaky-count) c.section-rows.ensures
    ∙ c.requires.comms_kept)
    ∙ comms-sent c.args.f (at c.args.f HS c.args.work.now))
