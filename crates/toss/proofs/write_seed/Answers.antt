use Rattle.std.specs.Prelude.{◌≡◌, ◌+◌, ◌-◌, ◌*◌}
use Rattle.lists.specs.Kit.{refl, sym, ap, ◌∙◌, List, ℕ, arith, length}
use Rattle.encode.specs.Encode.{dm_item}
use Rattle.plan.specs.Plan.{msg_len, list_len, count_due, kind_of}
use Rattle.engine.specs.Area.{to_others}
use Rattle.rounds.specs.Area.{SEED}
use Rattle.rounds.specs.TossLaws.{ver-put}
use Rattle.area.specs.GivenLaws.{lent_length}
use Rattle.area.specs.Sizes.{size-seed}
use Rattle.toss.proofs.write_seed.Goals as goal
use Rattle.toss.proofs.write_seed.Goals.{After-section-seed}

long : (c : After-section-seed) → length c.section-seed.result.now ≡ 32
long c =
    lent_length c.requires.work SEED _ _ (omega arith) (size-seed c.args.f) c.section-seed.ensures

pub write_same-requires : goal.write_same-requires
unfolding msg_len list_len count_due kind_of
write_same-requires c = (
  c.requires.work.ranges.range.two,
  c.requires.out_len
      ∙ ap (λ t. (c.args.f.n - 1) * (8 + t)) (sym (long (goal.at.write_same-requires c).After-section-seed)),
)

pub returns : goal.returns
unfolding dm_item
returns c =
    rw (← c.section-seed.ensures)
    (c.write_same.ensures c.args.f.i
    ∙ ap (λ (x : List ℕ). to_others c.args.f.n c.args.f.i (λ _. x))
    (ver-put c.section-seed.result.now _ refl (long (goal.at.returns c).After-section-seed)))
