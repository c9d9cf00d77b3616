use Rattle.std.specs.Prelude.{◌≡◌, ◌*◌}
use Rattle.lists.specs.Kit.{arith, rules, length}
use Rattle.plan.specs.Plan.{msg_len, list_len, count_due, kind_of}
use Rattle.rounds.specs.Area.{PAIRS}
use Rattle.area.specs.GivenLaws.{lent_length}
use Rattle.area.specs.Sizes.{size-pairs}
use Rattle.toss.proofs.write_pair_seeds.Goals as goal

pub to_others-requires : goal.to_others-requires
unfolding msg_len list_len count_due kind_of
to_others-requires c =
    let long : length c.section-pairs.result.now ≡ 32 * c.args.f.n =
    lent_length c.requires.work PAIRS _ _ (omega arith) (size-pairs c.args.f) c.section-pairs.ensures in
    search rules

pub returns : goal.returns
returns c = rw (← c.section-pairs.ensures) (c.to_others.ensures _ (λ k l ne row left e h. search rules))
