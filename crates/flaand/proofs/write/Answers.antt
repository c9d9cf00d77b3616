use Rattle.lists.specs.Kit.{◌∙◌, List, ℕ}
use Rattle.plan.specs.Plan.{msg_len, list_len, kind_of, count_due}
use Rattle.engine.specs.Area.{to_others}
use Rattle.rounds.specs.Flaand.{flaand_msg}
use Rattle.flaand.specs.KeptLaws.{kept-secs, three-lent}
use Rattle.flaand.proofs.write.Goals as goal

pub write_all-requires : goal.write_all-requires
unfolding msg_len list_len kind_of count_due
write_all-requires c =
    record { out_len = c.requires.out_len; half_ands = kept-secs c.requires.work _ _ _ c.section-recs.ensures c.section-rows.ensures c.section-zs.ensures }

pub returns : goal.returns
returns c =
    c.write_all.ensures
    ∙ three-lent (λ (x y z : List ℕ). to_others c.args.f.n c.args.f.i (flaand_msg c.args.f x y z))
    c.section-recs.ensures c.section-rows.ensures c.section-zs.ensures
