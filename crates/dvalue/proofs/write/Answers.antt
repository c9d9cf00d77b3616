use Rattle.lists.specs.Kit.{ap₂, ◌∙◌, List, ℕ}
use Rattle.engine.specs.Area.{to_others}
use Rattle.rounds.specs.Buckets.{dvalue_msg}
use Rattle.buckets.specs.Given.{lent_is}
use Rattle.dvalue.proofs.write.Goals as goal

pub put_messages-requires : goal.put_messages-requires
put_messages-requires c =
    record { ranged = c.requires.work.ranges; permuted = lent_is c.requires.work c.section-recs.ensures c.section-perm.ensures; out_len = c.requires.out_len }

pub returns : goal.returns
returns c =
    c.put_messages.ensures
    ∙ ap₂ (λ (x y : List ℕ). to_others c.args.f.n c.args.f.i (dvalue_msg c.args.f x y))
    c.section-recs.ensures c.section-perm.ensures
