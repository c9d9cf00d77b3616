use Rattle.std.specs.Prelude.{◌++◌, ◌+◌, ◌-◌, ◌*◌}
use Rattle.lists.specs.Kit.{sym, ap, ap₂, ◌∙◌, List, ℕ, arith}
use Rattle.lists.specs.Bytes.{bytes-get}
use Rattle.block.specs.Block.{le8}
use Rattle.plan.specs.Plan.{msg_len, list_len, kind_of, count_due}
use Rattle.engine.specs.Area.{off, sec, to_others}
use Rattle.rounds.specs.Area.{HS, size_of, at}
use Rattle.rounds.specs.FlaandLaws.{hs-sent}
use Rattle.area.specs.GivenLaws.{length_at, lent_length}
use Rattle.area.specs.Sizes.{size-hs}
use Rattle.flaand_hash.proofs.write.Goals as goal

pub write_same-requires : goal.write_same-requires
unfolding msg_len list_len kind_of count_due
write_same-requires c =
    let long = lent_length c.requires.work HS _ _ (omega arith) (size-hs c.args.f) c.section-hs.ensures in
    (c.requires.work.ranges.range.two, c.requires.out_len ∙ ap (λ m. (c.args.f.n - 1) * (8 + m)) (sym long))

pub returns : goal.returns
unfolding at sec
returns c =
    let w = c.args.work.now in
    c.write_same.ensures c.args.f.i
    ∙ ap (λ (x : List ℕ). to_others c.args.f.n c.args.f.i (λ _. x))
    (ap₂ (λ m (x : List ℕ). le8 m ++ x) c.leaky.ensures c.section-hs.ensures
    ∙ hs-sent c.args.f (at c.args.f HS w) (bytes-get (off (size_of c.args.f) HS) (size_of c.args.f HS) w (λ j. (c.shared_slice_known-1.given j).fits))
    (length_at c.requires.work HS (omega arith) ∙ size-hs c.args.f))
