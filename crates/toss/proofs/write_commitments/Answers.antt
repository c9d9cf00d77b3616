use Rattle.std.specs.Prelude.{◌++◌, ◌+◌, ◌-◌, ◌*◌}
use Rattle.lists.specs.Kit.{sym, ap, ◌∙◌, List, ℕ, arith, length}
use Rattle.lists.specs.Over.{cat}
use Rattle.block.specs.Block.{le8}
use Rattle.blake3.specs.ByteLaws.{length-bytes}
use Rattle.encode.specs.Encode.{encode}
use Rattle.plan.specs.Plan.{msg_len, list_len, count_due, kind_of}
use Rattle.engine.specs.Area.{to_others}
use Rattle.rounds.specs.Area.{SEED}
use Rattle.rounds.specs.Toss as Toss
use Rattle.area.specs.GivenLaws.{lent_length}
use Rattle.area.specs.Sizes.{size-seed}
use Rattle.toss.proofs.write_commitments.Goals as goal

pub commitment-requires : goal.commitment-requires
commitment-requires c =
    lent_length c.requires.work SEED _ _ (omega arith) (size-seed c.args.f) c.section.ensures

pub write_same-requires : goal.write_same-requires
unfolding msg_len list_len count_due kind_of
write_same-requires c =
    let long = ap length c.store.ensures ∙ length-bytes c.commitment.result.0 in
    (c.requires.work.ranges.range.two, c.requires.out_len ∙ ap (λ t. (c.args.f.n - 1) * (8 + t)) (sym long))

pub returns : goal.returns
unfolding Toss.comm_msg encode cat
returns c =
    c.write_same.ensures c.args.f.i
    ∙ ap (λ (x : List ℕ). to_others c.args.f.n c.args.f.i (λ _. le8 1 ++ x))
    (c.store.ensures ∙ c.commitment.ensures ∙ ap (λ (x : List ℕ). Toss.commitment x c.args.f.i) c.section.ensures)
