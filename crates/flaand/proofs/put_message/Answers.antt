use Rattle.std.specs.Prelude.{◌≡◌, ◌+◌, ◌-◌, ◌*◌}
use Rattle.lists.specs.Kit.{ap, ◌∙◌, List, ℕ, rules}
use Rattle.lists.specs.Over.{cat}
use Rattle.block.specs.Block.{le8}
use Rattle.plan.specs.Plan.{leaky}
use Rattle.rounds.specs.Flaand.{flaand_msg}
use Rattle.flaand.specs.KeptLaws.{item, list_written}
use Rattle.flaand.proofs.put_message.Goals as goal

pub returns : goal.returns
unfolding flaand_msg item
returns c =
    let g : ℕ → List ℕ = item c.args.f c.args.recs.now c.args.rows.now c.args.zs.now c.args.k in
    list_written (leaky c.args.f.l) 17 g c.args.out.now _ _ c.requires.out_len.0
    (c.put_count.ensures ∙ ap le8 c.leaky-count.ensures)
    (c.write_rows.ensures g (λ t l row left e h. search rules) ∙ ap (λ m. cat m g) c.leaky-count.ensures)
