use Rattle.lists.specs.Kit.{ap, ◌∙◌, rules}
use Rattle.lists.specs.Over.{cat}
use Rattle.block.specs.Block.{le8}
use Rattle.plan.specs.Plan.{leaky}
use Rattle.haand.specs.Sent.{item, message, list_written}
use Rattle.haand.proofs.put_message.Goals as goal

pub returns : goal.returns
unfolding message
returns c =
    let g = item c.args.f c.args.rows.now c.args.masks.now c.args.recs.now c.args.k in
    list_written (leaky c.args.f.l) 2 g c.args.out.now _ _ c.requires.out_len.0
    (c.put_count.ensures ∙ ap le8 c.leaky-count.ensures)
    (c.write_rows.ensures g (λ t l row left e h. search rules) ∙ ap (λ m. cat m g) c.leaky-count.ensures)
