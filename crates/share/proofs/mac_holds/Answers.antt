use Rattle.lists.specs.Kit.{ap, ap₂, ◌∙◌, Bool}
use Rattle.algebra.specs.Group.{sel}
use Rattle.block.specs.Block.{eq_block}
use Rattle.block.specs.Group.{blocks}
use Rattle.share.proofs.mac_holds.Goals as goal

pub returns : goal.returns
returns c =
    let delta = c.args.delta.0 in
    c.equals.ensures
    ∙ ap₂ eq_block c.load.ensures
    (c.xor_delta-mac.ensures ∙ ap₂ blocks.op c.sum_key-key.ensures
    (c.times.ensures ∙ ap (λ (v : Bool). sel blocks v delta) c.bit.ensures))
