use Rattle.lists.specs.Kit.{ap, ◌∙◌, set, rules}
use Rattle.share.specs.Layout.{mac_off}
use Rattle.share.proofs.Laws.{set-head}
use Rattle.share.proofs.put_head.Goals as goal

pub bounds-out-0 : goal.bounds-out-0
unfolding mac_off
bounds-out-0 c = search rules

pub returns : goal.returns
returns c =
    ap (set c.args.out.now 0) c.bit_byte.ensures ∙ set-head c.args.bit c.args.out.now c.requires
