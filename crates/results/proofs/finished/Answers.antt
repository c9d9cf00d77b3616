use Rattle.lists.specs.Kit.{ap, ap₂, ◌∙◌}
use Rattle.algebra.specs.Group.{sel}
use Rattle.block.specs.Group.{blocks}
use Rattle.share.specs.Share.{share_at}
use Rattle.results.specs.FinishLaws.{finish-mac, finish-key}
use Rattle.results.proofs.finished.Goals as goal

pub returns : goal.returns
unfolding share_at
returns c =
    let w = c.args.work.now in (
      c.xor-2.ensures.0
          ∙ ap₂ blocks.op
          (c.xor.ensures.0
          ∙ ap₂ blocks.op c.entry_at-c.ensures.0 (c.times.ensures.0 ∙ ap (sel blocks c.args.d) c.entry_at-beta.ensures.0))
          (c.times-2.ensures.0 ∙ ap (sel blocks c.args.e) c.entry_at-a.ensures.0)
          ∙ finish-mac (share_at w c.args.r.c) (share_at w c.args.r.beta) (share_at w c.args.r.a) c.args.d c.args.e c.args.k,
      c.xor-2.ensures.1
          ∙ ap₂ blocks.op
          (c.xor.ensures.1
          ∙ ap₂ blocks.op c.entry_at-c.ensures.1 (c.times.ensures.1 ∙ ap (sel blocks c.args.d) c.entry_at-beta.ensures.1))
          (c.times-2.ensures.1 ∙ ap (sel blocks c.args.e) c.entry_at-a.ensures.1)
          ∙ finish-key (share_at w c.args.r.c) (share_at w c.args.r.beta) (share_at w c.args.r.a) c.args.d c.args.e c.args.k,
    )
