use Rattle.blake3_chunks.specs.ChunkLaws.{over-four}
use Rattle.blake3_chunks.proofs.four.Goals as goal

pub returns : goal.returns
returns c =
    over-four c.args.s.now c.args.t c.args.f c.window.result _ c.window.ensures
    c.parent-l.ensures c.parent-r.ensures c.parent.ensures
