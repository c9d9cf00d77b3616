use Rattle.lists.specs.Kit.{ap, ◌∙◌, arith}
use Rattle.block.specs.Block.{bytes_of}
use Rattle.block.specs.Group.{blocks}
use Rattle.blake3.specs.Tree as T
use Rattle.blake3.specs.ByteLaws.{length-hash}
use Rattle.rounds.specs.Fashare as Fashare
use Rattle.fashare_comm.specs.Laws.{three-written}
use Rattle.fashare_comm.proofs.write_comm.Goals as goal

pub returns : goal.returns
unfolding T.hash Fashare.d1
returns c =
    let r = c.args.recs.now in
    three-written _ _ _ c.args.out.now _ _ _ 32 64 96 c.requires.out_len (length-hash (bytes_of (Fashare.d0 c.args.f r c.args.q)))
    (length-hash _) (omega arith) (omega arith)
    (c.store.ensures ∙ ap T.bytes (c.hash_block.ensures ∙ ap (λ b. T.digest (bytes_of b)) c.d0.ensures))
    (c.store-2.ensures ∙ ap T.bytes
    (c.hash_block-2.ensures ∙ ap (λ b. T.digest (bytes_of b))
    (c.xor_delta-mac.ensures ∙ ap (λ b. blocks.op b c.args.delta.0) c.d0.ensures)))
    (c.store-3.ensures ∙ ap T.bytes c.dm_digest.ensures)
