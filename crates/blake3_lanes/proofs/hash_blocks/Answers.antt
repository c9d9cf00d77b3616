use Rattle.std.specs.Prelude.{◌≡◌, ◌+◌, ◌*◌}
use Rattle.lists.specs.Kit.{refl, subst, ap, ◌∙◌, List, ℕ, arith}
use Rattle.lists.specs.Over.{Written, written-zero, written-turn, written-more}
use Rattle.block.specs.declared.Block.{Block}
use Rattle.block.specs.Block.{bytes_of}
use Rattle.blake3.specs.Tree.{hash, digest, bytes}
use Rattle.blake3_lanes.specs.Lanes.{hash_at}
use Rattle.blake3_lanes.specs.LaneLaws.{length-hash_at, length-hashes, hash-part}
use Rattle.blake3_lanes.proofs.hash_blocks.Goals as goal

counted : (g : ℕ → List ℕ) (j k a : ℕ) (l d : List ℕ) → j ≡ k → Written g j a l d → Written g k a l d
counted g j k a l d e h = subst (λ (n : ℕ). Written g n a l d) e h

pub loop-w-init : goal.loop-w-init
loop-w-init c = written-zero _ _

pub loop-w-preserved : goal.loop-w-preserved
loop-w-preserved c =
    let s = c.args.blocks.now in
    let t = c.loop-w.w * 64 in
    counted (hash_at s) (t + 64) ((c.loop-w.w + 1) * 64) _ _ _ (omega arith)
    (written-more (hash_at s) t 64 (t * 32) (t * 32 + 2048) ((c.loop-w.w + 1) * 64 * 32) c.args.out.now c.loop-w.out _ c.loop-w.invariant
    (c.hash_window.ensures ∙ hash-part s (t * 16) (t * 16 + 1024) t 64 refl refl)
    (omega (arith, length-hashes s t 64)) (omega arith) (omega (arith, c.requires.out_len, c.loop-w-test.true)) (omega arith))

pub loop-t-preserved : goal.loop-t-preserved
unfolding hash
loop-t-preserved c =
    let t = c.loop-t.t in
    written-turn (hash_at c.args.blocks.now) t (t * 32) (t * 32 + 32) ((t + 1) * 32) _ c.loop-t.out _ c.loop-t.invariant
    (c.store.ensures ∙ ap bytes (c.hash_block-d.ensures ∙ ap (λ (x : Block). digest (bytes_of x)) c.load.ensures))
    (omega (arith, length-hash_at c.args.blocks.now t))
    (omega (arith, c.loop-t-test.true, c.loop-w.invariant.same, c.requires.out_len)) (omega arith)
