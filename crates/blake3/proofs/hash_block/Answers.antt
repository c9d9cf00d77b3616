use Rattle.std.specs.Prelude.{◌≡◌, ◌∷◌}
use Rattle.lists.specs.Kit.{ap, ◌∙◌, List, [], ℕ, arith}
use Rattle.blake3_core.specs.Compress.{compress, IV}
use Rattle.block.specs.declared.Block.{Block}
use Rattle.block.specs.Block.{bytes_of, Small}
use Rattle.blake3.specs.Tree.{digest}
use Rattle.blake3.specs.ByteLaws.{words, block-digest}
use Rattle.blake3.proofs.hash_block.Goals as goal

of_words : (b : Block) {r m : List ℕ} → Small b → r ≡ compress IV m 0 16 11 → m ≡ words b → r ≡ digest (bytes_of b)
of_words b h e w = e ∙ ap (λ (m : List ℕ). compress IV m 0 16 11) w ∙ block-digest b h

pub returns : goal.returns
returns c =
    of_words c.args.b (record { low = omega arith; high = omega arith }) c.compress.ensures
    (λ i.
    c.low.ensures i ∷ c.high.ensures i ∷ c.low-2.ensures i ∷ c.high-2.ensures i
    ∷ 0 ∷ 0 ∷ 0 ∷ 0 ∷ 0 ∷ 0 ∷ 0 ∷ 0 ∷ 0 ∷ 0 ∷ 0 ∷ 0 ∷ [])
