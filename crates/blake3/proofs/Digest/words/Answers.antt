use Rattle.std.specs.Prelude.{◌≡◌, ◌+◌, ◌*◌, ◌^◌}
use Rattle.lists.specs.Kit.{ap, ◌∙◌, ℕ, arith, get_or, rules}
use mir.Syntax.{w32}
use mir.Val.{Fits}
use Rattle.block.specs.Block.{word_at, block_at}
use Rattle.blake3.specs.Tree.{bytes}
use Rattle.blake3.specs.ByteLaws.{two-words}
use Rattle.blake3.proofs.Digest.words.Goals as goal

pub returns : goal.returns
unfolding block_at
returns c =
    let h = c.args.self.0 in
    let k = c.args.k in
    let w : (i : ℕ) → Fits w32 (get_or h i 0) = λ i. search rules in
    let three : k + 3 ≡ k + 2 + 1 = omega arith in
    let next : 4 * (k + 2) ≡ 4 * k + 8 = omega arith in
    λ i. record {
      0 = (c.joined.ensures ∙ two-words h k (omega arith) (w k).fits (w (k + 1)).fits) i;
      1 = (c.joined-2.ensures ∙ ap (λ (i : ℕ). get_or h (k + 2) 0 + get_or h i 0 * 2 ^ 32) three
          ∙ two-words h (k + 2) (omega arith) (w (k + 2)).fits (w (k + 2 + 1)).fits ∙ ap (λ (a : ℕ). word_at (bytes h) a) next) i;
    }
