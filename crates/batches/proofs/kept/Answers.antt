use Rattle.lists.specs.Kit.{refl, ap, ◌∙◌, arith, length, drop, replicate, List, ℕ}
use Rattle.std.specs.Prelude.{◌++◌}
use Rattle.batches.specs.Turns.{kept-whole}
use Rattle.batches.proofs.kept.Goals as goal

pub returns : goal.returns
returns c = ap (λ (s : List ℕ). s ++ drop (length c.args.counts.now) (replicate 16 0)) c.copy_from_slice.ensures.after ∙ kept-whole c.args.counts.now c.requires
