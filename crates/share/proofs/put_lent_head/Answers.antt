use Rattle.std.specs.Prelude.{◌≡◌}
use Rattle.lists.specs.Kit.{ap₂, ◌∙◌, List, ℕ, replicate, drop, set, rules, ◌++◌}
use Rattle.share.proofs.Laws.{set-lent-head}
use Rattle.share.proofs.put_lent_head.Goals as goal

pub returns : goal.returns
returns c =
    let zeros : c.fill.new.self ≡ replicate 32 0 = search rules in
    ap₂ (λ (l : List ℕ) (b : ℕ). set (set (set (l ++ drop 32 c.args.out.now) 0 b) 1 c.args.n) 2 c.args.i) zeros c.bit_byte.ensures
    ∙ set-lent-head c.args.n c.args.i c.args.bit c.args.out.now
