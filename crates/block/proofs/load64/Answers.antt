use Rattle.std.specs.Prelude.{◌≡◌, ◌+◌, ◌-◌}
use Rattle.lists.specs.Kit.{ap, ◌∙◌, arith, take, drop}
use Rattle.block.specs.Trip.{word-std}
use Rattle.block.proofs.load64.Goals as goal

pub returns : goal.returns
returns c =
    let s = c.args.s.now in
    let at = c.args.at in
    let chunk = rw c.unwrap.ensures at c.try_into.ensures.1 in
    c.from_le_bytes.ensures
    ∙ word-std _ s at (chunk.same ∙ ap (λ n. take n (drop at s)) (let e : at + 8 - at ≡ 8 = omega arith in e))
