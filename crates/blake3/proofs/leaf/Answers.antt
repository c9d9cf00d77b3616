use Rattle.lists.specs.Kit.{ap, ◌∙◌, List, ℕ, arith}
use Rattle.blake3_node.specs.Node.{chunk}
use Rattle.blake3.specs.FirstLaws.{firsts-fit, plain-part}
use Rattle.blake3.proofs.leaf.Goals as goal

pub overflow_add-e : goal.overflow_add-e
overflow_add-e c =
    omega (arith, firsts-fit c.args.stride c.args.s.now c.requires.stride_nonzero.0)

pub slice_bounds-chunk-end : goal.slice_bounds-chunk-end
slice_bounds-chunk-end c =
    omega (arith, firsts-fit c.args.stride c.args.s.now c.requires.stride_nonzero.0)

pub returns-then-stride-eq1 : goal.returns-then-stride-eq1
returns-then-stride-eq1 c =
    c.chunk.ensures
    ∙ ap (λ (x : List ℕ). chunk x c.args.t c.args.f) (plain-part c.args.stride c.args.from c.args.len c.args.s.now c.if-stride-eq1.true)
