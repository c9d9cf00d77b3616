use Rattle.lists.specs.Kit.{refl, sym, ap, ◌∙◌, List, ℕ, arith}
use Rattle.blake3_chunks.specs.Chunks.{WINDOW}
use Rattle.blake3.specs.Tree.{chunks, tree}
use Rattle.blake3.specs.Firsts.{firsts}
use Rattle.blake3.specs.TreeLaws.{Largest, inside, some, left-count, right-count, tree-leaf, tree-parts}
use Rattle.blake3.specs.FirstLaws.{firsts-fit, plain-get}
use Rattle.blake3.proofs.+tree.Goals as goal
use Rattle.blake3.proofs.+tree.Goals.{After-left_chunks-k}

pub returns-then-len-le-CHUNK_LEN : goal.returns-then-len-le-CHUNK_LEN
returns-then-len-le-CHUNK_LEN t c =
    tree-leaf (firsts c.args.stride c.args.s.now) c.args.from c.args.len c.args.t c.args.f c.requires.stride_nonzero.1 (omega arith) c.leaf.ensures

pub four-requires-clause-from_in_bounds : goal.four-requires-clause-from_in_bounds
four-requires-clause-from_in_bounds t c =
    omega (arith, c.requires.stride_nonzero, firsts-fit c.args.stride c.args.s.now c.requires.stride_nonzero.0)

pub returns-then-len-eq-WINDOW : goal.returns-then-len-eq-WINDOW
returns-then-len-eq-WINDOW t c =
    c.four.ensures
    ∙ ap (λ (x : List ℕ). tree x c.args.t c.args.f)
    (plain-get c.args.stride c.args.from c.args.len WINDOW c.args.s.now c.if-stride-eq1.true (sym c.if-len-eq-WINDOW.true))

-- the left subtree's chunks
part : (t : ℕ) (c : After-left_chunks-k t) → Largest (chunks c.args.len) c.left_chunks-k.result
part t c = rw c.chunks.ensures at c.left_chunks-k.ensures

pub overflow_mul-n : goal.overflow_mul-n
overflow_mul-n t c = omega (arith, inside c.args.len c.left_chunks-k.result (omega arith) (part t c))

pub overflow_sub-rest : goal.overflow_sub-rest
overflow_sub-rest t c = omega (arith, inside c.args.len c.left_chunks-k.result (omega arith) (part t c))

pub tree-l-requires : goal.tree-l-requires
tree-l-requires t c =
    let n = c.args.len in
    let k = c.left_chunks-k.result in
    let p = part t c in
    omega (arith, inside n k (omega arith) p, left-count n k (omega arith) p, p.below, c.decreases, c.requires)

pub overflow_add-from : goal.overflow_add-from
overflow_add-from t c =
    omega (
      arith,
      inside c.args.len c.left_chunks-k.result (omega arith) (part t (goal.at.overflow_add-from t c).After-left_chunks-k),
      firsts-fit c.args.stride c.args.s.now c.requires.stride_nonzero.0,
    )

pub overflow_add-t : goal.overflow_add-t
overflow_add-t t c = omega (arith, (part t (goal.at.overflow_add-t t c).After-left_chunks-k).below)

pub tree-r-requires : goal.tree-r-requires
tree-r-requires t c =
    let n = c.args.len in
    let k = c.left_chunks-k.result in
    let p = part t (goal.at.tree-r-requires t c).After-left_chunks-k in
    omega (
      arith,
      inside n k (omega arith) p,
      right-count n k (omega arith) p,
      some n k (omega arith) p,
      p.below,
      c.decreases,
      c.requires,
    )

pub returns : goal.returns
returns t c =
    c.parent.ensures
    ∙ tree-parts (firsts c.args.stride c.args.s.now) c.args.from c.args.len c.args.t c.args.f c.left_chunks-k.result _ _ _ c.requires.stride_nonzero.1
    (omega arith) (part t (goal.at.returns t c).After-left_chunks-k)
    refl c.tree-l.ensures c.tree-r.ensures
