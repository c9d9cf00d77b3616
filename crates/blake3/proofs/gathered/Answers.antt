use Rattle.std.specs.Prelude.{◌≡◌, ◌++◌, ◌+◌, ◌≤◌}
use Rattle.lists.specs.Kit.{refl, sym, ap, ap₂, ◌∙◌, List, ℕ, arith, length, get_or, take, drop, replicate, set}
use lib.ListN.{length-set}
use lib.Seq.{take_at, length-take-le}
use Rattle.lists.specs.Over.{tab, tab-zero, tab-step, length-tab}
use Rattle.lists.specs.Tab.{take-tab}
use Rattle.lists.specs.Sect.{get}
use Rattle.blake3_node.specs.Node.{chunk}
use Rattle.blake3.specs.Firsts.{firsts}
use Rattle.blake3.specs.FirstLaws.{firsts-fit}
use Rattle.blake3.proofs.gathered.Goals as goal

pub loop-i-init : goal.loop-i-init
loop-i-init c = (tab-zero _ _, refl)

pub overflow_add-from : goal.overflow_add-from
overflow_add-from c =
    omega (arith, firsts-fit c.args.stride c.args.s.now c.requires.stride_nonzero.0)

pub loop-i-preserved : goal.loop-i-preserved
loop-i-preserved c = (
  ap₂ (λ (x : List ℕ) (y : ℕ). set x c.loop-i.i y) c.loop-i.invariant.0 c.first.ensures
      ∙ tab-step c.loop-i.i (λ j. get_or (firsts c.args.stride c.args.s.now) (c.args.from + j) 0) (replicate 1024 0) (omega arith),
  length-set c.loop-i.b c.loop-i.i _ ∙ c.loop-i.invariant.1,
)

-- what is lent to `chunk`
lent : (s b : List ℕ) (stride from len i : ℕ) → from + len ≤ length (firsts stride s) → i ≡ len
    → b ≡ tab i (λ j. get_or (firsts stride s) (from + j) 0) ++ drop i (replicate 1024 0) → take len b ≡ get from len (firsts stride s)
lent s b stride from len i h e q =
    let g : ℕ → ℕ = λ j. get_or (firsts stride s) (from + j) 0 in
    ap (take len) (q ∙ ap (λ (n : ℕ). tab n g ++ drop n (replicate 1024 0)) e)
    ∙ take_at (tab len g) (drop len (replicate 1024 0)) len (length-tab len g)
    ∙ sym (take-tab len from (firsts stride s) 0 h)

pub returns : goal.returns
returns c =
    c.chunk.ensures
    ∙ ap (λ (x : List ℕ). chunk x c.args.t c.args.f)
    (lent c.args.s.now c.loop-i.b c.args.stride c.args.from c.args.len c.loop-i.i c.requires.stride_nonzero.1 (omega arith)
    c.loop-i.invariant.0)

pub first-requires : goal.first-requires
first-requires c = (c.requires.stride_nonzero.0, omega arith)

pub slice_bounds-chunk-end : goal.slice_bounds-chunk-end
slice_bounds-chunk-end c = sym (length-take-le c.args.len c.loop-i.b (omega arith))

pub chunk-requires : goal.chunk-requires
chunk-requires c = omega (arith, length-take-le c.args.len c.loop-i.b (omega arith))
