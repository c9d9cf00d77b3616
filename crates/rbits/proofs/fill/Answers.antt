use Rattle.std.specs.Prelude.{◌≡◌, ◌+◌, ◌*◌, ◌<◌}
use Rattle.lists.specs.Kit.{◌∙◌, List, ℕ, arith}
use Rattle.lists.specs.Over.{written-zero, written-turn, written-end}
use Rattle.block.specs.declared.Block.{Block}
use Rattle.rbits.specs.Tables.{record_block, table4, tables}
use Rattle.rbits.specs.TableLaws.{table4-at, length-table4}
use Rattle.rbits.proofs.fill.Goals as goal

pub loop-k-init : goal.loop-k-init
loop-k-init c = written-zero _ _

pub loop-k-preserved : goal.loop-k-preserved
loop-k-preserved c =
    let a = c.args in
    let k = c.loop-k.k in
    let h : k < 16 = c.loop-k-test.true in
    let f : ℕ → Block = record_block a.s.now a.stride a.at a.count in
    let g : ℕ → List ℕ = λ k. table4 (λ e. f (a.first + (k * 4 + e))) in
    let four : c.put_table.new.out ≡ g k =
    c.put_table.ensures
    ∙ table4-at f a.first k _ _ _ _ c.record_block.ensures
    c.record_block-in-loop-k.ensures
    c.record_block-in-loop-k-2.ensures c.record_block-in-loop-k-3.ensures in
    written-turn g k (k * 32) (k * 32 + 32) ((k + 1) * 32) a.out.now c.loop-k.out c.put_table.new.out c.loop-k.invariant four
    (omega (arith, length-table4 (λ e. f (a.first + (k * 4 + e))))) (omega arith) (omega arith)

pub shape_of-out : goal.shape_of-out
shape_of-out c = c.loop-k.invariant.same

pub returns : goal.returns
unfolding tables
returns c =
    let l = c.loop-k in
    written-end _ l.k 16 (l.k * 32) _ l.out l.invariant (omega arith) (omega arith)
