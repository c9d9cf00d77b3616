use Rattle.std.specs.Prelude.{◌+◌, ◌*◌}
use Rattle.lists.specs.Kit.{ap, arith, get_or}
use Rattle.lists.specs.Over.{written-zero, written-turn, written-end, length-take-drop}
use Rattle.word.specs.Word.{le4s}
use Rattle.word.specs.WordLaws.{length-le4}
use Rattle.chacha20.specs.ChaCha20 as C
use Rattle.chacha20.proofs.serialize.Goals as goal
use Rattle.chacha20.proofs.serialize.Invariants.{row}

pub loop-i-init : goal.loop-i-init
loop-i-init c = written-zero _ _

pub slice_bounds-store-end : goal.slice_bounds-store-end
slice_bounds-store-end c = omega (arith, c.loop-i.invariant.same)

pub store-requires : goal.store-requires
store-requires c = rw length-take-drop (omega (arith, c.loop-i.invariant.same))

pub loop-i-preserved : goal.loop-i-preserved
loop-i-preserved c =
    let k = c.loop-i in
    let v = c.args.v.now in
    written-turn (row v) k.i (k.i * 4) (k.i * 4 + 4) ((k.i + 1) * 4) c.args.out.now k.out _ k.invariant
    c.store.ensures (ap (λ n. k.i * 4 + n) (length-le4 (get_or v k.i 0))) (omega (arith, c, c.requires)) (omega arith)

pub shape_of-out : goal.shape_of-out
shape_of-out c = c.loop-i.invariant.same

pub returns : goal.returns
unfolding C.serialize le4s
returns c =
    let k = c.loop-i in
    written-end (row c.args.v.now) k.i 16 (k.i * 4) c.args.out.now k.out k.invariant (omega arith)
    (omega (arith, c.requires))
