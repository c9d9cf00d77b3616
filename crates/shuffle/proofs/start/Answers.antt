use Rattle.std.specs.Prelude.{◌+◌, ◌*◌}
use Rattle.lists.specs.Kit.{ap, ◌∙◌, arith}
use Rattle.lists.specs.Over.{written-zero, written-turn, written-end}
use Rattle.word.specs.Word.{le4}
use Rattle.word.specs.WordLaws.{length-le4}
use Rattle.shuffle.proofs.TurnLaws.{started}
use Rattle.shuffle.proofs.start.Goals as goal

pub loop-t-init : goal.loop-t-init
loop-t-init c = written-zero le4 _

pub loop-t-preserved : goal.loop-t-preserved
loop-t-preserved c =
    written-turn le4 c.loop-t.t (c.loop-t.t * 4) (c.loop-t.t * 4 + 4) ((c.loop-t.t + 1) * 4) c.args.section.now c.loop-t.section
    c.store.new.out c.loop-t.invariant c.store.ensures (ap (λ k. c.loop-t.t * 4 + k) (length-le4 c.loop-t.t))
    (omega (arith, c, c.requires)) (omega arith)

pub returns : goal.returns
returns c =
    written-end le4 c.loop-t.t c.args.n (c.loop-t.t * 4) c.args.section.now c.loop-t.section
    c.loop-t.invariant (omega arith) (omega (arith, c.requires))
    ∙ started c.args.n
