use Rattle.std.specs.Prelude.{◌≡◌}
use Rattle.lists.specs.Kit.{sym, ◌∙◌, arith}
use Rattle.engine.specs.StepLaws.{scan-turn}
use Rattle.rounds.specs.FaultLaws.{fault_at, fault-own, fault-other, clean-zero, finds-first, finds-none}
use Rattle.rounds.proofs.by_party.Goals as goal
use Rattle.rounds.proofs.by_party.Goals.{then-k-f+in_default, else-k-f}

pub loop-k-init : goal.loop-k-init
loop-k-init g c t h = clean-zero c.args.f.n c.args.f.i t

pub returns-in-Err : goal.returns-in-Err
returns-in-Err g c t h =
    finds-first c.args.f.n c.args.f.i t c.args.f.l c.loop-k.k c.in-Err.reason c.loop-k-test.true (c.loop-k.invariant t h)
    (fault-other c.args.f.i c.loop-k.k _ t c.if-k-f.true (h c.loop-k.k _ c.loop-k-test.true (λ e. c.if-k-f.true (sym e)) c.in-Err.ensures))

pub loop-k-preserved : goal.loop-k-preserved
loop-k-preserved g c t h =
    let i = c.args.f.i in
    let k = c.loop-k.k in
    elim c.if-k-f.branch [
      | then-k-f+in_default w ↦
          scan-turn k (fault_at i t) (c.loop-k.invariant t h)
          (sym (fault-other i k 0 t w.if-k-f.true (h k _ c.loop-k-test.true (λ e. w.if-k-f.true (sym e)) w.in_default.ensures)))
      | else-k-f w ↦ scan-turn k (fault_at i t) (c.loop-k.invariant t h) (sym (fault-own i k t w.if-k-f.false))
    ]

pub returns : goal.returns
returns g c t h = finds-none c.args.f.n c.args.f.i t c.args.f.l c.loop-k.k (c.loop-k.invariant t h) (omega arith)
