use Rattle.std.specs.Prelude.{◌-◌}
use Rattle.lists.specs.Kit.{sym, ap, ◌∙◌, arith}
use Rattle.rounds.specs.Mail.{letter}
use Rattle.rounds.specs.TossLaws.{tossed-zero, tossed-own, tossed-turn, tossed-end}
use Rattle.toss_recv.proofs.joint_seed.Goals as goal
use Rattle.toss_recv.proofs.joint_seed.Goals.{then-k-f, else-k-f}

pub loop-k-init : goal.loop-k-init
loop-k-init c = tossed-zero c.args.f.i c.args.seed.now (letter c.args.incoming.now c.args.mail) c.xor_inplace.new.a c.requires.n_bound.1
    c.xor_inplace.ensures

pub loop-k-preserved : goal.loop-k-preserved
loop-k-preserved c =
    let i = c.args.f.i in
    let seed = c.args.seed.now in
    let m = letter c.args.incoming.now c.args.mail in
    let k = c.loop-k.k in
    elim c.if-k-f.branch [
      | then-k-f w ↦
          rw (w.x-is, w.xor_inplace-then-k-f.ensures)
          (tossed-turn i seed m k c.loop-k.x _ c.loop-k.invariant (λ e. w.if-k-f.true (sym e)) w.told.ensures.0)
      | else-k-f w ↦ rw w.x-is (tossed-own i seed m k c.loop-k.x c.loop-k.invariant (sym w.if-k-f.false))
    ]

pub returns : goal.returns
returns c =
    tossed-end c.args.f.i c.args.seed.now (letter c.args.incoming.now c.args.mail) c.args.f.n c.args.f.l c.loop-k.k c.loop-k.x
    c.loop-k.invariant (omega arith)
