use Rattle.std.specs.Prelude.{◌≡◌, ◌-◌}
use Rattle.lists.specs.Over.{in-chunks}
use Rattle.lists.specs.Kit.{refl, sym, ap, ◌∙◌, arith}
use Rattle.lists.specs.Rows.{length-row}
use Rattle.engine.specs.Area.{nth-below, nth-skips}
use Rattle.rounds.specs.Loops.{sent-none, sent-in, sent_back, sent-end}
use Rattle.rounds.proofs.to_others.Goals as goal

pub loop-q-init : goal.loop-q-init
loop-q-init g c r h = sent-none c.args.f.n c.args.f.i c.args.len r c.args.out.now

pub put-requires : goal.put-requires
put-requires g c =
    let i = c.args.f.i in
    let q = c.loop-q.q in
    let fits = in-chunks q (c.args.f.n - 1) c.args.len c.loop-q-test.true in
    c.requires.put_pre _ (rw c.other.ensures (nth-below c.args.f.n i q c.loop-q-test.true))
    (λ e. nth-skips i q (sym c.other.ensures ∙ sym e)) _ (length-row c.args.len q c.loop-q.out (omega arith))

pub loop-q-preserved : goal.loop-q-preserved
loop-q-preserved g c r h =
    let i = c.args.f.i in
    let q = c.loop-q.q in
    let fits = in-chunks q (c.args.f.n - 1) c.args.len c.loop-q-test.true in
    sent_back c.args.f.n i c.args.len r c.args.len q c.args.out.now c.loop-q.out refl c.requires.out_len.2 (c.loop-q.invariant r h) _ _
    c.loop-q-test.true c.other.ensures
    (h _ (rw c.other.ensures (nth-below c.args.f.n i q c.loop-q-test.true)) (λ e. nth-skips i q (sym c.other.ensures ∙ sym e)) _ _
    (length-row c.args.len q c.loop-q.out (omega arith)) c.put.ensures) c.put.auto.arg2

pub returns : goal.returns
returns g c r h =
    sent-end c.args.f.n c.args.f.i c.args.len r c.args.len c.loop-q.q c.args.out.now c.loop-q.out refl c.requires.out_len.2 (c.loop-q.invariant r h)
    (omega arith)
