use Rattle.std.specs.Prelude.{◌≡◌, ◌+◌, ◌*◌}
use Rattle.lists.specs.Kit.{sym, ap, subst, ◌∙◌, arith, rules, replicate}
use Rattle.lists.specs.Over.{Written}
use Rattle.lists.specs.Rows.{even-zero, even-in, even-turn, even-end, length-row}
use Rattle.rounds.specs.Loops.{row_of, rows_of, row-own, row_other}
use Rattle.rounds.proofs.put_rows.Goals as goal
use Rattle.rounds.proofs.put_rows.Goals.{then-k-f, else-k-f}

pub loop-k-init : goal.loop-k-init
loop-k-init g c r h = even-zero (row_of c.args.f.i c.args.len r) c.args.len c.args.section.now

pub loop-k-preserved : goal.loop-k-preserved
loop-k-preserved g c r h =
    let i = c.args.f.i in
    let k = c.loop-k.k in
    let d = c.loop-k.section in
    let m = c.args.len in
    let fits = even-in (row_of i m r) c.args.f.n m c.args.section.now c.requires.section_len k c.loop-k-test.true in
    let long = length-row m k d (omega arith) in
    elim c.if-k-f.branch [
      | then-k-f w ↦
          subst (Written (row_of i m r) (k + 1) ((k + 1) * m) c.args.section.now) (sym w.section-is) (even-turn (row_of i m r) c.args.f.n m c.args.section.now c.requires.section_len k d _ c.loop-k-test.true (c.loop-k.invariant r h)
          (w.fill.ensures.after (λ y e. search rules) ∙ ap (λ n. replicate n 0) long ∙ sym (row-own i m r k (sym w.if-k-f.true))) w.fill.auto.self)
      | else-k-f w ↦
          subst (Written (row_of i m r) (k + 1) ((k + 1) * m) c.args.section.now) (sym w.section-is) (even-turn (row_of i m r) c.args.f.n m c.args.section.now c.requires.section_len k d _ c.loop-k-test.true (c.loop-k.invariant r h)
          (h k c.loop-k-test.true (λ e. w.if-k-f.false (sym e)) _ _ long w.put.ensures ∙ sym (row_other i m r k (λ e. w.if-k-f.false (sym e))))
          w.put.auto.arg2)
    ]

pub returns : goal.returns
returns g c r h =
    even-end (row_of c.args.f.i c.args.len r) c.args.f.n c.args.len c.args.section.now c.requires.section_len c.loop-k.k c.loop-k.section
    (c.loop-k.invariant r h) (omega arith)
    ∙ rows_of c.args.f c.args.len r
