use Rattle.std.specs.Prelude.{◌≡◌, ◌+◌, ◌-◌, ◌<◌, ◌≤◌}
use Rattle.lists.specs.Kit.{ap, ap₂, subst, ◌∙◌, Bool, arith, length, rules}
use Rattle.block.specs.declared.Block.{Block}
use Rattle.share.specs.Layout.{record_len, record-some, record-within}
use Rattle.share.specs.Share.{Share}
use Rattle.encode.specs.Encode.{dvalue_item}
use Rattle.encode.specs.Bucket.{dvalue_in, Filled, filled-start, filled-turn, filled-end}
use Rattle.rounds.specs.Buckets as B
use Rattle.buckets.specs.Entries.{first-in, later-in, later-most, y-within, d-read}
use Rattle.dvalue.proofs.put_bucket.Goals as goal
use Rattle.dvalue.proofs.put_bucket.Invariants.{bits, macs}
use Rattle.dvalue.proofs.put_bucket.Goals.{After-y_at-y1, In-loop-e}

pub y_at-y0-requires : goal.y_at-y0-requires
y_at-y0-requires c =
    record { ranged = c.requires.ranged; perm_len = (c.requires.permuted.numbers, c.requires.j_lt_l.0, first-in c.args.f) }

pub put_dvalue_counts-requires : goal.put_dvalue_counts-requires
put_dvalue_counts-requires c =
    omega (arith, c.requires.j_lt_l.2, c.later-due.ensures)

pub loop-e-init : goal.loop-e-init
loop-e-init c = (rw c.put_dvalue_counts.ensures
    (filled-start c.later-due.result _ _ c.args.out.now (omega (arith, c.requires.j_lt_l.2, c.later-due.ensures))))

-- a turn, where y of the next entry is known

next : (c : In-loop-e) → c.loop-e.e < B.later c.args.f
next c = omega (arith, c.loop-e-test.true, c.later-due.ensures)

inside-0 : (c : In-loop-e) → c.y_at-y0.result + record_len c.args.f.n ≤ length c.args.recs.now
inside-0 c = y-within c.requires.ranged c.requires.permuted c.args.j 0 c.y_at-y0.result c.y_at-y0.ensures

pub overflow_add-e : goal.overflow_add-e
overflow_add-e c = omega (arith, next (goal.at.overflow_add-e c).In-loop-e, later-most c.args.f)

pub y_at-y1-requires : goal.y_at-y1-requires
y_at-y1-requires c = record { ranged = c.requires.ranged; perm_len = (c.requires.permuted.numbers, c.requires.j_lt_l.0, later-in c.args.f c.loop-e.e (next (goal.at.y_at-y1-requires c).In-loop-e)) }

inside-1 : (c : After-y_at-y1) → c.y_at-y1.result + record_len c.args.f.n ≤ length c.args.recs.now
inside-1 c =
    y-within c.requires.ranged c.requires.permuted c.args.j (c.loop-e.e + 1) c.y_at-y1.result c.y_at-y1.ensures

pub sum_bit-bit-requires : goal.sum_bit-bit-requires
sum_bit-bit-requires c =
    let h = record-some c.args.f.n in
    (omega (arith, inside-0 (goal.at.sum_bit-bit-requires c).In-loop-e, h), omega (arith, inside-1 (goal.at.sum_bit-bit-requires c).After-y_at-y1, h))

pub sum_mac-mac-requires : goal.sum_mac-mac-requires
sum_mac-mac-requires c = (
  omega (arith, c.requires.j_lt_l, c.requires.ranged.range.eight),
  omega (arith, inside-0 (goal.at.sum_mac-mac-requires c).In-loop-e, record-within c.args.f.n c.args.k c.requires.j_lt_l.1),
  omega (arith, inside-1 (goal.at.sum_mac-mac-requires c).After-y_at-y1, record-within c.args.f.n c.args.k c.requires.j_lt_l.1),
)

pub put_dvalue-requires : goal.put_dvalue-requires
put_dvalue-requires c =
    (c.loop-e.invariant.long, c.loop-e-test.true)

pub loop-e-preserved : goal.loop-e-preserved
loop-e-preserved c =
    let d : _ ≡ B.d c.args.f c.args.recs.now c.args.perm.now c.args.j c.loop-e.e =
    d-read c.args.f c.args.recs.now c.args.perm.now c.args.j c.loop-e.e c.y_at-y0.result c.y_at-y1.result c.y_at-y0.ensures
    c.y_at-y1.ensures in (rw (c.put_dvalue.ensures
    ∙ ap₂ (λ (v : Bool) (x : Block). dvalue_in c.later-due.result c.loop-e.e v x c.loop-e.out)
    (c.sum_bit-bit.ensures ∙ ap (λ (g : Share). g.bit) d) (c.sum_mac-mac.ensures
    ∙ ap (λ (g : Share). g.mac c.args.k) d))
    (filled-turn c.later-due.result (bits c.args.f c.args.recs.now c.args.perm.now c.args.j)
    (macs c.args.f c.args.recs.now c.args.perm.now c.args.j c.args.k) c.loop-e.e c.loop-e.out c.loop-e-test.true c.loop-e.invariant))

pub shape_of-out : goal.shape_of-out
shape_of-out c =
    omega (arith, c.loop-e.invariant.long, c.later-due.ensures, c.requires.j_lt_l)

pub returns : goal.returns
returns c =
    let d = bits c.args.f c.args.recs.now c.args.perm.now c.args.j in
    let x = macs c.args.f c.args.recs.now c.args.perm.now c.args.j c.args.k in
    filled-end c.later-due.result d x c.loop-e.out
    (subst (λ k. Filled c.later-due.result d x k c.loop-e.out) (let p : c.loop-e.e ≡ c.later-due.result = omega arith in p) c.loop-e.invariant)
    ∙ ap (λ k. dvalue_item k d x) c.later-due.ensures
