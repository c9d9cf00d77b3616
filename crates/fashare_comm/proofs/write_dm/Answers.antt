use Rattle.std.specs.Prelude.{◌+◌, ◌≤◌, ◌<◌}
use Rattle.lists.specs.Kit.{arith, rules, length, ◌∙◌, ap}
use Rattle.algebra.specs.Group.{num}
use Rattle.plan.specs.Plan.{dm_len}
use Rattle.engine.specs.Area.{nth, nth-below}
use Rattle.share.specs.Record.{record_len}
use Rattle.share.specs.Layout.{record-some}
use Rattle.fashare_comm.specs.Laws.{record-in, entry_in, dm-written}
use Rattle.fashare_comm.proofs.write_dm.Goals as goal

pub bit_at-requires : goal.bit_at-requires
bit_at-requires c =
    omega (
      arith,
      record-some c.args.f.n,
      record-in c.requires.q_bound.1 c.args.q c.record_at-at.result c.requires.q_bound.0 c.record_at-at.ensures,
    )

pub bounds-out-0 : goal.bounds-out-0
unfolding dm_len
bounds-out-0 c = search rules

pub slice_bounds-write_rows-count : goal.slice_bounds-write_rows-count
unfolding dm_len
slice_bounds-write_rows-count c = search rules

pub slice_bounds-write_rows-start : goal.slice_bounds-write_rows-start
unfolding dm_len
slice_bounds-write_rows-start c = search rules

pub write_rows-requires-clause-out_len : goal.write_rows-requires-clause-out_len
unfolding dm_len
write_rows-requires-clause-out_len c = search rules

pub write_rows-requires-clause-put_pre : goal.write_rows-requires-clause-put_pre
write_rows-requires-clause-put_pre c p l row e =
    let few : p < 8 = omega (arith, c.requires.q_bound.1.range) in
    let h : nth c.args.f.i p < c.args.f.n = nth-below c.args.f.n c.args.f.i p l in
    let w : c.record_at-at.result + record_len (nth c.args.f.i p + 1) ≤ length c.args.recs.now =
    entry_in c.requires.q_bound.1 c.args.q c.record_at-at.result c.requires.q_bound.0 c.record_at-at.ensures (nth c.args.f.i p) h in
    search rules

pub returns : goal.returns
returns c =
    dm-written c.args.f c.args.recs.now c.args.q c.record_at-at.result c.bit_byte.result c.args.out.now c.write_rows.new.out
    c.requires.out_len
    c.record_at-at.ensures (c.bit_byte.ensures ∙ ap num c.bit_at.ensures) (c.write_rows.ensures _ (λ p l row left e h. search rules))
