use Rattle.std.specs.Prelude.{◌≡◌, ◌+◌, ◌-◌, ◌*◌, ◌≤◌}
use Rattle.lists.specs.Kit.{sym, ap, ◌∙◌, arith, length}
use Rattle.lists.specs.Sect.{length-get}
use Rattle.plan.specs.PlanLaws.{leaky-most}
use Rattle.flaand_comm.specs.AreaLaws.{own-inside, end-of-hs, own-written}
use Rattle.flaand_comm.proofs.hold.Goals as goal
use Rattle.flaand_comm.proofs.hold.Goals.{After-leaky-count}

-- the own row lies within, and HS before it
inside : (c : After-leaky-count)
    → c.section_at-comms.result + c.args.f.i * (c.leaky-count.result * 32) + c.leaky-count.result * 32 ≤ length c.args.work.now
inside c =
    own-inside c.requires c.section_at-hs.result c.section_at-comms.result c.leaky-count.result c.section_at-hs.ensures
    c.section_at-comms.ensures c.leaky-count.ensures

ends : (c : After-leaky-count) → c.section_at-hs.result + c.leaky-count.result * 16 ≡ c.section_at-comms.result
ends c =
    end-of-hs c.requires c.section_at-hs.result c.section_at-comms.result c.leaky-count.result c.section_at-hs.ensures
    c.section_at-comms.ensures c.leaky-count.ensures

pub split_at_mut-front-requires : goal.split_at_mut-front-requires
split_at_mut-front-requires c = omega (arith, inside (goal.at.split_at_mut-front-requires c).After-leaky-count)

pub overflow_mul-a : goal.overflow_mul-a
overflow_mul-a c = omega (arith, leaky-most c.args.f.l c.requires.ranges.range.most, c.leaky-count.ensures)

pub overflow_mul-a-2 : goal.overflow_mul-a-2
overflow_mul-a-2 c = omega (arith, inside (goal.at.overflow_mul-a-2 c).After-leaky-count, c.well_formed)

pub overflow_mul-e : goal.overflow_mul-e
overflow_mul-e c = omega (arith, leaky-most c.args.f.l c.requires.ranges.range.most, c.leaky-count.ensures)

pub overflow_add-e : goal.overflow_add-e
overflow_add-e c = omega (arith, inside (goal.at.overflow_add-e c).After-leaky-count, c.well_formed)

pub slice_bounds-hash_blocks-end : goal.slice_bounds-hash_blocks-end
slice_bounds-hash_blocks-end c =
    omega (arith, inside (goal.at.slice_bounds-hash_blocks-end c).After-leaky-count, c.split_at_mut-front.ensures.back_len)

pub slice_bounds-hash_blocks-count-2 : goal.slice_bounds-hash_blocks-count-2
slice_bounds-hash_blocks-count-2 c =
    omega (arith, ends (goal.at.slice_bounds-hash_blocks-count-2 c).After-leaky-count, c.split_at_mut-front.ensures.front_len)

pub slice_bounds-hash_blocks-start-2 : goal.slice_bounds-hash_blocks-start-2
slice_bounds-hash_blocks-start-2 c =
    omega (arith, ends (goal.at.slice_bounds-hash_blocks-start-2 c).After-leaky-count, c.split_at_mut-front.ensures.front_len)

pub hash_blocks-requires-clause-blocks_len : goal.hash_blocks-requires-clause-blocks_len
hash_blocks-requires-clause-blocks_len c =
    let e = ends (goal.at.hash_blocks-requires-clause-blocks_len c).After-leaky-count in
    let l = c.split_at_mut-front.ensures.front_len in
    let front = c.split_at_mut-front.result.0.now in
    let a = c.section_at-hs.result in
    length-get a (length front - a) front (omega (arith, e, l))
    ∙ (let q : length front - a ≡ c.leaky-count.result * 16 = omega (arith, e, l) in q)

pub returns : goal.returns
returns c =
    own-written c.requires c.section_at-hs.result c.section_at-comms.result c.leaky-count.result c.section_at-hs.ensures
    c.section_at-comms.ensures c.leaky-count.ensures c.split_at_mut-front.result.0.now c.split_at_mut-front.result.1.now
    c.hash_blocks.new.out _ c.split_at_mut-front.ensures.value c.split_at_mut-front.ensures.front_len (omega arith) c.hash_blocks.ensures
