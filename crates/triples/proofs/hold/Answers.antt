use Rattle.std.specs.Prelude.{◌≡◌, ◌+◌, ◌-◌, ◌*◌, ◌≤◌}
use Rattle.lists.specs.Kit.{refl, sym, ap, ap₂, subst, ◌∙◌, List, ℕ, arith, length}
use Rattle.lists.specs.Sect.{put}
use Rattle.block.specs.declared.Block.{Block}
use Rattle.share.specs.Layout.{record_len, record-most}
use Rattle.rounds.specs.Area.{TRIPLES, BITS, ZS, ES, PERM, DS, at, keep, size_of}
use Rattle.rounds.specs.Buckets.{triple_rows}
use Rattle.area.specs.Sizes.{size-triples}
use Rattle.area.specs.Filled.{Filled, filled_none, filled-work, filled-other, filled-end, row_in, filled_put}
use Rattle.triples.specs.Laws.{row_of, row_kept, length-row_of, rows_are}
use Rattle.triples.proofs.hold.Goals as goal
use Rattle.triples.proofs.hold.Goals.{After-delta-delta, In-loop-j}

-- ---- of a call

full : (c : After-delta-delta) → (c.args.f).l * (2 * record_len (c.args.f).n) ≡ size_of (c.args.f) TRIPLES
full c = sym (size-triples (c.args.f))

pub loop-j-init : goal.loop-j-init
loop-j-init c = (filled_none c.requires TRIPLES (2 * record_len (c.args.f).n) (omega arith) (row_of (c.args.f)
    (c.delta-delta.result.0) c.args.work.now) (c.args.f).l (full (goal.at.loop-j-init c).After-delta-delta))

-- ---- in a turn

len_is : (c : In-loop-j) → (2 * c.record_len-len.result) ≡ (2 * record_len (c.args.f).n)
len_is c = ap (λ m. 2 * m) c.record_len-len.ensures

inside : (c : In-loop-j) → (c.section_at-rows.result) + (c.loop-j.j) * (2 * c.record_len-len.result) +
    (2 * c.record_len-len.result) ≤ length (c.loop-j.work)
inside c =
    let full-here : (c.args.f).l * (2 * record_len (c.args.f).n) ≡ size_of (c.args.f) TRIPLES = sym (size-triples (c.args.f)) in
    row_in c.requires TRIPLES (2 * record_len (c.args.f).n) (omega arith) (row_of (c.args.f) (c.delta-delta.result.0) c.args.work.now)
    (c.args.f).l (full-here) (c.loop-j.j) (c.loop-j.work) c.loop-j.invariant (c.section_at-rows.result) (2 * c.record_len-len.result)
    c.section_at-rows.ensures (len_is c)
    c.loop-j-test.true

-- the row of bucket j is still what it was
row_same : (c : In-loop-j) → row_of (c.args.f) (c.delta-delta.result.0) (c.loop-j.work) (c.loop-j.j)
    ≡ (row_of (c.args.f) (c.delta-delta.result.0) c.args.work.now) (c.loop-j.j)
row_same c =
    let full-here : (c.args.f).l * (2 * record_len (c.args.f).n) ≡ size_of (c.args.f) TRIPLES = sym (size-triples (c.args.f)) in
    row_kept (c.args.f) (c.delta-delta.result.0) c.args.work.now (c.loop-j.work) (c.loop-j.j)
    (filled-other c.requires TRIPLES (2 * record_len (c.args.f).n) (omega arith) (row_of (c.args.f)
    (c.delta-delta.result.0) c.args.work.now) (c.args.f).l (full-here) (c.loop-j.j) (c.loop-j.work) c.loop-j.invariant)

pub overflow_mul-j : goal.overflow_mul-j
overflow_mul-j c = omega (arith, inside (goal.at.overflow_mul-j c).In-loop-j, c.loop-j.invariant.same, c.well_formed)

pub overflow_add-rows : goal.overflow_add-rows
overflow_add-rows c = omega (arith, inside (goal.at.overflow_add-rows c).In-loop-j, c.loop-j.invariant.same, c.well_formed)

pub put_row-requires : goal.put_row-requires
put_row-requires c =
    record {
      work = (
        filled-work c.requires TRIPLES (2 * record_len (c.args.f).n) (omega arith) (row_of (c.args.f)
            (c.delta-delta.result.0) c.args.work.now) (c.args.f).l (full (goal.at.put_row-requires c).After-delta-delta) (c.loop-j.j)
            (c.loop-j.work) c.loop-j.invariant,
        c.loop-j-test.true,
        c.sections-at.ensures,
      );
      row_value = ap₂ (λ a m. a + (c.loop-j.j) * m) c.section_at-rows.ensures (len_is (goal.at.put_row-requires c).In-loop-j);
    }

pub loop-j-preserved : goal.loop-j-preserved
loop-j-preserved c =
    let at : ℕ = (c.section_at-rows.result) + (c.loop-j.j) * (2 * c.record_len-len.result) in
    let m : 2 * record_len (c.args.f).n ≡ at + (2 * c.record_len-len.result) - at = omega (
      arith,
      len_is (goal.at.loop-j-preserved c).In-loop-j,
    ) in (subst (Filled (c.args.f) TRIPLES (2 * record_len (c.args.f).n) (row_of (c.args.f) (c.delta-delta.result.0) c.args.work.now)
    ((c.loop-j.j) + 1) c.args.work.now)
    (sym (c.put_row.ensures ∙ ap₂ (λ k (x : List ℕ). put at k x (c.loop-j.work)) m (row_same (goal.at.loop-j-preserved c).In-loop-j)))
    (filled_put c.requires TRIPLES (2 * record_len (c.args.f).n) (omega arith) (row_of (c.args.f)
    (c.delta-delta.result.0) c.args.work.now) (c.args.f).l (full (goal.at.loop-j-preserved c).After-delta-delta) (c.loop-j.j)
    (c.loop-j.work) c.loop-j.invariant (c.section_at-rows.result)
    (2 * c.record_len-len.result) c.section_at-rows.ensures (len_is (goal.at.loop-j-preserved c).In-loop-j) c.loop-j-test.true
    ((row_of (c.args.f) (c.delta-delta.result.0) c.args.work.now) (c.loop-j.j)) refl (length-row_of (c.args.f)
    (c.delta-delta.result.0) c.args.work.now (c.loop-j.j))))

pub shape_of-work : goal.shape_of-work
shape_of-work c = c.loop-j.invariant.same

pub returns : goal.returns
returns c =
    let F = (c.args.f) in
    let v = c.args.work.now in
    filled-end c.requires TRIPLES (2 * record_len (c.args.f).n) (omega arith) (row_of (c.args.f) (c.delta-delta.result.0) c.args.work.now)
    (c.args.f).l (full (goal.at.returns c).After-delta-delta) c.loop-j.j c.loop-j.work c.loop-j.invariant (omega arith)
    ∙ ap (λ (x : List ℕ). keep F TRIPLES x v) (rows_are F (c.delta-delta.result.0) v)
    ∙ ap (λ (x : Block). keep F TRIPLES (triple_rows F x (at F BITS v) (at F ZS v) (at F ES v) (at F PERM v) (at F DS v)) v)
    c.delta-delta.ensures

pub sections-at-requires : goal.sections-at-requires
sections-at-requires c = c.requires.ranges

pub section_at-rows-requires : goal.section_at-rows-requires
section_at-rows-requires c = record { in_range = c.requires.ranges.range; s_bound = omega arith }

pub record_len-len-requires : goal.record_len-len-requires
record_len-len-requires c = c.requires.ranges.range.eight

pub overflow_mul-len : goal.overflow_mul-len
overflow_mul-len c = omega (arith, c.record_len-len.ensures, record-most c.args.f.n c.requires.ranges.range.eight)
