-- The own row is cleared, any other one is of its party.
use Rattle.std.specs.Prelude.{◌≡◌, ◌+◌, ◌-◌, ◌*◌, ◌<◌, ◌≤◌}
use Rattle.lists.specs.Kit.{refl, sym, ap, ◌∙◌, List, ℕ, arith, length, replicate}
use Rattle.lists.specs.Over.{cat}
use Rattle.lists.specs.Sect.{put}
use Rattle.block.specs.Block.{bytes_of}
use Rattle.rbits.specs.Chosen.{pair_at}
use Rattle.engine.specs.Area.{off}
use Rattle.rounds.specs.Area.{KEY_SUMS, sizes, size_of}
use Rattle.rounds.specs.Fabitn.{STRINGS, ROW}
use Rattle.rounds.specs.Loops.{row_of, row-own, row_other, lent-part}
use Rattle.area.specs.GivenLaws.{row_inside}
use Rattle.fabitn.specs.Rows.{held_row}
use Rattle.fabitn.specs.Laws.{place-below}
use Rattle.fabitn.proofs.hold_row.Goals as goal
use Rattle.fabitn.proofs.hold_row.Goals.{After-place, After-section_at}

-- the row lies within
inside : (c : After-section_at) → c.section_at.result + c.args.k * ROW + ROW ≤ length c.args.work.now
unfolding size_of sizes
inside c =
    row_inside c.requires.work KEY_SUMS _ c.args.f.n ROW c.args.k (omega arith) c.section_at.ensures refl c.requires.k_lt_n

pub overflow_add-a : goal.overflow_add-a
overflow_add-a c = omega (arith, inside (goal.at.overflow_add-a c).After-section_at)

pub overflow_add-e : goal.overflow_add-e
overflow_add-e c = omega (arith, inside (goal.at.overflow_add-e c).After-section_at)

pub slice_bounds-clear-end : goal.slice_bounds-clear-end
slice_bounds-clear-end c = inside (goal.at.slice_bounds-clear-end c).After-section_at

pub slice_bounds-write_blocks-end : goal.slice_bounds-write_blocks-end
slice_bounds-write_blocks-end c = inside (goal.at.slice_bounds-write_blocks-end c).After-section_at

-- party k is one of seven others at most
below : (c : After-place) → c.place.result < 7
below c =
    omega (
      arith,
      c.place.ensures,
      place-below c.args.f.n c.args.f.i c.args.k c.if-i-k.false c.requires.work.ranges.own c.requires.k_lt_n,
      c.requires.work.ranges.range.eight,
    )

pub overflow_mul-place : goal.overflow_mul-place
overflow_mul-place c = omega (arith, below (goal.at.overflow_mul-place c).After-place)

pub write_blocks-requires : goal.write_blocks-requires
write_blocks-requires c =
    record {
      out_len = lent-part (c.section_at.result + c.args.k * ROW) ROW ROW c.args.work.now refl
          (inside (goal.at.write_blocks-requires c).After-section_at);
      base_bound = omega
          (arith, below (goal.at.write_blocks-requires c).After-place);
    }

-- what is put there

put-row : (c : After-section_at) → (x : List ℕ) → x ≡ row_of c.args.f.i ROW (held_row c.args.f.i c.args.keys.now) c.args.k
    → put (c.section_at.result + c.args.k * ROW) ((c.section_at.result + c.args.k * ROW) + ROW - (c.section_at.result + c.args.k * ROW)) x
    c.args.work.now
    ≡ put (off (size_of c.args.f) KEY_SUMS + c.args.k * ROW) ROW (row_of c.args.f.i ROW (held_row c.args.f.i c.args.keys.now) c.args.k)
    c.args.work.now
put-row c x e =
    let long : (c.section_at.result + c.args.k * ROW) + ROW - (c.section_at.result + c.args.k * ROW) ≡ ROW = omega arith in
    λ t. put (c.section_at.ensures t + c.args.k * ROW) (long t) (e t) c.args.work.now

pub returns-then-i-k : goal.returns-then-i-k
returns-then-i-k c =
    put-row (goal.at.returns-then-i-k c).After-section_at _
    (c.clear.ensures
    ∙ ap (λ m. replicate m 0) (lent-part (c.section_at.result + c.args.k * ROW) ROW ROW c.args.work.now refl
    (inside (goal.at.returns-then-i-k c).After-section_at))
    ∙ sym (row-own c.args.f.i ROW (held_row c.args.f.i c.args.keys.now) c.args.k c.if-i-k.true))

pub returns-else-i-k : goal.returns-else-i-k
unfolding held_row
returns-else-i-k c =
    put-row (goal.at.returns-else-i-k c).After-section_at _
    (c.write_blocks.ensures
    ∙ ap (λ q. cat STRINGS (λ j. bytes_of (pair_at c.args.keys.now (q * STRINGS + j)))) c.place.ensures
    ∙ sym (row_other c.args.f.i ROW (held_row c.args.f.i c.args.keys.now) c.args.k c.if-i-k.false))
