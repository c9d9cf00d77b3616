use Rattle.std.specs.Prelude.{◌≡◌, ◌+◌, ◌-◌, ◌*◌}
use Rattle.lists.specs.Kit.{refl, sym, ap, ◌∙◌, subst, List, ℕ, arith, rules}
use Rattle.lists.specs.Sect.{put}
use Rattle.engine.specs.declared.Frame.{Frame}
use Rattle.engine.specs.Area.{off}
use Rattle.rounds.specs.Area.{KEY_SUMS, sizes, size_of, keep}
use Rattle.rounds.specs.Fabitn.{ROW}
use Rattle.rounds.specs.Loops.{row_of, rows_of, length-row_of}
use Rattle.area.specs.Filled.{Filled, filled_none, filled-work, filled_put, filled-end}
use Rattle.fabitn.specs.Rows.{held_row}
use Rattle.fabitn.specs.Laws.{length-held}
use Rattle.fabitn.proofs.hold.Goals as goal

full : (f : Frame) → f.n * ROW ≡ size_of f KEY_SUMS
unfolding size_of sizes
full f = refl

-- ---- of a call

pub loop-k-init : goal.loop-k-init
loop-k-init c =
    (filled_none c.requires KEY_SUMS ROW (omega arith) (row_of (c.args.f).i ROW (held_row (c.args.f).i c.args.keys.now)) (c.args.f).n
    (full (c.args.f)))

pub hold_row-requires : goal.hold_row-requires
hold_row-requires c =
    record {
      work = filled-work c.requires KEY_SUMS ROW (omega arith) (row_of (c.args.f).i ROW (held_row (c.args.f).i c.args.keys.now))
          (c.args.f).n (full (c.args.f)) c.loop-k.k c.loop-k.work c.loop-k.invariant;
      k_lt_n = c.loop-k-test.true;
    }

pub loop-k-preserved : goal.loop-k-preserved
loop-k-preserved c =
    let a = off (size_of (c.args.f)) KEY_SUMS + c.loop-k.k * ROW in
    let long : a + ROW - a ≡ ROW = omega arith in
    let kept : put a (a + ROW - a) ((row_of (c.args.f).i ROW (held_row (c.args.f).i c.args.keys.now)) c.loop-k.k) c.loop-k.work ≡
    c.hold_row.new.work = ap (λ m. put a m ((row_of (c.args.f).i ROW (held_row (c.args.f).i c.args.keys.now)) c.loop-k.k)
    c.loop-k.work) long ∙ sym c.hold_row.ensures in (subst (Filled (c.args.f) KEY_SUMS ROW
    (row_of (c.args.f).i ROW (held_row (c.args.f).i c.args.keys.now)) (c.loop-k.k + 1) c.args.work.now) kept
    (filled_put c.requires KEY_SUMS ROW (omega arith) (row_of (c.args.f).i ROW (held_row (c.args.f).i c.args.keys.now)) (c.args.f).n
    (full (c.args.f)) c.loop-k.k c.loop-k.work c.loop-k.invariant (off (size_of (c.args.f)) KEY_SUMS)
    ROW refl refl c.loop-k-test.true ((row_of (c.args.f).i ROW (held_row (c.args.f).i c.args.keys.now)) c.loop-k.k) refl
    (length-row_of (c.args.f).i ROW _ c.loop-k.k (λ ne. length-held (c.args.f).i _ c.loop-k.k))))

pub shape_of-work : goal.shape_of-work
shape_of-work c = c.loop-k.invariant.same

pub returns : goal.returns
returns c =
    filled-end c.requires KEY_SUMS ROW (omega arith) (row_of (c.args.f).i ROW (held_row (c.args.f).i c.args.keys.now)) (c.args.f).n
    (full (c.args.f)) c.loop-k.k c.loop-k.work c.loop-k.invariant (omega arith)
    ∙ ap (λ (x : List ℕ). keep (c.args.f) KEY_SUMS x c.args.work.now) (rows_of (c.args.f) ROW _)
