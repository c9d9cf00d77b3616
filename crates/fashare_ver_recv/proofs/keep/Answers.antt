use Rattle.std.specs.Prelude.{◌≡◌, ◌*◌}
use Rattle.lists.specs.Kit.{refl, sym, ap, ◌∙◌, List, ℕ, arith, rules}
use Rattle.plan.specs.Plan.{dm_len}
use Rattle.engine.specs.declared.Frame.{Frame}
use Rattle.rounds.specs.Area.{DMS, sizes, size_of, rows, keep}
use Rattle.rounds.specs.Mail.{letter}
use Rattle.rounds.specs.Fashare.{STRINGS, dms_of, dm_rows}
use Rattle.area.specs.GivenLaws.{place_in, place-length, place-keeps}
use Rattle.fashare_comm.specs.Laws.{dm-most}
use Rattle.fashare_ver_recv.proofs.keep.Goals as goal

size-dms : (f : Frame) → size_of f DMS ≡ f.n * (STRINGS * dm_len f.n)
unfolding size_of sizes
size-dms f = refl

pub dm_len-requires : goal.dm_len-requires
dm_len-requires c = (omega (arith, c.requires.work.ranges.range.two), c.requires.work.ranges.range.eight)

pub overflow_mul-dm_len : goal.overflow_mul-dm_len
overflow_mul-dm_len c = omega (arith, c.dm_len.ensures, dm-most c.args.f.n c.requires.work.ranges.range.eight)

pub slice_bounds-put_rows-end : goal.slice_bounds-put_rows-end
slice_bounds-put_rows-end c = place_in c.requires.work DMS _ _ (omega arith) c.place-p.ensures

pub put_rows-requires-clause-section_len : goal.put_rows-requires-clause-section_len
put_rows-requires-clause-section_len c =
    place-length c.requires.work DMS _ _ _ (omega arith) c.place-p.ensures (size-dms c.args.f)
    ∙ ap (λ t. c.args.f.n * (STRINGS * t)) (sym c.dm_len.ensures)

pub returns : goal.returns
unfolding dm_rows
returns c =
    let row = λ (k : ℕ). dms_of c.args.f.n (letter c.args.incoming.now c.args.mail k) in
    place-keeps c.args.f DMS _ _ c.place-p.ensures c.put_rows.new.section c.args.work.now
    ∙ ap (λ (x : List ℕ). keep c.args.f DMS x c.args.work.now)
    (c.put_rows.ensures row (λ k l ne row left e h. search rules) ∙ ap (λ t. rows c.args.f (STRINGS * t) row) c.dm_len.ensures)
