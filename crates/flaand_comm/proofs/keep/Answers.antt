use Rattle.std.specs.Prelude.{◌≡◌, ◌-◌, ◌*◌}
use Rattle.lists.specs.Kit.{sym, ap, ◌∙◌, List, ℕ, arith, rules, take, drop}
use Rattle.plan.specs.Plan.{leaky}
use Rattle.plan.specs.PlanLaws.{leaky-most}
use Rattle.rounds.specs.Area.{H_COMMS, rows, keep}
use Rattle.rounds.specs.Mail.{letter}
use Rattle.rounds.specs.Flaand.{comm_rows}
use Rattle.area.specs.GivenLaws.{place_in, place-length, place-keeps}
use Rattle.area.specs.Sizes.{size-h-comms}
use Rattle.flaand_comm.proofs.keep.Goals as goal

pub overflow_mul-leaky : goal.overflow_mul-leaky
overflow_mul-leaky c = omega (arith, leaky-most c.args.f.l c.requires.work.ranges.range.most, c.leaky.ensures)

pub slice_bounds-put_rows-end : goal.slice_bounds-put_rows-end
slice_bounds-put_rows-end c = place_in c.requires.work H_COMMS _ _ (omega arith) c.place-p.ensures

pub put_rows-requires-clause-section_len : goal.put_rows-requires-clause-section_len
put_rows-requires-clause-section_len c =
    place-length c.requires.work H_COMMS _ _ _ (omega arith) c.place-p.ensures (size-h-comms c.args.f)
    ∙ ap (λ m. c.args.f.n * (m * 32)) (sym c.leaky.ensures)

pub returns : goal.returns
unfolding comm_rows
returns c =
    let f = c.args.f in
    let g : ℕ → List ℕ = λ k. take (leaky f.l * 32) (drop 8 (letter c.args.incoming.now c.args.mail k)) in
    place-keeps f H_COMMS _ _ c.place-p.ensures c.put_rows.new.section c.args.work.now
    ∙ ap (λ (x : List ℕ). keep f H_COMMS x c.args.work.now)
    (c.put_rows.ensures g (λ k l ne row left e h. search rules) ∙ ap (λ m. rows f (m * 32) g) c.leaky.ensures)
