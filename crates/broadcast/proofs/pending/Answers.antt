use Rattle.std.specs.Prelude.{◌≡◌}
use Rattle.lists.specs.Kit.{refl, sym, ap, ◌∙◌, false, ◌-◌, arith, length, get_or, rules}
use Rattle.engine.specs.Area.{mem}
use Rattle.rounds.specs.Area.{PENDING}
use Rattle.rounds.specs.Table.{faults}
use Rattle.area.specs.GivenLaws.{length_at}
use Rattle.area.specs.Sizes.{size-pending}
use Rattle.broadcast.specs.BroadcastLaws.{finds-pending, finds-nothing, faults-no_reason}
use Rattle.broadcast.proofs.pending.Goals as goal
use Rattle.broadcast.proofs.pending.Goals.{After-section-p, After-finds}

pub section-p-requires : goal.section-p-requires
section-p-requires c = search rules

-- the section has two bytes
long : (c : After-section-p) → length c.section-p.result.now ≡ 2
long c =
    ap length c.section-p.ensures ∙ length_at c.requires.work PENDING (omega arith) ∙ size-pending c.args.f

pub bounds-p-0 : goal.bounds-p-0
bounds-p-0 c =
    omega (arith, long (goal.at.bounds-p-0 c).After-section-p)

pub bounds-p-1 : goal.bounds-p-1
bounds-p-1 c =
    omega (arith, long (goal.at.bounds-p-1 c).After-section-p)

pub returns-in_default : goal.returns-in_default
returns-in_default c =
    finds-nothing c.args.f c.args.k c.args.work.now c.section-p.result.now false c.requires.le_k c.section-p.ensures
    (sym (faults-no_reason (c.args.k - 1) _ (c.in_default.ensures {u = tt}))) refl

-- the byte is the number of the reason that was found or not
found : (c : After-finds) → c.finds.result ≡ mem (get_or c.section-p.result.now 0 0) (faults (c.args.k - 1))
found c = c.finds.ensures ∙ ap (λ n. mem n (faults (c.args.k - 1))) c.in-Ok.ensures

pub returns-then-finds-party : goal.returns-then-finds-party
returns-then-finds-party c =
    finds-pending c.args.f c.args.k c.args.work.now c.section-p.result.now c.finds.result c.requires.le_k c.section-p.ensures
    (found (goal.at.returns-then-finds-party c).After-finds) c.in-Ok.reason c.in-Ok.ensures c.if-finds-party.true

pub returns-else-finds-party : goal.returns-else-finds-party
returns-else-finds-party c =
    finds-nothing c.args.f c.args.k c.args.work.now c.section-p.result.now c.finds.result c.requires.le_k c.section-p.ensures
    (found (goal.at.returns-else-finds-party c).After-finds) c.if-finds-party.false
