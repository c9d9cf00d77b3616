-- `admit::check` meets its contract.
use Rattle.std.specs.Prelude.{◌≡◌}
use Rattle.lists.specs.Kit.{sym, ◌∙◌, true, length}
use Rattle.plan.specs.Plan.{InRange}
use Rattle.engine.specs.Step.{parts_in}
use Rattle.engine.specs.Plain.{protocol_of}
use Rattle.rounds.specs.Table.{table}
use Rattle.admit.specs.Admit.{given, lengths_fit}
use Rattle.admit.proofs.AdmitLaws.{alive-ranges, fit-lengths, parts-any, reason-over, reason-turn, reason-lengths, reason-parts}
use Rattle.admit.proofs.AdmitLaws.{reason-lent}
use Rattle.admit.proofs.check.Goals as goal
use Rattle.admit.proofs.check.Goals.{After-parts_in, Else-not-alive, Else-not-lengths}

pub returns-then-not-alive : goal.returns-then-not-alive
returns-then-not-alive c =
    reason-over c.args.s c.args.k (given c.args.incoming.now c.args.starts.now c.args.lens.now c.args.missing.now c.args.r.now
    c.args.out.now) c.args.work.now (sym c.alive.ensures ∙ c.if-not-alive.true)

-- behind the test of the session

lives : (c : Else-not-alive) → (protocol_of table).alive c.args.s ≡ true
lives c = sym c.alive.ensures ∙ c.if-not-alive.false

ranged : (c : Else-not-alive) → InRange c.args.s.party.n c.args.s.party.l
ranged c = (alive-ranges c.args.s (lives c)).range

pub returns-then-k-s : goal.returns-then-k-s
returns-then-k-s c =
    reason-turn c.args.s c.args.k (given c.args.incoming.now c.args.starts.now c.args.lens.now c.args.missing.now c.args.r.now
    c.args.out.now) c.args.work.now (lives (goal.at.returns-then-k-s c).Else-not-alive) c.if-k-s.true

pub lengths-requires : goal.lengths-requires
lengths-requires c = ranged (goal.at.lengths-requires c).Else-not-alive

pub returns-then-not-lengths : goal.returns-then-not-lengths
returns-then-not-lengths c =
    reason-lengths c.args.s c.args.k (given c.args.incoming.now c.args.starts.now c.args.lens.now c.args.missing.now c.args.r.now
    c.args.out.now) c.args.work.now (lives (goal.at.returns-then-not-lengths c).Else-not-alive) c.if-k-s.false
    (sym c.lengths.ensures ∙ c.if-not-lengths.true)

-- behind the test of the lengths

fit : (c : Else-not-lengths) → lengths_fit c.args.s.party.n c.args.s.party.l c.args.k (length c.args.work.now) (length c.args.out.now)
    (length c.args.starts.now) (length c.args.lens.now) (length c.args.missing.now) ≡ true
fit c = sym c.lengths.ensures ∙ c.if-not-lengths.false

pub parts_in-requires : goal.parts_in-requires
parts_in-requires c = fit-lengths _ _ _ _ _ _ _ _ (fit (goal.at.parts_in-requires c).Else-not-lengths)

parts : (c : After-parts_in) → c.parts_in.result ≡ parts_in c.args.s.party (given c.args.incoming.now c.args.starts.now c.args.lens.now c.args.missing.now c.args.r.now
    c.args.out.now)
parts c =
    c.parts_in.ensures c.args.s.party.l
    ∙ parts-any c.args.incoming.now c.args.starts.now c.args.lens.now c.args.missing.now c.args.r.now
    c.args.out.now
    c.args.s.party

pub returns-then-not-parts_in : goal.returns-then-not-parts_in
returns-then-not-parts_in c =
    reason-parts c.args.s c.args.k (given c.args.incoming.now c.args.starts.now c.args.lens.now c.args.missing.now c.args.r.now
    c.args.out.now) c.args.work.now (lives (goal.at.returns-then-not-parts_in c).Else-not-alive) c.if-k-s.false
    (sym (parts (goal.at.returns-then-not-parts_in c).After-parts_in) ∙ c.if-not-parts_in.true)

pub lent-requires : goal.lent-requires
lent-requires c = ranged (goal.at.lent-requires c).Else-not-alive

pub returns : goal.returns
returns c =
    reason-lent c.args.s c.args.k (given c.args.incoming.now c.args.starts.now c.args.lens.now c.args.missing.now c.args.r.now
    c.args.out.now) c.args.work.now (lives (goal.at.returns c).Else-not-alive) c.if-k-s.false (fit (goal.at.returns c).Else-not-lengths)
    (sym (parts (goal.at.returns c).After-parts_in) ∙ c.if-not-parts_in.false) _ c.lent.ensures
