-- An arm for each round but `fabitn` for whose messages something is kept.
use Rattle.rounds.specs.Table.{held}
use Rattle.plain.specs.SendLaws.{held_at, held_none}
use Rattle.plain.proofs.hold.Goals as goal

pub hold-requires : goal.hold-requires
hold-requires c = c.requires.work

pub hold-requires-in-17 : goal.hold-requires-in-17
hold-requires-in-17 c = c.requires.work

pub hold-requires-in-21 : goal.hold-requires-in-21
hold-requires-in-21 c = c.requires.work

pub hold-requires-in-22 : goal.hold-requires-in-22
hold-requires-in-22 c = c.requires.work

pub returns-in-14 : goal.returns-in-14
unfolding held
returns-in-14 c =
    λ q. held_at c.args.f q c.args.work.now c.args.k 14 _ c.in-14.is
    c.hold.ensures

pub returns-in-17 : goal.returns-in-17
unfolding held
returns-in-17 c =
    λ q. held_at c.args.f q c.args.work.now c.args.k 17 _ c.in-17.is
    c.hold-in-17.ensures

pub returns-in-21 : goal.returns-in-21
unfolding held
returns-in-21 c =
    λ q. held_at c.args.f q c.args.work.now c.args.k 21 _ c.in-21.is
    c.hold-in-21.ensures

pub returns-in-22 : goal.returns-in-22
unfolding held
returns-in-22 c =
    λ q. held_at c.args.f q c.args.work.now c.args.k 22 _ c.in-22.is
    c.hold-in-22.ensures

pub returns-in_default : goal.returns-in_default
returns-in_default c =
    let m = c.in_default.in_default-own.rest in
    λ q. held_none c.args.f q c.args.work.now c.args.k c.requires.k_nonzero m.0.0.0.1 m.0.0.1 m.0.1 m.1
