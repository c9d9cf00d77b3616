-- An arm for each round that has a content check.
use Rattle.lists.specs.Kit.{refl, arith}
use Rattle.plan.specs.Plan.{leaky, kind_of, count_due}
use Rattle.rounds.specs.Mail.{letter}
use Rattle.rounds.specs.Table.{judge}
use Rattle.area.specs.Sizes.{size-comms, size-pair-comms}
use Rattle.plain.specs.ReceiveLaws.{received-at, arrived-at, found_at, found_none}
use Rattle.plain.proofs.judge.Goals as goal

pub judge-requires : goal.judge-requires
unfolding kind_of count_due
judge-requires c =
    record {
      work = (c.requires.work, record { section = omega arith; rows = size-comms c.args.f });
      arrived = arrived-at c.args.k 3 1 0 32 c.in-3.is c.requires.received refl refl;
    }

pub judge-requires-in-5 : goal.judge-requires-in-5
unfolding kind_of count_due
judge-requires-in-5 c =
    record {
      work = (c.requires.work, record { section = omega arith; rows = size-pair-comms c.args.f });
      arrived = arrived-at c.args.k 5 1 0 32 c.in-5.is c.requires.received refl refl;
    }

pub judge-requires-in-6 : goal.judge-requires-in-6
unfolding kind_of count_due
judge-requires-in-6 c =
    record { work = c.requires.work; arrived = arrived-at c.args.k 6 17 1 120 c.in-6.is c.requires.received refl refl }

pub judge-requires-in-10 : goal.judge-requires-in-10
unfolding kind_of count_due
judge-requires-in-10 c =
    record { work = c.requires.work; received = received-at c.args.k 10 c.in-10.is c.requires.received }

pub judge-requires-in-12 : goal.judge-requires-in-12
unfolding kind_of count_due
judge-requires-in-12 c =
    record { work = c.requires.work; arrived = arrived-at c.args.k 12 16 0 40 c.in-12.is c.requires.received refl refl }

pub judge-requires-in-19 : goal.judge-requires-in-19
unfolding kind_of count_due
judge-requires-in-19 c =
    record { work = c.requires.work; arrived = arrived-at c.args.k 19 16 0 (leaky c.args.f.l) c.in-19.is c.requires.received refl refl }

pub judge-requires-in-21 : goal.judge-requires-in-21
unfolding kind_of count_due
judge-requires-in-21 c =
    record { work = c.requires.work; received = received-at c.args.k 21 c.in-21.is c.requires.received }

pub judge-requires-in-22 : goal.judge-requires-in-22
unfolding kind_of count_due
judge-requires-in-22 c =
    record { work = c.requires.work; received = received-at c.args.k 22 c.in-22.is c.requires.received }

pub returns-in-3 : goal.returns-in-3
unfolding judge
returns-in-3 c =
    found_at c.args.f c.args.work.now (letter c.args.incoming.now c.args.mail) c.args.k 3 _ c.in-3.is c.judge.ensures

pub returns-in-5 : goal.returns-in-5
unfolding judge
returns-in-5 c =
    found_at c.args.f c.args.work.now (letter c.args.incoming.now c.args.mail) c.args.k 5 _ c.in-5.is c.judge-in-5.ensures

pub returns-in-6 : goal.returns-in-6
unfolding judge
returns-in-6 c =
    found_at c.args.f c.args.work.now (letter c.args.incoming.now c.args.mail) c.args.k 6 _ c.in-6.is c.judge-in-6.ensures

pub returns-in-10 : goal.returns-in-10
unfolding judge
returns-in-10 c =
    found_at c.args.f c.args.work.now (letter c.args.incoming.now c.args.mail) c.args.k 10 _ c.in-10.is c.judge-in-10.ensures

pub returns-in-12 : goal.returns-in-12
unfolding judge
returns-in-12 c =
    found_at c.args.f c.args.work.now (letter c.args.incoming.now c.args.mail) c.args.k 12 _ c.in-12.is c.judge-in-12.ensures

pub returns-in-19 : goal.returns-in-19
unfolding judge
returns-in-19 c =
    found_at c.args.f c.args.work.now (letter c.args.incoming.now c.args.mail) c.args.k 19 _ c.in-19.is c.judge-in-19.ensures

pub returns-in-21 : goal.returns-in-21
unfolding judge
returns-in-21 c =
    found_at c.args.f c.args.work.now (letter c.args.incoming.now c.args.mail) c.args.k 21 _ c.in-21.is c.judge-in-21.ensures

pub returns-in-22 : goal.returns-in-22
unfolding judge
returns-in-22 c =
    found_at c.args.f c.args.work.now (letter c.args.incoming.now c.args.mail) c.args.k 22 _ c.in-22.is c.judge-in-22.ensures

pub returns-in_default : goal.returns-in_default
returns-in_default c =
    let r8 = c.in_default.in_default-own.rest in
    let r7 = r8.0 in let r6 = r7.0 in let r5 = r6.0 in let r4 = r5.0 in let r3 = r4.0 in let r2 = r3.0 in let r1 = r2.0 in
    found_none c.args.f c.args.work.now (letter c.args.incoming.now c.args.mail) c.args.k r1.1 r2.1 r3.1 r4.1 r5.1 r6.1 r7.1 r8.1
