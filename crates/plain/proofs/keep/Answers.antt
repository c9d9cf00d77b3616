-- An arm for each round of which something is kept.
use Rattle.lists.specs.Kit.{refl, arith}
use Rattle.plan.specs.Plan.{leaky, kind_of, count_due}
use Rattle.rounds.specs.Mail.{letter}
use Rattle.rounds.specs.DmLaws.{ver-checked}
use Rattle.rounds.specs.Table.{judge, kept}
use Rattle.area.specs.Sizes.{size-comms, size-pair-comms}
use Rattle.plain.specs.ReceiveLaws.{received-at, arrived-at, clean_at, kept_at, kept-none}
use Rattle.plain.proofs.keep.Goals as goal

pub keep_told-requires : goal.keep_told-requires
unfolding kind_of count_due
keep_told-requires c =
    record {
      work = (c.requires.work, record { section = omega arith; rows = size-comms c.args.f });
      arrived = arrived-at c.args.k 1 32 0 1 c.in-1.is c.requires.received refl refl;
    }

pub keep_joint-requires : goal.keep_joint-requires
unfolding kind_of count_due
keep_joint-requires c =
    record { work = c.requires.work; arrived = arrived-at c.args.k 3 1 0 32 c.in-3.is c.requires.received refl refl }

pub keep_told-requires-in-4 : goal.keep_told-requires-in-4
unfolding kind_of count_due
keep_told-requires-in-4 c =
    record {
      work = (c.requires.work, record { section = omega arith; rows = size-pair-comms c.args.f });
      arrived = arrived-at c.args.k 4 32 0 1 c.in-4.is c.requires.received refl refl;
    }

pub keep_pairwise-requires : goal.keep_pairwise-requires
unfolding kind_of count_due
keep_pairwise-requires c =
    record { work = c.requires.work; arrived = arrived-at c.args.k 5 1 0 32 c.in-5.is c.requires.received refl refl }

pub keep-requires : goal.keep-requires
unfolding kind_of count_due
keep-requires c =
    record { work = c.requires.work; arrived = arrived-at c.args.k 8 96 0 40 c.in-8.is c.requires.received refl refl }

pub keep-requires-in-10 : goal.keep-requires-in-10
unfolding kind_of count_due judge
keep-requires-in-10 c =
    record {
      work = c.requires.work;
      checked = ver-checked c.args.f _ _ _ (received-at c.args.k 10 c.in-10.is c.requires.received)
          (clean_at c.args.f c.args.work.now (letter c.args.incoming.now c.args.mail) c.args.k 10 c.in-10.is c.requires.mail_value);
    }

pub keep-requires-in-14 : goal.keep-requires-in-14
unfolding kind_of count_due
keep-requires-in-14 c =
    record { work = c.requires.work; arrived = arrived-at c.args.k 14 2 2 (leaky c.args.f.l) c.in-14.is c.requires.received refl refl }

pub keep-requires-in-15 : goal.keep-requires-in-15
unfolding kind_of count_due
keep-requires-in-15 c =
    record { work = c.requires.work; arrived = arrived-at c.args.k 15 17 1 (leaky c.args.f.l) c.in-15.is c.requires.received refl refl }

pub keep-requires-in-17 : goal.keep-requires-in-17
unfolding kind_of count_due
keep-requires-in-17 c =
    record { work = c.requires.work; arrived = arrived-at c.args.k 17 32 0 (leaky c.args.f.l) c.in-17.is c.requires.received refl refl }

pub keep-requires-in-21 : goal.keep-requires-in-21
unfolding kind_of count_due
keep-requires-in-21 c =
    record { work = c.requires.work; received = received-at c.args.k 21 c.in-21.is c.requires.received }

pub returns-in-1 : goal.returns-in-1
unfolding kept
returns-in-1 c =
    kept_at c.args.f c.args.work.now (letter c.args.incoming.now c.args.mail) c.args.k 1 _ c.in-1.is
    c.keep_told.ensures

pub returns-in-3 : goal.returns-in-3
unfolding kept
returns-in-3 c =
    kept_at c.args.f c.args.work.now (letter c.args.incoming.now c.args.mail) c.args.k 3 _ c.in-3.is
    c.keep_joint.ensures

pub returns-in-4 : goal.returns-in-4
unfolding kept
returns-in-4 c =
    kept_at c.args.f c.args.work.now (letter c.args.incoming.now c.args.mail) c.args.k 4 _ c.in-4.is
    c.keep_told-in-4.ensures

pub returns-in-5 : goal.returns-in-5
unfolding kept
returns-in-5 c =
    kept_at c.args.f c.args.work.now (letter c.args.incoming.now c.args.mail) c.args.k 5 _ c.in-5.is
    c.keep_pairwise.ensures

pub returns-in-8 : goal.returns-in-8
unfolding kept
returns-in-8 c =
    kept_at c.args.f c.args.work.now (letter c.args.incoming.now c.args.mail) c.args.k 8 _ c.in-8.is
    c.keep.ensures

pub returns-in-10 : goal.returns-in-10
unfolding kept
returns-in-10 c =
    kept_at c.args.f c.args.work.now (letter c.args.incoming.now c.args.mail) c.args.k 10 _ c.in-10.is
    c.keep-in-10.ensures

pub returns-in-14 : goal.returns-in-14
unfolding kept
returns-in-14 c =
    kept_at c.args.f c.args.work.now (letter c.args.incoming.now c.args.mail) c.args.k 14 _ c.in-14.is
    c.keep-in-14.ensures

pub returns-in-15 : goal.returns-in-15
unfolding kept
returns-in-15 c =
    kept_at c.args.f c.args.work.now (letter c.args.incoming.now c.args.mail) c.args.k 15 _ c.in-15.is
    c.keep-in-15.ensures

pub returns-in-17 : goal.returns-in-17
unfolding kept
returns-in-17 c =
    kept_at c.args.f c.args.work.now (letter c.args.incoming.now c.args.mail) c.args.k 17 _ c.in-17.is
    c.keep-in-17.ensures

pub returns-in-21 : goal.returns-in-21
unfolding kept
returns-in-21 c =
    kept_at c.args.f c.args.work.now (letter c.args.incoming.now c.args.mail) c.args.k 21 _ c.in-21.is
    c.keep-in-21.ensures

pub returns-in_default : goal.returns-in_default
returns-in_default c =
    let r10 = c.in_default.in_default-own.rest in
    let r9 = r10.0 in let r8 = r9.0 in let r7 = r8.0 in let r6 = r7.0 in let r5 = r6.0 in
    let r4 = r5.0 in let r3 = r4.0 in let r2 = r3.0 in let r1 = r2.0 in
    kept-none c.args.f c.args.work.now (letter c.args.incoming.now c.args.mail) c.args.k
    r1.1 r2.1 r3.1 r4.1 r5.1 r6.1 r7.1 r8.1 r9.1 r10.1
