-- An arm for each plain round but `fabitn`.
use Rattle.std.specs.Prelude.{◌≡◌, ◌-◌, ◌*◌}
use Rattle.lists.specs.Kit.{ℕ, length}
use Rattle.plan.specs.Plan.{msg_len}
use Rattle.rounds.specs.Table.{written}
use Rattle.plain.specs.SendLaws.{due-at, wrote_at, no-rest}
use Rattle.plain.proofs.write.Goals as goal
use Rattle.plain.proofs.write.Goals.{Start}

-- the length of a round's messages
due : (c : Start) → (j : ℕ) → c.args.k ≡ j
    → length c.args.out.now ≡ (c.args.f.n - 1) * msg_len c.args.f.n c.args.f.l j
due c j e = due-at c.args.f.n c.args.f.l c.args.k j c.args.out.now c.requires.k_value.1 e

pub write_commitments-requires : goal.write_commitments-requires
write_commitments-requires c =
    record { work = c.requires.work; out_len = due (goal.at.write_commitments-requires c).Start 1 c.in-1.is }

pub write_seed-requires : goal.write_seed-requires
write_seed-requires c =
    record { work = c.requires.work; out_len = due (goal.at.write_seed-requires c).Start 3 c.in-3.is }

pub write_pair_commitments-requires : goal.write_pair_commitments-requires
write_pair_commitments-requires c =
    record { work = c.requires.work; out_len = due (goal.at.write_pair_commitments-requires c).Start 4 c.in-4.is }

pub write_pair_seeds-requires : goal.write_pair_seeds-requires
write_pair_seeds-requires c =
    record { work = c.requires.work; out_len = due (goal.at.write_pair_seeds-requires c).Start 5 c.in-5.is }

pub write-requires : goal.write-requires
write-requires c =
    record { work = c.requires.work; out_len = due (goal.at.write-requires c).Start 8 c.in-8.is }

pub write-requires-in-10 : goal.write-requires-in-10
write-requires-in-10 c =
    record { work = c.requires.work; out_len = due (goal.at.write-requires-in-10 c).Start 10 c.in-10.is }

pub write-requires-in-12 : goal.write-requires-in-12
write-requires-in-12 c =
    record { work = c.requires.work; out_len = due (goal.at.write-requires-in-12 c).Start 12 c.in-12.is }

pub write-requires-in-14 : goal.write-requires-in-14
write-requires-in-14 c =
    record {
      work = c.requires.work;
      out_len = due (goal.at.write-requires-in-14 c).Start 14 c.in-14.is;
      leaky_kept = c.requires.k_nonzero.1.rows c.in-14.is;
    }

pub write-requires-in-15 : goal.write-requires-in-15
write-requires-in-15 c =
    record { work = c.requires.work; out_len = due (goal.at.write-requires-in-15 c).Start 15 c.in-15.is }

pub write-requires-in-17 : goal.write-requires-in-17
write-requires-in-17 c =
    record {
      work = c.requires.work;
      out_len = due (goal.at.write-requires-in-17 c).Start 17 c.in-17.is;
      comms_kept = c.requires.k_nonzero.1.own c.in-17.is;
    }

pub write-requires-in-19 : goal.write-requires-in-19
write-requires-in-19 c =
    record { work = c.requires.work; out_len = due (goal.at.write-requires-in-19 c).Start 19 c.in-19.is }

pub write-requires-in-21 : goal.write-requires-in-21
write-requires-in-21 c =
    record { work = c.requires.work; out_len = due (goal.at.write-requires-in-21 c).Start 21 c.in-21.is }

pub write-requires-in-22 : goal.write-requires-in-22
write-requires-in-22 c =
    record { work = c.requires.work; out_len = due (goal.at.write-requires-in-22 c).Start 22 c.in-22.is }

pub returns-in-1 : goal.returns-in-1
unfolding written
returns-in-1 c =
    λ q. wrote_at c.args.f q c.args.work.now c.args.k 1 _ c.in-1.is
    c.write_commitments.ensures

pub returns-in-3 : goal.returns-in-3
unfolding written
returns-in-3 c =
    λ q. wrote_at c.args.f q c.args.work.now c.args.k 3 _ c.in-3.is
    c.write_seed.ensures

pub returns-in-4 : goal.returns-in-4
unfolding written
returns-in-4 c =
    λ q. wrote_at c.args.f q c.args.work.now c.args.k 4 _ c.in-4.is
    c.write_pair_commitments.ensures

pub returns-in-5 : goal.returns-in-5
unfolding written
returns-in-5 c =
    λ q. wrote_at c.args.f q c.args.work.now c.args.k 5 _ c.in-5.is
    c.write_pair_seeds.ensures

pub returns-in-8 : goal.returns-in-8
unfolding written
returns-in-8 c =
    λ q. wrote_at c.args.f q c.args.work.now c.args.k 8 _ c.in-8.is
    c.write.ensures

pub returns-in-10 : goal.returns-in-10
unfolding written
returns-in-10 c =
    λ q. wrote_at c.args.f q c.args.work.now c.args.k 10 _ c.in-10.is
    c.write-in-10.ensures

pub returns-in-12 : goal.returns-in-12
unfolding written
returns-in-12 c =
    λ q. wrote_at c.args.f q c.args.work.now c.args.k 12 _ c.in-12.is
    c.write-in-12.ensures

pub returns-in-14 : goal.returns-in-14
unfolding written
returns-in-14 c =
    λ q. wrote_at c.args.f q c.args.work.now c.args.k 14 _ c.in-14.is
    c.write-in-14.ensures

pub returns-in-15 : goal.returns-in-15
unfolding written
returns-in-15 c =
    λ q. wrote_at c.args.f q c.args.work.now c.args.k 15 _ c.in-15.is
    c.write-in-15.ensures

pub returns-in-17 : goal.returns-in-17
unfolding written
returns-in-17 c =
    λ q. wrote_at c.args.f q c.args.work.now c.args.k 17 _ c.in-17.is
    c.write-in-17.ensures

pub returns-in-19 : goal.returns-in-19
unfolding written
returns-in-19 c =
    λ q. wrote_at c.args.f q c.args.work.now c.args.k 19 _ c.in-19.is
    c.write-in-19.ensures

pub returns-in-21 : goal.returns-in-21
unfolding written
returns-in-21 c =
    λ q. wrote_at c.args.f q c.args.work.now c.args.k 21 _ c.in-21.is
    c.write-in-21.ensures

pub returns-in-22 : goal.returns-in-22
unfolding written
returns-in-22 c =
    λ q. wrote_at c.args.f q c.args.work.now c.args.k 22 _ c.in-22.is
    c.write-in-22.ensures

pub returns-in_default : goal.returns-in_default
returns-in_default c =
    let r = c.in_default.in_default-own.rest in
    absurd
    (no-rest c.args.k c.requires.k_value.0
    (record {
      not1 = r.0.0.0.0.0.0.0.0.0.0.0.0.1;
      not3 = r.0.0.0.0.0.0.0.0.0.0.0.1;
      not4 = r.0.0.0.0.0.0.0.0.0.0.1;
      not5 = r.0.0.0.0.0.0.0.0.0.1;
      not6 = c.requires.k_nonzero.0;
      not8 = r.0.0.0.0.0.0.0.0.1;
      not10 = r.0.0.0.0.0.0.0.1;
      not12 = r.0.0.0.0.0.0.1;
      not14 = r.0.0.0.0.0.1;
      not15 = r.0.0.0.0.1;
      not17 = r.0.0.0.1;
      not19 = r.0.0.1;
      not21 = r.0.1;
      not22 = r.1;
    }))
