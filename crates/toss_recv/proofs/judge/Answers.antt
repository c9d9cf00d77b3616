use Rattle.lists.specs.Kit.{subst, List, ℕ}
use Rattle.rounds.specs.Mail.{letter}
use Rattle.rounds.specs.FaultLaws.{Finds}
use Rattle.rounds.specs.Toss.{opening}
use Rattle.area.specs.GivenLaws.{lent_length}
use Rattle.toss_recv.proofs.judge.Goals as goal

pub open-requires : goal.open-requires
open-requires c =
    record {
      n_bound = (
        c.requires.work.0.ranges.range.eight,
        (
          c.requires.work.0.ranges.own,
          lent_length c.requires.work.0 c.args.s _ _
              c.requires.work.1.section c.requires.work.1.rows c.section.ensures,
        ),
      );
      arrived = c.requires.arrived;
    }

pub returns : goal.returns
returns c = subst (λ (x : List ℕ). Finds c.open.result (opening c.args.f x (letter c.args.incoming.now c.args.mail))) c.section.ensures
    c.open.ensures
