use Rattle.lists.specs.Kit.{sym, arith}
use Rattle.rounds.specs.Area.{SHARE_COMMS}
use Rattle.rounds.specs.Mail.{letter}
use Rattle.area.specs.GivenLaws.{lent_length}
use Rattle.area.specs.Sizes.{size-share-comms}
use Rattle.fashare_third.specs.Laws.{lowest-none, turn-some, turn-none, turn-own, lowest-found}
use Rattle.fashare_third.proofs.judge.Goals as goal
use Rattle.fashare_third.proofs.judge.Goals.{then-k-f+in-Some, then-k-f+in_default, else-k-f}

pub loop-k-init : goal.loop-k-init
loop-k-init c = lowest-none _

pub shut_of-requires-clause-comms_len : goal.shut_of-requires-clause-comms_len
shut_of-requires-clause-comms_len c =
    lent_length c.requires.work SHARE_COMMS _ _ (omega arith) (size-share-comms c.args.f) c.section-comms.ensures

pub shut_of-requires-clause-k_lt_n : goal.shut_of-requires-clause-k_lt_n
shut_of-requires-clause-k_lt_n c = (c.loop-k-test.true, ((λ e. c.if-k-f.true (sym e)), c.loop-k.invariant.below))

-- the walk found an earlier string, or none
pub loop-k-preserved : goal.loop-k-preserved
loop-k-preserved c =
    let f = c.args.f in
    let comms = c.section-comms.result.now in
    let m = letter c.args.incoming.now c.args.mail in
    let k = c.loop-k.k in
    let most = c.loop-k.most in
    let v = c.loop-k.verdict in
    elim c.if-k-f.branch [
      | then-k-f+in-Some w ↦
          rw (w.most-is, w.verdict-is)
          (turn-some f comms m k most v c.loop-k.invariant w.in-Some.q w.if-k-f.true w.in-Some.ensures)
      | then-k-f+in_default w ↦
          rw (w.most-is, w.verdict-is)
          (turn-none f comms m k most v c.loop-k.invariant w.if-k-f.true w.in_default.ensures)
      | else-k-f w ↦ rw (w.most-is, w.verdict-is) (turn-own f comms m k most v c.loop-k.invariant w.if-k-f.false)
    ]

pub returns : goal.returns
returns c =
    rw (← c.section-comms.ensures)
    (lowest-found c.args.f _ _ c.loop-k.k c.loop-k.most (omega arith) c.loop-k.verdict c.loop-k.invariant)
