use Rattle.lists.specs.Kit.{ap, ◌∙◌, sym, false, length}
use Rattle.lists.specs.All.{true-false}
use Rattle.refusals.specs.Reason.{code_of}
use Rattle.engine.specs.Step.{reply_of, Refused}
use Rattle.interface.specs.Interface.{packed_of}
use Rattle.inputs.specs.Given.{args}
use Rattle.inputs.specs.OpeningLaws.{counted, lengths-as}
use Rattle.rounds.specs.OpeningLaws.{within}
use Rattle.interface.specs.InterfaceLaws.{opens_not, opens, opens-refused, opened-narrow}
use Rattle.nuzsdike.proofs.nuzsdike_open.Goals as goal

pub check_lengths-requires : goal.check_lengths-requires
check_lengths-requires c =
    let a = (args c.args.n c.args.i c.args.counts.now c.args.delta.now c.args.seed.now c.args.pairs.now c.args.bits.now c.args.alpha.now
    c.args.beta.now c.args.masks.now
    c.args.work.now c.args.out.now) in
    counted a.n a.i a.counts c.sum.result (code_of c.fault-refused.result) c.sum.ensures c.fault-refused.ensures

pub store-requires : goal.store-requires
unfolding reply_of
store-requires c =
    record {
      out_len = c.if-session-ne-SESSION.false;
      narrow = opened-narrow (args c.args.n c.args.i c.args.counts.now c.args.delta.now c.args.seed.now c.args.pairs.now c.args.bits.now
          c.args.alpha.now c.args.beta.now c.args.masks.now
          c.args.work.now c.args.out.now) c.open-a.result.session (reply_of c.open-a.result.verdict) c.open-a.result.told
          c.open-a.new.work c.open-a.new.out c.open-a.ensures
          (ap reply_of c.in-Ok-verdict.is) c.ranges.n.fits c.ranges.i.fits;
    }

pub returns-in-Ok : goal.returns-in-Ok
-- the buffers were given as wrong, so the lengths are refused
returns-in-Ok c =
    absurd (true-false (sym (within _ _ _ _ _ false (sym c.check_lengths.ensures ∙ ap code_of c.in-Ok.is)).buffers))

pub returns-in-Err : goal.returns-in-Err
returns-in-Err c =
    let a = (args c.args.n c.args.i c.args.counts.now c.args.delta.now c.args.seed.now c.args.pairs.now c.args.bits.now c.args.alpha.now
    c.args.beta.now c.args.masks.now
    c.args.work.now c.args.out.now) in
    opens_not c.args.session.now a c.if-session-ne-SESSION.true c.packed_refusal-in-Err.result (code_of c.check_lengths.result)
    (c.check_lengths.ensures
    ∙ lengths-as a.n a.i a.counts c.sum.result (code_of c.fault-refused.result) (length a.bits) (length a.alpha) (length a.beta) false
    c.sum.ensures c.fault-refused.ensures)
    (c.packed_refusal-in-Err.ensures ∙ ap (λ r. packed_of (Refused (code_of r) a.i)) (sym c.in-Err.is))

pub returns-in-Ok-verdict : goal.returns-in-Ok-verdict
unfolding reply_of
returns-in-Ok-verdict c =
    opens c.args.session.now (args c.args.n c.args.i c.args.counts.now c.args.delta.now c.args.seed.now c.args.pairs.now c.args.bits.now
    c.args.alpha.now c.args.beta.now c.args.masks.now
    c.args.work.now c.args.out.now) c.if-session-ne-SESSION.false c.open-a.result.session (reply_of c.open-a.result.verdict)
    c.open-a.result.told c.open-a.new.work c.open-a.new.out c.open-a.ensures
    (ap reply_of c.in-Ok-verdict.is) c.store.new.out c.store.ensures

pub returns-in-Err-verdict : goal.returns-in-Err-verdict
unfolding reply_of
returns-in-Err-verdict c =
    opens-refused c.args.session.now (args c.args.n c.args.i c.args.counts.now c.args.delta.now c.args.seed.now c.args.pairs.now
    c.args.bits.now c.args.alpha.now c.args.beta.now c.args.masks.now
    c.args.work.now c.args.out.now) c.if-session-ne-SESSION.false c.open-a.result.session (reply_of c.open-a.result.verdict)
    c.open-a.result.told c.open-a.new.work c.open-a.new.out c.open-a.ensures
    _ _ (ap reply_of c.in-Err-verdict.is) c.packed_refusal-in-Err-verdict.result c.packed_refusal-in-Err-verdict.ensures
