use Rattle.std.specs.Prelude.{◌≤◌}
use Rattle.lists.specs.Kit.{sym, ap, subst, ◌∙◌}
use Rattle.refusals.specs.Reason.{number}
use Rattle.engine.specs.declared.Session.{Session}
use Rattle.engine.specs.Step.{Reply, reply_of, Outcome, round_spec}
use Rattle.engine.specs.Plain.{protocol_of}
use Rattle.rounds.specs.Table.{table}
use Rattle.admit.specs.Admit.{given}
use Rattle.interface.specs.Interface.{NO_PARTY}
use Rattle.interface.specs.Narrow.{Narrow, named}
use Rattle.interface.specs.InterfaceLaws.{rounds, rounds-not, rounds-short, round-narrow, round-named}
use Rattle.nuzsdike.proofs.nuzsdike_round.Goals as goal

pub returns-then-session-ne-SESSION : goal.returns-then-session-ne-SESSION
returns-then-session-ne-SESSION c =
    rounds-not c.args.session.now c.args.round (given c.args.incoming.now c.args.starts.now c.args.lens.now c.args.missing.now c.args.r.now
    c.args.out.now) c.args.work.now c.args.told.now c.if-session-ne-SESSION.true
    c.packed_refusal.result c.packed_refusal.ensures

pub returns-then-told-ne-TOLD : goal.returns-then-told-ne-TOLD
returns-then-told-ne-TOLD c =
    rounds-short c.args.session.now c.args.round
    (given c.args.incoming.now c.args.starts.now c.args.lens.now c.args.missing.now c.args.r.now
    c.args.out.now) c.args.work.now c.args.told.now c.if-session-ne-SESSION.false
    c.if-told-ne-TOLD.true c.load-s.result c.load-s.ensures.0 c.packed_refusal-then-told-ne-TOLD.result (number c.told_reason.result)
    c.told_reason.ensures c.packed_refusal-then-told-ne-TOLD.ensures

pub store-requires : goal.store-requires
store-requires c =
    record {
      out_len = c.if-session-ne-SESSION.false;
      narrow = subst (λ (x : Session). Narrow x) (sym (ap (λ (o : Outcome). o.session) c.round-step.ensures))
          (round-narrow c.load-s.result c.args.round
          (given c.args.incoming.now c.args.starts.now c.args.lens.now c.args.missing.now c.args.r.now
          c.args.out.now) c.args.work.now c.load-s.ensures.1);
    }

pub answer-requires : goal.answer-requires
answer-requires c =
    subst (λ (v : Reply). named v ≤ NO_PARTY) (sym (ap (λ (o : Outcome). o.reply) c.round-step.ensures))
    (round-named c.load-s.result c.args.round (given c.args.incoming.now c.args.starts.now c.args.lens.now c.args.missing.now c.args.r.now
    c.args.out.now) c.args.work.now c.load-s.ensures.1)

pub returns : goal.returns
returns c =
    rounds c.args.session.now c.args.round (given c.args.incoming.now c.args.starts.now c.args.lens.now c.args.missing.now c.args.r.now
    c.args.out.now) c.args.work.now c.args.told.now c.if-session-ne-SESSION.false c.if-told-ne-TOLD.false
    c.answer.result c.store.new.out c.round-step.new.work c.round-step.new.out c.tell.new.out
    c.round-step.result.session (reply_of c.round-step.result.verdict) c.round-step.result.told (record {
      answer-is = c.answer.ensures;
      session-is = c.store.ensures;
      told_is = c.tell.ensures;
      call-is = c.round-step.ensures ∙ ap (λ (x : Session). round_spec (protocol_of table) x c.args.round
          (given c.args.incoming.now c.args.starts.now c.args.lens.now c.args.missing.now c.args.r.now
          c.args.out.now) c.args.work.now) c.load-s.ensures.0;
    })
