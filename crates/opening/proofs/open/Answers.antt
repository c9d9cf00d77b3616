use Rattle.std.specs.Prelude.{◌≡◌, ◌-◌, ◌*◌, length}
use Rattle.lists.specs.Kit.{sym, ap, subst, ◌∙◌, rules}
use Rattle.refusals.specs.Reason.{number, code_of, number-some}
use Rattle.batches.specs.Batches.{total, counts_fault}
use Rattle.batches.specs.BatchLaws.{taken, sum-taken}
use Rattle.plan.specs.Plan.{msg_len}
use Rattle.engine.specs.declared.Frame.{Frame}
use Rattle.engine.specs.Step.{frame, reply_of}
use Rattle.rounds.specs.Opening.{Args, party}
use Rattle.area.specs.Given.{Work}
use Rattle.inputs.specs.Given.{args, lens, found, Due, Seeds, Lists}
use Rattle.inputs.specs.OpeningLaws.{counted, found_as, taken-counts, refuses, due}
use Rattle.opening.specs.FilledLaws.{given, opened}
use Rattle.opening.proofs.open.Goals as goal
use Rattle.opening.proofs.open.Goals.{After-check, In_default}

pub check-requires : goal.check-requires
check-requires c =
    record {
      counted = counted c.args.n c.args.i c.args.counts.now c.sum.result (code_of c.fault.result) c.sum.ensures c.fault.ensures;
      bits_value = search rules;
    }

pub returns-in-Err : goal.returns-in-Err
unfolding reply_of
returns-in-Err c =
    let a = args c.args.n c.args.i c.args.counts.now c.args.delta.now c.args.seed.now c.args.pairs.now c.args.bits.now c.args.alpha.now
    c.args.beta.now c.args.masks.now c.args.work.now c.args.out.now in
    let code : number c.in-Err.reason ≡ code_of c.check.result = search rules in
    rw (c.silent.ensures.0, c.silent.ensures.1, c.silent.ensures.2, c.no_session.ensures)
    (refuses a (number c.in-Err.reason) (code ∙ c.check.ensures
    ∙ found_as a.n a.i a.counts c.sum.result (code_of c.fault.result) (lens a) a.bits a.alpha a.beta a.masks c.sum.ensures c.fault.ensures)
    (number-some c.in-Err.reason))

-- ---- where nothing was refused
abbrev a : In_default → Args
a c = args c.args.n c.args.i c.args.counts.now c.args.delta.now c.args.seed.now c.args.pairs.now c.args.bits.now c.args.alpha.now
    c.args.beta.now c.args.masks.now c.args.work.now c.args.out.now

-- what is found is the definition's, whatever the code has as the sum of too many counts
found-is : (c : In_default) → code_of c.check.result ≡ found (a c)
found-is c =
    c.check.ensures
    ∙ found_as c.args.n c.args.i c.args.counts.now c.sum.result (code_of c.fault.result) (lens (a c)) c.args.bits.now c.args.alpha.now
    c.args.beta.now c.args.masks.now c.sum.ensures c.fault.ensures

zero : (c : In_default) → code_of c.check.result ≡ 0
zero c = search rules

behind : (c : In_default) → Due (party (a c)) (lens (a c))
behind c = due (a c) (code_of c.check.result) (found-is c) (zero c)

none : (c : In_default) → counts_fault c.args.counts.now ≡ 0
none c = taken-counts (a c) (code_of c.check.result) (found-is c) (zero c)

sum_is : (c : In_default) → c.sum.result ≡ total c.args.counts.now
sum_is c = sum-taken c.args.counts.now _ c.sum.ensures (none c)

box-is : (c : In_default) → party (a c) ≡ frame c.args.n c.sum.result c.args.i
box-is c = ap (λ l. frame c.args.n l c.args.i) (sym (sum_is c))

pub fill-requires : goal.fill-requires
fill-requires c =
    let at = (goal.at.fill-requires c).In_default in
    let g = a at in
    let d = behind at in
    record {
      work = subst (λ (f : Frame). Work f g.work × Seeds f (length g.delta) (length g.seed) (length g.pairs) (length g.masks)) (box-is at)
          (given g d, d.seeds);
      lists = subst (λ (f : Frame). Lists f (length g.bits) (length g.alpha) (length g.beta)) (box-is at) d.lists;
    }

pub write_commitments-requires : goal.write_commitments-requires
write_commitments-requires c =
    let at = (goal.at.write_commitments-requires c).In_default in
    let d = behind at in
    record {
      work = subst (λ (f : Frame). Work f c.fill.new.work) (box-is at)
          (record { ranges = d.ranges; whole = c.fill.auto.work ∙ d.work });
      out_len = d.out ∙ ap (λ (f : Frame). (f.n - 1) * msg_len f.n f.l 1) (box-is at);
    }

pub kept-requires : goal.kept-requires
kept-requires c = (taken c.args.counts.now (none (goal.at.kept-requires c).In_default)).most

pub returns : goal.returns
unfolding reply_of
returns c =
    let at = (goal.at.returns c).In_default in
    opened (a at) (behind at) (code_of c.check.result) c.sum.result c.silent-2.result.session
    (reply_of c.silent-2.result.verdict) c.silent-2.result.told c.kept.result c.fill.new.work c.write_commitments.new.out
    (found-is at) (zero at) (sum_is at) (record {
      session-is = c.silent-2.ensures.0;
      reply-is = ap reply_of c.silent-2.ensures.1;
      told_is = c.silent-2.ensures.2;
      counts-are = c.kept.ensures;
      work-is = c.fill.ensures;
      out-is = c.write_commitments.ensures;
    })
