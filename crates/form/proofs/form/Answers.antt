use Rattle.lists.specs.Kit.{arith, rules}
use Rattle.admit.specs.Admit.{kind_fault, posted}
use Rattle.admit.proofs.AdmitLaws.{parts-fit, form-found}
use Rattle.form.proofs.form.Goals as goal

pub count_due-count-requires : goal.count_due-count-requires
count_due-count-requires c = c.requires.ranged.range.most

pub by_party-requires : goal.by_party-requires
by_party-requires c k l ne =
    let fit =
    parts-fit c.args.f.n c.args.f.l c.args.f.i (posted c.args.incoming.now c.args.mail c.args.missing.now) c.requires.missing_value k l in
    search rules

pub returns : goal.returns
returns c =
    form-found c.args.f.n c.args.f.i c.args.f.l c.args.k (posted c.args.incoming.now c.args.mail c.args.missing.now) c.kind_of-kind.result
    c.count_due-count.result c.kind_of-kind.ensures c.count_due-count.ensures c.by_party.result
    (c.by_party.ensures (kind_fault c.kind_of-kind.result c.count_due-count.result (posted c.args.incoming.now c.args.mail c.args.missing.now))
    (λ k r l ne h. search rules))
