use Rattle.lists.specs.Kit.{sym, ap, arith, length}
use Rattle.message.specs.FormatLaws.{decoded}
use Rattle.message.proofs.FormLaws.{formed}
use Rattle.plan.specs.Plan.{kind_of, count_due}
use Rattle.rounds.specs.Mail.{letter}
use Rattle.rounds.specs.MailLaws.{letter-fits}
use Rattle.echo.proofs.hash_of.Goals as goal

pub letter-requires : goal.letter-requires
letter-requires c =
    letter-fits c.requires.received.arrived c.args.j c.requires.j_lt_n.0 (λ e. c.requires.j_lt_n.1 (sym e))

pub hash_list-requires : goal.hash_list-requires
hash_list-requires c =
    let m = letter c.args.incoming.now c.args.mail c.args.j in
    let K = kind_of c.args.f.l c.args.k in
    omega (
      arith,
      ap length c.letter.ensures,
      (decoded K m (formed K (count_due c.args.f.n c.args.f.l c.args.k) m
          (c.requires.received.formed-is c.args.j c.requires.j_lt_n.0 c.requires.j_lt_n.1)).decodes-is).head,
    )
