use Rattle.std.specs.Prelude.{◌+◌, ◌<◌}
use Rattle.lists.specs.Kit.{sym, ap, ap₂, ◌∙◌, List, arith, length, get_or}
use Rattle.algebra.specs.Group.{odd}
use Rattle.rounds.specs.Mail.{letter}
use Rattle.rounds.specs.MailLaws.{letter-fits}
use Rattle.rounds.specs.Buckets.{d_told}
use Rattle.dvalue.specs.Dvalues.{told-long, bucket-in}
use Rattle.dvalue_recv.proofs.d_told.Goals as goal
use Rattle.dvalue_recv.proofs.d_told.Goals.{After-bucket_at}

pub letter-m-requires : goal.letter-m-requires
letter-m-requires c = letter-fits c.requires.received.arrived c.args.k c.requires.l_bound.3 (λ e. c.requires.l_bound.4 (sym e))

-- the bit lies within
read-in : (c : After-bucket_at) → c.bucket_at.result + 8 + c.args.e < length c.letter-m.result.now
read-in c =
    omega (
      arith,
      c.bucket_at.ensures,
      ap length c.letter-m.ensures,
      bucket-in c.args.f ((letter c.args.incoming.now c.args.mail) c.args.k) (told-long c.requires.received c.args.k c.requires.l_bound.3
          (λ e. c.requires.l_bound.4 (sym e))) c.args.j c.requires.l_bound.1,
      c.requires.l_bound.2,
    )

pub overflow_add-bucket_at : goal.overflow_add-bucket_at
overflow_add-bucket_at c = omega (arith, read-in (goal.at.overflow_add-bucket_at c).After-bucket_at)

pub overflow_add-bucket_at-2 : goal.overflow_add-bucket_at-2
overflow_add-bucket_at-2 c = omega (arith, read-in (goal.at.overflow_add-bucket_at-2 c).After-bucket_at)

pub bit-requires : goal.bit-requires
bit-requires c = read-in (goal.at.bit-requires c).After-bucket_at

pub returns : goal.returns
unfolding d_told
returns c = c.bit.ensures ∙ ap₂ (λ (t : List _) q. odd (get_or t (q + 8 + c.args.e) 0)) c.letter-m.ensures c.bucket_at.ensures
