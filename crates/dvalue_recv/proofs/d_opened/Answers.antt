use Rattle.std.specs.Prelude.{◌+◌}
use Rattle.lists.specs.Kit.{◌∙◌, arith}
use Rattle.algebra.specs.Group.{xor-addb}
use Rattle.share.specs.Layout.{record-some}
use Rattle.rounds.specs.Mail.{letter}
use Rattle.buckets.specs.Entries.{first-in, later-in, later-most, y-within}
use Rattle.dvalue_recv.specs.Opened.{opened}
use Rattle.dvalue_recv.proofs.d_opened.Goals as goal

pub y_at-first-requires : goal.y_at-first-requires
y_at-first-requires c =
    record { ranged = c.requires.ranged.0; perm_len = (c.requires.permuted.numbers, c.requires.ranged.1, first-in c.args.f) }

pub overflow_add-e : goal.overflow_add-e
overflow_add-e c =
    omega (arith, c.requires.ranged.2, later-most c.args.f)

pub y_at-next-requires : goal.y_at-next-requires
y_at-next-requires c =
    record {
      ranged = c.requires.ranged.0;
      perm_len = (
        c.requires.permuted.numbers,
        c.requires.ranged.1,
        later-in c.args.f c.args.e
            c.requires.ranged.2,
      );
    }

pub sum_bit-own-requires : goal.sum_bit-own-requires
sum_bit-own-requires c =
    let inside = y-within c.requires.ranged.0 c.requires.permuted c.args.j in (
      omega (arith, inside 0 _ c.y_at-first.ensures, record-some c.args.f.n),
      omega (arith, inside (c.args.e + 1) _ c.y_at-next.ensures, record-some c.args.f.n),
    )

pub returns : goal.returns
returns c =
    xor-addb c.sum_bit-own.result c.told_sum.result
    ∙ opened c.args.f c.args.recs.now c.args.perm.now (letter c.args.incoming.now c.args.mail) c.args.j c.args.e c.y_at-first.result
    c.y_at-next.result
    c.sum_bit-own.result c.told_sum.result c.y_at-first.ensures c.y_at-next.ensures c.sum_bit-own.ensures
    c.told_sum.ensures
