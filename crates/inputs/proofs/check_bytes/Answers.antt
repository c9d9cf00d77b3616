use Rattle.std.specs.Prelude.{◌*◌}
use Rattle.lists.specs.Kit.{refl, ap, arith, rules}
use Rattle.share.specs.Lent.{lent_len}
use Rattle.inputs.specs.Given.{bytes_of}
use Rattle.inputs.specs.OpeningLaws.{code-and}
use Rattle.inputs.proofs.check_bytes.Goals as goal

pub check_records-b-requires : goal.check_records-b-requires
check_records-b-requires c =
    record {
      n_bound = (c.requires.0.range.eight, c.requires.0.own);
      n_in_bounds = omega (
        arith,
        c.requires.1.bits,
        ap (λ k. k * lent_len c.args.f.n) c.bits_count.ensures,
      );
    }

pub check_records-x-requires : goal.check_records-x-requires
check_records-x-requires c = search rules

pub check_records-y-requires : goal.check_records-y-requires
check_records-y-requires c = search rules

pub returns : goal.returns
unfolding bytes_of
returns c = rw (
  c.and-3.ensures,
  code-and,
  c.and-2.ensures,
  code-and,
  c.and.ensures,
  code-and,
  c.unless-m.ensures,
  c.masks_good.ensures,
  c.check_records-y.ensures,
  c.check_records-x.ensures,
  c.check_records-b.ensures,
  c.bits_count.ensures,
) refl
