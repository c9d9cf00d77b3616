use Rattle.std.specs.Prelude.{◌*◌}
use Rattle.lists.specs.Kit.{refl, sym, ap, ◌∙◌, arith}
use Rattle.share.specs.Record.{record_len}
use Rattle.share.specs.Lent.{lent_len}
use Rattle.area.specs.Given.{Work}
use Rattle.area.specs.Sizes.{size-bits, size-alpha, size-beta}
use Rattle.inputs.specs.Given.{with_lists}
use Rattle.opening.proofs.put_lists.Goals as goal

pub put_records-requires : goal.put_records-requires
put_records-requires c =
    record {
      work = (c.requires.0, omega arith, size-bits c.args.f ∙ ap (λ m. m * record_len c.args.f.n) (sym c.bits_count.ensures));
      x_len = c.requires.1.bits ∙ ap (λ m. m * lent_len c.args.f.n) (sym c.bits_count.ensures);
    }

-- the work area stays as long as it was
pub put_records-requires-2 : goal.put_records-requires-2
put_records-requires-2 c =
    let w : Work c.args.f c.put_records.new.work =
    record { ranges = c.requires.0.ranges; whole = c.put_records.auto.work ∙ c.requires.0.whole } in
    record { work = (w, omega arith, size-alpha c.args.f); x_len = c.requires.1.alpha }

pub put_records-requires-3 : goal.put_records-requires-3
put_records-requires-3 c =
    let w : Work c.args.f c.put_records-2.new.work =
    record { ranges = c.requires.0.ranges; whole = c.put_records-2.auto.work ∙ c.put_records.auto.work ∙ c.requires.0.whole } in
    record { work = (w, omega arith, size-beta c.args.f); x_len = c.requires.1.beta }

pub returns : goal.returns
unfolding with_lists
returns c =
    rw (c.put_records-3.ensures, c.put_records-2.ensures, c.put_records.ensures, c.bits_count.ensures) refl
