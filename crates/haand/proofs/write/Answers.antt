use Rattle.std.specs.Prelude.{◌≡◌}
use Rattle.lists.specs.Kit.{sym, ap, ap₂, ◌∙◌, arith}
use Rattle.plan.specs.Plan.{msg_len, list_len, kind_of, count_due}
use Rattle.engine.specs.Area.{to_others}
use Rattle.rounds.specs.Area.{MASKS, BITS, LEAKY}
use Rattle.rounds.specs.Table.{delta}
use Rattle.rounds.specs.Haand.{leaky_rows, haand_msg}
use Rattle.area.specs.GivenLaws.{lent_length}
use Rattle.area.specs.Sizes.{size-masks, size-bits, size-leaky}
use Rattle.haand.specs.Sent.{sent_is}
use Rattle.haand.proofs.write.Goals as goal

pub write_all-requires : goal.write_all-requires
unfolding msg_len list_len kind_of count_due
write_all-requires c =
    record {
      out_len = c.requires.out_len;
      ranged = (c.requires.work.ranges, lent_length c.requires.work BITS _ _ (omega arith) (size-bits c.args.f) c.section-recs.ensures);
      rows_and_masks = record {
        rows = lent_length c.requires.work LEAKY _ _ (omega arith) (size-leaky c.args.f) c.section-rows.ensures;
        bytes = lent_length c.requires.work MASKS _ _ (omega arith) (size-masks c.args.f) c.section-masks.ensures;
      };
    }

pub returns : goal.returns
returns c =
    let f = c.args.f in
    let d = delta f c.args.work.now in
    c.write_all.ensures
    ∙ sent_is f d c.section-rows.result.now c.section-masks.result.now c.section-recs.result.now
    (c.section-rows.ensures ∙ c.requires.leaky_kept ∙ sym (ap (leaky_rows f d) c.section-recs.ensures))
    ∙ ap₂ (λ x y. to_others f.n f.i (haand_msg f d x y)) c.section-masks.ensures c.section-recs.ensures
