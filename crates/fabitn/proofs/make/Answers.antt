use Rattle.std.specs.Prelude.{◌≡◌, ◌-◌, ◌*◌}
use Rattle.lists.specs.Kit.{ap, ◌∙◌, List, ℕ, length}
use Rattle.lists.specs.Over.{length-tab}
use Rattle.plan.specs.Plan.{msg_len, list_len, count_due, kind_of}
use Rattle.engine.specs.Area.{to_others}
use Rattle.rounds.specs.Area.{KEY_SUMS, keep}
use Rattle.rounds.specs.Fabitn as Fabitn
use Rattle.rounds.specs.Fabitn.{STRINGS, MSG}
use Rattle.fabitn.specs.Laws.{given, sums-sent, sums_kept}
use Rattle.fabitn.proofs.make.Goals as goal

pub sums-s-requires : goal.sums-s-requires
sums-s-requires c =
    given c.requires.work _ _ _ _ c.section.ensures c.requires.r_value c.bits_count.ensures c.r_blocks.ensures

-- the outgoing buffer, in messages
long : (n l : ℕ) (x : List ℕ) → length x ≡ (n - 1) * msg_len n l 6 → length x ≡ (n - 1) * MSG
unfolding msg_len list_len count_due kind_of
long n l x h = h

pub write-requires : goal.write-requires
write-requires c =
    record {
      le_n = (
        c.requires.work.ranges.range.two,
        c.requires.work.ranges.range.eight,
        ap length c.sums-s.ensures.bits_value ∙
            length-tab STRINGS _,
      );
      out_len = long c.args.f.n c.args.f.l c.args.out.now c.requires.out_len;
    }

pub returns : goal.returns
returns c =
    let recs = c.section.result.now in
    record {
      work_after = c.hold.ensures
          ∙ ap (λ (x : List ℕ). keep c.args.f KEY_SUMS x c.args.work.now)
          (sums_kept c.requires.work.ranges c.args.r.now recs c.bits_count.result c.r_blocks.result c.bits_count.ensures
          c.r_blocks.ensures _
          c.sums-s.ensures.keys_value
          ∙ ap (Fabitn.key_sums c.args.f c.args.r.now) c.section.ensures);
      out_after = c.write.ensures
          ∙ sums-sent c.requires.work.ranges c.args.r.now recs c.bits_count.result c.r_blocks.result c.bits_count.ensures
          c.r_blocks.ensures _ _
          c.sums-s.ensures.bits_value c.sums-s.ensures.macs_value
          ∙ ap (λ (x : List ℕ). to_others c.args.f.n c.args.f.i (Fabitn.abit_msg c.args.f c.args.r.now x)) c.section.ensures;
    }
