use Rattle.lists.specs.Kit.{sym, ap, ◌∙◌, List, ℕ, arith, length, rules}
use Rattle.engine.specs.Area.{to_others}
use Rattle.rounds.specs.Area.{HASHES}
use Rattle.rounds.specs.Echo.{echo_msg}
use Rattle.area.specs.GivenLaws.{length_at}
use Rattle.area.specs.Sizes.{size-hashes}
use Rattle.broadcast.specs.BroadcastLaws.{hashes_at_lem}
use Rattle.broadcast.proofs.write.Goals as goal

pub section-requires : goal.section-requires
section-requires c = search rules

pub write_echoes-requires : goal.write_echoes-requires
write_echoes-requires c =
    record {
      le_n = (c.requires.work.ranges.range.two, (c.requires.work.ranges.range.eight, c.requires.work.ranges.own));
      out_len =
          (c.requires.out_len, ap length c.section.ensures ∙ length_at c.requires.work HASHES (omega arith) ∙ size-hashes c.args.f);
    }

pub shape_of-out : goal.shape_of-out
shape_of-out c = search rules

pub returns : goal.returns
returns c =
    c.write_echoes.ensures
    ∙ ap (λ (x : List ℕ). to_others c.args.f.n c.args.f.i (echo_msg c.args.f.n c.args.f.i x))
    (c.section.ensures ∙ sym (hashes_at_lem c.args.f c.args.work.now))
