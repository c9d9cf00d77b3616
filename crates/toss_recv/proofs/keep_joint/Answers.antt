use Rattle.std.specs.Prelude.{◌≡◌}
use Rattle.lists.specs.Kit.{sym, ap, ◌∙◌, List, ℕ, arith, length}
use Rattle.lists.specs.Over.{length-tab}
use Rattle.rounds.specs.Area.{SEED, JOINT, keep}
use Rattle.rounds.specs.Mail.{letter}
use Rattle.rounds.specs.Toss.{joint_seed}
use Rattle.area.specs.GivenLaws.{lent_length, place_in, place-length, place-keeps}
use Rattle.area.specs.Sizes.{size-seed, size-joint}
use Rattle.toss_recv.proofs.keep_joint.Goals as goal

pub joint_seed-seed-requires : goal.joint_seed-seed-requires
joint_seed-seed-requires c =
    record {
      n_bound = (
        c.requires.work.ranges.range.eight,
        lent_length c.requires.work SEED _ _ (omega arith) (size-seed c.args.f)
            c.section.ensures,
      );
      arrived = c.requires.arrived;
    }

pub slice_bounds-copy_from_slice-end : goal.slice_bounds-copy_from_slice-end
slice_bounds-copy_from_slice-end c =
    place_in c.requires.work JOINT _ _ (omega arith) c.place-p.ensures

pub copy_from_slice-requires : goal.copy_from_slice-requires
unfolding joint_seed
copy_from_slice-requires c =
    place-length c.requires.work JOINT _ _ _ (omega arith) c.place-p.ensures (size-joint c.args.f)
    ∙ sym (ap length c.joint_seed-seed.ensures ∙ length-tab 32 _)

pub returns : goal.returns
returns c =
    place-keeps c.args.f JOINT _ _ c.place-p.ensures c.copy_from_slice.new.self c.args.work.now
    ∙ ap (λ (x : List ℕ). keep c.args.f JOINT x c.args.work.now)
    (c.copy_from_slice.ensures.after ∙ c.joint_seed-seed.ensures
    ∙ ap (λ (x : List ℕ). joint_seed c.args.f x (letter c.args.incoming.now c.args.mail)) c.section.ensures)
