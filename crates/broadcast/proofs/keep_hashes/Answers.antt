use Rattle.lists.specs.Kit.{sym, ap, ◌∙◌, List, ℕ, arith}
use Rattle.rounds.specs.Area.{HASHES, keep}
use Rattle.rounds.specs.Mail.{letter}
use Rattle.area.specs.GivenLaws.{place_in, place-length, place-keeps}
use Rattle.area.specs.Sizes.{size-hashes}
use Rattle.broadcast.specs.BroadcastLaws.{digests-are}
use Rattle.broadcast.proofs.keep_hashes.Goals as goal

pub slice_bounds-keep_hashes-end : goal.slice_bounds-keep_hashes-end
slice_bounds-keep_hashes-end c = place_in c.requires.work HASHES _ _ (omega arith) c.place-p.ensures

pub keep_hashes-requires : goal.keep_hashes-requires
keep_hashes-requires c =
    record {
      n_bound = (
        c.requires.work.ranges.range.eight,
        place-length c.requires.work HASHES _ _ _ (omega arith) c.place-p.ensures (size-hashes c.args.f),
      );
      received =
          c.requires.received;
    }

pub returns : goal.returns
returns c =
    place-keeps c.args.f HASHES _ _ c.place-p.ensures c.keep_hashes.new.section c.args.work.now
    ∙ ap (λ (y : List ℕ). keep c.args.f HASHES y c.args.work.now)
    (c.keep_hashes.ensures ∙ sym (digests-are c.args.f (letter c.args.incoming.now c.args.mail) c.args.k))
