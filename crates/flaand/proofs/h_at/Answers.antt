use Rattle.lists.specs.Kit.{◌∙◌, List, ℕ, arith}
use Rattle.rounds.specs.Area.{BITS, LEAKY, ZS}
use Rattle.rounds.specs.Mail.{letter}
use Rattle.rounds.specs.Flaand as F
use Rattle.area.specs.GivenLaws.{place_in, place_at}
use Rattle.flaand.specs.KeptLaws.{kept-secs, three-lent}
use Rattle.flaand.proofs.h_at.Goals as goal

pub slice_bounds-h-end : goal.slice_bounds-h-end
slice_bounds-h-end c = place_in c.requires.work.0 BITS _ _ (omega arith) c.requires.place.0

pub slice_bounds-h-end-2 : goal.slice_bounds-h-end-2
slice_bounds-h-end-2 c = place_in c.requires.work.0 LEAKY _ _ (omega arith) c.requires.place.1

pub slice_bounds-h-end-3 : goal.slice_bounds-h-end-3
slice_bounds-h-end-3 c = place_in c.requires.work.0 ZS _ _ (omega arith) c.requires.place.2

pub h-requires : goal.h-requires
h-requires c =
    let w = c.args.work.now in
    record {
      half_ands = (
        kept-secs c.requires.work.0 _ _ _ (place_at c.args.f BITS _ _ c.requires.place.0 w) (place_at c.args.f LEAKY _ _ c.requires.place.1 w)
            (place_at c.args.f ZS _ _ c.requires.place.2 w),
        c.requires.work.1,
      );
      arrived = c.requires.arrived;
    }

pub returns : goal.returns
returns c =
    let w = c.args.work.now in
    let m = letter c.args.incoming.now c.args.mail in
    c.h.ensures
    ∙ three-lent (λ (x y z : List ℕ). F.h c.args.f c.args.delta.0 x y z m c.args.t)
    (place_at c.args.f BITS _ _ c.requires.place.0 w) (place_at c.args.f LEAKY _ _ c.requires.place.1 w) (place_at c.args.f ZS _ _ c.requires.place.2 w)
