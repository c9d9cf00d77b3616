use Rattle.lists.specs.Kit.{ap, ◌∙◌, List, ℕ, arith, rules}
use Rattle.rounds.specs.Area.{SHARE_COMMS, keep}
use Rattle.rounds.specs.Fashare.{comm_rows}
use Rattle.area.specs.GivenLaws.{place_in, place-length, place-keeps}
use Rattle.area.specs.Sizes.{size-share-comms}
use Rattle.fashare_comm.proofs.keep.Goals as goal

pub slice_bounds-put_rows-end : goal.slice_bounds-put_rows-end
slice_bounds-put_rows-end c = place_in c.requires.work SHARE_COMMS _ _ (omega arith) c.place-p.ensures

pub put_rows-requires-clause-section_len : goal.put_rows-requires-clause-section_len
put_rows-requires-clause-section_len c =
    place-length c.requires.work SHARE_COMMS _ _ _ (omega arith) c.place-p.ensures (size-share-comms c.args.f)

pub returns : goal.returns
unfolding comm_rows
returns c =
    place-keeps c.args.f SHARE_COMMS _ _ c.place-p.ensures c.put_rows.new.section c.args.work.now
    ∙ ap (λ (x : List ℕ). keep c.args.f SHARE_COMMS x c.args.work.now) (c.put_rows.ensures _ (λ k l ne row left e h. search rules))
