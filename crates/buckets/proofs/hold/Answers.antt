use Rattle.std.specs.Prelude.{◌*◌}
use Rattle.lists.specs.Kit.{sym, ap, ◌∙◌, List, ℕ, arith}
use Rattle.plan.specs.PlanLaws.{leaky-most}
use Rattle.rounds.specs.Area.{JOINT, PERM, at, keep}
use Rattle.rounds.specs.Buckets.{order, perm_bytes}
use Rattle.area.specs.GivenLaws.{place-length, place_in, place_at, place-keeps}
use Rattle.area.specs.Sizes.{size-joint, size-perm}
use Rattle.word.specs.Word.{word_list, le4s}
use Rattle.shuffle.specs.Shuffle.{permutation}
use Rattle.buckets.specs.Entries.{leaky-some}
use Rattle.buckets.proofs.hold.Goals as goal

pub slice_bounds-key_words-end : goal.slice_bounds-key_words-end
slice_bounds-key_words-end c = place_in c.requires JOINT _ _ (omega arith) c.place-joint.ensures

pub key_words-key-requires : goal.key_words-key-requires
key_words-key-requires c =
    place-length c.requires JOINT _ _ 32 (omega arith) c.place-joint.ensures (size-joint c.args.f)

pub slice_bounds-draw-end : goal.slice_bounds-draw-end
slice_bounds-draw-end c = place_in c.requires PERM _ _ (omega arith) c.place-place.ensures

pub draw-requires : goal.draw-requires
draw-requires c = (
  place-length c.requires PERM _ _ _ (omega arith) c.place-place.ensures (size-perm c.args.f ∙ ap (λ m. m * 4) (sym c.leaky.ensures)),
  omega (arith, c.leaky.ensures, leaky-some c.args.f.l c.requires.ranges.range.one),
  omega (arith, c.leaky.ensures, leaky-most c.args.f.l c.requires.ranges.range.most),
)

pub returns : goal.returns
unfolding perm_bytes order
returns c =
    let w = c.args.work.now in
    place-keeps c.args.f PERM _ _ c.place-place.ensures c.draw.new.section w
    ∙ ap (λ (x : List ℕ). keep c.args.f PERM x w)
    (c.draw.ensures (at c.args.f JOINT w) (c.key_words-key.ensures ∙ ap (word_list 8) (place_at c.args.f JOINT _ _ c.place-joint.ensures w))
    ∙ ap (λ m. le4s m (permutation (at c.args.f JOINT w) m)) c.leaky.ensures)
