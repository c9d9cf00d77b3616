use Rattle.std.specs.Prelude.{◌≡◌, ◌≢◌, ◌+◌, ◌-◌, ◌*◌, ◌<◌, ◌≤◌}
use Rattle.lists.specs.Kit.{refl, sym, ap, ap₂, ◌∙◌, List, ℕ, arith, length}
use Rattle.block.specs.Block.{bytes_of}
use Rattle.block.specs.Trip.{length-bytes_of}
use Rattle.plan.specs.Plan.{leaky}
use Rattle.rounds.specs.Area.{BITS, LEAKY, ZS, HS, size_of, at}
use Rattle.rounds.specs.Mail.{letter}
use Rattle.rounds.specs.Flaand as F
use Rattle.area.specs.Sizes.{size-hs}
use Rattle.area.specs.Filled.{filled_none, filled-work, filled-other, filled-end, row_in, filled_put}
use Rattle.flaand.proofs.keep_hs.Goals as goal
use Rattle.flaand.proofs.keep_hs.Invariants.{h_of}
use Rattle.flaand.proofs.keep_hs.Goals.{In-loop-t, Start}

-- ---- of a call

full : (c : Start) → leaky (c.args.f).l * 16 ≡ size_of (c.args.f) HS
full c = sym (size-hs (c.args.f))

pub loop-t-init : goal.loop-t-init
loop-t-init c =
    filled_none c.requires.work HS 16 (omega arith) (λ t. bytes_of (h_of (c.args.f) c.args.work.now (letter c.args.incoming.now
    c.args.mail) t)) (leaky (c.args.f).l) (full (goal.at.loop-t-init c).Start)

-- ---- in a turn

below : (c : In-loop-t) → (c.loop-t.t) < leaky (c.args.f).l
below c = omega (arith, c.loop-t-test.true, c.leaky-t-end.ensures)

inside : (c : In-loop-t) → (c.section_at-hs.result) + (c.loop-t.t) * 16 + 16 ≤ length (c.loop-t.work)
inside c =
    let full-here : leaky (c.args.f).l * 16 ≡ size_of (c.args.f) HS = sym (size-hs (c.args.f)) in
    row_in c.requires.work HS 16 (omega arith) (λ t. bytes_of (h_of (c.args.f) c.args.work.now (letter c.args.incoming.now c.args.mail)
    t)) (leaky (c.args.f).l) (full-here) (c.loop-t.t) (c.loop-t.work) c.loop-t.invariant (c.section_at-hs.result) 16
    c.section_at-hs.ensures refl (below c)

same_at : (c : In-loop-t) → (s : ℕ) → s ≢ HS → at (c.args.f) s (c.loop-t.work) ≡ at (c.args.f) s c.args.work.now
same_at c =
    let full-here : leaky (c.args.f).l * 16 ≡ size_of (c.args.f) HS = sym (size-hs (c.args.f)) in
    filled-other c.requires.work HS 16 (omega arith) (λ t. bytes_of (h_of (c.args.f) c.args.work.now (letter c.args.incoming.now
    c.args.mail) t)) (leaky (c.args.f).l) (full-here) (c.loop-t.t) (c.loop-t.work) c.loop-t.invariant

pub h_at-b-requires : goal.h_at-b-requires
h_at-b-requires c =
    record {
      work = (
        filled-work c.requires.work HS 16 (omega arith) (λ t. bytes_of (h_of (c.args.f) c.args.work.now (letter
            c.args.incoming.now c.args.mail) t)) (leaky (c.args.f).l) (full (goal.at.h_at-b-requires c).Start) (c.loop-t.t) (c.loop-t.work)
            c.loop-t.invariant,
        below (goal.at.h_at-b-requires c).In-loop-t,
      );
      place = (
        c.place-recs.ensures,
        c.place-rows.ensures,
        c.place-zs.ensures,
      );
      arrived = c.requires.arrived;
    }

pub overflow_mul-a : goal.overflow_mul-a
overflow_mul-a c = omega (arith, inside (goal.at.overflow_mul-a c).In-loop-t)

pub overflow_add-a : goal.overflow_add-a
overflow_add-a c = omega (arith, inside (goal.at.overflow_add-a c).In-loop-t)

pub overflow_add-e : goal.overflow_add-e
overflow_add-e c = omega (arith, inside (goal.at.overflow_add-e c).In-loop-t)

pub slice_bounds-store-end : goal.slice_bounds-store-end
slice_bounds-store-end c = inside (goal.at.slice_bounds-store-end c).In-loop-t

pub loop-t-preserved : goal.loop-t-preserved
loop-t-preserved c =
    filled_put c.requires.work HS 16 (omega arith) (λ t. bytes_of (h_of (c.args.f) c.args.work.now (letter c.args.incoming.now
    c.args.mail) t)) (leaky (c.args.f).l) (full (goal.at.loop-t-preserved c).Start) (c.loop-t.t) (c.loop-t.work) c.loop-t.invariant
    (c.section_at-hs.result) 16
    c.section_at-hs.ensures refl (below (goal.at.loop-t-preserved c).In-loop-t) c.store.new.out
    (c.store.ensures ∙ ap bytes_of (c.h_at-b.ensures
    ∙ ap₂ (λ (x y : List ℕ). F.h (c.args.f) c.delta-delta.result.0 x y (at (c.args.f) ZS (c.loop-t.work)) (letter c.args.incoming.now
    c.args.mail) (c.loop-t.t)) (same_at (goal.at.loop-t-preserved c).In-loop-t BITS (λ e. omega arith))
    (same_at (goal.at.loop-t-preserved c).In-loop-t LEAKY (λ e. omega arith))
    ∙ ap₂ (λ k (x : List ℕ). F.h (c.args.f) k (at (c.args.f) BITS c.args.work.now) (at (c.args.f) LEAKY c.args.work.now) x (letter
    c.args.incoming.now c.args.mail) (c.loop-t.t)) c.delta-delta.ensures
    (same_at (goal.at.loop-t-preserved c).In-loop-t ZS (λ e. omega arith))))
    (length-bytes_of (h_of (c.args.f) c.args.work.now (letter c.args.incoming.now c.args.mail) (c.loop-t.t)))

pub shape_of-work : goal.shape_of-work
shape_of-work c = c.loop-t.invariant.same

pub returns : goal.returns
unfolding F.hs
returns c =
    filled-end c.requires.work HS 16 (omega arith) (λ t. bytes_of (h_of (c.args.f) c.args.work.now (letter c.args.incoming.now
    c.args.mail) t)) (leaky (c.args.f).l) (full (goal.at.returns c).Start) c.loop-t.t c.loop-t.work c.loop-t.invariant
    (omega (arith, c.leaky-t-end.ensures))
