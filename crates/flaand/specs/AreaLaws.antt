-- h after e was kept: it is made from sections that e isn't in.
use Rattle.std.specs.Prelude.{◌≡◌, ◌≢◌, ℕ, ◌*◌, length}
use Rattle.std.proofs.Common.{sym, ap, ◌∙◌, arith}
use Rattle.std.proofs.Math.Path.{ap₂}
use mathlib.Core.List.{List}
use Rattle.lists.specs.Over.{length-tab}
use Rattle.block.specs.Block.{block_at}
use Rattle.plan.specs.Plan.{leaky}
use Rattle.engine.specs.declared.Frame.{Frame}
use Rattle.rounds.specs.Area.{DELTA, BITS, LEAKY, ZS, ES, HS, at, keep}
use Rattle.rounds.specs.Loops.{length-rows}
use Rattle.rounds.specs.Flaand.{e_rows, hs}
use Rattle.rounds.specs.Table.{delta}
use Rattle.area.specs.Given.{Work}
use Rattle.area.specs.GivenLaws.{at_other}
use Rattle.area.specs.Sizes.{size-es}

length-es : (f : Frame) (m : ℕ → List ℕ) → length (e_rows f m) ≡ f.n * leaky f.l
unfolding e_rows
length-es f m = length-rows f (leaky f.l) _ (λ k h. length-tab (leaky f.l) _)

module _ {f : Frame} {w : List ℕ} (h : Work f w) (m : ℕ → List ℕ) where
  abbrev after : List ℕ
  after = keep f ES (e_rows f m) w

  same : (s : ℕ) → s ≢ ES → at f s after ≡ at f s w
  same s ne = at_other h ES (e_rows f m) (omega arith) (length-es f m ∙ sym (size-es f)) s ne

  hs-same : hs f (delta f after) (at f BITS after) (at f LEAKY after) (at f ZS after) m
      ≡ hs f (delta f w) (at f BITS w) (at f LEAKY w) (at f ZS w) m
  unfolding delta
  hs-same =
      ap₂ (λ (d r : List ℕ). hs f (block_at d 0) r (at f LEAKY after) (at f ZS after) m) (same DELTA (λ e. omega arith))
      (same BITS (λ e. omega arith))
      ∙ ap₂ (λ (y z : List ℕ). hs f (block_at (at f DELTA w) 0) (at f BITS w) y z m) (same LEAKY (λ e. omega arith))
      (same ZS (λ e. omega arith))

  pub both-kept : (v u : List ℕ) → v ≡ keep f ES (e_rows f m) w
      → u ≡ keep f HS (hs f (delta f v) (at f BITS v) (at f LEAKY v) (at f ZS v) m) v
      → u ≡ keep f HS (hs f (delta f w) (at f BITS w) (at f LEAKY w) (at f ZS w) m) (keep f ES (e_rows f m) w)
  both-kept v u e q =
      q ∙ ap (λ (v : List ℕ). keep f HS (hs f (delta f v) (at f BITS v) (at f LEAKY v) (at f ZS v) m) v) e
      ∙ ap (λ (x : List ℕ). keep f HS x after) hs-same
