-- The loop's invariant: h of the first t positions is kept. The other sections are as they were.
use Rattle.std.specs.Prelude.{◌-◌, ◌≤◌}
use Rattle.lists.specs.Kit.{List, ℕ}
use Rattle.block.specs.declared.Block.{Block}
use Rattle.block.specs.Block.{bytes_of}
use Rattle.plan.specs.Plan.{leaky}
use Rattle.engine.specs.declared.Frame.{Frame}
use Rattle.rounds.specs.Area.{BITS, LEAKY, ZS, HS, at}
use Rattle.rounds.specs.Table as Table
use Rattle.rounds.specs.Mail.{letter}
use Rattle.rounds.specs.Flaand as F
use Rattle.area.specs.Filled.{Filled}
use Rattle.flaand.proofs.keep_hs.Given as goal

-- h of position t, from the sections of w
abbrev pub h_of : Frame → List ℕ → (ℕ → List ℕ) → ℕ → Block
h_of f w m t = F.h f (Table.delta f w) (at f BITS w) (at f LEAKY w) (at f ZS w) m t

abbrev pub invariant-loop-t : goal.invariant-loop-t
invariant-loop-t l = Filled l.f HS 16 (λ t'. bytes_of (h_of l.f l.initial.work (letter l.incoming l.mail) t')) l.t l.initial.work l.work
