use Rattle.std.specs.Prelude.{◌≡◌}
use Rattle.lists.specs.Kit.{refl, ap, ◌∙◌, List, ℕ, arith, get_or}
use Prim.Native.Nat.{◌/◌, ◌%◌}
use lib.ListN.{length-set}
use Rattle.lists.specs.Over.{tab-zero, tab-turn, tab-end}
use Rattle.aes_tables.specs.Tables.{entry_of, tables}
use Rattle.aes_tables.proofs.Tables.new.Goals as goal
use Rattle.aes_tables.proofs.Tables.new.Invariants.{at}

pub loop-i-init : goal.loop-i-init
loop-i-init c = (tab-zero at _, refl)

pub loop-i-preserved : goal.loop-i-preserved
loop-i-preserved c =
    let l = c.loop-i in
    let e : c.entry.result ≡ at l.i =
    c.entry.ensures ∙ ap (λ (t : List ℕ). entry_of (l.i / 256) (get_or t (l.i % 256) 0)) c.sbox-s.ensures in (
      tab-turn l.i at _ l.words c.entry.result l.invariant.0 e c.loop-i-test.true,
      length-set l.words l.i c.entry.result ∙ l.invariant.1,
    )

pub invariant_of-result : goal.invariant_of-result
unfolding tables
invariant_of-result c =
    let l = c.loop-i in record { right = tab-end l.i 1280 at _ l.words l.invariant.0 (omega arith) refl }
