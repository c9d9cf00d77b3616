-- The loop's invariant: the count and the first j items are written.
use Rattle.std.specs.Prelude.{◌≡◌, ◌+◌, ◌-◌, ◌*◌, ◌≤◌}
use Rattle.lists.specs.Kit.{List, ℕ, length, get_or}
use Rattle.algebra.specs.Group.{odd}
use Rattle.rbits.specs.Chosen.{pair_at}
use Rattle.encode.specs.Encode.{bit_block}
use Rattle.encode.specs.Stretch.{Stretch}
use Rattle.rounds.specs.Fabitn.{STRINGS, ITEM, MSG}
use Rattle.fabitn.proofs.write_items.Given as goal

abbrev pub item : List ℕ → List ℕ → ℕ → ℕ → List ℕ
item bits macs base j = bit_block (odd (get_or bits j 0)) (pair_at macs (base + j))

abbrev pub invariant-loop-j : goal.invariant-loop-j
invariant-loop-j l = (length l.initial.out ≡ MSG) × Stretch STRINGS (item l.bits l.macs l.base) l.j (8 + l.j * ITEM) l.initial.out l.out
