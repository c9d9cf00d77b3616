-- The loop's invariant: the messages of the first q of the others are written.
use Rattle.std.specs.Prelude.{◌+◌, ◌-◌, ◌*◌, ◌≤◌}
use Rattle.lists.specs.Kit.{List, ℕ, get_or}
use Rattle.lists.specs.Over.{Written}
use Rattle.algebra.specs.Group.{odd}
use Rattle.rbits.specs.Chosen.{pair_at}
use Rattle.encode.specs.Encode.{encode, bit_block}
use Rattle.rounds.specs.Fabitn.{STRINGS, MSG}
use Rattle.fabitn.proofs.write.Given as goal

abbrev pub message : List ℕ → List ℕ → ℕ → List ℕ
message bits macs q = encode STRINGS (λ j. bit_block (odd (get_or bits j 0)) (pair_at macs (q * STRINGS + j)))

abbrev pub invariant-loop-q : goal.invariant-loop-q
invariant-loop-q l = Written (message l.bits l.macs) l.q (l.q * MSG) l.initial.out l.out
