-- The loop's invariant: the State is that after k - 1 rounds, for each y whose first AddRoundKey gave what the loop began with.
use Rattle.std.specs.Prelude.{◌≡◌, ◌-◌}
use Rattle.lists.specs.Kit.{List, ℕ}
use Rattle.fips197.specs.Cipher as C
use Rattle.aes_key.specs.Words.{words_bytes}
use Rattle.aes.specs.Columns.{state_of}
use Rattle.aes.proofs.rounds.Given as goal

abbrev pub invariant-loop-k : goal.invariant-loop-k
invariant-loop-k l =
    (y : List ℕ) → state_of l.initial.s ≡ C.rounds (words_bytes 44 l.key.words) 0 y
    → state_of l.s ≡ C.rounds (words_bytes 44 l.key.words) (l.k - 1) y
