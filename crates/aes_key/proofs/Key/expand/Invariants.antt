-- The loops' invariants: the first i words have the bytes of the key's first 4 i; then they are the expansion's.
use Rattle.std.specs.Prelude.{◌≡◌, ◌-◌, ◌*◌}
use Rattle.lists.specs.Kit.{length, take}
use Rattle.fips197.specs.Key.{words}
use Rattle.aes_key.specs.Words.{words_bytes}
use Rattle.aes_key.proofs.Key.expand.Given as goal

abbrev pub invariant-loop-i : goal.invariant-loop-i
invariant-loop-i l = (length l.words ≡ 44) × (words_bytes l.i l.words ≡ take (l.i * 4) l.key)

abbrev pub invariant-loop-i-2 : goal.invariant-loop-i-2
invariant-loop-i-2 l = (length l.words ≡ 44) × (words_bytes l.i l.words ≡ words l.key (l.i - 4))
