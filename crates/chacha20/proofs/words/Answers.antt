use Rattle.std.specs.Prelude.{◌≡◌}
use Rattle.lists.specs.Kit.{ap, ◌∙◌, ℕ, arith}
use Rattle.chacha20.specs.ChaCha20 as C
use Rattle.chacha20.specs.ChaCha20Laws.{rounds-zero, rounds-turn, in_words}
use Rattle.chacha20.proofs.words.Goals as goal

pub loop-round-init : goal.loop-round-init
loop-round-init c = rounds-zero _

pub loop-round-preserved : goal.loop-round-preserved
loop-round-preserved c =
    let l = c.loop-round in
    rounds-turn l._round _ l.v l.invariant c.columns.ensures c.diagonals.ensures

pub returns : goal.returns
returns c =
    let a = c.args in
    let e : c.loop-round._round ≡ 10 = omega arith in
    in_words a.key.now a.counter a.nonce.now c.state-s.ensures
    (c.loop-round.invariant ∙ ap (λ (i : ℕ). C.rounds i c.state-s.result) e) c.sums.ensures
