-- As `words` of chacha20, with its ten turns written out.
use Rattle.lists.specs.Kit.{ap, List, ℕ}
use Rattle.chacha20.specs.ChaCha20Laws.{rounds-zero, rounds-turn, in_words}
use Rattle.chacha20_lanes.specs.declared.Lane.{Lane}
use Rattle.chacha20_lanes.specs.Lanes.{NONCE, lane_of}
use Rattle.chacha20_lanes.proofs.one.Goals as goal

abbrev lane : List ℕ → Lane
lane v = record { 0 = v }

pub returns : goal.returns
unfolding lane_of
returns c =
    let s = c.state-s.result in
    let r1 = rounds-turn 0 s s (rounds-zero s) c.columns.ensures c.diagonals.ensures in
    let r2 = rounds-turn 1 s _ r1 c.columns-2.ensures c.diagonals-2.ensures in
    let r3 = rounds-turn 2 s _ r2 c.columns-3.ensures c.diagonals-3.ensures in
    let r4 = rounds-turn 3 s _ r3 c.columns-4.ensures c.diagonals-4.ensures in
    let r5 = rounds-turn 4 s _ r4 c.columns-5.ensures c.diagonals-5.ensures in
    let r6 = rounds-turn 5 s _ r5 c.columns-6.ensures c.diagonals-6.ensures in
    let r7 = rounds-turn 6 s _ r6 c.columns-7.ensures c.diagonals-7.ensures in
    let r8 = rounds-turn 7 s _ r7 c.columns-8.ensures c.diagonals-8.ensures in
    let r9 = rounds-turn 8 s _ r8 c.columns-9.ensures c.diagonals-9.ensures in
    let r10 = rounds-turn 9 s _ r9 c.columns-10.ensures c.diagonals-10.ensures in
    ap lane (in_words c.args.key.now c.args.counter NONCE c.state-s.ensures r10 c.sums.ensures)
