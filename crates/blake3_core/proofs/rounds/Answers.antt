use Rattle.blake3_core.specs.Compress.{rounds}
use Rattle.blake3_core.proofs.rounds.Goals as goal

pub returns : goal.returns
unfolding rounds
returns c =
    rw (
      c.round.ensures.state,
      c.round-m6.ensures.state,
      c.round-m6.ensures.words,
      c.round-m5.ensures.state,
      c.round-m5.ensures.words,
      c.round-m4.ensures.state,
      c.round-m4.ensures.words,
      c.round-m3.ensures.state,
      c.round-m3.ensures.words,
      c.round-m2.ensures.state,
      c.round-m2.ensures.words,
      c.round-m1.ensures.state,
      c.round-m1.ensures.words,
    )
