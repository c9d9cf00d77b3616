-- The loop's invariant: both lists have what is chosen for the first q of the other parties.
use Rattle.std.specs.Prelude.{◌≡◌}
use Rattle.share.specs.Record.{mac_off, key_off}
use Rattle.rbits.specs.Chosen.{words_of}
use Rattle.rsums.specs.Sums.{grown}
use Rattle.rsums.proofs.add_group.Given as goal

abbrev pub invariant-loop-q : goal.invariant-loop-q
invariant-loop-q l =
    (l.macs ≡ words_of 840 (grown mac_off l.n l.i l.s l.count l.first l.win l.h l.initial.macs l.q))
    × (l.keys ≡ words_of 840 (grown key_off l.n l.i l.s l.count l.first l.win l.h l.initial.keys l.q))
