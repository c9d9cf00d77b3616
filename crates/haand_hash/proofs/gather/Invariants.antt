-- The loop's invariant: the parts of the first p positions are written.
use Rattle.std.specs.Prelude.{◌+◌, ◌-◌, ◌*◌, ◌≤◌}
use Rattle.lists.specs.Over.{Written}
use Rattle.block.specs.Block.{bytes_of}
use Rattle.share.specs.Record.{record_len}
use Rattle.engine.specs.Area.{to_others}
use Rattle.haand_hash.specs.Window.{part_of}
use Rattle.haand_hash.proofs.gather.Given as goal

abbrev pub invariant-loop-p : goal.invariant-loop-p
invariant-loop-p l = Written (λ p'. to_others l.f.n l.f.i (λ k. bytes_of (part_of l.keys l.recs ((l.t + p') * record_len l.f.n) k))) l.p
    (l.p * ((l.f.n - 1) * 16)) l.initial.out l.out
