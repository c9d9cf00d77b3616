use Rattle.std.specs.Prelude.{◌≡◌, ◌++◌, ◌+◌, ◌-◌, ◌*◌, ◌≤◌}
use Rattle.lists.specs.Kit.{sym, false, arith, length, drop, replicate, rules}
use lib.Seq.{length-take-le}
use Rattle.share.specs.Record.{record_len}
use Rattle.haand_hash.specs.Window.{part_of}
use Rattle.haand_hash.specs.WindowLaws.{bytes_in, small-part, filled, filled-length, window-hashed}
use Rattle.haand_hash.proofs.hash_macs.Goals as goal
use Rattle.haand_hash.proofs.hash_macs.Goals.{After-gather, Start}

-- ---- of a call

room : (c : Start) → (bytes_in c.args.f.n c.args.m 16) ≤ 1024
room c = omega (arith, c.requires.1)

pub slice_bounds-gather-end : goal.slice_bounds-gather-end
slice_bounds-gather-end c = sym (length-take-le (bytes_in c.args.f.n c.args.m 16) (replicate 1024 0) (room (goal.at.slice_bounds-gather-end c).Start))

pub gather-requires : goal.gather-requires
gather-requires c =
    record { positions = c.requires.0; out_len = length-take-le (bytes_in c.args.f.n c.args.m 16) (replicate 1024 0) (room (goal.at.gather-requires c).Start) }

-- the Blocks, and zeros behind them

long : (c : After-gather) → length (c.gather.new.out ++ drop (bytes_in c.args.f.n c.args.m 16) (replicate 1024 0)) ≡ 1024
long c =
    let room-here : (bytes_in c.args.f.n c.args.m 16) ≤ 1024 = omega (arith, c.requires.1) in
    filled-length c.args.f c.args.m (λ p k. part_of false c.args.recs.now ((c.args.t + p) * record_len c.args.f.n) k) (replicate 1024 0) c.gather.new.out
    c.gather.ensures
    (room-here)

pub slice_bounds-hash_window-end-2 : goal.slice_bounds-hash_window-end-2
slice_bounds-hash_window-end-2 c = sym (long (goal.at.slice_bounds-hash_window-end-2 c).After-gather)

pub hash_window-requires : goal.hash_window-requires
hash_window-requires c = record { out_len = search rules; blocks_len = long (goal.at.hash_window-requires c).After-gather }

pub returns : goal.returns
returns c =
    window-hashed c.args.f c.args.m (λ p k. part_of false c.args.recs.now ((c.args.t + p) * record_len c.args.f.n) k) _ (λ p k. small-part false c.args.recs.now ((c.args.t + p) * record_len c.args.f.n) k
    (λ j. (c.shared_slice_known-1.given j).fits))
    (filled c.args.f c.args.m (λ p k. part_of false c.args.recs.now ((c.args.t + p) * record_len c.args.f.n) k) (replicate 1024 0) c.gather.new.out c.gather.ensures (room (goal.at.returns c).Start)) _ c.requires.1
    c.hash_window.ensures
