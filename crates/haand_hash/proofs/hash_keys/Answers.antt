use Rattle.std.specs.Prelude.{◌≡◌, ◌++◌, ◌+◌, ◌-◌, ◌*◌, ◌≤◌}
use Rattle.lists.specs.Kit.{sym, ap, ◌∙◌, true, ℕ, arith, length, drop, replicate, rules}
use lib.Seq.{length-take-le}
use Rattle.lists.specs.Over.{length-cat}
use Rattle.lists.specs.Sect.{put, length-get, length-put}
use Rattle.block.specs.Block.{block_at, bytes_of}
use Rattle.block.specs.Group.{blocks}
use Rattle.block.specs.Trip.{Small, length-bytes_of}
use Rattle.share.specs.Record.{record_len}
use Rattle.haand_hash.specs.Window.{part_of}
use Rattle.haand_hash.specs.WindowLaws.{bytes_in, small-part, filled, filled-length, first-hashed, second-hashed}
use Rattle.haand_hash.proofs.hash_keys.Goals as goal
use Rattle.haand_hash.proofs.hash_keys.Goals.{After-add, After-gather, Start}

-- ---- of a call

room : (c : Start) → (bytes_in c.args.f.n c.args.m 16) ≤ 1024
room c = omega (arith, c.requires.1)

small : (c : Start) → Small c.args.delta.0
small c = record { low = omega (arith, c.well_formed); high = omega (arith, c.well_formed) }

pub slice_bounds-gather-end : goal.slice_bounds-gather-end
slice_bounds-gather-end c = sym (length-take-le (bytes_in c.args.f.n c.args.m 16) (replicate 1024 0) (room (goal.at.slice_bounds-gather-end c).Start))

pub gather-requires : goal.gather-requires
gather-requires c =
    record { positions = c.requires.0; out_len = length-take-le (bytes_in c.args.f.n c.args.m 16) (replicate 1024 0) (room (goal.at.gather-requires c).Start) }

-- the keys, and zeros behind them

long : (c : After-gather) → length (c.gather.new.out ++ drop (bytes_in c.args.f.n c.args.m 16) (replicate 1024 0)) ≡ 1024
long c =
    let room-here : (bytes_in c.args.f.n c.args.m 16) ≤ 1024 = omega (arith, c.requires.1) in
    filled-length c.args.f c.args.m (λ p k. part_of true c.args.recs.now ((c.args.t + p) * record_len c.args.f.n) k) (replicate 1024 0) c.gather.new.out
    c.gather.ensures
    (room-here)

pub slice_bounds-blocks-end-2 : goal.slice_bounds-blocks-end-2
slice_bounds-blocks-end-2 c = omega (arith, long (goal.at.slice_bounds-blocks-end-2 c).After-gather)

pub slice_bounds-add-end : goal.slice_bounds-add-end
slice_bounds-add-end c = sym (long (goal.at.slice_bounds-add-end c).After-gather)

pub add-requires : goal.add-requires
add-requires c =
    (length-get 512 512 (c.gather.new.out ++ drop (bytes_in c.args.f.n c.args.m 16) (replicate 1024 0)) (omega (arith, long (goal.at.add-requires c).After-gather)), omega (arith, long (goal.at.add-requires c).After-gather))

-- and the same plus delta in the second half

whole : (c : After-add) → length (put 512 512 c.add.new.out (c.gather.new.out ++ drop (bytes_in c.args.f.n c.args.m 16) (replicate 1024 0))) ≡ 1024
whole c =
    let long-here : length (c.gather.new.out ++ drop (bytes_in c.args.f.n c.args.m 16) (replicate 1024 0)) ≡ 1024 = let room-here : (bytes_in c.args.f.n c.args.m 16) ≤ 1024 = omega (arith, c.requires.1) in
    filled-length c.args.f c.args.m (λ p k. part_of true c.args.recs.now ((c.args.t + p) * record_len c.args.f.n) k) (replicate 1024 0) c.gather.new.out
    c.gather.ensures
    (room-here) in
    length-put 512 512 c.add.new.out (c.gather.new.out ++ drop (bytes_in c.args.f.n c.args.m 16) (replicate 1024 0))
    (ap length c.add.ensures
    ∙ length-cat 32 16 (λ j. bytes_of (blocks.op (block_at (c.gather.new.out ++ drop (bytes_in c.args.f.n c.args.m 16) (replicate 1024 0)) (j * 16)) c.args.delta.0))
    (λ j l. length-bytes_of (blocks.op (block_at (c.gather.new.out ++ drop (bytes_in c.args.f.n c.args.m 16) (replicate 1024 0)) (j * 16)) c.args.delta.0)))
    (omega (arith, long-here))
    ∙ long-here

pub slice_bounds-hash_window-end-2 : goal.slice_bounds-hash_window-end-2
slice_bounds-hash_window-end-2 c = sym (whole (goal.at.slice_bounds-hash_window-end-2 c).After-add)

pub hash_window-requires : goal.hash_window-requires
hash_window-requires c = record { out_len = search rules; blocks_len = whole (goal.at.hash_window-requires c).After-add }

pub returns : goal.returns
returns c =
    let b : (p k : ℕ) → Small (part_of true c.args.recs.now ((c.args.t + p) * record_len c.args.f.n) k) = λ p k. small-part true c.args.recs.now ((c.args.t + p) * record_len c.args.f.n) k
    (λ j. (c.shared_slice_known-1.given j).fits) in
    let e = filled c.args.f c.args.m (λ p k. part_of true c.args.recs.now ((c.args.t + p) * record_len c.args.f.n) k) (replicate 1024 0) c.gather.new.out c.gather.ensures (room (goal.at.returns c).Start) in record {
      hashed = first-hashed c.args.f c.args.m (λ p k. part_of true c.args.recs.now ((c.args.t + p) * record_len c.args.f.n) k) (c.gather.new.out ++ drop (bytes_in c.args.f.n c.args.m 16) (replicate 1024 0)) b e c.args.delta.0 c.add.new.out _ (small (goal.at.returns c).Start) (long (goal.at.returns c).After-gather) c.requires.1
          c.add.ensures c.hash_window.ensures;
      hashed_2 = second-hashed c.args.f c.args.m (λ p k. part_of true c.args.recs.now ((c.args.t + p) * record_len c.args.f.n) k) (c.gather.new.out ++ drop (bytes_in c.args.f.n c.args.m 16) (replicate 1024 0)) b e c.args.delta.0 c.add.new.out _ (small (goal.at.returns c).Start) (long (goal.at.returns c).After-gather) c.requires.1
          c.add.ensures c.hash_window.ensures;
    }
