use Rattle.std.specs.Prelude.{◌≡◌, ◌++◌, ◌*◌}
use Rattle.lists.specs.Kit.{sym, ap, ◌∙◌, List, ℕ, arith, length, take, drop, replicate}
use lib.ListN.{length-append}
use lib.Seq.{take_at, length-take-le}
use Rattle.lists.specs.Over.{length-cat}
use Rattle.lists.specs.Same.{same?}
use Rattle.block.specs.Block.{block_at, bytes_of}
use Rattle.blake3_lanes.specs.Lanes.{hash_at}
use Rattle.blake3.specs.ByteLaws.{length-hash}
use Rattle.flaand_hash.proofs.window_opens.Goals as goal
use Rattle.flaand_hash.proofs.window_opens.Goals.{After-hash_blocks, Start}

-- the hashes fit the buffer
room : (c : Start) → length (take (c.args.count * 32) (replicate {A = ℕ} 2048 0)) ≡ c.args.count * 32
room c = length-take-le (c.args.count * 32) (replicate 2048 0) (omega (arith, c.requires.0))

pub slice_bounds-hash_blocks-end : goal.slice_bounds-hash_blocks-end
slice_bounds-hash_blocks-end c = sym (room (goal.at.slice_bounds-hash_blocks-end c).Start)

pub hash_blocks-requires : goal.hash_blocks-requires
hash_blocks-requires c = record { blocks_len = c.requires.1; out_len = room (goal.at.hash_blocks-requires c).Start }

-- ---- the hashes are at the front of the buffer

long : (c : After-hash_blocks) → length (c.hash_blocks.new.out) ≡ c.args.count * 32
long c =
    let hs : List ℕ = c.args.hs.now in
    ap length c.hash_blocks.ensures
    ∙ length-cat c.args.count 32 (hash_at hs) (λ q l. length-hash (bytes_of (block_at hs (q * 16))))

lent : (c : After-hash_blocks) → (r : List ℕ) → take (c.args.count * 32) ((c.hash_blocks.new.out) ++ r) ≡ (c.hash_blocks.new.out)
lent c r = take_at (c.hash_blocks.new.out) r (c.args.count * 32) (long c)

lent_length : (c : After-hash_blocks) → (r : List ℕ) → length (take (c.args.count * 32) ((c.hash_blocks.new.out) ++ r)) ≡ c.args.count * 32
lent_length c r = ap length (lent c r) ∙ long c

pub slice_bounds-hashes-end-2 : goal.slice_bounds-hashes-end-2
slice_bounds-hashes-end-2 c =
    let made : List ℕ = c.hash_blocks.new.out in
    omega (arith, long (goal.at.slice_bounds-hashes-end-2 c).After-hash_blocks, length-append made (drop (c.args.count * 32) (replicate {A = ℕ} 2048 0)))

pub slice_bounds-same-end : goal.slice_bounds-same-end
slice_bounds-same-end c = sym (lent_length (goal.at.slice_bounds-same-end c).After-hash_blocks _)

pub same-requires : goal.same-requires
same-requires c =
    let e = lent_length (goal.at.same-requires c).After-hash_blocks (drop (c.args.count * 32) (replicate {A = ℕ} 2048 0)) in
    (e ∙ sym c.requires.2, omega (arith, e))

pub returns : goal.returns
returns c =
    c.same.ensures ∙ ap (λ (x : List ℕ). same? x c.args.comms.now) (lent (goal.at.returns c).After-hash_blocks _ ∙ c.hash_blocks.ensures)
