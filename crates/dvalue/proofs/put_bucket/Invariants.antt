use Rattle.std.specs.Prelude.{◌-◌, ◌≤◌}
use Rattle.lists.specs.Kit.{List, Bool, ℕ}
use Rattle.block.specs.declared.Block.{Block}
use Rattle.encode.specs.Bucket.{Filled}
use Rattle.engine.specs.declared.Frame.{Frame}
use Rattle.rounds.specs.Buckets as B
use Rattle.dvalue.proofs.put_bucket.Given as goal

-- the d values of bucket j, and their MACs for k
abbrev pub bits : Frame → List ℕ → List ℕ → ℕ → ℕ → Bool
bits f recs perm j e = (B.d f recs perm j e).bit

abbrev pub macs : Frame → List ℕ → List ℕ → ℕ → ℕ → ℕ → Block
macs f recs perm j k e = (B.d f recs perm j e).mac k

abbrev pub invariant-loop-e : goal.invariant-loop-e
invariant-loop-e l = Filled l.due (bits l.f l.recs l.perm l.j) (macs l.f l.recs l.perm l.j l.k) l.e l.out
