use Rattle.std.specs.Prelude.{◌-◌, ◌≤◌}
use Rattle.lists.specs.Kit.{List, Bool, ℕ}
use Rattle.share.specs.Share.{Share, share_at, entry_of}
use Rattle.share.specs.Entered.{Entered}
use Rattle.rounds.specs.Beaver as R
use Rattle.faand.specs.declared.Records.{Records}
use Rattle.results.proofs.put_entries.Given as goal

-- the share that is written
abbrev pub X : List ℕ → Records → Bool → Bool → Share
X w r d e = R.finish (share_at w r.c) (share_at w r.beta) (share_at w r.a) d e

abbrev pub invariant-loop-k : goal.invariant-loop-k
invariant-loop-k l = Entered (entry_of l.i (X l.work l.r l.d l.e)) l.n l.k l.initial.out l.out
