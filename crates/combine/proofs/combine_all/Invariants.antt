-- The loop's invariant: y is written, and of x and z the entries of the first k parties.
use Rattle.std.specs.Prelude.{◌+◌}
use Rattle.lists.specs.Kit.{List, ℕ}
use Rattle.lists.specs.Kit.{length, get_or, take}
use Rattle.algebra.specs.Group.{odd}
use Rattle.algebra.specs.Bucket.{bucket_x, bucket_z}
use Rattle.share.specs.Share.{Share, shares}
use Rattle.share.specs.Lent.{lent_of}
use Rattle.rounds.specs.Combine.{triple}
use Rattle.combine.specs.Triples.{x_places, x_lent, z_lent}
use Rattle.combine.specs.Out.{Lined}
use Rattle.combine.proofs.combine_all.Given as goal

-- the numbers of the records x, and the sums
abbrev pub ts : List ℕ → List ℕ
ts d = take (length d + 1) x_places

abbrev pub X : ℕ → List ℕ → List ℕ → Share
X n s d = bucket_x shares (x_lent n s (ts d)) (length d)

abbrev pub Z : ℕ → List ℕ → List ℕ → Share
Z n s d = bucket_z shares (x_lent n s (ts d)) (z_lent n s (ts d)) (λ e. odd (get_or d e 0)) (length d)

abbrev pub Y : ℕ → ℕ → List ℕ → List ℕ
Y n i s = lent_of n i (triple n s 0).ty

abbrev pub invariant-loop-k : goal.invariant-loop-k
invariant-loop-k l = Lined l.n l.i l.k (X l.n l.triples l.d) (Z l.n l.triples l.d) (Y l.n l.i l.triples) l.out
