-- The sums run over the records without labels that lie a label's length behind: party k's MACs and keys are the same.
use Rattle.std.specs.Prelude.{◌-◌, ◌≤◌}
use Rattle.lists.specs.Kit.{sym, subst, List, ℕ, arith, length, get_or, take, drop}
use lib.ListN.{length-drop}
use Rattle.lists.specs.Sect.{get-rest}
use Rattle.algebra.specs.Group.{odd}
use Rattle.algebra.specs.Bucket.{bucket_x, bucket_z}
use Rattle.share.specs.Layout.{record-some}
use Rattle.share.specs.Share.{shares}
use Rattle.share.specs.Lent.{LABEL, lent_len}
use Rattle.bucket_sum.specs.Sums.{x_among, z_among, BucketIn, Summed, entries-own, entries-other}
use Rattle.combine.specs.Triples.{summed-lent}
use Rattle.combine.proofs.party.Goals as goal
use Rattle.combine.proofs.party.Goals.{Else-k-i}

pub returns-then-k-i : goal.returns-then-k-i
returns-then-k-i c =
    entries-own c.args.i c.args.k _ _ c.nothing.result (sym c.if-k-i.true) (c.nothing.ensures c.args.k)

-- there is a record behind the label
more : (c : Else-k-i) → LABEL ≤ length c.args.triples.now
more c =
    omega (arith, c.requires.0.inside 0 (omega (arith, c.requires.0.count)), record-some c.args.n, length-drop LABEL c.args.triples.now)

pub sum_entries-requires : goal.sum_entries-requires
sum_entries-requires c =
    let behind : List ℕ = take (length c.args.triples.now - LABEL) (drop LABEL c.args.triples.now) in (
      subst (λ m. BucketIn c.args.n m behind c.args.ts.now 2 c.args.d.now) (sym c.lent_len.ensures)
          (subst (λ (l : List ℕ). BucketIn c.args.n (lent_len c.args.n) l c.args.ts.now 2 c.args.d.now) (sym
          (get-rest LABEL c.args.triples.now))
          c.requires.0),
      c.requires.1,
    )

pub returns : goal.returns
returns c =
    let ts : List ℕ = c.args.ts.now in
    let d : List ℕ = c.args.d.now in
    let Sum : ℕ → List ℕ → Type 0 = λ m l.
    Summed c.args.k (bucket_x shares (x_among m l ts) (length d))
    (bucket_z shares (x_among m l ts) (z_among m l ts 2) (λ e. odd (get_or d e 0)) (length d)) c.sum_entries.result in
    entries-other c.args.i c.args.k _ _ c.sum_entries.result (λ e. c.if-k-i.false (sym e))
    (summed-lent c.args.n c.args.triples.now ts (λ e. odd (get_or d e 0)) (length d) c.args.k c.sum_entries.result
    (subst (Sum (lent_len c.args.n)) (get-rest LABEL c.args.triples.now)
    (subst (λ m. Sum m (take (length c.args.triples.now - LABEL) (drop LABEL c.args.triples.now))) c.lent_len.ensures
    c.sum_entries.ensures)))

pub slice_bounds-sum_entries-count : goal.slice_bounds-sum_entries-count
slice_bounds-sum_entries-count c = more (goal.at.slice_bounds-sum_entries-count c).Else-k-i

pub slice_bounds-sum_entries-start : goal.slice_bounds-sum_entries-start
slice_bounds-sum_entries-start c = more (goal.at.slice_bounds-sum_entries-start c).Else-k-i
