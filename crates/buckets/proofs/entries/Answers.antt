use Rattle.std.specs.Prelude.{◌≡◌, ◌++◌, ◌<◌}
use Rattle.lists.specs.Kit.{ap, ◌∙◌, List, ℕ, arith, drop, replicate}
use Rattle.lists.specs.Over.{tab, tab-zero, tab-turn, drop-replicate}
use Rattle.plan.specs.Plan.{bucket_size}
use Rattle.plan.specs.PlanLaws.{bucket-high}
use Rattle.rounds.specs.Buckets.{entry}
use Rattle.buckets.proofs.entries.Goals as goal
use Rattle.buckets.proofs.entries.Goals.{In-loop-e}

pub loop-e-init : goal.loop-e-init
loop-e-init c = tab-zero (entry c.args.f c.args.perm.now c.args.j) (replicate 5 0)

-- one more entry is a bucket's

more : (c : In-loop-e) → c.loop-e.e < bucket_size c.args.f.l
more c = omega (arith, c.loop-e-test.true, c.bucket_size-b.ensures)

few : (c : In-loop-e) → c.loop-e.e < 5
few c = omega (arith, more c, bucket-high c.args.f.l)

pub entry-requires : goal.entry-requires
entry-requires c = record { ranged = c.requires.ranged; perm_len = (c.requires.perm_len.0, c.requires.perm_len.1, omega (arith, more (goal.at.entry-requires c).In-loop-e)) }

pub bounds-ts-e : goal.bounds-ts-e
bounds-ts-e c = few (goal.at.bounds-ts-e c).In-loop-e

pub loop-e-preserved : goal.loop-e-preserved
loop-e-preserved c =
    tab-turn c.loop-e.e (entry c.args.f c.args.perm.now c.args.j) (replicate 5 0) c.loop-e.ts c.entry.result
    c.loop-e.invariant c.entry.ensures (few (goal.at.loop-e-preserved c).In-loop-e)

pub returns : goal.returns
returns c =
    let e : c.loop-e.e ≡ bucket_size c.args.f.l = omega (arith, c.loop-e-test.false, c.loop-e.auto.e-end, c.bucket_size-b.ensures) in
    c.loop-e.invariant ∙ ap (λ m. tab m (entry c.args.f c.args.perm.now c.args.j) ++ drop m (replicate 5 0)) e
    ∙ ap (λ (r : List ℕ). tab (bucket_size c.args.f.l) (entry c.args.f c.args.perm.now c.args.j) ++ r) (drop-replicate (bucket_size c.args.f.l) 5 0)

pub offset_bounds-ts-e : goal.offset_bounds-ts-e
offset_bounds-ts-e c = omega (arith, few (goal.at.offset_bounds-ts-e c).In-loop-e)
