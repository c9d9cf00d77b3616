use Rattle.std.specs.Prelude.{◌≡◌, ◌+◌, ◌*◌, ◌<◌}
use Rattle.lists.specs.Kit.{sym, ap, subst, ◌∙◌, Bool, ℕ, suc, arith, length, get_or}
use native.Mathlib.Nat.{mul-le-mul_right}
use native.Mathlib.Numerals.{add-one}
use Rattle.algebra.specs.Group.{bits, odd}
use Rattle.algebra.specs.Sum.{sum}
use Rattle.algebra.specs.Bucket.{bucket_x, bucket_z}
use Rattle.block.specs.Group.{blocks}
use Rattle.share.specs.Record.{record_len}
use Rattle.share.specs.Share.{Share, shares}
use Rattle.plan.specs.Plan.{leaky}
use Rattle.plan.specs.PlanLaws.{leaky-most}
use Rattle.rounds.specs.Haand.{x}
use Rattle.bucket_sum.specs.Sums.{x_among, z_among, BucketIn, Summed, entries-own, entries-other}
use Rattle.triples.specs.Given.{bucket-in, e-in}
use Rattle.triples.specs.Laws.{z-mac, z-key}
use Rattle.triples.proofs.party.Goals as goal
use Rattle.triples.proofs.party.Goals.{After-leaky-count}

pub returns-then-k-i : goal.returns-then-k-i
returns-then-k-i c zs =
    entries-own c.args.f.i c.args.k _ _ c.nothing.result (sym c.if-k-i.true) (c.nothing.ensures c.args.k)

-- of a call

is : (c : After-leaky-count) → c.leaky-count.result ≡ leaky c.args.f.l
is c = c.leaky-count.ensures

few : (c : After-leaky-count) → c.leaky-count.result < 1500001
few c = omega (arith, is c, leaky-most c.args.f.l c.requires.ranged.0.range.most)

pub overflow_mul-count : goal.overflow_mul-count
overflow_mul-count c = omega (arith, few (goal.at.overflow_mul-count c).After-leaky-count)

pub sum_entries-s-requires : goal.sum_entries-s-requires
sum_entries-s-requires c = (
  subst (λ m. BucketIn c.args.f.n m c.args.recs.now c.args.ts.now (2 * c.leaky-count.result) c.args.d.now) (sym c.record_len.ensures)
      (subst (λ m. BucketIn c.args.f.n (record_len c.args.f.n) c.args.recs.now c.args.ts.now (2 * m) c.args.d.now) (sym (is
      (goal.at.sum_entries-s-requires c).After-leaky-count))
      (bucket-in c.requires.bucketed c.requires.ranged.0)),
  c.requires.ranged.1,
)

pub overflow_mul-k : goal.overflow_mul-k
overflow_mul-k c =
    let k : c.args.k < 8 = omega (arith, c.requires.ranged.1, c.requires.ranged.0.range.eight) in
    omega (arith, mul-le-mul_right c.leaky-count.result k, few (goal.at.overflow_mul-k c).After-leaky-count)

pub e_sum-told-requires : goal.e_sum-told-requires
e_sum-told-requires c e l =
    omega (
      arith,
      e-in c.requires.bucketed c.args.k c.requires.ranged.1 e l,
      ap (λ m. c.args.k * m) (is (goal.at.e_sum-told-requires c).After-leaky-count),
    )

pub returns : goal.returns
unfolding x_among x
returns c zs =
    let recs = c.args.recs.now in
    let ts = c.args.ts.now in
    let es = c.args.es.now in
    let d : ℕ → Bool = λ e. odd (get_or c.args.d.now e 0) in
    let n : ℕ = length c.args.d.now in
    let count : length ts ≡ suc n = c.requires.bucketed.count ∙ add-one n in
    let told : c.e_sum-told.result ≡ sum bits (suc n) (λ e. odd (get_or es (c.args.k * leaky c.args.f.l + get_or ts e 0) 0)) =
    c.e_sum-told.ensures ∙ (λ q. sum bits (count q) (λ e. odd (get_or es (c.args.k * is
    (goal.at.returns c).After-leaky-count q + get_or ts e 0) 0))) in
    let X : (len : ℕ) → Share = λ len. bucket_x shares (x_among len recs ts) n in
    let Z : (len m : ℕ) → Share = λ len m. bucket_z shares (x_among len recs ts) (z_among len recs ts (2 * m)) d n in
    let z : (m : ℕ) → Share = Z (record_len c.args.f.n) in
    let v : Summed c.args.k (X (record_len c.args.f.n)) (z c.leaky-count.result) c.sum_entries-s.result =
    subst (λ m. Summed c.args.k (X m) (Z m c.leaky-count.result) c.sum_entries-s.result)
    c.record_len.ensures c.sum_entries-s.ensures in
    entries-other c.args.f.i c.args.k _ _ _ (λ e. c.if-k-i.false (sym e)) (record {
      x-mac = v.x-mac;
      x-key = v.x-key;
      z-mac = z-mac c.args.f c.args.delta.0 recs zs es ts d n c.args.k _ (v.z-mac
          ∙ ap (λ m. (z m).mac c.args.k) (is (goal.at.returns c).After-leaky-count));
      z-key =
          c.z_key.ensures
          ∙ ap (blocks.op c.sum_entries-s.result.z.key.0) c.times.ensures
          ∙ z-key c.args.f c.args.delta.0 recs zs es ts d n c.args.k _ c.e_sum-told.result (v.z-key
          ∙ ap (λ m. (z m).key c.args.k) (is (goal.at.returns c).After-leaky-count)) told;
    })

pub record_len-requires : goal.record_len-requires
record_len-requires c = c.requires.ranged.0.range.eight
