use Rattle.std.specs.Prelude.{◌≡◌, ◌+◌, ◌*◌}
use Rattle.lists.specs.Kit.{refl, sym, ap, subst, ◌∙◌, List, ℕ, arith, length, get_or}
use Rattle.algebra.specs.Group.{bits, odd}
use Rattle.algebra.specs.Bucket.{bucket_x, bucket_z}
use Rattle.share.specs.Layout.{record-some}
use Rattle.rounds.specs.Area.{BITS, ZS, ES, at}
use Rattle.rounds.specs.Buckets.{later}
use Rattle.bucket_sum.specs.Sums.{x_among, Within, x-bits}
use Rattle.area.specs.GivenLaws.{place_at, place-fits}
use Rattle.triples.specs.Given.{Bucketed, bucket-in, number-count, number-entry, bucket-is, z-within, length-ds}
use Rattle.triples.specs.Laws.{bit-x, bit-z}
use Rattle.triples.proofs.row_bits.Goals as goal
use Rattle.triples.proofs.row_bits.Goals.{After-ds-d}

-- what is lent are the sections

recs-are : (c : After-ds-d) → c.lent-recs.result.now ≡ at (c.args.f) BITS c.args.work.now
recs-are c = c.lent-recs.ensures ∙ place_at (c.args.f) BITS _ _ c.requires.work.2.recs c.args.work.now

zs-are : (c : After-ds-d) → c.lent-zs.result.now ≡ at (c.args.f) ZS c.args.work.now
zs-are c = c.lent-zs.ensures ∙ place_at (c.args.f) ZS _ _ c.requires.work.2.zs c.args.work.now

long : (c : After-ds-d) → length c.ds-d.result.now ≡ later (c.args.f)
long c = ap length c.ds-d.ensures ∙ length-ds c.requires.work.0 c.args.j c.requires.work.1

pub sum_bits-requires : goal.sum_bits-requires
sum_bits-requires c =
    let recs : List ℕ = c.lent-recs.result.now in
    let b : Bucketed (c.args.f) recs (at (c.args.f) ES c.args.work.now) c.args.ts.now c.ds-d.result.now =
    bucket-is c.args.j c.requires.work.0 (recs-are (goal.at.sum_bits-requires c).After-ds-d) refl c.requires.numbered (long
    (goal.at.sum_bits-requires c).After-ds-d) in record {
      ts_len = number-count (c.args.f) c.args.work.now c.args.j c.args.ts.now c.requires.numbered
          ∙ ap (λ m. m + 1) (sym (long (goal.at.sum_bits-requires c).After-ds-d));
      within = (
        subst (λ m. Within recs c.args.ts.now 0 m 1) (sym c.record_len.ensures) (x-bits (bucket-in b c.requires.work.0.ranges)),
        z-within c.args.j c.requires.work.0 (zs-are (goal.at.sum_bits-requires c).After-ds-d) c.requires.numbered,
        omega (arith, c.record_len.ensures, record-some (c.args.f).n),
        omega arith,
      );
    }

pub returns : goal.returns
returns c delta =
    let recs : List ℕ = c.lent-recs.result.now in
    let ht = number-entry (c.args.f) c.args.work.now c.args.j c.args.ts.now c.requires.numbered in (
      bit-x (c.args.f) delta c.args.work.now c.args.j c.args.ts.now c.ds-d.result.now ht c.ds-d.ensures (long
          (goal.at.returns c).After-ds-d)
          recs (recs-are (goal.at.returns c).After-ds-d) c.sum_bits.result.x
          (c.sum_bits.ensures.0 ∙ ap (λ m. bucket_x bits (λ e. (x_among m recs c.args.ts.now e).bit)
          (length c.ds-d.result.now)) c.record_len.ensures),
      bit-z (c.args.f) delta c.args.work.now c.args.j c.args.ts.now c.ds-d.result.now ht c.ds-d.ensures (long
          (goal.at.returns c).After-ds-d)
          recs (recs-are (goal.at.returns c).After-ds-d) c.lent-zs.result.now c.sum_bits.result.z (zs-are (goal.at.returns c).After-ds-d)
          (c.sum_bits.ensures.1 ∙ ap (λ m. bucket_z bits (λ e. (x_among m recs c.args.ts.now e).bit)
          (λ e. odd (get_or c.lent-zs.result.now ((get_or c.args.ts.now e 0 + 0) * 17) 0))
          (λ e. odd (get_or c.ds-d.result.now e 0)) (length c.ds-d.result.now)) c.record_len.ensures),
    )

pub lent-recs-requires : goal.lent-recs-requires
lent-recs-requires c = place-fits c.requires.work.0 BITS _ _ (omega arith) c.requires.work.2.recs

pub lent-zs-requires : goal.lent-zs-requires
lent-zs-requires c = place-fits c.requires.work.0 ZS _ _ (omega arith) c.requires.work.2.zs

pub ds-d-requires : goal.ds-d-requires
ds-d-requires c = c.requires.work

pub record_len-requires : goal.record_len-requires
record_len-requires c = c.requires.work.0.ranges.range.eight
