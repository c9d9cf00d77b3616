use Rattle.std.specs.Prelude.{◌≡◌, ◌+◌, ◌*◌}
use Rattle.lists.specs.Kit.{refl, ap, ◌∙◌, List, ℕ, arith, length}
use Rattle.share.specs.Layout.{record_len, record-most}
use Rattle.engine.specs.Area.{off}
use Rattle.rounds.specs.Area.{BITS, PERM, TRIPLES, ALPHA, BETA, size_of, at}
use Rattle.area.specs.GivenLaws.{length_at, place_at, place-fits}
use Rattle.area.specs.Sizes.{size-perm}
use Rattle.buckets.specs.Entries.{y_at, first-in}
use Rattle.faand.specs.Given.{Reads, reads}
use Rattle.faand.proofs.bucket.Goals as goal
use Rattle.faand.proofs.bucket.Goals.{After-y_at, Start}

-- where the records lie

there : (c : Start) → Reads (c.args.f) c.args.work.now (c.args.j) (record {
  a = off (size_of (c.args.f)) TRIPLES + (c.args.j) * (2 * record_len (c.args.f).n);
  c = off (size_of (c.args.f)) TRIPLES + ((c.args.j) * (2 * record_len (c.args.f).n) + record_len (c.args.f).n);
  b = off (size_of (c.args.f)) BITS + y_at (c.args.f) (at (c.args.f) PERM c.args.work.now) (c.args.j) 0;
  alpha = off (size_of (c.args.f)) ALPHA + (c.args.j) * record_len (c.args.f).n;
  beta = off (size_of (c.args.f)) BETA + (c.args.j) * record_len (c.args.f).n;
})
there c = reads c.requires.0 (c.args.j) c.requires.1 (record {
  a = off (size_of (c.args.f)) TRIPLES + (c.args.j) * (2 * record_len (c.args.f).n);
  c = off (size_of (c.args.f)) TRIPLES + ((c.args.j) * (2 * record_len (c.args.f).n) + record_len (c.args.f).n);
  b = off (size_of (c.args.f)) BITS + y_at (c.args.f) (at (c.args.f) PERM c.args.work.now) (c.args.j) 0;
  alpha = off (size_of (c.args.f)) ALPHA + (c.args.j) * record_len (c.args.f).n;
  beta = off (size_of (c.args.f)) BETA + (c.args.j) * record_len (c.args.f).n;
}) (record { a = refl; c = refl; b = refl; alpha = refl; beta = refl })

-- as the code has them

len_is : (c : After-y_at) → (c.record_len-len.result) ≡ record_len (c.args.f).n
len_is c = c.record_len-len.ensures

perm_is : (c : After-y_at) → c.lent-perm.result.now ≡ at (c.args.f) PERM c.args.work.now
perm_is c = c.lent-perm.ensures ∙ place_at (c.args.f) PERM _ _ c.requires.2.perm c.args.work.now

y-is : (c : After-y_at) → c.y_at.result ≡ y_at (c.args.f) (at (c.args.f) PERM c.args.work.now) (c.args.j) 0
y-is c = c.y_at.ensures ∙ ap (λ (p : List ℕ). y_at (c.args.f) p (c.args.j) 0) (perm_is c)

row : (c : After-y_at) → (c.args.j) * (2 * (c.record_len-len.result)) ≡ (c.args.j) * (2 * record_len (c.args.f).n)
row c = ap (λ m. (c.args.j) * (2 * m)) (len_is c)

share : (c : After-y_at) → (c.args.j) * (c.record_len-len.result) ≡ (c.args.j) * record_len (c.args.f).n
share c = ap (λ m. (c.args.j) * m) (len_is c)

pub y_at-requires : goal.y_at-requires
y_at-requires c =
    record {
      ranged = c.requires.0.ranges;
      perm_len = (
        ap length (c.lent-perm.ensures ∙ place_at (c.args.f) PERM _ _ c.requires.2.perm c.args.work.now) ∙ length_at c.requires.0 PERM (omega arith)
            ∙ size-perm (c.args.f),
        c.requires.1,
        first-in (c.args.f),
      );
    }

pub returns : goal.returns
returns c =
    reads c.requires.0 (c.args.j) c.requires.1 _ (record {
      a = omega (arith, row (goal.at.returns c).After-y_at, c.requires.2.triples);
      c = omega (arith, row (goal.at.returns c).After-y_at, c.requires.2.triples, len_is (goal.at.returns c).After-y_at);
      b = omega (arith, y-is (goal.at.returns c).After-y_at, c.requires.2.recs);
      alpha = omega (arith, share (goal.at.returns c).After-y_at, c.requires.2.alpha);
      beta = omega (arith, share (goal.at.returns c).After-y_at, c.requires.2.beta);
    })

pub lent-perm-requires : goal.lent-perm-requires
lent-perm-requires c = place-fits c.requires.0 PERM _ _ (omega arith) c.requires.2.perm

pub overflow_add-b : goal.overflow_add-b
overflow_add-b c = omega (arith, (there (goal.at.overflow_add-b c).Start).b-in, y-is (goal.at.overflow_add-b c).After-y_at, c.requires.2.recs, c.well_formed)

pub overflow_mul-a : goal.overflow_mul-a
overflow_mul-a c = omega (arith, len_is (goal.at.overflow_mul-a c).After-y_at, record-most (c.args.f).n c.requires.0.ranges.range.eight)

pub overflow_mul-a-2 : goal.overflow_mul-a-2
overflow_mul-a-2 c = omega (arith, (there (goal.at.overflow_mul-a-2 c).Start).c-in, row (goal.at.overflow_mul-a-2 c).After-y_at, c.well_formed)

pub overflow_add-a : goal.overflow_add-a
overflow_add-a c = omega (arith, (there (goal.at.overflow_add-a c).Start).c-in, row (goal.at.overflow_add-a c).After-y_at, c.requires.2.triples, c.well_formed)

pub overflow_mul-x : goal.overflow_mul-x
overflow_mul-x c = omega (arith, (there (goal.at.overflow_mul-x c).Start).alpha-in, share (goal.at.overflow_mul-x c).After-y_at, c.well_formed)

pub overflow_add-result : goal.overflow_add-result
overflow_add-result c = omega (arith, (there (goal.at.overflow_add-result c).Start).c-in, row (goal.at.overflow_add-result c).After-y_at, len_is (goal.at.overflow_add-result c).After-y_at, c.requires.2.triples, c.well_formed)

pub overflow_add-result-2 : goal.overflow_add-result-2
overflow_add-result-2 c = omega (arith, (there (goal.at.overflow_add-result-2 c).Start).alpha-in, share (goal.at.overflow_add-result-2 c).After-y_at, c.requires.2.alpha, c.well_formed)

pub overflow_add-result-3 : goal.overflow_add-result-3
overflow_add-result-3 c = omega (arith, (there (goal.at.overflow_add-result-3 c).Start).beta-in, share (goal.at.overflow_add-result-3 c).After-y_at, c.requires.2.beta, c.well_formed)
