use Rattle.std.specs.Prelude.{◌≡◌, ◌≢◌, ◌+◌, ◌-◌, ◌*◌, ◌≤◌}
use Rattle.lists.specs.Kit.{sym, ap, ap₂, ◌∙◌, List, ℕ, arith, length, take, drop, replicate}
use lib.ListN.{length-append}
use lib.Seq.{length-take-le, take_at}
use Rattle.lists.specs.Over.{tab, length-tab}
use Rattle.lists.specs.Sect.{put, length-get, length-put}
use Rattle.share.specs.Layout.{record_len, record-most, entry-within}
use Rattle.share.specs.Entered.{head_in}
use Rattle.share.specs.Share.{entry_of}
use Rattle.plan.specs.Plan.{leaky, bucket_size}
use Rattle.rounds.specs.Area.{PERM, TRIPLES, at}
use Rattle.rounds.specs.Buckets.{Triple, entry}
use Rattle.area.specs.Given.{Work}
use Rattle.area.specs.GivenLaws.{lent_length, place_at, place-fits}
use Rattle.area.specs.Sizes.{size-perm}
use Rattle.triples.specs.Given.{Numbered}
use Rattle.triples.specs.Laws.{triple_at, triple-kept, row_of, length-row_of}
use Rattle.triples.specs.RowLaws.{Going, inside, going-none, going-work, going-other, going-end-in, going-turn, going_end}
use Rattle.triples.proofs.put_row.Goals as goal
use Rattle.triples.proofs.put_row.Goals.{After-entries-all, After-lent, After-record_len-len, After-slice_known-2-1, At-loop-k}

-- ---- of a call

work : (c : After-record_len-len) → Work (c.args.f) c.args.work.now
work c = c.requires.work.0

long : (c : After-record_len-len) → (c.record_len-len.result) ≡ record_len (c.args.f).n
long c = c.record_len-len.ensures

ends : (c : After-record_len-len) → (c.args.row) + 2 * (c.record_len-len.result) ≡ (c.args.row) + 2 * record_len (c.args.f).n
ends c = ap (λ m. (c.args.row) + 2 * m) (long c)

row_in : (c : After-record_len-len) → (c.args.row) + 2 * record_len (c.args.f).n ≤ length c.args.work.now
row_in c = inside (c.args.f) (c.args.delta.0) c.args.work.now (c.args.j) (c.args.row) (work c) c.requires.work.1 c.requires.row_value

pub overflow_mul-end : goal.overflow_mul-end
overflow_mul-end c = omega (
  arith,
  long (goal.at.overflow_mul-end c).After-record_len-len,
  record-most (c.args.f).n (work (goal.at.overflow_mul-end c).After-record_len-len).ranges.range.eight,
)

pub overflow_add-end : goal.overflow_add-end
overflow_add-end c = omega (
  arith,
  long (goal.at.overflow_add-end c).After-record_len-len,
  row_in (goal.at.overflow_add-end c).After-record_len-len,
  c.well_formed,
)

pub lent-requires : goal.lent-requires
lent-requires c = place-fits (work (goal.at.lent-requires c).After-record_len-len) PERM _ _ (omega arith) c.requires.work.2.perm

perm_is : (c : After-lent) → c.lent.result.now ≡ at (c.args.f) PERM c.args.work.now
perm_is c = c.lent.ensures ∙ place_at (c.args.f) PERM _ _ c.requires.work.2.perm c.args.work.now

pub entries-all-requires : goal.entries-all-requires
entries-all-requires c =
    record {
      ranged = (work (goal.at.entries-all-requires c).After-record_len-len).ranges;
      perm_len = (
        lent_length (work (goal.at.entries-all-requires c).After-record_len-len) PERM (leaky (c.args.f).l * 4) c.lent.result.now
            (omega arith) (size-perm (c.args.f)) (perm_is (goal.at.entries-all-requires c).After-lent),
        c.requires.work.1,
      );
    }

-- the bucket's positions

b-is : (c : After-entries-all) → (c.bucket_size-b.result) ≡ bucket_size (c.args.f).l
b-is c = c.bucket_size-b.ensures

numbers : (c : After-entries-all) → take (c.bucket_size-b.result) c.entries-all.result
    ≡ tab (bucket_size (c.args.f).l) (entry (c.args.f) (at (c.args.f) PERM c.args.work.now) (c.args.j))
numbers c =
    let perm_is-here : c.lent.result.now ≡ at (c.args.f) PERM c.args.work.now = c.lent.ensures
    ∙ place_at (c.args.f) PERM _ _ c.requires.work.2.perm c.args.work.now in
    ap₂ take (b-is c) c.entries-all.ensures
    ∙ take_at (tab (bucket_size (c.args.f).l) (entry (c.args.f) c.lent.result.now (c.args.j))) (replicate (5 - bucket_size (c.args.f).l) 0)
    (bucket_size (c.args.f).l) (length-tab (bucket_size (c.args.f).l) (entry (c.args.f) c.lent.result.now (c.args.j)))
    ∙ ap (λ (p : List ℕ). tab (bucket_size (c.args.f).l) (entry (c.args.f) p (c.args.j))) (perm_is-here)

all-long : (c : After-entries-all) → (c.bucket_size-b.result) ≤ length c.entries-all.result
all-long c =
    omega (
      arith,
      b-is c,
      ap length c.entries-all.ensures,
      length-append (tab (bucket_size (c.args.f).l) (entry (c.args.f) c.lent.result.now (c.args.j))) (replicate (5 - bucket_size
          (c.args.f).l) 0),
      length-tab (bucket_size (c.args.f).l) (entry (c.args.f) c.lent.result.now (c.args.j)),
    )

lent-long : (c : After-entries-all) → (c.bucket_size-b.result) ≡ length (take (c.bucket_size-b.result) c.entries-all.result)
lent-long c = sym (length-take-le (c.bucket_size-b.result) c.entries-all.result (all-long c))

pub loop-k-init : goal.loop-k-init
loop-k-init c = (going-none (c.args.f) (c.args.delta.0) c.args.work.now (c.args.j) (c.args.row) (work
    (goal.at.loop-k-init c).After-record_len-len) c.requires.work.1 c.requires.row_value)

-- ---- in a turn, and behind the last

going : (c : At-loop-k) → Going (c.args.f) (c.args.delta.0) c.args.work.now (c.args.j) (c.args.row) c.loop-k.k (c.loop-k.work)
going c = c.loop-k.invariant

same : (c : At-loop-k) → (t : ℕ) → t ≢ TRIPLES → at (c.args.f) t (c.loop-k.work) ≡ at (c.args.f) t c.args.work.now
same c =
    let work-here : Work (c.args.f) c.args.work.now = c.requires.work.0 in
    going-other (c.args.f) (c.args.delta.0) c.args.work.now (c.args.j) (c.args.row) (work-here) c.requires.work.1 c.requires.row_value
    (going c)

still : (c : At-loop-k) → Work (c.args.f) (c.loop-k.work)
still c =
    let work-here : Work (c.args.f) c.args.work.now = c.requires.work.0 in
    going-work (c.args.f) (c.args.delta.0) c.args.work.now (c.args.j) (c.args.row) (work-here) c.requires.work.1 c.requires.row_value
    (going c)

numbered : (c : At-loop-k) → Numbered (c.args.f) (c.loop-k.work) (c.args.j) (take (c.bucket_size-b.result) c.entries-all.result)
numbered c =
    let b-is-here : (c.bucket_size-b.result) ≡ bucket_size (c.args.f).l = c.bucket_size-b.ensures in
    let numbers-here : take (c.bucket_size-b.result) c.entries-all.result
    ≡ tab (bucket_size (c.args.f).l) (entry (c.args.f) (at (c.args.f) PERM c.args.work.now) (c.args.j)) =
    let perm_is-here : c.lent.result.now ≡ at (c.args.f) PERM c.args.work.now = c.lent.ensures
    ∙ place_at (c.args.f) PERM _ _ c.requires.work.2.perm c.args.work.now in
    ap₂ take (b-is-here) c.entries-all.ensures
    ∙ take_at (tab (bucket_size (c.args.f).l) (entry (c.args.f) c.lent.result.now (c.args.j))) (replicate (5 - bucket_size (c.args.f).l) 0)
    (bucket_size (c.args.f).l) (length-tab (bucket_size (c.args.f).l) (entry (c.args.f) c.lent.result.now (c.args.j)))
    ∙ ap (λ (p : List ℕ). tab (bucket_size (c.args.f).l) (entry (c.args.f) p (c.args.j))) (perm_is-here) in
    numbers-here ∙ ap (λ (p : List ℕ). tab (bucket_size (c.args.f).l) (entry (c.args.f) p (c.args.j))) (sym (same c PERM
    (λ e. omega arith)))

triple : (c : At-loop-k) → triple_at (c.args.f) (c.args.delta.0) (c.loop-k.work) (c.args.j)
    ≡ triple_at (c.args.f) (c.args.delta.0) c.args.work.now (c.args.j)
triple c = triple-kept (c.args.f) (c.args.delta.0) c.args.work.now (c.loop-k.work) (c.args.j) (same c)

end-in : (c : At-loop-k) → (c.args.row) + 2 * (c.record_len-len.result) ≤ length (c.loop-k.work)
end-in c =
    let work-here : Work (c.args.f) c.args.work.now = c.requires.work.0 in
    let long-here : (c.record_len-len.result) ≡ record_len (c.args.f).n = c.record_len-len.ensures in
    let ends-here : (c.args.row) + 2 * (c.record_len-len.result) ≡ (c.args.row) + 2 * record_len (c.args.f).n =
    ap (λ m. (c.args.row) + 2 * m) (long-here) in
    going-end-in (c.args.f) (c.args.delta.0) c.args.work.now (c.args.j) (c.args.row) (work-here) c.requires.work.1 c.requires.row_value
    (going c) ((c.args.row) + 2 * (c.record_len-len.result)) (ends-here)

row-long : (c : At-loop-k) → length (take ((c.args.row) + 2 * (c.record_len-len.result) - (c.args.row)) (drop (c.args.row)
    (c.loop-k.work))) ≡ (c.record_len-len.result) + record_len (c.args.f).n
row-long c =
    let long-here : (c.record_len-len.result) ≡ record_len (c.args.f).n = c.record_len-len.ensures in
    length-get (c.args.row) ((c.args.row) + 2 * (c.record_len-len.result) - (c.args.row)) (c.loop-k.work) (omega (arith, end-in c))
    ∙ omega (arith, long-here)

pub slice_bounds-all-end : goal.slice_bounds-all-end
slice_bounds-all-end c = all-long (goal.at.slice_bounds-all-end c).After-entries-all

pub slice_bounds-row_party-end : goal.slice_bounds-row_party-end
slice_bounds-row_party-end c = lent-long (goal.at.slice_bounds-row_party-end c).After-entries-all

pub row_party-s-requires : goal.row_party-s-requires
row_party-s-requires c =
    record {
      work = (still (goal.at.row_party-s-requires c).At-loop-k, c.requires.work.1, c.requires.work.2, c.loop-k-test.true);
      numbered = numbered (goal.at.row_party-s-requires c).At-loop-k;
    }

pub slice_bounds-put_entries-end : goal.slice_bounds-put_entries-end
slice_bounds-put_entries-end c = end-in (goal.at.slice_bounds-put_entries-end c).At-loop-k

pub put_entries-requires : goal.put_entries-requires
put_entries-requires c =
    let within = entry-within (c.args.f).n c.loop-k.k c.loop-k-test.true in (
      omega (arith, c.loop-k-test.true, (work (goal.at.put_entries-requires c).After-record_len-len).ranges.range.eight),
      omega (arith, within, long (goal.at.put_entries-requires c).After-record_len-len),
      omega (arith, within, row-long (goal.at.put_entries-requires c).At-loop-k),
    )

pub loop-k-preserved : goal.loop-k-preserved
loop-k-preserved c = (going-turn (c.args.f) (c.args.delta.0) c.args.work.now (c.args.j) (c.args.row) (work
    (goal.at.loop-k-preserved c).After-record_len-len) c.requires.work.1 c.requires.row_value (going
    (goal.at.loop-k-preserved c).At-loop-k) ((c.args.row) + 2 * (c.record_len-len.result)) (ends
    (goal.at.loop-k-preserved c).After-record_len-len)
    (c.record_len-len.result) _ _ c.put_entries.new.row (long (goal.at.loop-k-preserved c).After-record_len-len) c.loop-k-test.true
    (c.row_party-s.ensures.x-bytes ∙ ap (λ (v : Triple). entry_of (c.args.f).i v.tx c.loop-k.k) (triple
    (goal.at.loop-k-preserved c).At-loop-k))
    (c.row_party-s.ensures.z-bytes ∙ ap (λ (v : Triple). entry_of (c.args.f).i v.tz c.loop-k.k) (triple
    (goal.at.loop-k-preserved c).At-loop-k))
    c.put_entries.ensures)

pub slice_bounds-all-end-2 : goal.slice_bounds-all-end-2
slice_bounds-all-end-2 c = all-long (goal.at.slice_bounds-all-end-2 c).After-entries-all

pub slice_bounds-row_bits-end : goal.slice_bounds-row_bits-end
slice_bounds-row_bits-end c = lent-long (goal.at.slice_bounds-row_bits-end c).After-entries-all

pub row_bits-heads-requires : goal.row_bits-heads-requires
row_bits-heads-requires c =
    record {
      work = (still (goal.at.row_bits-heads-requires c).At-loop-k, c.requires.work.1, c.requires.work.2);
      numbered = numbered (goal.at.row_bits-heads-requires c).At-loop-k;
    }

pub slice_bounds-put_heads-end : goal.slice_bounds-put_heads-end
slice_bounds-put_heads-end c = end-in (goal.at.slice_bounds-put_heads-end c).At-loop-k

pub put_heads-requires : goal.put_heads-requires
put_heads-requires c = (
  omega (arith, head_in (c.args.f).n, long (goal.at.put_heads-requires c).After-record_len-len),
  omega (
    arith,
    head_in (c.args.f).n,
    row-long (goal.at.put_heads-requires c).At-loop-k,
  ),
)

-- what is left

left : (c : After-slice_known-2-1)
    → put (c.args.row) ((c.args.row) + 2 * (c.record_len-len.result) - (c.args.row)) c.put_heads.new.row (c.loop-k.work)
    ≡ put (c.args.row) (2 * record_len (c.args.f).n) (row_of (c.args.f) (c.args.delta.0) c.args.work.now (c.args.j)) c.args.work.now
left c =
    let work-here : Work (c.args.f) c.args.work.now = c.requires.work.0 in
    let long-here : (c.record_len-len.result) ≡ record_len (c.args.f).n = c.record_len-len.ensures in
    let long-here : (c.record_len-len.result) ≡ record_len (c.args.f).n = c.record_len-len.ensures in
    let ends-here : (c.args.row) + 2 * (c.record_len-len.result) ≡ (c.args.row) + 2 * record_len (c.args.f).n =
    ap (λ m. (c.args.row) + 2 * m) (long-here) in
    let going-here : Going (c.args.f) (c.args.delta.0) c.args.work.now (c.args.j) (c.args.row) c.loop-k.k (c.loop-k.work) =
    c.loop-k.invariant in
    let going-here : Going (c.args.f) (c.args.delta.0) c.args.work.now (c.args.j) (c.args.row) c.loop-k.k (c.loop-k.work) =
    c.loop-k.invariant in
    let same-here : (t : ℕ) → t ≢ TRIPLES → at (c.args.f) t (c.loop-k.work) ≡ at (c.args.f) t c.args.work.now =
    let work-here : Work (c.args.f) c.args.work.now = c.requires.work.0 in
    going-other (c.args.f) (c.args.delta.0) c.args.work.now (c.args.j) (c.args.row) (work-here) c.requires.work.1 c.requires.row_value
    (going-here) in
    let triple-here : triple_at (c.args.f) (c.args.delta.0) (c.loop-k.work) (c.args.j)
    ≡ triple_at (c.args.f) (c.args.delta.0) c.args.work.now (c.args.j) =
    triple-kept (c.args.f) (c.args.delta.0) c.args.work.now (c.loop-k.work) (c.args.j) (same-here) in
    let t = c.row_bits-heads.ensures (c.args.delta.0) in
    going_end (c.args.f) (c.args.delta.0) c.args.work.now (c.args.j) (c.args.row) (work-here) c.requires.work.1 c.requires.row_value
    (going-here) ((c.args.row) + 2 * (c.record_len-len.result)) (ends-here)
    (c.record_len-len.result) _ _ c.put_heads.new.row (long-here)
    (omega (arith, c.loop-k-test.false, c.loop-k.auto.k-end))
    (t.0 ∙ ap (λ (v : Triple). v.tx.bit) (triple-here)) (t.1 ∙ ap (λ (v : Triple). v.tz.bit) (triple-here))
    c.put_heads.ensures

pub shape_of-work : goal.shape_of-work
shape_of-work c =
    ap length (left (goal.at.shape_of-work c).After-slice_known-2-1)
    ∙ length-put (c.args.row) (2 * record_len (c.args.f).n) (row_of (c.args.f) (c.args.delta.0) c.args.work.now (c.args.j)) c.args.work.now
    (length-row_of (c.args.f) (c.args.delta.0) c.args.work.now (c.args.j))
    (row_in (goal.at.shape_of-work c).After-record_len-len)

pub returns : goal.returns
returns c = left (goal.at.returns c).After-slice_known-2-1

pub record_len-len-requires : goal.record_len-len-requires
record_len-len-requires c = c.requires.work.0.ranges.range.eight
