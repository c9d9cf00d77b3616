use Rattle.std.specs.Prelude.{◌≡◌, ◌++◌, ◌+◌, ◌-◌, ◌*◌, ◌≤◌}
use Rattle.lists.specs.Kit.{refl, sym, ap, subst, ◌∙◌, List, ℕ}
use Rattle.lists.specs.Kit.{arith, length, get_or, take, drop}
use lib.ListN.{length-append, length-drop}
use lib.Seq.{length-take-le}
use Rattle.lists.specs.Over.{length-take-drop}
use Rattle.lists.specs.Sect.{put, get-rest}
use Rattle.algebra.specs.Group.{bits, odd}
use Rattle.algebra.specs.Bucket.{bucket_x, bucket_z}
use Rattle.share.specs.Layout.{entry-within}
use Rattle.share.specs.Record.{record_len, bit_at}
use Rattle.share.specs.Share.{share_at}
use Rattle.share.specs.ShareLaws.{bit-bucket-x, bit-bucket-z}
use Rattle.share.specs.Lent.{LABEL, lent_len, lent_of, lent_at}
use Rattle.share.specs.LentLaws.{lent_longer, lent-most, head-within, lent-headed, length-lent_of}
use Rattle.rounds.specs.Combine.{triple}
use Rattle.bucket_sum.specs.Sums.{x_among, Within, BucketIn, x-bits, z-bits}
use Rattle.combine.specs.Triples.{x_places, x_lent, z_lent, triples-in, y-inside, sum-records, bits_in}
use Rattle.combine.specs.Out.{lined-none, lined-row, lined-long, lined-part, lined-turn, lined-end}
use Rattle.combine.proofs.combine_all.Goals as goal
use Rattle.combine.proofs.combine_all.Invariants.{ts, X, Z, Y}
use Rattle.combine.proofs.combine_all.Goals.{After-lent_len-len, After-put_lent_head, After-put_lent_head-2, At-loop-k}

-- ---- of a call

long : (c : After-lent_len-len) → (c.lent_len-len.result) ≡ lent_len c.args.n
long c = c.lent_len-len.ensures

twice : (c : After-lent_len-len) → 2 * (c.lent_len-len.result) ≡ 2 * lent_len c.args.n
twice c = ap (λ m. 2 * m) (long c)

y-long : (c : After-lent_len-len) → length (Y c.args.n c.args.i c.args.triples.now) ≡ lent_len c.args.n
y-long c = length-lent_of c.args.n c.args.i (triple c.args.n c.args.triples.now 0).ty

here : (c : After-lent_len-len) → BucketIn c.args.n (lent_len c.args.n) (drop LABEL c.args.triples.now) (ts c.args.d.now) 2 c.args.d.now
here c =
    triples-in c.args.n (length c.args.d.now) c.requires.n_bound.2 c.args.triples.now c.args.d.now c.requires.n_bound.0 refl
    c.requires.triples_len

-- each y lies within
y-there : (c : After-lent_len-len) → (t : ℕ) → t ≤ length c.args.d.now
    → (3 * t + 1) * lent_len c.args.n + lent_len c.args.n ≤ length c.args.triples.now
y-there c t h = y-inside c.args.n (length c.args.d.now) c.requires.n_bound.2 c.args.triples.now t h c.requires.triples_len

pub overflow_mul-z : goal.overflow_mul-z
overflow_mul-z c = omega (arith, long (goal.at.overflow_mul-z c).After-lent_len-len, lent-most c.args.n c.requires.n_bound.0)

pub slice_bounds-put_y-end : goal.slice_bounds-put_y-end
slice_bounds-put_y-end c = omega (arith, long (goal.at.slice_bounds-put_y-end c).After-lent_len-len, c.requires.n_bound.1)

pub put_y-requires : goal.put_y-requires
put_y-requires c =
    record {
      n_bound = (
        c.requires.n_bound.0,
        omega (arith, c.requires.n_bound.2),
        length-take-drop (c.lent_len-len.result) (2 * (c.lent_len-len.result)) c.args.out.now ∙ omega (
          arith,
          long (goal.at.put_y-requires c).After-lent_len-len,
          c.requires.n_bound.1,
        ),
        c.requires.n_bound.3,
      );
      n_in_bounds = omega (
        arith,
        y-there (goal.at.put_y-requires c).After-lent_len-len 0 (omega arith),
        y-there (goal.at.put_y-requires c).After-lent_len-len (length c.args.d.now) (omega arith),
      );
    }

pub loop-k-init : goal.loop-k-init
loop-k-init c =
    let len : ℕ = c.lent_len-len.result in
    let long-here : len ≡ lent_len c.args.n = c.lent_len-len.ensures in
    let rest : List ℕ = drop (2 * len - len) (drop len c.args.out.now) in
    lined-none c.args.n c.args.i (X c.args.n c.args.triples.now c.args.d.now) (Z c.args.n c.args.triples.now c.args.d.now)
    (Y c.args.n c.args.i c.args.triples.now) (y-long (goal.at.loop-k-init c).After-lent_len-len) (take len c.args.out.now) rest _
    (length-take-le len c.args.out.now (omega (arith, long-here, c.requires.n_bound.1)) ∙ long-here)
    (length-drop (2 * len - len) (drop len c.args.out.now)
    ∙ omega (arith, length-drop len c.args.out.now, long-here, c.requires.n_bound.1))
    (ap (λ (v : List ℕ). take len c.args.out.now ++ (v ++ rest)) c.put_y.ensures)

-- ---- in a turn, and behind the last

out-long : (c : At-loop-k) → length (c.loop-k.out) ≡ 3 * lent_len c.args.n
out-long c =
    let long-here : (c.lent_len-len.result) ≡ lent_len c.args.n = c.lent_len-len.ensures in
    let twice-here : 2 * (c.lent_len-len.result) ≡ 2 * lent_len c.args.n = ap (λ m. 2 * m) (long-here) in
    let y-long-here : length (Y c.args.n c.args.i c.args.triples.now) ≡ lent_len c.args.n =
    length-lent_of c.args.n c.args.i (triple c.args.n c.args.triples.now 0).ty in
    lined-long c.args.n c.args.i (X c.args.n c.args.triples.now c.args.d.now) (Z c.args.n c.args.triples.now c.args.d.now)
    (Y c.args.n c.args.i c.args.triples.now) (y-long-here) c.loop-k.invariant (2 * (c.lent_len-len.result)) (twice-here)

row-long : (c : At-loop-k) → length (take (length (c.loop-k.out) - LABEL) (drop LABEL (c.loop-k.out)))
    ≡ 2 * (c.lent_len-len.result) + record_len c.args.n
row-long c =
    let long-here : (c.lent_len-len.result) ≡ lent_len c.args.n = c.lent_len-len.ensures in
    let twice-here : 2 * (c.lent_len-len.result) ≡ 2 * lent_len c.args.n = ap (λ m. 2 * m) (long-here) in
    let y-long-here : length (Y c.args.n c.args.i c.args.triples.now) ≡ lent_len c.args.n =
    length-lent_of c.args.n c.args.i (triple c.args.n c.args.triples.now 0).ty in
    ap length (lined-part c.args.n c.args.i (X c.args.n c.args.triples.now c.args.d.now) (Z c.args.n c.args.triples.now c.args.d.now)
    (Y c.args.n c.args.i c.args.triples.now) (y-long-here) c.loop-k.invariant (2 * (c.lent_len-len.result)) (twice-here))
    ∙ lined-row c.args.n c.args.i (X c.args.n c.args.triples.now c.args.d.now) (Z c.args.n c.args.triples.now c.args.d.now)
    (Y c.args.n c.args.i c.args.triples.now) (y-long-here) c.loop-k.invariant (2 * (c.lent_len-len.result)) (twice-here)

-- a head has its place in it
room : (c : At-loop-k) → 1 + LABEL ≤ length (c.loop-k.out)
room c = omega (arith, out-long c, head-within c.args.n)

ts-long : (c : At-loop-k) → length c.args.d.now + 1 ≡ length (ts c.args.d.now)
ts-long c = sym (length-take-le (length c.args.d.now + 1) x_places (omega (arith, c.requires.n_bound.2)))

pub slice_bounds-party-end : goal.slice_bounds-party-end
slice_bounds-party-end c = ts-long (goal.at.slice_bounds-party-end c).At-loop-k

pub party-s-requires : goal.party-s-requires
party-s-requires c = (here (goal.at.party-s-requires c).After-lent_len-len, c.loop-k-test.true)

pub slice_bounds-put_entries-count : goal.slice_bounds-put_entries-count
slice_bounds-put_entries-count c = omega (arith, room (goal.at.slice_bounds-put_entries-count c).At-loop-k)

pub slice_bounds-put_entries-start : goal.slice_bounds-put_entries-start
slice_bounds-put_entries-start c = omega (arith, room (goal.at.slice_bounds-put_entries-start c).At-loop-k)

pub put_entries-requires : goal.put_entries-requires
put_entries-requires c =
    let within = entry-within c.args.n c.loop-k.k c.loop-k-test.true in (
      omega (arith, c.loop-k-test.true, c.requires.n_bound.0),
      omega (arith, within, long (goal.at.put_entries-requires c).After-lent_len-len, lent_longer c.args.n),
      omega (arith, within, row-long (goal.at.put_entries-requires c).At-loop-k),
    )

pub loop-k-preserved : goal.loop-k-preserved
loop-k-preserved c =
    lined-turn c.args.n c.args.i (X c.args.n c.args.triples.now c.args.d.now) (Z c.args.n c.args.triples.now c.args.d.now)
    (Y c.args.n c.args.i c.args.triples.now) (y-long (goal.at.loop-k-preserved c).After-lent_len-len) c.loop-k.invariant
    (2 * c.lent_len-len.result) (twice (goal.at.loop-k-preserved c).After-lent_len-len) c.loop-k-test.true _ _
    c.put_entries.new.row c.party-s.ensures.x-bytes c.party-s.ensures.z-bytes c.put_entries.ensures

pub slice_bounds-sum_bits-end : goal.slice_bounds-sum_bits-end
slice_bounds-sum_bits-end c = ts-long (goal.at.slice_bounds-sum_bits-end c).At-loop-k

pub sum_bits-b-requires : goal.sum_bits-b-requires
sum_bits-b-requires c =
    let some : 1 ≤ (c.lent_len-len.result) = omega (
      arith,
      long (goal.at.sum_bits-b-requires c).After-lent_len-len,
      head-within c.args.n,
    ) in record {
      ts_len = sym (ts-long (goal.at.sum_bits-b-requires c).At-loop-k);
      within = (
        subst (λ m. Within c.args.triples.now (ts c.args.d.now) 0 m 1) (sym (long (goal.at.sum_bits-b-requires c).After-lent_len-len))
            (bits_in c.args.triples.now (ts c.args.d.now) 0 (lent_len c.args.n) (x-bits (here
            (goal.at.sum_bits-b-requires c).After-lent_len-len))),
        subst (λ m. Within c.args.triples.now (ts c.args.d.now) 2 m 1) (sym (long (goal.at.sum_bits-b-requires c).After-lent_len-len))
            (bits_in c.args.triples.now (ts c.args.d.now) 2 (lent_len c.args.n) (z-bits (here
            (goal.at.sum_bits-b-requires c).After-lent_len-len))),
        some,
        some,
      );
    }

pub put_lent_head-requires : goal.put_lent_head-requires
put_lent_head-requires c =
    (room (goal.at.put_lent_head-requires c).At-loop-k, c.requires.n_bound.0, c.requires.n_bound.3)

-- x has its head

-- there is place for z's
headed : (c : After-put_lent_head) → length c.put_lent_head.new.out ≡ 3 * lent_len (c.args.n)
headed c =
    let out-long-here : length (c.loop-k.out) ≡ 3 * lent_len c.args.n = let long-here : (c.lent_len-len.result) ≡ lent_len c.args.n =
    c.lent_len-len.ensures in
    let twice-here : 2 * (c.lent_len-len.result) ≡ 2 * lent_len c.args.n = ap (λ m. 2 * m) (long-here) in
    let y-long-here : length (Y c.args.n c.args.i c.args.triples.now) ≡ lent_len c.args.n =
    length-lent_of c.args.n c.args.i (triple c.args.n c.args.triples.now 0).ty in
    lined-long c.args.n c.args.i (X c.args.n c.args.triples.now c.args.d.now) (Z c.args.n c.args.triples.now c.args.d.now)
    (Y c.args.n c.args.i c.args.triples.now) (y-long-here) c.loop-k.invariant (2 * (c.lent_len-len.result)) (twice-here) in
    let out-long-here : length (c.loop-k.out) ≡ 3 * lent_len c.args.n = let long-here : (c.lent_len-len.result) ≡ lent_len c.args.n =
    c.lent_len-len.ensures in
    let twice-here : 2 * (c.lent_len-len.result) ≡ 2 * lent_len c.args.n = ap (λ m. 2 * m) (long-here) in
    let y-long-here : length (Y c.args.n c.args.i c.args.triples.now) ≡ lent_len c.args.n =
    length-lent_of c.args.n c.args.i (triple c.args.n c.args.triples.now 0).ty in
    lined-long c.args.n c.args.i (X c.args.n c.args.triples.now c.args.d.now) (Z c.args.n c.args.triples.now c.args.d.now)
    (Y c.args.n c.args.i c.args.triples.now) (y-long-here) c.loop-k.invariant (2 * (c.lent_len-len.result)) (twice-here) in
    let room-here : 1 + LABEL ≤ length (c.loop-k.out) = omega (arith, out-long-here, head-within c.args.n) in
    ap length c.put_lent_head.ensures ∙ lent-headed (c.args.n) c.args.i c.sum_bits-b.result.x (c.loop-k.out) (room-here) ∙ out-long-here

z_in_lem : (c : After-put_lent_head) → 2 * (c.lent_len-len.result) + (1 + LABEL) ≤ length c.put_lent_head.new.out
z_in_lem c =
    let long-here : (c.lent_len-len.result) ≡ lent_len c.args.n = c.lent_len-len.ensures in
    omega (arith, headed c, long-here, head-within (c.args.n))

bit-x : (c : After-put_lent_head) → c.sum_bits-b.result.x ≡ (X (c.args.n) c.args.triples.now c.args.d.now).bit
unfolding x_among share_at x_lent lent_at
bit-x c =
    let long-here : (c.lent_len-len.result) ≡ lent_len c.args.n = c.lent_len-len.ensures in
    c.sum_bits-b.ensures.0
    ∙ ap (λ m. bucket_x bits (λ e. bit_at c.args.triples.now (get_or (ts c.args.d.now) e 0 * m)) (length c.args.d.now)) (long-here)
    ∙ sym (bit-bucket-x (x_lent (c.args.n) c.args.triples.now (ts c.args.d.now)) (length c.args.d.now))

bit-z : (c : After-put_lent_head) → c.sum_bits-b.result.z ≡ (Z (c.args.n) c.args.triples.now c.args.d.now).bit
unfolding x_among share_at x_lent z_lent lent_at bit_at
bit-z c =
    let long-here : (c.lent_len-len.result) ≡ lent_len c.args.n = c.lent_len-len.ensures in
    c.sum_bits-b.ensures.1
    ∙ ap (λ m. bucket_z bits (λ e. bit_at c.args.triples.now (get_or (ts c.args.d.now) e 0 * m)) (λ e. bit_at c.args.triples.now ((get_or
    (ts c.args.d.now) e 0 + 2) * m))
    (λ e. odd (get_or c.args.d.now e 0)) (length c.args.d.now)) (long-here)
    ∙ sym (bit-bucket-z (x_lent (c.args.n) c.args.triples.now (ts c.args.d.now)) (length c.args.d.now) (z_lent
    (c.args.n) c.args.triples.now (ts c.args.d.now)) (λ e. odd (get_or c.args.d.now e 0)))

pub slice_bounds-put_lent_head-count : goal.slice_bounds-put_lent_head-count
slice_bounds-put_lent_head-count c = omega (arith, z_in_lem (goal.at.slice_bounds-put_lent_head-count c).After-put_lent_head)

pub slice_bounds-put_lent_head-start : goal.slice_bounds-put_lent_head-start
slice_bounds-put_lent_head-start c = omega (arith, z_in_lem (goal.at.slice_bounds-put_lent_head-start c).After-put_lent_head)

pub put_lent_head-requires-2 : goal.put_lent_head-requires-2
put_lent_head-requires-2 c =
    let one : List ℕ = c.put_lent_head.new.out in
    let at : ℕ = 2 * (c.lent_len-len.result) in (
      omega (arith, z_in_lem (goal.at.put_lent_head-requires-2 c).After-put_lent_head, ap length (get-rest at one), length-drop at one),
      c.requires.n_bound.0,
      c.requires.n_bound.3,
    )

-- what is left

left : (c : After-put_lent_head-2)
    → put (2 * (c.lent_len-len.result)) (length c.put_lent_head.new.out - (2 *
    (c.lent_len-len.result))) c.put_lent_head-2.new.out c.put_lent_head.new.out
    ≡ lent_of (c.args.n) (c.args.i) (X c.args.n c.args.triples.now c.args.d.now) ++ ((Y c.args.n c.args.i c.args.triples.now) ++ lent_of
    (c.args.n) (c.args.i) (Z c.args.n c.args.triples.now c.args.d.now))
unfolding x_among share_at x_lent lent_at z_lent bit_at
left c =
    let long-here : (c.lent_len-len.result) ≡ lent_len c.args.n = c.lent_len-len.ensures in
    let twice-here : 2 * (c.lent_len-len.result) ≡ 2 * lent_len c.args.n = ap (λ m. 2 * m) (long-here) in
    let y-long-here : length (Y c.args.n c.args.i c.args.triples.now) ≡ lent_len c.args.n =
    length-lent_of c.args.n c.args.i (triple c.args.n c.args.triples.now 0).ty in
    let bit-x-here : c.sum_bits-b.result.x ≡ (X (c.args.n) c.args.triples.now c.args.d.now).bit = let long-here : (c.lent_len-len.result)
    ≡ lent_len c.args.n = c.lent_len-len.ensures in
    c.sum_bits-b.ensures.0
    ∙ ap (λ m. bucket_x bits (λ e. bit_at c.args.triples.now (get_or (ts c.args.d.now) e 0 * m)) (length c.args.d.now)) (long-here)
    ∙ sym (bit-bucket-x (x_lent (c.args.n) c.args.triples.now (ts c.args.d.now)) (length c.args.d.now)) in
    let bit-z-here : c.sum_bits-b.result.z ≡ (Z (c.args.n) c.args.triples.now c.args.d.now).bit = let long-here : (c.lent_len-len.result)
    ≡ lent_len c.args.n = c.lent_len-len.ensures in
    c.sum_bits-b.ensures.1
    ∙ ap (λ m. bucket_z bits (λ e. bit_at c.args.triples.now (get_or (ts c.args.d.now) e 0 * m)) (λ e. bit_at c.args.triples.now ((get_or
    (ts c.args.d.now) e 0 + 2) * m))
    (λ e. odd (get_or c.args.d.now e 0)) (length c.args.d.now)) (long-here)
    ∙ sym (bit-bucket-z (x_lent (c.args.n) c.args.triples.now (ts c.args.d.now)) (length c.args.d.now) (z_lent
    (c.args.n) c.args.triples.now (ts c.args.d.now)) (λ e. odd (get_or c.args.d.now e 0))) in
    lined-end (c.args.n) (c.args.i) (X c.args.n c.args.triples.now c.args.d.now) (Z c.args.n c.args.triples.now c.args.d.now)
    (Y c.args.n c.args.i c.args.triples.now) (y-long-here) c.loop-k.invariant (2 * (c.lent_len-len.result)) (twice-here)
    (omega arith) c.sum_bits-b.result.x c.sum_bits-b.result.z
    (bit-x-here) (bit-z-here) c.put_lent_head.new.out c.put_lent_head-2.new.out c.put_lent_head.ensures c.put_lent_head-2.ensures

pub shape_of-out : goal.shape_of-out
shape_of-out c =
    let N : ℕ = (c.args.n) in
    let x : List ℕ = lent_of N (c.args.i) (X c.args.n c.args.triples.now c.args.d.now) in
    let y : List ℕ = (Y c.args.n c.args.i c.args.triples.now) in
    let z : List ℕ = lent_of N (c.args.i) (Z c.args.n c.args.triples.now c.args.d.now) in
    ap length (left (goal.at.shape_of-out c).After-put_lent_head-2) ∙ length-append x (y ++ z)
    ∙ omega (
      arith,
      length-append y z,
      length-lent_of N (c.args.i) (X c.args.n c.args.triples.now c.args.d.now),
      y-long (goal.at.shape_of-out c).After-lent_len-len,
      length-lent_of N (c.args.i) (Z c.args.n c.args.triples.now c.args.d.now),
      c.requires.n_bound.1,
    )

pub returns : goal.returns
returns c =
    left (goal.at.returns c).After-put_lent_head-2
    ∙ sum-records (c.args.n) (length c.args.d.now) c.requires.n_bound.2 c.args.triples.now (λ e. odd (get_or c.args.d.now e 0)) (c.args.i)
