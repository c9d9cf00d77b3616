-- `area::section_len` meets its contract: an arm for each section.
use Rattle.std.specs.Prelude.{◌+◌, ◌-◌, ◌*◌, ◌≤◌}
use Rattle.lists.specs.Kit.{refl, arith}
use native.Mathlib.Nat.{le_antisymm}
use Rattle.share.specs.Layout.{RECORD_MOST, record_len}
use Rattle.plan.specs.Plan.{bucket_size, leaky, dm_len}
use Rattle.plan.specs.PlanLaws.{leaky-most, bucket-low, bucket-high}
use Rattle.rounds.specs.Area.{leaky_len, sizes, size_of}
use Rattle.area.specs.AreaLaws.{by-party, by-leaky, by_result, by_bit, record-at-most, dm-at-most, above}
use Rattle.area.proofs.section_len.Goals as goal

pub overflow_mul-result-in-3 : goal.overflow_mul-result-in-3
overflow_mul-result-in-3 c =
    rw c.leaky-leaky.ensures (omega (arith, by-party c.args.f c.requires.in_range (leaky c.args.f.l) (leaky-most c.args.f.l c.requires.in_range.most)))

pub overflow_mul-result-in-4 : goal.overflow_mul-result-in-4
overflow_mul-result-in-4 c =
    rw (c.bits_count.ensures, c.record_len-record.ensures)
    (omega (arith, by_bit c.args.f c.requires.in_range (record_len c.args.f.n) (record-at-most c.args.f c.requires.in_range)))

pub overflow_mul-result-in-5 : goal.overflow_mul-result-in-5
overflow_mul-result-in-5 c =
    rw c.record_len-record.ensures (omega (arith, by_result c.args.f c.requires.in_range (record_len c.args.f.n) (record-at-most c.args.f c.requires.in_range)))

pub overflow_mul-result-in-6 : goal.overflow_mul-result-in-6
overflow_mul-result-in-6 c =
    rw c.record_len-record.ensures (omega (arith, by_result c.args.f c.requires.in_range (record_len c.args.f.n) (record-at-most c.args.f c.requires.in_range)))

pub overflow_mul-result-in-13 : goal.overflow_mul-result-in-13
overflow_mul-result-in-13 c =
    rw c.dm_len.ensures (omega (arith, dm-at-most c.args.f c.requires.in_range))

pub overflow_mul-result-in-13-2 : goal.overflow_mul-result-in-13-2
overflow_mul-result-in-13-2 c =
    let h : 40 * dm_len c.args.f.n ≤ 4520 = omega (arith, dm-at-most c.args.f c.requires.in_range) in
    rw c.dm_len.ensures (omega (arith, by-party c.args.f c.requires.in_range (40 * dm_len c.args.f.n) h))

pub overflow_mul-result-in-14-2 : goal.overflow_mul-result-in-14-2
overflow_mul-result-in-14-2 c =
    let h : 32 + c.args.f.n * 18 ≤ 176 = omega (arith, c.requires.in_range.eight) in
    rw c.leaky-leaky.ensures (omega (arith, by-leaky c.args.f c.requires.in_range (32 + c.args.f.n * 18) h))

pub overflow_mul-result-in-15 : goal.overflow_mul-result-in-15
overflow_mul-result-in-15 c =
    rw c.leaky-leaky.ensures (omega (arith, leaky-most c.args.f.l c.requires.in_range.most))

pub overflow_mul-result-in-16 : goal.overflow_mul-result-in-16
overflow_mul-result-in-16 c =
    rw c.leaky-leaky.ensures (omega (arith, by-party c.args.f c.requires.in_range (leaky c.args.f.l) (leaky-most c.args.f.l c.requires.in_range.most)))

pub overflow_mul-result-in-17 : goal.overflow_mul-result-in-17
overflow_mul-result-in-17 c =
    rw c.leaky-leaky.ensures (omega (arith, leaky-most c.args.f.l c.requires.in_range.most))

pub overflow_mul-result-in-18 : goal.overflow_mul-result-in-18
overflow_mul-result-in-18 c =
    rw c.leaky-leaky.ensures (omega (arith, leaky-most c.args.f.l c.requires.in_range.most))

pub overflow_mul-result-in-18-2 : goal.overflow_mul-result-in-18-2
overflow_mul-result-in-18-2 c =
    let h : leaky c.args.f.l * 32 ≤ 48000000 = omega (arith, leaky-most c.args.f.l c.requires.in_range.most) in
    rw c.leaky-leaky.ensures (omega (arith, by-party c.args.f c.requires.in_range (leaky c.args.f.l * 32) h))

pub overflow_mul-result-in-19 : goal.overflow_mul-result-in-19
overflow_mul-result-in-19 c =
    rw c.leaky-leaky.ensures (omega (arith, leaky-most c.args.f.l c.requires.in_range.most))

pub overflow_sub-result : goal.overflow_sub-result
overflow_sub-result c = rw c.bucket_size.ensures (omega (arith, bucket-low c.args.f.l))

pub overflow_mul-result-in-20 : goal.overflow_mul-result-in-20
overflow_mul-result-in-20 c =
    let h : bucket_size c.args.f.l - 1 ≤ 4 = omega (arith, bucket-high c.args.f.l) in
    rw c.bucket_size.ensures (omega (arith, by_result c.args.f c.requires.in_range (bucket_size c.args.f.l - 1) h))

pub overflow_mul-result-in-21 : goal.overflow_mul-result-in-21
overflow_mul-result-in-21 c =
    omega (arith, c.record_len-record.ensures, record-at-most c.args.f c.requires.in_range)

pub overflow_mul-result-in-21-2 : goal.overflow_mul-result-in-21-2
overflow_mul-result-in-21-2 c =
    let h : 2 * record_len c.args.f.n ≤ 2 * RECORD_MOST = omega (arith, record-at-most c.args.f c.requires.in_range) in
    rw c.record_len-record.ensures (omega (arith, by_result c.args.f c.requires.in_range (2 * record_len c.args.f.n) h))

pub returns-in-0 : goal.returns-in-0
unfolding size_of sizes
returns-in-0 c = rw c.in-0.is refl

pub returns-in-1 : goal.returns-in-1
unfolding size_of sizes
returns-in-1 c = rw c.in-1.is refl

pub returns-in-2 : goal.returns-in-2
unfolding size_of sizes
returns-in-2 c = rw c.in-2.is refl

pub returns-in-3 : goal.returns-in-3
unfolding size_of sizes
returns-in-3 c = rw (c.leaky-leaky.ensures, c.in-3.is) refl

pub returns-in-4 : goal.returns-in-4
unfolding size_of sizes
returns-in-4 c = rw (c.bits_count.ensures, c.record_len-record.ensures, c.in-4.is) refl

pub returns-in-5 : goal.returns-in-5
unfolding size_of sizes
returns-in-5 c = rw (c.record_len-record.ensures, c.in-5.is) refl

pub returns-in-6 : goal.returns-in-6
unfolding size_of sizes
returns-in-6 c = rw (c.record_len-record.ensures, c.in-6.is) refl

pub returns-in-7 : goal.returns-in-7
unfolding size_of sizes
returns-in-7 c = rw c.in-7.is refl

pub returns-in-8 : goal.returns-in-8
unfolding size_of sizes
returns-in-8 c = rw c.in-8.is refl

pub returns-in-9 : goal.returns-in-9
unfolding size_of sizes
returns-in-9 c = rw c.in-9.is refl

pub returns-in-10 : goal.returns-in-10
unfolding size_of sizes
returns-in-10 c = rw c.in-10.is refl

pub returns-in-11 : goal.returns-in-11
unfolding size_of sizes
returns-in-11 c = rw c.in-11.is refl

pub returns-in-12 : goal.returns-in-12
unfolding size_of sizes
returns-in-12 c = rw c.in-12.is refl

pub returns-in-13 : goal.returns-in-13
unfolding size_of sizes
returns-in-13 c = rw (c.dm_len.ensures, c.in-13.is) refl

pub returns-in-14 : goal.returns-in-14
unfolding size_of sizes leaky_len
returns-in-14 c = rw (c.leaky-leaky.ensures, c.in-14.is) refl

pub returns-in-15 : goal.returns-in-15
unfolding size_of sizes
returns-in-15 c = rw (c.leaky-leaky.ensures, c.in-15.is) refl

pub returns-in-16 : goal.returns-in-16
unfolding size_of sizes
returns-in-16 c = rw (c.leaky-leaky.ensures, c.in-16.is) refl

pub returns-in-17 : goal.returns-in-17
unfolding size_of sizes
returns-in-17 c = rw (c.leaky-leaky.ensures, c.in-17.is) refl

pub returns-in-18 : goal.returns-in-18
unfolding size_of sizes
returns-in-18 c = rw (c.leaky-leaky.ensures, c.in-18.is) refl

pub returns-in-19 : goal.returns-in-19
unfolding size_of sizes
returns-in-19 c = rw (c.leaky-leaky.ensures, c.in-19.is) refl

pub returns-in-20 : goal.returns-in-20
unfolding size_of sizes
returns-in-20 c = rw (c.bucket_size.ensures, c.in-20.is) refl

pub returns-in-21 : goal.returns-in-21
unfolding size_of sizes
returns-in-21 c = rw (c.record_len-record.ensures, c.in-21.is) refl

pub returns-in-22 : goal.returns-in-22
unfolding size_of sizes
returns-in-22 c = rw c.in-22.is refl

pub returns-in-23 : goal.returns-in-23
unfolding size_of sizes
returns-in-23 c = rw c.in-23.is refl

pub returns-in_default : goal.returns-in_default
unfolding size_of sizes
returns-in_default c =
    let r24 = c.in_default.in_default-own.rest in
    let r23 = r24.0 in let r22 = r23.0 in let r21 = r22.0 in let r20 = r21.0 in let r19 = r20.0 in
    let r18 = r19.0 in let r17 = r18.0 in let r16 = r17.0 in let r15 = r16.0 in let r14 = r15.0 in let r13 = r14.0 in
    let r12 = r13.0 in let r11 = r12.0 in let r10 = r11.0 in let r9 = r10.0 in let r8 = r9.0 in let r7 = r8.0 in
    let r6 = r7.0 in let r5 = r6.0 in let r4 = r5.0 in let r3 = r4.0 in let r2 = r3.0 in let r1 = r2.0 in
    let h0 : 0 ≤ c.args.s = omega arith in
    let h1 = above c.args.s 0 h0 r1.1 in let h2 = above c.args.s 1 h1 r2.1 in let h3 = above c.args.s 2 h2 r3.1 in let h4 = above c.args.s 3 h3 r4.1 in
    let h5 = above c.args.s 4 h4 r5.1 in let h6 = above c.args.s 5 h5 r6.1 in let h7 = above c.args.s 6 h6 r7.1 in let h8 = above c.args.s 7 h7 r8.1 in
    let h9 =
    above c.args.s 8 h8 r9.1 in let h10 = above c.args.s 9 h9 r10.1 in let h11 = above c.args.s 10 h10 r11.1 in let h12 = above c.args.s 11 h11 r12.1 in
    let h13 = above c.args.s 12 h12 r13.1 in let h14 = above c.args.s 13 h13 r14.1 in let h15 = above c.args.s 14 h14 r15.1 in let h16 = above c.args.s 15 h15 r16.1 in
    let h17 = above c.args.s 16 h16 r17.1 in let h18 = above c.args.s 17 h17 r18.1 in let h19 = above c.args.s 18 h18 r19.1 in let h20 = above c.args.s 19 h19 r20.1 in
    let h21 = above c.args.s 20 h20 r21.1 in let h22 = above c.args.s 21 h21 r22.1 in let h23 = above c.args.s 22 h22 r23.1 in let h24 = above c.args.s 23 h23 r24.1 in
    let most : c.args.s ≤ 24 = c.requires.s_bound in
    rw (le_antisymm most h24) refl
