use Rattle.std.specs.Prelude.{◌≡◌, ◌+◌, ◌-◌, ◌*◌, ◌<◌, ◌≤◌}
use Rattle.lists.specs.Kit.{sym, ap, ◌∙◌, arith, length, rules}
use Rattle.lists.specs.All.{all_of, all-zero, all_more}
use Rattle.share.specs.Layout.{record_len, record-within}
use Rattle.rounds.specs.Buckets.{later}
use Rattle.buckets.specs.Entries.{first-in, later-in, later-most, y-within}
use Rattle.dvalue.specs.Dvalues.{bucket-in}
use Rattle.dvalue_recv.specs.Checks.{d_holds, bucket_holds, d_holds_lem}
use Rattle.dvalue_recv.proofs.bucket_holds.Goals as goal
use Rattle.dvalue_recv.proofs.bucket_holds.Goals.{After-bucket_at-bits, After-y_at-next, In-loop-e}

-- the bucket lies within

inside : (c : After-bucket_at-bits) → c.bucket_at-bits.result + (16 + (c.later-due.result) * 17) ≤ length c.args.m.now
inside c =
    omega (
      arith,
      bucket-in c.args.f c.args.m.now c.requires.j_lt_l.2 c.args.j
          c.requires.j_lt_l.0,
      c.bucket_at-bits.ensures,
      c.later-due.ensures,
    )

pub overflow_add-bits : goal.overflow_add-bits
overflow_add-bits c = omega (arith, inside (goal.at.overflow_add-bits c).After-bucket_at-bits, c.well_formed)

pub overflow_add-macs : goal.overflow_add-macs
overflow_add-macs c = omega (arith, inside (goal.at.overflow_add-macs c).After-bucket_at-bits, c.well_formed)

pub overflow_add-macs-2 : goal.overflow_add-macs-2
overflow_add-macs-2 c = omega (arith, inside (goal.at.overflow_add-macs-2 c).After-bucket_at-bits, c.well_formed)

pub y_at-first-requires : goal.y_at-first-requires
y_at-first-requires c = record {
  ranged = c.requires.ranged;
  perm_len = (
    c.requires.permuted.numbers,
    c.requires.j_lt_l.0,
    first-in
        c.args.f,
  );
}

pub loop-e-init : goal.loop-e-init
loop-e-init c = (sym (all-zero _))

-- a turn

next : (c : In-loop-e) → c.loop-e.e < later c.args.f
next c = omega (arith, c.loop-e-test.true, c.later-due.ensures)

inside-0 : (c : In-loop-e) → c.y_at-first.result + record_len c.args.f.n ≤ length c.args.recs.now
inside-0 c = y-within c.requires.ranged c.requires.permuted c.args.j 0 c.y_at-first.result c.y_at-first.ensures

bit_in : (c : In-loop-e) → c.bucket_at-bits.result + 8 + c.loop-e.e < length c.args.m.now
bit_in c =
    let inside-here : c.bucket_at-bits.result + (16 + (c.later-due.result) * 17) ≤ length c.args.m.now = omega (
      arith,
      bucket-in c.args.f c.args.m.now c.requires.j_lt_l.2 c.args.j
          c.requires.j_lt_l.0,
      c.bucket_at-bits.ensures,
      c.later-due.ensures,
    ) in
    omega (arith, inside-here, c.loop-e-test.true)

mac_in_lem : (c : In-loop-e) → c.bucket_at-bits.result + 8 + (c.later-due.result) + 8 + c.loop-e.e * 16 + 16 ≤ length c.args.m.now
mac_in_lem c =
    let inside-here : c.bucket_at-bits.result + (16 + (c.later-due.result) * 17) ≤ length c.args.m.now = omega (
      arith,
      bucket-in c.args.f c.args.m.now c.requires.j_lt_l.2 c.args.j
          c.requires.j_lt_l.0,
      c.bucket_at-bits.ensures,
      c.later-due.ensures,
    ) in
    omega (arith, inside-here, c.loop-e-test.true)

pub overflow_add-e : goal.overflow_add-e
overflow_add-e c = omega (arith, next (goal.at.overflow_add-e c).In-loop-e, later-most c.args.f)

pub y_at-next-requires : goal.y_at-next-requires
y_at-next-requires c =
    record {
      ranged = c.requires.ranged;
      perm_len = (
        c.requires.permuted.numbers,
        c.requires.j_lt_l.0,
        later-in c.args.f c.loop-e.e
            (next (goal.at.y_at-next-requires c).In-loop-e),
      );
    }

pub overflow_add-bits-in-loop-e : goal.overflow_add-bits-in-loop-e
overflow_add-bits-in-loop-e c = omega (arith, bit_in (goal.at.overflow_add-bits-in-loop-e c).In-loop-e, c.well_formed)

pub overflow_mul-e : goal.overflow_mul-e
overflow_mul-e c = omega (arith, mac_in_lem (goal.at.overflow_mul-e c).In-loop-e, c.well_formed)

pub overflow_add-macs-in-loop-e : goal.overflow_add-macs-in-loop-e
overflow_add-macs-in-loop-e c = omega (arith, mac_in_lem (goal.at.overflow_add-macs-in-loop-e c).In-loop-e, c.well_formed)

inside-1 : (c : After-y_at-next) → c.y_at-next.result + record_len c.args.f.n ≤ length c.args.recs.now
inside-1 c =
    y-within c.requires.ranged c.requires.permuted c.args.j (c.loop-e.e + 1) c.y_at-next.result c.y_at-next.ensures

pub mac_holds-ok-requires : goal.mac_holds-ok-requires
mac_holds-ok-requires c =
    record {
      bit_at_in_bounds = (bit_in (goal.at.mac_holds-ok-requires c).In-loop-e, mac_in_lem (goal.at.mac_holds-ok-requires c).In-loop-e);
      k_bound = (
        omega (arith, c.requires.j_lt_l, c.requires.ranged.range.eight),
        omega (arith, inside-0 (goal.at.mac_holds-ok-requires c).In-loop-e, record-within c.args.f.n c.args.k c.requires.j_lt_l.1),
        omega (arith, inside-1 (goal.at.mac_holds-ok-requires c).After-y_at-next, record-within c.args.f.n c.args.k c.requires.j_lt_l.1),
      );
    }

pub loop-e-preserved : goal.loop-e-preserved
loop-e-preserved c = (all_more (d_holds c.args.f c.args.delta.0 c.args.recs.now c.args.perm.now c.args.m.now c.args.k c.args.j) c.loop-e.e
    c.loop-e.ok _ c.loop-e.invariant
    (d_holds_lem c.args.f c.args.delta.0 c.args.recs.now c.args.perm.now c.args.m.now c.args.k c.args.j c.loop-e.e c.y_at-first.result
    c.y_at-next.result
    (c.bucket_at-bits.result + 8 + c.loop-e.e) (c.bucket_at-bits.result + 8 + (c.later-due.result) + 8 + c.loop-e.e * 16) _
    c.y_at-first.ensures
    c.y_at-next.ensures
    (omega (arith, c.bucket_at-bits.ensures)) (omega (arith, c.bucket_at-bits.ensures, c.later-due.ensures)) c.mac_holds-ok.ensures))

pub returns : goal.returns
unfolding bucket_holds
returns c =
    c.loop-e.invariant ∙ ap (λ e. all_of e (d_holds c.args.f c.args.delta.0 c.args.recs.now c.args.perm.now c.args.m.now c.args.k c.args.j))
    (let e : c.loop-e.e ≡ later c.args.f = omega (arith, c.later-due.ensures) in e)
