use Rattle.std.specs.Prelude.{◌≡◌, ◌&&◌, ◌-◌, ◌*◌, ◌≤◌, length, leb, eqb}
use Rattle.std.proofs.Common.{le-leb, eq-eqb, ne_eqb, leb-true, eqb-true}
use Rattle.std.proofs.lemmas.Bool.{lt-leb}
use Rattle.lists.specs.Kit.{refl, arith, rules}
use native.Mathlib.Nat.{mul-le-mul_right}
use Rattle.lists.specs.All.{and_first, and_second}
use Rattle.lists.specs.Pick.{pick}
use Rattle.refusals.specs.Reason.{number, code_of, number-some}
use Rattle.share.specs.LentLaws.{lent-most}
use Rattle.rounds.specs.Opening.{or_fault}
use Rattle.rounds.specs.Combine as C
use Rattle.combine.proofs.check.Goals as goal
use Rattle.combine.proofs.check.Goals.{After-lent_len-len}

pub returns-then-not-n-i : goal.returns-then-not-n-i
unfolding C.reason
returns-then-not-n-i c = rw (c.if-not-n-i.true) refl

pub returns-then-count-eq0 : goal.returns-then-count-eq0
unfolding C.reason
returns-then-count-eq0 c = rw (c.if-not-n-i.false, c.if-count-eq0.true) refl

pub returns-then-count-gt5 : goal.returns-then-count-gt5
unfolding C.reason
returns-then-count-gt5 c =
    rw (c.if-not-n-i.false, ne_eqb c.args.count 0 c.if-count-eq0.false, lt-leb c.args.count 5 c.if-count-gt5.true) refl

pub overflow_mul-count-2 : goal.overflow_mul-count-2
overflow_mul-count-2 c =
    omega (
      arith,
      mul-le-mul_right c.lent_len-len.result (let e : 3 * c.args.count ≤ 15 = omega arith in e),
      c.lent_len-len.ensures,
      lent-most c.args.n (leb-true c.args.n 8 (and_second (leb 2 c.args.n) (leb c.args.n 8) (and_first _ _ c.if-not-n-i.false))),
    )

-- behind the tests of n, i and the count
lengths : (c : After-lent_len-len) → C.reason (C.args c.args.n c.args.i c.args.count c.args.triples.now c.args.d.now c.args.out.now)
    ≡ pick (eqb (length c.args.triples.now) (3 * c.args.count * c.lent_len-len.result) && eqb (length c.args.d.now) (c.args.count - 1))
    (pick (eqb (length c.args.out.now) (3 * c.lent_len-len.result))
    (C.bytes_fault (C.args c.args.n c.args.i c.args.count c.args.triples.now c.args.d.now c.args.out.now)) 17) 6
unfolding C.reason
lengths c =
    rw (
      c.if-not-n-i.false,
      ne_eqb c.args.count 0 c.if-count-eq0.false,
      le-leb c.args.count 5 c.if-count-gt5.false,
      c.lent_len-len.ensures,
    ) refl

pub returns-then-not-triples-count : goal.returns-then-not-triples-count
returns-then-not-triples-count c =
    rw (lengths (goal.at.returns-then-not-triples-count c).After-lent_len-len, c.if-not-triples-count.true) refl

pub returns-then-out-len : goal.returns-then-out-len
returns-then-out-len c =
    rw (
      lengths (goal.at.returns-then-out-len c).After-lent_len-len,
      c.if-not-triples-count.false,
      ne_eqb _ _ c.if-out-len.true,
    ) refl

pub returns-in_err-check_records : goal.returns-in_err-check_records
unfolding C.bytes_fault or_fault
returns-in_err-check_records c =
    let r = c.in_err-check_records.field-0.0 in
    rw (
      lengths (goal.at.returns-in_err-check_records c).After-lent_len-len,
      c.if-not-triples-count.false,
      eq-eqb _ _ c.if-out-len.false,
      ← c.check_records.ensures,
      c.in_err-check_records.was,
      ne_eqb (number r) 0 (number-some r),
    )
    (let e : code_of c.from_residual.result ≡ number r = search rules in e)

pub returns : goal.returns
unfolding C.bytes_fault or_fault
returns c =
    rw (
      lengths (goal.at.returns c).After-lent_len-len,
      c.if-not-triples-count.false,
      eq-eqb _ _ c.if-out-len.false,
      ← c.check_records.ensures,
      c.in_ok-check_records.was,
      c.check_bits.ensures,
      eqb-true (length c.args.d.now) (c.args.count - 1) (and_second _ _ c.if-not-triples-count.false),
    ) refl
