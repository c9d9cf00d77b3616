use Rattle.std.specs.Prelude.{◌≡◌, ◌++◌, ◌+◌, ◌-◌, ◌*◌, ◌≤◌}
use Rattle.lists.specs.Kit.{sym, ap, ◌∙◌, List, ℕ, arith, length, take, drop}
use native.Mathlib.Nat.{mul-le-mul}
use lib.ListN.{length-append, length-drop, take-append-drop}
use lib.Seq.{length-take-le}
use Rattle.lists.specs.Sect.{put, get-rest}
use Rattle.share.specs.Layout.{record_len, record-some}
use Rattle.share.specs.Share.{record_of}
use Rattle.share.specs.ShareLaws.{length-record_of}
use Rattle.share.specs.Lent.{LABEL, LENT_MOST, lent_len, lent_head, lent_of, lent_at}
use Rattle.share.specs.LentLaws.{lent_longer, lent-most, head-within, length-lent_of}
use Rattle.rounds.specs.Combine.{triple}
use Rattle.combine.specs.Out.{part_left, head-over-kept}
use Rattle.combine.proofs.put_y.Goals as goal
use Rattle.combine.proofs.put_y.Goals.{After-keep_record, After-lent_len, After-put_lent_head}

-- of a call

inside : (c : After-lent_len) → ((3 * c.args.t + 1) * c.lent_len.result) + lent_len c.args.n ≤ length c.args.triples.now
inside c = omega (arith, c.requires.n_in_bounds, ap (λ m. (3 * c.args.t + 1) * m) c.lent_len.ensures)

room : (c : After-lent_len) → LABEL ≤ length c.args.out.now
room c = omega (arith, c.requires.n_bound.2, head-within c.args.n)

pub overflow_mul-at-2 : goal.overflow_mul-at-2
overflow_mul-at-2 c =
    let m : 3 * c.args.t + 1 ≤ 13 = omega (arith, c.requires) in
    let l : c.lent_len.result ≤ LENT_MOST = omega (arith, c.lent_len.ensures, lent-most c.args.n c.requires.n_bound.0) in
    omega (arith, mul-le-mul m l)

pub keep_record-requires : goal.keep_record-requires
keep_record-requires c =
    record {
      n_bound = (
        c.requires.n_bound.0,
        ap length (get-rest LABEL c.args.out.now) ∙ length-drop LABEL c.args.out.now
            ∙ (let e : length c.args.out.now - LABEL ≡ record_len c.args.n = omega (arith, c.requires.n_bound.2, lent_longer c.args.n) in
            e),
      );
      n_in_bounds = inside (goal.at.keep_record-requires c).After-lent_len;
    }

pub bit_at-requires : goal.bit_at-requires
bit_at-requires c =
    omega (arith, inside (goal.at.bit_at-requires c).After-lent_len, head-within c.args.n)

-- the record without a label stands in its place

kept : (c : After-keep_record) → put LABEL (length c.args.out.now - LABEL) c.keep_record.new.out c.args.out.now
    ≡ take LABEL c.args.out.now ++ record_of c.args.n c.args.i (lent_at c.args.triples.now ((3 * c.args.t + 1) * c.lent_len.result))
kept c =
    let room-here : LABEL ≤ length c.args.out.now = omega (arith, c.requires.n_bound.2, head-within c.args.n) in
    part_left (take LABEL c.args.out.now) (drop LABEL c.args.out.now) c.keep_record.new.out c.args.out.now LABEL (sym
    (take-append-drop LABEL c.args.out.now))
    (length-take-le LABEL c.args.out.now (room-here))
    ∙ ap (λ (d : List ℕ). take LABEL c.args.out.now ++ d) c.keep_record.ensures

-- with place for the head
headed : (c : After-keep_record) → 1 + LABEL ≤ length (put LABEL (length c.args.out.now - LABEL) c.keep_record.new.out c.args.out.now)
headed c =
    let room-here : LABEL ≤ length c.args.out.now = omega (arith, c.requires.n_bound.2, head-within c.args.n) in
    let x = lent_at c.args.triples.now ((3 * c.args.t + 1) * c.lent_len.result) in
    omega (
      arith,
      ap length (kept c),
      length-append (take LABEL c.args.out.now) (record_of c.args.n c.args.i x),
      length-take-le LABEL c.args.out.now (room-here),
      length-record_of c.args.n c.args.i x,
      record-some c.args.n,
    )

pub put_lent_head-requires : goal.put_lent_head-requires
put_lent_head-requires c =
    (headed (goal.at.put_lent_head-requires c).After-keep_record, c.requires.n_bound.0, c.requires.n_bound.3)

-- what is left

left : (c : After-put_lent_head) → c.put_lent_head.new.out ≡ lent_of c.args.n c.args.i (triple c.args.n c.args.triples.now c.args.t).ty
unfolding triple lent_at
left c =
    let room-here : LABEL ≤ length c.args.out.now = omega (arith, c.requires.n_bound.2, head-within c.args.n) in
    let kept-here : put LABEL (length c.args.out.now - LABEL) c.keep_record.new.out c.args.out.now
    ≡ take LABEL c.args.out.now ++ record_of c.args.n c.args.i (lent_at c.args.triples.now ((3 * c.args.t + 1) * c.lent_len.result)) =
    let room-here : LABEL ≤ length c.args.out.now = omega (arith, c.requires.n_bound.2, head-within c.args.n) in
    part_left (take LABEL c.args.out.now) (drop LABEL c.args.out.now) c.keep_record.new.out c.args.out.now LABEL (sym
    (take-append-drop LABEL c.args.out.now))
    (length-take-le LABEL c.args.out.now (room-here))
    ∙ ap (λ (d : List ℕ). take LABEL c.args.out.now ++ d) c.keep_record.ensures in
    c.put_lent_head.ensures
    ∙ ap (λ (d : List ℕ). lent_head c.args.n c.args.i c.bit_at.result ++ drop (1 + LABEL) d) (kept-here)
    ∙ head-over-kept c.args.n c.args.i (lent_at c.args.triples.now ((3 * c.args.t + 1) * c.lent_len.result)) c.bit_at.result
    (take LABEL c.args.out.now)
    (length-take-le LABEL c.args.out.now (room-here)) c.bit_at.ensures
    ∙ ap (λ m. lent_of c.args.n c.args.i (lent_at c.args.triples.now ((3 * c.args.t + 1) * m))) c.lent_len.ensures

pub shape_of-out : goal.shape_of-out
shape_of-out c =
    ap length (left (goal.at.shape_of-out c).After-put_lent_head) ∙ length-lent_of c.args.n c.args.i _ ∙ sym c.requires.n_bound.2

pub returns : goal.returns
returns c = left (goal.at.returns c).After-put_lent_head

pub slice_bounds-keep_record-count : goal.slice_bounds-keep_record-count
slice_bounds-keep_record-count c = room (goal.at.slice_bounds-keep_record-count c).After-lent_len

pub slice_bounds-keep_record-start : goal.slice_bounds-keep_record-start
slice_bounds-keep_record-start c = room (goal.at.slice_bounds-keep_record-start c).After-lent_len
