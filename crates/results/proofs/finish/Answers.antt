use Rattle.std.specs.Prelude.{◌≡◌, ◌++◌, ◌&&◌, ◌+◌, ◌-◌, ◌<◌, ◌≤◌}
use Rattle.lists.specs.Kit.{sym, ap, ap₂, ◌∙◌, List, Bool, not, ℕ, arith, length, take, drop, rules}
use mathlib.Core.Bool.{beq}
use lib.ListN.{length-append, length-drop}
use lib.Seq.{length-take-le, drop-drop, drop_at}
use borrow.Rule.Slice.PartMut.{put_mid}
use Rattle.lists.specs.Over.{over-full}
use Rattle.lists.specs.Sect.{length-get}
use Rattle.share.specs.Layout.{record_len, mac_off, record-some, bit-alone}
use Rattle.share.specs.Share.{Share, share_at}
use Rattle.share.specs.Lent.{LABEL, lent_head, lent_of}
use Rattle.share.specs.LentLaws.{lent_longer, head-within, lent-headed}
use Rattle.rounds.specs.Beaver as R
use Rattle.results.specs.FinishLaws.{finish-bit}
use Rattle.results.proofs.finish.Goals as goal
use Rattle.results.proofs.finish.Goals.{After-put_entries}

-- where the record lies without its label

tail : (d : List ℕ) (x : List ℕ) (long : 1 + LABEL ≤ length d) → put_mid LABEL (length d - LABEL) d x ≡ take LABEL d ++ x
tail d x long = ap (λ (l : List ℕ). take LABEL d ++ l) (over-full x (drop LABEL d) (length d - LABEL) (omega (arith, length-drop LABEL d)))

front : (d : List ℕ) (x : List ℕ) (long : 1 + LABEL ≤ length d) → length (take LABEL d) ≡ LABEL
front d x long = length-take-le LABEL d (omega arith)

tail-long : (d : List ℕ) (x : List ℕ) (long : 1 + LABEL ≤ length d) → length x ≡ length d - LABEL → length (put_mid LABEL (length d - LABEL) d x) ≡ length d
tail-long d x long h = ap length (tail d x long) ∙ length-append (take LABEL d) x ∙ omega (arith, front d x long)

tail-behind : (d : List ℕ) (x : List ℕ) (long : 1 + LABEL ≤ length d) → drop (1 + LABEL) (put_mid LABEL (length d - LABEL) d x) ≡ drop (mac_off 0) x
tail-behind d x long =
    ap (drop (1 + LABEL)) (tail d x long)
    ∙ sym (drop-drop 1 LABEL (take LABEL d ++ x)) ∙ ap (drop 1) (drop_at (take LABEL d) x LABEL (front d x long))
    ∙ ap (λ m. drop m x) (sym bit-alone)

part-long : (d : List ℕ) (x : List ℕ) (long : 1 + LABEL ≤ length d) → length (take (length d - LABEL) (drop LABEL d)) ≡ length d - LABEL
part-long d x long = length-get LABEL (length d - LABEL) d (omega arith)

kept-part : (d : List ℕ) (m : ℕ) → length d ≡ m + LABEL → length (take (length d - LABEL) (drop LABEL d)) ≡ m
kept-part d m h = length-get LABEL (length d - LABEL) d (omega arith) ∙ (let e : length d - LABEL ≡ m = omega arith in e)

pub put_entries-requires : goal.put_entries-requires
put_entries-requires c =
    record { n_bound = (c.requires.n_bound.0, kept-part c.args.out.now (record_len c.args.f.n) (c.requires.n_bound.1 ∙ lent_longer c.args.f.n), c.requires.n_bound.2); n_in_bounds = (c.requires.n_in_bounds.0, c.requires.n_in_bounds.1) }

pub slice_bounds-put_entries-count : goal.slice_bounds-put_entries-count
slice_bounds-put_entries-count c = omega (arith, c.requires.n_bound.1, head-within c.args.f.n)

pub slice_bounds-put_entries-start : goal.slice_bounds-put_entries-start
slice_bounds-put_entries-start c = omega (arith, c.requires.n_bound.1, head-within c.args.f.n)

pub slice_bounds-put_entries-end : goal.slice_bounds-put_entries-end
slice_bounds-put_entries-end c = search rules

-- ---- behind the entries

long : (c : After-put_entries) → 1 + LABEL ≤ length c.args.out.now
long c = omega (arith, c.requires.n_bound.1, head-within c.args.f.n)

bit_in : (c : After-put_entries) → (p : ℕ) → p + record_len c.args.f.n ≤ length c.args.work.now → p < length c.args.work.now
bit_in c p h = omega (arith, record-some c.args.f.n)

same : (c : After-put_entries) → length (put_mid LABEL (length c.args.out.now - LABEL) c.args.out.now (c.put_entries.new.out)) ≡ length c.args.out.now
same c = tail-long c.args.out.now (c.put_entries.new.out) (long c) (c.put_entries.auto.out ∙ part-long c.args.out.now (c.put_entries.new.out) (long c))

pub bit_at-requires : goal.bit_at-requires
bit_at-requires c = bit_in (goal.at.bit_at-requires c).After-put_entries _ c.requires.n_in_bounds.0

pub bit_at-requires-2 : goal.bit_at-requires-2
bit_at-requires-2 c = bit_in (goal.at.bit_at-requires-2 c).After-put_entries _ c.requires.n_in_bounds.1

pub bit_at-requires-3 : goal.bit_at-requires-3
bit_at-requires-3 c = bit_in (goal.at.bit_at-requires-3 c).After-put_entries _ c.requires.n_bound.2

pub put_lent_head-requires : goal.put_lent_head-requires
put_lent_head-requires c =
    (rw (same (goal.at.put_lent_head-requires c).After-put_entries) (long (goal.at.put_lent_head-requires c).After-put_entries), c.requires.n_bound.0, c.requires.n_bound.3)

pub shape_of-out : goal.shape_of-out
shape_of-out c =
    ap length c.put_lent_head.ensures ∙ lent-headed _ _ _ (put_mid LABEL (length c.args.out.now - LABEL) c.args.out.now (c.put_entries.new.out)) (rw (same (goal.at.shape_of-out c).After-put_entries) (long (goal.at.shape_of-out c).After-put_entries)) ∙ same (goal.at.shape_of-out c).After-put_entries

pub returns : goal.returns
unfolding lent_of share_at
returns c =
    let m = c.args.work.now in
    let X : Share = R.finish (share_at m c.args.r.c) (share_at m c.args.r.beta) (share_at m c.args.r.a) c.args.d c.args.e in
    c.put_lent_head.ensures
    ∙ ap₂ (λ (b : Bool) (l : List ℕ). lent_head c.args.f.n c.args.f.i b ++ l)
    (ap₂ (λ (b v : Bool). not (beq b (v && c.args.e)))
    (ap₂ (λ (b v : Bool). not (beq b (v && c.args.d))) c.bit_at.ensures c.bit_at-2.ensures) c.bit_at-3.ensures
    ∙ finish-bit (share_at m c.args.r.c) (share_at m c.args.r.beta) (share_at m c.args.r.a) c.args.d c.args.e)
    (tail-behind c.args.out.now (c.put_entries.new.out) (long (goal.at.returns c).After-put_entries) ∙ c.put_entries.ensures)
