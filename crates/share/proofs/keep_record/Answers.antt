use Rattle.std.specs.Prelude.{◌≡◌, ◌++◌, ◌+◌, ◌≤◌}
use Rattle.lists.specs.Kit.{refl, ap, ap₂, ◌∙◌, Bool, arith, length, rules}
use Rattle.lists.specs.Over.{cat}
use Rattle.share.specs.Layout.{ENTRY, head_of, record_len, entry-within, record-within, record-some}
use Rattle.share.specs.Share.{entry_bytes, entry_of, record_of}
use Rattle.share.specs.Lent.{LABEL, lent_at}
use Rattle.share.specs.LentLaws.{lent_longer}
use Rattle.share.specs.ShareLaws.{length-entry_of}
use Rattle.share.specs.Entered.{entered-none, entered-turn, entered-head, entered-long, headed}
use Rattle.share.proofs.keep_record.Goals as goal
use Rattle.share.proofs.keep_record.Goals.{After-mac_off-a, After-put_entry_of-arg-1}

pub overflow_add-entries : goal.overflow_add-entries
overflow_add-entries c = omega (arith, c.requires.n_in_bounds, lent_longer c.args.n, c.well_formed)

pub loop-k-init : goal.loop-k-init
loop-k-init c =
    entered-none _ c.args.n c.args.out.now (length-entry_of c.args.i (lent_at c.args.s.now c.args.at)) c.requires.n_bound.1

-- entry k lies in what is written
within : (c : After-mac_off-a) → c.mac_off-a.result + ENTRY ≤ length c.loop-k.out
within c =
    omega (arith, c.mac_off-a.ensures, entry-within c.args.n c.loop-k.k c.loop-k-test.true, c.loop-k.invariant.same)

pub overflow_add-e : goal.overflow_add-e
overflow_add-e c = omega (arith, within (goal.at.overflow_add-e c).After-mac_off-a)

pub slice_bounds-put_entry_of-end : goal.slice_bounds-put_entry_of-end
slice_bounds-put_entry_of-end c = within (goal.at.slice_bounds-put_entry_of-end c).After-mac_off-a

-- and in what is read

read-in : (c : After-put_entry_of-arg-1) → c.args.at + LABEL + record_len (c.loop-k.k + 1)
    ≤ length c.args.s.now
read-in c =
    omega (arith, record-within c.args.n c.loop-k.k c.loop-k-test.true, c.requires.n_in_bounds, lent_longer c.args.n)

pub entry_at-requires : goal.entry_at-requires
entry_at-requires c = (search rules, read-in (goal.at.entry_at-requires c).After-put_entry_of-arg-1)

pub loop-k-preserved : goal.loop-k-preserved
unfolding entry_of lent_at
loop-k-preserved c =
    let i = c.args.i in
    let w : _ ≡ entry_bytes i c.loop-k.k _ _ =
    c.put_entry_of.ensures ∙ ap₂ (entry_bytes i c.loop-k.k) c.entry_at.ensures.0 c.entry_at.ensures.1 in
    entered-turn c.loop-k.invariant c.mac_off-a.result (c.mac_off-a.result + ENTRY) c.mac_off-a.ensures refl c.put_entry_of.new.out
    c.loop-k-test.true w

pub bit_at-requires : goal.bit_at-requires
bit_at-requires c = omega (arith, record-some c.args.n, c.requires.n_in_bounds, lent_longer c.args.n)

pub put_head-requires : goal.put_head-requires
put_head-requires c = entered-long c.loop-k.invariant

pub shape_of-out : goal.shape_of-out
shape_of-out c =
    ap length c.put_head.ensures ∙ headed c.bit_at.result c.loop-k.out (entered-long c.loop-k.invariant)
    ∙ c.loop-k.invariant.same

pub returns : goal.returns
unfolding record_of lent_at
returns c =
    c.put_head.ensures ∙ entered-head c.loop-k.invariant (head_of c.bit_at.result) (omega (arith, c.loop-k-test.false))
    ∙ ap (λ (x : Bool). head_of x ++ cat c.args.n (entry_of c.args.i (lent_at c.args.s.now c.args.at))) c.bit_at.ensures
