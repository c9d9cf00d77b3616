use Rattle.std.specs.Prelude.{◌≡◌, ◌+◌, ◌-◌, ◌≤◌}
use Rattle.lists.specs.Kit.{refl, ap₂, ◌∙◌, [], arith, length, rules}
use Rattle.share.specs.Layout.{ENTRY, entry-within, record-within}
use Rattle.share.specs.Share.{entry_bytes, entry_of}
use Rattle.share.specs.ShareLaws.{length-entry_of}
use Rattle.share.specs.Entered.{entered-none, entered-turn, entered-head}
use Rattle.results.proofs.put_entries.Goals as goal
use Rattle.results.proofs.put_entries.Invariants.{X}
use Rattle.results.proofs.put_entries.Goals.{After-mac_off-from}

pub loop-k-init : goal.loop-k-init
loop-k-init c =
    (entered-none _ c.args.n c.args.out.now (length-entry_of c.args.i (X c.args.work.now c.args.r c.args.d c.args.e)) c.requires.n_bound.1)

-- entry k lies in what is written
within : (c : After-mac_off-from) → c.mac_off-from.result + ENTRY ≤ length c.loop-k.out
within c =
    omega (
      arith,
      c.mac_off-from.ensures,
      entry-within c.args.n c.loop-k.k c.loop-k-test.true,
      c.loop-k.invariant.same,
      c.requires.n_bound.1,
    )

pub overflow_add-to : goal.overflow_add-to
overflow_add-to c = omega (arith, within (goal.at.overflow_add-to c).After-mac_off-from)

pub slice_bounds-put_entry_of-end : goal.slice_bounds-put_entry_of-end
slice_bounds-put_entry_of-end c = within (goal.at.slice_bounds-put_entry_of-end c).After-mac_off-from

-- and in what is read
pub finished-requires : goal.finished-requires
finished-requires c =
    let w = record-within c.args.n c.loop-k.k c.loop-k-test.true in
    record { k_bound = (omega arith, omega (arith, w, c.requires.n_bound.2)); k_in_bounds = (omega (arith, w, c.requires.n_in_bounds.0), omega (arith, w, c.requires.n_in_bounds.1)) }

pub loop-k-preserved : goal.loop-k-preserved
unfolding entry_of
loop-k-preserved c =
    let w : _ ≡ entry_bytes c.args.i c.loop-k.k _ _ =
    c.put_entry_of.ensures ∙ ap₂ (entry_bytes c.args.i c.loop-k.k) c.finished.ensures.0 c.finished.ensures.1 in (entered-turn c.loop-k.invariant c.mac_off-from.result (c.mac_off-from.result + ENTRY) c.mac_off-from.ensures refl c.put_entry_of.new.out
    c.loop-k-test.true w)

pub shape_of-out : goal.shape_of-out
shape_of-out c = c.loop-k.invariant.same

pub returns : goal.returns
returns c =
    entered-head c.loop-k.invariant [] (omega (arith, c.loop-k-test.false, c.loop-k.auto.k-end))
