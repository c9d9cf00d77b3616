use Rattle.std.specs.Prelude.{◌≡◌, ◌≤◌}
use Rattle.lists.specs.Kit.{sym, ap, ◌∙◌, arith, length}
use lib.ListN.{length-append}
use lib.Seq.{length-take-le, take_at}
use Rattle.blake3.specs.Tree as T
use Rattle.fashare_comm.specs.Laws.{DM_MOST, dm-most}
use Rattle.fashare_comm.proofs.dm_digest.Goals as goal
use Rattle.fashare_comm.proofs.dm_digest.Goals.{After-dm_len-len, After-write_dm}

-- no dm is longer than the buffer
fits : (c : After-dm_len-len) → c.dm_len-len.result ≤ DM_MOST
fits c =
    omega (arith, c.dm_len-len.ensures, dm-most c.args.f.n c.requires.1.range.eight)

pub slice_bounds-dm-end : goal.slice_bounds-dm-end
slice_bounds-dm-end c = fits (goal.at.slice_bounds-dm-end c).After-dm_len-len

pub slice_bounds-write_dm-end : goal.slice_bounds-write_dm-end
slice_bounds-write_dm-end c = sym (length-take-le _ _ (fits (goal.at.slice_bounds-write_dm-end c).After-dm_len-len))

pub write_dm-requires : goal.write_dm-requires
write_dm-requires c = record { out_len = length-take-le _ _ (fits (goal.at.write_dm-requires c).After-dm_len-len) ∙ c.dm_len-len.ensures; q_bound = c.requires }

-- as long as it was lent
long : (c : After-write_dm) → length c.write_dm.new.out ≡ c.dm_len-len.result
long c =
    let fits-here : c.dm_len-len.result ≤ DM_MOST = omega (arith, c.dm_len-len.ensures, dm-most c.args.f.n c.requires.1.range.eight) in
    c.write_dm.auto.out ∙ length-take-le _ _ (fits-here)

pub slice_bounds-dm-end-2 : goal.slice_bounds-dm-end-2
slice_bounds-dm-end-2 c = rw length-append (omega (arith, long (goal.at.slice_bounds-dm-end-2 c).After-write_dm))

pub slice_bounds-digest_of-end : goal.slice_bounds-digest_of-end
slice_bounds-digest_of-end c =
    sym (length-take-le c.dm_len-len.result _ (rw length-append (omega (arith, long (goal.at.slice_bounds-digest_of-end c).After-write_dm))))

pub returns : goal.returns
returns c = c.digest_of.ensures ∙ ap T.digest (take_at _ _ _ (long (goal.at.returns c).After-write_dm) ∙ c.write_dm.ensures)
