use Rattle.std.specs.Prelude.{◌+◌}
use Rattle.lists.specs.Kit.{refl}
use Rattle.fashare_ver.specs.Laws.{dm-put}
use Rattle.fashare_ver.proofs.put_dm.Goals as goal

pub returns : goal.returns
returns c =
    dm-put c.args.f c.args.recs.now c.args.q c.dm_len-len.result (8 + c.dm_len-len.result) c.args.out.now c.put_count.new.out
    c.write_dm.new.out
    c.requires.out_len c.dm_len-len.ensures refl c.put_count.ensures c.write_dm.ensures
