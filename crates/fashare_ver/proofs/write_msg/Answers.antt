use Rattle.std.specs.Prelude.{◌+◌}
use Rattle.lists.specs.Kit.{rules}
use Rattle.plan.specs.Plan.{dm_len}
use Rattle.rounds.specs.Fashare.{STRINGS, ver_msg}
use Rattle.fashare_comm.specs.Laws.{counted}
use Rattle.fashare_ver.proofs.write_msg.Goals as goal

pub returns : goal.returns
unfolding ver_msg
returns c =
    counted STRINGS (8 + dm_len c.args.f.n) _ c.args.out.now c.put_count.new.out c.write_rows.new.out c.requires.out_len c.put_count.ensures
    (c.write_rows.ensures _ (λ q l row left e h. search rules))
