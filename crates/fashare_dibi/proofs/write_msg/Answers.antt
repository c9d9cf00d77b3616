use Rattle.lists.specs.Kit.{rules}
use Rattle.rounds.specs.Fashare.{STRINGS, dibi_msg}
use Rattle.fashare_comm.specs.Laws.{counted}
use Rattle.fashare_dibi.proofs.write_msg.Goals as goal

pub returns : goal.returns
unfolding dibi_msg
returns c =
    counted STRINGS 16 _ c.args.out.now c.put_count.new.out c.write_rows.new.out c.requires.out_len c.put_count.ensures
    (c.write_rows.ensures _ (λ q l row left e h. search rules))
