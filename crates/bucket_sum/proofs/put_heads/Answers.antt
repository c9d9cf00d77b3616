use Rattle.bucket_sum.specs.Row.{heads-left}
use Rattle.bucket_sum.proofs.put_heads.Goals as goal

pub returns : goal.returns
returns c =
    heads-left c.args.z c.args.b.x c.args.b.z c.args.row.now c.put_head.new.out c.put_head-2.new.out c.put_head.ensures
    c.put_head-2.ensures
