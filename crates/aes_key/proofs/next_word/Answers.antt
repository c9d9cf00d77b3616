use Rattle.aes_key.specs.WordsLaws.{next_multiple, next-other}
use Rattle.aes_key.proofs.next_word.Goals as goal

pub returns-then-i-eq0 : goal.returns-then-i-eq0
returns-then-i-eq0 c =
    next_multiple c.args.w.now c.args.i c.sub_rot.result c.round_constant.result c.if-i-eq0.true c.sub_rot.ensures
    c.round_constant.ensures

pub returns-else-i-eq0 : goal.returns-else-i-eq0
returns-else-i-eq0 c =
    next-other c.args.w.now c.args.i c.if-i-eq0.false
