use Rattle.lists.specs.Kit.{ap, ◌∙◌, List, ℕ, get_or}
use Rattle.interface.specs.InterfaceLaws.{name-is, name-none}
use Rattle.interface.proofs.name_byte.Goals as goal

pub returns-then-k-lt16 : goal.returns-then-k-lt16
returns-then-k-lt16 c =
    ap (λ (x : List ℕ). get_or x c.args.k 0) c.round_name-name.ensures ∙ name-is c.args.round c.args.k c.if-k-lt16.true

pub returns-else-k-lt16 : goal.returns-else-k-lt16
returns-else-k-lt16 c = name-none c.args.round c.args.k c.if-k-lt16.false
