-- `plan::round_name` meets its contract.
use Rattle.lists.specs.Kit.{sym, ap, ◌∙◌, [], get_or}
use borrow.Author.Tests.{le-leb, lt-leb}
use Rattle.lists.specs.Pick.{pick}
use Rattle.plan.specs.Names.{padded, names, round_name}
use Rattle.plan.proofs.round_name.Goals as goal

pub returns-then-k-le-FAAND : goal.returns-then-k-le-FAAND
unfolding round_name
returns-then-k-le-FAAND c =
    c.name_at.ensures ∙ sym (ap (λ b. pick b (get_or names c.args.k []) (padded "")) (le-leb c.args.k 22 c.if-k-le-FAAND.true))

pub returns-else-k-le-FAAND : goal.returns-else-k-le-FAAND
unfolding round_name names
returns-else-k-le-FAAND c =
    c.name_at-else-k-le-FAAND.ensures ∙ sym (ap (λ b. pick b (get_or names c.args.k []) (padded "")) (lt-leb c.args.k 22 c.if-k-le-FAAND.false))
