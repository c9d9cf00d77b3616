use Rattle.lists.specs.Kit.{sym, ap, arith}
use borrow.Author.Tests.{eq-eqb, ne_eqb}
use Rattle.lists.specs.Pick.{pick}
use Rattle.broadcast.proofs.party_byte.Goals as goal

pub overflow_cast-result : goal.overflow_cast-result
overflow_cast-result c = omega (arith, c.requires c.if-code-eq0.false)

pub returns-then-code-eq0 : goal.returns-then-code-eq0
returns-then-code-eq0 c = sym (ap (λ b. pick b 0 c.args.party) (eq-eqb c.args.code 0 c.if-code-eq0.true))

pub returns-else-code-eq0 : goal.returns-else-code-eq0
returns-else-code-eq0 c = sym (ap (λ b. pick b 0 c.args.party) (ne_eqb c.args.code 0 c.if-code-eq0.false))
