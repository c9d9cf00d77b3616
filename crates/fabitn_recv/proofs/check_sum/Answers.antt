use Rattle.std.specs.Prelude.{◌≡◌, ◌≤◌}
use Rattle.lists.specs.Kit.{sym, ap, ap₂, ◌∙◌, Bool, List, ℕ, arith, length}
use Rattle.lists.specs.Pick.{pick}
use Rattle.lists.specs.Over.{in-chunks}
use Rattle.algebra.specs.Group.{sel}
use Rattle.block.specs.Block.{eq_block}
use Rattle.block.specs.Group.{blocks}
use Rattle.rounds.specs.Mail.{letter}
use Rattle.rounds.specs.MailLaws.{letter-fits, letter-long}
use Rattle.rounds.specs.Fabitn as Fabitn
use Rattle.fabitn_recv.proofs.check_sum.Goals as goal
use Rattle.fabitn_recv.proofs.check_sum.Goals.{After-equals, After-letter-m}

pub letter-m-requires : goal.letter-m-requires
letter-m-requires c = letter-fits c.requires.arrived c.args.k c.requires.j_bound.1 (λ e. c.requires.j_bound.2 (sym e))

long : (c : After-letter-m) → Fabitn.MSG ≤ length c.letter-m.result.now
long c = rw c.letter-m.ensures (letter-long c.requires.arrived c.args.k c.requires.j_bound.1 (λ e. c.requires.j_bound.2 (sym e)))

pub bit-bit-requires : goal.bit-bit-requires
bit-bit-requires c =
    let m = long (goal.at.bit-bit-requires c).After-letter-m in
    omega (arith, in-chunks c.args.j Fabitn.STRINGS 17 c.requires.j_bound.0)

pub load-requires-2 : goal.load-requires-2
load-requires-2 c =
    let m = long (goal.at.load-requires-2 c).After-letter-m in
    omega (arith, in-chunks c.args.j Fabitn.STRINGS 17 c.requires.j_bound.0)

-- what the test says, in the definition's words
said : (c : After-equals) → pick c.equals.result 0 8 ≡ Fabitn.abit_fault c.args.delta.0 c.args.sums.now (letter c.args.incoming.now c.args.mail) c.args.j c.args.k
unfolding Fabitn.abit_fault
said c =
    ap (λ t. pick t 0 8)
    (c.equals.ensures
    ∙ ap₂ eq_block c.load-2.ensures
    (c.xor_delta-due.ensures ∙ ap₂ blocks.op c.load.ensures
    (c.times.ensures ∙ ap (λ t. sel blocks t c.args.delta.0) c.bit-bit.ensures)))
    ∙ ap (λ (m : List ℕ). Fabitn.abit_fault c.args.delta.0 c.args.sums.now (λ _. m) c.args.j c.args.k) c.letter-m.ensures

pub returns-then-equals : goal.returns-then-equals
returns-then-equals c = ap (λ (t : Bool). pick {A = ℕ} t 0 8) (sym c.if-equals.true) ∙ said (goal.at.returns-then-equals c).After-equals

pub returns-else-equals : goal.returns-else-equals
returns-else-equals c = ap (λ (t : Bool). pick {A = ℕ} t 0 8) (sym c.if-equals.false) ∙ said (goal.at.returns-else-equals c).After-equals
