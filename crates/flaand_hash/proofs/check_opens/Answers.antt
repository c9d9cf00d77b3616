use Rattle.std.specs.Prelude.{◌≡◌}
use Rattle.lists.specs.Kit.{sym, ap, ◌∙◌, List, Bool, ℕ, arith, length}
use Rattle.lists.specs.Pick.{pick}
use Rattle.rounds.specs.Mail.{letter}
use Rattle.rounds.specs.MailLaws.{letter-long}
use Rattle.flaand_hash.specs.Laws.{opens, open_fault}
use Rattle.flaand_hash.proofs.check_opens.Goals as goal
use Rattle.flaand_hash.proofs.check_opens.Goals.{After-opens}

pub opens-requires : goal.opens-requires
opens-requires c =
    let far = letter-long c.requires.arrived c.args.k c.requires.in_range.1 (λ e. c.requires.in_range.2 (sym e)) in
    record {
      in_range = (c.requires.in_range.0, c.requires.in_range.1);
      l_in_bounds = (
        omega (arith, ap length c.letter.ensures, far),
        c.requires.in_range.3,
      );
    }

-- by the answer
answers : (c : After-opens) → pick c.opens.result 0 2 ≡ open_fault c.args.f.l c.args.comms.now (letter c.args.incoming.now c.args.mail)
    c.args.k
unfolding open_fault
answers c =
    ap (λ (b : Bool). pick {A = ℕ} b 0 2)
    (c.opens.ensures ∙ ap (λ (s : List ℕ). opens c.args.f.l c.args.comms.now c.args.k s) c.letter.ensures)

pub returns-then-opens : goal.returns-then-opens
returns-then-opens c = ap (λ (b : Bool). pick {A = ℕ} b 0 2) (sym c.if-opens.true) ∙ answers (goal.at.returns-then-opens c).After-opens

pub returns-else-opens : goal.returns-else-opens
returns-else-opens c = ap (λ (b : Bool). pick {A = ℕ} b 0 2) (sym c.if-opens.false) ∙ answers (goal.at.returns-else-opens c).After-opens
