use Rattle.std.specs.Prelude.{◌≡◌, ◌-◌, ◌*◌, ◌<◌, ◌≢◌}
use Rattle.lists.specs.Kit.{sym, ap, ap₂, subst, ◌∙◌, List, true, ℕ, arith}
use Rattle.plan.specs.Plan.{next_round, msg_len}
use Rattle.engine.specs.Step.{Fault, mask}
use Rattle.engine.specs.Area.{to_others}
use Rattle.rounds.specs.Mail.{letter}
use Rattle.rounds.specs.Echo.{echo_msg}
use Rattle.rounds.specs.Table as Table
use Rattle.admit.specs.Admit.{loan}
use Rattle.admit.proofs.AdmitLaws.{round-low}
use Rattle.plain.specs.Plain.{plain}
use Rattle.plain.specs.SendLaws.{plain-round}
use Rattle.session.specs.Given.{Let}
use Rattle.session.specs.SessionLaws.{next_low, next-high, next-plain, out-last, out-echo, out-made, lent-made, check-plain}
use Rattle.session.specs.SessionLaws.{keep-last, keep-held, keep-made, write-last, write-held, write-made}
use Rattle.session.proofs.step.Goals as goal
use Rattle.session.proofs.step.Goals.{Start}

-- what the others sent, and what is lent

below : (c : Start) → c.args.k ≢ 22 → c.args.k < 22
below c ne = omega (arith, round-low c.args.f.n c.args.k c.requires.fact.round, ne)

pub finish-requires : goal.finish-requires
finish-requires c =
    record {
      fact = subst (λ j. Let c.args.f j c.args.work.now c.args.incoming.now c.args.mail) c.if-k-eq-LAST.true c.requires.fact;
      out_len = c.requires.out_len.0 ∙ out-last c.args.f c.args.k c.if-k-eq-LAST.true;
    }

pub to_echo-requires : goal.to_echo-requires
to_echo-requires c =
    round-low c.args.f.n c.args.k c.requires.fact.round

pub write-requires : goal.write-requires
write-requires c =
    record {
      work = record { ranges = c.requires.fact.work.ranges; whole = c.hold_echo.auto.work ∙ c.requires.fact.work.whole };
      out_len = c.requires.out_len.0
          ∙ out-echo c.args.f c.args.k (below (goal.at.write-requires c).Start c.if-k-eq-LAST.false)
          (sym c.to_echo.ensures ∙ c.if-to_echo.true);
    }

pub keep_received-requires : goal.keep_received-requires
keep_received-requires c =
    record {
      fact = c.requires.fact;
      mail_value = λ e. ap (λ (x : Fault). x.code)
          (sym (check-plain c.args.f c.args.work.now (mask c.args.f (letter c.args.incoming.now c.args.mail)) c.args.k e
          (sym c.to_echo.ensures ∙ c.if-to_echo.false)))
          ∙ c.requires.mail_value;
    }

pub make-requires : goal.make-requires
make-requires c =
    let low = below (goal.at.make-requires c).Start c.if-k-eq-LAST.false in
    let none = sym c.to_echo.ensures ∙ c.if-to_echo.false in
    record {
      work = record { ranges = c.requires.fact.work.ranges; whole = c.keep_received.auto.work ∙ c.requires.fact.work.whole };
      k_value = (
        subst (λ j. plain j ≡ true) (sym c.next_round.ensures)
            (plain-round (next_round c.args.f.n c.args.k) (next_low c.args.f.n c.args.k low) (next-high c.args.f.n c.args.k low)
            (next-plain c.args.f.n c.args.k low none)),
        c.requires.out_len.0 ∙ out-made c.args.f c.args.k low none
            ∙ ap (λ j. (c.args.f.n - 1) * msg_len c.args.f.n c.args.f.l j) (sym c.next_round.ensures),
      );
      r_value = ap (λ j. Table.lent j c.args.f.n c.args.f.l (loan c.args.r.now)) c.next_round.ensures
          ∙ sym (lent-made c.args.f c.args.k (loan c.args.r.now)) ∙ c.requires.out_len.1;
    }

pub returns-then-k-eq-LAST : goal.returns-then-k-eq-LAST
returns-then-k-eq-LAST c =
    let w = c.args.work.now in (
      c.finish.ensures.0 ∙ sym (keep-last c.args.f w (mask c.args.f (letter c.args.incoming.now c.args.mail)) c.args.k
          (loan c.args.r.now) c.if-k-eq-LAST.true),
      c.finish.ensures.1
          ∙ sym (write-last c.args.f w (mask c.args.f (letter c.args.incoming.now c.args.mail)) c.args.k
          (loan c.args.r.now) c.if-k-eq-LAST.true),
    )

pub returns-then-to_echo : goal.returns-then-to_echo
returns-then-to_echo c =
    let w = c.args.work.now in
    let some = sym c.to_echo.ensures ∙ c.if-to_echo.true in (
      c.hold_echo.ensures.0 ∙ sym (keep-held c.args.f w (mask c.args.f (letter c.args.incoming.now c.args.mail)) c.args.k
          (loan c.args.r.now) c.if-k-eq-LAST.false some),
      c.write.ensures ∙ ap (λ (x : List ℕ). to_others c.args.f.n c.args.f.i (echo_msg c.args.f.n c.args.f.i x)) c.hold_echo.ensures.1
          ∙ sym (write-held c.args.f w (mask c.args.f (letter c.args.incoming.now c.args.mail)) c.args.k
          (loan c.args.r.now) c.if-k-eq-LAST.false some),
    )

pub returns-else-to_echo : goal.returns-else-to_echo
returns-else-to_echo c =
    let w = c.args.work.now in
    let low = below (goal.at.returns-else-to_echo c).Start c.if-k-eq-LAST.false in
    let none =
    sym c.to_echo.ensures
    ∙ c.if-to_echo.false in (
      c.make.ensures.0 ∙ ap₂ (λ j (x : List ℕ). Table.held j c.args.f (loan c.args.r.now) x) c.next_round.ensures c.keep_received.ensures
          ∙ sym (keep-made c.args.f w (mask c.args.f (letter c.args.incoming.now c.args.mail)) c.args.k (loan c.args.r.now) low none),
      c.make.ensures.1
          ∙ ap₂ (λ j (x : List ℕ). to_others c.args.f.n c.args.f.i (Table.written j c.args.f (loan c.args.r.now) (Table.held j c.args.f
          (loan c.args.r.now) x))) c.next_round.ensures
          c.keep_received.ensures
          ∙ sym (write-made c.args.f w (mask c.args.f (letter c.args.incoming.now c.args.mail)) c.args.k (loan c.args.r.now) low none),
    )
