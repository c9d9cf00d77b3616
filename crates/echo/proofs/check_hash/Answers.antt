use Rattle.std.specs.Prelude.{◌≡◌, ◌+◌, ◌≤◌}
use Rattle.lists.specs.Kit.{sym, ap, ap₂, ◌∙◌, Bool, ℕ, arith, length, get_or, take, drop}
use Rattle.lists.specs.Pick.{pick}
use Rattle.lists.specs.Rows.{chunk}
use Rattle.lists.specs.Same.{same?}
use Rattle.block.specs.Block.{eq_block}
use Rattle.message.specs.declared.Kind.TheVariants.{Options}
use Rattle.message.proofs.FormLaws.{formed}
use Rattle.rounds.specs.Echo.{entry_fault}
use Rattle.rounds.specs.EchoLaws.{option-at, same_block, entry_absent, entry-there}
use Rattle.echo.proofs.check_hash.Goals as goal
use Rattle.echo.proofs.check_hash.Goals.{After-equals, Else-m-at-eq0}

pub item_at-at-requires : goal.item_at-at-requires
item_at-at-requires c =
    let w = formed Options c.args.n c.args.m.now c.requires.m_value in
    (w.decodes-is, omega (arith, w.count-is, c.requires.n_bound.1.0))

pub bounds-m-at : goal.bounds-m-at
bounds-m-at c =
    omega (arith, c.item_at-at.ensures, (option-at c.args.n c.args.m.now c.requires.m_value c.args.k c.requires.n_bound.1.0).tag)

pub returns-then-m-at-eq0 : goal.returns-then-m-at-eq0
returns-then-m-at-eq0 c =
    entry_absent c.args.hashes.now c.args.m.now c.args.k
    (ap (λ p. get_or c.args.m.now p 0) (sym c.item_at-at.ensures) ∙ c.if-m-at-eq0.true)

room : (c : Else-m-at-eq0) → c.item_at-at.result + 17 ≤ length c.args.m.now
room c =
    omega (
      arith,
      c.item_at-at.ensures,
      (option-at c.args.n c.args.m.now c.requires.m_value c.args.k c.requires.n_bound.1.0).room
          (λ e. c.if-m-at-eq0.false (ap (λ p. get_or c.args.m.now p 0) c.item_at-at.ensures ∙ e)),
    )

pub overflow_add-at : goal.overflow_add-at
overflow_add-at c = omega (arith, room (goal.at.overflow_add-at c).Else-m-at-eq0)

pub load-requires : goal.load-requires
load-requires c = omega (arith, room (goal.at.load-requires c).Else-m-at-eq0)

-- what was compared, by the answer
answers : (c : After-equals) → (x : ℕ) → x ≡ pick c.equals.result 0 7 → x ≡ entry_fault c.args.hashes.now c.args.m.now c.args.k
answers c x e =
    let room-here : c.item_at-at.result + 17 ≤ length c.args.m.now =
    omega (
      arith,
      c.item_at-at.ensures,
      (option-at c.args.n c.args.m.now c.requires.m_value c.args.k c.requires.n_bound.1.0).room
          (λ e. c.if-m-at-eq0.false (ap (λ p. get_or c.args.m.now p 0) c.item_at-at.ensures ∙ e)),
    ) in
    entry-there c.args.hashes.now c.args.m.now c.args.k x c.equals.result
    (λ q. c.if-m-at-eq0.false (ap (λ p. get_or c.args.m.now p 0) c.item_at-at.ensures ∙ q))
    (c.equals.ensures ∙ ap₂ eq_block c.load.ensures c.load-2.ensures
    ∙ same_block c.args.m.now c.args.hashes.now (c.item_at-at.result + 1) c.args.k
    (λ j. omega (arith, c.shared_slice_known-1.given j))
    (λ j. omega (arith, c.shared_slice_known-2-1.given j)) (omega (arith, room-here)) (omega (arith, c.requires.n_bound))
    ∙ ap (λ p. same? (take 16 (drop (p + 1) c.args.m.now)) (chunk 16 c.args.k c.args.hashes.now)) c.item_at-at.ensures) e

pub returns-then-equals : goal.returns-then-equals
returns-then-equals c =
    answers (goal.at.returns-then-equals c).After-equals 0 (ap (λ (b : Bool). pick {A = ℕ} b 0 7) (sym c.if-equals.true))

pub returns-else-equals : goal.returns-else-equals
returns-else-equals c =
    answers (goal.at.returns-else-equals c).After-equals 7 (ap (λ (b : Bool). pick {A = ℕ} b 0 7) (sym c.if-equals.false))
