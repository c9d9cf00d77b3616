use Rattle.std.specs.Prelude.{◌≡◌, ◌||◌, ◌+◌, ◌*◌}
use Rattle.lists.specs.Kit.{sym, ap, ap₂, ◌∙◌, Bool, true, false, ℕ, take, drop}
use Rattle.lists.specs.Pick.{pick}
use Rattle.lists.specs.All.{true-false}
use Rattle.lists.specs.Same.{same?}
use Rattle.block.specs.declared.Block.{Block}
use Rattle.block.specs.Block.{bytes_of, eq_block}
use Rattle.blake3.specs.Tree.{bytes, hash}
use Rattle.rounds.specs.Fashare as Fashare
use Rattle.fashare_dibi.specs.Laws.{fault-is}
use Rattle.fashare_dibi.proofs.check_opened.Goals as goal
use Rattle.fashare_dibi.proofs.check_opened.Goals.{After-equals-due}

-- what the tests say, in the definition's words
said : (c : After-equals-due)
    → Fashare.dibi_fault c.args.f c.args.recs.now c.args.comms.now c.args.dms.now (λ _. c.args.m.now) c.args.q c.args.k
    ≡ pick (c.is.result || c.is-2.result) (pick c.equals-due.result 0 9) 2
unfolding hash
said c =
    let e = ap bytes c.hash_block-digest.ensures ∙ ap (λ (x : Block). hash (bytes_of x)) c.load-d.ensures in
    let place = (c.args.k * Fashare.STRINGS + c.args.q) * Fashare.COMM in
    fault-is c.args.f c.args.recs.now c.args.comms.now c.args.dms.now (λ _. c.args.m.now) c.args.q c.args.k
    c.is.result c.is-2.result c.equals-due.result
    (c.is.ensures ∙ ap (same? (take 32 (drop place c.args.comms.now))) e)
    (c.is-2.ensures ∙ ap (same? (take 32 (drop (place + 32) c.args.comms.now))) e)
    (c.equals-due.ensures ∙ ap₂ eq_block c.macs_for.ensures c.load-d.ensures)

-- neither commitment is opened, or one is
shut : (b : Bool) (x y : ℕ) → y ≡ pick b x 2 → b ≡ false → 2 ≡ y
shut false x y e h = sym e
shut true x y e h = absurd (true-false h)

opens : (b d : Bool) (y : ℕ) → y ≡ pick b (pick d 0 9) 2 → b ≡ true → pick d 0 9 ≡ y
opens true d y e h = sym e
opens false d y e h = absurd (true-false (sym h))

pub returns-then-not-opens : goal.returns-then-not-opens
returns-then-not-opens c =
    shut (c.is.result || c.is-2.result) _ _ (said (goal.at.returns-then-not-opens c).After-equals-due) c.if-not-opens.true

pub returns-then-due : goal.returns-then-due
returns-then-due c =
    sym (ap (λ t. pick t 0 9) c.if-due.true)
    ∙ opens (c.is.result || c.is-2.result) c.equals-due.result _ (said (goal.at.returns-then-due c).After-equals-due) c.if-not-opens.false

pub returns-else-due : goal.returns-else-due
returns-else-due c =
    sym (ap (λ t. pick t 0 9) c.if-due.false)
    ∙ opens (c.is.result || c.is-2.result) c.equals-due.result _ (said (goal.at.returns-else-due c).After-equals-due) c.if-not-opens.false
