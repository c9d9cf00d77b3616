use Rattle.std.specs.Prelude.{◌≡◌, ◌+◌, ◌*◌, ◌≤◌}
use Rattle.lists.specs.Kit.{sym, ap, ◌∙◌, arith, length}
use native.Mathlib.Nat.{le_refl}
use Rattle.block.specs.Block.{word_at}
use Rattle.message.specs.declared.Kind.TheVariants.{Dms}
use Rattle.message.specs.Format.{item_at}
use Rattle.plan.specs.Plan.{dm_len}
use Rattle.rounds.specs.DmLaws.{dm-in, dues-at}
use Rattle.fashare_comm.specs.Laws.{dm-most, place-most}
use Rattle.fashare_ver_recv.specs.Laws.{dm-length, dm-bit-over, dm-clean}
use Rattle.fashare_ver_recv.proofs.check_dm.Goals as goal
use Rattle.fashare_ver_recv.proofs.check_dm.Goals.{After-dm_len-due, Else-len-due}

-- ---- where the dm lies

place_is : (c : After-dm_len-due) → (8 + c.args.q * (8 + c.dm_len-due.result)) ≡ item_at Dms c.args.m.now c.args.q
place_is c =
    ap (λ t. 8 + c.args.q * (8 + t)) c.dm_len-due.ensures
    ∙ sym (dues-at c.args.f.n c.args.q c.args.m.now c.requires.dues c.args.q (le_refl c.args.q))

room : (c : After-dm_len-due)
    → (8 + c.args.q * (8 + c.dm_len-due.result)) + 8 + word_at c.args.m.now (8 + c.args.q * (8 + c.dm_len-due.result)) ≤ length c.args.m.now
room c =
    let m = c.args.m.now in
    omega (arith, place_is c, ap (word_at m) (place_is c), (dm-in m c.requires.dues.formed-is c.args.q c.requires.le_n.1.1).fits)

pub overflow_add-at : goal.overflow_add-at
overflow_add-at c = omega (arith, c.dm_len-due.ensures, dm-most c.args.f.n c.requires.le_n.1.0)

pub overflow_mul-at : goal.overflow_mul-at
overflow_mul-at c =
    omega (arith, place-most c.args.q c.args.f.n c.dm_len-due.result c.requires.le_n.1.1 c.requires.le_n.1.0 c.dm_len-due.ensures)

pub overflow_add-at-2 : goal.overflow_add-at-2
overflow_add-at-2 c =
    omega (arith, place-most c.args.q c.args.f.n c.dm_len-due.result c.requires.le_n.1.1 c.requires.le_n.1.0 c.dm_len-due.ensures)

pub load64-len-requires : goal.load64-len-requires
load64-len-requires c = omega (arith, room (goal.at.load64-len-requires c).After-dm_len-due)

pub returns-then-len-due : goal.returns-then-len-due
returns-then-len-due c k =
    dm-length c.args.f c.args.m.now c.args.q k (8 + c.args.q * (8 + c.dm_len-due.result))
    (place_is (goal.at.returns-then-len-due c).After-dm_len-due)
    (λ e. c.if-len-due.true (c.load64-len.ensures ∙ e ∙ sym c.dm_len-due.ensures))

-- the length is the one due: there is a first byte
due : (c : Else-len-due) → word_at c.args.m.now (8 + c.args.q * (8 + c.dm_len-due.result)) ≡ dm_len c.args.f.n
due c = sym c.load64-len.ensures ∙ c.if-len-due.false ∙ c.dm_len-due.ensures

byte : (c : Else-len-due) → (8 + c.args.q * (8 + c.dm_len-due.result)) + 9 ≤ length c.args.m.now
unfolding dm_len
byte c =
    let m = c.args.m.now in
    let here : (8 + c.args.q * (8 + c.dm_len-due.result)) ≡ item_at Dms m c.args.q =
    ap (λ t. 8 + c.args.q * (8 + t)) c.dm_len-due.ensures
    ∙ sym (dues-at c.args.f.n c.args.q m c.requires.dues c.args.q (le_refl c.args.q)) in
    omega (arith, due c, here, ap (word_at m) here, (dm-in m c.requires.dues.formed-is c.args.q c.requires.le_n.1.1).fits)

pub overflow_add-at-3 : goal.overflow_add-at-3
overflow_add-at-3 c = omega (arith, byte (goal.at.overflow_add-at-3 c).Else-len-due)

pub bounds-m-at : goal.bounds-m-at
bounds-m-at c =
    omega (arith, byte (goal.at.bounds-m-at c).Else-len-due)

pub returns-then-m-at-gt1 : goal.returns-then-m-at-gt1
returns-then-m-at-gt1 c k =
    dm-bit-over c.args.f c.args.m.now c.args.q k (8 + c.args.q * (8 + c.dm_len-due.result))
    (place_is (goal.at.returns-then-m-at-gt1 c).After-dm_len-due)
    (due (goal.at.returns-then-m-at-gt1 c).Else-len-due) c.if-m-at-gt1.true

pub returns-else-m-at-gt1 : goal.returns-else-m-at-gt1
returns-else-m-at-gt1 c k =
    dm-clean c.args.f c.args.m.now c.args.q k (8 + c.args.q * (8 + c.dm_len-due.result))
    (place_is (goal.at.returns-else-m-at-gt1 c).After-dm_len-due)
    (due (goal.at.returns-else-m-at-gt1 c).Else-len-due) (omega (arith, c.if-m-at-gt1.false))
