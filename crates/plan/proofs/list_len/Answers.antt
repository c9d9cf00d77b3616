-- `plan::list_len` meets its contract.
use Rattle.std.specs.Prelude.{◌+◌, ◌*◌, ◌≤◌}
use Rattle.lists.specs.Kit.{refl, subst, arith}
use native.Mathlib.Nat.{mul-le-mul}
use Rattle.plan.specs.Plan.{list_len, dm_len, Listed}
use Rattle.plan.proofs.list_len.Goals as goal
use Rattle.plan.proofs.list_len.Goals.{After-dm_len, In-Dms, In-Dvalues, In-Items, In-Options}

-- what is asked of n and count, in each arm
items : (c : In-Items) → (c.args.count ≤ 1500000) × (c.in-Items.size ≤ 128)
items c = subst (Listed c.args.n c.args.count) c.in-Items.is c.requires

dms : (c : In-Dms) → (c.args.count ≤ 1500000) × (1 ≤ c.args.n) × (c.args.n ≤ 8)
dms c = subst (Listed c.args.n c.args.count) c.in-Dms.is c.requires

-- a dm with its count
dm : (c : After-dm_len) → 8 + c.dm_len.result ≤ 128
unfolding dm_len
dm c =
    let dms-here : (c.args.count ≤ 1500000) × (1 ≤ c.args.n) × (c.args.n ≤ 8) = subst (Listed c.args.n c.args.count) c.in-Dms.is c.requires in
    let h = dms-here in omega (arith, c.dm_len.ensures)

dvalues : (c : In-Dvalues) → let a =
    c.args in (a.count ≤ 1500000) × (c.in-Dvalues.due ≤ 4)
dvalues c = subst (Listed c.args.n c.args.count) c.in-Dvalues.is c.requires

-- a bucket's two lists
lists : (c : In-Dvalues) → 8 + c.in-Dvalues.due + (8 + 16 * c.in-Dvalues.due) ≤ 128
lists c = let h = dvalues c in omega arith

options : (c : In-Options) → (2 ≤ c.args.count) × (c.args.count ≤ 8)
options c = subst (Listed c.args.n c.args.count) c.in-Options.is c.requires

pub overflow_mul-result : goal.overflow_mul-result
overflow_mul-result c = let h = items (goal.at.overflow_mul-result c).In-Items in omega (arith, mul-le-mul h.0 h.1)

pub overflow_add-result : goal.overflow_add-result
overflow_add-result c = let h = items (goal.at.overflow_add-result c).In-Items in omega (arith, mul-le-mul h.0 h.1)

pub dm_len-requires : goal.dm_len-requires
dm_len-requires c = let h = dms (goal.at.dm_len-requires c).In-Dms in (h.1, h.2)

pub overflow_add-result-in-Dms : goal.overflow_add-result-in-Dms
overflow_add-result-in-Dms c = omega (arith, dm (goal.at.overflow_add-result-in-Dms c).After-dm_len)

pub overflow_mul-result-in-Dms : goal.overflow_mul-result-in-Dms
overflow_mul-result-in-Dms c = let h = dms (goal.at.overflow_mul-result-in-Dms c).In-Dms in omega (arith, mul-le-mul h.0 (dm (goal.at.overflow_mul-result-in-Dms c).After-dm_len))

pub overflow_add-result-in-Dms-2 : goal.overflow_add-result-in-Dms-2
overflow_add-result-in-Dms-2 c = let h = dms (goal.at.overflow_add-result-in-Dms-2 c).In-Dms in omega (arith, mul-le-mul h.0 (dm (goal.at.overflow_add-result-in-Dms-2 c).After-dm_len))

pub overflow_add-result-in-Dvalues : goal.overflow_add-result-in-Dvalues
overflow_add-result-in-Dvalues c = omega (arith, lists (goal.at.overflow_add-result-in-Dvalues c).In-Dvalues)

pub overflow_mul-result-in-Dvalues : goal.overflow_mul-result-in-Dvalues
overflow_mul-result-in-Dvalues c = omega (arith, lists (goal.at.overflow_mul-result-in-Dvalues c).In-Dvalues)

pub overflow_add-result-in-Dvalues-2 : goal.overflow_add-result-in-Dvalues-2
overflow_add-result-in-Dvalues-2 c = omega (arith, lists (goal.at.overflow_add-result-in-Dvalues-2 c).In-Dvalues)

pub overflow_add-result-in-Dvalues-3 : goal.overflow_add-result-in-Dvalues-3
overflow_add-result-in-Dvalues-3 c = omega (arith, lists (goal.at.overflow_add-result-in-Dvalues-3 c).In-Dvalues)

pub overflow_mul-result-in-Dvalues-2 : goal.overflow_mul-result-in-Dvalues-2
overflow_mul-result-in-Dvalues-2 c = let h = dvalues (goal.at.overflow_mul-result-in-Dvalues-2 c).In-Dvalues in omega (arith, mul-le-mul h.0 (lists (goal.at.overflow_mul-result-in-Dvalues-2 c).In-Dvalues))

pub overflow_add-result-in-Dvalues-4 : goal.overflow_add-result-in-Dvalues-4
overflow_add-result-in-Dvalues-4 c = let h = dvalues (goal.at.overflow_add-result-in-Dvalues-4 c).In-Dvalues in omega (arith, mul-le-mul h.0 (lists (goal.at.overflow_add-result-in-Dvalues-4 c).In-Dvalues))

pub overflow_add-result-in-Options : goal.overflow_add-result-in-Options
overflow_add-result-in-Options c = let h = options (goal.at.overflow_add-result-in-Options c).In-Options in omega arith

pub overflow_sub-result : goal.overflow_sub-result
overflow_sub-result c = let h = options (goal.at.overflow_sub-result c).In-Options in omega arith

pub overflow_mul-result-in-Options : goal.overflow_mul-result-in-Options
overflow_mul-result-in-Options c = let h = options (goal.at.overflow_mul-result-in-Options c).In-Options in omega arith

pub overflow_add-result-in-Options-2 : goal.overflow_add-result-in-Options-2
overflow_add-result-in-Options-2 c = let h = options (goal.at.overflow_add-result-in-Options-2 c).In-Options in omega arith

pub returns-in-Items : goal.returns-in-Items
unfolding list_len
returns-in-Items c = rw c.in-Items.is refl

pub returns-in-Dms : goal.returns-in-Dms
unfolding list_len
returns-in-Dms c = rw (c.in-Dms.is, c.dm_len.ensures) refl

pub returns-in-Dvalues : goal.returns-in-Dvalues
unfolding list_len
returns-in-Dvalues c = rw c.in-Dvalues.is refl

pub returns-in-Options : goal.returns-in-Options
unfolding list_len
returns-in-Options c = rw c.in-Options.is refl
