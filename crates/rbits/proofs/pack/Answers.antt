use Rattle.std.specs.Prelude.{◌≡◌, ◌+◌, ◌*◌}
use Rattle.lists.specs.Kit.{refl, ap, ◌∙◌, arith}
use Prim.Native.Nat.{◌%◌, ◌^◌}
use Rattle.rbits.specs.Tables.{record_bit, packed}
use Rattle.rbits.proofs.BitLaws.{packed-fits, packed-turn}
use Rattle.rbits.proofs.pack.Goals as goal
use Rattle.rbits.proofs.pack.Goals.{After-digit}

pub loop-e-init : goal.loop-e-init
unfolding packed
loop-e-init c = refl

-- the next bit in its place
next : (c : After-digit) → let a = c.args in
    c.digit.result * 2 ^ c.loop-e.e % 2 ^ 64 + c.loop-e.w ≡ packed (c.loop-e.e + 1)
    (λ e. record_bit a.s.now a.stride a.count (a.first + e))
next c =
    let a = c.args in
    packed-turn c.loop-e.e (λ e. record_bit a.s.now a.stride a.count (a.first + e)) c.digit.result c.loop-e.w
    c.loop-e-test.true
    c.digit.ensures c.loop-e.invariant

pub overflow_add-w : goal.overflow_add-w
overflow_add-w c = record { fits = packed-fits (c.loop-e.e + 1) _ _ (next (goal.at.overflow_add-w c).After-digit) (omega arith) }

pub loop-e-preserved : goal.loop-e-preserved
loop-e-preserved c = next (goal.at.loop-e-preserved c).After-digit

pub returns : goal.returns
returns c =
    let a = c.args in
    let e : c.loop-e.e ≡ 64 = omega arith in
    c.loop-e.invariant ∙ ap (λ n. packed n (λ e. record_bit a.s.now a.stride a.count (a.first + e))) e
