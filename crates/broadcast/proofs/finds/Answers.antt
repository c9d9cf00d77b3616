-- An arm for each round that has a content check.
use Rattle.std.specs.Prelude.{◌≡◌}
use Rattle.lists.specs.Kit.{refl, ap₂, ◌∙◌, ◌||◌, ℕ}
use mathlib.Core.Logic.{◌⊎◌, inl, inr}
use lib.Dec.{eqb}
use Rattle.refusals.specs.declared.Reason.TheVariants as V
use Rattle.refusals.specs.Reason.{number}
use Rattle.plan.specs.Plan.{RNG_VER, PAIR_VER, FABITN, FASHARE_VER, FASHARE_DIBI, FLAAND_HASH, DVALUE, FAAND}
use Rattle.engine.specs.Area.{mem}
use Rattle.rounds.specs.Table.{faults}
use Rattle.broadcast.specs.BroadcastLaws.{is-reason, faults-one, faults-two, faults-three, faults-none}
use Rattle.broadcast.proofs.finds.Goals as goal

seeds : (k code : ℕ) → (k ≡ RNG_VER) ⊎ (k ≡ PAIR_VER) → eqb code 2 ≡ mem code (faults k)
unfolding faults
seeds k code (inl e) = faults-one k code RNG_VER 2 refl e
seeds k code (inr e) = faults-one k code PAIR_VER 2 refl e

pub returns-in-3 : goal.returns-in-3
returns-in-3 c =
    is-reason c.args.reason V.CommitmentCouldNotBeOpened c.eq-unopened.result c.eq-unopened.ensures
    ∙ seeds c.args.k (number c.args.reason) c.in-3.is

pub returns-in-6 : goal.returns-in-6
unfolding faults
returns-in-6 c =
    is-reason c.args.reason V.ABitWrongMAC c.eq.result c.eq.ensures
    ∙ faults-one c.args.k (number c.args.reason) FABITN 8 refl c.in-6.is

pub returns-in-10 : goal.returns-in-10
unfolding faults
returns-in-10 c =
    ap₂ ◌||◌ (ap₂ ◌||◌ (is-reason c.args.reason V.CommitmentCouldNotBeOpened c.eq-unopened.result c.eq-unopened.ensures)
    (is-reason c.args.reason V.ConversionErr c.eq-in-10.result c.eq-in-10.ensures))
    (is-reason c.args.reason V.InvalidBitValue c.eq-in-10-2.result c.eq-in-10-2.ensures)
    ∙ faults-three c.args.k (number c.args.reason) FASHARE_VER 2 4 1 refl c.in-10.is

pub returns-in-12 : goal.returns-in-12
unfolding faults
returns-in-12 c =
    ap₂ ◌||◌ (is-reason c.args.reason V.CommitmentCouldNotBeOpened c.eq-unopened.result c.eq-unopened.ensures)
    (is-reason c.args.reason V.AShareWrongMAC c.eq-in-12.result c.eq-in-12.ensures)
    ∙ faults-two c.args.k (number c.args.reason) FASHARE_DIBI 2 9 refl c.in-12.is

pub returns-in-19 : goal.returns-in-19
unfolding faults
returns-in-19 c =
    ap₂ ◌||◌ (is-reason c.args.reason V.CommitmentCouldNotBeOpened c.eq-unopened.result c.eq-unopened.ensures)
    (is-reason c.args.reason V.LaANDXorNotZero c.eq-in-19.result c.eq-in-19.ensures)
    ∙ faults-two c.args.k (number c.args.reason) FLAAND_HASH 2 10 refl c.in-19.is

pub returns-in-21 : goal.returns-in-21
unfolding faults
returns-in-21 c =
    is-reason c.args.reason V.AANDWrongMAC c.eq-in-21.result c.eq-in-21.ensures
    ∙ faults-one c.args.k (number c.args.reason) DVALUE 11 refl c.in-21.is

pub returns-in-22 : goal.returns-in-22
unfolding faults
returns-in-22 c =
    is-reason c.args.reason V.BeaverWrongMAC c.eq-in-22.result c.eq-in-22.ensures
    ∙ faults-one c.args.k (number c.args.reason) FAAND 12 refl c.in-22.is

pub returns-in_default : goal.returns-in_default
returns-in_default c =
    let r7 = c.in_default.in_default-own.rest in
    let r6 = r7.0 in let r5 = r6.0 in let r4 = r5.0 in let r3 = r4.0 in let r2 = r3.0 in let r1 = r2.0 in
    faults-none c.args.k (number c.args.reason) (λ e. r1.1 (inl e)) (λ e. r1.1 (inr e)) r2.1 r3.1 r4.1 r5.1
    r6.1 r7.1
