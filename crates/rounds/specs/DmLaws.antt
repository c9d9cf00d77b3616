-- Laws of the dms (round 10): what the form of a message says of each dm, and what no fault says.
use Rattle.std.specs.Prelude.{◌≡◌, ◌≢◌, List, ℕ, ◌+◌, ◌*◌, ◌<◌, ◌≤◌, length, get_or, leb, eqb}
use Rattle.std.proofs.Common.{ap, ◌∙◌, eqb-true}
use native.Mathlib.Omega.{arith}
use Rattle.lists.specs.Pick.{pick, pick-then}
use Rattle.block.specs.Block.{word_at}
use Rattle.message.specs.declared.Kind.TheVariants.{Dms}
use Rattle.message.specs.Format.{item_at, form_of}
use Rattle.message.proofs.FormLaws.{formed-at, formed-item, level-at, Dm, dm-held}
use Rattle.plan.specs.Plan.{dm_len}
use Rattle.engine.specs.declared.Frame.{Frame}
use Rattle.engine.specs.Step.{by_party}
use Rattle.engine.specs.StepLaws.{or-zero, by-clean}
use Rattle.rounds.specs.Area.{first_of}
use Rattle.rounds.specs.Mail.{Mail, letter, Arrived}
use Rattle.rounds.specs.EchoLaws.{Received}
use Rattle.rounds.specs.FaultLaws.{first-clean}
use Rattle.rounds.specs.Fashare.{STRINGS, dm_at, third_faults, dm_fault, dm_faults, ver_faults}

-- dm q of a message of the right form
pub dm-in : (m : List ℕ) → form_of Dms STRINGS m ≡ 0 → (q : ℕ) → q < STRINGS → Dm m (item_at Dms m q)
dm-in m h q l = dm-held m (item_at Dms m q) (formed-at Dms STRINGS m h q) (formed-item Dms STRINGS m h q l)

-- the first c dms of a message have the length that is due
pub record Dues (n c : ℕ) (m : List ℕ) : Type 0 where
  pub formed-is : form_of Dms STRINGS m ≡ 0
  pub few : c ≤ STRINGS
  pub due : (q : ℕ) → q < c → word_at m (item_at Dms m q) ≡ dm_len n

-- so it is with the messages of all others
pub record Checked (f : Frame) (c : ℕ) (incoming : List ℕ) (mail : Mail) : Type 0 where
  pub arrived : Arrived f 0 incoming mail
  pub dues : (k : ℕ) → k < f.n → f.i ≢ k → Dues f.n c (letter incoming mail k)

pub dm-due : (f : Frame) (m : ℕ → List ℕ) (q k : ℕ) → dm_fault f m q k ≡ 0 → word_at (m k) (item_at Dms (m k) q) ≡ dm_len f.n
unfolding dm_fault
dm-due f m q k z =
    let due = eqb (word_at (m k) (item_at Dms (m k) q)) (dm_len f.n) in
    eqb-true (word_at (m k) (item_at Dms (m k) q)) (dm_len f.n)
    (pick-then due (pick (leb (get_or (m k) (dm_at (m k) q) 0) 1) 0 1) 4 0 (λ e. omega arith) z).0

-- no fault in the first c strings
pub clean-dues : (f : Frame) (m : ℕ → List ℕ) (c : ℕ) → c ≤ STRINGS → (first_of c (λ q. by_party f (dm_fault f m q))).code ≡ 0
    → (k : ℕ) → k < f.n → f.i ≢ k → form_of Dms STRINGS (m k) ≡ 0 → Dues f.n c (m k)
clean-dues f m c l z k h ne formed = record {
  formed-is = formed;
  few = l;
  due = λ q v. dm-due f m q k (by-clean f (dm_fault f m q) (first-clean c (λ q. by_party f (dm_fault f m q)) z q v) k h ne);
}

pub checked : (f : Frame) (c : ℕ) (incoming : List ℕ) (mail : Mail) → c ≤ STRINGS → Received Dms STRINGS f incoming mail
    → (first_of c (λ q. by_party f (dm_fault f (letter incoming mail) q))).code ≡ 0 → Checked f c incoming mail
checked f c incoming mail l r z = record {
  arrived = r.arrived;
  dues = λ k h ne. clean-dues f (letter incoming mail) c l z k h ne (r.formed-is k h ne);
}

-- the whole check found nothing
module _ (f : Frame) (comms : List ℕ) where
  pub ver-clean : (m : ℕ → List ℕ) → (ver_faults f comms m).code ≡ 0 → (first_of STRINGS (λ q. by_party f (dm_fault f m q))).code ≡ 0
  unfolding ver_faults dm_faults
  ver-clean m z = (or-zero (third_faults f comms m) (dm_faults f m) z).1

  pub ver-checked : (incoming : List ℕ) (mail : Mail) → Received Dms STRINGS f incoming mail
      → (ver_faults f comms (letter incoming mail)).code ≡ 0 → Checked f STRINGS incoming mail
  ver-checked incoming mail r z = checked f STRINGS incoming mail (omega arith) r (ver-clean (letter incoming mail) z)

-- where such dms lie, and the first behind them
module _ (n c : ℕ) (m : List ℕ) (d : Dues n c m) where
  pub dues-at : (q : ℕ) → q ≤ c → item_at Dms m q ≡ 8 + q * (8 + dm_len n)
  dues-at q h =
      level-at Dms m (8 + dm_len n) q
      (λ j v. (dm-in m d.formed-is j (omega (arith, d.few))).is ∙ ap (λ w. 8 + w) (d.due j (omega arith)))

  module _ (q from : ℕ) (h : q < c) (e : from ≡ 16 + q * (8 + dm_len n)) where
    pub dues-place : from ≡ dm_at m q
    unfolding dm_at
    dues-place = let v : q ≤ c = omega arith in omega (arith, dues-at q v)

    pub dues_in : from + dm_len n ≤ length m
    dues_in =
        let v : q ≤ c = omega arith in
        let s : q < STRINGS = omega (arith, d.few) in
        omega (arith, dues-at q v, d.due q h, (dm-in m d.formed-is q s).fits)
