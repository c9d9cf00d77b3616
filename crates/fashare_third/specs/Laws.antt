-- The third commitments, message by message: the lowest string, and in it the lowest party, is what the definition finds string by string.
use Rattle.std.proofs.Math.Path.{◌≡◌, refl, sym, ap, ap₂}
use Rattle.std.proofs.Common.{◌∙◌, arith, drop-drop}
use Rattle.std.specs.Prelude.{Bool, not, ◌≢◌, ⊤, ℕ, ◌+◌, ◌-◌, ◌*◌, ◌<◌, ◌≤◌, length, drop, Option, None, Some, Result, Ok, Err}
use Rattle.std.proofs.Math.Bool.{true, false}
use mathlib.Core.List.{List}
use Rattle.std.proofs.Math.ListN.{take}
use Rattle.lists.specs.Pick.{pick}
use Rattle.lists.specs.All.{not-true, not-false}
use Rattle.lists.specs.Sect.{get}
use Rattle.lists.specs.Same.{same?, same-comm}
use Rattle.algebra.specs.Sum.{neq}
use Rattle.block.specs.Block.{word_at}
use Rattle.blake3.specs.Tree.{hash}
use Rattle.message.specs.declared.Kind.TheVariants.{Dms}
use Rattle.message.specs.Format.{item_at, form_of}
use Rattle.message.specs.FormatLaws.{at_zero, at_next}
use Rattle.refusals.specs.declared.Reason.{Reason}
use Rattle.refusals.specs.declared.Reason.TheVariants.{CommitmentCouldNotBeOpened}
use Rattle.refusals.specs.Reason.{number}
use Rattle.engine.specs.declared.Frame.{Frame}
use Rattle.engine.specs.declared.Refusal.{Refusal}
use Rattle.engine.specs.Step.{by_party}
use Rattle.engine.specs.StepLaws.{scan-none, last_or}
use Rattle.rounds.specs.Area.{first_of}
use Rattle.rounds.specs.Fashare.{STRINGS, COMM, COMM_ROW, comms_to, dm_at, whole_dm, third_fault, third_faults}
use Rattle.rounds.specs.FaultLaws.{Finds, fault_at, fault-own, fault-other, finds-first, finds-none, item-first, item-none, first-none}
use Rattle.rounds.specs.DmLaws.{dm-in}

-- r is the first number below `most` at which c isn't 0
pub record Shut (c : ℕ → ℕ) (most r : ℕ) : Type 0 where
  pub below : r < most
  pub clean : (q : ℕ) → q < r → c q ≡ 0
  pub shut : c r ≢ 0

-- so it is, or there is none
abbrev pub First : (ℕ → ℕ) → ℕ → Option ℕ → Type 0
First c most None = (q : ℕ) → q < most → c q ≡ 0
First c most (Some r) = Shut c most r

-- ---- one dm
-- where the third commitment lies
pub comm-in : (k q len : ℕ) → q < STRINGS → k * COMM_ROW + COMM_ROW ≤ len → (k * STRINGS + q) * COMM + 64 + 32 ≤ len
comm-in k q len h l = omega arith

-- the dm at a, and whether it opens the commitment
module _ (comms m : List ℕ) (q k a : ℕ) (at : a ≡ item_at Dms m q) where
  pub third-is : (from to : ℕ) (b : Bool) → from ≡ a + 8 → to ≡ from + word_at m a
      → b ≡ same? (get ((k * STRINGS + q) * COMM + 64) 32 comms) (hash (take (to - from) (drop from m)))
      → third_fault comms (λ _. m) q k ≡ pick b 0 2
  unfolding third_fault whole_dm dm_at
  third-is from to b ef et e =
      let size : to - from ≡ word_at m (item_at Dms m q) = omega (arith, ap (word_at m) at) in
      let start : from ≡ item_at Dms m q + 8 = omega (arith, at) in
      let dm : take (to - from) (drop from m) ≡ take (word_at m (item_at Dms m q)) (drop (item_at Dms m q + 8) m) =
      ap₂ (λ s o. take s (drop o m)) size start in
      ap (λ (t : Bool). pick t 0 2)
      (ap (λ (c : List ℕ). same? (hash (take (word_at m (item_at Dms m q)) (drop (item_at Dms m q + 8) m))) (take 32 c))
      (drop-drop 64 ((k * STRINGS + q) * COMM) comms)
      ∙ same-comm _ _
      ∙ ap (λ (d : List ℕ). same? (take 32 (drop ((k * STRINGS + q) * COMM + 64) comms)) (hash d)) (sym dm) ∙ sym e)

-- ---- one message: the walk stands before dm q, and those before open their commitments
pub record Opened (comms m : List ℕ) (k q at : ℕ) : Type 0 where
  pub at-is : at ≡ item_at Dms m q
  pub clean : (j : ℕ) → j < q → third_fault comms (λ _. m) j k ≡ 0

module _ (comms m : List ℕ) (k : ℕ) where
  abbrev fault : ℕ → ℕ
  fault q = third_fault comms (λ _. m) q k

  pub opened-start : Opened comms m k 0 8
  opened-start = record { at-is = sym (at_zero Dms m); clean = λ j l. absurd (omega arith) }

  module _ (q at : ℕ) (w : Opened comms m k q at) where
    -- dm q lies within
    pub opened_in : form_of Dms STRINGS m ≡ 0 → q < STRINGS → at + 8 + word_at m at ≤ length m
    opened_in formed h = omega (arith, w.at-is, ap (word_at m) w.at-is, (dm-in m formed q h).fits)

    -- it opens its commitment
    pub opened-turn : form_of Dms STRINGS m ≡ 0 → q < STRINGS → (to : ℕ) (b : Bool) → to ≡ at + 8 + word_at m at → fault q ≡ pick b 0 2
        → not b ≡ false → Opened comms m k (q + 1) to
    opened-turn formed h to b e f nb = record {
      at-is = omega (arith, w.at-is, ap (word_at m) w.at-is, (dm-in m formed q h).is, at_next Dms m q);
      clean = λ j l. last_or j q (λ j. fault j ≡ 0) (omega arith) (w.clean j) (f ∙ ap (λ t. pick t 0 2) (not-false b nb));
    }

    -- it doesn't
    pub opened-stop : (most : ℕ) (b : Bool) → q < most → fault q ≡ pick b 0 2 → not b ≡ true → First fault most (Some q)
    opened-stop most b l f nb = record {
      below = l;
      clean = w.clean;
      shut = λ z. let two : fault q ≡ 2 = f ∙ ap (λ t. pick t 0 2) (not-true b nb) in omega (arith, two, z);
    }

    -- all do
    pub opened-end : (most : ℕ) → q ≡ most → First fault most None
    opened-end most e = λ j l. w.clean j (omega arith)

-- ---- all messages: the lowest string in which one of the first k parties has a fault, and the lowest of them there
pub record Named (c : ℕ → ℕ → ℕ) (k most : ℕ) (r : Refusal) : Type 0 where
  pub below : most < STRINGS
  pub party-in : r.party < k
  pub is : number r.reason ≡ c most r.party
  pub lower : (j : ℕ) → j < r.party → c most j ≡ 0

abbrev pub Says : (ℕ → ℕ → ℕ) → ℕ → ℕ → Result ⊤ Refusal → Type 0
Says c k most (Ok _) = most ≡ STRINGS
Says c k most (Err r) = Named c k most r

pub record Lowest (c : ℕ → ℕ → ℕ) (k most : ℕ) (v : Result ⊤ Refusal) : Type 0 where
  pub below : most ≤ STRINGS
  pub clean : (j : ℕ) → j < k → (q : ℕ) → q < most → c q j ≡ 0
  pub says : Says c k most v

module _ (c : ℕ → ℕ → ℕ) where
  pub lowest-none : Lowest c 0 STRINGS (Ok tt)
  lowest-none = record { below = omega arith; clean = λ j l. absurd (omega arith); says = refl }

  says-more : (k most : ℕ) (v : Result ⊤ Refusal) → Says c k most v → Says c (k + 1) most v
  says-more k most (Ok _) h = h
  says-more k most (Err r) h = record { below = h.below; party-in = omega (arith, h.party-in); is = h.is; lower = h.lower }

  module _ (k most : ℕ) (v : Result ⊤ Refusal) (h : Lowest c k most v) where
    -- party k has a lower string
    lowest-new : (r : Reason) (q : ℕ) → Shut (λ q. c q k) most q → number r ≡ c q k
        → Lowest c (k + 1) q (Err (record { reason = r; party = k }))
    lowest-new r q f e = record {
      below = omega (arith, h.below, f.below);
      clean = λ j lj p lp.
          last_or j k (λ j. c p j ≡ 0) (omega arith) (λ lk. h.clean j lk p (omega (arith, f.below))) (f.clean p lp);
      says = record {
        below = omega (arith, h.below, f.below);
        party-in = omega arith;
        is = e;
        lower = λ j lj. h.clean j lj q f.below;
      };
    }

    -- it has none
    lowest-old : ((q : ℕ) → q < most → c q k ≡ 0) → Lowest c (k + 1) most v
    lowest-old f = record {
      below = h.below;
      clean = λ j lj p lp. last_or j k (λ j. c p j ≡ 0) (omega arith) (λ lk. h.clean j lk p lp) (f p lp);
      says = says-more k most v h.says;
    }

-- ---- the definition
module _ (f : Frame) (comms : List ℕ) (m : ℕ → List ℕ) where
  -- the fault of party k at string q
  abbrev pub third_at : ℕ → ℕ → ℕ
  third_at q k = fault_at f.i (third_fault comms m q) k

  -- the own number has none
  third-own : (q k : ℕ) → k ≡ f.i → third_at q k ≡ 0
  third-own q k e = sym (fault-own f.i k (third_fault comms m q) e)

  third-other : (q k : ℕ) → k ≢ f.i → third_fault comms m q k ≡ third_at q k
  third-other q k ne = fault-other f.i k _ (third_fault comms m q) ne refl

  shut-other : (k most q : ℕ) → k ≢ f.i → Shut (λ q. third_fault comms m q k) most q → Shut (λ q. third_at q k) most q
  shut-other k most q ne h = record {
    below = h.below;
    clean = λ p l. sym (third-other p k ne) ∙ h.clean p l;
    shut = λ z. h.shut (third-other q k ne ∙ z);
  }

  -- it is 2 where there is one
  two : (q k : ℕ) → third_at q k ≢ 0 → 2 ≡ third_at q k
  unfolding third_fault
  two q k = go (neq f.i k) (same? (hash (whole_dm (m k) q)) (take 32 (drop 64 (comms_to comms k q))))
    where
      go : (b t : Bool) → pick {A = ℕ} b (pick t 0 2) 0 ≢ 0 → ◌≡◌ {A = ℕ} 2 (pick b (pick t 0 2) 0)
      go true true ne = absurd (ne refl)
      go true false ne = refl
      go false t ne = absurd (ne refl)

  -- a turn: party k has a lower string, has none, or is the own number
  module _ (k most : ℕ) (v : Result ⊤ Refusal) (h : Lowest third_at k most v) where
    pub turn-some : (q : ℕ) → k ≢ f.i → Shut (λ q. third_fault comms m q k) most q
        → Lowest third_at (k + 1) q (Err (record { reason = CommitmentCouldNotBeOpened; party = k }))
    turn-some q ne s =
        let t = shut-other k most q ne s in
        lowest-new third_at k most v h CommitmentCouldNotBeOpened q t (two q k t.shut)

    pub turn-none : k ≢ f.i → ((q : ℕ) → q < most → third_fault comms m q k ≡ 0) → Lowest third_at (k + 1) most v
    turn-none ne s = lowest-old third_at k most v h (λ q l. sym (third-other q k ne) ∙ s q l)

    pub turn-own : k ≡ f.i → Lowest third_at (k + 1) most v
    turn-own e = lowest-old third_at k most v h (λ q l. third-own q k e)

  module _ (k most : ℕ) (e : k ≡ f.n) where
    clean-string : (v : Result ⊤ Refusal) → Lowest third_at k most v → (q : ℕ) → q < most → (by_party f (third_fault comms m q)).code ≡ 0
    clean-string v h q l =
        finds-none f.n f.i (third_fault comms m q) f.l f.n (scan-none f.n _ (λ j lj. h.clean j (omega arith) q l)) refl

    clean-strings : (v : Result ⊤ Refusal) → Lowest third_at k most v → (first_of most (λ q. by_party f (third_fault comms m q))).code ≡ 0
    clean-strings v h = first-none most _ (clean-string v h)

    pub lowest-found : (v : Result ⊤ Refusal) → Lowest third_at k most v → Finds v (third_faults f comms m)
    unfolding third_faults
    lowest-found (Ok u) h = item-none _ STRINGS most h.says (clean-strings (Ok u) h)
    lowest-found (Err r) h =
        item-first _ STRINGS most r h.says.below (clean-strings (Err r) h)
        (finds-first f.n f.i (third_fault comms m most) f.l r.party r.reason (omega (arith, h.says.party-in))
        (scan-none r.party _ h.says.lower) h.says.is)
