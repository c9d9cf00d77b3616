-- What is kept for an echo, and what the echo's call finds: the definitions look at other parties' messages alone.
use Rattle.std.specs.Prelude.{◌≡◌, Ok, Err, Bool, true, false, ◌&&◌, ◌||◌, ◌≢◌, ℕ, zero, suc, ◌-◌, ◌≤◌, replicate, eqb}
use Rattle.std.proofs.Math.Path.{refl, ap, ap₂}
use Rattle.std.proofs.Common.{sym, ◌∙◌, arith}
use mathlib.Core.List.{List, [], ◌∷◌}
use Rattle.std.proofs.Math.ListN.{get_or}
use Rattle.std.proofs.Math.Dec.{ltb}
use borrow.Author.Tests.{ne_eqb, eqb-true}
use Rattle.lists.specs.Pick.{pick}
use Rattle.refusals.specs.declared.Reason.{Reason}
use Rattle.refusals.specs.declared.Reason.TheVariants as V
use Rattle.refusals.specs.Reason.{number}
use Rattle.refusals.specs.contracts.Reason.{the_type}
use denote.Enum.Declared.{tag_of}
use denote.Enum.Bare.{sameb}
use lib.Dec.{eqb-suc-suc}
use Rattle.lists.specs.Rows.{cat-ext}
use Rattle.plan.specs.Plan.{RNG_VER, PAIR_VER, FABITN, FASHARE_VER, FASHARE_DIBI, FLAAND_HASH, DVALUE, FAAND}
use Rattle.engine.specs.declared.Frame.{Frame}
use Rattle.engine.specs.Step.{Fault, none?, other, mask, or_else, by_party}
use Rattle.engine.specs.StepLaws.{other-cases, scan-ext}
use Rattle.engine.specs.Plain.{rows_of, waits, waiting, prior, digests, hashes, pending, echo_check}
use Rattle.engine.specs.Area.{mem, Every, every-mem}
use Rattle.rounds.specs.Area.{PENDING, HASHES, at}
use Rattle.rounds.specs.Echo.{hash_vec, echo, echo_fault}
use Rattle.rounds.specs.EchoLaws.{echo_faults}
use Rattle.rounds.specs.FaultLaws.{Finds}
use Rattle.rounds.specs.Table.{table, faults}

-- ---- other parties' messages alone
module _ (f : Frame) (m : ℕ → List ℕ) where
  masked : {A : Type 0} (g : List ℕ → A) (d : A) (k : ℕ) → pick (other f k) (g (mask f m k)) d ≡ pick (other f k) (g (m k)) d
  unfolding mask
  masked g d k = other-cases f k (λ b. pick b (g (pick b (m k) [])) d ≡ pick b (g (m k)) d) (λ _ _. refl) refl

  pub rows-masked : (g : List ℕ → List ℕ) → rows_of f (λ k. g (mask f m k)) ≡ rows_of f (λ k. g (m k))
  unfolding rows_of
  rows-masked g = cat-ext f.n _ _ (λ k _. masked g (replicate 16 0) k)

  pub party-masked : (c : ℕ → List ℕ → ℕ) → by_party f (λ k. c k (mask f m k)) ≡ by_party f (λ k. c k (m k))
  unfolding by_party
  party-masked c = scan-ext f.n _ _ (λ k _. masked (c k) 0 k)

  -- ---- the definitions at the table
  pub digests-are : (k : ℕ) → digests table k f (mask f m) ≡ rows_of f (λ j. hash_vec k (m j))
  unfolding digests
  digests-are k = rows-masked (hash_vec k)

  pub echo-checks : (k : ℕ) (w : List ℕ)
      → echo_check table k f w (mask f m) ≡ or_else (by_party f (echo_faults f.n f.i (at f HASHES w) m)) (pending table k f w)
  unfolding echo_check hashes at echo
  echo-checks k w = ap (λ (e : Fault). or_else e (pending table k f w)) (party-masked (λ j. echo_fault f.n f.i j (at f HASHES w)))

pub hashes_at_lem : (f : Frame) (w : List ℕ) → hashes table f w ≡ at f HASHES w
unfolding hashes at
hashes_at_lem f w = refl

-- ---- faults
-- the numbers of a round, compared one by one
mem-one : (x a : ℕ) → eqb x a ≡ mem x (a ∷ [])
unfolding mem
mem-one x a = go (eqb x a)
  where
    go : (b : Bool) → b ≡ pick b true false
    go true = refl
    go false = refl

mem-two : (x a b : ℕ) → (eqb x a || eqb x b) ≡ mem x (a ∷ b ∷ [])
unfolding mem
mem-two x a b = go (eqb x a) (mem-one x b)
  where
    go : (t : Bool) → eqb x b ≡ mem x (b ∷ []) → (t || eqb x b) ≡ pick t true (mem x (b ∷ []))
    go true e = refl
    go false e = e

mem-three : (x a b c : ℕ) → ((eqb x a || eqb x b) || eqb x c) ≡ mem x (a ∷ b ∷ c ∷ [])
unfolding mem
mem-three x a b c = go (eqb x a) (mem-two x b c)
  where
    go : (t : Bool) → (eqb x b || eqb x c) ≡ mem x (b ∷ c ∷ []) → ((t || eqb x b) || eqb x c) ≡ pick t true (mem x (b ∷ c ∷ []))
    go true e = refl
    go false e = e

module _ (k code : ℕ) where
  pub faults-one : (a c : ℕ) → faults a ≡ c ∷ [] → k ≡ a → eqb code c ≡ mem code (faults k)
  faults-one a c h e = mem-one code c ∙ sym (ap (mem code) (ap faults e ∙ h))

  pub faults-two : (a c d : ℕ) → faults a ≡ c ∷ d ∷ [] → k ≡ a → (eqb code c || eqb code d) ≡ mem code (faults k)
  faults-two a c d h e = mem-two code c d ∙ sym (ap (mem code) (ap faults e ∙ h))

  pub faults-three : (a c d e : ℕ) → faults a ≡ c ∷ d ∷ e ∷ [] → k ≡ a → ((eqb code c || eqb code d) || eqb code e) ≡ mem code (faults k)
  faults-three a c d e h q = mem-three code c d e ∙ sym (ap (mem code) (ap faults q ∙ h))

  pub faults-none : k ≢ RNG_VER → k ≢ PAIR_VER → k ≢ FABITN → k ≢ FASHARE_VER → k ≢ FASHARE_DIBI → k ≢ FLAAND_HASH → k ≢ DVALUE → k ≢
      FAAND
      → false ≡ mem code (faults k)
  unfolding faults mem
  faults-none h3 h5 h6 h10 h12 h19 h21 h22 =
      rw (
        ne_eqb k RNG_VER h3,
        ne_eqb k PAIR_VER h5,
        ne_eqb k FABITN h6,
        ne_eqb k FASHARE_VER h10,
        ne_eqb k FASHARE_DIBI h12,
        ne_eqb k FLAAND_HASH h19,
        ne_eqb k DVALUE h21,
        ne_eqb k FAAND h22,
      ) refl

-- the two bytes, and whether they are a fault
module _ (f : Frame) (k : ℕ) (w x : List ℕ) (b : Bool) (one : 1 ≤ k) (x-is : x ≡ at f PENDING w)
    (b-is : b ≡ mem (get_or x 0 0) (faults (k - 1))) where
  kept : Bool → Fault
  kept t = pick t (record { code = get_or x 0 0; party = get_or x 1 0 }) none?

  prior-is : prior k ≡ k - 1
  prior-is = go k
    where
      go : (j : ℕ) → prior j ≡ j - 1
      go zero = refl
      go (suc j) = omega arith

  pending-is : (t : Bool) → (b && ltb (get_or x 1 0) f.n) ≡ t → pending table k f w ≡ kept t
  unfolding pending waiting at kept
  pending-is t e =
      ap₂ (λ (j : ℕ) (y : List ℕ). waiting (faults j) f.n y) prior-is (sym x-is)
      ∙ ap kept (ap (λ u. u && ltb (get_or x 1 0) f.n) (sym b-is) ∙ e)

  -- they are the reason with that number, and that party
  pub finds-pending : (r : Reason) → number r ≡ get_or x 0 0 → (b && ltb (get_or x 1 0) f.n) ≡ true
      → Finds (Err (record { reason = r; party = get_or x 1 0 })) (pending table k f w)
  unfolding kept
  finds-pending r n-is e =
      (n-is ∙ sym (ap (λ (y : Fault). y.code) (pending-is true e)), sym (ap (λ (y : Fault). y.party) (pending-is true e)))

  pub finds-nothing : (b && ltb (get_or x 1 0) f.n) ≡ false → Finds (Ok tt) (pending table k f w)
  unfolding kept
  finds-nothing e = ap (λ (y : Fault). y.code) (pending-is false e)

-- reasons are compared by their numbers
number-tag : (r : Reason) → number r ≡ suc (tag_of the_type r)
number-tag V.InvalidBitValue = refl
number-tag V.CommitmentCouldNotBeOpened = refl
number-tag V.EmptyVector = refl
number-tag V.ConversionErr = refl
number-tag V.EmptyBucket = refl
number-tag V.InvalidLength = refl
number-tag V.InconsistentBroadcast = refl
number-tag V.ABitWrongMAC = refl
number-tag V.AShareWrongMAC = refl
number-tag V.LaANDXorNotZero = refl
number-tag V.AANDWrongMAC = refl
number-tag V.BeaverWrongMAC = refl
number-tag V.Undecodable = refl
number-tag V.Missing = refl
number-tag V.PartyOutOfRange = refl
number-tag V.TooMany = refl
number-tag V.WrongBuffer = refl
number-tag V.NoPermutation = refl
number-tag V.WrongRound = refl
number-tag V.NoSession = refl
number-tag V.TrailingBytes = refl
number-tag V.WrongLabel = refl
number-tag V.WrongBatches = refl

pub is-reason : (r s : Reason) (b : Bool) → b ≡ sameb the_type r s → b ≡ eqb (number r) (number s)
is-reason r s b e =
    e ∙ sym (ap₂ eqb (number-tag r) (number-tag s) ∙ eqb-suc-suc (tag_of the_type r) (tag_of the_type s))

-- the numbers that a round's content check can find are those of reasons
Reasoned : ℕ → Type 0
Reasoned c = (r : Reason) × (number r ≡ c)

arm : (b : Bool) (xs ys : List ℕ) → Every Reasoned xs → Every Reasoned ys → Every Reasoned (pick b xs ys)
arm true xs ys hx hy = hx
arm false xs ys hx hy = hy

reasoned : (k : ℕ) → Every Reasoned (faults k)
unfolding faults Reasoned
reasoned k =
    arm (eqb k RNG_VER) _ _ ((V.CommitmentCouldNotBeOpened, refl), tt)
    (arm (eqb k PAIR_VER) _ _ ((V.CommitmentCouldNotBeOpened, refl), tt)
    (arm (eqb k FABITN) _ _ ((V.ABitWrongMAC, refl), tt)
    (arm (eqb k FASHARE_VER) _ _ ((V.CommitmentCouldNotBeOpened, refl), ((V.ConversionErr, refl), ((V.InvalidBitValue, refl), tt)))
    (arm (eqb k FASHARE_DIBI) _ _ ((V.CommitmentCouldNotBeOpened, refl), ((V.AShareWrongMAC, refl), tt))
    (arm (eqb k FLAAND_HASH) _ _ ((V.CommitmentCouldNotBeOpened, refl), ((V.LaANDXorNotZero, refl), tt))
    (arm (eqb k DVALUE) _ _ ((V.AANDWrongMAC, refl), tt)
    (arm (eqb k FAAND) _ _ ((V.BeaverWrongMAC, refl), tt)
    tt)))))))

-- so a number that is no reason's is none of them
pub faults-no_reason : (k x : ℕ) → ((r : Reason) → number r ≢ x) → mem x (faults k) ≡ false
unfolding Reasoned
faults-no_reason k x ne = go (mem x (faults k)) refl
  where
    go : (b : Bool) → mem x (faults k) ≡ b → b ≡ false
    go true e = let q = every-mem Reasoned (faults k) (reasoned k) x e in absurd (ne q.0 q.1)
    go false e = refl

-- number and party in two bytes
pub waits-is : (code party p : ℕ) → p ≡ pick (eqb code 0) 0 party → code ∷ p ∷ [] ≡ waits (record { code = code; party = party })
unfolding waits
waits-is code party p e = go (eqb code 0) refl
  where
    go : (b : Bool) → eqb code 0 ≡ b → code ∷ p ∷ [] ≡ pick (eqb code 0) (0 ∷ 0 ∷ []) (code ∷ party ∷ [])
    go true q =
        ap₂ (λ c d. c ∷ d ∷ []) (eqb-true code 0 q) (e ∙ ap (λ b. pick b 0 party) q)
        ∙ sym (ap (λ b. pick b (0 ∷ 0 ∷ []) (code ∷ party ∷ [])) q)
    go false q = ap (λ d. code ∷ d ∷ []) (e ∙ ap (λ b. pick b 0 party) q) ∙ sym (ap (λ b. pick b (0 ∷ 0 ∷ []) (code ∷ party ∷ [])) q)
