-- A content check finds one of its round's numbers, and names a party of the session: so what waits for an echo is found again, and fits
-- two bytes.
use Rattle.std.specs.Prelude.{◌≡◌, Bool, ◌&&◌, ◌||◌, ◌≢◌, List, [], ◌∷◌, take, drop, leb, eqb}
use Rattle.std.proofs.Math.Path.{refl}
use Rattle.std.proofs.Math.Bool.{true, false}
use Prim.Native.Nat.{ℕ, zero, suc, ◌+◌, ◌*◌, ◌<◌, ◌≤◌}
use Rattle.std.proofs.Common.{le_refl, arith}
use Rattle.std.proofs.Math.ListN.{get_or}
use Rattle.std.proofs.Math.Dec.{ltb}
use borrow.Author.Tests.{ltb-true}
use Rattle.lists.specs.Pick.{pick}
use Rattle.lists.specs.All.{all_of}
use Rattle.lists.specs.Rows.{chunk}
use Rattle.lists.specs.Same.{same?}
use Rattle.block.specs.declared.Block.{Block}
use Rattle.block.specs.Block.{word_at, block_at, bytes_of, eq_block}
use Rattle.blake3.specs.Tree.{hash}
use Rattle.message.specs.declared.Kind.TheVariants.{Dms}
use Rattle.message.specs.Format.{item_at}
use Rattle.plan.specs.Plan.{leaky, dm_len}
use Rattle.engine.specs.declared.Frame.{Frame}
use Rattle.engine.specs.Step.{Lent, Fault, none?, other, mask, part, or_else, scan, by_party, fault_of}
use Rattle.engine.specs.Plain.{waiting, is_echo, to_echo, pending, echo_check, check_of, rule_of}
use Rattle.engine.specs.Area.{mem}
use Rattle.rounds.specs.Area.{first_of}
use Rattle.rounds.specs.Toss as Toss
use Rattle.rounds.specs.Fabitn as Fabitn
use Rattle.rounds.specs.Fashare as Fashare
use Rattle.rounds.specs.Flaand as Flaand
use Rattle.rounds.specs.Buckets as Buckets
use Rattle.rounds.specs.Beaver as Beaver
use Rattle.rounds.specs.Table as Table

-- a fault, if it is one, has one of these numbers, and names one of n parties
unfoldable pub Found : List ℕ → ℕ → Fault → Type 0
Found numbers n e = e.code ≢ 0 → (mem e.code numbers ≡ true) × (e.party < n)

-- one of these numbers, or 0
unfoldable One : List ℕ → ℕ → Type 0
One numbers c = c ≢ 0 → mem c numbers ≡ true

one-zero : (numbers : List ℕ) → One numbers 0
unfolding One
one-zero numbers ne = absurd (ne refl)

one_of : (numbers : List ℕ) (c : ℕ) → mem c numbers ≡ true → One numbers c
unfolding One
one_of numbers c e ne = e

one-pick : (numbers : List ℕ) (b : Bool) (c d : ℕ) → One numbers c → One numbers d → One numbers (pick b c d)
one-pick numbers true c d hc hd = hc
one-pick numbers false c d hc hd = hd

-- 0, or the number that a test gives
test : (numbers : List ℕ) (b : Bool) (c : ℕ) → mem c numbers ≡ true → One numbers (pick b 0 c)
test numbers b c e = one-pick numbers b 0 c (one-zero numbers) (one_of numbers c e)

module _ (numbers : List ℕ) (n : ℕ) where
  found_none : Found numbers n none?
  unfolding Found
  found_none ne = absurd (ne refl)

  found-or : (x y : Fault) → Found numbers n x → Found numbers n y → Found numbers n (or_else x y)
  unfolding or_else
  found-or x y hx hy = go (eqb x.code 0)
    where
      go : (t : Bool) → Found numbers n (pick t y x)
      go true = hy
      go false = hx

  found-scan : (c : ℕ → ℕ) → ((k : ℕ) → One numbers (c k)) → (m : ℕ) → m ≤ n → Found numbers n (scan m c)
  unfolding scan One Found
  found-scan c h zero l = found_none
  found-scan c h (suc m) l =
      found-or (scan m c) (record { code = c m; party = m }) (found-scan c h m (omega arith)) (λ ne. (h m ne, l))

  found_first : (c : ℕ) (g : ℕ → Fault) → ((j : ℕ) → Found numbers n (g j)) → Found numbers n (first_of c g)
  unfolding first_of
  found_first zero g h = found_none
  found_first (suc c) g h = found-or (first_of c g) (g c) (found_first c g h) (h c)

found-by : (numbers : List ℕ) (f : Frame) (c : ℕ → ℕ) → ((k : ℕ) → One numbers (c k)) → Found numbers f.n (by_party f c)
unfolding by_party
found-by numbers f c h =
    found-scan numbers f.n _ (λ k. one-pick numbers (other f k) (c k) 0 (h k) (one-zero numbers)) f.n (le_refl f.n)

names : (numbers : List ℕ) (n p c : ℕ) → p < n → One numbers c → Found numbers n (record { code = c; party = p })
unfolding One Found
names numbers n p c l h ne = (h ne, l)

-- one arm of both tables
arm : (b : Bool) (n : ℕ) (p q : List ℕ) (x y : Fault) → Found p n x → Found q n y → Found (pick b p q) n (pick b x y)
arm true n p q x y hx hy = hx
arm false n p q x y hx hy = hy

module _ (f : Frame) (w : List ℕ) (m : ℕ → List ℕ) where
  seeds : Found (2 ∷ []) f.n (Toss.opening f w m)
  unfolding Toss.opening mem
  seeds = found-by (2 ∷ []) f _ (λ k. test (2 ∷ []) (same? (Toss.commitment (Toss.told (m k)) k) (chunk 32 k w)) 2 refl)

  module _ (delta : Block) where
    abit : (j k : ℕ) → One (8 ∷ []) (Fabitn.abit_fault delta w m j k)
    unfolding Fabitn.abit_fault mem
    abit j k = test (8 ∷ []) (eq_block _ _) 8 refl

    abits : Found (8 ∷ []) f.n (Fabitn.abits f delta w m)
    unfolding Fabitn.abits
    abits = found_first (8 ∷ []) f.n 120 _ (λ j. found-by (8 ∷ []) f (Fabitn.abit_fault delta w m j) (abit j))

  abbrev dm_numbers : List ℕ
  dm_numbers = 2 ∷ 4 ∷ 1 ∷ []

  third : (q k : ℕ) → One dm_numbers (Fashare.third_fault w m q k)
  unfolding Fashare.third_fault mem
  third q k = test dm_numbers (same? _ _) 2 refl

  dm : (q k : ℕ) → One dm_numbers (Fashare.dm_fault f m q k)
  unfolding Fashare.dm_fault mem
  dm q k =
      one-pick dm_numbers (eqb (word_at (m k) (item_at Dms (m k) q)) (dm_len f.n)) _ 4
      (test dm_numbers (leb (get_or (m k) (Fashare.dm_at (m k) q) 0) 1) 1 refl) (one_of dm_numbers 4 refl)

  dms : Found dm_numbers f.n (Fashare.ver_faults f w m)
  unfolding Fashare.ver_faults Fashare.third_faults Fashare.dm_faults
  dms = found-or dm_numbers f.n _ _
      (found_first dm_numbers f.n 40 _ (λ q. found-by dm_numbers f (Fashare.third_fault w m q) (third q)))
      (found_first dm_numbers f.n 40 _ (λ q. found-by dm_numbers f (Fashare.dm_fault f m q) (dm q)))

  module _ (comms rows : List ℕ) where
    opened : (q k : ℕ) → One (2 ∷ 9 ∷ []) (Fashare.dibi_fault f w comms rows m q k)
    unfolding Fashare.dibi_fault mem
    opened q k =
        let d = block_at (m k) (8 + q * 16) in
        let c = Fashare.comms_to comms k q in
        one-pick (2 ∷ 9 ∷ []) (same? (hash (bytes_of d)) (take 32 c) || same? (hash (bytes_of d)) (take 32 (drop 32 c))) _ 2
        (test (2 ∷ 9 ∷ []) (eq_block (Fashare.macs_for f w rows q k) d) 9 refl) (one_of (2 ∷ 9 ∷ []) 2 refl)

    dibi : Found (2 ∷ 9 ∷ []) f.n (Fashare.dibi_faults f w comms rows m)
    unfolding Fashare.dibi_faults
    dibi = found_first (2 ∷ 9 ∷ []) f.n 40 _ (λ q. found-by (2 ∷ 9 ∷ []) f (Fashare.dibi_fault f w comms rows m q) (opened q))

  hs : f.i < f.n → (comms : List ℕ) → Found (2 ∷ 10 ∷ []) f.n (Flaand.h_faults f w comms m)
  unfolding Flaand.h_faults Flaand.opening Flaand.zero_sum mem
  hs h comms = found-or (2 ∷ 10 ∷ []) f.n _ _
      (found-by (2 ∷ 10 ∷ []) f _ (λ k. test (2 ∷ 10 ∷ []) (all_of (leaky f.l) _) 2 refl))
      (names (2 ∷ 10 ∷ []) f.n f.i _ h (test (2 ∷ 10 ∷ []) (all_of (leaky f.l) _) 10 refl))

  dvalues : (delta : Block) (perm : List ℕ) → Found (11 ∷ []) f.n (Buckets.d_faults f delta w perm m)
  unfolding Buckets.d_faults mem
  dvalues delta perm = found-by (11 ∷ []) f _ (λ k. test (11 ∷ []) (all_of f.l _) 11 refl)

  faand : (delta : Block) (perm triples alpha beta : List ℕ) → Found (12 ∷ []) f.n (Beaver.de_faults f delta w perm triples alpha beta m)
  unfolding Beaver.de_faults mem
  faand delta perm triples alpha beta = found-by (12 ∷ []) f _ (λ k. test (12 ∷ []) (all_of f.l _) 12 refl)

-- the content check of round k
pub judge-found : (f : Frame) → f.i < f.n → (k : ℕ) (w : List ℕ) (m : ℕ → List ℕ) → Found (Table.faults k) f.n (Table.judge k f w m)
unfolding Table.judge Table.faults
judge-found f h k w m =
    arm (eqb k 3) f.n _ _ _ _ (seeds f _ m)
    (arm (eqb k 5) f.n _ _ _ _ (seeds f _ m)
    (arm (eqb k 6) f.n _ _ _ _ (abits f _ m _)
    (arm (eqb k 10) f.n _ _ _ _ (dms f _ m)
    (arm (eqb k 12) f.n _ _ _ _ (dibi f _ m _ _)
    (arm (eqb k 19) f.n _ _ _ _ (hs f _ m h _)
    (arm (eqb k 21) f.n _ _ _ _ (dvalues f _ m _ _)
    (arm (eqb k 22) f.n _ _ _ _ (faand f _ m _ _ _ _ _)
    (found_none [] f.n))))))))

-- ---- whatever a round call finds in what was received names a party of the session
unfoldable pub Named : ℕ → Fault → Type 0
Named n e = e.code ≢ 0 → e.party < n

module _ (n : ℕ) where
  named_none : Named n none?
  unfolding Named
  named_none ne = absurd (ne refl)

  named-pick : (b : Bool) (x y : Fault) → Named n x → Named n y → Named n (pick b x y)
  named-pick true x y hx hy = hx
  named-pick false x y hx hy = hy

  named-or : (x y : Fault) → Named n x → Named n y → Named n (or_else x y)
  unfolding or_else
  named-or x y hx hy = named-pick (eqb x.code 0) y x hy hx

  named-scan : (c : ℕ → ℕ) (m : ℕ) → m ≤ n → Named n (scan m c)
  unfolding scan Named
  named-scan c zero l = named_none
  named-scan c (suc m) l = named-or (scan m c) (record { code = c m; party = m }) (named-scan c m (omega arith)) (λ _. l)

  -- what waited for an echo
  named-waiting : (numbers x : List ℕ) → Named n (waiting numbers n x)
  unfolding waiting Named
  named-waiting numbers x = go (mem (get_or x 0 0) numbers) (ltb (get_or x 1 0) n) refl
    where
      go : (a b : Bool) → ltb (get_or x 1 0) n ≡ b
          → (pick (a && b) (record { code = get_or x 0 0; party = get_or x 1 0 }) none?).code ≢ 0
          → (pick (a && b) (record { code = get_or x 0 0; party = get_or x 1 0 }) none?).party < n
      go true true e ne = ltb-true _ _ e
      go true false e ne = absurd (ne refl)
      go false b e ne = absurd (ne refl)

named_by : (f : Frame) (c : ℕ → ℕ) → Named f.n (by_party f c)
unfolding by_party
named_by f c = named-scan f.n _ f.n (le_refl f.n)

pub fault-named : (f : Frame) → f.i < f.n → (k : ℕ) (q : Lent) (w : List ℕ) → Named f.n (fault_of (rule_of Table.table k) f q w)
unfolding fault_of check_of echo_check pending
fault-named f h k q w =
    named-or f.n _ _ (named_by f _)
    (named-pick f.n (is_echo Table.table k) _ _ (named-or f.n _ _ (named_by f _) (named-waiting f.n _ _))
    (named-pick f.n (to_echo Table.table (eqb f.n 2) k) _ _ (named_none f.n) (judged (Table.judge k f w m) (judge-found f h k w m))))
  where
    m : ℕ → List ℕ
    m = mask f (part q)

    judged : (e : Fault) → Found (Table.faults k) f.n e → Named f.n e
    judged e d = unfold Named Found in λ ne. (d ne).1
