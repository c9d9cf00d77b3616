-- Opening by the case it falls into.
use Rattle.refusals.specs.declared.Reason.{Reason}
use Rattle.refusals.specs.Reason.{number, code_of, number-some}
use Rattle.std.specs.Result.{result_and}
use Rattle.std.specs.Prelude.{◌≡◌, ⊤, Result, Ok, Err, Bool, ◌&&◌, ◌≢◌, List, ℕ, ◌+◌, ◌-◌, ◌*◌, length, get_or}
use Rattle.std.proofs.Math.Path.{refl, sym, ap, ap₂}
use Rattle.std.proofs.Common.{◌∙◌, arith}
use Rattle.std.proofs.Math.Bool.{true, false}
use Rattle.std.proofs.Math.Dec.{ltb, leb, eqb}
use borrow.Author.Tests.{eq-eqb, ne_eqb, eqb-true, eqb-false, leb-true, ltb-true}
use Rattle.lists.specs.Pick.{pick}
use Rattle.lists.specs.All.{all_of, all-turn, all_more, and_first, and_second}
use Rattle.algebra.specs.Sum.{neq-true, neq-self}
use Rattle.batches.specs.Batches.{total, sum_of, counts_fault, tally}
use Rattle.batches.specs.BatchLaws.{taken, sum-taken}
use Rattle.plan.specs.Plan.{InRange, parties?, in_range, leaky, out_len, msg_len}
use Rattle.plan.specs.PlanLaws.{in_range_lem, bits-len, shares-len, masks-len, pairs_len_lem, out-len, order-first}
use Rattle.engine.specs.declared.Frame.{Frame}
use Rattle.engine.specs.Step.{frame, Accepted, Refused, outcome}
use Rattle.engine.specs.Area.{to_others}
use Rattle.rounds.specs.Area.{sizes, size_of, work_len}
use Rattle.rounds.specs.Opening.{Args, party, or_fault, lists_due, buffers_due, masks_fault, bytes_fault, lengths_fault, reason, area}
use Rattle.rounds.specs.Opening.{no_session, spec}
use Rattle.rounds.specs.OpeningLaws.{neither, within}
use Rattle.rounds.specs.Toss as Toss
use Rattle.area.specs.Given.{Ranged}
use Rattle.inputs.specs.Given.{Lens, lens, Counted, found_at, found, lists?, buffers?, row?, masks?, bytes_of, Due}

-- ---- a chain of reasons
pub or_left : (x y : ℕ) → x ≢ 0 → or_fault x y ≡ x
unfolding or_fault
or_left x y h = rw (ne_eqb x 0 h) refl

pub or_right : (x y : ℕ) → x ≡ 0 → or_fault x y ≡ y
unfolding or_fault
or_right x y h = rw (eq-eqb x 0 h) refl

-- the first of two refusals
pub code-and : (a b : Result ⊤ Reason) → code_of (result_and a b) ≡ or_fault (code_of a) (code_of b)
unfolding or_fault
code-and (Ok _) b = refl
code-and (Err r) b = sym (or_left (number r) (code_of b) (number-some r))

and-true : (b : Bool) → b ≡ (b && true)
and-true true = refl
and-true false = refl

and-3 : (p q r : Bool) → (p && q && r) ≡ true → (p ≡ true) × (q ≡ true) × (r ≡ true)
and-3 p q r e = let d = and_first (p && q) r e in (and_first p q d, and_second p q d, and_second (p && q) r e)

and-6 : (p q r s t u : Bool) → (p && q && r && s && t && u) ≡ true
    → (p ≡ true) × (q ≡ true) × (r ≡ true) × (s ≡ true) × (t ≡ true) × (u ≡ true)
and-6 p q r s t u e =
    let a = and-3 (p && q && r && s) t u e in
    let b = and-3 (p && q) r s a.0 in
    (and_first p q b.0, and_second p q b.0, b.1, b.2, a.1, a.2)

-- ---- a row of the masks
pub row-own : (f : Frame) (masks : List ℕ) (k : ℕ) → f.i ≡ k → true ≡ row? f masks k
unfolding row?
row-own f masks k e = rw (e, neq-self k) refl

pub row_other : (f : Frame) (masks : List ℕ) (k count : ℕ) (r : Bool) → f.i ≢ k → count ≡ leaky f.l
    → r ≡ all_of count (λ t. leb (get_or masks (k * count + t) 0) 1) → r ≡ row? f masks k
unfolding row?
row_other f masks k count r ne e h = h ∙ ap (λ m. all_of m (λ t. leb (get_or masks (k * m + t) 0) 1)) e ∙ rw (neq-true f.i k ne) refl

-- ---- the chain of the definition
-- p: n and i are in range; counts: what is refused of the counts. What stands behind these tests may lean on them.
abbrev chain? : Bool → ℕ → Bool → Bool → ℕ
chain? p counts lists rest = pick p (or_fault counts (pick lists (pick rest 0 17) 6)) 15

chain : (p : Bool) (counts : ℕ) (lists lists' rest rest' : Bool) → (p ≡ true → counts ≡ 0 → (lists ≡ lists') × (rest ≡ rest'))
    → chain? p counts lists rest ≡ chain? p counts lists' rest'
unfolding or_fault
chain false counts lists lists' rest rest' h = refl
chain true counts lists lists' rest rest' h = go (eqb counts 0) refl
  where
    go : (z : Bool) → eqb counts 0 ≡ z
        → ◌≡◌ {A = ℕ} (pick z (pick lists (pick rest 0 17) 6) counts) (pick z (pick lists' (pick rest' 0 17) 6) counts)
    go true e = let q = h refl (eqb-true counts 0 e) in rw (q.0, q.1) refl
    go false e = refl

chained : (p : Bool) (counts : ℕ) (lists rest : Bool)
    → or_fault (pick p 0 15) (or_fault counts (or_fault (pick lists 0 6) (pick rest 0 17))) ≡ chain? p counts lists rest
unfolding or_fault
chained false counts lists rest = refl
chained true counts false rest = refl
chained true counts true rest = refl

-- ---- what stands behind the tests of the numbers and the lengths
module _ (f : Frame) where
  abbrev n : ℕ
  n = f.n

  abbrev i : ℕ
  i = f.i

  abbrev l : ℕ
  l = f.l

  -- n, i and l are in range
  in-chain : (leb 2 n && leb n 8 && ltb i n) ≡ true → (counts : ℕ) → Counted f counts → counts ≡ 0 → Ranged f
  in-chain p counts h z =
      let q = and-3 (leb 2 n) (leb n 8) (ltb i n) p in
      record {
        own = ltb-true i n q.2;
        range = record { two = leb-true 2 n q.0; eight = leb-true n 8 q.1; one = (h z).0; most = (h z).1 };
      }

  out-due : InRange n l → out_len n l 0 ≡ (n - 1) * msg_len n l 1
  out-due r = out-len n l r 0 (omega arith) refl ∙ ap (λ k. (n - 1) * msg_len n l k) (order-first n)

  work-due : InRange n l → pick (in_range n l) (work_len f) 0 ≡ work_len f
  work-due r = rw (in_range_lem n l r) refl

  pub due_of_lem : (v : Lens) (counts : ℕ) → Counted f counts → lengths_fault f counts v.bits v.alpha v.beta (buffers? f v) ≡ 0
      → Due f v
  unfolding lists_due buffers? size_of sizes
  due_of_lem v counts c h =
      let w = within f counts v.bits v.alpha v.beta (buffers? f v) h in
      let r : InRange n l = record { two = w.two; eight = w.eight; one = (c w.none).0; most = (c w.none).1 } in
      let s = and-3 _ _ _ w.lists in
      let b = and-6 _ _ _ _ _ _ w.buffers in
      record {
        ranges = record { own = w.own; range = r };
        lists = record { bits = eqb-true _ _ s.0; alpha = eqb-true _ _ s.1; beta = eqb-true _ _ s.2 };
        seeds = record {
          delta = eqb-true _ _ b.0;
          seed = eqb-true _ _ b.1;
          pairs = eqb-true _ _ b.2 ∙ pairs_len_lem n l r;
          masks = eqb-true _ _ b.3 ∙ masks-len n l r;
        };
        work = eqb-true _ _ b.4 ∙ work-due r;
        out = eqb-true _ _ b.5 ∙ out-due r;
      }

  -- the tests of the numbers and of the lengths, one after another
  pub tested : (counts : ℕ) → Counted f counts → (bits alpha beta : ℕ) (rest : Bool)
      → or_fault (pick (parties? n && ltb i n) 0 15) (or_fault counts (or_fault (pick (lists? f bits alpha beta) 0 6) (pick rest 0 17)))
      ≡ lengths_fault f counts bits alpha beta rest
  unfolding lengths_fault lists_due lists? parties?
  tested counts c bits alpha beta rest =
      chained (leb 2 n && leb n 8 && ltb i n) counts (lists? f bits alpha beta) rest
      ∙ chain (leb 2 n && leb n 8 && ltb i n) counts (lists? f bits alpha beta) (lists_due f bits alpha beta) rest rest
      (λ p z. let r = (in-chain p counts c z).range in (rw (bits-len n l r, shares-len n l r) refl, refl))

-- ---- the counts
-- with the sum that the code has, the lengths due mean what they should
pub counted : (n i : ℕ) (c : List ℕ) (l code : ℕ) → l ≡ sum_of c → code ≡ counts_fault c → Counted (frame n l i) code
counted n i c l code hl hc z =
    let t = taken c (sym hc ∙ z) in
    let e : l ≡ total c = sum-taken c l hl (sym hc ∙ z) in
    (omega (arith, t.one, e), omega (arith, t.sum, e))

-- where the counts are refused it makes no difference which l stands behind
module _ (n i : ℕ) (c : List ℕ) where
  lengths-same : (bits alpha beta : ℕ) (rest rest' : Bool) → (counts_fault c ≡ 0 → rest ≡ rest')
      → lengths_fault (frame n (sum_of c) i) (counts_fault c) bits alpha beta rest
      ≡ lengths_fault (frame n (total c) i) (counts_fault c) bits alpha beta rest'
  unfolding lengths_fault
  lengths-same bits alpha beta rest rest' h =
      chain (leb 2 n && leb n 8 && ltb i n) (counts_fault c) _ _ rest rest'
      (λ p z. (ap (λ l. lists_due (frame n l i) bits alpha beta) (sum-taken c (sum_of c) refl z), h z))

  pub lengths-as : (m code bits alpha beta : ℕ) (rest : Bool) → m ≡ sum_of c → code ≡ counts_fault c
      → lengths_fault (frame n m i) code bits alpha beta rest ≡ lengths_fault (frame n (total c) i) (counts_fault c) bits alpha beta rest
  lengths-as m code bits alpha beta rest hl hc = rw (hl, hc) (lengths-same bits alpha beta rest rest (λ z. refl))

  some-fault : (m bits alpha beta : ℕ) (rest : Bool) → counts_fault c ≢ 0
      → lengths_fault (frame n m i) (counts_fault c) bits alpha beta rest ≢ 0
  some-fault m bits alpha beta rest ne z = ne (within (frame n m i) (counts_fault c) bits alpha beta rest z).none

  pub found_as : (m code : ℕ) (v : Lens) (bits alpha beta masks : List ℕ) → m ≡ sum_of c → code ≡ counts_fault c
      → found_at (frame n m i) code v bits alpha beta masks ≡ found_at (frame n (total c) i) (counts_fault c) v bits alpha beta masks
  unfolding found_at
  found_as m code v bits alpha beta masks hl hc = rw (hl, hc) (go (eqb (counts_fault c) 0) refl)
    where
      go : (b : Bool) → eqb (counts_fault c) 0 ≡ b
          → found_at (frame n (sum_of c) i) (counts_fault c) v bits alpha beta masks
          ≡ found_at (frame n (total c) i) (counts_fault c) v bits alpha beta masks
      go true e =
          ap (λ m. found_at (frame n m i) (counts_fault c) v bits alpha beta masks) (sum-taken c (sum_of c) refl (eqb-true
          (counts_fault c) 0 e))
      go false e =
          let ne : counts_fault c ≢ 0 = eqb-false (counts_fault c) 0 e in
          or_left _ _ (some-fault (sum_of c) v.bits v.alpha v.beta _ ne)
          ∙ lengths-same v.bits v.alpha v.beta _ _ (λ z. absurd (ne z))
          ∙ sym (or_left _ _ (some-fault (total c) v.bits v.alpha v.beta _ ne))

module _ (a : Args) where
  abbrev f : Frame
  f = party a

  buffers-same : InRange f.n f.l → buffers_due a ≡ buffers? f (lens a)
  unfolding buffers_due buffers?
  buffers-same r = rw (pairs_len_lem f.n f.l r, masks-len f.n f.l r, work-due f r, out-due f r) refl

  bytes_same : bytes_fault a ≡ bytes_of f a.bits a.alpha a.beta a.masks
  unfolding bytes_fault masks_fault bytes_of masks? row?
  bytes_same = refl

  -- the sum is in range where nothing is refused of the counts
  ranged : Counted f (counts_fault a.counts)
  ranged z = let t = taken a.counts z in (t.one, t.sum)

  pub reason-found : reason a ≡ found a
  unfolding reason lengths_fault found_at
  reason-found =
      ap₂ or_fault
      (chain (leb 2 f.n && leb f.n 8 && ltb f.i f.n) (counts_fault a.counts)
      (lists_due f (length a.bits) (length a.alpha) (length a.beta)) _
      (buffers_due a) (buffers? f (lens a)) (λ p z. (refl, buffers-same (in-chain f p _ ranged z).range)))
      bytes_same

  -- it is refused
  pub refuses : (code : ℕ) → code ≡ found a → code ≢ 0
      → outcome (no_session a.n a.i) (Refused code a.i) a.work a.out ≡ spec a
  unfolding spec
  refuses code e h =
      let q : code ≡ reason a = e ∙ sym reason-found in
      rw (ne_eqb (reason a) 0 (λ z. h (q ∙ z))) (ap (λ k. outcome (no_session a.n a.i) (Refused k a.i) a.work a.out) q)

  -- it is not
  pub accepts : (code : ℕ) → code ≡ found a → code ≡ 0
      → spec a ≡ outcome (record { party = f; due = 1; counts = tally a.counts }) Accepted (area a)
      (to_others f.n f.i (λ r. Toss.comm_msg a.seed f.i))
  unfolding spec
  accepts code e h = rw (eq-eqb (reason a) 0 (reason-found ∙ sym e ∙ h)) refl

  pub due : (code : ℕ) → code ≡ found a → code ≡ 0 → Due f (lens a)
  unfolding found_at
  due code e h = due_of_lem f (lens a) _ ranged (neither _ _ (sym e ∙ h)).0

  pub taken-counts : (code : ℕ) → code ≡ found a → code ≡ 0 → counts_fault a.counts ≡ 0
  unfolding found_at
  taken-counts code e h = (within f _ _ _ _ _ (neither _ _ (sym e ∙ h)).0).none
