-- What follows from the definitions.
use Rattle.lists.specs.Kit.{refl, sym, ap, ap₂, ◌∙◌, List, [], Bool, true, false, not}
use Rattle.lists.specs.Kit.{ℕ, zero, suc, arith, length, get_or, take}
use Rattle.std.proofs.Common.{le_refl, length-take-le, get_or-take, leb-true, eqb-true, ltb-true, ltb-false, le-leb, eq-eqb, ne_eqb}
use Rattle.std.proofs.Math.ListN.{get_or-eq_default}
use Rattle.std.specs.Prelude.{leb, eqb, ltb, ◌≡◌, ◌≢◌, ◌∷◌, ◌||◌, ◌+◌, ◌*◌, ◌<◌, ◌≤◌}
use Rattle.std.proofs.lemmas.Bool.{eqb-false}
use Rattle.lists.specs.Pick.{pick, pick-then, by-eq}
use Rattle.lists.specs.All.{and_first, and_second, not-true, all_of_lem, of-all}
use Rattle.lists.specs.Over.{tab, cat, length-tab, get_or-tab, length-cat}
use Rattle.lists.specs.Tab.{tab-get_or}
use Rattle.lists.specs.Rows.{cat-ext, tab-ext, chunk-cat, get_d_chunk}
use Rattle.batches.specs.Batches.{MOST, first, total, sum_of, few, filled, counts_fault, tally, joined, whole, pair, told}
use Rattle.batches.specs.Turns.{first-within, follows, length-pair}

or-true : (b : Bool) → (b || true) ≡ true
or-true true = refl
or-true false = refl

-- ---- sums
-- counts that agree
first-ext : (n : ℕ) (c d : List ℕ) → ((j : ℕ) → j < n → get_or c j 0 ≡ get_or d j 0) → first n c ≡ first n d
unfolding first
first-ext zero c d h = refl
first-ext (suc n) c d h = ap₂ ◌+◌ (first-ext n c d (λ j l. h j (omega arith))) (h n (le_refl (suc n)))

-- nothing comes behind the last
first_past : (n : ℕ) (c : List ℕ) → length c ≤ n → first n c ≡ total c
unfolding first total
first_past zero c h = ap (λ k. first k c) (let e : 0 ≡ length c = omega arith in e)
first_past (suc n) c h =
    by-eq (first (suc n) c ≡ first (length c) c) (length c) (suc n) (λ e. ap (λ k. first k c) (sym e))
    (λ ne. let w : length c ≤ n = omega arith in omega (arith, first_past n c w, get_or-eq_default c 0 w))

-- ---- the counts as kept
pub length-tally : (c : List ℕ) → length (tally c) ≡ MOST
unfolding tally
length-tally c = length-tab MOST (λ j. get_or c j 0)

pub tally-at : (c : List ℕ) (j : ℕ) → j < MOST → get_or (tally c) j 0 ≡ get_or c j 0
unfolding tally
tally-at c j h = get_or-tab MOST j (λ k. get_or c k 0) 0 h

pub total-tally : (c : List ℕ) → length c ≤ MOST → total (tally c) ≡ total c
total-tally c h =
    sym (first_past MOST (tally c) (omega (arith, length-tally c))) ∙ first-ext MOST (tally c) c (tally-at c) ∙ first_past MOST c h

pub told-tally : (c : List ℕ) → told (tally c) ≡ told c
unfolding told pair
told-tally c =
    cat-ext MOST (pair (tally c)) (pair c)
    (λ j h. ap₂ (λ x y. pick (eqb x 0) (0 ∷ 0 ∷ []) (y ∷ x ∷ [])) (tally-at c j h)
    (first-ext j (tally c) c (λ i l. tally-at c i (omega arith))))

-- ---- what no fault says
pub record Taken (c : List ℕ) : Type 0 where
  pub some : 1 ≤ length c
  pub most : length c ≤ MOST
  pub one : 1 ≤ total c
  pub sum : total c ≤ 300000
  pub each : (j : ℕ) → j < length c → get_or c j 0 ≢ 0

pub taken : (c : List ℕ) → counts_fault c ≡ 0 → Taken c
unfolding counts_fault few filled total
taken c h =
    let a = pick-then (few c) _ 23 0 (λ e. omega arith) h in
    let b = pick-then (leb (total c) 300000) _ 16 0 (λ e. omega arith) a.1 in
    let d = pick-then (filled c) 0 3 0 (λ e. omega arith) b.1 in
    let some = leb-true 1 (length c) (and_first (leb 1 (length c)) (leb (length c) MOST) a.0) in
    let each : (j : ℕ) → j < length c → get_or c j 0 ≢ 0 =
    λ j l. eqb-false _ 0 (not-true _ (of-all (length c) (λ k. not (eqb (get_or c k 0) 0)) d.0 j l)) in
    record {
      some = some;
      most = leb-true (length c) MOST (and_second (leb 1 (length c)) (leb (length c) MOST) a.0);
      one = omega (arith, each 0 some, first-within c (length c) 0 some);
      sum = leb-true (total c) 300000 b.0;
      each = each;
    }

-- the sum that a box has is theirs
pub sum-taken : (c : List ℕ) (m : ℕ) → m ≡ sum_of c → counts_fault c ≡ 0 → m ≡ total c
sum-taken c m h z = h ∙ ap (λ b. pick b (total c) 0) (le-leb (length c) MOST (taken c z).most)

pub untaken : (c : List ℕ) → Taken c → counts_fault c ≡ 0
unfolding counts_fault few filled
untaken c t =
    rw (
      le-leb 1 (length c) t.some,
      le-leb (length c) MOST t.most,
      le-leb (total c) 300000 t.sum,
      all_of_lem (length c) (λ k. not (eqb (get_or c k 0) 0)) (λ j l. ap not (ne_eqb (get_or c j 0) 0 (t.each j l))),
    ) refl

-- what was taken is counts that a session can have
pub whole-tally : (c : List ℕ) → counts_fault c ≡ 0 → whole (total c) (tally c) ≡ true
unfolding whole joined
whole-tally c h =
    let t = taken c h in
    rw (eq-eqb (total (tally c)) (total c) (total-tally c t.most))
    (all_of_lem 15 (follows (tally c)) (λ j l. at t j l (ltb j (length c)) refl))
  where
    at : Taken c → (j : ℕ) → j < 15 → (b : Bool) → ltb j (length c) ≡ b
        → follows (tally c) j ≡ true
    at t j l true e = rw (tally-at c j (omega arith), ne_eqb (get_or c j 0) 0 (t.each j (ltb-true j (length c) e))) refl
    at t j l false e =
        rw (eq-eqb (get_or (tally c) (suc j) 0) 0
        (tally-at c (suc j) (omega arith) ∙ get_or-eq_default c 0 (omega (arith, ltb-false j (length c) e))))
        (or-true (not (eqb (get_or (tally c) j 0) 0)))

-- ---- the single batch of l
pub total-single : (l : ℕ) → total (l ∷ []) ≡ l
unfolding total first
total-single l = omega arith

pub single-taken : (l : ℕ) → 1 ≤ l → l ≤ 300000 → counts_fault (l ∷ []) ≡ 0
single-taken l h w =
    untaken (l ∷ []) (record {
      some = omega arith;
      most = omega arith;
      one = omega (arith, total-single l);
      sum = omega (arith, total-single l);
      each = λ j k. rw (let e : j ≡ 0 = omega arith in e) (λ z. omega arith);
    })

pub whole-total : (l : ℕ) (c : List ℕ) → whole l c ≡ true → total c ≡ l
unfolding whole
whole-total l c h = eqb-true (total c) l (and_first (eqb (total c) l) (joined c) h)

-- ---- what is told
-- the batches lie one behind the other from 0 and make l: b are the numbers told of the counts c
pub record Behind (l : ℕ) (c b : List ℕ) : Type 0 where
  pub long : length b ≡ 32
  pub start : get_or b 0 0 ≡ 0
  pub next : (j : ℕ) → suc j < length c → get_or b (2 * suc j) 0 ≡ get_or b (2 * j) 0 + get_or b (2 * j + 1) 0
  pub end : (j : ℕ) → suc j ≡ length c → get_or b (2 * j) 0 + get_or b (2 * j + 1) 0 ≡ l
  pub counts-are : (j : ℕ) → j < length c → get_or b (2 * j + 1) 0 ≡ get_or c j 0
  pub rest : (t : ℕ) → 2 * length c ≤ t → get_or b t 0 ≡ 0

module _ (c : List ℕ) where
  length-told : length (told c) ≡ 32
  unfolding told
  length-told = length-cat MOST 2 (pair c) (λ j h. length-pair c j)

  -- pair j is found at 2 j
  told_at : (j i : ℕ) → j < MOST → i < 2 → get_or (told c) (2 * j + i) 0 ≡ get_or (pair c j) i 0
  unfolding told
  told_at j i h w =
      ap (λ k. get_or (cat MOST (pair c)) k 0) (let e : 2 * j + i ≡ j * 2 + i = omega arith in e)
      ∙ sym (get_d_chunk 2 j (cat MOST (pair c)) i 0 w)
      ∙ ap (λ (p : List ℕ). get_or p i 0) (chunk-cat 2 MOST (pair c) (λ k l. length-pair c k) j h)

  module _ (j : ℕ) (h : j < MOST) where
    told-used : get_or c j 0 ≢ 0 → (get_or (told c) (2 * j) 0 ≡ first j c) × (get_or (told c) (2 * j + 1) 0 ≡ get_or c j 0)
    unfolding pair
    told-used n =
        let e : pair c j ≡ first j c ∷ get_or c j 0 ∷ [] = rw (ne_eqb (get_or c j 0) 0 n) refl in (
          ap (λ k. get_or (told c) k 0) (let z : 2 * j ≡ 2 * j + 0 = omega arith in z) ∙ told_at j 0 h (omega arith)
              ∙ ap (λ (p : List ℕ). get_or p 0 0) e,
          told_at j 1 h (omega arith) ∙ ap (λ (p : List ℕ). get_or p 1 0) e,
        )

    told-unused : get_or c j 0 ≡ 0 → (i : ℕ) → i < 2 → get_or (told c) (2 * j + i) 0 ≡ 0
    unfolding pair
    told-unused z i w = told_at j i h w ∙ ap (λ (p : List ℕ). get_or p i 0) e ∙ two i
      where
        e : pair c j ≡ 0 ∷ 0 ∷ []
        e = rw (eq-eqb (get_or c j 0) 0 z) refl

        two : (i : ℕ) → ◌≡◌ {A = ℕ} (get_or (0 ∷ 0 ∷ []) i 0) 0
        two zero = refl
        two (suc zero) = refl
        two (suc (suc i)) = refl

-- a number is even or odd
record Half (t : ℕ) : Type 0 where
  half : ℕ
  odd : ℕ
  small : odd < 2
  made : t ≡ 2 * half + odd

halved : (t : ℕ) → Half t
halved zero = record { half = 0; odd = 0; small = omega arith; made = omega arith }
halved (suc t) =
    let h = halved t in
    by-eq (Half (suc t)) h.odd 0 (λ e. record { half = h.half; odd = 1; small = omega arith; made = omega arith })
    (λ e. record { half = suc h.half; odd = 0; small = omega arith; made = omega arith })

pub behind : (c : List ℕ) → counts_fault c ≡ 0 → Behind (total c) c (told c)
unfolding first total
behind c f =
    record {
      long = length-told c;
      start = (used 0 t.some).0;
      next = λ j h. let a = used j (omega arith) in let b = used (suc j) h in omega (arith, a, b);
      end = λ j h. let a = used j (omega arith) in omega (arith, a, ap (λ k. first k c) h);
      counts-are = λ j h. (used j h).1;
      rest = λ k h. rest k h (halved k);
    }
  where
    t : Taken c
    t = taken c f

    used : (j : ℕ) → j < length c → (get_or (told c) (2 * j) 0 ≡ first j c) × (get_or (told c) (2 * j + 1) 0 ≡ get_or c j 0)
    used j h = told-used c j (omega (arith, t.most)) (t.each j h)

    rest : (k : ℕ) → 2 * length c ≤ k → Half k → get_or (told c) k 0 ≡ 0
    rest k h s = go (ltb s.half MOST) refl
      where
        go : (b : Bool) → ltb s.half MOST ≡ b → get_or (told c) k 0 ≡ 0
        go true e =
            ap (λ n. get_or (told c) n 0) s.made
            ∙ told-unused c s.half (ltb-true s.half MOST e)
            (get_or-eq_default c 0 (omega (arith, s.made, s.small))) s.odd s.small
        go false e = get_or-eq_default (told c) 0 (omega (arith, s.made, ltb-false s.half MOST e, length-told c))

-- ---- the counts that opening kept
-- those before the first zero
record Cut (c : List ℕ) (n : ℕ) : Type 0 where
  till : ℕ
  within : till ≤ n
  before : (j : ℕ) → j < till → get_or c j 0 ≢ 0
  stops : till < n → get_or c till 0 ≡ 0

cut-more : (c : List ℕ) (n : ℕ) → Cut c n → Cut c (suc n)
cut-more c n h = by-eq (Cut c (suc n)) h.till n (λ e. by-eq (Cut c (suc n)) (get_or c n 0) 0 (stop e) (more e)) same
  where
    same : h.till ≢ n → Cut c (suc n)
    same e =
        let w = h.within in record { till = h.till; within = omega arith; before = h.before; stops = λ l. h.stops (omega arith) }

    stop : h.till ≡ n → get_or c n 0 ≡ 0 → Cut c (suc n)
    stop e z = record { till = n; within = omega arith; before = λ j l. h.before j (omega arith); stops = λ l. z }

    more : h.till ≡ n → get_or c n 0 ≢ 0 → Cut c (suc n)
    more e z =
        record {
          till = suc n;
          within = le_refl (suc n);
          before = λ j l. by-eq (get_or c j 0 ≢ 0) j n (λ q. rw q z) (λ q. h.before j (omega arith));
          stops = λ l. absurd (omega arith);
        }

cut : (c : List ℕ) (n : ℕ) → Cut c n
cut c zero = record { till = 0; within = omega arith; before = λ j l. absurd (omega arith); stops = λ l. absurd (omega arith) }
cut c (suc n) = cut-more c n (cut c n)

-- behind an unused one all are
unused-on : (c : List ℕ) → joined c ≡ true → (m : ℕ) → get_or c m 0 ≡ 0 → (j : ℕ) → m ≤ j → j < MOST → get_or c j 0 ≡ 0
unfolding joined
unused-on c w m z zero h l = ap (λ k. get_or c k 0) (let e : 0 ≡ m = omega arith in e) ∙ z
unused-on c w m z (suc j) h l =
    by-eq (get_or c (suc j) 0 ≡ 0) m (suc j) (λ e. rw (sym e) z)
    (λ ne. next (unused-on c w m z j (omega arith) (omega arith))
    (of-all 15 (follows c) w j (omega arith)))
  where
    next : get_or c j 0 ≡ 0 → follows c j ≡ true → get_or c (suc j) 0 ≡ 0
    next e v = eqb-true (get_or c (suc j) 0) 0 (rw (eq-eqb (get_or c j 0) 0 e) at v)

total-none : (c : List ℕ) → length c ≡ 0 → total c ≡ 0
unfolding total first
total-none c e = ap (λ n. first n c) e

-- a session's counts are those that opening kept of some list
pub opened_with : (l : ℕ) (c : List ℕ) → length c ≡ MOST → 1 ≤ l → l ≤ 300000 → whole l c ≡ true
    → (d : List ℕ) × (counts_fault d ≡ 0) × (tally d ≡ c) × (total d ≡ l)
unfolding whole tally
opened_with l c e h w v = (d, untaken d is-taken, kept, sum)
  where
    k : Cut c MOST
    k = cut c MOST

    d : List ℕ
    d = take k.till c

    long : length d ≡ k.till
    long = length-take-le k.till c (omega (arith, k.within))

    same : (j : ℕ) → j < MOST → get_or d j 0 ≡ get_or c j 0
    same j i = go (ltb j k.till) refl
      where
        go : (b : Bool) → ltb j k.till ≡ b → get_or d j 0 ≡ get_or c j 0
        go true q = get_or-take k.till c j 0 (ltb-true j k.till q)
        go false q =
            let m : k.till ≤ j = ltb-false j k.till q in
            get_or-eq_default d 0 (omega (arith, long))
            ∙ sym (unused-on c (and_second (eqb (total c) l) (joined c) v) k.till (k.stops (omega arith)) j m i)

    kept : tally d ≡ c
    kept = tab-ext MOST (λ j. get_or d j 0) (λ j. get_or c j 0) same ∙ ap (λ n. tab n (λ j. get_or c j 0)) (sym e) ∙ tab-get_or c 0

    sum : total d ≡ l
    sum = sym (total-tally d (omega (arith, long, k.within))) ∙ ap total kept ∙ whole-total l c v

    is-taken : Taken d
    is-taken = record {
      some = by-eq (1 ≤ length d) (length d) 0 (λ z. absurd (omega (arith, total-none d z, sum))) (λ z. omega arith);
      most = omega (arith, long, k.within);
      one = omega (arith, sum);
      sum = omega (arith, sum);
      each = λ j i. let m : j < k.till = omega (arith, long) in rw (get_or-take k.till c j 0 m) (k.before j m);
    }
