-- What the numbers of a session are good for: the order of the rounds, and bounds, so that no product wraps.
use Rattle.std.specs.Prelude.{◌≡◌, ◌≢◌, Bool, true, false, ◌&&◌, ◌||◌, ℕ, zero, suc, ◌+◌, ◌-◌, ◌*◌, ◌≤◌, ◌<◌, length, get_or, ltb, leb}
use Rattle.std.proofs.Math.Path.{refl, sym, ap, subst}
use Rattle.std.proofs.Common.{◌∙◌, add-zero, mul-le-mul, arith}
use Rattle.std.specs.Bool.{beq}
use Rattle.std.proofs.Math.Numerals.{add-one}
use Rattle.std.proofs.Math.Dec.{eqb}
use borrow.Author.Tests.{ltb-true, ltb-false, leb-true, le-leb, lt-leb, eqb-true, eqb-false, ne_eqb}
use Rattle.lists.specs.Pick.{pick}
use Rattle.lists.specs.All.{all_of, of-all, true-false, and_first, and_second}
use Rattle.message.specs.declared.Kind.{Kind}
use Rattle.message.specs.declared.Kind.TheVariants.{Items, Dms, Dvalues, Options}
use Rattle.share.specs.Lent.{lent_len}
use Rattle.engine.specs.Area.{mem}
use Rattle.engine.specs.Order.{echo_in, round_in, next_in}
use Rattle.plan.specs.Plan.{the_rounds, echo?, is_round, next_round, order, writes, bucket_size, leaky, bits_count, r_blocks, r_len}
use Rattle.plan.specs.Plan.{kind_of, count_due, dm_len, list_len, Listed, msg_len, parties?, in_range, InRange, bits_len, shares_len}
use Rattle.plan.specs.Plan.{masks_len, pairs_len, out_len, r_due, sent_up_to}

-- ---- the order of the rounds

-- the code's tests are those of the list
pub echo-tests : (k : ℕ) → (eqb k 2 || eqb k 7 || eqb k 9 || eqb k 11 || eqb k 13 || eqb k 16 || eqb k 18 || eqb k 20) ≡ echo? k
unfolding echo_in mem
echo-tests k = go (eqb k 2) (eqb k 7) (eqb k 9) (eqb k 11) (eqb k 13) (eqb k 16) (eqb k 18) (eqb k 20)
  where
    go : (a b c d e f g h : Bool)
        → (a || b || c || d || e || f || g || h)
        ≡ pick a true (pick b true (pick c true (pick d true (pick e true (pick f true (pick g true (pick h true false)))))))
    go true b c d e f g h = refl
    go false true c d e f g h = refl
    go false false true d e f g h = refl
    go false false false true e f g h = refl
    go false false false false true f g h = refl
    go false false false false false true g h = refl
    go false false false false false false true h = refl
    go false false false false false false false true = refl
    go false false false false false false false false = refl

-- as writes, by whether there are two parties
writes_if : Bool → ℕ → ℕ
writes_if two k = pick (eqb k 0 || round_in the_rounds two k) (next_in the_rounds two k) 0

-- each round in order is a round, and the one after it is the next in order; past the last stands 0
step? : Bool → ℕ → Bool
step? two d =
    round_in the_rounds two (get_or (order two) d 0) && eqb (next_in the_rounds two (get_or (order two) d 0)) (get_or (order two) (suc d) 0)

steps : (two : Bool) → all_of (length (order two)) (step? two) ≡ true
unfolding all_of step? order round_in next_in echo_in mem
steps true = refl
steps false = refl

module _ (n d : ℕ) (h : d < length (order (eqb n 2))) where
  pub order-round : is_round n (get_or (order (eqb n 2)) d 0) ≡ true
  unfolding step?
  order-round = and_first _ _ (of-all _ (step? (eqb n 2)) (steps (eqb n 2)) d h)

  pub order-next : next_round n (get_or (order (eqb n 2)) d 0) ≡ get_or (order (eqb n 2)) (suc d) 0
  unfolding step?
  order-next =
      eqb-true _ _ (and_second (is_round n (get_or (order (eqb n 2)) d 0)) _ (of-all _ (step? (eqb n 2)) (steps (eqb n 2)) d h))

pub order-first : (n : ℕ) → next_round n 0 ≡ 1
unfolding next_in echo_in mem
order-first n = go (eqb n 2)
  where
    go : (two : Bool) → next_in the_rounds two 0 ≡ 1
    go true = refl
    go false = refl

-- which call writes fabitn
lent? : Bool → ℕ → Bool
lent? two k = beq (eqb (writes_if two k) 6) (eqb k 5)

lents : (two : Bool) → all_of 23 (lent? two) ≡ true
unfolding all_of lent? writes_if round_in next_in echo_in mem
lents true = refl
lents false = refl

pub writes-past : (n k : ℕ) → 22 < k → writes n k ≡ 0
unfolding writes round_in
writes-past n k h = rw (ne_eqb k 0 (omega arith), le-leb 1 k (omega arith), lt-leb k 22 h) refl

beq-true : (a b : Bool) → beq a b ≡ true → a ≡ b
beq-true true true h = refl
beq-true true false h = absurd (true-false (sym h))
beq-true false true h = absurd (true-false (sym h))
beq-true false false h = refl

-- "the call that writes `fabitn`" is the one for round 5
pub writes-fabitn : (n k : ℕ) → eqb (writes n k) 6 ≡ eqb k 5
unfolding writes lent? writes_if
writes-fabitn n k = go (ltb k 23) refl
  where
    go : (b : Bool) → ltb k 23 ≡ b → eqb (writes n k) 6 ≡ eqb k 5
    go true e = beq-true _ _ (of-all 23 (lent? (eqb n 2)) (lents (eqb n 2)) k (ltb-true k 23 e))
    go false e =
        let h : 22 < k = omega (arith, ltb-false k 23 e) in
        ap (λ w. eqb w 6) (writes-past n k h) ∙ sym (ne_eqb k 5 (omega arith))

-- the next round, as the code finds it
module _ (n k : ℕ) (b : Bool) (h : k < 22) (e : b ≡ echo? (k + 1)) where
  pub next-skips : (eqb n 2 && b) ≡ true → k + 2 ≡ next_round n k
  unfolding next_in
  next-skips s = rw (lt-leb 22 k h, sym (ap (λ x. eqb n 2 && x) (e ∙ ap echo? (add-one k))) ∙ s) (omega arith)

  pub next-on : (eqb n 2 && b) ≡ false → k + 1 ≡ next_round n k
  unfolding next_in
  next-on s = rw (lt-leb 22 k h, sym (ap (λ x. eqb n 2 && x) (e ∙ ap echo? (add-one k))) ∙ s) (omega arith)

pub next-some : (n k : ℕ) → k < 22 → next_round n k ≢ 0
unfolding next_in
next-some n k h = rw (lt-leb 22 k h) (go (eqb n 2 && echo? (suc k)))
  where
    go : (b : Bool) → pick b (suc (suc k)) (suc k) ≢ 0
    go true = omega arith
    go false = omega arith

pub no-echo : (k : ℕ) → 20 < k → echo? k ≡ false
unfolding echo_in mem
no-echo k h =
    rw (
      ne_eqb k 2 (omega arith),
      ne_eqb k 7 (omega arith),
      ne_eqb k 9 (omega arith),
      ne_eqb k 11 (omega arith),
      ne_eqb k 13 (omega arith),
      ne_eqb k 16 (omega arith),
      ne_eqb k 18 (omega arith),
      ne_eqb k 20 (omega arith),
    ) refl

-- ---- bounds

pub bucket-low : (l : ℕ) → 3 ≤ bucket_size l
unfolding bucket_size
bucket-low l = go (leb 280000 l) (leb 3100 l)
  where
    go : (a b : Bool) → 3 ≤ pick a 3 (pick b 4 5)
    go true b = omega arith
    go false true = omega arith
    go false false = omega arith

pub bucket-high : (l : ℕ) → bucket_size l ≤ 5
unfolding bucket_size
bucket-high l = go (leb 280000 l) (leb 3100 l)
  where
    go : (a b : Bool) → pick a 3 (pick b 4 5) ≤ 5
    go true b = omega arith
    go false true = omega arith
    go false false = omega arith

pub leaky-most : (l : ℕ) → l ≤ 300000 → leaky l ≤ 1500000
unfolding leaky
leaky-most l h = mul-le-mul h (bucket-high l)

pub bits_most : (l : ℕ) → l ≤ 300000 → bits_count l ≤ 4500160
unfolding bits_count
bits_most l h = omega (arith, leaky-most l h)

pub r-blocks-most : (l : ℕ) → l ≤ 300000 → r_blocks l ≤ 40000
unfolding r_blocks
r-blocks-most l h = omega (arith, bits_most l h)

pick-most : (b : Bool) (x : ℕ) {m : ℕ} → x ≤ m → pick b x 0 ≤ m
pick-most true x h = h
pick-most false x h = omega arith

pub parties-true : (n : ℕ) → parties? n ≡ true → (2 ≤ n) × (n ≤ 8)
unfolding parties?
parties-true n h = (leb-true 2 n (and_first _ _ h), leb-true n 8 (and_second (leb 2 n) _ h))

pub in-range-true : (n l : ℕ) → in_range n l ≡ true → InRange n l
unfolding in_range
in-range-true n l h =
    let p = and_first (parties? n && leb 1 l) _ h in
    let q = parties-true n (and_first (parties? n) _ p) in
    record {
      two = q.0;
      eight = q.1;
      one = leb-true 1 l (and_second (parties? n) _ p);
      most = leb-true l 300000 (and_second (parties? n && leb 1 l) _ h);
    }

pub in_range_lem : (n l : ℕ) → InRange n l → in_range n l ≡ true
unfolding in_range parties?
in_range_lem n l r = rw (le-leb 2 n r.two, le-leb n 8 r.eight, le-leb 1 l r.one, le-leb l 300000 r.most) refl

-- the lengths, where opening takes n and l
module _ (n l : ℕ) (r : InRange n l) where
  pub bits-len : bits_len n l ≡ bits_count l * lent_len n
  unfolding bits_len
  bits-len = rw (in_range_lem n l r) refl

  pub shares-len : shares_len n l ≡ l * lent_len n
  unfolding shares_len
  shares-len = rw (in_range_lem n l r) refl

  pub masks-len : masks_len n l ≡ n * leaky l
  unfolding masks_len
  masks-len = rw (in_range_lem n l r) refl

  pub pairs_len_lem : pairs_len n ≡ 32 * n
  unfolding pairs_len parties?
  pairs_len_lem = rw (le-leb 2 n r.two, le-leb n 8 r.eight) refl

  pub out-len-last : out_len n l 22 ≡ l * lent_len n
  unfolding out_len
  out-len-last = shares-len

  pub out-len : (k : ℕ) → k < 22 → (eqb k 0 || is_round n k) ≡ true → out_len n l k ≡ (n - 1) * msg_len n l (next_round n k)
  unfolding out_len writes
  out-len k h e = rw (ne_eqb k 22 (omega arith), e, ne_eqb _ _ (next-some n k h), in_range_lem n l r) refl

  pub r-due : (k : ℕ) → r_due n l k ≡ pick (eqb k 5) (r_len l) 0
  unfolding r_due
  r-due k = rw (writes-fabitn n k, in_range_lem n l r) refl

-- ---- the table of rounds, case by case: a round that is no echo, or none of them
pub record Rest (k : ℕ) : Type 0 where
  pub not1 : k ≢ 1
  pub not3 : k ≢ 3
  pub not4 : k ≢ 4
  pub not5 : k ≢ 5
  pub not6 : k ≢ 6
  pub not8 : k ≢ 8
  pub not10 : k ≢ 10
  pub not12 : k ≢ 12
  pub not14 : k ≢ 14
  pub not15 : k ≢ 15
  pub not17 : k ≢ 17
  pub not19 : k ≢ 19
  pub not21 : k ≢ 21
  pub not22 : k ≢ 22

module _ (k : ℕ) (r : Rest k) where
  pub kind-rest : (l : ℕ) → kind_of l k ≡ Options
  unfolding kind_of
  kind-rest l =
      rw (
        ne_eqb k 1 r.not1,
        ne_eqb k 3 r.not3,
        ne_eqb k 4 r.not4,
        ne_eqb k 5 r.not5,
        ne_eqb k 6 r.not6,
        ne_eqb k 8 r.not8,
        ne_eqb k 10 r.not10,
        ne_eqb k 12 r.not12,
        ne_eqb k 14 r.not14,
        ne_eqb k 15 r.not15,
        ne_eqb k 17 r.not17,
        ne_eqb k 19 r.not19,
        ne_eqb k 21 r.not21,
        ne_eqb k 22 r.not22,
      ) refl

  pub count-rest : (n l : ℕ) → count_due n l k ≡ n
  unfolding count_due
  count-rest n l =
      rw (
        ne_eqb k 1 r.not1,
        ne_eqb k 3 r.not3,
        ne_eqb k 4 r.not4,
        ne_eqb k 5 r.not5,
        ne_eqb k 6 r.not6,
        ne_eqb k 8 r.not8,
        ne_eqb k 10 r.not10,
        ne_eqb k 12 r.not12,
        ne_eqb k 14 r.not14,
        ne_eqb k 15 r.not15,
        ne_eqb k 17 r.not17,
        ne_eqb k 19 r.not19,
        ne_eqb k 21 r.not21,
        ne_eqb k 22 r.not22,
      ) refl

split : (P : ℕ → Type 0) (a k : ℕ) → P a → (k ≢ a → P k) → P k
split P a k p q = go (eqb k a) refl
  where
    go : (b : Bool) → eqb k a ≡ b → P k
    go true e = subst P (sym (eqb-true k a e)) p
    go false e = q (eqb-false k a e)

pub round-cases : (P : ℕ → Type 0) → P 1 → P 3 → P 4 → P 5 → P 6 → P 8 → P 10 → P 12 → P 14 → P 15 → P 17 → P 19 → P 21 → P 22
    → ((k : ℕ) → Rest k → P k) → (k : ℕ) → P k
round-cases P p1 p3 p4 p5 p6 p8 p10 p12 p14 p15 p17 p19 p21 p22 rest k =
    split P 1 k p1 (λ e1. split P 3 k p3 (λ e3. split P 4 k p4 (λ e4. split P 5 k p5 (λ e5. split P 6 k p6 (λ e6.
    split P 8 k p8 (λ e8. split P 10 k p10 (λ e10. split P 12 k p12 (λ e12. split P 14 k p14 (λ e14. split P 15 k p15 (λ e15.
    split P 17 k p17 (λ e17. split P 19 k p19 (λ e19. split P 21 k p21 (λ e21. split P 22 k p22 (λ e22.
    rest k
    (record {
      not1 = e1;
      not3 = e3;
      not4 = e4;
      not5 = e5;
      not6 = e6;
      not8 = e8;
      not10 = e10;
      not12 = e12;
      not14 = e14;
      not15 = e15;
      not17 = e17;
      not19 = e19;
      not21 = e21;
      not22 = e22;
    })))))))))))))))

pub listed : (n l : ℕ) → InRange n l → (k : ℕ) → Listed n (count_due n l k) (kind_of l k)
unfolding kind_of count_due
listed n l r =
    let m = leaky-most l r.most in
    let b = bucket-high l in
    round-cases (λ k. Listed n (count_due n l k) (kind_of l k))
    (omega arith) (omega arith) (omega arith) (omega arith) (omega arith) (omega arith) (omega arith)
    (omega arith) (omega arith) (omega arith) (omega arith) (omega arith) (omega arith) (omega arith)
    (λ k p. rw (kind-rest k p l, count-rest k p n l) (r.two, r.eight))

pub list-most : (n count : ℕ) (kind : Kind) → Listed n count kind → list_len n count kind ≤ 200000000
unfolding list_len dm_len
list-most n count (Items size bools) h = omega (arith, mul-le-mul h.0 h.1)
list-most n count Dms h =
    let e : 8 + (1 + 16 * (n - 1)) ≤ 128 = omega arith in omega (arith, mul-le-mul h.0 e)
list-most n count (Dvalues due) h =
    let e : 8 + due + (8 + 16 * due) ≤ 128 = omega arith in omega (arith, mul-le-mul h.0 e)
list-most n count Options h = omega arith

pub msg-most : (n l : ℕ) → InRange n l → (k : ℕ) → msg_len n l k ≤ 200000000
unfolding msg_len
msg-most n l r k = list-most n (count_due n l k) (kind_of l k) (listed n l r k)

pub sent-most : (n l : ℕ) → InRange n l → (k : ℕ) → sent_up_to n l k ≤ k * 200000000
unfolding sent_up_to
sent-most n l r zero = omega arith
sent-most n l r (suc k) = omega (arith, sent-most n l r k, pick-most (is_round n (suc k)) _ (msg-most n l r (suc k)))

-- a turn of the sum, with round k + 1 and without it
module _ (n l k s : ℕ) (h : s ≡ sent_up_to n l k) where
  pub sent-with : (m : ℕ) → is_round n (k + 1) ≡ true → m ≡ msg_len n l (k + 1) → s + m ≡ sent_up_to n l (k + 1)
  unfolding sent_up_to
  sent-with m r e = rw (h, e, add-one k, subst (λ j. is_round n j ≡ true) (add-one k) r) refl

  pub sent-without : is_round n (k + 1) ≡ false → s ≡ sent_up_to n l (k + 1)
  unfolding sent_up_to
  sent-without r = rw (h, add-one k, subst (λ j. is_round n j ≡ false) (add-one k) r) (sym (add-zero (sent_up_to n l k)))
