-- Loops in the code of the rounds, turn by turn: sums over the other parties, a row for each party, a message to each other party, and a
-- section of the work area that is written row by row while other sections are read.
use Rattle.std.specs.Prelude.{◌≡◌, Bool, true, false, ◌≢◌, ℕ, ◌+◌, ◌-◌, ◌*◌, ◌<◌, ◌≤◌, drop, replicate}
use Rattle.std.proofs.Math.Path.{refl, sym, ap, ap₂}
use Rattle.std.proofs.Common.{◌∙◌, subst, add-zero, add-one, arith, length-append}
use mathlib.Core.List.{List, ◌++◌}
use Rattle.std.proofs.Math.ListN.{length, take, take-append-drop}
use Rattle.std.proofs.lemmas.List.{length-replicate}
use borrow.Rule.Slice.PartMut.{put_mid}
use Rattle.lists.specs.Pick.{pick}
use Rattle.lists.specs.Over.{cat, cat-add, length-cat, over-put, length_over, over-full, in-chunks, Written}
use Rattle.lists.specs.Rows.{cat-ext, even-zero, even-put, even-turn, even-end}
use Rattle.lists.specs.Sect.{length-get}
use Rattle.algebra.specs.Group.{XorGroup, sel}
use Rattle.algebra.specs.Sum.{neq, neq-own, neq-true, sum, others, Same, apart, apart?}
use Rattle.engine.specs.declared.Frame.{Frame}
use Rattle.engine.specs.StepLaws.{other-neq}
use Rattle.engine.specs.Area.{off, sec, put_sec, nth, nth-below, to_others, length-sec, length-put_sec, sec-same, sec-other, put_sec-twice}
use Rattle.engine.specs.Area.{put-sec}
use Rattle.rounds.specs.Area.{rows}

-- ---- sums over all parties but one
module _ {A : Type 0} (G : XorGroup A) (i : ℕ) (f : ℕ → A) where
  pub others-none : G.nil ≡ others G i 0 f
  unfolding others sum
  others-none = refl

  pub others-turn : (k : ℕ) (s x : A) → s ≡ others G i k f → x ≡ sel G (neq i k) (f k) → G.op s x ≡ others G i (k + 1) f
  unfolding others sum
  others-turn k s x hs hx = ap₂ G.op hs hx ∙ rw (add-one k) refl

-- ---- a row for each party, zero for party i
unfoldable pub row_of : ℕ → ℕ → (ℕ → List ℕ) → ℕ → List ℕ
row_of i m g k = pick (neq i k) (g k) (replicate m 0)

pub rows_of : (f : Frame) (m : ℕ) (g : ℕ → List ℕ) → cat f.n (row_of f.i m g) ≡ rows f m g
unfolding rows row_of
rows_of f m g = cat-ext f.n _ _ (λ k l. ap (λ b. pick b (g k) (replicate m 0)) (sym (other-neq f k l)))

pub length-row_of : (i m : ℕ) (g : ℕ → List ℕ) (k : ℕ) → (i ≢ k → length (g k) ≡ m) → length (row_of i m g k) ≡ m
unfolding row_of
length-row_of i m g k h = go (neq i k) (apart? i k)
  where
    go : (b : Bool) → Same i k b → length (pick b (g k) (replicate m 0)) ≡ m
    go true (apart ne) = h ne
    go false s = length-replicate m 0

pub length-rows : (f : Frame) (m : ℕ) (g : ℕ → List ℕ) → ((k : ℕ) → k < f.n → length (g k) ≡ m) → length (rows f m g) ≡ f.n * m
length-rows f m g h =
    ap length (sym (rows_of f m g)) ∙ length-cat f.n m (row_of f.i m g) (λ k l. length-row_of f.i m g k (λ ne. h k l))

-- the summand of the own party, and of another
pub sel-own : {A : Type 0} (G : XorGroup A) (i k : ℕ) (v : A) → i ≡ k → G.nil ≡ sel G (neq i k) v
sel-own G i k v e = sym (ap (λ (b : Bool). sel G b v) (neq-own i k e))

pub sel-other : {A : Type 0} (G : XorGroup A) (i k : ℕ) (x v : A) → i ≢ k → x ≡ v → x ≡ sel G (neq i k) v
sel-other G i k x v ne e = e ∙ sym (ap (λ (b : Bool). sel G b v) (neq-true i k ne))

pub row-own : (i m : ℕ) (g : ℕ → List ℕ) (k : ℕ) → i ≡ k → row_of i m g k ≡ replicate m 0
unfolding row_of
row-own i m g k e = ap (λ b. pick b (g k) (replicate m 0)) (neq-own i k e)

pub row_other : (i m : ℕ) (g : ℕ → List ℕ) (k : ℕ) → i ≢ k → row_of i m g k ≡ g k
unfolding row_of
row_other i m g k e = ap (λ b. pick b (g k) (replicate m 0)) (neq-true i k e)

-- ---- a message of m bytes to each other party, one after another; len is m as the code has it
module _ (n i m : ℕ) (g : ℕ → List ℕ) where
  -- d is l with the messages of the first q in place of its first bytes
  abbrev pub Sent : ℕ → List ℕ → List ℕ → Type 0
  Sent q l d = Written (λ q. g (nth i q)) q (q * m) l d

  pub sent-none : (l : List ℕ) → Sent 0 l l
  sent-none l = even-zero (λ q. g (nth i q)) m l

  module _ (len q : ℕ) (l d : List ℕ) (is : len ≡ m) (whole : length l ≡ (n - 1) * m) (w : Sent q l d) where
    pub sent-in : q < n - 1 → q * len + len ≤ length d
    sent-in h = omega (arith, in-chunks q (n - 1) m h, w.same, ap (λ k. q * k) is)

    pub sent-turn : ((k : ℕ) → k < n → length (g k) ≡ m) → (k : ℕ) (x : List ℕ) → q < n - 1 → k ≡ nth i q → x ≡ g k
        → Sent (q + 1) l (put_mid (q * len) (q * len + len - q * len) d x)
    sent-turn long k x h hk hx =
        subst (λ z. Sent (q + 1) l (put_mid (q * z) (q * z + z - q * z) d x)) (sym is)
        (even-put (λ q. g (nth i q)) (n - 1) m l whole q (q * m + m) d x h w (long (nth i q) (nth-below n i q h)) (hx ∙ ap g hk) refl)

    -- the same, where x is as long as what was lent
    pub sent_back : (k : ℕ) (x : List ℕ) → q < n - 1 → k ≡ nth i q → x ≡ g k
        → length x ≡ length (take (q * len + len - q * len) (drop (q * len) d))
        → Sent (q + 1) l (put_mid (q * len) (q * len + len - q * len) d x)
    sent_back k x h hk hx hl =
        subst (λ z. length x ≡ length (take (q * z + z - q * z) (drop (q * z) d)) → Sent (q + 1) l (put_mid (q * z) (q * z + z - q * z) d x)) (sym is)
        (even-turn (λ q. g (nth i q)) (n - 1) m l whole q d x h w (hx ∙ ap g hk)) hl

    pub sent-end : q ≡ n - 1 → d ≡ to_others n i g
    unfolding to_others
    sent-end e = even-end (λ q. g (nth i q)) (n - 1) m l whole q d w e

-- ---- a section, lent as `&w[a..e]`
-- a part of m bytes, lent as `&mut w[p..e]`
pub lent-part : (p m k : ℕ) (w : List ℕ) → m ≡ k → p + m ≤ length w → length (take (p + m - p) (drop p w)) ≡ k
lent-part p m k w e h =
    ap (λ j. length (take j (drop p w))) (let q : p + m - p ≡ k = omega arith in q) ∙ length-get p k w (omega arith)

-- ---- a section that is written row by row
-- w is w₀ with the first j rows of section s in place of its first a bytes
pub record Keeping (size : ℕ → ℕ) (S s : ℕ) (g : ℕ → List ℕ) (j a : ℕ) (w₀ w : List ℕ) : Type 0 where
  pub here : w ≡ put_sec size s (cat j g ++ drop a (sec size s w₀)) w₀
  pub at : length (cat j g) ≡ a
  pub fits : a ≤ size s
  pub same : length w ≡ length w₀

module _ (size : ℕ → ℕ) (S s : ℕ) (in-S : s < S) (w₀ : List ℕ) (h : length w₀ ≡ off size S) where
  module _ (g : ℕ → List ℕ) where
    whole : (j a : ℕ) → length (cat j g) ≡ a → a ≤ size s → length (cat j g ++ drop a (sec size s w₀)) ≡ size s
    whole j a n l =
        let e : length (sec size s w₀) ≡ size s = length-sec size S w₀ h s in-S in
        length_over (cat j g) (sec size s w₀) a n (omega arith) ∙ e

    pub keeping_none : Keeping size S s g 0 0 w₀ w₀
    unfolding cat sec put_sec
    keeping_none = record { here = self; at = refl; fits = omega arith; same = refl }
      where
        self : w₀ ≡ put_mid (off size s) (size s) w₀ (take (size s) (drop (off size s) w₀))
        self =
            sym (ap (λ (r : List ℕ). take (off size s) w₀ ++ r) (take-append-drop (size s) (drop (off size s) w₀))
            ∙ take-append-drop (off size s) w₀)

    -- m more rows, written through the part of w from p to e
    pub keeping-more : (j m a k p e e' : ℕ) (w x : List ℕ) → Keeping size S s g j a w₀ w → x ≡ cat m (λ i. g (j + i))
        → length (cat m (λ i. g (j + i))) ≡ k → p ≡ off size s + a → e ≡ p + k → a + k ≡ e' → e' ≤ size s
        → Keeping size S s g (j + m) e' w₀ (put_mid p (e - p) w x)
    keeping-more j m a k p e e' w x v hx hk hp he ha hs = record { here = now; at = long; fits = hs; same = ap length now ∙ kept }
      where
        more : List ℕ
        more = cat m (λ i. g (j + i))

        body : List ℕ
        body = cat j g ++ drop a (sec size s w₀)

        filled : length body ≡ size s
        filled = whole j a v.at v.fits

        next : List ℕ
        next = cat (j + m) g ++ drop e' (sec size s w₀)

        long : length (cat (j + m) g) ≡ e'
        long =
            ap length (sym (cat-add g j m)) ∙ length-append (cat j g) more
            ∙ (let q : length (cat j g) + length more ≡ e' = omega (arith, v.at) in q)

        kept : length (put_sec size s next w₀) ≡ length w₀
        kept = length-put_sec size S w₀ h s next in-S (whole (j + m) e' long hs) ∙ sym h

        rows : put_mid a k body x ≡ next
        rows =
            ap (put_mid a k body) hx ∙ over-put (cat j g) more (sec size s w₀) a k v.at
            ∙ ap₂ (λ (y : List ℕ) n. y ++ drop n (sec size s w₀)) (cat-add g j m) ha

        now : put_mid p (e - p) w x ≡ put_sec size s next w₀
        now =
            ap₂ (λ b n. put_mid b n w x) hp (let q : e - p ≡ k = omega arith in q)
            ∙ put-sec size S w (v.same ∙ h) s a k x in-S (omega arith)
            ∙ ap₂ (λ (y z : List ℕ). put_sec size s (put_mid a k y x) z) (ap (sec size s) v.here ∙ sec-same size S w₀ h s body in-S filled)
            v.here
            ∙ ap (λ (y : List ℕ). put_sec size s y (put_sec size s body w₀)) rows
            ∙ put_sec-twice size S w₀ h s next body in-S filled

    -- one more row
    pub keeping-turn : (j a k p e e' : ℕ) (w x : List ℕ) → Keeping size S s g j a w₀ w → x ≡ g j → length (g j) ≡ k → p ≡ off size s + a
        → e ≡ p + k
        → a + k ≡ e' → e' ≤ size s → Keeping size S s g (j + 1) e' w₀ (put_mid p (e - p) w x)
    unfolding cat
    keeping-turn j a k p e e' w x v hx hk =
        let one : g j ≡ cat 1 (λ i. g (j + i)) = ap g (sym (add-zero j)) in
        keeping-more j 1 a k p e e' w x v (hx ∙ one) (ap length (sym one) ∙ hk)

    pub keeping-end : (j n a : ℕ) (w : List ℕ) → Keeping size S s g j a w₀ w → j ≡ n → size s ≤ a → w ≡ put_sec size s (cat n g) w₀
    keeping-end j n a w v hj ha =
        let e : length (sec size s w₀) ≡ size s = length-sec size S w₀ h s in-S in
        v.here ∙ ap (λ (x : List ℕ). put_sec size s x w₀) (over-full (cat j g) (sec size s w₀) a (omega arith) ∙ ap (λ m. cat m g) hj)

    -- the other sections are as they were
    pub keeping-other : (j a t : ℕ) (w : List ℕ) → Keeping size S s g j a w₀ w → t ≢ s → sec size t w ≡ sec size t w₀
    keeping-other j a t w v ne =
        ap (sec size t) v.here ∙ sec-other size S w₀ h t s (cat j g ++ drop a (sec size s w₀)) in-S ne (whole j a v.at v.fits)
