-- The turns of the shuffle: a word is used or passed over, two numbers change places in the bytes, a block of words is taken.
use Rattle.std.specs.Prelude.{◌≡◌, ◌≢◌, Bool, true, false, ◌||◌, List, length, get_or, set, replicate, ltb, leb, eqb}
use Rattle.std.proofs.Math.Path.{refl, ap, ap₂}
use Rattle.std.proofs.Common.{sym, ◌∙◌, subst, add-zero, zero-add, add_assoc, suc-mul, mod-lt, mul-le-mul_right, div-add-mod', add-one, length-set, get_or-set_same, get_or-set_other, ltb-true, ltb-false, le-leb, ne_eqb}
use Prim.Native.Nat.{ℕ, zero, suc, ◌+◌, ◌-◌, ◌*◌, ◌/◌, ◌%◌, ◌^◌, ◌<◌, ◌≤◌}
use native.Mathlib.Omega.{arith}
use Rattle.std.proofs.lemmas.Bool.{lt-leb, eqb-false}
use borrow.Rule.Slice.PartMut.{put_mid}
use Rattle.lists.specs.Pick.{pick, by-eq}
use Rattle.lists.specs.All.{true-false}
use Rattle.lists.specs.Over.{tab, cat, get_or-tab, length-tab}
use Rattle.lists.specs.Rows.{cat-ext}
use Rattle.word.specs.Word.{word_at, word_list, le4, le4s}
use Rattle.word.specs.WordLaws.{length-words, word_read, words-set}
use Rattle.chacha20.specs.ChaCha20.{block}
use Rattle.chacha20_lanes.specs.declared.Lane.{Lane}
use Rattle.chacha20_lanes.specs.Lanes.{lane_of}
use Rattle.chacha20_lanes.specs.LaneLaws.{lane_word}
use Rattle.shuffle.specs.Shuffle.{key_word, multiple, used, swap, down, shuffled, permutation}
use Rattle.shuffle.specs.declared.Turn.{Turn}
use Rattle.shuffle.specs.Turns.{MOST, Kept, rest, size, Less, LessBy, Went, Goes, Taken, Blocks}

-- ---- numbers of four bytes
kept_set : (n k v : ℕ) (p s x : List ℕ) → Kept n p s → k < n → v < 2 ^ 32 → x ≡ le4 v
    → Kept n (set p k v) (put_mid (k * 4) (k * 4 + 4 - k * 4) s x)
kept_set n k v p s x K l h e =
    let four : k * 4 + 4 - k * 4 ≡ 4 = omega arith in
    record {
      long = length-set p k v ∙ K.long;
      small = λ j w. by-eq _ j k
          (λ q. rw q (rw (get_or-set_same p k v 0 (omega (arith, K.long))) h))
          (λ q. rw (get_or-set_other p k j v 0 q) (K.small j w));
      bytes = ap₂ (λ i (r : List ℕ). put_mid (k * 4) i r x) four K.bytes ∙ ap (put_mid (k * 4) 4 (le4s n p)) e
          ∙ words-set n p k v K.long l;
    }

-- two numbers change places
pub kept-swap : (n t j : ℕ) (p s x y : List ℕ) → Kept n p s → t * 4 + 4 ≤ length s → j * 4 + 4 ≤ length s
    → x ≡ le4 (word_at (j * 4) s) → y ≡ le4 (word_at (t * 4) s)
    → Kept n (swap t j p) (put_mid (j * 4) (j * 4 + 4 - j * 4) (put_mid (t * 4) (t * 4 + 4 - t * 4) s x) y)
unfolding swap
kept-swap n t j p s x y K ht hj ex ey =
    let size : length s ≡ n * 4 = ap length K.bytes ∙ length-words n p in
    let lt : t < n = omega arith in
    let lj : j < n = omega arith in
    let rj : word_at (j * 4) s ≡ get_or p j 0 = ap (word_at (j * 4)) K.bytes ∙ word_read n p j lj (K.small j lj) in
    let rt : word_at (t * 4) s ≡ get_or p t 0 = ap (word_at (t * 4)) K.bytes ∙ word_read n p t lt (K.small t lt) in
    kept_set n j (get_or p t 0) (set p t (get_or p j 0)) (put_mid (t * 4) (t * 4 + 4 - t * 4) s x) y
    (kept_set n t (get_or p j 0) p s x K lt (K.small j lj) (ex ∙ ap le4 rj)) lj (K.small t lt) (ey ∙ ap le4 rt)

-- ---- which words are used
-- the m numbers from w − w mod m on lie below the largest multiple of m, or none of them
pub fits-is : (w m r : ℕ) → 1 ≤ m → r ≡ w % m → leb (w - r + m) (2 ^ 32) ≡ ltb w (multiple m)
unfolding multiple
fits-is w m r h e = go (ltb w (Q * m)) refl
  where
    q : ℕ
    q = w / m

    Q : ℕ
    Q = 2 ^ 32 / m

    below : w ≡ q * m + r
    below = sym (ap (λ i. q * m + i) e ∙ div-add-mod' w m)

    all : Q * m + 2 ^ 32 % m ≡ 2 ^ 32
    all = div-add-mod' (2 ^ 32) m

    go : (b : Bool) → ltb w (Q * m) ≡ b → leb (w - r + m) (2 ^ 32) ≡ b
    go true t = le-leb _ _ (by (ltb q Q) refl)
      where
        by : (b : Bool) → ltb q Q ≡ b → w - r + m ≤ 2 ^ 32
        by true s = let k : suc q * m ≤ Q * m = mul-le-mul_right m (ltb-true q Q s) in omega (arith, below, all, suc-mul q m)
        by false s =
            let k : Q * m ≤ q * m = mul-le-mul_right m (ltb-false q Q s) in absurd (omega (arith, below, ltb-true w (Q * m) t))
    go false t = lt-leb _ _ (by (ltb q Q) refl)
      where
        by : (b : Bool) → ltb q Q ≡ b → 2 ^ 32 < w - r + m
        by true s =
            let k : suc q * m ≤ Q * m = mul-le-mul_right m (ltb-true q Q s) in
            absurd (omega (arith, below, suc-mul q m, ltb-false w (Q * m) t, mod-lt w {m = m} h))
        by false s =
            let k : Q * m ≤ q * m = mul-le-mul_right m (ltb-false q Q s) in omega (arith, below, all, mod-lt (2 ^ 32) {m = m} h)

or-true : (b : Bool) → (b || true) ≡ true
or-true true = refl
or-true false = refl

-- the test that the code makes of word c: it is used
used-now : (w : ℕ → ℕ) (m left c : ℕ) → (ltb (w c) (multiple m) || eqb left 0) ≡ true → used w m left c ≡ c
unfolding used
used-now w m zero c h = refl
used-now w m (suc left) c h =
    go (ltb (w c) (multiple m)) (sym (ap (λ b. ltb (w c) (multiple m) || b) (ne_eqb (suc left) 0 (λ q. omega arith))) ∙ h)
  where
    go : (b : Bool) → (b || false) ≡ true → pick b c (used w m left (suc c)) ≡ c
    go true e = refl
    go false e = absurd (true-false (sym e))

-- or it is passed over
may-pass : (w : ℕ → ℕ) (m left c : ℕ) → (ltb (w c) (multiple m) || eqb left 0) ≡ false → used w m left c ≡ used w m (left - 1) (c + 1)
unfolding used
may-pass w m zero c h = absurd (true-false (sym (or-true (ltb (w c) (multiple m))) ∙ h))
may-pass w m (suc left) c h =
    go (ltb (w c) (multiple m)) h
    ∙ ap₂ (used w m) (let e : left ≡ suc left - 1 = omega arith in e) (sym (add-one c))
  where
    go : (b : Bool) → (b || eqb (suc left) 0) ≡ false → pick b c (used w m left (suc c)) ≡ used w m left (suc c)
    go true e = absurd (true-false e)
    go false e = refl

-- ---- a word is taken
module _ (w : ℕ → ℕ) where
  down-rest : (t c : ℕ) (p : List ℕ) → down w t c p ≡ rest w t 64 c p
  unfolding down rest
  down-rest zero c p = refl
  down-rest (suc t) c p = refl

  rest-done : (t left c : ℕ) (p : List ℕ) → t ≡ 0 → rest w t left c p ≡ p
  unfolding rest
  rest-done zero left c p h = refl
  rest-done (suc t) left c p h = absurd (omega arith)

  rest-used : (t left c : ℕ) (p : List ℕ) → 1 ≤ t → used w (t + 1) left c ≡ c
      → rest w t left c p ≡ rest w (t - 1) 64 (c + 1) (swap t (w c % (t + 1)) p)
  unfolding rest
  rest-used zero left c p h e = absurd (omega arith)
  rest-used (suc t) left c p h e =
      ap (λ u. down w t (suc u) (swap (suc t) (w u % suc (suc t)) p)) (ap (λ m. used w m left c) (sym (add-one (suc t))) ∙ e)
      ∙ down-rest t (suc c) (swap (suc t) (w c % suc (suc t)) p)
      ∙ ap (λ m. rest w t 64 (suc c) (swap (suc t) (w c % m) p)) (sym (add-one (suc t)))
      ∙ ap₂ (λ i j. rest w i 64 j (swap (suc t) (w c % (suc t + 1)) p)) (let k : t ≡ suc t - 1 = omega arith in k) (sym (add-one c))

  rest-passed : (t left c : ℕ) (p : List ℕ) → 1 ≤ t → used w (t + 1) left c ≡ used w (t + 1) (left - 1) (c + 1)
      → rest w t left c p ≡ rest w t (left - 1) (c + 1) p
  unfolding rest
  rest-passed zero left c p h e = absurd (omega arith)
  rest-passed (suc t) left c p h e =
      ap (λ u. down w t (suc u) (swap (suc t) (w u % suc (suc t)) p))
      (ap (λ m. used w m left c) (sym (add-one (suc t))) ∙ e ∙ ap (λ m. used w m (left - 1) (c + 1)) (add-one (suc t)))

  pub went-used : (n c v : ℕ) (b : Bool) (s : Turn) (p y : List ℕ) → 1 ≤ s.t → w c ≡ v → b ≡ ltb v (multiple (s.t + 1))
      → (b || eqb s.left 0) ≡ true → Kept n (swap s.t (v % (s.t + 1)) p) y
      → Went w 1 c n s record { t = s.t - 1; left = 64 } p y
  went-used n c v b s p y h e q k K =
      record {
        list = swap s.t (v % (s.t + 1)) p;
        kept = K;
        same = rest-used s.t s.left c p h
            (used-now w (s.t + 1) s.left c
            (ap (λ a. a || eqb s.left 0) (ap (λ i. ltb i (multiple (s.t + 1))) e ∙ sym q) ∙ k))
            ∙ ap (λ i. rest w (s.t - 1) 64 (c + 1) (swap s.t (i % (s.t + 1)) p)) e;
      }

  pub went-passed : (n c v : ℕ) (b : Bool) (s : Turn) (p y : List ℕ) → 1 ≤ s.t → w c ≡ v → b ≡ ltb v (multiple (s.t + 1))
      → (b || eqb s.left 0) ≡ false → Kept n p y
      → Went w 1 c n s record { t = s.t; left = s.left - 1 } p y
  went-passed n c v b s p y h e q k K =
      record {
        list = p;
        kept = K;
        same = rest-passed s.t s.left c p h
            (may-pass w (s.t + 1) s.left c
            (ap (λ a. a || eqb s.left 0) (ap (λ i. ltb i (multiple (s.t + 1))) e ∙ sym q) ∙ k));
      }

-- a word may be passed over only while some may
pub some_left : (b : Bool) (left : ℕ) → (b || eqb left 0) ≡ false → 1 ≤ left
some_left true left h = absurd (true-false h)
some_left false left h = let q : left ≢ 0 = eqb-false left 0 h in omega arith

-- ---- words are taken, one after another
pub less_zero : (s : Turn) → s.left ≤ 64 → LessBy 0 s s
less_zero s h = record { index = omega arith; may = h; less = λ l. omega arith }

pub less-turn : (q : ℕ) (s m r : Turn) → 0 < m.t → LessBy q s m → Less m r → LessBy (q + 1) s r
less-turn q s m r h a b =
    record { index = omega (arith, a.index, b.index); may = b.may; less = λ l. omega (arith, a.less h, b.less) }

pub less-end : (q e : ℕ) (s m : Turn) → m.t ≡ 0 → LessBy q s m → LessBy e s m
less-end q e s m h a = record { index = a.index; may = a.may; less = λ l. absurd (omega arith) }

-- so there is an end
pub less-falls : (e : ℕ) (m r : Turn) → 1 ≤ e → 0 < m.t → LessBy e m r → size r < size m
less-falls e m r h l a = go (ltb 0 r.t) refl
  where
    go : (b : Bool) → ltb 0 r.t ≡ b → size r < size m
    go true q = omega (arith, a.less (ltb-true 0 r.t q))
    go false q = omega (arith, a.may, ltb-false 0 r.t q)

module _ (w : ℕ → ℕ) (c : ℕ) where
  pub goes-zero : (s : Turn) (x : List ℕ) → Goes w 0 c s s x x
  goes-zero s x n p K = record { list = p; kept = K; same = ap (λ i. rest w s.t s.left i p) (sym (add-zero c)) }

  pub goes_on : (q e : ℕ) (s m r : Turn) (x y z : List ℕ) → Goes w q c s m x y → Goes w e (c + q) m r y z → Goes w (q + e) c s r x z
  goes_on q e s m r x y z f g n p K =
      let a = f n p K in
      let b = g n a.list a.kept in
      record { list = b.list; kept = b.kept; same = a.same ∙ b.same ∙ ap (λ i. rest w r.t r.left i b.list) (add_assoc c q e) }

  -- the last index is passed: no word counts any more
  pub goes_end : (q e : ℕ) (s m : Turn) (x y : List ℕ) → m.t ≡ 0 → Goes w q c s m x y → Goes w e c s m x y
  goes_end q e s m x y h f n p K =
      let a = f n p K in
      record {
        list = a.list;
        kept = a.kept;
        same = a.same ∙ rest-done w m.t m.left (c + q) a.list h ∙ sym (rest-done w m.t m.left (c + e) a.list h);
      }

-- ---- the words of a block
module _ (x words : List ℕ) (s : Turn) where
  pub taken-zero : s.left ≤ 64 → Taken x words s x s 0
  taken-zero h = record { most = omega arith; size = refl; less = less_zero s h; goes = λ w c e. goes-zero w c s x }

  pub taken-turn : (y z : List ℕ) (m r : Turn) (q : ℕ) → Taken x words s y m q → q < 16 → 0 < m.t → length z ≡ length y → Less m r
      → ((w : ℕ → ℕ) (c : ℕ) → w c ≡ get_or words q 0 → Goes w 1 c m r y z) → Taken x words s z r (q + 1)
  taken-turn y z m r q T h l e a g =
      record {
        most = omega arith;
        size = e ∙ T.size;
        less = less-turn q s m r l T.less a;
        goes = λ w c f. goes_on w c q 1 s m r x y z (T.goes w c f) (g w (c + q) (f q h));
      }

  -- all its words are taken, or the last index is passed
  pub taken-all : (y : List ℕ) (m : Turn) (q : ℕ) → Taken x words s y m q → 16 ≤ q → Taken x words s y m 16
  taken-all y m q T h = subst (Taken x words s y m) (let e : q ≡ 16 = omega (arith, T.most) in e) T

  pub taken-end : (y : List ℕ) (m : Turn) (q : ℕ) → Taken x words s y m q → m.t ≡ 0 → Taken x words s y m 16
  taken-end y m q T h =
      record {
        most = omega arith;
        size = T.size;
        less = less-end q 16 s m h T.less;
        goes = λ w c f. goes_end w c q 16 s m x y h (T.goes w c f);
      }

-- ---- the blocks of the key stream
key_word_lem : (key : List ℕ) (c i : ℕ) → i < 16 → key_word key (c * 16 + i) ≡ get_or (lane_of (word_list 8 key) c).0 i 0
unfolding key_word
key_word_lem key c i h =
    ap₂ (λ a b. word_at (a * 4) (block key b (replicate 12 0)))
    (let e : (c * 16 + i) % 16 ≡ i = omega arith in e) (let e : (c * 16 + i) / 16 ≡ c = omega arith in e)
    ∙ sym (lane_word key c i h)

-- lane k of those that were made from a counter on
pub lane-at : (key : List ℕ) (from k : ℕ) (ls : List Lane) (d : Lane) → ls ≡ tab 4 (λ t. lane_of key (from + t)) → k < 4
    → (get_or ls k d).0 ≡ (lane_of key (from + k)).0
lane-at key from k ls d e h =
    ap (λ (r : List Lane). (get_or r k d).0) e ∙ ap (λ (l : Lane). l.0) (get_or-tab 4 k (λ t. lane_of key (from + t)) d h)

module _ (key : List ℕ) (from : ℕ) (x : List ℕ) (s : Turn) where
  pub blocks-zero : s.left ≤ 64 → Blocks key from x s x s 0
  blocks-zero h = record { size = refl; less = less_zero s h; goes = λ j e. goes-zero (key_word j) (from * 16) s x }

  -- e blocks more
  pub blocks-turn : (e k : ℕ) (y z : List ℕ) (m r : Turn) → Blocks key from x s y m k → length z ≡ length y → LessBy (e * 16) m r
      → ((j : List ℕ) → key ≡ word_list 8 j → Goes (key_word j) (e * 16) ((from + k) * 16) m r y z) → Blocks key from x s z r (k + e)
  blocks-turn e k y z m r B h l g =
      record {
        size = h ∙ B.size;
        less = record {
          index = omega (arith, B.less.index, l.index);
          may = l.may;
          less = λ u. omega (arith, l.less u, B.less.less (omega (arith, l.index)));
        };
        goes = λ j q.
            subst (λ i. Goes (key_word j) i (from * 16) s r x z) (let a : k * 16 + e * 16 ≡ (k + e) * 16 = omega arith in a)
            (goes_on (key_word j) (from * 16) (k * 16) (e * 16) s m r x y z (B.goes j q)
            (subst (λ i. Goes (key_word j) (e * 16) i m r y z) (let a : (from + k) * 16 ≡ from * 16 + k * 16 = omega arith in a) (g j q)));
      }

  -- a lane more
  pub lane-turn : (k : ℕ) (y z words : List ℕ) (m r : Turn) → Blocks key from x s y m k → words ≡ (lane_of key (from + k)).0
      → length z ≡ length y → LessBy 16 m r
      → ((w : ℕ → ℕ) (c : ℕ) → ((i : ℕ) → i < 16 → w (c + i) ≡ get_or words i 0) → Goes w 16 c m r y z) → Blocks key from x s z r (k + 1)
  lane-turn k y z words m r B e h l g =
      blocks-turn 1 k y z m r B h l
      (λ j q. g (key_word j) ((from + k) * 16)
      (λ i u. key_word_lem j (from + k) i u ∙ ap (λ (v : List ℕ). get_or v i 0) (ap (λ (v : List ℕ). (lane_of v (from + k)).0) (sym q) ∙ sym e)))

-- four lanes more, from the first counter on
pub window-turn : (key x : List ℕ) (s : Turn) (k : ℕ) (y z : List ℕ) (m r : Turn) → Blocks key 0 x s y m k → length z ≡ length y
    → LessBy 64 m r → ((j : List ℕ) → key ≡ word_list 8 j → Goes (key_word j) 64 (k * 16) m r y z) → Blocks key 0 x s z r (k + 4)
window-turn key x s k y z m r B h l g =
    blocks-turn key 0 x s 4 k y z m r B h l (λ j q. subst (λ i. Goes (key_word j) 64 (i * 16) m r y z) (sym (zero-add k)) (g j q))

-- ---- the first list
pub started : (n : ℕ) → cat n le4 ≡ le4s n (tab n (λ k. k))
unfolding le4s
started n = cat-ext n le4 _ (λ j l. ap le4 (sym (get_or-tab n j (λ k. k) 0 l)))

-- no block is left to be taken
module _ (n : ℕ) (most : n ≤ MOST) where
  start-kept : (x : List ℕ) → x ≡ le4s n (tab n (λ k. k)) → Kept n (tab n (λ k. k)) x
  start-kept x e =
      record { long = length-tab n (λ k. k); small = λ k l. rw (get_or-tab n k (λ k. k) 0 l) (omega arith); bytes = e }

  pub drawn : (key x y : List ℕ) (r : Turn) (k : ℕ) → x ≡ le4s n (tab n (λ k. k))
      → Blocks key 0 x record { t = n - 1; left = 64 } y r k → r.t ≡ 0 → (j : List ℕ) → key ≡ word_list 8 j → y ≡ le4s n (permutation j n)
  unfolding permutation shuffled
  drawn key x y r k e B h j q =
      let a = B.goes j q n (tab n (λ k. k)) (start-kept x e) in
      a.kept.bytes
      ∙ ap (le4s n)
      (sym (down-rest (key_word j) (n - 1) 0 (tab n (λ k. k)) ∙ a.same ∙ rest-done (key_word j) r.t r.left (0 * 16 + k * 16) a.list h))
