-- The sums of all other parties: a turn of `add_group`, one other party more, and of `sums`, 64 records more.
use Rattle.std.specs.Prelude.{◌≡◌, Bool, true, false, ◌&&◌, List, [], ◌∷◌, length, get_or, replicate, leb}
use Rattle.std.proofs.Math.Path.{refl, sym, ap}
use Rattle.std.proofs.Common.{ap₂, ◌∙◌, arith, ltb-true, ltb-false, lt-ltb, le-ltb, le-leb}
use Prim.Native.Nat.{ℕ, ◌+◌, ◌-◌, ◌*◌, ◌/◌, ◌%◌, ◌<◌, ◌≤◌}
use Rattle.std.specs.Int.Count.{ones}
use Rattle.std.proofs.Math.Dec.{ltb}
use Rattle.std.proofs.lemmas.Bool.{lt-leb}
use Rattle.lists.specs.Pick.{pick}
use Rattle.lists.specs.Over.{tab, length-cat}
use Rattle.lists.specs.All.{and-false}
use Rattle.lists.specs.Bytes.{Bytes}
use Rattle.algebra.specs.Group.{sel, odd, num, sel-nil}
use Rattle.block.specs.declared.Block.{Block}
use Rattle.block.specs.Group.{blocks}
use Rattle.share.specs.Layout.{record_len, mac_off, key_off, entry-within, key-behind}
use Rattle.engine.specs.Area.{nth, nth-below}
use Rattle.rbits.specs.Chosen.{bit_sum, words_of, pair_at}
use Rattle.rbits.specs.Tables.{record_block, tables, lookup, window_of, half_at, record_bit, packed, masked_at}
use Rattle.rbits.specs.WordLaws.{words-ext, words_at_lem, words-zero, words-self}
use Rattle.rbits.proofs.ChosenLaws.{half-group, groups, groups-zero, groups-more, groups-all}
use Rattle.rbits.proofs.BitLaws.{masked, masked-none, masked-turn, masked-end}
use Rattle.rpairs.specs.Added.{added_from}
use Rattle.rsums.specs.Sums.{party_sums, grown}

-- ---- `add_group`

-- the words of 840 Blocks
pub length-all : (x : List ℕ) (f : ℕ → Block) → x ≡ words_of 840 f → length x ≡ 1680
unfolding words_of
length-all x f e = ap length e ∙ length-cat 840 2 (λ j. (f j).0 ∷ (f j).1 ∷ []) (λ j l. refl)

-- the entry of the q-th party but i lies in a record
pub macs-within : (n i q : ℕ) → q < n - 1 → mac_off (nth i q) + 16 ≤ record_len n
macs-within n i q h = omega (arith, entry-within n (nth i q) (nth-below n i q h))

pub keys-within : (n i q : ℕ) → q < n - 1 → key_off (nth i q) + 16 ≤ record_len n
keys-within n i q h = omega (arith, entry-within n (nth i q) (nth-below n i q h), key-behind (nth i q))

module _ (off : ℕ → ℕ) (n i : ℕ) (s : List ℕ) (count first : ℕ) (win : List ℕ) (h : ℕ) (acc : List ℕ) where
  -- the tables of the q-th party but i
  abbrev party_tables : ℕ → List ℕ
  party_tables q = tables (λ e. record_block s (record_len n) (off (nth i q)) count (first + e))

  pub grown-none : length acc ≡ 1680 → acc ≡ words_of 840 (grown off n i s count first win h acc 0)
  unfolding grown
  grown-none l =
      words-self 840 acc l
      ∙ words-ext 840 (pair_at acc) (grown off n i s count first win h acc 0) (λ p v. rw (le-ltb p 0 (omega arith)))

  more : ℕ → ℕ → Block
  more q p = blocks.op (pair_at acc p) (lookup (party_tables q) (half_at win h (p % 120)))

  -- Block p, where the q-th party is added
  added-grown : (q p : ℕ) (x : List ℕ) → pair_at x p ≡ grown off n i s count first win h acc q p
      → added_from (q * 120) x (party_tables q) win h p ≡ grown off n i s count first win h acc (q + 1) p
  unfolding added_from grown more
  added-grown q p x e = go (ltb p (q * 120)) refl (ltb p (q * 120 + 120)) refl
    where
      old : (b : Bool) → ltb p (q * 120) ≡ b → pair_at x p ≡ pick b (more (p / 120) p) (pair_at acc p)
      old b w = e ∙ ap (λ (t : Bool). pick t (more (p / 120) p) (pair_at acc p)) w

      go : (b : Bool) → ltb p (q * 120) ≡ b → (d : Bool) → ltb p (q * 120 + 120) ≡ d
          → pick (leb (q * 120) p && ltb p (q * 120 + 120)) (blocks.op (pair_at x p) (lookup (party_tables q) (half_at win h (p - q * 120))))
          (pair_at x p)
          ≡ pick (ltb p ((q + 1) * 120)) (more (p / 120) p) (pair_at acc p)
      go true w d v =
          let l : p < q * 120 = ltb-true p (q * 120) w in
          rw (lt-leb (q * 120) p l, lt-ltb p ((q + 1) * 120) (omega arith)) (old true w)
      go false w true v =
          let l : q * 120 ≤ p = ltb-false p (q * 120) w in
          let u : p < q * 120 + 120 = ltb-true p (q * 120 + 120) v in
          rw (le-leb (q * 120) p l, v, lt-ltb p ((q + 1) * 120) (omega arith))
          (ap₂ (λ (b : Block) k. blocks.op b (lookup (party_tables q) (half_at win h k))) (old false w)
          (let k : p - q * 120 ≡ p % 120 = omega arith in k)
          ∙ ap (λ k. more k p) (let k : q ≡ p / 120 = omega arith in k))
      go false w false v =
          let u : q * 120 + 120 ≤ p = ltb-false p (q * 120 + 120) v in
          rw (v, and-false (leb (q * 120) p), le-ltb p ((q + 1) * 120) (omega arith)) (old false w)

  -- the party's number and offset as the code has them
  pub grown-turn : (q stride k at : ℕ) (x x' : List ℕ) → stride ≡ record_len n → k ≡ nth i q → at ≡ off k
      → x ≡ words_of 840 (grown off n i s count first win h acc q)
      → x' ≡ words_of 840 (added_from (q * 120) x (tables (λ e. record_block s stride at count (first + e))) win h)
      → x' ≡ words_of 840 (grown off n i s count first win h acc (q + 1))
  grown-turn q stride k at x x' hs hk ha e e' =
      e'
      ∙ ap₂ (λ a b. words_of 840 (added_from (q * 120) x (tables (λ e. record_block s a b count (first + e))) win h)) hs (ha ∙ ap off hk)
      ∙ words-ext 840 (added_from (q * 120) x (party_tables q) win h) (grown off n i s count first win h acc (q + 1))
      (λ p l. added-grown q p x
      (ap (λ (y : List ℕ). pair_at y p) e ∙ words_at_lem 840 (grown off n i s count first win h acc q) p l))

-- ---- `sums`
module _ (off : ℕ → ℕ) (n i : ℕ) (s r : List ℕ) (row count : ℕ) where
  -- Block p of the sums over the first g groups
  unfoldable pub party_groups : ℕ → ℕ → Block
  party_groups g p = sel blocks (ltb p ((n - 1) * 120)) (groups s (record_len n) (off (nth i (p / 120))) r row count g (p % 120))

  parties-none : replicate 1680 0 ≡ words_of 840 (party_groups 0)
  unfolding party_groups
  parties-none =
      words-zero 840
      ∙ words-ext 840 (λ p. blocks.nil) (party_groups 0)
      (λ p l. sym (ap (sel blocks (ltb p ((n - 1) * 120))) (groups-zero s (record_len n) (off (nth i (p / 120))) r row count (p % 120))
      ∙ sel-nil blocks (ltb p ((n - 1) * 120))))

  module _ (hr : Bytes r) (long : 120 * row ≤ length r) (g : ℕ) (hg : g * 8 + 8 ≤ row) where
    grown-groups : (acc : List ℕ) (p : ℕ) → pair_at acc p ≡ party_groups g p
        → grown off n i s count (g * 64) (window_of r row (g / 2)) (g % 2) acc (n - 1) p ≡ party_groups (g + 1) p
    unfolding grown party_groups
    grown-groups acc p e = go (ltb p ((n - 1) * 120)) e
      where
        at : ℕ
        at = off (nth i (p / 120))

        go : (b : Bool) → pair_at acc p ≡ sel blocks b (groups s (record_len n) at r row count g (p % 120))
            → pick b
            (blocks.op (pair_at acc p)
            (lookup (tables (λ e. record_block s (record_len n) at count (g * 64 + e))) (half_at (window_of r row (g / 2)) (g % 2) (p % 120))))
            (pair_at acc p)
            ≡ sel blocks b (groups s (record_len n) at r row count (g + 1) (p % 120))
        go true e =
            ap₂ (λ (x : Block) k. blocks.op x (lookup (tables (λ e. record_block s (record_len n) at count (g * 64 + e))) k)) e
            (half-group r row g (p % 120) (omega arith))
            ∙ groups-more s (record_len n) at r row count g (p % 120) hr long hg (omega arith)
        go false e = e

    parties-turn : (acc acc' win : List ℕ) → acc ≡ words_of 840 (party_groups g) → win ≡ window_of r row (g / 2)
        → acc' ≡ words_of 840 (grown off n i s count (g * 64) win (g % 2) acc (n - 1)) → acc' ≡ words_of 840 (party_groups (g + 1))
    parties-turn acc acc' win e hw e' =
        e' ∙ ap (λ (w : List ℕ). words_of 840 (grown off n i s count (g * 64) w (g % 2) acc (n - 1))) hw
        ∙ words-ext 840 (grown off n i s count (g * 64) (window_of r row (g / 2)) (g % 2) acc (n - 1)) (party_groups (g + 1))
        (λ p l. grown-groups acc p (ap (λ (x : List ℕ). pair_at x p) e ∙ words_at_lem 840 (party_groups g) p l))

  parties-end : (g : ℕ) (acc : List ℕ) → count ≤ g * 64 → acc ≡ words_of 840 (party_groups g)
      → acc ≡ words_of 840 (party_sums off n i s r row count)
  unfolding party_groups party_sums
  parties-end g acc h e =
      e
      ∙ words-ext 840 (party_groups g) (party_sums off n i s r row count)
      (λ p l. ap (sel blocks (ltb p ((n - 1) * 120))) (groups-all s (record_len n) (off (nth i (p / 120))) r row count g (p % 120) h))

-- what the loop over the groups has after g of them
pub record Grouped (n i : ℕ) (s r : List ℕ) (row count g : ℕ) (bits macs keys win : List ℕ) : Type 0 where
  pub turns : g * 64 < count + 64
  pub bits_are : bits ≡ tab 120 (masked s (record_len n) r row count g)
  pub macs-are : macs ≡ words_of 840 (party_groups mac_off n i s r row count g)
  pub keys-are : keys ≡ words_of 840 (party_groups key_off n i s r row count g)
  pub half-left : g % 2 ≡ 1 → win ≡ window_of r row (g / 2)

module _ (n i : ℕ) (s r : List ℕ) (row count : ℕ) where
  pub grouped-none : Grouped n i s r row count 0 (replicate 120 0) (replicate 1680 0) (replicate 1680 0) (replicate 240 0)
  grouped-none = record {
    turns = omega arith;
    bits_are = masked-none s (record_len n) r row count;
    macs-are = parties-none mac_off n i s r row count;
    keys-are = parties-none key_off n i s r row count;
    half-left = λ e. absurd (omega (arith, e));
  }

  module _ (hr : Bytes r) (long : 120 * row ≤ length r) (enough : count ≤ 8 * row) (whole : row % 8 ≡ 0) (g : ℕ)
      (bits macs keys win : List ℕ) (have : Grouped n i s r row count g bits macs keys win) where
    pub grouped-turn : (stride b : ℕ) (bits' macs' keys' win' : List ℕ) → g * 64 < count → stride ≡ record_len n
        → win' ≡ window_of r row (g / 2)
        → b ≡ packed 64 (λ e. record_bit s stride count (g * 64 + e))
        → bits' ≡ tab 120 (masked_at bits win' (g % 2) b)
        → macs' ≡ words_of 840 (grown mac_off n i s count (g * 64) win' (g % 2) macs (n - 1))
        → keys' ≡ words_of 840 (grown key_off n i s count (g * 64) win' (g % 2) keys (n - 1))
        → Grouped n i s r row count (g + 1) bits' macs' keys' win'
    grouped-turn stride b bits' macs' keys' win' h hs hw hb eb em ek = record {
      turns = omega arith;
      bits_are = masked-turn s (record_len n) r row count g b bits win' bits' have.bits_are hw
          (hb ∙ ap (λ x. packed 64 (λ e. record_bit s x count (g * 64 + e))) hs) eb;
      macs-are = parties-turn mac_off n i s r row count hr long g (omega arith) macs macs' win' have.macs-are hw em;
      keys-are = parties-turn key_off n i s r row count hr long g (omega arith) keys keys' win' have.keys-are hw ek;
      half-left = λ e. hw ∙ ap (window_of r row) (let k : g / 2 ≡ (g + 1) / 2 = omega (arith, e) in k);
    }

    -- the bits, as `parities` leaves them, and the lists of Blocks
    pub grouped-end : (o : List ℕ) → count ≤ g * 64 → o ≡ tab 120 (λ j. num (odd (ones (get_or bits j 0))))
        → (o ≡ tab 120 (λ j. num (bit_sum s (record_len n) r row count j))) × (macs ≡ words_of 840 (party_sums mac_off n i s r row count))
        × (keys ≡ words_of 840 (party_sums key_off n i s r row count))
    grouped-end o h e = (
      masked-end s (record_len n) r row count g bits o hr long (omega (arith, have.turns)) h have.bits_are e,
      parties-end mac_off n i s r row count g macs h have.macs-are,
      parties-end key_off n i s r row count g keys h have.keys-are,
    )
