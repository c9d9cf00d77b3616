-- What crate rsums asks is given, and its sums, as they are kept and sent, are those of the definitions.
use Rattle.std.specs.Prelude.{◌≡◌, ◌≢◌, Bool, true, false, ◌||◌, ℕ, ◌+◌, ◌-◌, ◌*◌, ◌/◌, ◌%◌, ◌<◌, ◌≤◌, length, get_or, replicate, ltb}
use Rattle.std.proofs.Math.Path.{refl, ap, ap₂}
use Rattle.std.proofs.Common.{sym, ◌∙◌, arith, ltb-true, ltb-false, lt-ltb, le-ltb, eqb-true, ne_eqb}
use mathlib.Core.List.{List}
use Rattle.lists.specs.Pick.{pick}
use Rattle.lists.specs.Over.{tab, cat, get_or-tab, length-cat}
use Rattle.lists.specs.Rows.{cat-ext}
use Rattle.algebra.specs.Group.{odd, num, odd-num}
use Rattle.block.specs.declared.Block.{Block}
use Rattle.block.specs.Block.{bytes_of}
use Rattle.block.specs.Trip.{length-bytes_of}
use Rattle.share.specs.Record.{record_len, mac_off, key_off, bit_at, mac_at, key_at}
use Rattle.encode.specs.Encode.{encode, bit_block}
use Rattle.encode.specs.Coded.{encode-ext}
use Rattle.plan.specs.Plan.{bits_count, r_blocks, r_len}
use Rattle.plan.specs.PlanLaws.{r-blocks-most}
use Rattle.rbits.specs.Chosen.{block_sum, bit_sum, words_of, pair_at}
use Rattle.rbits.specs.WordLaws.{words_at_lem}
use Rattle.draw.specs.Strings.{strings, seed?}
use Rattle.rsums.specs.Sums.{Given, party_sums}
use Rattle.engine.specs.declared.Frame.{Frame}
use Rattle.engine.specs.StepLaws.{other-cases}
use Rattle.engine.specs.Area.{nth, to_others}
use Rattle.rounds.specs.Area.{BITS, sizes, size_of, at, rows}
use Rattle.rounds.specs.Fabitn as Fabitn
use Rattle.rounds.specs.Fabitn.{STRINGS, ROW, r_fits}
use Rattle.area.specs.Given.{Ranged, Work}
use Rattle.area.specs.GivenLaws.{length_at}
use Rattle.fabitn.specs.Rows.{place_of, held_row}

-- ---- which of the others a party is
pub place-low : (i k : ℕ) → k < i → k ≡ place_of i k
unfolding place_of
place-low i k h = rw (lt-ltb k i h) refl

pub place-high : (i k : ℕ) → i ≤ k → k - 1 ≡ place_of i k
unfolding place_of
place-high i k h = rw (le-ltb k i h) refl

place-by : {C : Type 0} (i k : ℕ) → i ≢ k → (k < i → place_of i k ≡ k → C) → (i < k → place_of i k ≡ k - 1 → C) → C
place-by {C} i k ne low high = go (ltb k i) refl
  where
    go : (b : Bool) → ltb k i ≡ b → C
    go true e = low (ltb-true k i e) (sym (place-low i k (ltb-true k i e)))
    go false e = high (omega (arith, ltb-false k i e, ne)) (sym (place-high i k (ltb-false k i e)))

pub place-below : (n i k : ℕ) → i ≢ k → i < n → k < n → place_of i k < n - 1
place-below n i k ne hi hk = place-by i k ne (λ h e. omega arith) (λ h e. omega arith)

nth-place : (i k : ℕ) → i ≢ k → nth i (place_of i k) ≡ k
unfolding nth
nth-place i k ne =
    place-by i k ne (λ h e. rw (e, lt-ltb k i h) refl) (λ h e. rw (e, le-ltb (k - 1) i (omega arith)) (omega arith))

-- the row that is kept for a party is as long as it should be
pub length-held : (i : ℕ) (words : List ℕ) (k : ℕ) → length (held_row i words k) ≡ ROW
unfolding held_row
length-held i words k = length-cat STRINGS 16 _ (λ j h. length-bytes_of _)

-- ---- what is lent
-- all strings, or a seed
strings-fit : (l len : ℕ) → r_fits l len ≡ true → len ≢ 16 → len ≡ r_len l
unfolding r_fits seed?
strings-fit l len h ne = eqb-true len (r_len l) (first _ _ h (ne_eqb len 16 ne))
  where
    first : (a b : Bool) → (a || b) ≡ true → b ≡ false → a ≡ true
    first true b e f = refl
    first false b e f = sym f ∙ e

-- the records of a work area, and the numbers as the code has them
pub given : {f : Frame} {w : List ℕ} → Work f w → (recs r : List ℕ) (count b : ℕ) → recs ≡ at f BITS w → r_fits f.l (length r) ≡ true
    → count ≡ bits_count f.l → b ≡ r_blocks f.l → Given f.n f.i count b recs r
unfolding size_of sizes r_len r_blocks
given {f} h recs r count b e fits ec eb =
    let long : length recs ≡ bits_count f.l * record_len f.n = ap length e ∙ length_at h BITS (omega arith) in
    record {
      two = h.ranges.range.two;
      eight = h.ranges.range.eight;
      own = h.ranges.own;
      records = rw (ec) (omega (arith, long));
      whole = record { lent = λ ne. omega (arith, strings-fit f.l (length r) fits ne) };
      enough = omega arith;
      most = omega (arith, r-blocks-most f.l h.ranges.range.most);
    }

-- ---- the sums are those of the definitions
-- `count` records are summed, and a string has b Blocks
module _ (f : Frame) (r recs : List ℕ) (count b : ℕ) where
  abbrev bits : ℕ → Bool
  bits = bit_sum recs (record_len f.n) (strings (STRINGS * b) r) (16 * b) count

  abbrev entries : ℕ → ℕ → Block
  entries off = block_sum recs (record_len f.n) off (strings (STRINGS * b) r) (16 * b) count

  abbrev parties : (ℕ → ℕ) → ℕ → Block
  parties off = party_sums off f.n f.i recs (strings (STRINGS * b) r) (16 * b) count

module _ (f : Frame) (r recs : List ℕ) where
  bit_sum_lem : (j : ℕ) → bits f r recs (bits_count f.l) (r_blocks f.l) j ≡ Fabitn.bit_sum f r recs j
  unfolding bit_sum Fabitn.bit_sum Fabitn.picks Fabitn.strings bit_at
  bit_sum_lem j = refl

  mac_sum_lem : (k j : ℕ) → entries f r recs (bits_count f.l) (r_blocks f.l) (mac_off k) j ≡ Fabitn.mac_sum f r recs k j
  unfolding block_sum Fabitn.mac_sum Fabitn.picks Fabitn.strings mac_at
  mac_sum_lem k j = refl

  key_sum_lem : (k j : ℕ) → entries f r recs (bits_count f.l) (r_blocks f.l) (key_off k) j ≡ Fabitn.key_sum f r recs k j
  unfolding block_sum Fabitn.key_sum Fabitn.picks Fabitn.strings key_at
  key_sum_lem k j = refl

-- sum j of the q-th of the others
sum_at_lem : (off : ℕ → ℕ) (n i : ℕ) (s r : List ℕ) (row count q j : ℕ) → q < n - 1 → j < STRINGS
    → party_sums off n i s r row count (q * STRINGS + j) ≡ block_sum s (record_len n) (off (nth i q)) r row count j
unfolding party_sums
sum_at_lem off n i s r row count q j hq hj =
    let whole : (q * 120 + j) / 120 ≡ q = omega arith in
    let rest : (q * 120 + j) % 120 ≡ j = omega arith in
    rw (lt-ltb (q * 120 + j) ((n - 1) * 120) (omega arith), whole, rest) refl

module _ {f : Frame} (ranged : Ranged f) (r recs : List ℕ) (count b : ℕ) (ec : count ≡ bits_count f.l) (eb : b ≡ r_blocks f.l) where
  -- the same, read from the words of all
  pair-at : (off : ℕ → ℕ) (words : List ℕ) → words ≡ words_of 840 (parties f r recs count b off) → (q j : ℕ) → q < f.n - 1 → j < STRINGS
      → pair_at words (q * STRINGS + j) ≡ entries f r recs (bits_count f.l) (r_blocks f.l) (off (nth f.i q)) j
  pair-at off words e q j hq hj =
      ap (λ (x : List ℕ). pair_at x (q * STRINGS + j)) e
      ∙ words_at_lem 840 (parties f r recs count b off) (q * STRINGS + j) (omega (arith, ranged.range.eight))
      ∙ sum_at_lem off f.n f.i recs (strings (STRINGS * b) r) (16 * b) count q j hq hj
      ∙ (λ t. entries f r recs (ec t) (eb t) (off (nth f.i q)) j)

  -- the messages
  pub sums-sent : (xs macs : List ℕ) → xs ≡ tab STRINGS (λ j. num (bits f r recs count b j))
      → macs ≡ words_of 840 (parties f r recs count b mac_off)
      → cat (f.n - 1) (λ q. encode STRINGS (λ j. bit_block (odd (get_or xs j 0)) (pair_at macs (q * STRINGS + j))))
      ≡ to_others f.n f.i (Fabitn.abit_msg f r recs)
  unfolding to_others Fabitn.abit_msg
  sums-sent xs macs e em =
      let bit : (j : ℕ) → j < STRINGS → odd (get_or xs j 0) ≡ Fabitn.bit_sum f r recs j =
      λ j h. ap (λ (s : List ℕ). odd (get_or s j 0)) e ∙ ap odd (get_or-tab STRINGS j (λ j. num (bits f r recs count b j)) 0 h)
      ∙ odd-num (bits f r recs count b j) ∙ (λ t. bits f r recs (ec t) (eb t) j) ∙ bit_sum_lem f r recs j in
      cat-ext (f.n - 1) _ _ (λ q hq. encode-ext STRINGS _ _ (λ j h.
      ap₂ bit_block (bit j h) (pair-at mac_off macs em q j hq h ∙ mac_sum_lem f r recs (nth f.i q) j)))

  -- the rows
  pub sums_kept : (keys : List ℕ) → keys ≡ words_of 840 (parties f r recs count b key_off)
      → rows f ROW (held_row f.i keys) ≡ Fabitn.key_sums f r recs
  unfolding rows held_row Fabitn.key_sums
  sums_kept keys e =
      let row : (k : ℕ) → k < f.n → f.i ≢ k → cat STRINGS (λ j. bytes_of (pair_at keys (place_of f.i k * STRINGS + j)))
      ≡ cat STRINGS (λ j. bytes_of (Fabitn.key_sum f r recs k j)) =
      λ k h ne. cat-ext STRINGS _ _ (λ j hj. ap bytes_of
      (pair-at key_off keys e (place_of f.i k) j (place-below f.n f.i k ne ranged.own h) hj
      ∙ key_sum_lem f r recs (nth f.i (place_of f.i k)) j
      ∙ ap (λ x. Fabitn.key_sum f r recs x j) (nth-place f.i k ne))) in
      cat-ext f.n _ _ (λ k h. other-cases f k
      (λ p. pick p (cat STRINGS (λ j. bytes_of (pair_at keys (place_of f.i k * STRINGS + j)))) (replicate ROW 0)
      ≡ pick p (cat STRINGS (λ j. bytes_of (Fabitn.key_sum f r recs k j))) (replicate ROW 0)) (row k) refl)
