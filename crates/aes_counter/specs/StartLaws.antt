-- After two rounds the State of a counter is the XOR of its bytes' parts.
use Rattle.std.specs.Prelude.{◌≡◌, length, get_or, set, drop}
use Rattle.std.proofs.Math.Path.{refl, ap}
use Rattle.std.proofs.Common.{sym, ◌∙◌}
use mathlib.Core.List.{List, [], ◌∷◌, ◌++◌}
use Prim.Native.Nat.{ℕ, suc, ◌+◌, ◌-◌, ◌*◌, ◌/◌, ◌%◌, ◌^◌, ◌<◌}
use native.Mathlib.Omega.{arith}
use Rattle.std.specs.Int.Bits.{bit_xor}
use Rattle.std.proofs.lemmas.Nat.{xor_block, xor_mod}
use Rattle.lists.specs.Over.{tab, tab-turn, tab-end, get_or-tab}
use Rattle.algebra.specs.Group.{XorGroup, numbers, ac}
use Rattle.block.specs.declared.Block.{Block}
use Rattle.block.specs.Block.{bytes_of, xor_of}
use Rattle.fips197.specs.Cipher.{sub_bytes, shift_rows, mix_columns, add_round_key, rounds, cipher}
use Rattle.aes_tables.specs.Word.{bytes4}
use Rattle.aes_tables.specs.Tables.{tables}
use Rattle.aes_tables.specs.WordLaws.{xor4, bytes4-xor}
use Rattle.aes_key.specs.Words.{words_bytes}
use Rattle.aes.specs.declared.Columns.{Columns}
use Rattle.aes.specs.Columns.{state_of, block_of, columns_of, column_of}
use Rattle.aes.specs.ColumnLaws.{round-columns, first-columns, bytes_of-columns, bytes_of-block}
use Rattle.aes_counter.specs.Starts.{pieces_of, first_of, rest_of, part_of, start_at, starts_of, begun}

-- ---- the first round: a column depends on one byte of the counter
xor-byte : (u v k r : ℕ) → r < 4 → get_or (bytes4 u) r 0 ≡ get_or (bytes4 v) r 0
    → get_or (bytes4 (bit_xor u k)) r 0 ≡ get_or (bytes4 (bit_xor v k)) r 0
unfolding xor4
xor-byte u v k r h e =
    let at : (x : ℕ) → get_or (bytes4 (bit_xor x k)) r 0 ≡ bit_xor (get_or (bytes4 x) r 0) (get_or (bytes4 k) r 0) =
    λ x. ap (λ (s : List ℕ). get_or s r 0) (bytes4-xor x k)
    ∙ get_or-tab 4 r (λ r. bit_xor (get_or (bytes4 x) r 0) (get_or (bytes4 k) r 0)) 0 h in
    at u ∙ ap (λ y. bit_xor y (get_or (bytes4 k) r 0)) e ∙ sym (at v)

column-ext : (t : List ℕ) (a b c d a' b' c' d' k : ℕ) → a % 256 ≡ a' % 256 → b / 0x100 % 256 ≡ b' / 0x100 % 256
    → c / 0x1_0000 % 256 ≡ c' / 0x1_0000 % 256 → d / 0x100_0000 % 256 ≡ d' / 0x100_0000 % 256
    → column_of t a b c d k ≡ column_of t a' b' c' d' k
unfolding column_of
column-ext t a b c d a' b' c' d' k e0 e1 e2 e3 i =
    bit_xor (bit_xor (bit_xor (bit_xor (get_or t (e0 i) 0) (get_or t (256 + e1 i) 0)) (get_or t (512 + e2 i) 0)) (get_or t (768 + e3 i) 0)) k

module _ (t w : List ℕ) (c : ℕ) (h : c < 2 ^ 24) where
  abbrev k : ℕ → ℕ
  k i = get_or w i 0

  first-0 : (first_of t w (c % 256)).0 ≡ (first_of t w c).0
  unfolding first_of bytes4
  first-0 =
      let e : c % 256 % 256 ≡ c % 256 = omega arith in
      column-ext t _ (k 1) (k 2) (k 3) _ (k 1) (k 2) (k 3) (k 4) (xor-byte (c % 256) c (k 0) 0 (omega arith) e) refl refl refl

  first-3 : (first_of t w (c / 0x100 % 256 * 0x100)).3 ≡ (first_of t w c).3
  unfolding first_of bytes4
  first-3 =
      let x : ℕ = c / 0x100 % 256 in
      let e : x * 0x100 / 0x100 % 256 ≡ c / 0x100 % 256 = omega arith in
      column-ext t (k 3) _ (k 1) (k 2) (k 3) _ (k 1) (k 2) (k 7) refl (xor-byte (x * 0x100) c (k 0) 1 (omega arith) e) refl refl

  first-2 : (first_of t w (c / 0x1_0000 * 0x1_0000)).2 ≡ (first_of t w c).2
  unfolding first_of bytes4
  first-2 =
      let x : ℕ = c / 0x1_0000 in
      let e : x * 0x1_0000 / 0x1_0000 % 256 ≡ c / 0x1_0000 % 256 = omega arith in
      column-ext t (k 2) (k 3) _ (k 1) (k 2) (k 3) _ (k 1) (k 6) refl refl (xor-byte (x * 0x1_0000) c (k 0) 2 (omega arith) e) refl

  first-1 : (first_of t w 0).1 ≡ (first_of t w c).1
  unfolding first_of bytes4
  first-1 =
      let e : 0 ≡ c / 0x100_0000 % 256 = omega arith in
      column-ext t (k 1) (k 2) (k 3) _ (k 1) (k 2) (k 3) _ (k 5) refl refl refl (xor-byte 0 c (k 0) 3 (omega arith) e)

-- ---- the second round: the columns' pieces, sorted
module _ {A : Type 0} (G : XorGroup A) (a b c d k : A) where
  abbrev sorted : A
  sorted = G.op (G.op (G.op a (G.op b k)) d) c

  sort-0 : sorted ≡ G.op (G.op (G.op (G.op a b) c) d) k
  sort-0 = simp ac

  sort-1 : sorted ≡ G.op (G.op (G.op (G.op b c) d) a) k
  sort-1 = simp ac

  sort-2 : sorted ≡ G.op (G.op (G.op (G.op c d) a) b) k
  sort-2 = simp ac

  sort-3 : sorted ≡ G.op (G.op (G.op (G.op d a) b) c) k
  sort-3 = simp ac

abbrev added : Columns → Columns → Columns
added a b = record { 0 = bit_xor a.0 b.0; 1 = bit_xor a.1 b.1; 2 = bit_xor a.2 b.2; 3 = bit_xor a.3 b.3 }

module _ (t w : List ℕ) where
  -- the columns after the second round
  abbrev second_of : Columns → Columns
  second_of e = record {
    0 = column_of t e.0 e.1 e.2 e.3 (get_or w 8 0);
    1 = column_of t e.1 e.2 e.3 e.0 (get_or w 9 0);
    2 = column_of t e.2 e.3 e.0 e.1 (get_or w 10 0);
    3 = column_of t e.3 e.0 e.1 e.2 (get_or w 11 0);
  }

  parts_added : (c : ℕ) → c < 2 ^ 24
      → added (added (part_of t w 0 (c % 256)) (part_of t w 1 (c / 0x100 % 256))) (part_of t w 2 (c / 0x1_0000)) ≡ second_of (first_of t w c)
  unfolding part_of rest_of pieces_of column_of
  parts_added c h =
      let q : ℕ → Columns = pieces_of t in
      let a : Columns = q (first_of t w (c % 256)).0 in
      let b : Columns = q (first_of t w 0).1 in
      let d : Columns = q (first_of t w (c / 0x1_0000 * 0x1_0000)).2 in
      let f : Columns = q (first_of t w (c / 0x100 % 256 * 0x100)).3 in
      (λ i. record {
        0 = sort-0 numbers a.0 b.1 d.2 f.3 (get_or w 8 0) i;
        1 = sort-1 numbers a.3 b.0 d.1 f.2 (get_or w 9 0) i;
        2 = sort-2 numbers a.2 b.3 d.0 f.1 (get_or w 10 0) i;
        3 = sort-3 numbers a.1 b.2 d.3 f.0 (get_or w 11 0) i;
      })
      ∙ (λ i. second_of (record { 0 = first-0 t w c h i; 1 = first-1 t w c h i; 2 = first-2 t w c h i; 3 = first-3 t w c h i }))

module _ (w : List ℕ) (c : ℕ) (h : c < 2 ^ 24) where
  abbrev W : List ℕ
  W = words_bytes 44 w

  abbrev counter : Block
  counter = record { 0 = c; 1 = 0 }

  -- before the first round
  abbrev keyed : Columns
  keyed = record { 0 = bit_xor c (get_or w 0 0); 1 = get_or w 1 0; 2 = get_or w 2 0; 3 = get_or w 3 0 }

  second-state : state_of (second_of tables w (first_of tables w c)) ≡ begun w c
  unfolding rounds first_of columns_of
  second-state =
      let low : c ≡ c % 0x1_0000_0000 = omega arith in
      let high : 0 ≡ c / 0x1_0000_0000 = omega arith in
      let e : Columns = first_of tables w c in
      let none =
      first-columns w counter (columns_of counter) keyed refl (ap (λ x. bit_xor x (get_or w 0 0)) low)
      (ap (λ x. bit_xor x (get_or w 1 0)) high) refl refl in
      let one =
      round-columns w keyed e tables 1 refl (omega arith) refl refl refl refl
      ∙ ap (λ (s : List ℕ). add_round_key W 1 (mix_columns (shift_rows (sub_bytes s)))) none in
      round-columns w e (second_of tables w e) tables 2 refl (omega arith) refl refl refl refl
      ∙ ap (λ (s : List ℕ). add_round_key W 2 (mix_columns (shift_rows (sub_bytes s)))) one

-- ---- parts in words
pack-xor : (a b c d : ℕ)
    → bit_xor (a * 2 ^ 32 + b % 2 ^ 32) (c * 2 ^ 32 + d % 2 ^ 32) ≡ bit_xor a c * 2 ^ 32 + bit_xor b d % 2 ^ 32
pack-xor a b c d =
    xor_block 32 a c (b % 2 ^ 32) (d % 2 ^ 32) (omega arith) (omega arith)
    ∙ ap (λ x. bit_xor a c * 2 ^ 32 + x) (sym (xor_mod b d 32))

block-added : (a b : Columns) → xor_of (block_of a) (block_of b) ≡ block_of (added a b)
unfolding block_of xor_of
block-added a b i = record { 0 = pack-xor a.1 a.0 b.1 b.0 i; 1 = pack-xor a.3 a.2 b.3 b.2 i }

module _ (t w : List ℕ) (j p x : ℕ) (e : j / 512 ≡ p) (f : j / 2 % 256 ≡ x) where
  abbrev half : ℕ → Block → ℕ
  half n b = get_or (b.0 ∷ b.1 ∷ []) n 0

  start-even : j % 2 ≡ 0 → start_at t w j ≡ (block_of (part_of t w p x)).0
  unfolding start_at
  start-even g i = half (g i) (block_of (part_of t w (e i) (f i)))

  start-odd : j % 2 ≡ 1 → start_at t w j ≡ (block_of (part_of t w p x)).1
  unfolding start_at
  start-odd g i = half (g i) (block_of (part_of t w (e i) (f i)))

starts-at : (w : List ℕ) (j p x : ℕ) → p < 3 → x < 256 → j ≡ p * 512 + x * 2
    → record { 0 = get_or (starts_of w) j 0; 1 = get_or (starts_of w) (j + 1) 0 } ≡ block_of (part_of tables w p x)
unfolding starts_of
starts-at w j p x hp hx e =
    let low = get_or-tab 1536 j (start_at tables w) 0 (omega arith) ∙ start-even tables w j p x (omega arith) (omega arith) (omega arith) in
    let high =
    get_or-tab 1536 (j + 1) (start_at tables w) 0 (omega arith) ∙ start-odd tables w (j + 1) p x (omega arith) (omega arith) (omega arith) in
    λ i. record { 0 = low i; 1 = high i }

-- what `start` makes of the parts
pub start-state : (w s : List ℕ) (c a b d : ℕ) (r : Columns) → c < 2 ^ 24 → s ≡ starts_of w → a ≡ c % 256 * 2
    → b ≡ 512 + c / 0x100 % 256 * 2 → d ≡ 1024 + c / 0x1_0000 * 2
    → r ≡ columns_of (record {
      0 = bit_xor (bit_xor (get_or s a 0) (get_or s b 0)) (get_or s d 0);
      1 = bit_xor (bit_xor (get_or s (a + 1) 0) (get_or s (b + 1) 0)) (get_or s (d + 1) 0);
    })
    → state_of r ≡ begun w c
unfolding xor_of
start-state w s c a b d r h e ea eb ed er =
    let at : List ℕ → ℕ → Block = λ s j. record { 0 = get_or s j 0; 1 = get_or s (j + 1) 0 } in
    let xor : List ℕ → Block = λ s. xor_of (xor_of (at s a) (at s b)) (at s d) in
    let p0 : Columns = part_of tables w 0 (c % 256) in
    let p1 : Columns = part_of tables w 1 (c / 0x100 % 256) in
    let p2 : Columns = part_of tables w 2 (c / 0x1_0000) in
    let x0 = starts-at w a 0 (c % 256) (omega arith) (omega arith) (omega arith) in
    let x1 = starts-at w b 1 (c / 0x100 % 256) (omega arith) (omega arith) (omega arith) in
    let x2 = starts-at w d 2 (c / 0x1_0000) (omega arith) (omega arith) (omega arith) in
    ap state_of er ∙ sym (bytes_of-columns (xor s)) ∙ ap (λ (s : List ℕ). bytes_of (xor s)) e
    ∙ (λ i. bytes_of (xor_of (xor_of (x0 i) (x1 i)) (x2 i)))
    ∙ ap (λ (b : Block). bytes_of (xor_of b (block_of p2))) (block-added p0 p1)
    ∙ ap bytes_of (block-added (added p0 p1) p2)
    ∙ bytes_of-block (added (added p0 p1) p2)
    ∙ ap state_of (parts_added tables w c h)
    ∙ second-state w c h

-- ---- what `rest`, `part` and `starts` make
pub rest-made : (t w : List ℕ) (e : ℕ) (q : Columns) → q ≡ pieces_of t e → e ≡ (first_of t w 0).1
    → record {
      0 = bit_xor q.1 (get_or w 8 0);
      1 = bit_xor q.0 (get_or w 9 0);
      2 = bit_xor q.3 (get_or w 10 0);
      3 = bit_xor q.2 (get_or w 11 0);
    } ≡ rest_of t w
unfolding rest_of
rest-made t w e q hq he =
    let a = hq ∙ ap (pieces_of t) he in
    λ i. record {
      0 = bit_xor (a i).1 (get_or w 8 0);
      1 = bit_xor (a i).0 (get_or w 9 0);
      2 = bit_xor (a i).3 (get_or w 10 0);
      3 = bit_xor (a i).2 (get_or w 11 0);
    }

module _ (t w : List ℕ) (p x e : ℕ) (q : Columns) (hq : q ≡ pieces_of t e) where
  pub part-0 : (z : Columns) → p ≡ 0 → z ≡ rest_of t w → e ≡ (first_of t w x).0
      → record { 0 = bit_xor q.0 z.0; 1 = bit_xor q.3 z.1; 2 = bit_xor q.2 z.2; 3 = bit_xor q.1 z.3 } ≡ part_of t w p x
  unfolding part_of
  part-0 z hp hz he =
      let a = hq ∙ ap (pieces_of t) he in
      (λ i. record {
        0 = bit_xor (a i).0 (hz i).0;
        1 = bit_xor (a i).3 (hz i).1;
        2 = bit_xor (a i).2 (hz i).2;
        3 = bit_xor (a i).1 (hz i).3;
      })
      ∙ ap (λ n. part_of t w n x) (sym hp)

  pub part-1 : p ≡ 1 → e ≡ (first_of t w (x * 0x100)).3 → record { 0 = q.3; 1 = q.2; 2 = q.1; 3 = q.0 } ≡ part_of t w p x
  unfolding part_of
  part-1 hp he =
      let a = hq ∙ ap (pieces_of t) he in
      (λ i. record { 0 = (a i).3; 1 = (a i).2; 2 = (a i).1; 3 = (a i).0 }) ∙ ap (λ n. part_of t w n x) (sym hp)

  pub part-2 : p ≡ suc (suc (p - 2)) → e ≡ (first_of t w (x * 0x1_0000)).2
      → record { 0 = q.2; 1 = q.1; 2 = q.0; 3 = q.3 } ≡ part_of t w p x
  unfolding part_of
  part-2 hp he =
      let a = hq ∙ ap (pieces_of t) he in
      (λ i. record { 0 = (a i).2; 1 = (a i).1; 2 = (a i).0; 3 = (a i).3 }) ∙ ap (λ n. part_of t w n x) (sym hp)

pub starts-turn : (t w l d : List ℕ) (i : ℕ) (s : Columns) (b : Block) → i < 768 → length l ≡ 1536
    → d ≡ tab (i * 2) (start_at t w) ++ drop (i * 2) l → s ≡ part_of t w (i / 256) (i % 256) → b ≡ block_of s
    → set (set d (i * 2) b.0) (i * 2 + 1) b.1 ≡ tab ((i + 1) * 2) (start_at t w) ++ drop ((i + 1) * 2) l
starts-turn t w l d i s b h n e hs hb =
    let part : b ≡ block_of (part_of t w (i / 256) (i % 256)) = hb ∙ ap block_of hs in
    let low : b.0 ≡ start_at t w (i * 2) =
    ap (λ (b : Block). b.0) part
    ∙ sym (start-even t w (i * 2) (i / 256) (i % 256) (omega arith) (omega arith) (omega arith)) in
    let high : b.1 ≡ start_at t w (i * 2 + 1) =
    ap (λ (b : Block). b.1) part
    ∙ sym (start-odd t w (i * 2 + 1) (i / 256) (i % 256) (omega arith) (omega arith) (omega arith)) in
    tab-turn (i * 2 + 1) (start_at t w) l (set d (i * 2) b.0) b.1 (tab-turn (i * 2) (start_at t w) l d b.0 e low (omega arith)) high
    (omega arith)
    ∙ ap (λ n. tab n (start_at t w) ++ drop n l) (let q : i * 2 + 1 + 1 ≡ (i + 1) * 2 = omega arith in q)

pub starts-end : (t w l d : List ℕ) (i : ℕ) → t ≡ tables → i ≡ 768 → length l ≡ 1536 → d ≡ tab (i * 2) (start_at t w) ++ drop (i * 2) l
    → d ≡ starts_of w
unfolding starts_of
starts-end t w l d i ht h n e =
    tab-end (i * 2) 1536 (start_at t w) l d e (omega arith) (omega arith) ∙ ap (λ (t : List ℕ). tab 1536 (start_at t w)) ht

-- ---- the rounds that are left
abbrev round_of : List ℕ → ℕ → Columns → List ℕ
round_of w k s = add_round_key w k (mix_columns (shift_rows (sub_bytes (state_of s))))

round-more : (w y : List ℕ) (k : ℕ) (s r : Columns) → state_of s ≡ rounds w k y → state_of r ≡ round_of w (suc k) s
    → state_of r ≡ rounds w (suc k) y
unfolding rounds
round-more w y k s r e h = h ∙ ap (λ (s : List ℕ). add_round_key w (suc k) (mix_columns (shift_rows (sub_bytes s)))) e

pub rounds-left : (w y : List ℕ) (s2 s3 s4 s5 s6 s7 s8 s9 s : Columns) (b : Block) → state_of s2 ≡ rounds w 2 y
    → state_of s3 ≡ round_of w 3 s2 → state_of s4 ≡ round_of w 4 s3 → state_of s5 ≡ round_of w 5 s4 → state_of s6 ≡ round_of w 6 s5
    → state_of s7 ≡ round_of w 7 s6 → state_of s8 ≡ round_of w 8 s7 → state_of s9 ≡ round_of w 9 s8
    → state_of s ≡ add_round_key w 10 (shift_rows (sub_bytes (state_of s9))) → b ≡ block_of s → bytes_of b ≡ cipher w y
unfolding cipher
rounds-left w y s2 s3 s4 s5 s6 s7 s8 s9 s b h2 h3 h4 h5 h6 h7 h8 h9 h e =
    let e3 = round-more w y 2 s2 s3 h2 h3 in
    let e4 = round-more w y 3 s3 s4 e3 h4 in
    let e5 = round-more w y 4 s4 s5 e4 h5 in
    let e6 = round-more w y 5 s5 s6 e5 h6 in
    let e7 = round-more w y 6 s6 s7 e6 h7 in
    let e8 = round-more w y 7 s7 s8 e7 h8 in
    let e9 = round-more w y 8 s8 s9 e8 h9 in
    ap bytes_of e ∙ bytes_of-block s ∙ h ∙ ap (λ (s : List ℕ). add_round_key w 10 (shift_rows (sub_bytes s))) e9
