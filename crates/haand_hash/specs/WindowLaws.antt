-- Which Block stands in which lane of a window, and what is read from the hashes.
use Rattle.std.specs.Prelude.{◌≡◌, refl, Bool, true, false, ◌≢◌, get_or, drop, ltb}
use Rattle.std.proofs.Math.Path.{sym, ap}
use Rattle.std.proofs.Common.{ap₂, ◌∙◌, zero-add, add-zero, mul_assoc, mul_comm, add-mul, zero-mul, take_at, get_or-take, ltb-true, ltb-false}
use mathlib.Core.List.{List, ◌++◌}
use Prim.Native.Nat.{ℕ, zero, suc, ◌+◌, ◌-◌, ◌*◌, ◌/◌, ◌<◌, ◌≤◌}
use Rattle.std.proofs.Math.Nat.{lt-div-mul-add}
use native.Mathlib.Omega.{arith}
use Rattle.std.proofs.Math.ListN.{length, take}
use Rattle.std.proofs.Math.Seq.{get_or-drop}
use Rattle.lists.specs.Pick.{pick}
use Rattle.lists.specs.Over.{cat, length-cat, length_over, in-chunks}
use Rattle.lists.specs.Rows.{chunk, chunk-cat}
use Rattle.lists.specs.Sect.{put, get-put-before, get-put-same}
use Rattle.lists.specs.Bytes.{Bytes}
use Rattle.algebra.specs.Group.{odd}
use Rattle.block.specs.declared.Block.{Block}
use Rattle.block.specs.Block.{block_at, bytes_of}
use Rattle.block.specs.Group.{blocks}
use Rattle.block.specs.Trip.{Small, small_at, small-xor, block_here, block-get, block-part, length-bytes_of}
use Rattle.blake3.specs.Tree.{hash}
use Rattle.blake3_lanes.specs.Lanes.{LANES, hash_at}
use Rattle.blake3_lanes.specs.LaneLaws.{length-hash_at, hash-lanes}
use Rattle.share.specs.Record.{mac_off, key_off, mac_at, key_at}
use Rattle.engine.specs.declared.Frame.{Frame}
use Rattle.engine.specs.Step.{stretch}
use Rattle.engine.specs.Area.{nth, to_others, length-to_others, stretch-to_others, get-get}
use Rattle.blake3.specs.ByteLaws.{length-hash}
use Rattle.rounds.specs.Haand.{G, H}
use Rattle.haand_hash.specs.Window.{place, part_of, Hashed, hashes, g_at, h_at}

pub place-lt : (n i k : ℕ) → i < n → k < n → i ≢ k → place i k < n - 1
place-lt n i k li lk ne = go (ltb k i) refl
  where
    go : (b : Bool) → ltb k i ≡ b → pick b k (k - 1) < n - 1
    go true e = omega (arith, ltb-true k i e)
    go false e = omega (arith, ltb-false k i e)

-- a window has lanes for one position at least
pub some_fit : (lanes c : ℕ) → 0 < c → c ≤ lanes → 0 < lanes / c
some_fit lanes c p l = go (lanes / c) refl
  where
    go : (q : ℕ) → lanes / c ≡ q → 0 < q
    go zero e = omega (arith, lt-div-mul-add {a = lanes} {b = c} p, ap (λ q. q * c) e ∙ zero-mul c)
    go (suc q) e = omega arith

-- ---- what is read from the hashes of a position
module _ (f : Frame) (k : ℕ) (g : ℕ → Block) (s : List ℕ) (e : s ≡ hashes f g) (li : f.i < f.n) (lk : k < f.n) (ne : f.i ≢ k) where
  found : stretch 32 f.i k s ≡ hash (bytes_of (g k))
  found =
      ap (stretch 32 f.i k) e
      ∙ stretch-to_others 32 f.n f.i (λ k. hash (bytes_of (g k))) (λ j l d. length-hash (bytes_of (g j))) k li lk ne

  pub g-is : g_at f.i s k ≡ G (g k)
  unfolding g_at G
  g-is = ap (λ (x : List ℕ). block_at x 0) found

  pub h-is : h_at f.i s k ≡ H (g k)
  unfolding h_at H
  h-is = ap (λ (x : List ℕ). odd (get_or x 31 0)) found

-- the hashes of position p of a window, lent as `&s[a..e]`
pub lent-hashes : {f : Frame} {m from : ℕ} {g : ℕ → ℕ → Block} {s : List ℕ} → Hashed f m from g s → (p a e : ℕ) → p < m
    → a ≡ from + p * ((f.n - 1) * 32) → e ≡ a + (f.n - 1) * 32 → take (e - a) (drop a s) ≡ hashes f (g p)
lent-hashes {f = f} {s = s} h p a e lp ha he =
    ap₂ (λ k o. take k (drop o s)) (let q : e - a ≡ (f.n - 1) * 32 = omega arith in q) ha ∙ h.at p lp

pub length-hashes : (f : Frame) (g : ℕ → Block) → length (hashes f g) ≡ (f.n - 1) * 32
length-hashes f g = length-to_others 32 f.n f.i (λ k. hash (bytes_of (g k))) (λ k l ne. length-hash (bytes_of (g k)))

-- the bytes of a hash, where the code reads them
module _ (i k q : ℕ) (s : List ℕ) (e : q ≡ place i k) where
  swap : q * 32 ≡ 32 * place i k
  swap = ap (λ m. m * 32) e ∙ mul_comm (place i k) 32

  pub g-read : block_at s (q * 32) ≡ g_at i s k
  unfolding g_at stretch
  g-read =
      let a : ℕ = 32 * place i k in
      ap (block_at s) (swap ∙ sym (add-zero a)) ∙ sym (block-get s a 32 0 (omega arith))

  pub h-read : odd (get_or s (q * 32 + 31) 0) ≡ h_at i s k
  unfolding h_at stretch
  h-read =
      let a : ℕ = 32 * place i k in
      ap (λ m. odd (get_or s (m + 31) 0)) swap ∙ ap odd (sym (get_or-take 32 (drop a s) 31 0 (omega arith) ∙ get_or-drop a s 31 0))

pub small-part : (keys : Bool) (s : List ℕ) (at k : ℕ) → Bytes s → Small (part_of keys s at k)
unfolding mac_at key_at
small-part true s at k b = small_at s b (at + key_off k)
small-part false s at k b = small_at s b (at + mac_off k)

-- ---- the lanes of a window that has the Blocks g p k in front, for each of m positions p, of each party k but i
abbrev pub bytes_in : ℕ → ℕ → ℕ → ℕ
bytes_in n m size = m * ((n - 1) * size)

abbrev gathered : Frame → ℕ → (ℕ → ℕ → Block) → List ℕ
gathered f m g = cat m (λ p. to_others f.n f.i (λ k. bytes_of (g p k)))

length-position : (f : Frame) (g : ℕ → Block) → length (to_others f.n f.i (λ k. bytes_of (g k))) ≡ (f.n - 1) * 16
length-position f g = length-to_others 16 f.n f.i (λ k. bytes_of (g k)) (λ k l ne. length-bytes_of (g k))

-- byte q of group p, in lanes of k bytes
in_lane : (p c q k : ℕ) → (p * c + q) * k ≡ p * (c * k) + q * k
in_lane p c q k = add-mul (p * c) q k ∙ ap (λ a. a + q * k) (mul_assoc p c k)

lane_below : (m c p q : ℕ) → p < m → q < c → p * c + q < m * c
lane_below m c p q lp lq = omega (arith, in-chunks p m c lp)

module _ (f : Frame) (m : ℕ) (g : ℕ → ℕ → Block) (s : List ℕ) where
  -- written through the first bytes of s
  module _ (x : List ℕ) (e : x ≡ gathered f m g) (fits : bytes_in f.n m 16 ≤ length s) where
    long : length x ≡ bytes_in f.n m 16
    long = ap length e ∙ length-cat m ((f.n - 1) * 16) (λ p. to_others f.n f.i (λ k. bytes_of (g p k)))
        (λ p l. length-position f (g p))

    pub filled-length : length (x ++ drop (bytes_in f.n m 16) s) ≡ length s
    filled-length = length_over x s (bytes_in f.n m 16) long fits

    pub filled : take (bytes_in f.n m 16) (x ++ drop (bytes_in f.n m 16) s) ≡ gathered f m g
    filled = take_at x (drop (bytes_in f.n m 16) s) (bytes_in f.n m 16) long ∙ e

  module _ (small : (p k : ℕ) → Small (g p k)) (e : take (bytes_in f.n m 16) s ≡ gathered f m g) where
    lane-is : (p q : ℕ) → p < m → q < f.n - 1 → block_at s ((p * (f.n - 1) + q) * 16) ≡ g p (nth f.i q)
    unfolding to_others chunk
    lane-is p q lp lq =
        let c : ℕ = (f.n - 1) * 16 in
        let row : ℕ → List ℕ = λ p. to_others f.n f.i (λ k. bytes_of (g p k)) in
        let h : ℕ → List ℕ = λ q. bytes_of (g p (nth f.i q)) in
        let position : take c (drop (p * c) s) ≡ row p =
        ap (λ a. take c (drop a s)) (sym (zero-add (p * c))) ∙ sym (get-get 0 (m * c) (p * c) c s (in-chunks p m c lp))
        ∙ ap (λ (x : List ℕ). take c (drop (p * c) x)) e ∙ chunk-cat c m row (λ j l. length-position f (g j)) p lp in
        block_here s ((p * (f.n - 1) + q) * 16) (g p (nth f.i q))
        (ap (λ a. take 16 (drop a s)) (in_lane p (f.n - 1) q 16) ∙ sym (get-get (p * c) c (q * 16) 16 s (in-chunks q (f.n - 1) 16 lq))
        ∙ ap (λ (x : List ℕ). take 16 (drop (q * 16) x)) position
        ∙ chunk-cat 16 (f.n - 1) h (λ j l. length-bytes_of (g p (nth f.i j))) q lq)
        (small p (nth f.i q))

-- ---- the hashes of a window, where the Blocks in its lanes from lane `from` on are known
lanes-hashed : (f : Frame) (m from : ℕ) (g : ℕ → ℕ → Block) (s x : List ℕ) → x ≡ cat LANES (hash_at s) → from + m * (f.n - 1) ≤ LANES
    → ((p q : ℕ) → p < m → q < f.n - 1 → block_at s ((from + (p * (f.n - 1) + q)) * 16) ≡ g p (nth f.i q)) → Hashed f m (from * 32) g x
unfolding to_others
lanes-hashed f m from g s x ex fits lane = record {
  long = ap length ex ∙ length-cat LANES 32 (hash_at s) (λ j l. length-hash_at s j);
  at = λ p lp.
      let c : ℕ = f.n - 1 in
      ap₂ (λ (y : List ℕ) a. take (c * 32) (drop a y)) ex
      (ap (λ a. from * 32 + a) (sym (mul_assoc p c 32)) ∙ sym (add-mul from (p * c) 32))
      ∙ hash-lanes s LANES (from + p * c) c (λ q. g p (nth f.i q)) (let b : p * c + c ≤ m * c = in-chunks p m c lp in omega arith)
      (λ q lq. ap (λ j. block_at s (j * 16)) (let b : from + p * c + q ≡ from + (p * c + q) = omega arith in b) ∙ lane p q lp lq);
}

module _ (f : Frame) (m : ℕ) (g : ℕ → ℕ → Block) (s : List ℕ) (small : (p k : ℕ) → Small (g p k))
    (e : take (bytes_in f.n m 16) s ≡ gathered f m g) where
  -- a whole window
  pub window-hashed : (x : List ℕ) → m * (f.n - 1) ≤ LANES → x ≡ cat LANES (hash_at s) → Hashed f m 0 g x
  window-hashed x fits ex =
      lanes-hashed f m 0 g s x ex (omega arith)
      (λ p q lp lq. ap (λ j. block_at s (j * 16)) (zero-add (p * (f.n - 1) + q)) ∙ lane-is f m g s small e p q lp lq)

  -- half a window, and the same Blocks plus d in the other half
  module _ (d : Block) (w x : List ℕ) (small-d : Small d) (long : length s ≡ 1024) (fits : m * (f.n - 1) ≤ 32)
      (ew : w ≡ cat 32 (λ j. bytes_of (blocks.op (block_at s (j * 16)) d))) (ex : x ≡ cat LANES (hash_at (put 512 512 w s))) where
    abbrev both : List ℕ
    both = put 512 512 w s

    first : (j : ℕ) → j < 32 → block_at both (j * 16) ≡ block_at s (j * 16)
    first j l =
        sym (block-part both (j * 16))
        ∙ ap (λ (y : List ℕ). block_at y 0) (get-put-before (j * 16) 16 512 512 w s (omega arith) (omega arith))
        ∙ block-part s (j * 16)

    second : (j : ℕ) → j < 32 → Small (block_at s (j * 16)) → block_at both ((32 + j) * 16) ≡ blocks.op (block_at s (j * 16)) d
    unfolding chunk
    second j l b =
        let row : ℕ → List ℕ = λ j. bytes_of (blocks.op (block_at s (j * 16)) d) in
        let each : (j : ℕ) → j < 32 → length (row j) ≡ 16 = λ j l. length-bytes_of (blocks.op (block_at s (j * 16)) d) in
        block_here both ((32 + j) * 16) (blocks.op (block_at s (j * 16)) d)
        (ap (λ a. take 16 (drop a both)) (let q : (32 + j) * 16 ≡ 512 + j * 16 = omega arith in q)
        ∙ sym (get-get 512 512 (j * 16) 16 both (omega arith))
        ∙ ap (λ (y : List ℕ). take 16 (drop (j * 16) y)) (get-put-same 512 512 w s (ap length ew ∙ length-cat 32 16 row each) (omega arith)
        ∙ ew)
        ∙ chunk-cat 16 32 row each j l)
        (small-xor (block_at s (j * 16)) d b small-d)

    in-half : (p q : ℕ) → p < m → q < f.n - 1 → p * (f.n - 1) + q < 32
    in-half p q lp lq = omega (arith, lane_below m (f.n - 1) p q lp lq)

    pub first-hashed : Hashed f m 0 g x
    first-hashed =
        lanes-hashed f m 0 g both x ex (omega arith)
        (λ p q lp lq. ap (λ j. block_at both (j * 16)) (zero-add (p * (f.n - 1) + q)) ∙ first (p * (f.n - 1) + q) (in-half p q lp lq)
        ∙ lane-is f m g s small e p q lp lq)

    pub second-hashed : Hashed f m 1024 (λ p k. blocks.op (g p k) d) x
    second-hashed =
        lanes-hashed f m 32 (λ p k. blocks.op (g p k) d) both x ex (omega arith)
        (λ p q lp lq.
        let is = lane-is f m g s small e p q lp lq in
        second (p * (f.n - 1) + q) (in-half p q lp lq) (rw is (small p (nth f.i q))) ∙ ap (λ (b : Block). blocks.op b d) is)

-- the rows of a window that were made in front of a buffer and copied from there
pub window-copied : (k size : ℕ) (y x r rows : List ℕ) → y ≡ take k (x ++ r) → x ≡ rows → length rows ≡ size → k ≡ size → y ≡ rows
window-copied k size y x r rows hy hx hl hk =
    hy ∙ ap₂ (λ a (z : List ℕ). take a (z ++ r)) hk hx ∙ take_at rows r size hl
