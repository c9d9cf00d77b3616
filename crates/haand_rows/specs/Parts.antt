-- Parts of the definitions of round 14 (rounds: Haand), named for the functions that compute them.
use Rattle.std.specs.Prelude.{◌≡◌, refl, Bool, true, false, ◌≢◌, ℕ, ◌+◌, ◌-◌, ◌*◌, ◌<◌, ◌≤◌, length, take, drop, replicate}
use Rattle.std.proofs.Common.{sym, ap, ◌∙◌, length-append, drop_at, drop-drop, length-take-le, mul_assoc, mul-le-mul_left, arith}
use Rattle.std.proofs.Math.Path.{ap₂}
use mathlib.Core.List.{List, [], ◌∷◌, ◌++◌, append_assoc}
use borrow.Rule.Slice.PartMut.{put_mid}
use Rattle.lists.specs.Pick.{pick}
use Rattle.lists.specs.Over.{over-next}
use Rattle.lists.specs.Rows.{cat-ext}
use Rattle.algebra.specs.Group.{num}
use Rattle.algebra.specs.Sum.{neq, Same, apart, apart?, others, others-ext}
use Rattle.block.specs.declared.Block.{Block}
use Rattle.block.specs.Block.{bytes_of}
use Rattle.block.specs.Group.{blocks}
use Rattle.block.specs.Trip.{length-bytes_of}
use Rattle.share.specs.Record.{record_len, key_at}
use Rattle.share.specs.Share.{share_at}
use Rattle.engine.specs.declared.Frame.{Frame}
use Rattle.rounds.specs.Area.{leaky_len, rows}
use Rattle.rounds.specs.Loops.{row_of, rows_of}
use Rattle.rounds.specs.Haand.{x, G, u, phi, leaky_entry}
use Rattle.haand_hash.specs.Window.{hashes, g_at, h_at}
use Rattle.haand_hash.specs.WindowLaws.{g-is, h-is}

-- a buffer of which the back is written first, then two parts of a bytes before it
pub three-parts : (a m : ℕ) (x y z x' y' z' l : List ℕ) → a + a ≤ length l → length x ≡ a → x' ≡ x → y' ≡ y → z' ≡ z
    → put_mid a a (put_mid 0 a (put_mid (a + a) m l z') x') y' ≡ (x ++ (y ++ z)) ++ drop (a + a + m) l
three-parts a m x y z x' y' z' l h hx ex ey ez =
    let w : List ℕ = put_mid (a + a) m l z in
    let n : length (take (a + a) l) ≡ a + a = length-take-le (a + a) l h in
    ap (λ (r : List ℕ). put_mid a a (put_mid 0 a (put_mid (a + a) m l r) x') y') ez
    ∙ over-next x y y' w (put_mid 0 a w x') a a (a + a) (ap (λ (p : List ℕ). put_mid 0 a w p) ex) hx ey refl
    ∙ ap (λ (r : List ℕ). (x ++ y) ++ r) (drop_at (take (a + a) l) (z ++ drop m (drop (a + a) l)) (a + a) n
    ∙ ap (λ (r : List ℕ). z ++ r) (drop-drop m (a + a) l))
    ∙ append_assoc x y (z ++ drop (a + a + m) l) ∙ ap (λ (r : List ℕ). x ++ r) (sym (append_assoc y z (drop (a + a + m) l)))
    ∙ sym (append_assoc x (y ++ z) (drop (a + a + m) l))

-- an entry of a row of LEAKY: G and H of a party's x key and of that key plus delta, and phi
unfoldable pub entry_of : Block → Block → Block → Bool → Bool → List ℕ
entry_of g g' p h h' = bytes_of (blocks.op (blocks.op g g') p) ++ (num h ∷ num h' ∷ [])

-- that of party k, from the hashes of the x keys of a position, and of the keys plus delta
unfoldable pub entry_at : ℕ → List ℕ → List ℕ → Block → ℕ → List ℕ
entry_at i keys sums p k = entry_of (g_at i keys k) (g_at i sums k) p (h_at i keys k) (h_at i sums k)

row-ext : (i m : ℕ) (g h : ℕ → List ℕ) (k : ℕ) → (i ≢ k → g k ≡ h k) → row_of i m g k ≡ row_of i m h k
unfolding row_of
row-ext i m g h k e = go (neq i k) (apart? i k)
  where
    go : (b : Bool) → Same i k b → pick b (g k) (replicate m 0) ≡ pick b (h k) (replicate m 0)
    go true (apart ne) = e ne
    go false s = refl

-- ---- where they are the hashes of position t
module _ (f : Frame) (delta : Block) (recs : List ℕ) (t : ℕ) (keys sums : List ℕ) (own : f.i < f.n)
    (ek : keys ≡ hashes f (key_at recs (t * record_len f.n)))
    (es : sums ≡ hashes f (λ k. blocks.op (key_at recs (t * record_len f.n) k) delta)) where
  abbrev key : ℕ → Block
  key = key_at recs (t * record_len f.n)

  entry-is : (k : ℕ) → k < f.n → f.i ≢ k → entry_at f.i keys sums (phi f delta recs t) k ≡ leaky_entry f delta recs t k
  unfolding entry_at entry_of leaky_entry u x share_at
  entry-is k l ne =
      ap₂ (λ (a b : List ℕ). a ++ b)
      (ap₂ (λ (a b : Block). bytes_of (blocks.op (blocks.op a b) (phi f delta recs t)))
      (g-is f k key keys ek own l ne) (g-is f k (λ k. blocks.op (key k) delta) sums es own l ne))
      (ap₂ (λ (a b : Bool). num a ∷ num b ∷ [])
      (h-is f k key keys ek own l ne) (h-is f k (λ k. blocks.op (key k) delta) sums es own l ne))

  -- as the rows of LEAKY have them
  pub entries-of : rows f 18 (entry_at f.i keys sums (phi f delta recs t)) ≡ rows f 18 (leaky_entry f delta recs t)
  entries-of =
      sym (rows_of f 18 (entry_at f.i keys sums (phi f delta recs t)))
      ∙ cat-ext f.n _ _ (λ k l. row-ext f.i 18 _ _ k (entry-is k l)) ∙ rows_of f 18 (leaky_entry f delta recs t)

  pub sums-of : others blocks f.i f.n (g_at f.i keys) ≡ others blocks f.i f.n (λ k. G ((x f recs t).key k))
  unfolding x share_at
  sums-of = others-ext blocks f.i f.n (g_at f.i keys) (λ k. G (key k)) (λ k l ne. g-is f k key keys ek own l ne)

-- ---- the rows of a window
-- they fit into the room that those of 32 positions of 2 parties take
pub rows_fit : (n m : ℕ) → 2 ≤ n → m * (n - 1) ≤ 32 → m * leaky_len n ≤ 2176
unfolding leaky_len
rows_fit n m two fits =
    let each : 32 + n * 18 ≤ (n - 1) * 68 = omega arith in
    omega (arith, mul-le-mul_left m each, mul_assoc m (n - 1) 68)
