-- Writing a list into an exact stretch of a buffer: its count through `&mut out[0..8]`, then item after item through `&mut out[a..e]`.
use Rattle.std.specs.Prelude.{◌≡◌, refl, length, drop}
use Rattle.std.proofs.Math.Path.{sym, ap}
use Rattle.std.proofs.Common.{◌∙◌, add-one, arith, drop_at}
use mathlib.Core.List.{List, ◌++◌, append_assoc, append-nil}
use Prim.Native.Nat.{ℕ, zero, suc, ◌+◌, ◌-◌, ◌*◌, ◌<◌, ◌≤◌}
use borrow.Rule.Slice.PartMut.{put_mid}
use Rattle.lists.specs.Over.{cat, Written, written-zero, written-turn, written-end, in-chunks, next-chunk}
use Rattle.block.specs.Block.{le8}
use Rattle.block.specs.Trip.{length-le8}
use Rattle.encode.specs.Encode.{encode}

module _ (c : ℕ) (g : ℕ → List ℕ) where
  -- the count, then the items
  abbrev pub headed : ℕ → List ℕ
  headed zero = le8 c
  headed (suc t) = g t

  -- d is l with the count and the first j items in place of its first a bytes
  abbrev pub Stretch : ℕ → ℕ → List ℕ → List ℕ → Type 0
  Stretch j a l d = Written headed (j + 1) a l d

  item-next : (j : ℕ) → headed (j + 1) ≡ g j
  item-next j = rw (add-one j)

  cat-headed : (j : ℕ) → cat (j + 1) headed ≡ le8 c ++ cat j g
  unfolding cat
  cat-headed j = rw (add-one j) (go j)
    where
      go : (j : ℕ) → cat (suc j) headed ≡ le8 c ++ cat j g
      go zero = sym (append-nil (le8 c))
      go (suc j) = ap (λ (s : List ℕ). s ++ g j) (go j) ∙ append_assoc (le8 c) (cat j g) (g j)

  -- the count is written
  pub stretch-count : (l x : List ℕ) → 8 ≤ length l → x ≡ le8 c → Stretch 0 8 l (put_mid 0 8 l x)
  stretch-count l x h e =
      written-turn headed 0 0 8 8 l l x (written-zero headed l) e (ap (λ n. 0 + n) (length-le8 c)) h refl

  -- a loop that begins here knows the buffer with the count in it
  pub stretch-self : (j a : ℕ) (l d : List ℕ) → Stretch j a l d → Stretch j a d d
  stretch-self j a l d w = record {
    here =
        w.here
        ∙ ap (λ (s : List ℕ). cat (j + 1) headed ++ s) (sym (ap (drop a) w.here ∙ drop_at (cat (j + 1) headed) (drop a l) a w.at));
    at = w.at;
    fits = omega (arith, w.fits, w.same);
    same = refl;
  }

  -- one more item, from a to e
  pub stretch-turn : (j a e e' : ℕ) (l d x : List ℕ) → Stretch j a l d → x ≡ g j → a + length (g j) ≡ e → e ≤ length l → e ≡ e'
      → Stretch (j + 1) e' l (put_mid a (e - a) d x)
  stretch-turn j a e e' l d x w hx hl h v =
      written-turn headed (j + 1) a e e' l d x w (hx ∙ sym (item-next j)) (ap (λ (s : List ℕ). a + length s) (item-next j) ∙ hl) h v

  -- all are written
  pub stretch-end : (j a : ℕ) (l d : List ℕ) → Stretch j a l d → j ≡ c → length l ≤ a → d ≡ encode c g
  unfolding encode
  stretch-end j a l d w e h = written-end headed (j + 1) (c + 1) a l d w (ap (λ n. n + 1) e) h ∙ cat-headed c

  -- ---- items of one length: item t from 8 + t * size on
  module _ (size : ℕ) (long : (t : ℕ) → t < c → length (g t) ≡ size) where
    pub even-turn : (t e : ℕ) (l d x : List ℕ) → length l ≡ 8 + c * size → t < c → Stretch t (8 + t * size) l d → x ≡ g t
        → e ≡ 8 + t * size + size
        → Stretch (t + 1) (8 + (t + 1) * size) l (put_mid (8 + t * size) (e - (8 + t * size)) d x)
    even-turn t e l d x n h w hx he =
        stretch-turn t (8 + t * size) e (8 + (t + 1) * size) l d x w hx (ap (λ k. 8 + t * size + k) (long t h) ∙ sym he)
        (omega (arith, in-chunks t c size h)) (omega (arith, next-chunk t size))

    pub even-end : (t : ℕ) (l d : List ℕ) → length l ≡ 8 + c * size → Stretch t (8 + t * size) l d → t ≡ c → d ≡ encode c g
    even-end t l d n w e = stretch-end t (8 + t * size) l d w e (rw e (omega arith))

-- item t ends within
pub in_list : (t c size : ℕ) → t < c → 8 + t * size + size ≤ 8 + c * size
in_list t c size h = omega (arith, in-chunks t c size h)
