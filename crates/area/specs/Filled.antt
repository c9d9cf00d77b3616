-- A section that is written row by row, from messages or from the other sections.
use Rattle.std.specs.Prelude.{◌≡◌, ◌≢◌, List, ◌++◌, ℕ, ◌+◌, ◌-◌, ◌*◌, ◌<◌, ◌≤◌, length, take, drop}
use Rattle.std.proofs.Common.{sym, ap₂, ◌∙◌, zero-mul, arith, length-append}
use Rattle.std.proofs.Math.Path.{ap}
use borrow.Rule.Slice.PartMut.{put_mid}
use Rattle.lists.specs.Over.{row_copied, cat, in-chunks, next-chunk}
use Rattle.engine.specs.declared.Frame.{Frame}
use Rattle.engine.specs.Area.{off}
use Rattle.rounds.specs.Area.{SECTIONS, size_of, at, keep}
use Rattle.rounds.specs.Loops.{lent-part, Keeping, keeping_none, keeping-turn, keeping-end, keeping-other}
use Rattle.area.specs.Given.{Work}
use Rattle.area.specs.GivenLaws.{area, row_inside}

-- w is w₀ with the first j rows g in section s, of m bytes each
abbrev pub Filled : Frame → ℕ → ℕ → (ℕ → List ℕ) → ℕ → List ℕ → List ℕ → Type 0
Filled f s m g j w₀ w = Keeping (size_of f) SECTIONS s g j (j * m) w₀ w

module _ {f : Frame} {w₀ : List ℕ} (h : Work f w₀) (s m : ℕ) (b : s < SECTIONS) (g : ℕ → List ℕ) (c : ℕ)
    (full : c * m ≡ size_of f s) where
  pub filled_none : Filled f s m g 0 w₀ w₀
  filled_none = rw (zero-mul m) (keeping_none (size_of f) SECTIONS s b w₀ (area h) g)

  module _ (j : ℕ) (w : List ℕ) (v : Filled f s m g j w₀ w) where
    pub filled-work : Work f w
    filled-work = record { ranges = h.ranges; whole = v.same ∙ h.whole }

    -- the other sections are as they were
    pub filled-other : (t : ℕ) → t ≢ s → at f t w ≡ at f t w₀
    unfolding at
    filled-other t ne = keeping-other (size_of f) SECTIONS s b w₀ (area h) g j (j * m) t w v ne

    pub filled-end : j ≡ c → w ≡ keep f s (cat c g) w₀
    unfolding keep
    filled-end e = keeping-end (size_of f) SECTIONS s b w₀ (area h) g j c (j * m) w v e (omega (arith, full, ap (λ k. k * m) e))

    -- row j: the section starts at a, and a row has `len` bytes
    module _ (a len : ℕ) (ha : a ≡ off (size_of f) s) (hl : len ≡ m) (k : j < c) where
      pub row_in : a + j * len + len ≤ length w
      row_in = omega (arith, row_inside filled-work s a c m j b ha full k, ap (λ x. j * x) hl, hl)

      pub row-lent : length (take (a + j * len + len - (a + j * len)) (drop (a + j * len) w)) ≡ m
      row-lent = lent-part (a + j * len) len m w hl row_in

      -- one more row
      pub filled_put : (x : List ℕ) → x ≡ g j → length (g j) ≡ m
          → Filled f s m g (j + 1) w₀ (put_mid (a + j * len) (a + j * len + len - (a + j * len)) w x)
      filled_put x hx long =
          keeping-turn (size_of f) SECTIONS s b w₀ (area h) g j (j * m) m (a + j * len) (a + j * len + len) ((j + 1) * m) w x v hx long
          (ap₂ (λ p q. p + j * q) ha hl) (ap (λ q. a + j * len + q) hl) (sym (next-chunk j m))
          (omega (arith, in-chunks j c m k, full, next-chunk j m))

      -- x was copied there from the front of `row`
      module _ (row z x : List ℕ) (hr : row ≡ g j ++ z) (long : length (g j) ≡ m) where
        pub row-long : length (take (a + j * len + len - (a + j * len)) (drop (a + j * len) w)) ≤ length row
        row-long = omega (arith, row-lent, ap length hr, length-append (g j) z, long)

        pub filled-turn : x ≡ take (length (take (a + j * len + len - (a + j * len)) (drop (a + j * len) w))) row
            → Filled f s m g (j + 1) w₀ (put_mid (a + j * len) (a + j * len + len - (a + j * len)) w x)
        filled-turn hx = filled_put x (row_copied _ m x (g j) z row hx hr long row-lent) long
