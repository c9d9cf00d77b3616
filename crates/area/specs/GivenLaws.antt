-- A section where it lies in a work area: between its start and its end, as long as it should be, and what is lent of it is the section.
use Rattle.std.specs.Prelude.{◌≡◌, ◌≢◌, List, ℕ, ◌+◌, ◌-◌, ◌*◌, ◌≤◌, ◌<◌, length}
use Rattle.std.proofs.Math.Path.{refl}
use Rattle.std.proofs.Common.{ap, ◌∙◌, add-mul, mul-le-mul_right, arith}
use Rattle.lists.specs.Sect.{get, put, length-get}
use Rattle.lists.specs.Over.{in-chunks}
use Rattle.engine.specs.declared.Frame.{Frame}
use Rattle.engine.specs.Area.{off, section-before, sec, put_sec, length-sec, sec-same, sec-other}
use Rattle.rounds.specs.Area.{SECTIONS, size_of, work_len, at, keep}
use Rattle.area.specs.Given.{Work, Place}

module _ (f : Frame) (s a e : ℕ) (p : Place f s a e) where
  pub place-size : e - a ≡ size_of f s
  place-size = omega (arith, p.ends)

  -- what is lent is the section
  pub place_at : (w : List ℕ) → get a (e - a) w ≡ at f s w
  unfolding at sec
  place_at w = rw (place-size, p.starts) refl

  -- what is written there is the section from now on
  pub place-keeps : (x w : List ℕ) → put a (e - a) x w ≡ keep f s x w
  unfolding keep put_sec
  place-keeps x w = rw (place-size, p.starts) refl

module _ {f : Frame} {w : List ℕ} (h : Work f w) where
  -- its length as the sections' laws have it
  pub area : length w ≡ off (size_of f) SECTIONS
  unfolding work_len
  area = h.whole

  pub length_at : (s : ℕ) → s < SECTIONS → length (at f s w) ≡ size_of f s
  unfolding at
  length_at s b = length-sec (size_of f) SECTIONS w area s b

  -- a section, lent
  pub lent_length : (s m : ℕ) (x : List ℕ) → s < SECTIONS → size_of f s ≡ m → x ≡ at f s w → length x ≡ m
  lent_length s m x b e q = ap length q ∙ length_at s b ∙ e

  pub section-inside : (s : ℕ) → s < SECTIONS → off (size_of f) s + size_of f s ≤ length w
  section-inside s b = omega (arith, area, section-before (size_of f) s SECTIONS b)

  pub place_in : (s a e : ℕ) → s < SECTIONS → Place f s a e → e ≤ length w
  place_in s a e b p = omega (arith, section-inside s b, p.starts, p.ends)

  -- lent as a part it is as long as its size
  pub place-length : (s a e m : ℕ) → s < SECTIONS → Place f s a e → size_of f s ≡ m → length (get a (e - a) w) ≡ m
  place-length s a e m b p h = length-get a (e - a) w (omega (arith, place_in s a e b p, p.ends)) ∙ place-size f s a e p ∙ h

  -- another section than the one written
  pub at_other : (t : ℕ) (x : List ℕ) → t < SECTIONS → length x ≡ size_of f t → (s : ℕ) → s ≢ t → at f s (keep f t x w) ≡ at f s w
  unfolding at keep
  at_other t x b hx s ne = sec-other (size_of f) SECTIONS w area s t x b ne hx

  pub at_same : (s : ℕ) (x : List ℕ) → s < SECTIONS → length x ≡ size_of f s → at f s (keep f s x w) ≡ x
  unfolding at keep
  at_same s x b e = sec-same (size_of f) SECTIONS w area s x b e

  -- what `lent` asks for
  pub place-fits : (s a e : ℕ) → s < SECTIONS → Place f s a e → (a ≤ e) × (e ≤ length w)
  place-fits s a e b p = (omega (arith, p.ends), place_in s a e b p)

  -- row t of c rows of k bytes
  pub row_inside : (s a c k t : ℕ) → s < SECTIONS → a ≡ off (size_of f) s → c * k ≡ size_of f s → t < c → a + t * k + k ≤ length w
  row_inside s a c k t b ha hm ht = omega (arith, in-chunks t c k ht, section-inside s b)

  -- and m rows from row t on
  pub rows_inside : (s a c k t m : ℕ) → s < SECTIONS → a ≡ off (size_of f) s → c * k ≡ size_of f s → t + m ≤ c → a + t * k + m * k ≤ length w
  rows_inside s a c k t m b ha hm ht = omega (arith, mul-le-mul_right k ht, add-mul t m k, section-inside s b)
