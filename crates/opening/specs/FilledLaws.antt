-- The work area as opening fills it: the inputs one behind another, zeros behind them.
use Rattle.std.specs.Prelude.{◌≡◌, drop}
use Rattle.std.proofs.Math.Path.{refl, sym, ap, ap₂}
use Rattle.std.proofs.Common.{◌∙◌, subst, add-zero, add-suc, drop_of_length-le, length-drop}
use mathlib.Core.List.{List, ◌++◌, append_assoc, append-nil}
use Prim.Native.Nat.{ℕ, zero, suc, ◌+◌, ◌-◌, ◌<◌, ◌≤◌}
use Rattle.std.proofs.Math.Nat.{add_assoc}
use Rattle.std.proofs.Math.Numerals.{add-one}
use native.Mathlib.Omega.{arith}
use Rattle.std.proofs.Math.ListN.{length, take, replicate}
use Rattle.std.proofs.lemmas.List.{replicate-append-replicate}
use Rattle.std.proofs.Math.Seq.{take_at}
use borrow.Rule.Slice.PartMut.{put_mid}
use Rattle.lists.specs.Over.{cat, Written, written-zero, written-turn}
use Rattle.lists.specs.Rows.{cat-part}
use Rattle.lists.specs.Sect.{get, put, length-get}
use Rattle.share.specs.LentLaws.{length-kept}
use Rattle.batches.specs.Batches.{total, tally, untold}
use Rattle.plan.specs.Plan.{bits_count}
use Rattle.engine.specs.declared.Frame.{Frame}
use Rattle.engine.specs.declared.Session.{Session}
use Rattle.engine.specs.Step.{frame, Reply, Accepted, leaves, outcome}
use Rattle.engine.specs.Area.{off, sec, put_sec, to_others}
use Rattle.rounds.specs.Area.{SEED, BITS, SECTIONS, sizes, size_of, work_len, at, keep}
use Rattle.rounds.specs.Toss as Toss
use Rattle.rounds.specs.Opening.{Args, party, kept, section, area, spec}
use Rattle.rounds.specs.OpeningLaws.{section-zero}
use Rattle.area.specs.Given.{Work}
use Rattle.area.specs.GivenLaws.{section-inside}
use Rattle.area.specs.Sizes.{size-bits, size-alpha, size-beta}
use Rattle.inputs.specs.Given.{EMPTY, cleared, with_seeds, with_lists, Due, lens, found}
use Rattle.inputs.specs.OpeningLaws.{accepts}

-- ---- any sections
module _ (size : ℕ → ℕ) (g : ℕ → List ℕ) where
  pub filled_zero : (w : List ℕ) → Written g 0 (off size 0) w w
  unfolding off
  filled_zero w = written-zero g w

  -- one section more
  pub filled-turn : (s : ℕ) (w₀ w : List ℕ) → Written g s (off size s) w₀ w → length (g s) ≡ size s → off size s + size s ≤ length w₀
      → Written g (suc s) (off size (suc s)) w₀ (put_sec size s (g s) w)
  unfolding off put_sec
  filled-turn s w₀ w p long h =
      let o = off size s in
      let e : (o + size s) - o ≡ size s = omega arith in
      let t : Written g (s + 1) (o + size s) w₀ (put_mid o ((o + size s) - o) w (g s)) =
      written-turn g s o (o + size s) (o + size s) w₀ w (g s) p refl (ap (λ k. o + k) long) h refl in
      rw (e, add-one s) at t

  -- sections of zeros behind section b
  module _ (b : ℕ) (zeros : (s : ℕ) → b ≤ s → g s ≡ replicate (size s) 0) where
    abbrev rest : ℕ → ℕ
    rest d = off (λ j. size (b + j)) d

    off_rest : (d : ℕ) → off size (b + d) ≡ off size b + rest d
    unfolding off
    off_rest zero = rw (add-zero b) (sym (add-zero (off size b)))
    off_rest (suc d) =
        rw (add-suc b d) (ap (λ k. k + size (b + d)) (off_rest d) ∙ add_assoc (off size b) (rest d) (size (b + d)))

    cat-rest : (d : ℕ) → cat (b + d) g ≡ cat b g ++ replicate (rest d) 0
    unfolding off cat
    cat-rest zero = rw (add-zero b) (sym (append-nil (cat b g)))
    cat-rest (suc d) =
        rw (add-suc b d)
        (ap₂ ◌++◌ (cat-rest d) (zeros (b + d) (omega arith))
        ∙ append_assoc (cat b g) (replicate (rest d) 0) (replicate (size (b + d)) 0)
        ∙ ap (λ (x : List ℕ). cat b g ++ x) (replicate-append-replicate (rest d) (size (b + d)) 0))

    pub zeros-behind : (S : ℕ) → b ≤ S → cat S g ≡ cat b g ++ replicate (off size S - off size b) 0
    zeros-behind S h =
        let e : b + (S - b) ≡ S = omega arith in
        let z : off size S ≡ off size b + rest (S - b) = ap (off size) (sym e) ∙ off_rest (S - b) in
        ap (λ k. cat k g) (sym e) ∙ cat-rest (S - b)
        ∙ ap (λ k. cat b g ++ replicate k 0) (let q : rest (S - b) ≡ off size S - off size b = omega arith in q)

-- ---- opening's
-- where nothing is refused
module _ (a : Args) (D : Due (party a) (lens a)) where
  abbrev f : Frame
  f = party a

  pub given : Work f a.work
  given = record { ranges = D.ranges; whole = D.work }

  abbrev Got : ℕ → List ℕ → Type 0
  Got s x = Written (section (kept a)) s (off (size_of f) s) a.work x

  got-more : (s : ℕ) (x y : List ℕ) → s < SECTIONS → Got s x → section (kept a) s ≡ y → length y ≡ size_of f s → Got (suc s) (keep f s y x)
  unfolding keep
  got-more s x y h p e long =
      rw e at (filled-turn (size_of f) (section (kept a)) s a.work x p (ap length e ∙ long) (section-inside given s h))

  abbrev seeded : List ℕ
  seeded = with_seeds f a.delta a.seed a.pairs a.masks a.work

  got-seeds : Got BITS seeded
  unfolding with_seeds section
  got-seeds =
      got-more 3 _ a.masks (omega arith)
      (got-more 2 _ a.pairs (omega arith)
      (got-more 1 _ a.seed (omega arith)
      (got-more 0 _ a.delta (omega arith) (filled_zero (size_of f) (section (kept a)) a.work) refl D.seeds.delta)
      refl D.seeds.seed)
      refl D.seeds.pairs)
      refl D.seeds.masks

  -- the inputs, as they are kept
  abbrev pub inputs : List ℕ
  inputs = with_lists f a.bits a.alpha a.beta seeded

  got-lists : Got EMPTY inputs
  unfolding with_lists section
  got-lists =
      got-more 6 _ (kept a).beta (omega arith)
      (got-more 5 _ (kept a).alpha (omega arith)
      (got-more 4 _ (kept a).bits (omega arith) got-seeds refl
      (length-kept f.n f.i a.bits (bits_count f.l) ∙ sym (size-bits f)))
      refl (length-kept f.n f.i a.alpha f.l ∙ sym (size-alpha f)))
      refl (length-kept f.n f.i a.beta f.l ∙ sym (size-beta f))

  filled : cleared f inputs ≡ area a
  unfolding cleared area work_len
  filled =
      ap (λ (x : List ℕ). x ++ replicate (off (size_of f) SECTIONS - off (size_of f) EMPTY) 0)
      (ap (take (off (size_of f) EMPTY)) got-lists.here
      ∙ take_at (cat EMPTY (section (kept a))) (drop (off (size_of f) EMPTY) a.work) (off (size_of f) EMPTY) got-lists.at)
      ∙ sym (zeros-behind (size_of f) (section (kept a)) EMPTY (section-zero (kept a)) SECTIONS (omega arith))

  -- the seed stands behind delta
  before-seed : length (cat SEED (section (kept a))) ≡ off (size_of f) SEED
  unfolding cat section off size_of sizes
  before-seed = D.seeds.delta

  seed-kept : at f SEED (area a) ≡ a.seed
  unfolding at sec area section
  seed-kept =
      ap₂ (λ o m. take m (drop o (cat SECTIONS (section (kept a))))) (sym before-seed) (sym D.seeds.seed)
      ∙ cat-part SECTIONS (section (kept a)) SEED (omega arith)

  left : (code : ℕ) (w o : List ℕ) → code ≡ found a → code ≡ 0 → w ≡ cleared f inputs
      → o ≡ to_others f.n f.i (λ r. Toss.comm_msg (at f SEED w) f.i)
      → outcome (record { party = f; due = 1; counts = tally a.counts }) Accepted w o ≡ spec a
  left code w o e z hw ho =
      let h = hw ∙ filled in
      ap₂ (λ (x y : List ℕ). outcome (record { party = f; due = 1; counts = tally a.counts }) Accepted x y) h
      (ho ∙ ap (λ (x : List ℕ). to_others f.n f.i (λ r. Toss.comm_msg x f.i)) (ap (at f SEED) h ∙ seed-kept))
      ∙ sym (accepts a code e z)

  -- with the sum as the code has it
  pub record Leaves (l : ℕ) (s : Session) (v : Reply) (t counts w o : List ℕ) : Type 0 where
    pub session-is : s ≡ record { party = frame a.n l a.i; due = 1; counts = counts }
    pub reply-is : v ≡ Accepted
    pub told_is : t ≡ untold
    pub counts-are : counts ≡ tally a.counts
    pub work-is : (let g : Frame = frame a.n l a.i in
        w ≡ cleared g (with_lists g a.bits a.alpha a.beta (with_seeds g a.delta a.seed a.pairs a.masks a.work)))
    pub out-is : o ≡ to_others a.n a.i (λ r. Toss.comm_msg (at (frame a.n l a.i) SEED w) a.i)

  pub opened : (code l : ℕ) (s : Session) (v : Reply) (t counts w o : List ℕ) → code ≡ found a → code ≡ 0 → l ≡ total a.counts
      → Leaves l s v t counts w o → leaves s v t w o ≡ spec a
  opened code l s v t counts w o e z hl x =
      let y : Leaves (total a.counts) s v t counts w o = subst (λ l. Leaves l s v t counts w o) hl x in
      rw (y.session-is, y.reply-is, y.told_is, y.counts-are) (left code w o e z y.work-is y.out-is)

-- `&mut w[o..]` left as zeros
pub clears : {f : Frame} {w : List ℕ} → Work f w → (o : ℕ) (z : List ℕ) → o ≡ off (size_of f) EMPTY → o ≤ length w
    → z ≡ replicate (length (get o (length w - o) w)) 0 → put o (length w - o) z w ≡ cleared f w
unfolding cleared
clears {f} {w} k o z ho h hz =
    let m : length (get o (length w - o) w) ≡ length w - o = length-get o (length w - o) w (omega arith) in
    let e : z ≡ replicate (work_len f - off (size_of f) EMPTY) 0 = hz ∙ ap (λ k. replicate k 0) (m ∙ ap₂ ◌-◌ k.whole ho) in
    let q : length (drop o w) ≤ length w - o = omega (arith, length-drop o w) in
    ap (λ (x : List ℕ). take o w ++ (z ++ x)) (drop_of_length-le (drop o w) q) ∙ ap (λ (x : List ℕ). take o w ++ x) (append-nil z ∙ e)
    ∙ ap (λ k. take k w ++ replicate (work_len f - off (size_of f) EMPTY) 0) ho
