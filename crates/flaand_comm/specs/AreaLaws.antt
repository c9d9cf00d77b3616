-- The own row of H_COMMS, which lies right behind HS.
use Rattle.std.specs.Prelude.{◌≡◌, List, ◌++◌, ℕ, ◌+◌, ◌-◌, ◌*◌, ◌≤◌, length, take}
use Rattle.std.proofs.Common.{sym, ap, ap₂, ◌∙◌, arith, take_at}
use Rattle.lists.specs.Over.{cat, in-chunks}
use Rattle.lists.specs.Rows.{cat-ext}
use Rattle.lists.specs.Sect.{get, put, put_back}
use Rattle.block.specs.declared.Block.{Block}
use Rattle.block.specs.Block.{block_at, bytes_of}
use Rattle.block.specs.Trip.{block-take, block-get}
use Rattle.blake3.specs.Tree.{hash}
use Rattle.blake3_lanes.specs.Lanes.{hash_at}
use Rattle.plan.specs.Plan.{leaky}
use Rattle.engine.specs.declared.Frame.{Frame}
use Rattle.engine.specs.Area.{off, sec, put-sec}
use Rattle.rounds.specs.Area.{HS, H_COMMS, SECTIONS, size_of, at, keep}
use Rattle.rounds.specs.Flaand.{comms, own_comms}
use Rattle.area.specs.Given.{Work, Starts}
use Rattle.area.specs.GivenLaws.{area, row_inside}
use Rattle.area.specs.Sizes.{size-hs, size-h-comms}

-- the commitment to the Block at position t of those that start at a
abbrev pub item : ℕ → List ℕ → ℕ → List ℕ
item a w t = hash (bytes_of (block_at w (a + t * 16)))

-- ---- the own row, where HS starts at a and H_COMMS at b, with c positions
module _ {f : Frame} {w : List ℕ} (h : Work f w) (a b c : ℕ) (ha : Starts f HS a) (hb : Starts f H_COMMS b) (hc : c ≡ leaky f.l) where
  abbrev row : ℕ
  row = b + f.i * (c * 32)

  -- it lies within, and H_COMMS where HS ends
  pub own-inside : row + c * 32 ≤ length w
  own-inside =
      row_inside h H_COMMS b f.n (c * 32) f.i (omega arith) hb (ap (λ m. f.n * (m * 32)) hc ∙ sym (size-h-comms f)) h.ranges.own

  pub end-of-hs : a + c * 16 ≡ b
  unfolding off
  end-of-hs = omega (arith, ha, hb, hc, size-hs f)

  -- what is written there
  own-kept : put row (c * 32) (cat c (item a w)) w ≡ keep f H_COMMS (own_comms f (at f HS w) (at f H_COMMS w)) w
  unfolding keep at own_comms comms sec
  own-kept =
      let len = leaky f.l * 32 in
      let o = f.i * len in
      ap (λ m. put (b + f.i * (m * 32)) (m * 32) (cat m (item a w)) w) hc
      ∙ ap₂ (λ z (x : List ℕ). put (z + o) len x w) hb
      (cat-ext (leaky f.l) (item a w) (λ t. hash (bytes_of (block_at (sec (size_of f) HS w) (t * 16)))) (λ t lt.
      ap (λ (b : Block). hash (bytes_of b))
      (ap (λ z. block_at w (z + t * 16)) ha
      ∙ sym (block-get w (off (size_of f) HS) (size_of f HS) (t * 16) (omega (arith, size-hs f, in-chunks t (leaky f.l) 16 lt))))))
      ∙ put-sec (size_of f) SECTIONS w (area h) H_COMMS o len (comms f (at f HS w)) (omega arith)
      (omega (arith, size-h-comms f, in-chunks f.i f.n len h.ranges.own))

  -- w is cut into p and r before H_COMMS: the hashes of the Blocks from a on go into r
  pub own-written : (p r x : List ℕ) (m : ℕ) → w ≡ p ++ r → length p ≡ b → m ≡ c * 32 → x ≡ cat c (hash_at (get a (length p - a) p))
      → p ++ put (f.i * (c * 32)) m x r ≡ keep f H_COMMS (own_comms f (at f HS w) (at f H_COMMS w)) w
  own-written p r x m ew lp em ex =
      let here : take b w ≡ p = ap (take b) ew ∙ take_at p r b lp in
      let items : cat c (hash_at (get a (length p - a) p)) ≡ cat c (item a w) =
      cat-ext c _ _ (λ q lq.
      let l = in-chunks q c 16 lq in
      ap (λ (e : Block). hash (bytes_of e))
      (block-get p a (length p - a) (q * 16) (omega (arith, end-of-hs))
      ∙ ap (λ (v : List ℕ). block_at v (a + q * 16)) (sym here)
      ∙ block-take w b (a + q * 16) (omega (arith, end-of-hs)))) in
      sym (put_back b (f.i * (c * 32)) m x p r lp)
      ∙ ap₂ (λ k (v : List ℕ). put row k x v) em (sym ew)
      ∙ ap (λ (v : List ℕ). put row (c * 32) v w) (ex ∙ items)
      ∙ own-kept
