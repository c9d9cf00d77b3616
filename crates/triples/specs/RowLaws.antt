-- A row of TRIPLES that is written where it lies, while the other sections are read.
use Rattle.std.specs.Prelude.{◌≡◌, refl, Bool, ◌≢◌, List, [], ◌++◌, ℕ, ◌+◌, ◌-◌, ◌*◌, ◌<◌, ◌≤◌, take, drop}
use Rattle.std.proofs.Common.{sym, ap₂, ◌∙◌, arith, length-drop, take-append-drop, length-take-le}
use Rattle.std.proofs.Math.Path.{ap}
use Rattle.std.proofs.Math.ListN.{length}
use Rattle.lists.specs.Over.{in-chunks}
use Rattle.lists.specs.Sect.{get, put, length-get, length-put, get-put-same}
use Rattle.block.specs.declared.Block.{Block}
use Rattle.share.specs.Record.{record_len}
use Rattle.share.specs.Share.{entry_of}
use Rattle.engine.specs.declared.Frame.{Frame}
use Rattle.engine.specs.Area.{off, sec, length-sec, put-twice, put-sec, sec-other}
use Rattle.rounds.specs.Area.{SECTIONS, TRIPLES, size_of, at}
use Rattle.rounds.specs.Buckets.{Triple}
use Rattle.bucket_sum.specs.Row.{Rowed, rowed-none, rowed-turn, rowed-end, rowed-long, put_entries, put_heads}
use Rattle.area.specs.Given.{Work}
use Rattle.area.specs.GivenLaws.{area, row_inside}
use Rattle.area.specs.Sizes.{size-triples}
use Rattle.triples.specs.Laws.{triple_at, row_of, row_is}

-- w is w₀ with row j of TRIPLES, from `row` on, in which the entries of the first k parties are written
pub record Going (f : Frame) (delta : Block) (w₀ : List ℕ) (j row k : ℕ) (w : List ℕ) : Type 0 where
  pub part : List ℕ
  pub here : w ≡ put row (2 * record_len f.n) part w₀
  pub done : Rowed f.n f.i k (triple_at f delta w₀ j).tx (triple_at f delta w₀ j).tz [] part

module _ (f : Frame) (delta : Block) (w₀ : List ℕ) (j row : ℕ) (h : Work f w₀) (lj : j < f.l)
    (start : row ≡ off (size_of f) TRIPLES + j * (2 * record_len f.n)) where
  abbrev size : ℕ
  size = 2 * record_len f.n

  abbrev g : Triple
  g = triple_at f delta w₀ j

  pub inside : row + 2 * record_len f.n ≤ length w₀
  inside = omega (arith, start, row_inside h TRIPLES (off (size_of f) TRIPLES) f.l size j (omega arith) refl (sym (size-triples f)) lj)

  in-section : j * size + size ≤ size_of f TRIPLES
  in-section = omega (arith, in-chunks j f.l size lj, size-triples f)

  pub going-none : Going f delta w₀ j row 0 w₀
  going-none =
      let p : List ℕ = get row size w₀ in
      let lp : length p ≡ size = length-get row size w₀ inside in
      record {
        part = p;
        here = sym (ap (λ (s : List ℕ). take row w₀ ++ s) (take-append-drop size (drop row w₀)) ∙ take-append-drop row w₀);
        done = rowed-none f.n f.i g.tx g.tz [] (take (record_len f.n) p) (drop (record_len f.n) p) p
            (length-take-le (record_len f.n) p (omega (arith, lp))) (length-drop (record_len f.n) p ∙ omega (arith, lp))
            (sym (take-append-drop (record_len f.n) p));
      }

  module _ {k : ℕ} {w : List ℕ} (v : Going f delta w₀ j row k w) where
    part-long : length v.part ≡ size
    part-long =
        rowed-long f.n f.i g.tx g.tz [] v.done (record_len f.n) (omega arith)
        ∙ (let e : record_len f.n + record_len f.n ≡ 2 * record_len f.n = omega arith in e)

    going-long : length w ≡ length w₀
    going-long = ap length v.here ∙ length-put row size v.part w₀ part-long inside

    pub going-work : Work f w
    going-work = record { ranges = h.ranges; whole = going-long ∙ h.whole }

    -- the other sections are as they were
    pub going-other : (s : ℕ) → s ≢ TRIPLES → at f s w ≡ at f s w₀
    unfolding at
    going-other s ne =
        ap (sec (size_of f) s)
        (v.here ∙ ap (λ a. put a size v.part w₀) start
        ∙ put-sec (size_of f) SECTIONS w₀ (area h) TRIPLES (j * size) size v.part (omega arith) in-section)
        ∙ sec-other (size_of f) SECTIONS w₀ (area h) s TRIPLES _ (omega arith) ne
        (length-put (j * size) size v.part (sec (size_of f) TRIPLES w₀) part-long (omega (arith, section-long, in-section))
        ∙ section-long)
      where
        section-long : length (sec (size_of f) TRIPLES w₀) ≡ size_of f TRIPLES
        section-long = length-sec (size_of f) SECTIONS w₀ (area h) TRIPLES (omega arith)

    -- the row, lent from `row` to `end`
    module _ (end : ℕ) (stop : end ≡ row + 2 * record_len f.n) where
      pub going-end-in : end ≤ length w
      going-end-in = omega (arith, inside, going-long)

      going-lent : get row (end - row) w ≡ v.part
      going-lent =
          ap₂ (get row) (let e : end - row ≡ size = omega arith in e) v.here
          ∙ get-put-same row size v.part w₀ part-long (omega (arith, inside))

      again : (y : List ℕ) → put row (end - row) y w ≡ put row size y w₀
      again y =
          ap₂ (λ m (l : List ℕ). put row m y l) (let e : end - row ≡ size = omega arith in e) v.here
          ∙ put-twice row size y v.part w₀ part-long (omega (arith, inside))

      pub going-turn : (len : ℕ) (a b y : List ℕ) → len ≡ record_len f.n → k < f.n → a ≡ entry_of f.i (triple_at f delta w₀ j).tx k
          → b ≡ entry_of f.i (triple_at f delta w₀ j).tz k → y ≡ put_entries len k a b (get row (end - row) w)
          → Going f delta w₀ j row (k + 1) (put row (end - row) y w)
      going-turn len a b y hl lt ha hb hy = record {
        part = put_entries len k a b v.part;
        here = again y ∙ ap (λ (l : List ℕ). put row size l w₀) (hy ∙ ap (put_entries len k a b) going-lent);
        done = rowed-turn f.n f.i g.tx g.tz [] v.done len (omega (arith, hl)) lt a b ha hb;
      }

      pub going_end : (len : ℕ) (a b : Bool) (y : List ℕ) → len ≡ record_len f.n → k ≡ f.n → a ≡ (triple_at f delta w₀ j).tx.bit
          → b ≡ (triple_at f delta w₀ j).tz.bit → y ≡ put_heads len a b (get row (end - row) w)
          → put row (end - row) y w ≡ put row (2 * record_len f.n) (row_of f delta w₀ j) w₀
      going_end len a b y hl e ha hb hy =
          again y
          ∙ ap (λ (l : List ℕ). put row size l w₀)
          (hy ∙ ap (put_heads len a b) going-lent
          ∙ rowed-end f.n f.i g.tx g.tz [] v.done len (omega (arith, hl)) e a b ha hb
          ∙ row_is f delta w₀ j)
