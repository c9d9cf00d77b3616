-- The dms of a message, as the code of round 10 checks and copies them.
use Rattle.std.specs.Prelude.{◌≡◌, ◌≢◌, List, ℕ, ◌+◌, ◌-◌, ◌*◌, ◌<◌, ◌≤◌, length, get_or, take, drop, leb, eqb}
use Rattle.std.proofs.Common.{sym, ap₂, ◌∙◌, arith}
use Rattle.std.proofs.Math.Path.{ap}
use borrow.Author.Tests.{eq-eqb, ne_eqb, le-leb, lt-leb}
use Rattle.lists.specs.Pick.{pick}
use Rattle.lists.specs.Sect.{length-get}
use Rattle.block.specs.Block.{word_at}
use Rattle.message.specs.declared.Kind.TheVariants.{Dms}
use Rattle.message.specs.Format.{item_at}
use Rattle.plan.specs.Plan.{dm_len}
use Rattle.engine.specs.declared.Frame.{Frame}
use Rattle.rounds.specs.Fashare.{STRINGS, dm_at, dm_fault}
use Rattle.rounds.specs.DmLaws.{Dues, dues-place, dues_in}

-- ---- the fault of one dm, which begins at a
module _ (f : Frame) (m : List ℕ) (q k a : ℕ) (at : a ≡ item_at Dms m q) where
  long? : eqb (word_at m (item_at Dms m q)) (dm_len f.n) ≡ eqb (word_at m a) (dm_len f.n)
  long? = ap (λ p. eqb (word_at m p) (dm_len f.n)) (sym at)

  pub dm-length : word_at m a ≢ dm_len f.n → 4 ≡ dm_fault f (λ _. m) q k
  unfolding dm_fault
  dm-length ne = ap (λ b. pick b (pick (leb (get_or m (dm_at m q) 0) 1) 0 1) 4) (sym (long? ∙ ne_eqb (word_at m a) (dm_len f.n) ne))

  dm-bit : (x : ℕ) → word_at m a ≡ dm_len f.n → x ≡ pick (leb (get_or m (a + 8) 0) 1) 0 1 → x ≡ dm_fault f (λ _. m) q k
  unfolding dm_fault dm_at
  dm-bit x e h =
      h ∙ ap (λ p. pick (leb (get_or m (p + 8) 0) 1) 0 1) at
      ∙ ap (λ b. pick b (pick (leb (get_or m (dm_at m q) 0) 1) 0 1) 4) (sym (long? ∙ eq-eqb (word_at m a) (dm_len f.n) e))

  pub dm-bit-over : word_at m a ≡ dm_len f.n → 1 < get_or m (a + 8) 0 → 1 ≡ dm_fault f (λ _. m) q k
  dm-bit-over e h = dm-bit 1 e (ap (λ b. pick b 0 1) (sym (lt-leb (get_or m (a + 8) 0) 1 h)))

  pub dm-clean : word_at m a ≡ dm_len f.n → get_or m (a + 8) 0 ≤ 1 → 0 ≡ dm_fault f (λ _. m) q k
  dm-clean e h = dm-bit 0 e (ap (λ b. pick b 0 1) (sym (le-leb (get_or m (a + 8) 0) 1 h)))

-- ---- dm q, of the length that is due: the bytes from `from` to `to`
module _ (n : ℕ) (m : List ℕ) (d : Dues n STRINGS m) (q from to : ℕ) (h : q < STRINGS) (e : from ≡ 16 + q * (8 + dm_len n))
    (t : to ≡ from + dm_len n) where
  pub dues-part : take (to - from) (drop from m) ≡ take (dm_len n) (drop (dm_at m q) m)
  dues-part = ap₂ (λ a b. take a (drop b m)) (let k : to - from ≡ dm_len n = omega arith in k) (dues-place n STRINGS m d q from h e)

  pub length-dues : length (take (to - from) (drop from m)) ≡ dm_len n
  length-dues =
      let k : to - from ≡ dm_len n = omega arith in
      rw k (length-get from (dm_len n) m (dues_in n STRINGS m d q from h e))
