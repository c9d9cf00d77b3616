-- Rounds 10 and 12, `fashare`: the dms that were accepted fill their rows, and what is opened is d0 or d1 by the bits that were sent.
use Rattle.std.specs.Prelude.{◌≡◌, refl, Bool, true, false, cond, ◌≢◌, List, ℕ, ◌+◌, ◌*◌, ◌<◌, length, get_or, take, drop}
use Rattle.std.proofs.Math.Path.{sym, ap}
use Rattle.std.proofs.Common.{◌∙◌, arith}
use Rattle.lists.specs.Sect.{length-get}
use Rattle.algebra.specs.Group.{bits, sel, odd, unit-r}
use Rattle.algebra.specs.Sum.{others, others-ext}
use Rattle.block.specs.declared.Block.{Block}
use Rattle.block.specs.Block.{bytes_of}
use Rattle.block.specs.Group.{blocks}
use Rattle.message.specs.declared.Kind.TheVariants.{Dms}
use Rattle.message.specs.Format.{form_of}
use Rattle.plan.specs.Plan.{dm_len}
use Rattle.engine.specs.declared.Frame.{Frame}
use Rattle.rounds.specs.Opening.{party}
use Rattle.rounds.specs.Fashare.{d0, d1, dm_at, ver_faults, dm_rows, dm_row, others1, dibi_msg}
use Rattle.rounds.specs.DmLaws.{Dues, clean-dues, ver-clean, dues-place, dues_in}
use Rattle.alone.specs.Formula as F
use Rattle.alone.specs.Formula.{Seen}
use Rattle.alone.specs.Cells.{head-part, length-cells, cell, encode-ext}

pub dm-some : (n : ℕ) → 0 < dm_len n
unfolding dm_len
dm-some n = omega arith

module _ (f : Frame) (m : ℕ → List ℕ) (formed : (k : ℕ) → k < f.n → f.i ≢ k → form_of Dms 40 (m k) ≡ 0)
    (comms : List ℕ) (clean : (ver_faults f comms m).code ≡ 0) where
  dues : (k : ℕ) → k < f.n → f.i ≢ k → Dues f.n 40 (m k)
  dues k lk ne = clean-dues f m 40 (omega arith) (ver-clean f comms m clean) k lk ne (formed k lk ne)

  -- dm q of party k
  abbrev dm_of : ℕ → ℕ → List ℕ
  dm_of k q = take (dm_len f.n) (drop (dm_at (m k) q) (m k))

  length-dm_of : (k q : ℕ) → k < f.n → f.i ≢ k → q < 40 → length (dm_of k q) ≡ dm_len f.n
  length-dm_of k q lk ne lq =
      let at : ℕ = 16 + q * (8 + dm_len f.n) in
      ap (λ o. length (take (dm_len f.n) (drop o (m k)))) (sym (dues-place f.n 40 (m k) (dues k lk ne) q at lq refl))
      ∙ length-get at (dm_len f.n) (m k) (dues_in f.n 40 (m k) (dues k lk ne) q at lq refl)

  pub length-dms : length (dm_rows f m) ≡ f.n * (40 * dm_len f.n)
  unfolding dm_rows
  length-dms = length-cells f 40 (dm_len f.n) dm_of length-dm_of

  pub dm-bit-read : (k q : ℕ) → k < f.n → f.i ≢ k → q < 40 → get_or (dm_rows f m) (dm_row f k q) 0 ≡ get_or (m k) (dm_at (m k) q) 0
  unfolding dm_rows dm_row
  dm-bit-read k q lk ne lq =
      head-part (dm_len f.n) ((k * 40 + q) * dm_len f.n) _ (dm_of k q) (dm-some f.n)
      (cell f 40 (dm_len f.n) dm_of length-dm_of k q lk ne lq)
      ∙ sym (head-part (dm_len f.n) (dm_at (m k) q) (m k) (dm_of k q) (dm-some f.n) refl)

-- d0, or d1 where a bit is 1
zero-or-one : (f : Frame) (delta : Block) (recs : List ℕ) (q : ℕ) (b : Bool)
    → blocks.op (d0 f recs q) (sel blocks b delta) ≡ cond b (d1 f delta recs q) (d0 f recs q)
unfolding d1
zero-or-one f delta recs q true = refl
zero-or-one f delta recs q false = unit-r blocks (d0 f recs q)

module _ (S : Seen) where
  open S use {inputs as a, mail as m}

  abbrev f : Frame
  f = party S.inputs

  pub msg-12 : ((k : ℕ) → k < f.n → f.i ≢ k → form_of Dms 40 (m 10 k) ≡ 0)
      → (comms : List ℕ) → (ver_faults f comms (m 10)).code ≡ 0
      → dibi_msg f (F.delta S) a.bits (dm_rows f (m 10)) ≡ F.sent12 S
  unfolding dibi_msg F.sent12 F.di F.dm_bit others1
  msg-12 formed comms clean =
      encode-ext 40 _ _ (λ q lq. ap bytes_of (ap (λ (b : Bool). blocks.op (d0 f a.bits q) (sel blocks b (F.delta S)))
      (others-ext bits f.i f.n _ (λ k. F.dm_bit S k q) (λ k lk ne. ap odd (dm-bit-read f (m 10) formed comms clean k q lk ne lq)))
      ∙ zero-or-one f (F.delta S) a.bits q (others bits f.i f.n (λ k. F.dm_bit S k q))))
