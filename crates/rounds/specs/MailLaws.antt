-- What `Arrived` says of the message of another party.
use Rattle.std.specs.Prelude.{◌≡◌, ◌≢◌, false, List, ℕ, ◌+◌, ◌<◌, ◌≤◌, length, get_or}
use Rattle.std.proofs.Common.{sym, ap, ◌∙◌, arith}
use Rattle.lists.specs.Sect.{length-get}
use Rattle.algebra.specs.Sum.{neq, neq-self}
use Rattle.engine.specs.declared.Frame.{Frame}
use Rattle.rounds.specs.Mail.{Mail, letter, Arrived}

-- the own number isn't another one
pub neq-same : (i k : ℕ) → k ≡ i → neq i k ≡ false
neq-same i k e = ap (neq i) e ∙ neq-self i

module _ {f : Frame} {size : ℕ} {incoming : List ℕ} {mail : Mail} (a : Arrived f size incoming mail) (k : ℕ) (h : k < f.n) (ne : k ≢ f.i) where
  -- what `letter` asks for
  pub letter-fits : (k < 8) × (get_or mail.starts k 0 + get_or mail.lens k 0 ≤ length incoming)
  letter-fits = (omega (arith, a.eight), a.inside k h (λ e. ne (sym e)))

  pub length-letter : length (letter incoming mail k) ≡ get_or mail.lens k 0
  unfolding letter
  length-letter = length-get (get_or mail.starts k 0) (get_or mail.lens k 0) incoming letter-fits.1

  pub letter-long : size ≤ length (letter incoming mail k)
  letter-long = omega (arith, length-letter, a.long k h (λ e. ne (sym e)))
