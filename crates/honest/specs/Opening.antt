-- What demand 3 asks of a call of opening, and of the r Blocks; the run of the script.
use Rattle.std.proofs.Math.Path.{◌≡◌}
use Rattle.std.specs.Prelude.{ℕ, ◌-◌, ◌*◌, length}
use mathlib.Core.List.{List}
use Rattle.plan.specs.Plan.{msg_len}
use Rattle.engine.specs.Step.{Loan}
use Rattle.rounds.specs.Area.{work_len}
use Rattle.rounds.specs.Opening.{Args}
use Rattle.rounds.specs.Opening.{kept}
use Rattle.rounds.specs.Fabitn as Fabitn
use Rattle.honest.specs.Inputs.{Run, box}

-- "work areas and buffers hold anything": the inputs of a with another work area and outgoing buffer
abbrev pub lend : Args → List ℕ → List ℕ → Args
lend a work out = record {
  n = a.n;
  i = a.i;
  counts = a.counts;
  delta = a.delta;
  seed = a.seed;
  pairs = a.pairs;
  bits = a.bits;
  alpha = a.alpha;
  beta = a.beta;
  masks = a.masks;
  work = work;
  out = out;
}

module _ (R : Run) where
  open R use {n, l, inputs, strings}

  -- a is box b's opening: its inputs, and lent buffers of due length
  pub record Given (b : ℕ) (a : Args) : Type 0 where
    pub inputs_are : a ≡ lend (inputs b) a.work a.out
    pub work-len : length a.work ≡ work_len (box R b)
    pub out-len : length a.out ≡ (n - 1) * msg_len n l 1

  -- "its r Blocks .., where due, equal the other boxes'": they are due with the call that writes round 6. "Demand 3's equal r strings are
  -- the Blocks lent or drawn, whichever form each box got." (02, order 4)
  pub record Agree (j : ℕ) (q : Loan) : Type 0 where
    pub r-is : j ≡ 6 → Fabitn.strings l q.r ≡ Fabitn.strings l strings

-- the run of the script: the rounds go by the inputs as they are kept
abbrev pub played : Run → Run
played R = record {
  n = R.n;
  l = R.l;
  inputs = λ b. kept (R.inputs b);
  strings = R.strings;
}
