-- The premises of demand 3 can be met: inputs that are all zero but for the records' labels keep them, and with strings, lent or as a seed,
-- no call has a reason.
use Rattle.std.proofs.Math.Path.{◌≡◌, refl}
use Rattle.std.proofs.Common.{sym, ap, ◌∙◌, subst, arith}
use Rattle.std.specs.Prelude.{Bool, ◌≢◌, List, [], ◌∷◌, ℕ, zero, suc, ◌+◌, ◌-◌, ◌*◌, ◌<◌, ◌≤◌, length, get_or, replicate, eqb}
use Rattle.std.proofs.Math.Bool.{true, false}
use Rattle.std.proofs.lemmas.List.{length-replicate}
use Rattle.lists.specs.Pick.{pick}
use Rattle.lists.specs.Over.{cat, length-cat}
use Rattle.lists.specs.Bytes.{Bytes, bytes-cat, bytes-replicate}
use Rattle.algebra.specs.Share.{Good, shared, good-nil}
use Rattle.block.specs.declared.Block.{Block}
use Rattle.block.specs.Group.{blocks}
use Rattle.share.specs.Share.{shares}
use Rattle.share.specs.ShareLaws.{SmallShare, small-share-nil}
use Rattle.share.specs.Lent.{lent_len, lent_of}
use Rattle.share.specs.LentLaws.{length-lent_of, bytes-lent_of, lent_row, Valid, lent-valid}
use Rattle.share.specs.Parties.{lent_shared, share-of-nil, good-lent, lent_written}
use Rattle.batches.specs.Batches.{first, total, counts_fault, whole}
use Rattle.batches.specs.BatchLaws.{total-single, untaken, single-taken}
use Rattle.plan.specs.Plan.{InRange, leaky, bits_count, r_len, msg_len}
use Rattle.engine.specs.Step.{frame, Loan}
use Rattle.engine.specs.Honest.{Lawful}
use Rattle.engine.proofs.PlainSession.{Supply}
use Rattle.rounds.specs.Area.{work_len}
use Rattle.rounds.specs.Opening.{Args}
use Rattle.rounds.specs.Table.{lent}
use Rattle.rounds.specs.Fabitn.{r_fits}
use Rattle.rounds.specs.Fabitn as Fabitn
use Rattle.rounds.specs.FabitnLaws.{strings-all, seed-long, fits_all, fits-seed}
use Rattle.honest.specs.Subject.{opener, subject}
use Rattle.honest.specs.Inputs.{Run, box, Opened}
use Rattle.honest.specs.Opening.{lend, Given, Agree}

-- ---- counts
-- a list for each box that opening takes, all with one sum
pub record Lists (n l : ℕ) (counts : ℕ → List ℕ) : Type 0 where
  pub taken : (b : ℕ) → b < n → counts_fault (counts b) ≡ 0
  pub sum : (b : ℕ) → b < n → total (counts b) ≡ l

-- one batch for all, and another list for box 0 than for the others
pub singles : (n l : ℕ) → InRange n l → Lists n l (λ b. l ∷ [])
singles n l r = record { taken = λ b lb. single-taken l r.one r.most; sum = λ b lb. total-single l }

total-pair : (a b : ℕ) → total (a ∷ b ∷ []) ≡ a + b
unfolding total first
total-pair a b = omega arith

pair-taken : (a b : ℕ) → 1 ≤ a → 1 ≤ b → a + b ≤ 300000 → counts_fault (a ∷ b ∷ []) ≡ 0
pair-taken a b ha hb h =
    untaken (a ∷ b ∷ []) (record {
      some = omega arith;
      most = omega arith;
      one = omega (arith, total-pair a b);
      sum = omega (arith, total-pair a b);
      each = each;
    })
  where
    each : (j : ℕ) → j < 2 → get_or (a ∷ b ∷ []) j 0 ≢ 0
    each zero lt e = omega (arith, e)
    each (suc zero) lt e = omega (arith, e)
    each (suc (suc j)) lt e = omega arith

pub unlike : (n l : ℕ) → InRange n (suc l) → 1 ≤ l → Lists n (suc l) (λ b. pick (eqb b 0) (suc l ∷ []) (1 ∷ l ∷ []))
unlike n l r h = record { taken = λ b lb. takes (eqb b 0); sum = λ b lb. sums (eqb b 0) }
  where
    takes : (b : Bool) → counts_fault (pick b (suc l ∷ []) (1 ∷ l ∷ [])) ≡ 0
    takes true = single-taken (suc l) r.one r.most
    takes false = pair-taken 1 l (omega arith) h (omega (arith, r.most))

    sums : (b : Bool) → total (pick b (suc l ∷ []) (1 ∷ l ∷ [])) ≡ suc l
    sums true = total-single (suc l)
    sums false = omega (arith, total-pair 1 l)

-- ---- zero inputs
abbrev zeros : ℕ → List ℕ
zeros c = replicate c 0

-- box b's c records of nothing, among n boxes
abbrev blanks : ℕ → ℕ → ℕ → List ℕ
blanks n b c = cat c (λ t. lent_of n b shares.nil)

abbrev pub zero_inputs : ℕ → ℕ → (ℕ → List ℕ) → ℕ → Args
zero_inputs n l counts b = record {
  n = n;
  i = b;
  counts = counts b;
  delta = zeros 16;
  seed = zeros 32;
  pairs = zeros (32 * n);
  bits = blanks n b (bits_count l);
  alpha = blanks n b l;
  beta = blanks n b l;
  masks = zeros (n * leaky l);
  work = zeros (work_len (frame n l b));
  out = zeros ((n - 1) * msg_len n l 1);
}

-- with any r
abbrev pub zero_run : ℕ → ℕ → (ℕ → List ℕ) → List ℕ → Run
zero_run n l counts r = record { n = n; l = l; inputs = zero_inputs n l counts; strings = r }

zero-at : (c k : ℕ) → get_or (zeros c) k 0 ≡ 0
zero-at zero k = refl
zero-at (suc c) zero = refl
zero-at (suc c) (suc k) = zero-at c k

-- such records are as long as they should, bytes, valid, and keep the MAC rule
blanks-long : (n b c : ℕ) → length (blanks n b c) ≡ c * lent_len n
blanks-long n b c = length-cat c (lent_len n) (λ t. lent_of n b shares.nil) (λ t h. length-lent_of n b shares.nil)

module _ (n b : ℕ) (eight : n ≤ 8) (lb : b < n) where
  blanks-bytes : (c : ℕ) → Bytes (blanks n b c)
  blanks-bytes c = bytes-cat c (λ t. lent_of n b shares.nil) (λ t h. bytes-lent_of n b (omega arith) (omega arith) shares.nil)

  blanks-valid : (c t : ℕ) → t < c → Valid n b (blanks n b c) (t * lent_len n)
  blanks-valid c t h =
      lent-valid n b shares.nil (blanks n b c) (t * lent_len n) (lent_row n b c (λ t. shares.nil) t h) lb

blanks-good : (n c t : ℕ) (δ : ℕ → Block) → t < c → Good blocks n δ (lent_shared (λ b. blanks n b c) (t * lent_len n))
blanks-good n c t δ h =
    good-lent n (shared blocks).nil (λ b. blanks n b c) (t * lent_len n)
    (lent_written n (shared blocks).nil (λ b. blanks n b c) (t * lent_len n)
    (λ b lb. lent_row n b c (λ t. shares.nil) t h ∙ ap (lent_of n b) (sym (share-of-nil b)))
    (λ b lb. subst (SmallShare n) (sym (share-of-nil b)) (small-share-nil n)))
    δ (good-nil blocks n δ)

pub zero-boxes : (n l : ℕ) → InRange n l → (counts : ℕ → List ℕ) → Lists n l counts → (r : List ℕ) → Opened (zero_run n l counts r)
zero-boxes n l range counts c r = record {
  range = range;
  own = λ b lb. record {
    party = ap (λ m. frame n m b) (c.sum b lb);
    counts-taken = c.taken b lb;
    delta-len = length-replicate {A = ℕ} 16 0;
    seed-len = length-replicate {A = ℕ} 32 0;
    pairs_len = length-replicate {A = ℕ} (32 * n) 0;
    bits-len = blanks-long n b (bits_count l);
    alpha-len = blanks-long n b l;
    beta-len = blanks-long n b l;
    masks-len = length-replicate {A = ℕ} (n * leaky l) 0;
    delta-bytes = bytes-replicate 16 0 (omega arith);
    bits-bytes = blanks-bytes n b range.eight lb (bits_count l);
    alpha-bytes = blanks-bytes n b range.eight lb l;
    beta-bytes = blanks-bytes n b range.eight lb l;
    bits-valid = blanks-valid n b range.eight lb (bits_count l);
    alpha-valid = blanks-valid n b range.eight lb l;
    beta-valid = blanks-valid n b range.eight lb l;
    mask-bits = λ k t lk ne lt. rw (zero-at (n * leaky l) (k * leaky l + t)) (omega arith);
  };
  bits-mac = λ t lt. blanks-good n (bits_count l) t _ lt;
  alpha-mac = λ t lt. blanks-good n l t _ lt;
  beta-mac = λ t lt. blanks-good n l t _ lt;
}

-- ---- lent buffers and strings
-- box b is lent `forms b` as r: each as long as it should, and all of them the run's strings
pub record Forms (R : Run) (forms : ℕ → List ℕ) : Type 0 where
  pub fits : (b : ℕ) → b < R.n → r_fits R.l (length (forms b)) ≡ true
  pub same : (b : ℕ) → b < R.n → Fabitn.strings R.l (forms b) ≡ Fabitn.strings R.l R.strings

module _ (R : Run) (forms : ℕ → List ℕ) (F : Forms R forms) where
  open R use {n, l, inputs}

  -- what box b is lent for round j
  abbrev lends : ℕ → ℕ → Loan
  lends b j = record { r = pick (eqb j 6) (forms b) [] }

  -- it passes 17
  lent_none : (b j : ℕ) → b < n → lent j n l (lends b j) ≡ 0
  unfolding lent
  lent_none b j lb = go (eqb j 6)
    where
      go : (x : Bool) → ◌≡◌ {A = ℕ} (pick (pick x (r_fits l (length (pick x (forms b) []))) (eqb (length (pick x (forms b) [])) 0)) 0 17) 0
      go true = rw (F.fits b lb) refl
      go false = refl

  pub supply : (W : Lawful subject n l) (counts : ℕ → List ℕ) (make : (b : ℕ) → b < n → whole l (counts b) ≡ true)
      → Supply subject n l opener (Agree R) (Given R) W counts make
  supply W counts make = record {
    args = λ b. lend (inputs b) (zeros (work_len (box R b))) (zeros ((n - 1) * msg_len n l 1));
    lends = lends;
    given = λ b lb. record { inputs_are = refl; work-len = length-replicate {A = ℕ} _ 0; out-len = length-replicate {A = ℕ} _ 0 };
    valid = lent_none;
    agree = λ b j lb. record { r-is = λ e. rw e (F.same b lb) };
  }

  pub supply-r : (W : Lawful subject n l) (counts : ℕ → List ℕ) (make : (b : ℕ) → b < n → whole l (counts b) ≡ true) (b : ℕ)
      → ((supply W counts make).lends b 6).r ≡ forms b
  unfolding supply
  supply-r W counts make b = refl

-- ---- one box is lent a seed, the others all strings
abbrev pub one_seed : ℕ → List ℕ → ℕ → List ℕ
one_seed l seed b = pick (eqb b 0) seed (Fabitn.strings l seed)

pub one_seed_lem : (n l : ℕ) (counts : ℕ → List ℕ) (seed : List ℕ) → length seed ≡ 16 → Forms (zero_run n l counts seed) (one_seed l seed)
one_seed_lem n l counts seed h = record { fits = λ b lb. long (eqb b 0); same = λ b lb. alike (eqb b 0) }
  where
    all-long : length (Fabitn.strings l seed) ≡ r_len l
    all-long = seed-long l seed h

    long : (b : Bool) → r_fits l (length (pick b seed (Fabitn.strings l seed))) ≡ true
    long true = fits-seed l seed h
    long false = fits_all l (Fabitn.strings l seed) all-long

    alike : (b : Bool) → Fabitn.strings l (pick b seed (Fabitn.strings l seed)) ≡ Fabitn.strings l seed
    alike true = refl
    alike false = strings-all l (Fabitn.strings l seed) all-long
