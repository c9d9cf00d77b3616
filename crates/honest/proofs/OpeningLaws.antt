-- Opening in an honest run: the inputs of demand 3 have no reason to be refused, what has one changes nothing, and what opening leaves is
-- what the script says.
use Rattle.std.proofs.Math.Path.{◌≡◌, refl, ap}
use Rattle.std.proofs.Common.{sym, ◌∙◌, subst, arith}
use Rattle.std.specs.Prelude.{Bool, ◌≢◌, ℕ, suc, ◌+◌, ◌-◌, ◌*◌, ◌<◌, length, get_or}
use Rattle.std.proofs.Math.Bool.{true, false}
use mathlib.Core.List.{List, [], ◌∷◌}
use Rattle.std.proofs.Math.Dec.{leb, eqb}
use borrow.Author.Tests.{lt-ltb, le-leb, eq-eqb, ne_eqb, eqb-true}
use Rattle.lists.specs.Pick.{pick, pick-then, by-eq}
use Rattle.lists.specs.All.{all_of, all_of_lem}
use Rattle.lists.specs.Bytes.{Bytes}
use Rattle.algebra.specs.Sum.{neq, Same, apart, apart?}
use Rattle.algebra.specs.Share.{total, Good}
use Rattle.block.specs.Group.{blocks}
use Rattle.share.specs.Record.{record_len}
use Rattle.share.specs.Share.{share_at}
use Rattle.share.specs.ShareLaws as Shares
use Rattle.share.specs.Lent.{lent_len, kept_of}
use Rattle.share.specs.LentLaws.{bytes-kept, valid-faults}
use Rattle.share.specs.Parties.{shared_at, lent_shared, share_of, good-at, total-at, kept-agree}
use Rattle.batches.specs.Batches.{tally, whole}
use Rattle.batches.specs.BatchLaws.{whole-tally}
use Rattle.plan.specs.Plan.{InRange, leaky, bits_count, msg_len}
use Rattle.engine.specs.declared.Frame.{Frame}
use Rattle.engine.specs.Step.{frame, Loan, Accepted, Refused, outcome}
use Rattle.engine.specs.World.{session_of}
use Rattle.engine.specs.Area.{to_others}
use Rattle.engine.specs.Sheet.{Known}
use Rattle.engine.specs.Honest.{Lawful, due}
use Rattle.engine.proofs.PlainSession.{AlikeSend, alike_same, HonestOpening}
use Rattle.rounds.specs.Area.{BITS, KEY_SUMS, work_len, at, keep}
use Rattle.rounds.specs.Opening.{Args, party, lists_due, buffers_due, masks_fault, or_fault, bytes_fault, lengths_fault, reason}
use Rattle.rounds.specs.Opening.{kept, section, area, spec}
use Rattle.rounds.specs.Table.{lent, held, written}
use Rattle.rounds.specs.Fabitn.{r_fits}
use Rattle.rounds.specs.Fabitn as Fabitn
use Rattle.rounds.specs.FabitnLaws.{abit-alike, sums-alike}
use Rattle.rounds.specs.Toss as Toss
use Rattle.alone.proofs.Opening.{Lens, first-seven, spec-takes}
use Rattle.alone.proofs.Opening as A
use Rattle.honest.specs.Subject.{opener, subject}
use Rattle.honest.specs.Script as S
use Rattle.honest.specs.Inputs.{Run, box, deltas, Own, Opened, Boxes}
use Rattle.honest.specs.Base.{stored}
use Rattle.honest.specs.Opening.{lend, Given, Agree, played}

-- ---- no reason to refuse
module _ (a : Args) (r : InRange a.n (party a).l) (li : a.i < a.n) (o : Own (party a) a) where
  lists-due : lists_due (party a) (length a.bits) (length a.alpha) (length a.beta) ≡ true
  unfolding lists_due
  lists-due = rw (eq-eqb _ _ o.bits-len, eq-eqb _ _ o.alpha-len, eq-eqb _ _ o.beta-len) refl

  buffers-due : length a.work ≡ work_len (party a) → length a.out ≡ (a.n - 1) * msg_len a.n (party a).l 1
      → buffers_due a ≡ true
  unfolding buffers_due
  buffers-due hw ho =
      rw (
        eq-eqb _ _ o.delta-len,
        eq-eqb _ _ o.seed-len,
        eq-eqb _ _ o.pairs_len,
        eq-eqb _ _ o.masks-len,
        eq-eqb _ _ hw,
        eq-eqb _ _ ho,
      ) refl

  masks-none : masks_fault a ≡ 0
  unfolding masks_fault
  masks-none = rw (all_of_lem a.n _ (λ k lk. go k lk (neq a.i k) (apart? a.i k))) refl
    where
      go : (k : ℕ) → k < a.n → (b : Bool) → Same a.i k b
          → pick b (all_of (leaky (party a).l) (λ t. leb (get_or a.masks (k * leaky (party a).l + t) 0) 1)) true ≡ true
      go k lk false s = refl
      go k lk true (apart ne) = all_of_lem (leaky (party a).l) _ (λ t lt. le-leb _ 1 (o.mask-bits k t lk ne lt))

  bytes-none : bytes_fault a ≡ 0
  unfolding bytes_fault or_fault
  bytes-none =
      rw (
        valid-faults a.n a.i a.bits (bits_count (party a).l) o.bits-valid,
        valid-faults a.n a.i a.alpha (party a).l o.alpha-valid,
        valid-faults a.n a.i a.beta (party a).l o.beta-valid,
        masks-none,
      ) refl

  pub no-reason : length a.work ≡ work_len (party a) → length a.out ≡ (a.n - 1) * msg_len a.n (party a).l 1
      → reason a ≡ 0
  unfolding reason lengths_fault or_fault
  no-reason hw ho =
      rw (
        le-leb 2 a.n r.two,
        le-leb a.n 8 r.eight,
        lt-ltb a.i a.n li,
        o.counts-taken,
        lists-due,
        buffers-due hw ho,
      ) bytes-none

lens-of : (a : Args) → Own (party a) a → Lens a
lens-of a o = record {
  delta-len = o.delta-len;
  seed-len = o.seed-len;
  pairs_len = o.pairs_len;
  masks-len = o.masks-len;
}

-- in the words of its frame
own-frame : (f : Frame) (a : Args) → Own f a → Own (party a) a
own-frame f a o = subst (λ (f : Frame). Own f a) (sym o.party) o

-- what the boxes keep of one list each, `count l` records, is what they were lent
module _ (R : Run) (X : Opened R) (count : ℕ → ℕ) (files : ℕ → List ℕ) (bytes : (b : ℕ) → b < R.n → Bytes (files b))
    (t : ℕ) (lt : t < count R.l) where
  open R use {n, l, inputs}

  abbrev keeps : ℕ → List ℕ
  keeps b = kept_of (inputs b).n (inputs b).i (count (party (inputs b)).l) (files b)

  keeps-lent : (b : ℕ) → b < n → Shares.Agree n b (share_at (keeps b) (t * record_len n)) (share_of b (lent_shared files (t * lent_len n)))
  keeps-lent b lb =
      subst (λ (f : Frame). Shares.Agree n b (share_at (kept_of f.n f.i (count f.l) (files b)) (t * record_len n))
      (share_of b (lent_shared files (t * lent_len n))))
      (sym (X.own b lb).party) (kept-agree n files (count l) t lt bytes b lb)

  good-keeps : Good blocks n (deltas R) (lent_shared files (t * lent_len n)) → Good blocks n (deltas R) (shared_at keeps (t * record_len n))
  good-keeps = good-at n (lent_shared files (t * lent_len n)) keeps (t * record_len n) keeps-lent (deltas R)

  pub total-keeps : total n (shared_at keeps (t * record_len n)) ≡ total n (lent_shared files (t * lent_len n))
  total-keeps = total-at n (lent_shared files (t * lent_len n)) keeps (t * record_len n) keeps-lent

pub boxes-for : (R : Run) → Opened R → Boxes (played R)
boxes-for R X = record {
  range = X.range;
  own = λ b lb. record {
    seed-len = (X.own b lb).seed-len;
    pairs_len = (X.own b lb).pairs_len;
    delta-bytes = (X.own b lb).delta-bytes;
    bits-bytes = bytes-kept _ _ (R.inputs b).bits _;
    alpha-bytes = bytes-kept _ _ (R.inputs b).alpha _;
    beta-bytes = bytes-kept _ _ (R.inputs b).beta _;
  };
  bits-mac = λ t lt. good-keeps R X bits_count (λ b. (R.inputs b).bits) (λ b lb. (X.own b lb).bits-bytes) t lt (X.bits-mac t lt);
  alpha-mac = λ t lt. good-keeps R X (λ l. l) (λ b. (R.inputs b).alpha) (λ b lb. (X.own b lb).alpha-bytes) t lt (X.alpha-mac t lt);
  beta-mac = λ t lt. good-keeps R X (λ l. l) (λ b. (R.inputs b).beta) (λ b lb. (X.own b lb).beta-bytes) t lt (X.beta-mac t lt);
}

-- ---- the loans: what passes 17 and agrees is what the script lends; of r, the strings are
empty : (x : List ℕ) → eqb (length x) 0 ≡ true → x ≡ []
empty [] h = refl
empty (a ∷ x) h = absurd (let e : suc (length x) ≡ 0 = eqb-true _ _ h in omega arith)

abbrev loan : List ℕ → Loan
loan r = record { r = r }

module _ (R : Run) (q : Loan) where
  open R use {l, strings}

  -- the r Blocks, lent or drawn
  agrees-r : (n : ℕ) → Fabitn.strings l q.r ≡ Fabitn.strings l strings → AlikeSend (subject.send 6) n l q (loan strings)
  unfolding held written
  agrees-r n e = record {
    keep = λ i w.
        ap (λ (x : List ℕ). keep (frame n l i) KEY_SUMS x w) (sums-alike (frame n l i) q.r strings (at (frame n l i) BITS w) e);
    write = λ i r w. abit-alike (frame n l i) q.r strings (at (frame n l i) BITS w) e r;
  }

  -- what the script lends
  abbrev lends : ℕ → Loan
  lends j = loan (pick (eqb j 6) strings [])

  -- where no r is due
  agrees-rest : (n j : ℕ) → j ≢ 6 → lent j n l q ≡ 0 → q ≡ lends j
  unfolding lent
  agrees-rest n j ne h = go (eqb j 6) refl h
    where
      go : (a : Bool) → eqb j 6 ≡ a → ◌≡◌ {A = ℕ} (pick (pick a (r_fits l (length q.r)) (eqb (length q.r) 0)) 0 17) 0
          → q ≡ loan (pick a strings [])
      go true ea h = absurd (ne (eqb-true j 6 ea))
      go false ea h = ap loan (empty q.r (pick-then (eqb (length q.r) 0) 0 17 0 (λ e. omega arith) h).0)

  pub agrees : (n j : ℕ) → lent j n l q ≡ 0 → Agree R j q → AlikeSend (subject.send j) n l q (lends j)
  agrees n j h g =
      by-eq _ j 6 (λ e. subst (λ j. AlikeSend (subject.send j) n l q (lends j)) (sym e) (agrees-r n (g.r-is e)))
      (λ ne. alike_same (subject.send j) n l q (lends j) (agrees-rest n j ne h))

-- ---- what opening owes
spec-refuses : (a : Args) → reason a ≢ 0
    → spec a ≡ outcome (spec a).session (Refused (reason a) a.i) a.work a.out
unfolding spec
spec-refuses a ne = rw (ne_eqb (reason a) 0 ne) refl

module _ (R : Run) (X : Opened R) where
  open R use {n, l, inputs}

  -- what box b keeps of its counts: they make l
  abbrev pub counts_of : ℕ → List ℕ
  counts_of b = tally (inputs b).counts

  pub counts-make : (b : ℕ) → b < n → whole l (tally (inputs b).counts) ≡ true
  counts-make b lb =
      subst (λ (f : Frame). whole f.l (tally (inputs b).counts) ≡ true) (X.own b lb).party
      (whole-tally (inputs b).counts (X.own b lb).counts-taken)

  -- what box b's opening writes: the commitment of its seed
  abbrev pub first_out : ℕ → List ℕ
  first_out b = to_others n b (λ r. Toss.comm_msg (inputs b).seed b)

  own-lend : (b : ℕ) → b < n → (work out : List ℕ) → Own (box R b) (lend (inputs b) work out)
  own-lend b lb work out = let o = X.own b lb in search

  no-reason-lend : (b : ℕ) → b < n → (work out : List ℕ) → length work ≡ work_len (box R b) → length out ≡ (n - 1) * msg_len n l 1
      → reason (lend (inputs b) work out) ≡ 0
  no-reason-lend b lb work out hw ho =
      let p : box R b ≡ party (inputs b) = sym (X.own b lb).party in
      no-reason (lend (inputs b) work out)
      (subst (λ (f : Frame). InRange f.n f.l) p X.range) (subst (λ (f : Frame). f.i < f.n) p lb)
      (own-frame (box R b) (lend (inputs b) work out) (own-lend b lb work out)) (hw ∙ ap work_len p)
      (ho ∙ ap (λ (f : Frame). (f.n - 1) * msg_len f.n f.l 1) p)

  -- it accepts its own inputs, and what the buffers held is not seen
  takes-given : (b : ℕ) (a : Args) → b < n → Given R b a
      → (reason a ≡ 0) × (spec a ≡ outcome (session_of n l (counts_of b) b 1) Accepted (area (inputs b)) (first_out b))
  unfolding area section
  takes-given b a lb g =
      let z : reason (lend (inputs b) a.work a.out) ≡ 0 = no-reason-lend b lb a.work a.out g.work-len g.out-len in
      rw g.inputs_are (z, spec-takes (lend (inputs b) a.work a.out) (box R b) (X.own b lb).party z)

  -- the work area that it lays out
  known-opened : (i : ℕ) → i < n → Known n l (stored (played R)) (due 1) i (area (inputs i))
  unfolding section S.holds
  known-opened i li =
      A.known-opened (box R i) (S.holds (played R)) (inputs i) (X.own i li).party
      (lens-of (inputs i) (own-frame (box R i) (inputs i) (X.own i li)))
      (first-seven (λ s. section (kept (inputs i)) s ≡ S.holds (played R) i s) (refl, (refl, (refl, (refl, (refl, (refl, (refl, tt))))))))

  pub honest-opening : (W : Lawful subject n l)
      → HonestOpening subject (S.script (played R)) n l opener (Agree R) (Given R) W (λ b. tally (inputs b).counts) counts-make
  unfolding S.sent S.sent1
  honest-opening W = record {
    first = record { work = λ b. area (inputs b); out = first_out };
    refuses = spec-refuses;
    takes = takes-given;
    keeps = known-opened;
    writes = λ j lj. refl;
    agrees = λ j q h g. agrees R q n j h g;
  }
