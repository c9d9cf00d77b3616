-- The lengths and forms as the table has them are those of the plan; what follows for a call that is not refused; messages by a mail.
use Rattle.std.specs.Prelude.{◌≡◌, ◌≢◌, ◌++◌, ⊤, Result, drop, Bool, false, not, ◌&&◌, ◌||◌, ℕ, ◌+◌, ◌-◌, ◌*◌, ◌<◌, ◌≤◌, length, set, replicate, ltb, leb}
use Rattle.engine.specs.declared.Refusal.{Refusal}
use Rattle.lists.specs.Tab.{tab-get_or}
use Rattle.std.proofs.Math.Path.{refl, sym, ap, ap₂, fun_ext}
use Rattle.std.proofs.Common.{◌∙◌, subst, arith}
use Rattle.std.proofs.Math.Bool.{true}
use mathlib.Core.List.{List, []}
use Rattle.std.proofs.Math.ListN.{get_or, get_or-append}
use Rattle.std.proofs.Math.Dec.{eqb}
use borrow.Author.Tests.{ltb-true, leb-true, eqb-true, eq-eqb, ne_eqb}
use Rattle.lists.specs.Pick.{pick, pick-else, by-eq}
use Rattle.lists.specs.All.{all_of, of-all, all-turn, all-false, all-ext, true-false, and_first, and_second, and-false, not-false}
use Rattle.lists.specs.Over.{tab, length-tab, get_or-tab, tab-zero, tab-step}
use Rattle.lists.specs.Sect.{get}
use Rattle.algebra.specs.Sum.{neq-true}
use Rattle.message.specs.declared.Kind.{Kind}
use Rattle.message.specs.declared.Kind.TheVariants.{Options}
use Rattle.message.specs.Format as Format
use Rattle.message.specs.Read as Read
use Rattle.plan.specs.Plan as Plan
use Rattle.plan.specs.Plan.{FABITN, echo?, is_round, next_round, kind_of, count_due, msg_len, out_len, InRange}
use Rattle.plan.specs.PlanLaws.{Rest, kind-rest, count-rest, out-len-last, out-len}
use Rattle.batches.specs.Batches.{total, whole}
use Rattle.batches.specs.BatchLaws.{whole-total}
use Rattle.engine.specs.declared.Frame.{Frame}
use Rattle.engine.specs.declared.Session.{Session}
use Rattle.engine.specs.Step.{Lent, Loan, frame, other, mask, gone, part, inside, parts_in, lengths_due, reason_of, or_else, by_party, form_fault}
use Rattle.engine.specs.Step.{fault_of}
use Rattle.engine.specs.StepLaws.{other-neq, other-is, mask-ext, by-ext, by-clean}
use Rattle.engine.specs.Area.{mem}
use Rattle.engine.specs.Order.{echo_in, round_in}
use Rattle.engine.specs.Plain.{len_of, out_len_of, lent_of, form_at, check_of, rule_of, protocol_of}
use Rattle.rounds.specs.Area as Area
use Rattle.rounds.specs.Area.{work_len, size_of}
use Rattle.rounds.specs.declared.Mail.{Mail}
use Rattle.rounds.specs.Mail.{letter}
use Rattle.rounds.specs.MailLaws.{neq-same}
use Rattle.rounds.specs.FaultLaws.{Finds}
use Rattle.rounds.specs.Echo.{echo}
use Rattle.rounds.specs.EchoLaws.{Received}
use Rattle.rounds.specs.Fabitn.{r_fits}
use Rattle.rounds.specs.Table.{table, lent, fine}
use Rattle.area.specs.Given.{Ranged}
use Rattle.admit.specs.Admit.{loan, given, lengths_fit, fits, kind_fault, eight, mail_of, posted}

-- ---- the order of the rounds
-- an echo is none of the plain rounds
module _ (k : ℕ) (e : echo? k ≡ true) where
  not_plain : (a : ℕ) → echo? a ≡ false → k ≢ a
  not_plain a h q = true-false (sym e ∙ ap echo? q ∙ h)

  pub echo-rest : Rest k
  unfolding echo_in mem
  echo-rest = record {
    not1 = not_plain 1 refl;
    not3 = not_plain 3 refl;
    not4 = not_plain 4 refl;
    not5 = not_plain 5 refl;
    not6 = not_plain 6 refl;
    not8 = not_plain 8 refl;
    not10 = not_plain 10 refl;
    not12 = not_plain 12 refl;
    not14 = not_plain 14 refl;
    not15 = not_plain 15 refl;
    not17 = not_plain 17 refl;
    not19 = not_plain 19 refl;
    not21 = not_plain 21 refl;
    not22 = not_plain 22 refl;
  }

  pub echo-kind : (l : ℕ) → kind_of l k ≡ Options
  echo-kind l = kind-rest k echo-rest l

  pub echo-count : (n l : ℕ) → count_due n l k ≡ n
  echo-count n l = count-rest k echo-rest n l

-- ---- lengths
echo-len-is : (n l k : ℕ) → echo? k ≡ true → msg_len n 1 2 ≡ msg_len n l k
unfolding msg_len kind_of count_due
echo-len-is n l k e = sym (ap₂ (Plan.list_len n) (echo-count k e n l) (echo-kind k e l))

pub len_is : (n l k : ℕ) → len_of table n l k ≡ msg_len n l k
unfolding len_of echo
len_is n l k = go (echo? k) refl
  where
    go : (b : Bool) → echo? k ≡ b → pick b (msg_len n 1 2) (msg_len n l k) ≡ msg_len n l k
    go true e = echo-len-is n l k e
    go false e = refl

pub round-low : (n k : ℕ) → is_round n k ≡ true → k ≤ 22
unfolding round_in
round-low n k h = leb-true k 22 (and_second (leb 1 k) (leb k 22) (and_first (leb 1 k && leb k 22) (not (eqb n 2 && echo? k)) h))

pub round-one : (n k : ℕ) → is_round n k ≡ true → 1 ≤ k
unfolding round_in
round-one n k h = leb-true 1 k (and_first (leb 1 k) (leb k 22) (and_first (leb 1 k && leb k 22) (not (eqb n 2 && echo? k)) h))

pub out-len-is : (n l i k : ℕ) → InRange n l → is_round n k ≡ true → out_len_of table k (frame n l i) ≡ out_len n l k
unfolding out_len_of
out-len-is n l i k r h = by-eq _ k 22
    (λ e. rw (e) (sym (out-len-last n l r)))
    (λ e. rw (ne_eqb k 22 e) (ap (λ m. (n - 1) * m) (len_is n l (next_round n k))
    ∙ sym (out-len n l r k (omega (arith, low)) (ap (λ b. eqb k 0 || b) h ∙ or-true (eqb k 0)))))
  where
    or-true : (b : Bool) → (b || true) ≡ true
    or-true true = refl
    or-true false = refl

    low : k ≤ 22
    low = round-low n k h

-- ---- what is lent: r with the call that writes `fabitn`
-- by the round that is written
module _ (j n l : ℕ) (r : List ℕ) where
  pub lent-r : j ≡ FABITN → (x : ℕ) (b : Bool) → b ≡ r_fits l (length r) → x ≡ pick b 0 17 → x ≡ lent j n l (loan r)
  unfolding lent
  lent-r e x b h w = rw (e) (w ∙ ap (λ c. pick c 0 17) h)

  pub lent-rest : j ≢ FABITN → (x : ℕ) (b : Bool) → b ≡ eqb (length r) 0 → x ≡ pick b 0 17 → x ≡ lent j n l (loan r)
  unfolding lent
  lent-rest a x b h w = rw (ne_eqb j FABITN a) (w ∙ ap (λ c. pick c 0 17) h)

pub lent_of_lem : (k n l j x : ℕ) (q : Loan) → j ≡ next_round n k → x ≡ lent j n l q → x ≡ lent_of table k n l q
unfolding lent_of
lent_of_lem k n l j x q e h = h ∙ ap (λ m. lent m n l q) e

-- ---- the form of one message
pub form-is : (k n l i : ℕ) (m : List ℕ) → form_at table k (frame n l i) m ≡ Format.form_of (kind_of l k) (count_due n l k) m
unfolding form_at echo
form-is k n l i m = go (echo? k) refl
  where
    go : (b : Bool) → echo? k ≡ b
        → pick b (Format.form_of Options n m) (Format.form_of (kind_of l k) (count_due n l k) m) ≡ Format.form_of (kind_of l k) (count_due n l k) m
    go true e = sym (ap₂ (λ K c. Format.form_of K c m) (echo-kind k e l) (echo-count k e n l))
    go false e = refl

pub fault-is : (k n l i : ℕ) (q : Lent) (j : ℕ) → form_fault (rule_of table k) (frame n l i) q j ≡ kind_fault (kind_of l k) (count_due n l k) q j
unfolding form_fault kind_fault
fault-is k n l i q j = ap (pick (gone q j) 14) (form-is k n l i (part q j))

-- the part of the incoming buffer that holds party k's message
pub part-is : (q : Lent) (k : ℕ) → part q k ≡ get (get_or q.starts k 0) (get_or q.lens k 0) q.incoming
unfolding part
part-is q k = refl

-- what is lent besides, and the outgoing buffer, play no part in it
pub parts-any : (incoming starts lens missing r out : List ℕ) (f : Frame)
    → parts_in f (given incoming starts lens missing [] []) ≡ parts_in f (given incoming starts lens missing r out)
unfolding parts_in gone inside
parts-any incoming starts lens missing r out f = refl

-- ---- the parts lie inside
module _ (n l i : ℕ) (q : Lent) where
  pub parts_are : all_of n (fits i q) ≡ parts_in (frame n l i) q
  unfolding parts_in fits
  parts_are = sym (all-ext n _ _ (λ k h. ap (λ b. pick b (pick (gone q k) true (inside q k)) true) (other-neq (frame n l i) k h)))

  pub parts-fit : parts_in (frame n l i) q ≡ true → (k : ℕ) → k < n → fits i q k ≡ true
  parts-fit h = of-all n (fits i q) (parts_are ∙ h)

module _ (i : ℕ) (q : Lent) (k : ℕ) where
  pub fits-own : k ≡ i → true ≡ fits i q k
  unfolding fits
  fits-own e = ap (λ b. pick b (pick (gone q k) true (inside q k)) true) (sym (neq-same i k e))

  pub fits-gone : k ≢ i → get_or q.missing k 0 ≢ 0 → true ≡ fits i q k
  unfolding fits gone
  fits-gone ne h = rw (neq-true i k (λ e. ne (sym e)), ne_eqb _ _ h) refl

  pub fits-there : k ≢ i → get_or q.missing k 0 ≡ 0 → (x : Bool)
      → x ≡ Read.inside (length q.incoming) (get_or q.starts k 0) (get_or q.lens k 0)
      → x ≡ fits i q k
  unfolding fits gone inside Read.inside
  fits-there ne h x e = rw (neq-true i k (λ e. ne (sym e)), eq-eqb _ _ h) e

  -- what `part` asks for
  pub fits-inside : k ≢ i → get_or q.missing k 0 ≡ 0 → fits i q k ≡ true → get_or q.starts k 0 + get_or q.lens k 0 ≤ length q.incoming
  unfolding fits gone inside
  fits-inside ne h e =
      leb-true _ _
      (sym (ap₂ (λ a b. pick a (pick (not b) true (leb (get_or q.starts k 0 + get_or q.lens k 0) (length q.incoming))) true)
      (neq-true i k (λ e. ne (sym e))) (eq-eqb (get_or q.missing k 0) 0 h)) ∙ e)

  -- ---- one message: the own one, missing, or what the reader says
  pub fault-gone : (K : Kind) (c : ℕ) → get_or q.missing k 0 ≢ 0 → 14 ≡ kind_fault K c q k
  unfolding kind_fault gone
  fault-gone K c h = rw (ne_eqb _ _ h) refl

  pub fault-there : (K : Kind) (c : ℕ) → get_or q.missing k 0 ≡ 0 → (x : ℕ)
      → x ≡ Format.form_of K c (get (get_or q.starts k 0) (get_or q.lens k 0) q.incoming)
      → x ≡ kind_fault K c q k
  unfolding kind_fault gone
  fault-there K c h x e = rw (eq-eqb _ _ h) (e ∙ ap (Format.form_of K c) (sym (part-is q k)))

-- ---- a number for each party, one after another in eight
eight-at : (g : ℕ → ℕ) (n j : ℕ) → j < n → get_or (eight n g) j 0 ≡ g j
eight-at g n j h = get_or-append (tab n g) _ 0 j (omega (arith, length-tab n g)) ∙ get_or-tab n j g 0 h

-- n numbers in place of the first of eight
pub eight-is : (s : List ℕ) (n : ℕ) → length s ≡ n → s ++ drop n (replicate 8 0) ≡ eight n (λ k. get_or s k 0)
eight-is s n h = ap (λ (x : List ℕ). x ++ drop n (replicate 8 0)) (sym (tab-get_or s 0) ∙ ap (λ m. tab m (λ k. get_or s k 0)) h)

-- ---- the messages by a mail
-- what the loop looks at is what the table says
pub form-found : (n i l k : ℕ) (q : Lent) (K : Kind) (c : ℕ) → K ≡ kind_of l k → c ≡ count_due n l k → (v : Result ⊤ Refusal)
    → Finds v (by_party (frame n l i) (kind_fault K c q)) → Finds v (by_party (frame n l i) (form_fault (rule_of table k) (frame n l i) q))
form-found n i l k q K c eK ec v h =
    subst (λ (g : ℕ → ℕ). Finds v (by_party (frame n l i) g))
    (fun_ext (λ j. ap₂ (λ X y. kind_fault X y q j) eK ec ∙ sym (fault-is k n l i q j))) h

-- where no message has a fault of form, a round is lent this
module _ (f : Frame) (k : ℕ) (incoming : List ℕ) (mail : Mail) (missing : List ℕ)
    (z : (by_party f (form_fault (rule_of table k) f (posted incoming mail missing))).code ≡ 0) where
  abbrev q : Lent
  q = posted incoming mail missing

  clean : (j : ℕ) → j < f.n → f.i ≢ j → (gone q j ≡ false) × (form_at table k f (part q j) ≡ 0)
  unfolding form_fault
  clean j h ne =
      pick-else (gone q j) 14 (form_at table k f (part q j)) 0 (λ e. omega arith) (by-clean f (form_fault (rule_of table k) f q) z j h ne)

  inside_is : parts_in f q ≡ true → (j : ℕ) → j < f.n → f.i ≢ j → get_or mail.starts j 0 + get_or mail.lens j 0 ≤ length incoming
  unfolding parts_in inside
  inside_is p j h ne =
      leb-true _ _
      (sym (ap₂ (λ a b. pick a (pick b true (inside q j)) true) (other-is f j h ne) (clean j h ne).0) ∙ of-all f.n _ p j h)

  formed-is : (j : ℕ) → j < f.n → f.i ≢ j → Format.form_of (kind_of f.l k) (count_due f.n f.l k) (letter incoming mail j) ≡ 0
  unfolding letter part
  formed-is j h ne = sym (form-is k f.n f.l f.i (part q j)) ∙ (clean j h ne).1

  pub received : f.n ≤ 8 → parts_in f q ≡ true → Received (kind_of f.l k) (count_due f.n f.l k) f incoming mail
  received e p = record { arrived = record { eight = e; inside = inside_is p; long = λ j h ne. omega arith }; formed-is = formed-is }

-- the mail of what is lent says the same; what is lent besides, and the outgoing buffer, play no part in it
module _ (f : Frame) (incoming starts lens missing r out : List ℕ) where
  abbrev mail : Mail
  mail = mail_of f.n starts lens

  abbrev there : Lent
  there = given incoming starts lens missing r out

  start_is : (j : ℕ) → j < f.n → get_or mail.starts j 0 ≡ get_or starts j 0
  unfolding mail_of
  start_is j h = eight-at (λ k. get_or starts k 0) f.n j h

  long-is : (j : ℕ) → j < f.n → get_or mail.lens j 0 ≡ get_or lens j 0
  unfolding mail_of
  long-is j h = eight-at (λ k. get_or lens k 0) f.n j h

  letter-is : (j : ℕ) → j < f.n → letter incoming mail j ≡ part there j
  unfolding letter part
  letter-is j h = ap₂ (λ a b. get a b incoming) (start_is j h) (long-is j h)

  pub letters-are : mask f (letter incoming mail) ≡ mask f (part there)
  letters-are = mask-ext f _ _ (λ j h ne. letter-is j h)

  pub parts-posted : parts_in f there ≡ true → parts_in f (posted incoming mail missing) ≡ true
  unfolding parts_in gone inside
  parts-posted p =
      all-ext f.n _ _ (λ j h. ap₂ (λ a b. pick (other f j) (pick (gone there j) true (leb (a + b) (length incoming))) true)
      (start_is j h) (long-is j h)) ∙ p

  pub fault-posted : (k : ℕ) (w : List ℕ)
      → fault_of (rule_of table k) f (posted incoming mail missing) w ≡ fault_of (rule_of table k) f there w
  unfolding fault_of form_fault gone letter part
  fault-posted k w =
      ap₂ or_else
      (by-ext f _ _ (λ j h ne. ap (λ (x : List ℕ). pick (gone there j) 14 (form_at table k f x)) (letter-is j h)))
      (ap (check_of table k f w) letters-are)

-- ---- a call that is not refused
fine-ranges : (f : Frame) → fine f ≡ true → Ranged f
unfolding fine
fine-ranges f h =
    let a = leb 2 f.n in
    let b = leb f.n 8 in
    let c = ltb f.i f.n in
    let d = leb 1 f.l in
    let h4 = and_first (a && b && c && d) _ h in
    let h3 = and_first (a && b && c) _ h4 in
    let h2 = and_first (a && b) _ h3 in
    record {
      own = ltb-true _ _ (and_second (a && b) c h3);
      range = record {
        two = leb-true _ _ (and_first a b h2);
        eight = leb-true _ _ (and_second a b h2);
        one = leb-true _ _ (and_second (a && b && c) d h4);
        most = leb-true _ _ (and_second (a && b && c && d) _ h);
      };
    }

module _ (s : Session) (h : (protocol_of table).alive s ≡ true) where
  pub alive-ranges : Ranged s.party
  alive-ranges = fine-ranges s.party (and_first (fine s.party) _ (and_first (fine s.party && whole s.party.l s.counts) _ h))

  -- its counts make l
  pub alive-total : total s.counts ≡ s.party.l
  alive-total =
      whole-total s.party.l s.counts
      (and_second (fine s.party) _ (and_first (fine s.party && whole s.party.l s.counts) _ h))

  pub alive-round : is_round s.party.n s.due ≡ true
  alive-round = and_second (fine s.party && whole s.party.l s.counts) _ h

-- every party's work area is laid out the same
work-any : (f : Frame) → work_len f ≡ work_len (frame f.n f.l 0)
unfolding work_len size_of Area.sizes
work-any f = refl

-- the whole work area
pub work-is : (f : Frame) → (protocol_of table).work_len f ≡ work_len f
unfolding work_len
work-is f = refl

-- all that a call without a reason is sure of
pub record Admitted (s : Session) (k : ℕ) (q : Lent) (w : List ℕ) : Type 0 where
  pub alive-is : (protocol_of table).alive s ≡ true
  pub ranges : Ranged s.party
  pub due-is : k ≡ s.due
  pub round-holds : is_round s.party.n k ≡ true
  pub work-whole : length w ≡ work_len s.party
  pub out-whole : length q.out ≡ out_len_of table k s.party
  pub starts-n : length q.starts ≡ s.party.n
  pub lens-n : length q.lens ≡ s.party.n
  pub missing-n : length q.missing ≡ s.party.n
  pub parts-in : parts_in s.party q ≡ true
  pub lent_fits : lent_of table k s.party.n s.party.l q.loan ≡ 0

pub reason-zero : (s : Session) (k : ℕ) (q : Lent) (w : List ℕ) → reason_of (protocol_of table) s k q w ≡ 0 → Admitted s k q w
unfolding reason_of lengths_due
reason-zero s k q w h = record {
  alive-is = al;
  ranges = alive-ranges s al;
  due-is = du;
  round-holds = ap (is_round s.party.n) du ∙ alive-round s al;
  work-whole = eqb-true _ _ (and_first a b s2) ∙ work-is s.party;
  out-whole = eqb-true _ _ (and_second a b s2);
  starts-n = eqb-true _ _ (and_second (a && b) c s3);
  lens-n = eqb-true _ _ (and_second (a && b && c) d s4);
  missing-n = eqb-true _ _ (and_second (a && b && c && d) e s5);
  parts-in = and_second (a && b && c && d && e) _ s6;
  lent_fits = e3.1;
}
  where
    a : Bool
    a = eqb (length w) ((protocol_of table).work_len s.party)

    b : Bool
    b = eqb (length q.out) (out_len_of table k s.party)

    c : Bool
    c = eqb (length q.starts) s.party.n

    d : Bool
    d = eqb (length q.lens) s.party.n

    e : Bool
    e = eqb (length q.missing) s.party.n

    all : Bool
    all = a && b && c && d && e && parts_in s.party q

    third : ℕ
    third = lent_of table k s.party.n s.party.l q.loan

    second : ℕ
    second = pick (not all) 17 third

    e1 : (not ((protocol_of table).alive s) ≡ false) × (pick (not (eqb k s.due)) 19 second ≡ 0)
    e1 = pick-else (not ((protocol_of table).alive s)) 20 (pick (not (eqb k s.due)) 19 second) 0 (λ x. omega arith) h

    e2 : (not (eqb k s.due) ≡ false) × (second ≡ 0)
    e2 = pick-else (not (eqb k s.due)) 19 second 0 (λ x. omega arith) e1.1

    e3 : (not all ≡ false) × (third ≡ 0)
    e3 = pick-else (not all) 17 third 0 (λ x. omega arith) e2.1

    al : (protocol_of table).alive s ≡ true
    al = not-false _ e1.0

    du : k ≡ s.due
    du = eqb-true _ _ (not-false _ e2.0)

    s6 : (a && b && c && d && e && parts_in s.party q) ≡ true
    s6 = not-false _ e3.0

    s5 : (a && b && c && d && e) ≡ true
    s5 = and_first (a && b && c && d && e) _ s6

    s4 : (a && b && c && d) ≡ true
    s4 = and_first (a && b && c && d) _ s5

    s3 : (a && b && c) ≡ true
    s3 = and_first (a && b && c) _ s4

    s2 : (a && b) ≡ true
    s2 = and_first (a && b) _ s3

-- ---- the tests, one by one
module _ (s : Session) (k : ℕ) (q : Lent) (w : List ℕ) where
  pub reason-over : (protocol_of table).alive s ≡ false → 20 ≡ reason_of (protocol_of table) s k q w
  unfolding reason_of
  reason-over h = rw (h) refl

  module _ (al : (protocol_of table).alive s ≡ true) where
    pub reason-turn : k ≢ s.due → 19 ≡ reason_of (protocol_of table) s k q w
    unfolding reason_of
    reason-turn ne = rw (al, ne_eqb k s.due ne) refl

    module _ (du : k ≡ s.due) where
      abbrev fit : Bool
      fit =
          lengths_fit s.party.n s.party.l k (length w) (length q.out) (length q.starts) (length q.lens)
          (length q.missing)

      lengths-are : lengths_due ((protocol_of table).work_len s.party) (out_len_of table k s.party) s.party q w
          ≡ (fit && parts_in s.party q)
      unfolding lengths_due lengths_fit
      lengths-are =
          ap₂ (λ x y. eqb (length w) x && eqb (length q.out) y && eqb (length q.starts) s.party.n
          && eqb (length q.lens) s.party.n && eqb (length q.missing) s.party.n && parts_in s.party q)
          (work-is s.party ∙ work-any s.party)
          (out-len-is s.party.n s.party.l s.party.i k (alive-ranges s al).range
          (ap (is_round s.party.n) du ∙ alive-round s al))

      left : (b : Bool) → (fit && parts_in s.party q) ≡ b
          → reason_of (protocol_of table) s k q w ≡ pick (not b) 17 (lent_of table k s.party.n s.party.l q.loan)
      unfolding reason_of
      left b e = rw (al, eq-eqb k s.due du, lengths-are, e) refl

      pub reason-lengths : fit ≡ false → 17 ≡ reason_of (protocol_of table) s k q w
      reason-lengths h = sym (left false (ap (λ b. b && parts_in s.party q) h))

      pub reason-parts : parts_in s.party q ≡ false → 17 ≡ reason_of (protocol_of table) s k q w
      reason-parts h = sym (left false (ap (λ b. fit && b) h ∙ and-false fit))

      pub reason-lent : fit ≡ true → parts_in s.party q ≡ true → (x : ℕ) → x ≡ lent_of table k s.party.n s.party.l q.loan
          → x ≡ reason_of (protocol_of table) s k q w
      reason-lent h p x e = e ∙ sym (left true (ap₂ ◌&&◌ h p))

-- what `parts_in` asks for
pub fit-lengths : (n l k w o a b m : ℕ) → lengths_fit n l k w o a b m ≡ true → (a ≡ n) × (b ≡ n) × (m ≡ n)
unfolding lengths_fit
fit-lengths n l k w o a b m h =
    let x = eqb w (work_len (frame n l 0)) && eqb o (out_len n l k) in
    let h4 = and_first (x && eqb a n && eqb b n) _ h in (
      eqb-true _ _ (and_second x (eqb a n) (and_first (x && eqb a n) _ h4)),
      eqb-true _ _ (and_second (x && eqb a n) (eqb b n) h4),
      eqb-true _ _ (and_second (x && eqb a n && eqb b n) (eqb m n) h),
    )
