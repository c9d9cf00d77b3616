-- "18 no longer occurs" (02, order 6): no round call answers it, whatever session and memory it is given. The number stays reserved.
use Rattle.std.specs.Prelude.{◌≡◌, refl, Bool, true, false, not, ◌&&◌, ◌≢◌, List, ℕ, zero, suc, ◌+◌, ◌<◌, length, get_or, take, drop, ltb, leb, eqb}
use Rattle.std.proofs.Common.{sym, ap, ◌∙◌, arith, ltb-true}
use Rattle.lists.specs.Pick.{pick}
use Rattle.lists.specs.All.{true-false, and_both}
use Rattle.lists.specs.Rows.{chunk}
use Rattle.lists.specs.Same.{same?}
use Rattle.algebra.specs.Sum.{neq}
use Rattle.message.specs.declared.Kind.{Kind}
use Rattle.message.specs.declared.Kind.TheVariants.{Options}
use Rattle.message.specs.Format.{item_at, Decoding, Undecoded, Value, counts_due, read_of, form_by, form_of}
use Rattle.batches.specs.Batches.{whole}
use Rattle.engine.specs.declared.Frame.{Frame}
use Rattle.engine.specs.declared.Session.{Session}
use Rattle.engine.specs.Step.{Lent, Fault, none?, Reply, Accepted, Refused, Outcome, other, mask, gone, part, or_else, scan, by_party, form_fault, fault_of, accepted}
use Rattle.engine.specs.Step.{lengths_due, reason_of, round_spec}
use Rattle.engine.proofs.RoundLaws.{round-cases, round-faults, due_of_lem}
use Rattle.engine.specs.Plain.{waiting, prior, is_echo, next_of, to_echo, form_at, pending, hashes, echo_check, check_of, rule_of, protocol_of, lent_of}
use Rattle.engine.specs.Area.{mem, sec}
use Rattle.engine.specs.Order.{round_in}
use Rattle.plan.specs.Plan.{FABITN, the_rounds}
use Rattle.rounds.specs.Area.{ROUNDS_OWN, size_of}
use Rattle.rounds.specs.Echo.{entry_fault, echo_fault, echo}
use Rattle.rounds.specs.Fabitn.{r_fits}
use Rattle.rounds.specs.Table.{table, fine, judge, faults, lent}
use Rattle.rounds.specs.JudgeLaws.{Found, judge-found}

-- ---- the reasons, in their order
none_is : (over other long lent : Bool) → ◌≢◌ {A = ℕ} (pick over 20 (pick other 19 (pick long 17 (pick lent 0 17)))) 18
none_is true other long lent e = omega arith
none_is false true long lent e = omega arith
none_is false false true lent e = omega arith
none_is false false false true e = omega arith
none_is false false false false e = omega arith

pub never-18 : (s : Session) (k : ℕ) (q : Lent) (w : List ℕ) → reason_of (protocol_of table) s k q w ≢ 18
unfolding reason_of lent_of lent
never-18 s k q w =
    none_is (not ((protocol_of table).alive s)) (not (eqb k s.due))
    (not (lengths_due ((protocol_of table).work_len s.party) (((protocol_of table).rule k).out_len s.party) s.party q w))
    (pick (eqb (next_of table (eqb s.party.n 2) k) FABITN) (r_fits s.party.l (length q.loan.r)) (eqb (length q.loan.r) 0))

-- ---- received faults
-- another number
abbrev Free : ℕ → Type 0
Free c = c ≢ 18

zero-free : Free 0
zero-free e = omega arith

free-pick : (b : Bool) (c d : ℕ) → Free c → Free d → Free (pick b c d)
free-pick true c d hc hd = hc
free-pick false c d hc hd = hd

either : (b : Bool) (x y : Fault) → Free x.code → Free y.code → Free (pick b x y).code
either true x y hx hy = hx
either false x y hx hy = hy

free_or : (x y : Fault) → Free x.code → Free y.code → Free (or_else x y).code
unfolding or_else
free_or x y hx hy = either (eqb x.code 0) y x hy hx

free-scan : (c : ℕ → ℕ) → ((k : ℕ) → Free (c k)) → (m : ℕ) → Free (scan m c).code
unfolding scan
free-scan c h zero = zero-free
free-scan c h (suc m) = free_or (scan m c) (record { code = c m; party = m }) (free-scan c h m) (h m)

free-by : (f : Frame) (c : ℕ → ℕ) → ((k : ℕ) → Free (c k)) → Free (by_party f c).code
unfolding by_party
free-by f c h = free-scan _ (λ k. free-pick (other f k) (c k) 0 (h k) zero-free) f.n

-- the form: 14, 13, 21, 6
free-form : (K : Kind) (c : ℕ) (m : List ℕ) → Free (form_of K c m)
unfolding form_of form_by
free-form K c m = go (read_of K m)
  where
    go : (d : Decoding) → Free (form_by K c (length m) d)
    go Undecoded = λ e. omega arith
    go (Value v used) =
        free-pick (eqb used (length m)) _ 21 (free-pick (counts_due K c v) 0 6 zero-free (λ e. omega arith)) (λ e. omega arith)

free-formed : (f : Frame) (k : ℕ) (q : Lent) (j : ℕ) → Free (form_fault (rule_of table k) f q j)
unfolding form_fault form_at echo
free-formed f k q j =
    free-pick (gone q j) 14 _ (λ e. omega arith) (free-pick (is_echo table k) _ _ (free-form _ _ (part q j)) (free-form _ _ (part q j)))

-- an echo's: 3, 7
free-entry : (rows m : List ℕ) (k : ℕ) → Free (entry_fault rows m k)
unfolding entry_fault
free-entry rows m k =
    free-pick (eqb (get_or m (item_at Options m k) 0) 0) 3 _ (λ e. omega arith)
    (free-pick (same? (take 16 (drop (item_at Options m k + 1) m)) (chunk 16 k rows)) 0 7 zero-free (λ e. omega arith))

free-echo : (n i j : ℕ) (rows m : List ℕ) → Free (echo_fault n i j rows m)
unfolding echo_fault
free-echo n i j rows m = free-scan _ (λ k. free-pick (neq i k && neq j k) (entry_fault rows m k) 0 (free-entry rows m k) zero-free) n

-- the content's: those of the table
lists-none : (b : Bool) (x y : List ℕ) → mem 18 x ≡ false → mem 18 y ≡ false → mem 18 (pick b x y) ≡ false
lists-none true x y hx hy = hx
lists-none false x y hx hy = hy

table_none : (k : ℕ) → mem 18 (faults k) ≡ false
unfolding faults mem
table_none k =
    lists-none (eqb k 3) _ _ refl
    (lists-none (eqb k 5) _ _ refl
    (lists-none (eqb k 6) _ _ refl
    (lists-none (eqb k 10) _ _ refl
    (lists-none (eqb k 12) _ _ refl
    (lists-none (eqb k 19) _ _ refl
    (lists-none (eqb k 21) _ _ refl
    (lists-none (eqb k 22) _ _ refl refl)))))))

in_table : (k c : ℕ) → mem c (faults k) ≡ true → Free c
in_table k c h e = true-false (sym h ∙ ap (λ c. mem c (faults k)) e ∙ table_none k)

free-waiting : (k n : ℕ) (x : List ℕ) → Free (waiting (faults k) n x).code
unfolding waiting
free-waiting k n x = go (mem (get_or x 0 0) (faults k)) refl (ltb (get_or x 1 0) n)
  where
    go : (a : Bool) → mem (get_or x 0 0) (faults k) ≡ a → (b : Bool)
        → Free (pick (a && b) (record { code = get_or x 0 0; party = get_or x 1 0 }) none?).code
    go true e true = in_table k (get_or x 0 0) e
    go true e false = zero-free
    go false e b = zero-free

free-judged : (f : Frame) → f.i < f.n → (k : ℕ) (w : List ℕ) (m : ℕ → List ℕ) → Free (judge k f w m).code
unfolding Found
free-judged f h k w m e = in_table k (judge k f w m).code (judge-found f h k w m (λ z. omega arith)).0 e

free-pending : (f : Frame) (k : ℕ) (w : List ℕ) → Free (pending table k f w).code
unfolding pending
free-pending f k w = free-waiting (prior k) f.n (sec (size_of f) ROUNDS_OWN w)

free-check : (f : Frame) → f.i < f.n → (k : ℕ) (w : List ℕ) (m : ℕ → List ℕ) → Free (check_of table k f w m).code
unfolding check_of echo_check echo
free-check f h k w m =
    let told : Fault = by_party f (λ j. echo_fault f.n f.i j (hashes table f w) (m j)) in
    either (is_echo table k) (or_else told (pending table k f w)) (pick (to_echo table (eqb f.n 2) k) none? (judge k f w m))
    (free_or told (pending table k f w) (free-by f _ (λ j. free-echo f.n f.i j (hashes table f w) (m j))) (free-pending f k w))
    (either (to_echo table (eqb f.n 2) k) none? (judge k f w m) zero-free (free-judged f h k w m))

free-fault : (f : Frame) → f.i < f.n → (k : ℕ) (q : Lent) (w : List ℕ) → Free (fault_of (rule_of table k) f q w).code
unfolding fault_of
free-fault f h k q w =
    free_or (by_party f (form_fault (rule_of table k) f q)) (check_of table k f w (mask f (part q))) (free-by f _ (free-formed f k q))
    (free-check f h k w (mask f (part q)))

-- ---- the call
-- a session that is alive has an own number below n
own_below : (s : Session) → (protocol_of table).alive s ≡ true → s.party.i < s.party.n
unfolding fine
own_below s h =
    let f : Frame = s.party in
    let some : Bool = leb 2 f.n && leb f.n 8 in
    let own : Bool = ltb f.i f.n in
    let one : Bool = leb 1 f.l in
    let a = and_both (some && own && one && leb f.l 300000 && whole f.l s.counts) (round_in the_rounds (eqb f.n 2) s.due) h in
    let d = and_both (some && own && one && leb f.l 300000) (whole f.l s.counts) a.0 in
    let b = and_both (some && own && one) (leb f.l 300000) d.0 in
    let c = and_both (some && own) one b.0 in
    ltb-true _ _ (and_both some own c.0).1

-- what a reply tells
abbrev number_of : Reply → ℕ
number_of Accepted = 0
number_of (Refused c p) = c

numbers : {c d p r : ℕ} → Refused c p ≡ Refused d r → c ≡ d
numbers e = ap number_of e

accepted-not : {p : ℕ} → Accepted ≡ Refused 18 p → ⊥
accepted-not e = let z : ◌≡◌ {A = ℕ} 0 18 = ap number_of e in omega arith

pub no-18 : (s : Session) (k : ℕ) (q : Lent) (w : List ℕ) (p : ℕ) → (round_spec (protocol_of table) s k q w).reply ≢ Refused 18 p
unfolding accepted
no-18 s k q w p =
    round-cases (protocol_of table) s k q w (λ (o : Outcome). o.reply ≢ Refused 18 p)
    (λ ne e. never-18 s k q w (numbers e))
    (λ z ne e.
    free-fault s.party (own_below s (due_of_lem (protocol_of table) s k q w z).alive) k q w
    (numbers (sym (ap (λ (o : Outcome). o.reply) (round-faults (protocol_of table) s k q w z ne)) ∙ e)))
    (λ z f e. accepted-not e)
