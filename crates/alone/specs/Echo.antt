-- The echoes: one that a box writes is as long as it should, is formed, and has no fault if the hashes agree. And the table of the rounds
-- is lawful.
use Rattle.std.specs.Prelude.{◌≡◌, Bool, ◌≢◌, drop}
use Rattle.std.proofs.Math.Path.{refl, sym, ap}
use Rattle.std.proofs.Common.{ap₂, ◌∙◌, subst, add-zero, arith, get_or-take, get_or-drop, drop-drop, lt-ltb, le-leb}
use Rattle.std.proofs.Math.Bool.{true, false, ◌&&◌}
use mathlib.Core.List.{List, [], ◌∷◌}
use Prim.Native.Nat.{ℕ, suc, ◌+◌, ◌-◌, ◌*◌, ◌^◌, ◌<◌}
use Rattle.std.proofs.Math.ListN.{length, get_or, take}
use Rattle.std.proofs.Math.Seq.{take-nil}
use Rattle.lists.specs.Pick.{pick}
use Rattle.lists.specs.All.{all_of}
use Rattle.lists.specs.Rows.{chunk, length-chunk}
use Rattle.lists.specs.Same.{same-eq}
use Rattle.algebra.specs.Sum.{neq, neq-true, Same, apart, apart?}
use Rattle.message.specs.declared.Kind.TheVariants.{Options}
use Rattle.message.specs.Format.{item_at}
use Rattle.encode.specs.Encode.{encode, none_item, some_item}
use Rattle.encode.specs.Coded.{Coded, coded_none, coded-some}
use Rattle.encode.specs.RoundTrip.{Trip, trip, whole_length}
use Rattle.plan.specs.Plan.{kind_of, count_due, list_len, msg_len, InRange}
use Rattle.engine.specs.StepLaws.{scan-none}
use Rattle.engine.specs.Area.{mem}
use Rattle.engine.specs.declared.Frame.{Frame}
use Rattle.engine.specs.Step.{frame}
use Rattle.engine.specs.Order.{echo_in, round_in, next_in}
use Rattle.engine.specs.Plain.{Echo, Table, number_of, steps_of}
use Rattle.engine.specs.Honest.{EchoLaws, order_test, course_test, Lawful}
use Rattle.rounds.specs.Area.{sizes, size_of}
use Rattle.rounds.specs.Echo.{echo_msg, entry_fault, echo_fault, echo}
use Rattle.rounds.specs.EchoLaws.{entries-length, echo-len}
use Rattle.rounds.specs.Table.{fine, table}

-- ---- a list that begins with a byte
tail-take : {A : Type 0} (a : ℕ) (x : List A) → drop 1 (take (suc a) x) ≡ take a (drop 1 x)
tail-take a [] = sym (take-nil a)
tail-take a (y ∷ x) = refl

-- ---- an echo's entries
module _ (n i r : ℕ) (rows : List ℕ) (h : length rows ≡ n * 16) where
  abbrev opt : Bool → ℕ → List ℕ
  opt b k = pick b (1 ∷ chunk 16 k rows) (0 ∷ [])

  abbrev entry : ℕ → List ℕ
  entry k = opt (neq i k && neq r k) k

  row_len : (k : ℕ) → k < n → length (chunk 16 k rows) ≡ 16
  row_len k l = length-chunk 16 n k rows l (omega arith)

  coded-opt : (b : Bool) (k : ℕ) → k < n → Coded Options (opt b k)
  unfolding some_item none_item
  coded-opt true k l = coded-some (chunk 16 k rows) (row_len k l)
  coded-opt false k l = coded_none

  echo-trip : n < 2 ^ 64 → Trip Options n entry (encode n entry)
  echo-trip small = trip Options n entry small (λ k l. coded-opt (neq i k && neq r k) k l)

  echo-length : i < n → r < n → i ≢ r → length (encode n entry) ≡ 8 + n + 16 * (n - 2)
  echo-length li lr ne = whole_length n entry ∙ entries-length n i r rows h li lr ne ∙ echo-len n

  -- an entry that is there is read as the row it was written of
  entry-passes : n < 2 ^ 64 → (own : List ℕ) (k : ℕ) → k < n → i ≢ k → r ≢ k → chunk 16 k own ≡ chunk 16 k rows
      → entry_fault own (encode n entry) k ≡ 0
  unfolding entry_fault
  entry-passes small own k l ni nr e =
      let m : List ℕ = encode n entry in
      let w = echo-trip small in
      let a : ℕ = item_at Options m k in
      let is : entry k ≡ 1 ∷ chunk 16 k rows = ap (λ b. opt b k) (ap₂ ◌&&◌ (neq-true i k ni) (neq-true r k nr)) in
      let p : take 17 (drop a m) ≡ 1 ∷ chunk 16 k rows =
      ap (λ c. take c (drop a m)) (sym (ap length is ∙ ap suc (row_len k l))) ∙ w.item k l ∙ is in
      let first : get_or m a 0 ≡ 1 =
      ap (λ c. get_or m c 0) (sym (add-zero a)) ∙ sym (get_or-drop a m 0 0) ∙ sym (get_or-take 17 (drop a m) 0 0 (omega arith))
      ∙ ap (λ (x : List ℕ). get_or x 0 0) p in
      let rest : take 16 (drop (a + 1) m) ≡ chunk 16 k own =
      ap (take 16) (sym (drop-drop 1 a m)) ∙ sym (tail-take 16 (drop a m)) ∙ ap (drop 1) p ∙ sym e in
      rw (first, same-eq (take 16 (drop (a + 1) m)) (chunk 16 k own) rest) refl

pub echo-laws : (n : ℕ) → n < 2 ^ 64 → EchoLaws echo n
unfolding echo echo_msg echo_fault msg_len list_len kind_of count_due
echo-laws n small = record {
  lens = λ i r li lr ne rows h. echo-length n i r rows h li lr ne;
  formed = λ i r li lr ne rows h. (echo-trip n i r rows h small).form-is;
  passes = λ i j li lj ne own sent ho hs e. scan-none n _ (λ k lk. go i j own sent hs e k lk (neq i k) (apart? i k) (neq j k) (apart? j k));
}
  where
    go : (i j : ℕ) (own sent : List ℕ) → length sent ≡ n * 16 → ((k : ℕ) → k < n → i ≢ k → j ≢ k → chunk 16 k own ≡ chunk 16 k sent)
        → (k : ℕ) → k < n → (p : Bool) → Same i k p → (q : Bool) → Same j k q
        → ◌≡◌ {A = ℕ} (pick (p && q) (entry_fault own (echo_msg n j sent i) k) 0) 0
    go i j own sent hs e k lk false s q t = refl
    go i j own sent hs e k lk true s false t = refl
    go i j own sent hs e k lk true (apart ni) true (apart nj) = entry-passes n j i sent hs small own k lk nj ni (e k lk ni nj)

-- ---- the table
-- a table whose ranges and echoes are these, with an order of its rounds that passes the tests
pub lawful-by : (T : Table) (n l : ℕ) → InRange n l → T.fine ≡ fine → T.echo ≡ echo → order_test T ≡ true
    → ((two : Bool) → course_test T two ≡ true)
    → ((i : ℕ) → T.size (frame n l i) T.count ≡ 2) → ((i : ℕ) → T.size (frame n l i) (suc T.count) ≡ n * 16) → Lawful T n l
unfolding fine
lawful-by T n l I f e order course pending hashes = record {
  fine = λ i li. ap (λ (g : Frame → Bool). g (frame n l i)) f
      ∙ simp (le-leb 2 n I.two, le-leb n 8 I.eight, lt-ltb i n li, le-leb 1 l I.one, le-leb l 300000 I.most);
  order = order;
  course = course;
  size-pending = pending;
  size-hashes = hashes;
  echo = subst (λ (E : Echo). EchoLaws E n) (sym e) (echo-laws n (omega (arith, I.eight)));
}

course-ok : (two : Bool) → course_test table two ≡ true
unfolding course_test steps_of round_in number_of next_in echo_in mem all_of
course-ok true = refl
course-ok false = refl

pub lawful : (n l : ℕ) → InRange n l → Lawful table n l
unfolding order_test echo_in mem all_of size_of sizes
lawful n l I = lawful-by table n l I refl refl refl course-ok (λ i. refl) (λ i. refl)
