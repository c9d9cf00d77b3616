-- DEMAND 3. The premises on the inputs are in Premises.antt, the lists of calls in engine/World.antt, the claim in specs/Theorem.antt.
-- It is proved of every list; and there are lists that meet its premises and end with all boxes done, also where one box is lent a seed and the others
-- all strings. It has no premise on the permutation: all boxes draw it from the one joint seed that they tossed (Toss.antt, `one-joint`).
use Rattle.std.specs.Prelude.{◌≡◌, refl, Bool, true, false, ◌&&◌, ◌≢◌, ℕ, ◌*◌, ◌<◌, eqb}
use Rattle.std.proofs.Math.Path.{sym, ap, ap₂}
use Rattle.std.proofs.Common.{◌∙◌, subst, arith, ne_eqb}
use mathlib.Core.List.{List, [], ◌∷◌}
use Rattle.std.proofs.Math.ListN.{length}
use Rattle.lists.specs.Pick.{pick}
use Rattle.lists.specs.All.{all_of}
use Rattle.algebra.specs.Group.{bits, sel}
use Rattle.algebra.specs.Sum.{sum, sum-ext}
use Rattle.algebra.specs.Share.{total}
use Rattle.block.specs.Group.{blocks}
use Rattle.share.specs.Record.{bit_at}
use Rattle.share.specs.Lent.{lent_len, lent_at}
use Rattle.share.specs.Parties.{lent_shared}
use Rattle.plan.specs.Plan.{InRange, r_len}
use Rattle.engine.specs.Step.{Loan, Lent}
use Rattle.engine.specs.World.{In, All, Box, Call, opening, turn, Scene, Done}
use Rattle.engine.specs.Engine.{Duty}
use Rattle.engine.proofs.EngineLaws.{every_call, every-done, every-long}
use Rattle.engine.specs.Live.{Cast}
use Rattle.engine.proofs.LiveLaws.{AsCast, lent_for, robin, fair-robin, robin-done, robin-lends, robin-has}
use Rattle.engine.specs.Area.{mem, also}
use Rattle.engine.specs.Order.{echo_in, next_in}
use Rattle.engine.specs.Plain.{next_of, number_of, steps_of}
use Rattle.engine.specs.Honest.{Lawful, plain_after, Honest}
use Rattle.engine.proofs.PlainSession.{HonestOpening, scene_of, Supply, cast_of, cast-lends, duty_of, every-written}
use Rattle.rounds.specs.Area.{work_len}
use Rattle.rounds.specs.Opening.{Args}
use Rattle.rounds.specs.Fabitn as Fabitn
use Rattle.rounds.specs.FabitnLaws.{seed-long}
use Rattle.honest.specs.Subject.{opener, subject}
use Rattle.honest.specs.Script as S
use Rattle.honest.specs.Inputs.{Run, deltas, lent_alphas, lent_betas, Opened, Boxes}
use Rattle.honest.specs.Course.{lawful}
use Rattle.honest.specs.Opening.{Given, Agree, played}
use Rattle.honest.proofs.OpeningLaws.{total-keeps, boxes-for, counts_of, counts-make, honest-opening}
use Rattle.honest.proofs.Supply.{Lists, zero_run, Forms, supply, supply-r, one_seed, one_seed_lem}
use Rattle.honest.specs.Premises.{Premises}
use Rattle.honest.proofs.PremisesLaws.{opened_of, zero-premises}
use Rattle.honest.specs.Values.{LeakyTriples}
use Rattle.honest.proofs.Toss.{recv-1, list-1, send-3, recv-3, send-4, recv-4, send-5, recv-5}
use Rattle.honest.proofs.Fabitn.{send-6, recv-6, list-6}
use Rattle.honest.proofs.Fashare.{send-8, recv-8, list-8, send-10, recv-10, list-10, send-12, recv-12, list-12}
use Rattle.honest.proofs.Haand.{send-14, recv-14}
use Rattle.honest.proofs.Flaand.{leaky-triple, send-15, recv-15, list-15, send-17, recv-17, list-17, send-19, recv-19, list-19}
use Rattle.honest.proofs.Buckets.{send-21, recv-21}
use Rattle.honest.proofs.Beaver.{send-22, last-22}
use Rattle.honest.proofs.Results.{length-result, good-result, total-result}
use Rattle.honest.specs.Theorem as C
use Rattle.honest.specs.Theorem.{session, LentR, LentAs}

-- The scene of a run with the premises, and what is claimed of it.
module _ (R : Run) (P : Premises R) where
  open R use {n, l, inputs}

  abbrev pub scene : Scene Args
  scene =
      scene_of subject n l opener (Agree R) (Given R) (lawful n l (opened_of R P).range) (counts_of R (opened_of R P))
      (counts-make R (opened_of R P))

  abbrev pub Fine : List (Call Args) → Type 0
  Fine = C.Fine R scene

  abbrev pub Stands : List (Call Args) → ℕ → Box → Type 0
  Stands = C.Stands R scene

  abbrev pub Claim : List (Call Args) → Type 0
  Claim = C.Claim R scene

-- ---- all rounds are honest
module _ (R : Run) (X : Boxes R) where
  open R use {n, l}

  pub honest : Honest subject (S.script R) n l
  unfolding plain_after echo_in mem all_of
  honest = record {
    plain = 1 ∷ 3 ∷ 4 ∷ 5 ∷ 6 ∷ 8 ∷ 10 ∷ 12 ∷ 14 ∷ 15 ∷ 17 ∷ 19 ∷ 21 ∷ [];
    whole = refl;
    recv =
        (also (recv-1 R X)
        (also (recv-3 R X)
        (also (recv-4 R X)
        (also (recv-5 R X)
        (also (recv-6 R X)
        (also (recv-8 R X)
        (also (recv-10 R X)
        (also (recv-12 R X)
        (also (recv-14 R X)
        (also (recv-15 R X)
        (also (recv-17 R X)
        (also (recv-19 R X)
        (also (recv-21 R X)
        tt)))))))))))));
    send =
        (also (send-3 R X)
        (also (send-4 R X)
        (also (send-5 R X)
        (also (send-6 R X)
        (also (send-8 R X)
        (also (send-10 R X)
        (also (send-12 R X)
        (also (send-14 R X)
        (also (send-15 R X)
        (also (send-17 R X)
        (also (send-19 R X)
        (also (send-21 R X)
        (also (send-22 R X)
        tt)))))))))))));
    lists =
        (also (list-1 R X)
        (also (list-6 R X)
        (also (list-8 R X)
        (also (list-10 R X)
        (also (list-12 R X)
        (also (list-15 R X)
        (also (list-17 R X)
        (also (list-19 R X)
        tt))))))));
    last = last-22 R X (leaky-triple R X);
  }

steps-are : (two : Bool) → steps_of subject two ≡ pick two 14 22
unfolding steps_of
steps-are true = refl
steps-are false = refl

-- r is due with the call for round 5, which writes `fabitn`: it is the fourth of two boxes, and else the fifth
fabitn-next : (two : Bool) → next_of subject two 5 ≡ 6
unfolding next_in echo_in mem
fabitn-next true = refl
fabitn-next false = refl

fabitn-fifth : (two : Bool) → number_of subject two (pick two 3 4) ≡ 5
unfolding number_of next_in echo_in mem
fabitn-fifth true = refl
fabitn-fifth false = refl

fifth-in : (two : Bool) → pick two 3 4 < steps_of subject two
unfolding steps_of
fifth-in true = omega arith
fifth-in false = omega arith

and_is : (a b : Bool) → sel bits a b ≡ (a && b)
and_is true b = refl
and_is false b = refl

module _ (R : Run) (P : Premises R) where
  open R use {n, l, inputs}

  abbrev O : Opened R
  O = opened_of R P

  -- with the inputs as they are kept
  abbrev R' : Run
  R' = played R

  abbrev X' : Boxes R'
  X' = boxes-for R O

  abbrev W : Lawful subject n l
  W = lawful n l O.range

  abbrev H : Honest subject (S.script R') n l
  H = honest R' X'

  abbrev opens : HonestOpening subject (S.script R') n l opener (Agree R) (Given R) W (counts_of R O) (counts-make R O)
  opens = honest-opening R O W

  abbrev duty : Duty (scene R P)
  duty = duty_of subject (S.script R') n l opener (Agree R) (Given R) W (counts_of R O) (counts-make R O) H opens

  abbrev triples : LeakyTriples R'
  triples = leaky-triple R' X'

  abbrev result : ℕ → List ℕ
  result b = S.result_of R' b

  -- what a done box wrote last
  wrote-is : (cs : List (Call Args)) → Fine R P cs → (b : ℕ) (x : Box) → Stands R P cs b x
      → Done session x.session → (b < n) × (x.wrote ≡ result b)
  wrote-is = every-written subject (S.script R') n l opener (Agree R) (Given R) W (counts_of R O) (counts-make R O) H opens

  mac-rule : (j k : ℕ) → j < n → k < n → j ≢ k → (t : ℕ) → t < l
      → (lent_at (result j) (t * lent_len n)).mac k
      ≡ blocks.op ((lent_at (result k) (t * lent_len n)).key j) (sel blocks (bit_at (result j) (t * lent_len n)) (deltas R k))
  unfolding lent_shared lent_at
  mac-rule j k lj lk ne t lt = good-result R' X' t lt triples j k lj lk ne

  and-rule : (t : ℕ) → t < l
      → sum bits n (λ b. bit_at (result b) (t * lent_len n))
      ≡ (sum bits n (λ b. bit_at (inputs b).alpha (t * lent_len n)) && sum bits n (λ b. bit_at (inputs b).beta (t * lent_len n)))
  unfolding lent_shared
  and-rule t lt =
      total-result R' X' t lt triples
      ∙ ap₂ (sel bits)
      (total-keeps R O (λ l. l) (λ b. (inputs b).alpha) (λ b lb. (O.own b lb).alpha-bytes) t lt)
      (total-keeps R O (λ l. l) (λ b. (inputs b).beta) (λ b lb. (O.own b lb).beta-bytes) t lt)
      ∙ and_is (total n (lent_alphas R t)) (total n (lent_betas R t))

  -- ---- DEMAND 3
  pub every-list : (cs : List (Call Args)) → Fine R P cs → Claim R P cs
  unfolding work_len
  every-list cs fair = record {
    exactly = every_call (scene R P) duty cs fair;
    area = λ b x e h. every-long (scene R P) duty cs fair b x e (rw (steps-are (eqb n 2)) h);
    done = λ b x e.
        let h = every-done (scene R P) duty cs fair b x e in
        (λ d. h.0 d ∙ steps-are (eqb n 2), λ r. h.1 (r ∙ sym (steps-are (eqb n 2))));
    records = λ b x e d.
        let p = wrote-is cs fair b x e d in
        ap length p.1 ∙ length-result R' X' b p.0;
    macs = λ j k x y e g ne d d' t lt.
        let p = wrote-is cs fair j x e d in
        let q = wrote-is cs fair k y g d' in
        rw (p.1, q.1) (mac-rule j k p.0 q.0 ne t lt);
    ands = λ x all t lt.
        sum-ext bits n _ _ (λ b lb.
        ap (λ (s : List ℕ). bit_at s (t * lent_len n)) (wrote-is cs fair b (x b) (all b lb).0 (all b lb).1).1)
        ∙ and-rule t lt;
  }

  -- ---- its premises can be met, and all boxes come to be done, whichever form of the strings each box is lent
  module _ (forms : ℕ → List ℕ) (F : Forms R forms) where
    abbrev supplied : Supply subject n l opener (Agree R) (Given R) W (counts_of R O) (counts-make R O)
    supplied = supply R forms F W (counts_of R O) (counts-make R O)

    abbrev cast : Cast (scene R P)
    cast = cast_of subject n l opener (Agree R) (Given R) W (counts_of R O) (counts-make R O) supplied

    r-lent : (b : ℕ) (q : Loan) → q ≡ cast.lends b 5 → q.r ≡ forms b
    r-lent b q e =
        ap (λ (q : Loan). q.r) (e ∙ cast-lends subject n l opener (Agree R) (Given R) W (counts_of R O) (counts-make R O) supplied b 5)
        ∙ ap (λ j. (supplied.lends b j).r) (fabitn-next (eqb n 2)) ∙ supply-r R forms F W (counts_of R O) (counts-make R O) b

    as_lent : (b : ℕ) (cs : List (Call Args)) → All (AsCast (scene R P) duty cast) cs → All (LentR b (forms b)) cs
    as_lent b [] h = tt
    as_lent b (opening c a ∷ cs) h = (tt, as_lent b cs h.1)
    as_lent b (turn c k q ∷ cs) h = (
      λ ec ek. r-lent b q.loan (h.0 ∙ ap (λ c. cast.lends c k) ec ∙ ap (cast.lends b) ek),
      as_lent b cs h.1,
    )

    abbrev calls : List (Call Args)
    calls = robin (scene R P) duty cast (steps_of subject (eqb n 2))

    lent-as : (b : ℕ) → b < n → LentAs b (forms b) calls
    lent-as b lb =
        let d : ℕ = pick (eqb n 2) 3 4 in
        let q : Lent = lent_for (scene R P) duty cast d b in
        record {
          one = (
            q,
            subst (λ k. In {A = Call Args} (turn b k q) calls) (fabitn-fifth (eqb n 2))
                (robin-has (scene R P) duty cast b d lb (fifth-in (eqb n 2))),
          );
          each = as_lent b calls (robin-lends (scene R P) duty cast);
        }

    pub some-list : (cs : List (Call Args)) × Fine R P cs × ((b : ℕ) → b < n → (x : Box) × Stands R P cs b x × Done session x.session)
        × ((b : ℕ) → b < n → LentAs b (forms b) cs)
    some-list = (
      calls,
      fair-robin (scene R P) duty cast,
      robin-done (scene R P) duty cast,
      lent-as,
    )

-- for every n, l, seed, and counts of each box whose sum is l, equal or not (`singles`, `unlike`), there are inputs as demand 3 has them, and
-- a list after which all boxes are done, in which box 0 is lent the seed and every other box all strings: those that are drawn from it
module _ (n l : ℕ) (r : InRange n l) (counts : ℕ → List ℕ) (c : Lists n l counts) (seed : List ℕ) (h : length seed ≡ 16) where
  pub some-run : (cs : List (Call Args)) × Fine (zero_run n l counts seed) (zero-premises n l r counts c seed) cs
      × ((b : ℕ) → b < n → (x : Box) × Stands (zero_run n l counts seed) (zero-premises n l r counts c seed) cs b x × Done session x.session)
      × LentAs 0 seed cs × ((b : ℕ) → 0 < b → b < n → LentAs b (Fabitn.strings l seed) cs) × (length (Fabitn.strings l seed) ≡ r_len l)
  some-run =
      let s = some-list (zero_run n l counts seed) (zero-premises n l r counts c seed) (one_seed l seed) (one_seed_lem n l counts seed h) in (
        s.0,
        s.1,
        s.2,
        s.3 0 (omega (arith, r.two)),
        λ b pos lb. subst (λ (x : List ℕ). LentAs b x s.0) (rw (ne_eqb b 0 (λ e. omega arith)) refl) (s.3 b lb),
        seed-long l seed h,
      )
