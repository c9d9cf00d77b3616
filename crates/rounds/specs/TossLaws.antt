-- Laws of the tosses: the bytes that are committed to, the messages, and the seeds that are added up party by party.
use Rattle.std.specs.Prelude.{◌≡◌, ◌≢◌, refl, Bool, true, false, drop, set, replicate}
use Rattle.std.proofs.Math.Path.{sym, ap, ap₂}
use Rattle.std.proofs.Common.{◌∙◌, add-one, arith, length-append, length-drop, length-take-le}
use mathlib.Core.List.{List, [], ◌∷◌, ◌++◌, append_assoc}
use Prim.Native.Nat.{ℕ, ◌+◌, ◌-◌, ◌*◌, ◌<◌, ◌≤◌}
use Rattle.std.proofs.Math.ListN.{length, get_or}
use Rattle.std.proofs.lemmas.List.{get_or-replicate, set_at}
use Rattle.std.proofs.Math.Seq.{ext_get_or}
use Rattle.std.specs.Int.Bits.{bit_xor, xor_zero_r}
use borrow.Rule.Slice.PartMut.{put_mid}
use Rattle.lists.specs.Pick.{pick}
use Rattle.lists.specs.Over.{tab, length-tab, get_or-tab}
use Rattle.lists.specs.Rows.{chunk}
use Rattle.lists.specs.Sect.{get}
use Rattle.lists.specs.Same.{same?, same-comm}
use Rattle.algebra.specs.Xor.{xor_assoc}
use Rattle.algebra.specs.Group.{numbers, sel, unit-r}
use Rattle.algebra.specs.Sum.{neq, neq-own, neq-true, sum, others}
use Rattle.block.specs.Block.{xor_inplace}
use Rattle.block.specs.Xor.{length-xor, get_or-xor, zeros-xor}
use Rattle.blake3.specs.Tree.{hash}
use Rattle.blake3.specs.ByteLaws.{length-bytes}
use Rattle.encode.specs.Encode.{encode, dm_item}
use Rattle.encode.specs.Coded.{length-encode}
use Rattle.encode.specs.Fields.{encode-bytes}
use Rattle.engine.specs.Step.{frame}
use Rattle.rounds.specs.Toss.{commitment, comm_msg, ver_msg, told, joint_seed}

-- ---- messages
-- 34 zeros, the seed copied over their front, and the two bytes of a number stored behind it
module _ (seed x : List ℕ) (h l : ℕ) (n : length seed ≡ 32) (e : x ≡ seed) where
  pub numbered : set (set (put_mid 0 32 (replicate 34 0) x) 32 h) 33 l ≡ seed ++ (h ∷ l ∷ [])
  numbered =
      ap (λ (y : List ℕ). set (set (y ++ (0 ∷ 0 ∷ [])) 32 h) 33 l) e
      ∙ ap (λ (y : List ℕ). set y 33 l) (set_at seed 0 (0 ∷ []) h 32 n ∙ sym (append_assoc seed (h ∷ []) (0 ∷ [])))
      ∙ set_at (seed ++ (h ∷ [])) 0 [] l 33 (length-append seed (h ∷ []) ∙ ap (λ k. k + 1) n)
      ∙ append_assoc seed (h ∷ []) (l ∷ [])

  pub length-numbered : length (set (set (put_mid 0 32 (replicate 34 0) x) 32 h) 33 l) ≡ 34
  length-numbered = ap length numbered ∙ length-append seed (h ∷ l ∷ []) ∙ ap (λ k. k + 2) n

pub length-commitment : (seed : List ℕ) (j : ℕ) → length (commitment seed j) ≡ 32
unfolding commitment hash
length-commitment seed j = length-bytes _

pub length-ver_msg : (seed : List ℕ) → length (ver_msg seed) ≡ 40
unfolding ver_msg
length-ver_msg seed = length-encode 1 32 (λ t. get_or seed t 0 ∷ []) (λ t l. refl)

-- what is written: a list of one hash, and a list of bytes
pub comm-put : (seed d x : List ℕ) (j : ℕ) → x ≡ encode 1 (λ t. d) → d ≡ commitment seed j → x ≡ comm_msg seed j
unfolding comm_msg
comm-put seed d x j e h = e ∙ ap (λ (y : List ℕ). encode 1 (λ t. y)) h

pub ver-put : (seed x : List ℕ) → x ≡ dm_item seed → length seed ≡ 32 → x ≡ ver_msg seed
unfolding dm_item ver_msg
ver-put seed x e h = e ∙ sym (encode-bytes seed) ∙ ap (λ n. encode n (λ t. get_or seed t 0 ∷ [])) h

pub length-told : (m : List ℕ) → 40 ≤ length m → length (told m) ≡ 32
unfolding told
length-told m h = length-take-le 32 (drop 8 m) (rw length-drop (omega arith))

-- ---- the test
-- the fault of party k: `opening` is the first of these
abbrev pub open_fault : List ℕ → (ℕ → List ℕ) → ℕ → ℕ
open_fault comms m k = pick (same? (commitment (told (m k)) k) (chunk 32 k comms)) 0 2

-- d is the commitment to what party k told, and b says whether it is the one kept
pub open_of : (comms : List ℕ) (m : ℕ → List ℕ) (k : ℕ) (d : List ℕ) (b : Bool) → d ≡ commitment (told (m k)) k
    → b ≡ same? (get (k * 32) 32 comms) d
    → pick b 0 2 ≡ open_fault comms m k
unfolding chunk
open_of comms m k d b e h =
    ap (λ (t : Bool). pick {A = ℕ} t 0 2) (h ∙ same-comm (get (k * 32) 32 comms) d ∙ ap (λ (x : List ℕ). same? x (get (k * 32) 32 comms)) e)

-- ---- the joint seed, party by party
module _ (i : ℕ) (seed : List ℕ) (m : ℕ → List ℕ) where
  -- what party j adds to byte t
  abbrev pub part : ℕ → ℕ → ℕ
  part t j = sel numbers (neq i j) (get_or (told (m j)) t 0)

  -- x is the own seed and those of the parties below k
  pub record Tossed (k : ℕ) (x : List ℕ) : Type 0 where
    pub long : length x ≡ 32
    pub here : (t : ℕ) → t < 32 → get_or x t 0 ≡ bit_xor (get_or seed t 0) (sum numbers k (part t))

  pub tossed-zero : (x : List ℕ) → length seed ≡ 32 → x ≡ xor_inplace (replicate 32 0) seed → Tossed 0 x
  unfolding sum
  tossed-zero x h e =
      let e' : x ≡ seed = e ∙ ap (λ n. xor_inplace (replicate n 0) seed) (sym h) ∙ zeros-xor seed in
      record { long = ap length e' ∙ h; here = λ t l. ap (λ (y : List ℕ). get_or y t 0) e' ∙ sym (xor_zero_r (get_or seed t 0)) }

  added : (b : Bool) (y : List ℕ) (t : ℕ) → t < 32 → get_or (pick b y (replicate 32 0)) t 0 ≡ sel numbers b (get_or y t 0)
  added true y t l = refl
  added false y t l = get_or-replicate 32 t 0 0 l

  turned : (k : ℕ) (x y : List ℕ) → Tossed k x → y ≡ pick (neq i k) (told (m k)) (replicate 32 0) → Tossed (k + 1) (xor_inplace x y)
  unfolding sum
  turned k x y w e = record {
    long = length-xor x y ∙ w.long;
    here = λ t l.
        get_or-xor x y t (omega (arith, w.long))
        ∙ ap₂ bit_xor (w.here t l) (ap (λ (z : List ℕ). get_or z t 0) e ∙ added (neq i k) (told (m k)) t l)
        ∙ xor_assoc (get_or seed t 0) (sum numbers k (part t)) (part t k)
        ∙ ap (λ j. bit_xor (get_or seed t 0) (sum numbers j (part t))) (sym (add-one k));
  }

  pub tossed-turn : (k : ℕ) (x y : List ℕ) → Tossed k x → i ≢ k → y ≡ told (m k) → Tossed (k + 1) (xor_inplace x y)
  tossed-turn k x y w ne e = turned k x y w (e ∙ ap (λ b. pick b (told (m k)) (replicate 32 0)) (sym (neq-true i k ne)))

  -- the own number adds nothing
  pub tossed-own : (k : ℕ) (x : List ℕ) → Tossed k x → i ≡ k → Tossed (k + 1) x
  unfolding sum
  tossed-own k x w e = record {
    long = w.long;
    here = λ t l.
        w.here t l
        ∙ ap (bit_xor (get_or seed t 0))
        (sym (unit-r numbers (sum numbers k (part t))) ∙ ap (λ b. bit_xor (sum numbers k (part t)) (sel numbers b (get_or (told (m k)) t 0))) (sym (neq-own i k e)))
        ∙ ap (λ j. bit_xor (get_or seed t 0) (sum numbers j (part t))) (sym (add-one k));
  }

  pub tossed-end : (n l k : ℕ) (x : List ℕ) → Tossed k x → k ≡ n → x ≡ joint_seed (frame n l i) seed m
  unfolding joint_seed others
  tossed-end n l k x w e =
      ext_get_or 0 x (tab 32 f) (w.long ∙ sym (length-tab 32 f))
      (λ t h. let h' : t < 32 = omega (arith, w.long) in
      w.here t h' ∙ ap (λ j. bit_xor (get_or seed t 0) (sum numbers j (part t))) e ∙ sym (get_or-tab 32 t f 0 h'))
    where
      f : ℕ → ℕ
      f t = bit_xor (get_or seed t 0) (sum numbers n (part t))
