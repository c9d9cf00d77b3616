-- The loop of `add_two`: after j turns the sums of the first j strings have what is chosen added, and nothing else is changed.
use Rattle.std.specs.Prelude.{◌≡◌, Bool, ◌&&◌, List, length, get_or, set}
use Rattle.std.proofs.Math.Path.{refl, ap}
use Rattle.std.proofs.Common.{sym, ap₂, subst, ◌∙◌, arith}
use Rattle.std.proofs.Math.Bool.{true, false}
use Prim.Native.Nat.{ℕ, ◌+◌, ◌-◌, ◌*◌, ◌<◌, ◌≤◌}
use Rattle.std.proofs.Math.ListN.{length-set}
use Rattle.std.specs.Int.Bits.{bit_xor}
use Rattle.std.proofs.Math.Dec.{ltb, leb}
use borrow.Author.Tests.{ltb-true, ltb-false, leb-true, leb-false}
use Rattle.lists.specs.Pick.{pick}
use Rattle.block.specs.declared.Block.{Block}
use Rattle.block.specs.Block.{xor_of}
use Rattle.block.specs.Group.{blocks}
use Rattle.rbits.specs.Chosen.{words_of, pair_at}
use Rattle.rbits.specs.Tables.{lookup, half_at}
use Rattle.rbits.specs.WordLaws.{words-ext, words-self, pair_set, pair-other}
use Rattle.rpairs.specs.Added.{added_from}

module _ (base : ℕ) (acc t win : List ℕ) (h : ℕ) where
  pub record Partly (j : ℕ) (d : List ℕ) : Type 0 where
    pub same : length d ≡ length acc
    pub done : (k : ℕ) → k < j → pair_at d (base + k) ≡ blocks.op (pair_at acc (base + k)) (lookup t (half_at win h k))
    pub before : (p : ℕ) → p < base → pair_at d p ≡ pair_at acc p
    pub after : (p : ℕ) → base + j ≤ p → pair_at d p ≡ pair_at acc p

  pub partly-zero : Partly 0 acc
  partly-zero = record { same = refl; done = λ k v. absurd (omega arith); before = λ p v. refl; after = λ p v. refl }

  -- a turn: b is what string j's word chooses
  pub partly-turn : (j : ℕ) (d : List ℕ) (b : Block) → Partly j d → b ≡ lookup t (half_at win h j) → (base + j) * 2 + 2 ≤ length acc
      → Partly (j + 1)
      (set (set d ((base + j) * 2) (bit_xor (get_or d ((base + j) * 2) 0) b.0)) ((base + j) * 2 + 1)
      (bit_xor (get_or d ((base + j) * 2 + 1) 0) b.1))
  unfolding blocks xor_of
  partly-turn j d b w e l = record {
    same = length-set (set d (i * 2) x) (i * 2 + 1) y ∙ length-set d (i * 2) x ∙ w.same;
    done = λ k v. go k v (ltb k j) refl;
    before = λ p v. pair-other d i p x y (λ q. omega arith) ∙ w.before p v;
    after = λ p v. pair-other d i p x y (λ q. omega arith) ∙ w.after p (omega arith);
  }
    where
      i : ℕ
      i = base + j

      x : ℕ
      x = bit_xor (get_or d (i * 2) 0) b.0

      y : ℕ
      y = bit_xor (get_or d (i * 2 + 1) 0) b.1

      go : (k : ℕ) → k < j + 1 → (c : Bool) → ltb k j ≡ c
          → pair_at (set (set d (i * 2) x) (i * 2 + 1) y) (base + k) ≡ blocks.op (pair_at acc (base + k)) (lookup t (half_at win h k))
      go k v true q =
          let u : k < j = ltb-true k j q in pair-other d i (base + k) x y (λ s. omega arith) ∙ w.done k u
      go k v false q =
          let u : j ≡ k = omega (arith, ltb-false k j q) in
          subst
          (λ n. pair_at (set (set d (i * 2) x) (i * 2 + 1) y) (base + n) ≡ blocks.op (pair_at acc (base + n)) (lookup t (half_at win h n)))
          u
          (pair_set d i x y (omega (arith, w.same)) ∙ ap₂ xor_of (w.after i (omega arith)) e)

  -- after the last turn
  pub partly-end : (j : ℕ) (d : List ℕ) → Partly j d → j ≡ 120 → length acc ≡ 1680 → d ≡ words_of 840 (added_from base acc t win h)
  unfolding added_from
  partly-end j d w e l =
      words-self 840 d (w.same ∙ l)
      ∙ words-ext 840 (pair_at d) (added_from base acc t win h) (λ p v. go p (leb base p) refl (ltb p (base + 120)) refl)
    where
      go : (p : ℕ) (a : Bool) → leb base p ≡ a → (b : Bool) → ltb p (base + 120) ≡ b
          → pair_at d p ≡ pick (a && b) (blocks.op (pair_at acc p) (lookup t (half_at win h (p - base)))) (pair_at acc p)
      go p true ea true eb =
          let q : base + (p - base) ≡ p = omega (arith, leb-true base p ea) in
          ap (pair_at d) (sym q)
          ∙ w.done (p - base) (omega (arith, ltb-true p (base + 120) eb, leb-true base p ea))
          ∙ ap (λ n. blocks.op (pair_at acc n) (lookup t (half_at win h (p - base)))) q
      go p true ea false eb = w.after p (omega (arith, ltb-false p (base + 120) eb))
      go p false ea b eb = w.before p (leb-false base p ea)
