-- What a round call has made sure of, as each round asks for it; and what the round found and kept, as the table says it.
use Rattle.std.specs.Prelude.{◌≡◌, ◌≢◌, ⊤, Result, Ok, List, ℕ, ◌+◌, ◌*◌}
use Rattle.engine.specs.declared.Refusal.{Refusal}
use Rattle.std.proofs.Math.Path.{refl}
use Rattle.std.proofs.Common.{sym, ap, ◌∙◌, subst, arith}
use borrow.Author.Tests.{ne_eqb}
use Rattle.message.specs.declared.Kind.{Kind}
use Rattle.message.specs.declared.Kind.TheVariants.{Items}
use Rattle.message.proofs.FormLaws.{fixed}
use Rattle.plan.specs.Plan.{kind_of, count_due}
use Rattle.engine.specs.declared.Frame.{Frame}
use Rattle.engine.specs.Step.{Fault, mask}
use Rattle.rounds.specs.declared.Mail.{Mail}
use Rattle.rounds.specs.Mail.{letter, Arrived}
use Rattle.rounds.specs.MailLaws.{length-letter}
use Rattle.rounds.specs.EchoLaws.{Received}
use Rattle.rounds.specs.FaultLaws.{Finds}
use Rattle.rounds.specs.Table.{judge, kept}
use Rattle.plain.specs.MaskLaws.{judge-mask, kept-mask}

module _ {f : Frame} {incoming : List ℕ} {mail : Mail} where
  -- items of a fixed size
  arrived-items : {size c count : ℕ} → Received (Items size c) count f incoming mail → Arrived f (8 + count * size) incoming mail
  arrived-items {size} {c} {count} r = record {
    eight = r.arrived.eight;
    inside = r.arrived.inside;
    long = λ k h ne.
        omega (
          arith,
          length-letter r.arrived k h (λ e. ne (sym e)),
          (fixed size c count (letter incoming mail k) (r.formed-is k h ne)).fits,
        );
  }

  -- the round with number k is round j
  pub received-at : (k j : ℕ) → k ≡ j → Received (kind_of f.l k) (count_due f.n f.l k) f incoming mail
      → Received (kind_of f.l j) (count_due f.n f.l j) f incoming mail
  received-at k j e r = subst (λ k. Received (kind_of f.l k) (count_due f.n f.l k) f incoming mail) e r

  pub arrived-at : (k j size c count : ℕ) → k ≡ j → Received (kind_of f.l k) (count_due f.n f.l k) f incoming mail
      → kind_of f.l j ≡ Items size c → count_due f.n f.l j ≡ count → Arrived f (8 + count * size) incoming mail
  arrived-at k j size c count e r hk hc =
      arrived-items {size = size} {c = c} {count = count}
      (subst (λ (K : Kind). Received K count f incoming mail) hk
      (subst (λ (x : ℕ). Received (kind_of f.l j) x f incoming mail) hc (received-at k j e r)))

module _ (f : Frame) (w : List ℕ) (m : ℕ → List ℕ) (k : ℕ) where
  same-judge : (j : ℕ) → k ≡ j → judge k f w (mask f m) ≡ judge j f w m
  same-judge j e = judge-mask f m k w ∙ ap (λ (k : ℕ). judge k f w m) e

  pub found_at : (j : ℕ) (v : Result ⊤ Refusal) → k ≡ j → Finds v (judge j f w m) → Finds v (judge k f w (mask f m))
  found_at j v e h = subst (Finds v) (sym (same-judge j e)) h

  pub clean_at : (j : ℕ) → k ≡ j → (judge k f w (mask f m)).code ≡ 0 → (judge j f w m).code ≡ 0
  clean_at j e z = ap (λ (x : Fault). x.code) (sym (same-judge j e)) ∙ z

  pub kept_at : (j : ℕ) (v : List ℕ) → k ≡ j → v ≡ kept j f w m → v ≡ kept k f w (mask f m)
  kept_at j v e h = h ∙ sym (kept-mask f m k w ∙ ap (λ (k : ℕ). kept k f w m) e)

  -- a round that has no content check
  pub found_none : k ≢ 3 → k ≢ 5 → k ≢ 6 → k ≢ 10 → k ≢ 12 → k ≢ 19 → k ≢ 21 → k ≢ 22
      → Finds (Ok tt) (judge k f w (mask f m))
  unfolding judge
  found_none h3 h5 h6 h10 h12 h19 h21 h22 =
      rw (ne_eqb k 3 h3, ne_eqb k 5 h5, ne_eqb k 6 h6, ne_eqb k 10 h10, ne_eqb k 12 h12, ne_eqb k 19 h19, ne_eqb k 21 h21, ne_eqb k 22 h22)
      refl

  -- a round of which nothing is kept
  pub kept-none : k ≢ 1 → k ≢ 3 → k ≢ 4 → k ≢ 5 → k ≢ 8 → k ≢ 10 → k ≢ 14 → k ≢ 15 → k ≢ 17 → k ≢ 21 → w ≡ kept k f w (mask f m)
  unfolding kept
  kept-none h1 h3 h4 h5 h8 h10 h14 h15 h17 h21 =
      rw (
        ne_eqb k 1 h1,
        ne_eqb k 3 h3,
        ne_eqb k 4 h4,
        ne_eqb k 5 h5,
        ne_eqb k 8 h8,
        ne_eqb k 10 h10,
        ne_eqb k 14 h14,
        ne_eqb k 15 h15,
        ne_eqb k 17 h17,
        ne_eqb k 21 h21,
      ) refl
