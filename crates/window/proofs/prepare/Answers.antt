use Rattle.std.specs.Prelude.{◌≡◌}
use Rattle.lists.specs.Kit.{sym, ap, ◌∙◌}
use Rattle.aes_key.specs.Words.{words_bytes}
use Rattle.aes_counter.specs.declared.Cipher.{Cipher}
use Rattle.draw.specs.StringLaws.{seed-yes, seed-no}
use Rattle.window.proofs.prepare.Goals as goal
use Rattle.window.proofs.prepare.Goals.{then-is_seed, else-is_seed}

pub new-requires : goal.new-requires
new-requires c = seed-yes _ (sym c.is_seed.ensures ∙ c.if-is_seed.true)

pub invariant_of-result : goal.invariant_of-result
invariant_of-result c =
    elim c.if-is_seed.branch [
      | then-is_seed w ↦ record {
        ready = record {
          lent = λ e. absurd (cc);
          seed = λ k e. seed-yes _ (sym c.is_seed.ensures ∙ w.if-is_seed.true);
          words = λ k e. let q : k ≡ w.new.result = cc in ap (λ (k : Cipher). words_bytes 44 k.key.words) q ∙ w.new.ensures;
        };
      }
      | else-is_seed w ↦ record {
        ready = record {
          lent = λ e. seed-no _ (sym c.is_seed.ensures ∙ w.if-is_seed.false);
          seed = λ k e. absurd (cc);
          words = λ k e. absurd (cc);
        };
      }
    ]
