-- The first entries of both tables are nothing, and adding them changes nothing.
use Rattle.lists.specs.Kit.{ap, ◌∙◌, List, ℕ, arith}
use Rattle.rbits.specs.Chosen.{words_of}
use Rattle.rbits.specs.TableLaws.{tables-first}
use Rattle.rpairs.specs.Added.{added_from}
use Rattle.rpairs.proofs.add_pair.Goals as goal

pub add_nothing-requires : goal.add_nothing-requires
add_nothing-requires c =
    record { in_bounds = omega (arith, c.add_two.auto.x, c.requires.x_len.0); tab_value = tables-first _ _ c.fill.ensures }

pub add_nothing-requires-2 : goal.add_nothing-requires-2
add_nothing-requires-2 c =
    record { in_bounds = omega (arith, c.add_two.auto.y, c.requires.x_len.1); tab_value = tables-first _ _ c.fill-2.ensures }

pub returns : goal.returns
returns c =
    record {
      x_after = c.add_nothing.ensures ∙ c.add_two.ensures.x_after
          ∙ ap (λ (t : List ℕ). words_of 840 (added_from c.args.base c.args.x.now t c.args.win.now c.args.h)) c.fill.ensures;
      y_after = c.add_nothing-2.ensures ∙ c.add_two.ensures.y_after
          ∙ ap (λ (t : List ℕ). words_of 840 (added_from c.args.base c.args.y.now t c.args.win.now c.args.h)) c.fill-2.ensures;
    }
