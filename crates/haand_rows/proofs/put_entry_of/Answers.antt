use Rattle.lists.specs.Kit.{◌∙◌}
use Rattle.haand_rows.specs.Parts.{entry_of, entry_at}
use Rattle.haand_rows.proofs.put_entry_of.Goals as goal

pub returns : goal.returns
unfolding entry_at
returns c =
    c.put_entry.ensures
    ∙ (λ j. entry_of (c.hash_by-a.ensures.0 j) (c.hash_by-b.ensures.0 j) c.args.p (c.hash_by-a.ensures.1 j) (c.hash_by-b.ensures.1 j))
