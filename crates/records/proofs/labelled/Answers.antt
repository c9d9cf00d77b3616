use Rattle.std.specs.Prelude.{◌≡◌, ◌+◌, ◌≤◌}
use Rattle.lists.specs.Kit.{ap, ◌∙◌, List, false, ℕ, arith, length, get_or, rules}
use Rattle.std.proofs.iter.Serving.{serving}
use lib.Dec.{eqb}
use Rattle.share.specs.Lent.{label_of}
use Rattle.share.specs.Lent as L
use Rattle.share.specs.LentLaws.{head-within, label-behind}
use Rattle.records.proofs.labelled.Goals as goal

pub put_lent_head-requires : goal.put_lent_head-requires
put_lent_head-requires c = (omega arith, c.requires.0, c.requires.1)

pub all_of-requires : goal.all_of-requires
all_of-requires c =
    let h : c.args.at + 32 ≤ length c.args.s.now = omega (arith, head-within c.args.n, c.requires.2) in
    grind serving

pub returns : goal.returns
unfolding L.labelled
returns c =
    c.all_of.ensures (λ k. eqb (get_or c.args.s.now (c.args.at + (1 + k)) 0) (get_or (label_of c.args.n c.args.i) k 0))
    (λ k r l h. let e : r ≡ eqb (get_or c.args.s.now (c.args.at + (1 + k)) 0) (get_or c.put_lent_head.new.out (1 + k) 0) = search rules in
    e ∙ ap (eqb (get_or c.args.s.now (c.args.at + (1 + k)) 0))
    (ap (λ (d : List ℕ). get_or d (1 + k) 0) c.put_lent_head.ensures ∙ label-behind c.args.n c.args.i false _ k l))
