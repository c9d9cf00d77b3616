use Rattle.std.specs.Prelude.{◌+◌}
use Rattle.lists.specs.Kit.{refl, ap, ◌∙◌, List, ℕ, arith}
use Rattle.blake3.specs.Tree.{bytes}
use Rattle.blake3.specs.ByteLaws.{length-bytes}
use Rattle.encode.specs.Stretch.{stretch-count, stretch-turn, stretch-end}
use Rattle.rounds.specs.Toss.{comm_msg}
use Rattle.rounds.specs.TossLaws.{comm-put}
use Rattle.toss.proofs.put_commitment.Goals as goal

pub returns : goal.returns
returns c =
    let o = c.args.out.now in
    let d = bytes c.commitment.result.0 in
    let g : ℕ → List ℕ = λ t. d in
    comm-put c.seed_for.result.now d _ c.args.f.i
    (stretch-end 1 g 1 40 o _
    (stretch-turn 1 g 0 8 40 40 o _ c.store.new.out
    (stretch-count 1 g o c.put_count.new.out (omega arith) c.put_count.ensures)
    c.store.ensures (ap (λ k'. 8 + k') (length-bytes c.commitment.result.0)) (omega arith) refl)
    refl (omega arith))
    c.commitment.ensures
    ∙ ap (λ x. comm_msg x c.args.f.i) c.seed_for.ensures.0

pub seed_for-requires : goal.seed_for-requires
seed_for-requires c = omega (arith, c.requires)
