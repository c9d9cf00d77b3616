use Rattle.std.specs.Prelude.{◌+◌}
use Rattle.lists.specs.Kit.{sym, ap, ◌∙◌, arith}
use Rattle.rounds.specs.Toss.{ver_msg}
use Rattle.rounds.specs.TossLaws.{ver-put}
use Rattle.toss.proofs.put_seed.Goals as goal

pub seed_for-requires : goal.seed_for-requires
seed_for-requires c = omega (arith, c.requires)

pub put_bytes-requires : goal.put_bytes-requires
put_bytes-requires c = c.requires.0 ∙ ap (λ m. 8 + m) (sym c.seed_for.ensures.1)

pub returns : goal.returns
returns c = ver-put c.seed_for.result.now c.put_bytes.new.out c.put_bytes.ensures c.seed_for.ensures.1 ∙ ap ver_msg c.seed_for.ensures.0
