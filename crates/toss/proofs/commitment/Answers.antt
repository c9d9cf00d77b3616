use Rattle.std.specs.Prelude.{◌≡◌}
use Rattle.lists.specs.Kit.{sym, ap, ◌∙◌, replicate}
use Prim.Native.Nat.{◌/◌, ◌%◌}
use Rattle.fill.specs.Copied.{copied}
use Rattle.blake3.specs.Tree.{bytes, digest, hash}
use Rattle.rounds.specs.Toss as Toss
use Rattle.rounds.specs.TossLaws.{numbered, length-numbered}
use Rattle.toss.proofs.commitment.Goals as goal
use Rattle.toss.proofs.commitment.Goals.{After-copy}

-- the seed in front
put : (c : After-copy) → c.copy.new.out ≡ c.args.seed.now
put c = copied (replicate 32 0) c.args.seed.now _ (sym c.requires) c.copy.ensures

pub slice_bounds-digest_of-end : goal.slice_bounds-digest_of-end
slice_bounds-digest_of-end c =
    sym (length-numbered c.args.seed.now c.copy.new.out (c.args.j / 256 % 256) (c.args.j % 256) c.requires
    (put (goal.at.slice_bounds-digest_of-end c).After-copy))

pub returns : goal.returns
unfolding Toss.commitment hash
returns c =
    ap bytes (c.digest_of.ensures
    ∙ ap digest (numbered c.args.seed.now c.copy.new.out (c.args.j / 256 % 256) (c.args.j % 256) c.requires
    (put (goal.at.returns c).After-copy)))
