use Rattle.std.specs.Prelude.{◌∷◌}
use Rattle.lists.specs.Kit.{◌∙◌, [], rules}
use Rattle.lists.specs.Over.{sets-all}
use Rattle.broadcast.specs.BroadcastLaws.{waits-is}
use Rattle.broadcast.proofs.put_fault.Goals as goal

pub bounds-out-0 : goal.bounds-out-0
bounds-out-0 c = search rules

pub party_byte-requires : goal.party_byte-requires
party_byte-requires c = search rules

pub bounds-out-1 : goal.bounds-out-1
bounds-out-1 c = search rules

pub shape_of-out : goal.shape_of-out
shape_of-out c = search rules

pub returns : goal.returns
returns c =
    sets-all (c.args.code ∷ c.party_byte.result ∷ []) c.args.out.now c.requires.0
    ∙ waits-is c.args.code c.args.party c.party_byte.result c.party_byte.ensures
