use Rattle.lists.specs.Kit.{refl}
use Rattle.aes_counter.specs.StartLaws.{start-state}
use Rattle.aes_counter.proofs.Cipher.start.Goals as goal

pub returns : goal.returns
returns c =
    start-state c.args.self.now.key.words c.args.self.now.parts c.args.c _ _ _ c.from.result c.requires c.args.self.now.begun refl refl refl
    c.from.ensures
