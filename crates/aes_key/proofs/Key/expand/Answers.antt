use Rattle.lists.specs.Kit.{refl, ◌∙◌, arith}
use lib.ListN.{length-set}
use Rattle.aes_key.specs.WordsLaws.{words-none, words-load, words-own, words-next, words-end}
use Rattle.aes_key.proofs.Key.expand.Goals as goal

pub loop-i-init : goal.loop-i-init
loop-i-init c = (refl, words-none _ c.args.key.now)

pub loop-i-preserved : goal.loop-i-preserved
loop-i-preserved c =
    let w = c.loop-i.words in
    let i = c.loop-i.i in (
      length-set w i c.load.result ∙ c.loop-i.invariant.0,
      words-load w c.args.key.now i c.load.result (λ j. (c.type_inv.key j).fits) (omega arith) (omega arith) c.loop-i.invariant.1
          c.load.ensures,
    )

pub loop-i-2-init : goal.loop-i-2-init
loop-i-2-init c = (
  c.loop-i.invariant.0,
  words-own c.loop-i.words c.args.key.now c.loop-i.i (omega arith) c.requires c.loop-i.invariant.1,
)

pub loop-i-2-preserved : goal.loop-i-2-preserved
loop-i-2-preserved c =
    let w = c.loop-i-2.words in
    let i = c.loop-i-2.i in (
      length-set w i c.next_word.result ∙ c.loop-i-2.invariant.0,
      words-next w i (omega arith) (omega arith) c.args.key.now c.next_word.result (omega arith) c.loop-i-2.invariant.1 c.next_word.ensures,
    )

pub returns : goal.returns
returns c = words-end c.loop-i-2.words c.args.key.now c.loop-i-2.i (omega arith) c.loop-i-2.invariant.1
