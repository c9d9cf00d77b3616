use Rattle.std.specs.Prelude.{◌≡◌, ◌-◌}
use Rattle.lists.specs.Kit.{refl, ap, ◌∙◌, List, ℕ, arith}
use Rattle.block.specs.Block.{bytes_of}
use Rattle.fips197.specs.Cipher as C
use Rattle.aes_key.specs.Words.{words_bytes}
use Rattle.aes.specs.ColumnLaws.{first-columns, rounds-turn}
use Rattle.aes.proofs.rounds.Goals as goal

pub loop-k-init : goal.loop-k-init
loop-k-init c = λ y h. h

pub loop-k-preserved : goal.loop-k-preserved
loop-k-preserved c =
    let w = words_bytes 44 c.args.key.now.words in
    let k = c.loop-k.k in
    λ y h. c.round-s.ensures
    ∙ ap (λ (s : List ℕ). C.add_round_key w k (C.mix_columns (C.shift_rows (C.sub_bytes s)))) (c.loop-k.invariant y h)
    ∙ rounds-turn w y k c.loop-k.auto.k

pub returns : goal.returns
returns c =
    let w = words_bytes 44 c.args.key.now.words in
    c.loop-k.invariant (bytes_of c.args.x)
    (first-columns c.args.key.now.words c.args.x c.from-b.result _ c.from-b.ensures refl refl refl refl)
    ∙ ap (λ n. C.rounds w n (bytes_of c.args.x)) (let e : c.loop-k.k - 1 ≡ 9 = omega arith in e)
