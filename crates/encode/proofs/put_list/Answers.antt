use Rattle.std.specs.Prelude.{◌≡◌, ◌+◌, ◌-◌}
use Rattle.lists.specs.Kit.{ap, ◌∙◌, List, ℕ, arith, length, take, drop}
use lib.Seq.{take_all}
use borrow.Rule.Slice.PartMut.{put_mid}
use Rattle.lists.specs.Over.{two-parts}
use Rattle.lists.specs.Sect.{length-put, length-get}
use Rattle.block.specs.Block.{le8}
use Rattle.block.specs.Trip.{length-le8}
use Rattle.encode.proofs.put_list.Goals as goal

pub returns : goal.returns
returns c =
    let o = c.args.out.now in
    let items = c.args.items.now in
    let x = c.put_count.new.out in
    let w : List ℕ = put_mid 0 8 o x in
    let long : length w ≡ 8 + length items =
    length-put 0 8 x o (ap length c.put_count.ensures ∙ length-le8 c.args.count) (omega (arith, c.requires)) ∙ c.requires in
    ap (λ m. put_mid 8 m w c.copy.new.out) (let e : length w - 8 ≡ length items = omega (arith, long) in e)
    ∙ two-parts 8 (length items) (le8 c.args.count) items x c.copy.new.out o c.requires (length-le8 c.args.count)
    c.put_count.ensures
    (c.copy.ensures ∙ take_all (length (take (length w - 8) (drop 8 w))) items (omega (arith, long, length-get 8 (length w - 8) w (omega (arith, long)))))
