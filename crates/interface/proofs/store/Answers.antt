use Rattle.std.specs.Prelude.{◌≡◌, ◌-◌}
use Rattle.lists.specs.Kit.{refl, ap, ◌∙◌, List, ℕ, arith, length}
use borrow.Rule.Slice.PartMut.{put_mid}
use Rattle.lists.specs.Over.{two-parts}
use Rattle.lists.specs.Sect.{length-put}
use Rattle.interface.specs.Interface.{COUNTS, head_of, numbers_of}
use Rattle.interface.proofs.store.Goals as goal

pub returns : goal.returns
unfolding numbers_of head_of
returns c =
    let o = c.args.out.now in
    let head = head_of c.args.s.party c.args.s.due in
    let w : List ℕ = put_mid 0 COUNTS o c.put_head.new.out in
    let long : length w ≡ 20 = length-put 0 COUNTS c.put_head.new.out o (ap length c.put_head.ensures) (omega (arith, c.requires.out_len)) ∙ c.requires.out_len in
    ap (λ m. put_mid COUNTS m w c.copy_from_slice.new.self) (let e : length w - COUNTS ≡ 16 = omega (arith, long) in e)
    ∙ two-parts COUNTS 16 head c.args.s.counts c.put_head.new.out c.copy_from_slice.new.self o c.requires.out_len refl c.put_head.ensures c.copy_from_slice.ensures.after
