use Rattle.std.specs.Prelude.{◌≡◌, ◌++◌, ◌+◌, ◌-◌}
use Rattle.lists.specs.Kit.{ap, ap₂, ◌∙◌, List, ℕ, arith}
use Rattle.lists.specs.Sect.{put}
use Rattle.block.specs.Block.{bytes_of}
use Rattle.share.specs.Layout.{ENTRY}
use Rattle.bucket_sum.specs.Row.{put_entries}
use Rattle.bucket_sum.proofs.put_entries.Goals as goal

pub returns : goal.returns
unfolding put_entries
returns c =
    let one : c.mac_off-a.result + ENTRY - c.mac_off-a.result ≡ ENTRY = omega arith in
    let two : c.args.z + (c.mac_off-a.result + ENTRY) - (c.args.z + c.mac_off-a.result) ≡ ENTRY = omega arith in
    let X : List ℕ = bytes_of c.args.s.x.mac.0 ++ bytes_of c.args.s.x.key.0 in
    let Z : List ℕ = bytes_of c.args.s.z.mac.0 ++ bytes_of c.args.s.z.key.0 in
    ap₂ (λ m (y : List ℕ). put (c.args.z + c.mac_off-a.result) m y (put c.mac_off-a.result
    (c.mac_off-a.result + ENTRY - c.mac_off-a.result) c.put_entry.new.out c.args.row.now)) two
    c.put_entry-2.ensures
    ∙ ap₂ (λ m (x : List ℕ). put (c.args.z + c.mac_off-a.result) ENTRY Z (put c.mac_off-a.result m x c.args.row.now)) one
    c.put_entry.ensures
    ∙ ap (λ k. put (c.args.z + k) ENTRY Z (put k ENTRY X c.args.row.now)) c.mac_off-a.ensures
