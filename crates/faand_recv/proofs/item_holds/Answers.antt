use Rattle.std.specs.Prelude.{◌+◌, ◌*◌, ◌<◌, ◌≤◌}
use Rattle.lists.specs.Kit.{arith, length}
use Rattle.share.specs.Layout.{record_len, record-within}
use Rattle.faand.specs.ItemLaws.{item_in}
use Rattle.faand_recv.specs.CheckLaws.{both_hold}
use Rattle.faand_recv.proofs.item_holds.Goals as goal
use Rattle.faand_recv.proofs.item_holds.Goals.{After-bucket-r}

few : (c : After-bucket-r) → c.args.k < 8
few c = omega (arith, c.requires.k_lt_n.0, c.requires.work.0.ranges.range.eight)

-- k is a party, so its entries lie within
entries : (c : After-bucket-r) → record_len (c.args.k + 1) ≤ record_len c.args.f.n
entries c = record-within c.args.f.n c.args.k c.requires.k_lt_n.0

inside : (c : After-bucket-r) → 8 + c.args.j * 34 + 34 ≤ length c.args.m.now
inside c = item_in c.args.f c.args.j (length c.args.m.now) c.requires.work.1 c.requires.k_lt_n.1

pub mac_holds-d-requires : goal.mac_holds-d-requires
mac_holds-d-requires c =
    record { bit_at_in_bounds = (omega (arith, inside (goal.at.mac_holds-d-requires c).After-bucket-r), omega (arith, inside (goal.at.mac_holds-d-requires c).After-bucket-r)); k_bound = (few (goal.at.mac_holds-d-requires c).After-bucket-r, omega (arith, c.bucket-r.ensures.a_in, entries (goal.at.mac_holds-d-requires c).After-bucket-r), omega (arith, c.bucket-r.ensures.alpha-in, entries (goal.at.mac_holds-d-requires c).After-bucket-r)) }

pub mac_holds-e-requires : goal.mac_holds-e-requires
mac_holds-e-requires c =
    record { bit_at_in_bounds = (omega (arith, inside (goal.at.mac_holds-e-requires c).After-bucket-r), omega (arith, inside (goal.at.mac_holds-e-requires c).After-bucket-r)); k_bound = (few (goal.at.mac_holds-e-requires c).After-bucket-r, omega (arith, c.bucket-r.ensures.b-in, entries (goal.at.mac_holds-e-requires c).After-bucket-r), omega (arith, c.bucket-r.ensures.beta-in, entries (goal.at.mac_holds-e-requires c).After-bucket-r)) }

pub returns : goal.returns
returns c =
    both_hold c.args.f c.args.delta.0 c.args.work.now c.args.m.now c.args.k c.args.j _ _ _ _ (c.bucket-r.ensures.d-read.key c.args.k c.requires.k_lt_n.0)
    (c.bucket-r.ensures.e-read.key c.args.k c.requires.k_lt_n.0)
    c.mac_holds-d.ensures c.mac_holds-e.ensures
