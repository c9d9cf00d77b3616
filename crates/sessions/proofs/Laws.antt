-- Where an entry ends in a record as it is lent.
use Rattle.std.proofs.Common.{ℕ, ◌+◌, ◌<◌, ◌≤◌, arith}
use Rattle.share.specs.Layout.{ENTRY, mac_off, entry-within}
use Rattle.share.specs.Lent.{LABEL, LENT_MOST}
use Rattle.share.specs.LentLaws.{lent_longer, lent-most}

pub entry-lent : (k : ℕ) → k < 3 → mac_off k + LABEL + ENTRY ≤ LENT_MOST
entry-lent k h = omega (arith, entry-within 3 k h, lent_longer 3, lent-most 3 (omega arith))
