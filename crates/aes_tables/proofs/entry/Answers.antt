-- `aes_tables::entry` meets its contract: at each place the column is the matrix's.
use Rattle.std.specs.Prelude.{◌≡◌}
use Rattle.lists.specs.Kit.{sym, ap, ◌∙◌, arith}
use Rattle.aes_tables.specs.Tables.{entry_of}
use Rattle.aes_tables.specs.TableLaws.{entry_zero, entry-one, entry-two, entry-three, entry-four}
use Rattle.aes_tables.proofs.entry.Goals as goal

pub returns-in-0 : goal.returns-in-0
returns-in-0 c =
    c.from_le_bytes.ensures ∙ entry_zero c.args.s c.xtimes-d.result c.ranges.s.fits c.xtimes-d.ensures
    ∙ ap (λ q. entry_of q c.args.s) (sym c.in-0.is)

pub returns-in-1 : goal.returns-in-1
returns-in-1 c =
    c.from_le_bytes-in-1.ensures ∙ entry-one c.args.s c.xtimes-d.result c.ranges.s.fits c.xtimes-d.ensures
    ∙ ap (λ q. entry_of q c.args.s) (sym c.in-1.is)

pub returns-in-2 : goal.returns-in-2
returns-in-2 c =
    c.from_le_bytes-in-2.ensures ∙ entry-two c.args.s c.xtimes-d.result c.ranges.s.fits c.xtimes-d.ensures
    ∙ ap (λ q. entry_of q c.args.s) (sym c.in-2.is)

pub returns-in-3 : goal.returns-in-3
returns-in-3 c =
    c.from_le_bytes-in-3.ensures ∙ entry-three c.args.s c.xtimes-d.result c.ranges.s.fits c.xtimes-d.ensures
    ∙ ap (λ q. entry_of q c.args.s) (sym c.in-3.is)

pub returns-in_default : goal.returns-in_default
returns-in_default c =
    let e : 4 ≡ c.args.q = omega arith in
    entry-four c.args.s ∙ ap (λ q. entry_of q c.args.s) e
