use Rattle.std.specs.Prelude.{◌≡◌, ◌+◌, ◌-◌, ◌≤◌}
use Rattle.lists.specs.Kit.{sym, ap, ap₂, ◌∙◌, List, ℕ, arith, length, take, drop}
use Rattle.lists.specs.Sect.{length-get}
use Rattle.rounds.specs.MailLaws.{letter-long}
use Rattle.flaand_comm.proofs.keep_row.Goals as goal
use Rattle.flaand_comm.proofs.keep_row.Goals.{After-letter}

-- the message has as many bytes behind its count as the row
long : (c : After-letter) → 8 + length c.args.row.now ≤ length c.letter.result.now
long c =
    omega (
      arith,
      ap length c.letter.ensures,
      letter-long c.requires.arrived c.args.k c.requires.k_lt_n.0 (λ e. c.requires.k_lt_n.1 (sym
          e)),
    )

pub slice_bounds-copy_from_slice-end : goal.slice_bounds-copy_from_slice-end
slice_bounds-copy_from_slice-end c = long (goal.at.slice_bounds-copy_from_slice-end c).After-letter

pub copy_from_slice-requires : goal.copy_from_slice-requires
copy_from_slice-requires c =
    let n = length c.args.row.now in
    let h = long (goal.at.copy_from_slice-requires c).After-letter in
    let e : 8 + n - 8 ≡ n = omega arith in
    sym (length-get 8 (8 + n - 8) c.letter.result.now (omega (arith, h)) ∙ e)

pub returns : goal.returns
returns c =
    let n = length c.args.row.now in
    c.copy_from_slice.ensures.after
    ∙ ap₂ (λ m (x : List ℕ). take m (drop 8 x)) (let e : 8 + n - 8 ≡ n = omega arith in e) c.letter.ensures
