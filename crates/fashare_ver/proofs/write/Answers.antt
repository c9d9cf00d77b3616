use Rattle.std.specs.Prelude.{◌≡◌, ◌+◌, ◌-◌, ◌*◌, ◌≤◌}
use Rattle.lists.specs.Kit.{sym, ap, ◌∙◌, arith, length, rules}
use Rattle.rounds.specs.Fashare.{STRINGS}
use Rattle.fashare_comm.specs.Given.{AllRecords}
use Rattle.fashare_comm.specs.Laws.{given, DM_MOST, dm-most}
use Rattle.fashare_ver.specs.Laws.{ver_len, ver_len_lem}
use Rattle.fashare_ver.proofs.write.Goals as goal
use Rattle.fashare_ver.proofs.write.Goals.{After-dm_len}

pub dm_len-requires : goal.dm_len-requires
dm_len-requires c = (omega (arith, c.requires.work.ranges.range.two), c.requires.work.ranges.range.eight)

-- a dm is short
few : (c : After-dm_len) → c.dm_len.result ≤ DM_MOST
few c = omega (arith, c.dm_len.ensures, dm-most c.args.f.n c.requires.work.ranges.range.eight)

pub overflow_add-len : goal.overflow_add-len
overflow_add-len c = omega (arith, few (goal.at.overflow_add-len c).After-dm_len)

pub overflow_mul-len : goal.overflow_mul-len
overflow_mul-len c = omega (arith, few (goal.at.overflow_mul-len c).After-dm_len)

pub overflow_add-len-2 : goal.overflow_add-len-2
overflow_add-len-2 c = omega (arith, few (goal.at.overflow_add-len-2 c).After-dm_len)

pub to_others-requires-clause-out_len : goal.to_others-requires-clause-out_len
to_others-requires-clause-out_len c = (
  omega (arith, c.requires.work.ranges.range.two),
  c.requires.work.ranges.range.eight,
  c.requires.out_len
      ∙ ap (λ t. (c.args.f.n - 1) * t) (ver_len_lem c.args.f.n c.args.f.l ∙ ap (λ t. 8 + STRINGS * (8 + t)) (sym c.dm_len.ensures)),
)

pub to_others-requires-clause-put_pre : goal.to_others-requires-clause-put_pre
to_others-requires-clause-put_pre c k l ne row e =
    let long : length row.now ≡ ver_len c.args.f.n = e ∙ ap (λ t. 8 + STRINGS * (8 + t)) c.dm_len.ensures in
    let all : AllRecords c.args.f c.section-recs.result.now = given c.requires.work _ c.section-recs.ensures in
    search rules

pub returns : goal.returns
returns c = rw (← c.section-recs.ensures) (c.to_others.ensures _ (λ k l ne row left e h. search rules))
