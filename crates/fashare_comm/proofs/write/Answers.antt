use Rattle.std.specs.Prelude.{◌≡◌, ◌++◌, ◌+◌, ◌-◌, ◌*◌}
use Rattle.lists.specs.Kit.{sym, ap, ◌∙◌, List, ℕ, length}
use Rattle.lists.specs.Over.{length-cat}
use Rattle.block.specs.Block.{le8}
use Rattle.encode.specs.Encode.{encode}
use Rattle.plan.specs.Plan.{msg_len, list_len, count_due, kind_of}
use Rattle.engine.specs.Area.{to_others}
use Rattle.rounds.specs.Fashare as Fashare
use Rattle.rounds.specs.Fashare.{STRINGS, COMM, COMM_ROW}
use Rattle.fashare_comm.specs.Laws.{given, length-comm_item}
use Rattle.fashare_comm.proofs.write.Goals as goal
use Rattle.fashare_comm.proofs.write.Goals.{After-comms-all}

pub comms-all-requires : goal.comms-all-requires
comms-all-requires c = given c.requires.work _ c.section.ensures

-- what is sent behind the count
long : (c : After-comms-all) → length c.comms-all.result ≡ COMM_ROW
long c =
    ap length c.comms-all.ensures
    ∙ length-cat STRINGS COMM _ (λ q h. length-comm_item c.args.f c.delta-delta.result.0 c.section.result.now q)

pub slice_bounds-write_same-end : goal.slice_bounds-write_same-end
slice_bounds-write_same-end c = sym (long (goal.at.slice_bounds-write_same-end c).After-comms-all)

pub write_same-requires : goal.write_same-requires
unfolding msg_len list_len count_due kind_of
write_same-requires c =
    (c.requires.work.ranges.range.two, c.requires.out_len ∙ ap (λ m. (c.args.f.n - 1) * (8 + m)) (sym (long (goal.at.write_same-requires c).After-comms-all)))

pub returns : goal.returns
unfolding Fashare.comm_msg encode
returns c =
    rw (← c.section.ensures, ← c.delta-delta.ensures)
    (c.write_same.ensures c.args.f.i ∙ ap (λ (x : List ℕ). to_others c.args.f.n c.args.f.i (λ k. le8 STRINGS ++ x)) c.comms-all.ensures)
