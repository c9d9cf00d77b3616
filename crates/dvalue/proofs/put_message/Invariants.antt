use Rattle.std.specs.Prelude.{◌+◌, ◌-◌, ◌*◌, ◌≤◌}
use Rattle.lists.specs.Kit.{List, ℕ}
use Rattle.encode.specs.Encode.{dvalue_item}
use Rattle.encode.specs.Stretch.{Stretch}
use Rattle.engine.specs.declared.Frame.{Frame}
use Rattle.rounds.specs.Buckets as B
use Rattle.dvalue.proofs.put_message.Given as goal

-- bucket j of the message to k
abbrev pub item : Frame → List ℕ → List ℕ → ℕ → ℕ → List ℕ
item f recs perm k j = dvalue_item (B.later f) (λ e. (B.d f recs perm j e).bit) (λ e. (B.d f recs perm j e).mac k)

abbrev pub invariant-loop-j : goal.invariant-loop-j
invariant-loop-j l = Stretch l.f.l (item l.f l.recs l.perm l.k) l.j (8 + l.j * l.size) l.initial.out l.out
