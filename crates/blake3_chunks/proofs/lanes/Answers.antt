use Rattle.std.specs.Prelude.{◌≡◌, ◌+◌, ◌-◌, ◌*◌}
use Rattle.lists.specs.Kit.{refl, ap, ◌∙◌, List, ℕ, arith, take, drop}
use Rattle.lists.specs.Over.{tab-zero, tab-turn, tab-end, length-take-drop}
use Rattle.blake3_chunks.specs.declared.Node.{Node}
use Rattle.blake3_chunks.specs.Chunks.{chunk_of, pressed}
use Rattle.blake3_chunks.proofs.lanes.Goals as goal

-- the part that lane j is lent
own : (s : List ℕ) (j : ℕ) (r n : Node) (k low high f : ℕ)
    → r ≡ pressed n (take (1024 * j + 1024 - 1024 * j) (drop (1024 * j) s)) k low high f
    → r ≡ pressed n (chunk_of s j) k low high f
own s j r n k low high f e =
    let q : 1024 * j + 1024 - 1024 * j ≡ 1024 = omega arith in e ∙ ap (λ (m : ℕ). pressed n (take m (drop (1024 * j) s)) k low high f) q

pub loop-j-init : goal.loop-j-init
loop-j-init c = tab-zero _ _

pub lane-requires : goal.lane-requires
lane-requires c =
    let j = c.loop-j.j in
    record {
      chunk_len = omega (arith, c.requires.s_len, length-take-drop (1024 * j) (1024 * j + 1024) c.args.s.now);
      k_bound = c.requires.k_bound;
    }

pub loop-j-preserved : goal.loop-j-preserved
loop-j-preserved c =
    let l = c.loop-j in
    tab-turn l.j _ _ l.ds _ l.invariant (own c.args.s.now l.j _ _ _ _ _ _ c.lane.ensures) c.loop-j-test.true

pub returns : goal.returns
returns c = let l = c.loop-j in tab-end l.j 4 _ _ l.ds l.invariant (omega arith) refl
