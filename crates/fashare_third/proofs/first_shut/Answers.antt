use Rattle.std.specs.Prelude.{◌≡◌, ◌+◌, ◌*◌, ◌<◌, ◌≤◌}
use Rattle.lists.specs.Kit.{not, refl, ap, ◌∙◌, arith, length, drop, take}
use Rattle.lists.specs.Pick.{pick}
use Rattle.lists.specs.Same.{same?}
use Rattle.block.specs.Block.{word_at}
use Rattle.blake3.specs.Tree.{bytes, hash}
use Rattle.rounds.specs.Fashare.{STRINGS, COMM, third_fault}
use Rattle.fashare_third.specs.Laws.{comm-in, third-is, opened-start, opened_in, opened-turn, opened-stop, opened-end}
use Rattle.fashare_third.proofs.first_shut.Goals as goal
use Rattle.fashare_third.proofs.first_shut.Goals.{After-digest_of-digest, After-is, In-loop-q}

pub loop-q-init : goal.loop-q-init
loop-q-init c = opened-start c.args.comms.now c.args.m.now c.args.k

-- ---- in a turn

string : (c : In-loop-q) → c.loop-q.q < STRINGS
string c = omega (arith, c.loop-q-test.true, c.requires.most_bound)

inside : (c : In-loop-q) → (c.loop-q.at) + 8 + word_at c.args.m.now (c.loop-q.at) ≤ length c.args.m.now
inside c =
    opened_in c.args.comms.now c.args.m.now c.args.k c.loop-q.q (c.loop-q.at) c.loop-q.invariant c.requires.m_value (string c)

pub overflow_add-from : goal.overflow_add-from
overflow_add-from c = omega (arith, inside (goal.at.overflow_add-from c).In-loop-q)

pub load64-requires : goal.load64-requires
load64-requires c = omega (arith, inside (goal.at.load64-requires c).In-loop-q)

pub overflow_add-to : goal.overflow_add-to
overflow_add-to c = omega (arith, inside (goal.at.overflow_add-to c).In-loop-q, c.load64.ensures)

pub slice_bounds-digest_of-end : goal.slice_bounds-digest_of-end
slice_bounds-digest_of-end c = omega (arith, inside (goal.at.slice_bounds-digest_of-end c).In-loop-q, c.load64.ensures)

placed : (c : After-digest_of-digest) → (c.args.k * STRINGS + c.loop-q.q) * COMM + 64 + 32 ≤ length c.args.comms.now
placed c =
    let string-here : c.loop-q.q < STRINGS = omega (arith, c.loop-q-test.true, c.requires.most_bound) in
    comm-in c.args.k c.loop-q.q (length c.args.comms.now) (string-here) c.requires.k_bound.1

pub overflow_mul-k : goal.overflow_mul-k
overflow_mul-k c = omega (arith, placed (goal.at.overflow_mul-k c).After-digest_of-digest)

pub overflow_add-k : goal.overflow_add-k
overflow_add-k c = omega (arith, placed (goal.at.overflow_add-k c).After-digest_of-digest)

pub overflow_mul-k-in-loop-q : goal.overflow_mul-k-in-loop-q
overflow_mul-k-in-loop-q c = omega (arith, placed (goal.at.overflow_mul-k-in-loop-q c).After-digest_of-digest)

pub overflow_add-k-in-loop-q : goal.overflow_add-k-in-loop-q
overflow_add-k-in-loop-q c = omega (arith, placed (goal.at.overflow_add-k-in-loop-q c).After-digest_of-digest)

pub is-requires : goal.is-requires
is-requires c = omega (arith, placed (goal.at.is-requires c).After-digest_of-digest)

-- what the test says, in the definition's words
said : (c : After-is) → third_fault c.args.comms.now (λ _. c.args.m.now) c.loop-q.q c.args.k ≡ pick c.is.result 0 2
unfolding hash
said c =
    third-is c.args.comms.now c.args.m.now c.loop-q.q c.args.k (c.loop-q.at) c.loop-q.invariant.at-is
    ((c.loop-q.at) + 8)
    ((c.loop-q.at) + 8 + c.load64.result) c.is.result refl
    (ap (λ w. (c.loop-q.at) + 8 + w) c.load64.ensures)
    (c.is.ensures
    ∙ ap (λ d. same? (take 32 (drop ((c.args.k * STRINGS + c.loop-q.q) * COMM + 64) c.args.comms.now)) (bytes d))
    c.digest_of-digest.ensures)

pub returns-then-not-is : goal.returns-then-not-is
returns-then-not-is c =
    opened-stop c.args.comms.now c.args.m.now c.args.k c.loop-q.q (c.loop-q.at) c.loop-q.invariant c.args.most c.is.result
    c.loop-q-test.true (said (goal.at.returns-then-not-is c).After-is) (ap not c.if-not-is.true)

pub loop-q-preserved : goal.loop-q-preserved
loop-q-preserved c =
    opened-turn c.args.comms.now c.args.m.now c.args.k c.loop-q.q (c.loop-q.at) c.loop-q.invariant c.requires.m_value
    (string (goal.at.loop-q-preserved c).In-loop-q) _ c.is.result
    (ap (λ w. (c.loop-q.at) + 8 + w) c.load64.ensures) (said (goal.at.loop-q-preserved c).After-is) (ap not c.if-not-is.false)

pub returns : goal.returns
returns c =
    opened-end c.args.comms.now c.args.m.now c.args.k c.loop-q.q c.loop-q.at c.loop-q.invariant c.args.most (omega arith)
