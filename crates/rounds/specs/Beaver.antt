-- `beaver_aand` (document 01, "What each round means"; Pragmatic MPC, section 3.4): the triples a, b, c become the ANDs of alpha and beta.
-- Round 22. recs, alpha and beta are lists of records, triples the rows of a and c, perm the permutation in bytes, `m k` the message of
-- party k.
use Rattle.std.specs.Prelude.{Bool, ◌&&◌, List, ℕ, ◌+◌, ◌*◌, get_or}
use Rattle.lists.specs.Pick.{pick}
use Rattle.lists.specs.All.{all_of}
use Rattle.lists.specs.Over.{cat}
use Rattle.algebra.specs.Group.{bits, addb, sel, odd}
use Rattle.algebra.specs.Sum.{others}
use Rattle.block.specs.declared.Block.{Block}
use Rattle.block.specs.Block.{block_at, eq_block}
use Rattle.block.specs.Group.{blocks}
use Rattle.share.specs.Record.{record_len}
use Rattle.share.specs.Share.{Share, share_at, shares}
use Rattle.share.specs.Lent.{lent_of}
use Rattle.encode.specs.Encode.{encode, two_bits_two_blocks}
use Rattle.engine.specs.declared.Frame.{Frame}
use Rattle.engine.specs.Step.{Fault, by_party}
use Rattle.rounds.specs.Haand.{y}
use Rattle.rounds.specs.Buckets.{entry}

-- record j of a list
unfoldable pub share : Frame → List ℕ → ℕ → Share
share f list j = share_at list (j * record_len f.n)

-- a and c of bucket j
unfoldable pub a : Frame → List ℕ → ℕ → Share
a f triples j = share_at triples (j * (2 * record_len f.n))

unfoldable pub c : Frame → List ℕ → ℕ → Share
c f triples j = share_at triples (j * (2 * record_len f.n) + record_len f.n)

-- b is the first y of bucket j
unfoldable pub b : Frame → List ℕ → List ℕ → ℕ → Share
b f recs perm j = y f recs (entry f perm j 0)

-- "d = a + alpha, e = b + beta, opened"
unfoldable pub d : Frame → List ℕ → List ℕ → ℕ → Share
d f triples alpha j = shares.op (a f triples j) (share f alpha j)

unfoldable pub e : Frame → List ℕ → List ℕ → List ℕ → ℕ → Share
e f recs perm beta j = shares.op (b f recs perm j) (share f beta j)

unfoldable pub faand_msg : Frame → List ℕ → List ℕ → List ℕ → List ℕ → List ℕ → ℕ → List ℕ
faand_msg f recs perm triples alpha beta k =
    encode f.l (λ j. two_bits_two_blocks (d f triples alpha j).bit (e f recs perm beta j).bit ((d f triples alpha j).mac k) ((e f recs perm beta j).mac k))

-- the bits d and e that k sent
unfoldable pub d_told : (ℕ → List ℕ) → ℕ → ℕ → Bool
d_told m k j = odd (get_or (m k) (8 + j * 34) 0)

unfoldable pub e_told : (ℕ → List ℕ) → ℕ → ℕ → Bool
e_told m k j = odd (get_or (m k) (8 + j * 34 + 1) 0)

-- 12 for the first party of which a MAC isn't the key, plus delta where the bit is 1
unfoldable pub de_faults : Frame → Block → List ℕ → List ℕ → List ℕ → List ℕ → List ℕ → (ℕ → List ℕ) → Fault
de_faults f delta recs perm triples alpha beta m =
    by_party f (λ k. pick (all_of f.l (λ j.
    eq_block (block_at (m k) (8 + j * 34 + 2)) (blocks.op ((d f triples alpha j).key k) (sel blocks (d_told m k j) delta))
    && eq_block (block_at (m k) (8 + j * 34 + 18)) (blocks.op ((e f recs perm beta j).key k) (sel blocks (e_told m k j) delta)))) 0 12)

-- the opened d and e: the own bit and all others'
unfoldable pub d_opened : Frame → List ℕ → List ℕ → (ℕ → List ℕ) → ℕ → Bool
d_opened f triples alpha m j = addb (d f triples alpha j).bit (others bits f.i f.n (λ k. d_told m k j))

unfoldable pub e_opened : Frame → List ℕ → List ℕ → List ℕ → (ℕ → List ℕ) → ℕ → Bool
e_opened f recs perm beta m j = addb (e f recs perm beta j).bit (others bits f.i f.n (λ k. e_told m k j))

-- "result c + d·beta + e·a"
unfoldable pub finish : Share → Share → Share → Bool → Bool → Share
finish c beta a d e = shares.op (shares.op c (sel shares d beta)) (sel shares e a)

unfoldable pub result_share : Frame → List ℕ → List ℕ → List ℕ → List ℕ → List ℕ → (ℕ → List ℕ) → ℕ → Share
result_share f recs perm triples alpha beta m j =
    finish (c f triples j) (share f beta j) (a f triples j) (d_opened f triples alpha m j) (e_opened f recs perm beta m j)

-- the l result records, as they are given back
unfoldable pub results : Frame → List ℕ → List ℕ → List ℕ → List ℕ → List ℕ → (ℕ → List ℕ) → List ℕ
results f recs perm triples alpha beta m = cat f.l (λ j. lent_of f.n f.i (result_share f recs perm triples alpha beta m j))
