-- What one box sends and what it ends with, whoever it talks to (document 01, "What each round means"): of what it was opened with, its
-- inputs, of the r strings that it was lent, and of the messages that it received: `mail k j` is party j's for round k.
-- `strings` is r as it was lent, all strings or a seed. Nothing here knows a work area.
-- The lists of shares among the inputs are as the box keeps them (rounds/Opening.antt, `kept`): the lent shares, in records without labels.
use Rattle.std.specs.Prelude.{Bool, cond, ◌&&◌, List, [], ℕ, suc, ◌+◌, ◌*◌, get_or, eqb}
use Rattle.lists.specs.Pick.{pick}
use Rattle.lists.specs.Over.{cat}
use Rattle.lists.specs.Rows.{chunk}
use Rattle.algebra.specs.Group.{bits, addb, sel, odd}
use Rattle.algebra.specs.Sum.{neq, others}
use Rattle.block.specs.declared.Block.{Block}
use Rattle.block.specs.Block.{block_at, bytes_of, xor_inplace}
use Rattle.block.specs.Group.{blocks}
use Rattle.blake3.specs.Tree.{hash}
use Rattle.share.specs.Share.{Share, shares}
use Rattle.share.specs.Lent.{lent_of}
use Rattle.encode.specs.Encode.{encode, bit_block, dvalue_item, two_bits_two_blocks, none_item, some_item}
use Rattle.plan.specs.Plan.{leaky, bucket_size}
use Rattle.engine.specs.declared.Frame.{Frame}
use Rattle.rounds.specs.Opening.{Args, party}
use Rattle.rounds.specs.Echo.{hash_vec}
use Rattle.rounds.specs.Toss as Toss
use Rattle.rounds.specs.Fabitn as Fabitn
use Rattle.rounds.specs.Fashare as Fashare
use Rattle.rounds.specs.Haand as Haand
use Rattle.rounds.specs.Haand.{G}
use Rattle.rounds.specs.Flaand as Flaand
use Rattle.rounds.specs.Buckets.{Triple, combine, later, d_told}
use Rattle.rounds.specs.Buckets as Buckets
use Rattle.rounds.specs.Beaver as Beaver

-- what one box has to go by
pub record Seen : Type 0 where
  pub inputs : Args
  pub strings : List ℕ
  pub mail : ℕ → ℕ → List ℕ

module _ (S : Seen) where
  open S use {inputs as a, strings, mail as m}

  abbrev f : Frame
  f = party S.inputs

  -- ---- what the box was opened with
  unfoldable pub delta : Block
  delta = block_at a.delta 0

  -- the seed of the toss with party k
  unfoldable pub pair_seed : ℕ → List ℕ
  pair_seed k = chunk 32 k a.pairs

  -- "Shares split in three runs x, y, r of l·b"
  unfoldable pub x : ℕ → Share
  x t = Haand.x f a.bits t

  unfoldable pub y : ℕ → Share
  y t = Haand.y f a.bits t

  unfoldable pub r : ℕ → Share
  r t = Haand.r f a.bits t

  -- record j of alpha and of beta
  unfoldable pub alpha : ℕ → Share
  alpha j = Beaver.share f a.alpha j

  unfoldable pub beta : ℕ → Share
  beta j = Beaver.share f a.beta j

  -- ---- tosses: rounds 1 and 3, 4 and 5
  unfoldable pub sent1 : List ℕ
  sent1 = Toss.comm_msg a.seed f.i

  unfoldable pub sent3 : List ℕ
  sent3 = Toss.ver_msg a.seed

  -- "The joint seed is the XOR of all seeds"
  unfoldable pub joint_seed : List ℕ
  joint_seed = Toss.joint_seed f a.seed (m 3)

  unfoldable pub sent4 : ℕ → List ℕ
  sent4 k = Toss.comm_msg (pair_seed k) f.i

  unfoldable pub sent5 : ℕ → List ℕ
  sent5 k = Toss.ver_msg (pair_seed k)

  -- "a pairwise seed is the XOR of two": the one with party k
  unfoldable pub pairwise_seed : ℕ → List ℕ
  pairwise_seed k = xor_inplace (pair_seed k) (Toss.told (m 5 k))

  -- ---- `fabitn`: round 6. "Send the chosen bits' XOR and, to k, the XOR of the chosen MACs for k."
  unfoldable pub sent6 : ℕ → List ℕ
  sent6 k = Fabitn.abit_msg f strings a.bits k

  -- ---- `fashare`: rounds 8, 10 and 12. "Send BLAKE3 of d0, d1, dm; then dm; then d0 or d1 by the XOR of the others' bits."
  unfoldable pub sent8 : List ℕ
  sent8 = Fashare.comm_msg f delta a.bits

  unfoldable pub sent10 : List ℕ
  sent10 = Fashare.ver_msg f a.bits

  -- the bit of the dm that party k sent for string q: its first byte
  unfoldable pub dm_bit : ℕ → ℕ → Bool
  dm_bit k q = odd (get_or (m 10 k) (Fashare.dm_at (m 10 k) q) 0)

  unfoldable pub di : ℕ → Block
  di q = cond (others bits f.i f.n (λ k. dm_bit k q)) (Fashare.d1 f delta a.bits q) (Fashare.d0 f a.bits q)

  unfoldable pub sent12 : List ℕ
  sent12 = encode 40 (λ q. bytes_of (di q))

  -- ---- `fhaand`: round 14. "Per x share send to j: H(key of j) + s and H(that key + delta) + s + y, s the mask."
  unfoldable pub sent14 : ℕ → List ℕ
  sent14 j = Haand.haand_msg f delta a.masks a.bits j

  -- ---- `flaand`: rounds 15, 17 and 19
  -- "z = v + x·y"
  unfoldable pub z : ℕ → Bool
  z t = Haand.z f a.masks a.bits (m 14) t

  -- "e = z + r"
  unfoldable pub e : ℕ → Bool
  e t = addb (z t) (r t).bit

  -- "phi sums y's keys and MACs, and delta where y is 1."
  unfoldable pub phi : ℕ → Block
  phi t = Haand.phi f delta a.bits t

  -- "Send to j: e and u = G(x key of j) + G(that + delta) + phi."
  unfoldable pub u : ℕ → ℕ → Block
  u j t = blocks.op (blocks.op (G ((x t).key j)) (G (blocks.op ((x t).key j) delta))) (phi t)

  unfoldable pub sent15 : ℕ → List ℕ
  sent15 j = encode (leaky f.l) (λ t. bit_block (e t) (u j t))

  -- "z has r's MACs; its key of j is r's, plus delta where j's e is 1."
  unfoldable pub z_share : ℕ → Share
  z_share t = record {
    bit = z t;
    mac = (r t).mac;
    key = λ j. blocks.op ((r t).key j) (sel blocks (Flaand.e_told (m 15) j t) delta);
  }

  -- "h sums over j: z's MAC and key, G(x key of j), G(x MAC for j), the received u where x is 1;"
  unfoldable pub h_term : ℕ → ℕ → Block
  h_term t j =
      blocks.op
      (blocks.op (blocks.op (blocks.op ((z_share t).mac j) ((z_share t).key j)) (G ((x t).key j))) (G ((x t).mac j)))
      (sel blocks (x t).bit (Flaand.u_told (m 15) j t))

  -- "then phi where x is 1, delta where z is 1."
  unfoldable pub h : ℕ → Block
  h t = blocks.op (blocks.op (others blocks f.i f.n (h_term t)) (sel blocks (x t).bit (phi t))) (sel blocks (z t) delta)

  -- "Send BLAKE3 of h, then h."
  unfoldable pub sent17 : List ℕ
  sent17 = encode (leaky f.l) (λ t. hash (bytes_of (h t)))

  unfoldable pub sent19 : List ℕ
  sent19 = encode (leaky f.l) (λ t. bytes_of (h t))

  -- ---- buckets: round 21
  -- "the permutation from the joint seed" (02, order 6)
  unfoldable pub order : List ℕ
  order = Buckets.order f joint_seed

  -- "Bucket j takes entries j·b onward of the permutation.": its entry e
  unfoldable pub entry : ℕ → ℕ → ℕ
  entry j e = get_or order (j * bucket_size f.l + e) 0

  -- "d = first y + later y.": for the later entry e
  unfoldable pub d : ℕ → ℕ → Share
  d j e = shares.op (y (entry j 0)) (y (entry j (suc e)))

  unfoldable pub sent21 : ℕ → List ℕ
  sent21 k = encode f.l (λ j. dvalue_item (later f) (λ e. (d j e).bit) (λ e. (d j e).mac k))

  -- d opened: the own bit and all others'
  unfoldable pub d_opened : ℕ → ℕ → Bool
  d_opened j e = addb (d j e).bit (others bits f.i f.n (λ k. d_told f (m 21) k j e))

  -- the leaky AND at position t
  unfoldable pub leaky_and : ℕ → Triple
  leaky_and t = record { tx = x t; ty = y t; tz = z_share t }

  -- "Combining: x = x1 + x2, y = y1, z = z1 + z2 + d·x2.", over bucket j: a, b and c
  unfoldable pub abc : ℕ → Triple
  abc j = combine (λ e. leaky_and (entry j e)) (d_opened j) (later f)

  -- ---- `beaver_aand`: round 22. "d = a + alpha, e = b + beta, opened; result c + d·beta + e·a."
  unfoldable pub beaver_d : ℕ → Share
  beaver_d j = shares.op (abc j).tx (alpha j)

  unfoldable pub beaver_e : ℕ → Share
  beaver_e j = shares.op (abc j).ty (beta j)

  unfoldable pub sent22 : ℕ → List ℕ
  sent22 k = encode f.l (λ j. two_bits_two_blocks (beaver_d j).bit (beaver_e j).bit ((beaver_d j).mac k) ((beaver_e j).mac k))

  unfoldable pub beaver_d_opened : ℕ → Bool
  beaver_d_opened j = addb (beaver_d j).bit (others bits f.i f.n (λ k. Beaver.d_told (m 22) k j))

  unfoldable pub beaver_e_opened : ℕ → Bool
  beaver_e_opened j = addb (beaver_e j).bit (others bits f.i f.n (λ k. Beaver.e_told (m 22) k j))

  unfoldable pub result_share : ℕ → Share
  result_share j = Beaver.finish (abc j).tz (beta j) (abc j).tx (beaver_d_opened j) (beaver_e_opened j)

  -- ---- echoes, of what was received for round k: "`hash_vec` .. of every other list received, sent to all but its sender." "The message
  -- is a list of n options, absent for the box itself and for the receiver."
  unfoldable pub echo_of : ℕ → ℕ → List ℕ
  echo_of k r = encode f.n (λ j. pick (neq f.i j && neq r j) (some_item (hash_vec k (m k j))) none_item)

  -- ---- in all
  -- the message of round k, which is no echo, to party j
  unfoldable pub sent : ℕ → ℕ → List ℕ
  sent k j =
      pick (eqb k 1) sent1 (pick (eqb k 3) sent3 (pick (eqb k 4) (sent4 j) (pick (eqb k 5) (sent5 j) (pick (eqb k 6) (sent6 j)
      (pick (eqb k 8) sent8 (pick (eqb k 10) sent10 (pick (eqb k 12) sent12 (pick (eqb k 14) (sent14 j) (pick (eqb k 15) (sent15 j)
      (pick (eqb k 17) sent17 (pick (eqb k 19) sent19 (pick (eqb k 21) (sent21 j) (pick (eqb k 22) (sent22 j)
      [])))))))))))))

  -- "the l result records", as they are given back: with labels
  unfoldable pub result : List ℕ
  result = cat f.l (λ j. lent_of f.n f.i (result_share j))
