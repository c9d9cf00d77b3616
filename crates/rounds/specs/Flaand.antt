-- `flaand` (document 01, "What each round means"; WRK17b, Pi_LaAND): the leaky AND and its check. Rounds 15, 17 and 19. `recs` is the list
-- of records, leaky and zs the rows that `fhaand` kept, `m k` the message of party k.
use Rattle.std.specs.Prelude.{Bool, List, ℕ, ◌+◌, ◌*◌, get_or, take, drop}
use Rattle.lists.specs.Pick.{pick}
use Rattle.lists.specs.All.{all_of}
use Rattle.lists.specs.Over.{tab, cat}
use Rattle.lists.specs.Same.{same?}
use Rattle.lists.specs.Sect.{put}
use Rattle.algebra.specs.Group.{addb, sel, odd, num}
use Rattle.algebra.specs.Sum.{others}
use Rattle.block.specs.declared.Block.{Block}
use Rattle.block.specs.Block.{block_at, bytes_of, eq_block}
use Rattle.block.specs.Group.{blocks}
use Rattle.blake3.specs.Tree.{hash}
use Rattle.encode.specs.Encode.{encode, bit_block}
use Rattle.plan.specs.Plan.{leaky}
use Rattle.engine.specs.declared.Frame.{Frame}
use Rattle.engine.specs.Step.{Fault, or_else, by_party}
use Rattle.rounds.specs.Area as Area
use Rattle.rounds.specs.Haand.{x, r, phi_at, key_hash, u_at, z_at, mac_hash}

-- ---- round 15: "Send to j: e and u", "e = z + r"
unfoldable pub e : Frame → List ℕ → List ℕ → ℕ → Bool
e f recs zs t = addb (z_at zs t) (r f recs t).bit

unfoldable pub flaand_msg : Frame → List ℕ → List ℕ → List ℕ → ℕ → List ℕ
flaand_msg f recs rows zs j = encode (leaky f.l) (λ t. bit_block (e f recs zs t) (u_at f rows j t))

-- the e and u that j sent
unfoldable pub e_told : (ℕ → List ℕ) → ℕ → ℕ → Bool
e_told m j t = odd (get_or (m j) (8 + t * 17) 0)

unfoldable pub u_told : (ℕ → List ℕ) → ℕ → ℕ → Block
u_told m j t = block_at (m j) (8 + t * 17 + 1)

unfoldable pub e_rows : Frame → (ℕ → List ℕ) → List ℕ
e_rows f m = Area.rows f (leaky f.l) (λ j. tab (leaky f.l) (λ t. num (e_told m j t)))

-- "z has r's MACs; its key of j is r's, plus delta where j's e is 1"
unfoldable pub z_key : Frame → Block → List ℕ → Bool → ℕ → ℕ → Block
z_key f delta recs ej t j = blocks.op ((r f recs t).key j) (sel blocks ej delta)

-- "h sums over j: z's MAC and key, G(x key of j), G(x MAC for j), the received u where x is 1; then phi where x is 1, delta where z is 1"
unfoldable pub h : Frame → Block → List ℕ → List ℕ → List ℕ → (ℕ → List ℕ) → ℕ → Block
h f delta recs rows zs m t =
    blocks.op
    (blocks.op
    (others blocks f.i f.n (λ j.
    blocks.op (blocks.op ((r f recs t).mac j) (z_key f delta recs (e_told m j t) t j)) (sel blocks (x f recs t).bit (u_told m j t))))
    (blocks.op (key_hash f rows t) (mac_hash zs t)))
    (blocks.op (sel blocks (x f recs t).bit (phi_at f rows t)) (sel blocks (z_at zs t) delta))

unfoldable pub hs : Frame → Block → List ℕ → List ℕ → List ℕ → (ℕ → List ℕ) → List ℕ
hs f delta recs rows zs m = cat (leaky f.l) (λ t. bytes_of (h f delta recs rows zs m t))

-- ---- rounds 17 and 19: "Send BLAKE3 of h, then h."
unfoldable pub comm_msg : Frame → List ℕ → List ℕ
comm_msg f own = encode (leaky f.l) (λ t. hash (bytes_of (block_at own (t * 16))))

-- the commitments to own h: hashed once, they wait in the own row of the others' until those are kept
unfoldable pub comms : Frame → List ℕ → List ℕ
comms f own = cat (leaky f.l) (λ t. hash (bytes_of (block_at own (t * 16))))

unfoldable pub own_comms : Frame → List ℕ → List ℕ → List ℕ
own_comms f own rows = put (f.i * (leaky f.l * 32)) (leaky f.l * 32) (comms f own) rows

unfoldable pub comm_rows : Frame → (ℕ → List ℕ) → List ℕ
comm_rows f m = Area.rows f (leaky f.l * 32) (λ k. take (leaky f.l * 32) (drop 8 (m k)))

unfoldable pub hash_msg : Frame → List ℕ → List ℕ
hash_msg f own = encode (leaky f.l) (λ t. bytes_of (block_at own (t * 16)))

-- the h that k sent
unfoldable pub h_told : (ℕ → List ℕ) → ℕ → ℕ → Block
h_told m k t = block_at (m k) (8 + t * 16)

-- 2 for the first party of which an h doesn't open its commitment
unfoldable pub opening : Frame → List ℕ → (ℕ → List ℕ) → Fault
opening f comms m =
    by_party f (λ k. pick (all_of (leaky f.l) (λ t.
    same? (hash (bytes_of (h_told m k t))) (take 32 (drop ((k * leaky f.l + t) * 32) comms)))) 0 2)

-- "All h sum to zero": else 10, which names i
unfoldable pub zero_sum : Frame → List ℕ → (ℕ → List ℕ) → Fault
zero_sum f own m = record {
  code = pick (all_of (leaky f.l) (λ t.
      eq_block (blocks.op (block_at own (t * 16)) (others blocks f.i f.n (λ k. h_told m k t))) blocks.nil)) 0 10;
  party = f.i;
}

-- each is opened first
unfoldable pub h_faults : Frame → List ℕ → List ℕ → (ℕ → List ℕ) → Fault
h_faults f own comms m = or_else (opening f comms m) (zero_sum f own m)
