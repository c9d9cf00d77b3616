-- `faand` (document 01, "What each round means"; WRK17b, Pi_aAND): buckets of leaky ANDs, combined. Round 21. `recs` is the list of
-- records, zs the rows with the own bits z, es the others' e, perm the permutation in bytes, `m k` the message of party k.
use Rattle.std.specs.Prelude.{Bool, List, ◌++◌, ℕ, zero, suc, ◌+◌, ◌-◌, ◌*◌, ◌%◌, get_or}
use Rattle.lists.specs.Pick.{pick}
use Rattle.lists.specs.All.{all_of}
use Rattle.lists.specs.Over.{tab, cat}
use Rattle.algebra.specs.Group.{bits, addb, sel, odd, num}
use Rattle.algebra.specs.Sum.{others}
use Rattle.block.specs.declared.Block.{Block}
use Rattle.block.specs.Block.{block_at, eq_block}
use Rattle.block.specs.Group.{blocks}
use Rattle.share.specs.Share.{Share, shares, record_of}
use Rattle.word.specs.Word.{word_at, le4s}
use Rattle.shuffle.specs.Shuffle.{permutation}
use Rattle.encode.specs.Encode.{encode, dvalue_item}
use Rattle.plan.specs.Plan.{leaky, bucket_size}
use Rattle.engine.specs.declared.Frame.{Frame}
use Rattle.engine.specs.Step.{Fault, by_party}
use Rattle.rounds.specs.Haand.{x, y, r, z_at}
use Rattle.rounds.specs.Flaand.{z_key}

-- ---- combining, step by step: "x = x1 + x2, y = y1, z = z1 + z2 + d·x2"
pub record Triple : Type 0 where
  pub tx : Share
  pub ty : Share
  pub tz : Share

unfoldable pub two : Triple → Triple → Bool → Triple
two a b d = record { tx = shares.op a.tx b.tx; ty = a.ty; tz = shares.op (shares.op a.tz b.tz) (sel shares d b.tx) }

-- c + 1 triples, one by one from the left; d e was opened for triple e + 1
unfoldable pub combine : (ℕ → Triple) → (ℕ → Bool) → ℕ → Triple
combine g d zero = g 0
combine g d (suc e) = two (combine g d e) (g (suc e)) (d e)

-- ---- the buckets
-- "the permutation from the joint seed" (02, order 6), of 0 to l·b − 1
unfoldable pub order : Frame → List ℕ → List ℕ
order f joint = permutation joint (leaky f.l)

-- as it is kept: 32-bit numbers, low byte first
unfoldable pub perm_bytes : Frame → List ℕ → List ℕ
perm_bytes f joint = le4s (leaky f.l) (order f joint)

-- "Bucket j takes entries j·b onward of the permutation": its entry e. The numbers of a permutation are below l·b already; the remainder is
-- for a work area that holds anything else, so that no entry points outside the runs.
unfoldable pub entry : Frame → List ℕ → ℕ → ℕ → ℕ
entry f perm j e = word_at ((j * bucket_size f.l + e) * 4) perm % leaky f.l

-- how many later entries a bucket has
unfoldable pub later : Frame → ℕ
later f = bucket_size f.l - 1

-- ---- round 21
-- "d = first y + later y", for the later entry e
unfoldable pub d : Frame → List ℕ → List ℕ → ℕ → ℕ → Share
d f recs perm j e = shares.op (y f recs (entry f perm j 0)) (y f recs (entry f perm j (suc e)))

unfoldable pub dvalue_msg : Frame → List ℕ → List ℕ → ℕ → List ℕ
dvalue_msg f recs perm k = encode f.l (λ j. dvalue_item (later f) (λ e. (d f recs perm j e).bit) (λ e. (d f recs perm j e).mac k))

-- where bucket j begins in a message of due counts, and where its bit e and MAC e stand
unfoldable pub bucket_at : Frame → ℕ → ℕ
bucket_at f j = 8 + j * (8 + later f + (8 + 16 * later f))

unfoldable pub d_told : Frame → (ℕ → List ℕ) → ℕ → ℕ → ℕ → Bool
d_told f m k j e = odd (get_or (m k) (bucket_at f j + 8 + e) 0)

unfoldable pub d_mac_told : Frame → (ℕ → List ℕ) → ℕ → ℕ → ℕ → Block
d_mac_told f m k j e = block_at (m k) (bucket_at f j + 8 + later f + 8 + e * 16)

-- 11 for the first party of which a MAC isn't the key of d, plus delta where the bit is 1
unfoldable pub d_faults : Frame → Block → List ℕ → List ℕ → (ℕ → List ℕ) → Fault
d_faults f delta recs perm m =
    by_party f (λ k. pick (all_of f.l (λ j. all_of (later f) (λ e.
    eq_block (d_mac_told f m k j e) (blocks.op ((d f recs perm j e).key k) (sel blocks (d_told f m k j e) delta))))) 0 11)

-- the opened d: the own bit and all others'
unfoldable pub d_opened : Frame → List ℕ → List ℕ → (ℕ → List ℕ) → ℕ → ℕ → Bool
d_opened f recs perm m j e = addb (d f recs perm j e).bit (others bits f.i f.n (λ k. d_told f m k j e))

unfoldable pub ds : Frame → List ℕ → List ℕ → (ℕ → List ℕ) → List ℕ
ds f recs perm m = cat f.l (λ j. tab (later f) (λ e. num (d_opened f recs perm m j e)))

-- ---- the combined triples
-- z's share at position t
unfoldable pub z_share : Frame → Block → List ℕ → List ℕ → List ℕ → ℕ → Share
z_share f delta recs zs es t = record {
  bit = z_at zs t;
  mac = (r f recs t).mac;
  key = λ j. z_key f delta recs (odd (get_or es (j * leaky f.l + t) 0)) t j;
}

-- entry e of bucket j
unfoldable pub leaky_and : Frame → Block → List ℕ → List ℕ → List ℕ → List ℕ → ℕ → ℕ → Triple
leaky_and f delta recs zs es perm j e =
    let t = entry f perm j e in
    record { tx = x f recs t; ty = y f recs t; tz = z_share f delta recs zs es t }

unfoldable pub abc : Frame → Block → List ℕ → List ℕ → List ℕ → List ℕ → List ℕ → ℕ → Triple
abc f delta recs zs es perm opened j =
    combine (leaky_and f delta recs zs es perm j) (λ e. odd (get_or opened (j * later f + e) 0)) (later f)

-- a row of TRIPLES: a and c; b is the first y of the bucket, where it lies
unfoldable pub triple_row : Frame → Triple → List ℕ
triple_row f g = record_of f.n f.i g.tx ++ record_of f.n f.i g.tz

unfoldable pub triple_rows : Frame → Block → List ℕ → List ℕ → List ℕ → List ℕ → List ℕ → List ℕ
triple_rows f delta recs zs es perm opened = cat f.l (λ j. triple_row f (abc f delta recs zs es perm opened j))
