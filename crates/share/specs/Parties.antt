-- The records of all parties together: one shared bit, in the words of ../algebra, whose MAC rule speaks of it.
use Rattle.std.specs.Prelude.{◌≡◌, Bool, true, false, List, take, drop}
use Rattle.std.proofs.Math.Path.{refl, ap, ap₂}
use Rattle.std.proofs.Common.{sym, ◌∙◌, subst}
use Prim.Native.Nat.{ℕ, zero, suc, ◌+◌, ◌*◌, ◌<◌}
use Rattle.lists.specs.Bytes.{Bytes}
use Rattle.algebra.specs.Group.{bits, sel}
use Rattle.algebra.specs.Sum.{sum, sum-ext}
use Rattle.algebra.specs.Share.{Shared, shared, total, Good}
use Rattle.block.specs.declared.Block.{Block}
use Rattle.block.specs.Group.{blocks}
use Rattle.share.specs.Record.{record_len, bit_at, mac_at, key_at}
use Rattle.share.specs.Share.{Share, share_at, shares, record_of}
use Rattle.share.specs.ShareLaws.{SmallShare, Agree, read_here}
use Rattle.share.specs.Lent.{LABEL, lent_len, lent_of, lent_at, kept_of}
use Rattle.share.specs.LentLaws.{read-lent, kept_row, small-lent}

-- files i is party i's file of shares; each has a record at `at`
unfoldable pub shared_at : (ℕ → List ℕ) → ℕ → Shared Block
shared_at files at = record { bit = λ i. bit_at (files i) at; mac = λ i. mac_at (files i) at; key = λ i. key_at (files i) at }

-- the same where the records have labels
unfoldable pub lent_shared : (ℕ → List ℕ) → ℕ → Shared Block
lent_shared files at = record {
  bit = λ i. bit_at (files i) at;
  mac = λ i. mac_at (files i) (at + LABEL);
  key = λ i. key_at (files i) (at + LABEL);
}

-- party i's share of a shared bit
unfoldable pub share_of : ℕ → Shared Block → Share
share_of i v = record { bit = v.bit i; mac = v.mac i; key = v.key i }

pub share-of-at : (files : ℕ → List ℕ) (at i : ℕ) → share_of i (shared_at files at) ≡ share_at (files i) at
unfolding share_of shared_at share_at
share-of-at files at i = refl

-- ---- what the group of shared bits does is, at each party, what the group of shares does
module _ (i : ℕ) where
  pub share-of-nil : share_of i (shared blocks).nil ≡ shares.nil
  unfolding share_of shared shares
  share-of-nil = refl

  pub share-of-op : (u v : Shared Block) → share_of i ((shared blocks).op u v) ≡ shares.op (share_of i u) (share_of i v)
  unfolding share_of shared shares
  share-of-op u v = refl

  pub share-of-sel : (d : Bool) (v : Shared Block) → share_of i (sel (shared blocks) d v) ≡ sel shares d (share_of i v)
  share-of-sel false v = share-of-nil
  share-of-sel true v = refl

  pub share-of-sum : (m : ℕ) (f : ℕ → Shared Block) → share_of i (sum (shared blocks) m f) ≡ sum shares m (λ j. share_of i (f j))
  unfolding sum
  share-of-sum zero f = share-of-nil
  share-of-sum (suc m) f =
      share-of-op (sum (shared blocks) m f) (f m) ∙ ap (λ (x : Share). shares.op x (share_of i (f m))) (share-of-sum m f)

-- ---- records that hold a shared bit, each party's its own share
module _ (n : ℕ) (v : Shared Block) (files : ℕ → List ℕ) (at : ℕ)
    (agree : (i : ℕ) → i < n → Agree n i (share_at (files i) at) (share_of i v)) where
  pub good-at : (δ : ℕ → Block) → Good blocks n δ v → Good blocks n δ (shared_at files at)
  unfolding shared_at share_at share_of
  good-at δ g i j li lj ne =
      (agree i li).mac j lj ne ∙ g i j li lj ne
      ∙ ap₂ (λ (k : Block) (b : Bool). blocks.op k (sel blocks b (δ j))) (sym ((agree j lj).key i li (λ e. ne (sym e))))
      (sym (agree i li).bit)

  pub total-at : total n (shared_at files at) ≡ total n v
  unfolding shared_at share_at share_of
  total-at = sum-ext bits n (λ i. bit_at (files i) at) v.bit (λ i l. (agree i l).bit)

-- such are the records that were written of it
pub written_at : (n : ℕ) (v : Shared Block) (files : ℕ → List ℕ) (at : ℕ)
    → ((i : ℕ) → i < n → take (record_len n) (drop at (files i)) ≡ record_of n i (share_of i v))
    → ((i : ℕ) → i < n → SmallShare n (share_of i v))
    → (i : ℕ) → i < n → Agree n i (share_at (files i) at) (share_of i v)
written_at n v files at here small i l = read_here n i (share_of i v) (files i) at (here i l) (small i l)

-- ---- the same of records with labels
pub share-of-lent : (files : ℕ → List ℕ) (at i : ℕ) → share_of i (lent_shared files at) ≡ lent_at (files i) at
unfolding share_of lent_shared lent_at
share-of-lent files at i = refl

module _ (n : ℕ) (v : Shared Block) (files : ℕ → List ℕ) (at : ℕ)
    (agree : (i : ℕ) → i < n → Agree n i (lent_at (files i) at) (share_of i v)) where
  pub good-lent : (δ : ℕ → Block) → Good blocks n δ v → Good blocks n δ (lent_shared files at)
  unfolding lent_shared lent_at share_of
  good-lent δ g i j li lj ne =
      (agree i li).mac j lj ne ∙ g i j li lj ne
      ∙ ap₂ (λ (k : Block) (b : Bool). blocks.op k (sel blocks b (δ j))) (sym ((agree j lj).key i li (λ e. ne (sym e))))
      (sym (agree i li).bit)

  pub total-lent : total n (lent_shared files at) ≡ total n v
  unfolding lent_shared lent_at share_of
  total-lent = sum-ext bits n (λ i. bit_at (files i) at) v.bit (λ i l. (agree i l).bit)

-- such are the records that were written of it
pub lent_written : (n : ℕ) (v : Shared Block) (files : ℕ → List ℕ) (at : ℕ)
    → ((i : ℕ) → i < n → take (lent_len n) (drop at (files i)) ≡ lent_of n i (share_of i v))
    → ((i : ℕ) → i < n → SmallShare n (share_of i v))
    → (i : ℕ) → i < n → Agree n i (lent_at (files i) at) (share_of i v)
lent_written n v files at here small i l = read-lent n i (share_of i v) (files i) at (here i l) (small i l)

-- what the parties keep of their lists
module _ (n : ℕ) (files : ℕ → List ℕ) (count t : ℕ) (lt : t < count) (bytes : (i : ℕ) → i < n → Bytes (files i)) where
  abbrev kept : ℕ → List ℕ
  kept i = kept_of n i count (files i)

  pub kept-agree : (i : ℕ) → i < n → Agree n i (share_at (kept i) (t * record_len n)) (share_of i (lent_shared files (t * lent_len n)))
  kept-agree i l =
      written_at n (lent_shared files (t * lent_len n)) kept (t * record_len n)
      (λ i l. kept_row n i (files i) count t lt ∙ ap (record_of n i) (sym (share-of-lent files (t * lent_len n) i)))
      (λ i l. subst (SmallShare n) (sym (share-of-lent files (t * lent_len n) i)) (small-lent n i (files i) (t * lent_len n) (bytes i l)))
      i l
