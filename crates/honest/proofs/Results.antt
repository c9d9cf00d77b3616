-- The result records of an honest run, read back over all boxes: they keep the MAC rule, and the bits of each result XOR to
-- (XOR of alphas) AND (XOR of betas).
use Rattle.std.specs.Prelude.{◌≡◌, List, ℕ, ◌*◌, ◌<◌, length, take, drop}
use Rattle.std.proofs.Common.{ap, ◌∙◌}
use Rattle.lists.specs.Over.{length-cat}
use Rattle.algebra.specs.Group.{bits, sel}
use Rattle.algebra.specs.Share.{total, Good, Triple, beaver}
use Rattle.block.specs.Group.{blocks}
use Rattle.share.specs.ShareLaws.{Agree}
use Rattle.share.specs.Lent.{lent_len, lent_of, lent_at}
use Rattle.share.specs.LentLaws.{length-lent_of, lent_row}
use Rattle.share.specs.Parties.{lent_shared, share_of, good-lent, total-lent, lent_written}
use Rattle.honest.specs.Script as S
use Rattle.honest.specs.Inputs.{Run, Boxes, deltas, alphas_of, betas_of}
use Rattle.honest.specs.Values.{LeakyTriples}
use Rattle.honest.proofs.Buckets.{a_of, b_of, c_of, abc-triple}
use Rattle.honest.proofs.Beaver.{out_of, small-out, result-is}

module _ (R : Run) (X : Boxes R) where
  open R use {n, l}

  -- what each box writes at the end
  abbrev result : ℕ → List ℕ
  result i = S.result_of R i

  pub length-result : (i : ℕ) → i < n → length (S.result_of R i) ≡ l * lent_len n
  length-result i li = ap length (result-is R X i li) ∙ length-cat l (lent_len n) _ (λ j lj. length-lent_of n i _)

  module _ (t : ℕ) (lt : t < l) where
    here : (i : ℕ) → i < n → take (lent_len n) (drop (t * lent_len n) (result i)) ≡ lent_of n i (share_of i (out_of R t))
    here i li =
        ap (λ (s : List ℕ). take (lent_len n) (drop (t * lent_len n) s)) (result-is R X i li)
        ∙ lent_row n i l (λ j. share_of i (out_of R j)) t lt

    read : (i : ℕ) → i < n → Agree n i (lent_at (result i) (t * lent_len n)) (share_of i (out_of R t))
    read = lent_written n (out_of R t) result (t * lent_len n) here (λ i li. small-out R X i t li)

    module _ (L : LeakyTriples R) where
      product : Triple blocks n (deltas R) (alphas_of R t) (betas_of R t) (out_of R t)
      product =
          beaver blocks n (deltas R) (a_of R t) (b_of R t) (c_of R t)
          (alphas_of R t) (betas_of R t) (abc-triple R X L t lt) (X.alpha-mac t lt) (X.beta-mac t lt)

      pub good-result : Good blocks n (deltas R) (lent_shared (λ i. S.result_of R i) (t * lent_len n))
      good-result = good-lent n (out_of R t) result (t * lent_len n) read (deltas R) product.good-c

      pub total-result : total n (lent_shared (λ i. S.result_of R i) (t * lent_len n))
          ≡ sel bits (total n (alphas_of R t)) (total n (betas_of R t))
      total-result = total-lent n (out_of R t) result (t * lent_len n) read ∙ product.product
