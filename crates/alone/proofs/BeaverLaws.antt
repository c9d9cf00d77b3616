-- Round 22, `faand`: what is computed of the rows of PERM and TRIPLES is the formula's d and e, and the result records are the formula's.
use Rattle.std.specs.Prelude.{◌≡◌, Bool, ◌≢◌, List, ℕ, ◌<◌}
use Rattle.std.proofs.Math.Path.{ap, ap₂}
use Rattle.std.proofs.Common.{◌∙◌}
use Rattle.lists.specs.Rows.{cat-ext}
use Rattle.algebra.specs.Group.{bits, addb, sel}
use Rattle.algebra.specs.Sum.{others}
use Rattle.share.specs.Share.{Share, shares}
use Rattle.share.specs.ShareLaws.{Agree, agree-op, agree-sel, agree_refl}
use Rattle.share.specs.Lent.{lent_of}
use Rattle.share.specs.LentLaws.{agree-lent}
use Rattle.encode.specs.Encode.{two_bits_two_blocks}
use Rattle.engine.specs.declared.Frame.{Frame}
use Rattle.rounds.specs.Opening.{party}
use Rattle.rounds.specs.Buckets.{Triple, perm_bytes}
use Rattle.rounds.specs.Beaver as B
use Rattle.alone.specs.Formula as F
use Rattle.alone.specs.Formula.{Seen}
use Rattle.alone.specs.Holds.{triple_rows}
use Rattle.alone.specs.Cells.{encode-ext}
use Rattle.alone.specs.Given.{Admissible}
use Rattle.alone.proofs.BucketsLaws.{a_read, c_read, small-abc, b-is}

pub agree-finish : (n i : ℕ) (c β a c' β' a' : Share) (p q : Bool) → Agree n i c c' → Agree n i β β' → Agree n i a a'
    → Agree n i (B.finish c β a p q) (B.finish c' β' a' p q)
unfolding B.finish
agree-finish n i c β a c' β' a' p q hc hb ha =
    agree-op n i (shares.op c (sel shares p β)) (sel shares q a) (shares.op c' (sel shares p β')) (sel shares q a')
    (agree-op n i c (sel shares p β) c' (sel shares p β') hc (agree-sel n i p β β' hb)) (agree-sel n i q a a' ha)

module _ (S : Seen) (I : Admissible S) where
  open S use {inputs as a, mail as m}

  abbrev f : Frame
  f = party S.inputs

  -- what PERM and TRIPLES hold
  abbrev perm : List ℕ
  perm = perm_bytes f (F.joint_seed S)

  abbrev triples : List ℕ
  triples = triple_rows S

  a-is : (j : ℕ) → j < f.l → Agree f.n f.i (B.a f triples j) (F.abc S j).tx
  unfolding triple_rows
  a-is j lj = a_read f (F.abc S) j lj (small-abc S I j)

  c-is : (j : ℕ) → j < f.l → Agree f.n f.i (B.c f triples j) (F.abc S j).tz
  unfolding triple_rows
  c-is j lj = c_read f (F.abc S) j lj (small-abc S I j)

  d-is : (j : ℕ) → j < f.l → Agree f.n f.i (B.d f triples a.alpha j) (F.beaver_d S j)
  unfolding B.d F.beaver_d F.alpha
  d-is j lj = agree-op f.n f.i _ _ _ _ (a-is j lj) (agree_refl f.n f.i _)

  e-is : (j : ℕ) → j < f.l → B.e f a.bits perm a.beta j ≡ F.beaver_e S j
  unfolding B.e F.beaver_e F.beta
  e-is j lj = ap (λ (s : Share). shares.op s (B.share f a.beta j)) (b-is S I j lj)

  pub msg-22 : (k : ℕ) → k < f.n → f.i ≢ k → B.faand_msg f a.bits perm triples a.alpha a.beta k ≡ F.sent22 S k
  unfolding B.faand_msg F.sent22
  msg-22 k lk ne =
      encode-ext f.l _ _ (λ j lj.
      (λ q. two_bits_two_blocks ((d-is j lj).bit q) (e-is j lj q).bit ((d-is j lj).mac k lk ne q) ((e-is j lj q).mac k)))

  -- the opened d and e
  d-opened : (j : ℕ) → j < f.l → B.d_opened f triples a.alpha (m 22) j ≡ F.beaver_d_opened S j
  unfolding B.d_opened F.beaver_d_opened
  d-opened j lj = ap (λ (b : Bool). addb b (others bits f.i f.n (λ k. B.d_told (m 22) k j))) (d-is j lj).bit

  e-opened : (j : ℕ) → j < f.l → B.e_opened f a.bits perm a.beta (m 22) j ≡ F.beaver_e_opened S j
  unfolding B.e_opened F.beaver_e_opened
  e-opened j lj = ap (λ (s : Share). addb s.bit (others bits f.i f.n (λ k. B.e_told (m 22) k j))) (e-is j lj)

  pub results-are : B.results f a.bits perm triples a.alpha a.beta (m 22) ≡ F.result S
  unfolding B.results B.result_share F.result F.result_share F.beta
  results-are =
      cat-ext f.l _ _ (λ j lj.
      let c : Share = B.c f triples j in
      let b : Share = B.share f a.beta j in
      let s : Share = B.a f triples j in
      let g : Triple = F.abc S j in
      ap₂ (λ (p q : Bool). lent_of f.n f.i (B.finish c b s p q)) (d-opened j lj) (e-opened j lj)
      ∙ agree-lent f.n f.i _ _ (agree-finish f.n f.i c b s g.tz b g.tx (F.beaver_d_opened S j) (F.beaver_e_opened S j)
      (c-is j lj) (agree_refl f.n f.i b) (a-is j lj)))
