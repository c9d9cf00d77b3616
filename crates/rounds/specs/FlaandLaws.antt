-- Rounds 17 and 19: the commitments to own h, in the own row of the others', and as the items of the message.
use Rattle.std.specs.Prelude.{◌≡◌, ℕ, ◌+◌, ◌*◌, ◌<◌, length}
use Rattle.std.proofs.Math.Path.{refl, ap}
use Rattle.std.proofs.Common.{sym, ◌∙◌, arith}
use mathlib.Core.List.{List, ◌++◌}
use Rattle.std.proofs.Math.Seq.{take_all}
use Rattle.lists.specs.Over.{length-cat, in-chunks}
use Rattle.lists.specs.Rows.{chunk, cat-ext, cat-chunk}
use Rattle.lists.specs.Sect.{length-put, get-put-same}
use Rattle.lists.specs.Bytes.{Bytes}
use Rattle.block.specs.Block.{le8, block_at, bytes_of}
use Rattle.block.specs.Trip.{bytes_of-at}
use Rattle.blake3.specs.Tree.{hash}
use Rattle.encode.specs.Encode.{encode}
use Rattle.plan.specs.Plan.{leaky}
use Rattle.engine.specs.declared.Frame.{Frame}
use Rattle.blake3.specs.ByteLaws.{length-hash}
use Rattle.rounds.specs.Flaand.{comm_msg, comms, own_comms, hash_msg}

module _ (f : Frame) (own : List ℕ) where
  pub length-comms : length (comms f own) ≡ leaky f.l * 32
  unfolding comms
  length-comms =
      length-cat (leaky f.l) 32 (λ t. hash (bytes_of (block_at own (t * 16)))) (λ t l. length-hash (bytes_of (block_at own (t * 16))))

  -- what is sent: the count, and they
  pub comms-sent : le8 (leaky f.l) ++ comms f own ≡ comm_msg f own
  unfolding comms comm_msg encode
  comms-sent = refl

  -- h itself: the count, and HS as it is
  pub hs-sent : Bytes own → length own ≡ leaky f.l * 16 → le8 (leaky f.l) ++ own ≡ hash_msg f own
  unfolding hash_msg encode chunk
  hs-sent b h =
      ap (λ (x : List ℕ). le8 (leaky f.l) ++ x)
      (sym (cat-ext (leaky f.l) (λ t. bytes_of (block_at own (t * 16))) (λ t. chunk 16 t own)
      (λ t l. bytes_of-at own b (t * 16) (omega (arith, in-chunks t (leaky f.l) 16 l)))
      ∙ cat-chunk 16 (leaky f.l) own ∙ take_all (leaky f.l * 16) own (omega (arith, h))))

  module _ (rows : List ℕ) (own_is : f.i < f.n) (long : length rows ≡ f.n * (leaky f.l * 32)) where
    pub length-own_comms : length (own_comms f own rows) ≡ f.n * (leaky f.l * 32)
    unfolding own_comms
    length-own_comms =
        length-put (f.i * (leaky f.l * 32)) (leaky f.l * 32) (comms f own) rows length-comms
        (omega (arith, in-chunks f.i f.n (leaky f.l * 32) own_is))
        ∙ long

    pub own_row : chunk (leaky f.l * 32) f.i (own_comms f own rows) ≡ comms f own
    unfolding own_comms chunk
    own_row =
        get-put-same (f.i * (leaky f.l * 32)) (leaky f.l * 32) (comms f own) rows length-comms
        (omega (arith, in-chunks f.i f.n (leaky f.l * 32) own_is))
