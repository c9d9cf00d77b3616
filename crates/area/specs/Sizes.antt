-- How long each section is (docs/WORK_AREA.md).
use Rattle.std.specs.Prelude.{◌≡◌, ◌-◌, ◌*◌}
use Rattle.std.proofs.Math.Path.{refl}
use Rattle.share.specs.Record.{record_len}
use Rattle.plan.specs.Plan.{bucket_size, leaky, bits_count}
use Rattle.engine.specs.declared.Frame.{Frame}
use Rattle.rounds.specs.Area.{SEED, PAIRS, MASKS, BITS, ALPHA, BETA, COMMS, JOINT, PAIR_COMMS, SHARE_COMMS}
use Rattle.rounds.specs.Area.{LEAKY, ZS, ES, HS, H_COMMS, PERM, DS, TRIPLES, PENDING, HASHES, leaky_len, sizes, size_of}
use Rattle.rounds.specs.Fashare.{COMM_ROW}

module _ (f : Frame) where
  pub size-seed : size_of f SEED ≡ 32
  unfolding size_of sizes
  size-seed = refl

  pub size-pairs : size_of f PAIRS ≡ 32 * f.n
  unfolding size_of sizes
  size-pairs = refl

  pub size-masks : size_of f MASKS ≡ f.n * leaky f.l
  unfolding size_of sizes
  size-masks = refl

  pub size-bits : size_of f BITS ≡ bits_count f.l * record_len f.n
  unfolding size_of sizes
  size-bits = refl

  pub size-alpha : size_of f ALPHA ≡ f.l * record_len f.n
  unfolding size_of sizes
  size-alpha = refl

  pub size-beta : size_of f BETA ≡ f.l * record_len f.n
  unfolding size_of sizes
  size-beta = refl

  pub size-comms : size_of f COMMS ≡ f.n * 32
  unfolding size_of sizes
  size-comms = refl

  pub size-joint : size_of f JOINT ≡ 32
  unfolding size_of sizes
  size-joint = refl

  pub size-pair-comms : size_of f PAIR_COMMS ≡ f.n * 32
  unfolding size_of sizes
  size-pair-comms = refl

  pub size-share-comms : size_of f SHARE_COMMS ≡ f.n * COMM_ROW
  unfolding size_of sizes
  size-share-comms = refl

  pub size-leaky : size_of f LEAKY ≡ leaky f.l * leaky_len f.n
  unfolding size_of sizes
  size-leaky = refl

  pub size-zs : size_of f ZS ≡ leaky f.l * 17
  unfolding size_of sizes
  size-zs = refl

  pub size-es : size_of f ES ≡ f.n * leaky f.l
  unfolding size_of sizes
  size-es = refl

  pub size-hs : size_of f HS ≡ leaky f.l * 16
  unfolding size_of sizes
  size-hs = refl

  pub size-h-comms : size_of f H_COMMS ≡ f.n * (leaky f.l * 32)
  unfolding size_of sizes
  size-h-comms = refl

  pub size-perm : size_of f PERM ≡ leaky f.l * 4
  unfolding size_of sizes
  size-perm = refl

  pub size-ds : size_of f DS ≡ f.l * (bucket_size f.l - 1)
  unfolding size_of sizes
  size-ds = refl

  pub size-triples : size_of f TRIPLES ≡ f.l * (2 * record_len f.n)
  unfolding size_of sizes
  size-triples = refl

  pub size-pending : size_of f PENDING ≡ 2
  unfolding size_of sizes
  size-pending = refl

  pub size-hashes : size_of f HASHES ≡ f.n * 16
  unfolding size_of sizes
  size-hashes = refl
