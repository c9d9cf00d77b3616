-- Round 6, `fabitn`, in an honest run: the sums of MACs that a box gets are its own sums of keys, plus delta where the sum of bits is 1.
use Rattle.std.specs.Prelude.{◌≡◌, Bool, ◌≢◌, ℕ, ◌+◌, ◌*◌, ◌<◌, length, get_or, eqb}
use Rattle.std.proofs.Math.Path.{refl, sym, ap, ap₂}
use Rattle.std.proofs.Common.{◌∙◌}
use mathlib.Core.List.{List}
use native.Mathlib.Omega.{arith}
use Rattle.lists.specs.Pick.{pick}
use Rattle.lists.specs.All.{all_of}
use Rattle.algebra.specs.Group.{sel, odd}
use Rattle.algebra.specs.Share.{chosen}
use Rattle.block.specs.declared.Block.{Block}
use Rattle.block.specs.Block.{block_at, bytes_of, Small, eq_block}
use Rattle.block.specs.Group.{blocks, eq_block_lem}
use Rattle.block.specs.Trip.{length-bytes_of, block_here, small-sum, small-sel}
use Rattle.share.specs.Record.{record_len}
use Rattle.share.specs.Parties.{shared_at}
use Rattle.share.specs.RecordLaws.{small-mac, small-key}
use Rattle.message.specs.Format.{form_of}
use Rattle.encode.specs.Coded.{length-bit_block}
use Rattle.plan.specs.Plan.{kind_of, count_due, msg_len, bits_count}
use Rattle.engine.specs.StepLaws.{by-none}
use Rattle.engine.specs.Area.{mem}
use Rattle.engine.specs.Sheet.{stays_test}
use Rattle.engine.specs.Order.{echo_in}
use Rattle.engine.specs.Honest.{before, due, plain_after}
use Rattle.rounds.specs.Area.{KEY_SUMS, sizes, size_of}
use Rattle.rounds.specs.Table.{judge, kept, held, written}
use Rattle.rounds.specs.Fabitn.{picks, bit_sum, mac_sum, key_sum, abit_msg, key_sums, abit_fault, abits}
use Rattle.rounds.specs.EchoLaws.{length-hash_vec}
use Rattle.rounds.specs.FaultLaws.{first-none}
use Rattle.honest.specs.Script as S
use Rattle.honest.specs.Inputs.{Run, box, Boxes, deltas, bits_of}
use Rattle.honest.specs.Base.{Receives, Sends, Hashes, list_len_lem, Fit, delta-is, bits_at, key-sums-at, keep-none, keep_one}
use Rattle.alone.specs.Cells.{length-cells, cell}
use Rattle.honest.proofs.Firsts.{pairs-trip, bit-read, block_read, hash-bits}

module _ (R : Run) (X : Boxes R) where
  open R use {n, l, inputs, strings}

  -- the sums of box b, for string j; those of MACs and of keys are for box k
  abbrev bit_of : ℕ → ℕ → Bool
  bit_of b j = bit_sum (box R b) strings (inputs b).bits j

  abbrev mac_of : ℕ → ℕ → ℕ → Block
  mac_of b k j = mac_sum (box R b) strings (inputs b).bits k j

  abbrev key_of : ℕ → ℕ → ℕ → Block
  key_of b k j = key_sum (box R b) strings (inputs b).bits k j

  small-mac-sum : (b k j : ℕ) → b < n → Small (mac_of b k j)
  unfolding mac_sum
  small-mac-sum b k j lb =
      small-sum (bits_count l) _
      (λ t lt. small-sel (picks (box R b) strings j t) _ (small-mac (inputs b).bits (X.own b lb).bits-bytes (t * record_len n) k))

  small-key-sum : (b k j : ℕ) → b < n → Small (key_of b k j)
  unfolding key_sum
  small-key-sum b k j lb =
      small-sum (bits_count l) _
      (λ t lt. small-sel (picks (box R b) strings j t) _ (small-key (inputs b).bits (X.own b lb).bits-bytes (t * record_len n) k))

  -- the MAC rule of the sums
  sums-agree : (b k j : ℕ) → b < n → k < n → b ≢ k → mac_of b k j ≡ blocks.op (key_of k b j) (sel blocks (bit_of b j) (deltas R k))
  unfolding mac_sum key_sum bit_sum picks shared_at
  sums-agree b k j lb lk ne = chosen blocks n (deltas R) (bits_count l) (picks (box R b) strings j) (bits_of R) X.bits-mac b k lb lk ne

  -- ---- the messages
  abit-len : (j r : ℕ) → length (abit_msg (box R j) strings (inputs j).bits r) ≡ msg_len n l 6
  unfolding abit_msg msg_len kind_of count_due
  abit-len j r = list_len_lem n 17 1 120 _ (λ t i. length-bit_block (bit_of j t) (mac_of j r t))

  abit-form : (j r : ℕ) → form_of (kind_of l 6) (count_due n l 6) (abit_msg (box R j) strings (inputs j).bits r) ≡ 0
  unfolding abit_msg kind_of count_due
  abit-form j r = (pairs-trip 120 (bit_of j) (mac_of j r) (omega arith)).form-is

  -- ---- the sums of keys
  fit-key-sums : Fit R KEY_SUMS
  unfolding S.holds S.key_sums key_sums size_of sizes
  fit-key-sums = (
    omega arith,
    λ i li. length-cells (box R i) 120 16 (λ k j. bytes_of (key_of i k j)) (λ k j lk ne lj. length-bytes_of (key_of i k j)),
  )

  key-read : (i k j : ℕ) → i < n → k < n → i ≢ k → j < 120
      → block_at (key_sums (box R i) strings (inputs i).bits) ((k * 120 + j) * 16) ≡ key_of i k j
  unfolding key_sums
  key-read i k j li lk ne lj =
      block_here _ ((k * 120 + j) * 16) (key_of i k j)
      (cell (box R i) 120 16 (λ k j. bytes_of (key_of i k j)) (λ k j lk ne lj. length-bytes_of (key_of i k j)) k j lk ne lj)
      (small-key-sum i k j li)

  -- ---- the check
  passes : (x y : Block) → x ≡ y → ◌≡◌ {A = ℕ} (pick (eq_block x y) 0 8) 0
  passes x y e = rw (eq_block_lem x y e) refl

  abit-passes : (i j : ℕ) (m : ℕ → List ℕ) → i < n → j < 120 → (k : ℕ) → k < n → i ≢ k → m k ≡ abit_msg (box R k) strings (inputs k).bits i
      → abit_fault (deltas R i) (key_sums (box R i) strings (inputs i).bits) m j k ≡ 0
  unfolding abit_fault abit_msg
  abit-passes i j m li lj k lk ne e =
      passes _ _
      (ap (λ (x : List ℕ). block_at x (8 + j * 17 + 1)) e ∙ block_read 120 (bit_of k) (mac_of k i) (omega arith) j lj (small-mac-sum k i j lk)
      ∙ sums-agree k i j lk li (λ p. ne (sym p))
      ∙ ap₂ (λ (x : Block) (b : Bool). blocks.op x (sel blocks b (deltas R i))) (sym (key-read i k j li lk ne lj))
      (sym (ap (λ (x : List ℕ). odd (get_or x (8 + j * 17) 0)) e ∙ bit-read 120 (bit_of k) (mac_of k i) (omega arith) j lj)))

  -- ---- the round
  pub send-6 : Sends R 6
  unfolding stays_test all_of mem S.since S.holds S.key_sums S.sent S.sent6 held written
  send-6 = record {
    keeps = λ i li w K. keep_one R (before 6) (due 6) i li K KEY_SUMS _ refl fit-key-sums (ap (key_sums (box R i) strings) (bits_at R K));
    writes = λ i r li lr ne w K. ap (λ (x : List ℕ). abit_msg (box R i) strings x r) (bits_at R K);
  }

  pub recv-6 : Receives R 6
  unfolding plain_after echo_in mem stays_test all_of S.since S.sent S.sent6 S.key_sums judge kept abits
  recv-6 = record {
    heard = record {
      lens = λ j r lj lr ne. abit-len j r;
      formed = λ i j li lj ne. abit-form j i;
      judged = λ i li w K m M.
          ap₂ (λ (d : Block) (x : List ℕ). (abits (box R i) d x m).code) (delta-is R K) (key-sums-at R K refl)
          ∙ first-none 120 _ (λ j lj. by-none (box R i) _ (λ k lk ne. abit-passes i j m li lj k lk ne (M k lk ne)));
    };
    keeps = λ i li w K m M. keep-none R (due 6) (before 8) i li K refl;
  }

  -- every receiver hashes the list of the bits
  pub list-6 : Hashes R 6
  unfolding S.hashed S.sent S.sent6 abit_msg kind_of
  list-6 = record {
    size = λ j lj. length-hash_vec 6 _;
    hashes = λ i j li lj ne.
        hash-bits 120 (bit_of j) (mac_of j i) (omega arith) 6 refl
        ∙ sym (hash-bits 120 (bit_of j) (mac_of j (pick (eqb j 0) 1 0)) (omega arith) 6 refl);
  }
