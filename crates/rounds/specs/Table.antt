-- The rounds of a session (document 01, "The call"): what is done with the messages of each, and how they are made.
use Rattle.std.specs.Prelude.{Bool, ◌&&◌, List, [], ◌∷◌, ℕ, ◌*◌, length, ltb, leb, eqb}
use Rattle.lists.specs.Pick.{pick}
use Rattle.lists.specs.Rows.{chunk}
use Rattle.block.specs.declared.Block.{Block}
use Rattle.block.specs.Block.{block_at}
use Rattle.share.specs.Lent.{lent_len}
use Rattle.message.specs.Format.{form_of}
use Rattle.plan.specs.Plan.{RNG_COMM, RNG_VER, PAIR_COMM, PAIR_VER, FABITN, FASHARE_COMM, FASHARE_VER, FASHARE_DIBI, HAAND, FLAAND}
use Rattle.plan.specs.Plan.{FLAAND_COMM, FLAAND_HASH, DVALUE, FAAND, the_rounds, kind_of, count_due, msg_len}
use Rattle.engine.specs.declared.Frame.{Frame}
use Rattle.engine.specs.Step.{Fault, none?, Loan}
use Rattle.engine.specs.Plain.{Recv, Send, Table}
use Rattle.rounds.specs.Area.{DELTA, SEED, PAIRS, MASKS, BITS, ALPHA, BETA, COMMS, JOINT, PAIR_COMMS, PAIRWISE, KEY_SUMS, SHARE_COMMS}
use Rattle.rounds.specs.Area.{DMS, LEAKY, ZS, ES, HS, H_COMMS, PERM, DS, TRIPLES, ROUNDS_OWN, size_of, at, keep}
use Rattle.rounds.specs.Echo.{hash_vec, echo}
use Rattle.rounds.specs.Toss as Toss
use Rattle.rounds.specs.Fabitn as Fabitn
use Rattle.rounds.specs.Fashare as Fashare
use Rattle.rounds.specs.Haand as Haand
use Rattle.rounds.specs.Flaand as Flaand
use Rattle.rounds.specs.Buckets as Buckets
use Rattle.rounds.specs.Beaver as Beaver

-- own delta
unfoldable pub delta : Frame → List ℕ → Block
delta f w = block_at (at f DELTA w) 0

-- ---- what is done with the messages `m k` of each round; w is the work area
abbrev pub Judge : Type 0
Judge = Frame → List ℕ → (ℕ → List ℕ) → Fault

abbrev pub Keep : Type 0
Keep = Frame → List ℕ → (ℕ → List ℕ) → List ℕ

-- the content check
unfoldable pub judge : ℕ → Judge
judge k f w m =
    pick (eqb k RNG_VER) (Toss.opening f (at f COMMS w) m)
    (pick (eqb k PAIR_VER) (Toss.opening f (at f PAIR_COMMS w) m)
    (pick (eqb k FABITN) (Fabitn.abits f (delta f w) (at f KEY_SUMS w) m)
    (pick (eqb k FASHARE_VER) (Fashare.ver_faults f (at f SHARE_COMMS w) m)
    (pick (eqb k FASHARE_DIBI) (Fashare.dibi_faults f (at f BITS w) (at f SHARE_COMMS w) (at f DMS w) m)
    (pick (eqb k FLAAND_HASH) (Flaand.h_faults f (at f HS w) (at f H_COMMS w) m)
    (pick (eqb k DVALUE) (Buckets.d_faults f (delta f w) (at f BITS w) (at f PERM w) m)
    (pick (eqb k FAAND) (Beaver.de_faults f (delta f w) (at f BITS w) (at f PERM w) (at f TRIPLES w) (at f ALPHA w) (at f BETA w) m)
    none?)))))))

-- what is kept of them
unfoldable pub kept : ℕ → Keep
kept k f w m =
    pick (eqb k RNG_COMM) (keep f COMMS (Toss.told_rows f m) w)
    (pick (eqb k RNG_VER) (keep f JOINT (Toss.joint_seed f (at f SEED w) m) w)
    (pick (eqb k PAIR_COMM) (keep f PAIR_COMMS (Toss.told_rows f m) w)
    (pick (eqb k PAIR_VER) (keep f PAIRWISE (Toss.pairwise_seeds f (at f PAIRS w) m) w)
    (pick (eqb k FASHARE_COMM) (keep f SHARE_COMMS (Fashare.comm_rows f m) w)
    (pick (eqb k FASHARE_VER) (keep f DMS (Fashare.dm_rows f m) w)
    (pick (eqb k HAAND) (keep f ZS (Haand.z_rows f (at f MASKS w) (at f BITS w) m) w)
    (pick (eqb k FLAAND) (keep f HS (Flaand.hs f (delta f w) (at f BITS w) (at f LEAKY w) (at f ZS w) m)
    (keep f ES (Flaand.e_rows f m) w))
    (pick (eqb k FLAAND_COMM) (keep f H_COMMS (Flaand.comm_rows f m) w)
    (pick (eqb k DVALUE) (keep f DS (Buckets.ds f (at f BITS w) (at f PERM w) m) w)
    w)))))))))

-- the numbers that the content check can find
unfoldable pub faults : ℕ → List ℕ
faults k =
    pick (eqb k RNG_VER) (2 ∷ [])
    (pick (eqb k PAIR_VER) (2 ∷ [])
    (pick (eqb k FABITN) (8 ∷ [])
    (pick (eqb k FASHARE_VER) (2 ∷ 4 ∷ 1 ∷ [])
    (pick (eqb k FASHARE_DIBI) (2 ∷ 9 ∷ [])
    (pick (eqb k FLAAND_HASH) (2 ∷ 10 ∷ [])
    (pick (eqb k DVALUE) (11 ∷ [])
    (pick (eqb k FAAND) (12 ∷ [])
    [])))))))

abbrev pub recv : ℕ → Recv
recv k = record {
  form = λ f m. form_of (kind_of f.l k) (count_due f.n f.l k) m;
  judge = judge k;
  faults = faults k;
  keep = kept k;
  digest = λ f m. hash_vec k m;
}

-- ---- how the messages of each round are made
-- 17 of the r Blocks: all strings or a seed are due with the call that writes `fabitn`, and nothing with any other. k is what the call
-- writes: a round, an echo too, or 0 for the results
unfoldable pub lent : ℕ → ℕ → ℕ → Loan → ℕ
lent k n l q = pick (pick (eqb k FABITN) (Fabitn.r_fits l (length q.r)) (eqb (length q.r) 0)) 0 17

-- what is kept when they are made
unfoldable pub held : ℕ → Frame → Loan → List ℕ → List ℕ
held k f q w =
    pick (eqb k FABITN) (keep f KEY_SUMS (Fabitn.key_sums f q.r (at f BITS w)) w)
    (pick (eqb k HAAND) (keep f LEAKY (Haand.leaky_rows f (delta f w) (at f BITS w)) w)
    (pick (eqb k FLAAND_COMM) (keep f H_COMMS (Flaand.own_comms f (at f HS w) (at f H_COMMS w)) w)
    (pick (eqb k DVALUE) (keep f PERM (Buckets.perm_bytes f (at f JOINT w)) w)
    (pick (eqb k FAAND) (keep f TRIPLES (Buckets.triple_rows f (delta f w) (at f BITS w) (at f ZS w) (at f ES w) (at f PERM w) (at f DS w)) w)
    w))))

-- the message of round k to party r
unfoldable pub written : ℕ → Frame → Loan → List ℕ → ℕ → List ℕ
written k f q w r =
    pick (eqb k RNG_COMM) (Toss.comm_msg (at f SEED w) f.i)
    (pick (eqb k RNG_VER) (Toss.ver_msg (at f SEED w))
    (pick (eqb k PAIR_COMM) (Toss.comm_msg (chunk 32 r (at f PAIRS w)) f.i)
    (pick (eqb k PAIR_VER) (Toss.ver_msg (chunk 32 r (at f PAIRS w)))
    (pick (eqb k FABITN) (Fabitn.abit_msg f q.r (at f BITS w) r)
    (pick (eqb k FASHARE_COMM) (Fashare.comm_msg f (delta f w) (at f BITS w))
    (pick (eqb k FASHARE_VER) (Fashare.ver_msg f (at f BITS w))
    (pick (eqb k FASHARE_DIBI) (Fashare.dibi_msg f (delta f w) (at f BITS w) (at f DMS w))
    (pick (eqb k HAAND) (Haand.haand_msg f (delta f w) (at f MASKS w) (at f BITS w) r)
    (pick (eqb k FLAAND) (Flaand.flaand_msg f (at f BITS w) (at f LEAKY w) (at f ZS w) r)
    (pick (eqb k FLAAND_COMM) (Flaand.comm_msg f (at f HS w))
    (pick (eqb k FLAAND_HASH) (Flaand.hash_msg f (at f HS w))
    (pick (eqb k DVALUE) (Buckets.dvalue_msg f (at f BITS w) (at f PERM w) r)
    (pick (eqb k FAAND) (Beaver.faand_msg f (at f BITS w) (at f PERM w) (at f TRIPLES w) (at f ALPHA w) (at f BETA w) r)
    [])))))))))))))

abbrev pub send : ℕ → Send
send k = record { len = λ n l. msg_len n l k; lent = lent k; keep = held k; write = written k }

-- ---- the session
-- n from 2 to 8, i below n, l from 1 to 300,000
unfoldable pub fine : Frame → Bool
fine f = leb 2 f.n && leb f.n 8 && ltb f.i f.n && leb 1 f.l && leb f.l 300000

abbrev pub table : Table
table = record {
  fine = fine;
  order = the_rounds;
  count = ROUNDS_OWN;
  size = size_of;
  recv = recv;
  send = send;
  echo = echo;
  result_len = λ f. f.l * lent_len f.n;
  result = λ f w m. Beaver.results f (at f BITS w) (at f PERM w) (at f TRIPLES w) (at f ALPHA w) (at f BETA w) m;
}
