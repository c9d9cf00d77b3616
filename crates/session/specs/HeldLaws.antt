-- The work area after a call that writes an echo.
use Rattle.std.specs.Prelude.{◌≡◌, refl, ⊤, Result, Ok, Err, Bool, true, false, ◌≢◌, ℕ, ◌*◌, ◌<◌, length, eqb}
use Rattle.std.proofs.Math.Path.{ap}
use Rattle.std.proofs.Common.{sym, ◌∙◌, arith}
use mathlib.Core.List.{List, [], ◌∷◌}
use Rattle.lists.specs.Pick.{pick}
use Rattle.engine.specs.declared.Frame.{Frame}
use Rattle.engine.specs.Step.{Fault}
use Rattle.engine.specs.Plain.{waits, if_clean, for_echo, digests, hashes}
use Rattle.engine.proofs.PlainLaws.{length-rows}
use Rattle.engine.specs.Area.{put_sec, length-put_sec, sec-same, sec-other}
use Rattle.rounds.specs.Area.{PENDING, HASHES, SECTIONS, sizes, size_of, work_len, keep}
use Rattle.rounds.specs.Echo.{hash_vec}
use Rattle.rounds.specs.EchoLaws.{length-hash_vec}
use Rattle.broadcast.specs.Told.{told, Names, names-told}
use Rattle.engine.specs.declared.Refusal.{Refusal}
use Rattle.rounds.specs.FaultLaws.{Finds}
use Rattle.rounds.specs.JudgeLaws.{Found, judge-found}
use Rattle.rounds.specs.Table.{table}
use Rattle.rounds.specs.Table as Table

length-waits : (x : Fault) → length (waits x) ≡ 2
unfolding waits
length-waits x = go (eqb x.code 0)
  where
    go : (b : Bool) → length (pick b (0 ∷ 0 ∷ []) (x.code ∷ x.party ∷ [])) ≡ 2
    go true = refl
    go false = refl

-- what `note` asks for: a fault names a party of the session
pub judge-names : (f : Frame) → f.i < f.n → (k : ℕ) (w : List ℕ) (m : ℕ → List ℕ) (v : Result ⊤ Refusal)
    → Finds v (Table.judge k f w m) → Names v f.n
unfolding Found
judge-names f own k w m v h = names-told f.n v (Table.judge k f w m) h (λ ne. (judge-found f own k w m ne).1)

-- the number that a verdict tells
pub told-code : (v : Result ⊤ Refusal) (e : Fault) → Finds v e → (told v).code ≡ e.code
told-code (Ok _) e h = sym h
told-code (Err r) e h = h.0

module _ (f : Frame) (k : ℕ) (m : ℕ → List ℕ) where
  pub length-digests : length (digests table k f m) ≡ f.n * 16
  unfolding digests
  length-digests = length-rows f (λ j. hash_vec k (m j)) (λ j _ _. length-hash_vec k (m j))

  -- the hashes that were kept are read again
  pub hashes-kept : (x : Fault) (w : List ℕ) → length w ≡ work_len f
      → hashes table f (keep f PENDING (waits x) (keep f HASHES (digests table k f m) w)) ≡ digests table k f m
  unfolding hashes keep work_len size_of sizes
  hashes-kept x w h =
      let d = length-digests in
      let l1 = length-put_sec (size_of f) SECTIONS w h HASHES (digests table k f m) (omega arith) d in
      sec-other (size_of f) SECTIONS _ l1 HASHES PENDING (waits x) (omega arith) (omega arith) (length-waits x)
      ∙ sec-same (size_of f) SECTIONS w h HASHES (digests table k f m) (omega arith) d

  -- what the two steps leave
  pub held-is : (w v : List ℕ) → v ≡ pick (eqb (Table.judge k f w m).code 0) (Table.kept k f w m) w
      → keep f PENDING (waits (Table.judge k f w m)) (keep f HASHES (digests table k f m) v) ≡ for_echo table k f w m
  unfolding for_echo if_clean keep
  held-is w v e =
      ap (λ (y : List ℕ). put_sec (size_of f) PENDING (waits (Table.judge k f w m)) (put_sec (size_of f) HASHES (digests table k f m) y)) e
