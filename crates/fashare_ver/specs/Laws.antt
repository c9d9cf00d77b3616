-- The dms of a message, as the code of round 10 writes them.
use Rattle.std.specs.Prelude.{◌≡◌, refl, List, [], ◌++◌, ℕ, ◌+◌, ◌-◌, ◌*◌, length, drop}
use Rattle.std.proofs.Common.{sym, ap, ◌∙◌, arith}
use borrow.Rule.Slice.PartMut.{put_mid}
use Rattle.lists.specs.Over.{over-next, over-full}
use Rattle.block.specs.Block.{le8}
use Rattle.block.specs.Trip.{length-le8}
use Rattle.encode.specs.Encode.{dm_item}
use Rattle.plan.specs.Plan.{FASHARE_VER, dm_len, msg_len, list_len, kind_of, count_due}
use Rattle.engine.specs.declared.Frame.{Frame}
use Rattle.rounds.specs.Fashare.{STRINGS, dm}
use Rattle.fashare_comm.specs.Laws.{length-dm}

-- the bytes of a message: a count, and dms each behind its length
abbrev pub ver_len : ℕ → ℕ
ver_len n = 8 + STRINGS * (8 + dm_len n)

pub ver_len_lem : (n l : ℕ) → msg_len n l FASHARE_VER ≡ ver_len n
unfolding msg_len list_len kind_of count_due
ver_len_lem n l = refl

-- a dm with its length in front, written in two parts
pub dm-put : (f : Frame) (recs : List ℕ) (q len e : ℕ) (l c x : List ℕ) → length l ≡ 8 + dm_len f.n → len ≡ dm_len f.n → e ≡ 8 + len
    → c ≡ le8 len → x ≡ dm f recs q → put_mid 8 (e - 8) (put_mid 0 8 l c) x ≡ dm_item (dm f recs q)
unfolding dm_item
dm-put f recs q len e l c x hl hn he hc hx =
    let d : List ℕ = dm f recs q in
    let p : List ℕ = put_mid 0 8 l c in
    let w : p ≡ le8 len ++ drop 8 l = over-next [] (le8 len) c l l 0 8 8 refl refl hc refl in
    let k : e - 8 ≡ len = omega arith in
    over-next (le8 len) d x l p 8 (e - 8) (8 + len) w (length-le8 len) hx (let t : 8 + (e - 8) ≡ 8 + len = omega arith in t)
    ∙ over-full (le8 len ++ d) l (8 + len) (omega arith)
    ∙ ap (λ t. le8 t ++ d) (hn ∙ sym (length-dm f recs q))
