-- Document 01's words on counts, bools and options, and 02's on bytes after the value, as rows: a kind, the count due, a message, and what
-- it is refused with. One theorem checks all. A count above the bytes behind it (2^64 − 1, say) is 13 by the law `decodes-over` of
-- FormatLaws, for every kind.
use Rattle.std.specs.Prelude.{◌≡◌, refl, Bool, true, ◌&&◌, List, [], ◌∷◌, ◌++◌, ℕ, ◌*◌, replicate, eqb}
use Rattle.lists.specs.All.{all_of}
use Rattle.lists.specs.Over.{tab}
use Rattle.lists.specs.Rows.{chunk}
use Rattle.block.specs.Block.{word_at, le8}
use Rattle.message.specs.declared.Kind.{Kind}
use Rattle.message.specs.declared.Kind.TheVariants.{Items, Dms, Dvalues, Options}
use Rattle.message.specs.Format.{bools, vec_len, item_len, item_at, decodes, bits, item_of, value_of, read_of, both_due, item_due, counts_due}
use Rattle.message.specs.Format.{form_by, form_of}

pub record Row : Type 0 where
  pub kind : Kind
  pub count : ℕ
  pub message : List ℕ
  pub code : ℕ

abbrev row : Kind → ℕ → List ℕ → ℕ → Row
row K count m code = record { kind = K; count = count; message = m; code = code }

abbrev pub right : List Row → Bool
right [] = true
right (r ∷ rs) = eqb (form_of r.kind r.count r.message) r.code && right rs

-- a bucket of c d values and k MACs
abbrev bucket : ℕ → ℕ → List ℕ
bucket c k = le8 c ++ (replicate c 1 ++ (le8 k ++ replicate (k * 16) 7))

unfoldable pub rows : List Row
rows =
    -- two pairs of bits are due: the list, bytes behind it, no bytes at all, a count cut off
    row (Items 2 2) 2 (le8 2 ++ (1 ∷ 0 ∷ 0 ∷ 1 ∷ [])) 0
    ∷ row (Items 2 2) 2 (le8 2 ++ (1 ∷ 0 ∷ 0 ∷ 1 ∷ 9 ∷ 9 ∷ [])) 21
    ∷ row (Items 2 2) 2 (le8 2 ++ (1 ∷ 0 ∷ 0 ∷ 1 ∷ 0 ∷ [])) 21
    ∷ row (Items 2 2) 2 [] 13
    ∷ row (Items 2 2) 2 (2 ∷ 0 ∷ 0 ∷ 0 ∷ 0 ∷ 0 ∷ 0 ∷ []) 13
    -- one too many, without bytes for it, with them, and with bytes behind them
    ∷ row (Items 2 2) 2 (le8 3 ++ (1 ∷ 0 ∷ 0 ∷ 1 ∷ [])) 13
    ∷ row (Items 2 2) 2 (le8 3 ++ (1 ∷ 0 ∷ 0 ∷ 1 ∷ 1 ∷ 1 ∷ [])) 6
    ∷ row (Items 2 2) 2 (le8 3 ++ (1 ∷ 0 ∷ 0 ∷ 1 ∷ 1 ∷ 1 ∷ 1 ∷ [])) 21
    -- one too few in a message of due length, and in a shorter one; none
    ∷ row (Items 2 2) 2 (le8 1 ++ (1 ∷ 0 ∷ 0 ∷ 1 ∷ [])) 21
    ∷ row (Items 2 2) 2 (le8 1 ++ (1 ∷ 0 ∷ [])) 6
    ∷ row (Items 2 2) 2 (le8 0 ++ (1 ∷ 0 ∷ 0 ∷ 1 ∷ [])) 21
    ∷ row (Items 2 2) 2 (le8 0) 6
    -- a bool of 2: in the list, behind it, in one too many
    ∷ row (Items 2 2) 2 (le8 2 ++ (1 ∷ 0 ∷ 0 ∷ 2 ∷ [])) 13
    ∷ row (Items 2 2) 2 (le8 1 ++ (1 ∷ 0 ∷ 0 ∷ 2 ∷ [])) 21
    ∷ row (Items 2 2) 2 (le8 3 ++ (1 ∷ 0 ∷ 0 ∷ 1 ∷ 2 ∷ 1 ∷ [])) 13
    -- dms of any length; one that is cut off; a last one that counts a byte less than it has
    ∷ row Dms 2 (le8 2 ++ (le8 3 ++ (9 ∷ 9 ∷ 9 ∷ le8 0))) 0
    ∷ row Dms 2 (le8 2 ++ (le8 3 ++ (9 ∷ 9 ∷ 9 ∷ le8 1))) 13
    ∷ row Dms 2 (le8 2 ++ (le8 0 ++ (le8 2 ++ (9 ∷ 9 ∷ 9 ∷ [])))) 21
    -- buckets of two: due, one d more, one MAC less, both alike, a MAC cut off, a MAC that its count leaves out
    ∷ row (Dvalues 2) 1 (le8 1 ++ bucket 2 2) 0
    ∷ row (Dvalues 2) 1 (le8 1 ++ bucket 3 2) 6
    ∷ row (Dvalues 2) 1 (le8 1 ++ bucket 2 1) 6
    ∷ row (Dvalues 2) 1 (le8 1 ++ bucket 1 1) 6
    ∷ row (Dvalues 2) 1 (le8 1 ++ (le8 2 ++ (1 ∷ 0 ∷ (le8 2 ++ replicate 31 7)))) 13
    ∷ row (Dvalues 2) 1 (le8 1 ++ (le8 2 ++ (1 ∷ 0 ∷ (le8 1 ++ replicate 32 7)))) 21
    -- an echo of three: absent, present, absent; all present, longer than an honest one; a tag of 2; a hash cut off; one entry less; a
    -- byte more
    ∷ row Options 3 (le8 3 ++ (0 ∷ 1 ∷ (replicate 16 7 ++ (0 ∷ [])))) 0
    ∷ row Options 3 (le8 3 ++ (1 ∷ (replicate 16 7 ++ (1 ∷ (replicate 16 7 ++ (1 ∷ replicate 16 7)))))) 0
    ∷ row Options 3 (le8 3 ++ (0 ∷ 2 ∷ (replicate 16 7 ++ (0 ∷ [])))) 13
    ∷ row Options 3 (le8 3 ++ (0 ∷ 0 ∷ 1 ∷ replicate 15 7)) 13
    ∷ row Options 3 (le8 2 ++ (0 ∷ 1 ∷ replicate 16 7)) 6
    ∷ row Options 3 (le8 3 ++ (0 ∷ 1 ∷ (replicate 16 7 ++ (0 ∷ 0 ∷ [])))) 21
    ∷ []

pub checked : right rows ≡ true
unfolding rows le8 word_at all_of tab chunk bools vec_len item_len item_at decodes bits item_of value_of read_of both_due item_due counts_due form_by form_of
checked = refl
