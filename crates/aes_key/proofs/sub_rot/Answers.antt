use Rattle.lists.specs.Kit.{ap, ◌∙◌, List, ℕ, get_or}
use Rattle.fips197.specs.Sbox.{SBox}
use Rattle.aes_tables.specs.Word.{column4}
use Rattle.aes_tables.specs.WordLaws.{le-column4}
use Rattle.aes_key.specs.Words.{sub_rot_of}
use Rattle.aes_key.proofs.sub_rot.Goals as goal

pub returns : goal.returns
unfolding sub_rot_of
returns c =
    let read = λ (k : ℕ). ap (λ (b : List ℕ). SBox (get_or b k 0)) c.to_le_bytes-b.ensures in
    c.from_le_bytes.ensures ∙ le-column4 _ _ _ _
    ∙ (λ i. column4 ((c.sub.ensures ∙ read 1) i) ((c.sub-2.ensures ∙ read 2) i)
    ((c.sub-3.ensures ∙ read 3) i) ((c.sub-4.ensures ∙ read 0) i))
