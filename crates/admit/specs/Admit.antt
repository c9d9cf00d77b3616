-- What a call is given as one record, and the tests of it that the code makes one by one.
use Rattle.std.specs.Prelude.{Bool, true, ◌&&◌, List, [], ◌++◌, ℕ, get_or, drop, replicate, eqb}
use Rattle.lists.specs.Pick.{pick}
use Rattle.lists.specs.Over.{tab}
use Rattle.algebra.specs.Sum.{neq}
use Rattle.message.specs.declared.Kind.{Kind}
use Rattle.message.specs.Format as Format
use Rattle.plan.specs.Plan.{out_len}
use Rattle.engine.specs.Step.{Lent, Loan, frame, gone, part, inside}
use Rattle.rounds.specs.Area.{work_len}
use Rattle.rounds.specs.declared.Mail.{Mail}

-- the r Blocks
abbrev pub loan : List ℕ → Loan
loan r = record { r = r }

abbrev pub given : List ℕ → List ℕ → List ℕ → List ℕ → List ℕ → List ℕ → Lent
given incoming starts lens missing r out =
    record { incoming = incoming; starts = starts; lens = lens; missing = missing; loan = loan r; out = out }

-- "Lent lengths are exact, but for the incoming buffer": those of the work area, the outgoing buffer, starts, lens and missing
unfoldable pub lengths_fit : ℕ → ℕ → ℕ → ℕ → ℕ → ℕ → ℕ → ℕ → Bool
lengths_fit n l k work out starts lens missing =
    eqb work (work_len (frame n l 0)) && eqb out (out_len n l k) && eqb starts n && eqb lens n && eqb missing n

-- party k's part lies inside, or k is the own number, or the message is missing
unfoldable pub fits : ℕ → Lent → ℕ → Bool
fits i q k = pick (neq i k) (pick (gone q k) true (inside q k)) true

-- 14, 13, 21 or 6 of party k, where items of a kind are due
unfoldable pub kind_fault : Kind → ℕ → Lent → ℕ → ℕ
kind_fault kind count q k = pick (gone q k) 14 (Format.form_of kind count (part q k))

-- a number for each of n parties, in eight
abbrev pub eight : ℕ → (ℕ → ℕ) → List ℕ
eight n g = tab n g ++ drop n (replicate 8 0)

-- where the messages lie: the starts and the lengths that are lent, by value
unfoldable pub mail_of : ℕ → List ℕ → List ℕ → Mail
mail_of n starts lens = record { starts = eight n (λ k. get_or starts k 0); lens = eight n (λ k. get_or lens k 0) }

-- the messages, given by a mail
abbrev pub posted : List ℕ → Mail → List ℕ → Lent
posted incoming mail missing = given incoming mail.starts mail.lens missing [] []
