-- The messages of round 22 from the sections of the work area, and their lengths.
use Rattle.std.specs.Prelude.{◌≡◌, refl, Bool, List, ℕ, suc, ◌+◌, ◌*◌, ◌<◌, ◌≤◌, length}
use Rattle.std.proofs.Common.{sym, ap, ◌∙◌, arith, length-append}
use Rattle.lists.specs.Over.{in-chunks}
use Rattle.block.specs.declared.Block.{Block}
use Rattle.block.specs.Block.{bytes_of}
use Rattle.block.specs.Trip.{length-bytes_of}
use Rattle.message.specs.declared.Kind.TheVariants.{Items}
use Rattle.message.proofs.FormLaws.{fixed}
use Rattle.encode.specs.Encode.{two_bits_two_blocks}
use Rattle.plan.specs.Plan.{msg_len, list_len, count_due, kind_of}
use Rattle.engine.specs.declared.Frame.{Frame}
use Rattle.rounds.specs.Area.{BITS, PERM, TRIPLES, ALPHA, BETA, at}
use Rattle.rounds.specs.declared.Mail.{Mail}
use Rattle.rounds.specs.Mail.{letter, Arrived}
use Rattle.rounds.specs.MailLaws.{length-letter}
use Rattle.rounds.specs.EchoLaws.{Received}
use Rattle.rounds.specs.Beaver as R
use Rattle.faand.specs.Given.{D, E}

-- the bytes of a message
abbrev pub told : Frame → ℕ
told f = 8 + f.l * 34

pub told_is : (f : Frame) → msg_len f.n f.l 22 ≡ told f
unfolding msg_len list_len count_due kind_of
told_is f = refl

-- bucket j in the message to k, and the message
abbrev pub item : Frame → List ℕ → ℕ → ℕ → List ℕ
item f w k j = two_bits_two_blocks (D f w j).bit (E f w j).bit ((D f w j).mac k) ((E f w j).mac k)

abbrev pub message : Frame → List ℕ → ℕ → List ℕ
message f w = R.faand_msg f (at f BITS w) (at f PERM w) (at f TRIPLES w) (at f ALPHA w) (at f BETA w)

pub four : {d d' e e' : Bool} {x x' y y' : Block} → d ≡ d' → e ≡ e' → x ≡ x' → y ≡ y'
    → two_bits_two_blocks d e x y ≡ two_bits_two_blocks d' e' x' y'
four p q r s i = two_bits_two_blocks (p i) (q i) (r i) (s i)

pub length-item : (d e : Bool) (x y : Block) → length (two_bits_two_blocks d e x y) ≡ 34
unfolding two_bits_two_blocks
length-item d e x y =
    ap (λ n. suc (suc n)) (length-append (bytes_of x) (bytes_of y) ∙ omega (arith, length-bytes_of x, length-bytes_of y))

-- item j of a message lies within
pub item_in : (f : Frame) (j len : ℕ) → j < f.l → told f ≤ len → 8 + j * 34 + 34 ≤ len
item_in f j len h w = omega (arith, in-chunks j f.l 34 h)

-- messages of the right form have all their items
pub arrived : {f : Frame} {incoming : List ℕ} {mail : Mail} → Received (Items 34 2) f.l f incoming mail
    → Arrived f (told f) incoming mail
arrived {f} {incoming} {mail} r = record {
  eight = r.arrived.eight;
  inside = r.arrived.inside;
  long = λ k h ne. omega (
    arith,
    (fixed 34 2 f.l (letter incoming mail k) (r.formed-is k h ne)).fits,
    length-letter r.arrived k h (λ e. ne (sym e)),
  );
}
