-- SEVERAL BATCHES ARE AS ONE (02, order 7): "Once opened, messages, refusals and results equal those of a single batch of l with the same
-- inputs and calls." For every list of counts that opening takes, and whatever the calls; and what is told of the batches.
use Rattle.std.specs.Prelude.{◌≡◌, Bool, ◌&&◌, ◌≢◌, List, [], ◌∷◌, ℕ, length, ltb, leb, eqb}
use Rattle.std.proofs.Math.Path.{refl, ap}
use Rattle.std.proofs.Common.{sym, ◌∙◌, ne_eqb, leb-true}
use Rattle.std.proofs.Math.Bool.{true, false}
use Rattle.lists.specs.Pick.{pick}
use Rattle.lists.specs.All.{and_both}
use Rattle.lists.specs.Rows.{cat-ext}
use Rattle.batches.specs.Batches.{MOST, total, counts_fault, tally, whole, told, untold}
use Rattle.batches.specs.BatchLaws.{taken, total-single, single-taken, told-tally, whole-tally, Behind, behind, opened_with}
use Rattle.plan.specs.Plan.{the_rounds}
use Rattle.engine.specs.declared.Frame.{Frame}
use Rattle.engine.specs.declared.Session.{Session}
use Rattle.engine.specs.Step.{Accepted, Refused, Outcome, told_after}
use Rattle.engine.specs.OneBox.{Turn}
use Rattle.engine.specs.OneBox as OneBox
use Rattle.engine.specs.Batched.{Equal, outcomes, AllEqual}
use Rattle.engine.proofs.BatchedLaws.{all_same}
use Rattle.engine.specs.Order.{round_in}
use Rattle.engine.specs.Plain.{protocol_of}
use Rattle.rounds.specs.Area.{SECTIONS}
use Rattle.rounds.specs.Opening.{Args, party, buffers_due, masks_fault, bytes_fault, reason, section, area, spec}
use Rattle.rounds.specs.OpeningLaws.{passed}
use Rattle.rounds.specs.Table.{fine, table}
use Rattle.alone.proofs.Opening.{spec-takes}
use Rattle.alone.proofs.Theorem.{opened_box}

-- the same opening with the single count of the sum
abbrev pub single : Args → Args
single a = record {
  n = a.n;
  i = a.i;
  counts = total a.counts ∷ [];
  delta = a.delta;
  seed = a.seed;
  pairs = a.pairs;
  bits = a.bits;
  alpha = a.alpha;
  beta = a.beta;
  masks = a.masks;
  work = a.work;
  out = a.out;
}

module _ (a : Args) (z : reason a ≡ 0) where
  -- the counts that the two keep
  abbrev pub several : List ℕ
  several = tally a.counts

  abbrev pub one : List ℕ
  one = tally (total a.counts ∷ [])

  none : counts_fault a.counts ≡ 0
  none = (passed a z).numbers.none

  sum_is : total (total a.counts ∷ []) ≡ total a.counts
  sum_is = total-single (total a.counts)

  none-one : counts_fault (total a.counts ∷ []) ≡ 0
  none-one = let t = taken a.counts none in single-taken (total a.counts) t.one t.sum

  -- opening takes it too
  pub single-takes : reason (single a) ≡ 0
  unfolding reason buffers_due bytes_fault masks_fault
  single-takes = rw (none-one, sum_is) (rw none at z)

  area-one : area (single a) ≡ area a
  unfolding area
  area-one = cat-ext SECTIONS _ _ (λ s ls. unfold section in rw sum_is refl)

  -- and leaves the same
  opened-same : Equal several one (spec a) (spec (single a))
  unfolding told_after
  opened-same =
      rw (spec-takes a (party a) refl z, spec-takes (single a) (party (single a)) refl single-takes, area-one, sum_is) (record {
        reply = refl;
        work = refl;
        out = refl;
        sessions = record {
          party = refl;
          due = refl;
          first = refl;
          second = refl;
          first-makes = whole-tally a.counts none;
          second-makes = ap (λ m. whole m one) (sym sum_is) ∙ whole-tally (total a.counts ∷ []) none-one;
        };
        told-first = refl;
        told-second = refl;
      })

  -- ---- THE THEOREM: opening, and each of any list of calls after it
  pub as_one : (cs : List Turn)
      → Equal several one (spec a) (spec (single a))
      × AllEqual several one (outcomes (protocol_of table) (opened_box a) cs) (outcomes (protocol_of table) (opened_box (single a)) cs)
  as_one cs = (opened-same, all_same table several one cs (opened_box a) (opened_box (single a)) opened-same.sessions opened-same.work)

  -- ---- what the calls tell: the last accepted one where each batch lies, one behind the other from 0, l records together
  module _ (o p : Outcome) (e : Equal several one o p) where
    pub tells : o.reply ≡ Accepted → o.session.due ≡ 0
        → (o.told ≡ told a.counts) × Behind (party a).l a.counts o.told
    unfolding told_after
    tells h d =
        let t : o.told ≡ told a.counts =
        e.told-first ∙ rw (h, d) (told-tally a.counts) in
        (t, rw t (behind a.counts none))

    -- any other nothing
    pub tells-not : o.session.due ≢ 0 → o.told ≡ untold
    unfolding told_after
    tells-not ne = e.told-first ∙ rw (ne_eqb o.session.due 0 ne) (go (OneBox.taken o.reply))
      where
        go : (b : Bool) → pick b untold untold ≡ untold
        go true = refl
        go false = refl

    pub refused-tells-not : (code who : ℕ) → o.reply ≡ Refused code who → o.told ≡ untold
    refused-tells-not code who h = e.told-first ∙ rw h refl

-- ---- a session that is alive is one that opening can have made, whatever a host put there
pub opened_some : (s : Session) → length s.counts ≡ MOST → (protocol_of table).alive s ≡ true
    → (d : List ℕ) × (counts_fault d ≡ 0) × (tally d ≡ s.counts) × (total d ≡ s.party.l)
unfolding fine
opened_some s h v =
    let f : Frame = s.party in
    let some : Bool = leb 2 f.n && leb f.n 8 && ltb f.i f.n in
    let w = and_both (some && leb 1 f.l && leb f.l 300000 && whole f.l s.counts) (round_in the_rounds (eqb f.n 2) s.due) v in
    let g = and_both (some && leb 1 f.l && leb f.l 300000) (whole f.l s.counts) w.0 in
    let m = and_both (some && leb 1 f.l) (leb f.l 300000) g.0 in
    opened_with f.l s.counts h (leb-true 1 f.l (and_both some (leb 1 f.l) m.0).1) (leb-true f.l 300000 m.1) g.1
