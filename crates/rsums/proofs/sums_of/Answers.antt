use Rattle.std.specs.Prelude.{◌≡◌, ◌*◌, ◌/◌, ◌≤◌}
use Rattle.lists.specs.Kit.{sym, ap, ◌∙◌, subst, List, ℕ, arith, length}
use Rattle.share.specs.Layout.{record-some}
use Rattle.rbits.specs.Tables.{window_of}
use Rattle.draw.specs.Given.{Whole}
use Rattle.draw.specs.Strings.{strings}
use Rattle.draw.specs.StringLaws.{strings-whole, bytes-strings}
use Rattle.rsums.specs.SumsLaws.{grouped-none, grouped-turn, grouped-end}
use Rattle.rsums.proofs.sums_of.Goals as goal
use Rattle.rsums.proofs.sums_of.Goals.{At-loop-g}

-- a window of the same strings
made : {r r' : List ℕ} (blocks g : ℕ) → r ≡ r'
    → window_of (strings (120 * blocks) r) (16 * blocks) (g / 2) ≡ window_of (strings (120 * blocks) r') (16 * blocks) (g / 2)
made blocks g e = ap (λ (r : List ℕ). window_of (strings (120 * blocks) r) (16 * blocks) (g / 2)) e

pub loop-g-init : goal.loop-g-init
loop-g-init c = grouped-none _ _ _ _ _ _

-- the records as the code has their length
records : (c : At-loop-g) → c.args.count * c.record_len-stride.result ≤ length c.args.s.now
records c =
    subst (λ x. c.args.count * x ≤ length c.args.s.now) (sym c.record_len-stride.ensures) c.requires.given.records

pub turn-requires : goal.turn-requires
turn-requires c =
    record {
      whole = subst (Whole (120 * c.args.blocks)) (sym c.requires.made_of) c.requires.given.whole;
      g_bound = (omega arith, c.requires.given.most);
      out_value = λ h. c.loop-g.invariant.half-left h ∙ made c.args.blocks c.loop-g.g (sym c.requires.made_of);
    }

pub pack-b-requires : goal.pack-b-requires
pack-b-requires c =
    record {
      le_stride = (
        omega (arith, c.record_len-stride.ensures, record-some c.args.n),
        records (goal.at.pack-b-requires c).At-loop-g,
      );
      first_bound = omega arith;
    }

pub loop-g-preserved : goal.loop-g-preserved
loop-g-preserved c =
    grouped-turn c.args.n c.args.i c.args.s.now (strings (120 * c.args.blocks) c.args.r.now) (16 * c.args.blocks) c.args.count
    (bytes-strings (120 * c.args.blocks) c.args.r.now (λ i. (c.type_inv.r i).fits))
    (omega (arith, strings-whole (120 * c.args.blocks) c.args.r.now c.requires.given.whole)) (omega arith) (omega arith) c.loop-g.g c.loop-g.bits
    c.loop-g.macs c.loop-g.keys c.loop-g.win c.loop-g.invariant c.record_len-stride.result c.pack-b.result c.add_bits.new.acc
    c.add_group.new.macs c.add_group.new.keys c.turn.new.out (omega arith) c.record_len-stride.ensures
    (c.turn.ensures ∙ made c.args.blocks c.loop-g.g c.requires.made_of) c.pack-b.ensures c.add_bits.ensures
    c.add_group.ensures.macs_after c.add_group.ensures.keys_after

pub returns : goal.returns
returns c =
    let e = grouped-end c.args.n c.args.i c.args.s.now (strings (120 * c.args.blocks) c.args.r.now) (16 * c.args.blocks) c.args.count
    (bytes-strings (120 * c.args.blocks) c.args.r.now (λ i. (c.type_inv.r i).fits))
    (omega (arith, strings-whole (120 * c.args.blocks) c.args.r.now c.requires.given.whole)) (omega arith) (omega arith) c.loop-g.g c.loop-g.bits
    c.loop-g.macs c.loop-g.keys c.loop-g.win c.loop-g.invariant c.parities.result (omega arith) c.parities.ensures in
    record { bits_value = e.0; macs_value = e.1; keys_value = e.2 }
