use Rattle.std.specs.Prelude.{◌++◌, ◌+◌, ◌-◌, ◌*◌}
use Rattle.lists.specs.Kit.{ap, ◌∙◌, List, ℕ, arith, length}
use lib.ListN.{length-drop}
use Rattle.lists.specs.Over.{over-full}
use Rattle.lists.specs.Sect.{get-rest}
use Rattle.algebra.specs.Sum.{others}
use Rattle.block.specs.declared.Block.{Block}
use Rattle.block.specs.Block.{bytes_of}
use Rattle.block.specs.Group.{blocks}
use Rattle.block.specs.Trip.{length-bytes_of}
use Rattle.share.specs.Record.{record_len, key_at}
use Rattle.engine.specs.declared.Frame.{Frame}
use Rattle.rounds.specs.Area.{leaky_len, rows}
use Rattle.rounds.specs.Haand as R
use Rattle.haand_hash.specs.WindowLaws.{length-hashes}
use Rattle.haand_rows.specs.Parts.{entry_at, entries-of, sums-of, three-parts}
use Rattle.haand_rows.proofs.put_row.Goals as goal

pub slice_bounds-put_entries-count : goal.slice_bounds-put_entries-count
unfolding leaky_len
slice_bounds-put_entries-count c = omega arith

pub slice_bounds-put_entries-start : goal.slice_bounds-put_entries-start
unfolding leaky_len
slice_bounds-put_entries-start c = omega arith

pub put_entries-requires : goal.put_entries-requires
unfolding leaky_len
put_entries-requires c =
    let at = c.args.t * record_len c.args.f.n in record {
      n_bound = (
        c.requires.asked.0.ranges.range.eight,
        (
          c.requires.asked.0.ranges.own,
          ap length (get-rest 32 c.args.out.now) ∙ length-drop 32 c.args.out.now ∙
              (omega arith),
        ),
      );
      keys_len = (
        ap length c.requires.keys_value ∙ length-hashes c.args.f (key_at c.args.recs.now at),
        ap length c.requires.sums_value ∙ length-hashes c.args.f (λ k. blocks.op (key_at c.args.recs.now at k) c.args.delta.0),
      );
    }

pub slice_bounds-store-end : goal.slice_bounds-store-end
unfolding leaky_len
slice_bounds-store-end c = omega arith

pub slice_bounds-store-end-2 : goal.slice_bounds-store-end-2
unfolding leaky_len
slice_bounds-store-end-2 c = omega arith

pub key_hashes-requires : goal.key_hashes-requires
key_hashes-requires c = (
  c.requires.asked.0.ranges.own,
  ap length c.requires.keys_value ∙ length-hashes c.args.f (key_at c.args.recs.now (c.args.t *
      record_len c.args.f.n)),
)

pub returns : goal.returns
unfolding R.leaky_row leaky_len
returns c =
    let r = c.args.recs.now in
    let f : Frame = c.args.f in
    let front : List ℕ = bytes_of (R.phi f c.args.delta.0 r c.args.t) in
    let sums : List ℕ = bytes_of (others blocks c.args.f.i c.args.f.n (λ j. R.G ((R.x f r c.args.t).key j))) in
    let entries : List ℕ = rows f 18 (R.leaky_entry f c.args.delta.0 r c.args.t) in
    three-parts 16 (length c.args.out.now - 32) front sums entries _ _ _ c.args.out.now (omega arith)
    (length-bytes_of (R.phi f c.args.delta.0 r c.args.t))
    (c.store.ensures ∙ ap bytes_of c.phi-p.ensures)
    (c.store-2.ensures
    ∙ ap bytes_of (c.key_hashes.ensures
    ∙ sums-of f c.args.delta.0 r c.args.t c.args.keys.now c.args.sums.now c.requires.asked.0.ranges.own c.requires.keys_value
    c.requires.sums_value))
    (c.put_entries.ensures
    ∙ ap (λ (q : Block). rows f 18 (entry_at c.args.f.i c.args.keys.now c.args.sums.now q)) c.phi-p.ensures
    ∙ entries-of f c.args.delta.0 r c.args.t c.args.keys.now c.args.sums.now c.requires.asked.0.ranges.own c.requires.keys_value
    c.requires.sums_value)
    ∙ over-full (front ++ (sums ++ entries)) c.args.out.now (32 + (length c.args.out.now - 32)) (omega arith)
