use Rattle.std.specs.Prelude.{◌≡◌, ◌-◌, ◌*◌, ◌<◌, ◌≤◌}
use Rattle.lists.specs.Kit.{sym, ap, ◌∙◌, subst, arith, length}
use Rattle.share.specs.Record.{mac_off, key_off}
use Rattle.engine.specs.Area.{nth-below}
use Rattle.rbits.specs.Chosen.{words_of}
use Rattle.rsums.specs.Sums.{grown}
use Rattle.rsums.specs.SumsLaws.{length-all, macs-within, keys-within, grown-none, grown-turn}
use Rattle.rsums.proofs.add_group.Goals as goal
use Rattle.rsums.proofs.add_group.Goals.{After-other-k}

pub loop-q-init : goal.loop-q-init
loop-q-init c = (
  grown-none mac_off c.args.n c.args.i c.args.s.now c.args.count c.args.first c.args.win.now c.args.h c.args.macs.now (omega arith),
  grown-none key_off c.args.n c.args.i c.args.s.now c.args.count c.args.first c.args.win.now c.args.h c.args.keys.now (omega arith),
)

-- the q-th party but i is a party
below : (c : After-other-k) → c.other-k.result < 8
below c =
    omega (arith, c.other-k.ensures, nth-below c.args.n c.args.i c.loop-q.q c.loop-q-test.true)

pub add_pair-requires : goal.add_pair-requires
add_pair-requires c =
    let h : c.loop-q.q < c.args.n - 1 = c.loop-q-test.true in
    let mac = c.mac_off-mac.ensures ∙ ap mac_off c.other-k.ensures in
    let key = c.key_off-key.ensures ∙ ap key_off c.other-k.ensures in
    let macs = macs-within c.args.n c.args.i c.loop-q.q h in
    let keys = keys-within c.args.n c.args.i c.loop-q.q h in
    let records : c.args.count * c.record_len-stride.result ≤ length c.args.s.now =
    subst (λ x. c.args.count * x ≤ length c.args.s.now) (sym c.record_len-stride.ensures) c.requires.n_in_bounds in
    record {
      x_len = (length-all _ _ c.loop-q.invariant.0, length-all _ _ c.loop-q.invariant.1);
      base_bound = (omega arith, c.requires.le_n.3);
      at_bound = (omega arith, omega arith, records);
      first_bound = c.requires.first_bound;
    }

pub loop-q-preserved : goal.loop-q-preserved
loop-q-preserved c = (
  grown-turn mac_off c.args.n c.args.i c.args.s.now c.args.count c.args.first c.args.win.now c.args.h c.args.macs.now c.loop-q.q _ _ _
      c.loop-q.macs _ c.record_len-stride.ensures c.other-k.ensures c.mac_off-mac.ensures c.loop-q.invariant.0
      c.add_pair.ensures.x_after,
  grown-turn key_off c.args.n c.args.i c.args.s.now c.args.count c.args.first c.args.win.now c.args.h c.args.keys.now c.loop-q.q _ _ _
      c.loop-q.keys _ c.record_len-stride.ensures c.other-k.ensures c.key_off-key.ensures c.loop-q.invariant.1
      c.add_pair.ensures.y_after,
)

pub returns : goal.returns
returns c =
    let e : c.loop-q.q ≡ c.args.n - 1 = omega arith in record {
      macs_after = c.loop-q.invariant.0
          ∙ ap (λ q. words_of 840 (grown mac_off c.args.n c.args.i c.args.s.now c.args.count c.args.first c.args.win.now c.args.h
          c.args.macs.now q)) e;
      keys_after = c.loop-q.invariant.1
          ∙ ap (λ q. words_of 840 (grown key_off c.args.n c.args.i c.args.s.now c.args.count c.args.first c.args.win.now c.args.h
          c.args.keys.now q)) e;
    }

pub mac_off-mac-requires : goal.mac_off-mac-requires
mac_off-mac-requires c = below (goal.at.mac_off-mac-requires c).After-other-k

pub key_off-key-requires : goal.key_off-key-requires
key_off-key-requires c = below (goal.at.key_off-key-requires c).After-other-k
