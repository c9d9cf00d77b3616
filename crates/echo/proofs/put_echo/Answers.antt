use Rattle.std.specs.Prelude.{◌≡◌, ◌+◌, ◌≤◌}
use Rattle.lists.specs.Kit.{refl, sym, ap, ◌∙◌, arith}
use Rattle.lists.specs.Over.{length-take-drop}
use Rattle.encode.specs.Stretch.{stretch-count, stretch-self, stretch-turn, stretch-end}
use Rattle.plan.specs.Plan.{msg_len}
use Rattle.rounds.specs.Echo.{echo_msg}
use Rattle.rounds.specs.EchoLaws.{entry, entry_length, entry_zero, entry_next, entry-fits, entries-fill, echo-len}
use Rattle.echo.proofs.put_echo.Goals as goal
use Rattle.echo.proofs.put_echo.Goals.{After-entry_len}

pub slice_bounds-put_count-end : goal.slice_bounds-put_count-end
slice_bounds-put_count-end c = omega (arith, c.requires.out_len.0, echo-len c.args.f.n)

pub put_count-requires : goal.put_count-requires
put_count-requires c =
    length-take-drop 0 8 c.args.out.now ∙ omega (arith, c.requires.out_len.0, echo-len c.args.f.n)

pub loop-k-init : goal.loop-k-init
loop-k-init c =
    let w = stretch-count c.args.f.n (entry c.args.f.i c.args.r c.args.hashes.now) c.args.out.now c.put_count.new.out
    (omega (arith, c.requires.out_len.0, echo-len c.args.f.n)) c.put_count.ensures in
    ((
      entry_zero c.args.f.i c.args.r c.args.hashes.now,
      (w.same ∙ c.requires.out_len.0, stretch-self c.args.f.n (entry c.args.f.i c.args.r c.args.hashes.now) 0 8 c.args.out.now _ w),
    ))

-- entry k ends within
fits : (c : After-entry_len) → c.loop-k.a + c.entry_len.result ≤ msg_len c.args.f.n 1 2
fits c =
    omega (
      arith,
      c.entry_len.ensures,
      entry-fits c.args.f.n c.args.f.i c.args.r c.args.hashes.now c.requires.out_len.1 c.requires.n_bound.1.0
          c.requires.n_bound.1.1.0 c.requires.n_bound.1.1.1 c.loop-k.k c.loop-k.a c.loop-k-test.true c.loop-k.invariant.0,
    )

pub overflow_add-e : goal.overflow_add-e
overflow_add-e c = omega (arith, fits (goal.at.overflow_add-e c).After-entry_len, echo-len c.args.f.n)

pub slice_bounds-put_entry-end : goal.slice_bounds-put_entry-end
slice_bounds-put_entry-end c =
    omega (arith, fits (goal.at.slice_bounds-put_entry-end c).After-entry_len, c.loop-k.invariant.1.0, c.loop-k.invariant.1.1.same)

pub put_entry-requires : goal.put_entry-requires
put_entry-requires c = (
  length-take-drop c.loop-k.a (c.loop-k.a + c.entry_len.result) c.loop-k.out
      ∙ omega (
        arith,
        c.entry_len.ensures,
        fits (goal.at.put_entry-requires c).After-entry_len,
        c.loop-k.invariant.1.0,
        c.loop-k.invariant.1.1.same,
      ),
  omega (arith, c.requires.out_len.1, c.loop-k-test.true),
)

pub loop-k-preserved : goal.loop-k-preserved
loop-k-preserved c =
    let h = c.args.hashes.now in
    let e = c.loop-k.a + c.entry_len.result in ((
      ap (λ x. c.loop-k.a + x) c.entry_len.ensures
          ∙ entry_next c.args.f.n c.args.f.i c.args.r h c.requires.out_len.1 c.loop-k.k c.loop-k.a c.loop-k-test.true
          c.loop-k.invariant.0,
      (
        c.loop-k.invariant.1.0,
        stretch-turn c.args.f.n
            (entry c.args.f.i c.args.r h) c.loop-k.k c.loop-k.a e e _ c.loop-k.out c.put_entry.new.out c.loop-k.invariant.1.1
            c.put_entry.ensures
            (ap (λ x. c.loop-k.a + x)
            (entry_length c.args.f.n c.args.f.i c.args.r h c.requires.out_len.1 c.loop-k.k c.loop-k-test.true
            ∙ sym c.entry_len.ensures))
            (omega (arith, fits (goal.at.loop-k-preserved c).After-entry_len, c.loop-k.invariant.1.0)) refl,
      ),
    ))

pub shape_of-out : goal.shape_of-out
shape_of-out c =
    c.loop-k.invariant.1.1.same ∙ c.loop-k.invariant.1.0 ∙ sym c.requires.out_len.0

pub returns : goal.returns
unfolding echo_msg
returns c =
    let e : c.loop-k.k ≡ c.args.f.n = omega arith in
    stretch-end c.args.f.n (entry c.args.f.i c.args.r c.args.hashes.now) c.loop-k.k c.loop-k.a _ c.loop-k.out c.loop-k.invariant.1.1 e
    (omega (
      arith,
      c.loop-k.invariant.1.0,
      entries-fill c.args.f.n c.args.f.i c.args.r c.args.hashes.now c.requires.out_len.1 c.requires.n_bound.1.0
          c.requires.n_bound.1.1.0 c.requires.n_bound.1.1.1 c.loop-k.k c.loop-k.a e c.loop-k.invariant.0,
    ))
