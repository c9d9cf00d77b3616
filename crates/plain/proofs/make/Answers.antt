-- `fabitn`, and all other rounds.
use Rattle.lists.specs.Kit.{sym, ap, subst, ◌∙◌, List, ℕ}
use Rattle.engine.specs.Area.{to_others}
use Rattle.rounds.specs.Table.{held, written}
use Rattle.plain.specs.Held.{Held}
use Rattle.plain.specs.SendLaws.{strings-lent, due-at, held_at, held-for, sums-made}
use Rattle.plain.proofs.make.Goals as goal

pub make-requires : goal.make-requires
make-requires c =
    record {
      work = c.requires.work;
      r_value = strings-lent c.args.f (record {
        r =
            c.args.r.now;
      }) c.args.k c.requires.r_value c.if-k-eq-FABITN.true;
      out_len = due-at c.args.f.n c.args.f.l c.args.k 6 c.args.out.now c.requires.k_value.1 c.if-k-eq-FABITN.true;
    }

pub hold-requires : goal.hold-requires
hold-requires c =
    record { work = c.requires.work; k_nonzero = c.if-k-eq-FABITN.false }

pub write-requires : goal.write-requires
write-requires c =
    record {
      work = record { ranges = c.requires.work.ranges; whole = c.hold.auto.work ∙ c.requires.work.whole };
      k_value = c.requires.k_value;
      k_nonzero = (
        c.if-k-eq-FABITN.false,
        subst (Held c.args.k c.args.f) (sym (c.hold.ensures (record {
          r =
              c.args.r.now;
        }))) (held-for c.requires.work c.args.k (record { r = c.args.r.now })),
      );
    }

pub returns-then-k-eq-FABITN : goal.returns-then-k-eq-FABITN
unfolding held
returns-then-k-eq-FABITN c = (
  held_at c.args.f (record { r = c.args.r.now }) c.args.work.now c.args.k 6 _ c.if-k-eq-FABITN.true c.make.ensures.work_after,
  sums-made c.requires.work (record { r = c.args.r.now }) c.args.k _ c.if-k-eq-FABITN.true c.make.ensures.out_after,
)

pub returns-else-k-eq-FABITN : goal.returns-else-k-eq-FABITN
returns-else-k-eq-FABITN c =
    let is = c.hold.ensures (record { r = c.args.r.now }) in (
      is,
      c.write.ensures (record { r = c.args.r.now })
          ∙ ap (λ (x : List ℕ). to_others c.args.f.n c.args.f.i (written c.args.k c.args.f (record { r = c.args.r.now }) x)) is,
    )
