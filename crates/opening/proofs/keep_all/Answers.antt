use Rattle.std.specs.Prelude.{◌≡◌, ◌+◌, ◌*◌, ◌≤◌, length}
use Rattle.lists.specs.Kit.{sym, ap, ◌∙◌, arith, rules}
use Rattle.lists.specs.Over.{in-chunks}
use Rattle.share.specs.Lent.{lent_len, kept_of}
use Rattle.opening.proofs.keep_all.Goals as goal

pub write_rows-requires-clause-out_len : goal.write_rows-requires-clause-out_len
write_rows-requires-clause-out_len c = c.requires.n_bound.1 ∙ ap (λ m. c.args.count * m) (sym c.record_len-kept.ensures)

pub write_rows-requires-clause-put_pre : goal.write_rows-requires-clause-put_pre
write_rows-requires-clause-put_pre c k l row e =
    let at : k * c.lent_len-lent.result ≡ k * lent_len c.args.n = ap (λ m. k * m) c.lent_len-lent.ensures in
    let fits : k * c.lent_len-lent.result + lent_len c.args.n ≤ length c.args.x.now =
    omega (arith, at, in-chunks k c.args.count (lent_len c.args.n) l, c.requires.x_len) in
    search rules

pub returns : goal.returns
unfolding kept_of
returns c = c.write_rows.ensures _ (λ k l row left e h. search rules)
