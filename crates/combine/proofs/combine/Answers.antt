use Rattle.std.specs.Prelude.{◌≡◌, ◌+◌, ◌*◌, length}
use Rattle.lists.specs.Kit.{refl, sym, ap, ◌∙◌, arith, rules}
use Rattle.refusals.specs.Reason.{number, code_of, number-some}
use Rattle.share.specs.Lent.{lent_len}
use Rattle.engine.specs.Step.{Refused, reply_of}
use Rattle.rounds.specs.Combine as C
use Rattle.rounds.specs.CombineLaws.{Due, due_of_lem, spec-refuses, spec-accepts}
use Rattle.combine.proofs.combine.Goals as goal
use Rattle.combine.proofs.combine.Goals.{In_ok-map_err}

pub returns-in_err-map_err : goal.returns-in_err-map_err
unfolding reply_of
returns-in_err-map_err c =
    let a = C.args c.args.n c.args.i c.args.count c.args.triples.now c.args.d.now c.args.out.now in
    let r = c.in_err-map_err.field-0.0 in
    let code : number r.reason ≡ code_of c.check.result = search rules in
    let own : r.party ≡ c.args.i = search rules in
    let told : reply_of c.from_residual.result ≡ Refused (number r.reason) r.party = search rules in
    rw (told, spec-refuses a (λ z. number-some r.reason (code ∙ c.check.ensures ∙ z)), code, c.check.ensures, own) refl

-- nothing was refused
none : (c : In_ok-map_err) → C.reason (C.args c.args.n c.args.i c.args.count c.args.triples.now c.args.d.now c.args.out.now) ≡ 0
none c = sym c.check.ensures ∙ (let e : code_of c.check.result ≡ 0 = search rules in e)

due : (c : In_ok-map_err) → Due (C.args c.args.n c.args.i c.args.count c.args.triples.now c.args.d.now c.args.out.now)
due c = due_of_lem (C.args c.args.n c.args.i c.args.count c.args.triples.now c.args.d.now c.args.out.now) (none c)

pub combine_all-requires : goal.combine_all-requires
combine_all-requires c =
    let d = due (goal.at.combine_all-requires c).In_ok-map_err in
    record {
      n_bound = (d.ranged.eight, d.out, omega (arith, d.d, d.ranged.five), d.ranged.party);
      triples_len = d.triples ∙ ap (λ k. 3 * k * lent_len c.args.n)
          (let e : c.args.count ≡ length c.args.d.now + 1 = omega (arith, d.d, d.ranged.some) in e);
    }

pub returns : goal.returns
unfolding C.combined reply_of
returns c =
    let a = C.args c.args.n c.args.i c.args.count c.args.triples.now c.args.d.now c.args.out.now in
    rw (spec-accepts a (none (goal.at.returns c).In_ok-map_err), c.combine_all.ensures, (due (goal.at.returns c).In_ok-map_err).d) refl
