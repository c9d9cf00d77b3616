use Rattle.std.specs.Prelude.{◌++◌}
use Rattle.lists.specs.Kit.{ap, ap₂, ◌∙◌, List, ℕ, drop, replicate}
use Rattle.rounds.specs.declared.Mail.{Mail}
use Rattle.admit.specs.Admit.{mail_of}
use Rattle.admit.proofs.AdmitLaws.{eight-is}
use Rattle.form.proofs.mail_of.Goals as goal

pub returns : goal.returns
unfolding mail_of
returns c =
    let n = c.args.n in
    ap₂ (λ (x y : List ℕ). let m : Mail = record { starts = x; lens = y } in m)
    (ap (λ (x : List ℕ). x ++ drop n (replicate 8 0)) c.copy_from_slice.ensures.after ∙ eight-is c.args.starts.now n c.requires.0)
    (ap (λ (x : List ℕ). x ++ drop n (replicate 8 0)) c.copy_from_slice-2.ensures.after ∙ eight-is c.args.lens.now n c.requires.1)
