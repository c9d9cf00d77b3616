use Rattle.inputs.specs.OpeningLaws.{tested, code-and}
use Rattle.refusals.specs.Reason.{code_of}
use Rattle.inputs.proofs.check_lengths.Goals as goal

pub returns : goal.returns
returns c =
    rw (
      c.and-3.ensures,
      code-and,
      c.and-2.ensures,
      code-and,
      c.and.ensures,
      code-and,
      c.unless-buffers.ensures,
      c.unless-lists.ensures,
      c.lists_due.ensures,
      c.unless-party.ensures,
      c.parties.ensures,
    ) (tested c.args.f (code_of c.args.counts) c.requires c.args.bits c.args.alpha c.args.beta c.args.rest)
