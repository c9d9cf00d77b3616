use borrow.Author.Rules.{rules}
use Rattle.encode.specs.Encode.{dm_item}
use Rattle.encode.proofs.put_bytes.Goals as goal

pub returns : goal.returns
unfolding dm_item
returns c = search rules
