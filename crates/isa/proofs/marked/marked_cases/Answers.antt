use Rattle.std.proofs.Common.{rules}
use Rattle.base.specs.Words.{word, gathered}
use Rattle.isa.proofs.marked.marked_cases.Goals as goal

pub returns : goal.returns
unfolding word gathered
returns c = search rules
