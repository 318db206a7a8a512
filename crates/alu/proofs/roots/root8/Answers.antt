use Rattle.std.proofs.Common.{rules}
use Rattle.alu.proofs.Squares.{rooted, only_root}
use Rattle.alu.proofs.roots.root8.Goals as goal

pub returns : goal.returns
returns c = search (rules, rooted, only_root)
