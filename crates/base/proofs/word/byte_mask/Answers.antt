use Rattle.std.proofs.Common.{rules}
use Rattle.base.proofs.Bits.{bytes_are}
use Rattle.base.proofs.word.byte_mask.Goals as goal

pub returns : goal.returns
returns c = search (rules, bytes_are)
