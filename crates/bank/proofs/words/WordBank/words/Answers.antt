use Rattle.bank.proofs.AllOpen.{take_first}
use Rattle.bank.proofs.words.WordBank.words.Goals as goal

pub returns : goal.returns
returns c = take_first 65536 _ c.args.self.now.words.now c.min.ensures
