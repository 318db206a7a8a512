use Rattle.std.proofs.Common.{take, sym, ◌∙◌}
use Rattle.bank.proofs.AllOpen.{got_read}
use Rattle.bank.proofs.words.WordBankBank.read.Goals as goal

pub returns : goal.returns
returns c =
    let found = rw c.words.ensures at c.get.ensures.lookup in
    got_read (take 65536 c.args.self.now.words.now) c.args.address _ c.in_ok-word.word found (sym c.ok_or.ensures.value ∙ c.in_ok-word.was)
