use Rattle.bank.proofs.Bounds.{few_words}
use Rattle.bank.proofs.words.WordBankBank.size.Goals as goal

pub returns-clause-few : goal.returns-clause-few
returns-clause-few c = rw c.words.ensures (few_words c.args.self.now.words.now)
