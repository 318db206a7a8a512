use Rattle.std.proofs.Common.{ap, arith}
use Rattle.bank.specs.Store.{Lent}
use Rattle.bank.proofs.AllOpen.{taken_within, taken_write, taken_rest}
use Rattle.bank.proofs.words.WordBankBank.write.Goals as goal

pub offset_bounds-self-address : goal.offset_bounds-self-address
offset_bounds-self-address c = let p = taken_within c.args.self.now.words.now 65536 c.args.address _ c.in_ok-read.ensures in omega arith

pub bounds-self-address : goal.bounds-self-address
bounds-self-address c = (taken_within c.args.self.now.words.now 65536 c.args.address _ c.in_ok-read.ensures).1

pub returns-clause-after : goal.returns-clause-after
returns-clause-after c = taken_write c.args.self.now.words.now 65536 c.args.address _ c.in_ok-read.ensures c.args.value

pub returns-clause-stays : goal.returns-clause-stays
returns-clause-stays c =
    let words = c.args.self.now.words in
    ap (Lent words.ghost_name) (taken_rest words.now 65536 c.args.address _ c.in_ok-read.ensures c.args.value)
