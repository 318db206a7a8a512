use Rattle.std.proofs.Common.{arith}
use Rattle.bank.proofs.Calls.{wrote_shown, wrote_held}
use Rattle.bank.proofs.trial.TrialBankBank.write.Goals as goal

pub returns-in-Some-clause-after : goal.returns-in-Some-clause-after
returns-in-Some-clause-after g c =
    let t = c.args.self.now in
    wrote_shown t.overlay (g.B.Bank.meaning t.below.now) c.args.address c.args.value (omega arith) t.ticket _ c.in-Some.is c.if-not-is_open.ensures

pub returns-in-Some-clause-whole : goal.returns-in-Some-clause-whole
returns-in-Some-clause-whole g c =
    let t = c.args.self.now in
    wrote_held t.overlay (g.B.Bank.meaning t.below.now) c.args.address c.args.value (omega arith) t.ticket _ c.in-Some.is c.if-not-is_open.ensures
