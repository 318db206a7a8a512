use Rattle.bank.proofs.Calls.{opened_none}
use Rattle.bank.proofs.trial.TrialBank.open.Goals as goal

pub returns-clause-after : goal.returns-clause-after
returns-clause-after g c =
    let t = c.args.self.now in opened_none t.ticket t.overlay (g.B.Bank.meaning t.below.now) 1024 c.args.ticket c.if-is_some.ensures
