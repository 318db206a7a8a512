use Rattle.std.proofs.Common.{rules}
use Rattle.bank.specs.Trials.{state}
use Rattle.bank.proofs.Rounds.{refused_done, is_done}
use Rattle.bank.proofs.trial.TrialBank.keep.Goals as goal

pub returns-in_err-spend-clause-done : goal.returns-in_err-spend-clause-done
returns-in_err-spend-clause-done g c = refused_done (state g.B.Bank.meaning c.args.self.now) c.args.token _ _ _ c.in_err-spend.ensures

pub returns-clause-done : goal.returns-clause-done
returns-clause-done g c = is_done (state g.B.Bank.meaning c.args.self.now) _ c.args.token.ticket (search rules)
