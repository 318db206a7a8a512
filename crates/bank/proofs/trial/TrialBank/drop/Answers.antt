use Rattle.std.proofs.Common.{rules}
use Rattle.bank.specs.Trials.{state}
use Rattle.bank.proofs.Rounds.{refused_undone, is_undone}
use Rattle.bank.proofs.trial.TrialBank.drop.Goals as goal

pub returns-in_err-spend-clause-undone : goal.returns-in_err-spend-clause-undone
returns-in_err-spend-clause-undone g c = refused_undone (state g.B.Bank.meaning c.args.self.now) c.args.token _ _ _ c.in_err-spend.ensures

pub returns-clause-undone : goal.returns-clause-undone
returns-clause-undone g c = is_undone (state g.B.Bank.meaning c.args.self.now) _ c.args.token.ticket (search rules)
