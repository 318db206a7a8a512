use Rattle.std.proofs.Common.{◌≡◌}
use Rattle.conformance.proofs.banks.Survey.call_all.Given as goal

-- what is fixed of the bank stays so
abbrev pub invariant-loop : goal.invariant-loop
invariant-loop g l = g.B.Bank.fixed l.bank ≡ g.B.Bank.fixed l.initial.bank
