use Rattle.std.proofs.Common.{◌≡◌}
use Rattle.render.proofs.trials.lay.Given as goal

-- what is fixed of the bank stays so
abbrev pub invariant-loop-pixel : goal.invariant-loop-pixel
invariant-loop-pixel g l = g.B.Bank.fixed l.bank ≡ g.B.Bank.fixed l.initial.bank
