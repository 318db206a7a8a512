use Rattle.std.proofs.Common.{◌≡◌}
use Rattle.bank.proofs.Overlays.{carried}
use Rattle.bank.proofs.trial.settle.Given as goal

-- the words under the address are below
abbrev pub invariant-loop-address : goal.invariant-loop-address
invariant-loop-address g l = record {
  words : g.B.Bank.meaning l.bank ≡ carried l.overlay (g.B.Bank.meaning l.initial.bank) l.address;
  stays : g.B.Bank.fixed l.bank ≡ g.B.Bank.fixed l.initial.bank;
}
