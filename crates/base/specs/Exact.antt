-- Faults are known by their numbers, and `==` on them is true exactly where the two are equal. Assumes nothing.
use Rattle.std.specs.Prelude.{◌≡◌, ◌==◌, true, Bool, Decides}
use Rattle.std.specs.Bool.{one_answer}
use Rattle.std.proofs.Common.{arith, rules}
use Rattle.base.specs.contracts.fault.FaultPartialEq.TheImpl as faults
use Rattle.base.specs.declared.fault.Fault.{Fault}
use Rattle.base.specs.Faults.{number}

told : (a b : Fault) → number a == number b ≡ true → a ≡ b
told a b e = grind arith

shown : (a b : Fault) → a ≡ b → number a == number b ≡ true
shown a b e = grind arith

-- no two refusals have one number
pub exact_fault : (a b : Fault) → Decides (number a == number b) (a ≡ b)
exact_fault a b = (told a b, shown a b)

-- what `==` computes
abbrev pub same_fault : Fault → Fault → Bool
same_fault = faults.ghosts.eq

pub exact_same_fault : (a b : Fault) → Decides (same_fault a b) (a ≡ b)
exact_same_fault a b = search rules

-- and where the numbers are
pub same_fault_number : (a b : Fault) → same_fault a b ≡ (number a == number b)
same_fault_number a b = one_answer _ _ (exact_same_fault a b) (exact_fault a b)
