-- `==` on mnemonics and on instructions is true exactly where the two are equal. Assumes nothing.
use Rattle.std.specs.Prelude.{◌≡◌, Bool, Decides, refl}
use Rattle.std.specs.Bool.{one_answer}
use Rattle.std.specs.Cmp.{IsEquivalence}
use Rattle.std.proofs.Common.{rules, arith, sym, ap}
use Rattle.std.proofs.lemmas.Bool.Decides.{nat_tests}
use Rattle.codec.specs.contracts.instruction.InstructionEq.TheImpl.Laws.{lawful}
use Rattle.codec.specs.contracts.instruction.InstructionPartialEq.TheImpl as instructions
use Rattle.codec.specs.contracts.instruction.MnemonicPartialEq.TheImpl as mnemonics
use Rattle.codec.specs.declared.instruction.Instruction.{Instruction}
use Rattle.codec.specs.declared.instruction.Mnemonic.{Mnemonic}

-- what the derived `==` computes
abbrev pub same_mnemonic : Mnemonic → Mnemonic → Bool
same_mnemonic = mnemonics.ghosts.eq

abbrev pub same_instruction : Instruction → Instruction → Bool
same_instruction = instructions.ghosts.eq

pub exact_mnemonic : (a b : Mnemonic) → Decides (same_mnemonic a b) (a ≡ b)
exact_mnemonic a b = search rules

pub exact_instruction : (a b : Instruction) → Decides (same_instruction a b) (a ≡ b)
exact_instruction a b = grind (arith, nat_tests)

-- a test of equality is an equivalence
pub exact_is_equivalence : {K : Type 0} (E : K → K → Bool) → ((a b : K) → Decides (E a b) (a ≡ b)) → IsEquivalence E
exact_is_equivalence E exact = record {
  refl = λ x. (exact x x).1 refl;
  symm = λ x y. one_answer (E x y) (E y x) (exact x y) (λ e. sym ((exact y x).0 e), λ e. (exact y x).1 (sym e));
  congr = λ x y z p. ap (λ w. E w z) ((exact x y).0 p);
}

pub instruction_equivalence : IsEquivalence same_instruction
instruction_equivalence = lawful.laws
