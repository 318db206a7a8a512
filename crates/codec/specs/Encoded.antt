-- The word that means an instruction.
use Rattle.std.specs.Prelude.{◌≡◌, ℕ, ◌^◌, ◌<◌, Some, None, Ok, Err, Result, slice_index_or}
use Rattle.base.specs.declared.fault.Fault.{Fault}
use Rattle.base.specs.declared.fault.Fault.TheVariants.{NoSuchInstruction}
use Rattle.codec.specs.declared.instruction.Instruction.{Instruction}
use Rattle.codec.specs.declared.instruction.Mnemonic.{Mnemonic}
use Rattle.codec.specs.declared.table.Table.{Table}
use Rattle.codec.specs.Decoded.{decoded}
use Rattle.codec.specs.Tables.{rows}

-- k is the only function number that can stand for the mnemonic
abbrev pub Alone : Table → Mnemonic → ℕ → Type 0
Alone t m k = (j : ℕ) → slice_index_or (rows t) j None ≡ Some m → j ≡ k

-- the word v means the instruction
abbrev pub Means : Table → Instruction → ℕ → Type 0
Means t i v = (v < 2 ^ 32) × (decoded t v ≡ Some i)

-- the answer is the one word that means the instruction, or a refusal where no word does
abbrev pub Encoded : Table → Instruction → Result ℕ Fault → Type 0
Encoded t i (Ok w) = Means t i w × ((v : ℕ) → Means t i v → v ≡ w)
Encoded t i (Err e) = (e ≡ NoSuchInstruction) × ((v : ℕ) → Means t i v → ⊥)
