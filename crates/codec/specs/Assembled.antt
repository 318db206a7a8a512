-- An instruction's parts put together. What encoding answers rests on decoding alone; this serves its proof.
use Rattle.std.specs.Prelude.{ℕ, ◌+◌, ◌*◌, ◌%◌, ◌^◌}
use Rattle.codec.specs.declared.instruction.Class.{Class}
use Rattle.codec.specs.declared.instruction.Class.TheVariants.{Nothing, Calculate, Load, Store, BranchZero, BranchNotZero}
use Rattle.codec.specs.declared.instruction.Instruction.{Instruction}
use Rattle.codec.specs.Tables.{kind_of}

-- the opcode of a class, with the function number k of a calculation
abbrev pub lead : Class → ℕ → ℕ
lead Nothing k = 0xF0000000
lead Calculate k = 0b101010 * 2 ^ 26 + k
lead Load k = 0b100000 * 2 ^ 26
lead Store k = 0b100001 * 2 ^ 26
lead BranchZero k = 0b100010 * 2 ^ 26
lead BranchNotZero k = 0b100011 * 2 ^ 26

-- each part in its place; what its bits cannot hold is cut off
abbrev pub assembled : ℕ → Instruction → ℕ
assembled k i =
    lead (kind_of i.mnemonic).class k + i.rd % 32 * 2 ^ 21 + i.ra % 32 * 2 ^ 16 + (i.rb % 32 + i.amount % 32) * 2 ^ 11 + i.ppp % 8 * 2 ^ 8 + i.ww % 4 * 2 ^ 6 + i.address
