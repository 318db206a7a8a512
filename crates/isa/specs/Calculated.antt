-- What a calculation makes of the contents of two registers.
use Rattle.std.specs.Prelude.{ℕ, ◌-◌, ◌*◌, ◌%◌, ◌^◌, min, Some, None, Option, bit_and, bit_or, bit_xor}
use Rattle.alu.specs.Blocks.{sum, difference, even, odd, swapped, shifted_left, shifted_right, shifted_signed, quotient, remainder}
use Rattle.alu.specs.Roots.{root_of}
use Rattle.base.specs.Words.{bits, field, word}
use Rattle.codec.specs.declared.instruction.Instruction.{Instruction}
use Rattle.codec.specs.declared.instruction.Mnemonic.{Mnemonic}
use Rattle.codec.specs.declared.instruction.Mnemonic.TheVariants.{Vand, Vor, Vxor, Vnot, Vmov, Vadd, Vsub, Vmuleu, Vmulou, Vsqeu, Vsqou, Vrtth, Vsll, Vslli, Vsrl, Vsrli, Vsra, Vsrai, Vdiv, Vmod, Vsqrt, Vld, Vsd, Vbez, Vbnez, Vnop}
use Rattle.isa.specs.Operations.{reach_of}
use Rattle.codec.specs.Tables.{kind_of}

-- the low 3, 4, 5 or 5 bits of a shift amount
abbrev pub immediate : ℕ → ℕ → ℕ
immediate r n = n % min r 32

-- of one block of r bits, p of the first contents and q of the second, with the shift amount n
abbrev pub on_block : Mnemonic → ℕ → ℕ → ℕ → ℕ → ℕ
on_block Vand n r p q = bit_and p q
on_block Vor n r p q = bit_or p q
on_block Vxor n r p q = bit_xor p q
on_block Vnot n r p q = 2 ^ r - 1 - p
on_block Vmov n r p q = p
on_block Vadd n r p q = sum r p q
on_block Vsub n r p q = difference r p q
on_block Vmuleu n r p q = even r p * even r q
on_block Vmulou n r p q = odd r p * odd r q
on_block Vsqeu n r p q = even r p * even r p
on_block Vsqou n r p q = odd r p * odd r p
on_block Vrtth n r p q = swapped r p
on_block Vsll n r p q = shifted_left r p q
on_block Vslli n r p q = shifted_left r p (immediate r n)
on_block Vsrl n r p q = shifted_right r p q
on_block Vsrli n r p q = shifted_right r p (immediate r n)
on_block Vsra n r p q = shifted_signed r p q
on_block Vsrai n r p q = shifted_signed r p (immediate r n)
on_block Vdiv n r p q = quotient p q
on_block Vmod n r p q = remainder p q
on_block Vsqrt n r p q = root_of p
on_block Vld n r p q = 0
on_block Vsd n r p q = 0
on_block Vbez n r p q = 0
on_block Vbnez n r p q = 0
on_block Vnop n r p q = 0

-- block by block, each from the same block of the contents
abbrev pub blockwise : Mnemonic → ℕ → ℕ → ℕ → ℕ → ℕ
blockwise m n r a b = word r (λ i. on_block m n r (field r i a) (field r i b))

abbrev pub reaches_of : Instruction → ℕ
reaches_of i = bits (reach_of (kind_of i.mnemonic).span i.ww)

abbrev pub calculated : Instruction → ℕ → ℕ → ℕ
calculated i a b = blockwise i.mnemonic i.amount (reaches_of i) a b

-- an illegal word has no result
abbrev pub outcome : Option Instruction → ℕ → ℕ → ℕ
outcome None a b = 0
outcome (Some i) a b = calculated i a b
