-- What an instruction asks for.
use Rattle.std.specs.Prelude.{ℕ, Bool, true, false, cond, [], ◌∷◌, Some, None, Option, slice_index, slice_index_or}
use Rattle.base.specs.declared.width.Width.{Width}
use Rattle.base.specs.declared.width.Width.TheVariants.{W8, W16, W32, W64}
use Rattle.codec.specs.declared.instruction.Instruction.{Instruction}
use Rattle.codec.specs.declared.instruction.Shape.{Shape}
use Rattle.codec.specs.declared.instruction.Shape.TheVariants.{Two, One, Immediate, Address, Bare}
use Rattle.codec.specs.declared.instruction.Span.{Span}
use Rattle.codec.specs.declared.instruction.Span.TheVariants.{Bit, Subfield, Pair}
use Rattle.isa.specs.declared.operation.Operation.{Operation}
use Rattle.codec.specs.Decoded.{nop}
use Rattle.codec.specs.Tables.{kind_of}

-- the bytes that a PPP names: all, the upper and the lower four, the even and the odd
abbrev pub mask_of : ℕ → ℕ
mask_of p = slice_index (0b11111111 ∷ 0b11110000 ∷ 0b00001111 ∷ 0b10101010 ∷ 0b01010101 ∷ []) p

-- the width that a WW means
abbrev pub width_of : ℕ → Width
width_of w = slice_index_or (W8 ∷ W16 ∷ W32 ∷ []) w W64

-- twice the width; a word is the widest
abbrev pub doubled : Width → Width
doubled W8 = W16
doubled W16 = W32
doubled W32 = W64
doubled W64 = W64

-- how far a block of the result looks
abbrev pub reach_of : Span → ℕ → Width
reach_of Bit w = W8
reach_of Subfield w = width_of w
reach_of Pair w = doubled (width_of w)

abbrev pub calculates : Shape → Bool
calculates Two = true
calculates One = true
calculates Immediate = true
calculates Address = false
calculates Bare = false

abbrev pub reads_second : Shape → Bool
reads_second Two = true
reads_second One = false
reads_second Immediate = false
reads_second Address = false
reads_second Bare = false

abbrev pub described : Instruction → Operation
described i = let k = kind_of i.mnemonic in record {
  class = k.class;
  rd = i.rd;
  ra = i.ra;
  rb = i.rb;
  reads_a = calculates k.shape;
  reads_b = reads_second k.shape;
  address = i.address;
  mask = cond (calculates k.shape) (mask_of i.ppp) 0;
  reach = reach_of k.span i.ww;
}

-- an illegal word asks for what VNOP asks for
abbrev pub asked : Option Instruction → Operation
asked None = described nop
asked (Some i) = described i
