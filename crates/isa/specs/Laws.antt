-- Both sets keep the laws of an instruction set. Assumes nothing.
use Rattle.std.specs.Prelude.{◌≡◌, ℕ, ◌/◌, ◌%◌, ◌^◌, ◌<◌, false, Some, None, Option, refl}
use Rattle.std.proofs.Common.{sym, ap, ap₂, ◌∙◌, arith}
use Rattle.base.proofs.Fields.{field-word}
use Rattle.base.proofs.Widths.{is_width}
use Rattle.base.specs.Words.{bits, field, word}
use Rattle.codec.specs.declared.instruction.Instruction.{Instruction}
use Rattle.codec.specs.declared.instruction.Mnemonic.{Mnemonic}
use Rattle.codec.specs.declared.instruction.Shape.{Shape}
use Rattle.codec.specs.declared.instruction.Shape.TheVariants.{Two, One, Immediate, Address, Bare}
use Rattle.isa.specs.declared.operation.Operation.{Operation}
use Rattle.codec.specs.declared.table.Table.{Table}
use Rattle.isa.specs.Calculated.{on_block, reaches_of, outcome}
use Rattle.codec.specs.Decoded.{rb_of, second, decoded}
use Rattle.isa.specs.Operations.{calculates, reads_second, asked}
use Rattle.isa.specs.Sets.{Lawful, set_of}
use Rattle.codec.specs.Tables.{kind_of}
use Rattle.codec.proofs.Origins.{decodes}

-- over any reach, a block of a word that is made block by block depends only on the same block
blocks : (o : Option Instruction) (a b c d k : ℕ) → k < 64 / bits (asked o).reach → field (bits (asked o).reach) k a ≡ field (bits (asked o).reach) k c → field (bits (asked o).reach) k b ≡ field (bits (asked o).reach) k d
    → field (bits (asked o).reach) k (outcome o a b) ≡ field (bits (asked o).reach) k (outcome o c d)
blocks None a b c d k h p q = refl
blocks (Some i) a b c d k h p q =
    let r : ℕ = reaches_of i in
    let f : ℕ → ℕ → ℕ = on_block i.mnemonic i.amount r in
    let W = is_width (asked (Some i)).reach in
    field-word W (λ j. f (field r j a) (field r j b)) k h ∙ ap₂ (λ x y. f x y % 2 ^ r) p q ∙ sym (field-word W (λ j. f (field r j c) (field r j d)) k h)

second_unread : (m : Mnemonic) (n r p q q' : ℕ) → reads_second (kind_of m).shape ≡ false → on_block m n r p q ≡ on_block m n r p q'
second_unread m n r p q q' h = grind arith

first_unread : (m : Mnemonic) (n r p p' q : ℕ) → calculates (kind_of m).shape ≡ false → on_block m n r p q ≡ on_block m n r p' q
first_unread m n r p p' q h = grind arith

unread_a : (o : Option Instruction) (a b c : ℕ) → (asked o).reads_a ≡ false → outcome o a b ≡ outcome o c b
unread_a None a b c h = refl
unread_a (Some i) a b c h =
    let r : ℕ = reaches_of i in
    ap (word r) (λ t j. first_unread i.mnemonic i.amount r (field r j a) (field r j c) (field r j b) h t)

unread_b : (o : Option Instruction) (a b c : ℕ) → (asked o).reads_b ≡ false → outcome o a b ≡ outcome o a c
unread_b None a b c h = refl
unread_b (Some i) a b c h =
    let r : ℕ = reaches_of i in
    ap (word r) (λ t j. second_unread i.mnemonic i.amount r (field r j a) (field r j b) (field r j c) h t)

-- the numbers of an operation are in range
record InRange (o : Operation) : Type 0 where
  rd : o.rd < 32
  ra : o.ra < 32
  rb : o.rb < 32
  address : o.address < 65536

register : (s : Shape) (b : ℕ) → b < 32 → second s b < 32
register Two b h = h
register One b h = omega arith
register Immediate b h = omega arith
register Address b h = omega arith
register Bare b h = omega arith

in_range : (t : Table) (v : ℕ) → InRange (asked (decoded t v))
in_range t v = decodes (λ o. InRange (asked o)) t v record {
  illegal = record { rd = omega arith; ra = omega arith; rb = omega arith; address = omega arith };
  calculates = λ m op at class ok. record { rd = omega arith; ra = omega arith; rb = register (kind_of m).shape (rb_of v) (omega arith); address = omega arith };
  transfers = λ m o op at zero. record { rd = omega arith; ra = omega arith; rb = omega arith; address = omega arith };
  rests = λ is. record { rd = omega arith; ra = omega arith; rb = omega arith; address = omega arith };
}

pub lawful : (t : Table) → Lawful (set_of t)
lawful t = record {
  blocks = λ v a b c d i ha hb hc hd h p q. blocks (decoded t v) a b c d i h p q;
  unread_a = λ v a b c ha hb hc h. unread_a (decoded t v) a b c h;
  unread_b = λ v a b c ha hb hc h. unread_b (decoded t v) a b c h;
  rd_below = λ v. (in_range t v).rd;
  ra_below = λ v. (in_range t v).ra;
  rb_below = λ v. (in_range t v).rb;
  address_below = λ v. (in_range t v).address;
}
