-- An instruction set by its meaning, and the laws that it owes. Contents have 64 bits.
use Rattle.std.specs.Prelude.{◌≡◌, ℕ, ◌/◌, ◌^◌, ◌<◌, false}
use Rattle.base.specs.Words.{bits, field, masked}
use Rattle.isa.specs.declared.operation.Operation.{Operation}
use Rattle.codec.specs.declared.table.Table.{Table}
use Rattle.isa.specs.Calculated.{outcome}
use Rattle.codec.specs.Decoded.{decoded}
use Rattle.isa.specs.Operations.{asked}

pub record Set : Type 0 where
  -- what a word asks for
  pub operation : ℕ → Operation
  -- what a word makes of the contents of rA and rB
  pub result : ℕ → ℕ → ℕ → ℕ

-- x cut into blocks by the reach of the word v: how many there are, and block i
abbrev pub blocks_of : Set → ℕ → ℕ
blocks_of s v = 64 / bits (s.operation v).reach

abbrev pub block : Set → ℕ → ℕ → ℕ → ℕ
block s v i x = field (bits (s.operation v).reach) i x

pub record Lawful (s : Set) : Type 0 where
  -- a block of the result, cut by the reach, depends only on the same block of the contents
  pub blocks : (v a b c d i : ℕ) → a < 2 ^ 64 → b < 2 ^ 64 → c < 2 ^ 64 → d < 2 ^ 64 → i < blocks_of s v
      → block s v i a ≡ block s v i c → block s v i b ≡ block s v i d → block s v i (s.result v a b) ≡ block s v i (s.result v c d)
  -- a register that is not read has no influence
  pub unread_a : (v a b c : ℕ) → a < 2 ^ 64 → b < 2 ^ 64 → c < 2 ^ 64 → (s.operation v).reads_a ≡ false → s.result v a b ≡ s.result v c b
  pub unread_b : (v a b c : ℕ) → a < 2 ^ 64 → b < 2 ^ 64 → c < 2 ^ 64 → (s.operation v).reads_b ≡ false → s.result v a b ≡ s.result v a c
  -- registers and addresses are in range
  pub rd_below : (v : ℕ) → (s.operation v).rd < 32
  pub ra_below : (v : ℕ) → (s.operation v).ra < 32
  pub rb_below : (v : ℕ) → (s.operation v).rb < 32
  pub address_below : (v : ℕ) → (s.operation v).address < 65536

-- Gold or Cardinal, by its table
abbrev pub set_of : Table → Set
set_of t = record { operation = λ v. asked (decoded t v); result = λ v a b. outcome (decoded t v) a b }

-- the contents of rD after the word v calculated from a and b: the result in the bytes of the mask, the old contents in the others
abbrev pub written : Set → ℕ → ℕ → ℕ → ℕ → ℕ
written s v a b old = masked (s.operation v).mask (s.result v a b) old
