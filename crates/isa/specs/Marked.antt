-- Words with what they mean and what they leave in r3, for the definitions to be held against.
use Rattle.std.specs.Prelude.{◌≡◌, ℕ, List, [], ◌∷◌, Some, None, Option}
use Rattle.std.specs.List.{AllByRecursion}
use Rattle.codec.specs.declared.instruction.Instruction.{Instruction}
use Rattle.codec.specs.declared.instruction.Mnemonic.{Mnemonic}
use Rattle.codec.specs.declared.instruction.Mnemonic.TheVariants.{Vadd, Vmuleu, Vslli, Vsra, Vrtth, Vsll, Vdiv}
use Rattle.codec.specs.declared.table.Table.{Table}
use Rattle.codec.specs.declared.table.Table.TheVariants.{Gold, Cardinal}
use Rattle.codec.specs.Decoded.{decoded}
use Rattle.isa.specs.Sets.{set_of, written}

-- a word, what it means, the contents of r1, r2 and r3 before it, and of r3 after it
pub record Case : Type 0 where
  pub table : Table
  pub code : ℕ
  pub means : Option Instruction
  pub r1 : ℕ
  pub r2 : ℕ
  pub r3 : ℕ
  pub after : ℕ

-- the mnemonic m on r3, r1 and rb, with an amount n, a PPP p and a WW w
abbrev pub on : Mnemonic → ℕ → ℕ → ℕ → ℕ → Option Instruction
on m b n p w = Some (record { mnemonic = m; rd = 3; ra = 1; rb = b; amount = n; ppp = p; ww = w; address = 0 })

abbrev pub case : Table → ℕ → Option Instruction → ℕ → ℕ → ℕ → ℕ → Case
case t v i a b c r = record { table = t; code = v; means = i; r1 = a; r2 = b; r3 = c; after = r }

abbrev pub marked : List Case
marked =
    case Gold 0xA8611006 (on Vadd 2 0 0 0) 0x00FF000000000000 0x0001000000000000 0 0
    ∷ case Gold 0xA8611046 (on Vadd 2 0 0 1) 0x00FF000000000000 0x0001000000000000 0 0x0100000000000000
    ∷ case Gold 0xA8611446 (on Vadd 2 0 4 1) 0x00FF000000000000 0x0001000000000000 0xAAAAAAAAAAAAAAAA 0xAA00AA00AA00AA00
    ∷ case Gold 0xA8611546 None 0x00FF000000000000 0x0001000000000000 0xAAAAAAAAAAAAAAAA 0xAAAAAAAAAAAAAAAA
    ∷ case Gold 0xA86110C8 None 0x00FF000000000000 0x0001000000000000 0xAAAAAAAAAAAAAAAA 0xAAAAAAAAAAAAAAAA
    ∷ case Gold 0xA8611088 (on Vmuleu 2 0 0 2) 0xFFFFFFFF00000000 0xFFFFFFFF00000000 0 0xFFFFFFFE00000001
    ∷ case Gold 0xA861480E (on Vslli 0 9 0 0) 0x8100000000000000 0 0 0x0200000000000000
    ∷ case Gold 0xA8611051 (on Vsra 2 0 0 1) 0x8000400000000000 0x000F001F00000000 0 0xFFFF000000000000
    ∷ case Gold 0xA861000C (on Vrtth 0 0 0 0) 0x12F0000000000000 0 0 0x210F000000000000
    ∷ case Gold 0xA861100A None 0x8100000000000000 0x0100000000000000 0xAAAAAAAAAAAAAAAA 0xAAAAAAAAAAAAAAAA
    ∷ case Cardinal 0xA861100A (on Vsll 2 0 0 0) 0x8100000000000000 0x0100000000000000 0 0x0200000000000000
    ∷ case Cardinal 0xA861100E (on Vdiv 2 0 0 0) 0x0700000000000000 0x0200000000000000 0 0x0300000000000000
    ∷ []

abbrev pub Met : List Case → Type 0
Met = AllByRecursion (λ c. (decoded c.table c.code ≡ c.means) × (written (set_of c.table) c.code c.r1 c.r2 c.r3 ≡ c.after))
