-- Where a decoded instruction comes from. Assumes nothing.
use Rattle.std.proofs.Common.{◌≡◌, ℕ, ◌*◌, ◌^◌, Bool, true, cond, ◌&&◌, eqb, length, get_or, Some, None, Option, sym, refl, ◌∙◌, subst, ⊎_elim, arith}
use Rattle.std.proofs.lemmas.Bool.{agree_below, agree_below_at, and_parts, cases_lt, cond_both, eqb-true}
use Rattle.std.proofs.lemmas.List.{get_or_past}
use Rattle.std.specs.List.{position_or_len}
use Rattle.std.specs.Option.{option_eq}
use Rattle.codec.specs.contracts.instruction.Class.{the_type}
use Rattle.codec.specs.contracts.instruction.ClassPartialEq.TheImpl as classes
use Rattle.codec.specs.declared.instruction.Class.TheVariants.{Calculate}
use Rattle.codec.specs.declared.instruction.Instruction.{Instruction}
use Rattle.codec.specs.declared.instruction.Mnemonic.{Mnemonic}
use Rattle.codec.specs.declared.instruction.Mnemonic.TheVariants.{Vld, Vsd, Vbez, Vbnez}
use Rattle.codec.specs.declared.table.Table.{Table}
use Rattle.codec.specs.declared.table.Table.TheVariants.{Gold, Cardinal}
use Rattle.codec.specs.Assembled.{lead}
use Rattle.codec.specs.Decoded.{opcode_of, ra_of, function_of, legal, read, calculation, moved, nop, decoded}
use Rattle.codec.specs.Encoded.{Alone}
use Rattle.codec.specs.Exact.{same_mnemonic}
use Rattle.codec.specs.Tables.{kind_of, rows}
use denote.Enum.Bare.{same_true}

-- where a mnemonic stands first in a table
number : Table → Mnemonic → ℕ
number t m = position_or_len (λ o. option_eq same_mnemonic o (Some m)) (rows t)

-- a row of a table: its mnemonic stands there first, and calculates
right : Table → ℕ → Option Mnemonic → Bool
right t k None = true
right t k (Some m) = eqb (number t m) k && classes.ghosts.eq (kind_of m).class Calculate

right_at : Table → ℕ → Bool
right_at t k = right t k (get_or (rows t) k None)

long : (t : Table) → length (rows t) ≡ 19
long Gold = refl
long Cardinal = refl

all_right : (t : Table) → agree_below (right_at t) (λ k. true) 19 ≡ true
unfolding right_at right number
all_right Gold = refl
all_right Cardinal = refl

always_right : (t : Table) (k : ℕ) → right t k (get_or (rows t) k None) ≡ true
unfolding right_at right
always_right t k = ⊎_elim (agree_below_at (right_at t) (λ k. true) 19 k (all_right t)) (λ past. rw (get_or_past (rows t) k None (omega (arith, long t))) refl) (cases_lt k 19)

row_right : (t : Table) (k : ℕ) (m : Mnemonic) → get_or (rows t) k None ≡ Some m → (number t m ≡ k) × ((kind_of m).class ≡ Calculate)
unfolding right
row_right t k m e =
    let is = and_parts _ _ (subst (λ o. right t k o ≡ true) e (always_right t k)) in
    (eqb-true _ _ is.0, same_true the_type tt _ _ is.1)

-- a mnemonic stands at one place of a table at most
pub alone : (t : Table) (k : ℕ) (m : Mnemonic) → get_or (rows t) k None ≡ Some m → Alone t m k
alone t k m e = λ j f. sym (row_right t j m f).0 ∙ (row_right t k m e).0

module _ (P : Option Instruction → Type 0) where
  -- what holds of no instruction, and of each that the word may mean, holds of what it means
  pub record Origins (t : Table) (v : ℕ) : Type 0 where
    pub illegal : P None
    pub calculates : (m : Mnemonic) → opcode_of v ≡ 0b101010 → get_or (rows t) (function_of v) None ≡ Some m → (kind_of m).class ≡ Calculate
        → legal t (kind_of m) v ≡ true → P (Some (read m v))
    pub transfers : (m : Mnemonic) (o : ℕ) → opcode_of v ≡ o → ((k : ℕ) → lead (kind_of m).class k ≡ o * 2 ^ 26) → ra_of v ≡ 0 → P (Some (moved m v))
    pub rests : v ≡ 0xF0000000 → P (Some nop)

  pub decodes : (t : Table) (v : ℕ) → Origins t v → P (decoded t v)
  decodes t v h =
      cond_both _ _ _ P (λ op. row (get_or (rows t) (function_of v) None) refl (eqb-true _ _ op)) (λ _.
      cond_both _ _ _ P (transfer Vld 0b100000 (λ k. refl)) (λ _.
      cond_both _ _ _ P (transfer Vsd 0b100001 (λ k. refl)) (λ _.
      cond_both _ _ _ P (transfer Vbez 0b100010 (λ k. refl)) (λ _.
      cond_both _ _ _ P (transfer Vbnez 0b100011 (λ k. refl)) (λ _.
      cond_both _ _ _ P (λ is. h.rests (eqb-true v 0xF0000000 is)) (λ _. h.illegal))))))
    where
      row : (o : Option Mnemonic) → get_or (rows t) (function_of v) None ≡ o → opcode_of v ≡ 0b101010 → P (calculation t o v)
      row None e op = h.illegal
      row (Some m) e op = cond_both _ _ _ P (h.calculates m op e (row_right t (function_of v) m e).1) (λ _. h.illegal)

      transfer : (m : Mnemonic) (o : ℕ) → ((k : ℕ) → lead (kind_of m).class k ≡ o * 2 ^ 26) → eqb (opcode_of v) o ≡ true → P (cond (eqb (ra_of v) 0) (Some (moved m v)) None)
      transfer m o leads op = cond_both _ _ _ P (λ zero. h.transfers m o (eqb-true _ o op) leads (eqb-true _ 0 zero)) (λ _. h.illegal)
