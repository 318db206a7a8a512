-- What a signed shift to the right makes of a block of one of the widths. Assumes nothing.
use Rattle.std.proofs.Common.{◌≡◌, ℕ, ◌+◌, ◌-◌, ◌/◌, ◌%◌, ◌^◌, ◌<◌, ◌≤◌, true, eqb, sym, ap, ◌∙◌, le_of_lt, arith, pow_pos}
use lib.Bits.{bit_or}
use lib.Pow.{ones_split, ones_lt, high}
use Rattle.std.proofs.lemmas.Bool.{eq-eqb}
use Rattle.base.specs.declared.width.Width.{Width}
use Rattle.base.specs.Words.{bits}
use Rattle.alu.specs.Blocks.{distance, tops, shifted_signed}

-- the bits that all ones lose by a shift to the right
lost : (r s : ℕ) → s ≤ r → (2 ^ r - 1) - (2 ^ r - 1) / 2 ^ s ≡ tops r s
lost r s h =
    let d : ℕ = r - s in
    let at : r ≡ d + s = omega arith in
    let rest : (2 ^ r - 1) / 2 ^ s ≡ 2 ^ d - 1 =
    ap (λ n. (2 ^ n - 1) / 2 ^ s) at ∙ ap (λ n. n / 2 ^ s) (ones_split d s) ∙ high (2 ^ d - 1) s (ones_lt s) in
    rw rest (omega (arith, pow_pos d))

-- a shift to the right of a block whose top bit is set
pub signed_set : (w : Width) (p q : ℕ) {n by m : ℕ} → n ≡ bits w → by ≡ distance (bits w) q → by < bits w → m ≡ 2 ^ bits w - 1 → p / 2 ^ (n - 1) % 2 ≡ 1
    → bit_or (p / 2 ^ by) (m - m / 2 ^ by) ≡ shifted_signed (bits w) p q
signed_set w p q {n} {by} {m} at far inside all top =
    let set : eqb (p / 2 ^ (bits w - 1) % 2) 1 ≡ true = eq-eqb (p / 2 ^ (bits w - 1) % 2) 1 (sym (ap (λ k. p / 2 ^ (k - 1) % 2) at) ∙ top) in
    rw (all, lost (bits w) by (le_of_lt inside), set, far)
