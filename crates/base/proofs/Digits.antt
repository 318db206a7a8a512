-- The digits of a number in the base 2 ^ w, digit 0 the least significant.
use Rattle.std.proofs.Common.{◌≡◌, ℕ, zero, suc, ◌+◌, ◌*◌, ◌/◌, ◌%◌, ◌^◌, ◌<◌, sym, refl, ap, ◌∙◌, mod-lt, mod-eq_of_lt, mul_assoc, add_comm, mul-zero, mul-one, mul-suc, div-one, arith, pow_pos, pow-add, shr-shr, shr_lt}
use native.Mathlib.Nat.{pow-zero, mul-mod_left, div-eq_of_lt, zero-div, zero-mod}
use lib.Arith.{digits_lt}
use lib.Pow as pow
use lib.Pow.{shl-shr, split, high, low, mod-mod-pow}
use Rattle.base.specs.Words.{gathered}

abbrev pub digit : ℕ → ℕ → ℕ → ℕ
digit w d x = x / 2 ^ (w * d) % 2 ^ w

digit-zero : (w x : ℕ) → digit w 0 x ≡ x % 2 ^ w
digit-zero w x = simp (mul-zero, pow-zero, div-one)

digit-suc : (w d x : ℕ) → digit w (suc d) x ≡ digit w d (x / 2 ^ w)
digit-suc w d x = simp (shr-shr, mul-suc, add_comm (w * d) w)

-- a number of n digits is known by them
pub same_digits : (w n x y : ℕ) → x < 2 ^ (w * n) → y < 2 ^ (w * n) → ((d : ℕ) → d < n → digit w d x ≡ digit w d y) → x ≡ y
same_digits w zero x y hx hy same = omega (arith, simp (mul-zero, pow-zero) at hx, simp (mul-zero, pow-zero) at hy)
same_digits w (suc n) x y hx hy same =
    let tops : x / 2 ^ w ≡ y / 2 ^ w =
    same_digits w n (x / 2 ^ w) (y / 2 ^ w) (shr_lt (w * n) w (rw mul-suc at hx)) (shr_lt (w * n) w (rw mul-suc at hy))
    (λ d h. sym (digit-suc w d x) ∙ same (suc d) (omega arith) ∙ digit-suc w d y) in
    let lows : x % 2 ^ w ≡ y % 2 ^ w = sym (digit-zero w x) ∙ same 0 (omega arith) ∙ digit-zero w y in
    cc (split x w, split y w)

-- the b bits above the s lowest are left by a cut above them
pub cut : (x a b s : ℕ) → x % 2 ^ (a + b + s) / 2 ^ s % 2 ^ b ≡ x / 2 ^ s % 2 ^ b
cut x a b s = ap (λ y. y % 2 ^ b) (pow.field x (a + b) s) ∙ mod-mod-pow (x / 2 ^ s) a b

pub gathered-digit : (w i : ℕ) (f : ℕ → ℕ) (n d : ℕ) → n ≡ suc (i + d) → digit w d (gathered w n f) ≡ f i % 2 ^ w
unfolding gathered
gathered-digit w i f zero d e = absurd (omega arith)
gathered-digit w i f (suc n) zero e =
    let at : n ≡ i = omega arith in
    digit-zero w (gathered w (suc n) f) ∙ low (gathered w n f) w (mod-lt (f n) (pow_pos w)) ∙ ap (λ k. f k % 2 ^ w) at
gathered-digit w i f (suc n) (suc d) e =
    digit-suc w d (gathered w (suc n) f) ∙ ap (digit w d) (high (gathered w n f) w (mod-lt (f n) (pow_pos w)))
    ∙ gathered-digit w i f n d (omega arith)

pub gathered_lt : (w n : ℕ) (f : ℕ → ℕ) → gathered w n f < 2 ^ (w * n)
unfolding gathered
gathered_lt w zero f = pow_pos (w * 0)
gathered_lt w (suc n) f = simp (mul-suc, pow-add) (digits_lt (gathered_lt w n f) (mod-lt (f n) (pow_pos w)))

-- one digit alone
pub digit_shl : (w d v : ℕ) → v < 2 ^ w → digit w d (v * 2 ^ (w * d)) ≡ v
digit_shl w d v h = ap (λ y. y % 2 ^ w) (shl-shr v (w * d)) ∙ mod-eq_of_lt h

pub digit_shl_other : (w d e v : ℕ) → v < 2 ^ w → (d ≡ e → ⊥) → digit w d (v * 2 ^ (w * e)) ≡ 0
digit_shl_other w zero zero v h ne = absurd (ne refl)
digit_shl_other w zero (suc e) v h ne = digit-zero w _ ∙ simp (mul-suc, pow-add, ← mul_assoc, mul-mod_left)
digit_shl_other w (suc d) zero v h ne = digit-suc w d _ ∙ simp (mul-zero, pow-zero, mul-one, div-eq_of_lt h, zero-div, zero-mod)
digit_shl_other w (suc d) (suc e) v h ne =
    digit-suc w d _ ∙ simp (mul-suc, pow-add, ← mul_assoc, shl-shr) (digit_shl_other w d e v h (λ q. ne (ap suc q)))
