-- What a function makes of one block of r bits, p of the first contents and q of the second.
use Rattle.std.specs.Prelude.{ℕ, ◌+◌, ◌-◌, ◌*◌, ◌/◌, ◌%◌, ◌^◌, cond, ◌==◌, bit_or}
use Rattle.alu.specs.declared.block.Half.{Half}
use Rattle.alu.specs.declared.block.Half.TheVariants.{Even, Odd}

abbrev pub sum : ℕ → ℕ → ℕ → ℕ
sum r p q = (p + q) % 2 ^ r

abbrev pub difference : ℕ → ℕ → ℕ → ℕ
difference r p q = (p + (2 ^ r - q % 2 ^ r)) % 2 ^ r

-- a block as a pair of subfields: the even one is the upper half
abbrev pub even : ℕ → ℕ → ℕ
even r p = p / 2 ^ (r / 2) % 2 ^ (r / 2)

abbrev pub odd : ℕ → ℕ → ℕ
odd r p = p % 2 ^ (r / 2)

abbrev pub half_of : Half → ℕ → ℕ → ℕ
half_of Even = even
half_of Odd = odd

-- of the even or of the odd subfields
abbrev pub product : Half → ℕ → ℕ → ℕ → ℕ
product h r p q = half_of h r p * half_of h r q

abbrev pub swapped : ℕ → ℕ → ℕ
swapped r p = odd r p * 2 ^ (r / 2) + even r p

-- the low 3, 4, 5 or 6 bits of q
abbrev pub distance : ℕ → ℕ → ℕ
distance r q = q % r

abbrev pub shifted_left : ℕ → ℕ → ℕ → ℕ
shifted_left r p q = p * 2 ^ distance r q % 2 ^ r

abbrev pub shifted_right : ℕ → ℕ → ℕ → ℕ
shifted_right r p q = p / 2 ^ distance r q

-- the s upper bits of a block
abbrev pub tops : ℕ → ℕ → ℕ
tops r s = 2 ^ r - 2 ^ (r - s)

-- the bits that come in are copies of the top bit
abbrev pub shifted_signed : ℕ → ℕ → ℕ → ℕ
shifted_signed r p q = cond (p / 2 ^ (r - 1) % 2 == 1) (bit_or (shifted_right r p q) (tops r (distance r q))) (shifted_right r p q)

-- a zero divisor gives 0 in both
abbrev pub quotient : ℕ → ℕ → ℕ
quotient p q = cond (q == 0) 0 (p / q)

abbrev pub remainder : ℕ → ℕ → ℕ
remainder p q = cond (q == 0) 0 (p % q)
