-- A 64-bit word cut into fields of one width. Field 0 is the most significant.
use Rattle.std.specs.Prelude.{◌≡◌, ℕ, zero, suc, ◌+◌, ◌-◌, ◌*◌, ◌/◌, ◌%◌, ◌^◌, ◌<◌, Bool, cond, ◌⊎◌, ◌==◌, ◌≢◌}
use Rattle.base.specs.declared.width.Width.{Width}
use Rattle.base.specs.declared.width.Width.TheVariants.{W8, W16, W32, W64}

abbrev pub bits : Width → ℕ
bits W8 = 8
bits W16 = 16
bits W32 = 32
bits W64 = 64

-- w is one of the widths
abbrev pub IsWidth : ℕ → Type 0
IsWidth w = (w ≡ 8) ⊎ (w ≡ 16) ⊎ (w ≡ 32) ⊎ (w ≡ 64)

-- field i of x, at the width w
abbrev pub field : ℕ → ℕ → ℕ → ℕ
field w i x = x / 2 ^ (64 - w * suc i) % 2 ^ w

-- n fields of width w joined, field i being f i
unfoldable pub gathered : ℕ → ℕ → (ℕ → ℕ) → ℕ
gathered w zero f = 0
gathered w (suc n) f = gathered w n f * 2 ^ w + f n % 2 ^ w

-- the word whose field i is f i
unfoldable pub word : ℕ → (ℕ → ℕ) → ℕ
word w f = gathered w (64 / w) f

-- x with v in its field i
abbrev pub put : ℕ → ℕ → ℕ → ℕ → ℕ
put w i v x = word w (λ j. cond (j == i) v (field w j x))

-- y is x with v in its field i, and nothing else changed
pub record Replaced (w i v x y : ℕ) : Type 0 where
  pub here : field w i y ≡ v
  pub elsewhere : (j : ℕ) → j < 64 / w → (j ≢ i) → field w j y ≡ field w j x

-- the mask names byte i, byte 0 by its most significant bit
abbrev pub named : ℕ → ℕ → Bool
named mask i = mask / 2 ^ (7 - i) % 2 == 1

-- x in the bytes that the mask names, old in the others
abbrev pub masked : ℕ → ℕ → ℕ → ℕ
masked mask x old = word 8 (λ i. cond (named mask i) (field 8 i x) (field 8 i old))
