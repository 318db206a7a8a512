-- Each width is one of the four numbers. Assumes nothing.
use Rattle.std.proofs.Common.{refl, inl, inr}
use Rattle.base.specs.declared.width.Width.{Width}
use Rattle.base.specs.declared.width.Width.TheVariants.{W8, W16, W32, W64}
use Rattle.base.specs.Words.{bits, IsWidth}

pub is_width : (w : Width) → IsWidth (bits w)
is_width W8 = inl refl
is_width W16 = inr (inl refl)
is_width W32 = inr (inr (inl refl))
is_width W64 = inr (inr (inr refl))
