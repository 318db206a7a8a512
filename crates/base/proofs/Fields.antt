-- The fields of a word: how they are read, written and joined.
use Rattle.std.proofs.Common.{◌≡◌, ℕ, suc, ◌+◌, ◌-◌, ◌*◌, ◌/◌, ◌%◌, ◌^◌, ◌<◌, cond, eqb, sym, refl, ap, ◌∙◌, subst, inl, lt_of_le_of_lt, mod-lt, mod-eq_of_lt, arith, pow_pos}
use native.Mathlib.Nat.{mod-mod, zero-div, zero-mod}
use lib.Bits.{bit_and, bit_or, bit_xor, and_shr, and_mod, or_shr, or_mod, xor_shr, xor_mod, xor_add_and, and_mask, and_le_l, or_lt, xor_lt}
use lib.Pow.{ones_split, ones_lt, ones_sub-lt, high, low}
use Rattle.std.proofs.lemmas.Bool.{eq-eqb, ne_eqb}
use Rattle.base.specs.declared.width.Width.{Width}
use Rattle.base.specs.Words.{bits, IsWidth, field, word, put}
use Rattle.base.proofs.Widths.{is_width}
use Rattle.base.proofs.Digits.{digit, gathered-digit, gathered_lt, same_digits, cut, digit_shl, digit_shl_other}

pub byte : IsWidth 8
byte = inl refl

-- the fields fill the word
pub whole : {w : ℕ} → IsWidth w → w * (64 / w) ≡ 64
whole W = grind arith

-- and, or and exclusive or act field by field
pub field_and : (w i x y : ℕ) → field w i (bit_and x y) ≡ bit_and (field w i x) (field w i y)
field_and w i x y = simp (and_shr, and_mod)

pub field_or : (w i x y : ℕ) → field w i (bit_or x y) ≡ bit_or (field w i x) (field w i y)
field_or w i x y = simp (or_shr, or_mod)

pub field_xor : (w i x y : ℕ) → field w i (bit_xor x y) ≡ bit_xor (field w i x) (field w i y)
field_xor w i x y = simp (xor_shr, xor_mod)

not_xor : (n a : ℕ) → a < 2 ^ n → 2 ^ n - 1 - a ≡ bit_xor a (2 ^ n - 1)
not_xor n a h = omega (arith, xor_add_and a (2 ^ n - 1), and_mask a n, mod-eq_of_lt h)

module _ {w : ℕ} (W : IsWidth w) where
  -- the place of a field's lowest bit
  place : (i d : ℕ) → i + suc d ≡ 64 / w → 64 - w * suc i ≡ w * d
  place i d e = grind arith

  field-digit : (i d x : ℕ) → i + suc d ≡ 64 / w → field w i x ≡ digit w d x
  field-digit i d x e = ap (λ s. x / 2 ^ s % 2 ^ w) (place i d e)

  pub field-word : (f : ℕ → ℕ) (i : ℕ) → i < 64 / w → field w i (word w f) ≡ f i % 2 ^ w
  unfolding word
  field-word f i h =
      let d : ℕ = 64 / w - suc i in
      field-digit i d (word w f) (omega arith) ∙ gathered-digit w i f (64 / w) d (omega arith)

  pub word_lt : (f : ℕ → ℕ) → word w f < 2 ^ 64
  unfolding word
  word_lt f = subst (λ n. word w f < 2 ^ n) (whole W) (gathered_lt w (64 / w) f)

  -- a word is known by its fields
  pub same_fields : (x y : ℕ) → x < 2 ^ 64 → y < 2 ^ 64 → ((i : ℕ) → i < 64 / w → field w i x ≡ field w i y) → x ≡ y
  same_fields x y hx hy same =
      same_digits w (64 / w) x y (subst (λ n. x < 2 ^ n) (sym (whole W)) hx) (subst (λ n. y < 2 ^ n) (sym (whole W)) hy)
      (λ d l.
      let i : ℕ = 64 / w - suc d in
      sym (field-digit i d x (omega arith)) ∙ same i (omega arith) ∙ field-digit i d y (omega arith))

  pub word_from_fields : (f : ℕ → ℕ) (x : ℕ) → x < 2 ^ 64 → ((i : ℕ) → i < 64 / w → field w i x ≡ f i % 2 ^ w) → x ≡ word w f
  word_from_fields f x h same = same_fields x (word w f) h (word_lt f) (λ i l. same i l ∙ sym (field-word f i l))

  -- the bits below, in and above a field
  split_at : (k : ℕ) → k < 64 / w → 64 ≡ w * k + w + (64 - w * suc k)
  split_at k h = grind arith

  pub field_low64 : (k x : ℕ) → k < 64 / w → field w k (x % 2 ^ 64) ≡ field w k x
  field_low64 k x h =
      let s : ℕ = 64 - w * suc k in
      ap (λ n. x % 2 ^ n / 2 ^ s % 2 ^ w) (split_at k h) ∙ cut x (w * k) w s

  -- a field alone in its word
  pub field_shl : (i v : ℕ) → i < 64 / w → v < 2 ^ w → field w i (v * 2 ^ (64 - w * suc i)) ≡ v
  field_shl i v h lt =
      let d : ℕ = 64 / w - suc i in
      let e : i + suc d ≡ 64 / w = omega arith in
      field-digit i d (v * 2 ^ (64 - w * suc i)) e ∙ ap (λ s. digit w d (v * 2 ^ s)) (place i d e) ∙ digit_shl w d v lt

  pub field_shl_other : (k i v : ℕ) → k < 64 / w → i < 64 / w → (k ≡ i → ⊥) → v < 2 ^ w → field w k (v * 2 ^ (64 - w * suc i)) ≡ 0
  field_shl_other k i v h g ne lt =
      let d : ℕ = 64 / w - suc k in
      let e : ℕ = 64 / w - suc i in
      field-digit k d (v * 2 ^ (64 - w * suc i)) (omega arith) ∙ ap (λ s. digit w d (v * 2 ^ s)) (place i e (omega arith))
      ∙ digit_shl_other w d e v lt (λ q. ne (omega arith))

  field_ones : (k : ℕ) → k < 64 / w → field w k (2 ^ 64 - 1) ≡ 2 ^ w - 1
  field_ones k h =
      let s : ℕ = 64 - w * suc k in
      ap (λ n. (2 ^ n - 1) / 2 ^ s % 2 ^ w) (split_at k h)
      ∙ rw (ones_split (w * k + w) s, high (2 ^ (w * k + w) - 1) s (ones_lt s), ones_split (w * k) w, low (2 ^ (w * k) - 1) w (ones_lt w))

  pub field_not : (k a : ℕ) → k < 64 / w → a < 2 ^ 64 → field w k (2 ^ 64 - 1 - a) ≡ 2 ^ w - 1 - field w k a
  field_not k a h lt =
      ap (field w k) (not_xor 64 a lt) ∙ field_xor w k a (2 ^ 64 - 1) ∙ ap (bit_xor (field w k a)) (field_ones k h)
      ∙ sym (not_xor w (field w k a) (mod-lt (a / 2 ^ (64 - w * suc k)) (pow_pos w)))

  pub put_same : (k v x : ℕ) → k < 64 / w → v < 2 ^ w → field w k (put w k v x) ≡ v
  put_same k v x h lt = field-word (λ j. cond (eqb j k) v (field w j x)) k h ∙ simp (eq-eqb k k refl, mod-eq_of_lt)

  pub put_other : (j k v x : ℕ) → k < 64 / w → (j ≡ k → ⊥) → field w k (put w j v x) ≡ field w k x
  put_other j k v x h ne = field-word (λ i. cond (eqb i j) v (field w i x)) k h ∙ simp (ne_eqb k j (λ e. ne (sym e)), mod-mod)

-- what works on the whole word works so on its fields
module _ (w : Width) where
  made : (f : ℕ → ℕ) (x : ℕ) → x < 2 ^ 64 → ((i : ℕ) → i < 64 / bits w → field (bits w) i x ≡ f i) → x ≡ word (bits w) f
  made f x h same =
      word_from_fields (is_width w) f x h
      (λ i l. sym (mod-mod (x / 2 ^ (64 - bits w * suc i)) (2 ^ bits w)) ∙ ap (λ n. n % 2 ^ bits w) (same i l))

  pub whole_and : (a b : ℕ) → a < 2 ^ 64 → b < 2 ^ 64 → bit_and a b ≡ word (bits w) (λ i. bit_and (field (bits w) i a) (field (bits w) i b))
  whole_and a b ha hb =
      made (λ i. bit_and (field (bits w) i a) (field (bits w) i b)) (bit_and a b) (lt_of_le_of_lt (and_le_l a b) ha) (λ i l. field_and (bits w) i a b)

  pub whole_or : (a b : ℕ) → a < 2 ^ 64 → b < 2 ^ 64 → bit_or a b ≡ word (bits w) (λ i. bit_or (field (bits w) i a) (field (bits w) i b))
  whole_or a b ha hb =
      made (λ i. bit_or (field (bits w) i a) (field (bits w) i b)) (bit_or a b) (or_lt 64 a b ha hb) (λ i l. field_or (bits w) i a b)

  pub whole_xor : (a b : ℕ) → a < 2 ^ 64 → b < 2 ^ 64 → bit_xor a b ≡ word (bits w) (λ i. bit_xor (field (bits w) i a) (field (bits w) i b))
  whole_xor a b ha hb =
      made (λ i. bit_xor (field (bits w) i a) (field (bits w) i b)) (bit_xor a b) (xor_lt 64 a b ha hb) (λ i l. field_xor (bits w) i a b)

  pub whole_not : (a : ℕ) → a < 2 ^ 64 → 2 ^ 64 - 1 - a ≡ word (bits w) (λ i. 2 ^ bits w - 1 - field (bits w) i a)
  whole_not a h =
      made (λ i. 2 ^ bits w - 1 - field (bits w) i a) (2 ^ 64 - 1 - a) (ones_sub-lt 64 a) (λ i l. field_not (is_width w) i a l h)

  pub whole_same : (a : ℕ) → a < 2 ^ 64 → a ≡ word (bits w) (λ i. field (bits w) i a)
  whole_same a h = made (λ i. field (bits w) i a) a h (λ i l. refl)

  pub whole_zero : 0 ≡ word (bits w) (λ i. 0)
  whole_zero = made (λ i. 0) 0 (pow_pos 64) (λ i l. simp (zero-div, zero-mod))
