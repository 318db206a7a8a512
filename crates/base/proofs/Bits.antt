-- Masks and shifts on words, by their fields.
use Rattle.std.proofs.Common.{◌≡◌, ℕ, suc, ◌+◌, ◌-◌, ◌*◌, ◌/◌, ◌%◌, ◌^◌, ◌<◌, ◌≤◌, Bool, true, false, cond, eqb, sym, refl, ap, ◌∙◌, subst, ap₂, inl, inr, lt_of_lt_of_le, lt_of_le_of_lt, mod-lt, mul_assoc, add-one, arith, pow_pos, pow_mono, pow-add}
use native.Mathlib.Nat.{mod-mod, sub_self, sub-zero}
use lib.Bits.{bit_and, bit_or, and_mask, and_zero_r, or_zero_l, or_zero_r, or_lt, and_le_l}
use lib.Pow.{ones_lt}
use Rattle.std.proofs.lemmas.Nat.{shl_whole, shl_below}
use Rattle.std.proofs.lemmas.Bool.{agree_below_at, cases_eq, eqb-true}
use Rattle.base.specs.declared.width.Width.{Width}
use Rattle.base.specs.Words.{bits, Replaced, IsWidth, field, gathered, word, put, named, masked}
use Rattle.base.proofs.Widths.{is_width}
use Rattle.base.proofs.Digits.{gathered_lt}
use Rattle.base.proofs.Fields.{byte, field_and, field_or, field_not, field_low64, field_shl, field_shl_other, field-word, same_fields, word_from_fields, word_lt, put_same, put_other}

-- x holds the first n fields of f
pub record Joined (w : ℕ) (f : ℕ → ℕ) (n x : ℕ) : Type 0 where
  pub is : x ≡ gathered w n f

pub joined_none : {w : ℕ} {f : ℕ → ℕ} → Joined w f 0 0
unfolding gathered
joined_none = record { is = refl }

module _ {w : ℕ} (W : IsWidth w) where
  -- x with its field i cleared, and v moved to the field's place
  pub put_bits : (i v x : ℕ) → i < 64 / w → v < 2 ^ w → x < 2 ^ 64
      → bit_or (bit_and x (2 ^ 64 - 1 - (2 ^ w - 1) * 2 ^ (64 - w * suc i) % 2 ^ 64)) (v * 2 ^ (64 - w * suc i) % 2 ^ 64) ≡ put w i v x
  put_bits i v x h lt xlt =
      let s : ℕ = 64 - w * suc i in
      let m : ℕ = (2 ^ w - 1) * 2 ^ s % 2 ^ 64 in
      let u : ℕ = v * 2 ^ s % 2 ^ 64 in
      let kept : ℕ = bit_and x (2 ^ 64 - 1 - m) in
      let mlt : m < 2 ^ 64 = mod-lt ((2 ^ w - 1) * 2 ^ s) (pow_pos 64) in
      let olt : 2 ^ w - 1 < 2 ^ w = ones_lt w in
      same_fields W (bit_or kept u) (put w i v x)
      (or_lt 64 kept u (lt_of_le_of_lt (and_le_l x (2 ^ 64 - 1 - m)) xlt) (mod-lt (v * 2 ^ s) (pow_pos 64)))
      (word_lt W (λ j. cond (eqb j i) v (field w j x)))
      (λ k g. elim (cases_eq k i) [
        | inl e ↦ rw e (simp (field_or, field_and, field_not W, field_low64 W, field_shl W, put_same W, sub_self, and_zero_r, or_zero_l))
        | inr ne ↦ simp (field_or, field_and, field_not W, field_low64 W, field_shl_other W, put_other W i k v x g (λ q. ne (sym q)), sub-zero, and_mask, or_zero_r, mod-mod)
      ])

-- one field more, shifted in from below; w is the width's number, and n how many fields a word has
module _ (width : Width) {w n : ℕ} (at : w ≡ bits width) (all : n ≡ 64 / bits width) where
  cuts : IsWidth w
  cuts = rw at (is_width width)

  inside : {i : ℕ} → i < n → i < 64 / w
  inside {i} h = rw at (omega arith)

  room : {i : ℕ} → i < 64 / w → w * i + (w - 1) + 1 ≤ 64
  room h = let W = cuts in grind arith

  doubled : (x : ℕ) → x * 2 ^ (w - 1) * 2 ≡ x * 2 ^ w
  doubled x =
      let W = cuts in
      let up : w - 1 + 1 ≡ w = grind arith in
      mul_assoc x (2 ^ (w - 1)) 2 ∙ ap (λ n. x * n) (sym (pow-add 2 (w - 1) 1)) ∙ ap (λ n. x * 2 ^ n) up

  pub joined_more : {f : ℕ → ℕ} {i x v m : ℕ} → Joined w f i x → i < n → v ≡ f i → m ≡ 2 ^ bits width - 1
      → Joined w f (i + 1) (x * 2 ^ (w - 1) % 2 ^ 64 * 2 % 2 ^ 64 + bit_and v m)
  unfolding gathered
  joined_more {f} {i} {x} {v} {m} so test is ones =
      let more : w * i + (w - 1) + 1 ≤ 64 = room (inside test) in
      let below : x < 2 ^ (w * i) = subst (λ y. y < 2 ^ (w * i)) (sym so.is) (gathered_lt w i f) in
      let once : x * 2 ^ (w - 1) % 2 ^ 64 ≡ x * 2 ^ (w - 1) = shl_whole x (w * i) (w - 1) 64 below (omega arith) in
      let twice : x * 2 ^ (w - 1) * 2 % 2 ^ 64 ≡ x * 2 ^ (w - 1) * 2 =
      shl_whole (x * 2 ^ (w - 1)) (w * i + (w - 1)) 1 64 (shl_below x (w * i) (w - 1) below) more in
      let mask : m ≡ 2 ^ w - 1 = ones ∙ ap (λ k. 2 ^ k - 1) (sym at) in
      record { is = rw (add-one, mask) (ap₂ (λ n m. n + m) (ap (λ n. n * 2 % 2 ^ 64) once ∙ twice ∙ doubled x ∙ ap (λ n. n * 2 ^ w) so.is) (and_mask v w ∙ ap (λ n. n % 2 ^ w) is)) }

  pub joined_fits : {f : ℕ → ℕ} {i x : ℕ} → Joined w f (i + 1) x → i < n → x < 2 ^ 64
  joined_fits {f} {i} so test =
      let W = cuts in
      let h : i < 64 / w = inside test in
      let small : w * (i + 1) ≤ 64 = grind arith in
      rw so.is (lt_of_lt_of_le (gathered_lt w (i + 1) f) (pow_mono small))

  pub joined_all : {f : ℕ → ℕ} {i x : ℕ} → Joined w f i x → i ≤ n → n ≤ i → x ≡ word w f
  unfolding word
  joined_all {f} {i} so low high = let end : i ≡ 64 / w = rw at (omega arith) in so.is ∙ ap (λ k. gathered w k f) end

-- ---- a mask by bytes

-- the bytes of a word that the mask m names, all ones
abbrev pub bytes : ℕ → ℕ
bytes m = bit_and (bit_and (m * 0x0101_0101_0101_0101) 0x8040_2010_0804_0201 + 0x7f7f_7f7f_7f7f_7f7f) 0x8080_8080_8080_8080 / 128 * 255

abbrev pub named_bytes : ℕ → ℕ
named_bytes m = word 8 (λ i. cond (named m i) 255 0)

pub bytes_are : (m : ℕ) → m < 256 → bytes m ≡ named_bytes m
unfolding word gathered
bytes_are m h = eqb-true _ _ (agree_below_at (λ m. eqb (bytes m) (named_bytes m)) (λ m. true) 256 m refl h)

choose : (b : Bool) (p q : ℕ) → bit_or (bit_and p (cond b 255 0 % 256)) (bit_and q (255 - cond b 255 0 % 256)) ≡ cond b p q % 256
choose true p q = simp (and_zero_r, or_zero_r, and_mask p 8)
choose false p q = simp (and_zero_r, or_zero_l, and_mask q 8)

pub merge_bits : (m x old b : ℕ) → x < 2 ^ 64 → old < 2 ^ 64 → b < 2 ^ 64 → b ≡ named_bytes m → bit_or (bit_and x b) (bit_and old (2 ^ 64 - 1 - b)) ≡ masked m x old
merge_bits m x old b hx ho hb e =
    let rest : ℕ = 2 ^ 64 - 1 - b in
    word_from_fields byte (λ i. cond (named m i) (field 8 i x) (field 8 i old)) (bit_or (bit_and x b) (bit_and old rest))
    (or_lt 64 (bit_and x b) (bit_and old rest) (lt_of_le_of_lt (and_le_l x b) hx) (lt_of_le_of_lt (and_le_l old rest) ho))
    (λ i h.
    let at : field 8 i b ≡ cond (named m i) 255 0 % 256 = ap (field 8 i) e ∙ field-word byte (λ k. cond (named m k) 255 0) i h in
    simp (field_or, field_and, field_not byte, at, choose))

cut_cond : (b : Bool) (p q : ℕ) → cond b (p % 256) (q % 256) % 256 ≡ cond b (p % 256) (q % 256)
cut_cond true p q = mod-mod p 256
cut_cond false p q = mod-mod q 256

-- the bytes of a merge
pub masked_byte : {r : ℕ} (m x old : ℕ) → r ≡ masked m x old → (i : ℕ) → i < 8 → field 8 i r ≡ cond (named m i) (field 8 i x) (field 8 i old)
masked_byte m x old is i h =
    ap (field 8 i) is ∙ field-word byte (λ k. cond (named m k) (field 8 k x) (field 8 k old)) i h
    ∙ cut_cond (named m i) (x / 2 ^ (64 - 8 * suc i)) (old / 2 ^ (64 - 8 * suc i))

-- the fields of a word with one replaced
pub put_replaces : (w : Width) (i v x y : ℕ) → i < 64 / bits w → v < 2 ^ bits w → y ≡ put (bits w) i v x → Replaced (bits w) i v x y
put_replaces w i v x y h lt is = record {
  here = ap (field (bits w) i) is ∙ put_same (is_width w) i v x h lt;
  elsewhere = λ j g ne. ap (field (bits w) j) is ∙ put_other (is_width w) i j v x g (λ e. ne (sym e));
}

pub field-from_word : (w : Width) (f : ℕ → ℕ) {r : ℕ} → r ≡ word (bits w) f → (i : ℕ) → i < 64 / bits w → field (bits w) i r ≡ f i % 2 ^ bits w
field-from_word w f is i h = ap (field (bits w) i) is ∙ field-word (is_width w) f i h
