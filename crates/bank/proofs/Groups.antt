-- Bytes in groups of eight, most significant first.
use Rattle.std.proofs.Common.{◌≡◌, ℕ, zero, suc, ◌+◌, ◌*◌, ◌/◌, ◌^◌, ◌<◌, ◌≤◌, min, ◌≢◌, ◌⊎◌, List, [], ◌++◌, map, length, get_or, take, drop, set, Ok, Err, sym, refl, ap, ◌∙◌, inl, inr, ⊎_elim, div-one, arith, length-drop, length-take, length-take-le, drop_at, rules}
use borrow.Rule.Slice.PartMut.{put_mid}
use Rattle.std.proofs.lemmas.List.FromFn.{length-map-range_with_len, fill_by_all}
use Rattle.std.proofs.lemmas.List.{length-map, get_or-map, get_or-take, drop-take, drop-drop, places}
use Rattle.std.proofs.lemmas.Slice.{take-put_mid_below, take-put_mid, drop-put_mid, overwrites}
use Rattle.std.proofs.lemmas.Bool.{cases_lt, cond_above}
use Rattle.std.proofs.lemmas.Grind.{common_steps}
use Rattle.std.specs.List.{range_with_len}
use Rattle.std.specs.Int.Digits.{number_from_digits}
use Rattle.std.specs.Int.{w64, from_be_bytes, to_be_bytes}
use Rattle.std.specs.Simd.{first_chunks}
use Rattle.base.specs.declared.fault.Fault.{Fault}
use Rattle.bank.specs.Bytes.{word_at, bytes_of, put_word, word_count, words_of, rest_of, bytes_after}
use Rattle.bank.specs.Store.{read_at, all_open}
use Rattle.bank.proofs.AllOpen.{read_within, read_out}
use Rattle.bank.proofs.Tabulated.{tabulated_set}

pub length-words_of : (bs : List ℕ) → length (words_of bs) ≡ word_count bs
length-words_of bs = length-map-range_with_len (word_at 8 bs) 0 (word_count bs)

module _ (bs : List ℕ) (a : ℕ) where
  -- a word that is there has its eight bytes
  pub word_within : (w : ℕ) → Ok w ≡ read_at (all_open (words_of bs)) a → 8 * a + 8 ≤ length bs
  word_within w e = omega (arith, length-words_of bs, read_within (words_of bs) a w e)

  -- where there is none a write leaves the bytes
  pub bytes_kept : (v : ℕ) (e : Fault) → Err e ≡ read_at (all_open (words_of bs)) a → bs ≡ bytes_after bs a v
  bytes_kept v e r = cond_above a (word_count bs) (put_word 8 bs a v) bs bs (omega (arith, length-words_of bs, read_out (words_of bs) a e r)) refl

-- bytes cut into words
pub length-first_chunks : (n : ℕ) (bs : List ℕ) → length (first_chunks 8 n bs) ≡ n
length-first_chunks zero bs = refl
length-first_chunks (suc n) bs = ap suc (length-first_chunks n (drop 8 bs))

pub get_or-first_chunks : (n a : ℕ) (bs d : List ℕ) → a < n → get_or (first_chunks 8 n bs) a d ≡ take 8 (drop (8 * a) bs)
get_or-first_chunks zero a bs d h = absurd (omega arith)
get_or-first_chunks (suc n) zero bs d h = refl
get_or-first_chunks (suc n) (suc a) bs d h =
    let e : 8 + 8 * a ≡ 8 * suc a = omega arith in
    get_or-first_chunks n a (drop 8 bs) d (omega arith) ∙ ap (take 8) (drop-drop (8 * a) 8 bs ∙ ap (λ i. drop i bs) e)

-- eight bytes as `from_be_bytes` reads them
pub from_be_bytes_lem : (xs : List ℕ) → length xs ≡ 8 → from_be_bytes w64 xs ≡ number_from_digits 256 xs
from_be_bytes_lem xs e = let f = ap (number_from_digits 256) (fill_by_all (λ k. get_or xs k 0) xs 8 0 e (λ k h. refl)) in omega arith

pub words_read : (bs : List ℕ) → map (from_be_bytes w64) (take 65536 (first_chunks 8 (length bs / 8) bs)) ≡ words_of bs
words_read bs =
    let chunks = first_chunks 8 (length bs / 8) bs in
    let n = length-first_chunks (length bs / 8) bs in
    let l = length-take 65536 chunks in
    fill_by_all (word_at 8 bs) (map (from_be_bytes w64) (take 65536 chunks)) (word_count bs) 0 (length-map (take 65536 chunks) (from_be_bytes w64) ∙ omega arith)
    (λ k h. get_or-map (from_be_bytes w64) (take 65536 chunks) k [] 0 (omega arith)
    ∙ ap (from_be_bytes w64) (get_or-take 65536 chunks k [] (omega arith) ∙ get_or-first_chunks (length bs / 8) k bs [] (omega arith))
    ∙ from_be_bytes_lem (take 8 (drop (8 * k) bs)) (simp (length-take, length-drop) (omega arith)))

-- and as `to_be_bytes` writes them
pub to_be_bytes_lem : (v : ℕ) → to_be_bytes w64 v ≡ bytes_of 8 v
to_be_bytes_lem v = rw div-one

pub number_bytes : (v : ℕ) → v < 2 ^ 64 → number_from_digits 256 (bytes_of 8 v) ≡ v
number_bytes v h = omega arith

-- a part of w bytes from i on is written
module _ (i w : ℕ) (bs ys : List ℕ) (fits : i + w ≤ length bs) (all : length ys ≡ w) where
  length-put_mid : length (put_mid i w bs ys) ≡ length bs
  length-put_mid = grind (arith, overwrites)

  outside-put_mid : (k : ℕ) → (k < i) ⊎ (i + w ≤ k) → get_or (put_mid i w bs ys) k 0 ≡ get_or bs k 0
  outside-put_mid k (inl h) = search (rules, places)
  outside-put_mid k (inr h) = grind (arith, overwrites, common_steps)

-- the bytes bs once eight others are written at the word a
module _ (bs : List ℕ) (a : ℕ) (ys : List ℕ) (fits : 8 * a + 8 ≤ length bs) (eight : length ys ≡ 8) where
  length_written : length (put_mid (8 * a) 8 bs ys) ≡ length bs
  length_written = length-put_mid (8 * a) 8 bs ys fits eight

  pub outside_written : (k : ℕ) → (k < 8 * a) ⊎ (8 * a + 8 ≤ k) → get_or (put_mid (8 * a) 8 bs ys) k 0 ≡ get_or bs k 0
  outside_written = outside-put_mid (8 * a) 8 bs ys fits eight

  word_other : (k : ℕ) → k ≢ a → word_at 8 (put_mid (8 * a) 8 bs ys) k ≡ word_at 8 bs k
  word_other k ne = ap (number_from_digits 256) (⊎_elim
      (λ (h : k < a). sym (drop-take (8 * k) 8 (put_mid (8 * a) 8 bs ys)) ∙ ap (drop (8 * k)) (take-put_mid_below (8 * a) 8 bs ys (8 * k + 8) (omega arith) (omega arith)) ∙ drop-take (8 * k) 8 bs)
      (λ (h : a ≤ k). ap (take 8) (drop-put_mid (8 * a) 8 bs ys (8 * k) (omega arith) (omega arith) eight))
      (cases_lt k a))

  word_same : word_at 8 (put_mid (8 * a) 8 bs ys) a ≡ number_from_digits 256 ys
  word_same = ap (number_from_digits 256)
      (sym (drop-take (8 * a) 8 (put_mid (8 * a) 8 bs ys)) ∙ ap (drop (8 * a)) (take-put_mid (8 * a) 8 bs ys (8 * a + 8) (omega arith) (omega arith))
      ∙ drop_at (take (8 * a) bs) ys (8 * a) (length-take-le (8 * a) bs (omega arith)))

  count_written : word_count (put_mid (8 * a) 8 bs ys) ≡ word_count bs
  count_written = ap (λ m. min 65536 (m / 8)) length_written

  pub words_written : words_of (put_mid (8 * a) 8 bs ys) ≡ set (words_of bs) a (number_from_digits 256 ys)
  words_written =
      let after = word_at 8 (put_mid (8 * a) 8 bs ys) in
      ap (λ n. map after (range_with_len 0 n)) count_written
      ∙ sym (tabulated_set (word_at 8 bs) after (word_count bs) a (number_from_digits 256 ys) word_same (λ k _ ne. sym (word_other k ne)))

  pub rest_written : a < word_count bs → rest_of (put_mid (8 * a) 8 bs ys) ≡ rest_of bs
  rest_written h =
      ap (λ n. drop (8 * n) (put_mid (8 * a) 8 bs ys)) count_written
      ∙ drop-put_mid (8 * a) 8 bs ys (8 * word_count bs) (omega arith) (omega arith) eight

-- a part that is written, as the definition has it
pub put_mid-put_word : (bs : List ℕ) (a v : ℕ) → put_mid (8 * a) 8 bs (bytes_of 8 v) ≡ put_word 8 bs a v
put_mid-put_word bs a v = ap (λ xs. take (8 * a) bs ++ (bytes_of 8 v ++ xs)) (drop-drop 8 (8 * a) bs)
