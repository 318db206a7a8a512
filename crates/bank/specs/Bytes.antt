-- Bytes as words, the most significant byte of a word first.
use Rattle.std.specs.Prelude.{ℕ, suc, ◌+◌, ◌-◌, ◌*◌, ◌/◌, ◌%◌, ◌^◌, min, cond, List, ◌++◌, map, length, take, drop, nat_lt}
use Rattle.std.specs.List.{range_with_len}
use Rattle.std.specs.Int.Digits.{number_from_digits}

-- the word at a, of n bytes
abbrev pub word_at : ℕ → List ℕ → ℕ → ℕ
word_at n bs a = number_from_digits 256 (take n (drop (n * a) bs))

-- the n bytes of v
abbrev pub bytes_of : ℕ → ℕ → List ℕ
bytes_of n v = map (λ i. v / 256 ^ (n - suc i) % 256) (range_with_len 0 n)

-- bs with the n bytes of v in the place of the word at a
abbrev pub put_word : ℕ → List ℕ → ℕ → ℕ → List ℕ
put_word n bs a v = take (n * a) bs ++ (bytes_of n v ++ drop (n * a + n) bs)

-- how many words a bank over bs has: the whole groups of eight, at most 65,536
abbrev pub word_count : List ℕ → ℕ
word_count bs = min 65536 (length bs / 8)

abbrev pub words_of : List ℕ → List ℕ
words_of bs = map (word_at 8 bs) (range_with_len 0 (word_count bs))

-- what lies past the last word
abbrev pub rest_of : List ℕ → List ℕ
rest_of bs = drop (8 * word_count bs) bs

-- the bytes that a write of v at a leaves
abbrev pub bytes_after : List ℕ → ℕ → ℕ → List ℕ
bytes_after bs a v = cond (nat_lt a (word_count bs)) (put_word 8 bs a v) bs
