-- Neither lent words nor lent bytes are more than 65,536 words of a bank. Assumes nothing.
use Rattle.std.specs.Prelude.{ℕ, ◌≤◌, List, take}
use Rattle.std.proofs.Common.{arith, length-take}
use Rattle.std.proofs.lemmas.List.FromFn.{length-map-range_with_len}
use Rattle.bank.specs.Bytes.{word_at, word_count, words_of}
use Rattle.bank.specs.Store.{size, all_open}

pub few_words : (ws : List ℕ) → size (all_open (take 65536 ws)) ≤ 65536
few_words ws = omega (arith, length-take 65536 ws)

pub few_bytes : (bs : List ℕ) → size (all_open (words_of bs)) ≤ 65536
few_bytes bs = omega (arith, length-map-range_with_len (word_at 8 bs) 0 (word_count bs))
