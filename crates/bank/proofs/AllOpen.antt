-- A store whose words are all open, by where the address lies.
use Rattle.std.proofs.Common.{◌≡◌, ℕ, ◌<◌, ◌≤◌, min, List, length, take, drop, set, Some, None, Ok, Err, Option, Bor, ap, ◌∙◌, arith, length-take, drop-set-lt}
use lib.Seq.{take-set-lt}
use Rattle.std.proofs.Math.Nat.{min_comm}
use Rattle.std.proofs.lemmas.List.{take_min}
use Rattle.std.proofs.lemmas.Bool.Decides.{nat_tests}
use Rattle.std.specs.Option.{ok_or}
use Rattle.std.specs.Slice.{IsItemAt}
use Rattle.base.specs.declared.fault.Fault.{Fault}
use Rattle.base.specs.declared.fault.Fault.TheVariants.{Address}
use Rattle.bank.specs.Store.{read_at, write_answer, write_at, all_open}

module _ (ws : List ℕ) (a : ℕ) where
  pub read_within : (w : ℕ) → Ok w ≡ read_at (all_open ws) a → a < length ws
  read_within w e = grind (arith, nat_tests)

  pub read_out : (e : Fault) → Err e ≡ read_at (all_open ws) a → length ws ≤ a
  read_out w e = grind (arith, nat_tests)

  pub answer_below : a < length ws → Ok tt ≡ write_answer (all_open ws) a
  answer_below h = grind (arith, nat_tests)

  pub write_below : (v : ℕ) → a < length ws → all_open (set ws a v) ≡ write_at (all_open ws) a v
  write_below v h = grind (arith, nat_tests)

-- what `get` finds is what a read answers
pub got_read : (ws : List ℕ) (a : ℕ) (o : Option (Bor ℕ)) (x : Bor ℕ) → IsItemAt ws a o → ok_or o Address ≡ Ok x → Ok x.now ≡ read_at (all_open ws) a
got_read ws a None x found e = absurd cc
got_read ws a (Some y) x found e = grind (arith, nat_tests)

-- the first k, or as many as there are
pub take_first : {X : Type 0} (k n : ℕ) (xs : List X) → n ≡ min (length xs) k → take n xs ≡ take k xs
take_first k n xs e = ap (λ m. take m xs) (e ∙ min_comm (length xs) k) ∙ take_min k xs

-- the words are the first n of what is lent
module _ (ws : List ℕ) (n a w : ℕ) (read : Ok w ≡ read_at (all_open (take n ws)) a) where
  pub taken_within : (a < n) × (a < length ws)
  taken_within =
      let h = read_within (take n ws) a w read in
      (omega (arith, length-take n ws), omega (arith, length-take n ws))

  pub taken_write : (v : ℕ) → all_open (take n (set ws a v)) ≡ write_at (all_open (take n ws)) a v
  taken_write v = ap all_open (take-set-lt n ws a v taken_within.0) ∙ write_below (take n ws) a v (read_within (take n ws) a w read)

  pub taken_rest : (v : ℕ) → drop n (set ws a v) ≡ drop n ws
  taken_rest v = drop-set-lt n ws a v taken_within.0
