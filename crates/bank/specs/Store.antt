-- What a bank means, what a read of it answers, and what a write to it answers and leaves.
use Rattle.std.specs.Prelude.{ℕ, Bool, true, cond, ◌&&◌, List, length, Ok, Err, Option, Result, nat_lt, slice_index, slice_set}
use Rattle.base.specs.declared.fault.Fault.{Fault}
use Rattle.base.specs.declared.fault.Fault.TheVariants.{Address, Closed}

-- the words, and which of them are open to writes
pub record Store : Type 0 where
  pub words : List ℕ
  pub marks : ℕ → Bool

abbrev pub size : Store → ℕ
size s = length s.words

-- from the size on nothing is open
abbrev pub open_at : Store → ℕ → Bool
open_at s a = nat_lt a (size s) && s.marks a

abbrev pub read_at : Store → ℕ → Result ℕ Fault
read_at s a = cond (nat_lt a (size s)) (Ok (slice_index s.words a)) (Err Address)

abbrev pub write_answer : Store → ℕ → Result (Unit {0}) Fault
write_answer s a = cond (nat_lt a (size s)) (cond (open_at s a) (Ok tt) (Err Closed)) (Err Address)

-- s with other words
abbrev pub with_words : Store → List ℕ → Store
with_words s ws = record { words = ws; marks = s.marks }

-- an accepted write replaces that word, a refused one nothing
abbrev pub write_at : Store → ℕ → ℕ → Store
write_at s a v = with_words s (cond (open_at s a) (slice_set s.words a v) s.words)

-- words that are all open
abbrev pub all_open : List ℕ → Store
all_open ws = record { words = ws; marks = λ _. true }

-- what no write to a bank changes, beside its size and its marks
pub data Fixed : Type 0 where
  -- of a bank over lent memory: the loan, and what was lent past the bank's last word
  Lent : ℕ → List ℕ → Fixed
  -- of a trial bank: the loan of the bank below, the open trial's ticket, what is fixed of the bank below,
  -- and what that bank means: its marks, and while a trial is open its words too
  Over : ℕ → Option ℕ → Fixed → Store → Fixed
