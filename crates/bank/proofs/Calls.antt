-- What the calls of a trial bank come to, over its parts: the open trial's ticket o, the overlay os, and what the bank below means, s.
use Rattle.std.proofs.Common.{◌≡◌, ℕ, ◌<◌, true, false, ◌&&◌, List, length, get_or, set, replicate, is_some, Some, None, Ok, Err, Option, unwrap_or, sym, refl, ap, ◌∙◌, arith}
use Rattle.std.proofs.lemmas.Bool.Decides.{nat_tests}
use Rattle.base.specs.declared.fault.Fault.{Fault}
use Rattle.bank.specs.Store.{Store, size, open_at, read_at, write_at}
use Rattle.bank.specs.Trials.{above, trial_over, opened, wrote}
use Rattle.bank.proofs.Overlays.{open_under, above_within, size_over, word_over_lem, over_set, over_none, size_shown, open_shown}

pub opened_none : (o : Option ℕ) (os : List (Option ℕ)) (s : Store) (n k : ℕ) → false ≡ is_some o → trial_over (Some k) (replicate n None) s ≡ opened (trial_over o os s) k
opened_none None os s n k i = ap (λ x. record { ticket = Some k; below = s; shown = x }) (over_none n (above s))
opened_none (Some j) os s n k i = cc

module _ (os : List (Option ℕ)) (s : Store) (a : ℕ) where
  -- a word that is not there below is not open above
  pub shut_past : (o : Option ℕ) (e : Fault) → Err e ≡ read_at s a → false ≡ open_at (trial_over o os s).shown a
  shut_past o e r = let z = size_shown o os s in grind (arith, nat_tests)

  pub read_refused : (o : Option ℕ) (e : Fault) → Err e ≡ read_at s a → Err e ≡ read_at (trial_over o os s).shown a
  read_refused o e r = let z = size_shown o os s in grind (arith, nat_tests)

  -- what the trial wrote, where it wrote
  pub read_over : (o : Option ℕ) (w : ℕ) → Ok w ≡ read_at s a → true ≡ is_some o → true ≡ open_at (trial_over o os s).shown a
      → Ok (unwrap_or (get_or os a None) w) ≡ read_at (trial_over o os s).shown a
  read_over None w r i p = cc
  read_over (Some k) w r i p =
      let h : a < size s = grind (arith, nat_tests) in
      let n = size_over os (above s) in
      let q = open_shown (Some k) os s a in
      let x = word_over_lem os (above s) a h in
      let e : w ≡ get_or s.words a 0 = grind (arith, nat_tests) in
      grind (arith, nat_tests)

  -- and elsewhere what is below
  pub read_through : (o : Option ℕ) (w : ℕ) → Ok w ≡ read_at s a → false ≡ is_some o && open_at (trial_over o os s).shown a → Ok w ≡ read_at (trial_over o os s).shown a
  read_through None w r p = r
  read_through (Some k) w r p =
      let h : a < size s = grind (arith, nat_tests) in
      let n = size_over os (above s) in
      let q = open_shown (Some k) os s a in
      let x = word_over_lem os (above s) a h in
      let e : w ≡ get_or s.words a 0 = grind (arith, nat_tests) in
      grind (arith, nat_tests)

-- what the methods of a bank need of these
pub ruleset through = (size_shown, open_under, open_shown, shut_past, read_refused, read_over, read_through)

-- an open trial takes the write of a word that is open
module _ (os : List (Option ℕ)) (s : Store) (a v : ℕ) (length_os : length os ≡ 1024) where
  pub wrote_shown : (o : Option ℕ) (k : ℕ) → o ≡ Some k → true ≡ open_at (trial_over o os s).shown a → (trial_over o (set os a (Some v)) s).shown ≡ write_at (trial_over o os s).shown a v
  wrote_shown None k e p = cc
  wrote_shown (Some j) k e p =
      let h : open_at (above s) a ≡ true = open_shown (Some j) os s a ∙ sym p in
      let under = above_within s a h in
      over_set os (above s) a v h (omega arith)

  pub wrote_held : (o : Option ℕ) (k : ℕ) → o ≡ Some k → true ≡ open_at (trial_over o os s).shown a → trial_over o (set os a (Some v)) s ≡ wrote (trial_over o os s) a v
  wrote_held None k e p = cc
  wrote_held (Some j) k e p = ap (λ x. record { ticket = Some j; below = s; shown = x }) (wrote_shown (Some j) j refl p)
