-- The words that a trial shows, by place.
use Rattle.std.proofs.Common.{◌≡◌, ℕ, ◌+◌, ◌<◌, ◌≤◌, true, false, cond, ◌&&◌, ltb, ◌≢◌, List, map, length, get_or, set, replicate, Some, None, Option, sym, refl, ap, ◌∙◌, ⊎_elim, arith}
use Rattle.std.proofs.lemmas.List.FromFn.{length-map-range_with_len, get_or-map-range_with_len, fill_by_all}
use Rattle.std.proofs.lemmas.Bool.{cases_lt, cases_eq, cases_Bool, cond-true, cond-false}
use Rattle.std.proofs.lemmas.Bool.Decides.{nat_tests}
use Rattle.std.proofs.lemmas.Grind.{common_steps}
use Rattle.std.specs.List.{range_with_len}
use Rattle.bank.specs.Store.{Store, size, open_at, with_words, write_at}
use Rattle.bank.specs.Trials.{above, word_over, overlaid, trial_over}
use Rattle.bank.proofs.Tabulated.{tabulated_same, tabulated_set}

module _ (s : Store) (a : ℕ) where
  pub open_under : a < 1024 → open_at s a ≡ open_at (above s) a
  open_under h = grind (arith, nat_tests)

  pub open_past : 1024 ≤ a → false ≡ open_at (above s) a
  open_past h = grind (arith, nat_tests)

  pub open_within : open_at s a ≡ true → a < size s
  open_within o = grind (arith, nat_tests)

  pub above_within : open_at (above s) a ≡ true → a < 1024
  above_within o = grind (arith, nat_tests)

module _ (os : List (Option ℕ)) (s : Store) where
  pub size_over : size (overlaid os s) ≡ size s
  size_over = length-map-range_with_len (word_over os s) 0 (size s)

  pub word_over_lem : (k : ℕ) → k < size s → get_or (overlaid os s).words k 0 ≡ word_over os s k
  word_over_lem k h = get_or-map-range_with_len (word_over os s) 0 (size s) k k 0 h (omega arith)

  -- a write in a trial
  pub over_set : (a v : ℕ) → open_at s a ≡ true → a < length os → overlaid (set os a (Some v)) s ≡ write_at (overlaid os s) a v
  over_set a v o h =
      let n = size_over in
      ap (with_words s) (sym (tabulated_set (word_over os s) (word_over (set os a (Some v)) s) (size s) a v
      (grind (arith, common_steps)) (λ k _ ne. grind (arith, common_steps)))
      ∙ sym (cond-true (open_at (overlaid os s) a) (set (overlaid os s).words a v) (overlaid os s).words (grind (arith, nat_tests))))

-- nothing written yet
pub over_none : (n : ℕ) (s : Store) → overlaid (replicate n None) s ≡ s
over_none n s = ap (with_words s) (sym (fill_by_all (word_over (replicate n None) s) s.words (size s) 0 refl (λ k _. grind (arith, common_steps, nat_tests))))

-- a trial bank over s, whether a trial is open or not
module _ (o : Option ℕ) (os : List (Option ℕ)) (s : Store) where
  pub size_shown : size s ≡ size (trial_over o os s).shown
  size_shown = elim o as (λ p. size s ≡ size (trial_over p os s).shown) [ None ↦ refl | Some k ↦ sym (size_over os (above s)) ]

  pub open_shown : (a : ℕ) → open_at (above s) a ≡ open_at (trial_over o os s).shown a
  open_shown a =
      elim o as (λ p. open_at (above s) a ≡ open_at (trial_over p os s).shown a)
      [ None ↦ refl | Some k ↦ ap (λ n. ltb a n && (above s).marks a) (sym (size_over os (above s))) ]

-- ---- keeping a trial

-- the word at k once the first i of the overlay were written below
abbrev carried_at : List (Option ℕ) → Store → ℕ → ℕ → ℕ
carried_at os s i k = cond (ltb k i) (word_over os (above s) k) (get_or s.words k 0)

-- the bank below then
abbrev pub carried : List (Option ℕ) → Store → ℕ → Store
carried os s i = with_words s (map (carried_at os s i) (range_with_len 0 (size s)))

module _ (os : List (Option ℕ)) (s : Store) where
  pub carried_none : s ≡ carried os s 0
  carried_none = ap (with_words s) (fill_by_all (carried_at os s 0) s.words (size s) 0 refl (λ k _. grind (arith, nat_tests)))

  pub carried_all : carried os s 1024 ≡ with_words s (overlaid os (above s)).words
  carried_all = ap (with_words s)
      (tabulated_same (carried_at os s 1024) (word_over os (above s)) (size s)
      (λ k _. ⊎_elim
      (λ (h : k < 1024). grind (arith, nat_tests))
      (λ (h : 1024 ≤ k). let p = open_past s k h in grind (arith, nat_tests))
      (cases_lt k 1024)))

  -- at i the overlay changes nothing
  passed : (i : ℕ) → word_over os (above s) i ≡ get_or s.words i 0 → carried os s i ≡ carried os s (i + 1)
  passed i e = ap (with_words s)
      (tabulated_same (carried_at os s i) (carried_at os s (i + 1)) (size s)
      (λ k _. ⊎_elim
      (λ (q : k ≡ i). let z : word_over os (above s) k ≡ get_or s.words k 0 = rw q e in grind (arith, nat_tests))
      (λ (ne : k ≢ i). grind (arith, nat_tests))
      (cases_eq k i)))

  open_carried : (i : ℕ) → i < 1024 → open_at (carried os s i) i ≡ open_at (above s) i
  open_carried i h = ap (λ n. ltb i n && s.marks i) (length-map-range_with_len (carried_at os s i) 0 (size s)) ∙ open_under s i h

  pub skipped : (i : ℕ) → get_or os i None ≡ None → carried os s i ≡ carried os s (i + 1)
  skipped i e = passed i
      (grind arith)

  pub written_below : (i v : ℕ) → i < 1024 → get_or os i None ≡ Some v → write_at (carried os s i) i v ≡ carried os s (i + 1)
  written_below i v h e =
      let p = open_carried i h in
      ⊎_elim
      (λ (o : open_at (above s) i ≡ true).
      ap (with_words s)
      (cond-true (open_at (carried os s i) i) _ _ (p ∙ o)
      ∙ tabulated_set (carried_at os s i) (carried_at os s (i + 1)) (size s) i v (grind (arith, nat_tests)) (λ k _ ne. grind (arith, nat_tests))))
      (λ (o : open_at (above s) i ≡ false). ap (with_words s) (cond-false (open_at (carried os s i) i) _ _ (p ∙ o)) ∙ passed i (grind arith))
      (cases_Bool (open_at (above s) i))
