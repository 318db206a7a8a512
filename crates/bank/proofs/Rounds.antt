-- A trial from its opening to its end.
use Rattle.std.proofs.Common.{◌≡◌, ℕ, true, List, [], ◌∷◌, Some, Ok, Err, Result, refl, ap, ◌∙◌, arith}
use Rattle.std.proofs.lemmas.Bool.{cond-true, eq-eqb}
use Rattle.bank.specs.declared.token.Token.{Token}
use Rattle.bank.specs.declared.token.Unspent.{Unspent}
use Rattle.bank.specs.Store.{Store, with_words, write_at}
use Rattle.bank.specs.Trials.{Trial, above, standing, wrote_all, is_ticket, end_answer, kept, dropped, Reached, Undone, Done}

-- writes to a store one after another
writes : Store → List (ℕ × ℕ) → Store
writes s [] = s
writes s (w ∷ ws) = writes (write_at s w.0 w.1) ws

-- while a trial is open only what it shows changes
in_trial : (s t : Store) (k : ℕ) (ws : List (ℕ × ℕ))
    → wrote_all (record { ticket = Some k; below = s; shown = t }) ws ≡ record { ticket = Some k; below = s; shown = writes t ws }
unfolding writes
in_trial s t k [] = refl
in_trial s t k (w ∷ ws) = in_trial s (write_at t w.0 w.1) k ws

-- with no trial open the same words go below
with_none : (s : Store) (ws : List (ℕ × ℕ)) → standing (with_words s (writes (above s) ws).words) ≡ wrote_all (standing s) ws
unfolding writes
with_none s [] = refl
with_none s (w ∷ ws) = with_none (with_words s (write_at (above s) w.0 w.1).words) ws

module _ (s : Store) (k : ℕ) (ws : List (ℕ × ℕ)) (t : Trial) (e : Reached s k ws t) where
  reached : t ≡ record { ticket = Some k; below = s; shown = writes (above s) ws }
  reached = e ∙ in_trial s (above s) k ws

  own : is_ticket t.ticket k ≡ true
  own = ap (λ u. is_ticket u.ticket k) reached ∙ eq-eqb k k refl

  undone : dropped t k ≡ standing s
  undone = cond-true _ _ _ own ∙ ap (λ u. standing u.below) reached

  done : kept t k ≡ standing (with_words t.below t.shown.words)
  done = cond-true _ _ _ own

  done_writes : kept t k ≡ wrote_all (standing s) ws
  done_writes = done ∙ ap (λ u. standing (with_words u.below u.shown.words)) reached ∙ with_none s ws

-- the token is another trial's
module _ (t : Trial) (o : Token) (x : Unspent) (r : Result (Unit {0}) Unspent) (u : Trial) (refused : Err x ≡ end_answer t o) where
  other : is_ticket t.ticket o.ticket ≡ true → ⊥
  other e = grind arith

  pub refused_undone : Undone t o.ticket r u
  refused_undone s ws e = absurd (other (own s o.ticket ws t e))

  pub refused_done : Done t o.ticket r u
  refused_done s ws e = absurd (other (own s o.ticket ws t e))

-- it is the open trial's
module _ (t u : Trial) (k : ℕ) where
  pub is_undone : u ≡ dropped t k → Undone t k (Ok tt) u
  is_undone after s ws e = (refl, after ∙ undone s k ws t e)

  pub is_done : u ≡ kept t k → Done t k (Ok tt) u
  is_done after s ws e = (refl, ap (λ x. x.below.words) (after ∙ done s k ws t e), after ∙ done_writes s k ws t e)
