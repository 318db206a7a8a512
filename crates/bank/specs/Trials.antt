-- What a trial bank means, what each of its calls answers and leaves, and what a trial comes to.
use Rattle.std.specs.Prelude.{◌≡◌, ℕ, Bool, false, cond, ◌&&◌, List, [], ◌∷◌, map, Some, None, Ok, Err, Option, Result, ◌==◌, nat_lt, slice_index, slice_index_or}
use Rattle.std.specs.List.{range_with_len}
use Rattle.std.specs.Option.{unwrap_or}
use Rattle.base.specs.declared.fault.Fault.{Fault}
use Rattle.base.specs.declared.fault.Fault.TheVariants.{TrialOpen, NoSuchTrial}
use Rattle.bank.specs.declared.token.End.{End}
use Rattle.bank.specs.declared.token.End.TheVariants.{Keep, Drop}
use Rattle.bank.specs.declared.token.Token.{Token}
use Rattle.bank.specs.declared.trial.TrialBank.{TrialBank}
use Rattle.bank.specs.declared.token.Unspent.{Unspent}
use Rattle.bank.specs.Store.{Store, Fixed, Over, size, open_at, with_words, write_at}

-- the open trial's ticket, what the bank below means, and what the trial bank means
pub record Trial : Type 0 where
  pub ticket : Option ℕ
  pub below : Store
  pub shown : Store

-- s through a trial bank: the words from 1,024 on are closed
abbrev pub above : Store → Store
above s = record { words = s.words; marks = λ a. nat_lt a 1024 && s.marks a }

-- the word at a, with what a trial wrote over it; only open words were written
abbrev pub word_over : List (Option ℕ) → Store → ℕ → ℕ
word_over os s a = cond (open_at s a) (unwrap_or (slice_index_or os a None) (slice_index s.words a)) (slice_index s.words a)

abbrev pub overlaid : List (Option ℕ) → Store → Store
overlaid os s = with_words s (map (word_over os s) (range_with_len 0 (size s)))

-- no trial is open over s
abbrev pub standing : Store → Trial
standing s = record { ticket = None; below = s; shown = above s }

-- a trial bank over s, by the open trial's ticket and the overlay os, which counts while a trial is open
abbrev pub trial_over : Option ℕ → List (Option ℕ) → Store → Trial
trial_over None os s = standing s
trial_over (Some k) os s = record { ticket = Some k; below = s; shown = overlaid os (above s) }

-- what a trial bank holds and stands over; m is what the bank below means
abbrev pub state : {B : Type 0} → (B → Store) → TrialBank B → Trial
state m t = trial_over t.ticket t.overlay (m t.below.now)

-- what no write to a trial bank changes of the bank below, by the open trial
abbrev pub held_below : Option ℕ → Store → Store
held_below None s = with_words s []
held_below (Some k) s = s

-- f is what is fixed of the bank below
abbrev pub fixed_over : {B : Type 0} → (B → Store) → (B → Fixed) → TrialBank B → Fixed
fixed_over m f t = Over t.below.ghost_name t.ticket (f t.below.now) (held_below t.ticket (m t.below.now))

-- a call leaves the bank that is lent, and what is fixed of it; f is what is fixed
pub record SameBelow {B : Type 0} (f : B → Fixed) (old new : TrialBank B) : Type 0 where
  pub lent : new.below.ghost_name ≡ old.below.ghost_name
  pub under : f new.below.now ≡ f old.below.now

-- opening
abbrev pub open_answer : Trial → ℕ → Result Token Fault
open_answer t k = elim t.ticket [ None ↦ Ok (record { ticket = k }) | Some j ↦ Err TrialOpen ]

abbrev pub opened : Trial → ℕ → Trial
opened t k = elim t.ticket [ None ↦ record { ticket = Some k; below = t.below; shown = t.shown } | Some j ↦ t ]

-- writing: straight below where no trial is open, and never below where one is
abbrev pub wrote : Trial → ℕ → ℕ → Trial
wrote t a v = elim t.ticket [
  | None ↦ standing (with_words t.below (write_at t.shown a v).words)
  | Some k ↦ record { ticket = Some k; below = t.below; shown = write_at t.shown a v }
]

-- the open trial has the ticket k
abbrev pub is_ticket : Option ℕ → ℕ → Bool
is_ticket None k = false
is_ticket (Some j) k = j == k

-- keeping and dropping
abbrev pub end_answer : Trial → Token → Result (Unit {0}) Unspent
end_answer t o = cond (is_ticket t.ticket o.ticket) (Ok tt) (Err (record { fault = NoSuchTrial; token = o }))

abbrev pub kept : Trial → ℕ → Trial
kept t k = cond (is_ticket t.ticket k) (standing (with_words t.below t.shown.words)) t

abbrev pub dropped : Trial → ℕ → Trial
dropped t k = cond (is_ticket t.ticket k) (standing t.below) t

abbrev pub ended : Trial → ℕ → End → Trial
ended t k Keep = kept t k
ended t k Drop = dropped t k

-- writes one after another, refused ones included
abbrev pub wrote_all : Trial → List (ℕ × ℕ) → Trial
wrote_all t [] = t
wrote_all t (w ∷ ws) = wrote_all (wrote t w.0 w.1) ws

-- t is a trial with the ticket k that was opened over s, after the writes ws
abbrev pub Reached : Store → ℕ → List (ℕ × ℕ) → Trial → Type 0
Reached s k ws t = t ≡ wrote_all (opened (standing s) k) ws

-- a trial that is dropped leaves everything as it was at the opening, whatever was written
abbrev pub Undone : Trial → ℕ → Result (Unit {0}) Unspent → Trial → Type 0
Undone t k r u = (s : Store) (ws : List (ℕ × ℕ)) → Reached s k ws t → (r ≡ Ok tt) × (u ≡ standing s)

-- a trial that is kept leaves below the words that it showed, and everything as if the writes had been made with no trial open
abbrev pub Done : Trial → ℕ → Result (Unit {0}) Unspent → Trial → Type 0
Done t k r u = (s : Store) (ws : List (ℕ × ℕ)) → Reached s k ws t
    → (r ≡ Ok tt) × (u.below.words ≡ t.shown.words) × (u ≡ wrote_all (standing s) ws)
