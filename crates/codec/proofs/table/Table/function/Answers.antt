use Rattle.std.proofs.Common.{◌≡◌, ℕ, ◌<◌, length, Some, None, Option, rules, arith, sym, ◌∙◌, ⊎_elim}
use Rattle.std.proofs.lemmas.Bool.{cases_lt}
use Rattle.std.proofs.lemmas.List.{get_or_past}
use Rattle.std.proofs.lemmas.Option.{none-some}
use Rattle.std.proofs.lemmas.Iterator.{IsFirst-from_position, YieldsList-from_slice}
use Rattle.std.specs.List.{AllWithin, HoldsAt}
use Rattle.std.specs.Option.{MatchOption, unwrap_or}
use Rattle.codec.specs.declared.instruction.Mnemonic.{Mnemonic}
use Rattle.codec.specs.declared.table.Table.{Table}
use Rattle.codec.specs.Encoded.{Alone}
use Rattle.codec.specs.Tables.{rows}
use Rattle.codec.proofs.Origins.{alone}
use Rattle.codec.proofs.table.Table.function.Goals as goal
use borrow.Author.Tests.{tests}

-- the first row of a mnemonic is its only one
first : (t : Table) (m : Mnemonic) (r : Option ℕ)
    → MatchOption r (AllWithin (λ o. o ≡ Some m → ⊥) (rows t) 0 (length (rows t))) (λ k. (k < length (rows t)) × HoldsAt (λ o. o ≡ Some m) (rows t) k × AllWithin (λ o. o ≡ Some m → ⊥) (rows t) 0 k)
    → Alone t m (unwrap_or r 0)
first t m None h = λ j e.
    ⊎_elim (λ inside. absurd (h j None (omega arith) inside e)) (λ past. absurd (none-some m (sym (get_or_past (rows t) j None past) ∙ e))) (cases_lt j (length (rows t)))
first t m (Some k) h = alone t k m (h.1 None)

pub returns : goal.returns
returns c =
    let m = c.args.mnemonic in
    rw c.unwrap_or.ensures (first c.args.self m c.position-place.result
    (IsFirst-from_position _ _ _ (λ o. o ≡ Some m) (λ o. o ≡ Some m → ⊥) c.position-place.ensures.ran (YieldsList-from_slice (rows c.args.self) cc) (λ x q k. search (rules, tests)) (λ x q k. search (rules, tests))))
