-- What the private steps of a trial bank answer and leave. No contract of a public call cites these.
use Rattle.std.specs.Prelude.{ℕ, List, Option}
use Rattle.bank.specs.Store.{Store, with_words}
use Rattle.bank.specs.Trials.{above, overlaid}

-- s once the overlay os was written to it
abbrev pub settled : List (Option ℕ) → Store → Store
settled os s = with_words s (overlaid os (above s)).words
