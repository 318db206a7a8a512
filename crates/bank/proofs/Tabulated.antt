-- Lists made from a function of the index.
use Rattle.std.proofs.Common.{◌≡◌, ℕ, ◌<◌, ◌≢◌, map, set, ◌∙◌, arith, length-set}
use Rattle.std.proofs.lemmas.List.FromFn.{length-map-range_with_len, get_or-map-range_with_len, fill_by_all}
use Rattle.std.proofs.lemmas.Grind.{common_steps}
use Rattle.std.specs.List.{range_with_len}

pub tabulated_same : (f g : ℕ → ℕ) (n : ℕ) → ((k : ℕ) → k < n → f k ≡ g k) → map f (range_with_len 0 n) ≡ map g (range_with_len 0 n)
tabulated_same f g n e =
    fill_by_all g (map f (range_with_len 0 n)) n 0 (length-map-range_with_len f 0 n) (λ k h. get_or-map-range_with_len f 0 n k k 0 h (omega arith) ∙ e k h)

-- g is f but for the value v at i
pub tabulated_set : (f g : ℕ → ℕ) (n i v : ℕ) → g i ≡ v → ((k : ℕ) → k < n → k ≢ i → f k ≡ g k) → set (map f (range_with_len 0 n)) i v ≡ map g (range_with_len 0 n)
tabulated_set f g n i v here e =
    let l = length-map-range_with_len f 0 n in
    fill_by_all g (set (map f (range_with_len 0 n)) i v) n 0 (simp (length-set, length-map-range_with_len))
    (λ k h. let x = get_or-map-range_with_len f 0 n k k 0 h (omega arith) in grind (arith, common_steps, here, e k h))
