-- Roots: a table of them, by one test of all its entries; and that a number has one root. Assumes nothing.
use Rattle.std.proofs.Common.{◌≡◌, ℕ, zero, suc, ◌*◌, ◌<◌, ◌≤◌, Bool, true, ◌&&◌, ltb, leb, List, get_or, ⊎_elim, arith}
use Rattle.std.proofs.lemmas.Nat.{mul-le}
use Rattle.std.proofs.lemmas.Bool.{leb-true, ltb-true, leb-false, cases_order, cond_both, and_parts, agree_below, agree_below_at}
use Rattle.alu.specs.Roots.{Root, root_of}

-- r is the root of x, as one test
abbrev pub right : ℕ → ℕ → Bool
right x r = leb (r * r) x && ltb x (suc r * suc r)

-- a table of the roots of bytes, tested at all of them
pub rooted : (roots : List ℕ) → agree_below (λ x. right x (get_or roots x 0)) (λ x. true) 256 ≡ true → (x : ℕ) → x < 256 → Root x (get_or roots x 0)
rooted roots all x h =
    let r = get_or roots x 0 in
    let parts = and_parts (leb (r * r) x) (ltb x (suc r * suc r)) (agree_below_at (λ x. right x (get_or roots x 0)) (λ x. true) 256 x all h) in
    record { low = leb-true (r * r) x parts.0; high = ltb-true x (suc r * suc r) parts.1 }

least : (x r s : ℕ) → Root x r → Root x s → r ≤ s
least x r s h k =
    ⊎_elim (λ e. omega arith) (⊎_elim (λ e. omega arith) (λ e. absurd (omega (arith, mul-le (suc s) (suc s) r r e e, h.low, k.high)))) (cases_order r s)

root : (x : ℕ) → Root x (root_of x)
unfolding root_of
root zero = record { low = omega arith; high = omega arith }
root (suc x) =
    let h = root x in
    let r = root_of x in
    cond_both (leb (suc r * suc r) (suc x)) (suc r) r (Root (suc x))
    (λ e. record { low = leb-true _ _ e; high = omega (arith, h.high) })
    (λ e. record { low = omega (arith, h.low); high = leb-false _ _ e })

pub only_root : (x r : ℕ) → Root x r → r ≡ root_of x
only_root x r h = omega (arith, least x r (root_of x) h (root x), least x (root_of x) r (root x) h)
