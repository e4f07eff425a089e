-- Tests that hold from some number on: where they begin to, and how many numbers pass. Assumes nothing.
use Rattle.std.proofs.Common.{◌≡◌, ℕ, zero, suc, ◌-◌, ◌<◌, ◌≤◌, Bool, true, false, leb, arith}
use Rattle.std.proofs.lemmas.Bool.Decides.{nat_tests}
use Rattle.world.specs.Steps.{many}
use Rattle.watch.proofs.Counting.{many_most}

-- a test that holds from a on is passed by all numbers from a on
pub many_from : (p : ℕ → Bool) (a n : ℕ) → ((j : ℕ) → j < n → p j ≡ leb a j) → many p n ≡ n - a
unfolding many
many_from p a zero h = omega arith
many_from p a (suc n) h = grind (arith, nat_tests, many_from p a n (λ j l. h j (omega arith)), h n (omega arith))

-- a test that, below n, holds on from where it holds
pub suffix : (p : ℕ → Bool) (n : ℕ) → ((i j : ℕ) → p i ≡ true → i ≤ j → j < n → p j ≡ true) → (j : ℕ) → j < n → p j ≡ leb (n - many p n) j
unfolding many
suffix p zero up j l = absurd (omega arith)
suffix p (suc n) up j l =
    let none : p n ≡ false → many p n ≡ n - n = λ x. many_from p n n (λ k b. grind (arith, nat_tests, up k n)) in
    grind (arith, nat_tests, suffix p n (λ i k h a b. up i k h a (omega arith)) j, up j n, many_most p n, none)
