-- How many numbers pass a test, by one number more and as a list that was filtered; and the lowest that does. Assumes nothing.
use Rattle.std.proofs.Common.{◌≡◌, ℕ, zero, suc, ◌+◌, ◌-◌, ◌<◌, ◌≤◌, Bool, true, false, cond, Some, None, [], ◌∷◌, ◌++◌, length, sym, ap, ◌∙◌, refl, add-one, arith, length-append}
use Rattle.std.specs.List.{filter, range_with_len}
use Rattle.std.proofs.lemmas.List.Elements.{filter-append}
use Rattle.std.proofs.lemmas.Grind.{common_steps}
use Rattle.world.specs.Steps.{many}
use Rattle.world.proofs.Tallies.{counting_join}
use Rattle.watch.specs.Cells.{lowest}

-- a count over the numbers from j up to, not including, k
pub many_none : (p : ℕ → Bool) (j k : ℕ) → k ≤ j → many (λ i. p (j + i)) (k - j) ≡ 0
unfolding many
many_none p j k h = let e : k - j ≡ 0 = omega arith in rw e refl

pub many_more : (p : ℕ → Bool) (j k : ℕ) → j ≤ k → many (λ i. p (j + i)) (k + 1 - j) ≡ cond (p k) (suc (many (λ i. p (j + i)) (k - j))) (many (λ i. p (j + i)) (k - j))
unfolding many
many_more p j k h =
    let e : k + 1 - j ≡ suc (k - j) = omega arith in
    let f : j + (k - j) ≡ k = omega arith in
    ap (many (λ i. p (j + i))) e ∙ ap (λ x. cond (p x) (suc (many (λ i. p (j + i)) (k - j))) (many (λ i. p (j + i)) (k - j))) f

pub many_most : (p : ℕ → Bool) (n : ℕ) → many p n ≤ n
unfolding many
many_most p zero = omega arith
many_most p (suc n) = grind (arith, common_steps, many_most p n)

-- the numbers that a filter leaves are those that pass
pub many_left : (p : ℕ → Bool) (j n : ℕ) → length (filter p (range_with_len j n)) ≡ many (λ k. p (j + k)) n
unfolding many
many_left p j zero = refl
many_left p j (suc n) =
    let left = filter p (range_with_len j n) in
    let one : length (left ++ filter p ((j + n) ∷ [])) ≡ length left + cond (p (j + n)) 1 0 = length-append left (filter p ((j + n) ∷ [])) ∙ elim (p (j + n)) as (λ b. length left + length (cond b ((j + n) ∷ []) []) ≡ length left + cond b 1 0) [ true ↦ refl | false ↦ refl ] in
    ap (λ xs. length (filter p xs)) (ap (range_with_len j) (sym (add-one n)) ∙ counting_join j n 1)
    ∙ ap length (filter-append p (range_with_len j n) ((j + n) ∷ []))
    ∙ one
    ∙ ap (λ m. m + cond (p (j + n)) 1 0) (many_left p j n)
    ∙ elim (p (j + n)) as (λ b. many (λ k. p (j + k)) n + cond b 1 0 ≡ cond b (suc (many (λ k. p (j + k)) n)) (many (λ k. p (j + k)) n)) [ true ↦ add-one _ | false ↦ omega arith ]

-- a search that found nothing below k goes on from k
pub lowest_from : (p : ℕ → Bool) (j k c : ℕ) → ((i : ℕ) → j ≤ i → i < k → p i ≡ false) → j ≤ k → k ≤ j + c → lowest p j c ≡ lowest p k (j + c - k)
lowest_from p j k c none a b = go (k - j) j c none (omega arith) b
  where
    go : (d j c : ℕ) → ((i : ℕ) → j ≤ i → i < k → p i ≡ false) → j + d ≡ k → k ≤ j + c → lowest p j c ≡ lowest p k (j + c - k)
    go zero j c none e b =
        let f : j ≡ k = omega arith in
        let h : c ≡ j + c - k = omega arith in
        ap (λ x. lowest p j x) h ∙ ap (λ x. lowest p x (j + c - k)) f
    go (suc d) j zero none e b = absurd (let z : ⊥ = omega arith in z)
    go (suc d) j (suc c) none e b =
        let h : j + suc c - k ≡ j + 1 + c - k = omega arith in
        ap (λ x. cond x (Some j) (lowest p (j + 1) c)) (none j (omega arith) (omega arith))
        ∙ go d (j + 1) c (λ i x y. none i (omega arith) y) (omega arith) (omega arith)
        ∙ ap (lowest p k) (sym h)

pub lowest_here : (p : ℕ → Bool) (j k c : ℕ) → ((i : ℕ) → j ≤ i → i < k → p i ≡ false) → p k ≡ true → j ≤ k → k < j + c → lowest p j c ≡ Some k
lowest_here p j k c none here a b =
    let e : j + c - k ≡ suc (j + c - suc k) = omega arith in
    lowest_from p j k c none a (omega arith) ∙ ap (lowest p k) e ∙ ap (λ x. cond x (Some k) (lowest p (k + 1) (j + c - suc k))) here

pub lowest_nowhere : (p : ℕ → Bool) (j c : ℕ) → ((i : ℕ) → j ≤ i → i < j + c → p i ≡ false) → lowest p j c ≡ None
lowest_nowhere p j c none =
    let e : j + c - (j + c) ≡ 0 = omega arith in
    lowest_from p j (j + c) c none (omega arith) (omega arith) ∙ ap (lowest p (j + c)) e

-- what the lowest number that passes a test says of the numbers: there are some
pub lowest_some : (test : ℕ → Bool) (j c p : ℕ) → lowest test j c ≡ Some p → 0 < c
lowest_some test j zero p e = absurd cc
lowest_some test j (suc c) p e = omega arith
