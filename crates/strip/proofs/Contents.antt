-- The records that a ring keeps, one by one, and what each call makes of them. Assumes nothing.
use Rattle.std.proofs.Common.{◌≡◌, ℕ, ◌+◌, ◌-◌, ◌%◌, ◌<◌, ◌≤◌, List, [], ◌∷◌, ◌++◌, length, get_or, drop, sym, refl, ap, ◌∙◌, ap₂, min, drop-cons, ⊎_elim, mod-lt, arith}
use native.Mathlib.Nat.{mod-add-mod}
use Rattle.std.proofs.lemmas.List.{get_or_append_left, get_or-drop, get_or_push, get_or-set_other, get_or-set_same, get_or-take, length-append, length-drop, length_push, length-set, length-take, same_lists}
use Rattle.std.proofs.lemmas.Bool.{cases_lt}
use Rattle.strip.specs.Ring.{Ring, contents, oldest, place_of, unused, with_newest, with_row, without_oldest}
use Rattle.strip.proofs.Places.{apart, get_or-round}

module _ {R : Type 0} (s : Ring R) (fits : s.kept ≤ length s.rows) where
  pub length-contents : length (contents s) ≡ s.kept
  length-contents =
      let n = length s.rows in
      let whole = length-take s.kept (drop (place_of s (oldest s)) (s.rows ++ s.rows)) in
      let rest = length-drop (place_of s (oldest s)) (s.rows ++ s.rows) in
      let twice = length-append s.rows s.rows in
      ⊎_elim
      (λ some. let l : place_of s (oldest s) < n = mod-lt (oldest s) some in omega arith)
      (λ none. omega arith)
      (cases_lt 0 n)

  -- record k of those kept lies k places after the oldest
  pub get_or-contents : (k : ℕ) (d : R) → k < s.kept → get_or (contents s) k d ≡ get_or s.rows (place_of s (oldest s + k)) d
  get_or-contents k d h =
      let n = length s.rows in
      let l : place_of s (oldest s) < n = mod-lt (oldest s) (omega arith) in
      get_or-take s.kept _ k d h ∙ get_or-drop (place_of s (oldest s)) (s.rows ++ s.rows) k d ∙ get_or-round s.rows (place_of s (oldest s) + k) d (omega arith) ∙ ap (λ p. get_or s.rows p d) (mod-add-mod (oldest s) n k)

-- an unused ring keeps nothing
pub contents_unused : {R : Type 0} (rows : List R) → contents (unused rows) ≡ []
contents_unused rows = refl

-- a ring that keeps no record
pub contents_none : {R : Type 0} (s : Ring R) → s.kept ≡ 0 → contents s ≡ []
contents_none s none = rw none

-- one more record comes last
pub contents_push : {R : Type 0} (s : Ring R) → s.kept < length s.rows → s.kept ≤ s.taken → (stamp : ℕ) (row : R) → contents (with_row s stamp row) ≡ contents s ++ row ∷ []
contents_push {R} s room some stamp row = same_lists _ _ lengths (λ k d h. ⊎_elim (before k d) (here k d (omega (arith, size))) (cases_lt k s.kept))
  where
    n : ℕ
    n = length s.rows

    after : Ring R
    after = with_row s stamp row

    same_length : length after.rows ≡ n
    same_length = length-set s.rows (place_of s s.taken) row

    size : length (contents after) ≡ s.kept + 1
    size = length-contents after (omega (arith, same_length))

    size_before : length (contents s) ≡ s.kept
    size_before = length-contents s (omega arith)

    lengths : length (contents after) ≡ length (contents s ++ row ∷ [])
    lengths = omega (arith, size, size_before, length_push (contents s) row)

    at : (k : ℕ) (d : R) → k < s.kept + 1 → get_or (contents after) k d ≡ get_or after.rows ((oldest s + k) % n) d
    at k d h =
        get_or-contents after (omega (arith, same_length)) k d h ∙ ap₂ (λ m l. get_or after.rows (m % l) d) (let e : oldest after + k ≡ oldest s + k = omega arith in e) same_length

    before : (k : ℕ) (d : R) → k < s.kept → get_or (contents after) k d ≡ get_or (contents s ++ row ∷ []) k d
    before k d h =
        at k d (omega arith) ∙ get_or-set_other s.rows (place_of s s.taken) ((oldest s + k) % n) row d (apart n (oldest s + k) s.taken (omega arith) (omega arith)) ∙ sym (get_or_append_left (contents s) (row ∷ []) d k (omega (arith, size_before)) ∙ get_or-contents s (omega arith) k d h)

    here : (k : ℕ) (d : R) → k < s.kept + 1 → s.kept ≤ k → get_or (contents after) k d ≡ get_or (contents s ++ row ∷ []) k d
    here k d h q =
        let l : place_of s s.taken < n = mod-lt s.taken (omega arith) in
        at k d h ∙ ap (λ m. get_or after.rows (m % n) d) (let e : oldest s + k ≡ s.taken = omega arith in e) ∙ get_or-set_same s.rows (place_of s s.taken) row d l ∙ sym (get_or_push (contents s) row d k (omega (arith, size_before)))

-- the newest records are what is left without the oldest
pub contents_keep : {R : Type 0} (s : Ring R) → s.kept ≤ length s.rows → s.kept ≤ s.taken → (count : ℕ) → contents (with_newest s count) ≡ drop (s.kept - count) (contents s)
contents_keep s fits some count =
    let gone = s.kept - count in
    let size = length-contents s fits in
    let size_after = length-contents (with_newest s count) (omega arith) in
    let rest = length-drop gone (contents s) in
    same_lists _ _ (omega arith) (λ k d h.
    get_or-contents (with_newest s count) (omega arith) k d (omega arith) ∙ ap (λ m. get_or s.rows (place_of s m) d) (let e : oldest (with_newest s count) + k ≡ oldest s + (gone + k) = omega arith in e) ∙ sym (get_or-drop gone (contents s) k d ∙ get_or-contents s fits (gone + k) d (omega arith)))

-- the oldest record comes first, before those that stay without it
pub contents_remove : {R : Type 0} (s : Ring R) → 0 < s.kept → s.kept ≤ length s.rows → s.kept ≤ s.taken → (row : R) → row ≡ get_or s.rows (place_of s (oldest s)) row → contents s ≡ row ∷ contents (without_oldest s)
contents_remove s more fits some row is =
    let size = length-contents s fits in
    let first : get_or (contents s) 0 row ≡ row = get_or-contents s fits 0 row more ∙ ap (λ m. get_or s.rows (place_of s m) row) (let e : oldest s + 0 ≡ oldest s = omega arith in e) ∙ sym is in
    let m : min s.kept (s.kept - 1) ≡ s.kept - 1 = omega arith in
    let one : s.kept - (s.kept - 1) ≡ 1 = omega arith in
    let rest : contents (without_oldest s) ≡ drop 1 (contents s) = rw (m, one) at (contents_keep s fits some (s.kept - 1)) in
    drop-cons (contents s) 0 row (omega arith) ∙ ap₂ (λ x xs. x ∷ xs) first (sym rest)
