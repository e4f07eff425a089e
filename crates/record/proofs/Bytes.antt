-- Numbers and their bytes. Assumes nothing.
use Rattle.std.proofs.Common.{◌≡◌, ℕ, zero, suc, ◌+◌, ◌*◌, ◌/◌, ◌%◌, ◌<◌, ◌≤◌, List, [], ◌∷◌, ◌++◌, length, get_or, take, drop, sym, refl, ap, ◌∙◌, subst, ap₂, arith, length-drop, take-append-drop, drop-cons}
use Rattle.std.proofs.lemmas.List.{drop-drop, take_all}
use Rattle.record.specs.Format.{low_first, sample_bytes}
use Rattle.record.specs.Reading.{number}

abbrev pub Bytes : List ℕ → Type 0
Bytes [] = Unit {0}
Bytes (b ∷ bs) = (b < 256) × Bytes bs

pub bytes_of : (bs : List ℕ) → ((i : ℕ) → get_or bs i 0 < 256) → Bytes bs
bytes_of [] h = tt
bytes_of (b ∷ bs) h = (h 0, bytes_of bs (λ i. h (suc i)))

pub bytes_take : (n : ℕ) (bs : List ℕ) → Bytes bs → Bytes (take n bs)
bytes_take zero bs h = tt
bytes_take (suc n) [] h = tt
bytes_take (suc n) (b ∷ bs) h = (h.0, bytes_take n bs h.1)

pub bytes_drop : (n : ℕ) (bs : List ℕ) → Bytes bs → Bytes (drop n bs)
bytes_drop zero bs h = h
bytes_drop (suc n) [] h = tt
bytes_drop (suc n) (b ∷ bs) h = bytes_drop n bs h.1

-- n elements from i on
abbrev pub elements : List ℕ → ℕ → ℕ → List ℕ
elements bs i zero = []
elements bs i (suc n) = get_or bs i 0 ∷ elements bs (suc i) n

pub length-elements : (bs : List ℕ) (i n : ℕ) → length (elements bs i n) ≡ n
length-elements bs i zero = refl
length-elements bs i (suc n) = let rest = length-elements bs (suc i) n in omega arith

pub elements_take : (bs : List ℕ) (i n : ℕ) → i + n ≤ length bs → take n (drop i bs) ≡ elements bs i n
elements_take bs i zero h = refl
elements_take bs i (suc n) h = ap (take (suc n)) (drop-cons bs i 0 (omega arith)) ∙ ap (λ r. get_or bs i 0 ∷ r) (elements_take bs (suc i) n (omega arith))

pub elements_are : (bs : List ℕ) (i n : ℕ) → length bs ≡ i + n → drop i bs ≡ elements bs i n
elements_are bs i n e = sym (take_all n (drop i bs) (simp length-drop (omega arith))) ∙ elements_take bs i n (omega arith)

pub written : (w : ℕ) (bs : List ℕ) → length bs ≡ suc w → Bytes bs → low_first w (number bs) ≡ bs
written w [] e h = let z : suc w ≡ 0 = sym e in absurd (let k : ⊥ = omega arith in k)
written zero (b ∷ []) e h = ap (λ n. n ∷ []) (omega arith)
written zero (b ∷ a ∷ bs) e h = absurd (let k : ⊥ = omega arith in k)
written (suc w) (b ∷ bs) e h =
    let m = number bs in
    let l = h.0 in
    let rest : (b + 256 * number bs) / 256 ≡ number bs = omega arith in
    ap₂ ◌∷◌ (let d : (b + 256 * number bs) % 256 ≡ b = omega arith in d) (ap (low_first w) rest ∙ written w bs (omega arith) h.1)

-- so many bytes, and those after them
pub cut : {X : Type 0} (w i : ℕ) (xs : List X) → drop i xs ≡ take w (drop i xs) ++ drop (i + w) xs
cut w i xs = sym (take-append-drop w (drop i xs)) ∙ ap (λ r. take w (drop i xs) ++ r) (drop-drop w i xs)

module _ (bs : List ℕ) (small : Bytes bs) where
  -- a number that is read of some bytes is written as these bytes
  part : (w i r : ℕ) → i + suc w ≤ length bs → r ≡ number (elements bs i (suc w)) → low_first w r ≡ elements bs i (suc w)
  part w i r h e =
      let part_small = subst Bytes (elements_take bs i (suc w) h) (bytes_take (suc w) (drop i bs) (bytes_drop i bs small)) in
      ap (low_first w) e ∙ written w (elements bs i (suc w)) (length-elements bs i (suc w)) part_small

  pub read_back : (w r : ℕ) → length bs ≡ suc w → r ≡ number (elements bs 0 (suc w)) → low_first w r ≡ bs
  read_back w r e s = part w 0 r (omega arith) s ∙ sym (elements_are bs 0 (suc w) (omega arith))

  -- and so are five numbers that are read of a sample's sixteen bytes
  pub sample_written : length bs ≡ 16 → (s a b c d : ℕ) → s ≡ number (elements bs 0 8) → a ≡ number (elements bs 8 2) → b ≡ number (elements bs 10 2) → c ≡ number (elements bs 12 2) → d ≡ number (elements bs 14 2) → sample_bytes (record { stamp = s; codes = a ∷ b ∷ c ∷ d ∷ [] }) ≡ bs
  sample_written e s a b c d p q r t u =
      ap₂ ◌++◌ (part 7 0 s (omega arith) p) (ap₂ ◌++◌ (part 1 8 a (omega arith) q) (ap₂ ◌++◌ (part 1 10 b (omega arith) r) (ap₂ ◌++◌ (part 1 12 c (omega arith) t) (ap₂ ◌++◌ (part 1 14 d (omega arith) u) refl))))
      ∙ sym (elements_are bs 0 16 e)
