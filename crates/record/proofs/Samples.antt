-- The samples of a record, read place after place. Assumes nothing.
use Rattle.std.proofs.Common.{◌≡◌, ℕ, zero, suc, ◌+◌, ◌-◌, ◌*◌, ◌/◌, ◌%◌, ◌<◌, ◌≤◌, min, Bool, true, false, cond, ltb, List, [], ◌∷◌, ◌++◌, length, get_or, take, drop, Ok, Err, Result, sym, refl, ap, ◌∙◌, subst, inl, inr, append_assoc, zero-le, arith, length-drop, length-take}
use borrow.Author.Tests.{both_ways}
use Rattle.std.proofs.lemmas.Bool.{and_from, and_parts, lt-ltb, le-ltb, le-leb, ltb-true, ltb-false, leb-true}
use Rattle.std.proofs.lemmas.List.{drop_all}
use Rattle.std.specs.Result.{IsErrAnd, MatchResult}
use Rattle.refusal.specs.declared.Refusal.{Refusal}
use Rattle.refusal.specs.declared.Refusal.TheVariants.{Cut, Range}
use Rattle.scale.specs.Limits.{largest_code}
use Rattle.sample.specs.Coming.{Coming, first, rest}
use Rattle.sample.specs.Rows.{Fits}
use Rattle.sample.specs.declared.ending.Ending.{Ending}
use Rattle.sample.specs.declared.ending.Ending.TheVariants.{Dry}
use Rattle.sample.specs.declared.row.SampleRow.{SampleRow}
use Rattle.sample.specs.declared.sample.Sample.{Sample}
use Rattle.record.specs.Coming.{Comes, BrokenFirst}
use Rattle.record.specs.Format.{low_first, two, eight, each, sample_bytes}
use Rattle.record.specs.Reading.{number, row_of, codes_fit, row_fits, fault, coming_counted, coming_from, Seen}
use Rattle.record.proofs.Bytes.{elements_are, elements_take, Bytes, bytes_take, bytes_drop, sample_written, cut}

number_written : (w n : ℕ) → number (low_first w n) ≡ n
number_written zero n = omega arith
number_written (suc w) n = ap (λ m. n % 256 + 256 * m) (number_written w (n / 256)) ∙ omega arith

pub row_written : (s : ℕ) (cs : List ℕ) → length cs ≡ 4 → row_of (eight s ++ each two cs) ≡ record { stamp = s; codes = cs }
row_written s cs e =
    subst (λ cs. row_of (eight s ++ each two cs) ≡ record { stamp = s; codes = cs }) (sym (elements_are cs 0 4 e))
    (λ i. record {
      stamp = number_written 7 s i;
      codes = number_written 1 (get_or cs 0 0) i ∷ number_written 1 (get_or cs 1 0) i ∷ number_written 1 (get_or cs 2 0) i ∷ number_written 1 (get_or cs 3 0) i ∷ [];
    })

-- the test of a row, and what it tells

codes_told : (cs : List ℕ) → codes_fit cs ≡ true → (k : ℕ) → get_or cs k 0 ≤ largest_code
codes_told [] e k = zero-le
codes_told (c ∷ cs) e zero = leb-true _ _ (and_parts _ _ e).0
codes_told (c ∷ cs) e (suc k) = codes_told cs (and_parts _ _ e).1 k

codes_tested : (cs : List ℕ) → ((k : ℕ) → get_or cs k 0 ≤ largest_code) → codes_fit cs ≡ true
codes_tested [] h = refl
codes_tested (c ∷ cs) h = and_from _ _ (le-leb _ _ (h 0)) (codes_tested cs (λ k. h (suc k)))

pub row_told : (row : SampleRow) → row_fits row ≡ true → Fits row
row_told row e = record { early = ltb-true _ _ (and_parts _ _ e).0; within = codes_told row.codes (and_parts _ _ e).1 }

pub row_tested : (row : SampleRow) → Fits row → row_fits row ≡ true
row_tested row h = and_from _ _ (lt-ltb _ _ h.early) (codes_tested row.codes h.within)

pub row_failed : (row : SampleRow) → (Fits row → ⊥) → row_fits row ≡ false
row_failed row h = grind (arith, row_told)

-- what is to come where fewer than sixteen bytes are left
module _ (bs : List ℕ) (at : ℕ) where
  pub comes_dry : length bs ≤ at → coming_from bs at ≡ record { samples = []; ending = Dry }
  comes_dry h =
      let none : (length bs - at) / 16 ≡ 0 = omega arith in
      let past : ltb at (length bs) ≡ false = le-ltb _ _ h in
      ap (λ n. coming_counted bs n at) none ∙ ap (λ b. record { samples = []; ending = cond b (fault Cut at) Dry }) past

  pub comes_cut : at < length bs → length bs - at < 16 → coming_from bs at ≡ record { samples = []; ending = fault Cut at }
  comes_cut h l =
      let none : (length bs - at) / 16 ≡ 0 = omega arith in
      let more : ltb at (length bs) ≡ true = lt-ltb _ _ h in
      ap (λ n. coming_counted bs n at) none ∙ ap (λ b. record { samples = []; ending = cond b (fault Cut at) Dry }) more

-- what comes from a place with a whole sample left
module _ (bs : List ℕ) (at : ℕ) where
  module _ (row : SampleRow) (h : at + 16 ≤ length bs) (e : sample_bytes row ≡ take 16 (drop at bs)) (four : length row.codes ≡ 4) where
    row_is : row_of (take 16 (drop at bs)) ≡ row
    row_is = ap row_of (sym e) ∙ row_written row.stamp row.codes four

    abbrev choose : SampleRow → Bool → Coming
    choose r b = cond b (record { samples = r ∷ (coming_from bs (at + 16)).samples; ending = (coming_from bs (at + 16)).ending }) (record { samples = []; ending = fault Range at })

    comes_one : coming_from bs at ≡ choose row (row_fits row)
    comes_one =
        let more : (length bs - at) / 16 ≡ suc ((length bs - (at + 16)) / 16) = omega arith in
        ap (λ n. coming_counted bs n at) more ∙ ap (λ r. choose r (row_fits r)) row_is

    pub comes_more : Fits row → coming_from bs at ≡ record { samples = row ∷ (coming_from bs (at + 16)).samples; ending = (coming_from bs (at + 16)).ending }
    comes_more f = comes_one ∙ ap (choose row) (row_tested row f)

    pub comes_broken : (Fits row → ⊥) → coming_from bs at ≡ record { samples = []; ending = fault Range at }
    comes_broken f = comes_one ∙ ap (choose row) (row_failed row f)

    -- the answer there
    pub seen : {P : Refusal → Ending → Type 0} (made : Result Sample Refusal) (a : Result Sample Ending) → MatchResult made (λ sample. sample.row ≡ row) (λ why. (why ≡ Range) × (Fits row → ⊥)) → MatchResult made (λ sample. a ≡ Ok sample) (λ why. IsErrAnd a (P why)) → ((why : Refusal) (ending : Ending) → P why ending → ending ≡ fault Range at) → Seen bs at a
    seen (Ok sample) a same k told =
        let more = comes_more (subst Fits same (record { early = sample.early; within = sample.within })) in
        subst (Seen bs at) (sym k) (ap first more ∙ ap Ok (sym same), ap rest more, h)
    seen (Err _) (Ok _) _ k told = absurd k
    seen (Err why) (Err ending) (_, unfit) k told =
        let broken = comes_broken unfit in
        (ap first broken ∙ ap Err (sym (told why ending k)), ap rest broken ∙ sym broken)

-- bytes, sixteen by sixteen
pub row_spelled : (bs : List ℕ) → Bytes bs → length bs ≡ 16 → sample_bytes (row_of bs) ≡ bs
row_spelled bs small e =
    sample_written bs small e _ _ _ _ _ (ap number (elements_take bs 0 8 (omega arith))) (ap number (elements_take bs 8 2 (omega arith))) (ap number (elements_take bs 10 2 (omega arith))) (ap number (elements_take bs 12 2 (omega arith))) (ap number (elements_take bs 14 2 (omega arith)))

module _ (bs : List ℕ) (small : Bytes bs) where
  abbrev first_row : ℕ → SampleRow
  first_row at = row_of (take 16 (drop at bs))

  -- the bytes from a place on begin with those of their first row
  spelled : (at : ℕ) → at + 16 ≤ length bs → drop at bs ≡ sample_bytes (first_row at) ++ drop (at + 16) bs
  spelled at h =
      cut 16 at bs ∙ ap (λ r. r ++ drop (at + 16) bs) (sym (row_spelled (take 16 (drop at bs)) (bytes_take 16 (drop at bs) (bytes_drop at bs small)) (simp (length-take, length-drop) (omega arith))))

  -- with fewer than sixteen bytes left
  comes_last : (at : ℕ) (b : Bool) → (length bs - at) / 16 ≡ 0 → ltb at (length bs) ≡ b → Comes bs at (record { samples = []; ending = cond b (fault Cut at) Dry })
  comes_last at true e t =
      let l = ltb-true at (length bs) t in
      let d = length-drop at bs in
      record { left = drop at bs; bytes_are = refl; whole = tt; ends = (omega arith, inl (refl, omega arith, omega arith)) }
  comes_last at false e t = record { left = []; bytes_are = drop_all at bs (ltb-false at (length bs) t); whole = tt; ends = refl }

  -- with more, by whether the first sixteen are a sample
  comes_first : (at : ℕ) (m : Coming) (b : Bool) → at + 16 ≤ length bs → Comes bs (at + 16) m → row_fits (first_row at) ≡ b → Comes bs at (cond b (record { samples = first_row at ∷ m.samples; ending = m.ending }) (record { samples = []; ending = fault Range at }))
  comes_first at m true h later t = record {
    left = later.left;
    bytes_are = spelled at h ∙ ap (λ r. sample_bytes (first_row at) ++ r) later.bytes_are ∙ sym (append_assoc (sample_bytes (first_row at)) (each sample_bytes m.samples) later.left);
    whole = (record { four = refl; fits = row_told _ t }, later.whole);
    ends = later.ends;
  }
  comes_first at m false h later t =
      let d = length-drop at bs in
      let broken : BrokenFirst (drop at bs) = record { row = first_row at; more = drop (at + 16) bs; bytes_are = spelled at h; four = refl; unfit = λ f. both_ways _ t (row_tested _ f) } in
      record { left = drop at bs; bytes_are = refl; whole = tt; ends = (omega arith, inr (refl, broken)) }

  comes_of : (n at : ℕ) → (length bs - at) / 16 ≡ n → Comes bs at (coming_counted bs n at)
  comes_of zero at e = comes_last at (ltb at (length bs)) e refl
  comes_of (suc n) at e = comes_first at (coming_counted bs n (at + 16)) (row_fits (first_row at)) (omega arith) (comes_of n (at + 16) (omega arith)) refl

  -- a start past the end counts as the end
  from_end : (start : ℕ) → drop start bs ≡ drop (min start (length bs)) bs
  from_end start = grind (arith, drop_all)

  pub comes : (start : ℕ) → Comes bs start (coming_from bs (min start (length bs)))
  comes start =
      let there = comes_of _ (min start (length bs)) refl in
      record { left = there.left; bytes_are = from_end start ∙ there.bytes_are; whole = there.whole; ends = there.ends }
