-- Bytes have one list of samples and one ending. Assumes nothing.
use Rattle.std.proofs.Common.{◌≡◌, ℕ, ◌*◌, List, [], ◌∷◌, ◌++◌, length, take, sym, refl, ap, ◌∙◌, subst, ap₂, inl, inr, append_assoc, arith, length-append}
use Rattle.std.specs.List.{AllByRecursion}
use Rattle.std.proofs.lemmas.List.{append_cancel_left}
use Rattle.sample.specs.Coming.{Coming}
use Rattle.sample.specs.Rows.{Fits}
use Rattle.sample.specs.declared.ending.Ending.{Ending}
use Rattle.sample.specs.declared.ending.Ending.TheVariants.{Dry, Fault}
use Rattle.sample.specs.declared.row.SampleRow.{SampleRow}
use Rattle.record.specs.Coming.{Whole, Ends, Comes}
use Rattle.record.specs.Format.{each, eight, two, sample_bytes}
use Rattle.record.specs.Reading.{row_of}
use Rattle.record.proofs.Bytes.{elements_are}
use Rattle.record.proofs.Samples.{row_written}

length_codes : (cs : List ℕ) → length (each two cs) ≡ 2 * length cs
length_codes [] = refl
length_codes (c ∷ cs) = let more = length_codes cs in omega arith

row_begins : (s : ℕ) (cs : List ℕ) → length cs ≡ 4 → (xs : List ℕ) → row_of (take 16 ((eight s ++ each two cs) ++ xs)) ≡ record { stamp = s; codes = cs }
row_begins s cs e xs = subst (λ cs. row_of (take 16 ((eight s ++ each two cs) ++ xs)) ≡ row_of (eight s ++ each two cs)) (sym (elements_are cs 0 4 e)) refl ∙ row_written s cs e

known : (r s : SampleRow) (xs ys : List ℕ) → length r.codes ≡ 4 → length s.codes ≡ 4 → sample_bytes r ++ xs ≡ sample_bytes s ++ ys → r ≡ s
known r s xs ys e f p = sym (row_begins r.stamp r.codes e xs) ∙ ap (λ t. row_of (take 16 t)) p ∙ row_begins s.stamp s.codes f ys

-- an ending never has a whole sample left
not_whole : (size : ℕ) (r : SampleRow) (xs left : List ℕ) (e : Ending) → Whole r → left ≡ sample_bytes r ++ xs → Ends size left e → ⊥
not_whole size r xs left Dry w p h = grind (arith, length_codes, length-append {A = ℕ})
not_whole size r xs left (Fault f) w p (a, inl (b, c, d)) = grind (arith, length_codes, length-append {A = ℕ})
not_whole size r xs left (Fault f) w p (a, inr (b, c)) =
    c.unfit (subst Fits (known r c.row xs c.more w.four c.four (sym p ∙ c.bytes_are)) w.fits)

one_ending : (size : ℕ) (left : List ℕ) (e f : Ending) → Ends size left e → Ends size left f → e ≡ f
one_ending size left e f h k = grind (arith, length_codes, length-append {A = ℕ})

go : (size : ℕ) (rs ss : List SampleRow) (xs ys : List ℕ) (e f : Ending) → AllByRecursion Whole rs → AllByRecursion Whole ss → each sample_bytes rs ++ xs ≡ each sample_bytes ss ++ ys → Ends size xs e → Ends size ys f → (rs ≡ ss) × (e ≡ f)
go size [] [] xs ys e f w v p h k = (refl, one_ending size xs e f h (subst (λ t. Ends size t f) (sym p) k))
go size [] (s ∷ ss) xs ys e f w v p h k = absurd (not_whole size s (each sample_bytes ss ++ ys) xs e v.0 (p ∙ append_assoc (sample_bytes s) (each sample_bytes ss) ys) h)
go size (r ∷ rs) [] xs ys e f w v p h k = absurd (not_whole size r (each sample_bytes rs ++ xs) ys f w.0 (sym p ∙ append_assoc (sample_bytes r) (each sample_bytes rs) xs) k)
go size (r ∷ rs) (s ∷ ss) xs ys e f w v p h k =
    let q : sample_bytes r ++ (each sample_bytes rs ++ xs) ≡ sample_bytes s ++ (each sample_bytes ss ++ ys) = sym (append_assoc (sample_bytes r) (each sample_bytes rs) xs) ∙ p ∙ append_assoc (sample_bytes s) (each sample_bytes ss) ys in
    let a : r ≡ s = known r s _ _ w.0.four v.0.four q in
    let b = append_cancel_left (sample_bytes s) (each sample_bytes rs ++ xs) (each sample_bytes ss ++ ys) (ap (λ t. sample_bytes t ++ (each sample_bytes rs ++ xs)) (sym a) ∙ q) in
    let c = go size rs ss xs ys e f w.1 v.1 b h k in
    (ap₂ ◌∷◌ a c.0, c.1)

pub sole : (bytes : List ℕ) (start : ℕ) (a b : Coming) → Comes bytes start a → Comes bytes start b → a ≡ b
sole bytes start a b h k =
    let c = go (length bytes) a.samples b.samples h.left k.left a.ending b.ending h.whole k.whole (sym h.bytes_are ∙ k.bytes_are) h.ends k.ends in
    λ i. record { samples = c.0 i; ending = c.1 i }
