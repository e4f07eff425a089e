-- One sample more: the last node's cells again have the ends over the capture. Assumes nothing.
use Rattle.std.proofs.Common.{◌≡◌, ℕ, ◌+◌, ◌-◌, ◌%◌, ◌<◌, ◌≤◌, List, [], ◌∷◌, ◌++◌, length, get_or, set, sym, ap, ◌∙◌, ap₂, ⊎_elim, mod-lt, arith, length-append, length-set}
use lib.ListN.{get_or-append}
use Rattle.std.proofs.lemmas.List.{get_or-set_same, get_or-set_other, get_or_push}
use Rattle.std.proofs.lemmas.Bool.{cases_lt}
use Rattle.std.proofs.lemmas.Grind.{common_steps}
use Rattle.scale.specs.Laws.{Ops, Laws}
use Rattle.logic.specs.Formula.{Formula, wait, reach, span}
use Rattle.logic.specs.Trace.{blank, trace, newest, Rising}
use Rattle.logic.proofs.Forget.{Tail, found}
use Rattle.logic.proofs.Lists.{stays_settled}
use Rattle.logic.proofs.Settle as Settle
use Rattle.logic.proofs.Windows.{rising}
use Rattle.rule.specs.declared.rule.Rule.{Rule}
use Rattle.sample.specs.Rows.{Fits, clamped}
use Rattle.sample.specs.declared.row.SampleRow.{SampleRow}
use Rattle.sample.proofs.Within.{row_stays}
use Rattle.evaluation.specs.Memory.{place, cell_at, row_at, window, kept_ends}
use Rattle.evaluation.specs.declared.memory.Cell.{Cell}
use Rattle.evaluation.proofs.Places.{apart, place_apart, place_earlier}
use Rattle.world.specs.Steps.{shown, stamp_at}
use Rattle.world.specs.Tests.{rule_formula}
use Rattle.world.proofs.Enough.{rising_first}
use Rattle.world.proofs.Holding.{stamp_old}
use Rattle.watch.specs.Memory.{last_node}
use Rattle.watch.specs.Refreshed.{Refreshed}

-- what is known when a sample s was put after the capture σ, at its place in the rows: from position low on the rows and the last
-- node's cells were those of σ, and every position before low has a stamp at least the span before the newest
pub record Put {V : Type 0} (ops : Ops V) (read : ℕ → ℕ → V) (rule : Rule) (σ : List SampleRow) (s : SampleRow) (rows rows' : List SampleRow) (cells : List Cell) (low last : ℕ) : Type 0 where
  pub up : Rising (trace (σ ++ s ∷ []))
  pub fits : (j : ℕ) → j < length (σ ++ s ∷ []) → Fits (get_or (σ ++ s ∷ []) j blank)
  pub some : 0 < length rows
  pub begun : low ≤ length σ
  pub room : length σ < low + length rows
  pub put : rows' ≡ set rows (length σ % length rows) s
  pub mirror : (p : ℕ) → low ≤ p → p < length σ → get_or rows (p % length rows) blank ≡ get_or σ p blank
  pub last_is : 0 < length σ → last ≡ newest (trace σ)
  pub gone : (q : ℕ) → q < low → stamp_at σ q + span (rule_formula rule) ≤ newest (trace σ)
  pub showed : (p : ℕ) → low ≤ p → p < length σ → cell_at cells (length rows) (last_node rule) p ≡ kept_ends ops (shown ops read (rule_formula rule) σ p)

module _ {V : Type 0} {ops : Ops V} {read : ℕ → ℕ → V} {rule : Rule} {σ : List SampleRow} {s : SampleRow} {rows rows' : List SampleRow} {cells : List Cell} {low last : ℕ} (P : Put ops read rule σ s rows rows' cells low last) where
  abbrev σ' : List SampleRow
  σ' = σ ++ s ∷ []

  abbrev A : Formula
  A = rule_formula rule

  size : length (σ ++ s ∷ []) ≡ length σ + 1
  size = length-append σ (s ∷ [])

  pub as_long : length rows' ≡ length rows
  as_long = ap length P.put ∙ length-set _ _ _

  -- the rows have the longer capture
  pub mirrored : (p : ℕ) → low ≤ p → p < length (σ ++ s ∷ []) → get_or rows' (p % length rows) blank ≡ get_or (σ ++ s ∷ []) p blank
  mirrored p a b =
      let n = size in
      let room = P.room in
      let m = mod-lt (length σ) P.some in
      rw P.put (grind (arith, common_steps, P.mirror p a, get_or-append σ (s ∷ []) blank p, get_or_push σ s blank p, apart (length rows) p (length σ), get_or-set_other rows (length σ % length rows) (p % length rows) s blank, get_or-set_same rows (length σ % length rows) s blank m))

  pub row_there : (p : ℕ) → low ≤ p → p < length (σ ++ s ∷ []) → row_at rows' p ≡ get_or (σ ++ s ∷ []) p blank
  row_there p a b =
      ap (λ n. clamped (get_or rows' (p % n) blank)) as_long ∙ ap clamped (mirrored p a b) ∙ row_stays (get_or (σ ++ s ∷ []) p blank) (P.fits p b)

  stamp_there : (p : ℕ) → low ≤ p → p < length (σ ++ s ∷ []) → (row_at rows' p).stamp ≡ stamp_at (σ ++ s ∷ []) p
  stamp_there p a b = ap (λ r. r.stamp) (row_there p a b)

  -- a window of the rows is the end of the capture
  tail : (first : ℕ) → low ≤ first → first ≤ length σ → Tail first (trace (σ ++ s ∷ [])) (window rows' first (length σ + 1 - first))
  tail first a b =
      let n = size in
      record {
        sizes = omega arith;
        stamps = λ k l. sym (stamp_there (first + k) (omega arith) (omega arith));
        codes = λ k ch l. sym (ap (λ r. get_or r.codes ch 0) (row_there (first + k) (omega arith) (omega arith)));
        up = λ i k l r.
            let u = rising (trace (σ ++ s ∷ [])) P.up (first + i) (first + k) (omega arith) (omega arith) in
            let x = stamp_there (first + i) (omega arith) (omega arith) in
            let y = stamp_there (first + k) (omega arith) (omega arith) in
            omega arith;
      }

  -- a position whose wait was over keeps its ends
  ends_stay : Laws ops → (p : ℕ) → p < length σ → stamp_at σ p + wait (rule_formula rule) ≤ newest (trace σ) → shown ops read (rule_formula rule) σ p ≡ shown ops read (rule_formula rule) (σ ++ s ∷ []) p
  ends_stay laws p l over =
      let e = Settle.settled laws read (trace σ) (rising_first σ (s ∷ []) P.up) (rule_formula rule) p l over in
      sym (stays_settled laws read (rule_formula rule) σ (s ∷ []) p P.up l (e.0 ∙ sym e.1))

  module _ (laws : Laws ops) {taken count : ℕ} {cells' : List Cell} (R : Refreshed ops read rule rows' low (length σ) taken last cells cells' count) where
    abbrev first : ℕ
    first = R.first

    abbrev from : ℕ
    from = R.from

    -- before the window every stamp is at least the span before the newest
    far : (q : ℕ) → q < R.first → stamp_at (σ ++ s ∷ []) q + span (rule_formula rule) ≤ newest (trace σ)
    far q l =
        let n = size in
        let to = R.window.to in
        let x = stamp_old σ (s ∷ []) q (omega arith) in
        grind (arith, P.gone q, R.window.past q, stamp_there q, P.last_is)

    -- before the first position that is computed anew the wait was over
    pub waited : (p : ℕ) → low ≤ p → p < R.from → stamp_at σ p + wait (rule_formula rule) ≤ newest (trace σ)
    waited p a l =
        let n = size in
        let to = R.waiting.to in
        let x = stamp_old σ (s ∷ []) p (omega arith) in
        let z = stamp_there p a (omega arith) in
        grind (arith, R.window.past p a, R.waiting.past p, P.last_is)

    -- from there on the newest stamp was less than the wait later
    late : (p : ℕ) → R.from ≤ p → p < length (σ ++ s ∷ []) → 0 < length σ → newest (trace σ) < stamp_at (σ ++ s ∷ []) p + wait (rule_formula rule)
    late p a b some =
        let n = size in
        let w₁ = R.window.from in
        let w₂ = R.waiting.from in
        let w₃ = R.waiting.to in
        let t = P.last_is some in
        let x = stamp_old σ (s ∷ []) (length σ - 1) (omega arith) in
        grind (arith, R.waiting.next, stamp_there R.from, rising (trace (σ ++ s ∷ [])) P.up R.from p a b, P.up (length σ - 1) p)

    stays : (p : ℕ) → low ≤ p → p < R.from → cell_at cells' (length rows) (last_node rule) p ≡ cell_at cells (length rows) (last_node rule) p
    stays p a l =
        let w₁ = R.window.from in
        let w₂ = R.waiting.from in
        let w₃ = R.waiting.to in
        let room = P.room in
        let C = length rows' in
        let long = as_long in
        let rest = R.evaluated.rest (place (length rows') (last_node rule) p)
        (λ b k x y e. place_earlier (length rows') b (last_node rule) (R.first + k) p (let z = P.some in omega arith) x (sym e))
        (λ k x y e. place_apart (length rows') (last_node rule) p (R.first + k) (omega arith) (omega arith) e) in
        ap (λ n. cell_at cells' n (last_node rule) p) (sym as_long) ∙ rest ∙ ap (λ n. cell_at cells n (last_node rule) p) as_long

    anew : (p : ℕ) → R.from ≤ p → p < length (σ ++ s ∷ []) → cell_at cells' (length rows) (last_node rule) p ≡ kept_ends ops (shown ops read (rule_formula rule) (σ ++ s ∷ []) p)
    anew p a b =
        let n = size in
        let w₁ = R.window.from in
        let w₂ = R.window.to in
        let w₃ = R.waiting.from in
        let k = p - R.first in
        let at : R.first + (p - R.first) ≡ p = omega arith in
        let T = tail R.first w₁ w₂ in
        let clear : (q : ℕ) → q < R.first → stamp_at (σ ++ s ∷ []) q + reach (rule_formula rule) < (window rows' R.first (length σ + 1 - R.first)).stamp (p - R.first) = λ q l.
        let x = far q l in
        let y = late p a b (omega arith) in
        let z = stamp_there (R.first + (p - R.first)) (omega arith) (omega arith) in
        let t : stamp_at (σ ++ s ∷ []) (R.first + (p - R.first)) ≡ stamp_at (σ ++ s ∷ []) p = ap (stamp_at (σ ++ s ∷ [])) at in
        omega arith in
        let f = found laws read R.first (trace (σ ++ s ∷ [])) (window rows' R.first (length σ + 1 - R.first)) T (rule_formula rule) (p - R.first) (omega arith) clear in
        let cell = R.evaluated.last T.up (p - R.first) (omega arith) (omega arith) in
        ap (λ c. cell_at cells' c (last_node rule) p) (sym as_long)
        ∙ ap (cell_at cells' (length rows') (last_node rule)) (sym at)
        ∙ cell
        ∙ ap₂ (λ x y. kept_ends ops (record { low = x; high = y })) (sym f.0) (sym f.1)
        ∙ ap (λ q. kept_ends ops (shown ops read (rule_formula rule) (σ ++ s ∷ []) q)) at

    pub fresh : (p : ℕ) → low ≤ p → p < length (σ ++ s ∷ []) → cell_at cells' (length rows) (last_node rule) p ≡ kept_ends ops (shown ops read (rule_formula rule) (σ ++ s ∷ []) p)
    fresh p a b =
        ⊎_elim
        (λ (c : p < R.from).
        let to = R.waiting.to in
        stays p a c ∙ P.showed p a (omega arith) ∙ ap (kept_ends ops) (ends_stay laws p (omega arith) (waited p a c)))
        (λ (c : R.from ≤ p). anew p c b)
        (cases_lt p R.from)
