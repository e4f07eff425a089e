-- The table of refusals: each has a number and a word, and a source's fault its own number and place. Assumes nothing.
use Rattle.std.specs.Prelude.{ℕ, List, ◌++◌, codes, decimal}
use Rattle.refusal.specs.declared.Misfit.{Misfit}
use Rattle.refusal.specs.declared.Refusal.{Refusal}
use Rattle.refusal.specs.declared.Refusal.TheVariants as refusal

pub record Entry : Type 0 where
  pub number : ℕ
  pub word : List ℕ
  pub place : ℕ

abbrev entry : ℕ → List ℕ → Entry
entry n w = record { number = n; word = w; place = 0 }

abbrev pub table : Refusal → Entry
table refusal.Cut = entry 1 (codes "cut")
table refusal.Surplus = entry 2 (codes "surplus")
table refusal.Count = entry 3 (codes "count")
table refusal.Node = entry 4 (codes "node")
table refusal.Span = entry 5 (codes "span")
table refusal.Range = entry 6 (codes "range")
table refusal.Armed = entry 7 (codes "armed")
table refusal.Memory = entry 8 (codes "memory")
table refusal.Idle = entry 9 (codes "idle")
table refusal.Full = entry 10 (codes "full")
table refusal.Dry = entry 11 (codes "dry")
table refusal.Backward = entry 12 (codes "backward")
table refusal.Unseen = entry 13 (codes "unseen")
table refusal.Gone = entry 14 (codes "gone")
table refusal.Open = entry 15 (codes "open")
table refusal.Bare = entry 16 (codes "bare")
table refusal.TrayFull = entry 17 (codes "tray full")
table refusal.TrayEmpty = entry 18 (codes "tray empty")
table refusal.Pattern = entry 19 (codes "pattern")
table (refusal.Fault f) = record { number = f.number; word = codes "fault"; place = f.place }

abbrev pub number_of : Refusal → ℕ
number_of r = (table r).number

abbrev pub word_of : Refusal → List ℕ
word_of r = (table r).word

abbrev pub place_of : Refusal → ℕ
place_of r = (table r).place

-- the line that tells of a misfit
abbrev pub misfit_text : Misfit → List ℕ
misfit_text m = codes "refused " ++ (decimal (number_of m.refusal) ++ (codes " at " ++ (decimal m.place ++ (codes ": " ++ word_of m.refusal))))
