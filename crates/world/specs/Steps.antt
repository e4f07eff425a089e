-- The transitions of the model: what each call answers and changes. Assumes nothing.
use Rattle.std.specs.Prelude.{ℕ, zero, suc, ◌+◌, ◌-◌, Bool, false, cond, not, ◌&&◌, ◌||◌, List, [], ◌∷◌, ◌++◌, map, length, is_some, Some, None, Option, ◌==◌, nat_le, nat_lt, slice_index, slice_index_or}
use Rattle.scale.specs.Laws.{Ops}
use Rattle.logic.specs.Formula.{Formula, truth, span}
use Rattle.logic.specs.Meaning.{Ends, ends, settled_at, alarm_from}
use Rattle.logic.specs.Trace.{blank, trace, newest}
use Rattle.sample.specs.Coming.{rest}
use Rattle.sample.specs.declared.row.SampleRow.{SampleRow}
use Rattle.world.specs.Tests.{Facts, call_refusal, rule_formula, arm_fits, still_fits}
use Rattle.world.specs.World.{Sizes, Armed, World}
use Rattle.world.specs.declared.answer.Answer.{Answer}
use Rattle.world.specs.declared.answer.Answer.TheVariants as answer
use Rattle.world.specs.declared.call.Call.{Call}
use Rattle.world.specs.declared.call.Call.TheVariants.{Arm, Draw, Look, Alarm, Take, Pull}
use Rattle.world.specs.declared.reading.Reading.{Reading}
use Rattle.world.specs.declared.refused.Refused.{Refused}

-- how many numbers below n pass a test
unfoldable pub many : (ℕ → Bool) → ℕ → ℕ
many p zero = 0
many p (suc n) = cond (p n) (suc (many p n)) (many p n)

-- whether a stamp comes later than the last of these, if there is one
unfoldable pub later : List ℕ → ℕ → Bool
later stamps t = length stamps == 0 || nat_lt (slice_index stamps (length stamps - 1)) t

abbrev pub stamp_at : List SampleRow → ℕ → ℕ
stamp_at σ j = (trace σ).stamp j

-- with this capture and so many taken: no take has answered position j yet, or the newest stamp has not come the span beyond it
unfoldable pub held_of : Formula → List SampleRow → ℕ → ℕ → Bool
held_of A σ taken j = nat_lt j (length σ) && (nat_le taken j || nat_lt (newest (trace σ)) (stamp_at σ j + span A))

-- the formula of the rule; that of a watch never armed is true
abbrev pub formula_armed : Option Armed → Formula
formula_armed None = truth
formula_armed (Some a) = rule_formula a.rule

abbrev pub places_armed : Option Armed → ℕ
places_armed None = 0
places_armed (Some a) = a.places

abbrev pub fits_armed : Option Armed → Sizes → Bool
fits_armed None s = false
fits_armed (Some a) s = still_fits a.rule a.places s

module _ {V : Type 0} where
  abbrev pub rule_in : World V → Formula
  rule_in w = formula_armed w.armed

  abbrev pub accepted : World V → ℕ
  accepted w = length w.capture

  -- C: the places of the strip that it was armed with
  abbrev pub places_in : World V → ℕ
  places_in w = places_armed w.armed

  abbrev pub held : World V → ℕ → Bool
  held w = held_of (rule_in w) w.capture w.taken

  abbrev pub held_count : World V → ℕ
  held_count w = many (held w) (accepted w)

  -- the source's first sample
  abbrev pub next_sample : World V → SampleRow
  next_sample w = slice_index_or w.coming.samples 0 blank

  abbrev pub sample_stamps : World V → List ℕ
  sample_stamps w = map (λ (x : SampleRow). x.stamp) w.capture

  -- the stamps that the tray ever took
  abbrev pub reading_stamps : World V → List ℕ
  reading_stamps w = map (λ (r : Reading V). r.stamp) (w.pulled ++ w.tray)

  -- the memory fits: for arm another question than for the other calls, for which the strip has counted what was accepted
  abbrev pub fits_in : Sizes → Call → World V → Bool
  fits_in s (Arm rule) w = arm_fits rule s (accepted w)
  fits_in s _ w = fits_armed w.armed s

-- the position that a call speaks of
abbrev pub position_of : Call → ℕ
position_of (Look p) = p
position_of _ = 0

module _ {V : Type 0} (ops : Ops V) (read : ℕ → ℕ → V) where
  -- the two ends of a formula at position j of a capture, and whether they are the same
  abbrev pub shown : Formula → List SampleRow → ℕ → Ends V
  shown A σ j = ends ops read (trace σ) A j

  abbrev pub settled : Formula → List SampleRow → ℕ → Bool
  settled A σ j = settled_at ops read (trace σ) A j

  -- how many positions, from the oldest untaken to the new one, have equal ends with sample s and had not without it
  abbrev pub newly : World V → SampleRow → ℕ
  newly w s =
      many (λ j. nat_le w.taken j && (settled (rule_in w) (w.capture ++ s ∷ []) j && not (nat_lt j (accepted w) && settled (rule_in w) w.capture j)))
      (suc (accepted w))

  -- the first position, from the oldest untaken on, whose upper bound fails
  abbrev pub alarming : World V → Option ℕ
  alarming w = alarm_from ops read (trace w.capture) (rule_in w) w.taken

  abbrev pub with_stamp : List SampleRow → Option ℕ → Option (ℕ × ℕ)
  with_stamp σ None = None
  with_stamp σ (Some p) = Some (p, stamp_at σ p)

  -- the reading of the oldest untaken position; taken where both ends are the same, it has their value
  abbrev pub reading_in : World V → Reading V
  reading_in w = record { position = w.taken; stamp = stamp_at w.capture w.taken; value = (shown (rule_in w) w.capture w.taken).low }

  -- the tray's oldest reading
  abbrev pub oldest : World V → Reading V
  oldest w = slice_index_or w.tray 0 (reading_in w)

  abbrev pub facts_in : Sizes → Call → World V → Facts
  facts_in s c w = record {
    armed = is_some w.armed;
    fits = fits_in s c w;
    full = (held_count w == places_in w);
    coming = w.coming;
    later = later (sample_stamps w) (next_sample w).stamp;
    seen = nat_lt (position_of c) (accepted w);
    held = held w (position_of c);
    untaken = nat_lt w.taken (accepted w);
    settled = settled (rule_in w) w.capture w.taken;
    tray_free = nat_lt (length w.tray) s.tray_places;
    tray_later = later (reading_stamps w) (reading_in w).stamp;
    tray_some = nat_lt 0 (length w.tray);
  }

  -- what an accepted call answers
  abbrev pub answered : Call → World V → Answer V
  answered (Arm rule) w = answer.Armed
  answered Draw w = answer.Drew (record { position = accepted w; settled = newly w (next_sample w) })
  answered (Look p) w = answer.Showed (record { low = (shown (rule_in w) w.capture p).low; high = (shown (rule_in w) w.capture p).high })
  answered Alarm w = answer.Alarmed (with_stamp w.capture (alarming w))
  answered Take w = answer.Took w.taken
  answered Pull w = answer.Pulled (oldest w)

  -- what an accepted call changes
  abbrev pub changed : Sizes → Call → World V → World V
  changed s (Arm rule) w = record w { armed = Some (record { rule = rule; places = s.places }) }
  changed s Draw w = record w { capture = w.capture ++ next_sample w ∷ []; coming = rest w.coming }
  changed s (Look p) w = w
  changed s Alarm w = w
  changed s Take w = record w { taken = suc w.taken; tray = w.tray ++ reading_in w ∷ [] }
  changed s Pull w = record w { pulled = w.pulled ++ oldest w ∷ []; tray = elim w.tray [ [] ↦ [] | r ∷ rs ↦ rs ] }

  -- a refusal changes nothing
  abbrev pub outcome : Sizes → Call → World V → Option Refused → World V × Answer V
  outcome s c w None = (changed s c w, answered c w)
  outcome s c w (Some why) = (w, answer.Refused why)

  unfoldable pub step : Sizes → Call → World V → World V × Answer V
  step s c w = outcome s c w (call_refusal c (facts_in s c w))

  -- the world after a list of calls, and the answers to them
  unfoldable pub after : Sizes → List Call → World V → World V
  after s [] w = w
  after s (c ∷ cs) w = after s cs (step s c w).0

  unfoldable pub answers : Sizes → List Call → World V → List (Answer V)
  answers s [] w = []
  answers s (c ∷ cs) w = (step s c w).1 ∷ answers s cs (step s c w).0
