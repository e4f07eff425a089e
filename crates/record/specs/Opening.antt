-- What opening a record answers. Assumes nothing.
use Rattle.std.specs.Prelude.{◌≡◌, ℕ, ◌+◌, ◌*◌, ◌<◌, ◌≤◌, true, ◌⊎◌, List, [], ◌++◌, map, length, is_ok, Ok, Err, Result}
use Rattle.refusal.specs.Table.{number_of}
use Rattle.refusal.specs.declared.Misfit.{Misfit}
use Rattle.refusal.specs.declared.Refusal.{Refusal}
use Rattle.refusal.specs.declared.Refusal.TheVariants as refusal
use Rattle.rule.specs.Limits.{most_nodes}
use Rattle.rule.specs.Made.{nodes_of, Refused}
use Rattle.rule.specs.Rows.{row_of}
use Rattle.rule.specs.declared.node.NodeRow.{NodeRow}
use Rattle.rule.specs.declared.rule.Rule.{Rule}
use Rattle.record.specs.Limits.{most_samples}
use Rattle.record.specs.Format.{one, nodes_then, samples_then}
use Rattle.record.specs.declared.opening.Opened.{Opened}

abbrev pub rows_of : Rule → List NodeRow
rows_of rule = map row_of (nodes_of rule)

-- the place after the nodes, where the count of samples stands, and the place where the samples start
abbrev pub after_nodes : Rule → ℕ
after_nodes rule = 1 + 7 * length (rows_of rule)

abbrev pub start_of : Rule → ℕ
start_of rule = 5 + 7 * length (rows_of rule)

-- the bytes are a record of this rule and so many samples
pub record Holds (bytes : List ℕ) (rule : Rule) (samples : ℕ) : Type 0 where
  pub body : List ℕ
  pub whole : bytes ≡ nodes_then (rows_of rule) (samples_then samples body)
  pub few : samples ≤ most_samples
  pub sixteen : length body ≡ 16 * samples

-- the bytes are the section of so many samples, and nothing more
pub record Samples (samples : ℕ) (bytes : List ℕ) : Type 0 where
  pub body : List ℕ
  pub whole : bytes ≡ samples_then samples body
  pub few : samples ≤ most_samples
  pub sixteen : length body ≡ 16 * samples

abbrev misfit_at : Refusal → ℕ → Misfit
misfit_at why place = record { refusal = why; place = place }

-- why rows are no rule, at the place of a byte
abbrev pub NoRule : List NodeRow → Misfit → Type 0
NoRule rows m = (why : Misfit) × Refused rows why × (m ≡ misfit_at why.refusal (1 + 7 * why.place))

-- why bytes at a place are not the section of the samples and nothing more: the first test that fails
pub data NoSamples (place : ℕ) (bytes : List ℕ) (m : Misfit) : Type 0 where
  no_sample_count : m ≡ misfit_at refusal.Cut place → length bytes < 4 → NoSamples place bytes m
  wrong_sample_count :
      (samples : ℕ) (body : List ℕ) →
      m ≡ misfit_at refusal.Count place →
      bytes ≡ samples_then samples body →
      most_samples < samples →
      NoSamples place bytes m
  samples_cut :
      (samples : ℕ) (body : List ℕ) →
      m ≡ misfit_at refusal.Cut (place + 4) →
      bytes ≡ samples_then samples body →
      samples ≤ most_samples →
      length body < 16 * samples →
      NoSamples place bytes m
  more_bytes :
      (samples : ℕ) (body : List ℕ) →
      m ≡ misfit_at refusal.Surplus (place + 4 + 16 * samples) →
      bytes ≡ samples_then samples body →
      samples ≤ most_samples →
      16 * samples < length body →
      NoSamples place bytes m

-- why bytes are no record: the first test that fails, from the front
pub data Broken (bytes : List ℕ) (m : Misfit) : Type 0 where
  no_count : m ≡ misfit_at refusal.Cut 0 → bytes ≡ [] → Broken bytes m
  wrong_count :
      (count : ℕ) (rest : List ℕ) →
      m ≡ misfit_at refusal.Count 0 →
      bytes ≡ one count ++ rest →
      (count ≡ 0) ⊎ (most_nodes < count) →
      Broken bytes m
  nodes_cut :
      (count : ℕ) (rest : List ℕ) →
      m ≡ misfit_at refusal.Cut 1 →
      bytes ≡ one count ++ rest →
      0 < count →
      count ≤ most_nodes →
      length rest < 7 * count →
      Broken bytes m
  no_rule :
      (rows : List NodeRow) (why : Misfit) (rest : List ℕ) →
      m ≡ misfit_at why.refusal (1 + 7 * why.place) →
      bytes ≡ nodes_then rows rest →
      0 < length rows →
      length rows ≤ most_nodes →
      Refused rows why →
      Broken bytes m
  no_samples : (rule : Rule) (rest : List ℕ) → bytes ≡ nodes_then (rows_of rule) rest → NoSamples (after_nodes rule) rest m → Broken bytes m

-- the answer, and the rule that the caller has then
abbrev pub Answered : List ℕ → Rule → Rule → Result Opened Misfit → Type 0
Answered bytes before rule (Ok o) = Holds bytes rule o.samples × (o.start ≡ start_of rule)
Answered bytes before rule (Err m) = Broken bytes m × (rule ≡ before)

-- and there is no other: a record is never refused, and other bytes by one refusal only
pub record Exactly (bytes : List ℕ) (a : Result Opened Misfit) : Type 0 where
  pub opens : (rule : Rule) (samples : ℕ) → Holds bytes rule samples → is_ok a ≡ true
  pub refuses : (m : Misfit) → Broken bytes m → a ≡ Err m

-- the opening test alone, with no caller's rule
abbrev pub Opens : List ℕ → Type 0
Opens bytes = (rule : Rule) × (samples : ℕ) × Holds bytes rule samples

-- what a reader of refusals reads of the answer, 0 if the bytes open
abbrev pub Told : (Misfit → ℕ) → List ℕ → ℕ → Type 0
Told read bytes n = (Opens bytes × (n ≡ 0)) ⊎ ((m : Misfit) × Broken bytes m × (n ≡ read m))

-- the number and the place of the answer, each 0 if the bytes open
abbrev pub NumberTold : List ℕ → ℕ → Type 0
NumberTold = Told (λ m. number_of m.refusal)

abbrev pub PlaceTold : List ℕ → ℕ → Type 0
PlaceTold = Told (λ m. m.place)
