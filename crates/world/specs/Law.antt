-- What an owner may rely on, whatever calls he makes on objects that were unused. "At all times" is "after every list of calls", since
-- the first calls of a list are a list. Assumes nothing.
use Rattle.std.specs.Prelude.{◌≡◌, ℕ, suc, ◌+◌, ◌-◌, ◌<◌, ◌≤◌, Bool, true, false, List, [], ◌∷◌, ◌++◌, map, length, Some, None, ◌≢◌}
use Rattle.std.specs.List.{range_with_len, AllByRecursion}
use Rattle.refusal.specs.declared.Refusal.TheVariants.{Full, Memory, Backward}
use Rattle.scale.specs.Laws.{Ops, Below}
use Rattle.logic.specs.Formula.{Formula, wait}
use Rattle.logic.specs.Meaning.{plain}
use Rattle.logic.specs.Theorems.{Coded, Continues, Waited}
use Rattle.logic.specs.Trace.{trace, newest, Rising}
use Rattle.rule.specs.declared.rule.Rule.{Rule}
use Rattle.sample.specs.Coming.{Coming}
use Rattle.sample.specs.declared.row.SampleRow.{SampleRow}
use Rattle.world.specs.Steps.{rule_in, places_in, next_sample, many, accepted, held, held_count, stamp_at, shown, settled, step, after, answers}
use Rattle.world.specs.Tests.{watch_refuses}
use Rattle.world.specs.World.{Sizes, World, unused}
use Rattle.world.specs.declared.answer.Answer.{Answer}
use Rattle.world.specs.declared.answer.Answer.TheVariants.{Drew, Showed, Alarmed, Took, Pulled, Refused}
use Rattle.world.specs.declared.answer.Drawn.{Drawn}
use Rattle.world.specs.declared.call.Call.{Call}
use Rattle.world.specs.declared.call.Call.TheVariants.{Arm, Draw, Look, Alarm, Take, Pull}
use Rattle.world.specs.declared.reading.Reading.{Reading}
use Rattle.world.specs.declared.refused.Refused.{Refused as Why}

-- with more, the capture σ goes on lawfully, and runs the wait of A beyond position p
pub record RunsBeyond (A : Formula) (σ : List SampleRow) (p : ℕ) (more : List SampleRow) : Type 0 where
  pub lawful : Continues σ more
  pub waited : Waited A (σ ++ more) p

module _ {V : Type 0} where
  -- how many draws were accepted, by the answers
  unfoldable pub draws : List (Answer V) → ℕ
  draws [] = 0
  draws (Drew d ∷ xs) = suc (draws xs)
  draws (_ ∷ xs) = draws xs

  -- how many takes
  unfoldable pub takes : List (Answer V) → ℕ
  takes [] = 0
  takes (Took p ∷ xs) = suc (takes xs)
  takes (_ ∷ xs) = takes xs

  -- the sum of the counts that the accepted draws answered
  unfoldable pub counted : List (Answer V) → ℕ
  counted [] = 0
  counted (Drew d ∷ xs) = d.settled + counted xs
  counted (_ ∷ xs) = counted xs

  -- the readings that the accepted pulls answered
  unfoldable pub pulls : List (Answer V) → List (Reading V)
  pulls [] = []
  pulls (Pulled r ∷ xs) = r ∷ pulls xs
  pulls (_ ∷ xs) = pulls xs

  -- the sample, if the answer says that a draw was accepted
  abbrev pub if_drew : Answer V → SampleRow → List SampleRow
  if_drew (Drew d) s = s ∷ []
  if_drew _ s = []

  -- the positions that no take answered
  abbrev pub untaken : World V → List ℕ
  untaken w = range_with_len w.taken (accepted w - w.taken)

module _ {V : Type 0} (ops : Ops V) (read : ℕ → ℕ → V) where
  -- what the source offered at each draw that was accepted
  unfoldable pub peeked : Sizes → List Call → World V → List SampleRow
  peeked s [] w = []
  peeked s (c ∷ cs) w = if_drew (step ops read s c w).1 (next_sample w) ++ peeked s cs (step ops read s c w).0

  -- how many positions are settled
  abbrev pub settled_count : World V → ℕ
  settled_count w = many (settled ops read (rule_in w) w.capture) (accepted w)

  -- whether the high end at p passes
  abbrev pub high_passes : World V → ℕ → Bool
  high_passes w p = ops.passes (shown ops read (rule_in w) w.capture p).high

  -- the true value at p in a continuation
  abbrev pub true_value : Formula → List SampleRow → List SampleRow → ℕ → V
  true_value A σ more p = plain ops read (trace (σ ++ more)) A p

  -- a reading has the stamp of its position, and in every lawful continuation that runs the wait beyond it the true value there
  pub record Reads (A : Formula) (σ : List SampleRow) (r : Reading V) : Type 0 where
    pub seen : r.position < length σ
    pub stamp_is : r.stamp ≡ stamp_at σ r.position
    pub value_is : (more : List SampleRow) → RunsBeyond A σ r.position more → r.value ≡ true_value A σ more r.position

module _ {V : Type 0} (ops : Ops V) (read : ℕ → ℕ → V) (s : Sizes) (source : Coming) where
  -- the world after these calls on unused objects, the answer to a call made then, and all the answers so far
  abbrev pub world : List Call → World V
  world cs = after ops read s cs (unused source)

  abbrev pub answer : List Call → Call → Answer V
  answer cs c = (step ops read s c (world cs)).1

  abbrev pub got : List Call → List (Answer V)
  got cs = answers ops read s cs (unused source)

  -- there is such a continuation at every accepted position, of rows with codes as samples have: nothing is said of an empty set
  abbrev pub GoesOn : Type 0
  GoesOn =
      (cs : List Call) (p : ℕ) →
      p < accepted (world cs) →
      (more : List SampleRow) × AllByRecursion Coded more × RunsBeyond (rule_in (world cs)) (world cs).capture p more

  -- look shows bounds at every held position, and the true value of each such continuation lies between them
  abbrev pub Encloses : Type 0
  Encloses =
      (cs : List Call) (p : ℕ) →
      held (world cs) p ≡ true →
      (low : V) × (high : V) × (answer cs (Look p) ≡ Showed (record { low = low; high = high })) ×
      ((more : List SampleRow) →
      RunsBeyond (rule_in (world cs)) (world cs).capture p more →
      Below ops low (true_value ops read (rule_in (world cs)) (world cs).capture more p)
      × Below ops (true_value ops read (rule_in (world cs)) (world cs).capture more p) high)

  -- as the capture grows, the lower bound of a position never falls and the upper bound never rises
  abbrev pub Narrows : Type 0
  Narrows =
      (cs ds : List Call) (p : ℕ) (low high low' high' : V) →
      answer cs (Look p) ≡ Showed (record { low = low; high = high }) →
      answer (cs ++ ds) (Look p) ≡ Showed (record { low = low'; high = high' }) →
      Below ops low low' × Below ops high' high

  -- position p is untaken, has stamp t, and passes in no such continuation; it is the lowest untaken one whose high end does not pass
  pub record Failing (cs : List Call) (p t : ℕ) : Type 0 where
    pub from_taken : (world cs).taken ≤ p
    pub seen : p < accepted (world cs)
    pub stamp_is : t ≡ stamp_at (world cs).capture p
    pub fails :
        (more : List SampleRow) →
        RunsBeyond (rule_in (world cs)) (world cs).capture p more →
        ops.passes (true_value ops read (rule_in (world cs)) (world cs).capture more p) ≡ false
    pub high_fails : high_passes ops read (world cs) p ≡ false
    pub lowest : (q : ℕ) → (world cs).taken ≤ q → q < p → high_passes ops read (world cs) q ≡ true

  -- what alarm names is such a position ..
  abbrev pub Alarms : Type 0
  Alarms = (cs : List Call) (p t : ℕ) → answer cs Alarm ≡ Alarmed (Some (p, t)) → Failing cs p t

  -- .. and where it names none, the high ends at all untaken positions pass
  abbrev pub Silent : Type 0
  Silent =
      (cs : List Call) →
      answer cs Alarm ≡ Alarmed None →
      (p : ℕ) →
      (world cs).taken ≤ p →
      p < accepted (world cs) →
      high_passes ops read (world cs) p ≡ true

  -- a position can be unsettled only while the newest stamp has not come the wait beyond it
  abbrev pub Prompt : Type 0
  Prompt =
      (cs : List Call) (p : ℕ) →
      p < accepted (world cs) →
      settled ops read (rule_in (world cs)) (world cs).capture p ≡ false →
      newest (trace (world cs).capture) < stamp_at (world cs).capture p + wait (rule_in (world cs))

  -- where the watch itself, and not its source, answers a draw with full, there is an untaken position, and the oldest is settled ..
  abbrev pub FullSettled : Type 0
  FullSettled =
      (cs : List Call) →
      answer cs Draw ≡ Refused (watch_refuses Full) →
      ((world cs).taken < accepted (world cs)) × (settled ops read (rule_in (world cs)) (world cs).capture (world cs).taken ≡ true)

  -- .. a take is accepted if the tray has a free place ..
  abbrev pub FullTakes : Type 0
  FullTakes =
      (cs : List Call) →
      answer cs Draw ≡ Refused (watch_refuses Full) →
      length (world cs).tray < s.tray_places →
      answer cs Take ≡ Took (world cs).taken

  -- .. which leaves one position fewer held than at the refusal, whatever calls other than takes came between
  abbrev pub FullFrees : Type 0
  FullFrees =
      (cs ds : List Call) (p : ℕ) →
      answer cs Draw ≡ Refused (watch_refuses Full) →
      takes (answers ops read s ds (world cs)) ≡ 0 →
      answer (cs ++ ds) Take ≡ Took p →
      (held_count (world (cs ++ ds)) ≡ held_count (world cs)) × (suc (held_count (world (cs ++ ds ++ Take ∷ []))) ≡ held_count (world cs))

  -- every drawn position is in one place: pulled, on the tray or untaken; put together in this order they are 0, 1, 2 and so on
  abbrev pub Counts : Type 0
  Counts =
      (cs : List Call) →
      map (λ (r : Reading V). r.position) (pulls (got cs)) ++ (map (λ (r : Reading V). r.position) (world cs).tray ++ untaken (world cs)) ≡ range_with_len 0 (draws (got cs))

  -- each of these readings is right
  abbrev pub Readings : Type 0
  Readings = (cs : List Call) → AllByRecursion (Reads ops read (rule_in (world cs)) (world cs).capture) (pulls (got cs) ++ (world cs).tray)

  -- an accepted draw and an accepted take answer how many were accepted before; an accepted pull answers the tray's oldest reading
  pub record Positions (cs : List Call) : Type 0 where
    pub drew : (d : Drawn) → answer cs Draw ≡ Drew d → d.position ≡ draws (got cs)
    pub took : (p : ℕ) → answer cs Take ≡ Took p → p ≡ takes (got cs)
    pub pulled : (r : Reading V) → answer cs Pull ≡ Pulled r → (world cs).tray ≡ r ∷ (world (cs ++ Pull ∷ [])).tray

  -- the capture is what the source offered, in order, with rising stamps; nothing of the source is lost or doubled, and its ending stays;
  -- the numbers are those of the calls that were accepted
  pub record Sampled (cs : List Call) : Type 0 where
    pub peeks : (world cs).capture ≡ peeked ops read s cs (unused source)
    pub rises : Rising (trace (world cs).capture)
    pub one_each : accepted (world cs) ≡ draws (got cs)
    pub taken_each : (world cs).taken ≡ takes (got cs)
    pub pulled_is : (world cs).pulled ≡ pulls (got cs)
    pub whole : (world cs).capture ++ (world cs).coming.samples ≡ source.samples
    pub ends_as : (world cs).coming.ending ≡ source.ending

  -- a refusal changes nothing
  abbrev pub Refusals : Type 0
  Refusals = (cs : List Call) (c : Call) (why : Why) → answer cs c ≡ Refused why → world (cs ++ c ∷ []) ≡ world cs

  -- an accepted draw counts by how many the settled positions grow ..
  abbrev pub SettledBy : Type 0
  SettledBy =
      (cs : List Call) (d : Drawn) →
      answer cs Draw ≡ Drew d →
      settled_count ops read (world (cs ++ Draw ∷ [])) ≡ settled_count ops read (world cs) + d.settled

  -- .. so that these counts add up to the settled positions
  abbrev pub Settlings : Type 0
  Settlings = (cs : List Call) → settled_count ops read (world cs) ≡ counted (got cs)

  -- the held positions are the last ones, and at most C
  abbrev pub LastHeld : Type 0
  LastHeld =
      (cs : List Call) (j k : ℕ) →
      held (world cs) j ≡ true →
      j ≤ k →
      k < accepted (world cs) →
      held (world cs) k ≡ true

  abbrev pub Room : Type 0
  Room = (cs : List Call) → held_count (world cs) ≤ places_in (world cs)

  -- the tray never holds more than its places
  abbrev pub TrayRoom : Type 0
  TrayRoom = (cs : List Call) → length (world cs).tray ≤ s.tray_places

  -- under one owner the memory always fits once the watch is armed: only arm is refused as memory
  abbrev pub FitsOn : Type 0
  FitsOn = (cs : List Call) (c : Call) → answer cs c ≡ Refused (watch_refuses Memory) → (rule : Rule) × (c ≡ Arm rule)

  -- and each reading is later than the last that the tray took: take is never refused as backward
  abbrev pub LaterOn : Type 0
  LaterOn = (cs : List Call) → answer cs Take ≢ Refused (watch_refuses Backward)

  -- what look and alarm say
  pub record Saying : Type 0 where
    pub goes_on : GoesOn
    pub encloses : Encloses
    pub narrows : Narrows
    pub alarms : Alarms
    pub silent : Silent

  -- when positions settle, and that a full watch can go on
  pub record GoingOn : Type 0 where
    pub prompt : Prompt
    pub full_settled : FullSettled
    pub full_takes : FullTakes
    pub full_frees : FullFrees

  -- every sample once, in order
  pub record Accounting : Type 0 where
    pub counts : Counts
    pub readings : Readings
    pub positions : (cs : List Call) → Positions cs
    pub samples : (cs : List Call) → Sampled cs

  -- what more is true
  pub record Besides : Type 0 where
    pub refusals : Refusals
    pub settled_by : SettledBy
    pub settlings : Settlings
    pub last_held : LastHeld
    pub room : Room
    pub tray_room : TrayRoom
    pub fits_on : FitsOn
    pub later_on : LaterOn

-- all of it, for all sizes of memory, every source and every list of calls
pub record Law {V : Type 0} (ops : Ops V) (read : ℕ → ℕ → V) : Type 0 where
  pub saying : (s : Sizes) (source : Coming) → Saying ops read s source
  pub going_on : (s : Sizes) (source : Coming) → GoingOn ops read s source
  pub accounting : (s : Sizes) (source : Coming) → Accounting ops read s source
  pub besides : (s : Sizes) (source : Coming) → Besides ops read s source
