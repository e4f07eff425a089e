-- How a call keeps its promise: refused, by its tests on memory alone; accepted, by what it did. Assumes nothing.
use Rattle.std.proofs.Common.{◌≡◌, ℕ, length, Some, None, Option, sym, refl, ap, ◌∙◌, subst, length-set}
use Rattle.scale.specs.Laws.{Ops, Laws}
use Rattle.world.specs.Steps.{answered, changed, outcome, step}
use Rattle.world.specs.Tests.{call_refusal}
use Rattle.world.specs.World.{World}
use Rattle.world.specs.declared.answer.Answer.{Answer}
use Rattle.world.specs.declared.answer.Answer.TheVariants as answer
use Rattle.world.specs.declared.call.Call.{Call}
use Rattle.world.specs.declared.call.Call.TheVariants.{Arm, Draw, Look, Alarm, Take, Pull}
use Rattle.world.specs.declared.refused.Refused.{Refused}
use Rattle.watch.specs.Calls.{Accepted, Promise}
use Rattle.watch.specs.Memory.{Memory, facts_of, sizes}
use Rattle.watch.specs.Stands.{Stands, Follows}
use Rattle.watch.proofs.Agree.{agrees}

-- an accepted call changes no length
module _ {V : Type 0} (ops : Ops V) (m m' : Memory V) (a : Answer V) where
  lengths_from : length m'.strip.rows ≡ length m.strip.rows → length m'.cells ≡ length m.cells → length m'.tray.rows ≡ length m.tray.rows → sizes m' ≡ sizes m
  lengths_from p q r = λ i. record { places = p i; cells = q i; tray_places = r i }

  lengths_stay : (c : Call) → Accepted ops c m m' a → sizes m' ≡ sizes m
  lengths_stay (Arm rule) d = lengths_from (ap (λ r. length r.rows) d.strip_stays) (ap length d.cells_stay) (ap (λ r. length r.rows) d.tray_stays)
  lengths_stay Draw d = lengths_from (ap (λ r. length r.rows) d.strip_is ∙ length-set _ _ _) d.cells_long (ap (λ r. length r.rows) d.tray_stays)
  lengths_stay (Look p) d = ap sizes d.1
  lengths_stay Alarm d = ap sizes d.1
  lengths_stay Take d = lengths_from (ap (λ r. length r.rows) d.strip_is) (ap length d.cells_stay) (ap (λ r. length r.rows) d.tray_is ∙ length-set _ _ _)
  lengths_stay Pull d = lengths_from (ap (λ r. length r.rows) d.strip_stays) (ap length d.cells_stay) (ap (λ r. length r.rows) d.tray_is)

module _ {V : Type 0} {ops : Ops V} (laws : Laws ops) (read : ℕ → ℕ → V) (c : Call) (m m' : Memory V) (a : Answer V) where
  -- memory follows the model if it does at the outcome of its own tests
  follows : ((w : World V) → Stands ops read w m → (a ≡ (outcome ops read (sizes m) c w (call_refusal c (facts_of ops c m))).1) × Stands ops read (outcome ops read (sizes m) c w (call_refusal c (facts_of ops c m))).0 m') → Follows ops read c m m' a
  unfolding step
  follows f w s =
      subst (λ o. (a ≡ (outcome ops read (sizes m) c w o).1) × Stands ops read (outcome ops read (sizes m) c w o).0 m') (sym (agrees laws read w m s c)) (f w s)

  pub accepted_promise : call_refusal c (facts_of ops c m) ≡ None → Accepted ops c m m' a → ((w : World V) → Stands ops read w m → (a ≡ answered ops read c w) × Stands ops read (changed ops read (sizes m) c w) m') → Promise ops read c m m' a
  accepted_promise e does stands = record {
    refused = λ why f. absurd (cc);
    accepted = λ _. does;
    lengths = lengths_stay ops m m' a c does;
    standing = follows (λ w s. subst (λ o. (a ≡ (outcome ops read (sizes m) c w o).1) × Stands ops read (outcome ops read (sizes m) c w o).0 m') (sym e) (stands w s));
  }

  -- a refused call, with the memory after it as an equation
  pub same_promise : (why : Refused) → call_refusal c (facts_of ops c m) ≡ Some why → a ≡ answer.Refused why → m' ≡ m → Promise ops read c m m' a
  same_promise why e says same = record {
    refused = λ why' f. let x : a ≡ answer.Refused why' = cc in (x, same);
    accepted = λ f. absurd (cc);
    lengths = ap sizes same;
    standing = follows (λ w s. subst (λ o. (a ≡ (outcome ops read (sizes m) c w o).1) × Stands ops read (outcome ops read (sizes m) c w o).0 m') (sym e) (says, subst (Stands ops read w) (sym same) s));
  }

  pub promised : ((why : Refused) → call_refusal c (facts_of ops c m) ≡ Some why → (a ≡ answer.Refused why) × (m' ≡ m)) → (call_refusal c (facts_of ops c m) ≡ None → Accepted ops c m m' a) → (call_refusal c (facts_of ops c m) ≡ None → (w : World V) → Stands ops read w m → (a ≡ answered ops read c w) × Stands ops read (changed ops read (sizes m) c w) m') → Promise ops read c m m' a
  promised refused does stands = by (call_refusal c (facts_of ops c m)) refl
    where
      by : (o : Option Refused) → call_refusal c (facts_of ops c m) ≡ o → Promise ops read c m m' a
      by None e = accepted_promise e (does e) (stands e)
      by (Some why) e = same_promise why e (refused why e).0 (refused why e).1

module _ {V : Type 0} {ops : Ops V} (laws : Laws ops) (read : ℕ → ℕ → V) where
  -- a refused call leaves memory as it is
  pub refused_promise : (c : Call) (m : Memory V) (a : Answer V) (why : Refused) → call_refusal c (facts_of ops c m) ≡ Some why → a ≡ answer.Refused why → Promise ops read c m m a
  refused_promise c m a why e says = same_promise laws read c m m a why e says refl
