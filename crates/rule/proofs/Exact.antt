-- Rows of a rule are refused by none of the tests, and other rows by one. Assumes nothing.
use Rattle.std.proofs.Common.{◌≡◌, List, map, length, get_or, Ok, Err, sym, refl, ap, ◌∙◌, inl, inr, arith, length-take}
use lib.ListN.{get_or-map}
use Rattle.std.proofs.lemmas.List.{length-map}
use Rattle.refusal.specs.declared.Misfit.{Misfit}
use Rattle.logic.specs.Formula.{span}
use Rattle.rule.specs.Made.{nodes_of, Refused, wrong_count, no_node, too_far, Exactly}
use Rattle.rule.specs.Rows.{row_of}
use Rattle.rule.specs.Tables.{formula}
use Rattle.rule.specs.declared.node.Node.TheVariants.{True}
use Rattle.rule.specs.declared.node.NodeRow.{NodeRow}
use Rattle.rule.specs.declared.rule.Rule.{Rule}
use Rattle.rule.proofs.Back.{same_nodes}
use Rattle.rule.proofs.Sole.{sole}

module _ (rows : List NodeRow) (r : Rule) (e : map row_of (nodes_of r) ≡ rows) where
  long : length rows ≡ r.count
  long = sym (ap length e) ∙ length-map (nodes_of r) row_of ∙ simp length-take (let h = r.held in omega arith)

  pub never : (m : Misfit) → Refused rows m → ⊥
  never m (wrong_count _ (inl z)) = let l = long in let s = r.some in omega arith
  never m (wrong_count _ (inr z)) = let l = long in let s = r.few in omega arith
  never m (no_node i _ _ h _ n) =
      n (get_or (nodes_of r) i True, sym (get_or-map row_of (nodes_of r) i True) ∙ ap (λ t. get_or t i (row_of True)) e, r.sound i (let l = long in let w = r.held in simp length-take (omega arith)))
  never m (too_far ns _ _ _ e' _ h) =
      let s = ap (λ t. span (formula t)) (same_nodes ns (nodes_of r) (e' ∙ sym e)) in
      let a = r.waits in let b = r.reaches in let c = r.near in omega arith

pub refused : (rows : List NodeRow) (m : Misfit) → Refused rows m → Exactly rows (Err m)
refused rows m why = record { makes = λ r e. absurd (never rows r e m why); refuses = λ n other. ap Err (sole rows m n why other) }

pub made : (rows : List NodeRow) (r : Rule) → map row_of (nodes_of r) ≡ rows → Exactly rows (Ok r)
made rows r e = record { makes = λ _ _. refl; refuses = λ m why. absurd (never rows r e m why) }
