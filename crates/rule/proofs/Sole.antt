-- Rows have one refusal at most. Assumes nothing.
use Rattle.std.proofs.Common.{◌≡◌, ℕ, ◌<◌, List, map, length, get_or, sym, ap, ◌∙◌, inl, inr, arith}
use lib.ListN.{get_or-map}
use Rattle.std.proofs.lemmas.List.{length-map}
use Rattle.refusal.specs.declared.Misfit.{Misfit}
use Rattle.rule.specs.Made.{Refused, Stands, wrong_count, no_node, too_far}
use Rattle.rule.specs.Rows.{row_of}
use Rattle.rule.specs.Tables.{Sound}
use Rattle.rule.specs.declared.node.Node.{Node}
use Rattle.rule.specs.declared.node.Node.TheVariants.{True}
use Rattle.rule.specs.declared.node.NodeRow.{NodeRow}

stands : (rows : List NodeRow) (ns : List Node) → map row_of ns ≡ rows → Sound ns → (i : ℕ) → i < length rows → Stands rows i
stands rows ns e s i h =
    (get_or ns i True, sym (get_or-map row_of ns i True) ∙ ap (λ t. get_or t i (row_of True)) e, s i (let l = sym (ap length e) ∙ length-map ns row_of in omega arith))

at_one : (rows : List NodeRow) (i k : ℕ) → ((j : ℕ) → j < i → Stands rows j) → (Stands rows i → ⊥) → ((j : ℕ) → j < k → Stands rows j) → (Stands rows k → ⊥) → i ≡ k
at_one rows i k b n b' n' =
    let x : i < k → ⊥ = λ h. n (b' i h) in
    let y : k < i → ⊥ = λ h. n' (b k h) in
    omega (arith, x, y)

pub sole : (rows : List NodeRow) (m m' : Misfit) → Refused rows m → Refused rows m' → m ≡ m'
sole rows m m' (wrong_count e c) (wrong_count e' c') = e ∙ sym e'
sole rows m m' (wrong_count e (inl c)) (no_node i e' l h b n) = absurd (omega arith)
sole rows m m' (wrong_count e (inr c)) (no_node i e' l h b n) = absurd (omega arith)
sole rows m m' (wrong_count e (inl c)) (too_far ns e' p l r s f) = absurd (omega arith)
sole rows m m' (wrong_count e (inr c)) (too_far ns e' p l r s f) = absurd (omega arith)
sole rows m m' (no_node i e l h b n) (wrong_count e' (inl c)) = absurd (omega arith)
sole rows m m' (no_node i e l h b n) (wrong_count e' (inr c)) = absurd (omega arith)
sole rows m m' (no_node i e l h b n) (no_node k e' l' h' b' n') =
    let z : i ≡ k = at_one rows i k b n b' n' in cc
sole rows m m' (no_node i e l h b n) (too_far ns e' p l' r s f) = absurd (n (stands rows ns r s i h))
sole rows m m' (too_far ns e p l r s f) (wrong_count e' (inl c)) = absurd (omega arith)
sole rows m m' (too_far ns e p l r s f) (wrong_count e' (inr c)) = absurd (omega arith)
sole rows m m' (too_far ns e p l r s f) (no_node i e' l' h b n) = absurd (n (stands rows ns r s i h))
sole rows m m' (too_far ns e p l r s f) (too_far ns' e' p' l' r' s' f') = e ∙ sym e'
