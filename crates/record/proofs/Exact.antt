-- A record is refused by none of the tests, and other bytes by one. Assumes nothing.
use Rattle.std.proofs.Common.{◌≡◌, ℕ, ◌+◌, ◌*◌, ◌<◌, ◌≤◌, List, [], ◌∷◌, ◌++◌, length, Some, None, Ok, Err, Option, Result, sym, refl, ap, ◌∙◌, subst, inl, inr, arith, length-append, length-take}
use Rattle.std.specs.Option.{MatchOption}
use Rattle.std.specs.Result.{result_err}
use Rattle.std.proofs.lemmas.List.{length-map}
use Rattle.refusal.specs.Table.{number_of}
use Rattle.refusal.specs.declared.Misfit.{Misfit}
use Rattle.rule.specs.Limits.{most_nodes}
use Rattle.rule.specs.Made.{nodes_of, Refused}
use Rattle.rule.specs.Made as made-why
use Rattle.rule.specs.Rows.{row_of}
use Rattle.rule.specs.declared.node.NodeRow.{NodeRow}
use Rattle.rule.specs.declared.rule.Rule.{Rule}
use Rattle.rule.proofs.Exact as made
use Rattle.rule.proofs.Sole as made-sole
use Rattle.record.specs.Format.{each, node_bytes, nodes_then, samples_then}
use Rattle.record.specs.Opening.{rows_of, after_nodes, Holds, NoSamples, Broken, Answered, Exactly, Opens, Told, no_count, wrong_count, nodes_cut, no_rule, no_samples, no_sample_count, wrong_sample_count, samples_cut, more_bytes}
use Rattle.record.specs.declared.opening.Opened.{Opened}
use Rattle.record.proofs.Sections.{length-nodes}

-- what bytes are written from is known from the bytes

node_known : (r s : NodeRow) (xs ys : List ℕ) → node_bytes r ++ xs ≡ node_bytes s ++ ys → (r ≡ s) × (xs ≡ ys)
node_known r s xs ys e = (grind arith, cc)

nodes_known : (rs ss : List NodeRow) (xs ys : List ℕ) → length rs ≡ length ss → each node_bytes rs ++ xs ≡ each node_bytes ss ++ ys → (rs ≡ ss) × (xs ≡ ys)
nodes_known [] [] xs ys l e = (refl, e)
nodes_known [] (s ∷ ss) xs ys l e = grind arith
nodes_known (r ∷ rs) [] xs ys l e = grind arith
nodes_known (r ∷ rs) (s ∷ ss) xs ys l e =
    let here = node_known r s (each node_bytes rs ++ xs) (each node_bytes ss ++ ys) e in
    let more = nodes_known rs ss xs ys (omega arith) here.1 in
    (cc (here.0, more.0), more.1)

then_known : (rs ss : List NodeRow) (xs ys : List ℕ) → nodes_then rs xs ≡ nodes_then ss ys → (rs ≡ ss) × (xs ≡ ys)
then_known rs ss xs ys e = nodes_known rs ss xs ys (cc) (cc)

four_known : (m n : ℕ) (xs ys : List ℕ) → samples_then m xs ≡ samples_then n ys → (m ≡ n) × (xs ≡ ys)
four_known m n xs ys e = (grind arith, cc)

-- a rule has rows, and not too many
rule_count : (rule : Rule) → (0 < length (rows_of rule)) × (length (rows_of rule) ≤ most_nodes)
rule_count rule =
    let count : length (rows_of rule) ≡ rule.count = length-map (nodes_of rule) row_of ∙ simp length-take (let w = rule.held in omega arith) in
    let some = rule.some in
    let few = rule.few in
    (omega arith, omega arith)

module _ (bytes : List ℕ) (rule : Rule) (samples : ℕ) (h : Holds bytes rule samples) where
  rest : List ℕ
  rest = samples_then samples h.body

  never_samples : (place : ℕ) (m : Misfit) → NoSamples place (samples_then samples h.body) m → ⊥
  never_samples place m r = grind (arith, four_known)

  pub never : (m : Misfit) → Broken bytes m → ⊥
  unfolding rest
  never m (no_count _ e) = grind arith
  never m (wrong_count n xs _ e z) = grind (arith, rule_count)
  never m (nodes_cut n xs _ e _ _ l) = grind (arith, length-nodes, length-append {A = ℕ})
  never m (no_rule rows why xs _ e _ _ r) = made.never rows rule (sym (then_known rows (rows_of rule) xs rest (sym e ∙ h.whole)).0) why r
  never m (no_samples other xs e r) =
      never_samples (after_nodes other) m (subst (λ t. NoSamples (after_nodes other) t m) (then_known (rows_of other) (rows_of rule) xs rest (sym e ∙ h.whole)).1 r)

-- two refusals of the same bytes are the same

sole_samples : (place : ℕ) (bytes : List ℕ) (m n : Misfit) → NoSamples place bytes m → NoSamples place bytes n → m ≡ n
sole_samples p bs m n a b = grind (arith, four_known)

pub sole : (bytes : List ℕ) (m n : Misfit) → Broken bytes m → Broken bytes n → m ≡ n
sole bytes m n (no_count x d) b = grind arith
sole bytes m n (wrong_count j a x d z) b = grind (arith, rule_count)
sole bytes m n (nodes_cut j a x d l f s) b = grind (arith, rule_count, length-nodes, length-append {A = ℕ})
sole bytes m n a (no_count y e) = grind arith
sole bytes m n a (wrong_count k b y e z) = grind (arith, rule_count)
sole bytes m n a (nodes_cut k b y e l f s) = grind (arith, rule_count, length-nodes, length-append {A = ℕ})
sole bytes m n (no_rule r v a x d _ _ p) (no_rule s w b y e _ _ q) =
    let same = (then_known r s a b (sym d ∙ e)).0 in
    x ∙ ap (λ (t : Misfit). record { refusal = t.refusal; place = 1 + 7 * t.place }) (made-sole.sole s v w (subst (λ t. Refused t v) same p) q) ∙ sym y
sole bytes m n (no_rule r v a _ d _ _ p) (no_samples rule b e _) = absurd (made.never r rule (sym (then_known r (rows_of rule) a b (sym d ∙ e)).0) v p)
sole bytes m n (no_samples rule a d _) (no_rule r v b _ e _ _ p) = absurd (made.never r rule (sym (then_known r (rows_of rule) b a (sym e ∙ d)).0) v p)
sole bytes m n (no_samples r a d p) (no_samples s b e q) =
    let same = then_known (rows_of r) (rows_of s) a b (sym d ∙ e) in
    let here = ap (λ t. 1 + 7 * length t) same.0 in
    sole_samples (after_nodes s) b m n (subst (λ t. NoSamples (after_nodes s) t m) same.1 (subst (λ k. NoSamples k a m) here p)) q

pub refused : (bytes : List ℕ) (m : Misfit) → Broken bytes m → Exactly bytes (Err m)
refused bytes m why = record { opens = λ rule samples h. absurd (never bytes rule samples h m why); refuses = λ n other. ap Err (sole bytes m n why other) }

pub opened : (bytes : List ℕ) (rule : Rule) (o : Opened) → Holds bytes rule o.samples → Exactly bytes (Ok o)
opened bytes rule o h = record { opens = λ _ _ _. refl; refuses = λ m why. absurd (never bytes rule o.samples h m why) }

-- the refusal alone, and what is read of it

pub refusal_is : (bytes : List ℕ) (before rule : Rule) (a : Result Opened Misfit) → Answered bytes before rule a → MatchOption (result_err a) (Opens bytes) (Broken bytes)
refusal_is bytes before rule (Ok o) h = (rule, o.samples, h.0)
refusal_is bytes before rule (Err m) h = h.0

pub told : {P : Misfit → Type 0} (read : Misfit → ℕ) (bytes : List ℕ) (o : Option Misfit) (n : ℕ) → MatchOption o (Opens bytes) (Broken bytes) → MatchOption o (n ≡ 0) P → ((m : Misfit) → P m → n ≡ read m) → Told read bytes n
told read bytes None n h k reads = inl (h, k)
told read bytes (Some m) n h k reads = inr (m, h, reads m k)

pub told_opens : (read : Misfit → ℕ) (bytes : List ℕ) (n : ℕ) → Told read bytes n → Opens bytes → n ≡ 0
told_opens read bytes n (inl h) o = h.1
told_opens read bytes n (inr (m, h, _)) o = absurd (never bytes o.0 o.1 o.2 m h)

-- no refusal of bytes has the number 0
rows_numbered : (rows : List NodeRow) (m : Misfit) → Refused rows m → 0 < number_of m.refusal
rows_numbered rows m (made-why.wrong_count e _) = rw e (omega arith)
rows_numbered rows m (made-why.no_node _ e _ _ _ _) = rw e (omega arith)
rows_numbered rows m (made-why.too_far _ e _ _ _ _ _) = rw e (omega arith)

samples_numbered : (place : ℕ) (bytes : List ℕ) (m : Misfit) → NoSamples place bytes m → 0 < number_of m.refusal
samples_numbered place bytes m (no_sample_count e _) = rw e (omega arith)
samples_numbered place bytes m (wrong_sample_count _ _ e _ _) = rw e (omega arith)
samples_numbered place bytes m (samples_cut _ _ e _ _ _) = rw e (omega arith)
samples_numbered place bytes m (more_bytes _ _ e _ _ _) = rw e (omega arith)

pub numbered : (bytes : List ℕ) (m : Misfit) → Broken bytes m → 0 < number_of m.refusal
numbered bytes m (no_count e _) = rw e (omega arith)
numbered bytes m (wrong_count _ _ e _ _) = rw e (omega arith)
numbered bytes m (nodes_cut _ _ e _ _ _ _) = rw e (omega arith)
numbered bytes m (no_rule rows why _ e _ _ _ r) = rw e (rows_numbered rows why r)
numbered bytes m (no_samples rule rest _ r) = samples_numbered (after_nodes rule) rest m r
