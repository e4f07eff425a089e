-- The sections of a record, cut out of its bytes. Assumes nothing.
use Rattle.std.proofs.Common.{◌≡◌, ℕ, zero, suc, ◌+◌, ◌-◌, ◌*◌, ◌/◌, ◌<◌, ◌≤◌, ◌≢◌, List, [], ◌∷◌, ◌++◌, length, get_or, set, take, drop, Ok, Err, Result, sym, refl, ap, ◌∙◌, subst, ap₂, ⊎_elim, append-nil, append_assoc, arith, length-append, length-drop, take-append-drop, length-take}
use Rattle.std.specs.List.{IsSplitAt}
use Rattle.std.specs.Result.{IsErrAnd, MatchResult}
use Rattle.std.specs.Simd.{first_chunks}
use Rattle.std.proofs.lemmas.Bool.{cases_eq}
use Rattle.std.proofs.lemmas.List.{get_or-set_same, get_or-set_other, nil_from_length}
use Rattle.refusal.specs.declared.Misfit.{Misfit}
use Rattle.rule.specs.Limits.{most_nodes}
use Rattle.rule.specs.Made.{Made, Refused}
use Rattle.rule.specs.Made as made-why
use Rattle.rule.specs.declared.node.NodeRow.{NodeRow}
use Rattle.rule.specs.declared.rule.Rule.{Rule}
use Rattle.record.specs.Format.{each, itself, node_bytes, nodes_then, samples_then}
use Rattle.record.specs.Opening.{rows_of, after_nodes, Holds, NoRule, Samples}
use Rattle.record.specs.Reading.{number}
use Rattle.record.proofs.Bytes.{Bytes, bytes_take, elements, read_back}

-- a list made of parts, by one part more
pub each_push : {X : Type 0} (f : X → List ℕ) (xs : List X) (x : X) → each f (xs ++ (x ∷ [])) ≡ each f xs ++ f x
each_push f [] x = append-nil (f x)
each_push f (y ∷ xs) x = ap (λ r. f y ++ r) (each_push f xs x) ∙ sym (append_assoc (f y) (each f xs) (f x))

-- a refusal of at most 32 rows speaks of a place below 32
pub place_small : (rows : List NodeRow) (m : Misfit) → length rows ≤ most_nodes → Refused rows m → m.place < most_nodes
place_small rows m h (made-why.wrong_count e _) = let p = ap (λ (x : Misfit). x.place) e in omega arith
place_small rows m h (made-why.no_node i e _ l _ _) = let p = ap (λ (x : Misfit). x.place) e in omega arith
place_small rows m h (made-why.too_far ns e _ _ _ _ _) = let p = ap (λ (x : Misfit). x.place) e in omega arith

pub length-nodes : (rows : List NodeRow) → length (each node_bytes rows) ≡ 7 * length rows
length-nodes [] = refl
length-nodes (row ∷ rows) = let more = length-nodes rows in omega arith

-- rows that are read of nodes, one by one
pub rows_read : (rows : List NodeRow) (nodes : List (List ℕ)) → length nodes ≤ length rows → ((i : ℕ) (e : NodeRow) → i < length nodes → node_bytes (get_or rows i e) ≡ get_or nodes i []) → each node_bytes (take (length nodes) rows) ≡ each itself nodes
rows_read rows [] few read = refl
rows_read [] (node ∷ nodes) few read = absurd (let z : ⊥ = omega arith in z)
rows_read (row ∷ rows) (node ∷ nodes) few read = ap₂ ◌++◌ (read 0 row (omega arith)) (rows_read rows nodes (omega arith) (λ i e k. read (suc i) e (omega arith)))

-- one row more that is read of its node
pub read_more : (rows : List NodeRow) (nodes : List (List ℕ)) (i : ℕ) (x : NodeRow) → i < length rows → ((k : ℕ) (e : NodeRow) → k < i → node_bytes (get_or rows k e) ≡ get_or nodes k []) → node_bytes x ≡ get_or nodes i [] → (k : ℕ) (e : NodeRow) → k < i + 1 → node_bytes (get_or (set rows i x) k e) ≡ get_or nodes k []
read_more rows nodes i x h read here k e l =
    ⊎_elim
    (λ (s : k ≡ i). ap (λ n. node_bytes (get_or (set rows i x) n e)) s ∙ ap node_bytes (get_or-set_same rows i x e h) ∙ here ∙ ap (λ n. get_or nodes n []) (sym s))
    (λ (n : k ≢ i). ap node_bytes (get_or-set_other rows i k x e n) ∙ read k e (omega arith))
    (cases_eq k i)

-- seven by seven, bytes are the same
chunks_whole : (k : ℕ) (bs : List ℕ) → length bs ≡ 7 * k → each itself (first_chunks 7 k bs) ≡ bs
chunks_whole zero bs e = sym (nil_from_length bs e)
chunks_whole (suc k) bs e = ap (λ r. take 7 bs ++ r) (chunks_whole k (drop 7 bs) (simp length-drop (omega arith))) ∙ take-append-drop 7 bs

-- the first section, from the parts that are cut out of it
pub section : (bs rest nodes after : List ℕ) (count : ℕ) (chunks : List (List ℕ)) (all : List NodeRow) → bs ≡ count ∷ rest → IsSplitAt rest (7 * count) nodes after → chunks ≡ first_chunks 7 (length nodes / 7) nodes → length chunks ≡ length nodes / 7 → count ≤ length all → each node_bytes (take (length chunks) all) ≡ each itself chunks → bs ≡ nodes_then (take count all) after
section bs rest nodes after count chunks all e (_, front, back, long, _) f g h read =
    let k : length nodes / 7 ≡ count = omega arith in
    let rows : length (take count all) ≡ count = simp length-take (omega arith) in
    let whole : each node_bytes (take count all) ≡ nodes =
    ap (λ n. each node_bytes (take n all)) (sym (g ∙ k)) ∙ read ∙ ap (each itself) f ∙ chunks_whole (length nodes / 7) nodes (omega arith) in
    e ∙ ap₂ ◌∷◌ (sym rows) (sym (take-append-drop (7 * count) rest) ∙ ap₂ ◌++◌ (sym (whole ∙ front)) (sym back))

-- what the rows are made into, with a misfit's place changed
pub made_rule : {P : Misfit → Misfit → Type 0} (rows : List NodeRow) (made r : Result Rule Misfit) → Made rows made → MatchResult made (λ rule. r ≡ Ok rule) (λ why. IsErrAnd r (P why)) → ((why m : Misfit) → P why m → m ≡ record { refusal = why.refusal; place = 1 + 7 * why.place }) → MatchResult r (λ rule. rows_of rule ≡ rows) (NoRule rows)
made_rule rows (Ok rule) r h k told = subst (λ r. MatchResult r (λ rule. rows_of rule ≡ rows) (NoRule rows)) (sym k) h
made_rule rows (Err why) (Ok rule) h k told = absurd k
made_rule rows (Err why) (Err m) h k told = (why, h, told why m k)

-- the count of samples, from the four bytes that are cut out
pub counted : (bs count rest : List ℕ) (n : ℕ) → Bytes bs → (count ≡ take 4 bs) × (rest ≡ drop 4 bs) × (length rest + 4 ≡ length bs) → n ≡ number (elements count 0 4) → bs ≡ samples_then n rest
counted bs count rest n small (front, back, long) f =
    let four_long : length count ≡ 4 = ap length front ∙ simp length-take (omega arith) in
    let read = read_back count (subst Bytes (sym front) (bytes_take 4 bs small)) 3 n four_long f in
    sym (take-append-drop 4 bs) ∙ ap₂ ◌++◌ (sym (read ∙ front)) (sym back)

-- the place after the first section
pub length_whole : (bs : List ℕ) (rows : List NodeRow) (rest : List ℕ) → bs ≡ nodes_then rows rest → length bs ≡ 1 + 7 * length rows + length rest
length_whole bs rows rest e = ap length e ∙ ap suc (length-append (each node_bytes rows) rest ∙ ap (λ n. n + length rest) (length-nodes rows)) ∙ omega arith

pub after : (bs : List ℕ) (rule : Rule) (rest : List ℕ) → bs ≡ nodes_then (rows_of rule) rest → length bs - length rest ≡ after_nodes rule
after bs rule rest e = let l = length_whole bs (rows_of rule) rest e in omega arith

pub holds : (bs : List ℕ) (rule : Rule) (rest : List ℕ) (samples : ℕ) → bs ≡ nodes_then (rows_of rule) rest → Samples samples rest → Holds bs rule samples
holds bs rule rest samples e s = record { body = s.body; whole = e ∙ ap (nodes_then (rows_of rule)) s.whole; few = s.few; sixteen = s.sixteen }
