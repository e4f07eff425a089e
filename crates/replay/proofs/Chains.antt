-- Calls that were made one after the other. Assumes nothing.
use Rattle.std.proofs.Common.{◌≡◌, ℕ, ◌+◌, ◌<◌, ◌≤◌, cond, true, List, [], ◌∷◌, ◌++◌, length, get_or, take, drop, set, Ok, Err, sym, refl, ap, ◌∙◌, subst, ap₂, add-one, arith, take-suc, take-suc-set, rules}
use Rattle.std.proofs.lemmas.List.{drop-set-lt, drop-drop, take_all}
use Rattle.std.proofs.lemmas.Bool.{le-leb, lt-leb}
use Rattle.refusal.specs.declared.Refusal.TheVariants as refusal
use Rattle.scale.specs.Laws.{Ops, Laws}
use Rattle.world.specs.Steps.{held, step, after, answers}
use Rattle.world.proofs.Whole.{law}
use Rattle.world.specs.World.{Sizes, World, unused}
use Rattle.world.specs.declared.answer.Answer.{Answer}
use Rattle.world.specs.declared.call.Call.{Call}
use Rattle.watch.specs.Calls.{Promise}
use Rattle.watch.specs.Memory.{Memory, sizes}
use Rattle.watch.specs.Stands.{Stands}
use Rattle.watch.proofs.Arming.{unused_stands}
use Rattle.replay.specs.Replayed.{Made, Free, Replayed}

-- a stored answer leaves those past it
pub past_more : {A : Type 0} (xs ys : List A) (i : ℕ) (a : A) → drop i xs ≡ drop i ys → drop (i + 1) (set xs i a) ≡ drop (i + 1) ys
past_more xs ys i a h =
    let lt : i < i + 1 = omega arith in
    drop-set-lt (i + 1) xs i a lt ∙ sym (drop-drop 1 i xs) ∙ ap (drop 1) h ∙ drop-drop 1 i ys

module _ {V : Type 0} (ops : Ops V) (read : ℕ → ℕ → V) where
  -- one call more
  made_more : (cs : List Call) (xs : List (Answer V)) (c : Call) (a : Answer V) (m n m' : Memory V) → Made ops read cs xs m n → Promise ops read c n m' a → Made ops read (cs ++ c ∷ []) (xs ++ a ∷ []) m m'
  unfolding Made
  made_more [] [] c a m n m' e p = (m', subst (λ k. Promise ops read c k m' a) e p, refl)
  made_more [] (x ∷ xs) c a m n m' e p = absurd e
  made_more (d ∷ cs) [] c a m n m' e p = absurd e
  made_more (d ∷ cs) (x ∷ xs) c a m n m' e p = (e.0, e.1, made_more cs xs c a e.0 n m' e.2 p)

  -- a run on its way: the first i calls were made, from memory m to memory n, and the answers past theirs are those that were there before
  pub record Going (calls : List Call) (before told : List (Answer V)) (i : ℕ) (m n : Memory V) : Type 0 where
    pub made : Made ops read (take i calls) (take i told) m n
    pub past : drop i told ≡ drop i before

  pub going_none : (calls : List Call) (told : List (Answer V)) (m : Memory V) → Going calls told told 0 m m
  unfolding Made
  going_none calls told m = record { made = refl; past = refl }

  -- one call more, whose answer is stored
  pub going_on : {calls : List Call} {before told told' : List (Answer V)} {i : ℕ} {m n m' : Memory V} {c : Call} {a : Answer V} → Going calls before told i m n → i < length calls → i < length told → c ≡ get_or calls i c → told' ≡ set told i a → Promise ops read c n m' a → Going calls before told' (i + 1) m m'
  going_on {calls = calls} {before = before} {told = told} {told' = told'} {i = i} {m = m} {n = n} {m' = m'} {c = c} {a = a} so_far l k is stored p =
      let e : take (i + 1) calls ≡ take i calls ++ c ∷ [] = rw add-one (take-suc calls i c l ∙ ap (λ d. take i calls ++ d ∷ []) (sym is)) in
      let f : take (i + 1) told' ≡ take i told ++ a ∷ [] = rw (stored, add-one) (take-suc-set told i a k) in
      record {
        made = subst (λ x. Made ops read x (take (i + 1) told') m m') (sym e)
            (subst (λ x. Made ops read (take i calls ++ c ∷ []) x m m') (sym f) (made_more (take i calls) (take i told) c a m n m' so_far.made p));
        past = rw stored (past_more told before i a so_far.past);
      }

  -- such calls follow the model
  pub follows : (cs : List Call) (xs : List (Answer V)) (m m' : Memory V) (s : Sizes) → sizes m ≡ s → Made ops read cs xs m m' → (w : World V) → Stands ops read w m → (xs ≡ answers ops read s cs w) × Stands ops read (after ops read s cs w) m'
  unfolding Made after answers
  follows [] [] m m' s z e w st = (refl, subst (Stands ops read w) (sym e) st)
  follows [] (x ∷ xs) m m' s z e w st = absurd e
  follows (c ∷ cs) [] m m' s z e w st = absurd e
  follows (c ∷ cs) (x ∷ xs) m m' s z e w st =
      let n = e.0 in
      let p = subst (λ s. (x ≡ (step ops read s c w).1) × Stands ops read (step ops read s c w).0 e.0) z (e.1.standing w st) in
      let r = follows cs xs e.0 m' s (e.1.lengths ∙ z) e.2 (step ops read s c w).0 p.1 in
      (ap₂ (λ y ys. y ∷ ys) p.0 r.0, r.1)

  pub free : Free ops read
  free w m rows cells readings s same_rows same-cells same-tray =
      let rows_are = λ (p : ℕ) (h : held w p ≡ true). same_rows p h ∙ s.rows_are p h in
      let cells_are = λ (p : ℕ) (h : held w p ≡ true). same-cells p h ∙ s.cells_are p h in
      let tray_is = same-tray ∙ s.tray_is in
      search (rules, rows_are, cells_are)

-- the promise of a call, under other names of the call and its answer
pub same_call : {V : Type 0} {ops : Ops V} {read : ℕ → ℕ → V} {c d : Call} {m m' : Memory V} {a b : Answer V} → c ≡ d → a ≡ b → Promise ops read d m m' b → Promise ops read c m m' a
same_call {ops = ops} {read = read} {d = d} {m = m} {m' = m'} {a = a} e f p = subst (λ x. Promise ops read x m m' a) (sym e) (subst (λ x. Promise ops read d m m' x) (sym f) p)

module _ {V : Type 0} {ops : Ops V} (laws : Laws ops) (read : ℕ → ℕ → V) (calls : List Call) where
  pub refused_run : (m : Memory V) (told : List (Answer V)) → length told < length calls → m.strip.kept ≤ m.strip.taken → m.tray.kept ≤ m.tray.taken → Replayed ops read calls m m told told (Err refusal.Memory)
  refused_run m told short strip tray =
      record {
        when = sym (ap (λ b. cond b (Ok tt) (Err refusal.Memory)) (lt-leb (length calls) (length told) short));
        refused = λ _. (refl, refl);
        made = λ e. absurd cc;
        past = λ e. absurd cc;
        standing = λ e. absurd cc;
        begins = λ u. unused_stands ops read m u strip tray;
        from_unused = λ e. absurd cc;
        law = law laws read;
        free = free ops read;
      }

  pub made_run : (m m' : Memory V) (told told' : List (Answer V)) (i : ℕ) → length calls ≤ length told → i ≡ length calls → Going ops read calls told told' i m m' → m.strip.kept ≤ m.strip.taken → m.tray.kept ≤ m.tray.taken → Replayed ops read calls m m' told told' (Ok tt)
  made_run m m' told told' i long e going strip tray =
      let all : Made ops read calls (take (length calls) told') m m' = rw (e, take_all (length calls) calls (omega arith)) at going.made in
      record {
        when = sym (ap (λ b. cond b (Ok tt) (Err refusal.Memory)) (le-leb (length calls) (length told) long));
        refused = λ e. absurd cc;
        made = λ _. all;
        past = λ _. rw e at going.past;
        standing = λ _ w s. follows ops read calls (take (length calls) told') m m' (sizes m) refl all w s;
        begins = λ u. unused_stands ops read m u strip tray;
        from_unused = λ _ u. follows ops read calls (take (length calls) told') m m' (sizes m) refl all (unused m.coming) (unused_stands ops read m u strip tray);
        law = law laws read;
        free = free ops read;
      }
