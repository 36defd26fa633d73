-- One more of a list whose notes go by their place.
use Rattle.std.proofs.Common.{◌≡◌, ◌∙◌, ℕ, zero, suc, ◌+◌, ◌<◌, ◌≤◌, Bool, true, false, List, [], ◌∷◌, ◌++◌, length, take, refl, sym, ap, subst, arith, Option}
use Rattle.std.specs.Prelude.{◌||◌, not, cond}
use Rattle.std.proofs.lemmas.List.{take_all, append-nil, append_assoc}
use Rattle.program_model.specs.declared.pools.MethodName.{MethodName}
use Rattle.program_model.specs.declared.program.Class.{Class}
use Rattle.program_model.specs.declared.program.Method.{Method}
use Rattle.program_model.specs.declared.program.MethodAt.{MethodAt}
use Rattle.program_model.specs.declared.program.Program.{Program}
use Rattle.call_targets.specs.declared.kept.Kept.{Kept}
use Rattle.call_targets.specs.declared.table.Targets.{Targets}
use Rattle.call_targets.specs.Adding.{Note, Enters, Adds}
use Rattle.call_targets.specs.Beginning.{is_entered, static_notes, is_empty, class_notes, all_class_notes}
use Rattle.call_targets.specs.Leaving.{name_notes, all_name_notes}
use Rattle.call_targets.proofs.Adding.{adds_then}
use Rattle.call_targets.proofs.Contained.{AtPlace}

take_length : {X : Type 0} (xs : List X) (i : ℕ) → i < length xs → length (take i xs) ≡ i
take_length [] i lt = absurd (omega (arith, lt))
take_length (x ∷ xs) zero lt = refl
take_length (x ∷ xs) (suc i) lt = ap suc (take_length xs i (omega (arith, lt)))

-- ---- lists that grow at the end

static_snoc : (k : Kept) (o : Option MethodAt) (start : ℕ) (xs : List Method) (m : Method) (n : ℕ) → n ≡ start + length xs → static_notes k o start (xs ++ m ∷ []) ≡ static_notes k o start xs ++ static_notes k o n (m ∷ [])
static_snoc k o start [] m n e = let s : n ≡ start = omega (arith, e) in ap (λ z. static_notes k o z (m ∷ [])) (sym s)
static_snoc k o start (x ∷ xs) m n e = ap (λ l. cond (is_entered k o start x) (Enters x.name ∷ []) [] ++ l) (static_snoc k o (suc start) xs m n (omega (arith, e))) ∙ sym (append_assoc (cond (is_entered k o start x) (Enters x.name ∷ []) []) (static_notes k o (suc start) xs) (static_notes k o n (m ∷ [])))

class_snoc : (p : Program) (k : Kept) (start : ℕ) (xs : List Class) (c : Class) (n : ℕ) → n ≡ start + length xs → all_class_notes p k start (xs ++ c ∷ []) ≡ all_class_notes p k start xs ++ class_notes p k n c
class_snoc p k start [] c n e = let s : n ≡ start = omega (arith, e) in append-nil (class_notes p k start c) ∙ ap (λ z. class_notes p k z c) (sym s)
class_snoc p k start (x ∷ xs) c n e = ap (λ l. class_notes p k start x ++ l) (class_snoc p k (suc start) xs c n (omega (arith, e))) ∙ sym (append_assoc (class_notes p k start x) (all_class_notes p k (suc start) xs) (class_notes p k n c))

name_snoc : (p : Program) (start : ℕ) (xs : List MethodName) (q : MethodName) (n : ℕ) → n ≡ start + length xs → all_name_notes p start (xs ++ q ∷ []) ≡ all_name_notes p start xs ++ name_notes p n q
name_snoc p start [] q n e = let s : n ≡ start = omega (arith, e) in append-nil (name_notes p start q) ∙ ap (λ z. name_notes p z q) (sym s)
name_snoc p start (x ∷ xs) q n e = ap (λ l. name_notes p start x ++ l) (name_snoc p (suc start) xs q n (omega (arith, e))) ∙ sym (append_assoc (name_notes p start x) (all_name_notes p (suc start) xs) (name_notes p n q))

-- ---- one more

module _ (a b c : Targets) where
  pub statics_at : (k : Kept) (o : Option MethodAt) (xs : List Method) (i : ℕ) (m : Method) → AtPlace xs i m → Adds (static_notes k o 0 (take i xs)) a b → Adds (static_notes k o i (m ∷ [])) b c → Adds (static_notes k o 0 (take (i + 1) xs)) a c
  statics_at k o xs i m at f g = subst (λ l. Adds l a c) (sym (ap (static_notes k o 0) at.more ∙ static_snoc k o 0 (take i xs) m i (let l = take_length xs i at.short in omega (arith, l)))) (adds_then (static_notes k o 0 (take i xs)) (static_notes k o i (m ∷ [])) a b c f g)

  pub classes_step : (p : Program) (k : Kept) (xs : List Class) (i : ℕ) (x : Class) → AtPlace xs i x → Adds (all_class_notes p k 0 (take i xs)) a b → Adds (class_notes p k i x) b c → Adds (all_class_notes p k 0 (take (i + 1) xs)) a c
  classes_step p k xs i x at f g = subst (λ l. Adds l a c) (sym (ap (all_class_notes p k 0) at.more ∙ class_snoc p k 0 (take i xs) x i (let l = take_length xs i at.short in omega (arith, l)))) (adds_then (all_class_notes p k 0 (take i xs)) (class_notes p k i x) a b c f g)

  pub names_step : (p : Program) (xs : List MethodName) (i : ℕ) (q : MethodName) → AtPlace xs i q → Adds (all_name_notes p 0 (take i xs)) a b → Adds (name_notes p i q) b c → Adds (all_name_notes p 0 (take (i + 1) xs)) a c
  names_step p xs i q at f g = subst (λ l. Adds l a c) (sym (ap (all_name_notes p 0) at.more ∙ name_snoc p 0 (take i xs) q i (let l = take_length xs i at.short in omega (arith, l)))) (adds_then (all_name_notes p 0 (take i xs)) (name_notes p i q) a b c f g)

-- the end of a list
pub over_all : {X : Type 0} (f : List X → List Note) (a b : Targets) (xs : List X) (i : ℕ) → length xs ≤ i → Adds (f (take i xs)) a b → Adds (f xs) a b
over_all f a b xs i le g = subst (λ l. Adds (f l) a b) (take_all i xs le) g

-- ---- whether there are any

some_more : (xs ys : List Note) → not (is_empty (xs ++ ys)) ≡ (not (is_empty xs) || not (is_empty ys))
some_more [] ys = refl
some_more (x ∷ xs) ys = refl

or_false : (a : Bool) → (a || false) ≡ a
or_false true = refl
or_false false = refl

or_true : (a : Bool) → (a || true) ≡ true
or_true true = refl
or_true false = refl

single : (k : Kept) (o : Option MethodAt) (own : ℕ) (m : Method) → not (is_empty (static_notes k o own (m ∷ []))) ≡ is_entered k o own m
single k o own m = by (is_entered k o own m)
  where
    by : (b : Bool) → not (is_empty (cond b (Enters m.name ∷ []) [] ++ [])) ≡ b
    by true = refl
    by false = refl

module _ (k : Kept) (o : Option MethodAt) (xs : List Method) (i : ℕ) (m : Method) (at : AtPlace xs i m) (any : Bool) (so_far : any ≡ not (is_empty (static_notes k o 0 (take i xs)))) where
  any_then : not (is_empty (static_notes k o 0 (take (i + 1) xs))) ≡ (any || is_entered k o i m)
  any_then = ap (λ l. not (is_empty l)) (ap (static_notes k o 0) at.more ∙ static_snoc k o 0 (take i xs) m i (let l = take_length xs i at.short in omega (arith, l)))
      ∙ some_more (static_notes k o 0 (take i xs)) (static_notes k o i (m ∷ [])) ∙ ap (λ z. z || not (is_empty (static_notes k o i (m ∷ [])))) (sym so_far) ∙ ap (λ z. any || z) (single k o i m)

  pub any_more : is_entered k o i m ≡ true → true ≡ not (is_empty (static_notes k o 0 (take (i + 1) xs)))
  any_more h = sym (any_then ∙ ap (λ z. any || z) h ∙ or_true any)

  pub any_same : is_entered k o i m ≡ false → any ≡ not (is_empty (static_notes k o 0 (take (i + 1) xs)))
  any_same h = sym (any_then ∙ ap (λ z. any || z) h ∙ or_false any)
