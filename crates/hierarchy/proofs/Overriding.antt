-- The methods that classes define themselves, class by class.
use Rattle.std.proofs.Common.{◌≡◌, ℕ, ◌+◌, ◌<◌, List, [], ◌∷◌, ◌++◌, length, drop, slice_index, Option, Some, None, refl, sym, ap, ◌∙◌}
use Rattle.std.proofs.lemmas.List.{drop_more}
use Rattle.std.specs.List.{cons_option, filter_map}
use Rattle.std.specs.Prelude.{slice_get, option_and_then}
use Rattle.program_model.specs.Lookups.{method_at}
use Rattle.program_model.specs.declared.program.Class.{Class}
use Rattle.program_model.specs.declared.program.Method.{Method}
use Rattle.program_model.specs.declared.program.MethodAt.{MethodAt}
use Rattle.program_model.specs.declared.program.Program.{Program}
use Rattle.hierarchy.proofs.Keyed.{got_short}
use Rattle.class_defs.specs.Finding.{one_or_none}

one_joined : (xs : List MethodAt) (o : Option MethodAt) (ys : List MethodAt) → (xs ++ one_or_none o) ++ ys ≡ xs ++ cons_option o ys
one_joined [] None ys = refl
one_joined [] (Some x) ys = refl
one_joined (x ∷ xs) o ys = ap (λ l. x ∷ l) (one_joined xs o ys)

pub found_more : (f : ℕ → Option MethodAt) (found pushed whole : List MethodAt) (classes : List ℕ) (i : ℕ) (one : Option MethodAt) → i < length classes → one ≡ f (slice_index classes i) → pushed ≡ found ++ one_or_none one
    → found ++ filter_map f (drop i classes) ≡ whole → pushed ++ filter_map f (drop (i + 1) classes) ≡ whole
found_more f found pushed whole classes i one l is e h =
    ap (λ p. p ++ filter_map f (drop (i + 1) classes)) e
    ∙ one_joined found one (filter_map f (drop (i + 1) classes))
    ∙ ap (λ o. found ++ cons_option o (filter_map f (drop (i + 1) classes))) is
    ∙ ap (λ l. found ++ filter_map f l) (sym (drop_more classes i 0 l))
    ∙ h

-- the class of a method that is there
pub method_class : (p : Program) (at : MethodAt) (m : Method) → method_at p at ≡ Some m → at.class < length p.classes
method_class p at m e = by_class (slice_get p.classes at.class) refl e
  where
    by_class : (o : Option Class) → slice_get p.classes at.class ≡ o → option_and_then (λ c. slice_get c.methods at.place) o ≡ Some m → at.class < length p.classes
    by_class None f g = cc
    by_class (Some c) f g = got_short p.classes at.class c f
