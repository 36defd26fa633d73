-- A framework that fits a program has and names no class of it.
use Rattle.std.proofs.Common.{◌≡◌, Bool, true, false, List, [], ◌∷◌, refl, sym, ap, ◌∙◌, inl, inr, subst}
use Rattle.std.specs.Prelude.{◌||◌, ◌⊎◌, not}
use Rattle.std.specs.List.{list_any, list_all}
use Rattle.lemmas.proofs.Bools.{not_true}
use Rattle.dalvik_defs.specs.Names.{Text, text_eq, object_type}
use Rattle.dalvik_defs.specs.Known.{known_rows}
use Rattle.dalvik_defs.specs.Under.{defines}
use Rattle.dalvik_defs.specs.Outer.{Outer}
use Rattle.dalvik_defs.specs.Shown.{named_by, reserved, Fit}
use Rattle.dalvik_defs.specs.declared.script.Move.{Move}
use Rattle.dalvik_defs.specs.declared.program.NamedProgram.{NamedProgram}
use Rattle.dalvik_defs.specs.declared.tables.FrameworkType.{FrameworkType}
use Rattle.dalvik_defs.specs.declared.tables.Framework.{Framework}
use Rattle.dalvik_defs.proofs.Calm.{text_sound}
use Rattle.removal_law.specs.Left.{NamesNone}
use Rattle.removal_law.proofs.Lists.{clash, In, here, there, none_in, all_in, in_either}

any_none : {A : Type 0} (f : A → Bool) (xs : List A) → ((x : A) → In x xs → f x ≡ false) → list_any f xs ≡ false
any_none f [] h = refl
any_none f (x ∷ xs) h = ap (λ b. b || list_any f xs) (h x (here xs)) ∙ any_none f xs (λ y c. h y (there x xs c))

pub in_by_test : (u : Text) (xs : List Text) → list_any (text_eq u) xs ≡ true → In u xs
in_by_test u [] e = clash false e refl
in_by_test u (x ∷ xs) e = by (text_eq u x) refl (in_by_test u xs) e
  where
    by : (b : Bool) → text_eq u x ≡ b → (list_any (text_eq u) xs ≡ true → In u xs) → (b || list_any (text_eq u) xs) ≡ true → In u (x ∷ xs)
    by true i h e = subst (λ y. In u (y ∷ xs)) (text_sound u x i) (here xs)
    by false i h e = there x xs (h e)

-- each name of a row that the machine itself knows is reserved
abbrev is_reserved : Text → Bool
is_reserved u = list_any (text_eq u) reserved

known : list_all (λ r. list_all is_reserved (named_by r)) known_rows ≡ true
known = refl

pub fit_names_none : (p : NamedProgram) (o : Outer) (f : Framework) (script : List Move) → Fit p o f script → NamesNone p f
fit_names_none p o f script fit = record {
  rows = λ r c. by r (in_either r known_rows f.rows c);
  object = none_in (defines p) reserved fit.classes object_type (in_by_test object_type reserved refl);
}
  where
    by : (r : FrameworkType) → In r known_rows ⊎ In r f.rows → list_any (defines p) (named_by r) ≡ false
    by r (inl c) = any_none (defines p) (named_by r) (λ u d. none_in (defines p) reserved fit.classes u (in_by_test u reserved (all_in is_reserved (named_by r) (all_in (λ r. list_all is_reserved (named_by r)) known_rows known r c) u d)))
    by r (inr c) = not_true (list_any (defines p) (named_by r)) (all_in (λ r. not (list_any (defines p) (named_by r))) f.rows fit.rows r c)
