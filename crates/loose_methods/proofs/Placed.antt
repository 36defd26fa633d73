-- Items of lists.
use Rattle.std.proofs.Common.{◌≡◌, ℕ, ◌+◌, ◌<◌, List, [], ◌∷◌, ◌++◌, length, get_or, take, Some, true, sym, ap, ◌∙◌}
use Rattle.std.specs.Prelude.{slice_get}
use Rattle.std.proofs.lemmas.List.{take_more}
use Rattle.std.proofs.lemmas.Option.{slice_get-get_or}
use Rattle.program_model.specs.ProgramRules.{is_well_formed}
use Rattle.program_model.specs.declared.program.Class.{Class}
use Rattle.program_model.specs.declared.program.Method.{Method}
use Rattle.program_model.specs.declared.program.Program.{Program}
use Rattle.class_defs.proofs.WellFormed.{MethodFits, sound, class_parts}

pub got : {X : Type 0} (xs : List X) (i : ℕ) (x : X) → i < length xs → x ≡ get_or xs i x → slice_get xs i ≡ Some x
got xs i x lt e = slice_get-get_or xs i x lt ∙ ap Some (sym e)

-- the same of a list that is another one
pub got_in : {X : Type 0} (xs ys : List X) (i : ℕ) (x : X) → xs ≡ ys → i < length xs → x ≡ get_or xs i x → slice_get ys i ≡ Some x
got_in xs ys i x same lt e = ap (λ l. slice_get l i) (sym same) ∙ got xs i x lt e

pub one_more : {X : Type 0} (xs : List X) (i : ℕ) (x : X) → i < length xs → x ≡ get_or xs i x → take (i + 1) xs ≡ take i xs ++ x ∷ []
one_more xs i x lt e = take_more xs i x lt ∙ ap (λ y. take i xs ++ y ∷ []) (sym e)

-- the entry of a method of a class
pub entry_of : (p : Program) (place i : ℕ) (k : Class) (m : Method) → is_well_formed p ≡ true → slice_get p.classes place ≡ Some k → slice_get k.methods i ≡ Some m → MethodFits p k.name m
entry_of p place i k m wf e f = (class_parts p (sound p wf) place k e).methods i m f
