-- Code without some of its positions says no more.
use Rattle.std.proofs.Common.{◌≡◌, ℕ, Bool, true, false, List, [], ◌∷◌, refl, sym, ap, ◌∙◌}
use Rattle.std.specs.Prelude.{◌||◌, Option, Some}
use Rattle.std.specs.List.{list_any}
use Rattle.insn_set.specs.declared.ops.InvokeKind.TheVariants as call
use Rattle.dalvik_defs.specs.declared.names.MethodKey.{MethodKey}
use Rattle.dalvik_defs.specs.declared.forms.Form.{Form}
use Rattle.dalvik_defs.specs.declared.forms.Form.TheVariants as form
use Rattle.dalvik_defs.specs.declared.program.NamedBody.{NamedBody}
use Rattle.dalvik_defs.specs.declared.program.NamedProgram.{NamedProgram}
use Rattle.pass_defs.specs.Remade.{remade}
use Rattle.pass_defs.specs.Thinned.{Fate, Stays, Empties, Goes, place, forms_left, thinned}
use Rattle.removal_law.proofs.Lists.{clash}
use Rattle.program_laws.specs.Said.{Said, Quiet, said, SaysNoMore}

-- registers and targets don't matter
pub remade_said : (p : NamedProgram) (r w t : ℕ → ℕ) (x : Form) → said p (remade r w t x) ≡ said p x
remade_said p r w t (form.Invoke call.Virtual method args) = refl
remade_said p r w t (form.Invoke call.Interface method args) = refl
remade_said p r w t (form.Invoke kind method args) = refl
remade_said p r w t x = refl

pub or_rest : (a b c : Bool) → (b ≡ true → c ≡ true) → (a || b) ≡ true → (a || c) ≡ true
or_rest true b c h e = refl
or_rest false b c h e = h e

pub or_right : (a b : Bool) → b ≡ true → (a || b) ≡ true
or_right true b e = refl
or_right false b e = e

module _ (p : NamedProgram) (test : Said → Bool) (quiet : test Quiet ≡ false) where
  abbrev passes : Form → Bool
  passes x = test (said p x)

  left_says : (at : ℕ → ℕ) (fs : List Fate) (xs : List Form) → list_any passes (forms_left at fs xs) ≡ true → list_any passes xs ≡ true
  left_says at [] [] e = e
  left_says at (f ∷ fs) [] e = clash false e refl
  left_says at [] (x ∷ xs) e = clash false e refl
  left_says at (Stays ∷ fs) (x ∷ xs) e = or_rest (passes x) (list_any passes (forms_left at fs xs)) (list_any passes xs) (left_says at fs xs)
      (sym (ap (λ s. test s || list_any passes (forms_left at fs xs)) (remade_said p (λ n. n) (λ n. n) at x)) ∙ e)
  left_says at (Empties ∷ fs) (x ∷ xs) e = or_right (passes x) (list_any passes xs) (left_says at fs xs (sym (ap (λ b. b || list_any passes (forms_left at fs xs)) quiet) ∙ e))
  left_says at (Goes ∷ fs) (x ∷ xs) e = or_right (passes x) (list_any passes xs) (left_says at fs xs e)

pub thinned_says : (p : NamedProgram) (k : MethodKey) (fs : List Fate) (b : NamedBody) → SaysNoMore p k (Some b) (Some (thinned fs b))
thinned_says p k fs b test quiet e = left_says p test quiet (place fs) fs b.forms e
