-- What removal_law asks of forms goes by what they say.
use Rattle.std.proofs.Common.{◌≡◌, Bool, false, List, [], ◌∷◌, refl, ap, ◌∙◌}
use Rattle.std.specs.Prelude.{◌&&◌, ◌||◌, not, true, if◌then◌else◌}
use Rattle.std.specs.List.{list_any}
use Rattle.insn_set.specs.declared.ops.InvokeKind.TheVariants as call
use Rattle.dalvik_defs.specs.Names.{Text, text_eq, same_name, object_type}
use Rattle.dalvik_defs.specs.Under.{defines}
use Rattle.dalvik_defs.specs.Shut.{names_outside}
use Rattle.dalvik_defs.specs.declared.names.MethodKey.{MethodKey}
use Rattle.dalvik_defs.specs.declared.names.Signature.{Signature}
use Rattle.dalvik_defs.specs.declared.forms.Form.{Form}
use Rattle.dalvik_defs.specs.declared.forms.Form.TheVariants as form
use Rattle.dalvik_defs.specs.declared.program.NamedProgram.{NamedProgram}
use Rattle.removal_law.specs.Reach.{is_new}
use Rattle.program_laws.specs.Said.{Said, Quiet, Makes, Calls, called, said}

abbrev pub says_new : Text → Said → Bool
says_new t (Makes u) = text_eq u t
says_new t x = false

abbrev pub says_outside : Text → Signature → Said → Bool
says_outside n g (Calls k) = same_name k.name k.signature n g && not (text_eq k.class object_type)
says_outside n g x = false

-- a call makes nothing
new_called : (p : NamedProgram) (t : Text) (k : MethodKey) → false ≡ says_new t (called p k)
new_called p t k = by (defines p k.class)
  where
    by : (b : Bool) → false ≡ says_new t (if b then Quiet else Calls k)
    by true = refl
    by false = refl

pub new_said : (p : NamedProgram) (t : Text) (x : Form) → is_new t x ≡ says_new t (said p x)
new_said p t (form.NewInstance to kind) = refl
new_said p t (form.Invoke call.Virtual method args) = new_called p t method
new_said p t (form.Invoke call.Interface method args) = new_called p t method
new_said p t (form.Invoke kind method args) = refl
new_said p t x = refl

and_false : (a c : Bool) → (a && not true && c) ≡ false
and_false true c = refl
and_false false c = refl

and_true : (a c : Bool) → (a && not false && c) ≡ (a && c)
and_true true c = refl
and_true false c = refl

outside_called : (p : NamedProgram) (n : Text) (g : Signature) (k : MethodKey)
    → (same_name k.name k.signature n g && not (defines p k.class) && not (text_eq k.class object_type)) ≡ says_outside n g (called p k)
outside_called p n g k = by (defines p k.class)
  where
    by : (b : Bool) → (same_name k.name k.signature n g && not b && not (text_eq k.class object_type)) ≡ says_outside n g (if b then Quiet else Calls k)
    by true = and_false (same_name k.name k.signature n g) (not (text_eq k.class object_type))
    by false = and_true (same_name k.name k.signature n g) (not (text_eq k.class object_type))

pub outside_said : (p : NamedProgram) (n : Text) (g : Signature) (x : Form) → names_outside p n g x ≡ says_outside n g (said p x)
outside_said p n g (form.NewInstance to kind) = refl
outside_said p n g (form.Invoke call.Virtual method args) = outside_called p n g method
outside_said p n g (form.Invoke call.Interface method args) = outside_called p n g method
outside_said p n g (form.Invoke kind method args) = refl
outside_said p n g x = refl

-- tests that answer alike on all, on a list
pub any_alike : {A : Type 0} (f g : A → Bool) → ((x : A) → f x ≡ g x) → (xs : List A) → list_any f xs ≡ list_any g xs
any_alike f g h [] = refl
any_alike f g h (x ∷ xs) = ap (λ b. b || list_any f xs) (h x) ∙ ap (λ b. g x || b) (any_alike f g h xs)
