-- A table of shut methods holds what it says of a program without its silent calls.
use Rattle.std.proofs.Common.{◌≡◌, Bool, true, false, List, [], ◌∷◌, refl, sym, ap, ◌∙◌}
use Rattle.std.specs.Prelude.{◌&&◌, ◌||◌, not, Option, Some, None, is_some}
use Rattle.std.specs.List.{list_any}
use Rattle.std.specs.Option.{option_map}
use Rattle.dalvik_defs.specs.Outer.{Outer}
use Rattle.dalvik_defs.specs.Silence.{calls_silent, takes_result, silenced_forms, silenced_body, key_in, silenced_method, silenced_class, silenced}
use Rattle.dalvik_defs.specs.declared.names.MethodKey.{MethodKey}
use Rattle.dalvik_defs.specs.declared.forms.Form.{Form}
use Rattle.dalvik_defs.specs.declared.forms.Form.TheVariants as form
use Rattle.dalvik_defs.specs.declared.program.NamedBody.{NamedBody}
use Rattle.dalvik_defs.specs.declared.program.NamedMethod.{NamedMethod}
use Rattle.dalvik_defs.specs.declared.program.NamedClass.{NamedClass}
use Rattle.dalvik_defs.specs.declared.program.NamedProgram.{NamedProgram}
use Rattle.removal_law.specs.Reach.{ShutsHold}
use Rattle.program_laws.specs.Others.{OtherMethod, OtherClass, OtherBodies}
use Rattle.program_laws.proofs.Named.{pairwise_self}
use Rattle.program_laws.specs.Said.{Said, Quiet, said, SaysNoMore}
use Rattle.program_laws.proofs.Changed.{shuts_kept}
use Rattle.program_laws.proofs.Thinned.{or_rest, or_right}

module _ (p : NamedProgram) (o : Outer) where
  module _ (test : Said → Bool) (quiet : test Quiet ≡ false) where
    abbrev passes : Form → Bool
    passes x = test (said p x)

    one : (x : Form) (ys zs : List Form) (b : Bool) → (list_any passes ys ≡ true → list_any passes zs ≡ true)
        → (passes (elim b as (λ b. Form) [ true ↦ form.Nop | false ↦ x ]) || list_any passes ys) ≡ true → (passes x || list_any passes zs) ≡ true
    one x ys zs true h e = or_right (passes x) (list_any passes zs) (h (sym (ap (λ b. b || list_any passes ys) quiet) ∙ e))
    one x ys zs false h e = or_rest (passes x) (list_any passes ys) (list_any passes zs) h e

    silent_says : (xs : List Form) → list_any passes (silenced_forms p o xs) ≡ true → list_any passes xs ≡ true
    silent_says [] e = e
    silent_says (x ∷ xs) e = one x (silenced_forms p o xs) xs (calls_silent p o x && not (takes_result xs)) (silent_says xs) e

  body_says : (k : MethodKey) (x : Option NamedBody) → SaysNoMore p k x (option_map (silenced_body p o) x)
  body_says k None test quiet e = e
  body_says k (Some b) test quiet e = silent_says test quiet b.forms e

  still_coded : (x : Option NamedBody) → is_some (option_map (silenced_body p o) x) ≡ is_some x
  still_coded None = refl
  still_coded (Some b) = refl

  module _ (admitted : MethodKey → Bool) where
    method_other : (c : NamedClass) (m : NamedMethod) → OtherMethod (SaysNoMore p) c m (silenced_method p o admitted c m)
    method_other c m = by (admitted (key_in c m))
      where
        by : (b : Bool) → OtherMethod (SaysNoMore p) c m (elim b as (λ b. NamedMethod) [ true ↦ record m { body = option_map (silenced_body p o) m.body } | false ↦ m ])
        by true = record { same = refl; coded = still_coded m.body; related = body_says (key_in c m) m.body }
        by false = record { same = refl; coded = refl; related = λ test quiet e. e }

    class_other : (c : NamedClass) → OtherClass (SaysNoMore p) c (silenced_class p o admitted c)
    class_other c = record { same = refl; methods = pairwise_self (OtherMethod (SaysNoMore p) c) (silenced_method p o admitted c) (method_other c) c.methods }

    silenced_other : OtherBodies (SaysNoMore p) p (silenced p o admitted)
    silenced_other = record { same = refl; classes = pairwise_self (OtherClass (SaysNoMore p)) (silenced_class p o admitted) class_other p.classes }

    pub silenced_holds : ShutsHold p o → ShutsHold (silenced p o admitted) o
    silenced_holds holds = shuts_kept p (silenced p o admitted) o silenced_other holds
