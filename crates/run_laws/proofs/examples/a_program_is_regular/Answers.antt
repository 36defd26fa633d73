use Rattle.std.proofs.Common.{◌≡◌, zero, suc, ◌<◌, Bool, true, false, true≢false, List, [], ◌∷◌, Option, Some, None, refl, sym, ap, ◌∙◌, subst, arith}
use Rattle.std.specs.Prelude.{Contains, codes}
use Rattle.dalvik_defs.specs.Names.{Text, text_eq, is_class_type, object_type, void}
use Rattle.dalvik_defs.specs.Flags.{is_interface}
use Rattle.dalvik_defs.specs.Find.{defined_method}
use Rattle.dalvik_defs.specs.Fields.{first_layer, first_value}
use Rattle.dalvik_defs.specs.declared.state.Value.{Value}
use Rattle.dalvik_defs.specs.declared.state.Value.TheVariants.{Word}
use Rattle.dalvik_defs.specs.Silence.{key_in}
use Rattle.dalvik_defs.specs.Under.{class_named}
use Rattle.dalvik_defs.specs.Examples.{with_m}
use Rattle.dalvik_defs.specs.declared.encoded.NamedValue.{NamedValue, fold-roll-NamedValue}
use Rattle.dalvik_defs.specs.declared.encoded.NamedValue.TheOpen as layer
use Rattle.dalvik_defs.specs.declared.encoded.NamedValue.TheVariants as value
use Rattle.dalvik_defs.specs.declared.program.NamedBody.{NamedBody}
use Rattle.dalvik_defs.specs.declared.program.NamedClass.{NamedClass}
use Rattle.dalvik_defs.specs.declared.program.NamedMethod.{NamedMethod}
use Rattle.pass_defs.specs.Kinds.{is_plain, Undefined, Reference}
use Rattle.pass_defs.specs.Typed.{Table, IsTyping}
use Rattle.pass_defs.specs.TypedExamples.{b_with, m_with, reads_s, tabled}
use Rattle.run_laws.specs.Holds.{Each}
use Rattle.run_laws.specs.Regular.{reads_value, suits, taken}
use Rattle.run_laws.specs.Examples.{reads_text}
use Rattle.run_laws.proofs.Climbs.{some_one, found_each, name_of}
use Rattle.run_laws.proofs.examples.a_program_is_regular.Goals as goal

-- what holds of each of some holds of one of them
one_of : {A : Type 0} (P : A → Type 0) (xs : List A) (x : A) → Each P xs → Contains xs x → P x
one_of P [] x h i = let l : i.0 < 0 = i.1 in absurd (omega (arith, l))
one_of P (y ∷ ys) x h (zero, l, i) = subst P i h.0
one_of P (y ∷ ys) x h (suc n, l, i) = one_of P ys x h.1 (n, omega (arith, l), i)

abbrev body : NamedBody
body = reads_s object_type

abbrev a_class : NamedClass
a_class = with_m void body

abbrev table : Table
table = tabled ((Undefined ∷ []) ∷ (Reference ∷ []) ∷ [])

-- what holds of m holds of each method with a body
only_m : (P : NamedClass → NamedMethod → NamedBody → Type 0) → P a_class (m_with void body) body → (c : NamedClass) (m : NamedMethod) (b : NamedBody) → Contains reads_text.classes c → Contains c.methods m → m.body ≡ Some b → P c m b
only_m P h c m b ci = one_of (λ c. Contains c.methods m → m.body ≡ Some b → P c m b) reads_text.classes c (in_a, (nowhere, (nowhere, tt))) ci
  where
    nowhere : {Q : Type 0} → Contains [] m → Q
    nowhere i = let l : i.0 < 0 = i.1 in absurd (omega (arith, l))

    in_a : Contains a_class.methods m → m.body ≡ Some b → P a_class m b
    in_a i = one_of (λ m. m.body ≡ Some b → P a_class m b) a_class.methods m (λ e. subst (P a_class (m_with void body)) (some_one body b e) h, tt) i

text_suits : suits object_type (first_value (value.Str (codes "t"))) ≡ true
text_suits = ap (λ (z : NamedValue). suits object_type (first_value z)) (sym (value.rolls-Str (codes "t"))) ∙ ap (suits object_type) (fold-roll-NamedValue Value Value Value first_layer (λ e. Word 0) (λ n. Word 0) (layer.Str (codes "t")))

pub returns : goal.returns
returns c = record {
  typed = record { bodies = only_m (λ c m b. (t : Table) × IsTyping reads_text c m b t) (table, record { long = refl; entry = refl; reads = refl; right = refl; edges = refl }) };
  named = λ c i. one_of (λ c. class_named reads_text c.name ≡ Some c) reads_text.classes c (refl, (refl, (refl, tt))) i;
  class_types = λ t d. class_type t (class_named reads_text t) refl d;
  methods = λ c m ci mi. one_of (λ c. Contains c.methods m → defined_method reads_text (key_in c m) ≡ Some m) reads_text.classes c
      ((λ i. one_of (λ m. defined_method reads_text (key_in a_class m) ≡ Some m) a_class.methods m (refl, tt) i), (nowhere, (nowhere, tt))) ci mi;
  above_interfaces = λ t c e i. found_each (λ c. is_interface c.flags ≡ true → Each (λ u. is_plain reads_text u ≡ false) (c.superclass ∷ c.interfaces)) (λ c. text_eq c.name t) reads_text.classes c
      ((λ j. absurd (true≢false (sym j))), ((λ j. absurd (true≢false (sym j))), ((λ j. (refl, tt)), tt))) e i;
  firsts = λ c g v ci gi e. one_of (λ c. Contains c.fields g → suits g.kind (first_value v) ≡ true) reads_text.classes c
      (nowhere, ((λ i. one_of (λ g. g.first ≡ Some v → suits g.kind (first_value v) ≡ true) text_class.fields g ((λ j. subst (λ v. suits object_type (first_value v) ≡ true) (some_one (value.Str (codes "t")) v j) text_suits), tt) i e), (nowhere, tt))) ci gi;
  entries = only_m (λ c m b. b.ins ≡ taken m) refl;
  reads = λ c m b x ci mi e i. only_m (λ c m b. Contains b.forms x → reads_value x ≡ true) (λ j. one_of (λ x. reads_value x ≡ true) body.forms x (refl, (refl, tt)) j) c m b ci mi e i;
}
  where
    nowhere : {A Q : Type 0} {x : A} → Contains [] x → Q
    nowhere i = let l : i.0 < 0 = i.1 in absurd (omega (arith, l))

    text_class : NamedClass
    text_class = b_with object_type (Some (value.Str (codes "t")))

    class_type : (t : Text) (o : Option NamedClass) → class_named reads_text t ≡ o → (elim o as (λ o. Bool) [ Some c ↦ true | None ↦ false ]) ≡ true → is_class_type t ≡ true
    class_type t None e d = absurd (true≢false (sym d))
    class_type t (Some c) e d = subst (λ u. is_class_type u ≡ true) (name_of reads_text t c e) (found_each (λ c. is_class_type c.name ≡ true) (λ c. text_eq c.name t) reads_text.classes c (refl, (refl, (refl, tt))) e)
