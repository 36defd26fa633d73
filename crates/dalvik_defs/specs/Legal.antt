-- Which moves of the framework are legal (this project's profile).
use Rattle.std.specs.Prelude.{Bool, true, false, ◌&&◌, ◌||◌, not, List, [], ◌∷◌, length, Option, Some, None, nat_lt}
use Rattle.std.specs.List.{list_any}
use Rattle.dalvik_defs.specs.Names.{Text, method_eq, text_eq, proto_text, signature_eq, is_common, initialiser_name, void, is_void}
use Rattle.dalvik_defs.specs.Flags.{is_static, is_virtual}
use Rattle.dalvik_defs.specs.Find.{Found, Search, Finds}
use Rattle.dalvik_defs.specs.Face.{Face, Place, is_concrete}
use Rattle.dalvik_defs.specs.Outer.{Outer}
use Rattle.dalvik_defs.specs.State.{World, Value, kind_of}
use Rattle.dalvik_defs.specs.Gives.{gets, fits, all_fit, is_on, may_give}
use Rattle.dalvik_defs.specs.declared.names.MethodKey.{MethodKey}
use Rattle.dalvik_defs.specs.declared.names.FieldKey.{FieldKey}
use Rattle.dalvik_defs.specs.declared.names.Signature.{Signature}
use Rattle.dalvik_defs.specs.declared.script.Given.{Given}
use Rattle.dalvik_defs.specs.declared.script.Given.TheVariants as given

abbrev pub is_class_initialiser : Found → Bool
is_class_initialiser f = is_static f.flags && text_eq f.key.name initialiser_name && signature_eq f.key.signature void

abbrev pub is_found : MethodKey → Search → Bool
is_found k (Finds g) = method_eq g.key k
is_found k s = false

-- The framework calls back a virtual method that isn't shut and that the receiver's class finds, where that class has a
-- framework ancestor other than Object, or every object answers to the method.
abbrev pub calls_back : Face → Outer → Text → Found → Bool
calls_back face outer class f =
    is_virtual f.flags f.key.name && not (outer.shut f.key) && is_found f.key (face.virtually class f.key)
    && (face.outward class || is_common f.key.name f.key.signature)

abbrev pub is_found_virtual : Option Found → Bool
is_found_virtual (Some f) = is_virtual f.flags f.key.name
is_found_virtual None = false

-- whether a class lies under one with a kept virtual method of a name and signature
abbrev pub keeper_above : Face → Outer → Text → Text → Signature → Bool
keeper_above face outer class name signature =
    list_any (λ c. face.under class c && is_found_virtual (face.declared c name (proto_text signature))) (outer.keepers name signature)

-- The framework calls a kept virtual method, and runs what the receiver's class finds for it.
abbrev pub answers_kept : Face → Outer → Text → Found → Bool
answers_kept face outer class f =
    is_virtual f.flags f.key.name && is_found f.key (face.virtually class f.key) && keeper_above face outer class f.key.name f.key.signature

abbrev pub may_reach : Face → Outer → Text → Found → Bool
may_reach face outer class f = outer.methods f.key || answers_kept face outer class f || calls_back face outer class f

abbrev pub receiver_ok : Face → Outer → World → Found → List Value → Bool
receiver_ok face outer w f [] = false
receiver_ok face outer w f (v ∷ vs) = is_on face w v f.key.class && may_reach face outer (kind_of w v) f

-- a kept static method, or a method that the framework reaches on its receiver
abbrev pub may_enter_found : Face → Outer → World → World → Found → List Given → List Value → Bool
may_enter_found face outer w w' f gs vs = elim (is_static f.flags) [
  | true ↦ outer.methods f.key && all_fit face outer w w' gs vs f.key.signature.parameters
  | false ↦ all_fit face outer w w' gs vs (f.key.class ∷ f.key.signature.parameters) && receiver_ok face outer w' f vs
]

-- a method with code that its class defines, other than a class's initialiser
abbrev pub may_enter : Face → Outer → World → World → Found → List Given → List Value → Bool
may_enter face outer w w' f gs vs = f.coded && not (is_class_initialiser f) && may_enter_found face outer w w' f gs vs

-- a kept class, or one with a kept constructor
abbrev pub may_make : Face → Outer → Text → Bool
may_make face outer c = (outer.classes c || outer.constructed c) && is_concrete face c

-- an answer to a call or a read of this type: none of void, else a value that fits
abbrev pub may_answer : Face → Outer → World → Text → Option Given → Bool
may_answer face outer w kind None = is_void kind
may_answer face outer w kind (Some g) = let a = gets w g in fits face outer w a.0 g a.1 kind

-- a receiver exactly of a field that isn't static; it isn't null and is under the field's class
abbrev pub on_fits : Face → Outer → World → World → FieldKey → Place → Option Given → Option Value → Bool
on_fits face outer w w' k place None v = is_static place.flags
on_fits face outer w w' k place (Some g) None = false
on_fits face outer w w' k place (Some g) (Some v) = not (is_static place.flags) && may_give face outer w g && is_on face w' v k.class

-- an exposed array
abbrev pub is_exposed : World → Given → Bool
is_exposed w (given.Exposed n) = nat_lt n (length w.exposed)
is_exposed w g = false
