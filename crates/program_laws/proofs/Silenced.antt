-- The program without its silent calls is the one with other bodies, and is typed.
use Rattle.std.proofs.Common.{◌≡◌, Bool, true, false, true≢false, refl, sym, ap, ◌∙◌, subst}
use std.Path.{fun_ext}
use Rattle.std.specs.Prelude.{Option, Some, None, Contains, map, is_some}
use Rattle.std.specs.Option.{option_map}
use Rattle.dalvik_defs.specs.Face.{face_of}
use Rattle.dalvik_defs.specs.Outer.{Outer}
use Rattle.dalvik_defs.specs.Silence.{silenced_body, key_in, silenced_method, silenced}
use Rattle.dalvik_defs.specs.declared.names.MethodKey.{MethodKey}
use Rattle.dalvik_defs.specs.declared.program.NamedBody.{NamedBody}
use Rattle.dalvik_defs.specs.declared.program.NamedMethod.{NamedMethod}
use Rattle.dalvik_defs.specs.declared.program.NamedClass.{NamedClass}
use Rattle.dalvik_defs.specs.declared.program.NamedProgram.{NamedProgram}
use Rattle.dalvik_defs.specs.declared.tables.Framework.{Framework}
use Rattle.pass_defs.specs.Typed.{Table, IsTyping, IsTyped}
use Rattle.program_laws.specs.Bodies.{Change, same_lines, method_changed, changed, KeepsCode}
use Rattle.program_laws.specs.Results.{AllTakeInPlace}
use Rattle.program_laws.proofs.ChangedFaces.{face_same}
use Rattle.program_laws.proofs.Moved.{moved_typed}
use Rattle.program_laws.proofs.Raised.{raised, silent_typing}

module _ (p : NamedProgram) (o : Outer) (admitted : MethodKey → Bool) where
  abbrev silent_if : Bool → Option NamedBody → Option NamedBody
  silent_if b x = elim b as (λ b. Option NamedBody) [ true ↦ option_map (silenced_body p o) x | false ↦ x ]

  abbrev silent : Change
  silent c m = same_lines m (silent_if (admitted (key_in c m)) m.body)

  still_coded : KeepsCode silent
  still_coded c m = by (admitted (key_in c m)) m.body
    where
      by : (b : Bool) (x : Option NamedBody) → is_some (silent_if b x) ≡ is_some x
      by true None = refl
      by true (Some x) = refl
      by false x = refl

  one_method : (c : NamedClass) (m : NamedMethod) → silenced_method p o admitted c m ≡ method_changed silent c m
  one_method c m = by (admitted (key_in c m))
    where
      by : (b : Bool) → elim b as (λ b. NamedMethod) [ true ↦ record m { body = option_map (silenced_body p o) m.body } | false ↦ m ] ≡ record m { body = silent_if b m.body }
      by true = refl
      by false = refl

  is_changed : silenced p o admitted ≡ changed silent p
  is_changed = ap (λ (f : NamedClass → NamedClass). record p { classes = map f p.classes }) (fun_ext (λ c. ap (λ (g : NamedMethod → NamedMethod). record c { methods = map g c.methods }) (fun_ext (one_method c))))

  pub silenced_face : (f : Framework) → face_of (silenced p o admitted) f ≡ face_of p f
  silenced_face f = ap (λ q. face_of q f) is_changed ∙ face_same silent p still_coded f

  some_body : (a b : NamedBody) → Some a ≡ Some b → a ≡ b
  some_body a b e = ap (λ o. elim o as (λ o. NamedBody) [ Some x ↦ x | None ↦ a ]) e

  none_body : (b : NamedBody) {A : Type 0} → None ≡ Some b → A
  none_body b e = absurd (true≢false (ap (λ o. elim o as (λ o. Bool) [ Some x ↦ false | None ↦ true ]) e))

  typing_of : AllTakeInPlace p → IsTyped p → (c : NamedClass) (m : NamedMethod) (b : NamedBody) → Contains p.classes c → Contains c.methods m → (silent c m).body ≡ Some b → (t : Table) × IsTyping p c m b t
  typing_of places typed c m b i j e = by (admitted (key_in c m)) m.body refl e
    where
      by : (x : Bool) (y : Option NamedBody) → m.body ≡ y → silent_if x y ≡ Some b → (t : Table) × IsTyping p c m b t
      by false y h e = typed.bodies c m b i j (h ∙ e)
      by true None h e = none_body b e
      by true (Some x) h e =
          let r = typed.bodies c m x i j h in
          subst (λ z. (t : Table) × IsTyping p c m z t) (some_body (silenced_body p o x) b e)
          (raised p x.forms r.0, silent_typing p c m x (places c m x i j h) r.0 o r.1)

  pub silenced_typed : AllTakeInPlace p → IsTyped p → IsTyped (silenced p o admitted)
  silenced_typed places typed = subst IsTyped (sym is_changed) (moved_typed silent still_coded p (typing_of places typed))
