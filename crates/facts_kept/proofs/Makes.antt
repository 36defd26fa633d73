-- What the framework makes is a class that is kept or has a kept constructor, where kept constructors are those of classes
-- that define them.
use Rattle.std.proofs.Common.{◌≡◌, Bool, true, false, true≢false, Option, Some, None, refl, sym, ap, ◌∙◌, subst}
use Rattle.std.specs.Prelude.{◌&&◌, ◌||◌, not, is_some}
use Rattle.std.specs.List.{list_any}
use Rattle.std.specs.Option.{option_map}
use Rattle.dalvik_defs.specs.Face as face
use Rattle.dalvik_defs.specs.Face.{face_of}
use Rattle.dalvik_defs.specs.Find.{defined_method, method_in}
use Rattle.dalvik_defs.specs.Flags.{is_abstract, is_interface}
use Rattle.dalvik_defs.specs.Legal.{may_make}
use Rattle.dalvik_defs.specs.Names.{Text, constructor_name, same_name, text_eq}
use Rattle.dalvik_defs.specs.Outer.{Outer}
use Rattle.dalvik_defs.specs.Silence.{key_in}
use Rattle.dalvik_defs.specs.Under.{class_named}
use Rattle.dalvik_defs.specs.declared.names.MethodKey.{MethodKey}
use Rattle.dalvik_defs.specs.declared.program.NamedClass.{NamedClass}
use Rattle.dalvik_defs.specs.declared.program.NamedMethod.{NamedMethod}
use Rattle.dalvik_defs.specs.declared.program.NamedProgram.{NamedProgram}
use Rattle.dalvik_defs.specs.declared.tables.Framework.{Framework}
use Rattle.dalvik_defs.proofs.Calm.{text_sound}
use Rattle.pass_defs.specs.Demands.{is_constructor_name}
use Rattle.pass_defs.specs.Facts.{keeps_constructor, may_be_made}
use Rattle.pass_defs.specs.Live.{is_concrete}
use Rattle.removal_law.specs.Reach.{AgreesInside}
use Rattle.removal_law.proofs.Lists.{and_left, and_behind, found_in}
use Rattle.removal_law.proofs.Members.{key_sound}
use Rattle.removal_law.proofs.Outward.{any_here}
use Rattle.removal_law.proofs.Trees.{class_name}
use Rattle.facts_kept.specs.Apart.{ConstructsByOwn}

both_true : (a b : Bool) → a ≡ true → b ≡ true → (a && b) ≡ true
both_true true b h k = k
both_true false b h k = h

module _ (p : NamedProgram) (o : Outer) (f : Framework) (inside : AgreesInside o) (own : ConstructsByOwn p o) where
  concrete_same : (t : Text) → face.is_concrete (face_of p f) t ≡ is_concrete p t
  concrete_same t = by (class_named p t)
    where
      by : (o : Option NamedClass) → (elim (option_map (λ c. c.flags) o) as (λ o. Bool) [ Some n ↦ not (is_interface n) && not (is_abstract n) | None ↦ false ])
          ≡ (elim o as (λ o. Bool) [ Some c ↦ not (is_interface c.flags) && not (is_abstract c.flags) | None ↦ false ])
      by (Some c) = refl
      by None = refl

  -- a kept constructor is one of the class's own methods
  own_there : (k : MethodKey) → is_some (defined_method p k) ≡ true → o.methods k ≡ true → is_constructor_name k.name ≡ true → keeps_constructor p o k.class ≡ true
  own_there k d kept named = by (class_named p k.class) refl d
    where
      of_class : (c : NamedClass) → class_named p k.class ≡ Some c → (x : Option NamedMethod) → method_in c k.name k.signature ≡ x → is_some x ≡ true
          → list_any (λ m. is_constructor_name m.name && o.methods (key_in c m)) c.methods ≡ true
      of_class c e None i h = absurd (true≢false (sym h))
      of_class c e (Some m) i h =
          let at = found_in (λ m. same_name m.name m.signature k.name k.signature) c.methods m i in
          let same : key_in c m ≡ k = key_sound c m k.name k.signature at.passes ∙ ap (λ t. record { class = t; name = k.name; signature = k.signature }) (class_name p k.class c e) in
          any_here (λ m. is_constructor_name m.name && o.methods (key_in c m)) m c.methods at.is_in
          (both_true (is_constructor_name m.name) (o.methods (key_in c m)) (ap (λ z. is_constructor_name z.name) same ∙ named) (ap o.methods same ∙ kept))

      by : (x : Option NamedClass) → class_named p k.class ≡ x → is_some (elim x as (λ x. Option NamedMethod) [ Some c ↦ method_in c k.name k.signature | None ↦ None ]) ≡ true
          → (elim x as (λ x. Bool) [ Some c ↦ list_any (λ m. is_constructor_name m.name && o.methods (key_in c m)) c.methods | None ↦ false ]) ≡ true
      by None e h = absurd (true≢false (sym h))
      by (Some c) e h = of_class c e (method_in c k.name k.signature) refl h

  constructed : (t : Text) → is_concrete p t ≡ true → o.constructed t ≡ true → keeps_constructor p o t ≡ true
  constructed t c h =
      let r = inside.constructed t h in
      let k = r.0 in
      let kept = r.1.0 in
      let class = text_sound k.class t (and_left (text_eq k.class t) (text_eq k.name constructor_name) r.1.1) in
      let name = and_behind (text_eq k.class t) (text_eq k.name constructor_name) r.1.1 in
      subst (λ t. keeps_constructor p o t ≡ true) class (own_there k (own k kept name (subst (λ t. is_concrete p t ≡ true) (sym class) c)) kept name)

  pub makes_there : (t : Text) → may_make (face_of p f) o t ≡ true → may_be_made p o t ≡ true
  makes_there t h =
      let c : is_concrete p t ≡ true = sym (concrete_same t) ∙ and_behind (o.classes t || o.constructed t) (face.is_concrete (face_of p f) t) h in
      both_true (o.classes t || keeps_constructor p o t) (is_concrete p t) (by (o.classes t) (and_left (o.classes t || o.constructed t) (face.is_concrete (face_of p f) t) h) (constructed t c)) c
    where
      by : (b : Bool) → (b || o.constructed t) ≡ true → (o.constructed t ≡ true → keeps_constructor p o t ≡ true) → (b || keeps_constructor p o t) ≡ true
      by true h more = refl
      by false h more = more h
