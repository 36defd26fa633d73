-- In a well-formed program without a class that is defined twice a name is had once.
use Rattle.std.proofs.Common.{◌≡◌, inl, inr, ℕ, zero, suc, ◌<◌, Bool, true, List, [], ◌∷◌, map, length, Option, Some, None, refl, sym, ap, ◌∙◌, subst, arith}
use Rattle.std.specs.Prelude.{◌&&◌, slice_get}
use Rattle.std.specs.Option.{option_map}
use Rattle.std.specs.List.{list_all}
use Rattle.std.proofs.lemmas.Bool.{cases_order}
use Rattle.std.proofs.lemmas.Option.{slice_get-map, slice_get_within}
use Rattle.lemmas.proofs.Options.{before_map}
use Rattle.program_model.specs.Distinct.{own_method_key, all_differ}
use Rattle.program_model.specs.Neighbours.{neighbours}
use Rattle.program_model.specs.ValueRules.{marks_fit}
use Rattle.program_model.specs.MemberRules.{fields_fit, method_fits, methods_in_order, methods_fit, types_of_class_fit, source_fits, class_fits}
use Rattle.program_model.specs.ProgramRules.{is_well_formed}
use Rattle.program_model.specs.declared.pools.MethodName.{MethodName}
use Rattle.program_model.specs.declared.program.Method.{Method}
use Rattle.program_model.specs.declared.program.Class.{Class}
use Rattle.program_model.specs.declared.program.Program.{Program}
use Rattle.class_defs.specs.ClassGraph.{IsTwice}
use Rattle.dalvik_defs.specs.Names.{text_eq, same_name}
use Rattle.dalvik_defs.specs.Naming.{type_at, text_at, signature_at, method_at, named_method, named_class, named}
use Rattle.dalvik_defs.specs.Silence.{key_in}
use Rattle.dalvik_defs.specs.declared.names.MethodKey.{MethodKey}
use Rattle.dalvik_defs.specs.declared.program.NamedMethod.{NamedMethod}
use Rattle.dalvik_defs.specs.declared.program.NamedClass.{NamedClass}
use Rattle.dalvik_defs.proofs.Calm.{text_sound}
use Rattle.program_laws.proofs.Keys.{key_found}
use Rattle.name_bridge.proofs.Tables.{Sound, sound, and_left, and_right, all_at, same_number, type_once, method_once}
use Rattle.name_bridge.proofs.Classes.{ClassFits, MethodFits, class_parts}
use Rattle.bodies_kept.specs.Unique.{IsUnique}
use Rattle.bodies_kept.proofs.Changing.{same_text}

-- what a named item is named of
there : {A B : Type 0} (f : A → B) (xs : List A) (i : ℕ) (y : B) → slice_get (map f xs) i ≡ Some y → (x : A) × ((slice_get xs i ≡ Some x) × (f x ≡ y))
there f xs i y e = before_map f (slice_get xs i) y (sym (slice_get-map f xs i) ∙ e)

methods_differ : (p : Program) (c : Class) → class_fits p c ≡ true → all_differ own_method_key c.methods ≡ true
unfolding class_fits methods_fit
methods_differ p c h =
    let two = and_right (types_of_class_fit p c && (source_fits p c.source && marks_fit p c.marks)) (fields_fit p c.name c.fields && methods_fit p c.name c.methods) h in
    let three = and_right (fields_fit p c.name c.fields) (methods_fit p c.name c.methods) two in
    and_right (list_all (methods_in_order p) (neighbours c.methods)) (all_differ own_method_key c.methods)
    (and_right (list_all (method_fits p c.name) c.methods) (list_all (methods_in_order p) (neighbours c.methods) && all_differ own_method_key c.methods) three)

module _ (p : Program) (s : Sound p) (once : (class : ℕ) → IsTwice p class → ⊥) where
  class_apart : (i j : ℕ) (c d : Class) → slice_get p.classes i ≡ Some c → slice_get p.classes j ≡ Some d → c.name ≡ d.name → i ≡ j
  class_apart i j c d h g e = elim (cases_order i j) [
    | inl same ↦ same
    | inr (inl lt) ↦ absurd (once j (record { earlier = i; before = lt; one = c; other = d; is_one = h; is_other = g; same = e }))
    | inr (inr gt) ↦ absurd (once i (record { earlier = j; before = gt; one = d; other = c; is_one = g; is_other = h; same = sym e }))
  ]

  classes : (i j : ℕ) (c d : NamedClass) → slice_get (named p).classes i ≡ Some c → slice_get (named p).classes j ≡ Some d → text_eq c.name d.name ≡ true → i ≡ j
  classes i j c d h g t =
      let x : (x : Class) × ((slice_get p.classes i ≡ Some x) × (named_class p x ≡ c)) = there (named_class p) p.classes i c h in
      let y : (y : Class) × ((slice_get p.classes j ≡ Some y) × (named_class p y ≡ d)) = there (named_class p) p.classes j d g in
      let fx : ClassFits p x.0 = class_parts p s i x.0 x.1.0 in
      let fy : ClassFits p y.0 = class_parts p s j y.0 y.1.0 in
      let same : type_at p x.0.name ≡ type_at p y.0.name = ap (λ k. k.name) x.1.1 ∙ text_sound c.name d.name t ∙ sym (ap (λ k. k.name) y.1.1) in
      class_apart i j x.0 y.0 x.1.0 y.1.0 (type_once p s x.0.name y.0.name fx.name fy.name same)

  own_class : (n : ℕ) (e : MethodName) → slice_get p.methods n ≡ Some e → (method_at p n).class ≡ type_at p e.class
  own_class n e h = by (slice_get p.methods n) h
    where
      by : (o : Option MethodName) → o ≡ Some e → (elim o as (λ o. MethodKey) [ Some m ↦ record { class = type_at p m.class; name = text_at p m.name; signature = signature_at p m.proto } | None ↦ record { class = []; name = []; signature = record { parameters = []; result = [] } } ]).class
          ≡ type_at p e.class
      by None k = absurd (cc)
      by (Some m) k = let same : m ≡ e = cc in ap (λ m. type_at p m.class) same

  own_key : (c : Class) (m : Method) → MethodFits p c.name m → method_at p m.name ≡ key_in (named_class p c) (named_method p m)
  own_key c m f = ap (λ t. record { class = t; name = (method_at p m.name).name; signature = (method_at p m.name).signature }) (own_class m.name f.entry f.is ∙ ap (type_at p) f.owner)

  own_methods : (k i j : ℕ) (c : Class) (m n : Method) → slice_get p.classes k ≡ Some c → slice_get c.methods i ≡ Some m → slice_get c.methods j ≡ Some n
      → same_name (named_method p m).name (named_method p m).signature (named_method p n).name (named_method p n).signature ≡ true → i ≡ j
  own_methods k i j c m n h g l t =
      let fits : ClassFits p c = class_parts p s k c h in
      let fm : MethodFits p c.name m = fits.methods i m g in
      let fn : MethodFits p c.name n = fits.methods j n l in
      let keys : key_in (named_class p c) (named_method p m) ≡ key_in (named_class p c) (named_method p n) = key_found (named_class p c) (named_method p m) (key_in (named_class p c) (named_method p n)) (same_text (type_at p c.name)) t in
      let names : m.name ≡ n.name = method_once p s m.name n.name (slice_get_within p.methods m.name fm.entry fm.is) (slice_get_within p.methods n.name fn.entry fn.is) (own_key c m fm ∙ keys ∙ sym (own_key c n fn)) in
      same_number own_method_key c.methods i j m n (methods_differ p c (all_at (class_fits p) p.classes k c s.classes_fit h)) g l (ap (λ x. x ∷ []) names)

  methods : (k i j : ℕ) (c : NamedClass) (m n : NamedMethod) → slice_get (named p).classes k ≡ Some c → slice_get c.methods i ≡ Some m → slice_get c.methods j ≡ Some n → same_name m.name m.signature n.name n.signature ≡ true → i ≡ j
  methods k i j c m n h g l t =
      let x : (x : Class) × ((slice_get p.classes k ≡ Some x) × (named_class p x ≡ c)) = there (named_class p) p.classes k c h in
      let y : (y : Method) × ((slice_get x.0.methods i ≡ Some y) × (named_method p y ≡ m)) = there (named_method p) x.0.methods i m (ap (λ z. slice_get z.methods i) x.1.1 ∙ g) in
      let z : (z : Method) × ((slice_get x.0.methods j ≡ Some z) × (named_method p z ≡ n)) = there (named_method p) x.0.methods j n (ap (λ z. slice_get z.methods j) x.1.1 ∙ l) in
      own_methods k i j x.0 y.0 z.0 x.1.0 y.1.0 z.1.0 (ap (λ v. same_name v.name v.signature (named_method p z.0).name (named_method p z.0).signature) y.1.1 ∙ ap (λ v. same_name m.name m.signature v.name v.signature) z.1.1 ∙ t)

  names_once : IsUnique (named p)
  names_once = record { classes = classes; methods = methods }

pub unique_named : (p : Program) → is_well_formed p ≡ true → ((class : ℕ) → IsTwice p class → ⊥) → IsUnique (named p)
unique_named p h once = names_once p (sound p h) once
