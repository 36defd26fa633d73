-- The face of the program in which loose methods are static: all but which methods are found is what it was.
use Rattle.std.proofs.Common.{◌≡◌, ℕ, zero, suc, Bool, true, false, List, [], ◌++◌, length, refl, sym, ap, ◌∙◌}
use std.Path.{fun_ext}
use Rattle.std.specs.Prelude.{◌&&◌, not, Option, Some, None, flat_map, is_some}
use Rattle.std.specs.List.{list_any, list_all}
use Rattle.std.specs.Option.{option_map}
use Rattle.lemmas.proofs.Bools.{and_false}
use Rattle.dalvik_defs.specs.Names.{Text, text_eq, initialiser_name, void}
use Rattle.dalvik_defs.specs.Flags.{is_static, is_interface}
use Rattle.dalvik_defs.specs.Under.{class_named, defines}
use Rattle.dalvik_defs.specs.Find.{chain_of, interface_named, is_virtual_method, is_037, method_in, finds_statically, finds_super}
use Rattle.dalvik_defs.specs.Initialised.{is_initialiser, initialiser_key, initialiser_in, initialiser_of, has_default, only_if, interfaces_before, firsts, interfaces_first, first_of_class, initialised_first, has_initialiser, interfaces_quiet, is_trivial}
use Rattle.dalvik_defs.specs.Face.{Face, Place, place_of, declared_in, finds_virtually, face_of}
use Rattle.dalvik_defs.specs.declared.names.MethodKey.{MethodKey}
use Rattle.dalvik_defs.specs.declared.names.FieldKey.{FieldKey}
use Rattle.dalvik_defs.specs.declared.program.NamedMethod.{NamedMethod}
use Rattle.dalvik_defs.specs.declared.program.NamedClass.{NamedClass}
use Rattle.dalvik_defs.specs.declared.program.NamedProgram.{NamedProgram}
use Rattle.dalvik_defs.specs.declared.tables.Framework.{Framework}
use Rattle.pass_defs.specs.Loose.{static_method, static_class, staticised}
use Rattle.program_laws.proofs.ChangedLists.{any_map, all_map}
use Rattle.program_laws.specs.Renames.{finding_of, face_with}
use Rattle.static_law.specs.Static.{IsOldAt, key, IsSound, made_static}
use Rattle.program_laws.proofs.Heads.{class_case}
use Rattle.program_laws.proofs.Remade.{class_same, at_class, count, chain_same, field_same, interface_same, flags_same, defines_same, framed_same, outward_same, own_field_same}
use Rattle.static_law.proofs.Methods.{unless, recalled, stays, method_left}
use Rattle.static_law.proofs.LookUps.{some_mapped}

-- no new name is the one of an initialiser
pub old_void : (loose : MethodKey → Bool) (t n r : Text) → IsOldAt loose t n (record { parameters = []; result = r })
old_void loose t n r k e l = ap (λ b. text_eq k.name n && b) (and_false (text_eq k.signature.result r)) ∙ and_false (text_eq k.name n)

module _ (p : NamedProgram) (loose : MethodKey → Bool) (sound : IsSound p loose) where
  abbrev new : NamedClass → List NamedMethod
  new = made_static p loose

  abbrev other : NamedClass → NamedClass
  other = static_class p loose

  abbrev q : NamedProgram
  q = staticised p loose

  -- what is said of a class that stands under a name
  pub at_named : {X : Type 0} (f g : NamedClass → X) (z : X) (t : Text) → ((c : NamedClass) → class_named p t ≡ Some c → f (other c) ≡ g c) → class_case f z (class_named q t) ≡ class_case g z (class_named p t)
  at_named {X} f g z t h = ap (class_case f z) (class_same new p t) ∙ by (class_named p t) refl
    where
      by : (o : Option NamedClass) → class_named p t ≡ o → class_case f z (option_map other o) ≡ class_case g z o
      by None e = refl
      by (Some c) e = h c e

  -- ---- initialisers

  abbrev initialiser_case : NamedClass → Option NamedMethod → Option MethodKey
  initialiser_case c o = elim o as (λ o. Option MethodKey) [ Some m ↦ elim (is_initialiser m) as (λ b. Option MethodKey) [ true ↦ Some (initialiser_key c.name) | false ↦ None ] | None ↦ None ]

  begins : (m : NamedMethod) → is_initialiser (recalled p loose m) ≡ is_initialiser m
  begins m = ap (λ b. is_static m.flags && b) (some_mapped p loose m.body)

  initialiser_in_same : (t : Text) (c : NamedClass) → class_named p t ≡ Some c → initialiser_in (other c) ≡ initialiser_in c
  initialiser_in_same t c e =
      ap (initialiser_case (other c)) (method_left p loose c initialiser_name void (old_void loose c.name initialiser_name void.result))
      ∙ by (loose (key c.name initialiser_name void)) (method_in c initialiser_name void) refl refl
    where
      by : (l : Bool) (o : Option NamedMethod) → loose (key c.name initialiser_name void) ≡ l → method_in c initialiser_name void ≡ o
          → initialiser_case (other c) (unless l (option_map (recalled p loose) o)) ≡ initialiser_case c o
      by false None l i = refl
      by true None l i = refl
      by false (Some m) l i = ap (λ b. elim b as (λ b. Option MethodKey) [ true ↦ Some (initialiser_key c.name) | false ↦ None ]) (begins m)
      by true (Some m) l i = sym (ap (λ b. elim (b && is_some m.body) as (λ b. Option MethodKey) [ true ↦ Some (initialiser_key c.name) | false ↦ None ]) (sound.receiver t c initialiser_name void m e i l))

  pub initialiser_same : initialiser_of q ≡ initialiser_of p
  initialiser_same = fun_ext (λ t. at_named initialiser_in initialiser_in None t (initialiser_in_same t))

  default_same : (t : Text) (c : NamedClass) → interface_named p t ≡ Some c → has_default (other c) ≡ has_default c
  default_same t c e = any_map (λ m. is_virtual_method m && is_some m.body) (static_method p loose c) c.methods
      ∙ ap (λ f. list_any f c.methods) (fun_ext (λ m. ap (λ x. is_virtual_method x && is_some x.body) (stays p loose c m (sound.inner t c e m.name m.signature)) ∙ ap (λ b. is_virtual_method m && b) (some_mapped p loose m.body)))

  abbrev before_case : (List Text → List Text) → Text → NamedClass → List Text
  before_case next t c = next c.interfaces ++ only_if (has_default c) t

  before_same : (n : ℕ) → interfaces_before n q ≡ interfaces_before n p
  before_same zero = refl
  before_same (suc n) = fun_ext (λ ts.
      ap (λ f. flat_map f ts) (fun_ext (λ t. ap (class_case (before_case (interfaces_before n q) t) []) (interface_same new p t) ∙ by t (interface_named p t) refl (interfaces_before n q)))
      ∙ ap (λ next. flat_map (λ t. class_case (before_case next t) [] (interface_named p t)) ts) (before_same n))
    where
      by : (t : Text) (o : Option NamedClass) → interface_named p t ≡ o → (next : List Text → List Text) → class_case (before_case next t) [] (option_map other o) ≡ class_case (before_case next t) [] o
      by t None e next = refl
      by t (Some c) e next = ap (λ b. next c.interfaces ++ only_if b t) (default_same t c e)

  interfaces_first_same : (c : NamedClass) → interfaces_first q (other c) ≡ interfaces_first p c
  interfaces_first_same c = ap (λ ts. elim (is_037 p.version) as (λ b. List Text) [ true ↦ firsts ts | false ↦ [] ])
      (ap (λ n. interfaces_before n q c.interfaces) (count new p) ∙ ap (λ f. f c.interfaces) (before_same (length p.classes)))

  first_of_same : (c : NamedClass) → first_of_class q (other c) ≡ first_of_class p c
  first_of_same c =
      ap {A = Text → Bool} {B = List Text} (λ d. elim (is_interface c.flags) as (λ b. List Text) [ true ↦ [] | false ↦ only_if (d c.superclass) c.superclass ++ interfaces_first q (other c) ]) (defines_same new p)
      ∙ ap (λ ts. elim (is_interface c.flags) as (λ b. List Text) [ true ↦ [] | false ↦ only_if (defines p c.superclass) c.superclass ++ ts ]) (interfaces_first_same c)

  initialised_same : initialised_first q ≡ initialised_first p
  initialised_same = fun_ext (at_class new p (first_of_class q) (first_of_class p) [] first_of_same)

  quiet_same : (n : ℕ) → interfaces_quiet n q ≡ interfaces_quiet n p
  quiet_same zero = refl
  quiet_same (suc n) = fun_ext (λ ts. ap (λ f. list_all f ts) (fun_ext (λ t.
      at_class new p (λ c. not (is_some (initialiser_of q t)) && interfaces_quiet n q c.interfaces) (λ c. not (is_some (initialiser_of q t)) && interfaces_quiet n q c.interfaces) true (λ c. refl) t
      ∙ ap (λ i. class_case (λ c. not (is_some (i t)) && interfaces_quiet n q c.interfaces) true (class_named p t)) initialiser_same
      ∙ ap (λ next. class_case (λ c. not (is_some (initialiser_of p t)) && next c.interfaces) true (class_named p t)) (quiet_same n))))

  trivial_at : (t : Text) → is_trivial q t ≡ is_trivial p t
  trivial_at t =
      ap (list_all (λ c. not (has_initialiser q c.name) && interfaces_quiet (length q.classes) q c.interfaces)) (chain_same new p t)
      ∙ all_map (λ c. not (has_initialiser q c.name) && interfaces_quiet (length q.classes) q c.interfaces) other (chain_of p t)
      ∙ ap (λ i. list_all (λ c. not (is_some (i c.name)) && interfaces_quiet (length q.classes) q c.interfaces) (chain_of p t)) initialiser_same
      ∙ ap (λ n. list_all (λ c. not (has_initialiser p c.name) && interfaces_quiet n q c.interfaces) (chain_of p t)) (count new p)
      ∙ ap (λ f. list_all (λ c. not (has_initialiser p c.name) && f c.interfaces) (chain_of p t)) (quiet_same (length p.classes))

  -- ---- the face

  abbrev face_by : Framework → (Text → Option ℕ) → (Text → Text → Bool) → (Text → Bool) → (FieldKey → Option Place) → (FieldKey → Option Place) → (Text → Option MethodKey) → (Text → List Text) → (Text → Bool) → Face
  face_by f flags under outward field own initialiser first trivial = record {
    flags = flags;
    under = under;
    outward = outward;
    statically = finds_statically q;
    above = finds_super q;
    virtually = finds_virtually q f;
    declared = declared_in q;
    field = field;
    own_field = own;
    initialiser = initialiser;
    first = first;
    trivial = trivial;
  }

  pub face_same : (f : Framework) → face_of q f ≡ face_with (face_of p f) (finding_of (face_of q f))
  face_same f =
      let a = face_of q f in let b = face_of p f in
      ap (λ x. face_by f x a.under a.outward a.field a.own_field a.initialiser a.first a.trivial) (fun_ext (flags_same new p))
      ∙ ap (λ x. face_by f b.flags x a.outward a.field a.own_field a.initialiser a.first a.trivial) (framed_same new p f)
      ∙ ap (λ x. face_by f b.flags b.under x a.field a.own_field a.initialiser a.first a.trivial) (outward_same new p)
      ∙ ap (λ x. face_by f b.flags b.under b.outward (λ k. option_map (λ c. place_of c.0 c.1) (x k)) a.own_field a.initialiser a.first a.trivial) (field_same new p)
      ∙ ap (λ x. face_by f b.flags b.under b.outward b.field (λ k. option_map (place_of k.class) (x k)) a.initialiser a.first a.trivial) (own_field_same new p)
      ∙ ap (λ x. face_by f b.flags b.under b.outward b.field b.own_field x a.first a.trivial) initialiser_same
      ∙ ap (λ x. face_by f b.flags b.under b.outward b.field b.own_field b.initialiser x a.trivial) initialised_same
      ∙ ap (λ x. face_by f b.flags b.under b.outward b.field b.own_field b.initialiser b.first x) (fun_ext trivial_at)
