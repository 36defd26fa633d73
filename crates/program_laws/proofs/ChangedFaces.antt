-- A program with other bodies has the face that it had.
use Rattle.std.proofs.Common.{◌≡◌, ℕ, zero, suc, ◌+◌, Bool, true, false, List, [], ◌∷◌, ◌++◌, length, refl, ap, ◌∙◌}
use std.Path.{fun_ext}
use Rattle.std.specs.Prelude.{◌&&◌, ◌||◌, not, Option, Some, None, map, find, flat_map, is_some}
use Rattle.std.specs.List.{list_any, list_all}
use Rattle.std.specs.Option.{option_map}
use Rattle.dalvik_defs.specs.Names.{Text, text_eq, same_name, proto_text, object_type, initialiser_name, void}
use Rattle.dalvik_defs.specs.Flags.{is_static, is_interface}
use Rattle.dalvik_defs.specs.Known.{known_rows}
use Rattle.dalvik_defs.specs.Under.{class_named, defines, row_named, outer_type, above_row, above_in, directly_above, walks, walk_bound, under_types, is_under, reaches_framework, is_outward}
use Rattle.dalvik_defs.specs.Find.{found_in, Search, chain_of, interface_named, is_virtual_method, is_037, field_in, defined_field, finds_at, finds_super, finds_field}
use Rattle.dalvik_defs.specs.Initialised.{is_initialiser, initialiser_key, initialiser_in, initialiser_of, has_default, only_if, interfaces_before, firsts, interfaces_first, first_of_class, initialised_first, has_initialiser, interfaces_quiet, is_trivial}
use Rattle.dalvik_defs.specs.Face.{place_of, declared_in, finds_virtually, face_of}
use Rattle.dalvik_defs.specs.declared.names.MethodKey.{MethodKey}
use Rattle.dalvik_defs.specs.declared.program.NamedMethod.{NamedMethod}
use Rattle.dalvik_defs.specs.declared.program.NamedClass.{NamedClass}
use Rattle.dalvik_defs.specs.declared.program.NamedProgram.{NamedProgram}
use Rattle.dalvik_defs.specs.declared.tables.Framework.{Framework}
use Rattle.dalvik_defs.specs.declared.tables.FrameworkType.{FrameworkType}
use Rattle.program_laws.specs.Bodies.{Change, method_changed, class_changed, changed, KeepsCode}
use Rattle.program_laws.proofs.ChangedLists.{find_same, any_map, all_map}
use Rattle.program_laws.proofs.Heads.{class_case, class_same, case_same, at_class, count, chain_same, method_same, found_same, field_same, static_same, super_same, finds_at_same, interface_same}

module _ (new : Change) (p : NamedProgram) where
  abbrev other : NamedClass → NamedClass
  other = class_changed new

  abbrev q : NamedProgram
  q = changed new p

  -- ---- what is above what

  flags_same : (t : Text) → option_map (λ (c : NamedClass). c.flags) (class_named q t) ≡ option_map (λ c. c.flags) (class_named p t)
  flags_same t = ap (option_map (λ (c : NamedClass). c.flags)) (class_same new p t) ∙ by (class_named p t)
    where
      by : (o : Option NamedClass) → option_map (λ (c : NamedClass). c.flags) (option_map other o) ≡ option_map (λ c. c.flags) o
      by None = refl
      by (Some c) = refl

  pub defines_same : defines q ≡ defines p
  defines_same = fun_ext (at_class new p (λ c. true) (λ c. true) false (λ c. refl))

  outer_same : outer_type q ≡ outer_type p
  outer_same = fun_ext (λ t. ap (λ b. elim b as (λ b. Text) [ true ↦ object_type | false ↦ t ]) (ap (λ d. d t) defines_same))

  row_same : (t : Text) (o : Option FrameworkType) → above_row q t o ≡ above_row p t o
  row_same t None = refl
  row_same t (Some r) = ap (λ f. f r.superclass ∷ map f r.interfaces) outer_same

  directly_same : (f : Framework) → directly_above q f ≡ directly_above p f
  directly_same f = fun_ext (λ t. ap (above_in q f t) (class_same new p t) ∙ by t (class_named p t))
    where
      by : (t : Text) (o : Option NamedClass) → above_in q f t (option_map other o) ≡ above_in p f t o
      by t (Some c) = refl
      by t None = ap (λ ts. elim (text_eq t object_type) as (λ b. List Text) [ true ↦ [] | false ↦ ts ]) (row_same t (row_named f t))

  under_same : (f : Framework) → is_under q f ≡ is_under p f
  under_same f =
      ap (λ n. under_types (walks (directly_above q f) (n + (length (known_rows ++ f.rows) + 2)))) (count new p)
      ∙ ap (λ above. under_types (walks above (walk_bound p f))) (directly_same f)

  abbrev touches : (Text → Bool) → NamedClass → Bool
  touches d c = list_any (λ t. not (d t) && not (text_eq t object_type)) (c.superclass ∷ c.interfaces)

  reaches_same : (n : ℕ) → reaches_framework n q ≡ reaches_framework n p
  reaches_same zero = refl
  reaches_same (suc n) = fun_ext (λ t.
      at_class new p (λ c. touches (defines q) c || list_any (reaches_framework n q) (c.superclass ∷ c.interfaces)) (λ c. touches (defines q) c || list_any (reaches_framework n q) (c.superclass ∷ c.interfaces)) false (λ c. refl) t
      ∙ ap (λ d. class_case (λ c. touches d c || list_any (reaches_framework n q) (c.superclass ∷ c.interfaces)) false (class_named p t)) defines_same
      ∙ ap (λ next. class_case (λ c. touches (defines p) c || list_any next (c.superclass ∷ c.interfaces)) false (class_named p t)) (reaches_same n))

  outward_same : is_outward q ≡ is_outward p
  outward_same = ap (λ n. reaches_framework n q) (count new p) ∙ reaches_same (length p.classes)

  -- ---- fields

  own_field_same : defined_field q ≡ defined_field p
  own_field_same = fun_ext (λ k. at_class new p (λ c. field_in c k.name k.kind) (λ c. field_in c k.name k.kind) None (λ c. refl) k.class)

  module _ (keeps : KeepsCode new) where
    -- ---- methods

    abbrev of_proto : Text → Text → NamedMethod → Bool
    of_proto n x m = text_eq m.name n && text_eq (proto_text m.signature) x

    found_option : (c : NamedClass) (o : Option NamedMethod) → option_map (found_in (other c)) (option_map (method_changed new c) o) ≡ option_map (found_in c) o
    found_option c None = refl
    found_option c (Some m) = ap Some (found_same new p keeps c m)

    declared_same : (t n x : Text) → declared_in q t n x ≡ declared_in p t n x
    declared_same t n x = at_class new p (λ c. option_map (found_in c) (find (of_proto n x) c.methods)) (λ c. option_map (found_in c) (find (of_proto n x) c.methods)) None
        (λ c. ap (option_map (found_in (other c))) (find_same (method_changed new c) (of_proto n x) (λ m. refl) c.methods) ∙ found_option c (find (of_proto n x) c.methods)) t

    some_same : (t : Text) → is_some (class_named q t) ≡ is_some (class_named p t)
    some_same t = ap is_some (class_same new p t) ∙ by (class_named p t)
      where
        by : (o : Option NamedClass) → is_some (option_map other o) ≡ is_some o
        by None = refl
        by (Some c) = refl

    virtually_same : (f : Framework) (t : Text) (k : MethodKey) → finds_virtually q f t k ≡ finds_virtually p f t k
    virtually_same f t k =
        ap (λ b. elim (b && is_under q f t k.class) as (λ b. Search) [ true ↦ finds_at q t k | false ↦ Search.Nothing ]) (some_same t)
        ∙ ap (λ u. elim (is_some (class_named p t) && u t k.class) as (λ b. Search) [ true ↦ finds_at q t k | false ↦ Search.Nothing ]) (under_same f)
        ∙ ap (λ x. elim (is_some (class_named p t) && is_under p f t k.class) as (λ b. Search) [ true ↦ x | false ↦ Search.Nothing ]) (finds_at_same new p keeps t k)

    -- ---- initialisers

    abbrev initialiser_case : NamedClass → Option NamedMethod → Option MethodKey
    initialiser_case c o = elim o as (λ o. Option MethodKey) [ Some m ↦ elim (is_initialiser m) as (λ b. Option MethodKey) [ true ↦ Some (initialiser_key c.name) | false ↦ None ] | None ↦ None ]

    initialiser_in_same : (c : NamedClass) → initialiser_in (other c) ≡ initialiser_in c
    initialiser_in_same c = ap (initialiser_case (other c)) (method_same new p c initialiser_name void) ∙ by (find (λ m. same_name m.name m.signature initialiser_name void) c.methods)
      where
        begins : (m : NamedMethod) → is_initialiser (method_changed new c m) ≡ is_initialiser m
        begins m = ap (λ b. is_static m.flags && b) (keeps c m)

        by : (o : Option NamedMethod) → initialiser_case (other c) (option_map (method_changed new c) o) ≡ initialiser_case c o
        by None = refl
        by (Some m) = ap (λ b. elim b as (λ b. Option MethodKey) [ true ↦ Some (initialiser_key c.name) | false ↦ None ]) (begins m)

    initialiser_same : initialiser_of q ≡ initialiser_of p
    initialiser_same = fun_ext (at_class new p initialiser_in initialiser_in None initialiser_in_same)

    default_same : (c : NamedClass) → has_default (other c) ≡ has_default c
    default_same c = any_map (λ m. is_virtual_method m && is_some m.body) (method_changed new c) c.methods
        ∙ ap (λ f. list_any f c.methods) (fun_ext (λ m. ap (λ b. is_virtual_method m && b) (keeps c m)))

    abbrev before_case : (List Text → List Text) → Text → NamedClass → List Text
    before_case next t c = next c.interfaces ++ only_if (has_default c) t

    before_same : (n : ℕ) → interfaces_before n q ≡ interfaces_before n p
    before_same zero = refl
    before_same (suc n) = fun_ext (λ ts.
        ap (λ f. flat_map f ts) (fun_ext (λ t. ap (class_case (before_case (interfaces_before n q) t) []) (interface_same new p keeps t)
        ∙ case_same new p (before_case (interfaces_before n q) t) (before_case (interfaces_before n q) t) [] (λ c. ap (λ b. interfaces_before n q c.interfaces ++ only_if b t) (default_same c)) (interface_named p t)))
        ∙ ap (λ next. flat_map (λ t. class_case (before_case next t) [] (interface_named p t)) ts) (before_same n))

    interfaces_first_same : (c : NamedClass) → interfaces_first q (other c) ≡ interfaces_first p c
    interfaces_first_same c = ap (λ ts. elim (is_037 p.version) as (λ b. List Text) [ true ↦ firsts ts | false ↦ [] ])
        (ap (λ n. interfaces_before n q c.interfaces) (count new p) ∙ ap (λ f. f c.interfaces) (before_same (length p.classes)))

    first_of_same : (c : NamedClass) → first_of_class q (other c) ≡ first_of_class p c
    first_of_same c =
        ap {A = Text → Bool} {B = List Text} (λ d. elim (is_interface c.flags) as (λ b. List Text) [ true ↦ [] | false ↦ only_if (d c.superclass) c.superclass ++ interfaces_first q (other c) ]) defines_same
        ∙ ap (λ ts. elim (is_interface c.flags) as (λ b. List Text) [ true ↦ [] | false ↦ only_if (defines p c.superclass) c.superclass ++ ts ]) (interfaces_first_same c)

    initialised_same : initialised_first q ≡ initialised_first p
    initialised_same = fun_ext (at_class new p (first_of_class q) (first_of_class p) [] first_of_same)

    quiet_same : (n : ℕ) → interfaces_quiet n q ≡ interfaces_quiet n p
    quiet_same zero = refl
    quiet_same (suc n) = fun_ext (λ ts. ap (λ f. list_all f ts) (fun_ext (λ t.
        at_class new p (λ c. not (is_some (initialiser_of q t)) && interfaces_quiet n q c.interfaces) (λ c. not (is_some (initialiser_of q t)) && interfaces_quiet n q c.interfaces) true (λ c. refl) t
        ∙ ap (λ i. class_case (λ c. not (is_some (i t)) && interfaces_quiet n q c.interfaces) true (class_named p t)) initialiser_same
        ∙ ap (λ next. class_case (λ c. not (is_some (initialiser_of p t)) && next c.interfaces) true (class_named p t)) (quiet_same n))))

    trivial_at : (t : Text) → is_trivial q t ≡ is_trivial p t
    trivial_at t =
        ap (list_all (λ c. not (has_initialiser q c.name) && interfaces_quiet (length q.classes) q c.interfaces)) (chain_same new p t)
        ∙ all_map (λ c. not (has_initialiser q c.name) && interfaces_quiet (length q.classes) q c.interfaces) other (chain_of p t)
        ∙ ap (λ i. list_all (λ c. not (is_some (i c.name)) && interfaces_quiet (length q.classes) q c.interfaces) (chain_of p t)) initialiser_same
        ∙ ap (λ n. list_all (λ c. not (has_initialiser p c.name) && interfaces_quiet n q c.interfaces) (chain_of p t)) (count new p)
        ∙ ap (λ f. list_all (λ c. not (has_initialiser p c.name) && f c.interfaces) (chain_of p t)) (quiet_same (length p.classes))

    -- ---- the face

    pub face_same : (f : Framework) → face_of q f ≡ face_of p f
    face_same f =
        ap (λ x. record (face_of q f) { flags = x }) (fun_ext flags_same)
        ∙ ap (λ x. record (face_of q f) { flags = λ t. option_map (λ c. c.flags) (class_named p t); under = x }) (under_same f)
        ∙ ap (λ x. record (face_of q f) { flags = λ t. option_map (λ c. c.flags) (class_named p t); under = is_under p f; outward = x }) outward_same
        ∙ ap (λ x. record (face_of p f) { statically = x; above = finds_super q; virtually = finds_virtually q f; declared = declared_in q; field = λ k. option_map (λ c. place_of c.0 c.1) (finds_field q k); own_field = λ k. option_map (place_of k.class) (defined_field q k); initialiser = initialiser_of q; first = initialised_first q; trivial = is_trivial q }) (static_same new p keeps)
        ∙ ap (λ x. record (face_of p f) { above = x; virtually = finds_virtually q f; declared = declared_in q; field = λ k. option_map (λ c. place_of c.0 c.1) (finds_field q k); own_field = λ k. option_map (place_of k.class) (defined_field q k); initialiser = initialiser_of q; first = initialised_first q; trivial = is_trivial q }) (super_same new p keeps)
        ∙ ap (λ x. record (face_of p f) { virtually = x; declared = declared_in q; field = λ k. option_map (λ c. place_of c.0 c.1) (finds_field q k); own_field = λ k. option_map (place_of k.class) (defined_field q k); initialiser = initialiser_of q; first = initialised_first q; trivial = is_trivial q }) (fun_ext (λ t. fun_ext (virtually_same f t)))
        ∙ ap (λ x. record (face_of p f) { declared = x; field = λ k. option_map (λ c. place_of c.0 c.1) (finds_field q k); own_field = λ k. option_map (place_of k.class) (defined_field q k); initialiser = initialiser_of q; first = initialised_first q; trivial = is_trivial q }) (fun_ext (λ t. fun_ext (λ n. fun_ext (declared_same t n))))
        ∙ ap (λ x. record (face_of p f) { field = λ k. option_map (λ c. place_of c.0 c.1) (x k); own_field = λ k. option_map (place_of k.class) (defined_field q k); initialiser = initialiser_of q; first = initialised_first q; trivial = is_trivial q }) (field_same new p)
        ∙ ap (λ x. record (face_of p f) { own_field = λ k. option_map (place_of k.class) (x k); initialiser = initialiser_of q; first = initialised_first q; trivial = is_trivial q }) own_field_same
        ∙ ap (λ x. record (face_of p f) { initialiser = x; first = initialised_first q; trivial = is_trivial q }) initialiser_same
        ∙ ap (λ x. record (face_of p f) { first = x; trivial = is_trivial q }) initialised_same
        ∙ ap (λ x. record (face_of p f) { trivial = x }) (fun_ext trivial_at)
