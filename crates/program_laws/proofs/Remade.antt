-- Programs whose classes have other methods: what doesn't look at methods is the same.
use Rattle.std.proofs.Common.{◌≡◌, ℕ, zero, suc, ◌+◌, Bool, true, false, List, [], ◌∷◌, ◌++◌, length, refl, ap, ◌∙◌}
use std.Path.{fun_ext}
use Rattle.std.specs.Prelude.{◌&&◌, ◌||◌, not, Option, Some, None, map, is_some}
use Rattle.std.specs.List.{list_any}
use Rattle.std.specs.Option.{option_map, option_or}
use Rattle.dalvik_defs.specs.Names.{Text, text_eq, object_type}
use Rattle.dalvik_defs.specs.Flags.{is_interface}
use Rattle.dalvik_defs.specs.Known.{known_rows}
use Rattle.dalvik_defs.specs.Under.{class_named, defines, row_named, outer_type, above_row, above_in, directly_above, walks, walk_bound, under_types, is_under, own_above, is_own_under, reaches_framework, is_outward}
use Rattle.dalvik_defs.specs.Find.{chain_from, chain_of, interface_named, field_in, first_field, field_from, finds_field, defined_field}
use Rattle.dalvik_defs.specs.declared.names.FieldKey.{FieldKey}
use Rattle.dalvik_defs.specs.declared.program.NamedField.{NamedField}
use Rattle.dalvik_defs.specs.declared.program.NamedClass.{NamedClass}
use Rattle.dalvik_defs.specs.declared.program.NamedProgram.{NamedProgram}
use Rattle.dalvik_defs.specs.declared.tables.Framework.{Framework}
use Rattle.dalvik_defs.specs.declared.tables.FrameworkType.{FrameworkType}
use Rattle.lemmas.proofs.Lists.{map_long}
use Rattle.lemmas.proofs.Options.{mapped_some}
use Rattle.program_laws.proofs.ChangedLists.{find_same}
use Rattle.program_laws.proofs.Heads.{class_case}
use Rattle.program_laws.specs.Remade.{Remethod, class_remade, remade}

module _ (new : Remethod) (p : NamedProgram) where
  abbrev pub other : NamedClass → NamedClass
  other = class_remade new

  abbrev pub q : NamedProgram
  q = remade new p

  -- ---- classes

  pub class_same : (t : Text) → class_named q t ≡ option_map other (class_named p t)
  class_same t = find_same other (λ c. text_eq c.name t) (λ c. refl) p.classes

  pub case_same : {X : Type 0} (f g : NamedClass → X) (z : X) → ((c : NamedClass) → f (other c) ≡ g c) → (o : Option NamedClass) → class_case f z (option_map other o) ≡ class_case g z o
  case_same f g z h None = refl
  case_same f g z h (Some c) = h c

  pub at_class : {X : Type 0} (f g : NamedClass → X) (z : X) → ((c : NamedClass) → f (other c) ≡ g c) → (t : Text) → class_case f z (class_named q t) ≡ class_case g z (class_named p t)
  at_class f g z h t = ap (class_case f z) (class_same t) ∙ case_same f g z h (class_named p t)

  pub count : length q.classes ≡ length p.classes
  count = map_long other p.classes

  -- ---- chains and lines

  chain_from_same : (n : ℕ) (t : Text) → chain_from n q t ≡ map other (chain_from n p t)
  chain_from_same zero t = refl
  chain_from_same (suc n) t = ap (class_case (λ c. c ∷ chain_from n q c.superclass) []) (class_same t) ∙ by (class_named p t) (chain_from_same n)
    where
      by : (o : Option NamedClass) → ((u : Text) → chain_from n q u ≡ map other (chain_from n p u))
          → class_case (λ c. c ∷ chain_from n q c.superclass) [] (option_map other o) ≡ map other (class_case (λ c. c ∷ chain_from n p c.superclass) [] o)
      by None r = refl
      by (Some c) r = ap (λ cs. other c ∷ cs) (r c.superclass)

  pub chain_same : (t : Text) → chain_of q t ≡ map other (chain_of p t)
  chain_same t = ap (λ n. chain_from n q t) count ∙ chain_from_same (length p.classes) t

  -- ---- what stands above, by the program's own lists

  pub above_same : own_above q ≡ own_above p
  above_same = fun_ext (at_class (λ c. c.superclass ∷ c.interfaces) (λ c. c.superclass ∷ c.interfaces) [] (λ c. refl))

  under_at : (s t : Text) → is_own_under q s t ≡ is_own_under p s t
  under_at s t = ap (λ n. walks (own_above q) n s t) count ∙ ap (λ f. walks f (length p.classes) s t) above_same

  pub under_same : is_own_under q ≡ is_own_under p
  under_same = fun_ext (λ s. fun_ext (under_at s))

  -- ---- fields

  abbrev field_case : (Text → Option (Text × NamedField)) → FieldKey → NamedClass → Option (Text × NamedField)
  field_case next k c = option_or (option_map (λ f. (c.name, f)) (field_in c k.name k.kind)) (first_field (map next (c.interfaces ++ c.superclass ∷ [])))

  field_from_same : (n : ℕ) (k : FieldKey) → field_from n q k ≡ field_from n p k
  field_from_same zero k = refl
  field_from_same (suc n) k = fun_ext (λ t. at_class (field_case (field_from n q k) k) (field_case (field_from n q k) k) None (λ c. refl) t
      ∙ ap (λ next. class_case (field_case next k) None (class_named p t)) (field_from_same n k))

  pub field_same : finds_field q ≡ finds_field p
  field_same = fun_ext (λ k. ap (λ n. field_from n q k k.class) count ∙ ap (λ f. f k.class) (field_from_same (length p.classes) k))

  pub interface_same : (t : Text) → interface_named q t ≡ option_map other (interface_named p t)
  interface_same t = ap (class_case one None) (class_same t) ∙ by (class_named p t)
    where
      one : NamedClass → Option NamedClass
      one c = elim (is_interface c.flags) as (λ b. Option NamedClass) [ true ↦ Some c | false ↦ None ]

      pick : (c : NamedClass) (b : Bool) → elim b as (λ b. Option NamedClass) [ true ↦ Some (other c) | false ↦ None ] ≡ option_map other (elim b as (λ b. Option NamedClass) [ true ↦ Some c | false ↦ None ])
      pick c true = refl
      pick c false = refl

      by : (o : Option NamedClass) → class_case one None (option_map other o) ≡ option_map other (class_case one None o)
      by None = refl
      by (Some c) = pick c (is_interface c.flags)

  pub some_same : (t : Text) → is_some (class_named q t) ≡ is_some (class_named p t)
  some_same t = ap is_some (class_same t) ∙ mapped_some other (class_named p t)

  -- ---- what is above what

  pub flags_same : (t : Text) → option_map (λ (c : NamedClass). c.flags) (class_named q t) ≡ option_map (λ c. c.flags) (class_named p t)
  flags_same t = ap (option_map (λ (c : NamedClass). c.flags)) (class_same t) ∙ by (class_named p t)
    where
      by : (o : Option NamedClass) → option_map (λ (c : NamedClass). c.flags) (option_map other o) ≡ option_map (λ c. c.flags) o
      by None = refl
      by (Some c) = refl

  pub defines_same : defines q ≡ defines p
  defines_same = fun_ext (at_class (λ c. true) (λ c. true) false (λ c. refl))

  outer_same : outer_type q ≡ outer_type p
  outer_same = fun_ext (λ t. ap (λ b. elim b as (λ b. Text) [ true ↦ object_type | false ↦ t ]) (ap (λ d. d t) defines_same))

  row_same : (t : Text) (o : Option FrameworkType) → above_row q t o ≡ above_row p t o
  row_same t None = refl
  row_same t (Some r) = ap (λ f. f r.superclass ∷ map f r.interfaces) outer_same

  directly_same : (f : Framework) → directly_above q f ≡ directly_above p f
  directly_same f = fun_ext (λ t. ap (above_in q f t) (class_same t) ∙ by t (class_named p t))
    where
      by : (t : Text) (o : Option NamedClass) → above_in q f t (option_map other o) ≡ above_in p f t o
      by t (Some c) = refl
      by t None = ap (λ ts. elim (text_eq t object_type) as (λ b. List Text) [ true ↦ [] | false ↦ ts ]) (row_same t (row_named f t))

  pub framed_same : (f : Framework) → is_under q f ≡ is_under p f
  framed_same f =
      ap (λ n. under_types (walks (directly_above q f) (n + (length (known_rows ++ f.rows) + 2)))) (count)
      ∙ ap (λ above. under_types (walks above (walk_bound p f))) (directly_same f)

  abbrev touches : (Text → Bool) → NamedClass → Bool
  touches d c = list_any (λ t. not (d t) && not (text_eq t object_type)) (c.superclass ∷ c.interfaces)

  reaches_same : (n : ℕ) → reaches_framework n q ≡ reaches_framework n p
  reaches_same zero = refl
  reaches_same (suc n) = fun_ext (λ t.
      at_class (λ c. touches (defines q) c || list_any (reaches_framework n q) (c.superclass ∷ c.interfaces)) (λ c. touches (defines q) c || list_any (reaches_framework n q) (c.superclass ∷ c.interfaces)) false (λ c. refl) t
      ∙ ap (λ d. class_case (λ c. touches d c || list_any (reaches_framework n q) (c.superclass ∷ c.interfaces)) false (class_named p t)) defines_same
      ∙ ap (λ next. class_case (λ c. touches (defines p) c || list_any next (c.superclass ∷ c.interfaces)) false (class_named p t)) (reaches_same n))

  pub outward_same : is_outward q ≡ is_outward p
  outward_same = ap (λ n. reaches_framework n q) (count) ∙ reaches_same (length p.classes)

  -- ---- fields

  pub own_field_same : defined_field q ≡ defined_field p
  own_field_same = fun_ext (λ k. at_class (λ c. field_in c k.name k.kind) (λ c. field_in c k.name k.kind) None (λ c. refl) k.class)
