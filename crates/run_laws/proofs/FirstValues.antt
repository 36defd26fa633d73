-- What a static field holds before it is written is of its type, where it may be read.
use Rattle.std.proofs.Common.{◌≡◌, ℕ, zero, suc, Bool, true, false, true≢false, List, [], ◌∷◌, ◌++◌, Option, Some, None, inr, refl, sym, ap, ◌∙◌, subst}
use Rattle.std.specs.Prelude.{◌&&◌, ◌||◌, map, length, Contains}
use Rattle.std.specs.Option.{option_map, option_or}
use Rattle.dalvik_defs.proofs.Calm.{text_sound}
use Rattle.dalvik_defs.specs.Names.{Text, text_eq, is_word, is_wide, is_reference, is_array}
use Rattle.dalvik_defs.specs.Under.{class_named}
use Rattle.dalvik_defs.specs.Find.{field_in, field_from, first_field, finds_field}
use Rattle.dalvik_defs.specs.Face.{place_of}
use Rattle.dalvik_defs.specs.Fields.{first_value, first_of}
use Rattle.dalvik_defs.specs.State.{World}
use Rattle.dalvik_defs.specs.declared.encoded.NamedValue.{NamedValue}
use Rattle.dalvik_defs.specs.declared.names.FieldKey.{FieldKey}
use Rattle.dalvik_defs.specs.declared.state.Value.{Value}
use Rattle.dalvik_defs.specs.declared.state.Value.TheVariants.{Word, Low, High, Object, Literal, Class}
use Rattle.dalvik_defs.specs.declared.program.NamedField.{NamedField}
use Rattle.dalvik_defs.specs.declared.program.NamedClass.{NamedClass}
use Rattle.dalvik_defs.specs.declared.program.NamedProgram.{NamedProgram}
use Rattle.dalvik_defs.specs.declared.tables.Framework.{Framework}
use Rattle.pass_defs.specs.Kinds.{is_plain}
use Rattle.pass_defs.specs.Kinds as kind
use Rattle.pass_defs.specs.Typed.{is_text_or_type, begins_as_text_or_type, wrong_first}
use Rattle.run_laws.specs.TypedStates.{KindHolds, ValueOf}
use Rattle.run_laws.specs.Regular.{suits}
use Rattle.run_laws.proofs.Settled.{IsSettled}
use Rattle.run_laws.proofs.Registers.{and_right}
use Rattle.run_laws.proofs.Sorts.{RefSort, AnArray, APlain, AnAny, ref_sort, Sorted, OfWord, OfWide, OfReference, OfNone, sorted}
use Rattle.run_laws.proofs.Climbs.{none_some, some_one, found_in_list, found_passes, class_in}
use Rattle.run_laws.proofs.Arrays.{true_false}
use Rattle.run_laws.proofs.Worlds.{zero_value}

-- a field that is found stands in a class, and has the type that is asked for
record IsFieldOf (p : NamedProgram) (k : FieldKey) (y : Text × NamedField) : Type 0 where
  pub class : NamedClass
  pub class_in : Contains p.classes class
  pub field_in : Contains class.fields y.1
  pub type : y.1.kind ≡ k.kind

module _ (p : NamedProgram) (k : FieldKey) (y : Text × NamedField) where
  of_some : (find : Text → Option (Text × NamedField)) → ((t : Text) → find t ≡ Some y → IsFieldOf p k y) → (ts : List Text) → first_field (map find ts) ≡ Some y → IsFieldOf p k y
  of_some find more [] e = none_some y e
  of_some find more (t ∷ ts) e = by (find t) refl e (of_some find more ts)
    where
      by : (o : Option (Text × NamedField)) → find t ≡ o → option_or o (first_field (map find ts)) ≡ Some y → (first_field (map find ts) ≡ Some y → IsFieldOf p k y) → IsFieldOf p k y
      by (Some x) i j rest = more t (i ∙ j)
      by None i j rest = rest j

  field_found : (m : ℕ) (t : Text) → field_from m p k t ≡ Some y → IsFieldOf p k y
  field_found zero t e = none_some y e
  field_found (suc m) t e = by (class_named p t) refl e (field_found m)
    where
      own : (c : NamedClass) → Contains p.classes c → (o : Option NamedField) → field_in c k.name k.kind ≡ o → option_or (option_map (λ f. (c.name, f)) o) (first_field (map (field_from m p k) (c.interfaces ++ c.superclass ∷ []))) ≡ Some y
          → ((t : Text) → field_from m p k t ≡ Some y → IsFieldOf p k y) → IsFieldOf p k y
      own c inside None i j more = of_some (field_from m p k) more (c.interfaces ++ c.superclass ∷ []) j
      own c inside (Some x) i j more = let same : x ≡ y.1 = ap (λ z. z.1) (some_one (c.name, x) y j) in record {
        class = c;
        class_in = inside;
        field_in = subst (Contains c.fields) same (found_in_list (λ f. text_eq f.name k.name && text_eq f.kind k.kind) c.fields x i);
        type = subst (λ z. z.kind ≡ k.kind) same (text_sound x.kind k.kind (and_right (text_eq x.name k.name) (text_eq x.kind k.kind) (found_passes (λ f. text_eq f.name k.name && text_eq f.kind k.kind) c.fields x i)));
      }

      by : (o : Option NamedClass) → class_named p t ≡ o → (elim o as (λ o. Option (Text × NamedField)) [
        | Some c ↦ option_or (option_map (λ f. (c.name, f)) (field_in c k.name k.kind)) (first_field (map (field_from m p k) (c.interfaces ++ c.superclass ∷ [])))
        | None ↦ None
      ]) ≡ Some y → ((t : Text) → field_from m p k t ≡ Some y → IsFieldOf p k y) → IsFieldOf p k y
      by None i j more = none_some y j
      by (Some c) i j more = own c (class_in p t c i) (field_in c k.name k.kind) refl j more

module _ (p : NamedProgram) (f : Framework) (reg : IsSettled p) where
  -- a value that suits a type is of it, unless it is a text or a type where an array or an object of a plain class is asked for
  suited : (w : World) (t : Text) (v : Value) → suits t v ≡ true → ((is_array t || is_plain p t) ≡ true → is_text_or_type v ≡ true → ⊥) → ValueOf p f w t v
  suited w t v e other c = by v e other (sorted p t)
    where
      word : (n : ℕ) → is_word t ≡ true → Sorted p t → KindHolds p f c w (kind.kind_of p t) (Word n)
      word n i (OfWord a b d j l) = subst (λ k. KindHolds p f c w k (Word n)) (sym j) (n, refl)
      word n i (OfWide a b d j l) = true_false i a
      word n i (OfReference a b d j l) = true_false i a
      word n i (OfNone a b d j l) = true_false i a

      wide : (n : ℕ) → is_wide t ≡ true → Sorted p t → KindHolds p f c w (kind.kind_of p t) (Low n)
      wide n i (OfWide a b d j l) = subst (λ k. KindHolds p f c w k (Low n)) (sym j) (n, refl)
      wide n i (OfWord a b d j l) = true_false i b
      wide n i (OfReference a b d j l) = true_false i b
      wide n i (OfNone a b d j l) = true_false i b

      reference : (v : Value) → KindHolds p f c w kind.Reference v → ((is_array t || is_plain p t) ≡ true → ⊥) → is_reference t ≡ true → Sorted p t → KindHolds p f c w (kind.kind_of p t) v
      reference v h none i (OfReference a b d j l) = subst (λ k. KindHolds p f c w k v) (sym j) (one (ref_sort p t))
        where
          one : RefSort p t → KindHolds p f c w (kind.kind_of_reference p t) v
          one (AnArray x y) = absurd (none (ap (λ b. b || is_plain p t) x))
          one (APlain x y z) = absurd (none (ap (λ b. b || is_plain p t) x ∙ y))
          one (AnAny x y z) = subst (λ k. KindHolds p f c w k v) (sym z) h
      reference v h none i (OfWord a b d j l) = true_false i d
      reference v h none i (OfWide a b d j l) = true_false i d
      reference v h none i (OfNone a b d j l) = true_false i d

      by : (v : Value) → suits t v ≡ true → ((is_array t || is_plain p t) ≡ true → is_text_or_type v ≡ true → ⊥) → Sorted p t → KindHolds p f c w (kind.kind_of p t) v
      by (Word n) i none s = word n i s
      by (Low n) i none s = wide n i s
      by (Literal u) i none s = reference (Literal u) (inr tt) (λ x. none x refl) i s
      by (Class u) i none s = reference (Class u) (inr tt) (λ x. none x refl) i s
      by (High n) i none s = absurd (true≢false (sym i))
      by (Object n) i none s = absurd (true≢false (sym i))

  -- the first value of a field that is read, or else zero or null
  pub first_held : (w : World) (k : FieldKey) (y : Text × NamedField) → finds_field p k ≡ Some y → wrong_first p k ≡ false → ValueOf p f w k.kind (first_of k (place_of y.0 y.1))
  first_held w k y e right = by y.1.first refl
    where
      of : IsFieldOf p k y
      of = field_found p k y (length p.classes) k.class e

      begins : Bool
      begins = begins_as_text_or_type y.1

      -- where its type isn't one that a text or a type may begin
      none : (v : NamedValue) → y.1.first ≡ Some v → (is_array k.kind || is_plain p k.kind) ≡ true → is_text_or_type (first_value v) ≡ true → ⊥
      none v i j l = true≢false (sym (ap (λ b. b && begins) j ∙ (ap (λ o. elim o as (λ o. Bool) [ Some v ↦ is_text_or_type (first_value v) | None ↦ false ]) i ∙ l))
          ∙ (ap (λ o. (is_array k.kind || is_plain p k.kind) && elim o as (λ o. Bool) [ Some f ↦ begins_as_text_or_type f.1 | None ↦ false ]) (sym e) ∙ right))

      by : (o : Option NamedValue) → y.1.first ≡ o → ValueOf p f w k.kind (first_of k (place_of y.0 y.1))
      by None i = subst (λ o. ValueOf p f w k.kind (elim o as (λ o. Value) [ Some v ↦ first_value v | None ↦ first_of k (record (place_of y.0 y.1) { first = None }) ])) (sym i) (zero_value p f w k.kind)
      by (Some v) i = subst (λ o. ValueOf p f w k.kind (elim o as (λ o. Value) [ Some v ↦ first_value v | None ↦ first_of k (record (place_of y.0 y.1) { first = None }) ])) (sym i)
          (suited w k.kind (first_value v) (subst (λ t. suits t (first_value v) ≡ true) of.type (reg.regular.firsts of.class y.1 v of.class_in of.field_in i)) (none v i))
