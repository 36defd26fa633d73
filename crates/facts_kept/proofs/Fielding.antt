-- What a field holds by names is what it holds by the number of the field that is found.
use Rattle.std.proofs.Common.{◌≡◌, ℕ, zero, suc, ◌<◌, Bool, true, false, List, [], ◌∷◌, ◌++◌, length, Option, Some, None, refl, ap, ◌∙◌, subst}
use Rattle.std.specs.Prelude.{◌&&◌, cond, map, find, slice_get, option_and_then}
use Rattle.std.specs.Option.{option_map, option_or}
use Rattle.lemmas.proofs.Lists.{got_short}
use Rattle.lemmas.proofs.Options.{none_some, some_same}
use Rattle.insn_set.specs.declared.form.Insn.TheVariants as insn
use Rattle.insn_set.specs.declared.ops.Item.{Item}
use Rattle.program_model.specs.OperandRules.{numbers_fit}
use Rattle.program_model.specs.declared.program.Class.{Class}
use Rattle.program_model.specs.declared.program.Field.{Field}
use Rattle.program_model.specs.declared.program.Program.{Program}
use Rattle.class_defs.specs.ClassGraph.{IsTwice}
use Rattle.class_defs.specs.Finding.{resolves_field}
use Rattle.class_defs.proofs.WellFormed.{and_left, and_right, below, Sound, class_parts}
use Rattle.dalvik_defs.specs.Find.{field_from, field_in, finds_field, first_field}
use Rattle.dalvik_defs.specs.Names.{Text, object_type, text_eq}
use Rattle.dalvik_defs.specs.Naming.{field_at, named, named_field, type_at}
use Rattle.dalvik_defs.specs.Under.{class_named, defines}
use Rattle.dalvik_defs.specs.declared.names.FieldKey.{FieldKey}
use Rattle.dalvik_defs.specs.declared.program.NamedClass.{NamedClass}
use Rattle.dalvik_defs.specs.declared.program.NamedField.{NamedField}
use Rattle.dalvik_defs.specs.declared.program.NamedProgram.{NamedProgram}
use Rattle.dalvik_defs.proofs.Calm.{text_sound}
use Rattle.name_bridge.specs.Named.{field_at_place, field_of, field_there}
use Rattle.name_bridge.proofs.Fields.{field_resolves_by_number}
use Rattle.name_bridge.proofs.Tables.{field_is}
use Rattle.domains.specs.Values.{Parts, any_value}
use Rattle.facts.specs.declared.facts.Facts as table
use Rattle.closed_facts.specs.Edges as numbered
use Rattle.closed_facts.specs.Edges.{value_by}
use Rattle.closed_facts.specs.Found as found
use Rattle.run_facts.specs.Closed as name
use Rattle.pass_defs.specs.Facts.{own_key}
use Rattle.facts_kept.specs.Names.{field_number, named_facts, values}
use Rattle.facts_kept.proofs.ClosedForms.{Gets}
use Rattle.facts_kept.proofs.Numbers.{IsFieldNumber, number_of_field}

-- ---- a field that is found has the name and the type that were asked for

abbrev pub Bears : FieldKey → Text × NamedField → Type 0
Bears k f = (f.1.name ≡ k.name) × (f.1.kind ≡ k.kind)

one_of : {A : Type 0} (a b : Option A) (x : A) (P : A → Type 0) → ((y : A) → a ≡ Some y → P y) → ((y : A) → b ≡ Some y → P y) → option_or a b ≡ Some x → P x
one_of None b x P f g e = g x e
one_of (Some y) b x P f g e = f x e

-- what a search finds passes the test
passed : {A : Type 0} (t : A → Bool) (xs : List A) (x : A) → find t xs ≡ Some x → t x ≡ true
passed t [] x e = none_some x e
passed {A} t (y ∷ ys) x e = by (t y) refl e (passed t ys x)
  where
    by : (b : Bool) → t y ≡ b → cond b (Some y) (find t ys) ≡ Some x → (find t ys ≡ Some x → t x ≡ true) → t x ≡ true
    by true h e more = subst (λ z. t z ≡ true) (some_same y x e) h
    by false h e more = more e

own_bears : (k : FieldKey) (c : NamedClass) (o : Option NamedField) → field_in c k.name k.kind ≡ o → (f : Text × NamedField) → option_map (λ g. (c.name, g)) o ≡ Some f → Bears k f
own_bears k c None i f e = none_some f e
own_bears k c (Some g) i f e =
    let at = passed (λ f. text_eq f.name k.name && text_eq f.kind k.kind) c.fields g i in
    subst (Bears k) (some_same (c.name, g) f e) (text_sound g.name k.name (and_left (text_eq g.name k.name) (text_eq g.kind k.kind) at), text_sound g.kind k.kind (and_right (text_eq g.name k.name) (text_eq g.kind k.kind) at))

module _ (q : NamedProgram) (k : FieldKey) where
  among : (n : ℕ) → ((u : Text) (f : Text × NamedField) → field_from n q k u ≡ Some f → Bears k f) → (us : List Text) (f : Text × NamedField) → first_field (map (field_from n q k) us) ≡ Some f → Bears k f
  among n more [] f e = none_some f e
  among n more (u ∷ us) f e = one_of (field_from n q k u) (first_field (map (field_from n q k) us)) f (Bears k) (more u) (among n more us) e

  bears_from : (n : ℕ) (u : Text) (f : Text × NamedField) → field_from n q k u ≡ Some f → Bears k f
  bears_from zero u f e = none_some f e
  bears_from (suc n) u f e = by (class_named q u) e (among n (bears_from n))
    where
      by : (o : Option NamedClass) → (elim o as (λ o. Option (Text × NamedField)) [
        | Some c ↦ option_or (option_map (λ f. (c.name, f)) (field_in c k.name k.kind)) (first_field (map (field_from n q k) (c.interfaces ++ c.superclass ∷ [])))
        | None ↦ None
      ]) ≡ Some f → ((us : List Text) (f : Text × NamedField) → first_field (map (field_from n q k) us) ≡ Some f → Bears k f) → Bears k f
      by None e more = none_some f e
      by (Some c) e more = one_of (option_map (λ f. (c.name, f)) (field_in c k.name k.kind)) (first_field (map (field_from n q k) (c.interfaces ++ c.superclass ∷ []))) f (Bears k)
          (own_bears k c (field_in c k.name k.kind) refl) (more (c.interfaces ++ c.superclass ∷ [])) e

  pub found_bears : (f : Text × NamedField) → finds_field q k ≡ Some f → Bears k f
  found_bears f e = bears_from (length q.classes) k.class f e

-- ---- by number

module _ (p : Program) (s : Sound p) where
  -- the key of a field of a class by the field's number
  pub own_field_key : (i j : ℕ) (c : Class) (f : Field) → slice_get p.classes i ≡ Some c → slice_get c.fields j ≡ Some f
      → IsFieldNumber p s (record { class = type_at p c.name; name = (named_field p f).name; kind = (named_field p f).kind }) f.name
  own_field_key i j c f e h =
      let g = (class_parts p s i c e).fields j f h in
      record {
        low = got_short p.fields f.name g.entry g.is;
        named = ap (λ x. record { class = x; name = (field_at p f.name).name; kind = (field_at p f.name).kind }) (ap (λ k. k.class) (field_is p s f.name g.entry g.is) ∙ ap (type_at p) g.owner);
      }

  module _ (t : table.Facts) where
    -- the facts of the field that a name finds
    abbrev of_found : FieldKey → Option (Text × NamedField) → Parts
    of_found k o = elim o as (λ o. Parts) [ Some f ↦ value_by t (field_number p (own_key k f)) | None ↦ any_value ]

    abbrev by_place : Option (ℕ × ℕ) → Parts
    by_place o = value_by t (option_and_then (λ at. option_map (λ f. f.name) (found.field_in p at)) o)

    at_field : (k : FieldKey) (at : ℕ × ℕ) → finds_field (named p) k ≡ option_and_then (field_at_place p) (Some at) → of_found k (field_at_place p at) ≡ by_place (Some at)
    at_field k at e = by_class (slice_get p.classes at.0) refl
      where
        of_field : (c : Class) → slice_get p.classes at.0 ≡ Some c → (o : Option Field) → slice_get c.fields at.1 ≡ o → of_found k (field_there p c o) ≡ value_by t (option_map (λ f. f.name) o)
        of_field c i None j = refl
        of_field c i (Some f) j =
            let is : field_at_place p at ≡ Some (type_at p c.name, named_field p f) = ap (field_of p at.1) i ∙ ap (field_there p c) j in
            let bears = found_bears (named p) k (type_at p c.name, named_field p f) (e ∙ is) in
            let own = own_field_key at.0 at.1 c f i j in
            let key : IsFieldNumber p s (own_key k (type_at p c.name, named_field p f)) f.name =
            record { low = own.low; named = own.named ∙ (λ i. record { class = type_at p c.name; name = bears.0 i; kind = bears.1 i }) } in
            ap (value_by t) (number_of_field p s (own_key k (type_at p c.name, named_field p f)) f.name key)

        by_class : (o : Option Class) → slice_get p.classes at.0 ≡ o → of_found k (field_of p at.1 o) ≡ value_by t (option_map (λ f. f.name) (option_and_then (λ c. slice_get c.fields at.1) o))
        by_class None i = refl
        by_class (Some c) i = of_field c i (slice_get c.fields at.1) refl

    pub field_value_same : (f : ℕ) → f < length p.fields → name.field_value (values p) (named p) (named_facts p t) (field_at p f) ≡ numbered.field_value p t f
    field_value_same f low = ap (of_found (field_at p f)) e ∙ by (resolves_field p f) e
      where
        e : finds_field (named p) (field_at p f) ≡ option_and_then (field_at_place p) (resolves_field p f)
        e = field_resolves_by_number p s f low

        by : (o : Option (ℕ × ℕ)) → finds_field (named p) (field_at p f) ≡ option_and_then (field_at_place p) o → of_found (field_at p f) (option_and_then (field_at_place p) o) ≡ by_place o
        by None i = refl
        by (Some at) i = at_field (field_at p f) at i

    get_low : (i : Item) (to on field : ℕ) → numbers_fit (insn.InstanceGet i to on field) p ≡ true → field < length p.fields
    unfolding numbers_fit
    get_low i to on field h = below field (length p.fields) h

    static_low : (i : Item) (to field : ℕ) → numbers_fit (insn.StaticGet i to field) p ≡ true → field < length p.fields
    unfolding numbers_fit
    static_low i to field h = below field (length p.fields) h

    pub gets_same : (once : (class : ℕ) → IsTwice p class → ⊥) (no_object : defines (named p) object_type ≡ false) → Gets p s once no_object (named_facts p t) (numbered.given p t)
    gets_same once no_object = (λ i to on field h. field_value_same field (get_low i to on field h), λ i to field h. field_value_same field (static_low i to field h))
