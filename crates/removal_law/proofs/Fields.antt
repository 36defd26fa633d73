-- Fields by their names, in what is left of a program: where what is found is live, the same.
use Rattle.std.proofs.Common.{◌≡◌, ℕ, zero, suc, Bool, true, false, List, [], ◌∷◌, ◌++◌, length, refl, sym, ap, ◌∙◌, subst, inl, inr}
use Rattle.std.specs.Prelude.{◌&&◌, Option, Some, None, map, filter}
use Rattle.std.specs.Option.{option_map, option_or}
use Rattle.lemmas.proofs.Options.{none_some, some_same}
use Rattle.dalvik_defs.specs.Names.{Text, text_eq}
use Rattle.dalvik_defs.specs.Under.{class_named, defines}
use Rattle.dalvik_defs.specs.Find.{field_in, first_field, field_from, finds_field, defined_field}
use Rattle.dalvik_defs.specs.declared.names.FieldKey.{FieldKey}
use Rattle.dalvik_defs.specs.declared.program.NamedField.{NamedField}
use Rattle.dalvik_defs.specs.declared.program.NamedClass.{NamedClass}
use Rattle.dalvik_defs.specs.declared.program.NamedProgram.{NamedProgram}
use Rattle.dalvik_defs.proofs.Calm.{text_sound}
use Rattle.pass_defs.specs.Live.{Family, KeepsAbove}
use Rattle.removal_law.specs.Left.{left_in, left_of, field_key}
use Rattle.removal_law.specs.Reach.{IsRegular}
use Rattle.removal_law.proofs.Lists.{clash, In, here, there, in_either, and_left, and_behind, not_found}
use Rattle.removal_law.proofs.Classes.{Kept, class_left}
use Rattle.removal_law.proofs.Members.{find_filter}
use Rattle.removal_law.proofs.Trees.{Tree, absent, present, class_name, defined, tree}
use Rattle.removal_law.proofs.Finds.{in_filter, Follow, follow_itself, follow_same, follow_or}

abbrev named : Text → FieldKey → FieldKey
named t k = record k { class = t }

abbrev is_named : FieldKey → NamedField → Bool
is_named k f = text_eq f.name k.name && text_eq f.kind k.kind

field_sound : (t : Text) (k : FieldKey) (f : NamedField) → is_named k f ≡ true → field_key t f ≡ named t k
field_sound t k f e =
    ap (λ x. record { class = t; name = x; kind = f.kind }) (text_sound f.name k.name (and_left (text_eq f.name k.name) (text_eq f.kind k.kind) e))
    ∙ ap (λ x. record { class = t; name = k.name; kind = x }) (text_sound f.kind k.kind (and_behind (text_eq f.name k.name) (text_eq f.kind k.kind) e))

abbrev pub LiveField : Family → FieldKey → Text × NamedField → Type 0
LiveField s k x = s.fields (named x.0 k) ≡ true

abbrev with_class : Text → NamedField → Text × NamedField
with_class t f = (t, f)

module _ (s : Family) (k : FieldKey) where
  live_field : (c : NamedClass) → s.fields (named c.name k) ≡ true → field_in (left_in s c) k.name k.kind ≡ field_in c k.name k.kind
  live_field c e = find_filter (is_named k) (λ f. s.fields (field_key c.name f)) (λ f i. ap s.fields (field_sound c.name k f i) ∙ e) c.fields

  pub dead_field : (c : NamedClass) → s.fields (named c.name k) ≡ false → field_in (left_in s c) k.name k.kind ≡ None
  dead_field c e = not_found (is_named k) (filter (λ f. s.fields (field_key c.name f)) c.fields) (λ f i. by f i (is_named k f) refl)
    where
      by : (f : NamedField) → In f (filter (λ f. s.fields (field_key c.name f)) c.fields) → (b : Bool) → is_named k f ≡ b → is_named k f ≡ false
      by f i true j = clash (s.fields (field_key c.name f)) (in_filter (λ f. s.fields (field_key c.name f)) f c.fields i) (ap s.fields (field_sound c.name k f j) ∙ e)
      by f i false j = j

  class_follows : (c : NamedClass) → Follow (LiveField s k) (option_map (with_class c.name) (field_in c k.name k.kind)) (option_map (with_class c.name) (field_in (left_in s c) k.name k.kind))
  class_follows c = by (s.fields (named c.name k)) refl
    where
      dead : (o : Option NamedField) → s.fields (named c.name k) ≡ false → Follow (LiveField s k) (option_map (with_class c.name) o) None
      dead None e = refl
      dead (Some f) e = λ l. clash (s.fields (named c.name k)) l e

      by : (b : Bool) → s.fields (named c.name k) ≡ b → Follow (LiveField s k) (option_map (with_class c.name) (field_in c k.name k.kind)) (option_map (with_class c.name) (field_in (left_in s c) k.name k.kind))
      by true e = subst (λ o. Follow (LiveField s k) (option_map (with_class c.name) (field_in c k.name k.kind)) (option_map (with_class c.name) o)) (sym (live_field c e))
          (follow_itself (LiveField s k) (option_map (with_class c.name) (field_in c k.name k.kind)))
      by false e = subst (λ o. Follow (LiveField s k) (option_map (with_class c.name) (field_in c k.name k.kind)) (option_map (with_class c.name) o)) (sym (dead_field c e)) (dead (field_in c k.name k.kind) e)

  abbrev ListFollows : (Text → Option (Text × NamedField)) → (Text → Option (Text × NamedField)) → List Text → Type 0
  ListFollows f g ts = Follow (LiveField s k) (first_field (map f ts)) (first_field (map g ts))

  list_follows : (f g : Text → Option (Text × NamedField)) (ts : List Text) → ((t : Text) → In t ts → Follow (LiveField s k) (f t) (g t)) → ListFollows f g ts
  list_follows f g [] h = refl
  list_follows f g (t ∷ ts) h = follow_or (LiveField s k) (f t) (g t) (first_field (map f ts)) (first_field (map g ts)) (h t (here ts)) (list_follows f g ts (λ u i. h u (there t ts i)))

module _ (p : NamedProgram) (s : Family) (above : KeepsAbove p s) (regular : IsRegular p) (k : FieldKey) where
  abbrev q : NamedProgram
  q = left_of s p

  abbrev step_of : NamedProgram → ℕ → Option NamedClass → Option (Text × NamedField)
  step_of r n o = elim o as (λ o. Option (Text × NamedField)) [
    | Some c ↦ option_or (option_map (λ f. (c.name, f)) (field_in c k.name k.kind)) (first_field (map (field_from n r k) (c.interfaces ++ c.superclass ∷ [])))
    | None ↦ None
  ]

  from_none : (r : NamedProgram) (n : ℕ) (t : Text) → class_named r t ≡ None → field_from n r k t ≡ None
  from_none r zero t e = refl
  from_none r (suc n) t e = ap (step_of r n) e

  ups : (c : NamedClass) (u : Text) → In u (c.interfaces ++ c.superclass ∷ []) → In u (c.superclass ∷ c.interfaces)
  ups c u i = elim (in_either u c.interfaces (c.superclass ∷ []) i) [ inl a ↦ there c.superclass c.interfaces a | inr a ↦ last u a ]
    where
      last : (u : Text) → In u (c.superclass ∷ []) → In u (c.superclass ∷ c.interfaces)
      last u (here ys) = here c.interfaces
      last u (there y ys a) = elim a [ ]

  from_follows : (n m : ℕ) (t : Text) → Tree p s above n m t → Follow (LiveField s k) (field_from m p k t) (field_from n q k t)
  from_follows n m t (absent i j u e d) = subst (λ o. Follow (LiveField s k) o (field_from n q k t)) (sym (from_none p m t e)) (from_none q n t d)
  from_follows (suc n) (suc m) t (present i j u c e d sub) =
      subst (λ o. Follow (LiveField s k) o (field_from (suc n) q k t)) (sym (ap (step_of p m) e))
      (subst (λ o. Follow (LiveField s k) (step_of p m (Some c)) o) (sym (ap (step_of q n) d))
      (follow_or (LiveField s k) (option_map (with_class c.name) (field_in c k.name k.kind)) (option_map (with_class c.name) (field_in (left_in s c) k.name k.kind))
      (first_field (map (field_from m p k) (c.interfaces ++ c.superclass ∷ []))) (first_field (map (field_from n q k) (c.interfaces ++ c.superclass ∷ [])))
      (class_follows s k c)
      (list_follows s k (field_from m p k) (field_from n q k) (c.interfaces ++ c.superclass ∷ []) (λ v a. from_follows n m v (sub v (ups c v a))))))

  -- the field that a name resolves to
  pub finds_left : Kept s p k.class → ((x : Text × NamedField) → finds_field p k ≡ Some x → s.fields (record k { class = x.0 }) ≡ true) → finds_field q k ≡ finds_field p k
  finds_left h l = follow_same (LiveField s k) (finds_field p k) (finds_field q k) (from_follows (length q.classes) (length p.classes) k.class (tree p s above regular k.class h)) l

  -- the field that a class itself defines
  abbrev field_of : Option NamedClass → Option NamedField
  field_of o = elim o as (λ o. Option NamedField) [ Some c ↦ field_in c k.name k.kind | None ↦ None ]

  pub defined_left : Kept s p k.class → s.fields k ≡ true → defined_field q k ≡ defined_field p k
  defined_left h l = ap field_of (class_left s p k.class h) ∙ by (class_named p k.class) refl
    where
      by : (o : Option NamedClass) → class_named p k.class ≡ o → field_of (option_map (left_in s) o) ≡ field_of o
      by None e = refl
      by (Some c) e = live_field s k c (ap (λ t. s.fields (named t k)) (class_name p k.class c e) ∙ l)

  -- a field that was found is of a class of the program
  abbrev IsDefined : Text × NamedField → Type 0
  IsDefined x = defines p x.0 ≡ true

  in_list : (f : Text → Option (Text × NamedField)) (ts : List Text) (x : Text × NamedField) → ((t : Text) → f t ≡ Some x → IsDefined x) → first_field (map f ts) ≡ Some x → IsDefined x
  in_list f [] x h e = none_some x e
  in_list f (t ∷ ts) x h e = by (f t) refl e (in_list f ts x h)
    where
      by : (o : Option (Text × NamedField)) → f t ≡ o → option_or o (first_field (map f ts)) ≡ Some x → (first_field (map f ts) ≡ Some x → IsDefined x) → IsDefined x
      by None i j ih = ih j
      by (Some y) i j ih = h t (i ∙ j)

  from_defined : (n : ℕ) (t : Text) (x : Text × NamedField) → field_from n p k t ≡ Some x → IsDefined x
  from_defined zero t x e = none_some x e
  from_defined (suc n) t x e = by (class_named p t) refl e (λ u i. from_defined n u x i)
    where
      own : (c : NamedClass) → class_named p t ≡ Some c → (o : Option NamedField) → ((u : Text) → field_from n p k u ≡ Some x → IsDefined x)
          → option_or (option_map (with_class c.name) o) (first_field (map (field_from n p k) (c.interfaces ++ c.superclass ∷ []))) ≡ Some x → IsDefined x
      own c i None ih j = in_list (field_from n p k) (c.interfaces ++ c.superclass ∷ []) x ih j
      own c i (Some f) ih j = ap (λ y. defines p y.0) (sym (some_same (c.name, f) x j)) ∙ ap (defines p) (class_name p t c i) ∙ defined p t c i

      by : (o : Option NamedClass) → class_named p t ≡ o → step_of p n o ≡ Some x → ((u : Text) → field_from n p k u ≡ Some x → IsDefined x) → IsDefined x
      by None i j ih = none_some x j
      by (Some c) i j ih = own c i (field_in c k.name k.kind) ih j

  pub found_defined : (x : Text × NamedField) → finds_field p k ≡ Some x → defines p x.0 ≡ true
  found_defined x e = from_defined (length p.classes) k.class x e
