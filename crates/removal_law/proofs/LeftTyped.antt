-- What is left of a typed program by a closed family is typed.
use Rattle.std.proofs.Common.{◌≡◌, ℕ, Bool, true, false, List, [], ◌∷◌, refl, sym, ap, ◌∙◌, subst}
use Rattle.std.specs.Prelude.{Option, Some, None, map, filter, find, flat_map}
use Rattle.std.specs.Option.{option_and_then}
use Rattle.insn_set.specs.declared.ops.InvokeKind.{InvokeKind}
use Rattle.insn_set.specs.declared.ops.InvokeKind.TheVariants as call
use Rattle.dalvik_defs.specs.Names.{Text, object_type, same_name, base_of}
use Rattle.dalvik_defs.specs.Under.{defines}
use Rattle.dalvik_defs.specs.Find.{Found, Search, Finds, method_in, finds_super}
use Rattle.dalvik_defs.specs.Outer.{Outer}
use Rattle.dalvik_defs.specs.Silence.{key_in}
use Rattle.dalvik_defs.specs.declared.names.MethodKey.{MethodKey}
use Rattle.dalvik_defs.specs.declared.forms.Form.{Form}
use Rattle.dalvik_defs.specs.declared.forms.Form.TheVariants as form
use Rattle.dalvik_defs.specs.declared.program.NamedHandler.{NamedHandler}
use Rattle.dalvik_defs.specs.declared.program.NamedRegion.{NamedRegion}
use Rattle.dalvik_defs.specs.declared.program.NamedBody.{NamedBody}
use Rattle.dalvik_defs.specs.declared.program.NamedMethod.{NamedMethod}
use Rattle.dalvik_defs.specs.declared.program.NamedClass.{NamedClass}
use Rattle.dalvik_defs.specs.declared.program.NamedProgram.{NamedProgram}
use Rattle.pass_defs.specs.Walks.{is_covered, region_at}
use Rattle.pass_defs.specs.Calls.{found_by, super_candidates, may_find}
use Rattle.pass_defs.specs.Mentions.{types_of, types_in, fields_in, types_in_body, fields_in_body}
use Rattle.pass_defs.specs.Live.{Family, Conditions, HasBody, KeepsAbove, IsClosedFamily}
use Rattle.pass_defs.specs.Typed.{Table, IsTyping, IsTyped}
use Rattle.removal_law.specs.Left.{left_in, left_of, In, here, there}
use Rattle.removal_law.specs.Reach.{IsRegular, OkType, DefinesOnce, NamesOnce}
use Rattle.removal_law.proofs.Lists.{clash, contained, found_in, in_front, in_back, in_map}
use Rattle.removal_law.proofs.Classes.{Kept}
use Rattle.removal_law.proofs.Members.{key_sound}
use Rattle.removal_law.proofs.Trees.{defined}
use Rattle.removal_law.proofs.Finds.{in_filter, in_unfiltered, in_flat}
use Rattle.removal_law.proofs.Searches.{super_left}
use Rattle.removal_law.proofs.Fields.{finds_left}
use Rattle.removal_law.proofs.Declared.{name_same, none_there}
use Rattle.removal_law.proofs.Supers.{super_defined, resolves_left}
use Rattle.removal_law.proofs.Faces.{field_types, slice_in}
use Rattle.removal_law.proofs.TypedCode.{from_contained}
use Rattle.removal_law.proofs.KindsLeft.{base_bare, class_bare, type_kept}
use Rattle.removal_law.proofs.DemandsLeft.{FormLeft}
use Rattle.removal_law.proofs.TypedLeft.{BodyLeft, left_table, typing_left}

pub out_of_map : {A B : Type 0} (g : A → B) (y : B) (xs : List A) → In y (map g xs) → (x : A) × (In x xs × (y ≡ g x))
out_of_map g y [] i = elim i [ ]
out_of_map {A} {B} g y (x ∷ xs) i = head y i (out_of_map g y xs)
  where
    head : (y : B) → In y (g x ∷ map g xs) → (In y (map g xs) → (z : A) × (In z xs × (y ≡ g z))) → (z : A) × (In z (x ∷ xs) × (y ≡ g z))
    head y (here ys) ih = (x, (here xs, refl))
    head y (there z ys j) ih = let r = ih j in (r.0, (there x xs r.1.0, r.1.1))

module _ (p : NamedProgram) (o : Outer) (k : Conditions) (s : Family) (closed : IsClosedFamily p o k s) (regular : IsRegular p) (names : NamesOnce p) (once : DefinesOnce p) (none : defines p object_type ≡ false) where
  abbrev q : NamedProgram
  q = left_of s p

  above : KeepsAbove p s
  above = closed.above

  base_defined : (t : Text) → defines p t ≡ true → base_of t ≡ t
  base_defined t d = base_bare t (class_bare t (regular.names t d))

  pub ok_kept : (t : Text) → OkType p s t → Kept s p t
  ok_kept t h = type_kept p s above regular none t h

  live_ok : (t : Text) → defines p t ≡ true → s.classes t ≡ true → OkType p s t
  live_ok t d l = λ i. ap s.classes (base_defined t d) ∙ l

  pub found_kept : (g : Found) → s.methods g.key ≡ true → Kept s p g.key.class
  found_kept g l = λ d. closed.kept.method_classes g.key l

  -- ---- a method of a class of the program, that is live

  module _ (c : NamedClass) (m : NamedMethod) (b : NamedBody) (class_in : In c p.classes) (class_live : s.classes c.name ≡ true) (stands : In m c.methods) (live : s.methods (key_in c m) ≡ true) (coded : m.body ≡ Some b) where
    abbrev test : NamedMethod → Bool
    test x = same_name x.name x.signature m.name m.signature

    method_once : method_in c m.name m.signature ≡ Some m
    method_once = by (find test c.methods) refl
      where
        by : (x : Option NamedMethod) → find test c.methods ≡ x → find test c.methods ≡ Some m
        by None e = clash (test m) (name_same m.name m.signature) (none_there test c.methods e m stands)
        by (Some x) e =
            let f = found_in test c.methods x e in
            let same = key_sound c x m.name m.signature f.passes in
            e ∙ ap Some (once c.name c x m (names c class_in) f.is_in stands (ap (λ k. k.name) same) (ap (λ k. k.signature) same))

    pub has : HasBody p s (key_in c m) b
    has = (
      live,
      ap (λ x. option_and_then (λ (m : NamedMethod). m.body) (elim x as (λ x. Option NamedMethod) [ Some c ↦ method_in c m.name m.signature | None ↦ None ])) (names c class_in)
          ∙ ap (option_and_then (λ (m : NamedMethod). m.body)) method_once ∙ coded,
    )

    class_ok : OkType p s c.name
    class_ok = live_ok c.name (defined p c.name c (names c class_in)) class_live

    own_ok : (t : Text) → In t (types_of m.signature) → OkType p s t
    own_ok t i = closed.types.methods (key_in c m) live t (contained t (types_of m.signature) i)

    handlers_ok : (n : ℕ) (r : NamedRegion) → region_at b n ≡ Some r → (h : NamedHandler) → In h r.handlers → OkType p s h.kind
    handlers_ok n r e h i = closed.types.bodies (key_in c m) b has h.kind (contained h.kind (types_in_body b)
        (in_back h.kind (flat_map types_in b.forms) (flat_map (λ r. map (λ h. h.kind) r.handlers) b.regions)
        (in_flat (λ (r : NamedRegion). map (λ (h : NamedHandler). h.kind) r.handlers) r h.kind b.regions (found_in (is_covered n) b.regions r e).is_in (in_map (λ (h : NamedHandler). h.kind) h r.handlers i))))

    pub says : (f : Form) → In f b.forms → (t : Text) → In t (types_in f) → OkType p s t
    says f at t i = closed.types.bodies (key_in c m) b has t (contained t (types_in_body b)
        (in_front t (flat_map types_in b.forms) (flat_map (λ r. map (λ h. h.kind) r.handlers) b.regions) (in_flat types_in f t b.forms at i)))

    form_left : (f : Form) → In f b.forms → FormLeft p s c m f
    form_left f at = record {
      types = says f at;
      own = own_ok;
      class = class_ok;
      fields = λ x i. finds_left p s above regular x (ok_kept x.class (says f at x.class (field_types f x i).0))
          (λ y e. closed.resolved.fields (key_in c m) b has x y (contained x (fields_in_body b) (in_flat fields_in f x b.forms at i)) e);
      methods = λ kind x args e. resolves_left p s above regular x (named kind x args e)
          (λ g i. closed.resolved.methods (key_in c m) b kind x args has (contained (form.Invoke kind x args) b.forms (called kind x args e)) x g (contained x (x ∷ []) (here [])) i);
      supers = λ x args e. super_left p s above regular found_kept c.name x (λ d. class_live) (named call.Super x args e) (lives x args e) (λ g i. bound x args e g (in_back g (found_by (finds_super p c.name x)) (super_candidates p x) i));
      found = λ x args g e i. live_ok g.key.class (super_defined p s above regular x c.name g i) (closed.kept.method_classes g.key (lives x args e g i));
    }
      where
        called : (kind : InvokeKind) (x : MethodKey) (args : List ℕ) → f ≡ form.Invoke kind x args → In (form.Invoke kind x args) b.forms
        called kind x args e = subst (λ z. In z b.forms) e at

        named : (kind : InvokeKind) (x : MethodKey) (args : List ℕ) → f ≡ form.Invoke kind x args → Kept s p x.class
        named kind x args e = ok_kept x.class (says (form.Invoke kind x args) (called kind x args e) x.class (here (x.signature.result ∷ x.signature.parameters)))

        bound : (x : MethodKey) (args : List ℕ) → f ≡ form.Invoke call.Super x args → (g : Found) → In g (may_find p c.name call.Super x) → s.methods g.key ≡ true
        bound x args e g i = closed.bound (key_in c m) b call.Super x args has (contained (form.Invoke call.Super x args) b.forms (called call.Super x args e)) refl g (contained g (may_find p c.name call.Super x) i)

        by_name : (x : Search) (g : Found) → x ≡ Finds g → In g (found_by x)
        by_name x g e = subst (λ y. In g (found_by y)) (sym e) (here [])

        lives : (x : MethodKey) (args : List ℕ) → f ≡ form.Invoke call.Super x args → (g : Found) → finds_super p c.name x ≡ Finds g → s.methods g.key ≡ true
        lives x args e g i = bound x args e g (in_front g (found_by (finds_super p c.name x)) (super_candidates p x) (by_name (finds_super p c.name x) g i))

    body_left : BodyLeft p s above regular none c m b
    body_left = record {
      class = λ d. class_live;
      parameters = λ t i. own_ok t (there m.signature.result m.signature.parameters i);
      handlers = handlers_ok;
      forms = λ n f e. form_left f (slice_in b.forms n f e);
    }

  left_typing : IsTyped p → (c : NamedClass) (m : NamedMethod) (b : NamedBody) → In c q.classes → In m c.methods → m.body ≡ Some b → (t : Table) × IsTyping q c m b t
  left_typing typed c m b i j e =
      let w = out_of_map (left_in s) c (filter (λ (c : NamedClass). s.classes c.name) p.classes) i in
      subst (λ x. (t : Table) × IsTyping q x m b t) (sym w.1.1)
      (one w.0 (in_unfiltered (λ (c : NamedClass). s.classes c.name) w.0 p.classes w.1.0) (in_filter (λ (c : NamedClass). s.classes c.name) w.0 p.classes w.1.0) (subst (λ x. In m x.methods) w.1.1 j))
    where
      one : (c : NamedClass) → In c p.classes → s.classes c.name ≡ true → In m (filter (λ m. s.methods (key_in c m)) c.methods) → (t : Table) × IsTyping q (left_in s c) m b t
      one c i l j =
          let stands = in_unfiltered (λ m. s.methods (key_in c m)) m c.methods j in
          let live = in_filter (λ m. s.methods (key_in c m)) m c.methods j in
          let h = typed.bodies c m b (contained c p.classes i) (contained m c.methods stands) e in
          (left_table p s above regular none c m h.0, typing_left p s above regular none c m b h.0 (body_left c m b i l stands live e) h.1)

pub typed_left : (p : NamedProgram) (o : Outer) (k : Conditions) (s : Family) → IsClosedFamily p o k s → IsRegular p → NamesOnce p → DefinesOnce p → defines p object_type ≡ false → IsTyped p → IsTyped (left_of s p)
typed_left p o k s closed regular names once none typed = record {
  bodies = λ c m b i j e. left_typing p o k s closed regular names once none typed c m b (from_contained (left_of s p).classes c i.0 i.1 i.2) (from_contained c.methods m j.0 j.1 j.2) e;
}
