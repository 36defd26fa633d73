-- The queries of a run answer by numbers what the face of its program says by names.
use Rattle.std.proofs.Common.{◌≡◌, ℕ, ◌<◌, Bool, true, false, length, Option, Some, None, refl, sym, ap, ◌∙◌}
use Rattle.std.specs.Prelude.{◌&&◌, cond, is_some, find, position, slice_get, option_and_then}
use Rattle.std.specs.Option.{option_map}
use Rattle.program_model.specs.declared.pools.MethodName.{MethodName}
use Rattle.program_model.specs.declared.program.Field.{Field}
use Rattle.program_model.specs.declared.program.Method.{Method}
use Rattle.program_model.specs.declared.program.MethodAt.{MethodAt}
use Rattle.program_model.specs.declared.program.Class.{Class}
use Rattle.program_model.specs.declared.program.Program.{Program}
use Rattle.class_defs.specs.Finding as look
use Rattle.class_defs.specs.Starts as start
use Rattle.name_bridge.specs.Named as bridge
use Rattle.name_bridge.specs.Named.{search_at, field_at_place}
use Rattle.name_bridge.proofs.Tables.{Sound, sound, method_is, method_name, method_proto}
use Rattle.name_bridge.proofs.Lists.{find_place, find_named}
use Rattle.name_bridge.proofs.Classes.{class_parts}
use Rattle.name_bridge.proofs.Above.{own_place}
use Rattle.name_bridge.proofs.Resolved.{static_by_number, super_by_number}
use Rattle.name_bridge.proofs.Candidates.{finds_at_by_number}
use Rattle.name_bridge.proofs.Fields.{field_resolves_by_number}
use Rattle.name_bridge.proofs.Started.{initialiser_by_number, trivial_by_number}
use Rattle.dalvik_defs.specs.Names.{Text, text_eq, proto_text}
use Rattle.dalvik_defs.specs.Naming.{text_at, type_at, signature_at, method_at, field_at, named_class, named_method, named_field, named}
use Rattle.dalvik_defs.specs.Under.{class_named, is_under}
use Rattle.dalvik_defs.specs.Find as name
use Rattle.dalvik_defs.specs.Initialised as first
use Rattle.dalvik_defs.specs.Face.{place_of, declared_in, finds_virtually}
use Rattle.dalvik_defs.specs.declared.names.FieldKey.{FieldKey}
use Rattle.dalvik_defs.specs.declared.names.MethodKey.{MethodKey}
use Rattle.dalvik_defs.specs.declared.program.NamedField.{NamedField}
use Rattle.dalvik_defs.specs.declared.program.NamedClass.{NamedClass}
use Rattle.dalvik_defs.specs.declared.tables.Framework.{Framework}
use Rattle.dalvik_lookups.specs.declared.finds.Search.TheVariants as find
use Rattle.dalvik_lookups.specs.declared.lookups.Lookups.{Lookups}
use Rattle.dalvik_lookups.specs.Tables.{search_of, place_named, IsRight}
use Rattle.dalvik_lookups.specs.Walks.{search_by, type_of_class, found_of}
use Rattle.dalvik_lookups.specs.Declaring.{is_called, is_typed, methods_in, fields_in, method_place, field_place, method_of, declared_method, declared_field}
use Rattle.dalvik_lookups.specs.Facing.{named_search, place_at, IsFace}
use Rattle.dalvik_lookups.proofs.Interned.{text_sound}
use Rattle.dalvik_lookups.proofs.Firsting.{first_named, started}
use Rattle.dalvik_lookups.proofs.Calls.{class_there}

-- the class of a name by its place
pub named_place : (p : Program) (t : Text) → class_named (named p) t ≡ option_map (named_class p) (option_and_then (slice_get p.classes) (place_named p t))
named_place p t = find_named (λ c. text_eq c.name t) (λ c. text_eq (type_at p c.name) t) (named_class p) p.classes (λ i c e. refl) ∙ ap (option_map (named_class p)) (find_place (λ c. text_eq (type_at p c.name) t) p.classes)

-- a class of a name is there
pub record ClassOf (p : Program) (t : Text) (c : ℕ) : Type 0 where
  pub class : Class
  pub is : slice_get p.classes c ≡ Some class
  pub text : type_at p class.name ≡ t

pub class_of : (p : Program) (t : Text) (c : ℕ) → place_named p t ≡ Some c → ClassOf p t c
class_of p t c e = let q = class_there p t c e in record { class = q.entry; is = q.is; text = text_sound (type_at p q.entry.name) t q.passes }

there : (p : Program) (t : Text) (c : ℕ) (k : ClassOf p t c) → place_named p t ≡ Some c → class_named (named p) t ≡ Some (named_class p k.class)
there p t c k e = named_place p t ∙ ap (λ o. option_map (named_class p) (option_and_then (slice_get p.classes) o)) e ∙ ap (option_map (named_class p)) k.is

nowhere : (p : Program) (t : Text) → place_named p t ≡ None → class_named (named p) t ≡ None
nowhere p t e = named_place p t ∙ ap (λ o. option_map (named_class p) (option_and_then (slice_get p.classes) o)) e

searched : (p : Program) (o : Option MethodAt) → search_at p (look.search_of o) ≡ named_search p (search_of o)
searched p None = refl
searched p (Some at) = refl

by_search : (p : Program) (x : look.Search) → search_at p x ≡ named_search p (search_by x)
by_search p look.Search.Nothing = refl
by_search p look.Search.Clash = refl
by_search p (look.Search.Finds at) = refl

flags_of : (p : Program) (t : Text) → option_map (λ c. c.flags) (class_named (named p) t) ≡ option_map (λ k. k.flags.0) (option_and_then (slice_get p.classes) (place_named p t))
flags_of p t = ap (option_map (λ c. c.flags)) (named_place p t) ∙ by_class (option_and_then (slice_get p.classes) (place_named p t))
  where
    by_class : (o : Option Class) → option_map (λ c. c.flags) (option_map (named_class p) o) ≡ option_map (λ k. k.flags.0) o
    by_class None = refl
    by_class (Some k) = refl

field_of : (p : Program) (s : Sound p) (f : ℕ) → f < length p.fields → option_map (λ c. place_of c.0 c.1) (name.finds_field (named p) (field_at p f)) ≡ option_and_then (place_at p) (look.resolves_field p f)
field_of p s f lt = ap (option_map (λ c. place_of c.0 c.1)) (field_resolves_by_number p s f lt) ∙ by_place (look.resolves_field p f)
  where
    by_place : (o : Option (ℕ × ℕ)) → option_map (λ c. place_of c.0 c.1) (option_and_then (field_at_place p) o) ≡ option_and_then (place_at p) o
    by_place None = refl
    by_place (Some at) = refl

abbrev starts_in : Option NamedClass → Option MethodKey
starts_in o = elim o [ Some c ↦ first.initialiser_in c | None ↦ None ]

initialiser_named : (p : Program) (t : Text) → first.initialiser_of (named p) t ≡ option_map (λ i. first.initialiser_key t) (option_and_then (start.initialiser_place p) (place_named p t))
initialiser_named p t = by_place (place_named p t) refl
  where
    by_place : (o : Option ℕ) → place_named p t ≡ o → starts_in (class_named (named p) t) ≡ option_map (λ i. first.initialiser_key t) (option_and_then (start.initialiser_place p) o)
    by_place None e = ap starts_in (nowhere p t e)
    by_place (Some c) e =
        let k = class_of p t c e in
        ap starts_in (there p t c k e) ∙ initialiser_by_number p k.class
        ∙ ap (λ x. option_map (λ i. first.initialiser_key x) (start.initialiser_of p (Some k.class))) k.text
        ∙ ap (λ o. option_map (λ i. first.initialiser_key t) (start.initialiser_of p o)) (sym k.is)

abbrev if_under : Bool → name.Search → name.Search
if_under b s = elim b [ true ↦ s | false ↦ name.Search.Nothing ]

virtually_named : (l : Lookups) → IsRight l → (t : Text) (m : ℕ) (q : MethodName) → slice_get l.program.now.methods m ≡ Some q
    → finds_virtually (named l.program.now) l.framework.now t (method_at l.program.now m) ≡ named_search l.program.now (found_of l (place_named l.program.now t) q)
virtually_named l r t m q h = by_place (place_named p t) refl
  where
    p : Program
    p = l.program.now

    f : Framework
    f = l.framework.now

    s : Sound p
    s = sound p r.well

    key : MethodKey
    key = method_at p m

    by_test : (c : ℕ) (k : ClassOf p t c) → (b : Bool) → if_under b (name.finds_at (named p) t key) ≡ named_search p (cond b (search_by (look.finds_at p c q.name q.proto)) find.Nothing)
    by_test c k false = refl
    by_test c k true =
        ap (name.finds_at (named p) t) (method_is p s m q h)
        ∙ ap (λ x. name.finds_at (named p) x (record { class = type_at p q.class; name = text_at p q.name; signature = signature_at p q.proto })) (sym k.text)
        ∙ finds_at_by_number p s q.name q.proto (method_name p s m q h) (method_proto p s m q h) r.resolved.of.once k.class.name c (type_at p q.class) (class_parts p s c k.class k.is).name (own_place p r.resolved.of.once c k.class k.is)
        ∙ by_search p (look.finds_at p c q.name q.proto)

    by_place : (o : Option ℕ) → place_named p t ≡ o → if_under (is_some (class_named (named p) t) && is_under (named p) f t key.class) (name.finds_at (named p) t key) ≡ named_search p (found_of l o q)
    by_place None e = ap (λ o. if_under (is_some o && is_under (named p) f t key.class) (name.finds_at (named p) t key)) (nowhere p t e)
    by_place (Some c) e =
        let k = class_of p t c e in
        ap (λ o. if_under (is_some o && is_under (named p) f t key.class) (name.finds_at (named p) t key)) (there p t c k e)
        ∙ ap (λ x. if_under (is_under (named p) f t x) (name.finds_at (named p) t key)) (ap (λ x. x.class) (method_is p s m q h))
        ∙ by_test c k (is_under (named p) f t (type_at p q.class))
        ∙ ap (λ x. named_search p (cond (is_under (named p) f x (type_at p q.class)) (search_by (look.finds_at p c q.name q.proto)) find.Nothing)) (sym k.text)
        ∙ ap (λ o. named_search p (cond (is_under (named p) f (type_of_class p o) (type_at p q.class)) (search_by (look.finds_at p c q.name q.proto)) find.Nothing)) (sym k.is)

-- ---- what a class defines itself

abbrev method_within : Text → Text → Option NamedClass → Option name.Found
method_within n q o = elim o [ Some c ↦ option_map (name.found_in c) (find (λ m. text_eq m.name n && text_eq (proto_text m.signature) q) c.methods) | None ↦ None ]

declared_named : (p : Program) (t n q : Text) → declared_in (named p) t n q ≡ option_and_then (bridge.found_at p) (declared_method p t n q)
declared_named p t n q = by_place (place_named p t) refl
  where
    at : (c : ℕ) (k : Class) → slice_get p.classes c ≡ Some k → (o : Option ℕ) → option_map (name.found_in (named_class p k)) (option_map (named_method p) (option_and_then (slice_get k.methods) o)) ≡ option_and_then (bridge.found_at p) (option_map (method_of c) o)
    at c k e None = refl
    at c k e (Some i) = found (slice_get k.methods i) ∙ sym (ap (bridge.found_of p i) e)
      where
        found : (o : Option Method) → option_map (name.found_in (named_class p k)) (option_map (named_method p) o) ≡ bridge.found_there p k o
        found None = refl
        found (Some m) = refl

    by_place : (o : Option ℕ) → place_named p t ≡ o → method_within n q (class_named (named p) t) ≡ option_and_then (bridge.found_at p) (option_and_then (λ c. option_map (method_of c) (method_place p c n q)) o)
    by_place None e = ap (method_within n q) (nowhere p t e)
    by_place (Some c) e =
        let k = class_of p t c e in
        ap (method_within n q) (there p t c k e)
        ∙ ap (option_map (name.found_in (named_class p k.class))) (
        find_named (λ m. text_eq m.name n && text_eq (proto_text m.signature) q) (is_called p n q) (named_method p) k.class.methods (λ i m f. refl)
        ∙ ap (option_map (named_method p)) (find_place (is_called p n q) k.class.methods))
        ∙ at c k.class k.is (position (is_called p n q) k.class.methods)
        ∙ ap (λ o. option_and_then (bridge.found_at p) (option_map (method_of c) (position (is_called p n q) (methods_in o)))) (sym k.is)

abbrev field_within : FieldKey → Option NamedClass → Option NamedField
field_within k o = elim o [ Some c ↦ name.field_in c k.name k.kind | None ↦ None ]

own_named : (p : Program) (k : FieldKey) → option_map (place_of k.class) (name.defined_field (named p) k) ≡ option_and_then (place_at p) (declared_field p k.class k.name k.kind)
own_named p k = by_place (place_named p k.class) refl
  where
    at : (c : ℕ) (d : Class) → slice_get p.classes c ≡ Some d → type_at p d.name ≡ k.class → (o : Option ℕ)
        → option_map (place_of k.class) (option_map (named_field p) (option_and_then (slice_get d.fields) o)) ≡ option_and_then (place_at p) (option_map (λ (n : ℕ). (c, n)) o)
    at c d e t None = refl
    at c d e t (Some i) = found (slice_get d.fields i) ∙ sym (ap (λ o. option_map (λ z. place_of z.0 z.1) (bridge.field_of p i o)) e)
      where
        found : (o : Option Field) → option_map (place_of k.class) (option_map (named_field p) o) ≡ option_map (λ z. place_of z.0 z.1) (bridge.field_there p d o)
        found None = refl
        found (Some f) = ap (λ x. Some (place_of x (named_field p f))) (sym t)

    by_place : (o : Option ℕ) → place_named p k.class ≡ o → option_map (place_of k.class) (field_within k (class_named (named p) k.class)) ≡ option_and_then (place_at p) (option_and_then (λ c. option_map (λ n. (c, n)) (field_place p c k.name k.kind)) o)
    by_place None e = ap (λ o. option_map (place_of k.class) (field_within k o)) (nowhere p k.class e)
    by_place (Some c) e =
        let q = class_of p k.class c e in
        ap (λ o. option_map (place_of k.class) (field_within k o)) (there p k.class c q e)
        ∙ ap (option_map (place_of k.class)) (
        find_named (λ f. text_eq f.name k.name && text_eq f.kind k.kind) (is_typed p k.name k.kind) (named_field p) q.class.fields (λ i f g. refl)
        ∙ ap (option_map (named_field p)) (find_place (is_typed p k.name k.kind) q.class.fields))
        ∙ at c q.class q.is q.text (position (is_typed p k.name k.kind) q.class.fields)
        ∙ ap (λ o. option_and_then (place_at p) (option_map (λ (n : ℕ). (c, n)) (position (is_typed p k.name k.kind) (fields_in o)))) (sym q.is)

-- what the queries answer of right tables
pub right_face : (l : Lookups) → IsRight l → IsFace l
right_face l r = record {
  flags = flags_of l.program.now;
  statically = λ m lt. static_by_number l.program.now s m lt ∙ searched l.program.now (look.finds_static l.program.now m);
  above = λ c m k e lt. super_by_number l.program.now s r.resolved.of.once k.name c (class_parts l.program.now s c k e).name (own_place l.program.now r.resolved.of.once c k e) k e m lt ∙ by_search l.program.now (look.finds_super l.program.now c m);
  virtually = virtually_named l r;
  declared = declared_named l.program.now;
  own_field = own_named l.program.now;
  field = field_of l.program.now s;
  initialiser = initialiser_named l.program.now;
  first = first_named l.program.now s r.resolved.of.once;
  started = started l.program.now s;
  trivial = λ c k e. trivial_by_number l.program.now s r.resolved.of.once k.name c (class_parts l.program.now s c k e).name (own_place l.program.now r.resolved.of.once c k e);
}
  where
    s : Sound l.program.now
    s = sound l.program.now r.well
