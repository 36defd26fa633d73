-- Fields that are kept, by their places and by names.
use Rattle.std.proofs.Common.{◌≡◌, ℕ, ◌<◌, true, false, length, ap, refl, sym, subst, ◌∙◌}
use Rattle.std.specs.Prelude.{Option, Some, None, slice_get, option_and_then}
use Rattle.std.specs.List.{list_any}
use Rattle.std.specs.Option.{option_map}
use Rattle.class_defs.proofs.Positions.{place_entry}
use Rattle.class_defs.proofs.WellFormed.{and_left, and_right, class_parts, sound, Sound}
use Rattle.program_model.specs.declared.pass.Outside.{Outside}
use Rattle.program_model.specs.declared.program.Class.{Class}
use Rattle.program_model.specs.declared.program.Field.{Field}
use Rattle.program_model.specs.declared.program.Program.{Program}
use Rattle.name_bridge.specs.Named.{field_of, field_there}
use Rattle.name_bridge.proofs.Tables.{field_is}
use Rattle.dalvik_defs.specs.Face.{Place, place_of}
use Rattle.dalvik_defs.specs.Fields.{key_at}
use Rattle.dalvik_defs.specs.Find.{defined_field}
use Rattle.dalvik_defs.specs.Moves.{key_of}
use Rattle.dalvik_defs.specs.Names.{Text, field_eq, text_eq}
use Rattle.dalvik_defs.specs.Naming.{field_at, named, named_field, type_at}
use Rattle.dalvik_defs.specs.Outer.{outer_of}
use Rattle.dalvik_defs.specs.declared.names.FieldKey.{FieldKey}
use Rattle.dalvik_defs.specs.declared.program.NamedField.{NamedField}
use Rattle.dalvik_lookups.specs.Declaring.{declared_field, field_place, fields_in, is_typed}
use Rattle.dalvik_lookups.specs.Facing.{place_at, run_face}
use Rattle.dalvik_lookups.specs.Playing.{field_of_kind, IsField}
use Rattle.dalvik_lookups.specs.Reached.{is_among}
use Rattle.dalvik_lookups.specs.Tables.{place_named, IsRight}
use Rattle.dalvik_lookups.specs.Views.{type_text, IsKind}
use Rattle.dalvik_lookups.specs.declared.lookups.Lookups.{Lookups}
use Rattle.dalvik_lookups.specs.declared.plays.FieldAt.{FieldAt}
use Rattle.dalvik_lookups.specs.declared.types.Kind.{Kind}
use Rattle.dalvik_lookups.proofs.Calls.{class_there}
use Rattle.dalvik_lookups.proofs.Facing.{right_face}
use Rattle.dalvik_lookups.proofs.Interned.{got_short, text_sound}
use Rattle.dalvik_state.specs.Giving.{IsFieldAt}
use Rattle.dalvik_state.proofs.Marked.{field_marked}
use Rattle.dalvik_moves.specs.Moving.{IsKeptField, KeptMaybe}

-- ---- what a class declares

record DeclaredThere (p : Program) (t n q : Text) (class index : ℕ) : Type 0 where
  pub placed : place_named p t ≡ Some class
  pub first : field_place p class n q ≡ Some index

declared_there : (p : Program) (t n q : Text) (class index : ℕ) → declared_field p t n q ≡ Some (class, index) → DeclaredThere p t n q class index
declared_there p t n q class index e = by_class (place_named p t) refl e
  where
    by_index : (c : ℕ) → place_named p t ≡ Some c → (o : Option ℕ) → field_place p c n q ≡ o → ◌≡◌ {A = Option (ℕ × ℕ)} (option_map (λ (place : ℕ). (c, place)) o) (Some (class, index)) → DeclaredThere p t n q class index
    by_index c g None h f = absurd (cc)
    by_index c g (Some i) h f =
        let pair : ◌≡◌ {A = ℕ × ℕ} (c, i) (class, index) = cc in
        let class_same : c ≡ class = ap (λ (z : ℕ × ℕ). z.0) pair in
        let index_same : i ≡ index = ap (λ (z : ℕ × ℕ). z.1) pair in
        record {
          placed = g ∙ ap (λ (m : ℕ). Some m) class_same;
          first = ap (λ (m : ℕ). field_place p m n q) (sym class_same) ∙ h ∙ ap (λ (m : ℕ). Some m) index_same;
        }

    by_class : (o : Option ℕ) → place_named p t ≡ o → ◌≡◌ {A = Option (ℕ × ℕ)} (option_and_then (λ (c : ℕ). option_map (λ (place : ℕ). (c, place)) (field_place p c n q)) o) (Some (class, index)) → DeclaredThere p t n q class index
    by_class None g f = absurd (cc)
    by_class (Some c) g f = by_index c g (field_place p c n q) refl f

-- a field's name is what its class declares
field_named : (p : Program) → Sound p → (t n q : Text) (at : FieldAt) (f : Field) → declared_field p t n q ≡ Some (at.class, at.place) → IsFieldAt p at f → field_at p f.name ≡ key_of t n q
field_named p s t n q at f d h =
    let there = declared_there p t n q at.class at.place d in
    let own = class_there p t at.class there.placed in
    let class_same : h.class ≡ own.entry = (let x : Some h.class ≡ Some own.entry = sym h.within ∙ own.is in cc) in
    let typed = place_entry (is_typed p n q) (fields_in (slice_get p.classes at.class)) at.place there.first in
    let field_same : typed.entry ≡ f = (let x : Some typed.entry ≡ Some f = sym typed.is ∙ ap (λ (o : Option Class). slice_get (fields_in o) at.place) h.within ∙ h.is in cc) in
    let passes : is_typed p n q f ≡ true = ap (is_typed p n q) (sym field_same) ∙ typed.passes in
    let fits = (class_parts p s at.class h.class h.within).fields at.place f h.is in
    let class : (field_at p f.name).class ≡ t =
    ap (λ (k : FieldKey). k.class) (field_is p s f.name fits.entry fits.is) ∙ ap (type_at p) fits.owner
    ∙ ap (λ (c : Class). type_at p c.name) class_same ∙ text_sound (type_at p own.entry.name) t own.passes in
    let name : (field_at p f.name).name ≡ n = text_sound (field_at p f.name).name n (and_left (text_eq (field_at p f.name).name n) (text_eq (field_at p f.name).kind q) passes) in
    let kind : (field_at p f.name).kind ≡ q = text_sound (field_at p f.name).kind q (and_right (text_eq (field_at p f.name).name n) (text_eq (field_at p f.name).kind q) passes) in
    λ i. record { class = class i; name = name i; kind = kind i }

field_below : (p : Program) → Sound p → (at : FieldAt) (f : Field) → IsFieldAt p at f → f.name < length p.fields
field_below p s at f h = (let fits = (class_parts p s at.class h.class h.within).fields at.place f h.is in got_short p.fields f.name fits.entry fits.is)

-- what stands at a place
pub field_there_at : (p : Program) (at : FieldAt) (f : Field) → Some f ≡ option_and_then (λ (c : Class). slice_get c.fields at.place) (slice_get p.classes at.class) → IsFieldAt p at f
field_there_at p at f e = by (slice_get p.classes at.class) refl e
  where
    by : (o : Option Class) → slice_get p.classes at.class ≡ o → Some f ≡ option_and_then (λ (c : Class). slice_get c.fields at.place) o → IsFieldAt p at f
    by None g h = absurd (cc)
    by (Some c) g h = record { class = c; within = g; is = sym h }

placed_there : (p : Program) (at : FieldAt) (f : Field) (h : IsFieldAt p at f) → place_at p (at.class, at.place) ≡ Some (place_of (type_at p h.class.name) (named_field p f))
placed_there p at f h =
    ap (λ (o : Option Class). option_map (λ (z : Text × NamedField). place_of z.0 z.1) (field_of p at.place o)) h.within
    ∙ ap (λ (o : Option Field). option_map (λ (z : Text × NamedField). place_of z.0 z.1) (field_there p h.class o)) h.is

placed_nowhere : (p : Program) (class place : ℕ) → option_and_then (λ (c : Class). slice_get c.fields place) (slice_get p.classes class) ≡ None → place_at p (class, place) ≡ None
placed_nowhere p class place e = by (slice_get p.classes class) e
  where
    by_field : (c : Class) (o : Option Field) → o ≡ None → option_map (λ (z : Text × NamedField). place_of z.0 z.1) (field_there p c o) ≡ None
    by_field c o h = ap (λ (x : Option Field). option_map (λ (z : Text × NamedField). place_of z.0 z.1) (field_there p c x)) h

    by : (o : Option Class) → option_and_then (λ (c : Class). slice_get c.fields place) o ≡ None → option_map (λ (z : Text × NamedField). place_of z.0 z.1) (field_of p place o) ≡ None
    by None h = refl
    by (Some c) h = by_field c (slice_get c.fields place) h

-- what the numbers of a move name
found_at : (of : Kind) (at : FieldAt) (d : Option (ℕ × ℕ)) → Some at ≡ option_map (field_of_kind of) d → (d ≡ Some (at.class, at.place)) × (at.kind ≡ of)
found_at of at None e = absurd (cc)
found_at of at (Some x) e = (let same : at ≡ field_of_kind of x = cc in (ap (λ (y : FieldAt). Some (y.class, y.place)) (sym same), ap (λ (y : FieldAt). y.kind) same))

nothing_at : (of : Kind) (d : Option (ℕ × ℕ)) → None ≡ option_map (field_of_kind of) d → d ≡ None
nothing_at of None e = refl
nothing_at of (Some x) e = absurd (cc)

-- ---- the class of a field that it defines itself

pub own_class : (l : Lookups) (k : FieldKey) (place : Place) → (run_face l).own_field k ≡ Some place → place.class ≡ k.class
own_class l k place e = by (defined_field (named l.program.now) k) e
  where
    by : (o : Option NamedField) → option_map (place_of k.class) o ≡ Some place → place.class ≡ k.class
    by None h = absurd (cc)
    by (Some f) h = (let same : place_of k.class f ≡ place = cc in ap (λ (x : Place). x.class) (sym same))

pub key_kept : (l : Lookups) (o : Outside) (k : FieldKey) (at : FieldAt) (field : Field) (h : IsKeptField l o k at field) → key_at k h.place ≡ k
key_kept l o k at field h = λ i. record k { class = own_class l k h.place h.own i }

-- ---- a field that a move names

module _ (l : Lookups) (r : IsRight l) (t n q : Text) where
  abbrev p : Program
  p = l.program.now

  abbrev k : FieldKey
  k = key_of t n q

  own_is : (run_face l).own_field k ≡ option_and_then (place_at p) (declared_field p t n q)
  own_is = (right_face l r).own_field k

  pub kept_none : (o : Outside) (at : Option FieldAt) → IsField p l.types t n q at → at ≡ None → KeptMaybe l o k None
  kept_none o at f e = λ place h. absurd (let none = own_is ∙ ap (option_and_then (place_at p)) (nothing_at f.of (declared_field p t n q) (sym e ∙ f.is)) in let x : None ≡ Some place = sym none ∙ h in cc)

  pub kept_nowhere : (o : Outside) (at : Option FieldAt) (x : FieldAt) → IsField p l.types t n q at → at ≡ Some x → None ≡ option_and_then (λ (c : Class). slice_get c.fields x.place) (slice_get p.classes x.class) → KeptMaybe l o k None
  kept_nowhere o at x f e none = λ place h. absurd (
      let d = found_at f.of x (declared_field p t n q) (sym e ∙ f.is) in
      let nowhere = own_is ∙ ap (option_and_then (place_at p)) d.0 ∙ placed_nowhere p x.class x.place (sym none) in
      let y : None ≡ Some place = sym nowhere ∙ h in cc)

  module _ (o : Outside) (at : Option FieldAt) (x : FieldAt) (field : Field) (f : IsField p l.types t n q at) (e : at ≡ Some x) (h : IsFieldAt p x field) where
    declared : declared_field p t n q ≡ Some (x.class, x.place)
    declared = (found_at f.of x (declared_field p t n q) (sym e ∙ f.is)).0

    kind_is : x.kind ≡ f.of
    kind_is = (found_at f.of x (declared_field p t n q) (sym e ∙ f.is)).1

    name_is : field_at p field.name ≡ k
    name_is = field_named p (sound p r.well) t n q x field declared h

    marked : is_among (length p.fields) o.fields field.name ≡ (outer_of p o).fields k
    marked =
        field_marked p (sound p r.well) o.fields field.name (field_below p (sound p r.well) x field h)
        ∙ ap (λ (y : FieldKey). list_any (λ (m : ℕ). field_eq (field_at p m) y) o.fields) name_is

    own_there : (run_face l).own_field k ≡ Some (place_of (type_at p h.class.name) (named_field p field))
    own_there = own_is ∙ ap (option_and_then (place_at p)) declared ∙ placed_there p x field h

    pub kept_not : is_among (length p.fields) o.fields field.name ≡ false → KeptMaybe l o k None
    kept_not b = λ place own. sym marked ∙ b

    pub kept_some : is_among (length p.fields) o.fields field.name ≡ true → IsKeptField l o k x field
    kept_some b =
        let place = place_of (type_at p h.class.name) (named_field p field) in
        let class : type_at p h.class.name ≡ t = own_class l k place own_there in
        record {
          kept = sym marked ∙ b;
          place = place;
          own = own_there;
          stands = placed_there p x field h;
          within = h;
          named = name_is;
          of = record { declared = ap (λ (u : Text). declared_field p u n q) class ∙ declared; place = placed_there p x field h };
          kind = subst (λ (z : Kind). IsKind l.types z) (sym kind_is) f.typed.kind;
          text = ap (type_text l.types) kind_is ∙ f.typed.text;
        }
