-- Which moves are legal, by numbers and by names.
use Rattle.std.proofs.Common.{◌≡◌, ℕ, zero, suc, ◌<◌, Bool, true, false, true≢false, List, [], ◌∷◌, length, map, nat_eq, ap, refl, sym, subst, ◌∙◌, lt-ltb, eqb-true, eq-eqb}
use Rattle.std.specs.Prelude.{Option, Some, None, ◌&&◌, ◌||◌, not, slice_get, option_and_then}
use Rattle.std.specs.List.{list_all, list_any}
use Rattle.std.specs.Option.{option_map}
use Rattle.program_model.specs.declared.pass.Outside.{Outside}
use Rattle.program_model.specs.declared.pools.MethodName.{MethodName}
use Rattle.program_model.specs.declared.pools.Proto.{Proto}
use Rattle.program_model.specs.declared.program.Class.{Class}
use Rattle.program_model.specs.declared.program.Field.{Field}
use Rattle.program_model.specs.declared.program.Method.{Method}
use Rattle.program_model.specs.declared.program.MethodAt.{MethodAt}
use Rattle.program_model.specs.declared.program.Program.{Program}
use Rattle.program_model.specs.Distinct.{all_differ, own_method_key}
use Rattle.program_model.specs.Lookups as look
use Rattle.program_model.specs.MemberRules.{has_flag, class_fits, fields_fit, is_direct, method_fits, methods_fit, methods_in_order, source_fits, types_of_class_fit}
use Rattle.program_model.specs.Neighbours.{neighbours}
use Rattle.program_model.specs.Texts.{has_type}
use Rattle.program_model.specs.ValueRules.{marks_fit}
use Rattle.program_model.specs.Lookups.{class_place}
use Rattle.class_defs.specs.Members as member
use Rattle.class_defs.proofs.Positions.{both, same_test}
use Rattle.class_defs.proofs.WellFormed.{below, class_parts}
use Rattle.name_bridge.specs.Named.{field_of, field_there, finds, found_at}
use Rattle.name_bridge.proofs.Flags.{static_flag}
use Rattle.name_bridge.proofs.Above.{own_place}
use Rattle.name_bridge.proofs.Candidates.{common_test}
use Rattle.name_bridge.proofs.Found.{found_parts, looked_up, virtual_test}
use Rattle.name_bridge.proofs.Tables.{Sound, all_at, and_left, and_right, entry_at, field_is, method_class, method_is, method_name, method_once, method_proto, proto_parameters, proto_result, same_number, sound}
use Rattle.dalvik_defs.specs.Face.{Place, place_of}
use Rattle.dalvik_defs.specs.Gives.{is_on}
use Rattle.dalvik_defs.specs.Find.{Found, found_in}
use Rattle.dalvik_defs.specs.Flags.{is_static, is_virtual}
use Rattle.dalvik_defs.specs.Legal.{answers_kept, calls_back, is_found, keeper_above, may_reach, on_fits, receiver_ok}
use Rattle.dalvik_defs.specs.Names as spelled
use Rattle.dalvik_defs.specs.Names.{Text, method_eq}
use Rattle.dalvik_defs.specs.Naming.{field_at, method_at, named, named_class, named_field, named_method, signature_at, text_at, type_at}
use Rattle.dalvik_defs.specs.Outcome.{passed_types}
use Rattle.dalvik_defs.specs.Outer.{methods_in, outer_of}
use Rattle.dalvik_defs.specs.State.{World, kind_of}
use Rattle.dalvik_defs.specs.Under.{class_named, is_outward, reaches_framework, touches_framework}
use Rattle.dalvik_defs.specs.declared.names.FieldKey.{FieldKey}
use Rattle.dalvik_defs.specs.declared.names.MethodKey.{MethodKey}
use Rattle.dalvik_defs.specs.declared.names.Signature.{Signature}
use Rattle.dalvik_defs.specs.declared.program.NamedClass.{NamedClass}
use Rattle.dalvik_defs.specs.declared.script.Given.{Given}
use Rattle.dalvik_defs.specs.declared.state.Value.{Value}
use Rattle.dalvik_lookups.specs.declared.finds.Search.{Search}
use Rattle.dalvik_lookups.specs.declared.finds.Search.TheVariants as find
use Rattle.dalvik_lookups.specs.declared.lookups.Lookups.{Lookups}
use Rattle.dalvik_lookups.specs.declared.plays.FieldAt.{FieldAt}
use Rattle.dalvik_lookups.specs.declared.types.Kind.{Kind}
use Rattle.dalvik_lookups.specs.Facing.{named_search, place_at, run_face}
use Rattle.dalvik_lookups.specs.Reached.{has_keeper}
use Rattle.dalvik_lookups.specs.Tables.{kind_in, place_named, IsRight}
use Rattle.dalvik_lookups.specs.Views.{type_text}
use Rattle.dalvik_lookups.specs.Walks.{found_of}
use Rattle.dalvik_lookups.proofs.Facing.{ClassOf, named_place, right_face}
use Rattle.dalvik_lookups.proofs.Interned.{got_short}
use Rattle.dalvik_state.specs.declared.gifts.Gifts.{Gifts}
use Rattle.dalvik_state.specs.declared.gifts.Taken.{Taken}
use Rattle.dalvik_state.specs.declared.world.World.{World as OwnWorld}
use Rattle.dalvik_state.specs.Drafts.{given_world}
use Rattle.dalvik_state.specs.Giving.{finds_at, passed_numbers, IsFieldAt, IsGivenFine, OnTaken}
use Rattle.dalvik_state.specs.States.{AreFineKinds, IsFineKind}
use Rattle.dalvik_state.specs.Views.{names_in, value_of}
use Rattle.dalvik_state.proofs.Deep.{fine_type}
use Rattle.dalvik_state.proofs.Keepers.{keeper_named}
use Rattle.dalvik_state.proofs.Marked.{method_same, method_sound}

pub or_true : (b : Bool) → true ≡ (b || true)
or_true true = refl
or_true false = refl

pub or_false : (b : Bool) → b ≡ (b || false)
or_false true = refl
or_false false = refl

-- ---- the types of a call

module _ (l : Lookups) (r : IsRight l) where
  abbrev p : Program
  p = l.program.now

  s : Sound l.program.now
  s = sound l.program.now r.well

  kinds_named : (ns : List ℕ) → list_all (has_type l.program.now) ns ≡ true → map (type_text l.types) (map (kind_in l.kinds.items) ns) ≡ map (type_at l.program.now) ns
  kinds_named [] h = refl
  kinds_named (n ∷ ns) h =
      let low = below n (length l.program.now.types) (and_left (has_type l.program.now n) (list_all (has_type l.program.now) ns) h) in
      λ i. (r.tabled.named.kinds n low).text i ∷ kinds_named ns (and_right (has_type l.program.now n) (list_all (has_type l.program.now) ns) h) i

  kinds_fine : (ns : List ℕ) → list_all (has_type l.program.now) ns ≡ true → (i : ℕ) (k : Kind) → slice_get (map (kind_in l.kinds.items) ns) i ≡ Some k → IsFineKind l k
  kinds_fine [] h i k e = absurd (cc)
  kinds_fine (n ∷ ns) h zero k e =
      let same : kind_in l.kinds.items n ≡ k = cc in
      subst (IsFineKind l) same (fine_type l r n (below n (length l.program.now.types) (and_left (has_type l.program.now n) (list_all (has_type l.program.now) ns) h)))
  kinds_fine (n ∷ ns) h (suc i) k e = kinds_fine ns (and_right (has_type l.program.now n) (list_all (has_type l.program.now) ns) h) i k e

  -- the proto that a method's name names
  pub proto_of : (m : ℕ) (q : MethodName) → slice_get l.program.now.methods m ≡ Some q → (t : Proto) × (slice_get l.program.now.protos q.proto ≡ Some t)
  proto_of m q e = entry_at l.program.now.protos q.proto (method_proto l.program.now s m q e)

  key_is : (m : ℕ) (q : MethodName) (t : Proto) → slice_get l.program.now.methods m ≡ Some q → slice_get l.program.now.protos q.proto ≡ Some t
      → (method_at l.program.now m).signature ≡ record { parameters = map (type_at l.program.now) t.parameters; result = type_at l.program.now t.result }
  key_is m q t e f =
      ap (λ (k : MethodKey). k.signature) (method_is l.program.now s m q e)
      ∙ ap (λ (o : Option Proto). elim o as (λ o. Signature) [ Some x ↦ record { parameters = map (type_at l.program.now) x.parameters; result = type_at l.program.now x.result } | None ↦ record { parameters = []; result = [] } ]) f

  numbers_there : (static : Bool) (m : ℕ) (q : MethodName) (t : Proto) → slice_get l.program.now.methods m ≡ Some q → slice_get l.program.now.protos q.proto ≡ Some t → list_all (has_type l.program.now) (passed_numbers static q t) ≡ true
  numbers_there true m q t e f = proto_parameters l.program.now s q.proto t f
  numbers_there false m q t e f =
      both (has_type l.program.now q.class) (list_all (has_type l.program.now) t.parameters) (lt-ltb q.class (length l.program.now.types) (method_class l.program.now s m q e)) (proto_parameters l.program.now s q.proto t f)

  numbers_named : (static : Bool) (m : ℕ) (q : MethodName) (t : Proto) → slice_get l.program.now.methods m ≡ Some q → slice_get l.program.now.protos q.proto ≡ Some t → map (type_at l.program.now) (passed_numbers static q t) ≡ passed_types static (method_at l.program.now m)
  numbers_named true m q t e f = sym (ap (λ (g : Signature). g.parameters) (key_is m q t e f))
  numbers_named false m q t e f = λ i. (sym (ap (λ (k : MethodKey). k.class) (method_is l.program.now s m q e))) i ∷ (sym (ap (λ (g : Signature). g.parameters) (key_is m q t e f))) i

  module _ (m : ℕ) (q : MethodName) (t : Proto) (e : slice_get l.program.now.methods m ≡ Some q) (f : slice_get l.program.now.protos q.proto ≡ Some t) where
    pub passed_named : (static : Bool) (kinds : List Kind) → kinds ≡ map (kind_in l.kinds.items) (passed_numbers static q t) → map (type_text l.types) kinds ≡ passed_types static (method_at l.program.now m)
    passed_named static kinds is = ap (map (type_text l.types)) is ∙ kinds_named (passed_numbers static q t) (numbers_there static m q t e f) ∙ numbers_named static m q t e f

    pub passed_fine : (static : Bool) (kinds : List Kind) → kinds ≡ map (kind_in l.kinds.items) (passed_numbers static q t) → AreFineKinds l kinds
    passed_fine static kinds is = subst (AreFineKinds l) (sym is) (record { at = kinds_fine (passed_numbers static q t) (numbers_there static m q t e f) })

    pub result_named : type_text l.types (kind_in l.kinds.items t.result) ≡ (method_at l.program.now m).signature.result
    result_named = (r.tabled.named.kinds t.result (proto_result l.program.now s q.proto t f)).text ∙ sym (ap (λ (g : Signature). g.result) (key_is m q t e f))

    pub result_fine : IsFineKind l (kind_in l.kinds.items t.result)
    result_fine = fine_type l r t.result (proto_result l.program.now s q.proto t f)

  -- ---- methods at places

  methods_differ : (c : Class) → class_fits l.program.now c ≡ true → all_differ own_method_key c.methods ≡ true
  unfolding class_fits fields_fit methods_fit
  methods_differ c h =
      let two = and_right (types_of_class_fit l.program.now c && (source_fits l.program.now c.source && marks_fit l.program.now c.marks)) (fields_fit l.program.now c.name c.fields && methods_fit l.program.now c.name c.methods) h in
      let m = and_right (list_all (method_fits l.program.now c.name) c.methods) (list_all (methods_in_order l.program.now) (neighbours c.methods) && all_differ own_method_key c.methods) (and_right (fields_fit l.program.now c.name c.fields) (methods_fit l.program.now c.name c.methods) two) in
      and_right (list_all (methods_in_order l.program.now) (neighbours c.methods)) (all_differ own_method_key c.methods) m

  -- a method at a place, with its name
  pub record IsMethod (at : MethodAt) (m : Method) (f : Found) : Type 0 where
    pub class : Class
    pub is_class : slice_get l.program.now.classes at.class ≡ Some class
    pub is_method : slice_get class.methods at.place ≡ Some m
    pub found : f ≡ found_in (named_class l.program.now class) (named_method l.program.now m)
    pub name : MethodName
    pub is_name : slice_get l.program.now.methods m.name ≡ Some name
    pub owner : name.class ≡ class.name
    pub key : f.key ≡ method_at l.program.now m.name

  key_same : (c : Class) (m : Method) (q : MethodName) → slice_get l.program.now.methods m.name ≡ Some q → q.class ≡ c.name → (found_in (named_class l.program.now c) (named_method l.program.now m)).key ≡ method_at l.program.now m.name
  key_same c m q e o =
      let k = method_is l.program.now s m.name q e in
      λ i. record { class = (sym (ap (λ (x : MethodKey). x.class) k ∙ ap (type_at l.program.now) o)) i; name = (method_at l.program.now m.name).name; signature = (method_at l.program.now m.name).signature }

  pub method_there : (at : MethodAt) (f : Found) (m : Method) → found_at l.program.now at ≡ Some f → look.method_at l.program.now at ≡ Some m → IsMethod at m f
  method_there at f m e g =
      let h = found_parts l.program.now at f e in
      let same : h.there.method ≡ m = (let x : Some h.there.method ≡ Some m = sym (looked_up l.program.now at h.there) ∙ g in cc) in
      let fits = (class_parts l.program.now s at.class h.there.class h.there.is_class).methods at.place m (h.there.is_method ∙ ap (λ (y : Method). Some y) same) in
      let found : f ≡ found_in (named_class l.program.now h.there.class) (named_method l.program.now m) = h.found ∙ ap (λ (y : Method). found_in (named_class l.program.now h.there.class) (named_method l.program.now y)) same in
      record {
        class = h.there.class;
        is_class = h.there.is_class;
        is_method = h.there.is_method ∙ ap (λ (y : Method). Some y) same;
        found = found;
        name = fits.entry;
        is_name = fits.is;
        owner = fits.owner;
        key = ap (λ (x : Found). x.key) found ∙ key_same h.there.class m fits.entry fits.is fits.owner;
      }

  pub method_low : (at : MethodAt) (m : Method) (f : Found) → IsMethod at m f → m.name < length l.program.now.methods
  method_low at m f h = got_short l.program.now.methods m.name h.name h.is_name

  -- two places with methods of one name are one place
  once : (a b : MethodAt) (m n : Method) (f g : Found) → IsMethod a m f → IsMethod b n g → method_eq g.key f.key ≡ true → b ≡ a
  once a b m n f g h k e =
      let number : n.name ≡ m.name = method_once l.program.now s n.name m.name (method_low b n g k) (method_low a m f h) (sym k.key ∙ method_sound g.key f.key e ∙ h.key) in
      let entry : k.name ≡ h.name = (let x : Some k.name ≡ Some h.name = sym k.is_name ∙ ap (slice_get l.program.now.methods) number ∙ h.is_name in cc) in
      let class : k.class.name ≡ h.class.name = sym k.owner ∙ ap (λ (q : MethodName). q.class) entry ∙ h.owner in
      let place : b.class ≡ a.class = (let x : Some b.class ≡ Some a.class = sym (own_place l.program.now r.resolved.of.once b.class k.class k.is_class) ∙ ap (class_place l.program.now) class ∙ own_place l.program.now r.resolved.of.once a.class h.class h.is_class in cc) in
      let own : k.class ≡ h.class = (let x : Some k.class ≡ Some h.class = sym k.is_class ∙ ap (slice_get l.program.now.classes) place ∙ h.is_class in cc) in
      let fits = all_at (class_fits l.program.now) l.program.now.classes a.class h.class s.classes_fit h.is_class in
      let there : slice_get h.class.methods b.place ≡ Some n = ap (λ (c : Class). slice_get c.methods b.place) (sym own) ∙ k.is_method in
      let at : b.place ≡ a.place = same_number own_method_key h.class.methods b.place a.place n m (methods_differ h.class fits) there h.is_method (ap (λ (x : ℕ). x ∷ []) number) in
      λ i. record { class = place i; place = at i }

  -- the class and the name of a method at a place
  pub record IsPlaced (at : MethodAt) (m : Method) : Type 0 where
    pub class : Class
    pub is_class : slice_get l.program.now.classes at.class ≡ Some class
    pub name : MethodName
    pub is_name : slice_get l.program.now.methods m.name ≡ Some name

  pub placed : (at : MethodAt) (m : Method) → look.method_at l.program.now at ≡ Some m → IsPlaced at m
  placed at m e = by (slice_get l.program.now.classes at.class) refl e
    where
      by : (o : Option Class) → slice_get l.program.now.classes at.class ≡ o → option_and_then (λ (c : Class). slice_get c.methods at.place) o ≡ Some m → IsPlaced at m
      by None g h = absurd (cc)
      by (Some k) g h =
          let fits = (class_parts l.program.now s at.class k g).methods at.place m h in
          record { class = k; is_class = g; name = fits.entry; is_name = fits.is }

  -- ---- calls back

  finds_named : (at : MethodAt) (m : Method) (f : Found) → found_at l.program.now at ≡ Some f → IsMethod at m f → (x : Search) → finds_at at x ≡ is_found f.key (named_search l.program.now x)
  finds_named at m f e h find.Nothing = refl
  finds_named at m f e h find.Clash = refl
  finds_named at m f e h (find.Finds b) = by (found_at l.program.now b) refl
    where
      same_place : (b.class ≡ at.class) → (b.place ≡ at.place) → found_at l.program.now b ≡ Some f
      same_place c d = (λ i. found_at l.program.now (record { class = c i; place = d i })) ∙ e

      by : (o : Option Found) → found_at l.program.now b ≡ o → (nat_eq b.class at.class && nat_eq b.place at.place) ≡ is_found f.key (finds (found_at l.program.now b))
      by None g = same_test (nat_eq b.class at.class && nat_eq b.place at.place) (is_found f.key (finds (found_at l.program.now b)))
          (λ t. let there = same_place (eqb-true b.class at.class (and_left (nat_eq b.class at.class) (nat_eq b.place at.place) t)) (eqb-true b.place at.place (and_right (nat_eq b.class at.class) (nat_eq b.place at.place) t)) in absurd (let x : None ≡ Some f = sym g ∙ there in cc))
          (λ t. absurd (true≢false (sym t ∙ ap (λ (o : Option Found). is_found f.key (finds o)) g)))
      by (Some k) g =
          let parts = found_parts l.program.now b k g in
          let other = method_there b k parts.there.method g (looked_up l.program.now b parts.there) in
          same_test (nat_eq b.class at.class && nat_eq b.place at.place) (is_found f.key (finds (found_at l.program.now b)))
          (λ t. let there = same_place (eqb-true b.class at.class (and_left (nat_eq b.class at.class) (nat_eq b.place at.place) t)) (eqb-true b.place at.place (and_right (nat_eq b.class at.class) (nat_eq b.place at.place) t)) in
          ap (λ (o : Option Found). is_found f.key (finds o)) there ∙ method_same f.key)
          (λ t.
          let one = once at b m parts.there.method f k h other (sym (ap (λ (o : Option Found). is_found f.key (finds o)) g) ∙ t) in
          both (nat_eq b.class at.class) (nat_eq b.place at.place) (eq-eqb b.class at.class (ap (λ (x : MethodAt). x.class) one)) (eq-eqb b.place at.place (ap (λ (x : MethodAt). x.place) one)))

  pub back_named : (o : Outside) (t : Text) (at : MethodAt) (m : Method) (f : Found) → found_at l.program.now at ≡ Some f → (h : IsMethod at m f)
      → (((not (is_direct l.program.now m) && not (methods_in l.program.now o.shut (method_at l.program.now m.name))) && finds_at at (found_of l (place_named l.program.now t) h.name))
      && ((run_face l).outward t || member.is_common l.program.now h.name.name h.name.proto))
      ≡ calls_back (run_face l) (outer_of l.program.now o) t f
  back_named o t at m f e h =
      let key = sym h.key in
      let virtual : not (is_direct l.program.now m) ≡ is_virtual f.flags f.key.name = sym (virtual_test l.program.now m) ∙ ap (λ (x : Found). is_virtual x.flags x.key.name) (sym h.found) in
      let search = finds_named at m f e h (found_of l (place_named l.program.now t) h.name) ∙ ap (is_found f.key) (sym ((right_face l r).virtually t m.name h.name h.is_name) ∙ ap ((run_face l).virtually t) key) in
      let name_is = ap (λ (k : MethodKey). spelled.is_common k.name k.signature) (h.key ∙ method_is l.program.now s m.name h.name h.is_name) in
      let common : member.is_common l.program.now h.name.name h.name.proto ≡ spelled.is_common f.key.name f.key.signature = sym (common_test l.program.now h.name.name h.name.proto) ∙ sym name_is in
      λ i. ((virtual i && not (methods_in l.program.now o.shut (key i))) && search i) && ((run_face l).outward t || common i)

  module _ (o : Outside) (t : Text) (at : MethodAt) (m : Method) (f : Found) (e : found_at l.program.now at ≡ Some f) (h : IsMethod at m f) where
    abbrev may_call : Bool
    may_call = not (is_direct l.program.now m) && not (methods_in l.program.now o.shut (method_at l.program.now m.name))

    abbrev sought : Search
    sought = found_of l (place_named l.program.now t) h.name

    abbrev out : Bool
    out = (run_face l).outward t || member.is_common l.program.now h.name.name h.name.proto

    pub back_shut : false ≡ may_call → false ≡ calls_back (run_face l) (outer_of l.program.now o) t f
    back_shut c = ap (λ (b : Bool). (b && finds_at at sought) && out) c ∙ back_named o t at m f e h

    pub back_unfound : (x : Search) → true ≡ may_call → x ≡ sought → false ≡ finds_at at x → false ≡ calls_back (run_face l) (outer_of l.program.now o) t f
    back_unfound x c g d = (λ i. (c i && (d ∙ ap (finds_at at) g) i) && out) ∙ back_named o t at m f e h

    pub back_found : (x : Search) (b : Bool) → true ≡ may_call → x ≡ sought → true ≡ finds_at at x → b ≡ out → b ≡ calls_back (run_face l) (outer_of l.program.now o) t f
    back_found x b c g d q = (λ i. (c i && (d ∙ ap (finds_at at) g) i) && q i) ∙ back_named o t at m f e h

  -- ---- kept virtual methods above the class

  pub answers_named : (o : Outside) (t : Text) (at : MethodAt) (m : Method) (f : Found) → found_at l.program.now at ≡ Some f → (h : IsMethod at m f)
      → ((not (is_direct l.program.now m) && finds_at at (found_of l (place_named l.program.now t) h.name)) && keeper_above (run_face l) (outer_of l.program.now o) t (text_at l.program.now h.name.name) (signature_at l.program.now h.name.proto))
      ≡ answers_kept (run_face l) (outer_of l.program.now o) t f
  answers_named o t at m f e h =
      let virtual : not (is_direct l.program.now m) ≡ is_virtual f.flags f.key.name = sym (virtual_test l.program.now m) ∙ ap (λ (x : Found). is_virtual x.flags x.key.name) (sym h.found) in
      let search = finds_named at m f e h (found_of l (place_named l.program.now t) h.name) ∙ ap (is_found f.key) (sym ((right_face l r).virtually t m.name h.name h.is_name) ∙ ap ((run_face l).virtually t) (sym h.key)) in
      let names = sym (h.key ∙ method_is l.program.now s m.name h.name h.is_name) in
      λ i. (virtual i && search i) && keeper_above (run_face l) (outer_of l.program.now o) t (ap (λ (k : MethodKey). k.name) names i) (ap (λ (k : MethodKey). k.signature) names i)

  module _ (o : Outside) (t : Text) (at : MethodAt) (m : Method) (f : Found) (e : found_at l.program.now at ≡ Some f) (h : IsMethod at m f) where
    abbrev looked : Search
    looked = found_of l (place_named l.program.now t) h.name

    abbrev keeps : Bool
    keeps = keeper_above (run_face l) (outer_of l.program.now o) t (text_at l.program.now h.name.name) (signature_at l.program.now h.name.proto)

    pub answers_direct : false ≡ not (is_direct l.program.now m) → false ≡ answers_kept (run_face l) (outer_of l.program.now o) t f
    answers_direct c = ap (λ (b : Bool). (b && finds_at at looked) && keeps) c ∙ answers_named o t at m f e h

    pub answers_unfound : (x : Search) → true ≡ not (is_direct l.program.now m) → x ≡ looked → false ≡ finds_at at x → false ≡ answers_kept (run_face l) (outer_of l.program.now o) t f
    answers_unfound x c g d = (λ i. (c i && (d ∙ ap (finds_at at) g) i) && keeps) ∙ answers_named o t at m f e h

    pub answers_found : (x : Search) (b : Bool) → true ≡ not (is_direct l.program.now m) → x ≡ looked → true ≡ finds_at at x → b ≡ has_keeper l.program.now l.framework.now o h.name.name h.name.proto t → b ≡ answers_kept (run_face l) (outer_of l.program.now o) t f
    answers_found x b c g d q =
        (λ i. (c i && (d ∙ ap (finds_at at) g) i)
        && (q ∙ keeper_named l r o h.name.name h.name.proto (method_name l.program.now s m.name h.name h.is_name) (method_proto l.program.now s m.name h.name h.is_name) t) i)
        ∙ answers_named o t at m f e h

  abbrev outward_by : ℕ → Text → Option NamedClass → Bool
  outward_by n t o = elim o as (λ o. Bool) [ Some c ↦ touches_framework (named l.program.now) c || list_any (reaches_framework n (named l.program.now)) (c.superclass ∷ c.interfaces) | None ↦ false ]

  -- what the program doesn't define stands under nothing of the framework
  pub outward_none : (t : Text) → place_named l.program.now t ≡ None → false ≡ (run_face l).outward t
  outward_none t e = sym (by (length (named l.program.now).classes))
    where
      none : class_named (named l.program.now) t ≡ None
      none = named_place l.program.now t ∙ ap (λ (o : Option ℕ). option_map (named_class l.program.now) (option_and_then (slice_get l.program.now.classes) o)) e

      by : (n : ℕ) → reaches_framework n (named l.program.now) t ≡ false
      by zero = refl
      by (suc n) = ap (outward_by n t) none

  pub outward_some : (t : Text) (c : ℕ) (k : ClassOf l.program.now t c) (b : Bool) → b ≡ is_outward (named l.program.now) (type_at l.program.now k.class.name) → b ≡ (run_face l).outward t
  outward_some t c k b e = e ∙ ap (is_outward (named l.program.now)) k.text

  -- ---- a receiver

  pub receiver_named : (o : Outside) (w : World) (v : Value) (vs : List Value) (f : Found) (on reached : Bool) → on ≡ is_on (run_face l) w v f.key.class
      → reached ≡ may_reach (run_face l) (outer_of l.program.now o) (kind_of w v) f → (on && reached) ≡ receiver_ok (run_face l) (outer_of l.program.now o) w f (v ∷ vs)
  receiver_named o w v vs f on reached e h = λ i. e i && h i

  pub found_class : (at : MethodAt) (m : Method) (f : Found) (h : IsMethod at m f) → type_at l.program.now h.class.name ≡ f.key.class
  found_class at m f h = sym (ap (λ (x : Found). x.key.class) h.found)

  -- ---- a field

  pub field_class : (at : FieldAt) (f : Field) (h : IsFieldAt l.program.now at f) → type_at l.program.now h.class.name ≡ (field_at l.program.now f.name).class
  field_class at f h =
      let fits = (class_parts l.program.now s at.class h.class h.within).fields at.place f h.is in
      sym (ap (λ (k : FieldKey). k.class) (field_is l.program.now s f.name fits.entry fits.is) ∙ ap (type_at l.program.now) fits.owner)

  pub field_static : (at : FieldAt) (f : Field) (place : Place) → IsFieldAt l.program.now at f → place_at l.program.now (at.class, at.place) ≡ Some place → has_flag f.flags 8 ≡ is_static place.flags
  field_static at f place h e =
      let is : place_at l.program.now (at.class, at.place) ≡ Some (place_of (type_at l.program.now h.class.name) (named_field l.program.now f)) =
      ap (λ (o : Option Class). option_map (λ z. place_of z.0 z.1) (field_of l.program.now at.place o)) h.within
      ∙ ap (λ (o : Option Field). option_map (λ z. place_of z.0 z.1) (field_there l.program.now h.class o)) h.is in
      let same : place_of (type_at l.program.now h.class.name) (named_field l.program.now f) ≡ place = (let x : Some (place_of (type_at l.program.now h.class.name) (named_field l.program.now f)) ≡ Some place = sym is ∙ e in cc) in
      static_flag f.flags ∙ ap (λ (x : Place). is_static x.flags) same

  module _ (o : Outside) (w : OwnWorld) (before : World) (all : Gifts) (k : FieldKey) (place : Place) where
    pub on_none : (g : Option Given) (b : Bool) → OnTaken l o w before all g None → b ≡ is_static place.flags
        → b ≡ on_fits (run_face l) (outer_of l.program.now o) before (given_world (names_in l) w all) k place g None
    on_none None b t e = e
    on_none (Some g) b t e = absurd t

    pub on_some : (g : Option Given) (t : Taken) (static on : Bool) → OnTaken l o w before all g (Some t) → static ≡ is_static place.flags → on ≡ is_on (run_face l) (given_world (names_in l) w all) (value_of (names_in l) t.datum) k.class
        → ((not static && t.allowed) && on) ≡ on_fits (run_face l) (outer_of l.program.now o) before (given_world (names_in l) w all) k place g (Some (value_of (names_in l) t.datum))
    on_some None t static on h e f = absurd h
    on_some (Some g) t static on h e f = λ i. (not (e i) && h.allowed i) && f i

    pub on_fine : (g : Option Given) (t : Taken) → OnTaken l o w before all g (Some t) → IsGivenFine l w all t.datum
    on_fine None t h = absurd h
    on_fine (Some g) t h = h.fine
