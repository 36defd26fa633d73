-- The bodies of the methods that run, by numbers and by names.
use Rattle.std.proofs.Common.{◌≡◌, ℕ, true, nat_eq, [], ◌∷◌, Option, Some, None, refl, sym, ap, ◌∙◌}
use Rattle.std.specs.Prelude.{◌&&◌, slice_get, find, option_and_then}
use Rattle.std.specs.List.{list_all}
use Rattle.std.specs.Option.{option_map}
use Rattle.std.proofs.lemmas.Option.{slice_get-map}
use Rattle.program_model.specs.declared.program.Class.{Class}
use Rattle.program_model.specs.declared.program.Method.{Method}
use Rattle.program_model.specs.declared.program.MethodAt.{MethodAt}
use Rattle.program_model.specs.declared.program.Program.{Program}
use Rattle.program_model.specs.Distinct.{all_differ, method_key, own_method_key}
use Rattle.program_model.specs.MemberRules.{class_fits, fields_fit, method_fits, methods_fit, methods_in_order, source_fits, types_of_class_fit}
use Rattle.program_model.specs.Neighbours.{neighbours}
use Rattle.program_model.specs.ValueRules.{marks_fit}
use Rattle.program_model.specs.Lookups as look
use Rattle.class_defs.specs.ClassGraph.{IsTwice}
use Rattle.class_defs.specs.Members.{is_method, names_method}
use Rattle.name_bridge.specs.Named.{class_at}
use Rattle.name_bridge.proofs.Above.{own_place}
use Rattle.name_bridge.proofs.Classes.{MethodFits, class_parts, class_by_number, method_by_number}
use Rattle.name_bridge.proofs.Lists.{both, find_place, number_of, number_test, place_entry, place_first}
use Rattle.name_bridge.proofs.Tables.{Sound, all_at, and_left, and_right, method_is, method_name, method_proto, same_number, sound}
use Rattle.dalvik_defs.specs.Find.{defined_method, method_in}
use Rattle.dalvik_defs.specs.Naming.{body_of, form_of, method_at, named, named_class, named_method, signature_at, text_at, type_at}
use Rattle.dalvik_defs.specs.Stack.{form_at}
use Rattle.dalvik_defs.specs.Under.{class_named}
use Rattle.dalvik_defs.specs.declared.names.MethodKey.{MethodKey}
use Rattle.dalvik_defs.specs.declared.program.NamedBody.{NamedBody}
use Rattle.dalvik_defs.specs.declared.program.NamedClass.{NamedClass}
use Rattle.dalvik_defs.specs.declared.program.NamedMethod.{NamedMethod}
use Rattle.dalvik_lookups.specs.Tables.{IsRight}
use Rattle.dalvik_lookups.specs.declared.lookups.Lookups.{Lookups}
use Rattle.dalvik_state.specs.Runs.{bodies_in}
use Rattle.dalvik_state.specs.States.{IsSoundFrame}
use Rattle.dalvik_state.specs.Views.{frame_of, names_in}
use Rattle.dalvik_state.specs.declared.frame.Frame.{Frame}

methods_differ : (p : Program) (c : Class) → class_fits p c ≡ true → all_differ own_method_key c.methods ≡ true
unfolding class_fits methods_fit
methods_differ p c h =
    let two = and_right (types_of_class_fit p c && (source_fits p c.source && marks_fit p c.marks)) (fields_fit p c.name c.fields && methods_fit p c.name c.methods) h in
    let more = and_right (list_all (method_fits p c.name) c.methods) (list_all (methods_in_order p) (neighbours c.methods) && all_differ own_method_key c.methods) (and_right (fields_fit p c.name c.fields) (methods_fit p c.name c.methods) two) in
    and_right (list_all (methods_in_order p) (neighbours c.methods)) (all_differ own_method_key c.methods) more

module _ (p : Program) (s : Sound p) (c : ℕ) (k : Class) (is : slice_get p.classes c ≡ Some k) where
  -- the names of a method's name and proto are its own
  own_names : (m : Method) (fit : MethodFits p k.name m) → is_method p fit.entry.name fit.entry.proto m ≡ true
  own_names m fit = ap (names_method fit.entry.name fit.entry.proto) fit.is ∙ both (nat_eq fit.entry.name fit.entry.name) (nat_eq fit.entry.proto fit.entry.proto) (number_test fit.entry.name fit.entry.name refl) (number_test fit.entry.proto fit.entry.proto refl)

  -- a method of the class of the same name and proto has the same number
  same_named : (m x : Method) (fit : MethodFits p k.name m) (g : MethodFits p k.name x) → is_method p fit.entry.name fit.entry.proto x ≡ true → x.name ≡ m.name
  same_named m x fit g h =
      let parts : (nat_eq g.entry.name fit.entry.name && nat_eq g.entry.proto fit.entry.proto) ≡ true = sym (ap (names_method fit.entry.name fit.entry.proto) g.is) ∙ h in
      let name = number_of g.entry.name fit.entry.name (and_left (nat_eq g.entry.name fit.entry.name) (nat_eq g.entry.proto fit.entry.proto) parts) in
      let proto = number_of g.entry.proto fit.entry.proto (and_right (nat_eq g.entry.name fit.entry.name) (nat_eq g.entry.proto fit.entry.proto) parts) in
      let class : g.entry.class ≡ fit.entry.class = g.owner ∙ sym fit.owner in
      same_number method_key p.methods x.name m.name g.entry fit.entry s.methods g.is fit.is (cc (class, name, proto))

  -- the first method of this name and proto is the one at its place
  found_there : (j : ℕ) (m : Method) → slice_get k.methods j ≡ Some m → (fit : MethodFits p k.name m) → find (is_method p fit.entry.name fit.entry.proto) k.methods ≡ Some m
  found_there j m e fit =
      let test = is_method p fit.entry.name fit.entry.proto in
      let first = place_first test k.methods j m e (own_names m fit) in
      let r = place_entry test k.methods first.place first.is in
      let number = same_named m r.entry fit ((class_parts p s c k is).methods first.place r.entry r.is) r.passes in
      let place : first.place ≡ j = same_number own_method_key k.methods first.place j r.entry m (methods_differ p k (all_at (class_fits p) p.classes c k s.classes_fit is)) r.is e (ap (λ (n : ℕ). n ∷ []) number) in
      find_place test k.methods ∙ ap (option_and_then (slice_get k.methods)) first.is ∙ ap (slice_get k.methods) place ∙ e

  -- a method of a class is the one that its name says
  named_there : (once : (class : ℕ) → IsTwice p class → ⊥) (j : ℕ) (m : Method) → slice_get k.methods j ≡ Some m → (fit : MethodFits p k.name m) → defined_method (named p) (method_at p m.name) ≡ Some (named_method p m)
  named_there once j m e fit =
      ap (defined_method (named p)) (method_is p s m.name fit.entry fit.is)
      ∙ ap of_class class
      ∙ method_by_number p s c k fit.entry.name fit.entry.proto is (method_name p s m.name fit.entry fit.is) (method_proto p s m.name fit.entry fit.is)
      ∙ ap (option_map (named_method p)) (found_there j m e fit)
    where
      of_class : Option NamedClass → Option NamedMethod
      of_class o = elim o as (λ o. Option NamedMethod) [ Some d ↦ method_in d (text_at p fit.entry.name) (signature_at p fit.entry.proto) | None ↦ None ]

      class : class_named (named p) (type_at p fit.entry.class) ≡ Some (named_class p k)
      class =
          ap (λ (n : ℕ). class_named (named p) (type_at p n)) fit.owner
          ∙ class_by_number p s k.name (class_parts p s c k is).name
          ∙ ap (option_and_then (class_at p)) (own_place p once c k is)
          ∙ ap (option_map (named_class p)) is

-- a method that stands at a place of a class is the one that its name says
pub defined_named : (p : Program) → Sound p → ((class : ℕ) → IsTwice p class → ⊥) → (c j : ℕ) (k : Class) (m : Method) → slice_get p.classes c ≡ Some k → slice_get k.methods j ≡ Some m
    → defined_method (named p) (method_at p m.name) ≡ Some (named_method p m)
defined_named p s once c j k m e f = named_there p s c k e once j m f ((class_parts p s c k e).methods j m f)

-- the class in which a method stands is that of its name
pub record IsMethodOf (p : Program) (at : MethodAt) (own : Method) : Type 0 where
  pub class : Class
  pub within : slice_get p.classes at.class ≡ Some class
  pub is : slice_get class.methods at.place ≡ Some own
  pub of_class : type_at p class.name ≡ (method_at p own.name).class

pub method_class : (l : Lookups) → IsRight l → (at : MethodAt) (own : Method) → look.method_at l.program.now at ≡ Some own → IsMethodOf l.program.now at own
method_class l r at own e = by (slice_get l.program.now.classes at.class) refl e
  where
    by : (o : Option Class) → slice_get l.program.now.classes at.class ≡ o → option_and_then (λ (c : Class). slice_get c.methods at.place) o ≡ Some own → IsMethodOf l.program.now at own
    by None f g = absurd (cc)
    by (Some k) f g =
        let s = sound l.program.now r.well in
        let fit = (class_parts l.program.now s at.class k f).methods at.place own g in
        record {
          class = k;
          within = f;
          is = g;
          of_class = sym (ap (λ (x : MethodKey). x.class) (method_is l.program.now s own.name fit.entry fit.is) ∙ ap (type_at l.program.now) fit.owner);
        }

-- the body of a method at a place
pub method_body : (l : Lookups) → IsRight l → (at : MethodAt) (own : Method) → look.method_at l.program.now at ≡ Some own → bodies_in l (method_at l.program.now own.name) ≡ option_map (body_of l.program.now) own.body
method_body l r at own e =
    let m = method_class l r at own e in
    ap (option_and_then (λ (x : NamedMethod). x.body)) (defined_named l.program.now (sound l.program.now r.well) r.resolved.of.once at.class at.place m.class own m.within m.is)

-- the body of a method that runs
pub frame_body : (l : Lookups) → IsRight l → (size : ℕ) (f : Frame) → IsSoundFrame l size f → bodies_in l (method_at l.program.now f.method) ≡ Some (body_of l.program.now f.body.now)
frame_body l r size f h = ap (λ (n : ℕ). bodies_in l (method_at l.program.now n)) (sym h.name) ∙ method_body l r f.at h.own h.found ∙ ap (option_map (body_of l.program.now)) h.body

-- the form at the position of a method that runs
pub frame_form : (l : Lookups) → IsRight l → (size : ℕ) (f : Frame) → IsSoundFrame l size f → form_at (bodies_in l) (frame_of (names_in l) f) ≡ option_map (form_of l.program.now) (slice_get f.body.now.insns f.position)
frame_form l r size f h =
    ap (option_and_then (λ (b : NamedBody). slice_get b.forms f.position)) (frame_body l r size f h)
    ∙ slice_get-map (form_of l.program.now) f.body.now.insns f.position
