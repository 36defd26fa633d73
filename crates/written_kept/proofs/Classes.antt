-- A class that is written answers look-ups as the class does.
use Rattle.std.proofs.Common.{◌≡◌, ◌<◌, ℕ, Bool, true, false, List, [], ◌∷◌, length, map, refl, sym, ap, ◌∙◌, subst}
use Rattle.std.specs.Prelude.{◌&&◌, Option, Some, None, find, is_some, slice_get}
use Rattle.std.specs.List.{list_all, AllByRecursion}
use Rattle.std.specs.Option.{option_map}
use Rattle.std.proofs.lemmas.Bool.{and_parts}
use Rattle.std.proofs.lemmas.Option.{slice_get-map, slice_get_within}
use Rattle.lemmas.proofs.Lists.{all_at}
use Rattle.lemmas.proofs.Options.{some_same}
use Rattle.program_model.specs.Distinct.{own_field_key}
use Rattle.program_model.specs.MemberRules.{is_static, class_of_field, is_class_number, field_letter, first_value_fits, field_fits}
use Rattle.program_model.specs.ProgramRules.{is_well_formed}
use Rattle.program_model.specs.ValueRules.{layer_fits, marks_fit}
use Rattle.program_model.specs.declared.program.Field.{Field}
use Rattle.program_model.specs.declared.program.Method.{Method}
use Rattle.program_model.specs.declared.program.Class.{Class}
use Rattle.program_model.specs.declared.program.Program.{Program}
use Rattle.program_model.specs.declared.value.EncValue.{EncValue, EncValue-F, roll-EncValue, out-EncValue, out-roll-EncValue}
use Rattle.program_model.specs.declared.value.EncValue.TheOpen as layer
use Rattle.program_model.specs.declared.value.EncValue.TheFolds.{ind-EncValue}
use Rattle.program_model.specs.declared.value.Element.{Element}
use Rattle.program_model.specs.declared.value.Note.{Note}
use Rattle.class_defs.specs.ClassGraph.{IsTwice}
use Rattle.dex_pools.specs.Interned.{IsInterned}
use Rattle.dex_pools.specs.declared.interner.Interner.{Interner}
use Rattle.dalvik_defs.specs.Names.{Text, text_eq, same_name, signature_eq, proto_text}
use Rattle.dalvik_defs.specs.Naming.{type_at, field_at, method_at, value_of, body_of, named_field, named_method, named_class, named}
use Rattle.dalvik_defs.specs.Under.{class_named}
use Rattle.dalvik_defs.specs.Find.{is_virtual_method}
use Rattle.dalvik_defs.specs.declared.encoded.NamedValue.{NamedValue}
use Rattle.dalvik_defs.specs.declared.names.Signature.{Signature}
use Rattle.dalvik_defs.specs.declared.names.MethodKey.{MethodKey}
use Rattle.dalvik_defs.specs.declared.names.FieldKey.{FieldKey}
use Rattle.dalvik_defs.specs.declared.program.NamedBody.{NamedBody}
use Rattle.dalvik_defs.specs.declared.program.NamedField.{NamedField}
use Rattle.dalvik_defs.specs.declared.program.NamedMethod.{NamedMethod}
use Rattle.dalvik_defs.specs.declared.program.NamedClass.{NamedClass}
use Rattle.dalvik_defs.proofs.Calm.{text_sound}
use Rattle.dex_defs.specs.Written.{new_value, new_body, field_below, method_below, written_field, written_method, written_class, in_order, written_by}
use Rattle.write_laws.specs.Used.{IsShort}
use Rattle.write_laws.specs.Members.{IsPlain, KeepsField, KeepsMethod, KeepsClass}
use Rattle.name_bridge.proofs.Tables.{Sound, sound, same_number, field_is, field_once}
use Rattle.name_bridge.proofs.Classes.{FieldFits, class_parts}
use Rattle.removal_law.specs.Reach.{TellsApart}
use Rattle.removal_law.proofs.Lists.{clash, and_left, and_behind}
use Rattle.removal_law.proofs.Members.{signature_sound}
use Rattle.removal_law.proofs.Walks.{text_same}
use Rattle.bodies_kept.specs.Unique.{IsUnique}
use Rattle.written_file.proofs.In.{In, in_map, in_order_has, in_got, Place, place_in, all_in}
use Rattle.written_file.proofs.Fit.{FitsClass}
use Rattle.written_kept.proofs.Alike.{bare_method, bare_field, of_proto, AlikeClass}
use Rattle.written_kept.proofs.Twins.{stands, Image, image, in_order_only, Twin, find_alike, any_alike, finds, is_there}

-- the value of a field is plain
layer_plain : (p : Program) (letter : ℕ) (x : EncValue-F EncValue Element Note) → layer_fits p letter x ≡ true → IsPlain x
layer_plain p letter (layer.Byte z) h = tt
layer_plain p letter (layer.Short z) h = tt
layer_plain p letter (layer.Char z) h = tt
layer_plain p letter (layer.Int z) h = tt
layer_plain p letter (layer.Long z) h = tt
layer_plain p letter (layer.Float z) h = tt
layer_plain p letter (layer.Double z) h = tt
layer_plain p letter (layer.Str n) h = tt
layer_plain p letter (layer.Class n) h = tt
layer_plain p letter (layer.Field n) h = tt
layer_plain p letter (layer.Method n) h = tt
layer_plain p letter (layer.Enum n) h = tt
layer_plain p letter (layer.Array vs) h = clash false h refl
layer_plain p letter (layer.Annotation n) h = clash false h refl
layer_plain p letter layer.Null h = tt
layer_plain p letter (layer.Bool b) h = tt

-- a class is found by its name
pub class_found : (p : Program) → IsUnique (named p) → (k : ℕ) (c : Class) → slice_get p.classes k ≡ Some c → class_named (named p) (type_at p c.name) ≡ Some (named_class p c)
class_found p unique k c e = by (class_named (named p) (type_at p c.name)) refl
  where
    test : NamedClass → Bool
    test d = text_eq d.name (type_at p c.name)

    mine : slice_get (named p).classes k ≡ Some (named_class p c)
    mine = slice_get-map (named_class p) p.classes k ∙ ap (option_map (named_class p)) e

    by : (o : Option NamedClass) → class_named (named p) (type_at p c.name) ≡ o → class_named (named p) (type_at p c.name) ≡ Some (named_class p c)
    by None d = absurd (finds (λ d. text_eq d.name (type_at p c.name)) (named_class p c) (named p).classes (in_got (named p).classes k (named_class p c) mine) (text_same (type_at p c.name)) d)
    by (Some x) d =
        let y = is_there (λ d. text_eq d.name (type_at p c.name)) (named p).classes x d in
        let at : Place x (named p).classes = place_in x (named p).classes y.is_in in
        let same : at.at ≡ k = unique.classes at.at k x (named_class p c) at.is mine y.passes in
        d ∙ ap Some (some_same x (named_class p c) (sym at.is ∙ ap (slice_get (named p).classes) same ∙ mine))

module _ (p : Program) (formed : is_well_formed p ≡ true) (unique : IsUnique (named p)) (told : TellsApart (named p)) (i : Interner) (k : ℕ) (c : Class) (at : slice_get p.classes k ≡ Some c) (fit : FitsClass p c) (kept : KeepsClass p i (written_by i p) c) where
  abbrev q : Program
  q = written_by i p

  abbrev old : NamedClass
  old = named_class p c

  abbrev new : NamedClass
  new = named_class q (written_class i.numbers p c)

  -- ---- methods

  abbrev made_method : Method → MethodKey → Option NamedBody → NamedMethod
  made_method m n b = record { name = n.name; signature = n.signature; flags = m.flags.0; marks = []; parameter_marks = []; body = b; lines = [] }

  method_bare : (m : Method) → KeepsMethod p i q m → bare_method (named_method q (written_method i.numbers m)) ≡ bare_method (named_method p m)
  method_bare m h = ap (λ n. made_method m n (option_map (body_of q) (option_map (new_body i.numbers) m.body))) h.name ∙ ap (made_method m (method_at p m.name)) h.code

  methods_to : (b : NamedMethod) → In b new.methods → Twin bare_method old.methods b
  methods_to b j =
      let u : Image (named_method q) (map (written_method i.numbers) (in_order (method_below i.numbers p) c.methods)) b = image (named_method q) b (map (written_method i.numbers) (in_order (method_below i.numbers p) c.methods)) j in
      let v : Image (written_method i.numbers) (in_order (method_below i.numbers p) c.methods) u.x = image (written_method i.numbers) u.x (in_order (method_below i.numbers p) c.methods) u.is_in in
      let there : In v.x c.methods = in_order_only (method_below i.numbers p) v.x c.methods v.is_in in
      record {
        x = named_method p v.x;
        is_in = in_map (named_method p) v.x c.methods there;
        same = ap bare_method (sym u.is) ∙ ap (λ w. bare_method (named_method q w)) (sym v.is) ∙ method_bare v.x (all_in (KeepsMethod p i q) v.x c.methods kept.methods there);
      }

  methods_from : (a : NamedMethod) → In a old.methods → Twin bare_method new.methods a
  methods_from a j =
      let u : Image (named_method p) c.methods a = image (named_method p) a c.methods j in
      record {
        x = named_method q (written_method i.numbers u.x);
        is_in = in_map (named_method q) (written_method i.numbers u.x) (map (written_method i.numbers) (in_order (method_below i.numbers p) c.methods))
            (in_map (written_method i.numbers) u.x (in_order (method_below i.numbers p) c.methods) (in_order_has (method_below i.numbers p) u.x c.methods u.is_in));
        same = ap bare_method (sym u.is) ∙ sym (method_bare u.x (all_in (KeepsMethod p i q) u.x c.methods kept.methods u.is_in));
      }

  one_method : (a b : NamedMethod) → In a old.methods → In b old.methods → a.name ≡ b.name → proto_text a.signature ≡ proto_text b.signature → a ≡ b
  one_method a b x y n s = told (type_at p c.name) old a b (class_found p unique k c at) (stands a old.methods x) (stands b old.methods y) n s

  -- ---- fields

  abbrev letter : Field → ℕ
  letter f = field_letter p (slice_get p.fields f.name)

  -- a field with this first value keeps it
  abbrev Kept : Field → EncValue → Type 0
  Kept f v = f.first ≡ Some v → layer_fits p (letter f) (out-EncValue v) ≡ true → option_map (value_of q) (option_map (new_value i.numbers) f.first) ≡ option_map (value_of p) f.first

  value_kept : (f : Field) → KeepsField p i q f → (v : EncValue) → Kept f v
  value_kept f h = ind-EncValue (Kept f) (λ e. Unit {0}) (λ n. Unit {0}) (λ x y is e g. h.first x e (layer_plain p (letter f) x (subst (λ z. layer_fits p (letter f) z ≡ true) (out-roll-EncValue x) g))) (λ x y is. tt) (λ x y is. tt)

  first_kept : (f : Field) → KeepsField p i q f → field_fits p c.name f ≡ true → option_map (value_of q) (option_map (new_value i.numbers) f.first) ≡ option_map (value_of p) f.first
  unfolding field_fits
  first_kept f h fits = by f.first refl
    where
      own : first_value_fits p f.flags f.name f.first ≡ true
      own = (and_parts (first_value_fits p f.flags f.name f.first) (marks_fit p f.marks) (and_parts (is_class_number (class_of_field (slice_get p.fields f.name)) c.name) (first_value_fits p f.flags f.name f.first && marks_fit p f.marks) fits).1).0

      by : (o : Option EncValue) → f.first ≡ o → option_map (value_of q) (option_map (new_value i.numbers) f.first) ≡ option_map (value_of p) f.first
      by None e = subst (λ o. option_map (value_of q) (option_map (new_value i.numbers) o) ≡ option_map (value_of p) o) (sym e) refl
      by (Some v) e =
          let says : first_value_fits p f.flags f.name (Some v) ≡ true = subst (λ o. first_value_fits p f.flags f.name o ≡ true) e own in
          value_kept f h v e (and_parts (is_static f.flags) (layer_fits p (letter f) (out-EncValue v)) says).1

  abbrev made_field : Field → FieldKey → Option NamedValue → NamedField
  made_field f n v = record { name = n.name; kind = n.kind; flags = f.flags.0; first = v; marks = [] }

  field_bare : (f : Field) → In f c.fields → bare_field (named_field q (written_field i.numbers f)) ≡ bare_field (named_field p f)
  field_bare f j =
      let h : KeepsField p i q f = all_in (KeepsField p i q) f c.fields kept.fields j in
      let place : Place f c.fields = place_in f c.fields j in
      ap (λ n. made_field f n (option_map (value_of q) (option_map (new_value i.numbers) f.first))) h.name
      ∙ ap (made_field f (field_at p f.name)) (first_kept f h (all_at (field_fits p c.name) c.fields place.at f fit.fields place.is))

  fields_to : (b : NamedField) → In b new.fields → Twin bare_field old.fields b
  fields_to b j =
      let u : Image (named_field q) (in_order field_below (map (written_field i.numbers) c.fields)) b = image (named_field q) b (in_order field_below (map (written_field i.numbers) c.fields)) j in
      let v : Image (written_field i.numbers) c.fields u.x = image (written_field i.numbers) u.x c.fields (in_order_only field_below u.x (map (written_field i.numbers) c.fields) u.is_in) in
      record {
        x = named_field p v.x;
        is_in = in_map (named_field p) v.x c.fields v.is_in;
        same = ap bare_field (sym u.is) ∙ ap (λ w. bare_field (named_field q w)) (sym v.is) ∙ field_bare v.x v.is_in;
      }

  fields_from : (a : NamedField) → In a old.fields → Twin bare_field new.fields a
  fields_from a j =
      let u : Image (named_field p) c.fields a = image (named_field p) a c.fields j in
      record {
        x = named_field q (written_field i.numbers u.x);
        is_in = in_map (named_field q) (written_field i.numbers u.x) (in_order field_below (map (written_field i.numbers) c.fields))
            (in_order_has field_below (written_field i.numbers u.x) (map (written_field i.numbers) c.fields) (in_map (written_field i.numbers) u.x c.fields u.is_in));
        same = ap bare_field (sym u.is) ∙ sym (field_bare u.x u.is_in);
      }

  abbrev s : Sound p
  s = sound p formed

  -- no two fields of the class have one name and one type
  one_field : (n t : Text) (a b : NamedField) → In a old.fields → In b old.fields → (text_eq a.name n && text_eq a.kind t) ≡ true → (text_eq b.name n && text_eq b.kind t) ≡ true → a ≡ b
  one_field n t a b x y h g =
      let u : Image (named_field p) c.fields a = image (named_field p) a c.fields x in
      let v : Image (named_field p) c.fields b = image (named_field p) b c.fields y in
      let one : Place u.x c.fields = place_in u.x c.fields u.is_in in
      let two : Place v.x c.fields = place_in v.x c.fields v.is_in in
      let f : FieldFits p c.name u.x = (class_parts p s k c at).fields one.at u.x one.is in
      let e : FieldFits p c.name v.x = (class_parts p s k c at).fields two.at v.x two.is in
      let keys : field_at p u.x.name ≡ field_at p v.x.name = key u.x a f u.is h ∙ sym (key v.x b e v.is g) in
      let names : u.x.name ≡ v.x.name = field_once p s u.x.name v.x.name (slice_get_within p.fields u.x.name f.entry f.is) (slice_get_within p.fields v.x.name e.entry e.is) keys in
      let places : one.at ≡ two.at = same_number own_field_key c.fields one.at two.at u.x v.x fit.fields_differ one.is two.is (ap (λ m. m ∷ []) names) in
      sym u.is ∙ ap (named_field p) (some_same u.x v.x (sym one.is ∙ ap (slice_get c.fields) places ∙ two.is)) ∙ v.is
    where
      key : (f : Field) (a : NamedField) → FieldFits p c.name f → named_field p f ≡ a → (text_eq a.name n && text_eq a.kind t) ≡ true → field_at p f.name ≡ record { class = type_at p c.name; name = n; kind = t }
      key f a fits is h =
          ap (λ x. record { class = x; name = (field_at p f.name).name; kind = (field_at p f.name).kind }) (ap (λ z. z.class) (field_is p s f.name fits.entry fits.is) ∙ ap (type_at p) fits.owner)
          ∙ ap (λ x. record { class = type_at p c.name; name = x; kind = (field_at p f.name).kind }) (ap (λ z. z.name) is ∙ text_sound a.name n (and_left (text_eq a.name n) (text_eq a.kind t) h))
          ∙ ap (λ x. record { class = type_at p c.name; name = n; kind = x }) (ap (λ z. z.kind) is ∙ text_sound a.kind t (and_behind (text_eq a.name n) (text_eq a.kind t) h))

  -- ---- the class

  pub class_alike : AlikeClass old new
  class_alike = record {
    name = kept.name;
    flags = refl;
    superclass = kept.superclass;
    interfaces = kept.interfaces;
    method = λ n g. find_alike bare_method old.methods new.methods methods_to methods_from (λ m. same_name m.name m.signature n g) (λ m. refl)
        (λ a b x y d h. one_method a b x y
        (text_sound a.name n (and_left (text_eq a.name n) (signature_eq a.signature g) d) ∙ sym (text_sound b.name n (and_left (text_eq b.name n) (signature_eq b.signature g) h)))
        (ap proto_text (signature_sound a.signature g (and_behind (text_eq a.name n) (signature_eq a.signature g) d) ∙ sym (signature_sound b.signature g (and_behind (text_eq b.name n) (signature_eq b.signature g) h)))));
    declared = λ n x. find_alike bare_method old.methods new.methods methods_to methods_from (of_proto n x) (λ m. refl)
        (λ a b i j d h. one_method a b i j
        (text_sound a.name n (and_left (text_eq a.name n) (text_eq (proto_text a.signature) x) d) ∙ sym (text_sound b.name n (and_left (text_eq b.name n) (text_eq (proto_text b.signature) x) h)))
        (text_sound (proto_text a.signature) x (and_behind (text_eq a.name n) (text_eq (proto_text a.signature) x) d) ∙ sym (text_sound (proto_text b.signature) x (and_behind (text_eq b.name n) (text_eq (proto_text b.signature) x) h))));
    field = λ n t. find_alike bare_field old.fields new.fields fields_to fields_from (λ f. text_eq f.name n && text_eq f.kind t) (λ f. refl) (one_field n t);
    default = any_alike bare_method old.methods new.methods methods_to methods_from (λ m. is_virtual_method m && is_some m.body) (λ m. refl);
  }
