-- What classes define themselves is found by numbers as by names.
use Rattle.std.proofs.Common.{◌≡◌, ℕ, zero, suc, ◌+◌, ◌<◌, inl, inr, Bool, true, false, true≢false, nat_eq, List, [], ◌∷◌, ◌++◌, map, length, replicate, Option, Some, None, refl, sym, ap, ◌∙◌, arith}
use Rattle.std.proofs.lemmas.List.{length_push}
use Rattle.std.proofs.lemmas.Option.{slice_get-map}
use Rattle.std.specs.Prelude.{◌&&◌, cond, position, slice_get, slice_index_or, option_and_then}
use Rattle.std.specs.Option.{option_map}
use Rattle.program_model.specs.declared.pools.Proto.{Proto}
use Rattle.program_model.specs.declared.program.Field.{Field}
use Rattle.program_model.specs.declared.program.Method.{Method}
use Rattle.program_model.specs.declared.program.Class.{Class}
use Rattle.program_model.specs.declared.program.Program.{Program}
use Rattle.program_model.specs.ProgramRules.{is_well_formed}
use Rattle.class_defs.proofs.Positions.{number_test, number_of, same_test, place_entry, place_first}
use Rattle.class_defs.proofs.WellFormed.{and_left, and_right}
use Rattle.name_bridge.proofs.Tables.{Sound, sound, method_is, method_name, method_proto, field_is, field_name, field_kind}
use Rattle.name_bridge.proofs.Lists.{both}
use Rattle.name_bridge.proofs.Classes.{MethodFits, FieldFits, class_parts}
use Rattle.dalvik_defs.specs.Names.{Text, text_eq, is_array, proto_text}
use Rattle.dalvik_defs.specs.Naming.{text_at, type_at, signature_at, method_at}
use Rattle.dalvik_defs.specs.declared.names.Signature.{Signature}
use Rattle.dalvik_lookups.specs.declared.types.Kind.{Kind}
use Rattle.dalvik_lookups.specs.declared.types.Types.{Types}
use Rattle.dalvik_lookups.specs.declared.texts.Texts.{Texts}
use Rattle.dalvik_lookups.specs.declared.lookups.Names.{Names}
use Rattle.dalvik_lookups.specs.declared.declared.Spellings.{Spellings}
use Rattle.dalvik_lookups.specs.declared.declared.Declared.{Declared}
use Rattle.dalvik_lookups.specs.Spelling.{signature_of}
use Rattle.dalvik_lookups.specs.Tables.{kind_in, string_in, place_of, place_named, HasNames}
use Rattle.dalvik_lookups.specs.Views.{names_of, name_at, texts_of, type_text, StandOnce, AreTypes, IsKind, IsType, IsText}
use Rattle.dalvik_lookups.specs.Declaring.{Key, same_key, no_key, is_called, is_typed, methods_in, fields_in, method_place, field_place, method_key, field_key, method_row, field_row, place_in, found_in, spellings_of, AddedSpelling, SpellingsMade, IsDeclared}
use Rattle.dalvik_lookups.proofs.Interned.{text_same, text_sound, entry_in}
use Rattle.dalvik_lookups.proofs.Descriptors.{same_kind}
use Rattle.dalvik_lookups.proofs.Making.{push_get, push_here, before_or_here}
use Rattle.dalvik_lookups.proofs.Placed.{position_named, position_nowhere, class_bare, not_zero}
use Rattle.dalvik_lookups.proofs.Standing.{class_numbered}

-- ---- spellings

spelt : (s : Spellings) (units : Text) → position (text_eq units) (spellings_of s) ≡ position (λ v. text_eq units v.items) s.numbers.keys
spelt s units = position_named (text_eq units) (λ v. text_eq units v.items) (λ v. v.items) s.numbers.keys (λ i x e. refl)

pub spelling_found : (s : Spellings) (units : Text) (n : ℕ) → position (λ v. text_eq units v.items) s.numbers.keys ≡ Some n → slice_get (spellings_of s) n ≡ Some units
spelling_found s units n e =
    let q = place_entry (text_eq units) (spellings_of s) n (spelt s units ∙ e) in
    q.is ∙ ap (λ t. Some t) (sym (text_sound units q.entry q.passes))

pub spelling_nowhere : (s : Spellings) (units : Text) → position (λ v. text_eq units v.items) s.numbers.keys ≡ None → (n : ℕ) → slice_get (spellings_of s) n ≡ Some units → ⊥
spelling_nowhere s units e n f =
    let q = place_first (text_eq units) (spellings_of s) n units f (text_same units) in
    let g : None ≡ Some q.place = sym (spelt s units ∙ e) ∙ q.is in
    cc

pub protos_none : (p : Program) (s : Spellings) (protos : List ℕ) → StandOnce (spellings_of s) → protos ≡ [] → SpellingsMade p s protos 0
protos_none p s protos o e = record { once = o; long = ap length e; at = λ n h. absurd (omega (arith, h)) }

pub protos_more : (p : Program) (mid new : Spellings) (protos more : List ℕ) (done : ℕ) (t : Text) (k : ℕ) → SpellingsMade p mid protos done → AddedSpelling mid new t k → t ≡ proto_text (signature_at p done) → more ≡ protos ++ k ∷ [] → SpellingsMade p new more (done + 1)
protos_more p mid new protos more done t k m a is pushed = record {
  once = a.once;
  long = omega (arith, ap length pushed, length_push protos k, m.long);
  at = λ n h. elim (before_or_here n done h) [
    | inl l ↦ ap (slice_get (spellings_of new)) (ap (λ ks. string_in ks n) pushed ∙ push_get protos k n 18446744073709551615 (omega (arith, l, m.long))) ∙ a.stays.stays (string_in protos n) (proto_text (signature_at p n)) (m.at n l)
    | inr e ↦ ap (slice_get (spellings_of new)) (ap (λ ks. string_in ks n) pushed ∙ ap (string_in (protos ++ k ∷ [])) (e ∙ sym m.long) ∙ push_here protos k 18446744073709551615) ∙ a.there ∙ ap (λ x. Some x) (is ∙ ap (λ x. proto_text (signature_at p x)) (sym e))
  ];
}

pub proto_here : (p : Program) (i : ℕ) (q : Proto) (t : Text) → slice_get p.protos i ≡ Some q → t ≡ proto_text (signature_of p q) → t ≡ proto_text (signature_at p i)
proto_here p i q t e is = is ∙ sym (ap (λ o. proto_text (elim o as (λ o. Signature) [ Some q ↦ record { parameters = map (type_at p) q.parameters; result = type_at p q.result } | None ↦ record { parameters = []; result = [] } ])) e)

-- ---- numbers are equal where texts are

text_number : (ts : List Text) → StandOnce ts → (a b : ℕ) (t u : Text) → slice_get ts a ≡ Some t → slice_get ts b ≡ Some u → nat_eq a b ≡ text_eq t u
text_number ts o a b t u e f = same_test (nat_eq a b) (text_eq t u)
    (λ h. let s : Some t ≡ Some u = sym e ∙ ap (slice_get ts) (number_of a b h) ∙ f in let r : t ≡ u = cc in ap (λ x. text_eq x u) r ∙ text_same u)
    (λ h. number_test a b (o.once a b u (e ∙ ap (λ x. Some x) (text_sound t u h)) f))

text_there : (x : Texts) (n : ℕ) (t : Text) → IsText x n t → slice_get (texts_of x) n ≡ Some t
text_there x n t h = entry_in (texts_of x) n h.below ∙ ap (λ u. Some u) h.text

type_number : (t : Types) → AreTypes t → (a b : Kind) (x y : Text) → IsType t a x → IsType t b y → (nat_eq a.depth b.depth && nat_eq a.base b.base) ≡ text_eq x y
type_number t w a b x y f g = same_test (nat_eq a.depth b.depth && nat_eq a.base b.base) (text_eq x y)
    (λ h. let d : a.depth ≡ b.depth = number_of a.depth b.depth (and_left (nat_eq a.depth b.depth) (nat_eq a.base b.base) h) in
    let e : a.base ≡ b.base = number_of a.base b.base (and_right (nat_eq a.depth b.depth) (nat_eq a.base b.base) h) in
    let s : x ≡ y = sym f.text ∙ ap (λ n. replicate n 91 ++ name_at t a.base) d ∙ ap (λ n. replicate b.depth 91 ++ name_at t n) e ∙ g.text in
    ap (λ z. text_eq z y) s ∙ text_same y)
    (λ h. let s : a ≡ b = same_kind t w a b f.kind g.kind (f.text ∙ text_sound x y h ∙ sym g.text) in
    both (nat_eq a.depth b.depth) (nat_eq a.base b.base) (number_test a.depth b.depth (ap (λ k. k.depth) s)) (number_test a.base b.base (ap (λ k. k.base) s)))

-- ---- the class of a type

class_in_names : (p : Program) → is_well_formed p ≡ true → (names : Names) → HasNames p names → (k : Kind) → IsKind names.types k → cond (nat_eq k.depth 0) (place_of (slice_index_or names.class_of.items k.base 4294967295)) None ≡ place_named p (type_text names.types k)
class_in_names p w names h k i = by_depth k.depth refl
  where
    by_depth : (d : ℕ) → k.depth ≡ d → cond (nat_eq k.depth 0) (place_of (slice_index_or names.class_of.items k.base 4294967295)) None ≡ place_named p (type_text names.types k)
    by_depth zero e =
        ap (λ n. cond (nat_eq n 0) (place_of (slice_index_or names.class_of.items k.base 4294967295)) None) e
        ∙ class_numbered p names w h k.base (name_at names.types k.base) (entry_in (names_of names.types) k.base i.base)
        ∙ ap (place_named p) (sym (ap (λ n. replicate n 91 ++ name_at names.types k.base) e))
    by_depth (suc d) e =
        ap (λ b. cond b (place_of (slice_index_or names.class_of.items k.base 4294967295)) None) (not_zero k.depth d e)
        ∙ sym (position_nowhere (λ c. text_eq (type_at p c.name) (type_text names.types k)) p.classes (λ j c f. differs c (class_bare p w j c f)))
      where
        differs : (c : Class) → is_array (type_at p c.name) ≡ false → text_eq (type_at p c.name) (type_text names.types k) ≡ false
        differs c bare = by_test (text_eq (type_at p c.name) (type_text names.types k)) refl
          where
            by_test : (b : Bool) → text_eq (type_at p c.name) (type_text names.types k) ≡ b → b ≡ false
            by_test false f = refl
            by_test true f = absurd (true≢false (sym (ap is_array (text_sound (type_at p c.name) (type_text names.types k) f) ∙ ap (λ n. is_array (replicate n 91 ++ name_at names.types k.base)) e) ∙ bare))

pub class_named_in : (p : Program) → is_well_formed p ≡ true → (names : Names) → HasNames p names → (k : Kind) (t : Text) (table : List ℕ) (r : Option ℕ) → IsType names.types k t → table ≡ names.class_of.items
    → r ≡ cond (nat_eq k.depth 0) (place_of (slice_index_or table k.base 4294967295)) None → r ≡ place_named p t
class_named_in p w names h k t table r i e is =
    is ∙ ap (λ v. cond (nat_eq k.depth 0) (place_of (slice_index_or v k.base 4294967295)) None) e ∙ class_in_names p w names h k i.kind ∙ ap (place_named p) i.text

-- ---- members

module _ (p : Program) (w : is_well_formed p ≡ true) (names : Names) (h : HasNames p names) where
  s : Sound p
  s = sound p w

  name_number : (i name : ℕ) (n : Text) → i < length p.strings → IsText names.texts name n → nat_eq (string_in names.strings.items i) name ≡ text_eq (text_at p i) n
  name_number i name n lt x = text_number (texts_of names.texts) h.texts.once (string_in names.strings.items i) name (text_at p i) n (text_there names.texts (string_in names.strings.items i) (text_at p i) (h.strings i lt)) (text_there names.texts name n x)

  method_test : (sp : Spellings) (protos : List ℕ) → SpellingsMade p sp protos (length p.protos) → (name spelled : ℕ) (n q : Text) → IsText names.texts name n → slice_get (spellings_of sp) spelled ≡ Some q → (class : ℕ) (m : Method) → MethodFits p class m
      → same_key (method_key p names.strings.items protos m) (name, (0, spelled)) ≡ is_called p n q m
  method_test sp protos made name spelled n q x y class m f =
      ap (λ o. same_key (elim o as (λ o. Key) [ Some e ↦ (string_in names.strings.items e.name, (0, string_in protos e.proto)) | None ↦ no_key ]) (name, (0, spelled))) f.is
      ∙ ap (λ b. b && nat_eq (string_in protos f.entry.proto) spelled) (name_number f.entry.name name n (method_name p s m.name f.entry f.is) x)
      ∙ ap (λ b. text_eq (text_at p f.entry.name) n && b) (text_number (spellings_of sp) made.once (string_in protos f.entry.proto) spelled (proto_text (signature_at p f.entry.proto)) q (made.at f.entry.proto (method_proto p s m.name f.entry f.is)) y)
      ∙ sym (ap (λ k. text_eq k.name n && text_eq (proto_text k.signature) q) (method_is p s m.name f.entry f.is))

  field_test : (name : ℕ) (of : Kind) (n k : Text) → IsText names.texts name n → IsType names.types of k → (class : ℕ) (f : Field) → FieldFits p class f
      → same_key (field_key p names.strings.items names.kinds.items f) (name, (of.depth, of.base)) ≡ is_typed p n k f
  field_test name of n k x y class f g =
      ap (λ o. same_key (elim o as (λ o. Key) [ Some e ↦ (string_in names.strings.items e.name, ((kind_in names.kinds.items e.kind).depth, (kind_in names.kinds.items e.kind).base)) | None ↦ no_key ]) (name, (of.depth, of.base))) g.is
      ∙ ap (λ b. b && (nat_eq (kind_in names.kinds.items g.entry.kind).depth of.depth && nat_eq (kind_in names.kinds.items g.entry.kind).base of.base)) (name_number g.entry.name name n (field_name p s f.name g.entry g.is) x)
      ∙ ap (λ b. text_eq (text_at p g.entry.name) n && b) (type_number names.types h.types (kind_in names.kinds.items g.entry.kind) of (type_at p g.entry.kind) k (h.kinds g.entry.kind (field_kind p s f.name g.entry g.is)) y)
      ∙ sym (ap (λ e. text_eq e.name n && text_eq e.kind k) (field_is p s f.name g.entry g.is))

  pub method_found : (d : Declared) → IsDeclared p names.strings.items names.kinds.items d → (class name spelled : ℕ) (n q : Text) → IsText names.texts name n → slice_get (spellings_of d.spellings) spelled ≡ Some q
      → found_in d.methods class (name, (0, spelled)) ≡ method_place p class n q
  method_found d k class name spelled n q x y =
      k.methods.is class (name, (0, spelled)) ∙ ap (option_and_then (λ row. place_in row (name, (0, spelled)))) (slice_get-map (method_row p names.strings.items k.protos) p.classes class) ∙ by_class (slice_get p.classes class) refl
    where
      by_class : (o : Option Class) → slice_get p.classes class ≡ o → option_and_then (λ row. place_in row (name, (0, spelled))) (option_map (method_row p names.strings.items k.protos) o) ≡ position (is_called p n q) (methods_in o)
      by_class None e = refl
      by_class (Some c) e = position_named (λ z. same_key z (name, (0, spelled))) (is_called p n q) (method_key p names.strings.items k.protos) c.methods
          (λ j m g. method_test d.spellings k.protos k.spelled name spelled n q x y c.name m ((class_parts p s class c e).methods j m g))

  pub method_nowhere : (d : Declared) → IsDeclared p names.strings.items names.kinds.items d → (class : ℕ) (n q : Text) → ((m : ℕ) → slice_get (spellings_of d.spellings) m ≡ Some q → ⊥) → None ≡ method_place p class n q
  method_nowhere d k class n q none = sym (by_class (slice_get p.classes class) refl)
    where
      not_called : (c : ℕ) (m : Method) → MethodFits p c m → is_called p n q m ≡ false
      not_called c m f = ap (λ b. text_eq (method_at p m.name).name n && b) (by_test (text_eq (proto_text (method_at p m.name).signature) q) refl) ∙ never (text_eq (method_at p m.name).name n)
        where
          never : (a : Bool) → (a && false) ≡ false
          never true = refl
          never false = refl

          by_test : (b : Bool) → text_eq (proto_text (method_at p m.name).signature) q ≡ b → text_eq (proto_text (method_at p m.name).signature) q ≡ false
          by_test false e = e
          by_test true e = absurd (none (string_in k.protos f.entry.proto) (
              k.spelled.at f.entry.proto (method_proto p s m.name f.entry f.is)
              ∙ ap (λ t. Some t) (ap (λ z. proto_text z.signature) (sym (method_is p s m.name f.entry f.is)) ∙ text_sound (proto_text (method_at p m.name).signature) q e)))

      by_class : (o : Option Class) → slice_get p.classes class ≡ o → position (is_called p n q) (methods_in o) ≡ None
      by_class None e = refl
      by_class (Some c) e = position_nowhere (is_called p n q) c.methods (λ j m g. not_called c.name m ((class_parts p s class c e).methods j m g))

  pub field_found : (d : Declared) → IsDeclared p names.strings.items names.kinds.items d → (class name : ℕ) (of : Kind) (n k : Text) → IsText names.texts name n → IsType names.types of k
      → found_in d.fields class (name, (of.depth, of.base)) ≡ field_place p class n k
  field_found d i class name of n k x y =
      i.fields.is class (name, (of.depth, of.base)) ∙ ap (option_and_then (λ row. place_in row (name, (of.depth, of.base)))) (slice_get-map (field_row p names.strings.items names.kinds.items) p.classes class) ∙ by_class (slice_get p.classes class) refl
    where
      by_class : (o : Option Class) → slice_get p.classes class ≡ o → option_and_then (λ row. place_in row (name, (of.depth, of.base))) (option_map (field_row p names.strings.items names.kinds.items) o) ≡ position (is_typed p n k) (fields_in o)
      by_class None e = refl
      by_class (Some c) e = position_named (λ z. same_key z (name, (of.depth, of.base))) (is_typed p n k) (field_key p names.strings.items names.kinds.items) c.fields
          (λ j f g. field_test name of n k x y c.name f ((class_parts p s class c e).fields j f g))
