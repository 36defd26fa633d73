-- Entries of the tables that are read fit.
use Rattle.std.proofs.Common.{◌≡◌, ℕ, zero, suc, ◌+◌, ◌*◌, ◌<◌, List, [], ◌∷◌, length, map, get_or, slice_get, Bool, true, false, Result, refl, sym, ap, ◌∙◌, nat_eq, true≢false, if◌then◌else◌, arith}
use Rattle.std.specs.Prelude.{◌&&◌, not, nat_lt, slice_index, is_ok}
use Rattle.std.specs.List.{list_all, zip}
use Rattle.std.proofs.lemmas.Bool.{eqb-true, eq-eqb, lt-ltb}
use Rattle.lemmas.proofs.Bools.{and_both, and_parts}
use Rattle.dex_base.specs.declared.descriptor.Descriptor.{Descriptor}
use Rattle.dex_base.specs.declared.fault.BaseFault.{BaseFault}
use Rattle.dex_base.specs.Descriptor.{descriptor_of}
use Rattle.dex_base.proofs.DescriptorReading.{is_descriptor}
use Rattle.program_model.specs.Texts.{has_string, has_type, has_proto, string_text, first_unit, text_or_none, type_text, letter_of, is_void}
use Rattle.program_model.specs.TableRules.{type_fits, stands_for, stands_for_parameter, is_shorty, proto_fits, field_id_fits, method_id_fits}
use Rattle.program_model.specs.declared.pools.Proto.{Proto}
use Rattle.program_model.specs.declared.pools.FieldName.{FieldName}
use Rattle.program_model.specs.declared.pools.MethodName.{MethodName}
use Rattle.program_model.specs.declared.program.Program.{Program}
use Rattle.dex_pools.specs.declared.header.Extents.{Extents}
use Rattle.dex_pools.specs.Tables.{text_of, letters_of, spells_one, spells_all, spells_shorty}
use Rattle.dex_pools.specs.Tables as pool
use Rattle.dex_pools.specs.Spelled.{IsHalfIndex, IsType, AreParameters, IsProto, IsField, IsMethod}
use Rattle.read_laws.proofs.Booleans.{denied, each_passes}

-- ---- letters

-- how a shorty spells a type with this first letter
abbrev spelled : ℕ → ℕ
spelled letter = if nat_eq letter 91 then 76 else letter

spelled_text : (text : List ℕ) → pool.letter_of text ≡ spelled (first_unit text)
spelled_text [] = refl
spelled_text (unit ∷ units) = refl

spelled_in : (p : Program) (types : List ℕ) (kind : ℕ) → get_or (map (λ i. pool.letter_of (text_of p.strings i)) types) kind 0 ≡ spelled (first_unit (text_or_none p (slice_get types kind)))
spelled_in p [] kind = refl
spelled_in p (t ∷ types) zero = spelled_text (string_text p t)
spelled_in p (t ∷ types) (suc kind) = spelled_in p types kind

spelled_is : (p : Program) (kind : ℕ) → slice_index (letters_of p.strings p.types) kind ≡ spelled (letter_of p kind)
unfolding letter_of type_text
spelled_is p kind = spelled_in p p.types kind

-- ---- shorties

stands_by : (array : Bool) (unit letter : ℕ) → nat_eq unit (if array then 76 else letter) ≡ true → (if array then nat_eq unit 76 else nat_eq unit letter) ≡ true
stands_by true unit letter h = h
stands_by false unit letter h = h

stands : (unit letter : ℕ) → nat_eq unit (spelled letter) ≡ true → stands_for unit letter ≡ true
stands unit letter h = stands_by (nat_eq letter 91) unit letter h

unless : (b : Bool) → (if b then false else true) ≡ true → b ≡ false
unless true h = absurd (true≢false (sym h))
unless false h = refl

parameter_stands : (p : Program) (unit kind : ℕ) → spells_one (letters_of p.strings p.types) unit kind ≡ true → stands_for_parameter p (unit, kind) ≡ true
parameter_stands p unit kind h =
    let letter = letter_of p kind in
    let q = and_parts (nat_eq unit (slice_index (letters_of p.strings p.types) kind)) (if nat_eq unit 86 then false else true) h in
    let is : unit ≡ spelled letter = eqb-true unit (slice_index (letters_of p.strings p.types) kind) q.0 ∙ spelled_is p kind in
    and_both (stands_for unit letter) (not (is_void letter)) (stands unit letter (eq-eqb unit (spelled letter) is))
    (denied (is_void letter) (λ v. true≢false (sym (eq-eqb unit 86 (is ∙ ap spelled (eqb-true letter 86 v))) ∙ unless (nat_eq unit 86) q.1)))

all_stand : (p : Program) (units kinds : List ℕ) → spells_all (letters_of p.strings p.types) units kinds ≡ true → (nat_eq (length units) (length kinds) && list_all (stands_for_parameter p) (zip units kinds)) ≡ true
all_stand p [] [] h = refl
all_stand p (unit ∷ units) (kind ∷ kinds) h =
    let q = and_parts (spells_one (letters_of p.strings p.types) unit kind) (spells_all (letters_of p.strings p.types) units kinds) h in
    let r = and_parts (nat_eq (length units) (length kinds)) (list_all (stands_for_parameter p) (zip units kinds)) (all_stand p units kinds q.1) in
    and_both (nat_eq (suc (length units)) (suc (length kinds))) (stands_for_parameter p (unit, kind) && list_all (stands_for_parameter p) (zip units kinds))
    (eq-eqb (suc (length units)) (suc (length kinds)) (ap suc (eqb-true (length units) (length kinds) r.0)))
    (and_both (stands_for_parameter p (unit, kind)) (list_all (stands_for_parameter p) (zip units kinds)) (parameter_stands p unit kind q.0) r.1)
all_stand p [] (kind ∷ kinds) h = absurd (true≢false (sym h))
all_stand p (unit ∷ units) [] h = absurd (true≢false (sym h))

shorty_is : (p : Program) (units : List ℕ) (outcome : ℕ) (parameters : List ℕ) → spells_shorty (letters_of p.strings p.types) units outcome parameters ≡ true → is_shorty p units outcome parameters ≡ true
shorty_is p [] outcome parameters h = h
shorty_is p (unit ∷ units) outcome parameters h =
    let letters = letters_of p.strings p.types in
    let q = and_parts (nat_eq unit (slice_index letters outcome)) (spells_all letters units parameters) h in
    and_both (stands_for unit (letter_of p outcome)) (nat_eq (length units) (length parameters) && list_all (stands_for_parameter p) (zip units parameters))
    (stands unit (letter_of p outcome) (eq-eqb unit (spelled (letter_of p outcome)) (eqb-true unit (slice_index letters outcome) q.0 ∙ spelled_is p outcome)))
    (all_stand p units parameters q.1)

-- ---- entries

inside : (n size count : ℕ) → count ≡ size → n < size → nat_lt n count ≡ true
inside n size count e lt = lt-ltb n count (omega (arith, e, lt))

-- the tables have as many entries as they are said to have
pub record Sized (t : Extents) (p : Program) : Type 0 where
  pub strings : length p.strings ≡ t.strings.size
  pub types : length p.types ≡ t.types.size
  pub protos : length p.protos ≡ t.protos.size

module _ (bytes : List ℕ) (t : Extents) (p : Program) (sized : Sized t p) where
  pub type_of : (i n : ℕ) → IsType bytes t p.strings i n → type_fits p n ≡ true
  type_of i n y =
      let text = string_text p n in
      and_both (has_string p n) (is_ok (descriptor_of text)) (inside n t.strings.size (length p.strings) sized.strings y.string.below)
      (ap (λ (r : Result Descriptor BaseFault). is_ok r) ((is_descriptor text).again y.kind y.describes))

  parameters_of : (offset : ℕ) (parameters : List ℕ) → AreParameters bytes t.types.size offset parameters → list_all (has_type p) parameters ≡ true
  parameters_of zero parameters h = ap (λ (xs : List ℕ). list_all (has_type p) xs) h
  parameters_of (suc k) parameters h =
      each_passes (λ i n. IsHalfIndex bytes (suc k + 4 + 2 * i) t.types.size n) (has_type p) (λ i n y. inside n t.types.size (length p.types) sized.types y.below) 0 parameters h.entries.1

  pub proto_of : (i : ℕ) (proto : Proto) → IsProto bytes t p.strings (letters_of p.strings p.types) i proto → proto_fits p proto ≡ true
  proto_of i proto y =
      let shorty = is_shorty p (string_text p proto.shorty) proto.result proto.parameters in
      and_both (has_string p proto.shorty && has_type p proto.result) (list_all (has_type p) proto.parameters && shorty)
      (and_both (has_string p proto.shorty) (has_type p proto.result) (inside proto.shorty t.strings.size (length p.strings) sized.strings y.shorty.below) (inside proto.result t.types.size (length p.types) sized.types y.outcome.below))
      (and_both (list_all (has_type p) proto.parameters) shorty (parameters_of y.offset proto.parameters y.parameters) (shorty_is p (string_text p proto.shorty) proto.result proto.parameters y.spelled))

  pub field_of : (i : ℕ) (field : FieldName) → IsField bytes t (letters_of p.strings p.types) i field → field_id_fits p field ≡ true
  field_of i field y =
      let letter = letter_of p field.kind in
      and_both (has_type p field.class && has_type p field.kind) (has_string p field.name && not (is_void letter))
      (and_both (has_type p field.class) (has_type p field.kind) (inside field.class t.types.size (length p.types) sized.types y.class.below) (inside field.kind t.types.size (length p.types) sized.types y.kind.below))
      (and_both (has_string p field.name) (not (is_void letter)) (inside field.name t.strings.size (length p.strings) sized.strings y.name.below)
      (denied (is_void letter) (λ v. y.some (spelled_is p field.kind ∙ ap spelled (eqb-true letter 86 v)))))

  pub method_of : (i : ℕ) (method : MethodName) → IsMethod bytes t i method → method_id_fits p method ≡ true
  method_of i method y =
      and_both (has_type p method.class) (has_proto p method.proto && has_string p method.name) (inside method.class t.types.size (length p.types) sized.types y.class.below)
      (and_both (has_proto p method.proto) (has_string p method.name) (inside method.proto t.protos.size (length p.protos) sized.protos y.proto.below) (inside method.name t.strings.size (length p.strings) sized.strings y.name.below))
