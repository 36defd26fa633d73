-- The header and the tables of a file that is read have no fault.
use Rattle.std.proofs.Common.{◌≡◌, ◌<◌, ℕ, zero, suc, ◌+◌, ◌*◌, Bool, true, false, cond, List, [], ◌∷◌, map, length, drop, Some, refl, sym, ap, subst, ◌∙◌, arith, true≢false}
use Rattle.std.specs.Prelude.{◌==◌, slice_get, slice_index}
use Rattle.std.proofs.lemmas.Bool.{eqb-true}
use Rattle.std.proofs.lemmas.Option.{get_or_from_slice_get}
use Rattle.lemmas.proofs.Bools.{and_parts}
use Rattle.lemmas.proofs.Lists.{get_there, got_map}
use Rattle.lemmas.proofs.Options.{some_same}
use Rattle.dex_base.specs.Adler.{adler_of}
use Rattle.dex_base.specs.Decides.{Entries}
use Rattle.dex_base.specs.Grammar.{BadDescriptorIn}
use Rattle.dex_base.specs.Mutf8.{IsTextAt}
use Rattle.dex_base.specs.Word.{Is16, Is32}
use Rattle.dex_base.specs.declared.fault.BaseFault.TheVariants as base
use Rattle.dex_base.proofs.DescriptorReading.{is_descriptor}
use Rattle.program_model.specs.Texts.{first_unit, string_text, text_or_none, type_text}
use Rattle.program_model.specs.Texts as texts
use Rattle.program_model.specs.declared.pools.Proto.{Proto}
use Rattle.program_model.specs.declared.program.Program.{Program}
use Rattle.program_model.specs.declared.program.Version.{Version}
use Rattle.dex_pools.specs.declared.header.Extent.{Extent}
use Rattle.dex_pools.specs.declared.header.Extents.{Extents}
use Rattle.dex_pools.specs.Finds.{Ascends}
use Rattle.dex_pools.specs.Spelled.{IsExtent, AreExtents, IsString, IsType, IsHalfIndex, IsTypeList, AreParameters, IsProto, IsField, IsMethod}
use Rattle.dex_pools.specs.Tables.{text_of, letter_of, letters_of, spells_all, spells_shorty}
use Rattle.dex_defs.specs.Header.{IsHeader}
use Rattle.dex_defs.specs.Parts.{Fault}
use Rattle.dex_defs.specs.Places.{IsEntryAt, Leads}
use Rattle.dex_defs.specs.Placed.{HasSize}
use Rattle.dex_defs.specs.Faults.{IsFixed, FileSize, HeaderSize, EndianTag, LinkSize, InHeader, BadMagic, BadField, BadSum, HasText, HasTypeText, shorty_letter, HasLetter, HaveTexts, InPools, Descriptor, VoidField, OtherShorty, VoidParameter}
use Rattle.dex_defs.specs.Spells.{Spells}
use Rattle.refused_law.proofs.Failing.{each_at}
use Rattle.refused_law.proofs.Ids.{same_letter}
use Rattle.spelled_law.proofs.Once.{two, once_16, once_32, each_once, uleb_parts}
use Rattle.clean_files.proofs.Parts.{once_text}

-- ---- the header

-- what stands at a place that is fixed
wants : (bytes : List ℕ) (version : Version) → IsHeader bytes version → (at want : ℕ) → IsFixed bytes at want → Is32 bytes at want
wants bytes version h at want (FileSize e g) = subst (λ n. Is32 bytes n want) (sym e) (subst (Is32 bytes 32) (sym g) h.file_size)
wants bytes version h at want (HeaderSize e g) = subst (λ n. Is32 bytes n want) (sym e) (subst (Is32 bytes 36) (sym g) h.header_size)
wants bytes version h at want (EndianTag e g) = subst (λ n. Is32 bytes n want) (sym e) (subst (Is32 bytes 40) (sym g) h.endian_tag)
wants bytes version h at want (LinkSize e g) = subst (λ n. Is32 bytes n want) (sym e) (subst (Is32 bytes 44) (sym g) h.link_size)

pub no_header : (bytes : List ℕ) (version : Version) → IsHeader bytes version → (f : Fault) → InHeader bytes f → ⊥
no_header bytes version h f (BadMagic whole none is) = none version h.magic
no_header bytes version h f (BadField at want n whole fixed has other is) = other (once_32 bytes at n want has (wants bytes version h at want fixed))
no_header bytes version h f (BadSum stored has other is) = other (once_32 bytes 8 stored (adler_of (drop 12 bytes)) has h.checksum)

-- ---- entries of tables

pub entry_is : (bytes : List ℕ) (header width i at : ℕ) (x : Extent) → IsExtent bytes header width x → IsEntryAt bytes header width i at → (i < x.size) × (at ≡ x.offset + width * i)
entry_is bytes header width i at x h e =
    let size = once_32 bytes header e.table.size x.size e.is.size h.size in
    let offset = once_32 bytes (header + 4) e.table.offset x.offset e.is.offset h.offset in
    (omega (arith, e.inside, size), e.place ∙ ap (λ n. n + width * i) offset)

-- an entry of a list of so many that stands at this place
pub record Listed {X : Type 0} (xs : List X) (Is : ℕ → X → Type 0) (i : ℕ) : Type 0 where
  pub x : X
  pub there : slice_get xs i ≡ Some x
  pub is : Is i x

pub listed : {X : Type 0} (count : ℕ) (Is : ℕ → X → Type 0) (xs : List X) (i : ℕ) → Entries count Is xs → i < count → Listed xs Is i
listed count Is xs i h less = let x = get_there xs i (omega (arith, less, h.0)) in record { x = x.0; there = x.1; is = each_at Is xs i x.0 h.1 x.1 }

pub ascends_pair : {X : Type 0} (below : X → X → Bool) (xs : List X) (k : ℕ) (x y : X) → Ascends below xs → slice_get xs k ≡ Some x → slice_get xs (suc k) ≡ Some y → below x y ≡ true
ascends_pair below [] k x y h e g = absurd cc
ascends_pair below (a ∷ []) zero x y h e g = absurd cc
ascends_pair below (a ∷ []) (suc k) x y h e g = absurd cc
ascends_pair below (a ∷ b ∷ xs) zero x y h e g = subst (λ z. below z y ≡ true) (some_same a x e) (subst (λ z. below a z ≡ true) (some_same b y g) h.0)
ascends_pair below (a ∷ b ∷ xs) (suc k) x y h e g = ascends_pair below (b ∷ xs) k x y h.1 e g

-- a list of types that an offset leads to
pub led : (bytes : List ℕ) (size offset at : ℕ) (types : List ℕ) → Leads offset at → AreParameters bytes size offset types → IsTypeList bytes at size types
led bytes size zero at types h a = absurd (omega (arith, h.0))
led bytes size (suc k) at types h a = subst (λ n. IsTypeList bytes n size types) (sym h.1) a

pub types_once : (bytes : List ℕ) (m n offset offset' : ℕ) (xs ys : List ℕ) → m ≡ n → offset ≡ offset' → AreParameters bytes m offset xs → AreParameters bytes n offset' ys → xs ≡ ys
types_once bytes m n zero zero xs ys e g a b = a ∙ sym b
types_once bytes m n zero (suc k) xs ys e g a b = absurd cc
types_once bytes m n (suc k) zero xs ys e g a b = absurd cc
types_once bytes m n (suc k) (suc j) xs ys e g a b =
    let c = subst (λ i. IsTypeList bytes i m ys) (sym g) (subst (λ i. IsTypeList bytes (suc j) i ys) (sym e) b) in
    each_once (λ i x. IsHalfIndex bytes (suc k + 4 + 2 * i) m x) (λ i x y h q. once_16 bytes (suc k + 4 + 2 * i) x y h.is q.is) 0 xs ys (once_32 bytes (suc k) (length xs) (length ys) a.count c.count) a.entries.1 c.entries.1

-- ---- letters

void_letter : (text : List ℕ) → first_unit text ≡ 86 → letter_of text ≡ 86
void_letter [] h = absurd cc
void_letter (u ∷ us) h = subst (λ n. letter_of (n ∷ us) ≡ 86) (sym h) refl

-- ---- the tables of the program that is read

module _ (bytes : List ℕ) (p : Program) (s : Spells bytes p) where
  abbrev pub t : Extents
  t = s.pools.tables

  abbrev pub stand : AreExtents bytes s.pools.tables
  stand = s.pools.stand

  -- ---- strings

  pub string_listed : (i entry : ℕ) → IsEntryAt bytes 56 4 i entry → Listed p.strings (IsString bytes t.strings) i
  string_listed i entry e = listed t.strings.size (IsString bytes t.strings) p.strings i s.pools.strings (entry_is bytes 56 4 i entry t.strings stand.strings e).0

  pub record TextRead (string : ℕ) (text : List ℕ) : Type 0 where
    pub there : slice_get p.strings string ≡ Some text
    pub text_is : text_of p.strings string ≡ text

  pub text_read : (string begin : ℕ) (text : List ℕ) → HasText bytes string text begin → TextRead string text
  text_read string begin text h =
      let l = string_listed string h.entry h.stands in
      let at = (entry_is bytes 56 4 string h.entry t.strings stand.strings h.stands).1 in
      let offset = once_32 bytes (t.strings.offset + 4 * string) l.is.begins.at h.offset l.is.begins.offset (subst (λ n. Is32 bytes n h.offset) at h.is_offset) in
      let counted = uleb_parts bytes l.is.begins.at h.offset l.is.begin.0 h.units l.is.begin.1 begin offset l.is.begins.units h.counted in
      let same = once_text bytes begin h.units (l.x, l.is.stop) (text, h.stop) (subst (λ n. IsTextAt bytes n h.units (l.x, l.is.stop)) counted.1 (subst (λ n. IsTextAt bytes l.is.begin.1 n (l.x, l.is.stop)) counted.0 l.is.is_text)) h.is_text in
      let is : l.x ≡ text = ap (λ (r : List ℕ × ℕ). r.0) same in
      let there = subst (λ x. slice_get p.strings string ≡ Some x) is l.there in
      record { there = there; text_is = get_or_from_slice_get p.strings string text [] there }

  -- ---- types

  pub type_listed : (i entry : ℕ) → IsEntryAt bytes 64 4 i entry → Listed p.types (IsType bytes t p.strings) i
  type_listed i entry e = listed t.types.size (IsType bytes t p.strings) p.types i s.pools.types (entry_is bytes 64 4 i entry t.types stand.types e).0

  pub record TypeRead (kind : ℕ) (text : List ℕ) : Type 0 where
    pub string : ℕ
    pub there : slice_get p.types kind ≡ Some string
    pub is : IsType bytes t p.strings kind string
    pub text_there : slice_get p.strings string ≡ Some text
    pub text_is : text_of p.strings string ≡ text

  pub type_read : (kind begin : ℕ) (text : List ℕ) → HasTypeText bytes kind text begin → TypeRead kind text
  type_read kind begin text h =
      let l = type_listed kind h.entry h.stands in
      let at = (entry_is bytes 64 4 kind h.entry t.types stand.types h.stands).1 in
      let string : l.x ≡ h.string = once_32 bytes (t.types.offset + 4 * kind) l.x h.string l.is.string.is (subst (λ n. Is32 bytes n h.string) at h.is_string) in
      let r = text_read h.string begin text h.has in
      record {
        string = h.string;
        there = subst (λ n. slice_get p.types kind ≡ Some n) string l.there;
        is = subst (IsType bytes t p.strings kind) string l.is;
        text_there = r.there;
        text_is = r.text_is;
      }

  abbrev pub letters : List ℕ
  letters = letters_of p.strings p.types

  letter_is : (kind : ℕ) (text : List ℕ) → TypeRead kind text → slice_index letters kind ≡ letter_of text
  letter_is kind text r = get_or_from_slice_get letters kind (letter_of (text_of p.strings r.string)) 0 (got_map (λ i. letter_of (text_of p.strings i)) p.types kind r.string r.there) ∙ ap letter_of r.text_is

  pub descriptor_read : (kind : ℕ) (text : List ℕ) → TypeRead kind text → type_text p kind ≡ text
  unfolding type_text
  descriptor_read kind text r = ap (text_or_none p) r.there ∙ r.text_is

  pub first_letter : (kind letter : ℕ) → HasLetter bytes kind letter → texts.letter_of p kind ≡ letter
  unfolding texts.letter_of
  first_letter kind letter h = ap first_unit (descriptor_read kind h.text (type_read kind h.begin h.text h.has)) ∙ sym h.is

  -- ---- protos

  pub proto_listed : (i entry : ℕ) → IsEntryAt bytes 72 12 i entry → Listed p.protos (IsProto bytes t p.strings letters) i
  proto_listed i entry e = listed t.protos.size (IsProto bytes t p.strings letters) p.protos i s.pools.protos (entry_is bytes 72 12 i entry t.protos stand.protos e).0

  -- the result and the parameters that are read of a proto
  pub record KindsRead (i result : ℕ) (kinds : List ℕ) : Type 0 where
    pub proto : Proto
    pub there : slice_get p.protos i ≡ Some proto
    pub is : IsProto bytes t p.strings letters i proto
    pub result_is : proto.result ≡ result
    pub kinds_are : proto.parameters ≡ kinds

  pub kinds_read : (i entry result offset size : ℕ) (kinds : List ℕ) → IsEntryAt bytes 72 12 i entry → Is32 bytes (entry + 4) result → Is32 bytes (entry + 8) offset → HasSize bytes 64 size → AreParameters bytes size offset kinds → KindsRead i result kinds
  kinds_read i entry result offset size kinds e is_result is_offset is_size are =
      let l = proto_listed i entry e in
      let at = (entry_is bytes 72 12 i entry t.protos stand.protos e).1 in
      let here = t.protos.offset + 12 * i in
      record {
        proto = l.x;
        there = l.there;
        is = l.is;
        result_is = once_32 bytes (here + 4) l.x.result result l.is.outcome.is (subst (λ n. Is32 bytes (n + 4) result) at is_result);
        kinds_are = types_once bytes t.types.size size l.is.offset offset l.x.parameters kinds (once_32 bytes 64 t.types.size size stand.types.size is_size)
            (once_32 bytes (here + 8) l.is.offset offset l.is.is_offset (subst (λ n. Is32 bytes (n + 8) offset) at is_offset)) l.is.parameters are;
      }

  -- the units behind the first of a shorty
  spelled_rest : (us kinds : List ℕ) (parameters : List (List ℕ)) → spells_all letters us kinds ≡ true → HaveTexts bytes kinds parameters → us ≡ map shorty_letter parameters
  spelled_rest [] [] [] h have = refl
  spelled_rest [] [] (x ∷ xs) h have = absurd have
  spelled_rest [] (k ∷ ks) parameters h have = absurd cc
  spelled_rest (u ∷ us) [] parameters h have = absurd cc
  spelled_rest (u ∷ us) (k ∷ ks) [] h have = absurd have
  spelled_rest (u ∷ us) (k ∷ ks) (x ∷ xs) h have =
      let a = and_parts _ _ h in let b = and_parts _ _ a.0 in
      two (λ y ys. y ∷ ys) (eqb-true u (slice_index letters k) b.0 ∙ letter_is k x (type_read k have.0.0 x have.0.1) ∙ same_letter x) (spelled_rest us ks xs a.1 have.1)

  no_void : (us kinds : List ℕ) (parameters : List (List ℕ)) (k : ℕ) (text : List ℕ) → spells_all letters us kinds ≡ true → HaveTexts bytes kinds parameters → slice_get parameters k ≡ Some text → first_unit text ≡ 86 → ⊥
  no_void us [] [] k text h have there void = absurd cc
  no_void us [] (x ∷ xs) k text h have there void = absurd have
  no_void us (j ∷ js) [] k text h have there void = absurd have
  no_void [] (j ∷ js) (x ∷ xs) k text h have there void = absurd cc
  no_void (u ∷ us) (j ∷ js) (x ∷ xs) (suc k) text h have there void = no_void us js xs k text (and_parts _ _ h).1 have.1 there void
  no_void (u ∷ us) (j ∷ js) (x ∷ xs) zero text h have there void =
      let b = and_parts _ _ (and_parts _ _ h).0 in
      let same : x ≡ text = some_same x text there in
      let u_is : u ≡ 86 = eqb-true u (slice_index letters j) b.0 ∙ letter_is j x (type_read j have.0.0 x have.0.1) ∙ void_letter x (ap first_unit same ∙ void) in
      true≢false (sym b.1 ∙ ap (λ n. cond (n == 86) false true) u_is)

  -- a shorty is its own
  shorty_spelled : (us : List ℕ) (kind : ℕ) (kinds result : List ℕ) (parameters : List (List ℕ)) → spells_shorty letters us kind kinds ≡ true → TypeRead kind result → HaveTexts bytes kinds parameters → us ≡ shorty_letter result ∷ map shorty_letter parameters
  shorty_spelled [] kind kinds result parameters h r have = absurd cc
  shorty_spelled (u ∷ us) kind kinds result parameters h r have =
      let a = and_parts _ _ h in
      two (λ y ys. y ∷ ys) (eqb-true u (slice_index letters kind) a.0 ∙ letter_is kind result r ∙ same_letter result) (spelled_rest us kinds parameters a.1 have)

  rest_void : (us : List ℕ) (kind : ℕ) (kinds : List ℕ) (parameters : List (List ℕ)) (k : ℕ) (text : List ℕ) → spells_shorty letters us kind kinds ≡ true → HaveTexts bytes kinds parameters → slice_get parameters k ≡ Some text → first_unit text ≡ 86 → ⊥
  rest_void [] kind kinds parameters k text h have there void = absurd cc
  rest_void (u ∷ us) kind kinds parameters k text h have there void = no_void us kinds parameters k text (and_parts _ _ h).1 have there void

  -- ---- fields and methods

  pub field_listed : (i entry : ℕ) → IsEntryAt bytes 80 8 i entry → Listed p.fields (IsField bytes t letters) i
  field_listed i entry e = listed t.fields.size (IsField bytes t letters) p.fields i s.pools.fields (entry_is bytes 80 8 i entry t.fields stand.fields e).0

  pub method_listed : (i entry : ℕ) → IsEntryAt bytes 88 8 i entry → Listed p.methods (IsMethod bytes t) i
  method_listed i entry e = listed t.methods.size (IsMethod bytes t) p.methods i s.pools.methods (entry_is bytes 88 8 i entry t.methods stand.methods e).0

  -- ---- what is wrong with them

  pub no_pools : (f : Fault) → InPools bytes f → ⊥
  no_pools f (Descriptor kind begin unit text h bad is) =
      let r = type_read kind begin text h in
      let describes = subst (λ x. BadDescriptorIn x (base.BadDescriptor unit)) (sym r.text_is) bad in
      let d = is_descriptor (text_of p.strings r.string) in
      d.clean r.is.kind (base.BadDescriptor unit) (d.again r.is.kind r.is.describes) describes
  no_pools f (VoidField i entry kind e is_kind letter is) =
      let l = field_listed i entry e in
      let at = (entry_is bytes 80 8 i entry t.fields stand.fields e).1 in
      let same : kind ≡ l.x.kind = once_16 bytes (t.fields.offset + 8 * i + 2) kind l.x.kind (subst (λ n. Is16 bytes (n + 2) kind) at is_kind) l.is.kind.is in
      let r = type_read kind letter.begin letter.text letter.has in
      l.is.some (ap (slice_index letters) (sym same) ∙ letter_is kind letter.text r ∙ void_letter letter.text (sym letter.is))
  no_pools f (OtherShorty i entry string begin shorty result parameters e is_string has proto unlike is) =
      let k = kinds_read i entry proto.kind proto.offset proto.size proto.kinds e proto.is_kind proto.is_offset proto.is_size proto.are_kinds in
      let at = (entry_is bytes 72 12 i entry t.protos stand.protos e).1 in
      let same : k.proto.shorty ≡ string = once_32 bytes (t.protos.offset + 12 * i) k.proto.shorty string k.is.shorty.is (subst (λ n. Is32 bytes n string) at is_string) in
      let text = text_read string begin shorty has in
      let spelled : spells_shorty letters shorty proto.kind proto.kinds ≡ true =
      subst (λ x. spells_shorty letters x proto.kind proto.kinds ≡ true) (ap (text_of p.strings) same ∙ text.text_is)
      (subst (λ x. spells_shorty letters (text_of p.strings k.proto.shorty) proto.kind x ≡ true) k.kinds_are
      (subst (λ x. spells_shorty letters (text_of p.strings k.proto.shorty) x k.proto.parameters ≡ true) k.result_is k.is.spelled)) in
      unlike (shorty_spelled shorty proto.kind proto.kinds result parameters spelled (type_read proto.kind proto.begin result proto.is_result) proto.texts)
  no_pools f (VoidParameter i entry k result text parameters e proto there void is) =
      let r = kinds_read i entry proto.kind proto.offset proto.size proto.kinds e proto.is_kind proto.is_offset proto.is_size proto.are_kinds in
      let spelled : spells_shorty letters (text_of p.strings r.proto.shorty) r.proto.result proto.kinds ≡ true =
      subst (λ x. spells_shorty letters (text_of p.strings r.proto.shorty) r.proto.result x ≡ true) r.kinds_are r.is.spelled in
      rest_void (text_of p.strings r.proto.shorty) r.proto.result proto.kinds parameters k text spelled proto.texts there void
