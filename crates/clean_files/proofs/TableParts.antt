-- The parts of the tables of a file that is read are good, and their entries ascend.
use Rattle.std.proofs.Common.{◌≡◌, ◌<◌, ◌≤◌, ℕ, suc, ◌+◌, ◌*◌, ltb, List, ◌∷◌, length, Some, Ok, sym, subst, ◌∙◌, arith, true}
use Rattle.std.specs.Prelude.{slice_get}
use Rattle.std.specs.Ordering.{nat_cmp}
use Rattle.std.specs.Cmp.Lexicographic.{slice_cmp}
use Rattle.std.proofs.lemmas.Bool.{ltb-true}
use Rattle.lemmas.proofs.Lists.{get_there}
use Rattle.dex_base.specs.Leb.{IsUlebAt}
use Rattle.dex_base.specs.Mutf8.{IsTextAt}
use Rattle.dex_base.specs.Word.{Is16, Is32}
use Rattle.program_model.specs.declared.program.Class.{Class}
use Rattle.program_model.specs.declared.program.Program.{Program}
use Rattle.dex_pools.specs.declared.header.Extent.{Extent}
use Rattle.dex_pools.specs.declared.header.Extents.{Extents}
use Rattle.dex_pools.specs.Order.{list_below, three_below, proto_below, field_below, method_below}
use Rattle.dex_pools.specs.Spelled.{IsExtent, AreExtents, IsTypeList, AreParameters}
use Rattle.dex_defs.specs.ClassDefs.{Def}
use Rattle.dex_defs.specs.Parts.{Part, Units, IndexOf, HalfIndexOf}
use Rattle.dex_defs.specs.Places.{IsTable, IsEntryAt}
use Rattle.dex_defs.specs.Placed.{HasSize, HasTypeList, OfProto, OfClass, IsTableAt, InTables, TheHeader, TheTable, StringCount, StringText, TypeString, ProtoShorty, ProtoResult, FieldClass, FieldType, FieldText, MethodClass, MethodProto, MethodText, ListCount, ListWhole, ListEntry}
use Rattle.dex_defs.specs.Placed as placed
use Rattle.dex_defs.specs.Faults.{HasText, HasThree, HasKinds}
use Rattle.dex_defs.specs.Spells.{Spells}
use Rattle.dex_read.specs.File.{classes_at}
use Rattle.dex_read.specs.declared.members.Budget.{Budget}
use Rattle.refused_law.proofs.Defs.{half_there}
use Rattle.refused_law.proofs.Ids.{first_less}
use Rattle.spelled_law.proofs.Once.{once_16, once_32, once_uleb}
use Rattle.clean_files.proofs.Parts.{Good}
use Rattle.clean_files.proofs.Tables as tables
use Rattle.clean_files.proofs.Tables.{entry_is, led, ascends_pair}
use Rattle.clean_files.proofs.Classes.{class_of}

three_same : (a b c a2 b2 c2 x y z x2 y2 z2 : ℕ) → a ≡ a2 → b ≡ b2 → c ≡ c2 → x ≡ x2 → y ≡ y2 → z ≡ z2 → three_below a b c x y z ≡ true → three_below a2 b2 c2 x2 y2 z2 ≡ true
three_same a b c a2 b2 c2 x y z x2 y2 z2 e1 e2 e3 e4 e5 e6 h =
    subst (λ n. three_below n b2 c2 x2 y2 z2 ≡ true) e1 (subst (λ n. three_below a n c2 x2 y2 z2 ≡ true) e2 (subst (λ n. three_below a b n x2 y2 z2 ≡ true) e3
    (subst (λ n. three_below a b c n y2 z2 ≡ true) e4 (subst (λ n. three_below a b c x n z2 ≡ true) e5 (subst (λ n. three_below a b c x y n ≡ true) e6 h)))))

module _ (bytes : List ℕ) (p : Program) (s : Spells bytes p) where
  abbrev t : Extents
  t = s.pools.tables

  abbrev stand : AreExtents bytes s.pools.tables
  stand = s.pools.stand

  -- ---- order

  pub strings_ascend : (place a b : ℕ) (x y : List ℕ) → HasText bytes place x a → HasText bytes (suc place) y b → list_below x y ≡ true
  strings_ascend place a b x y h g = ascends_pair list_below p.strings place x y s.pools.strings_ascend (tables.text_read bytes p s place a x h).there (tables.text_read bytes p s (suc place) b y g).there

  type_there : (i at x : ℕ) → IsEntryAt bytes 64 4 i at → Is32 bytes at x → slice_get p.types i ≡ Some x
  type_there i at x e is =
      let l = tables.type_listed bytes p s i at e in
      let here = (entry_is bytes 64 4 i at t.types stand.types e).1 in
      let same = once_32 bytes (t.types.offset + 4 * i) l.x x l.is.string.is (subst (λ n. Is32 bytes n x) here is) in
      subst (λ n. slice_get p.types i ≡ Some n) same l.there

  pub types_ascend : (place a b x y : ℕ) → IsEntryAt bytes 64 4 place a → IsEntryAt bytes 64 4 (suc place) b → Is32 bytes a x → Is32 bytes b y → x < y
  types_ascend place a b x y e g is also = ltb-true x y (ascends_pair ltb p.types place x y s.pools.types_ascend (type_there place a x e is) (type_there (suc place) b y g also))

  pub protos_ascend : (place a b x y : ℕ) (xs ys : List ℕ) → IsEntryAt bytes 72 12 place a → IsEntryAt bytes 72 12 (suc place) b → HasKinds bytes a x xs → HasKinds bytes b y ys → list_below (x ∷ xs) (y ∷ ys) ≡ true
  protos_ascend place a b x y xs ys e g h k =
      let m = tables.kinds_read bytes p s place a x h.offset h.size xs e h.is_result h.is_offset h.is_size h.are in
      let n = tables.kinds_read bytes p s (suc place) b y k.offset k.size ys g k.is_result k.is_offset k.is_size k.are in
      let below : proto_below m.proto n.proto ≡ true = ascends_pair proto_below p.protos place m.proto n.proto s.pools.protos_ascend m.there n.there in
      let listed : list_below (m.proto.result ∷ m.proto.parameters) (n.proto.result ∷ n.proto.parameters) ≡ true = first_less m.proto.result n.proto.result (slice_cmp nat_cmp m.proto.parameters n.proto.parameters) ∙ below in
      subst (λ z. list_below (z ∷ xs) (y ∷ ys) ≡ true) m.result_is (subst (λ z. list_below (m.proto.result ∷ z) (y ∷ ys) ≡ true) m.kinds_are
      (subst (λ z. list_below (m.proto.result ∷ m.proto.parameters) (z ∷ ys) ≡ true) n.result_is (subst (λ z. list_below (m.proto.result ∷ m.proto.parameters) (n.proto.result ∷ z) ≡ true) n.kinds_are listed)))

  pub fields_ascend : (place a b c n k c2 n2 k2 : ℕ) → IsEntryAt bytes 80 8 place a → IsEntryAt bytes 80 8 (suc place) b → HasThree bytes a c n k → HasThree bytes b c2 n2 k2 → three_below c n k c2 n2 k2 ≡ true
  fields_ascend place a b c n k c2 n2 k2 e g h j =
      let x = tables.field_listed bytes p s place a e in
      let y = tables.field_listed bytes p s (suc place) b g in
      let at = (entry_is bytes 80 8 place a t.fields stand.fields e).1 in
      let on = (entry_is bytes 80 8 (suc place) b t.fields stand.fields g).1 in
      let i = t.fields.offset + 8 * place in
      let o = t.fields.offset + 8 * suc place in
      three_same x.x.class x.x.name x.x.kind c n k y.x.class y.x.name y.x.kind c2 n2 k2
      (once_16 bytes i x.x.class c x.is.class.is (subst (λ z. Is16 bytes z c) at h.is_class)) (once_32 bytes (i + 4) x.x.name n x.is.name.is (subst (λ z. Is32 bytes (z + 4) n) at h.is_name)) (once_16 bytes (i + 2) x.x.kind k x.is.kind.is (subst (λ z. Is16 bytes (z + 2) k) at h.is_other))
      (once_16 bytes o y.x.class c2 y.is.class.is (subst (λ z. Is16 bytes z c2) on j.is_class)) (once_32 bytes (o + 4) y.x.name n2 y.is.name.is (subst (λ z. Is32 bytes (z + 4) n2) on j.is_name)) (once_16 bytes (o + 2) y.x.kind k2 y.is.kind.is (subst (λ z. Is16 bytes (z + 2) k2) on j.is_other))
      (ascends_pair field_below p.fields place x.x y.x s.pools.fields_ascend x.there y.there)

  pub methods_ascend : (place a b c n k c2 n2 k2 : ℕ) → IsEntryAt bytes 88 8 place a → IsEntryAt bytes 88 8 (suc place) b → HasThree bytes a c n k → HasThree bytes b c2 n2 k2 → three_below c n k c2 n2 k2 ≡ true
  methods_ascend place a b c n k c2 n2 k2 e g h j =
      let x = tables.method_listed bytes p s place a e in
      let y = tables.method_listed bytes p s (suc place) b g in
      let at = (entry_is bytes 88 8 place a t.methods stand.methods e).1 in
      let on = (entry_is bytes 88 8 (suc place) b t.methods stand.methods g).1 in
      let i = t.methods.offset + 8 * place in
      let o = t.methods.offset + 8 * suc place in
      three_same x.x.class x.x.name x.x.proto c n k y.x.class y.x.name y.x.proto c2 n2 k2
      (once_16 bytes i x.x.class c x.is.class.is (subst (λ z. Is16 bytes z c) at h.is_class)) (once_32 bytes (i + 4) x.x.name n x.is.name.is (subst (λ z. Is32 bytes (z + 4) n) at h.is_name)) (once_16 bytes (i + 2) x.x.proto k x.is.proto.is (subst (λ z. Is16 bytes (z + 2) k) at h.is_other))
      (once_16 bytes o y.x.class c2 y.is.class.is (subst (λ z. Is16 bytes z c2) on j.is_class)) (once_32 bytes (o + 4) y.x.name n2 y.is.name.is (subst (λ z. Is32 bytes (z + 4) n2) on j.is_name)) (once_16 bytes (o + 2) y.x.proto k2 y.is.proto.is (subst (λ z. Is16 bytes (z + 2) k2) on j.is_other))
      (ascends_pair method_below p.methods place x.x y.x s.pools.methods_ascend x.there y.there)

  -- ---- parts

  extent_of : (header width : ℕ) → IsTableAt header width → (e : Extent) × IsExtent bytes header width e
  extent_of header width (placed.Strings h w) = (t.strings, subst (λ n. IsExtent bytes n width t.strings) (sym h) (subst (λ n. IsExtent bytes 56 n t.strings) (sym w) stand.strings))
  extent_of header width (placed.Types h w) = (t.types, subst (λ n. IsExtent bytes n width t.types) (sym h) (subst (λ n. IsExtent bytes 64 n t.types) (sym w) stand.types))
  extent_of header width (placed.Protos h w) = (t.protos, subst (λ n. IsExtent bytes n width t.protos) (sym h) (subst (λ n. IsExtent bytes 72 n t.protos) (sym w) stand.protos))
  extent_of header width (placed.Fields h w) = (t.fields, subst (λ n. IsExtent bytes n width t.fields) (sym h) (subst (λ n. IsExtent bytes 80 n t.fields) (sym w) stand.fields))
  extent_of header width (placed.Methods h w) = (t.methods, subst (λ n. IsExtent bytes n width t.methods) (sym h) (subst (λ n. IsExtent bytes 88 n t.methods) (sym w) stand.methods))
  extent_of header width (placed.Classes h w) = (s.table, subst (λ n. IsExtent bytes n width s.table) (sym h) (subst (λ n. IsExtent bytes 96 n s.table) (sym w) s.stands))

  table_inside : (header width : ℕ) (x : Extent) → IsTableAt header width → IsTable bytes header x → 0 < x.size → x.offset + width * x.size ≤ length bytes
  table_inside header width x h is some =
      let e = extent_of header width h in
      let size : e.0.size ≡ x.size = once_32 bytes header e.0.size x.size e.1.size is.size in
      let offset : e.0.offset ≡ x.offset = once_32 bytes (header + 4) e.0.offset x.offset e.1.offset is.offset in
      subst (λ n. n + width * x.size ≤ length bytes) offset (subst (λ n. e.0.offset + width * n ≤ length bytes) size (e.1.inside (omega (arith, size, some))))

  -- an index of an entry
  word_index : (header width i at part size size' n : ℕ) (x : Extent) → IsExtent bytes header width x → IsEntryAt bytes header width i at → Is32 bytes (x.offset + width * i + part) n → n < size' → size' ≡ size → Good bytes (IndexOf (at + part) size)
  word_index header width i at part size size' n x h e is less same = (n, subst (λ k. Is32 bytes (k + part) n) (sym (entry_is bytes header width i at x h e).1) is, subst (λ k. n < k) same less)

  half_index : (header width i at part size size' n : ℕ) (x : Extent) → IsExtent bytes header width x → IsEntryAt bytes header width i at → Is16 bytes (x.offset + width * i + part) n → n < size' → size' ≡ size → Good bytes (HalfIndexOf (at + part) size)
  half_index header width i at part size size' n x h e is less same = (n, subst (λ k. Is16 bytes (k + part) n) (sym (entry_is bytes header width i at x h e).1) is, subst (λ k. n < k) same less)

  first_word : (header width i at size size' n : ℕ) (x : Extent) → IsExtent bytes header width x → IsEntryAt bytes header width i at → Is32 bytes (x.offset + width * i) n → n < size' → size' ≡ size → Good bytes (IndexOf at size)
  first_word header width i at size size' n x h e is less same = (n, subst (λ k. Is32 bytes k n) (sym (entry_is bytes header width i at x h e).1) is, subst (λ k. n < k) same less)

  first_half : (header width i at size size' n : ℕ) (x : Extent) → IsExtent bytes header width x → IsEntryAt bytes header width i at → Is16 bytes (x.offset + width * i) n → n < size' → size' ≡ size → Good bytes (HalfIndexOf at size)
  first_half header width i at size size' n x h e is less same = (n, subst (λ k. Is16 bytes k n) (sym (entry_is bytes header width i at x h e).1) is, subst (λ k. n < k) same less)

  string_size : (size : ℕ) → HasSize bytes 56 size → t.strings.size ≡ size
  string_size size h = once_32 bytes 56 t.strings.size size stand.strings.size h

  pub type_size : (size : ℕ) → HasSize bytes 64 size → t.types.size ≡ size
  type_size size h = once_32 bytes 64 t.types.size size stand.types.size h

  proto_size : (size : ℕ) → HasSize bytes 72 size → t.protos.size ≡ size
  proto_size size h = once_32 bytes 72 t.protos.size size stand.protos.size h

  -- the count of a string's units, and its text
  record BeginsAt (offset : ℕ) : Type 0 where
    r : ℕ × ℕ
    units : IsUlebAt bytes offset r
    text : List ℕ × ℕ
    is_text : IsTextAt bytes r.1 r.0 text

  string_begins : (i entry offset : ℕ) → IsEntryAt bytes 56 4 i entry → Is32 bytes entry offset → BeginsAt offset
  string_begins i entry offset e is =
      let l = tables.string_listed bytes p s i entry e in
      let here = (entry_is bytes 56 4 i entry t.strings stand.strings e).1 in
      let same = once_32 bytes (t.strings.offset + 4 * i) l.is.begins.at offset l.is.begins.offset (subst (λ n. Is32 bytes n offset) here is) in
      record { r = l.is.begin; units = subst (λ n. IsUlebAt bytes n l.is.begin) same l.is.begins.units; text = (l.x, l.is.stop); is_text = l.is.is_text }

  text_good : (units begin : ℕ) (b : ℕ × ℕ) (text : List ℕ × ℕ) → b ≡ (units, begin) → IsTextAt bytes b.1 b.0 text → Good bytes (Units begin units)
  text_good units begin b text e is = (text, subst (λ (r : ℕ × ℕ). IsTextAt bytes r.1 r.0 text) e is)

  -- a list of types: its count, its room and its entries
  pub list_good : (at : ℕ) (types : List ℕ) → IsTypeList bytes at t.types.size types → (count i : ℕ) → Is32 bytes at count → i < count → Good bytes (HalfIndexOf (at + 4 + 2 * i) t.types.size)
  list_good at types h count i is less =
      let same : length types ≡ count = once_32 bytes at (length types) count h.count is in
      let x = get_there types i (omega (arith, less, same)) in
      let half = half_there bytes (at + 4) t.types.size types i x.0 h.entries.1 x.1 in
      (x.0, half.is, half.below)

module _ (bytes : List ℕ) (q : Program) (left : Budget) (cs : List Class) (filled : classes_at bytes q left ≡ Ok cs) (s : Spells bytes (record q { classes = cs })) where
  abbrev p : Program
  p = record q { classes = cs }

  pub type_list : (at : ℕ) → HasTypeList bytes at → (types : List ℕ) × IsTypeList bytes at s.pools.tables.types.size types
  type_list at (OfProto i entry offset e is leads) =
      let l = tables.proto_listed bytes p s i entry e in
      let here = (entry_is bytes 72 12 i entry s.pools.tables.protos s.pools.stand.protos e).1 in
      let same = once_32 bytes (s.pools.tables.protos.offset + 12 * i + 8) l.is.offset offset l.is.is_offset (subst (λ n. Is32 bytes (n + 8) offset) here is) in
      (l.x.parameters, led bytes s.pools.tables.types.size offset at l.x.parameters leads (subst (λ n. AreParameters bytes s.pools.tables.types.size n l.x.parameters) same l.is.parameters))
  type_list at (OfClass class def has leads) =
      let c = class_of bytes q left cs filled s class def has in
      let are : AreParameters bytes s.pools.tables.types.size c.is.def.interfaces c.c.interfaces = subst (λ n. AreParameters bytes n c.is.def.interfaces c.c.interfaces) s.pools.types.0 c.is.interfaces in
      (c.c.interfaces, led bytes s.pools.tables.types.size def.interfaces at c.c.interfaces leads (subst (λ (d : Def). AreParameters bytes s.pools.tables.types.size d.interfaces c.c.interfaces) c.same are))

  pub tables_good : (part : Part) → 112 ≤ length bytes → InTables bytes part → Good bytes part
  tables_good part whole TheHeader = omega (arith, whole)
  tables_good part whole (TheTable header width x is table some) = table_inside bytes p s header width x is table some
  tables_good part whole (StringCount i entry offset e is) = let b = string_begins bytes p s i entry offset e is in (b.r, b.units)
  tables_good part whole (StringText i entry offset units begin e is counted) =
      let b = string_begins bytes p s i entry offset e is in
      text_good bytes p s units begin b.r b.text (once_uleb bytes offset b.r (units, begin) b.units counted) b.is_text
  tables_good part whole (TypeString i entry size e h) = let l = tables.type_listed bytes p s i entry e in
      first_word bytes p s 64 4 i entry size s.pools.tables.strings.size l.x s.pools.tables.types s.pools.stand.types e l.is.string.is l.is.string.below (string_size bytes p s size h)
  tables_good part whole (ProtoShorty i entry size e h) = let l = tables.proto_listed bytes p s i entry e in
      first_word bytes p s 72 12 i entry size s.pools.tables.strings.size l.x.shorty s.pools.tables.protos s.pools.stand.protos e l.is.shorty.is l.is.shorty.below (string_size bytes p s size h)
  tables_good part whole (ProtoResult i entry size e h) = let l = tables.proto_listed bytes p s i entry e in
      word_index bytes p s 72 12 i entry 4 size s.pools.tables.types.size l.x.result s.pools.tables.protos s.pools.stand.protos e l.is.outcome.is l.is.outcome.below (type_size bytes p s size h)
  tables_good part whole (FieldClass i entry size e h) = let l = tables.field_listed bytes p s i entry e in
      first_half bytes p s 80 8 i entry size s.pools.tables.types.size l.x.class s.pools.tables.fields s.pools.stand.fields e l.is.class.is l.is.class.below (type_size bytes p s size h)
  tables_good part whole (FieldType i entry size e h) = let l = tables.field_listed bytes p s i entry e in
      half_index bytes p s 80 8 i entry 2 size s.pools.tables.types.size l.x.kind s.pools.tables.fields s.pools.stand.fields e l.is.kind.is l.is.kind.below (type_size bytes p s size h)
  tables_good part whole (FieldText i entry size e h) = let l = tables.field_listed bytes p s i entry e in
      word_index bytes p s 80 8 i entry 4 size s.pools.tables.strings.size l.x.name s.pools.tables.fields s.pools.stand.fields e l.is.name.is l.is.name.below (string_size bytes p s size h)
  tables_good part whole (MethodClass i entry size e h) = let l = tables.method_listed bytes p s i entry e in
      first_half bytes p s 88 8 i entry size s.pools.tables.types.size l.x.class s.pools.tables.methods s.pools.stand.methods e l.is.class.is l.is.class.below (type_size bytes p s size h)
  tables_good part whole (MethodProto i entry size e h) = let l = tables.method_listed bytes p s i entry e in
      half_index bytes p s 88 8 i entry 2 size s.pools.tables.protos.size l.x.proto s.pools.tables.methods s.pools.stand.methods e l.is.proto.is l.is.proto.below (proto_size bytes p s size h)
  tables_good part whole (MethodText i entry size e h) = let l = tables.method_listed bytes p s i entry e in
      word_index bytes p s 88 8 i entry 4 size s.pools.tables.strings.size l.x.name s.pools.tables.methods s.pools.stand.methods e l.is.name.is l.is.name.below (string_size bytes p s size h)
  tables_good part whole (ListCount at has) = let l = type_list at has in omega (arith, l.1.inside)
  tables_good part whole (ListWhole at count has is) = let l = type_list at has in let same = once_32 bytes at (length l.0) count l.1.count is in omega (arith, l.1.inside, same)
  tables_good part whole (ListEntry at count i size has is less h) = let l = type_list at has in
      subst (λ n. Good bytes (HalfIndexOf (at + 4 + 2 * i) n)) (type_size bytes p s size h) (list_good bytes p s at l.0 l.1 count i is less)
