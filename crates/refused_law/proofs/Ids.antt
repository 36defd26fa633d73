-- A fault of protos, fields and methods that is answered stands there.
use Rattle.std.proofs.Common.{◌≡◌, ◌≤◌, ◌<◌, ◌⊎◌, inl, inr, ℕ, zero, suc, ◌+◌, ◌*◌, Bool, true, false, cond, ltb, List, [], ◌∷◌, length, map, Some, Ok, refl, sym, ap, subst, ◌∙◌, arith, true≢false}
use Rattle.std.specs.Prelude.{◌||◌, ◌&&◌, ◌==◌, slice_get, slice_index}
use Rattle.std.specs.Ordering.{nat_cmp, ordering_then}
use Rattle.std.specs.Cmp.Lexicographic.{slice_cmp}
use Rattle.std.specs.declared.cmp.Ordering.{Ordering}
use Rattle.std.specs.declared.cmp.Ordering.TheVariants.{Less, Equal, Greater}
use Rattle.std.proofs.lemmas.Bool.{leb-true, leb-false, eqb-true, eq-eqb}
use Rattle.std.proofs.lemmas.Option.{slice_get-get_or, get_or_from_slice_get}
use Rattle.lemmas.proofs.Lists.{got_short, got_map}
use Rattle.lemmas.proofs.Options.{some_same}
use Rattle.std.specs.List.{AllByRecursion}
use Rattle.dex_base.specs.declared.fault.BaseFault.{BaseFault}
use Rattle.dex_base.specs.Decides.{Each}
use Rattle.dex_base.specs.Word.{Is32, IsShort, u32_at}
use Rattle.dex_base.proofs.Words.{is_32}
use Rattle.program_model.specs.Texts.{first_unit}
use Rattle.program_model.specs.declared.limits.Counted.TheVariants.{Items}
use Rattle.program_model.specs.declared.pools.Proto.{Proto}
use Rattle.program_model.specs.declared.pools.FieldName.{FieldName}
use Rattle.program_model.specs.declared.pools.MethodName.{MethodName}
use Rattle.dex_pools.specs.declared.fault.PoolFault.{PoolFault}
use Rattle.dex_pools.specs.declared.fault.PoolFault.TheVariants as pool
use Rattle.dex_pools.specs.declared.fault.Table.TheVariants as table
use Rattle.dex_pools.specs.declared.header.Extents.{Extents}
use Rattle.dex_pools.specs.Fault.{of_base}
use Rattle.dex_pools.specs.Items.{count_at, listed_at, type_list_at}
use Rattle.dex_pools.specs.Order.{is_less, proto_below, field_below, method_below}
use Rattle.dex_pools.specs.PoolTables.{protos_at, fields_at, methods_at}
use Rattle.dex_pools.specs.Run.{run}
use Rattle.dex_pools.specs.Spelled.{AreExtents, IsHalfIndex, IsTypeList, AreParameters, IsType, IsProto, IsField, IsMethod}
use Rattle.dex_pools.specs.Tables.{text_of, letter_of, letters_of, spells_all, spells_shorty, parameters_at, proto_at, field_at, method_at}
use Rattle.dex_pools.proofs.Fields.{finds_word, finds_index, finds_half_index}
use Rattle.dex_pools.proofs.Finding.{finds_each}
use Rattle.dex_pools.proofs.TableReading.{finds_type_list, finds_proto, finds_field, finds_method}
use Rattle.dex_defs.specs.Parts.{Bytes, IndexOf, HalfIndexOf}
use Rattle.dex_defs.specs.Places.{IsEntryAt}
use Rattle.dex_defs.specs.Placed.{IsPlaced, HasSize, HasTypeList, OfProto, ListCount, ListWhole, ListEntry, ProtoShorty, ProtoResult, FieldClass, FieldType, FieldText, MethodClass, MethodProto, MethodText}
use Rattle.dex_defs.specs.Placed as placed
use Rattle.dex_defs.specs.Faults.{HasText, HasTypeText, shorty_letter, HasLetter, HaveTexts, HasProto, HasKinds, HasThree}
use Rattle.dex_defs.specs.Faults as faults
use Rattle.dex_defs.specs.ClassFaults.{HasFault, BadPart, BadPools, BadOrder}
use Rattle.dex_defs.specs.Parts as parts
use Rattle.file_laws.specs.Founds.{Founds}
use Rattle.file_laws.proofs.Founding.{known, weaker, done, when, either, next, founds_run}
use Rattle.spelled_law.proofs.Once.{two}
use Rattle.spelled_law.proofs.Values.{each_of}
use Rattle.refused_law.specs.Just.{IsJustPool}
use Rattle.refused_law.proofs.Failing.{Fails, sound, fails_with, unless, fails_either, fails_next, fails_lifted, fails_more, fails_by, fails_each, fails_run, each_at, NotAscends, fails_ascending}
use Rattle.refused_law.proofs.Tables.{fails_word, fails_index, fails_half_index, fails_spend, entry_at, AreStrings, has_text, text_there, type_text, AreTypes}

-- ---- lists of types

pub short_just : (bytes : List ℕ) (at size : ℕ) → IsPlaced bytes (Bytes at size) → (e : BaseFault) → IsShort bytes at size e → IsJustPool bytes (of_base e)
short_just bytes at size placed e h = subst (λ (x : BaseFault). IsJustPool bytes (of_base x)) (sym h.1) (BadPart (Bytes at size) placed (h.0, refl))

module _ (bytes : List ℕ) (at size : ℕ) (has : HasTypeList bytes at) (is_size : HasSize bytes 64 size) where
  fails_count : Fails (IsJustPool bytes) (count_at bytes at 2)
  unfolding count_at
  fails_count = fails_next (fails_lifted of_base (fails_by (u32_at bytes at) (is_32 bytes at) (short_just bytes at 4 (placed.Tables (ListCount at has))))) (λ count h.
      unless (pool.Short at) (λ no. BadPart (Bytes at (4 + 2 * count)) (placed.Tables (ListWhole at count has ((finds_word bytes at).found count h)))
      (let less = leb-false (at + 4 + 2 * count) (length bytes) no in omega (arith, less), refl)) (λ _. sound count))

  record IsCount (n : ℕ) : Type 0 where
    is : Is32 bytes at n
    inside : at + 4 + 2 * n ≤ length bytes

  founds_count : Founds IsCount (count_at bytes at 2)
  unfolding count_at
  founds_count = weaker (count_at bytes at 2) (next (known (finds_word bytes at)) (λ n _. when _ (done n))) (λ y q. subst IsCount (sym q.2.1) (record { is = q.1; inside = leb-true _ _ q.2.0 }))

  fails_listed : (count i left : ℕ) → IsCount count → i < count → Fails (IsJustPool bytes) (listed_at bytes at size i left)
  unfolding listed_at
  fails_listed count i left is less = let all = is.inside in fails_next (fails_spend bytes Items 1 left) (λ behind _.
      fails_next (fails_half_index bytes (at + 4 + 2 * i) size (omega (arith, all, less)) (placed.Tables (ListEntry at count i size has is.is less is_size))) (λ kind _. sound (kind, behind)))

  pub fails_list : (left : ℕ) → Fails (IsJustPool bytes) (type_list_at bytes at size left)
  unfolding type_list_at
  fails_list left = fails_next fails_count (λ count h. fails_run (listed_at bytes at size) 0 count left (λ i s less. fails_listed count i s (founds_count.found count h) (omega (arith, less))))

-- ---- letters

pub same_letter : (text : List ℕ) → letter_of text ≡ shorty_letter text
same_letter [] = refl
same_letter (u ∷ us) = refl

void_letter : (text : List ℕ) → letter_of text ≡ 86 → 86 ≡ first_unit text
void_letter [] h = absurd cc
void_letter (u ∷ us) h = by_array (u == 91) h
  where
    by_array : (b : Bool) → cond b 76 u ≡ 86 → 86 ≡ u
    by_array true h = omega (arith, h)
    by_array false h = sym h

-- ---- shorties

-- units are not the letters, or a letter is V
abbrev Differs : List ℕ → List ℕ → List ℕ → Type 0
Differs letters units kinds = (units ≡ map (λ k. slice_index letters k) kinds → ⊥) ⊎ ((k : ℕ) × (kind : ℕ) × (slice_get kinds k ≡ Some kind) × (slice_index letters kind ≡ 86))

abbrev head_of : List ℕ → ℕ
head_of [] = 0
head_of (u ∷ us) = u

abbrev tail_of : List ℕ → List ℕ
tail_of [] = []
tail_of (u ∷ us) = us

none_cons : {x : ℕ} {xs : List ℕ} → [] ≡ x ∷ xs → ⊥
none_cons e = absurd cc

spells_none : (letters units kinds : List ℕ) → spells_all letters units kinds ≡ false → Differs letters units kinds
spells_none letters [] [] h = absurd cc
spells_none letters [] (kind ∷ kinds) h = inl (λ e. absurd cc)
spells_none letters (u ∷ us) [] h = inl (λ e. absurd cc)
spells_none letters (u ∷ us) (kind ∷ kinds) h = by_first (u == slice_index letters kind) (u == 86) refl refl (λ g. spells_none letters us kinds g) h
  where
    later : Differs letters us kinds → Differs letters (u ∷ us) (kind ∷ kinds)
    later (inl other) = inl (λ e. other (ap tail_of e))
    later (inr v) = inr (suc v.0, v.1, v.2, v.3)

    by_first : (a b : Bool) → (u == slice_index letters kind) ≡ a → (u == 86) ≡ b → (spells_all letters us kinds ≡ false → Differs letters us kinds)
        → ((a && (cond b false true)) && spells_all letters us kinds) ≡ false → Differs letters (u ∷ us) (kind ∷ kinds)
    by_first false b e f rest h = inl (λ is. true≢false (sym (eq-eqb u (slice_index letters kind) (ap head_of is)) ∙ e))
    by_first true true e f rest h = inr (0, kind, refl, sym (eqb-true u (slice_index letters kind) e) ∙ eqb-true u 86 f)
    by_first true false e f rest h = later (rest h)

-- ---- protos, fields and methods

pub first_less : (a b : ℕ) (rest : Ordering) → is_less (ordering_then (nat_cmp a b) rest) ≡ (ltb a b || ((a == b) && is_less rest))
first_less a b rest = by_tests (ltb a b) (a == b)
  where
    by_tests : (x y : Bool) → is_less (ordering_then (cond x Less (cond y Equal Greater)) rest) ≡ (x || (y && is_less rest))
    by_tests true y = refl
    by_tests false true = refl
    by_tests false false = refl

module _ (bytes : List ℕ) (t : Extents) (stand : AreExtents bytes t) (strings : List (List ℕ)) (are : AreStrings bytes t stand strings) (types : List ℕ) (are_types : AreTypes bytes t stand strings are types) where
  abbrev letters : List ℕ
  letters = letters_of strings types

  pub type_there : (k : ℕ) → k < t.types.size → slice_get types k ≡ Some (slice_index types k)
  type_there k less = slice_get-get_or types k 0 (omega (arith, less, are_types.0))

  abbrev text_at : ℕ → List ℕ
  text_at k = text_of strings (slice_index types k)

  letter_at : (k : ℕ) → k < t.types.size → slice_index letters k ≡ letter_of (text_at k)
  letter_at k less = get_or_from_slice_get letters k (letter_of (text_at k)) 0 (got_map (λ i. letter_of (text_of strings i)) types k (slice_index types k) (type_there k less))

  pub type_has : (k : ℕ) → k < t.types.size → (begin : ℕ) × HasTypeText bytes k (text_at k) begin
  type_has k less =
      let is = each_at (IsType bytes t strings) types k (slice_index types k) are_types.1 (type_there k less) in
      type_text bytes t stand strings are k (slice_index types k) less is.string.is is.string.below

  -- the texts of types whose numbers are those of the table
  abbrev AllTypes : List ℕ → Type 0
  AllTypes kinds = AllByRecursion (λ k. k < t.types.size) kinds

  texts_have : (kinds : List ℕ) → AllTypes kinds → HaveTexts bytes kinds (map text_at kinds)
  texts_have [] h = tt
  texts_have (k ∷ ks) h = (type_has k h.0, texts_have ks h.1)

  all_types : (base from : ℕ) (kinds : List ℕ) → Each (λ i n. IsHalfIndex bytes (base + 2 * i) t.types.size n) from kinds → AllTypes kinds
  all_types base from [] h = tt
  all_types base from (k ∷ ks) h = (h.0.below, all_types base (suc from) ks h.1)

  parameters_all : (offset : ℕ) (kinds : List ℕ) → AreParameters bytes t.types.size offset kinds → AllTypes kinds
  parameters_all zero kinds h = subst AllTypes (sym h) tt
  parameters_all (suc k) kinds h = all_types (suc k + 4) 0 kinds h.entries.1

  -- ---- one proto

  proto_entry : (i : ℕ) → i < t.protos.size → IsEntryAt bytes 72 12 i (t.protos.offset + 12 * i)
  proto_entry i less = entry_at bytes 72 12 t.protos stand.protos i less

  has_proto : (i result offset : ℕ) (kinds : List ℕ) → i < t.protos.size → Is32 bytes (t.protos.offset + 12 * i + 4) result → result < t.types.size → Is32 bytes (t.protos.offset + 12 * i + 8) offset → AreParameters bytes t.types.size offset kinds
      → HasProto bytes (t.protos.offset + 12 * i) (text_at result) (map text_at kinds)
  has_proto i result offset kinds less is below is_offset parameters = let r = type_has result below in record {
    kind = result;
    begin = r.0;
    is_kind = is;
    is_result = r.1;
    offset = offset;
    is_offset = is_offset;
    size = t.types.size;
    is_size = stand.types.size;
    kinds = kinds;
    are_kinds = parameters;
    texts = texts_have kinds (parameters_all offset kinds parameters);
  }

  letters_same : (kinds : List ℕ) → AllTypes kinds → map (λ k. slice_index letters k) kinds ≡ map shorty_letter (map text_at kinds)
  letters_same [] h = refl
  letters_same (k ∷ ks) h = two (λ x xs. x ∷ xs) (letter_at k h.0 ∙ same_letter (text_at k)) (letters_same ks h.1)

  mapped_at : (kinds : List ℕ) (k kind : ℕ) → slice_get kinds k ≡ Some kind → slice_get (map text_at kinds) k ≡ Some (text_at kind)
  mapped_at kinds k kind h = got_map text_at kinds k kind h

  kind_below : (kinds : List ℕ) (k kind : ℕ) → AllTypes kinds → slice_get kinds k ≡ Some kind → kind < t.types.size
  kind_below [] k kind a h = absurd cc
  kind_below (x ∷ xs) zero kind a h = subst (λ n. n < t.types.size) (some_same x kind h) a.0
  kind_below (x ∷ xs) (suc k) kind a h = kind_below xs k kind a.1 h

  -- ---- parameters

  by_offset : (offset : ℕ) (types : List ℕ) → (offset ≡ 0 → ⊥) → IsTypeList bytes offset t.types.size types → AreParameters bytes t.types.size offset types
  by_offset zero types other h = absurd (other refl)
  by_offset (suc k) types other h = h

  not_zero : (n : ℕ) → (n == 0) ≡ false → n ≡ 0 → ⊥
  not_zero n e is = true≢false (sym (eq-eqb n 0 is) ∙ e)

  positive : (n : ℕ) → (n ≡ 0 → ⊥) → 0 < n
  positive zero other = absurd (other refl)
  positive (suc n) other = omega arith

  founds_parameters : (offset left : ℕ) → Founds (λ r. AreParameters bytes t.types.size offset r.0) (parameters_at bytes t.types.size offset left)
  unfolding parameters_at
  founds_parameters offset left = either
      (λ e. weaker (Ok ([], left)) (done ([], left)) (λ y q. subst (λ (r : List ℕ × ℕ). AreParameters bytes t.types.size offset r.0) (sym q) (subst (λ n. AreParameters bytes t.types.size n []) (sym (eqb-true offset 0 e)) refl)))
      (λ e. weaker _ (known (finds_type_list bytes offset t.types.size left)) (λ y q. by_offset offset y.0 (not_zero offset e) q.0))

  module _ (i : ℕ) (less : i < t.protos.size) where
    abbrev at : ℕ
    at = t.protos.offset + 12 * i

    proto_inside : at + 12 ≤ length bytes
    proto_inside = let all = stand.protos.inside (omega (arith, less)) in omega (arith, less, all)

    fails_parameters : (offset left : ℕ) → Is32 bytes (at + 8) offset → Fails (IsJustPool bytes) (parameters_at bytes t.types.size offset left)
    unfolding parameters_at
    fails_parameters offset left is = fails_either (λ e. sound ([], left))
        (λ e. fails_list bytes offset t.types.size (OfProto i at offset (proto_entry i less) is (positive offset (not_zero offset e), refl)) stand.types.size left)

    shorty_just : (shorty result offset : ℕ) (kinds units : List ℕ) → units ≡ text_of strings shorty → Is32 bytes at shorty → shorty < t.strings.size → Is32 bytes (at + 4) result → result < t.types.size → Is32 bytes (at + 8) offset
        → AreParameters bytes t.types.size offset kinds → spells_shorty letters units result kinds ≡ false → HasFault bytes (parts.Shorty at)
    shorty_just shorty result offset kinds units same is below is_result in_types is_offset parameters h = by_units units same h
      where
        text : (begin : ℕ) × HasText bytes shorty (text_of strings shorty) begin
        text = has_text bytes t stand strings are shorty (text_of strings shorty) (text_there bytes t stand strings are shorty below)

        proto : HasProto bytes at (text_at result) (map text_at kinds)
        proto = has_proto i result offset kinds less is_result in_types is_offset parameters

        all : AllTypes kinds
        all = parameters_all offset kinds parameters

        other : (text_of strings shorty ≡ shorty_letter (text_at result) ∷ map shorty_letter (map text_at kinds) → ⊥) → HasFault bytes (parts.Shorty at)
        other unlike = BadPools (faults.OtherShorty i at shorty text.0 (text_of strings shorty) (text_at result) (map text_at kinds) (proto_entry i less) is text.1 proto unlike refl)

        void : (k kind : ℕ) → slice_get kinds k ≡ Some kind → slice_index letters kind ≡ 86 → HasFault bytes (parts.Shorty at)
        void k kind there v = BadPools (faults.VoidParameter i at k (text_at result) (text_at kind) (map text_at kinds) (proto_entry i less) proto (mapped_at kinds k kind there)
            (sym (void_letter (text_at kind) (sym (letter_at kind (kind_below kinds k kind all there)) ∙ v))) refl)

        by_rest : (u : ℕ) (us : List ℕ) → u ∷ us ≡ text_of strings shorty → Differs letters us kinds → HasFault bytes (parts.Shorty at)
        by_rest u us same (inl unlike) = other (λ e. unlike (ap tail_of (same ∙ e) ∙ sym (letters_same kinds all)))
        by_rest u us same (inr v) = void v.0 v.1 v.2 v.3

        by_first : (b : Bool) (u : ℕ) (us : List ℕ) → u ∷ us ≡ text_of strings shorty → (u == slice_index letters result) ≡ b → (b && spells_all letters us kinds) ≡ false → HasFault bytes (parts.Shorty at)
        by_first true u us same e h = by_rest u us same (spells_none letters us kinds h)
        by_first false u us same e h = other (λ is. true≢false (sym (eq-eqb u (slice_index letters result) (ap head_of (same ∙ is) ∙ sym (letter_at result in_types ∙ same_letter (text_at result)))) ∙ e))

        by_units : (us : List ℕ) → us ≡ text_of strings shorty → spells_shorty letters us result kinds ≡ false → HasFault bytes (parts.Shorty at)
        by_units [] same h = other (λ is. none_cons (same ∙ is))
        by_units (u ∷ us) same h = by_first (u == slice_index letters result) u us same refl h

    fails_proto : (left : ℕ) → Fails (IsJustPool bytes) (proto_at bytes t strings letters i left)
    unfolding proto_at
    fails_proto left =
        fails_next (fails_index bytes at t.strings.size (omega (arith, proto_inside)) (placed.Tables (ProtoShorty i at t.strings.size (proto_entry i less) stand.strings.size))) (λ shorty h1.
        fails_next (fails_index bytes (at + 4) t.types.size (omega (arith, proto_inside)) (placed.Tables (ProtoResult i at t.types.size (proto_entry i less) stand.types.size))) (λ result h2.
        fails_next (fails_word bytes (at + 8) (omega (arith, proto_inside))) (λ offset h3.
        fails_next (fails_parameters offset left ((finds_word bytes (at + 8)).found offset h3)) (λ parameters h4.
        let s = (finds_index bytes at t.strings.size).found shorty h1 in
        let r = (finds_index bytes (at + 4) t.types.size).found result h2 in
        unless (pool.Shorty at) (λ no. shorty_just shorty result offset parameters.0 (text_of strings shorty) refl s.is s.below r.is r.below ((finds_word bytes (at + 8)).found offset h3) ((founds_parameters offset left).found parameters h4) no)
        (λ _. sound (record { shorty = shorty; result = result; parameters = parameters.0 }, parameters.1))))))

  -- ---- their table

  abbrev AreProtos : List Proto → Type 0
  AreProtos protos = (length protos ≡ t.protos.size) × Each (IsProto bytes t strings letters) 0 protos

  proto_less : (protos : List Proto) → AreProtos protos → (k : ℕ) (p : Proto) → slice_get protos k ≡ Some p → k < t.protos.size
  proto_less protos h k p there = let short = got_short protos k p there in omega (arith, short, h.0)

  has_kinds : (k : ℕ) (p : Proto) → IsProto bytes t strings letters k p → HasKinds bytes (t.protos.offset + 12 * k) p.result p.parameters
  has_kinds k p h = record { is_result = h.outcome.is; offset = h.offset; is_offset = h.is_offset; size = t.types.size; is_size = stand.types.size; are = h.parameters }

  protos_order : (protos : List Proto) → AreProtos protos → (e : PoolFault) → NotAscends proto_below table.Protos protos e → IsJustPool bytes e
  protos_order protos h e n =
      let a = each_at (IsProto bytes t strings letters) protos n.place n.x h.1 n.first in
      let b = each_at (IsProto bytes t strings letters) protos (suc n.place) n.y h.1 n.second in
      subst (IsJustPool bytes) (sym n.is) (BadOrder (faults.Protos n.place (t.protos.offset + 12 * n.place) (t.protos.offset + 12 * suc n.place) n.x.result n.y.result n.x.parameters n.y.parameters
      (proto_entry n.place (proto_less protos h n.place n.x n.first)) (proto_entry (suc n.place) (proto_less protos h (suc n.place) n.y n.second)) (has_kinds n.place n.x a) (has_kinds (suc n.place) n.y b)
      (first_less n.x.result n.y.result (slice_cmp nat_cmp n.x.parameters n.y.parameters) ∙ n.not_below) refl))

  are_protos : (left : ℕ) (protos : List Proto) (rest : ℕ) → run (proto_at bytes t strings letters) 0 t.protos.size left ≡ Ok (protos, rest) → AreProtos protos
  are_protos left protos rest h =
      let r = (founds_run (λ i s y. IsProto bytes t strings letters i y.0) (proto_at bytes t strings letters) (λ i s. record { found = λ y g. ((finds_proto bytes t strings letters i s).found y g).0 }) 0 t.protos.size left).found (protos, rest) h in
      (r.0, each_of (IsProto bytes t strings letters) 0 left protos rest r.1)

  pub fails_protos : (left : ℕ) → Fails (IsJustPool bytes) (protos_at bytes t strings letters left)
  unfolding protos_at
  fails_protos left = fails_next (fails_run (proto_at bytes t strings letters) 0 t.protos.size left (λ i s less. fails_proto i (omega (arith, less)) s)) (λ protos h.
      fails_next (fails_more (protos_order protos.0 (are_protos left protos.0 protos.1 h)) (fails_ascending proto_below table.Protos protos.0)) (λ order _. sound protos))

  -- ---- fields

  field_entry : (i : ℕ) → i < t.fields.size → IsEntryAt bytes 80 8 i (t.fields.offset + 8 * i)
  field_entry i less = entry_at bytes 80 8 t.fields stand.fields i less

  has_letter : (kind : ℕ) → kind < t.types.size → slice_index letters kind ≡ 86 → HasLetter bytes kind 86
  has_letter kind below e = let text = type_has kind below in record { text = text_at kind; begin = text.0; has = text.1; is = void_letter (text_at kind) (sym (letter_at kind below) ∙ e) }

  fails_field : (i : ℕ) → i < t.fields.size → Fails (IsJustPool bytes) (field_at bytes t letters i)
  unfolding field_at
  fails_field i less =
      let at = t.fields.offset + 8 * i in
      let all = stand.fields.inside (omega (arith, less)) in
      let here = field_entry i less in
      fails_next (fails_half_index bytes at t.types.size (omega (arith, less, all)) (placed.Tables (FieldClass i at t.types.size here stand.types.size))) (λ class h1.
      fails_next (fails_half_index bytes (at + 2) t.types.size (omega (arith, less, all)) (placed.Tables (FieldType i at t.types.size here stand.types.size))) (λ kind h2.
      fails_next (fails_index bytes (at + 4) t.strings.size (omega (arith, less, all)) (placed.Tables (FieldText i at t.strings.size here stand.strings.size))) (λ name h3.
      let k = (finds_half_index bytes (at + 2) t.types.size).found kind h2 in
      fails_either (λ e. fails_with (pool.BadDescriptor at) (BadPools (faults.VoidField i at kind here k.is (has_letter kind k.below (eqb-true (slice_index letters kind) 86 e)) refl)))
      (λ e. sound (record { class = class; kind = kind; name = name })))))

  abbrev AreFields : List FieldName → Type 0
  AreFields fields = (length fields ≡ t.fields.size) × Each (IsField bytes t letters) 0 fields

  field_less : (fields : List FieldName) → AreFields fields → (k : ℕ) (f : FieldName) → slice_get fields k ≡ Some f → k < t.fields.size
  field_less fields h k f there = let short = got_short fields k f there in omega (arith, short, h.0)

  has_three : (k : ℕ) (f : FieldName) → IsField bytes t letters k f → HasThree bytes (t.fields.offset + 8 * k) f.class f.name f.kind
  has_three k f h = record { is_class = h.class.is; is_other = h.kind.is; is_name = h.name.is }

  fields_order : (fields : List FieldName) → AreFields fields → (e : PoolFault) → NotAscends field_below table.Fields fields e → IsJustPool bytes e
  fields_order fields h e n =
      let a = each_at (IsField bytes t letters) fields n.place n.x h.1 n.first in
      let b = each_at (IsField bytes t letters) fields (suc n.place) n.y h.1 n.second in
      subst (IsJustPool bytes) (sym n.is) (BadOrder (faults.Fields n.place (t.fields.offset + 8 * n.place) (t.fields.offset + 8 * suc n.place) n.x.class n.x.name n.x.kind n.y.class n.y.name n.y.kind
      (field_entry n.place (field_less fields h n.place n.x n.first)) (field_entry (suc n.place) (field_less fields h (suc n.place) n.y n.second)) (has_three n.place n.x a) (has_three (suc n.place) n.y b) n.not_below refl))

  pub fails_fields : Fails (IsJustPool bytes) (fields_at bytes t letters)
  unfolding fields_at
  fails_fields = fails_next (fails_each (field_at bytes t letters) 0 t.fields.size (λ i less. fails_field i (omega (arith, less)))) (λ fields h.
      fails_next (fails_more (fields_order fields ((finds_each (IsField bytes t letters) (field_at bytes t letters) (λ i. finds_field bytes t letters i) 0 t.fields.size).found fields h)) (fails_ascending field_below table.Fields fields)) (λ order _. sound fields))

  -- ---- methods

  method_entry : (i : ℕ) → i < t.methods.size → IsEntryAt bytes 88 8 i (t.methods.offset + 8 * i)
  method_entry i less = entry_at bytes 88 8 t.methods stand.methods i less

  fails_method : (i : ℕ) → i < t.methods.size → Fails (IsJustPool bytes) (method_at bytes t i)
  unfolding method_at
  fails_method i less =
      let at = t.methods.offset + 8 * i in
      let all = stand.methods.inside (omega (arith, less)) in
      let here = method_entry i less in
      fails_next (fails_half_index bytes at t.types.size (omega (arith, less, all)) (placed.Tables (MethodClass i at t.types.size here stand.types.size))) (λ class _.
      fails_next (fails_half_index bytes (at + 2) t.protos.size (omega (arith, less, all)) (placed.Tables (MethodProto i at t.protos.size here stand.protos.size))) (λ proto _.
      fails_next (fails_index bytes (at + 4) t.strings.size (omega (arith, less, all)) (placed.Tables (MethodText i at t.strings.size here stand.strings.size))) (λ name _.
      sound (record { class = class; proto = proto; name = name }))))

  abbrev AreMethods : List MethodName → Type 0
  AreMethods methods = (length methods ≡ t.methods.size) × Each (IsMethod bytes t) 0 methods

  method_less : (methods : List MethodName) → AreMethods methods → (k : ℕ) (m : MethodName) → slice_get methods k ≡ Some m → k < t.methods.size
  method_less methods h k m there = let short = got_short methods k m there in omega (arith, short, h.0)

  three_of : (k : ℕ) (m : MethodName) → IsMethod bytes t k m → HasThree bytes (t.methods.offset + 8 * k) m.class m.name m.proto
  three_of k m h = record { is_class = h.class.is; is_other = h.proto.is; is_name = h.name.is }

  methods_order : (methods : List MethodName) → AreMethods methods → (e : PoolFault) → NotAscends method_below table.Methods methods e → IsJustPool bytes e
  methods_order methods h e n =
      let a = each_at (IsMethod bytes t) methods n.place n.x h.1 n.first in
      let b = each_at (IsMethod bytes t) methods (suc n.place) n.y h.1 n.second in
      subst (IsJustPool bytes) (sym n.is) (BadOrder (faults.Methods n.place (t.methods.offset + 8 * n.place) (t.methods.offset + 8 * suc n.place) n.x.class n.x.name n.x.proto n.y.class n.y.name n.y.proto
      (method_entry n.place (method_less methods h n.place n.x n.first)) (method_entry (suc n.place) (method_less methods h (suc n.place) n.y n.second)) (three_of n.place n.x a) (three_of (suc n.place) n.y b) n.not_below refl))

  pub fails_methods : Fails (IsJustPool bytes) (methods_at bytes t)
  unfolding methods_at
  fails_methods = fails_next (fails_each (method_at bytes t) 0 t.methods.size (λ i less. fails_method i (omega (arith, less)))) (λ methods h.
      fails_next (fails_more (methods_order methods ((finds_each (IsMethod bytes t) (method_at bytes t) (λ i. finds_method bytes t i) 0 t.methods.size).found methods h)) (fails_ascending method_below table.Methods methods)) (λ order _. sound methods))
