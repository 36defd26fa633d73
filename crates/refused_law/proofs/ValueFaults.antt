-- A fault of a value, of an annotation or of a set of annotations that is answered stands there.
use Rattle.std.proofs.Common.{◌≡◌, ◌≤◌, ◌<◌, ℕ, zero, suc, ◌+◌, ◌*◌, ◌/◌, ◌%◌, Bool, true, false, cond, List, [], ◌∷◌, length, take, drop, Some, Result, Ok, refl, sym, ap, subst, ◌∙◌, arith, true≢false}
use Rattle.std.specs.Prelude.{slice_get, slice_index, ◌==◌}
use Rattle.std.specs.Int.{w32}
use Rattle.std.proofs.lemmas.Bool.{ltb-false, leb-true, leb-false, eqb-true, eq-eqb}
use Rattle.lemmas.proofs.Lists.{got_short}
use Rattle.lemmas.proofs.Options.{some_same}
use Rattle.dex_base.specs.Decides.{Each, ChainOf}
use Rattle.dex_base.specs.Leb.{IsUlebAt}
use Rattle.dex_base.specs.Word.{Is32, u32_at}
use Rattle.dex_base.proofs.Words.{is_32}
use Rattle.program_model.specs.declared.limits.Counted.TheVariants.{Items}
use Rattle.program_model.specs.declared.value.EncValue.{EncValue}
use Rattle.program_model.specs.declared.value.EncValue.TheVariants as value
use Rattle.program_model.specs.declared.value.Element.{Element}
use Rattle.program_model.specs.declared.value.Mark.{Mark}
use Rattle.program_model.specs.declared.value.Note.{Note, Note-F, roll-Note, out-Note, out-roll-Note}
use Rattle.dex_pools.specs.declared.fault.PoolFault.{PoolFault}
use Rattle.dex_pools.specs.declared.fault.PoolFault.TheVariants as pool
use Rattle.dex_pools.specs.declared.fault.Table.TheVariants as table
use Rattle.dex_pools.specs.declared.scalar.TableSizes.{TableSizes}
use Rattle.dex_pools.specs.Fault.{of_base}
use Rattle.dex_pools.specs.Items.{count_at}
use Rattle.dex_pools.specs.Marks.{mark_at, marked_at, mark_below, marks_at, parameter_at, parameters_marks_at}
use Rattle.dex_pools.specs.Run.{run}
use Rattle.dex_pools.specs.Value.{byte_at, few_at, number_index_at, most_argument, is_within, zero_extended, numeric, size_for, naming, scalar_at, counted, array_in, element_in, element_below, note_in, of_kind, value_in, value_at, whole_note_at}
use Rattle.dex_pools.specs.Word.{word_at}
use Rattle.dex_pools.proofs.Fields.{finds_word, finds_number}
use Rattle.dex_defs.specs.Annotations.{IsMarkOf}
use Rattle.dex_defs.specs.Parts.{Bytes, Number, NumberIndexOf}
use Rattle.dex_defs.specs.Places.{ElementEnds, NoteBegins, EndsWith, EndsIn, Repeat, ElementStands, IsElementOf, IsItemOf, IsInside, HasOuter, HasValue, HasMark, HasSet, HasRefs, ListedAt, Leads}
use Rattle.dex_defs.specs.Places as places
use Rattle.dex_defs.specs.Placed.{IsPlaced, HasSize, HasNote, ValueTag, ValueBytes, ItemCount, NoteType, NoteIndex, NoteCount, ElementText, ElementIndex, MarkHead, SetCount, SetWhole, RefsCount, RefsWhole}
use Rattle.dex_defs.specs.Placed as placed
use Rattle.dex_defs.specs.Faults.{NamesIn, NumberBehind}
use Rattle.dex_defs.specs.Faults as faults
use Rattle.dex_defs.specs.Values.{tag_at, argument_at, HasTag, AreItems, IsElement, IsNote, IsValueIn, IsValue}
use Rattle.dex_defs.specs.Values as defs
use Rattle.dex_defs.specs.ClassFaults.{BadPart, BadOrder, BadValues}
use Rattle.file_laws.specs.Founds.{Founds}
use Rattle.file_laws.proofs.Founding.{known, weaker, done, when, next, founds_run}
use Rattle.spelled_law.proofs.Values.{chain_of, each_of, founds_value, founds_byte, founds_few, founds_index, founds_counted, founds_element, founds_marked}
use Rattle.refused_law.specs.Just.{IsJustPool}
use Rattle.refused_law.proofs.Failing.{Fails, sound, fails_with, unless, fails_either, fails_next, fails_lifted, fails_more, fails_by, fails_run, each_at, NotAscends, fails_ascending}
use Rattle.refused_law.proofs.Tables.{fails_word, fails_number, fails_spend}
use Rattle.refused_law.proofs.Ids.{short_just}

-- ---- where a value ends

module _ (bytes : List ℕ) (sizes : TableSizes) where
  repeat_of : {X : Type 0} (Is : ℕ → X × ℕ → Type 0) (Ends : ℕ → ℕ → Type 0) → ((at : ℕ) (r : X × ℕ) → Is at r → Ends at r.1) → (at : ℕ) (xs : List X) (stop : ℕ) → ChainOf Is at xs stop → Repeat Ends (length xs) at stop
  repeat_of Is Ends to at [] stop h = h
  repeat_of Is Ends to at (x ∷ xs) stop h = (h.0, to at (x, h.0) h.1, repeat_of Is Ends to h.0 xs stop h.2)

  element_ends : (Is : ℕ → EncValue × ℕ → Type 0) (Ends : ℕ → ℕ → Type 0) → ((at : ℕ) (r : EncValue × ℕ) → Is at r → Ends at r.1) → (at : ℕ) (r : Element × ℕ) → IsElement bytes sizes Is at r → ElementEnds bytes Ends at r.1
  element_ends Is Ends to at r h = record { name = r.0.name; mid = h.mid; is_name = h.name; ends = to h.mid (r.0.value, r.1) h.value }

  layer_ends : (Is : ℕ → EncValue × ℕ → Type 0) (Ends : ℕ → ℕ → Type 0) → ((at : ℕ) (r : EncValue × ℕ) → Is at r → Ends at r.1) → (at : ℕ) (r : EncValue × ℕ) → IsValueIn bytes sizes Is at r → EndsWith bytes Ends at r.1
  layer_ends Is Ends to at r (defs.Number few tag low h is) = places.Scalar tag (omega (arith, low)) (ap (λ (x : EncValue × ℕ). x.1) is ∙ omega (arith, h.many))
  layer_ends Is Ends to at r (defs.Name few tag high low h below is) = places.Scalar tag low (ap (λ (x : EncValue × ℕ). x.1) is ∙ omega (arith, h.many))
  layer_ends Is Ends to at r (defs.Array items stop tag e h is) = subst (EndsWith bytes Ends at) (sym (ap (λ (x : EncValue × ℕ). x.1) is))
      (places.Array (length items) h.begin tag e h.count (repeat_of Is Ends to h.begin items stop h.are))
  layer_ends Is Ends to at r (defs.Annotation note stop tag e h is) = subst (EndsWith bytes Ends at) (sym (ap (λ (x : EncValue × ℕ). x.1) is))
      (places.Note (length h.elements) h.begin tag e (record { kind = h.class; mid = h.mid; is_kind = h.is_class; is_count = h.count })
      (repeat_of (IsElement bytes sizes Is) (ElementEnds bytes Ends) (element_ends Is Ends to) h.begin h.elements stop h.are))
  layer_ends Is Ends to at r (defs.Null tag e is) = places.Tag tag (omega (arith, e)) (ap (λ (x : EncValue × ℕ). x.1) is)
  layer_ends Is Ends to at r (defs.Boolean tag e is) = places.Tag tag (omega (arith, e)) (ap (λ (x : EncValue × ℕ). x.1) is)

  value_ends : (depth at : ℕ) (r : EncValue × ℕ) → IsValue bytes sizes depth at r → EndsIn bytes depth at r.1
  value_ends zero at r h = absurd h
  value_ends (suc depth) at r h = layer_ends (IsValue bytes sizes depth) (EndsIn bytes depth) (value_ends depth) at r h

  pub ends_of : (depth at : ℕ) (r : EncValue × ℕ) → IsValue bytes sizes depth at r → places.Ends bytes at r.1
  ends_of depth at r h = record { depth = depth; ends = value_ends depth at r h }

-- ---- entries one behind another, with what stands before each

pub repeat_more : (Ends : ℕ → ℕ → Type 0) (n at mid stop : ℕ) → Repeat Ends n at mid → Ends mid stop → Repeat Ends (suc n) at stop
repeat_more Ends zero at mid stop h e = (stop, subst (λ (k : ℕ). Ends k stop) h e, refl)
repeat_more Ends (suc n) at mid stop h e = (h.0, h.1, repeat_more Ends n h.0 mid stop h.2 e)

fails_along : {X F : Type 0} {Has : F → Type 0} (f : ℕ → ℕ × ℕ → Result (X × (ℕ × ℕ)) F) (Ends : ℕ → ℕ → Type 0) → ((i : ℕ) (s : ℕ × ℕ) (x : X × (ℕ × ℕ)) → f i s ≡ Ok x → Ends s.0 x.1.0) → (total begin : ℕ)
    → ((place : ℕ) (s : ℕ × ℕ) → place < total → Repeat Ends place begin s.0 → Fails Has (f place s)) → (from n : ℕ) (s : ℕ × ℕ) → from + n ≡ total → Repeat Ends from begin s.0 → Fails Has (run f from n s)
fails_along f Ends to total begin each from zero s all behind = sound ([], s)
fails_along f Ends to total begin each from (suc n) s all behind = fails_next (each from s (omega (arith, all)) behind) (λ x h.
    fails_next (fails_along f Ends to total begin each (suc from) n x.1 (omega (arith, all)) (repeat_more Ends from begin s.0 x.1.0 behind (to from s x h))) (λ xs _. sound (x.0 ∷ xs.0, xs.1)))

-- ---- numbers and bytes of values

module _ (bytes : List ℕ) where
  fails_byte : (at : ℕ) → IsPlaced bytes (Bytes at 1) → Fails (IsJustPool bytes) (byte_at bytes at)
  unfolding byte_at
  fails_byte at placed = unless (pool.Short at) (λ no. BadPart (Bytes at 1) placed (let high = ltb-false at (length bytes) no in omega (arith, high), refl)) (λ _. sound (slice_index bytes at))

  fails_few : (at count : ℕ) → IsPlaced bytes (Bytes at (1 + count)) → Fails (IsJustPool bytes) (few_at bytes at count)
  unfolding few_at
  fails_few at count placed = unless (pool.Short at) (λ no. BadPart (Bytes at (1 + count)) placed (let high = leb-false (at + 1 + count) (length bytes) no in omega (arith, high), refl)) (λ _. sound (take count (drop (at + 1) bytes)))

  fails_number_index : (at size : ℕ) → IsPlaced bytes (Number at) → IsPlaced bytes (NumberIndexOf at size) → Fails (IsJustPool bytes) (number_index_at bytes at size)
  unfolding number_index_at
  fails_number_index at size number index = fails_next (fails_number bytes at number) (λ n h.
      unless (pool.Index at n.0 size) (λ no. BadPart (NumberIndexOf at size) index (n.0, n.1, (finds_number bytes at).found n h, ltb-false n.0 size no, refl)) (λ _. sound n))

-- the sizes of the tables that values name
pub record AreSizes (bytes : List ℕ) (sizes : TableSizes) : Type 0 where
  pub strings : HasSize bytes 56 sizes.strings
  pub types : HasSize bytes 64 sizes.types
  pub fields : HasSize bytes 80 sizes.fields
  pub methods : HasSize bytes 88 sizes.methods

module _ (bytes : List ℕ) (sizes : TableSizes) (are : AreSizes bytes sizes) where
  -- ---- an annotation without its visibility, in which values are read so deep

  -- what a reading of values gives where they stand in this note
  abbrev InNote : (ℕ × ℕ → Result (EncValue × (ℕ × ℕ)) PoolFault) → ℕ → Type 0
  InNote inner note = (s : ℕ × ℕ) → IsElementOf bytes note s.0 → Fails (IsJustPool bytes) (inner s)

  module _ (k : ℕ) (note : ℕ) (has : HasNote bytes note) (inside : InNote (value_at k bytes sizes) note) where
    fails_element : (count begin : ℕ) → NoteBegins bytes note count begin → (place : ℕ) (s : ℕ × ℕ) → place < count → Repeat (ElementEnds bytes (places.Ends bytes)) place begin s.0
        → Fails (IsJustPool bytes) (element_in (value_at k bytes sizes) bytes sizes place s)
    unfolding element_in
    fails_element count begin begins place s less behind =
        let stands : ElementStands bytes note place s.0 = record { count = count; begin = begin; begins = begins; inside = less; behind = behind } in
        fails_next (fails_spend bytes Items 1 s.1) (λ left _.
        fails_next (fails_number_index bytes s.0 sizes.strings (placed.Values (ElementText note place s.0 has stands)) (placed.Values (ElementIndex note place s.0 sizes.strings has stands are.strings))) (λ name h.
        fails_next (inside (name.1, left) (places.Element place s.0 name.0 stands ((founds_index bytes s.0 sizes.strings).found name h).is)) (λ v _.
        sound (record { name = name.0; value = v.0 }, v.1))))

    element_read : (i : ℕ) (s : ℕ × ℕ) (x : Element × (ℕ × ℕ)) → element_in (value_at k bytes sizes) bytes sizes i s ≡ Ok x → ElementEnds bytes (places.Ends bytes) s.0 x.1.0
    element_read i s x h = element_ends bytes sizes (IsValue bytes sizes k) (places.Ends bytes) (ends_of bytes sizes k) s.0 (x.0, x.1.0)
        ((founds_element bytes sizes (IsValue bytes sizes k) (value_at k bytes sizes) (founds_value bytes sizes k) i s).found x h)

    -- two elements out of order, where they stand
    record TwoElements (x y : Element) (a b : ℕ) : Type 0 where
      p : ℕ
      q : ℕ
      first : IsUlebAt bytes a (x.name, p)
      second : IsUlebAt bytes b (y.name, q)

    abbrev Elements : List Element → ℕ → ℕ → Type 0
    Elements xs at stop = ChainOf (IsElement bytes sizes (IsValue bytes sizes k)) at xs stop

    -- the element at this place of a chain, and where it begins
    record ElementAt (xs : List Element) (begin place : ℕ) (x : Element) : Type 0 where
      at : ℕ
      mid : ℕ
      behind : Repeat (ElementEnds bytes (places.Ends bytes)) place begin at
      name : IsUlebAt bytes at (x.name, mid)

    element_there : (xs : List Element) (begin stop place : ℕ) (x : Element) → Elements xs begin stop → slice_get xs place ≡ Some x → ElementAt xs begin place x
    element_there [] begin stop place x h e = absurd cc
    element_there (y ∷ ys) begin stop zero x h e = record { at = begin; mid = h.1.mid; behind = refl; name = subst (λ (z : Element). IsUlebAt bytes begin (z.name, h.1.mid)) (some_same y x e) h.1.name }
    element_there (y ∷ ys) begin stop (suc place) x h e =
        let r = element_there ys h.0 stop place x h.2 e in
        record { at = r.at; mid = r.mid; behind = (h.0, element_ends bytes sizes (IsValue bytes sizes k) (places.Ends bytes) (ends_of bytes sizes k) begin (y, h.0) h.1, r.behind); name = r.name }

    elements_order : (xs : List Element) (begin stop : ℕ) → NoteBegins bytes note (length xs) begin → Elements xs begin stop → (e : PoolFault) → NotAscends element_below table.Members xs e → IsJustPool bytes e
    elements_order xs begin stop begins chain e n =
        let a = element_there xs begin stop n.place n.x chain n.first in
        let b = element_there xs begin stop (suc n.place) n.y chain n.second in
        let short : suc n.place < length xs = got_short xs (suc n.place) n.y n.second in
        subst (IsJustPool bytes) (sym n.is) (BadOrder (faults.Elements note n.place a.at b.at n.x.name n.y.name a.mid b.mid has
        (record { count = length xs; begin = begin; begins = begins; inside = omega (arith, short); behind = a.behind })
        (record { count = length xs; begin = begin; begins = begins; inside = short; behind = b.behind }) a.name b.name (ltb-false n.x.name n.y.name n.not_below) refl))

    pub fails_note : (left : ℕ) → Fails (IsJustPool bytes) (note_in (value_at k bytes sizes) bytes sizes (note, left))
    unfolding note_in
    fails_note left =
        fails_next (fails_number_index bytes note sizes.types (placed.Values (NoteType note has)) (placed.Values (NoteIndex note sizes.types has are.types))) (λ class h1.
        let is_class = ((founds_index bytes note sizes.types).found class h1).is in
        fails_next (fails_number bytes class.1 (placed.Values (NoteCount note class.0 class.1 has is_class))) (λ count h2.
        let is_count = (finds_number bytes class.1).found count h2 in
        let begins : NoteBegins bytes note count.0 count.1 = record { kind = class.0; mid = class.1; is_kind = is_class; is_count = is_count } in
        fails_next (fails_along (element_in (value_at k bytes sizes) bytes sizes) (ElementEnds bytes (places.Ends bytes)) element_read count.0 count.1 (fails_element count.0 count.1 begins) 0 count.0 (count.1, left) (omega arith) refl) (λ elements h3.
        let are_elements = (founds_run (λ i s r. IsElement bytes sizes (IsValue bytes sizes k) s.0 (r.0, r.1.0)) (element_in (value_at k bytes sizes) bytes sizes)
        (founds_element bytes sizes (IsValue bytes sizes k) (value_at k bytes sizes) (founds_value bytes sizes k)) 0 count.0 (count.1, left)).found elements h3 in
        fails_next (fails_more (elements_order elements.0 count.1 elements.1.0 (subst (λ n. NoteBegins bytes note n count.1) (sym are_elements.0) begins)
        (chain_of (IsElement bytes sizes (IsValue bytes sizes k)) 0 (count.1, left) elements.0 elements.1 are_elements.1)) (fails_ascending element_below table.Members elements.0)) (λ order _.
        sound (roll-Note (record { class = class.0; elements = elements.0 }), elements.1)))))

  -- ---- values

  tag_known : (at tag : ℕ) → byte_at bytes at ≡ Ok tag → (at < length bytes) × (tag ≡ slice_index bytes at)
  tag_known at tag h = let b = (founds_byte bytes at).found tag h in (b.inside, b.is)

  other_no : (kind n : ℕ) → (kind == n) ≡ false → kind ≡ n → ⊥
  other_no kind n g is = true≢false (sym (eq-eqb kind n is) ∙ g)

  names_by : (at kind : ℕ) → 23 ≤ kind → kind < 28 → tag_at bytes at ≡ kind → (a b c d : Bool) → (kind == 23) ≡ a → (kind == 24) ≡ b → (kind == 26) ≡ c → (kind == 25) ≡ d
      → (header : ℕ) × NamesIn (tag_at bytes at) header × HasSize bytes header (cond a sizes.strings (cond b sizes.types (cond c sizes.methods sizes.fields)))
  names_by at kind high low e true b c d ea eb ec ed = (56, faults.AString (e ∙ eqb-true kind 23 ea) refl, are.strings)
  names_by at kind high low e false true c d ea eb ec ed = (64, faults.AType (e ∙ eqb-true kind 24 eb) refl, are.types)
  names_by at kind high low e false false true d ea eb ec ed = (88, faults.AMethod (e ∙ eqb-true kind 26 ec) refl, are.methods)
  names_by at kind high low e false false false true ea eb ec ed = (80, faults.AField (e ∙ eqb-true kind 25 ed) refl, are.fields)
  names_by at kind high low e false false false false ea eb ec ed =
      (80, faults.AnEnum (e ∙ omega (arith, high, low, other_no kind 23 ea, other_no kind 24 eb, other_no kind 26 ec, other_no kind 25 ed)) refl, are.fields)

  named : (at : ℕ) → 23 ≤ tag_at bytes at → tag_at bytes at < 28 → (header : ℕ) × NamesIn (tag_at bytes at) header × HasSize bytes header (size_for sizes (tag_at bytes at))
  named at high low = names_by at (tag_at bytes at) high low refl (tag_at bytes at == 23) (tag_at bytes at == 24) (tag_at bytes at == 26) (tag_at bytes at == 25) refl refl refl refl

  module _ (depth at : ℕ) (has : HasValue bytes depth at) (tag : HasTag bytes at) where
    few_placed : tag_at bytes at < 28 → IsPlaced bytes (Bytes at (1 + (argument_at bytes at + 1)))
    few_placed low = let same : 1 + (argument_at bytes at + 1) ≡ 2 + argument_at bytes at = omega arith in
        subst (λ n. IsPlaced bytes (Bytes at n)) (sym same) (placed.Values (ValueBytes depth at has tag low))

    number_behind : (few : List ℕ) → few_at bytes at (argument_at bytes at + 1) ≡ Ok few → NumberBehind bytes at (zero_extended w32 few)
    number_behind few h = let is = (founds_few bytes at (argument_at bytes at + 1)).found few h in record {
      inside = let inside = is.here.inside in let many = is.many in omega (arith, inside, many);
      is = ap (zero_extended w32) (sym is.here.is ∙ ap (λ n. take n (drop (at + 1) bytes)) is.many);
    }

    fails_scalar : tag_at bytes at < 28 → Fails (IsJustPool bytes) (scalar_at bytes sizes at (tag_at bytes at) (argument_at bytes at + 1))
    unfolding scalar_at
    fails_scalar low = fails_next (fails_few bytes at (argument_at bytes at + 1) (few_placed low)) (λ few h. fails_either (λ _. sound (numeric (tag_at bytes at) few)) (λ high.
        let n = zero_extended w32 few in let size = size_for sizes (tag_at bytes at) in let names = named at (ltb-false (tag_at bytes at) 23 high) low in
        unless (pool.Index at n size) (λ no. BadValues (faults.NamesNone depth at names.0 n size has tag names.1 (number_behind few h) names.2 (ltb-false n size no) refl)) (λ _. sound (naming (tag_at bytes at) n))))

    module _ (k : ℕ) (inner : (s : ℕ × ℕ) → IsInside bytes at s.0 → Fails (IsJustPool bytes) (value_at k bytes sizes s)) where
      fails_array : (left : ℕ) → tag_at bytes at ≡ 28 → Fails (IsJustPool bytes) (array_in (value_at k bytes sizes) bytes (at + 1, left))
      unfolding array_in
      fails_array left e = fails_next (fails_number bytes (at + 1) (placed.Values (ItemCount depth at has tag e))) (λ count h.
          let is_count = (finds_number bytes (at + 1)).found count h in
          fails_along (counted (value_at k bytes sizes)) (places.Ends bytes)
          (λ i s x g. ends_of bytes sizes k s.0 (x.0, x.1.0) ((founds_counted bytes sizes (IsValue bytes sizes k) (value_at k bytes sizes) (founds_value bytes sizes k) i s).found x g)) count.0 count.1
          (λ place s less behind. fails_next (fails_spend bytes Items 1 s.1) (λ rest _. inner (s.0, rest) (places.OfArray place tag e (places.Item count.0 count.1 is_count less behind))))
          0 count.0 (count.1, left) (omega arith) refl)

      tag_small : tag_at bytes at < 32
      tag_small = omega arith

      fails_kind : (left : ℕ) → Fails (IsJustPool bytes) (of_kind (value_at k bytes sizes) bytes sizes (at, left) (tag_at bytes at) (argument_at bytes at))
      fails_kind left = fails_either
          (λ a. fails_next (fails_array left (eqb-true (tag_at bytes at) 28 a)) (λ r _. sound (value.Array r.0, r.1)))
          (λ a. fails_either
          (λ b. let e = eqb-true (tag_at bytes at) 29 b in
          fails_next (fails_note k (at + 1) (placed.OfValue depth at has tag e refl) (λ s el. inner s (places.OfNote tag e el)) left) (λ r _. sound (value.Annotation r.0, r.1)))
          (λ b. fails_either (λ c. sound (value.Null, (at + 1, left)))
          (λ c. fails_either (λ d. sound (value.Bool (argument_at bytes at == 1), (at + 1, left)))
          (λ d. fails_next (fails_scalar (omega (arith, tag_small, other_no (tag_at bytes at) 28 a, other_no (tag_at bytes at) 29 b, other_no (tag_at bytes at) 30 c, other_no (tag_at bytes at) 31 d)))
          (λ v _. sound (v, (at + 1 + (argument_at bytes at + 1), left)))))))

  fails_layer : (depth k : ℕ) (s : ℕ × ℕ) → HasValue bytes depth s.0 → ((t : ℕ × ℕ) → IsInside bytes s.0 t.0 → Fails (IsJustPool bytes) (value_at k bytes sizes t)) → Fails (IsJustPool bytes) (value_in (value_at k bytes sizes) bytes sizes s)
  unfolding value_in
  fails_layer depth k s has inner = fails_next (fails_byte bytes s.0 (placed.Values (ValueTag depth s.0 has))) (λ tag h.
      let is = tag_known s.0 tag h in
      unless (pool.BadValue s.0) (λ no. BadValues (faults.NoTag depth s.0 has is.0 (subst (λ (t : ℕ). is_within (t / 32) (most_argument (t % 32)) ≡ false) is.1 no) refl))
      (λ yes. subst (λ (t : ℕ). Fails (IsJustPool bytes) (of_kind (value_at k bytes sizes) bytes sizes s (t % 32) (t / 32))) (sym is.1)
      (fails_kind depth s.0 has (is.0, subst (λ (t : ℕ). is_within (t / 32) (most_argument (t % 32)) ≡ true) is.1 yes) k inner s.1)))

  deeper : (depth outer inner : ℕ) → HasValue bytes depth outer → IsInside bytes outer inner → HasValue bytes (suc depth) inner
  deeper zero outer inner h i = absurd h
  deeper (suc d) outer inner h i = (outer, h, i)

  pub fails_value : (k depth : ℕ) → depth + k ≡ 65 → (s : ℕ × ℕ) → HasValue bytes depth s.0 → Fails (IsJustPool bytes) (value_at k bytes sizes s)
  fails_value zero depth e s has = let deep : depth ≡ 65 = omega (arith, e) in
      fails_with (pool.Deep s.0) (BadValues (faults.TooDeep s.0 (subst (λ d. HasValue bytes d s.0) deep has) refl))
  fails_value (suc k) depth e s has = fails_layer depth k s has (λ t inside. fails_value k (suc depth) (omega (arith, e)) t (deeper depth s.0 t.0 has inside))

  -- ---- annotations

  fails_mark : (at left : ℕ) → HasMark bytes at → Fails (IsJustPool bytes) (mark_at bytes sizes at left)
  unfolding mark_at whole_note_at
  fails_mark at left has = fails_next (fails_byte bytes at (placed.Annotations (MarkHead at has))) (λ visibility _.
      fails_next (fails_note 64 (at + 1) (placed.OfMark at has refl) (λ s el. fails_value 64 1 (omega arith) s (places.OfMark at has el)) left) (λ note _.
      sound (record { visibility = visibility; note = note.0 }, note.1.1)))

  -- a count of so many entries of four bytes, which are there
  record IsCount (at n : ℕ) : Type 0 where
    is : Is32 bytes at n
    inside : at + 4 + 4 * n ≤ length bytes

  counts : (at : ℕ) → Founds (IsCount at) (count_at bytes at 4)
  unfolding count_at
  counts at = weaker (count_at bytes at 4) (next (known (finds_word bytes at)) (λ n _. when _ (done n))) (λ y q. subst (IsCount at) (sym q.2.1) (record { is = q.1; inside = leb-true _ _ q.2.0 }))

  fails_four : (at : ℕ) → IsPlaced bytes (Bytes at 4) → ((count : ℕ) → Is32 bytes at count → IsPlaced bytes (Bytes at (4 + 4 * count))) → Fails (IsJustPool bytes) (count_at bytes at 4)
  unfolding count_at
  fails_four at head whole = fails_next (fails_lifted of_base (fails_by (u32_at bytes at) (is_32 bytes at) (short_just bytes at 4 head))) (λ count h.
      unless (pool.Short at) (λ no. BadPart (Bytes at (4 + 4 * count)) (whole count ((finds_word bytes at).found count h)) (let less = leb-false (at + 4 + 4 * count) (length bytes) no in omega (arith, less), refl))
      (λ _. sound count))

  listed : (at count i offset : ℕ) → IsCount at count → i < count → Is32 bytes (at + 4 + 4 * i) offset → ListedAt bytes at i offset
  listed at count i offset c less is = record { count = count; is_count = c.is; inside = less; is = is }

  fails_listed : (at count i : ℕ) → IsCount at count → i < count → {Has : PoolFault → Type 0} → Fails Has (word_at bytes (at + 4 + 4 * i))
  fails_listed at count i c less = fails_word bytes (at + 4 + 4 * i) (let all = c.inside in omega (arith, all, less))

  fails_marked : (at count i left : ℕ) → HasSet bytes at → IsCount at count → i < count → Fails (IsJustPool bytes) (marked_at bytes sizes at i left)
  unfolding marked_at
  fails_marked at count i left has c less = fails_next (fails_spend bytes Items 1 left) (λ rest _. fails_next (fails_listed at count i c less) (λ offset h.
      fails_mark offset rest (record { set = at; has = has; i = i; listed = listed at count i offset c less ((finds_word bytes (at + 4 + 4 * i)).found offset h) })))

  class_of : (m : Mark) (at i : ℕ) → (h : IsMarkOf bytes sizes at i m) → (mid : ℕ) × IsUlebAt bytes (h.offset + 1) ((out-Note m.note).class, mid)
  class_of m at i h = let n = h.is_mark.note in
      (n.mid, subst (λ (k : ℕ). IsUlebAt bytes (h.offset + 1) (k, n.mid)) (sym (ap (λ (x : Note). (out-Note x).class) n.is ∙ ap (λ (x : Note-F EncValue Element Note). x.class) (out-roll-Note (record { class = n.class; elements = n.elements })))) n.is_class)

  marks_order : (at count : ℕ) (marks : List Mark) → HasSet bytes at → IsCount at count → length marks ≡ count → Each (IsMarkOf bytes sizes at) 0 marks → (e : PoolFault) → NotAscends mark_below table.Members marks e → IsJustPool bytes e
  marks_order at count marks has c long each e n =
      let a = each_at (IsMarkOf bytes sizes at) marks n.place n.x each n.first in
      let b = each_at (IsMarkOf bytes sizes at) marks (suc n.place) n.y each n.second in
      let short : suc n.place < length marks = got_short marks (suc n.place) n.y n.second in
      let x = class_of n.x at n.place a in
      let y = class_of n.y at (suc n.place) b in
      subst (IsJustPool bytes) (sym n.is) (BadOrder (faults.Marks at n.place a.offset b.offset (out-Note n.x.note).class (out-Note n.y.note).class x.0 y.0 has
      (listed at count n.place a.offset c (omega (arith, short, long)) a.is) (listed at count (suc n.place) b.offset c (omega (arith, short, long)) b.is) x.1 y.1 (ltb-false (out-Note n.x.note).class (out-Note n.y.note).class n.not_below) refl))

  pub fails_marks : (at left : ℕ) → HasSet bytes at → Fails (IsJustPool bytes) (marks_at bytes sizes at left)
  unfolding marks_at
  fails_marks at left has = fails_next (fails_four at (placed.Annotations (SetCount at has)) (λ count is. placed.Annotations (SetWhole at count has is))) (λ count h.
      let c = (counts at).found count h in
      fails_next (fails_run (marked_at bytes sizes at) 0 count left (λ i s less. fails_marked at count i s has c (omega (arith, less)))) (λ marks g.
      let r = (founds_run (λ i s y. IsMarkOf bytes sizes at i y.0) (marked_at bytes sizes at) (founds_marked bytes sizes at) 0 count left).found marks g in
      fails_next (fails_more (marks_order at count marks.0 has c r.0 (each_of (IsMarkOf bytes sizes at) 0 left marks.0 marks.1 r.1)) (fails_ascending mark_below table.Members marks.0)) (λ order _. sound marks)))

  positive_of : (n : ℕ) → (n == 0) ≡ false → 0 < n
  positive_of zero e = absurd cc
  positive_of (suc n) e = omega arith

  fails_parameter : (at count i left : ℕ) → HasRefs bytes at → IsCount at count → i < count → Fails (IsJustPool bytes) (parameter_at bytes sizes at i left)
  unfolding parameter_at
  fails_parameter at count i left has c less = fails_next (fails_spend bytes Items 1 left) (λ rest _. fails_next (fails_listed at count i c less) (λ offset h.
      fails_either (λ e. sound ([], rest)) (λ e. fails_marks offset rest
      (places.OfParameter at i offset has (listed at count i offset c less ((finds_word bytes (at + 4 + 4 * i)).found offset h)) (positive_of offset e, refl)))))

  pub fails_parameters : (at left : ℕ) → HasRefs bytes at → Fails (IsJustPool bytes) (parameters_marks_at bytes sizes at left)
  unfolding parameters_marks_at
  fails_parameters at left has = fails_next (fails_four at (placed.Annotations (RefsCount at has)) (λ count is. placed.Annotations (RefsWhole at count has is))) (λ count h.
      fails_run (parameter_at bytes sizes at) 0 count left (λ i s less. fails_parameter at count i s has ((counts at).found count h) (omega (arith, less))))
