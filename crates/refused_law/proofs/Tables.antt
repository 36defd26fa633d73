-- A fault of strings, types and protos that is answered stands there.
use Rattle.std.proofs.Common.{◌≡◌, ◌≤◌, ◌<◌, ℕ, zero, suc, ◌+◌, ◌-◌, ◌*◌, false, ltb, leb, List, [], length, take, drop, Some, Result, Ok, Err, refl, sym, subst, ◌∙◌, arith}
use Rattle.std.specs.Prelude.{◌==◌, slice_get}
use Rattle.std.specs.Int.{w16, w32, from_le_bytes}
use Rattle.std.proofs.lemmas.Bool.{leb-false, ltb-false}
use Rattle.std.proofs.lemmas.Option.{slice_get-get_or}
use Rattle.lemmas.proofs.Bools.{neither_of}
use Rattle.lemmas.proofs.Lists.{got_short}
use Rattle.dex_base.specs.declared.descriptor.Descriptor.{Descriptor}
use Rattle.dex_base.specs.declared.fault.BaseFault.{BaseFault}
use Rattle.dex_base.specs.declared.fault.BaseFault.TheVariants as base
use Rattle.dex_base.specs.Decides.{Each}
use Rattle.dex_base.specs.Descriptor.{descriptor_of}
use Rattle.dex_base.specs.Grammar.{BadDescriptorIn, Wrong, Early}
use Rattle.dex_base.specs.Leb.{BadLeb, Ends, Long, uleb_at}
use Rattle.dex_base.specs.Mutf8.{BadTextAt, text_at}
use Rattle.dex_base.specs.Mutf8 as mutf8
use Rattle.dex_base.specs.Reading.{each}
use Rattle.dex_base.specs.Word.{Is32}
use Rattle.dex_base.proofs.Decides.{ok_is}
use Rattle.dex_base.proofs.DescriptorReading.{is_descriptor}
use Rattle.dex_base.proofs.LebReading.{is_uleb}
use Rattle.dex_base.proofs.Texts.{is_text}
use Rattle.program_model.specs.declared.limits.Counted.{Counted}
use Rattle.program_model.specs.declared.limits.Counted.TheVariants.{TextUnits}
use Rattle.dex_pools.specs.declared.fault.PoolFault.{PoolFault}
use Rattle.dex_pools.specs.declared.fault.PoolFault.TheVariants as pool
use Rattle.dex_pools.specs.declared.fault.Table.TheVariants as table
use Rattle.dex_pools.specs.declared.header.Extent.{Extent}
use Rattle.dex_pools.specs.declared.header.Extents.{Extents}
use Rattle.dex_pools.specs.Fault.{of_base}
use Rattle.dex_pools.specs.Items.{past, spend}
use Rattle.dex_pools.specs.Order.{list_below, ascends_in}
use Rattle.dex_pools.specs.PoolTables.{strings_at, types_at}
use Rattle.dex_pools.specs.Run.{run}
use Rattle.dex_pools.specs.Spelled.{IsExtent, AreExtents, IsString, IsType}
use Rattle.dex_pools.specs.Tables.{extent_at, extents_at, begin_of, string_at, text_of, placed as placed_fault, described, type_at}
use Rattle.dex_pools.specs.Word.{half_at, word_at, number_at, index_at, half_index_at}
use Rattle.dex_pools.proofs.Fields.{finds_word, finds_half, finds_index, finds_begin, finds_string}
use Rattle.dex_pools.proofs.Finding.{finds_each}
use Rattle.dex_pools.proofs.TableReading.{finds_type}
use Rattle.dex_defs.specs.Parts.{Bytes, Number, Units, IndexOf, HalfIndexOf}
use Rattle.dex_defs.specs.Places.{IsEntryAt}
use Rattle.dex_defs.specs.Placed.{IsPlaced, IsTableAt, TheTable, StringCount, StringText, TypeString}
use Rattle.dex_defs.specs.Placed as placed
use Rattle.dex_defs.specs.Faults.{HasText, HasTypeText}
use Rattle.dex_defs.specs.Faults as faults
use Rattle.dex_defs.specs.ClassFaults.{BadPart, BadPools, BadOrder}
use Rattle.file_laws.specs.Founds.{Founds}
use Rattle.file_laws.proofs.Founding.{known, weaker, done, next, founds_run}
use Rattle.file_laws.proofs.Bodies.{whatever}
use Rattle.spelled_law.proofs.Values.{each_of}
use Rattle.refused_law.specs.Just.{IsJustPool}
use Rattle.refused_law.proofs.Failing.{Fails, sound, fails_with, stands, unless, fails_next, fails_lifted, fails_more, fails_by, fails_each, fails_run, each_at, NotAscends, fails_ascending}

-- ---- numbers in a placed part

pub fails_word : (bytes : List ℕ) (at : ℕ) → at + 4 ≤ length bytes → {Has : PoolFault → Type 0} → Fails Has (word_at bytes at)
fails_word bytes at inside = stands (word_at bytes at) (finds_word bytes at) (from_le_bytes w32 (take 4 (drop at bytes))) (record { inside = inside; spelled = refl })

pub fails_half : (bytes : List ℕ) (at : ℕ) → at + 2 ≤ length bytes → {Has : PoolFault → Type 0} → Fails Has (half_at bytes at)
fails_half bytes at inside = stands (half_at bytes at) (finds_half bytes at) (from_le_bytes w16 (take 2 (drop at bytes))) (record { inside = inside; spelled = refl })

pub fails_index : (bytes : List ℕ) (at size : ℕ) → at + 4 ≤ length bytes → IsPlaced bytes (IndexOf at size) → Fails (IsJustPool bytes) (index_at bytes at size)
unfolding index_at
fails_index bytes at size inside placed = fails_next (fails_word bytes at inside) (λ n h.
    unless (pool.Index at n size) (λ no. BadPart (IndexOf at size) placed (n, (finds_word bytes at).found n h, ltb-false n size no, refl)) (λ _. sound n))

pub fails_half_index : (bytes : List ℕ) (at size : ℕ) → at + 2 ≤ length bytes → IsPlaced bytes (HalfIndexOf at size) → Fails (IsJustPool bytes) (half_index_at bytes at size)
unfolding half_index_at
fails_half_index bytes at size inside placed = fails_next (fails_half bytes at inside) (λ n h.
    unless (pool.Index at n size) (λ no. BadPart (HalfIndexOf at size) placed (n, (finds_half bytes at).found n h, ltb-false n size no, refl)) (λ _. sound n))

number_just : (bytes : List ℕ) (at : ℕ) → IsPlaced bytes (Number at) → (e : BaseFault) → BadLeb bytes at e → IsJustPool bytes (of_base e)
number_just bytes at placed e (Ends few on is) = subst (λ (x : BaseFault). IsJustPool bytes (of_base x)) (sym is) (BadPart (Number at) placed (base.Short at, Ends few on refl, refl))
number_just bytes at placed e (Long few on is) = subst (λ (x : BaseFault). IsJustPool bytes (of_base x)) (sym is) (BadPart (Number at) placed (base.LongLeb (at + 4), Long few on refl, refl))

pub fails_number : (bytes : List ℕ) (at : ℕ) → IsPlaced bytes (Number at) → Fails (IsJustPool bytes) (number_at bytes at)
fails_number bytes at placed = fails_lifted of_base (fails_by (uleb_at bytes at) (is_uleb bytes at) (number_just bytes at placed))

text_just : (bytes : List ℕ) (at units : ℕ) → IsPlaced bytes (Units at units) → (e : BaseFault) → BadTextAt bytes at units e → IsJustPool bytes (of_base e)
text_just bytes at units placed e (mutf8.Ends begins is) = subst (λ (x : BaseFault). IsJustPool bytes (of_base x)) (sym is) (BadPart (Units at units) placed (base.Short at, mutf8.Ends begins refl, refl))
text_just bytes at units placed e (mutf8.Wrong behind inside begins none is) =
    subst (λ (x : BaseFault). IsJustPool bytes (of_base x)) (sym is) (BadPart (Units at units) placed (base.BadText (at + behind), mutf8.Wrong behind inside begins none refl, refl))

pub fails_spend : (bytes : List ℕ) (counted : Counted) (count left : ℕ) → Fails (IsJustPool bytes) (spend counted count left)
unfolding spend
fails_spend bytes counted count left = unless (past counted) (λ _. tt) (λ _. sound (left - count))

-- ---- tables

module _ (bytes : List ℕ) (whole : 112 ≤ length bytes) where
  fails_extent : (at width : ℕ) → at + 8 ≤ 112 → IsTableAt at width → Fails (IsJustPool bytes) (extent_at bytes at width)
  unfolding extent_at
  fails_extent at width inside is = fails_next (fails_word bytes at (omega (arith, whole, inside))) (λ size h. fails_next (fails_word bytes (at + 4) (omega (arith, whole, inside))) (λ offset g.
      unless (pool.Short offset) (λ no. let p = neither_of (size == 0) (leb (offset + width * size) (length bytes)) no in
      BadPart (Bytes offset (width * size)) (placed.Tables (TheTable at width (record { size = size; offset = offset }) is
      (record { size = (finds_word bytes at).found size h; offset = (finds_word bytes (at + 4)).found offset g }) (some size p.0)))
      (leb-false (offset + width * size) (length bytes) p.1, refl)) (λ _. sound (record { size = size; offset = offset }))))
    where
      some : (n : ℕ) → (n == 0) ≡ false → 0 < n
      some zero e = absurd cc
      some (suc n) e = omega arith

  pub fails_extents : Fails (IsJustPool bytes) (extents_at bytes)
  unfolding extents_at
  fails_extents =
      fails_next (fails_extent 56 4 (omega arith) (placed.Strings refl refl)) (λ strings _.
      fails_next (fails_extent 64 4 (omega arith) (placed.Types refl refl)) (λ types _.
      fails_next (fails_extent 72 12 (omega arith) (placed.Protos refl refl)) (λ protos _.
      fails_next (fails_extent 80 8 (omega arith) (placed.Fields refl refl)) (λ fields _.
      fails_next (fails_extent 88 8 (omega arith) (placed.Methods refl refl)) (λ methods _.
      sound (record { strings = strings; types = types; protos = protos; fields = fields; methods = methods }))))))

pub entry_at : (bytes : List ℕ) (header width : ℕ) (x : Extent) → IsExtent bytes header width x → (i : ℕ) → i < x.size → IsEntryAt bytes header width i (x.offset + width * i)
entry_at bytes header width x h i inside = record { table = x; is = record { size = h.size; offset = h.offset }; inside = inside; place = refl }

-- ---- strings

module _ (bytes : List ℕ) (t : Extents) (stand : AreExtents bytes t) where
  string_inside : (i : ℕ) → i < t.strings.size → t.strings.offset + 4 * i + 4 ≤ length bytes
  string_inside i less = let all = stand.strings.inside (omega (arith, less)) in omega (arith, less, all)

  string_entry : (i : ℕ) → i < t.strings.size → IsEntryAt bytes 56 4 i (t.strings.offset + 4 * i)
  string_entry i less = entry_at bytes 56 4 t.strings stand.strings i less

  fails_begin : (i : ℕ) → i < t.strings.size → Fails (IsJustPool bytes) (begin_of bytes t.strings i)
  unfolding begin_of
  fails_begin i less = fails_next (fails_word bytes (t.strings.offset + 4 * i) (string_inside i less)) (λ at h.
      fails_number bytes at (placed.Tables (StringCount i (t.strings.offset + 4 * i) at (string_entry i less) ((finds_word bytes (t.strings.offset + 4 * i)).found at h))))

  fails_string : (i left : ℕ) → i < t.strings.size → Fails (IsJustPool bytes) (string_at bytes t.strings i left)
  unfolding string_at
  fails_string i left less = fails_next (fails_begin i less) (λ begin h.
      let is = (finds_begin bytes t.strings i).found begin h in
      fails_next (fails_spend bytes TextUnits begin.0 left) (λ behind _.
      fails_next (fails_lifted of_base (fails_by (text_at bytes begin.1 begin.0) (is_text bytes begin.1 begin.0)
      (text_just bytes begin.1 begin.0 (placed.Tables (StringText i (t.strings.offset + 4 * i) is.at begin.0 begin.1 (string_entry i less) is.offset is.units))))) (λ text _.
      sound (text.0, behind))))

  -- what is known of the strings that were read
  abbrev pub AreStrings : List (List ℕ) → Type 0
  AreStrings strings = (length strings ≡ t.strings.size) × Each (IsString bytes t.strings) 0 strings

  string_less : (strings : List (List ℕ)) → AreStrings strings → (i : ℕ) (text : List ℕ) → slice_get strings i ≡ Some text → i < t.strings.size
  string_less strings h i text at = let short = got_short strings i text at in omega (arith, short, h.0)

  is_string : (strings : List (List ℕ)) → AreStrings strings → (i : ℕ) (text : List ℕ) → slice_get strings i ≡ Some text → IsString bytes t.strings i text
  is_string strings h i text at = each_at (IsString bytes t.strings) strings i text h.1 at

  pub has_text : (strings : List (List ℕ)) → AreStrings strings → (i : ℕ) (text : List ℕ) → slice_get strings i ≡ Some text → (begin : ℕ) × HasText bytes i text begin
  has_text strings h i text at = let s = is_string strings h i text at in (
    s.begin.1,
    record {
      entry = t.strings.offset + 4 * i;
      offset = s.begins.at;
      units = s.begin.0;
      stop = s.stop;
      stands = string_entry i (string_less strings h i text at);
      is_offset = s.begins.offset;
      counted = s.begins.units;
      is_text = s.is_text;
    },
  )

  strings_order : (strings : List (List ℕ)) → AreStrings strings → (e : PoolFault) → NotAscends list_below table.Strings strings e → IsJustPool bytes e
  strings_order strings h e n =
      let a = has_text strings h n.place n.x n.first in
      let b = has_text strings h (suc n.place) n.y n.second in
      subst (IsJustPool bytes) (sym n.is) (BadOrder (faults.Strings n.place a.0 b.0 n.x n.y a.1 b.1 n.not_below refl))

  are_strings : (strings : List (List ℕ)) (rest : ℕ) → run (string_at bytes t.strings) 0 t.strings.size 16777216 ≡ Ok (strings, rest) → AreStrings strings
  are_strings strings rest h =
      let r = (founds_run (λ i s y. IsString bytes t.strings i y.0) (string_at bytes t.strings) (λ i s. record { found = λ y g. ((finds_string bytes t.strings i s).found y g).0 }) 0 t.strings.size 16777216).found (strings, rest) h in
      (r.0, each_of (IsString bytes t.strings) 0 16777216 strings rest r.1)

  pub fails_strings : Fails (IsJustPool bytes) (strings_at bytes t)
  unfolding strings_at
  fails_strings = fails_next (fails_run (string_at bytes t.strings) 0 t.strings.size 16777216 (λ i s less. fails_string i s (omega (arith, less)))) (λ strings h.
      fails_next (fails_more (strings_order strings.0 (are_strings strings.0 strings.1 h)) (fails_ascending list_below table.Strings strings.0)) (λ order _. sound strings.0))

  founds_strings : Founds AreStrings (strings_at bytes t)
  unfolding strings_at
  founds_strings = weaker (strings_at bytes t)
      (next (founds_run (λ i s y. IsString bytes t.strings i y.0) (string_at bytes t.strings) (λ i s. record { found = λ y g. ((finds_string bytes t.strings i s).found y g).0 }) 0 t.strings.size 16777216) (λ strings _.
      next (whatever (ascends_in list_below table.Strings strings.0)) (λ order _. done strings.0)))
      (λ y q. subst AreStrings (sym q.2.2) (q.1.0, each_of (IsString bytes t.strings) 0 16777216 q.0.0 q.0.1 q.1.1))

  pub strings_are : (strings : List (List ℕ)) → strings_at bytes t ≡ Ok strings → AreStrings strings
  strings_are strings h = founds_strings.found strings h

  -- ---- types

  module _ (strings : List (List ℕ)) (are : AreStrings strings) where
    type_inside : (i : ℕ) → i < t.types.size → t.types.offset + 4 * i + 4 ≤ length bytes
    type_inside i less = let all = stand.types.inside (omega (arith, less)) in omega (arith, less, all)

    type_entry : (i : ℕ) → i < t.types.size → IsEntryAt bytes 64 4 i (t.types.offset + 4 * i)
    type_entry i less = entry_at bytes 64 4 t.types stand.types i less

    pub text_there : (string : ℕ) → string < t.strings.size → slice_get strings string ≡ Some (text_of strings string)
    text_there string less = slice_get-get_or strings string [] (omega (arith, less, are.0))

    -- the text of the type of this number, where the number of its string is known
    pub type_text : (i string : ℕ) → i < t.types.size → Is32 bytes (t.types.offset + 4 * i) string → string < t.strings.size → (begin : ℕ) × HasTypeText bytes i (text_of strings string) begin
    type_text i string less is below =
        let text = has_text strings are string (text_of strings string) (text_there string below) in
        (text.0, record { entry = t.types.offset + 4 * i; string = string; stands = type_entry i less; is_string = is; has = text.1 })

    -- where the units begin, by what is read
    begin_same : (string : ℕ) (below : string < t.strings.size) (begin : ℕ × ℕ) → begin_of bytes t.strings string ≡ Ok begin → (is_string strings are string (text_of strings string) (text_there string below)).begin ≡ begin
    begin_same string below begin h =
        let s = is_string strings are string (text_of strings string) (text_there string below) in
        ok_is {F = PoolFault} s.begin begin (sym ((finds_begin bytes t.strings string).again s.begin s.begins) ∙ h)

    descriptor_just : (i string begin : ℕ) (text : List ℕ) → HasTypeText bytes i text begin → (e : BaseFault) → BadDescriptorIn text e → IsJustPool bytes (placed_fault begin text e)
    descriptor_just i string begin text has e (Wrong place inside begins none is) =
        subst (λ (x : BaseFault). IsJustPool bytes (placed_fault begin text x)) (sym is) (BadPools (faults.Descriptor i begin place text has (Wrong place inside begins none refl) refl))
    descriptor_just i string begin text has e (Early rest kind some describes is) =
        subst (λ (x : BaseFault). IsJustPool bytes (placed_fault begin text x)) (sym is) (BadPools (faults.Descriptor i begin (length text) text has (Early rest kind some describes refl) refl))

    fails_described : (i string : ℕ) → i < t.types.size → Is32 bytes (t.types.offset + 4 * i) string → string < t.strings.size → (read : Result Descriptor BaseFault) → ((e : BaseFault) → read ≡ Err e → BadDescriptorIn (text_of strings string) e)
        → Fails (IsJustPool bytes) (described bytes t.strings string (text_of strings string) read)
    unfolding is_string type_text has_text
    fails_described i string less is below (Ok kind) bad = sound string
    fails_described i string less is below (Err e) bad = fails_next (fails_begin string below) (λ begin h.
        let text = type_text i string less is below in
        let there : HasTypeText bytes i (text_of strings string) begin.1 = subst (λ (b : ℕ × ℕ). HasTypeText bytes i (text_of strings string) b.1) (begin_same string below begin h) text.1 in
        fails_with (placed_fault begin.1 (text_of strings string) e) (descriptor_just i string begin.1 (text_of strings string) there e (bad e refl)))

    fails_type : (i : ℕ) → i < t.types.size → Fails (IsJustPool bytes) (type_at bytes t strings i)
    unfolding type_at
    fails_type i less =
        fails_next (fails_index bytes (t.types.offset + 4 * i) t.strings.size (type_inside i less) (placed.Tables (TypeString i (t.types.offset + 4 * i) t.strings.size (type_entry i less) stand.strings.size))) (λ string h.
        let is = (finds_index bytes (t.types.offset + 4 * i) t.strings.size).found string h in
        fails_described i string less is.is is.below (descriptor_of (text_of strings string)) (λ e g. (is_descriptor (text_of strings string)).fault e g))

    abbrev pub AreTypes : List ℕ → Type 0
    AreTypes types = (length types ≡ t.types.size) × Each (IsType bytes t strings) 0 types

    type_less : (types : List ℕ) → AreTypes types → (i string : ℕ) → slice_get types i ≡ Some string → i < t.types.size
    type_less types h i string at = let short = got_short types i string at in omega (arith, short, h.0)

    types_order : (types : List ℕ) → AreTypes types → (e : PoolFault) → NotAscends ltb table.Types types e → IsJustPool bytes e
    types_order types h e n =
        let a = each_at (IsType bytes t strings) types n.place n.x h.1 n.first in
        let b = each_at (IsType bytes t strings) types (suc n.place) n.y h.1 n.second in
        subst (IsJustPool bytes) (sym n.is) (BadOrder (faults.Types n.place (t.types.offset + 4 * n.place) (t.types.offset + 4 * suc n.place) n.x n.y
        (type_entry n.place (type_less types h n.place n.x n.first)) (type_entry (suc n.place) (type_less types h (suc n.place) n.y n.second)) a.string.is b.string.is (ltb-false n.x n.y n.not_below) refl))

    are_types : (types : List ℕ) → each (type_at bytes t strings) 0 t.types.size ≡ Ok types → AreTypes types
    are_types types h = (finds_each (IsType bytes t strings) (type_at bytes t strings) (λ i. finds_type bytes t strings i) 0 t.types.size).found types h

    pub fails_types : Fails (IsJustPool bytes) (types_at bytes t strings)
    unfolding types_at
    fails_types = fails_next (fails_each (type_at bytes t strings) 0 t.types.size (λ i less. fails_type i (omega (arith, less)))) (λ types h.
        fails_next (fails_more (types_order types (are_types types h)) (fails_ascending ltb table.Types types)) (λ order _. sound types))

    founds_types : Founds AreTypes (types_at bytes t strings)
    unfolding types_at
    founds_types = weaker (types_at bytes t strings)
        (next (known (finds_each (IsType bytes t strings) (type_at bytes t strings) (λ i. finds_type bytes t strings i) 0 t.types.size)) (λ types _.
        next (whatever (ascends_in ltb table.Types types)) (λ order _. done types)))
        (λ y q. subst AreTypes (sym q.2.2) q.1)

    pub types_are : (types : List ℕ) → types_at bytes t strings ≡ Ok types → AreTypes types
    types_are types h = founds_types.found types h
