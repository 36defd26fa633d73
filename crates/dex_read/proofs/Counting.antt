-- Which limits the readings of tables, values and annotations may pass.
use Rattle.std.proofs.Common.{◌≡◌, ℕ, zero, suc, ◌+◌, ◌*◌, ◌/◌, ◌%◌, Bool, true, false, cond, ltb, IsTrue, List, [], ◌∷◌, Option, Some, None, Result, Ok, Err, IfErr, refl, sym, subst}
use Rattle.std.specs.Prelude.{◌==◌}
use Rattle.std.specs.Int.{w32}
use Rattle.dex_base.specs.declared.fault.BaseFault.{BaseFault}
use Rattle.dex_base.specs.declared.fault.BaseFault.TheVariants as base
use Rattle.dex_base.specs.declared.descriptor.Descriptor.{Descriptor}
use Rattle.dex_base.specs.Reading.{◌>>=◌, raise, each, Gives, FailsIf}
use Rattle.dex_base.specs.Word.{u16_at, u32_at}
use Rattle.dex_base.specs.Leb.{uleb_at}
use Rattle.dex_base.specs.Mutf8.{text_at}
use Rattle.dex_base.specs.Descriptor.{descriptor_of}
use Rattle.program_model.specs.declared.limits.Counted.{Counted}
use Rattle.program_model.specs.declared.limits.Counted.TheVariants.{TextUnits, Items}
use Rattle.program_model.specs.declared.value.EncValue.{EncValue}
use Rattle.program_model.specs.declared.value.EncValue.TheVariants as value
use Rattle.dex_pools.specs.declared.fault.PoolFault.{PoolFault}
use Rattle.dex_pools.specs.declared.fault.PoolFault.TheVariants as pool
use Rattle.dex_pools.specs.declared.fault.Table.{Table}
use Rattle.dex_pools.specs.declared.header.Extent.{Extent}
use Rattle.dex_pools.specs.declared.header.Extents.{Extents}
use Rattle.dex_pools.specs.declared.scalar.TableSizes.{TableSizes}
use Rattle.dex_pools.specs.Fault.{of_base, is_free}
use Rattle.dex_read.specs.Counts.{PassesInFile, PoolCounts, is_in_file}
use Rattle.dex_pools.specs.Run.{run}
use Rattle.dex_pools.specs.Word.{half_at, word_at, number_at, index_at, half_index_at}
use Rattle.dex_pools.specs.Items.{spend, count_at, listed_at, type_list_at}
use Rattle.dex_pools.specs.Order.{is_above, ascends_from, ascends_in}
use Rattle.dex_pools.specs.Tables.{extent_at, extents_at, begin_of, string_at, text_of, placed, described, type_at, parameters_at, proto_at, field_at, method_at}
use Rattle.dex_pools.specs.PoolTables.{strings_at, types_at, protos_at, fields_at, methods_at, pools_at}
use Rattle.dex_pools.specs.Value.{byte_at, few_at, number_index_at, is_within, numeric, naming, size_for, zero_extended, named_at, scalar_at, counted, array_in, element_in, note_in, of_kind, value_in, value_at, whole_value_at, whole_note_at}
use Rattle.dex_pools.specs.Marks.{mark_at, marked_at, marks_at, parameter_at, parameters_marks_at}

-- ---- each fault of a reading is such a one

pub record Fails {Y F : Type 0} (Is : F → Type 0) (read : Result Y F) : Type 0 where
  pub fault : IfErr read Is

pub fine : {Y F : Type 0} (Is : F → Type 0) (y : Y) → Fails Is (Ok y)
fine Is y = record { fault = tt }

pub fails : {Y F : Type 0} (Is : F → Type 0) (e : F) → Is e → Fails {Y = Y} Is (Err e)
fails Is e is = record { fault = is }

pub then : {X Y F : Type 0} {Is : F → Type 0} (read : Result X F) (f : X → Result Y F) → Fails Is read → ((x : X) → Fails Is (f x)) → Fails Is (read >>= f)
then (Ok x) f a b = b x
then (Err e) f a b = record { fault = a.fault }

pub guard : {Y F : Type 0} {Is : F → Type 0} (b : Bool) (x y : Result Y F) → Fails Is x → Fails Is y → Fails Is (cond b x y)
guard true x y a c = a
guard false x y a c = c

pub raised : {Y F G : Type 0} {Is : G → Type 0} (up : F → G) (read : Result Y F) → ((e : F) → Is (up e)) → Fails Is (raise up read)
raised up (Ok y) h = record { fault = tt }
raised up (Err e) h = record { fault = h e }

pub fails_each : {X F : Type 0} {Is : F → Type 0} (f : ℕ → Result X F) → ((i : ℕ) → Fails Is (f i)) → (from n : ℕ) → Fails Is (each f from n)
fails_each {Is = Is} f h from zero = fine Is []
fails_each {Is = Is} f h from (suc n) =
    then (f from) (λ x. each f (suc from) n >>= λ xs. Ok (x ∷ xs)) (h from) (λ x.
    then (each f (suc from) n) (λ xs. Ok (x ∷ xs)) (fails_each f h (suc from) n) (λ xs. fine Is (x ∷ xs)))

pub fails_run : {X S F : Type 0} {Is : F → Type 0} (f : ℕ → S → Result (X × S) F) → ((i : ℕ) (s : S) → Fails Is (f i s)) → (from n : ℕ) (s : S) → Fails Is (run f from n s)
fails_run {Is = Is} f h from zero s = fine Is ([], s)
fails_run {Is = Is} f h from (suc n) s =
    then (f from s) (λ x. run f (suc from) n x.1 >>= λ xs. Ok (x.0 ∷ xs.0, xs.1)) (h from s) (λ x.
    then (run f (suc from) n x.1) (λ xs. Ok (x.0 ∷ xs.0, xs.1)) (fails_run f h (suc from) n x.1) (λ xs. fine Is (x.0 ∷ xs.0, xs.1)))

-- ---- of tables, values and annotations

abbrev pub Counts : {Y : Type 0} → Result Y PoolFault → Type 0
Counts read = Fails PoolCounts read

counts_base : (b : BaseFault) → PoolCounts (of_base b)
counts_base base.NoMemory = tt
counts_base (base.Short at) = tt
counts_base (base.LongLeb at) = tt
counts_base (base.BadText at) = tt
counts_base (base.BadDescriptor at) = tt

counts_word : (bytes : List ℕ) (at : ℕ) → Counts (word_at bytes at)
counts_word bytes at = raised of_base (u32_at bytes at) counts_base

counts_half : (bytes : List ℕ) (at : ℕ) → Counts (half_at bytes at)
counts_half bytes at = raised of_base (u16_at bytes at) counts_base

counts_number : (bytes : List ℕ) (at : ℕ) → Counts (number_at bytes at)
counts_number bytes at = raised of_base (uleb_at bytes at) counts_base

counts_index : (bytes : List ℕ) (at size : ℕ) → Counts (index_at bytes at size)
unfolding index_at
counts_index bytes at size = then _ _ (counts_word bytes at) (λ n. guard _ _ _ (fine _ _) (fails _ _ tt))

counts_half_index : (bytes : List ℕ) (at size : ℕ) → Counts (half_index_at bytes at size)
unfolding half_index_at
counts_half_index bytes at size = then _ _ (counts_half bytes at) (λ n. guard _ _ _ (fine _ _) (fails _ _ tt))

pub counts_spend : (counted : Counted) (count left : ℕ) → IsTrue (is_in_file counted) → Counts (spend counted count left)
unfolding spend
counts_spend counted count left h = guard _ _ _ (fine _ _) (fails _ _ (record { counted = h; number = refl }))

counts_count : (bytes : List ℕ) (at width : ℕ) → Counts (count_at bytes at width)
unfolding count_at
counts_count bytes at width = then _ _ (counts_word bytes at) (λ n. guard _ _ _ (fine _ _) (fails _ _ tt))

counts_ascends : {X : Type 0} (below : X → X → Bool) (table : Table) (before : Option X) (place : ℕ) (xs : List X)
    → Counts (ascends_from below table before place xs)
counts_ascends below table before place [] = fine _ _
counts_ascends below table before place (x ∷ xs) = guard _ _ _ (counts_ascends below table (Some x) (suc place) xs) (fails _ _ tt)

-- ---- lists of types

counts_listed : (bytes : List ℕ) (at size i left : ℕ) → Counts (listed_at bytes at size i left)
unfolding listed_at
counts_listed bytes at size i left = then _ _ (counts_spend Items 1 left refl) (λ behind. then _ _ (counts_half_index bytes _ size) (λ kind. fine _ _))

pub counts_type_list : (bytes : List ℕ) (at size left : ℕ) → Counts (type_list_at bytes at size left)
unfolding type_list_at
counts_type_list bytes at size left = then _ _ (counts_count bytes at 2) (λ count. fails_run _ (counts_listed bytes at size) 0 count left)

-- ---- values

counts_byte : (bytes : List ℕ) (at : ℕ) → Counts (byte_at bytes at)
unfolding byte_at
counts_byte bytes at = guard _ _ _ (fine _ _) (fails _ _ tt)

counts_number_index : (bytes : List ℕ) (at size : ℕ) → Counts (number_index_at bytes at size)
unfolding number_index_at
counts_number_index bytes at size = then _ _ (counts_number bytes at) (λ n. guard _ _ _ (fine _ _) (fails _ _ tt))

counts_few : (bytes : List ℕ) (at count : ℕ) → Counts (few_at bytes at count)
unfolding few_at
counts_few bytes at count = guard _ _ _ (fine _ _) (fails _ _ tt)

abbrev ok : EncValue → Result EncValue PoolFault
ok v = Ok v

counts_named : (sizes : TableSizes) (at kind n : ℕ) → Counts (named_at sizes at kind n)
counts_named sizes at kind n = guard (ltb n (size_for sizes kind)) (ok (naming kind n)) (Err (pool.Index at n (size_for sizes kind))) (fine _ _) (fails _ _ tt)

counts_scalar : (bytes : List ℕ) (sizes : TableSizes) (at kind count : ℕ) → Counts (scalar_at bytes sizes at kind count)
unfolding scalar_at
counts_scalar bytes sizes at kind count =
    then (few_at bytes at count) (λ few. cond (ltb kind 23) (ok (numeric kind few)) (named_at sizes at kind (zero_extended w32 few))) (counts_few bytes at count) (λ few.
    guard (ltb kind 23) (ok (numeric kind few)) (named_at sizes at kind (zero_extended w32 few)) (fine _ _) (counts_named sizes at kind (zero_extended w32 few)))

abbrev Inner : Type 0
Inner = ℕ × ℕ → Result (EncValue × (ℕ × ℕ)) PoolFault

counts_array : (inner : Inner) (bytes : List ℕ) (s : ℕ × ℕ) → ((t : ℕ × ℕ) → Counts (inner t)) → Counts (array_in inner bytes s)
unfolding array_in
counts_array inner bytes s h = then _ _ (counts_number bytes s.0) (λ count.
    fails_run _ (λ i t. then _ _ (counts_spend Items 1 t.1 refl) (λ behind. h (t.0, behind))) 0 count.0 (count.1, s.1))

counts_element : (inner : Inner) (bytes : List ℕ) (sizes : TableSizes) (i : ℕ) (s : ℕ × ℕ) → ((t : ℕ × ℕ) → Counts (inner t)) → Counts (element_in inner bytes sizes i s)
unfolding element_in
counts_element inner bytes sizes i s h = then _ _ (counts_spend Items 1 s.1 refl) (λ behind.
    then _ _ (counts_number_index bytes s.0 sizes.strings) (λ name.
    then _ _ (h (name.1, behind)) (λ v. fine _ _)))

counts_note : (inner : Inner) (bytes : List ℕ) (sizes : TableSizes) (s : ℕ × ℕ) → ((t : ℕ × ℕ) → Counts (inner t)) → Counts (note_in inner bytes sizes s)
unfolding note_in
counts_note inner bytes sizes s h = then _ _ (counts_number_index bytes s.0 sizes.types) (λ class.
    then _ _ (counts_number bytes class.1) (λ count.
    then _ _ (fails_run _ (λ i t. counts_element inner bytes sizes i t h) 0 count.0 (count.1, s.1)) (λ elements.
    then _ _ (counts_ascends _ _ _ 0 elements.0) (λ order. fine _ _))))

abbrev one : EncValue → ℕ × ℕ → Result (EncValue × (ℕ × ℕ)) PoolFault
one v s = Ok (v, s)

abbrev or_bool : List ℕ → TableSizes → ℕ × ℕ → ℕ → ℕ → Result (EncValue × (ℕ × ℕ)) PoolFault
or_bool bytes sizes s kind argument =
    cond (kind == 31) (one (value.Bool (argument == 1)) (s.0 + 1, s.1)) (scalar_at bytes sizes s.0 kind (argument + 1) >>= λ v. one v (s.0 + 1 + (argument + 1), s.1))

counts_or_bool : (bytes : List ℕ) (sizes : TableSizes) (s : ℕ × ℕ) (kind argument : ℕ) → Counts (or_bool bytes sizes s kind argument)
counts_or_bool bytes sizes s kind argument =
    guard (kind == 31) (one (value.Bool (argument == 1)) (s.0 + 1, s.1)) (scalar_at bytes sizes s.0 kind (argument + 1) >>= λ v. one v (s.0 + 1 + (argument + 1), s.1)) (fine _ _)
    (then (scalar_at bytes sizes s.0 kind (argument + 1)) (λ v. one v (s.0 + 1 + (argument + 1), s.1)) (counts_scalar bytes sizes s.0 kind (argument + 1)) (λ v. fine _ _))

abbrev or_null : List ℕ → TableSizes → ℕ × ℕ → ℕ → ℕ → Result (EncValue × (ℕ × ℕ)) PoolFault
or_null bytes sizes s kind argument = cond (kind == 30) (one value.Null (s.0 + 1, s.1)) (or_bool bytes sizes s kind argument)

counts_or_null : (bytes : List ℕ) (sizes : TableSizes) (s : ℕ × ℕ) (kind argument : ℕ) → Counts (or_null bytes sizes s kind argument)
counts_or_null bytes sizes s kind argument =
    guard (kind == 30) (one value.Null (s.0 + 1, s.1)) (or_bool bytes sizes s kind argument) (fine _ _) (counts_or_bool bytes sizes s kind argument)

abbrev or_note : Inner → List ℕ → TableSizes → ℕ × ℕ → ℕ → ℕ → Result (EncValue × (ℕ × ℕ)) PoolFault
or_note inner bytes sizes s kind argument =
    cond (kind == 29) (note_in inner bytes sizes (s.0 + 1, s.1) >>= λ r. one (value.Annotation r.0) r.1) (or_null bytes sizes s kind argument)

counts_or_note : (inner : Inner) (bytes : List ℕ) (sizes : TableSizes) (s : ℕ × ℕ) (kind argument : ℕ) → ((t : ℕ × ℕ) → Counts (inner t)) → Counts (or_note inner bytes sizes s kind argument)
counts_or_note inner bytes sizes s kind argument h =
    guard (kind == 29) (note_in inner bytes sizes (s.0 + 1, s.1) >>= λ r. one (value.Annotation r.0) r.1) (or_null bytes sizes s kind argument)
    (then (note_in inner bytes sizes (s.0 + 1, s.1)) (λ r. one (value.Annotation r.0) r.1) (counts_note inner bytes sizes (s.0 + 1, s.1) h) (λ r. fine _ _))
    (counts_or_null bytes sizes s kind argument)

counts_kind : (inner : Inner) (bytes : List ℕ) (sizes : TableSizes) (s : ℕ × ℕ) (kind argument : ℕ) → ((t : ℕ × ℕ) → Counts (inner t)) → Counts (of_kind inner bytes sizes s kind argument)
counts_kind inner bytes sizes s kind argument h =
    guard (kind == 28) (array_in inner bytes (s.0 + 1, s.1) >>= λ r. one (value.Array r.0) r.1) (or_note inner bytes sizes s kind argument)
    (then (array_in inner bytes (s.0 + 1, s.1)) (λ r. one (value.Array r.0) r.1) (counts_array inner bytes (s.0 + 1, s.1) h) (λ r. fine _ _))
    (counts_or_note inner bytes sizes s kind argument h)

counts_value : (depth : ℕ) (bytes : List ℕ) (sizes : TableSizes) (s : ℕ × ℕ) → Counts (value_at depth bytes sizes s)
unfolding value_in
counts_value zero bytes sizes s = fails _ _ tt
counts_value (suc depth) bytes sizes s = then _ _ (counts_byte bytes s.0) (λ tag.
    guard _ _ _ (counts_kind (value_at depth bytes sizes) bytes sizes s (tag % 32) (tag / 32) (counts_value depth bytes sizes)) (fails _ _ tt))

pub counts_whole_value : (bytes : List ℕ) (sizes : TableSizes) (s : ℕ × ℕ) → Counts (whole_value_at bytes sizes s)
unfolding whole_value_at
counts_whole_value bytes sizes s = counts_value 64 bytes sizes s

counts_whole_note : (bytes : List ℕ) (sizes : TableSizes) (s : ℕ × ℕ) → Counts (whole_note_at bytes sizes s)
unfolding whole_note_at
counts_whole_note bytes sizes s = counts_note (value_at 64 bytes sizes) bytes sizes s (counts_value 64 bytes sizes)

-- ---- annotations

counts_marked : (bytes : List ℕ) (sizes : TableSizes) (at i left : ℕ) → Counts (marked_at bytes sizes at i left)
unfolding marked_at mark_at
counts_marked bytes sizes at i left = then _ _ (counts_spend Items 1 left refl) (λ behind.
    then _ _ (counts_word bytes _) (λ offset.
    then _ _ (counts_byte bytes offset) (λ visibility.
    then _ _ (counts_whole_note bytes sizes (offset + 1, behind)) (λ note. fine _ _))))

pub counts_marks : (bytes : List ℕ) (sizes : TableSizes) (at left : ℕ) → Counts (marks_at bytes sizes at left)
unfolding marks_at
counts_marks bytes sizes at left = then _ _ (counts_count bytes at 4) (λ count.
    then _ _ (fails_run _ (counts_marked bytes sizes at) 0 count left) (λ marks.
    then _ _ (counts_ascends _ _ _ 0 marks.0) (λ order. fine _ _)))

counts_parameter : (bytes : List ℕ) (sizes : TableSizes) (at i left : ℕ) → Counts (parameter_at bytes sizes at i left)
unfolding parameter_at
counts_parameter bytes sizes at i left = then _ _ (counts_spend Items 1 left refl) (λ behind.
    then _ _ (counts_word bytes _) (λ offset. guard _ _ _ (fine _ _) (counts_marks bytes sizes offset behind)))

pub counts_parameters : (bytes : List ℕ) (sizes : TableSizes) (at left : ℕ) → Counts (parameters_marks_at bytes sizes at left)
unfolding parameters_marks_at
counts_parameters bytes sizes at left = then _ _ (counts_count bytes at 4) (λ count. fails_run _ (counts_parameter bytes sizes at) 0 count left)

-- ---- tables

counts_extent : (bytes : List ℕ) (at width : ℕ) → Counts (extent_at bytes at width)
unfolding extent_at
counts_extent bytes at width = then _ _ (counts_word bytes at) (λ size. then _ _ (counts_word bytes (at + 4)) (λ offset. guard _ _ _ (fine _ _) (fails _ _ tt)))

counts_extents : (bytes : List ℕ) → Counts (extents_at bytes)
unfolding extents_at
counts_extents bytes = then _ _ (counts_extent bytes 56 4) (λ strings. then _ _ (counts_extent bytes 64 4) (λ types.
    then _ _ (counts_extent bytes 72 12) (λ protos. then _ _ (counts_extent bytes 80 8) (λ fields. then _ _ (counts_extent bytes 88 8) (λ methods. fine _ _)))))

counts_begin : (bytes : List ℕ) (strings : Extent) (i : ℕ) → Counts (begin_of bytes strings i)
unfolding begin_of
counts_begin bytes strings i = then _ _ (counts_word bytes _) (λ at. counts_number bytes at)

counts_string : (bytes : List ℕ) (strings : Extent) (i left : ℕ) → Counts (string_at bytes strings i left)
unfolding string_at
counts_string bytes strings i left = then _ _ (counts_begin bytes strings i) (λ begin.
    then _ _ (counts_spend TextUnits begin.0 left refl) (λ behind.
    then _ _ (raised of_base (text_at bytes begin.1 begin.0) counts_base) (λ text. fine _ _)))

counts_strings : (bytes : List ℕ) (tables : Extents) → Counts (strings_at bytes tables)
unfolding strings_at
counts_strings bytes tables = then _ _ (fails_run _ (counts_string bytes tables.strings) 0 tables.strings.size 16777216) (λ strings.
    then _ _ (counts_ascends _ _ _ 0 strings.0) (λ order. fine _ _))

counts_placed : (begin : ℕ) (text : List ℕ) (b : BaseFault) → PoolCounts (placed begin text b)
counts_placed begin text base.NoMemory = tt
counts_placed begin text (base.Short at) = tt
counts_placed begin text (base.LongLeb at) = tt
counts_placed begin text (base.BadText at) = tt
counts_placed begin text (base.BadDescriptor at) = tt

counts_described : (bytes : List ℕ) (strings : Extent) (i : ℕ) (text : List ℕ) (read : Result Descriptor BaseFault) → Counts (described bytes strings i text read)
counts_described bytes strings i text (Ok kind) = fine _ _
counts_described bytes strings i text (Err b) = then _ _ (counts_begin bytes strings i) (λ begin. fails _ _ (counts_placed begin.1 text b))

counts_type : (bytes : List ℕ) (tables : Extents) (strings : List (List ℕ)) (i : ℕ) → Counts (type_at bytes tables strings i)
unfolding type_at
counts_type bytes tables strings i = then _ _ (counts_index bytes _ tables.strings.size) (λ string.
    counts_described bytes tables.strings string (text_of strings string) (descriptor_of (text_of strings string)))

counts_types : (bytes : List ℕ) (tables : Extents) (strings : List (List ℕ)) → Counts (types_at bytes tables strings)
unfolding types_at
counts_types bytes tables strings = then _ _ (fails_each _ (counts_type bytes tables strings) 0 tables.types.size) (λ types.
    then _ _ (counts_ascends _ _ _ 0 types) (λ order. fine _ _))

counts_given : (bytes : List ℕ) (size offset left : ℕ) → Counts (parameters_at bytes size offset left)
unfolding parameters_at
counts_given bytes size offset left = guard _ _ _ (fine _ _) (counts_type_list bytes offset size left)

counts_proto : (bytes : List ℕ) (tables : Extents) (strings : List (List ℕ)) (letters : List ℕ) (i left : ℕ) → Counts (proto_at bytes tables strings letters i left)
unfolding proto_at
counts_proto bytes tables strings letters i left = then _ _ (counts_index bytes _ tables.strings.size) (λ shorty.
    then _ _ (counts_index bytes _ tables.types.size) (λ result.
    then _ _ (counts_word bytes _) (λ offset.
    then _ _ (counts_given bytes tables.types.size offset left) (λ parameters. guard _ _ _ (fine _ _) (fails _ _ tt)))))

counts_protos : (bytes : List ℕ) (tables : Extents) (strings : List (List ℕ)) (letters : List ℕ) (left : ℕ) → Counts (protos_at bytes tables strings letters left)
unfolding protos_at
counts_protos bytes tables strings letters left = then _ _ (fails_run _ (counts_proto bytes tables strings letters) 0 tables.protos.size left) (λ protos.
    then _ _ (counts_ascends _ _ _ 0 protos.0) (λ order. fine _ _))

counts_field : (bytes : List ℕ) (tables : Extents) (letters : List ℕ) (i : ℕ) → Counts (field_at bytes tables letters i)
unfolding field_at
counts_field bytes tables letters i = then _ _ (counts_half_index bytes _ tables.types.size) (λ class.
    then _ _ (counts_half_index bytes _ tables.types.size) (λ kind.
    then _ _ (counts_index bytes _ tables.strings.size) (λ name. guard _ _ _ (fails _ _ tt) (fine _ _))))

counts_fields : (bytes : List ℕ) (tables : Extents) (letters : List ℕ) → Counts (fields_at bytes tables letters)
unfolding fields_at
counts_fields bytes tables letters = then _ _ (fails_each _ (counts_field bytes tables letters) 0 tables.fields.size) (λ fields.
    then _ _ (counts_ascends _ _ _ 0 fields) (λ order. fine _ _))

counts_method : (bytes : List ℕ) (tables : Extents) (i : ℕ) → Counts (method_at bytes tables i)
unfolding method_at
counts_method bytes tables i = then _ _ (counts_half_index bytes _ tables.types.size) (λ class.
    then _ _ (counts_half_index bytes _ tables.protos.size) (λ proto.
    then _ _ (counts_index bytes _ tables.strings.size) (λ name. fine _ _)))

counts_methods : (bytes : List ℕ) (tables : Extents) → Counts (methods_at bytes tables)
unfolding methods_at
counts_methods bytes tables = then _ _ (fails_each _ (counts_method bytes tables) 0 tables.methods.size) (λ methods.
    then _ _ (counts_ascends _ _ _ 0 methods) (λ order. fine _ _))

pub counts_pools : (bytes : List ℕ) (left : ℕ) → Counts (pools_at bytes left)
unfolding pools_at
counts_pools bytes left = then _ _ (counts_extents bytes) (λ tables.
    then _ _ (counts_strings bytes tables) (λ strings.
    then _ _ (counts_types bytes tables strings) (λ types.
    then _ _ (counts_protos bytes tables strings _ left) (λ protos.
    then _ _ (counts_fields bytes tables _) (λ fields.
    then _ _ (counts_methods bytes tables) (λ methods. fine _ _))))))
