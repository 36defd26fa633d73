-- Limits of the header and the tables that are answered are passed, and what the parameters of protos take.
use Rattle.std.proofs.Common.{◌≡◌, ◌<◌, ℕ, zero, suc, ◌+◌, ◌-◌, ◌*◌, Bool, true, false, cond, ltb, List, [], ◌∷◌, length, drop, Some, None, Result, Ok, Err, refl, sym, ap, subst, ◌∙◌, arith}
use Rattle.std.specs.Prelude.{◌==◌, slice_index, nat_eq, Option}
use Rattle.std.specs.List.{starts_with}
use Rattle.std.proofs.lemmas.Bool.{leb-false}
use Rattle.dex_base.specs.Adler.{adler_of}
use Rattle.dex_base.specs.Descriptor.{descriptor_of}
use Rattle.dex_base.specs.Mutf8.{text_at}
use Rattle.dex_base.specs.Reading.{◌>>=◌, raise}
use Rattle.dex_base.specs.Word.{Is32, u32_at}
use Rattle.dex_base.specs.Leb.{uleb_at}
use Rattle.dex_base.specs.declared.descriptor.Descriptor.{Descriptor}
use Rattle.dex_base.specs.declared.fault.BaseFault.{BaseFault}
use Rattle.dex_base.specs.declared.fault.BaseFault.TheVariants as base
use Rattle.dex_base.proofs.Decides.{not_both}
use Rattle.program_model.specs.Limits.{limit_of}
use Rattle.program_model.specs.declared.limits.Counted.{Counted}
use Rattle.program_model.specs.declared.limits.Counted.TheVariants.{Types, Protos, Fields, Methods, TextUnits, Items}
use Rattle.program_model.specs.declared.limits.LimitFault.{LimitFault}
use Rattle.program_model.specs.declared.pools.FieldName.{FieldName}
use Rattle.program_model.specs.declared.pools.Proto.{Proto}
use Rattle.program_model.specs.declared.program.Program.{Program}
use Rattle.program_model.specs.declared.program.Version.TheVariants.{V035, V037}
use Rattle.dex_pools.specs.declared.fault.PoolFault.{PoolFault}
use Rattle.dex_pools.specs.declared.fault.PoolFault.TheVariants as pool
use Rattle.dex_pools.specs.declared.fault.Table.TheVariants as table
use Rattle.dex_pools.specs.declared.header.Extent.{Extent}
use Rattle.dex_pools.specs.declared.header.Extents.{Extents}
use Rattle.dex_pools.specs.declared.pools.Pools.{Pools}
use Rattle.dex_pools.specs.Items.{listed_at, type_list_at}
use Rattle.dex_pools.specs.Order.{list_below, proto_below, field_below, method_below}
use Rattle.dex_pools.specs.PoolTables.{strings_at, types_at, protos_at, fields_at, methods_at, pools_at}
use Rattle.dex_pools.specs.Spelled.{AreExtents}
use Rattle.dex_pools.specs.Tables.{extent_at, extents_at, begin_of, string_at, text_of, placed, described, type_at, letters_of, parameters_at, proto_at, field_at, method_at}
use Rattle.dex_pools.proofs.Fields.{finds_word, finds_begin, finds_extents}
use Rattle.dex_defs.specs.Limits.{IsItem, Counts, IsPast}
use Rattle.dex_defs.specs.Limits as limits
use Rattle.dex_read.specs.declared.fault.DexFault.{DexFault}
use Rattle.dex_read.specs.declared.fault.DexFault.TheVariants as dex
use Rattle.dex_read.specs.Faults.{of_pool}
use Rattle.dex_read.specs.File.{tables_with, tables_at, head_at}
use Rattle.dex_read.specs.Header.{version_at, fixed_at, sum_at, size_at, header_at, past, magic_035, magic_037}
use Rattle.file_laws.proofs.Words as words
use Rattle.file_laws.specs.Founds.{Founds}
use Rattle.file_laws.proofs.Founding.{done, weaker, lifted}
use Rattle.spelled_law.proofs.Values.{founds_count}
use Rattle.refused_law.proofs.Failing.{Fails, sound, fails_with, unless, fails_next, fails_lifted, fails_more}
use Rattle.refused_law.proofs.Tables.{entry_at}
use Rattle.past_law.specs.Told.{Told, one_past}
use Rattle.past_law.proofs.Names.{sort_of}
use Rattle.past_law.proofs.Plain.{plain_base, plain_index, plain_half_index, plain_count, plain_ascending, plain_each, plain_or, plain_dex_base, plain_need}
use Rattle.past_law.proofs.Taking.{limit_of_pool, limit_of_dex, same_limit, PastBy, past_more, Plain, Takes, takes_none, plain_next, takes_then, takes_wider, takes_other, takes_unless, takes_either, takes_spend, takes_run}
use Rattle.past_law.proofs.Told.{fewer, numbered, one, is_past}

-- ---- faults that name a passed limit

-- where a limit is named, the file has one thing more
abbrev pub IsPastIn : List ℕ → Option LimitFault → Type 0
IsPastIn bytes None = Unit {0}
IsPastIn bytes (Some fault) = IsPast bytes fault

none_past : (bytes : List ℕ) (o : Option LimitFault) → o ≡ None → IsPastIn bytes o
none_past bytes None h = tt
none_past bytes (Some fault) h = absurd cc

pub plain_past : {Y F : Type 0} (bytes : List ℕ) {limit : F → Option LimitFault} {read : Result Y F} → Plain limit read → Fails (λ e. IsPastIn bytes (limit e)) read
plain_past bytes {limit = limit} d = fails_more (λ e h. none_past bytes (limit e) h) d

by_past : (bytes : List ℕ) (kind : Counted) (A : List ℕ → Type 0) (o : Option LimitFault) → PastBy kind (Told (Counts bytes kind) A (limit_of kind + 1)) o → IsPastIn bytes o
by_past bytes kind A None h = tt
by_past bytes kind A (Some fault) h = is_past bytes kind h.1 fault h.0

pub takes_past : {Y F : Type 0} (bytes : List ℕ) (kind : Counted) {limit : F → Option LimitFault} {In : List ℕ → Type 0} {behind : Y → ℕ} {read : Result Y F} → Takes limit kind (Counts bytes kind) In (limit_of kind) behind read
    → Fails (λ e. IsPastIn bytes (limit e)) read
takes_past bytes kind {limit = limit} {In = In} d = record {
  fault = λ e h. by_past bytes kind In (limit e) (past_more kind (limit e) (λ more. fewer (limit_of kind + 1) more (omega arith)) (d.passed e h));
}

pub took_next : {X Y F : Type 0} {Is : Y → Type 0} (read : Result X F) {f : X → Result Y F} → ((x : X) → read ≡ Ok x → Founds Is (f x)) → Founds Is (read >>= f)
took_next (Ok x) g = g x refl
took_next (Err e) g = record { found = λ y h. absurd (not_both e y h) }

-- ---- the header

module _ (bytes : List ℕ) where
  abbrev PastDex : DexFault → Type 0
  PastDex e = IsPastIn bytes (limit_of_dex e)

  plain_version : Plain limit_of_dex (version_at bytes)
  unfolding version_at
  plain_version = plain_or limit_of_dex (starts_with nat_eq bytes magic_035) V035 (cond (starts_with nat_eq bytes magic_037) (Ok V037) (Err dex.Magic))
      (plain_or limit_of_dex (starts_with nat_eq bytes magic_037) V037 (Err dex.Magic) (fails_with dex.Magic refl))

  plain_fixed : (at wanted : ℕ) → Plain limit_of_dex (fixed_at bytes at wanted)
  unfolding fixed_at
  plain_fixed at wanted = fails_next (plain_dex_base (u32_at bytes at)) (λ n _. unless (dex.Header at) (λ _. refl) (λ _. sound tt))

  plain_sum : Plain limit_of_dex (sum_at bytes)
  unfolding sum_at
  plain_sum = fails_next (plain_dex_base (u32_at bytes 8)) (λ n _. unless (dex.Checksum n (adler_of (drop 12 bytes))) (λ _. refl) (λ _. sound tt))

  fails_size : (at : ℕ) (counted : Counted) → ((i n : ℕ) → Is32 bytes at n → i < n → Counts bytes counted (i ∷ [])) → Fails PastDex (size_at bytes at counted)
  unfolding size_at
  fails_size at counted thing = fails_next (plain_past bytes (plain_dex_base (u32_at bytes at))) (λ n h. unless (past counted) (λ no. let more = leb-false n (limit_of counted) no in
      is_past bytes counted (fewer (limit_of counted + 1) (numbered {Is = Counts bytes counted} {A = λ w. Unit {0}} (λ i. i ∷ []) n (λ i j e. ap (λ (w : List ℕ). slice_index w 0) e)
      (λ i less. thing i n ((words.finds_word bytes at).found n h) less) (λ i less. tt)) (omega (arith, more))) (one_past counted) refl) (λ _. sound tt))

  fails_header : Fails PastDex (header_at bytes)
  unfolding header_at
  fails_header =
      fails_next (plain_past bytes (plain_need bytes 0 112)) (λ _ _.
      fails_next (plain_past bytes plain_version) (λ version _.
      fails_next (plain_past bytes (plain_fixed 32 (length bytes))) (λ _ _.
      fails_next (plain_past bytes (plain_fixed 36 112)) (λ _ _.
      fails_next (plain_past bytes (plain_fixed 40 0x12345678)) (λ _ _.
      fails_next (plain_past bytes (plain_fixed 44 0)) (λ _ _.
      fails_next (plain_past bytes plain_sum) (λ _ _.
      fails_next (fails_size 64 Types (λ i n is less. limits.AType i n is less)) (λ _ _.
      fails_next (fails_size 72 Protos (λ i n is less. limits.AProto i n is less)) (λ _ _.
      fails_next (fails_size 80 Fields (λ i n is less. limits.AField i n is less)) (λ _ _.
      fails_next (fails_size 88 Methods (λ i n is less. limits.AMethod i n is less)) (λ _ _. sound version)))))))))))

  -- ---- tables

  abbrev PastPool : PoolFault → Type 0
  PastPool e = IsPastIn bytes (limit_of_pool e)

  plain_extent : (at width : ℕ) → Plain limit_of_pool (extent_at bytes at width)
  unfolding extent_at
  plain_extent at width = fails_next (plain_base (u32_at bytes at)) (λ size _. fails_next (plain_base (u32_at bytes (at + 4))) (λ offset _.
      unless (pool.Short offset) (λ _. refl) (λ _. sound (record { size = size; offset = offset }))))

  plain_extents : Plain limit_of_pool (extents_at bytes)
  unfolding extents_at
  plain_extents =
      fails_next (plain_extent 56 4) (λ strings _.
      fails_next (plain_extent 64 4) (λ types _.
      fails_next (plain_extent 72 12) (λ protos _.
      fails_next (plain_extent 80 8) (λ fields _.
      fails_next (plain_extent 88 8) (λ methods _.
      sound (record { strings = strings; types = types; protos = protos; fields = fields; methods = methods }))))))

  plain_begin : (strings : Extent) (i : ℕ) → Plain limit_of_pool (begin_of bytes strings i)
  unfolding begin_of
  plain_begin strings i = fails_next (plain_base (u32_at bytes (strings.offset + 4 * i))) (λ at _. plain_base (uleb_at bytes at))

  placed_plain : (begin : ℕ) (text : List ℕ) (e : BaseFault) → limit_of_pool (placed begin text e) ≡ None
  placed_plain begin text base.NoMemory = refl
  placed_plain begin text (base.Short at) = refl
  placed_plain begin text (base.LongLeb at) = refl
  placed_plain begin text (base.BadText at) = refl
  placed_plain begin text (base.BadDescriptor at) = refl

  plain_described : (strings : Extent) (i : ℕ) (text : List ℕ) (read : Result Descriptor BaseFault) → Plain limit_of_pool (described bytes strings i text read)
  plain_described strings i text (Ok kind) = sound i
  plain_described strings i text (Err e) = fails_next (plain_begin strings i) (λ begin _. fails_with (placed begin.1 text e) (placed_plain begin.1 text e))

  plain_type : (t : Extents) (strings : List (List ℕ)) (i : ℕ) → Plain limit_of_pool (type_at bytes t strings i)
  unfolding type_at
  plain_type t strings i = fails_next (plain_index bytes (t.types.offset + 4 * i) t.strings.size) (λ string _. plain_described t.strings string (text_of strings string) (descriptor_of (text_of strings string)))

  plain_types : (t : Extents) (strings : List (List ℕ)) → Plain limit_of_pool (types_at bytes t strings)
  unfolding types_at
  plain_types t strings = fails_next (plain_each limit_of_pool (type_at bytes t strings) (plain_type t strings) 0 t.types.size) (λ types _. fails_next (plain_ascending ltb table.Types types) (λ order _. sound types))

  plain_field : (t : Extents) (letters : List ℕ) (i : ℕ) → Plain limit_of_pool (field_at bytes t letters i)
  unfolding field_at
  plain_field t letters i =
      fails_next (plain_half_index bytes (t.fields.offset + 8 * i) t.types.size) (λ class _.
      fails_next (plain_half_index bytes (t.fields.offset + 8 * i + 2) t.types.size) (λ kind _.
      fails_next (plain_index bytes (t.fields.offset + 8 * i + 4) t.strings.size) (λ name _.
      or_field (slice_index letters kind == 86) (pool.BadDescriptor (t.fields.offset + 8 * i)) (record { class = class; kind = kind; name = name }) refl)))
    where
      or_field : (b : Bool) (e : PoolFault) (f : FieldName) → limit_of_pool e ≡ None → Plain limit_of_pool (cond b (Err e) (Ok f))
      or_field true e f h = fails_with e h
      or_field false e f h = sound f

  plain_fields : (t : Extents) (letters : List ℕ) → Plain limit_of_pool (fields_at bytes t letters)
  unfolding fields_at
  plain_fields t letters = fails_next (plain_each limit_of_pool (field_at bytes t letters) (plain_field t letters) 0 t.fields.size) (λ fields _. fails_next (plain_ascending field_below table.Fields fields) (λ order _. sound fields))

  plain_method : (t : Extents) (i : ℕ) → Plain limit_of_pool (method_at bytes t i)
  unfolding method_at
  plain_method t i =
      fails_next (plain_half_index bytes (t.methods.offset + 8 * i) t.types.size) (λ class _.
      fails_next (plain_half_index bytes (t.methods.offset + 8 * i + 2) t.protos.size) (λ proto _.
      fails_next (plain_index bytes (t.methods.offset + 8 * i + 4) t.strings.size) (λ name _. sound (record { class = class; proto = proto; name = name }))))

  plain_methods : (t : Extents) → Plain limit_of_pool (methods_at bytes t)
  unfolding methods_at
  plain_methods t = fails_next (plain_each limit_of_pool (method_at bytes t) (plain_method t) 0 t.methods.size) (λ methods _. fails_next (plain_ascending method_below table.Methods methods) (λ order _. sound methods))

  -- ---- lists of types, whose entries have these names

  pub takes_list : (name : ℕ → List ℕ) (at size : ℕ) → ((i j : ℕ) → name i ≡ name j → i ≡ j) → (C : List ℕ → Type 0) → ((i : ℕ) (w : List ℕ) → w ≡ name i → C w) → ((count i : ℕ) → Is32 bytes at count → i < count → IsItem bytes (name i))
      → (left : ℕ) → Takes limit_of_pool Items (IsItem bytes) C left (λ (r : List ℕ × ℕ). r.1) (type_list_at bytes at size left)
  unfolding type_list_at listed_at
  takes_list name at size own C to thing left = plain_next (plain_count bytes at 2) (λ count h.
      takes_wider (takes_run (λ i w. w ≡ name i) (λ i j w a b. own i j (sym a ∙ b)) (listed_at bytes at size) (λ s. s) (λ i s. Unit {0}) (λ i s x good g. tt) count
      (λ i s less good. takes_then (takes_spend Items 1 s (one {A = λ w. w ≡ name i} (name i) (thing count i ((founds_count bytes at 2).found count h) less) refl)) (λ behind _.
      plain_next (plain_half_index bytes (at + 4 + 2 * i) size) (λ kind _. takes_none behind _ (kind, behind) (omega arith)))) 0 count left (omega arith) tt) (λ w o. to o.place w o.is))

  module _ (t : Extents) (stand : AreExtents bytes t) where
    -- ---- strings

    abbrev InText : ℕ → List ℕ → Type 0
    InText i w = slice_index w 0 ≡ i

    takes_string : (i left : ℕ) → i < t.strings.size → Takes limit_of_pool TextUnits (Counts bytes TextUnits) (InText i) left (λ (r : List ℕ × ℕ). r.1) (string_at bytes t.strings i left)
    unfolding string_at
    takes_string i left less = plain_next (plain_begin t.strings i) (λ begin h. let is = (finds_begin bytes t.strings i).found begin h in
        takes_then (takes_spend TextUnits begin.0 left (numbered {Is = Counts bytes TextUnits} {A = InText i} (λ j. i ∷ j ∷ []) begin.0 (λ j k e. ap (λ (w : List ℕ). slice_index w 1) e)
        (λ j low. limits.AUnit i (t.strings.offset + 4 * i) is.at begin.0 begin.1 j (entry_at bytes 56 4 t.strings stand.strings i less) is.offset is.units low) (λ j low. refl))) (λ behind _.
        plain_next (plain_base (text_at bytes begin.1 begin.0)) (λ text _. takes_none behind _ (text.0, behind) (omega arith))))

    fails_strings : Fails PastPool (strings_at bytes t)
    unfolding strings_at
    fails_strings = fails_next (takes_past bytes TextUnits (takes_run InText (λ i j w a b. sym a ∙ b) (string_at bytes t.strings) (λ s. s) (λ i s. Unit {0}) (λ i s x good g. tt) t.strings.size
        (λ i s less good. takes_string i s less) 0 t.strings.size 16777216 (omega arith) tt)) (λ strings _.
        fails_next (plain_past bytes (plain_ascending list_below table.Strings strings.0)) (λ order _. sound strings.0))

    -- ---- protos

    abbrev InProto : ℕ → List ℕ → Type 0
    InProto i w = (sort_of w ≡ 0) × (slice_index w 1 ≡ i)

    positive : (n : ℕ) → (n == 0) ≡ false → 0 < n
    positive zero e = absurd cc
    positive (suc n) e = omega arith

    takes_parameters : (i offset left : ℕ) → i < t.protos.size → Is32 bytes (t.protos.offset + 12 * i + 8) offset → Takes limit_of_pool Items (IsItem bytes) (InProto i) left (λ (r : List ℕ × ℕ). r.1) (parameters_at bytes t.types.size offset left)
    unfolding parameters_at
    takes_parameters i offset left less is = takes_either (λ e. takes_none left _ ([], left) (omega arith)) (λ e.
        takes_list (λ j. 0 ∷ i ∷ j ∷ []) offset t.types.size (λ j k e. ap (λ (w : List ℕ). slice_index w 2) e) (InProto i) (λ j w e. (ap sort_of e, ap (λ (w : List ℕ). slice_index w 1) e))
        (λ count j is_count low. limits.OfProto i (t.protos.offset + 12 * i) offset offset count j (entry_at bytes 72 12 t.protos stand.protos i less) is (positive offset e, refl) is_count low) left)

    takes_proto : (strings : List (List ℕ)) (letters : List ℕ) (i left : ℕ) → i < t.protos.size → Takes limit_of_pool Items (IsItem bytes) (InProto i) left (λ (r : Proto × ℕ). r.1) (proto_at bytes t strings letters i left)
    unfolding proto_at
    takes_proto strings letters i left less =
        plain_next (plain_index bytes (t.protos.offset + 12 * i) t.strings.size) (λ shorty _.
        plain_next (plain_index bytes (t.protos.offset + 12 * i + 4) t.types.size) (λ result _.
        plain_next (plain_base (u32_at bytes (t.protos.offset + 12 * i + 8))) (λ offset h.
        takes_then (takes_parameters i offset left less ((finds_word bytes (t.protos.offset + 12 * i + 8)).found offset h)) (λ parameters _.
        takes_unless (pool.Shorty (t.protos.offset + 12 * i)) refl (λ _. takes_none parameters.1 _ (record { shorty = shorty; result = result; parameters = parameters.0 }, parameters.1) (omega arith))))))

    takes_protos : (strings : List (List ℕ)) (letters : List ℕ) (left : ℕ) → Takes limit_of_pool Items (IsItem bytes) (λ w. sort_of w ≡ 0) left (λ (r : List Proto × ℕ). r.1) (protos_at bytes t strings letters left)
    unfolding protos_at
    takes_protos strings letters left = takes_wider (takes_then (takes_run InProto (λ i j w a b. sym a.1 ∙ b.1) (proto_at bytes t strings letters) (λ s. s) (λ i s. Unit {0}) (λ i s x good g. tt) t.protos.size
        (λ i s less good. takes_proto strings letters i s less) 0 t.protos.size left (omega arith) tt) (λ protos _.
        plain_next (plain_ascending proto_below table.Protos protos.0) (λ order _. takes_none protos.1 _ protos (omega arith)))) (λ w o. o.is.0)

    -- ---- all

    takes_rest : (strings : List (List ℕ)) (types : List ℕ) → Takes limit_of_pool Items (IsItem bytes) (λ w. sort_of w ≡ 0) 16777216 (λ (r : Pools × ℕ). r.1)
        (protos_at bytes t strings (letters_of strings types) 16777216 >>= λ protos. fields_at bytes t (letters_of strings types) >>= λ fields. methods_at bytes t >>= λ methods.
        Ok (record { strings = strings; types = types; protos = protos.0; fields = fields; methods = methods }, protos.1))
    takes_rest strings types = takes_then (takes_protos strings (letters_of strings types) 16777216) (λ protos _.
        plain_next (plain_fields t (letters_of strings types)) (λ fields _.
        plain_next (plain_methods t) (λ methods _.
        takes_none protos.1 _ (record { strings = strings; types = types; protos = protos.0; fields = fields; methods = methods }, protos.1) (omega arith))))

  fails_pools : Fails PastPool (pools_at bytes 16777216)
  unfolding pools_at
  fails_pools =
      fails_next (plain_past bytes plain_extents) (λ t h. let stand = (finds_extents bytes).found t h in
      fails_next (fails_strings t stand) (λ strings _.
      fails_next (plain_past bytes (plain_types t strings)) (λ types _.
      takes_past bytes Items (takes_other (takes_rest t stand strings types) (λ w is. limits.AnItem w is)))))

  -- the items of protos
  abbrev pub TookProtos : {X : Type 0} → X × ℕ → Type 0
  TookProtos r = Told (IsItem bytes) (λ w. sort_of w ≡ 0) (16777216 - r.1)

  took_pools : Founds (λ (r : Pools × ℕ). TookProtos r) (pools_at bytes 16777216)
  unfolding pools_at
  took_pools =
      took_next (extents_at bytes) (λ t h. let stand = (finds_extents bytes).found t h in
      took_next (strings_at bytes t) (λ strings _.
      took_next (types_at bytes t strings) (λ types _. record { found = λ y g. (takes_rest t stand strings types).took y g })))

  pub fails_head : Fails PastDex (head_at bytes)
  unfolding head_at tables_at
  fails_head = fails_next fails_header (λ version _.
      fails_next (fails_lifted of_pool (fails_more (λ e h. subst (IsPastIn bytes) (sym (same_limit e)) h) fails_pools)) (λ pools _. sound (tables_with version pools.0, pools.1)))

  pub took_head : Founds (λ (r : Program × ℕ). TookProtos r) (head_at bytes)
  unfolding head_at tables_at
  took_head = took_next (header_at bytes) (λ version _. took_next (raise of_pool (pools_at bytes 16777216)) (λ pools h. weaker (Ok (tables_with version pools.0, pools.1)) (done (tables_with version pools.0, pools.1)) (λ y e.
      subst (λ (r : Program × ℕ). TookProtos r) (sym e) ((lifted of_pool took_pools).found pools h))))
