-- Each entry of the tables of types, protos, fields and methods is found exactly where it stands.
use Rattle.std.proofs.Common.{◌≡◌, ℕ, zero, suc, ◌+◌, ◌*◌, ◌≤◌, Bool, true, false, cond, leb, eqb, List, [], ◌∷◌, length, Result, Ok, Err, refl, sym, ap, subst, ◌∙◌, arith}
use Rattle.std.specs.Prelude.{sum_by, slice_index}
use Rattle.std.proofs.lemmas.List.Sums.{sum_by-cons}
use Rattle.std.proofs.lemmas.Bool.{leb-true, le-leb, eqb-false, ne_eqb}
use Rattle.dex_base.specs.declared.descriptor.Descriptor.{Descriptor}
use Rattle.dex_base.specs.declared.fault.BaseFault.{BaseFault}
use Rattle.dex_base.specs.Reading.{◌>>=◌}
use Rattle.dex_base.specs.Word.{Is32}
use Rattle.dex_base.specs.Grammar.{IsDescriptor}
use Rattle.dex_base.specs.Descriptor.{descriptor_of}
use Rattle.dex_base.proofs.Decides.{not_both, ok_is}
use Rattle.dex_base.proofs.DescriptorReading.{is_descriptor}
use Rattle.program_model.specs.declared.limits.Counted.TheVariants.{Items}
use Rattle.program_model.specs.declared.pools.Proto.{Proto}
use Rattle.program_model.specs.declared.pools.FieldName.{FieldName}
use Rattle.program_model.specs.declared.pools.MethodName.{MethodName}
use Rattle.dex_pools.specs.declared.fault.PoolFault.{PoolFault}
use Rattle.dex_pools.specs.declared.fault.PoolFault.TheVariants as fault
use Rattle.dex_pools.specs.declared.header.Extent.{Extent}
use Rattle.dex_pools.specs.declared.header.Extents.{Extents}
use Rattle.dex_pools.specs.Finds.{Finds}
use Rattle.dex_pools.specs.Run.{run}
use Rattle.dex_pools.specs.Word.{word_at, index_at, half_index_at}
use Rattle.dex_pools.specs.Items.{spend, count_at, listed_at, type_list_at}
use Rattle.dex_pools.specs.Tables.{begin_of, text_of, placed, described, type_at, spells_shorty, parameters_at, proto_at, field_at, method_at}
use Rattle.dex_pools.specs.Spelled.{IsHalfIndex, IsType, IsTypeList, AreParameters, IsProto, IsField, IsMethod}
use Rattle.dex_pools.proofs.Finding.{same, pure, guard, then}
use Rattle.dex_pools.proofs.Fields.{Spends, finds_word, finds_index, finds_half_index, finds_spend, finds_spent}

-- ---- types

never : (read : Result (ℕ × ℕ) PoolFault) (fault : ℕ × ℕ → PoolFault) (n : ℕ) → (read >>= λ begin. Err (fault begin)) ≡ Ok n → ⊥
never (Ok begin) fault n h = absurd cc
never (Err e) fault n h = absurd cc

abbrev kind : Descriptor → Result Descriptor BaseFault
kind k = Ok k

finds_described : (bytes : List ℕ) (strings : Extent) (i : ℕ) (text : List ℕ) (read : Result Descriptor BaseFault) → read ≡ descriptor_of text
    → Finds (λ n. (n ≡ i) × ((k : Descriptor) × IsDescriptor text k)) (described bytes strings i text read)
finds_described bytes strings i text (Ok k) e = record {
  found = λ n h. (sym (ok_is i n h), (k, (is_descriptor text).found k (sym e)));
  again = λ n p. ap Ok (sym p.0);
}
finds_described bytes strings i text (Err f) e = record {
  found = λ n h. absurd (never (begin_of bytes strings i) (λ begin. placed begin.1 text f) n h);
  again = λ n p. absurd (not_both f p.1.0 (e ∙ (is_descriptor text).again p.1.0 p.1.1));
}

pub finds_type : (bytes : List ℕ) (tables : Extents) (strings : List (List ℕ)) (i : ℕ) → Finds (IsType bytes tables strings i) (type_at bytes tables strings i)
unfolding type_at
finds_type bytes tables strings i =
    let at = tables.types.offset + 4 * i in
    same (type_at bytes tables strings i)
    (then (index_at bytes at tables.strings.size) (λ n. described bytes tables.strings n (text_of strings n) (descriptor_of (text_of strings n))) (finds_index bytes at tables.strings.size) (λ n _.
    finds_described bytes tables.strings n (text_of strings n) (descriptor_of (text_of strings n)) refl))
    (λ y p. rw p.2.0 (record { string = p.1; kind = p.2.1.0; describes = p.2.1.1 }))
    (λ y p. (y, p.string, (refl, (p.kind, p.describes))))

-- ---- lists of types

finds_count : (bytes : List ℕ) (at width : ℕ) → Finds (λ n. Is32 bytes at n × (at + 4 + width * n ≤ length bytes)) (count_at bytes at width)
unfolding count_at
finds_count bytes at width =
    same (count_at bytes at width)
    (then (word_at bytes at) (λ n. cond (leb (at + 4 + width * n) (length bytes)) (Ok n) (Err (fault.Short at))) (finds_word bytes at) (λ n _. guard (leb (at + 4 + width * n) (length bytes)) n (fault.Short at)))
    (λ y p. rw p.2.1 (p.1, leb-true _ _ p.2.0))
    (λ y p. (y, p.0, (le-leb _ _ p.1, refl)))

finds_listed : (bytes : List ℕ) (at size i left : ℕ) → Finds (λ r. IsHalfIndex bytes (at + 4 + 2 * i) size r.0 × Spends 1 left r.1) (listed_at bytes at size i left)
unfolding listed_at
finds_listed bytes at size i left = same (listed_at bytes at size i left)
    (then (spend Items 1 left) (λ behind. half_index_at bytes (at + 4 + 2 * i) size >>= λ n. Ok (n, behind)) (finds_spend Items 1 left) (λ behind _.
    then (half_index_at bytes (at + 4 + 2 * i) size) (λ n. Ok (n, behind)) (finds_half_index bytes (at + 4 + 2 * i) size) (λ n _. pure (n, behind))))
    (λ y p. rw p.2.2 (p.2.1, p.1))
    (λ y p. (y.1, p.1, (y.0, p.0, refl)))

ones : (xs : List ℕ) → sum_by (λ x. 1) xs ≡ length xs
ones [] = refl
ones (x ∷ xs) = sum_by-cons (λ x. 1) x xs ∙ ap (λ n. 1 + n) (ones xs) ∙ omega arith

pub finds_type_list : (bytes : List ℕ) (at size left : ℕ) → Finds (λ r. IsTypeList bytes at size r.0 × Spends (length r.0) left r.1) (type_list_at bytes at size left)
unfolding type_list_at
finds_type_list bytes at size left = same (type_list_at bytes at size left)
    (then (count_at bytes at 2) (λ n. run (listed_at bytes at size) 0 n left) (finds_count bytes at 2) (λ n _.
    finds_spent (λ i n. IsHalfIndex bytes (at + 4 + 2 * i) size n) (λ x. 1) (listed_at bytes at size) (λ i s. finds_listed bytes at size i s) n left))
    (λ y p. (
      record {
        count = subst (λ n. Is32 bytes at n) (sym p.2.0.0) p.1.0;
        inside = subst (λ n. at + 4 + 2 * n ≤ length bytes) (sym p.2.0.0) p.1.1;
        entries = (refl, p.2.0.1);
      },
      subst (λ n. Spends n left y.1) (ones y.0) p.2.1,
    ))
    (λ y p. (length y.0, (p.0.count, p.0.inside), (p.0.entries, subst (λ n. Spends n left y.1) (sym (ones y.0)) p.1)))

abbrev both : List ℕ → ℕ → List ℕ × ℕ
both xs s = (xs, s)

listed_there : (bytes : List ℕ) (size k left : ℕ) → parameters_at bytes size (suc k) left ≡ type_list_at bytes (suc k) size left
unfolding parameters_at
listed_there bytes size k left = let some : eqb (suc k) 0 ≡ false = ne_eqb (suc k) 0 (λ e. omega (arith, e)) in rw some refl

finds_parameters : (bytes : List ℕ) (size offset left : ℕ) → Finds (λ r. AreParameters bytes size offset r.0 × Spends (length r.0) left r.1) (parameters_at bytes size offset left)
unfolding parameters_at
finds_parameters bytes size zero left = same (Ok ([], left)) (pure ([], left))
    (λ y p. rw p (refl, record { enough = omega arith; rest = omega arith }))
    (λ y p. ap (λ (xs : List ℕ). both xs y.1) p.0 ∙ ap (λ (s : ℕ). both [] s) (omega (arith, p.1.rest, ap (λ (xs : List ℕ). length xs) p.0)))
finds_parameters bytes size (suc k) left = subst (λ read. Finds (λ r. IsTypeList bytes (suc k) size r.0 × Spends (length r.0) left r.1) read) (sym (listed_there bytes size k left)) (finds_type_list bytes (suc k) size left)

-- ---- protos

pub finds_proto : (bytes : List ℕ) (tables : Extents) (strings : List (List ℕ)) (letters : List ℕ) (i left : ℕ)
    → Finds (λ r. IsProto bytes tables strings letters i r.0 × Spends (length r.0.parameters) left r.1) (proto_at bytes tables strings letters i left)
unfolding proto_at
finds_proto bytes tables strings letters i left =
    let at : ℕ = tables.protos.offset + 12 * i in
    let made : ℕ → ℕ → List ℕ → Proto = λ shorty outcome parameters. record { shorty = shorty; result = outcome; parameters = parameters } in
    let ends : ℕ → ℕ → List ℕ × ℕ → Result (Proto × ℕ) PoolFault = λ shorty outcome r. cond (spells_shorty letters (text_of strings shorty) outcome r.0) (Ok (made shorty outcome r.0, r.1)) (Err (fault.Shorty at)) in
    same (proto_at bytes tables strings letters i left)
    (then (index_at bytes at tables.strings.size) (λ shorty. index_at bytes (at + 4) tables.types.size >>= λ outcome. word_at bytes (at + 8) >>= λ offset. parameters_at bytes tables.types.size offset left >>= λ r. ends shorty outcome r) (finds_index bytes at tables.strings.size) (λ shorty _.
    then (index_at bytes (at + 4) tables.types.size) (λ outcome. word_at bytes (at + 8) >>= λ offset. parameters_at bytes tables.types.size offset left >>= λ r. ends shorty outcome r) (finds_index bytes (at + 4) tables.types.size) (λ outcome _.
    then (word_at bytes (at + 8)) (λ offset. parameters_at bytes tables.types.size offset left >>= λ r. ends shorty outcome r) (finds_word bytes (at + 8)) (λ offset _.
    then (parameters_at bytes tables.types.size offset left) (λ r. ends shorty outcome r) (finds_parameters bytes tables.types.size offset left) (λ r _.
    guard (spells_shorty letters (text_of strings shorty) outcome r.0) (made shorty outcome r.0, r.1) (fault.Shorty at))))))
    (λ y p. rw p.2.2.2.2.1 (record { shorty = p.1; outcome = p.2.1; offset = p.2.2.0; is_offset = p.2.2.1; parameters = p.2.2.2.1.0; spelled = p.2.2.2.2.0 }, p.2.2.2.1.1))
    (λ y p. (y.0.shorty, p.0.shorty, (y.0.result, p.0.outcome, (p.0.offset, p.0.is_offset, ((y.0.parameters, y.1), (p.0.parameters, p.1), (p.0.spelled, refl))))))

-- ---- fields and methods

refuted : {F : Type 0} (b : Bool) (y : FieldName) (e : F) → Finds (λ z. (b ≡ false) × (z ≡ y)) (cond b (Err e) (Ok y))
refuted true y e = record { found = λ z h. absurd (not_both e z h); again = λ z p. absurd cc }
refuted false y e = record { found = λ z h. (refl, sym (ok_is y z h)); again = λ z p. ap Ok (sym p.1) }

pub finds_field : (bytes : List ℕ) (tables : Extents) (letters : List ℕ) (i : ℕ) → Finds (IsField bytes tables letters i) (field_at bytes tables letters i)
unfolding field_at
finds_field bytes tables letters i =
    let at : ℕ = tables.fields.offset + 8 * i in
    let made : ℕ → ℕ → ℕ → FieldName = λ class kind name. record { class = class; kind = kind; name = name } in
    let ends : ℕ → ℕ → ℕ → Result FieldName PoolFault = λ class kind name. cond (eqb (slice_index letters kind) 86) (Err (fault.BadDescriptor at)) (Ok (made class kind name)) in
    same (field_at bytes tables letters i)
    (then (half_index_at bytes at tables.types.size) (λ class. half_index_at bytes (at + 2) tables.types.size >>= λ kind. index_at bytes (at + 4) tables.strings.size >>= λ name. ends class kind name) (finds_half_index bytes at tables.types.size) (λ class _.
    then (half_index_at bytes (at + 2) tables.types.size) (λ kind. index_at bytes (at + 4) tables.strings.size >>= λ name. ends class kind name) (finds_half_index bytes (at + 2) tables.types.size) (λ kind _.
    then (index_at bytes (at + 4) tables.strings.size) (λ name. ends class kind name) (finds_index bytes (at + 4) tables.strings.size) (λ name _.
    refuted (eqb (slice_index letters kind) 86) (made class kind name) (fault.BadDescriptor at)))))
    (λ y p. rw p.2.2.2.1 (record { class = p.1; kind = p.2.1; name = p.2.2.1; some = eqb-false _ _ p.2.2.2.0 }))
    (λ y p. (y.class, p.class, (y.kind, p.kind, (y.name, p.name, (ne_eqb _ _ p.some, refl)))))

pub finds_method : (bytes : List ℕ) (tables : Extents) (i : ℕ) → Finds (IsMethod bytes tables i) (method_at bytes tables i)
unfolding method_at
finds_method bytes tables i =
    let at : ℕ = tables.methods.offset + 8 * i in
    let made : ℕ → ℕ → ℕ → MethodName = λ class proto name. record { class = class; proto = proto; name = name } in
    same (method_at bytes tables i)
    (then (half_index_at bytes at tables.types.size) (λ class. half_index_at bytes (at + 2) tables.protos.size >>= λ proto. index_at bytes (at + 4) tables.strings.size >>= λ name. Ok (made class proto name)) (finds_half_index bytes at tables.types.size) (λ class _.
    then (half_index_at bytes (at + 2) tables.protos.size) (λ proto. index_at bytes (at + 4) tables.strings.size >>= λ name. Ok (made class proto name)) (finds_half_index bytes (at + 2) tables.protos.size) (λ proto _.
    then (index_at bytes (at + 4) tables.strings.size) (λ name. Ok (made class proto name)) (finds_index bytes (at + 4) tables.strings.size) (λ name _.
    pure (made class proto name)))))
    (λ y p. rw p.2.2.2 (record { class = p.1; proto = p.2.1; name = p.2.2.1 }))
    (λ y p. (y.class, p.class, (y.proto, p.proto, (y.name, p.name, refl))))
