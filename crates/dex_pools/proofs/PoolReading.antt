-- The tables that are read are those that the bytes spell, and no others.
use Rattle.std.proofs.Common.{◌≡◌, ℕ, ◌-◌, ◌≤◌, Bool, true, false, List, length, Result, Ok, Err, refl, ap, subst}
use Rattle.std.specs.Prelude.{sum_by, nat_lt, IfOk}
use Rattle.dex_base.specs.Decides.{Entries}
use Rattle.dex_base.specs.Reading.{◌>>=◌, each, Gives, FailsIf}
use Rattle.program_model.specs.declared.pools.Proto.{Proto}
use Rattle.program_model.specs.declared.pools.FieldName.{FieldName}
use Rattle.program_model.specs.declared.pools.MethodName.{MethodName}
use Rattle.dex_pools.specs.declared.fault.PoolFault.{PoolFault}
use Rattle.dex_pools.specs.declared.fault.Table.TheVariants as table
use Rattle.dex_pools.specs.declared.header.Extents.{Extents}
use Rattle.dex_pools.specs.declared.pools.Pools.{Pools}
use Rattle.dex_pools.specs.Fault.{is_free}
use Rattle.dex_pools.specs.Fewer.{first}
use Rattle.dex_pools.specs.Finds.{Finds, Ascends}
use Rattle.dex_pools.specs.Run.{run}
use Rattle.dex_pools.specs.Order.{ascends_in, list_below, proto_below, field_below, method_below}
use Rattle.dex_pools.specs.Tables.{extents_at, string_at, type_at, letters_of, proto_at, field_at, method_at}
use Rattle.dex_pools.specs.PoolTables.{strings_at, types_at, protos_at, fields_at, methods_at, pools_at}
use Rattle.dex_pools.specs.Spelled.{IsString, IsType, IsProto, IsField, IsMethod, parameter_count, SpellsPools}
use Rattle.dex_pools.proofs.Finding.{same, pure, then, finds_each}
use Rattle.dex_pools.proofs.Fields.{Spends, finds_extents, finds_string, finds_spent, finds_ascending}
use Rattle.dex_pools.proofs.TableReading.{finds_type, finds_proto, finds_field, finds_method}

record AreStrings (bytes : List ℕ) (t : Extents) (strings : List (List ℕ)) : Type 0 where
  entries : Entries t.strings.size (IsString bytes t.strings) strings
  ascend : Ascends list_below strings
  units : sum_by (λ text. length text) strings ≤ 16777216

finds_strings : (bytes : List ℕ) (t : Extents) → Finds (AreStrings bytes t) (strings_at bytes t)
unfolding strings_at
finds_strings bytes t = same (strings_at bytes t)
    (then (run (string_at bytes t.strings) 0 t.strings.size 16777216) (λ r. ascends_in list_below table.Strings r.0 >>= λ order. Ok r.0) (finds_spent (IsString bytes t.strings) (λ text. length text) (string_at bytes t.strings) (λ i s. finds_string bytes t.strings i s) t.strings.size 16777216) (λ r _.
    then (ascends_in list_below table.Strings r.0) (λ order. Ok r.0) (finds_ascending list_below table.Strings r.0) (λ order _. pure r.0)))
    (λ y p. rw p.2.2 (record { entries = p.1.0; ascend = p.2.1; units = p.1.1.enough }))
    (λ y p. ((y, 16777216 - sum_by (λ text. length text) y), (p.entries, record { enough = p.units; rest = refl }), (tt, p.ascend, refl)))

record AreTypes (bytes : List ℕ) (t : Extents) (strings : List (List ℕ)) (types : List ℕ) : Type 0 where
  entries : Entries t.types.size (IsType bytes t strings) types
  ascend : Ascends nat_lt types

finds_types : (bytes : List ℕ) (t : Extents) (strings : List (List ℕ)) → Finds (AreTypes bytes t strings) (types_at bytes t strings)
unfolding types_at
finds_types bytes t strings = same (types_at bytes t strings)
    (then (each (type_at bytes t strings) 0 t.types.size) (λ types. ascends_in nat_lt table.Types types >>= λ order. Ok types) (finds_each (IsType bytes t strings) (type_at bytes t strings) (λ i. finds_type bytes t strings i) 0 t.types.size) (λ types _.
    then (ascends_in nat_lt table.Types types) (λ order. Ok types) (finds_ascending nat_lt table.Types types) (λ order _. pure types)))
    (λ y p. rw p.2.2 (record { entries = p.1; ascend = p.2.1 }))
    (λ y p. (y, p.entries, (tt, p.ascend, refl)))

record AreProtos (bytes : List ℕ) (t : Extents) (strings : List (List ℕ)) (letters : List ℕ) (left : ℕ) (r : List Proto × ℕ) : Type 0 where
  entries : Entries t.protos.size (IsProto bytes t strings letters) r.0
  ascend : Ascends proto_below r.0
  spends : Spends (parameter_count r.0) left r.1

finds_protos : (bytes : List ℕ) (t : Extents) (strings : List (List ℕ)) (letters : List ℕ) (left : ℕ) → Finds (AreProtos bytes t strings letters left) (protos_at bytes t strings letters left)
unfolding protos_at
finds_protos bytes t strings letters left = same (protos_at bytes t strings letters left)
    (then (run (proto_at bytes t strings letters) 0 t.protos.size left) (λ r. ascends_in proto_below table.Protos r.0 >>= λ order. Ok r) (finds_spent (IsProto bytes t strings letters) (λ p. length p.parameters) (proto_at bytes t strings letters) (λ i s. finds_proto bytes t strings letters i s) t.protos.size left) (λ r _.
    then (ascends_in proto_below table.Protos r.0) (λ order. Ok r) (finds_ascending proto_below table.Protos r.0) (λ order _. pure r)))
    (λ y p. rw p.2.2 (record { entries = p.1.0; ascend = p.2.1; spends = p.1.1 }))
    (λ y p. (y, (p.entries, p.spends), (tt, p.ascend, refl)))

record AreFields (bytes : List ℕ) (t : Extents) (letters : List ℕ) (fields : List FieldName) : Type 0 where
  entries : Entries t.fields.size (IsField bytes t letters) fields
  ascend : Ascends field_below fields

finds_fields : (bytes : List ℕ) (t : Extents) (letters : List ℕ) → Finds (AreFields bytes t letters) (fields_at bytes t letters)
unfolding fields_at
finds_fields bytes t letters = same (fields_at bytes t letters)
    (then (each (field_at bytes t letters) 0 t.fields.size) (λ fields. ascends_in field_below table.Fields fields >>= λ order. Ok fields) (finds_each (IsField bytes t letters) (field_at bytes t letters) (λ i. finds_field bytes t letters i) 0 t.fields.size) (λ fields _.
    then (ascends_in field_below table.Fields fields) (λ order. Ok fields) (finds_ascending field_below table.Fields fields) (λ order _. pure fields)))
    (λ y p. rw p.2.2 (record { entries = p.1; ascend = p.2.1 }))
    (λ y p. (y, p.entries, (tt, p.ascend, refl)))

record AreMethods (bytes : List ℕ) (t : Extents) (methods : List MethodName) : Type 0 where
  entries : Entries t.methods.size (IsMethod bytes t) methods
  ascend : Ascends method_below methods

finds_methods : (bytes : List ℕ) (t : Extents) → Finds (AreMethods bytes t) (methods_at bytes t)
unfolding methods_at
finds_methods bytes t = same (methods_at bytes t)
    (then (each (method_at bytes t) 0 t.methods.size) (λ methods. ascends_in method_below table.Methods methods >>= λ order. Ok methods) (finds_each (IsMethod bytes t) (method_at bytes t) (λ i. finds_method bytes t i) 0 t.methods.size) (λ methods _.
    then (ascends_in method_below table.Methods methods) (λ order. Ok methods) (finds_ascending method_below table.Methods methods) (λ order _. pure methods)))
    (λ y p. rw p.2.2 (record { entries = p.1; ascend = p.2.1 }))
    (λ y p. (y, p.entries, (tt, p.ascend, refl)))

abbrev made : List (List ℕ) → List ℕ → List Proto → List FieldName → List MethodName → Pools
made strings types protos fields methods = record { strings = strings; types = types; protos = protos; fields = fields; methods = methods }

pub finds_pools : (bytes : List ℕ) (left : ℕ) → Finds (λ r. SpellsPools bytes left r.0 × (r.1 ≡ left - parameter_count r.0.protos)) (pools_at bytes left)
unfolding pools_at
finds_pools bytes left =
    same (pools_at bytes left)
    (then (extents_at bytes) (λ t. strings_at bytes t >>= λ strings. types_at bytes t strings >>= λ types. protos_at bytes t strings (letters_of strings types) left >>= λ protos. fields_at bytes t (letters_of strings types) >>= λ fields. methods_at bytes t >>= λ methods. Ok (made strings types protos.0 fields methods, protos.1)) (finds_extents bytes) (λ t _.
    then (strings_at bytes t) (λ strings. types_at bytes t strings >>= λ types. protos_at bytes t strings (letters_of strings types) left >>= λ protos. fields_at bytes t (letters_of strings types) >>= λ fields. methods_at bytes t >>= λ methods. Ok (made strings types protos.0 fields methods, protos.1)) (finds_strings bytes t) (λ strings _.
    then (types_at bytes t strings) (λ types. protos_at bytes t strings (letters_of strings types) left >>= λ protos. fields_at bytes t (letters_of strings types) >>= λ fields. methods_at bytes t >>= λ methods. Ok (made strings types protos.0 fields methods, protos.1)) (finds_types bytes t strings) (λ types _.
    then (protos_at bytes t strings (letters_of strings types) left) (λ protos. fields_at bytes t (letters_of strings types) >>= λ fields. methods_at bytes t >>= λ methods. Ok (made strings types protos.0 fields methods, protos.1)) (finds_protos bytes t strings (letters_of strings types) left) (λ protos _.
    then (fields_at bytes t (letters_of strings types)) (λ fields. methods_at bytes t >>= λ methods. Ok (made strings types protos.0 fields methods, protos.1)) (finds_fields bytes t (letters_of strings types)) (λ fields _.
    then (methods_at bytes t) (λ methods. Ok (made strings types protos.0 fields methods, protos.1)) (finds_methods bytes t) (λ methods _.
    pure (made strings types protos.0 fields methods, protos.1))))))))
    (λ y p.
    let strings = p.2.1 in let types = p.2.2.1 in let protos = p.2.2.2.1 in let fields = p.2.2.2.2.1 in let methods = p.2.2.2.2.2.1 in
    rw p.2.2.2.2.2.2 (
      record {
        tables = p.0;
        stand = p.1;
        strings = strings.entries;
        strings_ascend = strings.ascend;
        units = strings.units;
        types = types.entries;
        types_ascend = types.ascend;
        protos = protos.entries;
        protos_ascend = protos.ascend;
        items = protos.spends.enough;
        fields = fields.entries;
        fields_ascend = fields.ascend;
        methods = methods.entries;
        methods_ascend = methods.ascend;
      },
      protos.spends.rest,
    ))
    (λ y p.
    let s = p.0 in (
      s.tables,
      s.stand,
      (
        y.0.strings,
        record { entries = s.strings; ascend = s.strings_ascend; units = s.units },
        (
          y.0.types,
          record { entries = s.types; ascend = s.types_ascend },
          (
            (y.0.protos, y.1),
            record { entries = s.protos; ascend = s.protos_ascend; spends = record { enough = s.items; rest = p.1 } },
            (
              y.0.fields,
              record { entries = s.fields; ascend = s.fields_ascend },
              (y.0.methods, record { entries = s.methods; ascend = s.methods_ascend }, refl),
            ),
          ),
        ),
      ),
    ))

finds_first : (bytes : List ℕ) (left : ℕ) → Finds (SpellsPools bytes left) (first (pools_at bytes left))
finds_first bytes left = same (first (pools_at bytes left)) (then (pools_at bytes left) (λ x. Ok x.0) (finds_pools bytes left) (λ x _. pure x.0))
    (λ y p. rw p.2 p.1.0)
    (λ y s. ((y, left - parameter_count y.protos), (s, refl), refl))

alone : (r : Result Pools PoolFault) (behind : ℕ) (read : Result (Pools × ℕ) PoolFault) → Gives is_free (λ p. (p, behind)) r read → Gives is_free (λ p. p) r (first read)
alone (Ok p) behind read given = ap (λ (x : Result (Pools × ℕ) PoolFault). first x) given
alone (Err e) behind read given = alone_fails (is_free e) e read given
  where
    alone_fails : (free : Bool) (e : PoolFault) (read : Result (Pools × ℕ) PoolFault) → FailsIf free e read → FailsIf free e (first read)
    alone_fails true e read h = tt
    alone_fails false e read h = ap (λ (x : Result (Pools × ℕ) PoolFault). first x) h

-- the contract of the reader, from what it gives
pub found : (bytes : List ℕ) (left : ℕ) (r : Result Pools PoolFault) (behind : ℕ) → Gives is_free (λ p. (p, behind)) r (pools_at bytes left) → IfOk r (SpellsPools bytes left)
found bytes left (Ok p) behind given = (finds_first bytes left).found p (alone (Ok p) behind (pools_at bytes left) given)
found bytes left (Err e) behind given = tt

pub only : (bytes : List ℕ) (left : ℕ) (r : Result Pools PoolFault) (behind : ℕ) → Gives is_free (λ p. (p, behind)) r (pools_at bytes left) → (p : Pools) → SpellsPools bytes left p → Gives is_free (λ p. p) r (Ok p)
only bytes left r behind given p s = subst (λ read. Gives is_free (λ p. p) r read) ((finds_first bytes left).again p s) (alone r behind (pools_at bytes left) given)
