-- What the tables of strings, types, protos, fields and methods have to be (Dalvik executable format, "string_id_item" to
-- "method_id_item").
use Rattle.std.specs.Prelude.{ℕ, ◌^◌, List, [], ◌∷◌, length, sum_by, Bool, false, not, ◌&&◌, ◌==◌, nat_eq, nat_lt, nat_le, is_ok, if◌then◌else◌}
use Rattle.std.specs.List.{list_all, zip}
use Rattle.dex_base.specs.Descriptor.{descriptor_of}
use Rattle.program_model.specs.Distinct.{text_key, type_key, proto_key, field_key, method_key, all_differ}
use Rattle.program_model.specs.Texts.{has_string, has_type, has_proto, string_text, letter_of, is_void}
use Rattle.program_model.specs.declared.pools.Proto.{Proto}
use Rattle.program_model.specs.declared.pools.FieldName.{FieldName}
use Rattle.program_model.specs.declared.pools.MethodName.{MethodName}
use Rattle.program_model.specs.declared.program.Program.{Program}

-- a type is the number of a string that is a descriptor
abbrev pub type_fits : Program → ℕ → Bool
type_fits p string = has_string p string && is_ok (descriptor_of (string_text p string))

-- a unit of a shorty is the letter of a type, that of an array being L
abbrev pub stands_for : ℕ → ℕ → Bool
stands_for unit letter = if letter == 91 then unit == 76 else unit == letter

-- a unit of a shorty behind the first is the letter of a parameter, which is not V
abbrev pub stands_for_parameter : Program → ℕ × ℕ → Bool
stands_for_parameter p pair = stands_for pair.0 (letter_of p pair.1) && not (is_void (letter_of p pair.1))

-- a shorty is the letter of the result and those of the parameters
abbrev pub is_shorty : Program → List ℕ → ℕ → List ℕ → Bool
is_shorty p [] result parameters = false
is_shorty p (unit ∷ units) result parameters = stands_for unit (letter_of p result)
    && (nat_eq (length units) (length parameters) && list_all (stands_for_parameter p) (zip units parameters))

abbrev pub proto_fits : Program → Proto → Bool
proto_fits p proto = (has_string p proto.shorty && has_type p proto.result)
    && (list_all (has_type p) proto.parameters && is_shorty p (string_text p proto.shorty) proto.result proto.parameters)

abbrev pub field_id_fits : Program → FieldName → Bool
field_id_fits p field = (has_type p field.class && has_type p field.kind)
    && (has_string p field.name && not (is_void (letter_of p field.kind)))

abbrev pub method_id_fits : Program → MethodName → Bool
method_id_fits p method = has_type p method.class && (has_proto p method.proto && has_string p method.name)

-- whether each entry of each table fits
unfoldable pub entries_fit : Program → Bool
entries_fit p = list_all (type_fits p) p.types && (list_all (proto_fits p) p.protos
    && (list_all (field_id_fits p) p.fields && list_all (method_id_fits p) p.methods))

-- whether no table has two equal entries
unfoldable pub entries_differ : Program → Bool
entries_differ p = (all_differ text_key p.strings && all_differ type_key p.types) && (all_differ proto_key p.protos
    && (all_differ field_key p.fields && all_differ method_key p.methods))

-- whether the tables are no longer than they may be; strings and classes have numbers of 32 bits
unfoldable pub tables_are_short : Program → Bool
tables_are_short p = (nat_lt (length p.strings) (2 ^ 32) && nat_lt (length p.classes) (2 ^ 32))
    && ((nat_le (length p.types) 65535 && nat_le (length p.protos) 65535)
    && (nat_le (length p.fields) 65536 && nat_le (length p.methods) 65536))

-- whether the texts have no more units than they may
unfoldable pub texts_are_short : Program → Bool
texts_are_short p = nat_le (sum_by length p.strings) 16777216

-- what the tables have to be
unfoldable pub tables_fit : Program → Bool
tables_fit p = (tables_are_short p && texts_are_short p) && (entries_fit p && entries_differ p)
