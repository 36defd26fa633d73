-- Class data, first values and strings (Dalvik executable format, "class_data_item", "encoded_array_item", "string_data_item").
use Rattle.std.specs.Prelude.{ℕ, suc, ◌+◌, ◌-◌, pos, List, [], ◌∷◌, ◌++◌, length, map, take, drop, Bool, false, nat_eq, ◌==◌, Option, Some, None, is_some, slice_get, if◌then◌else◌}
use Rattle.std.specs.List.{flat_map}
use Rattle.dex_base.specs.Leb.{uleb_text}
use Rattle.dex_base.specs.Mutf8.{text_bytes}
use Rattle.program_model.specs.declared.pass.Renumber.{Renumber}
use Rattle.program_model.specs.declared.value.EncValue.{EncValue}
use Rattle.program_model.specs.declared.value.EncValue.TheVariants as value
use Rattle.program_model.specs.declared.program.Field.{Field}
use Rattle.program_model.specs.declared.program.Class.{Class}
use Rattle.program_model.specs.declared.program.Program.{Program}
use Rattle.program_model.specs.MemberRules.{field_letter}
use Rattle.dex_pools.specs.Written.{value_text}
use Rattle.dex_write.specs.declared.ordered.MethodPart.{MethodPart}
use Rattle.dex_write.specs.Plans.{Plan, Numbered, field_flags, method_flags}
use Rattle.dex_write.specs.Codes.{code_offset, code_behind, codes_behind}

-- ---- class data

-- fields behind one with this number: the step of each number, and the flags
abbrev pub fields_text : Class → ℕ → List Numbered → List ℕ
fields_text c before [] = []
fields_text c before (f ∷ fs) = uleb_text (f.0 - before) ++ (uleb_text (field_flags c f.1) ++ fields_text c f.0 fs)

-- methods likewise, and the offset of each one's code, which comes behind a place
abbrev pub method_text : Class → ℕ → ℕ → MethodPart → List ℕ
method_text c before at m = uleb_text (m.number - before) ++ (uleb_text (method_flags c m.place) ++ uleb_text (code_offset at m))

abbrev pub methods_text : Class → ℕ → ℕ → List MethodPart → List ℕ
methods_text c before at [] = []
methods_text c before at (m ∷ ms) = method_text c before at m ++ methods_text c m.number (code_behind at m) ms

abbrev pub counts_text : ℕ → ℕ → ℕ → ℕ → List ℕ
counts_text statics instances directs virtuals = uleb_text statics ++ (uleb_text instances ++ (uleb_text directs ++ uleb_text virtuals))

-- the class data of a class whose code comes behind a place; nothing for a class without members
unfoldable pub data_text : Plan → ℕ → List ℕ
data_text p at = if nat_eq (length p.fields + length p.methods) 0 then []
    else counts_text p.statics (length p.fields - p.statics) p.directs (length p.methods - p.directs)
    ++ (fields_text p.class 0 (take p.statics p.fields)
    ++ (fields_text p.class 0 (drop p.statics p.fields)
    ++ (methods_text p.class 0 at (take p.directs p.methods)
    ++ methods_text p.class 0 (codes_behind at (take p.directs p.methods)) (drop p.directs p.methods))))

abbrev pub data_texts : ℕ → List Plan → List (List ℕ)
data_texts at [] = []
data_texts at (p ∷ ps) = data_text p at ∷ data_texts (codes_behind at p.methods) ps

-- ---- first values

-- how many of the static fields there are up to the last one with a first value
abbrev pub has_first : Option Field → Bool
has_first None = false
has_first (Some f) = is_some f.first

abbrev pub first_count : Class → ℕ → ℕ → List Numbered → ℕ
first_count c place count [] = count
first_count c place count (f ∷ fs) = first_count c (suc place) (if has_first (slice_get c.fields f.1) then suc place else count) fs

-- what a field holds that has no first value, by the letter of its type
abbrev pub zero_of : ℕ → EncValue
zero_of letter = if letter == 90 then value.Bool false
    else if letter == 66 then value.Byte (pos 0)
    else if letter == 83 then value.Short (pos 0)
    else if letter == 67 then value.Char 0
    else if letter == 73 then value.Int (pos 0)
    else if letter == 74 then value.Long (pos 0)
    else if letter == 70 then value.Float 0
    else if letter == 68 then value.Double 0
    else value.Null

abbrev pub value_or : ℕ → Option EncValue → EncValue
value_or letter None = zero_of letter
value_or letter (Some v) = v

abbrev pub first_text : Program → Renumber → Option Field → List ℕ
first_text p r None = []
first_text p r (Some f) = value_text r (value_or (field_letter p (slice_get p.fields f.name)) f.first)

abbrev pub values_text : Program → Renumber → Class → ℕ → List Numbered → List ℕ
values_text p r c count firsts = uleb_text count ++ flat_map (λ f. first_text p r (slice_get c.fields f.1)) firsts

abbrev pub counted_text : Program → Renumber → Class → ℕ → List Numbered → List ℕ
counted_text p r c count statics = if nat_eq count 0 then []
    else values_text p r c count (take count statics)

unfoldable pub array_text : Program → Renumber → Plan → List ℕ
array_text p r plan = counted_text p r plan.class (first_count plan.class 0 0 (take plan.statics plan.fields)) (take plan.statics plan.fields)

-- ---- strings

abbrev pub string_text : List ℕ → List ℕ
string_text text = uleb_text (length text) ++ text_bytes text

abbrev pub string_in : Option (List ℕ) → List ℕ
string_in None = []
string_in (Some text) = string_text text

abbrev pub string_texts : List (List ℕ) → List ℕ → List (List ℕ)
string_texts strings order = map (λ old. string_in (slice_get strings old)) order
