-- What the tables of a program get for a method that is made static: its short form and its new proto (Dalvik executable format,
-- "proto_id_item", "ShortyDescriptor"; this project's profile).
use Rattle.std.specs.Prelude.{ℕ, ◌+◌, ◌&&◌, ◌||◌, not, Bool, true, false, nat_eq, nat_le, nat_lt, List, [], ◌∷◌, ◌++◌, map, length, sum_by, position, replicate, Option, Some, None, is_some, slice_set, if◌then◌else◌}
use Rattle.std.specs.List.{list_any}
use Rattle.std.specs.Cmp.Lexicographic.{pointwise}
use Rattle.dex_base.specs.declared.text.Text.{Text}
use Rattle.program_model.specs.declared.pools.MethodName.{MethodName}
use Rattle.program_model.specs.declared.pools.Proto.{Proto}
use Rattle.program_model.specs.declared.program.Class.{Class}
use Rattle.program_model.specs.declared.program.Method.{Method}
use Rattle.program_model.specs.declared.program.Program.{Program}
use Rattle.program_model.specs.declared.value.Mark.{Mark}
use Rattle.program_model.specs.Distinct.{proto_key}
use Rattle.program_model.specs.Items.{items_of}
use Rattle.program_model.specs.Texts.{letter_of, is_reference}
use Rattle.static_protos.specs.declared.tables.Wanted.{Wanted}

-- ---- the new proto

-- the letter of a type in short forms: that of an object stands for arrays too
abbrev pub letter_at : Program → ℕ → ℕ
letter_at p kind = if is_reference (letter_of p kind) then 76 else letter_of p kind

-- one letter for the result and for each parameter
abbrev pub shorty : Program → ℕ → List ℕ → List ℕ
shorty p result parameters = letter_at p result ∷ map (letter_at p) parameters

abbrev pub same_text : List ℕ → Text → Bool
same_text text other = pointwise nat_eq text other

-- where a text and a proto stand in their tables
abbrev pub text_place : List Text → List ℕ → Option ℕ
text_place strings text = position (same_text text) strings

abbrev pub is_proto : ℕ → List ℕ → Proto → Bool
is_proto result parameters proto = pointwise nat_eq (result ∷ parameters) (proto_key proto)

abbrev pub proto_place : List Proto → ℕ → List ℕ → Option ℕ
proto_place protos result parameters = position (is_proto result parameters) protos

-- ---- the tables as they grow

-- The strings and protos so far, the new proto of each method number that is made static, and how many items the program has with
-- these.
pub record Tables : Type 0 where
  pub strings : List Text
  pub protos : List Proto
  pub given : List (Option ℕ)
  pub items : ℕ

abbrev pub tables_of : Program → Tables
tables_of p = record { strings = p.strings; protos = p.protos; given = replicate (length p.methods) None; items = items_of p }

-- a text at its place, which is appended where it stands nowhere
abbrev pub texts_with : List Text → List ℕ → Option ℕ → List Text
texts_with strings text None = strings ++ text ∷ []
texts_with strings text (Some place) = strings

abbrev pub place_or : ℕ → Option ℕ → ℕ
place_or end None = end
place_or end (Some place) = place

abbrev pub protos_with : List Proto → Proto → Option ℕ → List Proto
protos_with protos proto None = protos ++ proto ∷ []
protos_with protos proto (Some place) = protos

-- the entries of a proto that is appended, and that of the list of annotations of the new parameter
abbrev pub proto_more : List ℕ → Option ℕ → ℕ
proto_more parameters None = length parameters
proto_more parameters (Some place) = 0

abbrev pub marks_more : Bool → ℕ
marks_more true = 1
marks_more false = 0

abbrev pub is_marked : List (List Mark) → Bool
is_marked [] = false
is_marked (ms ∷ mss) = true

-- What a method that is made static needs: the result and the parameters of its new proto, and its short form.
abbrev pub wanted : Program → Class → Method → MethodName → Proto → Wanted
wanted p k m q proto = record {
  number = m.name;
  name = q.name;
  result = proto.result;
  parameters = k.name ∷ proto.parameters;
  text = shorty p proto.result (k.name ∷ proto.parameters);
  marked = is_marked m.parameter_marks;
}

abbrev pub text_at : Tables → Wanted → Option ℕ
text_at t w = text_place t.strings w.text

abbrev pub proto_at : Tables → Wanted → Option ℕ
proto_at t w = proto_place t.protos w.result w.parameters

abbrev pub strings_with : Tables → Wanted → List Text
strings_with t w = texts_with t.strings w.text (text_at t w)

abbrev pub proto_of : Tables → Wanted → Proto
proto_of t w = record { shorty = place_or (length t.strings) (text_at t w); result = w.result; parameters = w.parameters }

abbrev pub items_with : Tables → Wanted → ℕ
items_with t w = t.items + (proto_more w.parameters (proto_at t w) + marks_more w.marked)

-- The tables with what a method that is made static needs: its short form, its proto, and the number of that.
abbrev pub with_new : Tables → Wanted → Tables
with_new t w = record {
  strings = strings_with t w;
  protos = protos_with t.protos (proto_of t w) (proto_at t w);
  given = slice_set t.given w.number (Some (place_or (length t.protos) (proto_at t w)));
  items = items_with t w;
}

-- ---- the tables have room

-- a method of the program, of whatever class, has the name and the new proto
abbrev pub is_taken : Program → ℕ → Option ℕ → Bool
is_taken p name None = false
is_taken p name (Some proto) = list_any (λ r. nat_eq r.name name && nat_eq r.proto proto) p.methods

abbrev pub has_room : Program → Tables → Wanted → Bool
has_room p t w = not (is_taken p w.name (proto_at t w))
    && (is_some (text_at t w) || nat_lt (length t.strings) 65536)
    && (is_some (proto_at t w) || nat_lt (length t.protos) 65535)
    && nat_le (sum_by length (strings_with t w)) 16777216
    && nat_le (items_with t w) 16777216
