-- Values whose numbers are below the sizes of their tables.
use Rattle.std.specs.Prelude.{Bool, true, IsTrue, nat_lt, ◌&&◌}
use Rattle.std.specs.List.{list_all}
use Rattle.program_model.specs.declared.value.EncValue.{EncValue, EncValue-F, fold-EncValue}
use Rattle.program_model.specs.declared.value.EncValue.TheOpen.{Str, Class, Field, Method, Enum, Array, Annotation}
use Rattle.program_model.specs.declared.value.Note.{Note, Note-F, fold-Note}
use Rattle.program_model.specs.declared.value.Element.{Element, Element-F, fold-Element}
use Rattle.program_model.specs.declared.value.Mark.{Mark}
use Rattle.dex_pools.specs.declared.scalar.TableSizes.{TableSizes}

-- whether a value is in range, by whether the values in it are
abbrev pub of_value : TableSizes → EncValue-F Bool Bool Bool → Bool
of_value sizes (Str n) = nat_lt n sizes.strings
of_value sizes (Class n) = nat_lt n sizes.types
of_value sizes (Field n) = nat_lt n sizes.fields
of_value sizes (Method n) = nat_lt n sizes.methods
of_value sizes (Enum n) = nat_lt n sizes.fields
of_value sizes (Array values) = list_all (λ b. b) values
of_value sizes (Annotation note) = note
of_value sizes _ = true

abbrev pub of_element : TableSizes → Element-F Bool Bool Bool → Bool
of_element sizes e = nat_lt e.name sizes.strings && e.value

abbrev pub of_note : TableSizes → Note-F Bool Bool Bool → Bool
of_note sizes n = nat_lt n.class sizes.types && list_all (λ b. b) n.elements

abbrev pub value_fits : TableSizes → EncValue → Bool
value_fits sizes v = fold-EncValue Bool Bool Bool (of_value sizes) (of_element sizes) (of_note sizes) v

abbrev pub element_fits : TableSizes → Element → Bool
element_fits sizes e = fold-Element Bool Bool Bool (of_value sizes) (of_element sizes) (of_note sizes) e

abbrev pub note_fits : TableSizes → Note → Bool
note_fits sizes n = fold-Note Bool Bool Bool (of_value sizes) (of_element sizes) (of_note sizes) n

-- each number in it is below the size of its table
abbrev pub ValueInRange : TableSizes → EncValue → Type 0
ValueInRange sizes v = IsTrue (value_fits sizes v)

abbrev pub ElementInRange : TableSizes → Element → Type 0
ElementInRange sizes e = IsTrue (element_fits sizes e)

abbrev pub NoteInRange : TableSizes → Note → Type 0
NoteInRange sizes n = IsTrue (note_fits sizes n)

abbrev pub MarkInRange : TableSizes → Mark → Type 0
MarkInRange sizes m = NoteInRange sizes m.note
