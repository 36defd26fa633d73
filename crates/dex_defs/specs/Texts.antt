-- Items as they are written, by what the program and other items say: with the shortest spellings (Dalvik executable format). What has no
-- text is not written.
use Rattle.std.specs.Prelude.{◌+◌, ◌-◌, ℕ, List, [], ◌∷◌, ◌++◌, length, map, Bool, nat_eq, if◌then◌else◌}
use Rattle.std.specs.List.{flat_map, list_any}
use Rattle.std.specs.Int.{w16, w32, to_le_bytes}
use Rattle.std.specs.Cmp.Lexicographic.{pointwise}
use Rattle.dex_base.specs.Leb.{uleb_text}
use Rattle.dex_base.specs.Mutf8.{text_bytes}
use Rattle.line_tables.specs.Text.{item_text}
use Rattle.program_model.specs.declared.program.Program.{Program}
use Rattle.dex_defs.specs.Annotations.{Directory}
use Rattle.dex_defs.specs.ClassData.{Entry, Lists}

abbrev pub words : List ℕ → List ℕ
words ns = flat_map (to_le_bytes w32) ns

-- ---- strings and type lists

abbrev pub string_text : List ℕ → List ℕ
string_text text = uleb_text (length text) ++ text_bytes text

-- type lists, each different one once, in the order of their first use by protos and then by classes
abbrev pub with_list : List (List ℕ) → List ℕ → List (List ℕ)
with_list lists [] = lists
with_list lists (n ∷ ns) = if list_any (pointwise nat_eq (n ∷ ns)) lists then lists else lists ++ (n ∷ ns) ∷ []

abbrev pub all_lists : List (List ℕ) → List (List ℕ) → List (List ℕ)
all_lists lists [] = lists
all_lists lists (one ∷ uses) = all_lists (with_list lists one) uses

abbrev pub type_lists : Program → List (List ℕ)
type_lists p = all_lists [] (map (λ q. q.parameters) p.protos ++ map (λ c. c.interfaces) p.classes)

abbrev pub type_list_text : List ℕ → List ℕ
type_list_text list = words (length list ∷ []) ++ flat_map (to_le_bytes w16) list

-- ---- annotations

-- a set or a list of sets: offsets behind their count; none are not written
abbrev pub offsets_text : List ℕ → List ℕ
offsets_text [] = []
offsets_text (o ∷ os) = words (length (o ∷ os) ∷ o ∷ os)

abbrev pub pairs_words : List (ℕ × ℕ) → List ℕ
pairs_words pairs = flat_map (λ pair. pair.0 ∷ pair.1 ∷ []) pairs

-- a directory that names something
abbrev pub directory_words : Directory → List ℕ
directory_words d = (d.class ∷ length d.fields ∷ length d.methods ∷ length d.parameters ∷ []) ++ (pairs_words d.fields ++ (pairs_words d.methods ++ pairs_words d.parameters))

abbrev pub is_nothing : Directory → Bool
is_nothing d = nat_eq (d.class + (length d.fields + (length d.methods + length d.parameters))) 0

abbrev pub directory_text : Directory → List ℕ
directory_text d = if is_nothing d then [] else words (directory_words d)

-- ---- members

-- each by the step from the number before it
abbrev pub fields_text : ℕ → List Entry → List ℕ
fields_text before [] = []
fields_text before (e ∷ es) = uleb_text (e.number - before) ++ (uleb_text e.flags ++ fields_text e.number es)

abbrev pub methods_text : ℕ → List Entry → List ℕ
methods_text before [] = []
methods_text before (e ∷ es) = uleb_text (e.number - before) ++ (uleb_text e.flags ++ (uleb_text e.code ++ methods_text e.number es))

abbrev pub counts_text : Lists → List ℕ
counts_text l = flat_map uleb_text (length l.statics ∷ (length l.instances ∷ (length l.directs ∷ (length l.virtuals ∷ []))))

abbrev pub class_data_text : Lists → List ℕ
class_data_text l = counts_text l ++ (fields_text 0 l.statics ++ (fields_text 0 l.instances ++ (methods_text 0 l.directs ++ methods_text 0 l.virtuals)))

-- class data of a class with members
abbrev pub member_count : Lists → ℕ
member_count l = length l.statics + (length l.instances + (length l.directs + length l.virtuals))

abbrev pub data_text : Lists → List ℕ
data_text l = if nat_eq (member_count l) 0 then [] else class_data_text l

-- the debug item of a method with lines
abbrev pub lines_text : List ℕ → List ℕ → ℕ → List ℕ
lines_text [] starts parameters = []
lines_text (line ∷ lines) starts parameters = item_text (line ∷ lines) starts parameters
