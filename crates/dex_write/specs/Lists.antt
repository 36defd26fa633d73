-- Type lists, each different one once, in the order of first use (Dalvik executable format, "type_list").
use Rattle.std.specs.Prelude.{ℕ, ◌+◌, ◌%◌, List, [], ◌∷◌, ◌++◌, length, map, Option, Some, None, if◌then◌else◌, slice_get, slice_index_or, replicate}
use Rattle.std.specs.List.{flat_map, list_any, position_or_len}
use Rattle.std.specs.Int.{w16, to_le_bytes}
use Rattle.dex_pools.specs.declared.interner.Interner.{Interner}
use Rattle.program_model.specs.declared.pools.Proto.{Proto}
use Rattle.program_model.specs.declared.program.Program.{Program}
pub use Rattle.code_write.specs.Lists.{is_same, lists_in, list_at}
use Rattle.dex_pools.specs.Written.{renumbered}
use Rattle.dex_write.specs.declared.run.Kind.TheVariants.{TypeList}
use Rattle.dex_write.specs.declared.run.Run.{Run}
use Rattle.dex_write.specs.declared.lists.Lists.{Lists}
use Rattle.dex_write.specs.Numbers.{words, gap, up}
use Rattle.dex_write.specs.Plans.{Plan}

-- the lists so far, with one more where it is not empty and not among them; and which one it is
abbrev pub with_list : List (List ℕ) → List ℕ → List (List ℕ)
with_list lists [] = lists
with_list lists (n ∷ ns) = if list_any (is_same (n ∷ ns)) lists then lists else lists ++ (n ∷ ns) ∷ []

abbrev pub index_of : List (List ℕ) → List ℕ → Option ℕ
index_of lists [] = None
index_of lists (n ∷ ns) = Some (position_or_len (is_same (n ∷ ns)) lists)

abbrev pub all_lists : List (List ℕ) → List (List ℕ) → List (List ℕ)
all_lists lists [] = lists
all_lists lists (one ∷ uses) = all_lists (with_list lists one) uses

abbrev pub indexes_of : List (List ℕ) → List (List ℕ) → List (Option ℕ)
indexes_of lists [] = []
indexes_of lists (one ∷ uses) = index_of lists one ∷ indexes_of (with_list lists one) uses

-- ---- what uses lists, in new numbers

abbrev pub parameters_in : Option Proto → List ℕ
parameters_in None = []
parameters_in (Some proto) = proto.parameters

abbrev pub proto_use : List ℕ → Program → ℕ → List ℕ
proto_use types p old = map (renumbered types) (parameters_in (slice_get p.protos old))

abbrev pub class_use : List ℕ → Plan → List ℕ
class_use types plan = map (renumbered types) plan.class.interfaces

-- ---- their bytes

abbrev pub list_text : List ℕ → List ℕ
list_text list = words (length list ∷ []) ++ flat_map (λ kind. to_le_bytes w16 (kind % 65536)) list

-- a list behind zeros up to a multiple of four, and lists one behind another; and where each begins
abbrev pub padded_text : ℕ → List ℕ → List ℕ
padded_text at list = replicate (gap at) 0 ++ list_text list

abbrev pub lists_text : ℕ → List (List ℕ) → List ℕ
lists_text at [] = []
lists_text at (list ∷ lists) = padded_text at list ++ lists_text (at + length (padded_text at list)) lists

abbrev pub list_starts : ℕ → List (List ℕ) → List ℕ
list_starts at [] = []
list_starts at (list ∷ lists) = up at ∷ list_starts (at + length (padded_text at list)) lists

-- the offset of a list that is used, 0 for the empty one
abbrev pub used_offset : List ℕ → Option ℕ → ℕ
used_offset starts None = 0
used_offset starts (Some index) = slice_index_or starts index 0

-- ---- those of a program: of the protos that are used, in their order, and then of the classes

abbrev pub protos_use : Program → Interner → List (List ℕ)
protos_use p i = map (proto_use i.numbers.types.items p) i.order.protos.items

abbrev pub classes_use : Interner → List Plan → List (List ℕ)
classes_use i plans = map (class_use i.numbers.types.items) plans

unfoldable pub type_lists : Program → Interner → List Plan → List (List ℕ)
type_lists p i plans = all_lists (all_lists [] (protos_use p i)) (classes_use i plans)

-- the offsets of the parameters of the protos and of the interfaces of the classes, where the lists stand from a place on
abbrev pub proto_offsets : Program → Interner → List Plan → ℕ → List ℕ
proto_offsets p i plans at = map (used_offset (list_starts at (type_lists p i plans))) (indexes_of [] (protos_use p i))

abbrev pub interface_offsets : Program → Interner → List Plan → ℕ → List ℕ
interface_offsets p i plans at = map (used_offset (list_starts at (type_lists p i plans))) (indexes_of (all_lists [] (protos_use p i)) (classes_use i plans))

abbrev pub list_run : ℕ → List (List ℕ) → Run
list_run at lists = record { kind = TypeList; count = length (list_starts at lists); at = at; bytes = lists_text at lists }

-- the run of lists from a place on, and the offsets of those that are used
abbrev pub lists_used : List (List ℕ) → List (Option ℕ) → List (Option ℕ) → ℕ → Lists
lists_used lists parameters interfaces at = record { run = list_run at lists; parameters = map (used_offset (list_starts at lists)) parameters; interfaces = map (used_offset (list_starts at lists)) interfaces }

-- the run of the lists of a program from a place on, and those offsets
unfoldable pub lists_at : Program → Interner → List Plan → ℕ → Lists
lists_at p i plans at = record { run = list_run at (type_lists p i plans); parameters = proto_offsets p i plans at; interfaces = interface_offsets p i plans at }
