-- Sets of annotations, lists of sets, and directories (Dalvik executable format, "annotation_set_item",
-- "annotation_set_ref_list", "annotations_directory_item").
use Rattle.std.specs.Prelude.{◌≡◌, ℕ, zero, suc, ◌+◌, ◌*◌, ◌&&◌, Bool, List, [], ◌∷◌, ◌++◌, length, map, take, drop, sum, nat_eq, if◌then◌else◌, Option, Some, None, slice_get}
use Rattle.std.specs.List.{flat_map}
use Rattle.program_model.specs.declared.value.Mark.{Mark}
use Rattle.program_model.specs.declared.pass.Renumber.{Renumber}
use Rattle.program_model.specs.declared.value.Note.{out-Note}
use Rattle.dex_pools.specs.Written.{renumbered, mark_text}
use Rattle.dex_write.specs.declared.ordered.MethodPart.{MethodPart}
use Rattle.dex_write.specs.Numbers.{words, at_place}
use Rattle.dex_write.specs.Plans.{Plan, Numbered, spot, in_order, field_marks, method_marks, parameter_marks}

-- ---- lists of four-byte entries behind their count

-- the size of a list of so many entries; the empty one is not written
abbrev pub size_of : ℕ → ℕ
size_of zero = 0
size_of (suc n) = 4 + 4 * suc n

-- where each list stands, the first from this place on, 0 for an empty one; and where all end
abbrev pub offset_at : ℕ → ℕ → ℕ
offset_at at zero = 0
offset_at at (suc n) = at

abbrev pub offsets_at : ℕ → List ℕ → List ℕ
offsets_at at [] = []
offsets_at at (n ∷ ns) = offset_at at n ∷ offsets_at (at + size_of n) ns

abbrev pub ends_at : ℕ → List ℕ → ℕ
ends_at at [] = at
ends_at at (n ∷ ns) = ends_at (at + size_of n) ns

-- lists of so many of the entries each, every entry so far behind a base
abbrev pub counted : ℕ → ℕ → List ℕ → List ℕ
counted base zero entries = []
counted base (suc n) entries = suc n ∷ map (λ entry. base + entry) entries

abbrev pub lists_of : ℕ → List ℕ → List ℕ → List ℕ
lists_of base [] entries = []
lists_of base (n ∷ ns) entries = counted base n (take n entries) ++ lists_of base ns (drop n entries)

-- ---- annotations

-- what a class has, in order: its own set, those of its fields and methods, and those of its methods' parameters
abbrev pub sets_of : Plan → List (List Mark)
sets_of p = p.class.marks
    ∷ (map (λ f. field_marks p.class f.1) p.fields
    ++ (map (λ m. method_marks p.class m.place) p.methods
    ++ flat_map (λ m. parameter_marks p.class m.place) p.methods))

-- the annotations of a set by the numbers of their types
abbrev pub marks_from : List ℕ → ℕ → List Mark → List Numbered
marks_from types place [] = []
marks_from types place (m ∷ ms) = spot (renumbered types (out-Note m.note).class) place ∷ marks_from types (suc place) ms

abbrev pub mark_list : Option Mark → List Mark
mark_list None = []
mark_list (Some m) = m ∷ []

unfoldable pub ordered_marks : Renumber → List Mark → List Mark
ordered_marks r marks = flat_map (λ n. mark_list (slice_get marks n.1)) (in_order (marks_from r.types.items 0 marks))

-- annotations one behind another, and where each begins, the first at this place
abbrev pub mark_starts : Renumber → ℕ → List Mark → List ℕ
mark_starts r at [] = []
mark_starts r at (m ∷ ms) = at ∷ mark_starts r (at + length (mark_text r m)) ms

-- these annotations were added
pub record Added (r : Renumber) (ms : List Mark) (old_bytes old_starts bytes starts : List ℕ) : Type 0 where
  pub bytes_are : bytes ≡ old_bytes ++ flat_map (mark_text r) ms
  pub starts_are : starts ≡ old_starts ++ mark_starts r (length old_bytes) ms

-- ---- what the classes have

unfoldable pub set_counts : Plan → List ℕ
set_counts p = map length (sets_of p)

unfoldable pub ref_counts : Plan → List ℕ
ref_counts p = map (λ m. length (parameter_marks p.class m.place)) p.methods

unfoldable pub marks_of : Renumber → Plan → List Mark
marks_of r p = flat_map (ordered_marks r) (sets_of p)

-- how many sets stand before those of the parameters, and how many of those there are
abbrev pub own_count : Plan → ℕ
own_count p = 1 + (length p.fields + length p.methods)

abbrev pub parameter_count : Plan → ℕ
parameter_count p = sum (ref_counts p)

-- the offsets of the parameters' sets among those of all
abbrev pub own_offsets : Plan → List ℕ → List ℕ
own_offsets p sets = take (parameter_count p) (drop (own_count p) sets)

abbrev pub behind_class : Plan → List ℕ → List ℕ
behind_class p sets = drop (parameter_count p) (drop (own_count p) sets)

abbrev pub parameter_offsets : List Plan → List ℕ → List ℕ
parameter_offsets [] sets = []
parameter_offsets (p ∷ ps) sets = own_offsets p sets ++ parameter_offsets ps (behind_class p sets)

-- ---- directories

-- the number of each member that has an offset, and this; the first member's stands at a place
abbrev pub pair_list : ℕ → ℕ → List Numbered
pair_list number zero = []
pair_list number (suc n) = spot number (suc n) ∷ []

abbrev pub field_pairs : List Numbered → ℕ → List ℕ → List Numbered
field_pairs [] at offsets = []
field_pairs (f ∷ fs) at offsets = pair_list f.0 (at_place offsets at) ++ field_pairs fs (suc at) offsets

abbrev pub method_pairs : List MethodPart → ℕ → List ℕ → List Numbered
method_pairs [] at offsets = []
method_pairs (m ∷ ms) at offsets = pair_list m.number (at_place offsets at) ++ method_pairs ms (suc at) offsets

abbrev pub pair_words : List Numbered → List ℕ
pair_words pairs = flat_map (λ pair. pair.0 ∷ pair.1 ∷ []) pairs

abbrev pub filled_words : ℕ → List Numbered → List Numbered → List Numbered → List ℕ
filled_words own fields methods parameters = (own ∷ length fields ∷ length methods ∷ length parameters ∷ []) ++ (pair_words fields ++ (pair_words methods ++ pair_words parameters))

abbrev pub is_bare : ℕ → List Numbered → List Numbered → List Numbered → Bool
is_bare own fields methods parameters = nat_eq own 0 && (nat_eq (length fields) 0 && (nat_eq (length methods) 0 && nat_eq (length parameters) 0))

-- the directory of these offsets; nothing where there are none
abbrev pub directory_words : ℕ → List Numbered → List Numbered → List Numbered → List ℕ
directory_words own fields methods parameters = if is_bare own fields methods parameters then []
    else filled_words own fields methods parameters

unfoldable pub directory_text : Plan → List ℕ → List ℕ → List ℕ
directory_text p sets refs = words (directory_words (at_place sets 0)
    (in_order (field_pairs p.fields 0 (drop 1 sets)))
    (in_order (method_pairs p.methods 0 (drop (length p.fields) (drop 1 sets))))
    (in_order (method_pairs p.methods 0 refs)))

abbrev pub directory_texts : List Plan → List ℕ → List ℕ → List (List ℕ)
directory_texts [] sets refs = []
directory_texts (p ∷ ps) sets refs = directory_text p sets refs ∷ directory_texts ps (behind_class p sets) (drop (length p.methods) refs)
