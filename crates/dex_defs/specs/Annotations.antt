-- Annotations (Dalvik executable format, "annotations_directory_item", "annotation_set_item", "annotation_set_ref_list").
use Rattle.std.specs.Prelude.{◌≡◌, ◌+◌, ◌*◌, ◌<◌, ℕ, zero, suc, List, [], ◌∷◌, length, slice_index, if◌then◌else◌, Bool, nat_lt, nat_eq}
use Rattle.dex_base.specs.Word.{Is32}
use Rattle.dex_base.specs.Decides.{Each}
use Rattle.program_model.specs.declared.value.Mark.{Mark}
use Rattle.dex_pools.specs.declared.scalar.TableSizes.{TableSizes}
use Rattle.dex_pools.specs.Marks.{mark_below}
use Rattle.dex_pools.specs.Finds.{Ascends}
use Rattle.dex_defs.specs.Values.{IsValue, IsNote}

-- the annotation at this place: its visibility, its type and its elements, in which values nest 64 deep at most
pub record IsMark (bytes : List ℕ) (sizes : TableSizes) (at : ℕ) (mark : Mark) : Type 0 where
  pub inside : at < length bytes
  pub visibility : mark.visibility ≡ slice_index bytes at
  pub stop : ℕ
  pub note : IsNote bytes sizes (IsValue bytes sizes 64) (at + 1) (mark.note, stop)

-- the offset of this number of the set or the list at this place
abbrev pub IsOffset : List ℕ → ℕ → ℕ → ℕ → Type 0
IsOffset bytes at i offset = Is32 bytes (at + 4 + 4 * i) offset

-- the annotation that the offset of this number names
pub record IsMarkOf (bytes : List ℕ) (sizes : TableSizes) (at i : ℕ) (mark : Mark) : Type 0 where
  pub offset : ℕ
  pub is : IsOffset bytes at i offset
  pub is_mark : IsMark bytes sizes offset mark

-- the set at this place: its annotations in the order of their types
pub record AreMarks (bytes : List ℕ) (sizes : TableSizes) (at : ℕ) (marks : List Mark) : Type 0 where
  pub count : Is32 bytes at (length marks)
  pub are : Each (IsMarkOf bytes sizes at) 0 marks
  pub ascend : Ascends mark_below marks

-- the offset 0 stands for none
abbrev pub AreMarksOf : List ℕ → TableSizes → ℕ → List Mark → Type 0
AreMarksOf bytes sizes zero marks = marks ≡ []
AreMarksOf bytes sizes (suc k) marks = AreMarks bytes sizes (suc k) marks

-- the set of the parameter of this number
pub record IsSetOf (bytes : List ℕ) (sizes : TableSizes) (at i : ℕ) (marks : List Mark) : Type 0 where
  pub offset : ℕ
  pub is : IsOffset bytes at i offset
  pub are : AreMarksOf bytes sizes offset marks

-- the sets of the parameters, by the list at this place
pub record AreParameterMarks (bytes : List ℕ) (sizes : TableSizes) (at : ℕ) (marks : List (List Mark)) : Type 0 where
  pub count : Is32 bytes at (length marks)
  pub are : Each (IsSetOf bytes sizes at) 0 marks

abbrev pub AreParameterMarksOf : List ℕ → TableSizes → ℕ → List (List Mark) → Type 0
AreParameterMarksOf bytes sizes zero marks = marks ≡ []
AreParameterMarksOf bytes sizes (suc k) marks = AreParameterMarks bytes sizes (suc k) marks

-- the annotations of a class: an offset for the class itself, and offsets for members by their numbers
pub record Directory : Type 0 where
  pub class : ℕ
  pub fields : List (ℕ × ℕ)
  pub methods : List (ℕ × ℕ)
  pub parameters : List (ℕ × ℕ)

abbrev pub no_directory : Directory
no_directory = record { class = 0; fields = []; methods = []; parameters = [] }

-- pairs of a member's number and an offset
abbrev pub ArePairs : List ℕ → ℕ → List (ℕ × ℕ) → Type 0
ArePairs bytes at pairs = Each (λ i pair. Is32 bytes (at + 8 * i) pair.0 × Is32 bytes (at + 8 * i + 4) pair.1) 0 pairs

abbrev pub pair_below : ℕ × ℕ → ℕ × ℕ → Bool
pair_below p q = nat_lt p.0 q.0

-- the directory that stands at this place, whatever members it names
pub record IsDirectory (bytes : List ℕ) (at : ℕ) (d : Directory) : Type 0 where
  pub class : Is32 bytes at d.class
  pub field_count : Is32 bytes (at + 4) (length d.fields)
  pub method_count : Is32 bytes (at + 8) (length d.methods)
  pub parameter_count : Is32 bytes (at + 12) (length d.parameters)
  pub fields : ArePairs bytes (at + 16) d.fields
  pub methods : ArePairs bytes (at + 16 + 8 * length d.fields) d.methods
  pub parameters : ArePairs bytes (at + 16 + 8 * length d.fields + 8 * length d.methods) d.parameters

abbrev pub IsDirectoryOf : List ℕ → ℕ → Directory → Type 0
IsDirectoryOf bytes zero d = d ≡ no_directory
IsDirectoryOf bytes (suc k) d = IsDirectory bytes (suc k) d

-- each list ascends by the members' numbers
pub record InOrder (d : Directory) : Type 0 where
  pub fields : Ascends pair_below d.fields
  pub methods : Ascends pair_below d.methods
  pub parameters : Ascends pair_below d.parameters

-- the offset that a list has for a member, 0 where it has none
abbrev pub offset_for : ℕ → List (ℕ × ℕ) → ℕ
offset_for number [] = 0
offset_for number (pair ∷ pairs) = if nat_eq pair.0 number then pair.1 else offset_for number pairs
