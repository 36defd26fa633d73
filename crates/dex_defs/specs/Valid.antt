-- Valid files: what is written, whole and in order (Dalvik executable format). A relation; a reader asks far less. Each item that the
-- file names stands where its kind lies, in the order in which items are named, in its shortest spelling, behind zeros alone; what has
-- no text has the offset 0, and but for type lists nothing is named twice.
use Rattle.std.specs.Prelude.{◌≡◌, ◌+◌, ◌-◌, ◌*◌, ◌<◌, ℕ, zero, suc, List, [], ◌∷◌, ◌++◌, length, map, Some, None, take, drop, Contains}
use Rattle.std.specs.List.{All, flat_map, concat}
use Rattle.sha1.specs.Sha1.{sha1}
use Rattle.dex_base.specs.Word.{Is32}
use Rattle.dex_base.specs.Decides.{Entries}
use Rattle.program_model.specs.declared.value.EncValue.{EncValue}
use Rattle.program_model.specs.declared.value.Mark.{Mark}
use Rattle.program_model.specs.declared.body.Body.{Body}
use Rattle.program_model.specs.declared.program.Field.{Field}
use Rattle.program_model.specs.declared.program.Method.{Method}
use Rattle.program_model.specs.declared.program.Class.{Class}
use Rattle.program_model.specs.declared.program.Program.{Program}
use Rattle.program_model.specs.MemberRules.{proto_of}
use Rattle.dex_pools.specs.declared.used.Named.{Named}
use Rattle.dex_pools.specs.declared.used.Named.TheVariants as named
use Rattle.dex_pools.specs.Used.{program_names}
use Rattle.dex_pools.specs.Numbering.{type_entry, proto_entry, field_entry, method_entry}
use Rattle.dex_defs.specs.Here.{Here, AreZeros}
use Rattle.dex_defs.specs.Arranged.{IsNext, Lie, Both, LeadsTo, row_of}
use Rattle.dex_defs.specs.Annotations.{Directory, IsDirectoryOf, offset_for, AreMarksOf}
use Rattle.dex_defs.specs.ClassData.{Entry, Lists, IsClassDataOf}
use Rattle.dex_defs.specs.Sweep.{Piece, Places, IsSwept, instructions}
use Rattle.dex_defs.specs.CodeItems.{Frame, IsCode}
use Rattle.dex_defs.specs.ClassDefs.{Def, IsDef}
use Rattle.dex_defs.specs.Spells.{Spells, sizes_in}
use Rattle.dex_defs.specs.ClassGraph.{IsAbove}
use Rattle.dex_defs.specs.Values.{AreValuesOf}
use Rattle.dex_defs.specs.ValueTexts.{mark_text, array_text}
use Rattle.dex_defs.specs.LaysOut.{AreSizes}
use Rattle.dex_defs.specs.CodeTexts.{AreShortest, code_text}
use Rattle.dex_defs.specs.Texts.{words, string_text, type_lists, type_list_text, offsets_text, directory_text, data_text, lines_text}

-- ---- unused entries

-- what the classes name, and what the entries of the tables name
abbrev pub all_names : Program → List Named
all_names p = program_names p
    ++ (flat_map (λ string. type_entry (Some string)) p.types
    ++ (flat_map (λ q. proto_entry (Some q)) p.protos
    ++ (flat_map (λ f. field_entry (Some f)) p.fields ++ flat_map (λ m. method_entry (Some m)) p.methods)))

-- No entry is unused: each is named by a class or by another entry, and entries name none of their own table.
pub record AllUsed (p : Program) : Type 0 where
  pub strings : (n : ℕ) → n < length p.strings → Contains (all_names p) (named.Text n)
  pub types : (n : ℕ) → n < length p.types → Contains (all_names p) (named.Kind n)
  pub protos : (n : ℕ) → n < length p.protos → Contains (all_names p) (named.Proto n)
  pub fields : (n : ℕ) → n < length p.fields → Contains (all_names p) (named.Field n)
  pub methods : (n : ℕ) → n < length p.methods → Contains (all_names p) (named.Method n)

-- ---- what the file has, found by the places that name it

-- the code item of a method: where it says that the debug item stands, its bytes, and those of the debug item
pub record CodePart : Type 0 where
  pub debug : ℕ
  pub text : List ℕ
  pub lines : List ℕ

-- of a class; refs are, for each method, the sets that its list of sets names
pub record ClassPart : Type 0 where
  pub def : Def
  pub lists : Lists
  pub directory : Directory
  pub values : List EncValue
  pub codes : List CodePart
  pub refs : List (List ℕ)

-- a set: its annotations, and where each stands
pub record SetPart : Type 0 where
  pub marks : List Mark
  pub offsets : List ℕ

-- where strings stand, the type lists of protos, and each type list
pub record Parts : Type 0 where
  pub strings : List ℕ
  pub parameters : List ℕ
  pub starts : List ℕ
  pub classes : List ClassPart
  pub sets : List SetPart

-- ---- code

-- how many parameters a method has
abbrev pub parameters_of : Program → Method → ℕ
parameters_of p m = elim (proto_of p m.name) [ Some proto ↦ length proto.parameters | None ↦ 0 ]

abbrev pub methods_of : Lists → List Entry
methods_of l = l.directs ++ l.virtuals

abbrev pub fields_of : Lists → List Entry
fields_of l = l.statics ++ l.instances

-- a method without code has neither item
pub record IsNoCode (part : CodePart) : Type 0 where
  pub text : part.text ≡ []
  pub lines : part.lines ≡ []
  pub debug : part.debug ≡ 0

-- a method with code has a code item in the least layout, and a debug item where it has lines
pub record IsSomeCode (bytes : List ℕ) (p : Program) (at : ℕ) (m : Method) (part : CodePart) : Type 0 where
  pub body : Body
  pub is_body : m.body ≡ Some body
  pub frame : Frame
  pub places : Places
  pub code : IsCode bytes (length p.types) at frame places body
  pub pieces : List Piece
  pub swept : IsSwept places.units pieces
  pub shortest : AreShortest places (instructions pieces) body.insns
  pub sizes : List ℕ
  pub least : AreSizes body sizes
  pub debug : part.debug ≡ frame.debug
  pub text : part.text ≡ code_text sizes (map (λ piece. piece.text) (instructions pieces)) part.debug body
  pub lines : part.lines ≡ lines_text m.lines places.starts (parameters_of p m)

abbrev pub IsCodePart : List ℕ → Program → ℕ → Method → CodePart → Type 0
IsCodePart bytes p zero m part = IsNoCode part
IsCodePart bytes p (suc k) m part = IsSomeCode bytes p (suc k) m part

abbrev pub AreCodes : List ℕ → Program → List Entry → List Method → List CodePart → Type 0
AreCodes bytes p [] [] [] = Unit {0}
AreCodes bytes p [] [] (x ∷ xs) = ⊥
AreCodes bytes p [] (m ∷ ms) xs = ⊥
AreCodes bytes p (e ∷ es) [] xs = ⊥
AreCodes bytes p (e ∷ es) (m ∷ ms) [] = ⊥
AreCodes bytes p (e ∷ es) (m ∷ ms) (x ∷ xs) = IsCodePart bytes p e.code m x × AreCodes bytes p es ms xs

-- ---- classes

-- each pair of a directory names something
pub record NamesAll (d : Directory) : Type 0 where
  pub fields : All (λ pair. 0 < pair.1) d.fields
  pub methods : All (λ pair. 0 < pair.1) d.methods
  pub parameters : All (λ pair. 0 < pair.1) d.parameters

-- the last of the first values that are written is one of the program's
abbrev pub EndsInFirst : List EncValue → List Field → Type 0
EndsInFirst [] fs = Unit {0}
EndsInFirst (v ∷ vs) [] = ⊥
EndsInFirst (v ∷ []) (f ∷ fs) = (w : EncValue) × (f.first ≡ Some w)
EndsInFirst (v ∷ w ∷ vs) (f ∷ fs) = EndsInFirst (w ∷ vs) fs

abbrev pub types_at : Program → ℕ
types_at p = 112 + 4 * length p.strings

abbrev pub protos_at : Program → ℕ
protos_at p = types_at p + 4 * length p.types

abbrev pub fields_at : Program → ℕ
fields_at p = protos_at p + 12 * length p.protos

abbrev pub methods_at : Program → ℕ
methods_at p = fields_at p + 8 * length p.fields

abbrev pub classes_at : Program → ℕ
classes_at p = methods_at p + 8 * length p.methods

-- the tables stand one behind another behind the header, and the data behind them
abbrev pub data_at : Program → ℕ
data_at p = classes_at p + 32 * length p.classes

pub record IsClassPart (bytes : List ℕ) (p : Program) (i : ℕ) (c : Class) (x : ClassPart) : Type 0 where
  pub def : IsDef bytes (classes_at p + 32 * i) x.def
  pub lists : IsClassDataOf bytes x.def.data_at x.lists
  pub directory : IsDirectoryOf bytes x.def.annotations x.directory
  pub pairs : NamesAll x.directory
  pub values : AreValuesOf bytes (sizes_in p) x.def.values x.values
  pub few : EndsInFirst x.values c.fields
  pub codes : AreCodes bytes p (methods_of x.lists) c.methods x.codes
  pub refs : Both (λ m offsets. length offsets ≡ length m.parameter_marks) c.methods x.refs

abbrev pub AreClassParts : List ℕ → Program → ℕ → List Class → List ClassPart → Type 0
AreClassParts bytes p i [] [] = Unit {0}
AreClassParts bytes p i [] (x ∷ xs) = ⊥
AreClassParts bytes p i (c ∷ cs) [] = ⊥
AreClassParts bytes p i (c ∷ cs) (x ∷ xs) = IsClassPart bytes p i c x × AreClassParts bytes p (suc i) cs xs

-- ---- where items are named, kind by kind, in order

abbrev pub ref_offsets : ClassPart → List ℕ
ref_offsets x = map (λ e. offset_for e.number x.directory.parameters) (methods_of x.lists)

-- a class's own set, those of its fields and its methods, and those of its methods' parameters
abbrev pub set_offsets : ClassPart → List ℕ
set_offsets x = x.directory.class ∷ (map (λ e. offset_for e.number x.directory.fields) (fields_of x.lists) ++ (map (λ e. offset_for e.number x.directory.methods) (methods_of x.lists) ++ concat x.refs))

abbrev pub codes_of : List ClassPart → List CodePart
codes_of xs = flat_map (λ x. x.codes) xs

abbrev pub entries_of : List ClassPart → List Entry
entries_of xs = flat_map (λ x. methods_of x.lists) xs

-- the sets that are named there
abbrev pub AreSets : List ℕ → Program → List ℕ → List SetPart → Type 0
AreSets bytes p offsets sets = Both (λ offset s. AreMarksOf bytes (sizes_in p) offset s.marks × (length s.offsets ≡ length s.marks)) offsets sets

-- where each kind ends
pub record Stops : Type 0 where
  pub lists : ℕ
  pub refs : ℕ
  pub sets : ℕ
  pub codes : ℕ
  pub directories : ℕ
  pub members : ℕ
  pub strings : ℕ
  pub lines : ℕ
  pub marks : ℕ
  pub values : ℕ

-- the kinds one behind another, the first five at multiples of four
pub record LieInOrder (bytes : List ℕ) (p : Program) (x : Parts) (stops : Stops) : Type 0 where
  pub lists : Lie bytes 4 (data_at p) x.starts (map type_list_text (type_lists p)) stops.lists
  pub refs : Lie bytes 4 stops.lists (flat_map ref_offsets x.classes) (flat_map (λ c. map offsets_text c.refs) x.classes) stops.refs
  pub sets : Lie bytes 4 stops.refs (flat_map set_offsets x.classes) (map (λ s. offsets_text s.offsets) x.sets) stops.sets
  pub codes : Lie bytes 4 stops.sets (map (λ e. e.code) (entries_of x.classes)) (map (λ c. c.text) (codes_of x.classes)) stops.codes
  pub directories : Lie bytes 4 stops.codes (map (λ c. c.def.annotations) x.classes) (map (λ c. directory_text c.directory) x.classes) stops.directories
  pub members : Lie bytes 1 stops.directories (map (λ c. c.def.data_at) x.classes) (map (λ c. data_text c.lists) x.classes) stops.members
  pub strings : Lie bytes 1 stops.members x.strings (map string_text p.strings) stops.strings
  pub lines : Lie bytes 1 stops.strings (map (λ c. c.debug) (codes_of x.classes)) (map (λ c. c.lines) (codes_of x.classes)) stops.lines
  pub marks : Lie bytes 1 stops.lines (flat_map (λ s. s.offsets) x.sets) (flat_map (λ s. map mark_text s.marks) x.sets) stops.marks
  pub values : Lie bytes 1 stops.marks (map (λ c. c.def.values) x.classes) (map (λ c. array_text c.values) x.classes) stops.values

-- ---- the map

abbrev pub data_rows : Parts → List ℕ
data_rows x = row_of 0x1001 x.starts
    ++ (row_of 0x1002 (flat_map ref_offsets x.classes)
    ++ (row_of 0x1003 (flat_map set_offsets x.classes)
    ++ (row_of 0x2001 (map (λ e. e.code) (entries_of x.classes))
    ++ (row_of 0x2006 (map (λ c. c.def.annotations) x.classes)
    ++ (row_of 0x2000 (map (λ c. c.def.data_at) x.classes)
    ++ (row_of 0x2002 x.strings
    ++ (row_of 0x2003 (map (λ c. c.debug) (codes_of x.classes))
    ++ (row_of 0x2004 (flat_map (λ s. s.offsets) x.sets) ++ row_of 0x2005 (map (λ c. c.def.values) x.classes)))))))))

abbrev pub table_entry : ℕ → ℕ → ℕ → List ℕ
table_entry code zero at = []
table_entry code (suc n) at = code ∷ (suc n ∷ (at ∷ []))

abbrev pub table_entries : Program → List ℕ
table_entries p = (0 ∷ 1 ∷ 0 ∷ [])
    ++ (table_entry 1 (length p.strings) 112
    ++ (table_entry 2 (length p.types) (types_at p)
    ++ (table_entry 3 (length p.protos) (protos_at p)
    ++ (table_entry 4 (length p.fields) (fields_at p)
    ++ (table_entry 5 (length p.methods) (methods_at p) ++ table_entry 6 (length p.classes) (classes_at p))))))

abbrev pub map_rows : Program → Parts → ℕ → List ℕ
map_rows p x at = table_entries p ++ (data_rows x ++ (0x1000 ∷ 1 ∷ at ∷ []))

-- how many entries these are, each of three words: its code, how many items there are, and where the first one stands
abbrev pub thirds : List ℕ → ℕ
thirds (a ∷ b ∷ c ∷ ns) = suc (thirds ns)
thirds _ = 0

abbrev pub map_words : Program → Parts → ℕ → List ℕ
map_words p x at = thirds (map_rows p x at) ∷ map_rows p x at

-- the offset of an empty table is 0
abbrev pub table_offset : ℕ → ℕ → ℕ
table_offset zero at = 0
table_offset (suc n) at = at

-- the words of the header from link_size on, which say where all stands
abbrev pub header_words : Program → ℕ → ℕ → List ℕ
header_words p map_at size = 0 ∷ 0 ∷ map_at
    ∷ length p.strings ∷ table_offset (length p.strings) 112
    ∷ length p.types ∷ table_offset (length p.types) (types_at p)
    ∷ length p.protos ∷ table_offset (length p.protos) (protos_at p)
    ∷ length p.fields ∷ table_offset (length p.fields) (fields_at p)
    ∷ length p.methods ∷ table_offset (length p.methods) (methods_at p)
    ∷ length p.classes ∷ table_offset (length p.classes) (classes_at p)
    ∷ (size - data_at p) ∷ data_at p ∷ []

-- the map is the last of all, and the header says where all stands
pub record HasMap (bytes : List ℕ) (p : Program) (x : Parts) (from : ℕ) : Type 0 where
  pub at : ℕ
  pub next : IsNext 4 from at
  pub zeros : AreZeros bytes from at
  pub is : Here bytes at (words (map_words p x at))
  pub last : length bytes ≡ at + length (words (map_words p x at))
  pub header : Here bytes 44 (words (header_words p at (length bytes)))

-- ---- the whole

-- the parts are those that the file has
pub record AreParts (bytes : List ℕ) (p : Program) (x : Parts) : Type 0 where
  pub strings : Entries (length p.strings) (λ i at. Is32 bytes (112 + 4 * i) at) x.strings
  pub parameters : Entries (length p.protos) (λ i at. Is32 bytes (protos_at p + 12 * i + 8) at) x.parameters
  pub lists : Both (λ q offset. LeadsTo (type_lists p) x.starts q.parameters offset) p.protos x.parameters
  pub classes : AreClassParts bytes p 0 p.classes x.classes
  pub interfaces : Both (λ c part. LeadsTo (type_lists p) x.starts c.interfaces part.def.interfaces) p.classes x.classes
  pub sets : AreSets bytes p (flat_map set_offsets x.classes) x.sets

-- all but the signature
pub record IsValidFor (bytes : List ℕ) (p : Program) : Type 0 where
  pub spelled : Spells bytes p
  pub used : AllUsed p
  pub parts : Parts
  pub are : AreParts bytes p parts
  pub stops : Stops
  pub lie : LieInOrder bytes p parts stops
  pub map : HasMap bytes p parts stops.values
  pub above_first : (class upper : ℕ) → IsAbove p class upper → upper < class

abbrev pub IsSigned : List ℕ → Type 0
IsSigned bytes = take 20 (drop 12 bytes) ≡ sha1 (drop 32 bytes)

pub record ValidFile (bytes : List ℕ) : Type 0 where
  pub program : Program
  pub valid : IsValidFor bytes program
  pub signature : IsSigned bytes
