-- The least file has no fault, and what it spells is typed.
use Rattle.std.proofs.Common.{◌≡◌, ◌<◌, ◌∙◌, ℕ, zero, suc, true, List, [], ◌∷◌, length, Contains, Some, refl, sym, subst, arith}
use Rattle.std.specs.Prelude.{slice_get, slice_index, nat_lt}
use Rattle.std.specs.List.{list_all}
use Rattle.std.proofs.lemmas.Bool.{ltb-true}
use Rattle.lemmas.proofs.Bools.{and_parts}
use Rattle.class_defs.specs.ClassGraph.{IsAbove, StepsTo}
use Rattle.dalvik_defs.specs.Naming.{named}
use Rattle.dalvik_defs.specs.declared.program.NamedClass.{NamedClass}
use Rattle.dex_base.specs.Word.{Is32}
use Rattle.dex_pools.specs.declared.header.Extent.{Extent}
use Rattle.dex_defs.proofs.EmptyFile.{valid}
use Rattle.dex_defs.specs.ClassData.{Entry}
use Rattle.dex_defs.specs.ClassDefs.{Def}
use Rattle.dex_defs.specs.ClassFaults.{InMembers, InRoots, InCode, InGraph, HasFault, BadPart, BadHeader, BadPools, BadOrder, BadValues, BadMember, BadRoot, BadCode, BadGraph}
use Rattle.dex_defs.specs.ClassFaults as kinds
use Rattle.dex_defs.specs.CodeItems.{Frame}
use Rattle.dex_defs.specs.Examples.{empty_file, empty_program}
use Rattle.dex_defs.specs.Faults.{HasText, HasTypeText, IsFixed, InHeader, InPools, OutOfOrder, InValues}
use Rattle.dex_defs.specs.Faults as faults
use Rattle.dex_defs.specs.Parts.{Fault, Part, IsBad}
use Rattle.dex_defs.specs.Placed.{IsTableAt, HasTypeList, InTables, InClasses, InAnnotations, HasNote, IsPlaced}
use Rattle.dex_defs.specs.Placed as placed
use Rattle.dex_defs.specs.Places.{IsTable, IsEntryAt, HasDef, HasEntry, HasFrame, HasDirectory, PairStands, PairLeads, HasSet, HasMark, HasArray, HasOuter, HasValue}
use Rattle.dex_defs.specs.Places as places
use Rattle.dex_defs.specs.Spells.{Spells}
use Rattle.pass_defs.specs.Typed.{IsTyped}
use Rattle.program_model.specs.declared.program.Program.{Program}
use Rattle.program_model.specs.declared.program.Version.TheVariants.{V035}
use Rattle.spelled_law.proofs.OnceFile.{spells_once}
use Rattle.complete_law.specs.Complete.{IsGoodFile}

-- ---- its bytes are bytes, and its tables have no entries

all_below : (xs : List ℕ) → list_all (λ b. nat_lt b 256) xs ≡ true → (i : ℕ) → slice_index xs i < 256
all_below [] h i = omega arith
all_below (x ∷ xs) h zero = ltb-true x 256 (and_parts (nat_lt x 256) (list_all (λ b. nat_lt b 256) xs) h).0
all_below (x ∷ xs) h (suc i) = all_below xs (and_parts (nat_lt x 256) (list_all (λ b. nat_lt b 256) xs) h).1 i

are_bytes : (i : ℕ) → slice_index empty_file i < 256
are_bytes = all_below empty_file refl

spelled : Spells empty_file empty_program
spelled = valid.spelled

abbrev IsNone : ℕ → Type 0
IsNone header = (n : ℕ) → Is32 empty_file header n → n ≡ 0

none_56 : IsNone 56
none_56 n h = h.spelled

none_64 : IsNone 64
none_64 n h = h.spelled

none_72 : IsNone 72
none_72 n h = h.spelled

none_80 : IsNone 80
none_80 n h = h.spelled

none_88 : IsNone 88
none_88 n h = h.spelled

none_96 : IsNone 96
none_96 n h = h.spelled

no_entry : {A : Type 0} (header width i at : ℕ) → IsNone header → IsEntryAt empty_file header width i at → A
no_entry header width i at none h = let size : h.table.size ≡ 0 = none h.table.size h.is.size in let inside = h.inside in absurd (omega (arith, inside, size))

no_def : {A : Type 0} (class : ℕ) (def : Def) → HasDef empty_file class def → A
no_def class def h = no_entry 96 32 class h.at none_96 h.stands

no_text : {A : Type 0} (string : ℕ) (text : List ℕ) (begin : ℕ) → HasText empty_file string text begin → A
no_text string text begin h = no_entry 56 4 string h.entry none_56 h.stands

no_type : {A : Type 0} (kind : ℕ) (text : List ℕ) (begin : ℕ) → HasTypeText empty_file kind text begin → A
no_type kind text begin h = no_entry 64 4 kind h.entry none_64 h.stands

no_member : {A : Type 0} (class which place : ℕ) (e : Entry) → HasEntry empty_file class which place e → A
no_member class which place e h = no_def class h.def h.has

no_frame : {A : Type 0} (class : ℕ) (e : Entry) (at : ℕ) (f : Frame) → HasFrame empty_file class e at f → A
no_frame class e at f h = no_member class h.which h.place e h.entry

no_directory : {A : Type 0} (class at : ℕ) → HasDirectory empty_file class at → A
no_directory class at h = no_def class h.def h.has

no_pair : {A : Type 0} (class which at : ℕ) → PairStands empty_file class which at → A
no_pair class which at h = no_directory class h.directory h.has

no_leads : {A : Type 0} (which at : ℕ) → PairLeads empty_file which at → A
no_leads which at h = no_pair h.class which h.pair h.stands

no_set : {A : Type 0} (at : ℕ) → HasSet empty_file at → A
no_set at (places.OfClass class directory offset has is leads) = no_directory class directory has
no_set at (places.OfField h) = no_leads 0 at h
no_set at (places.OfMethod h) = no_leads 1 at h
no_set at (places.OfParameter refs i offset has listed leads) = no_leads 2 refs has

no_mark : {A : Type 0} (at : ℕ) → HasMark empty_file at → A
no_mark at h = no_set h.set h.has

no_array : {A : Type 0} (class at : ℕ) → HasArray empty_file class at → A
no_array class at h = no_def class h.def h.has

no_outer : {A : Type 0} (at : ℕ) → HasOuter empty_file at → A
no_outer at (places.First class array place has item) = no_array class array has
no_outer at (places.OfMark mark has element) = no_mark mark has

no_value : {A : Type 0} (depth at : ℕ) → HasValue empty_file depth at → A
no_value zero at h = absurd h
no_value (suc zero) at h = no_outer at h
no_value (suc (suc depth)) at h = no_value (suc depth) h.0 h.1

no_note : {A : Type 0} (at : ℕ) → HasNote empty_file at → A
no_note at (placed.OfMark mark has is) = no_mark mark has
no_note at (placed.OfValue depth value has tag is here) = no_value depth value has

no_list : {A : Type 0} (at : ℕ) → HasTypeList empty_file at → A
no_list at (placed.OfProto i entry offset stands is leads) = no_entry 72 12 i entry none_72 stands
no_list at (placed.OfClass class def has leads) = no_def class def has

-- ---- its parts

no_table : {A : Type 0} (header : ℕ) (t : Extent) (k : ℕ) → IsNone k → header ≡ k → IsTable empty_file header t → 0 < t.size → A
no_table header t k none same is some = let size : t.size ≡ 0 = none t.size (subst (λ (n : ℕ). IsTable empty_file n t) same is).size in absurd (omega (arith, some, size))

no_table_at : {A : Type 0} (header width : ℕ) (t : Extent) → IsTableAt header width → IsTable empty_file header t → 0 < t.size → A
no_table_at header width t (placed.Strings e w) is some = no_table header t 56 none_56 e is some
no_table_at header width t (placed.Types e w) is some = no_table header t 64 none_64 e is some
no_table_at header width t (placed.Protos e w) is some = no_table header t 72 none_72 e is some
no_table_at header width t (placed.Fields e w) is some = no_table header t 80 none_80 e is some
no_table_at header width t (placed.Methods e w) is some = no_table header t 88 none_88 e is some
no_table_at header width t (placed.Classes e w) is some = no_table header t 96 none_96 e is some

in_tables : (f : Fault) (part : Part) → InTables empty_file part → IsBad empty_file part f → ⊥
in_tables f _ placed.TheHeader h = let long : length empty_file ≡ 140 = refl in let short = h.0 in omega (arith, short, long)
in_tables f _ (placed.TheTable header width t at is some) h = no_table_at header width t at is some
in_tables f _ (placed.StringCount i entry offset stands is) h = no_entry 56 4 i entry none_56 stands
in_tables f _ (placed.StringText i entry offset units begin stands is counted) h = no_entry 56 4 i entry none_56 stands
in_tables f _ (placed.TypeString i entry size stands is) h = no_entry 64 4 i entry none_64 stands
in_tables f _ (placed.ProtoShorty i entry size stands is) h = no_entry 72 12 i entry none_72 stands
in_tables f _ (placed.ProtoResult i entry size stands is) h = no_entry 72 12 i entry none_72 stands
in_tables f _ (placed.FieldClass i entry size stands is) h = no_entry 80 8 i entry none_80 stands
in_tables f _ (placed.FieldType i entry size stands is) h = no_entry 80 8 i entry none_80 stands
in_tables f _ (placed.FieldText i entry size stands is) h = no_entry 80 8 i entry none_80 stands
in_tables f _ (placed.MethodClass i entry size stands is) h = no_entry 88 8 i entry none_88 stands
in_tables f _ (placed.MethodProto i entry size stands is) h = no_entry 88 8 i entry none_88 stands
in_tables f _ (placed.MethodText i entry size stands is) h = no_entry 88 8 i entry none_88 stands
in_tables f _ (placed.ListCount at list) h = no_list at list
in_tables f _ (placed.ListWhole at count list is) h = no_list at list
in_tables f _ (placed.ListEntry at count i size list is less sized) h = no_list at list

in_classes : (part : Part) → InClasses empty_file part → ⊥
in_classes _ (placed.ClassType class entry size stands is) = no_entry 96 32 class entry none_96 stands
in_classes _ (placed.Superclass class entry size stands is) = no_entry 96 32 class entry none_96 stands
in_classes _ (placed.Source class entry size stands is) = no_entry 96 32 class entry none_96 stands
in_classes _ (placed.FirstCount class at def has leads) = no_def class def has
in_classes _ (placed.SecondCount class at n mid def has leads one) = no_def class def has
in_classes _ (placed.ThirdCount class at n m mid next def has leads one two) = no_def class def has
in_classes _ (placed.FourthCount class at n m k mid next last def has leads one two three) = no_def class def has
in_classes _ (placed.EntryStep class data_at which place before at def has leads stands) = no_def class def has
in_classes _ (placed.EntryFlags class data_at which place before at step mid def has leads stands one) = no_def class def has
in_classes _ (placed.EntryCode class data_at which place before at step flags mid next def has leads stands method one two) = no_def class def has
in_classes _ (placed.CodeFrame class which place at e method has leads) = no_member class which place e has
in_classes _ (placed.CodeUnits class at e f has) = no_frame class e at f has
in_classes _ (placed.CodeTries class at size e f has some ends) = no_frame class e at f has
in_classes _ (placed.ArrayCount class at has) = no_array class at has

in_annotations : (part : Part) → InAnnotations empty_file part → ⊥
in_annotations _ (placed.DirectoryHead class at has) = no_directory class at has
in_annotations _ (placed.DirectoryWhole class at fields methods parameters has counts) = no_directory class at has
in_annotations _ (placed.PairField class pair size stands is) = no_pair class 0 pair stands
in_annotations _ (placed.PairMethod class pair size stands is) = no_pair class 1 pair stands
in_annotations _ (placed.PairParameters class pair size stands is) = no_pair class 2 pair stands
in_annotations _ (placed.RefsCount at has) = no_leads 2 at has
in_annotations _ (placed.RefsWhole at count has is) = no_leads 2 at has
in_annotations _ (placed.SetCount at has) = no_set at has
in_annotations _ (placed.SetWhole at count has is) = no_set at has
in_annotations _ (placed.MarkHead at has) = no_mark at has

in_values : (part : Part) → placed.InValues empty_file part → ⊥
in_values _ (placed.ValueTag depth at has) = no_value depth at has
in_values _ (placed.ValueBytes depth at has tag low) = no_value depth at has
in_values _ (placed.ItemCount depth at has tag is) = no_value depth at has
in_values _ (placed.NoteType at has) = no_note at has
in_values _ (placed.NoteIndex at size has is) = no_note at has
in_values _ (placed.NoteCount at kind mid has is) = no_note at has
in_values _ (placed.ElementText at place element has stands) = no_note at has
in_values _ (placed.ElementIndex at place element size has stands is) = no_note at has

in_parts : (f : Fault) (part : Part) → IsPlaced empty_file part → IsBad empty_file part f → ⊥
in_parts f part (placed.Tables is) h = in_tables f part is h
in_parts f part (placed.Classes is) h = in_classes part is
in_parts f part (placed.Annotations is) h = in_annotations part is
in_parts f part (placed.Values is) h = in_values part is

-- ---- its header and what fits together

one_field : (at want n k wanted : ℕ) → at ≡ k → want ≡ wanted → Is32 empty_file k wanted → Is32 empty_file at n → n ≡ want
one_field at want n k wanted same e right is = (subst (λ (j : ℕ). Is32 empty_file j n) same is).spelled ∙ sym right.spelled ∙ sym e

fixed : (at want n : ℕ) → IsFixed empty_file at want → Is32 empty_file at n → n ≡ want
fixed at want n (faults.FileSize same e) is = one_field at want n 32 (length empty_file) same e spelled.header.file_size is
fixed at want n (faults.HeaderSize same e) is = one_field at want n 36 112 same e spelled.header.header_size is
fixed at want n (faults.EndianTag same e) is = one_field at want n 40 0x12345678 same e spelled.header.endian_tag is
fixed at want n (faults.LinkSize same e) is = one_field at want n 44 0 same e spelled.header.link_size is

in_header : (f : Fault) → InHeader empty_file f → ⊥
in_header f (faults.BadMagic whole none is) = none V035 spelled.header.magic
in_header f (faults.BadField at want n whole is_fixed is differs same) = differs (fixed at want n is_fixed is)
in_header f (faults.BadSum stored is differs same) = differs (is.spelled ∙ sym spelled.header.checksum.spelled)

in_pools : (f : Fault) → InPools empty_file f → ⊥
in_pools f (faults.Descriptor kind begin unit text has wrong is) = no_type kind text begin has
in_pools f (faults.VoidField i entry kind stands is letter same) = no_entry 80 8 i entry none_80 stands
in_pools f (faults.OtherShorty i entry string begin shorty result parameters stands is has proto differs same) = no_entry 72 12 i entry none_72 stands
in_pools f (faults.VoidParameter i entry k result text parameters stands proto there void same) = no_entry 72 12 i entry none_72 stands

out_of_order : (f : Fault) → OutOfOrder empty_file f → ⊥
out_of_order f (faults.Strings place a b x y one two below is) = no_text place x a one
out_of_order f (faults.Types place a b x y one two p q below is) = no_entry 64 4 place a none_64 one
out_of_order f (faults.Protos place a b x y xs ys one two p q below is) = no_entry 72 12 place a none_72 one
out_of_order f (faults.Fields place a b c n t c2 n2 t2 one two p q below is) = no_entry 80 8 place a none_80 one
out_of_order f (faults.Methods place a b c n t c2 n2 t2 one two p q below is) = no_entry 88 8 place a none_88 one
out_of_order f (faults.Members class data_at which place before at mid def has leads stands step is) = no_def class def has
out_of_order f (faults.Pairs class which first place a x y one two p q below of at is) = no_pair class which a one
out_of_order f (faults.Marks set place a b x y p q has one two m n below is) = no_set set has
out_of_order f (faults.Elements note place a b x y p q has one two m n below is) = no_note note has

of_values : (f : Fault) → InValues empty_file f → ⊥
of_values f (faults.NoTag depth at has inside wrong is) = no_value depth at has
of_values f (faults.Unfit class array place at letter e has item tag entry letter_is unfit is) = no_array class array has
of_values f (faults.Past class array place at count has item statics past is) = no_array class array has
of_values f (faults.NamesNone depth at header n size has tag names number sized past is) = no_value depth at has
of_values f (faults.TooDeep at has is) = no_value 65 at has

in_members : (f : Fault) → InMembers empty_file f → ⊥
in_members f (kinds.NoMember class data_at which place before at step mid header size def has leads stands one table sized past is) = no_def class def has
in_members f (kinds.OtherClass class which place at owner def e has entry id is_owner differs is) = no_def class def has
in_members f (kinds.NotDefined class pairs place pair first number stands of at is_number none is) = no_pair class pairs pair stands
in_members f (kinds.NoCode class which place e has method lacks none is) = no_member class which place e has
in_members f (kinds.SomeCode class which place e has method lacks some is) = no_member class which place e has
in_members f (kinds.InBoth class which other place at e d partner has twice same is) = no_member class which place e has
in_members f (kinds.WrongField class which place e has field unfit is) = no_member class which place e has
in_members f (kinds.WrongMethod class which place at string begin name e has method id is_string text unfit is) = no_member class which place e has

in_roots : (f : Fault) → InRoots empty_file f → ⊥
in_roots f (kinds.IsObject class begin def has named is) = no_def class def has
in_roots f (kinds.NoSuperclass class def has none is) = no_def class def has
in_roots f (kinds.OwnType class letter def has is_letter other is) = no_def class def has
in_roots f (kinds.Above class letter def has is_letter other is) = no_def class def has
in_roots f (kinds.Interface class letter at i kind count def has leads counted less is_kind is_letter other is) = no_def class def has
in_roots f (kinds.OnPlain class def has interface plain is) = no_def class def has
in_roots f (kinds.ListsPlain class at i kind count def has interface leads counted less is_kind plain is) = no_def class def has

in_code : (f : Fault) → InCode empty_file f → ⊥
in_code f (kinds.FewRegisters class at e frame has few is) = no_frame class e at frame has
in_code f (kinds.OtherWords class at e frame parameters has of differs is) = no_frame class e at frame has
in_code f (kinds.InBody class at e frame sizes fault has sized wrong is) = no_frame class e at frame has

-- ---- its program

no_class : {A X : Type 0} (i : ℕ) (x : X) → slice_get [] i ≡ Some x → A
no_class i x h = absurd cc

no_way : (class upper : ℕ) (mids : List ℕ) → StepsTo (IsAbove empty_program) class mids upper → ⊥
no_way class upper [] h = no_class class h.c h.is_class
no_way class upper (mid ∷ mids) h = no_class class h.0.c h.0.is_class

in_graph : (f : Fault) → InGraph empty_program f → ⊥
in_graph f (kinds.DefinedTwice class h is) = no_class h.earlier h.one h.is_one
in_graph f (kinds.OwnAncestor class h is) = no_way class class h.own.mids h.own.steps
in_graph f (kinds.Split class method h is) = no_class class h.c h.has.is_class

only : (p : Program) → Spells empty_file p → empty_program ≡ p
only p h = spells_once empty_file empty_program p are_bytes spelled h

no_fault : (f : Fault) → HasFault empty_file f → ⊥
no_fault f (BadPart part is wrong) = in_parts f part is wrong
no_fault f (BadHeader h) = in_header f h
no_fault f (BadPools h) = in_pools f h
no_fault f (BadOrder h) = out_of_order f h
no_fault f (BadValues h) = of_values f h
no_fault f (BadMember h) = in_members f h
no_fault f (BadRoot h) = in_roots f h
no_fault f (BadCode h) = in_code f h
no_fault f (BadGraph p spells h) = in_graph f (subst (λ (q : Program). InGraph q f) (sym (only p spells)) h)

none_in : (c : NamedClass) → Contains (named empty_program).classes c → ⊥
none_in c h = let inside = h.1 in omega (arith, inside)

typed : IsTyped (named empty_program)
typed = record { bodies = λ c m b has of body. absurd (none_in c has) }

pub least_is_good : IsGoodFile empty_file
least_is_good = record { are_bytes = are_bytes; faultless = no_fault; typed = λ p spells. subst (λ (q : Program). IsTyped (named q)) (only p spells) typed }
