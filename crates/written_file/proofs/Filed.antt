-- What is written is valid where its code, its annotations and its first values are spelled.
use Rattle.std.proofs.Common.{◌≡◌, ◌<◌, ◌+◌, ◌*◌, ◌^◌, ℕ, List, length, map, sym, ap, ◌∙◌, subst, arith}
use Rattle.std.specs.Prelude.{nat_eq, slice_get, Some, true}
use Rattle.std.specs.List.{flat_map, AllByRecursion, list_any}
use Rattle.dex_base.specs.Decides.{Each}
use Rattle.dex_pools.specs.declared.interner.Interner.{Interner}
use Rattle.dex_pools.specs.Interned.{IsInterned}
use Rattle.dex_pools.specs.Written.{mark_text}
use Rattle.program_model.specs.declared.program.Class.{Class}
use Rattle.program_model.specs.declared.program.Program.{Program}
use Rattle.program_model.specs.ProgramRules.{is_well_formed}
use Rattle.class_defs.specs.ClassGraph.{IsTwice, IsAncestor}
use Rattle.dex_write.specs.Numbers.{words}
use Rattle.dex_write.specs.File.{data_at, IsSealed}
use Rattle.dex_write.specs.Places.{counts_of, front_of, back_of, file_for}
use Rattle.dex_write.specs.Sets.{set_counts, ref_counts, parameter_offsets, directory_texts, marks_of, mark_starts}
use Rattle.dex_write.specs.Data.{data_texts, array_text}
use Rattle.dex_write.specs.Order.{classes_at, IsOrder}
use Rattle.dex_write.specs.Plans.{Plan}
use Rattle.dex_write.specs.Codes.{parts_of}
use Rattle.dex_write.specs.Lists.{list_starts, list_text, type_lists, classes_use}
use Rattle.dex_write.specs.Tables.{class_words}
use Rattle.dex_write.specs.Written.{ArePlans}
use Rattle.dex_write.specs.Written as writer
use Rattle.dex_defs.specs.Here.{Here}
use Rattle.dex_defs.specs.Arranged.{Both, LeadsTo}
use Rattle.dex_defs.specs.ClassData.{IsClassDataOf}
use Rattle.dex_defs.specs.ClassDefs.{IsDef}
use Rattle.dex_defs.specs.Spells.{sizes_in}
use Rattle.dex_defs.specs.Texts.{offsets_text, data_text, directory_text}
use Rattle.dex_defs.specs.ValueTexts as texts
use Rattle.dex_defs.specs.Annotations.{IsDirectoryOf}
use Rattle.dex_defs.specs.Valid.{NamesAll, EndsInFirst, set_offsets}
use Rattle.dex_defs.specs.Valid as valid
use Rattle.dex_defs.specs.Written.{entries, written_class, class_order, written_by}
use Rattle.write_laws.specs.Used.{IsShort}
use Rattle.write_laws.specs.Owning.{IsNoLonger}
use Rattle.write_laws.proofs.Owning.{no_longer}
use Rattle.write_laws.specs.Fits.{TablesFit, OrdersIn}
use Rattle.write_laws.specs.Kinds.{Same, SameCounts, Rest, IsValidFile}
use Rattle.write_laws.specs.Placing.{AllLie, entry_texts, item_texts, code_offsets, stops_of}
use Rattle.write_laws.proofs.Here.{here_is, here_same}
use Rattle.write_laws.proofs.Numbers.{Few}
use Rattle.write_laws.proofs.Placing.{FitsPlans}
use Rattle.write_laws.proofs.Closing.{lie_same}
use Rattle.write_laws.proofs.Coded.{plans_fit}
use Rattle.write_laws.proofs.Defs.{defs_stand}
use Rattle.write_laws.proofs.Whole.{file_placed, file_lies, strings_length}
use Rattle.write_laws.proofs.Slice.{file_leads, tables_are, parameters_long, lie_few}
use Rattle.write_laws.proofs.Written.{counts_written}
use Rattle.write_laws.proofs.Last.{written_is_valid}
use Rattle.write_laws.proofs.Ordering.{orders_in}
use Rattle.write_laws.proofs.Tabled.{short_of, is_short, tables_are_fit}
use Rattle.written_file.specs.Widths.{HasWidths}
use Rattle.written_file.proofs.Fit.{Parts, parts_of as well_formed_parts, FitsClass, class_at_fits}
use Rattle.written_file.proofs.Texts.{texts_fit}
use Rattle.written_file.proofs.Used.{all_used}
use Rattle.written_file.specs.Rises.{NamesRise}
use Rattle.written_file.specs.Left.{Left}
use Rattle.written_file.specs.Parts.{first_values, offsets_of, parts_of_file, sets_of_file}
use Rattle.written_file.proofs.Order.{order_is, order_behind, order_every}
use Rattle.written_file.proofs.Plans.{classes_written, classes_many, written_behind}
use Rattle.written_file.proofs.Pairs.{HasOwn}
use Rattle.written_file.proofs.FineSets.{marks_texts, sets_found}
use Rattle.written_file.proofs.Small.{values_texts}
use Rattle.written_file.proofs.Standing.{Stands, all_stand, IsGood, sets_stand}
use Rattle.written_file.proofs.ClassTable.{classes_there, few_uses, FewOffsets, defs_few, parts_defs}
use Rattle.written_file.proofs.Directories.{all_directories}
use Rattle.written_file.proofs.DataItems.{all_data, members_few}
use Rattle.written_file.proofs.Ending.{all_end}
use Rattle.written_file.proofs.ClassParts.{HasRefs, all_refs, assembled}
use Rattle.written_file.proofs.KindFields.{HasPlan, all_planned, all_own, sets_long, members_kind, directories_kind, firsts_named, codes_kind, lines_kind, refs_kind, sets_kind, marks_named, uses_are, interfaces_are, interfaces_kind}

-- ---- what stands where it is named

pub marks_there : (file : List ℕ) (p : Program) (i : Interner) (plans : List Plan) → AllLie file p i plans → Same (flat_map (λ s. s.offsets) (sets_of_file p i plans)) (map (λ start. (stops_of p i plans).lines + start) (mark_starts i.numbers 0 (flat_map (marks_of i.numbers) plans))) (flat_map (λ s. map texts.mark_text s.marks) (sets_of_file p i plans)) (map (mark_text i.numbers) (flat_map (marks_of i.numbers) plans))
    → Both (Stands file) (flat_map (λ s. s.offsets) (sets_of_file p i plans)) (flat_map (λ s. map texts.mark_text s.marks) (sets_of_file p i plans))
marks_there file p i plans lies same =
    all_stand file 1 (stops_of p i plans).lines (flat_map (λ s. s.offsets) (sets_of_file p i plans)) (flat_map (λ s. map texts.mark_text s.marks) (sets_of_file p i plans)) (stops_of p i plans).marks
    (lie_same file 1 (stops_of p i plans).lines (flat_map (λ s. s.offsets) (sets_of_file p i plans)) (map (λ start. (stops_of p i plans).lines + start) (mark_starts i.numbers 0 (flat_map (marks_of i.numbers) plans))) (flat_map (λ s. map texts.mark_text s.marks) (sets_of_file p i plans)) (map (mark_text i.numbers) (flat_map (marks_of i.numbers) plans)) (stops_of p i plans).marks same lies.marks)

pub offsets_there : (file : List ℕ) (p : Program) (i : Interner) (plans : List Plan) → AllLie file p i plans → Same (flat_map set_offsets (parts_of_file p i plans)) (front_of p i plans (data_at (counts_of i plans))).sets.offsets (map (λ s. offsets_text s.offsets) (sets_of_file p i plans)) (entry_texts (stops_of p i plans).lines (flat_map set_counts plans) (mark_starts i.numbers 0 (flat_map (marks_of i.numbers) plans)))
    → Both (Stands file) (flat_map set_offsets (parts_of_file p i plans)) (map (λ s. offsets_text s.offsets) (sets_of_file p i plans))
offsets_there file p i plans lies same =
    all_stand file 4 (stops_of p i plans).refs (flat_map set_offsets (parts_of_file p i plans)) (map (λ s. offsets_text s.offsets) (sets_of_file p i plans)) (stops_of p i plans).sets
    (lie_same file 4 (stops_of p i plans).refs (flat_map set_offsets (parts_of_file p i plans)) (front_of p i plans (data_at (counts_of i plans))).sets.offsets (map (λ s. offsets_text s.offsets) (sets_of_file p i plans)) (entry_texts (stops_of p i plans).lines (flat_map set_counts plans) (mark_starts i.numbers 0 (flat_map (marks_of i.numbers) plans))) (stops_of p i plans).sets same lies.sets)

pub members_there : (file : List ℕ) (p : Program) (i : Interner) (plans : List Plan) → AllLie file p i plans → Same (map (λ c. c.def.data_at) (parts_of_file p i plans)) (front_of p i plans (data_at (counts_of i plans))).data.offsets (map (λ c. data_text c.lists) (parts_of_file p i plans)) (data_texts (front_of p i plans (data_at (counts_of i plans))).code.at plans)
    → Both (Stands file) (map (λ c. c.def.data_at) (parts_of_file p i plans)) (map (λ c. data_text c.lists) (parts_of_file p i plans))
members_there file p i plans lies same =
    all_stand file 1 (stops_of p i plans).directories (map (λ c. c.def.data_at) (parts_of_file p i plans)) (map (λ c. data_text c.lists) (parts_of_file p i plans)) (stops_of p i plans).members
    (lie_same file 1 (stops_of p i plans).directories (map (λ c. c.def.data_at) (parts_of_file p i plans)) (front_of p i plans (data_at (counts_of i plans))).data.offsets (map (λ c. data_text c.lists) (parts_of_file p i plans)) (data_texts (front_of p i plans (data_at (counts_of i plans))).code.at plans) (stops_of p i plans).members same lies.members)

pub annotations_there : (file : List ℕ) (p : Program) (i : Interner) (plans : List Plan) → AllLie file p i plans → Same (map (λ c. c.def.annotations) (parts_of_file p i plans)) (front_of p i plans (data_at (counts_of i plans))).directories.offsets (map (λ c. directory_text c.directory) (parts_of_file p i plans)) (directory_texts plans (front_of p i plans (data_at (counts_of i plans))).sets.offsets (front_of p i plans (data_at (counts_of i plans))).refs.offsets)
    → Both (Stands file) (map (λ c. c.def.annotations) (parts_of_file p i plans)) (map (λ c. directory_text c.directory) (parts_of_file p i plans))
annotations_there file p i plans lies same =
    all_stand file 4 (stops_of p i plans).codes (map (λ c. c.def.annotations) (parts_of_file p i plans)) (map (λ c. directory_text c.directory) (parts_of_file p i plans)) (stops_of p i plans).directories
    (lie_same file 4 (stops_of p i plans).codes (map (λ c. c.def.annotations) (parts_of_file p i plans)) (front_of p i plans (data_at (counts_of i plans))).directories.offsets (map (λ c. directory_text c.directory) (parts_of_file p i plans)) (directory_texts plans (front_of p i plans (data_at (counts_of i plans))).sets.offsets (front_of p i plans (data_at (counts_of i plans))).refs.offsets) (stops_of p i plans).directories same lies.directories)

-- ---- offsets are below the size of the file

interfaces_few : (p : Program) (i : Interner) (plans : List Plan) → Few (list_starts (data_at (counts_of i plans)) (type_lists p i plans)) → Few (offsets_of p i plans).interfaces
unfolding type_lists
interfaces_few p i plans f = subst Few (sym (interfaces_are p i plans)) (few_uses _ _ f)

pub offsets_few : (file : List ℕ) (p : Program) (i : Interner) (plans : List Plan) → length file < 2 ^ 32 → AllLie file p i plans → FewOffsets (offsets_of p i plans)
offsets_few file p i plans few lies = record {
  interfaces = interfaces_few p i plans (lie_few file 4 (data_at (counts_of i plans)) (list_starts (data_at (counts_of i plans)) (type_lists p i plans)) (map list_text (type_lists p i plans)) (stops_of p i plans).lists few lies.lists);
  directories = lie_few file 4 (stops_of p i plans).codes (front_of p i plans (data_at (counts_of i plans))).directories.offsets (directory_texts plans (front_of p i plans (data_at (counts_of i plans))).sets.offsets (front_of p i plans (data_at (counts_of i plans))).refs.offsets) (stops_of p i plans).directories few lies.directories;
  members = lie_few file 1 (stops_of p i plans).directories (front_of p i plans (data_at (counts_of i plans))).data.offsets (data_texts (front_of p i plans (data_at (counts_of i plans))).code.at plans) (stops_of p i plans).members few lies.members;
  firsts = lie_few file 1 (stops_of p i plans).marks (back_of p i.numbers plans (front_of p i plans (data_at (counts_of i plans)))).firsts.offsets (map (array_text p i.numbers) plans) (stops_of p i plans).values few lies.values;
}

-- ---- the table of classes

pub table_there : (p : Program) (i : Interner) (plans : List Plan) → FitsPlans p i plans → OrdersIn p i → SameCounts i plans (written_by i p) → Here (file_for p i plans) (valid.classes_at (written_by i p)) (words (class_words i.numbers (offsets_of p i plans) 0 plans))
table_there p i plans fits orders counts =
    let file : List ℕ = file_for p i plans in
    let strings : List ℕ = (front_of p i plans (data_at (counts_of i plans))).strings.offsets in
    let parameters : List ℕ = (front_of p i plans (data_at (counts_of i plans))).lists.parameters in
    let leads : Both (λ y offset. LeadsTo (type_lists p i plans) (list_starts (data_at (counts_of i plans)) (type_lists p i plans)) y.parameters offset) (written_by i p).protos parameters = file_leads p i plans orders in
    classes_there file (written_by i p) strings parameters (class_words i.numbers (offsets_of p i plans) 0 plans) (λ y offset. LeadsTo (type_lists p i plans) (list_starts (data_at (counts_of i plans)) (type_lists p i plans)) y.parameters offset) (strings_length p i plans ∙ sym counts.strings) leads
    (here_same file 112 _ _ (ap words (tables_are p i plans strings parameters (offsets_of p i plans) orders (parameters_long p i plans))) (file_placed p i plans fits).tables)

-- ---- the whole

rest_of : (p : Program) (i : Interner) (places : List ℕ) (plans : List Plan) → IsInterned p i → IsOrder p places → ArePlans p i.numbers (flat_map (classes_at p) places) plans
    → is_well_formed p ≡ true → ((class : ℕ) → IsTwice p class → ⊥) → ((class : ℕ) → IsAncestor p class class → ⊥) → HasWidths p → NamesRise p → length (file_for p i plans) < 2 ^ 32
    → Left (file_for p i plans) p i plans (written_by i p) → Rest (file_for p i plans) p i plans (written_by i p) (parts_of_file p i plans) (sets_of_file p i plans)
rest_of p i places plans interned ordered are formed once acyclic widths sorted few_file left =
    let file : List ℕ = file_for p i plans in
    let q : Program = written_by i p in
    let parts : Parts p = well_formed_parts p formed in
    let few : IsShort p = is_short p (short_of p parts.short) in
    let fits : (k : ℕ) (c : Class) → slice_get p.classes k ≡ Some c → FitsClass p c = λ k c e. class_at_fits p k c parts e in
    let same : class_order p ≡ places = order_is p (λ k c e. (fits k c e).above) once acyclic places ordered in
    let every : (k : ℕ) → k < length p.classes → list_any (nat_eq k) (class_order p) ≡ true = λ k lt. subst (λ l. list_any (nat_eq k) l ≡ true) (sym same) (order_every p (λ j c e. (fits j c e).above) once acyclic places ordered k lt) in
    let cs : List Class = flat_map (classes_at p) places in
    let classes : q.classes ≡ map (written_class i.numbers p) cs = ap (λ (l : List ℕ). entries (written_class i.numbers p) p.classes l) same ∙ classes_written i.numbers p places in
    let planned : AllByRecursion (HasPlan p i few interned fits) plans = all_planned p i few interned fits places plans are in
    let own : AllByRecursion HasOwn plans = all_own p i few interned fits plans planned in
    let uses : classes_use i plans ≡ map (λ c. c.interfaces) q.classes = uses_are p i plans places same are in
    let tables : TablesFit q = tables_are_fit p i parts.short parts.entries parts.differ interned (texts_fit p i few interned parts widths) in
    let orders : OrdersIn p i = orders_in p i interned in
    let many : length q.classes ≡ length plans = ap (λ (l : List Class). length l) classes ∙ classes_many p i.numbers cs plans are in
    let counts : SameCounts i plans q = counts_written p i plans orders many in
    let whole : FitsPlans p i plans = plans_fit p i cs plans are in
    let lies : AllLie file p i plans = file_lies p i plans whole in
    let members = members_kind p i plans cs are in
    let sets = sets_kind p i plans own in
    let marks : Same (flat_map (λ s. s.offsets) (sets_of_file p i plans)) (map (λ start. (stops_of p i plans).lines + start) (mark_starts i.numbers 0 (flat_map (marks_of i.numbers) plans))) (flat_map (λ s. map texts.mark_text s.marks) (sets_of_file p i plans)) (map (mark_text i.numbers) (flat_map (marks_of i.numbers) plans)) = record { offsets_are = marks_named p i plans; texts_are = marks_texts p i few interned fits plans planned sorted tables.strings_ascend } in
    let good : AllByRecursion (IsGood file (sizes_in q)) (sets_of_file p i plans) = sets_found p i few interned fits file (sizes_in q) plans planned sorted tables.strings_ascend left.marks in
    let no : IsNoLonger q p = no_longer p i interned in
    let code_few : Few (code_offsets (front_of p i plans (data_at (counts_of i plans))).code.at (parts_of plans)) = lie_few file 4 (stops_of p i plans).sets (code_offsets (front_of p i plans (data_at (counts_of i plans))).code.at (parts_of plans)) (item_texts (stops_of p i plans).strings (parts_of plans)) (stops_of p i plans).codes few_file lies.codes in
    let lists : AllByRecursion (λ x. IsClassDataOf file x.def.data_at x.lists) (parts_of_file p i plans) = all_data p i few interned fits (omega (arith, no.fields, few.fields)) (omega (arith, no.methods, few.methods)) widths file (offsets_of p i plans) (first_values p i.numbers) 0 (front_of p i plans (data_at (counts_of i plans))).code.at (stops_of p i plans).strings (front_of p i plans (data_at (counts_of i plans))).sets.offsets (front_of p i plans (data_at (counts_of i plans))).refs.offsets plans planned code_few (members_there file p i plans lies members) in
    let set_few : Few (front_of p i plans (data_at (counts_of i plans))).sets.offsets = lie_few file 4 (stops_of p i plans).refs (front_of p i plans (data_at (counts_of i plans))).sets.offsets (entry_texts (stops_of p i plans).lines (flat_map set_counts plans) (mark_starts i.numbers 0 (flat_map (marks_of i.numbers) plans))) (stops_of p i plans).sets few_file lies.sets in
    let ref_few : Few (front_of p i plans (data_at (counts_of i plans))).refs.offsets = lie_few file 4 (stops_of p i plans).lists (front_of p i plans (data_at (counts_of i plans))).refs.offsets (entry_texts 0 (flat_map ref_counts plans) (parameter_offsets plans (front_of p i plans (data_at (counts_of i plans))).sets.offsets)) (stops_of p i plans).refs few_file lies.refs in
    let directories = directories_kind p i plans in
    let named_directories : AllByRecursion (λ x. IsDirectoryOf file x.def.annotations x.directory × NamesAll x.directory) (parts_of_file p i plans) = all_directories file i.numbers (offsets_of p i plans) (first_values p i.numbers) 0 (front_of p i plans (data_at (counts_of i plans))).code.at (stops_of p i plans).strings (front_of p i plans (data_at (counts_of i plans))).sets.offsets (front_of p i plans (data_at (counts_of i plans))).refs.offsets plans (members_few p i few interned fits (omega (arith, no.fields, few.fields)) (omega (arith, no.methods, few.methods)) widths plans planned) set_few ref_few (annotations_there file p i plans lies directories) in
    let firsts : Both (λ c x. EndsInFirst x.values c.fields) q.classes (parts_of_file p i plans) = subst (λ l. Both (λ c x. EndsInFirst x.values c.fields) l (parts_of_file p i plans)) (sym classes) (all_end p i few interned fits cs (offsets_of p i plans) 0 (front_of p i plans (data_at (counts_of i plans))).code.at (stops_of p i plans).strings (front_of p i plans (data_at (counts_of i plans))).sets.offsets (front_of p i plans (data_at (counts_of i plans))).refs.offsets plans are planned) in
    let table : Here file (valid.classes_at q + 32 * 0) (words (class_words i.numbers (offsets_of p i plans) 0 plans)) = here_is file (valid.classes_at q) (valid.classes_at q + 32 * 0) _ (omega arith) (table_there p i plans whole orders counts) in
    let defs : Each (λ k x. IsDef file (valid.classes_at q + 32 * k) x.def) 0 (parts_of_file p i plans) = parts_defs file (valid.classes_at q) i.numbers (offsets_of p i plans) (first_values p i.numbers) 0 (front_of p i plans (data_at (counts_of i plans))).code.at (stops_of p i plans).strings (front_of p i plans (data_at (counts_of i plans))).sets.offsets (front_of p i plans (data_at (counts_of i plans))).refs.offsets plans (defs_stand file (valid.classes_at q) 0 i.numbers (offsets_of p i plans) 0 plans (defs_few p i few interned fits tables widths (offsets_of p i plans) (offsets_few file p i plans few_file lies) 0 plans planned) table) in
    let refs : Both HasRefs q.classes (parts_of_file p i plans) = subst (λ l. Both HasRefs l (parts_of_file p i plans)) (sym classes) (all_refs p i few interned fits cs (offsets_of p i plans) (first_values p i.numbers) 0 (front_of p i plans (data_at (counts_of i plans))).code.at (stops_of p i plans).strings (front_of p i plans (data_at (counts_of i plans))).sets.offsets (front_of p i plans (data_at (counts_of i plans))).refs.offsets plans are planned (omega (arith, sets_long p i plans))) in
    record {
      tables = tables;
      used = all_used p i few interned every;
      many = many;
      uses = uses;
      above_first = written_behind p i few interned places fits same (order_behind p (λ k c e. (fits k c e).above) once acyclic places ordered);
      spelled = left.spelled;
      class_parts = assembled file q 0 q.classes (parts_of_file p i plans) defs lists named_directories left.values firsts left.codes refs;
      interfaces = interfaces_kind p i plans orders uses;
      set_parts = sets_stand file (sizes_in q) (flat_map set_offsets (parts_of_file p i plans)) (sets_of_file p i plans) few_file good (marks_there file p i plans lies marks) (offsets_there file p i plans lies sets);
      refs = refs_kind p i plans own;
      sets = sets;
      codes = codes_kind p i plans;
      directories = directories;
      members = members;
      lines = lines_kind p i plans;
      marks = marks;
      values = record { offsets_are = firsts_named p i plans; texts_are = values_texts p i few interned fits plans planned };
    }

pub filed : (p : Program) (bytes : List ℕ) (w : writer.IsWritten p bytes) → is_well_formed p ≡ true → ((class : ℕ) → IsTwice p class → ⊥) → ((class : ℕ) → IsAncestor p class class → ⊥) → HasWidths p → NamesRise p → IsSealed p.version bytes → length bytes < 2 ^ 32
    → Left bytes p w.interner w.plans (written_by w.interner p) → IsValidFile p bytes (written_by w.interner p)
filed p bytes w formed once acyclic widths sorted sealed few left =
    let i : Interner = w.interner in
    let plans : List Plan = w.plans in
    let few_file : length (file_for p i plans) < 2 ^ 32 = subst (λ (b : List ℕ). length b < 2 ^ 32) w.file few in
    let left_file : Left (file_for p i plans) p i plans (written_by i p) = subst (λ b. Left b p i plans (written_by i p)) w.file left in
    let rest : Rest (file_for p i plans) p i plans (written_by i p) (parts_of_file p i plans) (sets_of_file p i plans) = rest_of p i w.places plans w.interned w.ordered w.planned formed once acyclic widths sorted few_file left_file in
    written_is_valid p bytes w (parts_of_file p i plans) (sets_of_file p i plans) sealed few (subst (λ b. Rest b p i plans (written_by i p) (parts_of_file p i plans) (sets_of_file p i plans)) (sym w.file) rest)
