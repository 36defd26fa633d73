-- The classes of what is written are spelled there, and so it is valid.
use Rattle.std.proofs.Common.{◌≡◌, ◌<◌, ◌+◌, ◌*◌, ◌^◌, ℕ, List, [], ◌∷◌, length, map, refl, sym, ap, ◌∙◌, subst, arith, All}
use Rattle.std.specs.Prelude.{slice_get, Some, true}
use Rattle.std.specs.List.{flat_map, AllByRecursion}
use Rattle.dex_base.specs.Decides.{Each, Entries}
use Rattle.dex_pools.specs.declared.interner.Interner.{Interner}
use Rattle.dex_pools.specs.Interned.{IsInterned}
use Rattle.dex_pools.specs.Spelled.{AreParameters}
use Rattle.dex_pools.specs.Written.{mark_text}
use Rattle.program_model.specs.declared.program.Class.{Class}
use Rattle.program_model.specs.declared.program.Program.{Program}
use Rattle.program_model.specs.ProgramRules.{is_well_formed}
use Rattle.class_defs.specs.ClassGraph.{IsTwice, IsAncestor}
use Rattle.dex_write.specs.Numbers.{words}
use Rattle.dex_write.specs.File.{data_at, IsSealed}
use Rattle.dex_write.specs.Places.{counts_of, front_of, back_of, file_for}
use Rattle.dex_write.specs.Sets.{set_counts, sets_of, ref_counts, parameter_offsets, marks_of, mark_starts}
use Rattle.dex_write.specs.Data.{array_text}
use Rattle.dex_write.specs.Order.{classes_at, IsOrder}
use Rattle.dex_write.specs.Plans.{Plan}
use Rattle.dex_write.specs.Codes.{parts_of}
use Rattle.dex_write.specs.Lists.{list_starts, list_text, type_lists, classes_use}
use Rattle.dex_write.specs.Tables.{class_words}
use Rattle.dex_write.specs.Written.{ArePlans}
use Rattle.dex_write.specs.Written as writer
use Rattle.dex_defs.specs.Here.{Here}
use Rattle.dex_defs.specs.Annotations.{IsDirectoryOf, AreMarksOf}
use Rattle.dex_defs.specs.Arranged.{Both, Lie, LeadsTo}
use Rattle.dex_defs.specs.ClassData.{IsClassDataOf}
use Rattle.dex_defs.specs.ClassDefs.{IsDef, IsClass}
use Rattle.dex_defs.specs.LaysOut.{LaysOut, LaysOutMethod}
use Rattle.dex_defs.specs.Spells.{sizes_in}
use Rattle.dex_defs.specs.Texts.{offsets_text}
use Rattle.dex_defs.specs.Texts as kept
use Rattle.dex_defs.specs.Values.{AreValuesOf}
use Rattle.dex_defs.specs.ValueTexts as texts
use Rattle.dex_defs.specs.Valid.{NamesAll, ref_offsets, set_offsets}
use Rattle.dex_defs.specs.Valid as valid
use Rattle.dex_defs.specs.Written.{entries, written_class, class_order, written_by}
use Rattle.write_laws.specs.Used.{IsShort}
use Rattle.write_laws.specs.Owning.{IsNoLonger}
use Rattle.write_laws.proofs.Owning.{no_longer}
use Rattle.write_laws.specs.Fits.{TablesFit, OrdersIn}
use Rattle.write_laws.specs.Kinds.{Same, SameCounts, IsValidFile}
use Rattle.write_laws.specs.Placing.{AllLie, entry_texts, item_texts, code_offsets, line_offsets, stops_of}
use Rattle.write_laws.proofs.Here.{here_is}
use Rattle.write_laws.proofs.Numbers.{Few}
use Rattle.write_laws.proofs.Placing.{FitsPlans}
use Rattle.write_laws.proofs.Closing.{lie_same}
use Rattle.write_laws.proofs.Coded.{plans_fit}
use Rattle.write_laws.proofs.Defs.{defs_stand}
use Rattle.write_laws.proofs.Whole.{file_lies}
use Rattle.write_laws.proofs.Slice.{lie_few, lists_same}
use Rattle.write_laws.proofs.Written.{lists_written, counts_written}
use Rattle.write_laws.proofs.Ordering.{orders_in}
use Rattle.write_laws.proofs.Tabled.{short_of, is_short, tables_are_fit}
use Rattle.written_file.specs.Widths.{HasWidths}
use Rattle.written_file.proofs.Fit.{Parts, parts_of as well_formed_parts, FitsClass, class_at_fits}
use Rattle.written_file.proofs.Texts.{texts_fit}
use Rattle.written_file.specs.Rises.{NamesRise}
use Rattle.written_file.specs.Wide.{HasWideValues}
use Rattle.written_code.specs.Widths.{HasWideCode}
use Rattle.written_file.specs.Parts.{first_values, offsets_of, parts_of_file, sets_of_file}
use Rattle.written_file.proofs.Order.{order_is}
use Rattle.written_file.proofs.Plans.{classes_written, classes_many}
use Rattle.written_file.proofs.Pairs.{HasOwn}
use Rattle.written_file.proofs.Small.{values_texts}
use Rattle.written_file.proofs.KindFields.{HasPlan, all_planned, all_own, sets_long, members_kind, directories_kind, firsts_named, refs_kind, sets_kind, marks_named, uses_are, interfaces_kind}
use Rattle.written_file.proofs.FineSets.{marks_texts, sets_found}
use Rattle.written_file.proofs.Reading.{all_read as marks_read}
use Rattle.written_file.proofs.Standing.{Stands, all_stand, IsGood, sets_stand}
use Rattle.written_file.proofs.ClassTable.{defs_few, parts_defs}
use Rattle.written_file.proofs.Directories.{all_directories}
use Rattle.written_file.proofs.DataItems.{all_data, members_few}
use Rattle.written_file.proofs.FirstFits.{all_values}
use Rattle.written_file.proofs.Filed.{marks_there, offsets_there, members_there, annotations_there, offsets_few, table_there}
use Rattle.written_file.proofs.Whole.{firsts_there}
use Rattle.written_code.proofs.Fitting.{FewEntries, all_rec}
use Rattle.written_code.proofs.AllCodes.{cells_few}
use Rattle.written_code.proofs.CodedValid.{coded}
use Rattle.written_code.proofs.Wide.{has_widths, has_wide_code, has_wide_values}
use Rattle.written_code.proofs.Apart.{IsNewSet, HasSets, sets_there, all_apart}
use Rattle.written_code.proofs.AllSpelled.{HasLists, HasCodes, HasFirsts, all_spelled}
use Rattle.written_code.proofs.Refs.{all_lists}
use Rattle.written_code.proofs.Reading.{all_read}
use Rattle.written_code.proofs.Static.{all_firsts}
use Rattle.written_code.proofs.Interfaces.{all_interfaces}

lays_rec : (xs : List Class) → AllByRecursion (λ c. All (λ m. LaysOutMethod m.body) c.methods) xs → AllByRecursion (λ c. AllByRecursion (λ m. LaysOutMethod m.body) c.methods) xs
lays_rec [] a = tt
lays_rec (c ∷ cs) a = (all_rec (λ m. LaysOutMethod m.body) c.methods a.0, lays_rec cs a.1)

spelled_by : (p : Program) (i : Interner) (places : List ℕ) (plans : List Plan) → IsInterned p i → IsOrder p places → ArePlans p i.numbers (flat_map (classes_at p) places) plans
    → is_well_formed p ≡ true → ((class : ℕ) → IsTwice p class → ⊥) → ((class : ℕ) → IsAncestor p class class → ⊥) → HasWidths p → HasWideValues p → HasWideCode p → LaysOut (written_by i p) → NamesRise p → length (file_for p i plans) < 2 ^ 32
    → Entries (length (written_by i p).classes) (λ k. IsClass (file_for p i plans) (written_by i p) (sizes_in (written_by i p)) (valid.classes_at (written_by i p) + 32 * k)) (written_by i p).classes
spelled_by p i places plans interned ordered are formed once acyclic widths wide code lays sorted few_file =
    let file : List ℕ = file_for p i plans in
    let q : Program = written_by i p in
    let parts : Parts p = well_formed_parts p formed in
    let short = short_of p parts.short in
    let few : IsShort p = is_short p short in
    let fits : (k : ℕ) (c : Class) → slice_get p.classes k ≡ Some c → FitsClass p c = λ k c e. class_at_fits p k c parts e in
    let same : class_order p ≡ places = order_is p (λ k c e. (fits k c e).above) once acyclic places ordered in
    let cs : List Class = flat_map (classes_at p) places in
    let classes : q.classes ≡ map (written_class i.numbers p) cs = ap (λ (l : List ℕ). entries (written_class i.numbers p) p.classes l) same ∙ classes_written i.numbers p places in
    let planned : AllByRecursion (HasPlan p i few interned fits) plans = all_planned p i few interned fits places plans are in
    let own : AllByRecursion HasOwn plans = all_own p i few interned fits plans planned in
    let uses : classes_use i plans ≡ map (λ c. c.interfaces) q.classes = uses_are p i plans places same are in
    let tables : TablesFit q = tables_are_fit p i parts.short parts.entries parts.differ interned (texts_fit p i few interned parts widths) in
    let orders : OrdersIn p i = orders_in p i interned in
    let many : length q.classes ≡ length plans = ap (λ (l : List Class). length l) classes ∙ classes_many p i.numbers cs plans are in
    let counts : SameCounts i plans q = counts_written p i plans orders many in
    let whole : FitsPlans p i plans = plans_fit p i cs plans are in
    let lies : AllLie file p i plans = file_lies p i plans whole in
    let members = members_kind p i plans cs are in
    let sets = sets_kind p i plans own in
    let refs = refs_kind p i plans own in
    let directories = directories_kind p i plans in
    let marks : Same (flat_map (λ s. s.offsets) (sets_of_file p i plans)) (map (λ start. (stops_of p i plans).lines + start) (mark_starts i.numbers 0 (flat_map (marks_of i.numbers) plans))) (flat_map (λ s. map texts.mark_text s.marks) (sets_of_file p i plans)) (map (mark_text i.numbers) (flat_map (marks_of i.numbers) plans)) = record { offsets_are = marks_named p i plans; texts_are = marks_texts p i few interned fits plans planned sorted tables.strings_ascend } in
    let good : AllByRecursion (IsGood file (sizes_in q)) (sets_of_file p i plans) = sets_found p i few interned fits file (sizes_in q) plans planned sorted tables.strings_ascend (marks_read p i few interned fits wide sorted tables.strings_ascend file plans planned) in
    let no_more : IsNoLonger q p = no_longer p i interned in
    let fit : FewEntries p q = record { strings = omega (arith, no_more.strings, short.strings); types = tables.few_types; fields = omega (arith, no_more.fields, short.fields); methods = omega (arith, no_more.methods, short.methods) } in
    let code_few : Few (code_offsets (front_of p i plans (data_at (counts_of i plans))).code.at (parts_of plans)) = lie_few file 4 (stops_of p i plans).sets (code_offsets (front_of p i plans (data_at (counts_of i plans))).code.at (parts_of plans)) (item_texts (stops_of p i plans).strings (parts_of plans)) (stops_of p i plans).codes few_file lies.codes in
    let lists : AllByRecursion (λ x. IsClassDataOf file x.def.data_at x.lists) (parts_of_file p i plans) = all_data p i few interned fits (omega (arith, no_more.fields, few.fields)) (omega (arith, no_more.methods, few.methods)) widths file (offsets_of p i plans) (first_values p i.numbers) 0 (front_of p i plans (data_at (counts_of i plans))).code.at (stops_of p i plans).strings (front_of p i plans (data_at (counts_of i plans))).sets.offsets (front_of p i plans (data_at (counts_of i plans))).refs.offsets plans planned code_few (members_there file p i plans lies members) in
    let set_few : Few (front_of p i plans (data_at (counts_of i plans))).sets.offsets = lie_few file 4 (stops_of p i plans).refs (front_of p i plans (data_at (counts_of i plans))).sets.offsets (entry_texts (stops_of p i plans).lines (flat_map set_counts plans) (mark_starts i.numbers 0 (flat_map (marks_of i.numbers) plans))) (stops_of p i plans).sets few_file lies.sets in
    let ref_few : Few (front_of p i plans (data_at (counts_of i plans))).refs.offsets = lie_few file 4 (stops_of p i plans).lists (front_of p i plans (data_at (counts_of i plans))).refs.offsets (entry_texts 0 (flat_map ref_counts plans) (parameter_offsets plans (front_of p i plans (data_at (counts_of i plans))).sets.offsets)) (stops_of p i plans).refs few_file lies.refs in
    let named_directories : AllByRecursion (λ x. IsDirectoryOf file x.def.annotations x.directory × NamesAll x.directory) (parts_of_file p i plans) = all_directories file i.numbers (offsets_of p i plans) (first_values p i.numbers) 0 (front_of p i plans (data_at (counts_of i plans))).code.at (stops_of p i plans).strings (front_of p i plans (data_at (counts_of i plans))).sets.offsets (front_of p i plans (data_at (counts_of i plans))).refs.offsets plans (members_few p i few interned fits (omega (arith, no_more.fields, few.fields)) (omega (arith, no_more.methods, few.methods)) widths plans planned) set_few ref_few (annotations_there file p i plans lies directories) in
    let table : Here file (valid.classes_at q + 32 * 0) (words (class_words i.numbers (offsets_of p i plans) 0 plans)) = here_is file (valid.classes_at q) (valid.classes_at q + 32 * 0) _ (omega arith) (table_there p i plans whole orders counts) in
    let defs : Each (λ k x. IsDef file (valid.classes_at q + 32 * k) x.def) 0 (parts_of_file p i plans) = parts_defs file (valid.classes_at q) i.numbers (offsets_of p i plans) (first_values p i.numbers) 0 (front_of p i plans (data_at (counts_of i plans))).code.at (stops_of p i plans).strings (front_of p i plans (data_at (counts_of i plans))).sets.offsets (front_of p i plans (data_at (counts_of i plans))).refs.offsets plans (defs_stand file (valid.classes_at q) 0 i.numbers (offsets_of p i plans) 0 plans (defs_few p i few interned fits tables widths (offsets_of p i plans) (offsets_few file p i plans few_file lies) 0 plans planned) table) in
    let values_named : Same (map (λ c. c.def.values) (parts_of_file p i plans)) (back_of p i.numbers plans (front_of p i plans (data_at (counts_of i plans)))).firsts.offsets (map (λ c. texts.array_text c.values) (parts_of_file p i plans)) (map (array_text p i.numbers) plans) =
    record { offsets_are = firsts_named p i plans; texts_are = values_texts p i few interned fits plans planned } in
    let values : AllByRecursion (λ x. AreValuesOf file (sizes_in q) x.def.values x.values) (parts_of_file p i plans) = all_values p i few interned fits wide sorted tables.strings_ascend file (offsets_of p i plans) 0 (front_of p i plans (data_at (counts_of i plans))).code.at (stops_of p i plans).strings (front_of p i plans (data_at (counts_of i plans))).sets.offsets (front_of p i plans (data_at (counts_of i plans))).refs.offsets plans planned (firsts_there file p i plans lies values_named) in
    let found : Both (λ offset s. AreMarksOf file (sizes_in q) offset s.marks × (length s.offsets ≡ length s.marks)) (flat_map set_offsets (parts_of_file p i plans)) (sets_of_file p i plans) = sets_stand file (sizes_in q) (flat_map set_offsets (parts_of_file p i plans)) (sets_of_file p i plans) few_file good (marks_there file p i plans lies marks) (offsets_there file p i plans lies sets) in
    let new_sets : Both (IsNewSet file (sizes_in q) i.numbers) (flat_map set_offsets (parts_of_file p i plans)) (flat_map sets_of plans) = sets_there file (sizes_in q) i.numbers (stops_of p i plans).lines (flat_map set_offsets (parts_of_file p i plans)) (flat_map sets_of plans) (mark_starts i.numbers 0 (flat_map (marks_of i.numbers) plans)) found in
    let apart : Both (HasSets file (sizes_in q) i.numbers) plans (parts_of_file p i plans) = all_apart file (sizes_in q) i.numbers (offsets_of p i plans) (first_values p i.numbers) 0 (front_of p i plans (data_at (counts_of i plans))).code.at (stops_of p i plans).strings (front_of p i plans (data_at (counts_of i plans))).sets.offsets (front_of p i plans (data_at (counts_of i plans))).refs.offsets plans (omega (arith, sets_long p i plans)) new_sets in
    let refs_stand : Both (Stands file) (flat_map ref_offsets (parts_of_file p i plans)) (flat_map (λ c. map offsets_text c.refs) (parts_of_file p i plans)) =
    all_stand file 4 (stops_of p i plans).lists (flat_map ref_offsets (parts_of_file p i plans)) (flat_map (λ c. map offsets_text c.refs) (parts_of_file p i plans)) (stops_of p i plans).refs
    (lie_same file 4 (stops_of p i plans).lists (flat_map ref_offsets (parts_of_file p i plans)) (front_of p i plans (data_at (counts_of i plans))).refs.offsets (flat_map (λ c. map offsets_text c.refs) (parts_of_file p i plans)) (entry_texts 0 (flat_map ref_counts plans) (parameter_offsets plans (front_of p i plans (data_at (counts_of i plans))).sets.offsets)) (stops_of p i plans).refs refs lies.refs) in
    let own_few : Few (flat_map set_offsets (parts_of_file p i plans)) = subst Few (sym sets.offsets_are) set_few in
    let parameters : Both (HasLists file q i.numbers) plans (parts_of_file p i plans) = all_lists file q i.numbers (offsets_of p i plans) (first_values p i.numbers) 0 (front_of p i plans (data_at (counts_of i plans))).code.at (stops_of p i plans).strings (front_of p i plans (data_at (counts_of i plans))).sets.offsets (front_of p i plans (data_at (counts_of i plans))).refs.offsets plans few_file own_few apart refs_stand in
    let lays_all : AllByRecursion (λ c. AllByRecursion (λ m. LaysOutMethod m.body) c.methods) (map (written_class i.numbers p) cs) = subst (λ l. AllByRecursion (λ c. AllByRecursion (λ m. LaysOutMethod m.body) c.methods) l) classes (lays_rec q.classes (all_rec (λ c. All (λ m. LaysOutMethod m.body) c.methods) q.classes lays)) in
    let code_stands = all_stand file 4 (stops_of p i plans).sets (code_offsets (front_of p i plans (data_at (counts_of i plans))).code.at (parts_of plans)) (item_texts (stops_of p i plans).strings (parts_of plans)) (stops_of p i plans).codes lies.codes in
    let line_stands = all_stand file 1 (stops_of p i plans).strings (line_offsets (stops_of p i plans).strings (parts_of plans)) (map (λ m. m.lines) (parts_of plans)) (stops_of p i plans).lines lies.lines in
    let codes : Both (HasCodes file q i.numbers) plans (parts_of_file p i plans) = all_read p i parts few interned fits fit (cells_few p formed) code file cs (offsets_of p i plans) (first_values p i.numbers) 0 (front_of p i plans (data_at (counts_of i plans))).code.at (stops_of p i plans).strings (front_of p i plans (data_at (counts_of i plans))).sets.offsets (front_of p i plans (data_at (counts_of i plans))).refs.offsets plans few_file tables are planned lays_all code_stands line_stands in
    let starts : List ℕ = list_starts (data_at (counts_of i plans)) (type_lists p i plans) in
    let all_same : type_lists p i plans ≡ kept.type_lists q = lists_written p i plans orders.protos uses in
    let list_texts : Same starts starts (map kept.type_list_text (kept.type_lists q)) (map list_text (type_lists p i plans)) = record { offsets_are = refl; texts_are = ap (λ l. map kept.type_list_text l) (sym all_same) ∙ sym (lists_same (type_lists p i plans)) } in
    let list_lie : Lie file 4 (data_at (counts_of i plans)) starts (map kept.type_list_text (kept.type_lists q)) (stops_of p i plans).lists = lie_same file 4 (data_at (counts_of i plans)) starts starts (map kept.type_list_text (kept.type_lists q)) (map list_text (type_lists p i plans)) (stops_of p i plans).lists list_texts lies.lists in
    let leads : Both (λ c part. LeadsTo (kept.type_lists q) starts c.interfaces part.def.interfaces) (map (written_class i.numbers p) cs) (parts_of_file p i plans) = subst (λ l. Both (λ c part. LeadsTo (kept.type_lists q) starts c.interfaces part.def.interfaces) l (parts_of_file p i plans)) classes (interfaces_kind p i plans orders uses) in
    let interfaces : Both (λ c x. AreParameters file (length q.types) x.def.interfaces c.interfaces) (map (written_class i.numbers p) cs) (parts_of_file p i plans) = all_interfaces p i few interned fits parts.items tables.few_types file (data_at (counts_of i plans)) starts (kept.type_lists q) (stops_of p i plans).lists cs (offsets_of p i plans) (first_values p i.numbers) 0 (front_of p i plans (data_at (counts_of i plans))).code.at (stops_of p i plans).strings (front_of p i plans (data_at (counts_of i plans))).sets.offsets (front_of p i plans (data_at (counts_of i plans))).refs.offsets plans are planned list_lie leads in
    let firsts : Both (HasFirsts q i.numbers) plans (parts_of_file p i plans) = all_firsts p i few interned fits parts.entries (offsets_of p i plans) 0 (front_of p i plans (data_at (counts_of i plans))).code.at (stops_of p i plans).strings (front_of p i plans (data_at (counts_of i plans))).sets.offsets (front_of p i plans (data_at (counts_of i plans))).refs.offsets plans planned in
    let all : Each (λ k c. IsClass file q (sizes_in q) (valid.classes_at q + 32 * k) c) 0 (map (written_class i.numbers p) cs) = all_spelled p i few interned fits file cs (offsets_of p i plans) (first_values p i.numbers) 0 (front_of p i plans (data_at (counts_of i plans))).code.at (stops_of p i plans).strings (front_of p i plans (data_at (counts_of i plans))).sets.offsets (front_of p i plans (data_at (counts_of i plans))).refs.offsets plans are planned defs lists named_directories apart parameters codes interfaces values firsts in
    (refl, subst (λ l. Each (λ k c. IsClass file q (sizes_in q) (valid.classes_at q + 32 * k) c) 0 l) (sym classes) all)

-- what is written for a well-formed program is a valid file of its written program
written_valid : (p : Program) (bytes : List ℕ) (w : writer.IsWritten p bytes) → is_well_formed p ≡ true → ((class : ℕ) → IsTwice p class → ⊥) → ((class : ℕ) → IsAncestor p class class → ⊥) → HasWidths p → HasWideValues p → HasWideCode p → LaysOut (written_by w.interner p) → NamesRise p
    → IsSealed p.version bytes → length bytes < 2 ^ 32 → IsValidFile p bytes (written_by w.interner p)
written_valid p bytes w formed once acyclic widths wide code lays sorted sealed few =
    let i : Interner = w.interner in
    let small : length (file_for p i w.plans) < 2 ^ 32 = subst (λ (b : List ℕ). length b < 2 ^ 32) w.file few in
    let spelled = spelled_by p i w.places w.plans w.interned w.ordered w.planned formed once acyclic widths wide code lays sorted small in
    coded p bytes w formed once acyclic widths wide code lays sorted sealed few (subst (λ b. Entries (length (written_by i p).classes) (λ k. IsClass b (written_by i p) (sizes_in (written_by i p)) (valid.classes_at (written_by i p) + 32 * k)) (written_by i p).classes) (sym w.file) spelled)

-- the same of what dex_write says that it wrote
pub written_is_valid : (p : Program) (bytes : List ℕ) (w : writer.IsWritten p bytes) → is_well_formed p ≡ true → ((class : ℕ) → IsTwice p class → ⊥) → ((class : ℕ) → IsAncestor p class class → ⊥) → NamesRise p → LaysOut (written_by w.interner p)
    → IsValidFile p bytes (written_by w.interner p)
written_is_valid p bytes w formed once acyclic rise lays = written_valid p bytes w formed once acyclic (has_widths p w.wide) (has_wide_values p formed w.wide) (has_wide_code p w.wide) lays rise w.sealed w.few
