-- What is left to show of each kind of item: the writer's texts and offsets are those of the written program.
use Rattle.std.specs.Prelude.{◌≡◌, ◌+◌, ◌*◌, ◌<◌, ℕ, List, length, map}
use Rattle.std.specs.List.{flat_map}
use Rattle.dex_base.specs.Decides.{Entries}
use Rattle.dex_pools.specs.declared.interner.Interner.{Interner}
use Rattle.dex_pools.specs.Written.{mark_text}
use Rattle.dex_pools.specs.Spelled.{SpellsPools}
use Rattle.program_model.specs.declared.program.Program.{Program}
use Rattle.dex_write.specs.Plans.{Plan}
use Rattle.dex_write.specs.Sets.{set_counts, ref_counts, parameter_offsets, directory_texts, marks_of, mark_starts}
use Rattle.dex_write.specs.Lists.{list_starts, list_text, type_lists, classes_use}
use Rattle.dex_write.specs.Codes.{parts_of}
use Rattle.dex_write.specs.Data.{data_texts, array_text, string_texts}
use Rattle.dex_write.specs.File.{data_at}
use Rattle.dex_write.specs.Places.{counts_of, front_of, back_of}
use Rattle.dex_defs.specs.Written.{IsWritten}
use Rattle.dex_defs.specs.ClassDefs.{IsClass}
use Rattle.dex_defs.specs.ClassGraph.{IsAbove}
use Rattle.dex_defs.specs.Spells.{pools_of, sizes_in}
use Rattle.dex_defs.specs.Texts.{string_text, type_list_text, offsets_text, directory_text, data_text}
use Rattle.dex_defs.specs.Valid.{classes_at, AllUsed, IsValidFor, IsSigned, Parts, ClassPart, SetPart, AreParts, AreClassParts, AreSets, codes_of, entries_of, ref_offsets, set_offsets}
use Rattle.dex_defs.specs.Texts as kept
use Rattle.dex_defs.specs.ValueTexts as texts
use Rattle.write_laws.specs.Placing.{entry_texts, item_texts, code_offsets, line_offsets, stops_of}
use Rattle.write_laws.specs.Fits.{TablesFit}
use Rattle.dex_defs.specs.Arranged.{Both, LeadsTo}

-- these are the offsets and the texts of a kind
pub record Same (offsets others : List ℕ) (texts other_texts : List (List ℕ)) : Type 0 where
  pub offsets_are : offsets ≡ others
  pub texts_are : texts ≡ other_texts

-- as many entries are written as the program has
pub record SameCounts (i : Interner) (plans : List Plan) (q : Program) : Type 0 where
  pub strings : length q.strings ≡ length i.order.strings.items
  pub types : length q.types ≡ length i.order.types.items
  pub protos : length q.protos ≡ length i.order.protos.items
  pub fields : length q.fields ≡ length i.order.fields.items
  pub methods : length q.methods ≡ length i.order.methods.items
  pub classes : length q.classes ≡ length plans

pub record Kinds (bytes : List ℕ) (p : Program) (i : Interner) (plans : List Plan) (q : Program) (x : Parts) : Type 0 where
  pub counts : SameCounts i plans q
  pub pools : SpellsPools bytes 16777216 (pools_of q)
  pub classes : Entries (length q.classes) (λ k. IsClass bytes q (sizes_in q) (classes_at q + 32 * k)) q.classes
  pub used : AllUsed q
  pub above_first : (class upper : ℕ) → IsAbove q class upper → upper < class
  pub parts : AreParts bytes q x
  pub lists : Same x.starts (list_starts (data_at (counts_of i plans)) (type_lists p i plans)) (map type_list_text (kept.type_lists q)) (map list_text (type_lists p i plans))
  pub refs : Same (flat_map ref_offsets x.classes) (front_of p i plans (data_at (counts_of i plans))).refs.offsets (flat_map (λ c. map offsets_text c.refs) x.classes) (entry_texts 0 (flat_map ref_counts plans) (parameter_offsets plans (front_of p i plans (data_at (counts_of i plans))).sets.offsets))
  pub sets : Same (flat_map set_offsets x.classes) (front_of p i plans (data_at (counts_of i plans))).sets.offsets (map (λ s. offsets_text s.offsets) x.sets) (entry_texts (stops_of p i plans).lines (flat_map set_counts plans) (mark_starts i.numbers 0 (flat_map (marks_of i.numbers) plans)))
  pub codes : Same (map (λ e. e.code) (entries_of x.classes)) (code_offsets (front_of p i plans (data_at (counts_of i plans))).code.at (parts_of plans)) (map (λ c. c.text) (codes_of x.classes)) (item_texts (stops_of p i plans).strings (parts_of plans))
  pub directories : Same (map (λ c. c.def.annotations) x.classes) (front_of p i plans (data_at (counts_of i plans))).directories.offsets (map (λ c. directory_text c.directory) x.classes) (directory_texts plans (front_of p i plans (data_at (counts_of i plans))).sets.offsets (front_of p i plans (data_at (counts_of i plans))).refs.offsets)
  pub members : Same (map (λ c. c.def.data_at) x.classes) (front_of p i plans (data_at (counts_of i plans))).data.offsets (map (λ c. data_text c.lists) x.classes) (data_texts (front_of p i plans (data_at (counts_of i plans))).code.at plans)
  pub strings : Same x.strings (front_of p i plans (data_at (counts_of i plans))).strings.offsets (map string_text q.strings) (string_texts p.strings i.order.strings.items)
  pub lines : Same (map (λ c. c.debug) (codes_of x.classes)) (line_offsets (stops_of p i plans).strings (parts_of plans)) (map (λ c. c.lines) (codes_of x.classes)) (map (λ m. m.lines) (parts_of plans))
  pub marks : Same (flat_map (λ s. s.offsets) x.sets) (map (λ start. (stops_of p i plans).lines + start) (mark_starts i.numbers 0 (flat_map (marks_of i.numbers) plans))) (flat_map (λ s. map texts.mark_text s.marks) x.sets) (map (mark_text i.numbers) (flat_map (marks_of i.numbers) plans))
  pub values : Same (map (λ c. c.def.values) x.classes) (back_of p i.numbers plans (front_of p i plans (data_at (counts_of i plans)))).firsts.offsets (map (λ c. texts.array_text c.values) x.classes) (map (array_text p i.numbers) plans)

-- ---- what is still to be shown, kind by kind, of the parts of classes and of sets; all else is proved

-- the parts of the written file
abbrev pub parts_with : Program → Interner → List Plan → List ClassPart → List SetPart → Parts
parts_with p i plans classes sets = record {
  strings = (front_of p i plans (data_at (counts_of i plans))).strings.offsets;
  parameters = (front_of p i plans (data_at (counts_of i plans))).lists.parameters;
  starts = list_starts (data_at (counts_of i plans)) (type_lists p i plans);
  classes = classes;
  sets = sets;
}

pub record Rest (bytes : List ℕ) (p : Program) (i : Interner) (plans : List Plan) (q : Program) (parts : List ClassPart) (found : List SetPart) : Type 0 where
  pub tables : TablesFit q
  pub used : AllUsed q
  pub many : length q.classes ≡ length plans
  pub uses : classes_use i plans ≡ map (λ c. c.interfaces) q.classes
  pub above_first : (class upper : ℕ) → IsAbove q class upper → upper < class
  pub spelled : Entries (length q.classes) (λ k. IsClass bytes q (sizes_in q) (classes_at q + 32 * k)) q.classes
  pub class_parts : AreClassParts bytes q 0 q.classes parts
  pub interfaces : Both (λ c part. LeadsTo (kept.type_lists q) (list_starts (data_at (counts_of i plans)) (type_lists p i plans)) c.interfaces part.def.interfaces) q.classes parts
  pub set_parts : AreSets bytes q (flat_map set_offsets parts) found
  pub refs : Same (flat_map ref_offsets parts) (front_of p i plans (data_at (counts_of i plans))).refs.offsets (flat_map (λ c. map offsets_text c.refs) parts) (entry_texts 0 (flat_map ref_counts plans) (parameter_offsets plans (front_of p i plans (data_at (counts_of i plans))).sets.offsets))
  pub sets : Same (flat_map set_offsets parts) (front_of p i plans (data_at (counts_of i plans))).sets.offsets (map (λ s. offsets_text s.offsets) found) (entry_texts (stops_of p i plans).lines (flat_map set_counts plans) (mark_starts i.numbers 0 (flat_map (marks_of i.numbers) plans)))
  pub codes : Same (map (λ e. e.code) (entries_of parts)) (code_offsets (front_of p i plans (data_at (counts_of i plans))).code.at (parts_of plans)) (map (λ c. c.text) (codes_of parts)) (item_texts (stops_of p i plans).strings (parts_of plans))
  pub directories : Same (map (λ c. c.def.annotations) parts) (front_of p i plans (data_at (counts_of i plans))).directories.offsets (map (λ c. directory_text c.directory) parts) (directory_texts plans (front_of p i plans (data_at (counts_of i plans))).sets.offsets (front_of p i plans (data_at (counts_of i plans))).refs.offsets)
  pub members : Same (map (λ c. c.def.data_at) parts) (front_of p i plans (data_at (counts_of i plans))).data.offsets (map (λ c. data_text c.lists) parts) (data_texts (front_of p i plans (data_at (counts_of i plans))).code.at plans)
  pub lines : Same (map (λ c. c.debug) (codes_of parts)) (line_offsets (stops_of p i plans).strings (parts_of plans)) (map (λ c. c.lines) (codes_of parts)) (map (λ m. m.lines) (parts_of plans))
  pub marks : Same (flat_map (λ s. s.offsets) found) (map (λ start. (stops_of p i plans).lines + start) (mark_starts i.numbers 0 (flat_map (marks_of i.numbers) plans))) (flat_map (λ s. map texts.mark_text s.marks) found) (map (mark_text i.numbers) (flat_map (marks_of i.numbers) plans))
  pub values : Same (map (λ c. c.def.values) parts) (back_of p i.numbers plans (front_of p i plans (data_at (counts_of i plans)))).firsts.offsets (map (λ c. texts.array_text c.values) parts) (map (array_text p i.numbers) plans)

-- what was written is a valid and signed file of the written program
pub record IsValidFile (p : Program) (bytes : List ℕ) (q : Program) : Type 0 where
  pub valid : IsValidFor bytes q
  pub signed : IsSigned bytes
  pub written : IsWritten p q
