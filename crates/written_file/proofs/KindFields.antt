-- Each kind of item is what the parts of the classes name.
use Rattle.std.proofs.Common.{◌≡◌, ◌≤◌, ◌<◌, ◌+◌, ℕ, zero, suc, List, [], ◌∷◌, ◌++◌, length, map, refl, sym, ap, subst, ◌∙◌, arith, append-nil, Option, Some, None}
use Rattle.std.specs.Prelude.{slice_get}
use Rattle.std.specs.List.{flat_map, AllByRecursion}
use Rattle.std.proofs.lemmas.List.{length-map}
use Rattle.dex_pools.specs.declared.interner.Interner.{Interner}
use Rattle.dex_pools.specs.Interned.{IsInterned}
use Rattle.dex_pools.specs.Written.{mark_text}
use Rattle.program_model.specs.declared.pass.Renumber.{Renumber}
use Rattle.program_model.specs.declared.value.EncValue.{EncValue}
use Rattle.program_model.specs.declared.value.Mark.{Mark}
use Rattle.program_model.specs.declared.program.Class.{Class}
use Rattle.program_model.specs.declared.program.Program.{Program}
use Rattle.dex_write.specs.declared.ordered.MethodPart.{MethodPart}
use Rattle.dex_write.specs.declared.tables.ClassOffsets.{ClassOffsets}
use Rattle.dex_write.specs.Numbers.{text_offsets, up}
use Rattle.dex_write.specs.Order.{classes_at}
use Rattle.dex_write.specs.Plans.{Plan}
use Rattle.dex_write.specs.Codes.{codes_behind, debug_offset, parts_of, IsPlan}
use Rattle.dex_write.specs.Sets.{offsets_at, size_of, sets_of, set_counts, ref_counts, parameter_offsets, behind_class, directory_texts, marks_of, mark_starts}
use Rattle.dex_write.specs.Lists.{with_list, used_offset, index_of, indexes_of, list_starts, all_lists, type_lists, lists_at, protos_use, classes_use}
use Rattle.dex_write.specs.Data.{data_texts, array_text}
use Rattle.dex_write.specs.File.{data_at}
use Rattle.dex_write.specs.Places.{counts_of, front_of, back_of, parts_in, words_behind, places_behind, directories_behind, data_behind, firsts_behind}
use Rattle.dex_write.specs.Written.{ArePlans}
use Rattle.dex_defs.specs.Arranged.{Both, LeadsTo}
use Rattle.dex_defs.specs.ClassDefs.{Def}
use Rattle.dex_defs.specs.Texts as kept
use Rattle.dex_defs.specs.Written.{entries, written_class, written_by, class_order}
use Rattle.dex_defs.specs.Valid.{CodePart, ClassPart, SetPart, codes_of, entries_of, ref_offsets, set_offsets}
use Rattle.write_laws.specs.Used.{IsShort}
use Rattle.write_laws.specs.Fits.{OrdersIn}
use Rattle.write_laws.specs.Kinds.{Same}
use Rattle.write_laws.specs.Placing.{entry_texts, item_text, item_texts, code_offsets, line_offsets, stops_of}
use Rattle.write_laws.proofs.Coding.{starts_count}
use Rattle.write_laws.proofs.Fitting.{sets_fit, all_marks}
use Rattle.write_laws.proofs.Leading.{uses_lead, starts_long}
use Rattle.write_laws.proofs.Lying.{total}
use Rattle.write_laws.proofs.Listed.{members_are}
use Rattle.write_laws.proofs.Written.{lists_written}
use Rattle.written_file.proofs.Fit.{FitsClass}
use Rattle.written_file.proofs.Plans.{classes_written, plans_use, classes_many}
use Rattle.written_file.specs.Parts.{class_parts, found_sets, first_values, offsets_of, parts_of_file, sets_of_file}
use Rattle.written_file.proofs.Parts.{each_from, all_are, def_numbers, part_lists, directories_same, codes_named, codes_made, led_classes}
use Rattle.written_file.proofs.Pairs.{HasOwn, refs_named, sets_named}
use Rattle.written_file.proofs.Members.{Planned, planned}
use Rattle.written_file.proofs.SetTexts.{refs_texts, sets_texts, starts_named, counts_are, marks_are}

-- ---- lengths

texts_long : (at : ℕ) (texts : List (List ℕ)) → length (text_offsets at texts) ≡ length texts
texts_long at [] = refl
texts_long at (t ∷ ts) = ap suc (texts_long (at + length t) ts)

counts_long : (at : ℕ) (counts : List ℕ) → length (offsets_at at counts) ≡ length counts
counts_long at [] = refl
counts_long at (n ∷ ns) = ap suc (counts_long (at + size_of n) ns)

data_long : (at : ℕ) (plans : List Plan) → length (data_texts at plans) ≡ length plans
data_long at [] = refl
data_long at (p ∷ ps) = ap suc (data_long (codes_behind at p.methods) ps)

directories_long : (plans : List Plan) (sets refs : List ℕ) → length (directory_texts plans sets refs) ≡ length plans
directories_long [] sets refs = refl
directories_long (p ∷ ps) sets refs = ap suc (directories_long ps (behind_class p sets) _)

indexes_long : (lists uses : List (List ℕ)) → length (indexes_of lists uses) ≡ length uses
indexes_long lists [] = refl
indexes_long lists (one ∷ uses) = ap suc (indexes_long (with_list lists one) uses)

-- ---- the classes of the plans

module _ (p : Program) (i : Interner) (few : IsShort p) (h : IsInterned p i) (fits : (k : ℕ) (c : Class) → slice_get p.classes k ≡ Some c → FitsClass p c) where
  -- which class a plan is of
  pub record HasPlan (plan : Plan) : Type 0 where
    pub k : ℕ
    pub c : Class
    pub is_class : slice_get p.classes k ≡ Some c
    pub is_plan : IsPlan p i.numbers c plan
    pub planned : Planned p i few h k c (fits k c is_class) is_class plan

  pub all_planned : (places : List ℕ) (plans : List Plan) → ArePlans p i.numbers (flat_map (classes_at p) places) plans → AllByRecursion HasPlan plans
  all_planned [] [] a = tt
  all_planned [] (plan ∷ plans) a = absurd a
  all_planned (k ∷ ks) plans a = by_class (slice_get p.classes k) refl plans a (λ others b. all_planned ks others b)
    where
      one : (c : Class) → slice_get p.classes k ≡ Some c → (plans : List Plan) → ArePlans p i.numbers (c ∷ flat_map (classes_at p) ks) plans → ((others : List Plan) → ArePlans p i.numbers (flat_map (classes_at p) ks) others → AllByRecursion HasPlan others) → AllByRecursion HasPlan plans
      one c e [] b on = absurd b
      one c e (plan ∷ plans) b on = (record { k = k; c = c; is_class = e; is_plan = b.0; planned = planned p i few h k c (fits k c e) e plan b.0 }, on plans b.1)

      by_class : (o : Option Class) → slice_get p.classes k ≡ o → (plans : List Plan) → ArePlans p i.numbers (flat_map (classes_at p) (k ∷ ks)) plans → ((others : List Plan) → ArePlans p i.numbers (flat_map (classes_at p) ks) others → AllByRecursion HasPlan others) → AllByRecursion HasPlan plans
      by_class None e plans b on = on plans (rw e at b)
      by_class (Some c) e plans b on = one c e plans (rw e at b) on

  pub all_own : (plans : List Plan) → AllByRecursion HasPlan plans → AllByRecursion HasOwn plans
  all_own [] a = tt
  all_own (plan ∷ plans) a = (a.0.planned.own, all_own plans a.1)

-- ---- the kinds

module _ (p : Program) (i : Interner) (plans : List Plan) where
  abbrev values : Plan → List EncValue
  values = first_values p i.numbers

  abbrev offsets : ClassOffsets
  offsets = offsets_of p i plans

  data_offsets : length plans ≡ length (front_of p i plans (data_at (counts_of i plans))).data.offsets
  unfolding front_of data_behind
  data_offsets = sym (texts_long _ (data_texts _ plans) ∙ data_long _ plans)

  directory_offsets : length plans ≡ length (front_of p i plans (data_at (counts_of i plans))).directories.offsets
  unfolding front_of directories_behind
  directory_offsets = sym (texts_long _ (directory_texts plans _ _) ∙ directories_long plans _ _)

  first_offsets : length plans ≡ length (back_of p i.numbers plans (front_of p i plans (data_at (counts_of i plans)))).firsts.offsets
  unfolding back_of firsts_behind
  first_offsets = sym (texts_long _ (map (array_text p i.numbers) plans) ∙ length-map plans (array_text p i.numbers))

  interface_offsets : length plans ≡ length (front_of p i plans (data_at (counts_of i plans))).lists.interfaces
  unfolding front_of lists_at
  interface_offsets = sym (length-map (indexes_of (all_lists [] (protos_use p i)) (classes_use i plans)) _ ∙ (indexes_long (all_lists [] (protos_use p i)) (classes_use i plans) ∙ length-map plans _))

  refs_long : length (front_of p i plans (data_at (counts_of i plans))).refs.offsets ≡ length (flat_map ref_counts plans)
  unfolding front_of words_behind
  refs_long = counts_long _ (flat_map ref_counts plans)

  pub sets_long : length (front_of p i plans (data_at (counts_of i plans))).sets.offsets ≡ length (flat_map set_counts plans)
  unfolding front_of words_behind
  sets_long = counts_long _ (flat_map set_counts plans)

  pub members_kind : (classes : List Class) → ArePlans p i.numbers classes plans → Same (map (λ c. c.def.data_at) (parts_of_file p i plans)) (front_of p i plans (data_at (counts_of i plans))).data.offsets (map (λ c. kept.data_text c.lists) (parts_of_file p i plans)) (data_texts (front_of p i plans (data_at (counts_of i plans))).code.at plans)
  members_kind classes are = record {
    offsets_are = def_numbers i.numbers offsets values (λ d. d.data_at) (front_of p i plans (data_at (counts_of i plans))).data.offsets (λ c place. refl) 0 _ _ _ _ plans ∙ all_are (front_of p i plans (data_at (counts_of i plans))).data.offsets (length plans) data_offsets;
    texts_are = part_lists i.numbers offsets values 0 _ _ _ _ plans ∙ members_are p i.numbers classes plans (front_of p i plans (data_at (counts_of i plans))).code.at are;
  }

  pub directories_kind : Same (map (λ c. c.def.annotations) (parts_of_file p i plans)) (front_of p i plans (data_at (counts_of i plans))).directories.offsets (map (λ c. kept.directory_text c.directory) (parts_of_file p i plans)) (directory_texts plans (front_of p i plans (data_at (counts_of i plans))).sets.offsets (front_of p i plans (data_at (counts_of i plans))).refs.offsets)
  directories_kind = record {
    offsets_are = def_numbers i.numbers offsets values (λ d. d.annotations) (front_of p i plans (data_at (counts_of i plans))).directories.offsets (λ c place. refl) 0 _ _ _ _ plans ∙ all_are (front_of p i plans (data_at (counts_of i plans))).directories.offsets (length plans) directory_offsets;
    texts_are = directories_same i.numbers offsets values 0 _ _ _ _ plans;
  }

  pub firsts_named : map (λ c. c.def.values) (parts_of_file p i plans) ≡ (back_of p i.numbers plans (front_of p i plans (data_at (counts_of i plans)))).firsts.offsets
  firsts_named = def_numbers i.numbers offsets values (λ d. d.values) (back_of p i.numbers plans (front_of p i plans (data_at (counts_of i plans)))).firsts.offsets (λ c place. refl) 0 _ _ _ _ plans ∙ all_are (back_of p i.numbers plans (front_of p i plans (data_at (counts_of i plans)))).firsts.offsets (length plans) first_offsets

  pub codes_kind : Same (map (λ e. e.code) (entries_of (parts_of_file p i plans))) (code_offsets (front_of p i plans (data_at (counts_of i plans))).code.at (parts_of plans)) (map (λ c. c.text) (codes_of (parts_of_file p i plans))) (item_texts (stops_of p i plans).strings (parts_of plans))
  codes_kind = record {
    offsets_are = codes_named i.numbers offsets values 0 _ _ _ _ plans;
    texts_are = codes_made i.numbers offsets values (λ c. c.text) item_texts (λ at. refl) (λ at m ms. refl) 0 _ _ _ _ plans;
  }

  pub lines_kind : Same (map (λ c. c.debug) (codes_of (parts_of_file p i plans))) (line_offsets (stops_of p i plans).strings (parts_of plans)) (map (λ c. c.lines) (codes_of (parts_of_file p i plans))) (map (λ m. m.lines) (parts_of plans))
  lines_kind = record {
    offsets_are = codes_made i.numbers offsets values (λ c. c.debug) line_offsets (λ at. refl) (λ at m ms. refl) 0 _ _ _ _ plans;
    texts_are = codes_made i.numbers offsets values (λ c. c.lines) (λ at ms. map (λ m. m.lines) ms) (λ at. refl) (λ at m ms. refl) 0 _ _ _ _ plans;
  }

  pub refs_kind : AllByRecursion HasOwn plans → Same (flat_map ref_offsets (parts_of_file p i plans)) (front_of p i plans (data_at (counts_of i plans))).refs.offsets (flat_map (λ c. map kept.offsets_text c.refs) (parts_of_file p i plans)) (entry_texts 0 (flat_map ref_counts plans) (parameter_offsets plans (front_of p i plans (data_at (counts_of i plans))).sets.offsets))
  refs_kind own = record {
    offsets_are = refs_named i.numbers offsets values 0 _ _ _ (front_of p i plans (data_at (counts_of i plans))).refs.offsets plans own refs_long;
    texts_are = refs_texts i.numbers offsets values 0 _ _ (front_of p i plans (data_at (counts_of i plans))).sets.offsets _ plans (omega (arith, sets_long));
  }

  pub sets_kind : AllByRecursion HasOwn plans → Same (flat_map set_offsets (parts_of_file p i plans)) (front_of p i plans (data_at (counts_of i plans))).sets.offsets (map (λ s. kept.offsets_text s.offsets) (sets_of_file p i plans)) (entry_texts (stops_of p i plans).lines (flat_map set_counts plans) (mark_starts i.numbers 0 (flat_map (marks_of i.numbers) plans)))
  sets_kind own =
      let starts : List ℕ = mark_starts i.numbers 0 (flat_map (marks_of i.numbers) plans) in
      let enough : total (map length (flat_map sets_of plans)) ≤ length starts = subst (λ (l : List ℕ). total l ≤ length starts) (counts_are plans) (sets_fit i.numbers plans) in
      record {
        offsets_are = sets_named i.numbers offsets values 0 _ _ (front_of p i plans (data_at (counts_of i plans))).sets.offsets _ plans own sets_long;
        texts_are = sets_texts i.numbers (stops_of p i plans).lines (flat_map sets_of plans) starts enough ∙ ap (λ (l : List ℕ). entry_texts (stops_of p i plans).lines l starts) (sym (counts_are plans));
      }

  pub marks_named : flat_map (λ s. s.offsets) (sets_of_file p i plans) ≡ map (λ start. (stops_of p i plans).lines + start) (mark_starts i.numbers 0 (flat_map (marks_of i.numbers) plans))
  marks_named =
      let starts : List ℕ = mark_starts i.numbers 0 (flat_map (marks_of i.numbers) plans) in
      let many : length starts ≡ total (map length (flat_map sets_of plans)) = starts_count i.numbers 0 (flat_map (marks_of i.numbers) plans) ∙ (sym (all_marks i.numbers plans) ∙ ap (λ (l : List ℕ). total l) (counts_are plans)) in
      starts_named i.numbers (stops_of p i plans).lines (flat_map sets_of plans) starts many

  pub uses_are : (places : List ℕ) → class_order p ≡ places → ArePlans p i.numbers (flat_map (classes_at p) places) plans → classes_use i plans ≡ map (λ c. c.interfaces) (written_by i p).classes
  uses_are places same are = plans_use p i.numbers (flat_map (classes_at p) places) plans are ∙ ap (λ (l : List Class). map (λ c. c.interfaces) l) (sym (ap (λ (l : List ℕ). entries (written_class i.numbers p) p.classes l) same ∙ classes_written i.numbers p places))

  pub interfaces_are : (offsets_of p i plans).interfaces ≡ map (used_offset (list_starts (data_at (counts_of i plans)) (all_lists (all_lists [] (protos_use p i)) (classes_use i plans)))) (indexes_of (all_lists [] (protos_use p i)) (classes_use i plans))
  unfolding front_of lists_at type_lists
  interfaces_are = refl

  pub interfaces_kind : OrdersIn p i → classes_use i plans ≡ map (λ c. c.interfaces) (written_by i p).classes
      → Both (λ c part. LeadsTo (kept.type_lists (written_by i p)) (list_starts (data_at (counts_of i plans)) (type_lists p i plans)) c.interfaces part.def.interfaces) (written_by i p).classes (parts_of_file p i plans)
  unfolding type_lists
  interfaces_kind orders uses =
      let lists : List (List ℕ) = all_lists [] (protos_use p i) in
      let all : List (List ℕ) = all_lists lists (classes_use i plans) in
      let starts : List ℕ = list_starts (data_at (counts_of i plans)) all in
      let leads : Both (LeadsTo all starts) (classes_use i plans) (map (used_offset starts) (indexes_of lists (classes_use i plans))) = uses_lead all starts lists (classes_use i plans) (starts_long (data_at (counts_of i plans)) all) (record { rest = []; is = sym (append-nil all) }) in
      let each : each_from offsets.interfaces 0 (length plans) ≡ map (used_offset starts) (indexes_of lists (classes_use i plans)) = all_are offsets.interfaces (length plans) interface_offsets ∙ interfaces_are in
      let led : Both (LeadsTo all starts) (map (λ c. c.interfaces) (written_by i p).classes) (each_from offsets.interfaces 0 (length plans)) = subst (λ l. Both (LeadsTo all starts) l (each_from offsets.interfaces 0 (length plans))) uses (subst (λ l. Both (LeadsTo all starts) (classes_use i plans) l) (sym each) leads) in
      led_classes (LeadsTo (kept.type_lists (written_by i p)) starts) (λ c. c.interfaces) i.numbers offsets values (written_by i p).classes 0 _ _ _ _ plans (subst (λ l. Both (LeadsTo l starts) (map (λ c. c.interfaces) (written_by i p).classes) (each_from offsets.interfaces 0 (length plans))) (lists_written p i plans orders.protos uses) led)
