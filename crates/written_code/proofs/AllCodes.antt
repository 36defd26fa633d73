-- The code of all methods of a well-formed program that lays out stands where class data says.
use Rattle.std.proofs.Common.{◌≡◌, ◌<◌, ◌≤◌, ◌+◌, ◌-◌, ◌^◌, ℕ, zero, suc, Bool, true, false, List, [], ◌∷◌, ◌++◌, length, map, take, drop, Option, Some, None, refl, sym, ap, subst, ◌∙◌, arith, All}
use Rattle.std.specs.Prelude.{slice_get, nat_lt, nat_le, not, ◌&&◌, sum_by, option_and_then}
use Rattle.std.specs.List.{AllByRecursion, flat_map, list_all, enumerate_from}
use Rattle.std.specs.Option.{option_map}
use Rattle.std.proofs.lemmas.Bool.{and_parts, leb-true}
use Rattle.std.proofs.lemmas.List.Sums.{sum_by-cons}
use Rattle.lemmas.proofs.Lists.{all_at}
use Rattle.lemmas.proofs.Options.{some_same}
use Rattle.insn_set.specs.declared.form.Insn.{Insn}
use Rattle.program_model.specs.ProgramRules.{is_well_formed}
use Rattle.program_model.specs.TableRules.{tables_fit}
use Rattle.program_model.specs.Cells.{cells_of, class_cells, method_cells, body_cells}
use Rattle.program_model.specs.Items.{items_of, class_items, method_items, body_items, region_items}
use Rattle.program_model.specs.InterfaceRules.{interfaces_stand_free}
use Rattle.program_model.specs.BodyRules.{follows, ends, insn_fits, body_fits}
use Rattle.program_model.specs.RegionRules.{may_begin, region_fits, handler_fits, rest_fits, catches, are_apart, regions_fit}
use Rattle.program_model.specs.Neighbours.{neighbours}
use Rattle.program_model.specs.Texts.{has_type}
use Rattle.program_model.specs.ValueRules.{marks_fit}
use Rattle.program_model.specs.MemberRules.{is_direct, proto_of, class_of_method, is_class_number, code_fits, method_fits, class_fits, lacks_code, frame_fits}
use Rattle.program_model.specs.LineRules.{lines_fit}
use Rattle.program_model.specs.declared.pass.Renumber.{Renumber}
use Rattle.program_model.specs.declared.value.EncValue.{EncValue}
use Rattle.program_model.specs.declared.pools.Proto.{Proto}
use Rattle.program_model.specs.declared.pools.MethodName.{MethodName}
use Rattle.program_model.specs.declared.body.Handler.{Handler}
use Rattle.program_model.specs.declared.body.Region.{Region}
use Rattle.program_model.specs.declared.body.Body.{Body}
use Rattle.program_model.specs.declared.program.Method.{Method}
use Rattle.program_model.specs.declared.program.Class.{Class}
use Rattle.program_model.specs.declared.program.Program.{Program}
use Rattle.class_defs.specs.ClassGraph.{IsTwice, IsAncestor}
use Rattle.dex_pools.specs.declared.interner.Interner.{Interner}
use Rattle.dex_pools.specs.declared.used.Named.{Named}
use Rattle.dex_pools.specs.declared.used.Named.TheVariants as named
use Rattle.dex_pools.specs.Interned.{IsInterned}
use Rattle.dex_pools.specs.Numbering.{used_in, proto_key, method_key}
use Rattle.dex_pools.specs.Used.{class_names, method_names, body_names, code_names, insn_names, region_names, handler_names, kind_names, source_names, marks_names, field_names}
use Rattle.dex_write.specs.declared.ordered.MethodPart.{MethodPart}
use Rattle.dex_write.specs.declared.tables.ClassOffsets.{ClassOffsets}
use Rattle.dex_write.specs.Order.{classes_at}
use Rattle.dex_write.specs.Plans.{Plan, spot_of}
use Rattle.dex_write.specs.Codes.{IsPart, IsCoded, IsCodedIn, code_offset, code_behind, codes_behind, debug_offset, lines_behind, parts_of, parameters_in}
use Rattle.dex_write.specs.Sets.{behind_class}
use Rattle.dex_write.specs.File.{data_at}
use Rattle.dex_write.specs.Places.{counts_of, front_of, file_for}
use Rattle.dex_write.specs.Written.{ArePlans}
use Rattle.dex_write.specs.Written as writer
use Rattle.dex_defs.specs.Arranged.{Both}
use Rattle.dex_defs.specs.ClassData.{Entry}
use Rattle.dex_defs.specs.LaysOut.{LaysOut, LaysOutMethod}
use Rattle.dex_defs.specs.Valid.{IsCodePart, AreCodes, methods_of, parameters_of}
use Rattle.dex_defs.specs.Written.{entries, new_method, new_proto, written_proto, written_method_name, written_method, written_class, written_by, class_order}
use Rattle.write_laws.specs.Used.{IsUsed, IsShort, UsesMethod}
use Rattle.write_laws.proofs.Marking.{all_left, all_right}
use Rattle.write_laws.proofs.Closed.{names_used, used_closed}
use Rattle.write_laws.proofs.NamesOrdering.{AsMany, used_marked}
use Rattle.write_laws.proofs.Owning.{no_longer}
use Rattle.write_laws.proofs.Carried.{carried}
use Rattle.write_laws.specs.Fits.{OrdersIn, TablesFit}
use Rattle.write_laws.specs.Listing.{method_entry, method_entries, lists_in}
use Rattle.write_laws.specs.Placing.{AllLie, item_text, item_texts, code_offsets, line_offsets, stops_of}
use Rattle.write_laws.proofs.Coded.{plans_fit}
use Rattle.write_laws.proofs.Whole.{file_lies}
use Rattle.write_laws.proofs.Tabled.{AreShort, short_of, is_short}
use Rattle.write_laws.proofs.Ordering.{orders_in}
use Rattle.written_file.proofs.Fit.{Parts, parts_of as well_formed_parts, FitsClass, class_at_fits}
use Rattle.written_file.proofs.Grouped.{Spot}
use Rattle.written_file.proofs.Order.{order_is}
use Rattle.written_file.proofs.Plans.{classes_written}
use Rattle.written_file.specs.Parts.{code_parts, class_parts, first_values, offsets_of, parts_of_file}
use Rattle.written_file.proofs.Members.{method_or, method_at}
use Rattle.written_file.proofs.KindFields.{HasPlan, all_planned}
use Rattle.written_file.proofs.Standing.{Stands, all_stand, stands_few, both_split}
use Rattle.widths.specs.Code.{WideCode}
use Rattle.written_code.specs.Widths.{HasWideCode}
use Rattle.written_code.proofs.Forms.{Renamed}
use Rattle.written_code.proofs.Fitting.{FewEntries, sum_in, all_rec, kind_renamed}
use Rattle.written_code.proofs.Codes.{FitMethod, method_part}

-- ---- what holds of all of a list, and of one of them

all_get : {X : Type 0} (P : X → Type 0) (xs : List X) (k : ℕ) (x : X) → AllByRecursion P xs → slice_get xs k ≡ Some x → P x
all_get P [] k x a e = absurd cc
all_get P (y ∷ ys) zero x a e = subst P (some_same y x e) a.0
all_get P (y ∷ ys) (suc k) x a e = all_get P ys k x a.1 e

flat_get : {X Y : Type 0} (P : Y → Type 0) (f : X → List Y) (xs : List X) (k : ℕ) (x : X) → AllByRecursion P (flat_map f xs) → slice_get xs k ≡ Some x → AllByRecursion P (f x)
flat_get P f [] k x a e = absurd cc
flat_get P f (y ∷ ys) zero x a e = subst (λ z. AllByRecursion P (f z)) (some_same y x e) (all_left P (f y) (flat_map f ys) a)
flat_get P f (y ∷ ys) (suc k) x a e = flat_get P f ys k x (all_right P (f y) (flat_map f ys) a) e

-- ---- cells

pub record Cells (p : Program) : Type 0 where
  few : cells_of p ≤ 67108864

pub cells_few : (p : Program) → is_well_formed p ≡ true → Cells p
unfolding is_well_formed
cells_few p h =
    let a = and_parts (tables_fit p) ((nat_le (cells_of p) 67108864 && (nat_le (items_of p) 16777216 && interfaces_stand_free p)) && list_all (class_fits p) p.classes) h in
    let b = and_parts (nat_le (cells_of p) 67108864 && (nat_le (items_of p) 16777216 && interfaces_stand_free p)) (list_all (class_fits p) p.classes) a.1 in
    let c = and_parts (nat_le (cells_of p) 67108864) (nat_le (items_of p) 16777216 && interfaces_stand_free p) b.0 in
    record { few = leb-true (cells_of p) 67108864 c.0 }

body_few : (p : Program) (k j : ℕ) (c : Class) (m : Method) (b : Body) → cells_of p ≤ 67108864 → slice_get p.classes k ≡ Some c → slice_get c.methods j ≡ Some m → m.body ≡ Some b → body_cells b ≤ 67108864
body_few p k j c m b few is_class is_method is_body =
    let one : class_cells c ≤ cells_of p = sum_in class_cells p.classes k c is_class in
    let two : method_cells m ≤ class_cells c = sum_in method_cells c.methods j m is_method in
    let three : method_cells m ≡ body_cells b = ap (λ (o : Option Body). elim o [ Some body ↦ body_cells body | None ↦ 0 ]) is_body in
    omega (arith, few, one, two, three)

-- ---- items

items_small : (rs : List Region) → sum_by region_items rs < 2 ^ 31 → AllByRecursion (λ x. length x.handlers < 2 ^ 31) rs
items_small [] le = tt
items_small (r ∷ rs) le = (omega (arith, le, sum_by-cons region_items r rs), items_small rs (omega (arith, le, sum_by-cons region_items r rs)))

class_items_least : (c : Class) → sum_by method_items c.methods ≤ class_items c
unfolding class_items
class_items_least c = omega arith

program_items_least : (p : Program) → sum_by class_items p.classes ≤ items_of p
unfolding items_of
program_items_least p = omega arith

handlers_small : (p : Program) (k j : ℕ) (c : Class) (m : Method) (b : Body) → items_of p ≤ 16777216 → slice_get p.classes k ≡ Some c → slice_get c.methods j ≡ Some m → m.body ≡ Some b → AllByRecursion (λ x. length x.handlers < 2 ^ 31) b.regions
handlers_small p k j c m b few is_class is_method is_body =
    let one : class_items c ≤ sum_by class_items p.classes = sum_in class_items p.classes k c is_class in
    let two : method_items m ≤ sum_by method_items c.methods = sum_in method_items c.methods j m is_method in
    let three : body_items m.body ≡ sum_by region_items b.regions = ap body_items is_body in
    items_small b.regions (omega (arith, few, one, two, three, class_items_least c, program_items_least p))

-- ---- names

method_all : (p : Program) (k j : ℕ) (c : Class) (m : Method) → slice_get p.classes k ≡ Some c → slice_get c.methods j ≡ Some m → AllByRecursion (IsUsed (used_in p)) (method_names m)
unfolding class_names
method_all p k j c m is_class is_method =
    let U : Named → Type 0 = IsUsed (used_in p) in
    let all : AllByRecursion U (class_names c) = flat_get U class_names p.classes k c (names_used p) is_class in
    let methods : List Named = flat_map method_names c.methods in
    let fields : List Named = flat_map field_names c.fields in
    let marks : List Named = marks_names c.marks in
    let source : List Named = source_names c.source in
    let kinds : List Named = flat_map kind_names c.interfaces in
    let a = all_right U kinds (source ++ (marks ++ (fields ++ methods))) all.1.1 in
    let b = all_right U source (marks ++ (fields ++ methods)) a in
    let d = all_right U marks (fields ++ methods) b in
    flat_get U method_names c.methods j m (all_right U fields methods d) is_method

method_used : (p : Program) (m : Method) → AllByRecursion (IsUsed (used_in p)) (method_names m) → IsUsed (used_in p) (named.Method m.name)
unfolding method_names
method_used p m a = a.0

code_all : (p : Program) (m : Method) (b : Body) → AllByRecursion (IsUsed (used_in p)) (method_names m) → m.body ≡ Some b → AllByRecursion (IsUsed (used_in p)) (body_names b)
unfolding method_names
code_all p m b a e =
    let U : Named → Type 0 = IsUsed (used_in p) in
    let codes : AllByRecursion U (code_names m.body) = all_right U (flat_map marks_names m.parameter_marks) (code_names m.body) (all_right U (marks_names m.marks) (flat_map marks_names m.parameter_marks ++ code_names m.body) a.1) in
    subst (λ o. AllByRecursion U (code_names o)) e codes

-- ---- a method of the program

code_of : (p : Program) (class : ℕ) (m : Method) → method_fits p class m ≡ true → code_fits p m m.body ≡ true
unfolding method_fits
code_of p class m h = (and_parts (is_class_number (class_of_method (slice_get p.methods m.name)) class) (code_fits p m m.body) (and_parts (is_class_number (class_of_method (slice_get p.methods m.name)) class && code_fits p m m.body) (marks_fit p m.marks && list_all (marks_fit p) m.parameter_marks) h).0).1

module _ (p : Program) (i : Interner) (few : IsShort p) (h : IsInterned p i) where
  abbrev q : Program
  q = written_by i p

  abbrev r : Renumber
  r = i.numbers

  many : AsMany p (used_in p)
  many = used_marked p

  orders : OrdersIn p i
  orders = orders_in p i h

  -- how many parameters a method has stays
  parameters_kept : (m : Method) → IsUsed (used_in p) (named.Method m.name) → parameters_in (proto_of p m.name) ≡ parameters_of q (written_method r m)
  parameters_kept m used = by (slice_get p.methods m.name) refl
    where
      there : slice_get q.methods (new_method r m.name) ≡ option_map (written_method_name r) (slice_get p.methods m.name)
      there = carried (written_method_name r) p.methods (used_in p).methods (method_key r.strings.items r.types.items r.protos.items p.methods) i.order.methods.items r.methods.items h.methods orders.methods many.methods few.methods m.name used

      by : (o : Option MethodName) → slice_get p.methods m.name ≡ o → parameters_in (proto_of p m.name) ≡ parameters_of q (written_method r m)
      by None e = ap (λ (o : Option MethodName). parameters_in (option_and_then (λ x. slice_get p.protos x.proto) o)) e
          ∙ sym (ap (λ (o : Option MethodName). elim (option_and_then (λ x. slice_get q.protos x.proto) o) [ Some proto ↦ length proto.parameters | None ↦ 0 ]) (there ∙ ap (option_map (written_method_name r)) e))
      by (Some x) e =
          let own : UsesMethod (used_in p) x = (used_closed p few).methods m.name x e used in
          let proto : slice_get q.protos (new_proto r x.proto) ≡ option_map (written_proto r) (slice_get p.protos x.proto) = carried (written_proto r) p.protos (used_in p).protos (proto_key r.types.items p.protos) i.order.protos.items r.protos.items h.protos orders.protos many.protos few.protos x.proto own.proto in
          ap (λ (o : Option MethodName). parameters_in (option_and_then (λ y. slice_get p.protos y.proto) o)) e
          ∙ (same (slice_get p.protos x.proto) ∙ sym (ap (λ (o : Option MethodName). elim (option_and_then (λ y. slice_get q.protos y.proto) o) [ Some proto ↦ length proto.parameters | None ↦ 0 ]) (there ∙ ap (option_map (written_method_name r)) e) ∙ ap (λ (o : Option Proto). elim o [ Some proto ↦ length proto.parameters | None ↦ 0 ]) proto))
        where
          same : (o : Option Proto) → parameters_in o ≡ elim (option_map (written_proto r) o) [ Some proto ↦ length proto.parameters | None ↦ 0 ]
          same None = refl
          same (Some y) = sym (map_size y.parameters)
            where
              map_size : (ns : List ℕ) → length (written_proto r (record { shorty = 0; result = 0; parameters = ns })).parameters ≡ length ns
              map_size [] = refl
              map_size (n ∷ ns) = ap suc (map_size ns)

  module _ (fit : FewEntries p (written_by i p)) where
    handlers_named : (insns : List Insn) (hs : List Handler) → list_all (handler_fits p insns) hs ≡ true → AllByRecursion (IsUsed (used_in p)) (flat_map handler_names hs) → AllByRecursion (λ y. Renamed r.types.items y.kind 65536) hs
    handlers_named insns [] e u = tt
    handlers_named insns (x ∷ hs) e u =
        let both = and_parts (handler_fits p insns x) (list_all (handler_fits p insns) hs) e in
        let one = and_parts (has_type p x.kind) (may_begin (slice_get insns x.position)) both.0 in
        (kind_renamed p i few h fit x.kind one.0 u.0, handlers_named insns hs both.1 u.1)

    regions_named : (insns : List Insn) (rs : List Region) → list_all (region_fits p insns) rs ≡ true → AllByRecursion (IsUsed (used_in p)) (flat_map region_names rs) → AllByRecursion (λ x. AllByRecursion (λ y. Renamed r.types.items y.kind 65536) x.handlers) rs
    regions_named insns [] e u = tt
    regions_named insns (x ∷ rs) e u =
        let both = and_parts (region_fits p insns x) (list_all (region_fits p insns) rs) e in
        let a = and_parts (nat_lt x.first x.end && nat_le x.end (length insns)) (catches x && (list_all (handler_fits p insns) x.handlers && rest_fits insns x.rest)) both.0 in
        let c = and_parts (catches x) (list_all (handler_fits p insns) x.handlers && rest_fits insns x.rest) a.1 in
        let d = and_parts (list_all (handler_fits p insns) x.handlers) (rest_fits insns x.rest) c.1 in
        (handlers_named insns x.handlers d.0 (all_left (IsUsed (used_in p)) (region_names x) (flat_map region_names rs) u), regions_named insns rs both.1 (all_right (IsUsed (used_in p)) (region_names x) (flat_map region_names rs) u))

    pub body_named : (b : Body) → body_fits p b ≡ true → AllByRecursion (IsUsed (used_in p)) (body_names b) → AllByRecursion (λ x. AllByRecursion (λ y. Renamed r.types.items y.kind 65536) x.handlers) b.regions
    unfolding body_fits regions_fit body_names
    body_named b fits used =
        let a = and_parts (may_begin (slice_get b.insns 0) && ends (slice_get b.insns (length b.insns - 1))) (list_all follows (neighbours b.insns) && (list_all (insn_fits p b) (enumerate_from 0 b.insns) && regions_fit p b.insns b.regions)) fits in
        let d = and_parts (list_all follows (neighbours b.insns)) (list_all (insn_fits p b) (enumerate_from 0 b.insns) && regions_fit p b.insns b.regions) a.1 in
        let e = and_parts (list_all (insn_fits p b) (enumerate_from 0 b.insns)) (regions_fit p b.insns b.regions) d.1 in
        let g = and_parts (list_all (region_fits p b.insns) b.regions) (list_all are_apart (neighbours b.regions)) e.1 in
        regions_named b.insns b.regions g.0 (all_right (IsUsed (used_in p)) (flat_map insn_names b.insns) (flat_map region_names b.regions) used)

    -- ---- the methods of a class

    pub record GoodMethod (c : Class) (part : MethodPart) : Type 0 where
      pub m : Method
      pub is : slice_get c.methods part.place ≡ Some m
      pub good : FitMethod p i few h fit m

    pub code_body : (m : Method) (b : Body) → m.body ≡ Some b → code_fits p m m.body ≡ true → body_fits p b ≡ true
    code_body m b e c =
        let is : code_fits p m (Some b) ≡ true = subst (λ o. code_fits p m o ≡ true) e c in
        let a = and_parts (not (lacks_code m.flags)) (frame_fits p m b && (body_fits p b && lines_fit (length b.insns) m.lines)) is in
        let d = and_parts (frame_fits p m b) (body_fits p b && lines_fit (length b.insns) m.lines) a.1 in
        (and_parts (body_fits p b) (lines_fit (length b.insns) m.lines) d.1).0

    methods_stand : (bytes : List ℕ) (c : Class) (code_at lines_at : ℕ) (ms : List MethodPart) → length bytes < 2 ^ 32 → AllByRecursion (IsPart p r c) ms → AllByRecursion (GoodMethod c) ms → Both (Stands bytes) (code_offsets code_at ms) (item_texts lines_at ms) → Both (Stands bytes) (line_offsets lines_at ms) (map (λ m. m.lines) ms)
        → AreCodes bytes q (method_entries c code_at ms) (map (λ m. written_method r (method_at c m.place)) ms) (code_parts lines_at ms)
    methods_stand bytes c code_at lines_at [] few_file parts good codes lines = tt
    methods_stand bytes c code_at lines_at (part ∷ ms) few_file parts good codes lines =
        let g : GoodMethod c part = good.0 in
        let coded : IsCoded p r g.m part.code part.lines = subst (λ o. IsCodedIn p r o part.code part.lines) g.is parts.0 in
        let low : debug_offset lines_at part < 2 ^ 32 = stands_few bytes (debug_offset lines_at part) part.lines few_file lines.0 in
        let one : IsCodePart bytes q (code_offset code_at part) (written_method r g.m) (record { debug = debug_offset lines_at part; text = item_text (debug_offset lines_at part) part; lines = part.lines }) =
        method_part p i few h fit bytes g.m (code_offset code_at part) lines_at part g.good (λ b e. body_named b (code_body g.m b e g.good.code) (g.good.used b e)) low coded codes.0 in
        (subst (λ m. IsCodePart bytes q (code_offset code_at part) (written_method r m) (record { debug = debug_offset lines_at part; text = item_text (debug_offset lines_at part) part; lines = part.lines })) (sym (ap method_or g.is)) one, methods_stand bytes c (code_behind code_at part) (lines_at + length part.lines) ms few_file parts.1 good.1 codes.1 lines.1)

-- ---- lists of methods one behind another

entries_append : (c : Class) (at : ℕ) (ms ns : List MethodPart) → method_entries c at (ms ++ ns) ≡ method_entries c at ms ++ method_entries c (codes_behind at ms) ns
entries_append c at [] ns = refl
entries_append c at (m ∷ ms) ns = ap (λ (l : List Entry). method_entry c at m ∷ l) (entries_append c (code_behind at m) ms ns)

take_drop : {X : Type 0} (n : ℕ) (xs : List X) → take n xs ++ drop n xs ≡ xs
take_drop zero xs = refl
take_drop (suc n) [] = refl
take_drop (suc n) (x ∷ xs) = ap (λ l. x ∷ l) (take_drop n xs)

pub methods_are : (plan : Plan) (at : ℕ) → methods_of (lists_in plan at) ≡ method_entries plan.class at plan.methods
methods_are plan at = sym (entries_append plan.class at (take plan.directs plan.methods) (drop plan.directs plan.methods)) ∙ ap (λ (l : List MethodPart). method_entries plan.class at l) (take_drop plan.directs plan.methods)

pub offsets_append : (at : ℕ) (ms ns : List MethodPart) → code_offsets at (ms ++ ns) ≡ code_offsets at ms ++ code_offsets (codes_behind at ms) ns
offsets_append at [] ns = refl
offsets_append at (m ∷ ms) ns = ap (λ (l : List ℕ). code_offset at m ∷ l) (offsets_append (code_behind at m) ms ns)

pub texts_append : (at : ℕ) (ms ns : List MethodPart) → item_texts at (ms ++ ns) ≡ item_texts at ms ++ item_texts (lines_behind at ms) ns
texts_append at [] ns = refl
texts_append at (m ∷ ms) ns = ap (λ (l : List (List ℕ)). item_text (debug_offset at m) m ∷ l) (texts_append (at + length m.lines) ms ns)

pub lines_append : (at : ℕ) (ms ns : List MethodPart) → line_offsets at (ms ++ ns) ≡ line_offsets at ms ++ line_offsets (lines_behind at ms) ns
lines_append at [] ns = refl
lines_append at (m ∷ ms) ns = ap (λ (l : List ℕ). debug_offset at m ∷ l) (lines_append (at + length m.lines) ms ns)

pub map_append : {X Y : Type 0} (f : X → Y) (xs ys : List X) → map f (xs ++ ys) ≡ map f xs ++ map f ys
map_append f [] ys = refl
map_append f (x ∷ xs) ys = ap (λ l. f x ∷ l) (map_append f xs ys)

pub many_codes : (at to : ℕ) (ms : List MethodPart) → length (code_offsets at ms) ≡ length (item_texts to ms)
many_codes at to [] = refl
many_codes at to (m ∷ ms) = ap suc (many_codes (code_behind at m) (to + length m.lines) ms)

pub many_lines : (at : ℕ) (ms : List MethodPart) → length (line_offsets at ms) ≡ length (map (λ m. m.lines) ms)
many_lines at [] = refl
many_lines at (m ∷ ms) = ap suc (many_lines (at + length m.lines) ms)

-- ---- all classes

pub spots_all : (c : Class) (num : Method → ℕ) (first : Method → Bool) (b : Bool) (ms : List MethodPart) → AllByRecursion (λ m. Spot num first c.methods b (spot_of m)) ms → AllByRecursion (λ part. (m : Method) × (slice_get c.methods part.place ≡ Some m)) ms
spots_all c num first b [] a = tt
spots_all c num first b (m ∷ ms) a = ((a.0.x, a.0.is), spots_all c num first b ms a.1)

pub all_both : {X : Type 0} (P : X → Type 0) (n : ℕ) (xs : List X) → AllByRecursion P (take n xs) → AllByRecursion P (drop n xs) → AllByRecursion P xs
all_both P zero xs a b = b
all_both P (suc n) [] a b = tt
all_both P (suc n) (x ∷ xs) a b = (a.0, all_both P n xs a.1 b)

module _ (p : Program) (i : Interner) (parts : Parts p) (few : IsShort p) (h : IsInterned p i) (fits : (k : ℕ) (c : Class) → slice_get p.classes k ≡ Some c → FitsClass p c) (fit : FewEntries p (written_by i p)) (cells : Cells p) (wide : HasWideCode p) where
  pub good_all : (k : ℕ) (c : Class) (ms : List MethodPart) → slice_get p.classes k ≡ Some c → AllByRecursion (λ part. (m : Method) × (slice_get c.methods part.place ≡ Some m)) ms → AllByRecursion (λ m. LaysOutMethod m.body) (map (λ m. written_method i.numbers (method_at c m.place)) ms) → AllByRecursion (GoodMethod p i few h fit c) ms
  good_all k c [] is a lays = tt
  good_all k c (part ∷ ms) is a lays =
      let m : Method = a.0.0 in
      let at : slice_get c.methods part.place ≡ Some m = a.0.1 in
      let names : AllByRecursion (IsUsed (used_in p)) (method_names m) = method_all p k part.place c m is at in
      let good : FitMethod p i few h fit m = record {
        code = code_of p c.name m (all_at (method_fits p c.name) c.methods part.place m (fits k c is).methods at);
        cells = λ b e. body_few p k part.place c m b cells.few is at e;
        wide = all_get (λ x. WideCode x.body) c.methods part.place m (all_get (λ x. AllByRecursion (λ y. WideCode y.body) x.methods) p.classes k c wide is) at;
        used = λ b e. code_all p m b names e;
        small = λ b e. handlers_small p k part.place c m b parts.items is at e;
        lays = subst (λ x. LaysOutMethod (written_method i.numbers x).body) (ap method_or at) lays.0;
        parameters = parameters_kept p i few h m (method_used p m names);
      } in
      (record { m = m; is = at; good = good }, good_all k c ms is a.1 lays.1)

  pub all_codes : (bytes : List ℕ) (cs : List Class) (offsets : ClassOffsets) (values : Plan → List EncValue) (place code_at lines_at : ℕ) (sets refs : List ℕ) (ps : List Plan) → length bytes < 2 ^ 32 → ArePlans p i.numbers cs ps → AllByRecursion (HasPlan p i few h fits) ps
      → AllByRecursion (λ c. AllByRecursion (λ m. LaysOutMethod m.body) c.methods) (map (written_class i.numbers p) cs)
      → Both (Stands bytes) (code_offsets code_at (parts_of ps)) (item_texts lines_at (parts_of ps)) → Both (Stands bytes) (line_offsets lines_at (parts_of ps)) (map (λ m. m.lines) (parts_of ps))
      → Both (λ c x. AreCodes bytes (written_by i p) (methods_of x.lists) c.methods x.codes) (map (written_class i.numbers p) cs) (class_parts i.numbers offsets values place code_at lines_at sets refs ps)
  all_codes bytes [] offsets values place code_at lines_at sets refs [] few_file are a lays codes lines = tt
  all_codes bytes [] offsets values place code_at lines_at sets refs (plan ∷ ps) few_file are a lays codes lines = absurd are
  all_codes bytes (c ∷ cs) offsets values place code_at lines_at sets refs [] few_file are a lays codes lines = absurd are
  all_codes bytes (c ∷ cs) offsets values place code_at lines_at sets refs (plan ∷ ps) few_file are a lays codes lines =
      let x : HasPlan p i few h fits plan = a.0 in
      let same : x.c ≡ c = sym x.planned.class ∙ are.0.class in
      let ms : List MethodPart = plan.methods in
      let rest : List MethodPart = parts_of ps in
      let written : (written_class i.numbers p c).methods ≡ map (λ m. written_method i.numbers (method_at c m.place)) ms = ap (λ (y : Class). (written_class i.numbers p y).methods) (sym same) ∙ (x.planned.methods ∙ ap (λ (y : Class). map (λ m. written_method i.numbers (method_at y m.place)) ms) same) in
      let is_class : slice_get p.classes x.k ≡ Some c = x.is_class ∙ ap (λ (y : Class). Some y) same in
      let spots : AllByRecursion (λ part. (m : Method) × (slice_get x.c.methods part.place ≡ Some m)) ms = all_both (λ part. (m : Method) × (slice_get x.c.methods part.place ≡ Some m)) plan.directs ms (spots_all x.c (λ y. new_method i.numbers y.name) (λ y. is_direct p y) true (take plan.directs ms) x.planned.direct_spots) (spots_all x.c (λ y. new_method i.numbers y.name) (λ y. is_direct p y) false (drop plan.directs ms) x.planned.virtual_spots) in
      let good : AllByRecursion (GoodMethod p i few h fit c) ms = good_all x.k c ms is_class (subst (λ y. AllByRecursion (λ part. (m : Method) × (slice_get y.methods part.place ≡ Some m)) ms) same spots) (subst (λ l. AllByRecursion (λ m. LaysOutMethod m.body) l) written lays.0) in
      let both_codes = both_split (Stands bytes) (code_offsets code_at ms) (code_offsets (codes_behind code_at ms) rest) (item_texts lines_at ms) (item_texts (lines_behind lines_at ms) rest) (many_codes code_at lines_at ms) (subst (λ l. Both (Stands bytes) l (item_texts lines_at ms ++ item_texts (lines_behind lines_at ms) rest)) (offsets_append code_at ms rest) (subst (λ l. Both (Stands bytes) (code_offsets code_at (ms ++ rest)) l) (texts_append lines_at ms rest) codes)) in
      let both_lines = both_split (Stands bytes) (line_offsets lines_at ms) (line_offsets (lines_behind lines_at ms) rest) (map (λ m. m.lines) ms) (map (λ m. m.lines) rest) (many_lines lines_at ms) (subst (λ l. Both (Stands bytes) l (map (λ m. m.lines) ms ++ map (λ m. m.lines) rest)) (lines_append lines_at ms rest) (subst (λ l. Both (Stands bytes) (line_offsets lines_at (ms ++ rest)) l) (map_append (λ (m : MethodPart). m.lines) ms rest) lines)) in
      let one : AreCodes bytes (written_by i p) (method_entries c code_at ms) (map (λ m. written_method i.numbers (method_at c m.place)) ms) (code_parts lines_at ms) = methods_stand p i few h fit bytes c code_at lines_at ms few_file are.0.coded good both_codes.0 both_lines.0 in
      let entries_are : methods_of (lists_in plan code_at) ≡ method_entries c code_at ms = methods_are plan code_at ∙ ap (λ (y : Class). method_entries y code_at ms) are.0.class in (
        subst (λ l. AreCodes bytes (written_by i p) l (written_class i.numbers p c).methods (code_parts lines_at ms)) (sym entries_are) (subst (λ l. AreCodes bytes (written_by i p) (method_entries c code_at ms) l (code_parts lines_at ms)) (sym written) one),
        all_codes bytes cs offsets values (suc place) (codes_behind code_at ms) (lines_behind lines_at ms) (behind_class plan sets) (drop (length ms) refs) ps few_file are.1 a.1 lays.1 both_codes.1 both_lines.1,
      )

-- ---- the whole

pub codes_stand : (p : Program) (bytes : List ℕ) (w : writer.IsWritten p bytes) → is_well_formed p ≡ true → ((class : ℕ) → IsTwice p class → ⊥) → ((class : ℕ) → IsAncestor p class class → ⊥) → TablesFit (written_by w.interner p) → HasWideCode p → LaysOut (written_by w.interner p) → length bytes < 2 ^ 32
    → Both (λ c x. AreCodes bytes (written_by w.interner p) (methods_of x.lists) c.methods x.codes) (written_by w.interner p).classes (parts_of_file p w.interner w.plans)
codes_stand p bytes w formed once acyclic tables wide lays few_file =
    let i : Interner = w.interner in
    let plans : List Plan = w.plans in
    let q : Program = written_by i p in
    let file : List ℕ = file_for p i plans in
    let parts : Parts p = well_formed_parts p formed in
    let short : AreShort p = short_of p parts.short in
    let few : IsShort p = is_short p short in
    let fits : (k : ℕ) (c : Class) → slice_get p.classes k ≡ Some c → FitsClass p c = λ k c e. class_at_fits p k c parts e in
    let same : class_order p ≡ w.places = order_is p (λ k c e. (fits k c e).above) once acyclic w.places w.ordered in
    let cs : List Class = flat_map (classes_at p) w.places in
    let classes : q.classes ≡ map (written_class i.numbers p) cs = ap (λ (l : List ℕ). entries (written_class i.numbers p) p.classes l) same ∙ classes_written i.numbers p w.places in
    let planned : AllByRecursion (HasPlan p i few w.interned fits) plans = all_planned p i few w.interned fits w.places plans w.planned in
    let nay = no_longer p i w.interned in
    let fit : FewEntries p q = record { strings = omega (arith, nay.strings, short.strings); types = tables.few_types; fields = omega (arith, nay.fields, short.fields); methods = omega (arith, nay.methods, short.methods) } in
    let lies : AllLie file p i plans = file_lies p i plans (plans_fit p i cs plans w.planned) in
    let lays_all : AllByRecursion (λ c. AllByRecursion (λ m. LaysOutMethod m.body) c.methods) (map (written_class i.numbers p) cs) = subst (λ l. AllByRecursion (λ c. AllByRecursion (λ m. LaysOutMethod m.body) c.methods) l) classes (lays_rec q.classes (all_rec (λ c. All (λ m. LaysOutMethod m.body) c.methods) q.classes lays)) in
    let code_stands = all_stand file 4 (stops_of p i plans).sets (code_offsets (front_of p i plans (data_at (counts_of i plans))).code.at (parts_of plans)) (item_texts (stops_of p i plans).strings (parts_of plans)) (stops_of p i plans).codes lies.codes in
    let line_stands = all_stand file 1 (stops_of p i plans).strings (line_offsets (stops_of p i plans).strings (parts_of plans)) (map (λ m. m.lines) (parts_of plans)) (stops_of p i plans).lines lies.lines in
    let small : length file < 2 ^ 32 = subst (λ (b : List ℕ). length b < 2 ^ 32) w.file few_file in
    let all = all_codes p i parts few w.interned fits fit (cells_few p formed) wide file cs (offsets_of p i plans) (first_values p i.numbers) 0 (front_of p i plans (data_at (counts_of i plans))).code.at (stops_of p i plans).strings (front_of p i plans (data_at (counts_of i plans))).sets.offsets (front_of p i plans (data_at (counts_of i plans))).refs.offsets plans small w.planned planned lays_all code_stands line_stands in
    subst (λ b. Both (λ c x. AreCodes b q (methods_of x.lists) c.methods x.codes) q.classes (parts_of_file p i plans)) (sym w.file) (subst (λ l. Both (λ c x. AreCodes file q (methods_of x.lists) c.methods x.codes) l (parts_of_file p i plans)) (sym classes) all)
  where
    lays_rec : (xs : List Class) → AllByRecursion (λ c. All (λ m. LaysOutMethod m.body) c.methods) xs → AllByRecursion (λ c. AllByRecursion (λ m. LaysOutMethod m.body) c.methods) xs
    lays_rec [] a = tt
    lays_rec (c ∷ cs) a = (all_rec (λ m. LaysOutMethod m.body) c.methods a.0, lays_rec cs a.1)
