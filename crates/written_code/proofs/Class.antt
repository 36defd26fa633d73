-- A class whose parts stand is spelled.
use Rattle.std.proofs.Common.{◌≡◌, ◌<◌, ◌+◌, ℕ, zero, suc, true, false, List, [], ◌∷◌, ◌++◌, length, map, take, drop, refl, sym, ap, subst, ◌∙◌, None, All}
use Rattle.std.specs.Option.{option_map}
use Rattle.std.specs.List.{AllByRecursion}
use Rattle.std.proofs.lemmas.List.Elements.{All-nil, All-cons}
use Rattle.program_model.specs.declared.pass.Renumber.{Renumber}
use Rattle.program_model.specs.declared.value.EncValue.{EncValue}
use Rattle.program_model.specs.declared.program.Field.{Field}
use Rattle.program_model.specs.declared.program.Class.{Class}
use Rattle.program_model.specs.declared.program.Program.{Program}
use Rattle.program_model.specs.MemberRules.{is_static, is_direct}
use Rattle.dex_pools.specs.declared.scalar.TableSizes.{TableSizes}
use Rattle.dex_pools.specs.Finds.{Ascends}
use Rattle.dex_pools.specs.Spelled.{AreParameters}
use Rattle.code_write.specs.Pairs.{in_order}
use Rattle.dex_write.specs.declared.ordered.MethodPart.{MethodPart}
use Rattle.dex_write.specs.declared.tables.ClassOffsets.{ClassOffsets}
use Rattle.dex_write.specs.Plans.{Plan, Numbered, spot_of, field_marks, method_marks, parameter_marks}
use Rattle.dex_write.specs.Codes.{code_behind, codes_behind}
use Rattle.dex_write.specs.Tables.{source_word}
use Rattle.dex_defs.specs.Annotations.{IsDirectoryOf, pair_below, offset_for, AreParameterMarksOf}
use Rattle.dex_defs.specs.Arranged.{Both}
use Rattle.dex_defs.specs.ClassData.{Entry, IsClassDataOf}
use Rattle.dex_defs.specs.ClassDefs.{HasCode, IsDef, IsSource, IsDefined, HasParts, IsClass}
use Rattle.dex_defs.specs.Values.{AreValuesOf, AreFirsts}
use Rattle.dex_defs.specs.Spells.{sizes_in}
use Rattle.dex_defs.specs.Valid.{ClassPart, methods_of, fields_of}
use Rattle.dex_defs.specs.Written.{new_string, new_type, new_method, new_marks, written_field, written_method, written_class}
use Rattle.write_laws.specs.Listing.{field_entry, method_entries}
use Rattle.written_file.proofs.Grouped.{Spot}
use Rattle.written_file.specs.Parts.{class_part}
use Rattle.written_file.proofs.Members.{field_at, method_at}
use Rattle.written_file.proofs.Pairs.{HasOwn, pairs_from, fields_paired, methods_paired, field_entries, method_entries_are}
use Rattle.written_file.proofs.Standing.{both_split}
use Rattle.written_code.proofs.Apart.{IsNewSet, HasSets}
use Rattle.written_code.proofs.Members.{fields_are, fields_grouped, methods_are, methods_grouped}
use Rattle.written_code.proofs.Pairing.{pairs_rise, pairs_defined}

-- ---- lists in two parts

map_size : {X Y : Type 0} (f : X → Y) (xs : List X) → length (map f xs) ≡ length xs
map_size f [] = refl
map_size f (x ∷ xs) = ap suc (map_size f xs)

map_both : {X Y : Type 0} (f : X → Y) (xs ys : List X) → map f (xs ++ ys) ≡ map f xs ++ map f ys
map_both f [] ys = refl
map_both f (x ∷ xs) ys = ap (λ l. f x ∷ l) (map_both f xs ys)

take_rest : {X : Type 0} (n : ℕ) (xs : List X) → take n xs ++ drop n xs ≡ xs
take_rest zero xs = refl
take_rest (suc n) [] = refl
take_rest (suc n) (x ∷ xs) = ap (λ l. x ∷ l) (take_rest n xs)

-- what is made of a list, in two parts
made_both : {X Y : Type 0} (f : X → Y) (n : ℕ) (xs : List X) → map f xs ≡ map f (take n xs) ++ map f (drop n xs)
made_both {X} f n xs = ap (λ (l : List X). map f l) (sym (take_rest n xs)) ∙ map_both f (take n xs) (drop n xs)

two : {Z Y X : Type 0} (P : Z → Y → Type 0) (f : X → Y) (es gs : List Z) (n : ℕ) (xs : List X) → length es ≡ length (take n xs) → Both P (es ++ gs) (map f xs) → Both P es (map f (take n xs)) × Both P gs (map f (drop n xs))
two P f es gs n xs long b = both_split P es gs (map f (take n xs)) (map f (drop n xs)) (long ∙ sym (map_size f (take n xs))) (subst (λ l. Both P (es ++ gs) l) (made_both f n xs) b)

named_two : {X Y : Type 0} (P : ℕ → Y → Type 0) (g : Entry → ℕ) (f : X → Y) (es gs : List Entry) (n : ℕ) (xs : List X) → length es ≡ length (take n xs) → Both P (map g (es ++ gs)) (map f xs) → Both P (map g es) (map f (take n xs)) × Both P (map g gs) (map f (drop n xs))
named_two {X} {Y} P g f es gs n xs long b = two P f (map g es) (map g gs) n xs (map_size g es ∙ long) (subst (λ l. Both P l (map f xs)) (map_both g es gs) b)

all_apart : {X : Type 0} (P : X → Type 0) (n : ℕ) (xs : List X) → AllByRecursion P xs → AllByRecursion P (take n xs) × AllByRecursion P (drop n xs)
all_apart P zero xs a = (tt, a)
all_apart P (suc n) [] a = (tt, tt)
all_apart P (suc n) (x ∷ xs) a = let more = all_apart P n xs a.1 in ((a.0, more.0), more.1)

entries_long : (c : Class) (at : ℕ) (ms : List MethodPart) → length (method_entries c at ms) ≡ length ms
entries_long c at [] = refl
entries_long c at (m ∷ ms) = ap suc (entries_long c (code_behind at m) ms)

-- ---- a class

-- what is known of a class and its plan
pub record Facts (p q : Program) (r : Renumber) (c : Class) (plan : Plan) : Type 0 where
  pub own : HasOwn plan
  pub fields : (written_class r p c).fields ≡ map (λ x. field_at r c x.1) plan.fields
  pub methods : (written_class r p c).methods ≡ map (λ m. written_method r (method_at c m.place)) plan.methods
  pub static_spots : AllByRecursion (Spot (λ f. f.name) (λ f. is_static f.flags) (map (written_field r) c.fields) true) (take plan.statics plan.fields)
  pub instance_spots : AllByRecursion (Spot (λ f. f.name) (λ f. is_static f.flags) (map (written_field r) c.fields) false) (drop plan.statics plan.fields)
  pub direct_spots : AllByRecursion (λ m. Spot (λ x. new_method r x.name) (λ x. is_direct p x) c.methods true (spot_of m)) (take plan.directs plan.methods)
  pub virtual_spots : AllByRecursion (λ m. Spot (λ x. new_method r x.name) (λ x. is_direct p x) c.methods false (spot_of m)) (drop plan.directs plan.methods)
  pub direct : AllByRecursion (λ m. is_direct q (written_method r (method_at c m.place)) ≡ is_direct p (method_at c m.place)) plan.methods
  pub none_first : AllByRecursion (λ f. (field_at r c f.1).first ≡ None) (drop plan.statics plan.fields)
  pub name : new_type r c.name < length q.types
  pub above : new_type r c.superclass < length q.types
  pub source : IsSource (length q.strings) (source_word r c.source) (option_map (new_string r) c.source)

none_firsts : (r : Renumber) (c : Class) (fs : List Numbered) → AllByRecursion (λ f. (field_at r c f.1).first ≡ None) fs → All (λ f. f.first ≡ None) (map (λ x. field_at r c x.1) fs)
none_firsts r c [] a = All-nil (λ (f : Field). f.first ≡ None)
none_firsts r c (f ∷ fs) a = All-cons (λ (f : Field). f.first ≡ None) (field_at r c f.1) (map (λ x. field_at r c x.1) fs) a.0 (none_firsts r c fs a.1)

module _ (bytes : List ℕ) (p q : Program) (r : Renumber) (offsets : ClassOffsets) (values : Plan → List EncValue) (place code_at lines_at : ℕ) (sets refs : List ℕ) (plan : Plan) where
  abbrev x : ClassPart
  x = class_part r offsets values place code_at lines_at sets refs plan

  abbrev c : Class
  c = plan.class

  abbrev sizes : TableSizes
  sizes = sizes_in q

  parts_there : HasOwn plan → IsDirectoryOf bytes x.def.annotations x.directory → IsClassDataOf bytes x.def.data_at x.lists → HasParts bytes x.def x.directory x.lists
  parts_there own directory lists =
      let at1 : List ℕ = drop 1 sets in
      let at2 : List ℕ = drop (length plan.fields) at1 in
      let fs : List ℕ = map (λ f. f.0) plan.fields in
      let ms : List ℕ = map (λ m. m.number) plan.methods in
      let fields : in_order (pairs_from fs 0 at1) ≡ x.directory.fields = sym (ap (λ (l : List Numbered). in_order l) (fields_paired plan.fields 0 at1)) in
      let methods : in_order (pairs_from ms 0 at2) ≡ x.directory.methods = sym (ap (λ (l : List Numbered). in_order l) (methods_paired plan.methods 0 at2)) in
      let parameters : in_order (pairs_from ms 0 refs) ≡ x.directory.parameters = sym (ap (λ (l : List Numbered). in_order l) (methods_paired plan.methods 0 refs)) in
      let method_numbers : map (λ e. e.number) (methods_of x.lists) ≡ ms = method_entries_are r offsets values plan code_at in
      record {
        directory_is = directory;
        lists_are = lists;
        in_order = record {
          fields = subst (λ l. Ascends pair_below l) fields (pairs_rise fs at1 own.fields);
          methods = subst (λ l. Ascends pair_below l) methods (pairs_rise ms at2 own.methods);
          parameters = subst (λ l. Ascends pair_below l) parameters (pairs_rise ms refs own.methods);
        };
        fields = subst (λ l. All (IsDefined (fields_of x.lists)) l) fields (pairs_defined (fields_of x.lists) fs at1 (field_entries plan code_at));
        methods = subst (λ l. All (IsDefined (methods_of x.lists)) l) methods (pairs_defined (methods_of x.lists) ms at2 method_numbers);
        parameters = subst (λ l. All (IsDefined (methods_of x.lists)) l) parameters (pairs_defined (methods_of x.lists) ms refs method_numbers);
      }

  pub class_spelled : (k : ℕ) → Facts p q r c plan → IsDef bytes k x.def → IsClassDataOf bytes x.def.data_at x.lists → IsDirectoryOf bytes x.def.annotations x.directory → HasSets bytes sizes r plan x
      → Both (λ offset marks. AreParameterMarksOf bytes sizes offset (map (new_marks r) marks)) (map (λ e. offset_for e.number x.directory.parameters) (methods_of x.lists)) (map (λ m. parameter_marks c m.place) plan.methods)
      → Both (λ e m. HasCode bytes (length q.types) e.code m.body m.lines) (methods_of x.lists) (map (λ m. written_method r (method_at c m.place)) plan.methods)
      → AreParameters bytes (length q.types) x.def.interfaces (map (new_type r) c.interfaces) → AreValuesOf bytes sizes x.def.values x.values → AreFirsts q x.values (map (λ f. field_at r c f.1) (take plan.statics plan.fields))
      → IsClass bytes q sizes k (written_class r p c)
  class_spelled k facts is_def lists directory marks parameters codes interfaces are_values firsts =
      let s : ℕ = plan.statics in
      let d : ℕ = plan.directs in
      let fs : List Numbered = plan.fields in
      let ms : List MethodPart = plan.methods in
      let behind : ℕ = codes_behind code_at (take d ms) in
      let field_sets = named_two (IsNewSet bytes sizes r) (λ e. offset_for e.number x.directory.fields) (λ f. field_marks c f.1) x.lists.statics x.lists.instances s fs (map_size (field_entry c) (take s fs)) marks.fields in
      let method_sets = named_two (IsNewSet bytes sizes r) (λ e. offset_for e.number x.directory.methods) (λ m. method_marks c m.place) x.lists.directs x.lists.virtuals d ms (entries_long c code_at (take d ms)) marks.methods in
      let parameter_sets = named_two (λ offset marks. AreParameterMarksOf bytes sizes offset (map (new_marks r) marks)) (λ e. offset_for e.number x.directory.parameters) (λ m. parameter_marks c m.place) x.lists.directs x.lists.virtuals d ms (entries_long c code_at (take d ms)) parameters in
      let code_parts = two (λ e m. HasCode bytes (length q.types) e.code m.body m.lines) (λ m. written_method r (method_at c m.place)) x.lists.directs x.lists.virtuals d ms (entries_long c code_at (take d ms)) codes in
      let direct = all_apart (λ m. is_direct q (written_method r (method_at c m.place)) ≡ is_direct p (method_at c m.place)) d ms facts.direct in
      record {
        def = x.def;
        directory = x.directory;
        lists = x.lists;
        is_def = is_def;
        parts = parts_there facts.own directory lists;
        name = refl;
        is_type = facts.name;
        flags = refl;
        superclass = refl;
        above = facts.above;
        interfaces = interfaces;
        source = facts.source;
        marks = marks.class;
        statics = map (λ f. field_at r c f.1) (take s fs);
        instances = map (λ f. field_at r c f.1) (drop s fs);
        fields = facts.fields ∙ made_both (λ f. field_at r c f.1) s fs;
        are_statics = fields_are bytes sizes r x.directory c true (take s fs) facts.static_spots field_sets.0;
        are_instances = fields_are bytes sizes r x.directory c false (drop s fs) facts.instance_spots field_sets.1;
        values = x.values;
        are_values = are_values;
        firsts = firsts;
        none_first = none_firsts r c (drop s fs) facts.none_first;
        static = fields_grouped r c true (take s fs) facts.static_spots;
        of_instance = fields_grouped r c false (drop s fs) facts.instance_spots;
        directs = map (λ m. written_method r (method_at c m.place)) (take d ms);
        virtuals = map (λ m. written_method r (method_at c m.place)) (drop d ms);
        methods = facts.methods ∙ made_both (λ m. written_method r (method_at c m.place)) d ms;
        are_directs = methods_are bytes sizes (length q.types) r p x.directory c true code_at (take d ms) facts.direct_spots method_sets.0 parameter_sets.0 code_parts.0;
        are_virtuals = methods_are bytes sizes (length q.types) r p x.directory c false behind (drop d ms) facts.virtual_spots method_sets.1 parameter_sets.1 code_parts.1;
        direct = methods_grouped r p q c true (take d ms) facts.direct_spots direct.0;
        virtual = methods_grouped r p q c false (drop d ms) facts.virtual_spots direct.1;
      }
