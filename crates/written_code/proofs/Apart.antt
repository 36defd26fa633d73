-- The sets of annotations of a written file, class by class and member by member.
use Rattle.std.proofs.Common.{◌≡◌, ◌≤◌, ◌+◌, ℕ, suc, List, [], ◌∷◌, ◌++◌, length, map, drop, refl, sym, ap, subst, ◌∙◌, arith, length-append, length-drop, Option, Some, None}
use Rattle.std.specs.Prelude.{slice_get}
use Rattle.std.specs.List.{flat_map, concat}
use Rattle.program_model.specs.declared.pass.Renumber.{Renumber}
use Rattle.program_model.specs.declared.value.EncValue.{EncValue}
use Rattle.program_model.specs.declared.value.Mark.{Mark}
use Rattle.program_model.specs.declared.program.Method.{Method}
use Rattle.program_model.specs.declared.program.Class.{Class}
use Rattle.dex_pools.specs.declared.scalar.TableSizes.{TableSizes}
use Rattle.dex_write.specs.declared.ordered.MethodPart.{MethodPart}
use Rattle.dex_write.specs.declared.tables.ClassOffsets.{ClassOffsets}
use Rattle.dex_write.specs.Plans.{Plan, Numbered, field_marks, method_marks, parameter_marks, parameters_in}
use Rattle.dex_write.specs.Codes.{codes_behind, lines_behind}
use Rattle.dex_write.specs.Sets.{sets_of, set_counts, own_count, parameter_count, behind_class}
use Rattle.dex_defs.specs.Annotations.{offset_for, AreMarksOf}
use Rattle.dex_defs.specs.Arranged.{Both}
use Rattle.dex_defs.specs.ClassData.{Entry}
use Rattle.dex_defs.specs.Valid.{ClassPart, set_offsets, methods_of, fields_of}
use Rattle.dex_defs.specs.Written.{new_marks, written_method}
use Rattle.write_laws.proofs.Fitting.{plan_long}
use Rattle.written_file.specs.Parts.{found_sets, class_part, class_parts}
use Rattle.written_file.proofs.Members.{method_or, method_at}
use Rattle.written_file.proofs.Pairs.{field_entries, method_entries_are}
use Rattle.written_file.proofs.Standing.{both_split}
use Rattle.written_file.proofs.ClassTable.{plan_refs}

-- the set of these annotations in new numbers stands there
abbrev pub IsNewSet : List ℕ → TableSizes → Renumber → ℕ → List Mark → Type 0
IsNewSet bytes sizes r offset marks = AreMarksOf bytes sizes offset (new_marks r marks)

pub sets_there : (bytes : List ℕ) (sizes : TableSizes) (r : Renumber) (base : ℕ) (os : List ℕ) (mss : List (List Mark)) (starts : List ℕ) → Both (λ offset s. AreMarksOf bytes sizes offset s.marks × (length s.offsets ≡ length s.marks)) os (found_sets r base mss starts) → Both (IsNewSet bytes sizes r) os mss
sets_there bytes sizes r base [] [] starts b = tt
sets_there bytes sizes r base [] (ms ∷ mss) starts b = absurd b
sets_there bytes sizes r base (o ∷ os) [] starts b = absurd b
sets_there bytes sizes r base (o ∷ os) (ms ∷ mss) starts b = (b.0.0, sets_there bytes sizes r base os mss (drop (length ms) starts) b.1)

-- ---- one class

-- the sets of a class, of its members and of its methods' parameters
pub record HasSets (bytes : List ℕ) (sizes : TableSizes) (r : Renumber) (plan : Plan) (x : ClassPart) : Type 0 where
  pub class : IsNewSet bytes sizes r x.directory.class plan.class.marks
  pub fields : Both (IsNewSet bytes sizes r) (map (λ e. offset_for e.number x.directory.fields) (fields_of x.lists)) (map (λ f. field_marks plan.class f.1) plan.fields)
  pub methods : Both (IsNewSet bytes sizes r) (map (λ e. offset_for e.number x.directory.methods) (methods_of x.lists)) (map (λ m. method_marks plan.class m.place) plan.methods)
  pub parameters : Both (λ offsets marks. Both (IsNewSet bytes sizes r) offsets marks) x.refs (map (λ m. parameter_marks plan.class m.place) plan.methods)

-- as many sets are named for each method as it has of parameters' annotations
abbrev pub HasParameterSets : Plan → ClassPart → Type 0
HasParameterSets plan x = Both (λ marks offsets. length offsets ≡ length marks) (map (λ m. parameter_marks plan.class m.place) plan.methods) x.refs

map_size : {X Y : Type 0} (f : X → Y) (xs : List X) → length (map f xs) ≡ length xs
map_size f [] = refl
map_size f (x ∷ xs) = ap suc (map_size f xs)

abbrev joined : List (List (List Mark)) → List (List Mark)
joined [] = []
joined (m ∷ ms) = m ++ joined ms

concat_long : (mss : List (List (List Mark))) (oss : List (List ℕ)) → Both (λ marks offsets. length offsets ≡ length marks) mss oss → length (concat oss) ≡ length (joined mss)
concat_long [] [] b = refl
concat_long [] (os ∷ oss) b = absurd b
concat_long (ms ∷ mss) [] b = absurd b
concat_long (ms ∷ mss) (os ∷ oss) b = omega (arith, length-append os (concat oss), length-append ms (joined mss), b.0, concat_long mss oss b.1)

concat_apart : (bytes : List ℕ) (sizes : TableSizes) (r : Renumber) (oss : List (List ℕ)) (mss : List (List (List Mark))) → Both (λ marks offsets. length offsets ≡ length marks) mss oss → Both (IsNewSet bytes sizes r) (concat oss) (joined mss) → Both (λ offsets marks. Both (IsNewSet bytes sizes r) offsets marks) oss mss
concat_apart bytes sizes r [] [] l b = tt
concat_apart bytes sizes r [] (ms ∷ mss) l b = absurd l
concat_apart bytes sizes r (os ∷ oss) [] l b = absurd l
concat_apart bytes sizes r (os ∷ oss) (ms ∷ mss) l b =
    let both = both_split (IsNewSet bytes sizes r) os (concat oss) ms (joined mss) l.0 b in
    (both.0, concat_apart bytes sizes r oss mss l.1 both.1)

flat_is : (c : Class) (ms : List MethodPart) → flat_map (λ m. parameter_marks c m.place) ms ≡ joined (map (λ m. parameter_marks c m.place) ms)
flat_is c [] = refl
flat_is c (m ∷ ms) = ap (λ (l : List (List Mark)). parameter_marks c m.place ++ l) (flat_is c ms)

class_apart : (bytes : List ℕ) (sizes : TableSizes) (r : Renumber) (offsets : ClassOffsets) (values : Plan → List EncValue) (plan : Plan) (place code_at lines_at : ℕ) (sets refs : List ℕ) → HasParameterSets plan (class_part r offsets values place code_at lines_at sets refs plan)
    → Both (IsNewSet bytes sizes r) (set_offsets (class_part r offsets values place code_at lines_at sets refs plan)) (sets_of plan) → HasSets bytes sizes r plan (class_part r offsets values place code_at lines_at sets refs plan)
class_apart bytes sizes r offsets values plan place code_at lines_at sets refs parameters b =
    let x : ClassPart = class_part r offsets values place code_at lines_at sets refs plan in
    let c : Class = plan.class in
    let fo : List ℕ = map (λ e. offset_for e.number x.directory.fields) (fields_of x.lists) in
    let mo : List ℕ = map (λ e. offset_for e.number x.directory.methods) (methods_of x.lists) in
    let fm : List (List Mark) = map (λ f. field_marks c f.1) plan.fields in
    let mm : List (List Mark) = map (λ m. method_marks c m.place) plan.methods in
    let pm : List (List Mark) = flat_map (λ m. parameter_marks c m.place) plan.methods in
    let some_fields : length fo ≡ length fm = map_size (λ (e : Entry). offset_for e.number x.directory.fields) (fields_of x.lists) ∙ (sym (map_size (λ (e : Entry). e.number) (fields_of x.lists)) ∙ (ap (λ (l : List ℕ). length l) (field_entries plan code_at) ∙ (map_size (λ (f : Numbered). f.0) plan.fields ∙ sym (map_size (λ (f : Numbered). field_marks c f.1) plan.fields)))) in
    let some_methods : length mo ≡ length mm = map_size (λ (e : Entry). offset_for e.number x.directory.methods) (methods_of x.lists) ∙ (sym (map_size (λ (e : Entry). e.number) (methods_of x.lists)) ∙ (ap (λ (l : List ℕ). length l) (method_entries_are r offsets values plan code_at) ∙ (map_size (λ (m : MethodPart). m.number) plan.methods ∙ sym (map_size (λ (m : MethodPart). method_marks c m.place) plan.methods)))) in
    let one = both_split (IsNewSet bytes sizes r) fo (mo ++ concat x.refs) fm (mm ++ pm) some_fields b.1 in
    let two = both_split (IsNewSet bytes sizes r) mo (concat x.refs) mm pm some_methods one.1 in
    record {
      class = b.0;
      fields = one.0;
      methods = two.0;
      parameters = concat_apart bytes sizes r x.refs (map (λ m. parameter_marks c m.place) plan.methods) parameters (subst (λ l. Both (IsNewSet bytes sizes r) (concat x.refs) l) (flat_is c plan.methods) two.1);
    }

-- ---- all of them

class_long : (r : Renumber) (offsets : ClassOffsets) (values : Plan → List EncValue) (plan : Plan) (place code_at lines_at : ℕ) (sets refs : List ℕ) → HasParameterSets plan (class_part r offsets values place code_at lines_at sets refs plan)
    → length (set_offsets (class_part r offsets values place code_at lines_at sets refs plan)) ≡ length (sets_of plan)
class_long r offsets values plan place code_at lines_at sets refs parameters =
    let x : ClassPart = class_part r offsets values place code_at lines_at sets refs plan in
    let c : Class = plan.class in
    let fo : List ℕ = map (λ e. offset_for e.number x.directory.fields) (fields_of x.lists) in
    let mo : List ℕ = map (λ e. offset_for e.number x.directory.methods) (methods_of x.lists) in
    let fm : List (List Mark) = map (λ f. field_marks c f.1) plan.fields in
    let mm : List (List Mark) = map (λ m. method_marks c m.place) plan.methods in
    let pm : List (List Mark) = flat_map (λ m. parameter_marks c m.place) plan.methods in
    let some_fields : length fo ≡ length fm = map_size (λ (e : Entry). offset_for e.number x.directory.fields) (fields_of x.lists) ∙ (sym (map_size (λ (e : Entry). e.number) (fields_of x.lists)) ∙ (ap (λ (l : List ℕ). length l) (field_entries plan code_at) ∙ (map_size (λ (f : Numbered). f.0) plan.fields ∙ sym (map_size (λ (f : Numbered). field_marks c f.1) plan.fields)))) in
    let some_methods : length mo ≡ length mm = map_size (λ (e : Entry). offset_for e.number x.directory.methods) (methods_of x.lists) ∙ (sym (map_size (λ (e : Entry). e.number) (methods_of x.lists)) ∙ (ap (λ (l : List ℕ). length l) (method_entries_are r offsets values plan code_at) ∙ (map_size (λ (m : MethodPart). m.number) plan.methods ∙ sym (map_size (λ (m : MethodPart). method_marks c m.place) plan.methods)))) in
    let some_parameters : length (concat x.refs) ≡ length pm = concat_long (map (λ m. parameter_marks c m.place) plan.methods) x.refs parameters ∙ sym (ap (λ (l : List (List Mark)). length l) (flat_is c plan.methods)) in
    omega (arith, length-append fo (mo ++ concat x.refs), length-append mo (concat x.refs), length-append fm (mm ++ pm), length-append mm pm, some_fields, some_methods, some_parameters)

-- the lists of sets are as long as the methods have parameters' annotations
parameters_same : (o : Option Method) → parameters_in o ≡ (method_or o).parameter_marks
parameters_same None = refl
parameters_same (Some m) = refl

refs_same : (r : Renumber) (c : Class) (ms : List MethodPart) (oss : List (List ℕ)) → Both (λ m offsets. length offsets ≡ length m.parameter_marks) (map (λ m. written_method r (method_at c m.place)) ms) oss → Both (λ marks offsets. length offsets ≡ length marks) (map (λ m. parameter_marks c m.place) ms) oss
refs_same r c [] [] b = tt
refs_same r c [] (os ∷ oss) b = absurd b
refs_same r c (m ∷ ms) [] b = absurd b
refs_same r c (m ∷ ms) (os ∷ oss) b =
    (b.0 ∙ (map_size (new_marks r) (method_at c m.place).parameter_marks ∙ sym (ap (λ (l : List (List Mark)). length l) (parameters_same (slice_get c.methods m.place)))), refs_same r c ms oss b.1)

pub all_apart : (bytes : List ℕ) (sizes : TableSizes) (r : Renumber) (offsets : ClassOffsets) (values : Plan → List EncValue) (place code_at lines_at : ℕ) (sets refs : List ℕ) (ps : List Plan) → length (flat_map set_counts ps) ≤ length sets
    → Both (IsNewSet bytes sizes r) (flat_map set_offsets (class_parts r offsets values place code_at lines_at sets refs ps)) (flat_map sets_of ps) → Both (HasSets bytes sizes r) ps (class_parts r offsets values place code_at lines_at sets refs ps)
all_apart bytes sizes r offsets values place code_at lines_at sets refs [] le b = tt
all_apart bytes sizes r offsets values place code_at lines_at sets refs (plan ∷ ps) le b =
    let x : ClassPart = class_part r offsets values place code_at lines_at sets refs plan in
    let rest : List ClassPart = class_parts r offsets values (suc place) (codes_behind code_at plan.methods) (lines_behind lines_at plan.methods) (behind_class plan sets) (drop (length plan.methods) refs) ps in
    let long : length (flat_map set_counts (plan ∷ ps)) ≡ (own_count plan + parameter_count plan) + length (flat_map set_counts ps) = length-append (set_counts plan) (flat_map set_counts ps) ∙ ap (λ (n : ℕ). n + length (flat_map set_counts ps)) (plan_long plan) in
    let parameters : HasParameterSets plan x = refs_same r plan.class plan.methods x.refs (plan_refs r plan plan.class sets (map (λ m. written_method r (method_at plan.class m.place)) plan.methods) refl refl (omega (arith, le, long))) in
    let both = both_split (IsNewSet bytes sizes r) (set_offsets x) (flat_map set_offsets rest) (sets_of plan) (flat_map sets_of ps) (class_long r offsets values plan place code_at lines_at sets refs parameters) b in (
      class_apart bytes sizes r offsets values plan place code_at lines_at sets refs parameters both.0,
      all_apart bytes sizes r offsets values (suc place) (codes_behind code_at plan.methods) (lines_behind lines_at plan.methods) (behind_class plan sets) (drop (length plan.methods) refs) ps (omega (arith, le, long, length-drop (parameter_count plan) (drop (own_count plan) sets), length-drop (own_count plan) sets)) both.1,
    )
