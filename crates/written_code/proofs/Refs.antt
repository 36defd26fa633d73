-- The lists of sets of all classes stand where their directories name them.
use Rattle.std.proofs.Common.{◌≡◌, ◌<◌, ◌+◌, ◌^◌, ℕ, suc, List, [], ◌∷◌, ◌++◌, length, map, drop, refl, sym, ap, ◌∙◌}
use Rattle.std.specs.List.{AllByRecursion, flat_map, concat}
use Rattle.program_model.specs.declared.pass.Renumber.{Renumber}
use Rattle.program_model.specs.declared.value.EncValue.{EncValue}
use Rattle.program_model.specs.declared.program.Program.{Program}
use Rattle.dex_write.specs.declared.ordered.MethodPart.{MethodPart}
use Rattle.dex_write.specs.declared.tables.ClassOffsets.{ClassOffsets}
use Rattle.dex_write.specs.Plans.{Plan, parameter_marks}
use Rattle.dex_write.specs.Codes.{codes_behind, lines_behind}
use Rattle.dex_write.specs.Sets.{behind_class, ref_counts, own_offsets}
use Rattle.dex_defs.specs.Annotations.{offset_for}
use Rattle.dex_defs.specs.Arranged.{Both}
use Rattle.dex_defs.specs.ClassData.{Entry}
use Rattle.dex_defs.specs.Spells.{sizes_in}
use Rattle.dex_defs.specs.Texts.{offsets_text}
use Rattle.dex_defs.specs.Valid.{ClassPart, methods_of, fields_of, ref_offsets, set_offsets}
use Rattle.write_laws.proofs.Numbers.{Few}
use Rattle.written_file.specs.Parts.{split_by, class_part, class_parts}
use Rattle.written_file.proofs.Pairs.{method_entries_are}
use Rattle.written_file.proofs.Standing.{Stands, both_split}
use Rattle.written_code.proofs.Apart.{HasSets}
use Rattle.written_code.proofs.Lists.{few_left, few_right, lists_stand}
use Rattle.written_code.proofs.AllSpelled.{HasLists}

map_size : {X Y : Type 0} (f : X → Y) (xs : List X) → length (map f xs) ≡ length xs
map_size f [] = refl
map_size f (x ∷ xs) = ap suc (map_size f xs)

split_long : (ns xs : List ℕ) → length (split_by ns xs) ≡ length ns
split_long [] xs = refl
split_long (n ∷ ns) xs = ap suc (split_long ns (drop n xs))

refs_long : (plan : Plan) (xs : List ℕ) → length (split_by (ref_counts plan) xs) ≡ length plan.methods
unfolding ref_counts
refs_long plan xs = split_long (map (λ m. length (parameter_marks plan.class m.place)) plan.methods) xs ∙ map_size (λ (m : MethodPart). length (parameter_marks plan.class m.place)) plan.methods

concat_few : (oss : List (List ℕ)) → Few (concat oss) → AllByRecursion Few oss
concat_few [] f = tt
concat_few (os ∷ oss) f = (few_left os (concat oss) f, concat_few oss (few_right os (concat oss) f))

pub all_lists : (bytes : List ℕ) (q : Program) (r : Renumber) (offsets : ClassOffsets) (values : Plan → List EncValue) (place code_at lines_at : ℕ) (sets refs : List ℕ) (ps : List Plan) → length bytes < 2 ^ 32
    → Few (flat_map set_offsets (class_parts r offsets values place code_at lines_at sets refs ps)) → Both (HasSets bytes (sizes_in q) r) ps (class_parts r offsets values place code_at lines_at sets refs ps)
    → Both (Stands bytes) (flat_map ref_offsets (class_parts r offsets values place code_at lines_at sets refs ps)) (flat_map (λ c. map offsets_text c.refs) (class_parts r offsets values place code_at lines_at sets refs ps))
    → Both (HasLists bytes q r) ps (class_parts r offsets values place code_at lines_at sets refs ps)
all_lists bytes q r offsets values place code_at lines_at sets refs [] small few marks stands = tt
all_lists bytes q r offsets values place code_at lines_at sets refs (plan ∷ ps) small few marks stands =
    let x : ClassPart = class_part r offsets values place code_at lines_at sets refs plan in
    let rest : List ClassPart = class_parts r offsets values (suc place) (codes_behind code_at plan.methods) (lines_behind lines_at plan.methods) (behind_class plan sets) (drop (length plan.methods) refs) ps in
    let many : length (methods_of x.lists) ≡ length plan.methods = sym (map_size (λ (e : Entry). e.number) (methods_of x.lists)) ∙ (ap (λ (l : List ℕ). length l) (method_entries_are r offsets values plan code_at) ∙ map_size (λ (m : MethodPart). m.number) plan.methods) in
    let long : length (ref_offsets x) ≡ length (map offsets_text x.refs) = map_size (λ (e : Entry). offset_for e.number x.directory.parameters) (methods_of x.lists) ∙ (many ∙ (sym (refs_long plan (own_offsets plan sets)) ∙ sym (map_size offsets_text x.refs))) in
    let both = both_split (Stands bytes) (ref_offsets x) (flat_map ref_offsets rest) (map offsets_text x.refs) (flat_map (λ c. map offsets_text c.refs) rest) long stands in
    let fo : List ℕ = map (λ e. offset_for e.number x.directory.fields) (fields_of x.lists) in
    let mo : List ℕ = map (λ e. offset_for e.number x.directory.methods) (methods_of x.lists) in
    let own : Few (set_offsets x) = few_left (set_offsets x) (flat_map set_offsets rest) few in
    let parameters : AllByRecursion Few x.refs = concat_few x.refs (few_right mo (concat x.refs) (few_right fo (mo ++ concat x.refs) own.1)) in (
      lists_stand bytes (sizes_in q) r (ref_offsets x) x.refs (map (λ m. parameter_marks plan.class m.place) plan.methods) small parameters marks.0.parameters both.0,
      all_lists bytes q r offsets values (suc place) (codes_behind code_at plan.methods) (lines_behind lines_at plan.methods) (behind_class plan sets) (drop (length plan.methods) refs) ps small (few_right (set_offsets x) (flat_map set_offsets rest) few) marks.1 both.1,
    )
