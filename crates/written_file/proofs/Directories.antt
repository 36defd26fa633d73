-- The directory of each class that is written is spelled where its text stands.
use Rattle.std.proofs.Common.{◌≡◌, ◌≤◌, ◌<◌, ◌+◌, ◌*◌, ◌^◌, ℕ, zero, suc, Bool, true, false, List, [], ◌∷◌, ◌++◌, length, map, drop, refl, sym, ap, subst, ◌∙◌, arith, length-append}
use Rattle.std.specs.Prelude.{if◌then◌else◌}
use Rattle.std.specs.List.{AllByRecursion}
use Rattle.std.proofs.lemmas.Bool.{eqb-true}
use Rattle.std.proofs.lemmas.List.Elements.{All-from_recursion}
use Rattle.dex_base.specs.Word.{Is32}
use Rattle.dex_base.specs.Decides.{Each}
use Rattle.code_write.specs.Pairs.{Numbered}
use Rattle.program_model.specs.declared.pass.Renumber.{Renumber}
use Rattle.program_model.specs.declared.value.EncValue.{EncValue}
use Rattle.dex_write.specs.declared.ordered.MethodPart.{MethodPart}
use Rattle.dex_write.specs.declared.tables.ClassOffsets.{ClassOffsets}
use Rattle.dex_write.specs.Numbers.{words, at_place}
use Rattle.dex_write.specs.Plans.{Plan}
use Rattle.dex_write.specs.Codes.{codes_behind, lines_behind}
use Rattle.dex_write.specs.Sets.{pair_list, field_pairs, method_pairs, own_count, parameter_count, behind_class}
use Rattle.dex_defs.specs.Here.{Here}
use Rattle.dex_defs.specs.Arranged.{Both}
use Rattle.dex_defs.specs.Annotations.{Directory, no_directory, IsDirectory, IsDirectoryOf}
use Rattle.dex_defs.specs.Texts.{pairs_words, directory_words, is_nothing, directory_text}
use Rattle.dex_defs.specs.Texts as kept
use Rattle.dex_defs.specs.Valid.{NamesAll}
use Rattle.write_laws.proofs.Here.{here_is, here_same}
use Rattle.write_laws.proofs.Numbers.{Few, same_words, words_length, here_words, first_word, other_words}
use Rattle.write_laws.proofs.Pools.{words_at}
use Rattle.written_file.specs.Parts.{directory_of, class_parts}
use Rattle.written_file.proofs.Sorting.{order_all, order_long}
use Rattle.written_file.proofs.Pairs.{pairs_from, fields_paired, methods_paired}
use Rattle.written_file.proofs.ClassTable.{few_place}
use Rattle.written_file.proofs.Standing.{Stands, Unplaced, Placed}

-- ---- pairs

-- a number and an offset that fit, and the offset names something
pub record IsPair (pair : Numbered) : Type 0 where
  pub number : pair.0 < 2 ^ 32
  pub offset : pair.1 < 2 ^ 32
  pub some : 0 < pair.1

one_pair : (n o : ℕ) (rest : List Numbered) → n < 2 ^ 32 → o < 2 ^ 32 → AllByRecursion IsPair rest → AllByRecursion IsPair (pair_list n o ++ rest)
one_pair n zero rest a b all = all
one_pair n (suc o) rest a b all = (record { number = a; offset = b; some = omega arith }, all)

pairs_fit : (ns : List ℕ) (at : ℕ) (offsets : List ℕ) → Few ns → Few offsets → AllByRecursion IsPair (pairs_from ns at offsets)
pairs_fit [] at offsets a b = tt
pairs_fit (n ∷ ns) at offsets a b = one_pair n (at_place offsets at) (pairs_from ns (suc at) offsets) a.0 (few_place offsets at b) (pairs_fit ns (suc at) offsets a.1 b)

pair_long : (n o : ℕ) → length (pair_list n o) ≤ 1
pair_long n zero = omega arith
pair_long n (suc o) = omega arith

pairs_long : (ns : List ℕ) (at : ℕ) (offsets : List ℕ) → length (pairs_from ns at offsets) ≤ length ns
pairs_long [] at offsets = omega arith
pairs_long (n ∷ ns) at offsets = omega (arith, pair_long n (at_place offsets at), pairs_long ns (suc at) offsets, length-append (pair_list n (at_place offsets at)) (pairs_from ns (suc at) offsets))

words_of_pairs : (ps : List Numbered) → length (pairs_words ps) ≡ 2 * length ps
words_of_pairs [] = refl
words_of_pairs (p ∷ ps) = omega (arith, words_of_pairs ps)

pairs_stand : (bytes : List ℕ) (at from : ℕ) (ps : List Numbered) → AllByRecursion IsPair ps → Here bytes (at + 8 * from) (words (pairs_words ps)) → Each (λ k pair. Is32 bytes (at + 8 * k) pair.0 × Is32 bytes (at + 8 * k + 4) pair.1) from ps
pairs_stand bytes at from [] a h = tt
pairs_stand bytes at from (p ∷ ps) a h =
    let rest : List ℕ = pairs_words ps in
    let second : Here bytes (at + 8 * from + 4) (words (p.1 ∷ rest)) = other_words bytes (at + 8 * from) p.0 (p.1 ∷ rest) h in
    let next : Here bytes (at + 8 * suc from) (words rest) = here_is bytes (at + 8 * from + 4 + 4) (at + 8 * suc from) (words rest) (omega arith) (other_words bytes (at + 8 * from + 4) p.1 rest second) in
    ((first_word bytes (at + 8 * from) p.0 (p.1 ∷ rest) a.0.number h, first_word bytes (at + 8 * from + 4) p.1 rest a.0.offset second), pairs_stand bytes at (suc from) ps a.1 next)

some_named : (ps : List Numbered) → AllByRecursion IsPair ps → AllByRecursion (λ pair. 0 < pair.1) ps
some_named [] a = tt
some_named (p ∷ ps) a = (a.0.some, some_named ps a.1)

-- ---- a directory

pub record FitsDirectory (d : Directory) : Type 0 where
  pub class : d.class < 2 ^ 32
  pub fields : AllByRecursion IsPair d.fields
  pub methods : AllByRecursion IsPair d.methods
  pub parameters : AllByRecursion IsPair d.parameters
  pub few_fields : length d.fields < 2 ^ 32
  pub few_methods : length d.methods < 2 ^ 32
  pub few_parameters : length d.parameters < 2 ^ 32

names_all : (d : Directory) → FitsDirectory d → NamesAll d
names_all d f = record {
  fields = All-from_recursion (λ pair. 0 < pair.1) d.fields (some_named d.fields f.fields);
  methods = All-from_recursion (λ pair. 0 < pair.1) d.methods (some_named d.methods f.methods);
  parameters = All-from_recursion (λ pair. 0 < pair.1) d.parameters (some_named d.parameters f.parameters);
}

nothing_in : {X : Type 0} (xs : List X) → length xs ≡ 0 → xs ≡ []
nothing_in [] e = refl
nothing_in (x ∷ xs) e = absurd (omega (arith, e))

none_is : (d : Directory) → d.class + (length d.fields + (length d.methods + length d.parameters)) ≡ 0 → d ≡ no_directory
none_is d e =
    let class_path : d.class ≡ 0 = omega (arith, e) in
    let fields_path : d.fields ≡ [] = nothing_in d.fields (omega (arith, e)) in
    let methods_path : d.methods ≡ [] = nothing_in d.methods (omega (arith, e)) in
    let parameters_path : d.parameters ≡ [] = nothing_in d.parameters (omega (arith, e)) in
    λ k. record { class = class_path k; fields = fields_path k; methods = methods_path k; parameters = parameters_path k }

directory_stands : (bytes : List ℕ) (at : ℕ) (d : Directory) → FitsDirectory d → Here bytes at (words (directory_words d)) → IsDirectory bytes at d
directory_stands bytes at d f h =
    let front : List ℕ = d.class ∷ length d.fields ∷ length d.methods ∷ length d.parameters ∷ [] in
    let fs : List ℕ = pairs_words d.fields in
    let ms : List ℕ = pairs_words d.methods in
    let ps : List ℕ = pairs_words d.parameters in
    let a = words_at bytes at (at + 16) front (fs ++ (ms ++ ps)) (omega arith) h in
    let b = words_at bytes (at + 16) (at + 16 + 8 * length d.fields) fs (ms ++ ps) (omega (arith, words_of_pairs d.fields)) a.1 in
    let c = words_at bytes (at + 16 + 8 * length d.fields) (at + 16 + 8 * length d.fields + 8 * length d.methods) ms ps (omega (arith, words_of_pairs d.methods)) b.1 in
    let e = (here_words bytes at front (f.class, (f.few_fields, (f.few_methods, (f.few_parameters, tt)))) a.0).1 in
    let begin : at + 4 * 0 ≡ at = omega arith in
    record {
      class = subst (λ (n : ℕ). Is32 bytes n d.class) begin e.0;
      field_count = e.1.0;
      method_count = e.1.1.0;
      parameter_count = e.1.1.1.0;
      fields = pairs_stand bytes (at + 16) 0 d.fields f.fields (here_is bytes (at + 16) (at + 16 + 8 * 0) (words fs) (omega arith) b.0);
      methods = pairs_stand bytes (at + 16 + 8 * length d.fields) 0 d.methods f.methods (here_is bytes (at + 16 + 8 * length d.fields) (at + 16 + 8 * length d.fields + 8 * 0) (words ms) (omega arith) c.0);
      parameters = pairs_stand bytes (at + 16 + 8 * length d.fields + 8 * length d.methods) 0 d.parameters f.parameters (here_is bytes (at + 16 + 8 * length d.fields + 8 * length d.methods) (at + 16 + 8 * length d.fields + 8 * length d.methods + 8 * 0) (words ps) (omega arith) c.1);
    }

directory_is : (bytes : List ℕ) (offset : ℕ) (d : Directory) → FitsDirectory d → Stands bytes offset (directory_text d) → IsDirectoryOf bytes offset d
directory_is bytes offset d f s = by_nothing (is_nothing d) refl offset s
  where
    by_nothing : (t : Bool) → is_nothing d ≡ t → (o : ℕ) → Stands bytes o (directory_text d) → IsDirectoryOf bytes o d
    by_nothing true t o (Unplaced a e) = subst (λ n. IsDirectoryOf bytes n d) (sym a) (none_is d (eqb-true (d.class + (length d.fields + (length d.methods + length d.parameters))) 0 t))
    by_nothing true t o (Placed a lt h) =
        let none : directory_text d ≡ [] = ap (λ (b : Bool). if b then [] else kept.words (directory_words d)) t in
        let zeros : length (directory_text d) ≡ 0 = ap (λ (x : List ℕ). length x) none in
        absurd (omega (arith, lt, zeros))
    by_nothing false t o (Unplaced a e) =
        let whole : directory_text d ≡ kept.words (directory_words d) = ap (λ (b : Bool). if b then [] else kept.words (directory_words d)) t in
        let zeros : length (words (directory_words d)) ≡ 0 = ap (λ (x : List ℕ). length x) (same_words (directory_words d) ∙ (sym whole ∙ e)) in
        let long : length (directory_words d) ≡ 4 + length (pairs_words d.fields ++ (pairs_words d.methods ++ pairs_words d.parameters)) = length-append (d.class ∷ length d.fields ∷ length d.methods ∷ length d.parameters ∷ []) (pairs_words d.fields ++ (pairs_words d.methods ++ pairs_words d.parameters)) in
        absurd (omega (arith, zeros, words_length (directory_words d), long))
    by_nothing false t zero (Placed a lt h) = absurd (omega (arith, a))
    by_nothing false t (suc k) (Placed a lt h) =
        let whole : directory_text d ≡ kept.words (directory_words d) = ap (λ (b : Bool). if b then [] else kept.words (directory_words d)) t in
        directory_stands bytes (suc k) d f (here_same bytes (suc k) (directory_text d) (words (directory_words d)) (whole ∙ sym (same_words (directory_words d))) h)

-- ---- of each class

few_dropped : (n : ℕ) (xs : List ℕ) → Few xs → Few (drop n xs)
few_dropped zero xs f = f
few_dropped (suc n) [] f = tt
few_dropped (suc n) (x ∷ xs) f = few_dropped n xs f.1

-- the numbers of a class's members fit
pub record FewMembers (p : Plan) : Type 0 where
  pub fields : Few (map (λ f. f.0) p.fields)
  pub methods : Few (map (λ m. m.number) p.methods)
  pub few_fields : length p.fields < 2 ^ 32
  pub few_methods : length p.methods < 2 ^ 32

map_long : {X Y : Type 0} (f : X → Y) (xs : List X) → length (map f xs) ≡ length xs
map_long f [] = refl
map_long f (x ∷ xs) = ap suc (map_long f xs)

plan_directory : (p : Plan) (sets refs : List ℕ) → FewMembers p → Few sets → Few refs → FitsDirectory (directory_of p sets refs)
plan_directory p sets refs m s r =
    let ns : List ℕ = map (λ f. f.0) p.fields in
    let ms : List ℕ = map (λ x. x.number) p.methods in
    let at1 : List ℕ = drop 1 sets in
    let at2 : List ℕ = drop (length p.fields) at1 in
    let f1 : Few at1 = few_dropped 1 sets s in
    let f2 : Few at2 = few_dropped (length p.fields) at1 f1 in
    let fields : field_pairs p.fields 0 at1 ≡ pairs_from ns 0 at1 = fields_paired p.fields 0 at1 in
    let methods : method_pairs p.methods 0 at2 ≡ pairs_from ms 0 at2 = methods_paired p.methods 0 at2 in
    let parameters : method_pairs p.methods 0 refs ≡ pairs_from ms 0 refs = methods_paired p.methods 0 refs in
    record {
      class = few_place sets 0 s;
      fields = order_all IsPair (field_pairs p.fields 0 at1) (subst (AllByRecursion IsPair) (sym fields) (pairs_fit ns 0 at1 m.fields f1));
      methods = order_all IsPair (method_pairs p.methods 0 at2) (subst (AllByRecursion IsPair) (sym methods) (pairs_fit ms 0 at2 m.methods f2));
      parameters = order_all IsPair (method_pairs p.methods 0 refs) (subst (AllByRecursion IsPair) (sym parameters) (pairs_fit ms 0 refs m.methods r));
      few_fields = omega (arith, order_long (field_pairs p.fields 0 at1), ap (λ (l : List Numbered). length l) fields, pairs_long ns 0 at1, map_long (λ (f : Numbered). f.0) p.fields, m.few_fields);
      few_methods = omega (arith, order_long (method_pairs p.methods 0 at2), ap (λ (l : List Numbered). length l) methods, pairs_long ms 0 at2, map_long (λ (x : MethodPart). x.number) p.methods, m.few_methods);
      few_parameters = omega (arith, order_long (method_pairs p.methods 0 refs), ap (λ (l : List Numbered). length l) parameters, pairs_long ms 0 refs, map_long (λ (x : MethodPart). x.number) p.methods, m.few_methods);
    }

pub all_directories : (bytes : List ℕ) (r : Renumber) (offsets : ClassOffsets) (values : Plan → List EncValue) (place code_at lines_at : ℕ) (sets refs : List ℕ) (ps : List Plan) → AllByRecursion FewMembers ps → Few sets → Few refs
    → Both (Stands bytes) (map (λ c. c.def.annotations) (class_parts r offsets values place code_at lines_at sets refs ps)) (map (λ c. directory_text c.directory) (class_parts r offsets values place code_at lines_at sets refs ps))
    → AllByRecursion (λ x. IsDirectoryOf bytes x.def.annotations x.directory × NamesAll x.directory) (class_parts r offsets values place code_at lines_at sets refs ps)
all_directories bytes r offsets values place code_at lines_at sets refs [] a s f b = tt
all_directories bytes r offsets values place code_at lines_at sets refs (p ∷ ps) a s f b =
    let fit : FitsDirectory (directory_of p sets refs) = plan_directory p sets refs a.0 s f in (
      (directory_is bytes _ (directory_of p sets refs) fit b.0, names_all (directory_of p sets refs) fit),
      all_directories bytes r offsets values (suc place) (codes_behind code_at p.methods) (lines_behind lines_at p.methods) (behind_class p sets) (drop (length p.methods) refs) ps a.1 (few_dropped (parameter_count p) (drop (own_count p) sets) (few_dropped (own_count p) sets s)) (few_dropped (length p.methods) refs f) b.1,
    )
