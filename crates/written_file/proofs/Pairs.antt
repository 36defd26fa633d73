-- What a class's directory names for a member is the offset of the member's set.
use Rattle.std.proofs.Common.{◌≡◌, ◌≤◌, ◌<◌, ◌+◌, ℕ, zero, suc, Bool, true, false, List, [], ◌∷◌, ◌++◌, length, map, take, drop, refl, sym, ap, subst, ◌∙◌, arith, append_assoc, length-append, length-drop, take-append-drop}
use Rattle.std.specs.Prelude.{nat_eq, slice_get, ◌||◌, if◌then◌else◌, sum, Some}
use Rattle.std.specs.List.{flat_map, concat, AllByRecursion}
use Rattle.std.proofs.lemmas.Bool.{eqb-true, eqb-false, eq-eqb, ne_eqb}
use Rattle.std.proofs.lemmas.List.{length-take-le, drop-drop, drop-take, take_at, drop_at}
use Rattle.std.proofs.lemmas.List.Sums.{sum_by-cons}
use Rattle.lemmas.proofs.Options.{some_same}
use Rattle.lemmas.proofs.Bools.{clash, neither_of}
use Rattle.program_model.specs.declared.pass.Renumber.{Renumber}
use Rattle.program_model.specs.declared.value.EncValue.{EncValue}
use Rattle.program_model.specs.declared.program.Class.{Class}
use Rattle.dex_write.specs.declared.ordered.MethodPart.{MethodPart}
use Rattle.dex_write.specs.declared.tables.ClassOffsets.{ClassOffsets}
use Rattle.dex_write.specs.Numbers.{at_place}
use Rattle.code_write.specs.Pairs.{Numbered, is_before, insert, in_order}
use Rattle.dex_write.specs.Plans.{Plan}
use Rattle.dex_write.specs.Codes.{code_behind, codes_behind, lines_behind}
use Rattle.dex_write.specs.Sets.{pair_list, field_pairs, method_pairs, ref_counts, own_count, parameter_count, own_offsets, behind_class, set_counts}
use Rattle.dex_defs.specs.ClassData.{Entry}
use Rattle.dex_defs.specs.Annotations.{offset_for}
use Rattle.dex_defs.specs.Valid.{ClassPart, ref_offsets, set_offsets, methods_of, fields_of}
use Rattle.write_laws.specs.Listing.{field_entry, method_entries, lists_in}
use Rattle.write_laws.proofs.Fitting.{plan_long}
use Rattle.written_file.proofs.In.{In}
use Rattle.written_file.proofs.Places.{has}
use Rattle.written_file.proofs.Sorting.{Differ, order_all}
use Rattle.written_file.specs.Parts.{split_by, class_part, class_parts}
use Rattle.written_file.proofs.Parts.{each_from, each_is, methods_are}

-- ---- pairs of numbers and offsets

abbrev pub pairs_from : List ℕ → ℕ → List ℕ → List Numbered
pairs_from [] at offsets = []
pairs_from (n ∷ ns) at offsets = pair_list n (at_place offsets at) ++ pairs_from ns (suc at) offsets

pub fields_paired : (fs : List Numbered) (at : ℕ) (offsets : List ℕ) → field_pairs fs at offsets ≡ pairs_from (map (λ f. f.0) fs) at offsets
fields_paired [] at offsets = refl
fields_paired (f ∷ fs) at offsets = ap (λ (l : List Numbered). pair_list f.0 (at_place offsets at) ++ l) (fields_paired fs (suc at) offsets)

pub methods_paired : (ms : List MethodPart) (at : ℕ) (offsets : List ℕ) → method_pairs ms at offsets ≡ pairs_from (map (λ m. m.number) ms) at offsets
methods_paired [] at offsets = refl
methods_paired (m ∷ ms) at offsets = ap (λ (l : List Numbered). pair_list m.number (at_place offsets at) ++ l) (methods_paired ms (suc at) offsets)

abbrev Absent : ℕ → List Numbered → Type 0
Absent n xs = AllByRecursion (λ x. nat_eq x.0 n ≡ false) xs

other_way : (n m : ℕ) → nat_eq n m ≡ false → nat_eq m n ≡ false
other_way n m e = ne_eqb m n (λ s. let t : nat_eq n m ≡ true = eq-eqb n m (sym s) in clash (nat_eq n m) t e)

pair_absent : (n m o : ℕ) (rest : List Numbered) → nat_eq m n ≡ false → Absent n rest → Absent n (pair_list m o ++ rest)
pair_absent n m zero rest e a = a
pair_absent n m (suc o) rest e a = (e, a)

absent_pairs : (n : ℕ) (ns : List ℕ) (at : ℕ) (offsets : List ℕ) → has n ns ≡ false → Absent n (pairs_from ns at offsets)
absent_pairs n [] at offsets h = tt
absent_pairs n (m ∷ ms) at offsets h =
    let both = neither_of (nat_eq n m) (has n ms) h in
    pair_absent n m (at_place offsets at) (pairs_from ms (suc at) offsets) (other_way n m both.0) (absent_pairs n ms (suc at) offsets both.1)

lookup_absent : (n : ℕ) (xs : List Numbered) → Absent n xs → offset_for n xs ≡ 0
lookup_absent n [] a = refl
lookup_absent n (x ∷ xs) a = rw a.0 (lookup_absent n xs a.1)

lookup_insert : (n : ℕ) (a : Numbered) (bs : List Numbered) → (nat_eq a.0 n ≡ true → Absent n bs) → offset_for n (insert a bs) ≡ (if nat_eq a.0 n then a.1 else offset_for n bs)
lookup_insert n a [] none = refl
lookup_insert n a (b ∷ bs) none = by_test (is_before a b) refl (lookup_insert n a bs (λ e. (none e).1))
  where
    swapped : (s t : Bool) → nat_eq a.0 n ≡ s → nat_eq b.0 n ≡ t → (if t then b.1 else (if s then a.1 else offset_for n bs)) ≡ (if s then a.1 else (if t then b.1 else offset_for n bs))
    swapped true true e f = clash (nat_eq b.0 n) f (none e).0
    swapped true false e f = refl
    swapped false t e f = refl

    by_test : (t : Bool) → is_before a b ≡ t → offset_for n (insert a bs) ≡ (if nat_eq a.0 n then a.1 else offset_for n bs) → offset_for n (insert a (b ∷ bs)) ≡ (if nat_eq a.0 n then a.1 else offset_for n (b ∷ bs))
    by_test true t e = rw t refl
    by_test false t e = rw t (ap (λ (m : ℕ). if nat_eq b.0 n then b.1 else m) e ∙ swapped (nat_eq a.0 n) (nat_eq b.0 n) refl refl)

abbrev Apart : List Numbered → Type 0
Apart [] = Unit {0}
Apart (x ∷ xs) = Absent x.0 xs × Apart xs

lookup_order : (n : ℕ) (xs : List Numbered) → Apart xs → offset_for n (in_order xs) ≡ offset_for n xs
unfolding in_order
lookup_order n [] a = refl
lookup_order n (x ∷ xs) a =
    lookup_insert n x (in_order xs) (λ e. subst (λ (k : ℕ). Absent k (in_order xs)) (eqb-true x.0 n e) (order_all (λ y. nat_eq y.0 x.0 ≡ false) xs a.0))
    ∙ ap (λ (m : ℕ). if nat_eq x.0 n then x.1 else m) (lookup_order n xs a.1)

pair_apart : (m o : ℕ) (rest : List Numbered) → Absent m rest → Apart rest → Apart (pair_list m o ++ rest)
pair_apart m zero rest a b = b
pair_apart m (suc o) rest a b = (a, b)

pub pairs_apart : (ns : List ℕ) (at : ℕ) (offsets : List ℕ) → Differ ns → Apart (pairs_from ns at offsets)
pairs_apart [] at offsets d = tt
pairs_apart (n ∷ ns) at offsets d = pair_apart n (at_place offsets at) (pairs_from ns (suc at) offsets) (absent_pairs n ns (suc at) offsets d.0) (pairs_apart ns (suc at) offsets d.1)

pair_lookup : (n o : ℕ) (rest : List Numbered) → Absent n rest → offset_for n (pair_list n o ++ rest) ≡ o
pair_lookup n zero rest a = lookup_absent n rest a
pair_lookup n (suc o) rest a = let t : nat_eq n n ≡ true = eq-eqb n n refl in rw t refl

pair_skip : (n m o : ℕ) (rest : List Numbered) → nat_eq m n ≡ false → offset_for n (pair_list m o ++ rest) ≡ offset_for n rest
pair_skip n m zero rest e = refl
pair_skip n m (suc o) rest e = rw e refl

not_same : (m : ℕ) (ms : List ℕ) (k n : ℕ) → has m ms ≡ false → slice_get ms k ≡ Some n → nat_eq m n ≡ false
not_same m [] k n h e = absurd cc
not_same m (x ∷ xs) zero n h e = subst (λ (j : ℕ). nat_eq m j ≡ false) (some_same x n e) (neither_of (nat_eq m x) (has m xs) h).0
not_same m (x ∷ xs) (suc k) n h e = not_same m xs k n (neither_of (nat_eq m x) (has m xs) h).1 e

lookup_at : (ns : List ℕ) (at : ℕ) (offsets : List ℕ) (k n : ℕ) → Differ ns → slice_get ns k ≡ Some n → offset_for n (pairs_from ns at offsets) ≡ at_place offsets (at + k)
lookup_at [] at offsets k n d e = absurd cc
lookup_at (m ∷ ms) at offsets zero n d e =
    let same : m ≡ n = some_same m n e in
    let none : at ≡ at + 0 = omega arith in
    subst (λ (j : ℕ). offset_for j (pair_list m (at_place offsets at) ++ pairs_from ms (suc at) offsets) ≡ at_place offsets (at + 0)) same
    (pair_lookup m (at_place offsets at) (pairs_from ms (suc at) offsets) (absent_pairs m ms (suc at) offsets d.0) ∙ ap (λ (j : ℕ). at_place offsets j) none)
lookup_at (m ∷ ms) at offsets (suc k) n d e =
    let more : suc at + k ≡ at + suc k = omega arith in
    pair_skip n m (at_place offsets at) (pairs_from ms (suc at) offsets) (not_same m ms k n d.0 e)
    ∙ lookup_at ms (suc at) offsets k n d.1 e
    ∙ ap (λ (j : ℕ). at_place offsets j) more

map_by : (g : ℕ → ℕ) (ns xs : List ℕ) (at : ℕ) → ((k n : ℕ) → slice_get ns k ≡ Some n → g n ≡ at_place xs (at + k)) → map g ns ≡ each_from xs at (length ns)
map_by g [] xs at h = refl
map_by g (n ∷ ns) xs at h =
    let none : at + 0 ≡ at = omega arith in
    ap (λ (m : ℕ). m ∷ map g ns) (h 0 n refl ∙ ap (λ (j : ℕ). at_place xs j) none)
    ∙ ap (λ (l : List ℕ). at_place xs at ∷ l) (map_by g ns xs (suc at) (λ k m e. let more : at + suc k ≡ suc at + k = omega arith in h (suc k) m e ∙ ap (λ (j : ℕ). at_place xs j) more))

-- what is found for each number is the offset in its turn
pub offsets_back : (ns offsets : List ℕ) → Differ ns → length ns ≤ length offsets → map (λ n. offset_for n (in_order (pairs_from ns 0 offsets))) ns ≡ take (length ns) offsets
offsets_back ns offsets d le =
    map_by (λ n. offset_for n (in_order (pairs_from ns 0 offsets))) ns offsets 0 (λ k n e. lookup_order n (pairs_from ns 0 offsets) (pairs_apart ns 0 offsets d) ∙ lookup_at ns 0 offsets k n d e)
    ∙ each_is offsets 0 (length ns) (omega (arith, le))

-- ---- numbers of entries

map_map : {X Y Z : Type 0} (f : Y → Z) (g : X → Y) (xs : List X) → map f (map g xs) ≡ map (λ x. f (g x)) xs
map_map f g [] = refl
map_map f g (x ∷ xs) = ap (λ l. f (g x) ∷ l) (map_map f g xs)

field_numbers : (c : Class) (fs : List Numbered) → map (λ e. e.number) (map (field_entry c) fs) ≡ map (λ f. f.0) fs
field_numbers c [] = refl
field_numbers c (f ∷ fs) = ap (λ (l : List ℕ). f.0 ∷ l) (field_numbers c fs)

method_numbers : (c : Class) (at : ℕ) (ms : List MethodPart) → map (λ e. e.number) (method_entries c at ms) ≡ map (λ m. m.number) ms
method_numbers c at [] = refl
method_numbers c at (m ∷ ms) = ap (λ (l : List ℕ). m.number ∷ l) (method_numbers c (code_behind at m) ms)

map_both : {X Y : Type 0} (f : X → Y) (xs ys : List X) → map f (xs ++ ys) ≡ map f xs ++ map f ys
map_both f [] ys = refl
map_both f (x ∷ xs) ys = ap (λ l. f x ∷ l) (map_both f xs ys)

take_rest : {X : Type 0} (n : ℕ) (xs : List X) → take n xs ++ drop n xs ≡ xs
take_rest zero xs = refl
take_rest (suc n) [] = refl
take_rest (suc n) (x ∷ xs) = ap (λ l. x ∷ l) (take_rest n xs)

pub field_entries : (p : Plan) (at : ℕ) → map (λ e. e.number) (fields_of (lists_in p at)) ≡ map (λ f. f.0) p.fields
field_entries p at =
    map_both (λ (e : Entry). e.number) (map (field_entry p.class) (take p.statics p.fields)) (map (field_entry p.class) (drop p.statics p.fields))
    ∙ ap (λ (l : List ℕ). l ++ map (λ e. e.number) (map (field_entry p.class) (drop p.statics p.fields))) (field_numbers p.class (take p.statics p.fields))
    ∙ ap (λ (l : List ℕ). map (λ f. f.0) (take p.statics p.fields) ++ l) (field_numbers p.class (drop p.statics p.fields))
    ∙ sym (map_both (λ (f : Numbered). f.0) (take p.statics p.fields) (drop p.statics p.fields))
    ∙ ap (λ (l : List Numbered). map (λ f. f.0) l) (take_rest p.statics p.fields)

pub method_entries_are : (r : Renumber) (offsets : ClassOffsets) (values : Plan → List EncValue) (p : Plan) (at : ℕ) → map (λ e. e.number) (methods_of (lists_in p at)) ≡ map (λ m. m.number) p.methods
method_entries_are r offsets values p at = ap (λ (l : List Entry). map (λ e. e.number) l) (methods_are r offsets values p at) ∙ method_numbers p.class at p.methods

-- ---- the offsets that a class names

-- the numbers of its members differ
pub record HasOwn (p : Plan) : Type 0 where
  pub fields : Differ (map (λ f. f.0) p.fields)
  pub methods : Differ (map (λ m. m.number) p.methods)

map_long : {X Y : Type 0} (f : X → Y) (xs : List X) → length (map f xs) ≡ length xs
map_long f [] = refl
map_long f (x ∷ xs) = ap suc (map_long f xs)

none_taken : (k : ℕ) → ◌≡◌ {A = List ℕ} (take k []) []
none_taken zero = refl
none_taken (suc k) = refl

none_dropped : (k : ℕ) → ◌≡◌ {A = List ℕ} (drop k []) []
none_dropped zero = refl
none_dropped (suc k) = refl

taken : (a b : ℕ) (ys : List ℕ) → take a ys ++ take b (drop a ys) ≡ take (a + b) ys
taken zero b ys = let e : b ≡ 0 + b = omega arith in ap (λ (k : ℕ). take k ys) e
taken (suc a) b [] = none_taken b ∙ sym (none_taken (suc a + b))
taken (suc a) b (y ∷ ys) = let e : suc a + b ≡ suc (a + b) = omega arith in ap (λ (l : List ℕ). y ∷ l) (taken a b ys) ∙ ap (λ (k : ℕ). take k (y ∷ ys)) (sym e)

dropped : (a b : ℕ) (xs : List ℕ) → drop a (drop b xs) ≡ drop (b + a) xs
dropped a zero xs = let e : a ≡ 0 + a = omega arith in ap (λ (k : ℕ). drop k xs) e
dropped a (suc b) [] = none_dropped a ∙ sym (none_dropped (suc b + a))
dropped a (suc b) (x ∷ xs) = let e : suc b + a ≡ suc (b + a) = omega arith in dropped a b xs ∙ ap (λ (k : ℕ). drop k (x ∷ xs)) (sym e)

split_concat : (ns xs : List ℕ) → concat (split_by ns xs) ≡ take (sum ns) xs
split_concat [] xs = refl
split_concat (n ∷ ns) xs = ap (λ (l : List ℕ). take n xs ++ l) (split_concat ns (drop n xs)) ∙ (taken n (sum ns) xs ∙ ap (λ (k : ℕ). take k xs) (sym (sum_by-cons (λ (x : ℕ). x) n ns)))

first_taken : (xs : List ℕ) → 1 ≤ length xs → at_place xs 0 ∷ [] ≡ take 1 xs
first_taken [] le = absurd (omega (arith, le))
first_taken (x ∷ xs) le = refl

refs_counted : (x : Plan) → length (ref_counts x) ≡ length x.methods
unfolding ref_counts
refs_counted x = map_long _ x.methods

module _ (r : Renumber) (offsets : ClassOffsets) (values : Plan → List EncValue) where
  own_refs : (place code_at lines_at : ℕ) (sets refs : List ℕ) (p : Plan) → HasOwn p → length p.methods ≤ length refs → ref_offsets (class_part r offsets values place code_at lines_at sets refs p) ≡ take (length p.methods) refs
  own_refs place code_at lines_at sets refs p own le =
      let ns : List ℕ = map (λ m. m.number) p.methods in
      let many : length ns ≡ length p.methods = map_long (λ (m : MethodPart). m.number) p.methods in
      sym (map_map (λ (n : ℕ). offset_for n (in_order (method_pairs p.methods 0 refs))) (λ (e : Entry). e.number) (methods_of (lists_in p code_at)))
      ∙ ap (λ (l : List ℕ). map (λ n. offset_for n (in_order (method_pairs p.methods 0 refs))) l) (method_entries_are r offsets values p code_at)
      ∙ ap (λ (l : List Numbered). map (λ n. offset_for n (in_order l)) ns) (methods_paired p.methods 0 refs)
      ∙ offsets_back ns refs own.methods (omega (arith, many, le))
      ∙ ap (λ (k : ℕ). take k refs) many

  pub refs_named : (place code_at lines_at : ℕ) (sets refs : List ℕ) (ps : List Plan) → AllByRecursion HasOwn ps → length refs ≡ length (flat_map (λ p. ref_counts p) ps) → flat_map ref_offsets (class_parts r offsets values place code_at lines_at sets refs ps) ≡ refs
  refs_named place code_at lines_at sets [] [] own e = refl
  refs_named place code_at lines_at sets (x ∷ xs) [] own e = absurd (omega (arith, e))
  refs_named place code_at lines_at sets refs (p ∷ ps) own e =
      let le : length refs ≡ length p.methods + length (flat_map (λ q. ref_counts q) ps) = e ∙ (length-append (ref_counts p) (flat_map (λ q. ref_counts q) ps) ∙ ap (λ (n : ℕ). n + length (flat_map (λ q. ref_counts q) ps)) (refs_counted p)) in
      let rest : List ClassPart = class_parts r offsets values (suc place) (codes_behind code_at p.methods) (lines_behind lines_at p.methods) (behind_class p sets) (drop (length p.methods) refs) ps in
      ap (λ (l : List ℕ). l ++ flat_map ref_offsets rest) (own_refs place code_at lines_at sets refs p own.0 (omega (arith, le)))
      ∙ ap (λ (l : List ℕ). take (length p.methods) refs ++ l) (refs_named (suc place) (codes_behind code_at p.methods) (lines_behind lines_at p.methods) (behind_class p sets) (drop (length p.methods) refs) ps own.1 (omega (arith, le, length-drop (length p.methods) refs)))
      ∙ take_rest (length p.methods) refs

  own_sets : (place code_at lines_at : ℕ) (sets refs : List ℕ) (p : Plan) → HasOwn p → own_count p + parameter_count p ≤ length sets → set_offsets (class_part r offsets values place code_at lines_at sets refs p) ≡ take (own_count p + parameter_count p) sets
  own_sets place code_at lines_at sets refs p own le =
      let fs : List ℕ = map (λ f. f.0) p.fields in
      let ms : List ℕ = map (λ m. m.number) p.methods in
      let some_fields : length fs ≡ length p.fields = map_long (λ (f : Numbered). f.0) p.fields in
      let some_methods : length ms ≡ length p.methods = map_long (λ (m : MethodPart). m.number) p.methods in
      let at1 : List ℕ = drop 1 sets in
      let at2 : List ℕ = drop (length p.fields) at1 in
      let fields : map (λ e. offset_for e.number (in_order (field_pairs p.fields 0 at1))) (fields_of (lists_in p code_at)) ≡ take (length p.fields) at1 =
      sym (map_map (λ (n : ℕ). offset_for n (in_order (field_pairs p.fields 0 at1))) (λ (e : Entry). e.number) (fields_of (lists_in p code_at)))
      ∙ ap (λ (l : List ℕ). map (λ n. offset_for n (in_order (field_pairs p.fields 0 at1))) l) (field_entries p code_at)
      ∙ ap (λ (l : List Numbered). map (λ n. offset_for n (in_order l)) fs) (fields_paired p.fields 0 at1)
      ∙ offsets_back fs at1 own.fields (omega (arith, some_fields, le, length-drop 1 sets))
      ∙ ap (λ (k : ℕ). take k at1) some_fields in
      let methods : map (λ e. offset_for e.number (in_order (method_pairs p.methods 0 at2))) (methods_of (lists_in p code_at)) ≡ take (length p.methods) at2 =
      sym (map_map (λ (n : ℕ). offset_for n (in_order (method_pairs p.methods 0 at2))) (λ (e : Entry). e.number) (methods_of (lists_in p code_at)))
      ∙ ap (λ (l : List ℕ). map (λ n. offset_for n (in_order (method_pairs p.methods 0 at2))) l) (method_entries_are r offsets values p code_at)
      ∙ ap (λ (l : List Numbered). map (λ n. offset_for n (in_order l)) ms) (methods_paired p.methods 0 at2)
      ∙ offsets_back ms at2 own.methods (omega (arith, some_methods, le, length-drop 1 sets, length-drop (length p.fields) at1))
      ∙ ap (λ (k : ℕ). take k at2) some_methods in
      let own_part : List ℕ = own_offsets p sets in
      let all_of_them : 1 + (length p.fields + (length p.methods + parameter_count p)) ≡ own_count p + parameter_count p = omega arith in
      let parameters : concat (split_by (ref_counts p) own_part) ≡ own_part = split_concat (ref_counts p) own_part ∙ whole (parameter_count p) (drop (own_count p) sets) in
      let same3 : drop (own_count p) sets ≡ drop (length p.methods) at2 = sym (dropped (length p.methods) (length p.fields) at1 ∙ dropped (length p.fields + length p.methods) 1 sets) in
      ap (λ (l : List ℕ). at_place sets 0 ∷ (l ++ (map (λ e. offset_for e.number (in_order (method_pairs p.methods 0 at2))) (methods_of (lists_in p code_at)) ++ concat (split_by (ref_counts p) own_part)))) fields
      ∙ ap (λ (l : List ℕ). at_place sets 0 ∷ (take (length p.fields) at1 ++ (l ++ concat (split_by (ref_counts p) own_part)))) methods
      ∙ ap (λ (l : List ℕ). at_place sets 0 ∷ (take (length p.fields) at1 ++ (take (length p.methods) at2 ++ l))) (parameters ∙ ap (λ (l : List ℕ). take (parameter_count p) l) same3)
      ∙ ap (λ (l : List ℕ). at_place sets 0 ∷ (take (length p.fields) at1 ++ l)) (taken (length p.methods) (parameter_count p) at2)
      ∙ ap (λ (l : List ℕ). at_place sets 0 ∷ l) (taken (length p.fields) (length p.methods + parameter_count p) at1)
      ∙ ap (λ (l : List ℕ). l ++ take (length p.fields + (length p.methods + parameter_count p)) at1) (first_taken sets (omega (arith, le)))
      ∙ taken 1 (length p.fields + (length p.methods + parameter_count p)) sets
      ∙ ap (λ (k : ℕ). take k sets) all_of_them
    where
      whole : (n : ℕ) (xs : List ℕ) → take n (take n xs) ≡ take n xs
      whole zero xs = refl
      whole (suc n) [] = refl
      whole (suc n) (x ∷ xs) = ap (λ (l : List ℕ). x ∷ l) (whole n xs)

  pub sets_named : (place code_at lines_at : ℕ) (sets refs : List ℕ) (ps : List Plan) → AllByRecursion HasOwn ps → length sets ≡ length (flat_map set_counts ps) → flat_map set_offsets (class_parts r offsets values place code_at lines_at sets refs ps) ≡ sets
  sets_named place code_at lines_at [] refs [] own e = refl
  sets_named place code_at lines_at (x ∷ xs) refs [] own e = absurd (omega (arith, e))
  sets_named place code_at lines_at sets refs (p ∷ ps) own e =
      let le : length sets ≡ (own_count p + parameter_count p) + length (flat_map set_counts ps) = e ∙ (length-append (set_counts p) (flat_map set_counts ps) ∙ ap (λ (n : ℕ). n + length (flat_map set_counts ps)) (plan_long p)) in
      let rest : List ClassPart = class_parts r offsets values (suc place) (codes_behind code_at p.methods) (lines_behind lines_at p.methods) (behind_class p sets) (drop (length p.methods) refs) ps in
      let behind : behind_class p sets ≡ drop (own_count p + parameter_count p) sets = dropped (parameter_count p) (own_count p) sets in
      ap (λ (l : List ℕ). l ++ flat_map set_offsets rest) (own_sets place code_at lines_at sets refs p own.0 (omega (arith, le)))
      ∙ ap (λ (l : List ℕ). take (own_count p + parameter_count p) sets ++ l) (sets_named (suc place) (codes_behind code_at p.methods) (lines_behind lines_at p.methods) (behind_class p sets) (drop (length p.methods) refs) ps own.1 (omega (arith, le, ap (λ (l : List ℕ). length l) behind, length-drop (own_count p + parameter_count p) sets)) ∙ behind)
      ∙ take_rest (own_count p + parameter_count p) sets
