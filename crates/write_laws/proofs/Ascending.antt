-- The tables of strings and types that are written ascend, since no two entries are the same.
use Rattle.std.proofs.Common.{◌≡◌, ◌<◌, ◌≤◌, ◌+◌, ◌^◌, ℕ, zero, suc, List, [], ◌∷◌, ◌++◌, length, refl, sym, ap, subst, ◌∙◌, arith}
use Rattle.std.specs.Prelude.{Bool, true, false, ◌&&◌, ◌||◌, nat_eq, nat_lt, slice_get, slice_index_or, sum_by, Option, Some, None, if◌then◌else◌}
use Rattle.std.specs.List.{AllByRecursion, list_any}
use Rattle.std.specs.List.Sorted.{IsSortedBy, IsSortedByKey}
use Rattle.std.specs.Ordering.{is_lt, is_eq, nat_cmp, ordering_reverse}
use Rattle.std.specs.Cmp.Lexicographic.{pointwise, slice_cmp, bytes_decides}
use Rattle.std.specs.declared.cmp.Ordering.{Ordering}
use Rattle.std.specs.declared.cmp.Ordering.TheVariants.{Less, Equal, Greater}
use Rattle.std.proofs.lemmas.Bool.{eqb-true, eq-eqb, ne_eqb, or_parts}
use Rattle.std.proofs.lemmas.Cmp.{nat_list_cmp_total}
use Rattle.std.proofs.lemmas.List.Sums.{sum_by-cons}
use Rattle.std.proofs.lemmas.List.Sorted.{sum_by-IsPermutation}
use Rattle.std.proofs.lemmas.List.Folds.{list_any-append}
use Rattle.std.proofs.lemmas.Map.Text.{is_eq-slice_cmp}
use Rattle.std.proofs.lemmas.Option.{get_or_from_slice_get}
use Rattle.lemmas.proofs.Options.{some_same}
use Rattle.dex_pools.specs.declared.interner.Interner.{Interner}
use Rattle.dex_pools.specs.Finds.{Ascends}
use Rattle.dex_pools.specs.Interned.{IsInterned}
use Rattle.dex_pools.specs.Numbering.{numbers_from, numbers_of, used_in, string_key, type_key, IsNumbered}
use Rattle.dex_pools.specs.Order.{is_less, list_below}
use Rattle.dex_pools.specs.Written.{renumbered}
use Rattle.program_model.specs.Distinct as distinct
use Rattle.program_model.specs.Distinct.{same_entry, differ_from, all_differ}
use Rattle.program_model.specs.declared.program.Program.{Program}
use Rattle.dex_defs.specs.Written.{entries, one_entry, new_string, written_by}
use Rattle.write_laws.specs.Used.{IsSet, AllIn}
use Rattle.write_laws.specs.Orders.{OrdersIn}
use Rattle.write_laws.proofs.NamesOrdering.{orders_in}
use Rattle.write_laws.proofs.Carried.{Stands, entry, used_at}
use Rattle.write_laws.proofs.Owning.{order_set}

-- ---- lists of numbers in order

equal : (a b : List ℕ) → slice_cmp nat_cmp a b ≡ Equal → a ≡ b
equal a b e = (bytes_decides a b).0 (sym (is_eq-slice_cmp a b) ∙ ap is_eq e)

strict : (a b : List ℕ) → is_lt (slice_cmp nat_cmp b a) ≡ false → (a ≡ b → ⊥) → is_less (slice_cmp nat_cmp a b) ≡ true
strict a b h ne = by_order (slice_cmp nat_cmp a b) refl
  where
    by_order : (o : Ordering) → slice_cmp nat_cmp a b ≡ o → is_less (slice_cmp nat_cmp a b) ≡ true
    by_order Less e = ap is_less e
    by_order Equal e = absurd (ne (equal a b e))
    by_order Greater e =
        let turned : slice_cmp nat_cmp b a ≡ Less = nat_list_cmp_total.antisymm b a ∙ ap ordering_reverse e in
        let no : true ≡ false = sym (ap is_lt turned) ∙ h in
        absurd cc

-- ---- no number stands twice among those in order

abbrev pub is_at : ℕ → ℕ → ℕ
is_at n m = if nat_eq n m then 1 else 0

other_at : (n m : ℕ) → nat_eq n m ≡ false → is_at n m ≡ 0
other_at n m e = rw e refl

same_at : (n m : ℕ) → nat_eq n m ≡ true → is_at n m ≡ 1
same_at n m e = rw e refl

absent : (n from : ℕ) (flags : List Bool) → n < from → sum_by (is_at n) (numbers_from from flags) ≡ 0
absent n from [] lt = refl
absent n from (flag ∷ flags) lt = by_test (flag && nat_lt from 4294967295) refl (absent n (suc from) flags (omega (arith, lt)))
  where
    by_test : (t : Bool) → (flag && nat_lt from 4294967295) ≡ t → sum_by (is_at n) (numbers_from (suc from) flags) ≡ 0 → sum_by (is_at n) (numbers_from from (flag ∷ flags)) ≡ 0
    by_test true e rest =
        let none : is_at n from ≡ 0 = other_at n from (ne_eqb n from (λ s. omega (arith, s, lt))) in
        rw e (sum_by-cons (is_at n) from (numbers_from (suc from) flags) ∙ omega (arith, none, rest))
    by_test false e rest = rw e rest

once_from : (n from : ℕ) (flags : List Bool) → sum_by (is_at n) (numbers_from from flags) ≤ 1
once_from n from [] = omega arith
once_from n from (flag ∷ flags) = by_test (flag && nat_lt from 4294967295) refl (once_from n (suc from) flags)
  where
    by_head : (t : Bool) → nat_eq n from ≡ t → sum_by (is_at n) (numbers_from (suc from) flags) ≤ 1 → is_at n from + sum_by (is_at n) (numbers_from (suc from) flags) ≤ 1
    by_head true e rest =
        let same : n ≡ from = eqb-true n from e in
        omega (arith, same_at n from e, absent n (suc from) flags (omega (arith, same)))
    by_head false e rest = omega (arith, other_at n from e, rest)

    by_test : (t : Bool) → (flag && nat_lt from 4294967295) ≡ t → sum_by (is_at n) (numbers_from (suc from) flags) ≤ 1 → sum_by (is_at n) (numbers_from from (flag ∷ flags)) ≤ 1
    by_test true e rest = rw e (omega (arith, sum_by-cons (is_at n) from (numbers_from (suc from) flags), by_head (nat_eq n from) refl rest))
    by_test false e rest = rw e rest

pub once : (flags : List Bool) (key : ℕ → List ℕ) (count : ℕ) (order numbers : List ℕ) → IsNumbered key flags count order numbers → (n : ℕ) → sum_by (is_at n) order ≤ 1
unfolding numbers_of
once flags key count order numbers h n = omega (arith, sum_by-IsPermutation (is_at n) (numbers_from 0 flags) order h.in_order.same, once_from n 0 flags)

-- ---- entries in order ascend

tail_sorted : {X : Type 0} (less : X → X → Bool) (x : X) (xs : List X) → IsSortedBy less (x ∷ xs) → IsSortedBy less xs
tail_sorted less x xs h k d low under =
    let e : suc k + 1 ≡ suc (k + 1) = omega arith in
    subst (λ j. less (slice_index_or (x ∷ xs) j d) (slice_index_or (x ∷ xs) (suc k) d) ≡ false) e (h (suc k) d (omega arith) (omega (arith, under)))

twice : (n m : ℕ) (rest : List ℕ) → sum_by (is_at n) (n ∷ m ∷ rest) ≤ 1 → n ≡ m → ⊥
twice n m rest le e =
    let first : is_at n n ≡ 1 = same_at n n (eq-eqb n n refl) in
    let second : is_at n m ≡ 1 = same_at n m (eq-eqb n m e) in
    omega (arith, le, sum_by-cons (is_at n) n (m ∷ rest), sum_by-cons (is_at n) m rest, first, second)

module _ {X Y : Type 0} (f : X → Y) (table : List X) (key : ℕ → List ℕ) (below : Y → Y → Bool) (P : ℕ → Type 0)
    (apart : (n m : ℕ) → P n → P m → key n ≡ key m → n ≡ m)
    (ordered : (n m : ℕ) (x y : X) → slice_get table n ≡ Some x → slice_get table m ≡ Some y → is_less (slice_cmp nat_cmp (key n) (key m)) ≡ true → below (f x) (f y) ≡ true) where
  pub ascending : (order : List ℕ) → IsSortedByKey key (slice_cmp nat_cmp) order → ((n : ℕ) → sum_by (is_at n) order ≤ 1) → AllIn table order → AllByRecursion P order → Ascends below (entries f table order)
  ascending [] sorted single fit all = tt
  ascending (n ∷ []) sorted single fit all =
      let s : Stands table n = entry table n fit.0 in
      subst (λ o. Ascends below (one_entry f o ++ [])) (sym s.is) tt
  ascending (n ∷ m ∷ rest) sorted single fit all =
      let s : Stands table n = entry table n fit.0 in
      let t : Stands table m = entry table m fit.1.0 in
      let more : Ascends below (entries f table (m ∷ rest)) = ascending (m ∷ rest) (tail_sorted (λ x y. is_lt (slice_cmp nat_cmp (key x) (key y))) n (m ∷ rest) sorted) (λ k. omega (arith, single k, sum_by-cons (is_at k) n (m ∷ rest))) fit.1 all.1 in
      let others : Ascends below (f t.x ∷ entries f table rest) = subst (λ o. Ascends below (one_entry f o ++ entries f table rest)) t.is more in
      let head : is_lt (slice_cmp nat_cmp (key m) (key n)) ≡ false = sorted 0 n (omega arith) (omega arith) in
      let differ : key n ≡ key m → ⊥ = λ e. twice n m rest (single n) (apart n m all.0 all.1.0 e) in
      let less : below (f s.x) (f t.x) ≡ true = ordered n m s.x t.x s.is t.is (strict (key n) (key m) head differ) in
      subst (λ o. Ascends below (one_entry f o ++ entries f table (m ∷ rest))) (sym s.is) (subst (λ o. Ascends below (f s.x ∷ (one_entry f o ++ entries f table rest))) (sym t.is) (less, others))

-- ---- entries that differ

clear : {X : Type 0} (key : X → List ℕ) (before xs : List X) (m : ℕ) (y : X) → differ_from key before xs ≡ true → slice_get xs m ≡ Some y → list_any (λ w. same_entry key w y) before ≡ false
clear key before [] m y h e = absurd cc
clear {X = X} key before (z ∷ zs) m y h e = by_test (list_any (λ w. same_entry key w z) before) refl h (λ g n s. clear key (before ++ z ∷ []) zs n y g s)
  where
    here : (k : ℕ) → slice_get (z ∷ zs) k ≡ Some y → list_any (λ w. same_entry key w z) before ≡ false → ((n : ℕ) → slice_get zs n ≡ Some y → list_any (λ w. same_entry key w y) (before ++ z ∷ []) ≡ false) → list_any (λ w. same_entry key w y) before ≡ false
    here zero s clean more = let same : z ≡ y = some_same z y s in subst (λ v. list_any (λ w. same_entry key w v) before ≡ false) same clean
    here (suc k) s clean more = (or_parts (list_any (λ w. same_entry key w y) before) (list_any (λ w. same_entry key w y) (z ∷ [])) (sym (list_any-append (λ w. same_entry key w y) before (z ∷ [])) ∙ more k s)).0

    by_test : (b : Bool) → list_any (λ w. same_entry key w z) before ≡ b → (if b then false else differ_from key (before ++ z ∷ []) zs) ≡ true → (differ_from key (before ++ z ∷ []) zs ≡ true → (n : ℕ) → slice_get zs n ≡ Some y → list_any (λ w. same_entry key w y) (before ++ z ∷ []) ≡ false) → list_any (λ w. same_entry key w y) before ≡ false
    by_test true t g rest = absurd cc
    by_test false t g rest = here m e t (rest g)

-- the entry behind another one is another
behind : {X : Type 0} (key : X → List ℕ) (before : List X) (z : X) (zs : List X) (m : ℕ) (y : X) → differ_from key (before ++ z ∷ []) zs ≡ true → slice_get zs m ≡ Some y → key z ≡ key y → ⊥
behind key before z zs m y h e same =
    let last : list_any (λ w. same_entry key w y) (z ∷ []) ≡ false = (or_parts (list_any (λ w. same_entry key w y) before) (list_any (λ w. same_entry key w y) (z ∷ [])) (sym (list_any-append (λ w. same_entry key w y) before (z ∷ [])) ∙ clear key (before ++ z ∷ []) zs m y h e)).1 in
    let no : same_entry key z y ≡ false = (or_parts (same_entry key z y) false last).0 in
    let yes : same_entry key z y ≡ true = (bytes_decides (key z) (key y)).1 same in
    absurd cc

go_on : {X : Type 0} (key : X → List ℕ) (before : List X) (z : X) (zs : List X) → differ_from key before (z ∷ zs) ≡ true → differ_from key (before ++ z ∷ []) zs ≡ true
go_on key before z zs h = by_test (list_any (λ w. same_entry key w z) before) h
  where
    by_test : (b : Bool) → (if b then false else differ_from key (before ++ z ∷ []) zs) ≡ true → differ_from key (before ++ z ∷ []) zs ≡ true
    by_test true g = absurd cc
    by_test false g = g

pub one_place : {X : Type 0} (key : X → List ℕ) (before xs : List X) (n m : ℕ) (x y : X) → differ_from key before xs ≡ true → slice_get xs n ≡ Some x → slice_get xs m ≡ Some y → key x ≡ key y → n ≡ m
one_place key before [] n m x y h e f same = absurd cc
one_place key before (z ∷ zs) zero zero x y h e f same = refl
one_place key before (z ∷ zs) zero (suc m) x y h e f same = absurd (behind key before z zs m y (go_on key before z zs h) f (ap key (some_same z x e) ∙ same))
one_place key before (z ∷ zs) (suc n) zero x y h e f same = absurd (behind key before z zs n x (go_on key before z zs h) e (ap key (some_same z y f) ∙ sym same))
one_place key before (z ∷ zs) (suc n) (suc m) x y h e f same = ap suc (one_place key (before ++ z ∷ []) zs n m x y (go_on key before z zs h) e f same)

-- ---- strings and types

-- an entry that is there and used
abbrev pub Uses : List Bool → ℕ → ℕ → Type 0
Uses flags count n = (n < count) × IsSet flags n

pub both_in : (flags : List Bool) (count : ℕ) (ns : List ℕ) → AllByRecursion (λ n. n < count) ns → AllByRecursion (IsSet flags) ns → AllByRecursion (Uses flags count) ns
both_in flags count [] a b = tt
both_in flags count (n ∷ ns) a b = ((a.0, b.0), both_in flags count ns a.1 b.1)

-- two used entries with one new number are one
pub one_number : (flags : List Bool) (key : ℕ → List ℕ) (count : ℕ) (order numbers : List ℕ) → IsNumbered key flags count order numbers → length flags ≡ count → count < 2 ^ 32 → (n m : ℕ) → Uses flags count n → Uses flags count m → renumbered numbers n ≡ renumbered numbers m → n ≡ m
one_number flags key count order numbers h many few n m a b e =
    let there : slice_get order (renumbered numbers n) ≡ Some n = (used_at flags key count order numbers h many few n a.0 a.1).stands in
    let other : slice_get order (renumbered numbers m) ≡ Some m = (used_at flags key count order numbers h many few m b.0 b.1).stands in
    some_same n m (sym there ∙ ap (λ k. slice_get order k) e ∙ other)

pub strings_ascend : (p : Program) (i : Interner) → IsInterned p i → all_differ distinct.text_key p.strings ≡ true → Ascends list_below (written_by i p).strings
strings_ascend p i h differ =
    let fit : OrdersIn p i = orders_in p i h in
    let u : List Bool = (used_in p).strings in
    let set : AllByRecursion (IsSet u) i.order.strings.items = order_set u (string_key p.strings) (length p.strings) i.order.strings.items i.numbers.strings.items h.strings in
    ascending (λ text. text) p.strings (string_key p.strings) list_below (Uses u (length p.strings)) apart ordered i.order.strings.items h.strings.in_order.ascends (once u (string_key p.strings) (length p.strings) i.order.strings.items i.numbers.strings.items h.strings) fit.strings (both_in u (length p.strings) i.order.strings.items fit.strings set)
  where
    apart : (n m : ℕ) → Uses (used_in p).strings (length p.strings) n → Uses (used_in p).strings (length p.strings) m → string_key p.strings n ≡ string_key p.strings m → n ≡ m
    apart n m a b e =
        let x : Stands p.strings n = entry p.strings n a.0 in
        let y : Stands p.strings m = entry p.strings m b.0 in
        one_place distinct.text_key [] p.strings n m x.x y.x differ x.is y.is (sym (get_or_from_slice_get p.strings n x.x [] x.is) ∙ e ∙ get_or_from_slice_get p.strings m y.x [] y.is)

    ordered : (n m : ℕ) (x y : List ℕ) → slice_get p.strings n ≡ Some x → slice_get p.strings m ≡ Some y → is_less (slice_cmp nat_cmp (string_key p.strings n) (string_key p.strings m)) ≡ true → list_below x y ≡ true
    ordered n m x y e f less =
        let a : string_key p.strings n ≡ x = get_or_from_slice_get p.strings n x [] e in
        let b : string_key p.strings m ≡ y = get_or_from_slice_get p.strings m y [] f in
        subst (λ l. is_less (slice_cmp nat_cmp l y) ≡ true) a (subst (λ l. is_less (slice_cmp nat_cmp (string_key p.strings n) l) ≡ true) b less)
