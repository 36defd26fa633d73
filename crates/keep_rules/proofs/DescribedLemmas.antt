-- The classes in the descriptors of marked members.
use Rattle.std.proofs.Common.{◌≡◌, ℕ, ◌+◌, ◌<◌, ◌≤◌, Bool, true, false, true≢false, nat_eq, List, [], ◌∷◌, ◌++◌, length, drop, get_or, Some, None, refl, sym, ap, subst, ◌∙◌, arith}
use Rattle.std.specs.Prelude.{◌&&◌, ◌||◌, slice_get}
use Rattle.std.specs.List.{list_any}
use Rattle.std.specs.List.Sorted.{IsPermutation}
use Rattle.std.specs.HashMap.{HashMap}
use Rattle.std.proofs.Common.{Bor}
use Rattle.std.specs.Cmp.Lexicographic.{bytes_decides}
use Rattle.std.proofs.lemmas.List.{drop_more, drop_all}
use Rattle.std.proofs.lemmas.List.Sorted.{list_any-IsPermutation}
use Rattle.program_model.specs.declared.pools.FieldName.{FieldName}
use Rattle.program_model.specs.declared.pools.MethodName.{MethodName}
use Rattle.program_model.specs.declared.program.Class.{Class}
use Rattle.program_model.specs.declared.program.Program.{Program}
use Rattle.program_model.specs.Lookups.{class_place}
use Rattle.class_defs.proofs.Positions.{same_test, number_of, number_test, both}
use Rattle.class_defs.proofs.WellFormed.{Sound, and_left, and_right}
use Rattle.dalvik_defs.specs.Names.{Text, text_eq}
use Rattle.dalvik_defs.specs.Naming.{type_at, named}
use Rattle.dalvik_defs.specs.Under.{defines}
use Rattle.keep_rules.specs.Marks.{is_on}
use Rattle.keep_rules.specs.Table.{has}
use Rattle.keep_rules.specs.Grown.{Grew, Left}
use Rattle.keep_rules.specs.View.{IsTypes, kind_of}
use Rattle.keep_rules.specs.Described.{is_class_named, names_class, proto_names, method_names, field_names, class_names, has_both, Listed, ListsLeft, Pairs, PairsLeft}
use Rattle.keep_rules.proofs.GrownLemmas.{left_end}
use Rattle.keep_rules.proofs.AnyLemmas.{has_last}
use Rattle.keep_rules.proofs.PlaceLemmas.{undefined, defined_there}

-- ---- classes by their descriptors

module _ {S : Type 0} (p : Program) (s : Sound p) (types : HashMap (Bor (List ℕ)) ℕ S) (is : IsTypes p types) (n : ℕ) (h : n < length p.types) (t : Text) where
  unnamed : is_class_named p n t ≡ true → (defines (named p) (type_at p n) ≡ true) × (kind_of types t ≡ Some n)
  unnamed e = (
    and_left (defines (named p) (type_at p n)) (text_eq t (type_at p n)) e,
    ap (kind_of types) ((bytes_decides t (type_at p n)).0 (and_right (defines (named p) (type_at p n)) (text_eq t (type_at p n)) e)) ∙ is.whole n h,
  )

  pub class_unknown : kind_of types t ≡ None → is_class_named p n t ≡ false
  class_unknown e = same_test (is_class_named p n t) false (λ g. let x : None ≡ Some n = sym e ∙ (unnamed g).1 in cc) (λ g. absurd (true≢false (sym g)))

  pub class_outside : (m : ℕ) → kind_of types t ≡ Some m → class_place p m ≡ None → is_class_named p n t ≡ false
  class_outside m e f = same_test (is_class_named p n t) false
      (λ g. let r = unnamed g in
      let x : Some n ≡ Some m = sym r.1 ∙ e in
      let y : n ≡ m = cc in
      absurd (true≢false (sym r.0 ∙ undefined p s n h (ap (class_place p) y ∙ f)))) (λ g. absurd (true≢false (sym g)))

  pub class_found : (m place : ℕ) → kind_of types t ≡ Some m → class_place p m ≡ Some place → is_class_named p n t ≡ nat_eq n m
  class_found m place e f = same_test (is_class_named p n t) (nat_eq n m)
      (λ g. let x : Some n ≡ Some m = sym (unnamed g).1 ∙ e in let y : n ≡ m = cc in number_test n m y)
      (λ g. let y = number_of n m g in
      both (defines (named p) (type_at p n)) (text_eq t (type_at p n)) (defined_there p s n h place (ap (class_place p) y ∙ f)) ((bytes_decides t (type_at p n)).1 (sym (is.sound t m e).1 ∙ ap (type_at p) (sym y))))

-- ---- lists

or_none : (a : Bool) → (a || false) ≡ a
or_none true = refl
or_none false = refl

or_moved : (a b c : Bool) → ((a || b) || c) ≡ (a || (b || c))
or_moved true b c = refl
or_moved false b c = refl

pub listed_none : (p : Program) (t : ℕ → Bool) (old : List ℕ) → ((n : ℕ) → n < length p.types → t n ≡ false) → Listed p t old old
listed_none p t old e = record { is = λ n h. sym (ap (λ b. has old n || b) (e n h) ∙ or_none (has old n)) }

pub listed_one : (p : Program) (t : ℕ → Bool) (old new : List ℕ) (m : ℕ) → new ≡ old ++ m ∷ [] → ((n : ℕ) → n < length p.types → t n ≡ nat_eq n m) → Listed p t old new
listed_one p t old new m e is = record { is = λ n h. ap (λ l. has l n) e ∙ has_last old m n ∙ ap (λ b. has old n || b) (sym (is n h)) }

pub listed_as : (p : Program) (t u : ℕ → Bool) (old new : List ℕ) → ((n : ℕ) → n < length p.types → t n ≡ u n) → Listed p t old new → Listed p u old new
listed_as p t u old new e l = record { is = λ n h. l.is n h ∙ ap (λ b. has old n || b) (e n h) }

pub listed_then : (p : Program) (t u : ℕ → Bool) (old mid new : List ℕ) → Listed p t old mid → Listed p u mid new → Listed p (λ n. t n || u n) old new
listed_then p t u old mid new a b = record { is = λ n h. b.is n h ∙ ap (λ x. x || u n) (a.is n h) ∙ or_moved (has old n) (t n) (u n) }

pub lists_start : (p : Program) (all : ℕ → Bool) (old : List ℕ) → ListsLeft p all all old old
lists_start p all old = record { is = λ n h. refl }

-- a loop over entries, each of which adds what it names
module _ {A : Type 0} (p : Program) (f : ℕ → A → Bool) (xs : List A) (i : ℕ) where
  pub lists_more : (x : A) (old mid new : List ℕ) → i < length xs → x ≡ get_or xs i x → ListsLeft p (λ n. list_any (f n) (drop i xs)) (λ n. list_any (f n) xs) old mid → Listed p (λ n. f n x) mid new
      → ListsLeft p (λ n. list_any (f n) (drop (i + 1) xs)) (λ n. list_any (f n) xs) old new
  lists_more x old mid new h e l g = record {
    is = λ n k. ap (λ b. b || list_any (f n) (drop (i + 1) xs)) (g.is n k)
        ∙ or_moved (has mid n) (f n x) (list_any (f n) (drop (i + 1) xs))
        ∙ ap (λ b. has mid n || b) (ap (λ y. f n y || list_any (f n) (drop (i + 1) xs)) e ∙ sym (ap (list_any (f n)) (drop_more xs i x h)))
        ∙ l.is n k;
  }

  pub lists_end : (old new : List ℕ) → length xs ≤ i → ListsLeft p (λ n. list_any (f n) (drop i xs)) (λ n. list_any (f n) xs) old new → Listed p (λ n. list_any (f n) xs) old new
  lists_end old new h l = record { is = λ n k. sym (ap (λ b. has new n || b) (ap (list_any (f n)) (drop_all i xs h)) ∙ or_none (has new n)) ∙ l.is n k }

pub unmarked_lists : (p : Program) (marks : List Bool) (m : ℕ) (f : ℕ → Bool) (b : Bool) (old : List ℕ) → b ≡ is_on marks m → b ≡ false → Listed p (λ n. is_on marks m && f n) old old
unmarked_lists p marks m f b old e g = listed_none p (λ n. is_on marks m && f n) old (λ n h. ap (λ x. x && f n) (sym e ∙ g))

pub marked_lists : (p : Program) (marks : List Bool) (m : ℕ) (f : ℕ → Bool) (b : Bool) (old new : List ℕ) → b ≡ is_on marks m → b ≡ true → Listed p f old new → Listed p (λ n. is_on marks m && f n) old new
marked_lists p marks m f b old new e g l = listed_as p f (λ n. is_on marks m && f n) old new (λ n h. sym (ap (λ x. x && f n) (sym e ∙ g))) l

-- ---- marks

pub described_more : (p : Program) (fields methods : List Bool) (cs : List Class) (i : ℕ) (c : Class) (kinds : List ℕ) (old mid new : List Bool) → length old ≡ length p.types → i < length cs → c ≡ get_or cs i c
    → Left (λ n. list_any (λ c. class_names p fields methods c n) (drop i cs)) (λ n. list_any (λ c. class_names p fields methods c n) cs) old mid
    → Listed p (class_names p fields methods c) [] kinds → Grew (has kinds) mid new
    → Left (λ n. list_any (λ c. class_names p fields methods c n) (drop (i + 1) cs)) (λ n. list_any (λ c. class_names p fields methods c n) cs) old new
described_more p fields methods cs i c kinds old mid new size h e l k g = record {
  size = g.size ∙ l.size;
  is = λ n q. let inside : n < length mid = let z = l.size in omega (arith, q, z) in let fits : n < length p.types = omega (arith, q, size) in
      ap (λ b. b || list_any (λ c. class_names p fields methods c n) (drop (i + 1) cs)) (g.is n inside ∙ ap (λ b. is_on mid n || b) (k.is n fits))
      ∙ or_moved (is_on mid n) (class_names p fields methods c n) (list_any (λ c. class_names p fields methods c n) (drop (i + 1) cs))
      ∙ ap (λ b. is_on mid n || b) (ap (λ y. class_names p fields methods y n || list_any (λ c. class_names p fields methods c n) (drop (i + 1) cs)) e ∙ sym (ap (list_any (λ c. class_names p fields methods c n)) (drop_more cs i c h)))
      ∙ l.is n q;
}

pub described_end : (p : Program) (fields methods : List Bool) (cs : List Class) (i : ℕ) (old new : List Bool) → length cs ≤ i
    → Left (λ n. list_any (λ c. class_names p fields methods c n) (drop i cs)) (λ n. list_any (λ c. class_names p fields methods c n) cs) old new
    → Grew (λ n. list_any (λ c. class_names p fields methods c n) cs) old new
described_end p fields methods cs i old new h l = left_end (λ n. list_any (λ c. class_names p fields methods c n) (drop i cs)) (λ n. list_any (λ c. class_names p fields methods c n) cs) old new
    (λ n. ap (list_any (λ c. class_names p fields methods c n)) (drop_all i cs h)) l

-- ---- pairs

pub both_last : (pairs : List (ℕ × ℕ)) (a b n k : ℕ) → has_both (pairs ++ (a, b) ∷ []) n k ≡ (has_both pairs n k || (nat_eq n a && nat_eq k b))
both_last [] a b n k = or_none (nat_eq n a && nat_eq k b)
both_last (q ∷ qs) a b n k = ap (λ x. (nat_eq n q.0 && nat_eq k q.1) || x) (both_last qs a b n k) ∙ sym (or_moved (nat_eq n q.0 && nat_eq k q.1) (has_both qs n k) (nat_eq n a && nat_eq k b))

pub pairs_more : (ks : List ℕ) (i j owner n k : ℕ) (old mid new : List (ℕ × ℕ)) → i < length ks → j ≡ get_or ks i j → (has_both mid n k || (has (drop i ks) n && nat_eq k owner)) ≡ (has_both old n k || (has ks n && nat_eq k owner)) → new ≡ mid ++ (j, owner) ∷ []
    → (has_both new n k || (has (drop (i + 1) ks) n && nat_eq k owner)) ≡ (has_both old n k || (has ks n && nat_eq k owner))
pairs_more ks i j owner n k old mid new h e l s =
    ap (λ l. has_both l n k || (has (drop (i + 1) ks) n && nat_eq k owner)) s
    ∙ ap (λ b. b || (has (drop (i + 1) ks) n && nat_eq k owner)) (both_last mid j owner n k)
    ∙ joined (has_both mid n k) (nat_eq n j) (nat_eq k owner) (has (drop (i + 1) ks) n)
    ∙ ap (λ b. has_both mid n k || (b && nat_eq k owner)) (ap (λ x. nat_eq n x || has (drop (i + 1) ks) n) e ∙ sym (ap (λ l. has l n) (drop_more ks i j h)))
    ∙ l
  where
    joined : (a b c d : Bool) → ((a || (b && c)) || (d && c)) ≡ (a || ((b || d) && c))
    joined true b c d = refl
    joined false true true d = refl
    joined false true false true = refl
    joined false true false false = refl
    joined false false c d = refl

pub pairs_end : (ks : List ℕ) (i owner n k : ℕ) (old new : List (ℕ × ℕ)) → length ks ≤ i → (has_both new n k || (has (drop i ks) n && nat_eq k owner)) ≡ (has_both old n k || (has ks n && nat_eq k owner)) → has_both new n k ≡ (has_both old n k || (has ks n && nat_eq k owner))
pairs_end ks i owner n k old new h l = sym (ap (λ x. has_both new n k || (has x n && nat_eq k owner)) (drop_all i ks h) ∙ or_none (has_both new n k)) ∙ l

abbrev pub class_pairs : Program → List Bool → List Bool → List Class → ℕ → ℕ → Bool
class_pairs p fields methods cs n k = list_any (λ c. class_names p fields methods c n && nat_eq k c.name) cs

pub all_pairs_start : (p : Program) (all : ℕ → ℕ → Bool) (old : List (ℕ × ℕ)) → PairsLeft p all all old old
all_pairs_start p all old = record { are = λ n k h. refl }

pub all_pairs_more : (p : Program) (fields methods : List Bool) (cs : List Class) (i : ℕ) (c : Class) (kinds : List ℕ) (old mid new : List (ℕ × ℕ)) → i < length cs → c ≡ get_or cs i c
    → PairsLeft p (class_pairs p fields methods (drop i cs)) (class_pairs p fields methods cs) old mid → Listed p (class_names p fields methods c) [] kinds
    → ((n k : ℕ) → has_both new n k ≡ (has_both mid n k || (has kinds n && nat_eq k c.name)))
    → PairsLeft p (class_pairs p fields methods (drop (i + 1) cs)) (class_pairs p fields methods cs) old new
all_pairs_more p fields methods cs i c kinds old mid new h e l g s = record {
  are = λ n k q. ap (λ b. b || class_pairs p fields methods (drop (i + 1) cs) n k) (s n k ∙ ap (λ b. has_both mid n k || (b && nat_eq k c.name)) (g.is n q))
      ∙ or_moved (has_both mid n k) (class_names p fields methods c n && nat_eq k c.name) (class_pairs p fields methods (drop (i + 1) cs) n k)
      ∙ ap (λ b. has_both mid n k || b) (ap (λ y. (class_names p fields methods y n && nat_eq k y.name) || class_pairs p fields methods (drop (i + 1) cs) n k) e ∙ sym (ap (λ l. class_pairs p fields methods l n k) (drop_more cs i c h)))
      ∙ l.are n k q;
}

pub all_pairs_end : (p : Program) (fields methods : List Bool) (cs : List Class) (i : ℕ) (old new : List (ℕ × ℕ)) → length cs ≤ i → PairsLeft p (class_pairs p fields methods (drop i cs)) (class_pairs p fields methods cs) old new
    → Pairs p (class_pairs p fields methods cs) old new
all_pairs_end p fields methods cs i old new h l = record {
  are = λ n k q. sym (ap (λ b. has_both new n k || b) (ap (λ x. class_pairs p fields methods x n k) (drop_all i cs h)) ∙ or_none (has_both new n k)) ∙ l.are n k q;
}

pub pairs_sorted : (p : Program) (t : ℕ → ℕ → Bool) (xs ys : List (ℕ × ℕ)) → Pairs p t [] xs → IsPermutation xs ys → Pairs p t [] ys
pairs_sorted p t xs ys q moves = record { are = λ n k h. sym (list_any-IsPermutation (λ pair. nat_eq n pair.0 && nat_eq k pair.1) xs ys moves) ∙ q.are n k h }

-- ---- members by their names

pub method_named : (p : Program) (n m : ℕ) (q : MethodName) → Some q ≡ slice_get p.methods m → proto_names p n (slice_get p.protos q.proto) ≡ method_names p n m
method_named p n m q e = ap (λ o. elim o as (λ o. Bool) [ Some name ↦ proto_names p n (slice_get p.protos name.proto) | None ↦ false ]) e

pub method_unnamed : (p : Program) (n m : ℕ) → None ≡ slice_get p.methods m → method_names p n m ≡ false
method_unnamed p n m e = sym (ap (λ o. elim o as (λ o. Bool) [ Some name ↦ proto_names p n (slice_get p.protos name.proto) | None ↦ false ]) e)

pub field_named : (p : Program) (n f : ℕ) (q : FieldName) → Some q ≡ slice_get p.fields f → names_class p n q.kind ≡ field_names p n f
field_named p n f q e = ap (λ o. elim o as (λ o. Bool) [ Some name ↦ names_class p n name.kind | None ↦ false ]) e

pub field_unnamed : (p : Program) (n f : ℕ) → None ≡ slice_get p.fields f → field_names p n f ≡ false
field_unnamed p n f e = sym (ap (λ o. elim o as (λ o. Bool) [ Some name ↦ names_class p n name.kind | None ↦ false ]) e)

pub listed_from : (p : Program) (t : ℕ → Bool) (old new : List ℕ) → old ≡ [] → Listed p t old new → Listed p t [] new
listed_from p t old new e l = subst (λ xs. Listed p t xs new) e l
