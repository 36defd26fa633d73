-- A type is under another by numbers just where it is by names.
use Rattle.std.proofs.Common.{◌≡◌, ℕ, zero, suc, ◌+◌, ◌-◌, ◌<◌, ◌≤◌, inl, inr, Bool, true, false, true≢false, nat_eq, List, [], ◌∷◌, ◌++◌, map, length, replicate, Some, None, refl, sym, ap, subst, ◌∙◌, arith}
use Rattle.std.specs.Prelude.{◌&&◌, ◌||◌, not, cond, find, slice_get, Contains, vec_len}
use Rattle.std.specs.List.{list_all, list_any}
use Rattle.program_model.specs.declared.program.Class.{Class}
use Rattle.program_model.specs.declared.program.Program.{Program}
use Rattle.program_model.specs.ProgramRules.{is_well_formed}
use Rattle.program_model.specs.Texts.{type_text as program_type_text}
use Rattle.program_model.specs.MemberRules.{class_fits, types_of_class_fit, is_class_type, is_object}
use Rattle.class_defs.proofs.Positions.{same_test, position_none}
use Rattle.class_defs.proofs.WellFormed.{and_left, and_right, all_at, sound}
use Rattle.dalvik_defs.specs.Names.{Text, text_eq, is_array, is_reference, object_type}
use Rattle.dalvik_defs.specs.Known.{known_rows}
use Rattle.dalvik_defs.specs.Naming.{type_at, named_class, named}
use Rattle.dalvik_defs.specs.Under.{class_named, row_named, directly_above, above_in, above_row, walks, walk_bound, class_under, under_types, is_under}
use Rattle.dalvik_defs.specs.declared.tables.Framework.{Framework}
use Rattle.dalvik_lookups.specs.declared.types.Kind.{Kind}
use Rattle.dalvik_lookups.specs.declared.types.Types.{Types}
use Rattle.dalvik_lookups.specs.declared.graph.Above.{Above}
use Rattle.dalvik_lookups.specs.declared.lookups.Lookups.{Lookups}
use Rattle.dalvik_lookups.specs.Views.{names_of, name_at, type_text, StandOnce, IsKind}
use Rattle.dalvik_lookups.specs.Tables.{row_at, Stand, AreAbove, IsRight}
use Rattle.dalvik_lookups.specs.declared.memo.Memo.{Memo}
use Rattle.dalvik_lookups.specs.Walks.{Climbs, IsInside, IsClean, IsKept, AreFound, AreFromSuper, KeepsUnder}
use Rattle.hierarchy.specs.Walking.{IsFair}
use Rattle.dalvik_lookups.proofs.Interned.{text_same, text_sound, got_short, entry_in, entry_is}
use Rattle.dalvik_lookups.proofs.Descriptors.{same_kind}
use Rattle.dalvik_lookups.proofs.Inside.{none_in, first_in, later_in, only_in, first_or}
use Rattle.dalvik_lookups.proofs.Paths.{Path, every, left, left_all, Bounded, walk_of, walk_self, path_of}
use Rattle.dalvik_lookups.proofs.Placed.{types_fit, type_same, position_nowhere, not_zero}
use Rattle.dalvik_lookups.proofs.Standing.{no_class}

-- ---- types that have others above them

pub keys_of : Program → Framework → List Text
keys_of p f = map (λ c. type_at p c.name) p.classes ++ (map (λ r. r.name) (known_rows ++ f.rows) ++ [])

none_find : {A : Type 0} (g : A → Text) (xs : List A) (ys : List Text) (s : Text) → list_any (λ k. text_eq k s) (map g xs ++ ys) ≡ false → (find (λ a. text_eq (g a) s) xs ≡ None) × (list_any (λ k. text_eq k s) ys ≡ false)
none_find g [] ys s e = (refl, e)
none_find g (x ∷ xs) ys s e = by (text_eq (g x) s) e (none_find g xs ys s)
  where
    by : (b : Bool) → (b || list_any (λ k. text_eq k s) (map g xs ++ ys)) ≡ false → (list_any (λ k. text_eq k s) (map g xs ++ ys) ≡ false → (find (λ a. text_eq (g a) s) xs ≡ None) × (list_any (λ k. text_eq k s) ys ≡ false))
        → (cond b (Some x) (find (λ a. text_eq (g a) s) xs) ≡ None) × (list_any (λ k. text_eq k s) ys ≡ false)
    by true e more = absurd (true≢false e)
    by false e more = more e

long_names : {A : Type 0} (g : A → Text) (xs : List A) (ys : List Text) → length (map g xs ++ ys) ≡ length xs + length ys
long_names g [] ys = omega arith
long_names g (x ∷ xs) ys = let h = long_names g xs ys in omega (arith, h)

long_map : {A B : Type 0} (g : A → B) (xs : List A) → length (map g xs) ≡ length xs
long_map g [] = refl
long_map g (x ∷ xs) = ap suc (long_map g xs)

-- no class is Object
class_other : (p : Program) (c : Class) → types_of_class_fit p c ≡ true → text_eq (type_at p c.name) object_type ≡ false
unfolding types_of_class_fit
class_other p c h =
    let one = and_left (is_class_type p c.name && not (is_object (program_type_text p c.name))) (is_class_type p c.superclass && list_all (is_class_type p) c.interfaces) h in
    ap (λ t. text_eq t object_type) (type_same p c.name) ∙ off (is_object (program_type_text p c.name)) (and_right (is_class_type p c.name) (not (is_object (program_type_text p c.name))) one)
  where
    off : (b : Bool) → not b ≡ true → b ≡ false
    off true e = sym e
    off false e = refl

object_free : (p : Program) → is_well_formed p ≡ true → class_named (named p) object_type ≡ None
object_free p w = no_class p object_type (position_nowhere (λ c. text_eq (type_at p c.name) object_type) p.classes (λ i c e. class_other p c (types_fit p c (all_at (class_fits p) p.classes i c (sound p w).classes_fit e))))

bounded : (p : Program) (f : Framework) → is_well_formed p ≡ true → Bounded (directly_above (named p) f) (keys_of p f) object_type
unfolding keys_of
bounded p f w = record { outside = outside; nothing = nothing }
  where
    plain : (s u : Text) (b : Bool) → row_named f s ≡ None → Contains (elim b as (λ b. List Text) [ true ↦ [] | false ↦ above_row (named p) s (row_named f s) ]) u → u ≡ object_type
    plain s u true e c = absurd (none_in u c)
    plain s u false e c = sym (only_in object_type u (subst (λ o. Contains (above_row (named p) s o) u) e c))

    outside : (s u : Text) → list_any (λ k. text_eq k s) (map (λ c. type_at p c.name) p.classes ++ (map (λ r. r.name) (known_rows ++ f.rows) ++ [])) ≡ false → Contains (directly_above (named p) f s) u → u ≡ object_type
    outside s u e c =
        let a = none_find (λ c. type_at p c.name) p.classes (map (λ r. r.name) (known_rows ++ f.rows) ++ []) s e in
        let b = none_find (λ r. r.name) (known_rows ++ f.rows) [] s a.1 in
        plain s u (text_eq s object_type) b.0 (subst (λ o. Contains (above_in (named p) f s o) u) (no_class p s (position_none (λ c. text_eq (type_at p c.name) s) p.classes a.0)) c)

    nothing : (u : Text) → Contains (directly_above (named p) f object_type) u → ⊥
    nothing u c = none_in u (subst (λ o. Contains (above_in (named p) f object_type o) u) (object_free p w) c)

under_of : (p : Program) (f : Framework) → is_well_formed p ≡ true → (s t : Text) → Path (directly_above (named p) f) every s t → class_under (named p) f s t ≡ true
unfolding keys_of
under_of p f w s t path =
    let all : left every (keys_of p f) ≡ length (keys_of p f) = left_all (keys_of p f) in
    let long : length (keys_of p f) ≡ length p.classes + length (map (λ r. r.name) (known_rows ++ f.rows) ++ []) = long_names (λ c. type_at p c.name) p.classes (map (λ r. r.name) (known_rows ++ f.rows) ++ []) in
    let long' : length (map (λ r. r.name) (known_rows ++ f.rows) ++ []) ≡ length (known_rows ++ f.rows) + 0 = long_names (λ r. r.name) (known_rows ++ f.rows) [] in
    let classes : length (map (named_class p) p.classes) ≡ length p.classes = long_map (named_class p) p.classes in
    let bound : suc (length p.classes + (length (known_rows ++ f.rows) + 1)) ≡ walk_bound (named p) f = omega (arith, classes) in
    subst (λ n. walks (directly_above (named p) f) n s t ≡ true) bound
    (walk_of (directly_above (named p) f) (keys_of p f) object_type (bounded p f w) (length p.classes + (length (known_rows ++ f.rows) + 1)) every s t (omega (arith, all, long, long')) path)

-- ---- walks by numbers and by names

record Up (ts : List Text) (xs : List Text) (k : ℕ) : Type 0 where
  pub text : Text
  pub is : slice_get ts k ≡ Some text
  pub is_in : Contains xs text

stand_up : (ts : List Text) (ns : List ℕ) (xs : List Text) (k : ℕ) → map (slice_get ts) ns ≡ map (λ x. Some x) xs → Contains ns k → Up ts xs k
stand_up ts [] xs k e c = absurd (none_in k c)
stand_up ts (n ∷ ns) [] k e c = cc
stand_up ts (n ∷ ns) (x ∷ xs) k e c = elim (first_or n ns k c) [
  | inl s ↦ record { text = x; is = ap (slice_get ts) (sym s) ∙ head; is_in = first_in x xs }
  | inr d ↦ let r = stand_up ts ns xs k tail d in record { text = r.text; is = r.is; is_in = later_in x xs r.text r.is_in }
]
  where
    head : slice_get ts n ≡ Some x
    head = cc

    tail : map (slice_get ts) ns ≡ map (λ x. Some x) xs
    tail = cc

record Down (ts : List Text) (ns : List ℕ) (u : Text) : Type 0 where
  pub number : ℕ
  pub is : slice_get ts number ≡ Some u
  pub is_in : Contains ns number

stand_down : (ts : List Text) (ns : List ℕ) (xs : List Text) (u : Text) → map (slice_get ts) ns ≡ map (λ x. Some x) xs → Contains xs u → Down ts ns u
stand_down ts ns [] u e c = absurd (none_in u c)
stand_down ts [] (x ∷ xs) u e c = cc
stand_down ts (n ∷ ns) (x ∷ xs) u e c = elim (first_or x xs u c) [
  | inl s ↦ record { number = n; is = head ∙ ap (λ z. Some z) s; is_in = first_in n ns }
  | inr d ↦ let r = stand_down ts ns xs u tail d in record { number = r.number; is = r.is; is_in = later_in n ns r.number r.is_in }
]
  where
    head : slice_get ts n ≡ Some x
    head = cc

    tail : map (slice_get ts) ns ≡ map (λ x. Some x) xs
    tail = cc

same_text : (ts : List Text) (n : ℕ) (x y : Text) → slice_get ts n ≡ Some x → slice_get ts n ≡ Some y → x ≡ y
same_text ts n x y e f = sym (entry_is ts n x e) ∙ entry_is ts n y f

climbs_path : (ts : List Text) (a : Above) (up : Text → List Text) → ((n : ℕ) (x : Text) → slice_get ts n ≡ Some x → Stand ts (row_at a n) (up x)) → (n m : ℕ) → Climbs a n m → (x y : Text) → slice_get ts n ≡ Some x → slice_get ts m ≡ Some y → Path up every x y
climbs_path ts a up stand n m (Climbs.Itself k) x y e f = subst (Path up every x) (same_text ts k x y e f) (Path.Itself x)
climbs_path ts a up stand n m (Climbs.Through k next top c more) x y e f =
    let r = stand_up ts (row_at a k) (up x) next (stand k x e).at c in
    Path.Through x r.text y refl r.is_in (climbs_path ts a up stand next top more r.text y r.is f)

path_climbs : (ts : List Text) (a : Above) (up : Text → List Text) → StandOnce ts → ((n : ℕ) (x : Text) → slice_get ts n ≡ Some x → Stand ts (row_at a n) (up x)) → (x y : Text) → Path up every x y → (n m : ℕ) → slice_get ts n ≡ Some x → slice_get ts m ≡ Some y → Climbs a n m
path_climbs ts a up once stand x y (Path.Itself z) n m e f = subst (Climbs a n) (once.once n m z e f) (Climbs.Itself n)
path_climbs ts a up once stand x y (Path.Through z u w g c more) n m e f =
    let r = stand_down ts (row_at a n) (up z) u (stand n z e).at c in
    Climbs.Through n r.number m r.is_in (path_climbs ts a up once stand u w more r.number m r.is f)

pub rows_inside : (l : Lookups) → IsRight l → IsInside l.above (length (names_of l.types))
rows_inside l r = record {
  below = λ n u lt c. let q = stand_up (names_of l.types) (row_at l.above n) (directly_above (named l.program.now) l.framework.now (name_at l.types n)) u (r.above.above n (name_at l.types n) (entry_in (names_of l.types) n lt)).at c in got_short (names_of l.types) u q.text q.is;
}

pub base_right : (l : Lookups) → IsRight l → (lower upper : ℕ) → lower < length (names_of l.types) → upper < length (names_of l.types) → (r : Bool) → (r ≡ true → Climbs l.above lower upper) → (Climbs l.above lower upper → r ≡ true)
    → r ≡ class_under (named l.program.now) l.framework.now (name_at l.types lower) (name_at l.types upper)
base_right l r lower upper lt lt' answer so all =
    let up : Text → List Text = directly_above (named l.program.now) l.framework.now in
    let e = entry_in (names_of l.types) lower lt in
    let f = entry_in (names_of l.types) upper lt' in
    same_test answer (class_under (named l.program.now) l.framework.now (name_at l.types lower) (name_at l.types upper))
    (λ h. under_of l.program.now l.framework.now r.well (name_at l.types lower) (name_at l.types upper) (climbs_path (names_of l.types) l.above (directly_above (named l.program.now) l.framework.now) r.above.above lower upper (so h) (name_at l.types lower) (name_at l.types upper) e f))
    (λ h. all (path_climbs (names_of l.types) l.above (directly_above (named l.program.now) l.framework.now) r.tabled.named.types.kept.once r.above.above (name_at l.types lower) (name_at l.types upper)
    (path_of (directly_above (named l.program.now) l.framework.now) (walk_bound (named l.program.now) l.framework.now) (name_at l.types lower) (name_at l.types upper) h) lower upper e f))

-- ---- arrays

module _ (under : Text → Text → Bool) where
  pub none_under : (s t : Text) → s ≡ [] → under_types under s t ≡ false
  none_under s t e = ap (λ u. under_types under u t) e

  pub under_none : (s t : Text) → t ≡ [] → under_types under s t ≡ false
  under_none s t e = ap (under_types under s) e ∙ by s
    where
      by : (s : Text) → under_types under s [] ≡ false
      by [] = refl
      by (u ∷ s) = refl

  -- no class is under an array
  pub class_array : (s t : Text) → is_array s ≡ false → is_array t ≡ true → under_types under s t ≡ false
  class_array [] t e f = refl
  class_array (u ∷ s) [] e f = refl
  class_array (u ∷ s) (v ∷ t) e f =
      ap (λ b. elim b as (λ b. Bool) [ false ↦ not (is_array (v ∷ t)) && under (u ∷ s) (v ∷ t) | true ↦ text_eq (u ∷ s) (v ∷ t) || text_eq (v ∷ t) object_type || (is_array (v ∷ t) && is_reference s && is_reference t && under_types under s t) ]) e
      ∙ ap (λ b. not b && under (u ∷ s) (v ∷ t)) f

  -- an array is under no class but Object
  pub array_class : (s t : Text) → is_array t ≡ false → under_types under (91 ∷ s) t ≡ text_eq t object_type
  array_class s [] e = refl
  array_class s (v ∷ t) e =
      ap (λ b. text_eq (91 ∷ s) (v ∷ t) || text_eq (v ∷ t) object_type || (b && is_reference s && is_reference t && under_types under s t)) e
      ∙ ap (λ b. b || text_eq (v ∷ t) object_type || false) (differs (text_eq (91 ∷ s) (v ∷ t)) refl)
      ∙ or_false (text_eq (v ∷ t) object_type)
    where
      differs : (b : Bool) → text_eq (91 ∷ s) (v ∷ t) ≡ b → b ≡ false
      differs false h = refl
      differs true h = absurd (true≢false (sym (ap is_array (sym (text_sound (91 ∷ s) (v ∷ t) h))) ∙ e))

      or_false : (b : Bool) → (b || false) ≡ b
      or_false true = refl
      or_false false = refl

  -- what is no array and not empty
  pub class_class : (s t : Text) → is_array s ≡ false → is_array t ≡ false → nat_eq (length s) 0 ≡ false → nat_eq (length t) 0 ≡ false → under_types under s t ≡ under s t
  class_class [] t e f h k = absurd (true≢false h)
  class_class (u ∷ s) [] e f h k = absurd (true≢false k)
  class_class (u ∷ s) (v ∷ t) e f h k =
      ap (λ b. elim b as (λ b. Bool) [ false ↦ not (is_array (v ∷ t)) && under (u ∷ s) (v ∷ t) | true ↦ text_eq (u ∷ s) (v ∷ t) || text_eq (v ∷ t) object_type || (is_array (v ∷ t) && is_reference s && is_reference t && under_types under s t) ]) e
      ∙ ap (λ b. not b && under (u ∷ s) (v ∷ t)) f

  -- a type is under itself
  pub self_under : ((t : Text) → under t t ≡ true) → (t : Text) → under_types under t t ≡ not (nat_eq (length t) 0)
  self_under self [] = refl
  self_under self (u ∷ s) = by (is_array (u ∷ s)) refl ∙ sym (full s)
    where
      full : (s : Text) → not (nat_eq (suc (length s)) 0) ≡ true
      full s = ap not (not_zero (suc (length s)) (length s) refl)

      by : (b : Bool) → is_array (u ∷ s) ≡ b → elim b as (λ b. Bool) [ false ↦ not (is_array (u ∷ s)) && under (u ∷ s) (u ∷ s) | true ↦ text_eq (u ∷ s) (u ∷ s) || text_eq (u ∷ s) object_type || (is_array (u ∷ s) && is_reference s && is_reference s && under_types under s s) ] ≡ true
      by false e = ap (λ b. not b && under (u ∷ s) (u ∷ s)) e ∙ self (u ∷ s)
      by true e = ap (λ b. b || text_eq (u ∷ s) object_type || (is_array (u ∷ s) && is_reference s && is_reference s && under_types under s s)) (text_same (u ∷ s))

  same_inside : (k : ℕ) (s t : Text) → text_eq (replicate k 91 ++ s) (replicate k 91 ++ t) ≡ text_eq s t
  same_inside zero s t = refl
  same_inside (suc k) s t = same_inside k s t

  -- arrays of so many brackets more of types that differ
  pub shared_under : (k : ℕ) (s t : Text) → text_eq s t ≡ false → under_types under (replicate (suc k) 91 ++ s) (replicate (suc k) 91 ++ t) ≡ ((is_reference s && is_reference t) && under_types under s t)
  shared_under zero s t e = ap (λ b. b || false || ((is_reference s && is_reference t) && under_types under s t)) e
  shared_under (suc k) s t e = ap (λ b. b || false || under_types under (replicate (suc k) 91 ++ s) (replicate (suc k) 91 ++ t)) (same_inside (suc k) s t ∙ e) ∙ shared_under k s t e

  pub split_under : (k : ℕ) (s t : Text) → text_eq s t ≡ false → under_types under (replicate k 91 ++ s) (replicate k 91 ++ t) ≡ ((nat_eq k 0 || (is_reference s && is_reference t)) && under_types under s t)
  split_under zero s t e = refl
  split_under (suc k) s t e = shared_under k s t e ∙ sym (ap (λ b. (b || (is_reference s && is_reference t)) && under_types under s t) (not_zero (suc k) k refl))

-- ---- types by their numbers

replicate_more : (k d : ℕ) (x : Text) → replicate (k + d) 91 ++ x ≡ replicate k 91 ++ (replicate d 91 ++ x)
replicate_more zero d x = ap (λ n. replicate n 91 ++ x) (let e : 0 + d ≡ d = omega arith in e)
replicate_more (suc k) d x = ap (λ n. replicate n 91 ++ x) (let e : suc k + d ≡ suc (k + d) = omega arith in e) ∙ ap (λ u. 91 ∷ u) (replicate_more k d x)

-- a type without so many of its brackets
pub inside_text : (l : Lookups) (kind low : Kind) (k : ℕ) → k ≤ kind.depth → low.base ≡ kind.base → low.depth ≡ kind.depth - k → type_text l.types kind ≡ replicate k 91 ++ type_text l.types low
inside_text l kind low k le base depth =
    ap (λ n. replicate n 91 ++ name_at l.types kind.base) (let e : kind.depth ≡ k + low.depth = omega (arith, le, depth) in e)
    ∙ replicate_more k low.depth (name_at l.types kind.base)
    ∙ ap (λ n. replicate k 91 ++ (replicate low.depth 91 ++ name_at l.types n)) (sym base)

pub texts_differ : (l : Lookups) → IsRight l → (lower upper low high : Kind) (k : ℕ) → IsKind l.types lower → IsKind l.types upper → (lower ≡ upper → ⊥) → type_text l.types lower ≡ replicate k 91 ++ type_text l.types low → type_text l.types upper ≡ replicate k 91 ++ type_text l.types high
    → text_eq (type_text l.types low) (type_text l.types high) ≡ false
texts_differ l r lower upper low high k h h' differ e e' = by (text_eq (type_text l.types low) (type_text l.types high)) refl
  where
    by : (b : Bool) → text_eq (type_text l.types low) (type_text l.types high) ≡ b → b ≡ false
    by false f = refl
    by true f = absurd (differ (same_kind l.types r.tabled.named.types lower upper h h' (e ∙ ap (λ u. replicate k 91 ++ u) (text_sound (type_text l.types low) (type_text l.types high) f) ∙ sym e')))

pub plain_text : (l : Lookups) (k : Kind) → k.depth ≡ 0 → type_text l.types k ≡ name_at l.types k.base
plain_text l k e = ap (λ n. replicate n 91 ++ name_at l.types k.base) e

pub bare_text : (l : Lookups) (k : Kind) → IsKind l.types k → k.depth ≡ 0 → is_array (type_text l.types k) ≡ false
bare_text l k h e = ap is_array (plain_text l k e) ∙ h.bare

-- an array's text
pub array_text : (l : Lookups) (k : Kind) (u : Text → Bool) (b : Bool) → (k.depth ≡ 0 → ⊥) → ((s : Text) → u (91 ∷ s) ≡ b) → u (type_text l.types k) ≡ b
array_text l k u b f h = by k.depth refl
  where
    by : (d : ℕ) → k.depth ≡ d → u (type_text l.types k) ≡ b
    by zero e = absurd (f e)
    by (suc d) e = ap (λ n. u (replicate n 91 ++ name_at l.types k.base)) e ∙ h (replicate d 91 ++ name_at l.types k.base)

-- ---- what is kept

-- after a walk up that leaves no mark
pub kept_marks : (l : Lookups) (m mid : Memo) → IsKept l m → vec_len mid.marks.marks ≡ vec_len m.marks.marks → IsClean mid.marks → mid.under ≡ m.under → mid.walk ≡ m.walk → mid.virtual_calls ≡ m.virtual_calls → mid.super_calls ≡ m.super_calls → IsKept l mid
kept_marks l m mid k size clean same walks calls supers = record {
  fair = subst IsFair (sym walks) k.fair;
  long = ap (λ w. length w.seen.items) walks ∙ k.long;
  virtuals = subst (λ v. AreFound l v.items) (sym calls) k.virtuals;
  supers = subst (λ v. AreFromSuper l.program.now v.items) (sym supers) k.supers;
  size = size ∙ k.size;
  clean = clean;
  under = λ u a e. k.under u a (sym (ap (λ v. slice_get v.items u) same) ∙ e);
}

pub kept_more : (l : Lookups) (m mid new : Memo) (lower upper : ℕ) (answer : Bool) → IsKept l m → vec_len mid.marks.marks ≡ vec_len m.marks.marks → IsClean mid.marks → mid.under ≡ m.under → mid.walk ≡ m.walk → mid.virtual_calls ≡ m.virtual_calls → mid.super_calls ≡ m.super_calls → KeepsUnder mid new lower upper answer
    → answer ≡ class_under (named l.program.now) l.framework.now (name_at l.types lower) (name_at l.types upper) → IsKept l new
kept_more l m mid new lower upper answer k size clean same walks calls supers keeps is = record {
  fair = subst IsFair (sym (keeps.walk ∙ walks)) k.fair;
  long = ap (λ w. length w.seen.items) (keeps.walk ∙ walks) ∙ k.long;
  virtuals = subst (λ v. AreFound l v.items) (sym (keeps.virtuals ∙ calls)) k.virtuals;
  supers = subst (λ v. AreFromSuper l.program.now v.items) (sym (keeps.supers ∙ supers)) k.supers;
  size = ap (λ w. vec_len w.marks) keeps.marks ∙ size ∙ k.size;
  clean = subst IsClean (sym keeps.marks) clean;
  under = λ u a e. elim (keeps.under u a e) [
    | inl f ↦ k.under u a (sym (ap (λ v. slice_get v.items u) same) ∙ f)
    | inr f ↦ ap (λ q. q.answer) f.1 ∙ is ∙ sym (ap (λ q. class_under (named l.program.now) l.framework.now (name_at l.types q.lower) (name_at l.types upper)) f.1) ∙ sym (ap (λ v. class_under (named l.program.now) l.framework.now (name_at l.types a.lower) (name_at l.types v)) f.0)
  ];
}

-- the tables over names have what stands above the types of the names
pub above_over : (p : Program) (f : Framework) (t : Types) (a : Above) (l : Lookups) → AreAbove p f t a → l.program.now ≡ p → l.framework.now ≡ f → l.types ≡ t → l.above ≡ a → AreAbove l.program.now l.framework.now l.types l.above
above_over p f t a l h ep ef et ea =
    subst (λ q. AreAbove q l.framework.now l.types l.above) (sym ep)
    (subst (λ g. AreAbove p g l.types l.above) (sym ef)
    (subst (λ u. AreAbove p f u l.above) (sym et)
    (subst (AreAbove p f t) (sym ea) h)))

-- types of which both have so many brackets more than others
pub whole_under : (l : Lookups) → IsRight l → (lower upper low high : Kind) (k : ℕ) → IsKind l.types lower → IsKind l.types upper → (lower ≡ upper → ⊥) → k ≤ lower.depth → k ≤ upper.depth
    → low.base ≡ lower.base → low.depth ≡ lower.depth - k → high.base ≡ upper.base → high.depth ≡ upper.depth - k
    → is_under (named l.program.now) l.framework.now (type_text l.types lower) (type_text l.types upper)
    ≡ ((nat_eq k 0 || (is_reference (type_text l.types low) && is_reference (type_text l.types high))) && is_under (named l.program.now) l.framework.now (type_text l.types low) (type_text l.types high))
whole_under l r lower upper low high k h h' differ le le' base depth base' depth' =
    let e : type_text l.types lower ≡ replicate k 91 ++ type_text l.types low = inside_text l lower low k le base depth in
    let e' : type_text l.types upper ≡ replicate k 91 ++ type_text l.types high = inside_text l upper high k le' base' depth' in
    ap (λ u. is_under (named l.program.now) l.framework.now u (type_text l.types upper)) e
    ∙ ap (λ u. is_under (named l.program.now) l.framework.now (replicate k 91 ++ type_text l.types low) u) e'
    ∙ split_under (class_under (named l.program.now) l.framework.now) k (type_text l.types low) (type_text l.types high) (texts_differ l r lower upper low high k h h' differ e e')

-- a type under itself
pub same_under : (l : Lookups) (lower upper : Kind) → lower ≡ upper → not (nat_eq (length (type_text l.types lower)) 0) ≡ is_under (named l.program.now) l.framework.now (type_text l.types lower) (type_text l.types upper)
same_under l lower upper e =
    sym (self_under (class_under (named l.program.now) l.framework.now) (λ t. walk_self (directly_above (named l.program.now) l.framework.now) (walk_bound (named l.program.now) l.framework.now) t) (type_text l.types lower))
    ∙ ap (λ k. is_under (named l.program.now) l.framework.now (type_text l.types lower) (type_text l.types k)) e
