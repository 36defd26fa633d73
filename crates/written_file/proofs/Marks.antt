-- The annotations that are written are those of the written program, in its order.
use Rattle.std.proofs.Common.{◌≡◌, ◌<◌, ◌≤◌, ◌+◌, inl, inr, ℕ, suc, Bool, true, false, List, [], ◌∷◌, ◌++◌, map, refl, sym, ap, subst, ◌∙◌, arith, append-nil, Option, Some, None, ltb-true}
use Rattle.std.specs.Prelude.{nat_eq, nat_lt, slice_get}
use Rattle.std.specs.List.{flat_map, list_all, AllByRecursion}
use Rattle.std.proofs.lemmas.Bool.{and_parts, eqb-false, ltb-false, lt-ltb}
use Rattle.lemmas.proofs.Lists.{get_map}
use Rattle.lemmas.proofs.Options.{before_map}
use Rattle.lemmas.proofs.Bools.{neither_of}
use Rattle.code_write.specs.Pairs.{Numbered, in_order}
use Rattle.dex_pools.specs.declared.used.Named.{Named}
use Rattle.dex_pools.specs.declared.used.Named.TheVariants as named
use Rattle.dex_pools.specs.Used.{names_of_value, names_of_element, names_of_note, element_names, note_names, mark_names}
use Rattle.dex_pools.specs.Finds.{Ascends}
use Rattle.dex_pools.specs.Marks.{mark_below}
use Rattle.dex_pools.specs.Value.{element_below}
use Rattle.dex_pools.specs.Written.{renumbered, mark_text}
use Rattle.program_model.specs.declared.pass.Renumber.{Renumber}
use Rattle.program_model.specs.declared.program.Program.{Program}
use Rattle.program_model.specs.declared.value.EncValue.{EncValue}
use Rattle.program_model.specs.declared.value.Element.{Element}
use Rattle.program_model.specs.declared.value.Note.{Note, Note-F, out-Note, roll-Note, out-roll-Note, fold_out-Note}
use Rattle.program_model.specs.declared.value.Mark.{Mark}
use Rattle.program_model.specs.Neighbours.{neighbours}
use Rattle.program_model.specs.Texts.{has_string}
use Rattle.program_model.specs.ValueRules.{mark_fits, typed_in_order, marks_fit}
use Rattle.dex_write.specs.Plans.{spot}
use Rattle.dex_write.specs.Sets.{marks_from, mark_list, ordered_marks}
use Rattle.dex_defs.specs.Written.{new_string, new_type, new_layer, new_element, new_note, new_mark, new_marks}
use Rattle.dex_defs.specs.Written as written
use Rattle.dex_defs.specs.ValueTexts as texts
use Rattle.written_file.proofs.In.{In, in_got, Place, place_in, has_in, all_of}
use Rattle.written_file.proofs.Naming.{element_of, note_of}
use Rattle.written_file.proofs.Places.{has}
use Rattle.written_file.proofs.Sorting.{Differ}
use Rattle.written_file.proofs.Grouped.{group_from, Spot, plan_ordered, group_spots}
use Rattle.written_file.proofs.ValueTexts.{note_same}

abbrev pub class_of : Mark → ℕ
class_of m = (out-Note m.note).class

new_class : (r : Renumber) (m : Mark) → class_of (new_mark r m) ≡ new_type r (class_of m)
new_class r m =
    let whole : note_of r m.note ≡ roll-Note (record { class = new_type r (class_of m); elements = written.in_order element_below (map (element_of r) (out-Note m.note).elements) }) = fold_out-Note EncValue Element Note (new_layer r) (new_element r) (new_note r) m.note in
    ap (λ (n : Note). (out-Note n).class) whole ∙ ap (λ (z : Note-F EncValue Element Note). z.class) (out-roll-Note (record { class = new_type r (class_of m); elements = written.in_order element_below (map (element_of r) (out-Note m.note).elements) }))

pub class_named : (m : Mark) → In (named.Kind (class_of m)) (mark_names m)
unfolding note_names element_names
class_named m = subst (λ l. In (named.Kind (class_of m)) l) (sym (fold_out-Note (List Named) (List Named) (List Named) names_of_value names_of_element names_of_note m.note)) (inl refl)

-- ---- lists in order

insert_all : {X : Type 0} (P : X → Type 0) (below : X → X → Bool) (x : X) (ys : List X) → P x → AllByRecursion P ys → AllByRecursion P (written.insert below x ys)
insert_all P below x [] h all = (h, tt)
insert_all P below x (y ∷ ys) h all = by_test (below x y) refl (insert_all P below x ys h all.1)
  where
    by_test : (t : Bool) → below x y ≡ t → AllByRecursion P (written.insert below x ys) → AllByRecursion P (written.insert below x (y ∷ ys))
    by_test true t rest = rw t (h, all)
    by_test false t rest = rw t (all.0, rest)

order_all : {X : Type 0} (P : X → Type 0) (below : X → X → Bool) (xs : List X) → AllByRecursion P xs → AllByRecursion P (written.in_order below xs)
order_all P below [] all = tt
order_all P below (x ∷ xs) all = insert_all P below x (written.in_order below xs) all.0 (order_all P below xs all.1)

insert_map : {X Y : Type 0} (f : X → Y) (low : X → X → Bool) (below : Y → Y → Bool) → ((x y : X) → low x y ≡ below (f x) (f y)) → (x : X) (ys : List X) → map f (written.insert low x ys) ≡ written.insert below (f x) (map f ys)
insert_map f low below same x [] = refl
insert_map f low below same x (y ∷ ys) = by_test (low x y) refl (insert_map f low below same x ys)
  where
    by_test : (t : Bool) → low x y ≡ t → map f (written.insert low x ys) ≡ written.insert below (f x) (map f ys) → map f (written.insert low x (y ∷ ys)) ≡ written.insert below (f x) (map f (y ∷ ys))
    by_test true t e = let s : below (f x) (f y) ≡ true = sym (same x y) ∙ t in rw (t, s) refl
    by_test false t e = let s : below (f x) (f y) ≡ false = sym (same x y) ∙ t in rw (t, s) (ap (λ l. f y ∷ l) e)

order_map : {X Y : Type 0} (f : X → Y) (low : X → X → Bool) (below : Y → Y → Bool) → ((x y : X) → low x y ≡ below (f x) (f y)) → (xs : List X) → map f (written.in_order low xs) ≡ written.in_order below (map f xs)
order_map f low below same [] = refl
order_map f low below same (x ∷ xs) = insert_map f low below same x (written.in_order low xs) ∙ ap (λ l. written.insert below (f x) l) (order_map f low below same xs)

-- ---- lists that ascend by a number that differs

module _ {X : Type 0} (num : X → ℕ) where
  abbrev by_number : X → X → Bool
  by_number x y = nat_lt (num x) (num y)

  abbrev pub Strict : List X → Type 0
  Strict [] = Unit {0}
  Strict (x ∷ xs) = AllByRecursion (λ y. num x < num y) xs × Strict xs

  lower_all : (x y : X) (ys : List X) → num x < num y → AllByRecursion (λ z. num y < num z) ys → AllByRecursion (λ z. num x < num z) ys
  lower_all x y [] lt a = tt
  lower_all x y (z ∷ ys) lt a = (omega (arith, lt, a.0), lower_all x y ys lt a.1)

  insert_strict : (x : X) (ys : List X) → Strict ys → AllByRecursion (λ y. nat_eq (num x) (num y) ≡ false) ys → Strict (written.insert by_number x ys)
  insert_strict x [] s d = (tt, tt)
  insert_strict x (y ∷ ys) s d = by_test (nat_lt (num x) (num y)) refl (insert_strict x ys s.1 d.1)
    where
      by_test : (t : Bool) → nat_lt (num x) (num y) ≡ t → Strict (written.insert by_number x ys) → Strict (written.insert by_number x (y ∷ ys))
      by_test true t rest = let lt : num x < num y = ltb-true (num x) (num y) t in rw t ((lt, lower_all x y ys lt s.0), s)
      by_test false t rest =
          let other = eqb-false (num x) (num y) d.0 in
          let le : num y ≤ num x = ltb-false (num x) (num y) t in
          rw t (insert_all (λ z. num y < num z) by_number x ys (omega (arith, other, le)) s.0, rest)

  apart_from : (x : X) (ys : List X) → has (num x) (map num ys) ≡ false → AllByRecursion (λ y. nat_eq (num x) (num y) ≡ false) ys
  apart_from x [] h = tt
  apart_from x (y ∷ ys) h = let both = neither_of (nat_eq (num x) (num y)) (has (num x) (map num ys)) h in (both.0, apart_from x ys both.1)

  pub order_strict : (xs : List X) → Differ (map num xs) → Strict (written.in_order by_number xs)
  order_strict [] d = tt
  order_strict (x ∷ xs) d = insert_strict x (written.in_order by_number xs) (order_strict xs d.1) (order_all (λ y. nat_eq (num x) (num y) ≡ false) by_number xs (apart_from x xs d.0))

-- ---- types of a set

lower : (x y : Mark) (ns : List Mark) → class_of x < class_of y → AllByRecursion (λ z. class_of y < class_of z) ns → AllByRecursion (λ z. class_of x < class_of z) ns
lower x y [] low a = tt
lower x y (z ∷ ns) low a = (omega (arith, low, a.0), lower x y ns low a.1)

above_all : (x : Mark) (ms : List Mark) → list_all typed_in_order (neighbours (x ∷ ms)) ≡ true → AllByRecursion (λ y. class_of x < class_of y) ms
above_all x [] h = tt
above_all x (y ∷ ms) h =
    let both = and_parts (typed_in_order (x, y)) (list_all typed_in_order (neighbours (y ∷ ms))) h in
    let low : class_of x < class_of y = ltb-true (class_of x) (class_of y) both.0 in
    (low, lower x y ms low (above_all y ms both.1))

tail_in_order : (x : Mark) (ms : List Mark) → list_all typed_in_order (neighbours (x ∷ ms)) ≡ true → list_all typed_in_order (neighbours ms) ≡ true
tail_in_order x [] h = refl
tail_in_order x (y ∷ ms) h = (and_parts (typed_in_order (x, y)) (list_all typed_in_order (neighbours (y ∷ ms))) h).1

-- ---- a set in order

abbrev blank : Mark → Option Mark → Mark
blank d None = d
blank d (Some m) = m

none_grouped : (num : Mark → ℕ) (place : ℕ) (ms : List Mark) → group_from num (λ m. true) false place ms ≡ []
none_grouped num place [] = refl
none_grouped num place (m ∷ ms) = none_grouped num (suc place) ms

empty_order : in_order [] ≡ []
unfolding in_order
empty_order = refl

marks_grouped : (types : List ℕ) (place : ℕ) (ms : List Mark) → marks_from types place ms ≡ group_from (λ m. renumbered types (class_of m)) (λ m. true) true place ms
marks_grouped types place [] = refl
marks_grouped types place (m ∷ ms) = ap (λ (l : List Numbered). spot (renumbered types (class_of m)) place ∷ l) (marks_grouped types (suc place) ms)

listed : (num : Mark → ℕ) (ms : List Mark) (d : Mark) (xs : List Numbered) → AllByRecursion (Spot num (λ m. true) ms true) xs → flat_map (λ n. mark_list (slice_get ms n.1)) xs ≡ map (λ a. blank d (slice_get ms a.1)) xs
listed num ms d [] h = refl
listed num ms d (a ∷ xs) h = rw h.0.is (ap (λ (l : List Mark). h.0.x ∷ l) (listed num ms d xs h.1))

-- a set that is used
pub record IsFine (p : Program) (Used : ℕ → Type 0) (UsedKind : ℕ → Type 0) (ms : List Mark) : Type 0 where
  pub fits : marks_fit p ms ≡ true
  pub texts : (m : Mark) → In m ms → (n : ℕ) → In (named.Text n) (mark_names m) → Used n
  pub kinds : (m : Mark) → In m ms → UsedKind (class_of m)

module _ (p : Program) (r : Renumber) (Used : ℕ → Type 0) (UsedKind : ℕ → Type 0) (rises : (a b : ℕ) → Used a → Used b → has_string p a ≡ true → has_string p b ≡ true → nat_lt a b ≡ true → nat_lt (new_string r a) (new_string r b) ≡ true)
    (one : (a b : ℕ) → UsedKind a → UsedKind b → new_type r a ≡ new_type r b → a ≡ b) where
  abbrev num : Mark → ℕ
  num m = new_type r (class_of m)

  mark_same : (m : Mark) → mark_fits p m ≡ true → ((n : ℕ) → In (named.Text n) (mark_names m) → Used n) → texts.mark_text (new_mark r m) ≡ mark_text r m
  unfolding mark_fits
  mark_same m f u = ap (λ (t : List ℕ). m.visibility ∷ t) (note_same p r Used rises m.note 64 f u)

  types_differ : (ms : List Mark) → list_all typed_in_order (neighbours ms) ≡ true → ((m : Mark) → In m ms → UsedKind (class_of m)) → Differ (map num ms)
  types_differ [] o k = tt
  types_differ (x ∷ ms) o k = (by_test (has (num x) (map num ms)) refl, types_differ ms (tail_in_order x ms o) (λ m i. k m (inr i)))
    where
      by_test : (t : Bool) → has (num x) (map num ms) ≡ t → has (num x) (map num ms) ≡ false
      by_test true t =
          let at : Place (num x) (map num ms) = place_in (num x) (map num ms) (has_in (num x) (map num ms) t) in
          let old = before_map num (slice_get ms at.at) (num x) (sym (get_map num ms at.at) ∙ at.is) in
          let there : In old.0 ms = in_got ms at.at old.0 old.1.0 in
          let same : class_of x ≡ class_of old.0 = one (class_of x) (class_of old.0) (k x (inl refl)) (k old.0 (inr there)) (sym old.1.1) in
          let low : class_of x < class_of old.0 = below ms (above_all x ms o) old.0 there in
          absurd (omega (arith, same, low))
        where
          below : (ns : List Mark) → AllByRecursion (λ y. class_of x < class_of y) ns → (y : Mark) → In y ns → class_of x < class_of y
          below [] a y i = absurd i
          below (z ∷ ns) a y (inl e) = subst (λ w. class_of x < class_of w) e a.0
          below (z ∷ ns) a y (inr i) = below ns a.1 y i
      by_test false t = t

  abbrev low : Mark → Mark → Bool
  low x y = nat_lt (num x) (num y)

  ordered_are : (ms : List Mark) → Differ (map num ms) → ordered_marks r ms ≡ written.in_order low ms
  unfolding ordered_marks
  ordered_are [] d = ap (λ (l : List Numbered). flat_map (λ n. mark_list (slice_get [] n.1)) l) empty_order
  ordered_are (m ∷ ms) d =
      let all : List Mark = m ∷ ms in
      let got : (k : ℕ) (x : Mark) → slice_get all k ≡ Some x → blank m (slice_get all k) ≡ x = λ k x e. ap (blank m) e in
      let spots : AllByRecursion (Spot num (λ x. true) all true) (in_order (group_from num (λ x. true) true 0 all)) = group_spots num (λ x. true) all (λ k. blank m (slice_get all k)) got true in
      let whole : map (λ a. blank m (slice_get all a.1)) (in_order (group_from num (λ x. true) true 0 all) ++ in_order (group_from num (λ x. true) false 0 all)) ≡ written.in_order low all = plan_ordered num (λ x. true) all (λ k. blank m (slice_get all k)) got d in
      ap (λ (l : List Numbered). flat_map (λ n. mark_list (slice_get all n.1)) (in_order l)) (marks_grouped r.types.items 0 all)
      ∙ (listed num all m (in_order (group_from num (λ x. true) true 0 all)) spots
      ∙ (ap (λ (l : List Numbered). map (λ a. blank m (slice_get all a.1)) l) (sym (append-nil (in_order (group_from num (λ x. true) true 0 all))) ∙ ap (λ (l : List Numbered). in_order (group_from num (λ x. true) true 0 all) ++ l) (sym (nothing_ordered (group_from num (λ x. true) false 0 all) (none_grouped num 0 all))))
      ∙ whole))
    where
      nothing_ordered : (xs : List Numbered) → xs ≡ [] → in_order xs ≡ []
      nothing_ordered xs e = ap in_order e ∙ empty_order

  below_same : (x y : Mark) → low x y ≡ mark_below (new_mark r x) (new_mark r y)
  below_same x y = ap (λ (n : ℕ). nat_lt n (num y)) (sym (new_class r x)) ∙ ap (λ (n : ℕ). nat_lt (class_of (new_mark r x)) n) (sym (new_class r y))

  each_same : (ms : List Mark) → AllByRecursion (λ m. texts.mark_text (new_mark r m) ≡ mark_text r m) ms → map texts.mark_text (map (new_mark r) ms) ≡ map (mark_text r) ms
  each_same [] h = refl
  each_same (m ∷ ms) h = ap (λ (t : List ℕ). t ∷ map texts.mark_text (map (new_mark r) ms)) h.0 ∙ ap (λ (ts : List (List ℕ)). mark_text r m ∷ ts) (each_same ms h.1)

  pub fits_each : (ms : List Mark) → list_all (mark_fits p) ms ≡ true → (m : Mark) → In m ms → mark_fits p m ≡ true
  fits_each [] f m i = absurd i
  fits_each (x ∷ ms) f m (inl e) = subst (λ y. mark_fits p y ≡ true) e (and_parts (mark_fits p x) (list_all (mark_fits p) ms) f).0
  fits_each (x ∷ ms) f m (inr i) = fits_each ms (and_parts (mark_fits p x) (list_all (mark_fits p) ms) f).1 m i

  -- a set in the order of the new types, and its texts
  pub set_ordered : (ms : List Mark) → IsFine p Used UsedKind ms → new_marks r ms ≡ map (new_mark r) (ordered_marks r ms)
  unfolding marks_fit
  set_ordered ms fine =
      let both = and_parts (list_all (mark_fits p) ms) (list_all typed_in_order (neighbours ms)) fine.fits in
      sym (order_map (new_mark r) low mark_below below_same ms) ∙ ap (λ (l : List Mark). map (new_mark r) l) (sym (ordered_are ms (types_differ ms both.1 fine.kinds)))

  pub set_same : (ms : List Mark) → IsFine p Used UsedKind ms → map texts.mark_text (new_marks r ms) ≡ map (mark_text r) (ordered_marks r ms)
  unfolding marks_fit
  set_same ms fine =
      let both = and_parts (list_all (mark_fits p) ms) (list_all typed_in_order (neighbours ms)) fine.fits in
      let order : ordered_marks r ms ≡ written.in_order low ms = ordered_are ms (types_differ ms both.1 fine.kinds) in
      let each : AllByRecursion (λ m. texts.mark_text (new_mark r m) ≡ mark_text r m) (written.in_order low ms) = order_all (λ m. texts.mark_text (new_mark r m) ≡ mark_text r m) low ms (all_of (λ m. texts.mark_text (new_mark r m) ≡ mark_text r m) ms (λ m i. mark_same m (fits_each ms both.0 m i) (fine.texts m i))) in
      ap (λ (l : List Mark). map texts.mark_text l) (sym (order_map (new_mark r) low mark_below below_same ms))
      ∙ (each_same (written.in_order low ms) each ∙ ap (λ (l : List Mark). map (mark_text r) l) (sym order))

  strict_ascends : (ms : List Mark) → Strict num ms → Ascends mark_below (map (new_mark r) ms)
  strict_ascends [] s = tt
  strict_ascends (x ∷ []) s = tt
  strict_ascends (x ∷ y ∷ ms) s = (sym (below_same x y) ∙ lt-ltb (num x) (num y) s.0.0, strict_ascends (y ∷ ms) s.1)

  -- and it ascends
  pub set_ascends : (ms : List Mark) → IsFine p Used UsedKind ms → Ascends mark_below (new_marks r ms)
  unfolding marks_fit
  set_ascends ms fine =
      let both = and_parts (list_all (mark_fits p) ms) (list_all typed_in_order (neighbours ms)) fine.fits in
      subst (Ascends mark_below) (order_map (new_mark r) low mark_below below_same ms) (strict_ascends (written.in_order low ms) (order_strict num ms (types_differ ms both.1 fine.kinds)))

  map_both : {X Y : Type 0} (f : X → Y) (xs ys : List X) → map f (xs ++ ys) ≡ map f xs ++ map f ys
  map_both f [] ys = refl
  map_both f (x ∷ xs) ys = ap (λ l. f x ∷ l) (map_both f xs ys)

  pub sets_same : (mss : List (List Mark)) → AllByRecursion (IsFine p Used UsedKind) mss → flat_map (λ ms. map texts.mark_text (new_marks r ms)) mss ≡ map (mark_text r) (flat_map (ordered_marks r) mss)
  sets_same [] h = refl
  sets_same (ms ∷ mss) h =
      ap (λ (l : List (List ℕ)). l ++ flat_map (λ ns. map texts.mark_text (new_marks r ns)) mss) (set_same ms h.0)
      ∙ (ap (λ (l : List (List ℕ)). map (mark_text r) (ordered_marks r ms) ++ l) (sets_same mss h.1)
      ∙ sym (map_both (mark_text r) (ordered_marks r ms) (flat_map (ordered_marks r) mss)))
