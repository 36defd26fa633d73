-- Classes below what is asked for: what a search marks.
use Rattle.std.proofs.Common.{◌≡◌, ℕ, zero, suc, ◌+◌, ◌<◌, ◌≤◌, ◌⊎◌, inl, inr, Bool, true, false, true≢false, nat_eq, List, [], ◌∷◌, ◌++◌, length, map, set, take, get_or, append_assoc, Option, Some, None, refl, sym, ap, subst, ◌∙◌, arith, ltb-true}
use Rattle.std.specs.Prelude.{◌&&◌, ◌||◌, slice_get, nat_lt, option_and_then, replicate, if◌then◌else◌, Vec}
use Rattle.std.specs.List.{list_any, list_all, flat_map}
use Rattle.std.specs.Option.{option_map}
use Rattle.std.specs.declared.alloc.Global.{Global}
use Rattle.std.proofs.lemmas.Bool.{cases_lt}
use Rattle.std.proofs.lemmas.List.{append-nil, take_all, get_or-replicate, get_or_past, length-replicate}
use Rattle.std.proofs.lemmas.List.Folds.{list_any-append, list_any_more}
use Rattle.std.proofs.lemmas.Option.{slice_get_past}
use Rattle.program_model.specs.declared.program.Class.{Class}
use Rattle.program_model.specs.declared.program.Program.{Program}
use Rattle.program_model.specs.Lookups.{class_place}
use Rattle.program_model.specs.Texts.{has_type}
use Rattle.class_defs.specs.Places.{super_place, placed, places_of, listed, interface_places}
use Rattle.class_defs.proofs.Positions.{same_test, number_of}
use Rattle.class_defs.proofs.WellFormed.{Sound, class_parts, and_left, and_right, below}
use Rattle.dalvik_defs.specs.Names.{Text}
use Rattle.dalvik_defs.specs.Naming.{type_at, named_class, named}
use Rattle.dalvik_defs.specs.Under.{class_named, own_above}
use Rattle.dalvik_defs.specs.declared.program.NamedClass.{NamedClass}
use Rattle.name_bridge.specs.Named.{class_at}
use Rattle.name_bridge.proofs.Classes.{class_by_number}
use Rattle.name_bridge.proofs.Above.{length_map, defined, own_place}
use Rattle.hierarchy.specs.Ranks.{is_lower, is_lower_all}
use Rattle.hierarchy.specs.Shapes.{IsOf}
use Rattle.hierarchy.specs.declared.build.Hierarchy.{Hierarchy}
use Rattle.rule_text.specs.Rules.{Above}
use Rattle.rule_defs.specs.Patterns.{class_name_fits}
use Rattle.rule_defs.specs.Kept.{is_asked_above, types_above}
use Rattle.keep_rules.specs.Marks.{is_on}
use Rattle.keep_rules.specs.Table.{has}
use Rattle.keep_rules.specs.Rows.{row_in}
use Rattle.keep_rules.specs.View.{AreRows, is_below}
use Rattle.keep_rules.specs.Below.{is_asked, is_under_in, is_under, AddsAsked, AddsAbove, AddsClass, AreWanted, AreWantedTo, MarksSome, IsSearch, AreUnder}
use Rattle.keep_rules.specs.Tried.{AreCandidates}
use Rattle.keep_rules.specs.declared.names.Candidates.TheVariants as candidates
use Rattle.keep_rules.specs.Grown.{Grew}
use Rattle.keep_rules.proofs.GrownLemmas.{grew_set}
use Rattle.keep_rules.proofs.AnyLemmas.{find_any, any_at, or_behind, or_front, or_cases, below_length, has_front, has_behind, has_either, has_one, has_self, has_at, place_in, get_in_front}
use Rattle.keep_rules.proofs.ViewLemmas.{below_at}

-- ---- what stands above by names

any_flat : {A B : Type 0} (t : B → Bool) (f : A → List B) (xs : List A) → list_any t (flat_map f xs) ≡ list_any (λ x. list_any t (f x)) xs
any_flat t f [] = refl
any_flat t f (x ∷ xs) = list_any-append t (f x) (flat_map f xs) ∙ ap (λ b. list_any t (f x) || b) (any_flat t f xs)

any_either : {A : Type 0} (f g : A → Bool) (xs : List A) → (list_any f xs || list_any g xs) ≡ list_any (λ x. f x || g x) xs
any_either f g [] = refl
any_either f g (x ∷ xs) = moved (f x) (g x) (list_any f xs) (list_any g xs) ∙ ap (λ b. (f x || g x) || b) (any_either f g xs)
  where
    moved : (a b c d : Bool) → ((a || c) || (b || d)) ≡ ((a || b) || (c || d))
    moved true b c d = refl
    moved false b true true = or_true b
      where
        or_true : (b : Bool) → true ≡ (b || true)
        or_true true = refl
        or_true false = refl
    moved false true true false = refl
    moved false false true false = refl
    moved false true false d = refl
    moved false false false d = refl

module _ (p : Program) (s : Sound p) (h : Hierarchy) (of : IsOf p h) (a : Above) where
  abbrev asks : Text → Bool
  asks t = is_asked_above (named p) a t

  -- one step up
  step_up : (n : ℕ) (t : Text) → list_any asks (types_above (suc n) (named p) t) ≡ list_any (λ u. asks u || list_any asks (types_above n (named p) u)) (own_above (named p) t)
  step_up n t =
      list_any-append asks (own_above (named p) t) (flat_map (types_above n (named p)) (own_above (named p) t))
      ∙ ap (λ b. list_any asks (own_above (named p) t) || b) (any_flat asks (types_above n (named p)) (own_above (named p) t))
      ∙ any_either asks (λ u. list_any asks (types_above n (named p) u)) (own_above (named p) t)

  abbrev lists : Option NamedClass → List Text
  lists None = []
  lists (Some c) = c.superclass ∷ c.interfaces

  lists_are : (o : Option NamedClass) → elim o as (λ o. List Text) [ Some c ↦ c.superclass ∷ c.interfaces | None ↦ [] ] ≡ lists o
  lists_are None = refl
  lists_are (Some c) = refl

  above_of : (place : ℕ) (c : Class) → slice_get p.classes place ≡ Some c → own_above (named p) (type_at p c.name) ≡ map (type_at p) (c.superclass ∷ c.interfaces)
  above_of place c e =
      lists_are (class_named (named p) (type_at p c.name))
      ∙ ap lists (class_by_number p s c.name (class_parts p s place c e).name ∙ ap (option_and_then (class_at p)) (own_place p of.once place c e) ∙ ap (option_map (named_class p)) e)

  none_above : (k : ℕ) → k < length p.types → class_place p k ≡ None → own_above (named p) (type_at p k) ≡ []
  none_above k l e = lists_are (class_named (named p) (type_at p k)) ∙ ap lists (class_by_number p s k l ∙ ap (option_and_then (class_at p)) e)

  any_named : (f : Text → Bool) (ks : List ℕ) → list_any f (map (type_at p) ks) ≡ list_any (λ k. f (type_at p k)) ks
  any_named f [] = refl
  any_named f (k ∷ ks) = ap (λ b. f (type_at p k) || b) (any_named f ks)

  -- of a class by the numbers of the types directly above it
  under_step : (n place : ℕ) (c : Class) → slice_get p.classes place ≡ Some c → is_under_in p a (suc n) c.name ≡ list_any (λ k. is_asked p a k || is_under_in p a n k) (c.superclass ∷ c.interfaces)
  under_step n place c e =
      step_up n (type_at p c.name)
      ∙ ap (list_any (λ u. asks u || list_any asks (types_above n (named p) u))) (above_of place c e)
      ∙ any_named (λ u. asks u || list_any asks (types_above n (named p) u)) (c.superclass ∷ c.interfaces)

  under_none : (n k : ℕ) → k < length p.types → class_place p k ≡ None → is_under_in p a n k ≡ false
  under_none zero k l e = refl
  under_none (suc n) k l e = step_up n (type_at p k) ∙ ap (list_any (λ u. asks u || list_any asks (types_above n (named p) u))) (none_above k l e)

  -- a type that a class names stands below none but the program's
  kind_has : (place : ℕ) (c : Class) → slice_get p.classes place ≡ Some c → (k : ℕ) → list_any (nat_eq k) (c.superclass ∷ c.interfaces) ≡ true → k < length p.types
  kind_has place c e k h = elim (or_cases (nat_eq k c.superclass) (list_any (nat_eq k) c.interfaces) h) [
    | inl g ↦ let i = number_of k c.superclass g in let l = (class_parts p s place c e).superclass in omega (arith, i, l)
    | inr g ↦ among c.interfaces (class_parts p s place c e).interfaces g
  ]
    where
      among : (ks : List ℕ) → list_all (has_type p) ks ≡ true → list_any (nat_eq k) ks ≡ true → k < length p.types
      among [] all g = absurd (true≢false (sym g))
      among (j ∷ ks) all g = elim (or_cases (nat_eq k j) (list_any (nat_eq k) ks) g) [
        | inl d ↦ let i = number_of k j d in let l = below j (length p.types) (and_left (has_type p j) (list_all (has_type p) ks) all) in omega (arith, i, l)
        | inr d ↦ among ks (and_right (has_type p j) (list_all (has_type p) ks) all) d
      ]

  pub below_type : (k place : ℕ) → is_below p k place ≡ true → k < length p.types
  below_type k place b = by (slice_get p.classes place) refl
    where
      by : (o : Option Class) → slice_get p.classes place ≡ o → k < length p.types
      by None e = absurd (true≢false (sym b ∙ ap (λ o. elim o as (λ o. Bool) [ Some c ↦ list_any (nat_eq k) (c.superclass ∷ c.interfaces) | None ↦ false ]) e))
      by (Some c) e = kind_has place c e k (sym (below_at p k place c e) ∙ b)

  -- ---- ranks

  placed_in : (ks : List ℕ) (k u : ℕ) (t : ℕ → Bool) → list_any (nat_eq k) ks ≡ true → class_place p k ≡ Some u → list_all t (places_of p ks) ≡ true → t u ≡ true
  placed_in [] k u t g e all = absurd (true≢false (sym g))
  placed_in (j ∷ ks) k u t g e all = elim (or_cases (nat_eq k j) (list_any (nat_eq k) ks) g) [
    | inl d ↦ first (class_place p j) (ap (class_place p) (sym (number_of k j d)) ∙ e) all
    | inr d ↦ placed_in ks k u t d e (rest (class_place p j) all)
  ]
    where
      first : (o : Option ℕ) → o ≡ Some u → list_all t (placed o (places_of p ks)) ≡ true → t u ≡ true
      first o i all = and_left (t u) (list_all t (places_of p ks)) (ap (λ x. list_all t (placed x (places_of p ks))) (sym i) ∙ all)

      rest : (o : Option ℕ) → list_all t (placed o (places_of p ks)) ≡ true → list_all t (places_of p ks) ≡ true
      rest None all = all
      rest (Some c) all = and_right (t c) (list_all t (places_of p ks)) all

  abbrev rank : ℕ → ℕ
  rank = of.ranked.rank

  behind_parts : (place : ℕ) (c : Class) → slice_get p.classes place ≡ Some c → (rank place < length p.classes) × ((is_lower rank (rank place) (class_place p c.superclass) ≡ true) × (list_all (λ u. nat_lt (rank u) (rank place)) (places_of p c.interfaces) ≡ true))
  behind_parts place c e =
      let all = of.ranked.each place (below_length p.classes place c e) in
      let front = and_left (nat_lt (rank place) (length p.classes) && is_lower rank (rank place) (super_place p place)) (is_lower_all rank (rank place) (interface_places p place)) all in
      let back = and_right (nat_lt (rank place) (length p.classes) && is_lower rank (rank place) (super_place p place)) (is_lower_all rank (rank place) (interface_places p place)) all in (
        ltb-true (rank place) (length p.classes) (and_left (nat_lt (rank place) (length p.classes)) (is_lower rank (rank place) (super_place p place)) front),
        (
          ap (λ o. is_lower rank (rank place) (option_and_then (λ k. class_place p k.superclass) o)) (sym e) ∙ and_right (nat_lt (rank place) (length p.classes)) (is_lower rank (rank place) (super_place p place)) front,
          ap (λ o. is_lower_all rank (rank place) (listed p o)) (sym e) ∙ back,
        ),
      )

  lower : (place : ℕ) (c : Class) → slice_get p.classes place ≡ Some c → (k u : ℕ) → list_any (nat_eq k) (c.superclass ∷ c.interfaces) ≡ true → class_place p k ≡ Some u → rank u < rank place
  lower place c e k u g i = elim (or_cases (nat_eq k c.superclass) (list_any (nat_eq k) c.interfaces) g) [
    | inl d ↦ ltb-true (rank u) (rank place) (ap (is_lower rank (rank place)) (sym (ap (class_place p) (sym (number_of k c.superclass d)) ∙ i)) ∙ (behind_parts place c e).1.0)
    | inr d ↦ ltb-true (rank u) (rank place) (placed_in c.interfaces k u (λ v. nat_lt (rank v) (rank place)) d i (behind_parts place c e).1.1)
  ]

  -- more steps than the rank lead no further
  ranked : (m n place : ℕ) (c : Class) → slice_get p.classes place ≡ Some c → rank place < m → is_under_in p a n c.name ≡ true → is_under_in p a m c.name ≡ true
  ranked zero n place c e l g = absurd (omega (arith, l))
  ranked (suc m) zero place c e l g = absurd (true≢false (sym g))
  ranked (suc m) (suc n) place c e l g =
      let f = find_any (λ k. is_asked p a k || is_under_in p a n k) (c.superclass ∷ c.interfaces) (sym (under_step n place c e) ∙ g) in
      under_step m place c e
      ∙ any_at (λ k. is_asked p a k || is_under_in p a m k) (c.superclass ∷ c.interfaces) f.at f.one f.is
      (elim (or_cases (is_asked p a f.one) (is_under_in p a n f.one) f.passes) [
        | inl q ↦ or_front (is_asked p a f.one) (is_under_in p a m f.one) q
        | inr q ↦ or_behind (is_asked p a f.one) (is_under_in p a m f.one) (further (λ u d i less g. ranked m n u d i less g) f.one (has_at (c.superclass ∷ c.interfaces) f.at f.one f.is) q (class_place p f.one) refl)
      ])
    where
      further : ((u : ℕ) (d : Class) → slice_get p.classes u ≡ Some d → rank u < m → is_under_in p a n d.name ≡ true → is_under_in p a m d.name ≡ true)
          → (k : ℕ) → list_any (nat_eq k) (c.superclass ∷ c.interfaces) ≡ true → is_under_in p a n k ≡ true → (o : Option ℕ) → class_place p k ≡ o → is_under_in p a m k ≡ true
      further more k i q None d = absurd (true≢false (sym q ∙ under_none n k (kind_has place c e k i) d))
      further more k i q (Some u) d =
          let r = defined p k u d in
          let less = lower place c e k u i d in
          subst (λ j. is_under_in p a m j ≡ true) r.named (more u r.class r.is (omega (arith, less, l)) (subst (λ j. is_under_in p a n j ≡ true) (sym r.named) q))

  abbrev steps : ℕ
  steps = length (named p).classes

  pub whole : (n place : ℕ) (c : Class) → slice_get p.classes place ≡ Some c → is_under_in p a n c.name ≡ true → is_under p a c.name ≡ true
  whole n place c e g =
      let size = length_map (named_class p) p.classes in
      let l = (behind_parts place c e).0 in
      ranked steps n place c e (omega (arith, size, l)) g

  -- what stands directly below one that is asked for, or below one that stands below, stands below
  pub stands : (k place : ℕ) (c : Class) → slice_get p.classes place ≡ Some c → is_below p k place ≡ true → (is_asked p a k || is_under p a k) ≡ true → is_under p a c.name ≡ true
  stands k place c e b g =
      let f = find_any (nat_eq k) (c.superclass ∷ c.interfaces) (sym (below_at p k place c e) ∙ b) in
      let same = number_of k f.one f.passes in
      whole (suc steps) place c e (under_step steps place c e ∙ any_at (λ j. is_asked p a j || is_under_in p a steps j) (c.superclass ∷ c.interfaces) f.at f.one f.is (subst (λ j. (is_asked p a j || is_under p a j) ≡ true) same g))

  -- ---- the end of a search

  found : (marks : List Bool) (kinds : List ℕ) (at : ℕ) → IsSearch p a marks kinds at → length kinds ≤ at → (n place : ℕ) (c : Class) → slice_get p.classes place ≡ Some c → is_under_in p a n c.name ≡ true → is_on marks place ≡ true
  found marks kinds at so l zero place c e g = absurd (true≢false (sym g))
  found marks kinds at so l (suc n) place c e g =
      let f = find_any (λ k. is_asked p a k || is_under_in p a n k) (c.superclass ∷ c.interfaces) (sym (under_step n place c e) ∙ g) in
      let b = below_at p f.one place c e ∙ has_at (c.superclass ∷ c.interfaces) f.at f.one f.is in
      elim (or_cases (is_asked p a f.one) (is_under_in p a n f.one) f.passes) [
        | inl q ↦ past f.one b (so.wanted f.one place b q)
        | inr q ↦ past f.one b (higher (λ u d i g. found marks kinds at so l n u d i g) f.one b q (class_place p f.one) refl)
      ]
    where
      past : (k : ℕ) → is_below p k place ≡ true → has kinds k ≡ true → is_on marks place ≡ true
      past k b i =
          let r = place_in kinds k i in
          let inside = below_length kinds r.at k r.is in
          so.done r.at k place (omega (arith, inside, l)) r.is b

      higher : ((u : ℕ) (d : Class) → slice_get p.classes u ≡ Some d → is_under_in p a n d.name ≡ true → is_on marks u ≡ true) → (k : ℕ) → is_below p k place ≡ true → is_under_in p a n k ≡ true → (o : Option ℕ) → class_place p k ≡ o → has kinds k ≡ true
      higher more k b q None d = absurd (true≢false (sym q ∙ under_none n k (below_type k place b) d))
      higher more k b q (Some u) d =
          let r = defined p k u d in
          let on = more u r.class r.is (subst (λ j. is_under_in p a n j ≡ true) (sym r.named) q) in
          subst (λ j. has kinds j ≡ true) r.named (so.named u r.class r.is on)

  pub search_end : (marks : List Bool) (kinds : List ℕ) (at : ℕ) → IsSearch p a marks kinds at → length kinds ≤ at → AreUnder p a marks
  search_end marks kinds at so l place c e = same_test (is_on marks place) (is_under p a c.name) (so.sound place c e) (found marks kinds at so l steps place c e)

  -- ---- one step of a search

  rows_below : (rows : List (Vec ℕ Global)) → AreRows (is_below p) (length p.types) rows → (k place : ℕ) → has (row_in rows k) place ≡ is_below p k place
  rows_below rows r k place = elim (cases_lt k (length p.types)) [
    | inl l ↦ r.are k place l
    | inr g ↦ ap (λ o. has (elim o as (λ o. List ℕ) [ Some row ↦ row.items | None ↦ [] ]) place) (slice_get_past rows k (let z = r.size in omega (arith, z, g)))
        ∙ sym (same_test (is_below p k place) false (λ b. let l = below_type k place b in absurd (omega (arith, l, g))) (λ b. absurd (true≢false (sym b))))
  ]

  pub search_more : (rows : List (Vec ℕ Global)) → AreRows (is_below p) (length p.types) rows → (old new : List Bool) (kinds next : List ℕ) (at k : ℕ) → slice_get kinds at ≡ Some k
      → MarksSome p (row_in rows k) old new kinds next → IsSearch p a old kinds at → IsSearch p a new next (at + 1)
  search_more rows r old new kinds next at k e m so = record {
    size = m.size ∙ so.size;
    sound = λ place c is on. sound place c is on;
    sources = λ j i. added j (has_either kinds m.more j (ap (λ l. has l j) (sym m.is) ∙ i));
    wanted = λ j place b q. ap (λ l. has l j) m.is ∙ has_front kinds m.more j (so.wanted j place b q);
    named = λ place c is on. ap (λ l. has l c.name) m.is ∙ elim (m.named place c is on) [
      | inl was ↦ has_front kinds m.more c.name (so.named place c is was)
      | inr new ↦ has_behind kinds m.more c.name new
    ];
    done = λ i j place l is b. done i j place l is b;
  }
    where
      inside : (place : ℕ) (c : Class) → slice_get p.classes place ≡ Some c → place < length old
      inside place c is = let l = below_length p.classes place c is in let z = so.size in omega (arith, l, z)

      marked : (place : ℕ) (c : Class) → slice_get p.classes place ≡ Some c → is_on new place ≡ (is_on old place || is_below p k place)
      marked place c is = m.marks place (inside place c is) ∙ ap (λ b. is_on old place || b) (rows_below rows r k place)

      here : (is_asked p a k || is_under p a k) ≡ true
      here = so.sources k (has_at kinds at k e)

      sound : (place : ℕ) (c : Class) → slice_get p.classes place ≡ Some c → is_on new place ≡ true → is_under p a c.name ≡ true
      sound place c is on = elim (or_cases (is_on old place) (is_below p k place) (sym (marked place c is) ∙ on)) [
        | inl was ↦ so.sound place c is was
        | inr b ↦ stands k place c is b here
      ]

      added : (j : ℕ) → (has kinds j ≡ true) ⊎ (has m.more j ≡ true) → (is_asked p a j || is_under p a j) ≡ true
      added j (inl was) = so.sources j was
      added j (inr new) =
          let f = m.from j new in
          or_behind (is_asked p a j) (is_under p a j) (subst (λ i. is_under p a i ≡ true) f.named (stands k f.place f.class f.is (sym (rows_below rows r k f.place) ∙ f.among) here))

      class_there : (place j : ℕ) → is_below p j place ≡ true → (o : Option Class) → slice_get p.classes place ≡ o → (c : Class) × (slice_get p.classes place ≡ Some c)
      class_there place j b None is = absurd (true≢false (sym b ∙ ap (λ o. elim o as (λ o. Bool) [ Some c ↦ list_any (nat_eq j) (c.superclass ∷ c.interfaces) | None ↦ false ]) is))
      class_there place j b (Some c) is = (c, is)

      done : (i j place : ℕ) → i < at + 1 → slice_get next i ≡ Some j → is_below p j place ≡ true → is_on new place ≡ true
      done i j place l is b =
          let c = class_there place j b (slice_get p.classes place) refl in
          let range = below_length kinds at k e in
          let was : slice_get kinds i ≡ Some j = get_in_front kinds m.more i j (omega (arith, l, range)) (ap (λ l. slice_get l i) (sym m.is) ∙ is) in
          marked place c.0 c.1 ∙ elim (cases_lt i at) [
            | inl g ↦ or_front (is_on old place) (is_below p k place) (so.done i j place g was b)
            | inr g ↦ let same : i ≡ at = omega (arith, l, g) in
                let one : Some j ≡ Some k = sym was ∙ ap (slice_get kinds) same ∙ e in
                let this : j ≡ k = cc in
                or_behind (is_on old place) (is_below p k place) (subst (λ x. is_below p x place ≡ true) this b)
          ]

pub search_start : (p : Program) (a : Above) (marks : List Bool) (kinds : List ℕ) → marks ≡ replicate (length p.classes) false → AreWanted p a kinds → IsSearch p a marks kinds 0
search_start p a marks kinds e w = record {
  size = ap length e ∙ length-replicate (length p.classes) false;
  sound = λ place c is on. absurd (true≢false (sym on ∙ none place));
  sources = λ k i. or_front (is_asked p a k) (is_under p a k) (w.asked k i);
  wanted = w.all;
  named = λ place c is on. absurd (true≢false (sym on ∙ none place));
  done = λ i k place l is b. absurd (omega (arith, l));
}
  where
    none : (place : ℕ) → is_on marks place ≡ false
    none place = ap (λ l. is_on l place) e ∙ elim (cases_lt place (length p.classes)) [
      | inl l ↦ get_or-replicate (length p.classes) place false false l
      | inr g ↦ get_or_past (replicate (length p.classes) false) place false (let z = length-replicate (length p.classes) false in omega (arith, z, g))
    ]

-- ---- marks of the classes at some places

or_none : (a : Bool) → (a || false) ≡ a
or_none true = refl
or_none false = refl

pub some_none : (p : Program) (marks : List Bool) (kinds : List ℕ) → MarksSome p [] marks marks kinds kinds
some_none p marks kinds = record {
  size = refl;
  marks = λ place l. sym (or_none (is_on marks place));
  more = [];
  is = sym (append-nil kinds);
  named = λ place c is on. inl on;
  from = λ k i. absurd (true≢false (sym i));
}

pub some_marked : (p : Program) (place : ℕ) (marks : List Bool) (kinds : List ℕ) → is_on marks place ≡ true → MarksSome p (place ∷ []) marks marks kinds kinds
some_marked p place marks kinds on = record {
  size = refl;
  marks = λ n l. sym (step n (nat_eq n place) refl);
  more = [];
  is = sym (append-nil kinds);
  named = λ n c is h. inl h;
  from = λ k i. absurd (true≢false (sym i));
}
  where
    step : (n : ℕ) (b : Bool) → nat_eq n place ≡ b → (is_on marks n || (b || false)) ≡ is_on marks n
    step n true e = let s = number_of n place e in ap (λ m. is_on marks m || true) s ∙ ap (λ b. b || true) on ∙ sym on ∙ ap (is_on marks) (sym s)
    step n false e = or_none (is_on marks n)

pub some_added : (p : Program) (place : ℕ) (old new : List Bool) (kinds next : List ℕ) → new ≡ set old place true → AddsClass p place kinds next → is_on old place ≡ false → MarksSome p (place ∷ []) old new kinds next
some_added p place old new kinds next e add off = by (slice_get p.classes place) refl
  where
    grew : Grew (λ n. nat_eq n place) old new
    grew = grew_set old new place e

    marks : (n : ℕ) → n < length old → is_on new n ≡ (is_on old n || (nat_eq n place || false))
    marks n l = grew.is n l ∙ ap (λ b. is_on old n || b) (sym (or_none (nat_eq n place)))

    size : length new ≡ length old
    size = grew.size

    by : (o : Option Class) → slice_get p.classes place ≡ o → MarksSome p (place ∷ []) old new kinds next
    by None is = record {
      size = size;
      marks = marks;
      more = [];
      is = add ∙ ap (λ o. elim o as (λ o. List ℕ) [ Some c ↦ kinds ++ c.name ∷ [] | None ↦ kinds ]) is ∙ sym (append-nil kinds);
      named = λ n c at on. elim (cases_lt n (length old)) [
        | inl l ↦
            elim (or_cases (is_on old n) (nat_eq n place) (sym (grew.is n l) ∙ on)) [
              | inl was ↦ inl was
              | inr s ↦ let x : None ≡ Some c = sym is ∙ ap (slice_get p.classes) (sym (number_of n place s)) ∙ at in absurd (none_some c x)
            ]
        | inr g ↦ absurd (true≢false (sym on ∙ get_or_past new n false (let z = grew.size in omega (arith, z, g))))
      ];
      from = λ k i. absurd (true≢false (sym i));
    }
      where
        none_some : (c : Class) → None ≡ Some c → ⊥
        none_some c x = cc
    by (Some d) is = record {
      size = size;
      marks = marks;
      more = d.name ∷ [];
      is = add ∙ ap (λ o. elim o as (λ o. List ℕ) [ Some c ↦ kinds ++ c.name ∷ [] | None ↦ kinds ]) is;
      named = λ n c at on. elim (cases_lt n (length old)) [
        | inl l ↦
            elim (or_cases (is_on old n) (nat_eq n place) (sym (grew.is n l) ∙ on)) [
              | inl was ↦ inl was
              | inr s ↦ let x : Some c ≡ Some d = sym at ∙ ap (slice_get p.classes) (number_of n place s) ∙ is in
                  let y : c ≡ d = cc in
                  inr (has_self c.name d.name (ap (λ z. z.name) y))
            ]
        | inr g ↦ absurd (true≢false (sym on ∙ get_or_past new n false (let z = grew.size in omega (arith, z, g))))
      ];
      from = λ k i. record { place = place; class = d; among = has_self place place refl; is = is; named = sym (has_one k d.name i) };
    }

pub some_then : (p : Program) (ps : List ℕ) (i place : ℕ) (old mid new : List Bool) (kinds between next : List ℕ) → i < length ps → place ≡ get_or ps i place
    → MarksSome p (take i ps) old mid kinds between → MarksSome p (place ∷ []) mid new between next → MarksSome p (take (i + 1) ps) old new kinds next
some_then p ps i place old mid new kinds between next h e a b = record {
  size = b.size ∙ a.size;
  marks = λ n l. b.marks n (subst (λ z. n < z) (sym a.size) l)
      ∙ ap (λ x. x || (nat_eq n place || false)) (a.marks n l)
      ∙ moved (is_on old n) (has (take i ps) n) (nat_eq n place)
      ∙ ap (λ x. is_on old n || x) (sym (more n));
  more = a.more ++ b.more;
  is = b.is ∙ ap (λ l. l ++ b.more) a.is ∙ append_assoc kinds a.more b.more;
  named = λ n c is on. elim (b.named n c is on) [
    | inl was ↦ elim (a.named n c is was) [ inl first ↦ inl first | inr between ↦ inr (has_front a.more b.more c.name between) ]
    | inr last ↦ inr (has_behind a.more b.more c.name last)
  ];
  from = λ k g. elim (has_either a.more b.more k g) [
    | inl x ↦ let f = a.from k x in record { place = f.place; class = f.class; among = more f.place ∙ or_front (has (take i ps) f.place) (nat_eq f.place place) f.among; is = f.is; named = f.named }
    | inr x ↦ let f = b.from k x in record { place = f.place; class = f.class; among = more f.place ∙ or_behind (has (take i ps) f.place) (nat_eq f.place place) (sym (or_none (nat_eq f.place place)) ∙ f.among); is = f.is; named = f.named }
  ];
}
  where
    more : (n : ℕ) → has (take (i + 1) ps) n ≡ (has (take i ps) n || nat_eq n place)
    more n = list_any_more (nat_eq n) ps i place h ∙ ap (λ x. has (take i ps) n || nat_eq n x) (sym e)

    moved : (x y z : Bool) → ((x || y) || (z || false)) ≡ (x || (y || z))
    moved true y z = refl
    moved false y true = refl
    moved false y false = refl

pub some_end : (p : Program) (ps : List ℕ) (i : ℕ) (old new : List Bool) (kinds next : List ℕ) → length ps ≤ i → MarksSome p (take i ps) old new kinds next → MarksSome p ps old new kinds next
some_end p ps i old new kinds next h m = subst (λ l. MarksSome p l old new kinds next) (take_all i ps h) m

-- ---- the types that are asked for

pub asked_added : (p : Program) (a : Above) (k : ℕ) (b : Bool) (old new : List ℕ) → b ≡ is_asked p a k → b ≡ true → new ≡ old ++ k ∷ [] → AddsAsked p a k old new
asked_added p a k b old new e f g = g ∙ sym (ap (λ x. if x then old ++ k ∷ [] else old) (sym e ∙ f))

pub asked_unadded : (p : Program) (a : Above) (k : ℕ) (b : Bool) (old : List ℕ) → b ≡ is_asked p a k → b ≡ false → AddsAsked p a k old old
asked_unadded p a k b old e f = sym (ap (λ x. if x then old ++ k ∷ [] else old) (sym e ∙ f))

pub nothing_below : (p : Program) (a : Above) (k : ℕ) (old : List ℕ) → ((place : ℕ) → is_below p k place ≡ false) → AddsAbove p a k old old
nothing_below p a k old none = record {
  asked = λ j h. inl h;
  stays = λ j h. h;
  added = λ place b q. absurd (true≢false (sym b ∙ none place));
}

pub asked_above : (p : Program) (a : Above) (k : ℕ) (old new : List ℕ) → AddsAsked p a k old new → AddsAbove p a k old new
asked_above p a k old new e = by (is_asked p a k) refl e
  where
    by : (b : Bool) → is_asked p a k ≡ b → new ≡ (if b then old ++ k ∷ [] else old) → AddsAbove p a k old new
    by true q g = record {
      asked = λ j h. elim (has_either old (k ∷ []) j (ap (λ l. has l j) (sym g) ∙ h)) [
        | inl was ↦ inl was
        | inr new ↦ inr (ap (is_asked p a) (has_one j k new) ∙ q)
      ];
      stays = λ j h. ap (λ l. has l j) g ∙ has_front old (k ∷ []) j h;
      added = λ place b q. ap (λ l. has l k) g ∙ has_behind old (k ∷ []) k (has_self k k refl);
    }
    by false q g = record {
      asked = λ j h. inl (ap (λ l. has l j) (sym g) ∙ h);
      stays = λ j h. ap (λ l. has l j) g ∙ h;
      added = λ place b r. absurd (true≢false (sym r ∙ q));
    }

pub wanted_start : (p : Program) (a : Above) (kinds : List ℕ) → kinds ≡ [] → AreWantedTo p a kinds 0
wanted_start p a kinds e = record {
  asked = λ k h. absurd (true≢false (sym h ∙ ap (λ l. has l k) e));
  all = λ k place l b q. absurd (omega (arith, l));
}

pub wanted_more : (p : Program) (a : Above) (kind : ℕ) (old new : List ℕ) → AreWantedTo p a old kind → AddsAbove p a kind old new → AreWantedTo p a new (kind + 1)
wanted_more p a kind old new w adds = record {
  asked = λ k h. elim (adds.asked k h) [ inl was ↦ w.asked k was | inr q ↦ q ];
  all = λ k place l b q. elim (cases_lt k kind) [
    | inl less ↦ adds.stays k (w.all k place less b q)
    | inr g ↦ let s : kind ≡ k = omega (arith, l, g) in subst (λ j. has new j ≡ true) s (adds.added place (subst (λ j. is_below p j place ≡ true) (sym s) b) (subst (λ j. is_asked p a j ≡ true) (sym s) q))
  ];
}

module _ (p : Program) (s : Sound p) (h : Hierarchy) (of : IsOf p h) (a : Above) where
  pub wanted_end : (kinds : List ℕ) (kind : ℕ) → length p.types ≤ kind → AreWantedTo p a kinds kind → AreWanted p a kinds
  wanted_end kinds kind l w = record { asked = w.asked; all = λ k place b q. w.all k place (let m = below_type p s h of a k place b in omega (arith, l, m)) b q }

  fits_of : (k : ℕ) → is_asked p a k ≡ true → class_name_fits a.name (type_at p k) ≡ true
  fits_of k q = and_left (class_name_fits a.name (type_at p k)) _ q

  pub wanted_none : (kinds : List ℕ) → kinds ≡ [] → AreCandidates p a.name candidates.None → AreWanted p a kinds
  wanted_none kinds e none = record {
    asked = λ k h. absurd (true≢false (sym h ∙ ap (λ l. has l k) e));
    all = λ k place b q. absurd (none k (below_type p s h of a k place b) (fits_of k q));
  }

  pub wanted_one : (n : ℕ) (old kinds : List ℕ) → old ≡ [] → AreCandidates p a.name (candidates.Type n) → AddsAsked p a n old kinds → AreWanted p a kinds
  wanted_one n old kinds e one adds = by (is_asked p a n) refl (adds ∙ ap (λ l. if is_asked p a n then l ++ n ∷ [] else l) e)
    where
      by : (b : Bool) → is_asked p a n ≡ b → kinds ≡ (if b then n ∷ [] else []) → AreWanted p a kinds
      by true q g = record {
        asked = λ k h. ap (is_asked p a) (has_one k n (ap (λ l. has l k) (sym g) ∙ h)) ∙ q;
        all = λ k place b r. ap (λ l. has l k) g ∙ has_self k n (one.1 k (below_type p s h of a k place b) (fits_of k r));
      }
      by false q g = record {
        asked = λ k h. absurd (true≢false (sym h ∙ ap (λ l. has l k) g));
        all = λ k place b r. let same = one.1 k (below_type p s h of a k place b) (fits_of k r) in absurd (true≢false (sym r ∙ ap (is_asked p a) same ∙ q));
      }

pub none_below : (p : Program) (rows : List (Vec ℕ Global)) (k : ℕ) → AreRows (is_below p) (length p.types) rows → k < length p.types → row_in rows k ≡ [] → (place : ℕ) → is_below p k place ≡ false
none_below p rows k r l e place = sym (r.are k place l) ∙ ap (λ l. has l place) e

pub row_some : (rows : List (Vec ℕ Global)) (k : ℕ) (row : Vec ℕ Global) → slice_get rows k ≡ Some row → row_in rows k ≡ row.items
row_some rows k row e = ap (λ o. elim o as (λ o. List ℕ) [ Some row ↦ row.items | None ↦ [] ]) e

pub row_none : (rows : List (Vec ℕ Global)) (k : ℕ) → slice_get rows k ≡ None → row_in rows k ≡ []
row_none rows k e = ap (λ o. elim o as (λ o. List ℕ) [ Some row ↦ row.items | None ↦ [] ]) e
