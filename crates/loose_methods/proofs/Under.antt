-- The classes under one, which of them have an ancestor of the framework, and what stands above them.
use Rattle.std.proofs.Common.{◌≡◌, ◌⊎◌, inl, inr, ℕ, ◌+◌, ◌<◌, ◌≤◌, Bool, true, false, true≢false, nat_eq, List, [], ◌∷◌, ◌++◌, length, replicate, Some, None, Option, refl, sym, ap, ◌∙◌, subst, arith}
use Rattle.std.specs.Prelude.{◌&&◌, ◌||◌, not, is_some, slice_get}
use Rattle.std.specs.List.{list_any, range_with_len}
use Rattle.std.proofs.lemmas.Bool.{cases_lt}
use Rattle.lemmas.proofs.Bools.{and_left, and_right, and_both, or_left, or_right, or_cases, or_none}
use Rattle.lemmas.proofs.Lists.{got_short}
use Rattle.program_model.specs.declared.pools.MethodName.{MethodName}
use Rattle.program_model.specs.declared.program.MethodAt.{MethodAt}
use Rattle.program_model.specs.declared.program.Class.{Class}
use Rattle.program_model.specs.declared.program.Program.{Program}
use Rattle.class_defs.proofs.Positions.{same_test, number_test, number_of}
use Rattle.class_defs.specs.Members.{own_method, own_virtual, is_common, virtual_only}
use Rattle.class_defs.specs.Places.{is_under}
use Rattle.hierarchy.specs.Climbing.{In}
use Rattle.hierarchy.specs.Naming.{definers_of}
use Rattle.hierarchy.specs.Ranks.{IsRanked}
use Rattle.hierarchy.specs.Touring.{subclasses_of}
use Rattle.receivers.specs.Receiving.{interface_at}
use Rattle.receivers.proofs.Walks.{any_of, of_any, under_self}
use Rattle.receivers.proofs.Ranges.{numbers_in, in_numbers, in_filter, filter_in, at_in}
use Rattle.loose_methods.specs.Loose.{places, classes_under, is_rival, has_rival, is_face, is_in_interface, is_outward, has_outward, lists_outer, is_alone}
use Rattle.loose_methods.specs.Marking.{is_on, turned_on, is_any_on, IsTable, AreUnder, keeps_from}
use Rattle.loose_methods.specs.Asked.{MarksOutward, Outwards}
use Rattle.loose_methods.proofs.Marks.{same_or, differ_test, turned_at, turned_long, none_on, replicate_long}

-- ---- members of lists

pub in_left : (u : ℕ) (xs ys : List ℕ) → In u xs → In u (xs ++ ys)
in_left u [] ys i = absurd i
in_left u (x ∷ xs) ys (inl s) = inl s
in_left u (x ∷ xs) ys (inr i) = inr (in_left u xs ys i)

pub in_right : (u : ℕ) (xs ys : List ℕ) → In u ys → In u (xs ++ ys)
in_right u [] ys i = i
in_right u (x ∷ xs) ys i = inr (in_right u xs ys i)

pub in_either : (u : ℕ) (xs ys : List ℕ) → In u (xs ++ ys) → In u xs ⊎ In u ys
in_either u [] ys i = inr i
in_either u (x ∷ xs) ys (inl s) = inl (inl s)
in_either u (x ∷ xs) ys (inr i) = elim (in_either u xs ys i) [ inl j ↦ inl (inr j) | inr j ↦ inr j ]

pub in_places : (p : Program) (c : ℕ) → c < length p.classes → In c (places p)
in_places p c lt = numbers_in 0 (length p.classes) c (omega arith) (omega (arith, lt))

pub place_of : (p : Program) (c : ℕ) → In c (places p) → c < length p.classes
place_of p c i = let r = (in_numbers 0 (length p.classes) c i).1 in omega (arith, r)

-- two lists with the same members have the same tests
pub same_any : (t : ℕ → Bool) (xs ys : List ℕ) → ((u : ℕ) → In u xs → In u ys) → ((u : ℕ) → In u ys → In u xs) → list_any t xs ≡ list_any t ys
same_any t xs ys f g = same_test (list_any t xs) (list_any t ys) (λ e. let a = any_of t xs e in of_any t ys a.at (f a.at a.there) a.is) (λ e. let a = any_of t ys e in of_any t xs a.at (g a.at a.there) a.is)

-- ---- the classes under one

module _ (p : Program) (r : IsRanked p) where
  below_all : ℕ → List ℕ
  below_all c = subclasses_of p c ++ c ∷ []

  from_list : (c u : ℕ) → c < length p.classes → In u (subclasses_of p c ++ c ∷ []) → In u (classes_under p c)
  from_list c u lt i = elim (in_either u (subclasses_of p c) (c ∷ []) i) [
    | inl j ↦ (let f = in_filter (λ d. is_under p d c && not (nat_eq d c)) (places p) u j in filter_in (λ d. is_under p d c) (places p) u f.0 (and_left (is_under p u c) (not (nat_eq u c)) f.1))
    | inr j ↦ elim j [ inl s ↦ subst (λ d. In d (classes_under p c)) (sym s) (filter_in (λ d. is_under p d c) (places p) c (in_places p c lt) (under_self p r c)) | inr k ↦ absurd k ]
  ]

  to_list : (c u : ℕ) → In u (classes_under p c) → In u (subclasses_of p c ++ c ∷ [])
  to_list c u i =
      let f = in_filter (λ d. is_under p d c) (places p) u i in
      elim (same_or u c) [
        | inl s ↦ in_right u (subclasses_of p c) (c ∷ []) (inl s)
        | inr h ↦ in_left u (subclasses_of p c) (c ∷ []) (filter_in (λ d. is_under p d c && not (nat_eq d c)) (places p) u f.0 (and_both (is_under p u c) (not (nat_eq u c)) f.1 (ap not (differ_test u c h))))
      ]

  pub under_are : (c : ℕ) (xs : List ℕ) → c < length p.classes → xs ≡ subclasses_of p c ++ c ∷ [] → AreUnder p c xs
  under_are c xs lt e = subst (λ l. AreUnder p c l) (sym e) (record {
    all = λ t. same_any t (subclasses_of p c ++ c ∷ []) (classes_under p c) (λ u i. from_list c u lt i) (λ u i. to_list c u i);
    short = λ k d f. place_of p d (in_filter (λ x. is_under p x c) (places p) d (from_list c d lt (at_in (subclasses_of p c ++ c ∷ []) k d f))).0;
  })

pub in_under : (p : Program) (c d : ℕ) → d < length p.classes → is_under p d c ≡ true → In d (classes_under p c)
in_under p c d lt e = filter_in (λ x. is_under p x c) (places p) d (in_places p d lt) e

pub under_in : (p : Program) (c d : ℕ) → In d (classes_under p c) → (d < length p.classes) × (is_under p d c ≡ true)
under_in p c d i = let f = in_filter (λ x. is_under p x c) (places p) d i in (place_of p d f.0, f.1)

-- ---- ancestors of the framework

number_under : (p : Program) (c d : ℕ) → d < length p.classes → list_any (nat_eq d) (classes_under p c) ≡ is_under p d c
number_under p c d lt = same_test (list_any (nat_eq d) (classes_under p c)) (is_under p d c)
    (λ e. let a = any_of (nat_eq d) (classes_under p c) e in let same : d ≡ a.at = number_of d a.at a.is in ap (λ x. is_under p x c) same ∙ (under_in p c a.at a.there).1)
    (λ e. of_any (nat_eq d) (classes_under p c) d (in_under p c d lt e) (number_test d d refl))

pub outward_marked : (p : Program) (c : ℕ) (under : List ℕ) (old new : List Bool) → AreUnder p c under → lists_outer p (slice_get p.classes c) ≡ true → new ≡ turned_on old under → MarksOutward p c old new
outward_marked p c under old new a l e = record {
  long = ap length e ∙ turned_long old under;
  are = λ size d lt.
      ap (λ ms. is_on ms d) e ∙ turned_at old under d (omega (arith, size, lt))
      ∙ ap (λ b. is_on old d || b) (a.all (nat_eq d) ∙ number_under p c d lt ∙ sym (ap (λ b. is_under p d c && b) l ∙ last (is_under p d c)));
}
  where
    last : (b : Bool) → (b && true) ≡ b
    last true = refl
    last false = refl

pub outward_same : (p : Program) (c : ℕ) (old new : List Bool) → lists_outer p (slice_get p.classes c) ≡ false → new ≡ old → MarksOutward p c old new
outward_same p c old new l e = record {
  long = ap length e;
  are = λ size d lt. ap (λ ms. is_on ms d) e ∙ sym (ap (λ b. is_on old d || (is_under p d c && b)) l ∙ ap (λ b. is_on old d || b) (none (is_under p d c)) ∙ or_none (is_on old d));
}
  where
    none : (b : Bool) → (b && false) ≡ false
    none true = refl
    none false = refl

-- one number more
pub any_numbers_more : (t : ℕ → Bool) (n : ℕ) → list_any t (range_with_len 0 (n + 1)) ≡ (list_any t (range_with_len 0 n) || t n)
any_numbers_more t n = same_test (list_any t (range_with_len 0 (n + 1))) (list_any t (range_with_len 0 n) || t n)
    (λ e. let a = any_of t (range_with_len 0 (n + 1)) e in
    let l = (in_numbers 0 (n + 1) a.at a.there).1 in
    elim (cases_lt a.at n) [
      | inl lt ↦ or_left (list_any t (range_with_len 0 n)) (t n) (of_any t (range_with_len 0 n) a.at (numbers_in 0 n a.at (omega arith) (omega (arith, lt))) a.is)
      | inr ge ↦ or_right (list_any t (range_with_len 0 n)) (t n) (let same : a.at ≡ n = omega (arith, l, ge) in ap t (sym same) ∙ a.is)
    ])
    (λ e. elim (or_cases (list_any t (range_with_len 0 n)) (t n) e) [
      | inl f ↦ (let a = any_of t (range_with_len 0 n) f in let l = (in_numbers 0 n a.at a.there).1 in of_any t (range_with_len 0 (n + 1)) a.at (numbers_in 0 (n + 1) a.at (omega arith) (omega (arith, l))) a.is)
      | inr f ↦ of_any t (range_with_len 0 (n + 1)) n (numbers_in 0 (n + 1) n (omega arith) (omega arith)) f
    ])

pub outwards_more : (p : Program) (done : ℕ) (old new : List Bool) → Outwards p done old → MarksOutward p done old new → Outwards p (done + 1) new
outwards_more p done old new a m = record {
  long = m.long ∙ a.long;
  are = λ d lt. m.are a.long d lt ∙ ap (λ b. b || (is_under p d done && lists_outer p (slice_get p.classes done))) (a.are d lt) ∙ sym (any_numbers_more (λ e. is_under p d e && lists_outer p (slice_get p.classes e)) done);
}

-- past the last class there is none
pub outwards_end : (p : Program) (n : ℕ) (marks : List Bool) → length p.classes ≤ n → Outwards p n marks → Outwards p (length p.classes) marks
outwards_end p n marks le a = record { long = a.long; are = λ d lt. a.are d lt ∙ same d }
  where
    lists : ℕ → ℕ → Bool
    lists d e = is_under p d e && lists_outer p (slice_get p.classes e)

    known : (o : Option Class) → lists_outer p o ≡ true → is_some o ≡ true
    known None e = e
    known (Some k) e = refl

    is_there : (o : Option Class) → is_some o ≡ true → (k : Class) × (o ≡ Some k)
    is_there None e = absurd (true≢false (sym e))
    is_there (Some k) e = (k, refl)

    short : (d e : ℕ) → lists d e ≡ true → e < length p.classes
    short d e h =
        let k = is_there (slice_get p.classes e) (known (slice_get p.classes e) (and_right (is_under p d e) (lists_outer p (slice_get p.classes e)) h)) in
        got_short p.classes e k.0 k.1

    same : (d : ℕ) → list_any (lists d) (range_with_len 0 n) ≡ list_any (lists d) (range_with_len 0 (length p.classes))
    same d = same_test (list_any (lists d) (range_with_len 0 n)) (list_any (lists d) (range_with_len 0 (length p.classes)))
        (λ e. let a = any_of (lists d) (range_with_len 0 n) e in of_any (lists d) (range_with_len 0 (length p.classes)) a.at (in_places p a.at (short d a.at a.is)) a.is)
        (λ e. let a = any_of (lists d) (range_with_len 0 (length p.classes)) e in let l = place_of p a.at a.there in of_any (lists d) (range_with_len 0 n) a.at (numbers_in 0 n a.at (omega arith) (omega (arith, l, le))) a.is)

pub outwards_all : (p : Program) (marks : List Bool) → Outwards p (length p.classes) marks → IsTable (length p.classes) (is_outward p) marks
outwards_all p marks a = record { long = a.long; are = a.are }

pub outwards_none : (p : Program) (marks : List Bool) → marks ≡ replicate (length p.classes) false → Outwards p 0 marks
outwards_none p marks e = record { long = ap length e ∙ replicate_long (length p.classes); are = λ d lt. ap (λ l. is_on l d) e ∙ none_on (length p.classes) d }

-- one of the classes under one has such an ancestor
pub outward_under : (p : Program) (c : ℕ) (under : List ℕ) (marks : List Bool) → AreUnder p c under → IsTable (length p.classes) (is_outward p) marks → is_any_on marks under ≡ has_outward p c
outward_under p c under marks a t = a.all (is_on marks) ∙ each (classes_under p c) (λ d i. t.are d (under_in p c d i).0)
  where
    each : (xs : List ℕ) → ((d : ℕ) → In d xs → is_on marks d ≡ is_outward p d) → list_any (is_on marks) xs ≡ list_any (is_outward p) xs
    each [] h = refl
    each (x ∷ xs) h = ap (λ b. b || list_any (is_on marks) xs) (h x (inl refl)) ∙ ap (λ b. is_outward p x || b) (each xs (λ d i. h d (inr i)))

-- ---- what stands above

own_is_some : (p : Program) (n t u : ℕ) → is_some (own_virtual p n t u) ≡ true → is_some (own_method p n t u) ≡ true
own_is_some p n t u e = by (own_method p n t u) e
  where
    by : (o : Option MethodAt) → is_some (virtual_only p o) ≡ true → is_some o ≡ true
    by None f = f
    by (Some at) f = refl

module _ (p : Program) (q : MethodName) (c : ℕ) (under : List ℕ) (a : AreUnder p c under) where
  abbrev test : ℕ → Bool
  test u = keeps_from p q c u && list_any (λ d. is_under p d u) under

  definer : (u : ℕ) → In u (places p) → is_some (own_method p q.name q.proto u) ≡ true → In u (definers_of p q.name q.proto)
  definer u i e = filter_in (λ d. is_some (own_method p q.name q.proto d)) (range_with_len 0 (length p.classes)) u i e

  met : (u d : ℕ) → In u (definers_of p q.name q.proto) → keeps_from p q c u ≡ true → In d (classes_under p c) → is_under p d u ≡ true → list_any test (definers_of p q.name q.proto) ≡ true
  met u d i k j e = of_any test (definers_of p q.name q.proto) u i (and_both (keeps_from p q c u) (list_any (λ x. is_under p x u) under) k (a.all (λ x. is_under p x u) ∙ of_any (λ x. is_under p x u) (classes_under p c) d j e))

  rival_met : has_rival p q c ≡ true → list_any test (definers_of p q.name q.proto) ≡ true
  rival_met e =
      let d = any_of (λ x. list_any (is_rival p q c x) (places p)) (classes_under p c) e in
      let u = any_of (is_rival p q c d.at) (places p) d.is in
      let two = and_left (not (nat_eq u.at c) && is_under p d.at u.at) (is_some (own_virtual p q.name q.proto u.at)) u.is in
      let own = and_right (not (nat_eq u.at c) && is_under p d.at u.at) (is_some (own_virtual p q.name q.proto u.at)) u.is in
      met u.at d.at (definer u.at u.there (own_is_some p q.name q.proto u.at own))
      (or_left (not (nat_eq u.at c) && is_some (own_virtual p q.name q.proto u.at)) (interface_at p u.at) (and_both (not (nat_eq u.at c)) (is_some (own_virtual p q.name q.proto u.at)) (and_left (not (nat_eq u.at c)) (is_under p d.at u.at) two) own))
      d.there (and_right (not (nat_eq u.at c)) (is_under p d.at u.at) two)

  face_met : is_in_interface p q c ≡ true → list_any test (definers_of p q.name q.proto) ≡ true
  face_met e =
      let d = any_of (λ x. list_any (is_face p q x) (places p)) (classes_under p c) e in
      let u = any_of (is_face p q d.at) (places p) d.is in
      let two = and_left (interface_at p u.at && is_under p d.at u.at) (is_some (own_method p q.name q.proto u.at)) u.is in
      met u.at d.at (definer u.at u.there (and_right (interface_at p u.at && is_under p d.at u.at) (is_some (own_method p q.name q.proto u.at)) u.is))
      (or_right (not (nat_eq u.at c) && is_some (own_virtual p q.name q.proto u.at)) (interface_at p u.at) (and_left (interface_at p u.at) (is_under p d.at u.at) two))
      d.there (and_right (interface_at p u.at) (is_under p d.at u.at) two)

  kept_so : list_any test (definers_of p q.name q.proto) ≡ true → (has_rival p q c || is_in_interface p q c) ≡ true
  kept_so e =
      let u = any_of test (definers_of p q.name q.proto) e in
      let f = in_filter (λ d. is_some (own_method p q.name q.proto d)) (range_with_len 0 (length p.classes)) u.at u.there in
      let keeps = and_left (keeps_from p q c u.at) (list_any (λ x. is_under p x u.at) under) u.is in
      let d = any_of (λ x. is_under p x u.at) (classes_under p c) (sym (a.all (λ x. is_under p x u.at)) ∙ and_right (keeps_from p q c u.at) (list_any (λ x. is_under p x u.at) under) u.is) in
      elim (or_cases (not (nat_eq u.at c) && is_some (own_virtual p q.name q.proto u.at)) (interface_at p u.at) keeps) [
        | inl g ↦ or_left (has_rival p q c) (is_in_interface p q c) (of_any (λ x. list_any (is_rival p q c x) (places p)) (classes_under p c) d.at d.there
            (of_any (is_rival p q c d.at) (places p) u.at f.0
            (and_both (not (nat_eq u.at c) && is_under p d.at u.at) (is_some (own_virtual p q.name q.proto u.at))
            (and_both (not (nat_eq u.at c)) (is_under p d.at u.at) (and_left (not (nat_eq u.at c)) (is_some (own_virtual p q.name q.proto u.at)) g) d.is)
            (and_right (not (nat_eq u.at c)) (is_some (own_virtual p q.name q.proto u.at)) g))))
        | inr g ↦ or_right (has_rival p q c) (is_in_interface p q c) (of_any (λ x. list_any (is_face p q x) (places p)) (classes_under p c) d.at d.there
            (of_any (is_face p q d.at) (places p) u.at f.0
            (and_both (interface_at p u.at && is_under p d.at u.at) (is_some (own_method p q.name q.proto u.at)) (and_both (interface_at p u.at) (is_under p d.at u.at) g d.is) f.1)))
      ]

  pub kept_is : list_any (λ u. keeps_from p q c u && list_any (λ d. is_under p d u) under) (definers_of p q.name q.proto) ≡ (has_rival p q c || is_in_interface p q c)
  kept_is = same_test (list_any test (definers_of p q.name q.proto)) (has_rival p q c || is_in_interface p q c) kept_so
      (λ e. elim (or_cases (has_rival p q c) (is_in_interface p q c) e) [ inl f ↦ rival_met f | inr f ↦ face_met f ])

-- a definer that keeps it so, among some classes
abbrev pub kept_of : Program → MethodName → ℕ → List ℕ → List ℕ → Bool
kept_of p q c under xs = list_any (λ u. keeps_from p q c u && list_any (λ d. is_under p d u) under) xs

-- definers are classes of the program
pub definers_short : (p : Program) (q : MethodName) (xs : List ℕ) → xs ≡ definers_of p q.name q.proto → (k c : ℕ) → slice_get xs k ≡ Some c → c < length p.classes
definers_short p q xs e k c f =
    let i = in_filter (λ d. is_some (own_method p q.name q.proto d)) (range_with_len 0 (length p.classes)) c (at_in (definers_of p q.name q.proto) k c (ap (λ l. slice_get l k) (sym e) ∙ f)) in
    place_of p c i.0

-- by its three parts
pub alone_is : (p : Program) (q : MethodName) (c : ℕ) (outward common kept : Bool) → outward ≡ has_outward p c → common ≡ is_common p q.name q.proto → kept ≡ (has_rival p q c || is_in_interface p q c)
    → (not outward && not common && not kept) ≡ is_alone p q c
alone_is p q c outward common kept e f g = ap (λ b. not b && not common && not kept) e ∙ ap (λ b. not (has_outward p c) && not b && not kept) f ∙ ap (λ b. not (has_outward p c) && not (is_common p q.name q.proto) && not b) g
    ∙ swap (has_outward p c) (is_common p q.name q.proto) (has_rival p q c) (is_in_interface p q c)
  where
    swap : (o k r i : Bool) → (not o && not k && not (r || i)) ≡ (not r && not k && not i && not o)
    swap true true true true = refl
    swap true true true false = refl
    swap true true false true = refl
    swap true true false false = refl
    swap true false true true = refl
    swap true false true false = refl
    swap true false false true = refl
    swap true false false false = refl
    swap false true true true = refl
    swap false true true false = refl
    swap false true false true = refl
    swap false true false false = refl
    swap false false true true = refl
    swap false false true false = refl
    swap false false false true = refl
    swap false false false false = refl
