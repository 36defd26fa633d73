-- Members whose numbers ascend in two groups stand in order, and_both differ.
use Rattle.std.proofs.Common.{◌≡◌, ◌≤◌, ◌<◌, ◌⊎◌, inl, inr, ℕ, suc, Bool, true, false, cond, ltb, leb, eqb, List, [], ◌∷◌, ◌++◌, map, Option, Some, None, option_map, is_none, refl, sym, ap, subst, ◌∙◌, arith}
use Rattle.std.specs.Prelude.{◌&&◌, ◌||◌}
use Rattle.std.specs.List.{list_all, list_any}
use Rattle.std.proofs.lemmas.Bool.{lt-ltb, le-leb, leb-true, ne_eqb}
use Rattle.std.proofs.lemmas.List.Folds.{list_any-append, list_all-append}
use Rattle.lemmas.proofs.Bools.{and_both, and_parts, none_or}
use Rattle.program_model.specs.Distinct.{same_entry, differ_from}
use Rattle.program_model.specs.MemberRules.{in_groups}
use Rattle.program_model.specs.Neighbours.{neighbours}
use Rattle.program_model.specs.declared.flags.Flags.{Flags}
use Rattle.dex_read.proofs.Changes.{map_both}
use Rattle.dex_read.specs.Ascending.{Rises, Ascends}
use Rattle.dex_read.specs.ClassData.{agree, place_in}
use Rattle.dex_read.specs.declared.class_data.Listed.{Listed}

-- the number and_both the flags of a member
abbrev pub Own : Type 0
Own = ℕ × Flags

abbrev pub own : Listed → Own
own e = (e.number, e.flags)

abbrev pub key : Own → List ℕ
key x = x.0 ∷ []

abbrev pub grouped : (Own → Bool) → Own × Own → Bool
grouped d pair = in_groups (d pair.0) (d pair.1) (ltb pair.0.0 pair.1.0)

-- ---- tests of a list by what its entries are

pub map_neighbours : {X Y : Type 0} (g : X → Y) (t : Y × Y → Bool) (xs : List X) → list_all (λ pair. t (g pair.0, g pair.1)) (neighbours xs) ≡ list_all t (neighbours (map g xs))
map_neighbours g t [] = refl
map_neighbours g t (x ∷ []) = refl
map_neighbours g t (x ∷ y ∷ ys) = ap (λ b. t (g x, g y) && b) (map_neighbours g t (y ∷ ys))

map_any : {X Y : Type 0} (g : X → Y) (t : Y → Bool) (xs : List X) → list_any (λ x. t (g x)) xs ≡ list_any t (map g xs)
map_any g t [] = refl
map_any g t (x ∷ xs) = ap (λ b. t (g x) || b) (map_any g t xs)

pub map_differ : {X Y : Type 0} (g : X → Y) (k : Y → List ℕ) (before xs : List X) → differ_from (λ x. k (g x)) before xs ≡ differ_from k (map g before) (map g xs)
map_differ g k before [] = refl
map_differ g k before (x ∷ xs) =
    ap (λ b. cond b false (differ_from (λ x. k (g x)) (before ++ x ∷ []) xs)) (map_any g (λ y. same_entry k y (g x)) before)
    ∙ ap (λ b. cond (list_any (λ y. same_entry k y (g x)) (map g before)) false b)
    (map_differ g k (before ++ x ∷ []) xs ∙ ap (λ ys. differ_from k ys (map g xs)) (map_both g before (x ∷ [])))

-- ---- order

abbrev pub Group : (Own → Bool) → Bool → List Listed → Type 0
Group d b es = list_all (λ e. agree (d (own e)) b) es ≡ true

agree_is : (a b : Bool) → agree a b ≡ true → a ≡ b
agree_is true b h = sym h
agree_is false false h = refl
agree_is false true h = absurd cc

in_one : (a b c x : Bool) → a ≡ c → b ≡ c → x ≡ true → in_groups a b x ≡ true
in_one true true c x ha hb hx = hx
in_one false false c x ha hb hx = hx
in_one true false c x ha hb hx = refl
in_one false true c x ha hb hx = absurd (unlike (ha ∙ sym hb))
  where
    unlike : false ≡ true → ⊥
    unlike e = cc

in_two : (a b x : Bool) → a ≡ true → b ≡ false → in_groups a b x ≡ true
in_two true false x ha hb = refl
in_two false b x ha hb = absurd cc
in_two true true x ha hb = absurd cc

strictly : (place before n : ℕ) → (suc place ≡ 0) ⊎ (before < n) → before < n
strictly place before n (inl z) = absurd cc
strictly place before n (inr l) = l

one_group : (d : Own → Bool) (b : Bool) (place : ℕ) (e : Listed) (es : List Listed) → Group d b (e ∷ es) → Rises (suc place) e.number es
    → list_all (grouped d) (neighbours (map own (e ∷ es))) ≡ true
one_group d b place e [] h r = refl
one_group d b place e (f ∷ fs) h r = let h1 = and_parts _ _ h in let h2 = and_parts _ _ h1.1 in
    and_both (grouped d (own e, own f)) (list_all (grouped d) (neighbours (map own (f ∷ fs))))
    (in_one (d (own e)) (d (own f)) b (ltb e.number f.number) (agree_is _ _ h1.0) (agree_is _ _ h2.0) (lt-ltb _ _ (strictly place e.number f.number r.0)))
    (one_group d b (suc place) f fs h1.1 r.1)

pub two_groups : (d : Own → Bool) (place before : ℕ) (xs ys : List Listed) → Group d true xs → Group d false ys → Rises place before xs → Ascends ys
    → list_all (grouped d) (neighbours (map own (xs ++ ys))) ≡ true
two_groups d place before [] [] h g r a = refl
two_groups d place before [] (y ∷ ys) h g r a = one_group d false 0 y ys g a.rises.1
two_groups d place before (x ∷ []) [] h g r a = refl
two_groups d place before (x ∷ []) (y ∷ ys) h g r a =
    and_both (grouped d (own x, own y)) (list_all (grouped d) (neighbours (map own (y ∷ ys))))
    (in_two (d (own x)) (d (own y)) (ltb x.number y.number) (agree_is _ _ (and_parts _ _ h).0) (agree_is _ _ (and_parts _ _ g).0))
    (one_group d false 0 y ys g a.rises.1)
two_groups d place before (x ∷ z ∷ zs) ys h g r a = let h1 = and_parts _ _ h in let h2 = and_parts _ _ h1.1 in
    and_both (grouped d (own x, own z)) (list_all (grouped d) (neighbours (map own ((z ∷ zs) ++ ys))))
    (in_one (d (own x)) (d (own z)) true (ltb x.number z.number) (agree_is _ _ h1.0) (agree_is _ _ h2.0) (lt-ltb _ _ (strictly place x.number z.number r.1.0)))
    (two_groups d (suc place) x.number (z ∷ zs) ys h1.1 g r.1 a)

-- ---- difference

abbrev same : Listed → Listed → Bool
same y x = same_entry (λ e. key (own e)) y x

other : (a b : ℕ) → (a ≡ b → ⊥) → (eqb a b && true) ≡ false
other a b h = rw (ne_eqb a b h) refl

abbrev number_key : Listed → List ℕ
number_key e = key (own e)

abbrev Low : ℕ → List Listed → Type 0
Low last es = list_all (λ e. leb e.number last) es ≡ true

none_same : (last : ℕ) (passed : List Listed) (x : Listed) → Low last passed → last < x.number → list_any (λ y. same y x) passed ≡ false
none_same last [] x h lt = refl
none_same last (y ∷ ys) x h lt = let h1 = and_parts _ _ h in let le : y.number ≤ last = leb-true _ _ h1.0 in
    rw (other y.number x.number (λ e. omega (arith, e, le, lt))) (none_same last ys x h1.1 lt)

lower : (last next : ℕ) (passed : List Listed) → Low last passed → last < next → Low next passed
lower last next [] h lt = refl
lower last next (y ∷ ys) h lt = let h1 = and_parts _ _ h in let le : y.number ≤ last = leb-true _ _ h1.0 in
    and_both _ _ (le-leb y.number next (omega (arith, le, lt))) (lower last next ys h1.1 lt)

rising_differ : (place last : ℕ) (passed xs : List Listed) → Low last passed → Rises (suc place) last xs → differ_from number_key passed xs ≡ true
rising_differ place last passed [] h r = refl
rising_differ place last passed (x ∷ xs) h r =
    let lt : last < x.number = strictly place last x.number r.0 in
    let here : Low x.number (passed ++ x ∷ []) = list_all-append (λ e. leb e.number x.number) passed (x ∷ [])
    ∙ and_both _ _ (lower last x.number passed h lt) (and_both _ _ (le-leb x.number x.number (omega arith)) refl) in
    ap (λ b. cond b false (differ_from number_key (passed ++ x ∷ []) xs)) (none_same last passed x h lt) ∙ rising_differ (suc place) x.number (passed ++ x ∷ []) xs here r.1

ascending_differ : (xs : List Listed) → Ascends xs → differ_from number_key [] xs ≡ true
ascending_differ [] a = refl
ascending_differ (x ∷ xs) a = rising_differ 0 x.number (x ∷ []) xs (and_both _ _ (le-leb x.number x.number (omega arith)) refl) a.rises.1

assoc : (xs ys zs : List Listed) → (xs ++ ys) ++ zs ≡ xs ++ (ys ++ zs)
assoc [] ys zs = refl
assoc (x ∷ xs) ys zs = ap (λ es. x ∷ es) (assoc xs ys zs)

append_nil : (xs : List Listed) → xs ++ [] ≡ xs
append_nil [] = refl
append_nil (x ∷ xs) = ap (λ ys. x ∷ ys) (append_nil xs)

-- behind entries that are other ones
abbrev pub Apart : List Listed → List Listed → Type 0
Apart before xs = list_all (λ e. is_none (place_in e.number before)) xs ≡ true

unplaced : (x : Listed) (before : List Listed) → is_none (place_in x.number before) ≡ true → list_any (λ y. same y x) before ≡ false
unplaced x [] h = refl
unplaced x (y ∷ ys) h = by_place (eqb y.number x.number) (place_in x.number ys) h (unplaced x ys)
  where
    by_place : (b : Bool) (o : Option ℕ) {rest : Bool} → is_none (cond b (Some 0) (option_map suc o)) ≡ true → (is_none o ≡ true → rest ≡ false) → ((b && true) || rest) ≡ false
    by_place true o h f = absurd cc
    by_place false None h f = f refl
    by_place false (Some k) h f = absurd cc

first_differs : (b : Bool) {rest : Bool} → cond b false rest ≡ true → (b ≡ false) × (rest ≡ true)
first_differs true h = absurd cc
first_differs false h = (refl, h)

behind_differ : (before passed xs : List Listed) → Apart before xs → differ_from number_key passed xs ≡ true → differ_from number_key (before ++ passed) xs ≡ true
behind_differ before passed [] h g = refl
behind_differ before passed (x ∷ xs) h g =
    let h1 = and_parts _ _ h in
    let g1 = first_differs (list_any (λ y. same y x) passed) g in
    let none : list_any (λ y. same y x) (before ++ passed) ≡ false = list_any-append (λ y. same y x) before passed ∙ none_or _ _ (unplaced x before h1.0) g1.0 in
    ap (λ b. cond b false (differ_from number_key ((before ++ passed) ++ x ∷ []) xs)) none
    ∙ ap (λ ys. differ_from number_key ys xs) (assoc before passed (x ∷ [])) ∙ behind_differ before (passed ++ x ∷ []) xs h1.1 g1.1

both_differ : (before xs ys : List Listed) → differ_from number_key before xs ≡ true → differ_from number_key (before ++ xs) ys ≡ true → differ_from number_key before (xs ++ ys) ≡ true
both_differ before [] ys h g = subst (λ zs. differ_from number_key zs ys ≡ true) (append_nil before) g
both_differ before (x ∷ xs) ys h g =
    let h1 = first_differs (list_any (λ y. same y x) before) h in
    ap (λ b. cond b false (differ_from number_key (before ++ x ∷ []) (xs ++ ys))) h1.0
    ∙ both_differ (before ++ x ∷ []) xs ys h1.1 (subst (λ zs. differ_from number_key zs ys ≡ true) (sym (assoc before (x ∷ []) xs)) g)

pub lists_differ : (xs ys : List Listed) → Ascends xs → Ascends ys → Apart xs ys → differ_from key [] (map own (xs ++ ys)) ≡ true
lists_differ xs ys a b h = sym (map_differ own key [] (xs ++ ys))
    ∙ both_differ [] xs ys (ascending_differ xs a) (subst (λ zs. differ_from number_key zs ys ≡ true) (append_nil xs) (behind_differ xs [] ys h (ascending_differ ys b)))
