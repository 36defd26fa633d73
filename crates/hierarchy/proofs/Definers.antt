-- Which classes define a method with each key.
use Rattle.std.proofs.Common.{◌≡◌, ℕ, zero, suc, ◌+◌, ◌<◌, Bool, true, false, true≢false, nat_eq, List, [], ◌∷◌, ◌++◌, map, replicate, length, Option, Some, None, refl, sym, ap, subst, ◌∙◌, arith}
use Rattle.std.proofs.lemmas.Grind.{flat_map-append}
use Rattle.std.proofs.lemmas.List.{append-nil, append_assoc}
use Rattle.std.specs.Prelude.{cond, flat_map, is_some, position, slice_get, option_and_then}
use Rattle.std.specs.List.{filter, range_with_len}
use Rattle.std.specs.Option.{option_map}
use Rattle.program_model.specs.declared.program.Program.{Program}
use Rattle.class_defs.specs.Members.{own_method}
use Rattle.class_defs.proofs.Positions.{number_test, number_of, position_step}
use Rattle.hierarchy.specs.declared.build.Hierarchy.{Hierarchy}
use Rattle.hierarchy.specs.Membership.{key_at, found_in, place_in_rows, StandOnce, method_rows}
use Rattle.hierarchy.specs.Naming.{AreDefiners, IsKey, definers_of}
use Rattle.hierarchy.specs.Shapes.{IsOf}
use Rattle.hierarchy.specs.Tables.{row_or_empty, row_of}
use Rattle.hierarchy.specs.Touring.{add_to, add_to_all}
use Rattle.hierarchy.proofs.Linked.{set_length, added_other, added_same, all_length}
use Rattle.hierarchy.proofs.Looked.{found_is}
use Rattle.hierarchy.proofs.Toured.{range_more}

-- ---- a number that is added to several rows

all_row : (rows : List (List ℕ)) (us : List ℕ) (x d : ℕ) → d < length rows → row_of (add_to_all rows us x) d ≡ row_of rows d ++ map (λ _. x) (filter (λ u. nat_eq u d) us)
all_row rows [] x d l = sym (append-nil (row_of rows d))
all_row rows (u ∷ us) x d l = all_row (add_to rows u x) us x d (omega (arith, l, set_length rows u (row_of rows u ++ x ∷ []))) ∙ by_test (nat_eq u d) refl
  where
    by_test : (b : Bool) → nat_eq u d ≡ b → row_of (add_to rows u x) d ++ map (λ _. x) (filter (λ u. nat_eq u d) us) ≡ row_of rows d ++ map (λ _. x) (cond b (u ∷ filter (λ u. nat_eq u d) us) (filter (λ u. nat_eq u d) us))
    by_test true e =
        let s : u ≡ d = number_of u d e in
        ap (λ r. r ++ map (λ _. x) (filter (λ u. nat_eq u d) us)) (subst (λ w. row_of (add_to rows w x) d ≡ row_of rows d ++ x ∷ []) (sym s) (added_same rows d x l))
        ∙ append_assoc (row_of rows d) (x ∷ []) (map (λ _. x) (filter (λ u. nat_eq u d) us))
    by_test false e = ap (λ r. r ++ map (λ _. x) (filter (λ u. nat_eq u d) us)) (added_other rows u x d (λ s. true≢false (sym (number_test u d (sym s)) ∙ e)))

-- ---- the rows in front of a place in which a key stands, each as often as it does

abbrev named_in : List (List ℕ) → ℕ → ℕ → List ℕ
named_in rows key c = map (λ _. c) (filter (λ u. nat_eq u key) (row_of rows c))

abbrev named_to : List (List ℕ) → ℕ → ℕ → List ℕ
named_to rows end key = flat_map (named_in rows key) (range_with_len 0 end)

pub record DefinersTo (rows : List (List ℕ)) (count place : ℕ) (made : List (List ℕ)) : Type 0 where
  pub size : length made ≡ count
  pub at : (key : ℕ) → key < count → row_of made key ≡ named_to rows place key

named_more : (rows : List (List ℕ)) (place key : ℕ) → named_to rows (place + 1) key ≡ named_to rows place key ++ named_in rows key place
named_more rows place key =
    let z : 0 + place ≡ place = omega arith in
    ap (flat_map (named_in rows key)) (range_more 0 place) ∙ flat_map-append (named_in rows key) (range_with_len 0 place) ((0 + place) ∷ [])
    ∙ ap (λ n. named_to rows place key ++ flat_map (named_in rows key) (n ∷ [])) z ∙ ap (λ l. named_to rows place key ++ l) (append-nil (named_in rows key place))

pub definers_none : (rows made : List (List ℕ)) (count : ℕ) → made ≡ replicate count [] → DefinersTo rows count 0 made
definers_none rows made count e = record { size = ap length e ∙ empty_length count; at = λ key l. ap (λ m. row_of m key) e ∙ none count key }
  where
    empties : ℕ → List (List ℕ)
    empties n = replicate n []

    empty_length : (n : ℕ) → length (empties n) ≡ n
    empty_length zero = refl
    empty_length (suc n) = ap suc (empty_length n)

    none : (n key : ℕ) → row_of (empties n) key ≡ []
    none zero key = refl
    none (suc n) zero = refl
    none (suc n) (suc key) = none n key

pub definers_more : (rows made more : List (List ℕ)) (row : List ℕ) (count place class : ℕ) → class ≡ place → slice_get rows place ≡ Some row → more ≡ add_to_all made row class → DefinersTo rows count place made → DefinersTo rows count (place + 1) more
definers_more rows made more row count place class c is m d = record {
  size = ap length m ∙ all_length made row class ∙ d.size;
  at = λ key l.
      let s = d.size in
      ap (λ r. row_of r key) m ∙ all_row made row class key (omega (arith, l, s)) ∙ ap (λ r. r ++ map (λ _. class) (filter (λ u. nat_eq u key) row)) (d.at key l)
      ∙ ap (λ w. named_to rows place key ++ map (λ _. w) (filter (λ u. nat_eq u key) row)) c
      ∙ ap (λ r. named_to rows place key ++ map (λ _. place) (filter (λ u. nat_eq u key) r)) (sym (ap row_or_empty is)) ∙ sym (named_more rows place key);
}

-- ---- where each key stands once

one_in : (k c : ℕ) (row : List ℕ) → ((i j : ℕ) → slice_get row i ≡ Some k → slice_get row j ≡ Some k → i ≡ j) → map (λ _. c) (filter (λ u. nat_eq u k) row) ≡ cond (is_some (position (λ u. nat_eq u k) row)) (c ∷ []) []
one_in k c [] h = refl
one_in k c (x ∷ xs) h = by_test (nat_eq x k) refl (one_in k c xs (λ i j e f. let s = h (suc i) (suc j) e f in omega (arith, s)))
  where
    none_left : (ys : List ℕ) → ((i : ℕ) → slice_get ys i ≡ Some k → ⊥) → filter (λ u. nat_eq u k) ys ≡ []
    none_left [] g = refl
    none_left (y ∷ ys) g = by_head (nat_eq y k) refl (none_left ys (λ i e. g (suc i) e))
      where
        by_head : (b : Bool) → nat_eq y k ≡ b → filter (λ u. nat_eq u k) ys ≡ [] → cond b (y ∷ filter (λ u. nat_eq u k) ys) (filter (λ u. nat_eq u k) ys) ≡ []
        by_head true e r = absurd (g 0 (ap (λ n. Some n) (number_of y k e)))
        by_head false e r = r

    stays : (o : Option ℕ) → cond (is_some o) (c ∷ []) [] ≡ cond (is_some (option_map suc o)) (c ∷ []) []
    stays None = refl
    stays (Some n) = refl

    by_test : (b : Bool) → nat_eq x k ≡ b → map (λ _. c) (filter (λ u. nat_eq u k) xs) ≡ cond (is_some (position (λ u. nat_eq u k) xs)) (c ∷ []) []
        → map (λ _. c) (cond b (x ∷ filter (λ u. nat_eq u k) xs) (filter (λ u. nat_eq u k) xs)) ≡ cond (is_some (position (λ u. nat_eq u k) (x ∷ xs))) (c ∷ []) []
    by_test true e r =
        ap (λ l. c ∷ map (λ _. c) l) (none_left xs (λ i f. let s = h 0 (suc i) (ap (λ n. Some n) (number_of x k e)) f in omega (arith, s)))
        ∙ sym (ap (λ o. cond (is_some o) (c ∷ []) []) (position_step (λ u. nat_eq u k) x xs ∙ ap (λ b. cond b (Some 0) (option_map suc (position (λ u. nat_eq u k) xs))) e))
    by_test false e r =
        r ∙ stays (position (λ u. nat_eq u k) xs)
        ∙ sym (ap (λ o. cond (is_some o) (c ∷ []) []) (position_step (λ u. nat_eq u k) x xs ∙ ap (λ b. cond b (Some 0) (option_map suc (position (λ u. nat_eq u k) xs))) e))

one_row : (rows : List (List ℕ)) → StandOnce rows → (key c : ℕ) → named_in rows key c ≡ cond (is_some (place_in_rows rows c key)) (c ∷ []) []
one_row rows s key c = by_row (slice_get rows c) refl
  where
    by_row : (o : Option (List ℕ)) → slice_get rows c ≡ o → map (λ _. c) (filter (λ u. nat_eq u key) (row_or_empty o)) ≡ cond (is_some (option_and_then (position (λ x. nat_eq x key)) o)) (c ∷ []) []
    by_row None e = refl
    by_row (Some row) e = one_in key c row (λ i j f g. s.once c i j key row e f g)

flat_is : (f : ℕ → List ℕ) (t : ℕ → Bool) → ((c : ℕ) → f c ≡ cond (t c) (c ∷ []) []) → (cs : List ℕ) → flat_map f cs ≡ filter t cs
flat_is f t h [] = refl
flat_is f t h (c ∷ cs) = ap (λ l. l ++ flat_map f cs) (h c) ∙ by_test (t c) (flat_is f t h cs)
  where
    by_test : (b : Bool) → flat_map f cs ≡ filter t cs → cond b (c ∷ []) [] ++ flat_map f cs ≡ cond b (c ∷ filter t cs) (filter t cs)
    by_test true r = ap (λ l. c ∷ l) r
    by_test false r = r

pub definers_done : (rows made : List (List ℕ)) (count end : ℕ) → StandOnce rows → end ≡ length rows → DefinersTo rows count end made → AreDefiners rows count made
definers_done rows made count end s e d = record {
  at = λ key l. d.at key l ∙ ap (λ n. named_to rows n key) e ∙ flat_is (named_in rows key) (λ c. is_some (place_in_rows rows c key)) (one_row rows s key) (range_with_len 0 (length rows));
}

-- ---- by the program's names

filter_same : (t u : ℕ → Bool) → ((c : ℕ) → t c ≡ u c) → (cs : List ℕ) → filter t cs ≡ filter u cs
filter_same t u h [] = refl
filter_same t u h (c ∷ cs) = ap (λ b. cond b (c ∷ filter t cs) (filter t cs)) (h c) ∙ ap (λ l. cond (u c) (c ∷ l) l) (filter_same t u h cs)

mapped_length : {A B : Type 0} (f : A → B) (xs : List A) → length (map f xs) ≡ length xs
mapped_length f [] = refl
mapped_length f (x ∷ xs) = ap suc (mapped_length f xs)

some_same : {A B : Type 0} (f : A → B) (o : Option A) → is_some o ≡ is_some (option_map f o)
some_same f None = refl
some_same f (Some x) = refl

pub definers_are : (p : Program) (h : Hierarchy) (key name proto : ℕ) → IsOf p h → IsKey p h key name proto → row_of h.named.definers.rows key ≡ definers_of p name proto
definers_are p h key name proto is k =
    let rows = method_rows h.named.method_keys.keys.items p.classes in
    let b = is.named.method_keys.below k.number k.entry k.is in
    let s = k.keyed in
    is.named.definers.at key (omega (arith, b, s)) ∙ ap (λ n. filter (λ c. is_some (place_in_rows rows c key)) (range_with_len 0 n)) (mapped_length (λ c. map (λ m. key_at h.named.method_keys.keys.items m.name) c.methods) p.classes)
    ∙ filter_same (λ c. is_some (place_in_rows rows c key)) (λ c. is_some (own_method p name proto c))
    (λ c. ap is_some (sym (is.named.methods c key)) ∙ some_same (λ i. record { class = c; place = i }) (found_in h.named.methods c key) ∙ ap is_some (found_is p h is.named key name proto k c)) (range_with_len 0 (length p.classes))
