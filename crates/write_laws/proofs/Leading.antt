-- Each list that is used leads to where it stands.
use Rattle.std.proofs.Common.{◌≡◌, ◌<◌, ◌+◌, ℕ, zero, suc, Bool, true, false, List, [], ◌∷◌, ◌++◌, length, refl, sym, ap, ◌∙◌, append_assoc, append-nil, arith, map}
use Rattle.std.specs.Prelude.{slice_get, Some, if◌then◌else◌}
use Rattle.std.specs.Cmp.Lexicographic.{bytes_decides}
use Rattle.std.specs.List.{list_any, position_or_len}
use Rattle.std.proofs.lemmas.Option.{slice_get-get_or, slice_get_within}
use Rattle.lemmas.proofs.Lists.{got_short}
use Rattle.dex_write.specs.Lists.{is_same, with_list, index_of, all_lists, indexes_of, used_offset, list_starts, padded_text}
use Rattle.dex_defs.specs.Arranged.{Both, LeadsTo, ToNone, ToOne}

-- ---- lists grow behind those that are there

pub record Grown (old new : List (List ℕ)) : Type 0 where
  pub rest : List (List ℕ)
  pub is : new ≡ old ++ rest

one_grown : (lists : List (List ℕ)) (list : List ℕ) → Grown lists (with_list lists list)
one_grown lists [] = record { rest = []; is = sym (append-nil lists) }
one_grown lists (n ∷ ns) = by_test (list_any (is_same (n ∷ ns)) lists) refl
  where
    by_test : (t : Bool) → list_any (is_same (n ∷ ns)) lists ≡ t → Grown lists (with_list lists (n ∷ ns))
    by_test true e = rw e (record { rest = []; is = sym (append-nil lists) })
    by_test false e = rw e (record { rest = (n ∷ ns) ∷ []; is = refl })

grown_twice : (a b c : List (List ℕ)) → Grown a b → Grown b c → Grown a c
grown_twice a b c x y = record { rest = x.rest ++ y.rest; is = y.is ∙ ap (λ (l : List (List ℕ)). l ++ y.rest) x.is ∙ append_assoc a x.rest y.rest }

pub all_grown : (lists uses : List (List ℕ)) → Grown lists (all_lists lists uses)
all_grown lists [] = record { rest = []; is = sym (append-nil lists) }
all_grown lists (one ∷ uses) = grown_twice lists (with_list lists one) (all_lists (with_list lists one) uses) (one_grown lists one) (all_grown (with_list lists one) uses)

get_left : (xs ys : List (List ℕ)) (k : ℕ) (x : List ℕ) → slice_get xs k ≡ Some x → slice_get (xs ++ ys) k ≡ Some x
get_left [] ys k x e = absurd cc
get_left (y ∷ xs) ys zero x e = e
get_left (y ∷ xs) ys (suc k) x e = get_left xs ys k x e

get_grown : (old new : List (List ℕ)) (k : ℕ) (x : List ℕ) → Grown old new → slice_get old k ≡ Some x → slice_get new k ≡ Some x
get_grown old new k x g e = rw g.is (get_left old g.rest k x e)

-- ---- the place of a list

same_is : (a b : List ℕ) → is_same a b ≡ true → a ≡ b
same_is a b e = (bytes_decides a b).0 e

step_down : (x : List ℕ) (ys : List (List ℕ)) (n : ℕ) (list : List ℕ) → slice_get ys n ≡ Some list → slice_get (x ∷ ys) (1 + n) ≡ Some list
step_down x ys n list h = let e : 1 + n ≡ suc n = omega arith in rw e h

at_end : (x list : List ℕ) (xs : List (List ℕ)) (n : ℕ) (any : Bool) → slice_get (if any then xs else xs ++ list ∷ []) n ≡ Some list → slice_get (if any then x ∷ xs else x ∷ (xs ++ list ∷ [])) (1 + n) ≡ Some list
at_end x list xs n true h = step_down x xs n list h
at_end x list xs n false h = step_down x (xs ++ list ∷ []) n list h

-- where it is among the lists, its place has it; else it stands behind them
found : (list : List ℕ) (lists : List (List ℕ)) → slice_get (if list_any (is_same list) lists then lists else lists ++ list ∷ []) (position_or_len (is_same list) lists) ≡ Some list
found list [] = refl
found list (x ∷ xs) = by_test (is_same list x) refl (found list xs)
  where
    by_test : (t : Bool) → is_same list x ≡ t → slice_get (if list_any (is_same list) xs then xs else xs ++ list ∷ []) (position_or_len (is_same list) xs) ≡ Some list
        → slice_get (if list_any (is_same list) (x ∷ xs) then x ∷ xs else (x ∷ xs) ++ list ∷ []) (position_or_len (is_same list) (x ∷ xs)) ≡ Some list
    by_test true e h = rw e (ap (λ (l : List ℕ). Some l) (sym (same_is list x e)))
    by_test false e h = rw e (at_end x list xs (position_or_len (is_same list) xs) (list_any (is_same list) xs) h)

-- ---- the offsets of uses

one_leads : (all : List (List ℕ)) (starts : List ℕ) (lists : List (List ℕ)) (one : List ℕ) → length starts ≡ length all → Grown (with_list lists one) all → LeadsTo all starts one (used_offset starts (index_of lists one))
one_leads all starts lists [] many g = ToNone refl refl
one_leads all starts lists (n ∷ ns) many g =
    let k : ℕ = position_or_len (is_same (n ∷ ns)) lists in
    let e : slice_get all k ≡ Some (n ∷ ns) = get_grown (with_list lists (n ∷ ns)) all k (n ∷ ns) g (found (n ∷ ns) lists) in
    ToOne k (omega arith) e (slice_get-get_or starts k 0 (omega (arith, many, got_short all k (n ∷ ns) e)))

pub uses_lead : (all : List (List ℕ)) (starts : List ℕ) (lists uses : List (List ℕ)) → length starts ≡ length all → Grown (all_lists lists uses) all → Both (LeadsTo all starts) uses (map (used_offset starts) (indexes_of lists uses))
uses_lead all starts lists [] many g = tt
uses_lead all starts lists (one ∷ uses) many g = (
  one_leads all starts lists one many (grown_twice (with_list lists one) (all_lists (with_list lists one) uses) all (all_grown (with_list lists one) uses) g),
  uses_lead all starts (with_list lists one) uses many g,
)

pub starts_long : (at : ℕ) (lists : List (List ℕ)) → length (list_starts at lists) ≡ length lists
starts_long at [] = refl
starts_long at (list ∷ lists) = ap suc (starts_long (at + length (padded_text at list)) lists)

pub both_map : {X Y : Type 0} (P : List ℕ → Y → Type 0) (f : X → List ℕ) (xs : List X) (ys : List Y) → Both P (map f xs) ys → Both (λ x y. P (f x) y) xs ys
both_map P f [] [] h = h
both_map P f [] (y ∷ ys) h = h
both_map P f (x ∷ xs) [] h = h
both_map P f (x ∷ xs) (y ∷ ys) h = (h.0, both_map P f xs ys h.1)
