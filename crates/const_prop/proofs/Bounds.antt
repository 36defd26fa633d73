-- What calls on objects bring is joined of what the classes under the named one find: what is at or above each of these, and at or
-- above joins of such, is at or above it.
use Rattle.std.proofs.Common.{◌≡◌, ℕ, zero, suc, ◌<◌, Bool, true, false, nat_eq, List, [], ◌∷◌, length, Option, Some, None, refl, ap, subst, arith}
use Rattle.std.specs.Prelude.{◌&&◌, cond, flat_map, fold, if◌then◌else◌, not, slice_get}
use Rattle.std.specs.List.{list_any, range_with_len}
use Rattle.lemmas.proofs.Bools.{and_left, and_right}
use Rattle.lemmas.proofs.Numbers.{same_number}
use Rattle.program_model.specs.declared.program.MethodAt.{MethodAt}
use Rattle.program_model.specs.declared.program.Program.{Program}
use Rattle.class_defs.specs.Finding.{Clash, Finds, Nothing, Search, finds_among, finds_at, finds_virtual, found_or}
use Rattle.class_defs.specs.Members.{own_virtual}
use Rattle.class_defs.specs.Places.{above_places, chain_of, interface_places, is_under, walks}
use Rattle.hierarchy.specs.Naming.{definers_of}
use Rattle.hierarchy.specs.Touring.{subclasses_of}
use Rattle.receivers.proofs.Owned.{definers_short, finds_own}
use Rattle.receivers.proofs.Ranges.{at_in, in_filter, subclasses_short}
use Rattle.domains.specs.Values.{Parts, least_value, value_joined}
use Rattle.facts.specs.declared.facts.Facts.{Facts}
use Rattle.const_prop.specs.Given.{by_found, by_search, found_value, search_value, virtual_value, with_class, with_definer, with_maybe}

module _ (p : Program) (t : Facts) (name proto : ℕ) (IsBelow : Parts → Type 0) (least : IsBelow least_value) (joined : (x y : Parts) → IsBelow x → IsBelow y → IsBelow (value_joined x y)) where
  all_joined : (f : Parts → ℕ → Parts) (xs : List ℕ) (z : Parts) → IsBelow z → ((v : Parts) (n x : ℕ) → slice_get xs n ≡ Some x → IsBelow v → IsBelow (f v x)) → IsBelow (fold f z xs)
  all_joined f [] z i h = i
  all_joined f (x ∷ xs) z i h = all_joined f xs (f z x) (h z 0 x refl i) (λ v n y e. h v (suc n) y e)

  -- a class is under itself
  under_itself : (n c : ℕ) → walks (above_places p) n c c ≡ true
  under_itself zero c = same_number c
  under_itself (suc n) c = ap (λ b. cond b true (list_any (λ u. walks (above_places p) n u c) (above_places p c))) (same_number c)

  module _ (class : ℕ) (short : class < length p.classes) (each : (c : ℕ) → c < length p.classes → is_under p c class ≡ true → IsBelow (search_value p t (finds_at p c name proto))) where
    abbrev among : ℕ → Search
    among c = finds_among p (flat_map (interface_places p) (chain_of p (Some c))) name proto

    own_below : (c : ℕ) (at : MethodAt) → c < length p.classes → is_under p c class ≡ true → own_virtual p name proto c ≡ Some at → IsBelow (found_value p t (Some at))
    own_below c at l u e = subst (λ y. IsBelow (search_value p t y)) (ap (λ o. found_or o (among c)) (finds_own p name proto c at (omega (arith, l)) e)) (each c l u)

    maybe_below : (v : Parts) (c : ℕ) → c < length p.classes → is_under p c class ≡ true → IsBelow v → (o : Option MethodAt) → own_virtual p name proto c ≡ o → IsBelow (with_maybe p t v o)
    maybe_below v c l u i None e = i
    maybe_below v c l u i (Some at) e = joined v (found_value p t (Some at)) i (own_below c at l u e)

    definer_below : (v : Parts) (c : ℕ) → c < length p.classes → IsBelow v → IsBelow (with_definer p t name proto class v c)
    definer_below v c l i = by (not (nat_eq c class) && is_under p c class) refl
      where
        by : (b : Bool) → (not (nat_eq c class) && is_under p c class) ≡ b → IsBelow (if b then with_maybe p t v (own_virtual p name proto c) else v)
        by true e = maybe_below v c l (and_right (not (nat_eq c class)) (is_under p c class) e) i (own_virtual p name proto c) refl
        by false e = i

    itself : IsBelow (search_value p t (finds_at p class name proto))
    itself = each class short (under_itself (length p.classes) class)

    class_below : (v : Parts) (n c : ℕ) → slice_get (subclasses_of p class) n ≡ Some c → IsBelow v → IsBelow (with_class p t name proto v c)
    class_below v n c e i = joined v (search_value p t (finds_at p c name proto)) i (each c (subclasses_short p class n c e) under)
      where
        under : is_under p c class ≡ true
        under = and_left (is_under p c class) (not (nat_eq c class)) (in_filter (λ d. is_under p d class && not (nat_eq d class)) (range_with_len 0 (length p.classes)) c (at_in (subclasses_of p class) n c e)).1

    search_below : (y : Search) → IsBelow (search_value p t y) → IsBelow (by_search p t name proto (subclasses_of p class) y)
    search_below Nothing i = i
    search_below Clash i = all_joined (with_class p t name proto) (subclasses_of p class) least_value least class_below
    search_below (Finds at) i = all_joined (with_class p t name proto) (subclasses_of p class) (found_value p t (Some at)) i class_below

    found_below : (o : Option MethodAt) → finds_virtual p name proto class ≡ o → IsBelow (by_found p t name proto class o)
    found_below (Some at) e =
        all_joined (with_definer p t name proto class) (definers_of p name proto) (found_value p t (Some at)) (subst (λ y. IsBelow (search_value p t y)) (ap (λ o. found_or o (among class)) e) itself)
        (λ v n c k i. definer_below v c (definers_short p name proto n c k) i)
    found_below None e = search_below (finds_at p class name proto) itself

    pub virtual_bounded : IsBelow (virtual_value p t name proto class)
    virtual_bounded = found_below (finds_virtual p name proto class) refl
