-- Each number of a list gets its place there.
use Rattle.std.proofs.Common.{◌≡◌, ◌≢◌, ◌<◌, ◌+◌, ℕ, suc, List, [], ◌∷◌, length, refl, sym, ap, subst, ◌∙◌, arith, get_or, set, get_or-set_same, get_or-set_other, length-set}
use Rattle.std.specs.Prelude.{Bool, true, false, nat_eq, slice_get, slice_index_or, slice_set, Some}
use Rattle.std.specs.List.{list_any}
use Rattle.std.proofs.lemmas.Bool.{eqb-true, eqb-false, or_parts}
use Rattle.dex_pools.specs.Numbering.{places_from}

-- a number that does not stand in the list keeps what it had
pub kept : (place : ℕ) (places ns : List ℕ) (k d : ℕ) → list_any (nat_eq k) ns ≡ false → slice_index_or (places_from place places ns) k d ≡ slice_index_or places k d
kept place places [] k d e = refl
kept place places (n ∷ ns) k d e =
    let parts = or_parts (nat_eq k n) (list_any (nat_eq k) ns) e in
    let other : k ≢ n = eqb-false k n parts.0 in
    kept (suc place) (slice_set places n place) ns k d parts.1 ∙ get_or-set_other places n k place d other

-- where a number stands in the list, and that it got this place
pub record HasPlace (place : ℕ) (ns : List ℕ) (k got : ℕ) : Type 0 where
  pub at : ℕ
  pub stands : slice_get ns at ≡ Some k
  pub is : got ≡ place + at

pub placed : (place : ℕ) (places ns : List ℕ) (k d : ℕ) → k < length places → list_any (nat_eq k) ns ≡ true → HasPlace place ns k (slice_index_or (places_from place places ns) k d)
placed place places [] k d lt e = absurd cc
placed place places (n ∷ ns) k d lt e = by_tail (list_any (nat_eq k) ns) refl (placed (suc place) (slice_set places n place) ns k d (subst (λ l. k < l) (sym (length-set places n place)) lt))
  where
    by_tail : (t : Bool) → list_any (nat_eq k) ns ≡ t → (list_any (nat_eq k) ns ≡ true → HasPlace (suc place) ns k (slice_index_or (places_from (suc place) (slice_set places n place) ns) k d)) → HasPlace place (n ∷ ns) k (slice_index_or (places_from place places (n ∷ ns)) k d)
    by_tail true s later = let h = later s in record { at = suc h.at; stands = h.stands; is = omega (arith, h.is) }
    by_tail false s later =
        let same : k ≡ n = by_head (nat_eq k n) refl in
        let now : slice_index_or (places_from place places (n ∷ ns)) k d ≡ place = kept (suc place) (slice_set places n place) ns k d s ∙ ap (λ (m : ℕ). get_or (set places m place) k d) (sym same) ∙ get_or-set_same places k place d lt in
        record { at = 0; stands = ap (λ (m : ℕ). Some m) (sym same); is = omega (arith, now) }
      where
        by_head : (t : Bool) → nat_eq k n ≡ t → k ≡ n
        by_head true h = eqb-true k n h
        by_head false h = let no : false ≡ true = rw (h, s) at e in absurd cc

pub places_long : (place : ℕ) (places ns : List ℕ) → length (places_from place places ns) ≡ length places
places_long place places [] = refl
places_long place places (n ∷ ns) = places_long (suc place) (slice_set places n place) ns ∙ length-set places n place
