-- What a set of lists is after one more.
use Rattle.std.specs.Prelude.{Vec}
use Rattle.std.specs.declared.alloc.Global.{Global}
use Rattle.std.proofs.Common.{◌≡◌, ℕ, suc, List, [], ◌∷◌, ◌++◌, Bool, true, false, ◌||◌, not, nat_eq, if◌then◌else◌, cond, ◌+◌, zero, drop, length, Some, None, slice_get, append_assoc, arith, refl, sym, ap, ◌∙◌}
use Rattle.std.proofs.lemmas.List.{map-append, append-nil}
use Rattle.std.proofs.lemmas.Option.{slice_get-map}
use Rattle.std.specs.List.{list_any, position_or_len}
use Rattle.std.specs.Option.{option_map}
use Rattle.std.specs.Cmp.Lexicographic.{pointwise}
use Rattle.indexmap.specs.IndexSet.{insert_key}
use Rattle.code_write.specs.Lists.{lists_in, is_same, with_list, index_of, one_list, list_at, sized}

abbrev pub same_items : Vec ℕ Global → Vec ℕ Global → Bool
same_items x y = pointwise nat_eq x.items y.items

pub any_in : (p : List ℕ → Bool) (keys : List (Vec ℕ Global)) → list_any (λ v. p v.items) keys ≡ list_any p (lists_in keys)
any_in p [] = refl
any_in p (k ∷ keys) = ap (λ b. p k.items || b) (any_in p keys)

pub place_in : (p : List ℕ → Bool) (keys : List (Vec ℕ Global)) → position_or_len (λ v. p v.items) keys ≡ position_or_len p (lists_in keys)
place_in p [] = refl
place_in p (k ∷ keys) = ap (λ n. cond (not (p k.items)) (1 + n) 0) (place_in p keys)

pub lists_if : (b : Bool) (keys : List (Vec ℕ Global)) (list : Vec ℕ Global) → lists_in (if b then keys else keys ++ list ∷ []) ≡ (if b then lists_in keys else lists_in keys ++ list.items ∷ [])
lists_if true keys list = refl
lists_if false keys list = map-append (λ (v : Vec ℕ Global). v.items) keys (list ∷ [])

pub lists_with_key : (keys : List (Vec ℕ Global)) (list : Vec ℕ Global) → lists_in (insert_key same_items keys list) ≡ with_list (lists_in keys) list.items
lists_with_key keys list =
    lists_if (list_any (same_items list) keys) keys list
    ∙ ap (λ b. if b then lists_in keys else lists_in keys ++ list.items ∷ []) (any_in (is_same list.items) keys)

pub index_of_key : (keys : List (Vec ℕ Global)) (list : Vec ℕ Global) → position_or_len (same_items list) keys ≡ index_of (lists_in keys) list.items
index_of_key keys list = place_in (is_same list.items) keys

-- ---- how long each is

at_drop : (lists : List (List ℕ)) (i n : ℕ) → sized n (drop i lists) ≡ sized n (list_at lists i) ++ sized (suc n) (drop (suc i) lists)
at_drop [] zero n = refl
at_drop [] (suc i) n = refl
at_drop (x ∷ xs) zero n = refl
at_drop (x ∷ xs) (suc i) n = at_drop xs i n

pub sizes_step : (lists : List (List ℕ)) (i : ℕ) (old new : List (ℕ × ℕ)) → new ≡ old ++ sized i (list_at lists i)
    → old ++ sized i (drop i lists) ≡ sized 0 lists → new ++ sized (i + 1) (drop (i + 1) lists) ≡ sized 0 lists
sizes_step lists i old new e h =
    let next : i + 1 ≡ suc i = omega arith in
    rw next (
    ap (λ l. l ++ sized (suc i) (drop (suc i) lists)) e
    ∙ append_assoc old (sized i (list_at lists i)) (sized (suc i) (drop (suc i) lists))
    ∙ ap (λ l. old ++ l) (sym (at_drop lists i i))
    ∙ h
    )

pub size_none : (keys : List (Vec ℕ Global)) (i : ℕ) (old : List (ℕ × ℕ)) → slice_get keys i ≡ None → old ≡ old ++ sized i (list_at (lists_in keys) i)
size_none keys i old h =
    sym (append-nil old)
    ∙ ap (λ o. old ++ sized i (one_list o)) (sym (slice_get-map (λ (v : Vec ℕ Global). v.items) keys i ∙ ap (option_map (λ (v : Vec ℕ Global). v.items)) h))

pub size_some : (keys : List (Vec ℕ Global)) (i n : ℕ) (v : Vec ℕ Global) (old : List (ℕ × ℕ)) → slice_get keys i ≡ Some v → n ≡ length v.items → old ++ (n, i) ∷ [] ≡ old ++ sized i (list_at (lists_in keys) i)
size_some keys i n v old h e =
    ap (λ (m : ℕ). old ++ (m, i) ∷ []) e
    ∙ ap (λ o. old ++ sized i (one_list o)) (sym (slice_get-map (λ (v : Vec ℕ Global). v.items) keys i ∙ ap (option_map (λ (v : Vec ℕ Global). v.items)) h))
