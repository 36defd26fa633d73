-- What a set of lists is after one more.
use Rattle.std.specs.Prelude.{Vec}
use Rattle.std.specs.declared.alloc.Global.{Global}
use Rattle.std.proofs.Common.{◌≡◌, ℕ, suc, List, [], ◌∷◌, ◌++◌, length, false, if◌then◌else◌, Some, ◌+◌, ◌<◌, not-suc-le-zero, zero, drop, ◌==◌, true≢false, length-append, append_assoc, arith, refl, sym, ap, ◌∙◌}
use Rattle.std.specs.List.{list_any, position_or_len}
use Rattle.indexmap.specs.IndexSet.{insert_key}
use Rattle.code_write.proofs.Known.{same_items, lists_if, any_in, place_in}
use Rattle.dex_write.specs.Numbers.{up}
use Rattle.dex_write.specs.Lists.{lists_in, is_same, with_list, index_of, lists_text, list_starts, padded_text, list_at}

with_some : (lists : List (List ℕ)) (list : List ℕ) → 0 < length list → (if list_any (is_same list) lists then lists else lists ++ list ∷ []) ≡ with_list lists list
with_some lists [] lt = absurd (not-suc-le-zero lt)
with_some lists (n ∷ ns) lt = refl

index_some : (lists : List (List ℕ)) (list : List ℕ) → 0 < length list → Some (position_or_len (is_same list) lists) ≡ index_of lists list
index_some lists [] lt = absurd (not-suc-le-zero lt)
index_some lists (n ∷ ns) lt = refl

pub lists_with_key : (keys : List (Vec ℕ Global)) (list : Vec ℕ Global) → 0 < length list.items → lists_in (insert_key same_items keys list) ≡ with_list (lists_in keys) list.items
lists_with_key keys list lt =
    lists_if (list_any (same_items list) keys) keys list
    ∙ ap (λ b. if b then lists_in keys else lists_in keys ++ list.items ∷ []) (any_in (is_same list.items) keys)
    ∙ with_some (lists_in keys) list.items lt

pub index_of_key : (keys : List (Vec ℕ Global)) (list : Vec ℕ Global) → 0 < length list.items → Some (position_or_len (same_items list) keys) ≡ index_of (lists_in keys) list.items
index_of_key keys list lt = ap (λ n. Some n) (place_in (is_same list.items) keys) ∙ index_some (lists_in keys) list.items lt

pub not_empty : (xs : List ℕ) → false ≡ (length xs == 0) → 0 < length xs
not_empty [] h = absurd (true≢false (sym h))
not_empty (x ∷ xs) h = omega arith

-- ---- lists one behind another

text_both : (at : ℕ) (xs ys : List (List ℕ)) → lists_text at (xs ++ ys) ≡ lists_text at xs ++ lists_text (at + length (lists_text at xs)) ys
text_both at [] ys = ap (λ n. lists_text n ys) (omega arith)
text_both at (x ∷ xs) ys =
    let one : List ℕ = padded_text at x in
    let next : ℕ = at + length one in
    let same : next + length (lists_text next xs) ≡ at + length (one ++ lists_text next xs) = omega (arith, length-append one (lists_text next xs)) in
    ap (λ (l : List ℕ). one ++ l) (text_both next xs ys ∙ ap (λ n. lists_text next xs ++ lists_text n ys) same) ∙ sym (append_assoc one (lists_text next xs) (lists_text (at + length (one ++ lists_text next xs)) ys))

starts_both : (at : ℕ) (xs ys : List (List ℕ)) → list_starts at (xs ++ ys) ≡ list_starts at xs ++ list_starts (at + length (lists_text at xs)) ys
starts_both at [] ys = ap (λ n. list_starts n ys) (omega arith)
starts_both at (x ∷ xs) ys =
    let one : List ℕ = padded_text at x in
    let next : ℕ = at + length one in
    let same : next + length (lists_text next xs) ≡ at + length (one ++ lists_text next xs) = omega (arith, length-append one (lists_text next xs)) in
    ap (λ (l : List ℕ). up at ∷ l) (starts_both next xs ys ∙ ap (λ n. list_starts next xs ++ list_starts n ys) same)

at_drop : (lists : List (List ℕ)) (i : ℕ) → drop i lists ≡ list_at lists i ++ drop (suc i) lists
at_drop [] zero = refl
at_drop [] (suc i) = refl
at_drop (x ∷ xs) zero = refl
at_drop (x ∷ xs) (suc i) = at_drop xs i

split_at : (lists : List (List ℕ)) (i : ℕ) → drop i lists ≡ list_at lists i ++ drop (i + 1) lists
split_at lists i = let e : i + 1 ≡ suc i = omega arith in rw e (at_drop lists i)

behind_old : (base : ℕ) (old one : List ℕ) → base + length (old ++ one) ≡ base + length old + length one
behind_old base old one = omega (arith, length-append old one)

pub bytes_step : (base : ℕ) (lists : List (List ℕ)) (i : ℕ) (old new : List ℕ) → new ≡ old ++ lists_text (base + length old) (list_at lists i)
    → old ++ lists_text (base + length old) (drop i lists) ≡ lists_text base lists → new ++ lists_text (base + length new) (drop (i + 1) lists) ≡ lists_text base lists
bytes_step base lists i old new e h =
    let at : ℕ = base + length old in
    let one : List ℕ = lists_text at (list_at lists i) in
    let whole : lists_text at (drop i lists) ≡ one ++ lists_text (at + length one) (drop (i + 1) lists) = ap (lists_text at) (split_at lists i) ∙ text_both at (list_at lists i) (drop (i + 1) lists) in
    ap (λ l. l ++ lists_text (base + length l) (drop (i + 1) lists)) e
    ∙ ap (λ n. (old ++ one) ++ lists_text n (drop (i + 1) lists)) (behind_old base old one)
    ∙ append_assoc old one (lists_text (at + length one) (drop (i + 1) lists))
    ∙ ap (λ l. old ++ l) (sym whole) ∙ h

pub starts_step : (base : ℕ) (lists : List (List ℕ)) (i : ℕ) (old new starts more : List ℕ) → new ≡ old ++ lists_text (base + length old) (list_at lists i)
    → more ≡ starts ++ list_starts (base + length old) (list_at lists i)
    → starts ++ list_starts (base + length old) (drop i lists) ≡ list_starts base lists → more ++ list_starts (base + length new) (drop (i + 1) lists) ≡ list_starts base lists
starts_step base lists i old new starts more e f h =
    let at : ℕ = base + length old in
    let one : List ℕ = lists_text at (list_at lists i) in
    let here : List ℕ = list_starts at (list_at lists i) in
    let whole : list_starts at (drop i lists) ≡ here ++ list_starts (at + length one) (drop (i + 1) lists) = ap (list_starts at) (split_at lists i) ∙ starts_both at (list_at lists i) (drop (i + 1) lists) in
    ap (λ l. l ++ list_starts (base + length new) (drop (i + 1) lists)) f
    ∙ ap (λ l. (starts ++ here) ++ list_starts (base + length l) (drop (i + 1) lists)) e
    ∙ ap (λ n. (starts ++ here) ++ list_starts n (drop (i + 1) lists)) (behind_old base old one)
    ∙ append_assoc starts here (list_starts (at + length one) (drop (i + 1) lists))
    ∙ ap (λ l. starts ++ l) (sym whole) ∙ h
