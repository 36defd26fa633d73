-- How many bytes lists have without the longest one, list by list.
use Rattle.std.specs.Prelude.{Vec}
use Rattle.std.specs.declared.alloc.Global.{Global}
use Rattle.std.proofs.Common.{◌≡◌, ℕ, zero, suc, ◌+◌, ◌<◌, ◌≤◌, ◌^◌, ◌-◌, min, max, List, [], ◌∷◌, length, drop, refl, sym, ap, ◌∙◌, subst, arith, Some, None, slice_get}
use Rattle.std.proofs.lemmas.Option.{slice_get-map}
use Rattle.std.specs.Option.{option_map}
use Rattle.code_write.specs.Lists.{lists_in, text_in, list_in}
use Rattle.program_model.specs.Cells.{capped}
use Rattle.inline_calls.specs.Crowded.{bytes_before}

pub lists_long : (keys : List (Vec ℕ Global)) → length (lists_in keys) ≡ length keys
lists_long [] = refl
lists_long (k ∷ keys) = omega (arith, lists_long keys)

-- ---- how long a list is

at_key : (keys : List (Vec ℕ Global)) (i : ℕ) → slice_get (lists_in keys) i ≡ option_map (λ (v : Vec ℕ Global). v.items) (slice_get keys i)
at_key keys i = slice_get-map (λ (v : Vec ℕ Global). v.items) keys i

pub length_none : (keys : List (Vec ℕ Global)) (i : ℕ) → slice_get keys i ≡ None → 0 ≡ length (list_in (lists_in keys) i)
length_none keys i h = sym (ap (λ o. length (text_in o)) (at_key keys i ∙ ap (option_map (λ (v : Vec ℕ Global). v.items)) h))

pub length_some : (keys : List (Vec ℕ Global)) (i n : ℕ) (v : Vec ℕ Global) → slice_get keys i ≡ Some v → n ≡ length v.items → n ≡ length (list_in (lists_in keys) i)
length_some keys i n v h e = e ∙ sym (ap (λ o. length (text_in o)) (at_key keys i ∙ ap (option_map (λ (v : Vec ℕ Global). v.items)) h))

-- ---- all lists

at_drop : (lists : List (List ℕ)) (i l : ℕ) → i < length lists
    → bytes_before l (drop i lists) ≡ min l (length (list_in lists i)) + bytes_before (max l (length (list_in lists i))) (drop (suc i) lists)
at_drop [] i l lt = absurd (omega (arith, lt))
at_drop (x ∷ xs) zero l lt = refl
at_drop (x ∷ xs) (suc i) l lt = at_drop xs i l (omega arith)

caps_more : (b s t n x : ℕ) → s ≡ n + t → capped (b + s) ≡ x → capped (min (b + n) (2 ^ 64 - 1) + t) ≡ x
caps_more b s t n x e f = omega arith

pub bytes_next : (lists : List (List ℕ)) (i n b l c m x : ℕ) → i < length lists → n ≡ length (list_in lists i) → c ≡ min (b + min l n) (2 ^ 64 - 1) → m ≡ max l n
    → capped (b + bytes_before l (drop i lists)) ≡ x → capped (c + bytes_before m (drop (i + 1) lists)) ≡ x
bytes_next lists i n b l c m x lt is sum longer was =
    let s : i + 1 ≡ suc i = omega arith in
    let h : bytes_before l (drop i lists) ≡ min l n + bytes_before (max l n) (drop (suc i) lists) =
    at_drop lists i l lt ∙ ap (λ (k : ℕ). min l k + bytes_before (max l k) (drop (suc i) lists)) (sym is) in
    ap (λ (k : ℕ). capped (c + bytes_before m (drop k lists))) s
    ∙ ap (λ (k : ℕ). capped (c + bytes_before k (drop (suc i) lists))) longer
    ∙ ap (λ (k : ℕ). capped (k + bytes_before (max l n) (drop (suc i) lists))) sum
    ∙ caps_more b (bytes_before l (drop i lists)) (bytes_before (max l n) (drop (suc i) lists)) (min l n) x h was

drop_all : (lists : List (List ℕ)) (i : ℕ) → length lists ≤ i → drop i lists ≡ []
drop_all [] zero le = refl
drop_all [] (suc i) le = refl
drop_all (x ∷ xs) zero le = absurd (omega (arith, le))
drop_all (x ∷ xs) (suc i) le = drop_all xs i (omega arith)

pub bytes_all : (lists : List (List ℕ)) (i b l x : ℕ) → length lists ≤ i → b < 2 ^ 64 → capped (b + bytes_before l (drop i lists)) ≡ x → b ≡ x
bytes_all lists i b l x le small was =
    let e : capped (b + 0) ≡ x = sym (ap (λ (k : List (List ℕ)). capped (b + bytes_before l k)) (drop_all lists i le)) ∙ was in
    omega arith
