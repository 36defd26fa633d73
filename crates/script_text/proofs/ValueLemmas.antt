-- Where the last colon stands, and whether something stands behind the first bracket.
use Rattle.std.proofs.Common.{◌≡◌, ◌≢◌, ℕ, suc, ◌+◌, ◌<◌, ◌==◌, Bool, true, false, cond, List, ◌∷◌, length, drop, get_or, Option, Some, None, nat_lt, if◌then◌else◌, take, option_map, refl, sym, ap, ◌∙◌, add-one, drop-cons, eq-eqb, ne_eqb, length-drop, arith}
use Rattle.text_defs.specs.Values.{later, last_colon, has_result, array_of, size_of}
use Rattle.std.specs.Option.{option_and_then}
use Rattle.std.proofs.lemmas.List.{drop-drop}
use Rattle.dalvik_defs.specs.declared.script.Given.{Given}
use Rattle.dalvik_defs.specs.declared.script.Given.TheVariants as given
use Rattle.text_defs.specs.Escapes.{name_of}

later-later : (x y z : Option ℕ) → later (later x y) z ≡ later x (later y z)
later-later (Some n) y z = refl
later-later None y z = refl

later-here : (b : Bool) (i : ℕ) (found : Option ℕ) → later (if b then Some i else None) found ≡ (if b then Some i else found)
later-here true i found = refl
later-here false i found = refl

front : (text : List ℕ) (i : ℕ) → i < length text → drop i text ≡ get_or text i 0 ∷ drop (i + 1) text
front text i below = rw add-one (drop-cons text i 0 below)

-- one byte more
pub colon_more : (text : List ℕ) (i : ℕ) (found new total : Option ℕ) → i < length text → new ≡ (if get_or text i 0 == 58 then Some i else found)
    → later (last_colon i (drop i text)) found ≡ total → later (last_colon (i + 1) (drop (i + 1) text)) new ≡ total
colon_more text i found new total below is so_far =
    let more : last_colon (i + 1) (drop (i + 1) text) ≡ last_colon (suc i) (drop (i + 1) text) = rw add-one refl in
    let step : later (last_colon i (drop i text)) found
    ≡ later (later (last_colon (suc i) (drop (i + 1) text)) (if get_or text i 0 == 58 then Some i else None)) found = rw (front text i below) refl in
    rw more (rw is (
    ap (later (last_colon (suc i) (drop (i + 1) text))) (sym (later-here (get_or text i 0 == 58) i found))
    ∙ sym (later-later (last_colon (suc i) (drop (i + 1) text)) (if get_or text i 0 == 58 then Some i else None) found)
    ∙ sym step ∙ so_far))

result_at : (text : List ℕ) (i : ℕ) (b : Bool) → i < length text → (get_or text i 0 == 41) ≡ b
    → has_result (drop i text) ≡ cond b (nat_lt 0 (length (drop (i + 1) text))) (has_result (drop (i + 1) text))
result_at text i b below is = rw (front text i below) (rw is refl)

pub result_here : (text : List ℕ) (i : ℕ) → i < length text → get_or text i 0 ≡ 41 → has_result (drop i text) ≡ nat_lt (i + 1) (length text)
result_here text i below is = result_at text i true below (eq-eqb (get_or text i 0) 41 is) ∙ grind (arith, length-drop (i + 1) text)

pub result_later : (text : List ℕ) (i : ℕ) → i < length text → get_or text i 0 ≢ 41 → has_result (drop i text) ≡ has_result (drop (i + 1) text)
result_later text i below isnt = result_at text i false below (ne_eqb (get_or text i 0) 41 isnt)

-- what stands before the last colon and what stands behind it
pub array_cut : (text : List ℕ) (colon : ℕ) (item : Option (List ℕ)) (size : Option ℕ) (r : Option Given) → Some colon ≡ last_colon 0 text
    → item ≡ name_of (take colon text) → size ≡ size_of (drop 1 (drop colon text))
    → r ≡ option_and_then (λ i. option_map (given.Array i) size) item → r ≡ array_of text
array_cut text colon item size r at front back is =
    let behind : drop (suc colon) text ≡ drop 1 (drop colon text) = rw (drop-drop 1 colon text, add-one) refl in
    rw is (rw (front, back, (sym behind), (sym at)) refl)
