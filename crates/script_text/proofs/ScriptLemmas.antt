-- Lines and their numbers.
use Rattle.std.proofs.Common.{◌≡◌, ◌≢◌, ℕ, ◌+◌, ◌^◌, ◌<◌, ◌==◌, Bool, true, false, List, [], ◌∷◌, length, get_or, drop, map, Option, Some, None, Result, Ok, Err, Bor, refl, sym, ap, ◌∙◌, add-one, arith}
use Rattle.std.specs.Prelude.{zero, suc}
use Rattle.std.specs.List.{slice_split, onto_first}
use Rattle.text_defs.specs.Words.{lines_of}
use Rattle.text_defs.specs.Plays.{with_line}
use Rattle.text_defs.specs.declared.play.Play.{Play}
use Rattle.script_text.specs.Named.{HasNumbers}
use Rattle.std.proofs.lemmas.List.{get_or-map}

behind_first : (x : ℕ) (xs : List ℕ) (parts : List (List ℕ)) (i : ℕ) → ((j : ℕ) → get_or parts j [] ≢ [] → j < length xs)
    → get_or (onto_first x parts) i [] ≢ [] → i < length (x ∷ xs)
behind_first x xs [] zero more h = omega arith
behind_first x xs [] (suc i) more h = absurd (h refl)
behind_first x xs (part ∷ parts) zero more h = omega arith
behind_first x xs (part ∷ parts) (suc i) more h = let below : suc i < length xs = more (suc i) h in omega (arith, below)

behind_end : (x : ℕ) (xs : List ℕ) (parts : List (List ℕ)) (i : ℕ) → ((j : ℕ) → get_or parts j [] ≢ [] → j < length xs)
    → get_or ([] ∷ parts) i [] ≢ [] → i < length (x ∷ xs)
behind_end x xs parts zero more h = absurd (h refl)
behind_end x xs parts (suc i) more h = let below : i < length xs = more i h in omega (arith, below)

by_test : (p : ℕ → Bool) (x : ℕ) (xs : List ℕ) (b : Bool) (i : ℕ) → ((j : ℕ) → get_or (slice_split p xs) j [] ≢ [] → j < length xs) → p x ≡ b
    → get_or (slice_split p (x ∷ xs)) i [] ≢ [] → i < length (x ∷ xs)
by_test p x xs true i more e h = behind_end x xs (slice_split p xs) i more (rw e at h)
by_test p x xs false i more e h = behind_first x xs (slice_split p xs) i more (rw e at h)

-- a part that isn't empty has an element of the list
part_below : (p : ℕ → Bool) (xs : List ℕ) (i : ℕ) → get_or (slice_split p xs) i [] ≢ [] → i < length xs
part_below p [] zero h = absurd (h refl)
part_below p [] (suc i) h = absurd (h refl)
part_below p (x ∷ xs) i h = by_test p x xs (p x) i (part_below p xs) refl h

pub lines_have_numbers : (text : List ℕ) (lines : List (List ℕ)) → length text < 2 ^ 32 → lines ≡ lines_of text → HasNumbers lines
lines_have_numbers text lines short is = rw is (record {
  below = λ i h. let b : i < length text = part_below (λ c. c == 10) text i h in omega (arith, b, short);
})

-- an empty line is in the grammar
refused_is_full : (play : Play) (line : List ℕ) → with_line play line ≡ None → line ≢ []
refused_is_full play [] h = cc
refused_is_full play (c ∷ cs) h = λ e. cc

-- so a line that isn't in it has a number
pub number_fits : (lines : List (Bor (List ℕ))) (i : ℕ) (play : Play) (d : Bor (List ℕ)) → HasNumbers (map (λ l. l.now) lines) → i < length lines
    → with_line play (get_or lines i d).now ≡ None → i + 1 < 2 ^ 32
number_fits lines i play d numbers below refused =
    let is : get_or (map (λ l. l.now) lines) i [] ≡ (get_or lines i d).now = get_or-map (λ l. l.now) lines i d [] below in
    numbers.below i (λ e. refused_is_full play (get_or lines i d).now refused (sym is ∙ e))
