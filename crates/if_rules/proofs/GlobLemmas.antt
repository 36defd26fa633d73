-- What wildcards take.
use Rattle.std.proofs.Common.{◌≡◌, ◌<◌, ◌≤◌, ◌+◌, ◌-◌, ℕ, zero, suc, Bool, true, false, List, [], ◌∷◌, ◌++◌, map, take, drop, length, refl, sym, ap, ◌∙◌, arith}
use Rattle.std.proofs.lemmas.List.{append-nil, append_assoc, drop_all, drop-drop, length-drop, take_all}
use Rattle.rule_text.specs.Related.{IsPatternOf}
use Rattle.rule_text.specs.Tokens.{Word}
use Rattle.rule_text.specs.declared.pattern.Named.{Named}
use Rattle.rule_text.specs.declared.pattern.NamePattern.{NamePattern}
use Rattle.rule_text.specs.declared.pattern.Piece.{Piece}
use Rattle.rule_text.specs.declared.pattern.Piece.TheVariants as piece
use Rattle.dalvik_defs.specs.Names.{Text}
use Rattle.if_rules.specs.Matched.{star_taken, taken, own_texts, glob_texts, name_texts}

-- ---- a wildcard for many

here_by : (f : List ℕ → Bool) (text : Text) → 0 < length text → f text ≡ true → star_taken f text ≡ []
here_by f [] some is = absurd (omega (arith, some))
here_by f (u ∷ us) some is = rw is refl

step_by : (f : List ℕ → Bool) (u : ℕ) (us : Text) → f (u ∷ us) ≡ false → star_taken f (u ∷ us) ≡ u ∷ star_taken f us
step_by f u us is = rw is refl

-- the rest is matched from here
pub star_here : (f : List ℕ → Bool) (text : Text) (at : ℕ) → at < length text → f (drop at text) ≡ true → star_taken f text ≡ take at text ++ star_taken f (drop at text) → take at text ≡ star_taken f text
star_here f text at inside is so_far = sym (so_far ∙ ap (λ xs. take at text ++ xs) (here_by f (drop at text) (more text at inside) is) ∙ append-nil (take at text))
  where
    more : (text : Text) (at : ℕ) → at < length text → 0 < length (drop at text)
    more [] at inside = absurd (omega (arith, inside))
    more (u ∷ us) zero inside = inside
    more (u ∷ us) (suc at) inside = more us at (omega (arith, inside))

further : (f : List ℕ → Bool) (text : Text) (at : ℕ) → at < length text → f (drop at text) ≡ false → take at text ++ star_taken f (drop at text) ≡ take (at + 1) text ++ star_taken f (drop (at + 1) text)
further f [] at inside is = absurd (omega (arith, inside))
further f (u ∷ us) zero inside is = step_by f u us is
further f (u ∷ us) (suc at) inside is =
    let e : suc (at + 1) ≡ suc at + 1 = omega arith in
    ap (λ xs. u ∷ xs) (further f us at (omega (arith, inside)) is) ∙ ap (λ k. take k (u ∷ us) ++ star_taken f (drop k (u ∷ us))) e

-- it is not
pub star_more : (f : List ℕ → Bool) (text : Text) (at : ℕ) → at < length text → f (drop at text) ≡ false → star_taken f text ≡ take at text ++ star_taken f (drop at text) → star_taken f text ≡ take (at + 1) text ++ star_taken f (drop (at + 1) text)
star_more f text at inside is so_far = so_far ∙ further f text at inside is

pub star_end : (f : List ℕ → Bool) (text : Text) (at : ℕ) → length text ≤ at → star_taken f text ≡ take at text ++ star_taken f (drop at text) → take at text ≡ star_taken f text
star_end f text at end so_far = sym (so_far ∙ ap (λ xs. take at text ++ star_taken f xs) (drop_all at text end) ∙ append-nil (take at text))

-- what is behind a place
pub behind_all : (text : Text) (at : ℕ) → take (length text - at) (drop at text) ≡ drop at text
behind_all text at = let size : length (drop at text) ≡ length text - at = length-drop at text in take_all (length text - at) (drop at text) (omega (arith, size))

-- ---- pieces

pub none_behind : (text : Text) (count : ℕ) → length text ≤ count → [] ≡ drop count text
none_behind text count past = sym (drop_all count text past)

size_of : (text : Text) (count : ℕ) → count ≤ length text → length (take count text) ≡ count
size_of [] zero inside = refl
size_of [] (suc count) inside = absurd (omega (arith, inside))
size_of (u ∷ us) zero inside = refl
size_of (u ∷ us) (suc count) inside = ap suc (size_of us count (omega (arith, inside)))

-- what one piece took, and the rest
pub texts_more : (n : Named) (p : Piece) (all ps : List Piece) (text rest : Text) (count : ℕ) (out new init : List Text) → all ≡ p ∷ ps → take count text ≡ taken n p ps text → count ≤ length text → rest ≡ drop count text
    → new ≡ out ++ own_texts n p (take count text) → out ++ glob_texts n all text ≡ init → new ++ glob_texts n ps rest ≡ init
texts_more n p all ps text rest count out new init whole took inside is adds so_far =
    let size : count ≡ length (taken n p ps text) = sym (size_of text count inside) ∙ ap length took in
    let there : rest ≡ drop (length (taken n p ps text)) text = is ∙ ap (λ k. drop k text) size in
    ap (λ xs. xs ++ glob_texts n ps rest) (adds ∙ ap (λ t. out ++ own_texts n p t) took) ∙ append_assoc out (own_texts n p (taken n p ps text)) (glob_texts n ps rest)
    ∙ ap (λ r. out ++ (own_texts n p (taken n p ps text) ++ glob_texts n ps r)) there ∙ ap (λ qs. out ++ glob_texts n qs text) (sym whole) ∙ so_far

take_one : (text : Text) → drop (length (take 1 text)) text ≡ drop 1 text
take_one [] = refl
take_one (u ∷ us) = refl

exact_texts : (n : Named) (us : List ℕ) (ps : List Piece) (text : Text) → glob_texts n (map (λ u. piece.Exactly u) us ++ ps) text ≡ glob_texts n ps (drop (length us) text)
exact_texts n [] ps text = refl
exact_texts n (u ∷ us) ps text =
    let e : 1 + length us ≡ suc (length us) = omega arith in
    ap (glob_texts n (map (λ u. piece.Exactly u) us ++ ps)) (take_one text) ∙ exact_texts n us ps (drop 1 text) ∙ ap (glob_texts n ps) (drop-drop (length us) 1 text ∙ ap (λ k. drop k text) e)

-- what is behind the units at the front of a pattern
pub behind_head : (n : Named) (p : NamePattern) (w : Word) (text : Text) → IsPatternOf p w → glob_texts n p.rest.items (drop (length p.head.items) text) ≡ name_texts n w text
behind_head n p w text is = sym (exact_texts n p.head.items p.rest.items text) ∙ ap (λ qs. glob_texts n qs text) is.pieces
