-- How many wildcards what was read has.
use Rattle.std.proofs.Common.{◌≡◌, ◌⊎◌, inl, inr, ℕ, zero, suc, ◌+◌, Bool, true, false, ◌&&◌, ◌||◌, nat_eq, List, [], ◌∷◌, ◌++◌, map, codes, refl, sym, ap, ◌∙◌, arith}
use Rattle.std.specs.List.{list_any}
use Rattle.std.specs.Cmp.Lexicographic.{bytes_decides}
use Rattle.rule_text.specs.declared.pattern.NamePattern.{NamePattern}
use Rattle.rule_text.specs.declared.pattern.Piece.{Piece}
use Rattle.rule_text.specs.declared.pattern.Piece.TheVariants as piece
use Rattle.rule_text.specs.declared.rules.ItemPattern.TheVariants as item
use Rattle.rule_text.specs.declared.rules.TypePattern.{TypePattern}
use Rattle.rule_text.specs.Pieces.{primitives, is_primitive_word, ends_in_brackets}
use Rattle.rule_text.specs.Related.{IsPatternOf, IsItemOf, IsTypeOf, brackets}
use Rattle.rule_text.specs.Spelling.{word_eq}
use Rattle.rule_text.specs.Tokens.{Word}
use Rattle.if_text.specs.Wildcards.{wild_count, name_wilds, are_brackets, bare, item_wilds, type_wilds}

-- ---- names

clash : true ≡ false → ⊥
clash e = cc

exact_none : (us : List ℕ) (ps : List Piece) → wild_count (map (λ u. piece.Exactly u) us ++ ps) ≡ wild_count ps
exact_none [] ps = refl
exact_none (u ∷ us) ps =
    let more : wild_count (map (λ u. piece.Exactly u) us ++ ps) ≡ wild_count ps = exact_none us ps in
    let one : wild_count (piece.Exactly u ∷ (map (λ u. piece.Exactly u) us ++ ps)) ≡ 0 + wild_count (map (λ u. piece.Exactly u) us ++ ps) = refl in
    omega (arith, more, one)

pub wilds_of : (p : NamePattern) (w : Word) → IsPatternOf p w → wild_count p.rest.items ≡ name_wilds w
wilds_of p w is = sym (exact_none p.head.items p.rest.items) ∙ ap wild_count is.pieces

-- ---- types

word_is : (w q : Word) → word_eq w q ≡ true → w ≡ q
word_is w q e = (bytes_decides w q).0 e

left_by : {X : Type 0} (f g : X → Bool) (x : X) (xs : List X) (b : Bool) → f x ≡ b → (list_any (λ x. f x && g x) xs ≡ true → list_any f xs ≡ true)
    → ((f x && g x) || list_any (λ x. f x && g x) xs) ≡ true → (f x || list_any f xs) ≡ true
left_by f g x xs true e more is = ap (λ c. c || list_any f xs) e
left_by f g x xs false e more is = ap (λ c. c || list_any f xs) e ∙ more (sym (ap (λ c. (c && g x) || list_any (λ x. f x && g x) xs) e) ∙ is)

pub any_left : {X : Type 0} (f g : X → Bool) (xs : List X) → list_any (λ x. f x && g x) xs ≡ true → list_any f xs ≡ true
any_left f g [] is = is
any_left f g (x ∷ xs) is = left_by f g x xs (f x) refl (any_left f g xs) is

pub any_wilds : (w : Word) → IsItemOf item.Any w → 1 ≡ item_wilds w
any_wilds w is = ap item_wilds (sym is)

pub primitive_wilds : (w : Word) → IsItemOf item.Primitive w → 1 ≡ item_wilds w
primitive_wilds w is = ap item_wilds (sym is)

other_by : (w : Word) (n : ℕ) (b c d : Bool) → word_eq w (codes "***") ≡ b → word_eq w (codes "%") ≡ c → is_primitive_word w ≡ d → (w ≡ codes "***" → ⊥) → (w ≡ codes "%" → ⊥) → (d ≡ true → n ≡ 0) → (d ≡ false → n ≡ name_wilds w) → n ≡ item_wilds w
other_by w n true c d eb ec ed one two letter name = absurd (one (word_is w (codes "***") eb))
other_by w n false true d eb ec ed one two letter name = absurd (two (word_is w (codes "%") ec))
other_by w n false false true eb ec ed one two letter name = rw (eb, ec, ed) (letter refl)
other_by w n false false false eb ec ed one two letter name = rw (eb, ec, ed) (name refl)

pub no_word : (w q : Word) → is_primitive_word w ≡ true → is_primitive_word q ≡ false → w ≡ q → ⊥
no_word w q is none same =
    let no : true ≡ false = sym is ∙ ap is_primitive_word same ∙ none in
    cc

pub letter_wilds : (u : ℕ) (w : Word) → IsItemOf (item.Letter u) w → 0 ≡ item_wilds w
letter_wilds u w is =
    let word : is_primitive_word w ≡ true = any_left (λ q. word_eq q.0 w) (λ q. word_eq q.1 (u ∷ [])) primitives is in
    other_by w 0 (word_eq w (codes "***")) (word_eq w (codes "%")) true refl refl word (no_word w (codes "***") word refl) (no_word w (codes "%") word refl) (λ e. refl) (λ e. absurd (clash e))

pub class_wilds : (p : NamePattern) (w : Word) (n : ℕ) → IsItemOf (item.Class p) w → n ≡ name_wilds w → n ≡ item_wilds w
class_wilds p w n is same = other_by w n (word_eq w (codes "***")) (word_eq w (codes "%")) false refl refl is.1 is.2 is.3 (λ e. absurd (clash (sym e))) (λ e. same)

-- ---- brackets

all_brackets : (n : ℕ) → are_brackets (brackets n) ≡ true
all_brackets zero = refl
all_brackets (suc n) = all_brackets n

and_false : (a b : Bool) → ((a && false) && b) ≡ true → ⊥
and_false true b is = cc
and_false false b is = cc

three : (a b c : Bool) → ((a && b) && c) ≡ true → (((a && b) ≡ true) × (c ≡ true))
three true true c is = (refl, is)
three true false c is = cc
three false b c is = cc

odd : (c : ℕ) (n : ℕ) → are_brackets (c ∷ brackets n) ≡ true → ⊥
odd c zero is = cc
odd c (suc n) is = and_false (nat_eq c 91) (are_brackets (93 ∷ brackets n)) is

end_by : (c d e : ℕ) (cs : Word) → ((e ∷ cs) ≡ []) ⊎ (ends_in_brackets (e ∷ cs) ≡ true) → ((c ∷ d ∷ e ∷ cs) ≡ []) ⊎ (ends_in_brackets (c ∷ d ∷ e ∷ cs) ≡ true)
end_by c d e cs (inl never) = cc
end_by c d e [] (inr is) = cc
end_by c d e (f ∷ cs) (inr is) = inr is

-- what is brackets alone with brackets behind it ends in them
brackets_end : (front : Word) (n : ℕ) → are_brackets (front ++ brackets n) ≡ true → (front ≡ []) ⊎ (ends_in_brackets front ≡ true)
brackets_end [] n is = inl refl
brackets_end (c ∷ []) n is = absurd (odd c n is)
brackets_end (c ∷ d ∷ []) n is = inr (three (nat_eq c 91) (nat_eq d 93) (are_brackets (brackets n)) is).0
brackets_end (c ∷ d ∷ e ∷ cs) n is = end_by c d e cs (brackets_end (e ∷ cs) n (three (nat_eq c 91) (nat_eq d 93) (are_brackets ((e ∷ cs) ++ brackets n)) is).1)

bare_by : (c : ℕ) (rest : Word) (b : Bool) → are_brackets (c ∷ rest) ≡ b → (b ≡ true → ⊥) → bare (c ∷ rest) ≡ c ∷ bare rest
bare_by c rest true e none = absurd (none refl)
bare_by c rest false e none = rw e refl

none_by : (front : Word) (c : ℕ) → ends_in_brackets (c ∷ front) ≡ false → ((c ∷ front) ≡ []) ⊎ (ends_in_brackets (c ∷ front) ≡ true) → ⊥
none_by front c last (inl never) = cc
none_by front c last (inr is) = clash (sym is ∙ last)

behind_last : (c : ℕ) (front : Word) → ends_in_brackets (c ∷ front) ≡ false → ends_in_brackets front ≡ false
behind_last c [] last = refl
behind_last c (d ∷ []) last = refl
behind_last c (d ∷ e ∷ front) last = last

pub bare_of : (front : Word) (n : ℕ) → ends_in_brackets front ≡ false → bare (front ++ brackets n) ≡ front
bare_of [] zero last = refl
bare_of [] (suc n) last = rw (all_brackets n) refl
bare_of (c ∷ front) n last =
    bare_by c (front ++ brackets n) (are_brackets (c ∷ (front ++ brackets n))) refl (λ is. none_by front c last (brackets_end (c ∷ front) n is))
    ∙ ap (λ ws. c ∷ ws) (bare_of front n (behind_last c front last))

pub type_by : (t : TypePattern) (w : Word) (n : ℕ) → (is : IsTypeOf t w) → n ≡ item_wilds is.front → n ≡ type_wilds w
type_by t w n is same = same ∙ ap item_wilds (sym (bare_of is.front t.depth is.last) ∙ ap bare is.word)
