-- Types by their words.
use Rattle.std.proofs.Common.{◌≡◌, ℕ, zero, suc, ◌+◌, ◌-◌, ◌<◌, ◌≤◌, Bool, true, false, true≢false, List, [], ◌∷◌, ◌++◌, length, map, take, drop, Option, Some, None, refl, sym, ap, ◌∙◌, arith, codes, append_assoc, ◌⊎◌, inl, inr}
use Rattle.std.specs.Prelude.{◌&&◌, ◌||◌, if◌then◌else◌}
use Rattle.std.specs.Cmp.Lexicographic.{bytes_decides}
use Rattle.std.proofs.lemmas.List.{append-nil, length-append}
use Rattle.rule_text.specs.Tokens.{Word}
use Rattle.rule_text.specs.Spelling.{word_eq}
use Rattle.rule_text.specs.Pieces.{is_letter_of, is_primitive_word, ends_in_brackets}
use Rattle.rule_text.specs.declared.rules.TypePattern.{TypePattern}
use Rattle.rule_text.specs.Related.{brackets, IsItemOf, IsTypeOf}
use Rattle.dalvik_defs.specs.Names.{Text, text_eq, is_class_type, is_array, item_of}
use Rattle.rule_text.specs.declared.pattern.Named.TheVariants as named
use Rattle.rule_defs.specs.Patterns.{matches, inner, is_star, class_name_fits, is_primitive, is_primitive_of, item_fits, without_brackets, type_fits_in, type_fits}
use Rattle.std.specs.Prelude.{Result, IfOk}
use Rattle.std.proofs.lemmas.Result.{IfOk-weaker}
use Rattle.std.proofs.Common.{subst, get_or}
use Rattle.std.proofs.lemmas.List.{drop_all, drop_more}
use Rattle.rule_text.specs.Related.{AreEach}
use Rattle.rule_text.specs.declared.rules.ItemPattern.{ItemPattern}
use Rattle.rule_text.specs.declared.rules.ItemPattern.TheVariants as item
use Rattle.rule_defs.specs.Patterns.{types_fit}
use Rattle.keep_rules.proofs.EachLemmas.{EachAt, each_at, each_length, each_end}
use Rattle.keep_rules.specs.Fits.{behind_of}

pub inner_is : (t : Text) → inner t ≡ take (length t - 1) t
inner_is [] = refl
inner_is (u ∷ []) = refl
inner_is (u ∷ v ∷ us) =
    let n : length (u ∷ v ∷ us) - 1 ≡ suc (length (v ∷ us) - 1) = omega arith in
    ap (λ l. u ∷ l) (inner_is (v ∷ us)) ∙ sym (ap (λ k. take k (u ∷ v ∷ us)) n)

-- ---- the letters of primitive types

both_parts : (a b : Bool) → (a && b) ≡ true → (a ≡ true) × (b ≡ true)
both_parts true b e = (refl, e)
both_parts false b e = cc

one_of : (a b : Bool) → (a || b) ≡ true → (a ≡ true) ⊎ (b ≡ true)
one_of true b e = inl refl
one_of false b e = inr e

or_none : (a : Bool) → (a || false) ≡ a
or_none true = refl
or_none false = refl

by_letter : (name letter : List ℕ) (u : ℕ) (w : Word) (t : Text) → item_fits name t ≡ text_eq letter t → (word_eq name w && word_eq letter (u ∷ [])) ≡ true → item_fits w t ≡ text_eq (u ∷ []) t
by_letter name letter u w t is e =
    let parts = both_parts (word_eq name w) (word_eq letter (u ∷ [])) e in
    let n : name ≡ w = (bytes_decides name w).0 parts.0 in
    let l : letter ≡ u ∷ [] = (bytes_decides letter (u ∷ [])).0 parts.1 in
    ap (λ v. item_fits v t) (sym n) ∙ is ∙ ap (λ v. text_eq v t) l

pub letter_fits : (u : ℕ) (w : Word) (t : Text) → is_letter_of u w ≡ true → item_fits w t ≡ text_eq (u ∷ []) t
letter_fits u w t e = elim (one_of _ _ e) [
  | inl h ↦ by_letter (codes "boolean") (codes "Z") u w t (or_none (text_eq (codes "Z") t)) h
  | inr e ↦
      elim (one_of _ _ e) [
        | inl h ↦ by_letter (codes "byte") (codes "B") u w t (or_none (text_eq (codes "B") t)) h
        | inr e ↦
            elim (one_of _ _ e) [
              | inl h ↦ by_letter (codes "char") (codes "C") u w t (or_none (text_eq (codes "C") t)) h
              | inr e ↦
                  elim (one_of _ _ e) [
                    | inl h ↦ by_letter (codes "short") (codes "S") u w t (or_none (text_eq (codes "S") t)) h
                    | inr e ↦
                        elim (one_of _ _ e) [
                          | inl h ↦ by_letter (codes "int") (codes "I") u w t (or_none (text_eq (codes "I") t)) h
                          | inr e ↦
                              elim (one_of _ _ e) [
                                | inl h ↦ by_letter (codes "long") (codes "J") u w t (or_none (text_eq (codes "J") t)) h
                                | inr e ↦
                                    elim (one_of _ _ e) [
                                      | inl h ↦ by_letter (codes "float") (codes "F") u w t (or_none (text_eq (codes "F") t)) h
                                      | inr e ↦
                                          elim (one_of _ _ e) [
                                            | inl h ↦ by_letter (codes "double") (codes "D") u w t (or_none (text_eq (codes "D") t)) h
                                            | inr e ↦
                                                elim (one_of _ _ e) [ inl h ↦ by_letter (codes "void") (codes "V") u w t (or_none (text_eq (codes "V") t)) h | inr e ↦ absurd (true≢false (sym e)) ]
                                          ]
                                    ]
                              ]
                        ]
                  ]
            ]
      ]
]

-- ---- brackets

abbrev pair : Word
pair = 91 ∷ 93 ∷ []

brackets_more : (n : ℕ) → brackets (suc n) ≡ brackets n ++ pair
brackets_more zero = refl
brackets_more (suc n) = ap (λ l. 91 ∷ 93 ∷ l) (brackets_more n)

ends_with : (w : Word) → ends_in_brackets (w ++ pair) ≡ true
ends_with [] = refl
ends_with (c ∷ []) = refl
ends_with (c ∷ d ∷ []) = refl
ends_with (c ∷ d ∷ e ∷ cs) = ends_with (d ∷ e ∷ cs)

without_pair : (w : Word) → without_brackets (w ++ pair) ≡ w
without_pair [] = refl
without_pair (c ∷ []) = refl
without_pair (c ∷ d ∷ []) = refl
without_pair (c ∷ d ∷ e ∷ cs) = ap (λ l. c ∷ l) (without_pair (d ∷ e ∷ cs))

abbrev pub item_if : Word → Option Text → Bool
item_if w None = false
item_if w (Some t) = item_fits w t

plain_fits : (n : ℕ) (w : Word) (t : Text) → ends_in_brackets w ≡ false → type_fits_in n w t ≡ item_fits w t
plain_fits zero w t e = refl
plain_fits (suc n) w t e = ap (λ b. if b then is_array t && type_fits_in n (without_brackets w) (item_of t) else item_fits w t) e

fits_in : (n depth : ℕ) (front : Word) (t : Text) → ends_in_brackets front ≡ false → depth ≤ n → type_fits_in n (front ++ brackets depth) t ≡ item_if front (behind_of depth t)
fits_in n zero front t e h = ap (λ w. type_fits_in n w t) (append-nil front) ∙ plain_fits n front t e
fits_in zero (suc depth) front t e h = absurd (omega arith)
fits_in (suc n) (suc depth) front t e h =
    let split : front ++ brackets (suc depth) ≡ (front ++ brackets depth) ++ pair = ap (λ l. front ++ l) (brackets_more depth) ∙ sym (append_assoc front (brackets depth) pair) in
    ap (λ w. type_fits_in (suc n) w t) split
    ∙ ap (λ b. if b then is_array t && type_fits_in n (without_brackets ((front ++ brackets depth) ++ pair)) (item_of t) else item_fits ((front ++ brackets depth) ++ pair) t) (ends_with (front ++ brackets depth))
    ∙ ap (λ w. is_array t && type_fits_in n w (item_of t)) (without_pair (front ++ brackets depth))
    ∙ ap (λ b. is_array t && b) (fits_in n depth front (item_of t) e (omega arith))
    ∙ by (is_array t)
  where
    by : (b : Bool) → (b && item_if front (behind_of depth (item_of t))) ≡ item_if front (elim b [ true ↦ behind_of depth (item_of t) | false ↦ None ])
    by true = refl
    by false = refl

brackets_length : (n : ℕ) → n ≤ length (brackets n)
brackets_length zero = omega arith
brackets_length (suc n) = let more = brackets_length n in omega (arith, more)

pub type_fits_behind : (depth : ℕ) (front w : Word) (t : Text) → ends_in_brackets front ≡ false → front ++ brackets depth ≡ w → type_fits w t ≡ item_if front (behind_of depth t)
type_fits_behind depth front w t e s =
    let long : depth ≤ length (front ++ brackets depth) = let more = brackets_length depth in omega (arith, more, length-append front (brackets depth)) in
    ap (λ v. type_fits v t) (sym s) ∙ fits_in (length (front ++ brackets depth)) depth front t e long

-- ---- the class of a descriptor

pub class_starred : (w : Word) (d : Text) → is_class_type d ≡ true → true ≡ is_star w → true ≡ class_name_fits w d
class_starred w d e s = sym (ap (λ b. b && (is_star w || matches named.Class w (inner (item_of d)))) e ∙ ap (λ b. b || matches named.Class w (inner (item_of d))) (sym s))

pub class_matched : {E : Type 0} (w : Word) (d name : Text) (r : Result Bool E) → is_class_type d ≡ true → name ≡ inner (item_of d) → false ≡ is_star w → IfOk r (λ b. b ≡ matches named.Class w name) → IfOk r (λ b. b ≡ class_name_fits w d)
class_matched w d name r e n s h =
    let same : matches named.Class w name ≡ class_name_fits w d =
    ap (matches named.Class w) n ∙ sym (ap (λ b. b && (is_star w || matches named.Class w (inner (item_of d)))) e ∙ ap (λ b. b || matches named.Class w (inner (item_of d))) (sym s)) in
    IfOk-weaker r (λ b. b ≡ matches named.Class w name) (λ b. b ≡ class_name_fits w d) (λ b f. f ∙ same) h

pub class_none : (w : Word) (d : Text) → is_class_type d ≡ false → false ≡ class_name_fits w d
class_none w d e = sym (ap (λ b. b && (is_star w || matches named.Class w (inner (item_of d)))) e)

-- ---- items

pub item_any : (w : Word) (d : Text) → w ≡ codes "***" → true ≡ item_fits w d
item_any w d e = sym (ap (λ v. item_fits v d) e)

pub item_primitive : (w : Word) (d : Text) → w ≡ codes "%" → is_primitive d ≡ item_fits w d
item_primitive w d e = sym (ap (λ v. item_fits v d) e)

other_word : (w v : Word) → (w ≡ v → ⊥) → word_eq w v ≡ false
other_word w v other = step (word_eq w v) refl
  where
    step : (b : Bool) → word_eq w v ≡ b → b ≡ false
    step true e = absurd (other ((bytes_decides w v).0 e))
    step false e = refl

pub item_class : (w : Word) (d : Text) → is_primitive_word w ≡ false → (w ≡ codes "***" → ⊥) → (w ≡ codes "%" → ⊥) → item_fits w d ≡ (is_class_type d && matches named.Class w (inner (item_of d)))
item_class w d e a p =
    ap (λ b. if b then true else if word_eq w (codes "%") then is_primitive d else if is_primitive_word w then is_primitive_of w d else is_class_type d && matches named.Class w (inner (item_of d))) (other_word w (codes "***") a)
    ∙ ap (λ b. if b then is_primitive d else if is_primitive_word w then is_primitive_of w d else is_class_type d && matches named.Class w (inner (item_of d))) (other_word w (codes "%") p)
    ∙ ap (λ b. if b then is_primitive_of w d else is_class_type d && matches named.Class w (inner (item_of d))) e

pub item_matched : {E : Type 0} (w : Word) (d name : Text) (r : Result Bool E) → is_class_type d ≡ true → name ≡ inner (item_of d) → is_primitive_word w ≡ false → (w ≡ codes "***" → ⊥) → (w ≡ codes "%" → ⊥)
    → IfOk r (λ b. b ≡ matches named.Class w name) → IfOk r (λ b. b ≡ item_fits w d)
item_matched w d name r c n e a p h =
    let same : matches named.Class w name ≡ item_fits w d = ap (matches named.Class w) n ∙ sym (item_class w d e a p ∙ ap (λ b. b && matches named.Class w (inner (item_of d))) c) in
    IfOk-weaker r (λ b. b ≡ matches named.Class w name) (λ b. b ≡ item_fits w d) (λ b f. f ∙ same) h

pub item_none : (w : Word) (d : Text) → is_class_type d ≡ false → is_primitive_word w ≡ false → (w ≡ codes "***" → ⊥) → (w ≡ codes "%" → ⊥) → false ≡ item_fits w d
item_none w d c e a p = sym (item_class w d e a p ∙ ap (λ b. b && matches named.Class w (inner (item_of d))) c)

-- ---- types

pub type_matched : {E : Type 0} (t : TypePattern) (w : Word) (d item : Text) (r : Result Bool E) → IsTypeOf t w → behind_of t.depth d ≡ Some item → ((v : Word) → IsItemOf t.item v → IfOk r (λ b. b ≡ item_fits v item)) → IfOk r (λ b. b ≡ type_fits w d)
type_matched t w d item r is e h =
    let same : type_fits w d ≡ item_fits is.front item = type_fits_behind t.depth is.front w d is.last is.word ∙ ap (item_if is.front) e in
    IfOk-weaker r (λ b. b ≡ item_fits is.front item) (λ b. b ≡ type_fits w d) (λ b f. f ∙ sym same) (h is.front is.item)

pub type_missed : (t : TypePattern) (w : Word) (d : Text) → IsTypeOf t w → behind_of t.depth d ≡ None → false ≡ type_fits w d
type_missed t w d is e = sym (type_fits_behind t.depth is.front w d is.last is.word ∙ ap (item_if is.front) e)

-- ---- slices of descriptors

pub class_inner : (d : Text) → take (length d - 1 - 1) (drop 1 d) ≡ inner (item_of d)
class_inner [] = refl
class_inner (u ∷ us) = let n : length (u ∷ us) - 1 - 1 ≡ length us - 1 = omega arith in ap (λ k. take k us) n ∙ sym (inner_is us)

take_whole : (us : Text) (k : ℕ) → k ≡ length us → take k us ≡ us
take_whole [] k e = ap (λ n. take n []) e
take_whole (u ∷ us) k e = ap (λ n. take n (u ∷ us)) e ∙ ap (λ l. u ∷ l) (take_whole us (length us) refl)

pub behind_is : (t : Text) → take (length t - 1) (drop 1 t) ≡ item_of t
behind_is [] = refl
behind_is (u ∷ us) = take_whole us (length (u ∷ us) - 1) (omega arith)

pub behind_more : (n : ℕ) (t : Text) → 0 < n → is_array t ≡ true → behind_of (n - 1) (item_of t) ≡ behind_of n t
behind_more zero t h e = absurd (omega (arith, h))
behind_more (suc n) t h e =
    let k : suc n - 1 ≡ n = omega arith in
    ap (λ m. behind_of m (item_of t)) k ∙ sym (ap (λ b. elim b [ true ↦ behind_of n (item_of t) | false ↦ None ]) e)

pub behind_none : (n : ℕ) (t : Text) → 0 < n → is_array t ≡ false → behind_of n t ≡ None
behind_none zero t h e = absurd (omega (arith, h))
behind_none (suc n) t h e = ap (λ b. elim b [ true ↦ behind_of n (item_of t) | false ↦ None ]) e

-- ---- items and types as they are read

letter_at : (u : ℕ) (w : Word) (t : Text) → IsItemOf (item.Letter u) w → text_eq (u ∷ []) t ≡ item_fits w t
letter_at u w t is = sym (letter_fits u w t is)

pub letter_of : (u : ℕ) (x : ItemPattern) (w : Word) (t : Text) → x ≡ item.Letter u → IsItemOf x w → text_eq (u ∷ []) t ≡ item_fits w t
letter_of u x w t e is = letter_at u w t (subst (λ y. IsItemOf y w) e is)

types_length : (ws : List Word) (ts : List Text) → types_fit ws ts ≡ true → length ws ≡ length ts
types_length [] [] e = refl
types_length [] (t ∷ ts) e = cc
types_length (w ∷ ws) [] e = cc
types_length (w ∷ ws) (t ∷ ts) e = ap suc (types_length ws ts (both_parts (type_fits w t) (types_fit ws ts) e).1)

not_true : (b : Bool) → (b ≡ true → ⊥) → false ≡ b
not_true true h = absurd (h refl)
not_true false h = refl

map_length : {A B : Type 0} (f : A → B) (xs : List A) → length (map f xs) ≡ length xs
map_length f [] = refl
map_length f (x ∷ xs) = ap suc (map_length f xs)

pub read_same : (ks : List ℕ) (i d : ℕ) → i < length ks → get_or ks i d ≡ get_or ks i (get_or ks i d)
read_same [] i d h = absurd (omega arith)
read_same (k ∷ ks) zero d h = refl
read_same (k ∷ ks) (suc i) d h = other ks i d (get_or ks i d) (omega arith)
  where
    other : (ls : List ℕ) (j a b : ℕ) → j < length ls → get_or ls j a ≡ get_or ls j b
    other [] j a b h = absurd (omega arith)
    other (l ∷ ls) zero a b h = refl
    other (l ∷ ls) (suc j) a b h = other ls j a b (omega arith)

drop_at : (i k : ℕ) (ks : List ℕ) → i < length ks → k ≡ get_or ks i k → drop i ks ≡ k ∷ drop (i + 1) ks
drop_at i k ks l d = drop_more ks i k l ∙ ap (λ x. x ∷ drop (i + 1) ks) (sym d)

module _ (f : ℕ → Text) (ps : List TypePattern) (ws : List Word) (ks : List ℕ) (are : AreEach IsTypeOf ps ws) where
  pub types_unequal : (length ps ≡ length ks → ⊥) → false ≡ types_fit ws (map f ks)
  types_unequal other = not_true (types_fit ws (map f ks)) (λ e. other (each_length IsTypeOf ps ws are ∙ types_length ws (map f ks) e ∙ map_length f ks))

  here : (i : ℕ) (k : ℕ) (at : EachAt IsTypeOf ps ws i) → drop i ks ≡ k ∷ drop (i + 1) ks → types_fit (drop i ws) (map f (drop i ks)) ≡ (type_fits at.one (f k) && types_fit (drop (i + 1) ws) (map f (drop (i + 1) ks)))
  here i k at e = ap (λ l. types_fit l (map f (drop i ks))) at.next ∙ ap (λ l. types_fit (at.one ∷ drop (i + 1) ws) (map f l)) e

  module _ (i : ℕ) (r : TypePattern) (k : ℕ) (b : Bool) (h : i < length ps) (l : i < length ks) (e : r ≡ get_or ps i r) (d : k ≡ get_or ks i k) (says : (w : Word) → IsTypeOf r w → b ≡ type_fits w (f k)) where
    pub types_failed : b ≡ false → types_fit (drop i ws) (map f (drop i ks)) ≡ types_fit ws (map f ks) → false ≡ types_fit ws (map f ks)
    types_failed v inv =
        let at = each_at IsTypeOf ps ws i are h in
        ap (λ x. x && types_fit (drop (i + 1) ws) (map f (drop (i + 1) ks))) (sym v ∙ says at.one (at.is r e)) ∙ sym (here i k at (drop_at i k ks l d)) ∙ inv

    pub types_passed : b ≡ true → types_fit (drop i ws) (map f (drop i ks)) ≡ types_fit ws (map f ks) → types_fit (drop (i + 1) ws) (map f (drop (i + 1) ks)) ≡ types_fit ws (map f ks)
    types_passed v inv =
        let at = each_at IsTypeOf ps ws i are h in
        ap (λ x. x && types_fit (drop (i + 1) ws) (map f (drop (i + 1) ks))) (sym v ∙ says at.one (at.is r e)) ∙ sym (here i k at (drop_at i k ks l d)) ∙ inv

  pub types_end : (i : ℕ) → length ps ≤ i → length ks ≤ i → types_fit (drop i ws) (map f (drop i ks)) ≡ types_fit ws (map f ks) → true ≡ types_fit ws (map f ks)
  types_end i h l inv = sym (ap (λ x. types_fit x (map f (drop i ks))) (each_end IsTypeOf ps ws i are h) ∙ ap (λ x. types_fit [] (map f x)) (drop_all i ks l)) ∙ inv
