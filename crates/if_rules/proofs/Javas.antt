-- Types as Java writes them.
use Rattle.std.proofs.Common.{◌≡◌, ◌+◌, ℕ, zero, suc, Bool, true, false, nat_eq, List, [], ◌∷◌, ◌++◌, length, codes, refl, sym, ap, ◌∙◌, arith}
use Rattle.std.proofs.lemmas.List.{append_assoc}
use Rattle.dalvik_defs.specs.Names.{Text, is_array, item_of}
use Rattle.rule_text.specs.Related.{brackets}
use Rattle.if_rules.specs.Matched.{java}

-- brackets behind brackets
pub one_more : (out : List ℕ) (n : ℕ) → ((out ++ brackets n) ++ 91 ∷ []) ++ 93 ∷ [] ≡ out ++ brackets (n + 1)
one_more out n =
    let k : n + 1 ≡ suc n = omega arith in
    ap (λ xs. xs ++ 93 ∷ []) (append_assoc out (brackets n) (91 ∷ [])) ∙ append_assoc out (brackets n ++ 91 ∷ []) (93 ∷ []) ∙ ap (λ xs. out ++ xs) (append_assoc (brackets n) (91 ∷ []) (93 ∷ []) ∙ behind n)
    ∙ ap (λ m. out ++ brackets m) (sym k)
  where
    behind : (n : ℕ) → brackets n ++ 91 ∷ 93 ∷ [] ≡ brackets (suc n)
    behind zero = refl
    behind (suc n) = ap (λ xs. 91 ∷ 93 ∷ xs) (behind n)

array_is : (u : ℕ) (us : Text) → is_array (u ∷ us) ≡ nat_eq u 91
array_is u us = refl

by_first : (u : ℕ) (us : Text) (n : ℕ) (b : Bool) → nat_eq u 91 ≡ b → b ≡ true → java us ++ brackets (n + 1) ≡ java (u ∷ us) ++ brackets n
by_first u us n true e is =
    let k : n + 1 ≡ suc n = omega arith in
    ap (λ m. java us ++ brackets m) k ∙ sym (append_assoc (java us) (codes "[]") (brackets n)) ∙ rw e refl
by_first u us n false e is = cc

-- a bracket less before the rest, and one more behind it
pub java_more : (t : Text) (n : ℕ) → is_array t ≡ true → java (item_of t) ++ brackets (n + 1) ≡ java t ++ brackets n
java_more [] n is = cc
java_more (u ∷ us) n is = by_first u us n (nat_eq u 91) refl (sym (array_is u us) ∙ is)

pub shorter : (t : Text) → is_array t ≡ true → length (item_of t) + 1 ≡ length t
shorter [] is = cc
shorter (u ∷ us) is = omega arith

pub no_bracket : (u : ℕ) (us : Text) → is_array (u ∷ us) ≡ false → nat_eq u 91 ≡ false
no_bracket u us is = sym (array_is u us) ∙ is
