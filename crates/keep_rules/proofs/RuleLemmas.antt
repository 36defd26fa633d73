-- What a list of rules keeps, rule by rule.
use Rattle.std.proofs.Common.{◌≡◌, ℕ, ◌<◌, Bool, true, false, nat_eq, List, [], ◌∷◌, length, refl, sym, ap, ◌∙◌}
use Rattle.std.specs.Prelude.{◌&&◌, ◌||◌}
use Rattle.std.specs.List.{list_any}
use Rattle.program_model.specs.declared.program.Program.{Program}
use Rattle.dalvik_defs.specs.Naming.{field_at, method_at, named_field, named_method, named_class, named}
use Rattle.rule_text.specs.Rules.{KeepRule}
use Rattle.rule_defs.specs.Kept.{applies, some_line_of_method, some_line_of_field, keeps_method, keeps_field, some_method, some_field}
use Rattle.class_defs.proofs.WellFormed.{Sound}
use Rattle.keep_rules.proofs.OwnLemmas.{some_method_is, some_field_is}

-- ---- tests on lists of lists

pub any_congr : {A : Type 0} (f g : A → Bool) (xs : List A) → ((x : A) → f x ≡ g x) → list_any f xs ≡ list_any g xs
any_congr f g [] e = refl
any_congr f g (x ∷ xs) e = ap (λ b. b || list_any f xs) (e x) ∙ ap (λ b. g x || b) (any_congr f g xs e)

any_never : {A : Type 0} (xs : List A) → list_any (λ (x : A). false) xs ≡ false
any_never [] = refl
any_never (x ∷ xs) = any_never xs

pub any_either : {A : Type 0} (f g : A → Bool) (xs : List A) → list_any (λ x. f x || g x) xs ≡ (list_any f xs || list_any g xs)
any_either f g [] = refl
any_either f g (x ∷ xs) = ap (λ b. (f x || g x) || b) (any_either f g xs) ∙ moved (f x) (g x) (list_any f xs) (list_any g xs)
  where
    moved : (a b c d : Bool) → ((a || b) || (c || d)) ≡ ((a || c) || (b || d))
    moved true b c d = refl
    moved false true true d = refl
    moved false true false d = refl
    moved false false true d = refl
    moved false false false d = refl

pub any_both : {A : Type 0} (a : Bool) (f : A → Bool) (xs : List A) → list_any (λ x. a && f x) xs ≡ (a && list_any f xs)
any_both true f xs = refl
any_both false f xs = any_never xs

pub any_swap : {A B : Type 0} (f : A → B → Bool) (xs : List A) (ys : List B) → list_any (λ x. list_any (f x) ys) xs ≡ list_any (λ y. list_any (λ x. f x y) xs) ys
any_swap f [] ys = sym (any_never ys)
any_swap f (x ∷ xs) ys = ap (λ b. list_any (f x) ys || b) (any_swap f xs ys) ∙ sym (any_either (f x) (λ y. list_any (λ z. f z y) xs) ys)

-- of members with a number, of classes, of rules: the same of rules, of classes and of members
turned : {R C M : Type 0} (is : M → Bool) (of : R → C → Bool) (line : R → M → Bool) (members : C → List M) (rs : List R) (cs : List C)
    → list_any (λ c. list_any (λ m. is m && list_any (λ r. of r c && line r m) rs) (members c)) cs ≡ list_any (λ r. list_any (λ c. of r c && list_any (λ m. is m && line r m) (members c)) cs) rs
turned {C = C} is of line members rs cs =
    any_congr (λ c. list_any (λ m. is m && list_any (λ r. of r c && line r m) rs) (members c)) (λ c. list_any (λ r. of r c && list_any (λ m. is m && line r m) (members c)) rs) cs in_class
    ∙ any_swap (λ c r. of r c && list_any (λ m. is m && line r m) (members c)) cs rs
  where
    moved : (a b c : Bool) → (a && (b && c)) ≡ (b && (a && c))
    moved true true c = refl
    moved true false c = refl
    moved false true c = refl
    moved false false c = refl

    in_class : (c : C) → list_any (λ m. is m && list_any (λ r. of r c && line r m) rs) (members c) ≡ list_any (λ r. of r c && list_any (λ m. is m && line r m) (members c)) rs
    in_class c =
        any_congr (λ m. is m && list_any (λ r. of r c && line r m) rs) (λ m. list_any (λ r. of r c && (is m && line r m)) rs) (members c)
        (λ m. sym (any_both (is m) (λ r. of r c && line r m) rs) ∙ any_congr (λ r. is m && (of r c && line r m)) (λ r. of r c && (is m && line r m)) rs (λ r. moved (is m) (of r c) (line r m)))
        ∙ any_swap (λ m r. of r c && (is m && line r m)) (members c) rs
        ∙ any_congr (λ r. list_any (λ m. of r c && (is m && line r m)) (members c)) (λ r. of r c && list_any (λ m. is m && line r m) (members c)) rs (λ r. any_both (of r c) (λ m. is m && line r m) (members c))

-- ---- the members of a number that a rule keeps

abbrev pub rule_keeps_method : Program → ℕ → KeepRule → Bool
rule_keeps_method p n r = list_any (λ c. applies (named p) r (named_class p c) && list_any (λ m. nat_eq n m.name && some_line_of_method r.class (named_method p m)) c.methods) p.classes

abbrev pub rule_keeps_field : Program → ℕ → KeepRule → Bool
rule_keeps_field p n r = list_any (λ c. applies (named p) r (named_class p c) && list_any (λ f. nat_eq n f.name && some_line_of_field r.class (named_field p f)) c.fields) p.classes

pub keeps_method_is : (p : Program) → Sound p → (rs : List KeepRule) (n : ℕ) → n < length p.methods → some_method (named p) (keeps_method (named p) rs) (method_at p n) ≡ list_any (rule_keeps_method p n) rs
keeps_method_is p s rs n h =
    some_method_is p s (keeps_method (named p) rs) n h
    ∙ turned (λ m. nat_eq n m.name) (λ r c. applies (named p) r (named_class p c)) (λ r m. some_line_of_method r.class (named_method p m)) (λ c. c.methods) rs p.classes

pub keeps_field_is : (p : Program) → Sound p → (rs : List KeepRule) (n : ℕ) → n < length p.fields → some_field (named p) (keeps_field (named p) rs) (field_at p n) ≡ list_any (rule_keeps_field p n) rs
keeps_field_is p s rs n h =
    some_field_is p s (keeps_field (named p) rs) n h
    ∙ turned (λ f. nat_eq n f.name) (λ r c. applies (named p) r (named_class p c)) (λ r f. some_line_of_field r.class (named_field p f)) (λ c. c.fields) rs p.classes
