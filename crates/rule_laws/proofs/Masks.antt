-- Words with names in place of those with references: what begins a rule or an option begins it as before.
use Rattle.std.proofs.Common.{◌≡◌, ℕ, suc, Bool, true, false, not, ◌&&◌, if◌then◌else◌, nat_eq, map, drop, length, List, [], ◌∷◌, ◌++◌, refl, sym, ap, subst, ◌∙◌, codes, arith}
use Rattle.std.specs.List.{flat_map, list_all, list_any}
use Rattle.std.proofs.lemmas.List.{drop-map}
use Rattle.rule_text.specs.Tokens.{Word}
use Rattle.rule_text.specs.Rules.{Entry, Setting, Keep, Assume}
use Rattle.rule_text.specs.Spelling.{setting_word, keep_word, begins_option, entry_words}
use Rattle.rule_text.specs.Steps.{first_word, words_at}
use Rattle.rule_text.specs.ReadEntries.{behind}
use Rattle.rule_text.specs.Places.{is_keep}
use Rattle.rule_text.specs.declared.rules.KeepKind.{KeepKind}
use Rattle.rule_text.specs.declared.rules.KeepKind.TheVariants as keep
use Rattle.rule_text.specs.declared.rules.SettingName.{SettingName}
use Rattle.rule_text.specs.declared.rules.SettingName.TheVariants as setting
use Rattle.rule_text.specs.declared.token.Token.{Token as Lexed}
use Rattle.rule_text.proofs.PlaceLemmas.{first_true, second_true, not_true, clash, entry_word, words_in, entry_split, entry_option}
use Rattle.if_text.specs.Faults.{AreMasked}
use Rattle.if_text.specs.Items.{Item, Plain, If, item_words}
use Rattle.if_text.specs.Parts.{is_digit, parts_from, is_reference, has_reference, masked, stand_in}
use Rattle.if_text.specs.declared.parts.Part.TheVariants.{Byte}
use Rattle.rule_laws.proofs.Stretches.{begins}

-- ---- words one behind the other

map_both : {A B C : Type 0} (f : A → B) (g : B → C) (xs : List A) → map g (map f xs) ≡ map (λ x. g (f x)) xs
map_both f g [] = refl
map_both f g (x ∷ xs) = ap (λ ys. g (f x) ∷ ys) (map_both f g xs)

pub masked_at : (tokens hidden : List Lexed) (at : ℕ) → AreMasked tokens hidden → words_at hidden at ≡ map masked (words_at tokens at)
masked_at tokens hidden at m = ap (drop at) (m.words ∙ sym (map_both (λ t. t.word.now) masked tokens)) ∙ drop-map masked at (map (λ t. t.word.now) tokens)

pub map_append : (xs ys : List Word) → map masked (xs ++ ys) ≡ map masked xs ++ map masked ys
map_append [] ys = refl
map_append (x ∷ xs) ys = ap (λ zs. masked x ∷ zs) (map_append xs ys)

no_length : (n : ℕ) → 0 ≡ suc n → ⊥
no_length n e = omega (arith, e)

less_one : (m n : ℕ) → suc m ≡ suc n → m ≡ n
less_one m n e = omega (arith, e)

pub same_front : (vs ws xs ys : List Word) → length vs ≡ length ws → vs ++ xs ≡ ws ++ ys → (vs ≡ ws) × (xs ≡ ys)
same_front [] [] xs ys many is = (refl, is)
same_front [] (w ∷ ws) xs ys many is = absurd (no_length (length ws) many)
same_front (v ∷ vs) [] xs ys many is = absurd (no_length (length vs) (sym many))
same_front (v ∷ vs) (w ∷ ws) xs ys many is =
    let both : (vs ≡ ws) × (xs ≡ ys) = same_front vs ws xs ys (less_one (length vs) (length ws) many) (ap behind is) in
    (ap (λ x. x ∷ vs) (ap first_word is) ∙ ap (λ zs. w ∷ zs) both.0, both.1)

-- ---- a keep option that has no reference

keep_dash_by : (c : ℕ) (cs : Word) (b : Bool) → nat_eq c 45 ≡ b → is_keep (c ∷ cs) ≡ true → b ≡ true
keep_dash_by c cs true e is = refl
keep_dash_by c cs false e is =
    let no : is_keep (c ∷ cs) ≡ false = rw e refl in
    absurd (clash (sym no ∙ is))

pub keep_dash : (w : Word) → is_keep w ≡ true → begins_option w ≡ true
keep_dash [] is = absurd (clash is)
keep_dash (c ∷ cs) is = keep_dash_by c cs (nat_eq c 45) refl is

stand_by : (b : Bool) → is_keep (if b then codes "@x" else codes "x") ≡ true → ⊥
stand_by true is = clash is
stand_by false is = clash is

keep_by : (w : Word) (b : Bool) → is_keep (if b then stand_in w else w) ≡ true → begins_option w ≡ true
keep_by [] true is = absurd (clash is)
keep_by (c ∷ cs) true is = absurd (stand_by (nat_eq c 64) is)
keep_by w false is = keep_dash w is

pub kept_begins : (ws rest : List Word) → is_keep (first_word (map masked ws)) ≡ true → begins (ws ++ rest) ≡ true
kept_begins [] rest is = absurd (clash is)
kept_begins (w ∷ ws) rest is = keep_by w (has_reference w) is

-- ---- items begin with options

-- no reference without its first byte
abbrev free : Word → Bool
free w = list_all (λ c. not (nat_eq c 60)) w

and_false : (a : Bool) → (a && false) ≡ false
and_false true = refl
and_false false = refl

choice : {A : Type 0} (b : Bool) (x y : A) → b ≡ false → (if b then x else y) ≡ y
choice true x y e = absurd (clash (sym e))
choice false x y e = refl

byte_first : (c : ℕ) (cs : Word) → nat_eq c 60 ≡ false → parts_from [] (c ∷ cs) ≡ Byte c ∷ parts_from [] cs
byte_first c cs e = choice (nat_eq c 60) _ _ e ∙ choice (nat_eq c 62 && false) _ _ (and_false (nat_eq c 62)) ∙ choice (is_digit c && false) _ _ (and_false (is_digit c))

no_reference : (w : Word) → free w ≡ true → has_reference w ≡ false
no_reference [] is = refl
no_reference (c ∷ cs) is = ap (list_any is_reference) (byte_first c cs (not_true (nat_eq c 60) (first_true (not (nat_eq c 60)) (free cs) is))) ∙ no_reference cs (second_true (not (nat_eq c 60)) (free cs) is)

unmasked : (w : Word) → free w ≡ true → masked w ≡ w
unmasked w is = ap (λ b. if b then stand_in w else w) (no_reference w is)

setting_free : (name : SettingName) → free (setting_word name) ≡ true
setting_free setting.DontOptimize = refl
setting_free setting.DontShrink = refl
setting_free setting.Verbose = refl
setting_free setting.DontObfuscate = refl
setting_free setting.DontPreverify = refl
setting_free setting.DontUseMixedCaseClassNames = refl
setting_free setting.DontSkipNonPublicLibraryClasses = refl
setting_free setting.AllowAccessModification = refl
setting_free setting.IgnoreWarnings = refl
setting_free setting.KeepAttributes = refl
setting_free setting.DontWarn = refl
setting_free setting.DontNote = refl
setting_free setting.Optimizations = refl
setting_free setting.OptimizationPasses = refl
setting_free setting.RenameSourceFileAttribute = refl
setting_free setting.RepackageClasses = refl

keep_free : (kind : KeepKind) → free (keep_word kind) ≡ true
keep_free keep.Keep = refl
keep_free keep.ClassMembers = refl
keep_free keep.ClassesWithMembers = refl
keep_free keep.Names = refl
keep_free keep.ClassMemberNames = refl
keep_free keep.ClassesWithMemberNames = refl

word_free : (e : Entry) → free (entry_word e) ≡ true
word_free (Setting name ws) = setting_free name
word_free (Keep rule) = keep_free rule.kind
word_free (Assume rule) = refl

word_masked : (e : Entry) → begins_option (masked (entry_word e)) ≡ true
word_masked e = ap begins_option (unmasked (entry_word e) (word_free e)) ∙ entry_option e

entry_begin : (e : Entry) (rest : List Word) → begins (entry_words e ++ rest) ≡ true
entry_begin (Setting name ws) rest = entry_option (Setting name ws)
entry_begin (Keep rule) rest = entry_option (Keep rule)
entry_begin (Assume rule) rest = refl

head_masked : (w : Word) (ws rest : List Word) → begins_option (masked w) ≡ true → begins (map masked ((w ∷ ws) ++ rest)) ≡ true
head_masked w ws rest is = is

entry_masked : (e : Entry) (rest : List Word) → begins (map masked (entry_words e ++ rest)) ≡ true
entry_masked e rest = subst (λ xs. begins (map masked (xs ++ rest)) ≡ true) (sym (entry_split e)) (head_masked (entry_word e) (words_in e) rest (word_masked e))

pub items_begin : (is : List Item) → begins (flat_map item_words is) ≡ true
items_begin [] = refl
items_begin (Plain e ∷ is) = entry_begin e (flat_map item_words is)
items_begin (If r ∷ is) = refl

pub items_masked : (is : List Item) → begins (map masked (flat_map item_words is)) ≡ true
items_masked [] = refl
items_masked (Plain e ∷ is) = entry_masked e (flat_map item_words is)
items_masked (If r ∷ is) = refl
