-- Instances one behind the other.
use Rattle.std.proofs.Common.{◌≡◌, ◌⊎◌, inl, inr, ◌<◌, ◌≤◌, ◌+◌, ℕ, Bool, true, false, ◌||◌, List, [], ◌∷◌, ◌++◌, map, get_or, length, Some, None, Contains, slice_get, refl, sym, ap, subst, ◌∙◌, eq-or-lt_of_le, arith}
use Rattle.std.specs.List.{flat_map, list_all, list_any}
use Rattle.class_defs.proofs.WellFormed.{and_left, and_right}
use Rattle.std.proofs.lemmas.List.Elements.{Contains-append_left, Contains-append_right, Contains-append_cases, Contains-push, Contains-push_cases}
use Rattle.std.proofs.lemmas.Option.{slice_get_within}
use Rattle.dalvik_defs.specs.Naming.{field_at, method_at, named, named_class, named_field, named_method}
use Rattle.program_model.specs.declared.program.Class.{Class}
use Rattle.program_model.specs.declared.program.Field.{Field as OwnField}
use Rattle.program_model.specs.declared.program.Method.{Method as OwnMethod}
use Rattle.program_model.specs.declared.program.Program.{Program}
use Rattle.rule_defs.specs.Kept.{lines_of, matches_class}
use Rattle.rule_defs.specs.Members.{matches_field, matches_method}
use Rattle.rule_text.specs.Related.{AreEach, IsMemberOf}
use Rattle.rule_text.specs.Rules.{MemberRule}
use Rattle.rule_text.specs.declared.rules.MemberRule.{MemberRule as ReadMember}
use Rattle.keep_rules.proofs.EachLemmas.{each_length}
use Rattle.keep_rules.specs.Fits.{has_field_name, has_method_name, has_names}
use Rattle.if_text.specs.Items.{IfRule}
use Rattle.if_text.specs.Parts.{parts_of}
use Rattle.if_text.specs.Readings.{IsIfOf}
use Rattle.if_text.specs.Wildcards.{slots}
use Rattle.if_text.specs.declared.rules.IfRule.{IfRule as ReadIf}
use Rattle.if_rules.specs.Instances.{Texts, names_line, parts_bytes, words_bytes, instance_text, names_of, uses_line}
use Rattle.if_rules.specs.Listed.{Could, OfEach, OfMethod, OfField, IsPair, IsInstance, IsGiven, PushesOne, HasInstance, Grew, AreInstances, OfChoice, OfMethods, OfFields, OfPlace, OfRule, OfRules}
use Rattle.if_rules.specs.Lists.{lists_of}
use Rattle.if_rules.specs.Matched.{field_texts, method_texts}
use Rattle.if_rules.specs.Matching.{IsMatchedAt, AreMatched}
use Rattle.if_rules.specs.declared.instances.Choice.{Choice}
use Rattle.if_rules.specs.declared.instances.Choice.TheVariants as choice
use Rattle.if_rules.specs.declared.instances.Instance.{Instance}
use Rattle.if_rules.proofs.Lives.{all_at}

same_some : {X : Type 0} (x y : X) → Some x ≡ Some y → x ≡ y
same_some x y e = cc

no_some : {X : Type 0} (x : X) → Some x ≡ None → ⊥
no_some x e = cc

clash : true ≡ false → ⊥
clash e = cc

-- ---- the text

mapped : {A B C : Type 0} (f : B → List C) (g : A → B) (xs : List A) → flat_map f (map g xs) ≡ flat_map (λ x. f (g x)) xs
mapped f g [] = refl
mapped f g (x ∷ xs) = ap (λ ys. f (g x) ++ ys) (mapped f g xs)

-- the words of a rule that was read, filled
pub says_text : (read : ReadIf) (r : IfRule) (x : Texts) → IsIfOf read r → words_bytes read.slots.items x (lists_of read.words.items) ≡ instance_text r x
says_text read r x of =
    ap (λ ss. words_bytes ss x (lists_of read.words.items)) of.slots ∙ ap (words_bytes (slots r.condition) x) of.words ∙ mapped (λ ps. 32 ∷ parts_bytes (slots r.condition) x ps) parts_of r.words

any_mapped : {A B : Type 0} (f : B → Bool) (g : A → B) (xs : List A) → list_any f (map g xs) ≡ list_any (λ x. f (g x)) xs
any_mapped f g [] = refl
any_mapped f g (x ∷ xs) = ap (λ b. f (g x) || b) (any_mapped f g xs)

pub says_uses : (read : ReadIf) (r : IfRule) → IsIfOf read r → list_any (λ ps. list_any (names_line read.slots.items) ps) (lists_of read.words.items) ≡ uses_line r
says_uses read r of =
    ap (λ ss. list_any (λ ps. list_any (names_line ss) ps) (lists_of read.words.items)) of.slots ∙ ap (list_any (λ ps. list_any (names_line (slots r.condition)) ps)) of.words
    ∙ any_mapped (λ ps. list_any (names_line (slots r.condition)) ps) parts_of r.words

-- ---- what an instance may ask for

abbrev place_of : Choice → ℕ
place_of choice.Each = 0
place_of (choice.Method k) = k
place_of (choice.Field k) = k

each_text : (p : Program) (r : IfRule) (class : Class) (d : Choice) (t : List ℕ) → Could p r class d t → d ≡ choice.Each → t ≡ instance_text r (record { name = names_of p r.condition class; line = [] })
each_text p r class _ _ (OfEach uses) e = refl
each_text p r class _ _ (OfMethod line k m uses lines there fits) e = cc
each_text p r class _ _ (OfField line k f uses lines there fits) e = cc

same_line : (a b : MemberRule) → a ∷ [] ≡ b ∷ [] → a ≡ b
same_line a b e = cc

method_text : (p : Program) (r : IfRule) (class : Class) (line : MemberRule) (k : ℕ) (m : OwnMethod) (d : Choice) (t : List ℕ) → lines_of r.condition ≡ line ∷ [] → slice_get class.methods k ≡ Some m → Could p r class d t → d ≡ choice.Method k
    → (t ≡ instance_text r (record { name = names_of p r.condition class; line = method_texts line.what (method_at p m.name).name (method_at p m.name).signature })) × (matches_method line (named_method p m) ≡ true)
method_text p r class line k m _ _ is at (OfEach uses) e = cc
method_text p r class line k m _ _ is at (OfMethod other j n uses lines there fits) e =
    let same_place : j ≡ k = ap place_of e in
    let same_method : n ≡ m = same_some n m (sym there ∙ ap (slice_get class.methods) same_place ∙ at) in
    let same : other ≡ line = same_line other line (sym lines ∙ is) in (
      ap (λ l. instance_text r (record { name = names_of p r.condition class; line = method_texts l.what (method_at p n.name).name (method_at p n.name).signature })) same
          ∙ ap (λ m. instance_text r (record { name = names_of p r.condition class; line = method_texts line.what (method_at p m.name).name (method_at p m.name).signature })) same_method,
      sym (ap (λ l. matches_method l (named_method p n)) same ∙ ap (λ m. matches_method line (named_method p m)) same_method) ∙ fits,
    )
method_text p r class line k m _ _ is at (OfField other j f uses lines there fits) e = cc

field_text : (p : Program) (r : IfRule) (class : Class) (line : MemberRule) (k : ℕ) (f : OwnField) (d : Choice) (t : List ℕ) → lines_of r.condition ≡ line ∷ [] → slice_get class.fields k ≡ Some f → Could p r class d t → d ≡ choice.Field k
    → (t ≡ instance_text r (record { name = names_of p r.condition class; line = field_texts line.what (field_at p f.name).name (field_at p f.name).kind })) × (matches_field line (named_field p f) ≡ true)
field_text p r class line k f _ _ is at (OfEach uses) e = cc
field_text p r class line k f _ _ is at (OfMethod other j n uses lines there fits) e = cc
field_text p r class line k f _ _ is at (OfField other j n uses lines there fits) e =
    let same_place : j ≡ k = ap place_of e in
    let same_field : n ≡ f = same_some n f (sym there ∙ ap (slice_get class.fields) same_place ∙ at) in
    let same : other ≡ line = same_line other line (sym lines ∙ is) in (
      ap (λ l. instance_text r (record { name = names_of p r.condition class; line = field_texts l.what (field_at p n.name).name (field_at p n.name).kind })) same
          ∙ ap (λ f. instance_text r (record { name = names_of p r.condition class; line = field_texts line.what (field_at p f.name).name (field_at p f.name).kind })) same_field,
      sym (ap (λ l. matches_field l (named_field p n)) same ∙ ap (λ f. matches_field line (named_field p f)) same_field) ∙ fits,
    )

each_only : (p : Program) (r : IfRule) (class : Class) (d : Choice) (t : List ℕ) → uses_line r ≡ false → Could p r class d t → d ≡ choice.Each
each_only p r class _ _ none (OfEach uses) = refl
each_only p r class _ _ none (OfMethod line k m uses lines there fits) = absurd (clash (sym uses ∙ none))
each_only p r class _ _ none (OfField line k f uses lines there fits) = absurd (clash (sym uses ∙ none))

-- the member that is asked for
data AsksMember (class : Class) : Choice → Type 0 where
  AsksMethod : (k : ℕ) → k < length class.methods → AsksMember class (choice.Method k)
  AsksField : (k : ℕ) → k < length class.fields → AsksMember class (choice.Field k)

asks_member : (p : Program) (r : IfRule) (class : Class) (d : Choice) (t : List ℕ) → uses_line r ≡ true → Could p r class d t → AsksMember class d
asks_member p r class _ _ some (OfEach uses) = absurd (clash (sym some ∙ uses))
asks_member p r class _ _ some (OfMethod line k m uses lines there fits) = AsksMethod k (slice_get_within class.methods k m there)
asks_member p r class _ _ some (OfField line k f uses lines there fits) = AsksField k (slice_get_within class.fields k f there)

no_line : (p : Program) (r : IfRule) (class : Class) (d : Choice) (t : List ℕ) → uses_line r ≡ true → ((m : MemberRule) → lines_of r.condition ≡ m ∷ [] → ⊥) → Could p r class d t → ⊥
no_line p r class _ _ some none (OfEach uses) = clash (sym some ∙ uses)
no_line p r class _ _ some none (OfMethod line k m uses lines there fits) = none line lines
no_line p r class _ _ some none (OfField line k f uses lines there fits) = none line lines

-- ---- pairs

could_by : (p : Program) (rule other : IfRule) (class k : Class) (c d : Choice) (t : List ℕ) → other ≡ rule → k ≡ class → d ≡ c → Could p other k d t → Could p rule class c t
could_by p rule other class k c d t e f g could = subst (λ d. Could p rule class d t) g (subst (λ k. Could p rule k d t) f (subst (λ r. Could p r k d t) e could))

-- a pair at the places of what is given is of what is given
given_could : (p : Program) (rs : List IfRule) (read : ReadIf) (number place n k : ℕ) (class : Class) (d : Choice) (t : List ℕ) (g : IsGiven p rs read number place class) (pair : IsPair p rs n k) → n ≡ number → k ≡ place
    → Could p pair.rule pair.class d t → Could p g.rule class d t
given_could p rs read number place n k class d t g pair e f could =
    could_by p g.rule pair.rule class pair.class d d t (same_some pair.rule g.rule (sym pair.is_rule ∙ ap (slice_get rs) e ∙ g.is_rule)) (same_some pair.class class (sym pair.is_class ∙ ap (slice_get p.classes) f ∙ g.is_class)) refl could

-- ---- one instance

one_instance : (p : Program) (rs : List IfRule) (read : ReadIf) (number place : ℕ) (class : Class) (c : Choice) (text : List ℕ) (one : Instance) (g : IsGiven p rs read number place class) → one.rule ≡ number → one.class ≡ place → one.choice ≡ c
    → one.text.items ≡ text → Could p g.rule class c text → IsInstance p rs one
one_instance p rs read number place class c text one g e f h says could = record {
  pair = record { rule = g.rule; class = class; is_rule = ap (slice_get rs) e ∙ g.is_rule; is_class = ap (slice_get p.classes) f ∙ g.is_class; fits = g.fits };
  could = subst (λ t. Could p g.rule class one.choice t) (sym says) (subst (λ d. Could p g.rule class d text) (sym h) could);
}

one_sound : (p : Program) (rs : List IfRule) (old : List Instance) (one i : Instance) → IsInstance p rs one → Contains old i ⊎ (one ≡ i) → Contains old i ⊎ IsInstance p rs i
one_sound p rs old one i is (inl there) = inl there
one_sound p rs old one i is (inr same) = inr (subst (IsInstance p rs) same is)

grew_one : (p : Program) (rs : List IfRule) (read : ReadIf) (number place : ℕ) (class : Class) (c : Choice) (text : List ℕ) (old new : List Instance) (g : IsGiven p rs read number place class) → Could p g.rule class c text
    → ((d : Choice) (t : List ℕ) → Could p g.rule class d t → d ≡ c → t ≡ text) → PushesOne number place c text old new → Grew p rs (OfChoice number place c) old new
grew_one p rs read number place class c text old new g could alone one = record {
  kept = λ i there. subst (λ xs. Contains xs i) (sym one.is) (Contains-append_left old (one.one ∷ []) i there);
  sound = λ i there. one_sound p rs old one.one i (one_instance p rs read number place class c text one.one g one.rule one.class one.choice one.says could) (Contains-push_cases old one.one i (subst (λ xs. Contains xs i) one.is there));
  complete = λ n k d t pair named may. record {
    one = one.one;
    there = subst (λ xs. Contains xs one.one) (sym one.is) (Contains-push old one.one);
    rule = one.rule ∙ sym named.0;
    class = one.class ∙ sym named.1;
    choice = one.choice ∙ sym named.2;
    says = one.says ∙ sym (alone d t (given_could p rs read number place n k class d t g pair named.0 named.1 may) named.2);
  };
}

-- the instance of a class
pub each_grew : (p : Program) (rs : List IfRule) (read : ReadIf) (number place : ℕ) (class : Class) (x : Texts) (old new : List Instance) (g : IsGiven p rs read number place class) → uses_line g.rule ≡ false → x.name ≡ names_of p g.rule.condition class → x.line ≡ []
    → PushesOne number place choice.Each (words_bytes read.slots.items x (lists_of read.words.items)) old new → Grew p rs (OfChoice number place choice.Each) old new
each_grew p rs read number place class x old new g uses names line one =
    let text : words_bytes read.slots.items x (lists_of read.words.items) ≡ instance_text g.rule (record { name = names_of p g.rule.condition class; line = [] }) =
    says_text read g.rule x g.related ∙ ap (λ ns. instance_text g.rule (record { name = ns; line = x.line })) names ∙ ap (λ ls. instance_text g.rule (record { name = names_of p g.rule.condition class; line = ls })) line in
    grew_one p rs read number place class choice.Each (instance_text g.rule (record { name = names_of p g.rule.condition class; line = [] })) old new g (OfEach uses) (λ d t could e. each_text p g.rule class d t could e)
    (subst (λ t. PushesOne number place choice.Each t old new) text one)

-- that of a method
pub method_grew : (p : Program) (rs : List IfRule) (read : ReadIf) (number place : ℕ) (class : Class) (line : MemberRule) (k : ℕ) (m : OwnMethod) (x : Texts) (old new : List Instance) (g : IsGiven p rs read number place class) → uses_line g.rule ≡ true
    → lines_of g.rule.condition ≡ line ∷ [] → slice_get class.methods k ≡ Some m → matches_method line (named_method p m) ≡ true → x.name ≡ names_of p g.rule.condition class → x.line ≡ method_texts line.what (method_at p m.name).name (method_at p m.name).signature
    → PushesOne number place (choice.Method k) (words_bytes read.slots.items x (lists_of read.words.items)) old new → Grew p rs (OfChoice number place (choice.Method k)) old new
method_grew p rs read number place class line k m x old new g uses lines at fits names texts one =
    let full : List ℕ = instance_text g.rule (record { name = names_of p g.rule.condition class; line = method_texts line.what (method_at p m.name).name (method_at p m.name).signature }) in
    let text : words_bytes read.slots.items x (lists_of read.words.items) ≡ full =
    says_text read g.rule x g.related ∙ ap (λ ns. instance_text g.rule (record { name = ns; line = x.line })) names ∙ ap (λ ls. instance_text g.rule (record { name = names_of p g.rule.condition class; line = ls })) texts in
    grew_one p rs read number place class (choice.Method k) full old new g (OfMethod line k m uses lines at fits) (λ d t could e. (method_text p g.rule class line k m d t lines at could e).0)
    (subst (λ t. PushesOne number place (choice.Method k) t old new) text one)

-- that of a field
pub field_grew : (p : Program) (rs : List IfRule) (read : ReadIf) (number place : ℕ) (class : Class) (line : MemberRule) (k : ℕ) (f : OwnField) (x : Texts) (old new : List Instance) (g : IsGiven p rs read number place class) → uses_line g.rule ≡ true
    → lines_of g.rule.condition ≡ line ∷ [] → slice_get class.fields k ≡ Some f → matches_field line (named_field p f) ≡ true → x.name ≡ names_of p g.rule.condition class → x.line ≡ field_texts line.what (field_at p f.name).name (field_at p f.name).kind
    → PushesOne number place (choice.Field k) (words_bytes read.slots.items x (lists_of read.words.items)) old new → Grew p rs (OfChoice number place (choice.Field k)) old new
field_grew p rs read number place class line k f x old new g uses lines at fits names texts one =
    let full : List ℕ = instance_text g.rule (record { name = names_of p g.rule.condition class; line = field_texts line.what (field_at p f.name).name (field_at p f.name).kind }) in
    let text : words_bytes read.slots.items x (lists_of read.words.items) ≡ full =
    says_text read g.rule x g.related ∙ ap (λ ns. instance_text g.rule (record { name = ns; line = x.line })) names ∙ ap (λ ls. instance_text g.rule (record { name = names_of p g.rule.condition class; line = ls })) texts in
    grew_one p rs read number place class (choice.Field k) full old new g (OfField line k f uses lines at fits) (λ d t could e. (field_text p g.rule class line k f d t lines at could e).0)
    (subst (λ t. PushesOne number place (choice.Field k) t old new) text one)

-- ---- none

grew_no : (p : Program) (rs : List IfRule) (read : ReadIf) (number place : ℕ) (class : Class) (named : ℕ → ℕ → Choice → Type 0) (old : List Instance) (g : IsGiven p rs read number place class)
    → ((n k : ℕ) (d : Choice) → named n k d → (n ≡ number) × (k ≡ place)) → ((n k : ℕ) (d : Choice) (t : List ℕ) → named n k d → Could p g.rule class d t → ⊥) → Grew p rs named old old
grew_no p rs read number place class named old g at none = record {
  kept = λ i there. there;
  sound = λ i there. inl there;
  complete = λ n k d t pair is could. absurd (none n k d t is (given_could p rs read number place n k class d t g pair (at n k d is).0 (at n k d is).1 could));
}

pub method_other : (p : Program) (rs : List IfRule) (read : ReadIf) (number place : ℕ) (class : Class) (line : MemberRule) (k : ℕ) (m : OwnMethod) (old : List Instance) (g : IsGiven p rs read number place class) → lines_of g.rule.condition ≡ line ∷ []
    → slice_get class.methods k ≡ Some m → matches_method line (named_method p m) ≡ false → Grew p rs (OfChoice number place (choice.Method k)) old old
method_other p rs read number place class line k m old g lines at fails =
    grew_no p rs read number place class (OfChoice number place (choice.Method k)) old g (λ n j d is. (is.0, is.1)) (λ n j d t is could. clash (sym (method_text p g.rule class line k m d t lines at could is.2).1 ∙ fails))

pub field_other : (p : Program) (rs : List IfRule) (read : ReadIf) (number place : ℕ) (class : Class) (line : MemberRule) (k : ℕ) (f : OwnField) (old : List Instance) (g : IsGiven p rs read number place class) → lines_of g.rule.condition ≡ line ∷ []
    → slice_get class.fields k ≡ Some f → matches_field line (named_field p f) ≡ false → Grew p rs (OfChoice number place (choice.Field k)) old old
field_other p rs read number place class line k f old g lines at fails =
    grew_no p rs read number place class (OfChoice number place (choice.Field k)) old g (λ n j d is. (is.0, is.1)) (λ n j d t is could. clash (sym (field_text p g.rule class line k f d t lines at could is.2).1 ∙ fails))

-- ---- several

has_kept : (old new : List Instance) (number place : ℕ) (c : Choice) (text : List ℕ) → ((i : Instance) → Contains old i → Contains new i) → HasInstance old number place c text → HasInstance new number place c text
has_kept old new number place c text kept has = record { one = has.one; there = kept has.one has.there; rule = has.rule; class = has.class; choice = has.choice; says = has.says }

both_sound : (p : Program) (rs : List IfRule) (old mid : List Instance) (i : Instance) → ((i : Instance) → Contains mid i → Contains old i ⊎ IsInstance p rs i) → Contains mid i ⊎ IsInstance p rs i → Contains old i ⊎ IsInstance p rs i
both_sound p rs old mid i first (inl there) = first i there
both_sound p rs old mid i first (inr is) = inr is

both_has : (p : Program) (rs : List IfRule) (one two : ℕ → ℕ → Choice → Type 0) (old mid new : List Instance) (n k : ℕ) (c : Choice) (t : List ℕ) (pair : IsPair p rs n k) → Could p pair.rule pair.class c t → Grew p rs one old mid → Grew p rs two mid new
    → one n k c ⊎ two n k c → HasInstance new n k c t
both_has p rs one two old mid new n k c t pair could first then (inl is) = has_kept mid new n k c t then.kept (first.complete n k c t pair is could)
both_has p rs one two old mid new n k c t pair could first then (inr is) = then.complete n k c t pair is could

-- what is named in the first or in the second
grew_both : (p : Program) (rs : List IfRule) (named one two : ℕ → ℕ → Choice → Type 0) (old mid new : List Instance)
    → ((n k : ℕ) (c : Choice) (t : List ℕ) (pair : IsPair p rs n k) → named n k c → Could p pair.rule pair.class c t → one n k c ⊎ two n k c) → Grew p rs one old mid → Grew p rs two mid new → Grew p rs named old new
grew_both p rs named one two old mid new split first then = record {
  kept = λ i there. then.kept i (first.kept i there);
  sound = λ i there. both_sound p rs old mid i first.sound (then.sound i there);
  complete = λ n k c t pair is could. both_has p rs one two old mid new n k c t pair could first then (split n k c t pair is could);
}

grew_none : (p : Program) (rs : List IfRule) (named : ℕ → ℕ → Choice → Type 0) (old : List Instance) → ((n k : ℕ) (c : Choice) → named n k c → ⊥) → Grew p rs named old old
grew_none p rs named old none = record { kept = λ i there. there; sound = λ i there. inl there; complete = λ n k c t pair is could. absurd (none n k c is) }

grew_as : (p : Program) (rs : List IfRule) (named one : ℕ → ℕ → Choice → Type 0) (old new : List Instance) → ((n k : ℕ) (c : Choice) (t : List ℕ) (pair : IsPair p rs n k) → named n k c → Could p pair.rule pair.class c t → one n k c)
    → Grew p rs one old new → Grew p rs named old new
grew_as p rs named one old new goes grew = record { kept = grew.kept; sound = grew.sound; complete = λ n k c t pair is could. grew.complete n k c t pair (goes n k c t pair is could) could }

-- ---- methods, and fields

pub methods_none : (p : Program) (rs : List IfRule) (number place : ℕ) (old : List Instance) → Grew p rs (OfMethods number place 0) old old
methods_none p rs number place old = grew_none p rs (OfMethods number place 0) old (λ n k c is. let less : is.2.0 < 0 = is.2.1 in absurd (omega (arith, less)))

one_of_methods : (number place past n k m : ℕ) (c : Choice) → n ≡ number → k ≡ place → c ≡ choice.Method m → (m ≡ past) ⊎ (m < past) → OfMethods number place past n k c ⊎ OfChoice number place (choice.Method past) n k c
one_of_methods number place past n k m c e f is (inl same) = inr (e, f, is ∙ ap (λ j. choice.Method j) same)
one_of_methods number place past n k m c e f is (inr less) = inl (e, f, (m, less, is))

pub methods_more : (p : Program) (rs : List IfRule) (number place past : ℕ) (old mid new : List Instance) → Grew p rs (OfMethods number place past) old mid → Grew p rs (OfChoice number place (choice.Method past)) mid new → Grew p rs (OfMethods number place (past + 1)) old new
methods_more p rs number place past old mid new before one = grew_both p rs (OfMethods number place (past + 1)) (OfMethods number place past) (OfChoice number place (choice.Method past)) old mid new
    (λ n k c t pair is could.
    let less : is.2.0 < past + 1 = is.2.1 in
    let most : is.2.0 ≤ past = omega (arith, less) in
    one_of_methods number place past n k is.2.0 c is.0 is.1 is.2.2 (eq-or-lt_of_le most)) before one

pub methods_all : (p : Program) (rs : List IfRule) (number place past all : ℕ) (old new : List Instance) → all ≤ past → Grew p rs (OfMethods number place past) old new → Grew p rs (OfMethods number place all) old new
methods_all p rs number place past all old new end grew = grew_as p rs (OfMethods number place all) (OfMethods number place past) old new
    (λ n k c t pair is could.
    let less : is.2.0 < all = is.2.1 in
    (is.0, is.1, (is.2.0, omega (arith, less, end), is.2.2))) grew

pub fields_none : (p : Program) (rs : List IfRule) (number place : ℕ) (old : List Instance) → Grew p rs (OfFields number place 0) old old
fields_none p rs number place old = grew_none p rs (OfFields number place 0) old (λ n k c is. let less : is.2.0 < 0 = is.2.1 in absurd (omega (arith, less)))

one_of_fields : (number place past n k m : ℕ) (c : Choice) → n ≡ number → k ≡ place → c ≡ choice.Field m → (m ≡ past) ⊎ (m < past) → OfFields number place past n k c ⊎ OfChoice number place (choice.Field past) n k c
one_of_fields number place past n k m c e f is (inl same) = inr (e, f, is ∙ ap (λ j. choice.Field j) same)
one_of_fields number place past n k m c e f is (inr less) = inl (e, f, (m, less, is))

pub fields_more : (p : Program) (rs : List IfRule) (number place past : ℕ) (old mid new : List Instance) → Grew p rs (OfFields number place past) old mid → Grew p rs (OfChoice number place (choice.Field past)) mid new → Grew p rs (OfFields number place (past + 1)) old new
fields_more p rs number place past old mid new before one = grew_both p rs (OfFields number place (past + 1)) (OfFields number place past) (OfChoice number place (choice.Field past)) old mid new
    (λ n k c t pair is could.
    let less : is.2.0 < past + 1 = is.2.1 in
    let most : is.2.0 ≤ past = omega (arith, less) in
    one_of_fields number place past n k is.2.0 c is.0 is.1 is.2.2 (eq-or-lt_of_le most)) before one

pub fields_all : (p : Program) (rs : List IfRule) (number place past all : ℕ) (old new : List Instance) → all ≤ past → Grew p rs (OfFields number place past) old new → Grew p rs (OfFields number place all) old new
fields_all p rs number place past all old new end grew = grew_as p rs (OfFields number place all) (OfFields number place past) old new
    (λ n k c t pair is could.
    let less : is.2.0 < all = is.2.1 in
    (is.0, is.1, (is.2.0, omega (arith, less, end), is.2.2))) grew

-- ---- a class

pub class_each : (p : Program) (rs : List IfRule) (read : ReadIf) (number place : ℕ) (class : Class) (old new : List Instance) (g : IsGiven p rs read number place class) → uses_line g.rule ≡ false → Grew p rs (OfChoice number place choice.Each) old new
    → Grew p rs (OfPlace number place) old new
class_each p rs read number place class old new g uses grew = grew_as p rs (OfPlace number place) (OfChoice number place choice.Each) old new
    (λ n k d t pair is could. (is.0, is.1, each_only p g.rule class d t uses (given_could p rs read number place n k class d t g pair is.0 is.1 could))) grew

member_of : (number place n k : ℕ) (class : Class) (d : Choice) → n ≡ number → k ≡ place → AsksMember class d → OfMethods number place (length class.methods) n k d ⊎ OfFields number place (length class.fields) n k d
member_of number place n k class _ e f (AsksMethod m less) = inl (e, f, (m, less, refl))
member_of number place n k class _ e f (AsksField m less) = inr (e, f, (m, less, refl))

pub class_members : (p : Program) (rs : List IfRule) (read : ReadIf) (number place : ℕ) (class : Class) (old mid new : List Instance) (g : IsGiven p rs read number place class) → uses_line g.rule ≡ true → Grew p rs (OfMethods number place (length class.methods)) old mid
    → Grew p rs (OfFields number place (length class.fields)) mid new → Grew p rs (OfPlace number place) old new
class_members p rs read number place class old mid new g uses methods fields =
    grew_both p rs (OfPlace number place) (OfMethods number place (length class.methods)) (OfFields number place (length class.fields)) old mid new
    (λ n k d t pair is could. member_of number place n k class d is.0 is.1 (asks_member p g.rule class d t uses (given_could p rs read number place n k class d t g pair is.0 is.1 could))) methods fields

pub class_none : (p : Program) (rs : List IfRule) (read : ReadIf) (number place : ℕ) (class : Class) (old : List Instance) (g : IsGiven p rs read number place class) → uses_line g.rule ≡ true → ((m : MemberRule) → lines_of g.rule.condition ≡ m ∷ [] → ⊥)
    → Grew p rs (OfPlace number place) old old
class_none p rs read number place class old g uses none =
    grew_no p rs read number place class (OfPlace number place) old g (λ n k d is. (is.0, is.1)) (λ n k d t is could. no_line p g.rule class d t uses none could)

-- not one line alone
pub more_lines : (read : List ReadMember) (ms : List MemberRule) (m : MemberRule) → (length read ≡ 1 → ⊥) → AreEach IsMemberOf read ms → ms ≡ m ∷ [] → ⊥
more_lines read ms m many are is = many (each_length IsMemberOf read ms are ∙ ap length is)

-- the line that stands alone
pub record OnlyLine (read : ReadMember) (ms : List MemberRule) : Type 0 where
  pub one : MemberRule
  pub is : ms ≡ one ∷ []
  pub related : IsMemberOf read one

pub only_line : (read : List ReadMember) (r : ReadMember) (ms : List MemberRule) → length read ≡ 1 → r ≡ get_or read 0 r → AreEach IsMemberOf read ms → OnlyLine r ms
only_line [] r ms size is are = absurd (omega (arith, size))
only_line (x ∷ []) r [] size is are = absurd are
only_line (x ∷ []) r (m ∷ []) size is are = record { one = m; is = refl; related = subst (λ y. IsMemberOf y m) (sym is) are.0 }
only_line (x ∷ []) r (m ∷ k ∷ ms) size is are = absurd are.1
only_line (x ∷ y ∷ read) r ms size is are = absurd (omega (arith, size))

-- ---- what is known of the members of a class

pub method_known : (p : Program) (class : Class) (k : ℕ) (m : OwnMethod) → has_names p class ≡ true → slice_get class.methods k ≡ Some m → has_method_name p m ≡ true
method_known p class k m names at = all_at (has_method_name p) class.methods k m (and_left (list_all (has_method_name p) class.methods) (list_all (has_field_name p) class.fields) names) at

pub field_known : (p : Program) (class : Class) (k : ℕ) (f : OwnField) → has_names p class ≡ true → slice_get class.fields k ≡ Some f → has_field_name p f ≡ true
field_known p class k f names at = all_at (has_field_name p) class.fields k f (and_right (list_all (has_method_name p) class.methods) (list_all (has_field_name p) class.fields) names) at

-- the class at a place
pub given : (p : Program) (rs : List IfRule) (read : ReadIf) (number place : ℕ) (class : Class) (r : IfRule) → slice_get rs number ≡ Some r → IsIfOf read r → IsMatchedAt p r.condition place → slice_get p.classes place ≡ Some class → IsGiven p rs read number place class
given p rs read number place class r is of m at = record {
  rule = r;
  is_rule = is;
  related = of;
  is_class = at;
  fits = ap (λ c. matches_class (named p) r.condition (named_class p c)) (same_some class m.class (sym at ∙ m.is)) ∙ m.fits;
}

pub no_class : (p : Program) (k : IfRule) (place : ℕ) → slice_get p.classes place ≡ None → IsMatchedAt p k.condition place → ⊥
no_class p k place none m = no_some m.class (sym m.is ∙ none)

-- ---- the classes of a rule

-- the instances of those of some places that aren't left
pub record GrewBut (p : Program) (rs : List IfRule) (number : ℕ) (places rest : List ℕ) (old new : List Instance) : Type 0 where
  pub kept : (i : Instance) → Contains old i → Contains new i
  pub sound : (i : Instance) → Contains new i → Contains old i ⊎ IsInstance p rs i
  pub complete : (n place : ℕ) (c : Choice) (t : List ℕ) (pair : IsPair p rs n place) → n ≡ number → Contains places place → Could p pair.rule pair.class c t → Contains rest place ⊎ HasInstance new n place c t
  pub among : (k : ℕ) → Contains rest k → Contains places k

pub but_all : (p : Program) (rs : List IfRule) (number : ℕ) (places : List ℕ) (old : List Instance) → GrewBut p rs number places places old old
but_all p rs number places old = record { kept = λ i there. there; sound = λ i there. inl there; complete = λ n place c t pair e there could. inl there; among = λ k there. there }

head_or_tail : (k j : ℕ) (ks : List ℕ) → Contains (k ∷ []) j ⊎ Contains ks j → (k ≡ j) ⊎ Contains ks j
head_or_tail k j ks (inl there) = by (Contains-push_cases [] k j there)
  where
    by : Contains [] j ⊎ (k ≡ j) → (k ≡ j) ⊎ Contains ks j
    by (inl never) = let less : never.0 < 0 = never.1 in absurd (omega (arith, less))
    by (inr same) = inl same
head_or_tail k j ks (inr there) = inr there

contains_cases : (k j : ℕ) (ks : List ℕ) → Contains (k ∷ ks) j → (k ≡ j) ⊎ Contains ks j
contains_cases k j ks there = head_or_tail k j ks (Contains-append_cases (k ∷ []) ks j there)

but_by : (p : Program) (rs : List IfRule) (number k : ℕ) (rest : List ℕ) (mid new : List Instance) (n place : ℕ) (c : Choice) (t : List ℕ) (pair : IsPair p rs n place) → Grew p rs (OfPlace number k) mid new → n ≡ number → Could p pair.rule pair.class c t
    → Contains (k ∷ rest) place ⊎ HasInstance mid n place c t → Contains rest place ⊎ HasInstance new n place c t
but_by p rs number k rest mid new n place c t pair grew e could (inr has) = inr (has_kept mid new n place c t grew.kept has)
but_by p rs number k rest mid new n place c t pair grew e could (inl there) = by (contains_cases k place rest there)
  where
    by : (k ≡ place) ⊎ Contains rest place → Contains rest place ⊎ HasInstance new n place c t
    by (inl same) = inr (grew.complete n place c t pair (e, sym same) could)
    by (inr there) = inl there

pub but_more : (p : Program) (rs : List IfRule) (number : ℕ) (places now : List ℕ) (k : ℕ) (rest : List ℕ) (old mid new : List Instance) → now ≡ k ∷ rest → Grew p rs (OfPlace number k) mid new → GrewBut p rs number places now old mid
    → GrewBut p rs number places rest old new
but_more p rs number places now k rest old mid new is grew before = record {
  kept = λ i there. grew.kept i (before.kept i there);
  sound = λ i there. both_sound p rs old mid i before.sound (grew.sound i there);
  complete = λ n place c t pair e there could. but_by p rs number k rest mid new n place c t pair grew e could (subst (λ ks. Contains ks place ⊎ HasInstance mid n place c t) is (before.complete n place c t pair e there could));
  among = λ j there. before.among j (subst (λ ks. Contains ks j) (sym is) (Contains-append_right (k ∷ []) rest j there));
}

-- the first of those that are left is one of them
pub but_first : (p : Program) (rs : List IfRule) (number : ℕ) (places now : List ℕ) (k : ℕ) (rest : List ℕ) (old mid : List Instance) → now ≡ k ∷ rest → GrewBut p rs number places now old mid → Contains places k
but_first p rs number places now k rest old mid is before = before.among k (subst (λ ks. Contains ks k) (sym is) (Contains-append_left (k ∷ []) rest k (Contains-push [] k)))

left_none : (new : List Instance) (n place : ℕ) (c : Choice) (t : List ℕ) → Contains [] place ⊎ HasInstance new n place c t → HasInstance new n place c t
left_none new n place c t (inl never) = let less : never.0 < 0 = never.1 in absurd (omega (arith, less))
left_none new n place c t (inr has) = has

pub but_none : (p : Program) (rs : List IfRule) (number : ℕ) (r : IfRule) (places now : List ℕ) (old new : List Instance) → now ≡ [] → slice_get rs number ≡ Some r → AreMatched p r.condition places → GrewBut p rs number places now old new → Grew p rs (OfRule number) old new
but_none p rs number r places now old new none is matched before = record {
  kept = before.kept;
  sound = before.sound;
  complete = λ n place c t pair e could.
      let same : pair.rule ≡ r = same_some pair.rule r (sym pair.is_rule ∙ ap (slice_get rs) e ∙ is) in
      let there : Contains places place = matched.complete place (record { class = pair.class; is = pair.is_class; fits = ap (λ q. matches_class (named p) q.condition (named_class p pair.class)) (sym same) ∙ pair.fits }) in
      left_none new n place c t (subst (λ ks. Contains ks place ⊎ HasInstance new n place c t) none (before.complete n place c t pair e there could));
}

-- ---- all rules

pub rules_none : (p : Program) (rs : List IfRule) (old : List Instance) → Grew p rs (OfRules 0) old old
rules_none p rs old = grew_none p rs (OfRules 0) old (λ n k c is. let less : n < 0 = is in absurd (omega (arith, less)))

one_of_rules : (past n k : ℕ) (c : Choice) → (n ≡ past) ⊎ (n < past) → OfRules past n k c ⊎ OfRule past n k c
one_of_rules past n k c (inl same) = inr same
one_of_rules past n k c (inr less) = inl less

pub rules_more : (p : Program) (rs : List IfRule) (past : ℕ) (old mid new : List Instance) → Grew p rs (OfRules past) old mid → Grew p rs (OfRule past) mid new → Grew p rs (OfRules (past + 1)) old new
rules_more p rs past old mid new before one = grew_both p rs (OfRules (past + 1)) (OfRules past) (OfRule past) old mid new
    (λ n k c t pair is could.
    let less : n < past + 1 = is in
    let most : n ≤ past = omega (arith, less) in
    one_of_rules past n k c (eq-or-lt_of_le most)) before one

new_sound : (p : Program) (rs : List IfRule) (i : Instance) → Contains [] i ⊎ IsInstance p rs i → IsInstance p rs i
new_sound p rs i (inl never) = let less : never.0 < 0 = never.1 in absurd (omega (arith, less))
new_sound p rs i (inr is) = is

pub rules_all : (p : Program) (rs : List IfRule) (past : ℕ) (new : List Instance) → length rs ≤ past → Grew p rs (OfRules past) [] new → AreInstances p rs new
rules_all p rs past new end grew = record {
  sound = λ i there. new_sound p rs i (grew.sound i there);
  complete = λ number place c t pair could.
      let less : number < length rs = slice_get_within rs number pair.rule pair.is_rule in
      grew.complete number place c t pair (omega (arith, less, end)) could;
}
