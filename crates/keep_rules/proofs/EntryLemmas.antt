-- What all entries mark, entry by entry.
use Rattle.std.proofs.Common.{◌≡◌, ℕ, zero, suc, ◌+◌, ◌<◌, ◌≤◌, Bool, true, false, true≢false, nat_eq, List, [], ◌∷◌, ◌++◌, length, drop, get_or, Option, Some, None, refl, sym, ap, subst, ◌∙◌, arith, inl, inr, ◌⊎◌, lt-ltb, ltb-true}
use Rattle.std.specs.Prelude.{◌&&◌, ◌||◌, not, slice_get, nat_lt, filter, All, if◌then◌else◌}
use Rattle.std.specs.List.{list_any}
use Rattle.std.proofs.lemmas.Bool.{cases_lt}
use Rattle.std.proofs.lemmas.List.Folds.{list_any-append}
use Rattle.std.proofs.lemmas.List.{drop_more, drop_all}
use Rattle.std.proofs.lemmas.List.Elements.{All-push}
use Rattle.program_model.specs.declared.pools.MethodName.{MethodName}
use Rattle.program_model.specs.declared.pass.ClassIf.{ClassIf}
use Rattle.program_model.specs.declared.program.Program.{Program}
use Rattle.dalvik_defs.specs.Naming.{text_at, type_at, signature_at, method_at, named}
use Rattle.dalvik_defs.specs.Under.{defines}
use Rattle.dalvik_defs.specs.declared.names.MethodKey.{MethodKey}
use Rattle.rule_text.specs.Tokens.{Word}
use Rattle.rule_text.specs.Rules.{KeepRule, AssumeRule, Entry, Setting, Keep, Assume}
use Rattle.rule_text.specs.Related.{AreEach, IsEntryOf, OfSetting, OfKeep, OfAssume, IsKeepOf, IsAssumeOf}
use Rattle.rule_text.specs.Spelling.{word_eq, setting_word}
use Rattle.rule_text.specs.declared.rules.Entry.{Entry as ReadEntry}
use Rattle.rule_text.specs.declared.rules.Entry.TheVariants as entry
use Rattle.rule_text.specs.declared.rules.Setting.{Setting as ReadSetting}
use Rattle.rule_text.specs.declared.rules.KeepRule.{KeepRule as ReadKeep}
use Rattle.rule_text.specs.declared.rules.AssumeRule.{AssumeRule as ReadAssume}
use Rattle.rule_text.specs.declared.rules.SettingName.{SettingName}
use Rattle.rule_defs.specs.Patterns.{some_name_fits}
use Rattle.rule_defs.specs.Members.{names_method}
use Rattle.rule_defs.specs.Kept.{is_conditional, rules_of, describing, is_setting, is_assumed}
use Rattle.name_bridge.proofs.Tables.{method_is}
use Rattle.class_defs.proofs.WellFormed.{Sound, and_left, and_right}
use Rattle.class_defs.proofs.Positions.{same_test, both, number_of, number_test}
use Rattle.keep_rules.specs.Table.{has_pair}
use Rattle.keep_rules.specs.Grown.{Grew, Part, Slot, Kinds, Fields, Methods, Silent, Kept, Live, Described, DescribedLive, marks_in, marks_of, is_in, GrewAll, LeftAll, is_always_of, is_describing, rule_classes, rule_fields, rule_methods, rule_marks, some_rule, rules_in, is_defined, all_marks}
use Rattle.keep_rules.specs.Silent.{some_line_names, is_silent_type, is_named, is_silent_by}
use Rattle.keep_rules.specs.Described.{has_both}
use Rattle.keep_rules.specs.Entries.{entry_marks, AddsPair}
use Rattle.keep_rules.specs.declared.marks.Marks.{Marks}
use Rattle.keep_rules.proofs.GrownLemmas.{grew_none, left_start, left_end, left_more}
use Rattle.keep_rules.proofs.EachLemmas.{each_at, each_end}
use Rattle.keep_rules.proofs.AnyLemmas.{any_at}

-- ---- rules

or_none : (a : Bool) → (a || false) ≡ a
or_none true = refl
or_none false = refl

abbrev one_if : Bool → KeepRule → List KeepRule
one_if b k = if b then k ∷ [] else []

-- whether a rule is among those that mark a part
any_one : (f : KeepRule → Bool) (b : Bool) (k : KeepRule) → list_any f (one_if b k) ≡ (b && f k)
any_one f true k = or_none (f k)
any_one f false k = refl

filter_append : (t : KeepRule → Bool) (xs ys : List KeepRule) → filter t (xs ++ ys) ≡ filter t xs ++ filter t ys
filter_append t [] ys = refl
filter_append t (x ∷ xs) ys = step (t x) (filter_append t xs ys)
  where
    step : (b : Bool) → filter t (xs ++ ys) ≡ filter t xs ++ filter t ys → (if b then x ∷ filter t (xs ++ ys) else filter t (xs ++ ys)) ≡ (if b then x ∷ filter t xs else filter t xs) ++ filter t ys
    step true r = ap (λ l. x ∷ l) r
    step false r = r

filter_one : (t : KeepRule → Bool) (b : Bool) (k : KeepRule) → filter t (one_if b k) ≡ one_if (b && t k) k
filter_one t true k = step (t k)
  where
    step : (c : Bool) → (if c then k ∷ [] else []) ≡ one_if c k
    step true = refl
    step false = refl
filter_one t false k = refl

rules_first : (conditional : Bool) (k : KeepRule) (es : List Entry) → rules_of conditional (Keep k ∷ es) ≡ one_if (if conditional then is_conditional k.kind else not (is_conditional k.kind)) k ++ rules_of conditional es
rules_first true k es = step (is_conditional k.kind)
  where
    step : (c : Bool) → (if c then (if true then k ∷ [] else []) else (if true then [] else k ∷ [])) ++ rules_of true es ≡ one_if c k ++ rules_of true es
    step true = refl
    step false = refl
rules_first false k es = step (is_conditional k.kind)
  where
    step : (c : Bool) → (if c then (if false then k ∷ [] else []) else (if false then [] else k ∷ [])) ++ rules_of false es ≡ one_if (not c) k ++ rules_of false es
    step true = refl
    step false = refl

not_not : (b : Bool) → b ≡ not (not b)
not_not true = refl
not_not false = refl

in_first : (s : Part) (k : KeepRule) (es : List Entry) → rules_in s (Keep k ∷ es) ≡ one_if (is_in (is_always_of k) (is_describing k) s) k ++ rules_in s es
in_first Kept k es = rules_first false k es
in_first Live k es = rules_first true k es ∙ ap (λ b. one_if b k ++ rules_of true es) (not_not (is_conditional k.kind))
in_first Described k es = ap describing (rules_first false k es) ∙ filter_append is_describing (one_if (is_always_of k) k) (rules_of false es) ∙ ap (λ l. l ++ describing (rules_of false es)) (filter_one is_describing (is_always_of k) k)
in_first DescribedLive k es = ap describing (rules_first true k es ∙ ap (λ b. one_if b k ++ rules_of true es) (not_not (is_conditional k.kind)))
    ∙ filter_append is_describing (one_if (not (is_always_of k)) k) (rules_of true es) ∙ ap (λ l. l ++ describing (rules_of true es)) (filter_one is_describing (not (is_always_of k)) k)

some_first : (f : KeepRule → Bool) (s : Part) (k : KeepRule) (es : List Entry) → some_rule f (rules_in s (Keep k ∷ es)) ≡ ((is_in (is_always_of k) (is_describing k) s && f k) || some_rule f (rules_in s es))
some_first f s k es = ap (list_any f) (in_first s k es) ∙ list_any-append f (one_if (is_in (is_always_of k) (is_describing k) s) k) (rules_in s es) ∙ ap (λ b. b || some_rule f (rules_in s es)) (any_one f (is_in (is_always_of k) (is_describing k) s) k)

in_setting : (s : Part) (name : SettingName) (ws : List Word) (es : List Entry) → rules_in s (Setting name ws ∷ es) ≡ rules_in s es
in_setting Kept name ws es = refl
in_setting Live name ws es = refl
in_setting Described name ws es = refl
in_setting DescribedLive name ws es = refl

in_assume : (s : Part) (a : AssumeRule) (es : List Entry) → rules_in s (Assume a ∷ es) ≡ rules_in s es
in_assume Kept a es = refl
in_assume Live a es = refl
in_assume Described a es = refl
in_assume DescribedLive a es = refl

-- ---- methods that are assumed to do nothing

names_none : (ws : List Word) → some_name_fits ws [] ≡ false
names_none [] = refl
names_none (w ∷ ws) = names_none ws

silent_test : Bool → Bool → Bool
silent_test d b = not d && b

module _ (p : Program) (s : Sound p) where
  assumed_at : (a : AssumeRule) (n : ℕ) (m : MethodName) → slice_get p.methods n ≡ Some m → is_silent_by p a n ≡ (not (is_defined p n) && is_assumed (method_at p n) (Assume a))
  assumed_at a n m e =
      ap (λ o. elim o as (λ o. Bool) [ Some m ↦ is_silent_type p a m.class && is_named p a n | None ↦ false ]) e
      ∙ ap (λ b. is_silent_type p a m.class && b) (ap (λ o. elim o as (λ o. Bool) [ Some m ↦ some_line_names p a.members m | None ↦ false ]) e)
      ∙ moved (not (defines (named p) (type_at p m.class))) (some_name_fits a.names (type_at p m.class)) (some_line_names p a.members m)
      ∙ sym (ap (λ k. not (defines (named p) k.class) && is_assumed k (Assume a)) (method_is p s n m e))
    where
      moved : (a b c : Bool) → ((a && b) && c) ≡ (a && (b && c))
      moved true b c = refl
      moved false b c = refl

  nameless : (n : ℕ) → slice_get p.methods n ≡ None → method_at p n ≡ record { class = []; name = []; signature = record { parameters = []; result = [] } }
  nameless n e = ap (λ o. elim o as (λ o. MethodKey) [ Some m ↦ record { class = type_at p m.class; name = text_at p m.name; signature = signature_at p m.proto } | None ↦ record { class = []; name = []; signature = record { parameters = []; result = [] } } ]) e

  assumed_none : (a : AssumeRule) (n : ℕ) → slice_get p.methods n ≡ None → is_silent_by p a n ≡ (not (is_defined p n) && is_assumed (method_at p n) (Assume a))
  assumed_none a n e =
      ap (λ o. elim o as (λ o. Bool) [ Some m ↦ is_silent_type p a m.class && is_named p a n | None ↦ false ]) e
      ∙ sym (ap (λ k. not (is_defined p n) && is_assumed k (Assume a)) (nameless n e)
      ∙ ap (λ b. not (is_defined p n) && (b && list_any (λ line. names_method line.what [] (record { parameters = []; result = [] })) a.members)) (names_none a.names)
      ∙ last (not (is_defined p n)))
    where
      last : (b : Bool) → (b && false) ≡ false
      last true = refl
      last false = refl

  assumed_is : (a : AssumeRule) (n : ℕ) → is_silent_by p a n ≡ (not (is_defined p n) && is_assumed (method_at p n) (Assume a))
  assumed_is a n = by (slice_get p.methods n) refl
    where
      by : (o : Option MethodName) → slice_get p.methods n ≡ o → is_silent_by p a n ≡ (not (is_defined p n) && is_assumed (method_at p n) (Assume a))
      by None e = assumed_none a n e
      by (Some m) e = assumed_at a n m e

  spread : (a x y : Bool) → (a && (x || y)) ≡ ((a && x) || (a && y))
  spread true x y = refl
  spread false x y = refl

  -- one entry and those behind it
  pub entry_first : (e : Entry) (es : List Entry) (t : Slot) (n : ℕ) → all_marks p (e ∷ es) t n ≡ (entry_marks p e t n || all_marks p es t n)
  entry_first (Keep k) es Kinds n = some_first (λ r. rule_classes p r p.classes n) Kept k es
  entry_first (Keep k) es (Fields part) n = some_first (λ r. rule_fields p r p.classes n) part k es
  entry_first (Keep k) es (Methods part) n = some_first (λ r. rule_methods p r p.classes n) part k es
  entry_first (Keep k) es Silent n = refl
  entry_first (Assume a) es Kinds n = refl
  entry_first (Assume a) es (Fields part) n = ap (some_rule (λ r. rule_fields p r p.classes n)) (in_assume part a es)
  entry_first (Assume a) es (Methods part) n = ap (some_rule (λ r. rule_methods p r p.classes n)) (in_assume part a es)
  entry_first (Assume a) es Silent n = spread (not (is_defined p n)) (is_assumed (method_at p n) (Assume a)) (list_any (is_assumed (method_at p n)) es) ∙ ap (λ b. b || all_marks p es Silent n) (sym (assumed_is a n))
  entry_first (Setting name ws) es Kinds n = refl
  entry_first (Setting name ws) es (Fields part) n = ap (some_rule (λ r. rule_fields p r p.classes n)) (in_setting part name ws es)
  entry_first (Setting name ws) es (Methods part) n = ap (some_rule (λ r. rule_methods p r p.classes n)) (in_setting part name ws es)
  entry_first (Setting name ws) es Silent n = refl

  no_marks : (t : Slot) (n : ℕ) → all_marks p [] t n ≡ false
  no_marks Kinds n = refl
  no_marks (Fields part) n = none part
    where
      none : (part : Part) → some_rule (λ r. rule_fields p r p.classes n) (rules_in part []) ≡ false
      none Kept = refl
      none Live = refl
      none Described = refl
      none DescribedLive = refl
  no_marks (Methods part) n = none part
    where
      none : (part : Part) → some_rule (λ r. rule_methods p r p.classes n) (rules_in part []) ≡ false
      none Kept = refl
      none Live = refl
      none Described = refl
      none DescribedLive = refl
  no_marks Silent n = last (not (is_defined p n))
    where
      last : (b : Bool) → (b && false) ≡ false
      last true = refl
      last false = refl

  -- ---- the loop over entries

  pub entries_start : (es : List Entry) (m : Marks) → LeftAll (all_marks p es) (all_marks p es) m m
  entries_start es m t = left_start (all_marks p es t) (marks_of t m)

  pub entries_more : (rs : List ReadEntry) (es : List Entry) (i : ℕ) (r : ReadEntry) (old mid new : Marks) → AreEach IsEntryOf rs es → i < length rs → r ≡ get_or rs i r → LeftAll (all_marks p (drop i es)) (all_marks p es) old mid
      → ((e : Entry) → IsEntryOf r e → GrewAll (entry_marks p e) mid new) → LeftAll (all_marks p (drop (i + 1) es)) (all_marks p es) old new
  entries_more rs es i r old mid new are h e l g t =
      let at = each_at IsEntryOf rs es i are h in
      left_more (all_marks p (drop i es) t) (all_marks p (drop (i + 1) es) t) (all_marks p es t) (entry_marks p at.one t) (marks_of t old) (marks_of t mid) (marks_of t new)
      (λ n. ap (λ l. all_marks p l t n) at.next ∙ entry_first at.one (drop (i + 1) es) t n) (l t) (g at.one (at.is r e) t)

  pub entries_end : (rs : List ReadEntry) (es : List Entry) (i : ℕ) (old new : Marks) → AreEach IsEntryOf rs es → length rs ≤ i → LeftAll (all_marks p (drop i es)) (all_marks p es) old new → GrewAll (all_marks p es) old new
  entries_end rs es i old new are h l t = left_end (all_marks p (drop i es) t) (all_marks p es t) (marks_of t old) (marks_of t new) (λ n. ap (λ l. all_marks p l t n) (each_end IsEntryOf rs es i are h) ∙ no_marks t n) (l t)

-- ---- one entry

pub by_setting : (p : Program) (x : ReadEntry) (r : ReadSetting) (e : Entry) (m : Marks) → x ≡ entry.Setting r → IsEntryOf x e → GrewAll (entry_marks p e) m m
by_setting p x r e m s is = at r e (subst (λ y. IsEntryOf y e) s is)
  where
    at : (r : ReadSetting) (e : Entry) → IsEntryOf (entry.Setting r) e → GrewAll (entry_marks p e) m m
    at _ _ (OfSetting r name ws is) t = grew_none (entry_marks p (Setting name ws) t) (marks_of t m) (λ n. refl)

pub by_keep : (p : Program) (x : ReadEntry) (r : ReadKeep) (e : Entry) (old new : Marks) → x ≡ entry.Keep r → IsEntryOf x e → ((k : KeepRule) → IsKeepOf r k → GrewAll (rule_marks p k p.classes) old new) → GrewAll (entry_marks p e) old new
by_keep p x r e old new s is g = at r e (subst (λ y. IsEntryOf y e) s is) g
  where
    at : (r : ReadKeep) (e : Entry) → IsEntryOf (entry.Keep r) e → ((k : KeepRule) → IsKeepOf r k → GrewAll (rule_marks p k p.classes) old new) → GrewAll (entry_marks p e) old new
    at _ _ (OfKeep r k is) g = g k is

pub by_assume : (p : Program) (x : ReadEntry) (r : ReadAssume) (e : Entry) (old new : Marks) → x ≡ entry.Assume r → IsEntryOf x e → ((a : AssumeRule) → IsAssumeOf r a → GrewAll (entry_marks p (Assume a)) old new) → GrewAll (entry_marks p e) old new
by_assume p x r e old new s is g = at r e (subst (λ y. IsEntryOf y e) s is) g
  where
    at : (r : ReadAssume) (e : Entry) → IsEntryOf (entry.Assume r) e → ((a : AssumeRule) → IsAssumeOf r a → GrewAll (entry_marks p (Assume a)) old new) → GrewAll (entry_marks p e) old new
    at _ _ (OfAssume r a is) g = g a is

-- the marks of silent methods alone
pub silent_alone : (p : Program) (a : AssumeRule) (old new : Marks) → new.classes ≡ old.classes → new.fields ≡ old.fields → new.methods ≡ old.methods → Grew (is_silent_by p a) old.silent.items new.silent.items → GrewAll (entry_marks p (Assume a)) old new
silent_alone p a old new c f m g Kinds = subst (λ l. Grew (λ n. false) old.classes.items l.items) (sym c) (grew_none (λ n. false) old.classes.items (λ n. refl))
silent_alone p a old new c f m g (Fields part) = subst (λ l. Grew (λ n. false) (marks_of (Fields part) old) l) (sym (ap (λ x. marks_in part x) f)) (grew_none (λ n. false) (marks_of (Fields part) old) (λ n. refl))
silent_alone p a old new c f m g (Methods part) = subst (λ l. Grew (λ n. false) (marks_of (Methods part) old) l) (sym (ap (λ x. marks_in part x) m)) (grew_none (λ n. false) (marks_of (Methods part) old) (λ n. refl))
silent_alone p a old new c f m g Silent = g

-- ---- options

pub setting_is : (wanted : SettingName) (x : ReadEntry) (r : ReadSetting) (e : Entry) → x ≡ entry.Setting r → IsEntryOf x e → word_eq (setting_word r.name) (setting_word wanted) ≡ is_setting wanted e
setting_is wanted x r e s is = at r e (subst (λ y. IsEntryOf y e) s is)
  where
    at : (r : ReadSetting) (e : Entry) → IsEntryOf (entry.Setting r) e → word_eq (setting_word r.name) (setting_word wanted) ≡ is_setting wanted e
    at _ _ (OfSetting r name ws is) = ap (λ n. word_eq (setting_word n) (setting_word wanted)) is.same

pub keep_no_setting : (wanted : SettingName) (x : ReadEntry) (r : ReadKeep) (e : Entry) → x ≡ entry.Keep r → IsEntryOf x e → false ≡ is_setting wanted e
keep_no_setting wanted x r e s is = at r e (subst (λ y. IsEntryOf y e) s is)
  where
    at : (r : ReadKeep) (e : Entry) → IsEntryOf (entry.Keep r) e → false ≡ is_setting wanted e
    at _ _ (OfKeep r k is) = refl

pub assume_no_setting : (wanted : SettingName) (x : ReadEntry) (r : ReadAssume) (e : Entry) → x ≡ entry.Assume r → IsEntryOf x e → false ≡ is_setting wanted e
assume_no_setting wanted x r e s is = at r e (subst (λ y. IsEntryOf y e) s is)
  where
    at : (r : ReadAssume) (e : Entry) → IsEntryOf (entry.Assume r) e → false ≡ is_setting wanted e
    at _ _ (OfAssume r a is) = refl

-- ---- pairs below a size

pair_last : (out : List ClassIf) (c : ClassIf) (n k : ℕ) → has_pair (out ++ c ∷ []) n k ≡ (has_pair out n k || (nat_eq n c.class && nat_eq k c.owner))
pair_last out c n k = list_any-append (λ pair. nat_eq n pair.class && nat_eq k pair.owner) out (c ∷ []) ∙ ap (λ b. has_pair out n k || b) (or_none (nat_eq n c.class && nat_eq k c.owner))

-- one that isn't below the size adds nothing
pub pair_outside : (class owner size : ℕ) (old : List ClassIf) → (size ≤ class) ⊎ (size ≤ owner) → AddsPair class owner size old old
pair_outside class owner size old far = record {
  classes = λ all. all;
  owners = λ all. all;
  pairs = λ n k h l. sym (ap (λ b. has_pair old n k || b) (never n k h l far) ∙ or_none (has_pair old n k));
}
  where
    none : (b : Bool) → (b && false) ≡ false
    none true = refl
    none false = refl

    unequal : (a b : ℕ) → a < b → nat_eq a b ≡ false
    unequal a b l = same_test (nat_eq a b) false (λ e. let s = number_of a b e in absurd (omega (arith, l, s))) (λ e. absurd (true≢false (sym e)))

    never : (n k : ℕ) → n < size → k < size → (size ≤ class) ⊎ (size ≤ owner) → (nat_eq n class && nat_eq k owner) ≡ false
    never n k h l (inl g) = ap (λ b. b && nat_eq k owner) (unequal n class (omega (arith, h, g)))
    never n k h l (inr g) = ap (λ b. nat_eq n class && b) (unequal k owner (omega (arith, l, g))) ∙ none (nat_eq n class)

-- one that is there adds nothing
pub pair_there : (class owner size : ℕ) (old : List ClassIf) → has_pair old class owner ≡ true → AddsPair class owner size old old
pair_there class owner size old there = record { classes = λ all. all; owners = λ all. all; pairs = λ n k h l. sym (step n k (nat_eq n class) (nat_eq k owner) refl refl) }
  where
    or_true : (b : Bool) → (b || true) ≡ true
    or_true true = refl
    or_true false = refl

    step : (n k : ℕ) (a b : Bool) → nat_eq n class ≡ a → nat_eq k owner ≡ b → (has_pair old n k || (a && b)) ≡ has_pair old n k
    step n k true true e f = or_true (has_pair old n k) ∙ sym (ap (λ m. has_pair old m k) (number_of n class e) ∙ ap (has_pair old class) (number_of k owner f) ∙ there)
    step n k true false e f = or_none (has_pair old n k)
    step n k false b e f = or_none (has_pair old n k)

pub pair_added : (class owner size : ℕ) (old new : List ClassIf) → class < size → owner < size → new ≡ old ++ record { class = class; owner = owner } ∷ [] → AddsPair class owner size old new
pair_added class owner size old new h l e = record {
  classes = λ all. subst (λ ps. All (λ pair. pair.class < size) ps) (sym e) (All-push (λ (pair : ClassIf). pair.class < size) old (record { class = class; owner = owner }) all h);
  owners = λ all. subst (λ ps. All (λ pair. pair.owner < size) ps) (sym e) (All-push (λ (pair : ClassIf). pair.owner < size) old (record { class = class; owner = owner }) all l);
  pairs = λ n k g m. ap (λ ps. has_pair ps n k) e ∙ pair_last old (record { class = class; owner = owner }) n k;
}

pub same_got : {A : Type 0} (xs : List A) (i : ℕ) (d e : A) → i < length xs → get_or xs i d ≡ get_or xs i e
same_got [] i d e h = absurd (omega arith)
same_got (x ∷ xs) zero d e h = refl
same_got (x ∷ xs) (suc i) d e h = same_got xs i d e (omega arith)

pub pairs_more : (size : ℕ) (pairs : List (ℕ × ℕ)) (i : ℕ) (q : ℕ × ℕ) (old new : List ClassIf) (n k : ℕ) → i < length pairs → q ≡ get_or pairs i q → n < size → k < size → AddsPair q.0 q.1 size old new
    → (has_pair old n k || has_both (drop i pairs) n k) ≡ has_both pairs n k → (has_pair new n k || has_both (drop (i + 1) pairs) n k) ≡ has_both pairs n k
pairs_more size pairs i q old new n k h e g l a inv =
    ap (λ b. b || has_both (drop (i + 1) pairs) n k) (a.pairs n k g l)
    ∙ moved (has_pair old n k) (nat_eq n q.0 && nat_eq k q.1) (has_both (drop (i + 1) pairs) n k)
    ∙ ap (λ b. has_pair old n k || b) (ap (λ (x : ℕ × ℕ). (nat_eq n x.0 && nat_eq k x.1) || has_both (drop (i + 1) pairs) n k) e ∙ sym (ap (λ ps. has_both ps n k) (drop_more pairs i q h)))
    ∙ inv
  where
    moved : (a b c : Bool) → ((a || b) || c) ≡ (a || (b || c))
    moved true b c = refl
    moved false b c = refl

pub pairs_end : (pairs : List (ℕ × ℕ)) (i : ℕ) (out : List ClassIf) (n k : ℕ) → length pairs ≤ i → (has_pair out n k || has_both (drop i pairs) n k) ≡ has_both pairs n k → has_pair out n k ≡ has_both pairs n k
pairs_end pairs i out n k h inv = sym (ap (λ ps. has_pair out n k || has_both ps n k) (drop_all i pairs h) ∙ or_none (has_pair out n k)) ∙ inv

-- whether the numbers are below the size, as a test
pub pair_far : (class owner size : ℕ) (b : Bool) (old : List ClassIf) → b ≡ (nat_lt class size && nat_lt owner size) → b ≡ false → AddsPair class owner size old old
pair_far class owner size b old e f = pair_outside class owner size old (far (sym e ∙ f))
  where
    far : (nat_lt class size && nat_lt owner size) ≡ false → (size ≤ class) ⊎ (size ≤ owner)
    far g = elim (cases_lt class size) [
      | inr l ↦ inl l
      | inl l ↦ elim (cases_lt owner size) [ inr m ↦ inr m | inl m ↦ absurd (true≢false (sym (both (nat_lt class size) (nat_lt owner size) (lt-ltb class size l) (lt-ltb owner size m)) ∙ g)) ]
    ]

pub pair_near : (class owner size : ℕ) (b : Bool) (old new : List ClassIf) → b ≡ (nat_lt class size && nat_lt owner size) → b ≡ true → new ≡ old ++ record { class = class; owner = owner } ∷ [] → AddsPair class owner size old new
pair_near class owner size b old new e f g = pair_added class owner size old new
    (ltb-true class size (and_left (nat_lt class size) (nat_lt owner size) (sym e ∙ f))) (ltb-true owner size (and_right (nat_lt class size) (nat_lt owner size) (sym e ∙ f))) g

pub last_pair : (pairs : List ClassIf) (i : ℕ) (q : ClassIf) (class owner : ℕ) → slice_get pairs i ≡ Some q → (nat_eq q.class class && nat_eq q.owner owner) ≡ true → has_pair pairs class owner ≡ true
last_pair pairs i q class owner e h = any_at (λ pair. nat_eq class pair.class && nat_eq owner pair.owner) pairs i q e
    (both (nat_eq class q.class) (nat_eq owner q.owner) (number_test class q.class (sym (number_of q.class class (and_left (nat_eq q.class class) (nat_eq q.owner owner) h)))) (number_test owner q.owner (sym (number_of q.owner owner (and_right (nat_eq q.class class) (nat_eq q.owner owner) h)))))
