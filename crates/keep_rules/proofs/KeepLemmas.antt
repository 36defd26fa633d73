-- What a rule keeps, class by class.
use Rattle.std.proofs.Common.{◌≡◌, ℕ, zero, suc, ◌+◌, ◌<◌, ◌≤◌, Bool, true, false, true≢false, nat_eq, List, [], ◌∷◌, ◌++◌, length, map, set, drop, get_or, Option, Some, None, Result, refl, sym, ap, subst, ◌∙◌, arith, inl, inr}
use Rattle.std.specs.Prelude.{◌&&◌, ◌||◌, slice_get, if◌then◌else◌, IfOk}
use Rattle.std.specs.List.{list_any, list_all, flat_map}
use Rattle.std.proofs.Common.{Bor}
use Rattle.std.proofs.lemmas.Result.{IfOk-weaker}
use Rattle.std.proofs.lemmas.List.{drop_more, drop_all}
use Rattle.std.proofs.lemmas.List.Folds.{list_any-append}
use Rattle.std.proofs.lemmas.Bool.{lt-ltb}
use Rattle.program_model.specs.declared.program.Field.{Field}
use Rattle.program_model.specs.declared.program.Method.{Method}
use Rattle.program_model.specs.declared.program.Class.{Class}
use Rattle.program_model.specs.declared.program.Program.{Program}
use Rattle.program_model.specs.ProgramRules.{is_well_formed}
use Rattle.program_model.specs.Lookups.{class_place}
use Rattle.class_defs.specs.ClassGraph.{IsTwice}
use Rattle.class_defs.proofs.Positions.{same_test, both}
use Rattle.class_defs.proofs.WellFormed.{Sound, sound, class_parts, FieldFits, MethodFits, and_left, and_right}
use Rattle.name_bridge.proofs.Above.{own_place}
use Rattle.name_bridge.proofs.Tables.{method_proto}
use Rattle.dalvik_defs.specs.Naming.{type_at, mark_of, named_field, named_method, named_class, named}
use Rattle.rule_text.specs.Rules.{Above, ClassRule, KeepRule}
use Rattle.rule_text.specs.Related.{AreBoth, IsAboveOf}
use Rattle.rule_text.specs.declared.rules.Above.{Above as ReadAbove}
use Rattle.rule_defs.specs.Patterns.{some_name_fits}
use Rattle.rule_defs.specs.Members.{OfClass, conditions_hold}
use Rattle.rule_defs.specs.Kept.{is_of_rule_kind, stands_below, matches_class, keeps, is_complete, applies, some_line_of_field, some_line_of_method}
use Rattle.keep_rules.specs.Fits.{words_hold, marks_hold, has_signature, has_method_name, has_field_name, has_names}
use Rattle.keep_rules.specs.Marks.{is_on}
use Rattle.keep_rules.specs.Grown.{Grew, Slot, Kinds, Fields, Methods, Silent, marks_in, marks_of, is_in, GrewMembers, LeftMembers, GrewAll, LeftAll, is_always_of, is_describing, lined_field, lined_method, rule_classes, rule_fields, rule_methods, rule_marks, class_there, class_of_kind}
use Rattle.keep_rules.specs.Sought.{AreStanding, GrewKept}
use Rattle.keep_rules.specs.Tried.{FitAmong}
use Rattle.keep_rules.specs.Below.{AreUnder}
use Rattle.keep_rules.specs.declared.marks.Marks.{Marks}
use Rattle.keep_rules.specs.declared.marks.MemberMarks.{MemberMarks}
use Rattle.keep_rules.proofs.AccessLemmas.{conditions_apart}
use Rattle.keep_rules.proofs.GrownLemmas.{grew_none, grew_as, grew_if, left_start, left_end, left_more}
use Rattle.keep_rules.proofs.AnyLemmas.{find_any, any_at, or_behind, or_front, or_cases, below_length, any_never, place_in}

-- ---- members that have names

pub class_has_names : (p : Program) → is_well_formed p ≡ true → (place : ℕ) (c : Class) → slice_get p.classes place ≡ Some c → has_names p c ≡ true
class_has_names p w place c e =
    let s = sound p w in
    let parts = class_parts p s place c e in
    both (list_all (has_method_name p) c.methods) (list_all (has_field_name p) c.fields) (all_by (has_method_name p) c.methods (λ i m h. method_named s (parts.methods i m h))) (all_by (has_field_name p) c.fields (λ i f h. field_named (parts.fields i f h)))
  where
    all_by : {A : Type 0} (t : A → Bool) (xs : List A) → ((i : ℕ) (x : A) → slice_get xs i ≡ Some x → t x ≡ true) → list_all t xs ≡ true
    all_by t [] h = refl
    all_by t (x ∷ xs) h = both (t x) (list_all t xs) (h 0 x refl) (all_by t xs (λ i y d. h (suc i) y d))

    method_named : Sound p → {m : Method} → MethodFits p c.name m → has_method_name p m ≡ true
    method_named s {m} f = ap (has_signature p) f.is ∙ lt-ltb f.entry.proto (length p.protos) (method_proto p s m.name f.entry f.is)

    field_named : {f : Field} → FieldFits p c.name f → has_field_name p f ≡ true
    field_named {f} h = lt-ltb f.name (length p.fields) (below_length p.fields f.name h.entry h.is)

-- ---- whether a class matches

matches_is : (p : Program) (k : ClassRule) (c : Class) → matches_class (named p) k (named_class p c)
    ≡ (((is_of_rule_kind k c.flags.0 && (words_hold OfClass c.flags.0 k.conditions && marks_hold (map (mark_of p) c.marks) k.conditions)) && some_name_fits k.names (type_at p c.name)) && stands_below (named p) k.above (type_at p c.name))
matches_is p k c = ap (λ b. ((is_of_rule_kind k c.flags.0 && b) && some_name_fits k.names (type_at p c.name)) && stands_below (named p) k.above (type_at p c.name)) (conditions_apart OfClass c.flags.0 (map (mark_of p) c.marks) k.conditions)

pub flags_fail : (p : Program) (k : ClassRule) (c : Class) (under fits : Bool) → fits ≡ (is_of_rule_kind k c.flags.0 && words_hold OfClass c.flags.0 k.conditions) → under ≡ stands_below (named p) k.above (type_at p c.name) → (under && fits) ≡ false
    → false ≡ matches_class (named p) k (named_class p c)
flags_fail p k c under fits f u e = sym (matches_is p k c ∙ step (is_of_rule_kind k c.flags.0) (words_hold OfClass c.flags.0 k.conditions) (marks_hold (map (mark_of p) c.marks) k.conditions) (some_name_fits k.names (type_at p c.name)) (stands_below (named p) k.above (type_at p c.name))
    (ap (λ b. b && (is_of_rule_kind k c.flags.0 && words_hold OfClass c.flags.0 k.conditions)) (sym u) ∙ ap (λ b. under && b) (sym f) ∙ e))
  where
    step : (a w m n b : Bool) → (b && (a && w)) ≡ false → (((a && (w && m)) && n) && b) ≡ false
    step true true m n true e = absurd (true≢false e)
    step true true m n false e = last ((true && (true && m)) && n)
      where
        last : (x : Bool) → (x && false) ≡ false
        last true = refl
        last false = refl
    step true false m n b e = refl
    step false w m n b e = refl

pub names_fail : (p : Program) (k : ClassRule) (c : Class) (n : Bool) → n ≡ some_name_fits k.names (type_at p c.name) → n ≡ false → false ≡ matches_class (named p) k (named_class p c)
names_fail p k c n f e = sym (matches_is p k c ∙ step (is_of_rule_kind k c.flags.0 && (words_hold OfClass c.flags.0 k.conditions && marks_hold (map (mark_of p) c.marks) k.conditions)) (some_name_fits k.names (type_at p c.name)) (stands_below (named p) k.above (type_at p c.name)) (sym f ∙ e))
  where
    step : (a n b : Bool) → n ≡ false → ((a && n) && b) ≡ false
    step true true b e = absurd (true≢false e)
    step true false b e = refl
    step false n b e = refl

pub marks_decide : {E : Type 0} (p : Program) (k : ClassRule) (c : Class) (under fits n : Bool) (r : Result Bool E) → fits ≡ (is_of_rule_kind k c.flags.0 && words_hold OfClass c.flags.0 k.conditions) → under ≡ stands_below (named p) k.above (type_at p c.name) → (under && fits) ≡ true
    → n ≡ some_name_fits k.names (type_at p c.name) → n ≡ true → IfOk r (λ b. b ≡ marks_hold (map (mark_of p) c.marks) k.conditions) → IfOk r (λ b. b ≡ matches_class (named p) k (named_class p c))
marks_decide p k c under fits n r f u e g d h =
    let same : marks_hold (map (mark_of p) c.marks) k.conditions ≡ matches_class (named p) k (named_class p c) = sym (matches_is p k c ∙ step (is_of_rule_kind k c.flags.0) (words_hold OfClass c.flags.0 k.conditions) (marks_hold (map (mark_of p) c.marks) k.conditions) (some_name_fits k.names (type_at p c.name)) (stands_below (named p) k.above (type_at p c.name))
    (ap (λ b. b && (is_of_rule_kind k c.flags.0 && words_hold OfClass c.flags.0 k.conditions)) (sym u) ∙ ap (λ b. under && b) (sym f) ∙ e) (sym g ∙ d)) in
    IfOk-weaker r (λ b. b ≡ marks_hold (map (mark_of p) c.marks) k.conditions) (λ b. b ≡ matches_class (named p) k (named_class p c)) (λ b i. i ∙ same) h
  where
    last : (m : Bool) → ((m && true) && true) ≡ m
    last true = refl
    last false = refl

    step : (a w m n b : Bool) → (b && (a && w)) ≡ true → n ≡ true → (((a && (w && m)) && n) && b) ≡ m
    step true true m true true e d = last m
    step true true m false true e d = absurd (true≢false (sym d))
    step true true m n false e d = absurd (true≢false (sym e))
    step true false m n true e d = absurd (true≢false (sym e))
    step true false m n false e d = absurd (true≢false (sym e))
    step false w m n true e d = absurd (true≢false (sym e))
    step false w m n false e d = absurd (true≢false (sym e))

-- ---- loops over members

pub lined_field_is : (p : Program) (k : KeepRule) (n : ℕ) (f : Field) (b : Bool) → b ≡ some_line_of_field k.class (named_field p f) → lined_field p k n f ≡ (nat_eq n f.name && b)
lined_field_is p k n f b e = ap (λ x. nat_eq n f.name && x) (sym e)

pub lined_method_is : (p : Program) (k : KeepRule) (n : ℕ) (m : Method) (b : Bool) → b ≡ some_line_of_method k.class (named_method p m) → lined_method p k n m ≡ (nat_eq n m.name && b)
lined_method_is p k n m b e = ap (λ x. nat_eq n m.name && x) (sym e)

pub field_more : (p : Program) (k : KeepRule) (always described : Bool) (fs : List Field) (i : ℕ) (f : Field) (b : Bool) (old mid new : MemberMarks) → i < length fs → f ≡ get_or fs i f → ((n : ℕ) → lined_field p k n f ≡ (nat_eq n f.name && b))
    → LeftMembers always described (λ n. list_any (lined_field p k n) (drop i fs)) (λ n. list_any (lined_field p k n) fs) old mid → GrewMembers always described (λ n. nat_eq n f.name && b) mid new
    → LeftMembers always described (λ n. list_any (lined_field p k n) (drop (i + 1) fs)) (λ n. list_any (lined_field p k n) fs) old new
field_more p k always described fs i f b old mid new h e is l g s = left_more (λ n. is_in always described s && list_any (lined_field p k n) (drop i fs)) (λ n. is_in always described s && list_any (lined_field p k n) (drop (i + 1) fs)) (λ n. is_in always described s && list_any (lined_field p k n) fs)
    (λ n. is_in always described s && (nat_eq n f.name && b)) (marks_in s old) (marks_in s mid) (marks_in s new)
    (λ n. ap (λ xs. is_in always described s && list_any (lined_field p k n) xs) (drop_more fs i f h)
    ∙ ap (λ x. is_in always described s && (x || list_any (lined_field p k n) (drop (i + 1) fs))) (ap (lined_field p k n) (sym e) ∙ is n)
    ∙ spread (is_in always described s) (nat_eq n f.name && b) (list_any (lined_field p k n) (drop (i + 1) fs))) (l s) (g s)
  where
    spread : (a x y : Bool) → (a && (x || y)) ≡ ((a && x) || (a && y))
    spread true x y = refl
    spread false x y = refl

pub field_end : (p : Program) (k : KeepRule) (always described : Bool) (fs : List Field) (i : ℕ) (old new : MemberMarks) → length fs ≤ i → LeftMembers always described (λ n. list_any (lined_field p k n) (drop i fs)) (λ n. list_any (lined_field p k n) fs) old new
    → GrewMembers always described (λ n. list_any (lined_field p k n) fs) old new
field_end p k always described fs i old new h l s = left_end (λ n. is_in always described s && list_any (lined_field p k n) (drop i fs)) (λ n. is_in always described s && list_any (lined_field p k n) fs) (marks_in s old) (marks_in s new)
    (λ n. ap (λ xs. is_in always described s && list_any (lined_field p k n) xs) (drop_all i fs h) ∙ none (is_in always described s)) (l s)
  where
    none : (b : Bool) → (b && false) ≡ false
    none true = refl
    none false = refl

pub method_more : (p : Program) (k : KeepRule) (always described : Bool) (ms : List Method) (i : ℕ) (m : Method) (b : Bool) (old mid new : MemberMarks) → i < length ms → m ≡ get_or ms i m → ((n : ℕ) → lined_method p k n m ≡ (nat_eq n m.name && b))
    → LeftMembers always described (λ n. list_any (lined_method p k n) (drop i ms)) (λ n. list_any (lined_method p k n) ms) old mid → GrewMembers always described (λ n. nat_eq n m.name && b) mid new
    → LeftMembers always described (λ n. list_any (lined_method p k n) (drop (i + 1) ms)) (λ n. list_any (lined_method p k n) ms) old new
method_more p k always described ms i m b old mid new h e is l g s = left_more (λ n. is_in always described s && list_any (lined_method p k n) (drop i ms)) (λ n. is_in always described s && list_any (lined_method p k n) (drop (i + 1) ms)) (λ n. is_in always described s && list_any (lined_method p k n) ms)
    (λ n. is_in always described s && (nat_eq n m.name && b)) (marks_in s old) (marks_in s mid) (marks_in s new)
    (λ n. ap (λ xs. is_in always described s && list_any (lined_method p k n) xs) (drop_more ms i m h)
    ∙ ap (λ x. is_in always described s && (x || list_any (lined_method p k n) (drop (i + 1) ms))) (ap (lined_method p k n) (sym e) ∙ is n)
    ∙ spread (is_in always described s) (nat_eq n m.name && b) (list_any (lined_method p k n) (drop (i + 1) ms))) (l s) (g s)
  where
    spread : (a x y : Bool) → (a && (x || y)) ≡ ((a && x) || (a && y))
    spread true x y = refl
    spread false x y = refl

pub method_end : (p : Program) (k : KeepRule) (always described : Bool) (ms : List Method) (i : ℕ) (old new : MemberMarks) → length ms ≤ i → LeftMembers always described (λ n. list_any (lined_method p k n) (drop i ms)) (λ n. list_any (lined_method p k n) ms) old new
    → GrewMembers always described (λ n. list_any (lined_method p k n) ms) old new
method_end p k always described ms i old new h l s = left_end (λ n. is_in always described s && list_any (lined_method p k n) (drop i ms)) (λ n. is_in always described s && list_any (lined_method p k n) ms) (marks_in s old) (marks_in s new)
    (λ n. ap (λ xs. is_in always described s && list_any (lined_method p k n) xs) (drop_all i ms h) ∙ none (is_in always described s)) (l s)
  where
    none : (b : Bool) → (b && false) ≡ false
    none true = refl
    none false = refl

pub members_start : (always described : Bool) (all : ℕ → Bool) (old : MemberMarks) → LeftMembers always described all all old old
members_start always described all old s = left_start (λ n. is_in always described s && all n) (marks_in s old)

-- ---- one class

-- a rule that doesn't apply to it keeps nothing of it
pub stays : (p : Program) (k : KeepRule) (c : Class) (m : Marks) → applies (named p) k (named_class p c) ≡ false → GrewAll (rule_marks p k (c ∷ [])) m m
stays p k c m e s = grew_none (rule_marks p k (c ∷ []) s) (marks_of s m) (none s)
  where
    nothing : (x : Bool) → (x && false) ≡ false
    nothing true = refl
    nothing false = refl

    fails : (x b : Bool) → (x && ((applies (named p) k (named_class p c) && b) || false)) ≡ false
    fails x b = ap (λ a. x && ((a && b) || false)) e ∙ nothing x

    none : (s : Slot) (n : ℕ) → rule_marks p k (c ∷ []) s n ≡ false
    none Kinds n = fails (is_always_of k) (nat_eq n c.name)
    none (Fields part) n = fails (is_in (is_always_of k) (is_describing k) part) (list_any (lined_field p k n) c.fields)
    none (Methods part) n = fails (is_in (is_always_of k) (is_describing k) part) (list_any (lined_method p k n) c.methods)
    none Silent n = refl

-- one that applies keeps it and its members
pub kept : (p : Program) (k : KeepRule) (c : Class) (old new : Marks) → applies (named p) k (named_class p c) ≡ true → GrewKept p k c old new → GrewAll (rule_marks p k (c ∷ [])) old new
kept p k c old new e g = by
  where
    holds : (x b : Bool) → (x && b) ≡ (x && ((applies (named p) k (named_class p c) && b) || false))
    holds x b = sym (ap (λ a. x && ((a && b) || false)) e ∙ last x b)
      where
        last : (x b : Bool) → (x && (b || false)) ≡ (x && b)
        last true true = refl
        last true false = refl
        last false b = refl

    by : GrewAll (rule_marks p k (c ∷ [])) old new
    by Kinds = grew_as (λ n. is_always_of k && nat_eq n c.name) (rule_marks p k (c ∷ []) Kinds) old.classes.items new.classes.items (λ n. holds (is_always_of k) (nat_eq n c.name)) g.classes
    by (Fields s) = grew_as (λ n. is_in (is_always_of k) (is_describing k) s && list_any (lined_field p k n) c.fields) (rule_marks p k (c ∷ []) (Fields s)) (marks_in s old.fields) (marks_in s new.fields)
        (λ n. holds (is_in (is_always_of k) (is_describing k) s) (list_any (lined_field p k n) c.fields)) (g.fields s)
    by (Methods s) = grew_as (λ n. is_in (is_always_of k) (is_describing k) s && list_any (lined_method p k n) c.methods) (rule_marks p k (c ∷ []) (Methods s)) (marks_in s old.methods) (marks_in s new.methods)
        (λ n. holds (is_in (is_always_of k) (is_describing k) s) (list_any (lined_method p k n) c.methods)) (g.methods s)
    by Silent = subst (λ l. Grew (λ n. false) old.silent.items l) (sym g.silent) (grew_none (λ n. false) old.silent.items (λ n. refl))

applies_parts : (a b c : Bool) → a ≡ true → b ≡ true → c ≡ true → ((a && b) && c) ≡ true
applies_parts true true true e f g = refl
applies_parts true true false e f g = absurd (true≢false (sym g))
applies_parts true false c e f g = absurd (true≢false (sym f))
applies_parts false b c e f g = absurd (true≢false (sym e))

pub applied : (p : Program) (k : KeepRule) (c : Class) (complete : Bool) → keeps k ≡ true → matches_class (named p) k.class (named_class p c) ≡ true → complete ≡ is_complete k (named_class p c) → complete ≡ true → applies (named p) k (named_class p c) ≡ true
applied p k c complete e f g h = applies_parts (keeps k) (matches_class (named p) k.class (named_class p c)) (is_complete k (named_class p c)) e f (sym g ∙ h)

pub incomplete : (p : Program) (k : KeepRule) (c : Class) (complete : Bool) → complete ≡ is_complete k (named_class p c) → complete ≡ false → applies (named p) k (named_class p c) ≡ false
incomplete p k c complete g h = ap (λ b. (keeps k && matches_class (named p) k.class (named_class p c)) && b) (sym g ∙ h) ∙ none (keeps k && matches_class (named p) k.class (named_class p c))
  where
    none : (b : Bool) → (b && false) ≡ false
    none true = refl
    none false = refl

pub unmatched : (p : Program) (k : KeepRule) (c : Class) (fits : Bool) → fits ≡ matches_class (named p) k.class (named_class p c) → fits ≡ false → applies (named p) k (named_class p c) ≡ false
unmatched p k c fits g h = ap (λ b. (keeps k && b) && is_complete k (named_class p c)) (sym g ∙ h) ∙ none (keeps k) (is_complete k (named_class p c))
  where
    none : (a b : Bool) → ((a && false) && b) ≡ false
    none true b = refl
    none false b = refl

-- ---- some classes

nothing_kept : (p : Program) (k : KeepRule) (s : Slot) (n : ℕ) → rule_marks p k [] s n ≡ false
nothing_kept p k Kinds n = none (is_always_of k)
  where
    none : (x : Bool) → (x && false) ≡ false
    none true = refl
    none false = refl
nothing_kept p k (Fields part) n = none (is_in (is_always_of k) (is_describing k) part)
  where
    none : (x : Bool) → (x && false) ≡ false
    none true = refl
    none false = refl
nothing_kept p k (Methods part) n = none (is_in (is_always_of k) (is_describing k) part)
  where
    none : (x : Bool) → (x && false) ≡ false
    none true = refl
    none false = refl
nothing_kept p k Silent n = refl

pub no_class : (p : Program) (k : KeepRule) (m : Marks) → GrewAll (rule_marks p k []) m m
no_class p k m s = grew_none (rule_marks p k [] s) (marks_of s m) (nothing_kept p k s)

both_kept : (p : Program) (k : KeepRule) (cs ds : List Class) (s : Slot) (n : ℕ) → rule_marks p k (cs ++ ds) s n ≡ (rule_marks p k cs s n || rule_marks p k ds s n)
both_kept p k cs ds Kinds n = ap (λ b. is_always_of k && b) (list_any-append (λ c. applies (named p) k (named_class p c) && nat_eq n c.name) cs ds) ∙ spread (is_always_of k) (rule_classes p k cs n) (rule_classes p k ds n)
  where
    spread : (a x y : Bool) → (a && (x || y)) ≡ ((a && x) || (a && y))
    spread true x y = refl
    spread false x y = refl
both_kept p k cs ds (Fields part) n = ap (λ b. is_in (is_always_of k) (is_describing k) part && b) (list_any-append (λ c. applies (named p) k (named_class p c) && list_any (lined_field p k n) c.fields) cs ds)
    ∙ spread (is_in (is_always_of k) (is_describing k) part) (rule_fields p k cs n) (rule_fields p k ds n)
  where
    spread : (a x y : Bool) → (a && (x || y)) ≡ ((a && x) || (a && y))
    spread true x y = refl
    spread false x y = refl
both_kept p k cs ds (Methods part) n = ap (λ b. is_in (is_always_of k) (is_describing k) part && b) (list_any-append (λ c. applies (named p) k (named_class p c) && list_any (lined_method p k n) c.methods) cs ds)
    ∙ spread (is_in (is_always_of k) (is_describing k) part) (rule_methods p k cs n) (rule_methods p k ds n)
  where
    spread : (a x y : Bool) → (a && (x || y)) ≡ ((a && x) || (a && y))
    spread true x y = refl
    spread false x y = refl
both_kept p k cs ds Silent n = refl

pub classes_start : (p : Program) (k : KeepRule) (cs : List Class) (m : Marks) → LeftAll (rule_marks p k cs) (rule_marks p k cs) m m
classes_start p k cs m s = left_start (rule_marks p k cs s) (marks_of s m)

-- of the classes of types
pub kinds_more : (p : Program) (k : KeepRule) (ks : List ℕ) (i j : ℕ) (old mid new : Marks) → i < length ks → j ≡ get_or ks i j
    → LeftAll (rule_marks p k (flat_map (class_of_kind p) (drop i ks))) (rule_marks p k (flat_map (class_of_kind p) ks)) old mid → GrewAll (rule_marks p k (class_of_kind p j)) mid new
    → LeftAll (rule_marks p k (flat_map (class_of_kind p) (drop (i + 1) ks))) (rule_marks p k (flat_map (class_of_kind p) ks)) old new
kinds_more p k ks i j old mid new h e l g s = left_more (rule_marks p k (flat_map (class_of_kind p) (drop i ks)) s) (rule_marks p k (flat_map (class_of_kind p) (drop (i + 1) ks)) s) (rule_marks p k (flat_map (class_of_kind p) ks) s) (rule_marks p k (class_of_kind p j) s)
    (marks_of s old) (marks_of s mid) (marks_of s new)
    (λ n. ap (λ xs. rule_marks p k (flat_map (class_of_kind p) xs) s n) (drop_more ks i j h)
    ∙ both_kept p k (class_of_kind p (get_or ks i j)) (flat_map (class_of_kind p) (drop (i + 1) ks)) s n
    ∙ ap (λ x. rule_marks p k (class_of_kind p x) s n || rule_marks p k (flat_map (class_of_kind p) (drop (i + 1) ks)) s n) (sym e)) (l s) (g s)

pub kinds_end : (p : Program) (k : KeepRule) (ks : List ℕ) (i : ℕ) (old new : Marks) → length ks ≤ i → LeftAll (rule_marks p k (flat_map (class_of_kind p) (drop i ks))) (rule_marks p k (flat_map (class_of_kind p) ks)) old new
    → GrewAll (rule_marks p k (flat_map (class_of_kind p) ks)) old new
kinds_end p k ks i old new h l s = left_end (rule_marks p k (flat_map (class_of_kind p) (drop i ks)) s) (rule_marks p k (flat_map (class_of_kind p) ks) s) (marks_of s old) (marks_of s new)
    (λ n. ap (λ xs. rule_marks p k (flat_map (class_of_kind p) xs) s n) (drop_all i ks h) ∙ nothing_kept p k s n) (l s)

-- of all classes
there_is : (p : Program) (i : ℕ) (c : Class) → slice_get p.classes i ≡ Some c → class_there p i ≡ c ∷ []
there_is p i c e = ap (λ o. elim o as (λ o. List Class) [ Some c ↦ c ∷ [] | None ↦ [] ]) e

dropped : {A : Type 0} (xs : List A) (i : ℕ) → i < length xs → (x : A) × ((slice_get xs i ≡ Some x) × (drop i xs ≡ x ∷ drop (i + 1) xs))
dropped [] i h = absurd (omega arith)
dropped (x ∷ xs) zero h = (x, (refl, refl))
dropped (x ∷ xs) (suc i) h = let r = dropped xs i (omega arith) in (r.0, (r.1.0, r.1.1 ∙ ap (λ k. r.0 ∷ drop k (x ∷ xs)) (let e : suc (i + 1) ≡ suc i + 1 = omega arith in e)))

pub places_more : (p : Program) (k : KeepRule) (i : ℕ) (old mid new : Marks) → i < length p.classes
    → LeftAll (rule_marks p k (drop i p.classes)) (rule_marks p k p.classes) old mid → GrewAll (rule_marks p k (class_there p i)) mid new
    → LeftAll (rule_marks p k (drop (i + 1) p.classes)) (rule_marks p k p.classes) old new
places_more p k i old mid new h l g s =
    let r = dropped p.classes i h in
    left_more (rule_marks p k (drop i p.classes) s) (rule_marks p k (drop (i + 1) p.classes) s) (rule_marks p k p.classes s) (rule_marks p k (class_there p i) s) (marks_of s old) (marks_of s mid) (marks_of s new)
    (λ n. ap (λ xs. rule_marks p k xs s n) r.1.1 ∙ both_kept p k (r.0 ∷ []) (drop (i + 1) p.classes) s n ∙ ap (λ xs. rule_marks p k xs s n || rule_marks p k (drop (i + 1) p.classes) s n) (sym (there_is p i r.0 r.1.0))) (l s) (g s)

pub places_end : (p : Program) (k : KeepRule) (i : ℕ) (old new : Marks) → length p.classes ≤ i → LeftAll (rule_marks p k (drop i p.classes)) (rule_marks p k p.classes) old new → GrewAll (rule_marks p k p.classes) old new
places_end p k i old new h l s = left_end (rule_marks p k (drop i p.classes) s) (rule_marks p k p.classes s) (marks_of s old) (marks_of s new) (λ n. ap (λ xs. rule_marks p k xs s n) (drop_all i p.classes h) ∙ nothing_kept p k s n) (l s)

-- ---- the classes that a rule is tried on are all that it applies to

name_of_applies : (p : Program) (k : KeepRule) (c : Class) → applies (named p) k (named_class p c) ≡ true → some_name_fits k.class.names (type_at p c.name) ≡ true
name_of_applies p k c e =
    let m = and_right (keeps k) (matches_class (named p) k.class (named_class p c)) (and_left (keeps k && matches_class (named p) k.class (named_class p c)) (is_complete k (named_class p c)) e) in
    let n = and_left ((is_of_rule_kind k.class c.flags.0 && conditions_hold OfClass c.flags.0 (map (mark_of p) c.marks) k.class.conditions) && some_name_fits k.class.names (type_at p c.name)) (stands_below (named p) k.class.above (type_at p c.name)) m in
    and_right (is_of_rule_kind k.class c.flags.0 && conditions_hold OfClass c.flags.0 (map (mark_of p) c.marks) k.class.conditions) (some_name_fits k.class.names (type_at p c.name)) n

flat_at : {A B : Type 0} (f : A → List B) (xs : List A) (i : ℕ) (x : A) → slice_get xs i ≡ Some x → (t : B → Bool) → list_any t (f x) ≡ true → list_any t (flat_map f xs) ≡ true
flat_at f [] i x e t h = cc
flat_at f (y ∷ ys) zero x e t h = let s : y ≡ x = cc in list_any-append t (f y) (flat_map f ys) ∙ or_front (list_any t (f y)) (list_any t (flat_map f ys)) (ap (λ z. list_any t (f z)) s ∙ h)
flat_at f (y ∷ ys) (suc i) x e t h = list_any-append t (f y) (flat_map f ys) ∙ or_behind (list_any t (f y)) (list_any t (flat_map f ys)) (flat_at f ys i x e t h)

module _ (p : Program) (s : Sound p) (once : (class : ℕ) → IsTwice p class → ⊥) where
  tried_has : (k : KeepRule) (ks : List ℕ) → FitAmong p k.class.names ks → (i : ℕ) (c : Class) → slice_get p.classes i ≡ Some c → applies (named p) k (named_class p c) ≡ true → (t : Class → Bool) → t c ≡ true → list_any t (flat_map (class_of_kind p) ks) ≡ true
  tried_has k ks fit i c e a t h =
      let r = place_in ks c.name (fit.among c.name (class_parts p s i c e).name (name_of_applies p k c a)) in
      flat_at (class_of_kind p) ks r.at c.name r.is t
      (ap (λ o. list_any t (elim o as (λ o. List Class) [ Some place ↦ class_there p place | None ↦ [] ])) (own_place p once i c e)
      ∙ ap (list_any t) (there_is p i c e)
      ∙ or_front (t c) false h)

  among_classes : (ks : List ℕ) (t : Class → Bool) → list_any t (flat_map (class_of_kind p) ks) ≡ true → list_any t p.classes ≡ true
  among_classes [] t e = absurd (true≢false (sym e))
  among_classes (k ∷ ks) t e = elim (or_cases (list_any t (class_of_kind p k)) (list_any t (flat_map (class_of_kind p) ks)) (sym (list_any-append t (class_of_kind p k) (flat_map (class_of_kind p) ks)) ∙ e)) [
    | inl h ↦ by_place (class_place p k) h
    | inr h ↦ among_classes ks t h
  ]
    where
      there : (place : ℕ) (o : Option Class) → slice_get p.classes place ≡ o → list_any t (elim o as (λ o. List Class) [ Some c ↦ c ∷ [] | None ↦ [] ]) ≡ true → list_any t p.classes ≡ true
      there place None g h = absurd (true≢false (sym h))
      there place (Some c) g h = any_at t p.classes place c g (sym (last (t c)) ∙ h)
        where
          last : (b : Bool) → (b || false) ≡ b
          last true = refl
          last false = refl

      by_place : (o : Option ℕ) → list_any t (elim o as (λ o. List Class) [ Some place ↦ class_there p place | None ↦ [] ]) ≡ true → list_any t p.classes ≡ true
      by_place None h = absurd (true≢false (sym h))
      by_place (Some place) h = there place (slice_get p.classes place) refl h

  tried_same : (k : KeepRule) (ks : List ℕ) → FitAmong p k.class.names ks → (x : Class → Bool) → list_any (λ c. applies (named p) k (named_class p c) && x c) (flat_map (class_of_kind p) ks) ≡ list_any (λ c. applies (named p) k (named_class p c) && x c) p.classes
  tried_same k ks fit x = same_test (list_any t (flat_map (class_of_kind p) ks)) (list_any t p.classes) (among_classes ks t)
      (λ e. let f = find_any t p.classes e in tried_has k ks fit f.at f.one f.is (and_left (applies (named p) k (named_class p f.one)) (x f.one) f.passes) t f.passes)
    where
      t : Class → Bool
      t c = applies (named p) k (named_class p c) && x c

  pub tried_all : (k : KeepRule) (ks : List ℕ) (old new : Marks) → FitAmong p k.class.names ks → GrewAll (rule_marks p k (flat_map (class_of_kind p) ks)) old new → GrewAll (rule_marks p k p.classes) old new
  tried_all k ks old new fit g s = grew_as (rule_marks p k (flat_map (class_of_kind p) ks) s) (rule_marks p k p.classes s) (marks_of s old) (marks_of s new) (by s) (g s)
    where
      by : (s : Slot) (n : ℕ) → rule_marks p k (flat_map (class_of_kind p) ks) s n ≡ rule_marks p k p.classes s n
      by Kinds n = ap (λ b. is_always_of k && b) (tried_same k ks fit (λ c. nat_eq n c.name))
      by (Fields part) n = ap (λ b. is_in (is_always_of k) (is_describing k) part && b) (tried_same k ks fit (λ c. list_any (lined_field p k n) c.fields))
      by (Methods part) n = ap (λ b. is_in (is_always_of k) (is_describing k) part && b) (tried_same k ks fit (λ c. list_any (lined_method p k n) c.methods))
      by Silent n = refl

-- a rule that keeps nothing
pub keeps_nothing : (p : Program) (k : KeepRule) (m : Marks) → keeps k ≡ false → GrewAll (rule_marks p k p.classes) m m
keeps_nothing p k m e s = grew_none (rule_marks p k p.classes s) (marks_of s m) (none s)
  where
    last : (x : Bool) → (x && false) ≡ false
    last true = refl
    last false = refl

    never : (x : Class → Bool) → list_any (λ c. applies (named p) k (named_class p c) && x c) p.classes ≡ false
    never x = any_never (λ c. applies (named p) k (named_class p c) && x c) p.classes (λ c. ap (λ b. ((b && matches_class (named p) k.class (named_class p c)) && is_complete k (named_class p c)) && x c) e)

    none : (s : Slot) (n : ℕ) → rule_marks p k p.classes s n ≡ false
    none Kinds n = ap (λ b. is_always_of k && b) (never (λ c. nat_eq n c.name)) ∙ last (is_always_of k)
    none (Fields part) n = ap (λ b. is_in (is_always_of k) (is_describing k) part && b) (never (λ c. list_any (lined_field p k n) c.fields)) ∙ last (is_in (is_always_of k) (is_describing k) part)
    none (Methods part) n = ap (λ b. is_in (is_always_of k) (is_describing k) part && b) (never (λ c. list_any (lined_method p k n) c.methods)) ∙ last (is_in (is_always_of k) (is_describing k) part)
    none Silent n = refl

-- ---- the class at a place, and that of a type

pub place_kept : (p : Program) (k : KeepRule) (place : ℕ) (c : Class) (old new : Marks) → slice_get p.classes place ≡ Some c → GrewAll (rule_marks p k (c ∷ [])) old new → GrewAll (rule_marks p k (class_there p place)) old new
place_kept p k place c old new e g = subst (λ cs. GrewAll (rule_marks p k cs) old new) (sym (there_is p place c e)) g

pub place_empty : (p : Program) (k : KeepRule) (place : ℕ) (m : Marks) → slice_get p.classes place ≡ None → GrewAll (rule_marks p k (class_there p place)) m m
place_empty p k place m e = subst (λ cs. GrewAll (rule_marks p k cs) m m) (sym (ap (λ o. elim o as (λ o. List Class) [ Some c ↦ c ∷ [] | None ↦ [] ]) e)) (no_class p k m)

pub kind_kept : (p : Program) (k : KeepRule) (kind place : ℕ) (old new : Marks) → class_place p kind ≡ Some place → GrewAll (rule_marks p k (class_there p place)) old new → GrewAll (rule_marks p k (class_of_kind p kind)) old new
kind_kept p k kind place old new e g = subst (λ cs. GrewAll (rule_marks p k cs) old new) (sym (ap (λ o. elim o as (λ o. List Class) [ Some place ↦ class_there p place | None ↦ [] ]) e)) g

pub kind_empty : (p : Program) (k : KeepRule) (kind : ℕ) (m : Marks) → class_place p kind ≡ None → GrewAll (rule_marks p k (class_of_kind p kind)) m m
kind_empty p k kind m e = subst (λ cs. GrewAll (rule_marks p k cs) m m) (sym (ap (λ o. elim o as (λ o. List Class) [ Some place ↦ class_there p place | None ↦ [] ]) e)) (no_class p k m)

-- ---- what is asked of those above

pub standing_free : (p : Program) (r : Option ReadAbove) (above : Option Above) → r ≡ None → AreBoth IsAboveOf r above → AreStanding p above None
standing_free p r above e are = by above (subst (λ x. AreBoth IsAboveOf x above) e are)
  where
    by : (o : Option Above) → AreBoth IsAboveOf None o → AreStanding p o None
    by None are = λ place c is. refl
    by (Some a) are = absurd are

pub standing_below : (p : Program) (r : Option ReadAbove) (above : Option Above) (q : ReadAbove) (marks : List Bool) (under : Bor (List Bool)) → r ≡ Some q → AreBoth IsAboveOf r above → under.now ≡ marks → ((a : Above) → IsAboveOf q a → AreUnder p a marks) → AreStanding p above (Some under)
standing_below p r above q marks under e are same are_under = by above (subst (λ x. AreBoth IsAboveOf x above) e are)
  where
    by : (o : Option Above) → AreBoth IsAboveOf (Some q) o → AreStanding p o (Some under)
    by None are = absurd are
    by (Some a) are = λ place c is. ap (λ l. is_on l place) same ∙ are_under a are place c is

-- ---- what is marked of a class that a rule keeps

pub kept_so : (p : Program) (k : KeepRule) (c : Class) (hold always : Bool) (fs : List Field) (ms : List Method) (old new : Marks) → hold ≡ is_always_of k → always ≡ hold → fs ≡ c.fields → ms ≡ c.methods
    → new.classes.items ≡ (if always then set old.classes.items c.name true else old.classes.items)
    → GrewMembers hold (is_describing k) (λ n. list_any (lined_field p k n) fs) old.fields new.fields
    → GrewMembers hold (is_describing k) (λ n. list_any (lined_method p k n) ms) old.methods new.methods
    → new.silent.items ≡ old.silent.items → GrewKept p k c old new
kept_so p k c hold always fs ms old new h a f m classes fields methods silent = record {
  classes = subst (λ b. Grew (λ n. b && nat_eq n c.name) old.classes.items new.classes.items) (a ∙ h) (grew_if always old.classes.items new.classes.items c.name classes);
  fields = subst (λ b. GrewMembers b (is_describing k) (λ n. list_any (lined_field p k n) c.fields) old.fields new.fields) h (subst (λ l. GrewMembers hold (is_describing k) (λ n. list_any (lined_field p k n) l) old.fields new.fields) f fields);
  methods = subst (λ b. GrewMembers b (is_describing k) (λ n. list_any (lined_method p k n) c.methods) old.methods new.methods) h (subst (λ l. GrewMembers hold (is_describing k) (λ n. list_any (lined_method p k n) l) old.methods new.methods) m methods);
  silent = silent;
}
