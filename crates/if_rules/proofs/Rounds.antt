-- Rounds of instances that are added.
use Rattle.std.proofs.Common.{◌≡◌, ◌⊎◌, inl, inr, ◌<◌, ◌≤◌, ◌+◌, ℕ, zero, suc, Bool, true, false, ◌&&◌, ◌||◌, not, if◌then◌else◌, List, [], ◌∷◌, ◌++◌, length, replicate, set, take, drop, Some, None, Contains, slice_get, refl, sym, ap, subst, ◌∙◌, eq-or-lt_of_le, arith}
use Rattle.std.specs.List.{list_all, list_any}
use Rattle.std.proofs.lemmas.List.{append-nil, append_assoc, get_or-set_same, get_or-set_other}
use Rattle.std.proofs.lemmas.List.Elements.{Contains-append_left, Contains-append_right}
use Rattle.std.proofs.lemmas.Option.{slice_get-get_or, slice_get_within, get_or_from_slice_get}
use Rattle.call_graph.specs.declared.live_set.LiveSet.{LiveSet}
use Rattle.class_defs.proofs.WellFormed.{and_left, and_right}
use Rattle.dalvik_defs.specs.Naming.{field_at, method_at, named, named_class, named_field, named_method}
use Rattle.keep_rules.specs.Table.{IsTable}
use Rattle.program_model.specs.declared.pass.Outside.{Outside}
use Rattle.program_model.specs.declared.program.Class.{Class}
use Rattle.program_model.specs.declared.program.Program.{Program}
use Rattle.rule_defs.specs.Kept.{lines_of, matches_class}
use Rattle.rule_defs.specs.Members.{matches_field, matches_method}
use Rattle.rule_text.specs.Faults.{SpellsRules}
use Rattle.rule_text.specs.Fault.{IsFault}
use Rattle.rule_text.specs.ReadEntries.{IsReading}
use Rattle.rule_text.specs.Related.{AreEntriesOf}
use Rattle.rule_text.specs.Rules.{MemberRule, Entry}
use Rattle.rule_text.specs.declared.fault.RuleFault.{RuleFault}
use Rattle.rule_text.specs.declared.fault.RuleFault.TheVariants as fault
use Rattle.rule_text.specs.declared.rules.Entry.{Entry as ReadEntry}
use Rattle.rule_text.specs.declared.rules.Rules.{Rules as ReadRules}
use Rattle.if_text.specs.Items.{IfRule}
use Rattle.if_rules.specs.Added.{is_live_method, is_live_field, is_met, are_live, holds_in, holds_at, holds, AreSpelled, Rules, Nothing, AddsText, left_of, IsDone, AddsRound, AddsBy, IsSoFar}
use Rattle.if_rules.specs.Fired.{ComeFrom, Nowhere, Behind, Plain, Round, AreAdded, SpellsNone, IsSettled}
use Rattle.if_rules.specs.Instances.{Texts, instance_text, is_on, names_of, IsLiveClass, IsMet, ByMethod, ByField, Holds, OfClass, OfMethod, OfField}
use Rattle.if_rules.specs.Listed.{Could, OfEach as CouldEach, OfMethod as CouldMethod, OfField as CouldField, IsPair, IsInstance, HasInstance, AreInstances}
use Rattle.if_rules.specs.Matched.{field_texts, method_texts}
use Rattle.if_rules.specs.declared.instances.Choice.{Choice}
use Rattle.if_rules.specs.declared.instances.Choice.TheVariants as choice
use Rattle.if_rules.specs.declared.instances.Instance.{Instance}
use Rattle.if_rules.proofs.Lives.{all_at}

-- ---- the rules of a text

nothing_added : (text : List ℕ) → SpellsNone text → AddsText text [] []
nothing_added text none = record { rules = []; are = Nothing none; added = λ es are. subst (AreEntriesOf []) (sym (append-nil es)) are }

none_meant : (es : List Entry) → AreEntriesOf [] es → es ≡ []
none_meant [] are = refl
none_meant (e ∷ es) are = absurd are

pub spells_read : (text : List ℕ) (rules : ReadRules) → IsReading text rules → AddsText text [] rules.entries.items
spells_read text rules reading = record {
  rules = reading.entries;
  are = Rules reading.entries reading.spells;
  added = λ es are. subst (λ xs. AreEntriesOf rules.entries.items (xs ++ reading.entries)) (sym (none_meant es are)) reading.related;
}

pub spells_none : (text : List ℕ) (found : RuleFault) (read : List ReadEntry) → IsFault text found → (found ≡ fault.NoMemory → ⊥) → read ≡ [] → AddsText text [] read
spells_none text fault.NoMemory read is other none = absurd (other refl)
spells_none text (fault.Syntax line) read is other none = subst (AddsText text []) (sym none) (nothing_added text (record { fault = fault.Syntax line; has = is }))
spells_none text (fault.Option line) read is other none = subst (AddsText text []) (sym none) (nothing_added text (record { fault = fault.Option line; has = is }))
spells_none text (fault.NotUtf8 at) read is other none = subst (AddsText text []) (sym none) (nothing_added text (record { fault = fault.NotUtf8 at; has = is }))
spells_none text (fault.TooMany count) read is other none = subst (AddsText text []) (sym none) (nothing_added text (record { fault = fault.TooMany count; has = is }))

each_append : (rs qs : List ReadEntry) (es fs : List Entry) → AreEntriesOf rs es → AreEntriesOf qs fs → AreEntriesOf (rs ++ qs) (es ++ fs)
each_append [] qs [] fs are more = more
each_append [] qs (e ∷ es) fs are more = absurd are
each_append (r ∷ rs) qs [] fs are more = absurd are
each_append (r ∷ rs) qs (e ∷ es) fs are more = (are.0, each_append rs qs es fs are.1 more)

pub adds_behind : (text : List ℕ) (read old new : List ReadEntry) → new ≡ old ++ read → AddsText text [] read → AddsText text old new
adds_behind text read old new is t = record {
  rules = t.rules;
  are = t.are;
  added = λ es are. subst (λ xs. AreEntriesOf xs (es ++ t.rules)) (sym is) (each_append old read es t.rules are (t.added [] tt));
}

-- ---- an instance that holds

clash : true ≡ false → ⊥
clash e = cc

same_some : {X : Type 0} (x y : X) → Some x ≡ Some y → x ≡ y
same_some x y e = cc

pub contains_at : {X : Type 0} (xs : List X) (k : ℕ) (x : X) → slice_get xs k ≡ Some x → Contains xs x
contains_at xs k x is = (k, slice_get_within xs k x is, get_or_from_slice_get xs k x x is)

-- something in a list passes the test
record Passes {X : Type 0} (t : X → Bool) (xs : List X) : Type 0 where
  one : X
  place : ℕ
  there : slice_get xs place ≡ Some one
  passes : t one ≡ true

passes_by : {X : Type 0} (t : X → Bool) (x : X) (xs : List X) (b : Bool) → t x ≡ b → (b || list_any t xs) ≡ true → (list_any t xs ≡ true → Passes t xs) → Passes t (x ∷ xs)
passes_by t x xs true e is more = record { one = x; place = 0; there = refl; passes = e }
passes_by t x xs false e is more =
    let later : Passes t xs = more is in
    record { one = later.one; place = suc later.place; there = later.there; passes = later.passes }

passes : {X : Type 0} (t : X → Bool) (xs : List X) → list_any t xs ≡ true → Passes t xs
passes t [] is = absurd (clash (sym is))
passes t (x ∷ xs) is = passes_by t x xs (t x) refl is (passes t xs)

passes_any : {X : Type 0} (t : X → Bool) (xs : List X) (k : ℕ) (x : X) → slice_get xs k ≡ Some x → t x ≡ true → list_any t xs ≡ true
passes_any t [] k x at is = cc
passes_any t (y ∷ ys) zero x at is = ap (λ b. b || list_any t ys) (ap t (same_some y x at) ∙ is)
passes_any t (y ∷ ys) (suc k) x at is = or_true (t y) (list_any t ys) (passes_any t ys k x at is)
  where
    or_true : (a b : Bool) → b ≡ true → (a || b) ≡ true
    or_true true b e = refl
    or_true false b e = e

all_from : {X : Type 0} (t : X → Bool) (xs : List X) → ((k : ℕ) (x : X) → slice_get xs k ≡ Some x → t x ≡ true) → list_all t xs ≡ true
all_from t [] each = refl
all_from t (x ∷ xs) each = and_both (t x) (list_all t xs) (each 0 x refl) (all_from t xs (λ k y at. each (suc k) y at))
  where
    and_both : (a b : Bool) → a ≡ true → b ≡ true → (a && b) ≡ true
    and_both true true e f = refl
    and_both true false e f = f
    and_both false b e f = e

at_contained : {X : Type 0} (xs : List X) (x : X) → (c : Contains xs x) → slice_get xs c.0 ≡ Some x
at_contained xs x c = slice_get-get_or xs c.0 x c.1 ∙ ap (λ y. Some y) c.2

or_cases : (a b : Bool) → (a || b) ≡ true → (a ≡ true) ⊎ (b ≡ true)
or_cases true b e = inl refl
or_cases false b e = inr e

met_by : (p : Program) (s : LiveSet) (class : Class) (line : MemberRule) → (list_any (is_live_method p s line) class.methods ≡ true) ⊎ (list_any (is_live_field p s line) class.fields ≡ true) → IsMet p s class line
met_by p s class line (inl some) =
    let found : Passes (is_live_method p s line) class.methods = passes (is_live_method p s line) class.methods some in
    ByMethod found.one (record {
      inside = contains_at class.methods found.place found.one found.there;
      live = and_left (is_on s.methods.items found.one.name) (matches_method line (named_method p found.one)) found.passes;
      fits = and_right (is_on s.methods.items found.one.name) (matches_method line (named_method p found.one)) found.passes;
    })
met_by p s class line (inr some) =
    let found : Passes (is_live_field p s line) class.fields = passes (is_live_field p s line) class.fields some in
    ByField found.one (record {
      inside = contains_at class.fields found.place found.one found.there;
      live = and_left (is_on s.fields.items found.one.name) (matches_field line (named_field p found.one)) found.passes;
      fits = and_right (is_on s.fields.items found.one.name) (matches_field line (named_field p found.one)) found.passes;
    })

met : (p : Program) (s : LiveSet) (class : Class) (line : MemberRule) → is_met p s class line ≡ true → IsMet p s class line
met p s class line is = met_by p s class line (or_cases (list_any (is_live_method p s line) class.methods) (list_any (is_live_field p s line) class.fields) is)

and_both : (a b : Bool) → a ≡ true → b ≡ true → (a && b) ≡ true
and_both true true e f = refl
and_both true false e f = f
and_both false b e f = e

or_left : (a b : Bool) → a ≡ true → (a || b) ≡ true
or_left true b e = refl
or_left false b e = absurd (clash (sym e))

or_right : (a b : Bool) → b ≡ true → (a || b) ≡ true
or_right true b e = refl
or_right false b e = e

is_met_by : (p : Program) (s : LiveSet) (class : Class) (line : MemberRule) → IsMet p s class line → is_met p s class line ≡ true
is_met_by p s class line (ByMethod m is) = or_left (list_any (is_live_method p s line) class.methods) (list_any (is_live_field p s line) class.fields)
    (passes_any (is_live_method p s line) class.methods is.inside.0 m (at_contained class.methods m is.inside) (and_both (is_on s.methods.items m.name) (matches_method line (named_method p m)) is.live is.fits))
is_met_by p s class line (ByField f is) = or_right (list_any (is_live_method p s line) class.methods) (list_any (is_live_field p s line) class.fields)
    (passes_any (is_live_field p s line) class.fields is.inside.0 f (at_contained class.fields f is.inside) (and_both (is_on s.fields.items f.name) (matches_field line (named_field p f)) is.live is.fits))

-- a rule holds with texts that make this text
record HoldsSo (p : Program) (s : LiveSet) (r : IfRule) (t : List ℕ) : Type 0 where
  texts : Texts
  holds : Holds p s r texts
  says : t ≡ instance_text r texts

holds_by : (p : Program) (s : LiveSet) (r : IfRule) (class : Class) (d : Choice) (t : List ℕ) → Could p r class d t → IsLiveClass p s r.condition class → are_live p s r class d ≡ true → HoldsSo p s r t
holds_by p s r class _ _ (CouldEach uses) live are = record {
  texts = record { name = names_of p r.condition class; line = [] };
  holds = OfClass class live uses (λ line there. met p s class line (all_at (is_met p s class) (lines_of r.condition) there.0 line are (at_contained (lines_of r.condition) line there)));
  says = refl;
}
holds_by p s r class _ _ (CouldMethod line k m uses lines there fits) live are = record {
  texts = record { name = names_of p r.condition class; line = method_texts line.what (method_at p m.name).name (method_at p m.name).signature };
  holds = OfMethod class line m live uses lines (record {
    inside = contains_at class.methods k m there;
    live = sym (ap (λ o. elim o as (λ o. Bool) [ Some m ↦ is_on s.methods.items m.name | None ↦ false ]) there) ∙ are;
    fits = fits;
  });
  says = refl;
}
holds_by p s r class _ _ (CouldField line k f uses lines there fits) live are = record {
  texts = record { name = names_of p r.condition class; line = field_texts line.what (field_at p f.name).name (field_at p f.name).kind };
  holds = OfField class line f live uses lines (record {
    inside = contains_at class.fields k f there;
    live = sym (ap (λ o. elim o as (λ o. Bool) [ Some f ↦ is_on s.fields.items f.name | None ↦ false ]) there) ∙ are;
    fits = fits;
  });
  says = refl;
}

pub holds_is : (p : Program) (s : LiveSet) (rs : List IfRule) (i : Instance) (r : IfRule) (class : Class) → slice_get rs i.rule ≡ Some r → slice_get p.classes i.class ≡ Some class → holds p s rs i ≡ holds_in p s r class i.choice
holds_is p s rs i r class is at =
    ap (λ o. elim o as (λ o. Bool) [ Some r ↦ elim (slice_get p.classes i.class) [ Some class ↦ holds_in p s r class i.choice | None ↦ false ] | None ↦ false ]) is
    ∙ ap (λ o. elim o as (λ o. Bool) [ Some class ↦ holds_in p s r class i.choice | None ↦ false ]) at

pub holds_no_rule : (p : Program) (s : LiveSet) (rs : List IfRule) (i : Instance) → slice_get rs i.rule ≡ None → false ≡ holds p s rs i
holds_no_rule p s rs i none = sym (ap (λ o. elim o as (λ o. Bool) [ Some r ↦ elim (slice_get p.classes i.class) [ Some class ↦ holds_in p s r class i.choice | None ↦ false ] | None ↦ false ]) none)

pub holds_rule : (p : Program) (s : LiveSet) (rs : List IfRule) (i : Instance) (r : IfRule) → slice_get rs i.rule ≡ Some r → holds p s rs i ≡ holds_at p s r i
holds_rule p s rs i r is = ap (λ o. elim o as (λ o. Bool) [ Some r ↦ holds_at p s r i | None ↦ false ]) is

pub holds_class : (p : Program) (s : LiveSet) (r : IfRule) (i : Instance) (class : Class) → slice_get p.classes i.class ≡ Some class → holds_at p s r i ≡ holds_in p s r class i.choice
holds_class p s r i class at = ap (λ o. elim o as (λ o. Bool) [ Some class ↦ holds_in p s r class i.choice | None ↦ false ]) at

pub holds_no_class : (p : Program) (s : LiveSet) (r : IfRule) (i : Instance) → slice_get p.classes i.class ≡ None → false ≡ holds_at p s r i
holds_no_class p s r i none = sym (ap (λ o. elim o as (λ o. Bool) [ Some class ↦ holds_in p s r class i.choice | None ↦ false ]) none)

-- the rule of an instance that holds does so
instance_holds : (p : Program) (s : LiveSet) (rs : List IfRule) (i : Instance) → (is : IsInstance p rs i) → holds p s rs i ≡ true → HoldsSo p s is.pair.rule i.text.items
instance_holds p s rs i is there =
    let inside : holds_in p s is.pair.rule is.pair.class i.choice ≡ true = sym (holds_is p s rs i is.pair.rule is.pair.class is.pair.is_rule is.pair.is_class) ∙ there in
    holds_by p s is.pair.rule is.pair.class i.choice i.text.items is.could
    (record { inside = contains_at p.classes i.class is.pair.class is.pair.is_class; live = and_left (is_on s.classes.items is.pair.class.name) (are_live p s is.pair.rule is.pair.class i.choice) inside; fits = is.pair.fits })
    (and_right (is_on s.classes.items is.pair.class.name) (are_live p s is.pair.rule is.pair.class i.choice) inside)

-- ---- an instance of a rule that holds

-- an instance of the rule in this class could be, and holds
record Asks (p : Program) (s : LiveSet) (rs : List IfRule) (r : IfRule) (x : Texts) : Type 0 where
  class : Class
  place : ℕ
  there : slice_get p.classes place ≡ Some class
  choice : Choice
  fits : matches_class (named p) r.condition (named_class p class) ≡ true
  could : Could p r class choice (instance_text r x)
  live : holds_in p s r class choice ≡ true

asks : (p : Program) (s : LiveSet) (rs : List IfRule) (r : IfRule) (x : Texts) → Holds p s r x → Asks p s rs r x
asks p s rs r _ (OfClass class is uses each) = record {
  class = class;
  place = is.inside.0;
  there = at_contained p.classes class is.inside;
  choice = choice.Each;
  fits = is.fits;
  could = CouldEach uses;
  live = and_both (is_on s.classes.items class.name) (are_live p s r class choice.Each) is.live (all_from (is_met p s class) (lines_of r.condition) (λ k line at. is_met_by p s class line (each line (contains_at (lines_of r.condition) k line at))));
}
asks p s rs r _ (OfMethod class line m is uses lines of) = record {
  class = class;
  place = is.inside.0;
  there = at_contained p.classes class is.inside;
  choice = choice.Method of.inside.0;
  fits = is.fits;
  could = CouldMethod line of.inside.0 m uses lines (at_contained class.methods m of.inside) of.fits;
  live = and_both (is_on s.classes.items class.name) (are_live p s r class (choice.Method of.inside.0)) is.live
      (ap (λ o. elim o as (λ o. Bool) [ Some m ↦ is_on s.methods.items m.name | None ↦ false ]) (at_contained class.methods m of.inside) ∙ of.live);
}
asks p s rs r _ (OfField class line f is uses lines of) = record {
  class = class;
  place = is.inside.0;
  there = at_contained p.classes class is.inside;
  choice = choice.Field of.inside.0;
  fits = is.fits;
  could = CouldField line of.inside.0 f uses lines (at_contained class.fields f of.inside) of.fits;
  live = and_both (is_on s.classes.items class.name) (are_live p s r class (choice.Field of.inside.0)) is.live
      (ap (λ o. elim o as (λ o. Bool) [ Some f ↦ is_on s.fields.items f.name | None ↦ false ]) (at_contained class.fields f of.inside) ∙ of.live);
}

-- it is listed, and it holds
record Listed (p : Program) (s : LiveSet) (rs : List IfRule) (instances : List Instance) (t : List ℕ) : Type 0 where
  one : Instance
  place : ℕ
  there : slice_get instances place ≡ Some one
  live : holds p s rs one ≡ true
  says : one.text.items ≡ t

listed : (p : Program) (s : LiveSet) (rs : List IfRule) (instances : List Instance) (r : IfRule) (x : Texts) → AreInstances p rs instances → (c : Contains rs r) → Asks p s rs r x → Listed p s rs instances (instance_text r x)
listed p s rs instances r x are c a =
    let is_rule : slice_get rs c.0 ≡ Some r = at_contained rs r c in
    let pair : IsPair p rs c.0 a.place = record { rule = r; class = a.class; is_rule = is_rule; is_class = a.there; fits = a.fits } in
    let has : HasInstance instances c.0 a.place a.choice (instance_text r x) = are.complete c.0 a.place a.choice (instance_text r x) pair a.could in
    record {
      one = has.one;
      place = has.there.0;
      there = at_contained instances has.one has.there;
      live = holds_is p s rs has.one r a.class (ap (slice_get rs) has.rule ∙ is_rule) (ap (slice_get p.classes) has.class ∙ a.there) ∙ ap (holds_in p s r a.class) has.choice ∙ a.live;
      says = has.says;
    }

-- ---- how many are left

pub left_replicate : (n : ℕ) → n ≡ left_of (replicate n false)
left_replicate zero = refl
left_replicate (suc n) = let more : n ≡ left_of (replicate n false) = left_replicate n in let one : left_of (replicate (suc n) false) ≡ 1 + left_of (replicate n false) = refl in omega (arith, more, one)

left_by : (b : Bool) (bs : List Bool) → b ≡ false → left_of (b ∷ bs) ≡ 1 + left_of bs
left_by true bs e = absurd (clash e)
left_by false bs e = refl

pub left_set : (bs : List Bool) (k : ℕ) → k < length bs → is_on bs k ≡ false → left_of (set bs k true) + 1 ≡ left_of bs
left_set [] k less off = absurd (omega (arith, less))
left_set (b ∷ bs) zero less off =
    let here : left_of (b ∷ bs) ≡ 1 + left_of bs = left_by b bs off in
    let there : left_of (true ∷ bs) ≡ 0 + left_of bs = refl in
    omega (arith, here, there)
left_set (b ∷ bs) (suc k) less off =
    let more : left_of (set bs k true) + 1 ≡ left_of bs = left_set bs k (omega (arith, less)) off in
    let here : left_of (b ∷ bs) ≡ (if b then 0 else 1) + left_of bs = refl in
    let there : left_of (b ∷ set bs k true) ≡ (if b then 0 else 1) + left_of (set bs k true) = refl in
    omega (arith, more, here, there)

-- ---- a round

done_more : (es more : List Entry) (text : List ℕ) → IsDone es text → IsDone (es ++ more) text
done_more es more text (inl are) = inl (record { rules = are.rules; spells = are.spells; among = λ e there. Contains-append_left es more e (are.among e there) })
done_more es more text (inr none) = inr none

done_here : (es rules : List Entry) (text : List ℕ) → AreSpelled text rules → IsDone (es ++ rules) text
done_here es _ text (Rules rules spells) = inl (record { rules = rules; spells = spells; among = λ e there. Contains-append_right es rules e there })
done_here es _ text (Nothing none) = inr none

pub round_none : (p : Program) (s : LiveSet) (rs : List IfRule) (instances : List Instance) (old : List Bool) (before : List ReadEntry) → AddsRound p s rs instances 0 0 old old before before
round_none p s rs instances old before = record {
  flags = λ k i less at. absurd (omega (arith, less));
  rest = λ k past. refl;
  none = λ e k. refl;
  rules = [];
  come = Nowhere;
  added = λ es are. subst (AreEntriesOf before) (sym (append-nil es)) are;
  done = λ es k i at off on. absurd (clash (sym on ∙ off));
}

flag_by : (a b : Bool) → false ≡ (not a && b) → a ≡ (a || b)
flag_by true b e = refl
flag_by false b e = e

stay_flags : (p : Program) (s : LiveSet) (rs : List IfRule) (instances : List Instance) (past count : ℕ) (old new : List Bool) (before after : List ReadEntry) (i : Instance) → slice_get instances past ≡ Some i → false ≡ (not (is_on new past) && holds p s rs i)
    → AddsRound p s rs instances past count old new before after → (k : ℕ) (j : Instance) → (k ≡ past) ⊎ (k < past) → slice_get instances k ≡ Some j → is_on new k ≡ (is_on old k || holds p s rs j)
stay_flags p s rs instances past count old new before after i at off r k j (inr less) there = r.flags k j less there
stay_flags p s rs instances past count old new before after i at off r k j (inl same) there =
    let one : j ≡ i = same_some j i (sym there ∙ ap (slice_get instances) same ∙ at) in
    ap (is_on new) same ∙ flag_by (is_on new past) (holds p s rs i) off ∙ ap (λ b. b || holds p s rs i) (r.rest past (omega arith) ∙ ap (is_on old) (sym same)) ∙ ap (λ j. is_on old k || holds p s rs j) (sym one)

-- one that was there already, or doesn't hold
pub round_stay : (p : Program) (s : LiveSet) (rs : List IfRule) (instances : List Instance) (past count : ℕ) (old new : List Bool) (before mid after : List ReadEntry) (i : Instance) (was : Bool) → slice_get instances past ≡ Some i → was ≡ is_on new past
    → false ≡ (not was && holds p s rs i) → after ≡ mid → AddsRound p s rs instances past count old new before mid → AddsRound p s rs instances (past + 1) count old new before after
round_stay p s rs instances past count old new before mid after i was at is off same r = record {
  flags = λ k j less there.
      let most : k ≤ past = omega (arith, less) in
      stay_flags p s rs instances past count old new before mid i at (off ∙ ap (λ b. not b && holds p s rs i) is) r k j (eq-or-lt_of_le most) there;
  rest = λ k past_it. r.rest k (omega (arith, past_it));
  none = r.none;
  rules = r.rules;
  come = r.come;
  added = λ es are. subst (λ xs. AreEntriesOf xs (es ++ r.rules)) (sym same) (r.added es are);
  done = r.done;
}

on_set : (bs : List Bool) (k : ℕ) → k < length bs → is_on (set bs k true) k ≡ true
on_set bs k less = get_or-set_same bs k true false less

off_set : (bs : List Bool) (k j : ℕ) → (j ≡ k → ⊥) → is_on (set bs k true) j ≡ is_on bs j
off_set bs k j other = get_or-set_other bs k j true false other

come_more : (p : Program) (s : LiveSet) (rs : List IfRule) (rules more : List Entry) (r : IfRule) (t : List ℕ) → ComeFrom p s rs rules → Contains rs r → HoldsSo p s r t → AreSpelled t more → ComeFrom p s rs (rules ++ more)
come_more p s rs rules _ r t come there h (Rules es spells) = Behind rules es r h.texts come there h.holds (subst (λ t. SpellsRules t es) h.says spells)
come_more p s rs rules _ r t come there h (Nothing none) = subst (ComeFrom p s rs) (sym (append-nil rules)) come

same_or : (a b : ℕ) → (a ≡ b) ⊎ (a ≡ b → ⊥)
same_or zero zero = inl refl
same_or zero (suc b) = inr (λ e. omega (arith, e))
same_or (suc a) zero = inr (λ e. omega (arith, e))
same_or (suc a) (suc b) = elim (same_or a b) [ inl e ↦ inl (ap suc e) | inr other ↦ inr (λ e. other (omega (arith, e))) ]

add_flags : (p : Program) (s : LiveSet) (rs : List IfRule) (instances : List Instance) (past count : ℕ) (old mid new : List Bool) (before after : List ReadEntry) (i : Instance) → slice_get instances past ≡ Some i → holds p s rs i ≡ true → past < length mid
    → new ≡ set mid past true → AddsRound p s rs instances past count old mid before after → (k : ℕ) (j : Instance) → (k ≡ past) ⊎ (k < past) → slice_get instances k ≡ Some j → is_on new k ≡ (is_on old k || holds p s rs j)
add_flags p s rs instances past count old mid new before after i at live inside is r k j (inr less) there =
    ap (λ bs. is_on bs k) is ∙ off_set mid past k (λ e. omega (arith, less, e)) ∙ r.flags k j less there
add_flags p s rs instances past count old mid new before after i at live inside is r k j (inl same) there =
    let one : j ≡ i = same_some j i (sym there ∙ ap (slice_get instances) same ∙ at) in
    ap (λ bs. is_on bs k) is ∙ ap (is_on (set mid past true)) same ∙ on_set mid past inside ∙ sym (or_right (is_on old k) (holds p s rs j) (ap (holds p s rs) one ∙ live))

done_by : (p : Program) (s : LiveSet) (rs : List IfRule) (instances : List Instance) (past count : ℕ) (old mid new : List Bool) (before after : List ReadEntry) (i : Instance) (more : List Entry) → slice_get instances past ≡ Some i → new ≡ set mid past true
    → AreSpelled i.text.items more → (r : AddsRound p s rs instances past count old mid before after) → (es : List Entry) (k : ℕ) (j : Instance) → slice_get instances k ≡ Some j → is_on old k ≡ false → is_on new k ≡ true → (k ≡ past) ⊎ (k ≡ past → ⊥)
    → IsDone ((es ++ r.rules) ++ more) j.text.items
done_by p s rs instances past count old mid new before after i more at is spelled r es k j there off on (inl same) =
    let one : j ≡ i = same_some j i (sym there ∙ ap (slice_get instances) same ∙ at) in
    subst (λ j. IsDone ((es ++ r.rules) ++ more) j.text.items) (sym one) (done_here (es ++ r.rules) more i.text.items spelled)
done_by p s rs instances past count old mid new before after i more at is spelled r es k j there off on (inr other) =
    done_more (es ++ r.rules) more j.text.items (r.done es k j there off (sym (off_set mid past k other) ∙ ap (λ bs. is_on bs k) (sym is) ∙ on))

-- one that holds
pub round_add : (p : Program) (s : LiveSet) (rs : List IfRule) (instances : List Instance) (past count : ℕ) (old mid new : List Bool) (before half after : List ReadEntry) (i : Instance) → slice_get instances past ≡ Some i → IsInstance p rs i → holds p s rs i ≡ true
    → past < length mid → new ≡ set mid past true → AddsText i.text.items half after → AddsRound p s rs instances past count old mid before half → AddsRound p s rs instances (past + 1) (count + 1) old new before after
round_add p s rs instances past count old mid new before half after i at instance live inside is text r = record {
  flags = λ k j less there.
      let most : k ≤ past = omega (arith, less) in
      add_flags p s rs instances past count old mid new before half i at live inside is r k j (eq-or-lt_of_le most) there;
  rest = λ k past_it. ap (λ bs. is_on bs k) is ∙ off_set mid past k (λ e. omega (arith, past_it, e)) ∙ r.rest k (omega (arith, past_it));
  none = λ e k. absurd (omega (arith, e));
  rules = r.rules ++ text.rules;
  come = come_more p s rs r.rules text.rules instance.pair.rule i.text.items r.come (contains_at rs i.rule instance.pair.rule instance.pair.is_rule) (instance_holds p s rs i instance live) text.are;
  added = λ es are. subst (AreEntriesOf after) (append_assoc es r.rules text.rules) (text.added (es ++ r.rules) (r.added es are));
  done = λ es k j there off on. subst (λ xs. IsDone xs j.text.items) (append_assoc es r.rules text.rules)
      (done_by p s rs instances past count old mid new before half i text.rules at is text.are r es k j there off on (same_or k past));
}

-- one of either kind, with what was noted of it
pub round_one : (p : Program) (s : LiveSet) (rs : List IfRule) (instances : List Instance) (past count n : ℕ) (old mid new : List Bool) (before half after : List ReadEntry) (i : Instance) (was b : Bool) → slice_get instances past ≡ Some i → IsInstance p rs i
    → was ≡ is_on mid past → past < length mid → b ≡ (not was && holds p s rs i) → (b ≡ true → AddsText i.text.items half after) → (b ≡ false → after ≡ half) → (b ≡ true → new ≡ set mid past true) → (b ≡ true → n ≡ 1)
    → (b ≡ false → new ≡ mid) → (b ≡ false → n ≡ 0) → AddsRound p s rs instances past count old mid before half → AddsRound p s rs instances (past + 1) (count + n) old new before after
round_one p s rs instances past count n old mid new before half after i was true at instance is inside tells adds stays on counts off none r =
    subst (λ n. AddsRound p s rs instances (past + 1) (count + n) old new before after) (sym (counts refl))
    (round_add p s rs instances past count old mid new before half after i at instance (and_right (not was) (holds p s rs i) (sym tells)) inside (on refl) (adds refl) r)
round_one p s rs instances past count n old mid new before half after i was false at instance is inside tells adds stays on counts off none r =
    let same : count ≡ count + n = let zero_is : n ≡ 0 = none refl in omega (arith, zero_is) in
    subst (λ k. AddsRound p s rs instances (past + 1) k old new before after) same
    (subst (λ bs. AddsRound p s rs instances (past + 1) count old bs before after) (sym (off refl)) (round_stay p s rs instances past count old mid before half after i was at is tells (stays refl) r))

pub left_one : (past n : ℕ) (mid new : List Bool) (was b : Bool) → was ≡ is_on mid past → past < length mid → (b ≡ true → was ≡ false) → (b ≡ true → new ≡ set mid past true) → (b ≡ true → n ≡ 1) → (b ≡ false → new ≡ mid) → (b ≡ false → n ≡ 0) → n + left_of new ≡ left_of mid
left_one past n mid new was true is inside fresh on counts off none =
    let less : left_of (set mid past true) + 1 ≡ left_of mid = left_set mid past inside (sym is ∙ fresh refl) in
    let new_is : left_of new ≡ left_of (set mid past true) = ap left_of (on refl) in
    let one_is : n ≡ 1 = counts refl in
    omega (arith, less, new_is, one_is)
left_one past n mid new was false is inside fresh on counts off none =
    let new_is : left_of new ≡ left_of mid = ap left_of (off refl) in
    let none_is : n ≡ 0 = none refl in
    omega (arith, new_is, none_is)

-- ---- all rounds

-- the items of a vector whose slice was written
pub items_after : {X : Type 0} (len : ℕ) (new old : List X) → length new ≡ len → take len (new ++ drop (length new) old) ≡ new
items_after len new old size = ap (λ n. take n (new ++ drop (length new) old)) (sym size) ∙ take_front new (drop (length new) old)
  where
    take_front : {X : Type 0} (xs ys : List X) → take (length xs) (xs ++ ys) ≡ xs
    take_front [] ys = refl
    take_front (x ∷ xs) ys = ap (λ zs. x ∷ zs) (take_front xs ys)

on_none : (n k : ℕ) → is_on (replicate n false) k ≡ false
on_none zero k = refl
on_none (suc n) zero = refl
on_none (suc n) (suc k) = on_none n k

pub so_far_none : (p : Program) (plain : List Entry) (rs : List IfRule) (instances : List Instance) (n : ℕ) (added : List Bool) (read : List ReadEntry) → added ≡ replicate n false → AreEntriesOf read plain → IsSoFar p plain rs instances added read
so_far_none p plain rs instances n added read is are = record {
  entries = plain;
  fires = Plain;
  are = are;
  done = λ k i at on. absurd (clash (sym on ∙ ap (λ bs. is_on bs k) is ∙ on_none n k));
}

so_done : (p : Program) (o : Outside) (rs : List IfRule) (plain : List Entry) (instances : List Instance) (old new : List Bool) (before after : List ReadEntry) (count : ℕ) (so : IsSoFar p plain rs instances old before) (adds : AddsBy p o rs instances old new before after count)
    → (k : ℕ) (i : Instance) → slice_get instances k ≡ Some i → is_on new k ≡ true → (b : Bool) → is_on old k ≡ b → IsDone (so.entries ++ adds.round.rules) i.text.items
so_done p o rs plain instances old new before after count so adds k i at on true was = done_more so.entries adds.round.rules i.text.items (so.done k i at was)
so_done p o rs plain instances old new before after count so adds k i at on false was = adds.round.done so.entries k i at was on

pub so_far_more : (p : Program) (plain : List Entry) (rs : List IfRule) (instances : List Instance) (o : Outside) (old new : List Bool) (before after : List ReadEntry) (count : ℕ) → ((es : List Entry) → AreEntriesOf before es → IsTable p es o)
    → AddsBy p o rs instances old new before after count → IsSoFar p plain rs instances old before → IsSoFar p plain rs instances new after
so_far_more p plain rs instances o old new before after count tables adds so = record {
  entries = so.entries ++ adds.round.rules;
  fires = Round so.entries adds.round.rules o adds.live so.fires (tables so.entries so.are) adds.is_live adds.round.come;
  are = adds.round.added so.entries so.are;
  done = λ k i at on. so_done p o rs plain instances old new before after count so adds k i at on (is_on old k) refl;
}

left_out : (p : Program) (o : Outside) (rs : List IfRule) (plain : List Entry) (instances : List Instance) (old new : List Bool) (before after : List ReadEntry) (count : ℕ) (so : IsSoFar p plain rs instances old before) (adds : AddsBy p o rs instances old new before after count)
    → count ≡ 0 → (t : List ℕ) → Listed p adds.live rs instances t → AreAdded t so.entries ⊎ SpellsNone t
left_out p o rs plain instances old new before after count so adds none t l =
    let on : is_on new l.place ≡ true = adds.round.flags l.place l.one (slice_get_within instances l.place l.one l.there) l.there ∙ or_right (is_on old l.place) (holds p adds.live rs l.one) l.live in
    subst (IsDone so.entries) l.says (so.done l.place l.one l.there (sym (adds.round.none none l.place) ∙ on))

pub settled : (p : Program) (plain : List Entry) (rs : List IfRule) (instances : List Instance) (o : Outside) (old new : List Bool) (before after : List ReadEntry) (count : ℕ) → count ≡ 0 → AreInstances p rs instances → ((es : List Entry) → AreEntriesOf before es → IsTable p es o)
    → AddsBy p o rs instances old new before after count → IsSoFar p plain rs instances old before → IsSettled p plain rs o
settled p plain rs instances o old new before after count none are tables adds so = record {
  entries = so.entries;
  fires = so.fires;
  table = tables so.entries so.are;
  live = adds.live;
  is_live = adds.is_live;
  none = λ r x there h. left_out p o rs plain instances old new before after count so adds none (instance_text r x) (listed p adds.live rs instances r x are there (asks p adds.live rs r x h));
}
