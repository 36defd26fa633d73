-- What is added follows, and nothing else is.
use Rattle.std.proofs.Common.{◌≡◌, ℕ, ◌+◌, ◌<◌, ◌⊎◌, inl, inr, Bool, true, false, List, [], ◌∷◌, ◌++◌, length, take, get_or, refl, sym, ap, subst, ◌∙◌, Some, None, Option, suc, true≢false}
use Rattle.std.specs.Prelude.{◌||◌, Contains, slice_get}
use Rattle.std.specs.List.{flat_map, list_any}
use Rattle.std.proofs.lemmas.List.{take_more}
use Rattle.std.proofs.lemmas.List.Elements.{Contains-append_cases, Contains-append_left, Contains-append_right}
use Rattle.program_model.specs.declared.pass.Outside.{Outside}
use Rattle.program_model.specs.declared.pools.MethodName.{MethodName}
use Rattle.program_model.specs.declared.program.Class.{Class}
use Rattle.program_model.specs.declared.program.Method.{Method}
use Rattle.program_model.specs.declared.program.Program.{Program}
use Rattle.program_model.specs.Lookups.{class_place}
use Rattle.program_model.specs.ProgramRules.{is_well_formed}
use Rattle.class_defs.proofs.WellFormed.{sound, class_parts}
use Rattle.call_graph.specs.declared.facts.Fact.{Fact}
use Rattle.call_graph.specs.declared.facts.Fact.TheVariants as fact
use Rattle.call_graph.specs.declared.facts.Facts.{Facts}
use Rattle.call_graph.specs.declared.live_set.LiveSet.{LiveSet}
use Rattle.call_graph.specs.declared.marks.Marks.{Marks}
use Rattle.call_graph.specs.declared.named.Named.{Named}
use Rattle.call_graph.specs.declared.named.Named.TheVariants as named
use Rattle.insn_set.specs.declared.ops.InvokeKind.TheVariants as call
use Rattle.call_graph.specs.declared.notes.Notes.{Notes}
use Rattle.call_graph.specs.declared.tables.Tables.{Tables}
use Rattle.call_graph.specs.Above.{IsFrom, is_outer, has_outer}
use Rattle.call_graph.specs.Closed.{kept_facts, Entails, Waits, Goes, IsBlank, Ends, Takes, FindsSuper}
use Rattle.call_graph.specs.Follows.{body_facts, names_of_method, own_method}
use Rattle.call_graph.specs.Least.{AddsOnly, AllReached, AreKnownReached, AreReached, BothReached, CallsOn, Common, Inherits, FoundCommon, IsCalledOn, IsLeastSet, IsMadeUnder, IsNamed, IsTaken, Reached, Kept, Entailed, Answered, CalledBack, SuperFrom, WaitsAmong}
use Rattle.call_graph.specs.Lists.{row_of, size_of}
use Rattle.call_graph.specs.Marks.{Pops, WaitsFrom}
use Rattle.call_graph.specs.Objects.{answer_facts, answers_or, class_candidates, open_facts, NothingNoted, SameNotes}
use Rattle.call_graph.specs.Supers.{AddsSuper}
use Rattle.call_graph.specs.Tables.{AreTables}
use Rattle.call_graph.proofs.Growth.{new_waits, blank, set_has}
use Rattle.call_graph.proofs.Contained.{none_in, only_in, first_in, later_in, first_or, flat_from, row_cases}
use Rattle.call_graph.proofs.Noting.{IsAdded}
use Rattle.class_defs.specs.Finding.{finds_virtual}
use Rattle.program_model.specs.declared.program.MethodAt.{MethodAt}

-- ---- lists to which something is added

pub adds_same : (P : Fact → Type 0) (xs : List Fact) → AddsOnly P xs xs
adds_same P xs = λ y c. inl c

pub adds_none : (P : Fact → Type 0) (xs after : List Fact) → after ≡ xs → AddsOnly P xs after
adds_none P xs after e = λ y c. inl (subst (λ l. Contains l y) e c)

pub adds_list : (P : Fact → Type 0) (before xs after : List Fact) → after ≡ before ++ xs → ((y : Fact) → Contains xs y → P y) → AddsOnly P before after
adds_list P before xs after e f = λ y c. elim (Contains-append_cases before xs y (subst (λ l. Contains l y) e c)) [ inl a ↦ inl a | inr b ↦ inr (f y b) ]

pub adds_then : (P Q R : Fact → Type 0) (a b c : List Fact) → ((y : Fact) → P y → R y) → ((y : Fact) → Q y → R y) → AddsOnly P a b → AddsOnly Q b c → AddsOnly R a c
adds_then P Q R a b c f g h k = λ y i. elim (k y i) [ inl j ↦ elim (h y j) [ inl l ↦ inl l | inr l ↦ inr (f y l) ] | inr j ↦ inr (g y j) ]

pub adds_as : (P R : Fact → Type 0) (a b : List Fact) → ((y : Fact) → P y → R y) → AddsOnly P a b → AddsOnly R a b
adds_as P R a b f h = λ y i. elim (h y i) [ inl l ↦ inl l | inr l ↦ inr (f y l) ]

pub reached_after : (p : Program) (o : Outside) (t : Tables) (P : Fact → Type 0) (a b : List Fact) → ((y : Fact) → P y → Reached p o t y) → AllReached p o t a → AddsOnly P a b → AllReached p o t b
reached_after p o t P a b f all h = λ y i. elim (h y i) [ inl l ↦ all y l | inr l ↦ f y l ]

-- a member of the first of a list, and one behind
pub in_more : {X : Type 0} (xs : List X) (i : ℕ) (d y : X) → i < length xs → Contains (take (i + 1) xs) y → Contains (take i xs) y ⊎ (get_or xs i d ≡ y)
in_more xs i d y lt c = elim (Contains-append_cases (take i xs) (get_or xs i d ∷ []) y (subst (λ l. Contains l y) (take_more xs i d lt) c)) [ inl a ↦ inl a | inr b ↦ inr (only_in (get_or xs i d) y b) ]

-- ---- facts that wait

pub waits_class : (f g : Facts) (k : ℕ) → WaitsFrom f.classes g.classes (k ∷ []) → g.made ≡ f.made → g.fields ≡ f.fields → g.methods ≡ f.methods → g.called ≡ f.called → WaitsAmong f g (fact.Class k ∷ [])
waits_class f g k w b c d e (fact.Class n) h = elim (w.each n h) [ inl i ↦ inl i | inr i ↦ inr (subst (λ m. Contains (fact.Class k ∷ []) (fact.Class m)) (only_in k n i.0) (first_in (fact.Class k) [])) ]
waits_class f g k w b c d e (fact.Made n) h = inl (subst (λ m. Contains m.waiting.items n) b h)
waits_class f g k w b c d e (fact.Field n) h = inl (subst (λ m. Contains m.waiting.items n) c h)
waits_class f g k w b c d e (fact.Method n) h = inl (subst (λ m. Contains m.waiting.items n) d h)
waits_class f g k w b c d e (fact.Called n) h = inl (subst (λ m. Contains m.waiting.items n) e h)

pub waits_made : (f g : Facts) (k : ℕ) → WaitsFrom f.made g.made (k ∷ []) → g.classes ≡ f.classes → g.fields ≡ f.fields → g.methods ≡ f.methods → g.called ≡ f.called → WaitsAmong f g (fact.Made k ∷ [])
waits_made f g k w b c d e (fact.Class n) h = inl (subst (λ m. Contains m.waiting.items n) b h)
waits_made f g k w b c d e (fact.Made n) h = elim (w.each n h) [ inl i ↦ inl i | inr i ↦ inr (subst (λ m. Contains (fact.Made k ∷ []) (fact.Made m)) (only_in k n i.0) (first_in (fact.Made k) [])) ]
waits_made f g k w b c d e (fact.Field n) h = inl (subst (λ m. Contains m.waiting.items n) c h)
waits_made f g k w b c d e (fact.Method n) h = inl (subst (λ m. Contains m.waiting.items n) d h)
waits_made f g k w b c d e (fact.Called n) h = inl (subst (λ m. Contains m.waiting.items n) e h)

pub waits_field : (f g : Facts) (k : ℕ) → WaitsFrom f.fields g.fields (k ∷ []) → g.classes ≡ f.classes → g.made ≡ f.made → g.methods ≡ f.methods → g.called ≡ f.called → WaitsAmong f g (fact.Field k ∷ [])
waits_field f g k w b c d e (fact.Class n) h = inl (subst (λ m. Contains m.waiting.items n) b h)
waits_field f g k w b c d e (fact.Made n) h = inl (subst (λ m. Contains m.waiting.items n) c h)
waits_field f g k w b c d e (fact.Field n) h = elim (w.each n h) [ inl i ↦ inl i | inr i ↦ inr (subst (λ m. Contains (fact.Field k ∷ []) (fact.Field m)) (only_in k n i.0) (first_in (fact.Field k) [])) ]
waits_field f g k w b c d e (fact.Method n) h = inl (subst (λ m. Contains m.waiting.items n) d h)
waits_field f g k w b c d e (fact.Called n) h = inl (subst (λ m. Contains m.waiting.items n) e h)

pub waits_method : (f g : Facts) (k : ℕ) → WaitsFrom f.methods g.methods (k ∷ []) → g.classes ≡ f.classes → g.made ≡ f.made → g.fields ≡ f.fields → g.called ≡ f.called → WaitsAmong f g (fact.Method k ∷ [])
waits_method f g k w b c d e (fact.Class n) h = inl (subst (λ m. Contains m.waiting.items n) b h)
waits_method f g k w b c d e (fact.Made n) h = inl (subst (λ m. Contains m.waiting.items n) c h)
waits_method f g k w b c d e (fact.Field n) h = inl (subst (λ m. Contains m.waiting.items n) d h)
waits_method f g k w b c d e (fact.Method n) h = elim (w.each n h) [ inl i ↦ inl i | inr i ↦ inr (subst (λ m. Contains (fact.Method k ∷ []) (fact.Method m)) (only_in k n i.0) (first_in (fact.Method k) [])) ]
waits_method f g k w b c d e (fact.Called n) h = inl (subst (λ m. Contains m.waiting.items n) e h)

pub waits_called : (f g : Facts) (k : ℕ) → WaitsFrom f.called g.called (k ∷ []) → g.classes ≡ f.classes → g.made ≡ f.made → g.fields ≡ f.fields → g.methods ≡ f.methods → WaitsAmong f g (fact.Called k ∷ [])
waits_called f g k w b c d e (fact.Class n) h = inl (subst (λ m. Contains m.waiting.items n) b h)
waits_called f g k w b c d e (fact.Made n) h = inl (subst (λ m. Contains m.waiting.items n) c h)
waits_called f g k w b c d e (fact.Field n) h = inl (subst (λ m. Contains m.waiting.items n) d h)
waits_called f g k w b c d e (fact.Method n) h = inl (subst (λ m. Contains m.waiting.items n) e h)
waits_called f g k w b c d e (fact.Called n) h = elim (w.each n h) [ inl i ↦ inl i | inr i ↦ inr (subst (λ m. Contains (fact.Called k ∷ []) (fact.Called m)) (only_in k n i.0) (first_in (fact.Called k) [])) ]

pub waits_at : (f g h : Facts) (xs : List Fact) (i : ℕ) (d : Fact) → i < length xs → WaitsAmong f g (take i xs) → WaitsAmong g h (get_or xs i d ∷ []) → WaitsAmong f h (take (i + 1) xs)
waits_at f g h xs i d lt a b = λ y w. elim (b y w) [
  | inl v ↦ elim (a y v) [ inl u ↦ inl u | inr u ↦ inr (subst (λ l. Contains l y) (sym (take_more xs i d lt)) (Contains-append_left (take i xs) (get_or xs i d ∷ []) y u)) ]
  | inr v ↦ inr (subst (λ l. Contains l y) (sym (take_more xs i d lt)) (Contains-append_right (take i xs) (get_or xs i d ∷ []) y v))
]

pub waits_none : (f : Facts) (xs : List Fact) → WaitsAmong f f (take 0 xs)
waits_none f xs = λ y w. inl w

-- nothing waits in new tables
pub idle_facts : (f : Facts) → f.classes.waiting.items ≡ [] → f.made.waiting.items ≡ [] → f.fields.waiting.items ≡ [] → f.methods.waiting.items ≡ [] → f.called.waiting.items ≡ [] → (y : Fact) → Waits f y → ⊥
idle_facts f a b c d e (fact.Class n) w = none_in n (subst (λ l. Contains l n) a w)
idle_facts f a b c d e (fact.Made n) w = none_in n (subst (λ l. Contains l n) b w)
idle_facts f a b c d e (fact.Field n) w = none_in n (subst (λ l. Contains l n) c w)
idle_facts f a b c d e (fact.Method n) w = none_in n (subst (λ l. Contains l n) d w)
idle_facts f a b c d e (fact.Called n) w = none_in n (subst (λ l. Contains l n) e w)

pub all_none : (p : Program) (o : Outside) (t : Tables) (xs : List Fact) → xs ≡ [] → AllReached p o t xs
all_none p o t xs e = λ y c. absurd (none_in y (subst (λ l. Contains l y) e c))

-- ---- a fact that waited is taken

popped : (m m' : Marks) (k : ℕ) → Pops m m' (Some k) → Contains m.waiting.items k
popped m m' k e = subst (λ l. Contains l k) (sym e.taken) (Contains-append_right m'.waiting.items (k ∷ []) k (first_in k []))

-- what waits in a table waited in it
abbrev pub Rests : Marks → Marks → Type 0
Rests m m' = (n : ℕ) → Contains m'.waiting.items n → Contains m.waiting.items n

pub rests_same : (m m' : Marks) → m' ≡ m → Rests m m'
rests_same m m' e = λ n c. subst (λ z. Contains z.waiting.items n) e c

pub rest_of : (f g : Facts) → Rests f.classes g.classes → Rests f.made g.made → Rests f.fields g.fields → Rests f.methods g.methods → Rests f.called g.called → (y : Fact) → Waits g y → Waits f y
rest_of f g a b c d e (fact.Class n) w = a n w
rest_of f g a b c d e (fact.Made n) w = b n w
rest_of f g a b c d e (fact.Field n) w = c n w
rest_of f g a b c d e (fact.Method n) w = d n w
rest_of f g a b c d e (fact.Called n) w = e n w

pub taken_class : (f g : Facts) (k : ℕ) → Pops f.classes g.classes (Some k) → Rests f.classes g.classes → g.made ≡ f.made → g.fields ≡ f.fields → g.methods ≡ f.methods → g.called ≡ f.called → IsTaken f g (fact.Class k)
taken_class f g k pops a b c d e = record { waited = popped f.classes g.classes k pops; rest = rest_of f g a (rests_same f.made g.made b) (rests_same f.fields g.fields c) (rests_same f.methods g.methods d) (rests_same f.called g.called e) }

pub taken_made : (f g : Facts) (k : ℕ) → Pops f.made g.made (Some k) → Rests f.classes g.classes → Rests f.made g.made → g.fields ≡ f.fields → g.methods ≡ f.methods → g.called ≡ f.called → IsTaken f g (fact.Made k)
taken_made f g k pops a b c d e = record { waited = popped f.made g.made k pops; rest = rest_of f g a b (rests_same f.fields g.fields c) (rests_same f.methods g.methods d) (rests_same f.called g.called e) }

pub taken_field : (f g : Facts) (k : ℕ) → Pops f.fields g.fields (Some k) → Rests f.classes g.classes → Rests f.made g.made → Rests f.fields g.fields → g.methods ≡ f.methods → g.called ≡ f.called → IsTaken f g (fact.Field k)
taken_field f g k pops a b c d e = record { waited = popped f.fields g.fields k pops; rest = rest_of f g a b c (rests_same f.methods g.methods d) (rests_same f.called g.called e) }

pub taken_method : (f g : Facts) (k : ℕ) → Pops f.methods g.methods (Some k) → Rests f.classes g.classes → Rests f.made g.made → Rests f.fields g.fields → Rests f.methods g.methods → g.called ≡ f.called → IsTaken f g (fact.Method k)
taken_method f g k pops a b c d e = record { waited = popped f.methods g.methods k pops; rest = rest_of f g a b c d (rests_same f.called g.called e) }

pub taken_called : (f g : Facts) (k : ℕ) → Pops f.called g.called (Some k) → Rests f.classes g.classes → Rests f.made g.made → Rests f.fields g.fields → Rests f.methods g.methods → Rests f.called g.called → IsTaken f g (fact.Called k)
taken_called f g k pops a b c d e = record { waited = popped f.called g.called k pops; rest = rest_of f g a b c d e }

-- ---- what the search knows follows

pub known_first : (p : Program) (o : Outside) (t : Tables) (f g : Facts) (more : List Fact) → IsBlank f → ((y : Fact) → Waits f y → ⊥) → Goes f g → WaitsAmong f g more → more ≡ kept_facts p o → AreKnownReached p o t g
known_first p o t f g more empty idle goes from is = record {
  known = λ y h. elim (new_waits f g goes y h) [ inl d ↦ absurd (blank f empty y d) | inr w ↦ waiting y w ];
  waits = waiting;
}
  where
    waiting : (y : Fact) → Waits g y → Reached p o t y
    waiting y w = elim (from y w) [ inl v ↦ absurd (idle y v) | inr c ↦ Kept y (subst (λ l. Contains l y) is c) ]

pub known_on : (p : Program) (o : Outside) (t : Tables) (f g h : Facts) (x : Fact) (more : List Fact) → AreKnownReached p o t f → Takes f g x → IsTaken f g x → Goes g h → WaitsAmong g h more → AllReached p o t more → AreKnownReached p o t h
known_on p o t f g h x more all takes taken goes from reached = record {
  known = λ y k. elim (new_waits g h goes y k) [ inl d ↦ all.known y (sym (takes.known y) ∙ d) | inr w ↦ waiting y w ];
  waits = waiting;
}
  where
    waiting : (y : Fact) → Waits h y → Reached p o t y
    waiting y w = elim (from y w) [ inl v ↦ all.waits y (taken.rest y v) | inr c ↦ reached y c ]

pub known_ends : (p : Program) (o : Outside) (t : Tables) (f g : Facts) → AreKnownReached p o t f → Ends f g → ((y : Fact) → Waits g y → Waits f y) → AreKnownReached p o t g
known_ends p o t f g all e rest = record { known = λ y k. all.known y (sym (e.known y) ∙ k); waits = λ y w. all.waits y (rest y w) }

-- nothing is noted
pub notes_none : (p : Program) (o : Outside) (t : Tables) (n : Notes) → NothingNoted n → AreReached p o t n
notes_none p o t n nothing = record {
  called = λ kind number c. absurd (none_in number (subst (λ l. Contains l number) (nothing.called kind) c));
  made = λ kind class c. absurd (none_in class (subst (λ l. Contains l class) (nothing.made kind) c));
}

-- the same is noted
pub notes_same : (p : Program) (o : Outside) (t : Tables) (a b : Notes) → SameNotes a b → AreReached p o t a → AreReached p o t b
notes_same p o t a b same r = record {
  called = λ kind number c. r.called kind number (subst (λ l. Contains (row_of l kind) number) same.called c);
  made = λ kind class c. r.made kind class (subst (λ l. Contains (row_of l kind) class) same.made c);
}

-- ---- a call and a made class are noted

pub called_reached : (p : Program) (o : Outside) (t : Tables) (old new : Notes) (at number : ℕ) (q : MethodName) (before out : List Fact) (row : List ℕ) → IsAdded (row_of old.called_on) (row_of new.called_on) at (size_of old.called_on) number
    → new.made_under ≡ old.made_under → row ≡ row_of new.made_under at → out ≡ before ++ flat_map (answer_facts p number) row → slice_get p.methods number ≡ Some q → q.class ≡ at
    → Reached p o t (fact.Called number) → AreReached p o t old → AllReached p o t before → BothReached p o t new out
called_reached p o t old new at number q before out row added made is adds name on reached all facts = record {
  notes = record {
    called = λ kind n c. elim (row_cases kind at (size_of old.called_on) number n (row_of old.called_on kind) (row_of new.called_on kind) (added.rows kind) c) [
      | inl i ↦ all.called kind n i
      | inr e ↦ subst (λ k. IsCalledOn p o t k kind) e.1 (record { name = q; is_name = name; on = on ∙ sym e.0; called = reached })
    ];
    made = λ kind class c. all.made kind class (subst (λ l. Contains (row_of l kind) class) made c);
  };
  facts = λ y c. elim (Contains-append_cases before (flat_map (answer_facts p number) row) y (subst (λ l. Contains l y) adds c)) [
    | inl i ↦ facts y i
    | inr i ↦
        let one = flat_from (answer_facts p number) row y i in
        let under : IsMadeUnder p o t one.one at = all.made at one.one (subst (λ l. Contains (row_of l at) one.one) made (subst (λ l. Contains l one.one) is one.is_in)) in
        Answered number under.below one.one q y reached name under.made under.place (subst (IsFrom p t.object under.below) (sym on) under.from) one.has
  ];
}

pub under_reached : (p : Program) (o : Outside) (t : Tables) (old new : Notes) (at class : ℕ) (before out : List Fact) (row : List ℕ) → IsAdded (row_of old.made_under) (row_of new.made_under) at (size_of old.made_under) class
    → new.called_on ≡ old.called_on → row ≡ row_of new.called_on at → out ≡ before ++ flat_map (λ n. answer_facts p n class) row → IsMadeUnder p o t class at → AreReached p o t old → AllReached p o t before → BothReached p o t new out
under_reached p o t old new at class before out row added called is adds under all facts = record {
  notes = record {
    called = λ kind n c. all.called kind n (subst (λ l. Contains (row_of l kind) n) called c);
    made = λ kind k c. elim (row_cases kind at (size_of old.made_under) class k (row_of old.made_under kind) (row_of new.made_under kind) (added.rows kind) c) [
      | inl i ↦ all.made kind k i
      | inr e ↦ subst (λ z. IsMadeUnder p o t z kind) e.1 (subst (λ z. IsMadeUnder p o t class z) (sym e.0) under)
    ];
  };
  facts = λ y c. elim (Contains-append_cases before (flat_map (λ n. answer_facts p n class) row) y (subst (λ l. Contains l y) adds c)) [
    | inl i ↦ facts y i
    | inr i ↦
        let one = flat_from (λ n. answer_facts p n class) row y i in
        let on : IsCalledOn p o t one.one at = all.called at one.one (subst (λ l. Contains (row_of l at) one.one) called (subst (λ l. Contains l one.one) is one.is_in)) in
        Answered one.one under.below class on.name y on.called on.is_name under.made under.place (subst (IsFrom p t.object under.below) (sym on.on) under.from) one.has
  ];
}

-- ---- what the framework calls on a made class

some_at : (x : MethodAt) (cs : List MethodAt) → answers_or (Some x) cs ≡ x ∷ []
some_at x cs = refl

-- what a class finds for a method that each object has is called back
pub common_reached : (p : Program) (o : Outside) (t : Tables) (kind class : ℕ) (y : Fact) → Reached p o t (fact.Made kind) → class_place p kind ≡ Some class → FoundCommon p t.shut.items class y → Reached p o t y
common_reached p o t kind class y made place f = by (finds_virtual p f.name.name f.name.proto class) refl f.is
  where
    by : (found : Option MethodAt) → finds_virtual p f.name.name f.name.proto class ≡ found → Contains (open_facts p t.shut.items found) y → Reached p o t y
    by None e c = absurd (none_in y c)
    by (Some at) e c = Entailed (fact.Made kind) y made (inr (record {
      number = f.number;
      name = f.name;
      class = class;
      at = at;
      is_name = f.is_name;
      is_class = place;
      may = inr f.common;
      answers = subst (λ found. Contains (answers_or found (class_candidates p class f.name.name f.name.proto)) at) (sym e) (first_in at []);
      fact_is = c;
    }))

pub back_reached : (p : Program) (o : Outside) (t : Tables) (kind class : ℕ) (above : List ℕ) (y : Fact) → Reached p o t (fact.Made kind) → class_place p kind ≡ Some class → ((u : ℕ) → Contains above u → IsFrom p t.object kind u)
    → CallsOn p t.object t.shut.items class above y → Reached p o t y
back_reached p o t kind class above y made place from (Common z f) = common_reached p o t kind class y made place f
back_reached p o t kind class above y made place from (Inherits top z i outer f) = CalledBack kind class top f.kind y made place (from top i) outer (from f.kind f.is_in) f.from

-- a type of the framework other than Object is among those above
pub outer_among : (p : Program) (object : ℕ) (above : List ℕ) → has_outer p object above ≡ true → (top : ℕ) × (Contains above top × (is_outer p object top ≡ true))
outer_among p object [] h = absurd (true≢false (sym h))
outer_among p object (k ∷ ks) h = by (is_outer p object k) refl (outer_among p object ks) h
  where
    by : (b : Bool) → is_outer p object k ≡ b → (has_outer p object ks ≡ true → (top : ℕ) × (Contains ks top × (is_outer p object top ≡ true))) → (b || list_any (is_outer p object) ks) ≡ true → (top : ℕ) × (Contains (k ∷ ks) top × (is_outer p object top ≡ true))
    by true e more h = (k, (first_in k ks, e))
    by false e more h = let rest = more h in (rest.0, (later_in k ks rest.0 rest.1.0, rest.1.1))

-- each method of a class of a well-formed program has a name in the table
pub all_named : (p : Program) (place : ℕ) (c : Class) → is_well_formed p ≡ true → slice_get p.classes place ≡ Some c → (m : Method) → Contains c.methods m → IsNamed p m
all_named p place c formed is m i =
    let at = got_in c.methods m i in
    let fits = (class_parts p (sound p formed) place c is).methods at.0 m at.1 in
    record { name = fits.entry; is = fits.is }
  where
    got_in : (ms : List Method) (m : Method) → Contains ms m → (n : ℕ) × (slice_get ms n ≡ Some m)
    got_in [] m c = absurd (none_in m c)
    got_in (x ∷ xs) m c = elim (first_or x xs m c) [ inl e ↦ (0, ap (λ z. Some z) e) | inr h ↦ let r = got_in xs m h in (suc r.0, r.1) ]

-- ---- super calls

pub super_among : (p : Program) (kind caller : ℕ) (names : List Named) (n : Named) (y : Fact) → Contains names n → SuperFrom p kind caller (n ∷ []) y → SuperFrom p kind caller names y
super_among p kind caller names n y i s = record {
  callee = s.callee;
  called = s.called;
  facts = s.facts;
  calls = subst (Contains names) (only_in n (named.Call call.Super s.callee) s.calls) i;
  is_called = s.is_called;
  finds = s.finds;
  has = s.has;
}

-- a super call adds what it finds; one of a number that no method has adds nothing
pub super_only : (p : Program) (kind caller : ℕ) (n : Named) (method : ℕ) (before after : List Fact) → n ≡ named.Call call.Super method → (slice_get p.methods method ≡ None → after ≡ before)
    → ((q : MethodName) → slice_get p.methods method ≡ Some q → AddsSuper p kind caller q before after) → AddsOnly (SuperFrom p kind caller (n ∷ [])) before after
super_only p kind caller n method before after is none some = by (slice_get p.methods method) refl
  where
    by : (found : Option MethodName) → slice_get p.methods method ≡ found → AddsOnly (SuperFrom p kind caller (n ∷ [])) before after
    by None e = adds_none (SuperFrom p kind caller (n ∷ [])) before after (none e)
    by (Some q) e =
        let f = some q e in
        adds_list (SuperFrom p kind caller (n ∷ [])) before f.facts after f.adds (λ y i. record {
          callee = method;
          called = q;
          facts = f.facts;
          calls = subst (λ m. Contains (n ∷ []) m) is (first_in n []);
          is_called = e;
          finds = f.finds;
          has = i;
        })

-- what the super calls among the names of a method find
pub super_found : (p : Program) (number caller : ℕ) (name : MethodName) (y : Fact) → slice_get p.methods number ≡ Some name → class_place p name.class ≡ Some caller → SuperFrom p name.class caller (names_of_method (own_method p number)) y → FindsSuper p number y
super_found p number caller name y e place s = record {
  name = name;
  caller = caller;
  callee = s.callee;
  called = s.called;
  facts = s.facts;
  is_name = e;
  is_caller = place;
  calls = s.calls;
  is_called = s.is_called;
  finds = s.finds;
  has = s.has;
}

-- ---- what follows from one fact

pub listed_reached : (p : Program) (o : Outside) (t : Tables) (x : Fact) (before xs out : List Fact) → Reached p o t x → out ≡ before ++ xs → ((y : Fact) → Contains xs y → Entails p t x y) → AllReached p o t before → AllReached p o t out
listed_reached p o t x before xs out reached e entails all = λ y c. elim (Contains-append_cases before xs y (subst (λ l. Contains l y) e c)) [ inl a ↦ all y a | inr b ↦ Entailed x y reached (entails y b) ]

pub method_reached : (p : Program) (o : Outside) (t : Tables) (old new : Notes) (number : ℕ) (before out : List Fact) → Reached p o t (fact.Method number) → SameNotes old new
    → AddsOnly (FindsSuper p number) (before ++ body_facts p t.bases.items number) out → AreReached p o t old → AllReached p o t before → BothReached p o t new out
method_reached p o t old new number before out reached same only notes facts = record {
  notes = notes_same p o t old new same notes;
  facts = λ y c. elim (only y c) [
    | inl i ↦ listed_reached p o t (fact.Method number) before (body_facts p t.bases.items number) (before ++ body_facts p t.bases.items number) reached refl (λ z h. inl h) facts y i
    | inr f ↦ Entailed (fact.Method number) y reached (inr f)
  ];
}

-- ---- the sets of the facts

pub least_set : (p : Program) (o : Outside) (t : Tables) (f : Facts) (s : LiveSet) → s.classes ≡ f.classes.marks → s.made ≡ f.made.marks → s.fields ≡ f.fields.marks → s.methods ≡ f.methods.marks → AreTables p o t → AreKnownReached p o t f → IsLeastSet p o s
least_set p o t f s a b c d are all = record { tables = t; are = are; follows = λ x h. all.known x (set_has f s a b c d x h) }
