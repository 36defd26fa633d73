-- How facts become known, and what waits for what follows from it.
use Rattle.std.proofs.Common.{◌≡◌, ℕ, zero, suc, ◌+◌, ◌<◌, ◌≤◌, ◌⊎◌, inl, inr, Bool, true, false, true≢false, List, [], ◌∷◌, ◌++◌, length, take, get_or, refl, sym, ap, subst, ◌∙◌, arith, Some, None}
use Rattle.std.specs.Prelude.{slice_index_or, slice_get, slice_set, Contains}
use Rattle.std.proofs.lemmas.List.{take_more, take_all}
use Rattle.call_graph.specs.Facts.{Grows, Sized}
use Rattle.std.proofs.lemmas.List.Elements.{Contains-push, Contains-push_cases, Contains-append_left}
use Rattle.program_model.specs.declared.program.Program.{Program}
use Rattle.program_model.specs.declared.pass.Outside.{Outside}
use Rattle.call_graph.specs.declared.facts.Fact.{Fact}
use Rattle.call_graph.specs.declared.facts.Fact.TheVariants as fact
use Rattle.call_graph.specs.declared.facts.Facts.{Facts}
use Rattle.call_graph.specs.declared.tables.Tables.{Tables}
use Rattle.call_graph.specs.declared.marks.Marks.{Marks}
use Rattle.call_graph.specs.Marks.{Keeps, Pops}
use Rattle.call_graph.specs.Closed.{has, reached, Waits, Goes, Takes, kept_facts, Reaches, Forces, Entails, Followed, Follows, IsClosed, IsBlank, Ends, is_live, is_met, IsCalled, IsClosedSet}
use Rattle.call_graph.specs.declared.live_set.LiveSet.{LiveSet}
use Rattle.call_graph.specs.declared.notes.Notes.{Notes}
use Rattle.call_graph.specs.Tables.{AreTables}
use Rattle.call_graph.specs.Objects.{Noted, NotesGrow, NothingNoted, IsOver, answer_facts}
use Rattle.program_model.specs.declared.pools.MethodName.{MethodName}
use Rattle.program_model.specs.Lookups.{class_place}
use Rattle.call_graph.proofs.Calling.{found_answers}

-- ---- marks

set_cases : (l : List Bool) (x c : ℕ) → slice_index_or (slice_set l x true) c false ≡ true → (c ≡ x) ⊎ (slice_index_or l c false ≡ true)
set_cases [] x c e = inr e
set_cases (b ∷ bs) zero zero e = inl refl
set_cases (b ∷ bs) zero (suc c) e = inr e
set_cases (b ∷ bs) (suc x) zero e = inr e
set_cases (b ∷ bs) (suc x) (suc c) e = elim (set_cases bs x c e) [ inl s ↦ inl (ap suc s) | inr f ↦ inr f ]

set_keeps : (l : List Bool) (x c : ℕ) (d : Bool) → slice_index_or l c d ≡ true → slice_index_or (slice_set l x true) c d ≡ true
set_keeps [] x c d e = e
set_keeps (b ∷ bs) zero zero d e = refl
set_keeps (b ∷ bs) zero (suc c) d e = e
set_keeps (b ∷ bs) (suc x) zero d e = e
set_keeps (b ∷ bs) (suc x) (suc c) d e = set_keeps bs x c d e

pub set_reached : (l : List Bool) (x : ℕ) → slice_index_or (slice_set l x true) x true ≡ true
set_reached [] x = refl
set_reached (b ∷ bs) zero = refl
set_reached (b ∷ bs) (suc x) = set_reached bs x

-- what is marked, or past the table, is reached
pub reached_so : (l : List Bool) (x : ℕ) (d : Bool) → x < length l → slice_index_or l x d ≡ true → slice_index_or l x true ≡ true
reached_so [] x d lt e = absurd (omega (arith, lt))
reached_so (b ∷ bs) zero d lt e = e
reached_so (b ∷ bs) (suc x) d lt e = reached_so bs x d (omega (arith, lt)) e

pub reached_past : (l : List Bool) (x : ℕ) → length l ≤ x → slice_index_or l x true ≡ true
reached_past [] x le = refl
reached_past (b ∷ bs) zero le = absurd (omega (arith, le))
reached_past (b ∷ bs) (suc x) le = reached_past bs x (omega (arith, le))

-- a mark that is set, where its number waits from then on
pub keeps_set : (m m' : Marks) (x : ℕ) → m'.marks.items ≡ slice_set m.marks.items x true → m'.waiting.items ≡ m.waiting.items ++ x ∷ [] → Keeps m m'
keeps_set m m' x e w = record {
  marked = λ n h. ap (λ l. slice_index_or l n false) e ∙ set_keeps m.marks.items x n false h;
  reached = λ n h. ap (λ l. slice_index_or l n true) e ∙ set_keeps m.marks.items x n true h;
  new = λ n h. elim (set_cases m.marks.items x n (sym (ap (λ l. slice_index_or l n false) e) ∙ h)) [
    | inl s ↦ inr (subst (λ l. Contains l n) (sym w) (subst (Contains (m.waiting.items ++ x ∷ [])) (sym s) (Contains-push m.waiting.items x)))
    | inr f ↦ inl f
  ];
  waits = λ n h. subst (λ l. Contains l n) (sym w) (Contains-append_left m.waiting.items (x ∷ []) n h);
}

pub keeps_same : (m : Marks) → Keeps m m
keeps_same m = record { marked = λ n h. h; reached = λ n h. h; new = λ n h. inl h; waits = λ n h. h }

pub keeps_then : (a b c : Marks) → Keeps a b → Keeps b c → Keeps a c
keeps_then a b c f g = record {
  marked = λ n h. g.marked n (f.marked n h);
  reached = λ n h. g.reached n (f.reached n h);
  new = λ n h. elim (g.new n h) [ inl e ↦ elim (f.new n e) [ inl d ↦ inl d | inr w ↦ inr (g.waits n w) ] | inr w ↦ inr w ];
  waits = λ n h. g.waits n (f.waits n h);
}

-- ---- facts

pub goes_same : (f : Facts) → Goes f f
goes_same f = record { classes = keeps_same f.classes; made = keeps_same f.made; fields = keeps_same f.fields; methods = keeps_same f.methods; called = keeps_same f.called }

pub goes_then : (a b c : Facts) → Goes a b → Goes b c → Goes a c
goes_then a b c f g = record {
  classes = keeps_then a.classes b.classes c.classes f.classes g.classes;
  made = keeps_then a.made b.made c.made f.made g.made;
  fields = keeps_then a.fields b.fields c.fields f.fields g.fields;
  methods = keeps_then a.methods b.methods c.methods f.methods g.methods;
  called = keeps_then a.called b.called c.called f.called g.called;
}

stays_reached : (f g : Facts) → Goes f g → (x : Fact) → reached f x ≡ true → reached g x ≡ true
stays_reached f g k (fact.Class n) h = k.classes.reached n h
stays_reached f g k (fact.Made n) h = k.made.reached n h
stays_reached f g k (fact.Field n) h = k.fields.reached n h
stays_reached f g k (fact.Method n) h = k.methods.reached n h
stays_reached f g k (fact.Called n) h = k.called.reached n h

pub new_waits : (f g : Facts) → Goes f g → (x : Fact) → has g x ≡ true → (has f x ≡ true) ⊎ Waits g x
new_waits f g k (fact.Class n) h = k.classes.new n h
new_waits f g k (fact.Made n) h = k.made.new n h
new_waits f g k (fact.Field n) h = k.fields.new n h
new_waits f g k (fact.Method n) h = k.methods.new n h
new_waits f g k (fact.Called n) h = k.called.new n h

still_waits : (f g : Facts) → Goes f g → (x : Fact) → Waits f x → Waits g x
still_waits f g k (fact.Class n) h = k.classes.waits n h
still_waits f g k (fact.Made n) h = k.made.waits n h
still_waits f g k (fact.Field n) h = k.fields.waits n h
still_waits f g k (fact.Method n) h = k.methods.waits n h
still_waits f g k (fact.Called n) h = k.called.waits n h

-- one more fact of a list
pub reaches_at : (f g : Facts) (xs : List Fact) (i : ℕ) (d : Fact) → Goes f g → Reaches f (take i xs) → i < length xs → reached g (get_or xs i d) ≡ true → Reaches g (take (i + 1) xs)
reaches_at f g xs i d k so_far lt h =
    let more : take (i + 1) xs ≡ take i xs ++ get_or xs i d ∷ [] = take_more xs i d lt in
    λ y c. elim (Contains-push_cases (take i xs) (get_or xs i d) y (subst (λ l. Contains l y) more c)) [
      | inl e ↦ stays_reached f g k y (so_far y e)
      | inr s ↦ subst (λ z. reached g z ≡ true) s h
    ]

pub reaches_all : (f : Facts) (xs : List Fact) (i : ℕ) → length xs ≤ i → Reaches f (take i xs) → Reaches f xs
reaches_all f xs i le r x c = r x (subst (λ l. Contains l x) (sym (take_all i xs le)) c)

pub grows_then : (a b c : Facts) → Grows a b → Grows b c → Grows a c
grows_then a b c f g = (let x = f.0 in let y = g.0 in omega (arith, x, y), g.1 ∙ f.1, g.2 ∙ f.2, g.3 ∙ f.3, g.4 ∙ f.4, g.5 ∙ f.5)

none_in : {X : Type 0} (x : X) → Contains [] x → ⊥
none_in x c = let l = c.1 in omega (arith, l)

pub reaches_none : (f : Facts) (xs : List Fact) → Reaches f (take 0 xs)
reaches_none f xs x c = absurd (none_in x c)

-- ---- the search

noted_keeps : (p : Program) (object : ℕ) (m n : Notes) (out : List Fact) (x : Fact) → NotesGrow p m n out → Noted p object m x → Noted p object n x
noted_keeps p object m n out (fact.Class k) g h = tt
noted_keeps p object m n out (fact.Made k) g h = λ c u e over lt. g.made u c (h c u e over lt)
noted_keeps p object m n out (fact.Field k) g h = tt
noted_keeps p object m n out (fact.Method k) g h = tt
noted_keeps p object m n out (fact.Called k) g h = λ q e lt. g.called q.class k (h q e lt)

-- a fact is taken, and what follows from it becomes known
pub follows_on : (p : Program) (o : Outside) (t : Tables) (m n : Notes) (f g h : Facts) (x : Fact) (more : List Fact) → Follows p o t m f → Takes f g x → Goes g h → Followed p t m n x more → Reaches h more → Follows p o t n h
follows_on p o t m n f g h x more s k go all r = record {
  begins = λ y c. still y (s.begins y c);
  goes = λ y e. elim (new_waits g h go y e) [
    | inl d ↦ elim (s.goes y (sym (k.known y) ∙ d)) [
      | inl w ↦ elim (k.waits y w) [
        | inl same ↦ inr (record { forces = λ z c. r z (all.forces z (subst (λ q. Entails p t q z) same c)); noted = subst (Noted p t.object n) (sym same) all.noted })
        | inr w ↦ inl (still_waits g h go y w)
      ]
      | inr done ↦ inr (record { forces = λ z c. still z (done.forces z c); noted = noted_keeps p t.object m n more y all.grow done.noted })
    ]
    | inr w ↦ inl w
  ];
  meets = λ number class q z c. elim (all.grow.pairs number class q) [ inl old ↦ still z (s.meets number class old z c) | inr added ↦ r z (added z c) ];
}
  where
    still : (y : Fact) → reached f y ≡ true → reached h y ≡ true
    still y e = stays_reached g h go y (k.met y ∙ e)

-- at the end
pub closed_then : (p : Program) (o : Outside) (t : Tables) (n : Notes) (f g : Facts) → Follows p o t n f → Ends f g → IsClosed p o t g
closed_then p o t n f g s e = record {
  notes = n;
  begins = λ y c. e.met y ∙ s.begins y c;
  goes = λ y h. elim (s.goes y (sym (e.known y) ∙ h)) [
    | inl w ↦ absurd (e.done y w)
    | inr b ↦ record { forces = λ z c. e.met z ∙ b.forces z c; noted = b.noted }
  ];
  meets = λ number class q z c. e.met z ∙ s.meets number class q z c;
}

-- at the start
pub blank : (f : Facts) → IsBlank f → (x : Fact) → has f x ≡ true → ⊥
blank f b (fact.Class n) h = b.classes n h
blank f b (fact.Made n) h = b.made n h
blank f b (fact.Field n) h = b.fields n h
blank f b (fact.Method n) h = b.methods n h
blank f b (fact.Called n) h = b.called n h

pub follows_first : (p : Program) (o : Outside) (t : Tables) (n : Notes) (f g : Facts) (more : List Fact) → IsBlank f → NothingNoted n → Goes f g → more ≡ kept_facts p o → Reaches g more → Follows p o t n g
follows_first p o t n f g more empty nothing go is r = record {
  begins = λ y c. r y (subst (λ l. Contains l y) (sym is) c);
  goes = λ y e. elim (new_waits f g go y e) [ inl d ↦ absurd (blank f empty y d) | inr w ↦ inl w ];
  meets = λ number class q z c. absurd (none_in number (subst (λ l. Contains l number) (nothing.called q.kind) q.called));
}

-- ---- a fact that is taken

pub pop_some : (m m' : Marks) (k : ℕ) → Pops m m' (Some k) → (n : ℕ) → Contains m.waiting.items n → (n ≡ k) ⊎ Contains m'.waiting.items n
pop_some m m' k e n c = elim (Contains-push_cases m'.waiting.items k n (subst (λ l. Contains l n) e.taken c)) [ inl d ↦ inr d | inr s ↦ inl (sym s) ]

pub pop_none : (m m' : Marks) → Pops m m' None → (n : ℕ) → Contains m.waiting.items n → ⊥
pop_none m m' e n c = none_in n (subst (λ l. Contains l n) e.taken c)

-- the marks of the tables are the same
pub record SameMarks (f g : Facts) : Type 0 where
  pub classes : g.classes.marks ≡ f.classes.marks
  pub made : g.made.marks ≡ f.made.marks
  pub fields : g.fields.marks ≡ f.fields.marks
  pub methods : g.methods.marks ≡ f.methods.marks
  pub called : g.called.marks ≡ f.called.marks

pub same_has : (f g : Facts) → SameMarks f g → (x : Fact) → has g x ≡ has f x
same_has f g s (fact.Class n) = ap (λ v. slice_index_or v.items n false) s.classes
same_has f g s (fact.Made n) = ap (λ v. slice_index_or v.items n false) s.made
same_has f g s (fact.Field n) = ap (λ v. slice_index_or v.items n false) s.fields
same_has f g s (fact.Method n) = ap (λ v. slice_index_or v.items n false) s.methods
same_has f g s (fact.Called n) = ap (λ v. slice_index_or v.items n false) s.called

pub same_reached : (f g : Facts) → SameMarks f g → (x : Fact) → reached g x ≡ reached f x
same_reached f g s (fact.Class n) = ap (λ v. slice_index_or v.items n true) s.classes
same_reached f g s (fact.Made n) = ap (λ v. slice_index_or v.items n true) s.made
same_reached f g s (fact.Field n) = ap (λ v. slice_index_or v.items n true) s.fields
same_reached f g s (fact.Method n) = ap (λ v. slice_index_or v.items n true) s.methods
same_reached f g s (fact.Called n) = ap (λ v. slice_index_or v.items n true) s.called

-- what waits, table by table
pub record Left (f g : Facts) (x : Fact) : Type 0 where
  pub classes : (n : ℕ) → Contains f.classes.waiting.items n → (fact.Class n ≡ x) ⊎ Contains g.classes.waiting.items n
  pub made : (n : ℕ) → Contains f.made.waiting.items n → (fact.Made n ≡ x) ⊎ Contains g.made.waiting.items n
  pub fields : (n : ℕ) → Contains f.fields.waiting.items n → (fact.Field n ≡ x) ⊎ Contains g.fields.waiting.items n
  pub methods : (n : ℕ) → Contains f.methods.waiting.items n → (fact.Method n ≡ x) ⊎ Contains g.methods.waiting.items n
  pub called : (n : ℕ) → Contains f.called.waiting.items n → (fact.Called n ≡ x) ⊎ Contains g.called.waiting.items n

left_waits : (f g : Facts) (x : Fact) → Left f g x → (y : Fact) → Waits f y → (y ≡ x) ⊎ Waits g y
left_waits f g x l (fact.Class n) w = l.classes n w
left_waits f g x l (fact.Made n) w = l.made n w
left_waits f g x l (fact.Field n) w = l.fields n w
left_waits f g x l (fact.Method n) w = l.methods n w
left_waits f g x l (fact.Called n) w = l.called n w

pub takes_of : (f g : Facts) (x : Fact) → SameMarks f g → Left f g x → Takes f g x
takes_of f g x s l = record { known = same_has f g s; met = same_reached f g s; waits = left_waits f g x l }

nothing_waits : (f g : Facts) → Pops f.classes g.classes None → Pops f.made g.made None → Pops f.fields g.fields None → Pops f.methods g.methods None → Pops f.called g.called None → (x : Fact) → Waits f x → ⊥
nothing_waits f g a b c d e (fact.Class n) w = pop_none f.classes g.classes a n w
nothing_waits f g a b c d e (fact.Made n) w = pop_none f.made g.made b n w
nothing_waits f g a b c d e (fact.Field n) w = pop_none f.fields g.fields c n w
nothing_waits f g a b c d e (fact.Method n) w = pop_none f.methods g.methods d n w
nothing_waits f g a b c d e (fact.Called n) w = pop_none f.called g.called e n w

pub takes_class : (f g : Facts) (k : ℕ) → Pops f.classes g.classes (Some k) → g.made ≡ f.made → g.fields ≡ f.fields → g.methods ≡ f.methods → g.called ≡ f.called → Takes f g (fact.Class k)
takes_class f g k a b c d e = takes_of f g (fact.Class k) (record { classes = a.same; made = ap (λ m. m.marks) b; fields = ap (λ m. m.marks) c; methods = ap (λ m. m.marks) d; called = ap (λ m. m.marks) e }) (record {
  classes = λ n w. elim (pop_some f.classes g.classes k a n w) [ inl s ↦ inl (ap (λ z. fact.Class z) s) | inr w ↦ inr w ];
  made = λ n w. inr (subst (λ m. Contains m.waiting.items n) (sym b) w);
  fields = λ n w. inr (subst (λ m. Contains m.waiting.items n) (sym c) w);
  methods = λ n w. inr (subst (λ m. Contains m.waiting.items n) (sym d) w);
  called = λ n w. inr (subst (λ m. Contains m.waiting.items n) (sym e) w);
})

pub takes_made : (f g : Facts) (k : ℕ) → Pops f.classes g.classes None → Pops f.made g.made (Some k) → g.fields ≡ f.fields → g.methods ≡ f.methods → g.called ≡ f.called → Takes f g (fact.Made k)
takes_made f g k a b c d e = takes_of f g (fact.Made k) (record { classes = a.same; made = b.same; fields = ap (λ m. m.marks) c; methods = ap (λ m. m.marks) d; called = ap (λ m. m.marks) e }) (record {
  classes = λ n w. absurd (pop_none f.classes g.classes a n w);
  made = λ n w. elim (pop_some f.made g.made k b n w) [ inl s ↦ inl (ap (λ z. fact.Made z) s) | inr w ↦ inr w ];
  fields = λ n w. inr (subst (λ m. Contains m.waiting.items n) (sym c) w);
  methods = λ n w. inr (subst (λ m. Contains m.waiting.items n) (sym d) w);
  called = λ n w. inr (subst (λ m. Contains m.waiting.items n) (sym e) w);
})

pub takes_field : (f g : Facts) (k : ℕ) → Pops f.classes g.classes None → Pops f.made g.made None → Pops f.fields g.fields (Some k) → g.methods ≡ f.methods → g.called ≡ f.called → Takes f g (fact.Field k)
takes_field f g k a b c d e = takes_of f g (fact.Field k) (record { classes = a.same; made = b.same; fields = c.same; methods = ap (λ m. m.marks) d; called = ap (λ m. m.marks) e }) (record {
  classes = λ n w. absurd (pop_none f.classes g.classes a n w);
  made = λ n w. absurd (pop_none f.made g.made b n w);
  fields = λ n w. elim (pop_some f.fields g.fields k c n w) [ inl s ↦ inl (ap (λ z. fact.Field z) s) | inr w ↦ inr w ];
  methods = λ n w. inr (subst (λ m. Contains m.waiting.items n) (sym d) w);
  called = λ n w. inr (subst (λ m. Contains m.waiting.items n) (sym e) w);
})

pub takes_method : (f g : Facts) (k : ℕ) → Pops f.classes g.classes None → Pops f.made g.made None → Pops f.fields g.fields None → Pops f.methods g.methods (Some k) → g.called ≡ f.called → Takes f g (fact.Method k)
takes_method f g k a b c d e = takes_of f g (fact.Method k) (record { classes = a.same; made = b.same; fields = c.same; methods = d.same; called = ap (λ m. m.marks) e }) (record {
  classes = λ n w. absurd (pop_none f.classes g.classes a n w);
  made = λ n w. absurd (pop_none f.made g.made b n w);
  fields = λ n w. absurd (pop_none f.fields g.fields c n w);
  methods = λ n w. elim (pop_some f.methods g.methods k d n w) [ inl s ↦ inl (ap (λ z. fact.Method z) s) | inr w ↦ inr w ];
  called = λ n w. inr (subst (λ m. Contains m.waiting.items n) (sym e) w);
})

pub takes_called : (f g : Facts) (k : ℕ) → Pops f.classes g.classes None → Pops f.made g.made None → Pops f.fields g.fields None → Pops f.methods g.methods None → Pops f.called g.called (Some k) → Takes f g (fact.Called k)
takes_called f g k a b c d e = takes_of f g (fact.Called k) (record { classes = a.same; made = b.same; fields = c.same; methods = d.same; called = e.same }) (record {
  classes = λ n w. absurd (pop_none f.classes g.classes a n w);
  made = λ n w. absurd (pop_none f.made g.made b n w);
  fields = λ n w. absurd (pop_none f.fields g.fields c n w);
  methods = λ n w. absurd (pop_none f.methods g.methods d n w);
  called = λ n w. elim (pop_some f.called g.called k e n w) [ inl s ↦ inl (ap (λ z. fact.Called z) s) | inr w ↦ inr w ];
})

pub ends_of : (f g : Facts) → Pops f.classes g.classes None → Pops f.made g.made None → Pops f.fields g.fields None → Pops f.methods g.methods None → Pops f.called g.called None → Ends f g
ends_of f g a b c d e =
    let s : SameMarks f g = record { classes = a.same; made = b.same; fields = c.same; methods = d.same; called = e.same } in
    record { known = same_has f g s; met = same_reached f g s; done = nothing_waits f g a b c d e }

-- ---- the sets of the facts

set_met : (f : Facts) (s : LiveSet) → s.classes ≡ f.classes.marks → s.made ≡ f.made.marks → s.fields ≡ f.fields.marks → s.methods ≡ f.methods.marks → (x : Fact) → reached f x ≡ true → is_met s x ≡ true
set_met f s a b c d (fact.Class n) h = ap (λ v. slice_index_or v.items n true) a ∙ h
set_met f s a b c d (fact.Made n) h = ap (λ v. slice_index_or v.items n true) b ∙ h
set_met f s a b c d (fact.Field n) h = ap (λ v. slice_index_or v.items n true) c ∙ h
set_met f s a b c d (fact.Method n) h = ap (λ v. slice_index_or v.items n true) d ∙ h
set_met f s a b c d (fact.Called n) h = refl

pub set_has : (f : Facts) (s : LiveSet) → s.classes ≡ f.classes.marks → s.made ≡ f.made.marks → s.fields ≡ f.fields.marks → s.methods ≡ f.methods.marks → (x : Fact) → is_live s x ≡ true → has f x ≡ true
set_has f s a b c d (fact.Class n) h = sym (ap (λ v. slice_index_or v.items n false) a) ∙ h
set_has f s a b c d (fact.Made n) h = sym (ap (λ v. slice_index_or v.items n false) b) ∙ h
set_has f s a b c d (fact.Field n) h = sym (ap (λ v. slice_index_or v.items n false) c) ∙ h
set_has f s a b c d (fact.Method n) h = sym (ap (λ v. slice_index_or v.items n false) d) ∙ h
set_has f s a b c d (fact.Called n) h = absurd (true≢false (sym h))

marked_so : (l : List Bool) (n : ℕ) → n < length l → slice_index_or l n true ≡ true → slice_index_or l n false ≡ true
marked_so [] n lt h = absurd (omega (arith, lt))
marked_so (b ∷ bs) zero lt h = h
marked_so (b ∷ bs) (suc n) lt h = marked_so bs n (omega (arith, lt)) h

-- what is forced in version 035 is entailed in either
entailed : (p : Program) (t : Tables) (x y : Fact) → Forces p t x y → Entails p t x y
entailed p t x y (inl c) = inl c
entailed p t (fact.Class n) y (inr b) = absurd b
entailed p t (fact.Made n) y (inr b) = inr (record { number = b.number; name = b.name; class = b.class; at = b.at; is_name = b.is_name; is_class = b.is_class; may = b.may; answers = b.answers; fact_is = b.fact_is })
entailed p t (fact.Field n) y (inr b) = absurd b
entailed p t (fact.Method n) y (inr b) = inr (record { name = b.name; caller = b.caller; callee = b.callee; called = b.called; facts = b.facts; is_name = b.is_name; is_caller = b.is_caller; calls = b.calls; is_called = b.is_called; finds = b.finds; has = b.has })
entailed p t (fact.Called n) y (inr b) = absurd b

pub closed_set : (p : Program) (o : Outside) (t : Tables) (f : Facts) (s : LiveSet) → s.classes ≡ f.classes.marks → s.made ≡ f.made.marks → s.fields ≡ f.fields.marks → s.methods ≡ f.methods.marks
    → AreTables p o t → Sized p f → IsClosed p o t f → IsClosedSet p o s
closed_set p o t f s a b c d are sized k = record {
  tables = t;
  are = are;
  begins = λ x h. met x (k.begins x h);
  entails = λ x y h force. met y ((k.goes x (known x h)).forces y force);
  answers = answers;
  finds = λ number kind class q at y called lt e l made place over f i. answers number kind class q y called lt e l made place over (found_answers p number class q at y e f i);
  goes = λ x y h force. met y ((k.goes x (known x h)).forces y (entailed p t x y force));
  called = λ old. answers;
}
  where
    met : (x : Fact) → reached f x ≡ true → is_met s x ≡ true
    met = set_met f s a b c d

    known : (x : Fact) → is_live s x ≡ true → has f x ≡ true
    known = set_has f s a b c d

    call_reached : (number : ℕ) → IsCalled p o t s number → reached f (fact.Called number) ≡ true
    call_reached number (inl kept) = k.begins (fact.Called number) kept
    call_reached number (inr by) = (k.goes by.from (known by.from by.live)).forces (fact.Called number) (inl by.calls)

    answers : (number kind class : ℕ) (q : MethodName) (y : Fact) → IsCalled p o t s number → number < length p.methods → slice_get p.methods number ≡ Some q → q.class < length p.types → is_live s (fact.Made kind) ≡ true
        → class_place p kind ≡ Some class → IsOver p t.object kind q.class → Contains (answer_facts p number class) y → is_met s y ≡ true
    answers number kind class q y called lt e l made place over i =
        let call : has f (fact.Called number) ≡ true = marked_so f.called.marks.items number (let z = sized.4 in omega (arith, lt, z)) (call_reached number called) in
        met y (k.meets number class (record {
          kind = q.class;
          called = (k.goes (fact.Called number) call).noted q e l;
          made = (k.goes (fact.Made kind) (known (fact.Made kind) made)).noted class q.class place over l;
        }) y i)
