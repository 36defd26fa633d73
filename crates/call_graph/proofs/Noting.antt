-- How notes grow.
use Rattle.std.proofs.Common.{◌≡◌, ℕ, ◌+◌, ◌<◌, ◌≤◌, ◌⊎◌, inl, inr, List, [], ◌∷◌, ◌++◌, length, take, get_or, refl, sym, ap, subst, ◌∙◌, arith, Some, vec_len}
use Rattle.std.specs.Prelude.{cond, ◌&&◌, nat_eq, nat_lt, Contains, slice_get}
use Rattle.std.specs.List.{flat_map}
use Rattle.std.proofs.lemmas.List.{take_more, take_all}
use Rattle.std.proofs.lemmas.List.Elements.{Contains-append_right, Contains-append_cases}
use Rattle.program_model.specs.declared.pools.MethodName.{MethodName}
use Rattle.program_model.specs.declared.program.Program.{Program}
use Rattle.call_graph.specs.declared.facts.Fact.{Fact}
use Rattle.call_graph.specs.declared.notes.Notes.{Notes}
use Rattle.call_graph.specs.Lists.{row_of, size_of}
use Rattle.call_graph.specs.Stays.{Stays}
use Rattle.call_graph.specs.Above.{IsClean}
use Rattle.call_graph.specs.Objects.{answer_facts, AllIn, NotesGrow, AreNotes, IsReady, SameNotes, NotesCall, NotesUnder}
use Rattle.call_graph.proofs.Contained.{none_in, only_in, flat_has, row_cases, row_keeps, row_has}

-- ---- one after the other

pub grow_same : (p : Program) (old new : Notes) (out : List Fact) → SameNotes old new → NotesGrow p old new out
grow_same p old new out s = record {
  called = λ k n c. subst (λ l. Contains (row_of l k) n) (sym s.called) c;
  made = λ k n c. subst (λ l. Contains (row_of l k) n) (sym s.made) c;
  pairs = λ n k m. inl (record { kind = m.kind; called = subst (λ l. Contains (row_of l m.kind) n) s.called m.called; made = subst (λ l. Contains (row_of l m.kind) k) s.made m.made });
}

pub grow_then : (p : Program) (a b c : Notes) (x y : List Fact) → NotesGrow p a b x → AllIn x y → NotesGrow p b c y → NotesGrow p a c y
grow_then p a b c x y f stay g = record {
  called = λ k n h. g.called k n (f.called k n h);
  made = λ k n h. g.made k n (f.made k n h);
  pairs = λ n k m. elim (g.pairs n k m) [
    | inl m' ↦ elim (f.pairs n k m') [ inl e ↦ inl e | inr all ↦ inr (λ z h. stay z (all z h)) ]
    | inr all ↦ inr all
  ];
}

pub same_then : (a b c : Notes) → SameNotes a b → SameNotes b c → SameNotes a c
same_then a b c f g = record { called = g.called ∙ f.called; made = g.made ∙ f.made }

-- ---- a call is noted

-- the rows of a table to which a number was added for one of its numbers
pub record IsAdded (old new : ℕ → List ℕ) (at size item : ℕ) : Type 0 where
  pub rows : (k : ℕ) → new k ≡ cond (nat_eq k at && nat_lt k size) (old k ++ item ∷ []) (old k)

pub call_grows : (p : Program) (old new : Notes) (at number : ℕ) (out : List Fact)
    → IsAdded (row_of old.called_on) (row_of new.called_on) at (size_of old.called_on) number → new.made_under ≡ old.made_under
    → AllIn (flat_map (answer_facts p number) (row_of new.made_under at)) out → NotesGrow p old new out
call_grows p old new at number out added same all = record {
  called = λ k n c. row_keeps (nat_eq k at && nat_lt k (size_of old.called_on)) number n (row_of old.called_on k) (row_of new.called_on k) (added.rows k) c;
  made = λ k n c. subst (λ l. Contains (row_of l k) n) (sym same) c;
  pairs = λ n c m. elim (row_cases m.kind at (size_of old.called_on) number n (row_of old.called_on m.kind) (row_of new.called_on m.kind) (added.rows m.kind) m.called) [
    | inl e ↦ inl (record { kind = m.kind; called = e; made = subst (λ l. Contains (row_of l m.kind) c) same m.made })
    | inr e ↦ inr (λ y h. all y (flat_has (answer_facts p number) (row_of new.made_under at) c y (subst (λ k. Contains (row_of new.made_under k) c) e.0 m.made) (subst (λ z. Contains (answer_facts p z c) y) (sym e.1) h)))
  ];
}

pub under_grows : (p : Program) (old new : Notes) (at class : ℕ) (out : List Fact)
    → IsAdded (row_of old.made_under) (row_of new.made_under) at (size_of old.made_under) class → new.called_on ≡ old.called_on
    → AllIn (flat_map (λ n. answer_facts p n class) (row_of new.called_on at)) out → NotesGrow p old new out
under_grows p old new at class out added same all = record {
  called = λ k n c. subst (λ l. Contains (row_of l k) n) (sym same) c;
  made = λ k n c. row_keeps (nat_eq k at && nat_lt k (size_of old.made_under)) class n (row_of old.made_under k) (row_of new.made_under k) (added.rows k) c;
  pairs = λ n c m. elim (row_cases m.kind at (size_of old.made_under) class c (row_of old.made_under m.kind) (row_of new.made_under m.kind) (added.rows m.kind) m.made) [
    | inl e ↦ inl (record { kind = m.kind; called = subst (λ l. Contains (row_of l m.kind) n) same m.called; made = e })
    | inr e ↦ inr (λ y h. all y (flat_has (λ k. answer_facts p k class) (row_of new.called_on at) n y (subst (λ k. Contains (row_of new.called_on k) n) e.0 m.called) (subst (λ z. Contains (answer_facts p n z) y) (sym e.1) h)))
  ];
}

-- what is added behind a list is in the longer one
pub added_in : (before more out : List Fact) → out ≡ before ++ more → AllIn more out
added_in before more out e y c = subst (λ l. Contains l y) (sym e) (Contains-append_right before more y c)

pub called_noted : (p : Program) (old new : Notes) (at number : ℕ) (q : MethodName)
    → IsAdded (row_of old.called_on) (row_of new.called_on) at (size_of old.called_on) number → size_of old.called_on ≡ length p.types → q.class ≡ at → q.class < length p.types → Contains (row_of new.called_on q.class) number
called_noted p old new at number q added long same lt =
    subst (λ k. Contains (row_of new.called_on k) number) (sym same) (row_has at (size_of old.called_on) number (row_of old.called_on at) (row_of new.called_on at) (added.rows at) (omega (arith, lt, same, long)))

pub under_noted : (p : Program) (old new : Notes) (at class u : ℕ)
    → IsAdded (row_of old.made_under) (row_of new.made_under) at (size_of old.made_under) class → size_of old.made_under ≡ length p.types → Contains (at ∷ []) u → u < length p.types → Contains (row_of new.made_under u) class
under_noted p old new at class u added long c lt = let same : at ≡ u = only_in at u c in
    subst (λ k. Contains (row_of new.made_under k) class) same (row_has at (size_of old.made_under) class (row_of old.made_under at) (row_of new.made_under at) (added.rows at) (omega (arith, lt, same, long)))

pub call_one : (p : Program) (old new : Notes) (at number : ℕ) (before out : List Fact) (row : List ℕ) → IsAdded (row_of old.called_on) (row_of new.called_on) at (size_of old.called_on) number → size_of new.called_on ≡ size_of old.called_on
    → new.made_under ≡ old.made_under → new.kinds ≡ old.kinds → IsReady p new.classes → Stays before out → row ≡ row_of new.made_under at → out ≡ before ++ flat_map (answer_facts p number) row → AreNotes p old
    → ((q : MethodName) → slice_get p.methods number ≡ Some q → q.class ≡ at) → NotesCall p old new number before out
call_one p old new at number before out row added size made kinds ready stays is adds are named = record {
  stays = stays;
  grow = call_grows p old new at number out added made (λ y h. added_in before (flat_map (answer_facts p number) row) out adds y (subst (λ l. Contains (flat_map (answer_facts p number) l) y) (sym is) h));
  are = record {
    called_size = size ∙ are.called_size;
    made_size = ap size_of made ∙ are.made_size;
    kinds_size = ap (λ m. vec_len m.marks) kinds ∙ are.kinds_size;
    kinds = subst IsClean (sym kinds) are.kinds;
    walk = ready;
  };
  noted = λ q e lt. called_noted p old new at number q added are.called_size (named q e) lt;
}

pub under_one : (p : Program) (old new : Notes) (at class : ℕ) (before out : List Fact) (row : List ℕ) → IsAdded (row_of old.made_under) (row_of new.made_under) at (size_of old.made_under) class → size_of new.made_under ≡ size_of old.made_under
    → new.called_on ≡ old.called_on → new.kinds ≡ old.kinds → IsReady p new.classes → Stays before out → row ≡ row_of new.called_on at → out ≡ before ++ flat_map (λ n. answer_facts p n class) row → AreNotes p old → NotesUnder p old new class (at ∷ []) before out
under_one p old new at class before out row added size called kinds ready stays is adds are = record {
  stays = stays;
  grow = under_grows p old new at class out added called (λ y h. added_in before (flat_map (λ n. answer_facts p n class) row) out adds y (subst (λ l. Contains (flat_map (λ n. answer_facts p n class) l) y) (sym is) h));
  are = record {
    called_size = ap size_of called ∙ are.called_size;
    made_size = size ∙ are.made_size;
    kinds_size = ap (λ m. vec_len m.marks) kinds ∙ are.kinds_size;
    kinds = subst IsClean (sym kinds) are.kinds;
    walk = ready;
  };
  noted = λ u i lt. under_noted p old new at class u added are.made_size i lt;
}

-- notes whose walks alone were used
pub walked_notes : (p : Program) (old new : Notes) → new.called_on ≡ old.called_on → new.made_under ≡ old.made_under → vec_len new.kinds.marks ≡ vec_len old.kinds.marks → IsClean new.kinds → new.classes ≡ old.classes → AreNotes p old → AreNotes p new
walked_notes p old new called made long clean classes are = record {
  called_size = ap size_of called ∙ are.called_size;
  made_size = ap size_of made ∙ are.made_size;
  kinds_size = long ∙ are.kinds_size;
  kinds = clean;
  walk = subst (IsReady p) (sym classes) are.walk;
}

-- ---- one more type under which a class is noted

pub under_begins : (p : Program) (n : Notes) (class : ℕ) (kinds : List ℕ) (out : List Fact) → AreNotes p n → NotesUnder p n n class (take 0 kinds) out out
under_begins p n class kinds out are = record {
  stays = record { has = λ y c. c };
  grow = grow_same p n n out (record { called = refl; made = refl });
  are = are;
  noted = λ u c lt. absurd (none_in u c);
}

pub under_more : (p : Program) (a b c : Notes) (class : ℕ) (kinds : List ℕ) (i d : ℕ) (x y z : List Fact) → NotesUnder p a b class (take i kinds) x y → i < length kinds → NotesUnder p b c class (get_or kinds i d ∷ []) y z → NotesUnder p a c class (take (i + 1) kinds) x z
under_more p a b c class kinds i d x y z f lt g = record {
  stays = record { has = λ w h. g.stays.has w (f.stays.has w h) };
  grow = grow_then p a b c y z f.grow g.stays.has g.grow;
  are = g.are;
  noted = λ u h l. elim (cases u (subst (λ ks. Contains ks u) (take_more kinds i d lt) h)) [ inl e ↦ g.grow.made u class (f.noted u e l) | inr e ↦ g.noted u e l ];
}
  where
    cases : (u : ℕ) → Contains (take i kinds ++ get_or kinds i d ∷ []) u → Contains (take i kinds) u ⊎ Contains (get_or kinds i d ∷ []) u
    cases u h = Contains-append_cases (take i kinds) (get_or kinds i d ∷ []) u h

pub under_all : (p : Program) (a b : Notes) (class : ℕ) (kinds : List ℕ) (i : ℕ) (x y : List Fact) → NotesUnder p a b class (take i kinds) x y → length kinds ≤ i → NotesUnder p a b class kinds x y
under_all p a b class kinds i x y f le = subst (λ ks. NotesUnder p a b class ks x y) (take_all i kinds le) f
