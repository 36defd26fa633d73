-- What follows from a fact, fact by fact.
use Rattle.std.proofs.Common.{◌≡◌, ◌∙◌, ◌<◌, ℕ, length, inl, inr, Bool, true, false, List, [], ◌++◌, refl, sym, ap, subst, Some, None, Option}
use Rattle.std.specs.Prelude.{cond, Contains, slice_get, Decides}
use Rattle.std.proofs.lemmas.List.Elements.{Contains-append_right}
use Rattle.program_model.specs.declared.pools.MethodName.{MethodName}
use Rattle.program_model.specs.declared.program.Program.{Program}
use Rattle.program_model.specs.Lookups.{class_place}
use Rattle.class_defs.specs.Finding.{is_037}
use Rattle.call_graph.specs.declared.facts.Fact.{Fact}
use Rattle.call_graph.specs.declared.facts.Fact.TheVariants as fact
use Rattle.call_graph.specs.declared.notes.Notes.{Notes}
use Rattle.call_graph.specs.declared.tables.Tables.{Tables}
use Rattle.call_graph.specs.Follows.{class_facts, field_facts, body_facts, own_method, names_of_method}
use Rattle.call_graph.specs.Closed.{conditional, FindsSuper, Followed}
use Rattle.call_graph.specs.Objects.{AreNotes, SameNotes, NotesCall, NotesMade, all_found}
use Rattle.call_graph.specs.Stays.{Stays}
use Rattle.call_graph.specs.Supers.{SuperFacts, AddsSupers, super_found, super_037, above_call}
use Rattle.program_model.specs.ProgramRules.{is_well_formed}
use Rattle.call_graph.proofs.Owners.{kind_short}
use Rattle.call_graph.proofs.Contained.{none_in}
use Rattle.call_graph.proofs.Noting.{grow_same}

behind : (y : Fact) (before more out : List Fact) → out ≡ before ++ more → Contains more y → Contains out y
behind y before more out e c = subst (λ l. Contains l y) (sym e) (Contains-append_right before more y c)

same_notes : (n : Notes) → SameNotes n n
same_notes n = record { called = refl; made = refl }

pub followed_class : (p : Program) (t : Tables) (n : Notes) (kind : ℕ) (before out : List Fact) → AreNotes p n → out ≡ before ++ (class_facts p t.bases.items kind ++ conditional p t kind) → Followed p t n n (fact.Class kind) out
followed_class p t n kind before out are e = record {
  forces = λ y f. elim f [ inl c ↦ behind y before (class_facts p t.bases.items kind ++ conditional p t kind) out e c | inr b ↦ absurd b ];
  noted = tt;
  grow = grow_same p n n out (same_notes n);
  are = are;
}

pub followed_field : (p : Program) (t : Tables) (n : Notes) (number : ℕ) (before out : List Fact) → AreNotes p n → out ≡ before ++ field_facts p t.bases.items number → Followed p t n n (fact.Field number) out
followed_field p t n number before out are e = record {
  forces = λ y f. elim f [ inl c ↦ behind y before (field_facts p t.bases.items number) out e c | inr b ↦ absurd b ];
  noted = tt;
  grow = grow_same p n n out (same_notes n);
  are = are;
}

pub followed_method : (p : Program) (t : Tables) (old new : Notes) (number : ℕ) (before out : List Fact) → SameNotes old new → AreNotes p new → Stays (before ++ body_facts p t.bases.items number) out
    → ((y : Fact) → FindsSuper p number y → Contains out y) → Followed p t old new (fact.Method number) out
followed_method p t old new number before out same are stays supers = record {
  forces = λ y f. elim f [ inl c ↦ stays.has y (Contains-append_right before (body_facts p t.bases.items number) y c) | inr b ↦ supers y b ];
  noted = tt;
  grow = grow_same p old new out same;
  are = are;
}

pub followed_made : (p : Program) (t : Tables) (old new : Notes) (kind : ℕ) (out : List Fact) → NotesMade p t old new kind out → Followed p t old new (fact.Made kind) out
followed_made p t old new kind out m = record {
  forces = λ y f. elim f [ inl c ↦ absurd (none_in y c) | inr b ↦ m.called_back y b ];
  noted = m.noted;
  grow = m.grow;
  are = m.are;
}

pub followed_called : (p : Program) (t : Tables) (old new : Notes) (number : ℕ) (before out : List Fact) → NotesCall p old new number before out → Followed p t old new (fact.Called number) out
followed_called p t old new number before out m = record {
  forces = λ y f. elim f [ inl c ↦ absurd (none_in y c) | inr b ↦ absurd b ];
  noted = m.noted;
  grow = m.grow;
  are = m.are;
}

-- ---- the facts of a super call are one list

one_answer : {P : Type 0} (r s : Bool) → Decides r P → Decides s P → r ≡ s
one_answer true s h k = sym (k.1 (h.0 refl))
one_answer false true h k = h.1 (k.0 refl)
one_answer false false h k = refl

none_some : {X : Type 0} (x : X) → None ≡ Some x → ⊥
none_some x e = cc

lists_same : (p : Program) (kind caller : ℕ) (q : MethodName) (a b : Bool) → (is_037 p.version ≡ true → class_place p q.class ≡ None → a ≡ b) → super_found p caller q a ≡ super_found p caller q b
lists_same p kind caller q a b same = by_version (is_037 p.version) refl
  where
    by_class : (o : Option ℕ) → class_place p q.class ≡ o → (class_place p q.class ≡ None → a ≡ b) → super_037 p caller q a o ≡ super_037 p caller q b o
    by_class (Some place) e s = refl
    by_class None e s = ap (λ l. cond l [] (above_call p caller q)) (s e)

    by_version : (v : Bool) → is_037 p.version ≡ v → cond v (super_037 p caller q a (class_place p q.class)) (above_call p caller q) ≡ cond v (super_037 p caller q b (class_place p q.class)) (above_call p caller q)
    by_version true e = by_class (class_place p q.class) refl (same e)
    by_version false e = refl

pub facts_same : (p : Program) (kind caller : ℕ) (q : MethodName) (xs ys : List Fact) → SuperFacts p kind caller q xs → SuperFacts p kind caller q ys → xs ≡ ys
facts_same p kind caller q xs ys a b =
    a.is ∙ ap (all_found p) (lists_same p kind caller q a.lists b.lists (λ new none. one_answer a.lists b.lists (a.decided new none) (b.decided new none))) ∙ sym b.is

some_same : {X : Type 0} (x y : X) → Some x ≡ Some y → x ≡ y
some_same x y e = cc

-- what the super calls among the names of a method force
pub supers_forced : (p : Program) (number caller : ℕ) (name : MethodName) (out : List Fact) → slice_get p.methods number ≡ Some name → class_place p name.class ≡ Some caller → AddsSupers p name.class caller (names_of_method (own_method p number)) out
    → (y : Fact) → FindsSuper p number y → Contains out y
supers_forced p number caller name out e place adds y f =
    let n : f.name ≡ name = some_same f.name name (sym f.is_name ∙ e) in
    let c : f.caller ≡ caller = some_same f.caller caller (sym f.is_caller ∙ ap (λ m. class_place p m.class) n ∙ place) in
    let h = adds f.callee f.called f.calls f.is_called in
    let mine : SuperFacts p name.class caller f.called f.facts = subst (λ m. SuperFacts p m.class caller f.called f.facts) n (subst (λ k. SuperFacts p f.name.class k f.called f.facts) c f.finds) in
    h.has y (subst (λ l. Contains l y) (facts_same p name.class caller f.called f.facts h.facts mine h.finds) f.has)

pub short_class : (p : Program) → is_well_formed p ≡ true → (kind place : ℕ) → class_place p kind ≡ Some place → kind < length p.types
short_class p fits kind place e = kind_short p fits kind place e
