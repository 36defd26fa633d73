-- Facts of which each that waits no longer has brought along what follows from it.
use Rattle.std.specs.Prelude.{◌≡◌, ◌⊎◌, ◌<◌, ℕ, length, Bool, true, false, List, [], ◌++◌, flat_map, Some, slice_get, slice_index_or, Contains}
use Rattle.program_model.specs.declared.program.Program.{Program}
use Rattle.program_model.specs.declared.pass.Outside.{Outside}
use Rattle.call_graph.specs.declared.facts.Fact.{Fact}
use Rattle.call_graph.specs.declared.facts.Fact.TheVariants as fact
use Rattle.call_graph.specs.declared.facts.Facts.{Facts}
use Rattle.call_graph.specs.declared.live_set.LiveSet.{LiveSet}
use Rattle.call_graph.specs.declared.tables.Tables.{Tables}
use Rattle.call_graph.specs.Lists.{row_of}
use Rattle.call_graph.specs.Marks.{Keeps}
use Rattle.call_graph.specs.Follows.{kept_class, kept_field, kept_method, class_facts, field_facts, body_facts, own_method, names_of_method, found_facts}
use Rattle.program_model.specs.declared.pools.MethodName.{MethodName}
use Rattle.program_model.specs.declared.program.MethodAt.{MethodAt}
use Rattle.program_model.specs.Lookups.{class_place}
use Rattle.class_defs.specs.Finding.{finds_at, Finds}
use Rattle.insn_set.specs.declared.ops.InvokeKind.TheVariants as call
use Rattle.call_graph.specs.declared.named.Named.TheVariants as named
use Rattle.call_graph.specs.declared.notes.Notes.{Notes}
use Rattle.call_graph.specs.Tables.{AreTables}
use Rattle.call_graph.specs.Objects.{IsOld, CalledBack, CallsBack, Noted, Meets, IsOver, NotesGrow, AreNotes, answer_facts}
use Rattle.call_graph.specs.Supers.{SuperFacts, NamesNone}

abbrev pub marks_on : Bool → Facts → Fact → Bool
marks_on past f (fact.Class n) = slice_index_or f.classes.marks.items n past
marks_on past f (fact.Made n) = slice_index_or f.made.marks.items n past
marks_on past f (fact.Field n) = slice_index_or f.fields.marks.items n past
marks_on past f (fact.Method n) = slice_index_or f.methods.marks.items n past
marks_on past f (fact.Called n) = slice_index_or f.called.marks.items n past

-- whether a fact is known, and whether it is known or past its table
abbrev pub has : Facts → Fact → Bool
has f x = marks_on false f x

abbrev pub reached : Facts → Fact → Bool
reached f x = marks_on true f x

abbrev pub Waits : Facts → Fact → Type 0
Waits f (fact.Class n) = Contains f.classes.waiting.items n
Waits f (fact.Made n) = Contains f.made.waiting.items n
Waits f (fact.Field n) = Contains f.fields.waiting.items n
Waits f (fact.Method n) = Contains f.methods.waiting.items n
Waits f (fact.Called n) = Contains f.called.waiting.items n

-- what was known is known, and what is new waits
pub record Goes (f g : Facts) : Type 0 where
  pub classes : Keeps f.classes g.classes
  pub made : Keeps f.made g.made
  pub fields : Keeps f.fields g.fields
  pub methods : Keeps f.methods g.methods
  pub called : Keeps f.called g.called

-- the same is known, and at most this fact waits no longer
pub record Takes (f g : Facts) (x : Fact) : Type 0 where
  pub known : (y : Fact) → has g y ≡ has f y
  pub met : (y : Fact) → reached g y ≡ reached f y
  pub waits : (y : Fact) → Waits f y → (y ≡ x) ⊎ Waits g y

-- nothing waits
abbrev pub IsDone : Facts → Type 0
IsDone f = (x : Fact) → Waits f x → ⊥

-- ---- what follows

-- what is kept because a class is live
abbrev pub conditional : Program → Tables → ℕ → List Fact
conditional p t kind = flat_map (kept_field p) (row_of t.fields_if kind) ++ (flat_map (kept_method p) (row_of t.methods_if kind) ++ flat_map (kept_class p) (row_of t.classes_if kind))

-- what one fact alone forces, but for super calls and the framework
abbrev pub forced : Program → Tables → Fact → List Fact
forced p t (fact.Class n) = class_facts p t.bases.items n ++ conditional p t n
forced p t (fact.Made n) = []
forced p t (fact.Field n) = field_facts p t.bases.items n
forced p t (fact.Method n) = body_facts p t.bases.items n
forced p t (fact.Called n) = []

-- what the outside keeps
abbrev pub kept_facts : Program → Outside → List Fact
kept_facts p o = flat_map (kept_class p) o.classes ++ (flat_map (kept_field p) o.fields ++ flat_map (kept_method p) o.methods)

-- the facts of a list are known, or past their tables
abbrev pub Reaches : Facts → List Fact → Type 0
Reaches f xs = (x : Fact) → Contains xs x → reached f x ≡ true

-- ---- what a fact brings along

-- what a super call in the code of a method finds
pub record SuperForces (p : Program) (number : ℕ) (y : Fact) : Type 0 where
  pub name : MethodName
  pub caller : ℕ
  pub callee : ℕ
  pub called : MethodName
  pub facts : List Fact
  pub is_name : slice_get p.methods number ≡ Some name
  pub is_caller : class_place p name.class ≡ Some caller
  pub calls : Contains (names_of_method (own_method p number)) (named.Call call.Super callee)
  pub is_called : slice_get p.methods callee ≡ Some called
  pub finds : SuperFacts p name.class caller called facts
  pub plain : NamesNone p called
  pub has : Contains facts y

abbrev pub Beside : Program → Tables → Fact → Fact → Type 0
Beside p t (fact.Class n) y = ⊥
Beside p t (fact.Made n) y = CalledBack p t.object t.shut.items n y
Beside p t (fact.Field n) y = ⊥
Beside p t (fact.Method n) y = SuperForces p n y
Beside p t (fact.Called n) y = ⊥

-- a fact forces another by itself: as the lists say, as a super call of its code finds it, or as the framework calls it
abbrev pub Forces : Program → Tables → Fact → Fact → Type 0
Forces p t x y = Contains (forced p t x) y ⊎ Beside p t x y

-- what a super call in the code of a method finds in either version, with all candidates of a program interface that it names
pub record FindsSuper (p : Program) (number : ℕ) (y : Fact) : Type 0 where
  pub name : MethodName
  pub caller : ℕ
  pub callee : ℕ
  pub called : MethodName
  pub facts : List Fact
  pub is_name : slice_get p.methods number ≡ Some name
  pub is_caller : class_place p name.class ≡ Some caller
  pub calls : Contains (names_of_method (own_method p number)) (named.Call call.Super callee)
  pub is_called : slice_get p.methods callee ≡ Some called
  pub finds : SuperFacts p name.class caller called facts
  pub has : Contains facts y

abbrev pub Alongside : Program → Tables → Fact → Fact → Type 0
Alongside p t (fact.Class n) y = ⊥
Alongside p t (fact.Made n) y = CallsBack p t.object t.shut.items n y
Alongside p t (fact.Field n) y = ⊥
Alongside p t (fact.Method n) y = FindsSuper p n y
Alongside p t (fact.Called n) y = ⊥

-- a fact entails another by itself in either version
abbrev pub Entails : Program → Tables → Fact → Fact → Type 0
Entails p t x y = Contains (forced p t x) y ⊎ Alongside p t x y

-- what follows from a fact is added, and noted
pub record Followed (p : Program) (t : Tables) (old new : Notes) (x : Fact) (out : List Fact) : Type 0 where
  pub forces : (y : Fact) → Entails p t x y → Contains out y
  pub noted : Noted p t.object new x
  pub grow : NotesGrow p old new out
  pub are : AreNotes p new

-- what a fact forces is known, and it is noted
pub record Brings (p : Program) (t : Tables) (n : Notes) (f : Facts) (x : Fact) : Type 0 where
  pub forces : (y : Fact) → Entails p t x y → reached f y ≡ true
  pub noted : Noted p t.object n x

-- what is called on objects of noted classes is known
abbrev pub MeetsAll : Program → Notes → Facts → Type 0
MeetsAll p n f = (number class : ℕ) → Meets n number class → Reaches f (answer_facts p number class)

-- what the outside keeps is known, and what follows from each known fact that waits no longer
pub record Follows (p : Program) (o : Outside) (t : Tables) (n : Notes) (f : Facts) : Type 0 where
  pub begins : Reaches f (kept_facts p o)
  pub goes : (x : Fact) → has f x ≡ true → Waits f x ⊎ Brings p t n f x
  pub meets : MeetsAll p n f

-- what the outside keeps is known, and what follows from each known fact
pub record IsClosed (p : Program) (o : Outside) (t : Tables) (f : Facts) : Type 0 where
  pub notes : Notes
  pub begins : Reaches f (kept_facts p o)
  pub goes : (x : Fact) → has f x ≡ true → Brings p t notes f x
  pub meets : MeetsAll p notes f

-- no fact is known
pub record IsBlank (f : Facts) : Type 0 where
  pub classes : (n : ℕ) → slice_index_or f.classes.marks.items n false ≡ true → ⊥
  pub made : (n : ℕ) → slice_index_or f.made.marks.items n false ≡ true → ⊥
  pub fields : (n : ℕ) → slice_index_or f.fields.marks.items n false ≡ true → ⊥
  pub methods : (n : ℕ) → slice_index_or f.methods.marks.items n false ≡ true → ⊥
  pub called : (n : ℕ) → slice_index_or f.called.marks.items n false ≡ true → ⊥

-- the same is known, and nothing waits
pub record Ends (f g : Facts) : Type 0 where
  pub known : (y : Fact) → has g y ≡ has f y
  pub met : (y : Fact) → reached g y ≡ reached f y
  pub done : IsDone f

-- ---- the sets

-- whether a fact is of a set; the calls are none of it
abbrev pub is_live : LiveSet → Fact → Bool
is_live s (fact.Class n) = slice_index_or s.classes.items n false
is_live s (fact.Made n) = slice_index_or s.made.items n false
is_live s (fact.Field n) = slice_index_or s.fields.items n false
is_live s (fact.Method n) = slice_index_or s.methods.items n false
is_live s (fact.Called n) = false

-- whether it is of a set or past the table, or a call
abbrev pub is_met : LiveSet → Fact → Bool
is_met s (fact.Class n) = slice_index_or s.classes.items n true
is_met s (fact.Made n) = slice_index_or s.made.items n true
is_met s (fact.Field n) = slice_index_or s.fields.items n true
is_met s (fact.Method n) = slice_index_or s.methods.items n true
is_met s (fact.Called n) = true

-- a live thing forces that a method number is called on objects: its code calls it, or it is a class where that is kept
pub record IsCalledBy (p : Program) (t : Tables) (s : LiveSet) (number : ℕ) : Type 0 where
  pub from : Fact
  pub live : is_live s from ≡ true
  pub calls : Contains (forced p t from) (fact.Called number)

-- a method number is called on objects: by a live thing, or because the outside keeps it
abbrev pub IsCalled : Program → Outside → Tables → LiveSet → ℕ → Type 0
IsCalled p o t s number = Contains (kept_facts p o) (fact.Called number) ⊎ IsCalledBy p t s number

-- What the outside keeps is live, and what each live thing entails by itself. What objects of made classes find for what is called
-- on types above them is live too: in version 037 all candidates of their interfaces where the superclasses have no method, so also
-- what a call finds. What holds of version 035 alone is also said by itself.
pub record IsClosedSet (p : Program) (o : Outside) (s : LiveSet) : Type 0 where
  pub tables : Tables
  pub are : AreTables p o tables
  pub begins : (x : Fact) → Contains (kept_facts p o) x → is_met s x ≡ true
  pub entails : (x y : Fact) → is_live s x ≡ true → Entails p tables x y → is_met s y ≡ true
  pub answers : (number kind class : ℕ) (q : MethodName) (y : Fact) → IsCalled p o tables s number → number < length p.methods → slice_get p.methods number ≡ Some q → q.class < length p.types → is_live s (fact.Made kind) ≡ true
      → class_place p kind ≡ Some class → IsOver p tables.object kind q.class → Contains (answer_facts p number class) y → is_met s y ≡ true
  pub finds : (number kind class : ℕ) (q : MethodName) (at : MethodAt) (y : Fact) → IsCalled p o tables s number → number < length p.methods → slice_get p.methods number ≡ Some q → q.class < length p.types → is_live s (fact.Made kind) ≡ true
      → class_place p kind ≡ Some class → IsOver p tables.object kind q.class → finds_at p class q.name q.proto ≡ Finds at → Contains (found_facts p (Some at)) y → is_met s y ≡ true
  pub goes : (x y : Fact) → is_live s x ≡ true → Forces p tables x y → is_met s y ≡ true
  pub called : IsOld p → (number kind class : ℕ) (q : MethodName) (y : Fact) → IsCalled p o tables s number → number < length p.methods → slice_get p.methods number ≡ Some q → q.class < length p.types → is_live s (fact.Made kind) ≡ true
      → class_place p kind ≡ Some class → IsOver p tables.object kind q.class → Contains (answer_facts p number class) y → is_met s y ≡ true
