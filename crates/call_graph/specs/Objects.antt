-- What is called on objects, by number (this project's profile: ProGuard manual, "Keep Options").
use Rattle.std.specs.Prelude.{◌≡◌, ◌<◌, ◌⊎◌, ℕ, Bool, true, false, not, ◌&&◌, List, [], ◌∷◌, flat_map, length, Option, Some, None, cond, slice_get, slice_index_or, Contains, vec_len}
use Rattle.program_model.specs.declared.pools.MethodName.{MethodName}
use Rattle.program_model.specs.declared.program.Method.{Method}
use Rattle.program_model.specs.declared.program.MethodAt.{MethodAt}
use Rattle.program_model.specs.declared.program.Program.{Program}
use Rattle.program_model.specs.Lookups.{class_place, method_at}
use Rattle.class_defs.specs.Places.{chain_of, interface_places}
use Rattle.class_defs.specs.Members.{is_common, own_virtual}
use Rattle.class_defs.specs.Finding.{candidates, finds_virtual, is_037}
use Rattle.program_model.specs.MemberRules.{is_direct}
use Rattle.program_model.specs.declared.program.Class.{Class}
use Rattle.std.specs.Option.{option_or}
use Rattle.hierarchy.specs.declared.build.Hierarchy.{Hierarchy}
use Rattle.hierarchy.specs.Membership.{key_at}
use Rattle.hierarchy.specs.Naming.{IsKey}
use Rattle.hierarchy.specs.Walking.{IsFair}
use Rattle.hierarchy.specs.declared.walk.Walk.{Walk}
use Rattle.call_graph.specs.declared.facts.Fact.{Fact}
use Rattle.call_graph.specs.declared.facts.Fact.TheVariants as fact
use Rattle.call_graph.specs.declared.notes.Notes.{Notes}
use Rattle.call_graph.specs.declared.tables.Tables.{Tables}
use Rattle.call_graph.specs.Stays.{Stays}
use Rattle.call_graph.specs.Lists.{row_of, size_of}
use Rattle.call_graph.specs.Follows.{found_facts}
use Rattle.call_graph.specs.Above.{Climbs, IsClean, is_outer}

-- the program is of version 035, in which no interface gives candidates
abbrev pub IsOld : Program → Type 0
IsOld p = is_037 p.version ≡ false

-- the facts of one list are of another
abbrev pub AllIn : List Fact → List Fact → Type 0
AllIn xs ys = (y : Fact) → Contains xs y → Contains ys y

-- the methods at some places
abbrev pub all_found : Program → List MethodAt → List Fact
all_found p places = flat_map (λ at. found_facts p (Some at)) places

-- ---- what an object of a class finds

-- the candidates of a class: those of its interfaces and of its superclasses' interfaces
abbrev pub class_candidates : Program → ℕ → ℕ → ℕ → List MethodAt
class_candidates p c name proto = candidates p (flat_map (interface_places p) (chain_of p (Some c))) name proto

abbrev pub answers_or : Option MethodAt → List MethodAt → List MethodAt
answers_or None cs = cs
answers_or (Some at) cs = at ∷ []

-- the method that an object of a class finds for a name and a proto, or all its candidates where it finds none along superclasses
abbrev pub answers_to : Program → ℕ → ℕ → ℕ → List MethodAt
answers_to p c name proto = answers_or (finds_virtual p name proto c) (class_candidates p c name proto)

abbrev pub answers_by : Program → ℕ → Option MethodName → List Fact
answers_by p c None = []
answers_by p c (Some q) = all_found p (answers_to p c q.name q.proto)

-- the same for a method number
abbrev pub answer_facts : Program → ℕ → ℕ → List Fact
answer_facts p number c = answers_by p c (slice_get p.methods number)

-- ---- what the framework calls

-- a method, unless it is shut
abbrev pub open_of : List Bool → Option Method → List Fact
open_of shut None = []
open_of shut (Some m) = cond (slice_index_or shut m.name false) [] (fact.Method m.name ∷ [])

abbrev pub open_facts : Program → List Bool → Option MethodAt → List Fact
open_facts p shut None = []
open_facts p shut (Some at) = open_of shut (method_at p at)

-- the table has the keys of the methods that each object has
abbrev pub HasCommon : Program → Hierarchy → List ℕ → Type 0
HasCommon p h keys = (number : ℕ) (q : MethodName) → slice_get p.methods number ≡ Some q → is_common p q.name q.proto ≡ true → Contains keys (key_at h.named.method_keys.keys.items number)

-- what a class finds for the methods of a key is listed, unless it is shut
abbrev pub FindsOpen : Program → Hierarchy → List Bool → ℕ → ℕ → List Fact → Type 0
FindsOpen p h shut c key out = (name proto : ℕ) → IsKey p h key name proto → AllIn (open_facts p shut (finds_virtual p name proto c)) out

-- what the framework may call by a method of a class above a class: what the class finds, or that method, which is a candidate
abbrev pub inherited : Program → ℕ → ℕ → ℕ → ℕ → Option MethodAt
inherited p c above name proto = option_or (finds_virtual p name proto c) (cond (is_037 p.version && not (is_common p name proto)) (own_virtual p name proto above) None)

-- the virtual methods of some methods have brought along what the framework may call by them
abbrev pub Inherits : Program → List Bool → ℕ → ℕ → List Method → List Fact → Type 0
Inherits p shut c above ms out = (m : Method) (q : MethodName) → Contains ms m → slice_get p.methods m.name ≡ Some q → is_direct p m ≡ false → AllIn (open_facts p shut (inherited p c above q.name q.proto)) out

-- the same of the class of a type
abbrev pub InheritsOf : Program → List Bool → ℕ → ℕ → List Fact → Type 0
InheritsOf p shut c kind out = (above : ℕ) (k : Class) → class_place p kind ≡ Some above → slice_get p.classes above ≡ Some k → Inherits p shut c above k.methods out

-- a type of the framework other than Object stands above a type
pub record IsOutward (p : Program) (object kind : ℕ) : Type 0 where
  pub top : ℕ
  pub climbs : Climbs p kind top
  pub short : top < length p.types
  pub outer : is_outer p object top ≡ true

-- the framework may call a name and proto on an object of a class of this type: the class has a framework ancestor other than
-- Object, or every object has the method
abbrev pub MayCall : Program → ℕ → ℕ → MethodName → Type 0
MayCall p object kind q = IsOutward p object kind ⊎ (is_common p q.name q.proto ≡ true)

-- a method, not shut, that the framework may call on an object of a class of this type, in version 035
pub record CalledBack (p : Program) (object : ℕ) (shut : List Bool) (kind : ℕ) (y : Fact) : Type 0 where
  pub number : ℕ
  pub name : MethodName
  pub class : ℕ
  pub at : MethodAt
  pub is_name : slice_get p.methods number ≡ Some name
  pub is_class : class_place p kind ≡ Some class
  pub old : IsOld p
  pub may : MayCall p object kind name
  pub answers : Contains (answers_to p class name.name name.proto) at
  pub fact_is : Contains (open_facts p shut (Some at)) y

-- the same in both versions, with all candidates of interfaces where the class finds no method along its superclasses
pub record CallsBack (p : Program) (object : ℕ) (shut : List Bool) (kind : ℕ) (y : Fact) : Type 0 where
  pub number : ℕ
  pub name : MethodName
  pub class : ℕ
  pub at : MethodAt
  pub is_name : slice_get p.methods number ≡ Some name
  pub is_class : class_place p kind ≡ Some class
  pub may : MayCall p object kind name
  pub answers : Contains (answers_to p class name.name name.proto) at
  pub fact_is : Contains (open_facts p shut (Some at)) y

-- ---- notes

-- a walk over the classes of a program may begin anew
pub record IsReady (p : Program) (w : Walk) : Type 0 where
  pub fair : IsFair w
  pub long : length w.seen.items ≡ length p.classes

-- a call of a method number that is noted on a type, and a class that is noted under it
pub record Meets (n : Notes) (number class : ℕ) : Type 0 where
  pub kind : ℕ
  pub called : Contains (row_of n.called_on kind) number
  pub made : Contains (row_of n.made_under kind) class

-- what was noted stays so; where a new note meets another one, what the object finds is listed
pub record NotesGrow (p : Program) (old new : Notes) (out : List Fact) : Type 0 where
  pub called : (kind number : ℕ) → Contains (row_of old.called_on kind) number → Contains (row_of new.called_on kind) number
  pub made : (kind class : ℕ) → Contains (row_of old.made_under kind) class → Contains (row_of new.made_under kind) class
  pub pairs : (number class : ℕ) → Meets new number class → Meets old number class ⊎ AllIn (answer_facts p number class) out

-- the tables of notes are as long as that of the types, and their walks may begin
pub record AreNotes (p : Program) (n : Notes) : Type 0 where
  pub called_size : size_of n.called_on ≡ length p.types
  pub made_size : size_of n.made_under ≡ length p.types
  pub kinds_size : vec_len n.kinds.marks ≡ length p.types
  pub kinds : IsClean n.kinds
  pub walk : IsReady p n.classes

-- a type stands above another, or is Object
abbrev pub IsOver : Program → ℕ → ℕ → ℕ → Type 0
IsOver p object kind u = Climbs p kind u ⊎ (u ≡ object)

-- a call is noted on the type that it names, a made class under all types above it
abbrev pub Noted : Program → ℕ → Notes → Fact → Type 0
Noted p object n (fact.Called number) = (q : MethodName) → slice_get p.methods number ≡ Some q → q.class < length p.types → Contains (row_of n.called_on q.class) number
Noted p object n (fact.Made kind) = (class u : ℕ) → class_place p kind ≡ Some class → IsOver p object kind u → u < length p.types → Contains (row_of n.made_under u) class
Noted p object n x = Unit {0}

-- the same is noted
pub record SameNotes (old new : Notes) : Type 0 where
  pub called : new.called_on ≡ old.called_on
  pub made : new.made_under ≡ old.made_under

-- a call is noted, and what it finds on noted classes is added
pub record NotesCall (p : Program) (old new : Notes) (number : ℕ) (before out : List Fact) : Type 0 where
  pub stays : Stays before out
  pub grow : NotesGrow p old new out
  pub are : AreNotes p new
  pub noted : (q : MethodName) → slice_get p.methods number ≡ Some q → q.class < length p.types → Contains (row_of new.called_on q.class) number

-- a class is noted under some types, and what its objects find for the calls that are noted on these is added
pub record NotesUnder (p : Program) (old new : Notes) (class : ℕ) (kinds : List ℕ) (before out : List Fact) : Type 0 where
  pub stays : Stays before out
  pub grow : NotesGrow p old new out
  pub are : AreNotes p new
  pub noted : (u : ℕ) → Contains kinds u → u < length p.types → Contains (row_of new.made_under u) class

-- a made class of this type is noted, and what it brings along is added
pub record NotesMade (p : Program) (t : Tables) (old new : Notes) (kind : ℕ) (out : List Fact) : Type 0 where
  pub grow : NotesGrow p old new out
  pub are : AreNotes p new
  pub noted : Noted p t.object new (fact.Made kind)
  pub called_back : (y : Fact) → CallsBack p t.object t.shut.items kind y → Contains out y

-- nothing is noted
pub record NothingNoted (n : Notes) : Type 0 where
  pub called : (kind : ℕ) → row_of n.called_on kind ≡ []
  pub made : (kind : ℕ) → row_of n.made_under kind ≡ []
