-- What the checks of lists and of tables show.
use Rattle.std.specs.Prelude.{◌≡◌, ℕ, ◌+◌, ◌<◌, ◌⊎◌, Bool, true, false, List, [], Option, Some, None, is_some, slice_get, slice_index_or}
use Rattle.insn_set.specs.declared.form.Insn.{Insn}
use Rattle.program_model.specs.declared.body.Body.{Body}
use Rattle.program_model.specs.declared.body.Handler.{Handler}
use Rattle.program_model.specs.declared.program.Field.{Field}
use Rattle.program_model.specs.declared.program.Method.{Method}
use Rattle.program_model.specs.declared.program.MethodAt.{MethodAt}
use Rattle.program_model.specs.declared.program.Class.{Class}
use Rattle.program_model.specs.Lookups.{method_at}
use Rattle.class_defs.specs.Finding.{is_037}
use Rattle.class_defs.specs.Members.{is_interface}
use Rattle.class_defs.specs.Places.{super_place, interface_places}
use Rattle.class_defs.specs.Starts.{initialiser_place}
use Rattle.flow_cfg.specs.Walks.{thrown_to}
use Rattle.domains.specs.Values.{Parts, any_value}
use Rattle.dom_frame.specs.declared.frames.Frame.{Frame}
use Rattle.dom_frame.specs.Registers.{Registers, value_at}
use Rattle.dom_frame.specs.Steps.{switched}
use Rattle.facts.specs.declared.facts.Facts.{Facts}
use Rattle.call_targets.specs.declared.table.Link.{Link}
use Rattle.closed_facts.specs.Tables.{IsBelow, AreBelow, parameter_at, result_at, field_at}
use Rattle.closed_facts.specs.Edges.{edges}
use Rattle.closed_facts.specs.Entries.{BeginsAt, has_default}
use Rattle.closed_facts.specs.Fields.{begun_parts}
use Rattle.facts_check.specs.declared.known.Known.{Known}
use Rattle.facts_check.specs.declared.starts.Start.{Start}
use Rattle.facts_check.specs.declared.methods.Table.{Table}
use Rattle.facts_check.specs.Known.{is_marked, is_made, pool_at, answer_at}
use Rattle.facts_check.specs.Landing.{Lands, LandsIf, EachLands, EachGoes}
use Rattle.facts_check.specs.Placed.{are_needed, HoldsPuts, HoldsReturn, HoldsCalls, HoldsTaken, IsPlaced}
use Rattle.facts_check.specs.Bodies.{registers_of, AreFrames}

-- ---- lists

abbrev pub ArePooled : Registers → List ℕ → Registers → Type 0
ArePooled pool args x = (i r : ℕ) → slice_get args i ≡ Some r → IsBelow (value_at x r) (value_at pool i)

abbrev pub HandlersLand : List Start → Registers → List Handler → Type 0
HandlersLand starts x handlers = (i : ℕ) (h : Handler) → slice_get handlers i ≡ Some h → Lands (slice_get starts h.position) x

abbrev pub CasesLand : List Start → Insn → List ℕ → Registers → Type 0
CasesLand starts insn targets x = (i target : ℕ) → slice_get targets i ≡ Some target → LandsIf (slice_get starts target) (switched i insn x)

abbrev pub ComesBelow : Option Registers → Registers → Type 0
ComesBelow None y = Unit {0}
ComesBelow (Some x) y = AreBelow x y

abbrev pub LeavesFree : ℕ → Registers → Type 0
LeavesFree free x = (r : ℕ) → r < free → IsBelow any_value (value_at x r)

abbrev pub BeginsWhere : Facts → ℕ → Body → Option Registers → Type 0
BeginsWhere t method b None = Unit {0}
BeginsWhere t method b (Some x) = BeginsAt t method b x

abbrev pub AreAny : List Parts → Type 0
AreAny values = (i : ℕ) (v : Parts) → slice_get values i ≡ Some v → IsBelow any_value v

-- a method comes before a place among the classes
abbrev pub IsBefore : ℕ → ℕ → MethodAt → Type 0
IsBefore class place at = at.class < class ⊎ ((at.class ≡ class) × (at.place < place))

-- the frames of a method whose number has not been seen are put into a table, and all others stay
pub record IsPut (old new : Table) (method : ℕ) (frames : List (Option Frame)) : Type 0 where
  pub fresh : is_marked old.seen.items method ≡ false
  pub own : slice_index_or new.frames.items method [] ≡ frames
  pub seen : is_marked new.seen.items method ≡ true
  pub others : (n : ℕ) → (n ≡ method → ⊥) → slice_index_or new.frames.items n [] ≡ slice_index_or old.frames.items n []
  pub kept : (n : ℕ) → (n ≡ method → ⊥) → is_marked new.seen.items n ≡ is_marked old.seen.items n

module _ (k : Known) where
  abbrev pub ArePassed : ℕ → List ℕ → Registers → Type 0
  ArePassed method args x = (i r : ℕ) → slice_get args i ≡ Some r → IsBelow (value_at x r) (parameter_at k.facts.now method i)

  abbrev pub TakesParameters : ℕ → ℕ → ℕ → Registers → Type 0
  TakesParameters method free ins x = (i : ℕ) → i < ins → IsBelow (parameter_at k.facts.now method i) (value_at x (free + i))

  abbrev pub TakesAny : ℕ → Type 0
  TakesAny method = (i : ℕ) → IsBelow any_value (parameter_at k.facts.now method i)

  -- ---- positions

  pub record IsHanded (class : ℕ) (starts : List Start) (n : ℕ) (before : Option Insn) (i : Insn) (x : Registers) (next : Option Registers) : Type 0 where
    pub goes : EachGoes starts n next (edges k.program.now k.facts.now n i x)
    pub taken : HoldsTaken k class before i x next

  pub record DoesKnown (class method : ℕ) (b : Body) (starts : List Start) (n : ℕ) (i : Insn) (x : Registers) : Type 0 where
    pub needed : are_needed k i ≡ true
    pub puts : HoldsPuts k i x
    pub returns : HoldsReturn k method i x
    pub calls : HoldsCalls k class i x
    pub thrown : EachLands starts x (thrown_to b.regions n i)

  abbrev pub PlacedIf : ℕ → ℕ → Body → List Start → ℕ → Option Insn → Insn → Option Registers → Option Registers → Type 0
  PlacedIf class method b starts n before i None next = Unit {0}
  PlacedIf class method b starts n before i (Some x) next = IsPlaced k class method b starts n before i x next

  -- ---- fields

  abbrev pub IsHeld : Field → Type 0
  IsHeld f = IsBelow (begun_parts k.program.now f) (field_at k.facts.now f.name)

  abbrev pub AreHeld : List Field → Type 0
  AreHeld fields = (i : ℕ) (f : Field) → slice_get fields i ≡ Some f → IsHeld f

  pub record AreAllHeld : Type 0 where
    pub firsts : (c : ℕ) (class : Class) → slice_get k.program.now.classes c ≡ Some class → AreHeld class.fields
    pub opened : (i n : ℕ) → slice_get k.outside.now.fields i ≡ Some n → IsBelow any_value (field_at k.facts.now n)

  -- ---- methods

  -- the frames of a method are in a table, which has seen its number
  pub record IsIn (t : Table) (class method : ℕ) (b : Body) : Type 0 where
    pub frames : AreFrames k class method b (slice_index_or t.frames.items method [])
    pub seen : is_marked t.seen.items method ≡ true

  pub record IsAdded (class method : ℕ) (b : Body) (old new : Table) : Type 0 where
    pub frames : List (Option Frame)
    pub are : AreFrames k class method b frames
    pub put : IsPut old new method frames

  abbrev pub Adds : ℕ → ℕ → Option Body → Table → Table → Type 0
  Adds class method None old new = new ≡ old
  Adds class method (Some b) old new = IsAdded class method b old new

  pub record IsFilledTo (t : Table) (class place : ℕ) : Type 0 where
    pub has : (at : MethodAt) (m : Method) (b : Body) → IsBefore class place at → method_at k.program.now at ≡ Some m → m.body ≡ Some b → IsIn t at.class m.name b

  pub record AreFilled (frames : List (List (Option Frame))) : Type 0 where
    pub has : (at : MethodAt) (m : Method) (b : Body) → method_at k.program.now at ≡ Some m → m.body ≡ Some b → AreFrames k at.class m.name b (slice_index_or frames m.name [])

  -- ---- entries

  abbrev pub IsReached : List (List (Option Frame)) → ℕ → Type 0
  IsReached frames method = is_some (registers_of (slice_index_or frames method []) 0) ≡ true

  pub record IsOpened (method : ℕ) : Type 0 where
    pub marked : is_marked k.marks.now.entered.items method ≡ true
    pub takes : TakesAny method

  -- what has no code takes and gives anything
  pub record IsOpenEnded (method : ℕ) : Type 0 where
    pub takes : TakesAny method
    pub gives : IsBelow any_value (result_at k.facts.now method)

  abbrev pub AreBare : List Method → Type 0
  AreBare methods = (i : ℕ) (m : Method) → slice_get methods i ≡ Some m → m.body ≡ None → IsOpenEnded m.name

  pub record Entries (frames : List (List (Option Frame))) : Type 0 where
    pub entered : (method : ℕ) → is_marked k.marks.now.entered.items method ≡ true → IsReached frames method
    pub opened : (method : ℕ) → slice_get k.targets.now.entered.items method ≡ Some true → IsOpened method
    pub bare : (c : ℕ) (class : Class) → slice_get k.program.now.classes c ≡ Some class → AreBare class.methods

  -- ---- calls on objects

  pub record IsLinkHeld (link : Link) : Type 0 where
    pub entered : is_made k link.call ≡ true → is_marked k.marks.now.entered.items link.method ≡ true
    pub passed : is_made k link.call ≡ true → (i : ℕ) (v : Parts) → slice_get (slice_index_or k.facts.now.parameters.items link.method []) i ≡ Some v → IsBelow (value_at (pool_at k link.call) i) v
    pub given : IsBelow (result_at k.facts.now link.method) (answer_at k link.call)

  pub record Links : Type 0 where
    pub linked : (i : ℕ) (link : Link) → slice_get k.targets.now.links.items i ≡ Some link → IsLinkHeld link
    pub left : (call : ℕ) → slice_get k.targets.now.leaves.items call ≡ Some true → IsBelow any_value (answer_at k call)

  -- ---- classes

  abbrev pub is_needed : ℕ → Bool
  is_needed c = is_marked k.marks.now.needed.items c

  abbrev pub is_listed : ℕ → Bool
  is_listed c = is_marked k.marks.now.listed.items c

  abbrev pub AreListed : List ℕ → Type 0
  AreListed cs = (i u : ℕ) → slice_get cs i ≡ Some u → is_listed u ≡ true

  pub record IsNeededHeld (c : ℕ) (class : Class) : Type 0 where
    pub above : is_needed c ≡ true → is_interface (Some class) ≡ false → (u : ℕ) → super_place k.program.now c ≡ Some u → is_needed u ≡ true
    pub lists : is_needed c ≡ true → is_interface (Some class) ≡ false → is_037 k.program.now.version ≡ true → AreListed (interface_places k.program.now c)
    pub initialiser : is_needed c ≡ true → (i : ℕ) (m : Method) → initialiser_place k.program.now c ≡ Some i → method_at k.program.now (record { class = c; place = i }) ≡ Some m → is_marked k.marks.now.entered.items m.name ≡ true

  pub record IsListedHeld (c : ℕ) (class : Class) : Type 0 where
    pub above : is_listed c ≡ true → is_interface (Some class) ≡ true → AreListed (interface_places k.program.now c)
    pub defaults : is_listed c ≡ true → is_interface (Some class) ≡ true → has_default k.program.now (Some class) ≡ true → is_needed c ≡ true

  pub record IsStarted (c : ℕ) (class : Class) : Type 0 where
    pub needed : IsNeededHeld c class
    pub listed : IsListedHeld c class

  pub record Classes : Type 0 where
    pub begun : (c : ℕ) → slice_get k.targets.now.begun.items c ≡ Some true → is_needed c ≡ true
    pub started : (c : ℕ) (class : Class) → slice_get k.program.now.classes c ≡ Some class → IsStarted c class

  -- all that is checked beside the frames
  pub record Holds (frames : List (List (Option Frame))) : Type 0 where
    pub entries : Entries frames
    pub classes : Classes
    pub links : Links
    pub fields : AreAllHeld
