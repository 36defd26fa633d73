-- Typings of a body by numbers, and the least flow that looks for one (this project's profile).
use Rattle.std.specs.Prelude.{◌≡◌, ℕ, ◌+◌, ◌<◌, ◌≤◌, Bool, ◌&&◌, nat_le, nat_lt, List, [], ◌∷◌, ◌++◌, map, length, ◌⊎◌, All, Option, Some, None, slice_get, if◌then◌else◌}
use Rattle.std.specs.Option.{option_and_then}
use Rattle.insn_set.specs.declared.form.Insn.{Insn}
use Rattle.insn_set.specs.Flow.{throws, goes_on, targets_of}
use Rattle.program_model.specs.declared.body.Body.{Body}
use Rattle.program_model.specs.declared.body.Region.{Region}
use Rattle.verify.specs.declared.fault.TypeFault.{TypeFault}
use Rattle.verify.specs.declared.fault.TypeFault.TheVariants as fault
use Rattle.verify.specs.declared.kinds.Kind.{Kind}
use Rattle.verify.specs.declared.kinds.Kind.TheVariants as kind
use Rattle.verify.specs.declared.setting.Setting.{Setting}
use Rattle.verify.specs.declared.tables.Tables.{Tables}
use Rattle.verify.specs.Faults.{fault_of}
use Rattle.verify.specs.Flow.{greatest, rank, form_after, place_at, region_of}
use Rattle.verify.specs.Frames.{Kinds, kind_at, all_undefined}
use Rattle.verify.specs.Joins.{joined}
use Rattle.verify.specs.Types.{kind_of}

-- ---- the order

-- a kind is at or below another one where their join is that one
abbrev pub Below : Tables → Kind → Kind → Type 0
Below t a b = joined t a b ≡ b

-- joins are least upper bounds, and what rises by a join has a lower rank
pub record IsLattice (t : Tables) : Type 0 where
  pub swaps : (a b : Kind) → joined t a b ≡ joined t b a
  pub groups : (a b c : Kind) → joined t (joined t a b) c ≡ joined t a (joined t b c)
  pub falls : (a b : Kind) → (joined t a b ≡ a) ⊎ rank t (joined t a b) < rank t a

pub record IsBelow (t : Tables) (a b : Kinds) : Type 0 where
  pub long : length a.registers ≡ length b.registers
  pub registers : (r : ℕ) → Below t (kind_at a.registers r) (kind_at b.registers r)
  pub result : Below t a.result b.result
  pub caught : Below t a.caught b.caught
  pub receiver : Below t a.receiver b.receiver

-- a position without kinds is at or below every other
abbrev pub AtMost : Tables → Option Kinds → Option Kinds → Type 0
AtMost t None b = Unit
AtMost t (Some a) None = ⊥
AtMost t (Some a) (Some b) = IsBelow t a b

abbrev pub Table : Type 0
Table = List (Option Kinds)

-- the kind of a register before a position: undefined where the position has no state, or there is none
abbrev pub kind_in : Option (Option Kinds) → ℕ → Kind
kind_in (Some (Some a)) r = kind_at a.registers r
kind_in x r = kind.Undefined

abbrev pub kind_before : Table → ℕ → ℕ → Kind
kind_before t n r = kind_in (slice_get t n) r

-- each position of a table is at or below that of another one
abbrev pub IsUnder : Tables → Table → Table → Type 0
IsUnder t x y = (n : ℕ) → AtMost t (place_at x n) (place_at y n)

-- ---- edges

abbrev pub next_if : Bool → ℕ → List ℕ
next_if goes n = if goes then n ∷ [] else []

-- where a form goes on, if this is the next position
abbrev pub onward_by : Insn → ℕ → List ℕ
onward_by i next = targets_of i ++ next_if (goes_on i) next

abbrev pub onward : Insn → ℕ → List ℕ
onward i n = onward_by i (n + 1)

abbrev pub covers : ℕ → Region → Bool
covers n r = nat_le r.first n && nat_lt n r.end

-- the place of the first of some regions that covers a position, where they stand from this place on
abbrev pub first_covering : ℕ → ℕ → List Region → Option ℕ
first_covering n k [] = None
first_covering n k (r ∷ rs) = if covers n r then Some k else first_covering n (k + 1) rs

-- the place of the first region that covers a position
abbrev pub place_covering : Body → ℕ → Option ℕ
place_covering b n = first_covering n 0 b.regions

abbrev pub catch_rest : Option ℕ → List (ℕ × Kind)
catch_rest None = []
catch_rest (Some q) = (q, kind.Reference) ∷ []

-- where a throw goes, with the kind of the caught object: that of the handler's type, any object for a catch-all
abbrev pub catches_in : Tables → Option Region → List (ℕ × Kind)
catches_in t None = []
catches_in t (Some r) = map (λ h. (h.position, kind_of t h.kind)) r.handlers ++ catch_rest r.rest

abbrev pub region_at : Body → Option ℕ → Option Region
region_at b r = option_and_then (λ k. slice_get b.regions k) r

abbrev pub catches_by : Tables → Body → Insn → Option ℕ → List (ℕ × Kind)
catches_by t b i r = if throws i then catches_in t (region_at b r) else []

abbrev pub catches : Tables → Body → Insn → ℕ → List (ℕ × Kind)
catches t b i n = catches_by t b i (place_covering b n)

-- kinds arrive at a position
abbrev pub Arrives : Tables → Table → ℕ → Kinds → Type 0
Arrives t x n a = n < length x → AtMost t (Some a) (place_at x n)

-- each frame of a table has so many registers
abbrev pub IsWide : ℕ → Table → Type 0
IsWide m x = (n : ℕ) (a : Kinds) → place_at x n ≡ Some a → length a.registers ≡ m

-- ---- typings

-- what holds of each position of a body that has kinds in a table
abbrev pub AtEach : Body → Table → (ℕ → Insn → Kinds → Type 0) → Type 0
AtEach b x P = (n : ℕ) (i : Insn) (a : Kinds) → slice_get b.insns n ≡ Some i → place_at x n ≡ Some a → P n i a

-- The edges carry the kinds after the form, to a handler those from before it, and every read is allowed.
pub record IsTyping (s : Setting) (b : Body) (entry : Kinds) (x : Table) : Type 0 where
  pub long : length x ≡ length b.insns
  pub wide : IsWide b.registers x
  pub begins : Arrives s.tables.now x 0 entry
  pub onward : AtEach b x (λ n i a. All (λ q. Arrives s.tables.now x q (form_after s n i a)) (onward i n))
  pub caught : AtEach b x (λ n i a. All (λ h. Arrives s.tables.now x h.0 (record a { caught = h.1 })) (catches s.tables.now b i n))
  pub reads : AtEach b x (λ n i a. fault_of s n a i ≡ None)

-- the typing that is at or below each
pub record IsLeastTyping (s : Setting) (b : Body) (entry : Kinds) (x : Table) : Type 0 where
  pub typing : IsTyping s b entry x
  pub least : (y : Table) → IsTyping s b entry y → IsUnder s.tables.now x y

-- ---- the least flow

abbrev pub unless_fault : Option ℕ → Body → Kinds → Kinds
unless_fault None b a = a
unless_fault (Some r) b a = all_undefined b.registers

-- what an edge carries: undefined kinds alone where the position breaks
abbrev pub carried : Setting → Body → ℕ → Insn → Kinds → Kinds
carried s b n i a = unless_fault (fault_of s n a i) b (form_after s n i a)

abbrev pub carried_to : Setting → Body → ℕ → Insn → Kinds → Kind → Kinds
carried_to s b n i a k = unless_fault (fault_of s n a i) b (record a { caught = k })

pub record IsFlow (s : Setting) (b : Body) (entry : Kinds) (x : Table) : Type 0 where
  pub long : length x ≡ length b.insns
  pub wide : IsWide b.registers x
  pub begins : Arrives s.tables.now x 0 entry
  pub onward : AtEach b x (λ n i a. All (λ q. Arrives s.tables.now x q (carried s b n i a)) (onward i n))
  pub caught : AtEach b x (λ n i a. All (λ h. Arrives s.tables.now x h.0 (carried_to s b n i a h.1)) (catches s.tables.now b i n))

pub record IsLeastFlow (s : Setting) (b : Body) (entry : Kinds) (x : Table) : Type 0 where
  pub flow : IsFlow s b entry x
  pub least : (y : Table) → IsFlow s b entry y → IsUnder s.tables.now x y

-- what is lower is allowed where the higher is, and leaves what is lower
pub record IsMonotone (s : Setting) : Type 0 where
  pub reads : (n : ℕ) (i : Insn) (a b : Kinds) → IsBelow s.tables.now a b → fault_of s n b i ≡ None → fault_of s n a i ≡ None
  pub after : (n : ℕ) (i : Insn) (a b : Kinds) → IsBelow s.tables.now a b → fault_of s n b i ≡ None → IsBelow s.tables.now (form_after s n i a) (form_after s n i b)

-- a list gives each position the region that covers it
abbrev pub IsCovering : Body → List (Option ℕ) → Type 0
IsCovering b cs = (n : ℕ) → n < length b.insns → region_of cs n ≡ place_covering b n

-- a region with this place covers a position unless an earlier one does
abbrev pub covered : ℕ → Option ℕ → Bool → Option ℕ
covered k (Some r) c = Some r
covered k None c = if c then Some k else None

-- the region is noted for the positions that it covers
pub record Covers (old new : List (Option ℕ)) (r : Region) (k : ℕ) : Type 0 where
  pub long : length new ≡ length old
  pub each : (n : ℕ) → n < length old → region_of new n ≡ covered k (region_of old n) (covers n r)

-- ---- where a table breaks

abbrev pub break_in : Setting → ℕ → Option Insn → Option Kinds → Option ℕ
break_in s n (Some i) (Some a) = fault_of s n a i
break_in s n i a = None

-- the lowest register at which a position of a table breaks
abbrev pub break_at : Setting → Body → Table → ℕ → Option ℕ
break_at s b x n = break_in s n (slice_get b.insns n) (place_at x n)

-- There is no typing, and this is the first position at which the least flow breaks, with its lowest register.
pub record IsIllTyped (s : Setting) (b : Body) (entry : Kinds) (n r : ℕ) : Type 0 where
  pub table : Table
  pub least : IsLeastFlow s b entry table
  pub breaks : break_at s b table n ≡ Some r
  pub first : (k : ℕ) → k < n → break_at s b table k ≡ None
  pub none : (y : Table) → IsTyping s b entry y → ⊥

-- places are numbers of 32 bits
pub record IsShort (b : Body) : Type 0 where
  pub insns : length b.insns ≤ greatest
  pub regions : length b.regions ≤ greatest

-- what a refusal says
abbrev pub Refuses : Setting → Body → Kinds → ℕ → TypeFault → Type 0
Refuses s b entry m fault.NoMemory = Unit
Refuses s b entry m (fault.IllTyped k n r) = (k ≡ m) × IsIllTyped s b entry n r
