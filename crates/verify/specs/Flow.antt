-- How frames arrive at positions, and the walk that looks for the least flow of a body, by numbers (this project's
-- profile).
use Rattle.std.specs.Prelude.{ℕ, ◌+◌, Bool, true, false, ◌&&◌, ◌||◌, nat_eq, nat_lt, min, List, [], ◌∷◌, map, replicate, length, Option, Some, None, slice_get, slice_index_or, slice_set, if◌then◌else◌}
use Rattle.std.specs.Option.{option_map}
use Rattle.insn_set.specs.declared.form.Insn.{Insn}
use Rattle.insn_set.specs.Flow.{throws, goes_on, targets_of}
use Rattle.program_model.specs.declared.body.Body.{Body}
use Rattle.program_model.specs.declared.body.Handler.{Handler}
use Rattle.program_model.specs.declared.body.Region.{Region}
use Rattle.verify.specs.declared.arrivals.Arrivals.{Arrivals}
use Rattle.verify.specs.declared.frames.Frame.{Frame}
use Rattle.verify.specs.declared.flow.States.{States}
use Rattle.verify.specs.declared.kinds.Kind.{Kind}
use Rattle.verify.specs.declared.kinds.Kind.TheVariants as kind
use Rattle.verify.specs.declared.setting.Setting.{Setting}
use Rattle.verify.specs.declared.tables.Tables.{Tables}
use Rattle.verify.specs.After.{after}
use Rattle.verify.specs.Chains.{depth}
use Rattle.verify.specs.Faults.{fault_of}
use Rattle.verify.specs.Frames.{Kinds, kinds_of, all_undefined}
use Rattle.verify.specs.Joins.{joined}
use Rattle.verify.specs.Kinds.{same_kind, same_number}
use Rattle.verify.specs.Shapes.{place_of}
use Rattle.verify.specs.Types.{kind_of, item_shape, item_of_class}

-- ---- how far a kind can rise

abbrev pub greatest : ℕ
greatest = 4294967295

-- the item that stands for a class has the lower one of the two ranks of its depth
abbrev pub rank_of_place : Tables → Option ℕ → Option ℕ → ℕ
rank_of_place t i (Some c) = min (min (depth t.chains c + depth t.chains c) greatest + (if same_number i (item_of_class t c) then 4 else 5)) greatest
rank_of_place t i None = 3

abbrev pub rank_of_array : Tables → ℕ → Option ℕ → ℕ
rank_of_array t n i = if nat_eq n 1 && same_number i t.object then 2 else rank_of_place t i (place_of (item_shape t i))

abbrev pub rank : Tables → Kind → ℕ
rank t kind.Undefined = 0
rank t (kind.Program c) = min (depth t.chains c + 2) greatest
rank t (kind.Array n i) = rank_of_array t n i
rank t kind.Null = 4294967294
rank t kind.Zero = greatest
rank t k = 1

-- ---- a kind is joined into another one where that lowers its rank

abbrev pub rises : Tables → Kind → Kind → Bool
rises t k old = if same_kind old k then false else nat_lt (rank t (joined t old k)) (rank t old)

abbrev pub raised : Tables → Kind → Kind → Kind
raised t k old = if same_kind old k then old else if nat_lt (rank t (joined t old k)) (rank t old) then joined t old k else old

abbrev pub raised_all : Tables → List Kind → List Kind → List Kind
raised_all t (k ∷ ks) (o ∷ os) = raised t k o ∷ raised_all t ks os
raised_all t ks os = os

abbrev pub rises_any : Tables → List Kind → List Kind → Bool
rises_any t (k ∷ ks) (o ∷ os) = rises t k o || rises_any t ks os
rises_any t ks os = false

abbrev pub raised_kinds : Tables → Kinds → Kinds → Kinds
raised_kinds t a old = record {
  registers = raised_all t a.registers old.registers;
  result = raised t a.result old.result;
  caught = raised t a.caught old.caught;
  receiver = raised t a.receiver old.receiver;
}

abbrev pub rises_kinds : Tables → Kinds → Kinds → Bool
rises_kinds t a old = rises_any t a.registers old.registers || rises t a.result old.result || rises t a.caught old.caught || rises t a.receiver old.receiver

-- what stands at a place behind the arrival of a frame, and whether that rose
abbrev pub met : Tables → Kinds → Option Kinds → Kinds
met t a None = a
met t a (Some old) = raised_kinds t a old

abbrev pub rises_in : Tables → Kinds → Option Kinds → Bool
rises_in t a None = true
rises_in t a (Some old) = rises_kinds t a old

-- ---- the positions

abbrev pub kinds_in : Option Frame → Option Kinds
kinds_in f = option_map kinds_of f

abbrev pub places_of : List (Option Frame) → List (Option Kinds)
places_of fs = map kinds_in fs

-- the frames of the positions, and which positions wait
pub record Arrived : Type 0 where
  pub places : List (Option Kinds)
  pub waits : List Bool

abbrev pub arrived_of : Arrivals → Arrived
arrived_of a = record { places = places_of a.positions.items; waits = a.waiting.items }

abbrev pub arrived_at : Tables → ℕ → Kinds → Arrived → Option (Option Kinds) → Arrived
arrived_at t q a w None = w
arrived_at t q a w (Some old) = record { places = slice_set w.places q (Some (met t a old)); waits = if rises_in t a old then slice_set w.waits q true else w.waits }

abbrev pub arrived : Tables → ℕ → Kinds → Arrived → Arrived
arrived t q a w = arrived_at t q a w (slice_get w.places q)

abbrev pub arrived_all : Tables → List ℕ → Kinds → Arrived → Arrived
arrived_all t [] a w = w
arrived_all t (q ∷ qs) a w = arrived_all t qs a (arrived t q a w)

-- ---- handlers

-- where a read was refused nothing is known of the caught object
abbrev pub caught_at : Kind → Kind → Kind
caught_at kind.Undefined k = kind.Undefined
caught_at thrown k = k

abbrev pub caught_as : Kinds → Kind → Kinds
caught_as a k = record a { caught = caught_at a.caught k }

abbrev pub handled : Tables → List Handler → Kinds → Arrived → Arrived
handled t [] a w = w
handled t (h ∷ hs) a w = handled t hs a (arrived t h.position (caught_as a (kind_of t h.kind)) w)

abbrev pub handled_rest : Tables → Option ℕ → Kinds → Arrived → Arrived
handled_rest t None a w = w
handled_rest t (Some q) a w = arrived t q (caught_as a kind.Reference) w

abbrev pub caught_in : Tables → Region → Kinds → Arrived → Arrived
caught_in t r a w = handled_rest t r.rest a (handled t r.handlers a w)

-- the positions, and the frames of the regions
pub record Flowing : Type 0 where
  pub arrivals : Arrived
  pub regions : List (Option Kinds)

abbrev pub flowing_of : States → Flowing
flowing_of s = record { arrivals = arrived_of s.arrivals; regions = places_of s.regions.items }

abbrev pub thrown_in : Tables → Region → Kinds → Arrived → Option Kinds → Arrived
thrown_in t r a w old = if rises_in t a old then caught_in t r (met t a old) w else w

abbrev pub thrown_on : Tables → Region → ℕ → Kinds → Flowing → Option (Option Kinds) → Flowing
thrown_on t r n a f None = f
thrown_on t r n a f (Some old) = record {
  arrivals = thrown_in t r a f.arrivals old;
  regions = slice_set f.regions n (Some (met t a old));
}

abbrev pub thrown_to : Tables → Option Region → ℕ → Kinds → Flowing → Flowing
thrown_to t None n a f = f
thrown_to t (Some r) n a f = thrown_on t r n a f (slice_get f.regions n)

abbrev pub thrown_by : Tables → Body → Option ℕ → Kinds → Flowing → Flowing
thrown_by t b None a f = f
thrown_by t b (Some n) a f = thrown_to t (slice_get b.regions n) n a f

abbrev pub region_of : List (Option ℕ) → ℕ → Option ℕ
region_of cs n = slice_index_or cs n None

-- what a position throws
abbrev pub thrown_from : Tables → Body → List (Option ℕ) → ℕ → Insn → Kind → Kinds → Flowing → Flowing
thrown_from t b cs n i thrown a f = if throws i then thrown_by t b (region_of cs n) (record a { caught = thrown }) f else f

-- ---- a visit

abbrev pub next_of : ℕ → ℕ
next_of n = min (n + 1) greatest

abbrev pub gone_on : Tables → ℕ → Insn → Kinds → Arrived → Arrived
gone_on t n i a w = if goes_on i then arrived t (next_of n) a (arrived_all t (targets_of i) a w) else arrived_all t (targets_of i) a w

abbrev pub gone : Tables → ℕ → Insn → Kinds → Flowing → Flowing
gone t n i a f = record f { arrivals = gone_on t n i a f.arrivals }

abbrev pub form_after : Setting → ℕ → Insn → Kinds → Kinds
form_after s n i a = after s.program.now s.tables.now s.kind n i a

-- all edges are followed; where a read isn't allowed they carry nothing
abbrev pub followed_by : Setting → Body → List (Option ℕ) → ℕ → Insn → Kinds → Flowing → Option ℕ → Flowing
followed_by s b cs n i a f (Some r) = gone s.tables.now n i (all_undefined b.registers) (thrown_from s.tables.now b cs n i kind.Undefined (all_undefined b.registers) f)
followed_by s b cs n i a f None = gone s.tables.now n i (form_after s n i a) (thrown_from s.tables.now b cs n i kind.Null a f)

abbrev pub followed : Setting → Body → List (Option ℕ) → ℕ → Insn → Kinds → Flowing → Flowing
followed s b cs n i a f = followed_by s b cs n i a f (fault_of s n a i)

abbrev pub visited_in : Setting → Body → List (Option ℕ) → ℕ → Flowing → Option Insn → Option Kinds → Flowing
visited_in s b cs n f (Some i) (Some a) = followed s b cs n i a f
visited_in s b cs n f i a = f

abbrev pub place_at : List (Option Kinds) → ℕ → Option Kinds
place_at ps n = slice_index_or ps n None

abbrev pub visited : Setting → Body → List (Option ℕ) → ℕ → Flowing → Flowing
visited s b cs n f = visited_in s b cs n f (slice_get b.insns n) (place_at f.arrivals.places n)

-- ---- the beginning

abbrev pub unreached : ℕ → Arrived
unreached n = record { places = replicate n None; waits = replicate n false }

abbrev pub started : Tables → Body → Kinds → Flowing
started t b entry = record { arrivals = arrived t 0 entry (unreached (length b.insns)); regions = replicate (length b.regions) None }
