-- What an instruction by numbers has to do in its frame: what it does by names.
use Rattle.std.specs.Prelude.{ℕ, ℤ, pos, negsuc, ◌≡◌, ◌<◌, ◌%◌, ◌^◌, ◌&&◌, List, length, map, nat_eq, nat_lt, slice_get, slice_set, Bool, true, false, not, ◌||◌, int_lt, int_le, Option, Some, None}
use Rattle.std.specs.Int.{w32, cast_signed}
use Rattle.insn_set.specs.declared.ops.Item.{Item}
use Rattle.insn_set.specs.declared.ops.Item.TheVariants as item
use Rattle.program_model.specs.declared.program.Program.{Program}
use Rattle.insn_set.specs.declared.ops.Test.{Test}
use Rattle.insn_set.specs.declared.ops.Test.TheVariants.{Eq, Ne, Lt, Ge, Gt, Le}
use Rattle.dalvik_defs.specs.Arith.{signed}
use Rattle.dalvik_state.specs.declared.datum.Datum.{Datum}
use Rattle.dalvik_state.specs.Frames.{same_in, number_in, is_null_in}
use Rattle.insn_set.specs.declared.form.Insn.{Insn}
use Rattle.insn_set.specs.declared.form.Insn.TheVariants as insn
use Rattle.insn_set.specs.Spelling.{keys_ascend}
use Rattle.dalvik_defs.specs.Names.{Text, is_array}
use Rattle.dalvik_defs.specs.Naming.{form_of, type_at}
use Rattle.dalvik_defs.specs.Items.{item_of_type}
use Rattle.dalvik_defs.specs.declared.forms.Form.{Form}
use Rattle.dalvik_defs.specs.declared.forms.Form.TheVariants as form
use Rattle.dalvik_defs.specs.declared.state.Value.{Value}
use Rattle.dalvik_defs.specs.ActArray.{array_put, fills, item_at, put_item, writes_item, zeros}
use Rattle.dalvik_defs.specs.ActPlain.{exits}
use Rattle.dalvik_defs.specs.Known.{arithmetic_exception, null_pointer, bad_cast, negative_size, bad_store, out_of_bounds, bad_monitor}
use Rattle.dalvik_defs.specs.Operators.{Number}
use Rattle.dalvik_defs.specs.State.{World, Thing, Instance, Items, is_null, kind_of, next_object, thing_at, with_thing}
use Rattle.dalvik_defs.specs.declared.state.Frame.{Frame}
use Rattle.dalvik_defs.specs.Effect.{Effect, Goes, Faults, Stuck, next, register, sets, unless_null}
use Rattle.dalvik_defs.specs.ActNumber.{sets_number}
use Rattle.dalvik_defs.specs.Act.{act}
use Rattle.dalvik_defs.specs.declared.tables.Floats.{Floats}
use Rattle.dalvik_numbers.specs.Rows.{IsTable}
use Rattle.dalvik_numbers.specs.declared.floats.FloatTable.{FloatTable}
use Rattle.dalvik_lookups.specs.Facing.{run_face}
use Rattle.dalvik_lookups.specs.Views.{type_text, AreTypes, IsNamed}
use Rattle.dalvik_lookups.specs.declared.lookups.Lookups.{Lookups}
use Rattle.dalvik_state.specs.Views.{Names, AreFineLocks, HasType, IsFine, IsFineFrame, TellsApart, frame_of, names_in, value_of, values_of, world_of}
use Rattle.dalvik_state.specs.declared.state.Tables.{Tables}
use Rattle.dalvik_lookups.specs.declared.types.Kind.{Kind}
use Rattle.dalvik_state.specs.Worlds.{Shape, Plain, Array, Spot, shape_at, spots_of}
use Rattle.dalvik_state.specs.declared.world.World.{World as OwnWorld}
use Rattle.dalvik_state.specs.Effects.{effect_of, plain}
use Rattle.dalvik_state.specs.declared.effect.Effect.{Effect as OwnEffect}
use Rattle.dalvik_state.specs.declared.frame.Frame.{Frame as OwnFrame}

-- the types that an instruction itself throws have these numbers
pub record Knows (n : Names) : Type 0 where
  pub arithmetic : n.kind (plain 7) ≡ arithmetic_exception
  pub null : n.kind (plain 8) ≡ null_pointer
  pub cast : n.kind (plain 9) ≡ bad_cast
  pub size : n.kind (plain 10) ≡ negative_size
  pub store : n.kind (plain 11) ≡ bad_store
  pub monitor : n.kind (plain 13) ≡ bad_monitor
  pub bounds : n.kind (plain 14) ≡ out_of_bounds

-- in each world, by whatever names the frame is read
abbrev pub Does : (Names → World → Frame → Effect) → OwnFrame → OwnFrame → OwnEffect → Type 0
Does does old new effect = (n : Names) → Knows n → old.position < 2 ^ 63 → (w : World) → effect_of n effect w (frame_of n new) ≡ does n w (frame_of n old)

-- the same in one world
abbrev pub DoesIn : (Names → World → Frame → Effect) → OwnWorld → OwnFrame → OwnFrame → OwnEffect → Type 0
DoesIn does world old new effect = (n : Names) → Knows n → old.position < 2 ^ 63 → effect_of n effect (world_of n world) (frame_of n new) ≡ does n (world_of n world) (frame_of n old)

-- the item type of an array, and how many items it has
abbrev pub outline_of : Option Shape → Option (Kind × ℕ)
outline_of (Some (Array kind items)) = Some (kind, length items)
outline_of (Some (Plain kind)) = None
outline_of None = None

-- an effect unless a value is null
abbrev pub Guards : Datum → OwnEffect → OwnEffect → Type 0
Guards d otherwise effect = (n : Names) → Knows n → (w : World) (f : Frame) → effect_of n effect w f ≡ unless_null (value_of n d) (effect_of n otherwise w f)

-- an instruction that asks for neither the types of objects nor floats
abbrev pub Acts : Insn → OwnFrame → OwnFrame → OwnEffect → Type 0
Acts x old new effect = (under : Text → Text → Bool) (floats : Floats) → Does (λ n w f. act under floats (form_of n.program x) w f) old new effect

-- an instruction that asks for floats, whose table is this
abbrev pub ActsOn : FloatTable → Insn → OwnFrame → OwnFrame → OwnEffect → Type 0
ActsOn table x old new effect = (under : Text → Text → Bool) (floats : Floats) → IsTable table floats → Does (λ n w f. act under floats (form_of n.program x) w f) old new effect

-- a number or a division by 0
abbrev pub gives : Option Number → World → Frame → ℕ → Effect
gives None w f to = Faults arithmetic_exception
gives (Some x) w f to = sets_number x w f to

-- an instruction that is answered with no write, whose effect in this frame is one of the definitions
abbrev pub ActsNow : Insn → OwnFrame → OwnEffect → Type 0
ActsNow x f effect = (under : Text → Text → Bool) (floats : Floats) (n : Names) → Knows n → (w : World) → effect_of n effect w (frame_of n f) ≡ act under floats (form_of n.program x) w (frame_of n f)

-- an instruction on a frame whose references are fine, where different texts have different numbers
abbrev pub ActsFine : Insn → OwnFrame → OwnFrame → OwnEffect → Type 0
ActsFine x old new effect = (under : Text → Text → Bool) (floats : Floats) (size : ℕ) (n : Names) → Knows n → TellsApart n → IsFineFrame n size old → old.position < 2 ^ 63 → (w : World)
    → effect_of n effect w (frame_of n new) ≡ act under floats (form_of n.program x) w (frame_of n old)

-- an instruction on a frame that asks for nothing of the world
abbrev pub ActsIn : FloatTable → Insn → OwnFrame → OwnFrame → OwnEffect → Type 0
ActsIn table x old new effect = (under : Text → Text → Bool) (floats : Floats) (size : ℕ) (n : Names) → IsTable table floats → Knows n → TellsApart n → IsFineFrame n size old → old.position < 2 ^ 63 → (w : World)
    → effect_of n effect w (frame_of n new) ≡ act under floats (form_of n.program x) w (frame_of n old)

-- what a test of two values asks of the low bits of their numbers
abbrev pub passes_in : Test → Datum → Datum → Bool
passes_in Eq a b = same_in a b
passes_in Ne a b = not (same_in a b)
passes_in Lt a b = int_lt (signed false (number_in a % 2 ^ 32)) (signed false (number_in b % 2 ^ 32))
passes_in Ge a b = int_le (signed false (number_in b % 2 ^ 32)) (signed false (number_in a % 2 ^ 32))
passes_in Gt a b = int_lt (signed false (number_in b % 2 ^ 32)) (signed false (number_in a % 2 ^ 32))
passes_in Le a b = int_le (signed false (number_in a % 2 ^ 32)) (signed false (number_in b % 2 ^ 32))

-- an instruction on a frame and the world
abbrev pub ActsWith : Insn → OwnWorld → OwnWorld → OwnFrame → OwnFrame → OwnEffect → Type 0
ActsWith x world world' old new effect = (under : Text → Text → Bool) (floats : Floats) (n : Names) → Knows n → old.position < 2 ^ 63
    → effect_of n effect (world_of n world') (frame_of n new) ≡ act under floats (form_of n.program x) (world_of n world) (frame_of n old)

-- ---- arrays

-- the place of an index that isn't negative, and where it is among so many
abbrev pub place_in : ℤ → Option ℕ
place_in (pos n) = Some n
place_in (negsuc n) = None

abbrev pub place_below : ℕ → ℤ → Option ℕ
place_below size (pos n) = elim (nat_lt n size) [ true ↦ Some n | false ↦ None ]
place_below size (negsuc n) = None

-- the item at an index
abbrev pub item_in : List Datum → ℤ → Option Datum
item_in ds (pos n) = slice_get ds n
item_in ds (negsuc n) = None

-- the items of an array
abbrev pub contents_of : Option Shape → Option (List Datum)
contents_of (Some (Array kind items)) = Some items
contents_of (Some (Plain kind)) = None
contents_of None = None

-- what is done to the world and the frame
abbrev pub DoesTo : (Names → World → Frame → Effect) → OwnWorld → OwnWorld → OwnFrame → OwnFrame → OwnEffect → Type 0
DoesTo does world world' old new effect = (n : Names) → Knows n → old.position < 2 ^ 63 → effect_of n effect (world_of n world') (frame_of n new) ≡ does n (world_of n world) (frame_of n old)

-- the same by the names of the tables
abbrev pub DoesNamed : Tables → (Names → World → Frame → Effect) → OwnWorld → OwnWorld → OwnFrame → OwnFrame → OwnEffect → Type 0
DoesNamed t does world world' old new effect = AreTypes t.lookups.types → old.position < 2 ^ 63
    → effect_of (names_in t.lookups) effect (world_of (names_in t.lookups) world') (frame_of (names_in t.lookups) new) ≡ does (names_in t.lookups) (world_of (names_in t.lookups) world) (frame_of (names_in t.lookups) old)

-- an array with items of a type, all zero, and where the size may be negative
abbrev pub adds_zeros : Text → ℕ → World → Frame → ℕ → Effect
adds_zeros item size w f to = sets (with_thing w (zeros item size)) f to (next_object w)

abbrev pub new_array_of : ℤ → Text → World → Frame → ℕ → Effect
new_array_of (negsuc n) item w f to = Faults negative_size
new_array_of (pos n) item w f to = adds_zeros item n w f to

-- an array with items of a type, those in registers
abbrev pub adds_array : Text → List ℕ → World → Frame → Effect
adds_array item args w f = Goes (with_thing w (Items item (map (register f) args))) (next (record f { result = next_object w }))

-- an array that is there is filled, unless it lacks places
abbrev pub Fills : Datum → Item → Bool → List ℕ → OwnWorld → OwnWorld → OwnFrame → OwnFrame → OwnEffect → Type 0
Fills array item lacks bits world world' old new effect = (n : Names) → Knows n → old.position < 2 ^ 63 → (kind : Kind) (items : List Datum) → shape_at (spots_of world) array ≡ Some (Array kind items)
    → lacks ≡ nat_lt (length items) (length bits) → item ≡ item_of_type (n.kind kind)
    → effect_of n effect (world_of n world') (frame_of n new) ≡ fills (Some (Items (n.kind kind) (map (value_of n) items))) (world_of n world) (frame_of n old) (value_of n array) bits

-- an item that is there is written, where the value fits
abbrev pub Stores : Datum → ℕ → Datum → Bool → OwnWorld → OwnWorld → OwnFrame → OwnFrame → OwnEffect → Type 0
Stores array place d fits world world' old new effect = (n : Names) → Knows n → old.position < 2 ^ 63 → (kind : Kind) (items : List Datum) → shape_at (spots_of world) array ≡ Some (Array kind items)
    → effect_of n effect (world_of n world') (frame_of n new) ≡ writes_item fits (world_of n world) (frame_of n old) (value_of n array) (Items (n.kind kind) (slice_set (map (value_of n) items) place (value_of n d)))

-- a write of an item, by whether the value may be stored
abbrev pub puts_by : Bool → Item → Option Thing → World → Frame → Value → Value → ℤ → Effect
puts_by fits i (Some (Items k vs)) w f v on at = elim (item_at vs at) [
  | Some old ↦ writes_item fits w f on (put_item i k vs at v)
  | None ↦ Faults out_of_bounds
]
puts_by fits i (Some (Instance c fs)) w f v on at = Stuck
puts_by fits i None w f v on at = Stuck

-- a write of an item of an array that is there, by the types of the run
abbrev pub Puts : Lookups → Item → Datum → Datum → ℕ → Kind × ℕ → OwnWorld → OwnWorld → OwnFrame → OwnFrame → OwnEffect → Type 0
Puts l i array d index outline world world' old new effect = (items : List Datum) → shape_at (spots_of world) array ≡ Some (Array outline.0 items) → outline.1 ≡ length items
    → effect_of (names_in l) effect (world_of (names_in l) world') (frame_of (names_in l) new)
    ≡ array_put (run_face l).under i (Some (Items (type_text l.types outline.0) (values_of (names_in l) items))) (world_of (names_in l) world) (frame_of (names_in l) old) (value_of (names_in l) d) (value_of (names_in l) array) (cast_signed w32 index)

-- the same of whatever a value refers to
abbrev pub PutsAt : Lookups → Item → Datum → Datum → ℕ → OwnWorld → OwnWorld → OwnFrame → OwnFrame → OwnEffect → Type 0
PutsAt l i array d index world world' old new effect =
    effect_of (names_in l) effect (world_of (names_in l) world') (frame_of (names_in l) new)
    ≡ unless_null (value_of (names_in l) array) (array_put (run_face l).under i (thing_at (world_of (names_in l) world) (value_of (names_in l) array)) (world_of (names_in l) world) (frame_of (names_in l) old) (value_of (names_in l) d) (value_of (names_in l) array) (cast_signed w32 index))

-- ---- constants, tests of types and monitors

-- what an instruction names is there, and the type of an array is one
abbrev pub IsPlaced : Program → Insn → Type 0
IsPlaced p (insn.ConstString to string) = string < length p.strings
IsPlaced p (insn.ConstClass to kind) = HasType p kind
IsPlaced p (insn.NewArray to size kind) = (kind < length p.types) × (is_array (type_at p kind) ≡ true)
IsPlaced p (insn.FilledNewArray kind args) = (kind < length p.types) × (is_array (type_at p kind) ≡ true)
IsPlaced p x = Unit {0}

-- an instruction by the names of the tables, which are those of their program
abbrev pub ActsNamed : Tables → Insn → OwnWorld → OwnWorld → OwnFrame → OwnFrame → OwnEffect → Type 0
ActsNamed t x world world' old new effect = (under : Text → Text → Bool) (floats : Floats) → IsNamed t.lookups → IsPlaced t.lookups.program.now x → old.position < 2 ^ 63
    → effect_of (names_in t.lookups) effect (world_of (names_in t.lookups) world') (frame_of (names_in t.lookups) new)
    ≡ act under floats (form_of t.lookups.program.now x) (world_of (names_in t.lookups) world) (frame_of (names_in t.lookups) old)

-- the same in each world
abbrev pub ActsTabled : Tables → Insn → OwnFrame → OwnFrame → OwnEffect → Type 0
ActsTabled t x old new effect = (under : Text → Text → Bool) (floats : Floats) → IsNamed t.lookups → IsPlaced t.lookups.program.now x → old.position < 2 ^ 63 → (w : World)
    → effect_of (names_in t.lookups) effect w (frame_of (names_in t.lookups) new) ≡ act under floats (form_of t.lookups.program.now x) w (frame_of (names_in t.lookups) old)

-- goes on where a cast may
abbrev pub casts_by : Bool → World → Frame → Effect
casts_by true w f = Goes w (next f)
casts_by false w f = Faults bad_cast

-- a monitor that is freed, in a world whose locks are of fine values
abbrev pub ExitsIn : OwnWorld → Datum → OwnEffect → Type 0
ExitsIn world d effect = (n : Names) → Knows n → TellsApart n → AreFineLocks n (length (spots_of world)) world.locks.entries → IsFine n (length (spots_of world)) d → (f : Frame)
    → effect_of n effect (world_of n world) f ≡ exits (world_of n world) (value_of n d)

-- an instruction on a monitor, likewise
abbrev pub ActsLocked : Insn → OwnWorld → OwnFrame → OwnFrame → OwnEffect → Type 0
ActsLocked x world old new effect = (under : Text → Text → Bool) (floats : Floats) (n : Names) → Knows n → TellsApart n → AreFineLocks n (length (spots_of world)) world.locks.entries → IsFineFrame n (length (spots_of world)) old
    → effect_of n effect (world_of n world) (frame_of n new) ≡ act under floats (form_of n.program x) (world_of n world) (frame_of n old)

-- ---- which instructions a function is for

abbrev pub is_move : Insn → Bool
is_move insn.Nop = true
is_move (insn.Move slot to from) = true
is_move (insn.MoveResult slot to) = true
is_move (insn.MoveException to) = true
is_move (insn.Goto target) = true
is_move x = false

abbrev pub is_length : Insn → Bool
is_length (insn.ArrayLength to from) = true
is_length x = false

abbrev pub is_constant : Insn → Bool
is_constant (insn.Const to value) = true
is_constant (insn.ConstWide to value) = true
is_constant (insn.ConstString to string) = true
is_constant (insn.ConstClass to kind) = true
is_constant x = false

abbrev pub is_array_form : Insn → Bool
is_array_form (insn.NewArray to size kind) = true
is_array_form (insn.FilledNewArray kind args) = true
is_array_form (insn.FillArray on width items) = true
is_array_form x = false

abbrev pub is_get : Insn → Bool
is_get (insn.ArrayGet item to array index) = true
is_get x = false

abbrev pub is_put : Insn → Bool
is_put (insn.ArrayPut item from array index) = true
is_put x = false

abbrev pub is_type_test : Insn → Bool
is_type_test (insn.CheckCast on kind) = true
is_type_test (insn.InstanceOf to from kind) = true
is_type_test x = false

abbrev pub is_monitor : Insn → Bool
is_monitor (insn.MonitorEnter on) = true
is_monitor (insn.MonitorExit on) = true
is_monitor x = false

abbrev pub is_number : Insn → Bool
is_number (insn.Cmp op to a b) = true
is_number (insn.Unary op to from) = true
is_number (insn.Binary op to a b) = true
is_number (insn.Literal op to a value) = true
is_number x = false

abbrev pub is_end : Insn → Bool
is_end insn.ReturnVoid = true
is_end (insn.Return slot from) = true
is_end (insn.Throw on) = true
is_end x = false

abbrev pub is_test : Insn → Bool
is_test (insn.If test a b target) = true
is_test (insn.IfZero test a target) = true
is_test x = false

-- keys that ascend, with a target for each
abbrev pub are_keys : List ℤ → List ℕ → Bool
are_keys keys targets = nat_eq (length keys) (length targets) && keys_ascend keys

abbrev pub is_switch : Insn → Bool
is_switch (insn.PackedSwitch on first targets) = true
is_switch (insn.SparseSwitch on keys targets) = are_keys keys targets
is_switch x = false

abbrev pub is_field : Insn → Bool
is_field (insn.InstanceGet item to on field) = true
is_field (insn.InstancePut item from on field) = true
is_field (insn.StaticGet item to field) = true
is_field (insn.StaticPut item from field) = true
is_field x = false

abbrev pub is_field_put : Insn → Bool
is_field_put (insn.InstancePut item from on field) = true
is_field_put (insn.StaticPut item from field) = true
is_field_put x = false

abbrev pub is_outward : Insn → Bool
is_outward (insn.NewInstance to kind) = true
is_outward (insn.Invoke kind method args) = true
is_outward x = is_field x

-- the instructions that ask a test of types
abbrev pub is_tested : Insn → Bool
is_tested x = is_put x || is_type_test x

-- the instructions that leave the world as it is
abbrev pub is_still : Insn → Bool
is_still x = not (is_array_form x || is_put x)

-- the instructions whose effect is shown to be that of the definition
abbrev pub is_exact : Insn → Bool
is_exact x = is_move x || is_number x || is_end x || is_outward x || is_test x || is_switch x
