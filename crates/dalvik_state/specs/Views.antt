-- What the values, the frames and the world of a run by numbers are by names.
use Rattle.std.specs.Prelude.{ℕ, suc, ◌≡◌, ◌<◌, ◌+◌, Bool, true, false, ◌&&◌, List, [], ◌∷◌, map, length, Option, Some, None, nat_eq, slice_get}
use Rattle.std.specs.List.{position}
use Rattle.std.specs.Map.{lookup}
use Rattle.std.specs.Option.{option_map, option_and_then, unwrap_or}
use Rattle.program_model.specs.declared.program.Program.{Program}
use Rattle.program_model.specs.declared.program.Class.{Class as OwnClass}
use Rattle.program_model.specs.declared.program.Field.{Field}
use Rattle.dalvik_lookups.specs.Views.{text_of, texts_of, type_text}
use Rattle.dalvik_lookups.specs.Tables.{string_in}
use Rattle.dalvik_lookups.specs.declared.lookups.Lookups.{Lookups}
use Rattle.dalvik_lookups.specs.declared.types.Kind.{Kind}
use Rattle.dalvik_defs.specs.Names.{Text, text_eq, field_eq}
use Rattle.dalvik_defs.specs.Naming.{type_at, method_at, field_at}
use Rattle.dalvik_defs.specs.State.{Thing, Instance, Items, Exposed, World, same_value}
use Rattle.dalvik_defs.specs.declared.state.Value.{Value}
use Rattle.dalvik_defs.specs.declared.state.Value.TheVariants.{Word, Low, High, Object, Literal, Class}
use Rattle.dalvik_defs.specs.declared.state.Frame.{Frame}
use Rattle.dalvik_defs.specs.declared.names.FieldKey.{FieldKey}
use Rattle.dalvik_state.specs.declared.datum.Datum.{Datum}
use Rattle.dalvik_state.specs.declared.datum.Datum.TheVariants as datum
use Rattle.dalvik_state.specs.declared.frame.Frame.{Frame as OwnFrame}
use Rattle.dalvik_state.specs.declared.world.Exposed.{Exposed as OwnExposed}
use Rattle.dalvik_state.specs.declared.world.World.{World as OwnWorld}
use Rattle.dalvik_state.specs.Frames.{cell}
use Rattle.dalvik_state.specs.Worlds.{Shape, Plain, Array, Spot, spots_of}

-- what a run by numbers speaks of: its program, the texts with a number, of which there are so many, and the descriptor
-- of a type
pub record Names : Type 0 where
  pub program : Program
  pub texts : ℕ
  pub text : ℕ → Text
  pub kind : Kind → Text

-- the names of the tables of a run
abbrev pub names_in : Lookups → Names
names_in l = record { program = l.program.now; texts = length (texts_of l.texts); text = text_of l.texts; kind = type_text l.types }

-- different numbers have different texts
pub record TellsApart (n : Names) : Type 0 where
  pub apart : (i j : ℕ) → i < n.texts → j < n.texts → n.text i ≡ n.text j → i ≡ j

-- a reference to one of so many objects, or to a text or a class by a number of a text
abbrev pub IsFine : Names → ℕ → Datum → Type 0
IsFine n size (datum.Object x) = x < size
IsFine n size (datum.Literal x) = x < n.texts
IsFine n size (datum.Class x) = x < n.texts
IsFine n size d = Unit {0}

-- a frame whose values are fine
pub record IsFineFrame (n : Names) (size : ℕ) (f : OwnFrame) : Type 0 where
  pub registers : (r : ℕ) → IsFine n size (cell f.registers.items r)
  pub result : IsFine n size f.result
  pub caught : IsFine n size f.caught

-- the class of a type number
abbrev pub class_in : Lookups → ℕ → Datum
class_in l n = elim (slice_get l.program.now.types n) [ Some t ↦ datum.Class (string_in l.strings.items t) | None ↦ datum.Word 0 ]

-- a type number whose descriptor is there
pub record HasType (p : Program) (n : ℕ) : Type 0 where
  pub text : ℕ
  pub is : slice_get p.types n ≡ Some text
  pub there : text < length p.strings

-- values that are fine
pub record AreFine (n : Names) (size : ℕ) (ds : List Datum) : Type 0 where
  pub at : (r : ℕ) → IsFine n size (cell ds r)

-- arrays whose items are fine
abbrev pub IsFineShape : Names → ℕ → Shape → Type 0
IsFineShape n size (Plain kind) = Unit {0}
IsFineShape n size (Array kind items) = AreFine n size items

pub record AreFineSpots (n : Names) (size : ℕ) (spots : List Spot) : Type 0 where
  pub at : (i : ℕ) (s : Spot) → slice_get spots i ≡ Some s → IsFineShape n size s.shape

-- the values that are locked are fine
pub record AreFineLocks (n : Names) (size : ℕ) (locks : List (Datum × ℕ)) : Type 0 where
  pub at : (i : ℕ) (e : Datum × ℕ) → slice_get locks i ≡ Some e → IsFine n size e.0

-- a world whose values are fine
pub record IsFineWorld (n : Names) (w : OwnWorld) : Type 0 where
  pub arrays : AreFineSpots n (length (spots_of w)) (spots_of w)
  pub fields : (i : ℕ) (e : (ℕ × ℕ) × Datum) → slice_get w.fields.entries i ≡ Some e → IsFine n (length (spots_of w)) e.1
  pub statics : (i : ℕ) (d : Datum) → slice_get w.statics.items i ≡ Some (Some d) → IsFine n (length (spots_of w)) d
  pub locks : AreFineLocks n (length (spots_of w)) w.locks.entries

-- ---- values and frames

abbrev pub value_of : Names → Datum → Value
value_of n (datum.Word x) = Word x
value_of n (datum.Low x) = Low x
value_of n (datum.High x) = High x
value_of n (datum.Object x) = Object x
value_of n (datum.Literal x) = Literal (n.text x)
value_of n (datum.Class x) = Class (n.text x)

abbrev pub values_of : Names → List Datum → List Value
values_of n cells = map (value_of n) cells

abbrev pub frame_of : Names → OwnFrame → Frame
frame_of n f = record {
  method = method_at n.program f.method;
  position = f.position;
  registers = values_of n f.registers.items;
  result = value_of n f.result;
  caught = value_of n f.caught;
}

-- ---- fields

-- the place of a field of a class whose fields begin at a place
abbrev pub place_in_class : Program → ℕ → FieldKey → OwnClass → Option ℕ
place_in_class p start k c = option_map (λ (i : ℕ). start + i) (position (λ (f : Field). field_eq (field_at p f.name) k) c.fields)

-- the place of a field among the fields of classes: that of the first class of the name
abbrev pub place_from : Program → ℕ → FieldKey → List OwnClass → Option ℕ
place_from p start k [] = None
place_from p start k (c ∷ cs) = elim (text_eq (type_at p c.name) k.class) [
  | true ↦ place_in_class p start k c
  | false ↦ place_from p (start + length c.fields) k cs
]

abbrev pub place_of_field : Program → FieldKey → Option ℕ
place_of_field p k = place_from p 0 k p.classes

abbrev pub is_at : ℕ → ℕ → ℕ × ℕ → Bool
is_at number place k = nat_eq number k.0 && nat_eq place k.1

-- what the fields of an object hold
abbrev pub field_in : Names → List ((ℕ × ℕ) × Datum) → ℕ → FieldKey → Option Value
field_in n fields number k = option_and_then (λ (place : ℕ). option_map (value_of n) (lookup (is_at number place) fields)) (place_of_field n.program k)

abbrev pub static_in : Names → List (Option Datum) → FieldKey → Option Value
static_in n statics k = option_and_then (λ (place : ℕ). option_and_then (option_map (value_of n)) (slice_get statics place)) (place_of_field n.program k)

-- ---- the world

abbrev pub thing_of : Names → List ((ℕ × ℕ) × Datum) → ℕ → Shape → Thing
thing_of n fields number (Plain kind) = Instance (n.kind kind) (field_in n fields number)
thing_of n fields number (Array kind items) = Items (n.kind kind) (values_of n items)

-- the things from a number on
abbrev pub things_from : Names → List ((ℕ × ℕ) × Datum) → ℕ → List Spot → List Thing
things_from n fields number [] = []
things_from n fields number (s ∷ ss) = thing_of n fields number s.shape ∷ things_from n fields (suc number) ss

-- how often a value is locked
abbrev pub lock_in : Names → List (Datum × ℕ) → Value → ℕ
lock_in n locks v = unwrap_or (lookup (λ (d : Datum). same_value (value_of n d) v) locks) 0

abbrev pub exposed_of : OwnExposed → Exposed
exposed_of e = record { number = e.number; printed = e.printed }

abbrev pub world_of : Names → OwnWorld → World
world_of n w = record {
  heap = things_from n w.fields.entries 0 (spots_of w);
  locks = lock_in n w.locks.entries;
  statics = static_in n w.statics.items;
  exposed = map exposed_of w.exposed.items;
}
