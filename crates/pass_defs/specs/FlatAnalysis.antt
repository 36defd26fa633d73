-- Flat values as an analysis: constants alone, no branch refines, and nothing is known of objects.
use Rattle.std.specs.Prelude.{◌≡◌, ℤ, pos, Bool, true, false, ◌&&◌, not, if◌then◌else◌, List, Option, Some, None}
use Rattle.std.specs.List.{list_any}
use Rattle.std.specs.Ordering.{int_eq}
use Rattle.insn_set.specs.Flow.{divides, divides_by_literal}
use Rattle.insn_set.specs.declared.ops.Test.{Test}
use Rattle.dalvik_defs.specs.Names.{Text}
use Rattle.dalvik_defs.specs.Arith.{signed}
use Rattle.dalvik_defs.specs.declared.state.Value.{Value}
use Rattle.dalvik_defs.specs.declared.state.Value.TheVariants.{Word, Low}
use Rattle.pass_defs.specs.Flat.{Flat, Bottom, KnownWord, KnownWide, Any, FlatBelow, flat_of, flat_unary, flat_binary, flat_literal, flat_compared, flat_stored, flat_outcome, flat_known, flat_zero}
use Rattle.pass_defs.specs.Analysis.{Analysis}

abbrev pub flat_holds : Flat → Text → Value → Type 0
flat_holds Bottom k v = ⊥
flat_holds (KnownWord n) k v = v ≡ Word n
flat_holds (KnownWide n) k v = v ≡ Low n
flat_holds Any k v = Unit {0}

abbrev pub same_bool : Bool → Bool → Bool
same_bool true b = b
same_bool false b = not b

abbrev pub flat_tested : Bool → Test → Flat → Flat → Option (Flat × Flat)
flat_tested b test x y = elim (flat_outcome test x y) [ Some d ↦ if same_bool b d then Some (x, y) else None | None ↦ Some (x, y) ]

abbrev pub flat_keyed : ℤ → Flat → Option Flat
flat_keyed z x = elim (flat_known x) [ Some n ↦ if int_eq (signed false n) z then Some x else None | None ↦ Some x ]

abbrev pub flat_unkeyed : List ℤ → Flat → Option Flat
flat_unkeyed zs x = elim (flat_known x) [ Some n ↦ if list_any (int_eq (signed false n)) zs then None else Some x | None ↦ Some x ]

abbrev pub flat_analysis : Analysis Flat
flat_analysis = record {
  holds = flat_holds;
  below = FlatBelow;
  any = Any;
  known = flat_of;
  made = λ t. Any;
  length = Any;
  truth = Any;
  item = λ i. Any;
  outer = λ t. Any;
  caught = Any;
  unary = flat_unary;
  binary = λ op x y. if divides op && flat_zero y then None else Some (flat_binary op x y);
  literal = λ op x z. if divides_by_literal op && int_eq z (pos 0) then None else Some (flat_literal op x z);
  compared = flat_compared;
  stored = flat_stored;
  held = λ x. Some x;
  cast = λ t x. Some x;
  tested = flat_tested;
  keyed = flat_keyed;
  unkeyed = flat_unkeyed;
}
