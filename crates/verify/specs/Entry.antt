-- The kinds with which the code of a method begins, by numbers (this project's profile).
use Rattle.std.specs.Prelude.{ℕ, ◌-◌, List, [], ◌∷◌, replicate, Option, Some, None, slice_set, if◌then◌else◌}
use Rattle.program_model.specs.declared.body.Body.{Body}
use Rattle.verify.specs.declared.kinds.Kind.{Kind}
use Rattle.verify.specs.declared.kinds.Kind.TheVariants as kind
use Rattle.verify.specs.declared.setting.Setting.{Setting}
use Rattle.verify.specs.declared.tables.Tables.{Tables}
use Rattle.verify.specs.Flow.{next_of}
use Rattle.verify.specs.Frames.{Kinds}
use Rattle.verify.specs.Types.{kind_of}

-- the low half stands for both
abbrev pub put_parameter : Kind → ℕ → List Kind → List Kind
put_parameter kind.WideLow at ks = slice_set (slice_set ks at kind.WideLow) (next_of at) kind.WideHigh
put_parameter k at ks = slice_set ks at k

abbrev pub behind_parameter : Kind → ℕ → ℕ
behind_parameter kind.WideLow at = next_of (next_of at)
behind_parameter k at = next_of at

-- the parameters stand one behind the other
abbrev pub begun_from : Tables → List ℕ → ℕ → List Kind → List Kind
begun_from t [] at ks = ks
begun_from t (k ∷ rest) at ks = begun_from t rest (behind_parameter (kind_of t k) at) (put_parameter (kind_of t k) at ks)

abbrev pub begun_with : Tables → Option Kind → List ℕ → ℕ → List Kind → List Kind
begun_with t None kinds at ks = begun_from t kinds at ks
begun_with t (Some k) kinds at ks = begun_from t kinds (next_of at) (slice_set ks at k)

-- the arguments stand in the last registers, all others are undefined
abbrev pub begun : Setting → Body → Option Kind → List ℕ → Kinds
begun s b receiver kinds = record {
  registers = begun_with s.tables.now receiver kinds (b.registers - b.ins) (replicate b.registers kind.Undefined);
  result = kind.Undefined;
  caught = kind.Undefined;
  receiver = if s.constructs then kind.FreshThis else kind.Undefined;
}
