-- Values whose numbers fit, and in which values nest so deep at most.
use Rattle.std.specs.Prelude.{◌<◌, ◌^◌, ℕ, zero, suc, List, length, FitsSigned}
use Rattle.std.specs.Int.{w8, w16, w32, w64}
use Rattle.std.specs.List.{AllByRecursion}
use Rattle.program_model.specs.declared.value.EncValue.{EncValue, EncValue-F, out-EncValue}
use Rattle.program_model.specs.declared.value.EncValue.TheOpen as layer
use Rattle.program_model.specs.declared.value.Element.{Element}
use Rattle.program_model.specs.declared.value.Note.{Note, out-Note}
use Rattle.program_model.specs.declared.value.Mark.{Mark}
use Rattle.dex_pools.specs.declared.scalar.TableSizes.{TableSizes}
use Rattle.dex_pools.specs.Finds.{Ascends}
use Rattle.dex_pools.specs.Value.{element_below}

pub record SizesFit (sizes : TableSizes) : Type 0 where
  pub strings : sizes.strings < 2 ^ 32
  pub types : sizes.types < 2 ^ 32
  pub fields : sizes.fields < 2 ^ 32
  pub methods : sizes.methods < 2 ^ 32

pub record NoteFits (sizes : TableSizes) (Inner : EncValue → Type 0) (n : Note) : Type 0 where
  pub class : (out-Note n).class < sizes.types
  pub few : length (out-Note n).elements < 2 ^ 32
  pub elements : AllByRecursion (λ e. (e.name < sizes.strings) × Inner e.value) (out-Note n).elements
  pub ascend : Ascends element_below (out-Note n).elements

abbrev pub LayerFits : TableSizes → (EncValue → Type 0) → EncValue-F EncValue Element Note → Type 0
LayerFits sizes Inner (layer.Byte z) = FitsSigned w8 z
LayerFits sizes Inner (layer.Short z) = FitsSigned w16 z
LayerFits sizes Inner (layer.Char n) = n < 2 ^ 16
LayerFits sizes Inner (layer.Int z) = FitsSigned w32 z
LayerFits sizes Inner (layer.Long z) = FitsSigned w64 z
LayerFits sizes Inner (layer.Float n) = n < 2 ^ 32
LayerFits sizes Inner (layer.Double n) = n < 2 ^ 64
LayerFits sizes Inner (layer.Str n) = n < sizes.strings
LayerFits sizes Inner (layer.Class n) = n < sizes.types
LayerFits sizes Inner (layer.Field n) = n < sizes.fields
LayerFits sizes Inner (layer.Method n) = n < sizes.methods
LayerFits sizes Inner (layer.Enum n) = n < sizes.fields
LayerFits sizes Inner (layer.Array vs) = (length vs < 2 ^ 32) × AllByRecursion Inner vs
LayerFits sizes Inner (layer.Annotation n) = NoteFits sizes Inner n
LayerFits sizes Inner layer.Null = Unit {0}
LayerFits sizes Inner (layer.Bool b) = Unit {0}

abbrev pub ValueFits : TableSizes → ℕ → EncValue → Type 0
ValueFits sizes zero v = ⊥
ValueFits sizes (suc depth) v = LayerFits sizes (ValueFits sizes depth) (out-EncValue v)

abbrev pub MarkFits : TableSizes → Mark → Type 0
MarkFits sizes m = NoteFits sizes (ValueFits sizes 64) m.note
