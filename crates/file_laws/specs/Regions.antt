-- What regions that were read have of the bytes of a file.
use Rattle.std.specs.Prelude.{◌+◌, ◌*◌, ℕ, List}
use Rattle.dex_base.specs.Decides.{Entries}
use Rattle.program_model.specs.declared.body.Region.{Region}
use Rattle.code_read.specs.declared.sizes.Sizes.{Sizes}
use Rattle.dex_defs.specs.Sweep.{Places}
use Rattle.dex_defs.specs.Handlers.{Try, IsTry, covering, AreRegions}

-- the regions of the try items at this place, behind which the handler lists stand
pub record AreRegionsAt (bytes : List ℕ) (at : ℕ) (sizes : Sizes) (places : Places) (regions : List Region) : Type 0 where
  pub tries : List Try
  pub are_tries : Entries sizes.tries (λ i. IsTry bytes (at + 8 * i)) tries
  pub regions_are : AreRegions bytes places (at + 8 * sizes.tries) sizes.types (covering places tries) regions
