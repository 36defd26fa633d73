-- What a body that was read has of the units and the try items.
use Rattle.std.specs.Prelude.{◌≡◌, ℕ, List, Ok}
use Rattle.program_model.specs.declared.body.Body.{Body}
use Rattle.code_read.specs.declared.sizes.Sizes.{Sizes}
use Rattle.code_read.specs.Regions.{regions_of}
use Rattle.dex_defs.specs.Sweep.{Piece, IsSwept, instructions, starts_of, places_of}
use Rattle.dex_defs.specs.Instructions.{AreInsns}

-- its instructions are those of the units' pieces, and its regions are read of the try items; and where its instructions begin
pub record IsBody (units tries : List ℕ) (sizes : Sizes) (read : Body × List ℕ) : Type 0 where
  pub pieces : List Piece
  pub swept : IsSwept units pieces
  pub starts : read.1 ≡ starts_of (instructions pieces)
  pub insns : AreInsns (places_of units pieces) (instructions pieces) read.0.insns
  pub registers : read.0.registers ≡ sizes.registers
  pub ins : read.0.ins ≡ sizes.ins
  pub regions : regions_of tries sizes (places_of units pieces) ≡ Ok read.0.regions
