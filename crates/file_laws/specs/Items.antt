-- What a code item that was read has of the bytes of a file.
use Rattle.std.specs.Prelude.{◌≡◌, ℕ, List, length}
use Rattle.program_model.specs.declared.body.Body.{Body}
use Rattle.code_read.specs.declared.sizes.Sizes.{Sizes}
use Rattle.dex_defs.specs.Sweep.{Places}
use Rattle.dex_defs.specs.CodeItems.{Frame, IsFrame, AreUnits, IsCode}

-- the code item at this place has this frame and these units, and the sizes are those of the frame
pub record HasItem (bytes : List ℕ) (at : ℕ) (f : Frame) (units : List ℕ) (sizes : Sizes) : Type 0 where
  pub frame : IsFrame bytes at f
  pub many : length units ≡ f.size
  pub are_units : AreUnits bytes at units
  pub registers : sizes.registers ≡ f.registers
  pub ins : sizes.ins ≡ f.ins
  pub tries : sizes.tries ≡ f.tries

-- the body is that of the code item, and its instructions begin there
pub record IsItemBody (bytes : List ℕ) (types at : ℕ) (f : Frame) (read : Body × List ℕ) : Type 0 where
  pub places : Places
  pub starts : read.1 ≡ places.starts
  pub code : IsCode bytes types at f places read.0
