-- The new body of a caller, and whether it has room: the program keeps its limit of cells, the body lays out in few units, and
-- it is typed. In so few units no region is too long, and there are as many regions as before.
use Rattle.std.specs.Prelude.{◌≡◌, true, false, ℕ, ◌+◌, ◌-◌, ◌<◌, ◌≤◌, Bool, List, [], ◌∷◌, Option, Some, None}
use Rattle.program_model.specs.Cells.{capped, body_cells}
use Rattle.program_model.specs.declared.body.Body.{Body}
use Rattle.program_model.specs.declared.program.MethodAt.{MethodAt}
use Rattle.program_model.specs.declared.pass.Renumber.{Renumber}
use Rattle.relax.specs.declared.layout.Layout.{Layout}
use Rattle.relax.specs.Layouts.{IsLaidOut, IsFarAt}
use Rattle.verify.specs.Methods.{TypesWith, RefusesWith}
use Rattle.verify.specs.Typings.{Table}
use Rattle.verify.specs.declared.typed.Verifier.{Verifier}
use Rattle.verify.specs.declared.fault.TypeFault.TheVariants as fault
use Rattle.splice.specs.declared.callee.Callee.{Callee}
use Rattle.splice.specs.declared.spliced.Spliced.{Spliced}
use Rattle.splice.specs.Pieces.{spliced}
use Rattle.inline_calls.specs.Crowded.{lists_fit}
use Rattle.inline_calls.specs.declared.site.Caller.{Caller}
use Rattle.inline_calls.specs.declared.caller.Inliner.{Inliner}

-- the cells of a program that has so many, with a body in place of another
abbrev pub cells_with : ℕ → Body → Body → ℕ
cells_with cells old new = capped ((cells - capped (body_cells old)) + capped (body_cells new))

-- the lists of handlers have room in a layout
abbrev pub fits_lists : Renumber → Body → Layout → Bool
fits_lists numbers b l = lists_fit numbers l.starts.items l.size b.regions

-- a least layout of at most 32,000 units, with room for the lists of handlers
pub record IsShort (numbers : Renumber) (b : Body) : Type 0 where
  pub layout : Layout
  pub is : IsLaidOut numbers b layout
  pub units : layout.size ≤ 32000
  pub lists : fits_lists numbers b layout ≡ true

-- a branch goes too far in the least layout, or this has more units or no room for the lists
pub data IsLong (numbers : Renumber) (b : Body) : Type 0 where
  IsFar : (position : ℕ) → IsFarAt numbers b position → IsLong numbers b
  IsOver : (layout : Layout) → IsLaidOut numbers b layout → 32000 < layout.size → IsLong numbers b
  IsCrowded : (layout : Layout) → IsLaidOut numbers b layout → fits_lists numbers b layout ≡ false → IsLong numbers b

-- a method with this body has a typing
pub record IsTypedWith (v : Verifier) (at : MethodAt) (b : Body) : Type 0 where
  pub table : Table
  pub types : TypesWith v at b table

-- or it has none, for this reason
pub record IsIllTypedWith (v : Verifier) (at : MethodAt) (b : Body) : Type 0 where
  pub method : ℕ
  pub position : ℕ
  pub register : ℕ
  pub refuses : RefusesWith v at b (fault.IllTyped method position register)

-- a caller has room with this body, in a program that has so many cells without
pub record HasRoom (i : Inliner) (c : Caller) (cells : ℕ) (b : Body) : Type 0 where
  pub fits : cells_with cells c.body.now b ≤ 67108864
  pub short : IsShort i.numbers b
  pub typed : IsTypedWith i.verifier c.at b

-- it has none
pub data LacksRoom (i : Inliner) (c : Caller) (cells : ℕ) (b : Body) : Type 0 where
  LacksCells : 67108864 < cells_with cells c.body.now b → LacksRoom i c cells b
  LacksUnits : IsLong i.numbers b → LacksRoom i c cells b
  LacksTyping : IsIllTypedWith i.verifier c.at b → LacksRoom i c cells b

-- ---- the new body

-- the caller with these methods copied
abbrev pub spliced_by : Inliner → Caller → List (Option Callee) → Spliced
spliced_by i c chosen = spliced i.known.program.now c.method.now c.body.now chosen

-- the same, none where no method is copied
abbrev pub new_of : Inliner → Caller → List (Option Callee) → Option Spliced
new_of i c [] = None
new_of i c (y ∷ ys) = Some (spliced_by i c (y ∷ ys))

-- the caller with these methods copied, where it has room
abbrev pub Judges : Inliner → Caller → ℕ → List (Option Callee) → Option Spliced → Type 0
Judges i c cells chosen (Some s) = (s ≡ spliced_by i c chosen) × HasRoom i c cells (spliced_by i c chosen).body
Judges i c cells chosen None = LacksRoom i c cells (spliced_by i c chosen).body
