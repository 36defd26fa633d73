-- A code item whose body is read has no fault of code.
use Rattle.std.proofs.Common.{◌≡◌, ◌<◌, ◌^◌, ℕ, ◌+◌, ◌*◌, true, List, length, drop, Some, refl, sym, ap, subst, ◌∙◌}
use Rattle.std.specs.Prelude.{slice_get}
use Rattle.dex_base.specs.Word.{Is16}
use Rattle.insn_set.specs.declared.form.Insn.{Insn}
use Rattle.code_read.specs.declared.fault.CodeFault.{CodeFault}
use Rattle.code_read.specs.declared.sizes.Sizes.{Sizes}
use Rattle.code_read.specs.Checks.{operands_inside}
use Rattle.dex_defs.specs.Sweep.{Piece, IsSwept, instructions, places_of}
use Rattle.dex_defs.specs.CodeItems.{Frame, IsFrame, tries_at}
use Rattle.dex_defs.specs.CodeFaults.{HasUnits, BadSweep, BadInsn, BadTry, BadMove, BadCode}
use Rattle.dex_defs.specs.CodeFaults as bad
use Rattle.spelled_law.proofs.Once.{two, four, once_16, once_32, each_once}
use Rattle.refused_code.proofs.Flowing.{are_apart}
use Rattle.refused_code.proofs.Trying.{they_rise}
use Rattle.clean_files.proofs.CodeChecked.{IsChecked}
use Rattle.clean_files.proofs.CodeFlows.{no_insn, no_move}
use Rattle.clean_files.proofs.CodeSweep.{swept_once, no_sweep}
use Rattle.clean_files.proofs.CodeTries.{no_try}

abbrev frame_made : ℕ → ℕ → ℕ → ℕ → ℕ → ℕ → Frame
frame_made registers ins outs tries debug size = record { registers = registers; ins = ins; outs = outs; tries = tries; debug = debug; size = size }

pub frame_once : (bytes : List ℕ) (at : ℕ) (f g : Frame) → IsFrame bytes at f → IsFrame bytes at g → f ≡ g
frame_once bytes at f g a b =
    four (λ (registers ins outs tries : ℕ). frame_made registers ins outs tries f.debug f.size) (once_16 bytes at f.registers g.registers a.registers b.registers) (once_16 bytes (at + 2) f.ins g.ins a.ins b.ins)
    (once_16 bytes (at + 4) f.outs g.outs a.outs b.outs) (once_16 bytes (at + 6) f.tries g.tries a.tries b.tries)
    ∙ two (frame_made g.registers g.ins g.outs g.tries) (once_32 bytes (at + 8) f.debug g.debug a.debug b.debug) (once_32 bytes (at + 12) f.size g.size a.size b.size)

pub units_once : (bytes : List ℕ) (at : ℕ) (f g : Frame) (us vs : List ℕ) → HasUnits bytes at f us → HasUnits bytes at g vs → us ≡ vs
units_once bytes at f g us vs a b =
    let size : f.size ≡ g.size = ap (λ (x : Frame). x.size) (frame_once bytes at f g a.frame b.frame) in
    each_once (λ i unit. Is16 bytes (at + 16 + 2 * i) unit) (λ i m n. once_16 bytes (at + 16 + 2 * i) m n) 0 us vs (a.many ∙ size ∙ sym b.many) a.are b.are

-- with sizes that have as many types, and by which operands in range are so too
module _ (bytes : List ℕ) (at : ℕ) (f : Frame) (units : List ℕ) (has : HasUnits bytes at f units) (few : length units < 2 ^ 31) (sizes : Sizes) (many : sizes.tries ≡ f.tries) (read : IsChecked units (drop (tries_at at f) bytes) sizes)
    (more : Sizes) (types : more.types ≡ sizes.types) (wide : (insn : Insn) → operands_inside sizes insn ≡ true → operands_inside more insn ≡ true) where
  frame_is : (g : Frame) (us : List ℕ) → HasUnits bytes at g us → g ≡ f
  frame_is g us h = frame_once bytes at g f h.frame has.frame

  units_are : (g : Frame) (us : List ℕ) → HasUnits bytes at g us → us ≡ units
  units_are g us h = units_once bytes at g f us units h has

  pieces_are : (g : Frame) (us : List ℕ) (ps : List Piece) → HasUnits bytes at g us → IsSwept us ps → ps ≡ read.pieces
  pieces_are g us ps h swept = swept_once units ps read.pieces (subst (λ (vs : List ℕ). IsSwept vs ps) (units_are g us h) swept) read.swept.to

  -- what is said of the frame, the units and the pieces that a fault has is said of these
  same : (T : Frame → List ℕ → List Piece → Type 0) (g : Frame) (us : List ℕ) (ps : List Piece) → HasUnits bytes at g us → IsSwept us ps → T g us ps → T f units read.pieces
  same T g us ps h swept t = subst (λ (x : Frame). T x units read.pieces) (frame_is g us h) (subst (λ (vs : List ℕ). T g vs read.pieces) (units_are g us h) (subst (λ (qs : List Piece). T g us qs) (pieces_are g us ps h swept) t))

  pub no_code : (fault : CodeFault) → BadCode bytes more at fault → ⊥
  no_code fault (bad.InSweep g us h wrong) = no_sweep units read.pieces read.swept.to fault (subst (λ (vs : List ℕ). BadSweep vs fault) (units_are g us h) wrong)
  no_code fault (bad.AtInsn g us ps h swept wrong) =
      no_insn (drop (tries_at at f) bytes) sizes units read.pieces read.insns read.regions read.checked read.swept few more wide fault (same (λ x vs qs. BadInsn more vs qs fault) g us ps h swept wrong)
  no_code fault (bad.InTries g us ps h swept wrong) =
      no_try bytes at f (places_of units read.pieces) (they_rise 0 _ (are_apart units 0 read.pieces (length units) read.swept.to)) sizes many read.regions read.checked.regions_are fault
      (subst (λ (n : ℕ). BadTry bytes at n f (places_of units read.pieces) fault) types (same (λ x vs qs. BadTry bytes at more.types x (places_of vs qs) fault) g us ps h swept wrong))
  no_code fault (bad.AtMove g us ps k p h swept there wrong is) =
      no_move (drop (tries_at at f) bytes) sizes units read.pieces read.insns read.regions read.checked read.swept few bytes at f refl many k p
      (same (λ x vs qs. slice_get (instructions qs) k ≡ Some p) g us ps h swept there) (same (λ x vs qs. BadMove bytes at x vs qs k p) g us ps h swept wrong)
