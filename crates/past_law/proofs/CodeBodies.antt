-- What the code of a method takes of cells and handlers, and where it passes their limits.
use Rattle.std.proofs.Common.{◌≡◌, ◌≤◌, ◌<◌, ◌⊎◌, inl, inr, ℕ, ◌+◌, ◌-◌, ◌*◌, ◌^◌, true, false, List, [], length, drop, Option, Some, None, Result, Ok, Err, refl, sym, subst, arith}
use Rattle.std.specs.Prelude.{slice_get, slice_index}
use Rattle.insn_set.specs.declared.form.Insn.{Insn}
use Rattle.program_model.specs.declared.body.Body.{Body}
use Rattle.program_model.specs.declared.body.Region.{Region}
use Rattle.program_model.specs.declared.limits.LimitFault.{LimitFault}
use Rattle.code_read.specs.declared.fault.CodeFault.{CodeFault}
use Rattle.code_read.specs.declared.fault.CodeFault.TheVariants as code
use Rattle.code_read.specs.declared.sizes.Sizes.{Sizes}
use Rattle.code_read.specs.Code.{check_last, first_gap, first_outside, first_astray, placed, body, body_at, code_of}
use Rattle.code_read.specs.Fault.{refuse}
use Rattle.code_read.specs.Order.{ends}
use Rattle.code_read.specs.Regions.{regions_of}
use Rattle.code_read.specs.Sweep.{sweep_of}
use Rattle.dex_defs.specs.Sweep.{Piece, Places, IsSwept, instructions, starts_of, places_of}
use Rattle.dex_defs.specs.Instructions.{AreInsns}
use Rattle.dex_defs.specs.CodeItems.{Frame, tries_at}
use Rattle.dex_defs.specs.CodeFaults.{BadSweep}
use Rattle.dex_defs.specs.CodeFaults as bad
use Rattle.file_laws.specs.Founds.{Founds}
use Rattle.file_laws.proofs.Founding.{weaker, done, next}
use Rattle.file_laws.proofs.Bodies.{founds_code}
use Rattle.file_laws.proofs.Sweeping.{Swept, Instructed, founds_swept, are_instructed}
use Rattle.refused_law.proofs.Failing.{Fails, sound, fails_with, unless, fails_next, fails_more}
use Rattle.refused_code.proofs.Sweeping.{fails_pieces}
use Rattle.refused_code.proofs.Reading.{fails_checked, fails_insns, one_of}
use Rattle.past_law.proofs.CodeReads.{Reads, both_known, OnLimit, limit_more}
use Rattle.past_law.proofs.CodeCells.{all_from, PassesTables, fails_tables}
use Rattle.past_law.proofs.CodeHandlers.{AreKept, PassesHandlers, reads_regions}

record IsSweep (units : List ℕ) (places : Places) : Type 0 where
  pieces : List Piece
  swept : Swept units 0 pieces (length units)
  is : places ≡ places_of units pieces

founds_sweep : (units : List ℕ) → Founds (IsSweep units) (sweep_of units)
unfolding sweep_of
founds_sweep units = weaker (sweep_of units) (next (founds_swept units) (λ ps _. done (places_of units ps))) (λ y p. record { pieces = p.0; swept = p.1; is = p.2 })

fails_sweep : (units : List ℕ) → Fails (BadSweep units) (sweep_of units)
unfolding sweep_of
fails_sweep units = fails_next (fails_pieces units) (λ ps _. sound (places_of units ps))

-- the limit of tables or of handlers is passed
pub record PassesCode (bytes : List ℕ) (at : ℕ) (f : Frame) (units : List ℕ) (items : ℕ) (limit : LimitFault) : Type 0 where
  pub pieces : List Piece
  pub swept : IsSwept units pieces
  pub passes : PassesTables units pieces 0 67108864 limit ⊎ PassesHandlers bytes at f (places_of units pieces) 0 items limit

-- the body, with the handlers that it keeps
pub record HasBody (bytes : List ℕ) (at : ℕ) (f : Frame) (units : List ℕ) (read : Body × List ℕ) : Type 0 where
  pub pieces : List Piece
  pub swept : IsSwept units pieces
  pub starts : read.1 ≡ starts_of (instructions pieces)
  pub insns : AreInsns (places_of units pieces) (instructions pieces) read.0.insns
  pub registers : read.0.registers ≡ f.registers
  pub kept : AreKept bytes at f (places_of units pieces) 0 read.0.regions

module _ (Says : LimitFault → Type 0) where
  abbrev On : CodeFault → Type 0
  On fault = OnLimit Says fault

  no_sweep : (units : List ℕ) (e : CodeFault) → BadSweep units e → On e
  no_sweep units e (bad.Opcode unit comes kind none is) = subst On (sym is) tt
  no_sweep units e (bad.Cut unit size comes is cut same) = subst On (sym same) tt
  no_sweep units e (bad.CutSize unit comes kind none is) = subst On (sym is) tt

  no_target : (starts : List ℕ) (o : Option ℕ) → Fails On (refuse (λ k. code.Target (slice_index starts k)) o)
  no_target starts None = sound tt
  no_target starts (Some k) = fails_with (code.Target (slice_index starts k)) tt

  no_gap : (starts : List ℕ) (o : Option ℕ) → Fails On (refuse (λ k. code.FallsOff (slice_index starts k)) o)
  no_gap starts None = sound tt
  no_gap starts (Some k) = fails_with (code.FallsOff (slice_index starts k)) tt

  no_astray : (starts : List ℕ) (o : Option ℕ) → Fails On (refuse (λ k. code.Misplaced (slice_index starts k)) o)
  no_astray starts None = sound tt
  no_astray starts (Some k) = fails_with (code.Misplaced (slice_index starts k)) tt

  no_end : (starts : List ℕ) (insns : List Insn) → Fails On (check_last starts insns)
  no_end starts insns = unless {b = ends (slice_get insns (length insns - 1))} (code.FallsOff (slice_index starts (length insns - 1))) (λ _. tt) (λ _. sound tt)

  fails_placed : (starts : List ℕ) (insns : List Insn) (read : Result (List Region) CodeFault) → Fails On read → Fails On (placed starts insns read)
  fails_placed starts insns (Ok regions) h = fails_next (no_astray starts (first_astray insns regions true)) (λ _ _. sound regions)
  fails_placed starts insns (Err e) h = fails_next (no_astray starts (first_astray insns [] false)) (λ _ _. fails_with e (h.fault e refl))

  -- the body at the places of a sweep
  fails_body : (tries : List ℕ) (sizes : Sizes) (units : List ℕ) (ps : List Piece) → Swept units 0 ps (length units) → ((limit : LimitFault) → PassesTables units ps 0 67108864 limit → Says limit) → Fails On (regions_of tries sizes (places_of units ps))
      → Fails On (body_at tries sizes (places_of units ps))
  unfolding body_at
  fails_body tries sizes units ps swept tables regions =
      let places : Places = places_of units ps in
      let are = are_instructed units ps swept.lie in
      fails_next (fails_more (limit_more (PassesTables units ps 0 67108864) Says tables) (fails_tables units ps 0 67108864 (instructions ps) (all_from units ps) are)) (λ checked _.
      fails_next (fails_insns places sizes (instructions ps) (λ k p there. fails_more (λ e h. subst On (sym h.1) tt) (fails_checked places p (one_of (Instructed units) (instructions ps) k p are there) sizes))) (λ insns _.
      fails_next (no_target places.starts (first_outside insns)) (λ inside _.
      fails_next (fails_next (no_gap places.starts (first_gap units places.starts insns)) (λ _ _. no_end places.starts insns)) (λ flows _.
      fails_next (fails_placed places.starts insns (regions_of tries sizes places) regions) (λ regions _. sound (body sizes insns regions))))))

-- ---- the whole code

module _ (bytes : List ℕ) (at : ℕ) (f : Frame) (units : List ℕ) (few : length units < 2 ^ 32) (room : tries_at at f + 8 * f.tries ≤ length bytes) (sizes : Sizes) (tries : sizes.tries ≡ f.tries) (registers : sizes.registers ≡ f.registers) where
  abbrev its_tries : List ℕ
  its_tries = drop (tries_at at f) bytes

  abbrev Passes : LimitFault → Type 0
  Passes limit = PassesCode bytes at f units sizes.items limit

  regions_at : (places : Places) → Reads (AreKept bytes at f places 0) (OnLimit (PassesHandlers bytes at f places 0 sizes.items)) (regions_of its_tries sizes places)
  regions_at places = reads_regions bytes at f places room sizes.types sizes tries refl

  fails_at : (q : Places) → IsSweep units q → Fails (OnLimit Passes) (body_at its_tries sizes q)
  fails_at q is = subst (λ (q : Places). Fails (OnLimit Passes) (body_at its_tries sizes q)) (sym is.is)
      (fails_body Passes its_tries sizes units is.pieces is.swept (λ limit h. record { pieces = is.pieces; swept = is.swept.to; passes = inl h })
      (record {
        fault = λ e h. limit_more (PassesHandlers bytes at f (places_of units is.pieces) 0 sizes.items) Passes (λ limit g. record { pieces = is.pieces; swept = is.swept.to; passes = inr g }) e ((regions_at (places_of units is.pieces)).fault e h);
      }))

  fails_whole : Fails (OnLimit Passes) (code_of units its_tries sizes)
  unfolding code_of
  fails_whole = fails_next (fails_more (no_sweep Passes units) (fails_sweep units)) (λ places h. fails_next (fails_at places ((founds_sweep units).found places h)) (λ b _. sound (b, places.starts)))

  founds_whole : Founds (HasBody bytes at f units) (code_of units its_tries sizes)
  founds_whole = weaker (code_of units its_tries sizes) (founds_code units its_tries sizes few) (λ read h. record {
    pieces = h.pieces;
    swept = h.swept;
    starts = h.starts;
    insns = h.insns;
    registers = (let same = h.registers in omega (arith, same, registers));
    kept = (regions_at (places_of units h.pieces)).found read.0.regions h.regions;
  })

  pub reads_code : Reads (HasBody bytes at f units) (OnLimit Passes) (code_of units its_tries sizes)
  reads_code = both_known founds_whole fails_whole
