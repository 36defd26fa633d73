-- A body that is read has the instructions that stand in the units.
use Rattle.std.proofs.Common.{◌≡◌, ◌≤◌, ◌<◌, ℕ, ◌^◌, true, List, length, Option, Some, None, Result, Ok, Err, refl, sym, ap, subst, arith}
use Rattle.std.specs.List.{list_all}
use Rattle.insn_set.specs.declared.form.Insn.{Insn}
use Rattle.program_model.specs.declared.body.Body.{Body}
use Rattle.program_model.specs.declared.body.Region.{Region}
use Rattle.code_read.specs.declared.fault.CodeFault.{CodeFault}
use Rattle.code_read.specs.declared.sizes.Sizes.{Sizes}
use Rattle.code_read.specs.Checks.{targets_inside}
use Rattle.code_read.specs.Code.{first_outside, check_targets, placed, body, body_at, code_of}
use Rattle.code_read.specs.Fault.{refuse}
use Rattle.code_read.specs.Positions.{nowhere}
use Rattle.code_read.specs.Regions.{regions_of}
use Rattle.code_read.proofs.First.{none_fails}
use Rattle.code_read.specs.Sweep.{sweep_of}
use Rattle.dex_defs.specs.Sweep.{Piece, Places, instructions, places_of}
use Rattle.dex_defs.specs.Instructions.{AreInsns}
use Rattle.file_laws.specs.Founds.{Founds}
use Rattle.file_laws.specs.Code.{IsBody}
use Rattle.file_laws.proofs.Founding.{weaker, done, failed, next}
use Rattle.file_laws.proofs.Sweeping.{Swept, founds_swept, are_instructed, fewer}
use Rattle.file_laws.proofs.Decoding.{founds_right, founds_read, are_insns, as_many}

pub whatever : {Y F : Type 0} (read : Result Y F) → Founds (λ y. Unit {0}) read
whatever read = record { found = λ y h. tt }

refused : (up : ℕ → CodeFault) (o : Option ℕ) → Founds (λ u. o ≡ None) (refuse up o)
refused up None = weaker (refuse up None) (done tt) (λ y p. refl)
refused up (Some k) = failed _

founds_targets : (starts : List ℕ) (insns : List Insn) → Founds (λ u. list_all (targets_inside (length insns)) insns ≡ true) (check_targets starts insns)
founds_targets starts insns = weaker (check_targets starts insns) (refused _ (first_outside insns)) (λ y p. none_fails (targets_inside (length insns)) insns p)

founds_placed : (starts : List ℕ) (insns : List Insn) (read : Result (List Region) CodeFault) → Founds (λ regions. read ≡ Ok regions) (placed starts insns read)
founds_placed starts insns (Ok regions) = weaker (placed starts insns (Ok regions)) (next (whatever _) (λ u _. done regions)) (λ y p. ap (λ (rs : List Region). Ok rs) (sym p.2))
founds_placed starts insns (Err e) = weaker (placed starts insns (Err e)) (next (whatever _) (λ u _. failed e)) (λ y p. p.2)

record IsSweep (units : List ℕ) (places : Places) : Type 0 where
  pieces : List Piece
  swept : Swept units 0 pieces (length units)
  is : places ≡ places_of units pieces

founds_sweep : (units : List ℕ) → Founds (IsSweep units) (sweep_of units)
unfolding sweep_of
founds_sweep units = weaker (sweep_of units) (next (founds_swept units) (λ ps _. done (places_of units ps))) (λ y p. record { pieces = p.0; swept = p.1; is = p.2 })

-- what is read at the places of a sweep
record BodyAt (tries : List ℕ) (sizes : Sizes) (units : List ℕ) (ps : List Piece) (b : Body) : Type 0 where
  insns : AreInsns (places_of units ps) (instructions ps) b.insns
  registers : b.registers ≡ sizes.registers
  ins : b.ins ≡ sizes.ins
  regions : regions_of tries sizes (places_of units ps) ≡ Ok b.regions

founds_body : (tries : List ℕ) (sizes : Sizes) (units : List ℕ) (ps : List Piece) → Swept units 0 ps (length units) → length units < 2 ^ 32 → Founds (BodyAt tries sizes units ps) (body_at tries sizes (places_of units ps))
unfolding body_at
founds_body tries sizes units ps swept few =
    let places = places_of units ps in
    let is = are_instructed units ps swept.lie in
    weaker (body_at tries sizes places)
    (next (founds_right places 67108864 (instructions ps)) (λ checked right.
    next (founds_read places sizes (instructions ps)) (λ insns read.
    next (founds_targets places.starts insns) (λ inside _.
    next (whatever _) (λ flows _.
    next (founds_placed places.starts insns (regions_of tries sizes places)) (λ regions _. done (body sizes insns regions)))))))
    (λ y p.
    let insns = p.2.0 in let read = p.2.1 in let inside = p.2.2.1 in let regions = p.2.2.2.2.1 in
    let low : length insns ≤ nowhere = omega (arith, as_many places (instructions ps) insns read, fewer ps, swept.few, few) in
    subst (BodyAt tries sizes units ps) (sym p.2.2.2.2.2) (record {
      insns = are_insns places (length insns) low (instructions ps) insns is p.1 read inside;
      registers = refl;
      ins = refl;
      regions = regions;
    }))

record BodyIn (tries : List ℕ) (sizes : Sizes) (units : List ℕ) (places : Places) (b : Body) : Type 0 where
  sweep : IsSweep units places
  body_is : BodyAt tries sizes units sweep.pieces b

founds_in : (tries : List ℕ) (sizes : Sizes) (units : List ℕ) (places : Places) → IsSweep units places → length units < 2 ^ 32 → Founds (BodyIn tries sizes units places) (body_at tries sizes places)
founds_in tries sizes units places is few = weaker (body_at tries sizes places)
    (subst (λ q. Founds (BodyAt tries sizes units is.pieces) (body_at tries sizes q)) (sym is.is) (founds_body tries sizes units is.pieces is.swept few))
    (λ b h. record { sweep = is; body_is = h })

pub founds_code : (units tries : List ℕ) (sizes : Sizes) → length units < 2 ^ 32 → Founds (IsBody units tries sizes) (code_of units tries sizes)
unfolding code_of
founds_code units tries sizes few = weaker (code_of units tries sizes)
    (next (founds_sweep units) (λ places is. next (founds_in tries sizes units places is few) (λ b _. done (b, places.starts))))
    (λ y p.
    let sweep = p.2.1.sweep in let body_is = p.2.1.body_is in
    subst (IsBody units tries sizes) (sym p.2.2) (record {
      pieces = sweep.pieces;
      swept = sweep.swept.to;
      starts = ap (λ (q : Places). q.starts) sweep.is;
      insns = body_is.insns;
      registers = body_is.registers;
      ins = body_is.ins;
      regions = body_is.regions;
    }))
