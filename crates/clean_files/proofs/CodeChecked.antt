-- What a code that is read has passed.
use Rattle.std.proofs.Common.{◌≡◌, ◌≤◌, ◌<◌, ◌^◌, ℕ, ◌-◌, true, List, length, Option, Some, None, Result, Ok, Err, refl, sym, ap, subst, arith}
use Rattle.std.specs.Prelude.{slice_get}
use Rattle.insn_set.specs.declared.form.Insn.{Insn}
use Rattle.program_model.specs.declared.body.Body.{Body}
use Rattle.program_model.specs.declared.body.Region.{Region}
use Rattle.code_read.specs.declared.fault.CodeFault.{CodeFault}
use Rattle.code_read.specs.declared.sizes.Sizes.{Sizes}
use Rattle.code_read.specs.Checks.{operands_inside, targets_inside}
use Rattle.code_read.specs.Code.{first_gap, first_outside, first_astray, check_targets, check_last, check_flow, placed, body, body_at, code_of}
use Rattle.code_read.specs.Decoded.{insn_at, checked_at}
use Rattle.code_read.specs.Fault.{refuse}
use Rattle.code_read.specs.Order as order
use Rattle.code_read.specs.Positions.{nowhere}
use Rattle.code_read.specs.Regions.{regions_of}
use Rattle.code_read.specs.Sweep.{sweep_of}
use Rattle.code_read.proofs.First.{none_fails}
use Rattle.std.specs.List.{list_all}
use Rattle.dex_defs.specs.Sweep.{Piece, Places, instructions, places_of}
use Rattle.dex_defs.specs.Instructions.{AreInsns}
use Rattle.file_laws.specs.Founds.{Founds}
use Rattle.file_laws.proofs.Bodies.{whatever}
use Rattle.file_laws.proofs.Decoding.{founds_right, founds_read, are_insns, as_many}
use Rattle.file_laws.proofs.Founding.{weaker, done, failed, when, next}
use Rattle.file_laws.proofs.Sweeping.{Swept, founds_swept, are_instructed, fewer}
use Rattle.refused_code.proofs.Reading.{AreRead, founds_insns}

-- instructions that stand, with their operands in range, each of which the next one follows where it continues; and the regions of the
-- try items, with which no move of a result or a caught object is astray
pub record Checked (tries : List ℕ) (sizes : Sizes) (units : List ℕ) (ps : List Piece) (insns : List Insn) (regions : List Region) : Type 0 where
  pub are : AreInsns (places_of units ps) (instructions ps) insns
  pub inside : (k : ℕ) (insn : Insn) → slice_get insns k ≡ Some insn → operands_inside sizes insn ≡ true
  pub many : length insns ≡ length (instructions ps)
  pub flows : first_gap units (places_of units ps).starts insns ≡ None
  pub ends : order.ends (slice_get insns (length insns - 1)) ≡ true
  pub regions_are : regions_of tries sizes (places_of units ps) ≡ Ok regions
  pub right : first_astray insns regions true ≡ None

both : {Y F : Type 0} {One Two : Y → Type 0} {read : Result Y F} → Founds One read → Founds Two read → Founds (λ y. One y × Two y) read
both f g = record { found = λ y h. (f.found y h, g.found y h) }

-- ---- the parts

founds_inside : (places : Places) (sizes : Sizes) (start : ℕ) → Founds (λ insn. operands_inside sizes insn ≡ true) (checked_at places sizes start)
unfolding checked_at
founds_inside places sizes start = weaker (checked_at places sizes start) (next (whatever (insn_at places start)) (λ insn _. when _ (done insn)))
    (λ y q. subst (λ (i : Insn). operands_inside sizes i ≡ true) (sym q.2.1) q.2.0)

founds_none : (up : ℕ → CodeFault) (o : Option ℕ) → Founds (λ u. o ≡ None) (refuse up o)
founds_none up None = weaker (refuse up None) (done tt) (λ y p. refl)
founds_none up (Some k) = failed _

founds_targets : (starts : List ℕ) (insns : List Insn) → Founds (λ u. list_all (targets_inside (length insns)) insns ≡ true) (check_targets starts insns)
founds_targets starts insns = weaker (check_targets starts insns) (founds_none _ (first_outside insns)) (λ y p. none_fails (targets_inside (length insns)) insns p)

founds_last : (starts : List ℕ) (insns : List Insn) → Founds (λ u. order.ends (slice_get insns (length insns - 1)) ≡ true) (check_last starts insns)
founds_last starts insns = weaker (check_last starts insns) (when _ (done tt)) (λ y q. q.0)

abbrev Flows : List ℕ → List ℕ → List Insn → Type 0
Flows units starts insns = (first_gap units starts insns ≡ None) × (order.ends (slice_get insns (length insns - 1)) ≡ true)

founds_flow : (units starts : List ℕ) (insns : List Insn) → Founds (λ u. Flows units starts insns) (check_flow units starts insns)
founds_flow units starts insns = weaker (check_flow units starts insns) (next (founds_none _ (first_gap units starts insns)) (λ u _. founds_last starts insns)) (λ y q. (q.1, q.2))

abbrev IsPlaced : List Insn → Result (List Region) CodeFault → List Region → Type 0
IsPlaced insns read regions = (read ≡ Ok regions) × (first_astray insns regions true ≡ None)

founds_placed : (starts : List ℕ) (insns : List Insn) (read : Result (List Region) CodeFault) → Founds (IsPlaced insns read) (placed starts insns read)
founds_placed starts insns (Ok regions) = weaker (placed starts insns (Ok regions)) (next (founds_none _ (first_astray insns regions true)) (λ u _. done regions))
    (λ y p. (ap (λ (rs : List Region). Ok rs) (sym p.2), subst (λ (rs : List Region). first_astray insns rs true ≡ None) (sym p.2) p.1))
founds_placed starts insns (Err e) = weaker (placed starts insns (Err e)) (next (whatever _) (λ u _. failed e)) (λ y p. p.2)

-- ---- the body

founds_body : (tries : List ℕ) (sizes : Sizes) (units : List ℕ) (ps : List Piece) → Swept units 0 ps (length units) → length units < 2 ^ 32 → Founds (λ b. Checked tries sizes units ps b.insns b.regions) (body_at tries sizes (places_of units ps))
unfolding body_at
founds_body tries sizes units ps swept few =
    let places = places_of units ps in
    weaker (body_at tries sizes places)
    (next (founds_right places 67108864 (instructions ps)) (λ checked right.
    next (both (founds_read places sizes (instructions ps)) (founds_insns places sizes (instructions ps))) (λ insns read.
    next (founds_targets places.starts insns) (λ inside _.
    next (founds_flow units places.starts insns) (λ flows _.
    next (founds_placed places.starts insns (regions_of tries sizes places)) (λ regions _. done (body sizes insns regions)))))))
    (λ y p.
    let insns = p.2.0 in let read = p.2.1 in let inside = p.2.2.1 in let rest = p.2.2.2 in let flows = rest.1 in let last = rest.2 in
    let reads : AreRead places sizes (instructions ps) insns = read.1 in
    let low : length insns ≤ nowhere = omega (arith, as_many places (instructions ps) insns read.0, fewer ps, swept.few, few) in
    subst (λ (b : Body). Checked tries sizes units ps b.insns b.regions) (sym last.2) (record {
      are = are_insns places (length insns) low (instructions ps) insns (are_instructed units ps swept.lie) p.1 read.0 inside;
      inside = λ k insn there. let x = reads.each k insn there in (founds_inside places sizes x.0.start).found insn x.2;
      many = reads.many;
      flows = flows.0;
      ends = flows.1;
      regions_are = last.1.0;
      right = last.1.1;
    }))

-- ---- the whole code

record IsSweep (units : List ℕ) (places : Places) : Type 0 where
  pieces : List Piece
  swept : Swept units 0 pieces (length units)
  is : places ≡ places_of units pieces

founds_sweep : (units : List ℕ) → Founds (IsSweep units) (sweep_of units)
unfolding sweep_of
founds_sweep units = weaker (sweep_of units) (next (founds_swept units) (λ ps _. done (places_of units ps))) (λ y p. record { pieces = p.0; swept = p.1; is = p.2 })

-- the pieces of the units, and what they have passed
pub record IsChecked (units tries : List ℕ) (sizes : Sizes) : Type 0 where
  pub pieces : List Piece
  pub swept : Swept units 0 pieces (length units)
  pub insns : List Insn
  pub regions : List Region
  pub checked : Checked tries sizes units pieces insns regions

founds_in : (tries : List ℕ) (sizes : Sizes) (units : List ℕ) (places : Places) → IsSweep units places → length units < 2 ^ 32 → Founds (λ b. IsChecked units tries sizes) (body_at tries sizes places)
founds_in tries sizes units places is few = weaker (body_at tries sizes places)
    (subst (λ q. Founds (λ b. Checked tries sizes units is.pieces b.insns b.regions) (body_at tries sizes q)) (sym is.is) (founds_body tries sizes units is.pieces is.swept few))
    (λ b h. record { pieces = is.pieces; swept = is.swept; insns = b.insns; regions = b.regions; checked = h })

pub founds_checked : (units tries : List ℕ) (sizes : Sizes) → length units < 2 ^ 32 → Founds (λ r. IsChecked units tries sizes) (code_of units tries sizes)
unfolding code_of
founds_checked units tries sizes few = weaker (code_of units tries sizes)
    (next (founds_sweep units) (λ places is. next (founds_in tries sizes units places is few) (λ b _. done (b, places.starts))))
    (λ y p. p.2.1)
