-- What a body that was read passed.
use Rattle.std.proofs.Common.{◌≡◌, ℕ, ◌-◌, true, false, List, [], length, refl, sym, ap, subst}
use Rattle.std.specs.Prelude.{slice_get, Option, Some, None, Result, Ok, Err}
use Rattle.std.specs.List.{list_all}
use Rattle.insn_set.specs.declared.form.Insn.{Insn}
use Rattle.program_model.specs.declared.body.Body.{Body}
use Rattle.program_model.specs.declared.body.Region.{Region}
use Rattle.code_read.specs.declared.fault.CodeFault.{CodeFault}
use Rattle.code_read.specs.declared.sizes.Sizes.{Sizes}
use Rattle.code_read.specs.Checks.{targets_inside}
use Rattle.code_read.specs.Code.{first_outside, check_targets, check_last, check_flow, first_gap, first_astray, check_places, placed, body, body_at, code_of}
use Rattle.code_read.specs.Decoded.{check_payloads, insns_of}
use Rattle.code_read.specs.Fault.{refuse}
use Rattle.code_read.specs.Order.{ends, all_placed}
use Rattle.code_read.specs.Regions.{regions_of}
use Rattle.code_read.specs.Sweep.{Places, sweep_of}
use Rattle.code_read.proofs.First.{none_fails, placed_all}
use Rattle.read_laws.proofs.BodyLists.{Found, weaker, done, failed, as_read, when, next}
use Rattle.read_laws.proofs.Operands.{are_read, as_many}

pub record Parts (tries : List ℕ) (sizes : Sizes) (places : Places) (b : Body) : Type 0 where
  pub payloads : check_payloads places 67108864 places.starts ≡ Ok tt
  pub insns : insns_of places sizes ≡ Ok b.insns
  pub inside : list_all (targets_inside (length b.insns)) b.insns ≡ true
  pub last : ends (slice_get b.insns (length b.insns - 1)) ≡ true
  pub regions : regions_of tries sizes places ≡ Ok b.regions
  pub placed : all_placed b.insns b.regions ≡ true
  pub registers : b.registers ≡ sizes.registers

none_refused : (fault : ℕ → CodeFault) (o : Option ℕ) → Found (λ u. o ≡ None) (refuse fault o)
none_refused fault None = record { found = λ u h. refl }
none_refused fault (Some k) = failed (fault k)

targets_right : (starts : List ℕ) (insns : List Insn) → Found (λ u. list_all (targets_inside (length insns)) insns ≡ true) (check_targets starts insns)
targets_right starts insns = weaker (check_targets starts insns) (none_refused _ (first_outside insns)) (λ u e. none_fails (targets_inside (length insns)) insns e)

flow_right : (units starts : List ℕ) (insns : List Insn) → Found (λ u. ends (slice_get insns (length insns - 1)) ≡ true) (check_flow units starts insns)
flow_right units starts insns = weaker (check_flow units starts insns)
    (next (none_refused _ (first_gap units starts insns)) (λ u _. weaker (check_last starts insns) (when _ (done tt)) (λ y p. p.0)))
    (λ y p. p.2)

places_right : (starts : List ℕ) (insns : List Insn) (regions : List Region) → Found (λ u. all_placed insns regions ≡ true) (check_places starts insns regions true)
places_right starts insns regions = weaker (check_places starts insns regions true) (none_refused _ (first_astray insns regions true)) (λ u e. placed_all insns regions true (sym e) refl)

abbrev Placed : List Insn → Result (List Region) CodeFault → List Region → Type 0
Placed insns read regions = (read ≡ Ok regions) × (all_placed insns regions ≡ true)

placed_right : (starts : List ℕ) (insns : List Insn) (read : Result (List Region) CodeFault) → Found (Placed insns read) (placed starts insns read)
placed_right starts insns (Ok rs) = weaker (placed starts insns (Ok rs)) (next (places_right starts insns rs) (λ u _. done rs))
    (λ y p. (ap (λ (x : List Region). Ok x) p.2, subst (λ (x : List Region). all_placed insns x ≡ true) p.2 p.1))
placed_right starts insns (Err e) = weaker (placed starts insns (Err e)) (next (as_read (check_places starts insns [] false)) (λ u _. failed {Is = Placed insns (Err e)} e)) (λ y p. p.2)

parts_at : (tries : List ℕ) (sizes : Sizes) (places : Places) → Found (Parts tries sizes places) (body_at tries sizes places)
unfolding body_at
parts_at tries sizes places = weaker (body_at tries sizes places)
    (next (as_read (check_payloads places 67108864 places.starts)) (λ checked _.
    next (as_read (insns_of places sizes)) (λ insns _.
    next (targets_right places.starts insns) (λ inside _.
    next (flow_right places.units places.starts insns) (λ flows _.
    next (placed_right places.starts insns (regions_of tries sizes places)) (λ regions _. done (body sizes insns regions)))))))
    (λ b p.
    subst (Parts tries sizes places) p.2.2.2.2.2 (record {
      payloads = p.1;
      insns = p.2.1;
      inside = p.2.2.1;
      last = p.2.2.2.1;
      regions = p.2.2.2.2.1.0;
      placed = p.2.2.2.2.1.1;
      registers = refl;
    }))

-- the parts, and the places of the units
pub record Whole (units tries : List ℕ) (sizes : Sizes) (b : Body) (starts : List ℕ) : Type 0 where
  pub places : Places
  pub swept : sweep_of units ≡ Ok places
  pub parts : Parts tries sizes places b
  pub as_many : length b.insns ≡ length starts

of_starts : (tries : List ℕ) (sizes : Sizes) (places : Places) (b : Body) → Parts tries sizes places b → length b.insns ≡ length places.starts
of_starts tries sizes places b parts = sym (as_many places sizes places.starts b.insns ((are_read places sizes places.starts).found b.insns parts.insns))

founds_whole : (units tries : List ℕ) (sizes : Sizes) → Found (λ read. Whole units tries sizes read.0 read.1) (code_of units tries sizes)
unfolding code_of
founds_whole units tries sizes = weaker (code_of units tries sizes)
    (next (as_read (sweep_of units)) (λ places _. next (parts_at tries sizes places) (λ b _. done (b, places.starts))))
    (λ y p. subst (λ (read : Body × List ℕ). Whole units tries sizes read.0 read.1) p.2.2 (record { places = p.0; swept = p.1; parts = p.2.1; as_many = of_starts tries sizes p.0 p.2.0 p.2.1 }))

pub whole_of : (units tries : List ℕ) (sizes : Sizes) (b : Body) (starts : List ℕ) → code_of units tries sizes ≡ Ok (b, starts) → Whole units tries sizes b starts
whole_of units tries sizes b starts h = (founds_whole units tries sizes).found (b, starts) h
