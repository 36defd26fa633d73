-- Receivers by the places of their classes.
use Rattle.std.proofs.Common.{◌≡◌, ℕ, Bool, true, false, true≢false, Option, Some, None, sym, ap, ◌∙◌, subst}
use Rattle.std.specs.Prelude.{option_and_then, slice_get, is_some}
use Rattle.class_defs.proofs.Positions.{find_place, place_entry}
use Rattle.dalvik_defs.proofs.Calm.{text_sound}
use Rattle.dalvik_defs.specs.Names.{Text, text_eq}
use Rattle.dalvik_defs.specs.Under.{class_named, defines}
use Rattle.dalvik_defs.specs.declared.forms.Form.{Form}
use Rattle.dalvik_defs.specs.declared.names.MethodKey.{MethodKey}
use Rattle.dalvik_defs.specs.declared.program.NamedClass.{NamedClass}
use Rattle.dalvik_defs.specs.declared.program.NamedProgram.{NamedProgram}
use Rattle.dalvik_defs.specs.declared.state.Value.{Value}
use Rattle.dalvik_defs.specs.declared.state.Value.TheVariants as machine
use Rattle.domains.specs.Datum.{Object}
use Rattle.domains.specs.Values.{Parts, value_holds}
use Rattle.pass_defs.specs.Analysis.{IsReference}
use Rattle.pass_defs.specs.Facts.{Facts}
use Rattle.run_facts.specs.ValueAnalysis.{Numbers, class_place, datum_of, value_analysis}
use Rattle.rebind_law.specs.Receivers.{FindsListed, BoundByFacts, BoundByPlaces}

-- an object that a value holds of is of a class, or of none of the program
reference_datum : (p : NamedProgram) (u : Text) (v : Value) (y : Parts) → IsReference v → value_holds y (datum_of p u v) → (class : Option ℕ) × (value_holds y (Object class) × ((c : ℕ) → class ≡ Some c → class_place p u ≡ Some c))
reference_datum p u (machine.Object n) y r h = (class_place p u, (h, λ c e. e))
reference_datum p u (machine.Literal t) y r h = (None, (h, λ c e. absurd (true≢false (sym (ap is_some e)))))
reference_datum p u (machine.Class t) y r h = (None, (h, λ c e. absurd (true≢false (sym (ap is_some e)))))
reference_datum p u (machine.Word n) y r h = absurd r
reference_datum p u (machine.Low n) y r h = absurd r
reference_datum p u (machine.High n) y r h = absurd r

pub by_places : (p : NamedProgram) (numbers : Numbers) (t : Facts Parts) (k : MethodKey) (n : ℕ) (f g : Form) → BoundByPlaces p t k n f g → BoundByFacts (value_analysis p numbers) p t k n f g
by_places p numbers t k n f g h = record {
  call = h.call;
  found = h.found;
  coded = h.coded;
  finds = λ x u v e r held. at x u e (reference_datum p u v (x h.call.on) r held);
}
  where
    at : (x : ℕ → Parts) (u : Text) → t.registers k n ≡ Some x → (class : Option ℕ) × (value_holds (x h.call.on) (Object class) × ((c : ℕ) → class ≡ Some c → class_place p u ≡ Some c)) → (defines p u ≡ true) × FindsListed p h.call.old h.call.new h.found u
    at x u e d =
        let w = h.within x d.0 e d.1.0 in
        let place : class_place p u ≡ Some w.0 = d.1.1 w.0 w.1.0 in
        let s = place_entry (λ (c : NamedClass). text_eq c.name u) p.classes w.0 place in
        let first : class_named p u ≡ Some s.entry = find_place (λ (c : NamedClass). text_eq c.name u) p.classes ∙ (ap (option_and_then (slice_get p.classes)) place ∙ s.is) in
        (ap (λ o. elim o as (λ o. Bool) [ Some c ↦ true | None ↦ false ]) first, subst (FindsListed p h.call.old h.call.new h.found) (text_sound s.entry.name u s.passes) (h.finds w.0 s.entry w.1.1 s.is))
