-- What the program's face says of a class, by its place.
use Rattle.std.proofs.Common.{◌≡◌, ℕ, Bool, true, false, ap, refl, sym, ◌∙◌}
use Rattle.std.specs.Prelude.{Option, Some, None, ◌&&◌, not, slice_get, option_and_then}
use Rattle.std.specs.Option.{option_map}
use Rattle.program_model.specs.declared.program.Class.{Class}
use Rattle.program_model.specs.declared.program.Program.{Program}
use Rattle.program_model.specs.MemberRules.{has_flag}
use Rattle.name_bridge.proofs.Flags.{abstract_flag, interface_flag}
use Rattle.dalvik_defs.specs.Names.{Text}
use Rattle.dalvik_defs.specs.Flags.{is_abstract, is_interface}
use Rattle.dalvik_defs.specs.Face.{is_concrete, is_plain_class}
use Rattle.dalvik_lookups.specs.declared.lookups.Lookups.{Lookups}
use Rattle.dalvik_lookups.specs.Facing.{run_face}
use Rattle.dalvik_lookups.specs.Tables.{class_has, place_named, IsRight}
use Rattle.dalvik_lookups.proofs.Calls.{class_there}
use Rattle.dalvik_lookups.proofs.Facing.{right_face}

abbrev flags_at : Program → Option ℕ → Option ℕ
flags_at p o = option_map (λ (k : Class). k.flags.0) (option_and_then (slice_get p.classes) o)

abbrev plain_by : Option ℕ → Bool
plain_by o = elim o as (λ o. Bool) [ Some n ↦ not (is_interface n) | None ↦ false ]

abbrev concrete_by : Option ℕ → Bool
concrete_by o = elim o as (λ o. Bool) [ Some n ↦ not (is_interface n) && not (is_abstract n) | None ↦ false ]

abbrev flagged : ℕ → Option Class → Bool
flagged bit o = elim o as (λ o. Bool) [ Some c ↦ has_flag c.flags bit | None ↦ false ]

pub plain_none : (l : Lookups) → IsRight l → (t : Text) → place_named l.program.now t ≡ None → false ≡ is_plain_class (run_face l) t
plain_none l r t e = sym (ap plain_by ((right_face l r).flags t ∙ ap (flags_at l.program.now) e))

pub plain_some : (l : Lookups) → IsRight l → (t : Text) (c : ℕ) → place_named l.program.now t ≡ Some c → not (class_has l.program.now c 512) ≡ is_plain_class (run_face l) t
plain_some l r t c e =
    let k = class_there l.program.now t c e in
    ap (λ (o : Option Class). not (flagged 512 o)) k.is
    ∙ ap not (interface_flag k.entry.flags)
    ∙ sym (ap plain_by ((right_face l r).flags t ∙ ap (flags_at l.program.now) e ∙ ap (option_map (λ (k : Class). k.flags.0)) k.is))

pub concrete_some : (l : Lookups) → IsRight l → (t : Text) (c : ℕ) → place_named l.program.now t ≡ Some c → (not (class_has l.program.now c 512) && not (class_has l.program.now c 1024)) ≡ is_concrete (run_face l) t
concrete_some l r t c e =
    let k = class_there l.program.now t c e in
    ap (λ (o : Option Class). not (flagged 512 o) && not (flagged 1024 o)) k.is
    ∙ (λ i. not (interface_flag k.entry.flags i) && not (abstract_flag k.entry.flags i))
    ∙ sym (ap concrete_by ((right_face l r).flags t ∙ ap (flags_at l.program.now) e ∙ ap (option_map (λ (k : Class). k.flags.0)) k.is))
