-- A text or a type that a static field has first, and a flow through a form that is wrong.
use Rattle.std.proofs.Common.{◌≡◌, Bool, true, false, Option, Some, None, refl, sym, ap, ◌∙◌}
use Rattle.std.specs.Prelude.{◌&&◌, ◌||◌, not, nat_eq}
use Rattle.dalvik_defs.specs.Names.{Text}
use Rattle.dalvik_defs.specs.Fields.{first_layer, first_value}
use Rattle.dalvik_defs.specs.declared.state.Value.{Value}
use Rattle.dalvik_defs.specs.declared.state.Value.TheVariants.{Word}
use Rattle.dalvik_defs.specs.declared.encoded.NamedValue.{NamedValue, fold-roll-NamedValue}
use Rattle.dalvik_defs.specs.declared.encoded.NamedValue.TheOpen as layer
use Rattle.dalvik_defs.specs.declared.encoded.NamedValue.TheVariants as value
use Rattle.dalvik_defs.specs.declared.forms.Form.{Form}
use Rattle.dalvik_defs.specs.declared.program.NamedBody.{NamedBody}
use Rattle.dalvik_defs.specs.declared.program.NamedMethod.{NamedMethod}
use Rattle.dalvik_defs.specs.declared.program.NamedClass.{NamedClass}
use Rattle.dalvik_defs.specs.declared.program.NamedProgram.{NamedProgram}
use Rattle.pass_defs.specs.Walks.{form_at}
use Rattle.pass_defs.specs.Registers.{Kinds, state_below}
use Rattle.pass_defs.specs.Demands.{is_refused}
use Rattle.pass_defs.specs.Typed.{Table, state_at, begun, is_text_or_type, is_wrong, IsFlow, is_ill_at}

pub first_text : (t : Text) → is_text_or_type (first_value (value.Str t)) ≡ true
first_text t = ap (λ (z : NamedValue). is_text_or_type (first_value z)) (sym (value.rolls-Str t)) ∙ ap is_text_or_type (fold-roll-NamedValue Value Value Value first_layer (λ e. Word 0) (λ n. Word 0) (layer.Str t))

pub first_type : (t : Text) → is_text_or_type (first_value (value.Class t)) ≡ true
first_type t = ap (λ (z : NamedValue). is_text_or_type (first_value z)) (sym (value.rolls-Class t)) ∙ ap is_text_or_type (fold-roll-NamedValue Value Value Value first_layer (λ e. Word 0) (λ n. Word 0) (layer.Class t))

-- a flow has kinds at the entry, so a body whose first form is wrong is ill typed there
pub ill_first : (p : NamedProgram) (c : NamedClass) (m : NamedMethod) (b : NamedBody) (f : Form) → form_at b 0 ≡ Some f → ((a : Kinds) → is_wrong p c m a f ≡ true) → (t : Table) → IsFlow p c m b t → is_ill_at p c m b t 0 0 ≡ true
ill_first p c m b f there wrong t flow =
    ap (λ o. not (elim o as (λ o. Bool) [ Some f ↦ elim (state_at t 0) as (λ s. Bool) [ Some a ↦ not (is_refused p c m a f 0 || (is_wrong p c m a f && nat_eq 0 0)) | None ↦ true ] | None ↦ true ])) there
    ∙ by (state_at t 0) flow.entry
  where
    both : (x y : Bool) → y ≡ true → not (not (x || (y && nat_eq 0 0))) ≡ true
    both true y e = refl
    both false true e = refl
    both false false e = e

    by : (s : Option Kinds) → state_below p (Some (begun p c m b)) s ≡ true → not (elim s as (λ s. Bool) [ Some a ↦ not (is_refused p c m a f 0 || (is_wrong p c m a f && nat_eq 0 0)) | None ↦ true ]) ≡ true
    by (Some a) e = both (is_refused p c m a f 0) (is_wrong p c m a f) (wrong a)
    by None e = e
