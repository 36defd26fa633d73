-- A method that isn't admitted stays whole where silent calls of the others become nops.
use Rattle.std.proofs.Common.{◌≡◌, ◌⊎◌, inl, inr, ℕ, ◌≤◌, Bool, true, false, true≢false, List, Option, Some, None, refl, sym, ◌∙◌, subst, arith}
use Rattle.std.specs.Prelude.{map, if◌then◌else◌, slice_index_or}
use Rattle.std.specs.Option.{option_map}
use Rattle.program_model.specs.declared.body.Body.{Body}
use Rattle.program_model.specs.declared.program.Class.{Class}
use Rattle.program_model.specs.declared.program.Method.{Method}
use Rattle.program_model.specs.declared.program.Program.{Program}
use Rattle.bodies_kept.specs.Stays.{NoMoreRegisters, MethodStays, ClassStays, Stays}
use Rattle.bodies_kept.proofs.Standing.{in_map}
use Rattle.bodies_kept.proofs.Staying.{method_same, stays_same}
use Rattle.pipeline.specs.Graph.{HasGraphFault}
use Rattle.pipeline.specs.Silence.{is_quiet, silenced_body, silenced_method, silenced_class, silenced, IsSilent}

module _ (s : ℕ → Bool) (admitted : List Bool) where
  silent_registers : (b : Option Body) → NoMoreRegisters b (option_map (silenced_body s) b)
  silent_registers None = tt
  silent_registers (Some b) = (omega arith, refl)

  silent_method : (m : Method) → MethodStays admitted m (silenced_method s admitted m)
  silent_method m = by (slice_index_or admitted m.name false) refl
    where
      by : (b : Bool) → slice_index_or admitted m.name false ≡ b → MethodStays admitted m (if b then record m { body = option_map (silenced_body s) m.body } else m)
      by true i = record { rest = refl; refused = λ e. absurd (true≢false (sym i ∙ e)); registers = silent_registers m.body }
      by false i = method_same admitted m

  silent_class : (c : Class) → ClassStays admitted c (silenced_class s admitted c)
  silent_class c = record {
    rest = refl;
    fields = λ f t. t;
    methods = λ n t. let m = in_map (silenced_method s admitted) c.methods n t in (m.0, (m.1.0, subst (λ n. MethodStays admitted m.0 n) m.1.1 (silent_method m.0)));
  }

  silenced_stays : (p : Program) → Stays admitted p (silenced s admitted p)
  silenced_stays p = record {
    rest = refl;
    classes = λ d t. let c = in_map (silenced_class s admitted) p.classes d t in (c.0, (c.1.0, subst (λ d. ClassStays admitted c.0 d) c.1.1 (silent_class c.0)));
  }

pub silent_stays : (silent : List ℕ) (admitted : List Bool) (p q : Program) → IsSilent silent admitted p q → Stays admitted p q
silent_stays silent admitted p q (inl e) = subst (λ (x : Program). Stays admitted p x) (sym e) (silenced_stays (is_quiet p silent) admitted p)
silent_stays silent admitted p q (inr same) = subst (λ (x : Program). Stays admitted p x) (sym same.0) (stays_same admitted p)
