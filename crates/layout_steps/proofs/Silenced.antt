-- A program without its silent calls lays out.
use Rattle.std.proofs.Common.{inl, inr, ℕ, suc, Bool, true, false, List, [], ◌∷◌, Option, Some, None, refl, sym, subst}
use Rattle.std.specs.Prelude.{◌&&◌, not, slice_index_or, if◌then◌else◌}
use Rattle.std.specs.Option.{option_map}
use Rattle.std.proofs.lemmas.List.Elements.{All-map, All-weaker}
use Rattle.insn_set.specs.declared.form.Insn.{Insn}
use Rattle.insn_set.specs.declared.form.Insn.TheVariants as insn
use Rattle.program_model.specs.declared.body.Body.{Body}
use Rattle.program_model.specs.declared.program.Method.{Method}
use Rattle.program_model.specs.declared.program.Program.{Program}
use Rattle.pipeline.specs.Silence.{is_quiet, calls, begins_with_result, silenced_insns, silenced_body, silenced_method, silenced_class, silenced, IsSilent}
use Rattle.dex_defs.specs.LaysOut.{LaysOutMethod, LaysOutBody, LaysOut}
use Rattle.layout_law.specs.Shorter.{IsNoLonger, Same, Plain, AreNoLonger}
use Rattle.layout_law.proofs.Steps.{few_units}
use Rattle.layout_law.proofs.Shortened.{shortened}
use Rattle.layout_law.proofs.Methods.{MethodLies, ClassLies}

module _ (s : ℕ → Bool) where
  silenced_shorter : (n : ℕ) (is : List Insn) → AreNoLonger n is (silenced_insns s is)
  silenced_shorter n [] = tt
  silenced_shorter n (i ∷ is) = (by (calls s i && not (begins_with_result is)), silenced_shorter (suc n) is)
    where
      by : (b : Bool) → IsNoLonger n i (if b then insn.Nop else i)
      by true = Plain insn.Nop refl refl (few_units i)
      by false = Same

  body_lies : (b : Body) → LaysOutBody b → LaysOutBody (silenced_body s b)
  body_lies b l = shortened b (silenced_body s b) (record { insns = silenced_shorter 0 b.insns; regions = refl }) l

  code_lies : (o : Option Body) → LaysOutMethod o → LaysOutMethod (option_map (silenced_body s) o)
  code_lies None l = tt
  code_lies (Some b) l = body_lies b l

  method_lies : (admitted : List Bool) (m : Method) → MethodLies m → MethodLies (silenced_method s admitted m)
  method_lies admitted m l = by (slice_index_or admitted m.name false)
    where
      by : (b : Bool) → MethodLies (if b then record m { body = option_map (silenced_body s) m.body } else m)
      by true = code_lies m.body l
      by false = l

  pub program_lies : (admitted : List Bool) (p : Program) → LaysOut p → LaysOut (silenced s admitted p)
  program_lies admitted p l = All-map ClassLies (silenced_class s admitted) p.classes
      (All-weaker ClassLies (λ c. ClassLies (silenced_class s admitted c)) (λ c k. All-map MethodLies (silenced_method s admitted) c.methods
      (All-weaker MethodLies (λ m. MethodLies (silenced_method s admitted m)) (λ m i. method_lies admitted m i) c.methods k)) p.classes l)

pub silent_lies : (silent : List ℕ) (admitted : List Bool) (p q : Program) → IsSilent silent admitted p q → LaysOut p → LaysOut q
silent_lies silent admitted p q (inl e) l = subst LaysOut (sym e) (program_lies (is_quiet p silent) admitted p l)
silent_lies silent admitted p q (inr e) l = subst LaysOut (sym e.0) l
