-- Code of several methods, one behind another.
use Rattle.std.proofs.Common.{◌<◌, map, drop, get_or, ◌≡◌, ℕ, ◌+◌, List, [], ◌∷◌, ◌++◌, length, refl, sym, ap, ◌∙◌, append_assoc}
use Rattle.std.specs.List.{AllByRecursion}
use Rattle.std.specs.Prelude.{Option, Some, Result, Ok, Err, IfOk}
use Rattle.std.specs.declared.alloc.AllocError.{AllocError}
use Rattle.program_model.specs.declared.pass.Renumber.{Renumber}
use Rattle.program_model.specs.declared.body.Body.{Body}
use Rattle.program_model.specs.declared.program.Method.{Method}
use Rattle.program_model.specs.declared.program.Program.{Program}
use Rattle.program_model.specs.MemberRules.{proto_of}
use Rattle.relax.specs.declared.layout.Layout.{Layout}
use Rattle.relax.specs.Layouts.{IsLaidOut}
use Rattle.code_write.specs.Code.{spots_of}
use Rattle.code_write.specs.Items.{code_item}
use Rattle.dex_write.specs.declared.codes.Code.{Code}
use Rattle.dex_write.specs.declared.ordered.MethodPart.{MethodPart}
use Rattle.dex_write.specs.declared.ordered.Ordered.{Ordered}
use Rattle.dex_write.specs.Plans.{plan_in}
use Rattle.dex_write.proofs.TakeLemmas.{drop_one}
use Rattle.dex_write.specs.Codes.{IsCoded, Laid, parameters_in, lines_text, parts_of, code_behind, codes_behind, lines_behind, codes_text, code_text, debug_offset}

pub codes_behind_append : (at : ℕ) (ms ns : List MethodPart) → codes_behind at (ms ++ ns) ≡ codes_behind (codes_behind at ms) ns
codes_behind_append at [] ns = refl
codes_behind_append at (m ∷ ms) ns = codes_behind_append (code_behind at m) ms ns

pub codes_text_append : (at lines : ℕ) (ms ns : List MethodPart) → codes_text at lines (ms ++ ns) ≡ codes_text at lines ms ++ codes_text (codes_behind at ms) (lines_behind lines ms) ns
codes_text_append at lines [] ns = refl
codes_text_append at lines (m ∷ ms) ns =
    ap (λ (l : List ℕ). code_text at (debug_offset lines m) m ++ l) (codes_text_append (code_behind at m) (lines + length m.lines) ms ns)
    ∙ sym (append_assoc (code_text at (debug_offset lines m) m) (codes_text (code_behind at m) (lines + length m.lines) ms) (codes_text (codes_behind (code_behind at m) ms) (lines_behind (lines + length m.lines) ms) ns))

pub all_push : {X : Type 0} (P : X → Type 0) (xs : List X) (x : X) → AllByRecursion P xs → P x → AllByRecursion P (xs ++ x ∷ [])
all_push P [] x h k = (k, tt)
all_push P (y ∷ ys) x h k = (h.0, all_push P ys x h.1 k)

pub lines_behind_append : (at : ℕ) (ms ns : List MethodPart) → lines_behind at (ms ++ ns) ≡ lines_behind (lines_behind at ms) ns
lines_behind_append at [] ns = refl
lines_behind_append at (m ∷ ms) ns = lines_behind_append (at + length m.lines) ms ns

-- the parts of the classes from one on
pub parts_drop : (order : List Ordered) (i : ℕ) (o : Ordered) → i < length order → o ≡ get_or order i o → parts_of (map plan_in (drop i order)) ≡ o.methods ++ parts_of (map plan_in (drop (i + 1) order))
parts_drop order i o lt is = ap (λ l. parts_of (map plan_in l)) (drop_one order i o lt is)

pub behind_step : (at next : ℕ) (whole ms rest : List MethodPart) (total : ℕ) → whole ≡ ms ++ rest → next ≡ codes_behind at ms → codes_behind at whole ≡ total → codes_behind next rest ≡ total
behind_step at next whole ms rest total w e h = ap (λ n. codes_behind n rest) e ∙ sym (codes_behind_append at ms rest) ∙ ap (codes_behind at) (sym w) ∙ h

pub text_step : (at lines next more : ℕ) (whole ms rest : List MethodPart) (old new total : List ℕ) → whole ≡ ms ++ rest → next ≡ codes_behind at ms → more ≡ lines_behind lines ms → new ≡ old ++ codes_text at lines ms
    → old ++ codes_text at lines whole ≡ total → new ++ codes_text next more rest ≡ total
text_step at lines next more whole ms rest old new total w e f g h =
    ap (λ l. l ++ codes_text next more rest) g
    ∙ ap (λ n. (old ++ codes_text at lines ms) ++ codes_text n more rest) e
    ∙ ap (λ n. (old ++ codes_text at lines ms) ++ codes_text (codes_behind at ms) n rest) f
    ∙ append_assoc old (codes_text at lines ms) (codes_text (codes_behind at ms) (lines_behind lines ms) rest)
    ∙ ap (λ l. old ++ l) (sym (ap (codes_text at lines) w ∙ codes_text_append at lines ms rest))
    ∙ h

-- what has a layout is coded
pub laid_is_coded : (p : Program) (r : Renumber) (m : Method) (body : Body) (layout : Layout) (made : Result Code AllocError) → m.body ≡ Some body → IsLaidOut r body layout
    → IfOk made (λ c. c.code.items ≡ code_item r body (spots_of layout) 0) → IfOk made (λ c. c.lines.items ≡ lines_text (parameters_in (proto_of p m.name)) m.lines layout.starts.items)
    → IfOk made (λ c. IsCoded p r m c.code.items c.lines.items)
laid_is_coded p r m body layout (Ok c) is laid code lines = Laid body layout is laid code lines
laid_is_coded p r m body layout (Err e) is laid code lines = tt
