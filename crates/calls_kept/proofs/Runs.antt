-- In each run of a program that certified facts cover, calls that do nothing enter quiet methods, and divisions that do nothing write
-- no more than their registers.
use Rattle.std.proofs.Common.{◌≡◌, ℕ, suc, Bool, true, List, ◌∷◌, length, Option, Some, refl, sym, ap, ◌∙◌, subst}
use Rattle.std.specs.Prelude.{slice_get}
use Rattle.std.specs.Option.{unwrap_or}
use Rattle.insn_set.specs.Flow.{divides}
use Rattle.insn_set.specs.Widths.{binary_is_wide}
use Rattle.insn_set.specs.declared.ops.BinaryOp.{BinaryOp}
use Rattle.insn_set.specs.declared.ops.InvokeKind.{InvokeKind}
use Rattle.insn_set.specs.declared.form.Insn.{Insn}
use Rattle.insn_set.specs.declared.form.Insn.TheVariants as insn
use Rattle.program_model.specs.ProgramRules.{is_well_formed}
use Rattle.program_model.specs.declared.body.Body.{Body}
use Rattle.program_model.specs.declared.program.Method.{Method}
use Rattle.program_model.specs.declared.program.Program.{Program}
use Rattle.class_defs.specs.ClassGraph.{IsTwice, IsAncestor}
use Rattle.class_defs.proofs.WellFormed.{Sound, sound}
use Rattle.dalvik_defs.specs.Act.{act}
use Rattle.dalvik_defs.specs.Effect.{register}
use Rattle.dalvik_defs.specs.Face.{face_of, bodies_of}
use Rattle.dalvik_defs.specs.Names.{Text}
use Rattle.dalvik_defs.specs.Naming.{form_of, named}
use Rattle.dalvik_defs.specs.Naming as naming
use Rattle.dalvik_defs.specs.Outcome.{need_of, outcome}
use Rattle.dalvik_defs.specs.Outer.{Outer}
use Rattle.dalvik_defs.specs.Quiet.{EndsWithin, quiet_within, calm_opening}
use Rattle.dalvik_defs.specs.Shown.{Fit}
use Rattle.dalvik_defs.specs.Stack.{form_at as form_here}
use Rattle.dalvik_defs.specs.State.{World, Classes, State, kind_of}
use Rattle.dalvik_defs.specs.Step.{setting_of}
use Rattle.dalvik_defs.specs.declared.state.Frame.{Frame}
use Rattle.dalvik_defs.specs.declared.forms.Form.{Form}
use Rattle.dalvik_defs.specs.declared.forms.Form.TheVariants as form
use Rattle.dalvik_defs.specs.declared.names.MethodKey.{MethodKey}
use Rattle.dalvik_defs.specs.declared.program.NamedProgram.{NamedProgram}
use Rattle.dalvik_defs.specs.declared.script.Move.{Move}
use Rattle.dalvik_defs.specs.declared.tables.Floats.{Floats}
use Rattle.dalvik_defs.specs.declared.tables.Framework.{Framework}
use Rattle.dalvik_defs.proofs.Frames.{now}
use Rattle.domains.specs.Values.{Parts, value_holds}
use Rattle.dom_frame.specs.Registers.{value_at}
use Rattle.dom_frame.specs.declared.frames.Frame.{Frame as Values}
use Rattle.facts.specs.Lent.{frame_at}
use Rattle.facts.specs.declared.facts.Facts.{Facts}
use Rattle.hierarchy.specs.Ranks.{IsRanked}
use Rattle.receivers.specs.Receiving.{is_straight}
use Rattle.lemmas.proofs.Options.{some_same}
use Rattle.pass_defs.specs.Bare.{writes}
use Rattle.facts_kept.specs.Names.{method_number, named_facts}
use Rattle.facts_kept.proofs.Numbers.{IsNumber}
use Rattle.run_facts.specs.ValueAnalysis.{datum_of, value_analysis}
use Rattle.cover_law.specs.Operators.{operators}
use Rattle.cover_law.specs.Coverable.{IsCoverable, IsFormed}
use Rattle.cover_law.proofs.Stays.{Is, looks}
use Rattle.cover_law.proofs.Suits.{suits}
use Rattle.cover_law.proofs.Waiting.{formed}
use Rattle.cover_law.proofs.Along.{Suits}
use Rattle.cover_law.proofs.Widths.{ranged_moves}
use Rattle.program_laws.specs.Agree.{Agree}
use Rattle.quiet_methods.specs.Forms.{is_no_zero}
use Rattle.quiet_methods.specs.Quiet.{IsCode, AreQuiet}
use Rattle.quiet_methods.specs.Falling.{rank_of}
use Rattle.quiet_code.specs.Calls.{is_idle_call}
use Rattle.quiet_code.specs.Idle.{divides_well}
use Rattle.quiet_code.specs.Quieted.{Frames}
use Rattle.thin_laws.specs.Calls.{Rank, Gone, EntersQuietly, WorksAlone, QuietRuns}
use Rattle.calls_kept.proofs.Standing.{Run, Stands, stands_there, Framed, framed, same_code, form_same, form_there, A, T, S, settled, based, setting, Reaches, begins, keeps, method as method_of, body as code_of, insn as insn_of}
use Rattle.calls_kept.proofs.Dividing.{Writes, division_writes}
use Rattle.calls_kept.proofs.Entering.{QuietKey, now_is, idle_enters}
use Rattle.calls_kept.proofs.Advancing.{advances}

-- a call that does nothing, by the name of a method and by position
pub record GoneAt (p : Program) (s : Sound p) (marks : List Bool) (frames : Frames) (k : MethodKey) (n : ℕ) : Type 0 where
  pub method : Method
  pub body : Body
  pub code : IsCode p method body
  pub is_number : IsNumber p s k method.name
  pub kind : InvokeKind
  pub callee : ℕ
  pub args : List ℕ
  pub there : slice_get body.insns n ≡ Some (insn.Invoke kind callee args)
  pub idle : is_idle_call p marks (frame_at frames method.name n) kind callee args ≡ true

-- a division by what is known other than 0
pub record SpareAt (p : Program) (s : Sound p) (frames : Frames) (k : MethodKey) (n : ℕ) : Type 0 where
  pub method : Method
  pub body : Body
  pub code : IsCode p method body
  pub is_number : IsNumber p s k method.name
  pub op : BinaryOp
  pub to : ℕ
  pub x : ℕ
  pub y : ℕ
  pub there : slice_get body.insns n ≡ Some (insn.Binary op to x y)
  pub well : divides_well (frame_at frames method.name n) y ≡ true

module _ (program : Program) (facts : Facts) (o : Outer) (f : Framework) (floats : Floats) (script : List Move) (run : Run program facts o f floats script) (marks : List Bool) (w : World) (cs : Classes) (g : Frame)
    (st : Stands program facts o f floats script run w cs g) where
  abbrev sd : Sound program
  sd = S program facts o f floats script run

  -- the instruction that stands there, by its number in a method of that name
  insn_there : (m : Method) (b : Body) (i : Insn) → IsCode program m b → IsNumber program sd g.method m.name → slice_get b.insns g.position ≡ Some i → insn_of program facts o f floats script run w cs g st ≡ i
  insn_there m b i code number there =
      let e = same_code program facts o f floats script run w cs g st m b code number in
      some_same (insn_of program facts o f floats script run w cs g st) i (sym st.number.here.has_insn ∙ (ap (λ (b : Body). slice_get b.insns g.position) (sym e.1) ∙ there))

  method_there : (m : Method) (b : Body) → IsCode program m b → IsNumber program sd g.method m.name → m ≡ method_of program facts o f floats script run w cs g st
  method_there m b code number = (same_code program facts o f floats script run w cs g st m b code number).0

  form_is : (i : Insn) → insn_of program facts o f floats script run w cs g st ≡ i → st.form ≡ form_of program i
  form_is i e = sym (form_same program facts o f floats script run w cs g st) ∙ ap (form_of program) e

  abbrev frame_for : Method → Option Values
  frame_for m = frame_at facts.frames.items m.name g.position

  pub gone_enters : GoneAt program sd marks facts.frames.items g.method g.position → EntersQuietly (setting_of (named program) o f floats) (bodies_of (named program)) (QuietKey program sd marks) w cs g
  gone_enters h = idle_enters program facts o f floats script run marks w cs g st h.kind h.callee h.args
      (form_is (insn.Invoke h.kind h.callee h.args) (insn_there h.method h.body (insn.Invoke h.kind h.callee h.args) h.code h.is_number h.there))
      (ap (λ (m : Method). is_idle_call program marks (frame_for m) h.kind h.callee h.args) (sym (method_there h.method h.body h.code h.is_number)) ∙ h.idle)

  -- ---- divisions

  module _ (op : BinaryOp) (to x y : ℕ) (e : st.form ≡ form.Binary op to x y) (well : divides_well (frame_for (method_of program facts o f floats script run w cs g st)) y ≡ true) where
    abbrev at : Form
    at = form.Binary op to x y

    is_at : Is (A program facts o f floats script run) (named program) o f floats (T program facts o f floats script run) (based program facts o f floats script run) (settled program facts o f floats script run) w cs g st.tw st.kw st.cw st.td st.kg st.top at
    is_at = subst (Is (A program facts o f floats script run) (named program) o f floats (T program facts o f floats script run) (based program facts o f floats script run) (settled program facts o f floats script run) w cs g st.tw st.kw st.cw st.td st.kg st.top) e st.at

    suited : Suits g at
    suited = suits (named program) o f floats (settled program facts o f floats script run) w cs g st.tw st.td st.kg.ranged at is_at
        (formed (A program facts o f floats script run) (named program) o f floats (T program facts o f floats script run) (based program facts o f floats script run) (settled program facts o f floats script run) w cs g st.tw st.kw st.cw st.td st.kg st.top at is_at)

    -- what the facts know of the divisor, by number
    held : value_holds (value_at st.number.here.registers y) (datum_of (named program) (kind_of w (register g y)) (register g y))
    held = subst (λ (z : ℕ → Parts). value_holds (z y) (datum_of (named program) (kind_of w (register g y)) (register g y))) (sym st.number.registers_are)
        (looks (A program facts o f floats script run) (named program) o f floats (T program facts o f floats script run) (based program facts o f floats script run) (settled program facts o f floats script run) w cs g st.tw st.kw st.cw st.td st.kg st.top at is_at).1.0

    fr : Framed program facts o f floats script run w cs g st
    fr = framed program facts o f floats script run w cs g st

    no_zero : is_no_zero (value_at st.number.here.registers y) ≡ true
    no_zero = ap (λ r. is_no_zero (value_at r y)) (sym fr.registers) ∙ (ap (λ z. divides_well z y) (sym fr.there) ∙ well)

    written : Writes floats w g (binary_is_wide op) to (act (face_of (named program) f).under floats at w g)
    written = division_writes floats w g (named program) op to x y (value_at st.number.here.registers y) suited.1 held no_zero

    works_so : WorksAlone (setting_of (named program) o f floats) (bodies_of (named program)) w cs g (form.Binary op to x y)
    works_so = record {
      registers = written.registers;
      goes = now_is program facts o f floats script run marks w cs g st at (form_there program facts o f floats script run w cs g st ∙ ap Some e)
          ∙ ap (λ z. outcome (face_of (named program) f) (need_of (face_of (named program) f) cs) z w g) written.is;
      others = written.others;
    }

  pub spare_works : (x : Form) → form_here (bodies_of (named program)) g ≡ Some x → SpareAt program sd facts.frames.items g.method g.position → WorksAlone (setting_of (named program) o f floats) (bodies_of (named program)) w cs g x
  spare_works x here h =
      let i : Insn = insn.Binary h.op h.to h.x h.y in
      let same : st.form ≡ form.Binary h.op h.to h.x h.y = form_is i (insn_there h.method h.body i h.code h.is_number h.there) in
      let is : x ≡ st.form = some_same x st.form (sym here ∙ form_there program facts o f floats script run w cs g st) in
      subst (λ y. WorksAlone (setting_of (named program) o f floats) (bodies_of (named program)) w cs g y) (sym (is ∙ same))
      (works_so h.op h.to h.x h.y same (ap (λ (m : Method). divides_well (frame_for m) h.y) (sym (method_there h.method h.body h.code h.is_number)) ∙ h.well))

-- ---- all runs

module _ (program : Program) (facts : Facts) (o : Outer) (fits : is_well_formed program ≡ true) (once : (class : ℕ) → IsTwice program class → ⊥) (ancestor : (class : ℕ) → IsAncestor program class class → ⊥)
    (ranked : IsRanked program) (straight : is_straight program ≡ true) (ends : (u : Text) → EndsWithin (named program) (length (named program).classes) u)
    (base : (f : Framework) (floats : Floats) (script : List Move) → Fit (named program) o f script → IsCoverable (value_analysis (named program) operators) (named program) o f floats (named_facts program facts))
    (marks : List Bool) (are : AreQuiet program facts.frames.items marks) where
  abbrev run : (f : Framework) (floats : Floats) (script : List Move) → Fit (named program) o f script → Run program facts o f floats script
  run f floats script fit = record { fits = fits; once = once; ancestor = ancestor; base = base f floats script fit; fit = fit; ranged = ranged_moves script fit.ranged; ranked = ranked; straight = straight; ends = ends }

  abbrev pub quiet : MethodKey → Type 0
  quiet = QuietKey program (sound program fits) marks

  abbrev pub gone : Gone
  gone = GoneAt program (sound program fits) marks facts.frames.items

  abbrev pub spare : Gone
  spare = SpareAt program (sound program fits) facts.frames.items

  abbrev pub rank : Rank
  rank k n = rank_of are.levels are.ranks (unwrap_or (method_number program k) 0) n

  -- the states that a run reaches
  abbrev pub Met : Framework → Floats → List Move → State → Type 0
  Met f floats script t = (fit : Fit (named program) o f script) × Reaches program facts o f floats script (run f floats script fit) t

  pub runs_quietly : (f : Framework) (floats : Floats) (script : List Move) → QuietRuns (setting_of (named program) o f floats) (bodies_of (named program)) quiet rank gone spare (Met f floats script)
  runs_quietly f floats script = record {
    advances = λ w cs g rest moves h q. advances program facts o f floats script (run f floats script h.0) marks are w cs g (stands_there program facts o f floats script (run f floats script h.0) w cs g rest moves h.1) q;
    enters = λ w cs g rest moves h q. gone_enters program facts o f floats script (run f floats script h.0) marks w cs g (stands_there program facts o f floats script (run f floats script h.0) w cs g rest moves h.1) q;
    works = λ w cs g rest moves x h here q. spare_works program facts o f floats script (run f floats script h.0) marks w cs g (stands_there program facts o f floats script (run f floats script h.0) w cs g rest moves h.1) x here q;
    keeps = λ t h. (h.0, keeps program facts o f floats script (run f floats script h.0) t h.1);
  }

  pub begins_met : (f : Framework) (floats : Floats) (script : List Move) → Fit (named program) o f script → Met f floats script (calm_opening (quiet_within (face_of (named program) f) (suc (length (named program).classes))) script)
  begins_met f floats script fit = (fit, begins program facts o f floats script (run f floats script fit))
