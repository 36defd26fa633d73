-- Each step of a covered frame.
use Rattle.std.proofs.Common.{true, refl, sym, subst}
use Rattle.dalvik_defs.specs.Names.{is_array}
use Rattle.dalvik_defs.specs.Face.{face_of, bodies_of}
use Rattle.dalvik_defs.specs.Outer.{Outer}
use Rattle.dalvik_defs.specs.State.{World, Classes}
use Rattle.dalvik_defs.specs.Effect.{Effect}
use Rattle.dalvik_defs.specs.Act.{act}
use Rattle.dalvik_defs.specs.Outcome.{need_of}
use Rattle.dalvik_defs.specs.Happens.{outcome_at, effect_of}
use Rattle.dalvik_defs.specs.declared.state.Value.{Value}
use Rattle.dalvik_defs.specs.declared.state.Value.TheVariants.{Word, Low, High, Object, Literal, Class}
use Rattle.dalvik_defs.specs.declared.state.Frame.{Frame}
use Rattle.dalvik_defs.specs.declared.forms.Form.{Form}
use Rattle.dalvik_defs.specs.declared.forms.Form.TheVariants as form
use Rattle.dalvik_defs.specs.declared.program.NamedProgram.{NamedProgram}
use Rattle.dalvik_defs.specs.declared.tables.Floats.{Floats}
use Rattle.dalvik_defs.specs.declared.tables.Framework.{Framework}
use Rattle.pass_defs.specs.Analysis.{Analysis, IsReference}
use Rattle.pass_defs.specs.Facts.{Facts}
use Rattle.pass_defs.specs.Kinds.{is_initialised}
use Rattle.run_laws.proofs.Stacked.{LeadsOver}
use Rattle.run_facts.specs.Covered.{CoversTop, CoversWorld}
use Rattle.run_laws.specs.TypedStates.{IsObject, TypedFrame, TypedWorld}
use Rattle.run_laws.proofs.Settled.{IsSettled, FindsRegularly}
use Rattle.run_laws.proofs.Registers.{and_left}
use Rattle.run_laws.proofs.ArrayForms.{untrue2}
use Rattle.run_laws.proofs.Here.{at_form, setting}
use Rattle.cover_law.proofs.Ready.{IsReady}
use Rattle.cover_law.specs.Known.{KnownFrame, KnownWorld}
use Rattle.cover_law.proofs.Standing.{own_form}
use Rattle.cover_law.proofs.Suits.{suits}
use Rattle.cover_law.proofs.Stays.{array_whole, below, covers, Does, Is, local_form, results, filled}
use Rattle.cover_law.proofs.Waiting.{formed, returns, voids, enters, exits_held, makes, instance_gets, static_gets, static_puts, instance_puts}
use Rattle.cover_law.proofs.Calling.{calls_covered}

reference : (w : World) (v : Value) → IsObject w v → IsReference v
reference w (Object n) h = tt
reference w (Literal s) h = tt
reference w (Class s) h = tt
reference w (Word n) h = h
reference w (Low n) h = h
reference w (High n) h = h

module _ {V : Type 0} (a : Analysis V) (p : NamedProgram) (o : Outer) (f : Framework) (floats : Floats) (facts : Facts V) (base : IsReady a p o f floats facts) (reg : IsSettled p) (finds : FindsRegularly p f) where
  module _ (w : World) (cs : Classes) (g : Frame) (tw : TypedWorld p f w) (kw : KnownWorld p o w) (cw : CoversWorld a p o facts w) (t : TypedFrame p f w g) (kg : KnownFrame p o g) (top : CoversTop a p o facts w g) where
    abbrev D : Effect → Type 0
    D = Does a p o f floats facts base reg w cs g tw kw cw t kg top

    abbrev I : Form → Type 0
    I = Is a p o f floats facts base reg w cs g tw kw cw t kg top

    forms : (y : Form) → I y → D (act (face_of p f).under floats y w g)
    forms (form.MoveResult slot to) h = results a p o f floats facts base reg w cs g tw kw cw t kg top slot to h
    forms (form.MoveException to) h = local_form a p o f floats facts base reg w cs g tw kw cw t kg top (form.MoveException to) h tt refl (reference w g.caught (t.holds.caught.object (and_left (is_initialised t.kinds.caught) true h.allowed)))
    forms form.ReturnVoid h = voids a p o f floats facts base reg w cs g tw kw cw t kg top h
    forms (form.Return slot from) h = returns a p o f floats facts base reg w cs g tw kw cw t kg top slot from h
    forms (form.MonitorEnter on) h = enters a p o f floats facts base reg w cs g tw kw cw t kg top on h
    forms (form.MonitorExit on) h = exits_held a p o f floats facts base reg w cs g tw kw cw t kg top on h
    forms (form.NewInstance to kind) h = makes a p o f floats facts base reg w cs g tw kw cw t kg top to kind h
    forms (form.NewArray to size kind) h = local_form a p o f floats facts base reg w cs g tw kw cw t kg top (form.NewArray to size kind) h tt refl (array_whole kind (untrue2 (is_array kind) h.right))
    forms (form.FilledNewArray kind args) h = filled a p o f floats facts base reg w cs g tw kw cw t kg top kind args h
    forms (form.PackedSwitch on first targets) h = local_form a p o f floats facts base reg w cs g tw kw cw t kg top (form.PackedSwitch on first targets) h tt refl (formed a p o f floats facts base reg w cs g tw kw cw t kg top (form.PackedSwitch on first targets) h, suits p o f floats reg w cs g tw t kg.ranged (form.PackedSwitch on first targets) h (formed a p o f floats facts base reg w cs g tw kw cw t kg top (form.PackedSwitch on first targets) h))
    forms (form.InstanceGet item to on field) h = instance_gets a p o f floats facts base reg w cs g tw kw cw t kg top item to on field h
    forms (form.InstancePut item from on field) h = instance_puts a p o f floats facts base reg w cs g tw kw cw t kg top item from on field h
    forms (form.StaticGet item to field) h = static_gets a p o f floats facts base reg w cs g tw kw cw t kg top item to field h
    forms (form.StaticPut item from field) h = static_puts a p o f floats facts base reg w cs g tw kw cw t kg top item from field h
    forms (form.Invoke kind method args) h = calls_covered a p o f floats facts base reg finds w cs g tw kw cw t kg top kind method args h
    forms y h = local_form a p o f floats facts base reg w cs g tw kw cw t kg top y h tt refl (suits p o f floats reg w cs g tw t kg.ranged y h (formed a p o f floats facts base reg w cs g tw kw cw t kg top y h))

    -- each step of a covered frame in a covered world leaves both covered
    pub steps_covered : LeadsOver (setting p o f floats reg) (bodies_of p) (below a p o f floats facts base reg) (covers a p o f floats facts base reg) w cs g (outcome_at (setting p o f floats reg) (bodies_of p) (need_of (face_of p f) cs) w g)
    steps_covered = let at = at_form p o f floats reg w g t in subst (λ y. D (effect_of (setting p o f floats reg) y w g)) (sym (own_form a p o f floats facts base reg w g t at.0 at.1.has)) (forms at.0 at.1)
