-- What is known of a state of a run in which an instruction stands on top: its kinds, its facts, its method and instruction by number.
use Rattle.std.proofs.Common.{◌≡◌, ℕ, Bool, true, List, [], ◌∷◌, length, Option, Some, None, ◌⊎◌, inl, inr, refl, sym, ap, ◌∙◌, subst}
use Rattle.std.specs.Prelude.{◌&&◌, slice_get, Contains}
use Rattle.std.specs.List.{list_all}
use Rattle.std.proofs.lemmas.Bool.{and_parts}
use Rattle.std.specs.Option.{option_map}
use Rattle.insn_set.specs.declared.form.Insn.{Insn}
use Rattle.program_model.specs.Lookups.{class_place}
use Rattle.program_model.specs.ProgramRules.{is_well_formed}
use Rattle.program_model.specs.declared.body.Body.{Body}
use Rattle.program_model.specs.declared.program.Class.{Class}
use Rattle.program_model.specs.declared.program.Method.{Method}
use Rattle.program_model.specs.declared.program.Program.{Program}
use Rattle.class_defs.specs.ClassGraph.{IsTwice, IsAncestor}
use Rattle.class_defs.proofs.WellFormed.{MethodFits, Sound, sound, all_at, class_parts}
use Rattle.dalvik_defs.specs.Face.{Bodies, face_of, bodies_of}
use Rattle.dalvik_defs.specs.Naming.{form_of, named}
use Rattle.dalvik_defs.specs.Names.{Text}
use Rattle.dalvik_defs.specs.Outer.{Outer}
use Rattle.dalvik_defs.specs.Quiet.{EndsWithin, calm_opening}
use Rattle.dalvik_defs.specs.Happens.{Setting}
use Rattle.dalvik_defs.specs.Shown.{Fit}
use Rattle.dalvik_defs.specs.State.{World, Classes, State, On, Ended, Done}
use Rattle.dalvik_defs.specs.Step.{after, step, setting_of}
use Rattle.dalvik_defs.specs.Stack.{form_at as form_here}
use Rattle.dalvik_defs.specs.declared.state.Frame.{Frame}
use Rattle.dalvik_defs.specs.declared.state.Waiting.{Waiting}
use Rattle.dalvik_defs.specs.declared.state.Waiting.TheVariants as waiting
use Rattle.dalvik_defs.specs.declared.forms.Form.{Form}
use Rattle.dalvik_defs.specs.declared.names.MethodKey.{MethodKey}
use Rattle.dalvik_defs.specs.declared.script.Move.{Move}
use Rattle.dalvik_defs.specs.declared.program.NamedProgram.{NamedProgram}
use Rattle.dalvik_defs.specs.declared.tables.Floats.{Floats}
use Rattle.dalvik_defs.specs.declared.tables.Framework.{Framework}
use Rattle.dalvik_defs.proofs.Calm.{calm_done}
use Rattle.domains.specs.Values.{Parts}
use Rattle.dom_frame.specs.declared.frames.Frame.{Frame as Values}
use Rattle.facts.specs.Lent.{frame_at}
use Rattle.facts.specs.declared.facts.Facts.{Facts}
use Rattle.hierarchy.specs.Ranks.{IsRanked}
use Rattle.receivers.specs.Receiving.{is_straight}
use Rattle.lemmas.proofs.Options.{before_map, some_same}
use Rattle.name_bridge.proofs.Above.{own_place}
use Rattle.name_bridge.proofs.Tables.{same_number}
use Rattle.pass_defs.specs.Analysis.{Analysis}
use Rattle.pass_defs.specs.Facts as by_name
use Rattle.program_model.specs.Neighbours.{neighbours}
use Rattle.program_model.specs.ValueRules.{marks_fit}
use Rattle.program_model.specs.MemberRules.{method_fits, methods_in_order, methods_fit, fields_fit, types_of_class_fit, source_fits, class_fits}
use Rattle.program_model.specs.Distinct.{own_method_key, all_differ}
use Rattle.closed_facts.specs.Tables as number
use Rattle.facts_kept.specs.Names.{named_facts, values}
use Rattle.facts_kept.proofs.Numbers.{IsNumber}
use Rattle.facts_kept.proofs.Defining.{same_number as one_number}
use Rattle.facts_kept.proofs.Places.{CodedAt, Here, here_at, looked_up}
use Rattle.run_laws.specs.Holds.{Each, Holds as HoldsBy}
use Rattle.run_facts.specs.Covered.{CoversTop, CoversWorld}
use Rattle.run_facts.specs.ValueAnalysis.{value_analysis}
use Rattle.run_laws.specs.TypedStates.{TypedFrame, TypedWorld}
use Rattle.run_laws.proofs.Settled.{IsSettled}
use Rattle.run_laws.proofs.Here.{at_form}
use Rattle.cover_law.specs.Coverable.{IsCoverable}
use Rattle.cover_law.specs.Known.{KnownFrame, KnownWorld, RangedMove}
use Rattle.cover_law.specs.States.{covered_states}
use Rattle.cover_law.proofs.Living.{made_things, live_method}
use Rattle.cover_law.proofs.Ready.{IsReady}
use Rattle.cover_law.proofs.Standing.{at_typed, own_form}
use Rattle.cover_law.proofs.Stays.{Is}
use Rattle.cover_law.specs.Operators.{operators}
use Rattle.facts_kept.proofs.Covered.{covered_calm}
use Rattle.facts_kept.proofs.Forms as ran
use Rattle.quiet_methods.specs.Quiet.{IsCode, IsAlone}

-- ---- methods by their numbers

methods_differ : (p : Program) (c : Class) → class_fits p c ≡ true → all_differ own_method_key c.methods ≡ true
unfolding class_fits methods_fit
methods_differ p c h =
    let all = and_parts (types_of_class_fit p c && (source_fits p c.source && marks_fit p c.marks)) (fields_fit p c.name c.fields && methods_fit p c.name c.methods) h in
    let members = and_parts (fields_fit p c.name c.fields) (methods_fit p c.name c.methods) all.1 in
    let methods = and_parts (list_all (method_fits p c.name) c.methods) (list_all (methods_in_order p) (neighbours c.methods) && all_differ own_method_key c.methods) members.1 in
    (and_parts (list_all (methods_in_order p) (neighbours c.methods)) (all_differ own_method_key c.methods) methods.1).1

module _ (p : Program) (fits : is_well_formed p ≡ true) (once : (class : ℕ) → IsTwice p class → ⊥) where
  s : Sound p
  s = sound p fits

  -- two places of methods with one number are one
  record SamePlace (m m' : Method) (b b' : Body) : Type 0 where
    method : m' ≡ m
    body : b' ≡ b

  same_place : (m m' : Method) (b b' : Body) → IsCode p m b → IsCode p m' b' → m'.name ≡ m.name → SamePlace m m' b b'
  same_place m m' b b' x y e = record { method = method; body = some_same b' b (sym y.coded ∙ (ap (λ (z : Method). z.body) method ∙ x.coded)) }
    where
      f : MethodFits p x.class.name m
      f = (class_parts p s x.at x.class x.defines).methods x.place m x.there

      g : MethodFits p y.class.name m'
      g = (class_parts p s y.at y.class y.defines).methods y.place m' y.there

      entry : g.entry ≡ f.entry
      entry = some_same g.entry f.entry (sym g.is ∙ (ap (slice_get p.methods) e ∙ f.is))

      class_name : y.class.name ≡ x.class.name
      class_name = sym g.owner ∙ (ap (λ z. z.class) entry ∙ f.owner)

      at : y.at ≡ x.at
      at = some_same y.at x.at (sym (own_place p once y.at y.class y.defines) ∙ (ap (λ n. class_place p n) class_name ∙ own_place p once x.at x.class x.defines))

      class : y.class ≡ x.class
      class = some_same y.class x.class (sym y.defines ∙ (ap (slice_get p.classes) at ∙ x.defines))

      there : slice_get x.class.methods y.place ≡ Some m'
      there = subst (λ (c : Class). slice_get c.methods y.place ≡ Some m') class y.there

      place : y.place ≡ x.place
      place = same_number own_method_key x.class.methods y.place x.place m' m (methods_differ p x.class (all_at (class_fits p) p.classes x.at x.class s.classes_fit x.defines)) there x.there (ap (λ n. n ∷ []) e)

      method : m' ≡ m
      method = some_same m' m (sym there ∙ (ap (slice_get x.class.methods) place ∙ x.there))

  pub alone : (m : Method) (b : Body) → IsCode p m b → IsAlone p m b
  alone m b x m' b' y e = let z = same_place m m' b b' x y e in (z.method, z.body)

-- ---- states of a run

-- a run of a well-formed program that facts cover
pub record Run (program : Program) (facts : Facts) (o : Outer) (f : Framework) (floats : Floats) (script : List Move) : Type 0 where
  pub fits : is_well_formed program ≡ true
  pub once : (class : ℕ) → IsTwice program class → ⊥
  pub ancestor : (class : ℕ) → IsAncestor program class class → ⊥
  pub base : IsCoverable (value_analysis (named program) operators) (named program) o f floats (named_facts program facts)
  pub fit : Fit (named program) o f script
  pub ranged : Each RangedMove script
  pub ranked : IsRanked program
  pub straight : is_straight program ≡ true
  pub ends : (u : Text) → EndsWithin (named program) (length (named program).classes) u

module _ (program : Program) (facts : Facts) (o : Outer) (f : Framework) (floats : Floats) (script : List Move) (run : Run program facts o f floats script) where
  abbrev pub p : NamedProgram
  p = named program

  abbrev pub A : Analysis Parts
  A = value_analysis (named program) operators

  abbrev pub T : by_name.Facts Parts
  T = named_facts program facts

  abbrev pub setting : Setting
  setting = setting_of (named program) o f floats

  abbrev pub find : Bodies
  find = bodies_of (named program)

  abbrev pub S : Sound program
  S = sound program run.fits

  abbrev pub settled : IsSettled (named program)
  settled = ran.settled program o f floats facts (named_facts program facts) script run.base run.fit run.ranged run.ends

  abbrev pub based : IsReady (value_analysis (named program) operators) (named program) o f floats (named_facts program facts)
  based = ran.based program o f floats facts (named_facts program facts) script run.base run.fit run.ranged run.ends

  abbrev pub Reaches : State → Type 0
  Reaches = ran.Reaches program o f floats facts (named_facts program facts) script run.base run.fit run.ranged run.ends

  abbrev pub calm : Text → Bool
  calm = ran.calm program o f floats facts (named_facts program facts) script run.base run.fit run.ranged run.ends

  pub begins : Reaches (calm_opening calm script)
  begins = ran.begins program o f floats facts (named_facts program facts) script run.base run.fit run.ranged run.ends

  pub keeps : (u : State) → Reaches u → Reaches (step setting find u).0
  keeps u r = ran.keeps program o f floats facts (named_facts program facts) script run.base run.fit run.ranged run.ends u r

  covered : (w : World) (c : Classes) (g : Frame) (rest : List Waiting) (moves : List Move) → Reaches (On w c (waiting.Method g ∷ rest) moves) → HoldsBy (covered_states A p o f T) (On w c (waiting.Method g ∷ rest) moves)
  covered w c g rest moves r = by (covered_calm A p o f floats T script run.base run.fit calm run.ranged r.count)
    where
      by : (after setting find (calm_opening calm script) r.count ≡ Ended) ⊎ HoldsBy (covered_states A p o f T) (after setting find (calm_opening calm script) r.count) → HoldsBy (covered_states A p o f T) (On w c (waiting.Method g ∷ rest) moves)
      by (inl e) = let k : On w c (waiting.Method g ∷ rest) moves ≡ Ended = r.at ∙ e in absurd (cc)
      by (inr h) = subst (HoldsBy (covered_states A p o f T)) (sym r.at) h

  -- all that is known of a state with a frame on top
  pub record Stands (w : World) (cs : Classes) (g : Frame) : Type 0 where
    pub tw : TypedWorld p f w
    pub kw : KnownWorld p o w
    pub cw : CoversWorld A p o T w
    pub td : TypedFrame p f w g
    pub kg : KnownFrame p o g
    pub top : CoversTop A p o T w g
    pub form : Form
    pub at : Is A p o f floats T based settled w cs g tw kw cw td kg top form
    pub number : Here program S facts g.method g.position (at_typed A p o f floats T based settled w g td form top.stands.registers at.has top.stands.reached)
    pub done : (t : Text) → calm t ≡ true → cs t ≡ Done

  pub stands_there : (w : World) (cs : Classes) (g : Frame) (rest : List Waiting) (moves : List Move) → Reaches (On w cs (waiting.Method g ∷ rest) moves) → Stands w cs g
  stands_there w cs g rest moves r =
      let h = covered w cs g rest moves r in
      let td : TypedFrame p f w g = h.1.0.0.0.0 in
      let top : CoversTop A p o T w g = h.1.0.1 in
      let q = at_form p o f floats settled w g td in
      record {
        tw = h.0.0.0.0;
        kw = record { ranged = h.0.0.0.1; made = made_things p o w.heap (λ s k. (h.0.0.1 s k).1) };
        cw = h.0.1;
        td = td;
        kg = record { ranged = h.1.0.0.0.1; live = live_method p o g h.1.0.0.1 };
        top = top;
        form = q.0;
        at = q.1;
        number = here_at program S facts g.method g.position (at_typed A p o f floats T based settled w g td q.0 top.stands.registers q.1.has top.stands.reached);
        done = calm_done setting find calm (ran.is_calm program o f floats facts (named_facts program facts) script run.base run.fit run.ranged run.ends) w cs (waiting.Method g ∷ rest) moves r.calmly;
      }

  module _ (w : World) (cs : Classes) (g : Frame) (st : Stands w cs g) where
    abbrev pub insn : Insn
    insn = st.number.here.insn

    abbrev pub method : Method
    method = st.number.here.method

    abbrev pub body : Body
    body = st.number.here.body

    pub form_same : form_of program insn ≡ st.form
    form_same = st.number.form_is

    -- the form that stands there in the run
    pub form_there : form_here find g ≡ Some st.form
    form_there = own_form A p o f floats T based settled w g st.td st.form st.at.has

    pub code : IsCode program method body
    code = record {
      at = c.at.class;
      place = c.at.place;
      class = c.class;
      defines = c.is_class;
      there = c.is_method ∙ sym (ap Some same);
      coded = st.number.here.has_body;
    }
      where
        c : CodedAt program S g.method st.td.in_method.body
        c = st.number.code

        same : method ≡ c.method
        same = some_same method c.method (sym st.number.here.has_method ∙ looked_up program S c.at c.class c.method c.is_class c.is_method)

    -- the registers that the facts know there
    pub record Framed : Type 0 where
      pub frame : Values
      pub there : frame_at facts.frames.items method.name g.position ≡ Some frame
      pub registers : frame.registers ≡ st.number.here.registers

    pub framed : Framed
    framed = let h = before_map (λ (x : Values). x.registers) (frame_at facts.frames.items method.name g.position) st.number.here.registers st.number.here.reached in
        record { frame = h.0; there = h.1.0; registers = h.1.1 }

    -- another method of the program whose name it has is this one
    pub same_code : (m : Method) (b : Body) → IsCode program m b → IsNumber program S g.method m.name → (m ≡ method) × (b ≡ body)
    same_code m b x n = alone program run.fits run.once method body code m b x (one_number program S g.method m.name method.name n st.number.number)
