-- What is written over an instruction by what the facts allow does the same in each state that a run reaches.
use Rattle.std.proofs.Common.{◌≡◌, ℕ, zero, suc, ◌+◌, ◌<◌, Bool, true, false, true≢false, List, [], ◌∷◌, length, Option, Some, None, ◌⊎◌, inl, inr, refl, sym, ap, ap₂, ◌∙◌, subst, arith, nat_eq}
use Rattle.std.specs.Prelude.{◌||◌, if◌then◌else◌, slice_get, Contains}
use Rattle.std.specs.List.{list_any}
use Rattle.std.specs.Option.{option_map}
use Rattle.std.specs.Int.{w32, w64, cast_unsigned}
use Rattle.std.proofs.lemmas.Bool.{eqb-true}
use Rattle.insn_set.specs.declared.ops.Slot.{Slot}
use Rattle.insn_set.specs.declared.form.Insn.{Insn}
use Rattle.insn_set.specs.declared.form.Insn.TheVariants as insn
use Rattle.program_model.specs.declared.body.Body.{Body}
use Rattle.program_model.specs.declared.program.Class.{Class}
use Rattle.program_model.specs.declared.program.Method.{Method}
use Rattle.program_model.specs.declared.program.Program.{Program}
use Rattle.dalvik_defs.specs.Naming.{named, named_class, named_method, form_of, body_of, field_at}
use Rattle.dalvik_defs.specs.Names.{Text}
use Rattle.dalvik_defs.specs.Silence.{key_in}
use Rattle.dalvik_defs.specs.Face.{Bodies, face_of, bodies_of}
use Rattle.dalvik_defs.specs.Happens.{Setting}
use Rattle.dalvik_defs.specs.Outer.{Outer}
use Rattle.dalvik_defs.specs.Outcome.{Stays, need_of, outcome}
use Rattle.dalvik_defs.specs.Quiet.{EndsWithin, quiet_within, calm_opening}
use Rattle.dalvik_defs.specs.Shown.{Fit}
use Rattle.dalvik_defs.specs.State.{World, Classes, State, On, Ended, Done}
use Rattle.dalvik_defs.specs.Step.{after, step, setting_of}
use Rattle.dalvik_defs.specs.Act.{act}
use Rattle.dalvik_defs.specs.Effect.{Effect, Goes, register, next, go}
use Rattle.dalvik_defs.specs.declared.state.Frame.{Frame}
use Rattle.dalvik_defs.specs.declared.state.Waiting.{Waiting}
use Rattle.dalvik_defs.specs.declared.state.Waiting.TheVariants as waiting
use Rattle.dalvik_defs.specs.declared.names.MethodKey.{MethodKey}
use Rattle.dalvik_defs.specs.declared.forms.Form.{Form}
use Rattle.dalvik_defs.specs.declared.forms.Form.TheVariants as form
use Rattle.dalvik_defs.specs.declared.script.Move.{Move}
use Rattle.dalvik_defs.specs.declared.program.NamedBody.{NamedBody}
use Rattle.dalvik_defs.specs.declared.program.NamedProgram.{NamedProgram}
use Rattle.dalvik_defs.specs.declared.tables.Floats.{Floats}
use Rattle.dalvik_defs.specs.declared.tables.Framework.{Framework}
use Rattle.dalvik_defs.proofs.Calm.{IsCalm, CalmState, calm_start, calm_keeps, calm_done}
use Rattle.dalvik_defs.proofs.Quiet.{quiet_calm}
use Rattle.domains.specs.Datum.{Within}
use Rattle.domains.specs.Values.{Parts, value_holds}
use Rattle.dom_frame.specs.Registers.{Registers, value_at}
use Rattle.dom_frame.specs.declared.frames.Frame.{Frame as Values}
use Rattle.facts.specs.Lent.{frame_at}
use Rattle.facts.specs.declared.facts.Facts.{Facts}
use Rattle.pass_defs.specs.Analysis.{Analysis}
use Rattle.pass_defs.specs.Bare.{continues, targets}
use Rattle.run_facts.specs.Closed.{Results}
use Rattle.pass_defs.specs.Facts as by_name
use Rattle.pass_defs.specs.Pure.{is_quiet_field}
use Rattle.pass_defs.specs.Walks.{form_at}
use Rattle.form_laws.specs.Changes.{In, here, there, Sets, Jumps, changed, destination, width, width_if, Possible}
use Rattle.form_laws.specs.Known.{Known, Becomes, Same, Folds}
use Rattle.run_laws.specs.Holds.{Each, Holds as HoldsBy}
use Rattle.run_facts.specs.Covered.{CoversTop, CoversWorld, TakesFrom}
use Rattle.run_facts.specs.ValueAnalysis.{value_analysis}
use Rattle.run_laws.specs.TypedStates.{TypedFrame, TypedWorld}
use Rattle.run_laws.proofs.Settled.{IsSettled}
use Rattle.run_laws.proofs.Climbs.{some_one}
use Rattle.run_laws.proofs.Here.{at_form}
use Rattle.cover_law.specs.Coverable.{IsCoverable}
use Rattle.cover_law.specs.Known.{KnownFrame, KnownWorld, RangedMove}
use Rattle.cover_law.specs.States.{covered_states}
use Rattle.cover_law.proofs.Living.{made_things, live_method}
use Rattle.cover_law.proofs.Ready.{IsReady}
use Rattle.cover_law.specs.Operators.{operators}
use Rattle.removal_bridge.proofs.WalkedForms.{form_there}
use Rattle.const_prop.specs.declared.choices.Way.{Way}
use Rattle.const_prop.specs.declared.choices.Way.TheVariants.{Open, Next, To}
use Rattle.const_prop.specs.declared.numbers.Number.{Number}
use Rattle.const_prop.specs.declared.numbers.Number.TheVariants.{Word, Wide}
use Rattle.const_prop.specs.Choices.{has_target, is_choice, goto_or_nop, chosen}
use Rattle.const_prop.specs.Constants.{result_of, constant_result, IsConstantFor, number_written}
use Rattle.const_prop.specs.Given.{given, behind}
use Rattle.const_prop.specs.Known.{is_always_pure, number_by, number_in, way_by, way_from}
use Rattle.const_prop.specs.Allowed.{insn_before, IsAllowed, Constant, Branch}
use Rattle.facts_kept.specs.Folds.{AreNamed, StandsAt}
use Rattle.facts_kept.specs.Known.{values_of}
use Rattle.facts_kept.specs.Runs.{GoesBy}
use Rattle.facts_kept.proofs.Branches.{Follows, if_follows, zero_follows, packed_follows, sparse_follows}
use Rattle.facts_kept.proofs.Covered.{one_more, reg, ready, covered_calm}
use Rattle.facts_kept.proofs.Settling.{Asks, Settled, number_settles}
use Rattle.facts_kept.proofs.Steps.{At, S, acts, suited, first_seen, second_seen}

-- ---- what a form with a result writes

first_of : {A B : Type 0} (q r : A × B) → Some q ≡ Some r → q.0 ≡ r.0
first_of q r e = let k : q ≡ r = cc in ap (λ z. z.0) k

width_of : (q r : ℕ × Bool) → Some q ≡ Some r → width_if q.1 ≡ width_if r.1
width_of q r e = let k : q ≡ r = cc in ap (λ (z : ℕ × Bool). width_if z.1) k

destination_by : (p : Program) (i : Insn) (r : ℕ × Bool) → result_of i ≡ Some r → destination (form_of p i) ≡ r.0
destination_by p (insn.Move slot to from) r e = first_of _ r e
destination_by p (insn.MoveResult slot to) r e = first_of _ r e
destination_by p (insn.MoveException to) r e = first_of _ r e
destination_by p (insn.ConstString to string) r e = first_of _ r e
destination_by p (insn.ConstClass to kind) r e = first_of _ r e
destination_by p (insn.InstanceOf to from kind) r e = first_of _ r e
destination_by p (insn.Cmp op to a b) r e = first_of _ r e
destination_by p (insn.StaticGet item to field) r e = first_of _ r e
destination_by p (insn.Unary op to from) r e = first_of _ r e
destination_by p (insn.Binary op to a b) r e = first_of _ r e
destination_by p (insn.Literal op to a value) r e = first_of _ r e
destination_by p i r e = absurd (cc)

width_by : (p : Program) (i : Insn) (r : ℕ × Bool) → result_of i ≡ Some r → (continues (form_of p i) ≡ true) × (width (form_of p i) ≡ width_if r.1)
width_by p (insn.Move slot to from) r e = (refl, width_of _ r e)
width_by p (insn.MoveResult slot to) r e = (refl, width_of _ r e)
width_by p (insn.MoveException to) r e = (refl, width_of _ r e)
width_by p (insn.ConstString to string) r e = (refl, width_of _ r e)
width_by p (insn.ConstClass to kind) r e = (refl, width_of _ r e)
width_by p (insn.InstanceOf to from kind) r e = (refl, width_of _ r e)
width_by p (insn.Cmp op to a b) r e = (refl, width_of _ r e)
width_by p (insn.StaticGet item to field) r e = (refl, width_of _ r e)
width_by p (insn.Unary op to from) r e = (refl, width_of _ r e)
width_by p (insn.Binary op to a b) r e = (refl, width_of _ r e)
width_by p (insn.Literal op to a value) r e = (refl, width_of _ r e)
width_by p i r e = absurd (cc)

pub any_in : (ts : List ℕ) (n : ℕ) → list_any (λ t. nat_eq t n) ts ≡ true → In n ts
any_in [] n e = absurd (true≢false (sym e))
any_in (t ∷ ts) n e = by (any_in ts n) (nat_eq t n) refl e
  where
    by : (list_any (λ t. nat_eq t n) ts ≡ true → In n ts) → (b : Bool) → nat_eq t n ≡ b → list_any (λ t. nat_eq t n) (t ∷ ts) ≡ true → In n (t ∷ ts)
    by more true i k = subst (λ z. In z (t ∷ ts)) (eqb-true t n i) (here ts)
    by more false i k = there t ts (more (sym (ap (λ c. c || list_any (λ t. nat_eq t n) ts) i) ∙ k))

-- the instruction of a form
record IsOf (p : Program) (b : Body) (n : ℕ) (y : Form) : Type 0 where
  insn : Insn
  has_insn : slice_get b.insns n ≡ Some insn
  same : form_of p insn ≡ y

insn_for : (p : Program) (b : Body) (n : ℕ) (y : Form) → form_at (body_of p b) n ≡ Some y → IsOf p b n y
insn_for p b n y e = by (slice_get b.insns n) refl (sym (form_there p b n) ∙ e)
  where
    by : (q : Option Insn) → slice_get b.insns n ≡ q → ◌≡◌ {A = Option Form} (option_map (form_of p) q) (Some y) → IsOf p b n y
    by None h x = absurd (cc)
    by (Some i) h x = record { insn = i; has_insn = h; same = (let z : ◌≡◌ {A = Option Form} (Some (form_of p i)) (Some y) = x in cc) }

module _ (program : Program) (o : Outer) (f : Framework) (floats : Floats) (facts : Facts) (t : by_name.Facts Parts) (script : List Move) (base : IsCoverable (value_analysis (named program) operators) (named program) o f floats t)
    (fit : Fit (named program) o f script) (ranged : Each RangedMove script) (ends : (u : Text) → EndsWithin (named program) (length (named program).classes) u) where
  abbrev p : NamedProgram
  p = named program

  abbrev A : Analysis Parts
  A = value_analysis (named program) operators

  abbrev pub calm : Text → Bool
  calm = quiet_within (face_of (named program) f) (suc (length (named program).classes))

  abbrev s : Setting
  s = setting_of (named program) o f floats

  abbrev find : Bodies
  find = bodies_of (named program)

  pub is_calm : IsCalm s calm
  is_calm = quiet_calm (setting_of (named program) o f floats) (suc (length (named program).classes))

  abbrev pub settled : IsSettled p
  settled = reg A p o f floats t script base fit

  abbrev pub based : IsReady A p o f floats t
  based = ready A p o f floats t script base fit

  -- the states that the run reaches, in which the calm classes are done
  pub record Reaches (u : State) : Type 0 where
    pub count : ℕ
    pub at : u ≡ after s find (calm_opening calm script) count
    pub calmly : CalmState s find calm is_calm u

  pub begins : Reaches (calm_opening calm script)
  begins = record { count = 0; at = refl; calmly = calm_start s find calm is_calm script }

  pub keeps : (u : State) → Reaches u → Reaches (step s find u).0
  keeps u r = record {
    count = suc r.count;
    at = ap (λ z. (step s find z).0) r.at ∙ sym (one_more s find (calm_opening calm script) r.count);
    calmly = calm_keeps s find calm is_calm u r.calmly;
  }

  covered : (w : World) (c : Classes) (g : Frame) (rest : List Waiting) (moves : List Move) → Reaches (On w c (waiting.Method g ∷ rest) moves) → HoldsBy (covered_states A p o f t) (On w c (waiting.Method g ∷ rest) moves)
  covered w c g rest moves r = by (covered_calm A p o f floats t script base fit calm ranged r.count)
    where
      by : (after s find (calm_opening calm script) r.count ≡ Ended) ⊎ HoldsBy (covered_states A p o f t) (after s find (calm_opening calm script) r.count) → HoldsBy (covered_states A p o f t) (On w c (waiting.Method g ∷ rest) moves)
      by (inl e) = let k : On w c (waiting.Method g ∷ rest) moves ≡ Ended = r.at ∙ e in absurd (cc)
      by (inr h) = subst (HoldsBy (covered_states A p o f t)) (sym r.at) h

  module _ (names : AreNamed program o facts t) (quiet : (field : ℕ) (i : _) (to : ℕ) → is_always_pure program (insn.StaticGet i to field) ≡ true → is_quiet_field p (field_at program field) ≡ true)
      (class : ℕ) (c : Class) (m : Method) (b : Body) (k : MethodKey) (n : ℕ) (i : Insn)
      (is_class : slice_get program.classes class ≡ Some c) (in_class : Contains c.methods m) (has_code : m.body ≡ Some b) (is_key : k ≡ key_in (named_class program c) (named_method program m))
      (has_body : bodies_of (named program) k ≡ Some (body_of program b)) (has_insn : slice_get b.insns n ≡ Some i) where
    abbrev y : Form
    y = form_of program i

    abbrev frame : Option Values
    frame = frame_at facts.frames.items m.name n

    -- all that is known of a state in which the instruction stands on top
    pub record Stands (w : World) (cs : Classes) (g : Frame) : Type 0 where
      pub tw : TypedWorld p f w
      pub kw : KnownWorld p o w
      pub cw : CoversWorld A p o t w
      pub td : TypedFrame p f w g
      pub kg : KnownFrame p o g
      pub top : CoversTop A p o t w g
      pub values : Values
      pub has_values : frame ≡ Some values
      pub stands : (r : ℕ) → Within value_holds (top.stands.registers r) (value_at values.registers r)
      pub at : At program o f floats t based settled w cs g tw kw cw td kg top values.registers stands y

    stands_there : (w : World) (cs : Classes) (g : Frame) (rest : List Waiting) (moves : List Move) → Reaches (On w cs (waiting.Method g ∷ rest) moves) → g.method ≡ k → g.position ≡ n → Stands w cs g
    stands_there w cs g rest moves r gm gp = by frame refl (names.frames class c m n top.stands.registers is_class in_class (sym (ap₂ (λ k n. t.registers k n) (gm ∙ is_key) gp) ∙ top.stands.reached))
      where
        h : HoldsBy (covered_states A p o f t) (On w cs (waiting.Method g ∷ rest) moves)
        h = covered w cs g rest moves r

        td : TypedFrame p f w g
        td = h.1.0.0.0.0

        top : CoversTop A p o t w g
        top = h.1.0.1

        same_body : td.in_method.body ≡ body_of program b
        same_body = some_one td.in_method.body (body_of program b) (sym (ap find td.of ∙ td.in_method.has_body) ∙ (ap find gm ∙ has_body))

        form_here : form_at td.in_method.body g.position ≡ Some y
        form_here = ap₂ (λ b n. form_at b n) same_body gp ∙ (form_there program b n ∙ ap (option_map (form_of program)) has_insn)

        by : (fr : Option Values) → frame ≡ fr → StandsAt top.stands.registers fr → Stands w cs g
        by None e z = absurd z
        by (Some values) e h1 = let q = at_form p o f floats settled w g td in record {
          tw = h.0.0.0.0;
          kw = record { ranged = h.0.0.0.1; made = made_things p o w.heap (λ s k. (h.0.0.1 s k).1) };
          cw = h.0.1;
          td = td;
          kg = record { ranged = h.1.0.0.0.1; live = live_method p o g h.1.0.0.1 };
          top = top;
          values = values;
          has_values = e;
          stands = h1;
          at = subst (λ z. At program o f floats t based settled w cs g h.0.0.0.0 (record { ranged = h.0.0.0.1; made = made_things p o w.heap (λ s k. (h.0.0.1 s k).1) }) h.0.1 td (record { ranged = h.1.0.0.0.1; live = live_method p o g h.1.0.0.1 }) top values.registers h1 z) (some_one q.0 y (sym q.1.has ∙ form_here)) q.1;
        }

    -- ---- constants

    asks : (w : World) (cs : Classes) (g : Frame) (rest : List Waiting) (moves : List Move) → Reaches (On w cs (waiting.Method g ∷ rest) moves) → g.method ≡ k → g.position ≡ n → (st : Stands w cs g) → (j : Insn) → i ≡ j
        → Asks program o f floats t based settled ends w cs g st.tw st.kw st.cw st.td st.kg st.top st.values.registers st.stands (given program facts class (insn_before b.insns n) j) j
    asks w cs g rest moves r gm gp st (insn.MoveResult slot to) e = λ tk. result tk
      where
        result : (tk : TakesFrom A p o t w g) → Within value_holds tk.value (behind program facts class (insn_before b.insns n))
        result tk = subst (λ q. Within value_holds tk.value (behind program facts class q)) (sym in_front)
            (names.results class c m b tk.before q.insn tk.at.registers tk.value is_class in_class has_code q.has_insn (sym (ap (λ k. t.registers k tk.before) (gm ∙ is_key)) ∙ tk.at.reached) from)
          where
            same_body : tk.at.body ≡ body_of program b
            same_body = some_one tk.at.body (body_of program b) (sym tk.at.has_body ∙ (ap find gm ∙ has_body))

            q : IsOf program b tk.before tk.at.form
            q = insn_for program b tk.before tk.at.form (sym (ap (λ b. form_at b tk.before) same_body) ∙ tk.at.has_form)

            follows : n ≡ suc tk.before
            follows = let l = tk.behind in omega (arith, l, gp)

            in_front : insn_before b.insns n ≡ Some q.insn
            in_front = ap (insn_before b.insns) follows ∙ q.has_insn

            from : Results A p o t (key_in (named_class program c) (named_method program m)) tk.at.registers (form_of program q.insn) tk.value
            from = subst (λ z. Results A p o t (key_in (named_class program c) (named_method program m)) tk.at.registers z tk.value) (sym q.same)
                (subst (λ z. Results A p o t z tk.at.registers tk.at.form tk.value) (gm ∙ is_key) tk.from)
    asks w cs g rest moves r gm gp st (insn.StaticGet item to field) e = (names.fields field, quiet field item to)
    asks w cs g rest moves r gm gp st j e = tt

    settles : (num : Number) → number_by program (given program facts class (insn_before b.insns n) i) frame i ≡ Some num → (w : World) (cs : Classes) (g : Frame) (rest : List Waiting) (moves : List Move)
        → Reaches (On w cs (waiting.Method g ∷ rest) moves) → g.method ≡ k → g.position ≡ n → outcome s.face (need_of s.face cs) (act s.face.under s.floats y w g) w g ≡ Stays w (changed (Sets (values_of num)) (destination y) g) None
    settles num e w cs g rest moves r gm gp = let st = stands_there w cs g rest moves r gm gp in
        number_settles program o f floats t based settled ends w cs g st.tw st.kw st.cw st.td st.kg st.top st.values.registers st.stands (calm_done s find calm is_calm w cs (waiting.Method g ∷ rest) moves r.calmly) i num
        (given program facts class (insn_before b.insns n) i) (asks w cs g rest moves r gm gp st i refl) st.at
        (sym (ap (λ fr. number_by program (given program facts class (insn_before b.insns n) i) fr i) st.has_values) ∙ e)

    pub constant : (num : Number) (g : Insn) → number_by program (given program facts class (insn_before b.insns n) i) frame i ≡ Some num → number_written g ≡ Some num → IsConstantFor i g → Known s Reaches k n y (form_of program g)
    constant num (insn.Const to z) e w c1 = record {
      change = Sets (values_of (Word (cast_unsigned w32 z)));
      possible = (v.0, sym v.1);
      place = sym (destination_by program i (to, false) (sym c1.result));
      old = settles (Word (cast_unsigned w32 z)) (e ∙ sym w);
      new = λ w g. refl;
    }
      where
        v : (continues y ≡ true) × (width y ≡ 1)
        v = width_by program i (to, false) (sym c1.result)
    constant num (insn.ConstWide to z) e w c1 = record {
      change = Sets (values_of (Wide (cast_unsigned w64 z)));
      possible = (v.0, sym v.1);
      place = sym (destination_by program i (to, true) (sym c1.result));
      old = settles (Wide (cast_unsigned w64 z)) (e ∙ sym w);
      new = λ w g. refl;
    }
      where
        v : (continues y ≡ true) × (width y ≡ 2)
        v = width_by program i (to, true) (sym c1.result)
    constant num g e w c1 = absurd (cc)

    -- ---- branches

    pub record Chooses : Type 0 where
      pub onward : continues y ≡ true
      pub narrow : width y ≡ 0
      pub nowhere : destination y ≡ 0
      pub aims : (q : ℕ) → has_target i q ≡ true → In q (targets y)

    abbrev pub Goes_so : Way → Type 0
    Goes_so way = (w : World) (cs : Classes) (g : Frame) (rest : List Waiting) (moves : List Move) → Reaches (On w cs (waiting.Method g ∷ rest) moves) → g.method ≡ k → g.position ≡ n → GoesBy w g way (act s.face.under s.floats y w g)

    to_nop : Chooses → ((w : World) (cs : Classes) (g : Frame) (rest : List Waiting) (moves : List Move) → Reaches (On w cs (waiting.Method g ∷ rest) moves) → g.method ≡ k → g.position ≡ n → act s.face.under s.floats y w g ≡ Goes w (next g))
        → Known s Reaches k n y form.Nop
    to_nop ch go_on = record {
      change = Sets [];
      possible = (ch.onward, sym ch.narrow);
      place = sym ch.nowhere;
      old = λ w cs g rest moves r gm gp. ap (λ z. outcome s.face (need_of s.face cs) z w g) (go_on w cs g rest moves r gm gp);
      new = λ w g. refl;
    }

    to_goto : (q : ℕ) → Chooses → has_target i q ≡ true → Goes_so (To q) → Known s Reaches k n y (form.Goto q)
    to_goto q ch e go_on = record {
      change = Jumps q;
      possible = (ch.aims q e, ch.narrow);
      place = sym ch.nowhere;
      old = λ w cs g rest moves r gm gp. ap (λ z. outcome s.face (need_of s.face cs) z w g) (go_on w cs g rest moves r gm gp);
      new = λ w g. refl;
    }

    pub turned : (way : Way) (g : Insn) → Chooses → chosen i (n + 1) way ≡ Some g → Goes_so way → Known s Reaches k n y (form_of program g)
    turned Open g ch e go_on = absurd (cc)
    turned Next g ch e go_on = by (is_choice i) e
      where
        by : (v : Bool) → (if v then Some insn.Nop else None) ≡ Some g → Known s Reaches k n y (form_of program g)
        by false e = absurd (cc)
        by true e = let j : insn.Nop ≡ g = cc in subst (λ g. Known s Reaches k n y (form_of program g)) j (to_nop ch go_on)
    turned (To q) g ch e go_on = by (has_target i q) refl e
      where
        to : (v : Bool) → nat_eq q (n + 1) ≡ v → has_target i q ≡ true → (if v then insn.Nop else insn.Goto q) ≡ g → Known s Reaches k n y (form_of program g)
        to true l h e = subst (λ g. Known s Reaches k n y (form_of program g)) e
            (to_nop ch (λ w cs g rest moves r gm gp. go_on w cs g rest moves r gm gp ∙ ap (λ z. Goes w (go g z)) (eqb-true q (n + 1) l ∙ ap (λ z. z + 1) (sym gp))))
        to false l h e = subst (λ g. Known s Reaches k n y (form_of program g)) e (to_goto q ch h go_on)

        by : (v : Bool) → has_target i q ≡ v → (if v then Some (goto_or_nop (n + 1) q) else None) ≡ Some g → Known s Reaches k n y (form_of program g)
        by false h e = absurd (cc)
        by true h e = let j : goto_or_nop (n + 1) q ≡ g = cc in to (nat_eq q (n + 1)) refl h j

    abbrev pub F : (w : World) (cs : Classes) (g : Frame) → Stands w cs g → Way → Effect → Type 0
    F w cs g st = Follows p (face_of p f).under floats based.sound w g st.values.registers

    along : (w : World) (cs : Classes) (g : Frame) (st : Stands w cs g) (way : Way) (e : Effect) → F w cs g st way e → GoesBy w g way e
    along w cs g st Open e h = tt
    along w cs g st Next e h = h
    along w cs g st (To q) e h = h

    -- what a frame says of a branch, a state says that stands on it
    pub goes_so : is_choice i ≡ true → ((w : World) (cs : Classes) (g : Frame) (st : Stands w cs g) → F w cs g st (way_from st.values.registers i) (act s.face.under s.floats y w g)) → Goes_so (way_by frame i)
    goes_so choice h w cs g rest moves r gm gp = let st = stands_there w cs g rest moves r gm gp in
        subst (λ way. GoesBy w g way (act s.face.under s.floats y w g)) (sym (ap (λ fr. way_by fr i) st.has_values ∙ ap (λ v. if v then way_from st.values.registers i else Open) choice))
        (along w cs g st (way_from st.values.registers i) (act s.face.under s.floats y w g) (h w cs g st))
