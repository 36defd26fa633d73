-- A call that does nothing by the facts enters a quiet method in each state of a run.
use Rattle.std.proofs.Common.{◌≡◌, ◌⊎◌, inl, inr, ℕ, zero, suc, ◌<◌, Bool, true, false, true≢false, List, [], ◌∷◌, length, map, Option, Some, None, refl, sym, ap, ap₂, ◌∙◌, subst, arith, nat_eq}
use Rattle.std.specs.Prelude.{◌&&◌, ◌||◌, not, cond, is_some, slice_get, option_and_then, nat_lt, codes, Contains}
use Rattle.std.specs.List.{range_with_len}
use Rattle.std.specs.Option.{option_map}
use Rattle.std.proofs.lemmas.Bool.{eqb-true, eq-eqb, ltb-true}
use Rattle.insn_set.specs.declared.ops.InvokeKind.{InvokeKind}
use Rattle.insn_set.specs.declared.ops.InvokeKind.TheVariants as call
use Rattle.insn_set.specs.declared.form.Insn.{Insn}
use Rattle.insn_set.specs.declared.form.Insn.TheVariants as insn
use Rattle.program_model.specs.declared.body.Body.{Body}
use Rattle.program_model.specs.declared.pools.MethodName.{MethodName}
use Rattle.program_model.specs.declared.program.Class.{Class}
use Rattle.program_model.specs.declared.program.Method.{Method}
use Rattle.program_model.specs.declared.program.MethodAt.{MethodAt}
use Rattle.program_model.specs.declared.program.Program.{Program}
use Rattle.program_model.specs.Lookups as look
use Rattle.program_model.specs.Lookups.{class_place}
use Rattle.program_model.specs.MemberRules.{is_static as is_static_flags}
use Rattle.class_defs.specs.Finding.{by_entry, finds_from, finds_static, finds_virtual, search_of}
use Rattle.class_defs.specs.Members.{is_interface}
use Rattle.class_defs.specs.Places.{is_under}
use Rattle.class_defs.specs.Starts.{is_trivial}
use Rattle.class_defs.proofs.WellFormed.{Sound, class_parts}
use Rattle.dalvik_defs.specs.Act.{act}
use Rattle.dalvik_defs.specs.Effect.{register}
use Rattle.dalvik_defs.specs.Face.{Bodies, face_of, bodies_of, finds_virtually, is_defined}
use Rattle.dalvik_defs.specs.Find.{Found, Search, Finds, finds_statically, found_in}
use Rattle.dalvik_defs.specs.Flags as flags
use Rattle.dalvik_defs.specs.Happens.{Setting, effect_of}
use Rattle.dalvik_defs.specs.Initialised as initialised
use Rattle.dalvik_defs.specs.Names.{Text, is_class_type}
use Rattle.dalvik_defs.specs.Naming.{body_of, form_of, named, named_class, named_method, type_at, text_at}
use Rattle.dalvik_defs.specs.Naming as naming
use Rattle.dalvik_defs.specs.Outcome.{Outcome, Enters, Need, Ready, need_of, need_if, when_ready, faults, calls_uncoded, calls_found, calls_ready, calls_by, calls, outcome}
use Rattle.dalvik_defs.specs.Known.{null_pointer}
use Rattle.dalvik_defs.specs.Outer.{Outer}
use Rattle.dalvik_defs.specs.Stack.{form_at as form_here}
use Rattle.dalvik_defs.specs.State.{World, Classes, Done, kind_of, is_null}
use Rattle.dalvik_defs.specs.Under.{class_named, defines, is_own_under}
use Rattle.dalvik_defs.specs.declared.state.Frame.{Frame}
use Rattle.dalvik_defs.specs.declared.state.Value.{Value}
use Rattle.dalvik_defs.specs.declared.state.Value.TheVariants as machine
use Rattle.dalvik_defs.specs.declared.forms.Form.{Form}
use Rattle.dalvik_defs.specs.declared.forms.Form.TheVariants as form
use Rattle.dalvik_defs.specs.declared.names.MethodKey.{MethodKey}
use Rattle.dalvik_defs.specs.declared.script.Move.{Move}
use Rattle.dalvik_defs.specs.declared.program.NamedBody.{NamedBody}
use Rattle.dalvik_defs.specs.declared.program.NamedClass.{NamedClass}
use Rattle.dalvik_defs.specs.declared.program.NamedProgram.{NamedProgram}
use Rattle.dalvik_defs.specs.declared.tables.Floats.{Floats}
use Rattle.dalvik_defs.specs.declared.tables.Framework.{Framework}
use Rattle.dalvik_defs.proofs.Frames.{now}
use Rattle.dalvik_defs.proofs.Quiet.{trivial_quiet}
use Rattle.domains.specs.Nulls.{Allows}
use Rattle.domains.specs.Datum.{is_zero}
use Rattle.domains.specs.Values.{Parts, value_holds}
use Rattle.domains.specs.declared.nulls.Nullness.{Nullness}
use Rattle.domains.specs.declared.nulls.Nullness.TheVariants as nulls
use Rattle.dom_frame.specs.Registers.{value_at}
use Rattle.dom_frame.specs.declared.frames.Frame.{Frame as Values}
use Rattle.facts.specs.Lent.{frame_at}
use Rattle.facts.specs.declared.facts.Facts.{Facts}
use Rattle.hierarchy.specs.Touring.{subclasses_of}
use Rattle.run_laws.proofs.Invariants.{Entered}
use Rattle.run_laws.proofs.Plain.{grown, LeadsPlainly}
use Rattle.lemmas.proofs.Bools.{and_left, and_right, and_both, not_true, not_of_false}
use Rattle.lemmas.proofs.Lists.{contains_here, contains_there, got_short}
use Rattle.lemmas.proofs.Options.{none_some, some_same}
use Rattle.name_bridge.specs.Named.{found_at, search_at, finds}
use Rattle.name_bridge.proofs.Above.{Defined, defined, own_place}
use Rattle.name_bridge.proofs.Flags.{interface_flag}
use Rattle.name_bridge.proofs.Found.{IsThere, found_there_is}
use Rattle.name_bridge.proofs.Resolved.{static_by_number}
use Rattle.name_bridge.proofs.Started.{trivial_by_number}
use Rattle.name_bridge.proofs.Tables.{method_is}
use Rattle.pass_defs.specs.Demands.{is_constructor_name}
use Rattle.pass_defs.specs.Kinds.{is_plain}
use Rattle.run_laws.specs.TypedStates.{TypedFrame, TypedWorld, typed_states}
use Rattle.run_laws.proofs.Climbs.{class_in, name_of}
use Rattle.run_laws.proofs.Here.{At, into_map}
use Rattle.run_laws.proofs.Runs.{keeps_typed}
use Rattle.run_laws.proofs.Searches.{finds_regularly}
use Rattle.run_laws.proofs.Settled.{IsSettled}
use Rattle.removal_bridge.proofs.Listed.{image, Image}
use Rattle.pass_defs.specs.Analysis.{Analysis}
use Rattle.pass_defs.specs.Facts as by_name
use Rattle.run_facts.specs.ValueAnalysis.{datum_of, value_analysis}
use Rattle.cover_law.specs.Operators.{operators}
use Rattle.cover_law.proofs.Ready.{IsReady}
use Rattle.cover_law.proofs.Stays.{looks, Is}
use Rattle.facts_kept.specs.Names.{named_facts, values_of}
use Rattle.facts_kept.proofs.Calling.{FoundNumber, found_number}
use Rattle.facts_kept.proofs.Fits.{Owner, owner_of}
use Rattle.facts_kept.proofs.Numbers.{IsNumber}
use Rattle.receivers.specs.Receiving.{agreed_under, found_by, handed_down, interface_at, is_overridden, stands_under, under_place}
use Rattle.receivers.proofs.Handed.{handed}
use Rattle.receivers.proofs.Ranges.{in_contains, filter_in, numbers_in}
use Rattle.receivers.proofs.Walks.{under_self}
use Rattle.rebind_law.specs.Receivers.{Renames, finds_listed}
use Rattle.rebind_law.proofs.ByClass.{received}
use Rattle.rebind_law.proofs.ByClass as by_class
use Rattle.rebind_law.proofs.Listed.{listed_virtually}
use Rattle.calls_kept.proofs.Finding.{class_text, own_class, under_named, found_listed}
use Rattle.quiet_methods.specs.Forms.{starts_quietly}
use Rattle.quiet_methods.specs.Quiet.{is_on, IsCode}
use Rattle.quiet_code.specs.Calls.{is_constructor, is_called_so, is_quiet_at, is_quiet_target, is_quiet_found, is_quiet_named, is_quiet_for_all, is_quiet_under, is_quiet_virtual, is_no_null, holds_object, has_object, is_idle_call, is_init}
use Rattle.thin_laws.specs.Calls.{EntersQuietly}
use Rattle.calls_kept.proofs.Agreed.{all_agree}
use Rattle.calls_kept.proofs.Standing.{Run, Stands, Framed, stands_there, framed, same_code, form_same, form_there, code, insn as insn_of, method as method_of, body as code_of, A, T, S, settled, based, Reaches, calm, setting, find}

-- ---- what isn't null

not_null : (p : NamedProgram) (v : Parts) (k : Text) (u : Value) → is_no_null v.nullness ≡ true → value_holds v (datum_of p k u) → is_null u ≡ false
not_null p v k u e h = by v.nullness e h.1
  where
    of : (u : Value) → is_zero (datum_of p k u) ≡ false → is_null u ≡ false
    of (machine.Word n) z = z
    of (machine.Low n) z = refl
    of (machine.High n) z = refl
    of (machine.Object n) z = refl
    of (machine.Literal t) z = refl
    of (machine.Class t) z = refl

    by : (x : Nullness) → is_no_null x ≡ true → Allows x (is_zero (datum_of p k u)) → is_null u ≡ false
    by nulls.Bottom e z = absurd z
    by nulls.NotNull e z = of u z
    by nulls.Null e z = absurd (true≢false (sym e))
    by nulls.Any e z = absurd (true≢false (sym e))

-- numbers that aren't different
decided : (n m : ℕ) → ((n ≡ m → ⊥) → ⊥) → n ≡ m
decided n m h = by (nat_eq n m) refl
  where
    by : (b : Bool) → nat_eq n m ≡ b → n ≡ m
    by true e = eqb-true n m e
    by false e = absurd (h (λ d. true≢false (sym (eq-eqb n m d) ∙ e)))

-- ---- quiet methods

-- a name is that of a method whose number is marked
pub record QuietKey (p : Program) (s : Sound p) (marks : List Bool) (k : MethodKey) : Type 0 where
  pub number : ℕ
  pub is_number : IsNumber p s k number
  pub on : is_on marks number ≡ true

-- a method with code at a place, that is marked, and whose class runs no code when it is initialised
pub record QuietTarget (p : Program) (marks : List Bool) (at : MethodAt) : Type 0 where
  pub method : Method
  pub body : Body
  pub there : look.method_at p at ≡ Some method
  pub coded : method.body ≡ Some body
  pub on : is_on marks method.name ≡ true
  pub trivial : is_trivial p at.class ≡ true

module _ (program : Program) (facts : Facts) (o : Outer) (f : Framework) (floats : Floats) (script : List Move) (run : Run program facts o f floats script) (marks : List Bool) where
  abbrev p : NamedProgram
  p = named program

  abbrev s : Setting
  s = setting program facts o f floats script run

  abbrev fd : Bodies
  fd = bodies_of (named program)

  abbrev sd : Sound program
  sd = S program facts o f floats script run

  abbrev an : Analysis Parts
  an = A program facts o f floats script run

  abbrev tf : by_name.Facts Parts
  tf = T program facts o f floats script run

  abbrev rd : IsReady (value_analysis (named program) operators) (named program) o f floats (named_facts program facts)
  rd = based program facts o f floats script run

  abbrev reg : IsSettled (named program)
  reg = settled program facts o f floats script run

  abbrev need : Classes → Text → Need
  need cs = need_of (face_of p f) cs

  abbrev pub QuietNamed : MethodKey → Type 0
  QuietNamed = QuietKey program sd marks

  coded_body : (m : Method) → is_some m.body ≡ true → (b : Body) × (m.body ≡ Some b)
  coded_body m e = by m.body refl e
    where
      by : (x : Option Body) → m.body ≡ x → is_some x ≡ true → (b : Body) × (m.body ≡ Some b)
      by None i j = absurd (true≢false (sym j))
      by (Some b) i j = (b, i)

  pub target_of : (at : MethodAt) (m : Method) → look.method_at program at ≡ Some m → is_some m.body ≡ true → is_on marks m.name ≡ true → starts_quietly program at.class ≡ true → QuietTarget program marks at
  target_of at m e has on starts = let b = coded_body m has in
      record { method = m; body = b.0; there = e; coded = b.1; on = on; trivial = and_right (nat_lt at.class (length program.classes)) (is_trivial program at.class) starts }

  -- ---- a state of the run

  module _ (w : World) (cs : Classes) (g : Frame) (st : Stands program facts o f floats script run w cs g) where
    -- the outcome of the form
    pub now_is : (y : Form) → form_here fd g ≡ Some y → now s fd w cs g ≡ outcome (face_of p f) (need_of (face_of p f) cs) (act (face_of p f).under floats y w g) w g
    now_is y e = ap (λ z. outcome (face_of p f) (need cs) (effect_of s z w g) w g) e

    -- a class that is initialised trivially is ready
    pub ready_class : (t : Text) → initialised.is_trivial p t ≡ true → need_of (face_of p f) cs t ≡ Ready
    ready_class t e = ap (need_if (is_defined (face_of p f) t)) (st.done t (trivial_quiet p f t (run.ends t) e)) ∙ by (is_defined (face_of p f) t)
      where
        by : (b : Bool) → need_if b Done ≡ Ready
        by true = refl
        by false = refl

    -- what is entered takes as many values as are passed
    takes : (k : MethodKey) (vs : List Value) (b : NamedBody) → now s fd w cs g ≡ Enters k vs → fd k ≡ Some b → length vs ≡ b.ins
    takes k vs b e found =
        let leads = (keeps_typed p o f floats reg (finds_regularly p f reg)).steps w cs g st.tw st.td in
        let entered = (subst (λ (x : Outcome). LeadsPlainly s fd (typed_states p f o) w cs g x) e leads).1 in
        decided (length vs) b.ins (subst (λ (x : Option NamedBody). Entered s fd (grown s fd (typed_states p f o)) w cs k vs x) found entered).1

    -- ---- what is found

    module _ (at : MethodAt) (q : QuietTarget program marks at) where
      abbrev owner : Owner program at q.method
      owner = owner_of program at q.method q.there

      abbrev found : Found
      found = found_in (named_class program owner.class) (named_method program q.method)

      found_is : found_at program at ≡ Some found
      found_is = found_there_is program at (record { class = owner.class; is_class = owner.is_class; method = q.method; is_method = owner.is_method })

      found_coded : found.coded ≡ true
      found_coded = ap (λ (x : Option Body). is_some (option_map (body_of program) x)) q.coded

      found_body : fd found.key ≡ Some (body_of program q.body)
      found_body = ap (option_and_then (λ m. m.body)) (run.base.tabled.regular.methods (named_class program owner.class) (named_method program q.method)
          (into_map (named_class program) program.classes owner.class (contains_at program.classes at.class owner.class owner.is_class))
          (into_map (named_method program) owner.class.methods q.method (contains_at owner.class.methods at.place q.method owner.is_method)))
          ∙ ap (option_map (body_of program)) q.coded
        where
          contains_at : {B : Type 0} (xs : List B) (n : ℕ) (x : B) → slice_get xs n ≡ Some x → Contains xs x
          contains_at [] n x e = none_some x e
          contains_at (y ∷ xs) zero x e = subst (Contains (y ∷ xs)) (some_same y x e) (contains_here y xs)
          contains_at (y ∷ xs) (suc n) x e = contains_there y xs x (contains_at xs n x e)

      found_by_number : IsNumber program sd found.key q.method.name
      found_by_number = let n : FoundNumber program sd run.once at found = found_number program sd run.once at found found_is in
          subst (λ (m : Method). IsNumber program sd found.key m.name) (some_same n.method q.method (sym n.there ∙ q.there)) n.is_number

      pub quiet_named : QuietNamed found.key
      quiet_named = record { number = q.method.name; is_number = found_by_number; on = q.on }

      found_trivial : initialised.is_trivial p found.key.class ≡ true
      found_trivial = trivial_by_number program sd run.once owner.class.name at.class (class_parts program sd at.class owner.class owner.is_class).name
          (own_place program run.once at.class owner.class owner.is_class) ∙ q.trivial

      pub enters_found : (kind : InvokeKind) (vs : List Value) → calls_ready (need_of (face_of p f) cs) kind (found_in (named_class program (owner_of program at q.method q.there).class) (named_method program q.method)) vs w
          ≡ Enters (found_in (named_class program (owner_of program at q.method q.there).class) (named_method program q.method)).key vs
      enters_found kind vs = by (flags.is_static found.flags)
        where
          code_called : calls_found kind found vs w ≡ Enters found.key vs
          code_called = ap (λ b. elim b as (λ b. Outcome) [ true ↦ Enters found.key vs | false ↦ calls_uncoded kind found vs w ]) found_coded

          by : (b : Bool) → (elim b as (λ b. Outcome) [ true ↦ when_ready (need cs found.key.class) w found.key.class (calls_found kind found vs w) | false ↦ calls_found kind found vs w ]) ≡ Enters found.key vs
          by true = ap (λ n. when_ready n w found.key.class (calls_found kind found vs w)) (ready_class found.key.class found_trivial) ∙ code_called
          by false = code_called

      abbrev pub Quietly : Type 0
      Quietly = EntersQuietly s fd (QuietKey program sd marks) w cs g

      -- a call that finds it enters it
      quietly : (kind : InvokeKind) (k : MethodKey) (args : List ℕ) → form_here fd g ≡ Some (form.Invoke kind k args) → calls (face_of p f) (need cs) kind k (map (register g) args) w g ≡ Enters found.key (map (register g) args) → Quietly
      quietly kind k args e enters = let is = now_is (form.Invoke kind k args) e ∙ enters in record {
        kind = kind;
        named = k;
        args = args;
        call = e;
        method = found.key;
        values = map (register g) args;
        body = body_of program q.body;
        enters = is;
        found = found_body;
        takes = takes found.key (map (register g) args) (body_of program q.body) is found_body;
        is_quiet = quiet_named;
      }

      statically : (callee : ℕ) → callee < length program.methods → finds_static program callee ≡ Some at → finds_statically p (naming.method_at program callee) ≡ Finds found
      statically callee low e = static_by_number program sd callee low ∙ ap (λ x. search_at program (search_of x)) e ∙ ap finds found_is

      -- a call that enters it, which has its number
      pub record EntersIt : Type 0 where
        pub call : Quietly
        pub is_number : IsNumber program sd call.method q.method.name

      pub static_enters : (callee : ℕ) (args : List ℕ) → form_here fd g ≡ Some (form.Invoke call.Static (naming.method_at program callee) args) → callee < length program.methods → finds_static program callee ≡ Some at → EntersIt
      unfolding quietly
      static_enters callee args e low h = record {
        call = quietly call.Static (naming.method_at program callee) args e
            (ap (calls_by (need cs) call.Static (naming.method_at program callee) (map (register g) args) w g) (statically callee low h) ∙ enters_found call.Static (map (register g) args));
        is_number = found_by_number;
      }

      on_object : (kind : InvokeKind) (k : MethodKey) (r : ℕ) (rs : List ℕ) (y : Search) → is_null (register g r) ≡ false → y ≡ Finds found
          → (elim (is_null (register g r)) as (λ b. Outcome) [ true ↦ faults w null_pointer | false ↦ calls_by (need cs) kind k (map (register g) (r ∷ rs)) w g y ]) ≡ Enters found.key (map (register g) (r ∷ rs))
      on_object kind k r rs y some is = ap (λ b. elim b as (λ b. Outcome) [ true ↦ faults w null_pointer | false ↦ calls_by (need cs) kind k (map (register g) (r ∷ rs)) w g y ]) some
          ∙ ap (calls_by (need cs) kind k (map (register g) (r ∷ rs)) w g) is ∙ enters_found kind (map (register g) (r ∷ rs))

      direct_enters : (callee r : ℕ) (rs : List ℕ) → form_here fd g ≡ Some (form.Invoke call.Direct (naming.method_at program callee) (r ∷ rs)) → callee < length program.methods → is_null (register g r) ≡ false → finds_static program callee ≡ Some at → Quietly
      direct_enters callee r rs e low some h = quietly call.Direct (naming.method_at program callee) (r ∷ rs) e
          (on_object call.Direct (naming.method_at program callee) r rs (finds_statically p (naming.method_at program callee)) some (statically callee low h))

      virtual_enters : (callee r : ℕ) (rs : List ℕ) → form_here fd g ≡ Some (form.Invoke call.Virtual (naming.method_at program callee) (r ∷ rs)) → is_null (register g r) ≡ false
          → finds_virtually p f (kind_of w (register g r)) (naming.method_at program callee) ≡ Finds found → Quietly
      virtual_enters callee r rs e some h = quietly call.Virtual (naming.method_at program callee) (r ∷ rs) e
          (on_object call.Virtual (naming.method_at program callee) r rs (finds_virtually p f (kind_of w (register g r)) (naming.method_at program callee)) some h)

    -- ---- receivers

    -- the first register of a call that the facts know as no null
    receiver_there : (kind : InvokeKind) (k : MethodKey) (r : ℕ) (rs : List ℕ) → st.form ≡ form.Invoke kind k (r ∷ rs)
        → holds_object (frame_at facts.frames.items (method_of program facts o f floats script run w cs g st).name g.position) r ≡ true → is_null (register g r) ≡ false
    receiver_there kind k r rs e h = not_null p (value_at fr.frame.registers r) (kind_of w (register g r)) (register g r) (sym (ap (λ x. holds_object x r) fr.there) ∙ h)
        (subst (λ x. value_holds (value_at x r) (datum_of p (kind_of w (register g r)) (register g r))) (sym fr.registers)
        (subst (λ (z : ℕ → Parts). value_holds (z r) (datum_of p (kind_of w (register g r)) (register g r))) (sym st.number.registers_are) seen))
      where
        fr : Framed program facts o f floats script run w cs g st
        fr = framed program facts o f floats script run w cs g st

        at : Is an p o f floats tf rd reg w cs g st.tw st.kw st.cw st.td st.kg st.top (form.Invoke kind k (r ∷ rs))
        at = subst (Is an p o f floats tf rd reg w cs g st.tw st.kw st.cw st.td st.kg st.top) e st.at

        seen : value_holds (st.top.stands.registers r) (datum_of p (kind_of w (register g r)) (register g r))
        seen = (looks an p o f floats tf rd reg w cs g st.tw st.kw st.cw st.td st.kg st.top (form.Invoke kind k (r ∷ rs)) at).0

    -- what objects under a plain class find
    module _ (callee : ℕ) (q : MethodName) (class : ℕ) (at : MethodAt) (is_q : slice_get program.methods callee ≡ Some q) (is_class : class_place program q.class ≡ Some class) (plain : interface_at program class ≡ false)
        (found_first : finds_virtual program q.name q.proto class ≡ Some at) (free : is_overridden program q class at ≡ false) (ordinary : is_constructor program q ≡ false) (target : QuietTarget program marks at) where
      own : Defined program q.class class
      own = defined program q.class class is_class

      short : class < length program.classes
      short = got_short program.classes class own.class own.is

      stands : stands_under program class q.class ≡ true
      stands = ap (under_place program class q.class) is_class ∙ under_self program run.ranked class

      agreed_at : agreed_under program q class ≡ Some at
      agreed_at = sym (handed program run.straight run.ranked q class short plain at found_first) ∙ ap₂ (λ a b. cond (a && not b) (Some at) None) stands free

      among : (c : ℕ) → c < length program.classes → is_under program c class ≡ true → Contains (class ∷ subclasses_of program class) c
      among c l u = by (nat_eq c class) refl
        where
          by : (t : Bool) → nat_eq c class ≡ t → Contains (class ∷ subclasses_of program class) c
          by true e = subst (λ d. Contains (class ∷ subclasses_of program class) d) (sym (eqb-true c class e)) (contains_here class (subclasses_of program class))
          by false e = contains_there class (subclasses_of program class) c (in_contains (subclasses_of program class) c
              (filter_in (λ d. is_under program d class && not (nat_eq d class)) (range_with_len 0 (length program.classes)) c (numbers_in 0 (length program.classes) c (omega arith) (omega (arith, l)))
              (and_both (is_under program c class) (not (nat_eq c class)) u (not_of_false (nat_eq c class) e))))

      all_find_it : (c : ℕ) → c < length program.classes → is_under program c class ≡ true → found_by program q c ≡ Some at
      all_find_it c l u = all_agree program q (class ∷ subclasses_of program class) at agreed_at c (among c l u)

      abbrev key : MethodKey
      key = naming.method_at program callee

      key_is : key ≡ record { class = type_at program q.class; name = text_at program q.name; signature = naming.signature_at program q.proto }
      key_is = method_is program sd callee q is_q

      key_class : key.class ≡ type_at program own.class.name
      key_class = ap (λ (k : MethodKey). k.class) key_is ∙ ap (type_at program) (sym own.named)

      own_text : is_class_type (type_at program own.class.name) ≡ true
      own_text = class_text program run.fits run.once run.ancestor class own.class own.is

      key_type : is_class_type key.class ≡ true
      key_type = ap is_class_type key_class ∙ own_text

      plain_key : is_plain p key.class ≡ true
      plain_key = ap (is_plain p) key_class ∙ (ap (λ x. elim x as (λ x. Bool) [ Some c ↦ not (flags.is_interface c.flags) | None ↦ false ]) (own_class program run.fits run.once run.ancestor class own.class own.is)
          ∙ (ap not (sym (interface_flag own.class.flags) ∙ (sym (ap is_interface own.is) ∙ plain))))

      no_constructor : is_constructor_name key.name ≡ false
      no_constructor = ap (λ (k : MethodKey). is_constructor_name k.name) key_is ∙ by (slice_get program.strings q.name) refl ordinary
        where
          by : (x : Option (List ℕ)) → slice_get program.strings q.name ≡ x → (elim x as (λ x. Bool) [ Some units ↦ is_init units | None ↦ true ]) ≡ false → is_constructor_name (text_at program q.name) ≡ false
          by None i j = absurd (true≢false j)
          by (Some units) i j = ap (λ (y : Option (List ℕ)). is_constructor_name (elim y as (λ y. Text) [ Some t ↦ t | None ↦ [] ])) i ∙ j

      module _ (r : ℕ) (rs : List ℕ) (e : st.form ≡ form.Invoke call.Virtual (naming.method_at program callee) (r ∷ rs)) (some : is_null (register g r) ≡ false) where
        abbrev y : Form
        y = form.Invoke call.Virtual (naming.method_at program callee) (r ∷ rs)

        abbrev renames : Renames y y
        renames = record { kind = call.Virtual; kind' = call.Virtual; old = key; new = key; on = r; args = rs; first = refl; second = refl; virtual = refl; virtual' = refl; old_type = key_type; new_type = key_type; plain_name = no_constructor }

        abbrev reg' : IsSettled (named program)
        reg' = by_class.reg p o f floats script run.base.tabled.regular run.base.tabled.acyclic run.fit

        at_form : At p o f floats reg' w g st.td st.form
        at_form = record { has = st.at.has; allowed = st.at.allowed; right = st.at.right; edges = st.at.edges }

        abbrev kind : Text
        kind = kind_of w (register g r)

        under : (defines p kind ≡ true) × (is_own_under p kind key.class ≡ true)
        under = received p o f floats script run.base.tabled.regular run.base.tabled.acyclic run.fit w cs g st.tw st.td y y renames (subst (At p o f floats reg' w g st.td) e at_form) some plain_key

        virtually : finds_virtually p f kind key ≡ Finds (found_in (named_class program (owner_of program at target.method target.there).class) (named_method program target.method))
        virtually = by (class_named p kind) refl under.0
          where
            by : (x : Option NamedClass) → class_named p kind ≡ x → (elim x as (λ x. Bool) [ Some c ↦ true | None ↦ false ]) ≡ true
                → finds_virtually p f kind key ≡ Finds (found_in (named_class program (owner_of program at target.method target.there).class) (named_method program target.method))
            by None i j = absurd (true≢false (sym j))
            by (Some u) i j =
                let z : Image (named_class program) program.classes u = image (named_class program) program.classes u (class_in p kind u i) in
                let name : type_at program z.entry.name ≡ kind = ap (λ (c : NamedClass). c.name) z.is ∙ name_of p kind u i in
                let below : is_under program z.place class ≡ true = sym (under_named program run.fits run.once run.ancestor z.place class z.entry own.class z.is_entry own.is)
                ∙ (ap₂ (is_own_under p) name (sym key_class) ∙ under.1) in
                let found = found_listed program run.fits run.once run.ancestor callee q z.place z.entry at (found_in (named_class program (owner_of program at target.method target.there).class) (named_method program target.method)) is_q z.is_entry (found_is at target)
                (all_find_it z.place (got_short program.classes z.place z.entry z.is_entry) below) in
                listed_virtually p f run.base.tabled.regular.class_types kind key (found_in (named_class program (owner_of program at target.method target.there).class) (named_method program target.method)) under.0 key_type
                (subst (λ t. finds_listed p t key ≡ Finds (found_in (named_class program (owner_of program at target.method target.there).class) (named_method program target.method))) name found)

        pub virtual_quietly : EntersQuietly s fd (QuietKey program sd marks) w cs g
        virtual_quietly = virtual_enters at target callee r rs (form_there program facts o f floats script run w cs g st ∙ ap Some e) some virtually

    -- ---- by the kind of the call

    -- what is found, static or not
    record Found_so (static : Bool) (q : MethodName) (x : Option MethodAt) : Type 0 where
      at : MethodAt
      is : x ≡ Some at
      ordinary : static ≡ false → is_constructor program q ≡ false
      target : QuietTarget program marks at

    found_so : (static : Bool) (q : MethodName) (x : Option MethodAt) → is_quiet_found program marks static q x ≡ true → Found_so static q x
    found_so static q None e = absurd (true≢false (sym e))
    found_so static q (Some at) e = by (look.method_at program at) refl (and_right (static || not (is_constructor program q)) (is_quiet_target program marks static at.class (look.method_at program at)) e)
      where
        by : (y : Option Method) → look.method_at program at ≡ y → is_quiet_target program marks static at.class y ≡ true → Found_so static q (Some at)
        by None i j = absurd (true≢false (sym j))
        by (Some m) i j =
            let k : is_quiet_at program marks at.class m ≡ true = and_right (is_called_so static m) (is_quiet_at program marks at.class m) j in
            let both : (is_some m.body && is_on marks m.name) ≡ true = and_left (is_some m.body && is_on marks m.name) (starts_quietly program at.class) k in
            record {
              at = at;
              is = refl;
              ordinary = λ k. not_true (is_constructor program q) (sym (ap (λ z. z || not (is_constructor program q)) k)
                  ∙ and_left (static || not (is_constructor program q)) (is_quiet_target program marks static at.class (look.method_at program at)) e);
              target = target_of at m i (and_left (is_some m.body) (is_on marks m.name) both) (and_right (is_some m.body) (is_on marks m.name) both) (and_right (is_some m.body && is_on marks m.name) (starts_quietly program at.class) k);
            }

    abbrev Quiet_here : Type 0
    Quiet_here = EntersQuietly s fd (QuietKey program sd marks) w cs g

    abbrev frame_here : Option Values
    frame_here = frame_at facts.frames.items (method_of program facts o f floats script run w cs g st).name g.position

    named_static : (static : Bool) (callee : ℕ) (args : List ℕ) → st.form ≡ form.Invoke call.Static (naming.method_at program callee) args → is_quiet_named program marks static callee (slice_get program.methods callee) ≡ true → Quiet_here
    named_static static callee args e h = by (slice_get program.methods callee) refl h
      where
        by : (x : Option MethodName) → slice_get program.methods callee ≡ x → is_quiet_named program marks static callee x ≡ true → Quiet_here
        by None i j = absurd (true≢false (sym j))
        by (Some q) i j = let z = found_so static q (finds_static program callee) j in
            (static_enters z.at z.target callee args (form_there program facts o f floats script run w cs g st ∙ ap Some e) (got_short program.methods callee q i) z.is).call

    named_direct : (static : Bool) (callee r : ℕ) (rs : List ℕ) → st.form ≡ form.Invoke call.Direct (naming.method_at program callee) (r ∷ rs) → holds_object frame_here r ≡ true → is_quiet_named program marks static callee (slice_get program.methods callee) ≡ true → Quiet_here
    named_direct static callee r rs e held h = by (slice_get program.methods callee) refl h
      where
        by : (x : Option MethodName) → slice_get program.methods callee ≡ x → is_quiet_named program marks static callee x ≡ true → Quiet_here
        by None i j = absurd (true≢false (sym j))
        by (Some q) i j = let z = found_so static q (finds_static program callee) j in
            direct_enters z.at z.target callee r rs (form_there program facts o f floats script run w cs g st ∙ ap Some e) (got_short program.methods callee q i) (receiver_there call.Direct (naming.method_at program callee) r rs e held) z.is

    named_virtual : (callee r : ℕ) (rs : List ℕ) → st.form ≡ form.Invoke call.Virtual (naming.method_at program callee) (r ∷ rs) → holds_object frame_here r ≡ true → is_quiet_virtual program marks (slice_get program.methods callee) ≡ true → Quiet_here
    named_virtual callee r rs e held h = by (slice_get program.methods callee) refl h
      where
        below : (q : MethodName) (class : ℕ) (x : Option MethodAt) → slice_get program.methods callee ≡ Some q → class_place program q.class ≡ Some class → interface_at program class ≡ false → finds_virtual program q.name q.proto class ≡ x
            → is_quiet_for_all program marks q class x ≡ true → Quiet_here
        below q class None i c pl v j = absurd (true≢false (sym j))
        below q class (Some at) i c pl v j =
            let z = found_so false q (Some at) (and_left (is_quiet_found program marks false q (Some at)) (not (is_overridden program q class at)) j) in
            let same : at ≡ z.at = some_same at z.at z.is in
            virtual_quietly callee q class at i c pl v (not_true (is_overridden program q class at) (and_right (is_quiet_found program marks false q (Some at)) (not (is_overridden program q class at)) j)) (z.ordinary refl)
            (subst (QuietTarget program marks) (sym same) z.target) r rs e (receiver_there call.Virtual (naming.method_at program callee) r rs e held)

        placed : (q : MethodName) (x : Option ℕ) → slice_get program.methods callee ≡ Some q → class_place program q.class ≡ x → is_quiet_under program marks q x ≡ true → Quiet_here
        placed q None i c j = absurd (true≢false (sym j))
        placed q (Some class) i c j = below q class (finds_virtual program q.name q.proto class) i c
            (not_true (interface_at program class) (and_left (not (interface_at program class)) (is_quiet_for_all program marks q class (finds_virtual program q.name q.proto class)) j)) refl
            (and_right (not (interface_at program class)) (is_quiet_for_all program marks q class (finds_virtual program q.name q.proto class)) j)

        by : (x : Option MethodName) → slice_get program.methods callee ≡ x → is_quiet_virtual program marks x ≡ true → Quiet_here
        by None i j = absurd (true≢false (sym j))
        by (Some q) i j = placed q (class_place program q.class) i refl j

    -- a call that does nothing enters a quiet method
    pub idle_enters : (kind : InvokeKind) (callee : ℕ) (args : List ℕ) → st.form ≡ form.Invoke kind (naming.method_at program callee) args
        → is_idle_call program marks (frame_at facts.frames.items (method_of program facts o f floats script run w cs g st).name g.position) kind callee args ≡ true → EntersQuietly s fd (QuietKey program sd marks) w cs g
    idle_enters call.Static callee args e h = named_static true callee args e h
    idle_enters call.Direct callee [] e h = absurd (true≢false (sym h))
    idle_enters call.Direct callee (r ∷ rs) e h = named_direct false callee r rs e (and_left (holds_object frame_here r) (is_quiet_named program marks false callee (slice_get program.methods callee)) h)
        (and_right (holds_object frame_here r) (is_quiet_named program marks false callee (slice_get program.methods callee)) h)
    idle_enters call.Virtual callee [] e h = absurd (true≢false (sym h))
    idle_enters call.Virtual callee (r ∷ rs) e h = named_virtual callee r rs e (and_left (holds_object frame_here r) (is_quiet_virtual program marks (slice_get program.methods callee)) h)
        (and_right (holds_object frame_here r) (is_quiet_virtual program marks (slice_get program.methods callee)) h)
    idle_enters call.Super callee args e h = absurd (true≢false (sym h))
    idle_enters call.Interface callee args e h = absurd (true≢false (sym h))
