-- A run of a program keeps what the typings of the program say that asks: each of its steps does what a step of the other one
-- does, but for calls that ask, which enter what their receivers find.
use Rattle.std.proofs.Common.{◌≡◌, ℕ, Bool, true, false, true≢false, List, [], ◌∷◌, Option, Some, None, ◌⊎◌, refl, sym, ap, ◌∙◌, subst}
use Rattle.std.specs.Prelude.{map, slice_get}
use Rattle.std.specs.Option.{option_map, option_and_then}
use Rattle.insn_set.specs.declared.ops.InvokeKind.{InvokeKind}
use Rattle.insn_set.specs.declared.ops.InvokeKind.TheVariants as call
use Rattle.dalvik_defs.specs.Effect.{register, go}
use Rattle.dalvik_defs.specs.Face.{Face, face_of, bodies_of}
use Rattle.dalvik_defs.specs.Find.{Finds}
use Rattle.dalvik_defs.specs.Gives.{gets_all, spread}
use Rattle.dalvik_defs.specs.Happens.{Setting, effect_of, outcome_at}
use Rattle.dalvik_defs.specs.Known.{null_pointer}
use Rattle.dalvik_defs.specs.Names.{Text, is_class_type}
use Rattle.dalvik_defs.specs.Moves.{got}
use Rattle.dalvik_defs.specs.Outcome.{Outcome, Stays, Starts, Enters, Leaves, Ends, Raises, Halts, Need, need_of, faults, calls_by, receiver, on_receiver, calls, outcome}
use Rattle.dalvik_defs.specs.Outer.{Outer}
use Rattle.dalvik_defs.specs.Shown.{Fit}
use Rattle.dalvik_defs.specs.Stack.{lands, form_at}
use Rattle.dalvik_defs.specs.State.{World, Classes, Ended, is_null, kind_of, opening}
use Rattle.dalvik_defs.specs.Step.{after, setting_of}
use Rattle.dalvik_defs.specs.Under.{class_named, defines, is_own_under}
use Rattle.dalvik_defs.specs.declared.forms.Form.{Form}
use Rattle.dalvik_defs.specs.declared.forms.Form.TheVariants as form
use Rattle.dalvik_defs.specs.declared.names.MethodKey.{MethodKey}
use Rattle.dalvik_defs.specs.declared.program.NamedBody.{NamedBody}
use Rattle.dalvik_defs.specs.declared.program.NamedClass.{NamedClass}
use Rattle.dalvik_defs.specs.declared.program.NamedProgram.{NamedProgram}
use Rattle.dalvik_defs.specs.declared.script.Move.{Move}
use Rattle.dalvik_defs.specs.declared.state.Frame.{Frame}
use Rattle.dalvik_defs.specs.declared.state.Value.{Value}
use Rattle.dalvik_defs.specs.declared.tables.Floats.{Floats}
use Rattle.dalvik_defs.specs.declared.tables.Framework.{Framework}
use Rattle.dalvik_defs.proofs.Same.{fits_less}
use Rattle.pass_defs.specs.Bindable.{is_virtual_call}
use Rattle.pass_defs.specs.Kinds.{is_plain}
use Rattle.run_laws.specs.Holds.{Holds}
use Rattle.run_laws.specs.Invariant.{Invariant}
use Rattle.run_laws.proofs.Invariants.{Entered, Landed, holds_after, opens_with}
use Rattle.run_laws.proofs.Plain.{grown, LeadsPlainly, KeptPlainly, keeps_plainly}
use Rattle.removal_law.specs.Reach.{IsAcyclic}
use Rattle.program_laws.proofs.Heads.{plain_same, under_same, finds_at_same}
use Rattle.run_laws.specs.Regular.{IsRegular}
use Rattle.run_laws.specs.TypedStates.{TypedFrame, TypedWorld, typed_states}
use Rattle.run_laws.proofs.Climbs.{class_in, name_of, none_some, some_one, plain_defined}
use Rattle.run_laws.proofs.Here.{At, at_form}
use Rattle.run_laws.proofs.Runs.{keeps_typed, typed_opening, each_move}
use Rattle.run_laws.proofs.Settled.{IsSettled, FindsRegularly}
use Rattle.rebind_law.specs.Receivers.{Renames, finds_listed}
use Rattle.rebind_law.proofs.ByClass.{reg, finds, received}
use Rattle.rebind_law.proofs.Listed.{listed_both, listed_virtually}
use Rattle.rebind_law.specs.Asking.{Asks, asking, asking_key, asking_body, asking_change, asking_program, no_name, AskedCall, AreAsked}
use Rattle.rebind_law.proofs.NoName.{ordinary_name}
use Rattle.rebind_law.proofs.Positions.{coded, asking_face, asking_found, asking_form, same_handler, same_back}
use Rattle.rebind_law.proofs.Regular.{asking_regular, asking_acyclic, same_defines}
use Rattle.rebind_law.proofs.Entering.{found_leads, null_leads}

-- what a virtual or interface call does is decided by what its receiver finds
searched : (face : Face) (need : Text → Need) (vs : List Value) (w : World) (g : Frame) (kind : InvokeKind) (k : MethodKey) → is_virtual_call kind ≡ true
    → calls face need kind k vs w g ≡ on_receiver vs w (calls_by need kind k vs w g (face.virtually (kind_of w (receiver vs)) k))
searched face need vs w g call.Virtual k e = refl
searched face need vs w g call.Interface k e = refl
searched face need vs w g call.Static k e = absurd (true≢false (sym e))
searched face need vs w g call.Direct k e = absurd (true≢false (sym e))
searched face need vs w g call.Super k e = absurd (true≢false (sym e))

-- the first register that a call passes
abbrev first_register : Form → ℕ
first_register (form.Invoke kind k (r ∷ rs)) = r
first_register f = 0

module _ (p : NamedProgram) (o : Outer) (f : Framework) (a : Floats) (script : List Move) (regular : IsRegular p) (acyclic : IsAcyclic p) (fit : Fit p o f script) (asks : Asks) (asked : AreAsked p asks) where
  abbrev m : NamedProgram
  m = asking_program asks p

  abbrev name : Text
  name = no_name p

  abbrev i : Invariant
  i = typed_states m f o

  abbrev s : Setting
  s = setting_of p o f a

  abbrev m_regular : IsRegular m
  m_regular = asking_regular p regular asks asked

  abbrev m_acyclic : IsAcyclic m
  m_acyclic = asking_acyclic p asks acyclic

  abbrev m_fit : Fit m o f script
  m_fit = fits_less p m o (λ t e. sym (same_defines p regular asks asked t) ∙ e) f script fit

  abbrev pub m_settled : IsSettled m
  m_settled = reg m o f a script m_regular m_acyclic m_fit

  abbrev pub m_finds : FindsRegularly m f
  m_finds = finds m o f a script m_regular m_acyclic m_fit

  same_setting : setting_of m o f a ≡ s
  same_setting = ap (λ face. record { face = face; outer = o; floats = a }) (asking_face asks p f)

  -- the other program keeps it, in the setting of this one
  kept : KeptPlainly s (bodies_of m) i
  kept = subst (λ z. KeptPlainly z (bodies_of m) i) same_setting (keeps_typed m o f a m_settled m_finds)

  -- ---- what is entered, and where what is thrown lands

  enters_same : (w : World) (c : Classes) (k : MethodKey) (vs : List Value) → Entered s (bodies_of m) (grown s (bodies_of m) i) w c k vs (bodies_of m k) → Entered s (bodies_of p) (grown s (bodies_of p) i) w c k vs (bodies_of p k)
  enters_same w c k vs h = by (bodies_of p k) (subst (Entered s (bodies_of m) (grown s (bodies_of m) i) w c k vs) (asking_found asks p k) h)
    where
      by : (x : Option NamedBody) → Entered s (bodies_of m) (grown s (bodies_of m) i) w c k vs (option_map (asking_body name (asks k)) x) → Entered s (bodies_of p) (grown s (bodies_of p) i) w c k vs x
      by None h = h
      by (Some b) h = h

  same_lands : (w : World) (g : Frame) (v : Value) → lands s.face (bodies_of m) w g v ≡ lands s.face (bodies_of p) w g v
  same_lands w g v = ap (option_map (λ at. record (go g at) { caught = v })) (same_handler asks p (s.face.under (kind_of w v)) g.position g.method)

  lands_same : (w : World) (c : Classes) (g : Frame) (v : Value) → Landed s (bodies_of m) (grown s (bodies_of m) i) w c (lands s.face (bodies_of m) w g v) → Landed s (bodies_of p) (grown s (bodies_of p) i) w c (lands s.face (bodies_of p) w g v)
  lands_same w c g v h = by (lands s.face (bodies_of p) w g v) (subst (Landed s (bodies_of m) (grown s (bodies_of m) i) w c) (same_lands w g v) h)
    where
      by : (x : Option Frame) → Landed s (bodies_of m) (grown s (bodies_of m) i) w c x → Landed s (bodies_of p) (grown s (bodies_of p) i) w c x
      by None h = h
      by (Some g) h = h

  leads_same : (w : World) (c : Classes) (g : Frame) (x : Outcome) → LeadsPlainly s (bodies_of m) i w c g x → LeadsPlainly s (bodies_of p) i w c g x
  leads_same w c g (Stays w1 g1 e) h = h
  leads_same w c g (Starts t) h = h
  leads_same w c g (Enters k vs) h = (h.0, enters_same w c k vs h.1)
  leads_same w c g (Leaves w1 owes e) h = h
  leads_same w c g (Ends v) h = h
  leads_same w c g (Raises w1 v) h = (h.0, h.1, lands_same w1 c g v h.2)
  leads_same w c g Halts h = h

  -- ---- a call that asks

  module _ (w : World) (c : Classes) (g : Frame) (tw : TypedWorld m f w) (t : TypedFrame m f w g) (u : Text) (x : Form) (call : AskedCall p u x) (here : At m o f a m_settled w g t (asking name (Some u) x)) where
    abbrev key : MethodKey
    key = asking_key name u call.key

    here_call : At m o f a m_settled w g t (form.Invoke call.kind key (call.on ∷ call.args))
    here_call = subst (λ y. At m o f a m_settled w g t (asking name (Some u) y)) call.is here

    m_plain : is_plain m u ≡ true
    m_plain = ap (λ h. h u) (plain_same (asking_change name asks) p) ∙ call.plain

    class_type : is_class_type u ≡ true
    class_type = regular.class_types u (plain_defined p u call.plain)

    -- the call as one that stays
    abbrev stays : Renames (form.Invoke call.kind key (call.on ∷ call.args)) (form.Invoke call.kind key (call.on ∷ call.args))
    stays = record {
      kind = call.kind;
      kind' = call.kind;
      old = key;
      new = key;
      on = call.on;
      args = call.args;
      first = refl;
      second = refl;
      virtual = call.virtual;
      virtual' = call.virtual;
      old_type = class_type;
      new_type = class_type;
      plain_name = ordinary_name p;
    }

    -- its receiver is null, or of a class under the one that is asked for
    pub asked_receiver : is_null (register g call.on) ≡ false → (defines p (kind_of w (register g call.on)) ≡ true) × (is_own_under p (kind_of w (register g call.on)) u ≡ true)
    asked_receiver some = let r = received m o f a script m_regular m_acyclic m_fit w c g tw t (form.Invoke call.kind key (call.on ∷ call.args)) (form.Invoke call.kind key (call.on ∷ call.args)) stays here_call some m_plain in (
      sym (same_defines p regular asks asked (kind_of w (register g call.on))) ∙ r.0,
      sym (ap (λ h. h (kind_of w (register g call.on)) u) (under_same (asking_change name asks) p)) ∙ r.1,
    )

    -- what the receiver finds
    listed_there : defines p (kind_of w (register g call.on)) ≡ true → is_own_under p (kind_of w (register g call.on)) u ≡ true → finds_listed p (kind_of w (register g call.on)) call.key ≡ Finds call.found
    listed_there there own = by (class_named p (kind_of w (register g call.on))) refl there
      where
        by : (y : Option NamedClass) → class_named p (kind_of w (register g call.on)) ≡ y → defines p (kind_of w (register g call.on)) ≡ true → finds_listed p (kind_of w (register g call.on)) call.key ≡ Finds call.found
        by (Some d) e q = let same : d.name ≡ kind_of w (register g call.on) = name_of p (kind_of w (register g call.on)) d e in
            subst (λ z. finds_listed p z call.key ≡ Finds call.found) same (call.finds d (class_in p (kind_of w (register g call.on)) d e) (ap (λ z. is_own_under p z u) same ∙ own))
        by None e q = absurd (true≢false (sym q ∙ ap (λ y. elim y as (λ y. Bool) [ Some c ↦ true | None ↦ false ]) e))

    abbrev vs : List Value
    vs = map (register g) (call.on ∷ call.args)

    abbrev L : Outcome → Type 0
    L = LeadsPlainly (setting_of m o f a) (bodies_of m) i w c g

    call_leads : L (calls (face_of p f) (need_of (face_of m f) c) call.kind call.key vs w g)
    call_leads = subst L (sym (searched (face_of p f) (need_of (face_of m f) c) vs w g call.kind call.key call.virtual)) (by (is_null (register g call.on)) refl)
      where
        finding : is_null (register g call.on) ≡ false → L (calls_by (need_of (face_of m f) c) call.kind call.key vs w g ((face_of p f).virtually (kind_of w (register g call.on)) call.key))
        finding some =
            let r = asked_receiver some in
            let l = listed_there r.0 r.1 in
            let found : (face_of p f).virtually (kind_of w (register g call.on)) call.key ≡ Finds call.found = listed_virtually p f regular.class_types (kind_of w (register g call.on)) call.key call.found r.0 call.key_type l in
            subst (λ y. L (calls_by (need_of (face_of m f) c) call.kind call.key vs w g y)) (sym found)
            (found_leads m o f a m_settled m_finds w c g tw t call.kind key call.on call.args call.virtual here_call call.key refl call.found call.coded
            (same_defines p regular asks asked (kind_of w (register g call.on)) ∙ r.0)
            (finds_at_same (asking_change name asks) p (coded name asks) (kind_of w (register g call.on)) call.key ∙ (listed_both p (kind_of w (register g call.on)) call.key call.found l).1)
            call.kind call.key)

        by : (b : Bool) → is_null (register g call.on) ≡ b → L (elim b as (λ b. Outcome) [
          | true ↦ faults w null_pointer
          | false ↦ calls_by (need_of (face_of m f) c) call.kind call.key vs w g ((face_of p f).virtually (kind_of w (register g call.on)) call.key)
        ])
        by true e = null_leads m o f a m_settled m_finds w c g tw t call.kind key call.on call.args call.virtual here_call
        by false e = finding e

    -- so it leads to what the typings say
    pub asked_leads : LeadsPlainly s (bodies_of p) i w c g (outcome s.face (need_of s.face c) (effect_of s (Some x) w g) w g)
    asked_leads = leads_same w c g (outcome s.face (need_of s.face c) (effect_of s (Some x) w g) w g)
        (subst (λ y. LeadsPlainly s (bodies_of m) i w c g (outcome s.face (need_of s.face c) (effect_of s (Some y) w g) w g)) (sym call.is)
        (subst (λ face. LeadsPlainly (record { face = face; outer = o; floats = a }) (bodies_of m) i w c g (calls (face_of p f) (need_of face c) call.kind call.key vs w g)) (asking_face asks p f) call_leads))

  -- ---- the law of invariants

  -- what stands at a frame of this program where the other one has something
  stands : (g : Frame) (b : NamedBody) (x : Form) → bodies_of m g.method ≡ Some b → slice_get b.forms g.position ≡ Some x → (y : Form) × ((form_at (bodies_of p) g ≡ Some y) × (asking name (asks g.method g.position) y ≡ x))
  stands g b x has at = by (form_at (bodies_of p) g) refl (sym (asking_form asks p g) ∙ (ap (option_and_then (λ (b : NamedBody). slice_get b.forms g.position)) has ∙ at))
    where
      by : (z : Option Form) → form_at (bodies_of p) g ≡ z → option_map (asking name (asks g.method g.position)) z ≡ Some x → (y : Form) × ((form_at (bodies_of p) g ≡ Some y) × (asking name (asks g.method g.position) y ≡ x))
      by None e j = none_some x j
      by (Some y) e j = (y, (e, some_one (asking name (asks g.method g.position) y) x j))

  -- the body in which it stands
  in_body : (g : Frame) (y : Form) → form_at (bodies_of p) g ≡ Some y → (b : NamedBody) × ((bodies_of p g.method ≡ Some b) × (slice_get b.forms g.position ≡ Some y))
  in_body g y e = by (bodies_of p g.method) refl e
    where
      by : (z : Option NamedBody) → bodies_of p g.method ≡ z → option_and_then (λ (b : NamedBody). slice_get b.forms g.position) z ≡ Some y → (b : NamedBody) × ((bodies_of p g.method ≡ Some b) × (slice_get b.forms g.position ≡ Some y))
      by None i j = none_some y j
      by (Some b) i j = (b, (i, j))

  -- the call that asks at a frame
  pub asked_at : (g : Frame) (y : Form) (u : Text) → form_at (bodies_of p) g ≡ Some y → asks g.method g.position ≡ Some u → AskedCall p u y
  asked_at g y u e j = let b = in_body g y e in asked.calls g.method b.0 g.position y u b.1.0 b.1.1 j

  steps : (w : World) (c : Classes) (g : Frame) → TypedWorld m f w → TypedFrame m f w g → LeadsPlainly s (bodies_of p) i w c g (outcome_at s (bodies_of p) (need_of s.face c) w g)
  steps w c g tw t = by (asks g.method g.position) refl
    where
      here : (x : Form) × At m o f a m_settled w g t x
      here = at_form m o f a m_settled w g t

      there : (y : Form) × ((form_at (bodies_of p) g ≡ Some y) × (asking name (asks g.method g.position) y ≡ here.0))
      there = stands g t.in_method.body here.0 (ap (bodies_of m) t.of ∙ t.in_method.has_body) here.1.has

      same_form : asks g.method g.position ≡ None → form_at (bodies_of m) g ≡ form_at (bodies_of p) g
      same_form e = asking_form asks p g ∙ (ap (λ z. option_map (asking name z) (form_at (bodies_of p) g)) e ∙ itself (form_at (bodies_of p) g))
        where
          itself : (z : Option Form) → option_map (asking name None) z ≡ z
          itself None = refl
          itself (Some y) = refl

      by : (z : Option Text) → asks g.method g.position ≡ z → LeadsPlainly s (bodies_of p) i w c g (outcome_at s (bodies_of p) (need_of s.face c) w g)
      by None e = leads_same w c g (outcome_at s (bodies_of p) (need_of s.face c) w g)
          (subst (λ z. LeadsPlainly s (bodies_of m) i w c g (outcome s.face (need_of s.face c) (effect_of s z w g) w g)) (same_form e) (kept.steps w c g tw t))
      by (Some u) e = subst (λ z. LeadsPlainly s (bodies_of p) i w c g (outcome s.face (need_of s.face c) (effect_of s z w g) w g)) (sym there.1.0)
          (asked_leads w c g tw t u there.0 (asked_at g there.0 u there.1.0 e) (subst (At m o f a m_settled w g t) (sym there.1.1 ∙ ap (λ z. asking name z there.0) e) here.1))

  keeps : KeptPlainly s (bodies_of p) i
  keeps = record {
    steps = steps;
    later = kept.later;
    returns = λ w c k g v tw t h. subst (TypedFrame m f w) (same_back asks p g v) (kept.returns w c k g v tw t h);
    retries = kept.retries;
    lands = λ w c above g v tw t h. lands_same w c g v (kept.lands w c above g v tw t h);
    faults = kept.faults;
    statuses = kept.statuses;
    firsts = kept.firsts;
    initialisers = λ w c u k tw h e. enters_same w c k [] (kept.initialisers w c u k tw h e);
    shows_result = kept.shows_result;
    shows_thrown = kept.shows_thrown;
    enters = λ w c t n q gs d tw h e l. let x = kept.enters w c t n q gs d tw h e l in (x.0, x.1, enters_same (gets_all w gs).0 c d.key (spread (gets_all w gs).1) x.2);
    makes = kept.makes;
    answers = λ w c u y g tw h t l. let x = kept.answers w c u y g tw h t l in (x.0, subst (TypedFrame m f (got w y).0) (same_back asks p g (got w y).1) x.1);
    throws = kept.throws;
    reads = kept.reads;
    writes = kept.writes;
    reads_items = kept.reads_items;
    writes_items = kept.writes_items;
  }

  -- every state that a run reaches is as the typings of the other program say
  pub asking_holds : (n : ℕ) → (after s (bodies_of p) (opening script) n ≡ Ended) ⊎ Holds i (after s (bodies_of p) (opening script) n)
  asking_holds n = holds_after s (bodies_of p) (grown s (bodies_of p) i) (keeps_plainly s (bodies_of p) i keeps) n (opening script)
      (opens_with s (bodies_of p) (grown s (bodies_of p) i) (keeps_plainly s (bodies_of p) i keeps) script (typed_opening m o f a m_settled m_finds) (each_move m o f a m_settled m_finds script m_fit.values))

  -- where a frame of such a state stands at a call that asks, its receiver is null or of a class under the one that is asked for
  pub receiver_asked : (w : World) (c : Classes) (g : Frame) → TypedWorld m f w → TypedFrame m f w g → (u : Text) (x : Form) → form_at (bodies_of p) g ≡ Some x → asks g.method g.position ≡ Some u
      → (on : ℕ) (args : List ℕ) (kind : InvokeKind) (k : MethodKey) → x ≡ form.Invoke kind k (on ∷ args) → is_null (register g on) ≡ false
      → (defines p (kind_of w (register g on)) ≡ true) × (is_own_under p (kind_of w (register g on)) u ≡ true)
  receiver_asked w c g tw t u x at asks_so on args kind k is some =
      let same : call.on ≡ on = ap first_register (sym call.is ∙ is) in
      subst (λ r. (defines p (kind_of w (register g r)) ≡ true) × (is_own_under p (kind_of w (register g r)) u ≡ true)) same
      (asked_receiver w c g tw t u x call here (ap (λ r. is_null (register g r)) same ∙ some))
    where
      call : AskedCall p u x
      call = asked_at g x u at asks_so

      own : (y : Form) × At m o f a m_settled w g t y
      own = at_form m o f a m_settled w g t

      there : (y : Form) × ((form_at (bodies_of p) g ≡ Some y) × (asking name (asks g.method g.position) y ≡ own.0))
      there = stands g t.in_method.body own.0 (ap (bodies_of m) t.of ∙ t.in_method.has_body) own.1.has

      here : At m o f a m_settled w g t (asking name (Some u) x)
      here = subst (At m o f a m_settled w g t) (sym there.1.1 ∙ (ap (λ z. asking name z there.0) asks_so ∙ ap (asking name (Some u)) (some_one there.0 x (sym there.1.0 ∙ at)))) own.1
