-- A program in which calls name another method that their receivers find by both names shows the same: the law of frames at
-- equality, in the states that a run reaches.
use Rattle.std.proofs.Common.{◌≡◌, ◌-◌, Bool, true, false, true≢false, List, ◌∷◌, Option, Some, None, refl, sym, ap, ap₂, ◌∙◌, subst}
use Rattle.std.specs.Prelude.{map, ◌++◌, replicate, slice_get}
use Rattle.std.specs.Prelude.{find as first}
use Rattle.std.specs.Option.{option_map, option_and_then}
use Rattle.insn_set.specs.declared.ops.InvokeKind.{InvokeKind}
use Rattle.insn_set.specs.declared.ops.InvokeKind.TheVariants as call
use Rattle.dalvik_defs.specs.Names.{Text}
use Rattle.dalvik_defs.specs.Flags.{is_static}
use Rattle.dalvik_defs.specs.Known.{null_pointer}
use Rattle.dalvik_defs.specs.Find.{Found, Finds}
use Rattle.dalvik_defs.specs.Face.{Bodies, bodies_of}
use Rattle.dalvik_defs.specs.Outer.{Outer}
use Rattle.dalvik_defs.specs.State.{World, Classes, State, On, is_null, kind_of}
use Rattle.dalvik_defs.specs.declared.state.Value.{Value}
use Rattle.dalvik_defs.specs.declared.state.Value.TheVariants.{Word}
use Rattle.dalvik_defs.specs.declared.state.Frame.{Frame}
use Rattle.dalvik_defs.specs.declared.state.Waiting.{Waiting}
use Rattle.dalvik_defs.specs.declared.state.Waiting.TheVariants.{Method}
use Rattle.dalvik_defs.specs.Effect.{register, go}
use Rattle.dalvik_defs.specs.Outcome.{Outcome, Stays, Starts, Enters, Leaves, Ends, Raises, Halts, Need, need_of, faults, when_ready, calls_uncoded, calls_by, receiver, on_receiver, calls, outcome}
use Rattle.dalvik_defs.specs.Stack.{entry_frame, receives, back, handler_in, handler_at, covers, lands}
use Rattle.dalvik_defs.specs.Happens.{Setting, effect_of}
use Rattle.dalvik_defs.specs.Step.{setting_of}
use Rattle.dalvik_defs.specs.Shown.{SameShown}
use Rattle.dalvik_defs.specs.declared.names.MethodKey.{MethodKey}
use Rattle.dalvik_defs.specs.declared.forms.Form.{Form}
use Rattle.dalvik_defs.specs.declared.script.Move.{Move}
use Rattle.dalvik_defs.specs.declared.program.NamedBody.{NamedBody}
use Rattle.dalvik_defs.specs.declared.program.NamedProgram.{NamedProgram}
use Rattle.dalvik_defs.specs.declared.tables.Framework.{Framework}
use Rattle.dalvik_defs.specs.declared.tables.Floats.{Floats}
use Rattle.dalvik_defs.proofs.Calm.{IsCalm}
use Rattle.dalvik_defs.proofs.Frames.{Above, now, Landed, Leads, Meet, Entered, FramesFollow, AtOnce}
use Rattle.dalvik_defs.proofs.Glides.{glide_none}
use Rattle.dalvik_defs.proofs.Programs.{once_shown}
use Rattle.pass_defs.specs.Bindable.{is_virtual_call}
use Rattle.pass_defs.specs.Walks.{form_at}
use Rattle.rebind_law.specs.Rebinding.{FindBoth, Becomes, Same, Other, AreRebound, AllRebound}

abbrev Equal : World → Classes → Frame → Frame → Type 0
Equal w c f g = f ≡ g

abbrev EqualFrames : Above → Frame → Frame → Type 0
EqualFrames a f g = f ≡ g

abbrev Any : State → Type 0
Any t = Unit {0}

-- ---- one call

module _ (s : Setting) (need : Text → Need) (vs : List Value) (w : World) (g : Frame) where
  abbrev seen : Text
  seen = kind_of w (receiver vs)

  -- what a virtual or interface call does is decided by what its receiver finds
  abbrev by_search : InvokeKind → MethodKey → Outcome
  by_search kind k = on_receiver vs w (calls_by need kind k vs w g (s.face.virtually seen k))

  searched : (kind : InvokeKind) (k : MethodKey) → is_virtual_call kind ≡ true → calls s.face need kind k vs w g ≡ by_search kind k
  searched call.Virtual k e = refl
  searched call.Interface k e = refl
  searched call.Static k e = absurd (true≢false (sym e))
  searched call.Direct k e = absurd (true≢false (sym e))
  searched call.Super k e = absurd (true≢false (sym e))

  -- a method with code is entered, whatever the call's kind
  abbrev entered_found : Found → Outcome
  entered_found x = elim (is_static x.flags) as (λ b. Outcome) [ true ↦ when_ready (need x.key.class) w x.key.class (Enters x.key vs) | false ↦ Enters x.key vs ]

  enters_found : (kind : InvokeKind) (k : MethodKey) (x : Found) → x.coded ≡ true → s.face.virtually seen k ≡ Finds x → calls_by need kind k vs w g (s.face.virtually seen k) ≡ entered_found x
  enters_found kind k x e i = ap (calls_by need kind k vs w g) i
      ∙ ap (λ y. elim (is_static x.flags) as (λ b. Outcome) [ true ↦ when_ready (need x.key.class) w x.key.class y | false ↦ y ])
      (ap (λ b. elim b as (λ b. Outcome) [ true ↦ Enters x.key vs | false ↦ calls_uncoded kind x vs w ]) e)

  both_call : (kind kind' : InvokeKind) (old new : MethodKey) → is_virtual_call kind ≡ true → is_virtual_call kind' ≡ true → (is_null (receiver vs) ≡ false → FindBoth s old new seen)
      → calls s.face need kind' new vs w g ≡ calls s.face need kind old vs w g
  both_call kind kind' old new a b h = searched kind' new b ∙ (by (is_null (receiver vs)) refl ∙ sym (searched kind old a))
    where
      on : Bool → Outcome → Outcome
      on n now = elim n as (λ n. Outcome) [ true ↦ faults w null_pointer | false ↦ now ]

      by : (n : Bool) → is_null (receiver vs) ≡ n → by_search kind' new ≡ by_search kind old
      by true e = ap (λ n. on n (calls_by need kind' new vs w g (s.face.virtually seen new))) e ∙ sym (ap (λ n. on n (calls_by need kind old vs w g (s.face.virtually seen old))) e)
      by false e = let x = h e in ap (on (is_null (receiver vs))) (enters_found kind' new x.found x.coded x.second ∙ sym (enters_found kind old x.found x.coded x.first))

-- ---- both programs

module _ (s : Setting) (find other : Bodies) (I : State → Type 0) (all : AreRebound s find other I) where
  -- what stands at a frame in both
  abbrev there : Bodies → Frame → Option Form
  there b g = option_and_then (λ x. slice_get x.forms g.position) (b g.method)

  pub data Both (g : Frame) : Type 0 where
    Neither : there find g ≡ None → there other g ≡ None → Both g
    Forms : (f f' : Form) → there find g ≡ Some f → there other g ≡ Some f' → Becomes s I g.method g.position f f' → Both g

  both : (g : Frame) → Both g
  both g = by (find g.method) refl
    where
      in_body : (b d : NamedBody) → find g.method ≡ Some b → other g.method ≡ Some d → (o : Option Form) → form_at b g.position ≡ o → Both g
      in_body b d e e' None x = Neither (ap (option_and_then (λ y. slice_get y.forms g.position)) e ∙ x) (ap (option_and_then (λ y. slice_get y.forms g.position)) e' ∙ (all.bodies g.method b d e e').ends g.position x)
      in_body b d e e' (Some f) x = let r = (all.bodies g.method b d e e').forms g.position f x in
          Forms f r.0 (ap (option_and_then (λ y. slice_get y.forms g.position)) e ∙ x) (ap (option_and_then (λ y. slice_get y.forms g.position)) e' ∙ r.1.0) r.1.1

      by : (o : Option NamedBody) → find g.method ≡ o → Both g
      by None e = Neither (ap (option_and_then (λ y. slice_get y.forms g.position)) e) (ap (option_and_then (λ y. slice_get y.forms g.position)) (all.none g.method e))
      by (Some b) e = let r = all.some g.method b e in in_body b r.0 e r.1 (form_at b g.position) refl

  same_now : (w : World) (c : Classes) (g : Frame) (rest : List Waiting) (script : List Move) → I (On w c (Method g ∷ rest) script) → now s other w c g ≡ now s find w c g
  same_now w c g rest script i = by (both g)
    where
      need : Text → Need
      need = need_of s.face c

      at : Option Form → Outcome
      at o = outcome s.face need (effect_of s o w g) w g

      form_same : (f f' : Form) → Becomes s I g.method g.position f f' → at (Some f') ≡ at (Some f)
      form_same f f' (Same e) = ap (λ x. at (Some x)) e
      form_same f f' (Other r) = ap (λ x. at (Some x)) r.second
          ∙ (both_call s need (map (register g) r.args) w g r.kind r.kind' r.old r.new r.virtual r.virtual' (λ e. r.finds w c g rest script i refl refl e)
          ∙ sym (ap (λ x. at (Some x)) r.first))

      by : Both g → now s other w c g ≡ now s find w c g
      by (Neither e e') = ap at e' ∙ sym (ap at e)
      by (Forms f f' e e' b) = ap at e' ∙ (form_same f f' b ∙ sym (ap at e))

  same_back : (g : Frame) (v : Option Value) → back other g v ≡ back find g v
  same_back g None = refl
  same_back g (Some v) = by (both g)
    where
      form_same : (f f' : Form) → Becomes s I g.method g.position f f' → receives (Some f') g v ≡ receives (Some f) g v
      form_same f f' (Same e) = ap (λ x. receives (Some x) g v) e
      form_same f f' (Other r) = ap (λ x. receives (Some x) g v) r.second ∙ sym (ap (λ x. receives (Some x) g v) r.first)

      by : Both g → back other g (Some v) ≡ back find g (Some v)
      by (Neither e e') = ap (λ o. receives o g v) e' ∙ sym (ap (λ o. receives o g v) e)
      by (Forms f f' e e' b) = ap (λ o. receives o g v) e' ∙ (form_same f f' b ∙ sym (ap (λ o. receives o g v) e))

  same_lands : (w : World) (g : Frame) (v : Value) → lands s.face other w g v ≡ lands s.face find w g v
  same_lands w g v = ap (option_map (λ at. record (go g at) { caught = v })) (by (find g.method) refl)
    where
      above : Text → Bool
      above = s.face.under (kind_of w v)

      by : (o : Option NamedBody) → find g.method ≡ o → option_and_then (handler_at above g.position) (other g.method) ≡ option_and_then (handler_at above g.position) (find g.method)
      by None e = ap (option_and_then (handler_at above g.position)) (all.none g.method e) ∙ sym (ap (option_and_then (handler_at above g.position)) e)
      by (Some b) e = let r = all.some g.method b e in ap (option_and_then (handler_at above g.position)) r.1
          ∙ (ap (λ rs. option_and_then (handler_in above) (first (covers g.position) rs)) (all.bodies g.method b r.0 e r.1).regions ∙ sym (ap (option_and_then (handler_at above g.position)) e))

  same_entry : (k : MethodKey) (vs : List Value) (b d : NamedBody) → find k ≡ Some b → other k ≡ Some d → entry_frame k vs b ≡ entry_frame k vs d
  same_entry k vs b d e e' = let r = all.bodies k b d e e' in
      ap (λ rs. record { method = k; position = 0; registers = rs; result = Word 0; caught = Word 0 }) (ap₂ (λ n m. replicate (n - m) (Word 0) ++ vs) (sym r.registers) (sym r.ins))

  -- ---- the law of frames at equality

  landed : (w : World) (c : Classes) (rest rest' : List Waiting) (script : List Move) (o o' : Option Frame) → o' ≡ o → Landed s find other Equal EqualFrames I Any w c rest rest' script o o'
  landed w c rest rest' script None o' e = e
  landed w c rest rest' script (Some g) o' e = (g, (e, λ i j. refl))

  leads : (w : World) (c : Classes) (g : Frame) (o o' : Outcome) → o' ≡ o → Leads s find other Equal EqualFrames I Any w c g o g o'
  leads w c g (Stays w1 g1 x) o' e = (g1, (e, refl))
  leads w c g (Starts t) o' e = (e, refl)
  leads w c g (Enters k vs) o' e = (e, refl)
  leads w c g (Leaves w1 owes x) o' e = (e, refl)
  leads w c g (Ends v) o' e = (e, refl)
  leads w c g (Raises w1 v) o' e = (e, λ rest rest' script. landed w1 c rest rest' script (lands s.face find w1 g v) (lands s.face other w1 g v) (same_lands w1 g v))
  leads w c g Halts o' e = e

  pub once : AtOnce s find other Equal EqualFrames I Any
  once = one
    where
      one : (w : World) (c : Classes) (f g : Frame) (rest rest' : List Waiting) (script : List Move) → f ≡ g → I (On w c (Method f ∷ rest) script) → Any (On w c (Method g ∷ rest') script)
          → Leads s find other Equal EqualFrames I Any w c f (now s find w c f) g (now s other w c g)
      one w c f g rest rest' script h i j = subst (λ x. Leads s find other Equal EqualFrames I Any w c f (now s find w c f) x (now s other w c x)) h
          (leads w c f (now s find w c f) (now s other w c f) (same_now w c f rest script i))

  entered : (w : World) (c : Classes) (rest rest' : List Waiting) (script : List Move) (k : MethodKey) (vs : List Value) (o : Option NamedBody) → find k ≡ o
      → Entered s find other Equal EqualFrames I Any w c rest rest' script k vs o (other k)
  entered w c rest rest' script k vs None e = all.none k e
  entered w c rest rest' script k vs (Some b) e = let r = all.some k b e in (r.0, (r.1, ((all.bodies k b r.0 e r.1).ins, λ l i j. same_entry k vs b r.0 e r.1)))

  pub follow : FramesFollow s find other Equal EqualFrames I Any
  follow = record {
    steps = λ w c f g rest rest' script h i j. Meet 0 0 w c f g (glide_none s find w c f) (glide_none s other w c g) (once w c f g rest rest' script h i j);
    entries = λ w c rest rest' script k vs. entered w c rest rest' script k vs (find k) refl;
    returns = λ w c f g rest rest' script a v m h i j. sym (same_back f v) ∙ ap (λ x. back other x v) h;
    retries = λ w c f g rest rest' script h i j. h;
    throws = λ w c f g rest rest' script a v h. subst (λ x. Landed s find other Equal EqualFrames I Any w c rest rest' script (lands s.face find w f v) (lands s.face other w x v)) h
        (landed w c rest rest' script (lands s.face find w f v) (lands s.face other w f v) (same_lands w f v));
    keeps = all.keeps;
    keeps_other = λ t j. tt;
  }

-- ---- programs

no_calm : (s : Setting) → IsCalm s (λ t. false)
no_calm s = record { initialiser = λ t e. absurd (true≢false (sym e)); grounded = λ t e. absurd (true≢false (sym e)) }

-- a program in which calls name another method that their receivers find by both names shows the same
pub rebound_shown : (p q : NamedProgram) (o : Outer) (I : Framework → Floats → List Move → State → Type 0) → AllRebound p q o I → SameShown p q o
rebound_shown p q o I all = once_shown p q o (λ f t. false) (λ f a script. Equal) (λ f a script. EqualFrames) I (λ f a script. Any) all.face
    (λ f a. no_calm (setting_of p o f a))
    (λ f a script h. follow (setting_of p o f a) (bodies_of p) (bodies_of q) (I f a script) (all.bodies f a script h))
    (λ f a script h. once (setting_of p o f a) (bodies_of p) (bodies_of q) (I f a script) (all.bodies f a script h))
    (λ f a script h. (all.begins f a script h, tt))
