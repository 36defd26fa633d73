-- From a frame of a quiet method a run comes to the method's end, and shows and changes nothing.
use Rattle.std.proofs.Common.{◌≡◌, ℕ, zero, suc, ◌+◌, ◌<◌, Bool, true, false, List, ◌∷◌, length, eq-eqb, Option, Some, None, refl, sym, ap, ◌∙◌, subst, arith}
use Rattle.dalvik_defs.specs.Face.{Bodies}
use Rattle.dalvik_defs.specs.State.{World, Classes, State, On, Ended}
use Rattle.dalvik_defs.specs.Outcome.{Stays, Enters, Ends}
use Rattle.dalvik_defs.specs.Stack.{entry_frame, enters_body, receives, back, form_at as form_here}
use Rattle.dalvik_defs.specs.Effect.{next}
use Rattle.dalvik_defs.specs.Happens.{Setting, happens}
use Rattle.dalvik_defs.specs.Step.{step, after}
use Rattle.dalvik_defs.specs.declared.state.Value.{Value}
use Rattle.dalvik_defs.specs.declared.state.Value.TheVariants.{Word}
use Rattle.dalvik_defs.specs.declared.state.Frame.{Frame}
use Rattle.dalvik_defs.specs.declared.state.Waiting.{Waiting}
use Rattle.dalvik_defs.specs.declared.state.Waiting.TheVariants.{Method}
use Rattle.dalvik_defs.specs.declared.names.MethodKey.{MethodKey}
use Rattle.dalvik_defs.specs.declared.forms.Form.{Form}
use Rattle.dalvik_defs.specs.declared.forms.Form.TheVariants as form
use Rattle.dalvik_defs.specs.declared.script.Move.{Move}
use Rattle.dalvik_defs.specs.declared.program.NamedBody.{NamedBody}
use Rattle.dalvik_defs.proofs.Simulation.{joined, kept_after}
use Rattle.dalvik_defs.proofs.Frames.{Glides, now}
use Rattle.dalvik_defs.proofs.Glides.{glide_none, glide_stay, glide_on, glide_call}
use Rattle.insn_set.specs.declared.ops.InvokeKind.{InvokeKind}
use Rattle.thin_laws.specs.Calls.{Rank, EntersQuietly, Advances, GoesOn, CallsOne, EndsIt, Gone, QuietRuns}

-- what a call's frame is when a value came back, or none
abbrev pub given : Option Value → Value
given (Some v) = v
given None = Word 0

abbrev pub behind : Frame → Option Value → Frame
behind f v = next (record f { result = given v })

pub back_call : (find : Bodies) (f : Frame) (kind : InvokeKind) (k : MethodKey) (args : List ℕ) → form_here find f ≡ Some (form.Invoke kind k args) → (v : Option Value) → back find f v ≡ behind f v
back_call find f kind k args e None = refl
back_call find f kind k args e (Some v) = ap (λ y. receives y f v) e

below_more : (a b n : ℕ) → a < b → b < suc n → a < n
below_more a b n h l = omega arith

nothing_below : {A : Type 0} (a : ℕ) → a < 0 → A
nothing_below a l = let f : ⊥ = omega arith in absurd f

enters_taken : (w : World) (c : Classes) (k : MethodKey) (vs : List Value) (b : NamedBody) (rest : List Waiting) (script : List Move) → length vs ≡ b.ins
    → enters_body (Some b) w c k vs rest script ≡ On w c (Method (entry_frame k vs b) ∷ rest) script
enters_taken w c k vs b rest script e = ap (λ q. elim q as (λ q. State) [ true ↦ On w c (Method (entry_frame k vs b) ∷ rest) script | false ↦ Ended ]) (eq-eqb (length vs) b.ins e)

module _ (s : Setting) (find : Bodies) (quiet : MethodKey → Type 0) (rank : Rank) (gone spare : Gone) (I : State → Type 0) (runs : QuietRuns s find quiet rank gone spare I) where
  -- the end of a method comes in silence
  pub record Finishes (w : World) (c : Classes) (f : Frame) : Type 0 where
    pub steps : ℕ
    pub last : Frame
    pub value : Option Value
    pub glides : Glides s find w c f steps w c last
    pub ends : now s find w c last ≡ Ends value

  -- a whole call in silence
  pub record ComesBack (w : World) (c : Classes) (f : Frame) : Type 0 where
    pub steps : ℕ
    pub value : Option Value
    pub glides : Glides s find w c f (suc steps) w c (behind f value)

  step_stays : (w : World) (c : Classes) (f g : Frame) (rest : List Waiting) (script : List Move) → now s find w c f ≡ Stays w g None → (step s find (On w c (Method f ∷ rest) script)).0 ≡ On w c (Method g ∷ rest) script
  step_stays w c f g rest script e = ap (λ o. (happens s find o w c f rest script).0) e

  step_enters : (w : World) (c : Classes) (f : Frame) (x : EntersQuietly s find quiet w c f) (rest : List Waiting) (script : List Move)
      → (step s find (On w c (Method f ∷ rest) script)).0 ≡ On w c (Method (entry_frame x.method x.values x.body) ∷ Method f ∷ rest) script
  step_enters w c f x rest script = ap (λ o. (happens s find o w c f rest script).0) x.enters
      ∙ ap (λ o. enters_body o w c x.method x.values (Method f ∷ rest) script) x.found
      ∙ enters_taken w c x.method x.values x.body (Method f ∷ rest) script x.takes

  come_back : (w : World) (c : Classes) (f : Frame) (x : EntersQuietly s find quiet w c f) → Finishes w c (entry_frame x.method x.values x.body) → ComesBack w c f
  come_back w c f x e = record {
    steps = joined e.steps 1;
    value = e.value;
    glides = subst (λ g. Glides s find w c f (suc (joined e.steps 1)) w c g) (back_call find f x.kind x.named x.args x.call e.value)
        (glide_call s find w c f x.method x.values x.body e.steps w c e.last e.value x.enters x.found x.takes e.glides e.ends);
  }

  entered : (w : World) (c : Classes) (f : Frame) (rest : List Waiting) (script : List Move) (x : EntersQuietly s find quiet w c f)
      → I (On w c (Method f ∷ rest) script) → I (On w c (Method (entry_frame x.method x.values x.body) ∷ Method f ∷ rest) script)
  entered w c f rest script x i = subst I (step_enters w c f x rest script) (runs.keeps (On w c (Method f ∷ rest) script) i)

  gone_on : (w : World) (c : Classes) (f g : Frame) (n : ℕ) → Glides s find w c f n w c g → Finishes w c g → Finishes w c f
  gone_on w c f g n h e = record {
    steps = joined n e.steps;
    last = e.last;
    value = e.value;
    glides = glide_on s find w c f n w c g e.steps w c e.last h e.glides;
    ends = e.ends;
  }

  -- so it is from each position whose rank is below this one
  abbrev Within : ℕ → Type 0
  Within n = (w : World) (c : Classes) (f : Frame) (rest : List Waiting) (script : List Move) → rank f.method f.position < n → quiet f.method → I (On w c (Method f ∷ rest) script) → Finishes w c f

  advanced : (n : ℕ) → Within n → (w : World) (c : Classes) (f : Frame) (rest : List Waiting) (script : List Move) → rank f.method f.position < suc n → quiet f.method → I (On w c (Method f ∷ rest) script)
      → Advances s find quiet rank w c f → Finishes w c f
  advanced n within w c f rest script l q i (EndsIt v e) = record { steps = 0; last = f; value = v; glides = glide_none s find w c f; ends = e }
  advanced n within w c f rest script l q i (GoesOn g e m r) = gone_on w c f g 1 (glide_stay s find w c f w g e) (within w c g rest script
      (below_more (rank g.method g.position) (rank f.method f.position) n (subst (λ k. rank k g.position < rank f.method f.position) (sym m) r) l)
      (subst quiet (sym m) q) (subst I (step_stays w c f g rest script e) (runs.keeps (On w c (Method f ∷ rest) script) i)))
  advanced n within w c f rest script l q i (CallsOne x r r') =
      let e = within w c (entry_frame x.method x.values x.body) (Method f ∷ rest) script (below_more (rank x.method 0) (rank f.method f.position) n r l) x.is_quiet (entered w c f rest script x i) in
      let b = come_back w c f x e in
      gone_on w c f (behind f b.value) (suc b.steps) b.glides (within w c (behind f b.value) rest script
      (below_more (rank f.method (f.position + 1)) (rank f.method f.position) n r' l) q
      (subst I (b.glides.ends rest script) (kept_after s find I runs.keeps (suc b.steps) (On w c (Method f ∷ rest) script) i)))

  pub finishes : (n : ℕ) → Within n
  finishes zero w c f rest script l q i = nothing_below (rank f.method f.position) l
  finishes (suc n) w c f rest script l q i = advanced n (finishes n) w c f rest script l q i (runs.advances w c f rest script i q)

  -- a call of a quiet method comes back
  pub comes_back : (w : World) (c : Classes) (f : Frame) (rest : List Waiting) (script : List Move) → I (On w c (Method f ∷ rest) script) → EntersQuietly s find quiet w c f → ComesBack w c f
  comes_back w c f rest script i x = come_back w c f x (finishes (suc (rank x.method 0)) w c (entry_frame x.method x.values x.body) (Method f ∷ rest) script (just_below (rank x.method 0)) x.is_quiet (entered w c f rest script x i))
    where
      just_below : (n : ℕ) → n < suc n
      just_below n = omega arith
