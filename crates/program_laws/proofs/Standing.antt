-- The law of standing forms: where related blocks go on as `specs/Standing` asks, both programs show the same. Here all is
-- stated once, and both directions of the law of blocks follow.
use Rattle.std.proofs.Common.{◌≡◌, ℕ, zero, suc, Bool, true, false, true≢false, List, refl, sym, ap, ◌∙◌, subst}
use Rattle.std.specs.Prelude.{Option, Some, None}
use Rattle.dalvik_defs.specs.Names.{Text, is_void}
use Rattle.dalvik_defs.specs.Face.{Bodies, face_of, bodies_of}
use Rattle.dalvik_defs.specs.Outer.{Outer}
use Rattle.dalvik_defs.specs.State.{World, Classes, State}
use Rattle.dalvik_defs.specs.Quiet.{calm_opening}
use Rattle.dalvik_defs.specs.Shown.{Fit, SameShown}
use Rattle.dalvik_defs.specs.Effect.{next}
use Rattle.dalvik_defs.specs.Outcome.{need_of, outcome}
use Rattle.dalvik_defs.specs.Stack.{receives, back, form_at as form_here}
use Rattle.dalvik_defs.specs.Happens.{Setting, effect_of}
use Rattle.dalvik_defs.specs.Step.{setting_of}
use Rattle.dalvik_defs.specs.declared.state.Value.{Value}
use Rattle.dalvik_defs.specs.declared.state.Value.TheVariants.{Word}
use Rattle.dalvik_defs.specs.declared.state.Frame.{Frame}
use Rattle.dalvik_defs.specs.declared.state.Waiting.{Waiting}
use Rattle.dalvik_defs.specs.declared.names.MethodKey.{MethodKey}
use Rattle.dalvik_defs.specs.declared.forms.Form.{Form}
use Rattle.dalvik_defs.specs.declared.forms.Form.TheVariants as form
use Rattle.dalvik_defs.specs.declared.script.Move.{Move}
use Rattle.dalvik_defs.specs.declared.program.NamedBody.{NamedBody}
use Rattle.dalvik_defs.specs.declared.program.NamedProgram.{NamedProgram}
use Rattle.dalvik_defs.specs.declared.tables.Framework.{Framework}
use Rattle.dalvik_defs.specs.declared.tables.Floats.{Floats}
use Rattle.dalvik_defs.proofs.Calm.{IsCalm}
use Rattle.dalvik_defs.proofs.Frames.{now, Above, Asks, Begins, Comes}
use Rattle.dalvik_defs.proofs.Simulation.{joined}
use Rattle.pass_defs.specs.Remade.{remade}
use Rattle.dalvik_defs.proofs.Blocks.{Block, with_top, catches, Glides, Landed, Leads, Matches, Stay, Meet, Entered, BlocksFollow}
use Rattle.dalvik_defs.proofs.BlockPrograms.{blocks_shown}
use Rattle.program_laws.specs.Alike.{Awaits, Accepts, Alike, gets_void}
use Rattle.program_laws.specs.Standing.{Land as LandIn, Nowhere, Caught, Standing as StandingIn, Waits as WaitsIn, Goes as GoesIn, Stands, Past, Leaps, Later, Entries as EntriesIn, Neither, Both, GoAlike as GoAlikeIn}
use Rattle.program_laws.proofs.AlikeEffects.{accepts_item, alike_back}
use Rattle.program_laws.proofs.Acts.{acts}
use Rattle.program_laws.proofs.Leads.{leads}
use Rattle.program_laws.proofs.Blocks.{block_none, block_on}

-- what comes back to a form
abbrev came : Option Form → Frame → Option Value → Frame
came o f None = next (record f { result = Word 0 })
came o f (Some v) = receives o f v

back_by : (find : Bodies) (f : Frame) (o : Option Form) → form_here find f ≡ o → (v : Option Value) → back find f v ≡ came o f v
back_by find f o e None = refl
back_by find f o e (Some v) = ap (λ y. receives y f v) e

module _ (s : Setting) (find other : Bodies) (P : Block → Block → Type 0) where
  abbrev Land : Option Block → Option Block → Type 0
  Land = LandIn s find other P

  abbrev Standing : Block → Block → Type 0
  Standing = StandingIn s find other P

  abbrev Waits : Above → Block → Block → Type 0
  Waits = WaitsIn s find other P

  abbrev Goes : World → Classes → Block → Block → Type 0
  Goes = GoesIn s find other P

  abbrev Entries : MethodKey → List Value → Option NamedBody → Option NamedBody → Type 0
  Entries = EntriesIn s find other P

  abbrev GoAlike : (State → Type 0) → (State → Type 0) → Type 0
  GoAlike = GoAlikeIn s find other P

  -- ---- outcomes

  abbrev Turned : Block → Block → Type 0
  Turned y x = P x y

  abbrev WaitsTurned : Above → Block → Block → Type 0
  WaitsTurned a y x = Waits a x y

  module _ (I J : State → Type 0) where
    landed_there : (u : World) (c : Classes) (rest rest' : List Waiting) (script : List Move) (o o' : Option Block) → Land o o' → Landed s find other (λ w c. P) Waits I J u c rest rest' script o o'
    landed_there u c rest rest' script _ _ Nowhere = refl
    landed_there u c rest rest' script _ _ (Caught x y p) = (y, (refl, λ i j. p))

    landed_back : (u : World) (c : Classes) (rest rest' : List Waiting) (script : List Move) (o o' : Option Block) → Land o o' → Landed s other find (λ w c. Turned) WaitsTurned J I u c rest rest' script o' o
    landed_back u c rest rest' script _ _ Nowhere = refl
    landed_back u c rest rest' script _ _ (Caught x y p) = (x, (refl, λ i j. p))

    now_by : (b : Bodies) (w : World) (c : Classes) (f : Frame) (o : Option Form) → form_here b f ≡ o → now s b w c f ≡ outcome s.face (need_of s.face c) (effect_of s o w f) w f
    now_by b w c f o e = ap (λ y. outcome s.face (need_of s.face c) (effect_of s y w f) w f) e

    module _ (w : World) (c : Classes) (x y : Block) (h : Standing x y) where
      abbrev G : Frame → Frame → Type 0
      G f g = P (with_top x f) (with_top y g)

      abbrev there_form : Form
      there_form = remade h.from h.into h.to h.form

      alike : Alike h.form x.top y.top G (effect_of s (Some h.form) w x.top) (effect_of s (Some there_form) w y.top)
      alike = acts s.face.under s.floats w x.top y.top h.from h.into h.to G h.form h.holds h.accepts

      leads_there : Leads s find other (λ w c. P) Waits I J w c x (now s find w c x.top) y (now s other w c y.top)
      leads_there = subst (λ z. Leads s find other (λ w c. P) Waits I J w c x z y (now s other w c y.top)) (sym (now_by find w c x.top (Some h.form) h.here))
          (subst (λ z. Leads s find other (λ w c. P) Waits I J w c x (outcome s.face (need_of s.face c) (effect_of s (Some h.form) w x.top) w x.top) y z) (sym (now_by other w c y.top (Some there_form) h.there))
          (leads s find other P Waits I J w c (need_of s.face c) h.form x y h.class (λ t k a j. record { stands = h; throws = t; goes_on = k; awaits = j })
          (λ t u v r r' script. landed_there u c r r' script (catches s.face find u v x) (catches s.face other u v y) (h.landed t u v)) h.ended _ _ alike))

      leads_back : Leads s other find (λ w c. Turned) WaitsTurned J I w c y (now s other w c y.top) x (now s find w c x.top)
      leads_back = subst (λ z. Leads s other find (λ w c. Turned) WaitsTurned J I w c y z x (now s find w c x.top)) (sym (now_by other w c y.top (Some there_form) h.there))
          (subst (λ z. Leads s other find (λ w c. Turned) WaitsTurned J I w c y (outcome s.face (need_of s.face c) (effect_of s (Some there_form) w y.top) w y.top) x z) (sym (now_by find w c x.top (Some h.form) h.here))
          (leads s other find Turned WaitsTurned J I w c (need_of s.face c) h.form y x (sym h.class) (λ t k a j. record { stands = h; throws = t; goes_on = k; awaits = j })
          (λ t u v r r' script. landed_back u c r r' script (catches s.face find u v x) (catches s.face other u v y) (h.landed t u v))
          (λ e. let d = h.ended e in (d.1.0, (d.0, sym d.1.1))) _ _ (alike_back h.form x.top y.top G _ _ alike)))

    -- ---- both ways

    glides_first : (w : World) (c : Classes) (x x1 y : Block) (n : ℕ) → Glides s find w c x n w c x1 → Matches s find other (λ w c. P) Waits I J w c x1 y → Matches s find other (λ w c. P) Waits I J w c x y
    glides_first w c x x1 y n g (Stay k j w2 c2 x2 y2 a b h) = by n g
      where
        by : (n : ℕ) → Glides s find w c x n w c x1 → Matches s find other (λ w c. P) Waits I J w c x y
        by zero g = Stay k j w2 c2 x2 y2 (block_on s find w c x 0 w c x1 (suc k) w2 c2 x2 g a) b h
        by (suc n) g = Stay (joined n (suc k)) j w2 c2 x2 y2 (block_on s find w c x (suc n) w c x1 (suc k) w2 c2 x2 g a) b h
    glides_first w c x x1 y n g (Meet k j w2 c2 x2 y2 a b l) = Meet (joined n k) j w2 c2 x2 y2 (block_on s find w c x n w c x1 k w2 c2 x2 g a) b l

    glides_second : (w : World) (c : Classes) (x x1 y : Block) (n : ℕ) → Glides s find w c x n w c x1 → Matches s other find (λ w c. Turned) WaitsTurned J I w c y x1 → Matches s other find (λ w c. Turned) WaitsTurned J I w c y x
    glides_second w c x x1 y n g (Stay k j w2 c2 y2 x2 b a h) = Stay k (joined n j) w2 c2 y2 x2 b (block_on s find w c x n w c x1 j w2 c2 x2 g a) h
    glides_second w c x x1 y n g (Meet k j w2 c2 y2 x2 b a l) = Meet k (joined n j) w2 c2 y2 x2 b (block_on s find w c x n w c x1 j w2 c2 x2 g a) l

    matches_there : (w : World) (c : Classes) (x y : Block) → Goes w c x y → Matches s find other (λ w c. P) Waits I J w c x y
    matches_there w c _ _ (Stands x y h) = Meet 0 0 w c x y (block_none s find w c x) (block_none s other w c y) (leads_there w c x y h)
    matches_there w c _ _ (Past x y e d) = Meet 0 0 w c x y (block_none s find w c x) (block_none s other w c y)
        (subst (λ z. Leads s find other (λ w c. P) Waits I J w c x z y (now s other w c y.top)) (sym (now_by find w c x.top None e)) (now_by other w c y.top None d))
    matches_there w c _ _ (Leaps x y n m w1 c1 x1 y1 a b p) = Stay n (suc m) w1 c1 x1 y1 a b p
    matches_there w c _ _ (Later x y n x1 a h) = glides_first w c x x1 y (suc n) a (matches_there w c x1 y h)

    matches_back : (w : World) (c : Classes) (x y : Block) → Goes w c x y → Matches s other find (λ w c. Turned) WaitsTurned J I w c y x
    matches_back w c _ _ (Stands x y h) = Meet 0 0 w c y x (block_none s other w c y) (block_none s find w c x) (leads_back w c x y h)
    matches_back w c _ _ (Past x y e d) = Meet 0 0 w c y x (block_none s other w c y) (block_none s find w c x)
        (subst (λ z. Leads s other find (λ w c. Turned) WaitsTurned J I w c y z x (now s find w c x.top)) (sym (now_by other w c y.top None d)) (now_by find w c x.top None e))
    matches_back w c _ _ (Leaps x y n m w1 c1 x1 y1 a b p) = Stay m (suc n) w1 c1 y1 x1 b a p
    matches_back w c _ _ (Later x y n x1 a h) = glides_second w c x x1 y (suc n) a (matches_back w c x1 y h)

  -- ---- what comes back

  received : (x y : Block) (z : Form) (from into to : ℕ → ℕ) → Accepts z into to x.top y.top (λ f g. P (with_top x f) (with_top y g))
      → (gets_void z ≡ true → P (with_top x (next (record x.top { result = Word 0 }))) (with_top y (next (record y.top { result = Word 0 }))))
      → (a : Above) → Awaits z a → (v : Option Value) → Comes a v → P (with_top x (came (Some z) x.top v)) (with_top y (came (Some (remade from into to z)) y.top v))
  received x y z from into to h n Begins w v m = absurd m
  received x y (form.Invoke k key args) from into to h n a w None m = h.gives refl (λ n. refl) (Word 0)
  received x y (form.Invoke k key args) from into to h n a w (Some v) m = h.gives refl (λ n. refl) v
  received x y (form.InstanceGet i r on k) from into to h n (Asks owes) w None m = n (ap is_void (sym w) ∙ m)
  received x y (form.StaticGet i r k) from into to h n (Asks owes) w None m = n (ap is_void (sym w) ∙ m)
  received x y (form.InstanceGet i r on k) from into to h n (Asks owes) w (Some v) m = accepts_item (form.InstanceGet i r on k) into to x.top y.top (λ f g. P (with_top x f) (with_top y g)) h i r v (refl, refl) (λ n. refl)
  received x y (form.StaticGet i r k) from into to h n (Asks owes) w (Some v) m = accepts_item (form.StaticGet i r k) into to x.top y.top (λ f g. P (with_top x f) (with_top y g)) h i r v (refl, refl) (λ n. refl)
  received x y z from into to h n a w v m = absurd w

  returned : (x y : Block) (a : Above) → Waits a x y → (v : Option Value) → Comes a v → P (with_top x (back find x.top v)) (with_top y (back other y.top v))
  returned x y a h v m =
      let d = h.stands in
      subst (λ f. P (with_top x f) (with_top y (back other y.top v))) (sym (back_by find x.top (Some d.form) d.here v))
      (subst (λ g. P (with_top x (came (Some d.form) x.top v)) (with_top y g)) (sym (back_by other y.top (Some (remade d.from d.into d.to d.form)) d.there v))
      (received x y d.form d.from d.into d.to d.accepts d.voids a h.awaits v m))

  -- ---- entries

  module _ (I J : State → Type 0) (w : World) (c : Classes) (rest rest' : List Waiting) (script : List Move) (k : MethodKey) (vs : List Value) where
    enters_there : (o o' : Option NamedBody) → Entries k vs o o' → Entered s find other (λ w c. P) Waits I J w c rest rest' script k vs o o'
    enters_there _ _ Neither = refl
    enters_there _ _ (Both b b' e p) = (b', (refl, (e, λ l i j. p l)))

    enters_back : (o o' : Option NamedBody) → Entries k vs o o' → Entered s other find (λ w c. Turned) WaitsTurned J I w c rest rest' script k vs o' o
    enters_back _ _ Neither = refl
    enters_back _ _ (Both b b' e p) = (b, (refl, (sym e, λ l i j. p (l ∙ e))))

  module _ (I J : State → Type 0) (alike : GoAlike I J) where
    pub follow_there : BlocksFollow s find other (λ w c. P) Waits I J
    follow_there = record {
      steps = λ w c x y r r' script p i j. matches_there I J w c x y (alike.goes w c x y r r' script p i j);
      entries = λ w c r r' script k vs. enters_there I J w c r r' script k vs (find k) (other k) (alike.entries k vs);
      returns = λ w c x y r r' script a v m h i j. returned x y a h v m;
      retries = λ w c x y r r' script h i j. h.stands.pair;
      throws = λ w c x y r r' script a v h. landed_there I J w c r r' script (catches s.face find w v x) (catches s.face other w v y) (h.stands.landed h.throws w v);
      keeps = alike.keeps;
      keeps_other = alike.keeps_other;
    }

    pub follow_back : BlocksFollow s other find (λ w c. Turned) WaitsTurned J I
    follow_back = record {
      steps = λ w c y x r r' script p j i. matches_back I J w c x y (alike.goes w c x y r' r script p i j);
      entries = λ w c r r' script k vs. enters_back I J w c r r' script k vs (find k) (other k) (alike.entries k vs);
      returns = λ w c y x r r' script a v m h j i. returned x y a h v m;
      retries = λ w c y x r r' script h j i. h.stands.pair;
      throws = λ w c y x r r' script a v h. landed_back I J w c r r' script (catches s.face find w v x) (catches s.face other w v y) (h.stands.landed h.throws w v);
      keeps = alike.keeps_other;
      keeps_other = alike.keeps;
    }

-- the law of standing forms
pub standing_shown : (p q : NamedProgram) (o : Outer) (calm : Framework → Text → Bool) (P : Block → Block → Type 0) (I J : Framework → Floats → List Move → State → Type 0)
    → ((f : Framework) → face_of p f ≡ face_of q f)
    → ((f : Framework) (a : Floats) → IsCalm (setting_of p o f a) (calm f))
    → ((f : Framework) (a : Floats) (script : List Move) → Fit p o f script → GoAlike (setting_of p o f a) (bodies_of p) (bodies_of q) P (I f a script) (J f a script))
    → ((f : Framework) (a : Floats) (script : List Move) → Fit p o f script → I f a script (calm_opening (calm f) script) × J f a script (calm_opening (calm f) script))
    → SameShown p q o
standing_shown p q o calm P I J face is alike start = blocks_shown p q o calm
    (λ f a script w c. P) (λ f a script w c y x. P x y)
    (λ f a script. Waits (setting_of p o f a) (bodies_of p) (bodies_of q) P) (λ f a script. WaitsTurned (setting_of p o f a) (bodies_of p) (bodies_of q) P) I J face is
    (λ f a script h. follow_there (setting_of p o f a) (bodies_of p) (bodies_of q) P (I f a script) (J f a script) (alike f a script h))
    (λ f a script h. follow_back (setting_of p o f a) (bodies_of p) (bodies_of q) P (I f a script) (J f a script) (alike f a script h))
    start

-- no class is calm
pub no_calm : (s : Setting) → IsCalm s (λ t. false)
no_calm s = record { initialiser = λ t e. absurd (true≢false (sym e)); grounded = λ t e. absurd (true≢false (sym e)) }
