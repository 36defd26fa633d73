-- The frame on top ends: what it gives goes to what waits for it.
use Rattle.std.proofs.Common.{◌≡◌, ℕ, ◌<◌, List, [], length, ap, sym, subst, ◌∙◌, Result}
use Rattle.std.specs.Prelude.{IfOk, Option, Some, None}
use Rattle.std.specs.Option.{option_map}
use Rattle.std.specs.declared.alloc.AllocError.{AllocError}
use Rattle.program_model.specs.declared.pass.Outside.{Outside}
use Rattle.class_defs.proofs.WellFormed.{class_parts, sound}
use Rattle.dalvik_defs.specs.Naming.{method_at}
use Rattle.dalvik_defs.specs.Outcome.{Ends}
use Rattle.dalvik_defs.specs.Stack.{gives}
use Rattle.dalvik_defs.specs.State.{Next}
use Rattle.dalvik_defs.specs.declared.events.Event.{Event}
use Rattle.dalvik_defs.specs.declared.script.Move.{Move}
use Rattle.dalvik_defs.specs.declared.tables.Floats.{Floats}
use Rattle.dalvik_lookups.specs.Tables.{IsRight}
use Rattle.dalvik_lookups.specs.Views.{type_text}
use Rattle.dalvik_lookups.specs.declared.lookups.Lookups.{Lookups}
use Rattle.dalvik_lookups.specs.declared.types.Kind.{Kind}
use Rattle.dalvik_lookups.proofs.Interned.{got_short}
use Rattle.dalvik_state.specs.Drafts.{given_world}
use Rattle.dalvik_state.specs.Runs.{below_in, bodies_in, classes_in, comes_of, script_in, IsEvent}
use Rattle.dalvik_state.specs.States.{top_frame, IsSoundFrame}
use Rattle.dalvik_state.specs.Views.{names_in, value_of, IsFine}
use Rattle.dalvik_state.specs.Worlds.{spots_of, Spot}
use Rattle.dalvik_state.specs.declared.datum.Datum.{Datum}
use Rattle.dalvik_state.specs.declared.frame.Frame.{Frame}
use Rattle.dalvik_state.specs.declared.gifts.Gifts.{Gifts}
use Rattle.dalvik_state.specs.declared.state.State.{State}
use Rattle.dalvik_state.specs.declared.state.Waiting.{Waiting}
use Rattle.dalvik_state.specs.declared.world.World.{World}
use Rattle.dalvik_state.proofs.Bodies.{method_class}
use Rattle.dalvik_state.proofs.Running.{top_sound}
use Rattle.dalvik_steps.specs.Entries.{AreGivenFine}
use Rattle.dalvik_steps.specs.Reaching.{IsStep}
use Rattle.dalvik_steps.proofs.Begun.{given_none, spots_none}
use Rattle.dalvik_act.specs.Acted.{IsGivenBack}

-- the method that runs is one of the table
method_low : (l : Lookups) → IsRight l → (size : ℕ) (f : Frame) → IsSoundFrame l size f → f.method < length l.program.now.methods
method_low l r size f h =
    let p = l.program.now in
    let k = method_class l r f.at h.own h.found in
    let fit = (class_parts p (sound p r.well) f.at.class k.class k.within).methods f.at.place h.own k.is in
    subst (λ (n : ℕ). n < length p.methods) h.name (got_short p.methods h.own.name fit.entry fit.is)

pub running_low : (l : Lookups) (steps : ℕ) (s : State) (f : Frame) → IsStep l steps s f → f.method < length l.program.now.methods
running_low l steps s f h = method_low l h.right (length (spots_of s.world)) f (top_sound l steps s f h.state h.top)

-- it is the one on top
pub same_method : (o : Option ℕ) (m : ℕ) (xs : List Waiting) (f : Frame) → o ≡ option_map (λ (g : Frame). g.method) (top_frame xs) → o ≡ Some m → top_frame xs ≡ Some f → m ≡ f.method
same_method o m xs f is some top = let same : Some m ≡ Some f.method = sym some ∙ is ∙ ap (option_map (λ (g : Frame). g.method)) top in cc

-- there is one
pub no_method : {A : Type 0} → (o : Option ℕ) (xs : List Waiting) (f : Frame) → o ≡ option_map (λ (g : Frame). g.method) (top_frame xs) → o ≡ None → top_frame xs ≡ Some f → A
no_method o xs f is none top = let same : None ≡ Some f.method = sym none ∙ is ∙ ap (option_map (λ (g : Frame). g.method)) top in absurd (cc)

-- what it gives is there
pub back_fine : (l : Lookups) (w : World) (g : Gifts) (value : Option Datum) → g.things.items ≡ [] → IsGivenBack l (length (spots_of w)) value → AreGivenFine l w g value
back_fine l w g None e h = tt
back_fine l w g (Some d) e h = subst (λ (spots : List Spot). IsFine (names_in l) (length spots) d) (sym (spots_none w g e)) h

pub returned : (l : Lookups) (o : Outside) (floats : Floats) (script : List Move) (steps : ℕ) (s new : State) (f : Frame) (kind : Kind) (g : Gifts) (value : Option Datum) (r : Result (Option Event) AllocError) → type_text l.types kind ≡ (method_at l.program.now f.method).signature.result → g.things.items ≡ []
    → IfOk r (λ (e : Option Event). IsEvent l steps script new e (gives (bodies_in l) (type_text l.types kind) (given_world (names_in l) s.world g) (classes_in l s) (option_map (value_of (names_in l)) value) (below_in l script s) (script_in script s)))
    → IfOk r (λ (e : Option Event). IsEvent l steps script new e (comes_of l o floats script s f (Ends (option_map (value_of (names_in l)) value))))
returned l o floats script steps s new f kind g value r result none h = subst (λ (to : Next). IfOk r (λ (e : Option Event). IsEvent l steps script new e to))
    (λ i. gives (bodies_in l) (result i) (given_none (names_in l) s.world g none i) (classes_in l s) (option_map (value_of (names_in l)) value) (below_in l script s) (script_in script s)) h
