-- What the framework answers, by names.
use Rattle.std.proofs.Common.{◌≡◌, Bool, true, false, List, Result, ap, refl, sym, subst, ◌∙◌}
use Rattle.std.specs.Prelude.{Option, Some, None, IfOk}
use Rattle.std.specs.Option.{option_map}
use Rattle.program_model.specs.declared.pass.Outside.{Outside}
use Rattle.dalvik_defs.specs.Face.{Bodies}
use Rattle.dalvik_defs.specs.Gives.{fits, gets, may_throw}
use Rattle.dalvik_defs.specs.Happens.{Setting}
use Rattle.dalvik_defs.specs.Legal.{may_answer}
use Rattle.dalvik_defs.specs.Moves.{answers, got, throws}
use Rattle.dalvik_defs.specs.Names.{Text, is_void}
use Rattle.dalvik_defs.specs.Outer.{outer_of}
use Rattle.dalvik_defs.specs.Stack.{gives, unwinds}
use Rattle.dalvik_defs.specs.State.{Classes, Ended, Next, World, quiet}
use Rattle.dalvik_defs.specs.declared.script.Given.{Given}
use Rattle.dalvik_defs.specs.declared.script.Move.{Move}
use Rattle.dalvik_defs.specs.declared.state.Value.{Value}
use Rattle.dalvik_defs.specs.declared.state.Waiting.{Waiting}
use Rattle.dalvik_lookups.specs.Facing.{run_face}
use Rattle.dalvik_lookups.specs.declared.lookups.Lookups.{Lookups}
use Rattle.dalvik_lookups.specs.declared.plays.Gift.{Gift}
use Rattle.dalvik_state.specs.declared.gifts.Gifts.{Gifts}
use Rattle.dalvik_state.specs.declared.gifts.Taken.{Taken}
use Rattle.dalvik_state.specs.declared.world.World.{World as OwnWorld}
use Rattle.dalvik_state.specs.Drafts.{given_world}
use Rattle.dalvik_state.specs.Views.{names_in, value_of, world_of}
use Rattle.dalvik_state.specs.Giving.{IsGiven}
use Rattle.dalvik_state.proofs.Results.{if_ok}
use Rattle.dalvik_steps.specs.Entries.{AreGivenFine}
use Rattle.dalvik_moves.specs.Moving.{FirstMaybe, IsFirstTaken}

-- ---- whether an answer is right

pub answer_none : (l : Lookups) (o : Outside) (w : OwnWorld) (all : Gifts) (g : Option Given) (a : Option (Gift × Taken)) (kind : Text) → a ≡ None → FirstMaybe l o w all g a → is_void kind ≡ may_answer (run_face l) (outer_of l.program.now o) (world_of (names_in l) w) kind g
answer_none l o w all None a kind e h = refl
answer_none l o w all (Some g) a kind e h = absurd (subst (FirstMaybe l o w all (Some g)) e h)

pub answer_fits : (l : Lookups) (o : Outside) (w : OwnWorld) (all : Gifts) (g : Given) (t : Gift × Taken) (kind : Text) (b : Bool) → IsFirstTaken l o w all g t
    → b ≡ fits (run_face l) (outer_of l.program.now o) (world_of (names_in l) w) (given_world (names_in l) w all) g (value_of (names_in l) t.1.datum) kind
    → b ≡ may_answer (run_face l) (outer_of l.program.now o) (world_of (names_in l) w) kind (Some g)
answer_fits l o w all g t kind b h e = e ∙ ap (λ (a : World × Value). fits (run_face l) (outer_of l.program.now o) (world_of (names_in l) w) a.0 g a.1 kind) (sym h.got)

pub answer_some : {E : Type 0} (l : Lookups) (o : Outside) (w : OwnWorld) (all : Gifts) (g : Option Given) (a : Option (Gift × Taken)) (t : Gift × Taken) (kind : Text) (r : Result Bool E) → a ≡ Some t → FirstMaybe l o w all g a
    → ((x : Given) → IsFirstTaken l o w all x t → IfOk r (λ b. b ≡ fits (run_face l) (outer_of l.program.now o) (world_of (names_in l) w) (given_world (names_in l) w all) x (value_of (names_in l) t.1.datum) kind))
    → IfOk r (λ b. b ≡ may_answer (run_face l) (outer_of l.program.now o) (world_of (names_in l) w) kind g)
answer_some l o w all None a t kind r e h f = absurd (subst (FirstMaybe l o w all None) e h)
answer_some l o w all (Some x) a t kind r e h f =
    let taken = subst (FirstMaybe l o w all (Some x)) e h in
    if_ok r _ _ (f x taken) (λ b is. answer_fits l o w all x t kind b taken is)

-- ---- what an answer does

-- the value of a move, and the world with its objects
pub got_first : (l : Lookups) (o : Outside) (w : OwnWorld) (all : Gifts) (g : Option Given) (a : Option (Gift × Taken)) → FirstMaybe l o w all g a
    → got (world_of (names_in l) w) g ≡ (given_world (names_in l) w all, option_map (value_of (names_in l)) (option_map (λ (x : Gift × Taken). x.1.datum) a))
got_first l o w all None None h = ap (λ (v : World). (v, None)) (sym h.same)
got_first l o w all None (Some x) h = absurd h
got_first l o w all (Some g) None h = absurd h
got_first l o w all (Some g) (Some x) h = ap (λ (a : World × Value). (a.0, Some a.1)) h.got

pub first_given : (l : Lookups) (o : Outside) (w : OwnWorld) (all : Gifts) (g : Option Given) (a : Option (Gift × Taken)) → FirstMaybe l o w all g a → IsGiven l w all
first_given l o w all None None h = h.given
first_given l o w all None (Some x) h = absurd h
first_given l o w all (Some g) None h = absurd h
first_given l o w all (Some g) (Some x) h = h.given

pub first_fine : (l : Lookups) (o : Outside) (w : OwnWorld) (all : Gifts) (g : Option Given) (a : Option (Gift × Taken)) → FirstMaybe l o w all g a → AreGivenFine l w all (option_map (λ (x : Gift × Taken). x.1.datum) a)
first_fine l o w all None None h = tt
first_fine l o w all None (Some x) h = absurd h
first_fine l o w all (Some g) None h = absurd h
first_fine l o w all (Some g) (Some x) h = h.fine

-- a legal answer is given
pub answers_given : (s : Setting) (find : Bodies) (w v : World) (classes : Classes) (kind : Text) (g : Option Given) (value : Option Value) (below : List Waiting) (rest : List Move) → true ≡ may_answer s.face s.outer w kind g → got w g ≡ (v, value)
    → gives find kind v classes value below rest ≡ answers s find w classes (Some kind) g below rest
answers_given s find w v classes kind g value below rest legal e =
    ap (λ (a : World × Option Value). gives find kind a.0 classes a.1 below rest) (sym e)
    ∙ ap (λ (b : Bool). elim b as (λ b. Next) [ true ↦ gives find kind (got w g).0 classes (got w g).1 below rest | false ↦ quiet Ended ]) legal

-- any other ends the run
pub answers_over : (s : Setting) (find : Bodies) (w : World) (classes : Classes) (kind : Text) (g : Option Given) (below : List Waiting) (rest : List Move) → false ≡ may_answer s.face s.outer w kind g → answers s find w classes (Some kind) g below rest ≡ quiet Ended
answers_over s find w classes kind g below rest legal =
    ap (λ (b : Bool). elim b as (λ b. Next) [ true ↦ gives find kind (got w g).0 classes (got w g).1 below rest | false ↦ quiet Ended ]) (sym legal)

-- ---- what is thrown in its place

pub throws_given : (s : Setting) (find : Bodies) (w v : World) (classes : Classes) (kind : Text) (g : Given) (value : Value) (below : List Waiting) (rest : List Move) → true ≡ may_throw s.face s.outer w v g value → gets w g ≡ (v, value)
    → unwinds s.face find v classes value below rest ≡ throws s find w classes (Some kind) g below rest
throws_given s find w v classes kind g value below rest legal e =
    ap (λ (b : Bool). elim b as (λ b. Next) [ true ↦ unwinds s.face find v classes value below rest | false ↦ quiet Ended ]) legal
    ∙ ap (λ (a : World × Value). elim (may_throw s.face s.outer w a.0 g a.1) as (λ b. Next) [ true ↦ unwinds s.face find a.0 classes a.1 below rest | false ↦ quiet Ended ]) (sym e)

pub throws_over : (s : Setting) (find : Bodies) (w v : World) (classes : Classes) (kind : Text) (g : Given) (value : Value) (below : List Waiting) (rest : List Move) → false ≡ may_throw s.face s.outer w v g value → gets w g ≡ (v, value)
    → throws s find w classes (Some kind) g below rest ≡ quiet Ended
throws_over s find w v classes kind g value below rest legal e =
    ap (λ (a : World × Value). elim (may_throw s.face s.outer w a.0 g a.1) as (λ b. Next) [ true ↦ unwinds s.face find a.0 classes a.1 below rest | false ↦ quiet Ended ]) e
    ∙ ap (λ (b : Bool). elim b as (λ b. Next) [ true ↦ unwinds s.face find v classes value below rest | false ↦ quiet Ended ]) (sym legal)
