-- The law of blocks. Two programs have one face, so they differ in bodies alone. A block is a frame with some that wait below
-- it, and a block of the one may stand for a block of the other that is longer or shorter: a relation between blocks, in a
-- world and with the statuses of classes that both share, gives that the programs show the same, where related blocks go on
-- alike: after some steps in the blocks that show nothing, the blocks are related again, or both begin, end, throw or show the
-- same. Where all blocks are single frames, this is the law of frames.
use Rattle.std.proofs.Common.{◌≡◌, ℕ, zero, suc, Bool, true, false, List, [], ◌∷◌, ◌++◌, nat_eq, refl, sym, ap, ap₂, ◌∙◌, subst, eqb-true}
use Rattle.std.specs.Prelude.{Option, Some, None, ◌&&◌, length, slice_get}
use Rattle.dalvik_defs.specs.Names.{Text, throwable_type}
use Rattle.dalvik_defs.specs.Flags.{is_static}
use Rattle.dalvik_defs.specs.Known.{no_class}
use Rattle.dalvik_defs.specs.Find.{Found}
use Rattle.dalvik_defs.specs.Face.{Face, Bodies, Place}
use Rattle.dalvik_defs.specs.State.{World, Classes, Status, New, Running, Done, Failed, Thing, Instance, Items, State, On, Ended, Next, quiet, with_thing, next_object, fresh, put_status, thing_at}
use Rattle.dalvik_defs.specs.declared.state.Value.{Value}
use Rattle.dalvik_defs.specs.declared.state.Value.TheVariants.{Word}
use Rattle.dalvik_defs.specs.declared.state.Frame.{Frame}
use Rattle.dalvik_defs.specs.declared.state.Waiting.{Waiting}
use Rattle.dalvik_defs.specs.declared.state.Waiting.TheVariants.{Method, Initialiser, Ending, Outside}
use Rattle.dalvik_defs.specs.Outcome.{Outcome, Stays, Starts, Enters, Leaves, Ends, Raises, Halts, Need, Ready, Fresh, Broken, need_of}
use Rattle.dalvik_defs.specs.Stack.{entry_frame, enters_body, enters, back, gives, lands, wrapped, lands_or, unwinds, throws_new, left_of, runs, goes_on, starts, resumes}
use Rattle.dalvik_defs.specs.Happens.{Setting, happens, first_needed, initialises}
use Rattle.dalvik_defs.specs.Gives.{gets, gets_all, spread, fits, may_throw}
use Rattle.dalvik_defs.specs.Legal.{may_enter, may_make, may_answer, on_fits, is_exposed}
use Rattle.dalvik_defs.specs.Moves.{needs, entered, enter, made, make, got, answers, throws, shows_value, goes, field_value, with_field, reads, writes, reads_item, array_get, with_item, writes_item, array_put, measures_thing, array_length, key_of, moves, framework_turn}
use Rattle.dalvik_defs.specs.Show.{show, show_option}
use Rattle.dalvik_defs.specs.Items.{stored, item_of_type}
use Rattle.dalvik_defs.specs.Step.{step, events_of, after, shows_from}
use Rattle.dalvik_defs.specs.declared.names.FieldKey.{FieldKey}
use Rattle.dalvik_defs.specs.declared.names.MethodKey.{MethodKey}
use Rattle.dalvik_defs.specs.declared.events.Event.{Event}
use Rattle.dalvik_defs.specs.declared.events.Event.TheVariants as event
use Rattle.dalvik_defs.specs.declared.program.NamedBody.{NamedBody}
use Rattle.dalvik_defs.specs.declared.script.Given.{Given}
use Rattle.dalvik_defs.specs.declared.script.Move.{Move}
use Rattle.dalvik_defs.specs.declared.script.Move.TheVariants as move
use Rattle.dalvik_defs.proofs.Simulation.{after_suc, shows_suc, kept_after, Follows}
use Rattle.dalvik_defs.proofs.Frames.{now, Above, Calls, Asks, Begins, Comes, asked}

-- ---- blocks

-- a frame, and the frames that wait below it
pub record Block : Type 0 where
  pub top : Frame
  pub below : List Frame

abbrev pub alone : Frame → Block
alone f = record { top = f; below = [] }

abbrev pub with_top : Block → Frame → Block
with_top x f = record { top = f; below = x.below }

abbrev pub under : List Frame → List Waiting → List Waiting
under [] r = r
under (f ∷ fs) r = Method f ∷ under fs r

abbrev pub stacked : Block → List Waiting → List Waiting
stacked x r = Method x.top ∷ under x.below r

-- what of a block catches a thrown object
abbrev pub caught_or : List Frame → Option Frame → Option Block → Option Block
caught_or fs (Some g) o = Some (record { top = g; below = fs })
caught_or fs None o = o

abbrev pub catches_below : Face → Bodies → World → Value → List Frame → Option Block
catches_below face find w v [] = None
catches_below face find w v (f ∷ fs) = caught_or fs (lands face find w f v) (catches_below face find w v fs)

abbrev pub catches : Face → Bodies → World → Value → Block → Option Block
catches face find w v x = catches_below face find w v (x.top ∷ x.below)

-- steps in a block that show nothing, whatever stands below it
pub record Glides (s : Setting) (find : Bodies) (w : World) (c : Classes) (x : Block) (n : ℕ) (w' : World) (c' : Classes) (x' : Block) : Type 0 where
  pub ends : (rest : List Waiting) (script : List Move) → after s find (On w c (stacked x rest) script) n ≡ On w' c' (stacked x' rest) script
  pub silent : (rest : List Waiting) (script : List Move) → shows_from s find (On w c (stacked x rest) script) n ≡ []

-- the block goes on where something in it catches, or else the other comes
abbrev pub lands_in : World → Classes → List Waiting → List Move → Option Block → Next → Next
lands_in w c r script (Some x) otherwise = quiet (On w c (stacked x r) script)
lands_in w c r script None otherwise = otherwise

pub unwinds_under : (face : Face) (find : Bodies) (w : World) (c : Classes) (v : Value) (fs : List Frame) (r : List Waiting) (script : List Move)
    → unwinds face find w c v (under fs r) script ≡ lands_in w c r script (catches_below face find w v fs) (unwinds face find w c v r script)
unwinds_under face find w c v [] r script = refl
unwinds_under face find w c v (f ∷ fs) r script = by (lands face find w f v) (unwinds_under face find w c v fs r script)
  where
    by : (o : Option Frame) → unwinds face find w c v (under fs r) script ≡ lands_in w c r script (catches_below face find w v fs) (unwinds face find w c v r script)
        → lands_or w c (under fs r) script o (unwinds face find w c v (under fs r) script) ≡ lands_in w c r script (caught_or fs o (catches_below face find w v fs)) (unwinds face find w c v r script)
    by None h = h
    by (Some g) h = refl

-- ---- the law's premises

module _ (s : Setting) (find other : Bodies) (F : World → Classes → Block → Block → Type 0) (W : Above → Block → Block → Type 0) (I J : State → Type 0) where
  -- both catch a thrown object, in related blocks, or neither does
  abbrev pub Landed : World → Classes → List Waiting → List Waiting → List Move → Option Block → Option Block → Type 0
  Landed w c rest rest' script None o = o ≡ None
  Landed w c rest rest' script (Some x) o = (y : Block) × ((o ≡ Some y) × (I (On w c (stacked x rest) script) → J (On w c (stacked y rest') script) → F w c x y))

  -- what comes of the second block where the outcome of the first is this
  abbrev pub Leads : World → Classes → Block → Outcome → Block → Outcome → Type 0
  Leads w c x (Stays w1 f1 e) y o = (g1 : Frame) × ((o ≡ Stays w1 g1 e) × F w1 c (with_top x f1) (with_top y g1))
  Leads w c x (Starts t) y o = (o ≡ Starts t) × W Begins x y
  Leads w c x (Enters k vs) y o = (o ≡ Enters k vs) × W Calls x y
  Leads w c x (Leaves w1 owes e) y o = (o ≡ Leaves w1 owes e) × W (Asks owes) x y
  Leads w c x (Ends v) y o = (o ≡ Ends v) × ((x.below ≡ []) × ((y.below ≡ []) × (y.top.method.signature.result ≡ x.top.method.signature.result)))
  Leads w c x (Raises w1 v) y o = (o ≡ Raises w1 v) × ((rest rest' : List Waiting) (script : List Move) → Landed w1 c rest rest' script (catches s.face find w1 v x) (catches s.face other w1 v y))
  Leads w c x Halts y o = o ≡ Halts

  pub data Matches (w : World) (c : Classes) (x y : Block) : Type 0 where
    -- both stay in their blocks, the first for a step at least
    Stay : (k j : ℕ) (w1 : World) (c1 : Classes) (x1 y1 : Block) → Glides s find w c x (suc k) w1 c1 x1 → Glides s other w c y j w1 c1 y1 → F w1 c1 x1 y1 → Matches w c x y
    -- both come to the same
    Meet : (k j : ℕ) (w1 : World) (c1 : Classes) (x1 y1 : Block) → Glides s find w c x k w1 c1 x1 → Glides s other w c y j w1 c1 y1
        → Leads w1 c1 x1 (now s find w1 c1 x1.top) y1 (now s other w1 c1 y1.top) → Matches w c x y

  -- a method has code in both programs or in neither, for as many values, and related entries
  abbrev pub Entered : World → Classes → List Waiting → List Waiting → List Move → MethodKey → List Value → Option NamedBody → Option NamedBody → Type 0
  Entered w c rest rest' script k vs None o = o ≡ None
  Entered w c rest rest' script k vs (Some b) o = (b' : NamedBody) × ((o ≡ Some b') × ((b'.ins ≡ b.ins) × (length vs ≡ b.ins
      → I (On w c (Method (entry_frame k vs b) ∷ rest) script) → J (On w c (Method (entry_frame k vs b') ∷ rest') script) → F w c (alone (entry_frame k vs b)) (alone (entry_frame k vs b')))))

  pub record BlocksFollow : Type 0 where
    -- related blocks on top go on alike, in states of both programs that a run reaches
    pub steps : (w : World) (c : Classes) (x y : Block) (rest rest' : List Waiting) (script : List Move) → F w c x y
        → I (On w c (stacked x rest) script) → J (On w c (stacked y rest') script) → Matches w c x y
    pub entries : (w : World) (c : Classes) (rest rest' : List Waiting) (script : List Move) (k : MethodKey) (vs : List Value) → Entered w c rest rest' script k vs (find k) (other k)
    -- waiting blocks are related once the same has come back: a result, the end of a class, or a thrown object
    pub returns : (w : World) (c : Classes) (x y : Block) (rest rest' : List Waiting) (script : List Move) (a : Above) (v : Option Value) → Comes a v → W a x y
        → I (On w c (stacked (with_top x (back find x.top v)) rest) script) → J (On w c (stacked (with_top y (back other y.top v)) rest') script)
        → F w c (with_top x (back find x.top v)) (with_top y (back other y.top v))
    pub retries : (w : World) (c : Classes) (x y : Block) (rest rest' : List Waiting) (script : List Move) → W Begins x y
        → I (On w c (stacked x rest) script) → J (On w c (stacked y rest') script) → F w c x y
    pub throws : (w : World) (c : Classes) (x y : Block) (rest rest' : List Waiting) (script : List Move) (a : Above) (v : Value) → W a x y
        → Landed w c rest rest' script (catches s.face find w v x) (catches s.face other w v y)
    -- what a run reaches
    pub keeps : (t : State) → I t → I (step s find t).0
    pub keeps_other : (t : State) → J t → J (step s other t).0

  -- related blocks come to the same at once
  abbrev pub AtOnce : Type 0
  AtOnce = (w : World) (c : Classes) (x y : Block) (rest rest' : List Waiting) (script : List Move) → F w c x y
      → I (On w c (stacked x rest) script) → J (On w c (stacked y rest') script) → Leads w c x (now s find w c x.top) y (now s other w c y.top)

  -- ---- related states

  pub data Waits : Above → List Waiting → List Waiting → Type 0 where
    WaitsBottom : (a : Above) → Waits a [] []
    WaitsBlock : (a : Above) (x y : Block) (r r' : List Waiting) → W a x y → Waits Calls r r' → Waits a (stacked x r) (stacked y r')
    WaitsInitialiser : (a : Above) (t : Text) (ts : List Text) (r r' : List Waiting) → Waits Begins r r' → Waits a (Initialiser t ts ∷ r) (Initialiser t ts ∷ r')
    WaitsEnding : (a : Above) (t : Text) (r r' : List Waiting) → Waits Begins r r' → Waits a (Ending t ∷ r) (Ending t ∷ r')
    WaitsOutside : (a : Above) (owes : Option Text) (pending : Option Move) (r r' : List Waiting) → Waits (asked owes) r r' → Waits a (Outside owes pending ∷ r) (Outside owes pending ∷ r')

  pub data Stacks (w : World) (c : Classes) : List Waiting → List Waiting → Type 0 where
    Bottom : Stacks w c [] []
    Tops : (x y : Block) (r r' : List Waiting) → F w c x y → Waits Calls r r' → Stacks w c (stacked x r) (stacked y r')
    Initialises : (t : Text) (ts : List Text) (r r' : List Waiting) → Waits Begins r r' → Stacks w c (Initialiser t ts ∷ r) (Initialiser t ts ∷ r')
    Finishes : (t : Text) (r r' : List Waiting) → Waits Begins r r' → Stacks w c (Ending t ∷ r) (Ending t ∷ r')
    Goes_out : (owes : Option Text) (pending : Option Move) (r r' : List Waiting) → Waits (asked owes) r r' → Stacks w c (Outside owes pending ∷ r) (Outside owes pending ∷ r')

  pub data Core : State → State → Type 0 where
    BothEnded : Core Ended Ended
    BothOn : (w : World) (c : Classes) (stack stack' : List Waiting) (script : List Move) → Stacks w c stack stack' → Core (On w c stack script) (On w c stack' script)

  abbrev pub Related : State → State → Type 0
  Related t u = Core t u × (I t × J u)

  -- two steps' ends are good where they show the same and their states are related
  record Good (x x' : Next) : Type 0 where
    holds : I x.0 → J x'.0 → (x'.1 ≡ x.1) × Core x.0 x'.0

  good_end : Good (quiet Ended) (quiet Ended)
  good_end = record { holds = λ i j. (refl, BothEnded) }

  -- the framework is on top of both
  good_outside : (w : World) (c : Classes) (owes : Option Text) (pending : Option Move) (r r' : List Waiting) (script : List Move) (e : Option Event) → Waits (asked owes) r r'
      → Good (On w c (Outside owes pending ∷ r) script, e) (On w c (Outside owes pending ∷ r') script, e)
  good_outside w c owes pending r r' script e ws = record { holds = λ i j. (refl, BothOn w c (Outside owes pending ∷ r) (Outside owes pending ∷ r') script (Goes_out owes pending r r' ws)) }

  module _ (follow : BlocksFollow) where
    good_enters : (w : World) (c : Classes) (k : MethodKey) (vs : List Value) (stack stack' : List Waiting) (script : List Move) (o o' : Option NamedBody)
        → Entered w c stack stack' script k vs o o' → Waits Calls stack stack' → Good (quiet (enters_body o w c k vs stack script)) (quiet (enters_body o' w c k vs stack' script))
    good_enters w c k vs stack stack' script None o' h ws = subst (λ x. Good (quiet Ended) (quiet (enters_body x w c k vs stack' script))) (sym h) good_end
    good_enters w c k vs stack stack' script (Some b) o' h ws = subst (λ x. Good (quiet (enters_body (Some b) w c k vs stack script)) (quiet (enters_body x w c k vs stack' script))) (sym h.1.0)
        (subst (λ n. Good (quiet (enters_body (Some b) w c k vs stack script)) (entry n (entry_frame k vs h.0) stack')) (sym h.1.1.0) (by (nat_eq (length vs) b.ins) refl))
      where
        entry : ℕ → Frame → List Waiting → Next
        entry n f r = quiet (elim (nat_eq (length vs) n) as (λ b. State) [ true ↦ On w c (Method f ∷ r) script | false ↦ Ended ])

        by : (q : Bool) → nat_eq (length vs) b.ins ≡ q → Good (quiet (elim q as (λ b. State) [ true ↦ On w c (Method (entry_frame k vs b) ∷ stack) script | false ↦ Ended ]))
            (quiet (elim q as (λ b. State) [ true ↦ On w c (Method (entry_frame k vs h.0) ∷ stack') script | false ↦ Ended ]))
        by false e = good_end
        by true e = record {
          holds = λ i j. (
            refl,
            BothOn w c (Method (entry_frame k vs b) ∷ stack) (Method (entry_frame k vs h.0) ∷ stack') script
                (Tops (alone (entry_frame k vs b)) (alone (entry_frame k vs h.0)) stack stack' (h.1.1.1 (eqb-true (length vs) b.ins e) i j) ws),
          );
        }

    -- ---- entries, classes, results, thrown objects

    good_calls : (w : World) (c : Classes) (k : MethodKey) (vs : List Value) (stack stack' : List Waiting) (script : List Move) → Waits Calls stack stack'
        → Good (quiet (enters find w c k vs stack script)) (quiet (enters other w c k vs stack' script))
    good_calls w c k vs stack stack' script ws = good_enters w c k vs stack stack' script (find k) (other k) (follow.entries w c stack stack' script k vs) ws

    good_runs : (w : World) (c : Classes) (t : Text) (o : Option MethodKey) (stack stack' : List Waiting) (script : List Move) → Waits Begins stack stack'
        → Good (quiet (runs find w c t o stack script)) (quiet (runs other w c t o stack' script))
    good_runs w c t None stack stack' script ws = record { holds = λ i j. (refl, BothOn w c (Ending t ∷ stack) (Ending t ∷ stack') script (Finishes t stack stack' ws)) }
    good_runs w c t (Some k) stack stack' script ws = good_calls w c k [] (Ending t ∷ stack) (Ending t ∷ stack') script (WaitsEnding Calls t stack stack' ws)

    good_goes_on : (w : World) (c : Classes) (t : Text) (l : List Text) (stack stack' : List Waiting) (script : List Move) → Waits Begins stack stack'
        → Good (quiet (goes_on s.face find w c t l stack script)) (quiet (goes_on s.face other w c t l stack' script))
    good_goes_on w c t [] stack stack' script ws = good_runs w c t (s.face.initialiser t) stack stack' script ws
    good_goes_on w c t (d ∷ ds) stack stack' script ws = record { holds = λ i j. (refl, BothOn w c (Initialiser t (d ∷ ds) ∷ stack) (Initialiser t (d ∷ ds) ∷ stack') script (Initialises t (d ∷ ds) stack stack' ws)) }

    good_starts : (w : World) (c : Classes) (t : Text) (stack stack' : List Waiting) (script : List Move) → Waits Begins stack stack'
        → Good (quiet (starts s.face find w c t stack script)) (quiet (starts s.face other w c t stack' script))
    good_starts w c t stack stack' script ws = good_goes_on w (put_status t Running c) t (left_of (put_status t Running c) (s.face.first t)) stack stack' script ws

    good_resumes : (w : World) (c : Classes) (stack stack' : List Waiting) (script : List Move) → Waits Begins stack stack'
        → Good (quiet (resumes s.face find w c stack script)) (quiet (resumes s.face other w c stack' script))
    good_resumes w c _ _ script (WaitsBottom _) = record { holds = λ i j. (refl, BothOn w c [] [] script Bottom) }
    good_resumes w c _ _ script (WaitsBlock _ x y r r' h ws) = record { holds = λ i j. (refl, BothOn w c (stacked x r) (stacked y r') script (Tops x y r r' (follow.retries w c x y r r' script h i j) ws)) }
    good_resumes w c _ _ script (WaitsInitialiser _ t a r r' ws) = good_goes_on w c t (left_of c a) r r' script ws
    good_resumes w c _ _ script (WaitsEnding _ t r r' ws) = record { holds = λ i j. (refl, BothOn w c (Ending t ∷ r) (Ending t ∷ r') script (Finishes t r r' ws)) }
    good_resumes w c _ _ script (WaitsOutside _ owes pending r r' ws) = good_outside w c owes pending r r' script None ws

    good_gives : (a : Above) (kind : Text) (w : World) (c : Classes) (v : Option Value) (stack stack' : List Waiting) (script : List Move) → Comes a v → Waits a stack stack'
        → Good (gives find kind w c v stack script) (gives other kind w c v stack' script)
    good_gives a kind w c v _ _ script m (WaitsBottom _) = good_end
    good_gives a kind w c v _ _ script m (WaitsBlock _ x y r r' h ws) = record {
      holds = λ i j. (
        refl,
        BothOn w c (stacked (with_top x (back find x.top v)) r) (stacked (with_top y (back other y.top v)) r') script
            (Tops (with_top x (back find x.top v)) (with_top y (back other y.top v)) r r' (follow.returns w c x y r r' script a v m h i j) ws),
      );
    }
    good_gives a kind w c v _ _ script m (WaitsInitialiser _ t ts r r' ws) = good_end
    good_gives a kind w c v _ _ script m (WaitsEnding _ t r r' ws) = record { holds = λ i j. (refl, BothOn w c (Ending t ∷ r) (Ending t ∷ r') script (Finishes t r r' ws)) }
    good_gives a kind w c v _ _ script m (WaitsOutside _ owes pending r r' ws) = good_outside (show_option w kind v).0 c owes pending r r' script (Some (event.Result (show_option w kind v).1)) ws

    good_lands : (w : World) (c : Classes) (r r' : List Waiting) (script : List Move) (o o' : Option Block) (n n' : Next) → Landed w c r r' script o o' → Waits Calls r r'
        → Good n n' → Good (lands_in w c r script o n) (lands_in w c r' script o' n')
    good_lands w c r r' script None o' n n' h ws g = subst (λ x. Good n (lands_in w c r' script x n')) (sym h) g
    good_lands w c r r' script (Some x) o' n n' h ws g =
        subst (λ z. Good (quiet (On w c (stacked x r) script)) (lands_in w c r' script z n')) (sym h.1.0)
        (record { holds = λ i j. (refl, BothOn w c (stacked x r) (stacked h.0 r') script (Tops x h.0 r r' (h.1.1 i j) ws)) })

    -- an object that is thrown in a block
    good_thrown : (w : World) (c : Classes) (v : Value) (x y : Block) (r r' : List Waiting) (script : List Move) → Landed w c r r' script (catches s.face find w v x) (catches s.face other w v y) → Waits Calls r r'
        → Good (unwinds s.face find w c v r script) (unwinds s.face other w c v r' script)
        → Good (unwinds s.face find w c v (stacked x r) script) (unwinds s.face other w c v (stacked y r') script)
    good_thrown w c v x y r r' script h ws g =
        subst (λ z. Good z (unwinds s.face other w c v (stacked y r') script)) (sym (unwinds_under s.face find w c v (x.top ∷ x.below) r script))
        (subst (λ z. Good (lands_in w c r script (catches s.face find w v x) (unwinds s.face find w c v r script)) z) (sym (unwinds_under s.face other w c v (y.top ∷ y.below) r' script))
        (good_lands w c r r' script (catches s.face find w v x) (catches s.face other w v y) (unwinds s.face find w c v r script) (unwinds s.face other w c v r' script) h ws g))

    good_unwinds : (b : Above) (stack stack' : List Waiting) (w : World) (c : Classes) (v : Value) (script : List Move) → Waits b stack stack'
        → Good (unwinds s.face find w c v stack script) (unwinds s.face other w c v stack' script)
    good_unwinds b _ _ w c v script (WaitsBottom _) = good_end
    good_unwinds b _ _ w c v script (WaitsBlock _ x y r r' h ws) = good_thrown w c v x y r r' script (follow.throws w c x y r r' script b v h) ws (good_unwinds Calls r r' w c v script ws)
    good_unwinds b _ _ w c v script (WaitsInitialiser _ t a r r' ws) = good_unwinds Begins r r' w (put_status t Failed c) v script ws
    good_unwinds b _ _ w c v script (WaitsEnding _ t r r' ws) = good_unwinds Begins r r' (wrapped s.face w v).0 (put_status t Failed c) (wrapped s.face w v).1 script ws
    good_unwinds b _ _ w c v script (WaitsOutside _ owes pending r r' ws) = good_outside (show w throwable_type v).0 c owes None r r' script (Some (event.Uncaught (show w throwable_type v).1)) ws

    good_throws_new : (b : Above) (stack stack' : List Waiting) (w : World) (c : Classes) (t : Text) (script : List Move) → Waits b stack stack'
        → Good (throws_new s.face find w c t stack script) (throws_new s.face other w c t stack' script)
    good_throws_new b stack stack' w c t script ws = good_unwinds b stack stack' (with_thing w (fresh t)) c (next_object w) script ws

    good_first_needed : (w : World) (c : Classes) (t d : Text) (ds : List Text) (st : Status) (r r' : List Waiting) (script : List Move) → Waits Begins r r'
        → Good (first_needed s find w c t d ds st r script) (first_needed s other w c t d ds st r' script)
    good_first_needed w c t d ds New r r' script ws = good_starts w c d (Initialiser t (d ∷ ds) ∷ r) (Initialiser t (d ∷ ds) ∷ r') script (WaitsInitialiser Begins t (d ∷ ds) r r' ws)
    good_first_needed w c t d ds Running r r' script ws = good_goes_on w c t (left_of c ds) r r' script ws
    good_first_needed w c t d ds Done r r' script ws = good_goes_on w c t (left_of c ds) r r' script ws
    good_first_needed w c t d ds Failed r r' script ws = good_throws_new Begins (Initialiser t (d ∷ ds) ∷ r) (Initialiser t (d ∷ ds) ∷ r') w c no_class script (WaitsInitialiser Begins t (d ∷ ds) r r' ws)

    good_initialises : (w : World) (c : Classes) (t : Text) (a : List Text) (r r' : List Waiting) (script : List Move) → Waits Begins r r'
        → Good (initialises s find w c t a r script) (initialises s other w c t a r' script)
    good_initialises w c t [] r r' script ws = good_goes_on w c t [] r r' script ws
    good_initialises w c t (d ∷ ds) r r' script ws = good_first_needed w c t d ds (c d) r r' script ws

    -- ---- outcomes

    good_happens : (w : World) (c : Classes) (x y : Block) (o o' : Outcome) (r r' : List Waiting) (script : List Move) → Leads w c x o y o' → Waits Calls r r'
        → Good (happens s find o w c x.top (under x.below r) script) (happens s other o' w c y.top (under y.below r') script)
    good_happens w c x y (Stays w1 f1 e) o' r r' script h ws = subst (λ z. Good (happens s find (Stays w1 f1 e) w c x.top (under x.below r) script) (happens s other z w c y.top (under y.below r') script)) (sym h.1.0)
        (record { holds = λ i j. (refl, BothOn w1 c (stacked (with_top x f1) r) (stacked (with_top y h.0) r') script (Tops (with_top x f1) (with_top y h.0) r r' h.1.1 ws)) })
    good_happens w c x y (Starts t) o' r r' script h ws = subst (λ z. Good (happens s find (Starts t) w c x.top (under x.below r) script) (happens s other z w c y.top (under y.below r') script)) (sym h.0)
        (good_starts w c t (stacked x r) (stacked y r') script (WaitsBlock Begins x y r r' h.1 ws))
    good_happens w c x y (Enters k vs) o' r r' script h ws = subst (λ z. Good (happens s find (Enters k vs) w c x.top (under x.below r) script) (happens s other z w c y.top (under y.below r') script)) (sym h.0)
        (good_calls w c k vs (stacked x r) (stacked y r') script (WaitsBlock Calls x y r r' h.1 ws))
    good_happens w c x y (Leaves w1 owes e) o' r r' script h ws = subst (λ z. Good (happens s find (Leaves w1 owes e) w c x.top (under x.below r) script) (happens s other z w c y.top (under y.below r') script)) (sym h.0)
        (record { holds = λ i j. (refl, BothOn w1 c (Outside (Some owes) None ∷ stacked x r) (Outside (Some owes) None ∷ stacked y r') script (Goes_out (Some owes) None (stacked x r) (stacked y r') (WaitsBlock (Asks owes) x y r r' h.1 ws))) })
    good_happens w c x y (Ends v) o' r r' script h ws = subst (λ z. Good (happens s find (Ends v) w c x.top (under x.below r) script) (happens s other z w c y.top (under y.below r') script)) (sym h.0)
        (subst (λ z. Good (happens s find (Ends v) w c x.top (under z r) script) (happens s other (Ends v) w c y.top (under y.below r') script)) (sym h.1.0)
        (subst (λ z. Good (gives find x.top.method.signature.result w c v r script) (happens s other (Ends v) w c y.top (under z r') script)) (sym h.1.1.0)
        (subst (λ k. Good (gives find x.top.method.signature.result w c v r script) (gives other k w c v r' script)) (sym h.1.1.1) (good_gives Calls x.top.method.signature.result w c v r r' script tt ws))))
    good_happens w c x y (Raises w1 v) o' r r' script h ws = subst (λ z. Good (happens s find (Raises w1 v) w c x.top (under x.below r) script) (happens s other z w c y.top (under y.below r') script)) (sym h.0)
        (good_thrown w1 c v x y r r' script (h.1 r r' script) ws (good_unwinds Calls r r' w1 c v script ws))
    good_happens w c x y Halts o' r r' script h ws = subst (λ z. Good (quiet Ended) (happens s other z w c y.top (under y.below r') script)) (sym h) good_end

    -- ---- moves of the framework

    good_bool : (b : Bool) (x y x' y' : Next) → Good x x' → Good y y' → Good (elim b [ true ↦ x | false ↦ y ]) (elim b [ true ↦ x' | false ↦ y' ])
    good_bool true x y x' y' g h = g
    good_bool false x y x' y' g h = h

    good_if : (b : Bool) (x x' : Next) → Good x x' → Good (elim b [ true ↦ x | false ↦ quiet Ended ]) (elim b [ true ↦ x' | false ↦ quiet Ended ])
    good_if b x x' g = good_bool b x (quiet Ended) x' (quiet Ended) g good_end

    module _ (owes : Option Text) (below below' : List Waiting) (ws : Waits (asked owes) below below') where
      good_here : (w : World) (c : Classes) (rest : List Move) (e : Option Event) → Good (On w c (Outside owes None ∷ below) rest, e) (On w c (Outside owes None ∷ below') rest, e)
      good_here w c rest e = good_outside w c owes None below below' rest e ws

      good_needs : (n : Need) (w : World) (c : Classes) (t : Text) (m : Move) (rest : List Move) (x x' : Next) → Good x x'
          → Good (needs s find n w c t (Outside owes (Some m) ∷ below) (Outside owes None ∷ below) rest x) (needs s other n w c t (Outside owes (Some m) ∷ below') (Outside owes None ∷ below') rest x')
      good_needs Ready w c t m rest x x' g = g
      good_needs Fresh w c t m rest x x' g = good_starts w c t (Outside owes (Some m) ∷ below) (Outside owes (Some m) ∷ below') rest (WaitsOutside Begins owes (Some m) below below' ws)
      good_needs Broken w c t m rest x x' g = good_throws_new Begins (Outside owes None ∷ below) (Outside owes None ∷ below') w c no_class rest (WaitsOutside Begins owes None below below' ws)

      good_calls_here : (w : World) (c : Classes) (k : MethodKey) (vs : List Value) (rest : List Move)
          → Good (quiet (enters find w c k vs (Outside owes None ∷ below) rest)) (quiet (enters other w c k vs (Outside owes None ∷ below') rest))
      good_calls_here w c k vs rest = good_calls w c k vs (Outside owes None ∷ below) (Outside owes None ∷ below') rest (WaitsOutside Calls owes None below below' ws)

      good_entered : (w : World) (c : Classes) (f : Found) (vs : List Value) (m : Move) (rest : List Move) (w' : World)
          → Good (entered s find w c f vs (Outside owes (Some m) ∷ below) (Outside owes None ∷ below) rest w') (entered s other w c f vs (Outside owes (Some m) ∷ below') (Outside owes None ∷ below') rest w')
      good_entered w c f vs m rest w' = good_bool (is_static f.flags)
          (needs s find (need_of s.face c f.key.class) w c f.key.class (Outside owes (Some m) ∷ below) (Outside owes None ∷ below) rest (quiet (enters find w' c f.key (spread vs) (Outside owes None ∷ below) rest)))
          (quiet (enters find w' c f.key (spread vs) (Outside owes None ∷ below) rest))
          (needs s other (need_of s.face c f.key.class) w c f.key.class (Outside owes (Some m) ∷ below') (Outside owes None ∷ below') rest (quiet (enters other w' c f.key (spread vs) (Outside owes None ∷ below') rest)))
          (quiet (enters other w' c f.key (spread vs) (Outside owes None ∷ below') rest))
          (good_needs (need_of s.face c f.key.class) w c f.key.class m rest (quiet (enters find w' c f.key (spread vs) (Outside owes None ∷ below) rest)) (quiet (enters other w' c f.key (spread vs) (Outside owes None ∷ below') rest)) (good_calls_here w' c f.key (spread vs) rest))
          (good_calls_here w' c f.key (spread vs) rest)

      good_enter : (w : World) (c : Classes) (o : Option Found) (gs : List Given) (m : Move) (rest : List Move)
          → Good (enter s find w c o gs (Outside owes (Some m) ∷ below) (Outside owes None ∷ below) rest) (enter s other w c o gs (Outside owes (Some m) ∷ below') (Outside owes None ∷ below') rest)
      good_enter w c None gs m rest = good_end
      good_enter w c (Some f) gs m rest = good_if (may_enter s.face s.outer w (gets_all w gs).0 f gs (gets_all w gs).1)
          (entered s find w c f (gets_all w gs).1 (Outside owes (Some m) ∷ below) (Outside owes None ∷ below) rest (gets_all w gs).0)
          (entered s other w c f (gets_all w gs).1 (Outside owes (Some m) ∷ below') (Outside owes None ∷ below') rest (gets_all w gs).0)
          (good_entered w c f (gets_all w gs).1 m rest (gets_all w gs).0)

      good_make : (w : World) (c : Classes) (t : Text) (m : Move) (rest : List Move)
          → Good (make s find w c t (Outside owes (Some m) ∷ below) (Outside owes None ∷ below) rest) (make s other w c t (Outside owes (Some m) ∷ below') (Outside owes None ∷ below') rest)
      good_make w c t m rest = good_if (may_make s.face s.outer t)
          (needs s find (need_of s.face c t) w c t (Outside owes (Some m) ∷ below) (Outside owes None ∷ below) rest (made w c t (Outside owes None ∷ below) rest))
          (needs s other (need_of s.face c t) w c t (Outside owes (Some m) ∷ below') (Outside owes None ∷ below') rest (made w c t (Outside owes None ∷ below') rest))
          (good_needs (need_of s.face c t) w c t m rest (made w c t (Outside owes None ∷ below) rest) (made w c t (Outside owes None ∷ below') rest)
          (good_here (show (with_thing w (fresh t)) t (next_object w)).0 c rest (Some (event.Make (show (with_thing w (fresh t)) t (next_object w)).1))))

      answered : (w : World) (kind : Text) (g : Option Given) → may_answer s.face s.outer w kind g ≡ true → Comes (Asks kind) (got w g).1
      answered w kind None e = e
      answered w kind (Some g) e = tt

      good_when : (b : Bool) (x x' : Next) → (b ≡ true → Good x x') → Good (elim b [ true ↦ x | false ↦ quiet Ended ]) (elim b [ true ↦ x' | false ↦ quiet Ended ])
      good_when true x x' g = g refl
      good_when false x x' g = good_end

      good_answers : (w : World) (c : Classes) (o : Option Text) (g : Option Given) (rest : List Move) → Waits (asked o) below below' → Good (answers s find w c o g below rest) (answers s other w c o g below' rest)
      good_answers w c None g rest h = good_end
      good_answers w c (Some kind) g rest h = good_when (may_answer s.face s.outer w kind g)
          (gives find kind (got w g).0 c (got w g).1 below rest) (gives other kind (got w g).0 c (got w g).1 below' rest)
          (λ e. good_gives (Asks kind) kind (got w g).0 c (got w g).1 below below' rest (answered w kind g e) h)

      good_throws : (w : World) (c : Classes) (o : Option Text) (g : Given) (rest : List Move) → Good (throws s find w c o g below rest) (throws s other w c o g below' rest)
      good_throws w c None g rest = good_end
      good_throws w c (Some kind) g rest = good_if (may_throw s.face s.outer w (gets w g).0 g (gets w g).1)
          (unwinds s.face find (gets w g).0 c (gets w g).1 below rest) (unwinds s.face other (gets w g).0 c (gets w g).1 below' rest)
          (good_unwinds (asked owes) below below' (gets w g).0 c (gets w g).1 rest ws)

      good_shows_value : (w : World) (c : Classes) (kind : Text) (o : Option Value) (rest : List Move)
          → Good (shows_value w c kind o (Outside owes None ∷ below) rest) (shows_value w c kind o (Outside owes None ∷ below') rest)
      good_shows_value w c kind None rest = good_end
      good_shows_value w c kind (Some v) rest = good_here (show w kind v).0 c rest (Some (event.Answer (show w kind v).1))

      good_goes : (o : Option World) (c : Classes) (rest : List Move) → Good (goes o c (Outside owes None ∷ below) rest) (goes o c (Outside owes None ∷ below') rest)
      good_goes None c rest = good_end
      good_goes (Some w) c rest = good_here w c rest None

      good_reads : (w : World) (c : Classes) (k : FieldKey) (o : Option Place) (on : Option Given) (rest : List Move)
          → Good (reads s w c k o on (Outside owes None ∷ below) rest) (reads s w c k o on (Outside owes None ∷ below') rest)
      good_reads w c k None on rest = good_end
      good_reads w c k (Some place) on rest = good_if (s.outer.fields k && on_fits s.face s.outer w (got w on).0 k place on (got w on).1)
          (shows_value (got w on).0 c k.kind (field_value (got w on).0 k place (got w on).1) (Outside owes None ∷ below) rest)
          (shows_value (got w on).0 c k.kind (field_value (got w on).0 k place (got w on).1) (Outside owes None ∷ below') rest)
          (good_shows_value (got w on).0 c k.kind (field_value (got w on).0 k place (got w on).1) rest)

      good_writes : (w : World) (c : Classes) (k : FieldKey) (o : Option Place) (on : Option Given) (g : Given) (rest : List Move)
          → Good (writes s w c k o on g (Outside owes None ∷ below) rest) (writes s w c k o on g (Outside owes None ∷ below') rest)
      good_writes w c k None on g rest = good_end
      good_writes w c k (Some place) on g rest =
          let a = got w on in let b = gets a.0 g in
          good_if (s.outer.fields k && on_fits s.face s.outer w a.0 k place on a.1 && fits s.face s.outer a.0 b.0 g b.1 k.kind)
          (goes (with_field b.0 k a.1 (stored (item_of_type k.kind) b.1)) c (Outside owes None ∷ below) rest)
          (goes (with_field b.0 k a.1 (stored (item_of_type k.kind) b.1)) c (Outside owes None ∷ below') rest)
          (good_goes (with_field b.0 k a.1 (stored (item_of_type k.kind) b.1)) c rest)

      good_reads_item : (w : World) (c : Classes) (o : Option Thing) (n : ℕ) (rest : List Move)
          → Good (reads_item w c o n (Outside owes None ∷ below) rest) (reads_item w c o n (Outside owes None ∷ below') rest)
      good_reads_item w c None n rest = good_end
      good_reads_item w c (Some (Instance t fields)) n rest = good_end
      good_reads_item w c (Some (Items kind vs)) n rest = good_shows_value w c kind (slice_get vs n) rest

      good_array_get : (w : World) (c : Classes) (g : Given) (n : ℕ) (rest : List Move)
          → Good (array_get w c g n (Outside owes None ∷ below) rest) (array_get w c g n (Outside owes None ∷ below') rest)
      good_array_get w c g n rest = good_if (is_exposed w g)
          (reads_item w c (thing_at w (gets w g).1) n (Outside owes None ∷ below) rest) (reads_item w c (thing_at w (gets w g).1) n (Outside owes None ∷ below') rest)
          (good_reads_item w c (thing_at w (gets w g).1) n rest)

      good_writes_item : (w : World) (c : Classes) (on : Value) (o : Option Thing) (n : ℕ) (g : Given) (rest : List Move)
          → Good (writes_item s w c on o n g (Outside owes None ∷ below) rest) (writes_item s w c on o n g (Outside owes None ∷ below') rest)
      good_writes_item w c on None n g rest = good_end
      good_writes_item w c on (Some (Instance t fields)) n g rest = good_end
      good_writes_item w c on (Some (Items kind vs)) n g rest = good_if (fits s.face s.outer w (gets w g).0 g (gets w g).1 kind)
          (goes (with_item (gets w g).0 on kind vs n (gets w g).1) c (Outside owes None ∷ below) rest) (goes (with_item (gets w g).0 on kind vs n (gets w g).1) c (Outside owes None ∷ below') rest)
          (good_goes (with_item (gets w g).0 on kind vs n (gets w g).1) c rest)

      good_array_put : (w : World) (c : Classes) (on : Given) (n : ℕ) (g : Given) (rest : List Move)
          → Good (array_put s w c on n g (Outside owes None ∷ below) rest) (array_put s w c on n g (Outside owes None ∷ below') rest)
      good_array_put w c on n g rest = good_if (is_exposed w on)
          (writes_item s w c (gets w on).1 (thing_at w (gets w on).1) n g (Outside owes None ∷ below) rest) (writes_item s w c (gets w on).1 (thing_at w (gets w on).1) n g (Outside owes None ∷ below') rest)
          (good_writes_item w c (gets w on).1 (thing_at w (gets w on).1) n g rest)

      good_measures : (w : World) (c : Classes) (o : Option Thing) (rest : List Move)
          → Good (measures_thing w c o (Outside owes None ∷ below) rest) (measures_thing w c o (Outside owes None ∷ below') rest)
      good_measures w c None rest = good_end
      good_measures w c (Some (Instance t fields)) rest = good_end
      good_measures w c (Some (Items kind vs)) rest = good_shows_value w c (73 ∷ []) (Some (Word (length vs))) rest

      good_array_length : (w : World) (c : Classes) (g : Given) (rest : List Move)
          → Good (array_length w c g (Outside owes None ∷ below) rest) (array_length w c g (Outside owes None ∷ below') rest)
      good_array_length w c g rest = good_if (is_exposed w g)
          (measures_thing w c (thing_at w (gets w g).1) (Outside owes None ∷ below) rest) (measures_thing w c (thing_at w (gets w g).1) (Outside owes None ∷ below') rest)
          (good_measures w c (thing_at w (gets w g).1) rest)

      good_moves : (w : World) (c : Classes) (m : Move) (rest : List Move) → Good (moves s find w c owes m below rest) (moves s other w c owes m below' rest)
      good_moves w c (move.Enter t n q gs) rest = good_enter w c (s.face.declared t n q) gs (move.Enter t n q gs) rest
      good_moves w c (move.Make t) rest = good_make w c t (move.Make t) rest
      good_moves w c (move.Return g) rest = good_answers w c owes g rest ws
      good_moves w c (move.Throw g) rest = good_throws w c owes g rest
      good_moves w c (move.Get t n k on) rest = good_reads w c (key_of t n k) (s.face.own_field (key_of t n k)) on rest
      good_moves w c (move.Put t n k on g) rest = good_writes w c (key_of t n k) (s.face.own_field (key_of t n k)) on g rest
      good_moves w c (move.ArrayGet g n) rest = good_array_get w c g n rest
      good_moves w c (move.ArrayPut on n g) rest = good_array_put w c on n g rest
      good_moves w c (move.ArrayLength g) rest = good_array_length w c g rest

      good_turn : (w : World) (c : Classes) (pending : Option Move) (script : List Move) → Good (framework_turn s find w c owes pending below script) (framework_turn s other w c owes pending below' script)
      good_turn w c (Some m) script = good_moves w c m script
      good_turn w c None [] = good_end
      good_turn w c None (m ∷ rest) = good_moves w c m rest

    -- ---- a step

    abbrev Goal : State → State → Type 0
    Goal t u = (k : ℕ) × ((j : ℕ) × ((shows_from s other u j ≡ shows_from s find t (suc k)) × Related (after s find t (suc k)) (after s other u j)))

    one_step : (t u : State) → I t → J u → Good (step s find t) (step s other u) → Goal t u
    one_step t u i j g =
        let i' = follow.keeps t i in let j' = follow.keeps_other u j in let h = g.holds i' j' in
        (0, (1, (ap (λ e. events_of e ++ []) h.0, (h.1, (i', j')))))

    on_block : (w : World) (c : Classes) (x y : Block) (r r' : List Waiting) (script : List Move) → Matches w c x y → Waits Calls r r'
        → I (On w c (stacked x r) script) → J (On w c (stacked y r') script) → Goal (On w c (stacked x r) script) (On w c (stacked y r') script)
    on_block w c x y r r' script (Stay k j w1 c1 x1 y1 g g' h) ws i i' =
        let t = On w c (stacked x r) script in let u = On w c (stacked y r') script in
        let core : Core (after s find t (suc k)) (after s other u j) =
        subst (λ z. Core z (after s other u j)) (sym (g.ends r script))
        (subst (λ z. Core (On w1 c1 (stacked x1 r) script) z) (sym (g'.ends r' script)) (BothOn w1 c1 (stacked x1 r) (stacked y1 r') script (Tops x1 y1 r r' h ws))) in
        (k, (j, (g'.silent r' script ∙ sym (g.silent r script), (core, (kept_after s find I follow.keeps (suc k) t i, kept_after s other J follow.keeps_other j u i')))))
    on_block w c x y r r' script (Meet k j w1 c1 x1 y1 g g' l) ws i i' =
        let t = On w c (stacked x r) script in let u = On w c (stacked y r') script in
        let e : after s find t (suc k) ≡ (step s find (On w1 c1 (stacked x1 r) script)).0 = after_suc s find k t ∙ ap (λ z. (step s find z).0) (g.ends r script) in
        let e' : after s other u (suc j) ≡ (step s other (On w1 c1 (stacked y1 r') script)).0 = after_suc s other j u ∙ ap (λ z. (step s other z).0) (g'.ends r' script) in
        let v : shows_from s find t (suc k) ≡ events_of (step s find (On w1 c1 (stacked x1 r) script)).1 =
        shows_suc s find k t ∙ ap (λ z. z ++ events_of (step s find (after s find t k)).1) (g.silent r script) ∙ ap (λ z. events_of (step s find z).1) (g.ends r script) in
        let v' : shows_from s other u (suc j) ≡ events_of (step s other (On w1 c1 (stacked y1 r') script)).1 =
        shows_suc s other j u ∙ ap (λ z. z ++ events_of (step s other (after s other u j)).1) (g'.silent r' script) ∙ ap (λ z. events_of (step s other z).1) (g'.ends r' script) in
        let a = kept_after s find I follow.keeps (suc k) t i in let a' = kept_after s other J follow.keeps_other (suc j) u i' in
        let h = (good_happens w1 c1 x1 y1 (now s find w1 c1 x1.top) (now s other w1 c1 y1.top) r r' script l ws).holds (subst I e a) (subst J e' a') in
        let core : Core (after s find t (suc k)) (after s other u (suc j)) =
        subst (λ z. Core z (after s other u (suc j))) (sym e) (subst (λ z. Core (step s find (On w1 c1 (stacked x1 r) script)).0 z) (sym e') h.1) in
        (k, (suc j, (v' ∙ ap events_of h.0 ∙ sym v, (core, (a, a')))))

    on_stacks : (w : World) (c : Classes) (stack stack' : List Waiting) (script : List Move) → Stacks w c stack stack' → I (On w c stack script) → J (On w c stack' script)
        → Goal (On w c stack script) (On w c stack' script)
    on_stacks w c _ _ script Bottom i j = one_step (On w c [] script) (On w c [] script) i j good_end
    on_stacks w c _ _ script (Tops x y r r' h ws) i j = on_block w c x y r r' script (follow.steps w c x y r r' script h i j) ws i j
    on_stacks w c _ _ script (Initialises t a r r' ws) i j = one_step (On w c (Initialiser t a ∷ r) script) (On w c (Initialiser t a ∷ r') script) i j (good_initialises w c t a r r' script ws)
    on_stacks w c _ _ script (Finishes t r r' ws) i j = one_step (On w c (Ending t ∷ r) script) (On w c (Ending t ∷ r') script) i j (good_resumes w (put_status t Done c) r r' script ws)
    on_stacks w c _ _ script (Goes_out owes pending r r' ws) i j = one_step (On w c (Outside owes pending ∷ r) script) (On w c (Outside owes pending ∷ r') script) i j (good_turn owes r r' ws w c pending script)

    on_core : (t u : State) → Core t u → I t → J u → Goal t u
    on_core _ _ BothEnded i j = one_step Ended Ended i j good_end
    on_core _ _ (BothOn w c stack stack' script h) i j = on_stacks w c stack stack' script h i j

    -- the law of blocks: related states follow each other
    pub blocks_follow : Follows s find s other Related
    blocks_follow = record { on = λ t u h. on_core t u h.0 h.1.0 h.1.1 }

    -- ---- in lockstep

    module _ (once : AtOnce) where
      good_stacks : (w : World) (c : Classes) (stack stack' : List Waiting) (script : List Move) → Stacks w c stack stack' → I (On w c stack script) → J (On w c stack' script)
          → Good (step s find (On w c stack script)) (step s other (On w c stack' script))
      good_stacks w c _ _ script Bottom i j = good_end
      good_stacks w c _ _ script (Tops x y r r' h ws) i j = good_happens w c x y (now s find w c x.top) (now s other w c y.top) r r' script (once w c x y r r' script h i j) ws
      good_stacks w c _ _ script (Initialises t a r r' ws) i j = good_initialises w c t a r r' script ws
      good_stacks w c _ _ script (Finishes t r r' ws) i j = good_resumes w (put_status t Done c) r r' script ws
      good_stacks w c _ _ script (Goes_out owes pending r r' ws) i j = good_turn owes r r' ws w c pending script

      good_step : (t u : State) → Core t u → I t → J u → Good (step s find t) (step s other u)
      good_step _ _ BothEnded i j = good_end
      good_step _ _ (BothOn w c stack stack' script h) i j = good_stacks w c stack stack' script h i j

      -- what goes on at once shows the same within each number of steps
      pub same_events : (n : ℕ) (t u : State) → Related t u → shows_from s other u n ≡ shows_from s find t n
      same_events zero t u h = refl
      same_events (suc n) t u h =
          let i = follow.keeps t h.1.0 in let j = follow.keeps_other u h.1.1 in
          let g = (good_step t u h.0 h.1.0 h.1.1).holds i j in
          ap₂ (λ e l. events_of e ++ l) g.0 (same_events n (step s find t).0 (step s other u).0 (g.1, (i, j)))
