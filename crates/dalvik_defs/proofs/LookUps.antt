-- Programs that take the same steps, in the states that a run reaches: what differs is never asked for.
use Rattle.std.proofs.Common.{◌≡◌, ℕ, zero, suc, List, [], ◌++◌, refl, sym, ap, ◌∙◌, subst}
use Rattle.dalvik_defs.specs.Face.{Face, Bodies, face_of, bodies_of}
use Rattle.dalvik_defs.specs.Outer.{Outer}
use Rattle.dalvik_defs.specs.State.{State, opening}
use Rattle.dalvik_defs.specs.Happens.{Setting}
use Rattle.dalvik_defs.specs.Step.{step, events_of, after, shows_from, setting_of}
use Rattle.dalvik_defs.specs.Shown.{Fit, SameShown}
use Rattle.dalvik_defs.specs.declared.script.Move.{Move}
use Rattle.dalvik_defs.specs.declared.program.NamedProgram.{NamedProgram}
use Rattle.dalvik_defs.specs.declared.tables.Framework.{Framework}
use Rattle.dalvik_defs.specs.declared.tables.Floats.{Floats}
use Rattle.dalvik_defs.proofs.Simulation.{Follows, Shows, follows_shows, same_by_runs}

-- in the states of a predicate both take the same step, and the step keeps the predicate
pub record StepsAlike (s : Setting) (find : Bodies) (s' : Setting) (other : Bodies) (I : State → Type 0) : Type 0 where
  pub same : (t : State) → I t → step s find t ≡ step s' other t
  pub keeps : (t : State) → I t → I (step s find t).0

module _ (s : Setting) (find : Bodies) (s' : Setting) (other : Bodies) (I : State → Type 0) (alike : StepsAlike s find s' other I) where
  abbrev There : State → State → Type 0
  There t u = (t ≡ u) × I t

  abbrev Back : State → State → Type 0
  Back u t = (t ≡ u) × I t

  there : Follows s find s' other There
  there = record {
    on = λ t u h. subst (λ x. (k : ℕ) × ((j : ℕ) × ((shows_from s' other x j ≡ shows_from s find t (suc k)) × There (after s find t (suc k)) (after s' other x j)))) h.0
        (0, (1, (ap (λ x. events_of x.1 ++ []) (sym (alike.same t h.1)), (ap (λ x. x.0) (alike.same t h.1), alike.keeps t h.1))));
  }

  back : Follows s' other s find Back
  back = record {
    on = λ u t h. subst (λ x. (k : ℕ) × ((j : ℕ) × ((shows_from s find t j ≡ shows_from s' other x (suc k)) × Back (after s' other x (suc k)) (after s find t j)))) h.0
        (0, (1, (ap (λ x. events_of x.1 ++ []) (alike.same t h.1), (ap (λ x. x.0) (alike.same t h.1), alike.keeps t h.1))));
  }

  pub alike_shows : (t : State) → I t → Shows s find s' other t t
  alike_shows t i = follows_shows s find s' other There there t t (refl, i)

  pub alike_shown : (t : State) → I t → Shows s' other s find t t
  alike_shown t i = follows_shows s' other s find Back back t t (refl, i)

-- for programs
pub same_by_steps : (p q : NamedProgram) (o : Outer) (I : Framework → Floats → List Move → State → Type 0)
    → ((f : Framework) (a : Floats) (script : List Move) → Fit p o f script → StepsAlike (setting_of p o f a) (bodies_of p) (setting_of q o f a) (bodies_of q) (I f a script))
    → ((f : Framework) (a : Floats) (script : List Move) → Fit p o f script → I f a script (opening script)) → SameShown p q o
same_by_steps p q o I alike start = same_by_runs p q o
    (λ f a script h. alike_shows (setting_of p o f a) (bodies_of p) (setting_of q o f a) (bodies_of q) (I f a script) (alike f a script h) (opening script) (start f a script h))
    (λ f a script h. alike_shown (setting_of p o f a) (bodies_of p) (setting_of q o f a) (bodies_of q) (I f a script) (alike f a script h) (opening script) (start f a script h))

-- programs with one face and the same bodies
same_setting : (p q : NamedProgram) (o : Outer) (f : Framework) (a : Floats) → face_of p f ≡ face_of q f → setting_of p o f a ≡ setting_of q o f a
same_setting p q o f a e = ap (λ x. record { face = x; outer = o; floats = a }) e

same_step : (s s' : Setting) (find other : Bodies) → s ≡ s' → find ≡ other → (t : State) → step s find t ≡ step s' other t
same_step s s' find other e g t = ap (λ x. step x find t) e ∙ ap (λ x. step s' x t) g

pub same_by_look_ups : (p q : NamedProgram) (o : Outer) → ((f : Framework) → face_of p f ≡ face_of q f) → bodies_of p ≡ bodies_of q → SameShown p q o
same_by_look_ups p q o face bodies = same_by_steps p q o (λ f a script t. Unit {0})
    (λ f a script h. record {
      same = λ t i. same_step (setting_of p o f a) (setting_of q o f a) (bodies_of p) (bodies_of q) (same_setting p q o f a (face f)) bodies t;
      keeps = λ t i. tt;
    })
    (λ f a script h. tt)
