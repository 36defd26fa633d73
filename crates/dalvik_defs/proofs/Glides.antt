-- Steps in a frame that show nothing: none, one that stays, one that is caught, some and then some, and a whole call.
use Rattle.std.proofs.Common.{◌≡◌, ℕ, suc, Bool, true, false, List, [], ◌∷◌, ◌++◌, length, Option, Some, None, refl, ap, ◌∙◌, eq-eqb}
use Rattle.dalvik_defs.specs.Face.{Bodies}
use Rattle.dalvik_defs.specs.State.{World, Classes, Value, Frame, Waiting, Method, State, On, Ended, quiet}
use Rattle.dalvik_defs.specs.Outcome.{Stays, Enters, Ends, Raises}
use Rattle.dalvik_defs.specs.Stack.{entry_frame, enters_body, back, lands, lands_or, unwinds}
use Rattle.dalvik_defs.specs.Happens.{Setting, happens}
use Rattle.dalvik_defs.specs.Step.{step, events_of, after, shows_from}
use Rattle.dalvik_defs.specs.declared.names.MethodKey.{MethodKey}
use Rattle.dalvik_defs.specs.declared.program.NamedBody.{NamedBody}
use Rattle.dalvik_defs.specs.declared.script.Move.{Move}
use Rattle.dalvik_defs.proofs.Simulation.{joined, after_joined, shows_joined}
use Rattle.dalvik_defs.proofs.Frames.{Glides, now}

module _ (s : Setting) (find : Bodies) where
  pub glide_none : (w : World) (c : Classes) (f : Frame) → Glides s find w c f 0 w c f
  glide_none w c f = record { ends = λ rest script. refl; silent = λ rest script. refl }

  -- a form that stays and shows nothing
  pub glide_stay : (w : World) (c : Classes) (f : Frame) (w1 : World) (f1 : Frame) → now s find w c f ≡ Stays w1 f1 None → Glides s find w c f 1 w1 c f1
  glide_stay w c f w1 f1 h = record {
    ends = λ rest script. ap (λ o. (happens s find o w c f rest script).0) h;
    silent = λ rest script. ap (λ o. events_of (happens s find o w c f rest script).1 ++ []) h;
  }

  -- an object that is thrown and caught in the frame
  pub glide_caught : (w : World) (c : Classes) (f : Frame) (w1 : World) (v : Value) (g : Frame) → now s find w c f ≡ Raises w1 v → lands s.face find w1 f v ≡ Some g → Glides s find w c f 1 w1 c g
  glide_caught w c f w1 v g h l = record {
    ends = λ rest script. ap (λ o. (happens s find o w c f rest script).0) h
        ∙ ap (λ o. (lands_or w1 c rest script o (unwinds s.face find w1 c v rest script)).0) l;
    silent = λ rest script. ap (λ o. events_of (happens s find o w c f rest script).1 ++ []) h
        ∙ ap (λ o. events_of (lands_or w1 c rest script o (unwinds s.face find w1 c v rest script)).1 ++ []) l;
  }

  pub glide_on : (w : World) (c : Classes) (f : Frame) (n : ℕ) (w1 : World) (c1 : Classes) (f1 : Frame) (m : ℕ) (w2 : World) (c2 : Classes) (f2 : Frame)
      → Glides s find w c f n w1 c1 f1 → Glides s find w1 c1 f1 m w2 c2 f2 → Glides s find w c f (joined n m) w2 c2 f2
  glide_on w c f n w1 c1 f1 m w2 c2 f2 a b = record {
    ends = λ rest script. after_joined s find n m (On w c (Method f ∷ rest) script) ∙ ap (λ t. after s find t m) (a.ends rest script) ∙ b.ends rest script;
    silent = λ rest script. shows_joined s find n m (On w c (Method f ∷ rest) script)
        ∙ ap (λ l. l ++ shows_from s find (after s find (On w c (Method f ∷ rest) script) n) m) (a.silent rest script)
        ∙ ap (λ t. shows_from s find t m) (a.ends rest script) ∙ b.silent rest script;
  }

  -- a body that takes as many values is entered
  enters_taken : (w : World) (c : Classes) (k : MethodKey) (vs : List Value) (b : NamedBody) (rest : List Waiting) (script : List Move) → length vs ≡ b.ins
      → enters_body (Some b) w c k vs rest script ≡ On w c (Method (entry_frame k vs b) ∷ rest) script
  enters_taken w c k vs b rest script e = ap (λ q. elim q as (λ q. State) [ true ↦ On w c (Method (entry_frame k vs b) ∷ rest) script | false ↦ Ended ]) (eq-eqb (length vs) b.ins e)

  -- a whole call that shows nothing and ends with a result
  pub glide_call : (w : World) (c : Classes) (f : Frame) (k : MethodKey) (vs : List Value) (b : NamedBody) (n : ℕ) (w1 : World) (c1 : Classes) (g : Frame) (v : Option Value)
      → now s find w c f ≡ Enters k vs → find k ≡ Some b → length vs ≡ b.ins → Glides s find w c (entry_frame k vs b) n w1 c1 g → now s find w1 c1 g ≡ Ends v
      → Glides s find w c f (suc (joined n 1)) w1 c1 (back find f v)
  glide_call w c f k vs b n w1 c1 g v h e l a z =
      let first : (rest : List Waiting) (script : List Move) → (step s find (On w c (Method f ∷ rest) script)) ≡ quiet (On w c (Method (entry_frame k vs b) ∷ Method f ∷ rest) script) =
      (λ rest script. ap (λ o. happens s find o w c f rest script) h ∙ ap (λ o. quiet (enters_body o w c k vs (Method f ∷ rest) script)) e
      ∙ ap quiet (enters_taken w c k vs b (Method f ∷ rest) script l)) in
      let last : (rest : List Waiting) (script : List Move) → (step s find (On w1 c1 (Method g ∷ Method f ∷ rest) script)) ≡ quiet (On w1 c1 (Method (back find f v) ∷ rest) script) =
      (λ rest script. ap (λ o. happens s find o w1 c1 g (Method f ∷ rest) script) z) in
      record {
        ends = λ rest script. ap (λ x. after s find x.0 (joined n 1)) (first rest script)
            ∙ after_joined s find n 1 (On w c (Method (entry_frame k vs b) ∷ Method f ∷ rest) script)
            ∙ ap (λ t. after s find t 1) (a.ends (Method f ∷ rest) script) ∙ ap (λ x. x.0) (last rest script);
        silent = λ rest script. ap (λ x. events_of x.1 ++ shows_from s find x.0 (joined n 1)) (first rest script)
            ∙ shows_joined s find n 1 (On w c (Method (entry_frame k vs b) ∷ Method f ∷ rest) script)
            ∙ ap (λ l. l ++ shows_from s find (after s find (On w c (Method (entry_frame k vs b) ∷ Method f ∷ rest) script) n) 1) (a.silent (Method f ∷ rest) script)
            ∙ ap (λ t. shows_from s find t 1) (a.ends (Method f ∷ rest) script) ∙ ap (λ x. events_of x.1 ++ []) (last rest script);
      }
