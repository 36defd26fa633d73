-- Where a run of a program comes to forms that are folded, both programs show the same in it.
use Rattle.std.proofs.Common.{◌≡◌, ℕ, Bool, List, [], ◌∷◌, Some, None, sym, ap, ◌∙◌, subst, append-nil}
use Rattle.dalvik_defs.specs.Names.{Text}
use Rattle.dalvik_defs.specs.Face.{Bodies, face_of, bodies_of}
use Rattle.dalvik_defs.specs.Outer.{Outer}
use Rattle.dalvik_defs.specs.State.{World, Classes, State, opening}
use Rattle.dalvik_defs.specs.declared.state.Waiting.TheVariants.{Outside}
use Rattle.dalvik_defs.specs.Happens.{Setting}
use Rattle.dalvik_defs.specs.Step.{setting_of, shows_from}
use Rattle.dalvik_defs.specs.Quiet.{calm_opening}
use Rattle.dalvik_defs.specs.declared.names.MethodKey.{MethodKey}
use Rattle.dalvik_defs.specs.declared.script.Move.{Move}
use Rattle.dalvik_defs.specs.declared.program.NamedBody.{NamedBody}
use Rattle.dalvik_defs.specs.declared.program.NamedProgram.{NamedProgram}
use Rattle.dalvik_defs.specs.declared.tables.Framework.{Framework}
use Rattle.dalvik_defs.specs.declared.tables.Floats.{Floats}
use Rattle.dalvik_defs.proofs.Simulation.{Shows, shows_on}
use Rattle.dalvik_defs.proofs.Calm.{IsCalm, calm_shows, calm_shown}
use Rattle.dalvik_defs.proofs.Frames.{Above}
use Rattle.dalvik_defs.proofs.Blocks.{Block, Core, Related, BothOn, Goes_out, WaitsBottom, same_events}
use Rattle.dalvik_defs.proofs.Singles.{SingleTop, SingleWait, singles_follow, singles_once}
use Rattle.form_laws.specs.Rewriting.{Claims, IsInPlace}
use Rattle.form_laws.specs.Solid.{IsSolid}
use Rattle.form_laws.proofs.Rewriting.{Tops, Awaits, J, follow, once}
use Rattle.form_laws.specs.Known.{IsFolded, IsFoldedRun, SameRun}
use Rattle.form_laws.proofs.Folding.{fits, entry}

module _ (p q : NamedProgram) (o : Outer) (f : Framework) (a : Floats) (script : List Move) (calm : Text → Bool) (I : State → Type 0) where
  abbrev s : Setting
  s = setting_of p o f a

  abbrev find : Bodies
  find = bodies_of p

  abbrev other : Bodies
  other = bodies_of q

  abbrev R : Claims
  R k n o x = x ≡ o

  module _ (solid : (k : MethodKey) (b : NamedBody) → find k ≡ Some b → IsSolid b) (run : IsFoldedRun p q o f a script calm I) where
    in_place : IsInPlace s find other R I
    in_place = record {
      none = run.none;
      some = run.some;
      ins = λ k b d e e'. (run.bodies k b d e e').ins;
      regions = λ k b d e e'. (run.bodies k b d e e').regions;
      fields = λ k b e. (solid k b e).fields;
      ends = λ k b d n e e' x. (run.bodies k b d e e').ends n x;
      forms = λ k b d n g e e' r x. let z = run.bodies k b d e e' in let w = z.forms n g x r in
          (w.0, (w.1.0, fits s find other I k b d e e' z (solid k b e) n g w.0 x w.1.1));
      entry = λ k b d vs o1 y e e' l z. entry s find other I k b d e e' (run.bodies k b d e e') (solid k b e) vs o1 y z;
      keeps = run.keeps;
    }

    abbrev F : World → Classes → Block → Block → Type 0
    F = SingleTop s find other (Tops s find other R I) (Awaits s find other R I) I (J s find other R I)

    abbrev W : Above → Block → Block → Type 0
    W = SingleWait s find other (Tops s find other R I) (Awaits s find other R I) I (J s find other R I)

    opened : Core s find other F W I (J s find other R I) (calm_opening calm script) (calm_opening calm script)
    opened = BothOn _ _ (Outside None None ∷ []) (Outside None None ∷ []) script (Goes_out None None [] [] (WaitsBottom _))

    events : (n : ℕ) → shows_from s other (calm_opening calm script) n ≡ shows_from s find (calm_opening calm script) n
    events n = same_events s find other F W I (J s find other R I)
        (singles_follow s find other (Tops s find other R I) (Awaits s find other R I) I (J s find other R I) (follow s find other R I in_place))
        (singles_once s find other (Tops s find other R I) (Awaits s find other R I) I (J s find other R I) (once s find other R I in_place))
        n (calm_opening calm script) (calm_opening calm script) (opened, (run.begins, tt))

    module _ (is : IsCalm s calm) where
      abbrev t : State
      t = opening script

      abbrev u : State
      u = calm_opening calm script

      along : Shows s find s other t t
      along = shows_on s s s find other other t u t
          (shows_on s s s find find other t u u (calm_shows s find calm is script) (record { within = λ n. (n, ([], append-nil (shows_from s find u n) ∙ sym (events n))) }))
          (calm_shown s other calm is script)

      across : Shows s other s find t t
      across = shows_on s s s other find find t u t
          (shows_on s s s other other find t u u (calm_shows s other calm is script) (record { within = λ n. (n, ([], append-nil (shows_from s other u n) ∙ events n)) }))
          (calm_shown s find calm is script)

      -- a program whose bodies are folded by what a run reaches shows the same in that run
      pub folded_run : face_of p f ≡ face_of q f → SameRun p q o f a script
      folded_run face = record {
        there = (subst (λ x. Shows s find x other t t) same along).within;
        back = (subst (λ x. Shows x other s find t t) same across).within;
      }
        where
          same : s ≡ setting_of q o f a
          same = ap (λ x. record { face = x; outer = o; floats = a }) face
