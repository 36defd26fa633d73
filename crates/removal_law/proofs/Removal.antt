-- The law of removal: what is left of a program shows the same. Both machines take equal steps from the state in which the
-- idle interfaces are done, and it shows nothing that they are.
use Rattle.std.proofs.Common.{◌≡◌, ℕ, true, List, [], sym, ◌∙◌, subst, append-nil}
use Rattle.std.specs.List.{list_all}
use Rattle.dalvik_defs.specs.Face.{face_of, bodies_of}
use Rattle.dalvik_defs.specs.Outer.{Outer}
use Rattle.dalvik_defs.specs.Quiet.{calm_opening}
use Rattle.dalvik_defs.specs.Step.{shows_from, setting_of}
use Rattle.dalvik_defs.specs.Shown.{fit_move, Fit, SameShown}
use Rattle.dalvik_defs.specs.declared.script.Move.{Move}
use Rattle.dalvik_defs.specs.declared.program.NamedProgram.{NamedProgram}
use Rattle.dalvik_defs.specs.declared.tables.Framework.{Framework}
use Rattle.dalvik_defs.specs.declared.tables.Floats.{Floats}
use Rattle.dalvik_defs.proofs.Simulation.{Shows, shows_on, same_by_runs}
use Rattle.dalvik_defs.proofs.Calm.{Each as EachCalm, IsDeep, IsCalm, calm_shows, calm_shown}
use Rattle.pass_defs.specs.Live.{Family, Conditions, IsClosedFamily}
use Rattle.removal_law.specs.Left.{left_of}
use Rattle.removal_law.specs.Reach.{OkType, MadeType, LiveMethod, Says, is_idle, LeftAgrees, IsRegular, IsSoundCode, IsSoundTable, ReachedAt}
use Rattle.removal_law.proofs.Fits.{fit_names_none}
use Rattle.removal_law.proofs.Firsts.{idle_interface, idle_first, idle_left}
use Rattle.removal_law.proofs.Steps.{calm_alike}
use Rattle.removal_law.proofs.Faces.{agrees}
use Rattle.removal_law.proofs.Trivial.{AnyType, AnyMethod, AnyForm, AnyPlace, itself}

pub faces_agree : (p : NamedProgram) (o : Outer) (k : Conditions) (s : Family) → IsClosedFamily p o k s → IsRegular p → IsSoundCode p → IsSoundTable p o
    → (f : Framework) (script : List Move) → Fit p o f script → LeftAgrees p o s f
faces_agree p o k s closed regular code table f script fit = agrees p o k s f closed regular code table (fit_names_none p o f script fit) fit.classes

-- equal steps, where the idle interfaces are done
pub equal_events : (p : NamedProgram) (o : Outer) (s : Family) (f : Framework) → LeftAgrees p o s f → (a : Floats) (script : List Move) (n : ℕ) → list_all (fit_move p o) script ≡ true
    → shows_from (setting_of p o f a) (bodies_of p) (calm_opening (is_idle p) script) n ≡ shows_from (setting_of (left_of s p) o f a) (bodies_of (left_of s p)) (calm_opening (is_idle p) script) n
equal_events p o s f agree a script n m =
    calm_alike (OkType p s) (MadeType p o s) (LiveMethod p s) (Says p s) (ReachedAt p) (is_idle p) p o (face_of p f) _ (bodies_of p) (bodies_of (left_of s p)) agree a script n m
    ∙ sym (calm_alike AnyType AnyType AnyMethod AnyForm AnyPlace (is_idle p) p o (face_of (left_of s p) f) _ (bodies_of (left_of s p)) (bodies_of (left_of s p))
    (itself (is_idle p) p o (face_of (left_of s p) f) (bodies_of (left_of s p))) a script n m)

module _ (p : NamedProgram) (o : Outer) (k : Conditions) (s : Family) (closed : IsClosedFamily p o k s) (regular : IsRegular p) (f : Framework) (a : Floats) where
  abbrev q : NamedProgram
  q = left_of s p

  -- the idle interfaces are calm in both
  pub calm_before : IsCalm (setting_of p o f a) (is_idle p)
  calm_before = record {
    initialiser = λ t e. (idle_interface p s closed.above regular t e).1.1;
    grounded = λ t e. (1, subst (EachCalm (λ u. (is_idle p u ≡ true) × IsDeep (setting_of p o f a) (is_idle p) 0 u)) (sym (idle_first p s closed.above regular t e)) tt);
  }

  pub calm_behind : IsCalm (setting_of q o f a) (is_idle p)
  calm_behind = record {
    initialiser = λ t e. (idle_left p s closed.above regular t e).0;
    grounded = λ t e. (1, subst (EachCalm (λ u. (is_idle p u ≡ true) × IsDeep (setting_of q o f a) (is_idle p) 0 u)) (sym (idle_left p s closed.above regular t e).1) tt);
  }

pub removal : (p : NamedProgram) (o : Outer) (k : Conditions) (s : Family) → IsClosedFamily p o k s → IsRegular p → IsSoundCode p → IsSoundTable p o → SameShown p (left_of s p) o
removal p o k s closed regular code table = same_by_runs p (left_of s p) o
    (λ f a script fit. shows_on _ _ _ _ _ _ _ _ _ (calm_shows (setting_of p o f a) (bodies_of p) (is_idle p) (calm_before p o k s closed regular f a) script)
    (shows_on _ _ _ _ _ _ _ _ _ (there f a script fit) (calm_shown (setting_of (left_of s p) o f a) (bodies_of (left_of s p)) (is_idle p) (calm_behind p o k s closed regular f a) script)))
    (λ f a script fit. shows_on _ _ _ _ _ _ _ _ _ (calm_shows (setting_of (left_of s p) o f a) (bodies_of (left_of s p)) (is_idle p) (calm_behind p o k s closed regular f a) script)
    (shows_on _ _ _ _ _ _ _ _ _ (back f a script fit) (calm_shown (setting_of p o f a) (bodies_of p) (is_idle p) (calm_before p o k s closed regular f a) script)))
  where
    equal : (f : Framework) (a : Floats) (script : List Move) → Fit p o f script → (n : ℕ)
        → shows_from (setting_of p o f a) (bodies_of p) (calm_opening (is_idle p) script) n ≡ shows_from (setting_of (left_of s p) o f a) (bodies_of (left_of s p)) (calm_opening (is_idle p) script) n
    equal f a script fit n = equal_events p o s f (faces_agree p o k s closed regular code table f script fit) a script n fit.values

    there : (f : Framework) (a : Floats) (script : List Move) → Fit p o f script
        → Shows (setting_of p o f a) (bodies_of p) (setting_of (left_of s p) o f a) (bodies_of (left_of s p)) (calm_opening (is_idle p) script) (calm_opening (is_idle p) script)
    there f a script fit = record { within = λ n. (n, ([], append-nil (shows_from (setting_of p o f a) (bodies_of p) (calm_opening (is_idle p) script) n) ∙ equal f a script fit n)) }

    back : (f : Framework) (a : Floats) (script : List Move) → Fit p o f script
        → Shows (setting_of (left_of s p) o f a) (bodies_of (left_of s p)) (setting_of p o f a) (bodies_of p) (calm_opening (is_idle p) script) (calm_opening (is_idle p) script)
    back f a script fit = record { within = λ n. (n, ([], append-nil (shows_from (setting_of (left_of s p) o f a) (bodies_of (left_of s p)) (calm_opening (is_idle p) script) n) ∙ sym (equal f a script fit n))) }
