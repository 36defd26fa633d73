-- The law of blocks for programs: two programs with one face show the same where blocks of the one and of the other are
-- related as the law asks, each way, in runs that begin with the calm classes done.
use Rattle.std.proofs.Common.{◌≡◌, ℕ, Bool, List, [], ◌∷◌, None, sym, ap, ◌∙◌, subst, append-nil}
use Rattle.dalvik_defs.specs.Names.{Text}
use Rattle.dalvik_defs.specs.Face.{Bodies, face_of, bodies_of}
use Rattle.dalvik_defs.specs.Outer.{Outer}
use Rattle.dalvik_defs.specs.State.{World, Classes, Outside, State, opening}
use Rattle.dalvik_defs.specs.Happens.{Setting}
use Rattle.dalvik_defs.specs.Step.{setting_of, shows_from}
use Rattle.dalvik_defs.specs.Shown.{Fit, SameShown}
use Rattle.dalvik_defs.specs.declared.script.Move.{Move}
use Rattle.dalvik_defs.specs.declared.program.NamedProgram.{NamedProgram}
use Rattle.dalvik_defs.specs.declared.tables.Framework.{Framework}
use Rattle.dalvik_defs.specs.declared.tables.Floats.{Floats}
use Rattle.dalvik_defs.proofs.Simulation.{Shows, follows_shows, shows_on, same_by_runs}
use Rattle.dalvik_defs.specs.Quiet.{calm_opening}
use Rattle.dalvik_defs.proofs.Calm.{IsCalm, calm_shows, calm_shown}
use Rattle.dalvik_defs.proofs.Frames.{Above}
use Rattle.dalvik_defs.proofs.Blocks.{Block, BlocksFollow, Core, Related, BothOn, Goes_out, WaitsBottom, blocks_follow, AtOnce, same_events}

calm_related : (s : Setting) (find other : Bodies) (calm : Text → Bool) (F : World → Classes → Block → Block → Type 0) (W : Above → Block → Block → Type 0) (I J : State → Type 0) (script : List Move)
    → Core s find other F W I J (calm_opening calm script) (calm_opening calm script)
calm_related s find other calm F W I J script = BothOn _ _ (Outside None None ∷ []) (Outside None None ∷ []) script (Goes_out None None [] [] (WaitsBottom _))

-- one way, for one framework, float table and script
pub blocks_shows : (s : Setting) (find other : Bodies) (calm : Text → Bool) (F : World → Classes → Block → Block → Type 0) (W : Above → Block → Block → Type 0) (I J : State → Type 0) (script : List Move)
    → IsCalm s calm → BlocksFollow s find other F W I J → I (calm_opening calm script) → J (calm_opening calm script) → Shows s find s other (opening script) (opening script)
blocks_shows s find other calm F W I J script is follow i j =
    let middle : Shows s find s other (calm_opening calm script) (calm_opening calm script) =
    follows_shows s find s other (Related s find other F W I J) (blocks_follow s find other F W I J follow) (calm_opening calm script) (calm_opening calm script)
    (calm_related s find other calm F W I J script, (i, j)) in
    shows_on s s s find other other (opening script) (calm_opening calm script) (opening script)
    (shows_on s s s find find other (opening script) (calm_opening calm script) (calm_opening calm script) (calm_shows s find calm is script) middle)
    (calm_shown s other calm is script)

pub blocks_shown : (p q : NamedProgram) (o : Outer) (calm : Framework → Text → Bool)
    (F G : Framework → Floats → List Move → World → Classes → Block → Block → Type 0) (V W : Framework → Floats → List Move → Above → Block → Block → Type 0) (I J : Framework → Floats → List Move → State → Type 0)
    → ((f : Framework) → face_of p f ≡ face_of q f)
    → ((f : Framework) (a : Floats) → IsCalm (setting_of p o f a) (calm f))
    → ((f : Framework) (a : Floats) (script : List Move) → Fit p o f script → BlocksFollow (setting_of p o f a) (bodies_of p) (bodies_of q) (F f a script) (V f a script) (I f a script) (J f a script))
    → ((f : Framework) (a : Floats) (script : List Move) → Fit p o f script → BlocksFollow (setting_of p o f a) (bodies_of q) (bodies_of p) (G f a script) (W f a script) (J f a script) (I f a script))
    → ((f : Framework) (a : Floats) (script : List Move) → Fit p o f script → I f a script (calm_opening (calm f) script) × J f a script (calm_opening (calm f) script))
    → SameShown p q o
blocks_shown p q o calm F G V W I J face is there back start =
    let same : (f : Framework) (a : Floats) → setting_of p o f a ≡ setting_of q o f a = (λ f a. ap (λ x. record { face = x; outer = o; floats = a }) (face f)) in
    same_by_runs p q o
    (λ f a script h. subst (λ x. Shows (setting_of p o f a) (bodies_of p) x (bodies_of q) (opening script) (opening script)) (same f a)
    (blocks_shows (setting_of p o f a) (bodies_of p) (bodies_of q) (calm f) (F f a script) (V f a script) (I f a script) (J f a script) script (is f a) (there f a script h) (start f a script h).0 (start f a script h).1))
    (λ f a script h. subst (λ x. Shows x (bodies_of q) (setting_of p o f a) (bodies_of p) (opening script) (opening script)) (same f a)
    (blocks_shows (setting_of p o f a) (bodies_of q) (bodies_of p) (calm f) (G f a script) (W f a script) (J f a script) (I f a script) script (is f a) (back f a script h) (start f a script h).1 (start f a script h).0))

-- what goes on at once shows the same, both ways
pub blocks_once_shown : (p q : NamedProgram) (o : Outer) (calm : Framework → Text → Bool)
    (F : Framework → Floats → List Move → World → Classes → Block → Block → Type 0) (W : Framework → Floats → List Move → Above → Block → Block → Type 0) (I J : Framework → Floats → List Move → State → Type 0)
    → ((f : Framework) → face_of p f ≡ face_of q f)
    → ((f : Framework) (a : Floats) → IsCalm (setting_of p o f a) (calm f))
    → ((f : Framework) (a : Floats) (script : List Move) → Fit p o f script → BlocksFollow (setting_of p o f a) (bodies_of p) (bodies_of q) (F f a script) (W f a script) (I f a script) (J f a script))
    → ((f : Framework) (a : Floats) (script : List Move) → Fit p o f script → AtOnce (setting_of p o f a) (bodies_of p) (bodies_of q) (F f a script) (W f a script) (I f a script) (J f a script))
    → ((f : Framework) (a : Floats) (script : List Move) → Fit p o f script → I f a script (calm_opening (calm f) script) × J f a script (calm_opening (calm f) script))
    → SameShown p q o
blocks_once_shown p q o calm F W I J face is follow once start =
    let same : (f : Framework) (a : Floats) → setting_of p o f a ≡ setting_of q o f a = (λ f a. ap (λ x. record { face = x; outer = o; floats = a }) (face f)) in
    let events : (f : Framework) (a : Floats) (script : List Move) → Fit p o f script → (n : ℕ)
    → shows_from (setting_of p o f a) (bodies_of q) (calm_opening (calm f) script) n ≡ shows_from (setting_of p o f a) (bodies_of p) (calm_opening (calm f) script) n =
    (λ f a script h n. same_events (setting_of p o f a) (bodies_of p) (bodies_of q) (F f a script) (W f a script) (I f a script) (J f a script) (follow f a script h) (once f a script h) n
    (calm_opening (calm f) script) (calm_opening (calm f) script) (calm_related (setting_of p o f a) (bodies_of p) (bodies_of q) (calm f) (F f a script) (W f a script) (I f a script) (J f a script) script, start f a script h)) in
    same_by_runs p q o
    (λ f a script h. let s = setting_of p o f a in let t = opening script in let u = calm_opening (calm f) script in
    subst (λ x. Shows s (bodies_of p) x (bodies_of q) t t) (same f a)
    (shows_on s s s (bodies_of p) (bodies_of q) (bodies_of q) t u t
    (shows_on s s s (bodies_of p) (bodies_of p) (bodies_of q) t u u (calm_shows s (bodies_of p) (calm f) (is f a) script)
    (record { within = λ n. (n, ([], append-nil (shows_from s (bodies_of p) u n) ∙ sym (events f a script h n))) }))
    (calm_shown s (bodies_of q) (calm f) (is f a) script)))
    (λ f a script h. let s = setting_of p o f a in let t = opening script in let u = calm_opening (calm f) script in
    subst (λ x. Shows x (bodies_of q) s (bodies_of p) t t) (same f a)
    (shows_on s s s (bodies_of q) (bodies_of p) (bodies_of p) t u t
    (shows_on s s s (bodies_of q) (bodies_of q) (bodies_of p) t u u (calm_shows s (bodies_of q) (calm f) (is f a) script)
    (record { within = λ n. (n, ([], append-nil (shows_from s (bodies_of q) u n) ∙ events f a script h n)) }))
    (calm_shown s (bodies_of p) (calm f) (is f a) script)))
