-- The law of rewriting in place for programs.
use Rattle.std.proofs.Common.{◌≡◌, Bool, false, List, refl}
use Rattle.dalvik_defs.specs.Names.{Text}
use Rattle.dalvik_defs.specs.Face.{face_of, bodies_of}
use Rattle.dalvik_defs.specs.Outer.{Outer}
use Rattle.dalvik_defs.specs.State.{State}
use Rattle.dalvik_defs.specs.Happens.{Setting}
use Rattle.dalvik_defs.specs.Step.{setting_of}
use Rattle.dalvik_defs.specs.Shown.{Fit, SameShown}
use Rattle.dalvik_defs.specs.Quiet.{calm_opening}
use Rattle.dalvik_defs.specs.declared.script.Move.{Move}
use Rattle.dalvik_defs.specs.declared.program.NamedProgram.{NamedProgram}
use Rattle.dalvik_defs.specs.declared.tables.Framework.{Framework}
use Rattle.dalvik_defs.specs.declared.tables.Floats.{Floats}
use Rattle.dalvik_defs.proofs.Calm.{IsCalm}
use Rattle.dalvik_defs.proofs.Programs.{once_shown}
use Rattle.form_laws.specs.Rewriting.{Claims, IsInPlace}
use Rattle.form_laws.proofs.Onward.{clash}
use Rattle.form_laws.proofs.Rewriting.{Tops, Awaits, J, follow, once}

-- programs of which one is the other rewritten in place show the same
pub in_place_shown : (p q : NamedProgram) (o : Outer) (calm : Framework → Text → Bool) (R : Claims) (I : Framework → Floats → List Move → State → Type 0)
    → ((f : Framework) → face_of p f ≡ face_of q f)
    → ((f : Framework) (a : Floats) → IsCalm (setting_of p o f a) (calm f))
    → ((f : Framework) (a : Floats) (script : List Move) → Fit p o f script → IsInPlace (setting_of p o f a) (bodies_of p) (bodies_of q) R (I f a script))
    → ((f : Framework) (a : Floats) (script : List Move) → Fit p o f script → I f a script (calm_opening (calm f) script))
    → SameShown p q o
in_place_shown p q o calm R I face is place start = once_shown p q o calm
    (λ f a script. Tops (setting_of p o f a) (bodies_of p) (bodies_of q) R (I f a script))
    (λ f a script. Awaits (setting_of p o f a) (bodies_of p) (bodies_of q) R (I f a script))
    I (λ f a script. J (setting_of p o f a) (bodies_of p) (bodies_of q) R (I f a script)) face is
    (λ f a script h. follow (setting_of p o f a) (bodies_of p) (bodies_of q) R (I f a script) (place f a script h))
    (λ f a script h. once (setting_of p o f a) (bodies_of p) (bodies_of q) R (I f a script) (place f a script h))
    (λ f a script h. (start f a script h, tt))

no_calm : (s : Setting) → IsCalm s (λ t. false)
no_calm s = record { initialiser = λ t e. clash false e refl; grounded = λ t e. clash false e refl }

-- and where nothing is asked of what a run reaches
pub in_place_always : (p q : NamedProgram) (o : Outer) (R : Claims)
    → ((f : Framework) → face_of p f ≡ face_of q f)
    → ((f : Framework) (a : Floats) (script : List Move) → Fit p o f script → IsInPlace (setting_of p o f a) (bodies_of p) (bodies_of q) R (λ t. Unit {0}))
    → SameShown p q o
in_place_always p q o R face place = in_place_shown p q o (λ f t. false) R (λ f a script t. Unit {0}) face (λ f a. no_calm (setting_of p o f a)) place (λ f a script h. tt)
