-- Where only idle positions go, the fates are right.
use Rattle.std.proofs.Common.{ℕ, ◌+◌, List, refl}
use Rattle.dalvik_defs.specs.Outer.{Outer}
use Rattle.dalvik_defs.specs.declared.names.MethodKey.{MethodKey}
use Rattle.dalvik_defs.specs.declared.forms.Form.{Form}
use Rattle.dalvik_defs.specs.declared.forms.Form.TheVariants as form
use Rattle.dalvik_defs.specs.declared.program.NamedBody.{NamedBody}
use Rattle.dalvik_defs.specs.declared.program.NamedProgram.{NamedProgram}
use Rattle.pass_defs.specs.Constants.{IsPure, Itself, Divides, DividesKnown}
use Rattle.pass_defs.specs.Idle.{IsIdleForm, Unreached, Unread as UnreadForm, Nop as NopForm, Skip}
use Rattle.pass_defs.specs.Thinned.{Fate}
use Rattle.pass_defs.specs.Walks.{IsReached}
use Rattle.thin_laws.specs.Squeezing.{Nop, Over}
use Rattle.thin_laws.specs.Cleaning.{IsFine, IsDropped, Skipped, Unread, IsCleaning, AreIdle}
use Rattle.thin_laws.proofs.Squeezed.{more}

idle_dropped : (p : NamedProgram) (o : Outer) (k : MethodKey) (b : NamedBody) (fs : List Fate) (n : ℕ) (x : Form) → (DividesKnown p o k n x → ⊥) → IsFine x → IsReached b n → IsIdleForm p o k b n x → IsDropped p b fs n x
idle_dropped p o k b fs n x d v i (Unreached _ u) = absurd (u i)
idle_dropped p o k b fs n x d v i (UnreadForm _ u) = by u.pure
  where
    by : IsPure p o k n x → IsDropped p b fs n x
    by (Itself h) = Unread x h v u.unread
    by (Divides h) = absurd (d h)
idle_dropped p o k b fs n _ d v i (NopForm h) = Skipped form.Nop Nop
idle_dropped p o k b fs n _ d v i Skip = Skipped (form.Goto (n + 1)) (Over (n + 1) (more n) refl)

pub idle_cleaning : (p : NamedProgram) (o : Outer) (k : MethodKey) (fs : List Fate) (b : NamedBody) → AreIdle p o k fs b → IsCleaning p fs b
idle_cleaning p o k fs b h = record { long = h.long; within = h.within; dropped = λ n x f i e g s. idle_dropped p o k b fs n x (h.plain n x f e g s) (h.fine n x f e g s) i (h.idle n x f e g s) }
