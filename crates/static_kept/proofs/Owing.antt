-- What passes owe they owe one after another, whether numbers name the same after them or not.
use Rattle.std.proofs.Common.{◌≡◌, ℕ, true, refl, sym, ap, ◌∙◌, subst}
use Rattle.program_model.specs.ProgramRules.{is_well_formed}
use Rattle.program_model.specs.declared.pass.Outside.{Outside}
use Rattle.program_model.specs.declared.program.Program.{Program}
use Rattle.dalvik_defs.proofs.Same.{same_shown_on, same_shown_refl}
use Rattle.dalvik_defs.specs.Names.{Text}
use Rattle.dalvik_defs.specs.Naming.{named}
use Rattle.dalvik_defs.specs.Outer.{Outer, outer_of}
use Rattle.dalvik_defs.specs.Shown.{SameShown}
use Rattle.dalvik_defs.specs.Silence.{key_in}
use Rattle.dalvik_defs.specs.Under.{defines}
use Rattle.removal_law.specs.Reach.{ShutsHold}
use Rattle.program_laws.specs.Shutting.{with_shut}
use Rattle.program_laws.specs.Virtual.{VirtualsStay}
use Rattle.program_laws.proofs.ShutAlike.{alike_on, shown_on, virtuals_on}
use Rattle.static_kept.specs.Kept.{IsKeptStatic}
use Rattle.static_kept.specs.Owed.{IsSound, OwesAlong}

module _ (o : Outside) where
  pub along_same : (p : Program) → IsSound p → OwesAlong o p p
  along_same p sound = record {
    sound = sound;
    fewer = λ t d. d;
    virtuals = λ t c m e i v. record { type = t; class = c; method = m; named = e; is_in = i; virtual = v; key = refl };
    outer = refl;
    shuts = λ t c m e i v. refl;
    shown = λ shuts. same_shown_refl (named p) (outer_of p o);
    holds = λ shuts. shuts;
  }

  pub along_on : (p q r : Program) → OwesAlong o p q → OwesAlong o q r → OwesAlong o p r
  along_on p q r one two = record {
    sound = two.sound;
    fewer = λ t d. one.fewer t (two.fewer t d);
    virtuals = virtuals_on (named p) (named q) (named r) one.virtuals two.virtuals;
    outer = two.outer ∙ ap (λ (x : Outer). with_shut x (outer_of r o).silent (outer_of r o).shut) one.outer;
    shuts = alike_on (named q) (named r) (outer_of p o).shut (outer_of q o).shut (outer_of r o).shut two.virtuals one.shuts two.shuts;
    shown = λ shuts. same_shown_on (named p) (named q) (named r) (outer_of p o) one.fewer (one.shown shuts) (before (two.shown (one.holds shuts)));
    holds = λ shuts. two.holds (one.holds shuts);
  }
    where
      -- by the names that the numbers had before
      before : SameShown (named q) (named r) (outer_of q o) → SameShown (named q) (named r) (outer_of p o)
      before same = shown_on (named q) (named r) (outer_of p o) (outer_of q o).silent (outer_of q o).shut two.virtuals one.shuts (subst (λ (x : Outer). SameShown (named q) (named r) x) one.outer same)

  -- where numbers name what they named
  module _ (p q : Program) (sound : IsSound q) (outer : outer_of q o ≡ outer_of p o) (fewer : (t : Text) → defines (named q) t ≡ true → defines (named p) t ≡ true) (virtuals : VirtualsStay (named p) (named q))
      (shown : ShutsHold (named p) (outer_of p o) → SameShown (named p) (named q) (outer_of p o)) (holds : ShutsHold (named p) (outer_of p o) → ShutsHold (named q) (outer_of q o)) where
    pub along_still : OwesAlong o p q
    along_still = record {
      sound = sound;
      fewer = fewer;
      virtuals = virtuals;
      outer = subst (λ (x : Outer). x ≡ with_shut (outer_of p o) x.silent x.shut) (sym outer) refl;
      shuts = λ t c m e i v. ap (λ (x : Outer). x.shut (key_in c m)) outer;
      shown = shown;
      holds = holds;
    }

  -- where methods are static that weren't
  pub along_made : (p q : Program) → is_well_formed q ≡ true → IsKeptStatic o p q → OwesAlong o p q
  along_made p q formed kept = record {
    sound = record { formed = formed; once = kept.once; grounded = kept.grounded; whole = kept.whole; typed = kept.typed };
    fewer = kept.fewer;
    virtuals = kept.virtuals;
    outer = kept.outer;
    shuts = kept.shuts;
    shown = kept.shown;
    holds = kept.holds;
  }
