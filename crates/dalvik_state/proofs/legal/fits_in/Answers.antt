use Rattle.std.proofs.Common.{subst, sym, Some, ◌≡◌, ◌∙◌}
use Rattle.std.specs.Prelude.{IfOk}
use Rattle.dalvik_defs.specs.Gives.{fits}
use Rattle.dalvik_defs.specs.Outer.{outer_of}
use Rattle.dalvik_lookups.specs.Facing.{run_face}
use Rattle.dalvik_lookups.specs.Views.{type_text}
use Rattle.dalvik_lookups.specs.declared.plays.Gift.{Gift}
use Rattle.dalvik_state.specs.declared.gifts.Taken.{Taken}
use Rattle.dalvik_state.specs.Drafts.{given_world}
use Rattle.dalvik_state.specs.Giving.{IsTakenFrom}
use Rattle.dalvik_state.specs.Views.{names_in, value_of}
use Rattle.dalvik_state.proofs.legal.fits_in.Goals as goal

pub returns-in-Some-clause-is : goal.returns-in-Some-clause-is
returns-in-Some-clause-is c = λ o before g v k r kept gi there taken fine e.
    let l = c.args.tables.now.lookups in
    let same : c.in-Some.value ≡ v = (let x : Some c.in-Some.value ≡ Some v = c.in-Some.ensures ∙ there in cc) in
    subst (λ (x : Gift × Taken). IfOk c.fits_at.result (λ b. b ≡ fits (run_face l) (outer_of l.program.now o) before (given_world (names_in l) c.args.world.now c.args.gifts.now) g (value_of (names_in l) x.1.datum) (type_text l.types k))) same
    (c.fits_at.ensures.is o before g k r kept gi (subst (IsTakenFrom l o c.args.world.now before c.args.gifts.now g) (sym same) taken) fine e)

pub returns-in-None-clause-is : goal.returns-in-None-clause-is
returns-in-None-clause-is c = λ o before g v k r kept gi there taken fine e. absurd (let x = c.in-None.ensures ∙ there in cc)
