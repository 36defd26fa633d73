use Rattle.std.proofs.Common.{subst, sym, Some, ◌≡◌, ◌∙◌}
use Rattle.std.specs.Prelude.{IfOk}
use Rattle.dalvik_defs.specs.Gives.{fits}
use Rattle.dalvik_defs.specs.Outer.{outer_of}
use Rattle.dalvik_lookups.specs.Facing.{run_face}
use Rattle.dalvik_lookups.specs.Views.{type_text}
use Rattle.dalvik_lookups.specs.declared.types.Kind.{Kind}
use Rattle.dalvik_state.specs.Drafts.{given_world}
use Rattle.dalvik_state.specs.Views.{names_in, value_of}
use Rattle.dalvik_state.proofs.legal.fits_at.Goals as goal

pub returns-in-Some-clause-kept : goal.returns-in-Some-clause-kept
returns-in-Some-clause-kept c = λ r k g f. c.fits.ensures.kept r k g (f.at c.args.place c.in-Some.kind (sym c.in-Some.ensures)).there

pub returns-in-Some-clause-is : goal.returns-in-Some-clause-is
returns-in-Some-clause-is c = λ o before g k r kept gi taken fine e.
    let l = c.args.tables.now.lookups in
    let same : c.in-Some.kind ≡ k = (let x : Some c.in-Some.kind ≡ Some k = c.in-Some.ensures ∙ e in cc) in
    subst (λ (x : Kind). IfOk c.fits.result (λ b. b ≡ fits (run_face l) (outer_of l.program.now o) before (given_world (names_in l) c.args.world.now c.args.gifts.now) g (value_of (names_in l) c.args.value.1.datum) (type_text l.types x))) same
    (c.fits.ensures.is o before g r kept gi taken.fine taken.gift taken.allowed (fine.at c.args.place c.in-Some.kind (sym c.in-Some.ensures)).there)

pub returns-in-None-clause-is : goal.returns-in-None-clause-is
returns-in-None-clause-is c = λ o before g k r kept gi taken fine e. absurd (let x = c.in-None.ensures ∙ e in cc)
