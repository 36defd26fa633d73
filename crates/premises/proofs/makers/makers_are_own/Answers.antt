use Rattle.std.proofs.Common.{true≢false, sym, ap, ◌∙◌}
use Rattle.std.specs.List.{list_all}
use Rattle.class_defs.proofs.WellFormed.{sound}
use Rattle.premises.specs.Owning.{is_own}
use Rattle.premises.proofs.Exact.{makers_found}
use Rattle.premises.proofs.Owned.{own_makers}
use Rattle.premises.proofs.makers.makers_are_own.Goals as goal

pub returns-clause-sound : goal.returns-clause-sound
returns-clause-sound c = λ tables yes.
    own_makers c.args.program.now tables.once c.args.outside.now (sym (ap (list_all (is_own c.args.program.now)) c.as_slice.ensures) ∙ sym (c.are_own.ensures tables) ∙ yes)

pub returns-clause-exact : goal.returns-clause-exact
returns-clause-exact c = λ formed tables no own.
    true≢false (sym (makers_found c.args.program.now (sound c.args.program.now formed) c.args.outside.now own) ∙ sym (ap (list_all (is_own c.args.program.now)) c.as_slice.ensures) ∙ sym (c.are_own.ensures tables) ∙ no)
