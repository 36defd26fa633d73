use Rattle.std.proofs.Common.{◌≡◌, ap, sym, ◌∙◌}
use Rattle.std.specs.Prelude.{ℤ}
use Rattle.std.specs.Int.{w32, cast_signed, cast_unsigned}
use Rattle.std.proofs.lemmas.Int.{to_z-of_z}
use Rattle.dalvik_defs.specs.ActPlain.{switch_target}
use Rattle.dalvik_act.proofs.Sparse.{absent, as_many, equal_is, found, rising}
use Rattle.dalvik_act.proofs.plain.sparse_target.Goals as goal

pub returns-in-Ok : goal.returns-in-Ok
returns-in-Ok c = λ ok.
    let keys = c.args.keys.now in
    let targets = c.args.targets.now in
    let same : cast_signed w32 (cast_unsigned w32 c.args.key) ≡ c.args.key = to_z-of_z w32 c.args.key c.ranges.key in
    c.target_at.ensures
    ∙ sym (found c.args.key keys targets c.in-Ok.place (rising keys targets ok) (as_many keys targets ok) c.in-Ok.ensures.bound (λ d. equal_is _ _ (c.in-Ok.ensures.ok d) ∙ same))

pub returns-in-Err : goal.returns-in-Err
returns-in-Err c = λ ok.
    let keys = c.args.keys.now in
    let targets = c.args.targets.now in
    let same : cast_signed w32 (cast_unsigned w32 c.args.key) ≡ c.args.key = to_z-of_z w32 c.args.key c.ranges.key in
    sym (ap (λ (z : ℤ). switch_target z keys targets) (sym same) ∙ absent (cast_signed w32 (cast_unsigned w32 c.args.key)) keys targets c.in-Err.field-0 (rising keys targets ok) c.in-Err.ensures.position)
