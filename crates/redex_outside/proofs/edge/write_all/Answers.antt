use Rattle.std.proofs.Common.{◌≡◌, [], ◌++◌, take, rules, sym, ap, ◌∙◌, subst, append-nil, drop_of_length-le}
use Rattle.std.specs.Io.KnownBytes.{Appends}
use Rattle.redex_outside.proofs.Known.{appends_both, appends_kept, appends_prefix, split_more}
use Rattle.redex_outside.proofs.edge.write_all.Goals as goal

pub loop-rest-preserved : goal.loop-rest-preserved
loop-rest-preserved g c =
    let (done, split, appended) = c.loop-rest.invariant in
    let rest = c.loop-rest.rest.now in
    let n = c.in-Ok.n in
    (done ++ take n rest, split_more _ done rest n split, appends_both _ _ _ _ _ appended c.in-Ok.ensures.bytes)

pub returns-in-Ok-eq0-clause-err : goal.returns-in-Ok-eq0-clause-err
returns-in-Ok-eq0-clause-err g c =
    let (done, split, appended) = c.loop-rest.invariant in
    let rest = c.loop-rest.rest.now in
    let n = c.in-Ok-eq0.field-0 in
    appends_prefix _ _ _ (done ++ take n rest) _ (split_more _ done rest n split) (appends_both _ _ _ _ _ appended c.in-Ok-eq0.ensures.bytes)

pub returns-in-Err-clause-err : goal.returns-in-Err-clause-err
returns-in-Err-clause-err g c =
    let (done, split, appended) = c.loop-rest.invariant in
    appends_prefix _ _ _ done _ split (appends_kept _ _ _ _ appended c.in-Err.ensures.bytes)

pub returns-clause-ok : goal.returns-clause-ok
returns-clause-ok g c =
    let (done, split, appended) = c.loop-rest.invariant in
    let rest = c.loop-rest.rest.now in
    let empty : rest ≡ [] = drop_of_length-le rest {i = 0} (search rules) in
    subst (Appends _ _) (sym (split ∙ ap (λ l. done ++ l) empty ∙ append-nil done)) appended
