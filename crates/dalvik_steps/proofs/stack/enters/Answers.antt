use Rattle.std.proofs.Common.{◌≡◌, ◌++◌, ◌∷◌, [], refl, subst, rules}
use Rattle.std.specs.Prelude.{Option}
use Rattle.dalvik_state.specs.Worlds.{spots_of}
use Rattle.dalvik_state.specs.declared.frame.Frame.{Frame}
use Rattle.dalvik_state.specs.declared.state.Waiting.TheVariants as waiting
use Rattle.dalvik_steps.specs.Entries.{IsEntry}
use Rattle.std.proofs.Common.{length}
use Rattle.dalvik_steps.proofs.Entering.{enters_coded, enters_uncoded}
use Rattle.dalvik_steps.proofs.Undone.{on_err, undone, undone_self}
use Rattle.dalvik_steps.proofs.stack.enters.Goals as goal

pub returns-in_err-frame-clause-err : goal.returns-in_err-frame-clause-err
returns-in_err-frame-clause-err c = λ steps r run on. on_err _ _ (undone_self c.args.tables.now.lookups steps c.args.state.now run on)

pub returns-in_err-push-in-Some-clause-err : goal.returns-in_err-push-in-Some-clause-err
returns-in_err-push-in-Some-clause-err c = λ steps r run on.
    let old = c.args.state.now in
    let same : c.push.new.self.items ≡ old.stack.items = search rules in
    on_err _ _ (undone c.args.tables.now.lookups steps old (record old { stack = c.push.new.self }) run on (record { world = record { heap = refl; fields = refl; statics = refl; locks = refl; exposed = refl }; statuses = refl; stack = same; next = refl; ended = refl }))

pub returns-in_ok-push-in-Some-clause-ok : goal.returns-in_ok-push-in-Some-clause-ok
returns-in_ok-push-in-Some-clause-ok c = λ steps script own r run on e fine.
    let l = c.args.tables.now.lookups in
    let old = c.args.state.now in
    let frame = c.in-Some.frame in
    let stack : c.push.new.self.items ≡ old.stack.items ++ waiting.Method frame ∷ [] = search rules in
    let entry = subst (λ (o : Option Frame). IsEntry l (length (spots_of old.world)) own c.args.values.now o) c.in-Some.is (c.in_ok-frame.ensures (length (spots_of old.world)) own r e fine) in
    enters_coded l r steps script old _ run on own c.args.values.now frame entry (record { world = refl; statuses = refl; next = refl; ended = refl }) stack

pub returns-in-None-clause-ok : goal.returns-in-None-clause-ok
returns-in-None-clause-ok c = λ steps script own r run on e fine.
    let l = c.args.tables.now.lookups in
    let old = c.args.state.now in
    let none = subst (λ (o : Option Frame). IsEntry l (length (spots_of old.world)) own c.args.values.now o) c.in-None.is (c.in_ok-frame.ensures (length (spots_of old.world)) own r e fine) in
    enters_uncoded l r steps script old _ run on own c.args.values.now none (search rules)
