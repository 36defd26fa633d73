use Rattle.std.proofs.Common.{◌≡◌, ◌<◌, ◌-◌, length, arith, sym, ◌∙◌, ap}
use Rattle.std.specs.Prelude.{Some, slice_get}
use Rattle.std.proofs.lemmas.Option.{slice_get-get_or}
use Rattle.dalvik_state.specs.declared.state.Waiting.{Waiting}
use Rattle.dalvik_model.proofs.Reaching.{last_method, topped_err, topped_ok}
use Rattle.dalvik_model.proofs.happens.acts_on.Goals as goal

pub returns-then-count-gt0-clause-ok : goal.returns-then-count-gt0-clause-ok
returns-then-count-gt0-clause-ok c = λ floats steps f top table run.
    let l = c.args.tables.now.lookups in
    let entries = c.args.stack.now.items in
    let last = c.len-count.result - 1 in
    let w = c.index_mut.result.now in
    let at : last ≡ length entries - 1 = omega arith in
    let inside : last < length entries = omega arith in
    let there : slice_get entries last ≡ Some w = slice_get-get_or entries last w inside ∙ ap (λ (x : Waiting). Some x) (sym c.index_mut.ensures.value) in
    let is = last_method entries last w f at there top in
    topped_ok l floats steps c.args.world.now c.acts_in.new.world f entries last c.acts_in.new.waiting c.acts_in.result at (c.acts_in.ensures.ok floats steps f is table run)

pub returns-then-count-gt0-clause-memo : goal.returns-then-count-gt0-clause-memo
returns-then-count-gt0-clause-memo c = λ steps f top run.
    let entries = c.args.stack.now.items in
    let last = c.len-count.result - 1 in
    let w = c.index_mut.result.now in
    let at : last ≡ length entries - 1 = omega arith in
    let inside : last < length entries = omega arith in
    let there : slice_get entries last ≡ Some w = slice_get-get_or entries last w inside ∙ ap (λ (x : Waiting). Some x) (sym c.index_mut.ensures.value) in
    c.acts_in.ensures.memo steps f (last_method entries last w f at there top) run

pub returns-then-count-gt0-clause-err : goal.returns-then-count-gt0-clause-err
returns-then-count-gt0-clause-err c = λ f top.
    let entries = c.args.stack.now.items in
    let last = c.len-count.result - 1 in
    let w = c.index_mut.result.now in
    let at : last ≡ length entries - 1 = omega arith in
    let inside : last < length entries = omega arith in
    let there : slice_get entries last ≡ Some w = slice_get-get_or entries last w inside ∙ ap (λ (x : Waiting). Some x) (sym c.index_mut.ensures.value) in
    topped_err c.args.world.now c.acts_in.new.world f entries last c.acts_in.new.waiting c.acts_in.result at (c.acts_in.ensures.err f (last_method entries last w f at there top))
