use Rattle.std.proofs.Common.{◌≡◌, ◌∙◌, sym, subst, Some}
use Rattle.std.specs.Prelude.{IfOk, slice_get}
use Rattle.program_model.specs.Lookups.{class_place}
use Rattle.domains.specs.Values.{Parts}
use Rattle.const_prop.specs.Asked.{IsKeyOf}
use Rattle.const_prop.proofs.Finding.{class_below, looked_up, call_named, call_unnamed}
use Rattle.const_prop.proofs.results.Results.of_call.Goals as goal

pub returns-in-Some-place_of : goal.returns-in-Some-place_of
returns-in-Some-place_of c = λ k.
    let s = c.args.self.now in
    let p = s.program.now in
    let q = c.in-Some.name.now in
    let class = c.in-Some-place_of.class in
    let at : slice_get p.methods c.args.method ≡ Some q = looked_up p.methods c.as_slice.result.now c.args.method q c.as_slice.ensures c.in-Some.ensures.lookup.0 c.in-Some.ensures.lookup.1 in
    let place : class_place p q.class ≡ Some class = sym (c.in-Some-place_of.ensures.is p k.resolved.of) in
    let key : IsKeyOf s c.key_of_method-key.result q.name q.proto = c.key_of_method-key.ensures.is p q at in
    subst (λ (x : Parts). IfOk c.of_kind.result (λ v. v ≡ x)) (call_named p s.facts.now c.args.caller c.args.kind c.args.method q class at place) (c.of_kind.ensures k q.name q.proto key (class_below p q.class class place))

pub returns-in-None-place_of : goal.returns-in-None-place_of
returns-in-None-place_of c = λ k.
    let s = c.args.self.now in
    let p = s.program.now in
    let q = c.in-Some.name.now in
    let at : slice_get p.methods c.args.method ≡ Some q = looked_up p.methods c.as_slice.result.now c.args.method q c.as_slice.ensures c.in-Some.ensures.lookup.0 c.in-Some.ensures.lookup.1 in
    c.any-in-None-place_of.ensures.is ∙ call_unnamed p s.facts.now c.args.caller c.args.kind c.args.method q at (sym (c.in-None-place_of.ensures.is p k.resolved.of))
