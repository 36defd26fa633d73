use Rattle.std.proofs.Common.{ap, subst, sym, ◌∙◌}
use Rattle.name_bridge.proofs.Tables.{entry_at}
use Rattle.dalvik_lookups.specs.Views.{type_text}
use Rattle.dalvik_state.specs.States.{IsFineKind}
use Rattle.dalvik_state.proofs.Judging.{proto_of, result_fine, result_named}
use Rattle.dalvik_state.proofs.state.Tables.result_kind.Goals as goal

pub returns-in-Some-clause-named : goal.returns-in-Some-clause-named
returns-in-Some-clause-named c = λ r low.
    let l = c.args.self.now.lookups in
    let e = sym c.in-Some.ensures in
    let t = proto_of l r c.args.method c.in-Some.name.now e in
    ap (type_text l.types) (c.proto_result.ensures t.0 t.1) ∙ result_named l r c.args.method c.in-Some.name.now t.0 e t.1

pub returns-in-Some-clause-fine : goal.returns-in-Some-clause-fine
returns-in-Some-clause-fine c = λ r low.
    let l = c.args.self.now.lookups in
    let e = sym c.in-Some.ensures in
    let t = proto_of l r c.args.method c.in-Some.name.now e in
    subst (IsFineKind l) (sym (c.proto_result.ensures t.0 t.1)) (result_fine l r c.args.method c.in-Some.name.now t.0 e t.1)

pub returns-in-None-clause-named : goal.returns-in-None-clause-named
returns-in-None-clause-named c = λ r low.
    let q = entry_at c.args.self.now.lookups.program.now.methods c.args.method low in
    absurd (let x = c.in-None.ensures ∙ q.1 in cc)

pub returns-in-None-clause-fine : goal.returns-in-None-clause-fine
returns-in-None-clause-fine c = λ r low.
    let q = entry_at c.args.self.now.lookups.program.now.methods c.args.method low in
    absurd (let x = c.in-None.ensures ∙ q.1 in cc)
