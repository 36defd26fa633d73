use Rattle.std.proofs.Common.{sym, ◌∙◌}
use Rattle.name_bridge.proofs.Tables.{entry_at}
use Rattle.dalvik_state.proofs.Judging.{passed_fine, passed_named, proto_of}
use Rattle.dalvik_state.proofs.Results.{if_ok}
use Rattle.dalvik_state.proofs.state.Tables.passed_kinds.Goals as goal

pub returns-in-Some-clause-named : goal.returns-in-Some-clause-named
returns-in-Some-clause-named c = λ r low.
    let l = c.args.self.now.lookups in
    let e = sym c.in-Some.ensures in
    let t = proto_of l r c.args.method c.in-Some.name.now e in
    if_ok c.kinds_of_name.result _ _ (c.kinds_of_name.ensures t.0 t.1) (λ kinds is. passed_named l r c.args.method c.in-Some.name.now t.0 e t.1 c.args.is_static kinds.items is)

pub returns-in-Some-clause-fine : goal.returns-in-Some-clause-fine
returns-in-Some-clause-fine c = λ r low.
    let l = c.args.self.now.lookups in
    let e = sym c.in-Some.ensures in
    let t = proto_of l r c.args.method c.in-Some.name.now e in
    if_ok c.kinds_of_name.result _ _ (c.kinds_of_name.ensures t.0 t.1) (λ kinds is. passed_fine l r c.args.method c.in-Some.name.now t.0 e t.1 c.args.is_static kinds.items is)

pub returns-in-None-clause-named : goal.returns-in-None-clause-named
returns-in-None-clause-named c = λ r low.
    let q = entry_at c.args.self.now.lookups.program.now.methods c.args.method low in
    absurd (let x = c.in-None.ensures ∙ q.1 in cc)

pub returns-in-None-clause-fine : goal.returns-in-None-clause-fine
returns-in-None-clause-fine c = λ r low.
    let q = entry_at c.args.self.now.lookups.program.now.methods c.args.method low in
    absurd (let x = c.in-None.ensures ∙ q.1 in cc)
