use Rattle.dalvik_lookups.specs.Views.{type_text}
use Rattle.dalvik_state.proofs.Judging.{back_found, back_shut, back_unfound, method_low, method_there, placed}
use Rattle.dalvik_state.proofs.Results.{if_ok}
use Rattle.dalvik_state.proofs.legal.calls_back.Goals as goal

pub returns-then-not-may_call_back-clause-is : goal.returns-then-not-may_call_back-clause-is
returns-then-not-may_call_back-clause-is c = λ o f r reach k i at e.
    let l = c.args.tables.now.lookups in
    let m = c.args.method.now in
    let h = method_there l r c.args.at f m e at in
    back_shut l r o (type_text l.types c.args.receiver) c.args.at m f e h (c.if-not-may_call_back.ensures o r reach (method_low l r c.args.at m f h))

pub returns-in_err-found-clause-kept : goal.returns-in_err-found-clause-kept
returns-in_err-found-clause-kept c = λ r k i at.
    let q = placed c.args.tables.now.lookups r c.args.at c.args.method.now at in
    c.virtually.ensures.kept q.name r k i q.is_name

pub returns-then-not-finds-clause-kept : goal.returns-then-not-finds-clause-kept
returns-then-not-finds-clause-kept c = λ r k i at.
    let q = placed c.args.tables.now.lookups r c.args.at c.args.method.now at in
    c.virtually.ensures.kept q.name r k i q.is_name

pub returns-then-not-finds-clause-is : goal.returns-then-not-finds-clause-is
returns-then-not-finds-clause-is c = λ o f r reach k i at e.
    let l = c.args.tables.now.lookups in
    let m = c.args.method.now in
    let h = method_there l r c.args.at f m e at in
    back_unfound l r o (type_text l.types c.args.receiver) c.args.at m f e h c.in_ok-found.found (c.if-not-may_call_back.ensures o r reach (method_low l r c.args.at m f h))
    (c.in_ok-found.ensures.is h.name r k i h.is_name) c.if-not-finds.ensures

pub returns-clause-kept : goal.returns-clause-kept
returns-clause-kept c = λ r k i at.
    let q = placed c.args.tables.now.lookups r c.args.at c.args.method.now at in
    c.reaches_out.ensures.kept r (c.virtually.ensures.kept q.name r k i q.is_name)

pub returns-clause-is : goal.returns-clause-is
returns-clause-is c = λ o f r reach k i at e.
    let l = c.args.tables.now.lookups in
    let m = c.args.method.now in
    let h = method_there l r c.args.at f m e at in
    if_ok c.reaches_out.result _ _ (c.reaches_out.ensures.is h.name r (c.virtually.ensures.kept h.name r k i h.is_name) i h.is_name)
    (λ b q. back_found l r o (type_text l.types c.args.receiver) c.args.at m f e h c.in_ok-found.found b (c.if-not-may_call_back.ensures o r reach (method_low l r c.args.at m f h))
    (c.in_ok-found.ensures.is h.name r k i h.is_name) c.if-not-finds.ensures q)
