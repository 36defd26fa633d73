use Rattle.dalvik_lookups.specs.Views.{type_text}
use Rattle.dalvik_state.proofs.Judging.{answers_direct, answers_found, answers_unfound, method_there, placed}
use Rattle.dalvik_state.proofs.Results.{if_ok}
use Rattle.dalvik_state.proofs.legal.answers_kept.Goals as goal

pub returns-then-not-is_virtual-clause-is : goal.returns-then-not-is_virtual-clause-is
returns-then-not-is_virtual-clause-is c = λ o f r reach k i at e.
    let l = c.args.tables.now.lookups in
    let m = c.args.method.now in
    let h = method_there l r c.args.at f m e at in
    answers_direct l r o (type_text l.types c.args.receiver) c.args.at m f e h (c.if-not-is_virtual.ensures r)

pub returns-in_err-found-clause-kept : goal.returns-in_err-found-clause-kept
returns-in_err-found-clause-kept c = λ o r reach k i at.
    let q = placed c.args.tables.now.lookups r c.args.at c.args.method.now at in
    c.virtually.ensures.kept q.name r k i q.is_name

pub returns-then-not-finds-clause-kept : goal.returns-then-not-finds-clause-kept
returns-then-not-finds-clause-kept c = λ o r reach k i at.
    let q = placed c.args.tables.now.lookups r c.args.at c.args.method.now at in
    c.virtually.ensures.kept q.name r k i q.is_name

pub returns-then-not-finds-clause-is : goal.returns-then-not-finds-clause-is
returns-then-not-finds-clause-is c = λ o f r reach k i at e.
    let l = c.args.tables.now.lookups in
    let m = c.args.method.now in
    let h = method_there l r c.args.at f m e at in
    answers_unfound l r o (type_text l.types c.args.receiver) c.args.at m f e h c.in_ok-found.found (c.if-not-is_virtual.ensures r)
    (c.in_ok-found.ensures.is h.name r k i h.is_name) c.if-not-finds.ensures

pub returns-clause-kept : goal.returns-clause-kept
returns-clause-kept c = λ o r reach k i at.
    let q = placed c.args.tables.now.lookups r c.args.at c.args.method.now at in
    c.has_keeper.ensures.kept o q.name r reach.members (c.virtually.ensures.kept q.name r k i q.is_name) i q.is_name

pub returns-clause-is : goal.returns-clause-is
returns-clause-is c = λ o f r reach k i at e.
    let l = c.args.tables.now.lookups in
    let m = c.args.method.now in
    let h = method_there l r c.args.at f m e at in
    if_ok c.has_keeper.result _ _ (c.has_keeper.ensures.is o h.name r reach.members (c.virtually.ensures.kept h.name r k i h.is_name) i h.is_name)
    (λ b q. answers_found l r o (type_text l.types c.args.receiver) c.args.at m f e h c.in_ok-found.found b (c.if-not-is_virtual.ensures r)
    (c.in_ok-found.ensures.is h.name r k i h.is_name) c.if-not-finds.ensures q)
