use Rattle.std.proofs.Common.{◌≡◌, ◌∙◌, ℕ, ap, get_or, true, sym, take_all}
use Rattle.std.specs.Prelude.{◌&&◌, nat_eq}
use Rattle.std.specs.List.{list_any}
use Rattle.std.proofs.lemmas.List.{get_or_default}
use Rattle.class_defs.proofs.Positions.{number_of}
use Rattle.lemmas.proofs.Bools.{and_left, and_right}
use Rattle.program_model.specs.declared.pools.MethodName.{MethodName}
use Rattle.static_protos.specs.Growing.{same_pair}
use Rattle.static_protos.proofs.Sets.{pairs_more, names_are}
use Rattle.static_protos.proofs.tables.names_of.Goals as goal

same_of : (a b : ℕ × ℕ) → same_pair a b ≡ true → a ≡ b
same_of a b e =
    let first : a.0 ≡ b.0 = number_of a.0 b.0 (and_left (nat_eq a.0 b.0) (nat_eq a.1 b.1) e) in
    let second : a.1 ≡ b.1 = number_of a.1 b.1 (and_right (nat_eq a.0 b.0) (nat_eq a.1 b.1) e) in
    ap (λ x. (x, a.1)) first ∙ ap (λ y. (b.0, y)) second

pub loop-method-preserved : goal.loop-method-preserved
loop-method-preserved c = λ name proto.
    let x : MethodName = get_or c.args.methods.now c.loop-method.method-index (record { class = 0; proto = 0; name = 0 }) in
    pairs_more (same_pair (name, proto)) same_pair (λ (m : MethodName). (m.name, m.proto)) c.args.methods.now c.loop-method.method-index x c.loop-method.names.keys c.insert.new.self.keys
    (λ a b e. ap (same_pair (name, proto)) (sym (same_of a b e))) c.loop-method-test.true (get_or_default c.args.methods.now c.loop-method.method-index (record { class = 0; proto = 0; name = 0 }) x c.loop-method-test.true) (c.loop-method.invariant name proto) c.in_ok-insert.ensures.keys

pub returns : goal.returns
returns c = λ name proto.
    c.loop-method.invariant name proto ∙ ap (list_any (λ (m : MethodName). same_pair (name, proto) (m.name, m.proto))) (take_all c.loop-method.method-index c.args.methods.now c.loop-method-test.false) ∙ names_are name proto c.args.methods.now
