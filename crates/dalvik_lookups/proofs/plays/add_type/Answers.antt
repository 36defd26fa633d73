use Rattle.std.proofs.Common.{Ok, Err, Result}
use Rattle.std.specs.Prelude.{OnOk, IfOk}
use Rattle.dalvik_lookups.proofs.Making.{grows_type}
use Rattle.dalvik_lookups.proofs.plays.add_type.Goals as goal

on_ok : {V E : Type 0} (r : Result V E) (P : V → Type 0) (Q : Type 0) → IfOk r P → ((v : V) → P v → Q) → OnOk r Q
on_ok (Ok v) P Q h f = f v h
on_ok (Err e) P Q h f = h

pub returns-clause-grows : goal.returns-clause-grows
returns-clause-grows c = λ r. on_ok c.add.result _ _ (c.add.ensures r.types.kept) (λ k a. grows_type c.args.names.now c.add.new.self c.args.units.now k r a)
