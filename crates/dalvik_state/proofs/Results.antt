-- What a call answers, if it does.
use Rattle.std.proofs.Common.{Ok, Err, Result}
use Rattle.std.specs.Prelude.{IfOk}

pub if_ok : {V E : Type 0} (r : Result V E) (P Q : V → Type 0) → IfOk r P → ((v : V) → P v → Q v) → IfOk r Q
if_ok (Ok v) P Q h f = f v h
if_ok (Err e) P Q h f = h
