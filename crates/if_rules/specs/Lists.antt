-- Vectors of vectors as lists of lists.
use Rattle.std.specs.Prelude.{List, map, Vec}
use Rattle.std.specs.declared.alloc.Global.{Global}

abbrev pub lists_of : {T : Type 0} → List (Vec T Global) → List (List T)
lists_of vs = map (λ v. v.items) vs
