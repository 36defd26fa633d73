use Rattle.std.proofs.Common.{◌≡◌, ◌∷◌, [], map, take}
use Rattle.dalvik_lookups.proofs.graph.Rows.known.Given as goal

abbrev pub invariant-loop-lower : goal.invariant-loop-lower
invariant-loop-lower l = record {
  own : l.own.items ≡ map (λ r. r.0) (take l.lower-index l.lower-items);
  above : map (λ v. v.items) l.above.items ≡ map (λ r. r.1 ∷ []) (take l.lower-index l.lower-items);
}
