use Rattle.std.proofs.Common.{ap, ◌∙◌, ◌∷◌, [], map, refl}
use Rattle.std.proofs.lemmas.List.{map_push, take_all}
use Rattle.dalvik_lookups.proofs.Standing.{rows_known, pairs_step, known_pairs}
use Rattle.dalvik_lookups.proofs.graph.Rows.known.Goals as goal

pub loop-lower-preserved : goal.loop-lower-preserved
loop-lower-preserved c = record {
  own = pairs_step (λ r. r.0) c.loop-lower.lower-index c.loop-lower.own.items c.push.new.self.items _ c.loop-lower.invariant.own c.loop-lower-test.true c.in_ok-push.ensures.items refl;
  above = pairs_step (λ r. r.1 ∷ []) c.loop-lower.lower-index (map (λ v. v.items) c.loop-lower.above.items) (map (λ v. v.items) c.push-in-loop-lower.new.self.items) c.in_ok-only.field-0.items c.loop-lower.invariant.above c.loop-lower-test.true
      (ap (map (λ v. v.items)) c.in_ok-push-2.ensures.items ∙ map_push (λ v. v.items) c.loop-lower.above.items c.in_ok-only.field-0) c.in_ok-only.ensures;
}

pub returns : goal.returns
returns c = λ t h. rows_known t h _
    (c.loop-lower.invariant.own ∙ ap (map (λ r. r.0)) (take_all c.loop-lower.lower-index known_pairs c.loop-lower-test.false))
    (c.loop-lower.invariant.above ∙ ap (map (λ r. r.1 ∷ [])) (take_all c.loop-lower.lower-index known_pairs c.loop-lower-test.false))
