use Rattle.std.proofs.Common.{◌≡◌, ◌+◌, ◌<◌, ℕ, List, length, drop, get_or, drop-cons, suc, nat_eq, position, None, refl, sym, ap, add-one, rules, ◌∙◌}
use Rattle.program_model.specs.Lookups.{method_from, method_or}
use Rattle.program_model.specs.declared.program.Class.{Class}
use Rattle.program_model.proofs.lookups.method_named.Goals as goal

-- a class that doesn't define the method is passed
passes : (cs : List Class) (i m : ℕ) (c : Class) → i < length cs → c ≡ get_or cs i c → position (λ one. nat_eq one.name m) c.methods ≡ None
    → method_from i (drop i cs) m ≡ method_from (i + 1) (drop (i + 1) cs) m
passes cs i m c h e none = rw (drop-cons cs i c, ← e) (ap (λ o. method_or i o (method_from (i + 1) (drop (suc i) cs) m)) none ∙ ap (λ k. method_from (i + 1) (drop k cs) m) (sym (add-one i)))

pub loop-place-preserved : goal.loop-place-preserved
loop-place-preserved c =
    let none : position (λ m. nat_eq m.name c.args.method) c.class-item.result.methods ≡ None = search rules in
    c.loop-place.invariant ∙ passes c.args.program.now.classes c.loop-place.place c.args.method c.class-item.result (search rules) (search rules) none
