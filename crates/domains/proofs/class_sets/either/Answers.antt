use Rattle.std.proofs.Common.{◌≡◌, sym, subst}
use Rattle.std.specs.Prelude.{Option, Some, List, ℕ, false}
use Rattle.std.specs.Option.{option_map}
use Rattle.lattice_core.specs.Laws.{IsUpper, IsWidened}
use Rattle.domains.specs.Datum.{Within}
use Rattle.domains.specs.ClassSets.{IsKept, set_holds, set_rank, set_joined, at_most_eight, merged, set_joined_kept, joined_lists, set_upper, set_widens}
use Rattle.domains.proofs.class_sets.either.Goals as goal

pub invariant_of-result : goal.invariant_of-result
invariant_of-result c =
    let k : IsKept (Some c.in-Some-Some.few.items) = rw c.in-Some-Some.is-0 at c.a.invariant in
    let u : option_map (λ v. v.items) c.union.result ≡ at_most_eight (merged c.in-Some-Some.few.items c.in-Some-Some.more.items) = rw (c.as_slice.ensures.value, c.as_slice-in-Some-Some.ensures.value) at c.union.ensures in
    subst IsKept (sym u) (set_joined_kept (Some c.in-Some-Some.few.items) (Some c.in-Some-Some.more.items) k)

pub returns-in-Some-Some-clause-over : goal.returns-in-Some-Some-clause-over
returns-in-Some-Some-clause-over c =
    let a : Some c.in-Some-Some.few.items ≡ c.args.a.now = rw c.in-Some-Some.is-0 at c.a.view_is in
    let b : Some c.in-Some-Some.more.items ≡ c.args.b.now = rw c.in-Some-Some.is-1 at c.b.view_is in
    let u : option_map (λ v. v.items) c.union.result ≡ at_most_eight (merged c.in-Some-Some.few.items c.in-Some-Some.more.items) = rw (c.as_slice.ensures.value, c.as_slice-in-Some-Some.ensures.value) at c.union.ensures in
    subst (IsUpper (Within set_holds) c.args.a.now c.args.b.now) (sym (joined_lists _ _ _ _ _ a b u)) (set_upper c.args.a.now c.args.b.now)

pub returns-in-Some-Some-clause-falls : goal.returns-in-Some-Some-clause-falls
returns-in-Some-Some-clause-falls c =
    let a : Some c.in-Some-Some.few.items ≡ c.args.a.now = rw c.in-Some-Some.is-0 at c.a.view_is in
    let b : Some c.in-Some-Some.more.items ≡ c.args.b.now = rw c.in-Some-Some.is-1 at c.b.view_is in
    let k : IsKept (Some c.in-Some-Some.few.items) = rw c.in-Some-Some.is-0 at c.a.invariant in
    let u : option_map (λ v. v.items) c.union.result ≡ at_most_eight (merged c.in-Some-Some.few.items c.in-Some-Some.more.items) = rw (c.as_slice.ensures.value, c.as_slice-in-Some-Some.ensures.value) at c.union.ensures in
    subst (IsWidened (Within set_holds) set_rank false (set_joined c.args.a.now c.args.b.now) c.args.a.now) (sym (joined_lists _ _ _ _ _ a b u)) (set_widens c.args.a.now c.args.b.now (subst IsKept a k))
