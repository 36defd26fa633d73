use Rattle.std.proofs.Common.{◌≡◌, ◌∙◌, ◌++◌, [], ℕ, refl, ap, sym, subst, length}
use Rattle.class_defs.specs.Finding.{first_among}
use Rattle.hierarchy.specs.Tables.{row_of}
use Rattle.hierarchy.specs.Walking.{waits, Visits, in_interfaces}
use Rattle.hierarchy.proofs.Deep.{fewer}
use Rattle.hierarchy.proofs.Marks.{fair_same}
use Rattle.hierarchy.proofs.Resolving.{MethodGoing, method_begins, method_ends, method_on, method_hits}
use Rattle.hierarchy.proofs.resolve.method_in_interfaces.Goals as goal

pub loop-one-init : goal.loop-one-init
loop-one-init c = record { fair = λ f. f; size = refl; going = λ p name proto is k spent. method_begins p c.args.tables.now is c.args.key name proto k c.args.walk.now.seen.items (waits c.args.walk.now) spent }

pub loop-one-preserved : goal.loop-one-preserved
loop-one-preserved c = record {
  fair = λ f. c.in_ok-place.ensures.fair (fair_same c.loop-one.walk c.pop.new.self c.in-Some.ensures.seen c.in-Some.ensures.list (c.loop-one.invariant.fair f));
  size = c.in_ok-place.ensures.size ∙ ap (λ v. length v.items) c.in-Some.ensures.seen ∙ c.loop-one.invariant.size;
  going = λ p name proto is k spent.
      let ups : c.row.result.now ++ [] ≡ row_of c.args.tables.now.shape.lists.rows c.in-Some.one ++ [] = ap (λ l. l ++ []) c.row.ensures in
      let whole = first_among (in_interfaces p name proto) (waits c.args.walk.now) in
      let g : MethodGoing p is.ranked name proto c.pop.new.self.seen.items (waits c.loop-one.walk) whole = subst (λ v. MethodGoing p is.ranked name proto v.items (waits c.loop-one.walk) whole) (sym c.in-Some.ensures.seen) (c.loop-one.invariant.going p name proto is k spent) in
      method_on p c.args.tables.now is c.args.key name proto k c.pop.new.self.seen.items c.visit.new.self.seen.items (waits c.loop-one.walk) (waits c.pop.new.self) (waits c.visit.new.self) (c.row.result.now ++ []) c.in-Some.one c.find-found.result c.in_ok-place.field-0 whole
      c.in-Some.ensures.waits c.find-found.ensures ups c.in-None.is c.in_ok-place.ensures.visits g;
}

pub returns-in-Some-2-clause-is : goal.returns-in-Some-2-clause-is
returns-in-Some-2-clause-is c = λ p name proto is k spent.
    let whole = first_among (in_interfaces p name proto) (waits c.args.walk.now) in
    let g : MethodGoing p is.ranked name proto c.pop.new.self.seen.items (waits c.loop-one.walk) whole = subst (λ v. MethodGoing p is.ranked name proto v.items (waits c.loop-one.walk) whole) (sym c.in-Some.ensures.seen) (c.loop-one.invariant.going p name proto is k spent) in
    method_hits p c.args.tables.now is c.args.key name proto k c.pop.new.self.seen.items c.visit.new.self.seen.items (waits c.loop-one.walk) (waits c.pop.new.self) (waits c.visit.new.self) (c.row.result.now ++ []) c.in-Some.one c.in-Some-2.place c.find-found.result c.in_ok-place.field-0 whole
    c.in-Some.ensures.waits c.find-found.ensures c.in-Some-2.is c.in_ok-place.ensures.visits g

pub returns-clause-is : goal.returns-clause-is
returns-clause-is c = λ p name proto is k spent. (method_ends p c.args.tables.now is c.args.key name proto k c.loop-one.walk.seen.items (waits c.loop-one.walk) (first_among (in_interfaces p name proto) (waits c.args.walk.now)) c.in_default.ensures.waits (c.loop-one.invariant.going p name proto is k spent)).0

pub loop-one-smaller : goal.loop-one-smaller
loop-one-smaller c =
    let ups : c.row.result.now ++ [] ≡ row_of c.args.tables.now.shape.lists.rows c.in-Some.one ++ [] = ap (λ l. l ++ []) c.row.ensures in
    let deg : ℕ → ℕ = λ x. length (row_of c.args.tables.now.shape.lists.rows x ++ []) in
    fewer deg c.loop-one.walk.seen.items c.visit.new.self.seen.items (waits c.loop-one.walk) (waits c.pop.new.self) (waits c.visit.new.self) (c.row.result.now ++ []) c.in-Some.one c.find-found.result c.in_ok-place.field-0
    c.in-Some.ensures.waits (ap length ups) c.in-None.is (subst (λ v. Visits v.items (waits c.pop.new.self) c.in-Some.one c.find-found.result (c.row.result.now ++ []) c.visit.new.self.seen.items (waits c.visit.new.self) c.in_ok-place.field-0) c.in-Some.ensures.seen c.in_ok-place.ensures.visits)

pub returns-clause-spent : goal.returns-clause-spent
returns-clause-spent c = λ p name proto is k spent none. (
  c.in_default.ensures.none,
  (method_ends p c.args.tables.now is c.args.key name proto k c.pop.new.self.seen.items (waits c.loop-one.walk) (first_among (in_interfaces p name proto) (waits c.args.walk.now)) c.in_default.ensures.waits
      (subst (λ v. MethodGoing p is.ranked name proto v.items (waits c.loop-one.walk) (first_among (in_interfaces p name proto) (waits c.args.walk.now))) (sym c.in_default.ensures.seen) (c.loop-one.invariant.going p name proto is k spent))).1,
)
