use Rattle.std.proofs.Common.{◌≡◌, ◌∙◌, ℕ, ◌∷◌, ◌++◌, ap, sym, subst, length, false}
use Rattle.std.specs.Prelude.{slice_index_or}
use Rattle.class_defs.specs.Finding.{field_from, beside}
use Rattle.hierarchy.specs.Tables.{read_at, row_of}
use Rattle.hierarchy.specs.Walking.{waits, Visits}
use Rattle.hierarchy.proofs.Marks.{fair_same}
use Rattle.hierarchy.proofs.Deep.{fewer}
use Rattle.hierarchy.proofs.Resolving.{FieldGoing, field_begins, field_ends, field_on, field_hits}
use Rattle.hierarchy.proofs.resolve.field_from.Goals as goal

pub loop-one-init : goal.loop-one-init
loop-one-init c = record {
  fair = λ f. fair_same c.clear.new.self c.push.new.self c.in_ok-push.ensures.seen c.in_ok-push.ensures.list (c.clear.ensures.fair f);
  size = ap (λ v. length v.items) c.in_ok-push.ensures.seen ∙ c.clear.ensures.size;
  going = λ p name kind is k fair size.
      let clear = c.clear.ensures.clear fair in
      field_begins p c.args.tables.now is c.args.key name kind k c.push.new.self.seen.items (waits c.push.new.self) c.args.class (λ d e. clear.unseen d (sym (ap (λ v. slice_index_or v.items d false) c.in_ok-push.ensures.seen) ∙ e))
      (ap (λ v. length v.items) c.in_ok-push.ensures.seen ∙ clear.long ∙ size) (c.in_ok-push.ensures.waits ∙ ap (λ l. c.args.class ∷ l) clear.none);
}

pub loop-one-preserved : goal.loop-one-preserved
loop-one-preserved c = record {
  fair = λ f. c.in_ok-place.ensures.fair (fair_same c.loop-one.walk c.pop.new.self c.in-Some.ensures.seen c.in-Some.ensures.list (c.loop-one.invariant.fair f));
  size = c.in_ok-place.ensures.size ∙ ap (λ v. length v.items) c.in-Some.ensures.seen ∙ c.loop-one.invariant.size;
  going = λ p name kind is k fair size.
      let ups : c.row-list.result.now ++ beside c.super_of.result ≡ row_of c.args.tables.now.shape.lists.rows c.in-Some.one ++ beside (read_at c.args.tables.now.shape.supers.items c.in-Some.one) = ap (λ l. l ++ beside c.super_of.result) c.row-list.ensures ∙ ap (λ o. row_of c.args.tables.now.shape.lists.rows c.in-Some.one ++ beside o) c.super_of.ensures.table in
      let whole = field_from (length p.classes) p name kind c.args.class in
      let g : FieldGoing p is.ranked name kind c.pop.new.self.seen.items (waits c.loop-one.walk) whole = subst (λ v. FieldGoing p is.ranked name kind v.items (waits c.loop-one.walk) whole) (sym c.in-Some.ensures.seen) (c.loop-one.invariant.going p name kind is k fair size) in
      field_on p c.args.tables.now is c.args.key name kind k c.pop.new.self.seen.items c.visit.new.self.seen.items (waits c.loop-one.walk) (waits c.pop.new.self) (waits c.visit.new.self) (c.row-list.result.now ++ beside c.super_of.result) c.in-Some.one c.find-found.result c.in_ok-place.field-0 whole
      c.in-Some.ensures.waits c.find-found.ensures ups c.in-None.is c.in_ok-place.ensures.visits g;
}

pub returns-in-Some-2-clause-is : goal.returns-in-Some-2-clause-is
returns-in-Some-2-clause-is c = λ p name kind is k fair size.
    let whole = field_from (length p.classes) p name kind c.args.class in
    let g : FieldGoing p is.ranked name kind c.pop.new.self.seen.items (waits c.loop-one.walk) whole = subst (λ v. FieldGoing p is.ranked name kind v.items (waits c.loop-one.walk) whole) (sym c.in-Some.ensures.seen) (c.loop-one.invariant.going p name kind is k fair size) in
    field_hits p c.args.tables.now is c.args.key name kind k c.pop.new.self.seen.items c.visit.new.self.seen.items (waits c.loop-one.walk) (waits c.pop.new.self) (waits c.visit.new.self) (c.row-list.result.now ++ beside c.super_of.result) c.in-Some.one c.in-Some-2.place c.find-found.result c.in_ok-place.field-0 whole
    c.in-Some.ensures.waits c.find-found.ensures c.in-Some-2.is c.in_ok-place.ensures.visits g

pub returns-clause-is : goal.returns-clause-is
returns-clause-is c = λ p name kind is k fair size.
    field_ends p c.args.tables.now is c.args.key name kind k c.loop-one.walk.seen.items (waits c.loop-one.walk) (field_from (length p.classes) p name kind c.args.class) c.in_default.ensures.waits (c.loop-one.invariant.going p name kind is k fair size)

pub loop-one-smaller : goal.loop-one-smaller
loop-one-smaller c =
    let ups : c.row-list.result.now ++ beside c.super_of.result ≡ row_of c.args.tables.now.shape.lists.rows c.in-Some.one ++ beside (read_at c.args.tables.now.shape.supers.items c.in-Some.one) = ap (λ l. l ++ beside c.super_of.result) c.row-list.ensures ∙ ap (λ o. row_of c.args.tables.now.shape.lists.rows c.in-Some.one ++ beside o) c.super_of.ensures.table in
    let deg : ℕ → ℕ = λ x. length (row_of c.args.tables.now.shape.lists.rows x ++ beside (read_at c.args.tables.now.shape.supers.items x)) in
    fewer deg c.loop-one.walk.seen.items c.visit.new.self.seen.items (waits c.loop-one.walk) (waits c.pop.new.self) (waits c.visit.new.self) (c.row-list.result.now ++ beside c.super_of.result) c.in-Some.one c.find-found.result c.in_ok-place.field-0
    c.in-Some.ensures.waits (ap length ups) c.in-None.is (subst (λ v. Visits v.items (waits c.pop.new.self) c.in-Some.one c.find-found.result (c.row-list.result.now ++ beside c.super_of.result) c.visit.new.self.seen.items (waits c.visit.new.self) c.in_ok-place.field-0) c.in-Some.ensures.seen c.in_ok-place.ensures.visits)
