use Rattle.std.proofs.Common.{◌≡◌, ◌∙◌, ◌++◌, ℕ, List, ap, sym, subst, length, false, append-nil, None}
use Rattle.std.specs.Prelude.{slice_index_or}
use Rattle.class_defs.specs.Finding.{beside}
use Rattle.hierarchy.specs.Climbing.{ups}
use Rattle.hierarchy.specs.Tables.{read_at, row_of}
use Rattle.hierarchy.specs.Walking.{waits, Visits}
use Rattle.hierarchy.proofs.Marks.{fair_same}
use Rattle.hierarchy.proofs.Deep.{fewer}
use Rattle.hierarchy.proofs.Circles.{Seeking, seek_begins, seek_hits, seek_on, seek_ends, never, leads_circle, circle_leads}
use Rattle.hierarchy.proofs.cycle.leads_back.Goals as goal

pub loop-one-init : goal.loop-one-init
loop-one-init c = record {
  fair = λ f. fair_same c.clear.new.self c.push_above.new.self c.in_ok-push_above.ensures.seen c.in_ok-push_above.ensures.list (c.clear.ensures.fair f);
  size = ap (λ v. length v.items) c.in_ok-push_above.ensures.seen ∙ c.clear.ensures.size;
  seeking = λ fair size.
      let clear = c.clear.ensures.clear fair in
      let ups_are : c.row.result.now ++ beside c.read.result ≡ ups c.args.supers.now c.args.lists.now.rows c.args.class = ap (λ l. l ++ beside c.read.result) c.row.ensures ∙ ap (λ o. row_of c.args.lists.now.rows c.args.class ++ beside o) c.read.ensures in
      seek_begins (ups c.args.supers.now c.args.lists.now.rows) (length c.args.supers.now) c.args.class c.push_above.new.self.seen.items (waits c.push_above.new.self) (λ d e. clear.unseen d (sym (ap (λ v. slice_index_or v.items d false) c.in_ok-push_above.ensures.seen) ∙ e))
      (ap (λ v. length v.items) c.in_ok-push_above.ensures.seen ∙ clear.long ∙ size)
      (c.in_ok-push_above.ensures.waits ∙ ap (λ l. (c.row.result.now ++ beside c.read.result) ++ l) clear.none ∙ append-nil (c.row.result.now ++ beside c.read.result) ∙ ups_are);
}

pub returns-then-one-class-clause-is : goal.returns-then-one-class-clause-is
returns-then-one-class-clause-is c = λ short fair size.
    let up : ℕ → List ℕ = ups c.args.supers.now c.args.lists.now.rows in
    leads_circle c.args.supers.now c.args.lists.now.rows c.args.class
    (seek_hits up (length c.args.supers.now) c.args.class c.loop-one.walk.seen.items (waits c.loop-one.walk) (waits c.pop.new.self) c.in-Some.one c.in-Some.ensures.waits c.if-one-class.true short
    (c.loop-one.invariant.seeking fair size))

pub loop-one-preserved : goal.loop-one-preserved
loop-one-preserved c = record {
  fair = λ f. c.in_ok-visit.ensures.fair (fair_same c.loop-one.walk c.pop.new.self c.in-Some.ensures.seen c.in-Some.ensures.list (c.loop-one.invariant.fair f));
  size = c.in_ok-visit.ensures.size ∙ ap (λ v. length v.items) c.in-Some.ensures.seen ∙ c.loop-one.invariant.size;
  seeking = λ fair size.
      let up : ℕ → List ℕ = ups c.args.supers.now c.args.lists.now.rows in
      let ups_are : c.row-in-Some.result.now ++ beside c.read-in-Some.result ≡ up c.in-Some.one = ap (λ l. l ++ beside c.read-in-Some.result) c.row-in-Some.ensures ∙ ap (λ o. row_of c.args.lists.now.rows c.in-Some.one ++ beside o) c.read-in-Some.ensures in
      seek_on up (length c.args.supers.now) c.args.class c.pop.new.self.seen.items c.visit.new.self.seen.items (waits c.loop-one.walk) (waits c.pop.new.self) (waits c.visit.new.self) (c.row-in-Some.result.now ++ beside c.read-in-Some.result) c.in-Some.one c.in_ok-visit.field-0
      c.in-Some.ensures.waits ups_are c.if-one-class.false c.in_ok-visit.ensures.visits
      (subst (λ v. Seeking up (length c.args.supers.now) c.args.class v.items (waits c.loop-one.walk)) (sym c.in-Some.ensures.seen) (c.loop-one.invariant.seeking fair size));
}

pub loop-one-smaller : goal.loop-one-smaller
loop-one-smaller c =
    let ups_are : c.row-in-Some.result.now ++ beside c.read-in-Some.result ≡ row_of c.args.lists.now.rows c.in-Some.one ++ beside (read_at c.args.supers.now c.in-Some.one) = ap (λ l. l ++ beside c.read-in-Some.result) c.row-in-Some.ensures ∙ ap (λ o. row_of c.args.lists.now.rows c.in-Some.one ++ beside o) c.read-in-Some.ensures in
    let deg : ℕ → ℕ = λ x. length (row_of c.args.lists.now.rows x ++ beside (read_at c.args.supers.now x)) in
    fewer deg c.loop-one.walk.seen.items c.visit.new.self.seen.items (waits c.loop-one.walk) (waits c.pop.new.self) (waits c.visit.new.self) (c.row-in-Some.result.now ++ beside c.read-in-Some.result) c.in-Some.one None c.in_ok-visit.field-0
    c.in-Some.ensures.waits (ap length ups_are) (never c.pop.new.self.seen.items c.visit.new.self.seen.items (waits c.pop.new.self) (waits c.visit.new.self) (c.row-in-Some.result.now ++ beside c.read-in-Some.result) c.in-Some.one c.in_ok-visit.field-0 c.in_ok-visit.ensures.visits)
    (subst (λ v. Visits v.items (waits c.pop.new.self) c.in-Some.one None (c.row-in-Some.result.now ++ beside c.read-in-Some.result) c.visit.new.self.seen.items (waits c.visit.new.self) c.in_ok-visit.field-0) c.in-Some.ensures.seen c.in_ok-visit.ensures.visits)

pub returns-clause-is : goal.returns-clause-is
returns-clause-is c = λ short fair size circle.
    seek_ends (ups c.args.supers.now c.args.lists.now.rows) (length c.args.supers.now) c.args.class c.loop-one.walk.seen.items (waits c.loop-one.walk) c.in_default.ensures.waits (c.loop-one.invariant.seeking fair size)
    (circle_leads c.args.supers.now c.args.lists.now.rows c.args.class circle)
