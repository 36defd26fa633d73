use Rattle.std.proofs.Common.{◌≡◌, ◌∙◌, ◌++◌, ℕ, None, refl, ap, sym, subst, length, false}
use Rattle.std.specs.Prelude.{slice_index_or}
use Rattle.class_defs.specs.Finding.{beside}
use Rattle.class_defs.specs.Places.{interface_places}
use Rattle.hierarchy.specs.Tables.{read_at, row_of}
use Rattle.hierarchy.specs.Walking.{waits, Visits}
use Rattle.hierarchy.proofs.Deep.{fewer}
use Rattle.hierarchy.proofs.Marks.{fair_same}
use Rattle.hierarchy.proofs.Lowest.{Seeing, ups_of, see_begins, see_on, see_ends, entered}
use Rattle.hierarchy.proofs.build.Hierarchy.see_waiting.Goals as goal

pub loop-one-init : goal.loop-one-init
loop-one-init c = record { fair = λ f. f; size = refl; going = λ p is fresh. see_begins p is.ranked c.args.walk.now.seen.items (waits c.args.walk.now) fresh.long fresh.unseen }

pub loop-one-preserved : goal.loop-one-preserved
loop-one-preserved c = record {
  fair = λ f. c.in_ok-open.ensures.fair (fair_same c.loop-one.walk c.pop.new.self c.in-Some.ensures.seen c.in-Some.ensures.list (c.loop-one.invariant.fair f));
  size = c.in_ok-open.ensures.size ∙ ap (λ v. length v.items) c.in-Some.ensures.seen ∙ c.loop-one.invariant.size;
  going = λ p is fresh.
      let start = waits c.args.walk.now in
      let ups : c.row.result.now ++ beside c.super_of.result ≡ ups_of p is.ranked c.in-Some.one =
      ap (λ l. l ++ beside c.super_of.result) (c.row.ensures ∙ is.lists c.in-Some.one) ∙ ap (λ o. interface_places p c.in-Some.one ++ beside o) (c.super_of.ensures.is p is) in
      let g : Seeing p is.ranked start c.pop.new.self.seen.items (waits c.loop-one.walk) = subst (λ v. Seeing p is.ranked start v.items (waits c.loop-one.walk)) (sym c.in-Some.ensures.seen) (c.loop-one.invariant.going p is fresh) in
      see_on p is.ranked start c.pop.new.self.seen.items c.open.new.self.seen.items (waits c.loop-one.walk) (waits c.pop.new.self) (waits c.open.new.self) (c.row.result.now ++ beside c.super_of.result) c.in-Some.one c.in_ok-open.field-0
      c.in-Some.ensures.waits ups c.in_ok-open.ensures.enters g;
}

pub loop-one-smaller : goal.loop-one-smaller
loop-one-smaller c =
    let deg : ℕ → ℕ = λ x. length (row_of c.args.self.now.shape.lists.rows x ++ beside (read_at c.args.self.now.shape.supers.items x)) in
    let ups : c.row.result.now ++ beside c.super_of.result ≡ row_of c.args.self.now.shape.lists.rows c.in-Some.one ++ beside (read_at c.args.self.now.shape.supers.items c.in-Some.one) =
    ap (λ l. l ++ beside c.super_of.result) c.row.ensures ∙ ap (λ o. row_of c.args.self.now.shape.lists.rows c.in-Some.one ++ beside o) c.super_of.ensures.table in
    fewer deg c.loop-one.walk.seen.items c.open.new.self.seen.items (waits c.loop-one.walk) (waits c.pop.new.self) (waits c.open.new.self) (c.row.result.now ++ beside c.super_of.result) c.in-Some.one None None c.in-Some.ensures.waits (ap length ups) refl
    (subst (λ v. Visits v.items (waits c.pop.new.self) c.in-Some.one None (c.row.result.now ++ beside c.super_of.result) c.open.new.self.seen.items (waits c.open.new.self) None) c.in-Some.ensures.seen
    (entered c.pop.new.self.seen.items (waits c.pop.new.self) c.in-Some.one (c.row.result.now ++ beside c.super_of.result) c.open.new.self.seen.items (waits c.open.new.self) c.in_ok-open.field-0 c.in_ok-open.ensures.enters))

pub returns-clause-is : goal.returns-clause-is
returns-clause-is c = λ p is fresh all d.
    ap (λ v. slice_index_or v.items d false) c.in_default.ensures.seen
    ∙ see_ends p is.ranked (waits c.args.walk.now) c.loop-one.walk.seen.items (waits c.loop-one.walk) c.in_default.ensures.waits all (c.loop-one.invariant.going p is fresh) d
