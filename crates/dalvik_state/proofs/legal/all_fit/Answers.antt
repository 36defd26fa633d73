use Rattle.std.proofs.Common.{arith, drop, eq-eqb, eqb-true, length, sym, true≢false, ◌+◌, ◌∙◌}
use Rattle.dalvik_state.proofs.Passing.{fit_begins, fit_from, fit_no, fit_on, fit_unlike, here, nothing_left}
use Rattle.dalvik_state.proofs.legal.all_fit.Goals as goal

pub returns-then-not-as_many-clause-is : goal.returns-then-not-as_many-clause-is
returns-then-not-as_many-clause-is c = λ o before gs r k gi taken fine.
    fit_unlike c.args.tables.now.lookups o c.args.world.now c.args.gifts.now before gs c.args.values.now c.args.kinds.now taken
    (λ e. true≢false (sym (eq-eqb (length c.args.values.now) (length c.args.kinds.now) e) ∙ sym c.if-not-as_many.ensures))

pub loop-place-init : goal.loop-place-init
loop-place-init c = record {
  kept = λ r k gi f. k;
  fits = λ o before gs r k gi t f. fit_begins c.args.tables.now.lookups o c.args.world.now c.args.gifts.now before gs c.args.values.now c.args.kinds.now t;
  long = eqb-true (length c.args.values.now) (length c.args.kinds.now) (sym c.if-not-as_many.ensures);
}

pub loop-place-preserved : goal.loop-place-preserved
loop-place-preserved c =
    let l = c.args.tables.now.lookups in
    let w = c.args.world.now in
    let all = c.args.gifts.now in
    let vs = c.args.values.now in
    let ks = c.args.kinds.now in
    let i = c.loop-place.place in
    record {
      kept = λ r k gi f. c.fits_in.ensures.kept r (c.loop-place.invariant.kept r k gi f) gi f;
      fits = λ o before gs r k gi t f.
          let x = here l o w all (fit_from l o w all before gs vs ks) vs ks i (omega arith) c.loop-place.invariant.long (c.loop-place.invariant.fits o before gs r k gi t f) in
          fit_on l o w all (fit_from l o w all before gs vs ks) x.value (drop (i + 1) vs) x.kind (drop (i + 1) ks) x.first
          (sym c.if-not-fit.false ∙ c.in_ok-fit.ensures.is o x.first.before x.first.what x.value x.kind r (c.loop-place.invariant.kept r k gi f) gi x.there x.first.one f x.typed);
      long = c.loop-place.invariant.long;
    }

pub returns-then-not-fit-clause-is : goal.returns-then-not-fit-clause-is
returns-then-not-fit-clause-is c = λ o before gs r k gi t f.
    let l = c.args.tables.now.lookups in
    let w = c.args.world.now in
    let all = c.args.gifts.now in
    let vs = c.args.values.now in
    let ks = c.args.kinds.now in
    let i = c.loop-place.place in
    let x = here l o w all (fit_from l o w all before gs vs ks) vs ks i (omega arith) c.loop-place.invariant.long (c.loop-place.invariant.fits o before gs r k gi t f) in
    fit_no l o w all (fit_from l o w all before gs vs ks) x.value (drop (i + 1) vs) x.kind (drop (i + 1) ks) x.first
    (sym c.if-not-fit.true ∙ c.in_ok-fit.ensures.is o x.first.before x.first.what x.value x.kind r (c.loop-place.invariant.kept r k gi f) gi x.there x.first.one f x.typed)

pub returns-clause-is : goal.returns-clause-is
returns-clause-is c = λ o before gs r k gi t f.
    let l = c.args.tables.now.lookups in
    nothing_left l o c.args.world.now c.args.gifts.now (fit_from l o c.args.world.now c.args.gifts.now before gs c.args.values.now c.args.kinds.now) c.args.values.now c.args.kinds.now c.loop-place.place (omega arith) c.loop-place.invariant.long
    (c.loop-place.invariant.fits o before gs r k gi t f)
