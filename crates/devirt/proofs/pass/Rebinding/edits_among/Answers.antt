use Rattle.std.proofs.Common.{◌≡◌, ◌<◌, ◌∙◌, ◌++◌, ℕ, Some, ap, arith, length, sym, take_all}
use Rattle.std.specs.Prelude.{slice_get}
use Rattle.std.proofs.lemmas.Option.{slice_get-get_or}
use Rattle.verify.specs.Flow.{places_of}
use Rattle.devirt.specs.Rebound.{edit_at, edits_from, rebound_at}
use Rattle.devirt.proofs.Recalled.{from_more}
use Rattle.devirt.proofs.pass.Rebinding.edits_among.Goals as goal

pub loop-place-preserved : goal.loop-place-preserved
loop-place-preserved c =
    let p = c.args.self.now.binder.finder.program.now in
    let facts = c.args.self.now.facts.now in
    let class = c.args.code.now.class in
    let method = c.args.code.now.method in
    let x = places_of c.args.code.now.typings.now.states.items in
    let is = c.args.insns.now in
    let n = c.loop-place.place in
    let i = c.index-insns-place.result in
    let l : n < length is = c.loop-place-test.true in
    let there : slice_get is n ≡ Some i = slice_get-get_or is n i l ∙ ap (λ y. Some y) (sym c.index-insns-place.is) in
    record {
      ready = λ r. c.add_rebound.ensures.ready (c.loop-place.invariant.ready r);
      calls = λ short b e.
          let q : c.word.result ≡ n = omega (arith, c.word.ensures, l, short) in
          c.in_ok-add_rebound.ensures.calls b (ap (λ ys. slice_get ys c.word.result) e ∙ (ap (slice_get is) q ∙ there)) (c.loop-place.invariant.calls short b e);
      are = λ short b r.
          let q : c.word.result ≡ n = omega (arith, c.word.ensures, l, short) in
          from_more p facts class method x is n i c.loop-place.edits.items c.add_rebound.new.edits.items l c.index-insns-place.is (c.loop-place.invariant.are short b r)
          (c.in_ok-add_rebound.ensures.is b (c.loop-place.invariant.ready r) ∙ ap (λ m. c.loop-place.edits.items ++ edit_at m (rebound_at p facts class method x m i)) q);
    }

pub returns-clause-calls : goal.returns-clause-calls
returns-clause-calls c = λ short b e. c.loop-place.invariant.calls short b e

pub returns-clause-is : goal.returns-clause-is
returns-clause-is c = λ short b r.
    c.loop-place.invariant.are short b r
    ∙ ap (edits_from c.args.self.now.binder.finder.program.now c.args.self.now.facts.now c.args.code.now.class c.args.code.now.method (places_of c.args.code.now.typings.now.states.items) 0)
    (take_all c.loop-place.place c.args.insns.now c.loop-place-test.false)
