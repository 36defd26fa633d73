use Rattle.std.proofs.Common.{◌≡◌, ◌∙◌, ℕ, ap, subst, sym}
use Rattle.std.specs.Prelude.{◌&&◌, not}
use Rattle.std.specs.Vec.{with_items}
use Rattle.std.proofs.lemmas.List.{with_items_is}
use Rattle.loose_methods.specs.Asked.{AreCandidates}
use Rattle.loose_methods.specs.Loose.{calls_allow}
use Rattle.loose_methods.specs.Marking.{is_on}
use Rattle.loose_methods.specs.Mentioned.{is_mentioned}
use Rattle.loose_methods.specs.Sifting.{HasCandidates, Keeps}
use Rattle.loose_methods.proofs.Sieved.{candidates_left, sieved}
use Rattle.loose_methods.proofs.sieve.sieve.Goals as goal

pub returns : goal.returns
returns c = λ j.
    let p = c.args.judged.now.program.now in
    let o = c.args.outside.now in
    let facts = c.args.facts.now in
    let admitted = c.args.admitted.now.methods.items in
    let first = c.in_ok-loose.loose.items in
    let second = c.bar_mentioned.new.marks in
    let are : AreCandidates p o first = c.in_ok-loose.ensures j in
    let unnamed : (n : ℕ) → is_on second n ≡ (is_on first n && not (is_mentioned p n)) = λ n. (c.in_ok-bar_mentioned.ensures j).1 n ∙ ap (λ l. is_on l n && not (is_mentioned p n)) c.as_mut_slice.ensures.value in
    let left : (with_items c.in_ok-loose.loose second).items ≡ second = with_items_is c.in_ok-loose.loose second ((c.in_ok-bar_mentioned.ensures j).0 ∙ c.as_mut_slice.ensures.len) in
    let kept : Keeps (calls_allow p facts admitted) (with_items c.in_ok-loose.loose second).items c.in_ok-marks.marks.items =
    c.in_ok-marks.ensures o j (subst (HasCandidates p o) (sym left) (candidates_left p o first second are unnamed)) in
    sieved p j.formed j.resolved.of.once o facts admitted first second c.in_ok-marks.marks.items are unnamed (subst (λ l. Keeps (calls_allow p facts admitted) l c.in_ok-marks.marks.items) left kept)
